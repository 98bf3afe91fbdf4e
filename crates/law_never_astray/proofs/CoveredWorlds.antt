-- In every world of a run of accepted programs the objects of each vat carry their captures.
use Rattle.std.proofs.Common.{◌≡◌, ℕ, zero, suc, List, [], ◌∷◌, Option, Some, None, sym, ap, subst, ◌∙◌, length, arith}
use Rattle.std.specs.Prelude.{slice_get}
use Rattle.def_machine.specs.Values.{Words, Value, Name, Naming}
use Rattle.def_machine.specs.State.{Binding, Message, Vat, Gives, Act}
use Rattle.def_machine.specs.Eval as eval
use Rattle.def_kernel.specs.declared.node.Node.{Node}
use Rattle.law_machine.specs.Machine.Steps.{Step, Opens as Starts, Takes, Receives, Notices, does}
use Rattle.def_run.specs.World as world
use Rattle.def_run.specs.World.{Script, Program, World, Goes, CutLink, names, tree_at, readied, put_at}
use Rattle.law_machine.specs.Run.Moves.{Moved, Still, Severs, Drops, Steps, Arrives, Hears, Tells, Does, Nobody, AnyNotice, IsReached, went}
use Rattle.law_machine.proofs.Run.Honest.{honest_reached, lifted}
use Rattle.law_machine.proofs.Run.Told.{moves_told}
use Rattle.def_kernel.specs.Trees.{IsTree}
use Rattle.ev_reader.specs.Scopes.{first_fault}
use Rattle.law_never_astray.specs.Covered.{Carries}
use Rattle.law_never_astray.specs.CoveredLaws.{AreGiven, EndsCarrying}
use Rattle.law_never_astray.specs.CoveredRuns.{IsAccepted, AllCarry, AllCarryInRuns}
use Rattle.law_never_astray.proofs.Leads.{Leads, Nothing, lead_next, lead_then, lead_some, lead_give, lead_ends, lead_stop, lead_tell, lead_activation}
use Rattle.law_never_astray.proofs.Settled.{lead_arrive, lead_notice}
use Rattle.law_never_astray.proofs.CoveredLaws.{Whatever, ends_carrying, refs, program_leads, turn_leads}

-- ---- steps

module _ {N W : Type 0} (K : Naming N W) (tree : List Node) where
  lead_closes : (act : ℕ) (o : Option N) {m : Act N (Value N)} → Leads tree Whatever zero Nothing m → Leads tree Whatever zero Nothing (eval.closes K tree act o m)
  unfolding eval.closes
  lead_closes act o h = let r = refs K tree in lead_ends tree Whatever
      (λ v. lead_then tree Whatever (lead_tell tree Whatever _) (lead_some tree Whatever o (λ p. r.resolves zero p v) (lead_give tree Whatever tt)))
      (λ t. lead_then tree Whatever (lead_tell tree Whatever _) (lead_some tree Whatever o (λ p. r.breaks zero p t) (lead_give tree Whatever tt)))
      (λ n v. lead_stop tree Whatever _ (λ s. tt)) h

  opening_leads : (words : List Words) → IsTree tree → first_fault tree words ≡ None → (depth : ℕ) (p : N) (nouns : List (Binding N)) → AreGiven nouns words → Leads tree Whatever zero Nothing (eval.opening K tree depth p nouns)
  unfolding eval.opening
  opening_leads words t f depth p nouns g = lead_next tree Whatever (lead_activation tree Whatever) (λ a. lead_closes a (Some p) (lead_next tree Whatever (program_leads K tree words t f nouns g depth a) (λ x. lead_give tree Whatever x.value)))

  taking_leads : (depth : ℕ) (m : Message N) → Leads tree Whatever zero Nothing (eval.taking K tree depth m)
  unfolding eval.taking
  taking_leads depth m = lead_next tree Whatever (lead_activation tree Whatever) (λ a. lead_then tree Whatever (lead_tell tree Whatever _) (lead_closes a m.answer (turn_leads K tree depth a m.target m.verb m.args)))

  -- what it gives
  given_carries : {m : Act N (Unit {0})} → Leads tree Whatever zero Nothing m → (s t : Vat N) → Carries tree s → m s ≡ Gives tt t → Carries tree t
  given_carries h s t c e = subst (EndsCarrying tree) e (ends_carrying tree (length s.slots) Nothing _ (h.after s (omega arith, c)))

-- ---- worlds

same_some : (x y : Vat Name) → Some x ≡ Some y → x ≡ y
same_some x y e = cc

put_holds : (P : ℕ → Vat Name → Type 0) (v : ℕ) (t : Vat Name) (xs : List (Vat Name)) → P v t → ((u : ℕ) (s : Vat Name) → slice_get xs u ≡ Some s → P u s) → (u : ℕ) (s : Vat Name) → slice_get (put_at v t xs) u ≡ Some s → P u s
unfolding put_at
put_holds P v t [] h all u s e = all u s e
put_holds P zero t (x ∷ xs) h all zero s e = subst (P zero) (same_some t s e) h
put_holds P zero t (x ∷ xs) h all (suc u) s e = all (suc u) s e
put_holds P (suc v) t (x ∷ xs) h all zero s e = all zero s e
put_holds P (suc v) t (x ∷ xs) h all (suc u) s e = put_holds (λ n. P (suc n)) v t xs h (λ n z f. all (suc n) z f) u s e

tree_is : (ps : List Program) (v : ℕ) (p : Program) → slice_get ps v ≡ Some p → p.tree ≡ tree_at ps v
unfolding tree_at
tree_is ps v p e = go (slice_get ps v) e
  where
    go : (o : Option Program) → o ≡ Some p → p.tree ≡ elim o as (λ _. List Node) [ Some x ↦ x.tree | None ↦ [] ]
    go (Some x) i = let same : p ≡ x = cc in ap (λ (y : Program). y.tree) same
    go None i = cc

fresh_carries : (script : Script) (v : ℕ) (ps : List Program) (u : ℕ) (s : Vat Name) → slice_get (world.fresh_from script v ps) u ≡ Some s → (tree : List Node) → Carries tree s
unfolding world.fresh_from world.fresh
fresh_carries script v [] u s e tree = cc
fresh_carries script v (p ∷ ps) zero s e tree = subst (Carries tree) (same_some (world.fresh script v p) s e) tt
fresh_carries script v (p ∷ ps) (suc u) s e tree = fresh_carries script (suc v) ps u s e tree

module _ (script : Script) (accepted : IsAccepted script) where
  abbrev M : World → World → Type 0
  M w y = Moved script w Nobody AnyNotice (λ w v s d. ⊥) (λ w v u s n. ⊥) y

  same_vats : (w y : World) → y.vats ≡ w.vats → AllCarry script w → AllCarry script y
  same_vats w y e h v s i = h v s (sym (ap (λ (xs : List (Vat Name)). slice_get xs v) e) ∙ i)

  went_carries : (v : ℕ) (w : World) (head : List world.Event) (t : Vat Name) → Carries (tree_at script.vats v) t → AllCarry script w → AllCarry script (went v w head t)
  unfolding went
  went_carries v w head t c h u s e = put_holds (λ n. Carries (tree_at script.vats n)) v t w.vats c h u s e

  -- a step of vat v
  step_carries : (w : World) (v : ℕ) (s q t : Vat Name) (what : Step Name Name) → Carries (tree_at script.vats v) s → Does script w v s q t what → Carries (tree_at script.vats v) t
  unfolding does readied
  step_carries w v s q t (Starts tree depth root nouns) c d = let b = d.begins in let p : Program = b.0 in let at = tree_is script.vats v p b.1 in let ok = accepted v p b.1 in
      let here : Carries p.tree s = subst (λ z. Carries z s) (sym at) c in
      let leads : Leads p.tree Whatever zero Nothing (eval.opening (names script v) p.tree depth root nouns) = opening_leads (names script v) p.tree ok.1.0 ok.0 ok.1.1 depth root nouns (subst (λ ns. AreGiven ns ok.1.0) (sym b.6) ok.1.2) in
      let gives : eval.opening (names script v) p.tree depth root nouns (readied w q) ≡ Gives tt t = subst (λ z. eval.opening (names script v) z depth root nouns (readied w q) ≡ Gives tt t) b.3 d.gives in
      subst (λ z. Carries z t) at (given_carries (names script v) p.tree leads (readied w q) t (subst (Carries p.tree) (sym b.2) here) gives)
  step_carries w v s q t (Takes tree depth m) c d = let b = d.begins in
      let gives : eval.taking (names script v) (tree_at script.vats v) depth m (readied w q) ≡ Gives tt t = subst (λ z. eval.taking (names script v) z depth m (readied w q) ≡ Gives tt t) b.3 d.gives in
      given_carries (names script v) (tree_at script.vats v) (taking_leads (names script v) (tree_at script.vats v) depth m) (readied w q) t (subst (Carries (tree_at script.vats v)) (sym b.2) c) gives
  step_carries w v s q t (Receives from n) c d = given_carries (names script v) (tree_at script.vats v) (lead_arrive (names script v) (tree_at script.vats v) Whatever (λ e u. tt) from n) (readied w q) t (subst (Carries (tree_at script.vats v)) (sym d.begins) c) d.gives
  step_carries w v s q t (Notices u) c d = given_carries (names script v) (tree_at script.vats v) (lead_notice (names script v) (tree_at script.vats v) Whatever (λ e r. tt) u) (readied w q) t (subst (Carries (tree_at script.vats v)) (sym d.begins) c) d.gives

  going_vats : (w y : World) → Goes w ≡ Goes y → y.vats ≡ w.vats
  going_vats w y e = let same : y ≡ w = cc in ap (λ (z : World). z.vats) same

  severed_carries : (k a b : ℕ) (w y : World) → AllCarry script w → world.step script (CutLink a b) k w ≡ Goes y → AllCarry script y
  unfolding world.step world.cut
  severed_carries k a b w y h e = same_vats w y (going_vats _ y e) h

  moved_carries : (w y : World) → AllCarry script w → M w y → AllCarry script y
  moved_carries w y h (Still es e) = same_vats w y (ap (λ (z : World). z.vats) e) h
  moved_carries w y h (Severs k a b e) = severed_carries k a b w y h e
  moved_carries w y h (Drops a v n ns l es at nocut notes gone e) = same_vats w y (ap (λ (z : World). z.vats) e) h
  moved_carries w y h (Steps v s q t what head honest alone may quiet d e) = subst (AllCarry script) (sym e) (went_carries v w head t (step_carries w v s q t what (h v s d.there) d) h)
  moved_carries w y h (Arrives a v s t n ns l k frame honest at nocut notes d e) = subst (AllCarry script) (sym e) (went_carries v (record w { links = world.with_link (world.with_notes ns) a v w.links }) _ t (step_carries w v s s t _ (h v s d.there) d) h)
  moved_carries w y h (Hears a v s t n ns l k frame hostile at nocut notes there hears e) = absurd hostile
  moved_carries w y h (Tells v u s t r ds n hostile there performs lawful puts e) = absurd hostile

  begins_carry : AllCarry script (world.begins script)
  unfolding world.begins
  begins_carry v s e = fresh_carries script zero script.vats v s e (tree_at script.vats v)

  reached_carry : (y : World) → IsReached script y → AllCarry script y
  reached_carry y r = lifted script Nobody AnyNotice (λ w v s d. ⊥) (λ w v u s n. ⊥) (AllCarry script) begins_carry (λ w x k h m. moved_carries w x h (moves_told script Nobody AnyNotice (λ w v s d. ⊥) (λ w v u s n. ⊥) w x m)) y r

pub all_carry_in_runs : AllCarryInRuns
all_carry_in_runs script accepted = let r = honest_reached script in (λ ps rest w e i. reached_carry script accepted w (r.0 ps rest w e i), λ w x es k e i. reached_carry script accepted x (r.1 w x es k e i))
