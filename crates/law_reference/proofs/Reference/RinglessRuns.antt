-- In each vat of a run that knows no name twice chains of waits and views end.
use Rattle.std.proofs.Common.{◌≡◌, ℕ, zero, suc, Bool, true, false, List, [], ◌∷◌, ◌++◌, Option, Some, None, refl, sym, ◌∙◌, map, append-nil}
use Rattle.std.specs.Prelude.{slice_get}
use Rattle.def_machine.specs.Values.{Name, Root, naming}
use Rattle.def_machine.specs.State.{Note, Deliver, Unsettled, Known, Vat, Done, begun}
use Rattle.def_machine.specs.Refs.{entry_of, standing_of, standing_in}
use Rattle.def_run.specs.Draws.{draw_word}
use Rattle.def_run.specs.World as world
use Rattle.def_run.specs.World.{Script, Program, Entry, World, Goes, names, names_of, readied}
use Rattle.law_fate.specs.Name.Names.{IsMade, NoteOk, names_in, Once}
use Rattle.law_fate.proofs.Name.Facts.{all_map}
use Rattle.law_fate.proofs.Name.Run.{Stands, opened_stands}
use Rattle.law_reference.proofs.Reference.Gentle.{AfterGives, gives_map}
use Rattle.law_reference.proofs.Reference.OwnKeeps.{Whole}
use Rattle.law_reference.proofs.Reference.OwnRuns.{Each, message_named, begins_own}
use Rattle.law_reference.proofs.Reference.RunLift.{StepsKeep, InVats, steps_keep, opens_keep, all_allowed}
use Rattle.law_reference.proofs.Reference.ViewsRuns.{new_gifts}
use Rattle.law_reference.specs.Reference.Waits.{WaitsEnd, WaitsEndInRuns}
use Rattle.law_reference.proofs.Reference.Calm.{next}
use Rattle.law_reference.proofs.Reference.Chains.{ends_within}
use Rattle.law_reference.proofs.Reference.Owned.{Owned}
use Rattle.law_reference.proofs.Reference.WaitRings.{AllLoose, loose_ends}
use Rattle.law_reference.proofs.Reference.WaitRingless.{NoneOnItself, once_grows}
use Rattle.law_reference.proofs.Reference.RinglessSteps.{NamesMail, is, By, On, ring_taking, ring_opening, ring_notice, ring_arrive}

-- what is delivered is named as a message
names_mail : (word : ℕ → ℕ) (v : ℕ) (vats : List (Vat Name)) (d : List ℕ) (n : Note Name) → NoteOk (IsMade vats d) n → NamesMail n
names_mail word v vats d (Deliver e n verb ys) h = message_named vats e.message h.0
names_mail word v vats d other h = tt

module _ (script : Script) where
  abbrev word : ℕ → ℕ
  word = draw_word script.key

  abbrev Ringless : ℕ → Vat Name → Type 0
  Ringless v s = Owned v s × (Once (names_in s.known) → AllLoose (naming word v) (is word v) s.known × NoneOnItself (naming word v) (is word v) s.known)

  -- each notice is allowed
  abbrev Any : ℕ → ℕ → Type 0
  Any v to = Unit {0}

  after_ring : (v : ℕ) (s : Vat Name) (d : Done Name (Unit {0})) → Ringless v s → AfterGives (By word v s) d → AfterGives (Ringless v) d
  after_ring v s d h = gives_map (By word v s) (Ringless v) d (λ t r. let next : Owned v t × On word v s.known t.known = r h.0 in let back : Once (names_in t.known) → Once (names_in s.known) = once_grows (naming word v) (is word v) s.known t.known next.1.0 in
      (next.0, λ o. let all = h.1 (back o) in (next.1.1 o all.0, next.1.2 o all.1)))

  rings_keep : StepsKeep script Ringless Any
  unfolding names world.names_of readied
  rings_keep = record {
    turn = λ w v s m ms g i q h. after_ring v s _ h (ring_taking word v (world.tree_at script.vats v) script.depth m (readied w (record s { queue = ms })));
    note = λ w from v s n g i ok h. after_ring v s _ h (ring_arrive word v from (names_in s.known) n (readied w s) refl (names_mail word v w.vats w.drawn n ok) (new_gifts script w v s g i).gifts);
    notice = λ w v to s g i ok h. after_ring v s _ h (ring_notice word v to (readied w s));
    opening = λ w v p s g i h. after_ring v s _ h (ring_opening word v p.tree script.depth (Root v) (world.given script.vats p.knows) (readied w s));
  }

  -- ---- the start

  begun_next : (b : Bool) (k : Known Name) (o : Option (Known Name)) (q : Name) → k.standing ≡ Unsettled → (next (standing_in o) ≡ Some q → ⊥) → next (standing_in (elim b [ true ↦ Some k | false ↦ o ])) ≡ Some q → ⊥
  unfolding standing_in next
  begun_next true k o q u f e = let none : next k.standing ≡ None = rw u refl in let both : None ≡ Some q = sym none ∙ e in cc
  begun_next false k o q u f e = f e

  none_next : (q : Name) → next (standing_in None) ≡ Some q → ⊥
  unfolding standing_in next
  none_next q e = cc

  root_unsettled : (u : ℕ) → (world.known_root u).standing ≡ Unsettled
  unfolding world.known_root begun
  root_unsettled u = refl

  no_next : (v : ℕ) (us : List ℕ) (n q : Name) → next (standing_of (names script v) (map world.known_root us) n) ≡ Some q → ⊥
  unfolding standing_of entry_of
  no_next v [] n q e = none_next q e
  no_next v (u ∷ us) n q e = begun_next ((names script v).same (world.known_root u).name n) (world.known_root u) (entry_of (names script v) (map world.known_root us) n) q (root_unsettled u) (no_next v us n q) e

  fresh_next : (v u : ℕ) (p : Program) (n q : Name) → next (standing_of (names script v) (world.fresh script u p).known n) ≡ Some q → ⊥
  unfolding standing_of entry_of world.fresh
  fresh_next v u p n q e = begun_next ((names script v).same (world.known_root u).name n) (record (world.known_root u) { told = world.knowers u zero script.vats }) (entry_of (names script v) (map world.known_root p.knows) n) q (root_unsettled u) (no_next v p.knows n q) e

  some_same : (a b : Vat Name) → Some a ≡ Some b → a ≡ b
  some_same a b e = cc

  fresh_has_none : (u : ℕ) (ps : List Program) (v n : ℕ) (s : Vat Name) → slice_get (world.fresh_from script u ps) n ≡ Some s → (m q : Name) → next (standing_of (names script v) s.known m) ≡ Some q → ⊥
  unfolding world.fresh_from names
  fresh_has_none u [] v n s e m q i = cc
  fresh_has_none u (p ∷ ps) v zero s e m q i = fresh_next v u p m q (rw (sym (some_same (world.fresh script u p) s e)) at i)
  fresh_has_none u (p ∷ ps) v (suc n) s e m q i = fresh_has_none (suc u) ps v n s e m q i

  owned_whole : (v : ℕ) (s : Vat Name) → Whole word v Each s → Owned v s
  owned_whole v s h = (h.0, all_map (λ k i. i.1) s.known h.2)

  begins_ringless : InVats script Ringless Any (world.begins script)
  unfolding world.begins names
  begins_ringless v s e = (owned_whole v s (begins_own script v s e), λ o. ((λ m. (zero, λ q i. absurd (fresh_has_none zero script.vats v v s e m q i))), λ m i. fresh_has_none zero script.vats v v s e m m i))

  -- ---- the worlds of a run

  module _ (once : (v : ℕ) (p : Program) → slice_get script.vats v ≡ Some p → Once (v ∷ p.knows)) where
    begins_stand : Stands script (world.begins script)
    unfolding world.open_from
    begins_stand = opened_stands script once [] script.vats (world.begins script) refl refl

    opened_ringless : (ps rest : List Program) (w : World) → script.vats ≡ ps ++ rest → world.open_from script zero ps (world.begins script) ≡ Goes w → InVats script Ringless Any w
    opened_ringless ps rest w e i = opens_keep script Ringless Any rings_keep [] ps rest (world.begins script) w e begins_stand begins_ringless i

    stepped_ringless : (w x : World) (es : List Entry) (k : ℕ) → world.open_from script zero script.vats (world.begins script) ≡ Goes w → world.steps_from script es k w ≡ Goes x → InVats script Ringless Any x
    stepped_ringless w x es k e i = steps_keep script Ringless Any rings_keep es k w x (opened_stands script once script.vats [] w (sym (append-nil script.vats)) e) (all_allowed Any (λ v to. tt) es) (opened_ringless script.vats [] w (sym (append-nil script.vats)) e) i

  ends : (v : ℕ) (s : Vat Name) → Ringless v s → Once (names_in s.known) → WaitsEnd (names script v) s.known
  unfolding names
  ends v s h o n = let all = h.1 o in let at = all.0 n in ends_within (naming word v) (is word v) s.known at.0 n (loose_ends (naming word v) (is word v) s.known all.1 at.0 n at.1)

pub waits_end_in_runs : WaitsEndInRuns
waits_end_in_runs script once = (
  λ ps rest w e i v s j. ends script v s (opened_ringless script once ps rest w e i v s j),
  λ w x es k e i v s j. ends script v s (stepped_ringless script once w x es k e i v s j),
)
