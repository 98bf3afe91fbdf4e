-- What a vat holds came as the history tells, in every world of a run.
use Rattle.std.proofs.Common.{◌≡◌, ℕ, zero, suc, ◌+◌, ◌≤◌, List, [], ◌∷◌, ◌++◌, length, Some, refl, sym, ap, subst, inl, inr, arith}
use Rattle.std.specs.Prelude.{slice_get}
use Rattle.def_machine.specs.Values.{Value, Name}
use Rattle.def_machine.specs.State.{Message, Known, Passeds, Deliver, Sends, Vat}
use Rattle.def_run.specs.World as world
use Rattle.def_run.specs.World.{Script, Program, Entry, Event, Here, Carried, World, Run, Goes, Stopped}
use Rattle.law_fate.specs.Name.Names.{IsAmong, AllOf}
use Rattle.law_fate.proofs.Name.Among.{all_among}
use Rattle.law_fate.specs.Fates.Fate.{sent}
use Rattle.law_fate.specs.Fates.Carry.{carries, held_at, vat_weight, world_weight}
use Rattle.law_fate.specs.Fates.FateRuns.{Reached}
use Rattle.law_fate.proofs.Fates.RunFates.{begins_fated, goes_fated}
use Rattle.law_fate.proofs.Fates.RunAccount.{Fated, steps_fated, opens_fated}
use Rattle.law_fate.proofs.Fates.RunLight.{carries_and_weight}
use Rattle.law_uses.specs.Connectivity.Stems.{HasList, ComeAll, Stems, IsReaction}
use Rattle.law_uses.specs.Connectivity.MessageLaws.{AllStem}
use Rattle.law_uses.proofs.Connectivity.RunStems.{messages_stem}
use Rattle.law_uses.proofs.Uses.Sources.{among_one, total_get}
use Rattle.law_reference.proofs.Reference.Moves.{opens_end, steps_end}
use Rattle.law_order.specs.Ordering.Order.{Coming, plains, comes}
use Rattle.law_order.specs.Came.Came.{HeldMessagesCame}
use Rattle.law_order.proofs.Came.Adding.{open_adds, step_adds}
use Rattle.law_order.proofs.Came.Coming.{Brings, send_brings, carry_brings}
use Rattle.law_order.proofs.Came.Came.{Facts, ComesSo, kept}

goes_is : (x y : World) → Goes x ≡ Goes y → x ≡ y
goes_is x y e = cc

reached_goes : (P : World → Type 0) (r : Run) (w : World) → r ≡ Goes w → Reached P r → P w
reached_goes P (Goes y) w e h = subst P (goes_is y w e) h
reached_goes P (Stopped c k y) w e h = cc

-- ---- facts of worlds

module _ (x : Name) (script : Script) where
  opened_facts : (ps : List Program) (w : World) → world.open_from script zero ps (world.begins script) ≡ Goes w → Facts x w
  opened_facts ps w e =
      let bound = reached_goes (λ z. (carries x z.history + world_weight x z ≤ sent x z.history + sent x z.history) × (sent x z.history ≤ 1)) (world.open_from script zero ps (world.begins script)) w e ((carries_and_weight x script).0 ps) in
      let fated : Fated x w = goes_fated x script (world.open_from script zero ps (world.begins script)) w e (opens_fated x script zero ps (world.begins script) (begins_fated x script)) in
      record { bound = bound.0; once = bound.1; apart = fated.apart; stems = reached_goes AllStem (world.open_from script zero ps (world.begins script)) w e ((messages_stem script).0 ps) }

  stepped_facts : (w y : World) (es : List Entry) (k : ℕ) → world.open_from script zero script.vats (world.begins script) ≡ Goes w → world.steps_from script es k w ≡ Goes y → Facts x y
  stepped_facts w y es k o e =
      let bound = reached_goes (λ z. (carries x z.history + world_weight x z ≤ sent x z.history + sent x z.history) × (sent x z.history ≤ 1)) (world.steps_from script es k w) y e ((carries_and_weight x script).1 w es k o) in
      let begun : Fated x w = goes_fated x script (world.open_from script zero script.vats (world.begins script)) w o (opens_fated x script zero script.vats (world.begins script) (begins_fated x script)) in
      let fated : Fated x y = goes_fated x script (world.steps_from script es k w) y e (steps_fated x script es k w begun) in
      record { bound = bound.0; once = bound.1; apart = fated.apart; stems = reached_goes AllStem (world.steps_from script es k w) y e ((messages_stem script).1 w es k o) }

  -- ---- from the start on

  then_holds : (r : Run) (f : World → Run) (y : World) → ((z : World) → r ≡ Goes z → f z ≡ Goes y → ComesSo x y) → world.then_goes r f ≡ Goes y → ComesSo x y
  unfolding world.then_goes
  then_holds (Goes z) f y h e = h z refl e
  then_holds (Stopped c n z) f y h e = cc

  begins_so : ComesSo x (world.begins script)
  unfolding world.begins
  begins_so few v e ys i b = absurd i

  length_end : {A : Type 0} (xs : List A) (y : A) → length (xs ++ y ∷ []) ≡ suc (length xs)
  length_end [] y = refl
  length_end (z ∷ xs) y = ap suc (length_end xs y)

  opens_so : (ds ps : List Program) (w y : World) → world.open_from script zero ds (world.begins script) ≡ Goes w → ComesSo x w → world.open_from script (length ds) ps w ≡ Goes y → ComesSo x y
  unfolding world.open_from
  opens_so ds [] w y d h e = subst (ComesSo x) (goes_is w y e) h
  opens_so ds (p ∷ ps) w y d h e = then_holds (world.open_vat script (length ds) p w) (world.open_from script (suc (length ds)) ps) y
      (λ z i j. let n : 0 + length ds ≡ length ds = omega arith in
      let done : world.open_from script zero (ds ++ p ∷ []) (world.begins script) ≡ Goes z = opens_end script ds p zero (world.begins script) w z d (subst (λ k. world.open_vat script k p w ≡ Goes z) (sym n) i) in
      opens_so (ds ++ p ∷ []) ps z y done (kept x w z (open_adds script (length ds) p w z i) (opened_facts ds w d) (opened_facts (ds ++ p ∷ []) z done) h) (subst (λ k. world.open_from script k ps z ≡ Goes y) (sym (length_end ds p)) j)) e

  opened_so : (ps : List Program) (w : World) → world.open_from script zero ps (world.begins script) ≡ Goes w → ComesSo x w
  unfolding world.open_from
  opened_so ps w e = opens_so [] ps (world.begins script) w refl begins_so e

  steps_so : (w0 : World) (k0 : ℕ) → world.open_from script zero script.vats (world.begins script) ≡ Goes w0 → (ds es : List Entry) (k : ℕ) (w y : World) → k ≡ k0 + length ds → world.steps_from script ds k0 w0 ≡ Goes w → ComesSo x w → world.steps_from script es k w ≡ Goes y → ComesSo x y
  unfolding world.steps_from
  steps_so w0 k0 o ds [] k w y n d h e = subst (ComesSo x) (goes_is w y e) h
  steps_so w0 k0 o ds (c ∷ es) k w y n d h e = then_holds (world.step script c k w) (world.steps_from script es (suc k)) y
      (λ z i j. let done : world.steps_from script (ds ++ c ∷ []) k0 w0 ≡ Goes z = steps_end script ds c k0 w0 w z d (subst (λ l. world.step script c l w ≡ Goes z) n i) in
      let l = length_end ds c in
      steps_so w0 k0 o (ds ++ c ∷ []) es (suc k) z y (omega arith) done (kept x w z (step_adds script k w z c i) (stepped_facts w0 w ds k0 o d) (stepped_facts w0 z (ds ++ c ∷ []) k0 o done) h) j) e

  stepped_so : (w y : World) (es : List Entry) (k : ℕ) → world.open_from script zero script.vats (world.begins script) ≡ Goes w → world.steps_from script es k w ≡ Goes y → ComesSo x y
  unfolding world.steps_from
  stepped_so w y es k o e = steps_so w k o [] es k w y (omega arith) refl (opened_so script.vats w o) e

-- ---- what is held

held_weighs : (k : Known Name) (m : Message Name) (ks : List (Known Name)) → IsAmong k ks → IsAmong m k.held → 1 ≤ held_at m.id ks
unfolding held_at
held_weighs k m [] i j = absurd i
held_weighs k m (l ∷ ks) (inl e) j = let h = among_one m l.held (subst (λ (z : Known Name). IsAmong m z.held) e j) in omega arith
held_weighs k m (l ∷ ks) (inr i) j = let h = held_weighs k m ks i j in omega arith

come_plain : (w : World) (v : ℕ) (xs : List (Value Name)) → ComeAll (HasList w v) (plains xs) xs
unfolding plains
come_plain w v [] = tt
come_plain w v (y ∷ xs) = (refl, come_plain w v xs)

module _ (w : World) (v : ℕ) (s : Vat Name) (there : slice_get w.vats v ≡ Some s) (k : Known Name) (i : IsAmong k s.known) (m : Message Name) (j : IsAmong m k.held) (facts : Facts m.id w) (so : ComesSo m.id w) where
  few : carries m.id w.history ≤ 1
  unfolding world_weight vat_weight
  few = let a = facts.bound in let b = facts.once in let c = held_weighs k m s.known i j in let d = total_get (λ (t : Vat Name). held_at m.id t.known) w.vats v s there in omega arith

  abbrev Came : Type 0
  Came = (c : Coming) × (comes v m.id zero w.history ≡ Some c) × ComeAll (HasList w v) c.args m.args

  as_told : (ys : Passeds Name) → (c : Coming) × (comes v m.id zero w.history ≡ Some c) × (c.args ≡ ys) → ComeAll (HasList w v) ys m.args → Came
  as_told ys (c, came, same) h = (c, came, subst (λ zs. ComeAll (HasList w v) zs m.args) (sym same) h)

  by_stem : Stems w v m → Came
  by_stem (Stems.sent a z line leads) = as_told (plains m.args) (so few v (Here v (Sends a (record m { target = z }))) (plains m.args) line (send_brings v a (record m { target = z }))) (come_plain w v m.args)
  by_stem (Stems.carried u n z ys (e, d, bytes, id, line) stem named verbs leads leads2 passes come) =
      as_told ys (so few v (Carried e u v (Deliver d z m.verb ys) bytes) ys line (subst (λ o. Brings v o (Carried e u v (Deliver d z m.verb ys) bytes) ys) id (carry_brings v e u d z m.verb bytes ys))) come

  held_came : AllStem w → Came
  held_came stems = by_stem (all_among (Stems w v) k.held m (all_among (λ (l : Known Name). AllOf (Stems w v) l.held × AllOf (IsReaction w v) l.reactions) s.known k (stems.names v s there) i).0 j)

pub held_messages_came : HeldMessagesCame
held_messages_came script = (
  λ ps w e v s there k i m j. let facts = opened_facts m.id script ps w e in held_came w v s there k i m j facts (opened_so m.id script ps w e) facts.stems,
  λ w x es n o e v s there k i m j. let facts = stepped_facts m.id script w x es n o e in held_came x v s there k i m j facts (stepped_so m.id script w x es n o e) facts.stems,
)
