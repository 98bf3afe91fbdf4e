-- What holds of each message in each world of a run, and of a step of a vat there, as counts.
use Rattle.std.proofs.Common.{◌≡◌, ℕ, zero, suc, ◌+◌, ◌≤◌, ◌<◌, Bool, true, false, List, [], ◌∷◌, Some, refl, sym, ap, ◌∙◌, ◌⊎◌, inl, inr, arith, ◌==◌}
use Rattle.std.specs.Prelude.{slice_get, nat_le}
use Rattle.std.proofs.lemmas.Bool.{eqb-true, eq-eqb}
use Rattle.def_machine.specs.Values.{Name, Answer, Sent, Msg}
use Rattle.def_machine.specs.State.{Put, Vat, Done, Gives}
use Rattle.law_machine.specs.Machine.Steps.{Step}
use Rattle.def_run.specs.Draws.{draw_word}
use Rattle.def_run.specs.World as world
use Rattle.def_run.specs.World.{Script, Program, Entry, World, Run, Goes as Going, Stopped, names, readied}
use Rattle.law_fate.specs.Fates.Fate.{once as same_once, total, at_vat, of_note, on_link, places, sent_in, put_out, gone, account, where_cut}
use Rattle.law_fate.specs.Fates.FateLaws.{numbered as fate_numbered, brought as fate_brought, Accounted}
use Rattle.law_fate.specs.Fates.Lasting.{StepComes}
use Rattle.law_fate.specs.Fates.FateRuns.{Reached}
use Rattle.law_fate.specs.Fates.Wellness.{WorldWell}
use Rattle.law_fate.proofs.Fates.RunAccount.{Fated, steps_fated, opens_fated}
use Rattle.law_fate.proofs.Fates.RunFates.{begins_fated}
use Rattle.law_fate.proofs.Fates.RunCounts.{all_numbered, numbered_once}
use Rattle.law_fate.proofs.Fates.RunWell.{runs_stay_well}
use Rattle.law_fate.proofs.Fates.TurnAccount.{steps_double_none}
use Rattle.law_fate.specs.Fates.Carry.{held_at, put_weight, load}
use Rattle.law_fate.specs.Fates.Sound.{Sound as Weighed, StepArrives}
use Rattle.law_fate.specs.Fates.CarryLaws.{Lightened, AfterLightened, leaves}
use Rattle.law_fate.specs.Fates.CarryRuns.{WorldSound}
use Rattle.law_fate.proofs.Fates.StepsLight.{steps_lighten}
use Rattle.law_fate.proofs.Fates.RunLight.{messages_go_to_hosts}
use Rattle.law_fate.proofs.Fates.WorldLight.{VatSound}
use Rattle.law_reference.specs.Reference.Knowing.{once, claims, numbered, numbered_at, brought, Knowing}
use Rattle.law_reference.proofs.Reference.NameTableSteps.{steps_know_once}
use Rattle.law_reference.proofs.Reference.Moves.{Does}
use Rattle.law_reference.proofs.Reference.FollowRuns.{after_gives}
use Rattle.law_reference.proofs.Reference.Follow.{eq_dec}
use Rattle.law_reference.proofs.Reference.Onward.{once_least, once_most}
use Rattle.law_reference.proofs.Reference.Fresh.{is_made, not_made, made_or}

true_false : true ≡ false → ⊥
true_false e = cc

-- ---- a world of a run

pub record Counted (w : World) : Type 0 where
  pub fated : (x : Name) → Fated x w
  pub sound : WorldSound w
  pub well : WorldWell w

reached_goes : (P : World → Type 0) (r : Run) (w : World) → r ≡ Going w → Reached P r → P w
reached_goes P (Going y) w e h = let same : y ≡ w = cc in rw same at h
reached_goes P (Stopped c k y) w e h = cc

module _ (script : Script) where
  opened_fated : (ps : List Program) (w : World) → world.open_from script zero ps (world.begins script) ≡ Going w → (x : Name) → Fated x w
  opened_fated ps w e x = reached_goes (Fated x) (world.open_from script zero ps (world.begins script)) w e (opens_fated x script zero ps (world.begins script) (begins_fated x script))

  pub opened_counted : (ps : List Program) (w : World) → world.open_from script zero ps (world.begins script) ≡ Going w → Counted w
  opened_counted ps w e = let sound = messages_go_to_hosts script in let well = runs_stay_well script in record {
    fated = opened_fated ps w e;
    sound = reached_goes WorldSound (world.open_from script zero ps (world.begins script)) w e (sound.0 ps);
    well = reached_goes WorldWell (world.open_from script zero ps (world.begins script)) w e (well.0 ps);
  }

  pub stepped_counted : (w x : World) (es : List Entry) (k : ℕ) → world.open_from script zero script.vats (world.begins script) ≡ Going w → world.steps_from script es k w ≡ Going x → Counted x
  stepped_counted w x es k e i = let sound = messages_go_to_hosts script in let well = runs_stay_well script in record {
    fated = λ z. reached_goes (Fated z) (world.steps_from script es k w) x i (steps_fated z script es k w (opened_fated script.vats w e z));
    sound = reached_goes WorldSound (world.steps_from script es k w) x i (sound.1 w es k e);
    well = reached_goes WorldWell (world.steps_from script es k w) x i (well.1 w es k e);
  }

-- each message has one place at most
pub world_one : (x : Name) (w : World) → Fated x w → total (at_vat x) w.vats + total (on_link x) w.links ≤ 1
unfolding places
world_one x w h = let k = h.kept in let f = h.fresh in let one = numbered_once x 0 w.vats in omega arith

-- ---- numbers

least_one : (b : Bool) → same_once b ≤ 1
unfolding same_once
least_one true = omega arith
least_one false = omega arith

-- where the message is of that sender, and below that count
pub numbered_none : (d k : ℕ) (m : Msg) → (d ≡ m.sender → k ≤ m.number) → fate_numbered d k (Sent m) ≤ 0
unfolding fate_numbered same_once
numbered_none d k m f = either (d == m.sender) refl
  where
    either : (b : Bool) → (d == m.sender) ≡ b → elim b [ true ↦ same_once (nat_le (suc m.number) k) | false ↦ 0 ] ≤ 0
    either true e = rw (not_made m.number k (f (eqb-true d m.sender e))) (omega arith)
    either false e = omega arith

pub numbered_most : (d k : ℕ) (m : Msg) → fate_numbered d k (Sent m) ≤ 1
unfolding fate_numbered
numbered_most d k m = either (d == m.sender)
  where
    either : (b : Bool) → elim b [ true ↦ same_once (nat_le (suc m.number) k) | false ↦ 0 ] ≤ 1
    either true = least_one (nat_le (suc m.number) k)
    either false = omega arith

pub numbered_full : (d k : ℕ) (m : Msg) → m.sender ≡ d → m.number < k → 1 ≤ fate_numbered d k (Sent m)
unfolding fate_numbered same_once
numbered_full d k m e h = either (d == m.sender) refl
  where
    either : (b : Bool) → (d == m.sender) ≡ b → 1 ≤ elim b [ true ↦ same_once (nat_le (suc m.number) k) | false ↦ 0 ]
    either true f = rw (is_made m.number k h) (omega arith)
    either false f = absurd (true_false (sym (eq-eqb d m.sender (sym e)) ∙ f))

-- for answers both counts are one
pub same_numbers : (v g : ℕ) (m : Msg) (s : Vat Name) → numbered_at v (Answer g m) s ≡ fate_numbered v s.messages (Sent m)
unfolding numbered_at numbered fate_numbered
same_numbers v g m s = either (v == m.sender)
  where
    either : (b : Bool) → ◌≡◌ {A = ℕ} (elim b [ true ↦ once (nat_le (suc m.number) s.messages) | false ↦ 0 ]) (elim b [ true ↦ same_once (nat_le (suc m.number) s.messages) | false ↦ 0 ])
    either true = let a = once_least (nat_le (suc m.number) s.messages) in let b = once_most (nat_le (suc m.number) s.messages) in omega arith
    either false = refl

unmade_from : (m : Msg) (d : ℕ) (ss : List (Vat Name)) → ((i : ℕ) (s : Vat Name) → slice_get ss i ≡ Some s → d + i ≡ m.sender → s.messages ≤ m.number) → all_numbered (Sent m) d ss ≤ 0
unfolding all_numbered
unmade_from m d [] f = omega arith
unmade_from m d (s ∷ ss) f = let rest = unmade_from m (suc d) ss (λ i r e g. f (suc i) r e (let n : d + suc i ≡ suc d + i = omega arith in n ∙ g)) in
    let here = numbered_none d s.messages m (λ e. f zero s refl (let n : d + zero ≡ d = omega arith in n ∙ e)) in omega arith

some_vat : (x y : Vat Name) → Some x ≡ Some y → x ≡ y
some_vat x y e = cc

-- a message that its sender did not make has no place
pub world_none : (m : Msg) (v : ℕ) (s : Vat Name) (w : World) → Fated (Sent m) w → slice_get w.vats v ≡ Some s → m.sender ≡ v → s.messages ≤ m.number → total (at_vat (Sent m)) w.vats + total (on_link (Sent m)) w.links ≤ 0
unfolding places
world_none m v s w h there mine new = let k = h.kept in let f = h.fresh in
    let none = unmade_from m 0 w.vats (λ i r e g. let j : i ≡ v = (let n : 0 + i ≡ i = omega arith in sym n ∙ (g ∙ mine)) in let same : r ≡ s = some_vat r s (sym e ∙ (ap (λ z. slice_get w.vats z) j ∙ there)) in let few : s.messages ≤ m.number = new in rw same few) in omega arith

-- ---- a step

pub put_total : (x : Name) (ps : List (Put Name)) → put_out (λ u. false) x ps ≡ total (λ (p : Put Name). of_note x p.note) ps
unfolding put_out where_cut total
put_total x [] = refl
put_total x (p ∷ ps) = let rest = put_total x ps in omega arith

lightened_is : (v : ℕ) (x : Name) (c : ℕ) (s t : Vat Name) (d : Done Name (Unit {0})) → AfterLightened v x c s d → d ≡ Gives tt t → Lightened v x c s t
lightened_is v x c s t d h e = rw e at h

module _ (script : Script) (w : World) (v : ℕ) (s q t : Vat Name) (what : Step Name Name) (d : Does script w v s q t what) (sound : VatSound v s) (m : Msg) where
  abbrev M : Name
  M = Sent m

  abbrev Sends : ℕ
  Sends = sent_in M t.happened

  weighed : Weighed v (readied w q)
  unfolding readied
  weighed = rw (d.number, d.known, d.gifts) sound

  pub step_weighs : StepComes what → StepArrives v what → load M t ≤ leaves M what + held_at M s.known + (Sends + Sends)
  unfolding load readied put_weight sent_in names
  step_weighs comes arrives = let l = lightened_is v M (leaves M what) (readied w q) t _ (steps_lighten (draw_word script.key) v what (readied w q) M weighed comes arrives) d.gives in let k = l.kept in
      let e : held_at M q.known ≡ held_at M s.known = ap (λ ks. held_at M ks) d.known in omega arith

  accounted : Accounted (λ u. false) v M (fate_brought M what) (readied w q) t
  unfolding names
  accounted = after_gives (λ x y. Accounted (λ u. false) v M (fate_brought M what) x y) (readied w q) t _ (steps_double_none (draw_word script.key) v what (readied w q) (λ u. false) M) d.gives

  pub step_sends : Sends + fate_numbered v s.messages M ≤ fate_numbered v t.messages M
  unfolding readied sent_in
  step_sends = let a = accounted.fresh in let e : fate_numbered v q.messages M ≡ fate_numbered v s.messages M = ap (λ k. fate_numbered v k M) d.messages in omega arith

  pub step_puts : total (λ (p : Put Name). of_note M p.note) t.outbox ≤ fate_brought M what + at_vat M q + Sends
  unfolding readied sent_in account put_out gone at_vat
  step_puts = let a = accounted.kept in let e = put_total M t.outbox in omega arith

  pub step_knows : (g : ℕ) → claims v (Answer g m) t.known + numbered_at v (Answer g m) s ≤ claims v (Answer g m) s.known + numbered_at v (Answer g m) t + brought v (Answer g m) s.gifts what
  unfolding readied names
  step_knows g = let x = Answer g m in let k : Knowing v x (brought v x q.gifts what) (readied w q) t = after_gives (λ y z. Knowing v x (brought v x q.gifts what) y z) (readied w q) t _ (steps_know_once (draw_word script.key) v what (readied w q) x) d.gives in
      let kept = k.kept (d.number ∙ sound.same) in let e : claims v x q.known ≡ claims v x s.known = ap (λ ks. claims v x ks) d.known in
      let i = same_numbers v g m s in let j = same_numbers v g m q in let f : fate_numbered v q.messages M ≡ fate_numbered v s.messages M = ap (λ k. fate_numbered v k M) d.messages in
      let n : numbered_at v x (readied w q) ≡ numbered_at v x q = ready_numbers g in
      let b : brought v x q.gifts what ≡ brought v x s.gifts what = ap (λ gs. brought v x gs what) d.gifts in omega arith
    where
      ready_numbers : (g : ℕ) → numbered_at v (Answer g m) (readied w q) ≡ numbered_at v (Answer g m) q
      ready_numbers g = same_numbers v g m (readied w q) ∙ sym (same_numbers v g m q)

  -- the message was made before, or is made by another vat or not yet; or it is made now
  abbrev pub IsNew : Type 0
  IsNew = (m.sender ≡ v) × (s.messages ≤ m.number) × (m.number < t.messages)

  pub step_age : ((Sends ≤ 0) × ((g : ℕ) → numbered_at v (Answer g m) t ≤ numbered_at v (Answer g m) s)) ⊎ IsNew
  step_age = either (eq_dec m.sender v) (made_or m.number s.messages) (made_or m.number t.messages)
    where
      by_numbers : fate_numbered v t.messages M ≤ fate_numbered v s.messages M → (Sends ≤ 0) × ((g : ℕ) → numbered_at v (Answer g m) t ≤ numbered_at v (Answer g m) s)
      by_numbers h = let a = step_sends in (omega arith, λ g. let b = same_numbers v g m s in let c = same_numbers v g m t in omega arith)

      either : (m.sender ≡ v) ⊎ (m.sender ≡ v → ⊥) → (m.number < s.messages) ⊎ (s.messages ≤ m.number) → (m.number < t.messages) ⊎ (t.messages ≤ m.number) → ((Sends ≤ 0) × ((g : ℕ) → numbered_at v (Answer g m) t ≤ numbered_at v (Answer g m) s)) ⊎ IsNew
      either (inr f) a b = inl (by_numbers (let n = numbered_none v t.messages m (λ e. absurd (f (sym e))) in omega arith))
      either (inl e) (inl a) b = inl (by_numbers (let n = numbered_full v s.messages m e a in let o = numbered_most v t.messages m in omega arith))
      either (inl e) (inr a) (inr b) = inl (by_numbers (let n = numbered_none v t.messages m (λ i. b) in omega arith))
      either (inl e) (inr a) (inl b) = inr (e, a, b)
