-- What objects and slots hold in the worlds of a run, its history tells.
use Rattle.std.proofs.Common.{◌≡◌, ℕ, zero, suc, Bool, true, false, List, [], ◌∷◌, ◌++◌, Some, None, refl, sym, subst, map, ◌⊎◌, inl, inr}
use Rattle.std.specs.Prelude.{slice_get}
use Rattle.def_machine.specs.Values.{Words, Value, Name, Object, Own, spot_of, same_reference, naming}
use Rattle.def_machine.specs.State.{Binding, Cell, Made, Resolver, Known, begun, Happened, PromiseMade, Waits, Views, ObjectMade, SlotMade, SlotWrote, Vat, Done, Gives, Throws}
use Rattle.law_machine.specs.Machine.Steps.{Step, does, After}
use Rattle.def_run.specs.World.{Script, Program, Entry, Event, Here, Link, World, Goes, event_of, events_of, put_at, put_back, readied, within, names, known_root, fresh, fresh_from, begins, open_from, steps_from}
use Rattle.law_machine.proofs.Run.RunKeeps.{Begins, IsKeptByRuns, run_keeps, opens_keep}
use Rattle.law_fate.proofs.Name.SameNames.{reference_is}
use Rattle.law_uses.specs.Connectivity.Known.{IsAmong}
use Rattle.law_uses.specs.Connectivity.Liveness.{live_at, LeavesDead}
use Rattle.law_uses.specs.Connectivity.Runs.{NothingLive}
use Rattle.law_uses.proofs.Connectivity.StepDies.{steps_leave_dead}
use Rattle.law_uses.specs.Connectivity.Told.{ObjectsTold, SlotsTold, ReadsTold, ResolversTold, WaitsTold, HeldTold}
use Rattle.law_uses.proofs.Connectivity.FineSteps.{among_left, among_right, steps_tell}
use Rattle.law_uses.proofs.Connectivity.FineRuns.{own_spots}

-- nothing is live, and what is held is told
abbrev Tells : World → Type 0
Tells w = NothingLive w × HeldTold w

abbrev Still : Vat Name → Type 0
Still s = (i : ℕ) → live_at s.things i ≡ false

-- of what that vat has, in a history
abbrev VatTold : List Event → ℕ → Vat Name → Type 0
VatTold es v s = ((i node : ℕ) (caught : List (Binding Name)) (stamps : List (Value Name)) → slice_get s.things i ≡ Some (Made node caught stamps)
    → (a : ℕ) × (x : Words) × IsAmong (Here v (ObjectMade a (Object v i) x (map (λ b. b.bound) caught) stamps)) es)
    × ((k : ℕ) (c : Cell Name) → slice_get s.slots k ≡ Some c → (a : ℕ) × (IsAmong (Here v (SlotMade a k c.value)) es ⊎ IsAmong (Here v (SlotWrote a k c.value)) es))
    × ((i : ℕ) (p : Name) → slice_get s.things i ≡ Some (Resolver p) → (a : ℕ) × (r : Name) × IsAmong (Here v (PromiseMade a p r)) es × (spot_of v r ≡ Own i))
    × ((k : Known Name) (p : Name) → IsAmong k s.known → IsAmong p k.waiting → IsAmong (Here v (Waits p k.name)) es ⊎ IsAmong (Here v (Views p k.name)) es)

not_true : (b : Bool) → (b ≡ true → ⊥) → b ≡ false
not_true true f = absurd (f refl)
not_true false f = refl

false_true : (b : Bool) → b ≡ false → b ≡ true → ⊥
false_true b e f = cc

still_after : (s t : Vat Name) → ((i : ℕ) → live_at t.things i ≡ true → live_at s.things i ≡ true) → Still s → Still t
still_after s t r h i = not_true (live_at t.things i) (λ e. false_true (live_at s.things i) (h i) (r i e))

same_some : (x y : Vat Name) → Some x ≡ Some y → x ≡ y
same_some x y e = cc

no_some : (y : Vat Name) → None ≡ Some y → ⊥
no_some y e = cc

-- a line of the vat's own is an event
here_event : (ls : List Link) (v : ℕ) (es : List (Happened Name)) (e : Happened Name) → event_of ls v e ≡ Here v e ∷ [] → IsAmong e es → IsAmong (Here v e) (events_of ls v es)
unfolding events_of
here_event ls v [] e f m = absurd m
here_event ls v (x ∷ es) e f (inl g) = among_left (Here v e) (event_of ls v x) (events_of ls v es) (subst (λ y. IsAmong (Here v e) (event_of ls v y)) g (subst (λ ys. IsAmong (Here v e) ys) (sym f) (inl refl)))
here_event ls v (x ∷ es) e f (inr m) = among_right (Here v e) (event_of ls v x) (events_of ls v es) (here_event ls v es e f m)

module _ (h more : List Event) where
  longer : (v : ℕ) (s : Vat Name) → VatTold h v s → VatTold (h ++ more) v s
  longer v s t = (λ i node caught stamps e. let k = t.0 i node caught stamps e in (k.0, k.1, among_left _ h more k.2), λ k c e. let n = t.1 k c e in (n.0, either n.0 k c n.1), λ i p e. let r = t.2 i p e in (r.0, r.1, among_left _ h more r.2, r.3), λ k p m n. wait k p (t.3 k p m n))
    where
      wait : (k : Known Name) (p : Name) → IsAmong (Here v (Waits p k.name)) h ⊎ IsAmong (Here v (Views p k.name)) h → IsAmong (Here v (Waits p k.name)) (h ++ more) ⊎ IsAmong (Here v (Views p k.name)) (h ++ more)
      wait k p (inl m) = inl (among_left _ h more m)
      wait k p (inr m) = inr (among_left _ h more m)

      either : (a k : ℕ) (c : Cell Name) → IsAmong (Here v (SlotMade a k c.value)) h ⊎ IsAmong (Here v (SlotWrote a k c.value)) h → IsAmong (Here v (SlotMade a k c.value)) (h ++ more) ⊎ IsAmong (Here v (SlotWrote a k c.value)) (h ++ more)
      either a k c (inl m) = inl (among_left _ h more m)
      either a k c (inr m) = inr (among_left _ h more m)

-- in each of these vats, the first of which is vat d
abbrev AllTold : List Event → List (Vat Name) → Type 0
AllTold es vats = (v : ℕ) (s : Vat Name) → slice_get vats v ≡ Some s → VatTold es v s

abbrev AllStill : List (Vat Name) → Type 0
AllStill vats = (v : ℕ) (s : Vat Name) → slice_get vats v ≡ Some s → Still s

put_all : (P : ℕ → Vat Name → Type 0) (v : ℕ) (t : Vat Name) (xs : List (Vat Name)) → P v t → ((u : ℕ) (s : Vat Name) → slice_get xs u ≡ Some s → P u s) → (u : ℕ) (s : Vat Name) → slice_get (put_at v t xs) u ≡ Some s → P u s
unfolding put_at
put_all P v t [] h all u s e = all u s e
put_all P zero t (x ∷ xs) h all zero s e = subst (P zero) (same_some t s e) h
put_all P zero t (x ∷ xs) h all (suc u) s e = all (suc u) s e
put_all P (suc v) t (x ∷ xs) h all zero s e = all zero s e
put_all P (suc v) t (x ∷ xs) h all (suc u) s e = put_all (λ n. P (suc n)) v t xs h (λ n z f. all (suc n) z f) u s e

goes_vats : (w x : World) → Goes w ≡ Goes x → w ≡ x
goes_vats w x e = cc

module _ (script : Script) where
  -- what is held after a step, the history with the step's lines tells
  after_told : (v : ℕ) (w : World) (head : List Event) (r t : Vat Name) → VatTold w.history v r → ObjectsTold (names script v) r t → SlotsTold r t → ResolversTold (names script v) r t → WaitsTold (names script v) r t → VatTold (w.history ++ head ++ events_of w.links v t.happened) v t
  unfolding names naming event_of
  after_told v w head r t h o c ro wo = (λ i node caught stamps e. object i node caught stamps (o i node caught stamps e), λ k x e. cell k x (c k x e), λ i p e. resolver i p (ro i p e), λ k p m n. waiting k p (wo k p m n))
    where
      later : (e : Happened Name) → event_of w.links v e ≡ Here v e ∷ [] → IsAmong e t.happened → IsAmong (Here v e) (w.history ++ head ++ events_of w.links v t.happened)
      later e f m = among_right _ (w.history ++ head) (events_of w.links v t.happened) (here_event w.links v t.happened e f m)

      before : (e : Event) → IsAmong e w.history → IsAmong e (w.history ++ head ++ events_of w.links v t.happened)
      before e m = among_left e (w.history ++ head) (events_of w.links v t.happened) (among_left e w.history head m)

      object : (i node : ℕ) (caught : List (Binding Name)) (stamps : List (Value Name)) → (slice_get r.things i ≡ Some (Made node caught stamps)) ⊎ ((a : ℕ) × (x : Words) × IsAmong (ObjectMade a (Object v i) x (map (λ b. b.bound) caught) stamps) t.happened)
          → (a : ℕ) × (x : Words) × IsAmong (Here v (ObjectMade a (Object v i) x (map (λ b. b.bound) caught) stamps)) (w.history ++ head ++ events_of w.links v t.happened)
      object i node caught stamps (inl e) = let k = h.0 i node caught stamps e in (k.0, k.1, before _ k.2)
      object i node caught stamps (inr k) = (k.0, k.1, later (ObjectMade k.0 (Object v i) k.1 (map (λ b. b.bound) caught) stamps) refl k.2)

      resolver : (i : ℕ) (p : Name) → (slice_get r.things i ≡ Some (Resolver p)) ⊎ ((a : ℕ) × (n : Name) × IsAmong (PromiseMade a p n) t.happened × (spot_of v n ≡ Own i))
          → (a : ℕ) × (n : Name) × IsAmong (Here v (PromiseMade a p n)) (w.history ++ head ++ events_of w.links v t.happened) × (spot_of v n ≡ Own i)
      resolver i p (inl e) = let k = h.2 i p e in (k.0, k.1, before _ k.2, k.3)
      resolver i p (inr k) = (k.0, k.1, later (PromiseMade k.0 p k.1) refl k.2, k.3)

      waited : (p q : Name) → IsAmong (Here v (Waits p q)) w.history ⊎ IsAmong (Here v (Views p q)) w.history → IsAmong (Here v (Waits p q)) (w.history ++ head ++ events_of w.links v t.happened) ⊎ IsAmong (Here v (Views p q)) (w.history ++ head ++ events_of w.links v t.happened)
      waited p q (inl m) = inl (before _ m)
      waited p q (inr m) = inr (before _ m)

      waits : (p q : Name) → IsAmong (Waits p q) t.happened ⊎ IsAmong (Views p q) t.happened → IsAmong (Here v (Waits p q)) (w.history ++ head ++ events_of w.links v t.happened) ⊎ IsAmong (Here v (Views p q)) (w.history ++ head ++ events_of w.links v t.happened)
      waits p q (inl m) = inl (later (Waits p q) refl m)
      waits p q (inr m) = inr (later (Views p q) refl m)

      waiting : (k : Known Name) (p : Name) → ((j : Known Name) × IsAmong j r.known × (j.name ≡ k.name) × IsAmong p j.waiting) ⊎ ((n : Name) × (IsAmong (Waits p n) t.happened ⊎ IsAmong (Views p n) t.happened) × (same_reference k.name n ≡ true))
          → IsAmong (Here v (Waits p k.name)) (w.history ++ head ++ events_of w.links v t.happened) ⊎ IsAmong (Here v (Views p k.name)) (w.history ++ head ++ events_of w.links v t.happened)
      waiting k p (inl j) = waited p k.name (subst (λ q. IsAmong (Here v (Waits p q)) w.history ⊎ IsAmong (Here v (Views p q)) w.history) j.2 (h.3 j.0 p j.1 j.3))
      waiting k p (inr n) = waits p k.name (subst (λ q. IsAmong (Waits p q) t.happened ⊎ IsAmong (Views p q) t.happened) (sym (reference_is k.name n.0 n.2)) n.1)

      old : (k : ℕ) (x y : Value Name) (a : ℕ) → x ≡ y → IsAmong (Here v (SlotMade a k x)) w.history ⊎ IsAmong (Here v (SlotWrote a k x)) w.history
          → IsAmong (Here v (SlotMade a k y)) (w.history ++ head ++ events_of w.links v t.happened) ⊎ IsAmong (Here v (SlotWrote a k y)) (w.history ++ head ++ events_of w.links v t.happened)
      old k x y a e (inl m) = inl (before _ (subst (λ z. IsAmong (Here v (SlotMade a k z)) w.history) e m))
      old k x y a e (inr m) = inr (before _ (subst (λ z. IsAmong (Here v (SlotWrote a k z)) w.history) e m))

      new : (k : ℕ) (x : Value Name) (a : ℕ) → IsAmong (SlotMade a k x) t.happened ⊎ IsAmong (SlotWrote a k x) t.happened
          → IsAmong (Here v (SlotMade a k x)) (w.history ++ head ++ events_of w.links v t.happened) ⊎ IsAmong (Here v (SlotWrote a k x)) (w.history ++ head ++ events_of w.links v t.happened)
      new k x a (inl m) = inl (later (SlotMade a k x) refl m)
      new k x a (inr m) = inr (later (SlotWrote a k x) refl m)

      cell : (k : ℕ) (x : Cell Name) → ((d : Cell Name) × (slice_get r.slots k ≡ Some d) × (d.value ≡ x.value)) ⊎ ((a : ℕ) × (IsAmong (SlotMade a k x.value) t.happened ⊎ IsAmong (SlotWrote a k x.value) t.happened))
          → (a : ℕ) × (IsAmong (Here v (SlotMade a k x.value)) (w.history ++ head ++ events_of w.links v t.happened) ⊎ IsAmong (Here v (SlotWrote a k x.value)) (w.history ++ head ++ events_of w.links v t.happened))
      cell k x (inl d) = let n = h.1 k d.0 d.1 in (n.0, old k d.0.value x.value n.0 d.2 n.1)
      cell k x (inr n) = (n.0, new k x.value n.0 n.1)

  back_tells : (v : ℕ) (w x : World) (head : List Event) (n : ℕ) (r : Vat Name) (d : Done Name (Unit {0})) → Still r → VatTold w.history v r → LeavesDead r d → After (λ s t. ObjectsTold (names script v) s t × SlotsTold s t × ReadsTold s.slots [] t.happened × ResolversTold (names script v) s t × WaitsTold (names script v) s t) r d
      → put_back v w head n d ≡ Goes x → Tells w → Tells x
  unfolding put_back
  back_tells v w x head n r (Gives a t) q k h o e all = subst Tells (goes_vats _ x e) (
    λ u s f. put_all (λ m z. Still z) v t w.vats (still_after r t h q) all.0 u s f,
    λ u s f. put_all (λ m z. VatTold (w.history ++ head ++ events_of w.links v t.happened) m z) v t w.vats (after_told v w head r t k o.0 o.1 o.3 o.4) (λ m z g. longer (w.history ++ head) (events_of w.links v t.happened) m z (longer w.history head m z (all.1 m z g))) u s f,
  )
  back_tells v w x head n r (Throws p t) q k h o e all = cc
  back_tells v w x head n r other q k h o e all = cc

  within_tells : (v : ℕ) (w x : World) (head : List Event) (n : ℕ) (what : Step Name Name) (s q : Vat Name) → slice_get w.vats v ≡ Some s → Begins s q → within v w head n (does (names script v) what) (Some q) ≡ Goes x → Tells w → Tells x
  unfolding within readied
  within_tells v w x head n what s q e b i all = let r : Vat Name = readied w q in
      let still : Still r = subst (λ z. Still z) (sym b.1) (all.0 v s e) in
      let told : VatTold w.history v r = subst (λ z. VatTold w.history v z) (sym b.1) (all.1 v s e) in
      back_tells v w x head n r (does (names script v) what r) still told (steps_leave_dead (names script v) what r) (steps_tell (names script v) (own_spots script v) what r refl still) i all

  kept : IsKeptByRuns script (λ w x. Tells w → Tells x)
  kept = record {
    same = λ w h. h;
    trans = λ w x y f g h. g (f h);
    adds = λ w ls es h. (h.0, λ v s e. longer w.history es v s (h.1 v s e));
    links = λ w ls h. h;
    vat = λ v w x head n what s q e b i h. within_tells v w x head n what s q e b i h;
  }

  no_waiting : (ws : List ℕ) (k : Known Name) (p : Name) → IsAmong k (map known_root ws) → IsAmong p k.waiting → ⊥
  unfolding known_root begun
  no_waiting [] k p m n = m
  no_waiting (w ∷ ws) k p (inl e) n = subst (λ j. IsAmong p j.waiting) e n
  no_waiting (w ∷ ws) k p (inr m) n = no_waiting ws k p m n

  fresh_waiting : (v : ℕ) (q : Program) (k : Known Name) (p : Name) → IsAmong k (fresh script v q).known → IsAmong p k.waiting → ⊥
  unfolding fresh known_root begun
  fresh_waiting v q k p (inl e) n = subst (λ j. IsAmong p j.waiting) e n
  fresh_waiting v q k p (inr m) n = no_waiting q.knows k p m n

  fresh_tells : (v : ℕ) (ps : List Program) (d u : ℕ) (s : Vat Name) → slice_get (fresh_from script v ps) u ≡ Some s → Still s × VatTold [] d s
  unfolding fresh_from fresh live_at
  fresh_tells v [] d u s e = absurd (no_some s e)
  fresh_tells v (p ∷ ps) d zero s e = subst (λ z. Still z × VatTold [] d z) (same_some (fresh script v p) s e) (λ i. refl, (λ i node caught stamps f. cc, λ k c f. cc, λ i q f. cc, λ k q m n. absurd (fresh_waiting v p k q m n)))
  fresh_tells v (p ∷ ps) d (suc u) s e = fresh_tells (suc v) ps d u s e

  begins_tell : Tells (begins script)
  unfolding begins
  begins_tell = (λ u s e. (fresh_tells zero script.vats u u s e).0, λ u s e. (fresh_tells zero script.vats u u s e).1)

  pub opened_tell : (ps : List Program) (w : World) → open_from script zero ps (begins script) ≡ Goes w → HeldTold w
  opened_tell ps w e = (opens_keep script (λ w x. Tells w → Tells x) kept zero ps (begins script) w e begins_tell).1

  pub run_tell : (w x : World) (es : List Entry) (k : ℕ) → open_from script zero script.vats (begins script) ≡ Goes w → steps_from script es k w ≡ Goes x → HeldTold x
  run_tell w x es k e i = (run_keeps script (λ w x. Tells w → Tells x) kept es k w x i (opens_keep script (λ w x. Tells w → Tells x) kept zero script.vats (begins script) w e begins_tell)).1
