-- Order is kept through a whole settling in which names with views settle.
use Rattle.std.proofs.Common.{◌≡◌, ℕ, zero, suc, Bool, List, [], ◌∷◌, ◌++◌, Option, Some, None, refl, sym, subst}
use Rattle.std.specs.Prelude.{slice_get}
use Rattle.def_machine.specs.Values.{Value, Name, Naming}
use Rattle.def_machine.specs.State.{Message, Standing, Viewed, Settled, Known, Settles, Vat, Done}
use Rattle.def_machine.specs.State as state
use Rattle.def_machine.specs.Refs as refs
use Rattle.def_machine.specs.Refs.{Settler, entry_of}
use Rattle.def_run.specs.World.{Script, World, names}
use Rattle.law_order.specs.Ordering.Worlds.{IfGives}
use Rattle.law_order.specs.Ordering.Settle.{settled_to}
use Rattle.law_order.specs.Ordering.Settlings.{with_line, IsPlain, IsHonestTo, WaitsWell}
use Rattle.law_order.specs.Ordering.Steps.{StaysInOrder}
use Rattle.law_order.proofs.Ordering.Adds.{adds_nothing, adds_message}
use Rattle.law_order.proofs.Ordering.Remaining.{kept_grown, order_then}
use Rattle.law_order.proofs.Ordering.Sends.{if_map, if_both, chain}
use Rattle.law_order.proofs.Ordering.Whole.{kept_adds, known_kept, target_plain, target_honest}
use Rattle.law_order.specs.Views.Wholes.{ViewWell, StandsLed, EntryLed, SettlesLed, LedSettlingsKeep}
use Rattle.law_order.proofs.Views.Led.{views_settle_quietly}
use Rattle.law_order.proofs.Views.Settling.{viewed_names_settle_so}

module _ (script : Script) (honest : ℕ → Bool) (w : World) (v : ℕ) where
  abbrev K : Naming Name Name
  K = names script v

  abbrev Kept : Vat Name → Vat Name → Type 0
  Kept s t = StaysInOrder script honest w v s t

  then_kept : {A : Type 0} (s t : Vat Name) (d : Done Name A) → Kept s t → IfGives (λ u. Kept t u) d → IfGives (λ u. Kept s u) d
  then_kept s t d g h = if_map (λ u. Kept t u) (λ u. Kept s u) (λ u i. order_then script honest w v s t u g i) d h

  kept_self : (s : Vat Name) → Kept s s
  kept_self s = kept_adds script honest w v s s (adds_nothing K s s refl refl refl refl refl refl, refl, refl, refl)

  reacts : (ms : List (Message Name)) (s : Vat Name) → IfGives (λ t. Kept s t) (state.each state.enqueue ms s)
  unfolding state.each state.◌>>◌ state.and_then state.give state.enqueue
  reacts [] s = kept_self s
  reacts (m ∷ ms) s = let t : Vat Name = record s { queue = s.queue ++ m ∷ [] } in
      then_kept s t (state.each state.enqueue ms t) (kept_adds script honest w v s t (adds_message K s m, refl, refl, refl)) (reacts ms t)

  module _ (y : Value Name) (R : Name → Vat Name → Type 0) (settle : Settler {N = Name} {W = Name} K) (each_kept : (q : Name) (s : Vat Name) → R q s → IfGives (λ t. Kept s t) (settle q y s)) where
    waits : (p : Name) (qs : List Name) (s : Vat Name) → WaitsWell script honest w v y R settle p qs s → IfGives (λ t. Kept s t) (state.each (λ q. settle q y) qs s)
    unfolding state.each state.◌>>◌ state.give
    waits p [] s h = kept_self s
    waits p (q ∷ qs) s h = chain (λ t. Kept s t × WaitsWell script honest w v y R settle p qs t) (λ t. Kept s t) (settle q y s) (state.each (λ q. settle q y) qs)
        (if_both (λ t. Kept s t) (λ t. WaitsWell script honest w v y R settle p qs t) (settle q y s) (each_kept q s h.0) h.1)
        (λ t g. then_kept s t (state.each (λ q. settle q y) qs t) g.0 (waits p qs t g.1))

    -- the name itself, and then what waits for it
    module _ (p g : Name) (k : Known Name) (s : Vat Name) (found : entry_of K s.known p ≡ Some k) (viewed : k.standing ≡ Viewed g) (h : ViewWell script honest w v y R settle p k g s) where
      abbrev T : Vat Name
      T = settled_to K s p y

      abbrev Then : Vat Name
      Then = settled_to K (with_line s (Settles p y)) p y

      first : Kept s Then
      first =
          let quiet = views_settle_quietly script honest w v s T p y (viewed_names_settle_so script v s p g y k h.ready.ends found viewed h.leads h.empty h.plain) in
          order_then script honest w v s T Then (λ q. (quiet q).0, kept_grown script honest w v s T (quiet h.ready).1)
          (kept_adds script honest w v T Then (adds_nothing K T Then refl refl refl refl refl refl, refl, refl, refl))

      abbrev Rest : List (Message Name) → List ℕ → Done Name (Unit {0})
      Rest ms hs = state.and_then (state.each (refs.send_on K settle) ms Then) (λ a. λ t. state.and_then (state.each (λ q. settle q y) k.waiting t) (λ b. λ u. state.and_then (state.each state.enqueue k.reactions u) (λ c. state.each (refs.inform K p) hs)))

      rest : IfGives (λ t. Kept s t) (Rest [] [])
      unfolding state.each state.give state.and_then
      rest = chain (λ t. Kept s t) (λ t. Kept s t) (state.each (λ q. settle q y) k.waiting Then) (λ u. state.and_then (state.each state.enqueue k.reactions u) (λ c. state.each (refs.inform K p) []))
          (then_kept s Then (state.each (λ q. settle q y) k.waiting Then) first (waits p k.waiting Then h.waits))
          (λ u i. chain (λ t. Kept s t) (λ t. Kept s t) (state.each state.enqueue k.reactions u) (state.each (refs.inform K p) []) (then_kept s u (state.each state.enqueue k.reactions u) i (reacts k.reactions u)) (λ z j. j))

      view_kept : IfGives (λ t. Kept s t) (refs.settle_known K settle p y k s)
      unfolding refs.settle_known state.◌>>◌ state.and_then state.tell state.alter
      view_kept = subst (λ ms. IfGives (λ t. Kept s t) (Rest ms k.told)) (sym h.empty) (subst (λ hs. IfGives (λ t. Kept s t) (Rest [] hs)) (sym h.untold) rest)

  module _ (r : Vat Name) (at : slice_get w.vats v ≡ Some r) where
    module _ (y : Value Name) (plain : IsPlain K y) (near : IsHonestTo script honest v y) (R : Name → Vat Name → Type 0) (settle : Settler {N = Name} {W = Name} K) (each_kept : (q : Name) (s : Vat Name) → R q s → IfGives (λ t. Kept s t) (settle q y s)) where
      stands_kept : (p : Name) (k : Known Name) (s : Vat Name) (q : Standing Name) → entry_of K s.known p ≡ Some k → k.standing ≡ q → StandsLed script honest w v y R settle p k q s → IfGives (λ t. Kept s t) (refs.settle_standing K settle p y k q s)
      unfolding refs.settle_standing state.give
      stands_kept p k s (Settled z) e i h = kept_self s
      stands_kept p k s (Viewed g) e i h = view_kept y R settle each_kept p g k s e i h
      stands_kept p k s other e i h = known_kept script honest w v r at y plain near R settle each_kept p k s e h

      entry_kept : (p : Name) (s : Vat Name) (o : Option (Known Name)) → entry_of K s.known p ≡ o → EntryLed script honest w v y R settle p o s → IfGives (λ t. Kept s t) (refs.settle_entry K settle p y o s)
      unfolding refs.settle_entry state.give
      entry_kept p s None e h = kept_self s
      entry_kept p s (Some k) e h = stands_kept p k s k.standing e refl h

    settlings : (y : Value Name) → IsPlain K y → IsHonestTo script honest v y → (d : ℕ) (p : Name) (s : Vat Name) → SettlesLed script honest w v y d p s → IfGives (λ t. Kept s t) (refs.settle_at K d p y s)
    unfolding refs.settle_at refs.settle_one state.stop state.◌>>=◌ state.and_then state.look
    settlings y plain near zero p s h = tt
    settlings y plain near (suc d) p s h =
        let z = refs.target_of K s p y in
        let there = target_plain script honest w v r at s p y plain in
        let honestly = target_honest script honest w v r at s p y near in
        entry_kept z there honestly (λ q t. SettlesLed script honest w v z d q t) (λ q x. refs.settle_at K d q x) (λ q t g. settlings z there honestly d q t g) p s (entry_of K s.known p) refl h

pub led_settlings_keep : LedSettlingsKeep
led_settlings_keep = λ script honest w v r y at plain near d p s h. settlings script honest w v r at y plain near d p s h
