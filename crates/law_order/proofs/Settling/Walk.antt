-- A whole settling in the middle of a step, as a tale: block by block, as the machine does it.
use Rattle.std.proofs.Common.{◌≡◌, ℕ, Bool, false, List, [], ◌∷◌, ◌++◌, Some, refl, inl, inr}
use Rattle.std.specs.Prelude.{slice_get}
use Rattle.def_machine.specs.Values.{Value, Ref, Name, Naming}
use Rattle.def_machine.specs.State.{Message, Known, Settles, Vat, Done}
use Rattle.def_machine.specs.State as state
use Rattle.def_machine.specs.Refs as refs
use Rattle.def_machine.specs.Refs.{Settler}
use Rattle.def_run.specs.World.{Script, Event, World, names}
use Rattle.law_fate.specs.Name.Names.{IsAmong, AllOf}
use Rattle.law_order.specs.Ordering.Settle.{settled_to}
use Rattle.law_order.specs.Ordering.Settlings.{with_line, WaitsWell}
use Rattle.law_order.specs.Ordering.Worlds.{IfGives}
use Rattle.law_order.proofs.Ordering.Sends.{if_map, if_both, chain}
use Rattle.law_order.specs.History.Lines.{was_sent}
use Rattle.law_order.specs.Tales.Middle.{middle}
use Rattle.law_order.specs.Settling.Holding.{Holds, HeldCame}
use Rattle.law_order.proofs.Settling.Acts.{Told, told_self, told_then, inform_told, queue_told}
use Rattle.law_order.proofs.Settling.Later.{unsent_on, holds_on, held_came}

-- an object
abbrev pub IsObjectValue : Value Name → Type 0
IsObjectValue (Ref n) = Unit {0}
IsObjectValue other = ⊥

module _ (script : Script) (honest : ℕ → Bool) (w : World) (v : ℕ) (head : List Event) (L : Type 0) (r : Vat Name) (at : slice_get w.vats v ≡ Some r) where
  abbrev K : Naming Name Name
  K = names script v

  abbrev To : Vat Name → Vat Name → Type 0
  To s t = Told script honest w v head L s t

  abbrev H : Vat Name → Type 0
  H s = Holds script honest w v head s

  abbrev C : Vat Name → Type 0
  C s = HeldCame script honest w v head s

  abbrev pub Unsent : Vat Name → Message Name → Type 0
  Unsent s m = was_sent m.id (middle w v head s).history ≡ false

  pub from_there : {A : Type 0} (s t : Vat Name) (d : Done Name A) → To s t → IfGives (λ u. To t u) d → IfGives (λ u. To s u) d
  from_there s t d g h = if_map (λ u. To t u) (λ u. To s u) (λ u i. told_then script honest w v head L s t u g i) d h

  all_on : (s t : Vat Name) → To s t → (ms : List (Message Name)) → AllOf (Unsent s) ms → AllOf (Unsent t) ms
  all_on s t g [] h = tt
  all_on s t g (m ∷ ms) h = (unsent_on script honest w v head L s t g.later m.id h.0, all_on s t g ms h.1)

  pub reacts : (ms : List (Message Name)) (s : Vat Name) → AllOf (Unsent s) ms → H s → IfGives (λ t. To s t) (state.each state.enqueue ms s)
  unfolding state.each state.◌>>◌ state.and_then state.give state.enqueue
  reacts [] s h i = told_self script honest w v head L s
  reacts (m ∷ ms) s h i = let t : Vat Name = record s { queue = s.queue ++ m ∷ [] } in let g = queue_told script honest w v head L r at s m h.0 i.ready in
      from_there s t (state.each state.enqueue ms t) g (reacts ms t (all_on s t g ms h.1) (holds_on script honest w v head L s t g.later i))

  tells : (p : Name) (hs : List ℕ) (s : Vat Name) → H s → IfGives (λ t. To s t) (state.each (refs.inform K p) hs s)
  unfolding state.each state.◌>>◌ state.give
  tells p [] s i = told_self script honest w v head L s
  tells p (h ∷ hs) s i = chain (λ t. To s t) (λ t. To s t) (refs.inform K p h s) (state.each (refs.inform K p) hs) (inform_told script honest w v head L p h s i.ready)
      (λ t g. from_there s t (state.each (refs.inform K p) hs t) g (tells p hs t (holds_on script honest w v head L s t g.later i)))

  pub among_all : (P : Message Name → Type 0) (ms : List (Message Name)) → ((m : Message Name) → IsAmong m ms → P m) → AllOf P ms
  among_all P [] f = tt
  among_all P (m ∷ ms) f = (f m (inl refl), among_all P ms (λ n a. f n (inr a)))

  -- ---- all that settles settles to y

  module _ (y : Value Name) (never : IsObjectValue y → L → ⊥) (R : Name → Vat Name → Type 0) (settle : Settler {N = Name} {W = Name} K) (each_told : (q : Name) (s : Vat Name) → R q s → H s → (IsObjectValue y → C s) → IfGives (λ t. To s t) (settle q y s)) where
    abbrev Came : Vat Name → Type 0
    Came s = IsObjectValue y → C s

    came_then : (s t : Vat Name) → To s t → Came s → Came t
    came_then s t g c i = held_came script honest w v head L s t g.later (never i) (c i)

    holds_then : (s t : Vat Name) → To s t → H s → H t
    holds_then s t g h = holds_on script honest w v head L s t g.later h

    pub waits : (p : Name) (qs : List Name) (s : Vat Name) → WaitsWell script honest w v y R settle p qs s → H s → Came s → IfGives (λ t. To s t) (state.each (λ q. settle q y) qs s)
    unfolding state.each state.◌>>◌ state.give
    waits p [] s h i c = told_self script honest w v head L s
    waits p (q ∷ qs) s h i c = chain (λ t. To s t × WaitsWell script honest w v y R settle p qs t) (λ t. To s t) (settle q y s) (state.each (λ q. settle q y) qs)
        (if_both (λ t. To s t) (λ t. WaitsWell script honest w v y R settle p qs t) (settle q y s) (each_told q s h.0 i c) h.1)
        (λ t g. from_there s t (state.each (λ q. settle q y) qs t) g.0 (waits p qs t g.1 (holds_then s t g.0 i) (came_then s t g.0 c)))

    -- what follows where the name settled and what it held went on
    module _ (p : Name) (k : Known Name) (s : Vat Name) where
      abbrev Then : Vat Name
      Then = settled_to K (with_line s (Settles p y)) p y

      pub rest_told : AllOf (Unsent s) k.reactions → H s → Came s → IfGives (λ t. To s t) (state.each (refs.send_on K settle) k.held Then) → IfGives (λ t. WaitsWell script honest w v y R settle p k.waiting t) (state.each (refs.send_on K settle) k.held Then)
          → IfGives (λ t. To s t) (refs.settle_known K settle p y k s)
      unfolding refs.settle_known state.◌>>◌ state.and_then state.tell state.alter
      rest_told unsent i c first after = chain (λ t. To s t × WaitsWell script honest w v y R settle p k.waiting t) (λ t. To s t) (state.each (refs.send_on K settle) k.held Then)
          (λ t. state.and_then (state.each (λ q. settle q y) k.waiting t) (λ a. λ u. state.and_then (state.each state.enqueue k.reactions u) (λ b. state.each (refs.inform K p) k.told)))
          (if_both (λ t. To s t) (λ t. WaitsWell script honest w v y R settle p k.waiting t) (state.each (refs.send_on K settle) k.held Then) first after)
          (λ t g. chain (λ u. To s u) (λ u. To s u) (state.each (λ q. settle q y) k.waiting t) (λ u. state.and_then (state.each state.enqueue k.reactions u) (λ b. state.each (refs.inform K p) k.told))
          (from_there s t (state.each (λ q. settle q y) k.waiting t) g.0 (waits p k.waiting t g.1 (holds_then s t g.0 i) (came_then s t g.0 c)))
          (λ u j. chain (λ z. To s z) (λ z. To s z) (state.each state.enqueue k.reactions u) (state.each (refs.inform K p) k.told)
          (from_there s u (state.each state.enqueue k.reactions u) j (reacts k.reactions u (all_on s u j k.reactions unsent) (holds_then s u j i)))
          (λ z l. from_there s z (state.each (refs.inform K p) k.told z) l (tells p k.told z (holds_then s z l i)))))
