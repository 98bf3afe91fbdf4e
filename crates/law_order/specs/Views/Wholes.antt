-- A whole settling by the machine, in which names with views may settle.
use Rattle.std.specs.Prelude.{◌≡◌, ℕ, zero, suc, Bool, [], Option, Some, None, slice_get}
use Rattle.def_machine.specs.Values.{Value, Name}
use Rattle.def_machine.specs.State.{Standing, Unsettled, WaitsOn, Viewed, Settled, Known, Settles, Vat}
use Rattle.def_machine.specs.Refs.{Settler, entry_of, standing_of, target_of, settle_at}
use Rattle.def_run.specs.World.{Script, World, names}
use Rattle.law_order.specs.Ordering.Worlds.{IfGives}
use Rattle.law_order.specs.Ordering.Settle.{IsEnded, settled_to}
use Rattle.law_order.specs.Ordering.Settlings.{with_line, IsPlain, IsHonestTo, WaitsWell, KnownWell}
use Rattle.law_order.specs.Ordering.Steps.{Ready, StaysInOrder}

module _ (script : Script) (honest : ℕ → Bool) (w : World) (v : ℕ) where
  module _ (y : Value Name) (R : Name → Vat Name → Type 0) (settle : Settler {N = Name} {W = Name} (names script v)) where
    -- A name whose view g settled to y settles. It holds nothing, no vat is to be told of it, and those that wait for it can settle so.
    pub record ViewWell (p : Name) (k : Known Name) (g : Name) (s : Vat Name) : Type 0 where
      pub ready : Ready script honest w v s
      pub leads : standing_of (names script v) s.known g ≡ Settled y
      pub empty : k.held ≡ []
      pub untold : k.told ≡ []
      pub plain : IsEnded y
      pub waits : WaitsWell script honest w v y R settle p k.waiting (settled_to (names script v) (with_line s (Settles p y)) p y)

    abbrev pub StandsLed : Name → Known Name → Standing Name → Vat Name → Type 0
    StandsLed p k (Settled z) s = Unit {0}
    StandsLed p k Unsettled s = KnownWell script honest w v y R settle p k s
    StandsLed p k (WaitsOn q) s = KnownWell script honest w v y R settle p k s
    StandsLed p k (Viewed g) s = ViewWell p k g s

    abbrev pub EntryLed : Name → Option (Known Name) → Vat Name → Type 0
    EntryLed p None s = Unit {0}
    EntryLed p (Some k) s = StandsLed p k k.standing s

  -- Each name that settles in it can settle so, in the state in which it does: as `SettlesWell` has it of names without views, or as its view did.
  abbrev pub SettlesLed : Value Name → ℕ → Name → Vat Name → Type 0
  SettlesLed y zero p s = Unit {0}
  SettlesLed y (suc d) p s = let z = target_of (names script v) s p y in EntryLed z (λ q t. SettlesLed z d q t) (λ q x. settle_at (names script v) d q x) p (entry_of (names script v) s.known p) s

-- What is ahead stays ahead, what is doomed stays doomed, and the vat stays ready, through a whole settling to data, to an object, or to what is broken.
abbrev pub LedSettlingsKeep : Type 0
LedSettlingsKeep = (script : Script) (honest : ℕ → Bool) (w : World) (v : ℕ) (r : Vat Name) (y : Value Name) → slice_get w.vats v ≡ Some r → IsPlain (names script v) y → IsHonestTo script honest v y
    → (d : ℕ) (p : Name) (s : Vat Name) → SettlesLed script honest w v y d p s → IfGives (λ t. StaysInOrder script honest w v s t) (settle_at (names script v) d p y s)
