-- What notes tell of names is so at their senders, and what is ahead as a vat is told by them.
use Rattle.std.specs.Prelude.{◌≡◌, ℕ, Bool, true, List, Some, slice_get, ◌⊎◌}
use Rattle.def_machine.specs.Values.{Value, Ref, Name, host_of}
use Rattle.def_machine.specs.State.{Vat}
use Rattle.def_run.specs.World.{Script, World}
use Rattle.law_order.specs.Ordering.Ways.{Queue, Way, Item, Place, Nowhere, End, Mid, Doom}
use Rattle.law_order.specs.Ordering.Turns.{Within, Comes}
use Rattle.law_order.specs.Ordering.Worlds.{IsObject}
use Rattle.law_order.specs.Ordering.Settle.{aimed_at}
use Rattle.law_order.specs.Ordering.Steps.{WaysAmid, LeadsAmid}
use Rattle.law_order.specs.Arrivals.Tellings.{IsTidy, IsToldOf, KeepsTold, KeepsPassings}

-- ---- what notes tell is so

-- over the link from a to h on an object, or nowhere: where a name leads at a that settled there to an object of h
abbrev pub EndsOver : ℕ → ℕ → Place → Type 0
EndsOver a h c = ((o : Name) × (c ≡ End (Way a h) o)) ⊎ (c ≡ Nowhere)

-- ---- laws

-- order is kept, of each reference, each message, and each name that a note brings
abbrev pub KeepsAll : (script : Script) (honest : ℕ → Bool) (w : World) (v : ℕ) (s t : Vat Name) → Type 0
KeepsAll script honest w v s t = KeepsTold script honest w v s t × KeepsPassings script honest w v s t

-- A vat is told that a name of another vat settled to data, or is broken.
abbrev pub EndedNamesKeep : Type 0
EndedNamesKeep = (script : Script) (honest : ℕ → Bool) (w : World) (v h : ℕ) (r s t : Vat Name) (n : Name) (y : Value Name) → slice_get w.vats v ≡ Some r → IsTidy script honest w v s → IsToldOf script v h s t n y
    → aimed_at script v t y ≡ Nowhere
    → KeepsAll script honest w v s t

-- It is told that the name settled to an object of its host, as it did there.
abbrev pub SettledNamesKeep : Type 0
SettledNamesKeep = (script : Script) (honest : ℕ → Bool) (w : World) (v h : ℕ) (r s t : Vat Name) (n o : Name) → slice_get w.vats v ≡ Some r → IsTidy script honest w v s → IsToldOf script v h s t n (Ref o)
    → honest v ≡ true → honest h ≡ true → IsObject o → host_of o ≡ h → LeadsAmid script honest w v s h (Ref n) ≡ End (Queue h) o
    → KeepsAll script honest w v s t

-- It is told that the name settled elsewhere, to an object of vat c, as it did at its host. Its view leads to behind all that stands on the link to the host, or no object takes what comes there.
abbrev pub ViewedNamesKeep : Type 0
ViewedNamesKeep = (script : Script) (honest : ℕ → Bool) (w : World) (v h c : ℕ) (r s t : Vat Name) (n : Name) (y : Value Name) (b : List Item) → slice_get w.vats v ≡ Some r → IsTidy script honest w v s → IsToldOf script v h s t n y
    → honest v ≡ true → honest h ≡ true → EndsOver h c (LeadsAmid script honest w v s h (Ref n))
    → Within ((WaysAmid script honest w v s).stands (Way v h)) b
    → Comes (WaysAmid script honest w v t) (Mid (Way v h) b n) (aimed_at script v t y) ⊎ Doom (WaysAmid script honest w v t) (aimed_at script v t y)
    → KeepsAll script honest w v s t
