-- What is ahead of a reference is ahead of its passing.
use Rattle.std.specs.Prelude.{◌≡◌, ℕ, Bool, true, false, List, Some, None, slice_get, ◌⊎◌}
use Rattle.def_machine.specs.Values.{Value, Ref, Name, Gift, host_of}
use Rattle.def_machine.specs.State.{Known, Vat}
use Rattle.def_machine.specs.Refs.{Away, entry_of, address_plain}
use Rattle.def_run.specs.World.{Script, Link, World, names, link_at, push_all}
use Rattle.law_order.specs.Ordering.Ways.{Way, Item, Nowhere, End, Mid, Ways, Ahead}
use Rattle.law_order.specs.Ordering.Turns.{Within}
use Rattle.law_order.specs.Ordering.Places.{opened_there, leads, ways}
use Rattle.law_order.specs.Ordering.Worlds.{IfGives, IsWaiting, IsObject}
use Rattle.law_order.specs.Ordering.Steps.{WaysAmid, Ready, next_key}

-- A name that a note brings on a link, behind the messages b, is at the place Mid of that link, b and the name.

-- that vat would send on it to its host, or what it sends there is lost
abbrev pub LeadsHome : Script → (ℕ → Bool) → World → ℕ → ℕ → Name → Type 0
LeadsHome script honest w h v n = (leads script honest w.vats w.links h (Ref n) ≡ End (Way h v) n) ⊎ (leads script honest w.vats w.links h (Ref n) ≡ Nowhere)

-- Of a name that passes to its host: what is ahead of all that would be sent there on it is ahead of the passing, behind all that stands on the link.
abbrev pub PassedHomeIsBehind : Type 0
PassedHomeIsBehind = (w : Ways) (a b : ℕ) (bs : List Item) (n m : Name) → Within (w.stands (Way a b)) bs → Ahead w m (End (Way a b) n) → Ahead w m (Mid (Way a b) bs n)

-- Of a name of vat v that passes to h: what is ahead of the reference at v is ahead of the passing, wherever that stands on the link.
abbrev pub PassedNameIsBehind : Type 0
PassedNameIsBehind = (script : Script) (honest : ℕ → Bool) (w : World) (v h : ℕ) (bs : List Item) (n m : Name) → honest v ≡ true → honest h ≡ true → LeadsHome script honest w h v n
    → Ahead (ways script honest w) m (leads script honest w.vats w.links v (Ref n)) → Ahead (ways script honest w) m (Mid (Way v h) bs n)

-- The vat does not know that name; or it is no object, and waits, and v is its host.
abbrev pub IsOpenAt : Script → ℕ → ℕ → Vat Name → Name → Type 0
IsOpenAt script h v s n = (entry_of (names script h) s.known n ≡ None) ⊎ ((IsObject n → ⊥) × (k : Known Name) × (entry_of (names script h) s.known n ≡ Some k) × IsWaiting k.standing × (k.host ≡ v))

-- Such a name of another vat leads home.
abbrev pub OpenNamesLeadHome : Type 0
OpenNamesLeadHome = (script : Script) (honest : ℕ → Bool) (w : World) (v h : ℕ) (s : Vat Name) (n : Name) → slice_get w.vats h ≡ Some s → s.number ≡ h → (h ≡ v → ⊥) → host_of n ≡ v → IsOpenAt script h v s n → LeadsHome script honest w h v n

-- Where a name of vat g passes from v to h, as a gift under the next word: what is ahead of all that v would send to g on it is ahead of the passing, wherever that stands on the link. The note that lets the gift go stands behind it.
-- The three vats are others and honest, the link from v to g is there, cut or not, and neither h nor g knows that gift.
abbrev pub PassedGiftIsBehind : Type 0
PassedGiftIsBehind = (script : Script) (honest : ℕ → Bool) (w : World) (v h g : ℕ) (y : Value Name) (n m : Name) (object : Bool) (bs : List Item) (s sh sg : Vat Name) (l : Link)
    → honest v ≡ true → honest h ≡ true → honest g ≡ true → (v ≡ h → ⊥) → (v ≡ g → ⊥) → (h ≡ g → ⊥)
    → slice_get w.vats h ≡ Some sh → sh.number ≡ h → entry_of (names script h) sh.known (Gift g (next_key script v s)) ≡ None
    → slice_get w.vats g ≡ Some sg → entry_of (names script g) sg.known (Gift g (next_key script v s)) ≡ None → opened_there (Gift g (next_key script v s)) sg.gifts ≡ false
    → link_at v g (push_all v s.outbox w.links) ≡ Some l
    → Ready script honest w v s → Ahead (WaysAmid script honest w v s) m (End (Way v g) n)
    → IfGives (λ t. Ahead (WaysAmid script honest w v t) m (Mid (Way v h) bs (Gift g (next_key script v s)))) (address_plain (names script v) h y (Away g n object) s)
