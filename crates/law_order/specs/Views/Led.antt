-- A name settles to what it led to already: to what its view settled to, or to what is broken where its host was noticed.
use Rattle.std.specs.Prelude.{◌≡◌, ℕ, Bool, true, [], Some, length}
use Rattle.def_machine.specs.Values.{Words, Value, Broken, Name, Gift, Naming, NoObject}
use Rattle.def_machine.specs.State.{Unsettled, Viewed, Settled, Known, Vat, is_in}
use Rattle.def_machine.specs.Refs.{entry_of, standing_of, follow_at}
use Rattle.def_run.specs.World.{Script, World, names}
use Rattle.law_order.specs.Ordering.Settle.{IsEnded, settled_to}
use Rattle.law_order.specs.Ordering.Steps.{Ready, Grown}
use Rattle.law_order.specs.Ordering.Worlds.{FollowsEnd}

-- From s to t name p stands otherwise: as the first tells, and then as the second. It holds nothing, and of all else nothing changes that tells where messages go.
pub record StandsOtherwise (K : Naming Name Name) (s t : Vat Name) (p : Name) (before after : Known Name) : Type 0 where
  pub number : t.number ≡ s.number
  pub gifts : t.gifts ≡ s.gifts
  pub noticed : t.noticed ≡ s.noticed
  pub queue : t.queue ≡ s.queue
  pub outbox : t.outbox ≡ s.outbox
  pub messages : t.messages ≡ s.messages
  pub promises : t.promises ≡ s.promises
  pub drawn : t.drawn ≡ s.drawn
  pub names_known : length t.known ≡ length s.known
  pub found : entry_of K s.known p ≡ Some before
  pub empty : before.held ≡ []
  pub found_then : entry_of K t.known p ≡ Some after
  pub host : after.host ≡ before.host
  pub empty_then : after.held ≡ []
  pub others : (n : Name) → (n ≡ p → ⊥) → entry_of K t.known n ≡ entry_of K s.known n

-- Where p has a view that settled to y, it settles to y.
pub record SettlesAsItsView (K : Naming Name Name) (s t : Vat Name) (p : Name) (y : Value Name) : Type 0 where
  pub before : Known Name
  pub after : Known Name
  pub only : StandsOtherwise K s t p before after
  pub view : Name
  pub viewed : before.standing ≡ Viewed view
  pub leads : standing_of K s.known view ≡ Settled y
  pub settled : after.standing ≡ Settled y
  -- y is data or an object, and leads on to nothing
  pub plain : IsEnded y
  pub ended : (d : ℕ) → follow_at K d s.known y ≡ y
  pub ended_then : (d : ℕ) → follow_at K d t.known y ≡ y

-- Where the vat noticed the host of p, which is no object, an unsettled p breaks; and the vat follows all to an end after it.
pub record BreaksAsItsHost (K : Naming Name Name) (s t : Vat Name) (p : Name) (problem : Words) : Type 0 where
  pub before : Known Name
  pub after : Known Name
  pub only : StandsOtherwise K s t p before after
  pub unsettled : before.standing ≡ Unsettled
  pub noticed : is_in before.host s.noticed ≡ true
  pub broken : after.standing ≡ Settled (Broken problem)
  pub plain : K.spot p ≡ NoObject
  pub follows : FollowsEnd K t

-- Then the ways stay as they were, each reference leads where it led, and who was ready is.
abbrev pub ViewsSettleQuietly : Type 0
ViewsSettleQuietly = (script : Script) (honest : ℕ → Bool) (w : World) (v : ℕ) (s t : Vat Name) (p : Name) (y : Value Name) → SettlesAsItsView (names script v) s t p y → Ready script honest w v s → Ready script honest w v t × Grown script honest w v s t

-- So the machine has a name settle whose view settled, if the name holds nothing and the vat follows all to an end.
abbrev pub ViewedNamesSettleSo : Type 0
ViewedNamesSettleSo = (script : Script) (v : ℕ) (s : Vat Name) (p g : Name) (y : Value Name) (k : Known Name) → FollowsEnd (names script v) s → entry_of (names script v) s.known p ≡ Some k → k.standing ≡ Viewed g → standing_of (names script v) s.known g ≡ Settled y → k.held ≡ [] → IsEnded y
    → SettlesAsItsView (names script v) s (settled_to (names script v) s p y) p y

-- As a name breaks whose host the vat noticed, the ways only grow, and who was ready is: each reference to it led nowhere, and nothing was said of what it would hold if it is no gift of the vat.
abbrev pub SeveredNamesBreakQuietly : Type 0
SeveredNamesBreakQuietly = (script : Script) (honest : ℕ → Bool) (w : World) (v : ℕ) (s t : Vat Name) (p : Name) (problem : Words) → BreaksAsItsHost (names script v) s t p problem → ((i : ℕ) → p ≡ Gift v i → ⊥)
    → Ready script honest w v s → Ready script honest w v t × Grown script honest w v s t
