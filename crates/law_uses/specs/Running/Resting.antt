-- What rests in a vat as it takes a turn: which names a turn settles, and which it leaves.
use Rattle.std.specs.Prelude.{◌≡◌, ℕ, ◌<◌, List, Some, slice_get}
use Rattle.def_machine.specs.Values.{Value, Name, Object, Answer}
use Rattle.def_machine.specs.State.{Message, Known, Resolver, Viewed, Settled, Happened, PromiseMade}
use Rattle.def_machine.specs.Refs.{standing_of}
use Rattle.law_machine.specs.Machine.Steps.{Step, Opens, Takes, Receives, Notices}
use Rattle.def_run.specs.World.{Script, World, names}
use Rattle.law_uses.specs.Connectivity.Known.{IsAmong}
use Rattle.law_uses.specs.Connectivity.Settlings.{Owes}
use Rattle.law_uses.specs.Connectivity.Begotten.{LineOf}

-- an opening turn, or one that takes a message
abbrev pub IsTurn : Step Name Name → Type 0
IsTurn (Opens tree depth root given) = Unit {0}
IsTurn (Takes tree depth m) = Unit {0}
IsTurn (Receives from n) = ⊥
IsTurn (Notices w) = ⊥

-- a name that the vat knew before the step
abbrev pub WasKnown : List (Known Name) → Name → Type 0
WasKnown ks n = (k : Known Name) × IsAmong k ks × (k.name ≡ n)

-- Where Own tells which names are the vat's own to settle in a turn: the step of this line is a turn of a vat whose names rest so.
module _ (Own : Name → Type 0) {script : Script} {w : World} {v : ℕ} {e : Happened Name} (l : LineOf script w v e) where
  pub record NamesRest : Type 0 where
    pub turn : IsTurn l.step
    -- the answer of the turn or the root, and each promise with a resolver, also one made in this step
    pub owed : (a : ℕ) (p : Name) → Owes (names script v) (record { step = l.step; vat = l.before }) a p → Own p
    pub resolvers : (i : ℕ) (p : Name) → slice_get l.before.things i ≡ Some (Resolver p) → Own p
    pub promises : (a : ℕ) (p r : Name) → IsAmong (PromiseMade a p r) l.after.happened → Own p
    -- the answers of what is held, and what waits on one that is
    pub held : (k : Known Name) (m : Message Name) (p : Name) → IsAmong k l.before.known → IsAmong m k.held → m.answer ≡ Some p → Own p
    pub waits : (k : Known Name) (p : Name) → IsAmong k l.before.known → IsAmong p k.waiting → Own k.name → Own p
    -- a name that is viewed is none; it waits on its view, which is known and did not settle
    pub viewed : (m q : Name) → standing_of (names script v) l.before.known m ≡ Viewed q
        → (Own m → ⊥) × WasKnown l.before.known m × ((k : Known Name) × IsAmong k l.before.known × (k.name ≡ q) × IsAmong m k.waiting) × ((y : Value Name) → standing_of (names script v) l.before.known q ≡ Settled y → ⊥)
    -- no object is known, and an answer that is known is of a message that was numbered
    pub objects : (u i : ℕ) → WasKnown l.before.known (Object u i) → ⊥
    pub numbered : (h j : ℕ) → WasKnown l.before.known (Answer h (record { sender = v; number = j })) → j < l.before.messages
