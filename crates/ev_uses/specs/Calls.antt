-- The open calls of activations, in the terms of a table.
use Rattle.std.specs.Prelude.{◌≡◌, ◌↔◌, ℕ, true, codes, cond, drop, if◌then◌else◌, List, [], ◌∷◌, Option, Some, None, unwrap_or}
use Rattle.std.specs.Str.{bytes_eq}
use Rattle.std.specs.Map.{lookup}
use Rattle.ev_base.specs.declared.names.Name.{Name}
use Rattle.def_event.specs.declared.shown.Shown.{Shown}
use Rattle.def_event.specs.declared.event.Called.{Called}
use Rattle.def_event.specs.declared.event.Event.{Event}
use Rattle.def_event.specs.declared.event.Event.TheVariants.{Call, Back, Thrown, Gone}
use Rattle.def_event.specs.Uses as uses
use Rattle.def_event.specs.Uses.{AsksAudition, GivesBack, Line, OpenCall, name_of, open_calls}
use Rattle.ev_known.specs.declared.facts.Activation.{Activation}
use Rattle.ev_known.specs.contracts.facts.ActivationPartialEq.TheImpl.{eq-value}
use Rattle.ev_known.specs.Telling.{activation}
use Rattle.ev_uses.specs.declared.stack.OpenedCall.{OpenedCall}

abbrev pub Stacks : Type 0
Stacks = List (Activation × List OpenedCall)

-- the open calls of an activation, the innermost first
unfoldable pub stack : Stacks → Activation → List OpenedCall
stack rows a = unwrap_or (lookup (eq-value.it a) rows) []

-- the activation has these open calls, and all others have what they had
abbrev pub HasStack : Activation → List OpenedCall → Stacks → Stacks → Type 0
HasStack a calls old new = (q : Activation) → stack new q ≡ cond (eq-value.it a q) calls (stack old q)

-- the name that a call asks for a guard
abbrev pub asked_name : Called → Option Name
asked_name c = if bytes_eq c.verb (codes "getGuard") then name_of c.target else None

-- what is kept of a call at a place
abbrev pub IsKeptOf : ℕ → OpenCall → OpenedCall → Type 0
IsKeptOf at c x = (x.begun ≡ c.call.begun) × ((x.asks_audition ≡ true) ↔ AsksAudition at c)

-- one for one
abbrev pub AreKeptOf : ℕ → List OpenCall → List OpenedCall → Type 0
AreKeptOf at [] [] = Unit {0}
AreKeptOf at (c ∷ cs) (x ∷ xs) = IsKeptOf at c x × AreKeptOf at cs xs
AreKeptOf at _ _ = ⊥

-- the stacks are those of the open calls
pub record CallsStand (rows : Stacks) (past : List Line) : Type 0 where
  pub each : (a : uses.Activation) → AreKeptOf a.at (open_calls past a.at a.number) (stack rows (activation a))

-- a call begins
abbrev pub Opens : List Line → ℕ → Called → Stacks → Stacks → Type 0
Opens past at c old new =
    let a : Activation = record { at = at; number = c.activation } in
    (x : OpenedCall) × IsKeptOf at (record { call = c; before = past }) x × HasStack a (x ∷ stack old a) old new

-- the innermost call ends
abbrev pub Closes : ℕ → ℕ → Stacks → Stacks → Type 0
Closes at n old new = let a : Activation = record { at = at; number = n } in HasStack a (drop 1 (stack old a)) old new

unfoldable pub CallsAfter : List Line → ℕ → Event → Stacks → Stacks → Type 0
CallsAfter past at (Call c) old new = Opens past at c old new
CallsAfter past at (Back n x) old new = Closes at n old new
CallsAfter past at (Thrown n x) old new = Closes at n old new
CallsAfter past at (Gone n) old new = Closes at n old new
CallsAfter past at _ old new = new ≡ old

-- what the value names is given back to the activation
abbrev pub GivesBackValue : List Line → ℕ → ℕ → Shown → Type 0
GivesBackValue past at a x = (n : Name) → name_of x ≡ Some n → GivesBack past at a n (open_calls past at a)
