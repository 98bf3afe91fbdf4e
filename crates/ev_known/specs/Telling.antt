-- What the facts that were told are after more lines, in the terms of a set.
use Rattle.std.specs.Prelude.{◌↔◌, ℕ, Bool, if◌then◌else◌, List, [], ◌∷◌, map, Option, Some, None}
use Rattle.std.specs.List.{list_any}
use Rattle.indexmap.specs.IndexSet.{insert_key}
use Rattle.ev_base.specs.declared.names.Name.{Name}
use Rattle.def_event.specs.declared.shown.Shown.{Shown, Name as Named}
use Rattle.def_event.specs.declared.event.Addressed.{Addressed}
use Rattle.def_event.specs.declared.event.Called.{Called}
use Rattle.def_event.specs.declared.event.Event.{Event}
use Rattle.def_event.specs.declared.event.Event.TheVariants.{Open, Take, Call, Made as ObjectMade}
use Rattle.def_event.specs.Uses as uses
use Rattle.def_event.specs.Uses.{things_of, lists_of, given, gains, Captured, IsAmong, IsTold, Line}
use Rattle.ev_known.specs.declared.facts.Activation.{Activation}
use Rattle.ev_known.specs.declared.facts.Fact.{Fact}
use Rattle.ev_known.specs.declared.facts.Fact.TheVariants as fact
use Rattle.ev_known.specs.contracts.facts.FactPartialEq.TheImpl.{eq-value}
use Rattle.ev_links.specs.Label.{label}

abbrev pub activation : uses.Activation → Activation
activation a = record { at = a.at; number = a.number }

-- a fact with labels
unfoldable pub key : uses.Fact → Fact
key (uses.Begun a) = fact.Begun (activation a)
key (uses.Opened a) = fact.Opened (activation a)
key (uses.Given a t) = fact.Given (activation a) (label t)
key (uses.Made n) = fact.Made (label (uses.AName n))
key (uses.Captured n t) = fact.Captured (label (uses.AName n)) (label t)
key (uses.Audition n) = fact.Audition (label (uses.AName n))

-- whether a fact stands among those that were told
unfoldable pub is_told : List Fact → Fact → Bool
is_told old f = list_any (eq-value.it f) old

-- one more, if it is new
unfoldable pub with_fact : List Fact → Fact → List Fact
with_fact old f = insert_key eq-value.it old f

abbrev pub told : List Fact → List Fact → List Fact
told old [] = old
told old (f ∷ fs) = told (with_fact old f) fs

-- an activation is given what values are
abbrev pub told_values : Activation → List Fact → List Shown → List Fact
told_values a old [] = old
told_values a old (x ∷ xs) = told_values a (told old (map key (given a.at a.number (things_of x)))) xs

-- an object captures what values are
abbrev pub told_captures : Name → List Fact → List Shown → List Fact
told_captures n old [] = old
told_captures n old (x ∷ xs) = told_captures n (told old (map key (map (λ t. Captured n t) (things_of x)))) xs

-- unless it has begun, the activation begins
abbrev pub told_taken : Activation → Addressed → List Fact → List Fact
told_taken a t old =
    if is_told old (fact.Begun a) then old
    else told_values a (told (with_fact old (fact.Begun a)) (map key (given a.at a.number (lists_of t.target)))) t.args

abbrev pub told_called : ℕ → Called → Option ℕ → List Fact → List Fact
told_called at c None old = old
told_called at c (Some b) old =
    let a : Activation = record { at = at; number = b } in
    if is_told old (fact.Begun a) then old else told_values a (with_fact old (fact.Begun a)) c.args

abbrev pub told_opened : Activation → List Fact → List Fact
told_opened a old = if is_told old (fact.Begun a) then old else with_fact (with_fact old (fact.Begun a)) (fact.Opened a)

unfoldable pub told_begun : ℕ → Event → List Fact → List Fact
told_begun at (Open v) old = told_opened (record { at = at; number = 0 }) old
told_begun at (Take t) old = told_taken (record { at = at; number = t.activation }) t old
told_begun at (Call c) old = told_called at c c.begun old
told_begun at _ old = old

-- unless it was made, the object is made
abbrev pub told_object : Name → List Shown → List Fact → List Fact
told_object n caps old = if is_told old (fact.Made (label (uses.AName n))) then old else told_captures n (with_fact old (fact.Made (label (uses.AName n)))) caps

abbrev pub told_value : Shown → List Shown → List Fact → List Fact
told_value (Named n) caps old = told_object n caps old
told_value _ caps old = old

unfoldable pub told_made : Event → List Fact → List Fact
told_made (ObjectMade o) old = told_value o.object o.caps old
told_made _ old = old

-- the facts after a line at a place
abbrev pub told_line : ℕ → Event → List Fact → List Fact
told_line at e old = told (told_begun at e (told_made e old)) (map key (gains at e))

-- the set has exactly the facts that the lines tell
pub record StandsFor (facts : List Fact) (past : List Line) : Type 0 where
  pub each : (f : uses.Fact) → IsAmong (key f) facts ↔ IsTold past f
