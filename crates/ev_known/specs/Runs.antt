-- Which object's code activations run, in the terms of a table.
use Rattle.std.specs.Prelude.{◌≡◌, ◌⊎◌, ℕ, cond, List, Option, Some, None}
use Rattle.std.specs.Map.{lookup}
use Rattle.ev_base.specs.declared.names.Name.{Name}
use Rattle.def_event.specs.Uses as uses
use Rattle.def_event.specs.Uses.{AName, Line, IsTold, Running}
use Rattle.ev_known.specs.declared.facts.Activation.{Activation}
use Rattle.ev_links.specs.declared.label.Label.{Label}
use Rattle.ev_known.specs.contracts.facts.ActivationPartialEq.TheImpl.{eq-value}
use Rattle.ev_links.specs.Label.{label}
use Rattle.ev_known.specs.Telling.{activation}
use Rattle.ev_known.specs.Following.{FollowedAs}

-- the object of an activation
unfoldable pub runner : List (Activation × Label) → Activation → Option Label
runner es a = lookup (eq-value.it a) es

abbrev pub RunsPut : Activation → Label → List (Activation × Label) → List (Activation × Label) → Type 0
RunsPut a o old new = (q : Activation) → runner new q ≡ cond (eq-value.it a q) (Some o) (runner old q)

-- what the table has for an activation is the object whose code it runs
abbrev pub RunsAs : List Line → uses.Activation → Option Label → Type 0
RunsAs past a None = (o : Name) → uses.Runs past a o → ⊥
RunsAs past a (Some l) = (o : Name) × (label (AName o) ≡ l) × uses.Runs past a o × ((p : Name) → uses.Runs past a p → p ≡ o)

pub record RunsStand (es : List (Activation × Label)) (past : List Line) : Type 0 where
  pub each : (a : uses.Activation) → RunsAs past a (runner es (activation a))

abbrev pub PutIf : Activation → Option Label → List (Activation × Label) → List (Activation × Label) → Type 0
PutIf a None old new = new ≡ old
PutIf a (Some o) old new = RunsPut a o old new

-- after an activation of that number at a place would begin with that target: it has begun, or what the target is followed to is put
abbrev pub RunAfter : List Line → ℕ → ℕ → Name → List (Activation × Label) → List (Activation × Label) → Type 0
RunAfter past at n t old new =
    (IsTold past (uses.Begun (record { at = at; number = n })) × (new ≡ old))
    ⊎ ((IsTold past (uses.Begun (record { at = at; number = n })) → ⊥) × (object : Option Label) × FollowedAs past at t object × PutIf (record { at = at; number = n }) object old new)

abbrev pub RunTarget : List Line → ℕ → ℕ → Option Name → List (Activation × Label) → List (Activation × Label) → Type 0
RunTarget past at n None old new = new ≡ old
RunTarget past at n (Some t) old new = RunAfter past at n t old new

abbrev pub RunTold : List Line → ℕ → Option Running → List (Activation × Label) → List (Activation × Label) → Type 0
RunTold past at None old new = new ≡ old
RunTold past at (Some r) old new = RunTarget past at r.activation r.target old new
