-- What a vat has in numbers for a peer stands for a connection of the machine, in local numbers.
use Rattle.std.specs.Prelude.{◌≡◌, ℕ, Bool, true, false, List, [], ◌∷◌, map, option_map, Option, Some, None}
use Rattle.ev_base.specs.declared.values.Value.{Value}
use Rattle.ev_base.specs.declared.values.Value.TheVariants as held
use Rattle.def_machine.specs.Values.{Local, Obj, Prom, Far, Mess, same_local}
use Rattle.def_run.specs.Connections.{Connection, Sight}
use Rattle.ev_tables.specs.Table.{Table, name_of, place_of, export_number}
use Rattle.ev_tables.specs.declared.numeral.Number.{Number}
use Rattle.ev_tables.specs.declared.numeral.Number.TheVariants.{YourExport, YourAnswer, MyAnswer}

-- a reference; data is none, and stands for what no reference is
unfoldable pub local_of : Value → Local
local_of (held.Obj i) = Obj i
local_of (held.Prom n) = Prom n
local_of (held.Far h p) = Far h p
local_of v = Mess 0

unfoldable pub is_reference : Value → Bool
is_reference (held.Obj i) = true
is_reference (held.Prom n) = true
is_reference (held.Far h p) = true
is_reference v = false

abbrev pub connection_of : Table → Connection Local
connection_of t = record { exports = map local_of t.exports; imports = map local_of t.imports; questions = map Prom t.asked; answers = map Prom t.answers }

-- ---- how the vat sees its names

-- whether it hosts what it names so, where those promises are its own
unfoldable pub is_own : (ℕ → Bool) → Local → Bool
is_own mine (Obj i) = true
is_own mine (Prom n) = mine n
is_own mine (Far h p) = false
is_own mine (Mess m) = false

unfoldable pub is_object : Local → Bool
is_object (Obj i) = true
is_object (Far h p) = true
is_object (Prom n) = false
is_object (Mess m) = false

-- how it sees them, where the answer of the message at hand is that
abbrev pub sight_of : (ℕ → Bool) → Local → Sight Local
sight_of mine answer = record { same = same_local; own = is_own mine; object = is_object; answer = λ m. answer }

-- ---- which of its numbers a value is found by

abbrev pub promises : List ℕ → List Value
promises ns = map held.Prom ns

abbrev pub or_else : {A : Type 0} → Option A → Option A → Option A
or_else (Some x) o = Some x
or_else None o = o

-- the number that came first at the host: what the vat hosts has its position, and else the question that the peer asked; what the peer hosts has the vat's question, and else its position
unfoldable pub first_number : Bool → Value → Table → Option Number
first_number true v t = or_else (option_map (export_number v) (place_of v t.exports)) (option_map MyAnswer (place_of v (promises t.answers)))
first_number false v t = or_else (option_map YourAnswer (place_of v (promises t.asked))) (option_map YourExport (place_of v t.imports))

abbrev pub AreReferences : List Value → Type 0
AreReferences [] = Unit {0}
AreReferences (v ∷ vs) = (is_reference v ≡ true) × AreReferences vs

-- What holds of a vat's table all along, where those promises are its own: each reference is found by the number that came first, and what stands at positions are references.
pub record IsKept (mine : ℕ → Bool) (t : Table) : Type 0 where
  pub found : (v : Value) → is_reference v ≡ true → name_of v t.names ≡ first_number (is_own mine (local_of v)) v t
  pub exports : AreReferences t.exports
  pub imports : AreReferences t.imports
