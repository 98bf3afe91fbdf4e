-- Programs: the names that they are given, what they are read as, and how one is refused.
use Rattle.std.specs.Prelude.{◌≡◌, ℕ, List, [], ◌∷◌, ◌++◌, codes, length, map, slice_get, Some, None, Result, Ok, Err}
use Rattle.std.specs.declared.option.Option.{Option}
use Rattle.ev_base.specs.SafeScope.{primitives}
use Rattle.def_kernel.specs.declared.node.Node.{Node}
use Rattle.ev_reader.specs.declared.accepted.Scoped.{Scoped}
use Rattle.ev_reader.specs.Program.{Answers}
use Rattle.ev_reader.specs.Stages.{fault_text}
use Rattle.ev_reader.specs.declared.fault.ProgramFault.{ProgramFault}
use Rattle.ev_reader.specs.declared.fault.ProgramFault.TheVariants.{At, Memory as NoMemory}
use Rattle.ev_reader.specs.declared.fault.Stage.{Stage as Part}
use Rattle.ev_reader.specs.declared.fault.Stage.TheVariants as parts
use Rattle.ev_script.specs.declared.script.VatScript.{VatScript}
use Rattle.ev_io.specs.Debt.{IsFor, program_refused}
use Rattle.ev_io.specs.declared.status.Status.{Status}
use Rattle.ev_io.specs.declared.status.Refusal.{Refusal}
use Rattle.ev_io.specs.declared.status.Stage.{Stage}
use Rattle.ev_io.specs.declared.status.Stage.TheVariants.{Lex, Parse, Nested, Expand, Scope}

-- every program is given the names of the safe scope
abbrev pub safe_names : List (List ℕ)
safe_names = codes "null" ∷ codes "true" ∷ codes "false" ∷ primitives

abbrev pub name_found : Option VatScript → List ℕ
name_found (Some vat) = vat.name
name_found None = []

-- the name of the vat at a place
abbrev pub name_of : List VatScript → ℕ → List ℕ
name_of vats place = name_found (slice_get vats place)

-- the program of one of these vats is given also the names of the vats that it knows, in order, and no other
abbrev pub names_for : List VatScript → VatScript → List (List ℕ)
names_for vats vat = safe_names ++ map (name_of vats) vat.knows

-- what a program with these names is read as, its tree or its fault, is so
abbrev pub ReadAs : List ℕ → List (List ℕ) → (Result Scoped ProgramFault → Type 0) → Type 0
ReadAs program given Is = (answer : Result Scoped ProgramFault) × Answers answer program given × Is answer

-- ---- the programs of the vats of a script

-- the source of one of these vats is read so
abbrev pub IsRead : List VatScript → VatScript → Result Scoped ProgramFault → Type 0
IsRead vats vat answer = Answers answer vat.source (names_for vats vat)

-- the sources of some of these vats are read so, one after the other
abbrev pub AreRead : List VatScript → List VatScript → List Scoped → Type 0
AreRead all [] [] = Unit {0}
AreRead all (vat ∷ vats) (scoped ∷ programs) = IsRead all vat (Ok scoped) × AreRead all vats programs
AreRead all [] (scoped ∷ programs) = ⊥
AreRead all (vat ∷ vats) [] = ⊥

-- the trees that programs are read to
abbrev pub trees_of : List Scoped → List (List Node)
trees_of programs = map (λ (scoped : Scoped). scoped.tree) programs

-- the vat at that place is the first whose source is refused, and its reading ends with this fault
abbrev pub IsFirstRefused : List VatScript → ℕ → ProgramFault → Type 0
IsFirstRefused all place fault = (front : List VatScript) × (vat : VatScript) × (more : List VatScript) × (programs : List Scoped)
    × (all ≡ front ++ vat ∷ more) × (length front ≡ place) × AreRead all front programs × IsRead all vat (Err fault)

-- ---- refusals

-- the stage of a refusal
abbrev pub stage_of : Part → Stage
stage_of parts.Lex = Lex
stage_of parts.Parse = Parse
stage_of parts.Nested = Nested
stage_of parts.Expand = Expand
stage_of parts.Scope = Scope

-- the refusal of the program of the vat of that number; of a program of no vat the number is 0
abbrev pub refusal : ℕ → Part → ℕ → ℕ → Refusal
refusal vat part kind place = record { vat = vat; stage = stage_of part; kind = kind; place = place }

-- A status and a text are what is due for a program of that vat that goes by this name and is read to this fault.
abbrev pub IsDueOfFault : ℕ → List ℕ → ProgramFault → Status → List ℕ → Type 0
IsDueOfFault vat name (At part kind place) status text = IsFor status text (program_refused name (refusal vat part kind place) (fault_text (At part kind place)))
IsDueOfFault vat name NoMemory status text = ⊥
