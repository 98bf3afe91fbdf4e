-- The safe scope: the names that every program is given, and their values.
use Rattle.std.specs.Prelude.{ℕ, true, false, if◌then◌else◌, List, [], ◌∷◌, codes, Some, option_map, position}
use Rattle.std.specs.declared.option.Option.{Option}
use Rattle.std.specs.Str.{bytes_eq}
use Rattle.ev_base.specs.declared.values.Value.{Value}
use Rattle.ev_base.specs.declared.values.Value.TheVariants.{Null, Bool, Prim}

-- the primitives, each at the place of its number
abbrev pub primitives : List (List ℕ)
primitives =
    codes "__makeList" ∷ codes "__equalizer" ∷ codes "__comparer" ∷ codes "__loop" ∷ codes "E" ∷ codes "Ref"
    ∷ codes "throw" ∷ codes "auditedBy" ∷ codes "any" ∷ codes "void" ∷ codes "int" ∷ codes "boolean" ∷ codes "char"
    ∷ codes "String" ∷ codes "List" ∷ codes "nullOk" ∷ codes "near" ∷ codes "DeepFrozen" ∷ codes "Selfless" ∷ codes "Functional" ∷ []

abbrev pub primitive_number : List ℕ → Option ℕ
primitive_number noun = position (bytes_eq noun) primitives

-- the value of a noun, where it is in the safe scope
abbrev pub safe_value : List ℕ → Option Value
safe_value noun =
    if bytes_eq noun (codes "null") then Some Null
    else if bytes_eq noun (codes "true") then Some (Bool true)
    else if bytes_eq noun (codes "false") then Some (Bool false)
    else option_map Prim (primitive_number noun)
