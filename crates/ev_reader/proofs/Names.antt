-- Names as keys of a map.
use Rattle.std.proofs.Common.{◌≡◌, ℕ, Bool, true, false, cond, List, [], ◌∷◌, ◌++◌, map, refl, ap, sym, ◌∙◌}
use Rattle.std.specs.Prelude.{Option, Some, None, option_map, is_some, String, string_bytes, bytes_eq}
use Rattle.std.specs.String.{string_eq}
use Rattle.std.specs.List.{find}
use Rattle.std.specs.Map.{lookup}
use Rattle.std.specs.declared.alloc.Global.{Global}
use Rattle.std.proofs.lemmas.List.{map-append}
use Rattle.indexmap.specs.IndexMap.{IndexMap, get, insert_entry}
use Rattle.indexmap.proofs.CallerLemmas.{insert_entry-new}
use Rattle.ev_reader.specs.declared.scope.Binding.{Binding}
use Rattle.ev_reader.specs.Scopes.{bound_in, with_name}
use Rattle.ev_reader.specs.Bindings.{bindings}

abbrev var_of : Option Binding → Option Bool
var_of o = option_map (λ (b : Binding). b.is_var) o

either : (t : Bool) (b : Binding) (o : Option Bool) (p : Option Binding) → o ≡ var_of p → cond t (Some b.is_var) o ≡ var_of (cond t (Some b) p)
either true b o p e = refl
either false b o p e = e

-- looking a name up is finding its binding
pub lookup_is : (name : List ℕ) (entries : List (String Global × Bool)) → lookup (λ (k : String Global). bytes_eq name (string_bytes k)) entries ≡ bound_in name (bindings entries)
lookup_is name [] = refl
lookup_is name (e ∷ es) =
    either (bytes_eq name (string_bytes e.0)) (record { name = string_bytes e.0; is_var = e.1 }) _ (find (λ (b : Binding). bytes_eq name b.name) (bindings es)) (lookup_is name es)

with_new : (name : List ℕ) (is_var : Bool) (scope : List Binding) → bound_in name scope ≡ None → with_name name is_var scope ≡ scope ++ record { name = name; is_var = is_var } ∷ []
with_new name is_var scope none = ap (λ (o : Option Bool). elim (is_some o) [ true ↦ scope | false ↦ scope ++ record { name = name; is_var = is_var } ∷ [] ]) none

-- a new name is bound last
pub inserted_is : {S : Type 0} (names : IndexMap (String Global) Bool S) (key : String Global) (is_var : Bool) (name : List ℕ)
    → string_bytes key ≡ name → bound_in name (bindings names.entries) ≡ None
    → bindings (insert_entry string_eq names.entries key is_var) ≡ with_name name is_var (bindings names.entries)
inserted_is names key is_var name key-is none =
    let absent : get string_eq names key ≡ None
    = lookup_is (string_bytes key) names.entries ∙ ap (λ n. bound_in n (bindings names.entries)) key-is ∙ none in
    ap bindings (insert_entry-new string_eq names key is_var absent)
    ∙ map-append _ names.entries ((key, is_var) ∷ [])
    ∙ ap (λ n. bindings names.entries ++ record { name = n; is_var = is_var } ∷ []) key-is
    ∙ sym (with_new name is_var (bindings names.entries) none)
