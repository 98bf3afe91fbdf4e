-- Programs that are read are checked, and so no run of them goes astray.
use Rattle.std.proofs.Common.{◌≡◌, ℕ, zero, suc, List, [], ◌∷◌, Some, None, Ok, All, slice_get, subst}
use Rattle.std.specs.Str.{IsUtf8}
use Rattle.std.proofs.lemmas.List.Elements.{All-head, All-tail}
use Rattle.def_kernel.specs.declared.node.Node.{Node}
use Rattle.def_kernel.specs.Trees.{IsTree}
use Rattle.ev_reader.specs.Scopes.{first_fault}
use Rattle.ev_script.specs.Script.{read}
use Rattle.ev_script.specs.declared.script.Script.{Script}
use Rattle.ev_script.specs.declared.script.VatScript.{VatScript}
use Rattle.law_read.proofs.ReadScripts.Sources.{sources_are_texts}
use Rattle.law_reading.proofs.Expansion.Tokens.{what_is_read_is_a_tree}
use Rattle.law_read.specs.ReadScripts.Checked.{IsChecked, AreChecked}
use Rattle.law_read.proofs.ReadScripts.Checked.{no_checked_script_goes_astray}
use Rattle.law_read.specs.ReadScripts.Runs.{IsReadTo, AreReadTo, NoReadScriptGoesAstray}

-- what holds of all holds of the one at a place
at_place : {A : Type 0} (P : A → Type 0) (xs : List A) → All P xs → (place : ℕ) (x : A) → slice_get xs place ≡ Some x → P x
at_place P [] all place x e = cc
at_place P (first ∷ rest) all zero x e = let same : first ≡ x = cc in subst P same (All-head P first rest all)
at_place P (first ∷ rest) all (suc place) x e = at_place P rest (All-tail P first rest all) place x e

is_checked : (vats : List VatScript) (vat : VatScript) (tree : List Node) → IsUtf8 vat.source → IsReadTo vats vat tree → IsChecked vats vat tree
is_checked vats vat tree text (scoped, names, given, answers, same) = (
  subst IsTree same (what_is_read_is_a_tree vat.source names scoped text answers),
  (names, given, subst (λ (t : List Node). first_fault t names ≡ None) same answers.3),
)

are_checked : (bytes : List ℕ) (script : Script) → read bytes ≡ Ok script → (tree : ℕ → List Node) → AreReadTo script tree → AreChecked script tree
are_checked bytes script e tree are = λ v vat there.
    is_checked script.vats vat (tree v) (at_place (λ (w : VatScript). IsUtf8 w.source) script.vats (sources_are_texts bytes script e) v vat there) (are v vat there)

pub no_read_script_goes_astray : NoReadScriptGoesAstray
no_read_script_goes_astray bytes script e depth tree are = no_checked_script_goes_astray bytes script e depth tree (are_checked bytes script e tree are)
