-- Programs that are read are small kernel trees, and so a text tells which run it is of.
use Rattle.std.proofs.Common.{◌≡◌, ℕ, zero, suc, ◌*◌, ◌^◌, ◌≤◌, ◌<◌, List, [], ◌∷◌, Some, Ok, All, true, length, slice_get, subst, refl, arith}
use Rattle.std.specs.Str.{IsUtf8}
use Rattle.std.proofs.lemmas.List.Elements.{All-head, All-tail}
use Rattle.def_kernel.specs.declared.node.Node.{Node}
use Rattle.def_kernel.specs.Trees.{IsTree}
use Rattle.law_text.specs.Text.Feeds.{AllOf}
use Rattle.law_text.specs.RunTexts.Laws.{IsShort}
use Rattle.ev_script.specs.Vats.{is_vat_name}
use Rattle.ev_script.specs.Rules.{IsAdmitted}
use Rattle.ev_script.specs.Script.{read}
use Rattle.ev_script.specs.declared.script.Script.{Script}
use Rattle.ev_script.specs.declared.script.VatScript.{VatScript}
use Rattle.ev_script.proofs.Admitted.{read_admitted}
use Rattle.law_read.proofs.ReadScripts.Sources.{sources_are_texts}
use Rattle.law_reading.proofs.Expansion.Tokens.{what_is_read_is_a_tree}
use Rattle.law_reading.proofs.Sized.Small.{what_is_read_is_small}
use Rattle.law_read.specs.ReadScripts.Runs.{IsReadTo, AreReadTo}
use Rattle.law_read.specs.ReadScripts.Texts.{HasTrees, HasFewNodes}
use Rattle.law_read.proofs.ReadScripts.Bounded.{bounded, tell_scripts}
use Rattle.law_read.specs.ReadScripts.ReadTexts.{ReadRunsAreBounded, TextsTellReadScripts}

-- a kernel tree of few nodes and short texts
record IsSmall (tree : List Node) : Type 0 where
  is_tree : IsTree tree
  short : AllOf IsShort tree
  few : length tree ≤ 2 ^ 32

few_nodes : (n : ℕ) (tree : List Node) → n ≤ 65536 → length tree ≤ 14 * suc n → length tree ≤ 2 ^ 32
few_nodes n tree l h = omega (arith, l, h)

small : (vats : List VatScript) (vat : VatScript) (tree : List Node) → IsUtf8 vat.source → length vat.source ≤ 65536 → IsReadTo vats vat tree → IsSmall tree
small vats vat tree utf8 l (scoped, names, given, answers, same) =
    let sized = what_is_read_is_small vat.source names scoped l answers in
    subst IsSmall same (record {
      is_tree = what_is_read_is_a_tree vat.source names scoped utf8 answers;
      short = sized.1;
      few = few_nodes (length vat.source) scoped.tree l sized.0;
    })

-- the vat at a place, with what holds of its source
record At (vats : List VatScript) (place : ℕ) : Type 0 where
  vat : VatScript
  there : slice_get vats place ≡ Some vat
  utf8 : IsUtf8 vat.source
  size : length vat.source ≤ 65536

vat_at : (vats : List VatScript) (place : ℕ) → place < length vats → All (λ (v : VatScript). IsUtf8 v.source) vats → All (λ (v : VatScript). (is_vat_name v.name ≡ true) × (length v.source ≤ 65536)) vats → At vats place
vat_at [] place h texts sizes = absurd (omega (arith, h))
vat_at (v ∷ vats) zero h texts sizes = record {
  vat = v;
  there = refl;
  utf8 = All-head (λ (w : VatScript). IsUtf8 w.source) v vats texts;
  size = (All-head (λ (w : VatScript). (is_vat_name w.name ≡ true) × (length w.source ≤ 65536)) v vats sizes).1;
}
vat_at (v ∷ vats) (suc place) h texts sizes =
    let further = vat_at vats place (omega (arith, h)) (All-tail (λ (w : VatScript). IsUtf8 w.source) v vats texts) (All-tail (λ (w : VatScript). (is_vat_name w.name ≡ true) × (length w.source ≤ 65536)) v vats sizes) in
    record { vat = further.vat; there = further.there; utf8 = further.utf8; size = further.size }

are_small : (bytes : List ℕ) (script : Script) → read bytes ≡ Ok script → (tree : ℕ → List Node) → AreReadTo script tree → (place : ℕ) → place < length script.vats → IsSmall (tree place)
are_small bytes script e tree are place h =
    let admitted : IsAdmitted script = read_admitted bytes (Ok script) e in
    let found = vat_at script.vats place h (sources_are_texts bytes script e) admitted.vats.2 in
    small script.vats found.vat (tree place) found.utf8 found.size (are place found.vat found.there)

pub trees : (bytes : List ℕ) (script : Script) → read bytes ≡ Ok script → (tree : ℕ → List Node) → AreReadTo script tree → HasTrees script tree
trees bytes script e tree are place h = let s = are_small bytes script e tree are place h in (s.is_tree, s.short)

few : (bytes : List ℕ) (script : Script) → read bytes ≡ Ok script → (tree : ℕ → List Node) → AreReadTo script tree → HasFewNodes script tree
few bytes script e tree are place h = (are_small bytes script e tree are place h).few

pub read_runs_are_bounded : ReadRunsAreBounded
read_runs_are_bounded bytes script e depth tree are = bounded bytes script e depth tree (trees bytes script e tree are) (few bytes script e tree are)

pub texts_tell_read_scripts : TextsTellReadScripts
texts_tell_read_scripts bytes others script other e f depth deep tree grown are there names =
    tell_scripts bytes others script other e f depth deep tree grown (trees bytes script e tree are) (trees others other f grown there) (few bytes script e tree are) (few others other f grown there) names
