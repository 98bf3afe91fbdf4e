-- A script that is read is of its vats.
use Rattle.std.proofs.Common.{◌≡◌, ◌≢◌, ◌≤◌, ◌<◌, ◌+◌, ◌^◌, ℕ, zero, suc, List, [], ◌∷◌, Some, Ok, All, length, map, refl, sym, ap, subst, arith}
use Rattle.std.specs.Prelude.{slice_get}
use Rattle.std.proofs.lemmas.List.Elements.{All-head, All-tail}
use Rattle.def_kernel.specs.declared.node.Node.{Node}
use Rattle.def_run.specs.World.{Program}
use Rattle.def_kernel.specs.Trees.{IsTree}
use Rattle.law_schedule.specs.Scripts.{machine_entry, machine_vats, machine_script}
use Rattle.law_read.proofs.ReadScripts.Vats.{vats_named}
use Rattle.law_text.specs.Text.Feeds.{AllOf}
use Rattle.law_text.specs.RunTexts.Laws.{IsEntryOf as IsOfThese, IsShort, IsOfVats}
use Rattle.law_text.proofs.RunTexts.Runs.{tell_runs}
use Rattle.ev_script.specs.Rules.{IsEntryOf, IsAdmitted}
use Rattle.ev_script.specs.declared.script.Entry.{Entry}
use Rattle.ev_script.specs.declared.script.Entry.TheVariants.{Turn}
use Rattle.ev_script.specs.declared.script.Script.{Script}
use Rattle.ev_script.specs.declared.script.VatScript.{VatScript}
use Rattle.ev_script.proofs.Admitted.{read_admitted}
use Rattle.law_read.specs.ReadScripts.Texts.{HasTrees, TextsTellRunsOfAcceptedScripts}

-- ---- the vats

pub vats_count : (tree : ℕ → List Node) (place : ℕ) (vats : List VatScript) → length (machine_vats tree place vats) ≡ length vats
vats_count tree place [] = refl
vats_count tree place (v ∷ vats) = ap suc (vats_count tree (suc place) vats)

trees_of : (tree : ℕ → List Node) (place : ℕ) (vats : List VatScript) → ((i : ℕ) → place ≤ i → i < place + length vats → IsTree (tree i) × AllOf IsShort (tree i))
    → AllOf (λ (p : Program). IsTree p.tree × AllOf IsShort p.tree) (machine_vats tree place vats)
trees_of tree place [] h = tt
trees_of tree place (v ∷ vats) h = (h place (omega arith) (omega arith), trees_of tree (suc place) vats (λ i l m. h i (omega (arith, l)) (omega (arith, m))))

low_each : (count v : ℕ) (ks : List ℕ) → All (λ k. (k < count) × (k ≢ v)) ks → AllOf (λ (k : ℕ). k < count) ks
low_each count v [] h = tt
low_each count v (k ∷ ks) h = ((All-head (λ x. (x < count) × (x ≢ v)) k ks h).0, low_each count v ks (All-tail (λ x. (x < count) × (x ≢ v)) k ks h))

knows_of : (tree : ℕ → List Node) (count place : ℕ) (vats : List VatScript) → ((i : ℕ) (vat : VatScript) → slice_get vats i ≡ Some vat → AllOf (λ (k : ℕ). k < count) vat.knows)
    → AllOf (λ (p : Program). AllOf (λ (k : ℕ). k < count) p.knows) (machine_vats tree place vats)
knows_of tree count place [] h = tt
knows_of tree count place (v ∷ vats) h = (h zero v refl, knows_of tree count (suc place) vats (λ i vat e. h (suc i) vat e))

-- ---- the schedule

pub entries_count : (es : List Entry) → length (map machine_entry es) ≡ length es
entries_count [] = refl
entries_count (e ∷ es) = ap suc (entries_count es)

entry_of : (count : ℕ) (e : Entry) → IsEntryOf count e → IsOfThese count (machine_entry e)
entry_of count (Turn v) h = h
entry_of count other h = (h.0, h.1)

entries_of : (count : ℕ) (es : List Entry) → All (IsEntryOf count) es → AllOf (IsOfThese count) (map machine_entry es)
entries_of count [] h = tt
entries_of count (e ∷ es) h = (entry_of count e (All-head (IsEntryOf count) e es h), entries_of count es (All-tail (IsEntryOf count) e es h))

few_entries : (n : ℕ) → n ≤ 100000 → 1 + n < 2 ^ 64
few_entries n l = omega (arith, l)

-- ---- the whole

pub of_vats : (depth : ℕ) (tree : ℕ → List Node) (script : Script) → IsAdmitted script → HasTrees script tree → IsOfVats (machine_script depth tree script)
of_vats depth tree script h t = let same = sym (vats_count tree zero script.vats) in let count = length script.vats in record {
  trees = trees_of tree zero script.vats (λ i l m. t i (omega (arith, m)));
  knows = subst (λ n. AllOf (λ (p : Program). AllOf (λ (k : ℕ). k < n) p.knows) (machine_vats tree zero script.vats)) same
      (knows_of tree count zero script.vats (λ i vat e. low_each count i vat.knows (h.knows i vat e).0));
  entries = subst (λ n. AllOf (IsOfThese n) (map machine_entry script.schedule)) same (entries_of count script.schedule h.schedule.1);
  short = subst (λ n. 1 + n < 2 ^ 64) (sym (entries_count script.schedule)) (few_entries (length script.schedule) h.schedule.0);
}

pub tell_accepted : TextsTellRunsOfAcceptedScripts
tell_accepted bytes others script other e f depth deep tree grown t g names b c = tell_runs (machine_script depth tree script) (machine_script deep grown other) names (vats_named bytes script e depth tree)
    (of_vats depth tree script (read_admitted bytes (Ok script) e) t) (of_vats deep grown other (read_admitted others (Ok other) f) g) b c
