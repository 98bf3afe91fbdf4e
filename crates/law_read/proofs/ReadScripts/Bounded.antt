-- The run of a script that is read is bounded by its fuel.
use Rattle.std.proofs.Common.{ℕ, zero, suc, ◌+◌, ◌≤◌, ◌<◌, ◌^◌, List, [], ◌∷◌, Ok, length, arith}
use Rattle.std.specs.List.{AllByRecursion}
use Rattle.def_kernel.specs.declared.node.Node.{Node}
use Rattle.def_run.specs.World.{Program}
use Rattle.def_kernel.specs.Trees.{IsTree}
use Rattle.law_machine.specs.Costs.Laws.{IsModest}
use Rattle.law_machine.proofs.Costs.Whole.{low}
use Rattle.law_schedule.specs.Scripts.{machine_vats, machine_script}
use Rattle.ev_script.specs.Rules.{IsAdmitted}
use Rattle.ev_script.specs.declared.script.Script.{Script}
use Rattle.ev_script.specs.declared.script.VatScript.{VatScript}
use Rattle.ev_script.proofs.Admitted.{read_admitted}
use Rattle.law_read.specs.ReadScripts.Texts.{HasTrees, HasFewNodes, AcceptedRunsAreBounded, TextsTellAcceptedScripts}
use Rattle.law_read.proofs.ReadScripts.AcceptedTexts.{vats_count, entries_count, tell_accepted}

-- ---- a script that is read is modest

few_nodes : (tree : ℕ → List Node) (place : ℕ) (vats : List VatScript) → ((i : ℕ) → place ≤ i → i < place + length vats → IsTree (tree i) × (length (tree i) ≤ 2 ^ 32))
    → AllByRecursion (λ (p : Program). IsTree p.tree × (length p.tree ≤ 2 ^ 32)) (machine_vats tree place vats)
few_nodes tree place [] h = tt
few_nodes tree place (v ∷ vats) h = (h place (omega arith) (omega arith), few_nodes tree (suc place) vats (λ i l m. h i (omega (arith, l)) (omega (arith, m))))

modest : (depth : ℕ) (tree : ℕ → List Node) (script : Script) → IsAdmitted script → HasTrees script tree → HasFewNodes script tree → IsModest (machine_script depth tree script)
modest depth tree script h t f = (
  h.fuel.1,
  (let e = vats_count tree zero script.vats in let l = h.vats.0 in omega (arith, e, l)),
  (let e = entries_count script.schedule in let l = h.schedule.0 in omega (arith, e, l)),
  few_nodes tree zero script.vats (λ i l m. ((t i (omega (arith, m))).0, f i (omega (arith, m)))),
)

pub bounded : AcceptedRunsAreBounded
bounded bytes script e depth tree t f = let r = low (machine_script depth tree script) (modest depth tree script (read_admitted bytes (Ok script) e) t f) in record { made = r.0; drawn = r.1 }

pub tell_scripts : TextsTellAcceptedScripts
tell_scripts bytes others script other e f depth deep tree grown t g few less names = tell_accepted bytes others script other e f depth deep tree grown t g names (bounded bytes script e depth tree t few) (bounded others other f deep grown g less)
