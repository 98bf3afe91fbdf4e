-- Each script that is read meets what the laws of runs ask.
use Rattle.std.proofs.Common.{◌≡◌, ℕ, List, Ok}
use Rattle.def_kernel.specs.declared.node.Node.{Node}
use Rattle.ev_script.specs.Script.{read}
use Rattle.ev_script.specs.declared.script.Script.{Script}
use Rattle.ev_script.proofs.Admitted.{read_admitted}
use Rattle.law_accepted.proofs.Meets.{meets}
use Rattle.law_schedule.specs.Scripts.{machine_script}
use Rattle.law_read.specs.ReadScripts.Accepted.{MeetsTheLaws}

pub accepted : (bytes : List ℕ) (script : Script) → read bytes ≡ Ok script → (depth : ℕ) (tree : ℕ → List Node) → MeetsTheLaws (machine_script depth tree script)
accepted bytes script e depth tree = meets script (read_admitted bytes (Ok script) e) depth tree
