-- What is due for a script needs all of its bytes.
use Rattle.std.proofs.Common.{ℕ, ◌+◌, length, List, [], ◌∷◌, ◌++◌, Result, Ok, Err, sym, subst}
use Rattle.def_kernel.specs.declared.node.Node.{Node}
use Rattle.def_machine.specs.State.{Fuel, Deep, Repeated, Astray}
use Rattle.ev_reader.specs.declared.fault.ProgramFault.{ProgramFault}
use Rattle.ev_reader.specs.declared.fault.ProgramFault.TheVariants as faults
use Rattle.def_run.specs.World as machine
use Rattle.def_run.specs.World.{run, Goes, Stopped}
use Rattle.ev_script.specs.declared.script.Script.{Script}
use Rattle.ev_script.specs.declared.script.VatScript.{VatScript}
use Rattle.ev_top.specs.Programs.{IsDueOfFault}
use Rattle.ev_top.specs.RunDue.{IsDueOfScript, IsDueOfTrees, IsDueOfVats, Telling, due_of_run}
use Rattle.ev_io.specs.Paying.{IsOfWhole}
use Rattle.law_schedule.specs.Scripts.{machine_script, tree_at}
use Rattle.ev_top.specs.Machine.{greatest_depth}
use Rattle.ev_io.specs.declared.status.Status.{Status}

pub of_fault : (vat : ℕ) (name : List ℕ) (fault : ProgramFault) (status : Status) (text : List ℕ) → IsDueOfFault vat name fault status text → IsOfWhole status
of_fault vat name (faults.At part kind place) status text due = subst IsOfWhole (sym due.0) tt
of_fault vat name faults.Memory status text due = absurd due

of_end : (script : Script) (text : List ℕ) (r : machine.Run) → IsOfWhole (due_of_run script text r).status
of_end script text (Goes w) = tt
of_end script text (Stopped Fuel step w) = tt
of_end script text (Stopped Deep step w) = tt
of_end script text (Stopped (Repeated i j) step w) = tt
of_end script text (Stopped Astray step w) = tt

of_trees : (tell : Telling) (script : Script) (trees : List (List Node)) (status : Status) (text : List ℕ) → IsDueOfTrees tell script trees status text → IsOfWhole status
of_trees tell script trees status text due =
    let theirs = machine_script greatest_depth (tree_at trees) script in subst IsOfWhole (sym due.0) (of_end script (tell theirs) (run theirs))

pub of_vats : (tell : Telling) (script : Script) (trees : List (List Node)) (vats : List VatScript) (status : Status) (text : List ℕ)
    → IsDueOfVats tell script trees vats status text → IsOfWhole status
of_vats tell script trees [] status text due = of_trees tell script trees status text due
of_vats tell script trees (vat ∷ more) status text (Ok scoped, answers, due) = of_vats tell script (trees ++ scoped.tree ∷ []) more status text due
of_vats tell script trees (vat ∷ more) status text (Err fault, answers, due) = of_fault (length trees) vat.name fault status text due

pub of_script : (tell : Telling) (found : Result Script ℕ) (status : Status) (text : List ℕ) → IsDueOfScript tell found status text → IsOfWhole status
of_script tell (Ok script) status text due = of_vats tell script [] script.vats status text due
of_script tell (Err rule) status text due = subst IsOfWhole (sym due.0) tt
