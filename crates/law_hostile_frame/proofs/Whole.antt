-- What is asked of each state of the run in numbers gives the law of the whole run.
use Rattle.std.proofs.Common.{◌≡◌, zero, List, [], ◌++◌, ap, subst, ◌∙◌, append_assoc}
use Rattle.def_run.specs.Numbers as run
use Rattle.def_run.specs.Numbers.{Vats, Runs}
use Rattle.def_run.specs.World.{Entry}
use Rattle.def_hostile.specs.Numbers.{opens_from}
use Rattle.law_hostile_frame.specs.Honest.{honest, ComesTo, StepsAlike, PlaysAreRunsInNumbers}
use Rattle.law_hostile_frame.proofs.Acts.{does_so, does_all_so, opens_so, start_so, performs_so}

pub steps_alike : StepsAlike
steps_alike script X received made e k = does_so script X received made e k

pub plays_are_runs : PlaysAreRunsInNumbers
plays_are_runs script received = (
  λ ps rest split. subst (λ c. ComesTo script (run.open_from script zero ps (run.begins script)) (opens_from (honest script) zero ps c)) (start_so script) (opens_so script zero ps (run.begins script) []),
  λ es rest W made split opened. does_all_so script es 1 W made (λ fs more Y e stepped. received fs (more ++ rest) W Y (split_on es rest fs more split e) opened stepped),
  performs_so script (λ W opened fs rest Y split stepped. received fs rest W Y split opened stepped),
)
  where
    split_on : (es rest fs more : List Entry) → script.schedule ≡ es ++ rest → es ≡ fs ++ more → script.schedule ≡ fs ++ (more ++ rest)
    split_on es rest fs more split e = split ∙ ap (λ zs. zs ++ rest) e ∙ append_assoc fs more rest
