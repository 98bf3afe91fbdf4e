-- In a run of honest vats each note is received as it arrives, so what is done without hostile vats goes where the run goes.
use Rattle.std.proofs.Common.{◌≡◌, zero, List, ◌++◌, ap, subst, ◌∙◌, append_assoc}
use Rattle.def_run.specs.World as world
use Rattle.def_run.specs.World.{Script, Program, Entry, World, Goes as Going}
use Rattle.def_hostile.specs.Hostile.{opens_from}
use Rattle.law_order.proofs.TurnTales.ByTurns.{front_follows}
use Rattle.law_instance.specs.Honest.{honest, ComesTo, HonestNotesAreReceived, HonestStepsAreAlike, HonestPlaysAreRuns}
use Rattle.law_instance.proofs.Acts.{does_so, does_all_so, opens_so, start_so, acts_so}
use Rattle.law_instance.proofs.Anew.{received_by}
use Rattle.law_instance.proofs.Received.{received}

pub notes_received : HonestNotesAreReceived
notes_received script accepted es rest w x split opened stepped v u l n ns at uncut notes =
    let once = accepted.0 in let follow = front_follows script es rest split accepted.2 in
    let r = received_by script once w x es 1 follow opened stepped v u l n ns at uncut notes in (r.0, r.1, received script once w x es 1 follow opened stepped v u l n ns at uncut notes r.0 r.1)

pub steps_alike : HonestStepsAreAlike
steps_alike script accepted es rest w x split opened stepped = does_so script x (notes_received script accepted es rest w x split opened stepped)

pub plays_are_runs : HonestPlaysAreRuns
plays_are_runs script accepted = (
  λ ps rest split. subst (λ s. ComesTo script (world.open_from script zero ps (world.begins script)) (opens_from (honest script) zero ps s)) (start_so script) (opens_so script zero ps (world.begins script)),
  λ es rest w split opened. does_all_so script es 1 w (λ fs more y e stepped. notes_received script accepted fs (more ++ rest) w y (split_on es rest fs more split e) opened stepped),
  acts_so script (λ w opened fs rest y split stepped. notes_received script accepted fs rest w y split opened stepped),
)
  where
    split_on : (es rest fs more : List Entry) → script.schedule ≡ es ++ rest → es ≡ fs ++ more → script.schedule ≡ fs ++ (more ++ rest)
    split_on es rest fs more split e = split ∙ ap (λ zs. zs ++ rest) e ∙ append_assoc fs more rest
