-- What begins the history of a world of a run is told; so is each beginning of it.
use Rattle.std.proofs.Common.{List, [], ◌++◌, refl, sym, ◌∙◌, append_assoc}
use Rattle.std.proofs.lemmas.List.{append-nil}
use Rattle.def_run.specs.World as world
use Rattle.def_run.specs.World.{Script, Event, World}
use Rattle.law_order.specs.History.Told.{IsOfRun, opened, IsTold}

begins_run : (script : Script) → IsOfRun script (world.begins script)
unfolding world.open_from
begins_run script = opened [] script.vats refl refl

pub nothing_told : (script : Script) → IsTold script []
nothing_told script = record { world = world.begins script; of_run = begins_run script; rest = (world.begins script).history; lines = refl }

pub history_told : (script : Script) (w : World) → IsOfRun script w → IsTold script w.history
history_told script w r = record { world = w; of_run = r; rest = []; lines = sym (append-nil w.history) }

pub told_before : (script : Script) (done more : List Event) → IsTold script (done ++ more) → IsTold script done
told_before script done more t = record { world = t.world; of_run = t.of_run; rest = more ++ t.rest; lines = t.lines ∙ append_assoc done more t.rest }
