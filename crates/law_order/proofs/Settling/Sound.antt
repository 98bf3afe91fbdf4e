-- In a world that stands each vat has its number, and knows no object.
use Rattle.def_run.specs.World.{Script, World}
use Rattle.law_fate.proofs.Name.Run.{Stands}
use Rattle.law_order.proofs.Runs.Beginnings.{object_apart, all_eventual, none_found}
use Rattle.law_order.specs.Settling.Holding.{VatsAreSound}

pub vats_are_sound : (script : Script) (w : World) → Stands script w → VatsAreSound script w
vats_are_sound script w stands u t there = let s = stands.vats u t there in let kept = s.kept in (kept.number, λ o i. none_found script u t.known o (λ a. object_apart o i (all_eventual t.known o kept.apart a)))
