-- What is asked of a script by the laws on writing and on hearing, each script that is read has.
use Rattle.std.proofs.Common.{[], subst}
use Rattle.def_run.specs.World as world
use Rattle.ev_script.specs.declared.script.Script.{Script}
use Rattle.law_reference.specs.Reference.Cuts.{NoticesFollowCuts}
use Rattle.law_reference.proofs.Reference.AskHolds.{notices_front}
use Rattle.law_frame.proofs.Frame.Written.{next_written}
use Rattle.law_frame.proofs.Heard.Laws.{heard_by_gifts}
use Rattle.law_read.specs.ReadScripts.Accepted.{MeetsTheLaws}
use Rattle.law_read.proofs.ReadScripts.Meets.{accepted}
use Rattle.law_schedule.specs.Scripts.{machine_script}
use Rattle.law_read.specs.ReadScripts.Frames.{AllAlong, FramesAreOfTheirNotes}

all_along : (script : world.Script) → MeetsTheLaws script → AllAlong script
all_along script meets w x es rest k parts opened steps v u r s is_r is_s other l is_l whole n ns first =
    let behind : NoticesFollowCuts es = notices_front script [] es rest (subst NoticesFollowCuts parts meets.2) in (
      next_written script w x es k opened steps v u l s n ns other is_l whole is_s first,
      λ gifts known. heard_by_gifts script meets.0 w x es k behind opened steps v u r s is_r is_s other l is_l whole n ns first gifts known,
    )

pub frames_are_notes : FramesAreOfTheirNotes
frames_are_notes bytes script is depth tree = all_along (machine_script depth tree script) (accepted bytes script is depth tree)
