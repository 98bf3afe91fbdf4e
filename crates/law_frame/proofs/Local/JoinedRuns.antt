-- The whole run mirrors the machine's, where carries do.
use Rattle.def_run.specs.World.{Script, Entry, Turn, Carry, CutLink, NoticeLink}
use Rattle.law_frame.specs.Local.Joined.{EntryMirrors, IsLawful, CarriesMirrorIn, OthersMirror, RunsMirrorWhereCarriesDo}
use Rattle.law_frame.proofs.Local.Cuts.{cuts_mirror}
use Rattle.law_frame.proofs.Local.Joined.{turns_so}
use Rattle.law_frame.proofs.Local.JoinedNotices.{notices_so}
use Rattle.law_frame.proofs.Local.JoinedOpenings.{openings_so}
use Rattle.law_frame.proofs.Local.Runs.{runs_mirror}
use Rattle.std.proofs.Common.{◌+◌, length}
use Rattle.def_run.specs.World as machine
use Rattle.def_run.specs.Numbers as numbers

cut_so : (script : Script) (v u : _) → EntryMirrors script (CutLink v u)
unfolding machine.step numbers.step
cut_so script v u w x X es rest split opened stepped h = cuts_mirror script (1 + length es) v u x X h

entry_so : (script : Script) → IsLawful script → CarriesMirrorIn script → (e : Entry) → EntryMirrors script e
entry_so script lawful carries (Turn u) = turns_so script lawful u
entry_so script lawful carries (Carry v u) = carries.carries v u
entry_so script lawful carries (CutLink v u) = cut_so script v u
entry_so script lawful carries (NoticeLink v u) = notices_so script lawful v u

pub others_so : OthersMirror
others_so script lawful carries = record {
  openings = λ ps rest p x X split opened h. openings_so script lawful.0 ps rest p x X split opened h;
  entries = λ w x X es rest e split opened stepped h. entry_so script lawful carries e w x X es rest split opened stepped h;
}

pub runs_so : RunsMirrorWhereCarriesDo
runs_so script lawful carries = runs_mirror script (others_so script lawful carries)
