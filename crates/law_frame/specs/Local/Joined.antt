-- The whole run in numbers is the machine's, where carries are so.
use Rattle.std.specs.Prelude.{◌≡◌, ℕ, zero, ◌+◌, List, ◌∷◌, ◌++◌, length, slice_get}
use Rattle.def_run.specs.World as machine
use Rattle.def_run.specs.World.{Script, Program, Entry, Turn, Carry, NoticeLink, World, Goes}
use Rattle.def_run.specs.Numbers as numbers
use Rattle.def_run.specs.Numbers.{Vats}
use Rattle.law_fate.specs.Name.Runs.{KnowsOnce}
use Rattle.law_reference.specs.Reference.Cuts.{NoticesFollowCuts}
use Rattle.law_frame.specs.Local.Mirrors.{Mirrors, RunMirrors}
use Rattle.law_frame.specs.Local.Runs.{EachStepMirrors}

-- ---- entries

-- In the run of that script an entry leads where the machine's does, from all that stands for what it finds.
abbrev pub EntryMirrors : Script → Entry → Type 0
EntryMirrors script e = (w x : World) (X : Vats) (es rest : List Entry) → script.schedule ≡ es ++ e ∷ rest → machine.open_from script zero script.vats (machine.begins script) ≡ Goes w → machine.steps_from script es 1 w ≡ Goes x → Mirrors x X
    → RunMirrors (machine.step script e (1 + length es) x) (numbers.step script e (1 + length es) X)

-- What is asked of a script: no vat is told twice that it knows a vat, or that it knows itself, and each notice stands behind its cut.
abbrev pub IsLawful : Script → Type 0
IsLawful script = KnowsOnce script × NoticesFollowCuts script.schedule

-- each turn is so
abbrev pub TurnsMirror : Type 0
TurnsMirror = (script : Script) → IsLawful script → (u : ℕ) → EntryMirrors script (Turn u)

-- each notice of a cut
abbrev pub NoticesMirror : Type 0
NoticesMirror = (script : Script) → IsLawful script → (v u : ℕ) → EntryMirrors script (NoticeLink v u)

-- and each opening turn
abbrev pub OpeningsMirror : Type 0
OpeningsMirror = (script : Script) → KnowsOnce script → (ps rest : List Program) (p : Program) (x : World) (X : Vats) → script.vats ≡ ps ++ p ∷ rest → machine.open_from script zero ps (machine.begins script) ≡ Goes x → Mirrors x X
    → RunMirrors (machine.open_vat script (length ps) p x) (numbers.open_member script (length ps) p X (slice_get X.members (length ps)))

-- Where each carry is so, each step is.
pub record CarriesMirrorIn (script : Script) : Type 0 where
  pub carries : (v u : ℕ) → EntryMirrors script (Carry v u)

abbrev pub OthersMirror : Type 0
OthersMirror = (script : Script) → IsLawful script → CarriesMirrorIn script → EachStepMirrors script

-- And the whole run.
abbrev pub RunsMirrorWhereCarriesDo : Type 0
RunsMirrorWhereCarriesDo = (script : Script) → IsLawful script → CarriesMirrorIn script → RunMirrors (machine.run script) (numbers.run script)
