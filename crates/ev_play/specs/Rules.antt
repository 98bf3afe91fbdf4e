-- What the rules say of each play that is read.
use Rattle.std.specs.Prelude.{◌≡◌, ◌≢◌, ◌<◌, ◌≤◌, ℕ, true, List, [], length, slice_get, Some, All, AllPairs}
use Rattle.ev_script.specs.Rules.{AreTwo, IsEntryOf, IsAdmitted}
use Rattle.ev_script.specs.Script.{most_entries}
use Rattle.ev_script.specs.declared.script.VatScript.{VatScript}
use Rattle.ev_play.specs.Doings.{entries_in}
use Rattle.ev_play.specs.Hostile.{is_hostile}
use Rattle.ev_play.specs.declared.play.Doing.{Doing}
use Rattle.ev_play.specs.declared.play.Doing.TheVariants.{Does, Inject}
use Rattle.ev_play.specs.declared.play.Play.{Play}

-- from 1 to 4,096 bytes
abbrev pub IsFrame : List ℕ → Type 0
IsFrame bytes = (1 ≤ length bytes) × (length bytes ≤ 4096) × All (λ b. b < 256) bytes

-- The vats of an entry are among so many, and two of one entry differ; a hostile vat alone injects, and what it injects is a frame.
abbrev pub IsDoingOf : ℕ → List ℕ → Doing → Type 0
IsDoingOf count hostile (Does e) = IsEntryOf count e
IsDoingOf count hostile (Inject v w bytes) = AreTwo count v w × (is_hostile hostile v ≡ true) × IsFrame bytes

-- the vat at a place has the empty text as its program
abbrev pub HasNoSource : List VatScript → ℕ → Type 0
HasNoSource vats place = (vat : VatScript) → slice_get vats place ≡ Some vat → vat.source ≡ []

-- What is known of each play that is read.
pub record IsAdmittedPlay (play : Play) : Type 0 where
  -- of its script all that is known of a script that is read
  pub script : IsAdmitted play.script
  -- whose schedule is what is done, without the injects
  pub schedule : play.script.schedule ≡ entries_in play.doings
  pub hostile : All (λ v. v < length play.script.vats) play.hostile × AllPairs ◌≢◌ play.hostile
  pub silent : All (HasNoSource play.script.vats) play.hostile
  pub doings : (length play.doings ≤ most_entries) × All (IsDoingOf (length play.script.vats) play.hostile) play.doings
