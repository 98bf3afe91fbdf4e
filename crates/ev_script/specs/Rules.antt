-- What the rules say of each script that is read.
use Rattle.std.specs.Prelude.{◌≡◌, ◌≢◌, ◌<◌, ◌≤◌, ℕ, true, List, length, map, take, slice_get, Some, All, AllPairs}
use Rattle.std.specs.List.{list_any}
use Rattle.ev_script.specs.Vats.{is_vat_name}
use Rattle.ev_script.specs.Schedule.{cuts}
use Rattle.ev_script.specs.Script.{most_entries}
use Rattle.ev_script.specs.declared.script.Entry.{Entry}
use Rattle.ev_script.specs.declared.script.Entry.TheVariants.{Turn, Carry, Cut, Notice}
use Rattle.ev_script.specs.declared.script.Script.{Script}
use Rattle.ev_script.specs.declared.script.VatScript.{VatScript}

-- at most 16 vats, each with a name of its own and a program of at most 65,536 bytes
abbrev pub AreVats : List VatScript → Type 0
AreVats vats = (length vats ≤ 16) × AllPairs ◌≢◌ (map (λ vat. vat.name) vats)
    × All (λ vat. (is_vat_name vat.name ≡ true) × (length vat.source ≤ 65536)) vats

-- a vat that stands at a place among so many knows others, and each once
abbrev pub KnowsOthers : ℕ → ℕ → VatScript → Type 0
KnowsOthers count place vat = All (λ k. (k < count) × (k ≢ place)) vat.knows × AllPairs ◌≢◌ vat.knows

abbrev pub KnowOthers : List VatScript → Type 0
KnowOthers vats = (place : ℕ) (vat : VatScript) → slice_get vats place ≡ Some vat → KnowsOthers (length vats) place vat

-- two vats among so many
abbrev pub AreTwo : ℕ → ℕ → ℕ → Type 0
AreTwo count v w = (v < count) × (w < count) × (v ≢ w)

-- the vats of an entry are among so many, and two of one entry differ
abbrev pub IsEntryOf : ℕ → Entry → Type 0
IsEntryOf count (Turn v) = v < count
IsEntryOf count (Carry v w) = AreTwo count v w
IsEntryOf count (Cut v w) = AreTwo count v w
IsEntryOf count (Notice v w) = AreTwo count v w

-- before each notice stands a cut of its two vats
abbrev pub CutsComeFirst : List Entry → Type 0
CutsComeFirst entries = (place v w : ℕ) → slice_get entries place ≡ Some (Notice v w) → list_any (cuts v w) (take place entries) ≡ true

-- What is known of each script that is read.
pub record IsAdmitted (script : Script) : Type 0 where
  pub key : length script.key ≡ 32
  pub fuel : (1 ≤ script.fuel) × (script.fuel ≤ 10000000)
  pub vats : AreVats script.vats
  pub knows : KnowOthers script.vats
  pub schedule : (length script.schedule ≤ most_entries) × All (IsEntryOf (length script.vats)) script.schedule
  pub cuts_first : CutsComeFirst script.schedule
