-- What was done, the newest first, and what is to be known of it by counting.
use Rattle.std.specs.Prelude.{◌≡◌, ◌⊎◌, ℕ, zero, suc, Bool, true, false, not, ◌||◌, List, [], ◌∷◌, ◌++◌, length, Ok}
use Rattle.std.specs.List.{list_any}
use Rattle.ev_sturdy.specs.declared.sturdy.Side.{Side}
use Rattle.ev_sturdy.specs.declared.sturdy.Side.TheVariants.{Host, Guest}
use Rattle.ev_sturdy.specs.declared.sturdy.Used.TheVariants.{Broken}
use Rattle.ev_sturdy.specs.Kept.{Kept, opened, generation, digest, registers, connects, shows, with_shown, cuts, notices, object_shown, used}

-- what an accepted line did
pub data Deed : Type 0 where
  -- an object was registered under a number
  Registered : ℕ → ℕ → Deed
  Connected : Deed
  -- a reference to an object was given
  Shown : ℕ → Deed
  Cut : Deed
  Noticed : Side → Deed

abbrev pub Past : Type 0
Past = List Deed

-- how many connections were made
abbrev pub connections : Past → ℕ
connections [] = zero
connections (Registered swiss object ∷ past) = connections past
connections (Connected ∷ past) = suc (connections past)
connections (Shown object ∷ past) = connections past
connections (Cut ∷ past) = connections past
connections (Noticed side ∷ past) = connections past

-- what was done since the last connection was made
abbrev pub since : Past → Past
since [] = []
since (Registered swiss object ∷ past) = since past
since (Connected ∷ past) = []
since (Shown object ∷ past) = Shown object ∷ since past
since (Cut ∷ past) = Cut ∷ since past
since (Noticed side ∷ past) = Noticed side ∷ since past

abbrev pub is_a_cut : Deed → Bool
is_a_cut Cut = true
is_a_cut _ = false

abbrev pub is_side : Side → Side → Bool
is_side Host Host = true
is_side Guest Guest = true
is_side Host Guest = false
is_side Guest Host = false

abbrev pub is_notice_of : Side → Deed → Bool
is_notice_of side (Noticed other) = is_side side other
is_notice_of side _ = false

abbrev pub is_connected : Past → Bool
is_connected [] = false
is_connected (Registered swiss object ∷ past) = is_connected past
is_connected (Connected ∷ past) = true
is_connected (Shown object ∷ past) = is_connected past
is_connected (Cut ∷ past) = is_connected past
is_connected (Noticed side ∷ past) = is_connected past

-- such a deed was done to the last connection, or there was none: the time before the first is over
abbrev pub holds_since : (Deed → Bool) → Past → Bool
holds_since test past = list_any test (since past) || not (is_connected past)

-- the registrations, each a digest and its object, the oldest first
abbrev pub registrations : Past → List (List ℕ × ℕ)
registrations [] = []
registrations (Registered swiss object ∷ past) = registrations past ++ (digest swiss, object) ∷ []
registrations (Connected ∷ past) = registrations past
registrations (Shown object ∷ past) = registrations past
registrations (Cut ∷ past) = registrations past
registrations (Noticed side ∷ past) = registrations past

-- the objects shown, in the order in which each was first shown
abbrev pub first_shown : Past → List ℕ
first_shown [] = []
first_shown (Registered swiss object ∷ past) = first_shown past
first_shown (Connected ∷ past) = first_shown past
first_shown (Shown object ∷ past) = with_shown object (first_shown past)
first_shown (Cut ∷ past) = first_shown past
first_shown (Noticed side ∷ past) = first_shown past

-- how many objects were shown before each connection since the one before it
abbrev pub shown_before : Past → List ℕ
shown_before [] = []
shown_before (Registered swiss object ∷ past) = shown_before past
shown_before (Connected ∷ past) = shown_before past ++ length (first_shown (since past)) ∷ []
shown_before (Shown object ∷ past) = shown_before past
shown_before (Cut ∷ past) = shown_before past
shown_before (Noticed side ∷ past) = shown_before past

-- what is kept of a past
abbrev pub kept : Past → Kept
kept past = record {
  objects = registrations past;
  earlier = shown_before past;
  shown = first_shown (since past);
  is_cut = holds_since is_a_cut past;
  is_noticed_by_host = holds_since (is_notice_of Host) past;
  is_noticed_by_guest = holds_since (is_notice_of Guest) past;
}

-- what a deed makes of what is kept
abbrev pub after : Deed → Kept → Kept
after (Registered swiss object) k = registers swiss object k
after Connected k = connects k
after (Shown object) k = shows object k
after Cut k = cuts k
after (Noticed side) k = notices side k

-- ---- laws

-- What the calls keep is what counting tells of the past, and the number of the connection is the count of those that were made.
abbrev pub IsKeptByDeeds : Type 0
IsKeptByDeeds = (kept [] ≡ opened) × ((past : Past) → generation (kept past) ≡ connections past) × ((deed : Deed) (past : Past) → kept (deed ∷ past) ≡ after deed (kept past))

-- A reference that was broken is broken for good.
abbrev pub StaysBroken : Type 0
StaysBroken = (number position : ℕ) (more past : Past) → used number position (kept past) ≡ Broken → used number position (kept (more ++ past)) ≡ Broken

-- the object was registered under some number of this digest
abbrev pub WasRegistered : List ℕ → ℕ → Past → Type 0
WasRegistered found object [] = ⊥
WasRegistered found object (Registered swiss other ∷ past) = ((found ≡ digest swiss) × (object ≡ other)) ⊎ WasRegistered found object past
WasRegistered found object (Connected ∷ past) = WasRegistered found object past
WasRegistered found object (Shown other ∷ past) = WasRegistered found object past
WasRegistered found object (Cut ∷ past) = WasRegistered found object past
WasRegistered found object (Noticed side ∷ past) = WasRegistered found object past

-- A number shows only an object that was registered under its digest.
abbrev pub ShowsRegistered : Type 0
ShowsRegistered = (swiss object : ℕ) (past : Past) → object_shown swiss (kept past) ≡ Ok object → WasRegistered (digest swiss) object past
