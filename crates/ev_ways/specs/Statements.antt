-- What holds of the ways that are kept and of those of the run in numbers.
use Rattle.std.specs.Prelude.{◌≡◌, ◌⊎◌, ℕ, zero, true, false, List, [], ◌∷◌, ◌++◌, Option, Some, None, get_or, length, map}
use Rattle.def_run.specs.Shown.{shown_note}
use Rattle.def_run.specs.Text.{shown_events}
use Rattle.def_run.specs.World.{Program, Script}
use Rattle.def_run.specs.World as world
use Rattle.def_run.specs.Numbers.{Way, way_at, ways_from, with_way, pushed, severed, link_of, lost_on, left_ways}
use Rattle.def_run.specs.Numbers.{Frame as Carrying}
use Rattle.ev_ways.specs.declared.frame.Frame.{Frame}
use Rattle.ev_ways.specs.Rows.{Lane, behind, changed, cuts, first_at, frames_at, fresh_rows, is_cut_at, next_at, put, rest, row_at}
use Rattle.ev_ways.specs.Rows as rows
use Rattle.ev_ways.specs.Standing.{IsFrame, WaysStand}
use Rattle.ev_ways.specs.Telling.{lost_events, left_rows}

-- at the start
abbrev pub StartStands : Type 0
StartStands = (ds : List ℕ) (ps : List Program) → WaysStand ds (length ps) (ways_from ps zero ps) (fresh_rows (length ps))

-- once a frame was pushed
abbrev pub PushStands : Type 0
PushStands = (ds : List ℕ) (n v u : ℕ) (x : Carrying) (k : Frame) (ls : List Way) (ways : List (List Lane)) → IsFrame ds u x k → WaysStand ds n ls ways
    → WaysStand ds n (with_way (pushed x) v u ls) (changed (put k) v u ways)

-- ---- a frame is taken

-- nothing stands on the way that can be carried
abbrev pub IsIdle : Option Way → Type 0
IsIdle None = Unit {0}
IsIdle (Some l) = (l.cut ≡ true) ⊎ (l.frames ≡ [])

-- The first frame on the way stands for k, and the others are left.
pub record IsTaken (ds : List ℕ) (n v u : ℕ) (ls : List Way) (ways : List (List Lane)) (k : Frame) : Type 0 where
  pub way : Way
  pub first : Carrying
  pub others : List Carrying
  pub found : way_at v u ls ≡ Some way
  pub under_way : way.frames ≡ first ∷ others
  pub is_frame : IsFrame ds u first k
  pub stand : WaysStand ds n (with_way (λ (l : Way). record l { frames = others }) v u ls) ways

-- So is it, and the way is not cut.
pub record IsCarried (ds : List ℕ) (n v u : ℕ) (ls : List Way) (ways : List (List Lane)) (k : Frame) : Type 0 where
  pub taken : IsTaken ds n v u ls ways k
  pub uncut : taken.way.cut ≡ false

abbrev pub Carries : List ℕ → ℕ → ℕ → ℕ → List Way → List (List Lane) → Option Frame → Type 0
Carries ds n v u ls ways None = IsIdle (way_at v u ls) × WaysStand ds n ls ways
Carries ds n v u ls ways (Some k) = IsCarried ds n v u ls ways k

abbrev pub CarryStands : Type 0
CarryStands = (ds : List ℕ) (n v u : ℕ) (ls : List Way) (ways : List (List Lane)) → WaysStand ds n ls ways → Carries ds n v u ls (changed behind v u ways) (next_at v u ways)

-- nothing stands on the way
abbrev pub IsEmpty : Option Way → Type 0
IsEmpty None = Unit {0}
IsEmpty (Some l) = l.frames ≡ []

abbrev pub Loses : List ℕ → ℕ → ℕ → ℕ → List Way → List (List Lane) → Option Frame → Type 0
Loses ds n v u ls ways None = IsEmpty (way_at v u ls) × WaysStand ds n ls ways
Loses ds n v u ls ways (Some k) = IsTaken ds n v u ls ways k

abbrev pub LoseStands : Type 0
LoseStands = (ds : List ℕ) (n v u : ℕ) (ls : List Way) (ways : List (List Lane)) → WaysStand ds n ls ways → Loses ds n v u ls (changed rest v u ways) (first_at v u ways)

-- ---- a link is cut on both sides

-- the ways and what is lost, in order, where the way there is cut first and then the way back
pub record IsCut (ds : List ℕ) (n v u : ℕ) (ls : List Way) (ways : List (List Lane)) : Type 0 where
  pub stand : WaysStand ds n (with_way severed u v (with_way severed v u ls)) (changed rows.severed u v (changed rows.severed v u ways))
  pub lost : shown_events ds (lost_on (way_at v u ls) ++ lost_on (way_at u v ls)) ≡ lost_events (frames_at v u ways) ++ lost_events (frames_at u v (changed rows.severed v u ways))

abbrev pub CutStands : Type 0
CutStands = (ds : List ℕ) (n v u : ℕ) (ls : List Way) (ways : List (List Lane)) → WaysStand ds n ls ways → IsCut ds n v u ls ways

-- ---- other draws

-- frames under way are told alike by more draws
abbrev pub DrawsStand : Type 0
DrawsStand = (ds es : List ℕ) (n : ℕ) (ls : List Way) (ways : List (List Lane))
    → ((v u : ℕ) (l : Way) → way_at v u ls ≡ Some l → map (λ (x : Carrying). shown_note es u x.note) l.frames ≡ map (λ (x : Carrying). shown_note ds u x.note) l.frames)
    → WaysStand ds n ls ways → WaysStand es n ls ways

-- ---- what is told of them

-- the closing list, by rows
abbrev pub LeftStands : Type 0
LeftStands = (script : Script) (ds : List ℕ) (n : ℕ) (ls : List Way) (ways : List (List Lane)) → WaysStand ds n ls ways → shown_events ds (left_ways script ls) ≡ left_rows zero ways

-- which ways are cut, by the row of the sender
pub record CutsTold (v u : ℕ) (ls : List Way) (ways : List (List Lane)) : Type 0 where
  pub one : world.is_cut v u (map link_of ls) ≡ is_cut_at v u ways
  pub of_all : world.is_cut v u (map link_of ls) ≡ get_or (cuts (row_at v ways)) u false

abbrev pub CutsStand : Type 0
CutsStand = (ds : List ℕ) (n v u : ℕ) (ls : List Way) (ways : List (List Lane)) → WaysStand ds n ls ways → CutsTold v u ls ways
