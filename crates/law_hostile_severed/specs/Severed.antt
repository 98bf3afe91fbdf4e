-- What stays severed in runs with hostile vats, and what a notice and a malformed frame break.
use Rattle.std.specs.Prelude.{◌≡◌, ℕ, false, List, ◌∷◌, Some, length, slice_get}
use Rattle.def_machine.specs.Values.{Name}
use Rattle.def_machine.specs.State.{Vat, is_in}
use Rattle.def_run.specs.Wire.{connected_at}
use Rattle.def_run.specs.World.{Script, Carry, NoticeLink, World, names}
use Rattle.def_hostile.specs.Judge.{Malformed, verdict}
use Rattle.def_hostile.specs.Hostile.{Play, Scene, Plays, Doing, Does, frames_at, counts, does, does_all}
use Rattle.law_machine.specs.Machine.Breaks.{SettledBreakStays, SeveredObjectStays, FollowedBreakStays, SeveredStays}
use Rattle.law_machine.specs.Run.Runs.{EachVat}
use Rattle.law_reference.specs.Gift.Gifts.{SameGifts, StaysBroken}
use Rattle.law_injected.specs.HostileRuns.{IsHostile}

-- what stays severed at vat v, which is s in one scene and t in a later one
pub record StaysSevered (script : Script) (v : ℕ) (s t : Vat Name) : Type 0 where
  -- what settlings led to a broken reference they lead to it, and it is followed to it
  pub settled : SettledBreakStays (names script v) s t
  -- what settlings led to an object of a vat whose cut was noticed is broken
  pub objects : SeveredObjectStays (names script v) s t
  -- what a vat at rest followed to a broken reference it follows to that one
  pub followed : FollowedBreakStays (names script v) s t
  -- once a cut was noticed nothing that is followed has that host
  pub apart : SeveredStays (names script v) s t
  -- gifts keep their places, and once opened they stay opened
  pub gifts : SameGifts s t

-- From each scene of a play with a hostile vat to each later one, at each vat, whatever frames are injected.
abbrev pub SeveredStaysInPlays : Type 0
SeveredStaysInPlays = (play : Play) (h : ℕ) → IsHostile play h → (ds : List Doing) (k : ℕ) (s t : Scene) → does_all play ds k s ≡ Plays t → EachVat (λ v. StaysSevered play.script v) s.world t.world

-- where vat v had not noticed a cut to w in one world, the names of host w and the gifts of provider w that waited there are broken in a later one
abbrev pub Breaks : Script → ℕ → ℕ → World → World → Type 0
Breaks script v w x y = (s : Vat Name) → slice_get x.vats v ≡ Some s → is_in w s.noticed ≡ false → (t : Vat Name) × (slice_get y.vats v ≡ Some t) × StaysBroken script v w s t

-- A notice of an honest vat, and then any doings.
abbrev pub NoticesBreakInPlays : Type 0
NoticesBreakInPlays = (play : Play) (h : ℕ) → IsHostile play h → (v w : ℕ) → (IsHostile play v → ⊥) → (s r t : Scene) (k j : ℕ) (ds : List Doing) → does play (Does (NoticeLink v w)) k s ≡ Plays r → does_all play ds j r ≡ Plays t
    → Breaks play.script v w s.world t.world

-- A frame comes from a hostile vat h to an honest vat u, whose judge finds it malformed, and then any doings: it is a notice too.
abbrev pub MalformedFramesBreak : Type 0
MalformedFramesBreak = (play : Play) (h u : ℕ) → IsHostile play h → (IsHostile play u → ⊥) → (s r t : Scene) (k j : ℕ) (ds : List Doing) (bytes : List ℕ) (fs : List (List ℕ)) (place : ℕ)
    → frames_at h u s.raws ≡ bytes ∷ fs → verdict (length play.script.vats) u h (counts (connected_at u h s.world.connections).tables) bytes ≡ Malformed place
    → does play (Does (Carry h u)) k s ≡ Plays r → does_all play ds j r ≡ Plays t → Breaks play.script u h s.world t.world
