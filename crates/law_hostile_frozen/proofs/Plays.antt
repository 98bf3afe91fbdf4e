-- Every configuration of a run with hostile vats is sound, so what is reached from frozen objects in it is frozen.
use Rattle.std.proofs.Common.{◌≡◌, ℕ, zero, List, [], ◌++◌, inl, inr, refl, sym, ap, subst, append-nil}
use Rattle.def_run.specs.World.{Program, World}
use Rattle.def_hostile.specs.Hostile as hostile
use Rattle.def_hostile.specs.Hostile.{Play, Scene, Acted, Plays, Breaks, Doing, starts, opens_from, does_all}
use Rattle.def_hostile.specs.Plays.{ComesTo}
use Rattle.law_injected.specs.HostileRuns.{AnyDeed, NothingSaid, IsHostile, IsSpoken}
use Rattle.law_injected.proofs.HostileReached.{Moves, all_reached, opens_reached}
use Rattle.law_frozen.proofs.RunSound.{WorldSound, begins_sound, reach_in}
use Rattle.law_hostile_frozen.specs.Plays.{ReachIsFrozenInPlays}
use Rattle.law_hostile_frozen.proofs.Moves.{kept_sound}
use Rattle.law_hostile_frozen.proofs.Passing.{spoken_passes}

module _ (play : Play) (who : ℕ) (bad : IsHostile play who) where
  abbrev S : World → Type 0
  S w = WorldSound play.script w

  on : (w y : World) → S w → Moves play w y → S y
  on w y h m = kept_sound play.script (IsHostile play) AnyDeed NothingSaid (IsSpoken play) (λ x v u s n i. absurd i) (λ x v u s n op new i. spoken_passes play x v u s n op new i) w y h m

  start : S (starts play).world
  unfolding starts
  start = begins_sound play.script

  opened : (ps rest : List Program) (s : Scene) → play.script.vats ≡ ps ++ rest → opens_from play zero ps (starts play) ≡ Plays s → S s.world
  opened ps rest s i e = opens_reached play who bad S on [] ps rest (starts play) s i start e

  gone : (t s : Scene) (ds : List Doing) → opens_from play zero play.script.vats (starts play) ≡ Plays t → does_all play ds 1 t ≡ Plays s → S s.world
  gone t s ds i e = all_reached play who bad S on ds 1 t s (opened play.script.vats [] t (sym (append-nil play.script.vats)) i) e

  plays_is : (s t : Scene) → Plays s ≡ Plays t → s ≡ t
  plays_is s t e = cc

  same_world : (s t : Scene) → hostile.closes play s ≡ Plays t → S s.world → S t.world
  unfolding hostile.closes
  same_world s t e h = subst (λ (x : World). S x) (ap (λ (x : Scene). x.world) (plays_is _ t e)) h

  -- the end: behind all entries, lines alone
  closed : (t : Scene) (a : Acted) → ((s : Scene) → a ≡ Plays s → S s.world) → hostile.then_plays a (hostile.closes play) ≡ Plays t → S t.world
  unfolding hostile.then_plays
  closed t (Plays s) f e = same_world s t e (f s refl)
  closed t (Breaks c k s) f e = cc

  ended : (t : Scene) (a : Acted) → opens_from play zero play.script.vats (starts play) ≡ a → hostile.then_plays a (λ s. hostile.then_plays (does_all play play.doings 1 s) (hostile.closes play)) ≡ Plays t → S t.world
  unfolding hostile.then_plays
  ended t (Plays o) i e = closed t (does_all play play.doings 1 o) (λ s j. gone o s play.doings i j) e
  ended t (Breaks c k o) i e = cc

  comes : (s : Scene) → ComesTo play s → S s.world
  unfolding hostile.acts
  comes s (inl c) = opened c.0 c.1 s c.2 c.3
  comes s (inr (inl c)) = gone c.0 s c.1 c.4 c.5
  comes s (inr (inr e)) = ended s _ refl e

pub plays_frozen : ReachIsFrozenInPlays
plays_frozen play h bad s c = reach_in play.script s.world (comes play h bad s c)
