-- The world of each scene of a run with a hostile vat is reached by doings as the run does them.
use Rattle.std.proofs.Common.{ℕ, zero, List, refl}
use Rattle.def_run.specs.World as world
use Rattle.def_hostile.specs.Hostile as hostile
use Rattle.def_hostile.specs.Hostile.{Play, Scene, Acted, Doing}
use Rattle.def_hostile.specs.Plays as come
use Rattle.law_injected.specs.HostileRuns.{IsHostile}
use Rattle.law_scenes.specs.Doings.{told, IsReal, start, opened, entered, happened, swallowed, received, said, ScenesAreReal}
use Rattle.law_scenes.proofs.Scenes as scenes
use Rattle.law_scenes.proofs.Scenes.{IsKept, Tells, in_scenes}

-- each doing leads on
pub real_kept : (play : Play) → IsKept play (IsReal play)
real_kept play = record {
  opening = λ front rest p w y o i e h. opened front rest p o i h e;
  entering = λ entry k w y o i h. entered entry k o h i;
  happening = λ e w q h. happened e q h;
  swallowing = λ k v u w y l n ns i c j s h. swallowed k v u l n ns i c j h s;
  receiving = λ k v u w y l n ns i c j r h. received k v u l n ns i c j h r;
  unheard = λ h u w y s e g. said h u g s;
  heard = λ k h u w y z l n ns s i c j r g. received k h u l n ns i c j (said h u g s) r;
}

nothing_told : (play : Play) → Tells (hostile.starts play).lines (hostile.starts play).world.history
unfolding hostile.starts world.begins told
nothing_told play f a b = refl

begun : (play : Play) → IsReal play (hostile.starts play).world
unfolding hostile.starts
begun play = start

-- and its lines tell what the history of that world tells
module _ (play : Play) (who : ℕ) (bad : IsHostile play who) where
  abbrev pub Stands : Scene → Type 0
  Stands s = IsReal play s.world × Tells s.lines s.world.history

  abbrev pub Ok : Acted → Type 0
  Ok a = scenes.Ok play who bad (IsReal play) (real_kept play) a

  started : Stands (hostile.starts play)
  started = (begun play, nothing_told play)

  pub opened_stands : (s : Scene) → come.Opens play s → Stands s
  opened_stands s c = scenes.opened_scene play who bad (IsReal play) (real_kept play) started s c

  pub gone_stands : (s : Scene) → come.Goes play s → Stands s
  gone_stands s c = scenes.gone_scene play who bad (IsReal play) (real_kept play) started s c

  pub opened_ok : Ok (hostile.opens_from play zero play.script.vats (hostile.starts play))
  opened_ok = scenes.opened_so play who bad (IsReal play) (real_kept play) started

  pub doings_ok : (ds : List Doing) (k : ℕ) (s : Scene) → Stands s → Ok (hostile.does_all play ds k s)
  doings_ok ds k s g = scenes.doings_ok play who bad (IsReal play) (real_kept play) ds k s g

pub scenes_are_real : ScenesAreReal
scenes_are_real play h bad s c = in_scenes play h bad (IsReal play) (real_kept play) (begun play, nothing_told play) s c
