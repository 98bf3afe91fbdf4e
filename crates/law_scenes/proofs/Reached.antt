-- A world of a run with hostile vats is reached by moves in which hostile vats say nothing but in frames.
use Rattle.std.proofs.Common.{◌≡◌, ℕ, List, [], ◌∷◌, refl}
use Rattle.def_machine.specs.Values.{Name}
use Rattle.def_machine.specs.State as state
use Rattle.def_machine.specs.State.{Vat, Done, Gives, Act, ◌>>◌}
use Rattle.def_run.specs.Deeds.{Deed, perform, perform_all}
use Rattle.def_run.specs.World as world
use Rattle.def_run.specs.World.{Turn, Carry, CutLink, NoticeLink, Entry, World, Goes, readied}
use Rattle.def_hostile.specs.Hostile.{Play, deeds_for}
use Rattle.law_machine.specs.Run.Moves.{Opened, Stepped, Swallowed, AnyNotice, Performs}
use Rattle.law_adversary.specs.Moves.{FrameMove, Usual, Recorded, Framed, Received}
use Rattle.law_injected.specs.HostileRuns.{AnyDeed, NothingSaid, IsHostile, IsSpoken, IsReached}
use Rattle.law_scenes.specs.Doings.{IsOwn, Saying, IsReal, start, opened, entered, happened, swallowed, received, said}

then_gives : (d : Done Name (Unit {0})) (f : Act Name (Unit {0})) (t : Vat Name) → state.and_then d (λ _. f) ≡ Gives tt t → (r : Vat Name) × (d ≡ Gives tt r) × (f r ≡ Gives tt t)
unfolding state.and_then
then_gives (Gives a r) f t e = (r, refl, e)
then_gives other f t e = cc

module _ (play : Play) (who : ℕ) (bad : IsHostile play who) where
  performed : (w : World) (v : ℕ) (ds : List Deed) (s t : Vat Name) → perform_all play.script v ds s ≡ Gives tt t → Performs play.script (IsHostile play) AnyNotice AnyDeed NothingSaid w v ds s t
  unfolding perform_all state.give ◌>>◌
  performed w v [] s t e = cc
  performed w v (d ∷ ds) s t e = let a = then_gives (perform play.script v d s) (perform_all play.script v ds) t e in (a.0, tt, a.1, performed w v ds a.0 t a.2)

  abbrev Moves : World → World → Type 0
  Moves w y = FrameMove play.script (IsHostile play) AnyNotice AnyDeed NothingSaid (IsSpoken play) w y

  on : (w y : World) → IsReached play w → Moves w y → IsReached play y
  on w y r m = (w ∷ r.0, (m, r.1))

  steps : (entry : Entry) (k : ℕ) (w y : World) → IsOwn play entry → world.step play.script entry k w ≡ Goes y → Moves w y
  steps (Turn v) k w y o e = Usual (Stepped (Turn v) k o e)
  steps (Carry v u) k w y o e = absurd o
  steps (CutLink v u) k w y o e = Usual (Stepped (CutLink v u) k tt e)
  steps (NoticeLink v u) k w y o e = Usual (Stepped (NoticeLink v u) k (o, tt) e)

  says : (h u : ℕ) (w y : World) → Saying play h u w y → Moves w y
  says h u w y s = let x = s.spoken in Framed h u x.record_of s.ready s.after (deeds_for u x.kinds s.note) s.note s.op s.new s.bad x.speaks (performed w h (deeds_for u x.kinds s.note) (readied w x.record_of) s.ready x.prepares) x s.sends s.is

  pub real_reached : {w : World} → IsReal play w → IsReached play w
  real_reached start = ([], refl)
  real_reached (opened {w = w} {x = x} front rest p o i r e) = on w x (real_reached r) (Usual (Opened front rest p o i e))
  real_reached (entered {w = w} {x = x} entry k o r e) = on w x (real_reached r) (steps entry k w x o e)
  real_reached (happened {w = w} e q r) = on w _ (real_reached r) (Recorded who bad (e ∷ []) refl)
  real_reached (swallowed {w = w} {x = x} k v u l n ns i c j r s) = on w x (real_reached r) (Usual (Swallowed k v u l n ns s.before s.after s.bad i c j s.there s.hears s.is))
  real_reached (received {w = w} {x = x} k v u l n ns i c j r s) = on w x (real_reached r) (Received who bad k v u l n ns s.before s.after s.honest i c j s.there s.receives s.is)
  real_reached (said {w = w} {x = x} h u r s) = on w x (real_reached r) (says h u w x s)
