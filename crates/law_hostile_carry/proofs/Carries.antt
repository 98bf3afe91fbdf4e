-- Carries in each scene of a run with hostile vats, and in the lines of a whole run.
use Rattle.std.proofs.Common.{ℕ, zero, ◌+◌, ◌≤◌, List, refl, arith}
use Rattle.def_machine.specs.Values.{Name}
use Rattle.def_run.specs.World as world
use Rattle.def_run.specs.World.{Event, World}
use Rattle.def_hostile.specs.Hostile as hostile
use Rattle.def_hostile.specs.Hostile.{Play, Scene, Acted, Plays, Breaks, Line, starts, opens_from, does_all}
use Rattle.law_fate.specs.Fates.Fate.{sent_by, sent}
use Rattle.law_fate.specs.Fates.Carry.{carried_by, carries}
use Rattle.law_fate.proofs.Fates.RunFates.{none_vats, none_links}
use Rattle.law_injected.specs.HostileRuns.{IsHostile}
use Rattle.law_scenes.specs.Doings.{told, IsReal}
use Rattle.law_scenes.proofs.Scenes.{Tells}
use Rattle.law_scenes.proofs.Real.{Stands, Ok, opened_stands, gone_stands, opened_ok, doings_ok}
use Rattle.law_hostile_fate.specs.Brought.{brought_by, brought}
use Rattle.law_hostile_fate.specs.Fates.{OneFate, Ended}
use Rattle.law_hostile_fate.proofs.Ends.{lines_total, no_frame_doubles, one_fate_at_most}
use Rattle.law_hostile_carry.specs.Carries.{TwoCarries, TwoCarriesAtMostWithFrames}
use Rattle.law_hostile_carry.proofs.Borne.{real_borne}

module _ (play : Play) (who : ℕ) (bad : IsHostile play who) (x : Name) where
  abbrev hs : List ℕ
  hs = play.hostile

  -- no more than twice as often as it was sent and brought
  abbrev Doubled : List Event → Type 0
  Doubled es = carries x es ≤ (sent x es + brought hs x es) + (sent x es + brought hs x es)

  told_doubled : (ls : List Line) (w : World) → IsReal play w → Tells ls w.history → Doubled (told ls)
  unfolding carries sent brought carried_by sent_by brought_by
  told_doubled ls w r t = let k = (real_borne play x who bad r).kept in
      let a = t (carried_by x) (λ k v w. refl) (λ k v w. refl) in let b = t (sent_by x) (λ k v w. refl) (λ k v w. refl) in let c = t (brought_by hs x) (λ k v w. refl) (λ k v w. refl) in omega (arith, k, a, b, c)

  two : (held : ℕ) (es : List Event) → Doubled es → OneFate hs x held es → TwoCarries hs x es
  two held es d o = let a = o.1 in (d, omega (arith, d, a))

  -- ---- the end

  abbrev E : Acted → Type 0
  E a = Ended (λ s. Doubled (told s.lines)) a

  then_ends : (a : Acted) (f : Scene → Acted) → Ok play who bad a → ((s : Scene) → Stands play who bad s → E (f s)) → E (hostile.then_plays a f)
  unfolding hostile.then_plays
  then_ends (Plays s) f h g = g s h
  then_ends (Breaks c k s) f h g = told_doubled s.lines h.0 h.1 h.2

  closes : (s : Scene) → Stands play who bad s → E (hostile.closes play s)
  unfolding hostile.closes carries sent brought carried_by sent_by brought_by
  closes s g = let script : world.Script = play.script in let w : World = s.world in let vats : List Event = world.left_vats script w.vats in let d = told_doubled s.lines w g.0 g.1 in
      let a0 = lines_total play script (carried_by x) s.lines vats s.raws w.links refl in let b0 = lines_total play script (sent_by x) s.lines vats s.raws w.links refl in let c0 = lines_total play script (brought_by hs x) s.lines vats s.raws w.links refl in
      let a1 = none_vats x script (carried_by x) (λ v m. refl) (λ v n m. refl) (λ v n m. refl) (λ v u n. refl) w.vats in let a2 = none_links x script (carried_by x) (λ v m. refl) (λ v n m. refl) (λ v n m. refl) (λ v u n. refl) w.links in
      let b1 = none_vats x script (sent_by x) (λ v m. refl) (λ v n m. refl) (λ v n m. refl) (λ v u n. refl) w.vats in let b2 = none_links x script (sent_by x) (λ v m. refl) (λ v n m. refl) (λ v n m. refl) (λ v u n. refl) w.links in
      let c1 = none_vats x script (brought_by hs x) (λ v m. refl) (λ v n m. refl) (λ v n m. refl) (λ v u n. refl) w.vats in let c2 = none_links x script (brought_by hs x) (λ v m. refl) (λ v n m. refl) (λ v n m. refl) (λ v u n. refl) w.links in omega (arith, d, a0, b0, c0, a1, a2, b1, b2, c1, c2)

  ends : E (hostile.acts play)
  unfolding hostile.acts
  ends = then_ends (opens_from play zero play.script.vats (starts play)) (λ s. hostile.then_plays (does_all play play.doings 1 s) (hostile.closes play)) (opened_ok play who bad)
      (λ s g. then_ends (does_all play play.doings 1 s) (hostile.closes play) (doings_ok play who bad play.doings 1 s g) closes)

  both : (a : Acted) → E a → Ended (λ s. OneFate hs x 0 (told s.lines)) a → Ended (λ s. TwoCarries hs x (told s.lines)) a
  both (Plays s) d o = two 0 (told s.lines) d o
  both (Breaks c k s) d o = two 0 (told s.lines) d o

pub two_carries : TwoCarriesAtMostWithFrames
two_carries play h bad x = (
  λ s c. let g = opened_stands play h bad s c in two play h bad x _ (told s.lines) (told_doubled play h bad x s.lines s.world g.0 g.1) ((no_frame_doubles play h bad x).0 s c),
  λ s c. let g = gone_stands play h bad s c in two play h bad x _ (told s.lines) (told_doubled play h bad x s.lines s.world g.0 g.1) ((no_frame_doubles play h bad x).1 s c),
  both play h bad x (hostile.acts play) (ends play h bad x) (one_fate_at_most play h bad x),
)
