-- Fates in each scene of a run with hostile vats, and in the lines of a whole run.
use Rattle.std.proofs.Common.{◌≡◌, ℕ, zero, ◌+◌, ◌≤◌, List, [], ◌∷◌, ◌++◌, map, refl, ap, arith}
use Rattle.def_machine.specs.Values.{Name}
use Rattle.def_machine.specs.State.{Note}
use Rattle.def_run.specs.World as world
use Rattle.def_run.specs.World.{Script, Program, Event, LeftLink, Ends, Link, World}
use Rattle.def_hostile.specs.Hostile as hostile
use Rattle.def_hostile.specs.Hostile.{Play, Scene, Acted, Plays, Breaks, Doing, Line, Told, LeftFrame, Raw, starts, opens_from, does_all}
use Rattle.law_fate.specs.Fates.Fate.{total, places, sent_by, sent, took_by, takes, lost_by, losses, left_by, leavings, fates}
use Rattle.law_fate.proofs.Fates.RunCounts.{total_append, numbered_once}
use Rattle.law_fate.proofs.Fates.RunFates.{begins_fated, none_vats, none_links, vats_listed, links_listed}
use Rattle.law_fate.specs.Name.Names.{AllOf}
use Rattle.law_fate.proofs.Name.Facts.{all_map}
use Rattle.law_reference.proofs.Reference.NotesLift.{links_from_fit}
use Rattle.law_injected.specs.HostileRuns.{IsHostile}
use Rattle.def_hostile.specs.Plays.{Opens, Goes}
use Rattle.law_hostile_fate.specs.Brought.{told, brought_by, arrives_by, brought, arrivals}
use Rattle.law_hostile_fate.specs.Fates.{OneFate, Ended, NoFrameDoubles, OneFateAtMostWithFrames}
use Rattle.law_scenes.proofs.Scenes as scenes
use Rattle.law_scenes.proofs.Scenes.{Tells, told_append, told_map}
use Rattle.law_hostile_fate.proofs.Account.{AllSilent, Fated, fated_kept}

-- ---- the start

nothing_there : (ns : List (Note Name)) → AllOf (λ (n : Note Name). ⊥) ns → ns ≡ []
nothing_there [] h = refl
nothing_there (n ∷ ns) h = absurd h.0

links_silent : (hs : List ℕ) (script : Script) → AllSilent hs (world.begins script).links
unfolding world.begins
links_silent hs script = all_map (λ l h i. nothing_there l.notes h.1) (world.links_from script.vats zero script.vats) (links_from_fit (λ v u n. ⊥) script.vats zero script.vats)

none_told : (play : Play) (x : Name) → (arrivals play.hostile x (world.begins play.script).history ≡ 0) × (brought play.hostile x (world.begins play.script).history ≡ 0)
unfolding world.begins arrivals brought total
none_told play x = (refl, refl)

begun : (play : Play) (x : Name) → Fated play x (world.begins play.script)
begun play x = let h = begins_fated x play.script in let k = h.kept in let f = h.fresh in let n = none_told play x in let a = n.0 in let b = n.1 in record { kept = omega (arith, k, a, b); unlisted = h.unlisted; fresh = omega (arith, f, b); apart = h.apart; silent = links_silent play.hostile play.script }

-- ---- the closing list

told_left : (v w : ℕ) (ns : List (Note Name)) → told (map (λ n. Told (LeftLink v w n)) ns) ≡ map (λ n. LeftLink v w n) ns
unfolding told
told_left v w [] = refl
told_left v w (n ∷ ns) = ap (λ es. LeftLink v w n ∷ es) (told_left v w ns)

no_frames : (v w : ℕ) (fs : List (List ℕ)) → told (map (LeftFrame v w) fs) ≡ []
unfolding told
no_frames v w [] = refl
no_frames v w (f ∷ fs) = no_frames v w fs

-- what is left on links, with frames among it
links_total : (play : Play) (script : Script) (f : Event → ℕ) (rs : List Raw) (ls : List Link) → total f (told (hostile.left_links play rs ls)) ≡ total f (world.left_links script ls)
unfolding hostile.left_links world.left_links told total
links_total play script f rs [] = refl
links_total play script f rs (l ∷ ls) =
    let notes : List Line = map (λ n. Told (LeftLink l.from l.to n)) l.notes in let frames : List Line = map (LeftFrame l.from l.to) (hostile.frames_at l.from l.to rs) in
    let a = ap (total f) (told_append (notes ++ frames) (hostile.left_links play rs ls)) in let b = ap (total f) (told_append notes frames) in let c = total_append f (told (notes ++ frames)) (told (hostile.left_links play rs ls)) in
    let d = total_append f (told notes) (told frames) in let e = ap (total f) (told_left l.from l.to l.notes) in let g : total f (told frames) ≡ 0 = ap (total f) (no_frames l.from l.to (hostile.frames_at l.from l.to rs)) in
    let h = total_append f (map (λ n. LeftLink l.from l.to n) l.notes) (world.left_links script ls) in let rest = links_total play script f rs ls in omega arith

pub lines_total : (play : Play) (script : Script) (f : Event → ℕ) (ls : List Line) (vats : List Event) (rs : List Raw) (links : List Link) → f Ends ≡ 0 → total f (told (ls ++ map Told vats ++ hostile.left_links play rs links ++ Told Ends ∷ [])) ≡ total f (told ls) + total f vats + total f (world.left_links script links)
unfolding told total
lines_total play script f ls vats rs links z =
    let a1 = ap (total f) (told_append (ls ++ map Told vats ++ hostile.left_links play rs links) (Told Ends ∷ [])) in let a2 = total_append f (told (ls ++ map Told vats ++ hostile.left_links play rs links)) (Ends ∷ []) in
    let b1 = ap (total f) (told_append (ls ++ map Told vats) (hostile.left_links play rs links)) in let b2 = total_append f (told (ls ++ map Told vats)) (told (hostile.left_links play rs links)) in
    let c1 = ap (total f) (told_append ls (map Told vats)) in let c2 = total_append f (told ls) (told (map Told vats)) in let d = ap (total f) (told_map vats) in let e = links_total play script f rs links in omega arith

-- ---- scenes

module _ (play : Play) (who : ℕ) (bad : IsHostile play who) (x : Name) where
  abbrev hs : List ℕ
  hs = play.hostile

  abbrev J : Scene → Type 0
  J s = Fated play x s.world × Tells s.lines s.world.history

  abbrev Ok : Acted → Type 0
  Ok a = scenes.Ok play who bad (Fated play x) (fated_kept play x) a

  started : J (starts play)
  unfolding hostile.starts world.begins told
  started = (begun play x, λ f a b. refl)

  -- of lines that tell what the history of such a world tells, with its places or fewer
  one_fate : (held : ℕ) (ls : List Line) (w : World) → held ≤ places x w → Fated play x w → Tells ls w.history → OneFate hs x held (told ls)
  unfolding fates sent takes losses leavings brought arrivals sent_by took_by lost_by left_by brought_by arrives_by
  one_fate held ls w few h t = let k = h.kept in let u = h.unlisted in let f = h.fresh in let one = numbered_once x 0 w.vats in
      let a = t (sent_by x) (λ k v w. refl) (λ k v w. refl) in let b = t (took_by x) (λ k v w. refl) (λ k v w. refl) in let c = t (lost_by x) (λ k v w. refl) (λ k v w. refl) in
      let d = t (left_by x) (λ k v w. refl) (λ k v w. refl) in let e = t (brought_by hs x) (λ k v w. refl) (λ k v w. refl) in let g = t (arrives_by hs x) (λ k v w. refl) (λ k v w. refl) in (omega arith, omega arith)

  in_scene : (s : Scene) → J s → OneFate hs x (places x s.world) (told s.lines)
  in_scene s g = one_fate (places x s.world) s.lines s.world (omega arith) g.0 g.1

  -- ---- the end

  abbrev E : Acted → Type 0
  E a = Ended (λ s. OneFate hs x 0 (told s.lines)) a

  then_ends : (a : Acted) (f : Scene → Acted) → Ok a → ((s : Scene) → J s → E (f s)) → E (hostile.then_plays a f)
  unfolding hostile.then_plays
  then_ends (Plays s) f h g = g s h
  then_ends (Breaks c k s) f h g = one_fate 0 s.lines h.0 (omega arith) h.1 h.2

  closes : (s : Scene) → J s → E (hostile.closes play s)
  unfolding hostile.closes fates sent takes losses leavings brought arrivals places sent_by took_by lost_by left_by brought_by arrives_by
  closes s g = let script : Script = play.script in let w : World = s.world in let h = g.0 in let t = g.1 in let vats : List Event = world.left_vats script w.vats in
      let k = h.kept in let u = h.unlisted in let f = h.fresh in let one = numbered_once x 0 w.vats in
      let a = t (sent_by x) (λ k v w. refl) (λ k v w. refl) in let b = t (took_by x) (λ k v w. refl) (λ k v w. refl) in let c = t (lost_by x) (λ k v w. refl) (λ k v w. refl) in
      let d = t (left_by x) (λ k v w. refl) (λ k v w. refl) in let e = t (brought_by hs x) (λ k v w. refl) (λ k v w. refl) in let r = t (arrives_by hs x) (λ k v w. refl) (λ k v w. refl) in
      let a0 = lines_total play script (sent_by x) s.lines vats s.raws w.links refl in let b0 = lines_total play script (took_by x) s.lines vats s.raws w.links refl in let c0 = lines_total play script (lost_by x) s.lines vats s.raws w.links refl in
      let d0 = lines_total play script (left_by x) s.lines vats s.raws w.links refl in let e0 = lines_total play script (brought_by hs x) s.lines vats s.raws w.links refl in let r0 = lines_total play script (arrives_by hs x) s.lines vats s.raws w.links refl in
      let a1 = none_vats x script (sent_by x) (λ v m. refl) (λ v n m. refl) (λ v n m. refl) (λ v u n. refl) w.vats in let a2 = none_links x script (sent_by x) (λ v m. refl) (λ v n m. refl) (λ v n m. refl) (λ v u n. refl) w.links in
      let b1 = none_vats x script (took_by x) (λ v m. refl) (λ v n m. refl) (λ v n m. refl) (λ v u n. refl) w.vats in let b2 = none_links x script (took_by x) (λ v m. refl) (λ v n m. refl) (λ v n m. refl) (λ v u n. refl) w.links in
      let c1 = none_vats x script (lost_by x) (λ v m. refl) (λ v n m. refl) (λ v n m. refl) (λ v u n. refl) w.vats in let c2 = none_links x script (lost_by x) (λ v m. refl) (λ v n m. refl) (λ v n m. refl) (λ v u n. refl) w.links in
      let e1 = none_vats x script (brought_by hs x) (λ v m. refl) (λ v n m. refl) (λ v n m. refl) (λ v u n. refl) w.vats in let e2 = none_links x script (brought_by hs x) (λ v m. refl) (λ v n m. refl) (λ v n m. refl) (λ v u n. refl) w.links in
      let r1 = none_vats x script (arrives_by hs x) (λ v m. refl) (λ v n m. refl) (λ v n m. refl) (λ v u n. refl) w.vats in let r2 = none_links x script (arrives_by hs x) (λ v m. refl) (λ v n m. refl) (λ v n m. refl) (λ v u n. refl) w.links in
      let d1 = vats_listed x script w.vats in let d2 = links_listed x script w.links in (omega arith, omega arith)

  ends : E (hostile.acts play)
  unfolding hostile.acts
  ends = then_ends (opens_from play zero play.script.vats (starts play)) (λ s. hostile.then_plays (does_all play play.doings 1 s) (hostile.closes play)) (scenes.opened_so play who bad (Fated play x) (fated_kept play x) started) (λ s g. then_ends (does_all play play.doings 1 s) (hostile.closes play) (scenes.doings_ok play who bad (Fated play x) (fated_kept play x) play.doings 1 s g) closes)

  opened_scene : (s : Scene) → Opens play s → J s
  opened_scene s c = scenes.opened_scene play who bad (Fated play x) (fated_kept play x) started s c

  gone_scene : (s : Scene) → Goes play s → J s
  gone_scene s c = scenes.gone_scene play who bad (Fated play x) (fated_kept play x) started s c

pub no_frame_doubles : NoFrameDoubles
no_frame_doubles play h bad x = (λ s c. in_scene play h bad x s (opened_scene play h bad x s c), λ s c. in_scene play h bad x s (gone_scene play h bad x s c))

pub one_fate_at_most : OneFateAtMostWithFrames
one_fate_at_most play h bad x = ends play h bad x
