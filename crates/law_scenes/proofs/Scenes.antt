-- What each doing of a run with hostile vats keeps of worlds holds in each scene, whose lines tell what the history of its world tells: an honest vat goes on as in every run, a note arrives, or a hostile vat says a note in a frame, which arrives at once.
use Rattle.std.proofs.Common.{◌≡◌, ℕ, zero, suc, Bool, true, false, List, [], ◌∷◌, ◌++◌, Option, Some, None, map, refl, sym, ◌∙◌, ap, subst, length, append_assoc, append-nil, inl, inr, arith}
use Rattle.std.specs.Prelude.{slice_get, drop, ◌&&◌}
use Rattle.def_op.specs.Frames.{Operation}
use Rattle.def_machine.specs.Values.{Name, Sent}
use Rattle.def_machine.specs.State as state
use Rattle.def_machine.specs.State.{Note, Deliver, Open, Ask, SettledTo, Elsewhere, Shorten, Vat, Done, Gives, Throws, Ejects, Stops, Act, send_out, ◌>>◌, is_in}
use Rattle.def_machine.specs.Arrive.{Incoming}
use Rattle.def_run.specs.Connections.{Heard}
use Rattle.def_run.specs.Deeds.{perform_all}
use Rattle.def_run.specs.Entered.{imports_placed}
use Rattle.def_run.specs.Wire.{connected_at, hear_at}
use Rattle.def_run.specs.World as world
use Rattle.def_run.specs.World.{Program, Opens, Entry, Turn, Carry, CutLink, NoticeLink, Event, Turned, Carried, Idle, CutAt, NoticedAt, Link, World, Run, Goes as Going, Stopped, names, names_of, read_note, readied}
use Rattle.def_hostile.specs.Claims as claims
use Rattle.def_hostile.specs.Judge as judge
use Rattle.def_hostile.specs.Judge.{Verdict, verdict}
use Rattle.def_hostile.specs.Hostile as hostile
use Rattle.def_hostile.specs.Hostile.{Play, Scene, Acted, Plays, Breaks, Doing, Does, Injects, Line, Told, Injected, NotInjected, Refused, Unread, LeftFrame, is_hostile, new_names, counts}
use Rattle.law_machine.specs.Run.Moves.{went, without}
use Rattle.law_adversary.specs.Moves.{entered_at, framed_on, placed_from}
use Rattle.law_fate.specs.Fates.Fate.{total, of_note, in_note}
use Rattle.law_fate.proofs.Fates.RunCounts.{total_append}
use Rattle.law_fate.proofs.Name.Among.{get_put}
use Rattle.law_injected.specs.HostileRuns.{IsHostile, IsSpoken}
use Rattle.def_hostile.specs.Plays as come
use Rattle.def_hostile.specs.Plays.{ComesTo}
use Rattle.law_scenes.specs.Doings.{told, IsQuiet, IsOwn, Swallowing, Receiving, Saying, Unheard}
use Rattle.law_scenes.proofs.Said.{speaks}

-- a world in which what vat u put, if it is there, is written behind what it heard and imported
abbrev written_from : Play → ℕ → ℕ → Note Name → World → Option (Vat Name) → World → World
written_from play v u n w o y = record y { connections = hostile.written_behind play u (imports_placed u v (hear_at v u n w.connections)) o }

-- what the vat of that step put is what it put by it
written_so : (play : Play) (v u : ℕ) (ns : List (Note Name)) (n : Note Name) (w : World) (s t : Vat Name) (head : List Event) → slice_get w.vats u ≡ Some s
    → written_from play v u n (without v u ns w) (slice_get (went u (without v u ns w) head t).vats u) (went u (without v u ns w) head t) ≡ placed_from v u n w t (went u (without v u ns w) head t)
unfolding without went hostile.written_behind
written_so play v u ns n w s t head q = ap (λ o. written_from play v u n (without v u ns w) o (went u (without v u ns w) head t)) (get_put w.vats u s t q)

-- ---- lines

pub told_append : (ls ms : List Line) → told (ls ++ ms) ≡ told ls ++ told ms
unfolding told
told_append [] ms = refl
told_append (Told e ∷ ls) ms = ap (λ es. e ∷ es) (told_append ls ms)
told_append (Injected k v w bytes ∷ ls) ms = told_append ls ms
told_append (NotInjected k v w ∷ ls) ms = told_append ls ms
told_append (Refused k v w place ∷ ls) ms = told_append ls ms
told_append (Unread k v w bytes ∷ ls) ms = told_append ls ms
told_append (LeftFrame v w bytes ∷ ls) ms = told_append ls ms

pub told_map : (es : List Event) → told (map Told es) ≡ es
unfolding told
told_map [] = refl
told_map (e ∷ es) = ap (λ xs. e ∷ xs) (told_map es)

drop_front : {A : Type 0} (xs ys : List A) → drop (length xs) (xs ++ ys) ≡ ys
drop_front [] ys = refl
drop_front (x ∷ xs) ys = drop_front xs ys

-- what lines tell is, but for cuts and notices, what a history tells
abbrev pub Tells : List Line → List Event → Type 0
Tells ls es = (f : Event → ℕ) → ((k v w : ℕ) → f (CutAt k v w) ≡ 0) → ((k v w : ℕ) → f (NoticedAt k v w) ≡ 0) → total f (told ls) ≡ total f es

pub tells_more : (ls ms : List Line) (hs es : List Event) → told ms ≡ es → Tells ls hs → Tells (ls ++ ms) (hs ++ es)
tells_more ls ms hs es e h f a b = let i = h f a b in let j = ap (total f) (told_append ls ms) in let k = total_append f (told ls) (told ms) in let l = ap (total f) e in let m = total_append f hs es in omega (arith, i, j, k, l, m)

tells_none : (ls ms : List Line) (hs : List Event) → told ms ≡ [] → Tells ls hs → Tells (ls ++ ms) hs
unfolding total
tells_none ls ms hs e h f a b = let i = h f a b in let j = ap (total f) (told_append ls ms) in let k = total_append f (told ls) (told ms) in let l : total f (told ms) ≡ 0 = ap (total f) e in omega (arith, i, j, k, l)

-- the later history has the earlier one in front
abbrev Extends : World → World → Type 0
Extends w y = (es : List Event) × (y.history ≡ w.history ++ es)

since_is : (w y : World) (es : List Event) → y.history ≡ w.history ++ es → told (hostile.told_since w y) ≡ es
unfolding hostile.told_since
since_is w y es e = told_map (drop (length w.history) y.history) ∙ ap (drop (length w.history)) e ∙ drop_front w.history es

tells_since : (ls : List Line) (w y : World) → Extends w y → Tells ls w.history → Tells (ls ++ [] ++ hostile.told_since w y) y.history
tells_since ls w y g h f a b = let i = tells_more (ls ++ []) (hostile.told_since w y) w.history g.0 (since_is w y g.0 g.1) (subst (λ xs. Tells xs w.history) (sym (append-nil ls)) h) f a b in i ∙ ap (total f) (sym g.1)

plays_is : (s t : Scene) → Plays s ≡ Plays t → s ≡ t
plays_is s t e = cc

going_is : (w x : World) → Going w ≡ Going x → x ≡ w
going_is w x e = cc

honest_is : (b : Bool) → b ≡ false → b ≡ true → ⊥
honest_is b e f = cc

length_end : (ds : List Program) (p : Program) → length (ds ++ p ∷ []) ≡ suc (length ds)
length_end [] p = refl
length_end (d ∷ ds) p = cc (length_end ds p)

-- ---- a step of one vat

pub put_went : (u : ℕ) (w y : World) (head : List Event) (n : ℕ) (d : Done Name (Unit {0})) → world.put_back u w head n d ≡ Going y → (t : Vat Name) × (d ≡ Gives tt t) × (y ≡ went u w head t)
unfolding world.put_back went
put_went u w y head n (Gives a t) e = (t, refl, going_is _ y e)
put_went u w y head n other e = cc

within_went : (u : ℕ) (w y : World) (head : List Event) (n : ℕ) (act : Act Name (Unit {0})) (s : Vat Name) → world.within u w head n act (Some s) ≡ Going y → (t : Vat Name) × (act (readied w s) ≡ Gives tt t) × (y ≡ went u w head t)
unfolding world.within
within_went u w y head n act s e = put_went u w y head n (act (readied w s)) e

went_history : (u : ℕ) (w : World) (head : List Event) (t : Vat Name) → (went u w head t).history ≡ w.history ++ (head ++ world.events_of w.links u t.happened)
unfolding went
went_history u w head t = append_assoc w.history head (world.events_of w.links u t.happened)

-- it tells those lines first
within_extends : (u : ℕ) (w y : World) (head : List Event) (n : ℕ) (act : Act Name (Unit {0})) (o : Option (Vat Name)) → world.within u w head n act o ≡ Going y → (es : List Event) × (y.history ≡ w.history ++ (head ++ es))
unfolding world.within
within_extends u w y head n act None e = cc
within_extends u w y head n act (Some s) e = let g = put_went u w y head n (act (readied w s)) e in (_, ap (λ (z : World). z.history) g.2 ∙ went_history u w head g.0)

then_gives : (d : Done Name (Unit {0})) (f : Act Name (Unit {0})) (t : Vat Name) → state.and_then d (λ _. f) ≡ Gives tt t → (r : Vat Name) × (d ≡ Gives tt r) × (f r ≡ Gives tt t)
unfolding state.and_then
then_gives (Gives a r) f t e = (r, refl, e)
then_gives (Throws p r) f t e = cc
then_gives (Ejects i x r) f t e = cc
then_gives (Stops c r) f t e = cc

pub no_lines : (h : ℕ) (w : World) (t : Vat Name) → t.happened ≡ [] → (went h w [] t).history ≡ w.history
unfolding world.events_of
no_lines h w t e = went_history h w [] t ∙ ap (λ es. w.history ++ world.events_of w.links h es) e ∙ append-nil w.history

module _ (play : Play) where
  pub said_history : (h u : ℕ) (w y : World) → Saying play h u w y → y.history ≡ w.history
  said_history h u w y s = ap (λ (z : World). z.history) s.is ∙ no_lines h w s.after s.quiet

-- what each doing keeps of worlds
pub record IsKept (play : Play) (P : World → Type 0) : Type 0 where
  pub opening : (front rest : List Program) (p : Program) (w y : World) → (IsHostile play (length front) → ⊥) → play.script.vats ≡ front ++ p ∷ rest → world.open_vat play.script (length front) p w ≡ Going y → P w → P y
  pub entering : (entry : Entry) (k : ℕ) (w y : World) → IsOwn play entry → world.step play.script entry k w ≡ Going y → P w → P y
  pub happening : (e : Event) (w : World) → IsQuiet e → P w → P (record w { history = w.history ++ e ∷ [] })
  pub swallowing : (k v u : ℕ) (w y : World) (l : Link) (n : Note Name) (ns : List (Note Name)) → world.link_at v u w.links ≡ Some l → l.cut ≡ false → l.notes ≡ n ∷ ns → Swallowing play k v u w y n ns → P w → P y
  pub receiving : (k v u : ℕ) (w y : World) (l : Link) (n : Note Name) (ns : List (Note Name)) → world.link_at v u w.links ≡ Some l → l.cut ≡ false → l.notes ≡ n ∷ ns → Receiving play k v u w y n ns → P w → P y
  -- what is said and not heard, and what is heard at once
  pub unheard : (h u : ℕ) (w y : World) → Saying play h u w y → Unheard h u y → P w → P y
  pub heard : (k h u : ℕ) (w y z : World) (l : Link) (n : Note Name) (ns : List (Note Name)) → Saying play h u w y → world.link_at h u y.links ≡ Some l → l.cut ≡ false → l.notes ≡ n ∷ ns → Receiving play k h u y z n ns → P w → P z

module _ (play : Play) (who : ℕ) (bad : IsHostile play who) (P : World → Type 0) (law : IsKept play P) where
  -- of a scene
  abbrev pub J : Scene → Type 0
  J s = P s.world × Tells s.lines s.world.history

  -- of the scene at which a run stopped: its lines are those of a scene
  abbrev pub L : Scene → Type 0
  L s = (w : World) × P w × Tells s.lines w.history

  stop : (s : Scene) → J s → L s
  stop s h = (s.world, h.0, h.1)

  abbrev pub Ok : Acted → Type 0
  Ok (Plays s) = J s
  Ok (Breaks c k s) = L s

  abbrev script : world.Script
  script = play.script

  moved : (w y : World) → y ≡ w → P w → P y
  moved w y e h = subst (λ z. P z) (sym e) h

  -- ---- what is told

  happens_ok : (e : Event) (s : Scene) → IsQuiet e → J s → Ok (hostile.happens e s)
  unfolding hostile.happens told
  happens_ok e s q h = (law.happening e s.world q h.0, tells_more s.lines (Told e ∷ []) s.world.history (e ∷ []) refl h.1)

  acted_ok : (n : ℕ) (s : Scene) (run : Run) → L s → Tells s.lines s.world.history → ((y : World) → run ≡ Going y → P y × Extends s.world y) → Ok (hostile.acted n s [] run)
  unfolding hostile.acted
  acted_ok n s (Going y) l h f = let g = f y refl in (g.0, tells_since s.lines s.world y g.1 h)
  acted_ok n s (Stopped c k y) l h f = l

  -- ---- a note comes

  some_hostile : (hs : List ℕ) (v : ℕ) → is_in v hs ≡ true → hostile.is_empty hs ≡ false
  unfolding is_in hostile.is_empty
  some_hostile [] v e = cc
  some_hostile (h ∷ hs) v e = refl

  not_empty : hostile.is_empty play.hostile ≡ false
  unfolding hostile.is_hostile
  not_empty = some_hostile play.hostile who bad

  enters_so : (b : Bool) → b ≡ false → (v u : ℕ) (w : World) (ns : List (Note Name)) (s : Vat Name) (n : Note Name) → hostile.entered_note play b v u (without v u ns w) s n ≡ entered_at w v u s n
  unfolding hostile.entered_note without
  enters_so true e v u w ns s n = cc
  enters_so false e v u w ns s n = refl

  placed_so : (b : Bool) → b ≡ false → (v u : ℕ) (n : Note Name) (w z : World) → hostile.placed_imports play b v u n w z ≡ written_from play v u n w (slice_get z.vats u) z
  unfolding hostile.placed_imports
  placed_so true e v u n w z = cc
  placed_so false e v u n w z = refl

  placed_goes : (v u : ℕ) (n : Note Name) (w : World) (run : Run) (y : World) → hostile.then_places play v u n w run ≡ Going y → (z : World) × (run ≡ Going z) × (y ≡ written_from play v u n w (slice_get z.vats u) z)
  unfolding hostile.then_places
  placed_goes v u n w (Going z) y e = (z, refl, going_is _ y e ∙ placed_so (hostile.is_empty play.hostile) not_empty v u n w z)
  placed_goes v u n w (Stopped c k z) y e = cc

  receives_is : (k v u : ℕ) (w y : World) (n : Note Name) (ns : List (Note Name)) (s : Vat Name) → (IsHostile play u → ⊥) → slice_get w.vats u ≡ Some s → hostile.receives play k v u (without v u ns w) (entered_at w v u s n) s ≡ Going y → Receiving play k v u w y n ns
  unfolding hostile.receives without readied
  receives_is k v u w y n ns s h q e = let m : Note Name = entered_at w v u s n in let p = placed_goes v u m (without v u ns w) _ y e in let g = within_went u (without v u ns w) p.0 _ _ _ s p.1 in
      record { honest = h; before = s; after = g.0; there = q; receives = g.1; is = p.2 ∙ ap (λ (z : World). written_from play v u m (without v u ns w) (slice_get z.vats u) z) g.2 ∙ written_so play v u ns m w s g.0 _ q }

  receives_at_is : (k v u : ℕ) (w y : World) (n : Note Name) (ns : List (Note Name)) → (IsHostile play u → ⊥) → (o : Option (Vat Name)) → slice_get w.vats u ≡ o → hostile.receives_at play k v u (without v u ns w) n o ≡ Going y → Receiving play k v u w y n ns
  unfolding hostile.receives_at
  receives_at_is k v u w y n ns h None q e = cc
  receives_at_is k v u w y n ns h (Some s) q e = receives_is k v u w y n ns s h q (rw (enters_so (hostile.is_empty play.hostile) not_empty v u w ns s n) at e)

  swallows_is : (k v u : ℕ) (w y : World) (n : Note Name) (ns : List (Note Name)) → IsHostile play u → (o : Option (Vat Name)) → slice_get w.vats u ≡ o → hostile.swallows play k v u (without v u ns w) n o ≡ Going y → Swallowing play k v u w y n ns
  unfolding hostile.swallows without world.within readied
  swallows_is k v u w y n ns h None q e = cc
  swallows_is k v u w y n ns h (Some s) q e = let g = put_went u (without v u ns w) y _ _ _ e in record { bad = h; before = s; after = g.0; there = q; hears = g.1; is = g.2 }

  without_history : (v u : ℕ) (ns : List (Note Name)) (w : World) → (without v u ns w).history ≡ w.history
  unfolding without
  without_history v u ns w = refl

  came_extends : (u v : ℕ) (ns : List (Note Name)) (w : World) (head : List Event) (t : Vat Name) → Extends w (went u (without v u ns w) head t)
  came_extends u v ns w head t = (_, went_history u (without v u ns w) head t ∙ ap (λ h. h ++ (head ++ world.events_of (without v u ns w).links u t.happened)) (without_history v u ns w))

  swallowed_extends : (k v u : ℕ) (w y : World) (n : Note Name) (ns : List (Note Name)) → Swallowing play k v u w y n ns → Extends w y
  swallowed_extends k v u w y n ns s = subst (λ z. Extends w z) (sym s.is) (came_extends u v ns w _ s.after)

  received_extends : (k v u : ℕ) (w y : World) (n : Note Name) (ns : List (Note Name)) → Receiving play k v u w y n ns → Extends w y
  received_extends k v u w y n ns s = subst (λ z. Extends w z) (sym s.is) (came_extends u v ns w _ s.after)

  comes_ok : (k v u : ℕ) (w y : World) (l : Link) (n : Note Name) (ns : List (Note Name)) → world.link_at v u w.links ≡ Some l → l.cut ≡ false → l.notes ≡ n ∷ ns → P w → (b : Bool) → is_hostile play u ≡ b → hostile.comes play b k v u (without v u ns w) n ≡ Going y → P y × Extends w y
  unfolding hostile.comes without
  comes_ok k v u w y l n ns i c j h true b e = let s = swallows_is k v u w y n ns b (slice_get w.vats u) refl e in (law.swallowing k v u w y l n ns i c j s h, swallowed_extends k v u w y n ns s)
  comes_ok k v u w y l n ns i c j h false b e = let r = receives_at_is k v u w y n ns (honest_is (is_hostile play u) b) (slice_get w.vats u) refl e in (law.receiving k v u w y l n ns i c j r h, received_extends k v u w y n ns r)

  -- what comes over a link, from a scene whose world is one of those, or one in which a frame was said
  module _ (k v u : ℕ) (s : Scene) (l : L s) (tells : Tells s.lines s.world.history) (idle : Unheard v u s.world → P s.world)
      (comes : (y : World) (l : Link) (n : Note Name) (ns : List (Note Name)) → world.link_at v u s.world.links ≡ Some l → l.cut ≡ false → l.notes ≡ n ∷ ns → hostile.comes play (is_hostile play u) k v u (without v u ns s.world) n ≡ Going y → P y × Extends s.world y) where
    some_is : (a b : Link) → Some a ≡ Some b → a ≡ b
    some_is a b e = cc

    no_notes : (a : Link) → world.link_at v u s.world.links ≡ Some a → a.notes ≡ [] → Unheard v u s.world
    no_notes a i e b j c = let same = some_is b a (sym j ∙ i) in ap (λ (z : Link). z.notes) same ∙ e

    is_cut : (a : Link) → world.link_at v u s.world.links ≡ Some a → a.cut ≡ true → Unheard v u s.world
    is_cut a i e b j c = let same = some_is b a (sym j ∙ i) in absurd (honest_is b.cut c (ap (λ (z : Link). z.cut) same ∙ e))

    is_none : world.link_at v u s.world.links ≡ None → Unheard v u s.world
    is_none i b j c = cc

    notes_ok : (a : Link) → world.link_at v u s.world.links ≡ Some a → a.cut ≡ false → (ns : List (Note Name)) → a.notes ≡ ns → Ok (hostile.carry_notes play k v u s ns)
    unfolding hostile.carry_notes without
    notes_ok a i c [] j = happens_ok (Idle k) s tt (idle (no_notes a i j), tells)
    notes_ok a i c (n ∷ ns) j = acted_ok _ s _ l tells (λ y g. comes y a n ns i c j g)

    cut_ok : (a : Link) → world.link_at v u s.world.links ≡ Some a → (b : Bool) → a.cut ≡ b → Ok (elim b [ true ↦ hostile.happens (Idle k) s | false ↦ hostile.carry_notes play k v u s a.notes ])
    cut_ok a i true c = happens_ok (Idle k) s tt (idle (is_cut a i c), tells)
    cut_ok a i false c = notes_ok a i c a.notes refl

    link_ok : (o : Option Link) → world.link_at v u s.world.links ≡ o → Ok (hostile.carry_link play k v u s o)
    unfolding hostile.carry_link
    link_ok None i = happens_ok (Idle k) s tt (idle (is_none i), tells)
    link_ok (Some a) i = cut_ok a i a.cut refl

  carry_link_ok : (k v u : ℕ) (s : Scene) → J s → Ok (hostile.carry_link play k v u s (world.link_at v u s.world.links))
  carry_link_ok k v u s h = link_ok k v u s (stop s h) h.1 (λ _. h.0) (λ y l n ns i c j g. comes_ok k v u s.world y l n ns i c j h.0 (is_hostile play u) refl g) _ refl

  -- ---- a malformed frame

  behind_is : (w y : World) (e : Event) (es : List Event) → y.history ≡ w.history ++ (e ∷ es) → told (drop 1 (hostile.told_since w y)) ≡ es
  unfolding hostile.told_since
  behind_is w y e es i = let a : map Told (drop (length w.history) y.history) ≡ map Told (e ∷ es) = ap (λ h. map Told (drop (length w.history) h)) i ∙ ap (map Told) (drop_front w.history (e ∷ es)) in
      ap (λ ls. told (drop 1 ls)) a ∙ told_map es

  severed_tells : (ls : List Line) (k h u place : ℕ) (w y z : World) (es fs : List Event) → y.history ≡ w.history ++ (CutAt k h u ∷ es) → z.history ≡ y.history ++ (NoticedAt k u h ∷ fs) → Tells ls w.history
      → Tells (ls ++ Refused k h u place ∷ (drop 1 (hostile.told_since w y) ++ drop 1 (hostile.told_since y z))) z.history
  unfolding told total
  severed_tells ls k h u place w y z es fs i j g f a b =
      let behind : List Line = drop 1 (hostile.told_since w y) ++ drop 1 (hostile.told_since y z) in
      let c = ap (total f) (told_append ls (Refused k h u place ∷ behind)) in let d = total_append f (told ls) (told behind) in
      let e1 = ap (total f) (told_append (drop 1 (hostile.told_since w y)) (drop 1 (hostile.told_since y z))) in let e2 = total_append f (told (drop 1 (hostile.told_since w y))) (told (drop 1 (hostile.told_since y z))) in
      let e3 = ap (total f) (behind_is w y (CutAt k h u) es i) in let e4 = ap (total f) (behind_is y z (NoticedAt k u h) fs j) in
      let h1 = ap (total f) i in let h2 = total_append f w.history (CutAt k h u ∷ es) in let h3 = ap (total f) j in let h4 = total_append f y.history (NoticedAt k u h ∷ fs) in
      let n1 = a k h u in let n2 = b k u h in let old = g f a b in omega (arith, c, d, e1, e2, e3, e4, h1, h2, h3, h4, n1, n2, old)

  notice_extends : (k v w : ℕ) (x y : World) → world.step script (NoticeLink v w) k x ≡ Going y → (es : List Event) × (y.history ≡ x.history ++ (NoticedAt k v w ∷ es))
  unfolding world.step
  notice_extends k v w x y e = within_extends v x y (NoticedAt k v w ∷ []) _ _ (slice_get x.vats v) e

  cut_extends : (k v w : ℕ) (x y : World) → world.step script (CutLink v w) k x ≡ Going y → (es : List Event) × (y.history ≡ x.history ++ (CutAt k v w ∷ es))
  unfolding world.step world.cut
  cut_extends k v w x y e = (_, ap (λ (z : World). z.history) (going_is _ y e))

  severed_ok : (k h u place : ℕ) (s : Scene) (y : World) (run : Run) → world.step script (CutLink h u) k s.world ≡ Going y → world.step script (NoticeLink u h) k y ≡ run → (IsHostile play u → ⊥) → J s → Ok (hostile.severed_by play k h u place s (Going y) run)
  unfolding hostile.severed_by hostile.lines_behind
  severed_ok k h u place s y (Going z) i j o g = let a = cut_extends k h u s.world y i in let b = notice_extends k u h y z j in
      (law.entering (NoticeLink u h) k y z o j (law.entering (CutLink h u) k s.world y tt i g.0), severed_tells s.lines k h u place s.world y z a.0 b.0 a.1 b.1 g.1)
  severed_ok k h u place s y (Stopped c n z) i j o g = stop s g

  malformed_ok : (k h u place : ℕ) (s : Scene) → (IsHostile play u → ⊥) → J s → Ok (hostile.malformed play k h u place s)
  unfolding hostile.malformed hostile.noticed_after world.step world.cut
  malformed_ok k h u place s o g = severed_ok k h u place s _ _ refl refl o g

  -- ---- a lawful frame

  said_goes : (h u : ℕ) (op : Operation) (new : List Name) (n : Note Name) (w y : World) (run : Run) → hostile.said_beside play h u op new n w run ≡ Going y → (z : World) × (run ≡ Going z) × (y ≡ framed_on w h u op n new z)
  unfolding hostile.said_beside
  said_goes h u op new n w y (Going z) e = (z, refl, going_is _ y e)
  said_goes h u op new n w y (Stopped c k z) e = cc

  said_parts : (v u : ℕ) (n : Note Name) (m : Act Name (Unit {0})) (s t : Vat Name) → (m >> send_out u n) s ≡ Gives tt t → (r : Vat Name) × (m s ≡ Gives tt r) × (send_out u n r ≡ Gives tt t)
  unfolding ◌>>◌
  said_parts v u n m s t e = then_gives (m s) (send_out u n) t e

  sent_happened : (u : ℕ) (n : Note Name) (t r : Vat Name) → send_out u n t ≡ Gives tt r → r.happened ≡ t.happened
  unfolding send_out
  sent_happened u n t r e = out _ r e refl
    where
      out : (x r : Vat Name) → Gives (tt {0}) x ≡ Gives (tt {0}) r → x.happened ≡ t.happened → r.happened ≡ t.happened
      out x r e h = let same : x ≡ r = cc in rw same at h

  said_is : (h u : ℕ) (op : Operation) (kinds : List Bool) (new : List Name) (n : Note Name) (w y : World) (q : Vat Name) → IsHostile play h → ((t : Vat Name) → perform_all script h (hostile.deeds_for u kinds n) (readied w q) ≡ Gives tt t → IsSpoken play w h u t n op new) → hostile.said play h u op kinds new n w q ≡ Going y → Saying play h u w y
  unfolding hostile.said
  said_is h u op kinds new n w y q i spoken e =
      let p = said_goes h u op new n w y _ e in let g = within_went h w p.0 [] _ (perform_all script h (hostile.deeds_for u kinds n) >> send_out u n) q p.1 in
      let d = said_parts h u n (perform_all script h (hostile.deeds_for u kinds n)) (readied w q) g.0 g.1 in let s = spoken d.0 d.1 in
      record {
        note = n;
        op = op;
        new = new;
        ready = d.0;
        after = g.0;
        bad = i;
        spoken = s;
        sends = d.2;
        quiet = sent_happened u n d.0 g.0 d.2 ∙ (speaks play (Sent (record { sender = h; number = zero })) w h u d.0 n op new s).happened;
        is = p.2 ∙ ap (λ (z : World). framed_on w h u op n new z) g.2;
      }

  heard_comes : (k h u : ℕ) (y z : World) (n : Note Name) (ns : List (Note Name)) → (IsHostile play u → ⊥) → (b : Bool) → is_hostile play u ≡ b → hostile.comes play b k h u (without h u ns y) n ≡ Going z → Receiving play k h u y z n ns
  unfolding hostile.comes without
  heard_comes k h u y z n ns o true i e = absurd (o i)
  heard_comes k h u y z n ns o false i e = receives_at_is k h u y z n ns o (slice_get y.vats u) refl e

  carries_ok : (k h u : ℕ) (s : Scene) (run : Run) → J s → ((y : World) → run ≡ Going y → Saying play h u s.world y) → Ok (hostile.carries_said play k h u s run)
  unfolding hostile.carries_said
  carries_ok k h u s (Going y) g f = let a = f y refl in let o = (a.spoken).honest in
      link_ok k h u (record s { world = y }) (stop s g) (subst (λ es. Tells s.lines es) (sym (said_history play h u s.world y a)) g.1) (λ e. law.unheard h u s.world y a e g.0)
      (λ z l n ns i c j e. let r = heard_comes k h u y z n ns o (is_hostile play u) refl e in (law.heard k h u s.world y z l n ns a i c j r g.0, received_extends k h u y z n ns r)) (world.link_at h u y.links) refl
  carries_ok k h u s (Stopped c n y) g f = stop s g

  again_resolves : (t : Vat Name) (u : ℕ) (n : Note Name) (b : Bool) → hostile.tells_again play t u n ≡ b → b ≡ true → hostile.is_resolve n ≡ true
  unfolding hostile.tells_again
  again_resolves t u n b e i = let j = e ∙ i in first (hostile.is_resolve n) _ j
    where
      first : (c d : Bool) → (c && d) ≡ true → c ≡ true
      first true d f = refl
      first false d f = cc

  resolve_quiet : (hs : List ℕ) (ls : List Link) (cs : List claims.Claim) (n : Note Name) → hostile.is_resolve n ≡ true → (x : Name) → of_note x (claims.unnamed hs ls cs n) ≡ 0
  unfolding hostile.is_resolve claims.unnamed of_note in_note
  resolve_quiet hs ls cs (SettledTo n y) e x = refl
  resolve_quiet hs ls cs (Elsewhere n c) e x = refl
  resolve_quiet hs ls cs (Deliver d n verb ys) e x = cc
  resolve_quiet hs ls cs (Open i n) e x = cc
  resolve_quiet hs ls cs (Ask p i n) e x = cc
  resolve_quiet hs ls cs (Shorten n c i) e x = cc

  spoken_ok : (k h u : ℕ) (op : Operation) (bytes : List ℕ) (kinds : List Bool) (new : List Name) (n : Note Name) (s : Scene) (q : Vat Name) → IsHostile play h → ((x : Vat Name) → perform_all script h (hostile.deeds_for u kinds n) (readied s.world q) ≡ Gives tt x → IsSpoken play s.world h u x n op new)
      → J s → (b : Bool) → (b ≡ true → hostile.is_resolve n ≡ true) → Ok (hostile.spoken play k h u op bytes kinds new n s q b)
  unfolding hostile.spoken
  spoken_ok k h u op bytes kinds new n s q i spoken g true r = happens_ok _ s (resolve_quiet play.hostile s.world.links s.claims n (r refl)) g
  spoken_ok k h u op bytes kinds new n s q i spoken g false r = carries_ok k h u _ (hostile.said play h u op kinds new n s.world q) g (λ y e. said_is h u op kinds new n s.world y q i spoken e)

  heard_ok : (k h u : ℕ) (op : Operation) (bytes : List ℕ) (kinds : List Bool) (s : Scene) (q p : Vat Name) → IsHostile play h → (IsHostile play u → ⊥) → verdict (length script.vats) u h (counts (connected_at u h s.world.connections).tables) bytes ≡ judge.Lawful op kinds → slice_get s.world.vats h ≡ Some q → slice_get s.world.vats u ≡ Some p → J s
      → (o : Option (Heard Name (Note (Incoming Name Name)))) → hostile.read_op play h u (connected_at u h s.world.connections).tables (new_names h (length q.things) q.promises kinds) (Sent (record { sender = h; number = q.messages })) op ≡ o → Ok (hostile.heard_note play k h u op bytes kinds (new_names h (length q.things) q.promises kinds) s q p o)
  unfolding hostile.heard_note
  heard_ok k h u op bytes kinds s q p i a v j l g None o = stop s g
  heard_ok k h u op bytes kinds s q p i a v j l g (Some x) o = spoken_ok k h u op bytes kinds _ _ s q i (λ y f. record { bytes = bytes; kinds = kinds; record_of = q; reader = p; heard = x; honest = a; lawful = v; speaks = j; hears = l; makes = refl; reads = o; says = refl; prepares = f }) g _ (λ b. again_resolves p u _ _ refl b)

  lawful_ok : (k h u : ℕ) (op : Operation) (bytes : List ℕ) (kinds : List Bool) (s : Scene) → IsHostile play h → (IsHostile play u → ⊥) → verdict (length script.vats) u h (counts (connected_at u h s.world.connections).tables) bytes ≡ judge.Lawful op kinds → J s
      → (a b : Option (Vat Name)) → slice_get s.world.vats h ≡ a → slice_get s.world.vats u ≡ b → Ok (hostile.lawful play k h u op bytes kinds s a b)
  unfolding hostile.lawful
  lawful_ok k h u op bytes kinds s i x v g None b j l = stop s g
  lawful_ok k h u op bytes kinds s i x v g (Some q) None j l = stop s g
  lawful_ok k h u op bytes kinds s i x v g (Some q) (Some p) j l = heard_ok k h u op bytes kinds s q p i x v j l g _ refl

  judged_ok : (k h u : ℕ) (bytes : List ℕ) (s : Scene) → IsHostile play h → (IsHostile play u → ⊥) → J s → (x : Verdict) → verdict (length script.vats) u h (counts (connected_at u h s.world.connections).tables) bytes ≡ x → Ok (hostile.judged_frame play k h u bytes s x)
  unfolding hostile.judged_frame
  judged_ok k h u bytes s i a g (judge.Malformed place) v = malformed_ok k h u place s a g
  judged_ok k h u bytes s i a g (judge.Lawful op kinds) v = lawful_ok k h u op bytes kinds s i a v g (slice_get s.world.vats h) (slice_get s.world.vats u) refl refl

  frame_ok : (k h u : ℕ) (bytes : List ℕ) (s : Scene) → IsHostile play h → J s → (b : Bool) → is_hostile play u ≡ b → Ok (hostile.frame_comes play b k h u bytes s)
  unfolding hostile.frame_comes hostile.tells told
  frame_ok k h u bytes s i g true c = (g.0, tells_none s.lines (Unread k h u bytes ∷ []) s.world.history refl g.1)
  frame_ok k h u bytes s i g false c = judged_ok k h u bytes s i (honest_is (is_hostile play u) c) g _ refl

  carry_ok : (k v u : ℕ) (s : Scene) → IsHostile play v → J s → (fs : List (List ℕ)) → Ok (hostile.carry play k v u s fs)
  unfolding hostile.carry
  carry_ok k v u s i g [] = carry_link_ok k v u s g
  carry_ok k v u s i g (f ∷ fs) = frame_ok k v u f _ i g (is_hostile play u) refl

  does_carry_ok : (k v u : ℕ) (s : Scene) → J s → (b : Bool) → is_hostile play v ≡ b → Ok (hostile.does_carry play b k v u s)
  unfolding hostile.does_carry
  does_carry_ok k v u s g true h = carry_ok k v u s h g _
  does_carry_ok k v u s g false h = carry_link_ok k v u s g

  -- ---- the entries

  idle_extends : (k : ℕ) (w y : World) → world.idle script k w ≡ Going y → Extends w y
  unfolding world.idle
  idle_extends k w y e = (Idle k ∷ [], ap (λ (z : World). z.history) (going_is _ y e))

  queue_extends : (k v : ℕ) (w y : World) (s : Vat Name) (ms : List (state.Message Name)) → world.turn_queue script k v w s ms ≡ Going y → Extends w y
  unfolding world.turn_queue
  queue_extends k v w y s [] e = idle_extends k w y e
  queue_extends k v w y s (m ∷ ms) e = let x = within_extends v w y (Turned k v ∷ []) _ _ (Some (record s { queue = ms })) e in (_, x.1)

  turn_extends : (k v : ℕ) (w y : World) (o : Option (Vat Name)) → world.turn script k v w o ≡ Going y → Extends w y
  unfolding world.turn
  turn_extends k v w y None e = idle_extends k w y e
  turn_extends k v w y (Some s) e = queue_extends k v w y s s.queue e

  turned_extends : (k v : ℕ) (w y : World) → world.step script (Turn v) k w ≡ Going y → Extends w y
  unfolding world.step
  turned_extends k v w y e = turn_extends k v w y (slice_get w.vats v) e

  turn_ok : (k v : ℕ) (s : Scene) → J s → (b : Bool) → is_hostile play v ≡ b → Ok (hostile.does_turn play b k v s)
  unfolding hostile.does_turn
  turn_ok k v s g true h = happens_ok (Idle k) s tt g
  turn_ok k v s g false h = acted_ok _ s _ (stop s g) g.1 (λ y i. (law.entering (Turn v) k s.world y (honest_is (is_hostile play v) h) i g.0, turned_extends k v s.world y i))

  notice_ok : (k v w : ℕ) (s : Scene) → J s → (b : Bool) → is_hostile play v ≡ b → Ok (hostile.does_notice play b k v w s)
  unfolding hostile.does_notice
  notice_ok k v w s g true h = happens_ok (NoticedAt k v w) s tt g
  notice_ok k v w s g false h = acted_ok _ s _ (stop s g) g.1 (λ y i. (law.entering (NoticeLink v w) k s.world y (honest_is (is_hostile play v) h) i g.0, let x = notice_extends k v w s.world y i in (_, x.1)))

  injects_ok : (k h w : ℕ) (bytes : List ℕ) (s : Scene) → J s → (b : Bool) → Ok (hostile.injects play b k h w bytes s)
  unfolding hostile.injects hostile.tells told
  injects_ok k h w bytes s g true = (g.0, tells_none s.lines (NotInjected k h w ∷ []) s.world.history refl g.1)
  injects_ok k h w bytes s g false = (g.0, tells_none s.lines (Injected k h w bytes ∷ []) s.world.history refl g.1)

  tried_ok : (d : Doing) (k : ℕ) (s : Scene) → J s → Ok (hostile.tries play d k s)
  unfolding hostile.tries
  tried_ok (Does (Turn v)) k s g = turn_ok k v s g (is_hostile play v) refl
  tried_ok (Does (Carry v u)) k s g = does_carry_ok k v u s g (is_hostile play v) refl
  tried_ok (Does (CutLink v u)) k s g = acted_ok _ _ _ (stop s g) g.1 (λ y i. (law.entering (CutLink v u) k s.world y tt i g.0, let x = cut_extends k v u s.world y i in (_, x.1)))
  tried_ok (Does (NoticeLink v u)) k s g = notice_ok k v u s g (is_hostile play v) refl
  tried_ok (Injects h u bytes) k s g = injects_ok k h u bytes s g (world.is_cut h u s.world.links)

  -- what stops leaves the scene before it
  left_ok : (s : Scene) (a : Acted) → J s → Ok a → Ok (hostile.or_leaves s a)
  unfolding hostile.or_leaves
  left_ok s (Plays t) g h = h
  left_ok s (Breaks c k t) g h = stop s g

  doing_ok : (d : Doing) (k : ℕ) (s : Scene) → J s → Ok (hostile.does play d k s)
  unfolding hostile.does
  doing_ok d k s g = left_ok s (hostile.tries play d k s) g (tried_ok d k s g)

  pub then_ok : (a : Acted) (f : Scene → Acted) → Ok a → ((s : Scene) → J s → Ok (f s)) → Ok (hostile.then_plays a f)
  unfolding hostile.then_plays
  then_ok (Plays s) f h g = g s h
  then_ok (Breaks c k s) f h g = h

  pub doings_ok : (ds : List Doing) (k : ℕ) (s : Scene) → J s → Ok (hostile.does_all play ds k s)
  unfolding hostile.does_all
  doings_ok [] k s g = g
  doings_ok (d ∷ ds) k s g = then_ok (hostile.does play d k s) (hostile.does_all play ds (suc k)) (doing_ok d k s g) (λ x h. doings_ok ds (suc k) x h)

  -- ---- the opening turns

  open_extends : (v : ℕ) (p : Program) (w y : World) → world.open_vat script v p w ≡ Going y → Extends w y
  unfolding world.open_vat
  open_extends v p w y e = let x = within_extends v w y (Opens v ∷ []) _ _ (slice_get w.vats v) e in (_, x.1)

  open_ok : (front rest : List Program) (p : Program) (s : Scene) → play.script.vats ≡ front ++ p ∷ rest → J s → (b : Bool) → is_hostile play (length front) ≡ b → Ok (hostile.opens play b (length front) p s)
  unfolding hostile.opens
  open_ok front rest p s i g true h = g
  open_ok front rest p s i g false h = acted_ok _ s _ (stop s g) g.1 (λ y j. (law.opening front rest p s.world y (honest_is (is_hostile play (length front)) h) i j g.0, open_extends (length front) p s.world y j))

  pub opens_ok : (front ps rest : List Program) (s : Scene) → play.script.vats ≡ front ++ (ps ++ rest) → J s → Ok (hostile.opens_from play (length front) ps s)
  unfolding hostile.opens_from
  opens_ok front [] rest s i g = g
  opens_ok front (p ∷ ps) rest s i g = then_ok (hostile.opens play (is_hostile play (length front)) (length front) p s) (hostile.opens_from play (suc (length front)) ps) (open_ok front (ps ++ rest) p s i g (is_hostile play (length front)) refl)
      (λ x h. subst (λ k. Ok (hostile.opens_from play k ps x)) (length_end front p) (opens_ok (front ++ p ∷ []) ps rest x (i ∙ sym (append_assoc front (p ∷ []) (ps ++ rest))) h))

  pub plays_ok : (a : Acted) (s : Scene) → a ≡ Plays s → Ok a → J s
  plays_ok a s e h = subst (λ x. Ok x) e h

  -- ---- where a run comes to

  module _ (begun : J (hostile.starts play)) where
    pub opens_so : (ps rest : List Program) → play.script.vats ≡ ps ++ rest → Ok (hostile.opens_from play zero ps (hostile.starts play))
    opens_so ps rest i = opens_ok [] ps rest (hostile.starts play) i begun

    pub opened_so : Ok (hostile.opens_from play zero play.script.vats (hostile.starts play))
    opened_so = opens_so play.script.vats [] (sym (append-nil play.script.vats))

    pub opened_scene : (s : Scene) → come.Opens play s → J s
    opened_scene s c = plays_ok _ s c.3 (opens_so c.0 c.1 c.2)

    pub gone_scene : (s : Scene) → come.Goes play s → J s
    gone_scene s c = plays_ok _ s c.5 (doings_ok c.1 1 c.0 (plays_ok _ c.0 c.4 opened_so))

    abbrev Q : Acted → Type 0
    Q (Plays s) = P s.world
    Q (Breaks c k s) = Unit {0}

    then_so : (a : Acted) (f : Scene → Acted) → Ok a → ((s : Scene) → J s → Q (f s)) → Q (hostile.then_plays a f)
    unfolding hostile.then_plays
    then_so (Plays s) f h g = g s h
    then_so (Breaks c k s) f h g = tt

    -- the closing list changes no world
    ends_so : Q (hostile.acts play)
    unfolding hostile.acts hostile.closes
    ends_so = then_so (hostile.opens_from play zero play.script.vats (hostile.starts play)) (λ s. hostile.then_plays (hostile.does_all play play.doings 1 s) (hostile.closes play)) opened_so
        (λ s g. then_so (hostile.does_all play play.doings 1 s) (hostile.closes play) (doings_ok play.doings 1 s g) (λ t h. h.0))

    ended_so : (a : Acted) (s : Scene) → a ≡ Plays s → Q a → P s.world
    ended_so a s e h = subst (λ z. Q z) e h

    pub in_scenes : (s : Scene) → ComesTo play s → P s.world
    in_scenes s (inl c) = (opened_scene s c).0
    in_scenes s (inr (inl c)) = (gone_scene s c).0
    in_scenes s (inr (inr e)) = ended_so (hostile.acts play) s e ends_so
