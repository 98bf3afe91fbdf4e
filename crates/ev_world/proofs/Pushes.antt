-- Frames that go out stand for those of the run in numbers, and what was told stays as it was told.
use Rattle.std.proofs.Common.{◌≡◌, ℕ, List, [], ◌∷◌, ◌++◌, length, refl, sym, ap, subst, ◌∙◌}
use Rattle.def_run.specs.Numbers.{Addressed, Vats, Way, pushed, push_all, with_way}
use Rattle.def_event.specs.declared.event.Event.{Event as ShownEvent}
use Rattle.def_run.specs.Text.{shown_events, vat_names}
use Rattle.def_run.specs.World.{Script}
use Rattle.ev_resident.specs.Framing.{AreOutgoing}
use Rattle.ev_resident.specs.declared.outgoing.Outgoing.{Outgoing}
use Rattle.ev_step_text.specs.Accounts.{IsAccount}
use Rattle.ev_ways.specs.Rows.{Lane, changed, put}
use Rattle.ev_ways.specs.Standing.{WaysStand}
use Rattle.ev_ways.specs.declared.frame.Frame.{Frame}
use Rattle.ev_ways.proofs.Changes.{push_stands}
use Rattle.ev_ways.proofs.Draws.{draws_stand}
use Rattle.ev_world.specs.Pushing.{all_pushed}
use Rattle.ev_world.specs.Standing.{IsWorld, told_so}
use Rattle.ev_world.specs.declared.world.World.{World}
use Rattle.def_run.specs.Steady.{ShownAlike}

-- ---- one frame after the other

pushed_behind : (u : ℕ) (ys : List Outgoing) (y : Outgoing) (rows : List (List Lane)) → all_pushed u (ys ++ y ∷ []) rows ≡ changed (put y.frame) u y.to (all_pushed u ys rows)
unfolding all_pushed
pushed_behind u [] y rows = refl
pushed_behind u (z ∷ ys) y rows = pushed_behind u ys y (changed (put z.frame) u z.to rows)

pub one_pushed : (u to : ℕ) (x : Frame) (ys : List Outgoing) (y : Outgoing) (rows qs after : List (List Lane)) → qs ≡ all_pushed u ys rows → to ≡ y.to → x ≡ y.frame → after ≡ changed (put x) u to qs
    → after ≡ all_pushed u (ys ++ y ∷ []) rows
one_pushed u to x ys y rows qs after e f g h =
    h
    ∙ ap (λ (q : List (List Lane)). changed (put x) u to q) e
    ∙ ap (λ (k : ℕ). changed (put x) u k (all_pushed u ys rows)) f
    ∙ ap (λ (z : Frame). changed (put z) u y.to (all_pushed u ys rows)) g
    ∙ sym (pushed_behind u ys y rows)

pub none_pushed : (u : ℕ) (rows : List (List Lane)) → rows ≡ all_pushed u [] rows
unfolding all_pushed
none_pushed u rows = refl

pub pushes_stand : (ds : List ℕ) (n u : ℕ) (xs : List Addressed) (ys : List Outgoing) (ls : List Way) (rows : List (List Lane)) → AreOutgoing ds xs ys → WaysStand ds n ls rows
    → WaysStand ds n (push_all u xs ls) (all_pushed u ys rows)
unfolding push_all all_pushed
pushes_stand ds n u [] [] ls rows a s = s
pushes_stand ds n u (x ∷ xs) (y ∷ ys) ls rows a s =
    pushes_stand ds n u xs ys (with_way (pushed x.frame) u x.to ls) (changed (put y.frame) u y.to rows) a.1
    (subst (λ (k : ℕ). WaysStand ds n (with_way (pushed x.frame) u x.to ls) (changed (put y.frame) u k rows)) (sym a.0.to) (push_stands ds n u x.to x.frame y.frame ls rows a.0.frame s))
pushes_stand ds n u [] (y ∷ ys) ls rows a s = absurd a
pushes_stand ds n u (x ∷ xs) [] ls rows a s = absurd a

-- ---- more words were drawn

pub ways_alike : (S : Script) (w : Vats) (c : World) (es : List ℕ) → ShownAlike w.drawn es w → IsWorld S w c → WaysStand es (length S.vats) w.ways c.ways
ways_alike S w c es alike at = draws_stand w.drawn es (length S.vats) w.ways c.ways alike.frames at.ways

pub history_alike : (S : Script) (w : Vats) (c : World) (es : List ℕ) → ShownAlike w.drawn es w → IsWorld S w c → IsAccount (vat_names S) c.history (told_so c.wire (shown_events es w.history))
history_alike S w c es alike at = subst (λ (xs : List ShownEvent). IsAccount (vat_names S) c.history (told_so c.wire xs)) (sym alike.history) at.history

-- the ways as a step leaves them
pub ways_left : (S : Script) (w : Vats) (c : World) (es : List ℕ) (u : ℕ) (xs : List Addressed) (ys : List Outgoing) → ShownAlike w.drawn es w → IsWorld S w c → AreOutgoing es xs ys
    → WaysStand es (length S.vats) (push_all u xs w.ways) (all_pushed u ys c.ways)
ways_left S w c es u xs ys alike at out = pushes_stand es (length S.vats) u xs ys w.ways c.ways out (ways_alike S w c es alike at)
