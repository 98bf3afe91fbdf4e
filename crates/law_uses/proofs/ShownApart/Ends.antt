-- What holds of every world of a run, and is of its vats and its words alone, holds at the end of the run and where it stopped.
use Rattle.std.proofs.Common.{◌≡◌, ℕ, zero, suc, ◌+◌, Bool, true, false, List, [], ◌∷◌, ◌++◌, Option, Some, None, refl, sym, ◌∙◌, length, append_assoc, arith}
use Rattle.std.specs.Prelude.{slice_get}
use Rattle.def_machine.specs.Values.{Name}
use Rattle.def_machine.specs.State.{Message, Note, Vat, Act, Done, Gives}
use Rattle.def_run.specs.World as world
use Rattle.def_run.specs.World.{Script, Program, Entry, Turn, Carry, CutLink, NoticeLink, Event, Link, World, Run, Goes as Going, Stopped}
use Rattle.law_fate.specs.Fates.FateRuns.{Reached}
use Rattle.law_fate.proofs.Name.Among.{length_end}
use Rattle.law_reference.specs.Reference.Cuts.{NoticesFollowCuts}
use Rattle.law_reference.proofs.Reference.AskHolds.{notices_front}
use Rattle.law_reference.proofs.Reference.Moves.{opens_end, steps_end}
use Rattle.law_uses.specs.ShownApart.ShownApart.{ShownApart, KnownNamesAreShownApart}
use Rattle.law_uses.proofs.ShownApart.Shown.{opened_apart, stepped_apart}

-- ---- where a step stopped

-- the world at which it stopped has the vats and the words of world w
abbrev pub StopsAs : World → Run → Type 0
StopsAs w (Going y) = Unit {0}
StopsAs w (Stopped c n y) = (y.vats ≡ w.vats) × (y.drawn ≡ w.drawn)

back_stops : (v : ℕ) (w y : World) (head : List Event) (n : ℕ) (d : Done Name (Unit {0})) → y.vats ≡ w.vats → y.drawn ≡ w.drawn → StopsAs w (world.put_back v y head n d)
unfolding world.put_back
back_stops v w y head n (Gives u t) e f = tt
back_stops v w y head n other e f = (e, f)

within_stops : (v : ℕ) (w y : World) (head : List Event) (n : ℕ) (act : Act Name (Unit {0})) (o : Option (Vat Name)) → y.vats ≡ w.vats → y.drawn ≡ w.drawn → StopsAs w (world.within v y head n act o)
unfolding world.within
within_stops v w y head n act None e f = (e, f)
within_stops v w y head n act (Some s) e f = back_stops v w y head n (act (world.readied y s)) e f

module _ (script : Script) where
  turn_queue_stops : (k v : ℕ) (w : World) (s : Vat Name) (ms : List (Message Name)) → StopsAs w (world.turn_queue script k v w s ms)
  unfolding world.turn_queue world.idle
  turn_queue_stops k v w s [] = tt
  turn_queue_stops k v w s (m ∷ ms) = within_stops v w w _ _ _ _ refl refl

  turn_stops : (k v : ℕ) (w : World) (o : Option (Vat Name)) → StopsAs w (world.turn script k v w o)
  unfolding world.turn world.idle
  turn_stops k v w None = tt
  turn_stops k v w (Some s) = turn_queue_stops k v w s s.queue

  arrives_stops : (k v to : ℕ) (w y : World) (n : Note Name) (o : Option (Vat Name)) → y.vats ≡ w.vats → y.drawn ≡ w.drawn → StopsAs w (world.arrives script k v to y n o)
  unfolding world.arrives world.idle
  arrives_stops k v to w y n None e f = tt
  arrives_stops k v to w y n (Some s) e f = within_stops to w y _ _ _ _ e f

  carry_notes_stops : (k v to : ℕ) (w : World) (ns : List (Note Name)) → StopsAs w (world.carry_notes script k v to w ns)
  unfolding world.carry_notes world.idle
  carry_notes_stops k v to w [] = tt
  carry_notes_stops k v to w (n ∷ ns) = arrives_stops k v to w (record w { links = world.with_link (world.with_notes ns) v to w.links }) n (slice_get w.vats to) refl refl

  carry_cut_stops : (k v to : ℕ) (w : World) (ns : List (Note Name)) (b : Bool) → StopsAs w (elim b [ true ↦ world.idle script k w | false ↦ world.carry_notes script k v to w ns ])
  unfolding world.idle
  carry_cut_stops k v to w ns true = tt
  carry_cut_stops k v to w ns false = carry_notes_stops k v to w ns

  carry_stops : (k v to : ℕ) (w : World) (o : Option Link) → StopsAs w (world.carry_link script k v to w o)
  unfolding world.carry_link world.idle
  carry_stops k v to w None = tt
  carry_stops k v to w (Some l) = carry_cut_stops k v to w l.notes l.cut

  cut_stops : (k v to : ℕ) (w : World) → StopsAs w (world.cut script k v to w)
  unfolding world.cut
  cut_stops k v to w = tt

  step_stops : (entry : Entry) (k : ℕ) (w : World) → StopsAs w (world.step script entry k w)
  unfolding world.step
  step_stops (Turn v) k w = turn_stops k v w (slice_get w.vats v)
  step_stops (Carry v to) k w = carry_stops k v to w (world.link_at v to w.links)
  step_stops (CutLink v to) k w = cut_stops k v to w
  step_stops (NoticeLink v to) k w = within_stops v w w _ _ _ _ refl refl

  open_stops : (v : ℕ) (p : Program) (w : World) → StopsAs w (world.open_vat script v p w)
  unfolding world.open_vat
  open_stops v p w = within_stops v w w _ _ _ _ refl refl

  -- ---- a run

  module _ (Q : World → Type 0) (like : (w y : World) → y.vats ≡ w.vats → y.drawn ≡ w.drawn → Q w → Q y)
      (opened : (ps rest : List Program) (w : World) → script.vats ≡ ps ++ rest → world.open_from script zero ps (world.begins script) ≡ Going w → Q w)
      (stepped : (w x : World) (es : List Entry) (k : ℕ) → NoticesFollowCuts es → world.open_from script zero script.vats (world.begins script) ≡ Going w → world.steps_from script es k w ≡ Going x → Q x) where
    then_reached : (r : Run) (f : World → Run) (w : World) → Q w → StopsAs w r → ((y : World) → r ≡ Going y → Reached Q (f y)) → Reached Q (world.then_goes r f)
    unfolding world.then_goes
    then_reached (Going y) f w q s g = g y refl
    then_reached (Stopped c n y) f w q s g = like w y s.0 s.1 q

    opens_reached : (ds ps : List Program) (w : World) → script.vats ≡ ds ++ ps → world.open_from script zero ds (world.begins script) ≡ Going w → Reached Q (world.open_from script (length ds) ps w)
    unfolding world.open_from
    opens_reached ds [] w i d = opened ds [] w i d
    opens_reached ds (p ∷ ps) w i d = then_reached (world.open_vat script (length ds) p w) (world.open_from script (suc (length ds)) ps) w (opened ds (p ∷ ps) w i d) (open_stops (length ds) p w)
        (λ y j. let n : 0 + length ds ≡ length ds = omega arith in let done : world.open_from script zero (ds ++ p ∷ []) (world.begins script) ≡ Going y = opens_end script ds p zero (world.begins script) w y d (rw (sym n) at j) in
        let rest : Reached Q (world.open_from script (length (ds ++ p ∷ [])) ps y) = opens_reached (ds ++ p ∷ []) ps y (i ∙ sym (append_assoc ds (p ∷ []) ps)) done in rw (length_end ds p) at rest)

    steps_reached : (w0 : World) (k0 : ℕ) → world.open_from script zero script.vats (world.begins script) ≡ Going w0 → (ds es : List Entry) (k : ℕ) (w : World) → k ≡ k0 + length ds → NoticesFollowCuts (ds ++ es) → world.steps_from script ds k0 w0 ≡ Going w → Reached Q (world.steps_from script es k w)
    unfolding world.steps_from
    steps_reached w0 k0 o ds [] k w n c d = stepped w0 w ds k0 (notices_front script [] ds [] c) o d
    steps_reached w0 k0 o ds (entry ∷ es) k w n c d = then_reached (world.step script entry k w) (world.steps_from script es (suc k)) w (stepped w0 w ds k0 (notices_front script [] ds (entry ∷ es) c) o d) (step_stops entry k w)
        (λ y j. let done : world.steps_from script (ds ++ entry ∷ []) k0 w0 ≡ Going y = steps_end script ds entry k0 w0 w y d (rw n at j) in let l = length_end ds entry in
        steps_reached w0 k0 o (ds ++ entry ∷ []) es (suc k) y (omega arith) (rw (append_assoc ds (entry ∷ []) es) c) done)

    reached_then : (r : Run) (f : World → Run) → Reached Q r → ((w : World) → r ≡ Going w → Reached Q (f w)) → Reached Q (world.then_goes r f)
    unfolding world.then_goes
    reached_then (Going w) f h g = g w refl
    reached_then (Stopped c n w) f h g = h

    steps_whole : (w0 : World) (k : ℕ) (es : List Entry) → NoticesFollowCuts es → world.open_from script zero script.vats (world.begins script) ≡ Going w0 → Reached Q (world.steps_from script es k w0)
    unfolding world.steps_from
    steps_whole w0 k es c o = let n : k ≡ k + 0 = omega arith in steps_reached w0 k o [] es k w0 n c refl

    pub run_reached : NoticesFollowCuts script.schedule → Reached Q (world.run script)
    unfolding world.run world.close world.open_from
    run_reached follow = reached_then (world.open_from script zero script.vats (world.begins script)) _ (opens_reached [] script.vats (world.begins script) refl refl)
        (λ w o. reached_then (world.steps_from script script.schedule 1 w) (world.close script) (steps_whole w 1 script.schedule follow o) (λ x e. like x (record x { history = _ }) refl refl (stepped w x script.schedule 1 follow o e)))

-- ---- names that are shown apart

apart_like : (w y : World) → y.vats ≡ w.vats → y.drawn ≡ w.drawn → ShownApart w → ShownApart y
apart_like w y e f h = rw (e, f) h

pub shown_apart : KnownNamesAreShownApart
shown_apart = (
  λ script once. (opened_apart script once, stepped_apart script once),
  λ script once follow. run_reached script ShownApart apart_like (opened_apart script once) (stepped_apart script once) follow,
)
