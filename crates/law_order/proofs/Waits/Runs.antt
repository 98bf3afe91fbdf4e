-- In every run the answers of messages that wait are open, and what waits on a name waits on it.
use Rattle.std.proofs.Common.{◌≡◌, ℕ, zero, ◌+◌, List, [], ◌∷◌, ◌++◌, Some, refl, sym, subst, ◌⊎◌, inl, inr, length}
use Rattle.std.specs.Prelude.{slice_get}
use Rattle.def_machine.specs.Values.{Value, Broken, Words, Name, Gift, naming}
use Rattle.def_machine.specs.State.{Unsettled, Settled, Note, Elsewhere, Open, Vat}
use Rattle.def_machine.specs.Refs.{standing_of}
use Rattle.def_run.specs.Draws.{draw_word}
use Rattle.def_run.specs.World as world
use Rattle.def_run.specs.World.{Script, Program, Entry, World, Goes as Going}
use Rattle.law_fate.specs.Name.Names.{AllOf, IsAmong, Once, names_in, IsEventual}
use Rattle.law_fate.specs.Name.Runs.{KnowsOnce}
use Rattle.law_fate.proofs.Name.Laws.{names_known, hosts_true, names_apart}
use Rattle.law_fate.proofs.Name.Run.{begins_stands}
use Rattle.law_frozen.proofs.RunSound.{begins_sound, opens_sound, steps_sound}
use Rattle.law_reference.specs.Reference.Cuts.{NoticesFollowCuts}
use Rattle.law_reference.proofs.Reference.ApartWhole.{known_once}
use Rattle.law_reference.proofs.Reference.LegMoves.{opened_before, stepped_before}
use Rattle.law_reference.proofs.Reference.Moves.{get_mid}
use Rattle.law_reference.proofs.Reference.NoticedRuns.{AllSure, noticed_sure, Never, begins_noticed, noticed_links_cut}
use Rattle.law_reference.proofs.Reference.OwnRuns.{begins_own}
use Rattle.law_reference.proofs.Reference.RunLift.{opens_keep}
use Rattle.law_frame.proofs.Frame.OrderRuns.{differ_once}
use Rattle.law_frame.proofs.Heard.Lift.{opening_does, opened_holds, stepped_holds}
use Rattle.law_order.proofs.Runs.ToldRuns.{elsewhere_is_true}
use Rattle.law_order.specs.ToldOnce.Told.{news_in, with_news}
use Rattle.law_order.proofs.ToldOnce.News.{news_is_new}
use Rattle.law_order.proofs.ToldOnce.Opens.{opened_gifts_are_new}
use Rattle.law_order.specs.Waits.Answers.{AnswersAreOpenInRuns, WaitersWaitInRuns}
use Rattle.law_order.proofs.Waits.Standing as standing
use Rattle.law_order.proofs.Waits.Standing.{settled_eventual}
use Rattle.law_order.proofs.Waits.Moving.{IsOpenOrSettled, Facts, AllHeld, entry_holds, opening_holds, begins_held}
use Rattle.law_order.proofs.Waits.OwnTurns.{turning}
use Rattle.law_order.proofs.Waits.Entries.{Went, FreshFrom, entry_goes, opened_fresh}

module _ (script : Script) where
  abbrev word : ℕ → ℕ
  word = draw_word script.key

  -- ---- worlds

  told_by : (w : World) (v : ℕ) (s : Vat Name) (n : Name) → (standing_of (world.names script v) s.known n ≡ Unsettled) ⊎ ((p : Words) × (standing_of (world.names script v) s.known n ≡ Settled (Broken p))) → IsOpenOrSettled (standing_of (naming word v) s.known n)
  unfolding world.names
  told_by w v s n (inl e) = inl e
  told_by w v s n (inr i) = inr (Broken i.0, i.1)

  first_news : (n : Name) (c : ℕ) (ms ns : List (Note Name)) → ms ≡ Elsewhere n c ∷ ns → IsAmong n (news_in ms)
  unfolding news_in with_news
  first_news n c ms ns e = subst (λ (qs : List (Note Name)). IsAmong n (news_in qs)) (sym e) (inl refl)

  first_is : (m : Note Name) (ms ns : List (Note Name)) → ms ≡ m ∷ ns → IsAmong m ms
  first_is m ms ns e = subst (IsAmong m) (sym e) (inl refl)

  eventual_by : (w : World) (u : ℕ) (n : Name) → ((v : ℕ) (s : Vat Name) → slice_get w.vats v ≡ Some s → AllOf IsEventual (names_in s.known)) → (s : Vat Name) → slice_get w.vats u ≡ Some s → (y : Value Name) → standing_of (world.names script u) s.known n ≡ Settled y → IsEventual n
  unfolding world.names
  eventual_by w u n f s there y e = settled_eventual word u n y s.known (f u s there) e

  module _ (knows : KnowsOnce script) where
    opened_facts : (ps rest : List Program) (w : World) → script.vats ≡ ps ++ rest → world.open_from script zero ps (world.begins script) ≡ Going w → Facts script w
    opened_facts ps rest w split e = record {
      before = opened_before script knows ps rest w split e;
      sound = opens_sound script zero ps (world.begins script) w (begins_sound script) e;
      hosts = (hosts_true script knows).0 ps rest w split e;
      known = (names_known script knows).0 ps rest w split e;
      apart = λ v s there u i. absurd (opens_keep script (AllSure script (Never script)) (Never script) (noticed_sure script (Never script)) [] ps rest (world.begins script) w split (begins_stands script knows) (begins_noticed script) e v s there u i);
      told = λ a v s l n c ns there at cut notes. let true_of = (elsewhere_is_true script knows).0 ps rest w split e a v l n c at (first_is (Elsewhere n c) l.notes ns notes) in
          (eventual_by w a n (λ u r t. ((names_apart script knows).0 ps rest w split e u r t).0) true_of.0 true_of.1 _ true_of.3, told_by w v s n ((news_is_new script knows).0 ps rest w split e a v s l there at cut n (first_news n c l.notes ns notes)));
      opened = λ a v s l i n ns there at cut notes. told_by w v s (Gift v i) ((opened_gifts_are_new script knows).0 ps rest w split e a v s l there at i n (first_is (Open i n) l.notes ns notes));
    }

    pub stepped_facts : (w x : World) (es : List Entry) (k : ℕ) → NoticesFollowCuts es → world.open_from script zero script.vats (world.begins script) ≡ Going w → world.steps_from script es k w ≡ Going x → Facts script x
    stepped_facts w x es k follow opened steps = record {
      before = stepped_before script knows w x es k opened steps;
      sound = steps_sound script es k w x (opens_sound script zero script.vats (world.begins script) w (begins_sound script) opened) steps;
      hosts = (hosts_true script knows).1 w x es k opened steps;
      known = (names_known script knows).1 w x es k opened steps;
      apart = λ v s there u i. (noticed_links_cut script knows w x es k follow opened steps v s there u i).0;
      told = λ a v s l n c ns there at cut notes. let true_of = (elsewhere_is_true script knows).1 w x es k opened steps a v l n c at (first_is (Elsewhere n c) l.notes ns notes) in
          (eventual_by x a n (λ u r t. ((names_apart script knows).1 w x es k opened steps u r t).0) true_of.0 true_of.1 _ true_of.3, told_by x v s n ((news_is_new script knows).1 w x es k follow opened steps a v s l there at cut n (first_news n c l.notes ns notes)));
      opened = λ a v s l i n ns there at cut notes. told_by x v s (Gift v i) ((opened_gifts_are_new script knows).1 w x es k opened steps a v s l there at i n (first_is (Open i n) l.notes ns notes));
    }

    numbers : (v : ℕ) (s : Vat Name) → slice_get (world.fresh_from script zero script.vats) v ≡ Some s → s.number ≡ v
    unfolding world.begins
    numbers v s e = let own = begins_own script v s e in own.0

    -- an opening turn of a vat that is as it was at the start, or an entry
    abbrev Pair : World → World → Type 0
    Pair x y = ((v : ℕ) × (p : Program) × FreshFrom script v x × (slice_get script.vats v ≡ Some p) × (world.open_vat script v p x ≡ Going y)) ⊎ Went script x y

    opening_pair : (ps rest : List Program) (p : Program) (x y : World) → script.vats ≡ ps ++ p ∷ rest → world.open_from script zero ps (world.begins script) ≡ Going x → world.open_vat script (length ps) p x ≡ Going y → Pair x y
    opening_pair ps rest p x y split opened opens = inl (length ps, p, opened_fresh script ps (p ∷ rest) x split opened, rw (sym split) at (get_mid ps p rest), opens)

    entry_pair : (w x y : World) (es : List Entry) (e : Entry) (k : ℕ) → world.open_from script zero script.vats (world.begins script) ≡ Going w → world.steps_from script es k w ≡ Going x → world.step script e (k + length es) x ≡ Going y → Pair x y
    entry_pair w x y es e k opened steps goes = inr (entry_goes script x y e (k + length es) goes)

    pair_holds : (x y : World) → Facts script x → Facts script y → Pair x y → AllHeld script x → AllHeld script y
    pair_holds x y f g (inl o) h = opening_holds script numbers (turning script) o.0 o.1 x y f o.2 o.3 (opening_does script o.0 o.1 x y o.3 o.4) h
    pair_holds x y f g (inr m) h = entry_holds script (turning script) x y f g m h

    opened_held : (ps rest : List Program) (w : World) → script.vats ≡ ps ++ rest → world.open_from script zero ps (world.begins script) ≡ Going w → AllHeld script w
    opened_held = opened_holds script (Facts script) (Facts script) Pair opened_facts stepped_facts opening_pair entry_pair (AllHeld script) (λ v p x y f g m o h. pair_holds x y f g m h) (λ e k x y f g m i h. pair_holds x y f g m h) (begins_held script numbers)

    pub stepped_held : (w x : World) (es : List Entry) (k : ℕ) → NoticesFollowCuts es → world.open_from script zero script.vats (world.begins script) ≡ Going w → world.steps_from script es k w ≡ Going x → AllHeld script x
    stepped_held = stepped_holds script (Facts script) (Facts script) Pair opened_facts stepped_facts opening_pair entry_pair (AllHeld script) (λ v p x y f g m o h. pair_holds x y f g m h) (λ e k x y f g m i h. pair_holds x y f g m h) (begins_held script numbers)

    opened_once : (ps rest : List Program) (w : World) → script.vats ≡ ps ++ rest → world.open_from script zero ps (world.begins script) ≡ Going w → (v : ℕ) (s : Vat Name) → slice_get w.vats v ≡ Some s → Once (names_in s.known)
    opened_once ps rest w split e = differ_once w ((known_once script knows).0 ps rest w split e)

    pub stepped_once : (w x : World) (es : List Entry) (k : ℕ) → NoticesFollowCuts es → world.open_from script zero script.vats (world.begins script) ≡ Going w → world.steps_from script es k w ≡ Going x → (v : ℕ) (s : Vat Name) → slice_get x.vats v ≡ Some s → Once (names_in s.known)
    stepped_once w x es k follow opened steps = differ_once x ((known_once script knows).1 w x es k follow opened steps)

pub answers_are_open : AnswersAreOpenInRuns
answers_are_open script knows = (
  λ ps rest w split e v s there. standing.answers_open script v s (λ x. opened_held script knows ps rest w split e v s there x) (opened_once script knows ps rest w split e v s there),
  λ w x es k follow opened steps v s there. standing.answers_open script v s (λ n. stepped_held script knows w x es k follow opened steps v s there n) (stepped_once script knows w x es k follow opened steps v s there),
)

pub waiters_wait_in_runs : WaitersWaitInRuns
waiters_wait_in_runs script knows = (
  λ ps rest w split e v s there. standing.waiters_wait script v s (λ x. opened_held script knows ps rest w split e v s there x) (opened_once script knows ps rest w split e v s there),
  λ w x es k follow opened steps v s there. standing.waiters_wait script v s (λ n. stepped_held script knows w x es k follow opened steps v s there n) (stepped_once script knows w x es k follow opened steps v s there),
)
