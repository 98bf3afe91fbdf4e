-- From what a history has of messages to the lines of its text.
use Rattle.std.proofs.Common.{◌≡◌, ℕ, zero, suc, ◌+◌, inl, inr, List, [], ◌∷◌, ◌++◌, Option, Some, None, refl, sym, ap, ◌∙◌, subst}
use Rattle.std.specs.Prelude.{slice_get, take, ◌↔◌}
use Rattle.ev_base.specs.declared.names.Name.{Name as ShownName}
use Rattle.def_event.specs.declared.event.Event.{Event as ShownEvent}
use Rattle.def_event.specs.declared.event.Event.TheVariants as event
use Rattle.def_machine.specs.Values.{Value, Name}
use Rattle.def_machine.specs.State.{Message, Note, Happened, Took, Sends, Reacts, ListMade, ListCame, Posted}
use Rattle.def_run.specs.World.{Script, Program, Event, Here, Carried, World, Run, Goes, Stopped, begins, open_from, steps_from, run}
use Rattle.def_run.specs.Shown as show
use Rattle.def_run.specs.Text.{shown_events, history_of}
use Rattle.law_fate.specs.Fates.FateRuns.{Reached}
use Rattle.def_event.specs.Uses.{Line, line_after, and_lines, place_of, all_parts, arguments_in, StandsIn, TakesSent, CarriesSent}
use Rattle.law_uses.specs.Uses.Messages.{MessagesAreAsSent, LinesStandAtTheirVats, SaysList, ListsAreTold, ListsAreToldInRuns}
use Rattle.law_uses.specs.Uses.Made.{ThingsAreMadeOnceInRuns}
use Rattle.law_uses.proofs.Uses.Lines.{lines_join}
use Rattle.law_uses.proofs.Uses.Shown.{lines, ListTold, shown_join}
use Rattle.law_uses.proofs.Uses.Sources.{turned}
use Rattle.law_uses.proofs.Uses.Kept.{TakesWell, CarriesWell, unturned}
use Rattle.law_uses.proofs.Uses.Runs.{MessagesWell, run_well, Whole, opens_whole, steps_whole, begins_whole}

module _ (P : List Line → ShownEvent → Type 0) where
  -- of each of these lines, after those
  abbrev All : List Line → List ShownEvent → Type 0
  All past [] = Unit {0}
  All past (e ∷ es) = P past e × All (line_after past e ∷ past) es

  all_join : (past : List Line) (es fs : List ShownEvent) → All past es → All (and_lines past es) fs → All past (es ++ fs)
  all_join past [] fs h k = k
  all_join past (e ∷ es) fs h k = (h.0, all_join (line_after past e ∷ past) es fs h.1 k)

  all_at : (past : List Line) (es : List ShownEvent) → All past es → (k : ℕ) (e : ShownEvent) → slice_get es k ≡ Some e → P (and_lines past (take k es)) e
  all_at past [] h k e q = cc
  all_at past (x ∷ es) h zero e q = let same : x ≡ e = cc in subst (P past) same h.0
  all_at past (x ∷ es) h (suc k) e q = all_at (line_after past x ∷ past) es h.1 k e q

joined : {A : Type 0} (xs : List A) (y : A) (zs : List A) → (xs ++ y ∷ []) ++ zs ≡ xs ++ y ∷ zs
joined [] y zs = refl
joined (x ∷ xs) y zs = ap (λ r. x ∷ r) (joined xs y zs)

end_none : {A : Type 0} (xs : List A) → xs ++ [] ≡ xs
end_none [] = refl
end_none (x ∷ xs) = ap (λ r. x ∷ r) (end_none xs)

module _ (draws : List ℕ) (whole : List ShownEvent) where
  abbrev P : List Line → ShownEvent → Type 0
  P past e = TakesSent whole past e × CarriesSent past e

  -- a message is taken as it was sent
  abbrev TakenSo : List Line → ℕ → Message Name → Type 0
  TakenSo past v m = (n : ShownName) → StandsIn past (all_parts (show.shown_values draws v m.args)) n ↔ StandsIn past (arguments_in whole (show.shown_msg draws m.id)) n

  send_well : (past : List Line) (v a : ℕ) (m : Message Name) (o : Option Name) → All P past (show.shown_send draws v a m o ∷ [])
  unfolding show.shown_send TakesSent CarriesSent
  send_well past v a m (Some n) = ((tt, tt), tt)
  send_well past v a m None = ((tt, tt), tt)

  reaction_well : (past : List Line) (v a : ℕ) (x y : Value Name) (m : Message Name) (o : Option Name) → All P past (show.shown_reaction draws v a x y m o)
  unfolding show.shown_reaction TakesSent CarriesSent
  reaction_well past v a x y m (Some n) = ((tt, tt), tt)
  reaction_well past v a x y m None = tt

  happened_well : (past : List Line) (v : ℕ) (e : Happened Name) → ((a : ℕ) (m : Message Name) → e ≡ Took a m → TakenSo past v m) → All P past (show.shown_happened draws v e)
  unfolding show.shown_happened TakesSent CarriesSent
  happened_well past v (Took a m) f = ((f a m refl, tt), tt)
  happened_well past v (Sends a m) f = send_well past v a m m.answer
  happened_well past v (Reacts a x o m) f = reaction_well past v a x o m m.answer
  happened_well past v (Posted w m) f = tt
  happened_well past v _ f = ((tt, tt), tt)

  event_well : (past : List Line) (e : Event) → ((v a : ℕ) (m : Message Name) → e ≡ Here v (Took a m) → TakenSo past v m) → ((j u v : ℕ) (n : Note Name) (bytes : List ℕ) → e ≡ Carried j u v n bytes → CarriesSent past (event.Carry j u v (show.shown_note draws v n)))
      → All P past (show.shown_event draws e)
  unfolding show.shown_event TakesSent CarriesSent
  event_well past (Here v e) f g = happened_well past v e (λ a m q. f v a m (ap (Here v) q))
  event_well past (Carried j u v n bytes) f g = ((tt, g j u v n bytes refl), ((tt, tt), tt))
  event_well past _ f g = ((tt, tt), tt)

  lines_on : (hs : List Event) (e : Event) → lines draws (hs ++ e ∷ []) ≡ and_lines (lines draws hs) (show.shown_event draws e)
  unfolding shown_events
  lines_on hs e = ap (and_lines []) (shown_join draws hs (e ∷ []) ∙ ap (λ r. shown_events draws hs ++ r) (end_none (show.shown_event draws e))) ∙ lines_join [] (shown_events draws hs) (show.shown_event draws e)

  history_well : (es : List Event) → ((h k : List Event) (v a : ℕ) (m : Message Name) → es ≡ h ++ Here v (Took a m) ∷ k → TakenSo (lines draws h) v m) → CarriesWell draws es → (hs rest : List Event) → es ≡ hs ++ rest → All P (lines draws hs) (shown_events draws rest)
  unfolding shown_events
  history_well es f g hs [] q = tt
  history_well es f g hs (x ∷ rest) q = all_join P (lines draws hs) (show.shown_event draws x) (shown_events draws rest)
      (event_well (lines draws hs) x (λ v a m r. f hs rest v a m (q ∙ ap (λ z. hs ++ z ∷ rest) r)) (λ j u v n bytes r. g hs rest j u v n bytes (q ∙ ap (λ z. hs ++ z ∷ rest) r)))
      (subst (λ l. All P l (shown_events draws rest)) (lines_on hs x) (history_well es f g (hs ++ x ∷ []) rest (q ∙ sym (joined hs x rest))))

well_holds : (draws : List ℕ) (es : List Event) → TakesWell draws es → CarriesWell draws es → (k : ℕ) (e : ShownEvent) → slice_get (shown_events draws es) k ≡ Some e
    → TakesSent (shown_events draws es) (and_lines [] (take k (shown_events draws es))) e × CarriesSent (and_lines [] (take k (shown_events draws es))) e
unfolding shown_events
well_holds draws es f g k e q = all_at (P draws (shown_events draws es)) [] (shown_events draws es) (history_well draws (shown_events draws es) es f g [] es refl) k e q

run_holds : (draws : List ℕ) (script : Script) (r : Run) → Reached (MessagesWell draws script) r → (k : ℕ) (e : ShownEvent) → slice_get (shown_events draws (history_of r)) k ≡ Some e
    → TakesSent (shown_events draws (history_of r)) (and_lines [] (take k (shown_events draws (history_of r)))) e × CarriesSent (and_lines [] (take k (shown_events draws (history_of r)))) e
unfolding history_of
run_holds draws script (Goes w) h k e q = well_holds draws w.history h.0 h.1 k e q
run_holds draws script (Stopped c n w) h k e q = well_holds draws w.history h.0 h.1 k e q

pub messages_are_as_sent : MessagesAreAsSent
messages_are_as_sent script draws k e q = run_holds draws script (run script) (run_well draws script) k e q

run_placed : (draws : List ℕ) (script : Script) (r : Run) → Reached (MessagesWell draws script) r → (h k : List Event) (v : ℕ) (e : Happened Name) → history_of r ≡ h ++ Here v e ∷ k → place_of (lines draws h) ≡ v + 1
unfolding history_of
run_placed draws script (Goes w) g h k v e q = g.2 h k v e q
run_placed draws script (Stopped c n w) g h k v e q = g.2 h k v e q

pub lines_stand : LinesStandAtTheirVats
lines_stand script draws h k v e q = run_placed draws script (run script) (run_well draws script) h k v e q

-- ---- lists

says : (w : World) (v k : ℕ) (vs : List (Value Name)) → ListTold [] w.history v k vs → SaysList w v k vs
says w v k vs (inl h) = inl (h.0, unturned (Here v (ListMade h.0 k vs)) w.history h.1)
says w v k vs (inr h) = inr (unturned (Here v (ListCame k vs)) w.history h)

said : (w : World) (v k : ℕ) (vs : List (Value Name)) → SaysList w v k vs → ListTold [] w.history v k vs
said w v k vs (inl h) = inl (h.0, turned (Here v (ListMade h.0 k vs)) w.history h.1)
said w v k vs (inr h) = inr (turned (Here v (ListCame k vs)) w.history h)

module _ (script : Script) where
  lists_of : (w : World) → Whole [] script w → ListsAreTold script w
  lists_of w h v s e = let l = h.stands.lists v s e in (λ k vs i. says w v k vs (l.0 k vs i), λ k vs i. l.1 k vs (said w v k vs i))

  whole_of : (r : Run) (w : World) → r ≡ Goes w → Reached (Whole [] script) r → Whole [] script w
  whole_of (Goes y) w e h = let same : y ≡ w = cc in subst (Whole [] script) same h
  whole_of (Stopped c k y) w e h = cc

  opened_of : (ps : List Program) (w : World) → open_from script zero ps (begins script) ≡ Goes w → Whole [] script w
  opened_of ps w e = whole_of (open_from script zero ps (begins script)) w e (opens_whole [] script zero ps (begins script) (begins_whole [] script))

pub lists_are_told : ListsAreToldInRuns
lists_are_told script = (
  λ ps rest w s e. lists_of script w (opened_of script ps w e),
  λ w x es k e i. lists_of script x (whole_of script (steps_from script es k w) x i (steps_whole [] script es k w (opened_of script script.vats w e))),
)

-- ---- things

pub things_are_made_once : ThingsAreMadeOnceInRuns
things_are_made_once script = (
  λ ps rest w s e v q at i. ((opened_of script ps w e).made v q at i).0,
  λ w x es k e i v q at n. ((whole_of script (steps_from script es k w) x i (steps_whole [] script es k w (opened_of script script.vats w e))).made v q at n).0,
)
