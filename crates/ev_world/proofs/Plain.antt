-- The lines of a step have no frames.
use Rattle.std.proofs.Common.{◌≡◌, ℕ, Bool, true, false, List, [], ◌∷◌, ◌++◌, Option, Some, None, map, refl, sym, ap, ◌∙◌}
use Rattle.std.specs.Prelude.{filter}
use Rattle.std.proofs.lemmas.List.Elements.{filter-append}
use Rattle.def_event.specs.Lines.{is_no_frame}
use Rattle.def_event.specs.declared.event.Event.{Event as ShownEvent}
use Rattle.def_run.specs.Numbers.{Way, link_of, lines_of}
use Rattle.def_machine.specs.Maps as maps
use Rattle.def_machine.specs.State.{Happened, Message, Took, Called, Back, Thrown, Left, Got, SlotMade, SlotRead, SlotWrote, ListMade, ListCame, EjectorMade, AuditionMade, PromiseMade, ObjectMade, Sends, Reacts, Finished, Threw, Settles, Waits, Views, Lost, Posted}
use Rattle.def_machine.specs.Values.{Local, Name, Value}
use Rattle.def_run.specs.Shown.{shown_event, shown_happened, shown_reaction, shown_send}
use Rattle.def_run.specs.Text.{shown_events}
use Rattle.ev_ways.proofs.Cuts.{shown_join}
use Rattle.def_run.specs.World.{Link, LostCut, event_of, events_of, is_cut}

-- none of these is a frame
abbrev pub IsPlain : List ShownEvent → Type 0
IsPlain es = filter is_no_frame es ≡ es

pub plain_join : (xs ys : List ShownEvent) → IsPlain xs → IsPlain ys → IsPlain (xs ++ ys)
plain_join xs ys e f = filter-append is_no_frame xs ys ∙ ap (λ (es : List ShownEvent). es ++ filter is_no_frame ys) e ∙ ap (λ (es : List ShownEvent). xs ++ es) f

sent_plain : (ds : List ℕ) (v a : ℕ) (m : Message Name) (o : Option Name) → IsPlain (shown_send ds v a m o ∷ [])
unfolding shown_send
sent_plain ds v a m (Some n) = refl
sent_plain ds v a m None = refl

reaction_plain : (ds : List ℕ) (v a : ℕ) (x y : Value Name) (m : Message Name) (o : Option Name) → IsPlain (shown_reaction ds v a x y m o)
unfolding shown_reaction
reaction_plain ds v a x y m (Some n) = refl
reaction_plain ds v a x y m None = refl

happened_plain : (ds : List ℕ) (v : ℕ) (e : Happened Name) → IsPlain (shown_happened ds v e)
unfolding shown_happened
happened_plain ds v (Took a m) = refl
happened_plain ds v (Called a x verb args b) = refl
happened_plain ds v (Back a x) = refl
happened_plain ds v (Thrown a p) = refl
happened_plain ds v (Left a) = refl
happened_plain ds v (Got a x) = refl
happened_plain ds v (SlotMade a k x) = refl
happened_plain ds v (SlotRead a k x) = refl
happened_plain ds v (SlotWrote a k x) = refl
happened_plain ds v (ListMade a k xs) = refl
happened_plain ds v (ListCame k xs) = refl
happened_plain ds v (EjectorMade a n) = refl
happened_plain ds v (AuditionMade a n) = refl
happened_plain ds v (PromiseMade a p r) = refl
happened_plain ds v (ObjectMade a n x caps stamps) = refl
happened_plain ds v (Sends a m) = sent_plain ds v a m m.answer
happened_plain ds v (Reacts a x o m) = reaction_plain ds v a x o m m.answer
happened_plain ds v (Finished a x) = refl
happened_plain ds v (Threw a p) = refl
happened_plain ds v (Settles n x) = refl
happened_plain ds v (Waits p q) = refl
happened_plain ds v (Views p q) = refl
happened_plain ds v (Lost m) = refl
happened_plain ds v (Posted w m) = refl

cut_plain : (ds : List ℕ) (b : Bool) (m : Name) → IsPlain (shown_events ds (elim b [ true ↦ LostCut m ∷ [] | false ↦ [] ]))
unfolding shown_events shown_event
cut_plain ds true m = refl
cut_plain ds false m = refl

one_plain : (ds : List ℕ) (ls : List Link) (v : ℕ) (e : Happened Name) → IsPlain (shown_events ds (event_of ls v e))
unfolding event_of shown_events shown_event
one_plain ds ls v (Took a m) = plain_join (shown_happened ds v (Took a m)) [] (happened_plain ds v (Took a m)) refl
one_plain ds ls v (Called a x verb args b) = plain_join (shown_happened ds v (Called a x verb args b)) [] (happened_plain ds v (Called a x verb args b)) refl
one_plain ds ls v (Back a x) = plain_join (shown_happened ds v (Back a x)) [] (happened_plain ds v (Back a x)) refl
one_plain ds ls v (Thrown a p) = plain_join (shown_happened ds v (Thrown a p)) [] (happened_plain ds v (Thrown a p)) refl
one_plain ds ls v (Left a) = plain_join (shown_happened ds v (Left a)) [] (happened_plain ds v (Left a)) refl
one_plain ds ls v (Got a x) = plain_join (shown_happened ds v (Got a x)) [] (happened_plain ds v (Got a x)) refl
one_plain ds ls v (SlotMade a k x) = plain_join (shown_happened ds v (SlotMade a k x)) [] (happened_plain ds v (SlotMade a k x)) refl
one_plain ds ls v (SlotRead a k x) = plain_join (shown_happened ds v (SlotRead a k x)) [] (happened_plain ds v (SlotRead a k x)) refl
one_plain ds ls v (SlotWrote a k x) = plain_join (shown_happened ds v (SlotWrote a k x)) [] (happened_plain ds v (SlotWrote a k x)) refl
one_plain ds ls v (ListMade a k xs) = plain_join (shown_happened ds v (ListMade a k xs)) [] (happened_plain ds v (ListMade a k xs)) refl
one_plain ds ls v (ListCame k xs) = plain_join (shown_happened ds v (ListCame k xs)) [] (happened_plain ds v (ListCame k xs)) refl
one_plain ds ls v (EjectorMade a n) = plain_join (shown_happened ds v (EjectorMade a n)) [] (happened_plain ds v (EjectorMade a n)) refl
one_plain ds ls v (AuditionMade a n) = plain_join (shown_happened ds v (AuditionMade a n)) [] (happened_plain ds v (AuditionMade a n)) refl
one_plain ds ls v (PromiseMade a p r) = plain_join (shown_happened ds v (PromiseMade a p r)) [] (happened_plain ds v (PromiseMade a p r)) refl
one_plain ds ls v (ObjectMade a n x caps stamps) = plain_join (shown_happened ds v (ObjectMade a n x caps stamps)) [] (happened_plain ds v (ObjectMade a n x caps stamps)) refl
one_plain ds ls v (Sends a m) = plain_join (shown_happened ds v (Sends a m)) [] (happened_plain ds v (Sends a m)) refl
one_plain ds ls v (Reacts a x o m) = plain_join (shown_happened ds v (Reacts a x o m)) [] (happened_plain ds v (Reacts a x o m)) refl
one_plain ds ls v (Finished a x) = plain_join (shown_happened ds v (Finished a x)) [] (happened_plain ds v (Finished a x)) refl
one_plain ds ls v (Threw a p) = plain_join (shown_happened ds v (Threw a p)) [] (happened_plain ds v (Threw a p)) refl
one_plain ds ls v (Settles n x) = plain_join (shown_happened ds v (Settles n x)) [] (happened_plain ds v (Settles n x)) refl
one_plain ds ls v (Waits p q) = plain_join (shown_happened ds v (Waits p q)) [] (happened_plain ds v (Waits p q)) refl
one_plain ds ls v (Views p q) = plain_join (shown_happened ds v (Views p q)) [] (happened_plain ds v (Views p q)) refl
one_plain ds ls v (Lost m) = plain_join (shown_happened ds v (Lost m)) [] (happened_plain ds v (Lost m)) refl
one_plain ds ls v (Posted w m) = cut_plain ds (is_cut v w ls) m

events_plain : (ds : List ℕ) (ls : List Link) (v : ℕ) (es : List (Happened Name)) → IsPlain (shown_events ds (events_of ls v es))
unfolding events_of shown_events
events_plain ds ls v [] = refl
events_plain ds ls v (e ∷ es) =
    ap (λ (xs : List ShownEvent). filter is_no_frame xs) (shown_join ds (event_of ls v e) (events_of ls v es))
    ∙ plain_join (shown_events ds (event_of ls v e)) (shown_events ds (events_of ls v es)) (one_plain ds ls v e) (events_plain ds ls v es)
    ∙ sym (shown_join ds (event_of ls v e) (events_of ls v es))

pub lines_plain : (ds : List ℕ) (ls : List Way) (u : ℕ) (f : Local → Name) (es : List (Happened Local)) → IsPlain (shown_events ds (lines_of ls u f es))
unfolding lines_of
lines_plain ds ls u f es = events_plain ds (map link_of ls) u (map (maps.line f) es)
