-- What is seen and read again of a history that is in order is in order.
use Rattle.std.proofs.Common.{◌≡◌, ◌∙◌, ℕ, List, [], ◌∷◌, map, map-id, filter, Some, refl, sym, ap, subst}
use Rattle.std.proofs.lemmas.Iterator.Adapters.{option_map_id}
use Rattle.def_event.specs.declared.shown.Shown.{Shown}
use Rattle.def_event.specs.declared.note.ShownNote.{ShownNote}
use Rattle.def_event.specs.declared.note.ShownNote.TheVariants.{Deliver, DeliverOnly}
use Rattle.def_event.specs.Uses.{Thing, AName, AList, name_of, names_of, things_of, lists_of, parts}
use Rattle.def_event.specs.declared.event.Event.{Event}
use Rattle.def_event.specs.declared.event.Event.TheVariants.{Carry, Frame, Take, Call, List as ListMade, Arrived, Made as ObjectMade, Send, SendOnly, LeftLink, Raw}
use Rattle.def_event.specs.declared.raw.RawLine.TheVariants.{Inject, InjectCut, Malformed, Bytes, LeftBytes}
use Rattle.def_event.specs.Lines.{is_no_frame}
use Rattle.def_event.specs.Order.{IsOrdered}
use Rattle.law_trace.specs.Trace.Seen.{seen}
use Rattle.law_trace.specs.Trace.Renamed.{event_to}
use Rattle.ev_trace_words.specs.Laws.{AreNames}
use Rattle.law_trace.proofs.UsesSeen.Renaming.{Renaming, IsRenaming, AreEvents, no_event, one_event, silent_event, event, note, thing}
use Rattle.law_trace.proofs.UsesSeen.Whole.{all_are}
use Rattle.law_trace.proofs.UsesSeen.SeenAlike.{as_seen, is_seen, events_seen}
use Rattle.law_trace.proofs.UsesSeen.RenumberedAlike.{by_number, is_numbered, events_numbered}
use Rattle.law_trace.proofs.UsesSeen.ReadAgain.{again, number, number_apart, read_as, stopped_text}
use Rattle.law_trace.specs.Seen.Laws.{OrderOfWhatIsSeen, OrderWithoutFrames, OrderOfRenumbered, OrderIsReadAgain}
use Rattle.law_trace.proofs.Seen.Renamed.{order_renamed}

pub order_of_seen : OrderOfWhatIsSeen
order_of_seen es h = subst IsOrdered (events_seen es) (order_renamed as_seen is_seen es (map (event as_seen) es) (all_are as_seen is_seen es) h)

-- ---- without frames

-- the events that show no frame, under other names
framed_by : (r : Renaming) (es : List Event) → AreEvents r es (map (event r) (filter is_no_frame es))
framed_by r [] = no_event
framed_by r (Frame bytes ∷ es) = silent_event es (map (event r) (filter is_no_frame es)) bytes (framed_by r es)
framed_by r (e ∷ es) = one_event es (map (event r) (filter is_no_frame es)) e (framed_by r es)

-- nothing has another name
abbrev itself : Renaming
itself = record { vat = λ v. v; place = λ v. v; name = λ n. n; message = λ m. m; value = λ x. x }

note_stays : (n : ShownNote) → note itself n ≡ n
note_stays (Deliver m target verb args) = ap (Deliver m target verb) (map-id args)
note_stays (DeliverOnly m target verb args) = ap (DeliverOnly m target verb) (map-id args)
note_stays other = refl

event_stays : (e : Event) → event itself e ≡ e
event_stays (Carry k v w n) = ap (Carry k v w) (note_stays n)
event_stays (LeftLink v w n) = ap (LeftLink v w) (note_stays n)
event_stays (Take t) = ap (λ (xs : List Shown). Take (record { activation = t.activation; message = t.message; target = t.target; verb = t.verb; args = xs })) (map-id t.args)
event_stays (Call c) = ap (λ (xs : List Shown). Call (record { activation = c.activation; target = c.target; verb = c.verb; args = xs; begun = c.begun })) (map-id c.args)
event_stays (ListMade a l members) = ap (ListMade a l) (map-id members)
event_stays (Arrived l members) = ap (Arrived l) (map-id members)
event_stays (ObjectMade o) =
    ap (λ (xs : List Shown). ObjectMade (record { activation = o.activation; object = o.object; name = o.name; caps = xs; stamps = map (λ x. x) o.stamps })) (map-id o.caps)
    ∙ ap (λ (xs : List Shown). ObjectMade (record { activation = o.activation; object = o.object; name = o.name; caps = o.caps; stamps = xs })) (map-id o.stamps)
event_stays (Send m) = ap (λ (xs : List Shown). Send (record { activation = m.activation; message = m.message; target = m.target; verb = m.verb; args = xs; answer = m.answer })) (map-id m.args)
event_stays (SendOnly m) = ap (λ (xs : List Shown). SendOnly (record { activation = m.activation; message = m.message; target = m.target; verb = m.verb; args = xs })) (map-id m.args)
event_stays (Raw (Inject k v w bytes)) = refl
event_stays (Raw (InjectCut k v w)) = refl
event_stays (Raw (Malformed k v w place)) = refl
event_stays (Raw (Bytes k v w bytes)) = refl
event_stays (Raw (LeftBytes v w bytes)) = refl
event_stays other = refl

events_stay : (es : List Event) → map (event itself) es ≡ es
events_stay [] = refl
events_stay (e ∷ es) = ap (λ (x : Event). x ∷ map (event itself) es) (event_stays e) ∙ ap (λ (xs : List Event). e ∷ xs) (events_stay es)

thing_stays : (t : Thing) → thing itself t ≡ t
thing_stays (AName n) = refl
thing_stays (AList v n) = refl

things_stay : (ts : List Thing) → map (thing itself) ts ≡ ts
things_stay [] = refl
things_stay (t ∷ ts) = ap (λ (u : Thing). u ∷ map (thing itself) ts) (thing_stays t) ∙ ap (λ (us : List Thing). t ∷ us) (things_stay ts)

is_itself : IsRenaming itself
is_itself = record {
  vats_apart = λ v w e. e;
  places_apart = λ v w e. e;
  names_apart = λ n m e. e;
  messages_same = λ m n. refl;
  no_place = refl;
  a_place = λ v. refl;
  objects = λ n. refl;
  gifts = λ n. refl;
  roots = λ n. refl;
  as_name = λ x. sym (option_map_id (name_of x));
  as_names = λ x. sym (map-id (names_of x));
  as_things = λ x. sym (things_stay (things_of x));
  as_lists = λ x. sym (things_stay (lists_of x));
  as_parts = λ x. sym (things_stay (parts x));
}

pub order_unframed : OrderWithoutFrames
order_unframed es h = subst IsOrdered (events_stay (filter is_no_frame es)) (order_renamed itself is_itself es (map (event itself) (filter is_no_frame es)) (framed_by itself es) h)

-- ---- read again

pub order_of_renumbered : OrderOfRenumbered
order_of_renumbered to apart es h = subst IsOrdered (events_numbered to es) (order_renamed (by_number to) (is_numbered to apart) es (map (event (by_number to)) es) (all_are (by_number to) (is_numbered to apart) es) h)

-- what is read of the text of events without frames
pub order_as_read : (names : List (List ℕ)) (are : AreNames names) (es : List Event) → IsOrdered es → IsOrdered (map seen (map (event_to (number names are es)) (again es)))
order_as_read names are es h =
    let same = order_of_renumbered (λ v. v) (λ v w e. e) es h in
    let numbered = order_of_renumbered (number names are es) (number_apart names are es) (again es) same in
    order_of_seen (map (event_to (number names are es)) (again es)) numbered

pub order_read_again : OrderIsReadAgain
order_read_again names es stop are h few one is ordered =
    let fs = filter is_no_frame es in
    (read_as names are fs (Some stop), stopped_text names are fs stop h few one is, order_as_read names are fs (order_unframed es ordered))
