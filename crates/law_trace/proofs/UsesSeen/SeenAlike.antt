-- The uses of a history are those of what is seen of it.
use Rattle.std.proofs.Common.{◌≡◌, ◌∙◌, List, [], ◌∷◌, map, map-id, filter, refl, sym, ap, subst}
use Rattle.std.proofs.lemmas.Iterator.Adapters.{option_map_id}
use Rattle.def_event.specs.declared.shown.Shown.{Shown, Members', Row_of-Shown, end_of-Shown, more_of-Shown}
use Rattle.def_event.specs.declared.note.ShownNote.{ShownNote}
use Rattle.def_event.specs.declared.note.ShownNote.TheVariants.{Deliver}
use Rattle.def_event.specs.declared.event.Event.{Event}
use Rattle.def_event.specs.declared.event.Event.TheVariants.{Carry, Frame, LeftLink, Raw}
use Rattle.def_event.specs.declared.raw.RawLine.TheVariants.{Inject, InjectCut, Malformed, Bytes, LeftBytes}
use Rattle.def_event.specs.Lines.{is_no_frame}
use Rattle.def_event.specs.Uses.{Thing, AName, AList, name_of, names_of, things_of, lists_of, parts, all_parts, member_parts}
use Rattle.law_trace.specs.Trace.Seen.{seen, seen_note, seen_value, seen_members}
use Rattle.law_trace.specs.UsesSeen.Alike.{UsesAreSame}
use Rattle.law_trace.specs.UsesSeen.Laws.{UsesOfWhatIsSeen, UsesWithoutFrames}
use Rattle.law_trace.proofs.UsesSeen.Same.{joined}
use Rattle.law_trace.proofs.UsesSeen.Renaming.{Renaming, IsRenaming, AreEvents, no_event, one_event, silent_event, event, note, thing}
use Rattle.law_trace.proofs.UsesSeen.Members.{no_name, no_names, no_things, no_lists, members_parts}
use Rattle.law_trace.proofs.UsesSeen.Whole.{uses_are_same, hold_alike}
use Rattle.law_trace.proofs.UsesSeen.Joining.{hold_same, hold_through, hold_turned}

-- all but values stays
abbrev pub as_seen : Renaming
as_seen = record { vat = λ v. v; place = λ v. v; name = λ n. n; message = λ m. m; value = seen_value }

-- ---- events

note_seen : (n : ShownNote) → note as_seen n ≡ seen_note n
note_seen (Deliver m target verb args) = refl
note_seen n = refl

event_seen : (e : Event) → event as_seen e ≡ seen e
event_seen (Carry k v w n) = ap (Carry k v w) (note_seen n)
event_seen (LeftLink v w n) = ap (LeftLink v w) (note_seen n)
event_seen (Raw (Inject k v w bytes)) = refl
event_seen (Raw (InjectCut k v w)) = refl
event_seen (Raw (Malformed k v w place)) = refl
event_seen (Raw (Bytes k v w bytes)) = refl
event_seen (Raw (LeftBytes v w bytes)) = refl
event_seen e = refl

pub events_seen : (es : List Event) → map (event as_seen) es ≡ map seen es
events_seen [] = refl
events_seen (e ∷ es) = ap (λ (x : Event). x ∷ map (event as_seen) es) (event_seen e) ∙ ap (λ (xs : List Event). seen e ∷ xs) (events_seen es)

-- ---- values

thing_stays : (t : Thing) → thing as_seen t ≡ t
thing_stays (AName n) = refl
thing_stays (AList v n) = refl

things_stay : (ts : List Thing) → map (thing as_seen) ts ≡ ts
things_stay [] = refl
things_stay (t ∷ ts) = ap (λ (u : Thing). u ∷ map (thing as_seen) ts) (thing_stays t) ∙ ap (λ (us : List Thing). t ∷ us) (things_stay ts)

seen_name : (x : Shown) → name_of (seen_value x) ≡ name_of x
unfolding name_of
seen_name (Members' shape row) = no_name (seen_members row)
seen_name x = refl

seen_names : (x : Shown) → names_of (seen_value x) ≡ names_of x
unfolding names_of
seen_names (Members' shape row) = no_names (seen_members row)
seen_names x = refl

seen_things : (x : Shown) → things_of (seen_value x) ≡ things_of x
unfolding things_of
seen_things (Members' shape row) = no_things (seen_members row)
seen_things x = refl

seen_lists : (x : Shown) → lists_of (seen_value x) ≡ lists_of x
unfolding lists_of
seen_lists (Members' shape row) = no_lists (seen_members row)
seen_lists x = refl

mutual
  seen_parts : (x : Shown) → parts (seen_value x) ≡ map (thing as_seen) (parts x)
  seen_parts (Members' shape row) = members_parts (seen_members row) ∙ row_parts row
  seen_parts x = refl

  row_parts : {n : _} (row : Row_of-Shown n) → all_parts (seen_members row) ≡ map (thing as_seen) (member_parts row)
  row_parts end_of-Shown = refl
  row_parts (more_of-Shown x rest) = joined (thing as_seen) (parts x) (member_parts rest) (parts (seen_value x)) (all_parts (seen_members rest)) (seen_parts x) (row_parts rest)

pub is_seen : IsRenaming as_seen
is_seen = record {
  vats_apart = λ v w e. e;
  places_apart = λ v w e. e;
  names_apart = λ n m e. e;
  messages_same = λ m n. refl;
  no_place = refl;
  a_place = λ v. refl;
  objects = λ n. refl;
  gifts = λ n. refl;
  roots = λ n. refl;
  as_name = λ x. seen_name x ∙ sym (option_map_id (name_of x));
  as_names = λ x. seen_names x ∙ sym (map-id (names_of x));
  as_things = λ x. seen_things x ∙ sym (things_stay (things_of x));
  as_lists = λ x. seen_lists x ∙ sym (things_stay (lists_of x));
  as_parts = seen_parts;
}

pub uses_of_seen : UsesOfWhatIsSeen
uses_of_seen es = subst (UsesAreSame es) (events_seen es) (uses_are_same as_seen is_seen es)

-- ---- without frames

framed : (es : List Event) → AreEvents as_seen es (map (event as_seen) (filter is_no_frame es))
framed [] = no_event
framed (Frame bytes ∷ es) = silent_event es (map (event as_seen) (filter is_no_frame es)) bytes (framed es)
framed (e ∷ es) = one_event es (map (event as_seen) (filter is_no_frame es)) e (framed es)

pub uses_without_frames : UsesWithoutFrames
uses_without_frames es =
    let fs = filter is_no_frame es in
    let seen_of = map (event as_seen) fs in
    hold_through es seen_of fs (hold_alike as_seen is_seen es seen_of (framed es)) (hold_turned fs seen_of (hold_same fs seen_of (uses_are_same as_seen is_seen fs)))
