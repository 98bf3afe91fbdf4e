-- The uses of a history are those of it with other numbers for its vats, where no two have one.
use Rattle.std.proofs.Common.{◌≡◌, ◌==◌, ◌&&◌, ◌∙◌, ℕ, zero, suc, Bool, List, [], ◌∷◌, map, option_map, refl, sym, ap, subst, arith, add-one}
use Rattle.ev_base.specs.declared.names.Msg.{Msg}
use Rattle.ev_base.specs.declared.names.Name.{Name}
use Rattle.ev_base.specs.declared.names.Name.TheVariants.{Object, Own, Answer, Gift, Root, Claimed}
use Rattle.def_event.specs.declared.shown.Shown.{Shown, Members', Row_of-Shown, end_of-Shown, more_of-Shown}
use Rattle.def_event.specs.declared.note.ShownNote.{ShownNote}
use Rattle.def_event.specs.declared.note.ShownNote.TheVariants.{Deliver}
use Rattle.def_event.specs.declared.event.Event.{Event}
use Rattle.def_event.specs.declared.event.Event.TheVariants.{Carry, LeftLink, Raw}
use Rattle.def_event.specs.declared.raw.RawLine.TheVariants.{Inject, InjectCut, Malformed, Bytes, LeftBytes}
use Rattle.def_event.specs.Uses.{AName, name_of, names_of, things_of, lists_of, parts, all_parts, member_parts, same_message, is_object, is_gift, is_root}
use Rattle.law_trace.specs.Trace.Renamed.{event_to, members_to, message_to, name_to, note_to, value_to}
use Rattle.law_trace.specs.UsesSeen.Alike.{UsesAreSame}
use Rattle.law_trace.specs.UsesSeen.Laws.{UsesOfRenumbered}
use Rattle.law_trace.proofs.UsesSeen.Same.{joined, test_same}
use Rattle.law_trace.proofs.UsesSeen.Renaming.{Renaming, IsRenaming, event, note, thing}
use Rattle.law_trace.proofs.UsesSeen.Members.{no_name, no_names, no_things, no_lists, members_parts}
use Rattle.law_trace.proofs.UsesSeen.Whole.{uses_are_same}

module _ (to : ℕ → ℕ) where
  -- a place is 0 for none, or one more than the number of a vat
  abbrev pub place_to : ℕ → ℕ
  place_to zero = zero
  place_to (suc v) = suc (to v)

  abbrev pub by_number : Renaming
  by_number = record { vat = to; place = place_to; name = name_to to; message = message_to to; value = value_to to }

  -- ---- events

  note_numbered : (n : ShownNote) → note by_number n ≡ note_to to n
  note_numbered (Deliver m target verb args) = refl
  note_numbered n = refl

  event_numbered : (e : Event) → event by_number e ≡ event_to to e
  event_numbered (Carry k v w n) = ap (Carry k (to v) (to w)) (note_numbered n)
  event_numbered (LeftLink v w n) = ap (LeftLink (to v) (to w)) (note_numbered n)
  event_numbered (Raw (Inject k v w bytes)) = refl
  event_numbered (Raw (InjectCut k v w)) = refl
  event_numbered (Raw (Malformed k v w place)) = refl
  event_numbered (Raw (Bytes k v w bytes)) = refl
  event_numbered (Raw (LeftBytes v w bytes)) = refl
  event_numbered e = refl

  pub events_numbered : (es : List Event) → map (event by_number) es ≡ map (event_to to) es
  events_numbered [] = refl
  events_numbered (e ∷ es) = ap (λ (x : Event). x ∷ map (event by_number) es) (event_numbered e) ∙ ap (λ (xs : List Event). event_to to e ∷ xs) (events_numbered es)

  -- ---- values

  name_there : (x : Shown) → name_of (value_to to x) ≡ option_map (name_to to) (name_of x)
  unfolding name_of
  name_there (Members' shape row) = no_name (members_to to row)
  name_there x = refl

  names_there : (x : Shown) → names_of (value_to to x) ≡ map (name_to to) (names_of x)
  unfolding names_of
  names_there (Members' shape row) = no_names (members_to to row)
  names_there x = refl

  things_there : (x : Shown) → things_of (value_to to x) ≡ map (thing by_number) (things_of x)
  unfolding things_of
  things_there (Members' shape row) = no_things (members_to to row)
  things_there x = refl

  lists_there : (x : Shown) → lists_of (value_to to x) ≡ map (thing by_number) (lists_of x)
  unfolding lists_of
  lists_there (Members' shape row) = no_lists (members_to to row)
  lists_there x = refl

  mutual
    parts_there : (x : Shown) → parts (value_to to x) ≡ map (thing by_number) (parts x)
    parts_there (Members' shape row) = members_parts (members_to to row) ∙ rows_there row
    parts_there x = refl

    rows_there : {n : _} (row : Row_of-Shown n) → all_parts (members_to to row) ≡ map (thing by_number) (member_parts row)
    rows_there end_of-Shown = refl
    rows_there (more_of-Shown x rest) = joined (thing by_number) (parts x) (member_parts rest) (parts (value_to to x)) (all_parts (members_to to rest)) (parts_there x) (rows_there rest)

  -- ---- names

  object_there : (n : Name) → is_object (name_to to n) ≡ is_object n
  unfolding is_object
  object_there (Object v n) = refl
  object_there n = refl

  gift_there : (n : Name) → is_gift (name_to to n) ≡ is_gift n
  unfolding is_gift
  gift_there (Gift v n) = refl
  gift_there (Claimed v p word) = refl
  gift_there n = refl

  root_there : (n : Name) → is_root (AName (name_to to n)) ≡ is_root (AName n)
  unfolding is_root
  root_there (Root v) = refl
  root_there n = refl

  module _ (apart : (v w : ℕ) → to v ≡ to w → v ≡ w) where
    places_apart : (v w : ℕ) → place_to v ≡ place_to w → v ≡ w
    places_apart zero zero e = refl
    places_apart zero (suc w) e = absurd (omega arith)
    places_apart (suc v) zero e = absurd (omega arith)
    places_apart (suc v) (suc w) e = let h : to v ≡ to w = omega arith in ap suc (apart v w h)

    -- a thing of a vat, by its number
    numbers_apart : {A : Type 0} (make : ℕ → ℕ → A) (v w n m : ℕ) → to v ≡ to w → n ≡ m → make v n ≡ make w m
    numbers_apart make v w n m e f = ap (λ (u : ℕ). make u n) (apart v w e) ∙ ap (make w) f

    messages_apart : (m n : Msg) → message_to to m ≡ message_to to n → m ≡ n
    messages_apart m n e =
        numbers_apart (λ v k. record { sender = v; number = k }) m.sender n.sender m.number n.number (ap (λ (x : Msg). x.sender) e) (ap (λ (x : Msg). x.number) e)

    names_apart : (n m : Name) → name_to to n ≡ name_to to m → n ≡ m
    names_apart (Object v n) (Object w m) e = let h : to v ≡ to w = cc in let k : n ≡ m = cc in numbers_apart Object v w n m h k
    names_apart (Own v n) (Own w m) e = let h : to v ≡ to w = cc in let k : n ≡ m = cc in numbers_apart Own v w n m h k
    names_apart (Answer v m) (Answer w n) e =
        let h : to v ≡ to w = cc in
        let k : message_to to m ≡ message_to to n = cc in
        ap (λ (u : ℕ). Answer u m) (apart v w h) ∙ ap (Answer w) (messages_apart m n k)
    names_apart (Gift v n) (Gift w m) e = let h : to v ≡ to w = cc in let k : n ≡ m = cc in numbers_apart Gift v w n m h k
    names_apart (Root v) (Root w) e = let h : to v ≡ to w = cc in ap Root (apart v w h)
    names_apart (Claimed v p n) (Claimed w q m) e =
        let h : to v ≡ to w = cc in
        let i : to p ≡ to q = cc in
        let k : n ≡ m = cc in
        ap (λ (u : ℕ). Claimed u p n) (apart v w h) ∙ ap (λ (u : ℕ). Claimed w u n) (apart p q i) ∙ ap (Claimed w q) k
    names_apart n m e = absurd cc

    messages_there : (m n : Msg) → same_message (message_to to m) (message_to to n) ≡ same_message m n
    messages_there m n = ap (λ (b : Bool). b && (m.number == n.number)) (test_same to apart m.sender n.sender)

    pub is_numbered : IsRenaming by_number
    is_numbered = record {
      vats_apart = apart;
      places_apart = places_apart;
      names_apart = names_apart;
      messages_same = messages_there;
      no_place = refl;
      a_place = λ v. ap place_to (add-one v) ∙ sym (add-one (to v));
      objects = object_there;
      gifts = gift_there;
      roots = root_there;
      as_name = name_there;
      as_names = names_there;
      as_things = things_there;
      as_lists = lists_there;
      as_parts = parts_there;
    }

pub uses_of_renumbered : UsesOfRenumbered
uses_of_renumbered to apart es = subst (UsesAreSame es) (events_numbered to es) (uses_are_same (by_number to) (is_numbered to apart) es)
