-- Lines of events are read again, kind by kind.
use Rattle.std.proofs.Common.{◌≡◌, ◌<◌, ◌++◌, ◌^◌, ℕ, Bool, true, false, List, [], ◌∷◌, Option, Some, None, length, refl, ◌∙◌, ap}
use Rattle.std.specs.Prelude.{codes, Result, Ok}
use Rattle.std.proofs.lemmas.List.{append-nil}
use Rattle.ev_base.specs.declared.names.Msg.{Msg}
use Rattle.ev_base.specs.declared.names.Name.{Name}
use Rattle.def_text.specs.Keywords.{printed_verb}
use Rattle.def_event.specs.declared.shown.Shown.{Shown}
use Rattle.def_event.specs.declared.event.Event.{Event}
use Rattle.def_event.specs.declared.event.Addressed.{Addressed}
use Rattle.def_event.specs.declared.event.Called.{Called}
use Rattle.def_event.specs.declared.event.Sent.{Sent}
use Rattle.def_event.specs.declared.event.Reacting.{Reacting}
use Rattle.def_event.specs.declared.event.MadeObject.{MadeObject}
use Rattle.def_event.specs.declared.event.Event.TheVariants.{Open, Turn, Idle, Carry, Cut, Notice, Frame, Take, Call, Back, Thrown, Gone, Got, Slot as SlotMade, Read, Wrote, List as ListMade, Arrived, Ejector, Audition, Promise, Made, Send, SendOnly, When, Done, Threw, Settle, Wait, View, LostCut, LostBroken, LeftQueue, LeftHeld, LeftWait, LeftLink, End, Raw}
use Rattle.def_event.specs.declared.note.ShownNote.{ShownNote}
use Rattle.def_event.specs.declared.raw.RawLine.{RawLine}
use Rattle.def_event.specs.declared.raw.RawLine.TheVariants.{Inject, InjectCut, Malformed, Bytes, LeftBytes}
use Rattle.def_event.specs.Lines.{begun_words, hex, note_words, part, raw_words}
use Rattle.def_event.specs.Lines as lines
use Rattle.ev_script.specs.Script.{rule, ◌>>=◌}
use Rattle.ev_script.specs.Vats.{place_of}
use Rattle.law_text.specs.Text.Feeds.{AllOf}
use Rattle.ev_trace_words.specs.Laws.{AreNames}
use Rattle.ev_trace_words.specs.Parts.{activation, message, name, numbered}
use Rattle.ev_trace_words.specs.Texts.{object_name, verb}
use Rattle.ev_trace_words.specs.Values.{value, values}
use Rattle.ev_trace_words.proofs.Printed.{message_again, name_again, numbered_again, place_again}
use Rattle.ev_trace_lines.specs.Events.{Words, three_words, two_words, begun, act_on_value, addressed, answered, arrow_name, asked, asked_with, before_word, behind_word, bytes_of, called, captures, carried, carried_of, event_of, left_held, left_link, left_on, left_queue, left_wait, list_and_members, lost, made, made_with, name_and_value, one_vat, part_behind, reacting, sent, slotted, two_names, two_values, two_vats, valued}
use Rattle.law_trace.specs.Trace.Seen.{seen, seen_note, seen_value, seen_values}
use Rattle.law_trace.specs.Trace.Readable.{AreValues, Below, IsMessage, IsName, IsNote, IsRawRead, IsRead, IsThing, IsValue, MayBegin}
use Rattle.law_trace.specs.Trace.Events.{EventsAreReadAgain}
use Rattle.law_trace.proofs.Trace.LinesAgain.{IsNoValue, IsOther, act_line, activation_again, all_again, before_at, before_none, behind_at, behind_none, entry_line, goes, no_arrow, no_as, no_stamps, object_again, other_by, verb_again}
use Rattle.law_trace.proofs.Trace.AnyValue.{fits, value_again}
use Rattle.law_trace.proofs.Trace.NotesAgain.{carried_again, in_words, kind_of, left_again, rest_of, two_names_by}
use Rattle.law_trace.proofs.Trace.BytesAgain.{bytes_again}

module _ (names : List (List ℕ)) where
  -- ---- by what the words of a line are read as

  one_vat_by : (w : List ℕ) (v : ℕ) → place_of names w ≡ Some v → one_vat names (w ∷ []) ≡ Ok v
  one_vat_by w v e = rw e refl

  two_vats_by : (x y : List ℕ) (v w : ℕ) → place_of names x ≡ Some v → place_of names y ≡ Some w → two_vats names (x ∷ y ∷ []) ≡ Ok (v, w)
  unfolding two_words
  two_vats_by x y v w e f = rw e (rw f refl)

  name_and_value_by : (x y : List ℕ) (p : Name) (s : Shown) → name names x ≡ Some p → value names y ≡ Ok s → name_and_value names (x ∷ y ∷ []) ≡ Ok (p, s)
  unfolding two_words
  name_and_value_by x y p s e f = rw e (rw f refl)

  list_and_members_by : (l : List ℕ) (ws : Words) (list : ℕ × ℕ) (xs : List Shown) → numbered names 37 l ≡ Some list → values names ws ≡ Ok xs → list_and_members names (l ∷ ws) ≡ Ok (list, xs)
  list_and_members_by l ws list xs e f = rw e (rw f refl)

  asked_by : (t v : List ℕ) (ws : Words) (target : Shown) (q : List ℕ) (xs : List Shown) → value names t ≡ Ok target → verb v ≡ Ok q → values names ws ≡ Ok xs
      → asked names t v ws ≡ Ok (record { target = target; verb = q; args = xs })
  unfolding asked asked_with
  asked_by t v ws target q xs e f g = rw e (rw f (rw g refl))

  addressed_by : (a : ℕ) (m t v : List ℕ) (ws : Words) (id : Msg) (target : Shown) (q : List ℕ) (xs : List Shown) → message names m ≡ Some id → asked names t v ws ≡ Ok (record { target = target; verb = q; args = xs })
      → addressed names a (m ∷ t ∷ v ∷ ws) ≡ Ok (record { activation = a; message = id; target = target; verb = q; args = xs })
  addressed_by a m t v ws id target q xs e f = rw e (rw f refl)

  called_by : (a : ℕ) (t v : List ℕ) (rest : Words) (target : Shown) (q : List ℕ) (xs : List Shown) (b : Option ℕ) → asked names t v (before_word (codes "as") rest) ≡ Ok (record { target = target; verb = q; args = xs })
      → begun (behind_word (codes "as") rest) ≡ Ok b → called names a (t ∷ v ∷ rest) ≡ Ok (Call (record { activation = a; target = target; verb = q; args = xs; begun = b }))
  called_by a t v rest target q xs b e f = rw e (rw f refl)

  sent_by : (a : ℕ) (m t v : List ℕ) (rest : Words) (id : Msg) (target : Shown) (q : List ℕ) (xs : List Shown) (answer : Name) → message names m ≡ Some id
      → asked names t v (before_word (codes "->") rest) ≡ Ok (record { target = target; verb = q; args = xs }) → answered names (behind_word (codes "->") rest) ≡ Ok answer
      → sent names a (m ∷ t ∷ v ∷ rest) ≡ Ok (Send (record { activation = a; message = id; target = target; verb = q; args = xs; answer = answer }))
  sent_by a m t v rest id target q xs answer e f g = rw e (rw f (rw g refl))

  two_values_by : (x y : List ℕ) (s t : Shown) → value names x ≡ Ok s → value names y ≡ Ok t → two_values names x y ≡ Ok (s, t)
  unfolding two_values
  two_values_by x y s t e f = rw e (rw f refl)

  arrow_name_by : (w : List ℕ) (p : Name) → name names w ≡ Some p → arrow_name names (codes "->" ∷ w ∷ []) ≡ Ok p
  unfolding two_words
  arrow_name_by w p e = rw e refl

  reacting_by : (a : ℕ) (m x o : List ℕ) (rest : Words) (id : Msg) (both : Shown × Shown) (answer : Name) → message names m ≡ Some id → two_values names x o ≡ Ok both → arrow_name names rest ≡ Ok answer
      → reacting names a (m ∷ x ∷ o ∷ rest) ≡ Ok (When (record { activation = a; message = id; value = both.0; reaction = both.1; answer = answer }))
  reacting_by a m x o rest id both answer e f g = rw e (rw f (rw g refl))

  made_with_by : (a : ℕ) (object : Shown) (word : List ℕ) (rest : Words) (caps stamps : List Shown) → captures names (before_word (codes "stamps") rest) ≡ Ok caps → part_behind names (behind_word (codes "stamps") rest) ≡ Ok stamps
      → made_with names a object word rest ≡ Ok (record { activation = a; object = object; name = word; caps = caps; stamps = stamps })
  unfolding made_with
  made_with_by a object word rest caps stamps e f = rw e (rw f refl)

  made_by : (a : ℕ) (o n : List ℕ) (rest : Words) (object : Shown) (word : List ℕ) (m : MadeObject) → value names o ≡ Ok object → object_name n ≡ Ok word → made_with names a object word rest ≡ Ok m
      → made names a (o ∷ n ∷ rest) ≡ Ok (Made m)
  made_by a o n rest object word m e f g = rw e (rw f (rw g refl))

  on_value : (a : ℕ) (word w : List ℕ) (x : Shown) → value names w ≡ Ok x → act_on_value names a word (w ∷ []) ≡ rule 42 (valued a word x)
  on_value a word w x e = ap (λ (r : Result Shown ℕ). r >>= (λ (y : Shown). rule 42 (valued a word y))) e

  on_slot : (a : ℕ) (word l w : List ℕ) (slot : ℕ × ℕ) (x : Shown) → numbered names 38 l ≡ Some slot → value names w ≡ Ok x → act_on_value names a word (l ∷ w ∷ []) ≡ rule 42 (slotted a word slot x)
  on_slot a word l w slot x e f = rw e (rw f refl)

  carried_by : (k : ℕ) (x y kind : List ℕ) (rest : Words) (v w : ℕ) → place_of names x ≡ Some v → place_of names y ≡ Some w → carried names k (x ∷ y ∷ kind ∷ rest) ≡ carried_of names k v w kind rest
  carried_by k x y kind rest v w e f = rw e (rw f refl)

  left_link_by : (x y kind : List ℕ) (rest : Words) (v w : ℕ) → place_of names x ≡ Some v → place_of names y ≡ Some w → left_link names (x ∷ y ∷ kind ∷ rest) ≡ left_on names v w kind rest
  left_link_by x y kind rest v w e f = rw e (rw f refl)

  carried_bytes_by : (k v w : ℕ) (word bytes : List ℕ) → bytes_of word ≡ Ok bytes → carried_of names k v w (codes "bytes") (word ∷ []) ≡ Ok (Raw (Bytes k v w bytes))
  carried_bytes_by k v w word bytes e = rw e refl

  left_bytes_by : (v w : ℕ) (word bytes : List ℕ) → bytes_of word ≡ Ok bytes → left_on names v w (codes "bytes") (word ∷ []) ≡ Ok (Raw (LeftBytes v w bytes))
  left_bytes_by v w word bytes e = rw e refl

  lost_cut_by : (w : List ℕ) (m : Msg) → message names w ≡ Some m → lost names (w ∷ codes "cut" ∷ []) ≡ Ok (LostCut m)
  unfolding two_words
  lost_cut_by w m e = rw e refl

  lost_broken_by : (w : List ℕ) (m : Msg) → message names w ≡ Some m → lost names (w ∷ codes "broken" ∷ []) ≡ Ok (LostBroken m)
  unfolding two_words
  lost_broken_by w m e = rw e refl

  left_queue_by : (x w : List ℕ) (v : ℕ) (m : Msg) → place_of names x ≡ Some v → message names w ≡ Some m → left_queue names (x ∷ w ∷ []) ≡ Ok (LeftQueue v m)
  unfolding two_words
  left_queue_by x w v m e f = rw e (rw f refl)

  left_held_by : (x y w : List ℕ) (v : ℕ) (p : Name) (m : Msg) → place_of names x ≡ Some v → name names y ≡ Some p → message names w ≡ Some m → left_held names (x ∷ y ∷ w ∷ []) ≡ Ok (LeftHeld v p m)
  unfolding three_words
  left_held_by x y w v p m e f g = rw e (rw f (rw g refl))

  left_wait_by : (x y w : List ℕ) (v : ℕ) (s : Shown) (m : Msg) → place_of names x ≡ Some v → value names y ≡ Ok s → message names w ≡ Some m → left_wait names (x ∷ y ∷ w ∷ []) ≡ Ok (LeftWait v s m)
  unfolding three_words
  left_wait_by x y w v s m e f g = rw e (rw f (rw g refl))

module _ (names : List (List ℕ)) (are : AreNames names) where
  -- ---- what is printed

  vat_back : (v : ℕ) → v < length names → place_of names (lines.vat names v) ≡ Some v
  vat_back v h = place_again names v are.apart h

  message_back : (m : Msg) → IsMessage (Below names) m → message names (lines.message names m) ≡ Some m
  message_back m h = message_again names m are h.0 h.1

  name_back : (n : Name) → IsName (Below names) n → name names (lines.name names n) ≡ Some n
  name_back n h = name_again names n are (fits names n h)

  value_back : (x : Shown) → IsValue (Below names) x → value names (lines.value names x) ≡ Ok (seen_value x)
  value_back x h = value_again names x are h

  values_back : (xs : List Shown) → AreValues (Below names) xs → values names (lines.values names xs) ≡ Ok (seen_values xs)
  values_back xs h = all_again (value names) (lines.value names) seen_value (IsValue (Below names)) value_back xs h

  others : (word : List ℕ) (xs : List Shown) → IsNoValue names word → AreValues (Below names) xs → AllOf (IsOther word) (lines.values names xs)
  others word [] n h = tt
  others word (x ∷ xs) n h = (other_by names word (lines.value names x) (seen_value x) _ refl n (value_back x h.0), others word xs n h.1)

  asked_back : (t : Shown) (q : List ℕ) (xs : List Shown) (ws : Words) → IsValue (Below names) t → AreValues (Below names) xs → ws ≡ lines.values names xs
      → asked names (lines.value names t) (printed_verb q) ws ≡ Ok (record { target = seen_value t; verb = q; args = seen_values xs })
  asked_back t q xs ws h k e = asked_by names (lines.value names t) (printed_verb q) ws (seen_value t) q (seen_values xs) (value_back t h) (verb_again q) (ap (values names) e ∙ values_back xs k)

  addressed_back : (a : ℕ) (m : Msg) (t : Shown) (q : List ℕ) (xs : List Shown) → IsMessage (Below names) m → IsValue (Below names) t → AreValues (Below names) xs
      → addressed names a (lines.message names m ∷ lines.value names t ∷ printed_verb q ∷ lines.values names xs) ≡ Ok (record { activation = a; message = m; target = seen_value t; verb = q; args = seen_values xs })
  addressed_back a m t q xs h k l = addressed_by names a (lines.message names m) (lines.value names t) (printed_verb q) (lines.values names xs) m (seen_value t) q (seen_values xs) (message_back m h) (asked_back t q xs (lines.values names xs) k l refl)

  -- a call, and the activation that it begins
  begun_by : (word : List ℕ) (b : ℕ) → activation word ≡ Some b → begun (Some (word ∷ [])) ≡ Ok (Some b)
  begun_by word b e = rw e refl

  args_before : (xs : List Shown) (b : Option ℕ) → AreValues (Below names) xs → before_word (codes "as") (lines.values names xs ++ begun_words b) ≡ lines.values names xs
  args_before xs None h = ap (before_word (codes "as")) (append-nil (lines.values names xs)) ∙ before_none (codes "as") (lines.values names xs) (others (codes "as") xs (no_as names) h)
  args_before xs (Some b) h = before_at (codes "as") (lines.values names xs) (lines.activation b ∷ []) (others (codes "as") xs (no_as names) h)

  begun_behind : (xs : List Shown) (b : Option ℕ) → AreValues (Below names) xs → MayBegin b → begun (behind_word (codes "as") (lines.values names xs ++ begun_words b)) ≡ Ok b
  begun_behind xs None h k = ap (λ ws. begun (behind_word (codes "as") ws)) (append-nil (lines.values names xs)) ∙ ap begun (behind_none (codes "as") (lines.values names xs) (others (codes "as") xs (no_as names) h))
  begun_behind xs (Some b) h k = ap begun (behind_at (codes "as") (lines.values names xs) (lines.activation b ∷ []) (others (codes "as") xs (no_as names) h)) ∙ begun_by (lines.activation b) b (activation_again b k)

  -- an answer behind an arrow
  answered_by : (word : List ℕ) (p : Name) → name names word ≡ Some p → answered names (Some (word ∷ [])) ≡ Ok p
  answered_by word p e = rw e refl

  answer_behind : (xs : List Shown) (p : Name) → AreValues (Below names) xs → IsName (Below names) p → answered names (behind_word (codes "->") (lines.values names xs ++ codes "->" ∷ lines.name names p ∷ [])) ≡ Ok p
  answer_behind xs p h k = ap (answered names) (behind_at (codes "->") (lines.values names xs) (lines.name names p ∷ []) (others (codes "->") xs (no_arrow names) h)) ∙ answered_by (lines.name names p) p (name_back p k)

  -- captures and stamps
  caps_back : (xs : List Shown) → AreValues (Below names) xs → captures names (part names (codes "caps") xs) ≡ Ok (seen_values xs)
  caps_back [] h = refl
  caps_back (x ∷ xs) h = values_back (x ∷ xs) h

  caps_others : (xs : List Shown) → AreValues (Below names) xs → AllOf (IsOther (codes "stamps")) (part names (codes "caps") xs)
  caps_others [] h = tt
  caps_others (x ∷ xs) h = (refl, others (codes "stamps") (x ∷ xs) (no_stamps names) h)

  caps_before : (xs ys : List Shown) → AreValues (Below names) xs → before_word (codes "stamps") (part names (codes "caps") xs ++ part names (codes "stamps") ys) ≡ part names (codes "caps") xs
  caps_before xs [] h = ap (before_word (codes "stamps")) (append-nil (part names (codes "caps") xs)) ∙ before_none (codes "stamps") (part names (codes "caps") xs) (caps_others xs h)
  caps_before xs (y ∷ ys) h = before_at (codes "stamps") (part names (codes "caps") xs) (lines.values names (y ∷ ys)) (caps_others xs h)

  stamps_behind : (xs ys : List Shown) → AreValues (Below names) xs → AreValues (Below names) ys
      → part_behind names (behind_word (codes "stamps") (part names (codes "caps") xs ++ part names (codes "stamps") ys)) ≡ Ok (seen_values ys)
  stamps_behind xs [] h k = ap (λ ws. part_behind names (behind_word (codes "stamps") ws)) (append-nil (part names (codes "caps") xs)) ∙ ap (part_behind names) (behind_none (codes "stamps") (part names (codes "caps") xs) (caps_others xs h))
  stamps_behind xs (y ∷ ys) h k = ap (part_behind names) (behind_at (codes "stamps") (part names (codes "caps") xs) (lines.values names (y ∷ ys)) (caps_others xs h)) ∙ values_back (y ∷ ys) k

  -- ---- kind by kind

  vat_goes : (v : ℕ) (f : ℕ → Result Event ℕ) → v < length names → (one_vat names (lines.vat names v ∷ []) >>= f) ≡ f v
  vat_goes v f h = goes (one_vat names (lines.vat names v ∷ [])) v f (one_vat_by names (lines.vat names v) v (vat_back v h))

  vats_go : (v w : ℕ) (f : ℕ × ℕ → Result Event ℕ) → v < length names → w < length names → (two_vats names (lines.vat names v ∷ lines.vat names w ∷ []) >>= f) ≡ f (v, w)
  vats_go v w f h k = goes (two_vats names (lines.vat names v ∷ lines.vat names w ∷ [])) (v, w) f (two_vats_by names (lines.vat names v) (lines.vat names w) v w (vat_back v h) (vat_back w k))

  names_go : (p q : Name) (f : Name × Name → Result Event ℕ) → IsName (Below names) p → IsName (Below names) q → (two_names names (lines.name names p ∷ lines.name names q ∷ []) >>= f) ≡ f (p, q)
  names_go p q f h k = goes (two_names names (lines.name names p ∷ lines.name names q ∷ [])) (p, q) f (two_names_by names (lines.name names p) (lines.name names q) p q (name_back p h) (name_back q k))

  named_value_goes : (p : Name) (x : Shown) (f : Name × Shown → Result Event ℕ) → IsName (Below names) p → IsValue (Below names) x
      → (name_and_value names (lines.name names p ∷ lines.value names x ∷ []) >>= f) ≡ f (p, seen_value x)
  named_value_goes p x f h k =
      goes (name_and_value names (lines.name names p ∷ lines.value names x ∷ [])) (p, seen_value x) f (name_and_value_by names (lines.name names p) (lines.value names x) p (seen_value x) (name_back p h) (value_back x k))

  carry_line : (k v w : ℕ) (note : ShownNote) → v < length names → w < length names → IsNote (Below names) note
      → carried names k (lines.vat names v ∷ lines.vat names w ∷ note_words names note) ≡ Ok (Carry k v w (seen_note note))
  carry_line k v w note h i l =
      ap (λ ws. carried names k (lines.vat names v ∷ lines.vat names w ∷ ws)) (in_words names are note)
      ∙ carried_by names k (lines.vat names v) (lines.vat names w) (kind_of names are note) (rest_of names are note) v w (vat_back v h) (vat_back w i) ∙ carried_again names are k v w note l

  left_line : (v w : ℕ) (note : ShownNote) → v < length names → w < length names → IsNote (Below names) note
      → left_link names (lines.vat names v ∷ lines.vat names w ∷ note_words names note) ≡ Ok (LeftLink v w (seen_note note))
  left_line v w note h i l =
      ap (λ ws. left_link names (lines.vat names v ∷ lines.vat names w ∷ ws)) (in_words names are note)
      ∙ left_link_by names (lines.vat names v) (lines.vat names w) (kind_of names are note) (rest_of names are note) v w (vat_back v h) (vat_back w i) ∙ left_again names are v w note l

  list_goes : (l : ℕ × ℕ) (xs : List Shown) (f : (ℕ × ℕ) × List Shown → Result Event ℕ) → IsThing (Below names) l.0 l.1 → AreValues (Below names) xs
      → (list_and_members names (lines.numbered names l.0 37 l.1 ∷ lines.values names xs) >>= f) ≡ f (l, seen_values xs)
  list_goes l xs f h k =
      goes (list_and_members names (lines.numbered names l.0 37 l.1 ∷ lines.values names xs)) (l, seen_values xs) f
      (list_and_members_by names (lines.numbered names l.0 37 l.1) (lines.values names xs) l (seen_values xs) (numbered_again names l.0 37 l.1 are h.0 h.1 refl) (values_back xs k))

  addressed_goes : (t : Addressed) (f : Addressed → Result Event ℕ) → IsMessage (Below names) t.message → IsValue (Below names) t.target → AreValues (Below names) t.args
      → (addressed names t.activation (lines.message names t.message ∷ lines.value names t.target ∷ printed_verb t.verb ∷ lines.values names t.args) >>= f)
      ≡ f (record { activation = t.activation; message = t.message; target = seen_value t.target; verb = t.verb; args = seen_values t.args })
  addressed_goes t f h k l = goes _ _ f (addressed_back t.activation t.message t.target t.verb t.args h k l)

  -- an act of one value
  one_value_line : (a : ℕ) (word : List ℕ) (x : Shown) → a < 2 ^ 64 → IsValue (Below names) x → act_on_value names a word (lines.value names x ∷ []) ≡ rule 42 (valued a word (seen_value x))
  one_value_line a word x h k = on_value names a word (lines.value names x) (seen_value x) (value_back x k)

  -- an act of a var slot and a value
  slot_line : (a : ℕ) (word : List ℕ) (s : ℕ × ℕ) (x : Shown) → IsThing (Below names) s.0 s.1 → IsValue (Below names) x
      → act_on_value names a word (lines.numbered names s.0 38 s.1 ∷ lines.value names x ∷ []) ≡ rule 42 (slotted a word s (seen_value x))
  slot_line a word s x h k = on_slot names a word (lines.numbered names s.0 38 s.1) (lines.value names x) s (seen_value x) (numbered_again names s.0 38 s.1 are h.0 h.1 refl) (value_back x k)

  call_line : (c : Called) → IsRead (Below names) (Call c) → called names c.activation (lines.value names c.target ∷ printed_verb c.verb ∷ (lines.values names c.args ++ begun_words c.begun)) ≡ Ok (seen (Call c))
  call_line c h =
      called_by names c.activation (lines.value names c.target) (printed_verb c.verb) (lines.values names c.args ++ begun_words c.begun) (seen_value c.target) c.verb (seen_values c.args) c.begun
      (asked_back c.target c.verb c.args (before_word (codes "as") (lines.values names c.args ++ begun_words c.begun)) h.1 h.3 (args_before c.args c.begun h.3)) (begun_behind c.args c.begun h.3 h.4)

  send_line : (m : Sent) → IsRead (Below names) (Send m)
      → sent names m.activation (lines.message names m.message ∷ lines.value names m.target ∷ printed_verb m.verb ∷ (lines.values names m.args ++ codes "->" ∷ lines.name names m.answer ∷ [])) ≡ Ok (seen (Send m))
  send_line m h =
      let rest = lines.values names m.args ++ codes "->" ∷ lines.name names m.answer ∷ [] in
      sent_by names m.activation (lines.message names m.message) (lines.value names m.target) (printed_verb m.verb) rest m.message (seen_value m.target) m.verb (seen_values m.args) m.answer (message_back m.message h.1)
      (asked_back m.target m.verb m.args (before_word (codes "->") rest) h.2 h.4 (before_at (codes "->") (lines.values names m.args) (lines.name names m.answer ∷ []) (others (codes "->") m.args (no_arrow names) h.4)))
      (answer_behind m.args m.answer h.4 h.5)

  when_line : (w : Reacting) → IsRead (Below names) (When w)
      → reacting names w.activation (lines.message names w.message ∷ lines.value names w.value ∷ lines.value names w.reaction ∷ codes "->" ∷ lines.name names w.answer ∷ []) ≡ Ok (seen (When w))
  when_line w h =
      reacting_by names w.activation (lines.message names w.message) (lines.value names w.value) (lines.value names w.reaction) (codes "->" ∷ lines.name names w.answer ∷ []) w.message (seen_value w.value, seen_value w.reaction) w.answer
      (message_back w.message h.1) (two_values_by names (lines.value names w.value) (lines.value names w.reaction) (seen_value w.value) (seen_value w.reaction) (value_back w.value h.2) (value_back w.reaction h.3))
      (arrow_name_by names (lines.name names w.answer) w.answer (name_back w.answer h.4))

  made_line : (o : MadeObject) → IsRead (Below names) (Made o)
      → made names o.activation (lines.value names o.object ∷ o.name ∷ (part names (codes "caps") o.caps ++ part names (codes "stamps") o.stamps)) ≡ Ok (seen (Made o))
  made_line o h =
      let rest = part names (codes "caps") o.caps ++ part names (codes "stamps") o.stamps in
      made_by names o.activation (lines.value names o.object) o.name rest (seen_value o.object) o.name _ (value_back o.object h.1) (object_again o.name h.2)
      (made_with_by names o.activation (seen_value o.object) o.name rest (seen_values o.caps) (seen_values o.stamps) (ap (captures names) (caps_before o.caps o.stamps h.3) ∙ caps_back o.caps h.3) (stamps_behind o.caps o.stamps h.3 h.4))

  raw_again : (line : RawLine) → IsRawRead (Below names) line → event_of names (raw_words names line) ≡ Ok (Raw line)
  raw_again (Inject k v w bytes) h = absurd h
  raw_again (InjectCut k v w) h = absurd h
  raw_again (Malformed k v w place) h = absurd h
  raw_again (Bytes k v w bytes) h =
      entry_line names k (codes "carry" ∷ lines.vat names v ∷ lines.vat names w ∷ codes "bytes" ∷ hex bytes ∷ []) h.0
      ∙ carried_by names k (lines.vat names v) (lines.vat names w) (codes "bytes") (hex bytes ∷ []) v w (vat_back v h.1) (vat_back w h.2) ∙ carried_bytes_by names k v w (hex bytes) bytes (bytes_again bytes h.3)
  raw_again (LeftBytes v w bytes) h =
      left_link_by names (lines.vat names v) (lines.vat names w) (codes "bytes") (hex bytes ∷ []) v w (vat_back v h.0) (vat_back w h.1) ∙ left_bytes_by names v w (hex bytes) bytes (bytes_again bytes h.2)

  pub event_again : (e : Event) → IsRead (Below names) e → event_of names (lines.words names e) ≡ Ok (seen e)
  event_again (Open v) h = vat_goes v (λ u. Ok (Open u)) h
  event_again (Turn k v) h = entry_line names k (codes "turn" ∷ lines.vat names v ∷ []) h.0 ∙ vat_goes v (λ u. Ok (Turn k u)) h.1
  event_again (Idle k) h = entry_line names k (codes "idle" ∷ []) h
  event_again (Carry k v w note) h = entry_line names k (codes "carry" ∷ lines.vat names v ∷ lines.vat names w ∷ note_words names note) h.0 ∙ carry_line k v w note h.1 h.2 h.3
  event_again (Cut k v w) h = entry_line names k (codes "cut" ∷ lines.vat names v ∷ lines.vat names w ∷ []) h.0 ∙ vats_go v w (λ p. Ok (Cut k p.0 p.1)) h.1 h.2
  event_again (Notice k v w) h = entry_line names k (codes "notice" ∷ lines.vat names v ∷ lines.vat names w ∷ []) h.0 ∙ vats_go v w (λ p. Ok (Notice k p.0 p.1)) h.1 h.2
  event_again (Frame bytes) h = absurd h
  event_again (Take t) h = act_line names t.activation (codes "take" ∷ lines.message names t.message ∷ lines.value names t.target ∷ printed_verb t.verb ∷ lines.values names t.args) h.0 ∙ addressed_goes t (λ m. Ok (Take m)) h.1 h.2 h.4
  event_again (Call c) h = act_line names c.activation (codes "call" ∷ lines.value names c.target ∷ printed_verb c.verb ∷ (lines.values names c.args ++ begun_words c.begun)) h.0 ∙ call_line c h
  event_again (Back a x) h = act_line names a (codes "back" ∷ lines.value names x ∷ []) h.0 ∙ one_value_line a (codes "back") x h.0 h.1
  event_again (Thrown a x) h = act_line names a (codes "thrown" ∷ lines.value names x ∷ []) h.0 ∙ one_value_line a (codes "thrown") x h.0 h.1
  event_again (Gone a) h = act_line names a (codes "gone" ∷ []) h
  event_again (Got a x) h = act_line names a (codes "got" ∷ lines.value names x ∷ []) h.0 ∙ one_value_line a (codes "got") x h.0 h.1
  event_again (SlotMade a s x) h = act_line names a (codes "slot" ∷ lines.numbered names s.0 38 s.1 ∷ lines.value names x ∷ []) h.0 ∙ slot_line a (codes "slot") s x h.1 h.2
  event_again (Read a s x) h = act_line names a (codes "read" ∷ lines.numbered names s.0 38 s.1 ∷ lines.value names x ∷ []) h.0 ∙ slot_line a (codes "read") s x h.1 h.2
  event_again (Wrote a s x) h = act_line names a (codes "wrote" ∷ lines.numbered names s.0 38 s.1 ∷ lines.value names x ∷ []) h.0 ∙ slot_line a (codes "wrote") s x h.1 h.2
  event_again (ListMade a l xs) h = act_line names a (codes "list" ∷ lines.numbered names l.0 37 l.1 ∷ lines.values names xs) h.0 ∙ list_goes l xs (λ p. Ok (ListMade a p.0 p.1)) h.1 h.2
  event_again (Arrived l xs) h = list_goes l xs (λ p. Ok (Arrived p.0 p.1)) h.0 h.1
  event_again (Ejector a o) h = act_line names a (codes "ejector" ∷ lines.value names o ∷ []) h.0 ∙ one_value_line a (codes "ejector") o h.0 h.1
  event_again (Audition a o) h = act_line names a (codes "audition" ∷ lines.value names o ∷ []) h.0 ∙ one_value_line a (codes "audition") o h.0 h.1
  event_again (Promise a p o) h = act_line names a (codes "promise" ∷ lines.name names p ∷ lines.value names o ∷ []) h.0 ∙ named_value_goes p o (λ q. Ok (Promise a q.0 q.1)) h.1 h.2
  event_again (Made o) h = act_line names o.activation (codes "made" ∷ lines.value names o.object ∷ o.name ∷ (part names (codes "caps") o.caps ++ part names (codes "stamps") o.stamps)) h.0 ∙ made_line o h
  event_again (Send m) h =
      act_line names m.activation (codes "send" ∷ lines.message names m.message ∷ lines.value names m.target ∷ printed_verb m.verb ∷ (lines.values names m.args ++ codes "->" ∷ lines.name names m.answer ∷ [])) h.0 ∙ send_line m h
  event_again (SendOnly t) h = act_line names t.activation (codes "sendonly" ∷ lines.message names t.message ∷ lines.value names t.target ∷ printed_verb t.verb ∷ lines.values names t.args) h.0 ∙ addressed_goes t (λ m. Ok (SendOnly m)) h.1 h.2 h.4
  event_again (When w) h = act_line names w.activation (codes "when" ∷ lines.message names w.message ∷ lines.value names w.value ∷ lines.value names w.reaction ∷ codes "->" ∷ lines.name names w.answer ∷ []) h.0 ∙ when_line w h
  event_again (Done a x) h = act_line names a (codes "done" ∷ lines.value names x ∷ []) h.0 ∙ one_value_line a (codes "done") x h.0 h.1
  event_again (Threw a x) h = act_line names a (codes "threw" ∷ lines.value names x ∷ []) h.0 ∙ one_value_line a (codes "threw") x h.0 h.1
  event_again (Settle p x) h = named_value_goes p x (λ q. Ok (Settle q.0 q.1)) h.0 h.1
  event_again (Wait p q) h = names_go p q (λ n. Ok (Wait n.0 n.1)) h.0 h.1
  event_again (View p q) h = names_go p q (λ n. Ok (View n.0 n.1)) h.0 h.1
  event_again (LostCut m) h = lost_cut_by names (lines.message names m) m (message_back m h)
  event_again (LostBroken m) h = lost_broken_by names (lines.message names m) m (message_back m h)
  event_again (LeftQueue v m) h = left_queue_by names (lines.vat names v) (lines.message names m) v m (vat_back v h.0) (message_back m h.1)
  event_again (LeftHeld v p m) h = left_held_by names (lines.vat names v) (lines.name names p) (lines.message names m) v p m (vat_back v h.0) (name_back p h.1) (message_back m h.2)
  event_again (LeftWait v x m) h = left_wait_by names (lines.vat names v) (lines.value names x) (lines.message names m) v (seen_value x) m (vat_back v h.0) (value_back x h.1) (message_back m h.2)
  event_again (LeftLink v w note) h = left_line v w note h.0 h.1 h.2
  event_again End h = refl
  event_again (Raw line) h = raw_again line h

pub events_again : EventsAreReadAgain
events_again names e are h = event_again names are e h
