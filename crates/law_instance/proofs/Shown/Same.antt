-- What names no gift that prints by its word is shown in a run with hostile vats as in any run, where nothing is claimed.
use Rattle.std.proofs.Common.{◌≡◌, ℕ, Bool, true, false, List, [], ◌∷◌, ◌++◌, Option, Some, None, refl, sym, ap, subst, ◌∙◌, map, option_map, not}
use Rattle.def_event.specs.declared.shown.Shown.{Shown}
use Rattle.def_event.specs.declared.shown.Shown as shown
use Rattle.def_event.specs.Lines.{members}
use Rattle.ev_base.specs.declared.names.Msg.{Msg as ShownMsg}
use Rattle.ev_base.specs.declared.names.Name.{Name as ShownName}
use Rattle.def_machine.specs.Values.{Value, Ref, Name, Root, Gift, Sent}
use Rattle.def_machine.specs.State.{Bound, Fixed, Slot, Message, Passed, Passeds, Plain, AGift, Many, NoMore, More, Note, Deliver, Open, Ask, SettledTo, Elsewhere, Shorten, Happened, Took, Called, Back, Got, SlotMade, SlotRead, SlotWrote, ListMade, ListCame, EjectorMade, AuditionMade, PromiseMade, ObjectMade, Sends, Reacts, Finished, Settles, Waits, Views, Lost, Posted, Vat}
use Rattle.def_run.specs.Marks.{is_spelled_out}
use Rattle.def_run.specs.Shown.{shown_name, shown_msg, shown_value, shown_values, shown_slot, shown_capture, shown_passed, shown_all, shown_delivery, shown_note, shown_send, shown_reaction, shown_happened, shown_event, shown_gift}
use Rattle.def_run.specs.Text.{shown_events}
use Rattle.def_run.specs.World.{Event, Carried, LeftLink, LostCut, Link, is_cut, event_of, events_of}
use Rattle.def_hostile.specs.Claims.{is_claimed, spelled_if, spelled_key, spelled, spelled_passed, spelled_all, spelled_note, spelled_event}
use Rattle.def_hostile.specs.Hostile.{Told}
use Rattle.def_hostile.specs.HostileText.{shown_line, shown_lines}
use Rattle.def_hostile.specs.ShownMarks as marks
use Rattle.law_fate.specs.Name.Names.{AllOf, NoteOk, PassedOk, PassedsOk, ValueOk}
use Rattle.law_fate.proofs.Name.Facts.{all_append}
use Rattle.def_machine.specs.Maps as maps
use Rattle.law_instance.proofs.Shown.Low.{is_low, IsLow, LowBit}
use Rattle.law_instance.proofs.Shown.Marked.{kept, keep}

-- ---- names

abbrev pub Spelled : Name → Name
Spelled n = spelled [] n

key_same : (h i : ℕ) → spelled_key [] h i ≡ i
unfolding spelled_key spelled_if is_claimed
key_same h i = refl

pub spelled_same : (n : Name) → Spelled n ≡ n
unfolding spelled spelled_key spelled_if is_claimed
spelled_same (Gift h i) = refl
spelled_same other = refl

pub root_low : (v : ℕ) → IsLow (Root v)
unfolding is_low
root_low v = refl

not_low : (b : Bool) → not b ≡ true → b ≡ false
not_low true e = cc
not_low false e = refl

module _ (d : List ℕ) where
  gift_same : (h i : ℕ) → is_spelled_out i ≡ false → marks.shown_gift d h (spelled_key [] h i) ≡ shown_gift d h i
  unfolding marks.shown_gift marks.gift_by shown_gift spelled_key spelled_if is_claimed
  gift_same h i e = ap (λ b. marks.gift_by d h i b) e

  pub name_same : (n : Name) → IsLow n → marks.shown_name d (Spelled n) ≡ shown_name d n
  unfolding is_low spelled marks.shown_name shown_name
  name_same (Gift h i) e = gift_same h i (not_low (is_spelled_out i) e)
  name_same other e = refl

  pub msg_same : (n : Name) → marks.shown_msg d n ≡ shown_msg d n
  unfolding marks.shown_msg shown_msg
  msg_same (Sent m) = refl
  msg_same other = refl

  msg_spelled : (n : Name) → marks.shown_msg d (Spelled n) ≡ shown_msg d n
  msg_spelled n = ap (λ m. marks.shown_msg d m) (spelled_same n) ∙ msg_same n

  -- ---- what a note says

  said_value : (v : ℕ) (y : Value Name) → ValueOk LowBit y → marks.shown_value d v (maps.value Spelled y) ≡ shown_value d v y
  unfolding marks.shown_value shown_value
  said_value v (Ref n) h = ap (λ m. shown.Name m) (name_same n h)
  said_value v other h = refl

  mutual
    unfolding marks.shown_passed marks.shown_all shown_passed shown_all spelled_passed spelled_all

    said_passed : (y : Passed Name) → PassedOk LowBit y → marks.shown_passed d (spelled_passed [] y) ≡ shown_passed d y
    said_passed (Plain y) h = said_value 0 y h
    said_passed (AGift g i) h = ap (λ m. shown.Name m) (gift_same g i h.1)
    said_passed (Many ys) h = ap (λ zs. members zs) (said_all ys h)

    said_all : (ys : Passeds Name) → PassedsOk LowBit ys → marks.shown_all d (spelled_all [] ys) ≡ shown_all d ys
    said_all NoMore h = refl
    said_all (More y ys) h = cc (said_passed y h.0, said_all ys h.1)

  by_asking : (b : Bool) (m : ShownMsg) (x : ShownName) (verb : List ℕ) (ys : List Shown) → marks.shown_delivery d b m x verb ys ≡ shown_delivery d b m x verb ys
  unfolding marks.shown_delivery shown_delivery
  by_asking true m x verb ys = refl
  by_asking false m x verb ys = refl

  pub note_same : (w : ℕ) (n : Note Name) → NoteOk LowBit n → marks.shown_note d w (spelled_note [] w n) ≡ shown_note d w n
  unfolding marks.shown_note shown_note spelled_note
  note_same w (Deliver m n verb ys) h = ap (λ x. marks.shown_delivery d m.asks x (marks.shown_name d (Spelled n)) verb (marks.shown_all d (spelled_all [] ys))) (msg_same m.message)
      ∙ ap (λ x. marks.shown_delivery d m.asks (shown_msg d m.message) x verb (marks.shown_all d (spelled_all [] ys))) (name_same n h.1)
      ∙ ap (λ x. marks.shown_delivery d m.asks (shown_msg d m.message) (shown_name d n) verb x) (said_all ys h.2)
      ∙ by_asking m.asks (shown_msg d m.message) (shown_name d n) verb (shown_all d ys)
  note_same w (Open i n) h = cc (gift_same w i h.0, name_same n h.1)
  note_same w (Ask p i n) h = cc (name_same n h.1)
  note_same w (SettledTo n y) h = cc (name_same n h.0, said_passed y h.1)
  note_same w (Elsewhere n c) h = cc (name_same n h.0)
  note_same w (Shorten n c i) h = cc (name_same n h.0, gift_same c i h.1)

  -- ---- lines of names that were kept

  keep_same : (n : Name) → marks.shown_name d (Spelled (keep n)) ≡ shown_name d (keep n)
  unfolding kept
  keep_same n = go (is_low n) refl
    where
      go : (b : Bool) → is_low n ≡ b → marks.shown_name d (Spelled (elim b [ true ↦ n | false ↦ Root 0 ])) ≡ shown_name d (elim b [ true ↦ n | false ↦ Root 0 ])
      go true e = name_same n e
      go false e = name_same (Root 0) (root_low 0)

module _ (d : List ℕ) (v : ℕ) where
  value_same : (y : Value Name) → marks.shown_value d v (maps.value Spelled (maps.value keep y)) ≡ shown_value d v (maps.value keep y)
  unfolding marks.shown_value shown_value
  value_same (Ref n) = ap (λ m. shown.Name m) (keep_same d n)
  value_same other = refl

  values_same : (ys : List (Value Name)) → marks.shown_values d v (map (maps.value Spelled) (map (maps.value keep) ys)) ≡ shown_values d v (map (maps.value keep) ys)
  unfolding marks.shown_values shown_values
  values_same [] = refl
  values_same (y ∷ ys) = cc (value_same y, values_same ys)

  capture_same : (b : Bound Name) → marks.shown_capture d v (maps.bound Spelled (maps.bound keep b)) ≡ shown_capture d v (maps.bound keep b)
  unfolding marks.shown_capture shown_capture
  capture_same (Fixed y g) = value_same y
  capture_same (Slot k) = refl

  captures_same : (bs : List (Bound Name)) → map (marks.shown_capture d v) (map (maps.bound Spelled) (map (maps.bound keep) bs)) ≡ map (shown_capture d v) (map (maps.bound keep) bs)
  captures_same [] = refl
  captures_same (b ∷ bs) = cc (capture_same b, captures_same bs)

  send_same : (a : ℕ) (m : Message Name) (o : Option Name) → marks.shown_send d v a (maps.message Spelled (maps.message keep m)) (option_map Spelled (option_map keep o)) ≡ shown_send d v a (maps.message keep m) (option_map keep o)
  unfolding marks.shown_send shown_send
  send_same a m (Some n) = cc (msg_spelled d (keep m.id), value_same m.target, values_same m.args, keep_same d n)
  send_same a m None = cc (msg_spelled d (keep m.id), value_same m.target, values_same m.args)

  reaction_same : (a : ℕ) (x o : Value Name) (m : Message Name) (p : Option Name) → marks.shown_reaction d v a (maps.value Spelled (maps.value keep x)) (maps.value Spelled (maps.value keep o)) (maps.message Spelled (maps.message keep m)) (option_map Spelled (option_map keep p))
      ≡ shown_reaction d v a (maps.value keep x) (maps.value keep o) (maps.message keep m) (option_map keep p)
  unfolding marks.shown_reaction shown_reaction
  reaction_same a x o m (Some n) = cc (msg_spelled d (keep m.id), value_same x, value_same o, keep_same d n)
  reaction_same a x o m None = refl

  line_same : (e : Happened Name) → marks.shown_happened d v (maps.line Spelled (maps.line keep e)) ≡ shown_happened d v (maps.line keep e)
  unfolding marks.shown_happened shown_happened marks.shown_slot shown_slot
  line_same (Took a m) = cc (msg_spelled d (keep m.id), value_same m.target, values_same m.args)
  line_same (Called a x verb args b) = cc (value_same x, values_same args)
  line_same (Back a x) = cc (value_same x)
  line_same (Got a x) = cc (value_same x)
  line_same (SlotMade a k x) = cc (value_same x)
  line_same (SlotRead a k x) = cc (value_same x)
  line_same (SlotWrote a k x) = cc (value_same x)
  line_same (ListMade a k xs) = cc (values_same xs)
  line_same (ListCame k xs) = cc (values_same xs)
  line_same (EjectorMade a n) = cc (keep_same d n)
  line_same (AuditionMade a n) = cc (keep_same d n)
  line_same (PromiseMade a p r) = cc (keep_same d p, keep_same d r)
  line_same (ObjectMade a n x caps stamps) = cc (keep_same d n, captures_same caps, values_same stamps)
  line_same (Sends a m) = cc (send_same a m m.answer)
  line_same (Reacts a x o m) = reaction_same a x o m m.answer
  line_same (Finished a x) = cc (value_same x)
  line_same (Settles n x) = cc (keep_same d n, value_same x)
  line_same (Waits p q) = cc (keep_same d p, keep_same d q)
  line_same (Views p q) = cc (keep_same d p, keep_same d q)
  line_same (Lost m) = cc (msg_spelled d (keep m))
  line_same other = refl

-- ---- events

-- it is shown the same, whatever was drawn
abbrev pub IsSame : Event → Type 0
IsSame e = (d : List ℕ) → marks.shown_event d (spelled_event [] e) ≡ shown_event d e

abbrev pub IsLineSame : ℕ → Happened Name → Type 0
IsLineSame v e = (d : List ℕ) → marks.shown_happened d v (maps.line Spelled e) ≡ shown_happened d v e

kept_lines : (v : ℕ) (es : List (Happened Name)) → AllOf (IsLineSame v) (map (maps.line keep) es)
kept_lines v [] = tt
kept_lines v (e ∷ es) = (λ d. line_same d v e, kept_lines v es)

-- the lines of a state whose names were all kept
pub lines_same : (v : ℕ) (r : Vat Name) → r ≡ maps.vat keep r → AllOf (IsLineSame v) r.happened
lines_same v r e = subst (λ es. AllOf (IsLineSame v) es) (sym (ap (λ (z : Vat Name). z.happened) e)) (kept_lines v r.happened)

pub lost_same : (m : Name) → IsSame (LostCut m)
unfolding marks.shown_event shown_event spelled_event
lost_same m d = cc (msg_same d m)

posted_same : (m : Name) (b : Bool) → AllOf IsSame (elim b [ true ↦ LostCut m ∷ [] | false ↦ [] ])
posted_same m true = (lost_same m, tt)
posted_same m false = tt

event_same : (v : ℕ) (ls : List Link) (e : Happened Name) → IsLineSame v e → AllOf IsSame (event_of ls v e)
unfolding event_of marks.shown_event shown_event spelled_event
event_same v ls (Posted w m) h = posted_same m (is_cut v w ls)
event_same v ls _ h = (h, tt)

pub events_same : (v : ℕ) (ls : List Link) (es : List (Happened Name)) → AllOf (IsLineSame v) es → AllOf IsSame (events_of ls v es)
unfolding events_of
events_same v ls [] h = tt
events_same v ls (e ∷ es) h = all_append IsSame (event_of ls v e) (events_of ls v es) (event_same v ls e h.0) (events_same v ls es h.1)

pub carried_same : (k v u : ℕ) (n : Note Name) (bytes : List ℕ) → NoteOk LowBit n → IsSame (Carried k v u n bytes)
unfolding marks.shown_event shown_event spelled_event
carried_same k v u n bytes h d = cc (note_same d u n h)

pub left_same : (v u : ℕ) (n : Note Name) → NoteOk LowBit n → IsSame (LeftLink v u n)
unfolding marks.shown_event shown_event spelled_event
left_same v u n h d = cc (note_same d u n h)

-- so what they tell is shown the same
pub lines_shown : (d : List ℕ) (es : List Event) → AllOf IsSame es → shown_lines d [] (map Told es) ≡ shown_events d es
unfolding shown_lines shown_line shown_events
lines_shown d [] h = refl
lines_shown d (e ∷ es) h = ap (λ xs. xs ++ shown_lines d [] (map Told es)) (h.0 d) ∙ ap (λ xs. shown_event d e ++ xs) (lines_shown d es h.1)
