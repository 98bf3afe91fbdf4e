-- A name whose word was drawn shows the same by the words drawn so far as by those of any later time; so does what has such names alone.
use Rattle.std.proofs.Common.{◌≡◌, ℕ, zero, suc, Bool, true, false, List, [], ◌∷◌, ◌++◌, Option, Some, None, refl, sym, ap, subst, ◌∙◌, inl, inr, map, option_map, ◌==◌, append_assoc}
use Rattle.std.proofs.lemmas.Bool.{eq-eqb}
use Rattle.def_event.specs.declared.shown.Shown.{Shown}
use Rattle.def_event.specs.declared.shown.Shown as shown
use Rattle.def_event.specs.Lines.{members}
use Rattle.ev_base.specs.declared.names.Name.TheVariants as name
use Rattle.def_machine.specs.Values.{Value, Ref, Name, Root, Gift, Sent, word_of}
use Rattle.def_machine.specs.State.{Bound, Fixed, Slot, Message, Passed, Passeds, Plain, AGift, Many, NoMore, More, Note, Deliver, Open, Ask, SettledTo, Elsewhere, Shorten, Happened, Took, Called, Back, Got, SlotMade, SlotRead, SlotWrote, ListMade, ListCame, EjectorMade, AuditionMade, PromiseMade, ObjectMade, Sends, Reacts, Finished, Settles, Waits, Views, Lost, Posted, Vat, is_in}
use Rattle.def_run.specs.Shown.{place_of, shown_gift, shown_name, shown_msg, shown_value, shown_values, shown_slot, shown_capture, shown_passed, shown_all, shown_delivery, shown_note, shown_send, shown_reaction, shown_happened, shown_event}
use Rattle.def_run.specs.Text.{shown_events}
use Rattle.def_run.specs.World.{Event, LostCut, Link, is_cut, event_of, events_of}
use Rattle.law_fate.specs.Name.Names.{AllOf, IsAmong, WasDrawn, WasMade, IsMade, ValueOk, PassedOk, PassedsOk, NoteOk}
use Rattle.law_fate.proofs.Name.Facts.{all_append}
use Rattle.def_machine.specs.Maps as maps
use Rattle.law_reference.proofs.Reference.Puts.{in_among}
use Rattle.law_frame.proofs.Stopping.Drawn.{is_drawn, kept, keep}

-- ---- names

place_or : (b : Bool) (m n : ℕ) → (b ≡ false → m ≡ n) → ◌≡◌ {A = ℕ} (elim b [ true ↦ zero | false ↦ suc m ]) (elim b [ true ↦ zero | false ↦ suc n ])
place_or true m n f = refl
place_or false m n f = ap suc (f refl)

no_both : (b : Bool) → b ≡ true → b ≡ false → ⊥
no_both b e f = cc

-- the place of a word that was drawn
place_more : (d l : List ℕ) (w : ℕ) → IsAmong w d → place_of (d ++ l) w ≡ place_of d w
unfolding place_of
place_more [] l w h = absurd h
place_more (x ∷ d) l w (inl e) = place_or (x == w) (place_of (d ++ l) w) (place_of d w) (λ f. absurd (no_both (x == w) (eq-eqb x w (sym e)) f))
place_more (x ∷ d) l w (inr a) = place_or (x == w) (place_of (d ++ l) w) (place_of d w) (λ f. place_more d l w a)

gift_more : (d l : List ℕ) (h i : ℕ) → WasDrawn d i → shown_gift (d ++ l) h i ≡ shown_gift d h i
unfolding shown_gift
gift_more d l h i a = ap (λ p. name.Gift h p) (place_more d l (word_of i) a)

pub made_more : (vats : List (Vat Name)) (d l : List ℕ) (n : Name) → WasMade vats d n → shown_name (d ++ l) n ≡ shown_name d n
unfolding shown_name
made_more vats d l (Gift h i) a = gift_more d l h i a
made_more vats d l other a = refl

kept_either : (d l : List ℕ) (h i : ℕ) (b : Bool) → is_in (word_of i) d ≡ b → shown_name (d ++ l) (elim b [ true ↦ Gift h i | false ↦ Root 0 ]) ≡ shown_name d (elim b [ true ↦ Gift h i | false ↦ Root 0 ])
unfolding shown_name
kept_either d l h i true e = gift_more d l h i (in_among (word_of i) d e)
kept_either d l h i false e = refl

keep_more : (d l : List ℕ) (n : Name) → shown_name (d ++ l) (keep d n) ≡ shown_name d (keep d n)
unfolding kept is_drawn
keep_more d l (Gift h i) = kept_either d l h i (is_in (word_of i) d) refl
keep_more d l other = unfold shown_name in refl

msg_more : (d l : List ℕ) (n : Name) → shown_msg (d ++ l) n ≡ shown_msg d n
unfolding shown_msg
msg_more d l (Sent m) = refl
msg_more d l other = refl

-- ---- what a note says

module _ (vats : List (Vat Name)) (d l : List ℕ) where
  said_value : (v : ℕ) (y : Value Name) → ValueOk (IsMade vats d) y → shown_value (d ++ l) v y ≡ shown_value d v y
  unfolding shown_value
  said_value v (Ref n) h = ap (λ m. shown.Name m) (made_more vats d l n h)
  said_value v other h = refl

  mutual
    unfolding shown_passed shown_all

    said_passed : (y : Passed Name) → PassedOk (IsMade vats d) y → shown_passed (d ++ l) y ≡ shown_passed d y
    said_passed (Plain y) h = said_value 0 y h
    said_passed (AGift g i) h = ap (λ m. shown.Name m) (gift_more d l g i h.1)
    said_passed (Many ys) h = ap (λ zs. members zs) (said_all ys h)

    said_all : (ys : Passeds Name) → PassedsOk (IsMade vats d) ys → shown_all (d ++ l) ys ≡ shown_all d ys
    said_all NoMore h = refl
    said_all (More y ys) h = cc (said_passed y h.0, said_all ys h.1)

  pub said_note : (w : ℕ) (n : Note Name) → NoteOk (IsMade vats d) n → shown_note (d ++ l) w n ≡ shown_note d w n
  unfolding shown_note
  said_note w (Deliver m n verb ys) h = ap (λ x. shown_delivery (d ++ l) m.asks x (shown_name (d ++ l) n) verb (shown_all (d ++ l) ys)) (msg_more d l m.message)
      ∙ ap (λ x. shown_delivery (d ++ l) m.asks (shown_msg d m.message) x verb (shown_all (d ++ l) ys)) (made_more vats d l n h.1)
      ∙ ap (λ x. shown_delivery (d ++ l) m.asks (shown_msg d m.message) (shown_name d n) verb x) (said_all ys h.2)
      ∙ by_asking m.asks (shown_msg d m.message) (shown_name d n) verb (shown_all d ys)
    where
      by_asking : (b : Bool) (m : _) (x : _) (verb : List ℕ) (ys : List Shown) → shown_delivery (d ++ l) b m x verb ys ≡ shown_delivery d b m x verb ys
      by_asking true m x verb ys = unfold shown_delivery in refl
      by_asking false m x verb ys = unfold shown_delivery in refl
  said_note w (Open i n) h = cc (gift_more d l w i h.0, made_more vats d l n h.1)
  said_note w (Ask p i n) h = cc (made_more vats d l n h.1)
  said_note w (SettledTo n y) h = cc (made_more vats d l n h.0, said_passed y h.1)
  said_note w (Elsewhere n c) h = cc (made_more vats d l n h.0)
  said_note w (Shorten n c i) h = cc (made_more vats d l n h.0, gift_more d l c i h.1)

-- ---- lines of names that were kept

module _ (d l : List ℕ) (v : ℕ) where
  value_more : (y : Value Name) → shown_value (d ++ l) v (maps.value (keep d) y) ≡ shown_value d v (maps.value (keep d) y)
  unfolding shown_value
  value_more (Ref n) = ap (λ m. shown.Name m) (keep_more d l n)
  value_more other = refl

  values_more : (ys : List (Value Name)) → shown_values (d ++ l) v (map (maps.value (keep d)) ys) ≡ shown_values d v (map (maps.value (keep d)) ys)
  unfolding shown_values
  values_more [] = refl
  values_more (y ∷ ys) = cc (value_more y, values_more ys)

  capture_more : (b : Bound Name) → shown_capture (d ++ l) v (maps.bound (keep d) b) ≡ shown_capture d v (maps.bound (keep d) b)
  unfolding shown_capture
  capture_more (Fixed y g) = value_more y
  capture_more (Slot k) = refl

  captures_more : (bs : List (Bound Name)) → map (shown_capture (d ++ l) v) (map (maps.bound (keep d)) bs) ≡ map (shown_capture d v) (map (maps.bound (keep d)) bs)
  captures_more [] = refl
  captures_more (b ∷ bs) = cc (capture_more b, captures_more bs)

  send_more : (a : ℕ) (m : Message Name) (o : Option Name) → shown_send (d ++ l) v a (maps.message (keep d) m) (option_map (keep d) o) ≡ shown_send d v a (maps.message (keep d) m) (option_map (keep d) o)
  unfolding shown_send
  send_more a m (Some n) = cc (msg_more d l (keep d m.id), value_more m.target, values_more m.args, keep_more d l n)
  send_more a m None = cc (msg_more d l (keep d m.id), value_more m.target, values_more m.args)

  reaction_more : (a : ℕ) (x o : Value Name) (m : Message Name) (p : Option Name) → shown_reaction (d ++ l) v a (maps.value (keep d) x) (maps.value (keep d) o) (maps.message (keep d) m) (option_map (keep d) p)
      ≡ shown_reaction d v a (maps.value (keep d) x) (maps.value (keep d) o) (maps.message (keep d) m) (option_map (keep d) p)
  unfolding shown_reaction
  reaction_more a x o m (Some n) = cc (msg_more d l (keep d m.id), value_more x, value_more o, keep_more d l n)
  reaction_more a x o m None = refl

  line_more : (e : Happened Name) → shown_happened (d ++ l) v (maps.line (keep d) e) ≡ shown_happened d v (maps.line (keep d) e)
  unfolding shown_happened shown_slot
  line_more (Took a m) = cc (msg_more d l (keep d m.id), value_more m.target, values_more m.args)
  line_more (Called a x verb args b) = cc (value_more x, values_more args)
  line_more (Back a x) = cc (value_more x)
  line_more (Got a x) = cc (value_more x)
  line_more (SlotMade a k x) = cc (value_more x)
  line_more (SlotRead a k x) = cc (value_more x)
  line_more (SlotWrote a k x) = cc (value_more x)
  line_more (ListMade a k xs) = cc (values_more xs)
  line_more (ListCame k xs) = cc (values_more xs)
  line_more (EjectorMade a n) = cc (keep_more d l n)
  line_more (AuditionMade a n) = cc (keep_more d l n)
  line_more (PromiseMade a p r) = cc (keep_more d l p, keep_more d l r)
  line_more (ObjectMade a n x caps stamps) = cc (keep_more d l n, captures_more caps, values_more stamps)
  line_more (Sends a m) = cc (send_more a m m.answer)
  line_more (Reacts a x o m) = reaction_more a x o m m.answer
  line_more (Finished a x) = cc (value_more x)
  line_more (Settles n x) = cc (keep_more d l n, value_more x)
  line_more (Waits p q) = cc (keep_more d l p, keep_more d l q)
  line_more (Views p q) = cc (keep_more d l p, keep_more d l q)
  line_more (Lost m) = cc (msg_more d l (keep d m))
  line_more other = refl

-- ---- events

-- it shows the same by the words drawn so far as by any later ones
abbrev pub IsShownBy : List ℕ → Event → Type 0
IsShownBy d e = (l : List ℕ) → shown_event (d ++ l) e ≡ shown_event d e

abbrev pub IsLineShownBy : List ℕ → ℕ → Happened Name → Type 0
IsLineShownBy d v e = (l : List ℕ) → shown_happened (d ++ l) v e ≡ shown_happened d v e

kept_lines : (d : List ℕ) (v : ℕ) (es : List (Happened Name)) → AllOf (IsLineShownBy d v) (map (maps.line (keep d)) es)
kept_lines d v [] = tt
kept_lines d v (e ∷ es) = (λ l. line_more d l v e, kept_lines d v es)

-- the lines of a state whose names were all kept
pub lines_shown : (d : List ℕ) (v : ℕ) (r : Vat Name) → r ≡ maps.vat (keep d) r → AllOf (IsLineShownBy d v) r.happened
lines_shown d v r e = subst (λ es. AllOf (IsLineShownBy d v) es) (sym (ap (λ (z : Vat Name). z.happened) e)) (kept_lines d v r.happened)

pub lost_shown : (d : List ℕ) (m : Name) → IsShownBy d (LostCut m)
unfolding shown_event
lost_shown d m l = cc (msg_more d l m)

posted_shown : (d : List ℕ) (m : Name) (b : Bool) → AllOf (IsShownBy d) (elim b [ true ↦ LostCut m ∷ [] | false ↦ [] ])
posted_shown d m true = (lost_shown d m, tt)
posted_shown d m false = tt

event_shown : (d : List ℕ) (v : ℕ) (ls : List Link) (e : Happened Name) → IsLineShownBy d v e → AllOf (IsShownBy d) (event_of ls v e)
unfolding event_of shown_event
event_shown d v ls (Posted w m) h = posted_shown d m (is_cut v w ls)
event_shown d v ls _ h = (h, tt)

pub events_shown : (d : List ℕ) (v : ℕ) (ls : List Link) (es : List (Happened Name)) → AllOf (IsLineShownBy d v) es → AllOf (IsShownBy d) (events_of ls v es)
unfolding events_of
events_shown d v ls [] h = tt
events_shown d v ls (e ∷ es) h = all_append (IsShownBy d) (event_of ls v e) (events_of ls v es) (event_shown d v ls e h.0) (events_shown d v ls es h.1)

-- and by the words drawn some time later
pub shown_later : (d l : List ℕ) (e : Event) → IsShownBy d e → IsShownBy (d ++ l) e
shown_later d l e h m = ap (λ z. shown_event z e) (append_assoc d l m) ∙ h (l ++ m) ∙ sym (h l)

pub shown_same : (d l : List ℕ) (es : List Event) → AllOf (IsShownBy d) es → shown_events (d ++ l) es ≡ shown_events d es
unfolding shown_events
shown_same d l [] h = refl
shown_same d l (e ∷ es) h = ap (λ xs. xs ++ shown_events (d ++ l) es) (h.0 l) ∙ ap (λ xs. shown_event d e ++ xs) (shown_same d l es h.1)

pub shown_append : (d : List ℕ) (xs ys : List Event) → shown_events d (xs ++ ys) ≡ shown_events d xs ++ shown_events d ys
unfolding shown_events
shown_append d [] ys = refl
shown_append d (x ∷ xs) ys = ap (λ zs. shown_event d x ++ zs) (shown_append d xs ys) ∙ sym (append_assoc (shown_event d x) (shown_events d xs) (shown_events d ys))
