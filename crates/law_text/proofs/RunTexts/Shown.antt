-- What fits is shown by events of which a text tells.
use Rattle.std.proofs.Common.{ℕ, ℤ, pos, negsuc, zero, suc, ◌≤◌, ◌<◌, ◌^◌, Bool as Bools, true, false, List, [], ◌∷◌, ◌++◌, Option, Some, None, ◌==◌, length, map, codes, arith}
use Rattle.std.specs.Str.{IsUtf8}
use Rattle.def_event.specs.declared.shown.Shown.{Shown}
use Rattle.def_event.specs.declared.shown.Shown.TheViews.{roll-Shown}
use Rattle.def_event.specs.declared.shown.Shown.TheBlock.{hidden-the_row-Shown-0}
use denote.Hole.Carrier.{roll, hidden}
use Rattle.def_event.specs.declared.note.ShownNote.{ShownNote}
use Rattle.def_event.specs.Lines.{members}
use Rattle.def_machine.specs.Values.{Words, Value, Number, Items, Ref, Name, Root, Object, Promise, Answer, Gift, Sent, word_of}
use Rattle.def_machine.specs.State.{Bound, Fixed, Slot, Message, Passed, Passeds, Plain, AGift, Many, NoMore, More, Note, Deliver, Open, Ask, SettledTo, Elsewhere, Shorten, Happened, Took, Called, Back, Left, Got, SlotMade, SlotRead, SlotWrote, ListMade, ListCame, EjectorMade, AuditionMade, PromiseMade, ObjectMade, Sends, Reacts, Finished, Settles, Waits, Views, Lost, Posted, WhereSome}
use Rattle.def_run.specs.World.{Event, Opens, Turned, Idle, Carried, Here, LostCut, LeftQueue, LeftHeld, LeftWait, LeftLink, Ends}
use Rattle.def_run.specs.Shown.{msg_of, place_of, shown_gift, shown_name, shown_msg, shown_value, shown_values, shown_slot, shown_capture, shown_passed, shown_all, shown_delivery, shown_note, shown_send, shown_reaction, shown_happened, shown_event}
use Rattle.def_run.specs.Text.{shown_events}
use Rattle.law_text.specs.Text.Feeds.{AllOf}
use Rattle.law_text.specs.Text.Names.{IsMessageOf, IsNameOf}
use Rattle.law_text.specs.Text.Values.{IsValueOf, IsWide}
use Rattle.law_text.specs.Text.Feeds.{NoteFits as ShownFits}
use Rattle.law_text.specs.Text.Parts.{Part, Word, Entry, Vat, IsPartOf, IsRestOf, IsEventOf, note_tells}
use Rattle.law_text.specs.RunTexts.Fitting.{Limits, IsVat, IsLow, NameFits, ValueFits, ValuesFit, BoundFits, MessageFits, PassedFits, PassedsFit, NoteFits, LineFits}
use Rattle.law_text.specs.RunTexts.Worlds.{EventFits}
use Rattle.def_kernel.specs.Trees.{IsInt}
use Rattle.law_text.proofs.RunTexts.Fine.{all_append}
use Rattle.law_text.proofs.RunTexts.Trees.{object_word}

place_or : (b : Bools) (m n : ℕ) → m ≤ n → elim b [ true ↦ zero | false ↦ suc m ] ≤ suc n
place_or true m n l = omega arith
place_or false m n l = omega (arith, l)

place_le : (d : List ℕ) (w : ℕ) → place_of d w ≤ length d
unfolding place_of
place_le [] w = omega arith
place_le (x ∷ d) w = place_or (x == w) (place_of d w) (length d) (place_le d w)

wide : (z : ℤ) → IsInt z → IsWide z
wide (pos n) h = omega (arith, h)
wide (negsuc n) h = omega (arith, h)

abbrev pub bounds : List (List ℕ) → Limits
bounds vats = record { many = length vats; limit = 2 ^ 64; most = omega arith }

module _ (vats : List (List ℕ)) (d : List ℕ) (few : length d < 2 ^ 64) where
  abbrev L : Limits
  L = bounds vats

  low_place : (w : ℕ) → place_of d w < 2 ^ 64
  low_place w = let l = place_le d w in omega (arith, l, few)

  pub name_fits : (n : Name) → NameFits L n → IsNameOf vats (shown_name d n)
  unfolding shown_name shown_gift msg_of
  name_fits (Gift h i) f = (f, low_place (word_of i))
  name_fits (Sent m) f = (f.0, f)
  name_fits other f = f

  pub gift_fits : (h i : ℕ) → IsVat L h → IsNameOf vats (shown_gift d h i)
  unfolding shown_gift
  gift_fits h i f = (f, low_place (word_of i))

  pub some_vat : (n : Name) → NameFits L n → 0 < length vats
  some_vat (Root v) f = omega (arith, f)
  some_vat (Gift h i) f = omega (arith, f)
  some_vat other f = let g = f.0 in omega (arith, g)

  pub msg_fits : (n : Name) → NameFits L n → IsMessageOf vats (shown_msg d n)
  unfolding shown_msg msg_of
  msg_fits (Sent m) f = f
  msg_fits (Root v) f = (some_vat (Root v) f, omega arith)
  msg_fits (Object v i) f = (some_vat (Object v i) f, omega arith)
  msg_fits (Promise v i) f = (some_vat (Promise v i) f, omega arith)
  msg_fits (Answer h m) f = (some_vat (Answer h m) f, omega arith)
  msg_fits (Gift h i) f = (some_vat (Gift h i) f, omega arith)

  value_fits : (v : ℕ) (y : Value Name) → IsVat L v → ValueFits L y → IsValueOf vats (shown_value d v y)
  unfolding shown_value
  value_fits v (Number z) i f = wide z f
  value_fits v (Items k) i f = (i, f)
  value_fits v (Ref n) i f = name_fits n f
  value_fits v other i f = tt

  values_fit : (v : ℕ) (ys : List (Value Name)) → IsVat L v → ValuesFit L ys → AllOf (IsValueOf vats) (shown_values d v ys)
  unfolding shown_values
  values_fit v [] i f = tt
  values_fit v (y ∷ ys) i f = (value_fits v y i f.0, values_fit v ys i f.1)

  capture_fits : (v : ℕ) (b : Bound Name) → IsVat L v → BoundFits L b → IsValueOf vats (shown_capture d v b)
  unfolding shown_capture
  capture_fits v (Fixed y g) i f = value_fits v y i f.0
  capture_fits v (Slot k) i f = (i, f)

  captures_fit : (v : ℕ) (bs : List (Bound Name)) → IsVat L v → AllOf (BoundFits L) bs → AllOf (IsValueOf vats) (map (shown_capture d v) bs)
  captures_fit v [] i f = tt
  captures_fit v (b ∷ bs) i f = (capture_fits v b i f.0, captures_fit v bs i f.1)

  -- ---- notes

  members_fit : (xs : List Shown) → AllOf (IsValueOf vats) xs → IsValueOf vats (members xs)
  unfolding roll-Shown roll hidden-the_row-Shown-0 hidden
  members_fit [] h = tt
  members_fit (x ∷ xs) h = (h.0, members_fit xs h.1)

  mutual
    unfolding shown_passed shown_all

    passed_fits : (height : ℕ) (y : Passed Name) → 0 < length vats → PassedFits L height y → IsValueOf vats (shown_passed d y)
    passed_fits height (Plain y) some f = value_fits 0 y some f.0
    passed_fits height (AGift h i) some f = gift_fits h i f
    passed_fits height (Many ys) some f = members_fit (shown_all d ys) (all_fit height ys some f)

    all_fit : (height : ℕ) (ys : Passeds Name) → 0 < length vats → PassedsFit L height ys → AllOf (IsValueOf vats) (shown_all d ys)
    all_fit height NoMore some f = tt
    all_fit zero (More y ys) some f = absurd f
    all_fit (suc height) (More y ys) some f = (passed_fits height y some f.0, all_fit (suc height) ys some f.1)

  -- ---- lines of a vat

  send_fits : (v a : ℕ) (m : Message Name) → IsVat L v → IsLow L a → (o : Option Name) → MessageFits L (record m { answer = o }) → IsEventOf vats (shown_send d v a m o)
  unfolding shown_send
  send_fits v a m i low (Some n) f = (f.2.0, (low, (tt, (msg_fits m.id f.0, (value_fits v m.target i f.1, (f.2.0, tt))))), (values_fit v m.args i f.3, name_fits n f.4))
  send_fits v a m i low None f = (f.2.0, (low, (tt, (msg_fits m.id f.0, (value_fits v m.target i f.1, (f.2.0, tt))))), values_fit v m.args i f.3)

  reaction_fits : (v a : ℕ) (x y : Value Name) (m : Message Name) → IsVat L v → IsLow L a → ValueFits L x → ValueFits L y → NameFits L m.id → (o : Option Name) → WhereSome (NameFits L) o → AllOf (IsEventOf vats) (shown_reaction d v a x y m o)
  unfolding shown_reaction
  reaction_fits v a x y m i low f g k (Some n) h = ((tt, (low, (tt, (msg_fits m.id k, (value_fits v x i f, (value_fits v y i g, (tt, (name_fits n h, tt))))))), tt), tt)
  reaction_fits v a x y m i low f g k None h = tt

  happened_fits : (v : ℕ) (e : Happened Name) → IsVat L v → LineFits L e → AllOf (IsEventOf vats) (shown_happened d v e)
  unfolding shown_happened shown_slot
  happened_fits v (Took a m) i f = ((f.1.2.0, (f.0, (tt, (msg_fits m.id f.1.0, (value_fits v m.target i f.1.1, (f.1.2.0, tt))))), values_fit v m.args i f.1.3), tt)
  happened_fits v (Called a x verb args b) i f = ((f.2.0, (f.0, (tt, (value_fits v x i f.1, (f.2.0, tt)))), (values_fit v args i f.3, f.4)), tt)
  happened_fits v (Back a x) i f = ((tt, (f.0, (tt, (value_fits v x i f.1, tt))), tt), tt)
  happened_fits v (Left a) i f = ((tt, (f, (tt, tt)), tt), tt)
  happened_fits v (Got a x) i f = ((tt, (f.0, (tt, (value_fits v x i f.1, tt))), tt), tt)
  happened_fits v (SlotMade a k x) i f = ((tt, (f.0, (tt, ((i, f.1), (value_fits v x i f.2, tt)))), tt), tt)
  happened_fits v (SlotRead a k x) i f = ((tt, (f.0, (tt, ((i, f.1), (value_fits v x i f.2, tt)))), tt), tt)
  happened_fits v (SlotWrote a k x) i f = ((tt, (f.0, (tt, ((i, f.1), (value_fits v x i f.2, tt)))), tt), tt)
  happened_fits v (ListMade a k xs) i f = ((tt, (f.0, (tt, ((i, f.1), tt))), values_fit v xs i f.2), tt)
  happened_fits v (ListCame k xs) i f = ((tt, (tt, ((i, f.0), tt)), values_fit v xs i f.1), tt)
  happened_fits v (EjectorMade a n) i f = ((tt, (f.0, (tt, (name_fits n f.1, tt))), tt), tt)
  happened_fits v (AuditionMade a n) i f = ((tt, (f.0, (tt, (name_fits n f.1, tt))), tt), tt)
  happened_fits v (PromiseMade a p r) i f = ((tt, (f.0, (tt, (name_fits p f.1, (name_fits r f.2, tt)))), tt), tt)
  happened_fits v (ObjectMade a n x caps stamps) i f = ((object_word x f.2, (f.0, (tt, (name_fits n f.1, (tt, tt)))), (captures_fit v caps i f.3, values_fit v stamps i f.4)), tt)
  happened_fits v (Sends a m) i f = (send_fits v a m i f.0 m.answer f.1, tt)
  happened_fits v (Reacts a x o m) i f = reaction_fits v a x o m i f.0 f.1 f.2 f.3.0 m.answer f.3.4
  happened_fits v (Finished a x) i f = ((tt, (f.0, (tt, (value_fits v x i f.1, tt))), tt), tt)
  happened_fits v (Settles n x) i f = ((tt, (tt, (name_fits n f.0, (value_fits v x i f.1, tt))), tt), tt)
  happened_fits v (Waits p q) i f = ((tt, (tt, (name_fits p f.0, (name_fits q f.1, tt))), tt), tt)
  happened_fits v (Views p q) i f = ((tt, (tt, (name_fits p f.0, (name_fits q f.1, tt))), tt), tt)
  happened_fits v (Lost m) i f = ((tt, (tt, (msg_fits m f, (tt, tt))), tt), tt)
  happened_fits v (Posted u m) i f = tt
  happened_fits v other i f = ((tt, (f.0, (tt, (tt, tt))), tt), tt)

  -- ---- notes, behind the words before them

  joined : (front rest : List Part) → AllOf (IsPartOf vats) front → AllOf (IsPartOf vats) rest → AllOf (IsPartOf vats) (front ++ rest)
  joined front rest h k = all_append (IsPartOf vats) front rest h k

  -- what a note tells is of these vats, and its verb is a text
  abbrev NoteIsOf : List Part → ShownNote → Type 0
  NoteIsOf front note = ShownFits note × AllOf (IsPartOf vats) (note_tells front note).parts × IsRestOf vats (note_tells front note).rest

  delivery_fits : (front : List Part) (b : Bools) (m n : Name) (verb : Words) (ys : Passeds Name) → AllOf (IsPartOf vats) front → NameFits L m → NameFits L n → IsUtf8 verb → PassedsFit L 101 ys
      → NoteIsOf front (shown_delivery d b (shown_msg d m) (shown_name d n) verb (shown_all d ys))
  unfolding shown_delivery
  delivery_fits front true m n verb ys h f g u k = (u, joined front _ h (tt, (msg_fits m f, (name_fits n g, (u, tt)))), all_fit 101 ys (some_vat m f) k)
  delivery_fits front false m n verb ys h f g u k = (u, joined front _ h (tt, (msg_fits m f, (name_fits n g, (u, tt)))), all_fit 101 ys (some_vat m f) k)

  note_fits : (front : List Part) (u : ℕ) (n : Note Name) → AllOf (IsPartOf vats) front → IsVat L u → NoteFits L n → NoteIsOf front (shown_note d u n)
  unfolding shown_note
  note_fits front u (Deliver m n verb ys) h i f = delivery_fits front m.asks m.message n verb ys h f.0 f.1 f.2.0 f.3
  note_fits front u (Open k n) h i f = (tt, joined front _ h (tt, (gift_fits u k i, (name_fits n f, tt))), tt)
  note_fits front u (Ask p k n) h i f = (tt, joined front _ h (tt, (name_fits n f.0, (f.1, tt))), tt)
  note_fits front u (SettledTo n y) h i f = (tt, joined front _ h (tt, (name_fits n f.0, (passed_fits 100 y (some_vat n f.0) f.1, tt))), tt)
  note_fits front u (Elsewhere n c) h i f = (tt, joined front _ h (tt, (name_fits n f.0, (f.1, tt))), tt)
  note_fits front u (Shorten n c k) h i f = (tt, joined front _ h (tt, (name_fits n f.0, (gift_fits c k f.1, tt))), tt)

  -- ---- events

  event_fits : (e : Event) → EventFits L e → AllOf (IsEventOf vats) (shown_event d e)
  unfolding shown_event
  event_fits (Opens v) f = ((tt, (tt, (f, tt)), tt), tt)
  event_fits (Turned k v) f = ((tt, (f.0, (tt, (f.1, tt))), tt), tt)
  event_fits (Idle k) f = ((tt, (f, (tt, tt)), tt), tt)
  event_fits (Carried k v u n bytes) f =
      let note = note_fits (Entry k ∷ Word (codes "carry") ∷ Vat v ∷ Vat u ∷ []) u n (f.0, (tt, (f.1, (f.2, tt)))) f.2 f.3 in
      ((note.0, note.1, note.2), ((tt, (tt, (tt, tt)), tt), tt))
  event_fits (Here v e) f = happened_fits v e f.0 f.1
  event_fits (LostCut m) f = ((tt, (tt, (msg_fits m f, (tt, tt))), tt), tt)
  event_fits (LeftQueue v m) f = ((tt, (tt, (tt, (f.0, (msg_fits m f.1, tt)))), tt), tt)
  event_fits (LeftHeld v n m) f = ((tt, (tt, (tt, (f.0, (name_fits n f.1, (msg_fits m f.2, tt))))), tt), tt)
  event_fits (LeftWait v n m) f = ((tt, (tt, (tt, (f.0, (name_fits n f.1, (msg_fits m f.2, tt))))), tt), tt)
  event_fits (LeftLink v u n) f = let note = note_fits (Word (codes "left") ∷ Word (codes "link") ∷ Vat v ∷ Vat u ∷ []) u n (tt, (tt, (f.0, (f.1, tt)))) f.1 f.2 in ((note.0, note.1, note.2), tt)
  event_fits Ends f = ((tt, (tt, tt), tt), tt)
  event_fits other f = ((tt, (f.0, (tt, (f.1, (f.2, tt)))), tt), tt)

  pub events_fit : (es : List Event) → AllOf (EventFits L) es → AllOf (IsEventOf vats) (shown_events d es)
  unfolding shown_events
  events_fit [] f = tt
  events_fit (e ∷ es) f = all_append (IsEventOf vats) (shown_event d e) (shown_events d es) (event_fits e f.0) (events_fit es f.1)
