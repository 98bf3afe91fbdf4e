-- What fits is shown by events whose lines are read again.
use Rattle.std.proofs.Common.{◌≡◌, ◌+◌, ◌-◌, ◌<◌, ◌^◌, ◌&&◌, ◌||◌, ℕ, pos, zero, suc, Bool as Bools, true, false, cond, eqb, ltb, List, [], ◌∷◌, Option, Some, None, inl, inr, length, map, filter, refl, ◌∙◌, ap, arith}
use Rattle.std.specs.Str.{IsUtf8}
use Rattle.std.proofs.lemmas.Bool.{ltb-true}
use Rattle.std.proofs.lemmas.Bool.Decides.{nat_tests}
use Rattle.ev_base.specs.declared.names.Name.{Name as ShownName}
use Rattle.ev_base.specs.declared.names.Name.TheVariants as name
use Rattle.def_event.specs.declared.shown.Shown.{Shown}
use Rattle.def_event.specs.declared.shown.Shown.TheViews.{roll-Shown}
use Rattle.def_event.specs.declared.shown.Shown.TheBlock.{hidden-the_row-Shown-0}
use denote.Hole.Carrier.{roll, hidden}
use Rattle.def_event.specs.declared.event.Event.{Event as ShownEvent}
use Rattle.def_event.specs.Lines.{is_no_frame, members}
use Rattle.def_machine.specs.Values.{Words, Value, Null, Flag, Number, Prim, Items, Ref, Name}
use Rattle.def_machine.specs.State.{Bound, Fixed, Slot, Message, Passed, Passeds, Plain, AGift, Many, NoMore, More, Note, Deliver, Open, Ask, SettledTo, Elsewhere, Shorten, Happened, Took, Called, Back, Left, Got, SlotMade, SlotRead, SlotWrote, ListMade, ListCame, EjectorMade, AuditionMade, PromiseMade, ObjectMade, Sends, Reacts, Finished, Settles, Waits, Views, Lost, Posted, WhereSome}
use Rattle.def_run.specs.World.{Event, Turned, Carried, CutAt, NoticedAt, Here, LostCut, LeftQueue, LeftHeld, LeftWait, LeftLink, Ends}
use Rattle.def_run.specs.Shown.{shown_gift, shown_name, shown_msg, shown_value, shown_values, shown_slot, shown_capture, shown_passed, shown_all, shown_delivery, shown_note, shown_send, shown_reaction, shown_happened, shown_event}
use Rattle.def_run.specs.Text.{shown_events}
use Rattle.law_text.specs.Text.Feeds.{AllOf}
use Rattle.law_text.specs.Text.Names.{IsNameOf}
use Rattle.law_text.specs.RunTexts.Fitting.{Limits, IsVat, IsLow, IsNoList, NameFits, ValueFits, ValuesFit, BoundFits, MessageFits, PassedFits, PassedsFit, NoteFits, LineFits, is_primitive}
use Rattle.law_text.specs.RunTexts.Worlds.{EventFits}
use Rattle.law_text.proofs.RunTexts.Shown.{bounds, gift_fits, msg_fits, name_fits}
use Rattle.ev_trace_words.specs.Parts.{guarded}
use Rattle.law_trace.specs.Trace.Laws.{IsPrimitive}
use Rattle.law_trace.specs.Trace.Readable.{Below, IsMessage, IsName, IsNote, IsPassed, IsRead, IsValue}
use Rattle.law_read.proofs.ReadTexts.LinesTell.{all_join}

-- ---- primitives

guard_takes_null : (n : ℕ) → ltb n 20 ≡ false → is_primitive n ≡ true → (((ltb 7 (n - 32) && ltb (n - 32) 15) || eqb (n - 32) 16) || eqb (n - 32) 17) ≡ true
guard_takes_null n e h = grind (arith, nat_tests)

above_guards : (n : ℕ) → ltb n 20 ≡ false → is_primitive n ≡ true → 32 + (n - 32) ≡ n
above_guards n e h = grind (arith, nat_tests)

guard_is : (g n : ℕ) → (((ltb 7 g && ltb g 15) || eqb g 16) || eqb g 17) ≡ true → 32 + g ≡ n → guarded g ≡ Some n
guard_is g n t e = ap (λ b. cond {A = Option ℕ} b (Some (32 + g)) None) t ∙ ap Some e

primitive_read : (n : ℕ) → is_primitive n ≡ true → IsPrimitive n
primitive_read n h = by (ltb n 20) refl
  where
    by : (t : Bools) → ltb n 20 ≡ t → IsPrimitive n
    by true e = inl (ltb-true n 20 e)
    by false e = inr (n - 32, guard_is (n - 32) n (guard_takes_null n e h) (above_guards n e h))

-- ---- what is no frame

kept_read : (P : ShownEvent → Type 0) (xs : List ShownEvent) → AllOf (λ x. is_no_frame x ≡ true → P x) xs → AllOf P (filter is_no_frame xs)
kept_read P [] h = tt
kept_read P (x ∷ xs) h = by (is_no_frame x) h.0 (kept_read P xs h.1)
  where
    by : (t : Bools) → (t ≡ true → P x) → AllOf P (filter is_no_frame xs) → AllOf P (cond t (x ∷ filter is_no_frame xs) (filter is_no_frame xs))
    by true f k = (f refl, k)
    by false f k = k

module _ (vats : List (List ℕ)) (d : List ℕ) (few : length d < 2 ^ 64) where
  abbrev L : Limits
  L = bounds vats

  -- ---- names

  is_name : (x : ShownName) → IsNameOf vats x → IsName (Below vats) x
  is_name (name.Object v n) h = h
  is_name other h = h

  name_read : (n : Name) → NameFits L n → IsName (Below vats) (shown_name d n)
  name_read n f = is_name (shown_name d n) (name_fits vats d few n f)

  gift_read : (h i : ℕ) → IsVat L h → IsName (Below vats) (shown_gift d h i)
  gift_read h i f = is_name (shown_gift d h i) (gift_fits vats d few h i f)

  message_read : (n : Name) → NameFits L n → IsMessage (Below vats) (shown_msg d n)
  message_read n f = msg_fits vats d few n f

  -- ---- values

  value_read : (v : ℕ) (y : Value Name) → IsVat L v → ValueFits L y → IsValue (Below vats) (shown_value d v y)
  unfolding shown_value
  value_read v Null i f = tt
  value_read v (Flag b) i f = tt
  value_read v (Number (pos n)) i f = f
  value_read v (Prim n) i f = primitive_read n f
  value_read v (Items k) i f = (i, f)
  value_read v (Ref n) i f = name_read n f
  value_read v other i f = f

  values_read : (v : ℕ) (ys : List (Value Name)) → IsVat L v → ValuesFit L ys → AllOf (IsValue (Below vats)) (shown_values d v ys)
  unfolding shown_values
  values_read v [] i f = tt
  values_read v (y ∷ ys) i f = (value_read v y i f.0, values_read v ys i f.1)

  capture_read : (v : ℕ) (b : Bound Name) → IsVat L v → BoundFits L b → IsValue (Below vats) (shown_capture d v b)
  unfolding shown_capture
  capture_read v (Fixed y g) i f = value_read v y i f.0
  capture_read v (Slot k) i f = (i, f)

  captures_read : (v : ℕ) (bs : List (Bound Name)) → IsVat L v → AllOf (BoundFits L) bs → AllOf (IsValue (Below vats)) (map (shown_capture d v) bs)
  captures_read v [] i f = tt
  captures_read v (b ∷ bs) i f = (capture_read v b i f.0, captures_read v bs i f.1)

  -- ---- notes

  plain_read : (height : ℕ) (y : Value Name) → ValueFits L y → IsNoList y → IsPassed (Below vats) height (shown_value d 0 y)
  unfolding shown_value
  plain_read height Null f g = tt
  plain_read height (Flag b) f g = tt
  plain_read height (Number (pos n)) f g = f
  plain_read height (Prim n) f g = primitive_read n f
  plain_read height (Items k) f g = absurd g
  plain_read height (Ref n) f g = name_read n f
  plain_read height other f g = f

  members_read : (height : ℕ) (xs : List Shown) → AllOf (IsPassed (Below vats) height) xs → IsPassed (Below vats) (suc height) (members xs)
  unfolding roll-Shown roll hidden-the_row-Shown-0 hidden
  members_read height [] h = tt
  members_read height (x ∷ xs) h = (h.0, members_read height xs h.1)

  mutual
    unfolding shown_passed shown_all

    passed_read : (height : ℕ) (y : Passed Name) → PassedFits L height y → IsPassed (Below vats) height (shown_passed d y)
    passed_read height (Plain y) f = plain_read height y f.0 f.1
    passed_read height (AGift h i) f = gift_read h i f
    passed_read zero (Many NoMore) f = absurd f
    passed_read zero (Many (More y ys)) f = absurd f
    passed_read (suc height) (Many ys) f = members_read height (shown_all d ys) (all_read height ys f)

    all_read : (height : ℕ) (ys : Passeds Name) → PassedsFit L (suc height) ys → AllOf (IsPassed (Below vats) height) (shown_all d ys)
    all_read height NoMore f = tt
    all_read height (More y ys) f = (passed_read height y f.0, all_read height ys f.1)

  delivery_read : (b : Bools) (m n : Name) (verb : Words) (ys : Passeds Name) → NameFits L m → NameFits L n → IsUtf8 verb → PassedsFit L 101 ys → IsNote (Below vats) (shown_delivery d b (shown_msg d m) (shown_name d n) verb (shown_all d ys))
  unfolding shown_delivery
  delivery_read true m n verb ys f g u k = (message_read m f, name_read n g, u, all_read 100 ys k)
  delivery_read false m n verb ys f g u k = (message_read m f, name_read n g, u, all_read 100 ys k)

  note_read : (w : ℕ) (n : Note Name) → IsVat L w → NoteFits L n → IsNote (Below vats) (shown_note d w n)
  unfolding shown_note
  note_read w (Deliver m n verb ys) i f = delivery_read m.asks m.message n verb ys f.0 f.1 f.2.0 f.3
  note_read w (Open k n) i f = (gift_read w k i, name_read n f)
  note_read w (Ask p k n) i f = (name_read n f.0, f.1)
  note_read w (SettledTo n y) i f = (name_read n f.0, passed_read 100 y f.1)
  note_read w (Elsewhere n c) i f = (name_read n f.0, f.1)
  note_read w (Shorten n c k) i f = (name_read n f.0, gift_read c k f.1)

  -- ---- lines of a vat

  -- it is read, if it is no frame
  abbrev MayRead : ShownEvent → Type 0
  MayRead x = is_no_frame x ≡ true → IsRead (Below vats) x

  send_read : (v a : ℕ) (m : Message Name) → IsVat L v → IsLow L a → (o : Option Name) → MessageFits L (record m { answer = o }) → MayRead (shown_send d v a m o)
  unfolding shown_send
  send_read v a m i low (Some n) f = λ e. (low, message_read m.id f.0, value_read v m.target i f.1, f.2.0, values_read v m.args i f.3, name_read n f.4)
  send_read v a m i low None f = λ e. (low, message_read m.id f.0, value_read v m.target i f.1, f.2.0, values_read v m.args i f.3)

  reaction_read : (v a : ℕ) (x y : Value Name) (m : Message Name) → IsVat L v → IsLow L a → ValueFits L x → ValueFits L y → NameFits L m.id → (o : Option Name) → WhereSome (NameFits L) o → AllOf MayRead (shown_reaction d v a x y m o)
  unfolding shown_reaction
  reaction_read v a x y m i low f g k (Some n) h = ((λ e. (low, message_read m.id k, value_read v x i f, value_read v y i g, name_read n h)), tt)
  reaction_read v a x y m i low f g k None h = tt

  happened_read : (v : ℕ) (e : Happened Name) → IsVat L v → LineFits L e → AllOf MayRead (shown_happened d v e)
  unfolding shown_happened shown_slot shown_value
  happened_read v (Took a m) i f = ((λ e. (f.0, message_read m.id f.1.0, value_read v m.target i f.1.1, f.1.2.0, values_read v m.args i f.1.3)), tt)
  happened_read v (Called a x verb args None) i f = ((λ e. (f.0, value_read v x i f.1, f.2.0, values_read v args i f.3, tt)), tt)
  happened_read v (Called a x verb args (Some b)) i f = ((λ e. (f.0, value_read v x i f.1, f.2.0, values_read v args i f.3, f.4)), tt)
  happened_read v (Back a x) i f = ((λ e. (f.0, value_read v x i f.1)), tt)
  happened_read v (Left a) i f = ((λ e. f), tt)
  happened_read v (Got a x) i f = ((λ e. (f.0, value_read v x i f.1)), tt)
  happened_read v (SlotMade a k x) i f = ((λ e. (f.0, (i, f.1), value_read v x i f.2)), tt)
  happened_read v (SlotRead a k x) i f = ((λ e. (f.0, (i, f.1), value_read v x i f.2)), tt)
  happened_read v (SlotWrote a k x) i f = ((λ e. (f.0, (i, f.1), value_read v x i f.2)), tt)
  happened_read v (ListMade a k xs) i f = ((λ e. (f.0, (i, f.1), values_read v xs i f.2)), tt)
  happened_read v (ListCame k xs) i f = ((λ e. ((i, f.0), values_read v xs i f.1)), tt)
  happened_read v (EjectorMade a n) i f = ((λ e. (f.0, name_read n f.1)), tt)
  happened_read v (AuditionMade a n) i f = ((λ e. (f.0, name_read n f.1)), tt)
  happened_read v (PromiseMade a p r) i f = ((λ e. (f.0, name_read p f.1, name_read r f.2)), tt)
  happened_read v (ObjectMade a n x caps stamps) i f = ((λ e. (f.0, name_read n f.1, f.2, captures_read v caps i f.3, values_read v stamps i f.4)), tt)
  happened_read v (Sends a m) i f = (send_read v a m i f.0 m.answer f.1, tt)
  happened_read v (Reacts a x o m) i f = reaction_read v a x o m i f.0 f.1 f.2 f.3.0 m.answer f.3.4
  happened_read v (Finished a x) i f = ((λ e. (f.0, value_read v x i f.1)), tt)
  happened_read v (Settles n x) i f = ((λ e. (name_read n f.0, value_read v x i f.1)), tt)
  happened_read v (Waits p q) i f = ((λ e. (name_read p f.0, name_read q f.1)), tt)
  happened_read v (Views p q) i f = ((λ e. (name_read p f.0, name_read q f.1)), tt)
  happened_read v (Lost m) i f = ((λ e. message_read m f), tt)
  happened_read v (Posted u m) i f = tt
  happened_read v other i f = ((λ e. (f.0, f.1)), tt)

  -- ---- events

  event_read : (e : Event) → EventFits L e → AllOf MayRead (shown_event d e)
  unfolding shown_event
  event_read (Turned k v) f = ((λ e. (f.0, f.1)), tt)
  event_read (Carried k v u n bytes) f = ((λ e. (f.0, f.1, f.2, note_read u n f.2 f.3)), ((λ e. absurd cc), tt))
  event_read (CutAt k v u) f = ((λ e. (f.0, f.1, f.2)), tt)
  event_read (NoticedAt k v u) f = ((λ e. (f.0, f.1, f.2)), tt)
  event_read (Here v e) f = happened_read v e f.0 f.1
  event_read (LostCut m) f = ((λ e. message_read m f), tt)
  event_read (LeftQueue v m) f = ((λ e. (f.0, message_read m f.1)), tt)
  event_read (LeftHeld v n m) f = ((λ e. (f.0, name_read n f.1, message_read m f.2)), tt)
  event_read (LeftWait v n m) f = ((λ e. (f.0, name_read n f.1, message_read m f.2)), tt)
  event_read (LeftLink v u n) f = ((λ e. (f.0, f.1, note_read u n f.1 f.2)), tt)
  event_read Ends f = ((λ e. tt), tt)
  event_read other f = ((λ e. f), tt)

  may_read : (es : List Event) → AllOf (EventFits L) es → AllOf MayRead (shown_events d es)
  unfolding shown_events
  may_read [] f = tt
  may_read (e ∷ es) f = all_join MayRead (shown_event d e) (shown_events d es) (event_read e f.0) (may_read es f.1)

  pub events_read : (es : List Event) → AllOf (EventFits L) es → AllOf (IsRead (Below vats)) (filter is_no_frame (shown_events d es))
  events_read es f = kept_read (IsRead (Below vats)) (shown_events d es) (may_read es f)
