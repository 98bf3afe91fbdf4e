-- What the lines of a text tell of messages, and which lines of the history tell it.
use Rattle.std.proofs.Common.{◌≡◌, ℕ, zero, suc, Bool, true, false, List, [], ◌∷◌, Option, Some, None, refl, sym, ap, ◌∙◌}
use Rattle.std.specs.Prelude.{slice_get}
use Rattle.ev_base.specs.declared.names.Name.{Name as ShownName}
use Rattle.def_event.specs.declared.shown.Shown.{Shown, Name as Named}
use Rattle.def_event.specs.declared.event.Event.{Event as ShownEvent}
use Rattle.def_event.specs.declared.event.Event.TheVariants.{Frame}
use Rattle.def_event.specs.declared.shown.Shown.TheViews.{roll-Shown}
use Rattle.def_event.specs.declared.shown.Shown.TheBlock.{hidden-the_row-Shown-0}
use denote.Hole.Carrier.{roll, hidden}
use Rattle.def_event.specs.Lines.{members}
use Rattle.def_machine.specs.Values.{Words, Value, Ref, Name, Gift}
use Rattle.def_machine.specs.State.{Message, Passed, Passeds, Plain, AGift, Many, NoMore, More, Note, Delivery, Deliver, Happened, Took, Sends, Reacts}
use Rattle.def_run.specs.World.{Event, Here, Carried}
use Rattle.def_run.specs.Shown.{shown_name, shown_gift, shown_msg, shown_value, shown_values, shown_passed, shown_all, shown_delivery, shown_note, shown_event, shown_happened, shown_send, shown_reaction}
use Rattle.def_event.specs.Order.{Sending, Carrying, Taking, sending, note_carrying, carrying, taking, is_object}
use Rattle.def_event.specs.Uses.{name_of}
use Rattle.law_order.specs.Ordering.Order as order
use Rattle.law_order.specs.Ordering.Order.{passes}
use Rattle.law_trace.specs.Shown.Shown.{passed_at}
use Rattle.law_trace.proofs.Shown.Placing.{IsFrame, Shows}

some_is : {A : Type 0} (x y : A) → Some x ≡ Some y → x ≡ y
some_is x y e = cc

-- a frame does nothing with a message
does_nothing : (f : ShownEvent) → IsFrame f → (sending f ≡ None) × (carrying f ≡ None) × (taking f ≡ None)
does_nothing (Frame bytes) h = (refl, refl, refl)
does_nothing other h = absurd h

none_some : {A : Type 0} {B : Type 0} (o : Option A) (x : A) → o ≡ None → o ≡ Some x → B
none_some o x e f = absurd (differ (sym e ∙ f))
  where
    differ : None ≡ Some x → ⊥
    differ q = cc

pub sends_plain : (f : ShownEvent) (s : Sending) → sending f ≡ Some s → IsFrame f → ⊥
sends_plain f s q h = let n = does_nothing f h in none_some (sending f) s n.0 q

pub carries_plain : (f : ShownEvent) (c : Carrying) → carrying f ≡ Some c → IsFrame f → ⊥
carries_plain f c q h = let n = does_nothing f h in none_some (carrying f) c n.1 q

pub takes_plain : (f : ShownEvent) (t : Taking) → taking f ≡ Some t → IsFrame f → ⊥
takes_plain f t q h = let n = does_nothing f h in none_some (taking f) t n.2 q

-- what the first of these lines does
abbrev first_does : {A : Type 0} → (ShownEvent → Option A) → List ShownEvent → Option A
first_does does [] = None
first_does does (f ∷ fs) = does f

module _ (draws : List ℕ) where
  abbrev shown_sending : ℕ → Message Name → Sending
  shown_sending v m = record { message = shown_msg draws m.id; target = shown_value draws v m.target; args = shown_values draws v m.args }

  abbrev shown_carrying : ℕ → ℕ → Delivery Name → Passeds Name → Carrying
  shown_carrying u v d ys = record { message = shown_msg draws d.message; leaves = u; reaches = v; args = shown_all draws ys }

  abbrev shown_taking : ℕ → Message Name → Taking
  shown_taking v m = record { message = shown_msg draws m.id; by_object = is_object (shown_value draws v m.target) }

  pub record SentLine (e : Event) (s : Sending) : Type 0 where
    pub vat : ℕ
    pub act : ℕ
    pub sent : Message Name
    pub line : e ≡ Here vat (Sends act sent)
    pub is : s ≡ shown_sending vat sent

  pub record CarriedLine (e : Event) (c : Carrying) : Type 0 where
    pub entry : ℕ
    pub from : ℕ
    pub to : ℕ
    pub carried : Delivery Name
    pub aim : Name
    pub verb : Words
    pub args : Passeds Name
    pub bytes : List ℕ
    pub line : e ≡ Carried entry from to (Deliver carried aim verb args) bytes
    pub is : c ≡ shown_carrying from to carried args

  pub record TookLine (e : Event) (t : Taking) : Type 0 where
    pub vat : ℕ
    pub act : ℕ
    pub took : Message Name
    pub line : e ≡ Here vat (Took act took)
    pub is : t ≡ shown_taking vat took

  -- ---- sends

  send_is : (v a : ℕ) (m : Message Name) (o : Option Name) (s : Sending) → sending (shown_send draws v a m o) ≡ Some s → SentLine (Here v (Sends a m)) s
  unfolding shown_send
  send_is v a m (Some n) s q = record { vat = v; act = a; sent = m; line = refl; is = sym (some_is (shown_sending v m) s q) }
  send_is v a m None s q = record { vat = v; act = a; sent = m; line = refl; is = sym (some_is (shown_sending v m) s q) }

  no_reaction : (v a : ℕ) (x y : Value Name) (m : Message Name) (o : Option Name) → (first_does sending (shown_reaction draws v a x y m o) ≡ None) × (first_does carrying (shown_reaction draws v a x y m o) ≡ None) × (first_does taking (shown_reaction draws v a x y m o) ≡ None)
  unfolding shown_reaction
  no_reaction v a x y m (Some n) = (refl, refl, refl)
  no_reaction v a x y m None = (refl, refl, refl)

  no_send : (v a : ℕ) (m : Message Name) (o : Option Name) → (carrying (shown_send draws v a m o) ≡ None) × (taking (shown_send draws v a m o) ≡ None)
  unfolding shown_send
  no_send v a m (Some n) = (refl, refl)
  no_send v a m None = (refl, refl)

  happened_sends : (v : ℕ) (e : Happened Name) (s : Sending) → first_does sending (shown_happened draws v e) ≡ Some s → SentLine (Here v e) s
  unfolding shown_happened
  happened_sends v (Sends a m) s q = send_is v a m m.answer s q
  happened_sends v (Reacts a x o m) s q = none_some _ s (no_reaction v a x o m m.answer).0 q
  happened_sends v other s q = none_some None s refl q

  event_sends : (e : Event) (s : Sending) → first_does sending (shown_event draws e) ≡ Some s → SentLine e s
  unfolding shown_event
  event_sends (Here v e) s q = happened_sends v e s q
  event_sends other s q = none_some None s refl q

  pub sends_line : (e : Event) (f : ShownEvent) (s : Sending) → Shows draws e f → sending f ≡ Some s → SentLine e s
  sends_line e f s h q = event_sends e s (ap (first_does sending) h.first ∙ q)

  -- ---- carries

  delivery_is : (k u v : ℕ) (d : Delivery Name) (z : Name) (verb : Words) (ys : Passeds Name) (bytes : List ℕ) (b : Bool) (c : Carrying)
      → note_carrying u v (shown_delivery draws b (shown_msg draws d.message) (shown_name draws z) verb (shown_all draws ys)) ≡ Some c → CarriedLine (Carried k u v (Deliver d z verb ys) bytes) c
  unfolding shown_delivery
  delivery_is k u v d z verb ys bytes true c q = record { entry = k; from = u; to = v; carried = d; aim = z; verb = verb; args = ys; bytes = bytes; line = refl; is = sym (some_is (shown_carrying u v d ys) c q) }
  delivery_is k u v d z verb ys bytes false c q = record { entry = k; from = u; to = v; carried = d; aim = z; verb = verb; args = ys; bytes = bytes; line = refl; is = sym (some_is (shown_carrying u v d ys) c q) }

  note_carries : (k u v : ℕ) (n : Note Name) (bytes : List ℕ) (c : Carrying) → note_carrying u v (shown_note draws v n) ≡ Some c → CarriedLine (Carried k u v n bytes) c
  unfolding shown_note
  note_carries k u v (Deliver d z verb ys) bytes c q = delivery_is k u v d z verb ys bytes d.asks c q
  note_carries k u v other bytes c q = none_some None c refl q

  happened_carries : (v : ℕ) (e : Happened Name) (c : Carrying) → first_does carrying (shown_happened draws v e) ≡ Some c → CarriedLine (Here v e) c
  unfolding shown_happened
  happened_carries v (Sends a m) c q = none_some _ c (no_send v a m m.answer).0 q
  happened_carries v (Reacts a x o m) c q = none_some _ c (no_reaction v a x o m m.answer).1 q
  happened_carries v other c q = none_some None c refl q

  event_carries : (e : Event) (c : Carrying) → first_does carrying (shown_event draws e) ≡ Some c → CarriedLine e c
  unfolding shown_event
  event_carries (Here v e) c q = happened_carries v e c q
  event_carries (Carried k u v n bytes) c q = note_carries k u v n bytes c q
  event_carries other c q = none_some None c refl q

  pub carries_line : (e : Event) (f : ShownEvent) (c : Carrying) → Shows draws e f → carrying f ≡ Some c → CarriedLine e c
  carries_line e f c h q = event_carries e c (ap (first_does carrying) h.first ∙ q)

  -- ---- takes

  happened_takes : (v : ℕ) (e : Happened Name) (t : Taking) → first_does taking (shown_happened draws v e) ≡ Some t → TookLine (Here v e) t
  unfolding shown_happened
  happened_takes v (Took a m) t q = record { vat = v; act = a; took = m; line = refl; is = sym (some_is (shown_taking v m) t q) }
  happened_takes v (Sends a m) t q = none_some _ t (no_send v a m m.answer).1 q
  happened_takes v (Reacts a x o m) t q = none_some _ t (no_reaction v a x o m m.answer).2 q
  happened_takes v other t q = none_some None t refl q

  event_takes : (e : Event) (t : Taking) → first_does taking (shown_event draws e) ≡ Some t → TookLine e t
  unfolding shown_event
  event_takes (Here v e) t q = happened_takes v e t q
  event_takes other t q = none_some None t refl q

  pub takes_line : (e : Event) (f : ShownEvent) (t : Taking) → Shows draws e f → taking f ≡ Some t → TookLine e t
  takes_line e f t h q = event_takes e t (ap (first_does taking) h.first ∙ q)

  -- ---- the other way

  send_shows : (v a : ℕ) (m : Message Name) (o : Option Name) → sending (shown_send draws v a m o) ≡ Some (shown_sending v m)
  unfolding shown_send
  send_shows v a m (Some n) = refl
  send_shows v a m None = refl

  pub sent_shows : (v a : ℕ) (m : Message Name) → (f : ShownEvent) × Shows draws (Here v (Sends a m)) f × (sending f ≡ Some (shown_sending v m))
  unfolding shown_event shown_happened
  sent_shows v a m = (shown_send draws v a m m.answer, record { rest = []; first = refl }, send_shows v a m m.answer)

  delivery_shows : (u v : ℕ) (d : Delivery Name) (z : Name) (verb : Words) (ys : Passeds Name) (b : Bool)
      → note_carrying u v (shown_delivery draws b (shown_msg draws d.message) (shown_name draws z) verb (shown_all draws ys)) ≡ Some (shown_carrying u v d ys)
  unfolding shown_delivery
  delivery_shows u v d z verb ys true = refl
  delivery_shows u v d z verb ys false = refl

  pub carried_shows : (k u v : ℕ) (d : Delivery Name) (z : Name) (verb : Words) (ys : Passeds Name) (bytes : List ℕ) → (f : ShownEvent) × Shows draws (Carried k u v (Deliver d z verb ys) bytes) f × (carrying f ≡ Some (shown_carrying u v d ys))
  unfolding shown_event shown_note
  carried_shows k u v d z verb ys bytes = (_, record { rest = Frame bytes ∷ []; first = refl }, delivery_shows u v d z verb ys d.asks)

  pub took_shows : (v a : ℕ) (m : Message Name) → (f : ShownEvent) × Shows draws (Here v (Took a m)) f × (taking f ≡ Some (shown_taking v m))
  unfolding shown_event shown_happened
  took_shows v a m = (_, record { rest = []; first = refl }, refl)

  -- ---- names

  pub named_value : (v : ℕ) (x : Value Name) (n : ShownName) → shown_value draws v x ≡ Named n → (m : Name) × (x ≡ Ref m) × (shown_name draws m ≡ n)
  unfolding shown_value
  named_value v (Ref m) n e = let i : shown_name draws m ≡ n = cc in (m, refl, i)
  named_value v other n e = absurd (cc)

  pub named_argument : (v : ℕ) (xs : List (Value Name)) (place : ℕ) (n : ShownName) → slice_get (shown_values draws v xs) place ≡ Some (Named n) → (m : Name) × (slice_get xs place ≡ Some (Ref m)) × (shown_name draws m ≡ n)
  unfolding shown_values
  named_argument v [] place n e = absurd (cc)
  named_argument v (x ∷ xs) zero n e = let r = named_value v x n (some_is (shown_value draws v x) (Named n) e) in (r.0, ap Some r.1, r.2)
  named_argument v (x ∷ xs) (suc place) n e = named_argument v xs place n e

  no_name : (xs : List Shown) → name_of (members xs) ≡ None
  unfolding name_of roll-Shown roll hidden-the_row-Shown-0 hidden
  no_name xs = refl

  is_name : (n : ShownName) → name_of (Named n) ≡ Some n
  unfolding name_of
  is_name n = refl

  passed_name : (y : Value Name) (m : Name) → y ≡ Ref m → passes (Plain y) ≡ m ∷ []
  unfolding passes
  passed_name y m e = ap (λ z. passes (Plain z)) e

  pub named_passed : (y : Passed Name) (n : ShownName) → shown_passed draws y ≡ Named n → (m : Name) × (passes y ≡ m ∷ []) × (shown_name draws m ≡ n)
  unfolding shown_passed passes shown_name
  named_passed (Plain y) n e = let r = named_value 0 y n e in (r.0, passed_name y r.0 r.1, r.2)
  named_passed (AGift h i) n e = let j : shown_gift draws h i ≡ n = cc in (Gift h i, refl, j)
  named_passed (Many ys) n e = none_some (name_of (members (shown_all draws ys))) n (no_name (shown_all draws ys)) (ap name_of e ∙ is_name n)

  pub named_in_note : (ys : Passeds Name) (place : ℕ) (n : ShownName) → slice_get (shown_all draws ys) place ≡ Some (Named n) → (y : Passed Name) × (m : Name) × (passed_at ys place ≡ Some y) × (passes y ≡ m ∷ []) × (shown_name draws m ≡ n)
  unfolding shown_all passed_at
  named_in_note NoMore place n e = absurd (cc)
  named_in_note (More y ys) zero n e = let r = named_passed y n (some_is (shown_passed draws y) (Named n) e) in (y, r.0, refl, r.1, r.2)
  named_in_note (More y ys) (suc place) n e = named_in_note ys place n e

  -- what prints as an object is a name
  pub object_named : (v : ℕ) (x : Value Name) → is_object (shown_value draws v x) ≡ true → order.is_object x ≡ true
  unfolding shown_value order.is_object
  object_named v (Ref m) e = refl
  object_named v other e = absurd (cc)
