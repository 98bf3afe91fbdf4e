-- Which line of a history each line of its text shows.
use Rattle.std.proofs.Common.{◌≡◌, ◌+◌, ◌<◌, ◌≤◌, ℕ, zero, suc, List, [], ◌∷◌, ◌++◌, Option, Some, None, length, take, refl, sym, ap, ◌∙◌, subst, ◌⊎◌, inl, inr, arith, length-append}
use Rattle.std.specs.Prelude.{slice_get}
use Rattle.std.proofs.Math.Seq.{take-append-add}
use Rattle.def_event.specs.declared.event.Event.{Event as ShownEvent}
use Rattle.def_event.specs.declared.event.Event.TheVariants.{Carry, Frame}
use Rattle.def_machine.specs.Values.{Value, Name}
use Rattle.def_machine.specs.State.{Message, Happened, Reacts}
use Rattle.def_run.specs.World.{Event, Here, Carried}
use Rattle.def_run.specs.Shown.{shown_event, shown_happened, shown_note, shown_reaction}
use Rattle.def_run.specs.Text.{shown_events}

abbrev pub IsFrame : ShownEvent → Type 0
IsFrame (Frame bytes) = Unit {0}
IsFrame _ = ⊥

-- a line of these two lists
get_split : {A : Type 0} (xs ys : List A) (j : ℕ) (f : A) → slice_get (xs ++ ys) j ≡ Some f → (slice_get xs j ≡ Some f) ⊎ ((k : ℕ) × (j ≡ length xs + k) × (slice_get ys k ≡ Some f))
get_split [] ys j f q = inr (j, omega arith, q)
get_split (x ∷ xs) ys zero f q = inl q
get_split (x ∷ xs) ys (suc j) f q = elim (get_split xs ys j f q) [
  | inl p ↦ inl p
  | inr p ↦ let e = p.1 in inr (p.0, omega arith, p.2)
]

get_right : {A : Type 0} (xs ys : List A) (k : ℕ) (f : A) → slice_get ys k ≡ Some f → slice_get (xs ++ ys) (length xs + k) ≡ Some f
get_right [] ys k f q = let e : zero + k ≡ k = omega arith in subst (λ n. slice_get ys n ≡ Some f) (sym e) q
get_right (x ∷ xs) ys k f q = let e : suc (length xs) + k ≡ suc (length xs + k) = omega arith in subst (λ n. slice_get (x ∷ (xs ++ ys)) n ≡ Some f) (sym e) (get_right xs ys k f q)

some_is : {A : Type 0} (x y : A) → Some x ≡ Some y → x ≡ y
some_is x y e = cc

-- the first line, and those behind it
get_first : {A : Type 0} (xs : List A) (f : A) → slice_get xs zero ≡ Some f → (rest : List A) × (xs ≡ f ∷ rest)
get_first [] f q = cc
get_first (x ∷ xs) f q = (xs, ap (λ z. z ∷ xs) (some_is x f q))

module _ (draws : List ℕ) where
  -- ---- the lines of one event: behind the first there is a frame at most

  reaction_once : (v a : ℕ) (m : Message Name) (x y : Value Name) (o : Option Name) (j : ℕ) (f : ShownEvent) → slice_get (shown_reaction draws v a x y m o) (suc j) ≡ Some f → IsFrame f
  unfolding shown_reaction
  reaction_once v a m x y (Some n) j f q = cc
  reaction_once v a m x y None j f q = cc

  happened_once : (v : ℕ) (e : Happened Name) (j : ℕ) (f : ShownEvent) → slice_get (shown_happened draws v e) (suc j) ≡ Some f → IsFrame f
  unfolding shown_happened
  happened_once v (Reacts a x o m) j f q = reaction_once v a m x o m.answer j f q
  happened_once v other j f q = cc

  carried_frame : (x : ShownEvent) (bytes : List ℕ) (j : ℕ) (f : ShownEvent) → slice_get (x ∷ Frame bytes ∷ []) (suc j) ≡ Some f → IsFrame f
  carried_frame x bytes zero f q = subst IsFrame (some_is (Frame bytes) f q) tt
  carried_frame x bytes (suc j) f q = cc

  event_once : (e : Event) (j : ℕ) (f : ShownEvent) → slice_get (shown_event draws e) (suc j) ≡ Some f → IsFrame f
  unfolding shown_event
  event_once (Here v e) j f q = happened_once v e j f q
  event_once (Carried k u v n bytes) j f q = carried_frame (Carry k u v (shown_note draws v n)) bytes j f q
  event_once other j f q = cc

  -- ---- where the lines of each event begin

  pub start : List Event → ℕ → ℕ
  start es n = length (shown_events draws (take n es))

  start_first : (e : Event) (es : List Event) (n : ℕ) → start (e ∷ es) (suc n) ≡ length (shown_event draws e) + start es n
  unfolding start shown_events
  start_first e es n = length-append (shown_event draws e) (shown_events draws (take n es))

  pub take_start : (es : List Event) (n : ℕ) → take (start es n) (shown_events draws es) ≡ shown_events draws (take n es)
  unfolding start shown_events
  take_start es zero = refl
  take_start [] (suc n) = refl
  take_start (e ∷ es) (suc n) =
      ap (λ k. take k (shown_event draws e ++ shown_events draws es)) (length-append (shown_event draws e) (shown_events draws (take n es)))
      ∙ take-append-add (shown_event draws e) (shown_events draws es) (length (shown_events draws (take n es)))
      ∙ ap (λ r. shown_event draws e ++ r) (take_start es n)

  pub start_later : (es : List Event) (m n : ℕ) → m ≤ n → start es m ≤ start es n
  unfolding start shown_events
  start_later es zero n l = omega arith
  start_later [] (suc m) (suc n) l = omega arith
  start_later (e ∷ es) (suc m) (suc n) l =
      let less : m ≤ n = omega arith in
      let rest : start es m ≤ start es n = start_later es m n less in
      let a = start_first e es m in
      let b = start_first e es n in
      omega (arith, a, b, rest)
  start_later es (suc m) zero l = absurd (omega arith)

  -- That event has this line as its first.
  pub record Shows (e : Event) (f : ShownEvent) : Type 0 where
    pub rest : List ShownEvent
    pub first : shown_event draws e ≡ f ∷ rest

  pub there_at : (es : List Event) (n : ℕ) (e : Event) (f : ShownEvent) → slice_get es n ≡ Some e → Shows e f → slice_get (shown_events draws es) (start es n) ≡ Some f
  unfolding start shown_events
  there_at [] n e f q s = cc
  there_at (x ∷ es) zero e f q s = subst (λ fs. slice_get (fs ++ shown_events draws es) zero ≡ Some f) (sym (ap (shown_event draws) (some_is x e q) ∙ s.first)) refl
  there_at (x ∷ es) (suc n) e f q s = subst (λ k. slice_get (shown_event draws x ++ shown_events draws es) k ≡ Some f) (sym (start_first x es n)) (get_right (shown_event draws x) (shown_events draws es) (start es n) f (there_at es n e f q s))

  pub start_further : (es : List Event) (m n : ℕ) (e : Event) (f : ShownEvent) → slice_get es m ≡ Some e → Shows e f → m < n → start es m < start es n
  unfolding start shown_events
  start_further [] m n e f q s l = cc
  start_further es m zero e f q s l = absurd (omega arith)
  start_further (x ∷ es) zero (suc n) e f q s l =
      let a = start_first x es n in
      let b : length (shown_event draws x) ≡ suc (length s.rest) = ap length (ap (shown_event draws) (some_is x e q) ∙ s.first) in
      omega (arith, a, b)
  start_further (x ∷ es) (suc m) (suc n) e f q s l =
      let less : m < n = omega arith in
      let rest : start es m < start es n = start_further es m n e f q s less in
      let a = start_first x es m in
      let b = start_first x es n in
      omega (arith, a, b, rest)

  -- Line j of the text, which shows no frame, is the first of an event.
  pub record Stands (es : List Event) (j : ℕ) (f : ShownEvent) : Type 0 where
    pub at : ℕ
    pub event : Event
    pub there : slice_get es at ≡ Some event
    pub shows : Shows event f
    pub line : j ≡ start es at

  pub stands : (es : List Event) (j : ℕ) (f : ShownEvent) → slice_get (shown_events draws es) j ≡ Some f → (IsFrame f → ⊥) → Stands es j f
  unfolding start shown_events
  stands [] j f q plain = cc
  stands (e ∷ es) j f q plain = elim (get_split (shown_event draws e) (shown_events draws es) j f q) [
    | inl p ↦ here j p
    | inr p ↦ later p.0 p.1 (stands es p.0 f p.2 plain)
  ]
    where
      here : (j : ℕ) → slice_get (shown_event draws e) j ≡ Some f → Stands (e ∷ es) j f
      here zero p = let g = get_first (shown_event draws e) f p in record { at = zero; event = e; there = refl; shows = record { rest = g.0; first = g.1 }; line = refl }
      here (suc i) p = absurd (plain (event_once e i f p))

      later : (k : ℕ) → j ≡ length (shown_event draws e) + k → Stands es k f → Stands (e ∷ es) j f
      later k i s = record { at = suc s.at; event = s.event; there = s.there; shows = s.shows; line = i ∙ ap (λ n. length (shown_event draws e) + n) s.line ∙ sym (start_first e es s.at) }

  -- which of two lines is first
  pub line_before : (es : List Event) (m n : ℕ) → start es m < start es n → m < n
  line_before es m n l = either (order m n)
    where
      order : (a b : ℕ) → (a < b) ⊎ (b ≤ a)
      order a zero = inr (omega arith)
      order zero (suc b) = inl (omega arith)
      order (suc a) (suc b) = elim (order a b) [ inl h ↦ inl (omega arith) | inr h ↦ inr (omega arith) ]

      either : (m < n) ⊎ (n ≤ m) → m < n
      either (inl h) = h
      either (inr h) = let k = start_later es n m h in absurd (omega (arith, k, l))
