-- What a history tells as lines come at its end.
use Rattle.std.proofs.Common.{◌≡◌, ℕ, zero, suc, ◌+◌, ◌<◌, Bool, true, false, List, [], ◌∷◌, ◌++◌, Option, Some, None, length, refl, sym, ap, ◌∙◌, subst, ◌⊎◌, inl, inr, ◌||◌, ◌&&◌, arith, append_assoc, ◌==◌}
use Rattle.std.proofs.lemmas.List.{append-nil}
use Rattle.def_machine.specs.Values.{Name, same_name}
use Rattle.def_machine.specs.State.{Passeds, Deliver, Sends}
use Rattle.def_run.specs.World.{Event, Here, Carried}
use Rattle.law_fate.specs.Name.Names.{IsAmong}
use Rattle.law_order.specs.Ordering.Order.{Coming, Reach, plains, comes_in, comes, reaches_on, reached_by, reached, any_reach, sent_on, sends_behind, before_from, is_before}
use Rattle.law_order.specs.History.Lines.{counts, AllQuiet, with_first, sends_it, was_sent}

-- ---- members of lists

pub among_either : {A : Type 0} (x : A) (xs ys : List A) → IsAmong x (xs ++ ys) → IsAmong x xs ⊎ IsAmong x ys
among_either x [] ys h = inr h
among_either x (z ∷ xs) ys (inl e) = inl (inl e)
among_either x (z ∷ xs) ys (inr h) = elim (among_either x xs ys h) [ inl i ↦ inl (inr i) | inr i ↦ inr i ]

-- of what stands in front of something in a list with one more at its end: it stands among those before, or it is the last
pub record Last {A : Type 0} (xs b : List A) (i j : A) : Type 0 where
  pub front : b ≡ xs
  pub same : j ≡ i

pub last_or : {A : Type 0} (xs b : List A) (i j : A) (r : List A) → xs ++ i ∷ [] ≡ b ++ j ∷ r → ((s : List A) × (xs ≡ b ++ j ∷ s)) ⊎ Last xs b i j
last_or {A = A} [] [] i j r e = inr (record { front = refl; same = sym (cc) })
last_or {A = A} [] (c ∷ b) i j r e = absurd (none b j r (cc))
  where
    none : (b : List A) (j : A) (r : List A) → [] ≡ b ++ j ∷ r → ⊥
    none [] j r f = cc
    none (c ∷ b) j r f = cc
last_or {A = A} (x ∷ xs) [] i j r e = inl (xs, ap (λ k. k ∷ xs) first)
  where
    first : x ≡ j
    first = cc
last_or {A = A} (x ∷ xs) (c ∷ b) i j r e = more (last_or xs b i j r tail) head
  where
    head : x ≡ c
    head = cc

    tail : xs ++ i ∷ [] ≡ b ++ j ∷ r
    tail = cc

    more : ((s : List A) × (xs ≡ b ++ j ∷ s)) ⊎ Last xs b i j → x ≡ c → ((s : List A) × (x ∷ xs ≡ c ∷ (b ++ j ∷ s))) ⊎ Last (x ∷ xs) (c ∷ b) i j
    more (inl h) f = inl (h.0, cc (h.1))
    more (inr h) f = inr (record { front = cc (h.front); same = h.same })

pub and_first : (s t : Bool) → (s && t) ≡ true → s ≡ true
and_first true t e = refl
and_first false t e = e

pub and_second : (s t : Bool) → (s && t) ≡ true → t ≡ true
and_second true t e = e
and_second false t e = absurd (cc)

-- ---- lines that do not count

reaches_quiet : (m : Name) (done : List Event) (rs : List Reach) (e : Event) → counts e ≡ false → reaches_on m done rs e ≡ []
unfolding counts reaches_on
reaches_quiet m done rs (Here v (Sends act x)) h = cc
reaches_quiet m done rs (Carried k v w (Deliver x n verb ys) bytes) h = cc
reaches_quiet m done rs other h = refl

comes_quiet : (v : ℕ) (m : Name) (i : ℕ) (e : Event) → counts e ≡ false → comes_in v m i e ≡ None
unfolding counts comes_in
comes_quiet v m i (Here w (Sends act x)) h = cc
comes_quiet v m i (Carried k u w (Deliver x n verb ys) bytes) h = cc
comes_quiet v m i other h = refl

behind_quiet : (m : Name) (rs : List Reach) (e : Event) → counts e ≡ false → sends_behind m rs e ≡ false
unfolding counts sends_behind
behind_quiet m rs (Here v (Sends act x)) h = cc
behind_quiet m rs other h = refl

-- ---- references that are reached

reached_quiet : (m : Name) (done : List Event) (rs : List Reach) (es : List Event) → AllQuiet es → reached_by m done rs es ≡ rs
unfolding reached_by
reached_quiet m done rs [] h = refl
reached_quiet m done rs (e ∷ es) h = rw (reaches_quiet m done rs e h.0, append-nil rs) (reached_quiet m (done ++ e ∷ []) rs es h.1)

reached_append : (m : Name) (done : List Event) (rs : List Reach) (es fs : List Event) → reached_by m done rs (es ++ fs) ≡ reached_by m (done ++ es) (reached_by m done rs es) fs
unfolding reached_by
reached_append m done rs [] fs = rw (append-nil done) refl
reached_append m done rs (e ∷ es) fs = reached_append m (done ++ e ∷ []) (rs ++ reaches_on m done rs e) es fs ∙ ap (λ d. reached_by m d (reached_by m (done ++ e ∷ []) (rs ++ reaches_on m done rs e) es) fs) (append_assoc done (e ∷ []) es)

-- what one line adds, or none
abbrev pub added : Name → List Event → List Reach → Option Event → List Reach
added m done rs None = []
added m done rs (Some e) = reaches_on m done rs e

reached_first : (m : Name) (done : List Event) (rs : List Reach) (o : Option Event) (es : List Event) → AllQuiet es → reached_by m done rs (with_first o es) ≡ rs ++ added m done rs o
unfolding reached_by
reached_first m done rs None es h = reached_quiet m done rs es h ∙ sym (append-nil rs)
reached_first m done rs (Some e) es h = reached_quiet m (done ++ e ∷ []) (rs ++ reaches_on m done rs e) es h

pub reached_more : (m : Name) (es : List Event) (o : Option Event) (fs : List Event) → AllQuiet fs → reached m (es ++ with_first o fs) ≡ reached m es ++ added m es (reached m es) o
unfolding reached
reached_more m es o fs h = reached_append m [] [] es (with_first o fs) ∙ reached_first m es (reached_by m [] [] es) o fs h

-- ---- comings

told_first : (o p : Option Coming) (c : Coming) → elim o [ Some d ↦ Some d | None ↦ p ] ≡ Some c → (o ≡ Some c) ⊎ ((o ≡ None) × (p ≡ Some c))
told_first (Some d) p c h = inl h
told_first None p c h = inr (refl, h)

pub some_is : {A : Type 0} (a b : A) → Some a ≡ Some b → a ≡ b
some_is a b e = cc

none_some : {A B : Type 0} (a : A) → ◌≡◌ {A = Option A} None (Some a) → B
none_some a e = absurd (cc)

pub comes_stays : (v : ℕ) (m : Name) (i : ℕ) (es fs : List Event) (c : Coming) → comes v m i es ≡ Some c → comes v m i (es ++ fs) ≡ Some c
unfolding comes
comes_stays v m i [] fs c h = none_some c h
comes_stays v m i (e ∷ es) fs c h = go (comes_in v m i e) (λ k. comes_stays v m (suc i) es fs c k) h
  where
    go : (o : Option Coming) → (comes v m (suc i) es ≡ Some c → comes v m (suc i) (es ++ fs) ≡ Some c) → elim o [ Some d ↦ Some d | None ↦ comes v m (suc i) es ] ≡ Some c → elim o [ Some d ↦ Some d | None ↦ comes v m (suc i) (es ++ fs) ] ≡ Some c
    go (Some d) f k = k
    go None f k = f k

pub comes_skip : (v : ℕ) (m : Name) (i j : ℕ) (es fs : List Event) → j ≡ i + length es → comes v m i es ≡ None → comes v m i (es ++ fs) ≡ comes v m j fs
unfolding comes
comes_skip v m i j [] fs e h = ap (λ k. comes v m k fs) (omega arith)
comes_skip v m i j (e ∷ es) fs g h = let f : j ≡ suc i + length es = omega arith in go (comes_in v m i e) (comes_skip v m (suc i) j es fs f) h
  where
    go : (o : Option Coming) → (comes v m (suc i) es ≡ None → comes v m (suc i) (es ++ fs) ≡ comes v m j fs) → ◌≡◌ {A = Option Coming} (elim o [ Some d ↦ Some d | None ↦ comes v m (suc i) es ]) None → elim o [ Some d ↦ Some d | None ↦ comes v m (suc i) (es ++ fs) ] ≡ comes v m j fs
    go (Some d) f k = none_some {B = ◌≡◌ {A = Option Coming} (Some d) (comes v m j fs)} d (sym k)
    go None f k = f k

pub comes_none : (v : ℕ) (m : Name) (i : ℕ) (es : List Event) → AllQuiet es → comes v m i es ≡ None
unfolding comes
comes_none v m i [] h = refl
comes_none v m i (e ∷ es) h = subst (λ o. elim o [ Some d ↦ Some d | None ↦ comes v m (suc i) es ] ≡ None) (sym (comes_quiet v m i e h.0)) (comes_none v m (suc i) es h.1)

-- it comes in that line, if there is one
abbrev pub comes_by : ℕ → Name → ℕ → Option Event → Option Coming
comes_by v m i None = None
comes_by v m i (Some e) = comes_in v m i e

first_alone : (o p : Option Coming) → p ≡ None → elim o [ Some d ↦ Some d | None ↦ p ] ≡ o
first_alone (Some d) p e = refl
first_alone None p e = e

comes_first : (v : ℕ) (m : Name) (i : ℕ) (o : Option Event) (es : List Event) → AllQuiet es → comes v m i (with_first o es) ≡ comes_by v m i o
unfolding comes
comes_first v m i None es h = comes_none v m i es h
comes_first v m i (Some e) es h = first_alone (comes_in v m i e) (comes v m (suc i) es) (comes_none v m (suc i) es h)

-- a message that did not come before came in the first of the new lines
pub comes_now : (v : ℕ) (m : Name) (es : List Event) (o : Option Event) (fs : List Event) → AllQuiet fs → comes v m zero es ≡ None → comes v m zero (es ++ with_first o fs) ≡ comes_by v m (length es) o
comes_now v m es o fs h e = comes_skip v m zero (length es) es (with_first o fs) (omega arith) e ∙ comes_first v m (length es) o fs h

line_of : (b : Bool) (i : ℕ) (ys : Passeds Name) (c : Coming) → ◌≡◌ {A = Option Coming} (elim b [ true ↦ Some (record { line = i; args = ys }) | false ↦ None ]) (Some c) → c.line ≡ i
line_of true i ys c h = sym (ap (λ (d : Coming). d.line) (some_is (record { line = i; args = ys }) c h))
line_of false i ys c h = none_some c h

line_in : (v : ℕ) (m : Name) (i : ℕ) (e : Event) (c : Coming) → comes_in v m i e ≡ Some c → c.line ≡ i
unfolding comes_in
line_in v m i (Here w (Sends act x)) c h = line_of ((w == v) && same_name x.id m) i (plains x.args) c h
line_in v m i (Carried k u w (Deliver x n verb ys) bytes) c h = line_of ((w == v) && same_name x.message m) i ys c h
line_in v m i other c h = none_some c h

pub line_by : (v : ℕ) (m : Name) (i : ℕ) (o : Option Event) (c : Coming) → comes_by v m i o ≡ Some c → c.line ≡ i
line_by v m i None c h = none_some c h
line_by v m i (Some e) c h = line_in v m i e c h

-- A message came in a line that is there.
pub line_below : (v : ℕ) (m : Name) (i : ℕ) (es : List Event) (c : Coming) → comes v m i es ≡ Some c → c.line < i + length es
unfolding comes
line_below v m i [] c h = none_some c h
line_below v m i (e ∷ es) c h = go (told_first (comes_in v m i e) (comes v m (suc i) es) c h) (line_below v m (suc i) es c)
  where
    go : (comes_in v m i e ≡ Some c) ⊎ ((comes_in v m i e ≡ None) × (comes v m (suc i) es ≡ Some c)) → (comes v m (suc i) es ≡ Some c → c.line < suc i + length es) → c.line < i + length (e ∷ es)
    go (inl k) f = let a : c.line ≡ i = line_in v m i e c k in omega arith
    go (inr k) f = let a : c.line < suc i + length es = f k.1 in omega arith

-- ---- befores

before_append : (a b : Name) (done : List Event) (rs : List Reach) (es fs : List Event) → before_from a b done rs (es ++ fs) ≡ (before_from a b done rs es || before_from a b (done ++ es) (reached_by a done rs es) fs)
unfolding before_from reached_by
before_append a b done rs [] fs = ap (λ d. before_from a b d rs fs) (sym (append-nil done))
before_append a b done rs (e ∷ es) fs = go (sends_behind b rs e) _ _ _ (before_append a b (done ++ e ∷ []) (rs ++ reaches_on a done rs e) es fs ∙ ap (λ d. before_from a b (done ++ e ∷ []) (rs ++ reaches_on a done rs e) es || before_from a b d (reached_by a (done ++ e ∷ []) (rs ++ reaches_on a done rs e) es) fs) (append_assoc done (e ∷ []) es))
  where
    go : (t : Bool) (p q r : Bool) → p ≡ (q || r) → (t || p) ≡ ((t || q) || r)
    go true p q r h = refl
    go false p q r h = h

before_quiet : (a b : Name) (done : List Event) (rs : List Reach) (es : List Event) → AllQuiet es → before_from a b done rs es ≡ false
unfolding before_from
before_quiet a b done rs [] h = refl
before_quiet a b done rs (e ∷ es) h = go (sends_behind b rs e) _ (behind_quiet b rs e h.0) (before_quiet a b (done ++ e ∷ []) (rs ++ reaches_on a done rs e) es h.1)
  where
    go : (t p : Bool) → t ≡ false → p ≡ false → (t || p) ≡ false
    go true p i j = i
    go false p i j = j

-- the message b is sent in that line, if there is one, on a reference that is reached
abbrev pub sent_by : Name → List Reach → Option Event → Bool
sent_by b rs None = false
sent_by b rs (Some e) = sends_behind b rs e

before_first : (a b : Name) (done : List Event) (rs : List Reach) (o : Option Event) (es : List Event) → AllQuiet es → before_from a b done rs (with_first o es) ≡ sent_by b rs o
unfolding before_from
before_first a b done rs None es h = before_quiet a b done rs es h
before_first a b done rs (Some e) es h = go (sends_behind b rs e) _ (before_quiet a b (done ++ e ∷ []) (rs ++ reaches_on a done rs e) es h)
  where
    go : (t p : Bool) → p ≡ false → (t || p) ≡ t
    go true p i = refl
    go false p i = i

pub before_more : (a b : Name) (es : List Event) (o : Option Event) (fs : List Event) → AllQuiet fs → is_before a b (es ++ with_first o fs) ≡ (is_before a b es || sent_by b (reached a es) o)
unfolding is_before reached
before_more a b es o fs h = before_append a b [] [] es (with_first o fs) ∙ ap (λ t. before_from a b [] [] es || t) (before_first a b es (reached_by a [] [] es) o fs h)

sends_if_behind : (b : Name) (rs : List Reach) (e : Event) → sends_behind b rs e ≡ true → sends_it b e ≡ true
unfolding sends_behind sends_it
sends_if_behind b rs (Here v (Sends act x)) h = and_first (same_name x.id b) (any_reach v (sent_on x.target) rs) h
sends_if_behind b rs other h = absurd (cc)

sent_if_before : (a b : Name) (done : List Event) (rs : List Reach) (es : List Event) → before_from a b done rs es ≡ true → was_sent b es ≡ true
unfolding before_from was_sent
sent_if_before a b done rs [] h = h
sent_if_before a b done rs (e ∷ es) h = go (sends_behind b rs e) _ (sends_it b e) (was_sent b es) (sends_if_behind b rs e) (sent_if_before a b (done ++ e ∷ []) (rs ++ reaches_on a done rs e) es) h
  where
    go : (t p q r : Bool) → (t ≡ true → q ≡ true) → (p ≡ true → r ≡ true) → (t || p) ≡ true → (q || r) ≡ true
    go true p q r f g k = subst (λ z. (z || r) ≡ true) (sym (f refl)) refl
    go false p true r f g k = refl
    go false p false r f g k = g k

-- A message that another is before was sent.
pub before_was_sent : (a b : Name) (es : List Event) → is_before a b es ≡ true → was_sent b es ≡ true
unfolding is_before
before_was_sent a b es h = sent_if_before a b [] [] es h
