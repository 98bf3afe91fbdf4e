-- How a history tells which references a message is before, line by line.
use Rattle.std.proofs.Common.{◌≡◌, ◌+◌, ◌<◌, ◌≤◌, ℕ, zero, suc, Bool, true, false, not, List, [], ◌∷◌, ◌++◌, Option, Some, None, length, take, refl, sym, ap, ◌∙◌, subst, inl, inr, arith, append_assoc, append-nil, ◌==◌, ◌&&◌, ◌||◌, nat_le, eq-eqb}
use Rattle.std.specs.Prelude.{slice_get}
use Rattle.def_machine.specs.Values.{Words, Value, Name, Ref, Gift, same_name}
use Rattle.def_machine.specs.State.{Message, Passed, Passeds, Plain, AGift, Many, NoMore, More, Delivery, Deliver, Took, Sends}
use Rattle.def_run.specs.World.{Event, Here, Carried}
use Rattle.law_fate.specs.Name.Names.{IsAmong}
use Rattle.law_fate.proofs.Name.SameNames.{same_is, same_self}
use Rattle.law_order.specs.Ordering.Order.{plains, names, passes, passes_as, all_pass_as, Coming, comes_in, comes, Reach, reaching, sent_on, taken_on, reaches_on, reached_by, is_reach, any_reach, sends_behind, before_from, takes_it, object_takes_it, taken_after}
use Rattle.law_trace.specs.Shown.Shown.{passed_at}

pub among_left : {A : Type 0} (x : A) (xs ys : List A) → IsAmong x xs → IsAmong x (xs ++ ys)
among_left x [] ys h = absurd h
among_left x (z ∷ xs) ys (inl e) = inl e
among_left x (z ∷ xs) ys (inr h) = inr (among_left x xs ys h)

pub among_right : {A : Type 0} (x : A) (xs ys : List A) → IsAmong x ys → IsAmong x (xs ++ ys)
among_right x [] ys h = h
among_right x (z ∷ xs) ys h = inr (among_right x xs ys h)

some_is : {A : Type 0} (x y : A) → Some x ≡ Some y → x ≡ y
some_is x y e = cc

and_true : (a b : Bool) → a ≡ true → b ≡ true → (a && b) ≡ true
and_true true b e f = f
and_true false b e f = absurd (cc)

and_second : (a b : Bool) → (a && b) ≡ true → b ≡ true
and_second true b e = e
and_second false b e = absurd (cc)

-- ---- lines so far

pub get_take : {A : Type 0} (es : List A) (n m : ℕ) (e : A) → m < n → slice_get es m ≡ Some e → slice_get (take n es) m ≡ Some e
get_take [] n m e l q = absurd (cc)
get_take (x ∷ es) zero m e l q = absurd (omega arith)
get_take (x ∷ es) (suc n) zero e l q = q
get_take (x ∷ es) (suc n) (suc m) e l q = let less : m < n = omega arith in get_take es n m e less q

pub take_get : {A : Type 0} (es : List A) (n m : ℕ) (e : A) → slice_get (take n es) m ≡ Some e → (m < n) × (slice_get es m ≡ Some e)
take_get es zero m e q = absurd (cc)
take_get [] (suc n) m e q = absurd (cc)
take_get (x ∷ es) (suc n) zero e q = (omega arith, q)
take_get (x ∷ es) (suc n) (suc m) e q = let r = take_get es n m e q in let l = r.0 in (omega arith, r.1)

pub take_length : {A : Type 0} (es : List A) (n : ℕ) (e : A) → slice_get es n ≡ Some e → length (take n es) ≡ n
take_length [] n e q = absurd (cc)
take_length (x ∷ es) zero e q = refl
take_length (x ∷ es) (suc n) e q = ap suc (take_length es n e q)

-- ---- references that are reached

module _ (a : Name) where
  reached_keeps : (done es : List Event) (rs : List Reach) (r : Reach) → IsAmong r rs → IsAmong r (reached_by a done rs es)
  unfolding reached_by
  reached_keeps done [] rs r h = h
  reached_keeps done (e ∷ es) rs r h = reached_keeps (done ++ e ∷ []) es (rs ++ reaches_on a done rs e) r (among_left r rs (reaches_on a done rs e) h)

  pub reached_stays : (done es : List Event) (rs : List Reach) (m n : ℕ) (r : Reach) → m ≤ n → IsAmong r (reached_by a done rs (take m es)) → IsAmong r (reached_by a done rs (take n es))
  unfolding reached_by
  reached_stays done es rs zero n r l h = reached_keeps done (take n es) rs r h
  reached_stays done [] rs (suc m) zero r l h = h
  reached_stays done [] rs (suc m) (suc n) r l h = h
  reached_stays done (e ∷ es) rs (suc m) zero r l h = absurd (omega arith)
  reached_stays done (e ∷ es) rs (suc m) (suc n) r l h = let less : m ≤ n = omega arith in reached_stays (done ++ e ∷ []) es (rs ++ reaches_on a done rs e) m n r less h

  reached_on : (done es : List Event) (rs : List Reach) (n : ℕ) (e : Event) → slice_get es n ≡ Some e
      → reached_by a done rs (take (suc n) es) ≡ reached_by a done rs (take n es) ++ reaches_on a (done ++ take n es) (reached_by a done rs (take n es)) e
  unfolding reached_by
  reached_on done [] rs n e q = absurd (cc)
  reached_on done (x ∷ es) rs zero e q = ap (λ d. rs ++ reaches_on a d rs x) (sym (append-nil done)) ∙ ap (λ y. rs ++ reaches_on a (done ++ []) rs y) (some_is x e q)
  reached_on done (x ∷ es) rs (suc n) e q =
      let more = rs ++ reaches_on a done rs x in
      let so : List Reach = reached_by a (done ++ x ∷ []) more (take n es) in
      reached_on (done ++ x ∷ []) es more n e q ∙ ap (λ d. so ++ reaches_on a d so e) (append_assoc done (x ∷ []) (take n es))

  -- what a line adds is reached behind it
  pub reached_there : (es : List Event) (n : ℕ) (e : Event) (r : Reach) → slice_get es n ≡ Some e → IsAmong r (reaches_on a (take n es) (reached_by a [] [] (take n es)) e) → IsAmong r (reached_by a [] [] (take (suc n) es))
  reached_there es n e r q h = subst (IsAmong r) (sym (reached_on [] es [] n e q)) (among_right r (reached_by a [] [] (take n es)) (reaches_on a (take n es) (reached_by a [] [] (take n es)) e) h)

  -- a message that is sent behind what was reached is one that it is before
  pub before_at : (b : Name) (done es : List Event) (rs : List Reach) (n : ℕ) (e : Event) → slice_get es n ≡ Some e → sends_behind b (reached_by a done rs (take n es)) e ≡ true → before_from a b done rs es ≡ true
  unfolding before_from reached_by
  before_at b done [] rs n e q h = absurd (cc)
  before_at b done (x ∷ es) rs zero e q h = first (sends_behind b rs x) (ap (sends_behind b rs) (some_is x e q) ∙ h)
    where
      first : (s : Bool) → s ≡ true → (s || before_from a b (done ++ x ∷ []) (rs ++ reaches_on a done rs x) es) ≡ true
      first true k = refl
      first false k = absurd (cc)
  before_at b done (x ∷ es) rs (suc n) e q h = later (sends_behind b rs x) (before_at b (done ++ x ∷ []) es (rs ++ reaches_on a done rs x) n e q h)
    where
      later : (s : Bool) → before_from a b (done ++ x ∷ []) (rs ++ reaches_on a done rs x) es ≡ true → (s || before_from a b (done ++ x ∷ []) (rs ++ reaches_on a done rs x) es) ≡ true
      later true k = refl
      later false k = k

-- ---- what a line adds

reaching_has : (v since : ℕ) (ns : List Name) (n : Name) → IsAmong n ns → IsAmong (record { vat = v; name = n; since = since }) (reaching v since ns)
unfolding reaching
reaching_has v since [] n h = absurd h
reaching_has v since (m ∷ ns) n (inl e) = inl (ap (λ z. record { vat = v; name = z; since = since }) e)
reaching_has v since (m ∷ ns) n (inr h) = inr (reaching_has v since ns n h)

pub sent_reaches : (a : Name) (done : List Event) (rs : List Reach) (v act : ℕ) (x : Message Name) (n : Name) → x.id ≡ a → x.target ≡ Ref n → IsAmong (record { vat = v; name = n; since = suc (length done) }) (reaches_on a done rs (Here v (Sends act x)))
unfolding reaches_on sent_on
sent_reaches a done rs v act x n e t = go (same_name x.id a) (ap (λ z. same_name x.id z) (sym e) ∙ same_self x.id)
  where
    on_target : IsAmong n (sent_on x.target)
    on_target = subst (λ z. IsAmong n (sent_on z)) (sym t) (inl refl)

    go : (b : Bool) → b ≡ true → IsAmong (record { vat = v; name = n; since = suc (length done) }) (elim b as (λ _. List Reach) [ true ↦ reaching v (suc (length done)) (sent_on x.target) | false ↦ [] ])
    go true i = reaching_has v (suc (length done)) (sent_on x.target) n on_target
    go false i = absurd (cc)

-- A reference that is reached leads on to what it passes as.
pub taken_reaches : (done : List Event) (v w : ℕ) (ys : Passeds Name) (c : Coming) (rs : List Reach) (r : Reach) (n : Name) → IsAmong r rs → r.vat ≡ v → nat_le r.since c.line ≡ true → IsAmong n (all_pass_as v done r.name ys c.args)
    → IsAmong (record { vat = w; name = n; since = length done }) (taken_on done v w ys (Some c) rs)
unfolding taken_on
taken_reaches done v w ys c [] r n h e l p = absurd h
taken_reaches done v w ys c (q ∷ rs) r n (inl i) e l p = here ((q.vat == v) && nat_le q.since c.line) (and_true (q.vat == v) (nat_le q.since c.line) (eq-eqb q.vat v (ap (λ (z : Reach). z.vat) (sym i) ∙ e)) (ap (λ (z : Reach). nat_le z.since c.line) (sym i) ∙ l))
  where
    new : IsAmong (record { vat = w; name = n; since = length done }) (reaching w (length done) (all_pass_as v done q.name ys c.args))
    new = reaching_has w (length done) (all_pass_as v done q.name ys c.args) n (subst (λ (z : Reach). IsAmong n (all_pass_as v done z.name ys c.args)) i p)

    here : (b : Bool) → b ≡ true → IsAmong (record { vat = w; name = n; since = length done }) (elim b as (λ _. List Reach) [ true ↦ reaching w (length done) (all_pass_as v done q.name ys c.args) ++ taken_on done v w ys (Some c) rs | false ↦ taken_on done v w ys (Some c) rs ])
    here true k = among_left (record { vat = w; name = n; since = length done }) (reaching w (length done) (all_pass_as v done q.name ys c.args)) (taken_on done v w ys (Some c) rs) new
    here false k = absurd (cc)
taken_reaches done v w ys c (q ∷ rs) r n (inr i) e l p = later ((q.vat == v) && nat_le q.since c.line) (taken_reaches done v w ys c rs r n i e l p)
  where
    later : (b : Bool) → IsAmong (record { vat = w; name = n; since = length done }) (taken_on done v w ys (Some c) rs)
        → IsAmong (record { vat = w; name = n; since = length done }) (elim b as (λ _. List Reach) [ true ↦ reaching w (length done) (all_pass_as v done q.name ys c.args) ++ taken_on done v w ys (Some c) rs | false ↦ taken_on done v w ys (Some c) rs ])
    later true k = among_right (record { vat = w; name = n; since = length done }) (reaching w (length done) (all_pass_as v done q.name ys c.args)) (taken_on done v w ys (Some c) rs) k
    later false k = k

-- an argument passes as what stands in its place
one_passes : (v : ℕ) (done : List Event) (m n : Name) (y : Passed Name) → IsAmong n (passes y) → IsAmong n (passes_as v done m y (Plain (Ref m)))
unfolding passes_as names passes
one_passes v done m n (Plain y) h = go (same_name m m) (same_self m)
  where
    go : (b : Bool) → b ≡ true → IsAmong n (elim b as (λ _. List Name) [ true ↦ passes (Plain y) | false ↦ [] ])
    go true i = h
    go false i = absurd (cc)
one_passes v done m n (AGift k i) h = go (same_name m m) (same_self m)
  where
    go : (b : Bool) → b ≡ true → IsAmong n (elim b as (λ _. List Name) [ true ↦ Gift k i ∷ [] | false ↦ [] ])
    go true j = h
    go false j = absurd (cc)
one_passes v done m n (Many ys) h = absurd h

pub argument_passes : (v : ℕ) (done : List Event) (m n : Name) (ys : Passeds Name) (xs : List (Value Name)) (place : ℕ) (y : Passed Name) → passed_at ys place ≡ Some y → slice_get xs place ≡ Some (Ref m) → IsAmong n (passes y)
    → IsAmong n (all_pass_as v done m ys (plains xs))
unfolding passed_at all_pass_as plains
argument_passes v done m n NoMore xs place y p q h = absurd (cc)
argument_passes v done m n (More z ys) [] place y p q h = absurd (cc)
argument_passes v done m n (More z ys) (x ∷ xs) zero y p q h =
    let one = one_passes v done m n z (subst (λ u. IsAmong n (passes u)) (sym (some_is z y p)) h) in
    among_left n (passes_as v done m z (Plain x)) (all_pass_as v done m ys (plains xs)) (subst (λ u. IsAmong n (passes_as v done m z (Plain u))) (sym (some_is x (Ref m) q)) one)
argument_passes v done m n (More z ys) (x ∷ xs) (suc place) y p q h = among_right n (passes_as v done m z (Plain x)) (all_pass_as v done m ys (plains xs)) (argument_passes v done m n ys xs place y p q h)

-- ---- when a message came

pub comes_at : (v : ℕ) (m : Name) (k : ℕ) (es : List Event) (n : ℕ) (e : Event) (c : Coming) → slice_get es n ≡ Some e → ((j : ℕ) (x : Event) → j < n → slice_get es j ≡ Some x → (i : ℕ) → comes_in v m i x ≡ None) → comes_in v m (k + n) e ≡ Some c → comes v m k es ≡ Some c
unfolding comes
comes_at v m k [] n e c q f h = absurd (cc)
comes_at v m k (x ∷ es) zero e c q f h = go (comes_in v m k x) here
  where
    number : k + zero ≡ k
    number = omega arith

    here : comes_in v m k x ≡ Some c
    here = ap (comes_in v m k) (some_is x e q) ∙ ap (λ i. comes_in v m i e) (sym number) ∙ h

    go : (o : Option Coming) → o ≡ Some c → elim o as (λ _. Option Coming) [ Some d ↦ Some d | None ↦ comes v m (suc k) es ] ≡ Some c
    go (Some d) i = i
    go None i = absurd (cc)
comes_at v m k (x ∷ es) (suc n) e c q f h =
    let number : k + suc n ≡ suc k + n = omega arith in
    go (comes_at v m (suc k) es n e c q (λ j y l i. f (suc j) y (omega arith) i) (ap (λ i. comes_in v m i e) (sym number) ∙ h)) (comes_in v m k x) (f zero x (omega arith) refl k)
  where
    go : comes v m (suc k) es ≡ Some c → (o : Option Coming) → o ≡ None → elim o as (λ _. Option Coming) [ Some d ↦ Some d | None ↦ comes v m (suc k) es ] ≡ Some c
    go later (Some d) i = absurd (cc)
    go later None i = later

-- ---- what is taken

-- A line so far takes it.
abbrev pub TakenBy : Name → List Event → ℕ → Type 0
TakenBy a es n = (j : ℕ) × (x : Event) × (j ≤ n) × (slice_get es j ≡ Some x) × (takes_it a x ≡ true)

-- Where an object takes b in order, a line so far takes a.
pub taken_so_far : (a b : Name) (es : List Event) (n : ℕ) (e : Event) → taken_after a b es ≡ true → slice_get es n ≡ Some e → object_takes_it b e ≡ true → TakenBy a es n
unfolding taken_after
taken_so_far a b [] n e t q h = absurd (cc)
taken_so_far a b (x ∷ es) zero e t q h = go (takes_it a x) refl (object_takes_it b x) (ap (object_takes_it b) (some_is x e q) ∙ h) t
  where
    go : (s : Bool) → takes_it a x ≡ s → (o : Bool) → o ≡ true → elim s as (λ _. Bool) [ true ↦ true | false ↦ not o && taken_after a b es ] ≡ true → TakenBy a (x ∷ es) zero
    go true i o k u = (zero, x, omega arith, refl, i)
    go false i true k u = absurd (cc)
    go false i false k u = absurd (cc)
taken_so_far a b (x ∷ es) (suc n) e t q h = go (λ u. taken_so_far a b es n e u q h) (takes_it a x) refl (object_takes_it b x) t
  where
    go : (taken_after a b es ≡ true → TakenBy a es n) → (s : Bool) → takes_it a x ≡ s → (o : Bool) → elim s as (λ _. Bool) [ true ↦ true | false ↦ not o && taken_after a b es ] ≡ true → TakenBy a (x ∷ es) (suc n)
    go f true i o u = (zero, x, omega arith, refl, i)
    go f false i true u = absurd (cc)
    go f false i false u = let r = f u in let l = r.2 in (suc r.0, r.1, omega arith, r.3, r.4)

pub record TookIt (a : Name) (e : Event) : Type 0 where
  pub vat : ℕ
  pub act : ℕ
  pub took : Message Name
  pub line : e ≡ Here vat (Took act took)
  pub id : took.id ≡ a

pub took_it : (a : Name) (e : Event) → takes_it a e ≡ true → TookIt a e
unfolding takes_it
took_it a (Here v (Took act m)) h = record { vat = v; act = act; took = m; line = refl; id = same_is m.id a h }
took_it a other h = absurd (cc)

-- a line that neither sends it nor brings it
pub none_came : (v : ℕ) (m : Name) (n : ℕ) (e : Event) → ((u act : ℕ) (x : Message Name) → e ≡ Here u (Sends act x) → x.id ≡ m → ⊥)
    → ((k u w : ℕ) (d : Delivery Name) (z : Name) (verb : Words) (ys : Passeds Name) (bytes : List ℕ) → e ≡ Carried k u w (Deliver d z verb ys) bytes → d.message ≡ m → ⊥) → comes_in v m n e ≡ None
unfolding comes_in
none_came v m n (Here u (Sends act x)) f g = go ((u == v) && same_name x.id m) refl
  where
    go : (t : Bool) → ((u == v) && same_name x.id m) ≡ t → elim t as (λ _. Option Coming) [ true ↦ Some (record { line = n; args = plains x.args }) | false ↦ None ] ≡ None
    go true i = absurd (f u act x refl (same_is x.id m (and_second (u == v) (same_name x.id m) i)))
    go false i = refl
none_came v m n (Carried k u w (Deliver d z verb ys) bytes) f g = go ((w == v) && same_name d.message m) refl
  where
    go : (t : Bool) → ((w == v) && same_name d.message m) ≡ t → elim t as (λ _. Option Coming) [ true ↦ Some (record { line = n; args = ys }) | false ↦ None ] ≡ None
    go true i = absurd (g k u w d z verb ys bytes refl (same_is d.message m (and_second (w == v) (same_name d.message m) i)))
    go false i = refl
none_came v m n other f g = refl

pub sent_came : (v : ℕ) (m : Name) (n u act : ℕ) (x : Message Name) → u ≡ v → x.id ≡ m → comes_in v m n (Here u (Sends act x)) ≡ Some (record { line = n; args = plains x.args })
unfolding comes_in
sent_came v m n u act x e f = go ((u == v) && same_name x.id m) (and_true (u == v) (same_name x.id m) (eq-eqb u v e) (ap (λ z. same_name x.id z) (sym f) ∙ same_self x.id))
  where
    go : (t : Bool) → t ≡ true → elim t as (λ _. Option Coming) [ true ↦ Some (record { line = n; args = plains x.args }) | false ↦ None ] ≡ Some (record { line = n; args = plains x.args })
    go true i = refl
    go false i = absurd (cc)

-- ---- the two names of a send behind what was reached

any_has : (v : ℕ) (n : Name) (rs : List Reach) (r : Reach) → IsAmong r rs → r.vat ≡ v → r.name ≡ n → any_reach v (n ∷ []) rs ≡ true
unfolding any_reach is_reach
any_has v n [] r h e f = absurd h
any_has v n (q ∷ rs) r (inl i) e f = go ((q.vat == v) && same_name q.name n) (and_true (q.vat == v) (same_name q.name n) (eq-eqb q.vat v (ap (λ (z : Reach). z.vat) (sym i) ∙ e)) (subst (λ z. same_name q.name z ≡ true) (ap (λ (z : Reach). z.name) (sym i) ∙ f) (same_self q.name)))
  where
    go : (b : Bool) → b ≡ true → (b || any_reach v (n ∷ []) rs) ≡ true
    go true k = refl
    go false k = absurd (cc)
any_has v n (q ∷ rs) r (inr i) e f = go ((q.vat == v) && same_name q.name n) (any_has v n rs r i e f)
  where
    go : (b : Bool) → any_reach v (n ∷ []) rs ≡ true → (b || any_reach v (n ∷ []) rs) ≡ true
    go true k = refl
    go false k = k

pub sends_behind_it : (b : Name) (rs : List Reach) (v act : ℕ) (x : Message Name) (n : Name) (r : Reach) → x.id ≡ b → x.target ≡ Ref n → IsAmong r rs → r.vat ≡ v → r.name ≡ n → sends_behind b rs (Here v (Sends act x)) ≡ true
unfolding sends_behind sent_on
sends_behind_it b rs v act x n r e t h i j = and_true (same_name x.id b) (any_reach v (sent_on x.target) rs) (ap (λ z. same_name x.id z) (sym e) ∙ same_self x.id) (ap (λ z. any_reach v (sent_on z) rs) t ∙ any_has v n rs r h i j)
