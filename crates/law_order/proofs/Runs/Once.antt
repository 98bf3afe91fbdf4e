-- A message that has one place at most stands once at most in the ways.
use Rattle.std.proofs.Common.{◌≡◌, ℕ, zero, suc, ◌+◌, ◌≤◌, Bool, true, false, List, [], ◌∷◌, ◌++◌, Option, Some, None, refl, sym, ap, subst, ◌∙◌, ◌⊎◌, inl, inr, arith, eqb-true}
use Rattle.std.proofs.lemmas.Bool.{eqb-false}
use Rattle.std.specs.Prelude.{slice_get, ◌==◌}
use Rattle.def_machine.specs.Values.{Value, Ref, Name, Naming}
use Rattle.def_machine.specs.State.{Message, Known, Note, Deliver, Open, Ask, SettledTo, Elsewhere, Shorten, Vat}
use Rattle.def_machine.specs.Refs as refs
use Rattle.def_run.specs.World as world
use Rattle.def_run.specs.World.{Script, Link, World, names}
use Rattle.law_fate.specs.Fates.Fate as fate
use Rattle.law_fate.specs.Fates.Fate.{one, total, among, at_names, at_vat, in_note, of_note, on_link, places}
use Rattle.law_fate.proofs.Fates.RunFates.{places_and_fates}
use Rattle.law_order.specs.Ordering.Ways.{Lane, Queue, Held, Way, Item, Mid, Ways}
use Rattle.law_order.specs.Ordering.Messages.{StandsAt, StandsOnce}
use Rattle.law_order.specs.Ordering.Places.{item, queued, held_on, held_in, delivered, is_honest, stands_at, ways_of, ways}
use Rattle.law_order.proofs.Ordering.Lanes.{same_lane}
use Rattle.law_order.proofs.Ordering.Sends.{ends_of}
use Rattle.law_order.proofs.Ordering.Named.{same_self}
use Rattle.law_order.specs.Runs.Once.{MessagesStandOnce}
use Rattle.law_order.proofs.Runs.Beginnings.{reached_is, entry_name}

-- ---- how often a message is in a list of items

unfoldable pub tally : Name → List Item → ℕ
tally m [] = 0
tally m (i ∷ js) = one i.mail m + tally m js

pub itself : (m : Name) → one m m ≡ 1
unfolding one fate.once
itself m = rw (same_self m) refl

in_middle : (m n : Name) (b js : List Item) → 1 ≤ tally m (b ++ item m n ∷ js)
unfolding tally
in_middle m n [] js = let a = itself m in omega arith
in_middle m n (i ∷ b) js = let rest = in_middle m n b js in omega arith

-- where it is once, it is at one place
first_is : (i j : Item) (is js : List Item) → i ∷ is ≡ j ∷ js → i ≡ j
first_is i j is js e = cc

rest_is : (i j : Item) (is js : List Item) → i ∷ is ≡ j ∷ js → is ≡ js
rest_is i j is js e = cc

head_is : (i j : Item) (is js : List Item) → i ∷ is ≡ j ∷ js → (i ≡ j) × (is ≡ js)
head_is i j is js e = (first_is i j is js e, rest_is i j is js e)

one_place : (m n o : Name) (b c js ks : List Item) → tally m (b ++ item m n ∷ js) ≤ 1 → b ++ item m n ∷ js ≡ c ++ item m o ∷ ks → (b ≡ c) × (n ≡ o)
unfolding tally
one_place m n o [] [] js ks l e = let h = head_is (item m n) (item m o) js ks e in (refl, ap (λ (i : Item). i.aim) h.0)
one_place m n o [] (j ∷ c) js ks l e =
    let h = head_is (item m n) j js (c ++ item m o ∷ ks) e in
    let there = in_middle m o c ks in let same : tally m js ≡ tally m (c ++ item m o ∷ ks) = ap (tally m) h.1 in let here = itself m in absurd (omega arith)
one_place m n o (i ∷ b) [] js ks l e =
    let h = head_is i (item m o) (b ++ item m n ∷ js) ks e in
    let there = in_middle m n b js in let same : one i.mail m ≡ 1 = ap (λ (x : Item). one x.mail m) h.0 ∙ itself m in absurd (omega arith)
one_place m n o (i ∷ b) (j ∷ c) js ks l e =
    let h = head_is i j (b ++ item m n ∷ js) (c ++ item m o ∷ ks) e in let rest = one_place m n o b c js ks (omega arith) h.1 in
    (ap (λ x. x ∷ b) h.0 ∙ ap (λ x. j ∷ x) rest.0, rest.1)

-- ---- each list of items has no more than the place that it is of

pub queued_if : (m : Name) (y : Value Name) (x : Name) (js : List Item) (c : ℕ) → tally m js ≤ c → tally m (elim y [ Ref n ↦ item x n ∷ js | _ ↦ js ]) ≤ one x m + c
unfolding tally
queued_if m (Ref n) x js c h = omega arith
queued_if m _ x js c h = omega arith

queued_most : (m : Name) (ms : List (Message Name)) → tally m (queued ms) ≤ among m ms
unfolding tally queued among
queued_most m [] = omega arith
queued_most m (x ∷ ms) = queued_if m x.target x.id (queued ms) (among m ms) (queued_most m ms)

held_most : (m n : Name) (ms : List (Message Name)) → tally m (held_on n ms) ≤ among m ms
unfolding tally held_on among
held_most m n [] = omega arith
held_most m n (x ∷ ms) = let rest = held_most m n ms in omega arith

pub delivered_most : (m : Name) (ns : List (Note Name)) → tally m (delivered ns) ≤ total (of_note m) ns
unfolding tally delivered total of_note in_note
delivered_most m [] = omega arith
delivered_most m (Deliver d n verb ys ∷ ns) = let rest = delivered_most m ns in omega arith
delivered_most m (Open i n ∷ ns) = let rest = delivered_most m ns in omega arith
delivered_most m (Ask p i n ∷ ns) = let rest = delivered_most m ns in omega arith
delivered_most m (SettledTo n y ∷ ns) = let rest = delivered_most m ns in omega arith
delivered_most m (Elsewhere n c ∷ ns) = let rest = delivered_most m ns in omega arith
delivered_most m (Shorten n c i ∷ ns) = let rest = delivered_most m ns in omega arith

-- ---- members of lists

some_same : {A : Type 0} (x y : A) → Some x ≡ Some y → x ≡ y
some_same x y e = ap (λ o. elim o [ Some z ↦ z | None ↦ x ]) e

one_of : {A : Type 0} (f : A → ℕ) (xs : List A) (u : ℕ) (x : A) → slice_get xs u ≡ Some x → f x ≤ total f xs
unfolding total
one_of f [] u x e = cc
one_of f (y ∷ xs) zero x e = let same : f y ≡ f x = ap f (some_same y x e) in omega arith
one_of f (y ∷ xs) (suc u) x e = let rest = one_of f xs u x e in omega arith

two_of : {A : Type 0} (f : A → ℕ) (xs : List A) (u v : ℕ) (x y : A) → (u ≡ v → ⊥) → slice_get xs u ≡ Some x → slice_get xs v ≡ Some y → f x + f y ≤ total f xs
unfolding total
two_of f [] u v x y n e g = cc
two_of f (z ∷ xs) zero zero x y n e g = absurd (n refl)
two_of f (z ∷ xs) zero (suc v) x y n e g = let same : f z ≡ f x = ap f (some_same z x e) in let rest = one_of f xs v y g in omega arith
two_of f (z ∷ xs) (suc u) zero x y n e g = let same : f z ≡ f y = ap f (some_same z y g) in let rest = one_of f xs u x e in omega arith
two_of f (z ∷ xs) (suc u) (suc v) x y n e g = let rest = two_of f xs u v x y (λ h. n (ap suc h)) e g in omega arith

-- ---- what names hold

module _ (script : Script) (v : ℕ) (m : Name) where
  abbrev K : Naming Name Name
  K = names script v

  abbrev HeldAt : List (Known Name) → Name → List Item
  HeldAt ks p = held_in p (refs.entry_of K ks p)

  head_held : (k : Known Name) (p : Name) (o : Option (Known Name)) (b : Bool) (c : ℕ) → tally m (held_in p o) ≤ c → tally m (held_in p (elim b [ true ↦ Some k | false ↦ o ])) ≤ among m k.held + c
  unfolding held_in
  head_held k p o true c h = let here = held_most m p k.held in omega arith
  head_held k p o false c h = omega arith

  pub name_held : (ks : List (Known Name)) (p : Name) → tally m (HeldAt ks p) ≤ at_names m ks
  unfolding refs.entry_of at_names held_in tally
  name_held [] p = omega arith
  name_held (k ∷ ks) p = let rest = head_held k p (refs.entry_of K ks p) (K.same k.name p) (at_names m ks) (name_held ks p) in omega arith

  one_name : (k : Known Name) (p : Name) → K.same k.name p ≡ true → k.name ≡ p
  unfolding refs.entry_of
  one_name k p e = entry_name script v (k ∷ []) p k (ap (λ b. elim b [ true ↦ Some k | false ↦ None ]) e)

  two_names : (ks : List (Known Name)) (p q : Name) → (p ≡ q → ⊥) → tally m (HeldAt ks p) + tally m (HeldAt ks q) ≤ at_names m ks
  unfolding refs.entry_of at_names held_in tally
  two_names [] p q n = omega arith
  two_names (k ∷ ks) p q n = go (two_names ks p q n) (K.same k.name p) (K.same k.name q) refl refl
    where
      go : tally m (HeldAt ks p) + tally m (HeldAt ks q) ≤ at_names m ks → (a b : Bool) → K.same k.name p ≡ a → K.same k.name q ≡ b
          → tally m (held_in p (elim a [ true ↦ Some k | false ↦ refs.entry_of K ks p ])) + tally m (held_in q (elim b [ true ↦ Some k | false ↦ refs.entry_of K ks q ])) ≤ among m k.held + among m k.reactions + at_names m ks
      go r true true e f = absurd (n (sym (one_name k p e) ∙ one_name k q f))
      go r true false e f = let here = held_most m p k.held in let rest = name_held ks q in omega arith
      go r false true e f = let here = held_most m q k.held in let rest = name_held ks p in omega arith
      go r false false e f = let both = r in let x = held_most m p k.held in omega arith

-- ---- the links

module _ (m : Name) where
  one_link : (a b : ℕ) (ls : List Link) (l : Link) → world.link_at a b ls ≡ Some l → on_link m l ≤ total (on_link m) ls
  unfolding world.link_at total
  one_link a b [] l e = cc
  one_link a b (k ∷ ls) l e = go (λ f. one_link a b ls l f) (world.is_link a b k) e
    where
      go : (world.link_at a b ls ≡ Some l → on_link m l ≤ total (on_link m) ls) → (c : Bool) → ◌≡◌ {A = Option Link} (elim c [ true ↦ Some k | false ↦ world.link_at a b ls ]) (Some l) → on_link m l ≤ on_link m k + total (on_link m) ls
      go r true f = let same : on_link m k ≡ on_link m l = ap (on_link m) (some_same k l f) in omega arith
      go r false f = let rest = r f in omega arith

  both_ends : (a b c d : ℕ) (k : Link) → world.is_link a b k ≡ true → world.is_link c d k ≡ true → Way a b ≡ Way c d
  both_ends a b c d k e f = let x = ends_of a b k e in let y = ends_of c d k f in ap (λ z. Way z b) (sym x.0 ∙ y.0) ∙ ap (λ z. Way c z) (sym x.1 ∙ y.1)

  two_links : (a b c d : ℕ) (ls : List Link) (l j : Link) → (Way a b ≡ Way c d → ⊥) → world.link_at a b ls ≡ Some l → world.link_at c d ls ≡ Some j → on_link m l + on_link m j ≤ total (on_link m) ls
  unfolding world.link_at total
  two_links a b c d [] l j n e f = cc
  two_links a b c d (k ∷ ls) l j n e f = go (λ g h. two_links a b c d ls l j n g h) (world.is_link a b k) (world.is_link c d k) refl refl e f
    where
      go : (world.link_at a b ls ≡ Some l → world.link_at c d ls ≡ Some j → on_link m l + on_link m j ≤ total (on_link m) ls) → (x y : Bool) → world.is_link a b k ≡ x → world.is_link c d k ≡ y → ◌≡◌ {A = Option Link} (elim x [ true ↦ Some k | false ↦ world.link_at a b ls ]) (Some l) → ◌≡◌ {A = Option Link} (elim y [ true ↦ Some k | false ↦ world.link_at c d ls ]) (Some j)
          → on_link m l + on_link m j ≤ on_link m k + total (on_link m) ls
      go r true true p q g h = absurd (n (both_ends a b c d k p q))
      go r true false p q g h = let same : on_link m k ≡ on_link m l = ap (on_link m) (some_same k l g) in let rest = one_link c d ls j h in omega arith
      go r false true p q g h = let same : on_link m k ≡ on_link m j = ap (on_link m) (some_same k j h) in let rest = one_link a b ls l g in omega arith
      go r false false p q g h = let rest = r g h in omega arith

-- ---- lanes of a world

module _ (script : Script) (honest : ℕ → Bool) (w : World) (m : Name) where
  abbrev pub U : Ways
  U = ways_of script honest w.vats w.links

  -- how often it stands in a lane
  abbrev pub Count : Lane → ℕ
  Count l = tally m (U.stands l)

  -- of what lies at a vat
  abbrev pub AtVat : ℕ → ℕ
  AtVat v = elim (slice_get w.vats v) [ Some s ↦ at_vat m s | None ↦ 0 ]

  abbrev OnLink : ℕ → ℕ → ℕ
  OnLink a b = elim (world.link_at a b w.links) [ Some l ↦ on_link m l | None ↦ 0 ]

  queue_here : (o : Option (Vat Name)) → tally m (elim o [ Some s ↦ queued s.queue | None ↦ [] ]) ≤ elim o [ Some s ↦ at_vat m s | None ↦ 0 ]
  unfolding tally at_vat
  queue_here (Some s) = let a = queued_most m s.queue in omega arith
  queue_here None = omega arith

  held_here : (v : ℕ) (p : Name) (o : Option (Vat Name)) → tally m (elim o [ Some s ↦ held_in p (refs.entry_of (names script v) s.known p) | None ↦ [] ]) ≤ elim o [ Some s ↦ at_vat m s | None ↦ 0 ]
  unfolding tally at_vat
  held_here v p (Some s) = let a = name_held script v m s.known p in omega arith
  held_here v p None = omega arith

  -- two lanes of one vat, of which the first is its queue
  queue_and_held : (v : ℕ) (p : Name) (o : Option (Vat Name)) → tally m (elim o [ Some s ↦ queued s.queue | None ↦ [] ]) + tally m (elim o [ Some s ↦ held_in p (refs.entry_of (names script v) s.known p) | None ↦ [] ]) ≤ elim o [ Some s ↦ at_vat m s | None ↦ 0 ]
  unfolding tally at_vat
  queue_and_held v p (Some s) = let a = queued_most m s.queue in let b = name_held script v m s.known p in omega arith
  queue_and_held v p None = omega arith

  both_held : (v : ℕ) (p q : Name) → (p ≡ q → ⊥) → (o : Option (Vat Name))
      → tally m (elim o [ Some s ↦ held_in p (refs.entry_of (names script v) s.known p) | None ↦ [] ]) + tally m (elim o [ Some s ↦ held_in q (refs.entry_of (names script v) s.known q) | None ↦ [] ]) ≤ elim o [ Some s ↦ at_vat m s | None ↦ 0 ]
  unfolding tally at_vat
  both_held v p q n (Some s) = let a = two_names script v m s.known p q n in omega arith
  both_held v p q n None = omega arith

  honest_most : (l : Link) (b : Bool) → tally m (elim b [ true ↦ delivered l.notes | false ↦ [] ]) ≤ on_link m l
  unfolding tally on_link
  honest_most l true = delivered_most m l.notes
  honest_most l false = omega arith

  way_most : (o : Option Link) → tally m (elim o [ Some l ↦ elim (is_honest script honest l) [ true ↦ delivered l.notes | false ↦ [] ] | None ↦ [] ]) ≤ elim o [ Some l ↦ on_link m l | None ↦ 0 ]
  unfolding tally
  way_most (Some l) = honest_most l (is_honest script honest l)
  way_most None = omega arith

  -- of each lane
  pub queue_most : (v : ℕ) → Count (Queue v) ≤ AtVat v
  unfolding ways_of stands_at
  queue_most v = queue_here (slice_get w.vats v)

  pub name_most : (v : ℕ) (p : Name) → Count (Held v p) ≤ AtVat v
  unfolding ways_of stands_at
  name_most v p = held_here v p (slice_get w.vats v)

  pub link_most : (a b : ℕ) → Count (Way a b) ≤ OnLink a b
  unfolding ways_of stands_at
  link_most a b = way_most (world.link_at a b w.links)

  queue_name : (v : ℕ) (p : Name) → Count (Queue v) + Count (Held v p) ≤ AtVat v
  unfolding ways_of stands_at
  queue_name v p = queue_and_held v p (slice_get w.vats v)

  name_name : (v : ℕ) (p q : Name) → (p ≡ q → ⊥) → Count (Held v p) + Count (Held v q) ≤ AtVat v
  unfolding ways_of stands_at
  name_name v p q n = both_held v p q n (slice_get w.vats v)

  -- what a vat has, and another
  pub at_most : (v : ℕ) (o : Option (Vat Name)) → slice_get w.vats v ≡ o → elim o [ Some s ↦ at_vat m s | None ↦ 0 ] ≤ total (at_vat m) w.vats
  at_most v (Some s) e = one_of (at_vat m) w.vats v s e
  at_most v None e = omega arith

  two_at : (u v : ℕ) → (u ≡ v → ⊥) → (o p : Option (Vat Name)) → slice_get w.vats u ≡ o → slice_get w.vats v ≡ p → elim o [ Some s ↦ at_vat m s | None ↦ 0 ] + elim p [ Some s ↦ at_vat m s | None ↦ 0 ] ≤ total (at_vat m) w.vats
  two_at u v n (Some s) (Some t) e f = two_of (at_vat m) w.vats u v s t n e f
  two_at u v n (Some s) None e f = let a = one_of (at_vat m) w.vats u s e in omega arith
  two_at u v n None (Some t) e f = let a = one_of (at_vat m) w.vats v t f in omega arith
  two_at u v n None None e f = omega arith

  pub on_most : (a b : ℕ) (o : Option Link) → world.link_at a b w.links ≡ o → elim o [ Some l ↦ on_link m l | None ↦ 0 ] ≤ total (on_link m) w.links
  on_most a b (Some l) e = one_link m a b w.links l e
  on_most a b None e = omega arith

  two_on : (a b c d : ℕ) → (Way a b ≡ Way c d → ⊥) → (o p : Option Link) → world.link_at a b w.links ≡ o → world.link_at c d w.links ≡ p → elim o [ Some l ↦ on_link m l | None ↦ 0 ] + elim p [ Some l ↦ on_link m l | None ↦ 0 ] ≤ total (on_link m) w.links
  two_on a b c d n (Some l) (Some k) e f = two_links m a b c d w.links l k n e f
  two_on a b c d n (Some l) None e f = let x = one_link m a b w.links l e in omega arith
  two_on a b c d n None (Some k) e f = let x = one_link m c d w.links k f in omega arith
  two_on a b c d n None None e f = omega arith

  -- two lanes at vats
  pub vat_vat : (u v a b : ℕ) → a ≤ AtVat u → b ≤ AtVat v → (u ≡ v → a + b ≤ AtVat v) → a + b ≤ total (at_vat m) w.vats
  vat_vat u v a b h k f = go (u == v) refl
    where
      go : (c : Bool) → (u == v) ≡ c → a + b ≤ total (at_vat m) w.vats
      go true e = let here = f (eqb-true u v e) in let most = at_most v (slice_get w.vats v) refl in omega arith
      go false e = let most = two_at u v (eqb-false u v e) (slice_get w.vats u) (slice_get w.vats v) refl refl in omega arith

  -- in two lanes it stands no more often than it has places
  pair : (l k : Lane) → (l ≡ k → ⊥) → Count l + Count k ≤ places m w
  unfolding places
  pair (Queue u) (Queue v) n = let most = vat_vat u v (Count (Queue u)) (Count (Queue v)) (queue_most u) (queue_most v) (λ e. absurd (n (ap Queue e))) in omega arith
  pair (Queue u) (Held v p) n = let most = vat_vat u v (Count (Queue u)) (Count (Held v p)) (queue_most u) (name_most v p) (λ e. subst (λ x. Count (Queue x) + Count (Held v p) ≤ AtVat v) (sym e) (queue_name v p)) in omega arith
  pair (Held u p) (Queue v) n = let most = vat_vat v u (Count (Queue v)) (Count (Held u p)) (queue_most v) (name_most u p) (λ e. subst (λ x. Count (Queue x) + Count (Held u p) ≤ AtVat u) (sym e) (queue_name u p)) in omega arith
  pair (Held u p) (Held v q) n = let most = vat_vat u v (Count (Held u p)) (Count (Held v q)) (name_most u p) (name_most v q)
      (λ e. subst (λ x. Count (Held x p) + Count (Held v q) ≤ AtVat v) (sym e) (name_name v p q (λ f. n (ap (λ x. Held x p) e ∙ ap (λ y. Held v y) f)))) in omega arith
  pair (Queue u) (Way a b) n = let x = queue_most u in let y = link_most a b in let f = at_most u (slice_get w.vats u) refl in let g = on_most a b (world.link_at a b w.links) refl in omega arith
  pair (Held u p) (Way a b) n = let x = name_most u p in let y = link_most a b in let f = at_most u (slice_get w.vats u) refl in let g = on_most a b (world.link_at a b w.links) refl in omega arith
  pair (Way a b) (Queue u) n = let x = queue_most u in let y = link_most a b in let f = at_most u (slice_get w.vats u) refl in let g = on_most a b (world.link_at a b w.links) refl in omega arith
  pair (Way a b) (Held u p) n = let x = name_most u p in let y = link_most a b in let f = at_most u (slice_get w.vats u) refl in let g = on_most a b (world.link_at a b w.links) refl in omega arith
  pair (Way a b) (Way c d) n = let x = link_most a b in let y = link_most c d in let most = two_on a b c d n (world.link_at a b w.links) (world.link_at c d w.links) refl refl in omega arith

  pub lane_most : (l : Lane) → Count l ≤ places m w
  unfolding places
  lane_most (Queue u) = let x = queue_most u in let f = at_most u (slice_get w.vats u) refl in omega arith
  lane_most (Held u p) = let x = name_most u p in let f = at_most u (slice_get w.vats u) refl in omega arith
  lane_most (Way a b) = let y = link_most a b in let g = on_most a b (world.link_at a b w.links) refl in omega arith

  there : (l : Lane) (b : List Item) (n : Name) → StandsAt U m l b n → 1 ≤ Count l
  there l b n s = subst (λ js. 1 ≤ tally m js) (sym s.found) (in_middle m n b s.behind)

  once_in : places m w ≤ 1 → StandsOnce U m
  once_in most l k b c n o s t = go (same_lane l k)
    where
      go : (l ≡ k) ⊎ (l ≡ k → ⊥) → Mid k c o ≡ Mid l b n
      go (inl e) =
          let few : tally m (b ++ item m n ∷ s.behind) ≤ 1 = subst (λ js. tally m js ≤ 1) s.found (let a = lane_most l in omega arith) in
          let same = one_place m n o b c s.behind t.behind few (sym s.found ∙ ap (λ x. U.stands x) e ∙ t.found) in
          sym (ap (λ x. Mid x b n) e ∙ ap (λ x. Mid k x n) same.0 ∙ ap (λ x. Mid k c x) same.1)
      go (inr f) = let a = there l b n s in let d = there k c o t in let both = pair l k f in absurd (omega arith)

-- ---- the law

few_of : (m : Name) (w : World) → (places m w + fate.fates m w.history ≤ fate.sent m w.history) × (fate.sent m w.history ≤ 1) → places m w ≤ 1
few_of m w h = let a = h.0 in let b = h.1 in omega arith

pub messages_stand_once : MessagesStandOnce
unfolding ways
messages_stand_once script = (
  λ ps rest w i e honest m. once_in script honest w m (few_of m w (reached_is (λ x. (places m x + fate.fates m x.history ≤ fate.sent m x.history) × (fate.sent m x.history ≤ 1)) _ w e ((places_and_fates m script).0 ps))),
  λ w x es k o e honest m. once_in script honest x m (few_of m x (reached_is (λ y. (places m y + fate.fates m y.history ≤ fate.sent m y.history) × (fate.sent m y.history ≤ 1)) _ x e ((places_and_fates m script).1 w es k o))),
)
