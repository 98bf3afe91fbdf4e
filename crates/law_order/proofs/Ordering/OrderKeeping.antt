-- A note that is kept in front of its link: what stands and where lanes lead as it leaves.
use Rattle.std.proofs.Common.{◌≡◌, ℕ, Bool, true, false, List, [], ◌∷◌, ◌++◌, Option, Some, None, refl, sym, ap, subst, ◌∙◌, ◌⊎◌, inl, inr}
use Rattle.std.specs.Prelude.{slice_get, not, ◌==◌, ◌&&◌, ◌||◌}
use Rattle.def_machine.specs.Values.{Words, Value, Ref, Name, Gift}
use Rattle.def_machine.specs.State.{Standing, Unsettled, WaitsOn, Viewed, Settled, Passeds, Delivery, Note, Deliver, Ask, SettledTo, Elsewhere, Put, Vat, GiftEntry}
use Rattle.def_machine.specs.Refs as refs
use Rattle.def_run.specs.World.{Script, Link, names}
use Rattle.def_run.specs.World as world
use Rattle.law_order.specs.Ordering.Ways.{Lane, Queue, Held, Way, Item, Place, Nowhere, Free, IsIn}
use Rattle.law_order.specs.Ordering.Changes.{Beheads, stays, nearer}
use Rattle.law_order.specs.Ordering.Places.{item, delivered, opens, shortens, subject, in_lane, note_place, any_note, first_place, opened_there, is_honest, open_place, shorten_place, was_put, or_never, gift_place, leads, unsettled, released, released_at, stands_at, over, onward_at, ways_of, ways, amid}
use Rattle.law_order.specs.Ordering.Arrivals.{in_front, keeping, ArrivingChangesNothing, IsSilent, SilentNotesLeave}
use Rattle.law_order.specs.Ordering.Worlds.{LetsNothingGo, SameWays}
use Rattle.law_order.specs.Ordering.Growing.{IsTest}
use Rattle.law_order.proofs.Ordering.Pushing.{opens_test, shortens_test}
use Rattle.law_order.proofs.Ordering.Sends.{pushed_shut, pushed_open, pushed_ends, none_some, some_same, ends_of, link_here, link_behind}

-- ---- a list of links with that note kept, and without it

-- the note was put back where it stood
kept_here : (l : Link) (n : Note Name) (ns : List (Note Name)) → l.notes ≡ n ∷ ns → in_front n (world.with_notes ns l) ≡ l
unfolding in_front world.with_notes
kept_here l n ns e = subst (λ ms. record l { notes = ms } ≡ l) e refl

pub with_here : (f : Link → Link) (a b : ℕ) (k : Link) (ls : List Link) → world.is_link a b k ≡ true → world.with_link f a b (k ∷ ls) ≡ f k ∷ ls
unfolding world.with_link
with_here f a b k ls e = subst (λ c. elim c [ true ↦ f k ∷ ls | false ↦ k ∷ world.with_link f a b ls ] ≡ f k ∷ ls) (sym e) refl

pub with_behind : (f : Link → Link) (a b : ℕ) (k : Link) (ls : List Link) → world.is_link a b k ≡ false → world.with_link f a b (k ∷ ls) ≡ k ∷ world.with_link f a b ls
unfolding world.with_link
with_behind f a b k ls e = subst (λ c. elim c [ true ↦ f k ∷ ls | false ↦ k ∷ world.with_link f a b ls ] ≡ k ∷ world.with_link f a b ls) (sym e) refl

noted_link : (a b : ℕ) (ns : List (Note Name)) (k : Link) → world.is_link a b (world.with_notes ns k) ≡ world.is_link a b k
unfolding world.is_link world.with_notes
noted_link a b ns k = refl

pub front_link : (a b : ℕ) (n : Note Name) (k : Link) → world.is_link a b (in_front n k) ≡ world.is_link a b k
unfolding world.is_link in_front
front_link a b n k = refl

kept_links : (a b : ℕ) (ls : List Link) (l : Link) (n : Note Name) (ns : List (Note Name)) → world.link_at a b ls ≡ Some l → l.notes ≡ n ∷ ns → world.with_link (in_front n) a b (world.with_link (world.with_notes ns) a b ls) ≡ ls
unfolding world.link_at world.with_link
kept_links a b [] l n ns e f = refl
kept_links a b (k ∷ ls) l n ns e f = go (λ q. kept_links a b ls l n ns q f) (world.is_link a b k) refl e
  where
    go : (world.link_at a b ls ≡ Some l → world.with_link (in_front n) a b (world.with_link (world.with_notes ns) a b ls) ≡ ls) → (c : Bool) → world.is_link a b k ≡ c → elim c [ true ↦ Some k | false ↦ world.link_at a b ls ] ≡ Some l
        → world.with_link (in_front n) a b (world.with_link (world.with_notes ns) a b (k ∷ ls)) ≡ k ∷ ls
    go g true i q =
        ap (λ js. world.with_link (in_front n) a b js) (with_here (world.with_notes ns) a b k ls i)
        ∙ with_here (in_front n) a b (world.with_notes ns k) ls (noted_link a b ns k ∙ i)
        ∙ ap (λ j. j ∷ ls) (kept_here k n ns (subst (λ j. j.notes ≡ n ∷ ns) (sym (some_same k l q)) f))
    go g false i q =
        ap (λ js. world.with_link (in_front n) a b js) (with_behind (world.with_notes ns) a b k ls i)
        ∙ with_behind (in_front n) a b k (world.with_link (world.with_notes ns) a b ls) i
        ∙ ap (λ js. k ∷ js) (g q)

pub arriving_changes_nothing : ArrivingChangesNothing
unfolding keeping
arriving_changes_nothing = λ w a b l n ns e f. ap (λ ls. record w { links = ls }) (kept_links a b w.links l n ns e f)

-- ---- notes that are put meanwhile

front_pushed : (n p : Note Name) (l : Link) (c : Bool) → l.cut ≡ c → world.pushed p (in_front n l) ≡ in_front n (world.pushed p l)
unfolding in_front
front_pushed n p l true e = pushed_shut p (in_front n l) e ∙ sym (ap (λ j. in_front n j) (pushed_shut p l e))
front_pushed n p l false e = pushed_open p (in_front n l) e ∙ sym (ap (λ j. in_front n j) (pushed_open p l e))

pub pushed_link : (a b : ℕ) (p : Note Name) (k : Link) → world.is_link a b (world.pushed p k) ≡ world.is_link a b k
pushed_link a b p k = pushed_ends k.cut p k a b refl

-- of one note that is put
put_on : (a b v h : ℕ) (n p : Note Name) (ls : List Link) → world.with_link (world.pushed p) v h (world.with_link (in_front n) a b ls) ≡ world.with_link (in_front n) a b (world.with_link (world.pushed p) v h ls)
unfolding world.with_link
put_on a b v h n p [] = refl
put_on a b v h n p (k ∷ ls) = go (put_on a b v h n p ls) (world.is_link a b k) (world.is_link v h k) refl refl
  where
    go : world.with_link (world.pushed p) v h (world.with_link (in_front n) a b ls) ≡ world.with_link (in_front n) a b (world.with_link (world.pushed p) v h ls)
        → (c d : Bool) → world.is_link a b k ≡ c → world.is_link v h k ≡ d → world.with_link (world.pushed p) v h (world.with_link (in_front n) a b (k ∷ ls)) ≡ world.with_link (in_front n) a b (world.with_link (world.pushed p) v h (k ∷ ls))
    go g true true i j =
        ap (λ js. world.with_link (world.pushed p) v h js) (with_here (in_front n) a b k ls i)
        ∙ with_here (world.pushed p) v h (in_front n k) ls (front_link v h n k ∙ j)
        ∙ ap (λ q. q ∷ ls) (front_pushed n p k k.cut refl)
        ∙ sym (ap (λ js. world.with_link (in_front n) a b js) (with_here (world.pushed p) v h k ls j) ∙ with_here (in_front n) a b (world.pushed p k) ls (pushed_link a b p k ∙ i))
    go g true false i j =
        ap (λ js. world.with_link (world.pushed p) v h js) (with_here (in_front n) a b k ls i)
        ∙ with_behind (world.pushed p) v h (in_front n k) ls (front_link v h n k ∙ j)
        ∙ sym (ap (λ js. world.with_link (in_front n) a b js) (with_behind (world.pushed p) v h k ls j) ∙ with_here (in_front n) a b k (world.with_link (world.pushed p) v h ls) i)
    go g false true i j =
        ap (λ js. world.with_link (world.pushed p) v h js) (with_behind (in_front n) a b k ls i)
        ∙ with_here (world.pushed p) v h k (world.with_link (in_front n) a b ls) j
        ∙ sym (ap (λ js. world.with_link (in_front n) a b js) (with_here (world.pushed p) v h k ls j) ∙ with_behind (in_front n) a b (world.pushed p k) ls (pushed_link a b p k ∙ i))
    go g false false i j =
        ap (λ js. world.with_link (world.pushed p) v h js) (with_behind (in_front n) a b k ls i)
        ∙ with_behind (world.pushed p) v h k (world.with_link (in_front n) a b ls) j
        ∙ ap (λ js. k ∷ js) g
        ∙ sym (ap (λ js. world.with_link (in_front n) a b js) (with_behind (world.pushed p) v h k ls j) ∙ with_behind (in_front n) a b k (world.with_link (world.pushed p) v h ls) i)

pub all_put_on : (a b v : ℕ) (n : Note Name) (ps : List (Put Name)) (ls : List Link) → world.push_all v ps (world.with_link (in_front n) a b ls) ≡ world.with_link (in_front n) a b (world.push_all v ps ls)
unfolding world.push_all
all_put_on a b v n [] ls = refl
all_put_on a b v n (p ∷ ps) ls = ap (λ js. world.push_all v ps js) (put_on a b v p.to n p.note ls) ∙ all_put_on a b v n ps (world.with_link (world.pushed p.note) v p.to ls)

-- ---- what may become of a place as the note leaves

second_of_both : (a b : Bool) → (a && b) ≡ true → b ≡ true
second_of_both false true e = refl
second_of_both other another e = e

-- of the gifts of which G holds
module _ (R : Place → Place → Type 0) (G : ℕ → ℕ → Type 0) where
  abbrev pub Each : Option Place → Option Place → Type 0
  Each None None = Unit {0}
  Each (Some c) (Some d) = R c d
  Each other another = ⊥

  each_first : (c d e f : Option Place) → Each c d → Each e f → Each (first_place c e) (first_place d f)
  unfolding first_place
  each_first None None e f g h = h
  each_first (Some c) (Some d) e f g h = g
  each_first other another e f g h = absurd g

  -- the first link with the note kept, the second without it
  pub record LinkLeaves (k l : Link) : Type 0 where
    pub from : l.from ≡ k.from
    pub to : l.to ≡ k.to
    pub cut : l.cut ≡ k.cut
    pub opened : (h i : ℕ) → G h i → (k.to == h) ≡ true → any_note (opens i) l.log ≡ any_note (opens i) k.log
    pub shortened : (h i : ℕ) → G h i → any_note (shortens h i) l.log ≡ any_note (shortens h i) k.log
    pub opening : (h i : ℕ) → G h i → (k.to == h) ≡ true → Each (note_place (opens i) (Way k.from k.to) [] k.notes) (note_place (opens i) (Way l.from l.to) [] l.notes)
    pub shortening : (h i : ℕ) → G h i → Each (note_place (shortens h i) (Way k.from k.to) [] k.notes) (note_place (shortens h i) (Way l.from l.to) [] l.notes)

  abbrev pub AllLeave : List Link → List Link → Type 0
  AllLeave [] [] = Unit {0}
  AllLeave (k ∷ ks) (l ∷ ls) = LinkLeaves k l × AllLeave ks ls
  AllLeave other another = ⊥

  module _ (self : (c : Place) → R c c) where
    each_self : (o : Option Place) → Each o o
    each_self None = tt
    each_self (Some c) = self c

    pub link_self : (l : Link) → LinkLeaves l l
    link_self l = record { from = refl; to = refl; cut = refl; opened = λ h i g e. refl; shortened = λ h i g. refl; opening = λ h i g e. each_self (note_place (opens i) (Way l.from l.to) [] l.notes); shortening = λ h i g. each_self (note_place (shortens h i) (Way l.from l.to) [] l.notes) }

    pub all_self : (ls : List Link) → AllLeave ls ls
    all_self [] = tt
    all_self (l ∷ ls) = (link_self l, all_self ls)

    module _ (script : Script) (honest : ℕ → Bool) where
      each_if : (c : Bool) (p q e f : Option Place) → (c ≡ true → Each p q) → Each e f → Each (elim c [ true ↦ first_place p e | false ↦ e ]) (elim c [ true ↦ first_place q f | false ↦ f ])
      each_if true p q e f g h = each_first p q e f (g refl) h
      each_if false p q e f g h = h

      open_leaves : (h i : ℕ) → G h i → (ks ls : List Link) → AllLeave ks ls → Each (open_place script honest h i ks) (open_place script honest h i ls)
      unfolding open_place is_honest
      open_leaves h i o [] [] g = tt
      open_leaves h i o (k ∷ ks) (l ∷ ls) g =
          let p : Option Place = note_place (opens i) (Way k.from k.to) [] k.notes in
          let q : Option Place = note_place (opens i) (Way l.from l.to) [] l.notes in
          let e : Option Place = open_place script honest h i ks in
          let f : Option Place = open_place script honest h i ls in
          subst (λ x. Each (open_place script honest h i (k ∷ ks)) (elim ((honest x && honest l.to) && (l.to == h)) [ true ↦ first_place q f | false ↦ f ])) (sym g.0.from)
          (subst (λ x. Each (open_place script honest h i (k ∷ ks)) (elim ((honest k.from && honest x) && (x == h)) [ true ↦ first_place q f | false ↦ f ])) (sym g.0.to)
          (each_if ((honest k.from && honest k.to) && (k.to == h)) p q e f (λ c. g.0.opening h i o (second_of_both (honest k.from && honest k.to) (k.to == h) c)) (open_leaves h i o ks ls g.1)))
      open_leaves h i o other another g = absurd g

      shorten_leaves : (h i : ℕ) → G h i → (ks ls : List Link) → AllLeave ks ls → Each (shorten_place script honest h i ks) (shorten_place script honest h i ls)
      unfolding shorten_place is_honest
      shorten_leaves h i o [] [] g = tt
      shorten_leaves h i o (k ∷ ks) (l ∷ ls) g =
          let p : Option Place = note_place (shortens h i) (Way k.from k.to) [] k.notes in
          let q : Option Place = note_place (shortens h i) (Way l.from l.to) [] l.notes in
          let e : Option Place = shorten_place script honest h i ks in
          let f : Option Place = shorten_place script honest h i ls in
          subst (λ x. Each (shorten_place script honest h i (k ∷ ks)) (elim (honest x && honest l.to) [ true ↦ first_place q f | false ↦ f ])) (sym g.0.from)
          (subst (λ x. Each (shorten_place script honest h i (k ∷ ks)) (elim (honest k.from && honest x) [ true ↦ first_place q f | false ↦ f ])) (sym g.0.to)
          (each_if (honest k.from && honest k.to) p q e f (λ c. g.0.shortening h i o) (shorten_leaves h i o ks ls g.1)))
      shorten_leaves h i o other another g = absurd g

      logged_if : (c d e : Bool) → (c ≡ true → d ≡ e) → (c && d) ≡ (c && e)
      logged_if true d e f = f refl
      logged_if false d e f = refl

      put_leaves : (h i : ℕ) → G h i → (ks ls : List Link) → AllLeave ks ls → was_put script honest h i ls ≡ was_put script honest h i ks
      unfolding was_put is_honest
      put_leaves h i o [] [] g = refl
      put_leaves h i o (k ∷ ks) (l ∷ ls) g =
          ap (λ x. ((honest x && honest l.to) && (((l.to == h) && any_note (opens i) l.log) || any_note (shortens h i) l.log)) || was_put script honest h i ls) g.0.from
          ∙ ap (λ x. ((honest k.from && honest x) && (((x == h) && any_note (opens i) l.log) || any_note (shortens h i) l.log)) || was_put script honest h i ls) g.0.to
          ∙ ap (λ x. ((honest k.from && honest k.to) && (x || any_note (shortens h i) l.log)) || was_put script honest h i ls) (logged_if (k.to == h) (any_note (opens i) l.log) (any_note (opens i) k.log) (g.0.opened h i o))
          ∙ ap (λ x. ((honest k.from && honest k.to) && (((k.to == h) && any_note (opens i) k.log) || x)) || was_put script honest h i ls) (g.0.shortened h i o)
          ∙ ap (λ x. ((honest k.from && honest k.to) && (((k.to == h) && any_note (opens i) k.log) || any_note (shortens h i) k.log)) || x) (put_leaves h i o ks ls g.1)
      put_leaves h i o other another g = absurd g

      or_leaves : (c : Bool) (p q : Option Place) → Each p q → R (or_never script honest c p) (or_never script honest c q)
      unfolding or_never
      or_leaves true None None g = self Nowhere
      or_leaves false None None g = self Free
      or_leaves true (Some c) (Some d) g = g
      or_leaves false (Some c) (Some d) g = g
      or_leaves c other another g = absurd g

      pub gift_leaves : (h i : ℕ) → G h i → (ks ls : List Link) → AllLeave ks ls → R (gift_place script honest h i ks) (gift_place script honest h i ls)
      unfolding gift_place
      gift_leaves h i o ks ls g = subst (λ c. R (gift_place script honest h i ks) (or_never script honest c (first_place (open_place script honest h i ls) (shorten_place script honest h i ls)))) (sym (put_leaves h i o ks ls g))
          (or_leaves (was_put script honest h i ks) (first_place (open_place script honest h i ks) (shorten_place script honest h i ks)) (first_place (open_place script honest h i ls) (shorten_place script honest h i ls)) (each_first (open_place script honest h i ks) (open_place script honest h i ls) (shorten_place script honest h i ks) (shorten_place script honest h i ls) (open_leaves h i o ks ls g) (shorten_leaves h i o ks ls g)))

      -- ---- where lanes lead

      module _ (vs : List (Vat Name)) (ks ls : List Link) (g : AllLeave ks ls) where
        abbrev pub Fits : Name → Type 0
        Fits (Gift h i) = G h i
        Fits other = Unit {0}

        abbrev pub FitsLane : Lane → Type 0
        FitsLane (Held u p) = Fits p
        FitsLane other = Unit {0}

        unsettled_if : (c : Bool) (h i : ℕ) → G h i → R (elim c [ true ↦ gift_place script honest h i ks | false ↦ Free ]) (elim c [ true ↦ gift_place script honest h i ls | false ↦ Free ])
        unsettled_if true h i o = gift_leaves h i o ks ls g
        unsettled_if false h i o = self Free

        unsettled_leaves : (u : ℕ) (p : Name) → Fits p → (gs : List (GiftEntry Name)) → R (unsettled script honest vs ks u p gs) (unsettled script honest vs ls u p gs)
        unfolding unsettled
        unsettled_leaves u (Gift h i) o gs = unsettled_if ((h == u) && not (opened_there (Gift h i) gs)) h i o
        unsettled_leaves u other o gs = self Free

        leads_still : (u : ℕ) (x : Value Name) → leads script honest vs ls u x ≡ leads script honest vs ks u x
        unfolding leads
        leads_still u x = refl

        released_leaves : (u : ℕ) (p : Name) → Fits p → (gs : List (GiftEntry Name)) (q : Standing Name) → R (released script honest vs ks u p gs q) (released script honest vs ls u p gs q)
        unfolding released
        released_leaves u p f gs Unsettled = unsettled_leaves u p f gs
        released_leaves u p f gs (WaitsOn z) = rw (leads_still u (Ref z)) (self (leads script honest vs ks u (Ref z)))
        released_leaves u p f gs (Viewed z) = rw (leads_still u (Ref z)) (self (leads script honest vs ks u (Ref z)))
        released_leaves u p f gs (Settled y) = rw (leads_still u y) (self (leads script honest vs ks u y))

        pub held_leaves : (u : ℕ) (p : Name) → Fits p → (o : Option (Vat Name)) → R (released_at script honest vs ks u p o) (released_at script honest vs ls u p o)
        unfolding released_at
        held_leaves u p f (Some r) = released_leaves u p f r.gifts (refs.standing_of (names script u) r.known p)
        held_leaves u p f None = self Nowhere

        over_still : (b : ℕ) (n : Name) (k l : Link) → LinkLeaves k l → over script honest vs ls b n l ≡ over script honest vs ks b n k
        unfolding over is_honest leads
        over_still b n k l h =
            ap (λ c. elim (honest c && honest l.to) [ true ↦ elim l.cut [ true ↦ Nowhere | false ↦ leads script honest vs ls b (Ref n) ] | false ↦ Free ]) h.from
            ∙ ap (λ c. elim (honest k.from && honest c) [ true ↦ elim l.cut [ true ↦ Nowhere | false ↦ leads script honest vs ls b (Ref n) ] | false ↦ Free ]) h.to
            ∙ ap (λ c. elim (honest k.from && honest k.to) [ true ↦ elim c [ true ↦ Nowhere | false ↦ leads script honest vs ls b (Ref n) ] | false ↦ Free ]) h.cut

        abbrev Found : Option Link → Option Link → Type 0
        Found None None = Unit {0}
        Found (Some k) (Some l) = LinkLeaves k l
        Found other another = ⊥

        found_if : (c : Bool) (k l : Link) (o p : Option Link) → LinkLeaves k l → Found o p → Found (elim c [ true ↦ Some k | false ↦ o ]) (elim c [ true ↦ Some l | false ↦ p ])
        found_if true k l o p h f = h
        found_if false k l o p h f = f

        same_ends : (x y : ℕ) (k l : Link) → LinkLeaves k l → world.is_link x y l ≡ world.is_link x y k
        unfolding world.is_link
        same_ends x y k l h = ap (λ z. elim (z == x) [ true ↦ l.to == y | false ↦ false ]) h.from ∙ ap (λ z. elim (k.from == x) [ true ↦ z == y | false ↦ false ]) h.to

        found_leaves : (x y : ℕ) (ms ns : List Link) → AllLeave ms ns → Found (world.link_at x y ms) (world.link_at x y ns)
        unfolding world.link_at
        found_leaves x y [] [] h = tt
        found_leaves x y (k ∷ ms) (l ∷ ns) h = subst (λ c. Found (world.link_at x y (k ∷ ms)) (elim c [ true ↦ Some l | false ↦ world.link_at x y ns ])) (sym (same_ends x y k l h.0)) (found_if (world.is_link x y k) k l (world.link_at x y ms) (world.link_at x y ns) h.0 (found_leaves x y ms ns h.1))
        found_leaves x y other another h = absurd h

        abbrev OverOf : List Link → ℕ → Name → Option Link → Place
        OverOf js b n o = elim o [ Some k ↦ over script honest vs js b n k | None ↦ Nowhere ]

        way_still : (b : ℕ) (n : Name) (o p : Option Link) → Found o p → OverOf ls b n p ≡ OverOf ks b n o
        way_still b n None None h = refl
        way_still b n (Some k) (Some l) h = over_still b n k l h
        way_still b n other another h = absurd h

        pub links_still : (x y : ℕ) (n : Name) → onward_at script honest vs ls (Way x y) n ≡ onward_at script honest vs ks (Way x y) n
        unfolding onward_at
        links_still x y n = way_still y n (world.link_at x y ks) (world.link_at x y ls) (found_leaves x y ks ls g)

        pub onward_leaves : (l : Lane) → FitsLane l → (n : Name) → R (onward_at script honest vs ks l n) (onward_at script honest vs ls l n)
        unfolding onward_at
        onward_leaves (Queue u) f n = self Free
        onward_leaves (Held u p) f n = held_leaves u p f (slice_get vs u)
        onward_leaves (Way x y) f n = subst (λ c. R (onward_at script honest vs ks (Way x y) n) c) (sym (links_still x y n)) (self (onward_at script honest vs ks (Way x y) n))

-- ---- every gift

abbrev pub Any : ℕ → ℕ → Type 0
Any h i = Unit {0}

-- ---- a note that lets nothing go

-- behind the items of b, where the note delivers those of d
pub place_front : (f : Note Name → Bool) (l : Lane) (n : Note Name) (ns : List (Note Name)) → f n ≡ false → note_place f l [] (n ∷ ns) ≡ note_place f l (delivered (n ∷ [])) ns
unfolding note_place
place_front f l n ns e = subst (λ c. elim c [ true ↦ in_lane l [] (subject n) | false ↦ note_place f l (delivered (n ∷ [])) ns ] ≡ note_place f l (delivered (n ∷ [])) ns) (sym e) refl

abbrev pub Same : Place → Place → Type 0
Same c d = d ≡ c

pub each_same : (G : ℕ → ℕ → Type 0) (o p : Option Place) → p ≡ o → Each Same G o p
each_same G None None e = tt
each_same G (Some c) (Some d) e = some_same d c e
each_same G None (Some d) e = none_some d (sym e)
each_same G (Some c) None e = none_some c e

-- a note that is silent stands in front of nothing
nothing_delivered : (n : Note Name) → IsSilent n → delivered (n ∷ []) ≡ []
unfolding delivered
nothing_delivered (Ask p i n) h = refl
nothing_delivered (SettledTo n y) h = refl
nothing_delivered (Elsewhere n c) h = refl
nothing_delivered other h = absurd h

lets_nothing : (n : Note Name) → IsSilent n → LetsNothingGo n
lets_nothing (Ask p i n) h = tt
lets_nothing (SettledTo n y) h = tt
lets_nothing (Elsewhere n c) h = tt
lets_nothing other h = absurd h

silent_place : (f : Note Name → Bool) → IsTest f → (l : Lane) (n : Note Name) (ns : List (Note Name)) → IsSilent n → note_place f l [] ns ≡ note_place f l [] (n ∷ ns)
silent_place f t l n ns h = sym (place_front f l n ns (t n (lets_nothing n h)) ∙ ap (λ b. note_place f l b ns) (nothing_delivered n h))

silent_link : (n : Note Name) (l : Link) → IsSilent n → LinkLeaves Same Any (in_front n l) l
unfolding in_front
silent_link n l h = record {
  from = refl;
  to = refl;
  cut = refl;
  opened = λ h i g e. refl;
  shortened = λ h i g. refl;
  opening = λ g i o e. each_same Any (note_place (opens i) (Way l.from l.to) [] (n ∷ l.notes)) (note_place (opens i) (Way l.from l.to) [] l.notes) (silent_place (opens i) (opens_test i) (Way l.from l.to) n l.notes h);
  shortening = λ g i o. each_same Any (note_place (shortens g i) (Way l.from l.to) [] (n ∷ l.notes)) (note_place (shortens g i) (Way l.from l.to) [] l.notes) (silent_place (shortens g i) (shortens_test g i) (Way l.from l.to) n l.notes h);
}

-- ---- the note stands on that link alone

module _ (R : Place → Place → Type 0) (G : ℕ → ℕ → Type 0) (self : (c : Place) → R c c) (a b : ℕ) (n : Note Name) (one : (l : Link) → l.from ≡ a → l.to ≡ b → LinkLeaves R G (in_front n l) l) where
  pub all_leave : (ls : List Link) → AllLeave R G (world.with_link (in_front n) a b ls) ls
  unfolding world.with_link
  all_leave [] = tt
  all_leave (l ∷ ls) = go (all_leave ls) (world.is_link a b l) refl
    where
      go : AllLeave R G (world.with_link (in_front n) a b ls) ls → (c : Bool) → world.is_link a b l ≡ c → AllLeave R G (elim c [ true ↦ in_front n l ∷ ls | false ↦ l ∷ world.with_link (in_front n) a b ls ]) (l ∷ ls)
      go f true i = let e = ends_of a b l i in (one l e.0 e.1, all_self R G self ls)
      go f false i = (link_self R G self l, f)

-- ---- what stands on links

module _ (script : Script) (honest : ℕ → Bool) (vs : List (Vat Name)) (a b : ℕ) (n : Note Name) where
  abbrev Stands : Option Link → List Item
  Stands o = elim o [ Some l ↦ elim (is_honest script honest l) [ true ↦ delivered l.notes | false ↦ [] ] | None ↦ [] ]

  -- what stands there with the note stands there without it, or the note delivers it
  abbrev Comes : ℕ → ℕ → Option Link → Option Link → Type 0
  Comes x y o p = (i : Item) → (IsIn i (Stands o) → IsIn i (Stands p) ⊎ ((x ≡ a) × (y ≡ b) × IsIn i (delivered (n ∷ [])))) × (IsIn i (Stands p) → IsIn i (Stands o))

  comes_self : (x y : ℕ) (o : Option Link) → Comes x y o o
  comes_self x y o i = (λ h. inl h, λ h. h)

  pub more_delivered : (ns : List (Note Name)) (i : Item) → (IsIn i (delivered (n ∷ ns)) → IsIn i (delivered ns) ⊎ IsIn i (delivered (n ∷ []))) × (IsIn i (delivered ns) → IsIn i (delivered (n ∷ ns)))
  unfolding delivered
  more_delivered ns i = go n
    where
      swap : {A B C : Type 0} → A ⊎ B → B ⊎ (A ⊎ C)
      swap (inl x) = inr (inl x)
      swap (inr x) = inl x

      go : (n : Note Name) → (IsIn i (delivered (n ∷ ns)) → IsIn i (delivered ns) ⊎ IsIn i (delivered (n ∷ []))) × (IsIn i (delivered ns) → IsIn i (delivered (n ∷ ns)))
      go (Deliver m o verb ys) = (λ h. swap h, λ h. inr h)
      go other = (λ h. inl h, λ h. h)

  comes_here : (l : Link) → l.from ≡ a → l.to ≡ b → (x y : ℕ) → x ≡ a → y ≡ b → Comes x y (Some (in_front n l)) (Some l)
  unfolding in_front is_honest
  comes_here l e f x y g h i = go (honest l.from && honest l.to)
    where
      with_ends : IsIn i (delivered l.notes) ⊎ IsIn i (delivered (n ∷ [])) → IsIn i (delivered l.notes) ⊎ ((x ≡ a) × (y ≡ b) × IsIn i (delivered (n ∷ [])))
      with_ends (inl q) = inl q
      with_ends (inr q) = inr (g, h, q)

      go : (c : Bool) → (IsIn i (elim c [ true ↦ delivered (n ∷ l.notes) | false ↦ [] ]) → IsIn i (elim c [ true ↦ delivered l.notes | false ↦ [] ]) ⊎ ((x ≡ a) × (y ≡ b) × IsIn i (delivered (n ∷ []))))
          × (IsIn i (elim c [ true ↦ delivered l.notes | false ↦ [] ]) → IsIn i (elim c [ true ↦ delivered (n ∷ l.notes) | false ↦ [] ]))
      go true = (λ q. with_ends ((more_delivered l.notes i).0 q), (more_delivered l.notes i).1)
      go false = (λ q. absurd q, λ q. q)

  comes_at : (x y : ℕ) (ls : List Link) → Comes x y (world.link_at x y (world.with_link (in_front n) a b ls)) (world.link_at x y ls)
  unfolding world.link_at world.with_link
  comes_at x y [] = comes_self x y None
  comes_at x y (l ∷ ls) = go (comes_at x y ls) (world.is_link a b l) (world.is_link x y l) refl refl
    where
      go : Comes x y (world.link_at x y (world.with_link (in_front n) a b ls)) (world.link_at x y ls) → (c d : Bool) → world.is_link a b l ≡ c → world.is_link x y l ≡ d
          → Comes x y (world.link_at x y (elim c [ true ↦ in_front n l ∷ ls | false ↦ l ∷ world.with_link (in_front n) a b ls ])) (elim d [ true ↦ Some l | false ↦ world.link_at x y ls ])
      go f true true i j =
          let e = ends_of a b l i in let g = ends_of x y l j in
          subst (λ o. Comes x y o (Some l)) (sym (link_here x y (in_front n l) ls (front_link x y n l ∙ j))) (comes_here l e.0 e.1 x y (sym g.0 ∙ e.0) (sym g.1 ∙ e.1))
      go f true false i j = subst (λ o. Comes x y o (world.link_at x y ls)) (sym (link_behind x y (in_front n l) ls (front_link x y n l ∙ j))) (comes_self x y (world.link_at x y ls))
      go f false true i j = subst (λ o. Comes x y o (Some l)) (sym (link_here x y l (world.with_link (in_front n) a b ls) j)) (comes_self x y (Some l))
      go f false false i j = subst (λ o. Comes x y o (world.link_at x y ls)) (sym (link_behind x y l (world.with_link (in_front n) a b ls) j)) f

  pub stands_leaves : (ls : List Link) (l : Lane) (i : Item) → IsIn i (stands_at script honest vs (world.with_link (in_front n) a b ls) l) → IsIn i (stands_at script honest vs ls l) ⊎ ((l ≡ Way a b) × IsIn i (delivered (n ∷ [])))
  unfolding stands_at
  stands_leaves ls (Way x y) i h = go ((comes_at x y ls i).0 h)
    where
      go : IsIn i (Stands (world.link_at x y ls)) ⊎ ((x ≡ a) × (y ≡ b) × IsIn i (delivered (n ∷ []))) → IsIn i (Stands (world.link_at x y ls)) ⊎ ((Way x y ≡ Way a b) × IsIn i (delivered (n ∷ [])))
      go (inl q) = inl q
      go (inr q) = inr (ap (λ z. Way z y) q.0 ∙ ap (λ z. Way a z) q.1, q.2)
  stands_leaves ls other i h = inl h

  pub stands_back : (ls : List Link) (l : Lane) (i : Item) → IsIn i (stands_at script honest vs ls l) → IsIn i (stands_at script honest vs (world.with_link (in_front n) a b ls) l)
  unfolding stands_at
  stands_back ls (Way x y) i h = (comes_at x y ls i).1 h
  stands_back ls other i h = h

-- ---- a silent note

module _ (script : Script) (honest : ℕ → Bool) (vs : List (Vat Name)) (a b : ℕ) (n : Note Name) (h : IsSilent n) (ls : List Link) where
  silent_all : AllLeave Same Any (world.with_link (in_front n) a b ls) ls
  silent_all = all_leave Same Any (λ c. refl) a b n (λ l e f. silent_link n l h) ls

  any_fits : (l : Lane) → FitsLane Same Any (λ c. refl) script honest vs (world.with_link (in_front n) a b ls) ls silent_all l
  any_fits (Queue u) = tt
  any_fits (Held u (Gift h i)) = tt
  any_fits other = tt

  silent_stands : (l : Lane) (i : Item) → IsIn i (stands_at script honest vs ls l) ⊎ ((l ≡ Way a b) × IsIn i (delivered (n ∷ []))) → IsIn i (stands_at script honest vs ls l)
  silent_stands l i (inl j) = j
  silent_stands l i (inr j) = absurd (subst (λ js. IsIn i js) (nothing_delivered n h) j.1)

  pub silent_same : SameWays (ways_of script honest vs (world.with_link (in_front n) a b ls)) (ways_of script honest vs ls)
  unfolding ways_of
  silent_same = (
    λ l. (λ i j. silent_stands l i (stands_leaves script honest vs a b n ls l i j), λ i j. stands_back script honest vs a b n ls l i j),
    λ l m. onward_leaves Same Any (λ c. refl) script honest vs (world.with_link (in_front n) a b ls) ls silent_all l (any_fits l) m,
  )

pub silent_notes_leave : SilentNotesLeave
unfolding ways amid keeping
silent_notes_leave = λ script honest w a b n s h. subst (λ js. SameWays (ways_of script honest (world.put_at b s w.vats) js) (ways_of script honest (world.put_at b s w.vats) (world.push_all b s.outbox w.links))) (sym (all_put_on a b b n s.outbox w.links)) (silent_same script honest (world.put_at b s w.vats) a b n h (world.push_all b s.outbox w.links))

-- ---- a note that delivers a message

module _ (m : Delivery Name) (o : Name) (verb : Words) (ys : Passeds Name) where
  abbrev Note' : Note Name
  Note' = Deliver m o verb ys

  module _ (l : Lane) where
    each_nearer : (f : Note Name → Bool) (bs : List Item) (ns : List (Note Name)) → Each (Beheads l (item m.message o)) Any (note_place f l (item m.message o ∷ bs) ns) (note_place f l bs ns)
    unfolding note_place in_lane
    each_nearer f bs [] = tt
    each_nearer f bs (n ∷ ns) = go (f n) (subject n) (each_nearer f (bs ++ delivered (n ∷ [])) ns)
      where
        go : (c : Bool) (q : Option Name) → Each (Beheads l (item m.message o)) Any (note_place f l (item m.message o ∷ (bs ++ delivered (n ∷ []))) ns) (note_place f l (bs ++ delivered (n ∷ [])) ns)
            → Each (Beheads l (item m.message o)) Any (elim c [ true ↦ in_lane l (item m.message o ∷ bs) q | false ↦ note_place f l (item m.message o ∷ (bs ++ delivered (n ∷ []))) ns ]) (elim c [ true ↦ in_lane l bs q | false ↦ note_place f l (bs ++ delivered (n ∷ [])) ns ])
        go true (Some x) g = nearer
        go true None g = tt
        go false q g = g

    each_message : (f : Note Name → Bool) → IsTest f → (ns : List (Note Name)) → Each (Beheads l (item m.message o)) Any (note_place f l [] (Note' ∷ ns)) (note_place f l [] ns)
    unfolding delivered
    each_message f t ns = subst (λ p. Each (Beheads l (item m.message o)) Any p (note_place f l [] ns)) (sym (place_front f l Note' ns (t Note' tt))) (each_nearer f [] ns)

  message_link : (a b : ℕ) (l : Link) → l.from ≡ a → l.to ≡ b → LinkLeaves (Beheads (Way a b) (item m.message o)) Any (in_front Note' l) l
  unfolding in_front
  message_link a b l e f = subst (λ x. LinkLeaves (Beheads (Way x b) (item m.message o)) Any (in_front Note' l) l) e (subst (λ y. LinkLeaves (Beheads (Way l.from y) (item m.message o)) Any (in_front Note' l) l) f (record {
    from = refl;
    to = refl;
    cut = refl;
    opened = λ h i g e. refl;
    shortened = λ h i g. refl;
    opening = λ h i g e. each_message (Way l.from l.to) (opens i) (opens_test i) l.notes;
    shortening = λ h i g. each_message (Way l.from l.to) (shortens h i) (shortens_test h i) l.notes;
  }))

  pub message_all : (a b : ℕ) (ls : List Link) → AllLeave (Beheads (Way a b) (item m.message o)) Any (world.with_link (in_front Note') a b ls) ls
  message_all a b ls = all_leave (Beheads (Way a b) (item m.message o)) Any (λ c. stays) a b Note' (λ l e f. message_link a b l e f) ls
