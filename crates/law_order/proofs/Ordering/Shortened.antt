-- A note that asks for a gift acts: its receiver puts the note that lets the gift go.
use Rattle.std.proofs.Common.{◌≡◌, ℕ, Bool, true, false, List, [], ◌∷◌, ◌++◌, Option, Some, None, refl, sym, ap, subst, ◌∙◌, ◌⊎◌, inl, inr, eqb-true}
use Rattle.std.specs.Prelude.{slice_get, not, ◌==◌, ◌&&◌}
use Rattle.def_machine.specs.Values.{Value, Ref, Name, Gift}
use Rattle.def_machine.specs.State.{NoMore, Standing, Unsettled, WaitsOn, Viewed, Settled, Note, Deliver, Open, Ask, SettledTo, Elsewhere, Shorten, GiftEntry, Vat}
use Rattle.def_machine.specs.Refs as refs
use Rattle.def_run.specs.World.{Script, Link, World, names}
use Rattle.def_run.specs.World as world
use Rattle.law_order.specs.Ordering.Ways.{Lane, Queue, Held, Way, Item, Place, Free, End, Mid, Ways, IsIn, IsOneWay}
use Rattle.law_order.specs.Ordering.Turns.{Within, is_there, Reroutes, stays_so, gone_on, behind_all, IsTurned}
use Rattle.law_order.specs.Ordering.Places.{delivered, opens, shortens, subject, in_lane, note_place, first_place, opened_there, is_honest, open_place, gift_place, was_put, or_never, shorten_place, leads_in, leads, unsettled, released, released_at, stands_at, onward_at, ways_of, ways, amid}
use Rattle.law_order.specs.Ordering.Arrivals.{in_front, keeping, IsOpenWay, ShortenedGiftsTurn}
use Rattle.law_order.proofs.Ordering.Sends.{none_some, some_same, pushed_shut, pushed_open, link_here, link_behind, push_last, ends_of}
use Rattle.law_order.proofs.Ordering.Adding.{RefersSame, refers_same}
use Rattle.law_order.proofs.Ordering.Pushing.{all_same, place_more, any_more, delivered_more}
use Rattle.law_order.proofs.Ordering.Amid.{stands_grow, onward_same}
use Rattle.law_order.proofs.Ordering.OrderKeeping.{LinkLeaves, AllLeave, Same, each_same, link_self, all_self, place_front, all_leave, all_put_on, links_still, gift_leaves, stands_leaves, with_here, with_behind, pushed_link}
use Rattle.law_order.proofs.Ordering.Arrived.{IsOpen, all_open, mid_onward, outbox_refers}
use Rattle.law_order.proofs.Ordering.Opened.{same_number, second_false}

-- ---- lists

in_left : (xs ys : List Item) → Within xs (xs ++ ys)
in_left [] ys i h = absurd h
in_left (x ∷ xs) ys i (inl e) = inl e
in_left (x ∷ xs) ys i (inr h) = inr (in_left xs ys i h)

in_right : (xs ys : List Item) → Within ys (xs ++ ys)
in_right [] ys i h = h
in_right (x ∷ xs) ys i h = inr (in_right xs ys i h)

delivered_split : (n : Note Name) (ns : List (Note Name)) (x : Item) → IsIn x (delivered (n ∷ ns)) → IsIn x (delivered ns) ⊎ IsIn x (delivered (n ∷ []))
unfolding delivered
delivered_split (Deliver m o verb ys) ns x (inl e) = inr (inl e)
delivered_split (Deliver m o verb ys) ns x (inr h) = inl h
delivered_split other ns x h = inl h

-- ---- where a note is that is put

abbrev IsFalse : Bool → Type 0
IsFalse true = ⊥
IsFalse false = Unit {0}

abbrev Choice : Bool → Option Place → Option Place → Option Place
Choice c p o = elim c [ true ↦ p | false ↦ o ]

abbrev First : Bool → Option Place → Option Place → Option Place
First c p o = elim c [ true ↦ first_place p o | false ↦ o ]

none_before : (c : Bool) (p o : Option Place) → First c p o ≡ None → (o ≡ None) × (c ≡ true → p ≡ None)
unfolding first_place
none_before true None o e = (e, λ f. refl)
none_before true (Some x) o e = none_some x (sym e)
none_before false p o e = (e, λ f. absurd (subst IsFalse f tt))

some_after : (c : Bool) (p o : Option Place) (x : Place) → (c ≡ true → p ≡ None) → o ≡ Some x → First c p o ≡ Some x
unfolding first_place
some_after true p o x f e = ap (λ z. first_place z o) (f refl) ∙ e
some_after false p o x f e = e

module _ (i : ℕ) (q : Name) (l : Lane) where
  abbrev Op : Note Name
  Op = Open i q

  -- behind all that stood there
  abbrev Last : List Item → List (Note Name) → Type 0
  Last b ns = (d : List Item) × (note_place (opens i) l b (ns ++ Op ∷ []) ≡ Some (Mid l d q)) × ((x : Item) → IsIn x b ⊎ IsIn x (delivered ns) → IsIn x d)

  last_here : (b : List Item) → Last b []
  unfolding note_place opens subject in_lane delivered
  last_here b = (b, ap (λ c. elim c [ true ↦ Some (Mid l b q) | false ↦ None ]) (same_number i), λ x h. from x h)
    where
      from : (x : Item) → IsIn x b ⊎ ⊥ → IsIn x b
      from x (inl h) = h
      from x (inr h) = absurd h

  last_more : (b : List Item) (m : Note Name) (ns : List (Note Name)) → opens i m ≡ false → Last (b ++ delivered (m ∷ [])) ns → Last b (m ∷ ns)
  unfolding note_place
  last_more b m ns e h = (h.0, ap (λ c. elim c [ true ↦ in_lane l b (subject m) | false ↦ note_place (opens i) l (b ++ delivered (m ∷ [])) (ns ++ Op ∷ []) ]) e ∙ h.1, λ x k. h.2 x (go x k))
    where
      split : (x : Item) → IsIn x (delivered ns) ⊎ IsIn x (delivered (m ∷ [])) → IsIn x (b ++ delivered (m ∷ [])) ⊎ IsIn x (delivered ns)
      split x (inl k) = inr k
      split x (inr k) = inl (in_right b (delivered (m ∷ [])) x k)

      go : (x : Item) → IsIn x b ⊎ IsIn x (delivered (m ∷ ns)) → IsIn x (b ++ delivered (m ∷ [])) ⊎ IsIn x (delivered ns)
      go x (inl k) = inl (in_left b (delivered (m ∷ [])) x k)
      go x (inr k) = split x (delivered_split m ns x k)

  pub placed_last : (b : List Item) (ns : List (Note Name)) → note_place (opens i) l b ns ≡ None → Last b ns
  unfolding note_place opens subject in_lane
  placed_last b [] e = last_here b
  placed_last b (Deliver x y verb ys ∷ ns) e = last_more b (Deliver x y verb ys) ns refl (placed_last (b ++ delivered (Deliver x y verb ys ∷ [])) ns e)
  placed_last b (Ask p j x ∷ ns) e = last_more b (Ask p j x) ns refl (placed_last (b ++ delivered (Ask p j x ∷ [])) ns e)
  placed_last b (SettledTo x y ∷ ns) e = last_more b (SettledTo x y) ns refl (placed_last (b ++ delivered (SettledTo x y ∷ [])) ns e)
  placed_last b (Elsewhere x h ∷ ns) e = last_more b (Elsewhere x h) ns refl (placed_last (b ++ delivered (Elsewhere x h ∷ [])) ns e)
  placed_last b (Shorten x h j ∷ ns) e = last_more b (Shorten x h j) ns refl (placed_last (b ++ delivered (Shorten x h j ∷ [])) ns e)
  placed_last b (Open j x ∷ ns) e = go (λ k. placed_last (b ++ delivered (Open j x ∷ [])) ns k) (j == i) refl e
    where
      go : (note_place (opens i) l (b ++ delivered (Open j x ∷ [])) ns ≡ None → Last (b ++ delivered (Open j x ∷ [])) ns) → (c : Bool) → (j == i) ≡ c → Choice c (Some (Mid l b x)) (note_place (opens i) l (b ++ delivered (Open j x ∷ [])) ns) ≡ None → Last b (Open j x ∷ ns)
      go r true f k = none_some (Mid l b x) (sym k)
      go r false f k = last_more b (Open j x) ns f (r k)

module _ (script : Script) (honest : ℕ → Bool) (b c i : ℕ) (q : Name) (both : (honest b && honest c) ≡ true) where
  abbrev Opening : Note Name
  Opening = Open i q

  -- where that note is on the links
  abbrev Placed : List Link → Link → Type 0
  Placed ls l = (d : List Item) × (open_place script honest c i ls ≡ Some (Mid (Way b c) d q)) × Within (delivered l.notes) d

  first_part : (h : ℕ) (k : Link) → Option Place
  first_part h k = note_place (opens i) (Way k.from k.to) [] k.notes

  cond : Link → Bool
  cond k = (honest k.from && honest k.to) && (k.to == c)

  -- of the link itself
  placed_on : (k : Link) (rest : Option Place) → k.from ≡ b → k.to ≡ c → k.cut ≡ false → First (cond k) (first_part c k) rest ≡ None
      → (d : List Item) × (First (cond k) (note_place (opens i) (Way k.from k.to) [] (k.notes ++ Opening ∷ [])) rest ≡ Some (Mid (Way b c) d q)) × Within (delivered k.notes) d
  unfolding first_place cond first_part
  placed_on k rest e f g h =
      let holds : cond k ≡ true = cond_true k e f in
      let last = placed_last i q (Way k.from k.to) [] k.notes ((none_before (cond k) (first_part c k) rest h).1 holds) in (
        last.0,
        ap (λ x. First x (note_place (opens i) (Way k.from k.to) [] (k.notes ++ Opening ∷ [])) rest) holds ∙ ap (λ o. first_place o rest) last.1 ∙ ap (λ x. Some (Mid (Way x k.to) last.0 q)) e ∙ ap (λ x. Some (Mid (Way b x) last.0 q)) f,
        λ x j. last.2 x (inr j),
      )
    where
      cond_true : (k : Link) → k.from ≡ b → k.to ≡ c → ((honest k.from && honest k.to) && (k.to == c)) ≡ true
      cond_true k e f = rw e (rw f (rw both (rw (same_number c) refl)))

  open_pushed : (k : Link) (rest : Option Place) → k.cut ≡ false → (d : Option Place) → First (cond k) (note_place (opens i) (Way k.from k.to) [] (k.notes ++ Opening ∷ [])) rest ≡ d → (ls : List Link) → open_place script honest c i ls ≡ rest → open_place script honest c i (world.pushed Opening k ∷ ls) ≡ d
  unfolding open_place is_honest cond
  open_pushed k rest g d e ls f = ap (λ j. open_place script honest c i (j ∷ ls)) (pushed_open Opening k g) ∙ ap (λ o. First (cond k) (note_place (opens i) (Way k.from k.to) [] (k.notes ++ Opening ∷ [])) o) f ∙ e

  open_step : (k : Link) (ls : List Link) → open_place script honest c i (k ∷ ls) ≡ First (cond k) (first_part c k) (open_place script honest c i ls)
  unfolding open_place is_honest cond first_part
  open_step k ls = refl

  pub placed_open : (ls : List Link) (l : Link) → world.link_at b c ls ≡ Some l → l.cut ≡ false → open_place script honest c i ls ≡ None → Placed (world.with_link (world.pushed Opening) b c ls) l
  unfolding world.link_at
  placed_open [] l e f g = none_some l e
  placed_open (k ∷ ls) l e f g = go (λ x y. placed_open ls l x f y) (world.is_link b c k) refl e
    where
      go : (world.link_at b c ls ≡ Some l → open_place script honest c i ls ≡ None → Placed (world.with_link (world.pushed Opening) b c ls) l) → (x : Bool) → world.is_link b c k ≡ x → elim x [ true ↦ Some k | false ↦ world.link_at b c ls ] ≡ Some l
          → Placed (world.with_link (world.pushed Opening) b c (k ∷ ls)) l
      go r true y z =
          let same = some_same k l z in
          let ends = ends_of b c k y in
          let cut : k.cut ≡ false = ap (λ j. j.cut) same ∙ f in
          let p = placed_on k (open_place script honest c i ls) ends.0 ends.1 cut (sym (open_step k ls) ∙ g) in
          (p.0, ap (λ js. open_place script honest c i js) (with_here (world.pushed Opening) b c k ls y) ∙ open_pushed k (open_place script honest c i ls) cut (Some (Mid (Way b c) p.0 q)) p.1 ls refl, subst (λ j. Within (delivered j.notes) p.0) same p.2)
      go r false y z =
          let n = none_before (cond k) (first_part c k) (open_place script honest c i ls) (sym (open_step k ls) ∙ g) in
          let p = r z n.0 in
          (p.0, ap (λ js. open_place script honest c i js) (with_behind (world.pushed Opening) b c k ls y) ∙ open_step k (world.with_link (world.pushed Opening) b c ls) ∙ some_after (cond k) (first_part c k) (open_place script honest c i (world.with_link (world.pushed Opening) b c ls)) (Mid (Way b c) p.0 q) n.1 p.1, p.2)

-- ---- the note acts

module _ (script : Script) (honest : ℕ → Bool) (w : World) (a b c : ℕ) (r s : Vat Name) (i : ℕ) (n q : Name) (at : slice_get w.vats b ≡ Some r) (way : IsOpenWay honest a b w) (on : IsOpenWay honest b c w) where
  abbrev Asks : Note Name
  Asks = Shorten n c i

  abbrev Lets : Note Name
  Lets = Open i q

  abbrev Links : List Link
  Links = world.push_all b s.outbox w.links

  abbrev Kept : List Link
  Kept = world.with_link (in_front Asks) a b Links

  abbrev Then : List Link
  Then = world.with_link (world.pushed Lets) b c Links

  abbrev Gone : Vat Name
  Gone = record s { outbox = s.outbox ++ record { to = c; note = Lets } ∷ [] }

  abbrev Vats : List (Vat Name)
  Vats = world.put_at b s w.vats

  abbrev Other : ℕ → ℕ → Type 0
  Other h j = ((c == h) && (i == j)) ≡ false

  asks_link : (l : Link) → l.from ≡ a → l.to ≡ b → LinkLeaves Same Other (in_front Asks l) l
  unfolding in_front opens shortens delivered
  asks_link l e f = record {
    from = refl;
    to = refl;
    cut = refl;
    opened = λ h j o x. refl;
    shortened = λ h j o. refl;
    opening = λ h j o x. each_same Other (note_place (opens j) (Way l.from l.to) [] (Asks ∷ l.notes)) (note_place (opens j) (Way l.from l.to) [] l.notes) (sym (place_front (opens j) (Way l.from l.to) Asks l.notes refl));
    shortening = λ h j o. each_same Other (note_place (shortens h j) (Way l.from l.to) [] (Asks ∷ l.notes)) (note_place (shortens h j) (Way l.from l.to) [] l.notes) (sym (place_front (shortens h j) (Way l.from l.to) Asks l.notes o));
  }

  left_other : AllLeave Same Other Kept Links
  left_other = all_leave Same Other (λ x. refl) a b Asks (λ l e f. asks_link l e f) Links

  -- the note that lets the gift go is of no other
  lets_other : (l : Link) → l.to ≡ c → (h j : ℕ) → Other h j → (l.to == h) ≡ true → opens j Lets ≡ false
  unfolding opens
  lets_other l e h j o x = second_false (c == h) (i == j) (subst (λ y. (y == h) ≡ true) e x) o

  lets_shut : (l : Link) → l.to ≡ c → LinkLeaves Same Other l (record l { log = l.log ++ Lets ∷ [] })
  unfolding shortens
  lets_shut l e = record {
    from = refl;
    to = refl;
    cut = refl;
    opened = λ h j o x. any_more (opens j) l.log Lets (lets_other l e h j o x);
    shortened = λ h j o. any_more (shortens h j) l.log Lets refl;
    opening = λ h j o x. each_same Other (note_place (opens j) (Way l.from l.to) [] l.notes) (note_place (opens j) (Way l.from l.to) [] l.notes) refl;
    shortening = λ h j o. each_same Other (note_place (shortens h j) (Way l.from l.to) [] l.notes) (note_place (shortens h j) (Way l.from l.to) [] l.notes) refl;
  }

  lets_open : (l : Link) → l.to ≡ c → LinkLeaves Same Other l (record l { notes = l.notes ++ Lets ∷ []; log = l.log ++ Lets ∷ [] })
  unfolding shortens
  lets_open l e = record {
    from = refl;
    to = refl;
    cut = refl;
    opened = λ h j o x. any_more (opens j) l.log Lets (lets_other l e h j o x);
    shortened = λ h j o. any_more (shortens h j) l.log Lets refl;
    opening = λ h j o x. each_same Other (note_place (opens j) (Way l.from l.to) [] l.notes) (note_place (opens j) (Way l.from l.to) [] (l.notes ++ Lets ∷ [])) (place_more (opens j) (Way l.from l.to) [] l.notes Lets (lets_other l e h j o x));
    shortening = λ h j o. each_same Other (note_place (shortens h j) (Way l.from l.to) [] l.notes) (note_place (shortens h j) (Way l.from l.to) [] (l.notes ++ Lets ∷ [])) (place_more (shortens h j) (Way l.from l.to) [] l.notes Lets refl);
  }

  lets_link : (l : Link) → l.to ≡ c → (x : Bool) → l.cut ≡ x → LinkLeaves Same Other l (world.pushed Lets l)
  lets_link l e true f = subst (LinkLeaves Same Other l) (sym (pushed_shut Lets l f)) (lets_shut l e)
  lets_link l e false f = subst (LinkLeaves Same Other l) (sym (pushed_open Lets l f)) (lets_open l e)

  put_other : (ls : List Link) → AllLeave Same Other ls (world.with_link (world.pushed Lets) b c ls)
  unfolding world.with_link
  put_other [] = tt
  put_other (l ∷ ls) = go (put_other ls) (world.is_link b c l) refl
    where
      go : AllLeave Same Other ls (world.with_link (world.pushed Lets) b c ls) → (x : Bool) → world.is_link b c l ≡ x → AllLeave Same Other (l ∷ ls) (elim x [ true ↦ world.pushed Lets l ∷ ls | false ↦ l ∷ world.with_link (world.pushed Lets) b c ls ])
      go f true e = (lets_link l (ends_of b c l e).1 l.cut refl, all_self Same Other (λ y. refl) ls)
      go f false e = (link_self Same Other (λ y. refl) l, f)

  gift_other : (h j : ℕ) → Other h j → gift_place script honest h j Then ≡ gift_place script honest h j Kept
  gift_other h j o = gift_leaves Same Other (λ x. refl) script honest h j o Links Then (put_other Links) ∙ gift_leaves Same Other (λ x. refl) script honest h j o Kept Links left_other

  way_same : (x y : ℕ) (o : Name) → onward_at script honest Vats Then (Way x y) o ≡ onward_at script honest Vats Kept (Way x y) o
  way_same x y o = links_still Same Other (λ z. refl) script honest Vats Links Then (put_other Links) x y o ∙ links_still Same Other (λ z. refl) script honest Vats Kept Links left_other x y o

  -- ---- what stands

  abbrev Stands : Option Link → List Item
  Stands o = elim o [ Some l ↦ elim (is_honest script honest l) [ true ↦ delivered l.notes | false ↦ [] ] | None ↦ [] ]

  abbrev StandsOf : Link → List Item
  StandsOf l = elim (is_honest script honest l) [ true ↦ delivered l.notes | false ↦ [] ]

  within_if : (x : Bool) (js ks : List Item) → Within js ks → Within (elim x [ true ↦ js | false ↦ [] ]) (elim x [ true ↦ ks | false ↦ [] ])
  within_if true js ks f = f
  within_if false js ks f = λ y h. h

  more_stands : (l : Link) (x : Bool) → l.cut ≡ x → Within (StandsOf l) (StandsOf (world.pushed Lets l))
  unfolding is_honest
  more_stands l true e = subst (λ k. Within (StandsOf l) (StandsOf k)) (sym (pushed_shut Lets l e)) (λ y h. h)
  more_stands l false e = subst (λ k. Within (StandsOf l) (StandsOf k)) (sym (pushed_open Lets l e)) (within_if (is_honest script honest l) (delivered l.notes) (delivered (l.notes ++ Lets ∷ [])) (delivered_more l.notes Lets))

  stands_at_link : (x y : ℕ) (ls : List Link) → Within (Stands (world.link_at x y ls)) (Stands (world.link_at x y (world.with_link (world.pushed Lets) b c ls)))
  unfolding world.link_at world.with_link
  stands_at_link x y [] = λ z h. h
  stands_at_link x y (l ∷ ls) = go (stands_at_link x y ls) (world.is_link x y l) (world.is_link b c l) refl refl
    where
      go : Within (Stands (world.link_at x y ls)) (Stands (world.link_at x y (world.with_link (world.pushed Lets) b c ls))) → (d e : Bool) → world.is_link x y l ≡ d → world.is_link b c l ≡ e
          → Within (Stands (elim d [ true ↦ Some l | false ↦ world.link_at x y ls ])) (Stands (world.link_at x y (elim e [ true ↦ world.pushed Lets l ∷ ls | false ↦ l ∷ world.with_link (world.pushed Lets) b c ls ])))
      go f true true j k = subst (λ o. Within (StandsOf l) (Stands o)) (sym (link_here x y (world.pushed Lets l) ls (pushed_link x y Lets l ∙ j))) (more_stands l l.cut refl)
      go f true false j k = subst (λ o. Within (StandsOf l) (Stands o)) (sym (link_here x y l (world.with_link (world.pushed Lets) b c ls) j)) (λ z h. h)
      go f false true j k = subst (λ o. Within (Stands (world.link_at x y ls)) (Stands o)) (sym (link_behind x y (world.pushed Lets l) ls (pushed_link x y Lets l ∙ j))) (λ z h. h)
      go f false false j k = subst (λ o. Within (Stands (world.link_at x y ls)) (Stands o)) (sym (link_behind x y l (world.with_link (world.pushed Lets) b c ls) j)) f

  stands_then : (l : Lane) (x : Item) → IsIn x (stands_at script honest Vats Links l) → IsIn x (stands_at script honest Vats Then l)
  unfolding stands_at
  stands_then (Way y z) x h = stands_at_link y z Links x h
  stands_then other x h = h

  stands_left : (l : Lane) (x : Item) → IsIn x (stands_at script honest Vats Links l) ⊎ ((l ≡ Way a b) × IsIn x (delivered (Asks ∷ []))) → IsIn x (stands_at script honest Vats Links l)
  unfolding delivered
  stands_left l x (inl h) = h
  stands_left l x (inr h) = absurd h.1

  stands_kept : (l : Lane) (x : Item) → IsIn x (stands_at script honest Vats Kept l) → IsIn x (stands_at script honest Vats Links l)
  stands_kept l x h = stands_left l x (stands_leaves script honest Vats a b Asks Links l x h)

  -- ---- the turn

  abbrev Vats' : List (Vat Name)
  Vats' = world.put_at b Gone w.vats

  refers : RefersSame script honest b s Gone
  refers = refers_same script honest b s Gone (outbox_refers (names script b) s (s.outbox ++ record { to = c; note = Lets } ∷ []))

  abbrev Was : Ways
  Was = ways_of script honest Vats Kept

  abbrev Now : Ways
  Now = ways_of script honest Vats' Then

  abbrev Turn : Place → Place → Type 0
  Turn x y = Reroutes Was Now x y

  last_same : (l : Lane) (o : Name) → onward_at script honest Vats' Then l o ≡ onward_at script honest Vats Then l o
  last_same l o = onward_same script honest w.vats Then Then (all_same Then) b s Gone refers l o

  last_stands : (l : Lane) (x : Item) → IsIn x (stands_at script honest Vats Then l) → IsIn x (stands_at script honest Vats' Then l)
  last_stands l x h = stands_grow script honest w.vats Then Then (all_same Then) b s Gone refers (λ y k. k) l x h

  both_ends : (honest b && honest c) ≡ true
  both_ends = rw on.sender (rw on.receiver refl)

  open_on : IsOpen b c Links
  open_on = all_open b c b s.outbox w.links (on.link, on.found, on.uncut)

  honest_in : (x : Bool) (js : List Item) → Within (elim x [ true ↦ js | false ↦ [] ]) js
  honest_in true js y h = h
  honest_in false js y h = absurd h

  on_link : Within (stands_at script honest Vats Links (Way b c)) (delivered open_on.0.notes)
  unfolding stands_at
  on_link y h = honest_in (is_honest script honest open_on.0) (delivered open_on.0.notes) y (subst (λ o. IsIn y (Stands o)) open_on.1 h)

  module _ (leading : leads_in script honest b s (Ref n) ≡ End (Way b c) q) (none : open_place script honest c i Links ≡ None) (only : gift_place script honest c i Kept ≡ Mid (Way a b) [] n) where
    kept_over : onward_at script honest Vats Kept (Way a b) n ≡ End (Way b c) q
    kept_over = sym (links_still Same Other (λ z. refl) script honest Vats Kept Links left_other a b n) ∙ mid_onward script honest w a b r s (record { message = n; asks = true; answer = None }) n [] NoMore at way n ∙ leading

    placed : Placed script honest b c i q both_ends Then open_on.0
    placed = placed_open script honest b c i q both_ends Links open_on.0 open_on.1 open_on.2 none

    gift_now : gift_place script honest c i Then ≡ Mid (Way b c) placed.0 q
    unfolding gift_place first_place or_never
    gift_now = ap (λ o. or_never script honest (was_put script honest c i Then) (first_place o (shorten_place script honest c i Then))) placed.1

    behind_there : Turn (End (Way b c) q) (Mid (Way b c) placed.0 q)
    unfolding ways_of
    behind_there = behind_all (λ y h. placed.2 y (on_link y (stands_kept (Way b c) y h))) is_there

    it_turns : Turn (gift_place script honest c i Kept) (gift_place script honest c i Then)
    unfolding ways_of
    it_turns = subst (λ x. Turn x (gift_place script honest c i Then)) (sym only) (subst (λ y. Turn (Mid (Way a b) [] n) y) (sym gift_now) (gone_on (subst (λ x. Turn x (Mid (Way b c) placed.0 q)) (sym kept_over) behind_there)))

    both_true : (x y : Bool) → (x && y) ≡ true → (x ≡ true) × (y ≡ true)
    both_true true y e = (refl, e)
    both_true false y e = absurd (subst IsFalse e tt)

    gift_turns : (h j : ℕ) → Turn (gift_place script honest h j Kept) (gift_place script honest h j Then)
    gift_turns h j = go ((c == h) && (i == j)) refl
      where
        go : (x : Bool) → ((c == h) && (i == j)) ≡ x → Turn (gift_place script honest h j Kept) (gift_place script honest h j Then)
        go true e = let f = both_true (c == h) (i == j) e in subst (λ x. Turn (gift_place script honest x j Kept) (gift_place script honest x j Then)) (eqb-true c h f.0) (subst (λ y. Turn (gift_place script honest c y Kept) (gift_place script honest c y Then)) (eqb-true i j f.1) it_turns)
        go false e = subst (λ x. Turn (gift_place script honest h j Kept) x) (sym (gift_other h j e)) stays_so

    unsettled_if : (x : Bool) (h j : ℕ) → Turn (elim x [ true ↦ gift_place script honest h j Kept | false ↦ Free ]) (elim x [ true ↦ gift_place script honest h j Then | false ↦ Free ])
    unsettled_if true h j = gift_turns h j
    unsettled_if false h j = stays_so

    unsettled_turns : (u : ℕ) (p : Name) (gs : List (GiftEntry Name)) → Turn (unsettled script honest Vats Kept u p gs) (unsettled script honest Vats Then u p gs)
    unfolding unsettled
    unsettled_turns u (Gift h j) gs = unsettled_if ((h == u) && not (opened_there (Gift h j) gs)) h j
    unsettled_turns u other gs = stays_so

    leads_turns : (u : ℕ) (x : Value Name) → Turn (leads script honest Vats Kept u x) (leads script honest Vats Then u x)
    unfolding leads
    leads_turns u x = stays_so

    released_turns : (u : ℕ) (p : Name) (gs : List (GiftEntry Name)) (x : Standing Name) → Turn (released script honest Vats Kept u p gs x) (released script honest Vats Then u p gs x)
    unfolding released
    released_turns u p gs Unsettled = unsettled_turns u p gs
    released_turns u p gs (WaitsOn z) = leads_turns u (Ref z)
    released_turns u p gs (Viewed z) = leads_turns u (Ref z)
    released_turns u p gs (Settled y) = leads_turns u y

    held_turns : (u : ℕ) (p : Name) (o : Option (Vat Name)) → Turn (released_at script honest Vats Kept u p o) (released_at script honest Vats Then u p o)
    unfolding released_at
    held_turns u p (Some x) = released_turns u p x.gifts (refs.standing_of (names script u) x.known p)
    held_turns u p None = stays_so

    onward_turns : (l : Lane) (o : Name) → IsOneWay l → Turn (onward_at script honest Vats Kept l o) (onward_at script honest Vats Then l o)
    unfolding onward_at
    onward_turns (Queue u) o h = stays_so
    onward_turns (Held u p) o h = held_turns u p (slice_get Vats u)
    onward_turns (Way x y) o h = absurd h

    shortened_turned : IsTurned Was Now
    unfolding ways_of
    shortened_turned = record {
      stands = λ l x h. last_stands l x (stands_then l x (stands_kept l x h));
      links = λ x y o. last_same (Way x y) o ∙ way_same x y o;
      lanes = λ l o h. subst (λ y. Turn (onward_at script honest Vats Kept l o) y) (sym (last_same l o)) (onward_turns l o h);
    }

pub shortened_gifts_turn : ShortenedGiftsTurn
unfolding ways amid keeping
shortened_gifts_turn = λ script honest w a b c r s i n q at way on leading none only.
    let kept = all_put_on a b b (Shorten n c i) s.outbox w.links in
    let last = push_last b s.outbox (record { to = c; note = Open i q }) w.links in
    subst (λ ls. IsTurned (ways_of script honest (world.put_at b s w.vats) ls) (ways script honest (amid b (record s { outbox = s.outbox ++ record { to = c; note = Open i q } ∷ [] }) w))) (sym kept)
    (subst (λ ls. IsTurned (ways_of script honest (world.put_at b s w.vats) (world.with_link (in_front (Shorten n c i)) a b (world.push_all b s.outbox w.links))) (ways_of script honest (world.put_at b (record s { outbox = s.outbox ++ record { to = c; note = Open i q } ∷ [] }) w.vats) ls)) (sym last)
    (shortened_turned script honest w a b c r s i n q at way on leading none (subst (λ ls. gift_place script honest c i ls ≡ Mid (Way a b) [] n) kept only)))
