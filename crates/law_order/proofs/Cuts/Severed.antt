-- One link is cut: lanes are shut off.
use Rattle.std.proofs.Common.{◌≡◌, ℕ, zero, suc, ◌≤◌, Bool, true, false, List, [], ◌∷◌, ◌++◌, Option, Some, None, refl, sym, ap, subst, ◌∙◌, ◌⊎◌, inl, inr, arith}
use Rattle.std.specs.Prelude.{slice_get, not, ◌==◌, ◌&&◌, ◌||◌}
use Rattle.def_machine.specs.Values.{Ref, Name, Gift}
use Rattle.def_machine.specs.State.{Standing, Unsettled, GiftEntry, Vat}
use Rattle.def_machine.specs.Refs as refs
use Rattle.def_run.specs.World as world
use Rattle.def_run.specs.World.{Script, Link, World, Goes, names}
use Rattle.law_order.specs.Ordering.Ways.{Lane, Queue, Held, Way, Item, Place, Nowhere, Free, Mid, Ways, IsIn, Doom, nowhere, by_mid}
use Rattle.law_order.specs.Ordering.Messages.{StandsAt, StaysBehind}
use Rattle.law_order.specs.Ordering.Places.{delivered, opens, shortens, note_place, any_note, first_place, opened_there, is_honest, open_place, shorten_place, was_put, or_never, gift_place, leads, unsettled, released, released_at, stands_at, over, onward_at, ways_of, ways}
use Rattle.law_order.proofs.Ordering.Sends.{none_some, some_same, ends_of, link_here, link_behind}
use Rattle.law_order.specs.Cuts.Letting.{letting_in, letting, OneLetsGo, AllLogged}
use Rattle.law_order.specs.Cuts.Cuts.{IsShutOff, IsBetween, CutKeeps, CutsKeep}
use Rattle.law_order.proofs.Cuts.Counts.{severed_most, cuts_logged}
use Rattle.law_order.proofs.Cuts.Gifts.{opens_test, shortens_test, none_placed, none_opens, none_shortens, under_way_put}
use Rattle.law_order.proofs.Cuts.Shut.{shutting_keeps}

-- ---- the links after it

module _ (a b : ℕ) where
  abbrev Cut : List Link → List Link
  Cut ls = world.with_link world.severed_link a b ls

  same_ends : (c d : ℕ) (l : Link) → world.is_link c d (world.severed_link l) ≡ world.is_link c d l
  unfolding world.is_link world.severed_link
  same_ends c d l = refl

  -- a link is as it was, or is that one and cut
  pub data Comes (c d : ℕ) (o p : Option Link) : Type 0 where
    as_it_was : p ≡ o → Comes c d o p
    severed : (l : Link) → o ≡ Some l → p ≡ Some (world.severed_link l) → Comes c d o p

  pub comes : (c d : ℕ) (ls : List Link) → Comes c d (world.link_at c d ls) (world.link_at c d (Cut ls))
  unfolding world.with_link world.link_at
  comes c d [] = as_it_was refl
  comes c d (l ∷ ls) = go (comes c d ls) (world.is_link a b l) (world.is_link c d l) refl
    where
      go : Comes c d (world.link_at c d ls) (world.link_at c d (Cut ls)) → (x y : Bool) → world.is_link c d l ≡ y
          → Comes c d (elim y [ true ↦ Some l | false ↦ world.link_at c d ls ]) (world.link_at c d (elim x [ true ↦ world.severed_link l ∷ ls | false ↦ l ∷ Cut ls ]))
      go r true true e = severed l refl (link_here c d (world.severed_link l) ls (same_ends c d l ∙ e))
      go r true false e = as_it_was (link_behind c d (world.severed_link l) ls (same_ends c d l ∙ e))
      go r false true e = as_it_was (link_here c d l (Cut ls) e)
      go r false false e = subst (λ q. Comes c d (world.link_at c d ls) q) (sym (link_behind c d l (Cut ls) e)) r

  -- the link that is cut, if it is there
  pub cut_here : (ls : List Link) (l : Link) → world.link_at a b ls ≡ Some l → world.link_at a b (Cut ls) ≡ Some (world.severed_link l)
  unfolding world.with_link world.link_at
  cut_here [] l e = none_some l e
  cut_here (k ∷ ls) l e = go (λ q. cut_here ls l q) (world.is_link a b k) refl e
    where
      go : (world.link_at a b ls ≡ Some l → world.link_at a b (Cut ls) ≡ Some (world.severed_link l)) → (x : Bool) → world.is_link a b k ≡ x → elim x [ true ↦ Some k | false ↦ world.link_at a b ls ] ≡ Some l → world.link_at a b (elim x [ true ↦ world.severed_link k ∷ ls | false ↦ k ∷ Cut ls ]) ≡ Some (world.severed_link l)
      go r true j q = link_here a b (world.severed_link k) ls (same_ends a b k ∙ j) ∙ ap (λ z. Some (world.severed_link z)) (some_same k l q)
      go r false j q = link_behind a b k (Cut ls) j ∙ r q

  -- another link is as it was
  pub elsewhere : (c d : ℕ) (ls : List Link) → (Way c d ≡ Way a b → ⊥) → world.link_at c d (Cut ls) ≡ world.link_at c d ls
  unfolding world.with_link world.link_at
  elsewhere c d [] f = refl
  elsewhere c d (l ∷ ls) f = go (elsewhere c d ls f) (world.is_link a b l) (world.is_link c d l) refl refl
    where
      apart : world.is_link a b l ≡ true → world.is_link c d l ≡ true → ⊥
      apart e g = let x = ends_of a b l e in let y = ends_of c d l g in f (ap (λ z. Way z d) (sym y.0 ∙ x.0) ∙ ap (λ z. Way a z) (sym y.1 ∙ x.1))

      go : world.link_at c d (Cut ls) ≡ world.link_at c d ls → (x y : Bool) → world.is_link a b l ≡ x → world.is_link c d l ≡ y
          → world.link_at c d (elim x [ true ↦ world.severed_link l ∷ ls | false ↦ l ∷ Cut ls ]) ≡ elim y [ true ↦ Some l | false ↦ world.link_at c d ls ]
      go r true true e g = absurd (apart e g)
      go r true false e g = link_behind c d (world.severed_link l) ls (same_ends c d l ∙ g)
      go r false true e g = link_here c d l (Cut ls) g
      go r false false e g = link_behind c d l (Cut ls) g ∙ r

  -- ---- gifts

  module _ (script : Script) (honest : ℕ → Bool) where
    abbrev First : Bool → Option Place → Option Place → Option Place
    First x p o = elim x [ true ↦ first_place p o | false ↦ o ]

    same_log : (h i : ℕ) (ls : List Link) → was_put script honest h i (Cut ls) ≡ was_put script honest h i ls
    unfolding world.with_link world.severed_link was_put is_honest
    same_log h i [] = refl
    same_log h i (l ∷ ls) = go (same_log h i ls) (world.is_link a b l)
      where
        go : was_put script honest h i (Cut ls) ≡ was_put script honest h i ls → (x : Bool)
            → was_put script honest h i (elim x [ true ↦ world.severed_link l ∷ ls | false ↦ l ∷ Cut ls ]) ≡ (((honest l.from && honest l.to) && (((l.to == h) && any_note (opens i) l.log) || any_note (shortens h i) l.log)) || was_put script honest h i ls)
        go r true = refl
        go r false = ap (λ z. ((honest l.from && honest l.to) && (((l.to == h) && any_note (opens i) l.log) || any_note (shortens h i) l.log)) || z) r

    skips : (x : Bool) (p o : Option Place) → p ≡ None → First x p o ≡ o
    unfolding first_place
    skips true p o e = ap (λ q. first_place q o) e
    skips false p o e = refl

    -- gifts that a note of this key lets go lead where they led by notes, or no such note is left
    abbrev NotesOr : ℕ → ℕ → List Link → List Link → Type 0
    NotesOr h i ks ls = ((open_place script honest h i ks ≡ open_place script honest h i ls) × (shorten_place script honest h i ks ≡ shorten_place script honest h i ls)) ⊎ (letting i ks ≤ 0)

    -- a link without such notes in front
    idle_opens : (h i : ℕ) (l : Link) (ls : List Link) → letting_in i l.notes ≤ 0 → open_place script honest h i (l ∷ ls) ≡ open_place script honest h i ls
    unfolding open_place
    idle_opens h i l ls e = skips (is_honest script honest l && (l.to == h)) (note_place (opens i) (Way l.from l.to) [] l.notes) (open_place script honest h i ls) (none_placed i (opens i) (opens_test i) (Way l.from l.to) [] l.notes e)

    idle_shortens : (h i : ℕ) (l : Link) (ls : List Link) → letting_in i l.notes ≤ 0 → shorten_place script honest h i (l ∷ ls) ≡ shorten_place script honest h i ls
    unfolding shorten_place
    idle_shortens h i l ls e = skips (is_honest script honest l) (note_place (shortens h i) (Way l.from l.to) [] l.notes) (shorten_place script honest h i ls) (none_placed i (shortens h i) (shortens_test h i) (Way l.from l.to) [] l.notes e)

    none_severed : (i : ℕ) (l : Link) → letting_in i (world.severed_link l).notes ≤ 0
    unfolding world.severed_link letting_in
    none_severed i l = omega arith

    notes_or : (h i : ℕ) (ls : List Link) → letting i ls ≤ 1 → NotesOr h i (Cut ls) ls
    unfolding world.with_link letting open_place shorten_place
    notes_or h i [] most = inl (refl, refl)
    notes_or h i (l ∷ ls) most = go (world.is_link a b l) (letting_in i l.notes) refl (λ k. notes_or h i ls k)
      where
        -- no other note of the key is under way
        alone : letting i ls ≤ 0 → NotesOr h i (l ∷ Cut ls) (l ∷ ls)
        alone k = let less = severed_most i a b ls in inl (
          ap (λ o. First (is_honest script honest l && (l.to == h)) (note_place (opens i) (Way l.from l.to) [] l.notes) o) (none_opens script honest h i (Cut ls) (omega arith) ∙ sym (none_opens script honest h i ls k)),
          ap (λ o. First (is_honest script honest l) (note_place (shortens h i) (Way l.from l.to) [] l.notes) o) (none_shortens script honest h i (Cut ls) (omega arith) ∙ sym (none_shortens script honest h i ls k)),
        )

        behind : letting_in i l.notes ≡ 0 → NotesOr h i (Cut ls) ls → NotesOr h i (l ∷ Cut ls) (l ∷ ls)
        behind e (inl k) = inl (
          ap (λ o. First (is_honest script honest l && (l.to == h)) (note_place (opens i) (Way l.from l.to) [] l.notes) o) k.0,
          ap (λ o. First (is_honest script honest l) (note_place (shortens h i) (Way l.from l.to) [] l.notes) o) k.1,
        )
        behind e (inr k) = inr (omega arith)

        left : letting i ls ≤ 0 → letting i (world.severed_link l ∷ ls) ≤ 0
        left k = let none = none_severed i l in omega arith

        go : (x : Bool) (c : ℕ) → letting_in i l.notes ≡ c → (letting i ls ≤ 1 → NotesOr h i (Cut ls) ls) → NotesOr h i (elim x [ true ↦ world.severed_link l ∷ ls | false ↦ l ∷ Cut ls ]) (l ∷ ls)
        go true zero e r = inl (
          idle_opens h i (world.severed_link l) ls (none_severed i l) ∙ sym (idle_opens h i l ls (omega arith)),
          idle_shortens h i (world.severed_link l) ls (none_severed i l) ∙ sym (idle_shortens h i l ls (omega arith)),
        )
        go true (suc c) e r = inr (left (omega arith))
        go false zero e r = behind e (r (omega arith))
        go false (suc c) e r = alone (omega arith)

    abbrev Under : ℕ → ℕ → List Link → Option Place
    Under h i ls = first_place (open_place script honest h i ls) (shorten_place script honest h i ls)

    none_left : (h i : ℕ) (ls : List Link) → letting i (Cut ls) ≤ 0 → gift_place script honest h i (Cut ls) ≡ or_never script honest (was_put script honest h i ls) None
    unfolding gift_place first_place
    none_left h i ls k = ap (λ z. or_never script honest z (first_place (open_place script honest h i (Cut ls)) (shorten_place script honest h i (Cut ls)))) (same_log h i ls)
        ∙ ap (λ o. or_never script honest (was_put script honest h i ls) (first_place o (shorten_place script honest h i (Cut ls)))) (none_opens script honest h i (Cut ls) k)
        ∙ ap (λ o. or_never script honest (was_put script honest h i ls) o) (none_shortens script honest h i (Cut ls) k)

    by_under : (h i : ℕ) (ls : List Link) → AllLogged ls → (o : Option Place) → Under h i ls ≡ o → letting i (Cut ls) ≤ 0
        → (gift_place script honest h i (Cut ls) ≡ or_never script honest (was_put script honest h i ls) o) ⊎ (gift_place script honest h i (Cut ls) ≡ Nowhere)
    unfolding or_never
    by_under h i ls logged None e k = inl (none_left h i ls k)
    by_under h i ls logged (Some c) e k = inr (none_left h i ls k ∙ ap (λ z. or_never script honest z None) (under_way_put script honest h i ls c logged e))

    by_notes : (h i : ℕ) (ls : List Link) → AllLogged ls → NotesOr h i (Cut ls) ls → (gift_place script honest h i (Cut ls) ≡ gift_place script honest h i ls) ⊎ (gift_place script honest h i (Cut ls) ≡ Nowhere)
    unfolding gift_place
    by_notes h i ls logged (inl k) = inl (ap (λ z. or_never script honest z (first_place (open_place script honest h i (Cut ls)) (shorten_place script honest h i (Cut ls)))) (same_log h i ls)
        ∙ ap (λ o. or_never script honest (was_put script honest h i ls) (first_place o (shorten_place script honest h i (Cut ls)))) k.0
        ∙ ap (λ o. or_never script honest (was_put script honest h i ls) (first_place (open_place script honest h i ls) o)) k.1)
    by_notes h i ls logged (inr k) = by_under h i ls logged (Under h i ls) refl k

    gift_or : (h i : ℕ) (ls : List Link) → letting i ls ≤ 1 → AllLogged ls → (gift_place script honest h i (Cut ls) ≡ gift_place script honest h i ls) ⊎ (gift_place script honest h i (Cut ls) ≡ Nowhere)
    gift_or h i ls most logged = by_notes h i ls logged (notes_or h i ls most)

    -- ---- the ways

    module _ (vats : List (Vat Name)) (ls : List Link) where
      abbrev W : Ways
      W = ways_of script honest vats ls

      abbrev U : Ways
      U = ways_of script honest vats (Cut ls)

      abbrev Stands : Option Link → List Item
      Stands o = elim o [ Some l ↦ elim (is_honest script honest l) [ true ↦ delivered l.notes | false ↦ [] ] | None ↦ [] ]

      abbrev Over : ℕ → Name → Option Link → Place
      Over d n o = elim o [ Some l ↦ over script honest vats ls d n l | None ↦ Nowhere ]

      -- a link that is cut leads nowhere; of one with an end that is not honest nothing is said
      over_cut : (d : ℕ) (n : Name) (l : Link) (x : Bool) → is_honest script honest l ≡ x → over script honest vats ls d n (world.severed_link l) ≡ elim x [ true ↦ Nowhere | false ↦ Free ]
      unfolding over is_honest world.severed_link
      over_cut d n l x e = ap (λ z. elim z [ true ↦ Nowhere | false ↦ Free ]) e

      over_free : (d : ℕ) (n : Name) (l : Link) → is_honest script honest l ≡ false → over script honest vats ls d n l ≡ Free
      unfolding over
      over_free d n l e = ap (λ z. elim z [ true ↦ elim l.cut [ true ↦ Nowhere | false ↦ leads script honest vats ls d (Ref n) ] | false ↦ Free ]) e

      way_after : (c d : ℕ) (n : Name) → U.onward (Way c d) n ≡ Over d n (world.link_at c d (Cut ls))
      unfolding ways_of onward_at over leads
      way_after c d n = refl

      way_before : (c d : ℕ) (n : Name) → W.onward (Way c d) n ≡ Over d n (world.link_at c d ls)
      unfolding ways_of onward_at
      way_before c d n = refl

      abbrev WayOr : ℕ → ℕ → Type 0
      WayOr c d = ((n : Name) → U.onward (Way c d) n ≡ W.onward (Way c d) n) ⊎ ((n : Name) → U.onward (Way c d) n ≡ Nowhere)

      way_or : (c d : ℕ) → Comes c d (world.link_at c d ls) (world.link_at c d (Cut ls)) → WayOr c d
      way_or c d (as_it_was e) = inl (λ n. way_after c d n ∙ ap (λ o. Over d n o) e ∙ sym (way_before c d n))
      way_or c d (severed l e f) = go (is_honest script honest l) refl
        where
          go : (x : Bool) → is_honest script honest l ≡ x → WayOr c d
          go true i = inr (λ n. way_after c d n ∙ ap (λ o. Over d n o) f ∙ over_cut d n l true i)
          go false i = inl (λ n. way_after c d n ∙ ap (λ o. Over d n o) f ∙ over_cut d n l false i ∙ sym (over_free d n l i) ∙ sym (ap (λ o. Over d n o) e) ∙ sym (way_before c d n))

      pub ways_or : (c d : ℕ) → WayOr c d
      ways_or c d = way_or c d (comes c d ls)

      -- what stands on links
      stands_before : (c d : ℕ) → W.stands (Way c d) ≡ Stands (world.link_at c d ls)
      unfolding ways_of stands_at
      stands_before c d = refl

      stands_after : (c d : ℕ) → U.stands (Way c d) ≡ Stands (world.link_at c d (Cut ls))
      unfolding ways_of stands_at
      stands_after c d = refl

      dishonest_empty : (l : Link) → is_honest script honest l ≡ false → Stands (Some l) ≡ []
      dishonest_empty l e = ap (λ z. elim z [ true ↦ delivered l.notes | false ↦ [] ]) e

      severed_empty : (l : Link) (x : Bool) → is_honest script honest (world.severed_link l) ≡ x → Stands (Some (world.severed_link l)) ≡ []
      unfolding world.severed_link delivered
      severed_empty l true e = ap (λ z. elim z [ true ↦ delivered [] | false ↦ [] ]) e
      severed_empty l false e = ap (λ z. elim z [ true ↦ delivered [] | false ↦ [] ]) e

      abbrev StandsOr : Lane → Item → Type 0
      StandsOr l i = IsIn i (U.stands l) ⊎ ((n : Name) → U.onward l n ≡ Nowhere)

      stands_way : (c d : ℕ) (i : Item) → Comes c d (world.link_at c d ls) (world.link_at c d (Cut ls)) → IsIn i (W.stands (Way c d)) → StandsOr (Way c d) i
      stands_way c d i (as_it_was e) h = inl (subst (IsIn i) (sym (stands_after c d ∙ ap (λ o. Stands o) e ∙ sym (stands_before c d))) h)
      stands_way c d i (severed l e f) h = go (is_honest script honest l) refl
        where
          go : (x : Bool) → is_honest script honest l ≡ x → StandsOr (Way c d) i
          go true k = inr (λ n. way_after c d n ∙ ap (λ o. Over d n o) f ∙ over_cut d n l true k)
          go false k = absurd (subst (IsIn i) (stands_before c d ∙ ap (λ o. Stands o) e ∙ dishonest_empty l k) h)

      stands_or : (l : Lane) (i : Item) → IsIn i (W.stands l) → StandsOr l i
      unfolding ways_of stands_at
      stands_or (Way c d) i h = stands_way c d i (comes c d ls) h
      stands_or other i h = inl h

      module _ (most : OneLetsGo ls) (logged : AllLogged ls) where
        abbrev Leads : Place → Place → Type 0
        Leads c d = (d ≡ c) ⊎ Doom U d

        by_gift : (h i : ℕ) → (gift_place script honest h i (Cut ls) ≡ gift_place script honest h i ls) ⊎ (gift_place script honest h i (Cut ls) ≡ Nowhere) → (x : Bool)
            → Leads (elim x [ true ↦ gift_place script honest h i ls | false ↦ Free ]) (elim x [ true ↦ gift_place script honest h i (Cut ls) | false ↦ Free ])
        by_gift h i (inl e) true = inl e
        by_gift h i (inr e) true = inr (subst (Doom U) (sym e) nowhere)
        by_gift h i o false = inl refl

        unsettled_or : (v : ℕ) (p : Name) (gs : List (GiftEntry Name)) → Leads (unsettled script honest vats ls v p gs) (unsettled script honest vats (Cut ls) v p gs)
        unfolding unsettled
        unsettled_or v (Gift h i) gs = by_gift h i (gift_or h i ls (most i) logged) ((h == v) && not (opened_there (Gift h i) gs))
        unsettled_or v other gs = inl refl

        released_or : (v : ℕ) (p : Name) (gs : List (GiftEntry Name)) (x : Standing Name) → Leads (released script honest vats ls v p gs x) (released script honest vats (Cut ls) v p gs x)
        unfolding released leads
        released_or v p gs Unsettled = unsettled_or v p gs
        released_or v p gs other = inl refl

        held_or : (v : ℕ) (p : Name) (o : Option (Vat Name)) → Leads (released_at script honest vats ls v p o) (released_at script honest vats (Cut ls) v p o)
        unfolding released_at
        held_or v p (Some s) = released_or v p s.gifts (refs.standing_of (names script v) s.known p)
        held_or v p None = inl refl

        of_way : (c d : ℕ) (n : Name) → WayOr c d → Leads (W.onward (Way c d) n) (U.onward (Way c d) n)
        of_way c d n (inl f) = inl (f n)
        of_way c d n (inr f) = inr (subst (Doom U) (sym (f n)) nowhere)

        lane_or : (l : Lane) (n : Name) → Leads (W.onward l n) (U.onward l n)
        unfolding ways_of onward_at
        lane_or (Queue v) n = inl refl
        lane_or (Held v p) n = held_or v p (slice_get vats v)
        lane_or (Way c d) n = of_way c d n (ways_or c d)

        pub shut_off : IsShutOff W U
        shut_off = record { stands = stands_or; links = ways_or; lanes = lane_or }

        pub one_cut : (c : Place) → StaysBehind W U c c
        one_cut c = shutting_keeps W U shut_off c

      -- ---- what stands there

      still_gone : (c d : ℕ) → W.stands (Way c d) ≡ [] → U.stands (Way c d) ≡ []
      still_gone c d e = go (comes c d ls)
        where
          go : Comes c d (world.link_at c d ls) (world.link_at c d (Cut ls)) → U.stands (Way c d) ≡ []
          go (as_it_was f) = stands_after c d ∙ ap (λ o. Stands o) f ∙ sym (stands_before c d) ∙ e
          go (severed l f g) = stands_after c d ∙ ap (λ o. Stands o) g ∙ severed_empty l (is_honest script honest (world.severed_link l)) refl

      gone_here : U.stands (Way a b) ≡ []
      gone_here = go (world.link_at a b ls) refl
        where
          none : Comes a b None (world.link_at a b (Cut ls)) → Stands (world.link_at a b (Cut ls)) ≡ []
          none (as_it_was f) = ap (λ o. Stands o) f
          none (severed l f g) = none_some l f

          go : (o : Option Link) → world.link_at a b ls ≡ o → U.stands (Way a b) ≡ []
          go (Some l) e = stands_after a b ∙ ap (λ o. Stands o) (cut_here ls l e) ∙ severed_empty l (is_honest script honest (world.severed_link l)) refl
          go None e = stands_after a b ∙ none (subst (λ o. Comes a b o (world.link_at a b (Cut ls))) e (comes a b ls))

      pub apart_same : (l : Lane) → (l ≡ Way a b → ⊥) → U.stands l ≡ W.stands l
      unfolding ways_of stands_at
      apart_same (Way c d) f = ap (λ o. Stands o) (elsewhere c d ls f)
      apart_same other f = refl

      -- what stood where nothing stands any more is doomed
      pub lost_there : (l : Lane) (i : Item) (c : List Item) (n : Name) → IsIn i (W.stands l) → U.stands l ≡ [] → Doom U (Mid l c n)
      lost_there l i c n h e = go (stands_or l i h)
        where
          go : StandsOr l i → Doom U (Mid l c n)
          go (inl k) = absurd (subst (IsIn i) e k)
          go (inr f) = by_mid (subst (Doom U) (sym (f n)) nowhere)

-- ---- both links

in_middle : (b : List Item) (i : Item) (js : List Item) → IsIn i (b ++ i ∷ js)
in_middle [] i js = inl refl
in_middle (x ∷ b) i js = inr (in_middle b i js)

module _ (script : Script) (honest : ℕ → Bool) (vats : List (Vat Name)) (a b : ℕ) (ls : List Link) (most : OneLetsGo ls) (logged : AllLogged ls) where
  abbrev Half : List Link
  Half = Cut a b ls

  abbrev Whole : List Link
  Whole = Cut b a Half

  abbrev Before : Ways
  Before = ways_of script honest vats ls

  abbrev Between : Ways
  Between = ways_of script honest vats Half

  abbrev After : Ways
  After = ways_of script honest vats Whole

  half_most : OneLetsGo Half
  half_most i = let less = severed_most i a b ls in let one = most i in omega arith

  half_logged : AllLogged Half
  half_logged = cuts_logged a b ls logged

  first_cut : (c : Place) → StaysBehind Before Between c c
  first_cut c = one_cut a b script honest vats ls most logged c

  second_cut : (c : Place) → StaysBehind Between After c c
  second_cut c = one_cut b a script honest vats Half half_most half_logged c

  stays : (c : Place) → StaysBehind Before After c c
  stays c = let f = first_cut c in let g = second_cut c in (λ h. g.0 (f.0 h), λ x h. g.1 x (f.1 x h))

  both_apart : (l : Lane) → (IsBetween a b l → ⊥) → After.stands l ≡ Before.stands l
  both_apart l f = apart_same b a script honest vats Half l (λ e. f (inr e)) ∙ apart_same a b script honest vats ls l (λ e. f (inl e))

  both_gone : (l : Lane) → IsBetween a b l → After.stands l ≡ []
  both_gone l (inl e) = subst (λ k. After.stands k ≡ []) (sym e) (still_gone b a script honest vats Half a b (gone_here a b script honest vats ls))
  both_gone l (inr e) = subst (λ k. After.stands k ≡ []) (sym e) (gone_here b a script honest vats Half)

  lost_either : (l : Lane) (i : Item) (c : List Item) (n : Name) → IsIn i (Before.stands l) → After.stands l ≡ [] → IsIn i (Between.stands l) ⊎ ((m : Name) → Between.onward l m ≡ Nowhere) → Doom After (Mid l c n)
  lost_either l i c n h e (inl k) = lost_there b a script honest vats Half l i c n k e
  lost_either l i c n h e (inr f) = (second_cut (Mid l c n)).0 (by_mid (subst (Doom Between) (sym (f n)) nowhere))

  both_lost : (m : Name) (l : Lane) (c : List Item) (n : Name) → IsBetween a b l → StandsAt Before m l c n → Doom After (Mid l c n)
  both_lost m l c n k s = let i : Item = record { mail = m; aim = n } in let there : IsIn i (Before.stands l) = subst (IsIn i) (sym s.found) (in_middle c i s.behind) in
      lost_either l i c n there (both_gone l k) ((shut_off a b script honest vats ls most logged).stands l i there)

goes_is : (w x : World) → Goes w ≡ Goes x → w ≡ x
goes_is w x e = cc

pub cuts_keep : CutsKeep
unfolding world.step world.cut ways leads
cuts_keep = λ script honest w y a b k most logged e. subst (λ (z : World). CutKeeps script honest w z a b) (goes_is _ y e) (kept script honest w a b most logged _)
  where
    kept : (script : Script) (honest : ℕ → Bool) (w : World) (a b : ℕ) → OneLetsGo w.links → AllLogged w.links → (es : List world.Event)
        → CutKeeps script honest w (record w { links = world.with_link world.severed_link b a (world.with_link world.severed_link a b w.links); history = es }) a b
    kept script honest w a b most logged es = record {
      leading = λ u x. refl;
      places = λ c. stays script honest w.vats a b w.links most logged c;
      apart = λ l f. both_apart script honest w.vats a b w.links most logged l f;
      gone = λ l h. both_gone script honest w.vats a b w.links most logged l h;
      lost = λ m l c n h s. both_lost script honest w.vats a b w.links most logged m l c n h s;
    }
