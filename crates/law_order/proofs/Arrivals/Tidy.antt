-- Where all vats have names with the hosts that the names tell, and links bring what is the receiver's own, every lane leads to such places.
use Rattle.std.proofs.Common.{◌≡◌, ℕ, Bool, true, false, List, [], ◌∷◌, ◌++◌, Option, Some, None, refl, sym, subst, ◌⊎◌, inl, inr, eq-eqb}
use Rattle.std.specs.Prelude.{slice_get, not, ◌==◌, ◌&&◌}
use Rattle.def_machine.specs.Values.{Value, Ref, Name, Gift, host_of}
use Rattle.def_machine.specs.State.{Standing, Unsettled, WaitsOn, Viewed, Settled, Note, Deliver, Open, Ask, SettledTo, Elsewhere, Shorten, GiftEntry, Vat}
use Rattle.def_machine.specs.Refs as refs
use Rattle.def_run.specs.World.{Script, Link, names}
use Rattle.def_run.specs.World as world
use Rattle.law_order.specs.Ordering.Ways.{Lane, Queue, Held, Way, Item, Place, Nowhere, Free, IsIn}
use Rattle.law_order.specs.Ordering.Arrivals.{IsGoodPlace}
use Rattle.law_order.specs.Ordering.Places.{delivered, opens, shortens, subject, in_lane, note_place, first_place, opened_there, is_honest, open_place, shorten_place, was_put, or_never, gift_place, leads_at, leads, unsettled, released, released_at, stands_at, over, onward_at}
use Rattle.law_order.proofs.Ordering.Sends.{some_same, none_some, found_ends}
use Rattle.law_order.specs.Arrivals.Tellings.{owned, IsNoteFor, AreNotesFor, LinksBring, HostsAreTold}
use Rattle.law_order.proofs.Arrivals.Reaching.{leads_has}

abbrev pub IsGood : Place → Type 0
IsGood = IsGoodPlace owned

pub owned_way : (a b : ℕ) (m : Name) → host_of m ≡ b → owned (Way a b) m ≡ true
unfolding owned
owned_way a b m e = eq-eqb (host_of m) b e

pub owned_queue : (u : ℕ) (m : Name) → owned (Queue u) m ≡ true
unfolding owned
owned_queue u m = refl

pub owned_held : (u : ℕ) (p m : Name) → owned (Held u p) m ≡ true
unfolding owned
owned_held u p m = refl

-- ---- notes

abbrev AllGood : Lane → List Item → Type 0
AllGood l b = (i : Item) → IsIn i b → owned l i.aim ≡ true

in_either : (i : Item) (a b : List Item) → IsIn i (a ++ b) → IsIn i a ⊎ IsIn i b
in_either i [] b h = inr h
in_either i (j ∷ a) b (inl e) = inl (inl e)
in_either i (j ∷ a) b (inr h) = go (in_either i a b h)
  where
    go : IsIn i a ⊎ IsIn i b → IsIn i (j ∷ a) ⊎ IsIn i b
    go (inl k) = inl (inr k)
    go (inr k) = inr k

append_good : (l : Lane) (a b : List Item) → AllGood l a → AllGood l b → AllGood l (a ++ b)
append_good l a b f g i h = go (in_either i a b h)
  where
    go : IsIn i a ⊎ IsIn i b → owned l i.aim ≡ true
    go (inl k) = f i k
    go (inr k) = g i k

one_good : (l : Lane) (j : Item) → owned l j.aim ≡ true → AllGood l (j ∷ [])
one_good l j e i (inl k) = subst (λ q. owned l q.aim ≡ true) (sym k) e
one_good l j e i (inr k) = absurd k

delivered_one : (a b : ℕ) (n : Note Name) → IsNoteFor b n → AllGood (Way a b) (delivered (n ∷ []))
unfolding delivered
delivered_one a b (Deliver m n verb ys) e = one_good (Way a b) (record { mail = m.message; aim = n }) (owned_way a b n e)
delivered_one a b other e = λ i h. absurd h

delivered_good : (a b : ℕ) (ns : List (Note Name)) → AreNotesFor b ns → AllGood (Way a b) (delivered ns)
unfolding delivered
delivered_good a b [] e = λ i h. absurd h
delivered_good a b (Deliver m n verb ys ∷ ns) e = append_good (Way a b) (record { mail = m.message; aim = n } ∷ []) (delivered ns) (one_good (Way a b) (record { mail = m.message; aim = n }) (owned_way a b n e.0)) (delivered_good a b ns e.1)
delivered_good a b (Open j n ∷ ns) e = delivered_good a b ns e.1
delivered_good a b (Ask p j n ∷ ns) e = delivered_good a b ns e.1
delivered_good a b (SettledTo n y ∷ ns) e = delivered_good a b ns e.1
delivered_good a b (Elsewhere n c ∷ ns) e = delivered_good a b ns e.1
delivered_good a b (Shorten n c j ∷ ns) e = delivered_good a b ns e.1

abbrev IsGoodOption : Option Place → Type 0
IsGoodOption (Some c) = IsGood c
IsGoodOption None = Unit {0}

lane_good : (a b : ℕ) (js : List Item) (n : Note Name) → IsNoteFor b n → AllGood (Way a b) js → IsGoodOption (in_lane (Way a b) js (subject n))
unfolding in_lane subject
lane_good a b js (Open j n) e f = (owned_way a b n e, f)
lane_good a b js (Shorten n c j) e f = (owned_way a b n e, f)
lane_good a b js other e f = tt

note_good : (f : Note Name → Bool) (a b : ℕ) (js : List Item) (ns : List (Note Name)) → AreNotesFor b ns → AllGood (Way a b) js → IsGoodOption (note_place f (Way a b) js ns)
unfolding note_place
note_good f a b js [] e g = tt
note_good f a b js (n ∷ ns) e g = go (note_good f a b (js ++ delivered (n ∷ [])) ns e.1 (append_good (Way a b) js (delivered (n ∷ [])) g (delivered_one a b n e.0))) (f n)
  where
    go : IsGoodOption (note_place f (Way a b) (js ++ delivered (n ∷ [])) ns) → (c : Bool) → IsGoodOption (elim c [ true ↦ in_lane (Way a b) js (subject n) | false ↦ note_place f (Way a b) (js ++ delivered (n ∷ [])) ns ])
    go h true = lane_good a b js n e.0 g
    go h false = h

first_good : (c o : Option Place) → IsGoodOption c → IsGoodOption o → IsGoodOption (first_place c o)
unfolding first_place
first_good (Some c) o g h = g
first_good None o g h = h

both_true : (a b : Bool) → (a && b) ≡ true → a ≡ true
both_true true b e = refl
both_true false b e = e

module _ (script : Script) (honest : ℕ → Bool) where
  honest_is : (l : Link) → is_honest script honest l ≡ true → (honest l.from && honest l.to) ≡ true
  unfolding is_honest
  honest_is l e = e

  open_good : (h i : ℕ) (ls : List Link) → LinksBring honest ls → IsGoodOption (open_place script honest h i ls)
  unfolding open_place
  open_good h i [] e = tt
  open_good h i (l ∷ ls) e = go (open_good h i ls e.1) (is_honest script honest l && (l.to == h)) refl
    where
      go : IsGoodOption (open_place script honest h i ls) → (c : Bool) → (is_honest script honest l && (l.to == h)) ≡ c → IsGoodOption (elim c [ true ↦ first_place (note_place (opens i) (Way l.from l.to) [] l.notes) (open_place script honest h i ls) | false ↦ open_place script honest h i ls ])
      go r true k = first_good (note_place (opens i) (Way l.from l.to) [] l.notes) (open_place script honest h i ls) (note_good (opens i) l.from l.to [] l.notes (e.0 (honest_is l (both_true (is_honest script honest l) (l.to == h) k))) (λ j q. absurd q)) r
      go r false k = r

  shorten_good : (h i : ℕ) (ls : List Link) → LinksBring honest ls → IsGoodOption (shorten_place script honest h i ls)
  unfolding shorten_place
  shorten_good h i [] e = tt
  shorten_good h i (l ∷ ls) e = go (shorten_good h i ls e.1) (is_honest script honest l) refl
    where
      go : IsGoodOption (shorten_place script honest h i ls) → (c : Bool) → is_honest script honest l ≡ c → IsGoodOption (elim c [ true ↦ first_place (note_place (shortens h i) (Way l.from l.to) [] l.notes) (shorten_place script honest h i ls) | false ↦ shorten_place script honest h i ls ])
      go r true k = first_good (note_place (shortens h i) (Way l.from l.to) [] l.notes) (shorten_place script honest h i ls) (note_good (shortens h i) l.from l.to [] l.notes (e.0 (honest_is l k)) (λ j q. absurd q)) r
      go r false k = r

  never_good : (c : Bool) (o : Option Place) → IsGoodOption o → IsGood (or_never script honest c o)
  unfolding or_never
  never_good c (Some d) g = g
  never_good true None g = tt
  never_good false None g = tt

  gift_good : (h i : ℕ) (ls : List Link) → LinksBring honest ls → IsGood (gift_place script honest h i ls)
  unfolding gift_place
  gift_good h i ls e = never_good (was_put script honest h i ls) (first_place (open_place script honest h i ls) (shorten_place script honest h i ls)) (first_good (open_place script honest h i ls) (shorten_place script honest h i ls) (open_good h i ls e) (shorten_good h i ls e))

  -- ---- the ways of such vats and links

  module _ (vats : List (Vat Name)) (links : List Link) (hosts : (u : ℕ) (r : Vat Name) → slice_get vats u ≡ Some r → HostsAreTold (names script u) r) (bring : LinksBring honest links) where
    leads_by : (u : ℕ) (o : Option (Vat Name)) → slice_get vats u ≡ o → (x : Value Name) → IsGood (leads_at script honest u o x)
    unfolding leads_at
    leads_by u (Some r) e x = leads_has script honest u r (hosts u r e) IsGood (λ m. Unit {0}) tt (λ m. owned_queue u m) (λ m. owned_held u m m) (λ h m q k. owned_way u h m k) (λ m. tt) x
    leads_by u None e x = tt

    pub leads_good : (u : ℕ) (x : Value Name) → IsGood (leads script honest vats links u x)
    unfolding leads
    leads_good u x = leads_by u (slice_get vats u) refl x

    unsettled_if : (c : Bool) (h i : ℕ) → IsGood (elim c [ true ↦ gift_place script honest h i links | false ↦ Free ])
    unsettled_if true h i = gift_good h i links bring
    unsettled_if false h i = tt

    unsettled_good : (u : ℕ) (p : Name) (gs : List (GiftEntry Name)) → IsGood (unsettled script honest vats links u p gs)
    unfolding unsettled
    unsettled_good u (Gift h i) gs = unsettled_if ((h == u) && not (opened_there (Gift h i) gs)) h i
    unsettled_good u other gs = tt

    released_good : (u : ℕ) (p : Name) (gs : List (GiftEntry Name)) (q : Standing Name) → IsGood (released script honest vats links u p gs q)
    unfolding released
    released_good u p gs Unsettled = unsettled_good u p gs
    released_good u p gs (WaitsOn z) = leads_good u (Ref z)
    released_good u p gs (Viewed z) = leads_good u (Ref z)
    released_good u p gs (Settled y) = leads_good u y

    held_good : (u : ℕ) (p : Name) (o : Option (Vat Name)) → IsGood (released_at script honest vats links u p o)
    unfolding released_at
    held_good u p (Some r) = released_good u p r.gifts (refs.standing_of (names script u) r.known p)
    held_good u p None = tt

    over_by : (b : ℕ) (m : Name) (c d : Bool) → IsGood (elim c [ true ↦ elim d [ true ↦ Nowhere | false ↦ leads script honest vats links b (Ref m) ] | false ↦ Free ])
    over_by b m true false = leads_good b (Ref m)
    over_by b m other another = tt

    way_good : (b : ℕ) (m : Name) (o : Option Link) → IsGood (elim o [ Some l ↦ over script honest vats links b m l | None ↦ Nowhere ])
    unfolding over
    way_good b m (Some l) = over_by b m (is_honest script honest l) l.cut
    way_good b m None = tt

    pub onward_good : (l : Lane) (m : Name) → IsGood (onward_at script honest vats links l m)
    unfolding onward_at
    onward_good (Queue u) m = tt
    onward_good (Held u p) m = held_good u p (slice_get vats u)
    onward_good (Way a b) m = way_good b m (world.link_at a b links)

    -- ---- what stands

    found_brings : (a b : ℕ) (ls : List Link) (l : Link) → LinksBring honest ls → world.link_at a b ls ≡ Some l → is_honest script honest l ≡ true → AreNotesFor l.to l.notes
    unfolding world.link_at
    found_brings a b [] l e f k = none_some l f
    found_brings a b (j ∷ ls) l e f k = go (λ q. found_brings a b ls l e.1 q k) (world.is_link a b j) f
      where
        go : (world.link_at a b ls ≡ Some l → AreNotesFor l.to l.notes) → (c : Bool) → elim c [ true ↦ Some j | false ↦ world.link_at a b ls ] ≡ Some l → AreNotesFor l.to l.notes
        go r true q = let same = some_same j l q in subst (λ z. (honest z.from && honest z.to) ≡ true → AreNotesFor z.to z.notes) same e.0 (honest_is l k)
        go r false q = r q

    abbrev NotesOf : Bool → Link → List Item
    NotesOf c l = elim c [ true ↦ delivered l.notes | false ↦ [] ]

    notes_owned : (a b : ℕ) (l : Link) → world.link_at a b links ≡ Some l → (c : Bool) → is_honest script honest l ≡ c → AllGood (Way a b) (NotesOf c l)
    notes_owned a b l e true k = delivered_good a b l.notes (subst (λ z. AreNotesFor z l.notes) (found_ends a b links l e).1 (found_brings a b links l bring e k))
    notes_owned a b l e false k = λ i h. absurd h

    row_owned : (a b : ℕ) (o : Option Link) → world.link_at a b links ≡ o → AllGood (Way a b) (elim o [ Some l ↦ NotesOf (is_honest script honest l) l | None ↦ [] ])
    row_owned a b (Some l) e = notes_owned a b l e (is_honest script honest l) refl
    row_owned a b None e = λ i h. absurd h

    pub items_good : (l : Lane) (i : Item) → IsIn i (stands_at script honest vats links l) → owned l i.aim ≡ true
    unfolding stands_at
    items_good (Queue u) i h = owned_queue u i.aim
    items_good (Held u p) i h = owned_held u p i.aim
    items_good (Way a b) i h = row_owned a b (world.link_at a b links) refl i h
