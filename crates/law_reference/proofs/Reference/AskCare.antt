-- A gift of another vat that comes to be known in a step is asked for there in front of all that names it, and one of the vat's own stands: a care for names, and for the notes put.
use Rattle.std.proofs.Common.{◌≡◌, ℕ, Bool, true, false, List, [], ◌∷◌, ◌++◌, Option, Some, None, if◌then◌else◌, codes, refl, sym, ap, ◌∙◌, ◌⊎◌, inl, inr, ◌==◌}
use Rattle.std.proofs.lemmas.Bool.{eq-eqb}
use Rattle.def_machine.specs.Values.{Broken, Ref, Name, Root, Object, Promise, Answer, Gift, Sent, Spot, Own, Foreign, NoObject, Naming, naming, name_of, mail_of, answer_of, spot_of, host_of, IsGift, IsLearnt, under}
use Rattle.def_machine.specs.State.{Change, See, Views, Note, Ask, Shorten, Put, GiftEntry, Vat, Act, ◌>>=◌, ◌>>◌, and_then, give, look, come, mail, new_gift, alter, send_out, with_change, with_opened, is_gift, is_in, begun}
use Rattle.def_machine.specs.Refs as refs
use Rattle.def_machine.specs.Refs.{Mine, Away, host_at}
use Rattle.def_machine.specs.Arrive as arrive
use Rattle.def_machine.specs.Arrive.{New}
use Rattle.def_run.specs.World as world
use Rattle.law_fate.specs.Name.Names.{Bit, Named, Mail, Entered, Owns, AllOf, IsAmong, IsKnownIn, IsMessageName, NameOk, GiftOk, PutOk, names_in}
use Rattle.law_fate.proofs.Name.Facts.{MayBe, all_map, all_end, note_up, PlaceOk, Fact, Also, IsName, IsMail, IsDraw, IsEntry, IsValue, AreNames, nothing}
use Rattle.law_fate.proofs.Name.Care.{Care, Under, Makes, Sound, Ends, Gets, Fine, widen, still, fine_bind, fine_less, fine_then, fine_more, fine_give, fine_look, fine_tell, fine_out, fine_draw, fine_wait, changes_ok, with_known}
use Rattle.law_fate.proofs.Name.CareRefs.{fine_settle}
use Rattle.law_fate.proofs.Name.CareArrive.{Gifts}
use Rattle.law_fate.proofs.Name.Looks.{gift_at_ok}
use Rattle.law_fate.proofs.Name.Among.{among_more, among_last, among_or, all_among, names_end}
use Rattle.law_fate.proofs.Name.SameNames.{reference_is, old_known}
use Rattle.law_fate.proofs.Name.Tracked.{known_among, names_change}
use Rattle.law_reference.specs.Reference.Standing.{IsEntered}
use Rattle.law_reference.specs.Reference.Behind.{Avoids}
use Rattle.law_reference.proofs.Reference.First.{among_dec, PutsAhead, ahead_more, ahead_last}
use Rattle.law_reference.specs.Reference.ApartAsking.{AsksFor}
use Rattle.law_reference.proofs.Reference.Arrivals.{NoteTells, note_read}

-- ---- lists

entered_more : (i : ℕ) (gs : List (GiftEntry Name)) (g : GiftEntry Name) → IsEntered i gs → IsEntered i (gs ++ g ∷ [])
entered_more i [] g h = absurd h
entered_more i (k ∷ gs) g (inl e) = inl e
entered_more i (k ∷ gs) g (inr h) = inr (entered_more i gs g h)

entered_last : (i : ℕ) (gs : List (GiftEntry Name)) (g : GiftEntry Name) → g.number ≡ i → IsEntered i (gs ++ g ∷ [])
entered_last i [] g e = inl e
entered_last i (k ∷ gs) g e = inr (entered_last i gs g e)

opened_or : (i : ℕ) (b : Bool) (g : GiftEntry Name) (gs hs : List (GiftEntry Name)) → (IsEntered i gs → IsEntered i hs) → IsEntered i (g ∷ gs) → IsEntered i (elim b [ true ↦ record g { opened = true } ∷ gs | false ↦ g ∷ hs ])
opened_or i true g gs hs f (inl e) = inl e
opened_or i true g gs hs f (inr h) = inr h
opened_or i false g gs hs f (inl e) = inl e
opened_or i false g gs hs f (inr h) = inr (f h)

entered_opened : (i p j : ℕ) (gs : List (GiftEntry Name)) → IsEntered i gs → IsEntered i (with_opened p j gs)
unfolding with_opened
entered_opened i p j [] h = h
entered_opened i p j (g ∷ gs) h = opened_or i (is_gift p j g) g gs (with_opened p j gs) (entered_opened i p j gs) h

in_or : (b : Bool) (n : ℕ) (xs ys : List ℕ) → (is_in n xs ≡ true → is_in n ys ≡ true) → elim b [ true ↦ true | false ↦ is_in n xs ] ≡ true → elim b [ true ↦ true | false ↦ is_in n ys ] ≡ true
in_or true n xs ys f e = refl
in_or false n xs ys f e = f e

in_more : (n : ℕ) (xs : List ℕ) (w : ℕ) → is_in n xs ≡ true → is_in n (xs ++ w ∷ []) ≡ true
unfolding is_in
in_more n [] w e = cc
in_more n (x ∷ xs) w e = in_or (n == x) n xs (xs ++ w ∷ []) (in_more n xs w) e

known_up : (ns ms : List Name) → ((n : Name) → IsAmong n ns → IsAmong n ms) → (n : Name) → IsKnownIn ns n → IsKnownIn ms n
known_up ns ms f (Object w i) h = tt
known_up ns ms f (Root w) h = f (Root w) h
known_up ns ms f (Promise w i) h = f (Promise w i) h
known_up ns ms f (Answer w m) h = f (Answer w m) h
known_up ns ms f (Gift w i) h = f (Gift w i) h
known_up ns ms f (Sent m) h = f (Sent m) h

true_false : true ≡ false → ⊥
true_false e = cc

-- ---- what is in hand is known

abbrev pub Has : List Name → Bit Name → Type 0
Has ns (Named n) = IsKnownIn ns n
Has ns (Mail n) = IsMessageName n
Has ns (Entered n) = IsKnownIn ns n
Has ns (Owns n j) = IsKnownIn ns n
Has ns other = Unit {0}

abbrev pub Grows : Vat Name → Vat Name → Type 0
Grows s t = (n : Name) → IsAmong n (names_in s.known) → IsAmong n (names_in t.known)

pub has_up : (s t : Vat Name) → Grows s t → (b : Bit Name) → Has (names_in s.known) b → Has (names_in t.known) b
has_up s t f (Named n) h = known_up (names_in s.known) (names_in t.known) f n h
has_up s t f (Mail n) h = h
has_up s t f (Entered n) h = known_up (names_in s.known) (names_in t.known) f n h
has_up s t f (Owns n j) h = known_up (names_in s.known) (names_in t.known) f n h
has_up s t f other h = tt

one_more : (s : Vat Name) (n : Name) (h : ℕ) → Grows s (record s { known = s.known ++ begun n h ∷ [] })
unfolding begun
one_more s n h m a = rw (sym (names_end s.known (begun n h))) at (among_more m (names_in s.known) n a)

last_known : (s : Vat Name) (n : Name) (h : ℕ) → IsKnownIn (names_in (s.known ++ begun n h ∷ [])) n
unfolding begun
last_known s n h = known_among (names_in (s.known ++ begun n h ∷ [])) n (rw (sym (names_end s.known (begun n h))) at (among_last (names_in s.known) n))

-- of a name that a note brings and that is known by then
old_has : (ks ns : List Name) (n : Name) → IsKnownIn ks n → AllOf (λ (m : Name). IsKnownIn ns m) ks → IsKnownIn ns n
old_has ks ns (Object w i) h a = tt
old_has ks ns (Root w) h a = all_among (λ (m : Name). IsKnownIn ns m) ks (Root w) a h
old_has ks ns (Promise w i) h a = all_among (λ (m : Name). IsKnownIn ns m) ks (Promise w i) a h
old_has ks ns (Answer w m) h a = all_among (λ (m : Name). IsKnownIn ns m) ks (Answer w m) a h
old_has ks ns (Gift w i) h a = all_among (λ (m : Name). IsKnownIn ns m) ks (Gift w i) a h
old_has ks ns (Sent m) h a = all_among (λ (m : Name). IsKnownIn ns m) ks (Sent m) a h

module _ (g i : ℕ) where
  abbrev pub X : Name
  X = Gift g i

  -- the gift is asked for among the notes put, and no note in front names it
  abbrev pub PutsFirst : List (Put Name) → Type 0
  PutsFirst ps = PutsAhead (AsksFor i) X g ps

  no_answer : (h : ℕ) (m : Name) → IsMessageName m → X ≡ answer_of h m → ⊥
  unfolding answer_of
  no_answer h (Sent m) o e = cc
  no_answer h other o e = absurd o

  no_promise : (w j : ℕ) → X ≡ Promise w j → ⊥
  no_promise w j e = cc

  same_gift : (h j : ℕ) → X ≡ Gift h j → (g ≡ h) × (i ≡ j)
  same_gift h j e = let a : g ≡ h = cc in let b : i ≡ j = cc in (a, b)

  -- a note that names what is known names nothing that is not
  avoids : (ns : List Name) → (IsAmong X ns → ⊥) → (b : Bit Name) → Has ns b → Avoids X b
  avoids ns f (Named n) h = λ e. let k : IsKnownIn ns X = rw e at h in f k
  avoids ns f other h = tt

  module _ (v : ℕ) (E : Type 0) where
    -- The gift is the vat's own and stands; or E; or it is asked for in front of all that names it, or its host is noticed.
    abbrev pub Why : Vat Name → Type 0
    Why s = ((g ≡ v) × IsEntered i s.gifts) ⊎ (E ⊎ ((g ≡ v → ⊥) × (PutsFirst s.outbox ⊎ (is_in g s.noticed ≡ true))))

    abbrev pub Held : Vat Name → Type 0
    Held s = IsAmong X (names_in s.known) → Why s

    abbrev pub Asks : Care Name
    Asks = record {
      ok = λ s b. Has (names_in s.known) b;
      more = λ s. (s.number ≡ v) × Held s;
      rel = λ s t. Grows s t;
      same = λ s n a. a;
      trans = λ s t u h k n a. k n (h n a);
      up = λ s t r b h. has_up s t r b h;
      here = λ s m. tt;
      near = λ s h k. tt;
      entered = λ s n h. h;
      owned = λ s n j h. h;
      owner = λ s n j h k. h;
      drew = λ s j h. tt;
      fuel = λ s n. (λ m a. a, λ h. h);
      told = λ s e n. (λ m a. a, λ h. h);
      activations = λ s. (λ m a. a, λ h. h);
      thing = λ s t. (λ m a. a, λ h. h);
      killed = λ s n. (λ m a. a, λ h. h);
      slot = λ s c. (λ m a. a, λ h. h);
      written = λ s n x. (λ m a. a, λ h. h);
      list = λ s vs. (λ m a. a, λ h. h);
    }

    -- ---- what a reason outlasts

    why_put : (s : Vat Name) (p : Put Name) → Why s → Why (record s { outbox = s.outbox ++ p ∷ [] })
    why_put s p (inl h) = inl h
    why_put s p (inr (inl e)) = inr (inl e)
    why_put s p (inr (inr (f, inl h))) = inr (inr (f, inl (ahead_more (AsksFor i) X g s.outbox p h)))
    why_put s p (inr (inr (f, inr e))) = inr (inr (f, inr e))

    why_opened : (s : Vat Name) (p j : ℕ) → Why s → Why (record s { gifts = with_opened p j s.gifts })
    why_opened s p j (inl h) = inl (h.0, entered_opened i p j s.gifts h.1)
    why_opened s p j (inr h) = inr h

    why_gift : (s : Vat Name) (x : GiftEntry Name) → Why s → Why (record s { gifts = s.gifts ++ x ∷ [] })
    why_gift s x (inl h) = inl (h.0, entered_more i s.gifts x h.1)
    why_gift s x (inr h) = inr h

    why_noticed : (s : Vat Name) (w : ℕ) → Why s → Why (record s { noticed = s.noticed ++ w ∷ [] })
    why_noticed s w (inl h) = inl h
    why_noticed s w (inr (inl e)) = inr (inl e)
    why_noticed s w (inr (inr (f, inl h))) = inr (inr (f, inl h))
    why_noticed s w (inr (inr (f, inr e))) = inr (inr (f, inr (in_more g s.noticed w e)))

    -- another name comes to be known
    other_held : (s : Vat Name) (n : Name) (h : ℕ) → (X ≡ n → ⊥) → Held s → Held (record s { known = s.known ++ begun n h ∷ [] })
    unfolding begun
    other_held s n h f o a = either (among_or X (names_in s.known) n (rw (names_end s.known (begun n h)) at a))
      where
        either : IsAmong X (names_in s.known) ⊎ (X ≡ n) → Why s
        either (inl b) = o b
        either (inr e) = absurd (f e)

    module _ (word : ℕ → ℕ) where
      abbrev K : Naming Name Name
      K = naming word v

      hosted_ok : (s : Vat Name) (n : Name) (h : ℕ) (b : Bool) → IsKnownIn (names_in s.known) n → PlaceOk (Has (names_in s.known)) (elim b [ true ↦ Mine n | false ↦ Away h n false ])
      hosted_ok s n h true k = k
      hosted_ok s n h false k = (k, tt)

      spot_ok : (s : Vat Name) (n : Name) (p : Spot) → IsKnownIn (names_in s.known) n → PlaceOk (Has (names_in s.known)) (refs.spotted K s n p)
      unfolding refs.spotted refs.hosted
      spot_ok s n (Own j) k = tt
      spot_ok s n (Foreign w) k = (k, tt)
      spot_ok s n NoObject k = hosted_ok s n (host_at K s.number s.known n) (s.number == host_at K s.number s.known n) k

      changed_grows : (s : Vat Name) (c : Change Name) (n : Name) → Grows s (record s { known = with_change K c n s.known })
      changed_grows s c n m a = rw (sym (names_change K c n s.known)) at a

      changed_held : (s : Vat Name) (c : Change Name) (n : Name) → Held s → Held (record s { known = with_change K c n s.known })
      changed_held s c n o a = o (rw (names_change K c n s.known) at a)

      pub asks_under : Under K Asks
      unfolding naming name_of
      asks_under = record {
        spots = record { alike = λ a b e. reference_is a b e; placed = λ s m n k. spot_ok s n (spot_of v n) k };
        object = λ s j l. tt;
        happened = λ s e. (λ n a. a, λ h. h);
        queue = λ s m. (λ n a. a, λ h. h);
        outbox = λ s p k. (λ n a. a, λ h. (h.0, λ a. why_put s p (h.1 a)));
        opened = λ s p j. (λ n a. a, λ h. (h.0, λ a. why_opened s p j (h.1 a)));
        noticed = λ s w. (λ n a. a, λ h. (h.0, λ a. why_noticed s w (h.1 a)));
        drawn = λ s w. (λ n a. a, λ h. h, tt);
        altered = λ s c n none k. (changed_grows s c n, λ h. (h.0, changed_held s c n h.1));
        answered = λ s h m o at. (one_more s (answer_of h m) h, λ k. (k.0, other_held s (answer_of h m) h (no_answer h m o) k.1), last_known s (answer_of h m) h);
      }

      pub asks_makes : Makes K Asks
      unfolding naming name_of mail_of answer_of
      asks_makes = record {
        promised = λ s. (one_more s (Promise v s.promises) s.number, λ k. (k.0, other_held s (Promise v s.promises) s.number (no_promise v s.promises) k.1), last_known s (Promise v s.promises) s.number);
        lone = λ s. (λ n a. a, λ k. k, tt);
        messaged = λ s h at. let m : Name = Sent (record { sender = v; number = s.messages }) in (one_more s (answer_of h m) h, λ k. (k.0, other_held s (answer_of h m) h (no_answer h m tt) k.1), tt, last_known s (answer_of h m) h);
      }

      -- ---- gifts at their host

      had_why : (s : Vat Name) (j : ℕ) (x : GiftEntry Name) → x.number ≡ j → s.number ≡ v → Held s → IsAmong X (names_in (s.known ++ begun (Gift s.number j) s.number ∷ [])) → Why (record s { known = s.known ++ begun (Gift s.number j) s.number ∷ []; gifts = s.gifts ++ x ∷ [] })
      unfolding begun
      had_why s j x n e o a = either (among_or X (names_in s.known) (Gift s.number j) (rw (names_end s.known (begun (Gift s.number j) s.number)) at a))
        where
          either : IsAmong X (names_in s.known) ⊎ (X ≡ Gift s.number j) → Why (record s { known = s.known ++ begun (Gift s.number j) s.number ∷ []; gifts = s.gifts ++ x ∷ [] })
          either (inl b) = why_gift s x (o b)
          either (inr f) = let same = same_gift s.number j f in inl (same.0 ∙ e, entered_last i s.gifts x (n ∙ sym same.1))

      had_ends : (s : Vat Name) (p j : ℕ) (o : Option (GiftEntry Name)) → Sound Asks s → MayBe (GiftOk (Has (names_in s.known))) o → Ends Asks IsName s (arrive.gift_or_new K s.number p j o s)
      unfolding arrive.gift_or_new ◌>>=◌ ◌>>◌ and_then come new_gift give naming name_of
      had_ends s p j (Some x) h m = (λ n a. a, h, m.0)
      had_ends s p j None h m = let n : Name = Gift s.number j in let x : GiftEntry Name = record { name = n; provider = p; number = j; opened = false } in
          let t : Vat Name = record s { known = s.known ++ begun n s.number ∷ [] } in let u : Vat Name = record t { gifts = t.gifts ++ x ∷ [] } in let known = last_known s n s.number in
          let parts = with_known K Asks asks_under s t n s.number (one_more s n s.number) known h in (
            one_more s n s.number,
            record {
              parts = record { things = parts.things; slots = parts.slots; lists = parts.lists; queue = parts.queue; known = parts.known; gifts = all_end (GiftOk (Has (names_in t.known))) s.gifts x parts.gifts (known, tt); outbox = parts.outbox };
              more = (let k = h.more in k.0, λ a. had_why s j x refl (let k = h.more in k.0) (let k = h.more in k.1) a);
            },
            known,
          )

      had_fine : {C : Fact Name} (p j : ℕ) → Fine Asks C (arrive.have_gift K p j) IsName
      unfolding arrive.have_gift ◌>>=◌ and_then look
      had_fine p j = record { after = λ s h c. had_ends s p j (arrive.gift_at p j s.gifts) h (gift_at_ok (Has (names_in s.known)) p j s.gifts h.parts.gifts) }

      pub asks_gifts : Gifts K Asks
      asks_gifts = record {
        entered = λ C p j k. fine_more Asks IsName IsEntry (had_fine p j) (λ n. record { at = λ s c. c });
        named = λ C p j k. had_fine p j;
      }

      -- ---- a gift of another vat comes to be known, and is asked for

      -- where its host is noticed
      gone_held : (s : Vat Name) (h j : ℕ) → (h ≡ v → ⊥) → is_in h s.noticed ≡ true → Held s → Held (record s { known = s.known ++ begun (Gift h j) h ∷ [] })
      unfolding begun
      gone_held s h j f e o a = either (among_or X (names_in s.known) (Gift h j) (rw (names_end s.known (begun (Gift h j) h)) at a))
        where
          either : IsAmong X (names_in s.known) ⊎ (X ≡ Gift h j) → Why s
          either (inl b) = o b
          either (inr x) = let same = same_gift h j x in inr (inr ((λ y. f (sym same.0 ∙ y)), inr (ap (λ z. is_in z s.noticed) same.0 ∙ e)))

      -- where it is asked for
      asked_held : (s : Vat Name) (p h j : ℕ) → (h ≡ v → ⊥) → Sound Asks s → Held s → Held (record s { known = s.known ++ begun (Gift h j) h ∷ []; outbox = s.outbox ++ record { to = h; note = Ask p j (Gift h j) } ∷ [] })
      unfolding begun
      asked_held s p h j f sound o a = either (among_or X (names_in s.known) (Gift h j) (rw (names_end s.known (begun (Gift h j) h)) at a)) (among_dec X (names_in s.known))
        where
          either : IsAmong X (names_in s.known) ⊎ (X ≡ Gift h j) → IsAmong X (names_in s.known) ⊎ (IsAmong X (names_in s.known) → ⊥) → Why (record s { outbox = s.outbox ++ record { to = h; note = Ask p j (Gift h j) } ∷ [] })
          either (inl b) d = why_put s (record { to = h; note = Ask p j (Gift h j) }) (o b)
          either (inr x) (inl b) = why_put s (record { to = h; note = Ask p j (Gift h j) }) (o b)
          either (inr x) (inr n) = let same = same_gift h j x in inr (inr (
            (λ y. f (sym same.0 ∙ y)),
            inl (ahead_last (AsksFor i) X g s.outbox (record { to = h; note = Ask p j (Gift h j) })
                (all_map (λ r k. note_up (Has (names_in s.known)) (Avoids X) (avoids (names_in s.known) n) r.note k.0) s.outbox sound.parts.outbox) (sym same.0, sym same.1)),
          ))

      asked_sound : (s : Vat Name) (p h j : ℕ) → (h ≡ v → ⊥) → Sound Asks s → Sound Asks (record s { known = s.known ++ begun (Gift h j) h ∷ []; outbox = s.outbox ++ record { to = h; note = Ask p j (Gift h j) } ∷ [] })
      asked_sound s p h j f sound = let t : Vat Name = record s { known = s.known ++ begun (Gift h j) h ∷ [] } in let parts = with_known K Asks asks_under s t (Gift h j) h (one_more s (Gift h j) h) (last_known s (Gift h j) h) sound in let k = sound.more in
          record {
            parts = record { things = parts.things; slots = parts.slots; lists = parts.lists; queue = parts.queue; known = parts.known; gifts = parts.gifts; outbox = all_end (PutOk (Has (names_in t.known))) s.outbox (record { to = h; note = Ask p j (Gift h j) }) parts.outbox ((tt, last_known s (Gift h j) h), tt) };
            more = (k.0, asked_held s p h j f sound k.1);
          }

      asked_fine : {C : Fact Name} (p h j : ℕ) → (h ≡ v → ⊥) → Fine Asks C (come K (IsGift h j) h >>= (λ n. send_out h (Ask p j n) >> give n)) IsName
      unfolding ◌>>=◌ ◌>>◌ and_then come send_out give naming name_of
      asked_fine p h j f = record { after = λ s sound c. (one_more s (Gift h j) h, asked_sound s p h j f sound, last_known s (Gift h j) h) }

      -- with the names that were known by then
      more_names : (s t : Vat Name) (ks : List Name) (n : Name) → Grows s t → AllOf (NameOk (Has (names_in s.known))) ks → IsKnownIn (names_in t.known) n → AllOf (NameOk (Has (names_in t.known))) (ks ++ n ∷ [])
      more_names s t ks n r a k = all_end (NameOk (Has (names_in t.known))) ks n (all_map (λ m x. has_up s t r (Named m) x) ks a) k

      gone_or : (s : Vat Name) (ks : List Name) (p h j : ℕ) (b : Bool) → is_in h s.noticed ≡ b → (h ≡ v → ⊥) → Sound Asks s → AllOf (NameOk (Has (names_in s.known))) ks
          → Ends Asks (λ y. Also (IsValue y) (AreNames (ks ++ Gift h j ∷ []))) s (and_then ((if b then refs.settle K (Gift h j) (Broken (codes "partition")) else send_out h (Ask p j (Gift h j))) (record s { known = s.known ++ begun (Gift h j) h ∷ [] })) (λ u. give (Ref (Gift h j))))
      unfolding and_then ◌>>◌ send_out give
      gone_or s ks p h j true e f sound a = let n : Name = Gift h j in let t : Vat Name = record s { known = s.known ++ begun n h ∷ [] } in let r = one_more s n h in let known = last_known s n h in let k = sound.more in
          let there : Sound Asks t = record { parts = with_known K Asks asks_under s t n h r known sound; more = (k.0, gone_held s h j f e k.1) } in
          let C : Fact Name = Also (IsName n) (AreNames (ks ++ n ∷ [])) in
          let rest : Fine Asks C (refs.settle K n (Broken (codes "partition")) >> give (Ref n)) (λ y. Also (IsValue y) (AreNames (ks ++ n ∷ []))) = fine_then Asks nothing (fine_settle K Asks asks_under n (record { at = λ z c. c.0 }) (Broken (codes "partition")) (record { at = λ z c. tt })) (fine_give Asks (Ref n) (record { at = λ z c. c })) in
          widen Asks (λ y. Also (IsValue y) (AreNames (ks ++ n ∷ []))) s t _ r (rest.after t there (known, more_names s t ks n r a known))
      gone_or s ks p h j false e f sound a = let n : Name = Gift h j in let t : Vat Name = record s { known = s.known ++ begun n h ∷ [] } in let r = one_more s n h in let known = last_known s n h in
          (r, asked_sound s p h j f sound, (known, more_names s t ks n r a known))

      gift_asked : (ks : List Name) (p h j : ℕ) → (h ≡ v → ⊥) → Fine Asks (AreNames ks) (arrive.learn_gift K p h j) (λ y. Also (IsValue y) (AreNames (ks ++ Gift h j ∷ [])))
      unfolding arrive.learn_gift arrive.ask_for ◌>>=◌ ◌>>◌ and_then come look naming name_of
      gift_asked ks p h j f = record { after = λ s sound c. gone_or s ks p h j (is_in h s.noticed) refl f sound c }

      -- ---- views

      numbers : {A : Type 0} {C : Fact Name} (f : ℕ → Act Name A) (H : A → Fact Name) → ((u : ℕ) → u ≡ v → Fine Asks C (f u) H) → Fine Asks C (look (λ s. s.number) >>= f) H
      unfolding ◌>>=◌ and_then look
      numbers f H k = record { after = λ s h c. let l = h.more in (k s.number l.0).after s h c }

      there_or : {C : Fact Name} (u p c j : ℕ) (b : Bool) → u ≡ v → (c == u) ≡ b → Fine Asks C (if b then arrive.have_gift K p j else (come K (IsGift c j) c >>= (λ n. send_out c (Ask p j n) >> give n))) IsName
      there_or u p c j true e f = had_fine p j
      there_or u p c j false e f = asked_fine p c j (λ x. true_false (sym (eq-eqb c u (x ∙ sym e)) ∙ f))

      there_fine : {C : Fact Name} (u p c j : ℕ) → u ≡ v → Fine Asks C (arrive.gift_there K u p c j) IsName
      unfolding arrive.gift_there
      there_fine u p c j e = there_or u p c j (c == u) e refl

      see_fine : {C : Fact Name} (n x : Name) → Gets Asks C (IsName x) → Fine Asks C (alter K (See x) n) nothing
      unfolding alter
      see_fine n x k = record {
        after = λ s h c. let m = h.more in let t : Vat Name = record s { known = with_change K (See x) n s.known } in let r = changed_grows s (See x) n in let p = still Asks s t r h in
            (r, record { parts = record { things = p.things; slots = p.slots; lists = p.lists; queue = p.queue; known = changes_ok K Asks asks_under (Has (names_in t.known)) (See x) n s.known (has_up s t r (Named x) (k.at s c)) (λ a e. tt) p.known; gifts = p.gifts; outbox = p.outbox }; more = (m.0, changed_held s (See x) n m.1) }, tt);
      }

      seen_fine : {C : Fact Name} (n x : Name) → Gets Asks C (IsName n) → Gets Asks C (IsName x) → Fine Asks C (arrive.see K n x) nothing
      unfolding arrive.see
      seen_fine n x j k = fine_then Asks nothing (fine_tell K Asks asks_under (Views n x)) (fine_then Asks nothing (see_fine n x k) (fine_wait K Asks asks_under n x (record { at = λ s c. j.at s c })))

      view_fine : {C : Fact Name} (n : Name) → Gets Asks C (IsName n) → (c : ℕ) → Fine Asks C (arrive.view_there K n c) nothing
      unfolding arrive.view_there
      view_fine n k c = numbers _ nothing (λ u e. fine_less Asks nothing (fine_look Asks _) (λ p. fine_bind Asks IsDraw (fine_draw K Asks asks_under) (λ j. fine_then Asks nothing (fine_out K Asks asks_under p (Shorten n c (under p j)) (record { at = λ s d. (k.at s d.0, tt) }) (record { at = λ s d. tt }))
          (fine_bind Asks IsName (there_fine u p c (under p j) e) (λ x. seen_fine n x (record { at = λ s d. k.at s d.0.0 }) (record { at = λ s d. d.1 }))))))

      -- ---- what arrives

      new_fine : (ks : List Name) (n : Name) (h : ℕ) → (X ≡ n → ⊥) → Fine Asks (AreNames ks) (come K (IsLearnt n) h) (λ a. Also (IsName a) (AreNames (ks ++ n ∷ [])))
      unfolding come naming name_of
      new_fine ks n h f = record {
        after = λ s sound c. let t : Vat Name = record s { known = s.known ++ begun n h ∷ [] } in let r = one_more s n h in let known = last_known s n h in let k = sound.more in
            (r, record { parts = with_known K Asks asks_under s t n h r known sound; more = (k.0, other_held s n h f k.1) }, (known, more_names s t ks n r c known));
      }

      mail_fine : {C : Fact Name} (m : Name) (h : ℕ) → IsMessageName m → Fine Asks C (arrive.learn_message K (New m h)) IsMail
      unfolding arrive.learn_message mail naming mail_of
      mail_fine m h o = record { after = λ s k c. let p = k.parts in (λ n a. a, record { parts = record { things = p.things; slots = p.slots; lists = p.lists; queue = p.queue; known = p.known; gifts = p.gifts; outbox = p.outbox }; more = k.more }, o) }

      -- no name of the note is the gift, but in asking for it; and no gift of the vat's own passes
      abbrev pub Tells : Note Name → Type 0
      Tells n = NoteTells (λ m. m ≡ X → ⊥) (λ h j. h ≡ v → ⊥) (λ j. Unit {0}) n

      pub note_asks : (from : ℕ) (ks : List Name) (n : Note Name) → Tells n → Fine Asks (AreNames ks) (arrive.arrive K from (world.read_note ks n)) nothing
      note_asks from ks n t = note_read (λ m. m ≡ X → ⊥) (λ h j. h ≡ v → ⊥) (λ j. Unit {0}) word v Asks asks_under asks_gifts AreNames (record {
        old = λ ks n f e s c. old_has ks (names_in s.known) n (old_known ks n e) c;
        new = λ ks n f e. new_fine ks n (host_of n) (λ x. f (sym x));
        gift = λ ks p h j f. gift_asked ks p h j f;
        mail = λ m h o. mail_fine m h o;
        drew = λ s j. tt;
        gave = λ s j f. tt;
        vat = λ s h. tt;
      }) from ks n t (λ o D m k c l. view_fine m k c)
