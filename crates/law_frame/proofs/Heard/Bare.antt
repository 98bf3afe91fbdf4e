-- A vat that has not one gift in hand, and does not know it but as its host, goes on so, where no note brings it: a care for names.
use Rattle.std.proofs.Common.{◌≡◌, ℕ, zero, Bool, true, false, List, [], ◌∷◌, ◌++◌, Option, Some, None, refl, sym, ap, subst, ◌∙◌, ◌==◌}
use Rattle.std.proofs.lemmas.Bool.{eqb-true}
use Rattle.def_machine.specs.Values.{Ref, Name, Object, Promise, Gift, Sent, Spot, Own, Foreign, NoObject, Naming, naming, name_of, mail_of, answer_of, spot_of, host_of, IsGift, IsLearnt, key, word_of, under}
use Rattle.def_machine.specs.State.{See, Views, Note, Ask, Shorten, GiftEntry, Vat, ◌>>=◌, ◌>>◌, and_then, give, look, come, mail, new_gift, draw, draws, drawn_at, alter, is_gift, begun}
use Rattle.def_machine.specs.Refs as refs
use Rattle.def_machine.specs.Refs.{Mine, Away, host_at}
use Rattle.def_machine.specs.Arrive as arrive
use Rattle.def_machine.specs.Arrive.{New}
use Rattle.def_machine.proofs.Keys.{word_under_key}
use Rattle.def_run.specs.World as world
use Rattle.law_fate.specs.Name.Names.{Bit, Named, Mail, Entered, Owns, Gave, WasDrawn, IsMessageName, GiftOk}
use Rattle.law_fate.proofs.Name.Facts.{MayBe, all_end, PlaceOk, Fact, Nothing, Also, IsName, IsMail, IsOwned, IsGiven, IsEntry, IsValue, nothing}
use Rattle.law_fate.proofs.Name.Care.{Care, Under, Makes, Sound, Ends, Gets, Fine, fine_bind, fine_less, fine_then, fine_more, fine_with, fine_if, fine_give, fine_look, fine_tell, fine_out, fine_wait, changes_ok, with_known, with_entry}
use Rattle.law_fate.proofs.Name.CareArrive.{Gifts, fine_ask_for}
use Rattle.law_fate.proofs.Name.Looks.{gift_at_ok}
use Rattle.law_fate.proofs.Name.Among.{among_more, key_not_drawn}
use Rattle.law_fate.proofs.Name.SameNames.{reference_is}
use Rattle.law_reference.proofs.Reference.Arrivals.{NoteTells, note_read}

-- ---- a gift that is found

number_or : (a b : Bool) → elim a [ true ↦ b | false ↦ false ] ≡ true → b ≡ true
number_or true b e = e
number_or false b e = cc

found_or : (p j : ℕ) (x y : GiftEntry Name) (b : Bool) (o : Option (GiftEntry Name)) → is_gift p j y ≡ b → (o ≡ Some x → x.number ≡ j) → elim b [ true ↦ Some y | false ↦ o ] ≡ Some x → x.number ≡ j
unfolding is_gift
found_or p j x y true o e f h = let same : y ≡ x = cc in subst (λ (z : GiftEntry Name). z.number ≡ j) same (eqb-true y.number j (number_or (y.provider == p) (y.number == j) e))
found_or p j x y false o e f h = f h

pub found_number : (p j : ℕ) (gs : List (GiftEntry Name)) (x : GiftEntry Name) → arrive.gift_at p j gs ≡ Some x → x.number ≡ j
unfolding arrive.gift_at
found_number p j [] x e = cc
found_number p j (y ∷ gs) x e = found_or p j x y (is_gift p j y) (arrive.gift_at p j gs) refl (λ f. found_number p j gs x f) e

module _ (g i : ℕ) where
  abbrev pub X : Name
  X = Gift g i

  -- what vat v has in hand is not the gift; it knows it but as its host; and it is asked for no gift under its key, if it is the host
  abbrev pub Bare : ℕ → Bit Name → Type 0
  Bare v (Named n) = n ≡ X → ⊥
  Bare v (Mail n) = IsMessageName n
  Bare v (Entered n) = n ≡ X → v ≡ g
  Bare v (Owns n j) = n ≡ X → (v ≡ g) × (j ≡ i)
  Bare v (Gave j) = v ≡ g → j ≡ i → ⊥
  Bare v other = Unit {0}

  same_gift : (h j : ℕ) → Gift h j ≡ X → (h ≡ g) × (j ≡ i)
  same_gift h j e = let a : h ≡ g = cc in let b : j ≡ i = cc in (a, b)

  no_object : (w j : ℕ) → Object w j ≡ X → ⊥
  no_object w j e = cc

  no_promise : (w j : ℕ) → Promise w j ≡ X → ⊥
  no_promise w j e = cc

  pub no_answer : (h : ℕ) (m : Name) → IsMessageName m → answer_of h m ≡ X → ⊥
  unfolding answer_of
  no_answer h (Sent m) o e = cc
  no_answer h other o e = absurd o

  module _ (v : ℕ) where
    abbrev pub Bares : Care Name
    Bares = record {
      ok = λ s b. Bare v b;
      more = λ s. (s.number ≡ v) × WasDrawn s.drawn i;
      rel = λ s t. Unit {0};
      same = λ s. tt;
      trans = λ s t u h k. tt;
      up = λ s t r b h. h;
      here = λ s m. tt;
      near = λ s h k. tt;
      entered = λ s n h e. absurd (h e);
      owned = λ s n j h e. (h e).0;
      owner = λ s n j h k e. k (h e).0 (h e).1;
      drew = λ s j h. tt;
      fuel = λ s n. (tt, λ h. h);
      told = λ s e n. (tt, λ h. h);
      activations = λ s. (tt, λ h. h);
      thing = λ s t. (tt, λ h. h);
      killed = λ s n. (tt, λ h. h);
      slot = λ s c. (tt, λ h. h);
      written = λ s n x. (tt, λ h. h);
      list = λ s vs. (tt, λ h. h);
    }

    module _ (word : ℕ → ℕ) where
      abbrev K : Naming Name Name
      K = naming word v

      hosted_ok : (s : Vat Name) (n : Name) (h : ℕ) (b : Bool) → Bare v (Named n) → PlaceOk (Bare v) (elim b [ true ↦ Mine n | false ↦ Away h n false ])
      hosted_ok s n h true k = k
      hosted_ok s n h false k = (k, tt)

      spot_ok : (s : Vat Name) (n : Name) (p : Spot) → Bare v (Named n) → PlaceOk (Bare v) (refs.spotted K s n p)
      unfolding refs.spotted refs.hosted
      spot_ok s n (Own j) k = tt
      spot_ok s n (Foreign w) k = (k, tt)
      spot_ok s n NoObject k = hosted_ok s n (host_at K s.number s.known n) (s.number == host_at K s.number s.known n) k

      pub bare_under : Under K Bares
      unfolding naming name_of
      bare_under = record {
        spots = record { alike = λ a b e. reference_is a b e; placed = λ s m n k. spot_ok s n (spot_of v n) k };
        object = λ s j l. no_object v j;
        happened = λ s e. (tt, λ h. h);
        queue = λ s m. (tt, λ h. h);
        outbox = λ s p h. (tt, λ k. k);
        opened = λ s p j. (tt, λ h. h);
        noticed = λ s w. (tt, λ h. h);
        drawn = λ s w. (tt, λ h. (h.0, among_more (word_of i) s.drawn w h.1), tt);
        altered = λ s c n none h. (tt, λ k. k);
        answered = λ s h m o at. (tt, λ k. k, no_answer h m o);
      }

      pub bare_makes : Makes K Bares
      unfolding naming name_of mail_of answer_of
      bare_makes = record { promised = λ s. (tt, λ h. h, no_promise v s.promises); lone = λ s. (tt, λ k. k, tt); messaged = λ s h at. (tt, λ k. k, tt, no_answer h (Sent (record { sender = v; number = s.messages })) tt) }

      -- ---- gifts at their host

      had_ends : (s : Vat Name) (p j : ℕ) (o : Option (GiftEntry Name)) → arrive.gift_at p j s.gifts ≡ o → Sound Bares s → MayBe (GiftOk (Bare v)) o → Ends Bares (λ n. IsOwned n j) s (arrive.gift_or_new K s.number p j o s)
      unfolding arrive.gift_or_new ◌>>=◌ ◌>>◌ and_then come new_gift give naming name_of
      had_ends s p j (Some x) e h m = (tt, h, subst (λ (k : ℕ). Bare v (Owns x.name k)) (found_number p j s.gifts x e) m.0)
      had_ends s p j None e h m = let n : Name = Gift s.number j in let x : GiftEntry Name = record { name = n; provider = p; number = j; opened = false } in let k = h.more in
          let t : Vat Name = record s { known = s.known ++ begun n s.number ∷ [] } in let owns : Bare v (Owns n j) = (λ f. let same = same_gift s.number j f in (sym k.0 ∙ same.0, same.1)) in
          let parts = with_entry K Bares bare_under s t n s.number tt (λ f. (owns f).0) h in
          (tt, record { parts = record { things = parts.things; slots = parts.slots; lists = parts.lists; queue = parts.queue; known = parts.known; gifts = all_end (GiftOk (Bare v)) s.gifts x parts.gifts (owns, tt); outbox = parts.outbox }; more = k }, owns)

      had_fine : {C : Fact Name} (p j : ℕ) → Fine Bares C (arrive.have_gift K p j) (λ n. IsOwned n j)
      unfolding arrive.have_gift ◌>>=◌ and_then look
      had_fine p j = record { after = λ s h c. had_ends s p j (arrive.gift_at p j s.gifts) refl h (gift_at_ok (Bare v) p j s.gifts h.parts.gifts) }

      had_name : {C : Fact Name} (p j : ℕ) → Gets Bares C (IsGiven j) → Fine Bares C (arrive.have_gift K p j) IsName
      had_name p j k = fine_more Bares (λ n. Also (IsOwned n j) (IsGiven j)) IsName (fine_with Bares (IsGiven j) k (had_fine p j)) (λ n. record { at = λ s c e. c.1 (c.0 e).0 (c.0 e).1 })

      bare_gifts : Gifts K Bares
      bare_gifts = record {
        entered = λ C p j k. fine_more Bares (λ n. IsOwned n j) IsEntry (had_fine p j) (λ n. record { at = λ s c e. (c e).0 });
        named = λ C p j k. had_name p j k;
      }

      -- ---- a name that comes to be known

      new_bare : {C : Fact Name} (n : Name) (h : ℕ) → (n ≡ X → ⊥) → Fine Bares C (come K (IsLearnt n) h) IsName
      unfolding come naming name_of
      new_bare n h f = record { after = λ s k c. (tt, record { parts = with_known K Bares bare_under s (record s { known = s.known ++ begun n h ∷ [] }) n h tt f k; more = k.more }, f) }

      given_bare : {C : Fact Name} (h j : ℕ) → Gets Bares C (IsName (Gift h j)) → Fine Bares C (come K (IsGift h j) h) IsName
      unfolding come naming name_of
      given_bare h j f = record { after = λ s k c. (tt, record { parts = with_known K Bares bare_under s (record s { known = s.known ++ begun (Gift h j) h ∷ [] }) (Gift h j) h tt (f.at s c) k; more = k.more }, f.at s c) }

      gift_bare : {C : Fact Name} (from h j : ℕ) → (j ≡ i → ⊥) → Fine Bares C (arrive.learn_gift K from h j) IsValue
      unfolding arrive.learn_gift
      gift_bare from h j f = fine_bind Bares IsName (given_bare h j (record { at = λ s c e. f (same_gift h j e).1 }))
          (λ n. fine_then Bares nothing (fine_ask_for K Bares bare_under from h j (record { at = λ s c e k. f k }) n (record { at = λ s c. c.1 })) (fine_give Bares (Ref n) (record { at = λ s c. c.1 })))

      mail_bare : {C : Fact Name} (m : Name) (h : ℕ) → IsMessageName m → Fine Bares C (arrive.learn_message K (New m h)) IsMail
      unfolding arrive.learn_message mail naming mail_of
      mail_bare m h o = record { after = λ s k c. let p = k.parts in (tt, record { parts = record { things = p.things; slots = p.slots; lists = p.lists; queue = p.queue; known = p.known; gifts = p.gifts; outbox = p.outbox }; more = k.more }, o) }

      -- ---- views, under a word that is drawn only then

      other_key : (s : Vat Name) (w : ℕ) → drawn_at zero w s.drawn ≡ None → WasDrawn s.drawn i → (j : ℕ) → word_of j ≡ w → j ≡ i → ⊥
      other_key s w new d j e f = key_not_drawn s.drawn w i new (ap word_of (sym f) ∙ e) d

      abbrev IsOther : ℕ → ℕ → ℕ → Fact Name
      IsOther a c j = Also (IsGiven (under a j)) (IsName (Gift c (under a j)))

      draws_other : (s : Vat Name) (a c w : ℕ) (o : Option ℕ) → drawn_at zero w s.drawn ≡ o → Sound Bares s → Ends Bares (IsOther a c) s (draws w o s)
      unfolding draws
      draws_other s a c w (Some k) e h = tt
      draws_other s a c w None e h = let p = h.parts in let m = h.more in let f = other_key s w e m.1 (under a (key s.number w)) (word_under_key a s.number w) in
          (tt, record { parts = record { things = p.things; slots = p.slots; lists = p.lists; queue = p.queue; known = p.known; gifts = p.gifts; outbox = p.outbox }; more = (m.0, among_more (word_of i) s.drawn w m.1) }, ((λ x y. f y), (λ x. f (same_gift c (under a (key s.number w)) x).1)))

      draw_other : {C : Fact Name} (a c : ℕ) → Fine Bares C (draw K) (IsOther a c)
      unfolding draw
      draw_other a c = record { after = λ s h f. draws_other s a c _ _ refl h }

      there_bare : {C : Fact Name} (u h c j : ℕ) → Gets Bares C (IsGiven j) → Gets Bares C (IsName (Gift c j)) → Fine Bares C (arrive.gift_there K u h c j) IsName
      unfolding arrive.gift_there
      there_bare u h c j k f = fine_if Bares (c == u) (had_name h j k) (fine_bind Bares IsName (given_bare c j f)
          (λ n. fine_then Bares nothing (fine_out K Bares bare_under c (Ask h j n) (record { at = λ s d. (k.at s d.0, d.1) }) (record { at = λ s d. tt })) (fine_give Bares n (record { at = λ s d. d.1 }))))

      see_bare : {C : Fact Name} (n x : Name) → Gets Bares C (IsName x) → Fine Bares C (alter K (See x) n) nothing
      unfolding alter
      see_bare n x k = record { after = λ s h c. let p = h.parts in (tt, record { parts = record { things = p.things; slots = p.slots; lists = p.lists; queue = p.queue; known = changes_ok K Bares bare_under (Bare v) (See x) n s.known (k.at s c) (λ a e. tt) p.known; gifts = p.gifts; outbox = p.outbox }; more = h.more }, tt) }

      seen_bare : {C : Fact Name} (n x : Name) → Gets Bares C (IsName n) → Gets Bares C (IsName x) → Fine Bares C (arrive.see K n x) nothing
      unfolding arrive.see
      seen_bare n x j k = fine_then Bares nothing (fine_tell K Bares bare_under (Views n x)) (fine_then Bares nothing (see_bare n x k) (fine_wait K Bares bare_under n x (record { at = λ s c e. absurd (j.at s c e) })))

      view_bare : {C : Fact Name} (n : Name) → Gets Bares C (IsName n) → (c : ℕ) → Fine Bares C (arrive.view_there K n c) nothing
      unfolding arrive.view_there
      view_bare n k c = fine_less Bares nothing (fine_look Bares _) (λ u. fine_less Bares nothing (fine_look Bares _) (λ h. fine_bind Bares (IsOther h c) (draw_other h c)
          (λ j. fine_then Bares nothing (fine_out K Bares bare_under h (Shorten n c (under h j)) (record { at = λ s d. (k.at s d.0, tt) }) (record { at = λ s d. tt }))
          (fine_bind Bares IsName (there_bare u h c (under h j) (record { at = λ s d. d.1.0 }) (record { at = λ s d. d.1.1 })) (λ x. seen_bare n x (record { at = λ s d. k.at s d.0.0 }) (record { at = λ s d. d.1 }))))))

      -- ---- a note

      -- No name of the note is the gift, no gift under its key passes, and it asks for none under it, if the vat is the host.
      abbrev pub Tells : Note Name → Type 0
      Tells n = NoteTells (λ m. m ≡ X → ⊥) (λ h j. j ≡ i → ⊥) (λ j. v ≡ g → j ≡ i → ⊥) n

      pub note_bare : (from : ℕ) (ks : List Name) (n : Note Name) → Tells n → Fine Bares Nothing (arrive.arrive K from (world.read_note ks n)) nothing
      note_bare from ks n t = note_read (λ m. m ≡ X → ⊥) (λ h j. j ≡ i → ⊥) (λ j. v ≡ g → j ≡ i → ⊥) word v Bares bare_under bare_gifts (λ ks. Nothing) (record {
        old = λ ks n f e s c. f;
        new = λ ks n f e. fine_with Bares Nothing (record { at = λ s c. c }) (new_bare n (host_of n) f);
        gift = λ ks p h j f. fine_with Bares Nothing (record { at = λ s c. c }) (gift_bare p h j f);
        mail = λ m h o. mail_bare m h o;
        drew = λ s j. tt;
        gave = λ s j f. f;
        vat = λ s h. tt;
      }) from ks n t (λ o D m k c l. view_bare m k c)
