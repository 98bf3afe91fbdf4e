-- A vat that has no gift of a draw in hand, and knows none but its own, goes on so: a care for names, and what arrives.
use Rattle.std.proofs.Common.{◌≡◌, ℕ, zero, Bool, true, false, List, [], ◌∷◌, ◌++◌, Option, Some, None, if◌then◌else◌, codes, refl, sym, ap, ◌∙◌, ◌⊎◌, inl, inr, ◌==◌, arith}
use Rattle.def_machine.specs.Values.{Broken, Ref, Name, Gift, Sent, Spot, Own, Foreign, NoObject, Naming, naming, name_of, mail_of, answer_of, spot_of, host_of, IsLearnt, key, word_of, under}
use Rattle.def_machine.specs.State.{Known, See, Views, Note, Deliver, SettledTo, Elsewhere, Shorten, Put, Vat, Done, Gives, Act, ◌>>=◌, and_then, give, look, come, mail, draw, draws, drawn_at, alter, is_in, begun}
use Rattle.def_machine.specs.Refs as refs
use Rattle.def_machine.specs.Refs.{Mine, Away, host_at}
use Rattle.def_machine.specs.Arrive as arrive
use Rattle.def_machine.specs.Arrive.{Old, New}
use Rattle.def_run.specs.World as world
use Rattle.law_fate.specs.Name.Names.{IsMessageName}
use Rattle.law_fate.proofs.Name.Facts.{PlaceOk, Fact, Nothing, Also, IsName, IsMail, IsGiven, IsVat, IsValue, nothing}
use Rattle.law_fate.proofs.Name.Care.{Care, Under, Giving, Makes, Sound, Ends, Gets, Fine, fine_bind, fine_less, fine_then, fine_more, fine_give, fine_look, fine_tell, fine_out, fine_wait, come_gift, changes_ok, with_known}
use Rattle.law_fate.proofs.Name.CareRefs.{fine_settle}
use Rattle.law_fate.proofs.Name.CareArrive.{Gifts, gifts_by, fine_ask_for, fine_gift_there}
use Rattle.def_machine.proofs.Keys.{word_under_key}
use Rattle.law_fate.specs.Name.Names.{WasDrawn}
use Rattle.law_fate.proofs.Name.Among.{among_more, key_not_drawn}
use Rattle.law_fate.proofs.Name.SameNames.{reference_is}
use Rattle.law_reference.specs.Reference.GiftPassing.{gifts_in_note}
use Rattle.law_reference.proofs.Reference.Beside.{PassesNothing, Leaves, Stays, view_leaves}
use Rattle.law_reference.proofs.Reference.Puts.{gifts_out, out_end}
use Rattle.law_reference.proofs.Reference.Gentle.{AfterGives}
use Rattle.law_reference.specs.Reference.Hiding.{IsNotOf, IsOfNoOther, Shuns}
use Rattle.law_reference.proofs.Reference.Arrivals.{NoteTells, Brings, IsNews, note_read}

module _ (i : ℕ) where
  pub not_other : (v : ℕ) (n : Name) → IsNotOf i n → IsOfNoOther i v n
  not_other v (Gift h j) f = λ e. absurd (f e)
  not_other v other f = tt

  answer_not : (h : ℕ) (m : Name) → IsMessageName m → IsNotOf i (answer_of h m)
  unfolding answer_of
  answer_not h (Sent m) o = tt
  answer_not h other o = absurd o

  -- Where O holds the draw was made, so that no view is of it.
  module _ (v : ℕ) (O : Type 0) where
    abbrev pub Hides : Care Name
    Hides = record {
      ok = λ s b. Shuns i v b;
      more = λ s. (s.number ≡ v) × (O → WasDrawn s.drawn i);
      rel = λ s t. Unit {0};
      same = λ s. tt;
      trans = λ s t u h k. tt;
      up = λ s t r b h. h;
      here = λ s m. tt;
      near = λ s h k. tt;
      entered = λ s n h. not_other v n h;
      owned = λ s n j h. h.0;
      owner = λ s n j h k. h.1 k;
      drew = λ s j h. tt;
      fuel = λ s n. (tt, λ h. h);
      told = λ s e n. (tt, λ h. h);
      activations = λ s. (tt, λ h. h);
      thing = λ s t. (tt, λ h. h);
      killed = λ s n. (tt, λ h. h);
      slot = λ s c. (tt, λ h. h);
      written = λ s n x. (tt, λ h. h);
      list = λ s vs. (tt, λ h. h);
    }

    module _ (word : ℕ → ℕ) where
      abbrev K : Naming Name Name
      K = naming word v

      hosted_ok : (s : Vat Name) (n : Name) (h : ℕ) (b : Bool) → IsNotOf i n → PlaceOk (Shuns i v) (elim b [ true ↦ Mine n | false ↦ Away h n false ])
      hosted_ok s n h true g = g
      hosted_ok s n h false g = (g, tt)

      spot_ok : (s : Vat Name) (n : Name) (p : Spot) → IsNotOf i n → PlaceOk (Shuns i v) (refs.spotted K s n p)
      unfolding refs.spotted refs.hosted
      spot_ok s n (Own j) g = tt
      spot_ok s n (Foreign w) g = (g, tt)
      spot_ok s n NoObject g = hosted_ok s n (host_at K s.number s.known n) (s.number == host_at K s.number s.known n) g

      pub hides_under : Under K Hides
      unfolding naming name_of
      hides_under = record {
        spots = record { alike = λ a b e. reference_is a b e; placed = λ s m n g. spot_ok s n (spot_of v n) g };
        object = λ s j l. tt;
        happened = λ s e. (tt, λ h. h);
        queue = λ s m. (tt, λ h. h);
        outbox = λ s p h. (tt, λ k. k);
        opened = λ s p j. (tt, λ h. h);
        noticed = λ s w. (tt, λ h. h);
        drawn = λ s w. (tt, λ h. (h.0, λ o. among_more (word_of i) s.drawn w (h.1 o)), tt);
        altered = λ s c n none h. (tt, λ k. k);
        answered = λ s h m o at. (tt, λ k. k, answer_not h m o);
      }

      pub hides_gives : Giving K Hides
      unfolding naming name_of
      hides_gives = record {
        gift = λ s g h. (tt, λ k. k);
        given = λ s h j g at. (tt, λ k. k, g);
        hosted = λ s j m d. (tt, λ k. k, (λ e. m.0, λ f. f));
      }

      pub hides_makes : Makes K Hides
      unfolding naming name_of mail_of answer_of
      hides_makes = record { promised = λ s. (tt, λ h. h, tt); lone = λ s. (tt, λ k. k, tt); messaged = λ s h at. (tt, λ k. k, tt, tt) }

      pub hides_gifts : Gifts K Hides
      hides_gifts = gifts_by K Hides hides_under hides_gives

      -- ---- views, under a word that is drawn later

      -- a key of a word that was not drawn is another
      other_key : (s : Vat Name) (w : ℕ) → drawn_at zero w s.drawn ≡ None → WasDrawn s.drawn i → (j : ℕ) → word_of j ≡ w → j ≡ i → ⊥
      other_key s w new d j e f = key_not_drawn s.drawn w i new (ap word_of (sym f) ∙ e) d

      draws_other : (s : Vat Name) (w : ℕ) (o : Option ℕ) → drawn_at zero w s.drawn ≡ o → (h : ℕ) → O → Sound Hides s → Ends Hides (λ j. IsGiven (under h j)) s (draws w o s)
      unfolding draws
      draws_other s w (Some k) e a o h = tt
      draws_other s w None e a o h = let p = h.parts in let m = h.more in (tt, record { parts = record { things = p.things; slots = p.slots; lists = p.lists; queue = p.queue; known = p.known; gifts = p.gifts; outbox = p.outbox }; more = (m.0, λ o. among_more (word_of i) s.drawn w (m.1 o)) }, other_key s w e (m.1 o) (under a (key s.number w)) (word_under_key a s.number w))

      draw_other : {C : Fact Name} → (h : ℕ) → O → Fine Hides C (draw K) (λ j. IsGiven (under h j))
      unfolding draw
      draw_other a o = record { after = λ s h c. draws_other s _ _ refl a o h }

      see_hides : {C : Fact Name} (n g : Name) → Gets Hides C (IsName g) → Fine Hides C (alter K (See g) n) nothing
      unfolding alter
      see_hides n g k = record { after = λ s h c. let p = h.parts in (tt, record { parts = record { things = p.things; slots = p.slots; lists = p.lists; queue = p.queue; known = changes_ok K Hides hides_under (Shuns i v) (See g) n s.known (k.at s c) (λ a e. tt) p.known; gifts = p.gifts; outbox = p.outbox }; more = h.more }, tt) }

      seen_hides : {C : Fact Name} (n g : Name) → Gets Hides C (IsName n) → Gets Hides C (IsName g) → Fine Hides C (arrive.see K n g) nothing
      unfolding arrive.see
      seen_hides n g j k = fine_then Hides nothing (fine_tell K Hides hides_under (Views n g)) (fine_then Hides nothing (see_hides n g k) (fine_wait K Hides hides_under n g (record { at = λ s c. not_other v n (j.at s c) })))

      view_hides : {C : Fact Name} → O → (n : Name) → Gets Hides C (IsName n) → (c : ℕ) → Gets Hides C (IsVat c) → Fine Hides C (arrive.view_there K n c) nothing
      unfolding arrive.view_there
      view_hides o n g c k = fine_less Hides nothing (fine_look Hides _) (λ u. fine_less Hides nothing (fine_look Hides _) (λ h. fine_bind Hides (λ j. IsGiven (under h j)) (draw_other h o) (λ j. fine_then Hides nothing (fine_out K Hides hides_under h (Shorten n c (under h j)) (record { at = λ s d. (g.at s d.0, tt) }) (record { at = λ s d. tt }))
          (fine_bind Hides IsName (fine_gift_there K Hides hides_under hides_gives u h c (under h j) (record { at = λ s d. tt }) (record { at = λ s d. d.1 })) (λ x. seen_hides n x (record { at = λ s d. g.at s d.0.0 }) (record { at = λ s d. d.1 }))))))

      -- ---- what arrives

      new_hides : {C : Fact Name} (n : Name) (h : ℕ) → IsNotOf i n → Fine Hides C (come K (IsLearnt n) h) IsName
      unfolding come naming name_of
      new_hides n h f = record { after = λ s k c. (tt, record { parts = with_known K Hides hides_under s (record s { known = s.known ++ begun n h ∷ [] }) n h tt f k; more = k.more }, f) }

      gift_hides : {C : Fact Name} (from h j : ℕ) → (j ≡ i → ⊥) → Fine Hides C (arrive.learn_gift K from h j) IsValue
      unfolding arrive.learn_gift
      gift_hides from h j f = fine_bind Hides IsName (come_gift K Hides hides_under hides_gives h j (record { at = λ s c. f }) (record { at = λ s c. tt })) (λ n. fine_then Hides nothing (fine_ask_for K Hides hides_under from h j (record { at = λ s c. f }) n (record { at = λ s c. c.1 })) (fine_give Hides (Ref n) (record { at = λ s c. c.1 })))

      mail_hides : {C : Fact Name} (m : Name) (h : ℕ) → IsMessageName m → Fine Hides C (arrive.learn_message K (New m h)) IsMail
      unfolding arrive.learn_message mail naming mail_of
      mail_hides m h o = record { after = λ s k c. let p = k.parts in (tt, record { parts = record { things = p.things; slots = p.slots; lists = p.lists; queue = p.queue; known = p.known; gifts = p.gifts; outbox = p.outbox }; more = k.more }, o) }

      with_none : {A : Type 0} {C : Fact Name} {m : Act Name A} {P : A → Fact Name} → Fine Hides C m P → Fine Hides C m (λ a. Also (P a) Nothing)
      with_none {P = P} f = fine_more Hides P (λ a. Also (P a) Nothing) f (λ a. record { at = λ s h. (h, tt) })

      abbrev pub Tells : Note Name → Type 0
      Tells n = NoteTells (IsNotOf i) (λ h j. j ≡ i → ⊥) (λ j. j ≡ i → ⊥) n

      brings : Brings (IsNotOf i) (λ h j. j ≡ i → ⊥) (λ j. j ≡ i → ⊥) word v Hides (λ ks. Nothing)
      brings = record {
        old = λ ks n f e s c. f;
        new = λ ks n f e. with_none (new_hides n (host_of n) f);
        gift = λ ks p h j f. with_none (gift_hides p h j f);
        mail = λ m h o. mail_hides m h o;
        drew = λ s j. tt;
        gave = λ s j f. f;
        vat = λ s h. tt;
      }

      -- where the draw was made, or the note tells of no name that settled elsewhere
      pub note_hides : (from : ℕ) (ks : List Name) (n : Note Name) → Tells n → (IsNews (IsNotOf i) (λ h j. j ≡ i → ⊥) (λ j. j ≡ i → ⊥) word v Hides n → O) → Fine Hides Nothing (arrive.arrive K from (world.read_note ks n)) nothing
      note_hides from ks n t o = note_read (IsNotOf i) (λ h j. j ≡ i → ⊥) (λ j. j ≡ i → ⊥) word v Hides hides_under hides_gifts (λ ks. Nothing) brings from ks n t (λ e D m g c k. view_hides (o e) m g c k)

      -- ---- news, where the draw is still to be made

      -- either it goes on so, or no gift of the draw passes in what was put
      abbrev pub Goes : Vat Name → Type 0
      Goes t = Sound Hides t ⊎ (gifts_out i t.outbox ≡ 0)

      abbrev PassesNone : List (Known Name) → List (Put Name) → Type 0
      PassesNone ks ps = gifts_out i ps ≡ 0

      plain_none : (n : Note Name) → PassesNothing n → gifts_in_note i n ≡ 0
      unfolding gifts_in_note
      plain_none (Deliver d n verb ys) h = absurd h
      plain_none (SettledTo n y) h = absurd h
      plain_none other h = refl

      none_stays : Stays word v PassesNone
      none_stays = record { altered = λ c n ks ps e. e; knows = λ n h k ks ps e. e; puts = λ p k ks ps e. put_none ps p (plain_none p.note k) e }
        where
          put_none : (ps : List (Put Name)) (p : Put Name) → gifts_in_note i p.note ≡ 0 → gifts_out i ps ≡ 0 → gifts_out i (ps ++ p ∷ []) ≡ 0
          put_none ps p f e = let o = out_end i ps p in omega arith

      ends_goes : (s : Vat Name) (d : Done Name (Unit {0})) → Ends Hides nothing s d → AfterGives Goes d
      ends_goes s (Gives u t) h = inl h.1
      ends_goes s other h = tt

      none_goes : (d : Done Name (Unit {0})) → Leaves word v PassesNone d → AfterGives Goes d
      none_goes (Gives u t) h = inr h
      none_goes other h = tt

      settle_goes : (s : Vat Name) (n : Name) (t : List ℕ) → IsNotOf i n → Sound Hides s → AfterGives Goes (refs.settle K n (Broken t) s)
      settle_goes s n t f h = ends_goes s _ ((fine_settle K Hides hides_under {C = Nothing} n (record { at = λ r c. not_other v n f }) (Broken t) (record { at = λ r c. tt })).after s h tt)

      gone_or : (s : Vat Name) (n : Name) (c : ℕ) (b : Bool) → IsNotOf i n → Sound Hides s → gifts_out i s.outbox ≡ 0 → AfterGives Goes ((if b then refs.settle K n (Broken (codes "partition")) else arrive.view_there K n c) s)
      gone_or s n c true f h e = settle_goes s n (codes "partition") f h
      gone_or s n c false f h e = none_goes (arrive.view_there K n c s) (view_leaves word v PassesNone none_stays n c s e)

      news_or : (s : Vat Name) (n : Name) (c : ℕ) (b : Bool) → IsNotOf i n → Sound Hides s → gifts_out i s.outbox ≡ 0
          → AfterGives Goes (and_then (arrive.learn_name K (elim b [ true ↦ Old n | false ↦ New n (host_of n) ]) s) (λ m. look (λ s. is_in c s.noticed) >>= (λ gone. if gone then refs.settle K m (Broken (codes "partition")) else arrive.view_there K m c)))
      unfolding arrive.learn_name give come ◌>>=◌ and_then look naming name_of
      news_or s n c true f h e = gone_or s n c (is_in c s.noticed) f h e
      news_or s n c false f h e = let t : Vat Name = record s { known = s.known ++ begun n (host_of n) ∷ [] } in gone_or t n c (is_in c t.noticed) f (record { parts = with_known K Hides hides_under s t n (host_of n) tt f h; more = h.more }) e

      pub news_goes : (s : Vat Name) (from : ℕ) (ks : List Name) (n : Name) (c : ℕ) → IsNotOf i n → Sound Hides s → gifts_out i s.outbox ≡ 0 → AfterGives Goes (arrive.arrive K from (world.read_note ks (Elsewhere n c)) s)
      unfolding arrive.arrive world.read_note arrive.arrive_elsewhere world.read_name ◌>>=◌
      news_goes s from ks n c f h e = news_or s n c (world.is_old ks n) f h e
