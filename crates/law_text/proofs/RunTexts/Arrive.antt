-- What arrives, and what a notice does.
use Rattle.def_kernel.specs.Trees.{IsInt}
use Rattle.std.proofs.Common.{◌≡◌, ℕ, zero, suc, Bool, true, false, List, [], ◌∷◌, Option, Some, None, ◌==◌, refl, codes}
use Rattle.std.specs.Char.{IsScalar}
use Rattle.def_machine.specs.Values.{Words, Value, Null, Flag, Number, Letter, Text, Prim, Broken, Items, Ref, Name, Root, Gift, IsAnswer, IsGift, IsLearnt, IsCarried, Naming, naming, name_of, mail_of, host_of, under}
use Rattle.def_machine.specs.State.{Message, Standing, Viewed, Settled, Known, Wait, See, ToTell, Passed, Passeds, Plain, AGift, Many, NoMore, More, Delivery, Note, Deliver, Open, Ask, SettledTo, Elsewhere, Shorten, GiftEntry, ListCame, Views, WhereSome, each, is_gift}
use Rattle.def_machine.specs.Refs as refs
use Rattle.def_machine.specs.Refs.{Place, Away}
use Rattle.def_machine.specs.Arrive as arrive
use Rattle.def_machine.specs.Arrive.{Incoming, Old, New}
use Rattle.def_run.specs.World as world
use Rattle.law_text.specs.Text.Feeds.{AllOf}
use Rattle.law_text.specs.RunTexts.Fitting.{is_primitive, Limits, IsVat, IsLow, NameFits, ValueFits, ValuesFit, MessageFits, KnownFits, PassedFits, PassedsFit, NoteFits, GiftFits, TextFits}
use Rattle.law_text.proofs.RunTexts.Fine.{Fine, nothing, fine_bind, fine_then, fine_give, fine_look, fine_sees, fine_if, fine_tell, fine_list, fine_out, fine_gift, fine_open, fine_mark}
use Rattle.law_text.proofs.RunTexts.Texts.{plain}
use Rattle.law_text.proofs.RunTexts.Natives.{either_has}
use Rattle.law_text.proofs.RunTexts.Refs.{where_either, PlaceFits, answer_fits, fine_alter, fine_come, fine_mail, fine_draw, fine_settle, fine_resolve, fine_send_on, fine_inform, host_at_fits, look_here, look_place_of}

module _ (L : Limits) where
  -- ---- what is read of a note

  abbrev pub IncomingFits : Incoming Name Name → Type 0
  IncomingFits (Old n) = NameFits L n
  IncomingFits (New n h) = NameFits L n × IsVat L h

  abbrev pub ReadFits : Value (Incoming Name Name) → Type 0
  ReadFits (Number z) = IsInt z
  ReadFits (Letter c) = IsScalar c
  ReadFits (Text t) = TextFits t
  ReadFits (Prim n) = is_primitive n ≡ true
  ReadFits (Broken p) = TextFits p
  ReadFits (Items k) = IsLow L k
  ReadFits (Ref n) = IncomingFits n
  ReadFits other = Unit {0}

  abbrev mutual
    pub ReadPassedFits : Passed (Incoming Name Name) → Type 0
    ReadPassedFits (Plain y) = ReadFits y
    ReadPassedFits (AGift h i) = IsVat L h
    ReadPassedFits (Many ys) = ReadPassedsFit ys

    pub ReadPassedsFit : Passeds (Incoming Name Name) → Type 0
    ReadPassedsFit NoMore = Unit {0}
    ReadPassedsFit (More y ys) = ReadPassedFits y × ReadPassedsFit ys

  abbrev pub ReadNoteFits : Note (Incoming Name Name) → Type 0
  ReadNoteFits (Deliver d n verb ys) = IncomingFits d.message × IncomingFits n × TextFits verb × ReadPassedsFit ys
  ReadNoteFits (Open i n) = IncomingFits n
  ReadNoteFits (Ask p i n) = IncomingFits n × IsVat L p
  ReadNoteFits (SettledTo n y) = IncomingFits n × ReadPassedFits y
  ReadNoteFits (Elsewhere n c) = IncomingFits n × IsVat L c
  ReadNoteFits (Shorten n c i) = IncomingFits n × IsVat L c

  host_is_vat : (n : Name) → NameFits L n → IsVat L (host_of n)
  unfolding host_of
  host_is_vat (Root w) f = f
  host_is_vat (Gift w i) f = f
  host_is_vat other f = f.0

  name_read : (ks : List Name) (n : Name) → NameFits L n → IncomingFits (world.read_name ks n)
  unfolding world.read_name
  name_read ks n f = either_has IncomingFits (world.is_old ks n) (Old n) (New n (host_of n)) f (f, host_is_vat n f)

  value_read : (ks : List Name) (y : Value Name) → ValueFits L y → ReadFits (world.read_value ks y).read
  unfolding world.read_value
  value_read ks (Ref n) f = name_read ks n f
  value_read ks other f = f

  mutual
    unfolding world.read_passed world.read_all world.plain_read world.many_read world.more_read

    passed_read : (d : ℕ) (ks : List Name) (y : Passed Name) → PassedFits L d y → ReadPassedFits (world.read_passed y ks).read
    passed_read d ks (Plain y) f = value_read ks y f.0
    passed_read d ks (AGift h i) f = f
    passed_read d ks (Many ys) f = passeds_read d ks ys f

    passeds_read : (d : ℕ) (ks : List Name) (ys : Passeds Name) → PassedsFit L d ys → ReadPassedsFit (world.read_all ys ks).read
    passeds_read d ks NoMore f = tt
    passeds_read zero ks (More y ys) f = absurd f
    passeds_read (suc d) ks (More y ys) f = (passed_read d ks y f.0, passeds_read (suc d) (world.read_passed y ks).known ys f.1)

  pub note_read : (ks : List Name) (n : Note Name) → NoteFits L n → ReadNoteFits (world.read_note ks n)
  unfolding world.read_note
  note_read ks (Deliver d n verb ys) f = ((f.0, host_is_vat d.message f.0), name_read _ n f.1, f.2, passeds_read 101 ks ys f.3)
  note_read ks (Open i n) f = name_read ks n f
  note_read ks (Ask p i n) f = (name_read ks n f.0, f.1)
  note_read ks (SettledTo n y) f = (name_read ks n f.0, passed_read 100 _ y f.1)
  note_read ks (Elsewhere n c) f = (name_read ks n f.0, f.1)
  note_read ks (Shorten n c i) f = (name_read ks n f.0, f.1)

  module _ (word : ℕ → ℕ) (v : ℕ) (inside : IsVat L v) where
    abbrev K : Naming Name Name
    K = naming word v

    settles : {C : Type 0} (n : Name) (y : Value Name) → (C → NameFits L n) → (C → ValueFits L y) → Fine L C (refs.settle K n y) (nothing L)
    settles n y g f = fine_settle L word v inside _ n y g f

    -- ---- learning

    learn_name : {C : Type 0} (x : Incoming Name Name) → (C → IncomingFits x) → Fine L C (arrive.learn_name K x) (NameFits L)
    unfolding arrive.learn_name name_of
    learn_name (Old n) g = fine_give L n g
    learn_name (New n h) g = fine_come L word v inside (IsLearnt n) h (learnt n h g) (λ c. (g c).1)
      where
        learnt : {C : Type 0} (n : Name) (h : ℕ) → (C → NameFits L n × IsVat L h) → C → NameFits L (name_of v (IsLearnt n))
        learnt n h g c = (g c).0

    learn_value : {C : Type 0} (y : Value (Incoming Name Name)) → (C → ReadFits y) → Fine L C (arrive.learn_value K y) (ValueFits L)
    unfolding arrive.learn_value
    learn_value (Ref x) g = fine_bind L (NameFits L) (learn_name x g) (λ n. fine_give L (Ref n) (λ c. c.1))
    learn_value Null g = fine_give L Null g
    learn_value (Flag b) g = fine_give L (Flag b) g
    learn_value (Number z) g = fine_give L (Number z) g
    learn_value (Letter c) g = fine_give L (Letter c) g
    learn_value (Text t) g = fine_give L (Text t) g
    learn_value (Prim p) g = fine_give L (Prim p) g
    learn_value (Broken p) g = fine_give L (Broken p) g
    learn_value (Items k) g = fine_give L (Items k) g

    ask_for : {C : Type 0} (p h i : ℕ) (n : Name) → (C → IsVat L p) → (C → NameFits L n) → Fine L C (arrive.ask_for K p h i n) (nothing L)
    unfolding arrive.ask_for
    ask_for p h i n g f = fine_bind L (nothing L) (fine_sees L _) (λ gone. fine_if L gone (settles n (Broken (codes "partition")) (λ c. f c.0) (λ c. plain _ refl)) (fine_out L h (Ask p i n) (λ c. (f c.0, g c.0))))

    learn_gift : {C : Type 0} (p h i : ℕ) → (C → IsVat L p) → (C → IsVat L h) → Fine L C (arrive.learn_gift K p h i) (ValueFits L)
    unfolding arrive.learn_gift name_of
    learn_gift p h i g f = fine_bind L (NameFits L) (fine_come L word v inside (IsGift h i) h (gift_name h i f) f) (λ n. fine_then L (ask_for p h i n (λ c. g c.0) (λ c. c.1)) (fine_give L (Ref n) (λ c. c.1)))
      where
        gift_name : {C : Type 0} (h i : ℕ) → (C → IsVat L h) → C → NameFits L (name_of v (IsGift h i))
        gift_name h i f c = f c

    make_list : {C : Type 0} (vs : List (Value Name)) → (C → ValuesFit L vs) → Fine L C (arrive.make_list K vs) (ValueFits L)
    unfolding arrive.make_list
    make_list vs g = fine_bind L (IsLow L) (fine_list L vs g) (λ k. fine_then L (fine_tell L (ListCame k vs) (λ c. (c.1, g c.0))) (fine_give L (Items k) (λ c. c.1)))

    mutual
      unfolding arrive.learn arrive.learn_all

      learn : (p : ℕ) (y : Passed (Incoming Name Name)) {C : Type 0} → (C → IsVat L p) → (C → ReadPassedFits y) → Fine L C (arrive.learn K p y) (ValueFits L)
      learn p (Plain y) i g = learn_value y g
      learn p (AGift h j) i g = learn_gift p h j i g
      learn p (Many ys) i g = fine_bind L (ValuesFit L) (learn_all p ys i g) (λ vs. make_list vs (λ c. c.1))

      learn_all : (p : ℕ) (ys : Passeds (Incoming Name Name)) {C : Type 0} → (C → IsVat L p) → (C → ReadPassedsFit ys) → Fine L C (arrive.learn_all K p ys) (ValuesFit L)
      learn_all p NoMore i g = fine_give L [] (λ c. tt)
      learn_all p (More y ys) i g = fine_bind L (ValueFits L) (learn p y i (λ c. (g c).0))
          (λ x. fine_bind L (ValuesFit L) (learn_all p ys (λ c. i c.0) (λ c. (g c.0).1)) (λ xs. fine_give L (x ∷ xs) (λ c. (c.0.1, c.1))))

    learn_message : {C : Type 0} (x : Incoming Name Name) → (C → IncomingFits x) → Fine L C (arrive.learn_message K x) (NameFits L)
    unfolding arrive.learn_message mail_of
    learn_message (Old n) g = fine_give L n g
    learn_message (New n h) g = fine_mail L word v inside (IsCarried n) (carried n h g)
      where
        carried : {C : Type 0} (n : Name) (h : ℕ) → (C → NameFits L n × IsVat L h) → C → NameFits L (mail_of v (IsCarried n))
        carried n h g c = (g c).0

    -- ---- gifts

    gift_at_fits : (p i : ℕ) (gs : List (GiftEntry Name)) → AllOf (GiftFits L) gs → WhereSome (GiftFits L) (arrive.gift_at p i gs)
    unfolding arrive.gift_at
    gift_at_fits p i [] h = tt
    gift_at_fits p i (g ∷ gs) h = where_either (GiftFits L) (is_gift p i g) g (arrive.gift_at p i gs) h.0 (gift_at_fits p i gs h.1)

    gift_or_new : {C : Type 0} (u p i : ℕ) (o : Option (GiftEntry Name)) → (C → IsVat L u) → (C → IsVat L p) → (C → WhereSome (GiftFits L) o) → Fine L C (arrive.gift_or_new K u p i o) (NameFits L)
    unfolding arrive.gift_or_new name_of
    gift_or_new u p i (Some g) x y f = fine_give L g.name (λ c. (f c).0)
    gift_or_new u p i None x y f = fine_bind L (NameFits L) (fine_come L word v inside (IsGift u i) u (gift_name u i x) x) (λ n. fine_then L (fine_gift L n p i (λ c. c.1) (λ c. y c.0)) (fine_give L n (λ c. c.1)))
      where
        gift_name : {C : Type 0} (h i : ℕ) → (C → IsVat L h) → C → NameFits L (name_of v (IsGift h i))
        gift_name h i f c = f c

    have_gift : {C : Type 0} (p i : ℕ) → (C → IsVat L p) → Fine L C (arrive.have_gift K p i) (NameFits L)
    unfolding arrive.have_gift
    have_gift p i g = fine_bind L (IsVat L) (look_here L word v inside) (λ u. fine_bind L (WhereSome (GiftFits L)) (fine_look L _ (λ s h c. gift_at_fits p i s.gifts h.gifts)) (λ o. gift_or_new u p i o (λ c. c.0.1) (λ c. g c.0.0) (λ c. c.1)))

    break_at : {C : Type 0} (n : Name) (p : Words) (t : Standing Name) → (C → NameFits L n) → (C → TextFits p) → Fine L C (arrive.break_at K n p t) (nothing L)
    unfolding arrive.break_at
    break_at n p (Settled y) g f = fine_give L tt (λ c. tt)
    break_at n p other g f = settles n (Broken p) g f

    break_unopened : {C : Type 0} (n : Name) (b : Bool) → (C → NameFits L n) → Fine L C (arrive.break_unopened K n b) (nothing L)
    unfolding arrive.break_unopened
    break_unopened n true g = fine_give L tt (λ c. tt)
    break_unopened n false g = fine_bind L (nothing L) (fine_sees L _) (λ t. break_at n (codes "partition") t (λ c. g c.0) (λ c. plain _ refl))

    tell_asker : {C : Type 0} (n : Name) (w : ℕ) (t : Standing Name) → (C → NameFits L n) → (C → IsVat L w) → Fine L C (arrive.tell_asker K n w t) (nothing L)
    unfolding arrive.tell_asker
    tell_asker n w (Settled y) g i = fine_inform L word v inside n w g i
    tell_asker n w other g i = fine_alter L word v inside (ToTell w) n i

    -- ---- arrival

    sends_on : {C : Type 0} (m : Message Name) → (C → MessageFits L m) → Fine L C (refs.send_on K (refs.settle K) m) (nothing L)
    sends_on m g = fine_send_on L word v inside (refs.settle K) (fine_settle L word v inside) m g

    send_on_asked : {C : Type 0} (from : ℕ) (id n : Name) (verb : Words) (args : List (Value Name)) → (C → IsVat L from) → (C → NameFits L id) → (C → NameFits L n) → (C → TextFits verb) → (C → ValuesFit L args) → Fine L C (arrive.send_on_asked K from id n verb args) (nothing L)
    unfolding arrive.send_on_asked name_of
    send_on_asked from id n verb args i g f t a = fine_bind L (IsVat L) (look_here L word v inside) (λ u. fine_bind L (NameFits L) (fine_come L word v inside (IsAnswer u id) u (λ c. answer_name u id c.1 (g c.0)) (λ c. c.1))
        (λ p. fine_then L (fine_alter L word v inside (ToTell from) p (λ c. i c.0.0)) (sends_on _ (λ c. (g c.0.0, f c.0.0, t c.0.0, a c.0.0, c.1)))))
      where
        answer_name : (u : ℕ) (id : Name) → IsVat L u → NameFits L id → NameFits L (name_of v (IsAnswer u id))
        answer_name u id i f = answer_fits L u id i f

    arrive_deliver : {C : Type 0} (from : ℕ) (d : Delivery (Incoming Name Name)) (x : Incoming Name Name) (verb : Words) (ys : Passeds (Incoming Name Name)) → (C → IsVat L from) → (C → ReadNoteFits (Deliver d x verb ys)) → Fine L C (arrive.arrive_deliver K from d x verb ys) (nothing L)
    unfolding arrive.arrive_deliver
    arrive_deliver from d x verb ys i g = fine_bind L (NameFits L) (learn_message d.message (λ c. (g c).0)) (λ id. fine_bind L (ValuesFit L) (learn_all from ys (λ c. i c.0) (λ c. (g c.0).3))
        (λ args. fine_bind L (NameFits L) (learn_name x (λ c. (g c.0.0).1)) (λ n. fine_if L d.asks
        (send_on_asked from id n verb args (λ c. i c.0.0.0) (λ c. c.0.0.1) (λ c. c.1) (λ c. (g c.0.0.0).2) (λ c. c.0.1))
        (sends_on _ (λ c. (c.0.0.1, c.1, (g c.0.0.0).2, c.0.1, tt))))))

    arrive_open : {C : Type 0} (from i : ℕ) (x : Incoming Name Name) → (C → IsVat L from) → (C → IncomingFits x) → Fine L C (arrive.arrive_open K from i x) (nothing L)
    unfolding arrive.arrive_open
    arrive_open from i x g f = fine_bind L (NameFits L) (learn_name x f) (λ y. fine_bind L (NameFits L) (have_gift from i (λ c. g c.0)) (λ n. fine_then L (fine_open L from i) (fine_resolve L word v inside n (Ref y) (λ c. c.1) (λ c. c.0.1))))

    break_orphan : {C : Type 0} (p i : ℕ) (n : Name) → (C → NameFits L n) → Fine L C (arrive.break_orphan K p i n) (nothing L)
    unfolding arrive.break_orphan
    break_orphan p i n g = fine_bind L (nothing L) (fine_sees L _) (λ gone. fine_bind L (nothing L) (fine_sees L _) (λ opened. fine_if L gone (break_unopened n opened (λ c. g c.0.0)) (fine_give L tt (λ c. tt))))

    arrive_ask : {C : Type 0} (from p i : ℕ) → (C → IsVat L from) → (C → IsVat L p) → Fine L C (arrive.arrive_ask K from p i) (nothing L)
    unfolding arrive.arrive_ask
    arrive_ask from p i g f = fine_bind L (NameFits L) (have_gift p i f) (λ n. fine_then L (break_orphan p i n (λ c. c.1)) (fine_bind L (nothing L) (fine_sees L _) (λ t. tell_asker n from t (λ c. c.0.1) (λ c. g c.0.0))))

    arrive_settled : {C : Type 0} (from : ℕ) (x : Incoming Name Name) (y : Passed (Incoming Name Name)) → (C → IsVat L from) → (C → IncomingFits x) → (C → ReadPassedFits y) → Fine L C (arrive.arrive_settled K from x y) (nothing L)
    unfolding arrive.arrive_settled
    arrive_settled from x y i g f = fine_bind L (NameFits L) (learn_name x g) (λ n. fine_bind L (ValueFits L) (learn from y (λ c. i c.0) (λ c. f c.0)) (λ z. settles n z (λ c. c.0.1) (λ c. c.1)))

    see : {C : Type 0} (n g : Name) → (C → NameFits L n) → (C → NameFits L g) → Fine L C (arrive.see K n g) (nothing L)
    unfolding arrive.see
    see n g f k = fine_then L (fine_tell L (Views n g) (λ c. (f c, k c))) (fine_then L (fine_alter L word v inside (See g) n k) (fine_alter L word v inside (Wait n) g f))

    gift_there : {C : Type 0} (u h c i : ℕ) → (C → IsVat L h) → (C → IsVat L c) → Fine L C (arrive.gift_there K u h c i) (NameFits L)
    unfolding arrive.gift_there name_of
    gift_there u h c i g f = fine_if L (c == u) (have_gift h i g) (fine_bind L (NameFits L) (fine_come L word v inside (IsGift c i) c (gift_name c i f) f)
        (λ n. fine_then L (fine_out L c (Ask h i n) (λ x. (x.1, g x.0))) (fine_give L n (λ x. x.1))))
      where
        gift_name : {C : Type 0} (h i : ℕ) → (C → IsVat L h) → C → NameFits L (name_of v (IsGift h i))
        gift_name h i f c = f c

    view_there : {C : Type 0} (n : Name) (w : ℕ) → (C → NameFits L n) → (C → IsVat L w) → Fine L C (arrive.view_there K n w) (nothing L)
    unfolding arrive.view_there
    view_there n w g f = fine_bind L (IsVat L) (look_here L word v inside) (λ u. fine_bind L (IsVat L) (fine_look L _ (λ s h c. host_at_fits L word v inside s n h))
        (λ h. fine_bind L (nothing L) (fine_draw L word v inside) (λ i. fine_then L (fine_out L h (Shorten n w (under h i)) (λ c. (g c.0.0.0, f c.0.0.0)))
        (fine_bind L (NameFits L) (gift_there u h w (under h i) (λ c. c.0.1) (λ c. f c.0.0.0)) (λ q. see n q (λ c. g c.0.0.0.0) (λ c. c.1))))))

    arrive_elsewhere : {C : Type 0} (x : Incoming Name Name) (w : ℕ) → (C → IncomingFits x) → (C → IsVat L w) → Fine L C (arrive.arrive_elsewhere K x w) (nothing L)
    unfolding arrive.arrive_elsewhere
    arrive_elsewhere x w g f = fine_bind L (NameFits L) (learn_name x g) (λ n. fine_bind L (nothing L) (fine_sees L _) (λ gone. fine_if L gone (settles n (Broken (codes "partition")) (λ c. c.0.1) (λ c. plain _ refl)) (view_there n w (λ c. c.0.1) (λ c. f c.0.0))))

    arrive_shorten : {C : Type 0} (x : Incoming Name Name) (i : ℕ) → (C → IncomingFits x) → Fine L C (arrive.arrive_shorten K x i) (nothing L)
    unfolding arrive.arrive_shorten arrive.shorten_to
    arrive_shorten x i g = fine_bind L (NameFits L) (learn_name x g) (λ n. fine_bind L (PlaceFits L) (look_place_of L word v inside (Ref n) (λ c. c.1)) (λ p. to p (λ c. c.1)))
      where
        to : {C : Type 0} (p : Place Name) → (C → PlaceFits L p) → Fine L C (arrive.shorten_to K i p) (nothing L)
        to (Away h n true) f = fine_out L h (Open i n) (λ c. (f c).1)
        to other f = fine_give L tt (λ c. tt)

    pub fine_arrive : {C : Type 0} (from : ℕ) (n : Note (Incoming Name Name)) → (C → IsVat L from) → (C → ReadNoteFits n) → Fine L C (arrive.arrive K from n) (nothing L)
    unfolding arrive.arrive
    fine_arrive from (Deliver d x verb ys) i g = arrive_deliver from d x verb ys i g
    fine_arrive from (Open j x) i g = arrive_open from j x i g
    fine_arrive from (Ask p j x) i g = arrive_ask from p j i (λ c. (g c).1)
    fine_arrive from (SettledTo x y) i g = arrive_settled from x y i (λ c. (g c).0) (λ c. (g c).1)
    fine_arrive from (Elsewhere x w) i g = arrive_elsewhere x w (λ c. (g c).0) (λ c. (g c).1)
    fine_arrive from (Shorten x w j) i g = arrive_shorten x j (λ c. (g c).0)

    -- ---- notices

    break_hosted : {C : Type 0} (w : ℕ) (n : Name) (p : Words) (t : Standing Name) → (C → NameFits L n) → (C → TextFits p) → Fine L C (arrive.break_hosted K w n p t) (nothing L)
    unfolding arrive.break_hosted
    break_hosted w n p (Viewed q) g f = fine_give L tt (λ c. tt)
    break_hosted w n p (Settled y) g f = fine_give L tt (λ c. tt)
    break_hosted w n p other g f = settles n (Broken p) g f

    notice_names : {C : Type 0} (w : ℕ) (ks : List (Known Name)) → (C → AllOf (KnownFits L) ks) → Fine L C (each (arrive.notice_name K w) ks) (nothing L)
    unfolding each arrive.notice_name
    notice_names w [] g = fine_give L tt (λ c. tt)
    notice_names w (k ∷ ks) g = fine_then L (fine_bind L (nothing L) (fine_sees L _) (λ t. fine_if L (k.host == w) (break_hosted w k.name (codes "partition") t (λ c. (g c.0).0.0) (λ c. plain _ refl)) (fine_give L tt (λ c. tt)))) (notice_names w ks (λ c. (g c).1))

    notice_gifts : {C : Type 0} (w : ℕ) (gs : List (GiftEntry Name)) → (C → AllOf (GiftFits L) gs) → Fine L C (each (arrive.notice_gift K w) gs) (nothing L)
    unfolding each arrive.notice_gift
    notice_gifts w [] f = fine_give L tt (λ c. tt)
    notice_gifts w (g ∷ gs) f = fine_then L (fine_if L (g.provider == w) (break_unopened g.name g.opened (λ c. (f c).0.0)) (fine_give L tt (λ c. tt))) (notice_gifts w gs (λ c. (f c).1))

    pub fine_notice : {C : Type 0} (w : ℕ) → Fine L C (arrive.notice K w) (nothing L)
    unfolding arrive.notice arrive.notice_all
    fine_notice w = fine_bind L (nothing L) (fine_sees L _) (λ gone. fine_if L gone (fine_give L tt (λ c. tt)) (fine_then L (fine_mark L w)
        (fine_bind L (AllOf (KnownFits L)) (fine_look L (λ s. s.known) (λ s h c. h.known)) (λ ks. fine_then L (notice_names w ks (λ c. c.1))
        (fine_bind L (AllOf (GiftFits L)) (fine_look L (λ s. s.gifts) (λ s h c. h.gifts)) (λ gs. notice_gifts w gs (λ c. c.1)))))))
