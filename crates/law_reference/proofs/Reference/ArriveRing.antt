-- What arrives makes no list lead back to itself.
use Rattle.std.proofs.Common.{◌≡◌, ℕ, Bool, true, false, List, [], ◌∷◌, ◌++◌, Option, Some, None, refl, sym, ap, subst, ◌∙◌, ◌⊎◌, inl, inr, length, ◌==◌, if◌then◌else◌}
use Rattle.std.proofs.lemmas.Bool.{eqb-true}
use Rattle.def_machine.specs.Values.{Words, Value, Null, Flag, Number, Letter, Text, Prim, Broken, Items, Ref, Name, Object, Gift, Sent, Naming, Spot, Own, Foreign, NoObject, naming, name_of, answer_of, mail_of, host_of, spot_of, IsAnswer, IsGift, IsLearnt, IsCarried}
use Rattle.def_machine.specs.State.{Standing, Settled, Passed, Passeds, Plain, AGift, Many, NoMore, More, Note, Deliver, Open, Ask, SettledTo, Elsewhere, Shorten, GiftEntry, ListCame, Vat, Done, Gives, Act, ◌>>=◌, ◌>>◌, and_then, give, look, tell, come, mail, new_list, new_gift, open_gift, with_opened, is_gift, send_out, begun, is_in, Delivery}
use Rattle.def_machine.specs.Refs as refs
use Rattle.def_machine.specs.Refs.{Place, Mine, Away, standing_of, host_at, follow, place, spotted, hosted}
use Rattle.def_machine.specs.Arrive as arrive
use Rattle.def_machine.specs.Arrive.{Incoming, Old, New, gift_at}
use Rattle.law_machine.specs.Machine.Steps.{does}
use Rattle.law_fate.specs.Name.Names.{AllOf, IsMessageName, IsEventual}
use Rattle.law_frozen.specs.Frozen.{AreThere, PlainPasses, Passes, AllPass, NotePasses}
use Rattle.law_frozen.proofs.Fine.{Keeper, Fact, Nothing, Also, IsValue, AreValues, nothing, Holds as Knows, Gets, Ends, Fine, fine, grows_same, widen, got, got_itself, got_ref, got_none, got_nothing, bind_name, bind_value, bind_values, fine_then, fine_give}
use Rattle.law_frozen.proofs.Looks.{looks}
use Rattle.law_fate.proofs.Name.Facts.{all_end}
use Rattle.law_reference.specs.Reference.ListRingless.{IsAnswerName, IsObjectName, IsView, IsNamed, NoPromise, IsToldWell, told_name, ToldValue, ToldPassed, ToldPasseds, IsToldMail, SettlesWell, IfMany, IsHeeded, NoteBehind, DrawsAfter, ArrivedSo, ArrivalsKeep, ArrivalsCloseNoRing}
use Rattle.law_reference.proofs.Reference.Kept.{heeds, Mark, Noticed, Unviewed, K, keeper}
use Rattle.law_reference.proofs.Reference.Changes.{Holds, answer_eventual, begun_holds, puts, gifts_hold}
use Rattle.law_reference.proofs.Reference.Elsewhere.{AtView, ends_view, elsewhere}
use Rattle.law_reference.proofs.Reference.ListGifts.{gift_noticed}
use Rattle.law_reference.proofs.Reference.RefsRing.{tells, here_spared, good_settle, settle_broken, informs, sends_on, resolve_own, resolve_object, drop}

name_same : (m n : Name) → Ref m ≡ Ref n → m ≡ n
name_same m n e = cc

module _ (word : ℕ → ℕ) (v : ℕ) (heed : Bool) (D : ℕ → Type 0) (Seen : Name → Type 0) where
  abbrev N : Naming Name Name
  N = K word v

  abbrev M : List Mark → Keeper N
  M ls = keeper word v heed D Seen ls

  abbrev Kept : List Mark → Vat Name → Type 0
  Kept ls s = Holds word v heed D Seen ls s

  abbrev At : List Mark → {A : Type 0} → (A → Fact Name) → Vat Name → Done Name A → Type 0
  At ls G s d = Ends N (M ls) G s d

  abbrev Is : List Mark → Fact Name → {A : Type 0} → Act Name A → (A → Fact Name) → Type 0
  Is ls C m G = Fine N (M ls) C m G

  learnt_is : (x : Name) (k : ℕ) → N.made (IsLearnt x) k ≡ x
  unfolding naming name_of
  learnt_is x k = refl

  gift_eventual : (h i k : ℕ) → IsEventual (N.made (IsGift h i) k)
  unfolding naming name_of
  gift_eventual h i k = tt

  gift_either : (a b : Bool) → elim a [ true ↦ b | false ↦ false ] ≡ true → b ≡ true
  gift_either true b e = e
  gift_either false b e = cc

  gift_number : (p i : ℕ) (g : GiftEntry Name) → is_gift p i g ≡ true → g.number ≡ i
  unfolding is_gift
  gift_number p i g e = eqb-true g.number i (gift_either (g.provider == p) (g.number == i) e)

  carried_is : (x : Name) (k : ℕ) → N.mailed (IsCarried x) k ≡ x
  unfolding naming mail_of
  carried_is x k = refl

  foreign_object : (x : Name) (w : ℕ) → N.spot x ≡ Foreign w → IsObjectName x
  unfolding naming spot_of
  foreign_object (Object u i) w e = tt
  foreign_object other w e = cc

  hosted_far : (b : Bool) (x n : Name) (g h : ℕ) → ◌≡◌ {A = Place Name} (elim b [ true ↦ Mine x | false ↦ Away g x false ]) (Away h n true) → ⊥
  hosted_far true x n g h e = cc
  hosted_far false x n g h e = cc

  answer_host : (h : ℕ) (i : Name) → IsMessageName i → host_of (answer_of h i) ≡ h
  unfolding answer_of host_of
  answer_host h (Sent m) g = refl
  answer_host h other g = absurd g

  answer_form : (h : ℕ) (i : Name) → IsMessageName i → IsAnswerName (answer_of h i)
  unfolding answer_of
  answer_form h (Sent m) g = tt
  answer_form h other g = absurd g

  made_answer : (h k : ℕ) (i : Name) → IsMessageName i → IsEventual (N.made (IsAnswer h i) k) × (host_of (N.made (IsAnswer h i) k) ≡ h) × IsAnswerName (N.made (IsAnswer h i) k)
  unfolding naming name_of
  made_answer h k i g = (answer_eventual h i g, answer_host h i g, answer_form h i g)

  -- ---- learning

  module _ (hs : List ℕ) (ls : List Mark) where
    abbrev js : List Mark
    js = Noticed hs ∷ ls

    spared : (s : Vat Name) (h : ℕ) → Kept js s → is_in h hs ≡ false → is_in h (heeds word v heed D Seen s) ≡ false
    spared s h k e = ap (λ xs. is_in h xs) k.3.0 ∙ e

    pub learns_name : (C : Fact Name) (x : Incoming Name Name) → IsToldWell hs x → Is js C (arrive.learn_name N x) nothing
    unfolding arrive.learn_name come
    learns_name C (Old n) t = fine_give N (M js) n (got_nothing N C)
    learns_name C (New x h) t = record { after = λ s k c. (grows_same s.things s.lists, begun_holds word v heed D Seen js s (N.made (IsLearnt x) (length s.known)) h k (spared s h k t.0) (subst IsEventual (sym (learnt_is x (length s.known))) t.1), tt) }

    learns_ref : (C : Fact Name) (x : Incoming Name Name) → IsToldWell hs x → Is js C (arrive.learn_name N x >>= (λ n. give (Ref n))) IsValue
    learns_ref C x t = bind_name N (M js) {C = C} {H = IsValue} (learns_name C x t) (λ n. fine_give N (M js) {C = C} (Ref n) (got_ref N C n))

    learns_value : (C : Fact Name) (y : Value (Incoming Name Name)) → PlainPasses y → ToldValue hs y → Is js C (arrive.learn_value N y) IsValue
    unfolding arrive.learn_value
    learns_value C Null p t = fine_give N (M js) {C = C} Null (record { at = λ ts ms h. tt })
    learns_value C (Flag b) p t = fine_give N (M js) {C = C} (Flag b) (record { at = λ ts ms h. tt })
    learns_value C (Number z) p t = fine_give N (M js) {C = C} (Number z) (record { at = λ ts ms h. tt })
    learns_value C (Letter c) p t = fine_give N (M js) {C = C} (Letter c) (record { at = λ ts ms h. tt })
    learns_value C (Text w) p t = fine_give N (M js) {C = C} (Text w) (record { at = λ ts ms h. tt })
    learns_value C (Prim n) p t = fine_give N (M js) {C = C} (Prim n) (record { at = λ ts ms h. tt })
    learns_value C (Broken w) p t = fine_give N (M js) {C = C} (Broken w) (record { at = λ ts ms h. tt })
    learns_value C (Items k) p t = absurd p
    learns_value C (Ref x) p t = learns_ref C x t

    put_ask : {C : Fact Name} (to p i : ℕ) (n : Name) → Is js C (send_out to (Ask p i n)) nothing
    put_ask to p i n = record { after = λ s k c. puts word v heed D Seen js s to (Ask p i n) tt tt k }

    asks : {C : Fact Name} (p h i : ℕ) (n : Name) → Is js C (arrive.ask_for N p h i n) nothing
    unfolding arrive.ask_for
    asks {C = C} p h i n = let broken = settle_broken word v heed D Seen js in search (fine, looks, broken, put_ask) depth 30

    gift_comes : {C : Fact Name} (h i : ℕ) → is_in h hs ≡ false → Is js C (come N (IsGift h i) h) nothing
    unfolding come
    gift_comes h i e = record { after = λ s k c. (grows_same s.things s.lists, begun_holds word v heed D Seen js s (N.made (IsGift h i) (length s.known)) h k (spared s h k e) (gift_eventual h i (length s.known)), tt) }

    -- a gift of a host that was not noticed is asked for, and another breaks
    gift_or : (C : Fact Name) (p h i : ℕ) (b : Bool) (s : Vat Name) → is_in h (heeds word v heed D Seen s) ≡ b → Kept js s → Knows N s.things s.lists C → At js IsValue s (arrive.learn_gift N p h i s)
    unfolding arrive.learn_gift
    gift_or C p h i true s e k c = gift_noticed word v heed D Seen js s p h i e k
    gift_or C p h i false s e k c = (bind_name N (M js) {C = C} {H = IsValue} (gift_comes {C = C} h i (ap (λ xs. is_in h xs) (sym k.3.0) ∙ e)) (λ n. fine_then N (M js) {C = C} {H = IsValue} nothing (asks {C = C} p h i n) (fine_give N (M js) {C = C} (Ref n) (got_ref N C n)))).after s k c

    learns_gift : (C : Fact Name) (p h i : ℕ) → Is js C (arrive.learn_gift N p h i) IsValue
    learns_gift C p h i = record { after = λ s k c. gift_or C p h i (is_in h (heeds word v heed D Seen s)) s refl k c }

    makes_list : {C : Fact Name} (vs : List (Value Name)) → Gets N C (AreValues vs) → Is js C (arrive.make_list N vs) IsValue
    unfolding arrive.make_list
    makes_list {C = C} vs g = search (fine, looks) depth 30

    mutual
      unfolding arrive.learn arrive.learn_all

      pub learns : (C : Fact Name) (p : ℕ) (y : Passed (Incoming Name Name)) → Passes y → ToldPassed hs y → Is js C (arrive.learn N p y) IsValue
      learns C p (Plain y) q t = learns_value C y q t
      learns C p (AGift h i) q t = learns_gift C p h i
      learns C p (Many ys) q t = bind_values N (M js) {C = C} {H = IsValue} (learns_all C p ys q t) (λ vs. makes_list {C = Also C (AreValues vs)} vs (got N C (AreValues vs)))

      pub learns_all : (C : Fact Name) (p : ℕ) (ys : Passeds (Incoming Name Name)) → AllPass ys → ToldPasseds hs ys → Is js C (arrive.learn_all N p ys) AreValues
      learns_all C p NoMore q t = fine_give N (M js) {C = C} [] (got_none N C)
      learns_all C p (More y ys) q t = bind_value N (M js) {C = C} {H = AreValues} (learns C p y q.0 t.0) (λ x. bind_values N (M js) {C = Also C (IsValue x)} {H = AreValues} (learns_all (Also C (IsValue x)) p ys q.1 t.1)
          (λ xs. fine_give N (M js) {C = Also (Also C (IsValue x)) (AreValues xs)} (x ∷ xs) (record { at = λ ts ms h. (h.0.1, h.1) })))

    -- ---- a message that is delivered

    then_mail : (C : Fact Name) (m : Incoming Name Name) (f : Name → Act Name (Unit {0})) → IsToldMail m → ((id : Name) → IsMessageName id → Is js C (f id) nothing) → Is js C (arrive.learn_message N m >>= f) nothing
    unfolding arrive.learn_message ◌>>=◌ give mail and_then
    then_mail C (Old n) f t g = record { after = λ s k c. (g n t).after s k c }
    then_mail C (New x h) f t g = record {
      after = λ s k c. let id : Name = N.mailed (IsCarried x) (length s.mails) in let u : Vat Name = record s { mails = s.mails ++ id ∷ [] } in
          widen N (M js) nothing s u _ (grows_same s.things s.lists) ((g id (subst IsMessageName (sym (carried_is x (length s.mails))) t)).after u ((M js).quiet s u (refl, refl, refl, inl refl, refl, refl, refl, refl) k k.0) c);
    }

    answered : (C : Fact Name) (from : ℕ) (id n : Name) (verb : Words) (args : List (Value Name)) → IsMessageName id → Gets N C (AreValues args)
        → Is js C (arrive.send_on_asked N from id n verb args) nothing
    unfolding arrive.send_on_asked ◌>>=◌ look come and_then
    answered C from id n verb args mail g = record {
      after = λ s k c. let a : Name = N.made (IsAnswer s.number id) (length s.known) in let made = made_answer s.number (length s.known) id mail in let t : Vat Name = record s { known = s.known ++ begun a s.number ∷ [] } in
          widen N (M js) nothing s t _ (grows_same s.things s.lists) ((fine_then N (M js) {C = C} {H = nothing} nothing ((tells word v heed D Seen js).tells C from a)
          (sends_on word v heed D Seen js (refs.settle N) (good_settle word v heed D Seen js) C (record { id = id; target = Ref n; verb = verb; args = args; answer = Some a }) (mail, (made.1 ∙ k.1.number, made.2)) (record { at = λ ts ms h. (tt, g.at ts ms h) }))).after t (begun_holds word v heed D Seen js s a s.number k (here_spared word v heed D Seen js s k) made.0) c);
    }

    -- by whether an answer is asked for
    sent_so : (asks : Bool) (C : Fact Name) (from : ℕ) (id n : Name) (verb : Words) (args : List (Value Name)) → IsMessageName id → Gets N C (AreValues args)
        → Is js C (if asks then arrive.send_on_asked N from id n verb args else refs.send_on N (refs.settle N) (record { id = id; target = Ref n; verb = verb; args = args; answer = None })) nothing
    sent_so true C from id n verb args mail g = answered C from id n verb args mail g
    sent_so false C from id n verb args mail g = sends_on word v heed D Seen js (refs.settle N) (good_settle word v heed D Seen js) C (record { id = id; target = Ref n; verb = verb; args = args; answer = None }) (mail, tt) (record { at = λ ts ms h. (tt, g.at ts ms h) })

    pub delivers : (from : ℕ) (m : Delivery (Incoming Name Name)) (x : Incoming Name Name) (verb : Words) (ys : Passeds (Incoming Name Name)) → IsToldMail m.message → IsToldWell hs x → AllPass ys → ToldPasseds hs ys → Is js Nothing (arrive.arrive_deliver N from m x verb ys) nothing
    unfolding arrive.arrive_deliver
    delivers from m x verb ys mail t q u = then_mail Nothing m.message _ mail (λ id i. bind_values N (M js) {C = Nothing} {H = nothing} (learns_all Nothing from ys q u) (λ args. bind_name N (M js) {C = Also Nothing (AreValues args)} {H = nothing} (learns_name (Also Nothing (AreValues args)) x t)
        (λ n. sent_so m.asks (Also Nothing (AreValues args)) from id n verb args i (got N Nothing (AreValues args)))))

    -- ---- gifts

    gift_named : (s : Vat Name) (i k : ℕ) → s.number ≡ v → N.made (IsGift s.number i) k ≡ Gift v i
    unfolding naming name_of
    gift_named s i k e = ap (λ h. Gift h i) e

    new_gift_holds : (s : Vat Name) (p i : ℕ) → Kept js s → let n = N.made (IsGift s.number i) (length s.known) in Kept js (record s { known = s.known ++ begun n s.number ∷ []; gifts = s.gifts ++ record { name = n; provider = p; number = i; opened = false } ∷ [] })
    new_gift_holds s p i k = let n : Name = N.made (IsGift s.number i) (length s.known) in let t : Vat Name = record s { known = s.known ++ begun n s.number ∷ [] } in let a : Kept js t = begun_holds word v heed D Seen js s n s.number k (here_spared word v heed D Seen js s k) (gift_eventual s.number i (length s.known)) in
        gifts_hold word v heed D Seen js t (t.gifts ++ record { name = n; provider = p; number = i; opened = false } ∷ []) (all_end (IsNamed v) s.gifts (record { name = n; provider = p; number = i; opened = false }) k.1.gifts (gift_named s i (length s.known) k.1.number)) a

    opened_head : (b : Bool) (g : GiftEntry Name) (gs hs : List (GiftEntry Name)) → IsNamed v g → AllOf (IsNamed v) gs → AllOf (IsNamed v) hs → AllOf (IsNamed v) (elim b [ true ↦ record g { opened = true } ∷ gs | false ↦ g ∷ hs ])
    opened_head true g gs hs a b c = (a, b)
    opened_head false g gs hs a b c = (a, c)

    opened_named : (p i : ℕ) (gs : List (GiftEntry Name)) → AllOf (IsNamed v) gs → AllOf (IsNamed v) (with_opened p i gs)
    unfolding with_opened
    opened_named p i [] h = tt
    opened_named p i (g ∷ gs) h = opened_head (is_gift p i g) g gs (with_opened p i gs) h.0 h.1 (opened_named p i gs h.1)

    opens_gift : (C : Fact Name) (p i : ℕ) → Is js C (open_gift p i) nothing
    unfolding open_gift
    opens_gift C p i = record { after = λ s k c. (grows_same s.things s.lists, gifts_hold word v heed D Seen js s (with_opened p i s.gifts) (opened_named p i s.gifts k.1.gifts) k, tt) }

    -- the gift that is found is named by its draw
    found_head : (b : Bool) (p i : ℕ) (g0 g : GiftEntry Name) (o : Option (GiftEntry Name)) → is_gift p i g0 ≡ b → IsNamed v g0 → ◌≡◌ {A = Option (GiftEntry Name)} (elim b [ true ↦ Some g0 | false ↦ o ]) (Some g) → (o ≡ Some g → g.name ≡ Gift v i) → g.name ≡ Gift v i
    found_head true p i g0 g o e n f h = let same : g0 ≡ g = cc in subst (λ (x : GiftEntry Name). x.name ≡ Gift v i) same (n ∙ ap (λ j. Gift v j) (gift_number p i g0 e))
    found_head false p i g0 g o e n f h = h f

    found_named : (p i : ℕ) (gs : List (GiftEntry Name)) (g : GiftEntry Name) → AllOf (IsNamed v) gs → gift_at p i gs ≡ Some g → g.name ≡ Gift v i
    unfolding gift_at
    found_named p i [] g h e = cc
    found_named p i (g0 ∷ gs) g h e = found_head (is_gift p i g0) p i g0 g (gift_at p i gs) refl h.0 e (λ f. found_named p i gs g h.1 f)

    had_or : (s : Vat Name) (p i : ℕ) (o : Option (GiftEntry Name)) → Kept js s → At js nothing s (arrive.gift_or_new N s.number p i o s)
    unfolding arrive.gift_or_new ◌>>=◌ ◌>>◌ and_then come new_gift give
    had_or s p i (Some g) k = (grows_same s.things s.lists, k, tt)
    had_or s p i None k = (grows_same s.things s.lists, new_gift_holds s p i k, tt)

    had_gift : {C : Fact Name} (p i : ℕ) → Is js C (arrive.have_gift N p i) nothing
    unfolding arrive.have_gift ◌>>=◌ look and_then
    had_gift p i = record { after = λ s k c. had_or s p i (gift_at p i s.gifts) k }

    broke_at : {C : Fact Name} (n : Name) (p : Words) (t : Standing Name) → Is js C (arrive.break_at N n p t) nothing
    unfolding arrive.break_at
    broke_at {C = C} n p (Settled y) = search (fine, looks) depth 30
    broke_at {C = C} n p other = settle_broken word v heed D Seen js C n p

    pub broke_unopened : {C : Fact Name} (n : Name) (b : Bool) → Is js C (arrive.break_unopened N n b) nothing
    unfolding arrive.break_unopened
    broke_unopened {C = C} n true = search (fine, looks) depth 30
    broke_unopened {C = C} n false = search (fine, looks, broke_at) depth 30

    broke_orphan : {C : Fact Name} (p i : ℕ) (n : Name) → Is js C (arrive.break_orphan N p i n) nothing
    unfolding arrive.break_orphan
    broke_orphan {C = C} p i n = search (fine, looks, broke_unopened) depth 30

    told_at : (s : Vat Name) (n : Name) (w : ℕ) (t : Standing Name) → standing_of N s.known n ≡ t → Kept js s → At js nothing s (arrive.tell_asker N n w t s)
    unfolding arrive.tell_asker
    told_at s n w (Settled y) e k = informs word v heed D Seen js n w y s e (k.1.names.settled n y e).0 k
    told_at s n w other e k = ((tells word v heed D Seen js).tells Nothing w n).after s k tt

    told_asker : {C : Fact Name} (n : Name) (w : ℕ) → Is js C (look (λ s. standing_of N s.known n) >>= (λ t. arrive.tell_asker N n w t)) nothing
    unfolding ◌>>=◌ look and_then
    told_asker n w = record { after = λ s k c. told_at s n w (standing_of N s.known n) refl k }

    pub asked : (from p i : ℕ) → Is js Nothing (arrive.arrive_ask N from p i) nothing
    unfolding arrive.arrive_ask
    asked from p i = bind_name N (M js) {C = Nothing} {H = nothing} (had_gift {C = Nothing} p i) (λ n. fine_then N (M js) {C = Nothing} {H = nothing} nothing (broke_orphan {C = Nothing} p i n) (told_asker {C = Nothing} n from))

    place_spot : (s : Vat Name) (x n : Name) (h : ℕ) (t : Spot) → N.spot x ≡ t → spotted N s x t ≡ Away h n true → IsObjectName n
    unfolding spotted hosted
    place_spot s x n h (Own i) e f = cc
    place_spot s x n h (Foreign w) e f = let same : x ≡ n = cc in subst IsObjectName same (foreign_object x w e)
    place_spot s x n h NoObject e f = absurd (hosted_far (s.number == host_at N s.number s.known x) x n (host_at N s.number s.known x) h f)

    -- what is placed as an object of another vat is an object
    far_object : (s : Vat Name) (y : Value Name) (n : Name) (h : ℕ) → place N s y ≡ Away h n true → IsObjectName n
    unfolding place
    far_object s (Ref x) n h e = place_spot s x n h (N.spot x) refl e
    far_object s other n h e = cc

    shortens_at : (s : Vat Name) (i : ℕ) (y : Value Name) (p : Place Name) → place N s y ≡ p → Kept js s → At js nothing s (arrive.shorten_to N i p s)
    unfolding arrive.shorten_to give
    shortens_at s i y (Away h n true) e k = puts word v heed D Seen js s h (Open i n) tt (inl (far_object s y n h e)) k
    shortens_at s i y other e k = (grows_same s.things s.lists, k, tt)

    shortens : {C : Fact Name} (i : ℕ) (n : Name) → Is js C (look (λ s. place N s (follow N s (Ref n))) >>= (λ p. arrive.shorten_to N i p)) nothing
    unfolding ◌>>=◌ look and_then
    shortens i n = record { after = λ s k c. shortens_at s i (follow N s (Ref n)) (place N s (follow N s (Ref n))) refl k }

    pub shortened : (x : Incoming Name Name) (i : ℕ) → IsToldWell hs x → Is js Nothing (arrive.arrive_shorten N x i) nothing
    unfolding arrive.arrive_shorten
    shortened x i t = bind_name N (M js) {C = Nothing} {H = nothing} (learns_name Nothing x t) (λ n. shortens {C = Nothing} i n)

    -- a gift is resolved to what it is opened as: no view, or a view to an object
    abbrev OpensSo : Name → Name → Type 0
    OpensSo n y = IsObjectName y ⊎ (IsView D n → ⊥)

    resolves_so : heed ≡ true → (n y : Name) → host_of n ≡ v → OpensSo n y → Is js Nothing (refs.resolve N n (Ref y)) nothing
    resolves_so on n y e (inl o) = resolve_object word v heed D Seen on js Nothing n y o
    resolves_so on n y e (inr f) = resolve_own word v heed D Seen on js Nothing n (e, f) (Ref y) (got_ref N Nothing y)

    so_named : (i : ℕ) (n y : Name) → n ≡ Gift v i → IsObjectName y ⊎ (D i → ⊥) → OpensSo n y
    so_named i n y e (inl o) = inl o
    so_named i n y e (inr f) = inr (subst (λ m. IsView D m → ⊥) (sym e) f)

    host_named : (i : ℕ) (n : Name) → n ≡ Gift v i → host_of n ≡ v
    unfolding host_of
    host_named i n e = ap host_of e

    opens_own : heed ≡ true → (p i : ℕ) (y n : Name) → n ≡ Gift v i → IsObjectName y ⊎ (D i → ⊥) → Is js Nothing (open_gift p i >> refs.resolve N n (Ref y)) nothing
    opens_own on p i y n e so = fine_then N (M js) {C = Nothing} {H = nothing} nothing (opens_gift Nothing p i) (resolves_so on n y (host_named i n e) (so_named i n y e so))

    opens_or : heed ≡ true → (s : Vat Name) (p i : ℕ) (y : Name) (o : Option (GiftEntry Name)) → gift_at p i s.gifts ≡ o → IsObjectName y ⊎ (D i → ⊥) → Kept js s → At js nothing s ((arrive.gift_or_new N s.number p i o >>= (λ n. open_gift p i >> refs.resolve N n (Ref y))) s)
    unfolding arrive.gift_or_new ◌>>=◌ ◌>>◌ and_then come new_gift give
    opens_or on s p i y (Some g) e so k = (opens_own on p i y g.name (found_named p i s.gifts g k.1.gifts e) so).after s k tt
    opens_or on s p i y None e so k = let n : Name = N.made (IsGift s.number i) (length s.known) in let t : Vat Name = record s { known = s.known ++ begun n s.number ∷ []; gifts = s.gifts ++ record { name = n; provider = p; number = i; opened = false } ∷ [] } in
        widen N (M js) nothing s t _ (grows_same s.things s.lists) ((opens_own on p i y n (gift_named s i (length s.known) k.1.number) so).after t (new_gift_holds s p i k) tt)

    opens_at : heed ≡ true → (s : Vat Name) (p i : ℕ) (y : Name) → IsObjectName y ⊎ (D i → ⊥) → Kept js s → At js nothing s ((arrive.have_gift N p i >>= (λ n. open_gift p i >> refs.resolve N n (Ref y))) s)
    unfolding arrive.have_gift ◌>>=◌ look and_then
    opens_at on s p i y so k = opens_or on s p i y (gift_at p i s.gifts) refl so k

    pub opened : heed ≡ true → (s : Vat Name) (from i : ℕ) (x : Incoming Name Name) → IsToldWell hs x → IsObjectName (told_name x) ⊎ (D i → ⊥) → Kept js s → At js nothing s (arrive.arrive_open N from i x s)
    unfolding arrive.arrive_open arrive.learn_name ◌>>=◌ give come and_then naming name_of
    opened on s from i (Old n) t so k = opens_at on s from i n so k
    opened on s from i (New x h) t so k = let u : Vat Name = record s { known = s.known ++ begun x h ∷ [] } in
        widen N (M js) nothing s u _ (grows_same s.things s.lists) (opens_at on u from i x so (begun_holds word v heed D Seen js s x h k (spared s h k t.0) t.1))

  gives_view : (s : Vat Name) (d : Done Name (Unit {0})) → At [] nothing s d → AtView word v heed Seen D D d
  gives_view s d h = ends_view word v heed Seen D D s d (λ t k. k) h

  -- ---- a name that a note settles

  list_name : (k : ℕ) (m : Name) → Items k ≡ Ref m → ⊥
  list_name k m e = cc

  noticed_mark : (s : Vat Name) → Kept [] s → Kept (Noticed (heeds word v heed D Seen s) ∷ []) s
  noticed_mark s k = (k.0, k.1, k.2, (refl, tt))

  unnoticed : (s : Vat Name) (hs : List ℕ) (d : Done Name (Unit {0})) → At (Noticed hs ∷ []) nothing s d → At [] nothing s d
  unnoticed s hs d h = drop word v heed D Seen (Noticed hs) [] nothing s d h

  module _ (on : heed ≡ true) (hs : List ℕ) (n : Name) (apart : IsView D n → ⊥) where
    abbrev ms : List Mark
    ms = Noticed hs ∷ Unviewed n ∷ []

    settles : (C : Fact Name) (z : Value Name) → Gets N C (IsValue z) → NoPromise z → (s : Vat Name) → Kept ms s → Knows N s.things s.lists C → At ms nothing s (refs.settle N n z s)
    settles C z g not s k c = good_settle word v heed D Seen ms C n z g not (λ i f. on) s k c (λ i e. (k.3.1.0, apart))

    list_holds : (s : Vat Name) (vs : List (Value Name)) → Kept ms s → AreThere s.lists vs → At ms IsValue s (arrive.make_list N vs s)
    list_holds s vs k there = (makes_list hs (Unviewed n ∷ []) {C = AreValues vs} vs (record { at = λ ts js h. h })).after s k there

    made_then : (t : Vat Name) (vs : List (Value Name)) → At ms IsValue t (arrive.make_list N vs t) → At ms nothing t (and_then (arrive.make_list N vs t) (λ z. refs.settle N n z))
    unfolding arrive.make_list ◌>>=◌ ◌>>◌ new_list tell give and_then
    made_then t vs h = let z : Value Name = Items (length t.lists) in let u : Vat Name = record t { lists = t.lists ++ vs ∷ []; happened = t.happened ++ ListCame (length t.lists) vs ∷ [] } in
        widen N (M ms) nothing t u _ h.0 (settles (IsValue z) z (got_itself N (IsValue z)) (λ m e i. list_name (length t.lists) m e) u h.1 h.2)

    many_then : (s : Vat Name) (d : Done Name (List (Value Name))) → At ms AreValues s d → At ms nothing s (and_then (and_then d (λ vs. arrive.make_list N vs)) (λ z. refs.settle N n z))
    unfolding and_then
    many_then s (Gives vs t) h = widen N (M ms) nothing s t _ h.0 (made_then t vs (list_holds t vs h.1 h.2))
    many_then s other h = h

    -- it settles to the list that was learnt
    settles_many : (from : ℕ) (ys : Passeds (Incoming Name Name)) → AllPass ys → ToldPasseds hs ys → (s : Vat Name) → Kept ms s → At ms nothing s ((arrive.learn N from (Many ys) >>= (λ z. refs.settle N n z)) s)
    unfolding ◌>>=◌ arrive.learn and_then
    settles_many from ys q t s k = many_then s (arrive.learn_all N from ys s) ((learns_all hs (Unviewed n ∷ []) Nothing from ys q t).after s k tt)

  settles_plain : heed ≡ true → (n : Name) (s : Vat Name) (z : Value Name) → Kept [] s → Gets N Nothing (IsValue z) → NoPromise z → ((c : ℕ) → z ≡ Items c → ⊥) → At [] nothing s (refs.settle N n z s)
  settles_plain on n s z k g not plain = good_settle word v heed D Seen [] Nothing n z g not (λ i f. on) s k tt (λ i e. absurd (plain i e))

  settles_to : heed ≡ true → (n : Name) (from : ℕ) (y : Passed (Incoming Name Name)) → (s : Vat Name) → Passes y → ToldPassed (heeds word v heed D Seen s) y → SettlesWell y → IfMany y ((Seen n → ⊥) × (IsView D n → ⊥)) → Kept [] s → At [] nothing s ((arrive.learn N from y >>= (λ z. refs.settle N n z)) s)
  unfolding ◌>>=◌ arrive.learn arrive.learn_value arrive.learn_name give and_then
  settles_to on n from (Plain Null) s q t w many k = settles_plain on n s Null k (record { at = λ ts js h. tt }) (λ m e i. cc) (λ c e. cc)
  settles_to on n from (Plain (Flag b)) s q t w many k = settles_plain on n s (Flag b) k (record { at = λ ts js h. tt }) (λ m e i. cc) (λ c e. cc)
  settles_to on n from (Plain (Number z)) s q t w many k = settles_plain on n s (Number z) k (record { at = λ ts js h. tt }) (λ m e i. cc) (λ c e. cc)
  settles_to on n from (Plain (Letter c)) s q t w many k = settles_plain on n s (Letter c) k (record { at = λ ts js h. tt }) (λ m e i. cc) (λ c e. cc)
  settles_to on n from (Plain (Text x)) s q t w many k = settles_plain on n s (Text x) k (record { at = λ ts js h. tt }) (λ m e i. cc) (λ c e. cc)
  settles_to on n from (Plain (Prim i)) s q t w many k = settles_plain on n s (Prim i) k (record { at = λ ts js h. tt }) (λ m e i. cc) (λ c e. cc)
  settles_to on n from (Plain (Broken x)) s q t w many k = settles_plain on n s (Broken x) k (record { at = λ ts js h. tt }) (λ m e i. cc) (λ c e. cc)
  settles_to on n from (Plain (Items i)) s q t w many k = absurd q
  settles_to on n from (Plain (Ref (Old m))) s q t w many k = settles_plain on n s (Ref m) k (got_ref N Nothing m) (λ i e j. w (subst IsEventual (sym (name_same m i e)) j)) (λ c e. cc)
  settles_to on n from (Many ys) s q t w many k = let hs : List ℕ = heeds word v heed D Seen s in
      drop word v heed D Seen (Unviewed n) [] nothing s _ (drop word v heed D Seen (Noticed hs) (Unviewed n ∷ []) nothing s _ (settles_many on hs n many.1 from ys q t s (k.0, k.1, k.2, (refl, (λ g e. many.0 (k.1.names.seen n g e), tt)))))
  settles_to on n from other s q t w many k = absurd w

  settled : heed ≡ true → (s : Vat Name) (from : ℕ) (x : Incoming Name Name) (y : Passed (Incoming Name Name)) → IsToldWell (heeds word v heed D Seen s) x → Passes y → ToldPassed (heeds word v heed D Seen s) y → SettlesWell y → IfMany y ((Seen (told_name x) → ⊥) × (IsView D (told_name x) → ⊥)) → Kept [] s → At [] nothing s (arrive.arrive_settled N from x y s)
  unfolding arrive.arrive_settled arrive.learn_name ◌>>=◌ give come and_then naming name_of
  settled on s from (Old n) y t q u w many k = settles_to on n from y s q u w many k
  settled on s from (New x h) y t q u w many k = let r : Vat Name = record s { known = s.known ++ begun x h ∷ [] } in
      widen N (M []) nothing s r _ (grows_same s.things s.lists) (settles_to on x from y r q u w many (begun_holds word v heed D Seen [] s x h k t.0 t.1))

  -- ---- a note

  -- where a note may settle a name to a list, what was noticed is heeded
  arrives : (from : ℕ) (n : Note (Incoming Name Name)) (s : Vat Name) → IsHeeded heed n → NoteBehind N v D Seen from (heeds word v heed D Seen s) s n → NotePasses n → s.outbox ≡ [] → Kept [] s → AtView word v heed Seen D (λ i. DrawsAfter word D s n i) (arrive.arrive N from n s)
  unfolding arrive.arrive
  arrives from (Deliver m x verb ys) s on b q e k = gives_view s _ (unnoticed s (heeds word v heed D Seen s) _ ((delivers (heeds word v heed D Seen s) [] from m x verb ys b.0 b.1 q b.2).after s (noticed_mark s k) tt))
  arrives from (Open i x) s on b q e k = gives_view s _ (unnoticed s (heeds word v heed D Seen s) _ (opened (heeds word v heed D Seen s) [] on s from i x b.0 b.1 (noticed_mark s k)))
  arrives from (Ask p i x) s on b q e k = gives_view s _ (unnoticed s (heeds word v heed D Seen s) _ ((asked (heeds word v heed D Seen s) [] from p i).after s (noticed_mark s k) tt))
  arrives from (SettledTo x y) s on b q e k = gives_view s _ (settled on s from x y b.0 q b.1 b.2 b.3 k)
  arrives from (Elsewhere x c) s on b q e k = elsewhere word v heed Seen D s c x b.0 b.1 b.2 b.3 b.4 e k
  arrives from (Shorten x c i) s on b q e k = gives_view s _ (unnoticed s (heeds word v heed D Seen s) _ ((shortened (heeds word v heed D Seen s) [] x i b).after s (noticed_mark s k) tt))

  ends_after : (s : Vat Name) (E : ℕ → Type 0) (d : Done Name (Unit {0})) → AtView word v heed Seen D E d → ArrivedSo word v D E Seen heed d
  ends_after s E (Gives a t) h = (h.0, h.1, h.2)
  ends_after s E other h = (h.0, h.1, h.2)

pub arrivals_keep : (D : ℕ → Type 0) (Seen : Name → Type 0) → ArrivalsKeep D Seen
unfolding does
arrivals_keep D Seen word v from n heed s on behind sound passes empty tells r = ends_after word v heed D Seen s (λ i. DrawsAfter word D s n i) _ (arrives word v heed D Seen from n s on behind passes empty (sound, r, tells, tt))

pub arrivals_close_no_ring : ArrivalsCloseNoRing
arrivals_close_no_ring D Seen = arrivals_keep (λ i. D i ≡ true) (λ n. Seen n ≡ true)
