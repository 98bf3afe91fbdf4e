-- What arrives and what is noticed: each settling, wait and view has its cause.
use Rattle.std.proofs.Common.{◌≡◌, ℕ, Bool, true, false, List, [], ◌∷◌, Option, Some, None, if◌then◌else◌, ◌==◌, refl, sym, ◌∙◌, subst, length, ◌⊎◌, inl, inr}
use Rattle.std.specs.Prelude.{codes}
use Rattle.std.proofs.lemmas.Bool.{eqb-true}
use Rattle.def_machine.specs.Values.{Words, Value, Null, Flag, Number, Letter, Text, Prim, Broken, Items, Ref, Naming, IsAnswer, IsGift, IsLearnt, IsCarried, under}
use Rattle.def_machine.specs.State.{Standing, Viewed, Settled, Known, Wait, See, ToTell, Passed, Passeds, Plain, AGift, Many, NoMore, More, Note, Delivery, Deliver, Open, Ask, SettledTo, Elsewhere, Shorten, GiftEntry, Happened, Views, Vat, ◌>>=◌, ◌>>◌, and_then, give, look, tell, each, draw, new_gift, is_gift, open_gift, mark, send_out, alter, come, mail, is_in}
use Rattle.def_machine.specs.Refs as refs
use Rattle.def_machine.specs.Refs.{Place, Away, standing_of, host_at}
use Rattle.def_machine.specs.Arrive as arrive
use Rattle.def_machine.specs.Arrive.{Incoming, Old, New, gift_at, opened_in}
use Rattle.law_machine.specs.Machine.Steps.{Receives, Notices}
use Rattle.law_uses.specs.Connectivity.Known.{IsAmong, AllOf, Start, itself}
use Rattle.law_uses.specs.Connectivity.Settlings.{InValue, InPassed, InPasseds, InNote, IsNew, IsNamed, IsMessage, IsValue, IsLearntAs, AreLearntAs, IsGiftOf, Says, HasAnswer, came, IsNoticed, IsOf, hosts, learns, provides, tells as told_at, said, SettlesWell, ViewsBy}
use Rattle.law_uses.proofs.Connectivity.Causes.{Causes, Ends, Any, Further, up, no_further, ends_then, ends_more, GiftTold, learnt_more, steady_give, steady_out, steady_draw, steady_mail, steady_open, steady_to_tell, comes, waits, new_gift_well, marks, views_now, lists_come}
use Rattle.law_uses.proofs.Connectivity.RefsCauses.{settles_well, resolves_well, sends_arrived, steady_inform}

module _ {N W : Type 0} (K : Naming N W) (E : Start N W) where
  -- ---- learning

  names : (x : Incoming N W) → InNote K E x E.step → (s : Vat N) → Causes K E s → Ends K E s (λ n t. IsNamed K E x n) (arrive.learn_name K x s)
  unfolding arrive.learn_name give
  names (Old n) i s c = (no_further K E s.happened, c, refl)
  names (New x h) i s c = comes K E (IsLearnt x) h i s c

  messages : (x : Incoming N W) (s : Vat N) → Causes K E s → Ends K E s (λ n t. IsMessage K E x n) (arrive.learn_message K x s)
  unfolding arrive.learn_message give mail
  messages (Old n) s c = (no_further K E s.happened, c, refl)
  messages (New x h) s c = let m = (steady_mail K E (IsCarried x)).after s c in (m.0, m.1, (length s.mails, c.mails, refl))

  gives_itself : {A : Type 0} (a : A) (Q : A → Vat N → Type 0) (s : Vat N) → Causes K E s → Q a s → Ends K E s Q (give a s)
  unfolding give
  gives_itself a Q s c q = (no_further K E s.happened, c, q)

  values : (y : Value (Incoming N W)) → ((x : Incoming N W) → InValue K E x y → InNote K E x E.step) → (s : Vat N) → Causes K E s → Ends K E s (λ v t. IsValue K E y v) (arrive.learn_value K y s)
  unfolding arrive.learn_value ◌>>=◌
  values Null f s c = gives_itself Null (λ v t. v ≡ Null) s c refl
  values (Flag b) f s c = gives_itself (Flag b) (λ v t. v ≡ Flag b) s c refl
  values (Number z) f s c = gives_itself (Number z) (λ v t. v ≡ Number z) s c refl
  values (Letter l) f s c = gives_itself (Letter l) (λ v t. v ≡ Letter l) s c refl
  values (Text t) f s c = gives_itself (Text t) (λ v u. v ≡ Text t) s c refl
  values (Prim i) f s c = gives_itself (Prim i) (λ v t. v ≡ Prim i) s c refl
  values (Broken p) f s c = gives_itself (Broken p) (λ v t. v ≡ Broken p) s c refl
  values (Items k) f s c = gives_itself (Items k) (λ v t. v ≡ Items k) s c refl
  values (Ref x) f s c = ends_then K E s (arrive.learn_name K x s) _ (λ n t. IsNamed K E x n) _ (names x (f x refl) s c) (λ n t l d i. gives_itself (Ref n) (λ v u. (m : N) × (v ≡ Ref m) × IsNamed K E x m) t d (n, refl, i))

  asks_for : (p h i : ℕ) (n : N) → IsNew K E (IsGift h i) n → (s : Vat N) → Causes K E s → Ends K E s (Any K E) (arrive.ask_for K p h i n s)
  unfolding arrive.ask_for ◌>>=◌ look and_then
  asks_for p h i n e s c = either (is_in h s.noticed) refl
    where
      either : (b : Bool) → is_in h s.noticed ≡ b → Ends K E s (Any K E) ((if b then refs.settle K n (Broken (codes "partition")) else send_out h (Ask p i n)) s)
      either true f = settles_well K E n (Broken (codes "partition")) s c (inr (h, c.noticed h f, learns i e, refl))
      either false f = (steady_out K E h (Ask p i n)).after s c

  gifts : (p h i : ℕ) (s : Vat N) → Causes K E s → Ends K E s (λ v t. (n : N) × (v ≡ Ref n) × IsNew K E (IsGift h i) n) (arrive.learn_gift K p h i s)
  unfolding arrive.learn_gift ◌>>=◌ ◌>>◌
  gifts p h i s c = ends_then K E s (come K (IsGift h i) h s) _ (λ n t. IsNew K E (IsGift h i) n) _ (comes K E (IsGift h i) h refl s c) (λ n t f d k.
      ends_then K E t (arrive.ask_for K p h i n t) _ (Any K E) _ (asks_for p h i n k t d) (λ a u g e q.
      gives_itself (Ref n) (λ v w. (m : N) × (v ≡ Ref m) × IsNew K E (IsGift h i) m) u e (n, refl, k)))

  learnt_lasts : (y : Passed (Incoming N W)) (v : Value N) (s t : Vat N) → Further K E s t → IsLearntAs K E s.happened y v → IsLearntAs K E t.happened y v
  learnt_lasts y v s t l h = up K E (λ so. IsLearntAs K E so y v) (λ so more k. learnt_more K E so more y v k) s t l h

  mutual
    unfolding arrive.learn arrive.learn_all ◌>>=◌

    learns_as : (p : ℕ) (y : Passed (Incoming N W)) → ((x : Incoming N W) → InPassed K E x y → InNote K E x E.step) → (s : Vat N) → Causes K E s → Ends K E s (λ v t. IsLearntAs K E t.happened y v) (arrive.learn K p y s)
    learns_as p (Plain y) q s c = values y q s c
    learns_as p (AGift h i) q s c = gifts p h i s c
    learns_as p (Many ys) q s c = ends_then K E s (arrive.learn_all K p ys s) _ (λ vs t. AreLearntAs K E t.happened ys vs) _ (learn_all_as p ys q s c) (λ vs t f d h.
        ends_more K E t (arrive.make_list K vs t) _ (λ v u. IsLearntAs K E u.happened (Many ys) v) (lists_come K E vs t d) (λ v u g k. (k.0, vs, k.1, k.2, all_last ys vs t u g h)))

    learn_all_as : (p : ℕ) (ys : Passeds (Incoming N W)) → ((x : Incoming N W) → InPasseds K E x ys → InNote K E x E.step) → (s : Vat N) → Causes K E s → Ends K E s (λ vs t. AreLearntAs K E t.happened ys vs) (arrive.learn_all K p ys s)
    learn_all_as p NoMore q s c = gives_itself [] (λ vs t. AreLearntAs K E t.happened NoMore vs) s c tt
    learn_all_as p (More y ys) q s c = ends_then K E s (arrive.learn K p y s) _ (λ v t. IsLearntAs K E t.happened y v) _ (learns_as p y (λ x i. q x (inl i)) s c) (λ v t f d h.
        ends_then K E t (arrive.learn_all K p ys t) _ (λ vs u. AreLearntAs K E u.happened ys vs) _ (learn_all_as p ys (λ x j. q x (inr j)) t d) (λ vs u g e i.
        gives_itself (v ∷ vs) (λ ws w. AreLearntAs K E w.happened (More y ys) ws) u e (learnt_lasts y v t u g h, i)))

    all_last : (ys : Passeds (Incoming N W)) (vs : List (Value N)) (s t : Vat N) → Further K E s t → AreLearntAs K E s.happened ys vs → AreLearntAs K E t.happened ys vs
    all_last NoMore [] s t l h = tt
    all_last (More y ys) (v ∷ vs) s t l h = (learnt_lasts y v s t l h.0, all_last ys vs s t l h.1)
    all_last NoMore (v ∷ vs) s t l h = absurd h
    all_last (More y ys) [] s t l h = absurd h

  -- ---- gifts at their host

  gift_found : (p i : ℕ) (gs : List (GiftEntry N)) → AllOf (GiftTold K E) gs → (g : GiftEntry N) → gift_at p i gs ≡ Some g → IsGiftOf K E p i g.name
  unfolding gift_at is_gift
  gift_found p i [] h g e = cc
  gift_found p i (x ∷ gs) h g e = either (is_gift p i x) refl e (λ f. gift_found p i gs h.1 g f)
    where
      is_it : (b : Bool) → (x.provider == p) ≡ b → elim b [ true ↦ x.number == i | false ↦ false ] ≡ true → (x.provider ≡ p) × (x.number ≡ i)
      is_it true f k = (eqb-true x.provider p f, eqb-true x.number i k)
      is_it false f k = cc

      found : is_gift p i x ≡ true → IsGiftOf K E p i x.name
      found f = let q = is_it (x.provider == p) refl f in subst (λ n. IsGiftOf K E n i x.name) q.0 (subst (λ n. IsGiftOf K E x.provider n x.name) q.1 h.0)

      either : (b : Bool) → is_gift p i x ≡ b → elim b [ true ↦ Some x | false ↦ gift_at p i gs ] ≡ Some g → (gift_at p i gs ≡ Some g → IsGiftOf K E p i g.name) → IsGiftOf K E p i g.name
      either true f k r = let n : x ≡ g = cc in subst (λ z. IsGiftOf K E p i z.name) n (found f)
      either false f k r = r k

  gift_here : (v p i : ℕ) (o : Option (GiftEntry N)) (s : Vat N) → v ≡ E.vat.number → ((g : GiftEntry N) → o ≡ Some g → IsGiftOf K E p i g.name) → Causes K E s → Ends K E s (λ n t. IsGiftOf K E p i n) (arrive.gift_or_new K v p i o s)
  unfolding arrive.gift_or_new ◌>>=◌ ◌>>◌
  gift_here v p i (Some g) s e h c = gives_itself g.name (λ n t. IsGiftOf K E p i n) s c (h g refl)
  gift_here v p i None s e h c = ends_then K E s (come K (IsGift v i) v s) _ (λ n t. IsNew K E (IsGift v i) n) _ (comes K E (IsGift v i) v refl s c) (λ n t f d k.
      let is : IsGiftOf K E p i n = inr (subst (λ u. IsNew K E (IsGift u i) n) e k) in
      ends_then K E t (new_gift n p i t) _ (Any K E) _ (new_gift_well K E n p i t d is) (λ a u g j q. gives_itself n (λ m w. IsGiftOf K E p i m) u j is))

  gift_had : (p i : ℕ) (s : Vat N) → Causes K E s → Ends K E s (λ n t. IsGiftOf K E p i n) (arrive.have_gift K p i s)
  unfolding arrive.have_gift ◌>>=◌ look and_then
  gift_had p i s c = gift_here s.number p i (gift_at p i s.gifts) s c.number (λ g e. gift_found p i s.gifts c.gifts g e) c

  breaks_at : (n : N) (p : Words) (x : Standing N) (s : Vat N) → Causes K E s → SettlesWell K E s.happened n (Broken p) → Ends K E s (Any K E) (arrive.break_at K n p x s)
  unfolding arrive.break_at
  breaks_at n p (Settled y) s c w = (steady_give K E tt).after s c
  breaks_at n p other s c w = settles_well K E n (Broken p) s c w

  breaks_unopened : (n : N) (b : Bool) (s : Vat N) → Causes K E s → (w : ℕ) → IsNoticed K E w → IsOf K E w n → Ends K E s (Any K E) (arrive.break_unopened K n b s)
  unfolding arrive.break_unopened ◌>>=◌ look and_then
  breaks_unopened n true s c w i o = (steady_give K E tt).after s c
  breaks_unopened n false s c w i o = breaks_at n (codes "partition") (standing_of K s.known n) s c (inr (w, i, o, refl))

  tells_asker : (n : N) (w : ℕ) (x : Standing N) (s : Vat N) → Causes K E s → Ends K E s (Any K E) (arrive.tell_asker K n w x s)
  unfolding arrive.tell_asker
  tells_asker n w (Settled y) s c = (steady_inform K E n w).after s c
  tells_asker n w other s c = (steady_to_tell K E w n).after s c

  -- ---- arrival

  some_is : (p q : N) → Some p ≡ Some q → p ≡ q
  some_is p q e = cc

  module _ (from : ℕ) (d : Delivery (Incoming N W)) (x : Incoming N W) (verb : Words) (ys : Passeds (Incoming N W)) (is : E.step ≡ Receives from (Deliver d x verb ys)) where
    sends_asked : (id n : N) (args : List (Value N)) (s : Vat N) → Causes K E s → IsMessage K E d.message id → IsNamed K E x n → Ends K E s (Any K E) (arrive.send_on_asked K from id n verb args s)
    unfolding arrive.send_on_asked ◌>>=◌ ◌>>◌ look and_then
    sends_asked id n args s c i j = ends_then K E s (come K (IsAnswer s.number id) s.number s) _ (λ a t. IsNew K E (IsAnswer s.number id) a) _ (comes K E (IsAnswer s.number id) s.number refl s c) (λ a t f e k.
        ends_then K E t (alter K (ToTell from) a t) _ (Any K E) _ ((steady_to_tell K E from a).after t e) (λ b u g h q.
        sends_arrived K E (record { id = id; target = Ref n; verb = verb; args = args; answer = Some a }) u h (λ p z. (Ref n, answered u.happened a k p z, inl itself))))
      where
        answered : (so : List (Happened N)) (a : N) → IsNew K E (IsAnswer s.number id) a → (p : N) → Some a ≡ Some p → HasAnswer K E so id p (Ref n)
        answered so a k p z = came from d x verb ys id n is i j (subst (λ m. IsNew K E (IsAnswer E.vat.number id) m) (some_is a p z) (subst (λ v. IsNew K E (IsAnswer v id) a) c.number k))

    delivers_well : (s : Vat N) → Causes K E s → Ends K E s (Any K E) (arrive.arrive_deliver K from d x verb ys s)
    unfolding arrive.arrive_deliver ◌>>=◌
    delivers_well s c = ends_then K E s (arrive.learn_message K d.message s) _ (λ id t. IsMessage K E d.message id) _ (messages d.message s c) (λ id t f e i.
        ends_then K E t (arrive.learn_all K from ys t) _ (λ vs u. AreLearntAs K E u.happened ys vs) _ (learn_all_as from ys (λ z k. subst (λ w. InNote K E z w) (sym is) (inr k)) t e) (λ vs u g h q.
        ends_then K E u (arrive.learn_name K x u) _ (λ n v. IsNamed K E x n) _ (names x (subst (λ w. InNote K E x w) (sym is) (inl refl)) u h) (λ n v l j o. either id n vs v j i o d.asks)))
      where
        no_answer : (p : N) → None ≡ Some p → ⊥
        no_answer p e = cc

        either : (id n : N) (vs : List (Value N)) (v : Vat N) → Causes K E v → IsMessage K E d.message id → IsNamed K E x n → (b : Bool)
            → Ends K E v (Any K E) ((if b then arrive.send_on_asked K from id n verb vs else refs.send_on K (refs.settle K) (record { id = id; target = Ref n; verb = verb; args = vs; answer = None })) v)
        either id n vs v j i o true = sends_asked id n vs v j i o
        either id n vs v j i o false = sends_arrived K E (record { id = id; target = Ref n; verb = verb; args = vs; answer = None }) v j (λ p e. absurd (no_answer p e))

  opens_well : (from i : ℕ) (x : Incoming N W) → E.step ≡ Receives from (Open i x) → (s : Vat N) → Causes K E s → Ends K E s (Any K E) (arrive.arrive_open K from i x s)
  unfolding arrive.arrive_open ◌>>=◌ ◌>>◌
  opens_well from i x is s c = ends_then K E s (arrive.learn_name K x s) _ (λ y t. IsNamed K E x y) _ (names x (subst (λ w. InNote K E x w) (sym is) refl) s c) (λ y t f d h.
      ends_then K E t (arrive.have_gift K from i t) _ (λ n u. IsGiftOf K E from i n) _ (gift_had from i t d) (λ n u g e j.
      ends_then K E u (open_gift from i u) _ (Any K E) _ ((steady_open K E from i).after u e) (λ a v l k q.
      resolves_well K E n (Ref y) v k (said (subst (λ z. Says K E v.happened z n (Ref y)) (sym is) (y, j, refl, h))))))

  breaks_orphan : (p i : ℕ) (n : N) (s : Vat N) → Causes K E s → IsGiftOf K E p i n → Ends K E s (Any K E) (arrive.break_orphan K p i n s)
  unfolding arrive.break_orphan ◌>>=◌ look and_then
  breaks_orphan p i n s c g = either (is_in p s.noticed) refl
    where
      either : (b : Bool) → is_in p s.noticed ≡ b → Ends K E s (Any K E) ((if b then arrive.break_unopened K n (opened_in (gift_at p i s.gifts)) else give tt) s)
      either true e = breaks_unopened n (opened_in (gift_at p i s.gifts)) s c p (c.noticed p e) (provides i g)
      either false e = (steady_give K E tt).after s c

  asks_well : (from p i : ℕ) (s : Vat N) → Causes K E s → Ends K E s (Any K E) (arrive.arrive_ask K from p i s)
  unfolding arrive.arrive_ask ◌>>=◌ ◌>>◌ look and_then
  asks_well from p i s c = ends_then K E s (arrive.have_gift K p i s) (λ n. arrive.break_orphan K p i n >> (look (λ s. standing_of K s.known n) >>= (λ t. arrive.tell_asker K n from t))) (λ n t. IsGiftOf K E p i n) (Any K E) (gift_had p i s c) (λ n t f d g.
      ends_then K E t (arrive.break_orphan K p i n t) (λ a. look (λ s. standing_of K s.known n) >>= (λ t. arrive.tell_asker K n from t)) (Any K E) (Any K E) (breaks_orphan p i n t d g) (λ a u h e q. tells_asker n from (standing_of K u.known n) u e))

  settled_well : (from : ℕ) (x : Incoming N W) (y : Passed (Incoming N W)) → E.step ≡ Receives from (SettledTo x y) → (s : Vat N) → Causes K E s → Ends K E s (Any K E) (arrive.arrive_settled K from x y s)
  unfolding arrive.arrive_settled ◌>>=◌
  settled_well from x y is s c = ends_then K E s (arrive.learn_name K x s) _ (λ n t. IsNamed K E x n) _ (names x (subst (λ w. InNote K E x w) (sym is) (inl refl)) s c) (λ n t f d h.
      ends_then K E t (arrive.learn K from y t) _ (λ v u. IsLearntAs K E u.happened y v) _ (learns_as from y (λ z k. subst (λ w. InNote K E z w) (sym is) (inr k)) t d) (λ v u g e j.
      settles_well K E n v u e (inl (v, said (subst (λ z. Says K E u.happened z n v) (sym is) (h, j)), inl (inl itself)))))

  module _ (from : ℕ) (x : Incoming N W) (c : ℕ) (is : E.step ≡ Receives from (Elsewhere x c)) where
    -- the gift there
    abbrev IsThere : ℕ → ℕ → N → Type 0
    IsThere h i g = IsNew K E (IsGift c i) g ⊎ ((c ≡ E.vat.number) × IsGiftOf K E h i g)

    gift_there : (v h i : ℕ) (s : Vat N) → v ≡ E.vat.number → Causes K E s → Ends K E s (λ g t. IsThere h i g) (arrive.gift_there K v h c i s)
    unfolding arrive.gift_there ◌>>=◌ ◌>>◌
    gift_there v h i s e d = either (c == v) refl
      where
        either : (b : Bool) → (c == v) ≡ b → Ends K E s (λ g t. IsThere h i g) ((if b then arrive.have_gift K h i else (come K (IsGift c i) c >>= (λ g. send_out c (Ask h i g) >> give g))) s)
        either true f = ends_more K E s (arrive.have_gift K h i s) (λ g t. IsGiftOf K E h i g) (λ g t. IsThere h i g) (gift_had h i s d) (λ g t l j. inr (eqb-true c v f ∙ e, j))
        either false f = ends_then K E s (come K (IsGift c i) c s) _ (λ g t. IsNew K E (IsGift c i) g) _ (comes K E (IsGift c i) c refl s d) (λ g t l a k.
            ends_then K E t (send_out c (Ask h i g) t) _ (Any K E) _ ((steady_out K E c (Ask h i g)).after t a) (λ b u j z q. gives_itself g (λ m w. IsThere h i m) u z (inl k)))

    viewed_by : (n g : N) (h i : ℕ) → IsNamed K E x n → IsThere h (under h i) g → ViewsBy K E E.step n g
    viewed_by n g h i j (inl k) = subst (λ z. ViewsBy K E z n g) (sym is) (h, i, j, inl k)
    viewed_by n g h i j (inr k) = subst (λ z. ViewsBy K E z n g) (sym is) (h, i, j, inr k)

    sees : (n g : N) (h i : ℕ) (s : Vat N) → Causes K E s → IsNamed K E x n → IsThere h (under h i) g → Ends K E s (Any K E) (arrive.see K n g s)
    unfolding arrive.see ◌>>◌ and_then tell alter
    sees n g h i s d j k = ends_then K E s ((tell (Views n g) >> alter K (See g) n) s) (λ a. alter K (Wait n) g) (λ a t. IsAmong (Views n g) t.happened) (Any K E) (views_now K E n g s d (viewed_by n g h i j k)) (λ a t f e l. waits K E n g t e (inr l))

    views_there : (n : N) (s : Vat N) → Causes K E s → IsNamed K E x n → Ends K E s (Any K E) (arrive.view_there K n c s)
    unfolding arrive.view_there ◌>>=◌ ◌>>◌ look and_then
    views_there n s d j = let h : ℕ = host_at K s.number s.known n in ends_then K E s (draw K s) _ (Any K E) _ ((steady_draw K E).after s d) (λ i t f e q.
        ends_then K E t (send_out h (Shorten n c (under h i)) t) _ (Any K E) _ ((steady_out K E h _).after t e) (λ a u g b q.
        ends_then K E u (arrive.gift_there K s.number h c (under h i) u) _ (λ y v. IsThere h (under h i) y) _ (gift_there s.number h (under h i) u d.number b) (λ y v l z k. sees n y h i v z j k)))

    elsewhere_well : (s : Vat N) → Causes K E s → Ends K E s (Any K E) (arrive.arrive_elsewhere K x c s)
    unfolding arrive.arrive_elsewhere ◌>>=◌ look and_then
    elsewhere_well s d = ends_then K E s (arrive.learn_name K x s) _ (λ n t. IsNamed K E x n) _ (names x (subst (λ w. InNote K E x w) (sym is) refl) s d) (λ n t f e j. either n t e j (is_in c t.noticed) refl)
      where
        either : (n : N) (t : Vat N) → Causes K E t → IsNamed K E x n → (b : Bool) → is_in c t.noticed ≡ b → Ends K E t (Any K E) ((if b then refs.settle K n (Broken (codes "partition")) else arrive.view_there K n c) t)
        either n t e j true i = settles_well K E n (Broken (codes "partition")) t e (inr (c, e.noticed c i, told_at from x is j, refl))
        either n t e j false i = views_there n t e j

  shortens_to : (i : ℕ) (p : Place N) (s : Vat N) → Causes K E s → Ends K E s (Any K E) (arrive.shorten_to K i p s)
  unfolding arrive.shorten_to
  shortens_to i (Away h n true) s c = (steady_out K E h (Open i n)).after s c
  shortens_to i other s c = (steady_give K E tt).after s c

  shortens_well : (x : Incoming N W) (i : ℕ) → InNote K E x E.step → (s : Vat N) → Causes K E s → Ends K E s (Any K E) (arrive.arrive_shorten K x i s)
  unfolding arrive.arrive_shorten ◌>>=◌ look and_then
  shortens_well x i q s c = ends_then K E s (arrive.learn_name K x s) _ (λ n t. IsNamed K E x n) _ (names x q s c) (λ n t f d j. shortens_to i (refs.place K t (refs.follow K t (Ref n))) t d)

  pub arrives_well : (from : ℕ) (n : Note (Incoming N W)) → E.step ≡ Receives from n → (s : Vat N) → Causes K E s → Ends K E s (Any K E) (arrive.arrive K from n s)
  unfolding arrive.arrive
  arrives_well from (Deliver d x verb ys) is s c = delivers_well from d x verb ys is s c
  arrives_well from (Open i x) is s c = opens_well from i x is s c
  arrives_well from (Ask p i x) is s c = asks_well from p i s c
  arrives_well from (SettledTo x y) is s c = settled_well from x y is s c
  arrives_well from (Elsewhere x w) is s c = elsewhere_well from x w is s c
  arrives_well from (Shorten x w i) is s c = shortens_well x i (subst (λ z. InNote K E x z) (sym is) refl) s c

  -- ---- notice

  module _ (w : ℕ) (is : E.step ≡ Notices w) where
    breaks_hosted : (n : N) (x : Standing N) (s : Vat N) → Causes K E s → IsOf K E w n → Ends K E s (Any K E) (arrive.break_hosted K w n (codes "partition") x s)
    unfolding arrive.break_hosted
    breaks_hosted n (Viewed q) s c o = (steady_give K E tt).after s c
    breaks_hosted n (Settled y) s c o = (steady_give K E tt).after s c
    breaks_hosted n other s c o = settles_well K E n (Broken (codes "partition")) s c (inr (w, inr is, o, refl))

    notices_name : (k : Known N) (s : Vat N) → Causes K E s → IsAmong k E.vat.known → Ends K E s (Any K E) (arrive.notice_name K w k s)
    unfolding arrive.notice_name ◌>>=◌ look and_then
    notices_name k s c m = either (k.host == w) refl
      where
        either : (b : Bool) → (k.host == w) ≡ b → Ends K E s (Any K E) ((if b then arrive.break_hosted K w k.name (codes "partition") (standing_of K s.known k.name) else give tt) s)
        either true e = breaks_hosted k.name (standing_of K s.known k.name) s c (hosts k m (eqb-true k.host w e))
        either false e = (steady_give K E tt).after s c

    notices_gift : (g : GiftEntry N) (s : Vat N) → Causes K E s → GiftTold K E g → Ends K E s (Any K E) (arrive.notice_gift K w g s)
    unfolding arrive.notice_gift
    notices_gift g s c t = either (g.provider == w) refl
      where
        either : (b : Bool) → (g.provider == w) ≡ b → Ends K E s (Any K E) ((if b then arrive.break_unopened K g.name g.opened else give tt) s)
        either true e = breaks_unopened g.name g.opened s c w (inr is) (provides g.number (subst (λ p. IsGiftOf K E p g.number g.name) (eqb-true g.provider w e) t))
        either false e = (steady_give K E tt).after s c

    each_name : (ks : List (Known N)) → ((k : Known N) → IsAmong k ks → IsAmong k E.vat.known) → (s : Vat N) → Causes K E s → Ends K E s (Any K E) (each (arrive.notice_name K w) ks s)
    unfolding each ◌>>◌
    each_name [] f s c = (steady_give K E tt).after s c
    each_name (k ∷ ks) f s c = ends_then K E s (arrive.notice_name K w k s) _ (Any K E) _ (notices_name k s c (f k (inl refl))) (λ a t l d q. each_name ks (λ j m. f j (inr m)) t d)

    each_gift : (gs : List (GiftEntry N)) → AllOf (GiftTold K E) gs → (s : Vat N) → Causes K E s → Ends K E s (Any K E) (each (arrive.notice_gift K w) gs s)
    unfolding each ◌>>◌
    each_gift [] h s c = (steady_give K E tt).after s c
    each_gift (g ∷ gs) h s c = ends_then K E s (arrive.notice_gift K w g s) _ (Any K E) _ (notices_gift g s c h.0) (λ a t l d q. each_gift gs h.1 t d)

    all_noticed : (s : Vat N) → Causes K E s → s.known ≡ E.vat.known → Ends K E s (Any K E) (arrive.notice_all K w s)
    unfolding arrive.notice_all ◌>>=◌ ◌>>◌ look and_then
    all_noticed s c e = ends_then K E s (mark w s) _ (λ a t. t.known ≡ s.known) _ (marks K E w is s c) (λ a t f d g.
        ends_then K E t (each (arrive.notice_name K w) t.known t) _ (Any K E) _ (each_name t.known (λ k m. subst (λ ks. IsAmong k ks) (g ∙ e) m) t d) (λ b u h i q. each_gift u.gifts i.gifts u i))

    pub notices_well : (s : Vat N) → Causes K E s → s.known ≡ E.vat.known → Ends K E s (Any K E) (arrive.notice K w s)
    unfolding arrive.notice ◌>>=◌ look and_then
    notices_well s c e = either (is_in w s.noticed)
      where
        either : (b : Bool) → Ends K E s (Any K E) ((if b then give tt else arrive.notice_all K w) s)
        either true = (steady_give K E tt).after s c
        either false = all_noticed s c e
