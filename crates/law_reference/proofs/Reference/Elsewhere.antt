-- The news that a name settled elsewhere makes no list lead back to itself: its view just came to be known, under the next draw.
use Rattle.std.proofs.Common.{◌≡◌, ℕ, zero, Bool, true, false, List, [], ◌∷◌, ◌++◌, Option, Some, None, refl, sym, ap, subst, ◌∙◌, ◌⊎◌, inl, inr, length, if◌then◌else◌, codes, ◌==◌}
use Rattle.def_machine.specs.Values.{Value, Broken, Name, Gift, Naming, naming, name_of, host_of, IsGift, IsLearnt, key, word_of, under}
use Rattle.def_machine.specs.State.{Unsettled, Settled, Known, Many, Note, Open, Ask, SettledTo, Shorten, Put, GiftEntry, Vat, Done, Gives, Throws, Ejects, Stops, ◌>>=◌, ◌>>◌, and_then, give, look, tell, alter, come, draw, draws, drawn_at, send_out, new_gift, begun, is_in}
use Rattle.def_machine.specs.Refs as refs
use Rattle.def_machine.specs.Refs.{entry_of, standing_of, host_at}
use Rattle.def_machine.specs.Arrive as arrive
use Rattle.def_machine.specs.Arrive.{Incoming, Old, New, gift_at}
use Rattle.law_machine.specs.Machine.Breaks.{still_waits}
use Rattle.def_machine.proofs.Keys.{word_under_key}
use Rattle.law_fate.specs.Name.Names.{AllOf, IsAmong, WasDrawn, IsEventual}
use Rattle.law_fate.proofs.Name.Among.{among_more, drawn_last, key_not_drawn}
use Rattle.law_fate.proofs.Name.Facts.{all_end, all_map}
use Rattle.law_frozen.proofs.Fine.{Nothing, nothing, Ends}
use Rattle.law_reference.specs.Reference.ListRingless.{IsNamed, IsView, IsObjectName, NoteTells, IsToldWell, told_name, NextIsNew}
use Rattle.law_reference.proofs.Reference.Following.{no_true}
use Rattle.law_reference.proofs.Reference.FarEnough.{append_standing}
use Rattle.law_reference.proofs.Reference.Kept.{heeds, heeds_spared, K, is, begun_or, entry_name, keeper}
use Rattle.law_reference.proofs.Reference.Changes.{Holds, begun_holds, put_holds, drawn_holds, gifts_hold}
use Rattle.law_reference.proofs.Reference.RefsRing.{here_spared, settle_broken}
use Rattle.law_reference.proofs.Reference.ViewRing.{none_stands, names_more, view_into, view_draw, see_ends}

some_known : (j k : Known Name) → Some j ≡ Some k → j ≡ k
some_known j k e = cc

open_value : (z : Value Name) → Unsettled ≡ Settled z → ⊥
open_value z e = cc

begun_known : (n : Name) (h : ℕ) → (begun n h).name ≡ n
unfolding begun
begun_known n h = refl

begun_empty : (m n : Name) (h : ℕ) → IsAmong n (begun m h).waiting → ⊥
unfolding begun
begun_empty m n h a = a

module _ (word : ℕ → ℕ) (v : ℕ) (heed : Bool) (Seen : Name → Type 0) where
  abbrev N : Naming Name Name
  N = K word v

  abbrev Under : (ℕ → Type 0) → Vat Name → Type 0
  Under D s = Holds word v heed D Seen [] s

  abbrev At : (ℕ → Type 0) → Vat Name → Done Name (Unit {0}) → Type 0
  At D s d = Ends N (keeper word v heed D Seen []) nothing s d

  -- ---- more draws are those of views

  -- where it gives, the draws are those; else they are as they were
  abbrev pub AtView : (ℕ → Type 0) → (ℕ → Type 0) → Done Name (Unit {0}) → Type 0
  AtView D E (Gives a t) = Under E t
  AtView D E (Throws p t) = Under D t
  AtView D E (Ejects n x t) = Under D t
  AtView D E (Stops c t) = Under D t

  pub ends_view : (D E : ℕ → Type 0) (s : Vat Name) (d : Done Name (Unit {0})) → ((t : Vat Name) → Under D t → Under E t) → At D s d → AtView D E d
  ends_view D E s (Gives a t) f h = f t h.1
  ends_view D E s other f h = h.1

  open_same : (D E : ℕ → Type 0) (i : ℕ) (n : Name) → (E i → D i) → IsObjectName n ⊎ (D i → ⊥) → IsObjectName n ⊎ (E i → ⊥)
  open_same D E i n back (inl o) = inl o
  open_same D E i n back (inr f) = inr (λ e. f (back e))

  note_same : (D E : ℕ → Type 0) → ((i : ℕ) → E i → D i) → (ks : List (Known Name)) (n : Note Name) → NoteTells N D ks n → NoteTells N E ks n
  note_same D E back ks (Open i n) h = open_same D E i n (back i) h
  note_same D E back ks (SettledTo n (Many ys)) h = h
  note_same D E back ks other h = h

  view_back : (D E : ℕ → Type 0) → ((i : ℕ) → E i → D i) → (n : Name) → IsView E n → IsView D n
  view_back D E back n w = view_into word v heed E Seen D back n w

  -- the same draws, told otherwise
  pub holds_same : (D E : ℕ → Type 0) → ((i : ℕ) → D i → E i) → ((i : ℕ) → E i → D i) → (s : Vat Name) → Under D s → Under E s
  holds_same D E into back s h = (
    h.0,
    record { number = h.1.number; names = names_more word v heed D Seen E s.known (heeds word v heed D Seen s) (view_into word v heed D Seen E into) (λ n p k e a w. view_back D E back n w) (λ n y e w. view_back D E back n w) h.1.names; none = h.1.none; queue = h.1.queue; gifts = h.1.gifts },
    (λ i l e. h.2.0 i l (back i e), all_map {P = λ (p : Put Name). NoteTells N D s.known p.note} {Q = λ (p : Put Name). NoteTells N E s.known p.note} (λ p j. note_same D E back s.known p.note j) s.outbox h.2.1),
    tt,
  )

  -- more keys, under which no gift settled to a list or waits
  holds_more : (D E F : ℕ → Type 0) → ((i : ℕ) → D i → E i) → ((i : ℕ) → E i → D i ⊎ F i) → (s : Vat Name) → ((i : ℕ) → (WasDrawn s.drawn i → ⊥) → E i → ⊥) → AllOf (λ (p : Put Name). NoteTells N E s.known p.note) s.outbox
      → ((h i : ℕ) → F i → (p : Name) (k : Known Name) → entry_of N s.known p ≡ Some k → IsAmong (Gift h i) k.waiting → ⊥) → ((h i : ℕ) → F i → (y : Value Name) → standing_of N s.known (Gift h i) ≡ Settled y → ⊥) → Under D s → Under E s
  holds_more D E F into back s fresh puts waits settled h = (
    h.0,
    record {
      number = h.1.number;
      names = names_more word v heed D Seen E s.known (heeds word v heed D Seen s) (view_into word v heed D Seen E into) (λ n p k e a w. view_draw word v heed D Seen E F back n (λ g i f j. waits g i f p k e (subst (λ m. IsAmong m k.waiting) j a)) w)
          (λ n y e w. view_draw word v heed D Seen E F back n (λ g i f j. settled g i f y (ap (λ m. standing_of N s.known m) (sym j) ∙ e)) w) h.1.names;
      none = h.1.none;
      queue = h.1.queue;
      gifts = h.1.gifts;
    },
    (fresh, puts),
    tt,
  )

  -- ---- the next word

  -- no gift under those keys is known, stands or waits
  record IsNew (s : Vat Name) (F : ℕ → Type 0) : Type 0 where
    pub known : (h i : ℕ) → F i → entry_of N s.known (Gift h i) ≡ None
    pub gifts : (p i : ℕ) → F i → gift_at p i s.gifts ≡ None
    pub waits : (h i : ℕ) → F i → (p : Name) (k : Known Name) → entry_of N s.known p ≡ Some k → IsAmong (Gift h i) k.waiting → ⊥

  gift_eventual : (h i k : ℕ) → IsEventual (N.made (IsGift h i) k)
  unfolding naming name_of
  gift_eventual h i k = tt

  new_waits : (s : Vat Name) (g : Name) (h : ℕ) → entry_of N s.known g ≡ None → still_waits (standing_of N (s.known ++ begun g h ∷ []) g) ≡ true
  unfolding still_waits
  new_waits s g h e = ap still_waits (append_standing N (is word v) s.known g h g ∙ none_stands word v heed (λ i. ⊥) Seen s.known g e)

  waits_end : (s : Vat Name) (g : Name) (c h i : ℕ) (p : Name) (k : Known Name) (F : ℕ → Type 0) → IsNew s F → F i → (entry_of N (s.known ++ begun g c ∷ []) p ≡ entry_of N s.known p) ⊎ (entry_of N (s.known ++ begun g c ∷ []) p ≡ Some (begun g c)) → entry_of N (s.known ++ begun g c ∷ []) p ≡ Some k → IsAmong (Gift h i) k.waiting → ⊥
  waits_end s g c h i p k F new f (inl j) e a = new.waits h i f p k (sym j ∙ e) a
  waits_end s g c h i p k F new f (inr j) e a = begun_empty g (Gift h i) c (subst (λ (x : Known Name). IsAmong (Gift h i) x.waiting) (sym (some_known (begun g c) k (sym j ∙ e))) a)

  settled_end : (s : Vat Name) (g : Name) (c h i : ℕ) (y : Value Name) (F : ℕ → Type 0) → IsNew s F → F i → standing_of N (s.known ++ begun g c ∷ []) (Gift h i) ≡ Settled y → ⊥
  settled_end s g c h i y F new f e = open_value y (sym (append_standing N (is word v) s.known g c (Gift h i) ∙ none_stands word v heed (λ j. ⊥) Seen s.known (Gift h i) (new.known h i f)) ∙ e)

  new_end : (s : Vat Name) (n g : Name) (h : ℕ) → entry_of N s.known g ≡ None → (n ≡ g → ⊥) → (entry_of N (s.known ++ begun n h ∷ []) g ≡ entry_of N s.known g) ⊎ (entry_of N (s.known ++ begun n h ∷ []) g ≡ Some (begun n h)) → entry_of N (s.known ++ begun n h ∷ []) g ≡ None
  new_end s n g h e other (inl i) = i ∙ e
  new_end s n g h e other (inr i) = absurd (other (sym (begun_known n h) ∙ entry_name word v heed (λ j. ⊥) Seen (s.known ++ begun n h ∷ []) g (begun n h) i))

  new_begun : (s : Vat Name) (n : Name) (h : ℕ) (F : ℕ → Type 0) → IsNew s F → ((g i : ℕ) → F i → n ≡ Gift g i → ⊥) → IsNew (record s { known = s.known ++ begun n h ∷ [] }) F
  new_begun s n h F new apart = record {
    known = λ g i f. new_end s n (Gift g i) h (new.known g i f) (apart g i f) (begun_or word v heed (λ j. ⊥) Seen s.known n (Gift g i) h);
    gifts = new.gifts;
    waits = λ g i f p k e a. waits_end s n h g i p k F new f (begun_or word v heed (λ j. ⊥) Seen s.known n p h) e a;
  }

  -- ---- the name is viewed

  module _ (D E F : ℕ → Type 0) (d : ℕ) (into : (i : ℕ) → D i → E i) (back : (i : ℕ) → E i → D i ⊎ F i) (drew : E d) (odd : F d) where
    fresh_after : (s : Vat Name) (w : ℕ) → ((i : ℕ) → F i → word_of i ≡ w) → ((i : ℕ) → (WasDrawn s.drawn i → ⊥) → D i → ⊥) → (i : ℕ) → (WasDrawn (s.drawn ++ w ∷ []) i → ⊥) → E i → ⊥
    fresh_after s w next fresh i l e = pick (back i e)
      where
        pick : D i ⊎ F i → ⊥
        pick (inl j) = fresh i (λ a. l (among_more (word_of i) s.drawn w a)) j
        pick (inr j) = l (drawn_last s.drawn w i (next i j))

    -- the state in which the gift is known
    module _ (s : Vat Name) (w : ℕ) (n : Name) (next : (i : ℕ) → F i → word_of i ≡ w) (empty : s.outbox ≡ []) (held : Under D s) (new : IsNew s F) (other : host_of n ≡ v → ⊥) (seen : Seen n) where
      told_empty : (ps : List (Put Name)) → ps ≡ [] → (ks : List (Known Name)) → AllOf (λ (p : Put Name). NoteTells N E ks p.note) ps
      told_empty ps e ks = subst (λ qs. AllOf (λ (p : Put Name). NoteTells N E ks p.note) qs) (sym e) tt

      abbrev Drawn : ℕ → ℕ → Vat Name
      Drawn h c = record s { drawn = s.drawn ++ w ∷ []; outbox = s.outbox ++ record { to = h; note = Shorten n c d } ∷ [] }

      drawn_under : (h c : ℕ) → Under D (Drawn h c)
      drawn_under h c = put_holds word v heed D Seen [] (record s { drawn = s.drawn ++ w ∷ [] }) h (Shorten n c d) tt tt (drawn_holds word v heed D Seen [] s w held)

      -- the state in which the gift is known
      abbrev WithGift : List (Put Name) → List (GiftEntry Name) → ℕ → Vat Name
      WithGift ps gs c = record s { drawn = s.drawn ++ w ∷ []; known = s.known ++ begun (Gift c d) c ∷ []; outbox = ps; gifts = gs }

      known_gift : (ps : List (Put Name)) (gs : List (GiftEntry Name)) (c : ℕ) → AllOf (λ (p : Put Name). NoteTells N E (s.known ++ begun (Gift c d) c ∷ []) p.note) ps → Under D (WithGift ps gs c) → AtView D E (arrive.see N n (Gift c d) (WithGift ps gs c))
      unfolding arrive.see ◌>>◌ tell alter and_then
      known_gift ps gs c puts k = let u : Vat Name = WithGift ps gs c in
          (see_ends word v heed E Seen u n (Gift c d) (holds_more D E F into back u (fresh_after s w next held.2.0) puts (λ h i f p q e a. waits_end s (Gift c d) c h i p q F new f (begun_or word v heed D Seen s.known (Gift c d) p c) e a) (λ h i f y e. settled_end s (Gift c d) c h i y F new f e) k)
          (new_waits s (Gift c d) c (new.known c d odd)) other seen drew).1

      puts_one : (h c : ℕ) (ks : List (Known Name)) → AllOf (λ (p : Put Name). NoteTells N E ks p.note) (s.outbox ++ record { to = h; note = Shorten n c d } ∷ [])
      puts_one h c ks = all_end (λ (p : Put Name). NoteTells N E ks p.note) s.outbox (record { to = h; note = Shorten n c d }) (told_empty s.outbox empty ks) tt

      own_gift : (h c : ℕ) (o : Option (GiftEntry Name)) → o ≡ None → AtView D E ((arrive.gift_or_new N s.number h d o >>= (λ g. arrive.see N n g)) (Drawn h c))
      unfolding arrive.gift_or_new ◌>>=◌ ◌>>◌ and_then come new_gift give naming name_of
      own_gift h c (Some g) e = cc
      own_gift h c None e = let g : Name = Gift s.number d in let x : GiftEntry Name = record { name = g; provider = h; number = d; opened = false } in
          let t : Vat Name = Drawn h c in let r : Vat Name = record t { known = s.known ++ begun g s.number ∷ [] } in let u : Vat Name = record r { gifts = s.gifts ++ x ∷ [] } in
          let a : Under D r = begun_holds word v heed D Seen [] t g s.number (drawn_under h c) (here_spared word v heed D Seen [] t (drawn_under h c)) tt in
          let b : Under D u = gifts_hold word v heed D Seen [] r (s.gifts ++ x ∷ []) (all_end (IsNamed v) s.gifts x held.1.gifts (ap (λ i. Gift i d) held.1.number)) a in
          known_gift u.outbox u.gifts s.number (puts_one h c u.known) b

      asked_gift : (h c : ℕ) → is_in c s.noticed ≡ false → AtView D E (((come N (IsGift c d) c >>= (λ g. send_out c (Ask h d g) >> give g)) >>= (λ g. arrive.see N n g)) (Drawn h c))
      unfolding ◌>>=◌ ◌>>◌ and_then come send_out give naming name_of
      asked_gift h c spared = let g : Name = Gift c d in let q : Put Name = record { to = c; note = Ask h d g } in
          let t : Vat Name = Drawn h c in let r : Vat Name = record t { known = s.known ++ begun g c ∷ [] } in let u : Vat Name = record r { outbox = t.outbox ++ q ∷ [] } in
          let a : Under D r = begun_holds word v heed D Seen [] t g c (drawn_under h c) (heeds_spared word v heed D Seen t c spared) tt in
          let b : Under D u = put_holds word v heed D Seen [] r c (Ask h d g) tt tt a in
          known_gift u.outbox u.gifts c (all_end (λ (p : Put Name). NoteTells N E u.known p.note) t.outbox q (puts_one h c u.known) tt) b

      gift_at_there : (h c : ℕ) (b : Bool) → is_in c s.noticed ≡ false → AtView D E (((if b then arrive.have_gift N h d else (come N (IsGift c d) c >>= (λ g. send_out c (Ask h d g) >> give g))) >>= (λ g. arrive.see N n g)) (Drawn h c))
      unfolding arrive.have_gift ◌>>=◌ look and_then
      gift_at_there h c true spared = own_gift h c (gift_at h d s.gifts) (new.gifts h d odd)
      gift_at_there h c false spared = asked_gift h c spared

  -- ---- the news arrives

  -- the keys of the next word, where it is new
  abbrev Next : Vat Name → ℕ → Type 0
  Next s i = (WasDrawn s.drawn i → ⊥) × (word_of i ≡ word (length s.drawn))

  -- the keys of views after it
  abbrev After : (ℕ → Type 0) → Vat Name → ℕ → ℕ → Type 0
  After D s c i = D i ⊎ ((is_in c s.noticed ≡ false) × (WasDrawn s.drawn i → ⊥) × (word_of i ≡ word (length s.drawn)))

  word_is : (i : ℕ) → N.word i ≡ word i
  unfolding naming
  word_is i = refl

  module _ (D : ℕ → Type 0) (s : Vat Name) (c : ℕ) where
    abbrev E : ℕ → Type 0
    E i = After D s c i

    either_draw : (i : ℕ) → E i → D i ⊎ Next s i
    either_draw i (inl d) = inl d
    either_draw i (inr e) = inr (e.1, e.2)

    same_draw : is_in c s.noticed ≡ true → (i : ℕ) → E i → D i
    same_draw e i (inl d) = d
    same_draw e i (inr f) = absurd (no_true (sym f.0 ∙ e))

    module _ (r : Vat Name) (n : Name) (drawn : r.drawn ≡ s.drawn) (noticed : r.noticed ≡ s.noticed) (empty : r.outbox ≡ []) (held : Under D r) (new : IsNew r (Next s)) (other : host_of n ≡ v → ⊥) (seen : Seen n) where
      view_drawn : (h w : ℕ) (o : Option ℕ) → drawn_at zero w r.drawn ≡ o → w ≡ word (length s.drawn) → is_in c r.noticed ≡ false → AtView D E (and_then (draws w o r) (λ i. send_out h (Shorten n c (under h i)) >> (arrive.gift_there N r.number h c (under h i) >>= (λ g. arrive.see N n g))))
      unfolding draws and_then ◌>>◌ send_out arrive.gift_there
      view_drawn h w (Some j) e same spared = held
      view_drawn h w None e same spared =
          let k : ℕ = under h (key r.number w) in
          let is : word_of k ≡ w = word_under_key h r.number w in
          let new_key : WasDrawn s.drawn k → ⊥ = λ a. key_not_drawn r.drawn w k e is (subst (λ ds. WasDrawn ds k) (sym drawn) a) in
          gift_at_there D E (Next s) k (λ i d. inl d) either_draw (inr (ap (λ hs. is_in c hs) (sym noticed) ∙ spared, new_key, is ∙ same)) (new_key, is ∙ same) r w n (λ i f. f.1 ∙ sym same) empty held new other seen h c (c == r.number) spared

      view_there : is_in c r.noticed ≡ false → AtView D E (arrive.view_there N n c r)
      unfolding arrive.view_there ◌>>=◌ and_then look draw
      view_there spared = view_drawn (host_at N r.number r.known n) (N.word (length r.drawn)) (drawn_at zero (N.word (length r.drawn)) r.drawn) refl (word_is (length r.drawn) ∙ ap (λ ds. word (length ds)) drawn) spared

      went : (b : Bool) → is_in c r.noticed ≡ b → AtView D E ((if b then refs.settle N n (Broken (codes "partition")) else arrive.view_there N n c) r)
      went true e = ends_view D E r _ (λ t k. holds_same D E (λ i d. inl d) (same_draw (ap (λ hs. is_in c hs) (sym noticed) ∙ e)) t k) ((settle_broken word v heed D Seen [] Nothing n (codes "partition")).after r held tt)
      went false e = view_there e

    its : NextIsNew N s → IsNew s (Next s)
    its new = record { known = λ h i f. new.0 h i f.0; gifts = λ p i f. new.1 p i f.0; waits = λ h i f. new.2 h i f.0 }

    learnt_is : (x : Name) (k : ℕ) → N.made (IsLearnt x) k ≡ x
    unfolding naming name_of
    learnt_is x k = refl

    pub elsewhere : (x : Incoming Name Name) → IsToldWell (heeds word v heed D Seen s) x → (host_of (told_name x) ≡ v → ⊥) → Seen (told_name x) → NextIsNew N s → ((g i : ℕ) → (WasDrawn s.drawn i → ⊥) → told_name x ≡ Gift g i → ⊥) → s.outbox ≡ [] → Under D s → AtView D E (arrive.arrive_elsewhere N x c s)
    unfolding arrive.arrive_elsewhere arrive.learn_name ◌>>=◌ give look come and_then naming name_of
    elsewhere (Old n) t other seen new apart empty k = went s n refl refl empty k (its new) other seen (is_in c s.noticed) refl
    elsewhere (New x h) t other seen new apart empty k = let r : Vat Name = record s { known = s.known ++ begun x h ∷ [] } in
        went r x refl refl empty (begun_holds word v heed D Seen [] s x h k t.0 t.1) (new_begun s x h (Next s) (its new) (λ g i f. apart g i f.0)) other seen (is_in c s.noticed) refl
