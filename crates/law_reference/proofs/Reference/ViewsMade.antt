-- Making a view: the gift that becomes the view is new, and the name waits on it.
use Rattle.std.proofs.Common.{◌≡◌, ℕ, zero, ◌<◌, ◌≤◌, Bool, true, false, List, [], ◌∷◌, ◌++◌, Option, Some, None, refl, sym, ap, subst, ◌∙◌, ◌⊎◌, inl, inr, length, arith, if◌then◌else◌, ◌==◌}
use Rattle.def_machine.specs.Values.{Value, Name, Gift, Naming, naming, name_of, IsGift, key, under}
use Rattle.def_machine.specs.State.{Unsettled, Viewed, Settled, Known, Wait, See, Ask, Shorten, GiftEntry, Put, Vat, ◌>>=◌, ◌>>◌, and_then, give, look, tell, alter, come, draw, draws, drawn_at, send_out, new_gift, with_change, changed, changed_to, unless_settled, begun}
use Rattle.def_machine.specs.Refs.{entry_of, standing_of, standing_in, host_at}
use Rattle.def_machine.specs.Arrive as arrive
use Rattle.def_machine.proofs.Keys.{word_under_key}
use Rattle.law_fate.specs.Name.Names.{IsAmong, WasDrawn, IsEventual}
use Rattle.law_fate.proofs.Name.Among.{key_not_drawn}
use Rattle.law_fate.proofs.Name.SameNames.{reference_is, reference_self}
use Rattle.law_reference.specs.Reference.Views.{IsOpen, index_at, Awaits, ViewsWait}
use Rattle.law_reference.proofs.Reference.Entries.{SameOr, same_or, changed_at, Knows, index_changed, index_append, index_less, index_last, unless_either, mild_wait}
use Rattle.law_reference.proofs.Reference.Gentle.{AfterGives}
use Rattle.law_reference.proofs.Reference.ViewsGo.{go_append, go_changed, awaits_changed, entry_last}

module _ (K : Naming Name Name) (is : (a b : Name) → K.same a b ≡ true → a ≡ b) where
  named_head : (b : Bool) (k0 k : Known Name) (n : Name) (o : Option (Known Name)) → K.same k0.name n ≡ b → ◌≡◌ {A = Option (Known Name)} (elim b [ true ↦ Some k0 | false ↦ o ]) (Some k) → (o ≡ Some k → K.same k.name n ≡ true) → K.same k.name n ≡ true
  named_head true k0 k n o i e f = let same : k0 ≡ k = cc in rw same at i
  named_head false k0 k n o i e f = f e

  -- the entry of a name has that name
  entry_same : (ks : List (Known Name)) (n : Name) (k : Known Name) → entry_of K ks n ≡ Some k → K.same k.name n ≡ true
  unfolding entry_of
  entry_same [] n k e = cc
  entry_same (k0 ∷ ks) n k e = named_head (K.same k0.name n) k0 k n (entry_of K ks n) refl e (λ h. entry_same ks n k h)

  pub entry_name : (ks : List (Known Name)) (n : Name) (k : Known Name) → entry_of K ks n ≡ Some k → k.name ≡ n
  entry_name ks n k e = is k.name n (entry_same ks n k e)

  -- so a name that is found is the same as itself
  pub entry_self : (ks : List (Known Name)) (n : Name) (k : Known Name) → entry_of K ks n ≡ Some k → K.same n n ≡ true
  entry_self ks n k e = let same = entry_same ks n k e in subst (λ x. K.same x n ≡ true) (is k.name n same) same

  see_either : (g q : Name) (k : Known Name) → (changed (See g) k).standing ≡ Viewed q → (g ≡ q) ⊎ (k.standing ≡ Viewed q)
  unfolding changed changed_to
  see_either g q k e = unless_either (λ x. x.standing ≡ Viewed q → (g ≡ q) ⊎ (k.standing ≡ Viewed q)) k.standing k (changed_to (See g) k) (λ i. inr i) (λ i. inl (one i)) e
    where
      one : Viewed g ≡ Viewed q → g ≡ q
      one i = cc

  see_open : (g : Name) (k : Known Name) → IsOpen k.standing → IsOpen (changed (See g) k).standing
  unfolding changed changed_to
  see_open g k o = unless_either (λ x. IsOpen x.standing) k.standing k (changed_to (See g) k) o (λ y e. never y e)
    where
      never : (y : Value Name) → Viewed g ≡ Settled y → ⊥
      never y e = cc

  see_waits : (g : Name) (k : Known Name) (n : Name) → IsAmong n k.waiting → IsAmong n (changed (See g) k).waiting
  unfolding changed changed_to
  see_waits g k n a = unless_either (λ x. IsAmong n x.waiting) k.standing k (changed_to (See g) k) a a

  first_waits : (n g : Name) (h : ℕ) → IsAmong n (changed (Wait n) (begun g h)).waiting
  unfolding changed changed_to unless_settled begun
  first_waits n g h = inl refl

  first_open : (n g : Name) (h : ℕ) → IsOpen (changed (Wait n) (begun g h)).standing
  unfolding changed changed_to unless_settled begun
  first_open n g h y e = cc

  begun_unsettled : (n : Name) (h : ℕ) → (begun n h).standing ≡ Unsettled
  unfolding begun
  begun_unsettled n h = refl

  begun_name : (n : Name) (h : ℕ) → (begun n h).name ≡ n
  unfolding begun
  begun_name n h = refl

  pick_self : (b : Bool) (k : Known Name) → b ≡ true → ◌≡◌ {A = Option (Known Name)} (elim b [ true ↦ Some k | false ↦ None ]) (Some k)
  pick_self b k e = rw e refl

  some_is : (j k : Known Name) → Some j ≡ Some k → j ≡ k
  some_is j k e = cc

  standing_at : (ks : List (Known Name)) (n : Name) (k : Known Name) (q : Name) → entry_of K ks n ≡ Some k → k.standing ≡ Viewed q → standing_of K ks n ≡ Viewed q
  unfolding standing_of standing_in
  standing_at ks n k q e h = rw e h

  at_standing : (ks : List (Known Name)) (n : Name) (k : Known Name) (q : Name) → entry_of K ks n ≡ Some k → standing_of K ks n ≡ Viewed q → k.standing ≡ Viewed q
  unfolding standing_of standing_in
  at_standing ks n k q e h = rw e at h

  standing_same : (ks ls : List (Known Name)) (n q : Name) → entry_of K ls n ≡ entry_of K ks n → standing_of K ls n ≡ Viewed q → standing_of K ks n ≡ Viewed q
  unfolding standing_of
  standing_same ks ls n q e h = rw e at h

  module _ (ks : List (Known Name)) (n g : Name) (h : ℕ) (views : ViewsWait K ks) (fresh : entry_of K ks g ≡ None) (self : K.same g g ≡ true) (other : n ≡ g → ⊥) where
    abbrev Come : List (Known Name)
    Come = ks ++ begun g h ∷ []

    abbrev Seen : List (Known Name)
    Seen = with_change K (See g) n Come

    abbrev Waits : List (Known Name)
    Waits = with_change K (Wait n) g Seen

    views_come : ViewsWait K Come
    views_come m q e = let back = go_append K ks (begun g h) (begun_unsettled g h) m q e in back.1 (views m q back.0)

    gift_come : entry_of K Come g ≡ Some (begun g h)
    gift_come = entry_last K ks (begun g h) g fresh ∙ pick_self (K.same (begun g h).name g) (begun g h) (rw (begun_name g h) self)

    not_gift : (k : Known Name) → entry_of K Come n ≡ Some k → entry_of K Come g ≡ Some k → ⊥
    not_gift k e f = let same : k ≡ begun g h = some_is k (begun g h) (sym f ∙ gift_come) in let name : k.name ≡ n = entry_name Come n k e in other (sym name ∙ ap (λ (x : Known Name). x.name) same ∙ begun_name g h)

    gift_seen : entry_of K Seen g ≡ Some (begun g h)
    gift_seen = by_or (same_or K (See g) n g Come)
      where
        by_or : SameOr K (See g) n Come Seen g → entry_of K Seen g ≡ Some (begun g h)
        by_or (inl e) = e ∙ gift_come
        by_or (inr x) = absurd (not_gift x.0 x.2 x.1)

    gift_waits : entry_of K Waits g ≡ Some (changed (Wait n) (begun g h))
    gift_waits = changed_at K (Wait n) g Seen (begun g h) gift_seen

    pick_none : (b : Bool) (j k : Known Name) → ◌≡◌ {A = Option (Known Name)} (elim b [ true ↦ Some j | false ↦ None ]) (Some k) → j ≡ k
    pick_none true j k e = cc
    pick_none false j k e = cc

    known_before : (k : Known Name) (o : Option (Known Name)) → entry_of K ks n ≡ o → entry_of K Come n ≡ Some k → Knows K ks n
    known_before k (Some j) e f = (j, e)
    known_before k None e f = let same : begun g h ≡ k = pick_none (K.same (begun g h).name n) (begun g h) k (sym (entry_last K ks (begun g h) n e) ∙ f) in
        absurd (other (sym (entry_name Come n k f) ∙ ap (λ (x : Known Name). x.name) (sym same) ∙ begun_name g h))

    gift_later : Knows K ks n → index_at K Waits n < index_at K Waits g
    gift_later x = rw (index_changed K (Wait n) g n Seen, index_changed K (See g) n n Come, index_changed K (Wait n) g g Seen, index_changed K (See g) n g Come) less
      where
        less : index_at K Come n < index_at K Come g
        less = let a : index_at K Come n ≡ index_at K ks n = index_append K ks (begun g h ∷ []) n x.0 x.1 in let b : index_at K ks n < length ks = index_less K ks n x.0 x.1 in let c : length ks ≤ index_at K Come g = index_last K ks (begun g h ∷ []) g fresh in omega arith

    gift_awaits : Knows K ks n → Awaits K Waits n g
    gift_awaits x = record { entry = changed (Wait n) (begun g h); found = gift_waits; pending = first_open n g h; among = first_waits n g h; later = gift_later x }

    pub see_views : ViewsWait K Waits
    see_views m q e = by_or (same_or K (See g) n m Come)
      where
        back : (standing_of K Seen m ≡ Viewed q) × (Awaits K Seen m q → Awaits K Waits m q)
        back = go_changed K (Wait n) (mild_wait n) g Seen m q e

        old : standing_of K Come m ≡ Viewed q → Awaits K Waits m q
        old i = back.1 (awaits_changed K (See g) (see_open g) (see_waits g) n m q Come (views_come m q i))

        by_see : (k : Known Name) → entry_of K Come m ≡ Some k → entry_of K Come n ≡ Some k → (g ≡ q) ⊎ (k.standing ≡ Viewed q) → Awaits K Waits m q
        by_see k i j (inr f) = old (standing_at Come m k q i f)
        by_see k i j (inl f) = let same : n ≡ m = sym (entry_name Come n k j) ∙ entry_name Come m k i in rw (sym f, sym same) (gift_awaits (known_before k (entry_of K ks n) refl j))

        by_or : SameOr K (See g) n Come Seen m → Awaits K Waits m q
        by_or (inl i) = old (standing_same Come Seen m q i back.0)
        by_or (inr x) = by_see x.0 x.1 x.2 (see_either g q x.0 (at_standing Seen m (changed (See g) x.0) q x.3 back.0))

-- ---- what views a name does

module _ (word : ℕ → ℕ) (v : ℕ) where
  -- a gift under a word that was not drawn is new
  pub record GiftsAreNew (s : Vat Name) : Type 0 where
    pub names : (c i : ℕ) → (WasDrawn s.drawn i → ⊥) → entry_of (naming word v) s.known (Gift c i) ≡ None
    pub gifts : (p i : ℕ) → (WasDrawn s.drawn i → ⊥) → arrive.gift_at p i s.gifts ≡ None

  abbrev Good : Vat Name → Type 0
  Good t = ViewsWait (naming word v) t.known

  seen : (ks : List (Known Name)) (n g : Name) (h : ℕ) → ViewsWait (naming word v) ks → entry_of (naming word v) ks g ≡ None → IsEventual g → (n ≡ g → ⊥) → ViewsWait (naming word v) (with_change (naming word v) (Wait n) g (with_change (naming word v) (See g) n (ks ++ begun g h ∷ [])))
  unfolding naming
  seen ks n g h views fresh eventual other = see_views (naming word v) (λ a b. reference_is a b) ks n g h views fresh (reference_self g eventual) other

  -- here: it is a gift that this vat hosts
  view_own : (s : Vat Name) (n : Name) (h u i w : ℕ) (p : Put Name) (o : Option (GiftEntry Name)) → o ≡ None → (WasDrawn s.drawn i → ⊥) → Good s → GiftsAreNew s → (n ≡ Gift u i → ⊥)
      → AfterGives Good ((arrive.gift_or_new (naming word v) u h i o >>= (λ g. arrive.see (naming word v) n g)) (record s { drawn = s.drawn ++ w ∷ []; outbox = s.outbox ++ p ∷ [] }))
  unfolding arrive.gift_or_new arrive.see ◌>>=◌ ◌>>◌ and_then come new_gift give tell alter naming name_of
  view_own s n h u i w p (Some g) e l views new other = cc
  view_own s n h u i w p None e l views new other = seen s.known n (Gift u i) u views (new.names u i l) tt other

  -- elsewhere: the gift is asked for
  view_asked : (s : Vat Name) (n : Name) (h c i w : ℕ) (p : Put Name) → (WasDrawn s.drawn i → ⊥) → Good s → GiftsAreNew s → (n ≡ Gift c i → ⊥)
      → AfterGives Good (((come (naming word v) (IsGift c i) c >>= (λ g. send_out c (Ask h i g) >> give g)) >>= (λ g. arrive.see (naming word v) n g)) (record s { drawn = s.drawn ++ w ∷ []; outbox = s.outbox ++ p ∷ [] }))
  unfolding arrive.see ◌>>=◌ ◌>>◌ and_then come send_out give tell alter naming name_of
  view_asked s n h c i w p l views new other = seen s.known n (Gift c i) c views (new.names c i l) tt other

  view_had : (s : Vat Name) (n : Name) (h i w : ℕ) (p : Put Name) → (WasDrawn s.drawn i → ⊥) → Good s → GiftsAreNew s → ((a : ℕ) → n ≡ Gift a i → ⊥)
      → AfterGives Good ((arrive.have_gift (naming word v) h i >>= (λ g. arrive.see (naming word v) n g)) (record s { drawn = s.drawn ++ w ∷ []; outbox = s.outbox ++ p ∷ [] }))
  unfolding arrive.have_gift ◌>>=◌ and_then look
  view_had s n h i w p l views new other = view_own s n h s.number i w p (arrive.gift_at h i s.gifts) (new.gifts h i l) l views new (other s.number)

  view_there_at : (s : Vat Name) (n : Name) (h c i w : ℕ) (p : Put Name) (b : Bool) → (WasDrawn s.drawn i → ⊥) → Good s → GiftsAreNew s → ((a : ℕ) → n ≡ Gift a i → ⊥)
      → AfterGives Good (((if b then arrive.have_gift (naming word v) h i else (come (naming word v) (IsGift c i) c >>= (λ g. send_out c (Ask h i g) >> give g))) >>= (λ g. arrive.see (naming word v) n g)) (record s { drawn = s.drawn ++ w ∷ []; outbox = s.outbox ++ p ∷ [] }))
  view_there_at s n h c i w p true l views new other = view_had s n h i w p l views new other
  view_there_at s n h c i w p false l views new other = view_asked s n h c i w p l views new (other c)

  view_drawn : (s : Vat Name) (n : Name) (h c w : ℕ) (o : Option ℕ) → drawn_at zero w s.drawn ≡ o → Good s → GiftsAreNew s → ((a i : ℕ) → (WasDrawn s.drawn i → ⊥) → n ≡ Gift a i → ⊥)
      → AfterGives Good (and_then (draws w o s) (λ i. send_out h (Shorten n c (under h i)) >> (arrive.gift_there (naming word v) s.number h c (under h i) >>= (λ g. arrive.see (naming word v) n g))))
  unfolding draws and_then ◌>>◌ send_out arrive.gift_there
  view_drawn s n h c w (Some j) e views new other = tt
  view_drawn s n h c w None e views new other = let i : ℕ = under h (key s.number w) in let l : WasDrawn s.drawn i → ⊥ = key_not_drawn s.drawn w i e (word_under_key h s.number w) in view_there_at s n h c i w (record { to = h; note = Shorten n c i }) (c == s.number) l views new (λ a. other a i l)

  pub views_there : (s : Vat Name) (n : Name) (c : ℕ) → Good s → GiftsAreNew s → ((a i : ℕ) → (WasDrawn s.drawn i → ⊥) → n ≡ Gift a i → ⊥) → AfterGives Good (arrive.view_there (naming word v) n c s)
  unfolding arrive.view_there ◌>>=◌ and_then look draw naming
  views_there s n c views new other = view_drawn s n (host_at (naming word v) s.number s.known n) c (word (length s.drawn)) (drawn_at zero (word (length s.drawn)) s.drawn) refl views new other
