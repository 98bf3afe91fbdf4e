-- What is carried is what the line before of the message has, or what that leads to, or a gift.
use Rattle.std.proofs.Common.{◌≡◌, ℕ, true, List, [], ◌∷◌, refl, sym, subst, ◌⊎◌, inl, inr}
use Rattle.ev_base.specs.declared.names.Name.{Name as ShownName}
use Rattle.ev_base.specs.declared.names.Name.TheVariants as name
use Rattle.def_machine.specs.Values.{Value, Items, Ref, Name, Gift, word_of}
use Rattle.def_machine.specs.State.{Passed, Passeds, Plain, AGift, Many, NoMore, More, Happened, Settles, Views}
use Rattle.def_run.specs.World.{Event, Here}
use Rattle.def_run.specs.Shown as show
use Rattle.law_uses.specs.Connectivity.Stems.{LeadsTo, itself, settled, viewed, PassesAs, PassAll, ComesAs, ComeAll}
use Rattle.def_event.specs.Uses.{IsAmong, Listed, Settled, Thing, AName, AList, Reaches, onward, things_of, things, parts, all_parts, is_gift}
use Rattle.law_uses.proofs.Uses.Shown.{among_left, among_right, among_either, lines, LeadsOn, settles_lead, views_lead, ListTold, list_leads}
use Rattle.law_uses.proofs.Uses.Comes.{NoItems, NoList, NoLists, many_parts, gift_parts, plain_parts}

-- In these lines of a vat, from things that start.
module _ (draws : List ℕ) (es : List Event) (v : ℕ) (Starts : Thing → Type 0) where
  abbrev pub Reached : Thing → Type 0
  Reached t = Reaches (lines draws es) Starts (λ way. Unit {0}) t

  abbrev Of : Value Name → List Thing
  Of x = things_of (show.shown_value draws v x)

  reached_on : (from to : Thing) → LeadsOn draws es Settled from to → Reached from → Reached to
  reached_on from to l r = onward (record { way = Settled l.0; from = from; to = to }) l.1 tt r

  module _ (list : ℕ → List (Value Name) → Type 0) (told : (k : ℕ) (vs : List (Value Name)) → list k vs → ListTold draws es v k vs) (same : (k : ℕ) (vs ws : List (Value Name)) → list k vs → list k ws → vs ≡ ws) where
    -- each thing that a value is was reached, or it is a list of such members
    pub data Covered : Value Name → Type 0 where
      alone : {x : Value Name} → ((t : Thing) → IsAmong t (Of x) → Reached t) → Covered x
      listed : {x : Value Name} (k : ℕ) (vs : List (Value Name)) → x ≡ Items k → list k vs → ((y : Value Name) → IsAmong y vs → Covered y) → Covered x

    -- ---- what a value leads to

    pub name_covered : (n : Name) → Covered (Ref n) → Reached (AName (show.shown_name draws n))
    unfolding show.shown_value things_of
    name_covered n (alone f) = f (AName (show.shown_name draws n)) (inl refl)
    name_covered n (listed k vs e h f) = cc

    view_reached : (n q : Name) → IsAmong (Here v (Views n q)) es → Reached (AName (show.shown_name draws n)) → (t : Thing) → IsAmong t (Of (Ref q)) → Reached t
    unfolding show.shown_value things_of
    view_reached n q i r t (inl e) = subst Reached e (reached_on (AName (show.shown_name draws n)) (AName (show.shown_name draws q)) (views_lead draws es v n q i) r)
    view_reached n q i r t (inr j) = absurd j

    pub leads_covered : (line : Happened Name → Type 0) → ((e : Happened Name) → line e → IsAmong (Here v e) es) → (x y : Value Name) → LeadsTo line x y → Covered x → Covered y
    leads_covered line f x y itself c = c
    leads_covered line f x z (settled n y i l) c = leads_covered line f y z l (alone (λ t j. reached_on (AName (show.shown_name draws n)) t (settles_lead draws es v n y t (f (Settles n y) i) j) (name_covered n c)))
    leads_covered line f x z (viewed n q i l) c = leads_covered line f (Ref q) z l (alone (view_reached n q (f (Views n q) i) (name_covered n c)))

    -- ---- what came

    plain_came : (y : Value Name) → NoItems y → ((n : ShownName) → IsAmong (AName n) (parts (show.shown_passed draws (Plain y))) → Reached (AName n)) → (t : Thing) → IsAmong t (Of y) → Reached t
    unfolding show.shown_passed show.shown_value things_of
    plain_came (Ref m) k g t (inl e) = subst Reached e (g (show.shown_name draws m) (inl refl))
    plain_came (Ref m) k g t (inr i) = absurd i
    plain_came (Items j) k g t i = absurd k
    plain_came other k g t i = absurd i

    gift_came : (h j : ℕ) → ((n : ShownName) → IsAmong (AName n) (parts (show.shown_passed draws (AGift h j))) → Reached (AName n)) → (t : Thing) → IsAmong t (Of (Ref (Gift h j))) → Reached t
    unfolding show.shown_passed show.shown_value show.shown_name things_of
    gift_came h j g t (inl e) = subst Reached e (g (show.shown_gift draws h j) (inl refl))
    gift_came h j g t (inr i) = absurd i

    mutual
      unfolding show.shown_all

      name_came : (y : Passed Name) (x : Value Name) → ComesAs list y x → NoList y → ((n : ShownName) → IsAmong (AName n) (parts (show.shown_passed draws y)) → Reached (AName n)) → Covered x
      name_came (Plain y) x c k g = alone (λ t i. plain_came y k g t (subst (λ z. IsAmong t (Of z)) c i))
      name_came (AGift h j) x c k g = alone (λ t i. gift_came h j g t (subst (λ z. IsAmong t (Of z)) c i))
      name_came (Many ys) x c k g = listed c.0 c.1 c.2 c.3 (names_came ys c.1 c.4 k (λ n i. g n (subst (λ ts. IsAmong (AName n) ts) (sym (many_parts draws ys)) i)))

      pub names_came : (ys : Passeds Name) (xs : List (Value Name)) → ComeAll list ys xs → NoLists ys → ((n : ShownName) → IsAmong (AName n) (all_parts (show.shown_all draws ys)) → Reached (AName n)) → (x : Value Name) → IsAmong x xs → Covered x
      names_came NoMore [] c k g x i = absurd i
      names_came (More y ys) (z ∷ xs) c k g x (inl e) = subst Covered e (name_came y z c.0 k.0 (λ n j. g n (among_left (AName n) (parts (show.shown_passed draws y)) (all_parts (show.shown_all draws ys)) j)))
      names_came (More y ys) (z ∷ xs) c k g x (inr i) = names_came ys xs c.1 k.1 (λ n j. g n (among_right (AName n) (parts (show.shown_passed draws y)) (all_parts (show.shown_all draws ys)) j)) x i
      names_came NoMore (z ∷ xs) c k g x i = absurd c
      names_came (More y ys) [] c k g x i = absurd c

    -- ---- what passes

    -- a gift, or reached
    abbrev pub May : ShownName → Type 0
    May n = (is_gift n ≡ true) ⊎ Reached (AName n)

    -- each member of a list that was reached
    pub in_all : (t : Thing) (y : Value Name) (vs : List (Value Name)) → IsAmong y vs → IsAmong t (Of y) → IsAmong t (things (show.shown_values draws v vs))
    unfolding show.shown_values
    in_all t y [] i j = absurd i
    in_all t y (z ∷ vs) (inl e) j = among_left t (Of z) (things (show.shown_values draws v vs)) (subst (λ u. IsAmong t (Of u)) (sym e) j)
    in_all t y (z ∷ vs) (inr i) j = among_right t (Of z) (things (show.shown_values draws v vs)) (in_all t y vs i j)

    member_reached : (k : ℕ) (vs : List (Value Name)) → list k vs → Reached (AList v k) → (y : Value Name) → IsAmong y vs → Covered y
    member_reached k vs h r y i = alone (λ t j. onward (record { way = Listed; from = AList v k; to = t }) (list_leads draws es v k vs t (told k vs h) (in_all t y vs i j)) tt r)

    list_number : (k l : ℕ) → ◌≡◌ {A = Value Name} (Items k) (Items l) → k ≡ l
    list_number k l e = cc

    members_covered : (k : ℕ) (vs : List (Value Name)) → list k vs → Covered (Items k) → (y : Value Name) → IsAmong y vs → Covered y
    unfolding show.shown_value things_of
    members_covered k vs h (alone f) y i = member_reached k vs h (f (AList v k) (inl refl)) y i
    members_covered k vs h (listed l ws e g f) y i = f y (subst (λ us. IsAmong y us) (same l vs ws (subst (λ m. list m vs) (list_number k l e) h) g) i)

    named : (m n : ShownName) (ts : List Thing) → ts ≡ AName m ∷ [] → Reached (AName m) → IsAmong (AName n) ts → May n
    named m n ts e r i = only (subst (λ us. IsAmong (AName n) us) e i)
      where
        only : IsAmong (AName n) (AName m ∷ []) → May n
        only (inl q) = inr (subst Reached q r)
        only (inr j) = absurd j

    shown_name_is : (m n : ShownName) → AName m ≡ AName n → m ≡ n
    shown_name_is m n e = cc

    gift_is : (h i : ℕ) (n : ShownName) → IsAmong (AName n) (things_of (show.shown_value draws v (Ref (Gift h i)))) → is_gift n ≡ true
    unfolding show.shown_value show.shown_name show.shown_gift things_of is_gift
    gift_is h i n (inl q) = subst (λ z. is_gift z ≡ true) (shown_name_is (name.Gift h (show.place_of draws (word_of i))) n q) refl
    gift_is h i n (inr j) = absurd j

    list_covered : (k : ℕ) (vs : List (Value Name)) → list k vs ⊎ (vs ≡ []) → Covered (Items k) → (y : Value Name) → IsAmong y vs → Covered y
    list_covered k vs (inl h) c y i = members_covered k vs h c y i
    list_covered k vs (inr e) c y i = absurd (subst (λ us. IsAmong y us) e i)

    module _ (line : Happened Name → Type 0) (shows : (e : Happened Name) → line e → IsAmong (Here v e) es) (opened : ℕ → ℕ → Name → Type 0) (gone : Name → Type 0) where
      plain_passes : (x y : Value Name) → PassesAs line list opened gone x (Plain y) → Covered x → (n : ShownName) → IsAmong (AName n) (things_of (show.shown_value draws 0 y)) → May n
      unfolding show.shown_value things_of
      plain_passes x (Ref m) h c n i = named (show.shown_name draws m) n (AName (show.shown_name draws m) ∷ []) refl (name_covered m (leads_covered line shows x (Ref m) h c)) i
      plain_passes x (Items j) h c n i = absurd h
      plain_passes x other h c n i = absurd i

      mutual
        unfolding show.shown_all

        passes_may : (x : Value Name) (y : Passed Name) → PassesAs line list opened gone x y → Covered x → (n : ShownName) → IsAmong (AName n) (parts (show.shown_passed draws y)) → May n
        passes_may x (Plain y) h c n i = plain_passes x y h c n (subst (λ ts. IsAmong (AName n) ts) (plain_parts draws y) i)
        passes_may x (AGift w j) h c n i = inl (gift_is w j n (subst (λ ts. IsAmong (AName n) ts) (gift_parts draws w j v) i))
        passes_may x (Many ys) h c n i = all_pass h.1 ys h.4 (list_covered h.0 h.1 h.3 (leads_covered line shows x (Items h.0) h.2 c)) n (subst (λ ts. IsAmong (AName n) ts) (many_parts draws ys) i)

        pub all_pass : (xs : List (Value Name)) (ys : Passeds Name) → PassAll line list opened gone xs ys → ((x : Value Name) → IsAmong x xs → Covered x) → (n : ShownName) → IsAmong (AName n) (all_parts (show.shown_all draws ys)) → May n
        all_pass [] NoMore h c n i = absurd i
        all_pass (x ∷ xs) (More y ys) h c n i = either (among_either (AName n) (parts (show.shown_passed draws y)) (all_parts (show.shown_all draws ys)) i) (passes_may x y h.0 (c x (inl refl)) n) (all_pass xs ys h.1 (λ z j. c z (inr j)) n)
          where
            either : IsAmong (AName n) (parts (show.shown_passed draws y)) ⊎ IsAmong (AName n) (all_parts (show.shown_all draws ys)) → (IsAmong (AName n) (parts (show.shown_passed draws y)) → May n) → (IsAmong (AName n) (all_parts (show.shown_all draws ys)) → May n) → May n
            either (inl j) f g = f j
            either (inr j) f g = g j
        all_pass [] (More y ys) h c n i = absurd h
        all_pass (x ∷ xs) NoMore h c n i = absurd h
