-- What a message comes with stands in what it was carried with, and that in what it comes with, lists taken apart.
use Rattle.std.proofs.Common.{◌≡◌, ℕ, List, [], ◌∷◌, ◌++◌, refl, sym, ap, ◌∙◌, subst, ◌⊎◌, inl, inr}
use Rattle.std.specs.Prelude.{◌↔◌}
use Rattle.ev_base.specs.declared.names.Name.{Name as ShownName}
use Rattle.def_event.specs.declared.shown.Shown.{Shown}
use Rattle.def_event.specs.declared.shown.Shown.TheViews.{roll-Shown}
use Rattle.def_event.specs.declared.shown.Shown.TheBlock.{hidden-the_row-Shown-0}
use denote.Hole.Carrier.{roll, hidden}
use Rattle.def_event.specs.Lines.{members}
use Rattle.def_machine.specs.Values.{Value, Null, Items, Ref, Name, Gift}
use Rattle.def_machine.specs.State.{Passed, Passeds, Plain, AGift, Many, NoMore, More, Happened}
use Rattle.def_run.specs.World.{Event}
use Rattle.def_run.specs.Shown as show
use Rattle.law_uses.specs.Connectivity.Stems.{PassesAs, PassAll, ComesAs, ComeAll}
use Rattle.def_event.specs.Uses.{IsAmong, Lead, Listed, Thing, AName, AList, Reaches, start, onward, IsListed, StandsIn, things_of, things, parts, all_parts}
use Rattle.law_uses.proofs.Uses.Shown.{among_left, among_right, among_either, lines, ListTold, list_leads, leads_listed}

-- ---- no list passes by its number

abbrev pub NoItems : Value Name → Type 0
NoItems (Items k) = ⊥
NoItems other = Unit {0}

abbrev mutual
  pub NoList : Passed Name → Type 0
  NoList (Plain y) = NoItems y
  NoList (AGift h i) = Unit {0}
  NoList (Many ys) = NoLists ys

  pub NoLists : Passeds Name → Type 0
  NoLists NoMore = Unit {0}
  NoLists (More y ys) = NoList y × NoLists ys

module _ (line : Happened Name → Type 0) (list : ℕ → List (Value Name) → Type 0) (opened : ℕ → ℕ → Name → Type 0) (gone : Name → Type 0) where
  mutual
    passes_no_list : (x : Value Name) (y : Passed Name) → PassesAs line list opened gone x y → NoList y
    passes_no_list x (Plain (Items k)) h = h
    passes_no_list x (Many ys) h = pass_no_lists h.1 ys h.4
    passes_no_list x other h = tt

    pub pass_no_lists : (xs : List (Value Name)) (ys : Passeds Name) → PassAll line list opened gone xs ys → NoLists ys
    pass_no_lists [] NoMore h = tt
    pass_no_lists (x ∷ xs) (More y ys) h = (passes_no_list x y h.0, pass_no_lists xs ys h.1)
    pass_no_lists [] (More y ys) h = absurd h
    pass_no_lists (x ∷ xs) NoMore h = absurd h

-- ---- the parts of what is shown

pub members_parts : (xs : List Shown) → parts (members xs) ≡ all_parts xs
unfolding roll-Shown roll hidden-the_row-Shown-0 hidden
members_parts [] = refl
members_parts (x ∷ xs) = ap (λ ts. parts x ++ ts) (members_parts xs)

module _ (draws : List ℕ) where
  pub value_parts : (v : ℕ) (x : Value Name) → parts (show.shown_value draws v x) ≡ things_of (show.shown_value draws v x)
  unfolding show.shown_value things_of
  value_parts v Null = refl
  value_parts v other = refl

  pub values_parts : (v : ℕ) (xs : List (Value Name)) → all_parts (show.shown_values draws v xs) ≡ things (show.shown_values draws v xs)
  unfolding show.shown_values
  values_parts v [] = refl
  values_parts v (x ∷ xs) = ap (λ ts. ts ++ all_parts (show.shown_values draws v xs)) (value_parts v x) ∙ ap (λ ts. things_of (show.shown_value draws v x) ++ ts) (values_parts v xs)

  list_is_no_name : (a k : ℕ) (n : ShownName) → AList a k ≡ AName n → ⊥
  list_is_no_name a k n e = cc

  -- a value that passes plain is one thing here and there
  pub plain_here : (v u : ℕ) (y : Value Name) (n : ShownName) → IsAmong (AName n) (things_of (show.shown_value draws v y)) → IsAmong (AName n) (things_of (show.shown_value draws u y))
  unfolding show.shown_value things_of
  plain_here v u (Items k) n (inl e) = absurd (list_is_no_name v k n e)
  plain_here v u (Items k) n (inr i) = absurd i
  plain_here v u other n i = i

  same_list : (v a k l : ℕ) → AList v k ≡ AList a l → (v ≡ a) × (k ≡ l)
  same_list v a k l e = (cc, cc)

  -- the value that is that list
  list_thing : (v : ℕ) (x : Value Name) (a k : ℕ) → IsAmong (AList a k) (things_of (show.shown_value draws v x)) → (v ≡ a) × (x ≡ Items k)
  unfolding show.shown_value things_of
  list_thing v (Items l) a k (inl e) = let s = same_list v a l k e in (s.0, ap Items s.1)
  list_thing v (Items l) a k (inr i) = absurd i
  list_thing v (Ref n) a k (inl e) = cc
  list_thing v (Ref n) a k (inr i) = absurd i
  list_thing v other a k i = absurd i

  pub many_parts : (ys : Passeds Name) → parts (show.shown_passed draws (Many ys)) ≡ all_parts (show.shown_all draws ys)
  unfolding show.shown_passed
  many_parts ys = members_parts (show.shown_all draws ys)

  pub gift_parts : (h i v : ℕ) → parts (show.shown_passed draws (AGift h i)) ≡ things_of (show.shown_value draws v (Ref (Gift h i)))
  unfolding show.shown_passed show.shown_value show.shown_name things_of
  gift_parts h i v = refl

  pub plain_parts : (y : Value Name) → parts (show.shown_passed draws (Plain y)) ≡ things_of (show.shown_value draws 0 y)
  unfolding show.shown_passed
  plain_parts y = value_parts 0 y

  no_items : (y : Value Name) (a k : ℕ) → NoItems y → IsAmong (AList a k) (things_of (show.shown_value draws 0 y)) → ⊥
  no_items y a k n i = subst NoItems (list_thing 0 y a k i).1 n

  mutual
    unfolding show.shown_all

    no_list_part : (y : Passed Name) (a k : ℕ) → NoList y → IsAmong (AList a k) (parts (show.shown_passed draws y)) → ⊥
    no_list_part (Plain y) a k n i = no_items y a k n (subst (λ ts. IsAmong (AList a k) ts) (plain_parts y) i)
    no_list_part (AGift h j) a k n i = no_items (Ref (Gift h j)) a k tt (subst (λ ts. IsAmong (AList a k) ts) (gift_parts h j 0) i)
    no_list_part (Many ys) a k n i = no_list_parts ys a k n (subst (λ ts. IsAmong (AList a k) ts) (many_parts ys) i)

    no_list_parts : (ys : Passeds Name) (a k : ℕ) → NoLists ys → IsAmong (AList a k) (all_parts (show.shown_all draws ys)) → ⊥
    no_list_parts NoMore a k n i = i
    no_list_parts (More y ys) a k n i = either (among_either (AList a k) (parts (show.shown_passed draws y)) (all_parts (show.shown_all draws ys)) i) (no_list_part y a k n.0) (no_list_parts ys a k n.1)
      where
        either : IsAmong (AList a k) (parts (show.shown_passed draws y)) ⊎ IsAmong (AList a k) (all_parts (show.shown_all draws ys)) → (IsAmong (AList a k) (parts (show.shown_passed draws y)) → ⊥) → (IsAmong (AList a k) (all_parts (show.shown_all draws ys)) → ⊥) → ⊥
        either (inl j) f g = f j
        either (inr j) f g = g j

-- Of vat v these lines tell the lists that it has, and each but once.
module _ (draws : List ℕ) (es : List Event) (v : ℕ) (list : ℕ → List (Value Name) → Type 0) (told : (k : ℕ) (vs : List (Value Name)) → list k vs → ListTold draws es v k vs)
    (same : (k : ℕ) (vs ws : List (Value Name)) → ListTold draws es v k vs → list k ws → vs ≡ ws) where
  -- the things of a value of the vat
  abbrev Of : Value Name → List Thing
  Of x = things_of (show.shown_value draws v x)

  list_of : (k : ℕ) (x : Value Name) → x ≡ Items k → IsAmong (AList v k) (Of x)
  unfolding show.shown_value things_of
  list_of k x e = subst (λ z. IsAmong (AList v k) (Of z)) (sym e) (inl refl)

  list_no_name : (n : ShownName) (k : ℕ) → IsAmong (AName n) (Of (Items k)) → ⊥
  unfolding show.shown_value things_of
  list_no_name n k (inl e) = list_is_no_name draws v k n e
  list_no_name n k (inr i) = i

  -- ---- what was carried stands in what comes

  module _ (Starts : Thing → Type 0) where
    abbrev Stands : Thing → Type 0
    Stands t = Reaches (lines draws es) Starts IsListed t

    mutual
      unfolding show.shown_all show.shown_values

      name_comes : (y : Passed Name) (x : Value Name) → ComesAs list y x → ((t : Thing) → IsAmong t (Of x) → Stands t) → (n : ShownName) → IsAmong (AName n) (parts (show.shown_passed draws y)) → Stands (AName n)
      name_comes (Plain y) x c g n i = g (AName n) (subst (λ z. IsAmong (AName n) (Of z)) (sym c) (plain_here draws 0 v y n (subst (λ ts. IsAmong (AName n) ts) (plain_parts draws y) i)))
      name_comes (AGift h j) x c g n i = g (AName n) (subst (λ z. IsAmong (AName n) (Of z)) (sym c) (subst (λ ts. IsAmong (AName n) ts) (gift_parts draws h j v) i))
      name_comes (Many ys) x c g n i = names_come ys c.1 c.4 (λ t j. onward (record { way = Listed; from = AList v c.0; to = t }) (list_leads draws es v c.0 c.1 t (told c.0 c.1 c.3) j) refl (g (AList v c.0) (list_of c.0 x c.2)))
          n (subst (λ ts. IsAmong (AName n) ts) (many_parts draws ys) i)

      names_come : (ys : Passeds Name) (xs : List (Value Name)) → ComeAll list ys xs → ((t : Thing) → IsAmong t (things (show.shown_values draws v xs)) → Stands t) → (n : ShownName) → IsAmong (AName n) (all_parts (show.shown_all draws ys)) → Stands (AName n)
      names_come NoMore [] c g n i = absurd i
      names_come (More y ys) (x ∷ xs) c g n i = either (among_either (AName n) (parts (show.shown_passed draws y)) (all_parts (show.shown_all draws ys)) i)
          (name_comes y x c.0 (λ t j. g t (among_left t (Of x) (things (show.shown_values draws v xs)) j)) n) (names_come ys xs c.1 (λ t j. g t (among_right t (Of x) (things (show.shown_values draws v xs)) j)) n)
        where
          either : IsAmong (AName n) (parts (show.shown_passed draws y)) ⊎ IsAmong (AName n) (all_parts (show.shown_all draws ys)) → (IsAmong (AName n) (parts (show.shown_passed draws y)) → Stands (AName n)) → (IsAmong (AName n) (all_parts (show.shown_all draws ys)) → Stands (AName n)) → Stands (AName n)
          either (inl j) f h = f j
          either (inr j) f h = h j
      names_come NoMore (x ∷ xs) c g n i = absurd c
      names_come (More y ys) [] c g n i = absurd c

  -- ---- what comes stands in what was carried

  -- it is of a value that came as a part of what was carried, whose names are among these
  abbrev Under : List Thing → Thing → Type 0
  Under ts t = (x : Value Name) × (y : Passed Name) × ComesAs list y x × NoList y × IsAmong t (Of x) × ((n : ShownName) → IsAmong (AName n) (parts (show.shown_passed draws y)) → IsAmong (AName n) ts)

  under_all : (ts : List Thing) (ys : Passeds Name) (xs : List (Value Name)) → ComeAll list ys xs → NoLists ys → (t : Thing) → IsAmong t (things (show.shown_values draws v xs)) → ((n : ShownName) → IsAmong (AName n) (all_parts (show.shown_all draws ys)) → IsAmong (AName n) ts) → Under ts t
  unfolding show.shown_all show.shown_values
  under_all ts NoMore [] c k t i g = absurd i
  under_all ts (More y ys) (x ∷ xs) c k t i g = either (among_either t (Of x) (things (show.shown_values draws v xs)) i) (λ j. under_all ts ys xs c.1 k.1 t j (λ n l. g n (among_right (AName n) (parts (show.shown_passed draws y)) (all_parts (show.shown_all draws ys)) l)))
    where
      either : IsAmong t (Of x) ⊎ IsAmong t (things (show.shown_values draws v xs)) → (IsAmong t (things (show.shown_values draws v xs)) → Under ts t) → Under ts t
      either (inl j) f = (x, y, c.0, k.0, j, λ n l. g n (among_left (AName n) (parts (show.shown_passed draws y)) (all_parts (show.shown_all draws ys)) l))
      either (inr j) f = f j
  under_all ts NoMore (x ∷ xs) c k t i g = absurd c
  under_all ts (More y ys) [] c k t i g = absurd c

  list_number : (k l : ℕ) → ◌≡◌ {A = Value Name} (Items k) (Items l) → k ≡ l
  list_number k l e = cc

  ref_no_list : (n : Name) (k : ℕ) → ◌≡◌ {A = Value Name} (Ref n) (Items k) → ⊥
  ref_no_list n k e = cc

  -- a member of a list that came
  under_member : (ts : List Thing) (x : Value Name) (y : Passed Name) (k : ℕ) (vs : List (Value Name)) → ListTold draws es v k vs → x ≡ Items k → ComesAs list y x → NoList y → ((n : ShownName) → IsAmong (AName n) (parts (show.shown_passed draws y)) → IsAmong (AName n) ts)
      → (t : Thing) → IsAmong t (things (show.shown_values draws v vs)) → Under ts t
  under_member ts x (Plain y) k vs h e c n g t i = absurd (subst NoItems (sym c ∙ e) n)
  under_member ts x (AGift w j) k vs h e c n g t i = absurd (ref_no_list (Gift w j) k (sym c ∙ e))
  under_member ts x (Many ys) k vs h e c n g t i = let is : c.0 ≡ k = list_number c.0 k (sym c.2 ∙ e) in let ws : vs ≡ c.1 = same k vs c.1 h (subst (λ l. list l c.1) is c.3) in
      under_all ts ys c.1 c.4 n t (subst (λ zs. IsAmong t (things (show.shown_values draws v zs))) ws i) (λ m j. g m (subst (λ us. IsAmong (AName m) us) (sym (many_parts draws ys)) j))

  under_lead : (ts : List Thing) (d : Lead) → Under ts d.from → (a k : ℕ) (vs : List (Value Name)) → ListTold draws es a k vs → d.from ≡ AList a k → IsAmong d.to (things (show.shown_values draws a vs)) → Under ts d.to
  under_lead ts d u a k vs h e i = let l = list_thing draws v u.0 a k (subst (λ t. IsAmong t (Of u.0)) e u.4) in
      under_member ts u.0 u.1 k vs (subst (λ w. ListTold draws es w k vs) (sym l.0) h) l.1 u.2 u.3 u.5 d.to (subst (λ w. IsAmong d.to (things (show.shown_values draws w vs))) (sym l.0) i)

  under_reached : (ts : List Thing) (Starts : Thing → Type 0) → ((t : Thing) → Starts t → Under ts t) → (t : Thing) → Reaches (lines draws es) Starts IsListed t → Under ts t
  under_reached ts Starts f t (start s) = f t s
  under_reached ts Starts f t (onward d l w r) = let m = leads_listed draws es d w l in under_lead ts d (under_reached ts Starts f d.from r) m.0 m.1 m.2 m.3 m.4 m.5

  under_name : (ts : List Thing) (n : ShownName) → Under ts (AName n) → IsAmong (AName n) ts
  under_name ts n u = at u.0 u.1 u.2 u.4 u.5
    where
      at : (x : Value Name) (y : Passed Name) → ComesAs list y x → IsAmong (AName n) (Of x) → ((m : ShownName) → IsAmong (AName m) (parts (show.shown_passed draws y)) → IsAmong (AName m) ts) → IsAmong (AName n) ts
      at x (Plain y) c i g = g n (subst (λ us. IsAmong (AName n) us) (sym (plain_parts draws y)) (plain_here draws v 0 y n (subst (λ z. IsAmong (AName n) (Of z)) c i)))
      at x (AGift h j) c i g = g n (subst (λ us. IsAmong (AName n) us) (sym (gift_parts draws h j v)) (subst (λ z. IsAmong (AName n) (Of z)) c i))
      at x (Many ys) c i g = absurd (list_no_name n c.0 (subst (λ z. IsAmong (AName n) (Of z)) c.2 i))

  -- ---- both

  names_alone : (ys : Passeds Name) → NoLists ys → (t : Thing) → Reaches (lines draws es) (λ u. IsAmong u (all_parts (show.shown_all draws ys))) IsListed t → IsAmong t (all_parts (show.shown_all draws ys))
  names_alone ys k t (start s) = s
  names_alone ys k t (onward d l w r) = let m = leads_listed draws es d w l in absurd (no_list_parts draws ys m.0 m.1 k (subst (λ u. IsAmong u (all_parts (show.shown_all draws ys))) m.4 (names_alone ys k d.from r)))

  pub stands_same : (ys : Passeds Name) (xs : List (Value Name)) → ComeAll list ys xs → NoLists ys → (n : ShownName) → StandsIn (lines draws es) (all_parts (show.shown_values draws v xs)) n ↔ StandsIn (lines draws es) (all_parts (show.shown_all draws ys)) n
  stands_same ys xs c k n = let ts : List Thing = all_parts (show.shown_all draws ys) in (
    λ h. start (under_name ts n (under_reached ts (λ t. IsAmong t (all_parts (show.shown_values draws v xs))) (λ t s. under_all ts ys xs c k t (subst (λ us. IsAmong t us) (values_parts draws v xs) s) (λ m j. j)) (AName n) h)),
    λ h. names_come (λ t. IsAmong t (all_parts (show.shown_values draws v xs))) ys xs c (λ t i. start (subst (λ us. IsAmong t us) (sym (values_parts draws v xs)) i)) n (names_alone ys k (AName n) h),
  )
