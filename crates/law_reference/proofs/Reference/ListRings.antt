-- Where members lead after a change of how one name stands, and that no such change closes a ring of lists.
use Rattle.std.proofs.Common.{◌≡◌, ℕ, zero, suc, Bool, true, false, List, [], ◌∷◌, Option, Some, None, refl, sym, ap, subst, ◌∙◌, ◌⊎◌, inl, inr, length}
use Rattle.def_machine.specs.Values.{Value, Items, Ref, Name, Naming}
use Rattle.def_machine.specs.State.{Message, Standing, WaitsOn, Viewed, Settled, Known, Change, Hold, Wait, WaitOn, See, React, ToTell, Settle, Vat, with_change, changed, changed_to}
use Rattle.def_machine.specs.Native.{list_at}
use Rattle.def_machine.specs.Refs.{entry_of, standing_of, follow_at, follow, severed, any_of, reached, reaches, cut_cycle, target_of}
use Rattle.law_machine.specs.Machine.Breaks.{still_waits}
use Rattle.law_frozen.specs.Frozen.{IsAmong}
use Rattle.law_reference.proofs.Reference.Entries.{SameOr, same_or}
use Rattle.law_reference.proofs.Reference.ListChains.{reaches_within}
use Rattle.law_reference.specs.Reference.Lists.{Leads, LeadsIn, NoListLeadsBack, IsEnd, IsTested}
use Rattle.law_reference.proofs.Reference.Following.{broken_list, settled_new, stands_or, length_changed, standing_same, standing_found, waits_stays, Moves, LeadsOn, WaitedIf, follows_or, settled_on, viewed_on, waited_on, severed_list, list_severed, list_followed}

first_true : (b c : Bool) → b ≡ true → (elim b [ true ↦ true | false ↦ c ]) ≡ true
first_true b c e = rw e refl

later_true : (b c : Bool) → c ≡ true → (elim b [ true ↦ true | false ↦ c ]) ≡ true
later_true true c e = refl
later_true false c e = e

true_false : (b : Bool) → b ≡ true → b ≡ false → ⊥
true_false b e f = let both : true ≡ false = sym e ∙ f in cc

view_settles : (g : Name) (y : Value Name) → Viewed g ≡ Settled y → ⊥
view_settles g y e = cc

wait_settles : (g : Name) (y : Value Name) → WaitsOn g ≡ Settled y → ⊥
wait_settles g y e = cc

value_same : (x y : Value Name) → Settled x ≡ Settled y → x ≡ y
value_same x y e = cc

module _ (K : Naming Name Name) where
  -- ---- ways

  pub join : (d e : ℕ) (s : Vat Name) (x y z : Value Name) → LeadsIn K d s x y → LeadsIn K (suc e) s y z → (f : ℕ) × LeadsIn K (suc f) s x z
  join zero e s x y z h i = (e, subst (λ w. LeadsIn K (suc e) s w z) (sym h) i)
  join (suc d) e s x y z h i = let rest = join d e s h.0 y z h.2 i in (suc rest.0, (h.0, h.1, rest.1))

  -- what leads to a list is one
  pub list_only : (d : ℕ) (t : Vat Name) (z : Value Name) (b : ℕ) → LeadsIn K d t z (Items b) → (c : ℕ) × (z ≡ Items c)
  list_only zero t z b h = (b, h)
  list_only (suc d) t (Items c) b h = (c, refl)
  list_only (suc d) t other b h = absurd h.1

  -- ---- the test

  any_true : (f : Value Name → Bool) (vs : List (Value Name)) (v : Value Name) → IsAmong v vs → f v ≡ true → any_of K f vs ≡ true
  unfolding any_of
  any_true f [] v a e = absurd a
  any_true f (x ∷ xs) v (inl i) e = first_true (f x) (any_of K f xs) (ap f (sym i) ∙ e)
  any_true f (x ∷ xs) v (inr a) e = later_true (f x) (any_of K f xs) (any_true f xs v a e)

  leads_test : (p : Name) → K.same p p ≡ true → (e : ℕ) (s : Vat Name) (z : Value Name) → LeadsIn K e s z (Ref p) → reached K (any_of K (λ v. reaches K e s p v)) s.lists p z ≡ true
  unfolding reached reaches
  leads_test p self zero s z h = subst (λ w. reached K (any_of K (λ v. reaches K zero s p v)) s.lists p w ≡ true) (sym h) self
  leads_test p self (suc e) s (Items k) h = any_true (λ v. reaches K (suc e) s p v) (list_at s.lists k) h.1.0 h.1.1 (subst (λ w. reached K (any_of K (λ v. reaches K e s p v)) s.lists p w ≡ true) (sym h.1.2) (leads_test p self e s h.0 h.2))
  leads_test p self (suc e) s other h = absurd h.1

  -- where members lead from a list to a name, the test finds it
  found : (p : Name) → K.same p p ≡ true → (e : ℕ) (s : Vat Name) (c : ℕ) → LeadsIn K e s (Items c) (Ref p) → reaches K (suc (length s.lists)) s p (Items c) ≡ true
  unfolding reaches
  found p self e s c h = reaches_within K s p (suc e) (Items c) (subst (λ w. reached K (any_of K (λ v. reaches K e s p v)) s.lists p w ≡ true) (sym (list_followed K s c)) (leads_test p self e s (Items c) h))

  cut_false : (b : Bool) (k c : ℕ) → cut_cycle K b (Items k) ≡ Items c → (b ≡ false) × (k ≡ c)
  unfolding cut_cycle
  cut_false true k c e = absurd (broken_list _ c e)
  cut_false false k c e = let same : k ≡ c = cc in (refl, same)

  -- what a name settles to behind the test leads nowhere back
  untested : (s : Vat Name) (p : Name) (x : Value Name) (c : ℕ) → target_of K s p x ≡ Items c → reaches K (suc (length s.lists)) s p (Items c) ≡ false
  unfolding target_of
  untested s p (Items k) c e = let h = cut_false (reaches K (suc (length s.lists)) s p (Items k)) k c e in subst (λ j. reaches K (suc (length s.lists)) s p (Items j) ≡ false) h.1 h.0
  untested s p other c e = cc

  -- ---- one name stands otherwise

  module _ (s : Vat Name) (ls : List (Known Name)) (p : Name) (new : Standing Name) (moves : Moves K s.known ls p new) (on : LeadsOn K s.known ls p new moves) (waited : WaitedIf K s.known ls p new moves) (count : length ls ≡ length s.known) (own : (k : ℕ) → new ≡ Settled (Items k) → follow K s (Ref p) ≡ Ref p) where
    abbrev After : Vat Name
    After = record s { known = ls }

    own_severed : (k : ℕ) → new ≡ Settled (Items k) → severed K s (Ref p) ≡ Ref p
    unfolding follow
    own_severed k e = sym (ap (severed K s) (waits_stays K (suc (length s.known)) s.known p (waited k e))) ∙ own k e

    follow_as : (v : Value Name) (y : Value Name) → follow_at K (suc (length s.known)) s.known v ≡ y → follow K s v ≡ severed K s y
    unfolding follow
    follow_as v y e = ap (severed K s) e

    after_at : (v : Value Name) (k : ℕ) → follow K After v ≡ Items k → follow_at K (suc (length s.known)) ls v ≡ Items k
    unfolding follow
    after_at v k e = subst (λ n. follow_at K (suc n) ls v ≡ Items k) count (severed_list K After (follow_at K (suc (length ls)) ls v) k e)

    followed : (v : Value Name) (k : ℕ) → follow K After v ≡ Items k → (follow K s v ≡ Items k) ⊎ ((follow K s v ≡ Ref p) × (new ≡ Settled (Items k)))
    followed v k e = pick (follows_or K s.known ls p new moves on waited (suc (length s.known)) v k (after_at v k e))
      where
        pick : (follow_at K (suc (length s.known)) s.known v ≡ Items k) ⊎ ((follow_at K (suc (length s.known)) s.known v ≡ Ref p) × (new ≡ Settled (Items k))) → (follow K s v ≡ Items k) ⊎ ((follow K s v ≡ Ref p) × (new ≡ Settled (Items k)))
        pick (inl i) = inl (follow_as v (Items k) i ∙ list_severed K s k)
        pick (inr i) = inr (follow_as v (Ref p) i.0 ∙ own_severed k i.1, i.1)

    leads_or : (a b : ℕ) → Leads K After (Items a) (Items b) → (Leads K s (Items a) (Items b)) ⊎ (Leads K s (Items a) (Ref p) × (new ≡ Settled (Items b)))
    leads_or a b h = pick (followed h.0 b h.2)
      where
        pick : (follow K s h.0 ≡ Items b) ⊎ ((follow K s h.0 ≡ Ref p) × (new ≡ Settled (Items b))) → (Leads K s (Items a) (Items b)) ⊎ (Leads K s (Items a) (Ref p) × (new ≡ Settled (Items b)))
        pick (inl i) = inl (h.0, h.1, i)
        pick (inr i) = inr ((h.0, h.1, i.0), i.1)

    -- it leads to the name, and on from the list to which that settled
    abbrev Through : ℕ → ℕ → Type 0
    Through a b = ((e : ℕ) × LeadsIn K (suc e) s (Items a) (Ref p)) × ((c : ℕ) × (new ≡ Settled (Items c)) × ((d : ℕ) × LeadsIn K d After (Items c) (Items b)))

    way_on : (d a b c : ℕ) → ((a c : ℕ) → LeadsIn K d After (Items a) (Items c) → (LeadsIn K d s (Items a) (Items c)) ⊎ Through a c) → LeadsIn K d After (Items c) (Items b) → (Leads K s (Items a) (Items c)) ⊎ (Leads K s (Items a) (Ref p) × (new ≡ Settled (Items c)))
        → (LeadsIn K (suc d) s (Items a) (Items b)) ⊎ Through a b
    way_on d a b c f r (inl l) = pick (f c b r)
      where
        pick : (LeadsIn K d s (Items c) (Items b)) ⊎ Through c b → (LeadsIn K (suc d) s (Items a) (Items b)) ⊎ Through a b
        pick (inl i) = inl (Items c, l, i)
        pick (inr i) = inr ((suc i.0.0, (Items c, l, i.0.1)), i.1)
    way_on d a b c f r (inr l) = inr ((zero, (Ref p, l.0, refl)), (c, l.1, (d, r)))

    way : (d a b : ℕ) → LeadsIn K d After (Items a) (Items b) → (LeadsIn K d s (Items a) (Items b)) ⊎ Through a b
    way zero a b h = inl h
    way (suc d) a b h = let c = list_only d After h.0 b h.2 in way_on d a b c.0 (way d) (subst (λ z. LeadsIn K d After z (Items b)) c.1 h.2) (leads_or a c.0 (subst (λ z. Leads K After (Items a) z) c.1 h.1))

    -- where the list to which the name settles does not lead to the name, no ring is closed
    pub closes_none : ((c : ℕ) → new ≡ Settled (Items c) → (e : ℕ) → LeadsIn K (suc e) s (Items c) (Ref p) → ⊥) → NoListLeadsBack K s → NoListLeadsBack K After
    closes_none apart none k d h = pick (way (suc d) k k h)
      where
        back : (c : ℕ) → new ≡ Settled (Items c) → (e : ℕ) → LeadsIn K (suc e) s (Items k) (Ref p) → (f : ℕ) → (LeadsIn K f s (Items c) (Items k)) ⊎ Through c k → ⊥
        back c y e l f (inl i) = let all = join f e s (Items c) (Items k) (Ref p) i l in apart c y all.0 all.1
        back c y e l f (inr i) = apart c y i.0.0 i.0.1

        pick : (LeadsIn K (suc d) s (Items k) (Items k)) ⊎ Through k k → ⊥
        pick (inl i) = none k d i
        pick (inr i) = back i.1.0 i.1.1 i.0.0 i.0.1 i.1.2.0 (way i.1.2.0 i.1.0 k i.1.2.1)

  -- ---- each change

  module _ (is : (a b : Name) → K.same a b ≡ true → a ≡ b) where
    name_head : (b : Bool) (k0 k : Known Name) (n : Name) (o : Option (Known Name)) → (b ≡ true → k0.name ≡ n) → ◌≡◌ {A = Option (Known Name)} (elim b [ true ↦ Some k0 | false ↦ o ]) (Some k) → (o ≡ Some k → k.name ≡ n) → k.name ≡ n
    name_head true k0 k n o f e g = let same : k0 ≡ k = cc in ap (λ (x : Known Name). x.name) (sym same) ∙ f refl
    name_head false k0 k n o f e g = g e

    entry_name : (ks : List (Known Name)) (n : Name) (k : Known Name) → entry_of K ks n ≡ Some k → k.name ≡ n
    unfolding entry_of
    entry_name [] n k e = cc
    entry_name (k0 ∷ ks) n k e = name_head (K.same k0.name n) k0 k n (entry_of K ks n) (is k0.name n) e (λ h. entry_name ks n k h)

    self_head : (b : Bool) (k0 k : Known Name) (n : Name) (o : Option (Known Name)) → K.same k0.name n ≡ b → ◌≡◌ {A = Option (Known Name)} (elim b [ true ↦ Some k0 | false ↦ o ]) (Some k) → (o ≡ Some k → K.same n n ≡ true) → K.same n n ≡ true
    self_head true k0 k n o e h g = ap (λ m. K.same m n) (sym (is k0.name n e)) ∙ e
    self_head false k0 k n o e h g = g h

    -- a name that is found is the same as itself
    known_self : (ks : List (Known Name)) (n : Name) (k : Known Name) → entry_of K ks n ≡ Some k → K.same n n ≡ true
    unfolding entry_of
    known_self [] n k e = cc
    known_self (k0 ∷ ks) n k e = self_head (K.same k0.name n) k0 k n (entry_of K ks n) refl e (λ h. known_self ks n k h)

    none_head : (b : Bool) (k0 : Known Name) (o : Option (Known Name)) (c : Change Name) (ks ls : List (Known Name)) → ◌≡◌ {A = Option (Known Name)} (elim b [ true ↦ Some k0 | false ↦ o ]) None → (o ≡ None → ls ≡ ks)
        → ◌≡◌ {A = List (Known Name)} (elim b [ true ↦ changed c k0 ∷ ks | false ↦ k0 ∷ ls ]) (k0 ∷ ks)
    none_head true k0 o c ks ls e f = cc
    none_head false k0 o c ks ls e f = ap (λ x. k0 ∷ x) (f e)

    with_none : (c : Change Name) (p : Name) (ks : List (Known Name)) → entry_of K ks p ≡ None → with_change K c p ks ≡ ks
    unfolding entry_of with_change
    with_none c p [] e = refl
    with_none c p (k0 ∷ ks) e = none_head (K.same k0.name p) k0 (entry_of K ks p) c ks (with_change K c p ks) e (with_none c p ks)

    moves_at : (c : Change Name) (p n : Name) (ks ls : List (Known Name)) (new : Standing Name) → ((k : Known Name) → entry_of K ks p ≡ Some k → ((changed c k).standing ≡ k.standing) ⊎ ((changed c k).standing ≡ new)) → SameOr K c p ks ls n
        → (standing_of K ls n ≡ standing_of K ks n) ⊎ ((n ≡ p) × (standing_of K ls n ≡ new))
    moves_at c p n ks ls new f (inl e) = inl (standing_same K ks ls n e)
    moves_at c p n ks ls new f (inr x) = pick (f x.0 x.2)
      where
        pick : ((changed c x.0).standing ≡ x.0.standing) ⊎ ((changed c x.0).standing ≡ new) → (standing_of K ls n ≡ standing_of K ks n) ⊎ ((n ≡ p) × (standing_of K ls n ≡ new))
        pick (inl i) = inl (standing_found K ls n (changed c x.0) x.3 ∙ i ∙ sym (standing_found K ks n x.0 x.1))
        pick (inr i) = inr (sym (entry_name ks n x.0 x.1) ∙ entry_name ks p x.0 x.2, standing_found K ls n (changed c x.0) x.3 ∙ i)

    pub moves_by : (c : Change Name) (p : Name) (ks : List (Known Name)) (new : Standing Name) → ((k : Known Name) → entry_of K ks p ≡ Some k → ((changed c k).standing ≡ k.standing) ⊎ ((changed c k).standing ≡ new)) → Moves K ks (with_change K c p ks) p new
    moves_by c p ks new f n = moves_at c p n ks (with_change K c p ks) new f (same_or K c p n ks)

    -- a name that is viewed, or waits
    stands_none : (s : Vat Name) (c : Change Name) (p : Name) (new : Standing Name) (moves : Moves K s.known (with_change K c p s.known) p new) → LeadsOn K s.known (with_change K c p s.known) p new moves → ((y : Value Name) → new ≡ Settled y → ⊥) → NoListLeadsBack K s → NoListLeadsBack K (record s { known = with_change K c p s.known })
    stands_none s c p new moves on not = closes_none s (with_change K c p s.known) p new moves on (λ k e. absurd (not (Items k) e)) (length_changed K c p s.known) (λ k e. absurd (not (Items k) e)) (λ k e. absurd (not (Items k) e))

    pub sees : (s : Vat Name) (g p : Name) → still_waits (standing_of K s.known g) ≡ true → NoListLeadsBack K s → NoListLeadsBack K (record s { known = with_change K (See g) p s.known })
    unfolding changed_to
    sees s g p w = let moves : Moves K s.known (with_change K (See g) p s.known) p (Viewed g) = moves_by (See g) p s.known (Viewed g) (λ k e. stands_or (See g) k (Viewed g) refl) in
        stands_none s (See g) p (Viewed g) moves (viewed_on K s.known (with_change K (See g) p s.known) p g moves w) (view_settles g)

    pub waits : (s : Vat Name) (q p : Name) → NoListLeadsBack K s → NoListLeadsBack K (record s { known = with_change K (WaitOn q) p s.known })
    unfolding changed_to
    waits s q p = let moves : Moves K s.known (with_change K (WaitOn q) p s.known) p (WaitsOn q) = moves_by (WaitOn q) p s.known (WaitsOn q) (λ k e. stands_or (WaitOn q) k (WaitsOn q) refl) in
        stands_none s (WaitOn q) p (WaitsOn q) moves (waited_on K s.known (with_change K (WaitOn q) p s.known) p q moves) (wait_settles q)

    -- a change by which no name stands otherwise
    rests : (s : Vat Name) (c : Change Name) (p : Name) → ((k : Known Name) → (changed_to c k).standing ≡ k.standing) → NoListLeadsBack K s → NoListLeadsBack K (record s { known = with_change K c p s.known })
    rests s c p f = let moves : Moves K s.known (with_change K c p s.known) p (WaitsOn p) = moves_by c p s.known (WaitsOn p) (λ k e. inl (same (stands_or c k k.standing (f k)))) in
        stands_none s c p (WaitsOn p) moves (waited_on K s.known (with_change K c p s.known) p p moves) (wait_settles p)
      where
        same : {A : Type 0} → A ⊎ A → A
        same (inl a) = a
        same (inr a) = a

    settle_known : (s : Vat Name) (p : Name) (x y : Value Name) (k : Known Name) → entry_of K s.known p ≡ Some k → y ≡ target_of K s p x → ((n : Name) → y ≡ Ref n → still_waits (standing_of K s.known n) ≡ true) → still_waits (standing_of K s.known p) ≡ true → follow K s (Ref p) ≡ Ref p
        → NoListLeadsBack K s → NoListLeadsBack K (record s { known = with_change K (Settle y) p s.known })
    settle_known s p x y k e t ends w own = let moves : Moves K s.known (with_change K (Settle y) p s.known) p (Settled y) = moves_by (Settle y) p s.known (Settled y) (λ j i. inr (settled_new y j (sym (ap still_waits (standing_found K s.known p j i)) ∙ w))) in
        closes_none s (with_change K (Settle y) p s.known) p (Settled y) moves (settled_on K s.known (with_change K (Settle y) p s.known) p y moves ends) (λ j i. w) (length_changed K (Settle y) p s.known) (λ j i. own)
        (λ c i f l. true_false (reaches K (suc (length s.lists)) s p (Items c)) (found p (known_self s.known p k e) (suc f) s c l) (untested s p x c (sym t ∙ value_same y (Items c) i)))

    settles : (s : Vat Name) (p : Name) (x y : Value Name) (o : Option (Known Name)) → entry_of K s.known p ≡ o → y ≡ target_of K s p x → ((n : Name) → y ≡ Ref n → still_waits (standing_of K s.known n) ≡ true) → still_waits (standing_of K s.known p) ≡ true → follow K s (Ref p) ≡ Ref p
        → NoListLeadsBack K s → NoListLeadsBack K (record s { known = with_change K (Settle y) p s.known })
    settles s p x y None e t ends w own none = subst (λ ks. NoListLeadsBack K (record s { known = ks })) (sym (with_none (Settle y) p s.known e)) none
    settles s p x y (Some k) e t ends w own none = settle_known s p x y k e t ends w own none

    pub settle_closes_none : (s : Vat Name) (y : Value Name) (p : Name) → IsEnd K s y → IsTested K s y p → NoListLeadsBack K s → NoListLeadsBack K (record s { known = with_change K (Settle y) p s.known })
    settle_closes_none s y p ends h none = settles s p h.0 y (entry_of K s.known p) refl h.1 ends h.2 h.3 none

    -- what is no list may settle as it is
    pub plain_closes_none : (s : Vat Name) (y : Value Name) (p : Name) → IsEnd K s y → ((c : ℕ) → y ≡ Items c → ⊥) → NoListLeadsBack K s → NoListLeadsBack K (record s { known = with_change K (Settle y) p s.known })
    unfolding changed_to
    plain_closes_none s y p ends not = let ls : List (Known Name) = with_change K (Settle y) p s.known in let moves : Moves K s.known ls p (Settled y) = moves_by (Settle y) p s.known (Settled y) (λ k e. stands_or (Settle y) k (Settled y) refl) in
        closes_none s ls p (Settled y) moves (settled_on K s.known ls p y moves ends) (λ k e. absurd (not k (value_same y (Items k) e))) (length_changed K (Settle y) p s.known) (λ k e. absurd (not k (value_same y (Items k) e))) (λ k e. absurd (not k (value_same y (Items k) e)))

    pub hold_closes_none : (s : Vat Name) (m : Message Name) (p : Name) → NoListLeadsBack K s → NoListLeadsBack K (record s { known = with_change K (Hold m) p s.known })
    unfolding changed_to
    hold_closes_none s m p = rests s (Hold m) p (λ k. refl)

    pub wait_closes_none : (s : Vat Name) (q p : Name) → NoListLeadsBack K s → NoListLeadsBack K (record s { known = with_change K (Wait q) p s.known })
    unfolding changed_to
    wait_closes_none s q p = rests s (Wait q) p (λ k. refl)

    pub react_closes_none : (s : Vat Name) (m : Message Name) (p : Name) → NoListLeadsBack K s → NoListLeadsBack K (record s { known = with_change K (React m) p s.known })
    unfolding changed_to
    react_closes_none s m p = rests s (React m) p (λ k. refl)

    pub tell_closes_none : (s : Vat Name) (w : ℕ) (p : Name) → NoListLeadsBack K s → NoListLeadsBack K (record s { known = with_change K (ToTell w) p s.known })
    unfolding changed_to
    tell_closes_none s w p = rests s (ToTell w) p (λ k. refl)
