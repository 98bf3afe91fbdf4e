-- What a change of how one name stands makes of following.
use Rattle.std.proofs.Common.{◌≡◌, ℕ, zero, suc, Bool, true, false, List, [], ◌∷◌, Some, refl, sym, ap, ◌∙◌, ◌⊎◌, inl, inr, length}
use Rattle.def_machine.specs.Values.{Value, Null, Flag, Number, Letter, Text, Prim, Broken, Items, Ref, Name, Naming, Spot, Own, Foreign, NoObject}
use Rattle.def_machine.specs.State.{Standing, Unsettled, WaitsOn, Viewed, Settled, Known, Change, Settle, Vat, with_change, changed, changed_to, unless_settled, is_in}
use Rattle.def_machine.specs.Refs.{entry_of, standing_of, standing_in, host_at, led, follow_at, follow, severed, severed_at, severed_by}
use Rattle.law_machine.specs.Machine.Breaks.{still_waits}

pub no_true : false ≡ true → ⊥
no_true e = cc

pub name_list : (n : Name) (k : ℕ) → Ref n ≡ Items k → ⊥
name_list n k e = cc

pub broken_list : (t : List ℕ) (k : ℕ) → ◌≡◌ {A = Value Name} (Broken t) (Items k) → ⊥
broken_list t k e = cc

-- no name
abbrev pub IsPlain : Value Name → Type 0
IsPlain (Ref n) = ⊥
IsPlain other = Unit {0}

length_either : (b : Bool) (j k : Known Name) (ks js : List (Known Name)) → length js ≡ length ks → length {A = Known Name} (elim b [ true ↦ j ∷ ks | false ↦ k ∷ js ]) ≡ suc (length ks)
length_either true j k ks js e = refl
length_either false j k ks js e = ap suc e

-- ---- how a name stands

unless_new : (t : Standing Name) (k new : Known Name) → still_waits t ≡ true → unless_settled t k new ≡ new
unfolding unless_settled still_waits
unless_new (Settled y) k new e = absurd (no_true e)
unless_new other k new e = refl

-- a name that waits settles
pub settled_new : (y : Value Name) (k : Known Name) → still_waits k.standing ≡ true → (changed (Settle y) k).standing ≡ Settled y
unfolding changed changed_to
settled_new y k w = ap (λ (x : Known Name). x.standing) (unless_new k.standing k (changed_to (Settle y) k) w)

unless_or : (t : Standing Name) (k new : Known Name) → (unless_settled t k new ≡ k) ⊎ (unless_settled t k new ≡ new)
unfolding unless_settled
unless_or (Settled y) k new = inl refl
unless_or other k new = inr refl

-- another change leaves how it stands, or makes that of it
pub stands_or : (c : Change Name) (k : Known Name) (new : Standing Name) → ((changed_to c k).standing ≡ new) → ((changed c k).standing ≡ k.standing) ⊎ ((changed c k).standing ≡ new)
unfolding changed
stands_or c k new e = pick (unless_or k.standing k (changed_to c k))
  where
    pick : (unless_settled k.standing k (changed_to c k) ≡ k) ⊎ (unless_settled k.standing k (changed_to c k) ≡ changed_to c k) → ((unless_settled k.standing k (changed_to c k)).standing ≡ k.standing) ⊎ ((unless_settled k.standing k (changed_to c k)).standing ≡ new)
    pick (inl i) = inl (ap (λ (x : Known Name). x.standing) i)
    pick (inr i) = inr (ap (λ (x : Known Name). x.standing) i ∙ e)

module _ (K : Naming Name Name) where
  pub length_changed : (c : Change Name) (n : Name) (ks : List (Known Name)) → length (with_change K c n ks) ≡ length ks
  unfolding with_change
  length_changed c n [] = refl
  length_changed c n (k ∷ ks) = length_either (K.same k.name n) (changed c k) k ks (with_change K c n ks) (length_changed c n ks)

  pub standing_same : (ks ls : List (Known Name)) (n : Name) → entry_of K ls n ≡ entry_of K ks n → standing_of K ls n ≡ standing_of K ks n
  unfolding standing_of
  standing_same ks ls n e = ap standing_in e

  pub standing_found : (ks : List (Known Name)) (n : Name) (k : Known Name) → entry_of K ks n ≡ Some k → standing_of K ks n ≡ k.standing
  unfolding standing_of standing_in
  standing_found ks n k e = ap standing_in e

  -- ---- following

  pub plain_stays : (d : ℕ) (ks : List (Known Name)) (x : Value Name) → IsPlain x → follow_at K d ks x ≡ x
  unfolding follow_at
  plain_stays zero ks x h = refl
  plain_stays (suc d) ks (Ref n) h = absurd h
  plain_stays (suc d) ks other h = refl

  waits_led : (f : Value Name → Value Name) (n : Name) (t : Standing Name) → still_waits t ≡ true → led K f n t ≡ Ref n
  unfolding led still_waits
  waits_led f n (WaitsOn q) e = refl
  waits_led f n Unsettled e = refl
  waits_led f n other e = absurd (no_true e)

  -- a name that waits is followed to itself
  pub waits_stays : (d : ℕ) (ks : List (Known Name)) (n : Name) → still_waits (standing_of K ks n) ≡ true → follow_at K d ks (Ref n) ≡ Ref n
  unfolding follow_at
  waits_stays zero ks n w = refl
  waits_stays (suc d) ks n w = waits_led (λ y. follow_at K d ks y) n (standing_of K ks n) w

  -- none but p stands otherwise, and p stands so
  abbrev pub Moves : List (Known Name) → List (Known Name) → Name → Standing Name → Type 0
  Moves ks ls p new = (n : Name) → (standing_of K ls n ≡ standing_of K ks n) ⊎ ((n ≡ p) × (standing_of K ls n ≡ new))

  module _ (ks ls : List (Known Name)) (p : Name) (new : Standing Name) (moves : Moves ks ls p new) where
    -- it comes from there to no list but one to which p settled
    abbrev pub LeadsOn : Type 0
    LeadsOn = (d k : ℕ) → led K (λ y. follow_at K d ls y) p new ≡ Items k → new ≡ Settled (Items k)

    abbrev pub WaitedIf : Type 0
    WaitedIf = (k : ℕ) → new ≡ Settled (Items k) → still_waits (standing_of K ks p) ≡ true

    abbrev OrBy : ℕ → Value Name → ℕ → Type 0
    OrBy d v k = (follow_at K d ks v ≡ Items k) ⊎ ((follow_at K d ks v ≡ Ref p) × (new ≡ Settled (Items k)))

    on_led : (d k : ℕ) (n : Name) (t : Standing Name) → ((z : Value Name) → follow_at K d ls z ≡ Items k → OrBy d z k) → led K (λ y. follow_at K d ls y) n t ≡ Items k
        → (led K (λ y. follow_at K d ks y) n t ≡ Items k) ⊎ ((led K (λ y. follow_at K d ks y) n t ≡ Ref p) × (new ≡ Settled (Items k)))
    unfolding led
    on_led d k n (Settled y) f e = f y e
    on_led d k n (Viewed q) f e = f (Ref q) e
    on_led d k n other f e = absurd (name_list n k e)

    at_name : (d k : ℕ) (n : Name) → LeadsOn → WaitedIf → ((z : Value Name) → follow_at K d ls z ≡ Items k → OrBy d z k) → (standing_of K ls n ≡ standing_of K ks n) ⊎ ((n ≡ p) × (standing_of K ls n ≡ new)) → follow_at K (suc d) ls (Ref n) ≡ Items k → OrBy (suc d) (Ref n) k
    unfolding follow_at
    at_name d k n on waited f (inl i) e = on_led d k n (standing_of K ks n) f (sym (ap (λ t. led K (λ y. follow_at K d ls y) n t) i) ∙ e)
    at_name d k n on waited f (inr i) e = inr (ap (λ m. led K (λ y. follow_at K d ks y) m (standing_of K ks m)) i.0 ∙ waits_led (λ y. follow_at K d ks y) p (standing_of K ks p) (waited k settled), settled)
      where
        settled : new ≡ Settled (Items k)
        settled = on d k (sym (ap (λ t. led K (λ y. follow_at K d ls y) p t) i.1) ∙ ap (λ m. led K (λ y. follow_at K d ls y) m (standing_of K ls n)) (sym i.0) ∙ e)

    pub follows_or : LeadsOn → WaitedIf → (d : ℕ) (v : Value Name) (k : ℕ) → follow_at K d ls v ≡ Items k → OrBy d v k
    unfolding follow_at
    follows_or on waited zero v k e = inl e
    follows_or on waited (suc d) (Ref n) k e = at_name d k n on waited (λ z i. follows_or on waited d z k i) (moves n) e
    follows_or on waited (suc d) other k e = inl e

    -- ---- to what it leads on

    -- a name that waited, but where it is p
    stuck_at : (m : Name) → still_waits (standing_of K ks m) ≡ true → (d k : ℕ) → (follow_at K d ls (Ref m) ≡ Items k → ⊥) → ((led K (λ y. follow_at K d ls y) p new ≡ Items k) → (follow_at K d ls (Ref m) ≡ Items k → ⊥) → ⊥)
        → (standing_of K ls m ≡ standing_of K ks m) ⊎ ((m ≡ p) × (standing_of K ls m ≡ new)) → led K (λ y. follow_at K d ls y) m (standing_of K ls m) ≡ Items k → ⊥
    stuck_at m w d k missed f (inl i) e = name_list m k (sym (waits_led (λ y. follow_at K d ls y) m (standing_of K ls m) (ap still_waits i ∙ w)) ∙ e)
    stuck_at m w d k missed f (inr i) e = f (sym (ap (λ t. led K (λ y. follow_at K d ls y) p t) i.1) ∙ ap (λ x. led K (λ y. follow_at K d ls y) x (standing_of K ls m)) (sym i.0) ∙ e) missed

    stuck : (m : Name) → still_waits (standing_of K ks m) ≡ true → ((d k : ℕ) → (led K (λ y. follow_at K d ls y) p new ≡ Items k) → (follow_at K d ls (Ref m) ≡ Items k → ⊥) → ⊥) → (d k : ℕ) → follow_at K d ls (Ref m) ≡ Items k → ⊥
    unfolding follow_at
    stuck m w f zero k e = name_list m k e
    stuck m w f (suc d) k e = stuck_at m w d k (λ i. stuck m w f d k i) (f d k) (moves m) e

  -- a settling leads on to no list but that to which the name settled
  pub settled_on : (ks ls : List (Known Name)) (p : Name) (y : Value Name) (moves : Moves ks ls p (Settled y)) → ((n : Name) → y ≡ Ref n → still_waits (standing_of K ks n) ≡ true) → LeadsOn ks ls p (Settled y) moves
  unfolding led
  settled_on ks ls p (Items j) moves ends d k e = ap Settled (sym (plain_stays d ls (Items j) tt) ∙ e)
  settled_on ks ls p (Ref m) moves ends d k e = absurd (stuck ks ls p (Settled (Ref m)) moves m (ends m refl) (λ d k i f. f i) d k e)
  settled_on ks ls p Null moves ends d k e = ap Settled (sym (plain_stays d ls Null tt) ∙ e)
  settled_on ks ls p (Flag b) moves ends d k e = ap Settled (sym (plain_stays d ls (Flag b) tt) ∙ e)
  settled_on ks ls p (Number z) moves ends d k e = ap Settled (sym (plain_stays d ls (Number z) tt) ∙ e)
  settled_on ks ls p (Letter c) moves ends d k e = ap Settled (sym (plain_stays d ls (Letter c) tt) ∙ e)
  settled_on ks ls p (Text t) moves ends d k e = ap Settled (sym (plain_stays d ls (Text t) tt) ∙ e)
  settled_on ks ls p (Prim n) moves ends d k e = ap Settled (sym (plain_stays d ls (Prim n) tt) ∙ e)
  settled_on ks ls p (Broken t) moves ends d k e = ap Settled (sym (plain_stays d ls (Broken t) tt) ∙ e)

  -- a view of a name that waits leads on to no list
  pub viewed_on : (ks ls : List (Known Name)) (p g : Name) (moves : Moves ks ls p (Viewed g)) → still_waits (standing_of K ks g) ≡ true → LeadsOn ks ls p (Viewed g) moves
  unfolding led
  viewed_on ks ls p g moves w d k e = absurd (stuck ks ls p (Viewed g) moves g w (λ d k i f. f i) d k e)

  -- nor does a wait
  pub waited_on : (ks ls : List (Known Name)) (p q : Name) (moves : Moves ks ls p (WaitsOn q)) → LeadsOn ks ls p (WaitsOn q) moves
  unfolding led
  waited_on ks ls p q moves d k e = absurd (name_list p k e)

  -- ---- where hosts were noticed

  severed_either : (b : Bool) (t : List ℕ) (n : Name) (k : ℕ) → ◌≡◌ {A = Value Name} (elim b [ true ↦ Broken t | false ↦ Ref n ]) (Items k) → ⊥
  severed_either true t n k e = broken_list t k e
  severed_either false t n k e = name_list n k e

  severed_name : (s : Vat Name) (n : Name) (p : Spot) (k : ℕ) → severed_at K s n p ≡ Items k → ⊥
  unfolding severed_at severed_by
  severed_name s n (Own i) k e = name_list n k e
  severed_name s n (Foreign h) k e = severed_either (is_in h s.noticed) _ n k e
  severed_name s n NoObject k e = severed_either (is_in (host_at K s.number s.known n) s.noticed) _ n k e

  pub severed_list : (s : Vat Name) (x : Value Name) (k : ℕ) → severed K s x ≡ Items k → x ≡ Items k
  unfolding severed
  severed_list s (Ref n) k e = absurd (severed_name s n (K.spot n) k e)
  severed_list s other k e = e

  pub list_severed : (s : Vat Name) (k : ℕ) → severed K s (Items k) ≡ Items k
  unfolding severed
  list_severed s k = refl

  pub list_followed : (s : Vat Name) (k : ℕ) → follow K s (Items k) ≡ Items k
  unfolding follow
  list_followed s k = ap (severed K s) (plain_stays (suc (length s.known)) s.known (Items k) tt) ∙ list_severed s k
