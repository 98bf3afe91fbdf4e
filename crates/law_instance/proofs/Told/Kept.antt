-- What is kept of a vat by a rule that says what may wait, be viewed, settle and break there, which gifts may be opened and which vats noticed: each name stands as that allows, and so do all that waits, each answer that a message here has, each gift and each notice.
use Rattle.std.proofs.Common.{◌≡◌, ℕ, Bool, true, false, List, [], ◌∷◌, Option, Some, refl, sym, subst, ◌⊎◌, inl, inr}
use Rattle.def_machine.specs.Values.{Name, Gift, Answer, Promise, Msg, host_of, Naming, naming}
use Rattle.def_machine.specs.State.{Message, Unsettled, Known, Change, Hold, Wait, WaitOn, See, React, ToTell, Settle, GiftEntry, Vat, Done, Gives, Throws, Ejects, Stops, WhereSome, is_gift, with_opened, with_change, changed, changed_to}
use Rattle.def_machine.specs.Arrive.{gift_at}
use Rattle.def_machine.specs.Refs.{entry_of}
use Rattle.std.proofs.lemmas.Bool.{eqb-true}
use Rattle.std.specs.Prelude.{◌==◌}
use Rattle.law_fate.specs.Name.Names.{AllOf}
use Rattle.law_fate.proofs.Name.Facts.{all_end}
use Rattle.law_reference.specs.Reference.ListRingless.{IsNamed}
use Rattle.law_reference.proofs.Reference.Kept.{is, changed_or}

-- What may wait on another, be viewed, settle and break at a vat, which gifts that host it may be opened, by provider and key, and which vats may be noticed.
pub record Rule (v : ℕ) : Type 1 where
  pub May : Name → Type 0
  pub Opens : ℕ → ℕ → Type 0
  pub Out : ℕ → Type 0
  -- all that the vat hosts may settle, and what a vat hosts that is noticed
  pub answers : (m : Msg) → May (Answer v m)
  pub promises : (i : ℕ) → May (Promise v i)
  pub gifts : (i : ℕ) → May (Gift v i)
  pub gone : (n : Name) → Out (host_of n) → May n

-- a gift of the vat, which is not opened or may be
abbrev pub GiftKept : (v : ℕ) → Rule v → GiftEntry Name → Type 0
GiftKept v R g = IsNamed v g × ((g.opened ≡ false) ⊎ R.Opens g.provider g.number)

-- its gifts, and what it noticed
pub record Holdings (v : ℕ) (R : Rule v) (gs : List (GiftEntry Name)) (ws : List ℕ) : Type 0 where
  pub gifts : AllOf (GiftKept v R) gs
  pub noticed : AllOf R.Out ws

keys_of : (b c : Bool) (g : GiftEntry Name) (p i : ℕ) → (g.provider == p) ≡ b → (g.number == i) ≡ c → elim b [ true ↦ c | false ↦ false ] ≡ true → (g.provider ≡ p) × (g.number ≡ i)
keys_of true true g p i e f h = (eqb-true g.provider p e, eqb-true g.number i f)
keys_of true false g p i e f h = cc
keys_of false c g p i e f h = cc

its_keys : (p i : ℕ) (g : GiftEntry Name) → is_gift p i g ≡ true → (g.provider ≡ p) × (g.number ≡ i)
unfolding is_gift
its_keys p i g e = keys_of (g.provider == p) (g.number == i) g p i refl refl e

module _ (v : ℕ) (R : Rule v) where
  opened_either : (b : Bool) (g : GiftEntry Name) (gs hs : List (GiftEntry Name)) → (b ≡ true → R.Opens g.provider g.number) → GiftKept v R g → AllOf (GiftKept v R) gs → AllOf (GiftKept v R) hs → AllOf (GiftKept v R) (elim b [ true ↦ record g { opened = true } ∷ gs | false ↦ g ∷ hs ])
  opened_either true g gs hs f h i j = ((h.0, inr (f refl)), i)
  opened_either false g gs hs f h i j = (h, j)

  pub opened_kept : (p i : ℕ) → R.Opens p i → (gs : List (GiftEntry Name)) → AllOf (GiftKept v R) gs → AllOf (GiftKept v R) (with_opened p i gs)
  unfolding with_opened
  opened_kept p i o [] h = tt
  opened_kept p i o (g ∷ gs) h = opened_either (is_gift p i g) g gs (with_opened p i gs)
      (λ e. let keys = its_keys p i g e in subst (λ q. R.Opens q g.number) (sym keys.0) (subst (λ j. R.Opens p j) (sym keys.1) o)) h.0 h.1 (opened_kept p i o gs h.1)

  pub named : (gs : List (GiftEntry Name)) → AllOf (GiftKept v R) gs → AllOf (IsNamed v) gs
  named [] h = tt
  named (g ∷ gs) h = (h.0.0, named gs h.1)

  found_opened_or : (b : Bool) (p i : ℕ) (g : GiftEntry Name) (o : Option (GiftEntry Name)) → (b ≡ true → (g.provider ≡ p) × (g.number ≡ i)) → GiftKept v R g → WhereSome (λ f. (f.opened ≡ false) ⊎ R.Opens p i) o → WhereSome (λ f. (f.opened ≡ false) ⊎ R.Opens p i) (elim b [ true ↦ Some g | false ↦ o ])
  found_opened_or true p i g o k h m = let keys = k refl in subst (λ q. (g.opened ≡ false) ⊎ R.Opens q i) keys.0 (subst (λ j. (g.opened ≡ false) ⊎ R.Opens g.provider j) keys.1 h.1)
  found_opened_or false p i g o k h m = m

  -- a gift that is found is not opened, or may be
  pub found_opened : (p i : ℕ) (gs : List (GiftEntry Name)) → AllOf (GiftKept v R) gs → WhereSome (λ f. (f.opened ≡ false) ⊎ R.Opens p i) (gift_at p i gs)
  unfolding gift_at
  found_opened p i [] h = tt
  found_opened p i (g ∷ gs) h = found_opened_or (is_gift p i g) p i g (gift_at p i gs) (λ e. its_keys p i g e) h.0 (found_opened p i gs h.1)

module _ (word : ℕ → ℕ) (v : ℕ) (R : Rule v) where
  abbrev pub N : Naming Name Name
  N = naming word v

  abbrev pub MayAnswer : Message Name → Type 0
  MayAnswer m = WhereSome R.May m.answer

  abbrev pub Entry : Known Name → Type 0
  Entry k = ((k.standing ≡ Unsettled) ⊎ R.May k.name) × AllOf MayAnswer k.held × AllOf R.May k.waiting × AllOf MayAnswer k.reactions

  abbrev pub Kept : Vat Name → Type 0
  Kept s = (s.number ≡ v) × AllOf Entry s.known × AllOf MayAnswer s.queue × Holdings v R s.gifts s.noticed

  -- ---- a change of what is known of a name

  -- what comes to wait, to be viewed or to settle may do so
  abbrev pub Fair : Change Name → Name → Type 0
  Fair (Hold m) n = MayAnswer m
  Fair (Wait q) n = R.May q
  Fair (WaitOn q) n = R.May n
  Fair (See g) n = R.May n
  Fair (React m) n = MayAnswer m
  Fair (ToTell w) n = Unit {0}
  Fair (Settle y) n = R.May n

  changed_entry : (c : Change Name) (k : Known Name) → Fair c k.name → Entry k → Entry (changed_to c k)
  unfolding changed_to
  changed_entry (Hold m) k f h = (h.0, all_end MayAnswer k.held m h.1 f, h.2, h.3)
  changed_entry (Wait q) k f h = (h.0, h.1, all_end R.May k.waiting q h.2 f, h.3)
  changed_entry (WaitOn q) k f h = (inr f, h.1, h.2, h.3)
  changed_entry (See g) k f h = (inr f, h.1, h.2, h.3)
  changed_entry (React m) k f h = (h.0, h.1, h.2, all_end MayAnswer k.reactions m h.3 f)
  changed_entry (ToTell w) k f h = h
  changed_entry (Settle y) k f h = (inr f, tt, tt, tt)

  changed_so : (c : Change Name) (k : Known Name) → Fair c k.name → Entry k → (changed c k ≡ k) ⊎ (changed c k ≡ changed_to c k) → Entry (changed c k)
  changed_so c k f h (inl e) = subst Entry (sym e) h
  changed_so c k f h (inr e) = subst Entry (sym e) (changed_entry c k f h)

  change_head : (b : Bool) (c : Change Name) (n : Name) (k : Known Name) (ks ls : List (Known Name)) → (b ≡ true → k.name ≡ n) → Fair c n → Entry k → AllOf Entry ks → AllOf Entry ls → AllOf Entry (elim b [ true ↦ changed c k ∷ ks | false ↦ k ∷ ls ])
  change_head true c n k ks ls e f h i j = (changed_so c k (subst (λ m. Fair c m) (sym (e refl)) f) h (changed_or c k), i)
  change_head false c n k ks ls e f h i j = (h, j)

  pub changes : (c : Change Name) (n : Name) (ks : List (Known Name)) → Fair c n → AllOf Entry ks → AllOf Entry (with_change N c n ks)
  unfolding with_change
  changes c n [] f h = tt
  changes c n (k ∷ ks) f h = change_head (N.same k.name n) c n k ks (with_change N c n ks) (is word v k.name n) f h.0 h.1 (changes c n ks f h.1)

  found_head : (b : Bool) (k : Known Name) (o : Option (Known Name)) → Entry k → WhereSome Entry o → WhereSome Entry (elim b [ true ↦ Some k | false ↦ o ])
  found_head true k o h i = h
  found_head false k o h i = i

  -- what is known of a name that is found
  pub found : (ks : List (Known Name)) (n : Name) → AllOf Entry ks → WhereSome Entry (entry_of N ks n)
  unfolding entry_of
  found [] n h = tt
  found (k ∷ ks) n h = found_head (N.same k.name n) k (entry_of N ks n) h.0 (found ks n h.1)

  -- ---- how something ends

  abbrev pub Leaves : {A : Type 0} → (A → Type 0) → Done Name A → Type 0
  Leaves G (Gives a t) = Kept t × G a
  Leaves G (Throws p t) = Kept t
  Leaves G (Ejects n x t) = Kept t
  Leaves G (Stops c t) = Kept t
