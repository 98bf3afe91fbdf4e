-- What is kept of a vat by a rule that says what may wait, come to be viewed and settle there: each name stands as that allows, and so does all that waits, and each answer that a message here has.
use Rattle.std.proofs.Common.{◌≡◌, ℕ, Bool, true, false, List, [], ◌∷◌, Option, Some, refl, sym, subst, ◌⊎◌, inl, inr}
use Rattle.def_machine.specs.Values.{Words, Value, Broken, Name, Gift, Naming, naming}
use Rattle.def_machine.specs.State.{Message, Standing, Unsettled, WaitsOn, Viewed, Settled, Known, Change, Hold, Wait, WaitOn, See, React, ToTell, Settle, GiftEntry, Vat, Done, Gives, Throws, Ejects, Stops, WhereSome, is_gift, with_opened, with_change, changed, changed_to}
use Rattle.def_machine.specs.Arrive.{gift_at}
use Rattle.def_machine.specs.Refs.{entry_of, target_of}
use Rattle.std.proofs.lemmas.Bool.{eqb-true}
use Rattle.std.specs.Prelude.{◌==◌}
use Rattle.law_fate.specs.Name.Names.{AllOf}
use Rattle.law_fate.proofs.Name.Facts.{all_end}
use Rattle.law_reference.specs.Reference.ListRingless.{IsNamed}
use Rattle.law_reference.proofs.Reference.Kept.{is, changed_or}

-- a broken reference
abbrev pub IsBreak : Value Name → Type 0
IsBreak (Broken p) = Unit {0}
IsBreak other = ⊥

-- it neither waits nor settled, but to a broken reference
abbrev pub IsCalm : Standing Name → Type 0
IsCalm Unsettled = Unit {0}
IsCalm (Settled y) = IsBreak y
IsCalm other = ⊥

-- ---- gifts

opened_either : (v : ℕ) (b : Bool) (g : GiftEntry Name) (gs hs : List (GiftEntry Name)) → IsNamed v g → AllOf (IsNamed v) gs → AllOf (IsNamed v) hs → AllOf (IsNamed v) (elim b [ true ↦ record g { opened = true } ∷ gs | false ↦ g ∷ hs ])
opened_either v true g gs hs h i j = (h, i)
opened_either v false g gs hs h i j = (h, j)

pub opened_named : (v p i : ℕ) (gs : List (GiftEntry Name)) → AllOf (IsNamed v) gs → AllOf (IsNamed v) (with_opened p i gs)
unfolding with_opened
opened_named v p i [] h = tt
opened_named v p i (g ∷ gs) h = opened_either v (is_gift p i g) g gs (with_opened p i gs) h.0 h.1 (opened_named v p i gs h.1)

number_of : (b c : Bool) (i j : ℕ) → (i == j) ≡ c → elim b [ true ↦ c | false ↦ false ] ≡ true → i ≡ j
number_of true true i j e f = eqb-true i j e
number_of true false i j e f = cc
number_of false c i j e f = cc

named_so : (v p i : ℕ) (g : GiftEntry Name) → IsNamed v g → is_gift p i g ≡ true → g.name ≡ Gift v i
unfolding is_gift
named_so v p i g h e = let n : g.number ≡ i = number_of (g.provider == p) (g.number == i) g.number i refl e in subst (λ j. g.name ≡ Gift v j) n h

at_head : (v p i : ℕ) (b : Bool) (g : GiftEntry Name) (o : Option (GiftEntry Name)) → is_gift p i g ≡ b → IsNamed v g → WhereSome (λ f. f.name ≡ Gift v i) o → WhereSome (λ f. f.name ≡ Gift v i) (elim b [ true ↦ Some g | false ↦ o ])
at_head v p i true g o e h k = named_so v p i g h e
at_head v p i false g o e h k = k

-- a gift that is found under a key is named by it
pub found_named : (v p i : ℕ) (gs : List (GiftEntry Name)) → AllOf (IsNamed v) gs → WhereSome (λ g. g.name ≡ Gift v i) (gift_at p i gs)
unfolding gift_at
found_named v p i [] h = tt
found_named v p i (g ∷ gs) h = at_head v p i (is_gift p i g) g (gift_at p i gs) refl h.0 (found_named v p i gs h.1)

-- What may wait, come to be viewed and settle at a vat, and what that says of how a name stands.
pub record Rule (word : ℕ → ℕ) (v : ℕ) : Type 1 where
  -- answers of messages, and what may come to wait on another name
  pub May : Name → Type 0
  -- what may be among the names that wait on another
  pub Waits : Name → Type 0
  -- what may come to be viewed, or may be told of
  pub Sees : Name → Type 0
  pub Settles : Name → Value Name → Type 0
  pub Stands : Name → Standing Name → Type 0
  pub unsettled : (n : Name) → Stands n Unsettled
  pub waiting : (n q : Name) → May n → Stands n (WaitsOn q)
  pub viewed : (n g : Name) → Sees n → Stands n (Viewed g)
  pub settled : (n : Name) (y : Value Name) → Settles n y → Stands n (Settled y)
  pub may_wait : (n : Name) → May n → Waits n
  pub may_settle : (n : Name) (y : Value Name) → May n → Settles n y
  pub waiter_settles : (n : Name) (y : Value Name) → Waits n → Settles n y
  pub seen_waits : (n : Name) → Sees n → Waits n
  pub seen_settles : (n : Name) (y : Value Name) → Sees n → Settles n y
  pub breaks : (n : Name) (t : Words) → Settles n (Broken t)
  pub aimed : (s : Vat Name) (n : Name) (y : Value Name) → Settles n y → Settles n (target_of (naming word v) s n y)

break_stays : (word : ℕ → ℕ) (v : ℕ) (s : Vat Name) (p : Name) (x : Value Name) → IsBreak x → IsBreak (target_of (naming word v) s p x)
unfolding target_of
break_stays word v s p (Broken t) h = tt
break_stays word v s p _ h = absurd h

-- what leads back to a name breaks, and what is broken stays so
pub target_fair : (word : ℕ → ℕ) (v : ℕ) (May : Name → Type 0) (s : Vat Name) (p : Name) (x : Value Name) → IsBreak x ⊎ May p → IsBreak (target_of (naming word v) s p x) ⊎ May p
target_fair word v May s p x (inl h) = inl (break_stays word v s p x h)
target_fair word v May s p x (inr h) = inr h

-- A name that waits or settled, but to a broken reference, is one that may settle, and so is all that waits.
abbrev pub settling : (word : ℕ → ℕ) (v : ℕ) (May : Name → Type 0) → Rule word v
settling word v May = record {
  May = May;
  Waits = May;
  Sees = May;
  Settles = λ n y. IsBreak y ⊎ May n;
  Stands = λ n t. IsCalm t ⊎ May n;
  unsettled = λ n. inl tt;
  waiting = λ n q h. inr h;
  viewed = λ n g h. inr h;
  settled = λ n y h. h;
  may_wait = λ n h. h;
  may_settle = λ n y h. inr h;
  waiter_settles = λ n y h. inr h;
  seen_waits = λ n h. h;
  seen_settles = λ n y h. inr h;
  breaks = λ n t. inl tt;
  aimed = λ s n y h. target_fair word v May s n y h;
}

module _ (word : ℕ → ℕ) (v : ℕ) (R : Rule word v) where
  abbrev pub N : Naming Name Name
  N = naming word v

  abbrev pub MayAnswer : Message Name → Type 0
  MayAnswer m = WhereSome R.May m.answer

  abbrev pub Entry : Known Name → Type 0
  Entry k = R.Stands k.name k.standing × AllOf MayAnswer k.held × AllOf R.Waits k.waiting × AllOf MayAnswer k.reactions

  abbrev pub Kept : Vat Name → Type 0
  Kept s = (s.number ≡ v) × AllOf Entry s.known × AllOf MayAnswer s.queue × AllOf (IsNamed v) s.gifts

  -- ---- a change of what is known of a name

  -- what comes to wait, to be viewed or to settle may do so
  abbrev pub Fair : Change Name → Name → Type 0
  Fair (Hold m) n = MayAnswer m
  Fair (Wait q) n = R.Waits q
  Fair (WaitOn q) n = R.May n
  Fair (See g) n = R.Sees n
  Fair (React m) n = MayAnswer m
  Fair (ToTell w) n = Unit {0}
  Fair (Settle y) n = R.Settles n y

  changed_entry : (c : Change Name) (k : Known Name) → Fair c k.name → Entry k → Entry (changed_to c k)
  unfolding changed_to
  changed_entry (Hold m) k f h = (h.0, all_end MayAnswer k.held m h.1 f, h.2, h.3)
  changed_entry (Wait q) k f h = (h.0, h.1, all_end R.Waits k.waiting q h.2 f, h.3)
  changed_entry (WaitOn q) k f h = (R.waiting k.name q f, h.1, h.2, h.3)
  changed_entry (See g) k f h = (R.viewed k.name g f, h.1, h.2, h.3)
  changed_entry (React m) k f h = (h.0, h.1, h.2, all_end MayAnswer k.reactions m h.3 f)
  changed_entry (ToTell w) k f h = h
  changed_entry (Settle y) k f h = (R.settled k.name y f, tt, tt, tt)

  changed_so : (c : Change Name) (k : Known Name) → Fair c k.name → Entry k → (changed c k ≡ k) ⊎ (changed c k ≡ changed_to c k) → Entry (changed c k)
  changed_so c k f h (inl e) = subst Entry (sym e) h
  changed_so c k f h (inr e) = subst Entry (sym e) (changed_entry c k f h)

  change_head : (b : Bool) (c : Change Name) (n : Name) (k : Known Name) (ks ls : List (Known Name)) → (b ≡ true → k.name ≡ n) → Fair c n → Entry k → AllOf Entry ks → AllOf Entry ls → AllOf Entry (elim b [ true ↦ changed c k ∷ ks | false ↦ k ∷ ls ])
  change_head true c n k ks ls e f h i j = (changed_so c k (subst (λ m. Fair c m) (sym (e refl)) f) h (changed_or c k), i)
  change_head false c n k ks ls e f h i j = (h, j)

  pub changes : (c : Change Name) (n : Name) (ks : List (Known Name)) → Fair c n → AllOf Entry ks → AllOf Entry (with_change N c n ks)
  unfolding with_change
  changes c n [] f h = tt
  changes c n (k ∷ ks) f h = change_head (N.same k.name n) c n k ks (with_change N c n ks) (is word v k.name n) f h.0 h.1 (changes c n ks f h.1)

  found_head : (b : Bool) (k : Known Name) (o : Option (Known Name)) → Entry k → WhereSome Entry o → WhereSome Entry (elim b [ true ↦ Some k | false ↦ o ])
  found_head true k o h i = h
  found_head false k o h i = i

  -- what is known of a name that is found
  pub found : (ks : List (Known Name)) (n : Name) → AllOf Entry ks → WhereSome Entry (entry_of N ks n)
  unfolding entry_of
  found [] n h = tt
  found (k ∷ ks) n h = found_head (N.same k.name n) k (entry_of N ks n) h.0 (found ks n h.1)

  -- ---- how something ends

  abbrev pub Leaves : {A : Type 0} → (A → Type 0) → Done Name A → Type 0
  Leaves G (Gives a t) = Kept t × G a
  Leaves G (Throws p t) = Kept t
  Leaves G (Ejects n x t) = Kept t
  Leaves G (Stops c t) = Kept t
