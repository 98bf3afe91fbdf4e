-- What a note brings of a gift: no more than once, and not where the vat knows it, where the gifts of the note stand apart.
use Rattle.std.proofs.Common.{◌≡◌, ℕ, zero, suc, ◌+◌, ◌≤◌, Bool, true, false, List, [], ◌∷◌, ◌++◌, refl, sym, ◌∙◌, ◌⊎◌, inl, inr, subst, arith, ◌==◌}
use Rattle.std.proofs.lemmas.Bool.{eq-eqb}
use Rattle.def_machine.specs.Values.{Value, Ref, Name, Gift, Sent, Msg, same_name, host_of}
use Rattle.def_machine.specs.State.{Message, Known, Passed, Passeds, Plain, AGift, Many, NoMore, More, Vat}
use Rattle.def_machine.specs.Arrive.{Old, New}
use Rattle.def_run.specs.World.{has_name, is_old, read_name, known_after, read_value, read_passed, read_all, plain_read, many_read, more_read}
use Rattle.law_fate.specs.Fates.Fate as fate
use Rattle.law_fate.specs.Fates.Lasting.{Each, NamesMessage, KnownWell, HeldWell}
use Rattle.law_fate.specs.Name.Names.{Named, IsAmong, WasDrawn, IsMade, PassedOk, PassedsOk, ValueOk, names_in}
use Rattle.law_fate.proofs.Name.Among.{among_last}
use Rattle.law_fate.proofs.Name.SameNames.{same_is, among_has}
use Rattle.law_reference.specs.Reference.Knowing.{once, one, onward, onward_all, claims, new_name, new_in_value, new_in, new_in_all}
use Rattle.law_reference.specs.Reference.GiftPassing.{gifts_in, gifts_in_all}
use Rattle.law_reference.specs.Reference.News.{IsPassed, IsPassedIn, IsRefTo, IsNamed, IsNamedIn}

none_is : (b : Bool) → b ≡ false → once b ≡ 0
unfolding once
none_is false e = refl
none_is true e = cc

pub full_is : (b : Bool) → b ≡ true → once b ≡ 1
unfolding once
full_is true e = refl
full_is false e = cc

pub most_is : (b : Bool) → once b ≤ 1
unfolding once
most_is true = omega arith
most_is false = omega arith

true_false : true ≡ false → ⊥
true_false e = cc

pub sum_or : (a b : ℕ) → 1 ≤ a + b → (1 ≤ a) ⊎ (1 ≤ b)
sum_or zero b h = inr (omega arith)
sum_or (suc a) b h = inl (omega arith)

either_map : {A B C D : Type 0} → (A → C) → (B → D) → A ⊎ B → C ⊎ D
either_map f g (inl a) = inl (f a)
either_map f g (inr b) = inr (g b)

pub either_is : {A B C : Type 0} → (A → C) → (B → C) → A ⊎ B → C
either_is f g (inl a) = f a
either_is f g (inr b) = g b

-- how often x passes as a gift
unfoldable mutual
  pub passing : Name → Passed Name → ℕ
  passing x (Plain y) = 0
  passing x (AGift g j) = one (Gift g j) x
  passing x (Many ys) = passing_all x ys

  pub passing_all : Name → Passeds Name → ℕ
  passing_all x NoMore = 0
  passing_all x (More y ys) = passing x y + passing_all x ys

more_or : (b c d : Bool) → once c ≤ once d → once (elim b [ true ↦ true | false ↦ c ]) ≤ once (elim b [ true ↦ true | false ↦ d ])
more_or true c d h = omega arith
more_or false c d h = h

module _ (h i : ℕ) where
  abbrev pub X : Name
  X = Gift h i

  -- one where it is among them
  abbrev pub seen : List Name → ℕ
  seen ks = once (has_name ks X)

  has_more : (ks : List Name) (n : Name) → seen ks ≤ seen (ks ++ n ∷ [])
  unfolding has_name once
  has_more [] n = omega arith
  has_more (m ∷ ms) n = more_or (same_name m X) (has_name ms X) (has_name (ms ++ n ∷ []) X) (has_more ms n)

  has_last : (ks : List Name) → has_name (ks ++ X ∷ []) X ≡ true
  has_last ks = among_has (ks ++ X ∷ []) X (among_last ks X)

  pub one_other : (n : Name) → (n ≡ X → ⊥) → one n X ≡ 0
  unfolding one
  one_other n f = none_is (same_name n X) (other (same_name n X) refl)
    where
      other : (b : Bool) → same_name n X ≡ b → same_name n X ≡ false
      other true e = absurd (f (same_is n X e))
      other false e = e

  pub one_same : (n : Name) → 1 ≤ one n X → n ≡ X
  unfolding one
  one_same n l = by (same_name n X) refl
    where
      by : (b : Bool) → same_name n X ≡ b → n ≡ X
      by true e = same_is n X e
      by false e = let none : once (same_name n X) ≡ 0 = none_is (same_name n X) e in absurd (omega arith)

  old_is : (ks : List Name) → is_old ks X ≡ false → has_name ks X ≡ false
  unfolding is_old
  old_is ks e = e

  new_or : (ks : List Name) (n : Name) (b : Bool) → same_name n X ≡ b → is_old ks n ≡ false → one n X + seen ks ≤ seen (ks ++ n ∷ [])
  unfolding one
  new_or ks n true e f = let same : n ≡ X = same_is n X e in let old : is_old ks X ≡ false = rw same at f in let none : seen ks ≡ 0 = none_is (has_name ks X) (old_is ks old) in
      let full : seen (ks ++ n ∷ []) ≡ 1 = full_is (has_name (ks ++ n ∷ []) X) (subst (λ m. has_name (ks ++ m ∷ []) X ≡ true) (sym same) (has_last ks)) in let most = most_is (same_name n X) in omega arith
  new_or ks n false e f = let more = has_more ks n in let none : once (same_name n X) ≡ 0 = none_is (same_name n X) e in omega arith

  name_or : (ks : List Name) (n : Name) (b : Bool) → is_old ks n ≡ b → new_name X (elim b [ true ↦ Old n | false ↦ New n (host_of n) ]) + seen ks ≤ seen (elim b [ true ↦ ks | false ↦ ks ++ n ∷ [] ])
  unfolding new_name
  name_or ks n true e = omega arith
  name_or ks n false e = new_or ks n (same_name n X) refl e

  pub name_reads : (ks : List Name) (n : Name) → new_name X (read_name ks n) + seen ks ≤ seen (known_after ks n)
  unfolding read_name known_after
  name_reads ks n = name_or ks n (is_old ks n) refl

  value_reads : (y : Value Name) (ks : List Name) → new_in_value X (read_value ks y).read + seen ks ≤ seen (read_value ks y).known
  unfolding new_in_value read_value
  value_reads (Ref n) ks = name_reads ks n
  value_reads other ks = omega arith

  mutual
    unfolding new_in new_in_all read_passed read_all plain_read many_read more_read passing passing_all

    pub passed_reads : (y : Passed Name) (ks : List Name) → new_in X (read_passed y ks).read + seen ks ≤ passing X y + seen (read_passed y ks).known
    passed_reads (Plain y) ks = let a = value_reads y ks in omega arith
    passed_reads (AGift g j) ks = let a = has_more ks (Gift g j) in omega arith
    passed_reads (Many ys) ks = all_reads ys ks

    pub all_reads : (ys : Passeds Name) (ks : List Name) → new_in_all X (read_all ys ks).read + seen ks ≤ passing_all X ys + seen (read_all ys ks).known
    all_reads NoMore ks = omega arith
    all_reads (More y ys) ks = let a = passed_reads y ks in let b = all_reads ys (read_passed y ks).known in omega arith

  -- ---- where it is not named

  unnamed_or : (n : Name) (b : Bool) → (n ≡ X → ⊥) → new_name X (elim b [ true ↦ Old n | false ↦ New n (host_of n) ]) ≡ 0
  unfolding new_name
  unnamed_or n true f = refl
  unnamed_or n false f = one_other n f

  pub name_unnamed : (ks : List Name) (n : Name) → (n ≡ X → ⊥) → new_name X (read_name ks n) ≡ 0
  unfolding read_name
  name_unnamed ks n f = unnamed_or n (is_old ks n) f

  value_unnamed : (y : Value Name) (ks : List Name) → (IsRefTo X y → ⊥) → new_in_value X (read_value ks y).read ≡ 0
  unfolding new_in_value read_value
  value_unnamed (Ref n) ks f = name_unnamed ks n f
  value_unnamed other ks f = refl

  mutual
    unfolding new_in new_in_all read_passed read_all plain_read many_read more_read passing passing_all

    pub passed_unnamed : (y : Passed Name) (ks : List Name) → (IsNamed X y → ⊥) → new_in X (read_passed y ks).read ≤ passing X y
    passed_unnamed (Plain y) ks f = let a = value_unnamed y ks f in omega arith
    passed_unnamed (AGift g j) ks f = omega arith
    passed_unnamed (Many ys) ks f = all_unnamed ys ks f

    pub all_unnamed : (ys : Passeds Name) (ks : List Name) → (IsNamedIn X ys → ⊥) → new_in_all X (read_all ys ks).read ≤ passing_all X ys
    all_unnamed NoMore ks f = omega arith
    all_unnamed (More y ys) ks f = let a = passed_unnamed y ks (λ n. f (inl n)) in let b = all_unnamed ys (read_passed y ks).known (λ n. f (inr n)) in omega arith

  -- ---- where it passes

  no_one : 1 ≤ 0 → ⊥
  no_one l = omega arith

  mutual
    unfolding passing passing_all

    pub passes_there : (y : Passed Name) → 1 ≤ passing X y → IsPassed X y
    passes_there (Plain y) l = absurd (no_one l)
    passes_there (AGift g j) l = one_same (Gift g j) l
    passes_there (Many ys) l = all_there ys l

    pub all_there : (ys : Passeds Name) → 1 ≤ passing_all X ys → IsPassedIn X ys
    all_there NoMore l = absurd (no_one l)
    all_there (More y ys) l = either_map (λ k. passes_there y k) (λ k. all_there ys k) (sum_or (passing X y) (passing_all X ys) l)

  gift_draw : (g j : ℕ) → Gift g j ≡ X → j ≡ i
  gift_draw g j e = cc

  drawn_once : (g j : ℕ) (b : Bool) → same_name (Gift g j) X ≡ b → once b ≤ fate.once (i == j)
  unfolding once fate.once
  drawn_once g j false e = omega arith
  drawn_once g j true e = let d : j ≡ i = gift_draw g j (same_is (Gift g j) X e) in rw (eq-eqb i j (sym d), fate.once) (omega arith)

  mutual
    unfolding passing passing_all gifts_in gifts_in_all one

    pub passing_draws : (y : Passed Name) → passing X y ≤ gifts_in i y
    passing_draws (Plain y) = omega arith
    passing_draws (AGift g j) = drawn_once g j (same_name (Gift g j) X) refl
    passing_draws (Many ys) = passing_all_draws ys

    pub passing_all_draws : (ys : Passeds Name) → passing_all X ys ≤ gifts_in_all i ys
    passing_all_draws NoMore = omega arith
    passing_all_draws (More y ys) = let a = passing_draws y in let b = passing_all_draws ys in omega arith

  -- ---- what is brought was made

  named_or : (n : Name) (b : Bool) → 1 ≤ new_name X (elim b [ true ↦ Old n | false ↦ New n (host_of n) ]) → n ≡ X
  unfolding new_name
  named_or n true l = absurd (none l)
    where
      none : 1 ≤ 0 → ⊥
      none l = omega arith
  named_or n false l = one_same n l

  pub name_brought : (ks : List Name) (n : Name) → 1 ≤ new_name X (read_name ks n) → n ≡ X
  unfolding read_name
  name_brought ks n l = named_or n (is_old ks n) l

  module _ (vats : List (Vat Name)) (d : List ℕ) where
    pub named_made : (n : Name) → n ≡ X → IsMade vats d (Named n) → WasDrawn d i
    named_made n e m = let k : IsMade vats d (Named X) = rw e at m in k

    value_made : (y : Value Name) (ks : List Name) → ValueOk (IsMade vats d) y → 1 ≤ new_in_value X (read_value ks y).read → WasDrawn d i
    unfolding new_in_value read_value
    value_made (Ref n) ks m l = named_made n (name_brought ks n l) m
    value_made other ks m l = absurd (no_one l)

    gift_made : (g j : ℕ) → WasDrawn d j → Gift g j ≡ X → WasDrawn d i
    gift_made g j l e = subst (WasDrawn d) (gift_draw g j e) l

    mutual
      unfolding new_in new_in_all read_passed read_all plain_read many_read more_read

      pub passed_made : (y : Passed Name) (ks : List Name) → PassedOk (IsMade vats d) y → 1 ≤ new_in X (read_passed y ks).read → WasDrawn d i
      passed_made (Plain y) ks m l = value_made y ks m l
      passed_made (AGift g j) ks m l = gift_made g j m.1 (one_same (Gift g j) l)
      passed_made (Many ys) ks m l = all_made ys ks m l

      pub all_made : (ys : Passeds Name) (ks : List Name) → PassedsOk (IsMade vats d) ys → 1 ≤ new_in_all X (read_all ys ks).read → WasDrawn d i
      all_made NoMore ks m l = absurd (no_one l)
      all_made (More y ys) ks m l = either_is (λ k. passed_made y ks m.0 k) (λ k. all_made ys (read_passed y ks).known m.1 k) (sum_or (new_in X (read_passed y ks).read) (new_in_all X (read_all ys (read_passed y ks).known).read) l)

  -- ---- claims

  never : (b : Bool) → ◌≡◌ {A = ℕ} (elim b [ true ↦ 0 | false ↦ 0 ]) 0
  never true = refl
  never false = refl

  pub onward_sent : (v : ℕ) (m : Msg) → onward v X (Sent m) ≡ 0
  unfolding onward one same_name once host_of
  onward_sent v m = never (h == v)

  pub onward_none : (v : ℕ) (n : Name) (ms : List (Message Name)) → Each (HeldWell n) ms → onward_all v X ms ≡ 0
  unfolding onward_all
  onward_none v n [] w = refl
  onward_none v n (m ∷ ms) w = let here = w.0 in let id : NamesMessage m.id = here.1 in let a : onward v X m.id ≡ 0 = subst (λ z. onward v X z ≡ 0) (sym id.1) (onward_sent v id.0) in let rest = onward_none v n ms w.1 in omega arith

  claims_none : (v : ℕ) (ks : List (Known Name)) → Each KnownWell ks → (IsAmong X (names_in ks) → ⊥) → claims v X ks ≡ 0
  unfolding claims
  claims_none v [] w f = refl
  claims_none v (k ∷ ks) w f = let here = w.0 in let a = one_other k.name (λ e. f (inl (sym e))) in let b = onward_none v k.name k.held here.held in let rest = claims_none v ks w.1 (λ j. f (inr j)) in omega arith

  pub claims_seen : (v : ℕ) (ks : List (Known Name)) → Each KnownWell ks → claims v X ks ≤ 1 → claims v X ks ≤ seen (names_in ks)
  claims_seen v ks w l = by (has_name (names_in ks) X) refl
    where
      by : (b : Bool) → has_name (names_in ks) X ≡ b → claims v X ks ≤ seen (names_in ks)
      by true e = let most : claims v X ks ≤ 1 = l in let full = full_is (has_name (names_in ks) X) e in omega arith
      by false e = let none = claims_none v ks w (λ j. true_false (sym (among_has (names_in ks) X j) ∙ e)) in omega arith

  pub unclaimed : (v : ℕ) (ks : List (Known Name)) → Each KnownWell ks → (IsAmong X (names_in ks) → ⊥) → claims v X ks ≡ 0
  unclaimed v ks w f = claims_none v ks w f
