-- What is seen of a note by numbers is what is read of it by names.
use Rattle.std.proofs.Common.{◌≡◌, ℕ, suc, ◌+◌, ◌≤◌, Bool, true, false, List, [], ◌∷◌, ◌++◌, Option, Some, None, refl, sym, ap, subst, ◌∙◌, ◌⊎◌, inl, inr, length, ◌==◌, arith}
use Rattle.std.proofs.lemmas.Bool.{eqb-true, eq-eqb}
use Rattle.def_machine.specs.Values.{Words, Value, Ref, Name, Root, Object, Promise, Answer, Gift, Sent, host_of}
use Rattle.def_machine.specs.State.{Passed, Passeds, Plain, AGift, Many, NoMore, More, Note, Delivery, Deliver, Open, Ask, SettledTo, Elsewhere, Shorten}
use Rattle.def_machine.specs.Arrive.{Incoming, Old, New}
use Rattle.def_run.specs.Connections.{Learnt, Stage, Heard, stands_in, learnt_at}
use Rattle.def_run.specs.Wire.{sight, is_object}
use Rattle.def_run.specs.World as world
use Rattle.def_run.specs.World.{is_old, read_name, known_after}
use Rattle.law_fate.specs.Fates.Fate.{once}
use Rattle.law_fate.specs.Name.Names.{IsAmong, IsKnownIn}
use Rattle.law_fate.proofs.Name.SameNames.{has_among, among_has, old_known}
use Rattle.law_reference.specs.Reference.News.{IsPassed, IsPassedIn, Passes}
use Rattle.law_reference.specs.Reference.GiftPassing.{gifts_in, gifts_in_all, gifts_in_note, PassesFrom, AllPassFrom, Provides}
use Rattle.law_frame.specs.Frame.Asked.{told_value, told_passed, told_all, told_in}
use Rattle.law_frame.specs.Frame.Reads as seen
use Rattle.law_frame.proofs.Frame.ArriveAsking.{among_front, among_back}
use Rattle.law_frame.proofs.Frame.Exported.{among_split}
use Rattle.law_frame.proofs.Frame.Grow.{known_old, among_left}
use Rattle.law_frame.specs.Frame.Alike.{names_heard, from_peer, as_told}
use Rattle.law_frame.proofs.Heard.Pairs.{true_false}
use Rattle.law_reference.specs.Reference.Notes.{IsBetween}
use Rattle.law_frame.specs.Heard.Hearing.{named, as_heard}
use Rattle.law_frame.proofs.Heard.Kept.{in_has}

pub in_known : (ks : List Name) (n : Name) → IsAmong n ks → IsKnownIn ks n
in_known ks (Object c i) a = tt
in_known ks other a = a

known_in : (ks : List Name) (n : Name) → is_object n ≡ false → IsKnownIn ks n → IsAmong n ks
unfolding is_object
known_in ks (Object c i) e k = cc
known_in ks other e k = k

object_known : (ks : List Name) (n : Name) → is_object n ≡ true → IsKnownIn ks n
unfolding is_object
object_known ks (Object c i) e = tt
object_known ks other e = cc

end_in : {A : Type 0} (x : A) (xs : List A) → IsAmong x (xs ++ x ∷ [])
end_in x [] = inl refl
end_in x (y ∷ xs) = inr (end_in x xs)

known_front : (ks ns : List Name) (n : Name) → IsKnownIn ks n → IsKnownIn (ks ++ ns) n
known_front ks ns (Object c i) k = tt
known_front ks ns (Root c) k = among_left (Root c) ks ns k
known_front ks ns (Promise c i) k = among_left (Promise c i) ks ns k
known_front ks ns (Answer c m) k = among_left (Answer c m) ks ns k
known_front ks ns (Gift c i) k = among_left (Gift c i) ks ns k
known_front ks ns (Sent m) k = among_left (Sent m) ks ns k

length_end : {A : Type 0} (xs : List A) (x : A) → length (xs ++ x ∷ []) ≡ suc (length xs)
length_end [] x = refl
length_end (y ∷ xs) x = ap suc (length_end xs x)

read_as : (ks : List Name) (n : Name) (b : Bool) → is_old ks n ≡ b → (read_name ks n ≡ elim b [ true ↦ Old n | false ↦ New n (host_of n) ]) × (known_after ks n ≡ elim b [ true ↦ ks | false ↦ ks ++ n ∷ [] ])
unfolding read_name known_after
read_as ks n b e = (ap (λ (c : Bool). elim c [ true ↦ Old n | false ↦ New n (host_of n) ]) e, ap (λ (c : Bool). elim c [ true ↦ ks | false ↦ ks ++ n ∷ [] ]) e)

-- Names that are told from v to u, where v was asked for those by then.
module _ (v u : ℕ) (answers told : List Name) where
  -- At a stage of the reading ks are the names known by then.
  pub record At (ks : List Name) (s : Stage Name) : Type 0 where
    pub count : s.known ≡ length ks
    pub imported : (z : Name) → IsAmong z s.imports → IsKnownIn ks z
    pub heard : (z : Name) → IsAmong z answers → IsKnownIn ks z
    pub yours : (z : Name) → IsAmong z told → host_of z ≡ u → IsKnownIn ks z
    pub comes : (z : Name) → IsAmong z told → host_of z ≡ v → IsAmong z ks → IsAmong z answers ⊎ IsAmong z s.imports

  abbrev Alike : {A : Type 0} → Heard Name A → A → List Name → Type 0
  Alike h x ks = (h.read ≡ x) × At ks h.after

  abbrev See : Name → Stage Name → Heard Name (Incoming Name Name)
  See n s = seen.seen_name v u answers n s

  old_alike : (ks : List Name) (s : Stage Name) (n : Name) → At ks s → IsKnownIn ks n → (Old n ≡ read_name ks n) × At (known_after ks n) s
  old_alike ks s n h k = let r = read_as ks n true (known_old ks n k) in (sym r.0, subst (λ ms. At ms s) (sym r.1) h)

  -- a name of v that has no number yet
  first_alike : (ks : List Name) (s : Stage Name) (n : Name) → At ks s → IsAmong n told → host_of n ≡ v → (IsAmong n answers → ⊥) → (IsAmong n s.imports → ⊥) → (b : Bool) → is_object n ≡ b → Alike (seen.seen_first v u answers n b s) (read_name ks n) (known_after ks n)
  unfolding seen.seen_first
  first_alike ks s n h a host no_answer no_import true e = let r = read_as ks n true (known_old ks n (object_known ks n e)) in (
    sym r.0,
    subst (λ ms. At ms (record s { imports = s.imports ++ n ∷ [] })) (sym r.1) (record {
      count = h.count;
      imported = λ z i. either z (among_split z s.imports (n ∷ []) i);
      heard = h.heard;
      yours = h.yours;
      comes = λ z b o i. more z (h.comes z b o i);
    }),
  )
    where
      either : (z : Name) → IsAmong z s.imports ⊎ IsAmong z (n ∷ []) → IsKnownIn ks z
      either z (inl i) = h.imported z i
      either z (inr (inl f)) = subst (λ y. IsKnownIn ks y) (sym f) (object_known ks n e)
      either z (inr (inr i)) = absurd i

      more : (z : Name) → IsAmong z answers ⊎ IsAmong z s.imports → IsAmong z answers ⊎ IsAmong z (s.imports ++ n ∷ [])
      more z (inl i) = inl i
      more z (inr i) = inr (among_left z s.imports (n ∷ []) i)
  first_alike ks s n h a host no_answer no_import false e = let r = read_as ks n false (new_is (is_old ks n) refl) in (
    ap (New n) (sym host) ∙ sym r.0,
    subst (λ ms. At ms (record s { imports = s.imports ++ n ∷ []; known = suc s.known })) (sym r.1) (record {
      count = ap suc h.count ∙ sym (length_end ks n);
      imported = λ z i. either z (among_split z s.imports (n ∷ []) i);
      heard = λ z i. known_front ks (n ∷ []) z (h.heard z i);
      yours = λ z b o. known_front ks (n ∷ []) z (h.yours z b o);
      comes = λ z b o i. more z b o (among_split z ks (n ∷ []) i);
    }),
  )
    where
      new_is : (b : Bool) → is_old ks n ≡ b → is_old ks n ≡ false
      new_is false f = f
      new_is true f = clash (h.comes n a host (known_in ks n e (old_known ks n f)))
        where
          clash : IsAmong n answers ⊎ IsAmong n s.imports → is_old ks n ≡ false
          clash (inl i) = absurd (no_answer i)
          clash (inr i) = absurd (no_import i)

      either : (z : Name) → IsAmong z s.imports ⊎ IsAmong z (n ∷ []) → IsKnownIn (ks ++ n ∷ []) z
      either z (inl i) = known_front ks (n ∷ []) z (h.imported z i)
      either z (inr (inl f)) = in_known (ks ++ n ∷ []) z (subst (λ y. IsAmong y (ks ++ n ∷ [])) (sym f) (end_in n ks))
      either z (inr (inr i)) = absurd i

      more : (z : Name) → IsAmong z told → host_of z ≡ v → IsAmong z ks ⊎ IsAmong z (n ∷ []) → IsAmong z answers ⊎ IsAmong z (s.imports ++ n ∷ [])
      more z b o (inl i) = grow (h.comes z b o i)
        where
          grow : IsAmong z answers ⊎ IsAmong z s.imports → IsAmong z answers ⊎ IsAmong z (s.imports ++ n ∷ [])
          grow (inl j) = inl j
          grow (inr j) = inr (among_left z s.imports (n ∷ []) j)
      more z b o (inr (inl f)) = inr (subst (λ y. IsAmong y (s.imports ++ n ∷ [])) (sym f) (end_in n s.imports))
      more z b o (inr (inr i)) = absurd i

  told_alike : (ks : List Name) (s : Stage Name) (n : Name) → At ks s → IsAmong n told → host_of n ≡ v → (IsAmong n answers → ⊥) → (b : Bool) → stands_in (sight v u) s.imports n ≡ b → Alike (seen.seen_told v u answers n b s) (read_name ks n) (known_after ks n)
  unfolding seen.seen_told
  told_alike ks s n h a host no_answer true e = old_alike ks s n h (h.imported n (has_among s.imports n (sym (in_has v u s.imports n) ∙ e)))
  told_alike ks s n h a host no_answer false e = first_alike ks s n h a host no_answer (λ i. true_false (in_has v u s.imports n ∙ among_has s.imports n i) e) (is_object n) refl

  unasked_alike : (ks : List Name) (s : Stage Name) (n : Name) → At ks s → IsAmong n told → host_of n ≡ v → (b : Bool) → stands_in (sight v u) answers n ≡ b → Alike (seen.seen_unasked v u answers n b s) (read_name ks n) (known_after ks n)
  unfolding seen.seen_unasked
  unasked_alike ks s n h a host true e = old_alike ks s n h (h.heard n (has_among answers n (sym (in_has v u answers n) ∙ e)))
  unasked_alike ks s n h a host false e = told_alike ks s n h a host (λ i. true_false (in_has v u answers n ∙ among_has answers n i) e) (stands_in (sight v u) s.imports n) refl

  own_alike : (ks : List Name) (s : Stage Name) (n : Name) → At ks s → IsAmong n told → (host_of n ≡ v) ⊎ (host_of n ≡ u) → (b : Bool) → (host_of n == v) ≡ b → Alike (seen.seen_own v u answers n b s) (read_name ks n) (known_after ks n)
  unfolding seen.seen_own
  own_alike ks s n h a e true f = unasked_alike ks s n h a (eqb-true (host_of n) v f) (stands_in (sight v u) answers n) refl
  own_alike ks s n h a (inl e) false f = absurd (true_false (eq-eqb (host_of n) v e) f)
  own_alike ks s n h a (inr e) false f = old_alike ks s n h (h.yours n a e)

  module _ (ends : (z : Name) → IsAmong z told → (host_of z ≡ v) ⊎ (host_of z ≡ u)) where
    pub name_alike : (ks : List Name) (s : Stage Name) (n : Name) → At ks s → IsAmong n told → Alike (See n s) (read_name ks n) (known_after ks n)
    unfolding seen.seen_name
    name_alike ks s n h a = own_alike ks s n h a (ends n a) (host_of n == v) refl

    value_alike : (ks : List Name) (s : Stage Name) (y : Value Name) → At ks s → ((z : Name) → IsAmong z (told_value y) → IsAmong z told) → Alike (seen.seen_value v u answers y s) (Plain (let r = world.read_value ks y in r.read)) (let r = world.read_value ks y in r.known)
    unfolding seen.seen_value world.read_value told_value
    value_alike ks s (Ref n) h f = let r = name_alike ks s n h (f n (inl refl)) in (ap (λ x. Plain (Ref x)) r.0, r.1)
    value_alike ks s other h f = (refl, h)

    -- ---- gifts that are learnt

    first_learnt : (n : Name) (s : Stage Name) (b : Bool) → (let h : Heard Name (Incoming Name Name) = seen.seen_first v u answers n b s in h.after.learnt) ≡ s.learnt
    unfolding seen.seen_first
    first_learnt n s true = refl
    first_learnt n s false = refl

    told_learnt : (n : Name) (s : Stage Name) (b : Bool) → (let h : Heard Name (Incoming Name Name) = seen.seen_told v u answers n b s in h.after.learnt) ≡ s.learnt
    unfolding seen.seen_told
    told_learnt n s true = refl
    told_learnt n s false = first_learnt n s (is_object n)

    unasked_learnt : (n : Name) (s : Stage Name) (b : Bool) → (let h : Heard Name (Incoming Name Name) = seen.seen_unasked v u answers n b s in h.after.learnt) ≡ s.learnt
    unfolding seen.seen_unasked
    unasked_learnt n s true = refl
    unasked_learnt n s false = told_learnt n s (stands_in (sight v u) s.imports n)

    own_learnt : (n : Name) (s : Stage Name) (b : Bool) → (let h : Heard Name (Incoming Name Name) = seen.seen_own v u answers n b s in h.after.learnt) ≡ s.learnt
    unfolding seen.seen_own
    own_learnt n s true = unasked_learnt n s (stands_in (sight v u) answers n)
    own_learnt n s false = refl

    name_learnt : (n : Name) (s : Stage Name) → (See n s).after.learnt ≡ s.learnt
    unfolding seen.seen_name
    name_learnt n s = own_learnt n s (host_of n == v)

    value_learnt : (y : Value Name) (s : Stage Name) → (let h : Heard Name (Passed (Incoming Name Name)) = seen.seen_value v u answers y s in h.after.learnt) ≡ s.learnt
    unfolding seen.seen_value
    value_learnt (Ref n) s = name_learnt n s
    value_learnt other s = refl

    abbrev Unlearnt : ℕ → ℕ → Stage Name → Type 0
    Unlearnt h i s = learnt_at h i s.learnt ≡ None

    both_or : (a b : Bool) (n : Name) (o : Option Name) → (a ≡ true → b ≡ true → ⊥) → o ≡ None → ◌≡◌ {A = Option Name} (elim a [ true ↦ elim b [ true ↦ Some n | false ↦ o ] | false ↦ o ]) None
    both_or true true n o f e = absurd (f refl refl)
    both_or true false n o f e = e
    both_or false b n o f e = e

    both_not : (a b : Bool) (n : Name) (o : Option Name) → ◌≡◌ {A = Option Name} (elim a [ true ↦ elim b [ true ↦ Some n | false ↦ o ] | false ↦ o ]) None → (a ≡ true → b ≡ true → ⊥) × (o ≡ None)
    both_not true true n o e = cc
    both_not true false n o e = (λ i j. cc, e)
    both_not false b n o e = (λ i j. cc, e)

    learnt_end : (h i : ℕ) (gs : List (Learnt Name)) (g : Learnt Name) → learnt_at h i gs ≡ None → (g.host ≡ h → g.number ≡ i → ⊥) → learnt_at h i (gs ++ g ∷ []) ≡ None
    unfolding learnt_at
    learnt_end h i [] g e f = both_or (g.host == h) (g.number == i) g.name None (λ a b. f (eqb-true g.host h a) (eqb-true g.number i b)) refl
    learnt_end h i (x ∷ gs) g e f = let r = both_not (x.host == h) (x.number == i) x.name (learnt_at h i gs) e in both_or (x.host == h) (x.number == i) x.name (learnt_at h i (gs ++ g ∷ [])) r.0 (learnt_end h i gs g r.1 f)

    once_same : (i : ℕ) → once (i == i) ≡ 1
    unfolding once
    once_same i = ap (λ (b : Bool). once b) (eq-eqb i i refl)

    same_gift : (h i a b : ℕ) → Gift a b ≡ Gift h i → (a ≡ h) × (b ≡ i)
    same_gift h i a b e = let x : a ≡ h = cc in let y : b ≡ i = cc in (x, y)

    mutual
      unfolding gifts_in gifts_in_all

      passed_counts : (h i : ℕ) (y : Passed Name) → IsPassed (Gift h i) y → 1 ≤ gifts_in i y
      passed_counts h i (Plain y) a = absurd a
      passed_counts h i (AGift g j) a = let e = same_gift h i g j a in let one = once_same i in subst (λ (k : ℕ). 1 ≤ once (i == k)) (sym e.1) (omega arith)
      passed_counts h i (Many ys) a = all_count h i ys a

      all_count : (h i : ℕ) (ys : Passeds Name) → IsPassedIn (Gift h i) ys → 1 ≤ gifts_in_all i ys
      all_count h i NoMore a = absurd a
      all_count h i (More y ys) (inl a) = let k = passed_counts h i y a in omega arith
      all_count h i (More y ys) (inr a) = let k = all_count h i ys a in omega arith

    -- ---- what passes

    gift_seen : (ks : List Name) (s : Stage Name) (h i : ℕ) → At ks s → (h ≡ v → ⊥) → Alike (seen.seen_gift v u answers h i None s) (AGift h i) (ks ++ Gift h i ∷ [])
    unfolding seen.seen_gift host_of
    gift_seen ks s h i k o = (
      refl,
      record {
        count = ap suc k.count ∙ sym (length_end ks (Gift h i));
        imported = λ z a. known_front ks (Gift h i ∷ []) z (k.imported z a);
        heard = λ z a. known_front ks (Gift h i ∷ []) z (k.heard z a);
        yours = λ z a b. known_front ks (Gift h i ∷ []) z (k.yours z a b);
        comes = λ z a b c. either z a b (among_split z ks (Gift h i ∷ []) c);
      },
    )
      where
        either : (z : Name) → IsAmong z told → host_of z ≡ v → IsAmong z ks ⊎ IsAmong z (Gift h i ∷ []) → IsAmong z answers ⊎ IsAmong z s.imports
        either z a b (inl c) = k.comes z a b c
        either z a b (inr (inl e)) = absurd (o (sym (ap host_of e) ∙ b))
        either z a b (inr (inr c)) = absurd c

    abbrev Keeps : Passed Name → Stage Name → Stage Name → Type 0
    Keeps y s r = (h i : ℕ) → Unlearnt h i s → (IsPassed (Gift h i) y → ⊥) → Unlearnt h i r

    abbrev KeepsAll : Passeds Name → Stage Name → Stage Name → Type 0
    KeepsAll ys s r = (h i : ℕ) → Unlearnt h i s → (IsPassedIn (Gift h i) ys → ⊥) → Unlearnt h i r

    gift_keeps : (s : Stage Name) (h i : ℕ) → Keeps (AGift h i) s (let x : Heard Name (Passed (Incoming Name Name)) = seen.seen_gift v u answers h i None s in x.after)
    unfolding seen.seen_gift
    gift_keeps s h i g j e f = learnt_end g j s.learnt (record { host = h; number = i; name = Gift h i }) e (λ a b. f (ap (λ (x : ℕ). Gift x i) a ∙ ap (λ (y : ℕ). Gift g y) b))

    twice : (i a b : ℕ) → 1 ≤ a → 1 ≤ b → a + b ≤ 1 → ⊥
    twice i a b x y z = omega arith

    module _ (P : ℕ → ℕ) (d : List ℕ) where
      mutual
        unfolding seen.seen_passed seen.seen_all world.read_passed world.read_all world.plain_read world.many_read world.more_read told_passed told_all gifts_in gifts_in_all

        passed_alike : (ks : List Name) (s : Stage Name) (y : Passed Name) → At ks s → ((z : Name) → IsAmong z (told_passed y) → IsAmong z told) → PassesFrom P d v u y → ((h i : ℕ) → IsPassed (Gift h i) y → Unlearnt h i s) → ((i : ℕ) → gifts_in i y ≤ 1)
            → Alike (seen.seen_passed v u answers y s) (let r = world.read_passed y ks in r.read) (let r = world.read_passed y ks in r.known) × Keeps y s (let x : Heard Name (Passed (Incoming Name Name)) = seen.seen_passed v u answers y s in x.after)
        passed_alike ks s (Plain y) k f p l c = (value_alike ks s y k f, λ h i e o. ap (λ gs. learnt_at h i gs) (value_learnt y s) ∙ e)
        passed_alike ks s (AGift h i) k f p l c = let none : learnt_at h i s.learnt ≡ None = l h i refl in
            subst (λ o. Alike (seen.seen_gift v u answers h i o s) (AGift h i) (ks ++ Gift h i ∷ []) × Keeps (AGift h i) s (let x : Heard Name (Passed (Incoming Name Name)) = seen.seen_gift v u answers h i o s in x.after)) (sym none) (gift_seen ks s h i k p.1, gift_keeps s h i)
        passed_alike ks s (Many ys) k f p l c = let r = all_alike ks s ys k f p l c in ((ap Many r.0.0, r.0.1), r.1)

        all_alike : (ks : List Name) (s : Stage Name) (ys : Passeds Name) → At ks s → ((z : Name) → IsAmong z (told_all ys) → IsAmong z told) → AllPassFrom P d v u ys → ((h i : ℕ) → IsPassedIn (Gift h i) ys → Unlearnt h i s) → ((i : ℕ) → gifts_in_all i ys ≤ 1)
            → Alike (seen.seen_all v u answers ys s) (let r = world.read_all ys ks in r.read) (let r = world.read_all ys ks in r.known) × KeepsAll ys s (let x : Heard Name (Passeds (Incoming Name Name)) = seen.seen_all v u answers ys s in x.after)
        all_alike ks s NoMore k f p l c = ((refl, k), λ h i e o. e)
        all_alike ks s (More y ys) k f p l c = let one = passed_alike ks s y k (λ z a. f z (among_front z (told_passed y) (told_all ys) a)) p.0 (λ h i a. l h i (inl a)) (λ i. let e = c i in omega arith) in
            let x : Heard Name (Passed (Incoming Name Name)) = seen.seen_passed v u answers y s in let ms = (let r = world.read_passed y ks in r.known) in
            let rest = all_alike ms x.after ys one.0.1 (λ z a. f z (among_back z (told_passed y) (told_all ys) a)) p.1 (λ h i a. one.1 h i (l h i (inr a)) (λ b. twice i (gifts_in i y) (gifts_in_all i ys) (passed_counts h i y b) (all_count h i ys a) (c i))) (λ i. let e = c i in omega arith) in (
              (ap (λ z. More z (let e : Heard Name (Passeds (Incoming Name Name)) = seen.seen_all v u answers ys x.after in e.read)) one.0.0 ∙ ap (λ zs. More (let r = world.read_passed y ks in r.read) zs) rest.0.0, rest.0.1),
              λ h i e o. rest.1 h i (one.1 h i e (λ b. o (inl b))) (λ b. o (inr b)),
            )

-- ---- a note

named_is : (ks : List Name) (n : Name) (b : Bool) → is_old ks n ≡ b → named (read_name ks n) ≡ n
unfolding named
named_is ks n true e = ap named (read_as ks n true e).0
named_is ks n false e = ap named (read_as ks n false e).0

module _ (v u : ℕ) (answers : List Name) (P : ℕ → ℕ) (d : List ℕ) (ks : List Name) (s : Stage Name) where
  abbrev Ends : Note Name → Type 0
  Ends n = (z : Name) → IsAmong z (told_in n) → (host_of z ≡ v) ⊎ (host_of z ≡ u)

  abbrev Result : Note Name → Type 0
  Result n = let h : Heard Name (Note (Incoming Name Name)) = seen.seen_note v u answers n s in (h.read ≡ as_heard v u (world.read_note ks n)) × (h.after.known ≡ length (names_heard ks n))

  deliver_alike : (m : Delivery Name) (n : Name) (verb : Words) (ys : Passeds Name) → At v u answers (told_in (Deliver m n verb ys)) ks s → Ends (Deliver m n verb ys) → host_of n ≡ u → AllPassFrom P d v u ys → ((h i : ℕ) → IsPassedIn (Gift h i) ys → learnt_at h i s.learnt ≡ None) → ((i : ℕ) → gifts_in_all i ys ≤ 1) → Result (Deliver m n verb ys)
  unfolding seen.seen_note world.read_note as_heard as_told from_peer names_heard told_in
  deliver_alike m n verb ys k ends host p l c = let told = told_in (Deliver m n verb ys) in let one = name_alike v u answers told ends ks s n k (inl refl) in
      let first = read_as ks n true (known_old ks n (k.yours n (inl refl) host)) in
      let x : Heard Name (Incoming Name Name) = seen.seen_name v u answers n s in
      let at : At v u answers told ks x.after = subst (λ ms. At v u answers told ms x.after) first.1 one.1 in
      let rest = all_alike v u answers told ends P d ks x.after ys at (λ z a. inr a) p (λ h i a. ap (λ gs. learnt_at h i gs) (name_learnt v u answers told ends n s) ∙ l h i a) c in
      let ms = (let r = world.read_all ys ks in r.known) in let later = rest.0.1 in
      let last = read_as ms n true (known_old ms n (later.yours n (inl refl) host)) in
      let zs : Heard Name (Passeds (Incoming Name Name)) = seen.seen_all v u answers ys x.after in
      (ap (λ y. Deliver (record { message = New m.message v; asks = m.asks; answer = None }) y verb zs.read) (one.0 ∙ first.0 ∙ sym last.0) ∙ ap (λ ws. Deliver (record { message = New m.message v; asks = m.asks; answer = None }) (read_name ms n) verb ws) rest.0.0, later.count ∙ ap (λ (ns : List Name). length ns) (sym last.1))

  pub note_alike : (n : Note Name) → At v u answers (told_in n) ks s → Ends n → IsBetween v u n → Provides P d v u n → ((h i : ℕ) → Passes (Gift h i) n → learnt_at h i s.learnt ≡ None) → ((i : ℕ) → gifts_in_note i n ≤ 1) → Result n
  unfolding seen.seen_note world.read_note as_heard as_told names_heard told_in gifts_in_note
  note_alike (Deliver m n verb ys) k ends b p l c = deliver_alike m n verb ys k ends b p l c
  note_alike (Open i n) k ends b p l c = let r = name_alike v u answers (told_in (Open i n)) ends ks s n k (inl refl) in let at = r.1 in (ap (λ x. Open i x) r.0, at.count)
  note_alike (Ask q i n) k ends b p l c = (ap (λ z. Ask q i (New z u)) (sym (named_is ks n (is_old ks n) refl)), k.count)
  note_alike (SettledTo n y) k ends b p l c = let told = told_in (SettledTo n y) in let one = name_alike v u answers told ends ks s n k (inl refl) in let x : Heard Name (Incoming Name Name) = seen.seen_name v u answers n s in
      let rest = passed_alike v u answers told ends P d (known_after ks n) x.after y one.1 (λ z a. inr a) p (λ h i a. ap (λ gs. learnt_at h i gs) (name_learnt v u answers told ends n s) ∙ l h i a) c in
      let z : Heard Name (Passed (Incoming Name Name)) = seen.seen_passed v u answers y x.after in let at = rest.0.1 in
      (ap (λ w. SettledTo w z.read) one.0 ∙ ap (λ w. SettledTo (read_name ks n) w) rest.0.0, at.count)
  note_alike (Elsewhere n c) k ends b p l q = let r = name_alike v u answers (told_in (Elsewhere n c)) ends ks s n k (inl refl) in let at = r.1 in (ap (λ x. Elsewhere x c) r.0, at.count)
  note_alike (Shorten n c i) k ends b p l q = let r = name_alike v u answers (told_in (Shorten n c i)) ends ks s n k (inl refl) in let at = r.1 in (ap (λ x. Shorten x v i) r.0, at.count)
