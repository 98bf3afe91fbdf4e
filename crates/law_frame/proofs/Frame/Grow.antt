-- What a note brings is added at the end: to the names that its receiver knows, and to what its sender exported.
use Rattle.std.proofs.Common.{◌≡◌, ℕ, zero, suc, ◌<◌, Bool, true, false, List, [], ◌∷◌, ◌++◌, Some, refl, sym, ap, subst, ◌∙◌, ◌⊎◌, inl, inr, length, append_assoc, append-nil, ◌==◌, arith}
use Rattle.std.specs.Prelude.{slice_get}
use Rattle.std.proofs.lemmas.Bool.{eqb-true, eq-eqb}
use Rattle.def_machine.specs.Values.{Value, Ref, Name, Root, Object, Promise, Answer, Gift, Sent, same_name, host_of, answer_of}
use Rattle.def_machine.specs.State.{Passed, Passeds, Plain, AGift, Many, NoMore, More, Note, Deliver, Open, Ask, SettledTo, Elsewhere, Shorten}
use Rattle.def_run.specs.World as world
use Rattle.def_run.specs.World.{has_name, is_old, known_after}
use Rattle.law_reference.specs.Reference.Logs as wire
use Rattle.law_fate.specs.Name.Names.{IsAmong, IsKnownIn}
use Rattle.law_fate.proofs.Name.SameNames.{has_among, among_has, same_self}
use Rattle.law_fate.proofs.Name.Among.{among_last, among_or}
use Rattle.law_frame.proofs.Frame.Ranks.{Starts}

pub true_false : (b : Bool) → b ≡ true → b ≡ false → ⊥
true_false b e f = cc

pub on_bool : {C : Type 0} (b : Bool) → (b ≡ true → C) → (b ≡ false → C) → C
on_bool true f g = f refl
on_bool false f g = g refl

pub among_left : {A : Type 0} (x : A) (xs ys : List A) → IsAmong x xs → IsAmong x (xs ++ ys)
among_left x [] ys a = absurd a
among_left x (z ∷ xs) ys (inl e) = inl e
among_left x (z ∷ xs) ys (inr a) = inr (among_left x xs ys a)

pub among_right : {A : Type 0} (x : A) (xs ys : List A) → IsAmong x ys → IsAmong x (xs ++ ys)
among_right x [] ys a = a
among_right x (z ∷ xs) ys a = inr (among_right x xs ys a)

pub get_front : (xs ys : List Name) (i : ℕ) (n : Name) → slice_get xs i ≡ Some n → slice_get (xs ++ ys) i ≡ Some n
get_front [] ys i n e = cc
get_front (x ∷ xs) ys zero n e = e
get_front (x ∷ xs) ys (suc i) n e = get_front xs ys i n e

rank_less_or : (b : Bool) (r k : ℕ) → (b ≡ false → r < k) → (elim b as (λ b. ℕ) [ true ↦ zero | false ↦ suc r ]) < suc k
rank_less_or true r k h = omega arith
rank_less_or false r k h = let g = h refl in omega arith

-- a name stands among the first
pub rank_less : (ns : List Name) (n : Name) → IsAmong n ns → wire.rank ns n < length ns
unfolding wire.rank
rank_less [] n h = absurd h
rank_less (m ∷ ms) n h = rank_less_or (same_name m n) (wire.rank ms n) (length ms) (λ e. rank_less ms n (tail h e))
  where
    tail : IsAmong n (m ∷ ms) → same_name m n ≡ false → IsAmong n ms
    tail (inl f) e = absurd (true_false (same_name m n) (ap (λ z. same_name z n) (sym f) ∙ same_self n) e)
    tail (inr a) e = a

-- ---- starts

pub starts_same : (ns : List Name) → Starts ns ns
starts_same ns = ([], sym (append-nil ns))

pub starts_end : (ns : List Name) (n : Name) → Starts ns (ns ++ n ∷ [])
starts_end ns n = (n ∷ [], refl)

pub starts_on : (ns ms ks : List Name) → Starts ns ms → Starts ms ks → Starts ns ks
starts_on ns ms ks h k = (h.0 ++ k.0, k.1 ∙ ap (λ xs. xs ++ k.0) h.1 ∙ append_assoc ns h.0 k.0)

pub starts_among : (ns ms : List Name) → Starts ns ms → (n : Name) → IsAmong n ns → IsAmong n ms
starts_among ns ms h n a = subst (λ xs. IsAmong n xs) (sym h.1) (among_left n ns h.0 a)

-- ---- exports

module _ (v : ℕ) (asked : List Name) where
  there_starts : (a b c : Bool) (n : Name) (ns : List Name) → Starts ns (elim a [ true ↦ elim b [ true ↦ ns | false ↦ elim c [ true ↦ ns | false ↦ ns ++ n ∷ [] ] ] | false ↦ ns ])
  there_starts true true c n ns = starts_same ns
  there_starts true false true n ns = starts_same ns
  there_starts true false false n ns = starts_end ns n
  there_starts false b c n ns = starts_same ns

  pub export_starts : (n : Name) (ns : List Name) → Starts ns (wire.with_export v asked n ns)
  unfolding wire.with_export
  export_starts n ns = there_starts (host_of n == v) (has_name asked n) (has_name ns n) n ns

  value_starts : (y : Value Name) (ns : List Name) → Starts ns (wire.with_value v asked y ns)
  unfolding wire.with_value
  value_starts (Ref n) ns = export_starts n ns
  value_starts other ns = starts_same ns

  mutual
    unfolding wire.with_passed wire.with_all

    pub passed_starts : (y : Passed Name) (ns : List Name) → Starts ns (wire.with_passed v asked y ns)
    passed_starts (Plain y) ns = value_starts y ns
    passed_starts (AGift w i) ns = starts_same ns
    passed_starts (Many ys) ns = all_starts ys ns

    pub all_starts : (ys : Passeds Name) (ns : List Name) → Starts ns (wire.with_all v asked ys ns)
    all_starts NoMore ns = starts_same ns
    all_starts (More y ys) ns = starts_on ns (wire.with_passed v asked y ns) (wire.with_all v asked ys (wire.with_passed v asked y ns)) (passed_starts y ns) (all_starts ys (wire.with_passed v asked y ns))

  -- what is exported was exported before, or is the name
  there_or : (a b c : Bool) (m n : Name) (ns : List Name) → IsAmong m (elim a [ true ↦ elim b [ true ↦ ns | false ↦ elim c [ true ↦ ns | false ↦ ns ++ n ∷ [] ] ] | false ↦ ns ]) → IsAmong m ns ⊎ (m ≡ n)
  there_or true true c m n ns h = inl h
  there_or true false true m n ns h = inl h
  there_or true false false m n ns h = among_or m ns n h
  there_or false b c m n ns h = inl h

  pub export_or : (m n : Name) (ns : List Name) → IsAmong m (wire.with_export v asked n ns) → IsAmong m ns ⊎ (m ≡ n)
  unfolding wire.with_export
  export_or m n ns h = there_or (host_of n == v) (has_name asked n) (has_name ns n) m n ns h

  -- a name of the vat for which nobody asked is exported
  there_itself : (a b c : Bool) (n : Name) (ns : List Name) → a ≡ true → b ≡ false → has_name ns n ≡ c → IsAmong n (elim a [ true ↦ elim b [ true ↦ ns | false ↦ elim c [ true ↦ ns | false ↦ ns ++ n ∷ [] ] ] | false ↦ ns ])
  there_itself true false true n ns e f g = has_among ns n g
  there_itself true false false n ns e f g = among_last ns n
  there_itself true true c n ns e f g = cc
  there_itself false b c n ns e f g = cc

  pub export_itself : (n : Name) (ns : List Name) → host_of n ≡ v → has_name asked n ≡ false → IsAmong n (wire.with_export v asked n ns)
  unfolding wire.with_export
  export_itself n ns e f = there_itself (host_of n == v) (has_name asked n) (has_name ns n) n ns (eq-eqb (host_of n) v e) f refl

  -- when nothing is added, and when the name is
  there_other : (a : Bool) (xs ns : List Name) → a ≡ false → ◌≡◌ {A = List Name} (elim a [ true ↦ xs | false ↦ ns ]) ns
  there_other true xs ns e = cc
  there_other false xs ns e = refl

  pub export_other : (n : Name) (ns : List Name) → (host_of n ≡ v → ⊥) → wire.with_export v asked n ns ≡ ns
  unfolding wire.with_export
  export_other n ns f = there_other (host_of n == v) _ ns (on_bool (host_of n == v) (λ e. absurd (f (eqb-true (host_of n) v e))) (λ e. e))

  there_asked : (a b : Bool) (xs ns : List Name) → b ≡ true → ◌≡◌ {A = List Name} (elim a [ true ↦ elim b [ true ↦ ns | false ↦ xs ] | false ↦ ns ]) ns
  there_asked true true xs ns e = refl
  there_asked true false xs ns e = cc
  there_asked false b xs ns e = refl

  pub export_asked : (n : Name) (ns : List Name) → has_name asked n ≡ true → wire.with_export v asked n ns ≡ ns
  unfolding wire.with_export
  export_asked n ns e = there_asked (host_of n == v) (has_name asked n) _ ns e

  there_again : (a b c : Bool) (xs ns : List Name) → c ≡ true → ◌≡◌ {A = List Name} (elim a [ true ↦ elim b [ true ↦ ns | false ↦ elim c [ true ↦ ns | false ↦ xs ] ] | false ↦ ns ]) ns
  there_again true true c xs ns e = refl
  there_again true false true xs ns e = refl
  there_again true false false xs ns e = cc
  there_again false b c xs ns e = refl

  pub export_again : (n : Name) (ns : List Name) → IsAmong n ns → wire.with_export v asked n ns ≡ ns
  unfolding wire.with_export
  export_again n ns a = there_again (host_of n == v) (has_name asked n) (has_name ns n) _ ns (among_has ns n a)

  there_new : (a b c : Bool) (xs ns : List Name) → a ≡ true → b ≡ false → c ≡ false → ◌≡◌ {A = List Name} (elim a [ true ↦ elim b [ true ↦ ns | false ↦ elim c [ true ↦ ns | false ↦ xs ] ] | false ↦ ns ]) xs
  there_new true false false xs ns e f g = refl
  there_new true false true xs ns e f g = cc
  there_new true true c xs ns e f g = cc
  there_new false b c xs ns e f g = cc

  pub export_new : (n : Name) (ns : List Name) → host_of n ≡ v → has_name asked n ≡ false → (IsAmong n ns → ⊥) → wire.with_export v asked n ns ≡ ns ++ n ∷ []
  unfolding wire.with_export
  export_new n ns e f g = there_new (host_of n == v) (has_name asked n) (has_name ns n) (ns ++ n ∷ []) ns (eq-eqb (host_of n) v e) f (on_bool (has_name ns n) (λ h. absurd (g (has_among ns n h))) (λ h. h))

-- ---- names that are known

pub known_old : (ks : List Name) (n : Name) → IsKnownIn ks n → is_old ks n ≡ true
unfolding is_old
known_old ks (Object c i) h = refl
known_old ks (Root c) h = among_has ks (Root c) h
known_old ks (Promise c i) h = among_has ks (Promise c i) h
known_old ks (Answer c m) h = among_has ks (Answer c m) h
known_old ks (Gift c i) h = among_has ks (Gift c i) h
known_old ks (Sent m) h = among_has ks (Sent m) h

pub among_known : (ks : List Name) (n : Name) → IsAmong n ks → IsKnownIn ks n
among_known ks (Object c i) h = tt
among_known ks other h = h

same_known : (b : Bool) (ks : List Name) (n : Name) → b ≡ true → ◌≡◌ {A = List Name} (elim b [ true ↦ ks | false ↦ ks ++ n ∷ [] ]) ks
same_known true ks n e = refl
same_known false ks n e = cc

pub after_old : (ks : List Name) (n : Name) → is_old ks n ≡ true → known_after ks n ≡ ks
unfolding known_after
after_old ks n e = same_known (is_old ks n) ks n e

more_known : (b : Bool) (ks : List Name) (n : Name) → b ≡ false → ◌≡◌ {A = List Name} (elim b [ true ↦ ks | false ↦ ks ++ n ∷ [] ]) (ks ++ n ∷ [])
more_known true ks n e = cc
more_known false ks n e = refl

pub after_new : (ks : List Name) (n : Name) → is_old ks n ≡ false → known_after ks n ≡ ks ++ n ∷ []
unfolding known_after
after_new ks n e = more_known (is_old ks n) ks n e

either_starts : (b : Bool) (ks : List Name) (n : Name) → Starts ks (elim b [ true ↦ ks | false ↦ ks ++ n ∷ [] ])
either_starts true ks n = starts_same ks
either_starts false ks n = starts_end ks n

pub after_starts : (ks : List Name) (n : Name) → Starts ks (known_after ks n)
unfolding known_after
after_starts ks n = either_starts (is_old ks n) ks n

either_or : (b : Bool) (ks : List Name) (m n : Name) → IsAmong m (elim b [ true ↦ ks | false ↦ ks ++ n ∷ [] ]) → IsAmong m ks ⊎ (m ≡ n)
either_or true ks m n h = inl h
either_or false ks m n h = among_or m ks n h

pub after_or : (ks : List Name) (m n : Name) → IsAmong m (known_after ks n) → IsAmong m ks ⊎ (m ≡ n)
unfolding known_after
after_or ks m n h = either_or (is_old ks n) ks m n h

itself_or : (b : Bool) (ks : List Name) (n : Name) → has_name ks n ≡ b → IsAmong n (elim b [ true ↦ ks | false ↦ ks ++ n ∷ [] ])
itself_or true ks n e = has_among ks n e
itself_or false ks n e = among_last ks n

-- a name that was read is known, or an object
pub after_itself : (ks : List Name) (n : Name) → IsKnownIn (known_after ks n) n
unfolding known_after is_old
after_itself ks (Object c i) = tt
after_itself ks (Root c) = itself_or (has_name ks (Root c)) ks (Root c) refl
after_itself ks (Promise c i) = itself_or (has_name ks (Promise c i)) ks (Promise c i) refl
after_itself ks (Answer c m) = itself_or (has_name ks (Answer c m)) ks (Answer c m) refl
after_itself ks (Gift c i) = itself_or (has_name ks (Gift c i)) ks (Gift c i) refl
after_itself ks (Sent m) = itself_or (has_name ks (Sent m)) ks (Sent m) refl

value_known : (ks : List Name) (y : Value Name) → Starts ks (world.read_value ks y).known
unfolding world.read_value
value_known ks (Ref n) = after_starts ks n
value_known ks other = starts_same ks

mutual
  unfolding world.read_passed world.read_all world.plain_read world.many_read world.more_read

  pub passed_known : (y : Passed Name) (ks : List Name) → Starts ks (world.read_passed y ks).known
  passed_known (Plain y) ks = value_known ks y
  passed_known (AGift h i) ks = starts_end ks (Gift h i)
  passed_known (Many ys) ks = all_known ys ks

  pub all_known : (ys : Passeds Name) (ks : List Name) → Starts ks (world.read_all ys ks).known
  all_known NoMore ks = starts_same ks
  all_known (More y ys) ks = starts_on ks (world.read_passed y ks).known (world.read_all ys (world.read_passed y ks).known).known (passed_known y ks) (all_known ys (world.read_passed y ks).known)

-- ---- questions

asked_join : (b : Bool) (x : Name) (xs ys : List Name) → wire.asked_if b x (xs ++ ys) ≡ wire.asked_if b x xs ++ ys
unfolding wire.asked_if
asked_join true x xs ys = refl
asked_join false x xs ys = refl

-- what some notes ask for, and then what others do
pub questions_twice : (u : ℕ) (front rest : List (Note Name)) → wire.questions_in u (front ++ rest) ≡ wire.questions_in u front ++ wire.questions_in u rest
unfolding wire.questions_in
questions_twice u [] rest = refl
questions_twice u (Deliver d n verb ys ∷ front) rest = ap (λ xs. wire.asked_if d.asks (answer_of u d.message) xs) (questions_twice u front rest) ∙ asked_join d.asks (answer_of u d.message) (wire.questions_in u front) (wire.questions_in u rest)
questions_twice u (Ask p i n ∷ front) rest = ap (λ xs. n ∷ xs) (questions_twice u front rest)
questions_twice u (Open i n ∷ front) rest = questions_twice u front rest
questions_twice u (SettledTo n y ∷ front) rest = questions_twice u front rest
questions_twice u (Elsewhere n c ∷ front) rest = questions_twice u front rest
questions_twice u (Shorten n c i ∷ front) rest = questions_twice u front rest
