-- Whether two values of a vat are the same, and whether a part of them is unsettled, is what the machine tells of them.
use Rattle.std.proofs.Common.{◌≡◌, ◌==◌, ◌&&◌, ℕ, zero, suc, ℤ, pos, negsuc, Bool, true, false, List, [], ◌∷◌, length, refl, ap, ◌∙◌, arith}
use Rattle.std.specs.Prelude.{codes, not, if◌then◌else◌}
use Rattle.std.specs.Ordering.{int_eq}
use Rattle.std.specs.Str.{bytes_eq}
use Rattle.std.proofs.lemmas.List.{length-map}
use Rattle.std.proofs.lemmas.Bool.Decides.{nat_tests, same_from_decides, Decides-int_eq}
use Rattle.ev_base.specs.declared.values.Value.{Value as Held}
use Rattle.ev_base.specs.declared.values.Value.TheVariants as held
use Rattle.def_kernel.specs.declared.node.Node.{Node}
use Rattle.def_machine.specs.Free.{same_words}
use Rattle.def_machine.specs.Ints.{same_int}
use Rattle.def_machine.specs.Values.{Words, Value, Flag, Local, same_local, numbering}
use Rattle.def_machine.specs.Refs.{place, any_of}
use Rattle.def_machine.specs.Native as native
use Rattle.def_machine.specs.Perform as perform
use Rattle.ev_prims.specs.Answers.{members_at}
use Rattle.ev_prims.specs.Reading.{text_in}
use Rattle.ev_pass.specs.declared.interior.Interior.{Interior as Room}
use Rattle.ev_refs.specs.Follow.{followed, place_of}
use Rattle.ev_refs.specs.Reading.{place_by}
use Rattle.ev_refs.specs.declared.follow.Place.{Place}
use Rattle.ev_refs.specs.declared.follow.Place.TheVariants.{Near, Mine, FarPromise, FarObject, Gone}
use Rattle.ev_room.specs.Reading.{World, names, texts_of, text_of, value_of, values_of, members_of}
use Rattle.ev_steps.specs.Same.{is_unsettled, any_of as any_in, open_by, is_open, same_plain, all_same, same_by, is_same}
use Rattle.ev_room.specs.Sound.{IsSound, is_there, are_there}
use Rattle.law_evaluation.proofs.Acts.Replies.{members_there}
use Rattle.law_evaluation.proofs.Acts.Following.{followed_there}
use Rattle.law_evaluation.proofs.Acts.Stands.{vat, lists_of, members_are, follow_is, place_is}
use Rattle.ev_room.proofs.There.{both}
use Rattle.law_evaluation.proofs.Acts.Weights.{IsFront, same_text}
use Rattle.law_evaluation.proofs.Acts.Words.{same_is}

-- ---- tests

both_or : (a b : Bool) → a && b ≡ (if a then b else false)
both_or true b = refl
both_or false b = refl

flags : (a b : Bool) → elim a [ true ↦ b | false ↦ elim b [ true ↦ false | false ↦ true ] ] ≡ (if a then b else not b)
flags true b = refl
flags false true = refl
flags false false = refl

nat_same : (x y : ℕ) → x == y ≡ true → x ≡ y
nat_same x y h = grind (arith, nat_tests)

nat_self : (x : ℕ) → x == x ≡ true
nat_self x = grind (arith, nat_tests)

int_true : (a b : ℤ) → same_int a b ≡ true → a ≡ b
unfolding same_int
int_true (pos m) (pos n) h = ap pos (nat_same m n h)
int_true (negsuc m) (negsuc n) h = ap negsuc (nat_same m n h)
int_true (pos m) (negsuc n) h = cc
int_true (negsuc m) (pos n) h = cc

int_self : (a : ℤ) → same_int a a ≡ true
unfolding same_int
int_self (pos m) = nat_self m
int_self (negsuc m) = nat_self m

int_of : (a b : ℤ) → a ≡ b → same_int a b ≡ true
int_of a b e = rw e (int_self b)

ints : (a b : ℤ) → same_int a b ≡ int_eq a b
ints a b = same_from_decides _ _ (int_true a b, int_of a b) (Decides-int_eq a b)

picked : (b c p q : Bool) → b ≡ c → p ≡ q → elim b [ true ↦ p | false ↦ false ] ≡ (if c then q else false)
picked true true p q e f = f
picked false false p q e f = refl
picked true false p q e f = absurd (cc)
picked false true p q e f = absurd (cc)

-- which of two members comes first that is so
either : (a b c d : Bool) → a ≡ b → c ≡ d → elim a [ true ↦ true | false ↦ c ] ≡ (if b then true else d)
either true true c d e f = refl
either false false c d e f = f
either true false c d e f = absurd (cc)
either false true c d e f = absurd (cc)

last_of_two : (a b : Bool) → a ≡ b → elim a [ true ↦ true | false ↦ false ] ≡ b
last_of_two true true e = refl
last_of_two false false e = refl
last_of_two true false e = absurd (cc)
last_of_two false true e = absurd (cc)

-- what is answered, by whether a part is unsettled and whether the two are the same
abbrev pub unsettled_or : Bool → Bool → native.Reply Local
unsettled_or true b = native.Fails (codes "not settled")
unsettled_or false b = native.Says (Flag b)

replied : (a b c d : Bool) → a ≡ b → c ≡ d → elim a [ true ↦ native.Fails (codes "not settled") | false ↦ native.Says (Flag c) ] ≡ unsettled_or b d
replied true true c d e f = refl
replied false false c d e f = ap (λ (x : Bool). native.Says (Flag x)) f
replied true false c d e f = absurd (cc)
replied false true c d e f = absurd (cc)

module _ (w : World) (tree : List Node) (s : Room) (front : IsFront w s.heap) (sound : IsSound s) where
  count_is : length (vat w s).lists ≡ length s.heap.lists
  count_is = ap length (lists_of w s) ∙ length-map s.heap.lists (members_of w)

  texts_are : (a b : ℕ) → is_there s.heap (held.Text a) ≡ true → is_there s.heap (held.Text b) ≡ true
      → same_words (text_of w a) (text_of w b) ≡ bytes_eq (text_in s.heap a) (text_in s.heap b)
  texts_are a b i j =
      same_is (text_of w a) (text_of w b)
      ∙ ap (λ (u : Words). bytes_eq u (text_of w b)) (same_text w s.heap front a i)
      ∙ ap (λ (u : Words). bytes_eq (text_in s.heap a) u) (same_text w s.heap front b j)

  -- ---- what is unsettled

  any_open : (theirs : Value Local → Bool) (ours : Held → Bool) (xs : List Held) → ((x : Held) → theirs (value_of w x) ≡ ours x)
      → any_of (names w) theirs (values_of w xs) ≡ any_in ours xs
  unfolding any_of
  any_open theirs ours [] h = refl
  any_open theirs ours (x ∷ xs) h = either (theirs (value_of w x)) (ours x) (any_of (names w) theirs (values_of w xs)) (any_in ours xs) (h x) (any_open theirs ours xs h)

  unsettled_at : (p : Place) → perform.is_unsettled (names w) tree (place_by (texts_of w) p) ≡ is_unsettled p
  unfolding perform.is_unsettled
  unsettled_at Near = refl
  unsettled_at other = refl

  -- what is no list
  placed : (x : Held) → perform.is_unsettled (names w) tree (place (names w) (vat w s) (value_of w x)) ≡ is_unsettled (place_of s.refs x)
  placed x = ap (perform.is_unsettled (names w) tree) (place_is w s x) ∙ unsettled_at (place_of s.refs x)

  opened_by : (theirs : List (Value Local) → Bool) (ours : List Held → Bool) (x : Held) → ((k : ℕ) → theirs (values_of w (members_at s.heap k)) ≡ ours (members_at s.heap k))
      → perform.open_by (names w) tree theirs (vat w s) (value_of w x) ≡ open_by s ours x
  unfolding perform.open_by open_by
  opened_by theirs ours (held.List k) h = ap theirs (members_are w s k) ∙ h k
  opened_by theirs ours held.Null h = placed held.Null
  opened_by theirs ours (held.Bool b) h = placed (held.Bool b)
  opened_by theirs ours (held.Int z) h = placed (held.Int z)
  opened_by theirs ours (held.Char c) h = placed (held.Char c)
  opened_by theirs ours (held.Text t) h = placed (held.Text t)
  opened_by theirs ours (held.Broken t) h = placed (held.Broken t)
  opened_by theirs ours (held.Prim n) h = placed (held.Prim n)
  opened_by theirs ours (held.Obj i) h = placed (held.Obj i)
  opened_by theirs ours (held.Prom n) h = placed (held.Prom n)
  opened_by theirs ours (held.Far v p) h = placed (held.Far v p)

  open_is : (d : ℕ) (x : Held) → perform.is_open (names w) tree d (vat w s) (value_of w x) ≡ is_open s d x
  unfolding perform.is_open is_open
  open_is zero x = rw (follow_is w s sound x) (opened_by (λ vs. false) (λ vs. false) (followed s.refs x) (λ k. refl))
  open_is (suc d) x =
      rw (follow_is w s sound x)
      (opened_by (any_of (names w) (λ z. perform.is_open (names w) tree d (vat w s) z)) (any_in (λ v. is_open s d v)) (followed s.refs x)
      (λ k. any_open (λ z. perform.is_open (names w) tree d (vat w s) z) (λ v. is_open s d v) (members_at s.heap k) (open_is d)))

  -- ---- the same

  alike_by : (theirs : List (Value Local) → List (Value Local) → Bool) (ours : List Held → List Held → Bool) (x y : Held) → is_there s.heap x ≡ true → is_there s.heap y ≡ true
      → ((j k : ℕ) → theirs (values_of w (members_at s.heap j)) (values_of w (members_at s.heap k)) ≡ ours (members_at s.heap j) (members_at s.heap k))
      → perform.same_by (names w) tree theirs (vat w s) (value_of w x) (value_of w y) ≡ same_by s ours x y
  unfolding perform.same_by same_by same_plain same_local numbering
  alike_by theirs ours (held.Bool a) (held.Bool b) i j h = flags a b
  alike_by theirs ours (held.Int a) (held.Int b) i j h = ints a b
  alike_by theirs ours (held.Text a) (held.Text b) i j h = texts_are a b i j
  alike_by theirs ours (held.Broken a) (held.Broken b) i j h = texts_are a b i j
  alike_by theirs ours (held.List a) (held.List b) i j h =
      ap (λ (vs : List (Value Local)). theirs vs (native.list_at (vat w s).lists b)) (members_are w s a)
      ∙ ap (λ (vs : List (Value Local)). theirs (values_of w (members_at s.heap a)) vs) (members_are w s b)
      ∙ h a b
  alike_by theirs ours (held.Far v p) (held.Far u q) i j h = both_or (v == u) (p == q)
  alike_by theirs ours x (held.Far u q) i j h = refl
  alike_by theirs ours _ _ i j h = refl

  all_alike : (theirs : Value Local → Value Local → Bool) (ours : Held → Held → Bool)
      → ((x y : Held) → is_there s.heap x ≡ true → is_there s.heap y ≡ true → theirs (value_of w x) (value_of w y) ≡ ours x y)
      → (xs ys : List Held) → are_there s.heap xs ≡ true → are_there s.heap ys ≡ true
      → perform.all_same (names w) tree theirs (values_of w xs) (values_of w ys) ≡ all_same ours xs ys
  unfolding perform.all_same all_same
  all_alike theirs ours each [] [] i j = refl
  all_alike theirs ours each [] (y ∷ ys) i j = refl
  all_alike theirs ours each (x ∷ xs) [] i j = refl
  all_alike theirs ours each (x ∷ xs) (y ∷ ys) i j =
      let a = both (is_there s.heap x) (are_there s.heap xs) i in
      let b = both (is_there s.heap y) (are_there s.heap ys) j in
      picked (theirs (value_of w x) (value_of w y)) (ours x y)
      (perform.all_same (names w) tree theirs (values_of w xs) (values_of w ys)) (all_same ours xs ys)
      (each x y a.0 b.0) (all_alike theirs ours each xs ys a.1 b.1)

  same_at : (d : ℕ) (x y : Held) → is_there s.heap x ≡ true → is_there s.heap y ≡ true
      → perform.is_same (names w) tree d (vat w s) (value_of w x) (value_of w y) ≡ is_same s d x y
  unfolding perform.is_same is_same
  same_at zero x y i j =
      rw (follow_is w s sound x, follow_is w s sound y)
      (alike_by (λ vs us. false) (λ vs us. false) (followed s.refs x) (followed s.refs y) (followed_there s sound x i) (followed_there s sound y j) (λ a b. refl))
  same_at (suc d) x y i j =
      rw (follow_is w s sound x, follow_is w s sound y)
      (alike_by (perform.all_same (names w) tree (λ u v. perform.is_same (names w) tree d (vat w s) u v)) (all_same (λ v u. is_same s d v u)) (followed s.refs x) (followed s.refs y)
      (followed_there s sound x i) (followed_there s sound y j)
      (λ a b. all_alike (λ u v. perform.is_same (names w) tree d (vat w s) u v) (λ v u. is_same s d v u) (same_at d)
      (members_at s.heap a) (members_at s.heap b) (members_there s.heap sound.lists a) (members_there s.heap sound.lists b)))

  two_open : (n : ℕ) (x y : Held) → any_of (names w) (perform.is_open (names w) tree n (vat w s)) (values_of w (x ∷ y ∷ [])) ≡ (if is_open s n x then true else is_open s n y)
  unfolding any_of
  two_open n x y =
      either (perform.is_open (names w) tree n (vat w s) (value_of w x)) (is_open s n x) _ (is_open s n y) (open_is n x)
      (last_of_two (perform.is_open (names w) tree n (vat w s) (value_of w y)) (is_open s n y) (open_is n y))

  abbrev reply_to : ℕ → Held → Held → native.Reply Local
  reply_to n x y = elim (any_of (names w) (perform.is_open (names w) tree n (vat w s)) (values_of w (x ∷ y ∷ []))) [
    | true ↦ native.Fails (codes "not settled")
    | false ↦ native.Says (Flag (perform.is_same (names w) tree n (vat w s) (value_of w x) (value_of w y)))
  ]

  reply_at : (n : ℕ) (x y : Held) → is_there s.heap x ≡ true → is_there s.heap y ≡ true → reply_to n x y ≡ unsettled_or (if is_open s n x then true else is_open s n y) (is_same s n x y)
  reply_at n x y i j =
      replied (any_of (names w) (perform.is_open (names w) tree n (vat w s)) (values_of w (x ∷ y ∷ []))) (if is_open s n x then true else is_open s n y)
      (perform.is_same (names w) tree n (vat w s) (value_of w x) (value_of w y)) (is_same s n x y) (two_open n x y) (same_at n x y i j)

  -- what is answered to two values
  pub same_reply_is : (x y : Held) → is_there s.heap x ≡ true → is_there s.heap y ≡ true
      → perform.same_reply (names w) tree (vat w s) (value_of w x) (value_of w y)
      ≡ unsettled_or (if is_open s (length s.heap.lists) x then true else is_open s (length s.heap.lists) y) (is_same s (length s.heap.lists) x y)
  unfolding perform.same_reply
  same_reply_is x y i j = ap (λ (n : ℕ). reply_to n x y) count_is ∙ reply_at (length s.heap.lists) x y i j
