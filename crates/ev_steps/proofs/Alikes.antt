-- Pairs of lists that are compared layer by layer show whether two values are the same.
use Rattle.std.proofs.Common.{◌≡◌, ℕ, zero, suc, ◌+◌, ◌-◌, ◌<◌, ◌≤◌, arith, Bool, true, false, nat_eq, List, [], ◌∷◌, ◌++◌, Some, None, length, drop, refl, sym, ap, ◌∙◌}
use Rattle.std.specs.Prelude.{◌&&◌, ◌||◌, if◌then◌else◌, slice_get}
use Rattle.std.specs.List.{list_any}
use Rattle.std.proofs.lemmas.Bool.{eqb-true}
use Rattle.indexmap.specs.IndexSet.{insert_key}
use Rattle.ev_base.specs.declared.values.Value.{Value}
use Rattle.ev_base.specs.declared.values.Value.TheVariants as held
use Rattle.ev_pass.specs.declared.interior.Interior.{Interior}
use Rattle.ev_prims.specs.Answers.{members_at}
use Rattle.ev_prims.specs.Reading.{text_in}
use Rattle.ev_refs.specs.Follow.{followed}
use Rattle.ev_steps.specs.Layers.{Compares, all_alike, all_within, is_alike, pair_of}
use Rattle.ev_steps.specs.Same.{all_same, is_same, same_by, same_plain}
use Rattle.ev_steps.specs.declared.same.Pair.{Pair}
use Rattle.ev_steps.proofs.Opens.{list_itself}

-- ---- tests of two

and_false : (a : Bool) → (a && false) ≡ false
and_false true = refl
and_false false = refl

and_none : (a : Bool) → (a && true) ≡ a
and_none true = refl
and_none false = refl

-- the second of three first
and_turned : (a b c : Bool) → (a && (b && c)) ≡ (b && (a && c))
and_turned true true c = refl
and_turned true false c = refl
and_turned false true c = refl
and_turned false false c = refl

and_once : (a b : Bool) → (a && (a && b)) ≡ (a && b)
and_once true b = refl
and_once false b = refl

and_chosen : (a b : Bool) → (if a then b else false) ≡ (a && b)
and_chosen true b = refl
and_chosen false b = refl

and_moved : (a b c : Bool) → ((a && b) && c) ≡ (b && (a && c))
and_moved true true c = refl
and_moved true false c = refl
and_moved false true c = refl
and_moved false false c = refl

or_second : (a b : Bool) → a ≡ false → (a || b) ≡ true → b ≡ true
or_second true b e h = absurd (cc)
or_second false b e h = h

both_true : (a b : Bool) → (a && b) ≡ true → (a ≡ true) × (b ≡ true)
both_true true true h = (refl, refl)
both_true true false h = absurd (cc)
both_true false b h = absurd (cc)

-- ---- pairs

abbrev pub same_pair : Pair → Pair → Bool
same_pair p q = nat_eq p.one q.one && nat_eq p.other q.other

pair_is : (p q : Pair) → same_pair p q ≡ true → p ≡ q
pair_is p q h =
    let s = both_true (nat_eq p.one q.one) (nat_eq p.other q.other) h in
    let one = eqb-true p.one q.one s.0 in
    let other = eqb-true p.other q.other s.1 in
    λ i. record { one = one i; other = other i }

pair_lists : (a b : Value) (p : Pair) → pair_of a b ≡ Some p → (a ≡ held.List p.one) × (b ≡ held.List p.other)
pair_lists (held.List j) (held.List k) p e =
    let same : record { one = j; other = k } ≡ p = cc in
    (ap (λ (q : Pair). held.List q.one) same, ap (λ (q : Pair). held.List q.other) same)
pair_lists (held.List j) held.Null p e = absurd (cc)
pair_lists (held.List j) (held.Bool b) p e = absurd (cc)
pair_lists (held.List j) (held.Int z) p e = absurd (cc)
pair_lists (held.List j) (held.Char c) p e = absurd (cc)
pair_lists (held.List j) (held.Text t) p e = absurd (cc)
pair_lists (held.List j) (held.Prim n) p e = absurd (cc)
pair_lists (held.List j) (held.Obj o) p e = absurd (cc)
pair_lists (held.List j) (held.Prom n) p e = absurd (cc)
pair_lists (held.List j) (held.Far h n) p e = absurd (cc)
pair_lists (held.List j) (held.Broken t) p e = absurd (cc)
pair_lists held.Null b p e = absurd (cc)
pair_lists (held.Bool x) b p e = absurd (cc)
pair_lists (held.Int z) b p e = absurd (cc)
pair_lists (held.Char c) b p e = absurd (cc)
pair_lists (held.Text t) b p e = absurd (cc)
pair_lists (held.Prim n) b p e = absurd (cc)
pair_lists (held.Obj o) b p e = absurd (cc)
pair_lists (held.Prom n) b p e = absurd (cc)
pair_lists (held.Far h n) b p e = absurd (cc)
pair_lists (held.Broken t) b p e = absurd (cc)

-- ---- lists, member by member

not_even : (f : Value → Value → Bool) (xs ys : List Value) → (length xs ≡ length ys → ⊥) → all_same f xs ys ≡ false
unfolding all_same
not_even f [] [] n = absurd (n refl)
not_even f (x ∷ xs) (y ∷ ys) n = and_chosen (f x y) (all_same f xs ys) ∙ ap (λ (b : Bool). f x y && b) (not_even f xs ys (λ e. n (ap suc e))) ∙ and_false (f x y)
not_even f [] (y ∷ ys) n = refl
not_even f (x ∷ xs) [] n = refl

-- from one place on, the members there and those behind
from_here : (f : Value → Value → Bool) (k : ℕ) (xs ys : List Value) (x y : Value) → slice_get xs k ≡ Some x → slice_get ys k ≡ Some y
    → all_same f (drop k xs) (drop k ys) ≡ (f x y && all_same f (drop (suc k) xs) (drop (suc k) ys))
unfolding all_same
from_here f k [] ys x y e g = absurd (cc)
from_here f k (a ∷ xs) [] x y e g = absurd (cc)
from_here f zero (a ∷ xs) (b ∷ ys) x y e g = let p : a ≡ x = cc in let q : b ≡ y = cc in rw (p, q) (and_chosen (f x y) (all_same f xs ys))
from_here f (suc k) (a ∷ xs) (b ∷ ys) x y e g = from_here f k xs ys x y e g

at_end : (f : Value → Value → Bool) (k : ℕ) (xs ys : List Value) → length xs ≤ k → length xs ≡ length ys → all_same f (drop k xs) (drop k ys) ≡ true
unfolding all_same
at_end f zero [] [] l e = refl
at_end f (suc k) [] [] l e = refl
at_end f k [] (y ∷ ys) l e = absurd (omega arith)
at_end f k (x ∷ xs) [] l e = absurd (omega arith)
at_end f zero (x ∷ xs) (y ∷ ys) l e = absurd (omega arith)
at_end f (suc k) (x ∷ xs) (y ∷ ys) l e = at_end f k xs ys (omega arith) (omega arith)

module _ (i : Interior) where
  plain : (f : List Value → List Value → Bool) (x y : Value) → pair_of x y ≡ None → same_by i f x y ≡ same_plain (text_in i.heap) x y
  unfolding same_by
  plain f (held.List j) (held.List k) e = absurd (cc)
  plain f (held.List j) held.Null e = refl
  plain f (held.List j) (held.Bool b) e = refl
  plain f (held.List j) (held.Int z) e = refl
  plain f (held.List j) (held.Char c) e = refl
  plain f (held.List j) (held.Text t) e = refl
  plain f (held.List j) (held.Prim n) e = refl
  plain f (held.List j) (held.Obj o) e = refl
  plain f (held.List j) (held.Prom n) e = refl
  plain f (held.List j) (held.Far h n) e = refl
  plain f (held.List j) (held.Broken t) e = refl
  plain f held.Null y e = refl
  plain f (held.Bool b) y e = refl
  plain f (held.Int z) y e = refl
  plain f (held.Char c) y e = refl
  plain f (held.Text t) y e = refl
  plain f (held.Prim n) y e = refl
  plain f (held.Obj o) y e = refl
  plain f (held.Prom n) y e = refl
  plain f (held.Far h n) y e = refl
  plain f (held.Broken t) y e = refl

  abbrev members : ℕ → Value → Value → Bool
  members d = λ v w. is_same i d v w

  same_at : (f : List Value → List Value → Bool) (x y a b : Value) → x ≡ a → y ≡ b → same_by i f x y ≡ same_by i f a b
  same_at f x y a b e g = ap (λ (z : Value). same_by i f z y) e ∙ ap (λ (z : Value). same_by i f a z) g

  same_value : (d : ℕ) (x y a b : Value) → followed i.refs x ≡ a → followed i.refs y ≡ b → pair_of a b ≡ None → is_same i d x y ≡ same_plain (text_in i.heap) a b
  unfolding is_same
  same_value zero x y a b e g n = same_at (λ vs ws. false) (followed i.refs x) (followed i.refs y) a b e g ∙ plain (λ vs ws. false) a b n
  same_value (suc d) x y a b e g n = same_at (all_same (members d)) (followed i.refs x) (followed i.refs y) a b e g ∙ plain (all_same (members d)) a b n

  same_as : (d : ℕ) (x y : Value) (p : Pair) → followed i.refs x ≡ held.List p.one → followed i.refs y ≡ held.List p.other → is_same i d x y ≡ is_alike i d p
  unfolding is_same
  same_as zero x y p e g = same_at (λ vs ws. false) (followed i.refs x) (followed i.refs y) _ _ (e ∙ sym (list_itself i p.one)) (g ∙ sym (list_itself i p.other))
  same_as (suc d) x y p e g = same_at (all_same (members d)) (followed i.refs x) (followed i.refs y) _ _ (e ∙ sym (list_itself i p.one)) (g ∙ sym (list_itself i p.other))

  -- two lists are the same where their members are
  alike_in : (d : ℕ) (p : Pair) → is_alike i (suc d) p ≡ all_same (members d) (members_at i.heap p.one) (members_at i.heap p.other)
  unfolding is_same same_by
  alike_in d p = same_at (all_same (members d)) (followed i.refs (held.List p.one)) (followed i.refs (held.List p.other)) _ _ (list_itself i p.one) (list_itself i p.other)

  none_deep : (p : Pair) → is_alike i zero p ≡ false
  unfolding is_same same_by
  none_deep p = same_at (λ vs ws. false) (followed i.refs (held.List p.one)) (followed i.refs (held.List p.other)) _ _ (list_itself i p.one) (list_itself i p.other)

  -- ---- a pair for the next layer

  pushed : (d : ℕ) (p : Pair) (ps : List Pair) → all_alike i d (ps ++ p ∷ []) ≡ (is_alike i d p && all_alike i d ps)
  unfolding all_alike
  pushed d p [] = refl
  pushed d p (q ∷ ps) = ap (λ (b : Bool). is_alike i d q && b) (pushed d p ps) ∙ and_turned (is_alike i d q) (is_alike i d p) (all_alike i d ps)

  among : (d : ℕ) (p : Pair) (ps : List Pair) → list_any (same_pair p) ps ≡ true → (is_alike i d p && all_alike i d ps) ≡ all_alike i d ps
  unfolding all_alike
  among d p [] e = absurd (cc)
  among d p (q ∷ ps) e = by (same_pair p q) refl (among d p ps)
    where
      by : (b : Bool) → same_pair p q ≡ b → (list_any (same_pair p) ps ≡ true → (is_alike i d p && all_alike i d ps) ≡ all_alike i d ps) → (is_alike i d p && (is_alike i d q && all_alike i d ps)) ≡ (is_alike i d q && all_alike i d ps)
      by true h more = ap (λ (r : Pair). is_alike i d r && (is_alike i d q && all_alike i d ps)) (pair_is p q h) ∙ and_once (is_alike i d q) (all_alike i d ps)
      by false h more = and_turned (is_alike i d p) (is_alike i d q) (all_alike i d ps) ∙ ap (λ (b : Bool). is_alike i d q && b) (more (or_second (same_pair p q) (list_any (same_pair p) ps) h e))

  inserted : (d : ℕ) (p : Pair) (ps : List Pair) → all_alike i d (insert_key same_pair ps p) ≡ (is_alike i d p && all_alike i d ps)
  inserted d p ps = by (list_any (same_pair p) ps) refl
    where
      by : (b : Bool) → list_any (same_pair p) ps ≡ b → all_alike i d (if b then ps else ps ++ p ∷ []) ≡ (is_alike i d p && all_alike i d ps)
      by true e = sym (among d p ps e)
      by false e = pushed d p ps

  -- ---- comparing two values, and lists member by member

  pub compares_pair : (x y a b : Value) (p : Pair) (before after : List Pair) → a ≡ followed i.refs x → b ≡ followed i.refs y → pair_of a b ≡ Some p → after ≡ insert_key same_pair before p
      → Compares i (λ d. is_same i d x y) before true after
  compares_pair x y a b p before after e g l n d =
      let s = pair_lists a b p l in
      ap (λ (c : Bool). c && all_alike i d before) (same_as d x y p (sym e ∙ s.0) (sym g ∙ s.1)) ∙ sym (inserted d p before) ∙ ap (all_alike i d) (sym n)

  pub compares_value : (x y a b : Value) (c : Bool) (before : List Pair) → a ≡ followed i.refs x → b ≡ followed i.refs y → pair_of a b ≡ None → c ≡ same_plain (text_in i.heap) a b
      → Compares i (λ d. is_same i d x y) before c before
  compares_value x y a b c before e g l n d = ap (λ (r : Bool). r && all_alike i d before) (same_value d x y a b (sym e) (sym g) l ∙ sym n)

  each_at : (k : ℕ) (xs ys : List Value) (x y : Value) (now next : List Pair) (same : Bool) → slice_get xs k ≡ Some x → slice_get ys k ≡ Some y → Compares i (λ d. is_same i d x y) now same next
      → (d : ℕ) → (all_same (members d) (drop k xs) (drop k ys) && all_alike i d now) ≡ (all_same (members d) (drop (k + 1) xs) (drop (k + 1) ys) && (same && all_alike i d next))
  each_at k xs ys x y now next same e g h d =
      let n : suc k ≡ k + 1 = omega arith in
      ap (λ (b : Bool). b && all_alike i d now) (from_here (members d) k xs ys x y e g)
      ∙ and_moved (is_same i d x y) (all_same (members d) (drop (suc k) xs) (drop (suc k) ys)) (all_alike i d now)
      ∙ ap (λ (b : Bool). all_same (members d) (drop (suc k) xs) (drop (suc k) ys) && b) (h d)
      ∙ ap (λ (m : ℕ). all_same (members d) (drop m xs) (drop m ys) && (same && all_alike i d next)) n

  pub each_on : (k : ℕ) (xs ys : List Value) (x y : Value) (now next : List Pair) (same : Bool) → slice_get xs k ≡ Some x → slice_get ys k ≡ Some y → same ≡ true → Compares i (λ d. is_same i d x y) now same next
      → (d : ℕ) → (all_same (members d) (drop k xs) (drop k ys) && all_alike i d now) ≡ (all_same (members d) (drop (k + 1) xs) (drop (k + 1) ys) && all_alike i d next)
  each_on k xs ys x y now next same e g f h d =
      each_at k xs ys x y now next same e g h d
      ∙ ap (λ (b : Bool). all_same (members d) (drop (k + 1) xs) (drop (k + 1) ys) && (b && all_alike i d next)) f

  pub each_off : (k : ℕ) (xs ys : List Value) (x y : Value) (now next : List Pair) (same : Bool) → slice_get xs k ≡ Some x → slice_get ys k ≡ Some y → same ≡ false → Compares i (λ d. is_same i d x y) now same next
      → (d : ℕ) → (all_same (members d) (drop k xs) (drop k ys) && all_alike i d now) ≡ false
  each_off k xs ys x y now next same e g f h d =
      each_at k xs ys x y now next same e g h d
      ∙ ap (λ (b : Bool). all_same (members d) (drop (k + 1) xs) (drop (k + 1) ys) && (b && all_alike i d next)) f
      ∙ and_false (all_same (members d) (drop (k + 1) xs) (drop (k + 1) ys))

  pub each_done : (k : ℕ) (xs ys : List Value) (now : List Pair) → length xs ≤ k → length xs ≡ length ys → (d : ℕ) → (all_same (members d) (drop k xs) (drop k ys) && all_alike i d now) ≡ all_alike i d now
  each_done k xs ys now l e d = ap (λ (b : Bool). b && all_alike i d now) (at_end (members d) k xs ys l e)

  pub uneven : (xs ys : List Value) (before after : List Pair) → (length xs ≡ length ys → ⊥) → Compares i (λ d. all_same (members d) xs ys) before false after
  uneven xs ys before after n d = ap (λ (b : Bool). b && all_alike i d before) (not_even (members d) xs ys n)

  -- ---- layers

  alone : (p : Bool) (d : ℕ) (before : List Pair) → before ≡ [] → (p && all_alike i d before) ≡ p
  unfolding all_alike
  alone p d before e = rw e (and_none p)

  pub first_differs : (x y : Value) (before after : List Pair) (same : Bool) (d : ℕ) → before ≡ [] → same ≡ false → Compares i (λ n. is_same i n x y) before same after → is_same i d x y ≡ false
  first_differs x y before after same d e f h = sym (alone (is_same i d x y) d before e) ∙ h d ∙ ap (λ (b : Bool). b && all_alike i d after) f

  pub first_alike : (x y : Value) (before after : List Pair) (same : Bool) (d : ℕ) → before ≡ [] → same ≡ true → Compares i (λ n. is_same i n x y) before same after → is_same i d x y ≡ all_alike i d after
  first_alike x y before after same d e f h = sym (alone (is_same i d x y) d before e) ∙ h d ∙ ap (λ (b : Bool). b && all_alike i d after) f

  within_is : (d : ℕ) (ps : List Pair) → all_alike i (suc d) ps ≡ all_within i d ps
  unfolding all_alike
  within_is d [] = refl
  within_is d (p ∷ ps) =
      ap (λ (b : Bool). b && all_alike i (suc d) ps) (alike_in d p)
      ∙ ap (λ (b : Bool). all_same (members d) (members_at i.heap p.one) (members_at i.heap p.other) && b) (within_is d ps)
      ∙ sym (and_chosen (all_same (members d) (members_at i.heap p.one) (members_at i.heap p.other)) (all_within i d ps))

  pub next_differs : (ps before after : List Pair) (same : Bool) (d : ℕ) → 0 < d → before ≡ [] → same ≡ false → Compares i (λ n. all_within i n ps) before same after → all_alike i d ps ≡ false
  next_differs ps before after same zero l e f h = absurd (omega arith)
  next_differs ps before after same (suc d) l e f h = within_is d ps ∙ sym (alone (all_within i d ps) d before e) ∙ h d ∙ ap (λ (b : Bool). b && all_alike i d after) f

  pub next_alike : (ps before after : List Pair) (same : Bool) (d : ℕ) → 0 < d → before ≡ [] → same ≡ true → Compares i (λ n. all_within i n ps) before same after → all_alike i d ps ≡ all_alike i (d - 1) after
  next_alike ps before after same zero l e f h = absurd (omega arith)
  next_alike ps before after same (suc d) l e f h =
      let back : d ≡ suc d - 1 = omega arith in
      within_is d ps ∙ sym (alone (all_within i d ps) d before e) ∙ h d ∙ ap (λ (b : Bool). b && all_alike i d after) f ∙ ap (λ (n : ℕ). all_alike i n after) back

  -- no pair is left
  pub none_left : (d : ℕ) (ps : List Pair) → length ps ≡ 0 → all_alike i d ps ≡ true
  unfolding all_alike
  none_left d [] e = refl
  none_left d (p ∷ ps) e = absurd (omega arith)

  -- a pair is left at the lowest layer
  pub none_lower : (ps : List Pair) → (length ps ≡ 0 → ⊥) → all_alike i zero ps ≡ false
  unfolding all_alike
  none_lower [] n = absurd (n refl)
  none_lower (p ∷ ps) n = ap (λ (b : Bool). b && all_alike i zero ps) (none_deep p)
