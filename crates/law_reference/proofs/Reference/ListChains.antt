-- Members lead to a name, if they lead there at all, in no more steps than there are lists and one: on the shortest way each list is met once.
use Rattle.std.proofs.Common.{◌≡◌, ℕ, zero, suc, ◌<◌, ◌≤◌, Bool, true, false, List, [], ◌∷◌, refl, sym, ap, ◌∙◌, length, arith}
use Rattle.std.specs.Prelude.{◌==◌, ◌||◌}
use Rattle.std.specs.List.{AllByRecursion, IsDistinct, list_any}
use Rattle.std.proofs.lemmas.Bool.{eqb-true}
use Rattle.std.proofs.lemmas.Map.Steps.{length-le_from_distinct_below}
use Rattle.def_machine.specs.Values.{Value, Items, Ref, Name, Naming, naming}
use Rattle.def_machine.specs.State.{Vat}
use Rattle.def_machine.specs.Native.{list_at}
use Rattle.def_machine.specs.Refs.{any_of, reached, reaches, follow}
use Rattle.law_reference.specs.Reference.Waits.{ListTestsSuffice}
use Rattle.law_reference.proofs.Reference.Chains.{false_if}

both_false : (b : Bool) → b ≡ true → b ≡ false → ⊥
both_false b e f = let both : true ≡ false = sym e ∙ f in cc

module _ (K : Naming Name Name) (s : Vat Name) (p : Name) where
  abbrev Test : ℕ → Value Name → Bool
  Test d x = reaches K d s p x

  abbrev Any : (Value Name → Bool) → List (Value Name) → Bool
  Any f vs = any_of K f vs

  -- ---- what passes a test passes each that asks less

  any_head : (b c e f : Bool) → (b ≡ true → c ≡ true) → (e ≡ true → f ≡ true) → (elim b [ true ↦ true | false ↦ e ]) ≡ true → (elim c [ true ↦ true | false ↦ f ]) ≡ true
  any_head true c e f g h i = rw (g refl) refl
  any_head false true e f g h i = refl
  any_head false false e f g h i = h i

  any_more : (f g : Value Name → Bool) → ((v : Value Name) → f v ≡ true → g v ≡ true) → (vs : List (Value Name)) → Any f vs ≡ true → Any g vs ≡ true
  unfolding any_of
  any_more f g h [] e = e
  any_more f g h (v ∷ vs) e = any_head (f v) (g v) (any_of K f vs) (any_of K g vs) (h v) (any_more f g h vs) e

  reached_more : (f g : Value Name → Bool) → ((v : Value Name) → f v ≡ true → g v ≡ true) → (y : Value Name) → reached K (Any f) s.lists p y ≡ true → reached K (Any g) s.lists p y ≡ true
  unfolding reached
  reached_more f g h (Items k) e = any_more f g h (list_at s.lists k) e
  reached_more f g h other e = e

  never : false ≡ true → ⊥
  never e = cc

  no_under : (d : ℕ) → suc d ≤ zero → ⊥
  no_under d l = omega arith

  within : (d e : ℕ) (x : Value Name) → d ≤ e → Test d x ≡ true → Test e x ≡ true
  unfolding reaches
  within zero e x l h = absurd (never h)
  within (suc d) zero x l h = absurd (no_under d l)
  within (suc d) (suc e) x l h = reached_more (λ v. reaches K d s p v) (λ v. reaches K e s p v) (λ v i. within d e v (omega arith) i) (follow K s x) h

  -- the members of list n lead there in so many steps, and in no fewer
  abbrev Least : ℕ → ℕ → Type 0
  Least d n = (Any (Test (suc d)) (list_at s.lists n) ≡ true) × (Any (Test d) (list_at s.lists n) ≡ false)

  abbrev Under : ℕ → ℕ → Type 0
  Under e n = (d : ℕ) × (d < e) × Least d n

  less_apart : (d e n : ℕ) → d < e → Least d n → Least e n → ⊥
  less_apart d e n l h i = both_false (Any (Test e) (list_at s.lists n)) (any_more (Test (suc d)) (Test e) (λ v j. within (suc d) e v (omega arith) j) (list_at s.lists n) h.0) i.1

  -- ---- the lists on the shortest way

  pub record Way (e : ℕ) : Type 0 where
    pub lists : List ℕ
    pub count : length lists ≡ e
    pub each : AllByRecursion (Under e) lists
    pub distinct : IsDistinct (λ a b. a == b) lists

  apart : (e k : ℕ) → Least e k → (ns : List ℕ) → AllByRecursion (Under e) ns → AllByRecursion (λ y. (k == y) ≡ false) ns
  apart e k h [] a = tt
  apart e k h (n ∷ ns) a = (false_if (k == n) (λ i. same (eqb-true k n i)), apart e k h ns a.1)
    where
      same : k ≡ n → ⊥
      same i = less_apart a.0.0 e n a.0.1 a.0.2 (rw i at h)

  wider : (e : ℕ) (ns : List ℕ) → AllByRecursion (Under e) ns → AllByRecursion (Under (suc e)) ns
  wider e [] a = tt
  wider e (n ∷ ns) a = ((a.0.0, wide a.0.0 a.0.1, a.0.2), wider e ns a.1)
    where
      wide : (d : ℕ) → d < e → d < suc e
      wide d l = omega arith

  longer : (e k : ℕ) → Least e k → Way e → Way (suc e)
  unfolding IsDistinct
  longer e k h w = record { lists = k ∷ w.lists; count = ap suc w.count; each = ((e, (omega arith), h), wider e w.lists w.each); distinct = (apart e k h w.lists w.each, w.distinct) }

  no_list : Way zero
  unfolding IsDistinct
  no_list = record { lists = []; count = refl; each = tt; distinct = tt }

  any_in : (b c : Bool) (f g : Value Name → Bool) (v : Value Name) (vs : List (Value Name)) → f v ≡ b → g v ≡ c → (elim b [ true ↦ true | false ↦ any_of K f vs ]) ≡ true → (elim c [ true ↦ true | false ↦ any_of K g vs ]) ≡ false
      → (any_of K f vs ≡ true → any_of K g vs ≡ false → (x : Value Name) × (f x ≡ true) × (g x ≡ false)) → (x : Value Name) × (f x ≡ true) × (g x ≡ false)
  any_in true true f g v vs i j e h rest = absurd (both_false true refl h)
  any_in true false f g v vs i j e h rest = (v, i, j)
  any_in false true f g v vs i j e h rest = absurd (both_false true refl h)
  any_in false false f g v vs i j e h rest = rest e h

  member : (f g : Value Name → Bool) (vs : List (Value Name)) → Any f vs ≡ true → Any g vs ≡ false → (x : Value Name) × (f x ≡ true) × (g x ≡ false)
  unfolding any_of
  member f g [] e h = absurd (never e)
  member f g (v ∷ vs) e h = any_in (f v) (g v) f g v vs refl refl e h (λ i j. member f g vs i j)

  way_at : (e : ℕ) (y : Value Name) → reached K (Any (Test (suc e))) s.lists p y ≡ true → reached K (Any (Test e)) s.lists p y ≡ false → ((v : Value Name) → Test (suc e) v ≡ true → Test e v ≡ false → Way e) → Way (suc e)
  unfolding reached
  way_at e (Items k) h i f = let at = member (Test (suc e)) (Test e) (list_at s.lists k) h i in longer e k (h, i) (f at.0 at.1 at.2)
  way_at e (Ref n) h i f = absurd (both_false (K.same n p) h i)
  way_at e other h i f = absurd (never h)

  way : (e : ℕ) (x : Value Name) → Test (suc e) x ≡ true → Test e x ≡ false → Way e
  unfolding reaches
  way zero x h i = no_list
  way (suc e) x h i = way_at e (follow K s x) h i (λ v j k. way e v j k)

  -- ---- each of these lists is one of the vat

  is_list : (f : Value Name → Bool) (ls : List (List (Value Name))) (n : ℕ) → Any f (list_at ls n) ≡ true → n < length ls
  unfolding any_of list_at
  is_list f [] zero e = absurd (never e)
  is_list f [] (suc n) e = absurd (never e)
  is_list f (l ∷ ls) zero e = omega arith
  is_list f (l ∷ ls) (suc n) e = next (is_list f ls n e)
    where
      next : n < length ls → suc n < suc (length ls)
      next i = omega arith

  either_below : (b c : Bool) (i j : ℕ) → (b ≡ true → i ≡ j) → j < length s.lists → (c ≡ true → i < length s.lists) → (b || c) ≡ true → i < length s.lists
  either_below true c i j f l g h = rw (f refl) l
  either_below false c i j f l g h = g h

  below : (e : ℕ) (ns : List ℕ) → AllByRecursion (Under e) ns → (i : ℕ) → list_any (λ y. i == y) ns ≡ true → i < length s.lists
  below e [] a i h = absurd (never h)
  below e (n ∷ ns) a i h = either_below (i == n) (list_any (λ y. i == y) ns) i n (λ j. eqb-true i n j) (is_list (Test (suc a.0.0)) s.lists n a.0.2.0) (λ j. below e ns a.1 i j) h

  way_short : (e : ℕ) → Way e → e ≤ length s.lists
  way_short e w = let count = length-le_from_distinct_below w.lists (length s.lists) w.distinct (λ i h. below e w.lists w.each i h) in rw w.count at count

  least_at : (b : Bool) (d : ℕ) (x : Value Name) → Test d x ≡ b → Test (suc d) x ≡ true → (Test d x ≡ true → Test (suc (length s.lists)) x ≡ true) → Test (suc (length s.lists)) x ≡ true
  least_at true d x i h f = f i
  least_at false d x i h f = within (suc d) (suc (length s.lists)) x (let short = way_short d (way d x h i) in omega arith) h

  pub reaches_within : (d : ℕ) (x : Value Name) → Test d x ≡ true → Test (suc (length s.lists)) x ≡ true
  reaches_within zero x h = within zero (suc (length s.lists)) x (omega arith) h
  reaches_within (suc d) x h = least_at (reaches K d s p x) d x refl h (λ i. reaches_within d x i)

pub list_tests_suffice : ListTestsSuffice
list_tests_suffice word v s p x d h = reaches_within (naming word v) s p d x h
