-- Where the call stands that is the innermost of those that are open.
use Rattle.std.proofs.Common.{◌≡◌, ℕ, ◌≤◌, List, [], ◌∷◌, ◌++◌, Option, Some, None, refl, sym, ap, ◌∙◌, length, ◌⊎◌, inl, inr, arith}
use Rattle.def_machine.specs.Values.{Words, Value, Name}
use Rattle.def_machine.specs.State.{Happened, Called, Back, Thrown, Left}
use Rattle.law_uses.specs.Connectivity.Connected.{Open, open_after, open_from, without_first}
use Rattle.law_uses.specs.Connectivity.Nesting.{closed_by, nested_after, nested_on, nested_from}
use Rattle.law_uses.proofs.KnownUses.Opened.{closes_first, none_closed, no_nest}

-- of two places in a list, either one comes no later than the other, or behind it
places : {A : Type 0} (xs ys zs ws : List A) (x y : A) → xs ++ x ∷ zs ≡ ys ++ y ∷ ws → ((d : List A) × (ys ≡ xs ++ d)) ⊎ ((d : List A) × (xs ≡ ys ++ y ∷ d) × (ws ≡ d ++ x ∷ zs))
places [] ys zs ws x y e = inl (ys, refl)
places (a ∷ xs) [] zs ws x y e = let first : a ≡ y = cc in let more : ws ≡ xs ++ x ∷ zs = cc in inr (xs, ap (λ z. z ∷ xs) first, more)
places (a ∷ xs) (b ∷ ys) zs ws x y e = let first : a ≡ b = cc in let more : xs ++ x ∷ zs ≡ ys ++ y ∷ ws = cc in next first (places xs ys zs ws x y more)
  where
    next : a ≡ b → ((d : List _) × (ys ≡ xs ++ d)) ⊎ ((d : List _) × (xs ≡ ys ++ y ∷ d) × (ws ≡ d ++ x ∷ zs)) → ((d : List _) × (b ∷ ys ≡ a ∷ xs ++ d)) ⊎ ((d : List _) × (a ∷ xs ≡ b ∷ ys ++ y ∷ d) × (ws ≡ d ++ x ∷ zs))
    next f (inl r) = inl (r.0, ap (λ z. z ∷ ys) (sym f) ∙ ap (λ zs. a ∷ zs) r.1)
    next f (inr r) = inr (r.0, ap (λ z. z ∷ xs) f ∙ ap (λ zs. b ∷ zs) r.1, r.2)

at_least : {A : Type 0} (xs ys : List A) → length ys ≤ length (xs ++ ys)
at_least [] ys = omega arith
at_least (x ∷ xs) ys = let h = at_least xs ys in omega arith

longer_not : {A : Type 0} (x : A) (xs ys : List A) → x ∷ xs ++ ys ≡ ys → ⊥
longer_not x xs ys e = let h = at_least xs ys in let n = ap length e in omega arith

-- ---- lines that nest leave open what was open below

some_list : (xs ys : List (Open Name)) → Some xs ≡ Some ys → xs ≡ ys
some_list xs ys q = cc

closed_open : (b : ℕ) (cs zs ds : List (Open Name)) → closed_by b cs ≡ Some ds → without_first (cs ++ zs) ≡ ds ++ zs
unfolding without_first
closed_open b [] zs ds q = absurd (none_closed b ds q)
closed_open b (c ∷ cs) zs ds q = ap (λ xs. xs ++ zs) (closes_first b c cs ds q).1

after_nested : (cs zs ds : List (Open Name)) (e : Happened Name) → nested_after cs e ≡ Some ds → open_after (cs ++ zs) e ≡ ds ++ zs
unfolding nested_after open_after
after_nested cs zs ds (Called a x verb args b) q = ap (λ xs. xs ++ zs) (some_list (record { caller = a; receiver = x; verb = verb; begun = b } ∷ cs) ds q)
after_nested cs zs ds (Back a v) q = closed_open a cs zs ds q
after_nested cs zs ds (Thrown a p) q = closed_open a cs zs ds q
after_nested cs zs ds (Left a) q = closed_open a cs zs ds q
after_nested cs zs ds e q = ap (λ xs. xs ++ zs) (some_list cs ds q)

from_nested : (es : List (Happened Name)) (cs zs ds : List (Open Name)) → nested_from (Some cs) es ≡ Some ds → open_from (cs ++ zs) es ≡ ds ++ zs
unfolding nested_from nested_on open_from
from_nested [] cs zs ds q = ap (λ xs. xs ++ zs) (some_list cs ds q)
from_nested (e ∷ es) cs zs ds q = one (λ xs n. from_nested es xs zs ds n) (nested_after cs e) refl q
  where
    one : ((xs : List (Open Name)) → nested_from (Some xs) es ≡ Some ds → open_from (xs ++ zs) es ≡ ds ++ zs) → (o : Option (List (Open Name))) → nested_after cs e ≡ o → nested_from o es ≡ Some ds → open_from (open_after (cs ++ zs) e) es ≡ ds ++ zs
    one f (Some xs) r n = ap (λ ys. open_from ys es) (after_nested cs zs xs e r) ∙ f xs n
    one f None r n = absurd (no_nest es ds n)

-- the first of lines that nest do
front_nested : (es more : List (Happened Name)) (cs ds : List (Open Name)) → nested_from (Some cs) (es ++ more) ≡ Some ds → (xs : List (Open Name)) × (nested_from (Some cs) es ≡ Some xs)
unfolding nested_from nested_on
front_nested [] more cs ds q = (cs, refl)
front_nested (e ∷ es) more cs ds q = one (λ xs n. front_nested es more xs ds n) (nested_after cs e) q
  where
    one : ((xs : List (Open Name)) → nested_from (Some xs) (es ++ more) ≡ Some ds → (ys : List (Open Name)) × (nested_from (Some xs) es ≡ Some ys)) → (o : Option (List (Open Name))) → nested_from o (es ++ more) ≡ Some ds → (xs : List (Open Name)) × (nested_from o es ≡ Some xs)
    one f (Some xs) n = f xs n
    one f None n = absurd (no_nest (es ++ more) ds n)

open_join : (es more : List (Happened Name)) (cs : List (Open Name)) → open_from cs (es ++ more) ≡ open_from (open_from cs es) more
unfolding open_from
open_join [] more cs = refl
open_join (e ∷ es) more cs = open_join es more (open_after cs e)

-- ---- the innermost call

module _ (so front rest : List (Happened Name)) (a : ℕ) (x : Value Name) (verb : Words) (args : List (Value Name)) (b : Option ℕ) (line : so ≡ front ++ Called a x verb args b ∷ rest) (inner : nested_from (Some []) rest ≡ Some []) where
  abbrev Call : Open Name
  Call = record { caller = a; receiver = x; verb = verb; begun = b }

  -- none begins behind it that is open
  none_behind : (d more : List (Happened Name)) (e : Happened Name) (c : Open Name) → rest ≡ d ++ e ∷ more → open_from [] so ≡ c ∷ open_from [] (front ++ Called a x verb args b ∷ d) → ⊥
  unfolding open_from open_after
  none_behind d more e c q o = let n = front_nested d (e ∷ more) [] [] (ap (nested_from (Some [])) (sym q) ∙ inner) in let below : List (Open Name) = Call ∷ open_from [] front in
      longer_not c n.0 below (ap (λ zs. c ∷ zs) (sym (open_join front (Called a x verb args b ∷ d) [] ∙ from_nested d [] below n.0 n.1)) ∙ sym o ∙ ap (open_from []) line ∙ open_join front (Called a x verb args b ∷ rest) [] ∙ from_nested rest [] below [] inner)

  -- the call that the machine finds open there is this one, or stands before it
  pub no_later : (other more : List (Happened Name)) (e : Happened Name) (c : Open Name) → so ≡ other ++ e ∷ more → open_from [] so ≡ c ∷ open_from [] other → (d : List (Happened Name)) × (front ≡ other ++ d)
  no_later other more e c q o = either (places other front more rest e (Called a x verb args b) (sym q ∙ line))
    where
      either : ((d : List (Happened Name)) × (front ≡ other ++ d)) ⊎ ((d : List (Happened Name)) × (other ≡ front ++ Called a x verb args b ∷ d) × (rest ≡ d ++ e ∷ more)) → (d : List (Happened Name)) × (front ≡ other ++ d)
      either (inl r) = r
      either (inr r) = absurd (none_behind r.0 more e c r.2 (o ∙ ap (λ zs. c ∷ open_from [] zs) r.1))
