-- Deciding whether names are known, one by one.
use Rattle.std.proofs.Common.{◌≡◌, ℕ, zero, suc, ◌+◌, ◌≤◌, arith, Bool, true, false, List, [], ◌∷◌, ◌++◌, take, length, slice_get, Option, Some, None, append_assoc, refl, sym, ap, subst, ◌∙◌, inl, inr}
use Rattle.std.specs.Prelude.{◌↔◌, Result, Ok, Err, IfOk}
use Rattle.std.proofs.lemmas.List.{append-nil}
use Rattle.ev_base.specs.declared.memory.Memory.{Memory}
use Rattle.ev_base.specs.declared.names.Name.{Name}
use Rattle.def_event.specs.declared.shown.Shown.{Shown}
use Rattle.def_event.specs.declared.event.Event.{Event}
use Rattle.def_event.specs.Uses.{AName, IsAmong, KnowsName, Line, UsesKnown, made_by, names, names_of, names_used, user}
use Rattle.ev_known.specs.declared.facts.Activation.{Activation}
use Rattle.ev_links.specs.declared.label.Label.{Label}
use Rattle.ev_known.specs.Knowing.{Known, KnownStand}
use Rattle.ev_links.specs.Label.{label}
use Rattle.ev_uses.specs.Using.{DecidesAll, label_of}
use Rattle.ev_links.proofs.Among.{among_left, among_right, among_cases}
use Rattle.ev_known.proofs.Keys.{name_same}

pub decides_none : (k : Known) (a : Activation) (made : Option Label) → DecidesAll k k a made [] true
decides_none k a made = record { each = λ past o h m. (λ e. λ n i. absurd i, λ all. refl); stands = λ past h. h }

pub decides_both : (k m n : Known) (a : Activation) (made : Option Label) (xs ys : List Name) (b : Bool) → DecidesAll k m a made xs true → DecidesAll m n a made ys b → DecidesAll k n a made (xs ++ ys) b
decides_both k m n a made xs ys b h g = record {
  each = λ past o stand is.
      let first = (h.each past o stand is).0 refl in
      let second = g.each past o (h.stands past stand) is in (
        λ e. λ x i. elim (among_cases x xs ys i) [ inl c ↦ first x c | inr c ↦ second.0 e x c ],
        λ all. second.1 (λ x i. all x (among_right x xs ys i)),
      );
  stands = λ past stand. g.stands past (h.stands past stand);
}

-- one that is not among those that are
decides_false : (k m n : Known) (a : Activation) (made : Option Label) (xs zs : List Name) → ((past : List Line) → KnownStand k past → KnownStand m past) → DecidesAll m n a made xs false
    → ((x : Name) → IsAmong x xs → IsAmong x zs) → DecidesAll k n a made zs false
decides_false k m n a made xs zs before h sub = record {
  each = λ past o stand is.
      (λ e. absurd (let bad : false ≡ true = e in cc), λ all. (h.each past o (before past stand) is).1 (λ x i. all x (sub x i)));
  stands = λ past stand. h.stands past (before past stand);
}

pub decides_left : (k m : Known) (a : Activation) (made : Option Label) (xs ys : List Name) → DecidesAll k m a made xs false → DecidesAll k m a made (xs ++ ys) false
decides_left k m a made xs ys h = decides_false k k m a made xs (xs ++ ys) (λ past stand. stand) h (λ x i. among_left x xs ys i)

-- ---- one name

label_some : (o : Option Name) (n : Name) → Some (label (AName n)) ≡ label_of o → o ≡ Some n
label_some None n e = absurd cc
label_some (Some m) n e = let same : label (AName n) ≡ label (AName m) = cc in ap (λ (x : Name). Some x) (sym (name_same n m same))

pub made_decides : (k : Known) (a : Activation) (made : Option Label) (n : Name) → made ≡ Some (label (AName n)) → DecidesAll k k a made (n ∷ []) true
made_decides k a made n is = record {
  each = λ past o stand m.
      (λ e. λ x i. elim i [ inl s ↦ inl (label_some o n (sym is ∙ m) ∙ ap (λ (y : Name). Some y) s) | inr x ↦ absurd x ], λ all. refl);
  stands = λ past stand. stand;
}

name_decides : (k m : Known) (a : Activation) (made : Option Label) (n : Name) (b : Bool) → (made ≡ Some (label (AName n)) → ⊥)
    → ((past : List Line) → KnownStand k past → ((b ≡ true) ↔ KnowsName past a.at a.number n) × KnownStand m past) → DecidesAll k m a made (n ∷ []) b
name_decides k m a made n b not_made h = record {
  each = λ past o stand is.
      let knows = (h past stand).0 in (
        λ e. λ x i. elim i [ inl s ↦ inr (subst (KnowsName past a.at a.number) s (knows.0 e)) | inr x ↦ absurd x ],
        λ all. elim (all n (inl refl)) [
          | inl s ↦ absurd (not_made (is ∙ ap label_of s))
          | inr s ↦ knows.1 s
        ],
      );
  stands = λ past stand. (h past stand).1;
}

pub name_found : (r : Result Bool Memory) (k m : Known) (a : Activation) (made : Option Label) (n : Name) → (made ≡ Some (label (AName n)) → ⊥)
    → ((past : List Line) → KnownStand k past → IfOk r (λ b. ((b ≡ true) ↔ KnowsName past a.at a.number n) × KnownStand m past)) → IfOk r (λ b. DecidesAll k m a made (n ∷ []) b)
name_found (Ok b) k m a made n not_made h = name_decides k m a made n b not_made h
name_found (Err e) k m a made n not_made h = tt

-- ---- many values

names_take : (xs : List Shown) (i : ℕ) (x : Shown) → slice_get xs i ≡ Some x → names (take (suc i) xs) ≡ names (take i xs) ++ names_of x
names_take [] i x e = absurd cc
names_take (y ∷ xs) zero x e = let same : y ≡ x = cc in append-nil (names_of y) ∙ ap names_of same
names_take (y ∷ xs) (suc i) x e =
    ap (λ (ns : List Name). names_of y ++ ns) (names_take xs i x e) ∙ sym (append_assoc (names_of y) (names (take i xs)) (names_of x))

names_in : (xs : List Shown) (i : ℕ) (x : Shown) (n : Name) → slice_get xs i ≡ Some x → IsAmong n (names_of x) → IsAmong n (names xs)
names_in [] i x n e h = absurd cc
names_in (y ∷ xs) zero x n e h =
    let same : y ≡ x = cc in among_left n (names_of y) (names xs) (subst (λ (z : Shown). IsAmong n (names_of z)) (sym same) h)
names_in (y ∷ xs) (suc i) x n e h = among_right n (names_of y) (names xs) (names_in xs i x n e h)

pub values_next : (k m n : Known) (a : Activation) (made : Option Label) (xs : List Shown) (i : ℕ) (x : Shown) → slice_get xs i ≡ Some x → DecidesAll k m a made (names (take i xs)) true
    → DecidesAll m n a made (names_of x) true → DecidesAll k n a made (names (take (i + 1) xs)) true
values_next k m n a made xs i x e h g =
    let next : suc i ≡ i + 1 = omega arith in
    subst (λ (ns : List Name). DecidesAll k n a made ns true) (sym (names_take xs i x e) ∙ ap (λ (j : ℕ). names (take j xs)) next)
    (decides_both k m n a made (names (take i xs)) (names_of x) true h g)

pub values_fail : (k m n : Known) (a : Activation) (made : Option Label) (xs : List Shown) (i : ℕ) (x : Shown) → slice_get xs i ≡ Some x → DecidesAll k m a made (names (take i xs)) true
    → DecidesAll m n a made (names_of x) false → DecidesAll k n a made (names xs) false
values_fail k m n a made xs i x e h g = decides_false k m n a made (names_of x) (names xs) h.stands g (λ y j. names_in xs i x y e j)

take_all : {A : Type 0} (ls : List A) (i : ℕ) → length ls ≤ i → take i ls ≡ ls
take_all [] zero h = refl
take_all [] (suc i) h = refl
take_all (x ∷ ls) zero h = absurd (omega arith)
take_all (x ∷ ls) (suc i) h = ap (λ ys. x ∷ ys) (take_all ls i (omega arith))

pub values_done : (k m : Known) (a : Activation) (made : Option Label) (xs : List Shown) (i : ℕ) → length xs ≤ i → DecidesAll k m a made (names (take i xs)) true → DecidesAll k m a made (names xs) true
values_done k m a made xs i le h = subst (λ (ys : List Shown). DecidesAll k m a made (names ys) true) (take_all xs i le) h

-- ---- a line

pub line_decided : (k m : Known) (at : ℕ) (e : Event) (by : Activation) (made : Option Label) (b : Bool) (past : List Line) → by ≡ record { at = at; number = user e } → made ≡ label_of (made_by e)
    → DecidesAll k m by made (names_used e) b → KnownStand k past → ((b ≡ true) ↔ UsesKnown past (record { at = at; event = e })) × KnownStand m past
line_decided k m at e by made b past is label_is h stand = ((subst (λ (x : Activation). DecidesAll k m x made (names_used e) b) is h).each past (made_by e) stand label_is, h.stands past stand)
