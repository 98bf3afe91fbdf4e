-- What calls give back is decided by what is kept of those that are open.
use Rattle.std.proofs.Common.{◌≡◌, ℕ, Bool, true, false, List, [], ◌∷◌, Option, Some, None, slice_get, refl, sym, ap, subst, ◌∙◌, inl, inr}
use Rattle.std.specs.Prelude.{◌↔◌, codes, if◌then◌else◌, unwrap_or}
use Rattle.std.specs.Str.{bytes_eq}
use Rattle.std.proofs.lemmas.Slice.Eq.{bytes_eq-Decides}
use Rattle.ev_base.specs.declared.names.Name.{Name}
use Rattle.def_event.specs.declared.shown.Shown.{Shown, Name as Named}
use Rattle.def_event.specs.declared.event.Called.{Called}
use Rattle.def_event.specs.declared.event.Event.{Event}
use Rattle.def_event.specs.declared.event.Event.TheVariants.{Back}
use Rattle.def_event.specs.Uses.{AsksAudition, BackKnown, GivesBack, IsFollowed, KnowsName, Line, OpenCall, UsesKnown, name_of, open_calls}
use Rattle.ev_uses.specs.declared.stack.OpenedCall.{OpenedCall}
use Rattle.ev_known.specs.Knowing.{Known, KnownStand, LeadsToAudition}
use Rattle.ev_uses.specs.Using.{IsOfKnown}
use Rattle.ev_uses.specs.Kept.{KeptStand}
use Rattle.ev_uses.specs.Calls.{AreKeptOf, CallsStand, GivesBackValue, Stacks, asked_name}

pub none_inside : (past : List Line) (at a : ℕ) (n : Name) (cs : List OpenCall) (xs : List OpenedCall) (b : Bool) → AreKeptOf at cs xs → slice_get xs 0 ≡ None
    → (b ≡ true) ↔ KnowsName past at a n → (b ≡ true) ↔ GivesBack past at a n cs
none_inside past at a n [] [] b k none h = h
none_inside past at a n (c ∷ cs) [] b k none h = absurd k
none_inside past at a n [] (x ∷ xs) b k none h = absurd k
none_inside past at a n (c ∷ cs) (x ∷ xs) b k none h = absurd cc

same_call : (x y : OpenedCall) → Some x ≡ Some y → x ≡ y
same_call x y e = cc

pub asked_inside : (past : List Line) (at a : ℕ) (n : Name) (cs : List OpenCall) (xs : List OpenedCall) (x : OpenedCall) → AreKeptOf at cs xs → slice_get xs 0 ≡ Some x
    → x.asks_audition ≡ true → GivesBack past at a n cs
asked_inside past at a n [] [] x k some asks = absurd cc
asked_inside past at a n (c ∷ cs) [] x k some asks = absurd k
asked_inside past at a n [] (y ∷ xs) x k some asks = absurd k
asked_inside past at a n (c ∷ cs) (y ∷ xs) x k some asks =
    inr (k.0.1.0 (ap (λ (z : OpenedCall). z.asks_audition) (same_call y x some) ∙ asks))

pub begun_inside : (past : List Line) (at a : ℕ) (n : Name) (cs : List OpenCall) (xs : List OpenedCall) (x : OpenedCall) (b : Bool) → AreKeptOf at cs xs → slice_get xs 0 ≡ Some x
    → x.asks_audition ≡ false → (b ≡ true) ↔ KnowsName past at (unwrap_or x.begun a) n → (b ≡ true) ↔ GivesBack past at a n cs
begun_inside past at a n [] [] x b k some asks h = absurd cc
begun_inside past at a n (c ∷ cs) [] x b k some asks h = absurd k
begun_inside past at a n [] (y ∷ xs) x b k some asks h = absurd k
begun_inside past at a n (c ∷ cs) (y ∷ xs) x b k some asks h =
    let same : y ≡ x = same_call y x some in
    let begun : x.begun ≡ c.call.begun = sym (ap (λ (z : OpenedCall). z.begun) same) ∙ k.0.0 in
    let knows : (b ≡ true) ↔ KnowsName past at (unwrap_or c.call.begun a) n = subst (λ (o : Option ℕ). (b ≡ true) ↔ KnowsName past at (unwrap_or o a) n) begun h in
    let not_asked : AsksAudition at c → ⊥
    = λ g. (let bad : true ≡ false = sym (k.0.1.1 g) ∙ ap (λ (z : OpenedCall). z.asks_audition) same ∙ asks in cc) in
    (λ e. inl (knows.0 e), λ g. elim g [ inl x ↦ knows.1 x | inr x ↦ absurd (not_asked x) ])

-- ---- a value

pub named : (x : Shown) (n : Name) → x ≡ Named n → name_of x ≡ Some n
unfolding name_of
named x n is = ap name_of is

pub not_named : (x : Shown) → ((n : Name) → x ≡ Named n → ⊥) → name_of x ≡ None
unfolding name_of
not_named (Named n) no_name = absurd (no_name n refl)
not_named x no_name = refl

same_name : (m n : Name) → Some m ≡ Some n → m ≡ n
same_name m n e = cc

pub name_back : (past : List Line) (at a : ℕ) (x : Shown) (n : Name) (b : Bool) → name_of x ≡ Some n → (b ≡ true) ↔ GivesBack past at a n (open_calls past at a)
    → (b ≡ true) ↔ GivesBackValue past at a x
name_back past at a x n b is h =
    (λ e. λ m g. subst (λ (p : Name). GivesBack past at a p (open_calls past at a)) (same_name n m (sym is ∙ g)) (h.0 e), λ all. h.1 (all n is))

pub no_name_back : (past : List Line) (at a : ℕ) (x : Shown) → name_of x ≡ None → (true ≡ true) ↔ GivesBackValue past at a x
no_name_back past at a x none = (λ e. λ n g. absurd (let bad : None ≡ Some n = sym none ∙ g in cc), λ all. refl)

-- ---- a call that asks for a guard

name_asked : (b : Bool) (x : Shown) (n : Name) → (if b then name_of x else None) ≡ Some n → (b ≡ true) × (name_of x ≡ Some n)
name_asked true x n e = (refl, e)
name_asked false x n e = absurd cc

nobody_asked : (b : Bool) (x : Shown) (n : Name) → (if b then name_of x else None) ≡ None → b ≡ true → name_of x ≡ Some n → ⊥
nobody_asked true x n e t some = let bad : None ≡ Some n = sym e ∙ some in cc
nobody_asked false x n e t some = absurd cc

pub asks : (past : List Line) (at : ℕ) (c : Called) (n : Name) (b : Bool) → asked_name c ≡ Some n → (b ≡ true) ↔ LeadsToAudition past at n
    → (b ≡ true) ↔ AsksAudition at (record { call = c; before = past })
asks past at c n b is h =
    let asked = name_asked (bytes_eq c.verb (codes "getGuard")) c.target n is in
    let verb_is : c.verb ≡ codes "getGuard" = (bytes_eq-Decides c.verb (codes "getGuard")).0 asked.0 in
    let name : name_of c.target ≡ Some n = asked.1 in (
      λ e. let leads = h.0 e in (verb_is, n, leads.0, name, leads.1, leads.2),
      λ g. h.1 (g.2, subst (λ (m : Name). IsFollowed past at m g.2) (same_name g.1 n (sym g.3 ∙ name)) g.4, g.5),
    )

pub asks_nobody : (past : List Line) (at : ℕ) (c : Called) → asked_name c ≡ None → (false ≡ true) ↔ AsksAudition at (record { call = c; before = past })
asks_nobody past at c none = (
  λ e. absurd (let bad : false ≡ true = e in cc),
  λ g. absurd (nobody_asked (bytes_eq c.verb (codes "getGuard")) c.target g.1 none ((bytes_eq-Decides c.verb (codes "getGuard")).1 g.0) g.3),
)

-- ---- a line

number_in : ℕ → Event → ℕ
number_in d (Back a x) = a
number_in d e = d

value_in : Shown → Event → Shown
value_in d (Back a x) = x
value_in d e = d

pub back_known : (past : List Line) (at a : ℕ) (x : Shown) (e : Event) (b : Bool) → e ≡ Back a x → (b ≡ true) ↔ GivesBackValue past at a x
    → (b ≡ true) ↔ BackKnown past (record { at = at; event = e })
unfolding number_in value_in
back_known past at a x e b is h = (
  λ t. λ c y n f g.
      let number : a ≡ c = ap (number_in a) (sym is ∙ f) in
      let value : x ≡ y = ap (value_in x) (sym is ∙ f) in
      subst (λ (d : ℕ). GivesBack past at d n (open_calls past at d)) number (h.0 t n (ap name_of value ∙ g)),
  λ all. h.1 (λ n g. all a x n is g),
)

pub nothing_back : (past : List Line) (at : ℕ) (e : Event) → ((a : ℕ) (x : Shown) → e ≡ Back a x → ⊥) → (true ≡ true) ↔ BackKnown past (record { at = at; event = e })
nothing_back past at e no_back = (λ t. λ a x n f g. absurd (no_back a x f), λ all. refl)

-- ---- both points of a line

pub both_points : (past : List Line) (l : Line) (b : Bool) → UsesKnown past l → (b ≡ true) ↔ BackKnown past l → (b ≡ true) ↔ IsOfKnown past l
unfolding IsOfKnown
both_points past l b first h = (λ e. (first, h.0 e), λ p. h.1 p.1)

pub first_point : (past : List Line) (l : Line) → IsOfKnown past l → UsesKnown past l
unfolding IsOfKnown
first_point past l p = p.0

-- ---- all that is kept

pub both_stand : (known : Known) (calls : Stacks) (past : List Line) → KnownStand known past → CallsStand calls past → KeptStand known calls past
both_stand known calls past k c = record { knowledge = k; calls = c }
