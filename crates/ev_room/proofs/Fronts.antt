-- Scopes that have the bindings of another in front.
use Rattle.std.proofs.Common.{◌≡◌, ℕ, List, [], ◌∷◌, ◌++◌, length, refl, ap, ◌∙◌}
use Rattle.std.specs.Prelude.{take, Result, Ok, Err, OnOk, OnErr}
use Rattle.ev_base.specs.declared.memory.Memory.{Memory}
use Rattle.def_machine.specs.Values.{Words}
use Rattle.ev_room.specs.declared.scope.Binding.{Binding}
use Rattle.ev_room.specs.declared.scope.Bound.{Bound}
use Rattle.ev_room.specs.declared.scope.Scope.{Scope}
use Rattle.ev_room.specs.Acts.{Extends, cut, with_noun}

take_all : (xs : List Binding) → take (length xs) xs ≡ xs
take_all [] = refl
take_all (x ∷ xs) = ap (λ (ys : List Binding). x ∷ ys) (take_all xs)

take_front : (xs ys zs : List Binding) → take (length xs) ys ≡ xs → take (length ys) zs ≡ ys → take (length xs) zs ≡ xs
take_front [] ys zs e f = refl
take_front (x ∷ xs) [] zs e f = absurd (cc)
take_front (x ∷ xs) (y ∷ ys) [] e f = absurd (cc)
take_front (x ∷ xs) (y ∷ ys) (z ∷ zs) e f =
    let p : y ≡ x = cc in
    let q : z ≡ y = cc in
    let r : take (length xs) ys ≡ xs = cc in
    let t : take (length ys) zs ≡ ys = cc in
    rw (q ∙ p) (ap (λ (us : List Binding). x ∷ us) (take_front xs ys zs r t))

take_more : (xs : List Binding) (b : Binding) → take (length xs) (xs ++ b ∷ []) ≡ xs
take_more [] b = refl
take_more (x ∷ xs) b = ap (λ (ys : List Binding). x ∷ ys) (take_more xs b)

pub itself_in_front : (a : Scope) → Extends a a
unfolding Extends
itself_in_front a = ap (λ (ns : List Binding). record a { nouns = ns }) (take_all a.nouns)

-- one in front of another that is in front of a third
pub in_front : (a b c : Scope) → Extends a b → Extends b c → Extends a c
unfolding Extends
in_front a b c e f =
    let act : c.act ≡ a.act = ap (λ (x : Scope). x.act) f ∙ ap (λ (x : Scope). x.act) e in
    let nouns : take (length a.nouns) c.nouns ≡ a.nouns = take_front a.nouns b.nouns c.nouns (ap (λ (x : Scope). x.nouns) e) (ap (λ (x : Scope). x.nouns) f) in
    ap (λ (n : ℕ). record { act = n; nouns = take (length a.nouns) c.nouns }) act ∙ ap (λ (ns : List Binding). record { act = a.act; nouns = ns }) nouns

pub noun_behind : (a : Scope) (x : Words) (b : Bound) → Extends a (with_noun x b a)
unfolding Extends
noun_behind a x b = ap (λ (ns : List Binding). record a { nouns = ns }) (take_more a.nouns (record { noun = x; bound = b }))

pub same_in_front : (a b : Scope) → b ≡ a → Extends a b
same_in_front a b e = rw e (itself_in_front a)

-- what was bound first is got back
pub got_back : (a b : Scope) (mark : ℕ) → length a.nouns ≡ mark → Extends a b → cut mark b ≡ a
unfolding Extends
got_back a b mark e f = rw (← e) f

-- a scope with one more binding, or with those that it had
pub more_in_front : (a : Scope) (ns : List Binding) (b : Binding) → ns ≡ a.nouns ++ b ∷ [] → Extends a (record { act = a.act; nouns = ns })
unfolding Extends
more_in_front a ns b e = rw e (ap (λ (us : List Binding). record a { nouns = us }) (take_more a.nouns b))

pub kept_in_front : (a : Scope) (ns : List Binding) → ns ≡ a.nouns → Extends a (record { act = a.act; nouns = ns })
kept_in_front a ns e = rw e (itself_in_front a)

pub pushed_in_front : (a : Scope) (ns : List Binding) (b : Binding) (r : Result (Unit {0}) Memory) → OnOk r (ns ≡ a.nouns ++ b ∷ []) → OnErr r (ns ≡ a.nouns) → Extends a (record { act = a.act; nouns = ns })
pushed_in_front a ns b (Ok u) e f = more_in_front a ns b e
pushed_in_front a ns b (Err m) e f = kept_in_front a ns f
