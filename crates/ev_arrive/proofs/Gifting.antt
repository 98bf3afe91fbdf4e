-- Gifts as the code keeps them are the machine's.
use Rattle.std.proofs.Common.{◌≡◌, ◌∙◌, ◌==◌, ◌&&◌, arith, ℕ, zero, Bool, true, false, List, [], ◌∷◌, ◌++◌, Option, Some, None, map, refl, sym, ap, subst}
use Rattle.std.specs.Prelude.{if◌then◌else◌}
use Rattle.std.proofs.lemmas.Bool.{eqb-true, eq-eqb}
use Rattle.def_machine.specs.Arrive.{gift_at}
use Rattle.def_machine.specs.State.{GiftEntry, is_gift, with_opened}
use Rattle.def_machine.specs.Values.{Local, Prom, key, word_of}
use Rattle.ev_intro.specs.Gift.{Gift, Gifts, find, is_under, put}
use Rattle.def_machine.proofs.Keys.{word_key}
use Rattle.ev_arrive.specs.Reading.{gift_by}

pub same_eq : (a b : ℕ) → (a == b) ≡ (b == a)
same_eq a b = grind (arith)

both_true : (b c : Bool) → (b && c) ≡ true → (b ≡ true) × (c ≡ true)
both_true true c e = (refl, e)
both_true false c e = cc

same_word : (p a b : ℕ) → key p a ≡ key p b → a ≡ b
same_word p a b e = sym (word_key p a) ∙ ap word_of e ∙ word_key p b

bool_same : (b c : Bool) → (b ≡ true → c ≡ true) → (c ≡ true → b ≡ true) → b ≡ c
bool_same true c f g = sym (f refl)
bool_same false true f g = g refl
bool_same false false f g = refl

-- under one provider keys tell words
words_tell : (p a b : ℕ) → (key p a == key p b) ≡ (a == b)
words_tell p a b = bool_same (key p a == key p b) (a == b) (λ e. eq-eqb a b (same_word p a b (eqb-true (key p a) (key p b) e))) (λ e. eq-eqb (key p a) (key p b) (ap (key p) (eqb-true a b e)))

under_by : (p i : ℕ) (g : Gift) (b : Bool) → (g.provider == p) ≡ b → (elim b [ true ↦ key g.provider g.swiss == key p i | false ↦ false ]) ≡ is_under p i g
under_by p i g true e =
    ap (λ (q : ℕ). key q g.swiss == key p i) (eqb-true g.provider p e) ∙ words_tell p g.swiss i ∙ same_eq g.swiss i
    ∙ ap (λ (b : Bool). b && (i == g.swiss)) (sym (same_eq p g.provider ∙ e))
under_by p i g false e = ap (λ (b : Bool). b && (i == g.swiss)) (sym (same_eq p g.provider ∙ e))

under_is : (p i : ℕ) (g : Gift) → is_gift p (key p i) (gift_by g) ≡ is_under p i g
unfolding is_gift
under_is p i g = under_by p i g (g.provider == p) refl

-- what is found in the code, and in the machine
abbrev pub Alike : Option (ℕ × Bool) → Option (GiftEntry Local) → Type 0
Alike None None = Unit {0}
Alike None (Some g) = ⊥
Alike (Some x) None = ⊥
Alike (Some x) (Some g) = (g.name ≡ Prom x.0) × (g.opened ≡ x.1)

alike_by : (p i : ℕ) (g : Gift) (gs : Gifts) (b : Bool) → Alike (find p i gs) (gift_at p (key p i) (map gift_by gs))
    → Alike (if b then Some (g.promise, g.is_opened) else find p i gs) (elim b [ true ↦ Some (gift_by g) | false ↦ gift_at p (key p i) (map gift_by gs) ])
alike_by p i g gs true h = (refl, refl)
alike_by p i g gs false h = h

pub alike : (p i : ℕ) (gs : Gifts) → Alike (find p i gs) (gift_at p (key p i) (map gift_by gs))
unfolding gift_at
alike p i [] = tt
alike p i (g ∷ gs) =
    subst (λ (b : Bool). Alike (find p i (g ∷ gs)) (elim b [ true ↦ Some (gift_by g) | false ↦ gift_at p (key p i) (map gift_by gs) ])) (sym (under_is p i g))
    (alike_by p i g gs (is_under p i g) (alike p i gs))

-- a gift that is absent is put last
put_by : (new g : Gift) (gs : Gifts) (b : Bool) → (if b then Some (g.promise, g.is_opened) else find new.provider new.swiss gs) ≡ None
    → (find new.provider new.swiss gs ≡ None → put new gs ≡ gs ++ new ∷ []) → (if b then new ∷ gs else g ∷ put new gs) ≡ g ∷ (gs ++ new ∷ [])
put_by new g gs true e h = cc
put_by new g gs false e h = ap (λ (z : Gifts). g ∷ z) (h e)

pub put_last : (new : Gift) (gs : Gifts) → find new.provider new.swiss gs ≡ None → put new gs ≡ gs ++ new ∷ []
put_last new [] e = refl
put_last new (g ∷ gs) e = put_by new g gs (is_under new.provider new.swiss g) e (put_last new gs)

-- nothing is opened where there is no such gift
none_by : (p i : ℕ) (g : Gift) (gs : Gifts) (b : Bool) → (if b then Some (g.promise, g.is_opened) else find p i gs) ≡ None
    → (find p i gs ≡ None → map gift_by gs ≡ with_opened p (key p i) (map gift_by gs))
    → gift_by g ∷ map gift_by gs ≡ (elim b [ true ↦ record (gift_by g) { opened = true } ∷ map gift_by gs | false ↦ gift_by g ∷ with_opened p (key p i) (map gift_by gs) ])
none_by p i g gs true e h = cc
none_by p i g gs false e h = ap (λ (z : List (GiftEntry Local)). gift_by g ∷ z) (h e)

pub none_opened : (p i : ℕ) (gs : Gifts) → find p i gs ≡ None → map gift_by gs ≡ with_opened p (key p i) (map gift_by gs)
unfolding with_opened
none_opened p i [] e = refl
none_opened p i (g ∷ gs) e =
    none_by p i g gs (is_under p i g) e (none_opened p i gs)
    ∙ ap (λ (b : Bool). elim b [ true ↦ record (gift_by g) { opened = true } ∷ map gift_by gs | false ↦ gift_by g ∷ with_opened p (key p i) (map gift_by gs) ]) (sym (under_is p i g))

abbrev pub opened_gift : ℕ → ℕ → ℕ → Gift
opened_gift p i n = record { provider = p; swiss = i; promise = n; is_opened = true }

found_by : (p i : ℕ) (x : ℕ × Bool) (g : Gift) (gs : Gifts) (b : Bool) → is_under p i g ≡ b → (if b then Some (g.promise, g.is_opened) else find p i gs) ≡ Some x
    → (find p i gs ≡ Some x → map gift_by (put (opened_gift p i x.0) gs) ≡ with_opened p (key p i) (map gift_by gs))
    → map gift_by (if b then opened_gift p i x.0 ∷ gs else g ∷ put (opened_gift p i x.0) gs)
    ≡ (elim b [ true ↦ record (gift_by g) { opened = true } ∷ map gift_by gs | false ↦ gift_by g ∷ with_opened p (key p i) (map gift_by gs) ])
found_by p i x g gs true u e h =
    let both = both_true (p == g.provider) (i == g.swiss) u in
    let promise : g.promise ≡ x.0 = ap (λ (o : Option (ℕ × Bool)). elim o [ Some y ↦ y.0 | None ↦ zero ]) e in
    ap (λ (n : ℕ). gift_by (opened_gift p i n) ∷ map gift_by gs) (sym promise)
    ∙ ap (λ (q : ℕ). gift_by (opened_gift q i g.promise) ∷ map gift_by gs) (eqb-true p g.provider both.0)
    ∙ ap (λ (q : ℕ). gift_by (opened_gift g.provider q g.promise) ∷ map gift_by gs) (eqb-true i g.swiss both.1)
found_by p i x g gs false u e h = ap (λ (z : List (GiftEntry Local)). gift_by g ∷ z) (h e)

pub some_opened : (p i : ℕ) (x : ℕ × Bool) (gs : Gifts) → find p i gs ≡ Some x → map gift_by (put (opened_gift p i x.0) gs) ≡ with_opened p (key p i) (map gift_by gs)
unfolding with_opened
some_opened p i x [] e = cc
some_opened p i x (g ∷ gs) e =
    found_by p i x g gs (is_under p i g) refl e (some_opened p i x gs)
    ∙ ap (λ (b : Bool). elim b [ true ↦ record (gift_by g) { opened = true } ∷ map gift_by gs | false ↦ gift_by g ∷ with_opened p (key p i) (map gift_by gs) ]) (sym (under_is p i g))
