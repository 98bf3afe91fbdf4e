-- What some tokens spell, tokens of the same kinds spell.
use Rattle.std.proofs.Common.{◌≡◌, true, ℕ, List, [], ◌∷◌, Some, refl, sym, ◌∙◌, subst, ap, max, ◌+◌}
use Rattle.def_syntax.specs.declared.token.TokenKind.{TokenKind}
use Rattle.def_syntax.specs.declared.syntax.Word.{Word}
use Rattle.def_syntax.specs.declared.syntax.Shape.{Shape}
use Rattle.def_syntax.specs.declared.syntax.Line.{Line}
use Rattle.def_syntax.specs.declared.syntax.Tail.{Tail}
use Rattle.def_syntax.specs.declared.syntax.Tail.TheVariants as tails
use Rattle.def_syntax.specs.declared.place.Place.{Place}
use Rattle.def_syntax.specs.declared.place.Place.TheVariants as places
use Rattle.def_syntax.specs.declared.place.Move.TheVariants.{Takes, Wraps}
use Rattle.def_syntax.specs.declared.place.Ending.{Ending}
use Rattle.def_syntax.specs.declared.place.Ending.TheVariants as endings
use Rattle.def_syntax.specs.Grammar.{Tree, Trees, node, none, more, leaf, ending, form_at, shape_of, word_of, parts_of, more_at, again, begun, is_stop, IsStop, MayEnd, Has, moves, wrapped, no_word, Goal, line, tail, inside, Spells, form, tower, stays, goes, ends, takes, reads, wraps}
use Rattle.def_syntax.specs.Heights.{weight, height, tallest}
use Rattle.law_reading.specs.Grammar.Numbers.{Alike, NumbersDecideNothing}

-- two trees of one shape with parts of one height
abbrev Twin : Tree → Tree → Type 0
Twin v u = (shape_of v ≡ shape_of u) × (tallest (parts_of v) ≡ tallest (parts_of u))

twin_height : (v u : Tree) → Twin v u → height v ≡ height u
twin_height (node s f ts) (node r g us) h = ap (λ (x : Shape). weight x + tallest ts) h.0 ∙ ap (λ (n : ℕ). weight r + n) h.1

twin_begun : (c : Tail) (v u : Tree) (t s : Word) → Twin v u → tallest (begun c v t) ≡ tallest (begun c u s)
twin_begun tails.Becomes v u t s h = h.1
twin_begun tails.BecomesBeforeBlock v u t s h = h.1
twin_begun _ v u t s h = ap (λ (n : ℕ). max 0 n) (twin_height v u h)

-- the same from a goal with these tokens
abbrev Same : Goal → List Word → Tree → List Word → Type 0
Same g us w rest = (x : Tree) × (end : List Word) × Spells g us x end × Twin w x × Alike rest end

abbrev Again : Goal → List Word → Tree → List Word → Type 0
Again (line l) ts w rest = (us : List Word) → Alike ts us → Same (line l) us w rest
Again (tail c v) ts w rest = (u : Tree) → Twin v u → (us : List Word) → Alike ts us → Same (tail c u) us w rest
Again (inside q f fs) ts w rest = (g : Word) (gs : Trees) → tallest fs ≡ tallest gs → (us : List Word) → Alike ts us → Same (inside q g gs) us w rest

alike_stop : (ts us : List Word) → Alike ts us → IsStop ts → IsStop us
alike_stop [] [] a i = tt
alike_stop [] (u ∷ us) a i = absurd a
alike_stop (t ∷ ts) [] a i = absurd a
alike_stop (t ∷ ts) (u ∷ us) a i = subst (λ (k : TokenKind). is_stop k ≡ true) a.0 i

alike_end : (e : Ending) (s : Shape) (ts us : List Word) → Alike ts us → MayEnd e s ts → MayEnd e s us
alike_end (endings.BeforeStop x) s ts us a m = (m.0, alike_stop ts us a m.1)
alike_end other s ts us a m = m

wrapped_tall : (s : Shape) (fs gs : Trees) → tallest fs ≡ tallest gs → tallest (wrapped s fs) ≡ tallest (wrapped s gs)
wrapped_tall s fs gs e = ap (λ (n : ℕ). max 0 (weight s + n)) e

more_tall : (fs gs : Trees) (v u : Tree) → tallest fs ≡ tallest gs → Twin v u → tallest (more fs v) ≡ tallest (more gs u)
more_tall fs gs v u e h = ap (λ (n : ℕ). max n (height v)) e ∙ ap (λ (n : ℕ). max (tallest gs) n) (twin_height v u h)

form_again : (l : Line) (t : Word) (q : Place) (ts : List Word) (w : Tree) (rest us : List Word) → form_at l t.kind ≡ Some q → Again (inside q t none) ts w rest → Alike (t ∷ ts) us → Same (line l) us w rest
form_again l t q ts w rest [] e d a = absurd a
form_again l t q ts w rest (u ∷ us) e d a =
    let x = d u none refl us a.1 in
    (x.0, x.1, form (ap (λ (k : TokenKind). form_at l k) (sym a.0) ∙ e) x.2, x.3, x.4)

takes_again : (q r : Place) (k : TokenKind) (t g : Word) (gs : Trees) (ts : List Word) (w : Tree) (rest us : List Word) → Has (moves q) (Takes k r) → t.kind ≡ k → ((us : List Word) (u : Word) → Alike ts us → Same (inside r g (leaf gs u)) us w rest) → Alike (t ∷ ts) us → Same (inside q g gs) us w rest
takes_again q r k t g gs ts w rest [] m e d a = absurd a
takes_again q r k t g gs ts w rest (u ∷ us) m e d a = let x = d us u a.1 in (x.0, x.1, takes m (sym a.0 ∙ e) x.2, x.3, x.4)

wraps_again : (q r : Place) (k : TokenKind) (s : Shape) (t g : Word) (gs : Trees) (ts : List Word) (w : Tree) (rest us : List Word) → Has (moves q) (Wraps k s r) → t.kind ≡ k → ((us : List Word) (u : Word) → Alike ts us → Same (inside r g (leaf (wrapped s gs) u)) us w rest) → Alike (t ∷ ts) us → Same (inside q g gs) us w rest
wraps_again q r k s t g gs ts w rest [] m e d a = absurd a
wraps_again q r k s t g gs ts w rest (u ∷ us) m e d a = let x = d us u a.1 in (x.0, x.1, wraps m (sym a.0 ∙ e) x.2, x.3, x.4)

goes_again : (c : Tail) (t : Word) (q : Place) (v y u w : Tree) (ts mid rest us : List Word) → more_at c (shape_of v) t.kind ≡ Some q → Again (inside q (word_of v) (begun c v t)) ts u mid → Again (tail (again c) u) mid w rest → Twin v y → Alike (t ∷ ts) us → Same (tail c y) us w rest
goes_again c t q v y u w ts mid rest [] e d tl h a = absurd a
goes_again c t q v y u w ts mid rest (s ∷ us) e d tl h a =
    let i : more_at c (shape_of y) s.kind ≡ Some q = ap (λ (z : Shape). more_at c z s.kind) (sym h.0) ∙ ap (λ (k : TokenKind). more_at c (shape_of v) k) (sym a.0) ∙ e in
    let x = d (word_of y) (begun c y s) (twin_begun c v y t s h) us a.1 in
    let z = tl x.0 x.3 x.1 x.4 in
    (z.0, z.1, goes i x.2 z.2, z.3, z.4)

renumbered : {g : Goal} {ts rest : List Word} {w : Tree} → Spells g ts w rest → Again g ts w rest
renumbered {rest = rest} {w = w} (form {l = l} {t = t} {q = q} {ts = ts} e d) = λ us a. form_again l t q ts w rest us e (renumbered d) a
renumbered (tower e d tl) = λ us a.
    let x = renumbered d us a in
    let z = renumbered tl x.0 x.3 x.1 x.4 in
    (z.0, z.1, tower e x.2 z.2, z.3, z.4)
renumbered stays = λ u h us a. (u, us, stays, h, a)
renumbered {rest = rest} {w = w} (goes {c = c} {t = t} {q = q} {v = v} {u = u} {ts = ts} {mid = mid} e d tl) = λ y h us a. goes_again c t q v y u w ts mid rest us e (renumbered d) (renumbered tl) h a
renumbered {ts = ts} (ends {q = q} {s = s} {fs = fs} m) = λ g gs h us a. (node s g gs, us, ends (alike_end (ending q) s ts us a m), (refl, h), a)
renumbered {rest = rest} {w = w} (takes {q = q} {r = r} {k = k} {t = t} {fs = fs} {ts = ts} m e d) = λ g gs h us a. takes_again q r k t g gs ts w rest us m e (λ vs u b. renumbered d g (leaf gs u) h vs b) a
renumbered (reads {fs = fs} {v = v} m d n) = λ g gs h us a.
    let x = renumbered d us a in
    let z = renumbered n g (more gs x.0) (more_tall fs gs v x.0 h x.3) x.1 x.4 in
    (z.0, z.1, reads m x.2 z.2, z.3, z.4)
renumbered {rest = rest} {w = w} (wraps {q = q} {r = r} {k = k} {s = s} {t = t} {fs = fs} {ts = ts} m e d) = λ g gs h us a. wraps_again q r k s t g gs ts w rest us m e (λ vs u b. renumbered d g (leaf (wrapped s gs) u) (wrapped_tall s fs gs h) vs b) a

nothing_left : (us : List Word) → Alike [] us → us ≡ []
nothing_left [] a = refl
nothing_left (u ∷ us) a = absurd a

pub numbers_decide_nothing : NumbersDecideNothing
numbers_decide_nothing = λ ts us a w d.
    let x = renumbered d no_word none refl us a in
    (x.0, subst (λ (z : List Word). Spells (inside places.Program no_word none) us x.0 z) (nothing_left x.1 x.4) x.2, sym (twin_height w x.0 x.3))
