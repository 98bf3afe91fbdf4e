-- The two stacks of frames grow and shrink together.
use Rattle.std.proofs.Common.{◌≡◌, ℕ, zero, suc, List, [], ◌∷◌, ◌++◌, refl, sym, ◌∙◌, ap, length, get_or, ◌≤◌, ◌<◌, ◌-◌, take, take_all, arith}
use Rattle.def_syntax.specs.declared.syntax.Tail.{Tail}
use Rattle.ev_parser.specs.declared.draft.Stand.{Stand}
use Rattle.ev_parser.specs.declared.draft.Waiting.{Waiting}
use Rattle.ev_parser.specs.declared.draft.Waiting.TheVariants as waits
use Rattle.ev_parser.specs.declared.frames.Mark.{Mark}
use Rattle.ev_parser.specs.declared.frames.Mark.TheVariants as marks
use Rattle.ev_parser.specs.Draft.{low_waiting}
use Rattle.ev_parser.specs.Stacks.{framed, insides, lowered}

insides_inside : (ms : List Mark) → insides (ms ++ marks.Inside ∷ []) ≡ suc (insides ms)
insides_inside [] = refl
insides_inside (marks.Inside ∷ ms) = ap suc (insides_inside ms)
insides_inside (marks.After c ∷ ms) = insides_inside ms

insides_after : (ms : List Mark) (c : Tail) → insides (ms ++ marks.After c ∷ []) ≡ insides ms
insides_after [] c = refl
insides_after (marks.Inside ∷ ms) c = ap suc (insides_after ms c)
insides_after (marks.After d ∷ ms) c = insides_after ms c

length_last : (sts : List Stand) (st : Stand) → length (sts ++ st ∷ []) ≡ suc (length sts)
length_last [] st = refl
length_last (x ∷ sts) st = ap suc (length_last sts st)

framed_inside : (ms : List Mark) (sts : List Stand) (st : Stand) → insides ms ≡ length sts → framed (ms ++ marks.Inside ∷ []) (sts ++ st ∷ []) ≡ framed ms sts ++ waits.Inside st ∷ []
framed_inside [] [] st e = refl
framed_inside [] (x ∷ sts) st e = cc
framed_inside (marks.After c ∷ ms) sts st e = ap (λ (ws : List Waiting). waits.After c ∷ ws) (framed_inside ms sts st e)
framed_inside (marks.Inside ∷ ms) [] st e = cc
framed_inside (marks.Inside ∷ ms) (x ∷ sts) st e = ap (λ (ws : List Waiting). waits.Inside x ∷ ws) (framed_inside ms sts st cc)

framed_after : (ms : List Mark) (sts : List Stand) (c : Tail) → insides ms ≡ length sts → framed (ms ++ marks.After c ∷ []) sts ≡ framed ms sts ++ waits.After c ∷ []
framed_after [] sts c e = refl
framed_after (marks.After d ∷ ms) sts c e = ap (λ (ws : List Waiting). waits.After d ∷ ws) (framed_after ms sts c e)
framed_after (marks.Inside ∷ ms) [] c e = cc
framed_after (marks.Inside ∷ ms) (x ∷ sts) c e = ap (λ (ws : List Waiting). waits.Inside x ∷ ws) (framed_after ms sts c cc)

-- `most` marks and `all` nodes are `ms` and `sts` with one frame more, that has a node
pub inside_fits : (ms most : List Mark) (sts all : List Stand) (st : Stand) → most ≡ ms ++ marks.Inside ∷ [] → all ≡ sts ++ st ∷ [] → insides ms ≡ length sts → insides most ≡ length all
inside_fits ms most sts all st e d i = ap insides e ∙ insides_inside ms ∙ ap suc i ∙ sym (ap length d ∙ length_last sts st)

pub inside_off : (ms most : List Mark) (sts all : List Stand) (st : Stand) → most ≡ ms ++ marks.Inside ∷ [] → all ≡ sts ++ st ∷ [] → insides most ≡ length all → insides ms ≡ length sts
inside_off ms most sts all st e d i =
    let k : suc (insides ms) ≡ suc (length sts) = sym (ap insides e ∙ insides_inside ms) ∙ i ∙ ap length d ∙ length_last sts st in
    cc

pub inside_framed : (ms most : List Mark) (sts all : List Stand) (st : Stand) → most ≡ ms ++ marks.Inside ∷ [] → all ≡ sts ++ st ∷ [] → insides ms ≡ length sts → framed most all ≡ framed ms sts ++ waits.Inside st ∷ []
inside_framed ms most sts all st e d i = ap (λ (m : List Mark). framed m all) e ∙ ap (λ (a : List Stand). framed (ms ++ marks.Inside ∷ []) a) d ∙ framed_inside ms sts st i

pub inside_none : (ms most : List Mark) (all : List Stand) → most ≡ ms ++ marks.Inside ∷ [] → length all ≡ 0 → insides most ≡ length all → ⊥
inside_none ms most all e n i = let k : suc (insides ms) ≡ 0 = sym (ap insides e ∙ insides_inside ms) ∙ i ∙ n in cc

-- and with one frame more, that has none
pub after_fits : (ms most : List Mark) (c : Tail) → most ≡ ms ++ marks.After c ∷ [] → insides most ≡ insides ms
after_fits ms most c e = ap insides e ∙ insides_after ms c

pub after_framed : (ms most : List Mark) (sts : List Stand) (c : Tail) → most ≡ ms ++ marks.After c ∷ [] → insides ms ≡ length sts → framed most sts ≡ framed ms sts ++ waits.After c ∷ []
after_framed ms most sts c e i = ap (λ (m : List Mark). framed m sts) e ∙ framed_after ms sts c i

-- what the nodes make of the height of the tree that the topmost of them waits for
abbrev pub lowered_by : List Stand → ℕ → ℕ
lowered_by [] h = h
lowered_by (st ∷ sts) h = low_waiting (waits.Inside st) (lowered_by sts h)

-- a frame without a node leaves the height as it is
pub lowered_framed : (ms : List Mark) (sts : List Stand) (h : ℕ) → insides ms ≡ length sts → lowered (framed ms sts) h ≡ lowered_by sts h
lowered_framed [] [] h e = refl
lowered_framed [] (x ∷ sts) h e = cc
lowered_framed (marks.After c ∷ ms) sts h e = lowered_framed ms sts h e
lowered_framed (marks.Inside ∷ ms) [] h e = cc
lowered_framed (marks.Inside ∷ ms) (x ∷ sts) h e = ap (low_waiting (waits.Inside x)) (lowered_framed ms sts h cc)

taken_next : (sts : List Stand) (n : ℕ) (st : Stand) (h : ℕ) → n < length sts → st ≡ get_or sts n st → lowered_by (take (suc n) sts) h ≡ lowered_by (take n sts) (low_waiting (waits.Inside st) h)
taken_next [] n st h lt e = absurd (omega arith)
taken_next (x ∷ sts) zero st h lt e = ap (λ (y : Stand). low_waiting (waits.Inside y) h) (sym e)
taken_next (x ∷ sts) (suc n) st h lt e = ap (low_waiting (waits.Inside x)) (taken_next sts n st h (omega arith) e)

-- the topmost of the first n nodes lowers first
pub lowered_next : (sts : List Stand) (n : ℕ) (st : Stand) (h : ℕ) → 0 < n → n ≤ length sts → st ≡ get_or sts (n - 1) st → lowered_by (take n sts) h ≡ lowered_by (take (n - 1) sts) (low_waiting (waits.Inside st) h)
lowered_next sts n st h z le e =
    let i : n ≡ suc (n - 1) = omega arith in
    ap (λ (m : ℕ). lowered_by (take m sts) h) i ∙ taken_next sts (n - 1) st h (omega arith) e

pub lowered_start : (sts : List Stand) (n h : ℕ) → n ≡ length sts → lowered_by (take n sts) h ≡ lowered_by sts h
lowered_start sts n h e = ap (λ (ss : List Stand). lowered_by ss h) (take_all n sts (omega arith))

pub lowered_done : (sts : List Stand) (n h k : ℕ) → n ≤ 0 → lowered_by (take n sts) h ≡ k → h ≡ k
lowered_done sts n h k z e = let i : n ≡ 0 = omega arith in sym (ap (λ (m : ℕ). lowered_by (take m sts) h) i) ∙ e
