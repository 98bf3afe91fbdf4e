-- The place of a word among the draws is how many were drawn before it.
use Rattle.std.proofs.Common.{◌≡◌, ◌+◌, ℕ, zero, suc, Bool, true, false, cond, nat_eq, List, [], ◌∷◌, ◌++◌, length, Option, Some, refl, sym, ap, ◌∙◌, arith}
use Rattle.std.specs.Prelude.{unwrap_or}
use Rattle.std.specs.Map.{lookup}
use Rattle.std.proofs.lemmas.Cmp.{nat_eq_equiv}
use Rattle.std.proofs.lemmas.List.{length-append}
use Rattle.def_run.specs.Shown.{place_of}
use Rattle.ev_intro.specs.Word.{Drawn, draws, place, word}
use Rattle.ev_pass.specs.Acts.{words_by}
use Rattle.ev_resident.specs.NamesStanding.{words_of}

-- words with their places, from that place on
unfoldable numbered : ℕ → List ℕ → List (ℕ × ℕ)
numbered a [] = []
numbered a (w ∷ ws) = (w, a) ∷ numbered (suc a) ws

numbered-push : (a : ℕ) (ws : List ℕ) (w : ℕ) → numbered a (ws ++ w ∷ []) ≡ numbered a ws ++ (w, a + length ws) ∷ []
unfolding numbered
numbered-push a [] w = let same : a ≡ a + 0 = omega arith in ap (λ (n : ℕ). (w, n) ∷ []) same
numbered-push a (x ∷ ws) w =
    let same : suc a + length ws ≡ a + suc (length ws) = omega arith in
    ap (λ (es : List (ℕ × ℕ)). (x, a) ∷ es) (numbered-push (suc a) ws w)
    ∙ ap (λ (n : ℕ). (x, a) ∷ numbered (suc a) ws ++ (w, n) ∷ []) same

pub words_length : (key : List ℕ) (n : ℕ) → length (words_by key n) ≡ n
unfolding words_by
words_length key zero = refl
words_length key (suc n) = omega (arith, words_length key n, length-append (words_by key n) (word key n ∷ []))

draws_numbered : (key : List ℕ) (n : ℕ) → draws key n ≡ numbered 0 (words_by key n)
unfolding draws words_by
draws_numbered key zero = unfold numbered in refl
draws_numbered key (suc n) =
    let same : n ≡ 0 + length (words_by key n) = omega (arith, words_length key n) in
    ap (λ (es : List (ℕ × ℕ)). es ++ (word key n, n) ∷ []) (draws_numbered key n)
    ∙ ap (λ (m : ℕ). numbered 0 (words_by key n) ++ (word key n, m) ∷ []) same
    ∙ sym (numbered-push 0 (words_by key n) (word key n))

chosen : (b : Bool) (a w rest : ℕ) (o : Option ℕ) (d : ℕ) → unwrap_or o d ≡ suc a + rest → unwrap_or (cond b (Some a) o) d ≡ a + elim b [ true ↦ zero | false ↦ suc rest ]
chosen true a w rest o d h = omega arith
chosen false a w rest o d h = omega (arith, h)

found_at : (a : ℕ) (ws : List ℕ) (w : ℕ) → unwrap_or (lookup (nat_eq w) (numbered a ws)) (a + length ws) ≡ a + place_of ws w
unfolding numbered place_of
found_at a [] w = refl
found_at a (x ∷ ws) w =
    let same : a + suc (length ws) ≡ suc a + length ws = omega arith in
    ap (λ (n : ℕ). unwrap_or (cond (nat_eq w x) (Some a) (lookup (nat_eq w) (numbered (suc a) ws))) n) same
    ∙ chosen (nat_eq w x) a w (place_of ws w) (lookup (nat_eq w) (numbered (suc a) ws)) (suc a + length ws) (found_at (suc a) ws w)
    ∙ ap (λ (b : Bool). a + elim b [ true ↦ zero | false ↦ suc (place_of ws w) ]) (nat_eq_equiv.symm w x)

pub place_is : (d : Drawn) (w : ℕ) → place w d ≡ place_of (words_of d) w
place_is d w =
    let ws = words_by d.key d.count in
    let same : d.count ≡ 0 + length ws = omega (arith, words_length d.key d.count) in
    let first : 0 + place_of ws w ≡ place_of ws w = omega arith in
    ap (λ (es : List (ℕ × ℕ)). unwrap_or (lookup (nat_eq w) es) d.count) (draws_numbered d.key d.count)
    ∙ ap (λ (n : ℕ). unwrap_or (lookup (nat_eq w) (numbered 0 ws)) n) same
    ∙ found_at 0 ws w
    ∙ first
