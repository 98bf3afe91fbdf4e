-- One byte more is written, and it is the next of the word.
use Rattle.std.proofs.Common.{◌≡◌, ℕ, suc, ◌+◌, ◌-◌, ◌/◌, ◌%◌, ◌<◌, ◌++◌, ◌∷◌, [], arith, string_bytes, sym, ap, ◌∙◌, append_assoc}
use Rattle.std.proofs.lemmas.List.{append-nil}
use Rattle.std.specs.Char.{digit_char}
use Rattle.def_event.specs.Lines.{hex, low_first}
use Rattle.ev_event.proofs.hex.push_key.Goals as goal

next_byte : (j k n : ℕ) → j ≡ suc k → hex (low_first j n) ≡ digit_char (n % 256 / 16) ∷ digit_char (n % 256 % 16) ∷ hex (low_first k (n / 256))
unfolding low_first
next_byte j k n e = ap (λ i. hex (low_first i n)) e

no_byte : (j n : ℕ) → j ≡ 0 → hex (low_first j n) ≡ []
unfolding low_first
no_byte j n e = ap (λ i. hex (low_first i n)) e

pub loop-turn-preserved : goal.loop-turn-preserved
loop-turn-preserved c =
    let n = c.loop-turn.rest in
    let old = string_bytes c.loop-turn.out in
    let left = 16 - (c.loop-turn._turn + 1) in
    let lt : c.loop-turn._turn < 16 = c.loop-turn-test.true in
    let more : 16 - c.loop-turn._turn ≡ suc left = omega (arith, lt) in
    ap (λ xs. xs ++ hex (low_first left (n / 256))) c.in_ok-push_byte.ensures
    ∙ append_assoc old (digit_char (n % 256 / 16) ∷ digit_char (n % 256 % 16) ∷ []) (hex (low_first left (n / 256)))
    ∙ ap (λ xs. old ++ xs) (sym (next_byte (16 - c.loop-turn._turn) left n more)) ∙ c.loop-turn.invariant

pub returns : goal.returns
returns c =
    let ends = c.loop-turn-test.false in
    let none : 16 - c.loop-turn._turn ≡ 0 = omega (arith, ends) in
    sym (append-nil (string_bytes c.loop-turn.out)) ∙ ap (λ xs. string_bytes c.loop-turn.out ++ xs) (sym (no_byte (16 - c.loop-turn._turn) c.loop-turn.rest none)) ∙ c.loop-turn.invariant
