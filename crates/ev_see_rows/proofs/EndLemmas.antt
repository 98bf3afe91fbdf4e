-- What a name waits for, name by name.
use Rattle.std.proofs.Common.{◌≡◌, ◌<◌, ◌≤◌, ◌+◌, ◌-◌, ℕ, suc, List, Option, Some, None, refl, sym, ◌∙◌, ap, arith}
use Rattle.std.specs.Option.{option_map_or}
use Rattle.def_see.specs.declared.line.Line.{Line}
use Rattle.def_see.specs.Rows.{awaited, end_from}

one_more : (k : ℕ) (lines : List Line) (name : List ℕ) → end_from (suc k) lines name ≡ option_map_or (end_from k lines) (awaited lines name) name
unfolding end_from
one_more k lines name = refl

none_more : (lines : List Line) (name : List ℕ) → end_from 0 lines name ≡ name
unfolding end_from
none_more lines name = refl

left_over : (i : ℕ) → i < 64 → 64 - i ≡ suc (64 - (i + 1))
left_over i lt = omega arith

-- a name waits for the next
pub goes_on : (lines : List Line) (name next whole : List ℕ) (i : ℕ) → i < 64 → awaited lines name ≡ Some next → end_from (64 - i) lines name ≡ whole
    → end_from (64 - (i + 1)) lines next ≡ whole
goes_on lines name next whole i lt waits so_far =
    ap (λ (o : Option (List ℕ)). option_map_or (end_from (64 - (i + 1)) lines) o name) (sym waits)
    ∙ sym (one_more (64 - (i + 1)) lines name) ∙ ap (λ (k : ℕ). end_from k lines name) (sym (left_over i lt)) ∙ so_far

-- a name waits for nothing
pub stops : (lines : List Line) (name whole : List ℕ) (i : ℕ) → i < 64 → awaited lines name ≡ None → end_from (64 - i) lines name ≡ whole → name ≡ whole
stops lines name whole i lt waits so_far =
    ap (λ (o : Option (List ℕ)). option_map_or (end_from (64 - (i + 1)) lines) o name) (sym waits)
    ∙ sym (one_more (64 - (i + 1)) lines name) ∙ ap (λ (k : ℕ). end_from k lines name) (sym (left_over i lt)) ∙ so_far

-- no more names are followed
pub all_followed : (lines : List Line) (name whole : List ℕ) (i : ℕ) → 64 ≤ i → end_from (64 - i) lines name ≡ whole → name ≡ whole
all_followed lines name whole i past so_far =
    let over : 64 - i ≡ 0 = omega arith in
    sym (none_more lines name) ∙ ap (λ (k : ℕ). end_from k lines name) (sym over) ∙ so_far
