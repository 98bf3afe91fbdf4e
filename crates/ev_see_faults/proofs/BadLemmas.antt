-- The first line that is none, line by line.
use Rattle.std.proofs.Common.{◌≡◌, ◌<◌, ◌≤◌, ◌+◌, ℕ, true, false, List, [], ◌∷◌, Option, Some, None, length, get_or, drop, refl, sym, ◌∙◌, ap}
use Rattle.ev_script.proofs.EachLemmas.{next_item, nothing_behind}
use Rattle.ev_see_faults.specs.Faults.{is_line, bad_from, ends, end_fault, end_text, fault}

one_passes : (i : ℕ) (l : List ℕ) (ls : List (List ℕ)) → is_line l ≡ true → bad_from i (l ∷ ls) ≡ bad_from (i + 1) ls
unfolding bad_from
one_passes i l ls holds = rw holds refl

one_fails : (i : ℕ) (l : List ℕ) (ls : List (List ℕ)) → is_line l ≡ false → bad_from i (l ∷ ls) ≡ Some i
unfolding bad_from
one_fails i l ls wrong = rw wrong refl

none_of : (i : ℕ) → bad_from i [] ≡ None
unfolding bad_from
none_of i = refl

pub passes : (l : List ℕ) (ls : List (List ℕ)) (i : ℕ) (whole : Option ℕ) → i < length ls → l ≡ get_or ls i l → is_line l ≡ true
    → bad_from (i + 1) (drop i ls) ≡ whole → bad_from (i + 1 + 1) (drop (i + 1) ls) ≡ whole
passes l ls i whole lt is holds so_far =
    sym (one_passes (i + 1) l (drop (i + 1) ls) holds) ∙ ap (bad_from (i + 1)) (sym (next_item l ls i lt is)) ∙ so_far

pub fails : (l : List ℕ) (ls : List (List ℕ)) (i : ℕ) (whole : Option ℕ) → i < length ls → l ≡ get_or ls i l → is_line l ≡ false
    → bad_from (i + 1) (drop i ls) ≡ whole → Some (i + 1) ≡ whole
fails l ls i whole lt is wrong so_far =
    sym (one_fails (i + 1) l (drop (i + 1) ls) wrong) ∙ ap (bad_from (i + 1)) (sym (next_item l ls i lt is)) ∙ so_far

pub none_bad : (ls : List (List ℕ)) (i : ℕ) (whole : Option ℕ) → length ls ≤ i → bad_from (i + 1) (drop i ls) ≡ whole → None ≡ whole
none_bad ls i whole past so_far = sym (none_of (i + 1)) ∙ ap (bad_from (i + 1)) (sym (nothing_behind ls i past)) ∙ so_far

pub not_ending : (number : ℕ) (line : List ℕ) → ends line ≡ false → end_fault number line ≡ fault (end_text number line)
unfolding end_fault
not_ending number line wrong = rw wrong refl
