-- The widths of rows, from the last.
use Rattle.std.proofs.Common.{◌≡◌, ◌<◌, ◌≤◌, ◌+◌, ◌-◌, ℕ, List, [], ◌∷◌, length, get_or, drop, refl, sym, ◌∙◌, ap, arith}
use Rattle.ev_script.proofs.EachLemmas.{next_item, nothing_behind}
use Rattle.def_see.specs.declared.row.Row.{Row}
use Rattle.def_see.specs.declared.row.Widths.{Widths}
use Rattle.def_see.specs.Table.{widths}
use Rattle.ev_see_rows.specs.Wide.{wider}

one_more : (r : Row) (rs : List Row) → widths (r ∷ rs) ≡ wider r (widths rs)
unfolding widths wider
one_more r rs = refl

pub none_wide : widths [] ≡ record { message = 0; what = 0; sent = 0; carried = 0; fate = 0 }
unfolding widths
none_wide = refl

-- nothing is behind the last row
pub wide_from_last : (rows : List Row) → widths (drop (length rows - 0) rows) ≡ widths []
wide_from_last rows = let past : length rows ≤ length rows - 0 = omega arith in ap widths (nothing_behind rows (length rows - 0) past)

-- the row before those that were gone over
pub wide_next : (r : Row) (w : Widths) (rows : List Row) (k : ℕ) → k < length rows → r ≡ get_or rows (length rows - 1 - k) r → w ≡ widths (drop (length rows - k) rows)
    → wider r w ≡ widths (drop (length rows - (k + 1)) rows)
wide_next r w rows k lt is so_far =
    let at : length rows - 1 - k ≡ length rows - (k + 1) = omega arith in
    let behind : length rows - (k + 1) + 1 ≡ length rows - k = omega arith in
    let there : length rows - (k + 1) < length rows = omega arith in
    let item : r ≡ get_or rows (length rows - (k + 1)) r = is ∙ ap (λ (i : ℕ). get_or rows i r) at in
    ap (wider r) (so_far ∙ ap (λ (i : ℕ). widths (drop i rows)) (sym behind))
    ∙ sym (one_more r (drop (length rows - (k + 1) + 1) rows))
    ∙ ap widths (sym (next_item r rows (length rows - (k + 1)) there item))
