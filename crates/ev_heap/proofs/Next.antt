-- The next line of those that are read.
use Rattle.std.proofs.Common.{◌≡◌, ◌∙◌, ◌<◌, get_or, zero, suc, ℕ, List, [], ◌∷◌, take, drop, length, arith, refl, ap, sym, subst}
use Rattle.ev_base.specs.declared.values.Value.{Value}
use Rattle.ev_heap.specs.declared.happened.Happened.{Happened as Event}
use Rattle.ev_heap.specs.declared.lines.Line.{Line}
use Rattle.ev_heap.specs.Told.{width, told, read, Fits, AllFit}

module _ (us : List (List ℕ)) (es : List Event) where
  pub read_end : (ls : List Line) (vs : List Value) → length ls ≡ 0 → read us es ls vs ≡ []
  unfolding read
  read_end [] vs e = refl
  read_end (l ∷ ls) vs e = absurd (omega arith)

  pub read_next : (ls ms : List Line) (l : Line) (vs own left : List Value) → ls ≡ l ∷ ms → own ≡ take (width l) vs → left ≡ drop (width l) vs
      → read us es ls vs ≡ told us es l own ∷ read us es ms left
  unfolding read
  read_next ls ms l vs own left e p q =
      ap (λ xs. read us es xs vs) e ∙ ap (λ xs. told us es l xs ∷ read us es ms (drop (width l) vs)) (sym p) ∙ ap (λ xs. told us es l own ∷ read us es ms xs) (sym q)

  pub fits_next : (ls ms : List Line) (l : Line) → ls ≡ l ∷ ms → AllFit us es ls → Fits us es l
  unfolding AllFit
  fits_next ls ms l e h = (subst (AllFit us es) e h).0

  pub fit_others : (ls ms : List Line) (l : Line) → ls ≡ l ∷ ms → AllFit us es ls → AllFit us es ms
  unfolding AllFit
  fit_others ls ms l e h = (subst (AllFit us es) e h).1

  pub fits_at : (ls : List Line) (i : ℕ) (l : Line) → i < length ls → l ≡ get_or ls i l → AllFit us es ls → Fits us es l
  unfolding AllFit
  fits_at [] i l lt e h = absurd (omega arith)
  fits_at (k ∷ ls) zero l lt e h = subst (Fits us es) (sym e) h.0
  fits_at (k ∷ ls) (suc i) l lt e h = fits_at ls i l (omega arith) e h.1
