-- What passes in a note, one after the other, as a loop shows it.
use Rattle.std.proofs.Common.{◌≡◌, ◌+◌, ◌<◌, ◌≤◌, ℕ, List, [], ◌∷◌, ◌++◌, length, map, drop, get_or, refl, sym, ap, ◌∙◌, append_assoc, append-nil}
use Rattle.std.proofs.lemmas.List.{drop_all, drop_more}
use Rattle.def_event.specs.declared.shown.Shown.{Shown}
use Rattle.ev_pass.specs.Notes.{all_parcels, parcel}
use Rattle.ev_pass.specs.declared.note.Passed.{Passed}
use Rattle.ev_resident.specs.Noting.{Noting, shown_parcel, shown_parcels}

-- each as it is shown
abbrev pub each_shown : Noting → List Passed → List Shown
each_shown n ps = map (λ (p : Passed). shown_parcel n (parcel p)) ps

as_parcels : (n : Noting) (ps : List Passed) → each_shown n ps ≡ shown_parcels n (all_parcels ps)
unfolding shown_parcels
as_parcels n [] = refl
as_parcels n (p ∷ ps) = ap (λ (xs : List Shown). shown_parcel n (parcel p) ∷ xs) (as_parcels n ps)

pub goes_on : (n : Noting) (front after : List Shown) (ps : List Passed) (k : ℕ) (p : Passed) (x : Shown) (total : List Shown) → k < length ps → p ≡ get_or ps k p
    → x ≡ shown_parcel n (parcel p) → after ≡ front ++ x ∷ [] → front ++ each_shown n (drop k ps) ≡ total → after ++ each_shown n (drop (k + 1) ps) ≡ total
goes_on n front after ps k p x total lt at is grown so_far =
    ap (λ (xs : List Shown). xs ++ each_shown n (drop (k + 1) ps)) grown
    ∙ append_assoc front (x ∷ []) (each_shown n (drop (k + 1) ps))
    ∙ ap (λ (y : Shown). front ++ y ∷ each_shown n (drop (k + 1) ps)) is
    ∙ ap (λ (q : Passed). front ++ shown_parcel n (parcel q) ∷ each_shown n (drop (k + 1) ps)) at
    ∙ ap (λ (qs : List Passed). front ++ each_shown n qs) (sym (drop_more ps k p lt))
    ∙ so_far

pub is_done : (n : Noting) (front : List Shown) (ps : List Passed) (k : ℕ) → length ps ≤ k → front ++ each_shown n (drop k ps) ≡ each_shown n ps → front ≡ shown_parcels n (all_parcels ps)
is_done n front ps k le so_far =
    sym (append-nil front)
    ∙ ap (λ (qs : List Passed). front ++ each_shown n qs) (sym (drop_all k ps le))
    ∙ so_far
    ∙ as_parcels n ps
