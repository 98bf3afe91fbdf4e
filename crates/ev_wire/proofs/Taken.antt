-- What a frame brought is taken in one after the other, as a loop does it.
use Rattle.std.proofs.Common.{◌≡◌, ℕ, zero, suc, ◌+◌, ◌<◌, ◌≤◌, List, [], ◌∷◌, ◌++◌, length, drop, get_or, slice_get, refl, sym, ap, ◌∙◌, append_assoc, append-nil, arith}
use Rattle.std.proofs.lemmas.List.{drop_all, drop_more}
use Rattle.ev_base.specs.declared.values.Value.{Value}
use Rattle.ev_heap.specs.Contents.{Contents}
use Rattle.ev_tables.specs.Table.{Table, imported}
use Rattle.ev_wire.specs.Learnt.{LearntGifts, put_all, put_some}
use Rattle.ev_wire.specs.Taking.{imported_all}

first : {X : Type 0} (xs : List X) (k : ℕ) (x : X) → k < length xs → x ≡ get_or xs k x → drop k xs ≡ x ∷ drop (k + 1) xs
first xs k x lt is = drop_more xs k x lt ∙ ap (λ z. z ∷ drop (k + 1) xs) (sym is)

pub imports_on : (vs : List Value) (k : ℕ) (v : Value) (t u w : Table) → k < length vs → v ≡ get_or vs k v → u ≡ imported v t → imported_all (drop k vs) t ≡ w → imported_all (drop (k + 1) vs) u ≡ w
unfolding imported_all
imports_on vs k v t u w lt at is so_far = ap (imported_all (drop (k + 1) vs)) is ∙ ap (λ (us : List Value). imported_all us t) (sym (first vs k v lt at)) ∙ so_far

pub imports_done : (vs : List Value) (k : ℕ) (t w : Table) → length vs ≤ k → imported_all (drop k vs) t ≡ w → t ≡ w
unfolding imported_all
imports_done vs k t w le so_far = ap (λ (us : List Value). imported_all us t) (sym (drop_all k vs le)) ∙ so_far

-- ---- texts

abbrev pub with_texts : Contents → List (List ℕ) → Contents
with_texts h ts = record h { texts = h.texts ++ ts }

texts_on : (ts : List (List ℕ)) (k : ℕ) (x : List ℕ) (h g w : Contents) → k < length ts → x ≡ get_or ts k x → g ≡ with_texts h (x ∷ []) → with_texts h (drop k ts) ≡ w → with_texts g (drop (k + 1) ts) ≡ w
texts_on ts k x h g w lt at is so_far =
    ap (λ (c : Contents). with_texts c (drop (k + 1) ts)) is ∙ ap (λ (xs : List (List ℕ)). record h { texts = xs }) (append_assoc h.texts (x ∷ []) (drop (k + 1) ts))
    ∙ ap (with_texts h) (sym (first ts k x lt at)) ∙ so_far

texts_done : (ts : List (List ℕ)) (k : ℕ) (h w : Contents) → length ts ≤ k → with_texts h (drop k ts) ≡ w → h ≡ w
texts_done ts k h w le so_far = ap (λ (xs : List (List ℕ)). record h { texts = xs }) (sym (append-nil h.texts)) ∙ ap (with_texts h) (sym (drop_all k ts le)) ∙ so_far

-- ---- gifts

at_drop : (gs : LearntGifts) (k : ℕ) (hs : LearntGifts) → k < length gs → put_all (drop (suc k) gs) (put_some (slice_get gs k) hs) ≡ put_all (drop k gs) hs
at_drop [] k hs lt = absurd (omega arith)
at_drop (g ∷ gs) zero hs lt = refl
at_drop (g ∷ gs) (suc k) hs lt = at_drop gs k hs (omega arith)

pub gifts_on : (gs : LearntGifts) (k : ℕ) (hs js w : LearntGifts) → k < length gs → js ≡ put_some (slice_get gs k) hs → put_all (drop k gs) hs ≡ w → put_all (drop (k + 1) gs) js ≡ w
gifts_on gs k hs js w lt is so_far =
    let e : k + 1 ≡ suc k = omega arith in
    ap (put_all (drop (k + 1) gs)) is ∙ ap (λ (m : ℕ). put_all (drop m gs) (put_some (slice_get gs k) hs)) e ∙ at_drop gs k hs lt ∙ so_far

pub gifts_done : (gs : LearntGifts) (k : ℕ) (hs w : LearntGifts) → length gs ≤ k → put_all (drop k gs) hs ≡ w → hs ≡ w
gifts_done gs k hs w le so_far = ap (λ (js : LearntGifts). put_all js hs) (sym (drop_all k gs le)) ∙ so_far
