-- What is told of frames, one after the other.
use Rattle.std.proofs.Common.{◌≡◌, ℕ, ◌+◌, suc, List, [], ◌∷◌, ◌++◌, refl, sym, ap, ◌∙◌, drop, length, map, arith}
use Rattle.std.proofs.lemmas.List.{append_assoc, append-nil}
use Rattle.def_event.specs.declared.event.Event.{Event}
use Rattle.def_event.specs.declared.event.Event.TheVariants.{LeftLink}
use Rattle.ev_ways.specs.declared.frame.Label.{Label}
use Rattle.ev_ways.specs.Labels.{label_of}
use Rattle.ev_ways.specs.Rows.{Lane}
use Rattle.ev_ways.specs.Telling.{left_frames, left_labels, left_row, left_rows, lost_event, lost_labels}

pub lost_next : (h g : List Event) (k : Label) (ks js : List Label) → js ≡ k ∷ ks → g ≡ h ++ lost_event k.message → g ++ lost_labels ks ≡ h ++ lost_labels js
unfolding lost_labels
lost_next h g k ks js e i = ap (λ (es : List Event). es ++ lost_labels ks) i ∙ (append_assoc h (lost_event k.message) (lost_labels ks) ∙ ap (λ (xs : List Label). h ++ lost_labels xs) (sym e))

pub lost_all : (h g : List Event) (ks : List Label) → ks ≡ [] → h ++ lost_labels ks ≡ g → h ≡ g
unfolding lost_labels
lost_all h g ks e i = sym (append-nil h) ∙ (ap (λ (xs : List Label). h ++ lost_labels xs) (sym e) ∙ i)

pub left_next : (v u : ℕ) (h g : List Event) (k : Label) (ks js : List Label) → js ≡ k ∷ ks → g ≡ h ++ LeftLink v u k.note ∷ [] → g ++ left_labels v u ks ≡ h ++ left_labels v u js
unfolding left_labels
left_next v u h g k ks js e i = ap (λ (es : List Event). es ++ left_labels v u ks) i ∙ (append_assoc h (LeftLink v u k.note ∷ []) (left_labels v u ks) ∙ ap (λ (xs : List Label). h ++ left_labels v u xs) (sym e))

pub left_all : (v u : ℕ) (h g : List Event) (ks : List Label) → ks ≡ [] → h ++ left_labels v u ks ≡ g → h ≡ g
unfolding left_labels
left_all v u h g ks e i = sym (append-nil h) ∙ (ap (λ (xs : List Label). h ++ left_labels v u xs) (sym e) ∙ i)

-- a list that is no shorter without its first is empty
pub shrunk : (ks : List Label) → ks ≡ drop 1 ks → ks ≡ []
shrunk [] e = refl
shrunk (k ∷ ks) e = let i : suc (length ks) ≡ length ks = ap (λ (xs : List Label). length xs) e in absurd (omega arith)

-- ---- one more way, and one more row

row_behind : (v u : ℕ) (xs : List Lane) (l : Lane) → left_row v u (xs ++ l ∷ []) ≡ left_row v u xs ++ left_frames v (u + length xs) l.frames
unfolding left_row
row_behind v u [] l = append-nil (left_frames v u l.frames) ∙ ap (λ (w : ℕ). left_frames v w l.frames) (let e : u ≡ u + 0 = omega arith in e)
row_behind v u (x ∷ xs) l =
    ap (λ (es : List Event). left_frames v u x.frames ++ es) (row_behind v (suc u) xs l ∙ ap (λ (w : ℕ). left_row v (suc u) xs ++ left_frames v w l.frames) (let e : suc u + length xs ≡ u + suc (length xs) = omega arith in e))
    ∙ sym (append_assoc (left_frames v u x.frames) (left_row v (suc u) xs) (left_frames v (u + suc (length xs)) l.frames))

pub row_grown : (v k : ℕ) (h g a : List Event) (xs : List Lane) (l : Lane) (ls : List Label) → k ≡ length xs → h ≡ a ++ left_row v 0 xs → ls ≡ map label_of l.frames → g ≡ h ++ left_labels v k ls → g ≡ a ++ left_row v 0 (xs ++ l ∷ [])
unfolding left_frames
row_grown v k h g a xs l ls e i j m =
    m ∙ (ap (λ (es : List Event). es ++ left_labels v k ls) i
    ∙ (append_assoc a (left_row v 0 xs) (left_labels v k ls)
    ∙ ap (λ (es : List Event). a ++ es) (ap (λ (js : List Label). left_row v 0 xs ++ left_labels v k js) j ∙ (ap (λ (w : ℕ). left_row v 0 xs ++ left_frames v w l.frames) (let n : k ≡ 0 + length xs = omega arith in n) ∙ sym (row_behind v 0 xs l)))))

rows_behind : (v : ℕ) (rs : List (List Lane)) (r : List Lane) → left_rows v (rs ++ r ∷ []) ≡ left_rows v rs ++ left_row (v + length rs) 0 r
unfolding left_rows
rows_behind v [] r = append-nil (left_row v 0 r) ∙ ap (λ (w : ℕ). left_row w 0 r) (let e : v ≡ v + 0 = omega arith in e)
rows_behind v (x ∷ rs) r =
    ap (λ (es : List Event). left_row v 0 x ++ es) (rows_behind (suc v) rs r ∙ ap (λ (w : ℕ). left_rows (suc v) rs ++ left_row w 0 r) (let e : suc v + length rs ≡ v + suc (length rs) = omega arith in e))
    ∙ sym (append_assoc (left_row v 0 x) (left_rows (suc v) rs) (left_row (v + suc (length rs)) 0 r))

pub rows_grown : (k : ℕ) (h g a : List Event) (rs : List (List Lane)) (r : List Lane) → k ≡ length rs → h ≡ a ++ left_rows 0 rs → g ≡ h ++ left_row k 0 r → g ≡ a ++ left_rows 0 (rs ++ r ∷ [])
rows_grown k h g a rs r e i m =
    m ∙ (ap (λ (es : List Event). es ++ left_row k 0 r) i
    ∙ (append_assoc a (left_rows 0 rs) (left_row k 0 r)
    ∙ ap (λ (es : List Event). a ++ es) (ap (λ (w : ℕ). left_rows 0 rs ++ left_row w 0 r) (let n : k ≡ 0 + length rs = omega arith in n) ∙ sym (rows_behind 0 rs r))))

pub row_none : (v : ℕ) (a : List Event) → a ≡ a ++ left_row v 0 []
unfolding left_row
row_none v a = sym (append-nil a)

pub rows_none : (a : List Event) → a ≡ a ++ left_rows 0 []
unfolding left_rows
rows_none a = sym (append-nil a)
