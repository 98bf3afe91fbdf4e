-- What is told of the frames that are left.
use Rattle.std.proofs.Common.{◌≡◌, ℕ, suc, List, [], ◌∷◌, ◌++◌, drop, length, refl, sym, ap, ◌∙◌, arith}
use Rattle.std.proofs.lemmas.List.{append_assoc, append-nil}
use Rattle.def_event.specs.declared.event.Event.{Event}
use Rattle.def_event.specs.declared.event.Event.TheVariants as event
use Rattle.def_event.specs.declared.raw.RawLine.TheVariants as raw
use Rattle.ev_injected.specs.Telling.{left_frames}

-- one is told, and the others will be
pub left_next : (v w : ℕ) (h g : List Event) (x : List ℕ) (xs fs : List (List ℕ)) → fs ≡ x ∷ xs → g ≡ h ++ event.Raw (raw.LeftBytes v w x) ∷ [] → g ++ left_frames v w xs ≡ h ++ left_frames v w fs
unfolding left_frames
left_next v w h g x xs fs e i = ap (λ (es : List Event). es ++ left_frames v w xs) i ∙ (append_assoc h (event.Raw (raw.LeftBytes v w x) ∷ []) (left_frames v w xs) ∙ ap (λ (ys : List (List ℕ)). h ++ left_frames v w ys) (sym e))

pub left_all : (v w : ℕ) (h g : List Event) (fs : List (List ℕ)) → fs ≡ [] → h ++ left_frames v w fs ≡ g → h ≡ g
unfolding left_frames
left_all v w h g fs e i = sym (append-nil h) ∙ (ap (λ (ys : List (List ℕ)). h ++ left_frames v w ys) (sym e) ∙ i)

-- a list that is no shorter without its first is empty
pub shrunk : (fs : List (List ℕ)) → fs ≡ drop 1 fs → fs ≡ []
shrunk [] e = refl
shrunk (x ∷ fs) e = let i : suc (length fs) ≡ length fs = ap (λ (ys : List (List ℕ)). length ys) e in absurd (omega arith)
