-- What stands at a place of a list, and behind it.
use Rattle.std.proofs.Common.{◌≡◌, ℕ, zero, suc, List, [], ◌∷◌, Some, None, drop, refl}
use Rattle.std.specs.Prelude.{slice_get}

pub drop_none : {A : Type 0} (es : List A) (k : ℕ) → slice_get es k ≡ None → drop k es ≡ []
drop_none [] zero e = refl
drop_none [] (suc k) e = refl
drop_none (x ∷ es) zero e = absurd (cc)
drop_none (x ∷ es) (suc k) e = drop_none es k e

pub drop_some : {A : Type 0} (es : List A) (k : ℕ) (e : A) → slice_get es k ≡ Some e → drop k es ≡ e ∷ drop (suc k) es
drop_some [] zero e h = absurd (cc)
drop_some [] (suc k) e h = absurd (cc)
drop_some (x ∷ es) zero e h = let i : x ≡ e = cc in rw i refl
drop_some (x ∷ es) (suc k) e h = drop_some es k e h
