-- What the calls keep is what counting tells of the past, and what is shown was registered.
use Rattle.std.proofs.Common.{◌≡◌, ℕ, suc, length, List, [], ◌∷◌, ◌++◌, refl, ap, ◌∙◌}
use Rattle.ev_sturdy.specs.declared.sturdy.Side.TheVariants.{Host, Guest}
use Rattle.ev_sturdy.specs.Kept.{generation}
use Rattle.ev_sturdy.specs.Past.{Deed, Registered, Connected, Shown, Cut, Noticed, Past, kept, after, connections, shown_before, first_shown, since, IsKeptByDeeds}

pub step : (deed : Deed) (past : Past) → kept (deed ∷ past) ≡ after deed (kept past)
step (Registered swiss object) past = refl
step Connected past = refl
step (Shown object) past = refl
step Cut past = refl
step (Noticed Host) past = refl
step (Noticed Guest) past = refl

one_more : (ns : List ℕ) (n : ℕ) → length (ns ++ n ∷ []) ≡ suc (length ns)
one_more [] n = refl
one_more (m ∷ ns) n = ap suc (one_more ns n)

counted : (past : Past) → generation (kept past) ≡ connections past
counted [] = refl
counted (Registered swiss object ∷ past) = counted past
counted (Connected ∷ past) = one_more (shown_before past) (length (first_shown (since past))) ∙ ap suc (counted past)
counted (Shown object ∷ past) = counted past
counted (Cut ∷ past) = counted past
counted (Noticed side ∷ past) = counted past

pub is_kept : IsKeptByDeeds
is_kept = (refl, counted, step)
