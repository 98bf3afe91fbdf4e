-- What pays for what is due.
use Rattle.std.proofs.Common.{◌≡◌, ◌∙◌, ◌⊎◌, inl, inr, ℕ, List, [], take, drop, Option, Some, None, IfSome, refl, sym, subst, append-nil}
use Rattle.std.specs.Io.KnownBytes.{Appends}
use Rattle.std.proofs.KnownBytes.{Appends-nil}
use Rattle.std.proofs.lemmas.List.{take-append-drop}
use Rattle.ev_io.specs.Words.{IsPrefix}
use Rattle.ev_see_top.specs.Due.{Debt}
use Rattle.ev_see_top.specs.Paying.{Ends, EndsBy, Finishes, IsCutShort, IsPaid, IsPlain, IsUnpaid, Pays}
use Rattle.ev_see_top.specs.declared.status.SeeStatus.{SeeStatus}
use Rattle.ev_see_top.specs.declared.status.SeeStatus.TheVariants.{ReadFault, WriteFault, Memory}

pub front : (n : ℕ) (text : List ℕ) → IsPrefix (take n text) text
front n text = (drop n text, sym (take-append-drop n text))

pub whole : (text : List ℕ) → IsPrefix text text
whole text = ([], sym (append-nil text))

pub nothing : (text : List ℕ) → IsPrefix [] text
nothing text = (text, refl)

-- what was written of an answer that is due
pub finished : (Due : List ℕ → Debt → Type 0) (left held held' told told' : Option (List ℕ)) (debt : Debt) (result : SeeStatus) → IfSome left (λ input. Due input debt)
    → Finishes debt held held' told told' result → IfSome left (λ input. Pays (Due input) held held' told told' result)
finished Due None held held' told told' debt result is finishes = tt
finished Due (Some input) held held' told told' debt result is (w, n, held_more, told_more, how) = (w, n, held_more, told_more, inl (debt, is, how))

-- nothing was written
pub unpaid : (Due : List ℕ → Debt → Type 0) (left held told : Option (List ℕ)) (result : SeeStatus) → (result ≡ ReadFault) ⊎ (result ≡ Memory)
    → IfSome left (λ input. Pays (Due input) held held told told result)
unpaid Due None held told result why = tt
unpaid Due (Some input) held told result why = ([], [], Appends-nil held, Appends-nil told, inr (why, refl, refl))

-- ---- causes

-- no fault of reading is told where an answer is written
pub never_read : (Cause Any : Type 0) (status result : SeeStatus) → IsPlain status → EndsBy Cause status result → result ≡ ReadFault → Any
never_read Cause Any status result plain (inl same) is = absurd (subst IsPlain (sym same ∙ is) plain)
never_read Cause Any status result plain (inr (wrote, why)) is = (let bad : WriteFault ≡ ReadFault = sym wrote ∙ is in absurd cc)

-- a fault of writing has its cause
pub why_write : (Cause : Type 0) (status result : SeeStatus) → IsPlain status → EndsBy Cause status result → result ≡ WriteFault → Cause
why_write Cause status result plain (inl same) is = absurd (subst IsPlain (sym same ∙ is) plain)
why_write Cause status result plain (inr (wrote, why)) is = why

-- the first text is written, and then the second
pub both : (debt : Debt) (piece : List ℕ) (held held' told told' : Option (List ℕ)) (result : SeeStatus) → Appends held held' piece → piece ≡ debt.out
    → Ends debt.status debt.err told told' result → Finishes debt held held' told told' result
both debt piece held held' told told' result appends same (n, more, inl (is, all)) = (piece, n, appends, more, inl (is, same, all))
both debt piece held held' told told' result appends same (n, more, inr (is, part)) =
    (piece, n, appends, more, inr (is, subst (λ (t : List ℕ). IsPrefix piece t) same (whole piece), part))

-- a front of the first text is written
pub cut_short : (debt : Debt) (piece : List ℕ) (k : ℕ) (held held' told : Option (List ℕ)) → Appends held held' (take k piece) → piece ≡ debt.out
    → Finishes debt held held' told told WriteFault
cut_short debt piece k held held' told appends same =
    (take k piece, [], appends, Appends-nil told, inr (refl, subst (λ (t : List ℕ). IsPrefix (take k piece) t) same (front k piece), nothing debt.err))

-- the cause at the second sink is one at either
pub of_second : (First Second : Type 0) (status result : SeeStatus) → EndsBy Second status result → EndsBy (First ⊎ Second) status result
of_second First Second status result (inl same) = inl same
of_second First Second status result (inr (wrote, why)) = inr (wrote, inr why)
