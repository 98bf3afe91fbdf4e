-- What pays for what is due.
use Rattle.std.proofs.Common.{◌≡◌, ◌⊎◌, inl, inr, ℕ, List, [], take, drop, Option, Some, None, IfSome, refl, sym, subst, append-nil}
use Rattle.std.specs.Io.KnownBytes.{Appends}
use Rattle.std.proofs.KnownBytes.{Appends-nil}
use Rattle.std.proofs.lemmas.List.{take-append-drop}
use Rattle.ev_io.specs.Words.{IsPrefix}
use Rattle.ev_make_top.specs.Due.{Debt}
use Rattle.ev_make_top.specs.Paying.{Ends, Finishes, IsCutShort, IsPaid, IsUnpaid, Pays}
use Rattle.ev_make_top.specs.declared.status.MakeStatus.{MakeStatus}
use Rattle.ev_make_top.specs.declared.status.MakeStatus.TheVariants.{ReadFault, WriteFault, Memory}

pub front : (n : ℕ) (text : List ℕ) → IsPrefix (take n text) text
front n text = (drop n text, sym (take-append-drop n text))

pub whole : (text : List ℕ) → IsPrefix text text
whole text = ([], sym (append-nil text))

pub nothing : (text : List ℕ) → IsPrefix [] text
nothing text = (text, refl)

ended : (debt : Debt) (result : MakeStatus) (w n : List ℕ) → IsPaid debt result w n ⊎ IsCutShort debt result w n → IsPaid debt result w n ⊎ (IsCutShort debt result w n ⊎ IsUnpaid result w n)
ended debt result w n (inl paid) = inl paid
ended debt result w n (inr cut) = inr (inl cut)

-- what was written of an answer that is due
pub finished : (Due : List ℕ → Debt) (left held held' told told' : Option (List ℕ)) (debt : Debt) (result : MakeStatus) → IfSome left (λ input. debt ≡ Due input)
    → Finishes debt held held' told told' result → IfSome left (λ input. Pays (Due input) held held' told told' result)
finished Due None held held' told told' debt result is finishes = tt
finished Due (Some input) held held' told told' debt result is (w, n, held_more, told_more, how) =
    subst (λ (d : Debt). Pays d held held' told told' result) is (w, n, held_more, told_more, ended debt result w n how)

-- nothing was written
pub unpaid : (Due : List ℕ → Debt) (left held told : Option (List ℕ)) (result : MakeStatus) → (result ≡ ReadFault) ⊎ (result ≡ Memory) → IfSome left (λ input. Pays (Due input) held held told told result)
unpaid Due None held told result why = tt
unpaid Due (Some input) held told result why = ([], [], Appends-nil held, Appends-nil told, inr (inr (why, refl, refl)))

-- the first text is written, and then the second
pub both : (debt : Debt) (piece : List ℕ) (held held' told told' : Option (List ℕ)) (result : MakeStatus) → Appends held held' piece → piece ≡ debt.out
    → Ends debt.status debt.err told told' result → Finishes debt held held' told told' result
both debt piece held held' told told' result appends same (n, more, inl (is, all)) = (piece, n, appends, more, inl (is, same, all))
both debt piece held held' told told' result appends same (n, more, inr (is, part)) =
    (piece, n, appends, more, inr (is, subst (λ (t : List ℕ). IsPrefix piece t) same (whole piece), part))

-- a front of the first text is written
pub cut_short : (debt : Debt) (piece : List ℕ) (k : ℕ) (held held' told : Option (List ℕ)) → Appends held held' (take k piece) → piece ≡ debt.out
    → Finishes debt held held' told told WriteFault
cut_short debt piece k held held' told appends same =
    (take k piece, [], appends, Appends-nil told, inr (refl, subst (λ (t : List ℕ). IsPrefix (take k piece) t) same (front k piece), nothing debt.err))
