-- The notes of a link that have arrived are the first of those that were put.
use Rattle.std.proofs.Common.{◌≡◌, ℕ, zero, suc, ◌-◌, List, [], ◌∷◌, ◌++◌, Some, refl, ap, length, arith}
use Rattle.std.proofs.lemmas.List.{length-append}
use Rattle.def_machine.specs.Values.{Name}
use Rattle.def_machine.specs.State.{Note}
use Rattle.def_machine.specs.Native.{part_of}
use Rattle.def_run.specs.World.{Link}
use Rattle.law_reference.specs.Reference.Logs as wire
use Rattle.law_frame.specs.Frame.Tables.{waiting_on, arrived}

front_part : {A : Type 0} (front rest : List A) (n : ℕ) → n ≡ length front → part_of zero n (front ++ rest) ≡ front
unfolding part_of
front_part [] [] n e = refl
front_part [] (x ∷ rest) zero e = refl
front_part [] (x ∷ rest) (suc n) e = absurd (omega arith)
front_part (x ∷ front) rest zero e = absurd (omega arith)
front_part (x ∷ front) rest (suc n) e = ap (λ xs. x ∷ xs) (front_part front rest n (omega arith))

pub arrived_is : (l : Link) (front : List (Note Name)) → l.log ≡ front ++ l.notes → arrived (Some l) ≡ front
unfolding arrived waiting_on wire.log_of
arrived_is l front e = rw e (front_part front l.notes (length (front ++ l.notes) - length l.notes) (let f = length-append front l.notes in omega arith))
