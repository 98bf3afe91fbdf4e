-- What holds of the bytes that were read to their end holds of all that the source had.
use Rattle.std.proofs.Common.{◌≡◌, ◌<◌, ◌≤◌, ℕ, ◌+◌, nat_lt, length, length-append, List, [], ◌++◌, append-nil, ap, ◌∙◌, true, false, Option, Some, None, IfSome, Ok, Err, sym, subst, arith}
use Rattle.std.specs.Io.KnownBytes.{IsAtEnd}
use Rattle.std.proofs.lemmas.Bool.Decides.{nat_tests}
use Rattle.ev_io.specs.Ends.{Takes}
use Rattle.ev_io.specs.declared.read.ReadEnd.TheVariants.{TooLong as TooMany}

pub is_few : (most n : ℕ) → n ≤ most → nat_lt most n ≡ false
is_few most n few = grind (arith, nat_tests)

pub is_long : (most n : ℕ) → most < n → nat_lt most n ≡ true
is_long most n long = grind (arith, nat_tests)

pub whole_read : (P : List ℕ → Type 0) (most : ℕ) (left left' : Option (List ℕ)) (bytes : List ℕ) → Takes most left left' (Ok bytes) → IsAtEnd left'
    → (length bytes ≤ most → P bytes) → IfSome left P
whole_read P most None left' bytes takes end holds = tt
whole_read P most (Some input) None bytes takes end holds = absurd takes.1
whole_read P most (Some input) (Some rest) bytes takes end holds =
    let all : input ≡ takes.0 ++ rest = takes.1 in
    let none : rest ≡ [] = end in
    let same : bytes ≡ takes.0 = takes.2.0 in
    let whole : bytes ≡ input = same ∙ sym (all ∙ ap (λ r. takes.0 ++ r) none ∙ append-nil takes.0) in
    let few : length bytes ≤ most = subst (λ (t : List ℕ). length t ≤ most) (sym same) takes.2.1 in
    subst P whole (holds few)

pub too_many : (P : List ℕ → Type 0) (most : ℕ) (left left' : Option (List ℕ)) → Takes most left left' (Err TooMany)
    → ((input : List ℕ) → most < length input → P input) → IfSome left P
too_many P most None left' takes holds = tt
too_many P most (Some input) None takes holds = absurd takes.1
too_many P most (Some input) (Some rest) takes holds =
    let all : input ≡ takes.0 ++ rest = takes.1 in
    let count : length input ≡ length takes.0 + length rest = ap length all ∙ length-append takes.0 rest in
    let more : length takes.0 ≡ most + 1 = takes.2 in
    holds input (omega (arith, count, more))
