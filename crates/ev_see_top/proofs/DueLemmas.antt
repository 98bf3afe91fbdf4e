-- What is due by how many bytes there are.
use Rattle.std.proofs.Common.{◌≡◌, ◌∙◌, ◌<◌, ◌≤◌, ℕ, Bool, List, length, sym, ap, subst, cond, Option, IfSome, Err}
use Rattle.ev_io.specs.Ends.{Takes}
use Rattle.ev_io.specs.declared.read.ReadEnd.TheVariants.{TooLong as TooMany}
use Rattle.ev_see_top.specs.declared.answer.Answer.{Answer}
use Rattle.ev_see_top.specs.Due.{Debt, IsFor, IsWhy, IsWhyAsked, IsWhyCounted, debt_of, told_asked, told_due, too_long, most_bytes}
use Rattle.ev_see_top.proofs.ReadLemmas.{is_few, is_long, too_many}

pub few_asked : (drawn : Bool) (input : List ℕ) → length input ≤ most_bytes → told_asked drawn input ≡ told_due drawn input
few_asked drawn input few = ap (λ b. cond b too_long (told_due drawn input)) (is_few most_bytes (length input) few)

pub long_asked : (drawn : Bool) (input : List ℕ) → most_bytes < length input → told_asked drawn input ≡ too_long
long_asked drawn input long = ap (λ b. cond b too_long (told_due drawn input)) (is_long most_bytes (length input) long)

-- one byte more than the most was read
pub read_long : (left left' : Option (List ℕ)) (drawn : Bool) (answer : Answer) → Takes most_bytes left left' (Err TooMany) → IsFor answer too_long → IfSome left (λ input. IsFor answer (told_asked drawn input))
read_long left left' drawn answer takes is = too_many (λ input. IsFor answer (told_asked drawn input)) most_bytes left left' takes (λ input long. is ∙ sym (long_asked drawn input long))

-- and so where it is asked why

pub why_few : (strict : Bool) (input : List ℕ) (debt : Debt) → length input ≤ most_bytes → IsWhy strict input debt → IsWhyAsked strict input debt
why_few strict input debt few due = subst (λ (b : Bool). IsWhyCounted b strict input debt) (sym (is_few most_bytes (length input) few)) due

pub why_long : (left left' : Option (List ℕ)) (strict : Bool) (answer : Answer) → Takes most_bytes left left' (Err TooMany) → IsFor answer too_long
    → IfSome left (λ input. IsWhyAsked strict input (debt_of answer))
why_long left left' strict answer takes is =
    too_many (λ input. IsWhyAsked strict input (debt_of answer)) most_bytes left left' takes
    (λ input long. subst (λ (b : Bool). IsWhyCounted b strict input (debt_of answer)) (sym (is_long most_bytes (length input) long)) is)
