-- What is due by how many bytes there are.
use Rattle.std.proofs.Common.{◌≡◌, ◌∙◌, ◌<◌, ◌≤◌, ℕ, List, length, sym, ap, cond, Option, IfSome, Err}
use Rattle.ev_io.specs.Ends.{Takes}
use Rattle.ev_io.specs.declared.read.ReadEnd.TheVariants.{TooLong as TooMany}
use Rattle.ev_make_top.specs.declared.answer.Answer.{Answer}
use Rattle.ev_make_top.specs.Due.{IsFor, script_asked, script_due, too_long, most_bytes}
use Rattle.ev_make_top.proofs.ReadLemmas.{is_few, is_long, too_many}

pub few_asked : (input : List ℕ) → length input ≤ most_bytes → script_asked input ≡ script_due input
few_asked input few = ap (λ b. cond b too_long (script_due input)) (is_few most_bytes (length input) few)

pub long_asked : (input : List ℕ) → most_bytes < length input → script_asked input ≡ too_long
long_asked input long = ap (λ b. cond b too_long (script_due input)) (is_long most_bytes (length input) long)

-- one byte more than the most was read
pub read_long : (left left' : Option (List ℕ)) (answer : Answer) → Takes most_bytes left left' (Err TooMany) → IsFor answer too_long → IfSome left (λ input. IsFor answer (script_asked input))
read_long left left' answer takes is = too_many (λ input. IsFor answer (script_asked input)) most_bytes left left' takes (λ input long. is ∙ sym (long_asked input long))
