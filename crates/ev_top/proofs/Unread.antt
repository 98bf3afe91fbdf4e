-- A command that reads nothing.
use Rattle.std.proofs.Common.{◌≡◌, ℕ, List, [], false, Option, Some, None, IfSome, arith}
use Rattle.std.proofs.KnownBytes.{Consumes-nil}
use Rattle.ev_top.specs.Commands.{reads}
use Rattle.ev_io.specs.Paying.{IsOfRead, IsOfWhole}
use Rattle.ev_io.specs.Paying.{Reads}
use Rattle.ev_top.specs.Due.{IsDue}
use Rattle.ev_top.specs.declared.command.Command.{Command}
use Rattle.ev_top.specs.declared.command.Command.TheVariants.{Run, Expand, Generate, Sum, Sturdy, Mint, Check}
use Rattle.ev_io.specs.declared.status.Status.{Status}
use Rattle.ev_io.specs.declared.status.Status.TheVariants.{Done, Usage, ReadFault, WriteFault, TooLong, ScriptRefused, ProgramRefused, FuelSpent, TooDeep, WordRepeated, Memory}

-- what holds of every input holds of what a source has left
pub for_all : (left : Option (List ℕ)) (P : List ℕ → Type 0) → ((input : List ℕ) → P input) → IfSome left P
for_all None P h = tt
for_all (Some input) P h = h input

pub nothing_read : (left : Option (List ℕ)) (status : Status) → IsOfWhole status → Reads left left status
nothing_read left Done whole = ([], Consumes-nil left, omega arith)
nothing_read left Usage whole = absurd whole
nothing_read left ReadFault whole = absurd whole
nothing_read left WriteFault whole = absurd whole
nothing_read left TooLong whole = absurd whole
nothing_read left (ScriptRefused r) whole = ([], Consumes-nil left, omega arith)
nothing_read left (ProgramRefused r) whole = ([], Consumes-nil left, omega arith)
nothing_read left (FuelSpent step) whole = ([], Consumes-nil left, omega arith)
nothing_read left (TooDeep step) whole = ([], Consumes-nil left, omega arith)
nothing_read left (WordRepeated first second) whole = ([], Consumes-nil left, omega arith)
nothing_read left Memory whole = absurd whole

pub nothing_taken : (left : Option (List ℕ)) → Reads left left Memory
nothing_taken left = ([], Consumes-nil left, omega arith)

-- an answer that depends on the whole input comes behind a beginning of it
pub whole_of_read : (status : Status) → IsOfWhole status → IsOfRead status
whole_of_read Done whole = tt
whole_of_read Usage whole = absurd whole
whole_of_read ReadFault whole = absurd whole
whole_of_read WriteFault whole = absurd whole
whole_of_read TooLong whole = tt
whole_of_read (ScriptRefused r) whole = tt
whole_of_read (ProgramRefused r) whole = tt
whole_of_read (FuelSpent step) whole = tt
whole_of_read (TooDeep step) whole = tt
whole_of_read (WordRepeated first second) whole = tt
whole_of_read Memory whole = absurd whole

-- what is due for a command that does not read is due for every input
pub due_whatever : (command : Command) (input other : List ℕ) (status : Status) (text : List ℕ) → reads command ≡ false → IsDue (Some command) input status text
    → IsDue (Some command) other status text
due_whatever (Generate n) input other status text unread due = due
due_whatever (Sum n) input other status text unread due = due
due_whatever (Run wire) input other status text unread due = absurd cc
due_whatever Expand input other status text unread due = absurd cc
due_whatever Sturdy input other status text unread due = absurd cc
due_whatever Mint input other status text unread due = absurd cc
due_whatever Check input other status text unread due = absurd cc
