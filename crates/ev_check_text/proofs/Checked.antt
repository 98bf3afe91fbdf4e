-- What is due for the text of a run needs all of its bytes, and is due by how many there are.
use Rattle.std.proofs.Common.{◌≡◌, ◌<◌, ◌≤◌, ℕ, length, List, Bool, Option, IfSome, Result, Ok, Err, sym, subst}
use Rattle.std.specs.Io.KnownBytes.{IsAtEnd}
use Rattle.ev_io.specs.Ends.{Takes}
use Rattle.ev_io.specs.declared.read.ReadEnd.TheVariants.{TooLong as TooMany}
use Rattle.def_event.specs.declared.trace.Trace.{Trace}
use Rattle.ev_check_text.specs.Due.{IsDueOfBytes, IsDueOfInput, IsDueOfTrace}
use Rattle.ev_io.specs.Debt.{IsFor, most_bytes, too_long}
use Rattle.ev_io.specs.Paying.{IsDueOfCounted, IsOfWhole, Pays}
use Rattle.ev_io.specs.declared.status.Status.{Status}
use Rattle.ev_io.specs.declared.status.Status.TheVariants.{Memory, ReadFault}
use Rattle.ev_io.proofs.PayLemmas.{due_read, due_unread, is_few, is_long, memory_left, read_fault_left}
use Rattle.ev_trace.specs.Reading.{read as trace_from}

pub of_trace : (found : Result Trace ℕ) (status : Status) (text : List ℕ) → IsDueOfTrace found status text → IsOfWhole status
of_trace (Ok trace) status text due = subst IsOfWhole (sym due.0) tt
of_trace (Err rule) status text due = subst IsOfWhole (sym due.0) tt

-- whatever bytes they are
pub of_bytes : (input : List ℕ) (status : Status) (text : List ℕ) → IsDueOfBytes input status text → IsOfWhole status
of_bytes input status text due = of_trace (trace_from input) status text due

few : (input : List ℕ) (status : Status) (text : List ℕ) → length input ≤ most_bytes → IsDueOfBytes input status text → IsDueOfInput input status text
few input status text most due = subst (λ (b : Bool). IsDueOfCounted b IsDueOfBytes input status text) (sym (is_few most_bytes (length input) most)) due

long : (input : List ℕ) (status : Status) (text : List ℕ) → most_bytes < length input → IsFor status text too_long → IsDueOfInput input status text
long input status text more due = subst (λ (b : Bool). IsDueOfCounted b IsDueOfBytes input status text) (sym (is_long most_bytes (length input) more)) due

-- what is due for the bytes that were read to their end is due for all that the source had
pub read_few : (left left' : Option (List ℕ)) (bytes : List ℕ) (status : Status) (text : List ℕ) → Takes most_bytes left left' (Ok bytes) → IsAtEnd left'
    → IsDueOfBytes bytes status text → IfSome left (λ input. IsDueOfInput input status text)
read_few left left' bytes status text takes end due =
    let most = subst (λ (taken : List ℕ). length taken ≤ most_bytes) (sym takes.2.0) takes.2.1 in
    due_read IsDueOfInput left left' bytes status text takes end (few bytes status text most due)

-- and so for one byte more than the most
pub read_long : (left left' : Option (List ℕ)) (status : Status) (text : List ℕ) → Takes most_bytes left left' (Err TooMany) → IsFor status text too_long
    → IfSome left (λ input. IsDueOfInput input status text)
read_long left left' status text takes due = due_unread IsDueOfInput left left' status text takes (λ input more. long input status text more due)

-- want of memory or a fault of reading before anything is written
pub pays_memory : (left held : Option (List ℕ)) → IfSome left (λ input. Pays (Unit {0}) (IsDueOfInput input) held held Memory)
pays_memory left held = memory_left (Unit {0}) IsDueOfInput left held tt

pub pays_read_fault : (left held : Option (List ℕ)) → IfSome left (λ input. Pays (Unit {0}) (IsDueOfInput input) held held ReadFault)
pays_read_fault left held = read_fault_left (Unit {0}) IsDueOfInput left held tt
