-- What is due for a command, by how many bytes there are, and what pays for it.
use Rattle.std.proofs.Common.{◌≡◌, ◌<◌, ◌≤◌, ℕ, nat_lt, length, List, ◌&&◌, ap, ◌∙◌, codes, Bool, true, false, Option, Some, None, IfSome, IsSome, Result, Ok, Err, refl, sym, subst}
use Rattle.std.specs.Io.KnownBytes.{IsAtEnd}
use Rattle.ev_io.specs.Ends.{Takes}
use Rattle.ev_io.specs.declared.read.ReadEnd.TheVariants.{TooLong as TooMany}
use Rattle.ev_reader.specs.declared.fault.ProgramFault.{ProgramFault}
use Rattle.ev_reader.specs.declared.accepted.Scoped.{Scoped}
use Rattle.ev_generate.specs.Generated.{generated}
use Rattle.ev_sturdy.specs.Telling as sturdy
use Rattle.ev_mint.specs.Telling as mint
use Rattle.ev_trace.specs.Reading.{read as trace_from}
use Rattle.ev_script.specs.Script.{read as script_from}
use Rattle.ev_io.specs.Words.{line}
use Rattle.ev_io.specs.Debt.{IsFor, most_bytes, too_long}
use Rattle.ev_io.specs.Paying.{IsOfWhole, Finishes}
use Rattle.ev_top.specs.Machine.{text_of}
use Rattle.ev_io.specs.declared.status.Status.{Status}
use Rattle.ev_io.specs.declared.status.Status.TheVariants.{Usage, ReadFault, Memory}
use Rattle.ev_io.proofs.PayLemmas as paying
use Rattle.ev_io.proofs.PayLemmas.{IsPlain, finished_left, is_few, is_long, memory_left, read_fault_left}
use Rattle.ev_top.proofs.WholeInput.{of_fault, of_script}
use Rattle.ev_top.specs.Commands.{reads}
use Rattle.ev_top.specs.Due.{IsDue, IsDueOfBytes, IsDueOfInput, Pays}
use Rattle.ev_top.specs.Expansion.{text_from, nameless, IsDueOfText, IsDueOfForm}
use Rattle.ev_check_text.proofs.Checked.{of_trace}
use Rattle.ev_top.specs.Lines.{IsDueOfMint, IsDueOfSturdy, status_of}
use Rattle.ev_top.specs.Summary.{summary_of}
use Rattle.ev_top.specs.declared.command.Command.{Command}
use Rattle.ev_top.specs.declared.command.Command.TheVariants.{Run, Expand, Generate, Sum, Sturdy, Mint, Check}

-- ---- what is due for bytes that are few enough needs all of them

of_form : (answer : Result Scoped ProgramFault) (status : Status) (text : List ℕ) → IsDueOfForm answer status text → IsOfWhole status
of_form (Ok scoped) status text due = subst IsOfWhole (sym due.0) tt
of_form (Err fault) status text due = of_fault 0 nameless fault status text due

of_text : (found : Result (List ℕ) ℕ) (status : Status) (text : List ℕ) → IsDueOfText found status text → IsOfWhole status
of_text (Ok program) status text due = of_form due.0 status text due.2
of_text (Err rule) status text due = subst IsOfWhole (sym due.0) tt

of_repeated : (repeated : Option (ℕ × ℕ)) → IsOfWhole (status_of repeated)
of_repeated None = tt
of_repeated (Some draws) = tt

of_sturdy : (found : Result sturdy.Ending ℕ) (status : Status) (text : List ℕ) → IsDueOfSturdy found status text → IsOfWhole status
of_sturdy (Ok ending) status text due = subst IsOfWhole (sym due.0) (of_repeated ending.repeated)
of_sturdy (Err rule) status text due = subst IsOfWhole (sym due.0) tt

of_mint : (found : Result (List ℕ) ℕ) (status : Status) (text : List ℕ) → IsDueOfMint found status text → IsOfWhole status
of_mint (Ok told) status text due = subst IsOfWhole (sym due.0) tt
of_mint (Err rule) status text due = subst IsOfWhole (sym due.0) tt

pub whole : (command : Command) (input : List ℕ) (status : Status) (text : List ℕ) → IsDueOfBytes command input status text → IsOfWhole status
whole (Run wire) input status text due = of_script (text_of wire) (script_from input) status text due
whole Expand input status text due = of_text (text_from input) status text due
whole (Generate n) input status text due = subst IsOfWhole (sym due.0) tt
whole (Sum n) input status text due = of_script summary_of (script_from (generated n)) status text due
whole Sturdy input status text due = of_sturdy (sturdy.due input) status text due
whole Mint input status text due = of_mint (mint.due input) status text due
whole Check input status text due = of_trace (trace_from input) status text due

-- ---- what is due, by how many bytes there are

-- few enough bytes, or none are read
few_by : (b : Bool) → (b && false) ≡ false
few_by true = refl
few_by false = refl

pub not_long : (command : Command) (input : List ℕ) → length input ≤ most_bytes → (reads command && nat_lt most_bytes (length input)) ≡ false
not_long command input few =
    ap (λ (b : Bool). reads command && b) (is_few most_bytes (length input) few) ∙ few_by (reads command)

pub too_many : (command : Command) (input : List ℕ) → reads command ≡ true → most_bytes < length input → (reads command && nat_lt most_bytes (length input)) ≡ true
too_many command input read long =
    ap (λ (b : Bool). b && nat_lt most_bytes (length input)) read ∙ is_long most_bytes (length input) long

pub due_few : (command : Command) (input : List ℕ) (status : Status) (text : List ℕ) → length input ≤ most_bytes
    → IsDueOfBytes command input status text → IsDue (Some command) input status text
due_few command input status text few due =
    subst (λ (b : Bool). IsDueOfInput b command input status text) (sym (not_long command input few)) due

pub due_long : (command : Command) (input : List ℕ) (status : Status) (text : List ℕ) → reads command ≡ true → most_bytes < length input
    → IsFor status text too_long → IsDue (Some command) input status text
due_long command input status text read long due =
    subst (λ (b : Bool). IsDueOfInput b command input status text) (sym (too_many command input read long)) due

-- what is due for the bytes that were read to their end is due for all that the source had
pub due_read : (command : Command) (left left' : Option (List ℕ)) (bytes : List ℕ) (status : Status) (text : List ℕ) → Takes most_bytes left left' (Ok bytes)
    → IsAtEnd left' → IsDue (Some command) bytes status text → IfSome left (λ input. IsDue (Some command) input status text)
due_read command left left' bytes status text takes end due = paying.due_read (IsDue (Some command)) left left' bytes status text takes end due

-- and so for one byte more than the most
pub due_unread : (command : Command) (left left' : Option (List ℕ)) (status : Status) (text : List ℕ) → Takes most_bytes left left' (Err TooMany)
    → ((input : List ℕ) → most_bytes < length input → IsDue (Some command) input status text)
    → IfSome left (λ input. IsDue (Some command) input status text)
due_unread command left left' status text takes due = paying.due_unread (IsDue (Some command)) left left' status text takes due

-- ---- what pays

-- the text of a reply was written
pub pays_left : (command : Option Command) (left : Option (List ℕ)) (status : Status) (text : List ℕ) (held held' : Option (List ℕ)) (result : Status)
    → IsPlain status → IfSome left (λ input. IsDue command input status text) → Finishes held held' status text result
    → IfSome left (λ input. Pays held held' result command input)
pays_left command left status text held held' result kind due finishes = finished_left (IsSome command) (IsDue command) left status text held held' result kind due finishes

-- want of memory before anything is written
pub pays_memory : (command : Option Command) (left held : Option (List ℕ)) → IsSome command
    → IfSome left (λ input. Pays held held Memory command input)
pays_memory command left held some = memory_left (IsSome command) (IsDue command) left held some

pub pays_read_fault : (command : Option Command) (left held : Option (List ℕ)) → IsSome command
    → IfSome left (λ input. Pays held held ReadFault command input)
pays_read_fault command left held some = read_fault_left (IsSome command) (IsDue command) left held some

-- words that are no command
pub pays_usage : (found command : Option Command) (left held held' : Option (List ℕ)) (result : Status) → found ≡ command
    → ((c : Command) → found ≡ Some c → ⊥) → Finishes held held' Usage (line (codes "refused usage")) result
    → IfSome left (λ input. Pays held held' result command input)
pays_usage (Some c) command left held held' result same none finishes = absurd (none c refl)
pays_usage None command left held held' result same none finishes =
    subst (λ (c : Option Command). IfSome left (λ input. Pays held held' result c input)) same
    (pays_left None left Usage (line (codes "refused usage")) held held' result tt (for_all left) finishes)
  where
    for_all : (l : Option (List ℕ)) → IfSome l (λ input. IsDue None input Usage (line (codes "refused usage")))
    for_all None = tt
    for_all (Some input) = (refl, refl)
