-- What is due for an input, by how many bytes there are, and what pays for it.
use Rattle.std.proofs.Common.{◌≡◌, ◌⊎◌, inl, inr, ◌<◌, ◌≤◌, ℕ, ◌+◌, nat_lt, length, length-append, List, [], ◌++◌, append-nil, ap, ◌∙◌, Bool, true, false, Option, Some, None, IfSome, Ok, Err, refl, sym, subst, arith}
use Rattle.std.specs.Io.KnownBytes.{IsAtEnd}
use Rattle.std.proofs.KnownBytes.{Appends-nil}
use Rattle.std.proofs.lemmas.Bool.Decides.{nat_tests}
use Rattle.ev_io.specs.Ends.{Takes}
use Rattle.ev_io.specs.declared.read.ReadEnd.TheVariants.{TooLong as TooMany}
use Rattle.ev_io.specs.Debt.{Debt, most_bytes}
use Rattle.ev_io.specs.Paying.{Finishes, IsOfRead, Pays, PaysWith, Reads, Settles, TookFor}
use Rattle.ev_io.specs.declared.status.Status.{Status}
use Rattle.ev_io.specs.declared.status.Status.TheVariants.{Done, Usage, ReadFault, WriteFault, TooLong, ScriptRefused, ProgramRefused, FuelSpent, TooDeep, WordRepeated, Memory}

-- ---- what is due, by how many bytes there are

pub is_few : (most n : ℕ) → n ≤ most → nat_lt most n ≡ false
is_few most n few = grind (arith, nat_tests)

pub is_long : (most n : ℕ) → most < n → nat_lt most n ≡ true
is_long most n long = grind (arith, nat_tests)

-- what is due for the bytes that were read to their end is due for all that the source had
pub due_read : (Due : List ℕ → Status → List ℕ → Type 0) (left left' : Option (List ℕ)) (bytes : List ℕ) (status : Status) (text : List ℕ) → Takes most_bytes left left' (Ok bytes)
    → IsAtEnd left' → Due bytes status text → IfSome left (λ input. Due input status text)
due_read Due None left' bytes status text takes end due = tt
due_read Due (Some input) None bytes status text takes end due = absurd takes.1
due_read Due (Some input) (Some rest) bytes status text takes end due =
    let all : input ≡ takes.0 ++ rest = takes.1 in
    let none : rest ≡ [] = end in
    let same : bytes ≡ takes.0 = takes.2.0 in
    let whole : bytes ≡ input = same ∙ sym (all ∙ ap (λ r. takes.0 ++ r) none ∙ append-nil takes.0) in
    subst (λ (i : List ℕ). Due i status text) whole due

-- and so for one byte more than the most
pub due_unread : (Due : List ℕ → Status → List ℕ → Type 0) (left left' : Option (List ℕ)) (status : Status) (text : List ℕ) → Takes most_bytes left left' (Err TooMany)
    → ((input : List ℕ) → most_bytes < length input → Due input status text)
    → IfSome left (λ input. Due input status text)
due_unread Due None left' status text takes due = tt
due_unread Due (Some input) None status text takes due = absurd takes.1
due_unread Due (Some input) (Some rest) status text takes due =
    let all : input ≡ takes.0 ++ rest = takes.1 in
    let count : length input ≡ length takes.0 + length rest = ap length all ∙ length-append takes.0 rest in
    let more : length takes.0 ≡ most_bytes + 1 = takes.2 in
    due input (omega (arith, count, more))

-- ---- what pays

-- a status other than a fault and want of memory
abbrev pub IsPlain : Status → Type 0
IsPlain ReadFault = ⊥
IsPlain WriteFault = ⊥
IsPlain Memory = ⊥
IsPlain _ = Unit {0}

pub plain : (status : Status) → IsOfRead status → IsPlain status
plain Done kind = tt
plain Usage kind = tt
plain ReadFault kind = absurd kind
plain WriteFault kind = absurd kind
plain TooLong kind = tt
plain (ScriptRefused r) kind = tt
plain (ProgramRefused r) kind = tt
plain (FuelSpent step) kind = tt
plain (TooDeep step) kind = tt
plain (WordRepeated first second) kind = tt
plain Memory kind = absurd kind

pub no_usage : (status : Status) → IsOfRead status → status ≡ Usage → ⊥
no_usage status kind is = subst IsOfRead is kind

-- a status that a reading came to is no fault of writing
pub no_fault : (status result : Status) (rose : Type 0) → IsOfRead status → result ≡ status ⊎ rose → result ≡ WriteFault → rose
no_fault status result rose kind (inl same) is = absurd (subst IsOfRead (sym same ∙ is) kind)
no_fault status result rose kind (inr rises) is = rises

module _ (Asked : Type 0) (Due : Status → List ℕ → Type 0) where
  pays_with : (status : Status) (text : List ℕ) → IsPlain status → Due status text → PaysWith Asked Due status text
  pays_with Done text kind due = due
  pays_with Usage text kind due = due
  pays_with ReadFault text kind due = absurd kind
  pays_with WriteFault text kind due = absurd kind
  pays_with TooLong text kind due = due
  pays_with (ScriptRefused r) text kind due = due
  pays_with (ProgramRefused r) text kind due = due
  pays_with (FuelSpent step) text kind due = due
  pays_with (TooDeep step) text kind due = due
  pays_with (WordRepeated first second) text kind due = due
  pays_with Memory text kind due = absurd kind

  pub pays : (status : Status) (text : List ℕ) (held held' : Option (List ℕ)) (result : Status)
      → IsPlain status → Due status text → Finishes held held' status text result → Pays Asked Due held held' result
  pays status text held held' result kind due (written, appends, inl (same, whole)) = (written, appends, rw (same, whole) (pays_with status text kind due))
  pays status text held held' result kind due (written, appends, inr (fault, front)) = (written, appends, rw fault (record { status = status; text = text }, due, front))

  -- what is owed was written, or a front of it before memory ran out
  pub settled : (debt : Debt) (held held' : Option (List ℕ)) (result : Status) → Asked → IsPlain debt.status → Due debt.status debt.text → Settles held held' debt result → Pays Asked Due held held' result
  settled debt held held' result asked kind due (inl finishes) = pays debt.status debt.text held held' result kind due finishes
  settled debt held held' result asked kind due (inr (wants, written, appends, front)) = (written, appends, rw wants (asked, inr (debt, due, front)))

-- and so for all that a source has left
module _ (Asked : Type 0) (Due : List ℕ → Status → List ℕ → Type 0) where
  pub settled_left : (left : Option (List ℕ)) (debt : Debt) (held held' : Option (List ℕ)) (result : Status) → Asked → IsPlain debt.status
      → IfSome left (λ input. Due input debt.status debt.text) → Settles held held' debt result → IfSome left (λ input. Pays Asked (Due input) held held' result)
  settled_left None debt held held' result asked kind due settles = tt
  settled_left (Some input) debt held held' result asked kind due settles = settled Asked (Due input) debt held held' result asked kind due settles

  -- the same of a reply
  pub finished_left : (left : Option (List ℕ)) (status : Status) (text : List ℕ) (held held' : Option (List ℕ)) (result : Status)
      → IsPlain status → IfSome left (λ input. Due input status text) → Finishes held held' status text result → IfSome left (λ input. Pays Asked (Due input) held held' result)
  finished_left None status text held held' result kind due finishes = tt
  finished_left (Some input) status text held held' result kind due finishes = pays Asked (Due input) status text held held' result kind due finishes

  -- want of memory or a fault of reading before anything is written
  pub memory_left : (left held : Option (List ℕ)) → Asked → IfSome left (λ input. Pays Asked (Due input) held held Memory)
  memory_left None held asked = tt
  memory_left (Some input) held asked = ([], Appends-nil held, (asked, inl refl))

  pub read_fault_left : (left held : Option (List ℕ)) → Asked → IfSome left (λ input. Pays Asked (Due input) held held ReadFault)
  read_fault_left None held asked = tt
  read_fault_left (Some input) held asked = ([], Appends-nil held, (asked, refl))

-- what was written is what was owed, or its writing did not come to its end
pub settles_as : (Is : Status → Type 0) (held held' : Option (List ℕ)) (debt : Debt) (result : Status) → Settles held held' debt result → Is result → (Is WriteFault → ⊥) → (Is Memory → ⊥) → (result ≡ debt.status) × Is debt.status
settles_as Is held held' debt result (inl (written, appends, inl (same, whole))) is fault want = (same, subst Is same is)
settles_as Is held held' debt result (inl (written, appends, inr (failed, front))) is fault want = absurd (fault (subst Is failed is))
settles_as Is held held' debt result (inr (wants, written, appends, front)) is fault want = absurd (want (subst Is wants is))

-- ---- what is read

-- each call takes at most one byte more than the most
took_most : (status : Status) (count : ℕ) → TookFor status count → count ≤ most_bytes + 1
took_most Done count took = omega (arith, took)
took_most Usage count took = omega (arith, took)
took_most ReadFault count took = omega (arith, took)
took_most WriteFault count took = took
took_most TooLong count took = omega (arith, took)
took_most (ScriptRefused r) count took = omega (arith, took)
took_most (ProgramRefused r) count took = omega (arith, took)
took_most (FuelSpent step) count took = omega (arith, took)
took_most (TooDeep step) count took = omega (arith, took)
took_most (WordRepeated first second) count took = omega (arith, took)
took_most Memory count took = took

pub settled_reads : (held held' left left' : Option (List ℕ)) (debt : Debt) (result : Status) → Settles held held' debt result → Reads left left' debt.status → Reads left left' result
settled_reads held held' left left' debt result (inl (written, appends, inl (same, whole))) reads = subst (Reads left left') (sym same) reads
settled_reads held held' left left' debt result (inl (written, appends, inr (failed, front))) (taken, consumes, took) = subst (Reads left left') (sym failed) (taken, consumes, took_most debt.status (length taken) took)
settled_reads held held' left left' debt result (inr (wants, written, appends, front)) (taken, consumes, took) = subst (Reads left left') (sym wants) (taken, consumes, took_most debt.status (length taken) took)
