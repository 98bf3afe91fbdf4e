-- Why a status is due.
use Rattle.std.proofs.Common.{◌≡◌, ◌≢◌, ◌⊎◌, inl, inr, ◌<◌, ◌≤◌, ◌&&◌, ℕ, zero, suc, nat_lt, length, List, [], ◌∷◌, ◌++◌, append-nil, append_assoc, slice_get, Bool, true, false, Option, Some, None, IfSome, Result, Ok, Err, refl, sym, ap, subst, arith, ◌∙◌}
use Rattle.std.proofs.lemmas.List.{map-append}
use Rattle.std.proofs.lemmas.Bool.Decides.{nat_tests}
use Rattle.def_kernel.specs.declared.node.Node.{Node}
use Rattle.def_machine.specs.State.{Stop, Fuel, Deep, Repeated, Astray}
use Rattle.def_run.specs.World as machine
use Rattle.def_run.specs.World.{World, Goes, Stopped}
use Rattle.ev_reader.specs.declared.accepted.Scoped.{Scoped}
use Rattle.ev_script.specs.declared.script.Script.{Script}
use Rattle.ev_script.specs.declared.script.VatScript.{VatScript}
use Rattle.ev_reader.specs.Program.{Answers}
use Rattle.ev_reader.specs.declared.fault.ProgramFault.{ProgramFault}
use Rattle.ev_reader.specs.declared.fault.ProgramFault.TheVariants as faults
use Rattle.ev_reader.specs.declared.fault.Stage.{Stage as Part}
use Rattle.ev_reader.specs.declared.fault.Stage.TheVariants as parts
use Rattle.ev_generate.specs.Generated.{generated}
use Rattle.ev_sturdy.specs.Telling as sturdy
use Rattle.ev_mint.specs.Telling as mint
use Rattle.def_event.specs.declared.trace.Trace.{Trace}
use Rattle.ev_trace.specs.Reading.{read as trace_from}
use Rattle.ev_top.specs.Commands.{reads}
use Rattle.ev_io.specs.Debt.{Debt, most_bytes}
use Rattle.ev_check_text.specs.Due.{IsDueOfTrace}
use Rattle.ev_top.specs.Lines.{IsDueOfMint, IsDueOfSturdy, status_of}
use Rattle.ev_script.specs.Script.{read as script_from}
use Rattle.ev_top.specs.Summary.{summary_of}
use Rattle.ev_top.specs.Programs.{AreRead, IsFirstRefused, names_for, IsRead, safe_names, refusal, stage_of, trees_of, IsDueOfFault}
use Rattle.ev_top.specs.Expansion.{text_from, nameless, IsDueOfText, IsDueOfForm}
use Rattle.ev_world.specs.Running.{script_of}
use Rattle.ev_top.specs.Machine.{greatest_depth, text_of, vat_of_step}
use Rattle.ev_top.specs.RunDue.{IsDueOfAnswer, IsDueOfScript, IsDueOfTrees, IsDueOfVats, due_of_run, astray, Telling}
use Rattle.ev_top.specs.Due.{IsDue, IsDueOfInput, IsDueOfBytes, Pays, PaysWith}
use Rattle.ev_top.specs.Causes.{IsInterrupted, Follows, ComesWhere, IsLong, Breaks, HasScript, HasPrograms, HasText, HasFault, HasNoTree, HasRefused, IsAstray, IsProgramRefused, RepeatsWord, Stops, StopsIn, run_of}
use Rattle.ev_top.specs.declared.command.Command.{Command}
use Rattle.ev_top.specs.declared.command.Command.TheVariants.{Run, Expand, Generate, Sum, Sturdy, Mint, Check}
use Rattle.ev_io.specs.declared.status.Status.{Status}
use Rattle.ev_io.specs.declared.status.Status.TheVariants.{Done, Usage, ReadFault, WriteFault, TooLong, ScriptRefused, ProgramRefused, FuelSpent, TooDeep, WordRepeated, Memory}
use Rattle.ev_io.specs.declared.status.Stage.{Stage}
use Rattle.ev_io.specs.declared.status.Stage.TheVariants as stages
use Rattle.ev_io.proofs.PayLemmas.{is_few}
use Rattle.ev_top.proofs.DueLemmas.{too_many}
use Rattle.ev_top.proofs.ReadLemmas.{one_behind, read_more, trees_count}
use Rattle.ev_top.proofs.OneReading.{IsTree, fault_once, tree_once}
use Rattle.ev_top.proofs.Astray.{no_run_goes_astray}

-- ---- why a status is due

abbrev IsRefused : ℕ → Part → ℕ → ℕ → Status → Type 0
IsRefused vat part kind place status = status ≡ ProgramRefused (refusal vat part kind place)

-- what is due for the run of these programs
abbrev ran : Telling → Script → List Scoped → Debt
ran tell script programs = due_of_run script (tell (script_of script programs greatest_depth)) (run_of script programs)

data Why (command : Option Command) (input : List ℕ) (status : Status) : Type 0 where
  Misused : status ≡ Usage → Why command input status
  Long : IsLong command input → status ≡ TooLong → Why command input status
  Broken : (rule : ℕ) → Breaks rule command input → status ≡ ScriptRefused rule → Why command input status
  Faulty : (vat : ℕ) (part : Part) (kind place : ℕ) → HasFault vat part kind place command input → IsRefused vat part kind place status → Why command input status
  Ran : (tell : Telling) (script : Script) (programs : List Scoped) → HasPrograms command input script programs
      → status ≡ (ran tell script programs).status → Why command input status
  Drew : (first second : ℕ) → RepeatsWord first second command input → status ≡ WordRepeated first second → Why command input status
  Finished : status ≡ Done → Why command input status

formed : (program input : List ℕ) (answer : Result Scoped ProgramFault) (status : Status) (text : List ℕ) → HasText input program
    → Answers answer program safe_names → IsDueOfForm answer status text → Why (Some Expand) input status
formed program input (Ok scoped) status text has answers due = Finished due.0
formed program input (Err (faults.At part kind place)) status text has answers due = Faulty 0 part kind place (refl, program, has, answers) due.0
formed program input (Err faults.Memory) status text has answers due = absurd due

of_text : (input : List ℕ) (found : Result (List ℕ) ℕ) (status : Status) (text : List ℕ) → length input ≤ most_bytes → text_from input ≡ found
    → IsDueOfText found status text → Why (Some Expand) input status
of_text input (Ok program) status text few e (answer, answers, due) = formed program input answer status text (few, e) answers due
of_text input (Err rule) status text few e due = Broken rule (few, e) due.0

-- a command that runs a script refuses it by its first source that is refused
refused_so : (vat : ℕ) (part : Part) (kind place : ℕ) (command : Option Command) (input : List ℕ) → HasRefused vat part kind place command input
    → HasFault vat part kind place command input
refused_so vat part kind place None input (script, has, refused) = absurd has
refused_so vat part kind place (Some (Run wire)) input has = has
refused_so vat part kind place (Some (Sum n)) input has = has
refused_so vat part kind place (Some Expand) input (script, has, refused) = absurd has
refused_so vat part kind place (Some (Generate n)) input (script, has, refused) = absurd has
refused_so vat part kind place (Some Sturdy) input (script, has, refused) = absurd has
refused_so vat part kind place (Some Mint) input (script, has, refused) = absurd has
refused_so vat part kind place (Some Check) input (script, has, refused) = absurd has

first_refused : (command : Option Command) (input : List ℕ) (script : Script) (front : List VatScript) (vat : VatScript) (more : List VatScript) (programs : List Scoped) (fault : ProgramFault)
    (status : Status) (text : List ℕ) → HasScript command input script → script.vats ≡ front ++ vat ∷ more → AreRead script.vats front programs → IsRead script.vats vat (Err fault)
    → IsDueOfFault (length (trees_of programs)) vat.name fault status text → Why command input status
first_refused command input script front vat more programs (faults.At part kind place) status text has all are is due =
    let count = trees_count script.vats front programs are in
    Faulty (length front) part kind place
    (refused_so (length front) part kind place command input (script, has, (front, vat, more, programs, all, refl, are, is)))
    (subst (λ (n : ℕ). IsRefused n part kind place status) count due.0)
first_refused command input script front vat more programs faults.Memory status text has all are is due = absurd due

of_vats : (tell : Telling) (command : Option Command) (input : List ℕ) (script : Script) (front vats : List VatScript) (programs : List Scoped) (trees : List (List Node)) (status : Status) (text : List ℕ)
    → HasScript command input script → script.vats ≡ front ++ vats → AreRead script.vats front programs → trees_of programs ≡ trees → IsDueOfVats tell script trees vats status text
    → Why command input status
of_vats tell command input script front [] programs trees status text has all are same due =
    let whole : script.vats ≡ front = all ∙ append-nil front in
    Ran tell script programs (has, subst (λ (vs : List VatScript). AreRead script.vats vs programs) (sym whole) are)
    (subst (λ (ts : List (List Node)). IsDueOfTrees tell script ts status text) (sym same) due).0
of_vats tell command input script front (vat ∷ more) programs trees status text has all are same (Ok scoped, answers, due) =
    of_vats tell command input script (front ++ vat ∷ []) more (programs ++ scoped ∷ []) (trees ++ scoped.tree ∷ []) status text has
    (all ∙ sym (append_assoc front (vat ∷ []) more)) (read_more script.vats front programs vat scoped are answers)
    (map-append (λ (s : Scoped). s.tree) programs (scoped ∷ []) ∙ ap (λ (ts : List (List Node)). ts ++ scoped.tree ∷ []) same) due
of_vats tell command input script front (vat ∷ more) programs trees status text has all are same (Err fault, answers, due) =
    first_refused command input script front vat more programs fault status text has all are answers
    (subst (λ (ts : List (List Node)). IsDueOfFault (length ts) vat.name fault status text) (sym same) due)

-- what a script is due that a command runs, by what is found in its bytes
of_script : (tell : Telling) (command : Option Command) (input : List ℕ) (found : Result Script ℕ) (status : Status) (text : List ℕ)
    → ((script : Script) → found ≡ Ok script → HasScript command input script) → ((rule : ℕ) → found ≡ Err rule → Breaks rule command input)
    → IsDueOfScript tell found status text → Why command input status
of_script tell command input (Ok script) status text has breaks due = of_vats tell command input script [] script.vats [] [] status text (has script refl) refl tt refl due
of_script tell command input (Err rule) status text has breaks due = Broken rule (breaks rule refl) due.0

at_long : (most n : ℕ) → nat_lt most n ≡ true → most < n
at_long most n test = grind (arith, nat_tests)

at_few : (most n : ℕ) → nat_lt most n ≡ false → n ≤ most
at_few most n test = grind (arith, nat_tests)

of_repeated : (input : List ℕ) (status : Status) (ending : sturdy.Ending) (repeated : Option (ℕ × ℕ)) → length input ≤ most_bytes
    → sturdy.due input ≡ Ok ending → ending.repeated ≡ repeated → status ≡ status_of repeated → Why (Some Sturdy) input status
of_repeated input status ending None few e r is = Finished is
of_repeated input status ending (Some draws) few e r is = Drew draws.0 draws.1 (inl (refl, few, ending, e, r)) is

of_sturdy : (input : List ℕ) (found : Result sturdy.Ending ℕ) (status : Status) (text : List ℕ) → length input ≤ most_bytes → sturdy.due input ≡ found
    → IsDueOfSturdy found status text → Why (Some Sturdy) input status
of_sturdy input (Ok ending) status text few e due = of_repeated input status ending ending.repeated few e refl due.0
of_sturdy input (Err rule) status text few e due = Broken rule (few, e) due.0

of_mint : (input : List ℕ) (found : Result (List ℕ) ℕ) (status : Status) (text : List ℕ) → length input ≤ most_bytes → mint.due input ≡ found
    → IsDueOfMint found status text → Why (Some Mint) input status
of_mint input (Ok told) status text few e due = Finished due.0
of_mint input (Err rule) status text few e due = Broken rule (few, e) due.0

of_trace : (input : List ℕ) (found : Result Trace ℕ) (status : Status) (text : List ℕ) → length input ≤ most_bytes → trace_from input ≡ found
    → IsDueOfTrace found status text → Why (Some Check) input status
of_trace input (Ok trace) status text few e due = Finished due.0
of_trace input (Err rule) status text few e due = Broken rule (few, e) due.0

of_bytes : (command : Command) (input : List ℕ) (status : Status) (text : List ℕ) → length input ≤ most_bytes → IsDueOfBytes command input status text
    → Why (Some command) input status
of_bytes (Run wire) input status text few due =
    of_script (text_of wire) (Some (Run wire)) input (script_from input) status text (λ script e. (few, e)) (λ rule e. (few, e)) due
of_bytes Expand input status text few due = of_text input (text_from input) status text few refl due
of_bytes (Generate n) input status text few due = Finished due.0
of_bytes (Sum n) input status text few due = of_script summary_of (Some (Sum n)) input (script_from (generated n)) status text (λ script e. e) (λ rule e. e) due
of_bytes Sturdy input status text few due = of_sturdy input (sturdy.due input) status text few refl due
of_bytes Mint input status text few due = of_mint input (mint.due input) status text few refl due
of_bytes Check input status text few due = of_trace input (trace_from input) status text few refl due

of_input : (long : Bool) (command : Command) (input : List ℕ) (status : Status) (text : List ℕ) → reads command ≡ true → nat_lt most_bytes (length input) ≡ long
    → IsDueOfInput long command input status text → Why (Some command) input status
of_input true command input status text r e due = Long (r, at_long most_bytes (length input) e) due.0
of_input false command input status text r e due = of_bytes command input status text (at_few most_bytes (length input) e) due

why : (command : Option Command) (input : List ℕ) (status : Status) (text : List ℕ) → IsDue command input status text → Why command input status
why None input status text due = Misused due.0
why (Some (Run wire)) input status text due = of_input (nat_lt most_bytes (length input)) (Run wire) input status text refl refl due
why (Some Expand) input status text due = of_input (nat_lt most_bytes (length input)) Expand input status text refl refl due
why (Some (Generate n)) input status text due = Finished due.0
why (Some (Sum n)) input status text due = of_script summary_of (Some (Sum n)) input (script_from (generated n)) status text (λ script e. e) (λ rule e. e) due
why (Some Sturdy) input status text due = of_input (nat_lt most_bytes (length input)) Sturdy input status text refl refl due
why (Some Mint) input status text due = of_input (nat_lt most_bytes (length input)) Mint input status text refl refl due
why (Some Check) input status text due = of_input (nat_lt most_bytes (length input)) Check input status text refl refl due

-- ---- from what a call owes to why it answers

-- what is due, where no fault and no want of memory stands in its place
due_or_not : (status : Status) (written : List ℕ) (command : Option Command) (input : List ℕ) → PaysWith status written command input
    → IsDue command input status written ⊎ IsInterrupted status
due_or_not Done written command input pays = inl pays
due_or_not Usage written command input pays = inl pays
due_or_not ReadFault written command input pays = inr tt
due_or_not WriteFault written command input pays = inr tt
due_or_not TooLong written command input pays = inl pays
due_or_not (ScriptRefused r) written command input pays = inl pays
due_or_not (ProgramRefused r) written command input pays = inl pays
due_or_not (FuelSpent step) written command input pays = inl pays
due_or_not (TooDeep step) written command input pays = inl pays
due_or_not (WordRepeated first second) written command input pays = inl pays
due_or_not Memory written command input pays = inr tt

only : (Is : Status → Type 0) (fact : Type 0) (status : Status) (command : Option Command) (input written : List ℕ)
    → (IsInterrupted status → Is status → ⊥) → (Why command input status → Is status → fact) → PaysWith status written command input
    → Is status → fact
only Is fact status command input written apart from pays is = by (due_or_not status written command input pays)
  where
    by : IsDue command input status written ⊎ IsInterrupted status → fact
    by (inl due) = from (why command input status written due) is
    by (inr stopped) = absurd (apart stopped is)

there : (Is : Status → Type 0) (fact : Type 0) (status : Status) (command : Option Command) (input written : List ℕ)
    → (IsDue command input status written → fact → Is status) → PaysWith status written command input → Follows Is status fact
there Is fact status command input written to pays f = by (due_or_not status written command input pays)
  where
    by : IsDue command input status written ⊎ IsInterrupted status → Is status ⊎ IsInterrupted status
    by (inl due) = inl (to due f)
    by (inr stopped) = inr stopped

-- the status of a run is one of five
never : (Is : Status → Type 0) → (Is Done → ⊥) → ((step : ℕ) → Is (FuelSpent step) → ⊥) → ((step : ℕ) → Is (TooDeep step) → ⊥)
    → ((i j : ℕ) → Is (WordRepeated i j) → ⊥) → ((vat : ℕ) → Is (ProgramRefused (astray vat)) → ⊥)
    → (script : Script) (text : List ℕ) (r : machine.Run) → Is (due_of_run script text r).status → ⊥
never Is done fuel deep drew strays script text (Goes w) is = done is
never Is done fuel deep drew strays script text (Stopped Fuel step w) is = fuel step is
never Is done fuel deep drew strays script text (Stopped Deep step w) is = deep step is
never Is done fuel deep drew strays script text (Stopped (Repeated i j) step w) is = drew i j is
never Is done fuel deep drew strays script text (Stopped Astray step w) is = strays (vat_of_step script step) is

-- ---- too many bytes

long_only : (command : Option Command) (input : List ℕ) (status : Status) → Why command input status → status ≡ TooLong → IsLong command input
long_only command input status (Misused e) is = cc
long_only command input status (Long long e) is = long
long_only command input status (Broken rule breaks e) is = cc
long_only command input status (Faulty vat part kind place fault e) is = cc
long_only command input status (Ran tell script programs has e) is =
    absurd (never (λ s. s ≡ TooLong) (λ h. cc) (λ k h. cc) (λ k h. cc) (λ i j h. cc) (λ v h. cc) script _ (run_of script programs) (sym e ∙ is))
long_only command input status (Drew first second repeats e) is = cc
long_only command input status (Finished e) is = cc

long_there : (command : Option Command) (input : List ℕ) (status : Status) (text : List ℕ) → IsDue command input status text → IsLong command input → status ≡ TooLong
long_there None input status text due long = absurd long
long_there (Some command) input status text due (read, long) =
    (subst (λ (b : Bool). IsDueOfInput b command input status text) (too_many command input read long) due).0

-- ---- a rule

rule_only : (rule : ℕ) (command : Option Command) (input : List ℕ) (status : Status) → Why command input status → status ≡ ScriptRefused rule → Breaks rule command input
rule_only rule command input status (Misused e) is = cc
rule_only rule command input status (Long long e) is = cc
rule_only rule command input status (Broken broken breaks e) is =
    let same : broken ≡ rule = cc in subst (λ (r : ℕ). Breaks r command input) same breaks
rule_only rule command input status (Faulty vat part kind place fault e) is = cc
rule_only rule command input status (Ran tell script programs has e) is =
    absurd (never (λ s. s ≡ ScriptRefused rule) (λ h. cc) (λ k h. cc) (λ k h. cc) (λ i j h. cc) (λ v h. cc) script _ (run_of script programs) (sym e ∙ is))
rule_only rule command input status (Drew first second repeats e) is = cc
rule_only rule command input status (Finished e) is = cc

-- what is due for few enough bytes
few_due : (command : Command) (input : List ℕ) (status : Status) (text : List ℕ) → reads command ≡ true → length input ≤ most_bytes
    → IsDue (Some command) input status text → IsDueOfBytes command input status text
few_due command input status text read few due =
    subst (λ (b : Bool). IsDueOfInput b command input status text)
    (ap (λ (b : Bool). b && nat_lt most_bytes (length input)) read ∙ is_few most_bytes (length input) few) due

rule_there : (rule : ℕ) (command : Option Command) (input : List ℕ) (status : Status) (text : List ℕ) → IsDue command input status text
    → Breaks rule command input → status ≡ ScriptRefused rule
rule_there rule None input status text due breaks = absurd breaks
rule_there rule (Some (Run wire)) input status text due (few, refused) = (rw (is_few most_bytes (length input) few, refused) at due).0
rule_there rule (Some Expand) input status text due (few, refused) = (rw (is_few most_bytes (length input) few, refused) at due).0
rule_there rule (Some (Generate n)) input status text due breaks = absurd breaks
rule_there rule (Some (Sum n)) input status text due refused =
    (subst (λ (found : Result Script ℕ). IsDueOfScript summary_of found status text) refused due).0
rule_there rule (Some Sturdy) input status text due (few, refused) =
    (subst (λ (found : Result sturdy.Ending ℕ). IsDueOfSturdy found status text) refused (few_due Sturdy input status text refl few due)).0
rule_there rule (Some Mint) input status text due (few, refused) =
    (subst (λ (found : Result (List ℕ) ℕ). IsDueOfMint found status text) refused (few_due Mint input status text refl few due)).0
rule_there rule (Some Check) input status text due (few, refused) =
    (subst (λ (found : Result Trace ℕ). IsDueOfTrace found status text) refused (few_due Check input status text refl few due)).0

-- ---- a program that is refused where it is read

-- the parts of a refusal
abbrev stage_in : Status → Stage
stage_in (ProgramRefused r) = r.stage
stage_in _ = stages.Astray

abbrev kind_in : Status → ℕ
kind_in (ProgramRefused r) = r.kind
kind_in _ = 0

abbrev vat_in : Status → ℕ
vat_in (ProgramRefused r) = r.vat
vat_in _ = 0

abbrev place_in : Status → ℕ
place_in (ProgramRefused r) = r.place
place_in _ = 0

stage_apart : (part : Part) → stage_of part ≢ stages.Astray
stage_apart parts.Lex e = cc
stage_apart parts.Parse e = cc
stage_apart parts.Nested e = cc
stage_apart parts.Expand e = cc
stage_apart parts.Scope e = cc

astray_apart : (u vat : ℕ) (part : Part) (kind place : ℕ) → ProgramRefused (astray u) ≡ ProgramRefused (refusal vat part kind place) → ⊥
astray_apart u vat part kind place e = stage_apart part (ap stage_in (sym e))

one_part : (a b : Part) → stage_of a ≡ stage_of b → a ≡ b
one_part parts.Lex parts.Lex e = refl
one_part parts.Lex parts.Parse e = cc
one_part parts.Lex parts.Nested e = cc
one_part parts.Lex parts.Expand e = cc
one_part parts.Lex parts.Scope e = cc
one_part parts.Parse parts.Lex e = cc
one_part parts.Parse parts.Parse e = refl
one_part parts.Parse parts.Nested e = cc
one_part parts.Parse parts.Expand e = cc
one_part parts.Parse parts.Scope e = cc
one_part parts.Nested parts.Lex e = cc
one_part parts.Nested parts.Parse e = cc
one_part parts.Nested parts.Nested e = refl
one_part parts.Nested parts.Expand e = cc
one_part parts.Nested parts.Scope e = cc
one_part parts.Expand parts.Lex e = cc
one_part parts.Expand parts.Parse e = cc
one_part parts.Expand parts.Nested e = cc
one_part parts.Expand parts.Expand e = refl
one_part parts.Expand parts.Scope e = cc
one_part parts.Scope parts.Lex e = cc
one_part parts.Scope parts.Parse e = cc
one_part parts.Scope parts.Nested e = cc
one_part parts.Scope parts.Expand e = cc
one_part parts.Scope parts.Scope e = refl

-- a refusal tells its fault
told_once : (u v : ℕ) (a b : Part) (k l p q : ℕ) → ProgramRefused (refusal u a k p) ≡ ProgramRefused (refusal v b l q) → (u ≡ v) × (a ≡ b) × (k ≡ l) × (p ≡ q)
told_once u v a b k l p q e =
    let vats : u ≡ v = ap vat_in e in
    let stages : stage_of a ≡ stage_of b = ap stage_in e in
    let kinds : k ≡ l = ap kind_in e in
    let places : p ≡ q = ap place_in e in
    (vats, one_part a b stages, kinds, places)

fault_same : (u v : ℕ) (a b : Part) (k l p q : ℕ) (command : Option Command) (input : List ℕ) → (u ≡ v) × (a ≡ b) × (k ≡ l) × (p ≡ q)
    → HasFault u a k p command input → HasFault v b l q command input
fault_same u v a b k l p q command input (vat, part, kind, place) fault =
    subst (λ (n : ℕ). HasFault n b l q command input) vat
    (subst (λ (c : Part). HasFault u c l q command input) part
    (subst (λ (n : ℕ). HasFault u a n q command input) kind (subst (λ (n : ℕ). HasFault u a k n command input) place fault)))

fault_only : (vat : ℕ) (part : Part) (kind place : ℕ) (command : Option Command) (input : List ℕ) (status : Status) → Why command input status
    → IsRefused vat part kind place status → HasFault vat part kind place command input
fault_only vat part kind place command input status (Misused e) is = cc
fault_only vat part kind place command input status (Long long e) is = cc
fault_only vat part kind place command input status (Broken rule breaks e) is = cc
fault_only vat part kind place command input status (Faulty u p k q fault e) is =
    fault_same u vat p part k kind q place command input (told_once u vat p part k kind q place (sym e ∙ is)) fault
fault_only vat part kind place command input status (Ran tell script programs has e) is =
    absurd (never (IsRefused vat part kind place) (λ h. cc) (λ k h. cc) (λ k h. cc) (λ i j h. cc) (λ v. astray_apart v vat part kind place) script _ (run_of script programs) (sym e ∙ is))
fault_only vat part kind place command input status (Drew first second repeats e) is = cc
fault_only vat part kind place command input status (Finished e) is = cc

abbrev failed : ProgramFault → Result Scoped ProgramFault
failed fault = Err fault

-- what a fault is due, where a program has no other reading
of_fault : (vat : ℕ) (part : Part) (kind place : ℕ) (name : List ℕ) (fault : ProgramFault) (status : Status) (text : List ℕ) → IsDueOfFault vat name fault status text
    → (failed fault ≡ failed faults.Memory) ⊎ (failed fault ≡ failed (faults.At part kind place)) → IsRefused vat part kind place status
of_fault vat part kind place name (faults.At p k q) status text due (inl none) = cc
of_fault vat part kind place name (faults.At p k q) status text due (inr same) =
    let parts_same : p ≡ part = cc in
    let kinds : k ≡ kind = cc in
    let places : q ≡ place = cc in
    due.0 ∙ rw (parts_same, kinds, places) refl
of_fault vat part kind place name faults.Memory status text due same = absurd due

form_fault : (part : Part) (kind place : ℕ) (answer : Result Scoped ProgramFault) (status : Status) (text : List ℕ) → IsDueOfForm answer status text
    → (answer ≡ Err faults.Memory) ⊎ (answer ≡ Err (faults.At part kind place)) → IsRefused 0 part kind place status
form_fault part kind place (Ok scoped) status text due (inl none) = cc
form_fault part kind place (Ok scoped) status text due (inr same) = cc
form_fault part kind place (Err fault) status text due same = of_fault 0 part kind place nameless fault status text due same

-- the sources in front are read to these trees alone
tree_same : (scoped : Scoped) (answer : Result Scoped ProgramFault) (vat : ℕ) (name : List ℕ) (Due : List Node → Status → List ℕ → Type 0) (status : Status) (text : List ℕ)
    → IsTree scoped answer → IsDueOfAnswer vat name Due answer status text → Due scoped.tree status text
tree_same scoped (Ok other) vat name Due status text same due = subst (λ (tree : List Node). Due tree status text) same due
tree_same scoped (Err faults.Memory) vat name Due status text same due = absurd due
tree_same scoped (Err (faults.At part kind place)) vat name Due status text same due = absurd same

-- what is due for vats of which the first are read is what is due for those that come next
due_behind : (tell : Telling) (script : Script) (trees : List (List Node)) (front vats : List VatScript) (programs : List Scoped) (status : Status) (text : List ℕ)
    → AreRead script.vats front programs → IsDueOfVats tell script trees (front ++ vats) status text → IsDueOfVats tell script (trees ++ trees_of programs) vats status text
due_behind tell script trees [] vats [] status text are due = subst (λ (ts : List (List Node)). IsDueOfVats tell script ts vats status text) (sym (append-nil trees)) due
due_behind tell script trees (v ∷ front) vats (p ∷ programs) status text are (answer, answers, due) =
    let next = tree_same p answer (length trees) v.name (λ tree. IsDueOfVats tell script (trees ++ tree ∷ []) (front ++ vats)) status text
    (tree_once p v.source (names_for script.vats v) answer are.0 answers) due in
    subst (λ (ts : List (List Node)). IsDueOfVats tell script ts vats status text) (one_behind trees p.tree (trees_of programs))
    (due_behind tell script (trees ++ p.tree ∷ []) front vats programs status text are.1 next)
due_behind tell script trees [] vats (p ∷ programs) status text are due = absurd are
due_behind tell script trees (v ∷ front) vats [] status text are due = absurd are

answer_fault : (vat : ℕ) (part : Part) (kind place : ℕ) (name : List ℕ) (Due : List Node → Status → List ℕ → Type 0) (answer : Result Scoped ProgramFault) (status : Status) (text : List ℕ)
    → IsDueOfAnswer vat name Due answer status text → (answer ≡ Err faults.Memory) ⊎ (answer ≡ Err (faults.At part kind place)) → IsRefused vat part kind place status
answer_fault vat part kind place name Due (Ok scoped) status text due (inl none) = cc
answer_fault vat part kind place name Due (Ok scoped) status text due (inr same) = cc
answer_fault vat part kind place name Due (Err fault) status text due same = of_fault vat part kind place name fault status text due same

vats_fault : (tell : Telling) (vat : ℕ) (part : Part) (kind place : ℕ) (script : Script) (status : Status) (text : List ℕ) → IsFirstRefused script.vats vat (faults.At part kind place)
    → IsDueOfVats tell script [] script.vats status text → IsRefused vat part kind place status
vats_fault tell vat part kind place script status text (front, refused, more, programs, all, count, are, is) due =
    let here = due_behind tell script [] front (refused ∷ more) programs status text are (subst (λ (vs : List VatScript). IsDueOfVats tell script [] vs status text) all due) in
    let number : length (trees_of programs) ≡ vat = trees_count script.vats front programs are ∙ count in
    subst (λ (n : ℕ). IsRefused n part kind place status) number
    (answer_fault (length (trees_of programs)) part kind place refused.name (λ tree. IsDueOfVats tell script (trees_of programs ++ tree ∷ []) more) here.0 status text here.2
    (fault_once part kind place refused.source (names_for script.vats refused) here.0 is here.1))

-- what a command that runs a script tells of the run
abbrev told_of : Option Command → Telling
told_of (Some (Run wire)) theirs = text_of wire theirs
told_of (Some (Sum n)) theirs = summary_of theirs
told_of _ theirs = []

-- what is due for the script that a command runs
script_due : (command : Option Command) (input : List ℕ) (script : Script) (status : Status) (text : List ℕ) → HasScript command input script → IsDue command input status text
    → IsDueOfVats (told_of command) script [] script.vats status text
script_due None input script status text has due = absurd has
script_due (Some (Run wire)) input script status text (few, found) due =
    subst (λ (r : Result Script ℕ). IsDueOfScript (text_of wire) r status text) found (few_due (Run wire) input status text refl few due)
script_due (Some (Sum n)) input script status text found due = subst (λ (r : Result Script ℕ). IsDueOfScript summary_of r status text) found due
script_due (Some Expand) input script status text has due = absurd has
script_due (Some (Generate n)) input script status text has due = absurd has
script_due (Some Sturdy) input script status text has due = absurd has
script_due (Some Mint) input script status text has due = absurd has
script_due (Some Check) input script status text has due = absurd has

fault_there : (vat : ℕ) (part : Part) (kind place : ℕ) (command : Option Command) (input : List ℕ) (status : Status) (text : List ℕ)
    → IsDue command input status text → HasFault vat part kind place command input → IsRefused vat part kind place status
fault_there vat part kind place None input status text due has = absurd has
fault_there vat part kind place (Some (Run wire)) input status text due (script, has, refused) =
    vats_fault (text_of wire) vat part kind place script status text refused (script_due (Some (Run wire)) input script status text has due)
fault_there vat part kind place (Some (Sum n)) input status text due (script, has, refused) =
    vats_fault summary_of vat part kind place script status text refused (script_due (Some (Sum n)) input script status text has due)
fault_there vat part kind place (Some Expand) input status text due (none, program, (few, found), fault) =
    let d = rw (is_few most_bytes (length input) few, found) at due in
    subst (λ (n : ℕ). IsRefused n part kind place status) (sym none)
    (form_fault part kind place d.0 status text d.2 (fault_once part kind place program safe_names d.0 fault d.1))
fault_there vat part kind place (Some (Generate n)) input status text due has = absurd has
fault_there vat part kind place (Some Sturdy) input status text due has = absurd has
fault_there vat part kind place (Some Mint) input status text due has = absurd has
fault_there vat part kind place (Some Check) input status text due has = absurd has

-- ---- no tree

fault_refuses : (vat : ℕ) (name : List ℕ) (fault : ProgramFault) (status : Status) (text : List ℕ) → IsDueOfFault vat name fault status text → IsProgramRefused status
fault_refuses vat name (faults.At part kind place) status text due = subst IsProgramRefused (sym due.0) tt
fault_refuses vat name faults.Memory status text due = absurd due

no_form : (program : List ℕ) (answer : Result Scoped ProgramFault) (status : Status) (text : List ℕ) → Answers answer program safe_names
    → IsDueOfForm answer status text → ((scoped : Scoped) → Answers (Ok scoped) program safe_names → ⊥) → IsProgramRefused status
no_form program (Ok scoped) status text answers due none = absurd (none scoped answers)
no_form program (Err fault) status text answers due none = fault_refuses 0 nameless fault status text due

none_some : {A : Type 0} {x : A} → None ≡ Some x → ⊥
none_some e = cc

some_is : {A : Type 0} {x y : A} → Some x ≡ Some y → x ≡ y
some_is e = cc

no_vats : (tell : Telling) (script : Script) (trees : List (List Node)) (vats : List VatScript) (place : ℕ) (vat : VatScript) (status : Status) (text : List ℕ)
    → slice_get vats place ≡ Some vat → ((scoped : Scoped) → IsRead script.vats vat (Ok scoped) → ⊥) → IsDueOfVats tell script trees vats status text → IsProgramRefused status
no_vats tell script trees [] place vat status text is none due = absurd (none_some is)
no_vats tell script trees (v ∷ more) place vat status text is none (Err fault, answers, due) = fault_refuses (length trees) v.name fault status text due
no_vats tell script trees (v ∷ more) zero vat status text is none (Ok scoped, answers, due) =
    absurd (none scoped (subst (λ (u : VatScript). IsRead script.vats u (Ok scoped)) (some_is is) answers))
no_vats tell script trees (v ∷ more) (suc place) vat status text is none (Ok scoped, answers, due) =
    no_vats tell script (trees ++ scoped.tree ∷ []) more place vat status text is none due

tree_there : (command : Option Command) (input : List ℕ) (status : Status) (text : List ℕ) → IsDue command input status text
    → HasNoTree command input → IsProgramRefused status
tree_there None input status text due has = absurd has
tree_there (Some (Run wire)) input status text due (script, has, place, vat, is, none) =
    no_vats (text_of wire) script [] script.vats place vat status text is none (script_due (Some (Run wire)) input script status text has due)
tree_there (Some (Sum n)) input status text due (script, has, place, vat, is, none) =
    no_vats summary_of script [] script.vats place vat status text is none (script_due (Some (Sum n)) input script status text has due)
tree_there (Some Expand) input status text due (program, (few, found), none) =
    let d = rw (is_few most_bytes (length input) few, found) at due in no_form program d.0 status text d.1 d.2 none
tree_there (Some (Generate n)) input status text due has = absurd has
tree_there (Some Sturdy) input status text due has = absurd has
tree_there (Some Mint) input status text due has = absurd has
tree_there (Some Check) input status text due has = absurd has

-- ---- a run that stops

fuel_stop : (step : ℕ) (script : Script) (text : List ℕ) (r : machine.Run) → (due_of_run script text r).status ≡ FuelSpent step → (world : World) × (r ≡ Stopped Fuel step world)
fuel_stop step script text (Goes w) e = cc
fuel_stop step script text (Stopped Fuel k w) e = let same : k ≡ step = cc in (w, ap (λ n. Stopped Fuel n w) same)
fuel_stop step script text (Stopped Deep k w) e = cc
fuel_stop step script text (Stopped (Repeated i j) k w) e = cc
fuel_stop step script text (Stopped Astray k w) e = cc

deep_stop : (step : ℕ) (script : Script) (text : List ℕ) (r : machine.Run) → (due_of_run script text r).status ≡ TooDeep step → (world : World) × (r ≡ Stopped Deep step world)
deep_stop step script text (Goes w) e = cc
deep_stop step script text (Stopped Fuel k w) e = cc
deep_stop step script text (Stopped Deep k w) e = let same : k ≡ step = cc in (w, ap (λ n. Stopped Deep n w) same)
deep_stop step script text (Stopped (Repeated i j) k w) e = cc
deep_stop step script text (Stopped Astray k w) e = cc

drew_stop : (first second : ℕ) (script : Script) (text : List ℕ) (r : machine.Run) → (due_of_run script text r).status ≡ WordRepeated first second
    → (step : ℕ) × (world : World) × (r ≡ Stopped (Repeated first second) step world)
drew_stop first second script text (Goes w) e = cc
drew_stop first second script text (Stopped Fuel k w) e = cc
drew_stop first second script text (Stopped Deep k w) e = cc
drew_stop first second script text (Stopped (Repeated i j) k w) e =
    let firsts : i ≡ first = cc in let seconds : j ≡ second = cc in (k, w, rw (firsts, seconds) refl)
drew_stop first second script text (Stopped Astray k w) e = cc

astray_stop : (script : Script) (text : List ℕ) (r : machine.Run) → IsAstray (due_of_run script text r).status → (step : ℕ) × (world : World) × (r ≡ Stopped Astray step world)
astray_stop script text (Goes w) is = absurd is
astray_stop script text (Stopped Fuel k w) is = absurd is
astray_stop script text (Stopped Deep k w) is = absurd is
astray_stop script text (Stopped (Repeated i j) k w) is = absurd is
astray_stop script text (Stopped Astray k w) is = (k, w, refl)

astray_never : (command : Option Command) (input : List ℕ) (status : Status) → Why command input status → IsAstray status → ⊥
astray_never command input status (Misused e) is = subst IsAstray e is
astray_never command input status (Long long e) is = subst IsAstray e is
astray_never command input status (Broken rule breaks e) is = subst IsAstray e is
astray_never command input status (Faulty vat part kind place fault e) is = stage_apart part (subst IsAstray e is)
astray_never command input status (Ran tell script programs has e) is =
    let stop = astray_stop script _ (run_of script programs) (subst IsAstray e is) in no_run_goes_astray command input script programs has stop.0 stop.1 stop.2
astray_never command input status (Drew first second repeats e) is = subst IsAstray e is
astray_never command input status (Finished e) is = subst IsAstray e is

fuel_only : (step : ℕ) (command : Option Command) (input : List ℕ) (status : Status) → Why command input status → status ≡ FuelSpent step → Stops Fuel step command input
fuel_only step command input status (Misused e) is = cc
fuel_only step command input status (Long long e) is = cc
fuel_only step command input status (Broken rule breaks e) is = cc
fuel_only step command input status (Faulty vat part kind place fault e) is = cc
fuel_only step command input status (Ran tell script programs has e) is =
    let stop = fuel_stop step script _ (run_of script programs) (sym e ∙ is) in (script, (programs, has, stop.0, stop.1))
fuel_only step command input status (Drew first second repeats e) is = cc
fuel_only step command input status (Finished e) is = cc

deep_only : (step : ℕ) (command : Option Command) (input : List ℕ) (status : Status) → Why command input status → status ≡ TooDeep step → Stops Deep step command input
deep_only step command input status (Misused e) is = cc
deep_only step command input status (Long long e) is = cc
deep_only step command input status (Broken rule breaks e) is = cc
deep_only step command input status (Faulty vat part kind place fault e) is = cc
deep_only step command input status (Ran tell script programs has e) is =
    let stop = deep_stop step script _ (run_of script programs) (sym e ∙ is) in (script, (programs, has, stop.0, stop.1))
deep_only step command input status (Drew first second repeats e) is = cc
deep_only step command input status (Finished e) is = cc

-- ---- a draw that repeats another

drew_once : (a b c d : ℕ) (command : Option Command) (input : List ℕ) → WordRepeated a b ≡ WordRepeated c d → RepeatsWord a b command input → RepeatsWord c d command input
drew_once a b c d command input e repeats =
    let firsts : a ≡ c = cc in
    let seconds : b ≡ d = cc in
    subst (λ (n : ℕ). RepeatsWord c n command input) seconds (subst (λ (n : ℕ). RepeatsWord n b command input) firsts repeats)

drew_only : (first second : ℕ) (command : Option Command) (input : List ℕ) (status : Status) → Why command input status → status ≡ WordRepeated first second
    → RepeatsWord first second command input
drew_only first second command input status (Misused e) is = cc
drew_only first second command input status (Long long e) is = cc
drew_only first second command input status (Broken rule breaks e) is = cc
drew_only first second command input status (Faulty vat part kind place fault e) is = cc
drew_only first second command input status (Ran tell script programs has e) is =
    let stop = drew_stop first second script _ (run_of script programs) (sym e ∙ is) in
    inr (stop.0, (script, (programs, has, stop.1, stop.2)))
drew_only first second command input status (Drew one other repeats e) is = drew_once one other first second command input (sym e ∙ is) repeats
drew_only first second command input status (Finished e) is = cc

-- ---- what is due where the programs of a script are read

read_due : (command : Option Command) (input : List ℕ) (script : Script) (programs : List Scoped) (status : Status) (text : List ℕ)
    → HasPrograms command input script programs → IsDue command input status text → IsDueOfTrees (told_of command) script (trees_of programs) status text
read_due command input script programs status text (has, are) due =
    due_behind (told_of command) script [] script.vats [] programs status text are
    (subst (λ (vs : List VatScript). IsDueOfVats (told_of command) script [] vs status text) (sym (append-nil script.vats)) (script_due command input script status text has due))

-- the status of a run that stops
abbrev stopped_as : Script → Stop → ℕ → Status
stopped_as script Fuel step = FuelSpent step
stopped_as script Deep step = TooDeep step
stopped_as script (Repeated i j) step = WordRepeated i j
stopped_as script Astray step = ProgramRefused (astray (vat_of_step script step))

stop_due : (script : Script) (text : List ℕ) (stop : Stop) (step : ℕ) (w : World) → (due_of_run script text (Stopped stop step w)).status ≡ stopped_as script stop step
stop_due script text Fuel step w = refl
stop_due script text Deep step w = refl
stop_due script text (Repeated i j) step w = refl
stop_due script text Astray step w = refl

stop_there : (script : Script) (stop : Stop) (step : ℕ) (command : Option Command) (input : List ℕ) (status : Status) (text : List ℕ) → IsDue command input status text
    → StopsIn script stop step command input → status ≡ stopped_as script stop step
stop_there script stop step command input status text due (programs, has, world, stops) =
    let written = told_of command (script_of script programs greatest_depth) in
    (read_due command input script programs status text has due).0 ∙ ap (λ (r : machine.Run). (due_of_run script written r).status) stops
    ∙ stop_due script written stop step world

drew_there : (first second : ℕ) (command : Option Command) (input : List ℕ) (status : Status) (text : List ℕ) → IsDue command input status text
    → RepeatsWord first second command input → status ≡ WordRepeated first second
drew_there first second command input status text due (inl (is, few, ending, e, repeated)) =
    let d : IsDue (Some Sturdy) input status text = subst (λ (c : Option Command). IsDue c input status text) is due in
    (subst (λ (found : Result sturdy.Ending ℕ). IsDueOfSturdy found status text) e (few_due Sturdy input status text refl few d)).0
    ∙ ap status_of repeated
drew_there first second command input status text due (inr (step, (script, stops))) = stop_there script (Repeated first second) step command input status text due stops

-- ---- of a call

-- of all that a source has left
abbrev OfLeft : Option (List ℕ) → Option (List ℕ) → Option (List ℕ) → Status → Option Command → Type 0
OfLeft left held held' result command = IfSome left (λ input. Pays held held' result command input)

pub long_comes : (left held held' : Option (List ℕ)) (result : Status) (command : Option Command) → OfLeft left held held' result command
    → IfSome left (λ input. ComesWhere (λ s. s ≡ TooLong) result (IsLong command input))
long_comes None held held' result command pays = tt
long_comes (Some input) held held' result command (written, appends, pays) = (
  only (λ s. s ≡ TooLong) (IsLong command input) result command input written (λ stopped is. subst IsInterrupted is stopped)
      (long_only command input result) pays,
  there (λ s. s ≡ TooLong) (IsLong command input) result command input written (long_there command input result written) pays,
)

pub rule_comes : (left held held' : Option (List ℕ)) (result : Status) (command : Option Command) → OfLeft left held held' result command
    → IfSome left (λ input. (rule : ℕ) → ComesWhere (λ s. s ≡ ScriptRefused rule) result (Breaks rule command input))
rule_comes None held held' result command pays = tt
rule_comes (Some input) held held' result command (written, appends, pays) = λ rule. (
  only (λ s. s ≡ ScriptRefused rule) (Breaks rule command input) result command input written (λ stopped is. subst IsInterrupted is stopped)
      (rule_only rule command input result) pays,
  there (λ s. s ≡ ScriptRefused rule) (Breaks rule command input) result command input written (rule_there rule command input result written) pays,
)

pub fault_comes : (left held held' : Option (List ℕ)) (result : Status) (command : Option Command) → OfLeft left held held' result command
    → IfSome left (λ input. (vat : ℕ) (part : Part) (kind place : ℕ) → ComesWhere (λ s. s ≡ ProgramRefused (refusal vat part kind place)) result (HasFault vat part kind place command input))
fault_comes None held held' result command pays = tt
fault_comes (Some input) held held' result command (written, appends, pays) = λ vat part kind place. (
  only (IsRefused vat part kind place) (HasFault vat part kind place command input) result command input written (λ stopped is. subst IsInterrupted is stopped)
      (fault_only vat part kind place command input result) pays,
  there (IsRefused vat part kind place) (HasFault vat part kind place command input) result command input written
      (fault_there vat part kind place command input result written) pays,
)

pub no_tree_comes : (left held held' : Option (List ℕ)) (result : Status) (command : Option Command) → OfLeft left held held' result command
    → IfSome left (λ input. Follows IsProgramRefused result (HasNoTree command input))
no_tree_comes None held held' result command pays = tt
no_tree_comes (Some input) held held' result command (written, appends, pays) =
    there IsProgramRefused (HasNoTree command input) result command input written (tree_there command input result written) pays

none_interrupted : (status : Status) → IsInterrupted status → IsAstray status → ⊥
none_interrupted ReadFault stopped is = is
none_interrupted WriteFault stopped is = is
none_interrupted Memory stopped is = is
none_interrupted _ stopped is = stopped

pub none_astray : (left held held' : Option (List ℕ)) (result : Status) (command : Option Command) → OfLeft left held held' result command → IfSome left (λ input. IsAstray result → ⊥)
none_astray None held held' result command pays = tt
none_astray (Some input) held held' result command (written, appends, pays) =
    only IsAstray ⊥ result command input written (none_interrupted result) (astray_never command input result) pays

pub fuel_comes : (left held held' : Option (List ℕ)) (result : Status) (command : Option Command) → OfLeft left held held' result command
    → IfSome left (λ input. (step : ℕ) → ComesWhere (λ s. s ≡ FuelSpent step) result (Stops Fuel step command input))
fuel_comes None held held' result command pays = tt
fuel_comes (Some input) held held' result command (written, appends, pays) = λ step. (
  only (λ s. s ≡ FuelSpent step) (Stops Fuel step command input) result command input written (λ stopped is. subst IsInterrupted is stopped)
      (fuel_only step command input result) pays,
  there (λ s. s ≡ FuelSpent step) (Stops Fuel step command input) result command input written
      (λ due stops. stop_there stops.0 Fuel step command input result written due stops.1) pays,
)

pub deep_comes : (left held held' : Option (List ℕ)) (result : Status) (command : Option Command) → OfLeft left held held' result command
    → IfSome left (λ input. (step : ℕ) → ComesWhere (λ s. s ≡ TooDeep step) result (Stops Deep step command input))
deep_comes None held held' result command pays = tt
deep_comes (Some input) held held' result command (written, appends, pays) = λ step. (
  only (λ s. s ≡ TooDeep step) (Stops Deep step command input) result command input written (λ stopped is. subst IsInterrupted is stopped)
      (deep_only step command input result) pays,
  there (λ s. s ≡ TooDeep step) (Stops Deep step command input) result command input written
      (λ due stops. stop_there stops.0 Deep step command input result written due stops.1) pays,
)

pub drew_comes : (left held held' : Option (List ℕ)) (result : Status) (command : Option Command) → OfLeft left held held' result command
    → IfSome left (λ input. (first second : ℕ) → ComesWhere (λ s. s ≡ WordRepeated first second) result (RepeatsWord first second command input))
drew_comes None held held' result command pays = tt
drew_comes (Some input) held held' result command (written, appends, pays) = λ first second. (
  only (λ s. s ≡ WordRepeated first second) (RepeatsWord first second command input) result command input written
      (λ stopped is. subst IsInterrupted is stopped) (drew_only first second command input result) pays,
  there (λ s. s ≡ WordRepeated first second) (RepeatsWord first second command input) result command input written
      (drew_there first second command input result written) pays,
)

-- without a fault
abbrev IsWholeAnswer : Option Command → List ℕ → Status → Type 0
IsWholeAnswer command input result = result ≡ Memory ⊎ ((text : List ℕ) × IsDue command input result text)

complete_with : (status : Status) (written : List ℕ) (command : Option Command) (input : List ℕ) → (status ≡ ReadFault → ⊥) → (status ≡ WriteFault → ⊥)
    → PaysWith status written command input → IsWholeAnswer command input status
complete_with Done written command input r w pays = inr (written, pays)
complete_with Usage written command input r w pays = inr (written, pays)
complete_with ReadFault written command input r w pays = absurd (r refl)
complete_with WriteFault written command input r w pays = absurd (w refl)
complete_with TooLong written command input r w pays = inr (written, pays)
complete_with (ScriptRefused k) written command input r w pays = inr (written, pays)
complete_with (ProgramRefused f) written command input r w pays = inr (written, pays)
complete_with (FuelSpent step) written command input r w pays = inr (written, pays)
complete_with (TooDeep step) written command input r w pays = inr (written, pays)
complete_with (WordRepeated first second) written command input r w pays = inr (written, pays)
complete_with Memory written command input r w pays = inl refl

pub complete_comes : (left held held' : Option (List ℕ)) (result : Status) (command : Option Command) (R W : Type 0)
    → (result ≡ ReadFault → R) → (result ≡ WriteFault → W) → OfLeft left held held' result command
    → IfSome left (λ input. (R → ⊥) → (W → ⊥) → result ≡ Memory ⊎ ((text : List ℕ) × IsDue command input result text))
complete_comes None held held' result command R W r w pays = tt
complete_comes (Some input) held held' result command R W r w (written, appends, pays) =
    λ no_read no_write. complete_with result written command input (λ is. no_read (r is)) (λ is. no_write (w is)) pays
