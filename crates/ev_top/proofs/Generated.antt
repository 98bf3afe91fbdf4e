-- The script that is generated for a summary, and the statuses that a summary may have.
use Rattle.std.proofs.Common.{◌≡◌, ◌≤◌, ℕ, Bool, true, false, ◌&&◌, List, [], ◌∷◌, codes, Option, Some, None, if◌then◌else◌, option_map, IfSome, Result, Ok, Err, length, refl, sym, ◌∙◌, subst, arith}
use Rattle.std.specs.Prelude.{nat_le, nat_lt}
use Rattle.std.specs.Str.{bytes_eq}
use Rattle.std.specs.Str.Parse.{digits_value}
use Rattle.std.proofs.lemmas.Bool.Decides.{nat_tests}
use Rattle.std.proofs.lemmas.List.{length-map}
use Rattle.ev_text.specs.Lines.{bounded, is_numeral, number}
use Rattle.ev_generate.specs.Generated.{generated}
use Rattle.ev_script.specs.declared.script.Script.{Script}
use Rattle.law_read.specs.Generated.Accepted.{generated_script, generated_schedule}
use Rattle.law_read.proofs.Generated.Acceptance.{are_long, are_read}
use Rattle.law_schedule.specs.Scripts.{machine_entry}
use Rattle.ev_top.specs.Causes.{Breaks, ComesWhere, HasScript, IsLong}
use Rattle.ev_top.specs.Commands.{command_alone, command_of, command_of_number, command_of_run, command_of_sum, command_with, most_generated}
use Rattle.ev_top.specs.Due.{IsReading}
use Rattle.ev_top.specs.Headline.{IsOfSum, StepsAreKnown, SumsUp}
use Rattle.ev_script.specs.Script.{read as script_from}
use Rattle.ev_top.specs.declared.command.Command.{Command}
use Rattle.ev_top.specs.declared.command.Command.TheVariants.{Run, Expand, Generate, Sum, Sturdy, Mint, Check}
use Rattle.ev_io.specs.declared.status.Status.{Status}
use Rattle.ev_io.specs.declared.status.Status.TheVariants.{Done, Usage, ReadFault, WriteFault, TooLong, ScriptRefused, ProgramRefused, FuelSpent, TooDeep, WordRepeated, Memory}

-- ---- how long its run is

pub steps_are : StepsAreKnown
steps_are n trees =
    let l = are_long n in
    let vats = l.0 in
    let entries = length-map (generated_schedule n) machine_entry in
    let long = l.1 in
    omega (arith, entries, long)

-- ---- the number behind the word

-- whether a command sums up for that number, as a number
abbrev sums : ℕ → Option Command → Bool
sums n (Some (Sum m)) = nat_le m most_generated
sums n _ = true

few_alone : (n : ℕ) (word : List ℕ) → sums n (command_alone word) ≡ true
few_alone n word = by (bytes_eq word (codes "run")) (bytes_eq word (codes "expand")) (bytes_eq word (codes "sturdy")) (bytes_eq word (codes "mint")) (bytes_eq word (codes "check"))
  where
    by : (a b c d e : Bool) → sums n (if a then Some (Run false) else if b then Some Expand else if c then Some Sturdy else if d then Some Mint else if e then Some Check else None) ≡ true
    by true b c d e = refl
    by false true c d e = refl
    by false false true d e = refl
    by false false false true e = refl
    by false false false false true = refl
    by false false false false false = refl

few_bounded : (n : ℕ) (text : List ℕ) → sums n (option_map Sum (bounded most_generated text)) ≡ true
few_bounded n text = by (nat_lt 0 (length text)) (nat_le (digits_value 10 text) most_generated) refl
  where
    by : (a b : Bool) → nat_le (digits_value 10 text) most_generated ≡ b → sums n (option_map Sum (if a && b then Some (digits_value 10 text) else None)) ≡ true
    by true true e = e
    by true false e = refl
    by false b e = refl

few_sum : (n : ℕ) (text : List ℕ) → sums n (command_of_sum text) ≡ true
few_sum n text = by (is_numeral text)
  where
    by : (a : Bool) → sums n (option_map Sum (if a then bounded most_generated text else None)) ≡ true
    by true = few_bounded n text
    by false = refl

few_run : (n : ℕ) (text : List ℕ) → sums n (command_of_run text) ≡ true
few_run n text = by (bytes_eq text (codes "wire"))
  where
    by : (a : Bool) → sums n (if a then Some (Run true) else None) ≡ true
    by true = refl
    by false = refl

few_generate : (n : ℕ) (o : Option ℕ) → sums n (option_map Generate o) ≡ true
few_generate n None = refl
few_generate n (Some m) = refl

few_with : (n : ℕ) (word text : List ℕ) → sums n (command_with word text) ≡ true
few_with n word text = by (bytes_eq word (codes "run")) (bytes_eq word (codes "gen")) (bytes_eq word (codes "sum"))
  where
    by : (a b c : Bool) → sums n (if a then command_of_run text else if b then command_of_number text else if c then command_of_sum text else None) ≡ true
    by true b c = few_run n text
    by false true c = few_generate n (number most_generated text)
    by false false true = few_sum n text
    by false false false = refl

few_words : (n : ℕ) (words : List (List ℕ)) → sums n (command_of words) ≡ true
few_words n [] = refl
few_words n (word ∷ []) = few_alone n word
few_words n (word ∷ text ∷ []) = few_with n word text
few_words n (word ∷ text ∷ other ∷ rest) = refl

at_most : (n most : ℕ) → nat_le n most ≡ true → n ≤ most
at_most n most h = grind (arith, nat_tests)

few : (n : ℕ) (words : List (List ℕ)) → command_of words ≡ Some (Sum n) → n ≤ 3000
few n words is = at_most n most_generated (subst (λ (c : Option Command). sums n c ≡ true) is (few_words n words))

-- ---- the statuses

unbroken : (n rule : ℕ) (script : Script) → script_from (generated n) ≡ Ok script → script_from (generated n) ≡ Err rule → ⊥
unbroken n rule script read broken = apart (sym read ∙ broken)
  where
    apart : {A : Type 0} {a : A} → Result.Ok a ≡ Err rule → ⊥
    apart e = cc

no_usage : (command : Option Command) (n : ℕ) → command ≡ Some (Sum n) → command ≡ None → ⊥
no_usage command n is none = let e : None ≡ Some (Sum n) = sym none ∙ is in cc

status_of_sum : (n : ℕ) (input : List ℕ) (status : Status) (script : Script) → script_from (generated n) ≡ Ok script → (status ≡ Usage → ⊥) → (status ≡ ReadFault → ⊥)
    → (status ≡ TooLong → IsLong (Some (Sum n)) input) → ((rule : ℕ) → status ≡ ScriptRefused rule → Breaks rule (Some (Sum n)) input) → IsOfSum status
status_of_sum n input Done script read usage fault long rule = tt
status_of_sum n input Usage script read usage fault long rule = usage refl
status_of_sum n input ReadFault script read usage fault long rule = fault refl
status_of_sum n input WriteFault script read usage fault long rule = tt
status_of_sum n input TooLong script read usage fault long rule = let l = long refl in let e = l.0 in cc
status_of_sum n input (ScriptRefused k) script read usage fault long rule = unbroken n k script read (rule k refl)
status_of_sum n input (ProgramRefused r) script read usage fault long rule = tt
status_of_sum n input (FuelSpent step) script read usage fault long rule = tt
status_of_sum n input (TooDeep step) script read usage fault long rule = tt
status_of_sum n input (WordRepeated first second) script read usage fault long rule = tt
status_of_sum n input Memory script read usage fault long rule = tt

unread_sum : (command : Option Command) (n : ℕ) → command ≡ Some (Sum n) → IsReading command → ⊥
unread_sum command n is reading = let e : false ≡ true = subst IsReading is reading in cc

-- of a call, by the other clauses
pub summed : (left : Option (List ℕ)) (words : List (List ℕ)) (result : Status) → (result ≡ Usage → command_of words ≡ None)
    → ((IsReading (command_of words) → ⊥) → result ≡ ReadFault → ⊥)
    → IfSome left (λ input. ComesWhere (λ s. s ≡ TooLong) result (IsLong (command_of words) input))
    → IfSome left (λ input. (rule : ℕ) → ComesWhere (λ s. s ≡ ScriptRefused rule) result (Breaks rule (command_of words) input))
    → IfSome left (λ input. SumsUp result (command_of words) input)
summed None words result usage unread long rule = tt
summed (Some input) words result usage unread long rule = λ n is.
    let read = are_read n (few n words is) in (
      status_of_sum n input result (generated_script n) read (λ e. no_usage (command_of words) n is (usage e)) (unread (unread_sum (command_of words) n is))
          (λ e. subst (λ (c : Option Command). IsLong c input) is (long.0 e)) (λ k e. subst (λ (c : Option Command). Breaks k c input) is ((rule k).0 e)),
      subst (λ (c : Option Command). HasScript c input (generated_script n)) (sym is) read,
    )
