-- The items of a lawful operation say what it may.
use Rattle.std.proofs.Common.{◌≡◌, ℕ, suc, ◌≤◌, Bool, true, false, not, nat_lt, ◌==◌, ◌&&◌, List, [], ◌∷◌, ◌++◌, length, Option, Some, None, refl, ap, sym, ◌∙◌, arith}
use Rattle.def_op.specs.declared.spots.Part.{Part}
use Rattle.def_op.specs.declared.spots.Part.TheVariants.{Code, Number, Vat, Swiss, Other}
use Rattle.def_op.specs.Frames.{Described, Datum, ListOf, Broken, YourExport, YourAnswer, MyExport, MyPromise, Third, MyAnswer, Members, count, Outcome, To, Elsewhere, Operation, Deliver, Resolve, Provide, Accept, Shorten, DeliverOnly, IsOp, IsSubject}
use Rattle.def_op.specs.Reading.{op_at}
use Rattle.def_op.specs.Items.{Walk, On as Goes, Off as Ends, walk_op, parts_of, items_of}
use Rattle.def_hostile.specs.Judge.{Counts, Look, On, begins, onward, asks, number_passes, numbered_by, is_elsewhere, is_bad_target, is_name_code, code_passes, item_passes, first_look}
use Rattle.law_judge.specs.PartsOf.{first_code, parts_behind, parts_all, parts_in, parts_outcome, parts_message, parts_op}
use Rattle.law_judge.specs.Points.{then_gather, allowed, allowed_then, is_known_name, is_other, is_third, in_described, in_members, in_outcome, in_operation}
use Rattle.law_judge.specs.Statements.{LawfulMeetsThePoints}
use Rattle.law_judge.proofs.ReadParts.{Says as WalkSays, Said, behind, parts_at, op_says}
use Rattle.law_judge.proofs.Running.{run, same_look, splits, passed, judged_runs, code_runs, number_runs, other_runs, swiss_runs, vat_runs}
use Rattle.law_judge.proofs.Meeting.{Gathers, says, all_say, my_promise_says, my_answer_says}
use Rattle.law_judge.proofs.Spelled.{lawful_stands, is_spelled}

-- what is known behind the byte of an operation
abbrev begun_at : ℕ → Look
begun_at b = record { index = 1; op = b; code = None; new = [] }

pub and_true : (b : Bool) → (b && true) ≡ b
and_true true = refl
and_true false = refl

-- a first byte of no name stands before no name
known_by : (d : Described) → is_name_code (first_code d) ≡ false → is_known_name d ≡ false
unfolding is_name_code first_code is_known_name
known_by (Datum p) e = refl
known_by (ListOf ds) e = refl
known_by (Broken t) e = refl
known_by (YourExport n) e = absurd cc
known_by (YourAnswer n) e = absurd cc
known_by (MyExport n) e = refl
known_by (MyPromise n) e = absurd cc
known_by (Third host s) e = absurd cc
known_by (MyAnswer n) e = absurd cc

module _ (vats me peer : ℕ) (c : Counts) where
  op_runs : (b : ℕ) (ps : List Part) (after : Look) → run vats me peer c (Code b ∷ ps) first_look ≡ On after → run vats me peer c ps (begun_at b) ≡ On after
  unfolding item_passes code_passes begins first_look
  op_runs b ps after e = e

  -- the question of a message, and of a gift that is asked for
  deliver_asks : (n : ℕ) (ps : List Part) (after : Look) → run vats me peer c (Number n ∷ ps) (begun_at 1) ≡ On after → ((n == c.answers) ≡ true) × (run vats me peer c ps (onward None (begun_at 1)) ≡ On after)
  unfolding item_passes number_passes asks
  deliver_asks n ps after e = passed vats me peer c ps (n == c.answers) (onward None (begun_at 1)) after e

  accept_asks : (n : ℕ) (ps : List Part) (after : Look) → run vats me peer c (Number n ∷ ps) (begun_at 4) ≡ On after → ((n == c.answers) ≡ true) × (run vats me peer c ps (onward None (begun_at 4)) ≡ On after)
  unfolding item_passes number_passes asks
  accept_asks n ps after e = passed vats me peer c ps (n == c.answers) (onward None (begun_at 4)) after e

  -- a count behind what is not looked at
  count_runs : (n : ℕ) (ps : List Part) (l after : Look) → 1 ≤ l.index → run vats me peer c (Other ∷ Number n ∷ ps) l ≡ On after → run vats me peer c ps (onward None (onward None l)) ≡ On after
  unfolding onward numbered_by
  count_runs n ps l after some e = number_runs vats me peer c n ps (onward None l) after (omega (arith, some)) (other_runs vats me peer c (Number n ∷ ps) l after e)

  message_meets : (target : Described) (args : Members) (l after : Look) → 1 ≤ l.index → run vats me peer c (parts_message target args) l ≡ On after
      → then_gather (in_members vats me peer c args) (in_described vats me peer c target l.new) ≡ Some after.new
  unfolding onward then_gather
  message_meets target args l after some e =
      let parts = splits vats me peer c (parts_in target) (Other ∷ Number (count args) ∷ parts_all args) l after e in
      let g = says vats me peer c target l parts.0 some parts.1 in
      let rest = count_runs (count args) (parts_all args) parts.0 after (omega (arith, some, g.2)) parts.2 in
      let h = all_say vats me peer c args (onward None (onward None parts.0)) after (omega arith) rest in
      rw g.0 h.0

  -- a swiss number at the end
  swiss_ends : (s : ℕ) (l after : Look) → run vats me peer c (Swiss s ∷ []) l ≡ On after → l.new ≡ after.new
  unfolding onward
  swiss_ends s l after e = ap (λ (m : Look). m.new) (same_look (onward None l) after (swiss_runs vats me peer c s [] l after e))

  named_meets : (d : Described) (s : ℕ) (l after : Look) → 1 ≤ l.index → run vats me peer c (parts_in d ++ (Swiss s ∷ [])) l ≡ On after → in_described vats me peer c d l.new ≡ Some after.new
  named_meets d s l after some e =
      let parts = splits vats me peer c (parts_in d) (Swiss s ∷ []) l after e in
      let g = says vats me peer c d l parts.0 some parts.1 in
      g.0 ∙ ap Some (swiss_ends s parts.0 after parts.2)

  -- ---- what a promise came to

  not_name : (b : ℕ) (l : Look) → l.index ≡ 3 → l.op ≡ 2 → is_bad_target vats me peer c b l ≡ false → is_name_code b ≡ false
  unfolding is_bad_target
  not_name b l i o e = let is : is_bad_target vats me peer c b l ≡ is_name_code b = rw (i, o) refl in sym is ∙ e

  outcome_meets : (to : Outcome) (l after : Look) → l.index ≡ 3 → l.op ≡ 2 → run vats me peer c (parts_outcome to) l ≡ On after → in_outcome vats me peer c to l.new ≡ Some after.new
  unfolding parts_outcome in_outcome allowed_then allowed is_other is_elsewhere onward
  outcome_meets (To d) l after i o e =
      let bad = (code_runs vats me peer c (first_code d) (parts_behind d) l after (omega (arith, i)) e).0 in
      let known = known_by d (not_name (first_code d) l i o bad) in
      let g = says vats me peer c d l after (omega (arith, i)) e in
      rw known g.0
  outcome_meets (Elsewhere host) l after i o e =
      let code = (code_runs vats me peer c 15 (Vat host ∷ []) l after (omega (arith, i)) e).1 in
      let vat = vat_runs vats me peer c host [] (onward (Some 15) l) after code in
      let other : (nat_lt host vats && not (host == peer)) ≡ true = ap (λ (b : Bool). nat_lt host vats && b) (sym (and_true (not (host == peer)))) ∙ vat.0 in
      rw other (ap (λ (m : Look). Some m.new) (same_look (onward None (onward (Some 15) l)) after vat.1))

  subject_meets : (d : Described) → IsSubject d → (l after : Look) → 1 ≤ l.index → run vats me peer c (parts_in d) l ≡ On after → Gathers (in_described vats me peer c d) l after × (after.index ≡ suc (suc l.index))
  unfolding IsSubject
  subject_meets (MyPromise n) is l after some e = my_promise_says vats me peer c n l after some e
  subject_meets (MyAnswer n) is l after some e = my_answer_says vats me peer c n l after some e
  subject_meets (Datum p) is l after some e = absurd is
  subject_meets (ListOf ds) is l after some e = absurd is
  subject_meets (Broken t) is l after some e = absurd is
  subject_meets (YourExport n) is l after some e = absurd is
  subject_meets (YourAnswer n) is l after some e = absurd is
  subject_meets (MyExport n) is l after some e = absurd is
  subject_meets (Third host s) is l after some e = absurd is

  -- ---- the whole

  op_meets : (op : Operation) → IsOp op → (after : Look) → run vats me peer c (parts_op op) first_look ≡ On after → in_operation vats me peer c op [] ≡ Some after.new
  unfolding parts_op in_operation IsOp allowed_then then_gather allowed is_third is_elsewhere onward
  op_meets (Deliver q target verb args) is after e =
      let question = deliver_asks q (parts_message target args) after (op_runs 1 (Number q ∷ parts_message target args) after e) in
      rw question.0 (message_meets target args (onward None (begun_at 1)) after (omega arith) question.1)
  op_meets (Resolve subject to) is after e =
      let parts = splits vats me peer c (parts_in subject) (parts_outcome to) (begun_at 2) after (op_runs 2 (parts_in subject ++ parts_outcome to) after e) in
      let g = subject_meets subject is.0 (begun_at 2) parts.0 (omega arith) parts.1 in
      rw g.0.0 (outcome_meets to parts.0 after g.1 g.0.1 parts.2)
  op_meets (Provide target s) is after e = named_meets target s (begun_at 3) after (omega arith) (op_runs 3 (parts_in target ++ (Swiss s ∷ [])) after e)
  op_meets (Accept q provider s) is after e =
      let question = accept_asks q (Vat provider ∷ Swiss s ∷ []) after (op_runs 4 (Number q ∷ Vat provider ∷ Swiss s ∷ []) after e) in
      let vat = vat_runs vats me peer c provider (Swiss s ∷ []) (onward None (begun_at 4)) after question.1 in
      rw (question.0, vat.0) (ap Some (swiss_ends s (onward None (onward None (begun_at 4))) after vat.1))
  op_meets (Shorten subject s) is after e = named_meets subject s (begun_at 5) after (omega arith) (op_runs 5 (parts_in subject ++ (Swiss s ∷ [])) after e)
  op_meets (DeliverOnly target verb args) is after e = message_meets target args (begun_at 6) after (omega arith) (op_runs 6 (parts_message target args) after e)

-- the items of bytes are those of the operation that they spell
pub items_are : (bytes : List ℕ) (w : Walk (List ℕ)) (o : Option (Operation × List ℕ)) (x : Operation × List ℕ) → WalkSays behind Said [] w o → o ≡ Some x → parts_at (parts_of bytes w).spots ≡ parts_op x.0
items_are bytes (Goes spots rest) (Some y) x h e = h.1.1 ∙ h.1.2 ∙ ap (λ (z : Operation × List ℕ). parts_op z.0) (the_same y x e)
  where
    the_one : Operation × List ℕ → Option (Operation × List ℕ) → Operation × List ℕ
    the_one d (Some z) = z
    the_one d None = d

    the_same : (y x : Operation × List ℕ) → Some y ≡ Some x → y ≡ x
    the_same y x e = ap (the_one y) e
items_are bytes (Goes spots rest) None x h e = absurd h
items_are bytes (Ends spots place) (Some y) x h e = absurd h
items_are bytes (Ends spots place) None x h e = absurd cc

pub meets_the_points : LawfulMeetsThePoints
meets_the_points vats me peer c bytes op new fits e =
    let stands = lawful_stands vats me peer c bytes op new e in
    let spelled = is_spelled vats me peer c bytes op new fits e in
    let runs = judged_runs vats me peer c (items_of bytes).spots first_look new stands.1 in
    let parts = items_are bytes (walk_op (length bytes) [] bytes) (op_at bytes) (op, stands.2.0) (op_says (length bytes) [] bytes) stands.2.1 in
    let ran = sym (ap (λ (ps : List Part). run vats me peer c ps first_look) parts) ∙ runs.1 in
    op_meets vats me peer c op spelled.0 runs.0 ran ∙ ap Some runs.2
