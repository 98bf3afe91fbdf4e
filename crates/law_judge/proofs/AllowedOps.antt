-- An operation that says what it may is lawful in its one spelling.
use Rattle.std.proofs.Common.{◌≡◌, ℕ, ◌≤◌, Bool, true, false, not, nat_lt, ◌==◌, ◌&&◌, List, [], ◌∷◌, ◌++◌, length, Option, Some, None, inl, inr, refl, ap, subst, sym, ◌∙◌, arith}
use Rattle.std.proofs.lemmas.List.{append-nil}
use Rattle.def_op.specs.declared.op.Plain.TheVariants as plain
use Rattle.def_op.specs.declared.spots.Part.{Part}
use Rattle.def_op.specs.declared.spots.Part.TheVariants.{Code, Number, Vat, Swiss, Other}
use Rattle.def_op.specs.Frames.{Described, Datum, ListOf, Broken, YourExport, YourAnswer, MyExport, MyPromise, Third, MyAnswer, Members, count, Outcome, To, Elsewhere, Operation, Deliver, Resolve, Provide, Accept, Shorten, DeliverOnly, IsOp, spelling}
use Rattle.def_op.specs.Reading.{op_at}
use Rattle.def_op.specs.Items.{Walk, On as Goes, Off as Ends, walk_op, parts_of, items_of}
use Rattle.def_hostile.specs.Judge.{Counts, Look, Judged, Fine, On, passes_where, onward, begins, asks, number_passes, numbered_by, is_elsewhere, is_bad_target, is_name_code, code_passes, item_passes, first_look, judged, lawful_if, verdict_by, verdict, Lawful}
use Rattle.ev_op.proofs.OpLemmas.{op_again}
use Rattle.law_judge.specs.PartsOf.{plain_code, first_code, parts_all, parts_in, parts_outcome, parts_message, parts_op}
use Rattle.law_judge.specs.Points.{then_gather, allowed, is_known_name, is_other, is_third, in_described, in_members, in_outcome, in_operation}
use Rattle.law_judge.specs.Statements.{MeetingIsLawful}
use Rattle.law_judge.proofs.ReadParts.{Says as WalkSays, Said, behind, op_says}
use Rattle.law_judge.proofs.Running.{run, then_look}
use Rattle.law_judge.proofs.Growing.{allowed_by, allowed_then_by, gathered_by}
use Rattle.law_judge.proofs.Operations.{items_are, and_true}
use Rattle.law_judge.proofs.Allowed.{joins, run_judges, number_goes, other_goes, swiss_goes, vat_goes, code_goes, passing, all_passing, name_passing}

abbrev begun_at : ℕ → Look
begun_at b = record { index = 1; op = b; code = None; new = [] }

-- no name stands behind a first byte of none
code_by : (d : Described) → is_known_name d ≡ false → is_name_code (first_code d) ≡ false
unfolding is_name_code first_code is_known_name plain_code
code_by (Datum plain.Null) e = refl
code_by (Datum (plain.Bool false)) e = refl
code_by (Datum (plain.Bool true)) e = refl
code_by (Datum (plain.Int z)) e = refl
code_by (Datum (plain.Char n)) e = refl
code_by (Datum (plain.Text t)) e = refl
code_by (Datum (plain.Prim n)) e = refl
code_by (ListOf ds) e = refl
code_by (Broken t) e = refl
code_by (YourExport n) e = absurd cc
code_by (YourAnswer n) e = absurd cc
code_by (MyExport n) e = refl
code_by (MyPromise n) e = absurd cc
code_by (Third host s) e = absurd cc
code_by (MyAnswer n) e = absurd cc

not_false : (b : Bool) → not b ≡ true → b ≡ false
not_false false e = refl
not_false true e = absurd cc

module _ (vats me peer : ℕ) (c : Counts) where
  abbrev Runs : List Part → Look → List Bool → Type 0
  Runs ps l after = (m : Look) × (run vats me peer c ps l ≡ On m) × (m.new ≡ after)

  op_goes : (b : ℕ) (ps : List Part) → run vats me peer c (Code b ∷ ps) first_look ≡ run vats me peer c ps (begun_at b)
  unfolding item_passes code_passes begins first_look
  op_goes b ps = refl

  deliver_goes : (n : ℕ) (ps : List Part) → (n == c.answers) ≡ true → run vats me peer c (Number n ∷ ps) (begun_at 1) ≡ run vats me peer c ps (onward None (begun_at 1))
  unfolding item_passes number_passes asks passes_where
  deliver_goes n ps e = ap (λ (b : Bool). then_look (run vats me peer c ps) (passes_where b (onward None (begun_at 1)))) e

  accept_goes : (n : ℕ) (ps : List Part) → (n == c.answers) ≡ true → run vats me peer c (Number n ∷ ps) (begun_at 4) ≡ run vats me peer c ps (onward None (begun_at 4))
  unfolding item_passes number_passes asks passes_where
  accept_goes n ps e = ap (λ (b : Bool). then_look (run vats me peer c ps) (passes_where b (onward None (begun_at 4)))) e

  -- a count behind what is not looked at
  count_goes : (n : ℕ) (ps : List Part) (l : Look) → 1 ≤ l.index → run vats me peer c (Other ∷ Number n ∷ ps) l ≡ run vats me peer c ps (onward None (onward None l))
  unfolding onward numbered_by
  count_goes n ps l some = other_goes vats me peer c (Number n ∷ ps) l ∙ number_goes vats me peer c n ps (onward None l) (omega (arith, some))

  message_goes : (target : Described) (args : Members) (l : Look) (after : List Bool) → 1 ≤ l.index → (l.op == 2) ≡ false → is_bad_target vats me peer c (first_code target) l ≡ false
      → then_gather (in_members vats me peer c args) (in_described vats me peer c target l.new) ≡ Some after → Runs (parts_message target args) l after
  unfolding onward
  message_goes target args l after some op bad e =
      let parts = gathered_by (in_members vats me peer c args) (in_described vats me peer c target l.new) after e in
      let g = passing vats me peer c target l parts.0 some (inl op) bad parts.1 in
      let m = onward None (onward None g.0) in
      let h = all_passing vats me peer c args m after (omega arith) (inl (ap (λ (n : ℕ). n == 2) g.3 ∙ op)) (ap (in_members vats me peer c args) g.2 ∙ parts.2) in
      (h.0, joins vats me peer c (parts_in target) (Other ∷ Number (count args) ∷ parts_all args) l (On g.0) g.1 ∙ count_goes (count args) (parts_all args) g.0 (omega (arith, some, g.4)) ∙ h.1, h.2)

  named_goes : (d : Described) (s : ℕ) (l : Look) (after : List Bool) → 1 ≤ l.index → (l.op == 2) ≡ false → is_bad_target vats me peer c (first_code d) l ≡ false
      → in_described vats me peer c d l.new ≡ Some after → Runs (parts_in d ++ (Swiss s ∷ [])) l after
  unfolding onward
  named_goes d s l after some op bad e =
      let g = passing vats me peer c d l after some (inl op) bad e in
      (onward None g.0, joins vats me peer c (parts_in d) (Swiss s ∷ []) l (On g.0) g.1 ∙ swiss_goes vats me peer c s [] g.0, g.2)

  bad_at : (b : ℕ) (l : Look) → l.index ≡ 3 → l.op ≡ 2 → is_bad_target vats me peer c b l ≡ is_name_code b
  unfolding is_bad_target
  bad_at b l i o = rw (i, o) refl

  not_bad_elsewhere : is_name_code 15 ≡ false
  unfolding is_name_code
  not_bad_elsewhere = refl

  outcome_goes : (to : Outcome) (l : Look) (after : List Bool) → l.index ≡ 3 → l.op ≡ 2 → in_outcome vats me peer c to l.new ≡ Some after → Runs (parts_outcome to) l after
  unfolding parts_outcome in_outcome is_other is_elsewhere onward
  outcome_goes (To d) l after i o e =
      let by = allowed_then_by (not (is_known_name d)) (in_described vats me peer c d) l.new after e in
      let bad = bad_at (first_code d) l i o ∙ code_by d (not_false (is_known_name d) by.0) in
      let g = passing vats me peer c d l after (omega (arith, i)) (inr (omega (arith, i))) bad by.1 in
      (g.0, g.1, g.2)
  outcome_goes (Elsewhere host) l after i o e =
      let by = allowed_by (nat_lt host vats && not (host == peer)) l.new after e in
      let other : (nat_lt host vats && (not (host == peer) && true)) ≡ true = ap (λ (b : Bool). nat_lt host vats && b) (and_true (not (host == peer))) ∙ by.0 in
      (onward None (onward (Some 15) l), code_goes vats me peer c 15 (Vat host ∷ []) l (omega (arith, i)) (bad_at 15 l i o ∙ not_bad_elsewhere) ∙ vat_goes vats me peer c host [] (onward (Some 15) l) other, by.1)

  -- no name is bad at the head of an operation
  head_good : (b op : ℕ) → is_bad_target vats me peer c b (begun_at op) ≡ false
  unfolding is_bad_target
  head_good b op = refl

  asked_good : (b : ℕ) → is_bad_target vats me peer c b (onward None (begun_at 1)) ≡ false
  unfolding is_bad_target onward
  asked_good b = refl

  op_passes : (op : Operation) → IsOp op → (after : List Bool) → in_operation vats me peer c op [] ≡ Some after → Runs (parts_op op) first_look after
  unfolding parts_op in_operation IsOp is_third is_elsewhere onward
  op_passes (Deliver q target verb args) is after e =
      let by = allowed_then_by (q == c.answers) (λ m. then_gather (in_members vats me peer c args) (in_described vats me peer c target m)) [] after e in
      let g = message_goes target args (onward None (begun_at 1)) after (omega arith) refl (asked_good (first_code target)) by.1 in
      (g.0, op_goes 1 (Number q ∷ parts_message target args) ∙ deliver_goes q (parts_message target args) by.0 ∙ g.1, g.2)
  op_passes (Resolve subject to) is after e =
      let parts = gathered_by (in_outcome vats me peer c to) (in_described vats me peer c subject []) after e in
      let g = name_passing vats me peer c subject is.0 (begun_at 2) parts.0 (omega arith) (head_good (first_code subject) 2) parts.1 in
      let h = outcome_goes to g.0 after g.4 g.3 (ap (in_outcome vats me peer c to) g.2 ∙ parts.2) in
      (h.0, op_goes 2 (parts_in subject ++ parts_outcome to) ∙ joins vats me peer c (parts_in subject) (parts_outcome to) (begun_at 2) (On g.0) g.1 ∙ h.1, h.2)
  op_passes (Provide target s) is after e =
      let g = named_goes target s (begun_at 3) after (omega arith) refl (head_good (first_code target) 3) e in
      (g.0, op_goes 3 (parts_in target ++ (Swiss s ∷ [])) ∙ g.1, g.2)
  op_passes (Accept q provider s) is after e =
      let by = allowed_then_by (q == c.answers) (allowed (is_third vats me peer c provider)) [] after e in
      let third = allowed_by (is_third vats me peer c provider) [] after by.1 in (
        onward None (onward None (onward None (begun_at 4))),
        op_goes 4 (Number q ∷ Vat provider ∷ Swiss s ∷ []) ∙ accept_goes q (Vat provider ∷ Swiss s ∷ []) by.0
            ∙ vat_goes vats me peer c provider (Swiss s ∷ []) (onward None (begun_at 4)) third.0 ∙ swiss_goes vats me peer c s [] (onward None (onward None (begun_at 4))),
        third.1,
      )
  op_passes (Shorten subject s) is after e =
      let g = named_goes subject s (begun_at 5) after (omega arith) refl (head_good (first_code subject) 5) e in
      (g.0, op_goes 5 (parts_in subject ++ (Swiss s ∷ [])) ∙ g.1, g.2)
  op_passes (DeliverOnly target verb args) is after e =
      let g = message_goes target args (begun_at 6) after (omega arith) refl (head_good (first_code target) 6) e in
      (g.0, op_goes 6 (parts_message target args) ∙ g.1, g.2)

  lawful_at : (bytes : List ℕ) (stop : Option ℕ) (j : Judged) (op : Operation) (new : List Bool) → stop ≡ None → j ≡ Fine new → op_at bytes ≡ Some (op, []) → verdict_by bytes stop j ≡ Lawful op new
  unfolding verdict_by lawful_if
  lawful_at bytes stop j op new none fine at = rw (none, fine, at) refl

-- nothing stops the walk over a whole operation
no_stop : (bytes : List ℕ) (w : Walk (List ℕ)) (op : Operation) → WalkSays behind Said [] w (Some (op, [])) → (parts_of bytes w).stop ≡ None
no_stop bytes (Goes spots rest) op h = rw h.0 refl
no_stop bytes (Ends spots place) op h = absurd h

pub is_lawful : MeetingIsLawful
unfolding verdict
is_lawful vats me peer c op new is e =
    let bytes = spelling op in
    let w = walk_op (length bytes) [] bytes in
    let at : op_at bytes ≡ Some (op, []) = ap op_at (sym (append-nil (spelling op))) ∙ op_again op [] is in
    let says : WalkSays behind Said [] w (op_at bytes) = op_says (length bytes) [] bytes in
    let parts = items_are bytes w (op_at bytes) (op, []) says at in
    let ran = op_passes vats me peer c op is new e in
    let fine : judged vats me peer c (items_of bytes).spots first_look ≡ Fine new =
    run_judges vats me peer c (items_of bytes).spots first_look ran.0 (ap (λ (ps : List Part). run vats me peer c ps first_look) parts ∙ ran.1) ∙ ap Fine ran.2 in
    lawful_at vats me peer c bytes (items_of bytes).stop (judged vats me peer c (items_of bytes).spots first_look) op new
    (no_stop bytes w op (subst (λ (o : Option (Operation × List ℕ)). WalkSays behind Said [] w o) at says)) fine at
