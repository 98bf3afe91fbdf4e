-- The laws of evaluation as they are stated.
use Rattle.std.proofs.Common.{◌≡◌, List, [], ◌∷◌, Ok, Err, map, refl, ap, sym, subst, ◌∙◌}
use Rattle.std.specs.Prelude.{reverse}
use Rattle.std.proofs.lemmas.List.{reverse-reverse}
use Rattle.ev_base.specs.declared.values.Value.{Value as Held}
use Rattle.def_machine.specs.Values.{Local}
use Rattle.def_machine.specs.State.{Binding as Bond, Scope as Surroundings, Done}
use Rattle.def_machine.specs.State as machine
use Rattle.def_machine.specs.Eval as theirs
use Rattle.ev_pass.specs.declared.interior.Interior.{Interior as Room}
use Rattle.ev_room.specs.Acts.{Out}
use Rattle.ev_room.specs.Reading.{World, names, value_of, capture_in, caught_in}
use Rattle.ev_room.specs.Sound.{capture_of, caught_of}
use Rattle.ev_room.specs.declared.exit.Exit.TheVariants as exit
use Rattle.ev_room.specs.declared.scope.Binding.{Binding}
use Rattle.ev_room.specs.declared.scope.Bound.{Bound as Kept}
use Rattle.ev_room.specs.declared.scope.Bound.TheVariants.{Fixed, Slot}
use Rattle.ev_room.specs.declared.scope.Scope.{Scope}
use Rattle.ev_steps.specs.Steps.{evaluator}
use Rattle.law_evaluation.proofs.Acts.Making.{turned_is}
use Rattle.law_evaluation.proofs.Acts.Stands.{Look, Met, Is, vat, a_value, an_answer, a_scope, bound_of, bond_of, bonds_onto, scope_of}
use Rattle.law_evaluation.proofs.Evaluation.Meets.{evaluator_met}
use Rattle.law_evaluation.proofs.Evaluation.Turns.{turn_value_met}
use Rattle.law_evaluation.specs.Evaluation.Evaluation.{ExpressionsAreTheMachines, MessagesAreTheMachines, Meets, PatternsAreTheMachines, StandsFor, answer_in, scope_in}

-- ---- scopes

kept_is : (w : World) (b : Kept) → capture_in w (capture_of b) ≡ bound_of w b
kept_is w (Fixed v g) = refl
kept_is w (Slot k) = refl

nouns_are : (w : World) (bs : List Binding) → map (bond_of w) bs ≡ map (λ b. caught_in w (caught_of b)) bs
nouns_are w [] = refl
nouns_are w (b ∷ bs) = rw (kept_is w b.bound, nouns_are w bs) refl

scope_is : (w : World) (here : Scope) → scope_of w here ≡ scope_in w here
scope_is w here =
    ap (λ (ns : List (Bond Local)). record { act = here.act; nouns = ns })
    (ap (bonds_onto w []) (sym (reverse-reverse here.nouns)) ∙ turned_is w (reverse here.nouns) ∙ nouns_are w (reverse here.nouns))

answer_is : (w : World) (a : Held × Scope) → record { value = value_of w a.0; scope = scope_of w a.1 } ≡ answer_in w a
answer_is w a = ap (λ (sc : Surroundings Local). record { value = value_of w a.0; scope = sc }) (scope_is w a.1)

-- ---- outcomes

stands : {A B : Type 0} (look : Look A B) (of : World → A → B) (w : World) → ((a : A) → look.of w a ≡ of w a) → (o : Out A) (d : Done Local B) → Is look w o d → StandsFor of w o d
stands look of w e (Ok a, i) d h = h ∙ ap (λ b. machine.Gives b (vat w i)) (e a)
stands look of w e (Err (exit.Thrown id), i) d h = h
stands look of w e (Err (exit.Ejected n v), i) d h = h
stands look of w e (Err exit.Fuel, i) d h = h
stands look of w e (Err exit.Deep, i) d h = h
stands look of w e (Err (exit.Repeated m n), i) d h = h
stands look of w e (Err exit.Astray, i) d h = h
stands look of w e (Err exit.Memory, i) d h = tt

meets : {A B : Type 0} (look : Look A B) (of : World → A → B) (w : World) (s : Room) (o : Out A) (d : Done Local B) → ((a : A) → look.of w a ≡ of w a) → Met w look s o d → Meets of w o d
meets look of w s o d e m = λ b. stands look of w e o d (m.is b)

-- ---- laws

pub expressions_met : ExpressionsAreTheMachines
expressions_met = λ w tree d id here i sound k.
    meets an_answer answer_in w i ((evaluator tree d).expression id here i) ((theirs.evaluator (names w) tree d).expression id (scope_in w here) (vat w i)) (answer_is w)
    (subst (λ (sc : Surroundings Local). Met w an_answer i ((evaluator tree d).expression id here i) ((theirs.evaluator (names w) tree d).expression id sc (vat w i))) (scope_is w here)
    ((evaluator_met w tree d).expression id here i sound k))

pub patterns_met : PatternsAreTheMachines
patterns_met = λ w tree d id x j here i sound k l n.
    meets a_scope scope_in w i ((evaluator tree d).pattern id x j here i) ((theirs.evaluator (names w) tree d).pattern id (value_of w x) (value_of w j) (scope_in w here) (vat w i)) (scope_is w)
    (subst (λ (sc : Surroundings Local). Met w a_scope i ((evaluator tree d).pattern id x j here i) ((theirs.evaluator (names w) tree d).pattern id (value_of w x) (value_of w j) sc (vat w i))) (scope_is w here)
    ((evaluator_met w tree d).pattern id x j here i sound k l n))

pub messages_met : MessagesAreTheMachines
messages_met = λ w tree d act x verb args i sound k l.
    meets a_value value_of w i _ _ (λ a. refl) (turn_value_met w tree (evaluator tree d) (theirs.evaluator (names w) tree d) (evaluator_met w tree d) act verb args x i sound k l)
