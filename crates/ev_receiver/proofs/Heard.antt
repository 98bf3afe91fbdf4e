-- A judge sees of a connection what the run in numbers judges by, and what is lawful is heard.
use Rattle.std.proofs.Common.{◌≡◌, ℕ, zero, Bool, List, [], ◌∷◌, map, length, Option, Some, None, Result, Ok, Err, IfOk, refl, ap, sym, ◌∙◌, subst, append-nil}
use Rattle.std.proofs.lemmas.List.{length-map}
use Rattle.ev_base.specs.declared.values.Value.{Value}
use Rattle.def_machine.specs.State as state
use Rattle.def_machine.specs.Values.{Local, Obj, Prom, Far, Mess}
use Rattle.def_run.specs.Connections.{Heard}
use Rattle.def_run.specs.Vats as vats
use Rattle.def_hostile.specs.Arrivals.{counts_in}
use Rattle.def_hostile.specs.Judge.{Counts, verdict}
use Rattle.ev_arrive.specs.Hearing.{Name}
use Rattle.ev_base.specs.declared.memory.Memory.{Memory as NoMemory}
use Rattle.ev_judge.specs.Views.{counts, verdict_view}
use Rattle.ev_judge.specs.declared.judge.Verdict.{Verdict}
use Rattle.ev_pass.specs.declared.interior.Interior.{Interior}
use Rattle.ev_tables.specs.Table.{Table}
use Rattle.ev_tables.specs.Standing.{connection_of, is_object, local_of}
use Rattle.ev_wire.specs.Bringing.{Told}
use Rattle.ev_wire.specs.Hearing.{Out, no_news, note_heard}
use Rattle.ev_wire.specs.HearingStatements.{StandsFor}
use Rattle.ev_wire.specs.Learnt.{LearntGifts}
use Rattle.ev_wire.specs.Reading.{newcomers_of, stage_of}
use Rattle.ev_wire.specs.declared.news.News.{News}
use Rattle.ev_wire.proofs.HearingMachine.{hears}
use Rattle.ev_wire.proofs.Agreement.{promises}
use Rattle.law_judge.specs.Points.{in_operation}
use Rattle.law_judge.proofs.Spelled.{is_spelled}
use Rattle.law_judge.proofs.Operations.{meets_the_points}
use Rattle.law_judge.proofs.Heard.{note_hears}
use Rattle.ev_receiver.specs.Statements.{CountsAreTheMachines, LawfulIsHeardHere}

-- ---- counts

same_kind : (n : Local) → is_object n ≡ vats.is_object n
unfolding is_object vats.is_object
same_kind (Obj i) = refl
same_kind (Far h p) = refl
same_kind (Prom k) = refl
same_kind (Mess j) = refl

same_kinds : (ns : List Local) → map is_object ns ≡ map vats.is_object ns
same_kinds [] = refl
same_kinds (n ∷ ns) = ap (λ b. b ∷ map is_object ns) (same_kind n) ∙ ap (λ bs. vats.is_object n ∷ bs) (same_kinds ns)

kinds_at : (vs : List Value) → map (λ v. is_object (local_of v)) vs ≡ map is_object (map local_of vs)
kinds_at [] = refl
kinds_at (v ∷ vs) = ap (λ bs. is_object (local_of v) ∷ bs) (kinds_at vs)

abbrev made : ℕ → ℕ → ℕ → List Bool → Counts
made exports answers questions imports = record { exports = exports; answers = answers; questions = questions; imports = imports }

pub counts_same : CountsAreTheMachines
unfolding counts_in
counts_same t =
    let exports = sym (length-map t.exports local_of) in
    let answers = sym (length-map t.answers Prom) in
    let questions = sym (length-map t.asked Prom) in
    let imports = kinds_at t.imports ∙ same_kinds (map local_of t.imports) in
    ap (λ n. made n (length t.answers) (length t.asked) (map (λ v. is_object (local_of v)) t.imports)) exports
    ∙ ap (λ n. made (length (map local_of t.exports)) n (length t.asked) (map (λ v. is_object (local_of v)) t.imports)) answers
    ∙ ap (λ n. made (length (map local_of t.exports)) (length (map Prom t.answers)) n (map (λ v. is_object (local_of v)) t.imports)) questions
    ∙ ap (made (length (map local_of t.exports)) (length (map Prom t.answers)) (length (map Prom t.asked))) imports

-- ---- what is lawful is heard

some_none : {A : Type 0} {x : A} → Some x ≡ None → ⊥
some_none e = cc

stands : (n : Local) (i : Interior) (t : Table) (l : LearntGifts) (o : Out Told) (d : Option (Heard Local (state.Note Name))) → StandsFor n i t l o d
    → (h : Heard Local (state.Note Name)) → d ≡ Some h → (x : Told × News) × (o ≡ Some x)
stands n i t l (Some x) d s h e = (x, refl)
stands n i t l None d s h e = absurd (some_none (sym e ∙ s))

pub lawful_heard : LawfulIsHeardHere
unfolding is_object counts_in
lawful_heard i t l vats bytes op new fits exports imports e =
    let me = i.refs.me in
    let c = connection_of t in
    let spelled = is_spelled vats me t.peer (counts_in c) bytes op new fits e in
    let points = meets_the_points vats me t.peer (counts_in c) bytes op new fits e in
    let meets = subst (λ bs. in_operation vats me t.peer (made (length c.exports) (length c.answers) (length c.questions) bs) op [] ≡ Some new) (sym (same_kinds c.imports)) points in
    let has = ap (λ vs. map is_object (map local_of vs)) (append-nil t.imports) ∙ sym (append-nil (map is_object c.imports)) in
    let h = note_hears is_object me t.peer (newcomers_of (Mess zero) t.peer) c vats new (λ p k. refl, λ p k j. refl) op spelled.0 (stage_of t l (no_news i)) [] new has ([], sym (append-nil new)) meets in
    stands (Mess zero) i t l (note_heard i t l op (no_news i)) _ (hears (Mess zero) i t l op (promises op spelled.0) exports imports) h.0 h.1

-- ---- verdicts

pub judged_same : (r : Result Verdict NoMemory) (vats me : ℕ) (t : Table) (bytes : List ℕ) → IfOk r (λ v. verdict_view v ≡ verdict vats me t.peer (counts t) bytes)
    → IfOk r (λ v. verdict_view v ≡ verdict vats me t.peer (counts_in (connection_of t)) bytes)
judged_same (Ok v) vats me t bytes h = h ∙ ap (λ k. verdict vats me t.peer k bytes) (counts_same t)
judged_same (Err e) vats me t bytes h = tt
