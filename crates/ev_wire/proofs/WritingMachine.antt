-- What is written is what the machine writes.
use Rattle.std.proofs.Common.{◌≡◌, ℕ, Bool, true, false, List, [], ◌∷◌, ◌++◌, map, length, Option, Some, None, refl, sym, ap, ◌∙◌, append-nil}
use Rattle.std.specs.Prelude.{IfSome, is_some}
use Rattle.std.proofs.lemmas.List.{length-map, map-append}
use Rattle.ev_base.specs.declared.values.Value.{Value}
use Rattle.ev_base.specs.declared.values.Value.TheVariants as held
use Rattle.def_machine.specs.Values.{Words, Local, Prom, word_of}
use Rattle.def_op.specs.declared.op.Plain.TheVariants as plain
use Rattle.def_op.specs.Frames as op
use Rattle.def_op.specs.Frames.{Described, Members, Operation}
use Rattle.def_run.specs.Connections as machine
use Rattle.def_run.specs.Connections.{Connection, Sight}
use Rattle.ev_refs.specs.Reading.{value_by}
use Rattle.ev_pass.specs.Notes.{Parcel, Parcels, Plain, Gift, Many, NoMore, More, Noted, Deliver, Open, Ask, Settled, Elsewhere, Shorten}
use Rattle.ev_pass.specs.Reading.{note_by, passed_by, passeds_by, reference_by}
use Rattle.ev_pass.specs.declared.interior.Interior.{Interior}
use Rattle.ev_pass.specs.declared.note.Reference.{Reference}
use Rattle.ev_pass.specs.declared.note.Reference.TheVariants as reference
use Rattle.ev_tables.specs.Table.{Table, asked_for}
use Rattle.ev_tables.specs.Standing.{IsKept, connection_of, is_own, is_reference, local_of}
use Rattle.ev_tables.specs.Numbering.{numbered}
use Rattle.ev_tables.proofs.Described.{describes}
use Rattle.ev_tables.proofs.Kept.{asking as asking_keeps}
use Rattle.ev_tables.proofs.Numbered.{numbers}
use Rattle.ev_wire.specs.Writing.{asked_of, asking, described_note, described_parcel, described_parcels, described_reference, described_value, is_mine, message_op, numbered_note, numbered_parcel, numbered_parcels, numbered_value, put_on, value_of, written}
use Rattle.ev_wire.specs.WritingStatements.{HasTexts, HaveTexts, IsNewAnswer, NoteHasTexts, ValueHasTexts, WritesAsTheMachine, WritingKeeps, answer_in, sight_now}

module _ (ts : List Words) (i : Interior) (a : ℕ) where
  -- ---- numbers

  -- a connection on which that was told
  abbrev pub with_value : Value → Connection Local → Connection Local
  with_value v c = record c { exports = machine.exported_value (sight_now i a) c.answers (value_by ts v) c.exports }

  abbrev pub with_passed : Parcel → Connection Local → Connection Local
  with_passed p c = record c { exports = machine.exported_passed (sight_now i a) c.answers (passed_by ts p) c.exports }

  abbrev pub with_all : Parcels → Connection Local → Connection Local
  with_all ps c = record c { exports = machine.exported_all (sight_now i a) c.answers (passeds_by ts ps) c.exports }

  -- it stands for that connection, and is kept
  abbrev pub Stands : Connection Local → Table → Type 0
  Stands c u = (connection_of u ≡ c) × IsKept (is_mine i.refs) u

  value_told : (v : Value) (t : Table) → IsKept (is_mine i.refs) t → Stands (with_value v (connection_of t)) (numbered_value i.refs v t)
  unfolding numbered_value numbered is_own local_of is_reference machine.exported_value
  value_told (held.Obj n) t k = numbers (is_mine i.refs) (Prom a) (held.Obj n) t refl k
  value_told (held.Prom n) t k = numbers (is_mine i.refs) (Prom a) (held.Prom n) t refl k
  value_told (held.Far h p) t k = numbers (is_mine i.refs) (Prom a) (held.Far h p) t refl k
  value_told held.Null t k = (refl, k)
  value_told (held.Bool b) t k = (refl, k)
  value_told (held.Int z) t k = (refl, k)
  value_told (held.Char c) t k = (refl, k)
  value_told (held.Text id) t k = (refl, k)
  value_told (held.List id) t k = (refl, k)
  value_told (held.Prim n) t k = (refl, k)
  value_told (held.Broken id) t k = (refl, k)

  mutual
    unfolding numbered_parcel numbered_parcels passed_by passeds_by machine.exported_passed machine.exported_all

    parcel_told : (p : Parcel) (t : Table) → IsKept (is_mine i.refs) t → Stands (with_passed p (connection_of t)) (numbered_parcel i.refs p t)
    parcel_told (Plain v) t k = value_told v t k
    parcel_told (Gift h g) t k = (refl, k)
    parcel_told (Many ps) t k = parcels_told ps t k

    parcels_told : (ps : Parcels) (t : Table) → IsKept (is_mine i.refs) t → Stands (with_all ps (connection_of t)) (numbered_parcels i.refs ps t)
    parcels_told NoMore t k = (refl, k)
    parcels_told (More p ps) t k =
        let now = parcel_told p t k in
        let rest = parcels_told ps (numbered_parcel i.refs p t) now.1 in
        (rest.0 ∙ ap (with_all ps) now.0, rest.1)

  reference_is : (x : Reference) → local_of (value_of x) ≡ reference_by x
  unfolding local_of
  reference_is (reference.Object n) = refl
  reference_is (reference.Promise n) = refl
  reference_is (reference.Far h p) = refl

  abbrev pub with_name : Local → Connection Local → Connection Local
  with_name n c = record c { exports = machine.exported_as (sight_now i a) c.answers n c.exports }

  reference_told : (x : Reference) (t : Table) → IsKept (is_mine i.refs) t → Stands (with_name (reference_by x) (connection_of t)) (numbered_value i.refs (value_of x) t)
  unfolding machine.exported_value
  reference_told (reference.Object n) t k = value_told (held.Obj n) t k
  reference_told (reference.Promise n) t k = value_told (held.Prom n) t k
  reference_told (reference.Far h p) t k = value_told (held.Far h p) t k

  name_told : (n : ℕ) (t : Table) → IsKept (is_mine i.refs) t → Stands (with_name (Prom n) (connection_of t)) (numbered_value i.refs (held.Prom n) t)
  name_told n t k = reference_told (reference.Promise n) t k

  note_told : (n : Noted) (t : Table) → IsKept (is_mine i.refs) t → Stands (machine.exporting (sight_now i a) (note_by ts n) (connection_of t)) (numbered_note i.refs n t)
  unfolding numbered_note machine.exporting machine.exported_note
  note_told (Deliver m b x verb ps) t k =
      let now = reference_told x t k in
      let rest = parcels_told ps (numbered_value i.refs (value_of x) t) now.1 in
      (rest.0 ∙ ap (with_all ps) now.0, rest.1)
  note_told (Open g x) t k = reference_told x t k
  note_told (Ask p g n) t k = (refl, k)
  note_told (Settled n p) t k =
      let now = name_told n t k in
      let rest = parcel_told p (numbered_value i.refs (held.Prom n) t) now.1 in
      (rest.0 ∙ ap (with_passed p) now.0, rest.1)
  note_told (Elsewhere n c) t k = name_told n t k
  note_told (Shorten n c g) t k = name_told n t k

  -- ---- descriptions

  named_is : (v : Value) (t : Table) → is_reference v ≡ true → IsKept (is_mine i.refs) t → described_reference i v t ≡ machine.described (sight_now i a) (connection_of t) (local_of v)
  unfolding described_reference
  named_is v t r k = describes (is_mine i.refs) (Prom a) v t r k

  target_is : (x : Reference) (t : Table) → IsKept (is_mine i.refs) t → described_reference i (value_of x) t ≡ machine.described (sight_now i a) (connection_of t) (reference_by x)
  unfolding is_reference local_of
  target_is (reference.Object n) t k = named_is (held.Obj n) t refl k
  target_is (reference.Promise n) t k = named_is (held.Prom n) t refl k
  target_is (reference.Far h p) t k = named_is (held.Far h p) t refl k

  value_is : (v : Value) (t : Table) → ValueHasTexts ts i.heap v → IsKept (is_mine i.refs) t → described_value i v t ≡ machine.described_value (sight_now i a) (connection_of t) (value_by ts v)
  unfolding described_value machine.described_value is_reference local_of
  value_is (held.Obj n) t e k = named_is (held.Obj n) t refl k
  value_is (held.Prom n) t e k = named_is (held.Prom n) t refl k
  value_is (held.Far h p) t e k = named_is (held.Far h p) t refl k
  value_is held.Null t e k = refl
  value_is (held.Bool b) t e k = refl
  value_is (held.Int z) t e k = refl
  value_is (held.Char c) t e k = refl
  value_is (held.Text id) t e k = ap (λ (x : List ℕ). op.Datum (plain.Text x)) (sym e)
  value_is (held.List id) t e k = refl
  value_is (held.Prim n) t e k = refl
  value_is (held.Broken id) t e k = ap op.Broken (sym e)

  mutual
    unfolding described_parcel described_parcels passed_by passeds_by machine.described_passed machine.described_all

    parcel_is : (p : Parcel) (t : Table) → HasTexts ts i.heap p → IsKept (is_mine i.refs) t → described_parcel i p t ≡ machine.described_passed (sight_now i a) (connection_of t) (passed_by ts p)
    parcel_is (Plain v) t e k = value_is v t e k
    parcel_is (Gift h g) t e k = refl
    parcel_is (Many ps) t e k = ap op.ListOf (parcels_is ps t e k)

    parcels_is : (ps : Parcels) (t : Table) → HaveTexts ts i.heap ps → IsKept (is_mine i.refs) t → described_parcels i ps t ≡ machine.described_all (sight_now i a) (connection_of t) (passeds_by ts ps)
    parcels_is NoMore t e k = refl
    parcels_is (More p ps) t e k = ap (λ (d : Described). op.more d (described_parcels i ps t)) (parcel_is p t e.0 k) ∙ ap (op.more (machine.described_passed (sight_now i a) (connection_of t) (passed_by ts p))) (parcels_is ps t e.1 k)

  asked_count : (ns : List ℕ) → length ns ≡ length (map Prom ns)
  asked_count ns = sym (length-map ns Prom)

  message_is : (asks : Bool) (q : ℕ) (d : Described) (verb : List ℕ) (ds : Members) → message_op asks q d verb ds ≡ machine.delivered (sight_now i a) asks q d verb ds
  unfolding message_op machine.delivered
  message_is true q d verb ds = refl
  message_is false q d verb ds = refl

  note_is : (n : Noted) (t : Table) → NoteHasTexts ts i.heap n → IsKept (is_mine i.refs) t → described_note i n t ≡ machine.operation (sight_now i a) (connection_of t) (note_by ts n)
  unfolding described_note machine.operation
  note_is (Deliver m b x verb ps) t e k =
      message_is (is_some b) (length t.asked) (described_reference i (value_of x) t) verb (described_parcels i ps t)
      ∙ ap (λ (q : ℕ). machine.delivered (sight_now i a) (is_some b) q (described_reference i (value_of x) t) verb (described_parcels i ps t)) (asked_count t.asked)
      ∙ ap (λ (d : Described). machine.delivered (sight_now i a) (is_some b) (length (connection_of t).questions) d verb (described_parcels i ps t)) (target_is x t k)
      ∙ ap (machine.delivered (sight_now i a) (is_some b) (length (connection_of t).questions) (machine.described (sight_now i a) (connection_of t) (reference_by x)) verb) (parcels_is ps t e k)
  note_is (Open g x) t e k = ap (λ (d : Described). op.Provide d (word_of g)) (target_is x t k)
  note_is (Ask p g n) t e k = ap (λ (q : ℕ). op.Accept q p (word_of g)) (asked_count t.asked)
  note_is (Settled n p) t e k =
      ap (λ (d : Described). op.Resolve d (op.To (described_parcel i p t))) (target_is (reference.Promise n) t k)
      ∙ ap (λ (d : Described). op.Resolve (machine.described (sight_now i a) (connection_of t) (Prom n)) (op.To d)) (parcel_is p t e k)
  note_is (Elsewhere n c) t e k = ap (λ (d : Described). op.Resolve d (op.Elsewhere c)) (target_is (reference.Promise n) t k)
  note_is (Shorten n c g) t e k = ap (λ (d : Described). op.Shorten d (word_of g)) (target_is (reference.Promise n) t k)

  -- ---- questions

  abbrev pub with_asked : List Local → Connection Local → Connection Local
  with_asked ns c = record c { questions = c.questions ++ ns }

  asks_one : (n : ℕ) (u : Table) → connection_of (asked_for n u) ≡ with_asked (Prom n ∷ []) (connection_of u)
  asks_one n u = ap (λ (ls : List Local). record (connection_of u) { questions = ls }) (map-append Prom u.asked (n ∷ []))

  asks_none : (u : Table) → connection_of u ≡ with_asked [] (connection_of u)
  asks_none u = ap (λ (ls : List Local). record (connection_of u) { questions = ls }) (sym (append-nil (map Prom u.asked)))

  -- where a is the answer that it asks for
  abbrev pub Answers : Noted → Type 0
  Answers (Deliver m (Some b) x verb ps) = a ≡ b
  Answers (Deliver m None x verb ps) = Unit {0}
  Answers (Ask p g n) = Unit {0}
  Answers (Open g x) = Unit {0}
  Answers (Settled n p) = Unit {0}
  Answers (Elsewhere n c) = Unit {0}
  Answers (Shorten n c g) = Unit {0}

  asks_is : (n : Noted) (u : Table) → Answers n → connection_of (asking (asked_of n) u) ≡ with_asked (machine.asked_in (sight_now i a) (note_by ts n)) (connection_of u)
  unfolding asking asked_of machine.asked_in machine.answer_if
  asks_is (Deliver m (Some b) x verb ps) u e = asks_one b u ∙ ap (λ (j : ℕ). with_asked (Prom j ∷ []) (connection_of u)) (sym e)
  asks_is (Deliver m None x verb ps) u e = asks_none u
  asks_is (Ask p g n) u e = asks_one n u
  asks_is (Open g x) u e = asks_none u
  asks_is (Settled n p) u e = asks_none u
  asks_is (Elsewhere n c) u e = asks_none u
  asks_is (Shorten n c g) u e = asks_none u

  put_is : (n : Noted) (t : Table) → Answers n → IsKept (is_mine i.refs) t → connection_of (put_on i n t) ≡ machine.put_on (sight_now i a) (note_by ts n) (connection_of t)
  unfolding put_on machine.put_on machine.exporting
  put_is n t e k = asks_is n (numbered_note i.refs n t) e ∙ ap (with_asked (machine.asked_in (sight_now i a) (note_by ts n))) (note_told n t k).0

  frame_is : (n : Noted) (t : Table) → NoteHasTexts ts i.heap n → IsKept (is_mine i.refs) t → written i n t ≡ machine.frame_now (sight_now i a) (note_by ts n) (connection_of t)
  unfolding written machine.frame_now
  frame_is n t e k =
      let told = note_told n t k in
      note_is n (numbered_note i.refs n t) e told.1 ∙ ap (λ (c : Connection Local). machine.operation (sight_now i a) c (note_by ts n)) told.0

answers : (ts : List Words) (i : Interior) (n : Noted) → Answers ts i (answer_in n) n
answers ts i (Deliver m (Some b) x verb ps) = refl
answers ts i (Deliver m None x verb ps) = tt
answers ts i (Ask p g n) = tt
answers ts i (Open g x) = tt
answers ts i (Settled n p) = tt
answers ts i (Elsewhere n c) = tt
answers ts i (Shorten n c g) = tt

pub writes : WritesAsTheMachine
writes ts i n t e k = (frame_is ts i (answer_in n) n t e k, put_is ts i (answer_in n) n t (answers ts i n) k)

-- a question of a new answer keeps
asked_keeps : (i : Interior) (u : Table) (o : Option ℕ) → IfSome o (IsNewAnswer i u) → IsKept (is_mine i.refs) u → IsKept (is_mine i.refs) (asking o u)
unfolding asking
asked_keeps i u None h k = k
asked_keeps i u (Some n) h k = asking_keeps (is_mine i.refs) n u h.0 h.1 k

pub keeps : WritingKeeps
unfolding put_on
keeps i n t h k = asked_keeps i (numbered_note i.refs n t) (asked_of n) h (note_told [] i (answer_in n) n t k).1
