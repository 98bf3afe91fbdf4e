-- What a member hears of a frame is what the run in numbers hears.
use Rattle.std.proofs.Common.{◌≡◌, ℕ, ◌+◌, ◌==◌, Bool, true, false, cond, List, [], ◌++◌, map, length, get_or, Option, Some, None, unwrap_or, refl, sym, ap, subst, ◌∙◌, append-nil}
use Rattle.std.specs.Prelude.{IfSome}
use Rattle.ev_base.specs.declared.values.Value.{Value}
use Rattle.def_run.specs.Vats as local
use Rattle.def_run.specs.Vats.{Member as Theirs, connection_for, heard_in, unconnected}
use Rattle.def_machine.specs.Arrive.{New}
use Rattle.def_machine.specs.State as machine
use Rattle.def_machine.specs.State.{Note}
use Rattle.def_machine.specs.Values.{Words, Local, Mess}
use Rattle.def_op.specs.Frames.{IsOp, Operation}
use Rattle.def_run.specs.Connections as theirs
use Rattle.def_run.specs.Connections.{Connection, Learnt, Stage}
use Rattle.ev_intro.specs.Word.{word}
use Rattle.ev_vat.proofs.MemberSteps.{references_before}
use Rattle.ev_vat.proofs.Worlds.{grown_world, sees_grown}
use Rattle.ev_vat.specs.Hearing.{HeardNote, frame_heard, heard_of, op_found}
use Rattle.ev_vat.specs.Standing.{IsFound}
use Rattle.ev_vat.specs.declared.member.Member.{Member}
use Rattle.ev_op.specs.Decoded.{decoded}
use Rattle.ev_pass.specs.declared.interior.Interior.{Interior}
use Rattle.ev_tables.specs.Standing.{connection_of, is_object, local_of}
use Rattle.ev_wire.proofs.Agreement.{agrees, promises}
use Rattle.ev_wire.proofs.Fitting.{FitsAndIsNew, frame_fits}
use Rattle.ev_wire.proofs.HearingMachine.{among_front, among_more, hears}
use Rattle.ev_wire.specs.Bringing.{Told, told}
use Rattle.ev_wire.specs.Fitting.{ToldFits}
use Rattle.ev_wire.specs.Hearing as code
use Rattle.ev_wire.specs.Hearing.{Out, no_news}
use Rattle.ev_wire.specs.Learnt.{LearntGifts}
use Rattle.ev_wire.specs.Reading.{TextsStand, learnt_of, newcomers_of, stage_of, told_by}
use Rattle.ev_wire.specs.HearingStatements.{StandsFor}
use Rattle.ev_wire.specs.declared.news.News.{News}
use Rattle.ev_arrive.specs.Hearing.{Name, heard_by}
use Rattle.ev_arrive.specs.declared.brought.Heard.{Heard as Noted}
use Rattle.ev_arrive.specs.declared.brought.Heard.TheVariants.{Deliver, Open, Ask, Settled, Elsewhere, Shorten}
use Rattle.ev_heap.specs.Contents.{Contents}
use Rattle.ev_refs.proofs.Machine.{as_many}
use Rattle.ev_refs.specs.Reading.{text_by}
use Rattle.ev_room.specs.Reading.{World, texts_of}
use Rattle.ev_tables.specs.Table.{Table}
use Rattle.ev_wire.specs.Putting.{table_for}
use Rattle.law_evaluation.proofs.Acts.Sounds.{grown_same}
use Rattle.law_evaluation.specs.Arrivals.Arrivals.{NoteFits}
use Rattle.ev_wire.proofs.PeerSights.{objects}
use Rattle.ev_wire.proofs.Writes.{connection_is, table_is}
use Rattle.ev_wire.specs.Standing.{HasReferences, IsFor}

-- the texts that a frame brought stand behind those of the heap, whatever comes behind them
texts_stand : (ts more : List Words) (i : Interior) (s : News) → ts ≡ (i.heap.texts ++ s.texts) ++ more → TextsStand ts i s
texts_stand ts more i s front k x e =
    ap (λ (us : List Words). text_by us (length i.heap.texts + k)) front
    ∙ ap (λ (o : Option Words). unwrap_or o []) (among_front (i.heap.texts ++ s.texts) more (length i.heap.texts + k) x (among_more i.heap.texts s.texts k ∙ e))

some_same : {A : Type 0} (x y : A) → Some x ≡ Some y → x ≡ y
some_same x y e = cc

-- a note that is told so fits as it is heard
pub note_fits : (h : Contents) (note : Noted) → ToldFits h (told note) → NoteFits h note
note_fits h (Deliver m asks x verb args) f = f
note_fits h (Settled x y) f = f
note_fits h (Open w x) f = f
note_fits h (Ask p w) f = f
note_fits h (Elsewhere x c) f = f
note_fits h (Shorten x s) f = f

module _ (fuel : ℕ) (drawn : List ℕ) (m : Theirs) (q : Member) (found : IsFound fuel drawn m q) (v : ℕ) where
  abbrev pub i : Interior
  i = q.vat.host.inside

  abbrev pub t : Table
  t = table_for v q.connections.items

  pub table_here : IsFor i.refs v t
  table_here = table_is i.refs q.connections.items v found.rest.tables

  pub connection_here : connection_for v m ≡ connection_of t
  unfolding connection_for
  connection_here = ap (λ (cs : List (Connection Local)). get_or cs v unconnected) (sym found.rest.connections) ∙ connection_is q.connections.items v

  -- ---- what the run has, in the code's terms

  abbrev first : World
  first = grown_world i i found.rest.sound (grown_same i.heap)

  references : HasReferences (texts_of first) i.refs m.vat
  references = references_before fuel drawn m q q found first (sees_grown i i found.rest.sound (grown_same i.heap))

  known_here : length m.vat.known ≡ length i.refs.known
  known_here = ap (λ (ks : List (machine.Known Local)). length ks) references.known ∙ as_many (word []) (texts_of first) (texts_of first) 0 i.refs.known

  abbrev stage : List Local → List (Learnt Local) → ℕ → Stage Local
  stage imports learnt known = record { imports = imports; learnt = learnt; known = known }

  stage_here : local.stage_of v m ≡ stage_of t q.learnt (no_news i)
  unfolding local.stage_of
  stage_here =
      ap (λ (c : Connection Local). stage c.imports m.learnt (length m.vat.known)) connection_here
      ∙ ap (λ (ls : List (Learnt Local)). stage (map local_of t.imports) ls (length m.vat.known)) (sym found.rest.learnt)
      ∙ ap (stage (map local_of t.imports) (map learnt_of q.learnt)) known_here
      ∙ ap (λ (vs : List Value). stage (map local_of vs) (map learnt_of q.learnt) (length i.refs.known)) (sym (append-nil t.imports))
      ∙ ap (λ (gs : LearntGifts). stage (map local_of (t.imports ++ [])) (map learnt_of gs) (length i.refs.known)) (sym (append-nil q.learnt))

  -- what the run hears of an operation
  heard_here : (o : Operation) → heard_in v o m ≡ theirs.note_heard is_object i.refs.me t.peer (newcomers_of (Mess 0) t.peer) (connection_of t) o (stage_of t q.learnt (no_news i))
  unfolding heard_in local.newcomers
  heard_here o =
      ap (λ (f : Local → Bool). theirs.note_heard f m.vat.number v (newcomers_of (Mess 0) v) (connection_for v m) o (local.stage_of v m)) objects
      ∙ ap (λ (u : ℕ). theirs.note_heard is_object u v (newcomers_of (Mess 0) v) (connection_for v m) o (local.stage_of v m)) references.number
      ∙ ap (λ (c : Connection Local). theirs.note_heard is_object i.refs.me v (newcomers_of (Mess 0) v) c o (local.stage_of v m)) connection_here
      ∙ ap (λ (s : Stage Local). theirs.note_heard is_object i.refs.me v (newcomers_of (Mess 0) v) (connection_of t) o s) stage_here
      ∙ ap (λ (p : ℕ). theirs.note_heard is_object i.refs.me p (newcomers_of (Mess 0) p) (connection_of t) o (stage_of t q.learnt (no_news i))) (sym table_here.peer)

  -- ---- frames

  abbrev Stands : Out Told → Option HeardNote → Type 0
  Stands out d = StandsFor (Mess 0) i t q.learnt out d

  op_stands : (o : Operation) → IsOp o → Stands (code.note_heard i t q.learnt o (no_news i)) (heard_in v o m)
  op_stands o is =
      subst (λ (d : Option HeardNote). Stands (code.note_heard i t q.learnt o (no_news i)) d) (sym (heard_here o))
      (hears (Mess 0) i t q.learnt o (promises o is) table_here.kept.exports table_here.kept.imports)

  whole_stands : (b : Bool) (o : Operation) → IsOp o → Stands (cond b (code.note_heard i t q.learnt o (no_news i)) None) (heard_of v m (cond b (Some o) None))
  whole_stands true o is = op_stands o is
  whole_stands false o is = refl

  found_stands : (size : ℕ) (x : Option (Operation × ℕ)) → IfSome x (λ (y : Operation × ℕ). IsOp y.0) → Stands (code.found_heard i t q.learnt size x) (heard_of v m (op_found size x))
  unfolding code.found_heard code.whole_heard
  found_stands size (Some x) is = whole_stands (x.1 == size) x.0 is
  found_stands size None is = refl

  module _ (bytes : List ℕ) (spelled : IfSome (decoded bytes) (λ (x : Operation × ℕ). IsOp x.0)) where
    stands : Stands (code.frame_heard i t q.learnt bytes) (frame_heard v m bytes)
    unfolding code.frame_heard
    stands = found_stands (length bytes) (decoded bytes) spelled

    -- what is malformed here is so there
    pub refused : code.frame_heard i t q.learnt bytes ≡ None → frame_heard v m bytes ≡ None
    refused e = subst (λ (out : Out Told). Stands out (frame_heard v m bytes)) e stands

    module _ (note : Noted) (s : News) (heard : code.frame_heard i t q.learnt bytes ≡ Some (told note, s)) where
      pub fits : FitsAndIsNew i q.learnt (told note) s
      fits = frame_fits i t q.learnt (told note) s bytes spelled heard

      abbrev pub read_by : List Words → Note Name
      read_by ts = told_by ts (Mess 0) i.refs.me t.peer (told note)

      -- the note that was heard, and what is had then
      abbrev pub note_by : List Words → HeardNote
      note_by ts = record { read = read_by ts; after = stage_of t q.learnt s }

      abbrev pub the_note : HeardNote
      the_note = note_by (i.heap.texts ++ s.texts)

      said : (ts more : List Words) → ts ≡ (i.heap.texts ++ s.texts) ++ more → frame_heard v m bytes ≡ Some (note_by ts)
      said ts more front = subst (λ (out : Out Told). Stands out (frame_heard v m bytes)) heard stands ts (texts_stand ts more i s front)

      pub is_heard : frame_heard v m bytes ≡ Some the_note
      is_heard = said (i.heap.texts ++ s.texts) [] (sym (append-nil (i.heap.texts ++ s.texts)))

      -- it is what arrives, where its texts stand
      pub reads : (ts more : List Words) → ts ≡ (i.heap.texts ++ s.texts) ++ more → heard_by ts (Mess 0) (New (Mess 0) i.refs.me) v v note ≡ the_note.read
      reads ts more front =
          ap (λ (p : ℕ). heard_by ts (Mess 0) (New (Mess 0) i.refs.me) p p note) (sym table_here.peer)
          ∙ sym (agrees ts (Mess 0) i.refs.me t.peer note)
          ∙ ap (λ (h : HeardNote). h.read) (some_same (note_by ts) the_note (sym (said ts more front) ∙ is_heard))
