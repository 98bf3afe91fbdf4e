-- A note that a member heard arrives.
use Rattle.std.proofs.Common.{◌≡◌, ℕ, true, false, List, [], ◌∷◌, ◌++◌, map, drop, length, Option, Some, None, Result, Ok, Err, refl, sym, ap, subst, ◌∙◌, append_assoc, append-nil}
use Rattle.std.specs.Prelude.{IfSome, OnOk, slice_set}
use Rattle.std.proofs.lemmas.List.{map-append}
use Rattle.std.proofs.Math.Seq.{drop-append_seam}
use Rattle.def_run.specs.Vats.{Member as Theirs, asked_by, connection_for, heard_on}
use Rattle.def_machine.specs.Arrive.{New, arrive}
use Rattle.def_machine.specs.State as machine
use Rattle.def_machine.specs.State.{Act, Done, Note}
use Rattle.def_machine.specs.Values.{Words, Local, Mess, Prom}
use Rattle.def_op.specs.Frames.{IsOp, Operation}
use Rattle.def_run.specs.Connections.{Connection, Learnt}
use Rattle.ev_vat.proofs.Heard.{connection_here, fits, is_heard, reads, refused, the_note}
use Rattle.ev_vat.proofs.MemberSteps.{ComesTo, came, came_outbox, came_references, host_comes, host_stops, is_came, leaves, references_before}
use Rattle.ev_vat.proofs.Taking.{answers_are, answers_in, new_imports, set_for, taken_connection, taken_for}
use Rattle.ev_vat.proofs.Worlds.{grown_world, sees_back, sees_grown}
use Rattle.ev_vat.specs.Hearing.{AllOwn, BringsSo, Hears, HearsSo, HeardNote, IsSteadyHearing, answer_of, asked_of, frame_heard, having, taken, with_texts}
use Rattle.ev_vat.specs.Sending.{AreSent}
use Rattle.ev_vat.specs.Standing.{IsFound, Sees, with_draws}
use Rattle.ev_vat.specs.declared.member.Member.{Member}
use Rattle.ev_vat.specs.declared.sending.Sending.{Sending}
use Rattle.ev_op.specs.Decoded.{decoded}
use Rattle.ev_pass.specs.Reading.{names_under}
use Rattle.ev_pass.specs.declared.interior.Interior.{Interior}
use Rattle.ev_tables.specs.Standing.{connection_of, local_of}
use Rattle.ev_wire.specs.Bringing.{told}
use Rattle.ev_wire.specs.Hearing as code
use Rattle.ev_wire.specs.Learnt.{put_all}
use Rattle.ev_wire.specs.Reading.{learnt_of}
use Rattle.ev_wire.specs.declared.news.News.{News}
use Rattle.ev_arrive.specs.Hearing.{Name, heard_by}
use Rattle.ev_arrive.specs.declared.brought.Heard.{Heard as Noted}
use Rattle.ev_room.specs.Reading.{World, names, texts_of, vat_of}
use Rattle.ev_room.specs.Sound.{Grown, IsSound, Stays}
use Rattle.ev_tables.specs.Table.{Table}
use Rattle.ev_vat.specs.Vat.{ArrivalIs, IsReady, UnlessMemory, stop_in}
use Rattle.ev_vat.specs.declared.vat.Vat.{Vat}
use Rattle.ev_vat.specs.declared.vat.VatStop.{VatStop}
use Rattle.ev_vat.specs.declared.vat.VatStop.TheVariants.{Fuel, Deep, WordRepeated, Astray, Memory}
use Rattle.ev_wire.specs.Putting as written
use Rattle.ev_wire.specs.Putting.{put_all as all_put, table_for}
use Rattle.law_evaluation.proofs.Acts.Sounds.{text_sound}
use Rattle.law_evaluation.specs.Arrivals.Arrivals.{NoteFits, vat_in}
use Rattle.ev_wire.proofs.Lists.{map_set}
use Rattle.ev_wire.proofs.Stays.{stays_for}
use Rattle.ev_wire.proofs.Writes.{table_is}
use Rattle.def_run.specs.Seeing.{SeesAsBefore}
use Rattle.ev_wire.specs.Standing.{AreFor, HasReferences, connections_of}

-- ---- texts that are kept

abbrev keeping_all : Interior → List (List ℕ) → Interior
keeping_all i ts = record i { heap = record i.heap { texts = i.heap.texts ++ ts } }

abbrev with_all : Interior → List (List ℕ) → Interior
with_all i ts = record i { heap = record i.heap { texts = ts } }

pub texts_sound : (i : Interior) (ts : List (List ℕ)) → IsSound i → IsSound (keeping_all i ts)
texts_sound i [] sound = subst (λ (us : List (List ℕ)). IsSound (with_all i us)) (sym (append-nil i.heap.texts)) sound
texts_sound i (x ∷ ts) sound = subst (λ (us : List (List ℕ)). IsSound (with_all i us)) (append_assoc i.heap.texts (x ∷ []) ts) (texts_sound (keeping_all i (x ∷ [])) ts (text_sound i sound x))

-- a vat that keeps them is ready as it was, and what fits then fits
pub texts_ready : (v z : Vat) (ts : List (List ℕ)) → z ≡ with_texts ts v → IsReady v → IsReady z
texts_ready v z ts e ready = subst IsReady (sym e) (λ going. texts_sound v.host.inside ts (ready going))

pub texts_fit : (v z : Vat) (ts : List (List ℕ)) (note : Noted) → z ≡ with_texts ts v → (v.stopped ≡ None → NoteFits (with_texts ts v).host.inside.heap note) → z.stopped ≡ None → NoteFits z.host.inside.heap note
texts_fit v z ts note e f = subst (λ (x : Vat). x.stopped ≡ None → NoteFits x.host.inside.heap note) (sym e) f

-- what came to an end goes on
pub goes_on : {A : Type 0} (r : Result A VatStop) (o : Option VatStop) → o ≡ stop_in r → OnOk r (o ≡ None)
goes_on (Ok a) o e = e
goes_on (Err x) o e = tt

module _ (fuel : ℕ) (drawn : List ℕ) (m : Theirs) (q : Member) (found : IsFound fuel drawn m q) (ts : List (List ℕ)) where
  abbrev pub kept : Member
  kept = record q { vat = with_texts ts q.vat }

  -- in a world that has its texts, the vat is as it was
  kept_same : (w : World) → vat_in w kept.vat.host ≡ vat_in w q.vat.host
  unfolding vat_of
  kept_same w = refl

  kept_sees : (w : World) → Sees w kept.vat.host.inside → Sees w q.vat.host.inside
  kept_sees w e = record { outbox = e.outbox; happened = e.happened; rest = ts ++ e.rest; texts = e.texts ∙ append_assoc q.vat.host.inside.heap.texts ts e.rest; key = e.key }

  -- it is the same member, for the run
  pub kept_found : IsFound fuel drawn m kept
  kept_found = record {
    vat = λ w e. kept_same w ∙ found.vat w (kept_sees w e);
    rest = record {
      sound = texts_sound q.vat.host.inside ts found.rest.sound;
      going = found.rest.going;
      learnt = found.rest.learnt;
      connections = found.rest.connections;
      tables = found.rest.tables;
    };
  }

-- ---- a note arrives

module _ (fuel : ℕ) (drawn : List ℕ) (m : Theirs) (q c : Member) (found : IsFound fuel drawn m q) (v : ℕ) (bytes : List ℕ) (spelled : IfSome (decoded bytes) (λ (x : Operation × ℕ). IsOp x.0))
    (note : Noted) (news : News) (heard : code.frame_heard q.vat.host.inside (table_for v q.connections.items) q.learnt bytes ≡ Some (told note, news)) where
  abbrev pub before : Member
  before = kept fuel drawn m q found news.texts

  abbrev pub old : Interior
  old = before.vat.host.inside

  abbrev pub new : Interior
  new = c.vat.host.inside

  pub before_found : IsFound fuel drawn m before
  before_found = kept_found fuel drawn m q found news.texts

  abbrev pub t : Table
  t = table_for v q.connections.items

  abbrev pub h : HeardNote
  h = the_note fuel drawn m q found v bytes spelled note news heard

  abbrev pub note_in : List Words → Note Name
  note_in ts = heard_by ts (Mess 0) (New (Mess 0) q.vat.host.inside.refs.me) v v note

  -- what the vat does in each world
  abbrev pub Arrives : Result (Unit {0}) VatStop → Type 0
  Arrives r = (w : World) (rest : List Words) → texts_of w ≡ new.heap.texts ++ rest → old.words.key ≡ w.key → (n : Local) (x : Name) (k : ℕ)
      → ArrivalIs w r c.vat.host (arrive (names w) v (heard_by (texts_of w) n x k v note) (vat_in w before.vat.host))

  abbrev act : List ℕ → Act Local (Unit {0})
  act key = arrive (names_under key) v h.read

  abbrev pub outcome : Done Local (Unit {0})
  outcome = arrive (names_under q.vat.host.inside.words.key) v h.read (with_draws fuel drawn m.vat)

  arrives_so : (r : Result (Unit {0}) VatStop) → Grown old.heap new.heap → Arrives r → (w : World) (rest : List Words) → texts_of w ≡ new.heap.texts ++ rest → old.words.key ≡ w.key
      → ArrivalIs w r c.vat.host (act w.key (vat_in w before.vat.host))
  arrives_so r grown each w rest front key =
      let behind = front ∙ ap (λ (ts : List Words). ts ++ rest) grown.texts.1 ∙ append_assoc old.heap.texts grown.texts.0 rest in
      subst (λ (n : Note Name). ArrivalIs w r c.vat.host (arrive (names w) v n (vat_in w before.vat.host)))
      (reads fuel drawn m q found v bytes spelled note news heard (texts_of w) (grown.texts.0 ++ rest) behind)
      (each w rest front key (Mess 0) (New (Mess 0) q.vat.host.inside.refs.me) v)

  pub hear_stops : {A : Type 0} (read : A → List Sending) (e : VatStop) → Arrives (Err e) → UnlessMemory {A = Unit {0}} (Err e) (Grown old.heap new.heap) → UnlessMemory {A = Unit {0}} (Err e) (Stays old new)
      → HearsSo v m h read (Err e) c outcome
  hear_stops read Fuel each grown stays = host_stops fuel drawn m before c before_found act read Fuel (arrives_so (Err Fuel) grown each) grown stays
  hear_stops read Deep each grown stays = host_stops fuel drawn m before c before_found act read Deep (arrives_so (Err Deep) grown each) grown stays
  hear_stops read (WordRepeated i j) each grown stays = host_stops fuel drawn m before c before_found act read (WordRepeated i j) (arrives_so (Err (WordRepeated i j)) grown each) grown stays
  hear_stops read Astray each grown stays = host_stops fuel drawn m before c before_found act read Astray (arrives_so (Err Astray) grown each) grown stays
  hear_stops read Memory each grown stays = tt

  -- ---- what is had then

  abbrev pub due : Option ℕ
  due = answer_of (asked_of note) news.known c.vat.host

  abbrev pub tables : List Table
  tables = slice_set q.connections.items v (taken news due t)

  pub had_is : (s : machine.Vat Local) → map Prom (answers_in due) ≡ asked_by h.after.known s h.read → connections_of tables ≡ (having v m h s).connections
  unfolding heard_on
  had_is s answers =
      map_set connection_of q.connections.items v (taken news due t)
      ∙ ap (λ (cs : List (Connection Local)). slice_set cs v (connection_of (taken news due t))) found.rest.connections
      ∙ ap (λ (x : Connection Local). slice_set m.connections v x) (taken_connection news due t
      ∙ ap (λ (ns : List Local). record (connection_of t) { imports = h.after.imports; answers = map Prom t.answers ++ ns }) answers
      ∙ ap (λ (x : Connection Local). record x { imports = h.after.imports; answers = x.answers ++ asked_by h.after.known s h.read }) (sym (connection_here fuel drawn m q found v)))

  pub learnt_is : c.learnt ≡ put_all news.gifts q.learnt → map learnt_of c.learnt ≡ h.after.learnt
  learnt_is e = ap (map learnt_of) (e ∙ (fits fuel drawn m q found v bytes spelled note news heard).1)

  imports_are : drop (length (connection_for v m).imports) h.after.imports ≡ map local_of news.imports
  imports_are = ap (λ (x : Connection Local). drop (length x.imports) h.after.imports) (connection_here fuel drawn m q found v) ∙ new_imports t news.imports

  gifts_are : drop (length m.learnt) h.after.learnt ≡ map learnt_of news.gifts
  gifts_are =
      ap (λ (gs : List (Learnt Local)). drop (length gs) h.after.learnt) (sym found.rest.learnt)
      ∙ ap (drop (length (map learnt_of q.learnt))) (map-append learnt_of q.learnt news.gifts)
      ∙ drop-append_seam (map learnt_of q.learnt) (map learnt_of news.gifts)

  -- what the frame brought
  pub brings : BringsSo v m (frame_heard v m bytes) news
  brings =
      subst (λ (o : Option HeardNote). BringsSo v m o news) (sym (is_heard fuel drawn m q found v bytes spelled note news heard))
      (record { imports = sym imports_are; gifts = sym gifts_are; known = refl })

  module _ (s : machine.Vat Local) (references : HasReferences new.heap.texts new.refs s) (answers : map Prom (answers_in due) ≡ asked_by h.after.known s h.read) (steady : IsSteadyHearing v m h s) where
    pub tables_for : AreFor new.refs q.connections.items → AreFor new.refs tables
    tables_for all =
        set_for new.refs q.connections.items v (taken news due t) all
        (taken_for new.heap.texts new.refs s references v t news due (table_is new.refs q.connections.items v all) (fits fuel drawn m q found v bytes spelled note news heard).2
        (subst (λ (ns : List Local). AllOwn false s ns) imports_are steady.imports) (subst (λ (ns : List Local). AllOwn true s ns) (sym answers) steady.answers))

  -- what was sent, where the note arrived
  pub hear_sends : {A : Type 0} (read : A → List Sending) (a : A) → Arrives (Ok tt) → Grown old.heap new.heap → Stays old new → IsSound new → c.vat.stopped ≡ None → c.learnt ≡ put_all news.gifts q.learnt
      → AreSent (written.all_written new new.post tables) (read a) → c.connections.items ≡ all_put new new.post tables → HearsSo v m h read (Ok (Some a)) c outcome
  hear_sends read a arrives grown stays sound going learnt sends puts =
      let each : ComesTo c.vat.host outcome = host_comes fuel drawn m before c before_found act grown stays (arrives_so (Ok tt) grown arrives) in
      let w = grown_world old new before_found.rest.sound grown in
      let sees = sees_grown old new before_found.rest.sound grown in
      let s = came old c.vat.host outcome before_found.rest.sound grown each in
      let is = is_came old c.vat.host outcome before_found.rest.sound grown each in
      let references = came_references old c.vat.host outcome before_found.rest.sound grown each in
      let ts = q.vat.host.inside.heap.texts ++ news.texts in
      let answers : map Prom (answers_in due) ≡ asked_by h.after.known s h.read =
      answers_are ts (Mess 0) (New (Mess 0) q.vat.host.inside.refs.me) v v note news.known c.vat.host s refl
      ∙ ap (λ (n : Note Name). asked_by news.known s n) (reads fuel drawn m q found v bytes spelled note news heard ts [] (sym (append-nil ts))) in (
        s,
        record { gives = each w sees; vat = is },
        λ steady.
            leaves c (having v m h s) s (read a) tables is references (came_outbox old c.vat.host outcome before_found.rest.sound grown each) sound going (learnt_is learnt) (had_is s answers)
            (tables_for s references answers steady (stays_for (texts_of w) new.heap.texts old.refs new.refs m.vat s q.connections.items (references_before fuel drawn m before c before_found w (sees_back w old new grown stays sees)) references
            (subst (λ (cs : List (Connection Local)). SeesAsBefore m.vat s cs) (sym found.rest.connections) steady.owns) found.rest.tables))
            sends puts steady.asks,
      )

  -- as the frame was heard
  pub hears_on : {A : Type 0} (read : A → List Sending) (r : Result (Option A) VatStop) → HearsSo v m h read r c outcome → Hears (names_under q.vat.host.inside.words.key) fuel drawn v m read r q c (frame_heard v m bytes)
  hears_on read r so = subst (λ (o : Option HeardNote). Hears (names_under q.vat.host.inside.words.key) fuel drawn v m read r q c o) (sym (is_heard fuel drawn m q found v bytes spelled note news heard)) so

-- a frame that is malformed
pub hears_none : (fuel : ℕ) (drawn : List ℕ) (m : Theirs) (q : Member) (found : IsFound fuel drawn m q) (v : ℕ) (bytes : List ℕ) (spelled : IfSome (decoded bytes) (λ (x : Operation × ℕ). IsOp x.0)) {A : Type 0} (read : A → List Sending)
    → code.frame_heard q.vat.host.inside (table_for v q.connections.items) q.learnt bytes ≡ None → Hears (names_under q.vat.host.inside.words.key) fuel drawn v m read (Ok None) q q (frame_heard v m bytes)
hears_none fuel drawn m q found v bytes spelled {A = A} read e =
    subst (λ (o : Option HeardNote). Hears {A = A} (names_under q.vat.host.inside.words.key) fuel drawn v m read (Ok None) q q o) (sym (refused fuel drawn m q found v bytes spelled e)) (refl, refl)
