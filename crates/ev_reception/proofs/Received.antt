-- A note of any peer that a member heard is received.
use Rattle.std.proofs.Common.{◌≡◌, ℕ, Bool, true, false, List, [], ◌∷◌, ◌++◌, map, Option, Some, None, Result, Ok, Err, refl, sym, ap, subst, ◌∙◌, append_assoc, append-nil}
use Rattle.std.specs.Prelude.{IfSome, slice_set}
use Rattle.def_hostile.specs.Arrivals as run
use Rattle.def_hostile.specs.Arrivals.{learnt_after, sees}
use Rattle.def_machine.specs.Arrive.{New}
use Rattle.def_machine.specs.Receive as receive
use Rattle.def_machine.specs.State as machine
use Rattle.def_machine.specs.State.{Act, Done, Note}
use Rattle.def_machine.specs.Values.{Words, Local, Mess, Naming, Prom}
use Rattle.def_op.specs.Frames.{IsOp, Operation}
use Rattle.def_run.specs.Connections.{Connection, Learnt}
use Rattle.def_run.specs.Seeing.{SeesAsBefore}
use Rattle.def_run.specs.Vats.{Member as Theirs, asked_by}
use Rattle.ev_arrive.specs.Hearing.{Name, Sees, heard_by}
use Rattle.ev_arrive.specs.declared.brought.Heard.{Heard as Noted}
use Rattle.ev_arrive.specs.declared.receiving.Sight.{Sight}
use Rattle.ev_op.specs.Decoded.{decoded}
use Rattle.ev_pass.specs.Reading.{names_under, put_by}
use Rattle.ev_pass.specs.declared.interior.Interior.{Interior}
use Rattle.ev_reception.proofs.Nothing.{nothing_heard}
use Rattle.ev_reception.specs.Receiving.{ComesIn, Receives, ReceivesSo, brings_nothing, received}
use Rattle.ev_reception.specs.declared.receiving.Receipt.{Receipt}
use Rattle.ev_reception.specs.declared.receiving.Receipt.TheVariants.{Unheard, Idle, Came}
use Rattle.ev_room.specs.Reading.{World, names, texts_of}
use Rattle.ev_room.specs.Sound.{Grown, IsSound, Stays}
use Rattle.ev_tables.specs.Table.{Table}
use Rattle.ev_vat.proofs.Arriving.{before_found, had_is, kept, tables_for}
use Rattle.ev_vat.proofs.Heard.{fits, is_heard, reads, refused, the_note}
use Rattle.ev_vat.proofs.MemberSteps.{ComesTo, came, came_outbox, came_references, host_comes, host_stops, is_came, leaves, references_before}
use Rattle.ev_vat.proofs.Taking.{answers_are, answers_in}
use Rattle.ev_vat.proofs.Worlds.{grown_world, sees_back, sees_grown}
use Rattle.ev_vat.specs.Hearing.{HeardNote, IsSteadyHearing, answer_of, asked_of, frame_heard, taken}
use Rattle.ev_vat.specs.MemberSteps.{EndsSo, own}
use Rattle.ev_vat.specs.Sending.{AreSent}
use Rattle.ev_vat.specs.Standing.{IsFound, with_draws}
use Rattle.ev_vat.specs.Vat.{ArrivalIs, UnlessMemory}
use Rattle.ev_vat.specs.declared.hearing.Arrival.{Arrival}
use Rattle.ev_vat.specs.declared.member.Member.{Member}
use Rattle.ev_vat.specs.declared.sending.Sending.{Sending}
use Rattle.ev_vat.specs.declared.vat.VatStop.{VatStop}
use Rattle.ev_vat.specs.declared.vat.VatStop.TheVariants.{Fuel, Deep, WordRepeated, Astray, Memory}
use Rattle.ev_wire.proofs.Stays.{stays_for}
use Rattle.ev_wire.specs.Bringing.{told}
use Rattle.ev_wire.specs.Hearing as code
use Rattle.ev_wire.specs.Learnt.{put_all}
use Rattle.ev_wire.specs.Putting as written
use Rattle.ev_wire.specs.Putting.{put_all as all_put, table_for}
use Rattle.ev_wire.specs.Reading.{learnt_of}
use Rattle.ev_wire.specs.declared.news.News.{News}
use Rattle.law_evaluation.specs.Arrivals.Arrivals.{vat_in}

module _ (fuel : ℕ) (drawn : List ℕ) (m : Theirs) (q c : Member) (found : IsFound fuel drawn m q) (v : ℕ) (bytes : List ℕ) (spelled : IfSome (decoded bytes) (λ (x : Operation × ℕ). IsOp x.0))
    (note : Noted) (news : News) (heard : code.frame_heard q.vat.host.inside (table_for v q.connections.items) q.learnt bytes ≡ Some (told note, news)) where
  abbrev before : Member
  before = kept fuel drawn m q found news.texts

  abbrev old : Interior
  old = before.vat.host.inside

  abbrev new : Interior
  new = c.vat.host.inside

  abbrev ready : IsFound fuel drawn m before
  ready = before_found fuel drawn m q c found v bytes spelled note news heard

  abbrev t : Table
  t = table_for v q.connections.items

  abbrev pub h : HeardNote
  h = the_note fuel drawn m q found v bytes spelled note news heard

  abbrev K : Naming Local Local
  K = names_under q.vat.host.inside.words.key

  abbrev act : List ℕ → Act Local (Unit {0})
  act key = receive.receive (names_under key) (sees v m) v h.read

  abbrev pub outcome : Done Local (Unit {0})
  outcome = receive.receive K (sees v m) v h.read (with_draws fuel drawn m.vat)

  module _ (see : Sight) (sight : Sees (sees v m) q.vat.host note see) where
    -- what the vat does in each world
    abbrev pub ComesSo : Result (Unit {0}) VatStop → Type 0
    ComesSo r = (w : World) (rest : List Words) → texts_of w ≡ new.heap.texts ++ rest → old.words.key ≡ w.key → (their : receive.Sight Local) → Sees their q.vat.host note see → (n : Local) (x : Name) (k : ℕ)
        → ArrivalIs w r c.vat.host (receive.receive (names w) their v (heard_by (texts_of w) n x k v note) (vat_in w before.vat.host))

    comes_so : (r : Result (Unit {0}) VatStop) → Grown old.heap new.heap → ComesSo r → (w : World) (rest : List Words) → texts_of w ≡ new.heap.texts ++ rest → old.words.key ≡ w.key
        → ArrivalIs w r c.vat.host (act w.key (vat_in w before.vat.host))
    comes_so r grown each w rest front key =
        let behind = front ∙ ap (λ (ts : List Words). ts ++ rest) grown.texts.1 ∙ append_assoc old.heap.texts grown.texts.0 rest in
        subst (λ (n : Note Name). ArrivalIs w r c.vat.host (receive.receive (names w) (sees v m) v n (vat_in w before.vat.host)))
        (reads fuel drawn m q found v bytes spelled note news heard (texts_of w) (grown.texts.0 ++ rest) behind)
        (each w rest front key (sees v m) sight (Mess 0) (New (Mess 0) q.vat.host.inside.refs.me) v)

    -- ---- stops

    abbrev read_none : List Sending → List Sending
    read_none xs = xs

    stop_as : (alone : Bool) (e : VatStop) → EndsSo m (own m) read_none (Err e) c outcome → ReceivesSo alone v m h (Err e) c outcome
    stop_as alone Fuel so = so
    stop_as alone Deep so = so
    stop_as alone (WordRepeated i j) so = so
    stop_as alone Astray so = so
    stop_as alone Memory so = so

    stops_so : (e : VatStop) → ComesSo (Err e) → UnlessMemory {A = Unit {0}} (Err e) (Grown old.heap new.heap) → UnlessMemory {A = Unit {0}} (Err e) (Stays old new) → EndsSo m (own m) read_none (Err e) c outcome
    stops_so Fuel each grown stays = host_stops fuel drawn m before c ready act read_none Fuel (comes_so (Err Fuel) grown each) grown stays
    stops_so Deep each grown stays = host_stops fuel drawn m before c ready act read_none Deep (comes_so (Err Deep) grown each) grown stays
    stops_so (WordRepeated i j) each grown stays = host_stops fuel drawn m before c ready act read_none (WordRepeated i j) (comes_so (Err (WordRepeated i j)) grown each) grown stays
    stops_so Astray each grown stays = host_stops fuel drawn m before c ready act read_none Astray (comes_so (Err Astray) grown each) grown stays
    stops_so Memory each grown stays = tt

    pub receive_stops : (alone : Bool) (e : VatStop) → ComesSo (Err e) → UnlessMemory {A = Unit {0}} (Err e) (Grown old.heap new.heap) → UnlessMemory {A = Unit {0}} (Err e) (Stays old new)
        → ReceivesSo alone v m h (Err e) c outcome
    receive_stops alone e each grown stays = stop_as alone e (stops_so e each grown stays)

    -- ---- what is had then

    abbrev pub due : Option ℕ
    due = answer_of (asked_of note) news.known c.vat.host

    abbrev pub tables : List Table
    tables = slice_set q.connections.items v (taken news due t)

    learnt_is : (alone : Bool) (s : machine.Vat Local) → s.outbox ≡ map (put_by new.heap.texts) new.post
        → ((ts : List Words) → map learnt_of c.learnt ≡ learnt_after alone (map (put_by ts) new.post) (map learnt_of (put_all news.gifts q.learnt)))
        → map learnt_of c.learnt ≡ learnt_after alone s.outbox h.after.learnt
    learnt_is alone s outbox asks =
        asks new.heap.texts
        ∙ ap (λ (ps : List (machine.Put Local)). learnt_after alone ps (map learnt_of (put_all news.gifts q.learnt))) (sym outbox)
        ∙ ap (λ (ls : List (Learnt Local)). learnt_after alone s.outbox ls) (ap (map learnt_of) (fits fuel drawn m q found v bytes spelled note news heard).1)

    pub receive_sends : (alone : Bool) (a : Arrival) → ComesSo (Ok tt) → Grown old.heap new.heap → Stays old new → IsSound new → c.vat.stopped ≡ None
        → ((ts : List Words) → map learnt_of c.learnt ≡ learnt_after alone (map (put_by ts) new.post) (map learnt_of (put_all news.gifts q.learnt)))
        → AreSent (written.all_written new new.post tables) a.sendings.items → c.connections.items ≡ all_put new new.post tables → ReceivesSo alone v m h (Ok (Came a)) c outcome
    receive_sends alone a comes grown stays sound going asks sends puts =
        let each : ComesTo c.vat.host outcome = host_comes fuel drawn m before c ready act grown stays (comes_so (Ok tt) grown comes) in
        let w = grown_world old new ready.rest.sound grown in
        let seen = sees_grown old new ready.rest.sound grown in
        let s = came old c.vat.host outcome ready.rest.sound grown each in
        let is = is_came old c.vat.host outcome ready.rest.sound grown each in
        let references = came_references old c.vat.host outcome ready.rest.sound grown each in
        let outbox = came_outbox old c.vat.host outcome ready.rest.sound grown each in
        let ts = q.vat.host.inside.heap.texts ++ news.texts in
        let answers : map Prom (answers_in due) ≡ asked_by h.after.known s h.read =
        answers_are ts (Mess 0) (New (Mess 0) q.vat.host.inside.refs.me) v v note news.known c.vat.host s refl
        ∙ ap (λ (n : Note Name). asked_by news.known s n) (reads fuel drawn m q found v bytes spelled note news heard ts [] (sym (append-nil ts))) in (
          s,
          record { gives = each w seen; vat = is },
          λ steady.
              leaves c (received alone v m h s) s a.sendings.items tables is references outbox sound going (learnt_is alone s outbox asks) (had_is fuel drawn m q c found v bytes spelled note news heard s answers)
              (tables_for fuel drawn m q c found v bytes spelled note news heard s references answers steady
              (stays_for (texts_of w) new.heap.texts old.refs new.refs m.vat s q.connections.items (references_before fuel drawn m before c ready w (sees_back w old new grown stays seen)) references
              (subst (λ (cs : List (Connection Local)). SeesAsBefore m.vat s cs) (sym found.rest.connections) steady.owns) found.rest.tables))
              sends puts steady.asks,
        )

    -- ---- as the frame was heard

    comes_by : (b alone : Bool) (r : Result Receipt VatStop) (z : Member) → brings_nothing v see note q.vat.host ≡ b → ComesIn b alone v m h r q z outcome
        → Receives K alone fuel drawn v m r q z (frame_heard v m bytes)
    comes_by b alone r z e so =
        subst (λ (o : Option HeardNote). Receives K alone fuel drawn v m r q z o) (sym (is_heard fuel drawn m q found v bytes spelled note news heard))
        (subst (λ (x : Bool). ComesIn x alone v m h r q z outcome) (sym e ∙ nothing_heard fuel drawn m q found v bytes spelled note news heard see sight) so)

    -- where it brings nothing
    pub comes_idle : (alone : Bool) → brings_nothing v see note q.vat.host ≡ true → Receives K alone fuel drawn v m (Ok Idle) q q (frame_heard v m bytes)
    comes_idle alone e = comes_by true alone (Ok Idle) q e (refl, refl)

    pub comes_on : (alone : Bool) (r : Result Receipt VatStop) → brings_nothing v see note q.vat.host ≡ false → ReceivesSo alone v m h r c outcome → Receives K alone fuel drawn v m r q c (frame_heard v m bytes)
    comes_on alone r e so = comes_by false alone r c e so

-- a frame that is not heard
pub comes_none : (fuel : ℕ) (drawn : List ℕ) (m : Theirs) (q : Member) (found : IsFound fuel drawn m q) (v : ℕ) (bytes : List ℕ) (spelled : IfSome (decoded bytes) (λ (x : Operation × ℕ). IsOp x.0)) (alone : Bool)
    → code.frame_heard q.vat.host.inside (table_for v q.connections.items) q.learnt bytes ≡ None → Receives (names_under q.vat.host.inside.words.key) alone fuel drawn v m (Ok Unheard) q q (frame_heard v m bytes)
comes_none fuel drawn m q found v bytes spelled alone e =
    subst (λ (o : Option HeardNote). Receives (names_under q.vat.host.inside.words.key) alone fuel drawn v m (Ok Unheard) q q o) (sym (refused fuel drawn m q found v bytes spelled e)) (refl, refl)
