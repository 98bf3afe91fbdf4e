-- What a note that arrives comes to in the code, in the run in numbers.
use Rattle.std.proofs.Common.{◌≡◌, inl, inr, ◌<◌, ℕ, Bool, true, false, List, [], ◌∷◌, ◌++◌, Option, Some, None, Result, Ok, Err, length, refl, sym, ap, subst, ◌∙◌}
use Rattle.std.specs.Prelude.{IsErr, IsErrAnd, slice_get}
use Rattle.std.proofs.lemmas.List.{length-map}
use Rattle.def_event.specs.declared.event.Event.{Event as ShownEvent}
use Rattle.def_event.specs.declared.event.Event.TheVariants as line
use Rattle.def_run.specs.Numbers.{Brought, Course, Frame, Runs, Vats, Way, after_step, arrives, brings, carry_frames, carry_way, hears, idle, left_by, numbers, ready, step, step_number, way_at, with_way}
use Rattle.def_run.specs.Vats.{Member, connection_for, heard_in}
use Rattle.def_machine.specs.Arrive.{arrive}
use Rattle.def_machine.specs.State as machine
use Rattle.def_machine.specs.State.{Done, Gives}
use Rattle.def_machine.specs.Values.{Local, Naming}
use Rattle.def_op.specs.Frames.{spelling}
use Rattle.def_run.specs.Connections.{Connection}
use Rattle.def_run.specs.Shown.{shown_event}
use Rattle.def_run.specs.Text.{shown_events, vat_names}
use Rattle.def_run.specs.World.{Carried, Carry, Event, Idle, Script}
use Rattle.ev_resident.specs.MemberHearing.{BringsSo, HeardNote, Hears, HearsSo, IsSteadyHearing, frame_heard, having}
use Rattle.ev_resident.specs.MemberStanding.{IsFound, IsMember, with_draws}
use Rattle.ev_resident.specs.MemberSteps.{Having, IsDone, Leaves}
use Rattle.ev_resident.specs.declared.Member.{Member as Ours}
use Rattle.ev_resident.specs.declared.Sending.{Sending}
use Rattle.ev_resident.specs.Names.{Entry}
use Rattle.ev_resident.specs.NamesStanding.{Says, words_of}
use Rattle.ev_resident.specs.OutcomeStanding.{NamesStand}
use Rattle.ev_pass.specs.Acts.{words_by}
use Rattle.ev_pass.specs.Reading.{names_under}
use Rattle.ev_tables.specs.Standing.{local_of}
use Rattle.ev_wire.specs.declared.news.News.{News}
use Rattle.ev_resident.proofs.Worlds.{is_after}
use Rattle.ev_resident.specs.Standing.{IsResident, IsStepped}
use Rattle.ev_resident.specs.declared.resident.Resident.{Resident}
use Rattle.ev_room.specs.Reading.{vat_of}
use Rattle.ev_resident.specs.declared.VatStop.{VatStop}
use Rattle.ev_resident.specs.declared.VatStop.TheVariants.{Fuel, Deep, WordRepeated, Astray, Memory}
use Rattle.ev_ways.proofs.Changes.{carry_stands}
use Rattle.ev_ways.proofs.Places.{chosen, refused}
use Rattle.ev_ways.specs.Rows.{Lane, behind, changed, next_at}
use Rattle.ev_ways.specs.Standing.{WaysStand}
use Rattle.ev_ways.specs.Statements.{Carries, IsCarried, IsIdle}
use Rattle.ev_ways.specs.declared.frame.Frame.{Frame as Sent}
use Rattle.ev_wire.specs.Putting.{table_for}
use Rattle.ev_step_text.specs.Accounts.{IsAccount, More, Recounts}
use Rattle.ev_step_text.specs.declared.account.Account.{Account}
use Rattle.ev_world.specs.Carrying.{HeardFrom, HearsFrame, TellsFrame, note_lines}
use Rattle.ev_world.specs.Midway.{IsMidway, having_of}
use Rattle.ev_world.specs.Standing.{Comes, HaltsAs, IsWorld, told_so}
use Rattle.ev_world.specs.Steadily.{StepsSteadily}
use Rattle.ev_world.specs.declared.carrying.Heard.{Heard}
use Rattle.ev_world.specs.declared.world.World.{World}
use Rattle.ev_world.proofs.Acting.{StopsAs, Took, midway_is, numbers_are, ready_is, receiver, stop_halts}
use Rattle.ev_world.proofs.CarryingFrames.{account_more, carried, frame_alike, frame_is, heard_exports, hears_steadily, mails_named, note_shown, sender_is, sender_other, ways_left_alike}
use Rattle.ev_world.proofs.Cuts.{moved}
use Rattle.ev_world.proofs.Objects.{is_within, set_other, set_there, table_is}
use Rattle.ev_world.proofs.Pushes.{history_alike, ways_alike}
use Rattle.ev_world.proofs.Telling.{stands}
use Rattle.ev_wire.specs.Standing.{connections_of}
use Rattle.def_run.specs.Steady.{ShownAlike}

-- ---- an entry that finds no frame

either : {A : Type 0} (b : Bool) (x y : A) → y ≡ x → ◌≡◌ {A = A} (elim b [ true ↦ x | false ↦ y ]) x
either true x y e = refl
either false x y e = e

nothing_carried : (S : Script) (w : Vats) (v u k : ℕ) (o : Option Way) → IsIdle o → carry_way S k v u w o ≡ idle S k w
unfolding carry_way carry_frames
nothing_carried S w v u k None i = refl
nothing_carried S w v u k (Some l) (inl cut) = chosen l.cut (idle S k w) (carry_frames S k v u w l.frames) cut
nothing_carried S w v u k (Some l) (inr none) = either l.cut (idle S k w) (carry_frames S k v u w l.frames) (ap (carry_frames S k v u w) none)

pub carry_idles : (S : Script) (w : Vats) (v u k : ℕ) (c : World) (rows : List (List Lane)) (h : Account) → IsWorld S w c → next_at v u c.ways ≡ None → rows ≡ changed behind v u c.ways → More c.history h (line.Idle k ∷ [])
    → Comes (λ (y : Vats). IsWorld S y (record c { ways = rows; history = h })) (step S (Carry v u) k w)
unfolding step idle shown_events shown_event
carry_idles S w v u k c rows h at none left more =
    let law : Carries w.drawn (length S.vats) v u w.ways (changed behind v u c.ways) None =
    subst (λ (o : Option Sent). Carries w.drawn (length S.vats) v u w.ways (changed behind v u c.ways) o) none (carry_stands w.drawn (length S.vats) v u w.ways c.ways at.ways) in
    subst (λ (r : List (List Lane)). Comes (λ (y : Vats). IsWorld S y (record c { ways = r; history = h })) (step S (Carry v u) k w)) (sym left) (
      record w { history = w.history ++ Idle k ∷ [] },
      (nothing_carried S w v u k (way_at v u w.ways) law.0, moved S w c w.ways (Idle k ∷ []) (changed behind v u c.ways) (line.Idle k ∷ []) h at law.1 refl refl more),
    )

-- ---- what a call that hears answered

-- A note was heard, and the step that it began left the vat so, with these frames.
pub record HearsOne (K : Naming Local Local) (s : machine.Vat Local) (v : ℕ) (m : Member) (o : Option HeardNote) (xs : List Sending) (q : Ours) : Type 0 where
  pub note : HeardNote
  pub is : o ≡ Some note
  pub state : machine.Vat Local
  pub done : IsDone state q (arrive K v note.read s)
  pub leaves : IsSteadyHearing v m note state → Leaves (having v m note state) state xs q

pub hears_one : {A : Type 0} (K : Naming Local Local) (fuel : ℕ) (drawn : List ℕ) (v : ℕ) (m : Member) (read : A → List Sending) (a : A) (before after : Ours) (o : Option HeardNote) → Hears {A = A} K fuel drawn v m read (Ok (Some a)) before after o
    → HearsOne K (with_draws fuel drawn m.vat) v m o (read a) after
hears_one K fuel drawn v m read a before after None h = let no_answer = h.0 in absurd cc
hears_one K fuel drawn v m read a before after (Some n) h = record { note = n; is = refl; state = h.0; done = h.1; leaves = h.2 }

hear_stops : {A : Type 0} (v : ℕ) (m : Member) (n : HeardNote) (read : A → List Sending) (e : VatStop) (c : Ours) (d : Done Local (Unit {0})) → HearsSo {A = A} v m n read (Err e) c d → StopsAs e d
hear_stops v m n read Fuel c d h = h
hear_stops v m n read Deep c d h = h
hear_stops v m n read (WordRepeated i j) c d h = h
hear_stops v m n read Astray c d h = h
hear_stops v m n read Memory c d h = tt

-- ---- the state without the frame

abbrev pub without : Vats → ℕ → ℕ → List Frame → Vats
without w v u xs = record w { ways = with_way (λ (l : Way). record l { frames = xs }) v u w.ways }

carries_frame : (S : Script) (w : Vats) (v u k : ℕ) (l : Way) (x : Frame) (xs : List Frame) (m : Member) → way_at v u w.ways ≡ Some l → l.cut ≡ false → l.frames ≡ x ∷ xs → slice_get w.members u ≡ Some m
    → step S (Carry v u) k w ≡ hears S k v u (without w v u xs) x m (heard_in v x.op m)
unfolding step carry_way carry_frames arrives
carries_frame S w v u k l x xs m found uncut under_way here =
    ap (carry_way S k v u w) found
    ∙ refused l.cut (idle S k w) (carry_frames S k v u w l.frames) uncut
    ∙ ap (carry_frames S k v u w) under_way
    ∙ ap (arrives S k v u (without w v u xs) x) here

-- how much one vat has of a peer
imports_are : (q : ℕ) (a : Member) (c : Ours) → connections_of c.connections.items ≡ a.connections → length (table_for q c.connections.items).imports ≡ length (connection_for q a).imports
imports_are q a c same = sym (length-map (table_for q c.connections.items).imports local_of) ∙ ap (λ (e : Connection Local). length e.imports) (sym (table_is q a c same))

-- the words of a vat after its step
drawn_are : (m : Member) (b : Having) (s : machine.Vat Local) (xs : List Sending) (c : Ours) → IsStepped b s xs c → words_of c.vat.host.inside.words ≡ s.drawn
unfolding vat_of
drawn_are m b s xs c stepped = let saw = is_after m b s xs c stepped in ap (λ (v : machine.Vat Local). v.drawn) saw.vat

-- Vat u, which is m, hears the frame k that was next on its way from vat v.
module _ (S : Script) (w : Vats) (v u k : ℕ) (m : Member) (c : World) (fr : Sent) (at : IsWorld S w c) (here : slice_get w.members u ≡ Some m) (next : next_at v u c.ways ≡ Some fr) where
  abbrev carries : IsCarried w.drawn (length S.vats) v u w.ways (changed behind v u c.ways) fr
  carries = carried w.drawn (length S.vats) v u w.ways c.ways fr next at.ways

  abbrev x : Frame
  x = carries.taken.first

  abbrev left : Vats
  left = without w v u carries.taken.others

  abbrev head : List Event
  head = Carried k v u x.note (spelling x.op) ∷ []

  abbrev found : machine.Vat Local
  found = with_draws c.fuel (words_by c.words.key c.words.count) m.vat

  course_is : step S (Carry v u) k w ≡ hears S k v u left x m (frame_heard v m fr.bytes)
  course_is =
      carries_frame S w v u k carries.taken.way x carries.taken.others m carries.taken.found carries.uncut carries.taken.under_way here
      ∙ ap (hears S k v u left x m) (sym (frame_is w.drawn v u m x fr carries.taken.is_frame))

  found_is : found ≡ ready w m.vat
  found_is = ready_is w c.fuel (words_by c.words.key c.words.count) m.vat at.fuel at.drawn

  found_left : found ≡ ready left m.vat
  found_left = ready_is left c.fuel (words_by c.words.key c.words.count) m.vat at.fuel at.drawn

  arrives_at : (n : HeardNote) (s : machine.Vat Local) → found ≡ s → arrive (names_under c.words.key) v n.read found ≡ arrive (numbers S) v n.read s
  arrives_at n s e = ap (λ (K : Naming Local Local). arrive K v n.read found) (numbers_are S c.words.key at.key) ∙ ap (arrive (numbers S) v n.read) e

  -- ---- it stops, or the frame is malformed

  halts_so : {A : Type 0} (read : A → List Sending) (e : VatStop) (before after : Ours) (wire : Bool) (told : Account) (o : Option HeardNote) → Recounts told (told_so wire (shown_events w.drawn w.history))
      → Hears {A = A} (names_under c.words.key) c.fuel (words_by c.words.key c.words.count) v m read (Err e) before after o → HaltsAs e (step_number S k) wire (hears S k v u left x m o) told
  unfolding hears
  halts_so read Fuel before after wire told None f h = absurd h
  halts_so read Deep before after wire told None f h = absurd h
  halts_so read (WordRepeated i j) before after wire told None f h = absurd h
  halts_so read Astray before after wire told None f h = absurd h
  halts_so read Memory before after wire told None f h = tt
  halts_so read e before after wire told (Some n) f h =
      stop_halts e left u head (step_number S k) m (brings S left v u x n m) (arrive (numbers S) v n.read (ready left m.vat)) wire told
      (subst (StopsAs e) (arrives_at n (ready left m.vat) found_left) (hear_stops v m n read e after (arrive (names_under c.words.key) v n.read found) h)) f

  pub hear_halts : {A : Type 0} (read : A → List Sending) (e : VatStop) (before after : Ours) (wire : Bool) (told : Account) → Recounts told (told_so wire (shown_events w.drawn w.history))
      → Hears {A = A} (names_under c.words.key) c.fuel (words_by c.words.key c.words.count) v m read (Err e) before after (frame_heard v m fr.bytes) → HaltsAs e (step_number S k) wire (step S (Carry v u) k w) told
  hear_halts read e before after wire told f h =
      subst (λ (d : Course). HaltsAs e (step_number S k) wire d told) (sym course_is) (halts_so read e before after wire told (frame_heard v m fr.bytes) f h)

  astray_so : {A : Type 0} (read : A → List Sending) (before after : Ours) (wire : Bool) (told : Account) (o : Option HeardNote) → Recounts told (told_so wire (shown_events w.drawn w.history))
      → Hears {A = A} (names_under c.words.key) c.fuel (words_by c.words.key c.words.count) v m read (Ok None) before after o → HaltsAs Astray (step_number S k) wire (hears S k v u left x m o) told
  unfolding hears
  astray_so read before after wire told None f h = (left, (refl, f))
  astray_so read before after wire told (Some n) f h = absurd h

  pub hear_astray : {A : Type 0} (read : A → List Sending) (before after : Ours) (wire : Bool) (told : Account) → Recounts told (told_so wire (shown_events w.drawn w.history))
      → Hears {A = A} (names_under c.words.key) c.fuel (words_by c.words.key c.words.count) v m read (Ok None) before after (frame_heard v m fr.bytes) → HaltsAs Astray (step_number S k) wire (step S (Carry v u) k w) told
  hear_astray read before after wire told f h =
      subst (λ (d : Course). HaltsAs Astray (step_number S k) wire d told) (sym course_is) (astray_so read before after wire told (frame_heard v m fr.bytes) f h)

  -- ---- the note arrives

  module _ (before : List ℕ) (xs : List Sending) (first : ℕ) (news : News) (told : List Entry) (mid : World) (r q : Resident) (took : Took u before c mid r q) (one : HearsOne (names_under c.words.key) found v m (frame_heard v m fr.bytes) xs q.member)
      (brings_so : BringsSo v m (frame_heard v m fr.bytes) news) (stood : first ≡ length (table_for v r.member.connections.items).imports) (steady : StepsSteadily S (Carry v u) k w) where
    abbrev s : machine.Vat Local
    s = one.state

    abbrev b : Brought
    b = brings S left v u x one.note m s

    gives : arrive (numbers S) v one.note.read (ready w m.vat) ≡ Gives tt s
    gives = sym (arrives_at one.note (ready w m.vat) found_is) ∙ one.done.gives

    runs : step S (Carry v u) k w ≡ Runs (left_by left u head m b s)
    unfolding hears after_step
    runs =
        course_is
        ∙ ap (hears S k v u left x m) one.is
        ∙ ap (after_step left u head (step_number S k) m (brings S left v u x one.note m)) (sym (arrives_at one.note (ready left m.vat) found_left) ∙ one.done.gives)

    alike : ShownAlike w.drawn s.drawn w
    unfolding left_by
    alike = steady.shown (left_by left u head m b s) runs

    stepped : IsStepped (having_of b) s xs q.member
    unfolding brings
    stepped = record {
      vat = one.done.vat;
      leaves = one.leaves (hears_steadily v m one.note s
          (steady.steady m carries.taken.way x carries.taken.others here carries.taken.found carries.uncut carries.taken.under_way one.note (sym (frame_is w.drawn v u m x fr carries.taken.is_frame) ∙ one.is) s gives));
    }

    -- ---- what it told of numbers

    was : IsResident S w u m r
    was = at.residents u m r here took.found

    there : v < length w.members
    there = subst (λ (n : ℕ). v < n) (at.ways.senders ∙ sym at.members) (sender_is v u c.ways fr next)

    sender : (p : Member) × (slice_get w.members v ≡ Some p)
    sender = stands w.members v there

    sends : (e : Resident) × (slice_get c.residents.items v ≡ Some e)
    sends = stands c.residents.items v (subst (λ (n : ℕ). v < n) (at.members ∙ sym at.count) there)

    drawn_now_are : words_of q.member.vat.host.inside.words ≡ s.drawn
    drawn_now_are = drawn_are m (having_of b) s xs q.member stepped

    sender_was : IsResident S w v sender.0 sends.0
    sender_was = at.residents v sender.0 sends.0 sender.1 sends.1

    sender_names : NamesStand s.drawn v sender.0.vat sender.0.names sends.0.names
    sender_names = let is = sender_was.names in record { vat = is.vat; names = is.names ∙ sym (alike.names v sender.0 sender.1); mails = is.mails; counts = is.counts }

    heard_from : HeardFrom mid.residents.items v u first news fr w.members sender.0 m one.note x.note sends.0 q
    heard_from = record {
      sender = ap (λ (rs : List Resident). slice_get rs v) took.residents ∙ set_other c.residents.items u v q (sender_other v u c.ways fr next) ∙ sends.1;
      receiver = ap (λ (rs : List Resident). slice_get rs u) took.residents ∙ set_there c.residents.items u q (is_within c.residents.items u r took.found);
      there = sender.1;
      member = sender_was.member;
      names = subst (λ (ds : List ℕ). NamesStand ds v sender.0.vat sender.0.names sends.0.names) (sym drawn_now_are) sender_names;
      objects = sender_was.objects;
      first_is = stood ∙ imports_are v m r.member was.member.rest.connections;
      brings = subst (λ (o : Option HeardNote). BringsSo v m o news) one.is brings_so;
      message = mails_named fr.message ∙ sym carries.taken.is_frame.named;
      asks = carries.taken.is_frame.asking;
    }

    says : TellsFrame mid.residents.items v u first news fr told → Says q.member.vat.host.inside.words told b.told
    unfolding brings
    says tells = tells w.members sender.0 m one.note x.note sends.0 q heard_from

    -- ---- so it is told, and what it put goes out

    abbrev then_carries : IsCarried s.drawn (length S.vats) v u w.ways (changed behind v u c.ways) fr
    then_carries = carried s.drawn (length S.vats) v u w.ways c.ways fr next (ways_alike S w c s.drawn alike at)

    heard_midway : TellsFrame mid.residents.items v u first news fr told → mid.ways ≡ changed behind v u c.ways → More c.history mid.history (told_so c.wire (note_lines k v u fr)) → IsMidway S left u m head b s before xs fr.message told mid
    unfolding brings
    heard_midway tells ways more = midway_is S w u m b s before xs fr.message told c mid r q at here took stepped alike (says tells)
        left.ways head (mails_named fr.message ∙ sym carries.taken.is_frame.named) (heard_exports m v one.note s)
        (subst (λ (rows : List (List Lane)). WaysStand s.drawn (length S.vats) left.ways rows) (sym ways)
        (ways_left_alike w.drawn s.drawn (length S.vats) v u w.ways (changed behind v u c.ways) fr carries.taken then_carries.taken))
        (subst (λ (wire : Bool). IsAccount (vat_names S) mid.history (told_so wire (shown_events s.drawn (w.history ++ head)))) (sym took.wire)
        (account_more (vat_names S) s.drawn c.wire c.history mid.history (note_lines k v u fr) w.history head (history_alike S w c s.drawn alike at)
        (note_shown s.drawn k v u x fr (frame_alike w.drawn s.drawn (length S.vats) v u w.ways (changed behind v u c.ways) fr carries.taken then_carries.taken)) more))

    pub hear_comes : (e : World) → TellsFrame mid.residents.items v u first news fr told → mid.ways ≡ changed behind v u c.ways → More c.history mid.history (told_so c.wire (note_lines k v u fr))
        → ((z : Vats) (y : Member) (h : List Event) (g : Brought) (t : machine.Vat Local) → IsMidway S z u y h g t before xs fr.message told mid → IsWorld S (left_by z u h y g t) e) → Comes (λ (y : Vats). IsWorld S y e) (step S (Carry v u) k w)
    hear_comes e tells ways more finished = (left_by left u head m b s, (runs, finished left m head b s (heard_midway tells ways more)))

-- ---- as the code calls it

-- what a call of r answered, which was q's then, that heard these bytes of vat v
abbrev pub CallHears : {A : Type 0} → World → ℕ → (A → List Sending) → Result (Option A) VatStop → Resident → Ours → List ℕ → Type 0
CallHears c v read result r q bytes = (m : Member) → c.words.key ≡ r.member.vat.host.inside.words.key → IsMember m r.member
    → (f : Ours) × IsFound c.fuel (words_by c.words.key c.words.count) m f × Hears (names_under c.words.key) c.fuel (words_by c.words.key c.words.count) v m read result f q (frame_heard v m bytes)

-- and what the frame brought by it
abbrev pub CallBrings : World → ℕ → Resident → News → List ℕ → Type 0
CallBrings c v r news bytes = (m : Member) → c.words.key ≡ r.member.vat.host.inside.words.key → IsMember m r.member → BringsSo v m (frame_heard v m bytes) news

module _ (S : Script) (w : Vats) (v u k : ℕ) (c : World) (fr : Sent) (r : Resident) (at : IsWorld S w c) (next : next_at v u c.ways ≡ Some fr) (there : slice_get c.residents.items u ≡ Some r) where
  abbrev receives : (m : Member) × (slice_get w.members u ≡ Some m)
  receives = receiver S w u c r at there

  abbrev receiver_was : IsResident S w u receives.0 r
  receiver_was = at.residents u receives.0 r receives.1 there

  heard_by_call : {A : Type 0} (read : A → List Sending) (result : Result (Option A) VatStop) (q : Ours) (bytes : List ℕ) → bytes ≡ fr.bytes → CallHears c v read result r q bytes
      → (f : Ours) × (Hears (names_under c.words.key) c.fuel (words_by c.words.key c.words.count) v receives.0 read result f q (frame_heard v receives.0 fr.bytes))
  heard_by_call read result q bytes same call =
      let h = call receives.0 (at.key ∙ sym receiver_was.key) receiver_was.member in (
        h.0,
        subst (λ (bs : List ℕ). Hears (names_under c.words.key) c.fuel (words_by c.words.key c.words.count) v receives.0 read result h.0 q (frame_heard v receives.0 bs)) same h.2,
      )

  pub call_halts : {A : Type 0} (read : A → List Sending) (e : VatStop) (q : Ours) (bytes : List ℕ) (wire : Bool) (told : Account) → bytes ≡ fr.bytes → CallHears c v read (Err e) r q bytes → Recounts told (told_so wire (shown_events w.drawn w.history))
      → HaltsAs e (step_number S k) wire (step S (Carry v u) k w) told
  call_halts read e q bytes wire told same call f =
      let h = heard_by_call read (Err e) q bytes same call in
      hear_halts S w v u k receives.0 c fr at receives.1 next read e h.0 q wire told f h.1

  pub call_astray : {A : Type 0} (read : A → List Sending) (q : Ours) (bytes : List ℕ) (wire : Bool) (told : Account) → bytes ≡ fr.bytes → CallHears c v read (Ok None) r q bytes → Recounts told (told_so wire (shown_events w.drawn w.history))
      → HaltsAs Astray (step_number S k) wire (step S (Carry v u) k w) told
  call_astray read q bytes wire told same call f =
      let h = heard_by_call read (Ok None) q bytes same call in
      hear_astray S w v u k receives.0 c fr at receives.1 next read h.0 q wire told f h.1

  pub call_comes : {A : Type 0} (read : A → List Sending) (a : A) (bytes : List ℕ) (before : List ℕ) (first : ℕ) (news : News) (told : List Entry) (mid e : World) (q : Resident) → bytes ≡ fr.bytes → CallHears c v read (Ok (Some a)) r q.member bytes
      → CallBrings c v r news bytes → first ≡ length (table_for v r.member.connections.items).imports → Took u before c mid r q → StepsSteadily S (Carry v u) k w → TellsFrame mid.residents.items v u first news fr told → mid.ways ≡ changed behind v u c.ways
      → More c.history mid.history (told_so c.wire (note_lines k v u fr))
      → ((z : Vats) (y : Member) (h : List Event) (g : Brought) (t : machine.Vat Local) → IsMidway S z u y h g t before (read a) fr.message told mid → IsWorld S (left_by z u h y g t) e) → Comes (λ (y : Vats). IsWorld S y e) (step S (Carry v u) k w)
  call_comes read a bytes before first news told mid e q same call brings_call stood took steady tells ways more finished =
      let h = heard_by_call read (Ok (Some a)) q.member bytes same call in
      let one = hears_one (names_under c.words.key) c.fuel (words_by c.words.key c.words.count) v receives.0 read a h.0 q.member (frame_heard v receives.0 fr.bytes) h.1 in
      let brings_so : BringsSo v receives.0 (frame_heard v receives.0 fr.bytes) news =
      subst (λ (bs : List ℕ). BringsSo v receives.0 (frame_heard v receives.0 bs) news) same (brings_call receives.0 (at.key ∙ sym receiver_was.key) receiver_was.member) in
      hear_comes S w v u k receives.0 c fr at receives.1 next before (read a) first news told mid r q took one brings_so stood steady e tells ways more finished

-- what an answer of a stop says
pub hears_stops : (S : Script) (w : Vats) (v u k : ℕ) (fr : Sent) (c : World) (r : Result Heard VatStop) (e : VatStop) → IsErr r × IsErrAnd r (λ (x : VatStop). x ≡ e) → HaltsAs e (step_number S k) c.wire (step S (Carry v u) k w) c.history
    → HearsFrame S w v u k fr c r
hears_stops S w v u k fr c (Ok h) e is halts = absurd is.1
hears_stops S w v u k fr c (Err x) e is halts = subst (λ (y : VatStop). HaltsAs y (step_number S k) c.wire (step S (Carry v u) k w) c.history) (sym is.1) halts
