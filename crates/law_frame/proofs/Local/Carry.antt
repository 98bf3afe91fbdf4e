-- The carry of a frame whose note goes in names: it goes in numbers, and what it leaves mirrors what the machine leaves.
use Rattle.std.proofs.Common.{◌≡◌, ℕ, zero, ◌+◌, ◌<◌, Bool, true, false, List, [], ◌∷◌, ◌++◌, Some, refl, sym, ap, ◌∙◌, subst, length, map, arith, append_assoc}
use Rattle.std.specs.Prelude.{slice_get}
use Rattle.std.proofs.lemmas.Bool.{eqb-true}
use Rattle.std.proofs.lemmas.List.{length-set}
use Rattle.std.proofs.lemmas.Option.{slice_get_within}
use Rattle.def_op.specs.Frames.{spelling}
use Rattle.def_machine.specs.Values.{Name, Promise, host_of, Local, Prom, numbering, naming}
use Rattle.def_machine.specs.State.{Note, Deliver, Ask, Vat, Stop, Done, Gives, Stops}
use Rattle.def_machine.specs.Arrive.{Incoming, Old, New, arrive}
use Rattle.def_run.specs.Connections.{Heard, asked_in}
use Rattle.def_run.specs.Draws.{draw_word}
use Rattle.def_run.specs.Wire.{Connected, connected_at, sight, frame_due, frame_bytes, read_frame, first_stage, imports_after, hear_at}
use Rattle.def_run.specs.World as machine
use Rattle.def_run.specs.World.{Script, Entry, Carry, Event, Carried, Link, World, Goes, link_at, readied, read_note, names_of, put_back, next_frame, connections_after, heard_by}
use Rattle.law_machine.specs.Machine.Laws.{SameMails}
use Rattle.law_machine.specs.Machine.Steps.{IsQuiet, Receives, does}
use Rattle.law_machine.proofs.Machine.StepEnds.{step_ends}
use Rattle.law_machine.proofs.Machine.StepLaws.{mails_stays}
use Rattle.law_fate.specs.Name.Names.{AllOf, IsAmong, NoteOk, Once, names_in}
use Rattle.law_fate.specs.Name.Runs.{KnowsOnce}
use Rattle.law_fate.proofs.Name.Laws.{names_apart}
use Rattle.law_fate.proofs.Name.SameNames.{same_self}
use Rattle.def_machine.specs.Maps as maps
use Rattle.def_machine.specs.Maps.{incoming}
use Rattle.law_machine.specs.Renamed.Stands.{Table, Found, Is, found, prom_found, IsTable, StandsFor}
use Rattle.law_machine.proofs.Renamed.Sim.{id}
use Rattle.law_machine.proofs.Renamed.MapMaps.{note_twice}
use Rattle.law_machine.proofs.Renamed.Stands.{Extends, again, found_again, still}
use Rattle.law_reference.specs.Reference.Cuts.{NoticesFollowCuts}
use Rattle.law_reference.specs.Reference.Exports.{exported_at}
use Rattle.law_reference.specs.Reference.Tables.{table_of, EachHasTable}
use Rattle.law_reference.proofs.Reference.ApartWhole.{have_tables, known_once}
use Rattle.law_reference.proofs.Reference.Moves.{steps_end}
use Rattle.law_reference.proofs.Reference.NameTableLaws.{positions_are_of_one_name}
use Rattle.law_reference.specs.Reference.NameTableRuns.{BringsNew}
use Rattle.law_frame.specs.Frame.Alike.{table_heard, names_heard}
use Rattle.law_frame.specs.Frame.AlikeArrivals.{table_across}
use Rattle.law_frame.specs.Frame.Exports.{KeepsPositions}
use Rattle.law_frame.specs.Frame.Growing.{IsFront}
use Rattle.law_frame.specs.Frame.Lines as lines
use Rattle.law_frame.specs.Frame.Lines.{DueIn}
use Rattle.law_frame.specs.Frame.Positions.{exported_with}
use Rattle.law_frame.proofs.Frame.AlikeArrivals.{link_arrives}
use Rattle.law_frame.proofs.Frame.Answering.{note_answers}
use Rattle.law_frame.proofs.Frame.Learning.{Begins, note_begins}
use Rattle.law_frame.proofs.Frame.LinksKnown.{AsksOwn, Sent, LinkKnown, at_link}
use Rattle.law_frame.proofs.Frame.Notes.{carry_follows, brings}
use Rattle.law_frame.proofs.Frame.OrderRuns.{differ_once}
use Rattle.law_frame.proofs.Frame.Ranks.{Starts}
use Rattle.law_frame.proofs.Frame.Untouched.{every_position}
use Rattle.law_frame.proofs.Frame.WireRuns.{stepped_both}
use Rattle.law_frame.specs.Heard.Hearing.{as_heard}
use Rattle.law_frame.proofs.Heard.CutRuns.{exports_logged}
use Rattle.law_frame.proofs.Heard.Laws.{lists_logged, imports_now, exports_later, questions_later}
use Rattle.law_frame.proofs.Stopping.Entries as across
use Rattle.law_frame.proofs.Stopping.Entries.{SoundIn, is, first_kind, note_table, note_starts}
use Rattle.law_frame.proofs.Stopping.Learnt.{IsOfKind}
use Rattle.law_frame.proofs.Stopping.Tables.{after_stops}
use Rattle.law_frame.specs.Local.Told.{carried_by, IsBroughtBy}
use Rattle.law_frame.proofs.Local.ToldLaws.{messages_in_order, lines_named, gifts_named, notes_named, names_told, no_own_brought}
use Rattle.law_frame.proofs.Local.ToldPromises.{own_promises_ordered}
use Rattle.def_run.specs.Vats.{Member, connection_for, heard_in, heard_on, asked_by}
use Rattle.def_run.specs.Numbers as numbers
use Rattle.def_run.specs.Numbers.{Frame, Way, Vats, Course, way_at, ready, brought, after_step}
use Rattle.law_frame.specs.Local.Mirrors.{Mirrors, VatMirrors, RunMirrors}
use Rattle.law_frame.specs.Local.Naming.{Tells}
use Rattle.law_frame.specs.Local.Writing.{PutsSo}
use Rattle.law_frame.specs.Local.Steps.{world_left, StepStands}
use Rattle.law_frame.specs.Local.Hearing.{unnamed, HearsSo}
use Rattle.law_frame.specs.Local.Carrying.{taken, off}
use Rattle.law_frame.proofs.Local.Naming.{names_mirror}
use Rattle.law_frame.proofs.Local.Positions.{there_is}
use Rattle.law_frame.proofs.Local.Puts.{each_puts_so}
use Rattle.law_frame.proofs.Local.Steps.{put_there, put_length, steps_mirror, learnt_still}
use Rattle.law_frame.proofs.Local.OwnSteps.{front, mapped_length}
use Rattle.law_frame.proofs.Local.Turns.{given, stopped, books_given, books_stopped}
use Rattle.law_frame.proofs.Local.CarryLinks.{keeps_taken, ways_taken, heard_there, frame_first, due_off, vat_taken}
use Rattle.law_frame.proofs.Local.CarryArrives.{arrives_same}
use Rattle.law_frame.proofs.Local.JoinedTells.{Laws, laws_tell_of}
use Rattle.law_frame.proofs.Local.CarryNames.{Came, frame_brought, came_by, front_at}
use Rattle.law_frame.proofs.Local.CarryGifts.{Given, ask_given}
use Rattle.law_frame.proofs.Local.CarryHeard.{GiftStands, asked_found, refer_heard, connections_heard}

-- ---- what a note says, under a longer table

module _ (v : ℕ) (t z : Table) (more : Extends t z) where
  one_still : (a : Incoming Local Local) → incoming (again v t z more) (λ (x : Unit {0}). x) (incoming (found v t) unnamed a) ≡ incoming (found v z) unnamed a
  one_still (Old a) = ap Old (found_again v t z more a)
  one_still (New x h) = refl

  one_is : (a : Incoming Name Name) → incoming (again v t z more) (λ (x : Unit {0}). x) (incoming Is unnamed a) ≡ incoming Is unnamed a
  unfolding again
  one_is (Old n) = refl
  one_is (New x h) = refl

  pub read_still : (n : Note (Incoming Local Local)) (m : Note (Incoming Name Name)) → maps.note (incoming (found v t) unnamed) n ≡ maps.note (incoming Is unnamed) m → maps.note (incoming (found v z) unnamed) n ≡ maps.note (incoming Is unnamed) m
  read_still n m e =
      let f : Incoming Found (Unit {0}) → Incoming Found (Unit {0}) = incoming (again v t z more) (λ (x : Unit {0}). x) in
      let a : (λ (i : Incoming Local Local). f (incoming (found v t) unnamed i)) ≡ incoming (found v z) unnamed = λ i k. one_still k i in
      let b : (λ (i : Incoming Name Name). f (incoming Is unnamed i)) ≡ incoming Is unnamed = λ i k. one_is k i in
      sym (ap (λ (g : Incoming Local Local → Incoming Found (Unit {0})). maps.note g n) a) ∙ sym (note_twice (incoming (found v t) unnamed) f n) ∙ ap (maps.note f) e ∙ note_twice (incoming Is unnamed) f m ∙ ap (λ (g : Incoming Name Name → Incoming Found (Unit {0})). maps.note g m) b

-- ---- what the arrival of a note leaves

-- the message that it brings
carried_same : (n : Note Name) → numbers.carried_in n ≡ carried_by (Some n)
unfolding numbers.carried_in carried_by lines.carried_in
carried_same (Deliver d x verb ys) = refl
carried_same other = refl

-- the answer that it asks for
due_begins : (word : ℕ → ℕ) (u v : ℕ) (ks : List Name) (n : Note Name) (s : Vat Name) → names_in s.known ≡ ks → s.number ≡ u → (y : Name) → DueIn u n y → Begins word u (names_heard ks n ++ y ∷ []) (arrive (naming word u) v (read_note ks n) s)
due_begins word u v ks (Deliver d x verb ys) s e i y h = subst (λ z. Begins word u (names_heard ks (Deliver d x verb ys) ++ z ∷ []) (arrive (naming word u) v (read_note ks (Deliver d x verb ys)) s)) h.1 (note_answers word u v ks d x verb ys s e i h.0)
due_begins word u v ks other s e i y h = absurd h

get_end : (xs : List Name) (y : Name) → slice_get (xs ++ y ∷ []) (length xs) ≡ Some y
get_end [] y = refl
get_end (x ∷ xs) y = get_end xs y

-- the gift that it asks for
gift_stands : (word : ℕ → ℕ) (u v : ℕ) (ks : List Name) (n : Note Name) (s r : Vat Name) → AsksOwn u n → arrive (naming word u) v (read_note ks n) s ≡ Gives tt r → GiftStands u r n
unfolding arrive read_note
gift_stands word u v ks (Ask p i x) s r own e = (own, subst (λ d. Given p i d) e (ask_given p i (naming word u) v s))
gift_stands word u v ks other s r own e = tt

middle : {A : Type 0} (P : A → Type 0) (xs ys : List A) (y : A) → AllOf P (xs ++ y ∷ ys) → P y
middle P [] ys y h = h.0
middle P (x ∷ xs) ys y h = middle P xs ys y h.1

-- ---- the carry

-- In world x of a run, which X mirrors, frame f is the first on the way from v, whose state is t and whose member is z, to u, whose state is s and whose member is m. It is heard as its note is read.
module _ (script : Script) (once : KnowsOnce script) (w x : World) (es : List Entry) (k : ℕ) (follow : NoticesFollowCuts es) (opened : machine.open_from script zero script.vats (machine.begins script) ≡ Goes w) (stepped : machine.steps_from script es k w ≡ Goes x)
    (X : Vats) (mirrors : Mirrors x X) (v u : ℕ) (other : v ≡ u → ⊥) (l : Link) (at : link_at v u x.links ≡ Some l) (uncut : l.cut ≡ false) (f : Frame) (fs : List Frame) (head : l.notes ≡ f.note ∷ map (λ (g : Frame). g.note) fs)
    (way : Way) (on : way_at v u X.ways ≡ Some way) (clear : way.cut ≡ false) (frames : way.frames ≡ f ∷ fs) (t s : Vat Name) (there : slice_get x.vats v ≡ Some t) (here : slice_get x.vats u ≡ Some s)
    (z m : Member) (sender : slice_get X.members v ≡ Some z) (mine : slice_get X.members u ≡ Some m) (h : Heard Local (Note (Incoming Local Local))) (heard : heard_in v f.op m ≡ Some h) (so : HearsSo x v u s f.note h) where
  abbrev word : ℕ → ℕ
  word = draw_word script.key

  abbrev n : Note Name
  n = f.note

  abbrev ns : List (Note Name)
  ns = map (λ (g : Frame). g.note) fs

  abbrev C : Connected
  C = connected_at v u x.connections

  abbrev D : Connected
  D = connected_at u v x.connections

  abbrev ds : List Connected
  ds = hear_at v u n x.connections

  abbrev many : ℕ
  many = length X.members

  abbrev Off : Vats
  Off = off X v u fs

  -- what the note leads to in names
  abbrev pub Theirs : Done Name (Unit {0})
  Theirs = arrive (naming word u) v (read_note (names_of s) n) (readied x s)

  -- and in numbers
  abbrev pub Ours : Done Local (Unit {0})
  Ours = arrive (numbering {W = Local} word) v h.read (ready X m.vat)

  abbrev pub Line : ℕ → List Event
  Line j = Carried j v u n (next_frame v u x.connections) ∷ []

  was : VatMirrors x X u s m
  was = mirrors.vats u s m here mine

  from : v < many
  from = slice_get_within X.members v z sender

  to : u < many
  to = slice_get_within X.members u m mine

  pub step_is : (j : ℕ) → machine.step script (Carry v u) j x ≡ put_back u (taken x v u ns) (Line j) (machine.step_number script j) Theirs
  unfolding machine.step
  step_is j = link_arrives script j v u x l n ns s (link_at v u x.links) at uncut head here

  bytes : next_frame v u x.connections ≡ spelling f.op
  unfolding next_frame frame_bytes
  bytes = ap frame_bytes (frame_first C D way f fs (mirrors.frames v u way on clear) frames).0

  cut_or : (b : Bool) (c d : Course) → b ≡ false → ◌≡◌ {A = Course} (elim b [ true ↦ c | false ↦ d ]) d
  cut_or true c d e = cc
  cut_or false c d e = refl

  pub ours_is : (j : ℕ) → numbers.step script (Carry v u) j X ≡ after_step Off u (Line j) (numbers.step_number script j) m (numbers.brings script Off v u f h m) Ours
  unfolding numbers.step numbers.carry_way numbers.carry_frames numbers.arrives numbers.hears numbers.numbers ready
  ours_is j =
      ap (λ o. numbers.carry_way script j v u X o) on ∙ cut_or way.cut (numbers.idle script j X) (numbers.carry_frames script j v u X way.frames) clear
      ∙ ap (λ gs. numbers.carry_frames script j v u X gs) frames ∙ ap (λ o. numbers.arrives script j v u Off f o) mine ∙ ap (λ o. numbers.hears script j v u Off f m o) heard
      ∙ ap (λ b. after_step Off u (Carried j v u n b ∷ []) (numbers.step_number script j) m (numbers.brings script Off v u f h m) Ours) (sym bytes)

  -- ---- where it goes in names

  module _ (r : Vat Name) (gives : Theirs ≡ Gives tt r) where
    abbrev pub Left : ℕ → World
    Left j = world_left (taken x v u ns) u r (Line j) ds

    pub goes : (j : ℕ) → machine.step script (Carry v u) j x ≡ Goes (Left j)
    unfolding put_back connections_after heard_by
    goes j = step_is j ∙ ap (λ d. put_back u (taken x v u ns) (Line j) (machine.step_number script j) d) gives

    -- the number that the entry has in that run
    abbrev J : ℕ
    J = k + length es

    abbrev y : World
    y = Left J

    done : machine.steps_from script (es ++ Carry v u ∷ []) k w ≡ Goes y
    done = steps_end script es (Carry v u) k w x y stepped (goes J)

    followed : NoticesFollowCuts (es ++ Carry v u ∷ [])
    followed = carry_follows [] es v u follow

    after : slice_get y.vats u ≡ Some r
    after = put_there x.vats u r (slice_get_within x.vats u s here)

    abbrev T : Table
    T = record { names = names_in r.known; mails = r.mails; exports = exported_at (machine.push_all u r.outbox (machine.with_link (machine.with_notes ns) v u x.links)) u }

    tables : EachHasTable y
    tables = (have_tables script once).1 w y (es ++ Carry v u ∷ []) k followed opened done

    table : IsTable u T
    unfolding table_of
    table = tables u r after

    puts : PutsSo u r
    puts = (each_puts_so script once).1 w y (es ++ Carry v u ∷ []) k opened done u r after

    keeps : (a : ℕ) → KeepsPositions x y a
    keeps = (every_position script once).1 w x y es (Carry v u) k opened stepped (goes J)

    differ : (i j : ℕ) (a : Name) → slice_get (names_in r.known) i ≡ Some a → slice_get (names_in r.known) j ≡ Some a → i ≡ j
    differ i j a e g = eqb-true i j (sym ((known_once script once).1 w y (es ++ Carry v u ∷ []) k followed opened done u r after i j a a e g) ∙ same_self a)

    known_apart : Once (names_in r.known)
    known_apart = differ_once y ((known_once script once).1 w y (es ++ Carry v u ∷ []) k followed opened done) u r after

    later : Starts (names_heard (names_in s.known) n) (names_in r.known)
    unfolding names_of readied
    later = subst (λ d. Begins word u (names_heard (names_in s.known) n) d) gives (note_begins word u v (names_in s.known) n (readied x s) refl) known_apart

    answered : (a : Name) → DueIn u n a → slice_get (names_in r.known) (length (names_heard (names_in s.known) n)) ≡ Some a
    unfolding names_of readied
    answered a due =
        let first : Starts (names_heard (names_in s.known) n ++ a ∷ []) (names_in r.known) = subst (λ d. Begins word u (names_heard (names_in s.known) n ++ a ∷ []) d) gives (due_begins word u v (names_in s.known) n (readied x s) refl was.placed a due) known_apart in
        front_at (names_heard (names_in s.known) n ++ a ∷ []) (names_in r.known) first (length (names_heard (names_in s.known) n)) a (get_end (names_heard (names_in s.known) n) a)

    told : Laws u s r (Some n)
    told = record {
      messages = (messages_in_order script once).1 w x y es (Carry v u) k opened stepped (goes J) s r l n ns here after at uncut head;
      own_before = (own_promises_ordered script once).1 w x es k opened stepped u s here;
      own_after = (own_promises_ordered script once).1 w y (es ++ Carry v u ∷ []) k opened done u r after;
      lines = (lines_named script once).1 w y (es ++ Carry v u ∷ []) k opened done u r after;
      notes = (notes_named script once).1 w y (es ++ Carry v u ∷ []) k opened done u r after;
      gifts = (gifts_named script once).1 w y (es ++ Carry v u ∷ []) k opened done u r after;
      news = (names_told script once).1 w x y es (Carry v u) k opened stepped (goes J) s r l n ns here after at uncut head;
      apart = (names_apart script once).1 w y (es ++ Carry v u ∷ []) k opened done u r after;
      hosts = puts.hosts;
    }

    -- ---- by the numbers that v has for u

    later_exports : IsFront (exported_with x v u n) C.tables.exports
    later_exports = exports_later script once w x es k follow opened stepped v u t s there here other l at uncut n ns head

    later_questions : IsFront (D.tables.answers ++ asked_in (sight v u) n) C.tables.questions
    later_questions = questions_later script once w x es k follow opened stepped v u t s there here other l at uncut n ns head

    of_sender : AllOf (λ a. host_of a ≡ v) C.tables.exports
    of_sender = let logs = lists_logged script once w x es k follow opened stepped v u t s there here other l at uncut in
        subst (λ (names : List Name). AllOf (λ a. host_of a ≡ v) names) (sym logs.exports) ((positions_are_of_one_name (λ i. i) script).1 w x es k opened stepped v u).1

    no_own : (i : ℕ) → IsBroughtBy u (names_in s.known) (Some n) (Promise u i) → IsAmong (Promise u i) (names_in s.known)
    no_own = (no_own_brought script once).1 w x y es (Carry v u) k opened stepped (goes J) s r l n ns here after at uncut head

    sender_was : VatMirrors x X v t z
    sender_was = mirrors.vats v t z there sender

    asks_own : AsksOwn u n
    asks_own =
        let wires = (stepped_both script once w x es k opened stepped).1 in
        let known = at_link (LinkKnown x.vats) v u l x.links wires.links at in
        let link = known.0 in
        let gone = link.arrived uncut in
        let all = subst (λ log. AllOf (Sent x.vats l.from l.to) log) (gone.1 ∙ ap (λ rest. gone.0 ++ rest) head) link.sent in
        let one : Sent x.vats l.from l.to n = middle (Sent x.vats l.from l.to) gone.0 ns n all in
        subst (λ a. AsksOwn a n) known.2 one.0

    imports : imports_after D.tables.imports (read_frame D C (Name.Root C.from) (first_stage D) (frame_due C D)) ≡ exported_with x v u n
    imports = imports_now script once w x es k follow opened stepped v u t s there here other l at uncut n ns head

    -- ---- tables

    more : Extends (table_of x u s) T
    unfolding table_of
    more = let grows = told.news in let mails = told.messages in record {
      names = λ i a e. ap (λ names. slice_get names i) grows.1 ∙ front (names_in s.known) grows.0 i a e;
      mails = λ i a e. ap (λ names. slice_get names i) (mails.1 ∙ append_assoc s.mails _ _) ∙ front s.mails _ i a e;
      exports = keeps u;
    }

    heard_more : Extends (table_heard x u s n) T
    unfolding table_heard
    heard_more = let mails = told.messages in record {
      names = λ i a e. front_at (names_heard (names_in s.known) n) (names_in r.known) later i a e;
      mails = λ i a e. ap (λ names. slice_get names i) (mails.1 ∙ append_assoc s.mails _ _) ∙ front s.mails _ i a e;
      exports = keeps u;
    }

    read_now : maps.note (incoming (found u T) unnamed) h.read ≡ maps.note (incoming Is unnamed) (as_heard v u (read_note (names_of s) n))
    read_now = read_still u (table_heard x u s n) T heard_more h.read (as_heard v u (read_note (names_of s) n)) so.read

    same : maps.done (found u T) id Ours ≡ maps.done Is id (Gives tt r)
    same = arrives_same word u T table v h.read (read_note (names_of s) n) read_now
        (ready X m.vat) (readied x s) (Gives tt r) (still u (table_of x u s) T more (ready X m.vat) (readied x s) was.stands) gives (books_given T r tt refl refl)

    -- ---- what is left in numbers

    -- the names that come by it
    abbrev Arrivals : List Name
    Arrivals = Came x X v u other t s z m sender sender_was was to n f.op h heard so r later differ answered later_exports of_sender no_own

    tells : Tells u s r (numbers.carried_in n) Arrivals
    tells = let grows = told.news in subst (λ c. Tells u s r c Arrivals) (sym (carried_same n)) (laws_tell_of u s r (Some n) told Arrivals
        (λ a i j. came_by x X v u other t s z m sender sender_was was to n f.op h heard so r later differ answered later_exports of_sender no_own grows.0 grows.1 a i j))

    promises_same : m.vat.promises ≡ s.promises
    unfolding ready readied
    promises_same = ap (λ (q : Vat Found). q.promises) was.stands

    messages_same : m.vat.messages ≡ s.messages
    unfolding ready readied
    messages_same = ap (λ (q : Vat Found). q.messages) was.stands

    gifts_same : length m.vat.gifts ≡ length s.gifts
    unfolding ready readied
    gifts_same = mapped_length (maps.gift (found u (table_of x u s))) (maps.gift Is) m.vat.gifts s.gifts (ap (λ (q : Vat Found). q.gifts) was.stands)

    found_due : (a : Name) → DueIn u n a → found u T (Prom h.after.known) ≡ Is a
    unfolding found prom_found
    found_due a d = ap (λ o. prom_found h.after.known o) (ap (slice_get (names_in r.known)) so.known ∙ answered a d)

    -- each vat has its place in the world after
    placed : (a : ℕ) → a < many → (q : Vat Name) × (slice_get y.vats a ≡ Some q)
    placed a i = there_is y.vats a (let c = mirrors.count in let e = put_length x.vats u r in omega arith)

    -- ---- what is left in numbers

    module _ (p : Vat Local) (stands : StandsFor u T p r) where
      asked : map (found u T) (asked_by h.after.known p h.read) ≡ map Is (asked_in (sight v u) n)
      asked = asked_found (found u T) v u (names_of s) n h.read read_now h.after.known p r stands told.gifts (gift_stands word u v (names_of s) n (readied x s) r asks_own gives) found_due

      stand : (j : ℕ) → StepStands (taken x v u ns) Off u m (numbers.brings script Off v u f h m p) r p (Line j) ds
      unfolding numbers.brings table_of
      stand j = record {
        history = mirrors.history;
        count = mirrors.count;
        ways = ways_taken ns fs refl v u x.links X.ways mirrors.ways;
        due = due_off x X mirrors v u other way on clear f fs frames n;
        others = λ a b c e i g. vat_taken x X v u ns fs a b c (mirrors.vats a b c i g);
        references = refer_heard x v u other n imports later_exports later_questions many from to mirrors.references;
        unheard = λ a b e. heard_there n v u x.connections other a b (λ i g. e i);
        here = to;
        tables = tables;
        stands = stands;
        puts = puts;
        named = names_mirror u s r m.vat p T (numbers.carried_in n) Arrivals (brought X.members v u n h m) m.names refl refl table stands tells was.known was.mails promises_same messages_same gifts_same
            (frame_brought x X v u other t s z m sender sender_was was to n f.op h heard so r later differ answered later_exports of_sender no_own);
        peers = length-set m.connections v (heard_on h p (connection_for v m)) ∙ was.peers;
        connections = connections_heard x v u other n imports m h p (table_of x u s) (table_heard x u s n) T more heard_more many was.peers from was.connections so.imports asked;
        learnt = learnt_still u (table_heard x u s n) T heard_more h.after.learnt so.learnt;
        keeps = λ a. keeps_taken x y v u ns a (keeps a);
        hosts = λ a b. ((positions_are_of_one_name (λ i. i) script).1 w y (es ++ Carry v u ∷ []) k opened done a b).1;
        logged = λ a b e i g. let q = placed a i in let c = placed b g in (exports_logged script once).1 w y (es ++ Carry v u ∷ []) k followed opened done a b q.0 c.0 q.1 c.1 e;
      }

    -- it goes so in numbers, in a state that stands for the one in names
    pub out : (p : Vat Local) × (Ours ≡ Gives tt p) × (maps.vat (found u T) p ≡ maps.vat Is r)
    out = given (found u T) Ours r same

    pub carry_goes : (j : ℕ) → RunMirrors (machine.step script (Carry v u) j x) (numbers.step script (Carry v u) j X)
    unfolding after_step
    carry_goes j =
        subst (λ a. RunMirrors a (numbers.step script (Carry v u) j X)) (sym (goes j))
        (subst (λ c. RunMirrors (Goes (Left j)) c) (sym (ours_is j ∙ ap (λ d. after_step Off u (Line j) (numbers.step_number script j) m (numbers.brings script Off v u f h m) d) out.1))
        (steps_mirror (taken x v u ns) Off u m (numbers.brings script Off v u f h m out.0) r out.0 (Line j) ds (stand out.0 out.2 j)))

  -- ---- where it stops in names

  module _ (c : Stop) (r : Vat Name) (stops : Theirs ≡ Stops c r) where
    abbrev Across : Table
    Across = record { names = names_in r.known; mails = r.mails; exports = exported_at x.links u }

    sound : SoundIn x u s
    sound = is script once w x es k follow opened stepped u s here (ready X m.vat) was.stands 0 0 c x

    kind : NoteOk IsOfKind n
    kind = first_kind script once w x es k follow opened stepped u s here (ready X m.vat) was.stands 0 0 c x v l at n ns head

    new : BringsNew x v u n s
    new = brings script once w x es k follow opened stepped v u s here l at n ns head

    table_left : IsTable u Across
    unfolding table_across
    table_left = note_table word x u s sound (ready X m.vat) was.stands c r v n stops new kind

    still_across : StandsFor u Across (ready X m.vat) (readied x s)
    unfolding table_across does readied
    still_across = across.still word x u s sound (ready X m.vat) was.stands c r (readied x s) (Receives v (read_note (names_of s) n)) stops refl refl

    heard_across : Extends (table_heard x u s n) Across
    unfolding table_heard does readied
    heard_across = record {
      names = λ i a e. front_at (names_heard (names_in s.known) n) (names_in r.known) (note_starts word x u s sound (ready X m.vat) was.stands c r v n stops new) i a e;
      mails = after_stops SameMails (readied x s) r c (does (naming word u) (Receives v (read_note (names_of s) n)) (readied x s)) stops (mails_stays (naming word u) (Receives v (read_note (names_of s) n)) (readied x s));
      exports = λ g q i e. e;
    }

    same_stops : maps.done (found u Across) id Ours ≡ maps.done Is id (Stops c r)
    same_stops = arrives_same word u Across table_left v h.read (read_note (names_of s) n) (read_still u (table_heard x u s n) Across heard_across h.read (as_heard v u (read_note (names_of s) n)) so.read)
        (ready X m.vat) (readied x s) (Stops c r) still_across stops (books_stopped Across c r refl refl)

    halts : (p : Vat Local) × (Ours ≡ Stops c p)
    halts = stopped (found u Across) Ours c r same_stops

    pub carry_stops : (j : ℕ) → RunMirrors (machine.step script (Carry v u) j x) (numbers.step script (Carry v u) j X)
    unfolding put_back after_step machine.step_number numbers.step_number
    carry_stops j =
        subst (λ a. RunMirrors a (numbers.step script (Carry v u) j X)) (sym (step_is j ∙ ap (λ d. put_back u (taken x v u ns) (Line j) (machine.step_number script j) d) stops))
        (subst (λ e. RunMirrors (put_back u (taken x v u ns) (Line j) (machine.step_number script j) (Stops c r)) e) (sym (ours_is j ∙ ap (λ d. after_step Off u (Line j) (numbers.step_number script j) m (numbers.brings script Off v u f h m) d) halts.1))
        (refl, refl, mirrors.drawn, mirrors.history))

  -- whether it goes or stops
  pub carry_mirrors : (j : ℕ) → RunMirrors (machine.step script (Carry v u) j x) (numbers.step script (Carry v u) j X)
  unfolding does
  carry_mirrors j = by Theirs refl (step_ends (naming word u) (Receives v (read_note (names_of s) n)) (readied x s))
    where
      by : (d : Done Name (Unit {0})) → Theirs ≡ d → IsQuiet d → RunMirrors (machine.step script (Carry v u) j x) (numbers.step script (Carry v u) j X)
      by (Gives tt r) e q = carry_goes r e j
      by (Stops c r) e q = carry_stops c r e j
      by other e q = absurd q
