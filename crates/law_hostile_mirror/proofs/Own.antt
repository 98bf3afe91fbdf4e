-- A step of an honest vat that no note brought goes in numbers where it goes in names, and stops where it stops.
use Rattle.std.proofs.Common.{◌≡◌, ℕ, zero, suc, ◌+◌, Bool, true, false, List, [], ◌∷◌, ◌++◌, Option, Some, None, refl, sym, ap, ◌∙◌, subst, length, map, arith, append-nil}
use Rattle.std.specs.Prelude.{slice_get, ◌==◌}
use Rattle.std.proofs.lemmas.Bool.{eq-eqb}
use Rattle.std.proofs.lemmas.Option.{slice_get_within}
use Rattle.def_machine.specs.Arrive.{notice}
use Rattle.def_machine.specs.Eval.{opening, taking}
use Rattle.def_machine.specs.Maps as maps
use Rattle.def_machine.specs.Scopes.{any_guard}
use Rattle.def_machine.specs.State.{Message, Vat, Stop, Done, Gives, Throws, Ejects, Stops}
use Rattle.def_machine.specs.Values.{Name, Local, Prom, naming, numbering}
use Rattle.def_run.specs.Draws.{draw_word}
use Rattle.def_run.specs.Names.{names_after}
use Rattle.def_run.specs.Numbers as run
use Rattle.def_run.specs.Numbers.{Vats, Course, ready, nothing_brought, left_by, after_step, own_step}
use Rattle.def_run.specs.Vats.{Member, connection_for}
use Rattle.def_run.specs.Wire.{Connected, connected_at, write_all}
use Rattle.def_run.specs.World as world
use Rattle.def_run.specs.World.{Script, Program, Event, Idle, Opens, Turned, NoticedAt, Turn, NoticeLink, World, Run, fresh, readied, put_back, within, heard_by, connections_after, has_name, tree_at}
use Rattle.def_hostile.specs.Hostile as names
use Rattle.def_hostile.specs.Hostile.{Play, Scene, Acted, Does, is_hostile}
use Rattle.def_hostile.specs.Numbers as numbers
use Rattle.def_hostile.specs.Numbers.{Cast, Performed, made_after}
use Rattle.law_fate.specs.Name.Names.{names_in}
use Rattle.law_machine.specs.Machine.Laws.{SameNames, SameMails}
use Rattle.law_machine.specs.Machine.Steps.{Step, Takes, Notices, After, does}
use Rattle.law_machine.specs.Machine.Steps as machine
use Rattle.law_machine.specs.Renamed.Stands.{Table, Found, Is, found, prom_found, finding, IsTable, StandsFor}
use Rattle.law_machine.proofs.Machine.StepLaws.{names_stays, mails_stays}
use Rattle.law_machine.proofs.Renamed.Sim.{Books, id}
use Rattle.law_machine.proofs.Renamed.SimEval.{sim_opening}
use Rattle.law_machine.proofs.Renamed.Stands.{Extends, still, step_stands, books_of, books_after, FitsTable, found_renames, is_renames}
use Rattle.law_reference.specs.Reference.Exports.{object_of}
use Rattle.law_frame.specs.Frame.Together.{changed_tables}
use Rattle.law_frame.specs.Local.Mirrors.{LearntAre}
use Rattle.law_frame.proofs.Frame.Openings.{root_first, root_next}
use Rattle.law_frame.proofs.Frame.Own.{known_on}
use Rattle.law_frame.proofs.Local.OpeningTurns.{RootsFrom}
use Rattle.law_frame.proofs.Local.OwnSteps.{mapped_length}
use Rattle.law_frame.proofs.Local.Naming.{names_mirror}
use Rattle.law_frame.proofs.Local.Steps.{tables_still, learnt_still}
use Rattle.law_frame.proofs.Local.Turns.{given, stopped, books_given, books_stopped, taking_same, notice_same, queued}
use Rattle.law_frame.specs.Local.Steps.{world_left}
use Rattle.law_hostile_frame.specs.Mirrors.{HonestMirrors, SceneMirrors, ActsMirror}
use Rattle.law_hostile_frame.specs.Tables.{had_at, table_in}
use Rattle.law_hostile_frame.proofs.Malformed.{shown_same}
use Rattle.law_hostile_frame.proofs.Cuts.{some_put, told_alike, lines_joined}
use Rattle.law_hostile_frame.proofs.Steps.{told}
use Rattle.law_hostile_mirror.specs.Own.{table_at, OwnStepIsKnown, OwnOutcomeIsKnown, TurnIsKnown, NoticeIsKnown, OpeningIsKnown, TurnsMirror, NoticesMirror, OpeningsMirror}
use Rattle.law_hostile_mirror.specs.Steps.{HonestStepStands}
use Rattle.law_hostile_mirror.proofs.Steps.{honest_steps_mirror, write_other}

-- ---- the table after a step

module _ (x : World) (u : ℕ) (r : Vat Name) (head : List Event) (ds : List Connected) (unheard : (v z : ℕ) → (u ≡ v → ⊥) → connected_at v z ds ≡ connected_at v z x.connections) where
  abbrev after : List Connected
  after = write_all u r.outbox ds

  abbrev at_or : Bool → Connected → ℕ → Option ℕ
  at_or b d q = elim b [ true ↦ None | false ↦ object_of (slice_get d.tables.exports q) ]

  had_here : (h q : ℕ) → had_at after u h q ≡ had_at x.connections u h q
  unfolding had_at
  had_here h q = by (u == h) refl
    where
      by : (b : Bool) → (u == h) ≡ b → at_or b (connected_at h u after) q ≡ at_or b (connected_at h u x.connections) q
      by true e = refl
      by false e = ap (λ (d : Connected). at_or false d q) (write_other u r.outbox h u ds (apart e) ∙ unheard h u (apart e))
        where
          clash : (b : Bool) → b ≡ true → b ≡ false → ⊥
          clash b i k = cc

          apart : (u == h) ≡ false → u ≡ h → ⊥
          apart i k = clash (u == h) (eq-eqb u h k) i

  had_same : had_at after u ≡ had_at x.connections u
  had_same = λ i h q. had_here h q i

  abbrev with_exports : (ℕ → ℕ → Option ℕ) → Table
  with_exports e = record { names = names_in r.known; mails = r.mails; exports = e }

  -- so it is by what others had exported before
  pub table_same : table_in (world_left x u r head ds) u r ≡ table_at x u r
  unfolding table_in
  table_same = ap with_exports had_same

-- The table goes on from the one before a step by which names and messages stay.
pub goes_on : (x : World) (u : ℕ) (t q r : Vat Name) → names_in q.known ≡ names_in t.known → q.mails ≡ t.mails → SameNames q r → SameMails q r → Extends (table_in x u t) (table_at x u r)
unfolding table_in
goes_on x u t q r known mails h m = record {
  names = λ k n e. known_on q r h k n (ap (λ ns. slice_get ns k) known ∙ e);
  mails = λ k n e. m k n (ap (λ ns. slice_get ns k) mails ∙ e);
  exports = λ h p j e. e;
}

-- ---- where a step goes

module _ (play : Play) (s : Scene) (c : Cast) (h : SceneMirrors play s c) (u : ℕ) (t : Vat Name) (m : Member) (honest : is_hostile play u ≡ false) (at : slice_get s.world.vats u ≡ Some t) (there : slice_get c.vats.members u ≡ Some m) where
  abbrev x : World
  x = s.world

  abbrev X : Vats
  X = c.vats

  was : HonestMirrors play x X u t m
  was = h.honest u t m honest at there

  promises_same : m.vat.promises ≡ t.promises
  unfolding ready readied
  promises_same = ap (λ (z : Vat Found). z.promises) was.vat.stands

  messages_same : m.vat.messages ≡ t.messages
  unfolding ready readied
  messages_same = ap (λ (z : Vat Found). z.messages) was.vat.stands

  gifts_same : length m.vat.gifts ≡ length t.gifts
  unfolding ready readied
  gifts_same = mapped_length (maps.gift (found u (table_in x u t))) (maps.gift Is) m.vat.gifts t.gifts (ap (λ (z : Vat Found). z.gifts) was.vat.stands)

  module _ (head : List Event) (r : Vat Name) (known : OwnStepIsKnown x u t r) (more : Extends (table_in x u t) (table_at x u r)) (p : Vat Local) (stands : StandsFor u (table_at x u r) p r) where
    abbrev y : World
    y = world_left x u r head x.connections

    table_is : table_in y u r ≡ table_at x u r
    table_is = table_same x u r head x.connections (λ v z e. refl)

    named_so : names_after u m.names m.vat [] [] p ≡ record { known = names_in r.known; mails = r.mails }
    named_so = names_mirror u t r m.vat p (table_at x u r) [] [] [] m.names refl refl known.table stands known.tells was.vat.known was.vat.mails promises_same messages_same gifts_same (record { sound = tt; all = λ k n e i. absurd i })

    leaves_so : HonestStepStands play s c x X u m (nothing_brought m) r p head x.connections
    unfolding nothing_brought connection_for
    leaves_so = record {
      before = h.history;
      lines = h.lines;
      raws = h.raws;
      claims = h.claims;
      outsiders = h.outsiders;
      made = h.made;
      earlier = h.puts;
      history = h.history;
      count = h.count;
      ways = h.ways;
      due = λ a b w e. let n = h.ends a b w e in (n.0, n.1, h.frames a b w e);
      references = h.references;
      unheard = λ v z n. refl;
      heard = λ z. refl;
      others = λ v z k apart b e i. h.honest v z k b e i;
      hostile = h.hostile;
      here = slice_get_within X.members u m there;
      own = honest;
      positions = was.vat.positions;
      table = subst (λ z. IsTable u z) (sym table_is) known.table;
      stands = subst (λ z. StandsFor u z p r) (sym table_is) stands;
      puts = known.puts;
      hosts = known.hosts;
      links = known.links;
      named = named_so;
      peers = was.vat.peers;
      connections = λ v i. subst (λ z. changed_tables (found u z) (connection_for v m) ≡ changed_tables Is (connected_at u v x.connections).tables) (sym table_is) (tables_still u (table_in x u t) (table_at x u r) more (connection_for v m) (connected_at u v x.connections).tables (was.vat.connections v i));
      learnt = subst (λ z. LearntAre u z m.learnt) (sym table_is) (learnt_still u (table_in x u t) (table_at x u r) more m.learnt was.vat.learnt);
      knows = λ some g i apart key. known.gifts g i apart key ∙ was.knows some g i apart key;
    }

    pub goes_so : (n : ℕ) → ActsMirror play (names.acted n s [] (world.Goes y)) (numbers.acted n u c (run.Runs (left_by X u head m (nothing_brought m) p)))
    goes_so n = honest_steps_mirror play n s c x X u m (nothing_brought m) r p head x.connections leaves_so

  -- ---- wherever it ends

  abbrev Same : Done Name (Unit {0}) → Done Local (Unit {0}) → Type 0
  Same d l = (T : Table) → IsTable u T → Extends (table_in x u t) T → books_after d ≡ books_of T → maps.done (found u T) id l ≡ maps.done Is id d

  -- Step d in names, from state q, is step l in numbers by each table that goes on from that before.
  module _ (n j : ℕ) (head : List Event) (heard : heard_by head x.connections ≡ x.connections) (q : Vat Name) (known : names_in q.known ≡ names_in t.known) (mails : q.mails ≡ t.mails) where
    stops_so : (l : Done Local (Unit {0})) (e : Stop) (r : Vat Name) → (p : Vat Local) × (l ≡ Stops e p) → ActsMirror play (names.acted n s [] (put_back u x head j (Stops e r))) (numbers.acted n u c (after_step X u head j m (λ z. nothing_brought m) l))
    unfolding put_back after_step names.acted numbers.acted
    stops_so l e r g = subst (λ z. ActsMirror play (names.Breaks e n s) (numbers.acted n u c (after_step X u head j m (λ y. nothing_brought m) z))) (sym g.1) (refl, refl, shown_same play s c h)

    runs_so : (l : Done Local (Unit {0})) (r : Vat Name) → OwnStepIsKnown x u t r → Extends (table_in x u t) (table_at x u r) → (p : Vat Local) × (l ≡ Gives tt p) × StandsFor u (table_at x u r) p r
        → ActsMirror play (names.acted n s [] (put_back u x head j (Gives tt r))) (numbers.acted n u c (after_step X u head j m (λ z. nothing_brought m) l))
    unfolding put_back after_step connections_after
    runs_so l r k more g =
        subst (λ z. ActsMirror play (names.acted n s [] (world.Goes (world_left x u r head (heard_by head x.connections)))) (numbers.acted n u c (after_step X u head j m (λ y. nothing_brought m) z))) (sym g.1)
        (subst (λ cs. ActsMirror play (names.acted n s [] (world.Goes (world_left x u r head cs))) (numbers.acted n u c (run.Runs (left_by X u head m (nothing_brought m) g.0)))) (sym heard) (goes_so head r k more g.0 g.2 n))

    pub ends_so : (d : Done Name (Unit {0})) (l : Done Local (Unit {0})) → After SameNames q d → After SameMails q d → OwnOutcomeIsKnown x u t d → Same d l
        → ActsMirror play (names.acted n s [] (put_back u x head j d)) (numbers.acted n u c (after_step X u head j m (λ z. nothing_brought m) l))
    ends_so (Gives tt r) l a b k same =
        let more : Extends (table_in x u t) (table_at x u r) = goes_on x u t q r known mails a b in
        runs_so l r k more (given (found u (table_at x u r)) l r (same (table_at x u r) k.table more (books_given (table_at x u r) r tt refl refl)))
    ends_so (Stops e r) l a b k same =
        let more : Extends (table_in x u t) (table_at x u r) = goes_on x u t q r known mails a b in
        stops_so l e r (stopped (found u (table_at x u r)) l e r (same (table_at x u r) k more (books_stopped (table_at x u r) e r refl refl)))
    ends_so (Throws e r) l a b k same = absurd k
    ends_so (Ejects e v r) l a b k same = absurd k

-- ---- turns

none_there : {A B : Type 0} (xs : List A) (ys : List B) (u : ℕ) → length ys ≡ length xs → slice_get xs u ≡ None → slice_get ys u ≡ None
none_there [] [] u e i = refl
none_there (x ∷ xs) (y ∷ ys) zero e i = cc
none_there (x ∷ xs) (y ∷ ys) (suc u) e i = none_there xs ys u (omega arith) i
none_there [] (y ∷ ys) u e i = cc
none_there (x ∷ xs) [] u e i = cc

module _ (play : Play) (u k : ℕ) (s : Scene) (c : Cast) (h : SceneMirrors play s c) (honest : is_hostile play u ≡ false) where
  abbrev n : ℕ
  n = names.step_of play k

  -- both are idle
  idles : ActsMirror play (names.acted n s [] (world.idle play.script k s.world)) (numbers.acted n u c (run.idle play.script k c.vats))
  unfolding names.acted numbers.acted world.idle run.idle made_after
  idles =
      let es : List Event = s.world.history ++ Idle k ∷ [] in
      let fs : List Event = c.vats.history ++ Idle k ∷ [] in
      let e : fs ≡ es = ap (λ hs. hs ++ Idle k ∷ []) h.history in
      let y : World = record s.world { history = es } in
      let Y : Vats = record c.vats { history = fs } in
      let ls : List names.Line = s.lines ++ [] ++ names.told_since s.world y in
      let ks : List names.Line = c.lines ++ numbers.told_since c.vats Y in
      subst (λ gs. SceneMirrors play (record s { world = y; lines = ls }) (record c { vats = Y; made = gs; lines = ks })) (sym (some_put (slice_get c.vats.members u) c.made (h.puts u)))
      (told play s c es fs ls ks s.raws c.raws h e (lines_joined (h.lines ∙ sym (append-nil s.lines)) (told_alike s.world y c.vats Y h.history e)) h.raws)

  module _ (t : Vat Name) (m : Member) (at : slice_get s.world.vats u ≡ Some t) (there : slice_get c.vats.members u ≡ Some m) where
    stands_by : (T : Table) → Extends (table_in s.world u t) T → StandsFor u T (ready c.vats m.vat) (readied s.world t)
    stands_by T more = still u (table_in s.world u t) T more (ready c.vats m.vat) (readied s.world t) (h.honest u t m honest at there).vat.stands

    queues : (T : Table) → Extends (table_in s.world u t) T → map (maps.message (found u T)) m.vat.queue ≡ map (maps.message Is) t.queue
    unfolding ready readied
    queues T more = ap (λ (z : Vat Found). z.queue) (stands_by T more)

    self : Extends (table_in s.world u t) (table_in s.world u t)
    self = record { names = λ i a e. e; mails = λ i a e. e; exports = λ g q j e. e }

    module _ (q : Message Name) (qs : List (Message Name)) (queue : t.queue ≡ q ∷ qs) (known : TurnIsKnown play.script u s.world) where
      abbrev before : Vat Name
      before = readied s.world (record t { queue = qs })

      abbrev theirs : Done Name (Unit {0})
      theirs = taking (naming (draw_word play.script.key) u) (tree_at play.script.vats u) play.script.depth q before

      takes_so : (ls : List (Message Local)) → m.vat.queue ≡ ls → map (maps.message (found u (table_in s.world u t))) ls ≡ map (maps.message Is) (q ∷ qs)
          → ActsMirror play (names.acted n s [] (world.turn_queue play.script k u s.world t (q ∷ qs))) (numbers.acted n u c (run.turn_queue play.script k u c.vats m ls))
      unfolding world.turn_queue run.turn_queue within world.names run.numbers heard_by readied ready does world.step_number run.step_number
      takes_so [] i e = cc
      takes_so (l ∷ ls) i e =
          ends_so play s c h u t m honest at there n (world.step_number play.script k) (Turned k u ∷ []) refl before refl refl
          theirs
          (taking (numbering {W = Local} (draw_word play.script.key)) (tree_at play.script.vats u) play.script.depth l (record (ready c.vats m.vat) { queue = ls }))
          (names_stays (naming (draw_word play.script.key) u) (Takes (tree_at play.script.vats u) play.script.depth q) before)
          (mails_stays (naming (draw_word play.script.key) u) (Takes (tree_at play.script.vats u) play.script.depth q) before)
          (known t q qs at queue)
          (λ T good more books. both T good more books (ap (map (maps.message (found u T))) (sym i) ∙ queues T more ∙ ap (map (maps.message Is)) queue))
        where
          both : (T : Table) → IsTable u T → Extends (table_in s.world u t) T → books_after theirs ≡ books_of T → map (maps.message (found u T)) (l ∷ ls) ≡ map (maps.message Is) (q ∷ qs)
              → maps.done (found u T) id (taking (numbering {W = Local} (draw_word play.script.key)) (tree_at play.script.vats u) play.script.depth l (record (ready c.vats m.vat) { queue = ls })) ≡ maps.done Is id theirs
          both T good more books a =
              let one : maps.message (found u T) l ≡ maps.message Is q = cc in
              let rest : map (maps.message (found u T)) ls ≡ map (maps.message Is) qs = cc in
              taking_same (draw_word play.script.key) u T good (tree_at play.script.vats u) play.script.depth l q one (record (ready c.vats m.vat) { queue = ls }) before theirs
              (queued (maps.vat (found u T) (ready c.vats m.vat)) (maps.vat Is (readied s.world t)) (map (maps.message (found u T)) ls) (map (maps.message Is) qs) (stands_by T more) rest) refl books

    none_mapped : {A B C : Type 0} (g : A → C) (f : B → C) (xs : List A) → map g xs ≡ map f [] → xs ≡ []
    none_mapped g f [] e = refl
    none_mapped g f (y ∷ ys) e = cc

    by_queue : TurnIsKnown play.script u s.world → (qs : List (Message Name)) → t.queue ≡ qs → ActsMirror play (names.acted n s [] (world.turn_queue play.script k u s.world t qs)) (numbers.acted n u c (run.turn_queue play.script k u c.vats m m.vat.queue))
    unfolding world.turn_queue run.turn_queue
    by_queue known [] e =
        let none : m.vat.queue ≡ [] = none_mapped (maps.message (found u (table_in s.world u t))) (maps.message Is) m.vat.queue (queues (table_in s.world u t) self ∙ ap (map (maps.message Is)) e) in
        subst (λ ls. ActsMirror play (names.acted n s [] (world.idle play.script k s.world)) (numbers.acted n u c (run.turn_queue play.script k u c.vats m ls))) (sym none) idles
    by_queue known (q ∷ qs) e = takes_so q qs e known m.vat.queue refl (queues (table_in s.world u t) self ∙ ap (map (maps.message Is)) e)

  by_vat : TurnIsKnown play.script u s.world → (o : Option (Vat Name)) (p : Option Member) → slice_get s.world.vats u ≡ o → slice_get c.vats.members u ≡ p
      → ActsMirror play (names.acted n s [] (world.turn play.script k u s.world o)) (numbers.acted n u c (run.turn play.script k u c.vats p))
  unfolding world.turn run.turn
  by_vat known None None e i = idles
  by_vat known (Some t) (Some m) e i = by_queue t m e i known t.queue refl
  by_vat known None (Some m) e i = cc (sym i ∙ none_there s.world.vats c.vats.members u h.count e)
  by_vat known (Some t) None e i = cc (sym e ∙ none_there c.vats.members s.world.vats u (sym h.count) i)

  turn_so : TurnIsKnown play.script u s.world → ActsMirror play (names.acted n s [] (world.step play.script (Turn u) k s.world)) (numbers.acted n u c (run.turn play.script k u c.vats (slice_get c.vats.members u)))
  unfolding world.step
  turn_so known = by_vat known (slice_get s.world.vats u) (slice_get c.vats.members u) refl refl

pub acted_leaves : (play : Play) (n : ℕ) (s : Scene) (r : Run) (b : Performed) → ActsMirror play (names.acted n s [] r) b → ActsMirror play (names.or_leaves s (names.acted n s [] r)) b
unfolding names.acted names.or_leaves
acted_leaves play n s (world.Goes y) b h = h
acted_leaves play n s (world.Stopped e k y) b h = h

turns_by : (play : Play) (v k : ℕ) (s : Scene) (c : Cast) (b : Bool) → b ≡ false → ActsMirror play (names.acted (names.step_of play k) s [] (world.step play.script (Turn v) k s.world)) (numbers.acted (names.step_of play k) v c (run.turn play.script k v c.vats (slice_get c.vats.members v)))
    → ActsMirror play (names.or_leaves s (names.does_turn play b k v s)) (numbers.does_turn play b k v c)
unfolding names.does_turn numbers.does_turn
turns_by play v k s c true e a = cc
turns_by play v k s c false e a = acted_leaves play (names.step_of play k) s (world.step play.script (Turn v) k s.world) (numbers.acted (names.step_of play k) v c (run.turn play.script k v c.vats (slice_get c.vats.members v))) a

pub turns_mirror : TurnsMirror
unfolding names.does names.tries numbers.does
turns_mirror play v k s c honest known h = turns_by play v k s c (is_hostile play v) honest (turn_so play v k s c h honest known)

-- ---- notices

module _ (play : Play) (u w k n : ℕ) (s : Scene) (c : Cast) (h : SceneMirrors play s c) (honest : is_hostile play u ≡ false) (known : NoticeIsKnown play.script u w s.world) where
  abbrev noticed : List Event
  noticed = NoticedAt k u w ∷ []

  some_notices : (t : Vat Name) (m : Member) → slice_get s.world.vats u ≡ Some t → slice_get c.vats.members u ≡ Some m
      → ActsMirror play (names.acted n s [] (within u s.world noticed (world.step_number play.script k) (notice (world.names play.script u) w) (Some t))) (numbers.acted n u c (run.notice_by play.script k u w c.vats (Some m)))
  unfolding within run.notice_by own_step world.names run.numbers heard_by does world.step_number run.step_number readied
  some_notices t m at there =
      let K = naming (draw_word play.script.key) u in
      ends_so play s c h u t m honest at there n (world.step_number play.script k) noticed refl (readied s.world t) refl refl
      (notice K w (readied s.world t)) (notice (numbering {W = Local} (draw_word play.script.key)) w (ready c.vats m.vat))
      (names_stays K (Notices w) (readied s.world t)) (mails_stays K (Notices w) (readied s.world t)) (known t at)
      (λ T good more books. notice_same (draw_word play.script.key) u T good w (ready c.vats m.vat) (readied s.world t) (notice K w (readied s.world t)) (still u (table_in s.world u t) T more (ready c.vats m.vat) (readied s.world t) (h.honest u t m honest at there).vat.stands) refl books)

  notice_or : (o : Option (Vat Name)) (q : Option Member) → slice_get s.world.vats u ≡ o → slice_get c.vats.members u ≡ q
      → ActsMirror play (names.acted n s [] (within u s.world noticed (world.step_number play.script k) (notice (world.names play.script u) w) o)) (numbers.acted n u c (run.notice_by play.script k u w c.vats q))
  unfolding within run.notice_by names.acted numbers.acted
  notice_or (Some t) (Some m) e i = some_notices t m e i
  notice_or None None e i = (refl, refl, shown_same play s c h)
  notice_or None (Some m) e i = cc (sym i ∙ none_there s.world.vats c.vats.members u h.count e)
  notice_or (Some t) None e i = cc (sym e ∙ none_there c.vats.members s.world.vats u (sym h.count) i)

  notice_so : ActsMirror play (names.acted n s [] (world.step play.script (NoticeLink u w) k s.world)) (numbers.acted n u c (run.step play.script (NoticeLink u w) k c.vats))
  unfolding world.step run.step
  notice_so = notice_or (slice_get s.world.vats u) (slice_get c.vats.members u) refl refl

pub notices_mirror : NoticesMirror
notices_mirror play v w k n s c honest known h = notice_so play v w k n s c h honest known

-- ---- opening turns

given_same : (f : Local → Found) (ps : List Program) (k : ℕ) (ws : List ℕ) → RootsFrom f k ws → map (maps.binding f) (run.given ps k ws) ≡ map (maps.binding Is) (world.given ps ws)
unfolding run.given world.given any_guard
given_same f ps k [] h = refl
given_same f ps k (w ∷ ws) h =
    let first : f (Prom k) ≡ Is (Name.Root w) = let j : k ≡ zero + k = omega arith in ap (λ n. f (Prom n)) j ∙ h zero w refl in
    let rest = given_same f ps (suc k) ws (λ i z e. let j : i + suc k ≡ suc i + k = omega arith in ap (λ n. f (Prom n)) j ∙ h (suc i) z e) in
    cc (first, rest)

module _ (play : Play) (u : ℕ) (p : Program) (s : Scene) (c : Cast) (h : SceneMirrors play s c) (honest : is_hostile play u ≡ false) (at : slice_get s.world.vats u ≡ Some (fresh play.script u p)) (known : OpeningIsKnown play.script u p s.world) where
  abbrev t : Vat Name
  t = fresh play.script u p

  -- its roots are the first in each later table
  module _ (T : Table) (more : Extends (table_in s.world u t) T) where
    named_at : (j : ℕ) (a : Name) → slice_get (names_in t.known) j ≡ Some a → found u T (Prom j) ≡ Is a
    unfolding found prom_found table_in
    named_at j a e = ap (prom_found j) (more.names j a e)

    root : found u T (Prom zero) ≡ Is (Name.Root u)
    root = named_at zero (Name.Root u) (root_first play.script u p)

    roots : (i w : ℕ) → slice_get p.knows i ≡ Some w → found u T (Prom (i + 1)) ≡ Is (Name.Root w)
    roots i w e = let n : suc i ≡ i + 1 = omega arith in subst (λ j. found u T (Prom j) ≡ Is (Name.Root w)) n (named_at (suc i) (Name.Root w) (root_next play.script u p i w e))

  abbrev place : ℕ
  place = names.honest_before play u

  module _ (m : Member) (there : slice_get c.vats.members u ≡ Some m) where
    abbrev opens_here : Done Local (Unit {0})
    opens_here = opening (numbering {W = Local} (draw_word play.script.key)) p.tree play.script.depth (Prom zero) (run.given play.script.vats 1 p.knows) (ready c.vats m.vat)

    abbrev opens_there : Done Name (Unit {0})
    opens_there = opening (naming (draw_word play.script.key) u) p.tree play.script.depth (Name.Root u) (world.given play.script.vats p.knows) (readied s.world t)

    opening_same : (T : Table) → IsTable u T → Extends (table_in s.world u t) T → books_after opens_there ≡ books_of T → maps.done (found u T) id opens_here ≡ maps.done Is id opens_there
    opening_same T good more books =
        let word = draw_word play.script.key in let gives = given_same (found u T) play.script.vats 1 p.knows (roots T more) in
        step_stands u T good id id (opening (numbering {W = Local} word) p.tree play.script.depth (Prom zero) (run.given play.script.vats 1 p.knows)) (opening (naming word u) p.tree play.script.depth (Name.Root u) (world.given play.script.vats p.knows)) (opening (finding word u) p.tree play.script.depth (found u T (Prom zero)) (map (maps.binding (found u T)) (run.given play.script.vats 1 p.knows)))
        (sim_opening (found u T) (λ (z : Local). Name.Root 0) (numbering word) (finding word u) (FitsTable u T good) (found_renames u T good word (λ (z : Local). Name.Root 0)) p.tree play.script.depth (Prom zero) (run.given play.script.vats 1 p.knows))
        (rw (root T more, gives) (sim_opening Is (λ z. z) (naming word u) (finding word u) (λ (b : Books Found). Unit {0}) (is_renames word u) p.tree play.script.depth (Name.Root u) (world.given play.script.vats p.knows)))
        (ready c.vats m.vat) (readied s.world t) (still u (table_in s.world u t) T more (ready c.vats m.vat) (readied s.world t) (h.honest u t m honest at there).vat.stands) books

    opening_so : ActsMirror play (names.acted place s [] (within u s.world (Opens u ∷ []) u (opening (world.names play.script u) p.tree play.script.depth (Name.Root u) (world.given play.script.vats p.knows)) (Some t))) (numbers.acted place u c (run.open_member play.script u p c.vats (Some m)))
    unfolding within run.open_member own_step world.names run.numbers heard_by does fresh readied
    opening_so =
        let K = naming (draw_word play.script.key) u in let what : Step Name Name = machine.Opens p.tree play.script.depth (Name.Root u) (world.given play.script.vats p.knows) in
        ends_so play s c h u t m honest at there place u (Opens u ∷ []) refl (readied s.world t) refl refl opens_there opens_here (names_stays K what (readied s.world t)) (mails_stays K what (readied s.world t)) known opening_same

  opening_or : (o : Option (Vat Name)) (q : Option Member) → slice_get s.world.vats u ≡ o → slice_get c.vats.members u ≡ q
      → ActsMirror play (names.acted place s [] (within u s.world (Opens u ∷ []) u (opening (world.names play.script u) p.tree play.script.depth (Name.Root u) (world.given play.script.vats p.knows)) o)) (numbers.acted place u c (run.open_member play.script u p c.vats q))
  opening_or (Some z) (Some m) e i = let same : z ≡ t = cc in subst (λ y. ActsMirror play (names.acted place s [] (within u s.world (Opens u ∷ []) u (opening (world.names play.script u) p.tree play.script.depth (Name.Root u) (world.given play.script.vats p.knows)) (Some y))) (numbers.acted place u c (run.open_member play.script u p c.vats (Some m)))) (sym same) (opening_so m i)
  opening_or None q e i = cc (sym e ∙ at)
  opening_or (Some z) None e i = cc (sym e ∙ none_there c.vats.members s.world.vats u (sym h.count) i)

pub openings_mirror : OpeningsMirror
unfolding names.opens numbers.opens world.open_vat
openings_mirror play v p s c honest at known h = opening_or play v p s c h honest at known (slice_get s.world.vats v) (slice_get c.vats.members v) refl refl
