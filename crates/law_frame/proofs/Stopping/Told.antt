-- In every world of a run each event shows the same by the words drawn so far as by those of any later time, since each gift that it names is under a word that was drawn.
use Rattle.std.proofs.Common.{◌≡◌, ℕ, Bool, true, false, List, [], ◌∷◌, ◌++◌, Option, Some, None, refl, sym, ap, subst, ◌∙◌, map}
use Rattle.std.specs.Prelude.{slice_get}
use Rattle.def_machine.specs.Values.{Value, Ref, Name, Root, host_of, naming}
use Rattle.def_machine.specs.State.{Binding, Message, Passed, Passeds, Plain, AGift, Many, NoMore, More, Note, Deliver, Open, Ask, SettledTo, Elsewhere, Shorten, Vat, Done, Gives, Act}
use Rattle.def_machine.specs.Arrive.{Incoming, Old, New, arrive, notice}
use Rattle.def_machine.specs.Scopes.{any_guard}
use Rattle.def_machine.specs.Eval.{opening, taking}
use Rattle.def_kernel.specs.declared.node.Node.{Node}
use Rattle.law_machine.specs.Machine.Steps.{Step, Opens as Starts, Takes, Receives, Notices, After, does}
use Rattle.law_machine.specs.Machine.Laws.{SameDraws}
use Rattle.law_machine.proofs.Machine.StepLaws.{draws_stays}
use Rattle.def_run.specs.Draws.{draw_word}
use Rattle.def_run.specs.Shown.{shown_event}
use Rattle.def_run.specs.World as world
use Rattle.def_run.specs.World.{Script, Program, Opens, Entry, Turn, Carry, CutLink, NoticeLink, Event, Turned, Idle, Carried, NoticedAt, Link, World, Goes as Going, names_of, read_note, readied, put_at, events_of}
use Rattle.law_fate.specs.Name.Names.{AllOf, IsAmong, IsMessageName, WasMade, IsMade, ValueOk, PassedOk, PassedsOk, NoteOk, MessageOk, KnownOk, Parts}
use Rattle.law_fate.proofs.Name.Facts.{MayBe, all_map, all_append, note_up}
use Rattle.law_fate.proofs.Name.Care.{parts_up}
use Rattle.law_fate.proofs.Name.Among.{get_put}
use Rattle.law_fate.proofs.Name.Run.{Had, Told, VatStands, Stands, link_holds}
use Rattle.def_machine.specs.Maps as maps
use Rattle.def_machine.specs.Maps.{incoming}
use Rattle.law_machine.proofs.Renamed.Sim.{Books, Sim, id}
use Rattle.law_machine.proofs.Renamed.SimArrive.{sim_arrive, sim_notice}
use Rattle.law_machine.proofs.Renamed.SimEval.{sim_taking, sim_opening}
use Rattle.law_reference.proofs.Reference.Bounds.{stays_all}
use Rattle.law_frame.proofs.Frame.Entries.{heads}
use Rattle.law_frame.proofs.Stopping.Drawn.{Marked, is_drawn, marked, sure, made_sure, state_sure, AllSure, Marking, marked_renames, sure_renames, left_kept}
use Rattle.law_frame.proofs.Stopping.Shown.{IsShownBy, IsLineShownBy, said_note, lines_shown, lost_shown, events_shown, shown_later}
use Rattle.law_frame.proofs.Stopping.Later.{stays_front}

abbrev self : Name → Name
self n = n

abbrev Free : Books Marked → Type 0
Free b = Unit {0}

-- ---- what a step is given is sure

module _ (vats : List (Vat Name)) (d e : List ℕ) (more : (w : ℕ) → IsAmong w d → IsAmong w e) where
  name_either : (n : Name) (b : Bool) → WasMade vats d n → ◌≡◌ {A = Incoming Marked Name} (incoming (marked e) self (elim b [ true ↦ Old n | false ↦ New n (host_of n) ])) (incoming sure self (elim b [ true ↦ Old n | false ↦ New n (host_of n) ]))
  name_either n true h = ap (λ m. Old m) (made_sure vats d e more n h)
  name_either n false h = refl

  name_read : (ks : List Name) (n : Name) → WasMade vats d n → ◌≡◌ {A = Incoming Marked Name} (incoming (marked e) self (world.read_name ks n)) (incoming sure self (world.read_name ks n))
  unfolding world.read_name
  name_read ks n h = name_either n (world.is_old ks n) h

  value_read : (ks : List Name) (y : Value Name) → ValueOk (IsMade vats d) y → maps.value (incoming (marked e) self) (world.read_value ks y).read ≡ maps.value (incoming sure self) (world.read_value ks y).read
  unfolding world.read_value
  value_read ks (Ref n) h = ap (λ m. Ref m) (name_read ks n h)
  value_read ks other h = refl

  mutual
    unfolding world.read_passed world.read_all world.plain_read world.many_read world.more_read

    passed_read : (ks : List Name) (y : Passed Name) → PassedOk (IsMade vats d) y → maps.passed (incoming (marked e) self) (world.read_passed y ks).read ≡ maps.passed (incoming sure self) (world.read_passed y ks).read
    passed_read ks (Plain y) h = ap (λ z. Plain z) (value_read ks y h)
    passed_read ks (AGift g i) h = refl
    passed_read ks (Many ys) h = ap (λ zs. Many zs) (all_read ks ys h)

    all_read : (ks : List Name) (ys : Passeds Name) → PassedsOk (IsMade vats d) ys → maps.passeds (incoming (marked e) self) (world.read_all ys ks).read ≡ maps.passeds (incoming sure self) (world.read_all ys ks).read
    all_read ks NoMore h = refl
    all_read ks (More y ys) h = cc (passed_read ks y h.0, all_read (world.read_passed y ks).known ys h.1)

  note_read : (ks : List Name) (n : Note Name) → NoteOk (IsMade vats d) n → maps.note (incoming (marked e) self) (read_note ks n) ≡ maps.note (incoming sure self) (read_note ks n)
  unfolding world.read_note
  note_read ks (Deliver m n verb ys) h = cc (name_read (world.read_all ys ks).known n h.1, all_read ks ys h.2)
  note_read ks (Open i n) h = cc (name_read ks n h.1)
  note_read ks (Ask p i n) h = cc (name_read ks n h.1)
  note_read ks (SettledTo n y) h = cc (name_read ks n h.0, passed_read (world.known_after ks n) y h.1)
  note_read ks (Elsewhere n c) h = cc (name_read ks n h.0)
  note_read ks (Shorten n c i) h = cc (name_read ks n h.0)

given_sure : (e : List ℕ) (ps : List Program) (ws : List ℕ) → map (maps.binding (marked e)) (world.given ps ws) ≡ map (maps.binding sure) (world.given ps ws)
unfolding world.given any_guard is_drawn
given_sure e ps [] = refl
given_sure e ps (w ∷ ws) = let rest = given_sure e ps ws in cc (rest)

-- ---- a step of vat v that goes on

-- it is read alike with each name marked and with each name sure, once those words were drawn
abbrev Alike : (ℕ → ℕ) → ℕ → Step Name Name → List ℕ → Type 0
Alike word v what e = (k : Act Marked (Unit {0})) × Sim (marked e) (AllSure e) id (does (naming word v) what) k × Sim sure Free id (does (naming word v) what) k

module _ (word : ℕ → ℕ) (v : ℕ) (e : List ℕ) where
  takes_alike : (tree : List Node) (depth : ℕ) (m : Message Name) → maps.message (marked e) m ≡ maps.message sure m → Alike word v (Takes tree depth m) e
  unfolding does
  takes_alike tree depth m same = let L = Marking e word v in (
    taking L tree depth (maps.message sure m),
    subst (λ z. Sim (marked e) (AllSure e) id (taking (naming word v) tree depth m) (taking L tree depth z)) same (sim_taking (marked e) self (naming word v) L (AllSure e) (marked_renames e word v) tree depth m),
    sim_taking sure self (naming word v) L Free (sure_renames e word v) tree depth m,
  )

  opens_alike : (tree : List Node) (depth : ℕ) (bs : List (Binding Name)) → map (maps.binding (marked e)) bs ≡ map (maps.binding sure) bs → Alike word v (Starts tree depth (Root v) bs) e
  unfolding does
  opens_alike tree depth bs same = let L = Marking e word v in (
    opening L tree depth (sure (Root v)) (map (maps.binding sure) bs),
    subst (λ z. Sim (marked e) (AllSure e) id (opening (naming word v) tree depth (Root v) bs) (opening L tree depth (sure (Root v)) z)) same (sim_root tree depth bs),
    sim_opening sure self (naming word v) L Free (sure_renames e word v) tree depth (Root v) bs,
  )
    where
      sim_root : (tree : List Node) (depth : ℕ) (bs : List (Binding Name)) → Sim (marked e) (AllSure e) id (opening (naming word v) tree depth (Root v) bs) (opening (Marking e word v) tree depth (sure (Root v)) (map (maps.binding (marked e)) bs))
      sim_root tree depth bs = subst (λ z. Sim (marked e) (AllSure e) id (opening (naming word v) tree depth (Root v) bs) (opening (Marking e word v) tree depth z (map (maps.binding (marked e)) bs))) (made_sure [] e e (λ w a. a) (Root v) tt)
          (sim_opening (marked e) self (naming word v) (Marking e word v) (AllSure e) (marked_renames e word v) tree depth (Root v) bs)

  receives_alike : (from : ℕ) (n : Note (Incoming Name Name)) → maps.note (incoming (marked e) self) n ≡ maps.note (incoming sure self) n → Alike word v (Receives from n) e
  unfolding does
  receives_alike from n same = let L = Marking e word v in (
    arrive L from (maps.note (incoming sure self) n),
    subst (λ z. Sim (marked e) (AllSure e) id (arrive (naming word v) from n) (arrive L from z)) same (sim_arrive (marked e) self (naming word v) L (AllSure e) (marked_renames e word v) from n),
    sim_arrive sure self (naming word v) L Free (sure_renames e word v) from n,
  )

  notices_alike : (w : ℕ) → Alike word v (Notices w) e
  unfolding does
  notices_alike w = let L = Marking e word v in (notice L w, sim_notice (marked e) self (naming word v) L (AllSure e) (marked_renames e word v) w, sim_notice sure self (naming word v) L Free (sure_renames e word v) w)

-- each event of a world shows the same ever after
abbrev pub AllShown : World → Type 0
AllShown x = AllOf (IsShownBy x.drawn) x.history

-- what a step of vat v that gives makes of the world
put_made : (v : ℕ) (w x : World) (head : List Event) (k : ℕ) (o : Done Name (Unit {0})) → world.put_back v w head k o ≡ Going x
    → (t : Vat Name) × (o ≡ Gives tt t) × (x.vats ≡ put_at v t w.vats) × (x.drawn ≡ t.drawn) × (x.history ≡ w.history ++ head ++ events_of w.links v t.happened)
unfolding world.put_back
put_made v w x head k (Gives a t) e = let z : World = record { fuel = t.fuel; drawn = t.drawn; vats = put_at v t w.vats; links = world.push_all v t.outbox w.links; connections = world.connections_after v t head w.connections; history = w.history ++ head ++ events_of w.links v t.happened } in
    let same : x ≡ z = is z x e in (t, refl, ap (λ (y : World). y.vats) same, ap (λ (y : World). y.drawn) same, ap (λ (y : World). y.history) same)
  where
    is : (z x : World) → Going z ≡ Going x → x ≡ z
    is z x f = cc
put_made v w x head k other e = cc

all_later : (d l e : List ℕ) → e ≡ d ++ l → (es : List Event) → AllOf (IsShownBy d) es → AllOf (IsShownBy e) es
all_later d l e f es h = all_map (λ z i. subst (λ ds. IsShownBy ds z) (sym f) (shown_later d l z i)) es h

module _ (script : Script) where
  abbrev word : ℕ → ℕ
  word = draw_word script.key

  -- s is the state of vat v in world w, and q the state that the step is taken from
  module _ (v : ℕ) (w x : World) (s q : Vat Name) (there : slice_get w.vats v ≡ Some s) (after : Stands script x) (parts : Parts (IsMade w.vats w.drawn) q.things q.slots q.lists q.queue q.known q.gifts q.outbox) (mails : AllOf IsMessageName q.mails)
      (what : Step Name Name) (alike : (e : List ℕ) → ((n : ℕ) → IsAmong n w.drawn → IsAmong n e) → Alike word v what e) where
    left_lines : (t : Vat Name) → does (naming word v) what (readied w q) ≡ Gives tt t → x.vats ≡ put_at v t w.vats → x.drawn ≡ t.drawn → (l : List ℕ) → t.drawn ≡ w.drawn ++ l → ((n : ℕ) → IsAmong n w.drawn → IsAmong n t.drawn) → AllOf (IsLineShownBy t.drawn v) t.happened
    left_lines t gives vats drawn l longer more =
        let at : slice_get x.vats v ≡ Some t = ap (λ us. slice_get us v) vats ∙ get_put w.vats v s t there in
        let stands : VatStands script x v t = after.vats v t at in
        let made : Parts (IsMade x.vats x.drawn) t.things t.slots t.lists t.queue t.known t.gifts t.outbox = parts_up (Had script x v t) (IsMade x.vats x.drawn) (λ b i. i.0) t.things t.slots t.lists t.queue t.known t.gifts t.outbox stands.parts in
        let known : AllOf (KnownOk (IsMade x.vats t.drawn)) t.known = subst (λ d. AllOf (KnownOk (IsMade x.vats d)) t.known) drawn made.known in
        let a = alike t.drawn more in
        lines_shown t.drawn v t (left_kept t.drawn (does (naming word v) what) a.0 a.1 a.2 (readied w q) t (state_sure w.vats w.drawn t.drawn more w q mails parts) gives x.vats known stands.kept.mails)

    put_shown : (head : List Event) (k : ℕ) → world.put_back v w head k (does (naming word v) what (readied w q)) ≡ Going x → AllShown w → AllOf (IsShownBy w.drawn) head → AllShown x
    unfolding readied
    put_shown head k e old new =
        let p = put_made v w x head k (does (naming word v) what (readied w q)) e in let t = p.0 in
        let stays = subst (λ o. After SameDraws (readied w q) o) p.1 (draws_stays (naming word v) what (readied w q)) in
        let f = stays_front w.drawn t.drawn stays in
        let lines = left_lines t p.1 p.2 p.3 f.0 f.1 (stays_all w.drawn t.drawn stays) in
        let all : AllOf (IsShownBy t.drawn) (w.history ++ head ++ events_of w.links v t.happened) =
        all_append (IsShownBy t.drawn) (w.history ++ head) (events_of w.links v t.happened) (all_append (IsShownBy t.drawn) w.history head (all_later w.drawn f.0 t.drawn f.1 w.history old) (all_later w.drawn f.0 t.drawn f.1 head new)) (events_shown t.drawn v w.links t.happened lines) in
        subst (λ d. AllOf (IsShownBy d) x.history) (sym p.3) (subst (λ es. AllOf (IsShownBy t.drawn) es) (sym p.4) all)

  -- ---- each kind of step

  vat_parts : (w : World) (v : ℕ) (s : Vat Name) → VatStands script w v s → Parts (IsMade w.vats w.drawn) s.things s.slots s.lists s.queue s.known s.gifts s.outbox
  vat_parts w v s h = parts_up (Had script w v s) (IsMade w.vats w.drawn) (λ b i. i.0) s.things s.slots s.lists s.queue s.known s.gifts s.outbox h.parts

  idle_shown : (k : ℕ) (w x : World) → world.idle script k w ≡ Going x → AllShown w → AllShown x
  unfolding world.idle shown_event
  idle_shown k w x e h = let z : World = record w { history = w.history ++ Idle k ∷ [] } in let same : z ≡ x = cc in
      subst (λ y. AllShown y) same (all_append (IsShownBy w.drawn) w.history (Idle k ∷ []) h (λ l. refl, tt))

  queue_shown : (k v : ℕ) (w x : World) (s : Vat Name) (ms : List (Message Name)) → s.queue ≡ ms → slice_get w.vats v ≡ Some s → Stands script w → Stands script x → world.turn_queue script k v w s ms ≡ Going x → AllShown w → AllShown x
  unfolding world.turn_queue world.within world.names does readied shown_event
  queue_shown k v w x s [] i there h g e old = idle_shown k w x e old
  queue_shown k v w x s (m ∷ ms) i there h g e old =
      let stands : VatStands script w v s = h.vats v s there in let p = vat_parts w v s stands in let mails = stands.kept.mails in let q : Vat Name = record s { queue = ms } in
      let all : AllOf (MessageOk (IsMade w.vats w.drawn)) (m ∷ ms) = subst (λ z. AllOf (MessageOk (IsMade w.vats w.drawn)) z) i p.queue in
      let parts : Parts (IsMade w.vats w.drawn) q.things q.slots q.lists q.queue q.known q.gifts q.outbox = record { things = p.things; slots = p.slots; lists = p.lists; queue = all.1; known = p.known; gifts = p.gifts; outbox = p.outbox } in
      put_shown v w x s q there g parts mails (Takes (world.tree_at script.vats v) script.depth m)
      (λ d more. takes_alike word v d (world.tree_at script.vats v) script.depth m (first d (state_sure w.vats w.drawn d more w s mails p)))
      (Turned k v ∷ []) (world.step_number script k) e old (λ l. refl, tt)
    where
      first : (d : List ℕ) → maps.vat (marked d) (readied w s) ≡ maps.vat sure (readied w s) → maps.message (marked d) m ≡ maps.message sure m
      first d f = (heads (maps.message (marked d) m) (maps.message sure m) (map (maps.message (marked d)) ms) (map (maps.message sure) ms)
          (ap (λ zs. map (maps.message (marked d)) zs) (sym i) ∙ ap (λ (z : Vat Marked). z.queue) f ∙ ap (λ zs. map (maps.message sure) zs) i)).0

  turn_shown : (k v : ℕ) (w x : World) (o : Option (Vat Name)) → slice_get w.vats v ≡ o → Stands script w → Stands script x → world.turn script k v w o ≡ Going x → AllShown w → AllShown x
  unfolding world.turn
  turn_shown k v w x None i h g e old = idle_shown k w x e old
  turn_shown k v w x (Some s) i h g e old = queue_shown k v w x s s.queue refl i h g e old

  -- the note of the link was made
  link_made : (w : World) → Stands script w → AllOf (λ (l : Link). AllOf (λ (n : Note Name). NoteOk (IsMade w.vats w.drawn) n) l.notes) w.links
  link_made w h = all_map (λ l i. all_map (λ n j. note_up (Told script w) (IsMade w.vats w.drawn) (λ b k. k.0) n j) l.notes i) w.links h.links

  arrives_shown : (k v u : ℕ) (w x : World) (ls : List Link) (n : Note Name) (o : Option (Vat Name)) → slice_get w.vats u ≡ o → NoteOk (IsMade w.vats w.drawn) n → Stands script w → Stands script x → world.arrives script k v u (record w { links = ls }) n o ≡ Going x → AllShown w → AllShown x
  unfolding world.arrives world.within world.names does readied shown_event
  arrives_shown k v u w x ls n None i made h g e old = idle_shown k (record w { links = ls }) x e old
  arrives_shown k v u w x ls n (Some s) i made h g e old = let stands : VatStands script w u s = h.vats u s i in let z : World = record w { links = ls } in
      put_shown u z x s s i g (vat_parts w u s stands) stands.kept.mails (Receives v (read_note (names_of s) n)) (λ d more. receives_alike word u d v (read_note (names_of s) n) (note_read w.vats w.drawn d more (names_of s) n made))
      (Carried k v u n (world.next_frame v u w.connections) ∷ []) (world.step_number script k) e old (λ l. cc (said_note w.vats w.drawn l u n made), tt)

  notes_shown : (k v u : ℕ) (w x : World) (ns : List (Note Name)) → AllOf (λ (n : Note Name). NoteOk (IsMade w.vats w.drawn) n) ns → Stands script w → Stands script x → world.carry_notes script k v u w ns ≡ Going x → AllShown w → AllShown x
  unfolding world.carry_notes
  notes_shown k v u w x [] made h g e old = idle_shown k w x e old
  notes_shown k v u w x (n ∷ ns) made h g e old = arrives_shown k v u w x (world.with_link (world.with_notes ns) v u w.links) n (slice_get w.vats u) refl made.0 h g e old

  uncut_shown : (k v u : ℕ) (w x : World) (l : Link) (b : Bool) → AllOf (λ (n : Note Name). NoteOk (IsMade w.vats w.drawn) n) l.notes → Stands script w → Stands script x → elim b [ true ↦ world.idle script k w | false ↦ world.carry_notes script k v u w l.notes ] ≡ Going x → AllShown w → AllShown x
  uncut_shown k v u w x l true made h g e old = idle_shown k w x e old
  uncut_shown k v u w x l false made h g e old = notes_shown k v u w x l.notes made h g e old

  link_shown : (k v u : ℕ) (w x : World) (o : Option Link) → MayBe (λ (l : Link). AllOf (λ (n : Note Name). NoteOk (IsMade w.vats w.drawn) n) l.notes) o → Stands script w → Stands script x → world.carry_link script k v u w o ≡ Going x → AllShown w → AllShown x
  unfolding world.carry_link
  link_shown k v u w x None made h g e old = idle_shown k w x e old
  link_shown k v u w x (Some l) made h g e old = uncut_shown k v u w x l l.cut made h g e old

  lost_by_shown : (d : List ℕ) (ns : List (Note Name)) → AllOf (IsShownBy d) (world.lost_by script ns)
  unfolding world.lost_by
  lost_by_shown d [] = tt
  lost_by_shown d (Deliver m n verb ys ∷ ns) = (lost_shown d m.message, lost_by_shown d ns)
  lost_by_shown d (Open i n ∷ ns) = lost_by_shown d ns
  lost_by_shown d (Ask p i n ∷ ns) = lost_by_shown d ns
  lost_by_shown d (SettledTo n y ∷ ns) = lost_by_shown d ns
  lost_by_shown d (Elsewhere n c ∷ ns) = lost_by_shown d ns
  lost_by_shown d (Shorten n c i ∷ ns) = lost_by_shown d ns

  lost_on_shown : (d : List ℕ) (o : Option Link) → AllOf (IsShownBy d) (world.lost_on script o)
  unfolding world.lost_on
  lost_on_shown d None = tt
  lost_on_shown d (Some l) = lost_by_shown d l.notes

  cut_shown : (k v u : ℕ) (w x : World) → world.cut script k v u w ≡ Going x → AllShown w → AllShown x
  unfolding world.cut shown_event
  cut_shown k v u w x e old = subst (λ y. AllShown y) (is _ x e)
      (all_append (IsShownBy w.drawn) w.history _ old (λ l. refl, all_append (IsShownBy w.drawn) (world.lost_on script (world.link_at v u w.links)) (world.lost_on script (world.link_at u v w.links)) (lost_on_shown w.drawn (world.link_at v u w.links)) (lost_on_shown w.drawn (world.link_at u v w.links))))
    where
      is : (z x : World) → Going z ≡ Going x → z ≡ x
      is z x f = cc

  notice_shown : (k v u : ℕ) (w x : World) (o : Option (Vat Name)) → slice_get w.vats v ≡ o → Stands script w → Stands script x → world.within v w (NoticedAt k v u ∷ []) (world.step_number script k) (notice (world.names script v) u) o ≡ Going x → AllShown w → AllShown x
  unfolding world.within world.names does readied shown_event
  notice_shown k v u w x None i h g e old = cc
  notice_shown k v u w x (Some s) i h g e old = let stands : VatStands script w v s = h.vats v s i in
      put_shown v w x s s i g (vat_parts w v s stands) stands.kept.mails (Notices u) (λ d more. notices_alike word v d u) (NoticedAt k v u ∷ []) (world.step_number script k) e old (λ l. refl, tt)

  pub step_shown : (entry : Entry) (k : ℕ) (w x : World) → Stands script w → Stands script x → world.step script entry k w ≡ Going x → AllShown w → AllShown x
  unfolding world.step
  step_shown (Turn v) k w x h g e old = turn_shown k v w x (slice_get w.vats v) refl h g e old
  step_shown (Carry v u) k w x h g e old = link_shown k v u w x (world.link_at v u w.links) (link_holds (λ n. NoteOk (IsMade w.vats w.drawn) n) v u w.links (link_made w h)) h g e old
  step_shown (CutLink v u) k w x h g e old = cut_shown k v u w x e old
  step_shown (NoticeLink v u) k w x h g e old = notice_shown k v u w x (slice_get w.vats v) refl h g e old

  pub open_shown : (v : ℕ) (p : Program) (w x : World) (o : Option (Vat Name)) → slice_get w.vats v ≡ o → Stands script w → Stands script x
      → world.within v w (Opens v ∷ []) v (opening (world.names script v) p.tree script.depth (Root v) (world.given script.vats p.knows)) o ≡ Going x → AllShown w → AllShown x
  unfolding world.within world.names does readied shown_event
  open_shown v p w x None i h g e old = cc
  open_shown v p w x (Some s) i h g e old = let stands : VatStands script w v s = h.vats v s i in let gave = world.given script.vats p.knows in
      put_shown v w x s s i g (vat_parts w v s stands) stands.kept.mails (Starts p.tree script.depth (Root v) gave) (λ d more. opens_alike word v d p.tree script.depth gave (given_sure d script.vats p.knows)) (Opens v ∷ []) v e old (λ l. refl, tt)
