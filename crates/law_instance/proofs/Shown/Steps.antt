-- In every world of a run each event is shown as in a run with hostile vats, since no gift that it names prints by its word.
use Rattle.std.proofs.Common.{◌≡◌, ℕ, Bool, true, false, List, [], ◌∷◌, ◌++◌, Option, Some, None, refl, sym, ap, subst, ◌∙◌, map}
use Rattle.std.specs.Prelude.{slice_get}
use Rattle.def_machine.specs.Values.{Value, Ref, Name, Root, host_of, naming}
use Rattle.def_machine.specs.State.{Binding, Message, Passed, Passeds, Plain, AGift, Many, NoMore, More, Note, Deliver, Open, Ask, SettledTo, Elsewhere, Shorten, Vat, Done, Gives, Act}
use Rattle.def_machine.specs.Arrive.{Incoming, Old, New, arrive, notice}
use Rattle.def_machine.specs.Scopes.{any_guard}
use Rattle.def_machine.specs.Eval.{opening, taking}
use Rattle.def_kernel.specs.declared.node.Node.{Node}
use Rattle.law_machine.specs.Machine.Steps.{Step, Opens as Starts, Takes, Receives, Notices, does}
use Rattle.def_run.specs.Draws.{draw_word}
use Rattle.def_run.specs.Shown.{shown_event}
use Rattle.def_run.specs.World as world
use Rattle.def_run.specs.World.{Script, Program, Opens, Entry, Turn, Carry, CutLink, NoticeLink, Event, Turned, Idle, Carried, NoticedAt, Link, World, Goes as Going, names_of, read_note, readied, put_at, events_of}
use Rattle.law_fate.specs.Name.Names.{AllOf, IsMessageName, IsHad, names_in, ValueOk, PassedOk, PassedsOk, NoteOk, MessageOk, Parts}
use Rattle.law_fate.proofs.Name.Facts.{MayBe, all_append}
use Rattle.law_fate.proofs.Name.Care.{parts_up}
use Rattle.law_fate.proofs.Name.Among.{get_put}
use Rattle.law_fate.proofs.Name.Run.{Had, VatStands, Stands, link_holds}
use Rattle.def_machine.specs.Maps as maps
use Rattle.def_machine.specs.Maps.{incoming}
use Rattle.law_machine.proofs.Renamed.Sim.{Books, Sim, id}
use Rattle.law_machine.proofs.Renamed.SimArrive.{sim_arrive, sim_notice}
use Rattle.law_machine.proofs.Renamed.SimEval.{sim_taking, sim_opening}
use Rattle.law_frame.proofs.Frame.Entries.{heads}
use Rattle.def_hostile.specs.Claims.{spelled_event}
use Rattle.def_hostile.specs.ShownMarks as marks
use Rattle.law_instance.proofs.Shown.Low.{is_low, IsLow, LowBit, Low}
use Rattle.law_instance.proofs.Shown.Marked.{Marked, marked, sure, low_sure, state_sure, AllSure, Marking, marked_renames, sure_renames, left_kept}
use Rattle.law_instance.proofs.Shown.Same.{IsSame, IsLineSame, root_low, lines_same, lost_same, events_same, carried_same}

abbrev self : Name → Name
self n = n

abbrev Free : Books Marked → Type 0
Free b = Unit {0}

-- ---- what a step is given is sure

name_either : (n : Name) (b : Bool) → IsLow n → ◌≡◌ {A = Incoming Marked Name} (incoming marked self (elim b [ true ↦ Old n | false ↦ New n (host_of n) ])) (incoming sure self (elim b [ true ↦ Old n | false ↦ New n (host_of n) ]))
name_either n true h = ap (λ m. Old m) (low_sure n h)
name_either n false h = refl

name_read : (ks : List Name) (n : Name) → IsLow n → ◌≡◌ {A = Incoming Marked Name} (incoming marked self (world.read_name ks n)) (incoming sure self (world.read_name ks n))
unfolding world.read_name
name_read ks n h = name_either n (world.is_old ks n) h

value_read : (ks : List Name) (y : Value Name) → ValueOk LowBit y → maps.value (incoming marked self) (world.read_value ks y).read ≡ maps.value (incoming sure self) (world.read_value ks y).read
unfolding world.read_value
value_read ks (Ref n) h = ap (λ m. Ref m) (name_read ks n h)
value_read ks other h = refl

mutual
  unfolding world.read_passed world.read_all world.plain_read world.many_read world.more_read

  passed_read : (ks : List Name) (y : Passed Name) → PassedOk LowBit y → maps.passed (incoming marked self) (world.read_passed y ks).read ≡ maps.passed (incoming sure self) (world.read_passed y ks).read
  passed_read ks (Plain y) h = ap (λ z. Plain z) (value_read ks y h)
  passed_read ks (AGift g i) h = refl
  passed_read ks (Many ys) h = ap (λ zs. Many zs) (all_read ks ys h)

  all_read : (ks : List Name) (ys : Passeds Name) → PassedsOk LowBit ys → maps.passeds (incoming marked self) (world.read_all ys ks).read ≡ maps.passeds (incoming sure self) (world.read_all ys ks).read
  all_read ks NoMore h = refl
  all_read ks (More y ys) h = cc (passed_read ks y h.0, all_read (world.read_passed y ks).known ys h.1)

note_read : (ks : List Name) (n : Note Name) → NoteOk LowBit n → maps.note (incoming marked self) (read_note ks n) ≡ maps.note (incoming sure self) (read_note ks n)
unfolding world.read_note
note_read ks (Deliver m n verb ys) h = cc (name_read (world.read_all ys ks).known n h.1, all_read ks ys h.2)
note_read ks (Open i n) h = cc (name_read ks n h.1)
note_read ks (Ask p i n) h = cc (name_read ks n h.1)
note_read ks (SettledTo n y) h = cc (name_read ks n h.0, passed_read (world.known_after ks n) y h.1)
note_read ks (Elsewhere n c) h = cc (name_read ks n h.0)
note_read ks (Shorten n c i) h = cc (name_read ks n h.0)

given_sure : (ps : List Program) (ws : List ℕ) → map (maps.binding marked) (world.given ps ws) ≡ map (maps.binding sure) (world.given ps ws)
unfolding world.given any_guard is_low
given_sure ps [] = refl
given_sure ps (w ∷ ws) = let rest = given_sure ps ws in cc (rest)

-- ---- a step of vat v that goes on

-- it is read alike with each name marked and with each name sure,
abbrev Alike : (ℕ → ℕ) → ℕ → Step Name Name → Type 0
Alike word v what = (k : Act Marked (Unit {0})) × Sim marked AllSure id (does (naming word v) what) k × Sim sure Free id (does (naming word v) what) k

module _ (word : ℕ → ℕ) (v : ℕ) where
  takes_alike : (tree : List Node) (depth : ℕ) (m : Message Name) → maps.message marked m ≡ maps.message sure m → Alike word v (Takes tree depth m)
  unfolding does
  takes_alike tree depth m same = let L = Marking word v in (
    taking L tree depth (maps.message sure m),
    subst (λ z. Sim marked AllSure id (taking (naming word v) tree depth m) (taking L tree depth z)) same (sim_taking marked self (naming word v) L AllSure (marked_renames word v) tree depth m),
    sim_taking sure self (naming word v) L Free (sure_renames word v) tree depth m,
  )

  opens_alike : (tree : List Node) (depth : ℕ) (bs : List (Binding Name)) → map (maps.binding marked) bs ≡ map (maps.binding sure) bs → Alike word v (Starts tree depth (Root v) bs)
  unfolding does
  opens_alike tree depth bs same = let L = Marking word v in (
    opening L tree depth (sure (Root v)) (map (maps.binding sure) bs),
    subst (λ z. Sim marked AllSure id (opening (naming word v) tree depth (Root v) bs) (opening L tree depth (sure (Root v)) z)) same (sim_root tree depth bs),
    sim_opening sure self (naming word v) L Free (sure_renames word v) tree depth (Root v) bs,
  )
    where
      sim_root : (tree : List Node) (depth : ℕ) (bs : List (Binding Name)) → Sim marked AllSure id (opening (naming word v) tree depth (Root v) bs) (opening (Marking word v) tree depth (sure (Root v)) (map (maps.binding marked) bs))
      sim_root tree depth bs = subst (λ z. Sim marked AllSure id (opening (naming word v) tree depth (Root v) bs) (opening (Marking word v) tree depth z (map (maps.binding marked) bs))) (low_sure (Root v) (root_low v))
          (sim_opening marked self (naming word v) (Marking word v) AllSure (marked_renames word v) tree depth (Root v) bs)

  receives_alike : (from : ℕ) (n : Note (Incoming Name Name)) → maps.note (incoming marked self) n ≡ maps.note (incoming sure self) n → Alike word v (Receives from n)
  unfolding does
  receives_alike from n same = let L = Marking word v in (
    arrive L from (maps.note (incoming sure self) n),
    subst (λ z. Sim marked AllSure id (arrive (naming word v) from n) (arrive L from z)) same (sim_arrive marked self (naming word v) L AllSure (marked_renames word v) from n),
    sim_arrive sure self (naming word v) L Free (sure_renames word v) from n,
  )

  notices_alike : (w : ℕ) → Alike word v (Notices w)
  unfolding does
  notices_alike w = let L = Marking word v in (notice L w, sim_notice marked self (naming word v) L AllSure (marked_renames word v) w, sim_notice sure self (naming word v) L Free (sure_renames word v) w)

-- each event of a world is shown the same
abbrev pub AllSame : World → Type 0
AllSame x = AllOf IsSame x.history

-- what a step of vat v that gives makes of the world
put_made : (v : ℕ) (w x : World) (head : List Event) (k : ℕ) (o : Done Name (Unit {0})) → world.put_back v w head k o ≡ Going x
    → (t : Vat Name) × (o ≡ Gives tt t) × (x.vats ≡ put_at v t w.vats) × (x.drawn ≡ t.drawn) × (x.history ≡ w.history ++ head ++ events_of w.links v t.happened)
unfolding world.put_back
put_made v w x head k (Gives a t) e = let z : World = record { fuel = t.fuel; drawn = t.drawn; vats = put_at v t w.vats; links = world.push_all v t.outbox w.links; connections = world.connections_after v t head w.connections; history = w.history ++ head ++ events_of w.links v t.happened } in
    let same : x ≡ z = is z x e in (t, refl, ap (λ (y : World). y.vats) same, ap (λ (y : World). y.drawn) same, ap (λ (y : World). y.history) same)
  where
    is : (z x : World) → Going z ≡ Going x → x ≡ z
    is z x f = cc
put_made v w x head k other e = cc

module _ (script : Script) where
  abbrev word : ℕ → ℕ
  word = draw_word script.key

  -- s is the state of vat v in world w, and q the state that the step is taken from
  module _ (v : ℕ) (w x : World) (s q : Vat Name) (there : slice_get w.vats v ≡ Some s) (low : AllOf IsLow (names_in s.known)) (next : Low x) (after : Stands script x) (parts : Parts (IsHad (names_in s.known) q.mails) q.things q.slots q.lists q.queue q.known q.gifts q.outbox) (mails : AllOf IsMessageName q.mails)
      (what : Step Name Name) (alike : Alike word v what) where
    left_lines : (t : Vat Name) → does (naming word v) what (readied w q) ≡ Gives tt t → x.vats ≡ put_at v t w.vats → AllOf (IsLineSame v) t.happened
    left_lines t gives vats =
        let at : slice_get x.vats v ≡ Some t = ap (λ us. slice_get us v) vats ∙ get_put w.vats v s t there in
        let stands : VatStands script x v t = after.vats v t at in
        lines_same v t (left_kept (does (naming word v) what) alike.0 alike.1 alike.2 (readied w q) t (state_sure (names_in s.known) low w q mails parts) gives (next.known v t at) stands.kept.mails)

    put_shown : (head : List Event) (k : ℕ) → world.put_back v w head k (does (naming word v) what (readied w q)) ≡ Going x → AllSame w → AllOf IsSame head → AllSame x
    unfolding readied
    put_shown head k e old new =
        let p = put_made v w x head k (does (naming word v) what (readied w q)) e in let t = p.0 in
        subst (λ es. AllOf IsSame es) (sym p.4) (all_append IsSame (w.history ++ head) (events_of w.links v t.happened) (all_append IsSame w.history head old new) (events_same v w.links t.happened (left_lines t p.1 p.2)))

  -- ---- each kind of step

  vat_parts : (w : World) (v : ℕ) (s : Vat Name) → VatStands script w v s → Parts (IsHad (names_in s.known) s.mails) s.things s.slots s.lists s.queue s.known s.gifts s.outbox
  vat_parts w v s h = parts_up (Had script w v s) (IsHad (names_in s.known) s.mails) (λ b i. i.1) s.things s.slots s.lists s.queue s.known s.gifts s.outbox h.parts

  idle_shown : (k : ℕ) (w x : World) → world.idle script k w ≡ Going x → AllSame w → AllSame x
  unfolding world.idle marks.shown_event shown_event spelled_event
  idle_shown k w x e h = let z : World = record w { history = w.history ++ Idle k ∷ [] } in let same : z ≡ x = cc in
      subst (λ y. AllSame y) same (all_append IsSame w.history (Idle k ∷ []) h (λ d. refl, tt))

  queue_shown : (k v : ℕ) (w x : World) (s : Vat Name) (ms : List (Message Name)) → s.queue ≡ ms → slice_get w.vats v ≡ Some s → Stands script w → Stands script x → Low w → Low x → world.turn_queue script k v w s ms ≡ Going x → AllSame w → AllSame x
  unfolding world.turn_queue world.within world.names does readied marks.shown_event shown_event spelled_event
  queue_shown k v w x s [] i there h g lw lx e old = idle_shown k w x e old
  queue_shown k v w x s (m ∷ ms) i there h g lw lx e old =
      let stands : VatStands script w v s = h.vats v s there in let p = vat_parts w v s stands in let mails = stands.kept.mails in let q : Vat Name = record s { queue = ms } in
      let all : AllOf (MessageOk (IsHad (names_in s.known) s.mails)) (m ∷ ms) = subst (λ z. AllOf (MessageOk (IsHad (names_in s.known) s.mails)) z) i p.queue in
      let parts : Parts (IsHad (names_in s.known) q.mails) q.things q.slots q.lists q.queue q.known q.gifts q.outbox = record { things = p.things; slots = p.slots; lists = p.lists; queue = all.1; known = p.known; gifts = p.gifts; outbox = p.outbox } in
      put_shown v w x s q there (lw.known v s there) lx g parts mails (Takes (world.tree_at script.vats v) script.depth m)
      (takes_alike word v (world.tree_at script.vats v) script.depth m (first (state_sure (names_in s.known) (lw.known v s there) w s mails p)))
      (Turned k v ∷ []) (world.step_number script k) e old (λ d. refl, tt)
    where
      first : maps.vat marked (readied w s) ≡ maps.vat sure (readied w s) → maps.message marked m ≡ maps.message sure m
      first f = (heads (maps.message marked m) (maps.message sure m) (map (maps.message marked) ms) (map (maps.message sure) ms)
          (ap (λ zs. map (maps.message marked) zs) (sym i) ∙ ap (λ (z : Vat Marked). z.queue) f ∙ ap (λ zs. map (maps.message sure) zs) i)).0

  turn_shown : (k v : ℕ) (w x : World) (o : Option (Vat Name)) → slice_get w.vats v ≡ o → Stands script w → Stands script x → Low w → Low x → world.turn script k v w o ≡ Going x → AllSame w → AllSame x
  unfolding world.turn
  turn_shown k v w x None i h g lw lx e old = idle_shown k w x e old
  turn_shown k v w x (Some s) i h g lw lx e old = queue_shown k v w x s s.queue refl i h g lw lx e old

  arrives_shown : (k v u : ℕ) (w x : World) (ls : List Link) (n : Note Name) (o : Option (Vat Name)) → slice_get w.vats u ≡ o → NoteOk LowBit n → Stands script w → Stands script x → Low w → Low x → world.arrives script k v u (record w { links = ls }) n o ≡ Going x → AllSame w → AllSame x
  unfolding world.arrives world.within world.names does readied marks.shown_event shown_event spelled_event
  arrives_shown k v u w x ls n None i made h g lw lx e old = idle_shown k (record w { links = ls }) x e old
  arrives_shown k v u w x ls n (Some s) i made h g lw lx e old = let stands : VatStands script w u s = h.vats u s i in let z : World = record w { links = ls } in
      put_shown u z x s s i (lw.known u s i) lx g (vat_parts w u s stands) stands.kept.mails (Receives v (read_note (names_of s) n)) (receives_alike word u v (read_note (names_of s) n) (note_read (names_of s) n made))
      (Carried k v u n (world.next_frame v u w.connections) ∷ []) (world.step_number script k) e old (carried_same k v u n (world.next_frame v u w.connections) made, tt)

  notes_shown : (k v u : ℕ) (w x : World) (ns : List (Note Name)) → AllOf (λ (n : Note Name). NoteOk LowBit n) ns → Stands script w → Stands script x → Low w → Low x → world.carry_notes script k v u w ns ≡ Going x → AllSame w → AllSame x
  unfolding world.carry_notes
  notes_shown k v u w x [] made h g lw lx e old = idle_shown k w x e old
  notes_shown k v u w x (n ∷ ns) made h g lw lx e old = arrives_shown k v u w x (world.with_link (world.with_notes ns) v u w.links) n (slice_get w.vats u) refl made.0 h g lw lx e old

  uncut_shown : (k v u : ℕ) (w x : World) (l : Link) (b : Bool) → AllOf (λ (n : Note Name). NoteOk LowBit n) l.notes → Stands script w → Stands script x → Low w → Low x → elim b [ true ↦ world.idle script k w | false ↦ world.carry_notes script k v u w l.notes ] ≡ Going x → AllSame w → AllSame x
  uncut_shown k v u w x l true made h g lw lx e old = idle_shown k w x e old
  uncut_shown k v u w x l false made h g lw lx e old = notes_shown k v u w x l.notes made h g lw lx e old

  link_shown : (k v u : ℕ) (w x : World) (o : Option Link) → MayBe (λ (l : Link). AllOf (λ (n : Note Name). NoteOk LowBit n) l.notes) o → Stands script w → Stands script x → Low w → Low x → world.carry_link script k v u w o ≡ Going x → AllSame w → AllSame x
  unfolding world.carry_link
  link_shown k v u w x None made h g lw lx e old = idle_shown k w x e old
  link_shown k v u w x (Some l) made h g lw lx e old = uncut_shown k v u w x l l.cut made h g lw lx e old

  lost_by_shown : (ns : List (Note Name)) → AllOf IsSame (world.lost_by script ns)
  unfolding world.lost_by
  lost_by_shown [] = tt
  lost_by_shown (Deliver m n verb ys ∷ ns) = (lost_same m.message, lost_by_shown ns)
  lost_by_shown (Open i n ∷ ns) = lost_by_shown ns
  lost_by_shown (Ask p i n ∷ ns) = lost_by_shown ns
  lost_by_shown (SettledTo n y ∷ ns) = lost_by_shown ns
  lost_by_shown (Elsewhere n c ∷ ns) = lost_by_shown ns
  lost_by_shown (Shorten n c i ∷ ns) = lost_by_shown ns

  lost_on_shown : (o : Option Link) → AllOf IsSame (world.lost_on script o)
  unfolding world.lost_on
  lost_on_shown None = tt
  lost_on_shown (Some l) = lost_by_shown l.notes

  cut_shown : (k v u : ℕ) (w x : World) → world.cut script k v u w ≡ Going x → AllSame w → AllSame x
  unfolding world.cut marks.shown_event shown_event spelled_event
  cut_shown k v u w x e old = subst (λ y. AllSame y) (is _ x e)
      (all_append IsSame w.history _ old (λ d. refl, all_append IsSame (world.lost_on script (world.link_at v u w.links)) (world.lost_on script (world.link_at u v w.links)) (lost_on_shown (world.link_at v u w.links)) (lost_on_shown (world.link_at u v w.links))))
    where
      is : (z x : World) → Going z ≡ Going x → z ≡ x
      is z x f = cc

  notice_shown : (k v u : ℕ) (w x : World) (o : Option (Vat Name)) → slice_get w.vats v ≡ o → Stands script w → Stands script x → Low w → Low x → world.within v w (NoticedAt k v u ∷ []) (world.step_number script k) (notice (world.names script v) u) o ≡ Going x → AllSame w → AllSame x
  unfolding world.within world.names does readied marks.shown_event shown_event spelled_event
  notice_shown k v u w x None i h g lw lx e old = cc
  notice_shown k v u w x (Some s) i h g lw lx e old = let stands : VatStands script w v s = h.vats v s i in
      put_shown v w x s s i (lw.known v s i) lx g (vat_parts w v s stands) stands.kept.mails (Notices u) (notices_alike word v u) (NoticedAt k v u ∷ []) (world.step_number script k) e old (λ d. refl, tt)

  pub step_shown : (entry : Entry) (k : ℕ) (w x : World) → Stands script w → Stands script x → Low w → Low x → world.step script entry k w ≡ Going x → AllSame w → AllSame x
  unfolding world.step
  step_shown (Turn v) k w x h g lw lx e old = turn_shown k v w x (slice_get w.vats v) refl h g lw lx e old
  step_shown (Carry v u) k w x h g lw lx e old = link_shown k v u w x (world.link_at v u w.links) (link_holds (λ n. NoteOk LowBit n) v u w.links lw.notes) h g lw lx e old
  step_shown (CutLink v u) k w x h g lw lx e old = cut_shown k v u w x e old
  step_shown (NoticeLink v u) k w x h g lw lx e old = notice_shown k v u w x (slice_get w.vats v) refl h g lw lx e old

  pub open_shown : (v : ℕ) (p : Program) (w x : World) (o : Option (Vat Name)) → slice_get w.vats v ≡ o → Stands script w → Stands script x → Low w → Low x
      → world.within v w (Opens v ∷ []) v (opening (world.names script v) p.tree script.depth (Root v) (world.given script.vats p.knows)) o ≡ Going x → AllSame w → AllSame x
  unfolding world.within world.names does readied marks.shown_event shown_event spelled_event
  open_shown v p w x None i h g lw lx e old = cc
  open_shown v p w x (Some s) i h g lw lx e old = let stands : VatStands script w v s = h.vats v s i in let gave = world.given script.vats p.knows in
      put_shown v w x s s i (lw.known v s i) lx g (vat_parts w v s stands) stands.kept.mails (Starts p.tree script.depth (Root v) gave) (opens_alike word v p.tree script.depth gave (given_sure script.vats p.knows)) (Opens v ∷ []) v e old (λ d. refl, tt)
