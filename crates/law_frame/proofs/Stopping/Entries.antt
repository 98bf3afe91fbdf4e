-- Where an entry stops a run, the vat whose step it is stops by its own numbers, and every other vat takes no step.
use Rattle.std.proofs.Common.{◌≡◌, ℕ, zero, ◌+◌, ◌≤◌, Bool, true, false, List, [], ◌∷◌, Option, Some, None, refl, sym, ap, subst, ◌∙◌, length, map, arith, ◌==◌}
use Rattle.std.specs.Prelude.{slice_get}
use Rattle.std.proofs.lemmas.Bool.{eqb-true, eq-eqb}
use Rattle.def_machine.specs.Values.{Name, Local, naming, numbering}
use Rattle.def_machine.specs.State.{Message, Note, Vat, Stop, Done, Gives, Stops, Act}
use Rattle.def_machine.specs.Arrive as arrive
use Rattle.def_machine.specs.Arrive.{Incoming}
use Rattle.def_machine.specs.Eval.{taking}
use Rattle.law_machine.specs.Machine.Steps.{Step, Takes, Receives, Notices, IsQuiet, does}
use Rattle.law_machine.specs.Machine.Laws.{SameNames, SameMails}
use Rattle.law_machine.proofs.Machine.StepLaws.{names_stays, mails_stays}
use Rattle.law_machine.proofs.Machine.StepEnds.{step_ends}
use Rattle.def_run.specs.Draws.{draw_word}
use Rattle.def_run.specs.World as world
use Rattle.def_run.specs.World.{Script, Entry, Turn, Carry, CutLink, NoticeLink, Event, Turned, Carried, NoticedAt, Link, World, Goes as Going, Stopped, readied, names_of, read_note, link_at}
use Rattle.law_fate.specs.Name.Names.{AllOf, IsEventual, IsMessageName, IsMade, NoteOk, names_in}
use Rattle.law_fate.specs.Name.Runs.{KnowsOnce}
use Rattle.law_fate.proofs.Name.Facts.{MayBe, note_up}
use Rattle.law_fate.proofs.Name.Laws.{names_apart, notes_made}
use Rattle.law_fate.proofs.Name.Run.{link_holds}
use Rattle.def_machine.specs.Maps as maps
use Rattle.def_machine.specs.Maps.{incoming}
use Rattle.law_machine.specs.Renamed.Renaming.{Wire as Wired, EndsWith}
use Rattle.law_machine.specs.Renamed.Stands.{Found, Is, Table, IsTable, StandsFor, found}
use Rattle.law_machine.proofs.Renamed.Steps.{turns_stand, notices_stand, arrivals_stand}
use Rattle.law_reference.specs.Reference.Cuts.{NoticesFollowCuts}
use Rattle.law_reference.specs.Reference.Knowing.{claims, brought}
use Rattle.law_reference.specs.Reference.NameTableRuns.{allowed, brings_here, BringsNew}
use Rattle.law_reference.specs.Reference.Tables.{table_of}
use Rattle.law_reference.proofs.Reference.Bounds.{Bounded}
use Rattle.law_reference.proofs.Reference.KnownRuns.{steps_hold, opens_hold, begins_bounded}
use Rattle.law_reference.proofs.Reference.NameTableLaws.{exports_are_distinct}
use Rattle.law_reference.proofs.Reference.NameTableSteps.{steps_know_once}
use Rattle.law_reference.proofs.Reference.OwnTargets.{news_after}
use Rattle.law_reference.proofs.Reference.LegRuns.{self_none}
use Rattle.law_reference.proofs.Reference.LegMoves.{stepped_before}
use Rattle.law_reference.proofs.Reference.ApartWhole.{bring_new}
use Rattle.law_frame.specs.Frame.Hearing.{Heard}
use Rattle.law_frame.specs.Frame.Alike.{names_heard, as_told, wire_name}
use Rattle.law_frame.specs.Frame.AlikeArrivals.{frame_heard, table_across}
use Rattle.law_frame.specs.Frame.Steps.{OwnStep, where_own, turn_by_numbers, arrival_by_numbers, note_by_numbers, link_by_numbers, entry_by_numbers}
use Rattle.law_frame.proofs.Frame.Ranks.{Starts}
use Rattle.law_frame.proofs.Frame.Learning.{Begins, note_begins}
use Rattle.law_frame.proofs.Frame.Reading.{NoteAlike}
use Rattle.law_frame.proofs.Frame.Worlds.{asked_stands, asked_for}
use Rattle.law_frame.proofs.Frame.AlikeLaws.{note_read}
use Rattle.law_frame.proofs.Frame.AlikeArrivals.{told_note, told_arrives}
use Rattle.law_frame.proofs.Frame.Notes.{brings}
use Rattle.law_frame.proofs.Frame.Own.{stands_on}
use Rattle.law_frame.proofs.Frame.Entries.{queue_is, queue_stands, heads, first_none}
use Rattle.law_frame.proofs.Frame.States.{states_have_numbers}
use Rattle.law_frame.specs.Stopping.Stops.{StopsWhere, StopsByNumbers, StopsAreTakenInNumbers}
use Rattle.law_frame.proofs.Stopping.Parted.{takes, notices}
use Rattle.law_frame.proofs.Stopping.Learnt.{IsOfKind, kind_made, arrives}
use Rattle.law_frame.proofs.Stopping.Tables.{Exported, after_stops, left_bounded, left_once, left_table}

-- ---- outcomes that stop

pub stops_in : (f : Local → Found) (d : Done Local (Unit {0})) (c : Stop) (z : Vat Found) → maps.done f (λ a. a) d ≡ Stops c z → (p : Vat Local) × (d ≡ Stops c p)
stops_in f (Stops b p) c z e = let same : b ≡ c = cc in (p, ap (λ i. Stops i p) same)
stops_in f other c z e = cc

pub stop_ends : (t : Table) (r : Vat Name) (c : Stop) (d : Done Name (Unit {0})) → d ≡ Stops c r → names_in r.known ≡ t.names → r.mails ≡ t.mails → EndsWith t d
stop_ends t r c d e f g = subst (λ z. EndsWith t z) (sym e) (f, g)

pub put_stops : (script : Script) (u : ℕ) (w y : World) (head : List Event) (k n : ℕ) (c : Stop) (d : Done Name (Unit {0})) → IsQuiet d → world.put_back u w head k d ≡ Stopped c n y → (r : Vat Name) × (d ≡ Stops c r)
unfolding world.put_back
put_stops script u w y head k n c (Gives a t) h e = cc
put_stops script u w y head k n c (Stops b t) h e = let same : b ≡ c = cc in (t, ap (λ i. Stops i t) same)
put_stops script u w y head k n c other h e = absurd h

pub idle_goes : (script : Script) (k n : ℕ) (c : Stop) (x y : World) → world.idle script k x ≡ Stopped c n y → ⊥
unfolding world.idle
idle_goes script k n c x y e = cc

-- what was heard arrives
heard_stops : (script : Script) (v : ℕ) (q : Vat Local) (c : Stop) (o : Option (Heard (Note (Incoming Local Wired)))) (h : Heard (Note (Incoming Local Wired))) (p : Vat Local) → o ≡ Some h → arrive.arrive (numbering (draw_word script.key)) v h.read q ≡ Stops c p → arrival_by_numbers script v q o ≡ Some (Stops c p)
unfolding arrival_by_numbers
heard_stops script v q c o h p e f = rw e (ap Some f)

-- where the vat is the one of the step
own_is : (b : Bool) (d : OwnStep) → b ≡ true → ◌≡◌ {A = OwnStep} (elim b [ true ↦ d | false ↦ None ]) d
own_is true d e = refl
own_is false d e = cc

own_none : (b : Bool) (d : OwnStep) → b ≡ false → ◌≡◌ {A = OwnStep} (elim b [ true ↦ d | false ↦ None ]) None
own_none true d e = cc
own_none false d e = refl

no_true : (b : Bool) → (b ≡ true → ⊥) → b ≡ false
no_true true f = absurd (f refl)
no_true false f = refl

pub own_stops : (v u : ℕ) (c : Stop) (d : OwnStep) → (v ≡ u → (p : Vat Local) × (d ≡ Some (Stops c p))) → StopsWhere (v ≡ u) c (where_own v u d)
unfolding where_own
own_stops v u c d f = (λ i. let a = f i in (a.0, own_is (v == u) d (eq-eqb v u i) ∙ a.1), λ o. own_none (v == u) d (no_true (v == u) (λ e. o (eqb-true v u e))))

-- ---- vat u in world x

-- as it is found in runs
pub record SoundIn (x : World) (u : ℕ) (s : Vat Name) : Type 0 where
  pub bounded : Bounded x.drawn u s
  pub kinds : AllOf IsEventual (names_in s.known) × AllOf IsMessageName s.mails
  pub exports : Exported x u

fits_by : (c a b : ℕ) → c ≤ a → a ≡ b → c + 0 ≤ b
fits_by c a b h e = omega arith

-- where nothing comes
pub fits : (x : World) (u : ℕ) (s : Vat Name) (ms : List (Message Name)) → Bounded x.drawn u s → (z : Name) → claims u z (readied x (record s { queue = ms })).known + 0 ≤ allowed u z (readied x (record s { queue = ms })) (readied x (record s { queue = ms })).drawn
unfolding readied allowed
fits x u s ms b z = fits_by (claims u z s.known) (allowed u z s x.drawn) (allowed u z s x.drawn) (b.1 z) refl

module _ (word : ℕ → ℕ) (x : World) (u : ℕ) (s : Vat Name) (is : SoundIn x u s) (q : Vat Local) (stands : StandsFor u (table_of x u s) q (readied x s)) (c : Stop) (r : Vat Name) where
  abbrev F : Local → Found
  F = found u (table_across x u r)

  -- what the step began with knows no more than what it leaves
  pub still : (t : Vat Name) (what : Step Name Name) → does (naming word u) what t ≡ Stops c r → t.known ≡ s.known → t.mails ≡ s.mails → StandsFor u (table_across x u r) q (readied x s)
  still t what e i j = stands_on x u s (readied x s) r q
      (subst (λ ks. (k : ℕ) (n : _) → slice_get ks k ≡ Some n → (m : _) × (slice_get r.known k ≡ Some m) × (m.name ≡ n.name) × (m.host ≡ n.host)) i (after_stops SameNames t r c (does (naming word u) what t) e (names_stays (naming word u) what t)))
      (subst (λ ns. (k : ℕ) (n : Name) → slice_get ns k ≡ Some n → slice_get r.mails k ≡ Some n) j (after_stops SameMails t r c (does (naming word u) what t) e (mails_stays (naming word u) what t))) stands

  -- a turn
  took_stops : (tree : _) (depth : ℕ) (m : Message Name) (ms : List (Message Name)) (n : Message Local) (ns : List (Message Local)) → s.queue ≡ m ∷ ms → q.queue ≡ n ∷ ns → taking (naming word u) tree depth m (readied x (record s { queue = ms })) ≡ Stops c r
      → (p : Vat Local) × (taking (numbering {W = Wired} word) tree depth n (record q { queue = ns }) ≡ Stops c p)
  unfolding does readied table_across brought
  took_stops tree depth m ms n ns i j outcome = let t : Vat Name = readied x (record s { queue = ms }) in let what : Step Name Name = Takes tree depth m in
      let b = left_bounded word u what t r c outcome (λ z. 0) (λ z. steps_know_once word u what t z) is.bounded.0 (fits x u s ms is.bounded) in
      let table = left_table word u what t r c outcome x b ((takes word u tree depth m).after t) is.kinds is.exports in
      let first : StandsFor u (table_across x u r) q (readied x s) = still t what outcome refl refl in
      let same = heads (maps.message F n) (maps.message Is m) (map (maps.message F) ns) (map (maps.message Is) ms) (queue_is F q (readied x s) (n ∷ ns) (m ∷ ms) first j i) in
      stops_in F (taking (numbering {W = Wired} word) tree depth n (record q { queue = ns })) c (maps.vat Is r)
      (turns_stand word u (table_across x u r) table tree depth n m same.0 (record q { queue = ns }) t (queue_stands F q (readied x s) ns ms first same.1) (stop_ends (table_across x u r) r c (taking (naming word u) tree depth m t) outcome refl refl)
      ∙ ap (λ d. maps.done Is (λ a. a) d) outcome)

  -- a notice
  notice_stops : (v : ℕ) → arrive.notice (naming word u) v (readied x s) ≡ Stops c r → (p : Vat Local) × (arrive.notice (numbering {W = Wired} word) v q ≡ Stops c p)
  unfolding does readied table_across brought
  notice_stops v outcome = let t : Vat Name = readied x s in let what : Step Name Name = Notices v in
      let b = left_bounded word u what t r c outcome (λ z. 0) (λ z. steps_know_once word u what t z) is.bounded.0 (fits x u s s.queue is.bounded) in
      let table = left_table word u what t r c outcome x b ((notices word u v).after t) is.kinds is.exports in
      stops_in F (arrive.notice (numbering {W = Wired} word) v q) c (maps.vat Is r)
      (notices_stand word u (table_across x u r) table v q t (still t what outcome refl refl) (stop_ends (table_across x u r) r c (arrive.notice (naming word u) v t) outcome refl refl)
      ∙ ap (λ d. maps.done Is (λ a. a) d) outcome)

  -- the arrival of a note, which is read as it is heard
  module _ (v : ℕ) (n : Note Name) (outcome : arrive.arrive (naming word u) v (read_note (names_of s) n) (readied x s) ≡ Stops c r) (new : BringsNew x v u n s) where
    note_bounded : Bounded r.drawn u r
    unfolding does readied allowed
    note_bounded = let m = read_note (names_of s) n in left_bounded word u (Receives v m) (readied x s) r c outcome (λ z. brings_here u z v s.gifts m) (λ z. news_after u word z v m (readied x s) is.bounded.0 new) is.bounded.0 new

    pub note_starts : Starts (names_heard (names_in s.known) n) (names_in r.known)
    unfolding readied names_of does
    note_starts = subst (λ d. Begins word u (names_heard (names_in s.known) n) d) outcome (note_begins word u v (names_in s.known) n (readied x s) refl) (left_once word u (Receives v (read_note (names_of s) n)) (readied x s) r c outcome note_bounded)

    pub note_table : NoteOk IsOfKind n → IsTable u (table_across x u r)
    unfolding readied names_of does
    note_table kind = left_table word u (Receives v (read_note (names_of s) n)) (readied x s) r c outcome x note_bounded ((arrives word u v (names_in s.known) n kind).after (readied x s)) is.kinds is.exports

    pub note_stops : NoteOk IsOfKind n → (h : Note (Incoming Local Wired)) → maps.note (incoming F (wire_name x v u n)) h ≡ as_told v (maps.note (incoming Is (λ z. z)) (read_note (names_of s) n)) → (p : Vat Local) × (arrive.arrive (numbering word) v h q ≡ Stops c p)
    unfolding does readied table_across
    note_stops kind h read = let m = read_note (names_of s) n in let told = as_told v m in
        let ends : arrive.arrive (naming word u) v told (readied x s) ≡ Stops c r = ap (λ (f : Act Name (Unit {0})). f (readied x s)) (told_arrives (naming word u) v v m) ∙ outcome in
        stops_in F (arrive.arrive (numbering word) v h q) c (maps.vat Is r)
        (arrivals_stand word u (table_across x u r) (note_table kind) (wire_name x v u n) v h told (read ∙ told_note v m) q (readied x s) (still (readied x s) (Receives v m) outcome refl refl) (stop_ends (table_across x u r) r c (arrive.arrive (naming word u) v told (readied x s)) ends refl refl)
        ∙ ap (λ d. maps.done Is (λ a. a) d) ends)

-- ---- a run up to world x

module _ (script : Script) (once : KnowsOnce script) (w x : World) (es : List Entry) (k : ℕ) (follow : NoticesFollowCuts es) (opened : world.open_from script 0 script.vats (world.begins script) ≡ Going w) (stepped : world.steps_from script es k w ≡ Going x)
    (u : ℕ) (s : Vat Name) (there : slice_get x.vats u ≡ Some s) (q : Vat Local) (stands : StandsFor u (table_of x u s) q (readied x s)) (j n : ℕ) (c : Stop) (y : World) where
  abbrev word : ℕ → ℕ
  word = draw_word script.key

  pub is : SoundIn x u s
  is = record {
    bounded = steps_hold script es k w x (opens_hold script zero script.vats (world.begins script) w (begins_bounded script once) opened) (bring_new script once w es k follow opened) stepped u s there;
    kinds = (names_apart script once).1 w x es k opened stepped u s there;
    exports = (exports_are_distinct script).1 w x es k opened stepped u;
  }

  queue_stops : (ms : List (Message Name)) (ns : List (Message Local)) → s.queue ≡ ms → q.queue ≡ ns → world.turn_queue script j u x s ms ≡ Stopped c n y → (p : Vat Local) × (turn_by_numbers script u q ns ≡ Some (Stops c p))
  unfolding world.turn_queue world.within world.names turn_by_numbers readied does
  queue_stops [] ns a b e = absurd (idle_goes script j n c x y e)
  queue_stops (m ∷ ms) [] a b e = absurd (first_none (maps.message Is m) (map (maps.message Is) ms) (queue_is (found u (table_of x u s)) q (readied x s) [] (m ∷ ms) stands b a))
  queue_stops (m ∷ ms) (l ∷ ns) a b e = let tree = world.tree_at script.vats u in let t : Vat Name = readied x (record s { queue = ms }) in
      let o = put_stops script u x y (Turned j u ∷ []) (world.step_number script j) n c (taking (naming word u) tree script.depth m t) (step_ends (naming word u) (Takes tree script.depth m) t) e in
      let p = took_stops word x u s is q stands c o.0 tree script.depth m ms l ns a b o.1 in (p.0, ap Some p.1)

  pub turn_stops : (o : Option (Vat Name)) → o ≡ Some s → world.turn script j u x o ≡ Stopped c n y → (p : Vat Local) × (turn_by_numbers script u q q.queue ≡ Some (Stops c p))
  unfolding world.turn
  turn_stops None i e = absurd (idle_goes script j n c x y e)
  turn_stops (Some t) i e = let same : t ≡ s = cc in queue_stops s.queue q.queue refl refl (subst (λ z. world.turn_queue script j u x z z.queue ≡ Stopped c n y) same e)

  pub noticed_stops : (v : ℕ) (o : Option (Vat Name)) → o ≡ Some s → world.within u x (NoticedAt j u v ∷ []) (world.step_number script j) (arrive.notice (world.names script u) v) o ≡ Stopped c n y → (p : Vat Local) × (arrive.notice (numbering {W = Wired} word) v q ≡ Stops c p)
  unfolding world.within world.names does
  noticed_stops v None i e = cc
  noticed_stops v (Some t) i e = let same : t ≡ s = cc in let d = arrive.notice (naming word u) v (readied x s) in
      let o = put_stops script u x y (NoticedAt j u v ∷ []) (world.step_number script j) n c d (step_ends (naming word u) (Notices v) (readied x s)) (subst (λ z. world.put_back u x (NoticedAt j u v ∷ []) (world.step_number script j) (arrive.notice (naming word u) v (readied x z)) ≡ Stopped c n y) same e) in
      notice_stops word x u s is q stands c o.0 v o.1

  module _ (v : ℕ) (l : Link) (at : link_at v u x.links ≡ Some l) where
    -- no link leads from a vat to itself
    other : v ≡ u → ⊥
    other i = let b = stepped_before script once w x es k opened stepped in let counted = b.counted in let fated = counted.fated (Name.Sent (record { sender = 0; number = 0 })) in
        self_none x.links fated.apart u l (ap (λ z. link_at z u x.links) (sym i) ∙ at)

    abbrev Made : Note Name → Type 0
    Made m = NoteOk (IsMade x.vats x.drawn) m

    pub first_kind : (m : Note Name) (ns : List (Note Name)) → l.notes ≡ m ∷ ns → NoteOk IsOfKind m
    first_kind m ns head = note_up (IsMade x.vats x.drawn) IsOfKind (kind_made x.vats x.drawn) m
        (subst (λ ms. AllOf Made ms) head (subst (λ z. MayBe (λ (z : Link). AllOf Made z.notes) z) at (link_holds Made v u x.links ((notes_made script once).1 w x es k opened stepped)))).0

    arrived_stops : (m : Note Name) (ns : List (Note Name)) → l.cut ≡ false → l.notes ≡ m ∷ ns → (o : Option (Vat Name)) → o ≡ Some s → world.arrives script j v u (record x { links = world.with_link (world.with_notes ns) v u x.links }) m o ≡ Stopped c n y → (p : Vat Local) × (arrival_by_numbers script v q (frame_heard script x v u s m) ≡ Some (Stops c p))
    unfolding world.arrives world.within world.names readied does frame_heard table_across
    arrived_stops m ns uncut head None i e = absurd (none_some i)
      where
        none_some : None ≡ Some s → ⊥
        none_some f = cc
    arrived_stops m ns uncut head (Some t) i e = let same : t ≡ s = cc in let taken : World = record x { links = world.with_link (world.with_notes ns) v u x.links } in
        let line : List Event = Carried j v u m (world.next_frame v u taken.connections) ∷ [] in let note = read_note (names_of s) m in
        let o = put_stops script u taken y line (world.step_number script j) n c (arrive.arrive (naming word u) v note (readied x s)) (step_ends (naming word u) (Receives v note) (readied x s))
        (subst (λ z. world.put_back u taken line (world.step_number script j) (arrive.arrive (naming word u) v (read_note (names_of z) m) (readied x z)) ≡ Stopped c n y) same e) in
        let r = o.0 in let new = brings script once w x es k follow opened stepped v u s there l at m ns head in
        let a : NoteAlike script x v u s m (names_in r.known) r.mails other m = note_read script once w x es k follow opened stepped v u s there other l at uncut ns m head (names_in r.known) r.mails (note_starts word x u s is q stands c r v m o.1 new) (asked_stands x v u m s new)
        (asked_for script once w x es k follow opened stepped v u s there other l at uncut m ns head (bring_new script once w es k follow opened)) in
        let p = note_stops word x u s is q stands c r v m o.1 new (first_kind m ns head) a.0.read a.2 in
        (p.0, heard_stops script v q c (frame_heard script x v u s m) a.0 p.0 a.1 p.1)

    notes_stop : (ns : List (Note Name)) → l.cut ≡ false → l.notes ≡ ns → world.carry_notes script j v u x ns ≡ Stopped c n y → (p : Vat Local) × (note_by_numbers script x v u s q ns ≡ Some (Stops c p))
    unfolding world.carry_notes note_by_numbers
    notes_stop [] uncut head e = absurd (idle_goes script j n c x y e)
    notes_stop (m ∷ ns) uncut head e = arrived_stops m ns uncut head (slice_get x.vats u) there e

    cut_stops : (b : Bool) → l.cut ≡ b → elim b [ true ↦ world.idle script j x | false ↦ world.carry_notes script j v u x l.notes ] ≡ Stopped c n y → (p : Vat Local) × (◌≡◌ {A = OwnStep} (elim b [ true ↦ None | false ↦ note_by_numbers script x v u s q l.notes ]) (Some (Stops c p)))
    cut_stops true i e = absurd (idle_goes script j n c x y e)
    cut_stops false i e = notes_stop l.notes i refl e

  pub link_stops : (v : ℕ) (o : Option Link) → link_at v u x.links ≡ o → world.carry_link script j v u x o ≡ Stopped c n y → (p : Vat Local) × (link_by_numbers script x v u s q o ≡ Some (Stops c p))
  unfolding world.carry_link link_by_numbers
  link_stops v None at e = absurd (idle_goes script j n c x y e)
  link_stops v (Some l) at e = cut_stops v l at l.cut refl e

-- ---- every entry

pub entries_stop : StopsByNumbers
unfolding entry_by_numbers world.step
entries_stop script once w x y es (Turn v) k n c follow opened stepped stops u s there q stands = own_stops v u c (turn_by_numbers script u q q.queue)
    (λ i. turn_stops script once w x es k follow opened stepped u s there q stands (k + length es) n c y (slice_get x.vats u) there (subst (λ z. world.turn script (k + length es) z x (slice_get x.vats z) ≡ Stopped c n y) i stops))
entries_stop script once w x y es (Carry v t) k n c follow opened stepped stops u s there q stands = own_stops t u c (link_by_numbers script x v u s q (link_at v u x.links))
    (λ i. link_stops script once w x es k follow opened stepped u s there q stands (k + length es) n c y v (link_at v u x.links) refl (subst (λ z. world.carry_link script (k + length es) v z x (link_at v z x.links) ≡ Stopped c n y) i stops))
entries_stop script once w x y es (CutLink v t) k n c follow opened stepped stops u s there q stands = (λ i. absurd i, λ o. refl)
entries_stop script once w x y es (NoticeLink v t) k n c follow opened stepped stops u s there q stands = own_stops v u c (Some (arrive.notice (numbering {W = Wired} (draw_word script.key)) t q))
    (λ i. let p = noticed_stops script once w x es k follow opened stepped u s there q stands (k + length es) n c y t (slice_get x.vats u) there
    (subst (λ z. world.within z x (NoticedAt (k + length es) z t ∷ []) (world.step_number script (k + length es)) (arrive.notice (world.names script z) t) (slice_get x.vats z) ≡ Stopped c n y) i stops) in (p.0, ap Some p.1))

pub entries_stop_taken : StopsAreTakenInNumbers
entries_stop_taken script once knows w x y es e k n c follow opened stepped stops u s there = let b = states_have_numbers script once knows in
    entries_stop script once w x y es e k n c follow opened stepped stops u s there _ (b.1 w x es k opened stepped u s there)
