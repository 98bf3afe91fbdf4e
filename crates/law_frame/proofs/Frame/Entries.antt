-- What each entry makes of a vat in its own numbers.
use Rattle.std.proofs.Common.{◌≡◌, ℕ, ◌+◌, Bool, true, false, List, [], ◌∷◌, ◌++◌, Option, Some, None, refl, sym, ap, subst, ◌∙◌, length, map}
use Rattle.std.specs.Prelude.{slice_get}
use Rattle.def_machine.specs.Values.{Name, Local, naming, numbering}
use Rattle.def_machine.specs.State.{Message, Note, Vat, Gives}
use Rattle.def_machine.specs.Arrive as arrive
use Rattle.def_machine.specs.Arrive.{Incoming}
use Rattle.def_machine.specs.Eval.{taking}
use Rattle.law_machine.specs.Machine.Steps.{Step, Takes, Receives, Notices, does}
use Rattle.law_machine.specs.Machine.Laws.{SameNames, SameMails}
use Rattle.law_machine.proofs.Machine.StepLaws.{names_stays, mails_stays}
use Rattle.def_run.specs.Draws.{draw_word}
use Rattle.def_run.specs.World as world
use Rattle.def_run.specs.World.{Script, Entry, Turn, Carry, CutLink, NoticeLink, Turned, Idle, Carried, NoticedAt, Link, World, Goes as Going, readied, names_of, read_note, link_at, put_at}
use Rattle.law_fate.specs.Name.Runs.{KnowsOnce}
use Rattle.law_reference.specs.Reference.Cuts.{NoticesFollowCuts}
use Rattle.def_machine.specs.Maps as maps
use Rattle.law_machine.specs.Renamed.Renaming.{Wire as Wired}
use Rattle.law_machine.specs.Renamed.Stands.{Found, Is, IsTable, StandsFor, found}
use Rattle.law_machine.proofs.Renamed.Steps.{turns_stand, notices_stand}
use Rattle.law_reference.specs.Reference.Tables.{table_of}
use Rattle.law_reference.proofs.Reference.LegRuns.{self_none}
use Rattle.law_reference.proofs.Reference.LegMoves.{stepped_before}
use Rattle.law_reference.proofs.Reference.Moves.{steps_end}
use Rattle.law_reference.proofs.Reference.AskHolds.{notices_front}
use Rattle.law_reference.proofs.Reference.ApartWhole.{have_tables}
use Rattle.law_frame.specs.Frame.Hearing.{Heard}
use Rattle.law_frame.specs.Frame.AlikeArrivals.{frame_heard, table_across}
use Rattle.law_frame.proofs.Frame.AlikeArrivals.{put_given, carried, tables_join}
use Rattle.law_frame.specs.Frame.Steps.{turn_by_numbers, arrival_by_numbers, note_by_numbers, link_by_numbers, entry_by_numbers, EndsFor, EntriesByNumbersStand}
use Rattle.law_frame.proofs.Frame.Notes.{arrivals_stand}
use Rattle.law_frame.proofs.Frame.Own.{StayBut, stay_same, stay_put, state_same, state_put, ends_with, ends_for, own_ends, stands_on, after_gives}

-- ---- an entry changes one vat at most

module _ (script : Script) where
  going_is : (x y : World) → Going x ≡ Going y → y.vats ≡ x.vats
  going_is x y e = ap (λ (z : World). z.vats) (let same : y ≡ x = cc in same)

  idle_same : (k : ℕ) (x y : World) → world.idle script k x ≡ Going y → y.vats ≡ x.vats
  unfolding world.idle
  idle_same k x y e = going_is (record x { history = x.history ++ Idle k ∷ [] }) y e

  queue_stay : (k v : ℕ) (x y : World) (s : Vat Name) (ms : List (Message Name)) → world.turn_queue script k v x s ms ≡ Going y → StayBut v x y
  unfolding world.turn_queue world.within
  queue_stay k v x y s [] e = stay_same v x y (idle_same k x y e)
  queue_stay k v x y s (m ∷ ms) e = let p = put_given script v x y (Turned k v ∷ []) (world.step_number script k) (taking (world.names script v) (world.tree_at script.vats v) script.depth m (readied x (record s { queue = ms }))) e in stay_put v p.0 x y p.2

  turn_stay : (k v : ℕ) (x y : World) (o : Option (Vat Name)) → world.turn script k v x o ≡ Going y → StayBut v x y
  unfolding world.turn
  turn_stay k v x y None e = stay_same v x y (idle_same k x y e)
  turn_stay k v x y (Some s) e = queue_stay k v x y s s.queue e

  arrives_stay : (k a v : ℕ) (x y taken : World) (n : Note Name) (o : Option (Vat Name)) → taken.vats ≡ x.vats → world.arrives script k a v taken n o ≡ Going y → StayBut v x y
  unfolding world.arrives world.within
  arrives_stay k a v x y taken n None i e = stay_same v x y (idle_same k taken y e ∙ i)
  arrives_stay k a v x y taken n (Some s) i e = let p = put_given script v taken y (Carried k a v n (world.next_frame a v taken.connections) ∷ []) (world.step_number script k) (arrive.arrive (world.names script v) a (read_note (names_of s) n) (readied taken s)) e in stay_put v p.0 x y (p.2 ∙ ap (put_at v p.0) i)

  notes_stay : (k a v : ℕ) (x y : World) (ns : List (Note Name)) → world.carry_notes script k a v x ns ≡ Going y → StayBut v x y
  unfolding world.carry_notes
  notes_stay k a v x y [] e = stay_same v x y (idle_same k x y e)
  notes_stay k a v x y (n ∷ ns) e = arrives_stay k a v x y (record x { links = world.with_link (world.with_notes ns) a v x.links }) n (slice_get x.vats v) refl e

  cut_stay : (k a v : ℕ) (x y : World) (ns : List (Note Name)) (b : Bool) → elim b [ true ↦ world.idle script k x | false ↦ world.carry_notes script k a v x ns ] ≡ Going y → StayBut v x y
  cut_stay k a v x y ns true e = stay_same v x y (idle_same k x y e)
  cut_stay k a v x y ns false e = notes_stay k a v x y ns e

  link_stay : (k a v : ℕ) (x y : World) (o : Option Link) → world.carry_link script k a v x o ≡ Going y → StayBut v x y
  unfolding world.carry_link
  link_stay k a v x y None e = stay_same v x y (idle_same k x y e)
  link_stay k a v x y (Some l) e = cut_stay k a v x y l.notes l.cut e

  notice_stay : (k v c : ℕ) (x y : World) (o : Option (Vat Name)) → world.within v x (NoticedAt k v c ∷ []) (world.step_number script k) (arrive.notice (world.names script v) c) o ≡ Going y → StayBut v x y
  unfolding world.within
  notice_stay k v c x y None e = cc
  notice_stay k v c x y (Some s) e = let p = put_given script v x y (NoticedAt k v c ∷ []) (world.step_number script k) (arrive.notice (world.names script v) c (readied x s)) e in stay_put v p.0 x y p.2

-- ---- the queue in numbers

pub queue_is : (f : Local → Found) (q : Vat Local) (s : Vat Name) (qs : List (Message Local)) (ms : List (Message Name)) → maps.vat f q ≡ maps.vat Is s → q.queue ≡ qs → s.queue ≡ ms → map (maps.message f) qs ≡ map (maps.message Is) ms
queue_is f q s qs ms e i j = sym (ap (map (maps.message f)) i) ∙ ap (λ (z : Vat Found). z.queue) e ∙ ap (map (maps.message Is)) j

pub queue_stands : (f : Local → Found) (q : Vat Local) (s : Vat Name) (qs : List (Message Local)) (ms : List (Message Name)) → maps.vat f q ≡ maps.vat Is s → map (maps.message f) qs ≡ map (maps.message Is) ms → maps.vat f (record q { queue = qs }) ≡ maps.vat Is (record s { queue = ms })
queue_stands f q s qs ms e i = ap (λ (z : Vat Found). record z { queue = map (maps.message f) qs }) e ∙ ap (λ (xs : List (Message Found)). record (maps.vat Is s) { queue = xs }) i

pub none_first : {A : Type 0} (a : A) (xs : List A) → ◌≡◌ {A = List A} (a ∷ xs) [] → ⊥
none_first a xs e = cc

pub first_none : {A : Type 0} (a : A) (xs : List A) → ◌≡◌ {A = List A} [] (a ∷ xs) → ⊥
first_none a xs e = cc

pub heads : {A : Type 0} (a b : A) (xs ys : List A) → ◌≡◌ {A = List A} (a ∷ xs) (b ∷ ys) → (a ≡ b) × (xs ≡ ys)
heads a b xs ys e = let i : a ≡ b = cc in let j : xs ≡ ys = cc in (i, j)

-- ---- a step of vat u, whose state is s in world x and r in world y

module _ (script : Script) (x y : World) (u : ℕ) (s r : Vat Name) (there : slice_get x.vats u ≡ Some s) (after : slice_get y.vats u ≡ Some r) (table : IsTable u (table_across x u r)) (q : Vat Local) (stands : StandsFor u (table_of x u s) q (readied x s)) where
  abbrev F : Local → Found
  F = found u (table_across x u r)

  abbrev word : ℕ → ℕ
  word = draw_word script.key

  stays : y.vats ≡ x.vats → r ≡ s
  stays e = state_same x y u s r there after (ap (λ us. slice_get us u) e)

  -- what the vat was readied as knows no less than s
  begun : (t : Vat Name) (what : Step Name Name) → does (naming word u) what t ≡ Gives tt r → t.known ≡ s.known → t.mails ≡ s.mails → StandsFor u (table_across x u r) q (readied x s)
  begun t what e i j = stands_on x u s (readied x s) r q (subst (λ ks. (k : ℕ) (n : _) → slice_get ks k ≡ Some n → (m : _) × (slice_get r.known k ≡ Some m) × (m.name ≡ n.name) × (m.host ≡ n.host)) i (after_gives SameNames t r (does (naming word u) what t) e (names_stays (naming word u) what t)))
      (subst (λ ns. (k : ℕ) (n : Name) → slice_get ns k ≡ Some n → slice_get r.mails k ≡ Some n) j (after_gives SameMails t r (does (naming word u) what t) e (mails_stays (naming word u) what t))) stands

  -- ---- a turn

  took : (k : ℕ) (m : Message Name) (ms : List (Message Name)) (n : Message Local) (ns : List (Message Local)) → s.queue ≡ m ∷ ms → q.queue ≡ n ∷ ns → (t : Vat Name) × (taking (naming word u) (world.tree_at script.vats u) script.depth m (readied x (record s { queue = ms })) ≡ Gives tt t) × (y.vats ≡ put_at u t x.vats)
      → EndsFor x u s r (Some (taking (numbering {W = Wired} word) (world.tree_at script.vats u) script.depth n (record q { queue = ns })))
  unfolding does readied table_across
  took k m ms n ns i j p = let tree = world.tree_at script.vats u in
      let outcome : taking (naming word u) tree script.depth m (readied x (record s { queue = ms })) ≡ Gives tt r = p.1 ∙ ap (λ z. Gives tt z) (state_put x y u s r p.0 there after p.2) in
      let first : StandsFor u (table_across x u r) q (readied x s) = begun (readied x (record s { queue = ms })) (Takes tree script.depth m) outcome refl refl in
      let same = heads (maps.message F n) (maps.message Is m) (map (maps.message F) ns) (map (maps.message Is) ms) (queue_is F q (readied x s) (n ∷ ns) (m ∷ ms) first j i) in
      ends_for x u s r (taking (numbering {W = Wired} word) tree script.depth n (record q { queue = ns }))
      (turns_stand word u (table_across x u r) table tree script.depth n m same.0 (record q { queue = ns }) (readied x (record s { queue = ms })) (queue_stands F q (readied x s) ns ms first same.1) (ends_with (table_across x u r) r (taking (naming word u) tree script.depth m (readied x (record s { queue = ms }))) outcome refl refl)
      ∙ ap (λ d. maps.done Is (λ a. a) d) outcome)

  queue_ends : (k : ℕ) (ms : List (Message Name)) (ns : List (Message Local)) → s.queue ≡ ms → q.queue ≡ ns → world.turn_queue script k u x s ms ≡ Going y → EndsFor x u s r (turn_by_numbers script u q ns)
  unfolding world.turn_queue world.within turn_by_numbers world.names readied
  queue_ends k [] [] i j e = stays (idle_same script k x y e)
  queue_ends k [] (n ∷ ns) i j e = absurd (none_first (maps.message (found u (table_of x u s)) n) (map (maps.message (found u (table_of x u s))) ns) (queue_is (found u (table_of x u s)) q (readied x s) (n ∷ ns) [] stands j i))
  queue_ends k (m ∷ ms) [] i j e = absurd (first_none (maps.message Is m) (map (maps.message Is) ms) (queue_is (found u (table_of x u s)) q (readied x s) [] (m ∷ ms) stands j i))
  queue_ends k (m ∷ ms) (n ∷ ns) i j e = took k m ms n ns i j (put_given script u x y (Turned k u ∷ []) (world.step_number script k) (taking (naming word u) (world.tree_at script.vats u) script.depth m (readied x (record s { queue = ms }))) e)

  turn_ends : (k : ℕ) (o : Option (Vat Name)) → o ≡ Some s → world.turn script k u x o ≡ Going y → EndsFor x u s r (turn_by_numbers script u q q.queue)
  unfolding world.turn
  turn_ends k (Some t) i e = let same : t ≡ s = cc in queue_ends k s.queue q.queue refl refl (subst (λ z. world.turn_queue script k u x z z.queue ≡ Going y) same e)
  turn_ends k None i e = cc

  -- ---- a notice

  noticed : (c : ℕ) → (t : Vat Name) × (arrive.notice (naming word u) c (readied x s) ≡ Gives tt t) × (y.vats ≡ put_at u t x.vats) → EndsFor x u s r (Some (arrive.notice (numbering {W = Wired} word) c q))
  unfolding does readied table_across
  noticed c p =
      let outcome : arrive.notice (naming word u) c (readied x s) ≡ Gives tt r = p.1 ∙ ap (λ z. Gives tt z) (state_put x y u s r p.0 there after p.2) in
      ends_for x u s r (arrive.notice (numbering {W = Wired} word) c q)
      (notices_stand word u (table_across x u r) table c q (readied x s) (begun (readied x s) (Notices c) outcome refl refl) (ends_with (table_across x u r) r (arrive.notice (naming word u) c (readied x s)) outcome refl refl)
      ∙ ap (λ d. maps.done Is (λ a. a) d) outcome)

  notice_ends : (k c : ℕ) (o : Option (Vat Name)) → o ≡ Some s → world.within u x (NoticedAt k u c ∷ []) (world.step_number script k) (arrive.notice (world.names script u) c) o ≡ Going y → EndsFor x u s r (Some (arrive.notice (numbering {W = Wired} word) c q))
  unfolding world.within world.names
  notice_ends k c (Some t) i e = let same : t ≡ s = cc in noticed c (put_given script u x y (NoticedAt k u c ∷ []) (world.step_number script k) (arrive.notice (naming word u) c (readied x s)) (subst (λ z. world.put_back u x (NoticedAt k u c ∷ []) (world.step_number script k) (arrive.notice (naming word u) c (readied x z)) ≡ Going y) same e))
  notice_ends k c None i e = cc

  -- ---- a note

  abbrev Hears : ℕ → Note Name → Type 0
  Hears v n = (h : Heard (Note (Incoming Local Wired))) × (frame_heard script x v u s n ≡ Some h) × ((q : Vat Local) → StandsFor u (table_across x u r) q (readied x s) → maps.done F (λ a. a) (arrive.arrive (numbering word) v h.read q) ≡ Gives tt (maps.vat Is r))

  heard : (v : ℕ) (n : Note Name) → Hears v n → StandsFor u (table_across x u r) q (readied x s) → EndsFor x u s r (arrival_by_numbers script v q (frame_heard script x v u s n))
  unfolding arrival_by_numbers
  heard v n h first = subst (λ o. EndsFor x u s r (arrival_by_numbers script v q o)) (sym h.1) (ends_for x u s r (arrive.arrive (numbering word) v h.0.read q) (h.2 q first))

  module _ (k v : ℕ) (steps : world.step script (Carry v u) k x ≡ Going y) where
    note_ends : (l : Link) → link_at v u x.links ≡ Some l → l.cut ≡ false → ((n : Note Name) (ns : List (Note Name)) → l.notes ≡ n ∷ ns → Hears v n) → (ns : List (Note Name)) → l.notes ≡ ns → world.carry_notes script k v u x ns ≡ Going y → EndsFor x u s r (note_by_numbers script x v u s q ns)
    unfolding world.carry_notes note_by_numbers does readied
    note_ends l at uncut hears [] i e = stays (idle_same script k x y e)
    note_ends l at uncut hears (n ∷ ns) i e = let p = carried script k v u x l n ns s y at uncut i there steps in
        let outcome : arrive.arrive (naming word u) v (read_note (names_of s) n) (readied x s) ≡ Gives tt r = p.1 ∙ ap (λ z. Gives tt z) (state_put x y u s r p.0 there after p.2) in
        heard v n (hears n ns i) (begun (readied x s) (Receives v (read_note (names_of s) n)) outcome refl refl)

    cut_ends : (l : Link) → link_at v u x.links ≡ Some l → (l.cut ≡ false → (n : Note Name) (ns : List (Note Name)) → l.notes ≡ n ∷ ns → Hears v n) → (b : Bool) → l.cut ≡ b → elim b [ true ↦ world.idle script k x | false ↦ world.carry_notes script k v u x l.notes ] ≡ Going y
        → EndsFor x u s r (elim b [ true ↦ None | false ↦ note_by_numbers script x v u s q l.notes ])
    cut_ends l at hears true c e = stays (idle_same script k x y e)
    cut_ends l at hears false c e = note_ends l at c (hears c) l.notes refl e

    link_ends : (o : Option Link) → link_at v u x.links ≡ o → ((l : Link) → link_at v u x.links ≡ Some l → l.cut ≡ false → (n : Note Name) (ns : List (Note Name)) → l.notes ≡ n ∷ ns → Hears v n) → world.carry_link script k v u x o ≡ Going y → EndsFor x u s r (link_by_numbers script x v u s q o)
    unfolding world.carry_link link_by_numbers
    link_ends None at hears e = stays (idle_same script k x y e)
    link_ends (Some l) at hears e = cut_ends l at (hears l at) l.cut refl e

-- ---- every entry

module _ (script : Script) (once : KnowsOnce script) (w x y : World) (es : List Entry) (e : Entry) (k : ℕ) (follow : NoticesFollowCuts (es ++ e ∷ [])) (opened : world.open_from script 0 script.vats (world.begins script) ≡ Going w) (stepped : world.steps_from script es k w ≡ Going x) (steps : world.step script e (k + length es) x ≡ Going y)
    (u : ℕ) (s r : Vat Name) (there : slice_get x.vats u ≡ Some s) (after : slice_get y.vats u ≡ Some r) where
  followed : NoticesFollowCuts es
  followed = notices_front script [] es (e ∷ []) follow

  is_table : IsTable u (table_across x u r)
  is_table = tables_join x y u s r ((have_tables script once).1 w x es k followed opened stepped u s there) ((have_tables script once).1 w y (es ++ e ∷ []) k follow opened (steps_end script es e k w x y stepped steps) u r after)

  -- no link leads from a vat to itself
  other : (v : ℕ) (l : Link) → link_at v u x.links ≡ Some l → v ≡ u → ⊥
  other v l at i = let b = stepped_before script once w x es k opened stepped in let counted = b.counted in let fated = counted.fated (Name.Sent (record { sender = 0; number = 0 })) in
      self_none x.links fated.apart u l (ap (λ z. link_at z u x.links) (sym i) ∙ at)

pub entries_stand : EntriesByNumbersStand
unfolding entry_by_numbers world.step world.cut
entries_stand script once w x y es (Turn v) k follow opened stepped steps u s r there after q stands =
    own_ends x v u s r (turn_by_numbers script u q q.queue)
    (λ i. turn_ends script x y u s r there after (is_table script once w x y es (Turn v) k follow opened stepped steps u s r there after) q stands (k + length es) (slice_get x.vats u) there (subst (λ z. world.turn script (k + length es) z x (slice_get x.vats z) ≡ Going y) i steps))
    (λ o. state_same x y u s r there after (turn_stay script (k + length es) v x y (slice_get x.vats v) steps u o))
entries_stand script once w x y es (Carry v t) k follow opened stepped steps u s r there after q stands =
    own_ends x t u s r (link_by_numbers script x v u s q (link_at v u x.links))
    (λ i. let here : world.step script (Carry v u) (k + length es) x ≡ Going y = subst (λ z. world.carry_link script (k + length es) v z x (link_at v z x.links) ≡ Going y) i steps in
    link_ends script x y u s r there after (is_table script once w x y es (Carry v t) k follow opened stepped steps u s r there after) q stands (k + length es) v here (link_at v u x.links) refl
    (λ l at uncut n ns head. arrivals_stand script once w x y es k v u (followed script once w x y es (Carry v t) k follow opened stepped steps u s r there after) opened stepped here s r there after (other script once w x y es (Carry v t) k follow opened stepped steps u s r there after v l at) l at uncut n ns head) here)
    (λ o. state_same x y u s r there after (link_stay script (k + length es) v t x y (link_at v t x.links) steps u o))
entries_stand script once w x y es (CutLink v t) k follow opened stepped steps u s r there after q stands =
    state_same x y u s r there after (ap (λ us. slice_get us u) (going_is script _ y steps))
entries_stand script once w x y es (NoticeLink v c) k follow opened stepped steps u s r there after q stands =
    own_ends x v u s r (Some (arrive.notice (numbering {W = Wired} (draw_word script.key)) c q))
    (λ i. notice_ends script x y u s r there after (is_table script once w x y es (NoticeLink v c) k follow opened stepped steps u s r there after) q stands (k + length es) c (slice_get x.vats u) there
    (subst (λ z. world.within z x (NoticedAt (k + length es) z c ∷ []) (world.step_number script (k + length es)) (arrive.notice (world.names script z) c) (slice_get x.vats z) ≡ Going y) i steps))
    (λ o. state_same x y u s r there after (notice_stay script (k + length es) v c x y (slice_get x.vats v) steps u o))
