-- In numbers too each note of a step that asks for something is put to another vat of the script.
use Rattle.std.proofs.Common.{◌≡◌, ℕ, zero, ◌+◌, ◌<◌, ◌⊎◌, inl, inr, false, List, [], ◌∷◌, ◌++◌, Option, Some, None, refl, sym, ap, ◌∙◌, subst, length, map}
use Rattle.std.specs.Prelude.{slice_get}
use Rattle.def_machine.specs.Values.{Name, Local, Prom, Root}
use Rattle.def_machine.specs.State.{Message, Note, Deliver, Open, Ask, SettledTo, Elsewhere, Shorten, Put, Vat, Done, Gives}
use Rattle.def_machine.specs.Arrive.{Incoming, arrive, notice}
use Rattle.def_machine.specs.Eval.{opening, taking}
use Rattle.def_machine.specs.Maps as maps
use Rattle.def_run.specs.Connections.{Heard, asked_in}
use Rattle.def_run.specs.Draws.{draw_word}
use Rattle.def_run.specs.Wire.{connected_at}
use Rattle.def_run.specs.World as machine
use Rattle.def_run.specs.World.{Script, Program, Entry, Turn, Carry, NoticeLink, Event, Opens, Turned, NoticedAt, Link, World, Goes, link_at, readied, put_back, within, tree_at}
use Rattle.law_fate.specs.Name.Names.{AllOf, names_in}
use Rattle.law_fate.specs.Name.Runs.{KnowsOnce}
use Rattle.law_fate.proofs.Name.Among.{get_put}
use Rattle.law_machine.specs.Renamed.Stands.{Table, Found, Is, found, StandsFor}
use Rattle.law_machine.proofs.Renamed.Sim.{id}
use Rattle.law_machine.proofs.Renamed.Stands.{Extends, still}
use Rattle.law_reference.specs.Reference.Cuts.{NoticesFollowCuts}
use Rattle.law_reference.specs.Reference.Exports.{exported_at}
use Rattle.law_reference.specs.Reference.Tables.{table_of}
use Rattle.law_frame.proofs.Frame.AlikeArrivals.{put_given}
use Rattle.def_run.specs.Vats.{Member, heard_in, sight_for}
use Rattle.def_run.specs.Numbers as numbers
use Rattle.def_run.specs.Numbers.{Vats, Way, Frame, way_at, ready}
use Rattle.law_frame.specs.Local.Carrying.{taken}
use Rattle.law_frame.specs.Local.Hearing.{HearsSo}
use Rattle.law_frame.specs.Local.Mirrors.{Mirrors}
use Rattle.law_frame.proofs.Local.Carry.{step_is, Theirs, Line, out}
use Rattle.law_frame.proofs.Local.CarryLinks.{frame_first}
use Rattle.law_frame.proofs.Local.HeardRuns.{frames_heard}
use Rattle.law_frame.proofs.Local.JoinedOpenings as openings
use Rattle.law_frame.proofs.Local.OpeningTurns.{opening_same}
use Rattle.law_frame.proofs.Local.Positions.{there_is}
use Rattle.law_frame.proofs.Local.Turns.{given, books_given, queued, taking_same, notice_same}
use Rattle.law_frame.proofs.Local.Ways.{MayMirror, at_mirrors}
use Rattle.law_frame.proofs.Steady.Abroad.{GoesAbroad, AllAbroad}
use Rattle.law_frame.proofs.Steady.Asks.{GoesOut}
use Rattle.law_frame.proofs.Steady.Went.{Grows, Pair, was, is, before, table, more}

-- ---- a state in numbers puts its notes where the one in names does

module _ (f : Local → Found) (u n : ℕ) (s : Vat Local) where
  note_out : (to : ℕ) (x : Note Local) (y : Note Name) → maps.note f x ≡ maps.note Is y → GoesAbroad u n to y → (asked_in (sight_for s x) x ≡ []) ⊎ ((to < n) × (to ≡ u → ⊥))
  unfolding asked_in
  note_out to (Deliver d m verb xs) (Deliver k z w ys) e g = inr g
  note_out to (Deliver d m verb xs) (Ask p i z) e g = inr g
  note_out to (Ask p i m) (Deliver k z w ys) e g = inr g
  note_out to (Ask p i m) (Ask q j z) e g = inr g
  note_out to (Ask p i m) (Open j z) e g = cc
  note_out to (Ask p i m) (SettledTo z y) e g = cc
  note_out to (Ask p i m) (Elsewhere z c) e g = cc
  note_out to (Ask p i m) (Shorten z c j) e g = cc
  note_out to (Deliver d m verb xs) other e g = cc
  note_out to other y e g = inl refl

  put_out : (p : Put Local) (q : Put Name) → maps.put f p ≡ maps.put Is q → GoesAbroad u n q.to q.note → GoesOut u n s p
  put_out p q e g = note_out p.to p.note q.note (ap (λ (z : Put Found). z.note) e) (subst (λ z. GoesAbroad u n z q.note) (sym (ap (λ (z : Put Found). z.to) e)) g)

  puts_out : (ps : List (Put Local)) (qs : List (Put Name)) → map (maps.put f) ps ≡ map (maps.put Is) qs → AllAbroad u n qs → AllOf (GoesOut u n s) ps
  puts_out [] qs e g = tt
  puts_out (p ∷ ps) [] e g = cc
  puts_out (p ∷ ps) (q ∷ qs) e g = let first : maps.put f p ≡ maps.put Is q = cc in let rest : map (maps.put f) ps ≡ map (maps.put Is) qs = cc in (put_out p q first g.0, puts_out ps qs rest g.1)

  pub goes_out : (r : Vat Name) → maps.vat f s ≡ maps.vat Is r → AllAbroad u n r.outbox → AllOf (GoesOut u n s) s.outbox
  goes_out r e g = puts_out s.outbox r.outbox (ap (λ (z : Vat Found). z.outbox) e) g

-- ---- what a step leaves in numbers stands for what it leaves in names

some_is : (x y : Vat Name) → Some x ≡ Some y → x ≡ y
some_is x y e = cc

given_is : (x y : Vat Local) → ◌≡◌ {A = Done Local (Unit {0})} (Gives tt x) (Gives tt y) → x ≡ y
given_is x y e = cc

-- Vat u, which was m in numbers, is k.
module _ (script : Script) (X Y : Vats) (p : Pair X Y) (u : ℕ) (m k : Member) (there : slice_get X.members u ≡ Some m) (here : slice_get Y.members u ≡ Some k) (grows : Grows m.names k.names) where
  abbrev Old : Vat Name
  Old = (was X Y p u m k there here grows).0

  abbrev Now : Vat Name
  Now = (is X Y p u m k there here grows).0

  abbrev old_there : slice_get (let w = p.x in w.vats) u ≡ Some Old
  old_there = (was X Y p u m k there here grows).1

  abbrev T : Table
  T = table_of p.y u Now

  abbrev pub Stands : Vat Local → Type 0
  Stands s = maps.vat (found u T) s ≡ maps.vat Is Now

  grown : Extends (table_of p.x u Old) T
  grown = more X Y p u m k there here grows

  names_so : names_in (let r : Vat Name = Now in r.known) ≡ (let t : Table = T in t.names)
  unfolding table_of
  names_so = refl

  mails_so : (let r : Vat Name = Now in r.mails) ≡ (let t : Table = T in t.mails)
  unfolding table_of
  mails_so = refl

  readies : StandsFor u T (ready X m.vat) (readied p.x Old)
  readies = let h = before X Y p u m k there here grows in still u (table_of p.x u Old) T grown (ready X m.vat) (readied p.x Old) h.stands

  -- the machine's step gave that state
  gave : (head : List Event) (n : ℕ) (d : Done Name (Unit {0})) → put_back u p.x head n d ≡ Goes p.y → d ≡ Gives tt Now
  gave head n d e =
      let g = put_given script u p.x p.y head n d e in
      let vats : List (Vat Name) = (let w = p.x in w.vats) in
      let last : slice_get (let w = p.y in w.vats) u ≡ Some Now = (is X Y p u m k there here grows).1 in
      let same : g.0 ≡ Now = some_is g.0 Now (sym (get_put vats u Old g.0 old_there) ∙ ap (λ vs. slice_get vs u) (sym g.2) ∙ last) in
      g.1 ∙ ap (λ z. Gives tt z) same

  stood : (s : Vat Local) (l : Done Local (Unit {0})) → l ≡ Gives tt s → maps.done (found u T) id l ≡ maps.done Is id (Gives tt Now) → Stands s
  stood s l i e = let g = given (found u T) l Now e in subst (λ z. maps.vat (found u T) z ≡ maps.vat Is Now) (given_is g.0 s (sym g.1 ∙ i)) g.2

  pub notice_stands : (c j : ℕ) (s : Vat Local) → notice (numbers.numbers script) c (ready X m.vat) ≡ Gives tt s → machine.step script (NoticeLink u c) j p.x ≡ Goes p.y → Stands s
  unfolding machine.step machine.names numbers.numbers within
  notice_stands c j s e goes =
      let act = notice (machine.names script u) c in let head : List Event = NoticedAt j u c ∷ [] in let n = machine.step_number script j in
      let back : put_back u p.x head n (act (readied p.x Old)) ≡ Goes p.y = sym (ap (within u p.x head n act) old_there) ∙ goes in
      stood s (notice (numbers.numbers script) c (ready X m.vat)) e
      (notice_same (draw_word script.key) u T (table X Y p u m k there here grows) c (ready X m.vat) (readied p.x Old) (Gives tt Now) readies (gave head n (act (readied p.x Old)) back) (books_given T Now tt names_so mails_so))

  pub turn_stands : (j : ℕ) (q : Message Local) (qs : List (Message Local)) → m.vat.queue ≡ q ∷ qs → (s : Vat Local) → taking (numbers.numbers script) (tree_at script.vats u) script.depth q (record (ready X m.vat) { queue = qs }) ≡ Gives tt s
      → machine.step script (Turn u) j p.x ≡ Goes p.y → Stands s
  unfolding machine.step machine.turn machine.turn_queue machine.names numbers.numbers within readied ready
  turn_stands j q qs queue s e goes = by (let v : Vat Name = Old in v.queue) refl (sym (ap (map (maps.message (found u T))) queue) ∙ ap (λ (z : Vat Found). z.queue) readies)
    where
      by : (ls : List (Message Name)) → (let v : Vat Name = Old in v.queue) ≡ ls → map (maps.message (found u T)) (q ∷ qs) ≡ map (maps.message Is) ls → Stands s
      by [] i h = cc
      by (l ∷ ls) i h =
          let one : maps.message (found u T) q ≡ maps.message Is l = cc in
          let rest : map (maps.message (found u T)) qs ≡ map (maps.message Is) ls = cc in
          let taken_off : Vat Name = record Old { queue = ls } in
          let stands : StandsFor u T (record (ready X m.vat) { queue = qs }) (readied p.x taken_off) = queued (maps.vat (found u T) (ready X m.vat)) (maps.vat Is (readied p.x Old)) (map (maps.message (found u T)) qs) (map (maps.message Is) ls) readies rest in
          let head : List Event = Turned j u ∷ [] in let n = machine.step_number script j in
          let d = taking (machine.names script u) (tree_at script.vats u) script.depth l (readied p.x taken_off) in
          let back : put_back u p.x head n d ≡ Goes p.y = sym (ap (machine.turn script j u p.x) old_there ∙ ap (machine.turn_queue script j u p.x Old) i) ∙ goes in
          stood s (taking (numbers.numbers script) (tree_at script.vats u) script.depth q (record (ready X m.vat) { queue = qs })) e
          (taking_same (draw_word script.key) u T (table X Y p u m k there here grows) (tree_at script.vats u) script.depth q l one (record (ready X m.vat) { queue = qs }) (readied p.x taken_off) (Gives tt Now) stands (gave head n d back) (books_given T Now tt names_so mails_so))

  -- so its notes go out, where those of the state in names do
  pub out_of : (many : ℕ) → length (let w = p.y in w.vats) ≡ many → (s : Vat Local) → Stands s → AllAbroad u many (let r : Vat Name = Now in r.outbox) → AllOf (GoesOut u (length Y.members) s) s.outbox
  out_of many c s e g = let h = p.after in goes_out (found u T) u (length Y.members) s Now e (subst (λ n. AllAbroad u n (let r : Vat Name = Now in r.outbox)) (sym (h.count ∙ c)) g)

  -- the opening turn of program c
  module _ (once : KnowsOnce script) (ps rest : List Program) (c : Program) (split : script.vats ≡ ps ++ c ∷ rest) (opened : machine.open_from script zero ps (machine.begins script) ≡ Goes p.x) (mine : length ps ≡ u) where
    fresh_is : Old ≡ machine.fresh script u c
    fresh_is = some_is Old (machine.fresh script u c) (sym old_there ∙ subst (λ z. slice_get (let w = p.x in w.vats) z ≡ Some (machine.fresh script z c)) mine (openings.at script once ps rest c p.x X split opened p.start))

    grown_fresh : Extends (table_of p.x (length ps) (machine.fresh script (length ps) c)) T
    grown_fresh = subst (λ z. Extends (table_of p.x z (machine.fresh script z c)) T) (sym mine) (subst (λ z. Extends (table_of p.x u z) T) fresh_is grown)

    root_is : found u T (Prom zero) ≡ Is (Root u)
    root_is = subst (λ z. found z T (Prom zero) ≡ Is (Root z)) mine (openings.root script once ps rest c p.x X split opened p.start T grown_fresh)

    roots_are : (i w : ℕ) → slice_get c.knows i ≡ Some w → found u T (Prom (i + 1)) ≡ Is (Root w)
    roots_are i w e = subst (λ z. found z T (Prom (i + 1)) ≡ Is (Root w)) mine (openings.roots script once ps rest c p.x X split opened p.start T grown_fresh i w e)

    pub opening_stands : (s : Vat Local) → opening (numbers.numbers script) c.tree script.depth (Prom zero) (numbers.given script.vats 1 c.knows) (ready X m.vat) ≡ Gives tt s → machine.open_vat script u c p.x ≡ Goes p.y → Stands s
    unfolding machine.open_vat within
    opening_stands s e goes =
        let act = opening (machine.names script u) c.tree script.depth (Root u) (machine.given script.vats c.knows) in let head : List Event = Opens u ∷ [] in
        let back : put_back u p.x head u (act (readied p.x Old)) ≡ Goes p.y = sym (ap (within u p.x head u act) old_there) ∙ goes in
        stood s (opening (numbers.numbers script) c.tree script.depth (Prom zero) (numbers.given script.vats 1 c.knows) (ready X m.vat)) e
        (opening_same script u c p.x X Old m Now p.start old_there there T (table X Y p u m k there here grows) grown names_so mails_so root_is roots_are (Gives tt Now) (gave head u (act (readied p.x Old)) back) (books_given T Now tt names_so mails_so))

-- ---- what arrives

-- In world x of a run, which X mirrors, frame f is the first on the way from v to u, which is m in numbers: what the note leads to in numbers stands for what it leads to in names.
module _ (script : Script) (once : KnowsOnce script) (w x y : World) (es : List Entry) (follow : NoticesFollowCuts es) (opened : machine.open_from script zero script.vats (machine.begins script) ≡ Goes w) (stepped : machine.steps_from script es 1 w ≡ Goes x)
    (X : Vats) (mirrors : Mirrors x X) (v u : ℕ) (other : v ≡ u → ⊥) (m : Member) (mine : slice_get X.members u ≡ Some m) (way : Way) (on : way_at v u X.ways ≡ Some way) (clear : way.cut ≡ false) (f : Frame) (fs : List Frame) (frames : way.frames ≡ f ∷ fs)
    (h : Heard Local (Note (Incoming Local Local))) (heard : heard_in v f.op m ≡ Some h) (p : Vat Local) (arrives : arrive (numbers.numbers script) v h.read (ready X m.vat) ≡ Gives tt p) (j : ℕ) (goes : machine.step script (Carry v u) j x ≡ Goes y) where
  -- the state in names
  abbrev pub Left : Type 0
  Left = (r : Vat Name) × (slice_get y.vats u ≡ Some r) × (g : Local → Found) × (maps.vat g p ≡ maps.vat Is r)

  low_v : v < length x.vats
  low_v = let ends = mirrors.ends v u way on in subst (λ n. v < n) mirrors.count ends.0

  low_u : u < length x.vats
  low_u = let ends = mirrors.ends v u way on in subst (λ n. u < n) mirrors.count ends.1

  heard_is : (a b : Heard Local (Note (Incoming Local Local))) → Some a ≡ Some b → a ≡ b
  heard_is a b e = cc

  -- by what the machine's step finds
  module _ (l : Link) (at : link_at v u x.links ≡ Some l) (uncut : l.cut ≡ false) (head : l.notes ≡ f.note ∷ map (λ (g : Frame). g.note) fs) (a s : Vat Name) (sends : slice_get x.vats v ≡ Some a) (here : slice_get x.vats u ≡ Some s) (z : Member) (sender : slice_get X.members v ≡ Some z) (so : HearsSo x v u s f.note h) where
    left_so : Left
    unfolding numbers.numbers
    left_so =
        let ns : List (Note Name) = map (λ (g : Frame). g.note) fs in
        let theirs = Theirs script once w x es 1 follow opened stepped X mirrors v u other l at uncut f fs head way on clear frames a s sends here z m sender mine h heard so in
        let line = Line script once w x es 1 follow opened stepped X mirrors v u other l at uncut f fs head way on clear frames a s sends here z m sender mine h heard so j in
        let back = sym (step_is script once w x es 1 follow opened stepped X mirrors v u other l at uncut f fs head way on clear frames a s sends here z m sender mine h heard so j) ∙ goes in
        let g = put_given script u (taken x v u ns) y line (machine.step_number script j) theirs back in
        let o = out script once w x es 1 follow opened stepped X mirrors v u other l at uncut f fs head way on clear frames a s sends here z m sender mine h heard so g.0 g.1 in
        let r : Vat Name = g.0 in
        let t : Table = record { names = names_in r.known; mails = r.mails; exports = exported_at (machine.push_all u r.outbox (machine.with_link (machine.with_notes ns) v u x.links)) u } in
        (r, ap (λ vs. slice_get vs u) g.2 ∙ get_put x.vats u s r here, found u t, subst (λ q. maps.vat (found u t) q ≡ maps.vat Is r) (given_is o.0 p (sym o.1 ∙ arrives)) o.2)

  of_link : (l : Link) → link_at v u x.links ≡ Some l → MayMirror (Some l) (Some way) → Left
  of_link l at both =
      let a = there_is x.vats v low_v in
      let s = there_is x.vats u low_u in
      let z = there_is X.members v (let ends = mirrors.ends v u way on in ends.0) in
      let uncut : l.cut ≡ false = sym both.cut ∙ clear in
      let ns : List (Note Name) = map (λ (g : Frame). g.note) fs in
      let head : l.notes ≡ f.note ∷ ns = sym both.notes ∙ ap (map (λ (g : Frame). g.note)) frames in
      let due = frame_first (connected_at v u x.connections) (connected_at u v x.connections) way f fs (mirrors.frames v u way on clear) frames in
      let found_so = frames_heard script once w x es 1 follow opened stepped v u a.0 s.0 a.1 s.1 other l at uncut X m mirrors mine f.note ns head f.op due.0 in
      left_so l at uncut head a.0 s.0 a.1 s.1 z.0 z.1 (subst (λ b. HearsSo x v u s.0 f.note b) (heard_is found_so.0 h (sym found_so.1 ∙ heard)) found_so.2)

  pub arrival_stands : Left
  arrival_stands = by (link_at v u x.links) refl (subst (λ o. MayMirror (link_at v u x.links) o) on (at_mirrors v u x.links X.ways mirrors.ways))
    where
      by : (o : Option Link) → link_at v u x.links ≡ o → MayMirror (link_at v u x.links) (Some way) → Left
      by (Some l) e i = of_link l e (subst (λ o. MayMirror o (Some way)) e i)
      by None e i = absurd (subst (λ o. MayMirror o (Some way)) e i)
