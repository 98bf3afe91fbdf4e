-- A turn, or the notice of a cut, that goes in names goes in numbers, and one that stops stops so.
use Rattle.std.proofs.Common.{◌≡◌, ℕ, List, [], ◌∷◌, Some, refl, sym, ap, ◌∙◌, subst, map}
use Rattle.std.specs.Prelude.{slice_get}
use Rattle.def_kernel.specs.declared.node.Node.{Node}
use Rattle.def_machine.specs.Values.{Name, Local, numbering, naming}
use Rattle.def_machine.specs.State.{Message, Vat, Stop, Done, Gives, Stops}
use Rattle.def_machine.specs.Arrive.{notice}
use Rattle.def_machine.specs.Eval.{taking}
use Rattle.def_run.specs.Wire.{Connected}
use Rattle.def_run.specs.Draws.{draw_word}
use Rattle.def_run.specs.World as machine
use Rattle.def_run.specs.World.{Script, Event, Turned, NoticedAt, World, readied, put_back, within, connections_after, heard_by, tree_at, step_number}
use Rattle.law_fate.specs.Name.Names.{names_in}
use Rattle.def_machine.specs.Maps as maps
use Rattle.law_machine.specs.Renamed.Stands.{Table, Found, Is, found, finding, IsTable, StandsFor}
use Rattle.law_machine.proofs.Renamed.Sim.{Books, id}
use Rattle.law_machine.proofs.Renamed.SimEval.{sim_taking}
use Rattle.law_machine.proofs.Renamed.SimArrive.{sim_notice}
use Rattle.law_machine.proofs.Renamed.Stands.{Extends, still, step_stands, books_of, books_after, FitsTable, found_renames, is_renames}
use Rattle.law_reference.specs.Reference.Tables.{table_of}
use Rattle.def_run.specs.Vats.{Member}
use Rattle.def_run.specs.Numbers as numbers
use Rattle.def_run.specs.Numbers.{Vats, ready, nothing_brought, left_by, after_step}
use Rattle.law_frame.specs.Local.Mirrors.{Mirrors, RunMirrors}
use Rattle.law_frame.specs.Local.Steps.{world_left, OwnStepStands}
use Rattle.law_frame.proofs.Local.OwnSteps.{own_steps_mirror}
use Rattle.law_frame.proofs.Local.Closing.{idles_mirror}

-- what a step in numbers gives where it gives so in names
pub given : (f : Local → Found) (d : Done Local (Unit {0})) (r : Vat Name) → maps.done f id d ≡ maps.done Is id (Gives tt r) → (p : Vat Local) × (d ≡ Gives tt p) × (maps.vat f p ≡ maps.vat Is r)
given f (Gives tt p) r e = (p, refl, cc)
given f other r e = cc

-- and why it stops where it stops so in names
pub stopped : (f : Local → Found) (d : Done Local (Unit {0})) (c : Stop) (r : Vat Name) → maps.done f id d ≡ maps.done Is id (Stops c r) → (p : Vat Local) × (d ≡ Stops c p)
stopped f (Stops e p) c r i = let j : e ≡ c = cc in (p, ap (λ z. Stops z p) j)
stopped f other c r i = cc

pub books_stopped : (t : Table) (c : Stop) (r : Vat Name) → names_in r.known ≡ t.names → r.mails ≡ t.mails → books_after {A = Unit {0}} (Stops c r) ≡ books_of t
books_stopped t c r known mails = cc (known, mails)

pub books_given : (t : Table) (r : Vat Name) (a : Unit {0}) → names_in r.known ≡ t.names → r.mails ≡ t.mails → books_after (Gives a r) ≡ books_of t
books_given t r a known mails = cc (known, mails)

module _ (word : ℕ → ℕ) (u : ℕ) (t : Table) (good : IsTable u t) where
  -- a turn, where a vat names what arrives by its own numbers
  pub taking_same : (tree : List Node) (depth : ℕ) (m : Message Local) (n : Message Name) → maps.message (found u t) m ≡ maps.message Is n → (q : Vat Local) (s : Vat Name) (d : Done Name (Unit {0})) → StandsFor u t q s → taking (naming word u) tree depth n s ≡ d → books_after d ≡ books_of t
      → maps.done (found u t) id (taking (numbering {W = Local} word) tree depth m q) ≡ maps.done Is id d
  taking_same tree depth m n e q s d stands i books =
      step_stands u t good id id (taking (numbering {W = Local} word) tree depth m) (taking (naming word u) tree depth n) (taking (finding word u) tree depth (maps.message (found u t) m))
      (sim_taking (found u t) (λ (x : Local). Name.Root 0) (numbering word) (finding word u) (FitsTable u t good) (found_renames u t good word (λ (x : Local). Name.Root 0)) tree depth m)
      (rw e (sim_taking Is (λ x. x) (naming word u) (finding word u) (λ (b : Books Found). Unit {0}) (is_renames word u) tree depth n)) q s stands (ap books_after i ∙ books)
      ∙ ap (maps.done Is id) i

  pub notice_same : (c : ℕ) (q : Vat Local) (s : Vat Name) (d : Done Name (Unit {0})) → StandsFor u t q s → notice (naming word u) c s ≡ d → books_after d ≡ books_of t → maps.done (found u t) id (notice (numbering {W = Local} word) c q) ≡ maps.done Is id d
  notice_same c q s d stands i books =
      step_stands u t good id id (notice (numbering {W = Local} word) c) (notice (naming word u) c) (notice (finding word u) c)
      (sim_notice (found u t) (λ (x : Local). Name.Root 0) (numbering word) (finding word u) (FitsTable u t good) (found_renames u t good word (λ (x : Local). Name.Root 0)) c)
      (sim_notice Is (λ x. x) (naming word u) (finding word u) (λ (b : Books Found). Unit {0}) (is_renames word u) c) q s stands (ap books_after i ∙ books)
      ∙ ap (maps.done Is id) i

-- ---- a step that goes on both sides

pub queued : (a b : Vat Found) (xs ys : List (Message Found)) → a ≡ b → xs ≡ ys → record a { queue = xs } ≡ record b { queue = ys }
queued a b xs ys e i = ap (λ (z : Vat Found). record z { queue = xs }) e ∙ ap (λ (zs : List (Message Found)). record b { queue = zs }) i

pub own_goes : (x : World) (X : Vats) (u : ℕ) (m : Member) (r : Vat Name) (p : Vat Local) (head : List Event) (n : ℕ) (d : Done Name (Unit {0})) (l : Done Local (Unit {0})) → d ≡ Gives tt r → l ≡ Gives tt p → heard_by head x.connections ≡ x.connections
    → Mirrors (world_left x u r head x.connections) (left_by X u head m (nothing_brought m) p) → RunMirrors (put_back u x head n d) (after_step X u head n m (λ z. nothing_brought m) l)
unfolding put_back after_step connections_after
own_goes x X u m r p head n d l e i heard h =
    subst (λ z. RunMirrors (put_back u x head n z) (after_step X u head n m (λ y. nothing_brought m) l)) (sym e)
    (subst (λ z. RunMirrors (put_back u x head n (Gives tt r)) (after_step X u head n m (λ y. nothing_brought m) z)) (sym i) goes)
  where
    goes : RunMirrors (put_back u x head n (Gives tt r)) (after_step X u head n m (λ y. nothing_brought m) (Gives tt p))
    goes = subst (λ (cs : List Connected). Mirrors (world_left x u r head cs) (left_by X u head m (nothing_brought m) p)) (sym heard) h

-- Vat u, in state s, with member m; its step leaves state r, and the world y. What is asked is as in OwnStepStands, but for the state in numbers, which is found here.
module _ (script : Script) (k u : ℕ) (x : World) (X : Vats) (s : Vat Name) (m : Member) (r : Vat Name) (h : Mirrors x X) (at : slice_get x.vats u ≡ Some s) (there : slice_get X.members u ≡ Some m) where
  abbrev left : List Event → World
  left head = world_left x u r head x.connections

  abbrev Facts : List Event → Type 0
  Facts head = Extends (table_of x u s) (table_of (left head) u r) × IsTable u (table_of (left head) u r) × ((p : Vat Local) → StandsFor u (table_of (left head) u r) p r → OwnStepStands x X u s m r p head)

  -- so it stands by the later table
  later : (head : List Event) → Facts head → StandsFor u (table_of (left head) u r) (ready X m.vat) (readied x s)
  later head f = still u (table_of x u s) (table_of (left head) u r) f.0 (ready X m.vat) (readied x s) (h.vats u s m at there).stands

  names_so : (head : List Event) → names_in r.known ≡ (table_of (left head) u r).names
  unfolding table_of
  names_so head = refl

  mails_so : (head : List Event) → r.mails ≡ (table_of (left head) u r).mails
  unfolding table_of
  mails_so head = refl

  pub notice_mirrors : (c n : ℕ) → let head : List Event = NoticedAt k u c ∷ [] in Facts head → notice (machine.names script u) c (readied x s) ≡ Gives tt r
      → RunMirrors (put_back u x (NoticedAt k u c ∷ []) n (notice (machine.names script u) c (readied x s))) (after_step X u (NoticedAt k u c ∷ []) n m (λ z. nothing_brought m) (notice (numbers.numbers script) c (ready X m.vat)))
  unfolding machine.names numbers.numbers heard_by
  notice_mirrors c n f e =
      let head : List Event = NoticedAt k u c ∷ [] in
      let t = table_of (left head) u r in
      let g = given (found u t) (notice (numbers.numbers script) c (ready X m.vat)) r (notice_same (draw_word script.key) u t f.1 c (ready X m.vat) (readied x s) (Gives tt r) (later head f) e (books_given t r tt (names_so head) (mails_so head))) in
      own_goes x X u m r g.0 head n (notice (machine.names script u) c (readied x s)) (notice (numbers.numbers script) c (ready X m.vat)) e g.1 refl (own_steps_mirror x X u s m r g.0 head h (f.2 g.0 g.2))

  -- the first message of the queue, on both sides
  pub turn_mirrors : (n : ℕ) (q : Message Name) (qs : List (Message Name)) → Facts (Turned n u ∷ []) → s.queue ≡ q ∷ qs → taking (machine.names script u) (tree_at script.vats u) script.depth q (readied x (record s { queue = qs })) ≡ Gives tt r
      → RunMirrors (machine.turn_queue script n u x s (q ∷ qs)) (numbers.turn_queue script n u X m m.vat.queue)
  unfolding machine.names numbers.numbers heard_by machine.turn_queue numbers.turn_queue within readied ready step_number numbers.step_number
  turn_mirrors n q qs f queue e = by m.vat.queue (ap (λ (z : Vat Found). z.queue) (later (Turned n u ∷ []) f) ∙ ap (map (maps.message Is)) queue)
    where
      t : Table
      t = table_of (left (Turned n u ∷ [])) u r

      by : (ls : List (Message Local)) → map (maps.message (found u t)) ls ≡ map (maps.message Is) (q ∷ qs) → RunMirrors (machine.turn_queue script n u x s (q ∷ qs)) (numbers.turn_queue script n u X m ls)
      by [] i = cc
      by (l ∷ ls) i =
          let one : maps.message (found u t) l ≡ maps.message Is q = cc in
          let rest : map (maps.message (found u t)) ls ≡ map (maps.message Is) qs = cc in
          let stands : StandsFor u t (record (ready X m.vat) { queue = ls }) (readied x (record s { queue = qs })) = queued (maps.vat (found u t) (ready X m.vat)) (maps.vat Is (readied x s)) (map (maps.message (found u t)) ls) (map (maps.message Is) qs) (later (Turned n u ∷ []) f) rest in
          let g = given (found u t) (taking (numbers.numbers script) (tree_at script.vats u) script.depth l (record (ready X m.vat) { queue = ls })) r (taking_same (draw_word script.key) u t f.1 (tree_at script.vats u) script.depth l q one (record (ready X m.vat) { queue = ls }) (readied x (record s { queue = qs })) (Gives tt r) stands e (books_given t r tt (names_so (Turned n u ∷ [])) (mails_so (Turned n u ∷ [])))) in
          own_goes x X u m r g.0 (Turned n u ∷ []) (step_number script n) (taking (machine.names script u) (tree_at script.vats u) script.depth q (readied x (record s { queue = qs }))) (taking (numbers.numbers script) (tree_at script.vats u) script.depth l (record (ready X m.vat) { queue = ls })) e g.1 refl
          (own_steps_mirror x X u s m r g.0 (Turned n u ∷ []) h (f.2 g.0 g.2))

-- ---- a step that stops on both sides

pub own_stops : (x : World) (X : Vats) (u : ℕ) (m : Member) (c : Stop) (r : Vat Name) (p : Vat Local) (head : List Event) (n : ℕ) (d : Done Name (Unit {0})) (l : Done Local (Unit {0})) → d ≡ Stops c r → l ≡ Stops c p → Mirrors x X → RunMirrors (put_back u x head n d) (after_step X u head n m (λ z. nothing_brought m) l)
unfolding put_back after_step
own_stops x X u m c r p head n d l e i h =
    subst (λ z. RunMirrors (put_back u x head n z) (after_step X u head n m (λ y. nothing_brought m) l)) (sym e)
    (subst (λ z. RunMirrors (put_back u x head n (Stops c r)) (after_step X u head n m (λ y. nothing_brought m) z)) (sym i) (refl, refl, h.drawn, h.history))

-- Vat u, in state s, with member m; its step stops in state r, of which t is the table, which goes on from that before.
module _ (script : Script) (u : ℕ) (x : World) (X : Vats) (s : Vat Name) (m : Member) (c : Stop) (r : Vat Name) (h : Mirrors x X) (at : slice_get x.vats u ≡ Some s) (there : slice_get X.members u ≡ Some m)
    (t : Table) (good : IsTable u t) (more : Extends (table_of x u s) t) (known : names_in r.known ≡ t.names) (mails : r.mails ≡ t.mails) where
  stands_on : StandsFor u t (ready X m.vat) (readied x s)
  stands_on = still u (table_of x u s) t more (ready X m.vat) (readied x s) (h.vats u s m at there).stands

  pub notice_stops : (z n : ℕ) (head : List Event) → notice (machine.names script u) z (readied x s) ≡ Stops c r
      → RunMirrors (put_back u x head n (notice (machine.names script u) z (readied x s))) (after_step X u head n m (λ y. nothing_brought m) (notice (numbers.numbers script) z (ready X m.vat)))
  unfolding machine.names numbers.numbers
  notice_stops z n head e =
      let g = stopped (found u t) (notice (numbers.numbers script) z (ready X m.vat)) c r (notice_same (draw_word script.key) u t good z (ready X m.vat) (readied x s) (Stops c r) stands_on e (books_stopped t c r known mails)) in
      own_stops x X u m c r g.0 head n (notice (machine.names script u) z (readied x s)) (notice (numbers.numbers script) z (ready X m.vat)) e g.1 h

  pub turn_stops : (n : ℕ) (q : Message Name) (qs : List (Message Name)) → s.queue ≡ q ∷ qs → taking (machine.names script u) (tree_at script.vats u) script.depth q (readied x (record s { queue = qs })) ≡ Stops c r
      → RunMirrors (machine.turn_queue script n u x s (q ∷ qs)) (numbers.turn_queue script n u X m m.vat.queue)
  unfolding machine.names numbers.numbers machine.turn_queue numbers.turn_queue within readied ready step_number numbers.step_number
  turn_stops n q qs queue e = by m.vat.queue (ap (λ (z : Vat Found). z.queue) stands_on ∙ ap (map (maps.message Is)) queue)
    where
      by : (ls : List (Message Local)) → map (maps.message (found u t)) ls ≡ map (maps.message Is) (q ∷ qs) → RunMirrors (machine.turn_queue script n u x s (q ∷ qs)) (numbers.turn_queue script n u X m ls)
      by [] i = cc
      by (l ∷ ls) i =
          let one : maps.message (found u t) l ≡ maps.message Is q = cc in
          let rest : map (maps.message (found u t)) ls ≡ map (maps.message Is) qs = cc in
          let stands : StandsFor u t (record (ready X m.vat) { queue = ls }) (readied x (record s { queue = qs })) = queued (maps.vat (found u t) (ready X m.vat)) (maps.vat Is (readied x s)) (map (maps.message (found u t)) ls) (map (maps.message Is) qs) stands_on rest in
          let g = stopped (found u t) (taking (numbers.numbers script) (tree_at script.vats u) script.depth l (record (ready X m.vat) { queue = ls })) c r (taking_same (draw_word script.key) u t good (tree_at script.vats u) script.depth l q one (record (ready X m.vat) { queue = ls }) (readied x (record s { queue = qs })) (Stops c r) stands e (books_stopped t c r known mails)) in
          own_stops x X u m c r g.0 (Turned n u ∷ []) (step_number script n) (taking (machine.names script u) (tree_at script.vats u) script.depth q (readied x (record s { queue = qs }))) (taking (numbers.numbers script) (tree_at script.vats u) script.depth l (record (ready X m.vat) { queue = ls })) e g.1 h

-- ---- a turn that finds nothing

none_mapped : {A B C : Type 0} (g : A → C) (h : B → C) (xs : List A) → map g xs ≡ map h [] → xs ≡ []
none_mapped g h [] e = refl
none_mapped g h (x ∷ xs) e = cc

pub turn_idles : (script : Script) (n u : ℕ) (x : World) (X : Vats) (s : Vat Name) (m : Member) → Mirrors x X → slice_get x.vats u ≡ Some s → slice_get X.members u ≡ Some m → s.queue ≡ [] → RunMirrors (machine.turn_queue script n u x s []) (numbers.turn_queue script n u X m m.vat.queue)
unfolding machine.turn_queue numbers.turn_queue ready readied
turn_idles script n u x X s m h at there e =
    let empty : m.vat.queue ≡ [] = none_mapped (maps.message (found u (table_of x u s))) (maps.message Is) m.vat.queue (ap (λ (z : Vat Found). z.queue) (h.vats u s m at there).stands ∙ ap (map (maps.message Is)) e) in
    subst (λ qs. RunMirrors (machine.turn_queue script n u x s []) (numbers.turn_queue script n u X m qs)) (sym empty) (idles_mirror script n x X h)
