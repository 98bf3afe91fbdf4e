-- What a step puts is written by the numbers of its vat as in names.
use Rattle.std.proofs.Common.{◌≡◌, ℕ, ◌≤◌, ◌<◌, Bool, true, false, List, [], ◌∷◌, ◌++◌, Option, Some, None, ◌⊎◌, inl, inr, refl, sym, ap, ◌∙◌, subst, length, map, arith}
use Rattle.std.specs.Prelude.{get_or, drop, option_map, slice_set, zero, suc}
use Rattle.std.proofs.lemmas.List.{length-set, get_or-set_same, get_or-set_other}
use Rattle.def_op.specs.Frames.{Operation}
use Rattle.def_machine.specs.Values.{Name, answer_of, Local, Prom}
use Rattle.def_machine.specs.State.{Put, Note, Delivery, Deliver, Vat}
use Rattle.def_run.specs.Connections.{Connection, Sight, asked_in, frame_now, put_on, exporting}
use Rattle.def_run.specs.Wire.{Connected, connected_at, with_connected, wrote, sight, write_all}
use Rattle.def_run.specs.World as machine
use Rattle.def_run.specs.World.{Link, with_link}
use Rattle.law_fate.specs.Name.Names.{AllOf, names_in}
use Rattle.law_reference.specs.Reference.Notes.{NamesItsAnswer, answer_due}
use Rattle.def_machine.specs.Maps as maps
use Rattle.law_machine.specs.Renamed.Stands.{Table, Found, Is, found, IsTable, StandsFor}
use Rattle.law_frame.specs.Frame.Together.{SeesAlike, TablesMay, NoteMay, changed_tables}
use Rattle.law_frame.specs.Frame.OwnFrames.{refers, refers_here, AsksFor}
use Rattle.law_frame.proofs.Frame.OwnFrames.{frames_are_written_by_numbers}
use Rattle.law_frame.proofs.Frame.Writes.{exporting_may}
use Rattle.law_frame.proofs.Frame.Places.{same_or, connected_same, connected_other, connected_ends}
use Rattle.def_run.specs.Vats.{sight_for, answer_in, unconnected}
use Rattle.def_run.specs.Numbers as numbers
use Rattle.def_run.specs.Numbers.{Frame, Way, way_at, with_way, written_on, all_written, frames_of}
use Rattle.law_frame.specs.Local.Mirrors.{WayMirrors, WaysMirror, FramesDue, HoldReferences}
use Rattle.law_frame.specs.Local.Writing.{PutsSo, ConnectionsMirror, AllDue, WritingsMirror}
use Rattle.law_frame.proofs.Local.MayMaps.{note_back, tables_back, note_on, tables_on}
use Rattle.law_frame.proofs.Local.Sights.{sees, refers_found, found_refers, is_refers}
use Rattle.law_frame.proofs.Local.Ways.{Came, way_came, with_mirrors}

-- ---- connections in names

wrote_from : (m : Note Name) (c : Connected) → (wrote m c).from ≡ c.from
unfolding wrote
wrote_from m c = refl

wrote_to : (m : Note Name) (c : Connected) → (wrote m c).to ≡ c.to
unfolding wrote
wrote_to m c = refl

tables_wrote : (m : Note Name) (u v : ℕ) (c : Connected) → c.from ≡ u → c.to ≡ v → (wrote m c).tables ≡ put_on (sight u v) m c.tables
unfolding wrote
tables_wrote m u v c e i = rw (e, i) refl

frames_wrote : (m : Note Name) (u v : ℕ) (c : Connected) → c.from ≡ u → c.to ≡ v → (wrote m c).written ≡ c.written ++ frame_now (sight u v) m c.tables ∷ []
unfolding wrote
frames_wrote m u v c e i = rw (e, i) refl

abbrev pub after_put : Note Name → ℕ → ℕ → List Connected → List Connected
after_put m u v ds = with_connected (wrote m) u v ds

put_same : (m : Note Name) (u v : ℕ) (ds : List Connected) → connected_at u v (after_put m u v ds) ≡ wrote m (connected_at u v ds)
put_same m u v ds = connected_same (wrote m) (wrote_from m) (wrote_to m) u v ds

pub put_other : (m : Note Name) (u v a b : ℕ) (ds : List Connected) → (u ≡ a → v ≡ b → ⊥) → connected_at a b (after_put m u v ds) ≡ connected_at a b ds
put_other m u v a b ds n = connected_other (wrote m) (wrote_from m) (wrote_to m) u v a b ds n

put_tables : (m : Note Name) (u v : ℕ) (ds : List Connected) → (connected_at u v (after_put m u v ds)).tables ≡ put_on (sight u v) m (connected_at u v ds).tables
put_tables m u v ds = let e = connected_ends u v ds in ap (λ (c : Connected). c.tables) (put_same m u v ds) ∙ tables_wrote m u v (connected_at u v ds) e.0 e.1

put_frames : (m : Note Name) (u v : ℕ) (ds : List Connected) → (connected_at u v (after_put m u v ds)).written ≡ (connected_at u v ds).written ++ frame_now (sight u v) m (connected_at u v ds).tables ∷ []
put_frames m u v ds = let e = connected_ends u v ds in ap (λ (c : Connected). c.written) (put_same m u v ds) ∙ frames_wrote m u v (connected_at u v ds) e.0 e.1

wrote_heard : (m : Note Name) (c : Connected) → (wrote m c).heard ≡ c.heard
unfolding wrote
wrote_heard m c = refl

put_heard : (m : Note Name) (u v a b : ℕ) (ds : List Connected) → (connected_at a b (after_put m u v ds)).heard ≡ (connected_at a b ds).heard
put_heard m u v a b ds = by (same_or u v a b)
  where
    by : ((u ≡ a) × (v ≡ b)) ⊎ (u ≡ a → v ≡ b → ⊥) → (connected_at a b (after_put m u v ds)).heard ≡ (connected_at a b ds).heard
    by (inl h) = subst (λ y. (connected_at a y (after_put m u v ds)).heard ≡ (connected_at a y ds).heard) h.1 (subst (λ x. (connected_at x v (after_put m u v ds)).heard ≡ (connected_at x v ds).heard) h.0 (ap (λ (c : Connected). c.heard) (put_same m u v ds) ∙ wrote_heard m (connected_at u v ds)))
    by (inr n) = ap (λ (c : Connected). c.heard) (put_other m u v a b ds n)

-- ---- no message gets a number

all_end : (xs ys : List Name) → AllOf (λ n. refers n ≡ true) xs → AllOf (λ n. refers n ≡ true) ys → AllOf (λ n. refers n ≡ true) (xs ++ ys)
all_end [] ys h k = k
all_end (x ∷ xs) ys h k = (h.0, all_end xs ys h.1 k)

itself : (S : Sight Name) → SeesAlike (λ (n : Name). n) refers S S
itself S = record { same = λ a b p. refl; own = λ a p. refl; object = λ a. refl }

put_may : (S : Sight Name) (m : Note Name) (c : Connection Name) → TablesMay refers c → NoteMay refers m → AllOf (λ n. refers n ≡ true) (asked_in S m) → TablesMay refers (put_on S m c)
unfolding put_on exporting
put_may S m c h k l =
    let e = exporting_may (λ (n : Name). n) refers S S (itself S) c m h k in
    record { exports = e.exports; imports = h.imports; questions = all_end c.questions (asked_in S m) h.questions l; answers = h.answers }

-- ---- one note

module _ (u n : ℕ) (t : Table) (good : IsTable u t) (r : Vat Name) (p : Vat Local) (stands : StandsFor u t p r) (names : t.names ≡ names_in r.known) (so : PutsSo u r) where
  -- the answer that a note in numbers asks for
  some_of : (o : Option Local) (x : Found) → option_map (found u t) o ≡ Some x → found u t (elim o [ Some a ↦ a | None ↦ Prom zero ]) ≡ x
  some_of (Some a) x e = cc
  some_of None x e = cc

  due_some : (v : ℕ) (b : Bool) (m : Name) (o : Option Name) → b ≡ true → o ≡ answer_due v b m → o ≡ Some (answer_of v m)
  due_some v true m o e i = i
  due_some v false m o e i = cc

  asks_so : (v : ℕ) (k : Note Local) (m : Note Name) → maps.note (found u t) k ≡ maps.note Is m → NamesItsAnswer v m → AsksFor u v t (sight_for p k) k m
  unfolding sight_for answer_in
  asks_so v (Deliver d x verb ys) (Deliver e y w zs) i a = λ b.
      let same : maps.delivery (found u t) d ≡ maps.delivery Is e = cc in
      let asks : d.asks ≡ e.asks = ap (λ (z : Delivery Found). z.asks) same in
      let answer : option_map (found u t) d.answer ≡ option_map Is e.answer = ap (λ (z : Delivery Found). z.answer) same in
      some_of d.answer (Is (answer_of v e.message)) (answer ∙ ap (option_map Is) (due_some v e.asks e.message e.answer (sym asks ∙ b) a))
  asks_so v (Deliver d x verb ys) other i a = cc
  asks_so v other m i a = tt

  abbrev Q : Found → Bool
  Q = refers_found u t good

  tables_may : (c : Connection Local) (d : Connection Name) → changed_tables (found u t) c ≡ changed_tables Is d → TablesMay refers d → TablesMay refers_here c
  tables_may c d e h = tables_back (found u t) refers_here Q (found_refers u t good) c (subst (TablesMay Q) (sym e) (tables_on Is refers Q (is_refers u t good) d h))

  note_may : (k : Note Local) (m : Note Name) → maps.note (found u t) k ≡ maps.note Is m → NoteMay refers m → NoteMay refers_here k
  note_may k m e h = note_back (found u t) refers_here Q (found_refers u t good) k (subst (NoteMay Q) (sym e) (note_on Is refers Q (is_refers u t good) m h))

  -- what the machine asks of a note that is put
  abbrev PutSo : ℕ → Note Name → Type 0
  PutSo v m = NoteMay refers m × AllOf (λ x. refers x ≡ true) (asked_in (sight u v) m) × NamesItsAnswer v m

  frame_so : (v : ℕ) (k : Note Local) (m : Note Name) (c : Connection Local) (d : Connection Name) → maps.note (found u t) k ≡ maps.note Is m → PutSo v m → changed_tables (found u t) c ≡ changed_tables Is d → TablesMay refers d
      → (frame_now (sight_for p k) k c ≡ frame_now (sight u v) m d) × (changed_tables (found u t) (put_on (sight_for p k) k c) ≡ changed_tables Is (put_on (sight u v) m d))
  frame_so v k m c d e h i j = frames_are_written_by_numbers u v t good (sight_for p k) (sees u t good r p stands names so k) c d k m i e (tables_may c d i j) j (note_may k m e h.0) h.0 (asks_so v k m e h.2)

  -- the connections after it
  abbrev next : ℕ → Note Local → List (Connection Local) → List (Connection Local)
  next v k cs = slice_set cs v (put_on (sight_for p k) k (get_or cs v unconnected))

  next_mirror : (v : ℕ) (k : Note Local) (m : Note Name) (cs : List (Connection Local)) (ds : List Connected) → maps.note (found u t) k ≡ maps.note Is m → PutSo v m → length cs ≡ n → ConnectionsMirror u t n cs ds → HoldReferences u n ds → ConnectionsMirror u t n (next v k cs) (after_put m u v ds)
  next_mirror v k m cs ds e h l i j w b = by (same_or v v w w)
    where
      here : v < n → changed_tables (found u t) (get_or (next v k cs) v unconnected) ≡ changed_tables Is (connected_at u v (after_put m u v ds)).tables
      here b = ap (changed_tables (found u t)) (get_or-set_same cs v (put_on (sight_for p k) k (get_or cs v unconnected)) unconnected (rw l b)) ∙ (frame_so v k m (get_or cs v unconnected) (connected_at u v ds).tables e h (i v b) (j v b)).1 ∙ ap (changed_tables Is) (sym (put_tables m u v ds))

      by : ((v ≡ w) × (v ≡ w)) ⊎ (v ≡ w → v ≡ w → ⊥) → changed_tables (found u t) (get_or (next v k cs) w unconnected) ≡ changed_tables Is (connected_at u w (after_put m u v ds)).tables
      by (inl f) = subst (λ x. changed_tables (found u t) (get_or (next v k cs) x unconnected) ≡ changed_tables Is (connected_at u x (after_put m u v ds)).tables) f.0 (here (subst (λ x. x < n) (sym f.0) b))
      by (inr f) = ap (changed_tables (found u t)) (get_or-set_other cs v w (put_on (sight_for p k) k (get_or cs v unconnected)) unconnected (λ g. f (sym g) (sym g))) ∙ i w b ∙ ap (λ (c : Connected). changed_tables Is c.tables) (sym (put_other m u v u w ds (λ a g. f g g)))

  next_holds : (v : ℕ) (m : Note Name) (ds : List Connected) → PutSo v m → HoldReferences u n ds → HoldReferences u n (after_put m u v ds)
  next_holds v m ds h j w b = by (same_or v v w w)
    where
      by : ((v ≡ w) × (v ≡ w)) ⊎ (v ≡ w → v ≡ w → ⊥) → TablesMay refers (connected_at u w (after_put m u v ds)).tables
      by (inl f) = subst (λ x. TablesMay refers (connected_at u x (after_put m u v ds)).tables) f.0 (subst (TablesMay refers) (sym (put_tables m u v ds)) (put_may (sight u v) m (connected_at u v ds).tables (j v (subst (λ x. x < n) (sym f.0) b)) h.0 h.1))
      by (inr f) = subst (λ (c : Connected). TablesMay refers c.tables) (sym (put_other m u v u w ds (λ a g. f g g))) (j w b)

  next_length : (v : ℕ) (k : Note Local) (cs : List (Connection Local)) → length (next v k cs) ≡ length cs
  next_length v k cs = length-set cs v (put_on (sight_for p k) k (get_or cs v unconnected))

  -- ---- all that a step put

  abbrev AllPutSo : List (Put Name) → Type 0
  AllPutSo qs = AllOf (λ (q : Put Name). PutSo q.to q.note) qs

  abbrev Written : List (Put Local) → List (Put Name) → List (Connection Local) → List Connected → Type 0
  Written ps qs cs ds = ConnectionsMirror u t n (all_written p ps cs) (write_all u qs ds) × HoldReferences u n (write_all u qs ds) × (length (all_written p ps cs) ≡ n)

  all_mirror : (ps : List (Put Local)) (qs : List (Put Name)) → map (maps.put (found u t)) ps ≡ map (maps.put Is) qs → AllPutSo qs → (cs : List (Connection Local)) (ds : List Connected) → length cs ≡ n → ConnectionsMirror u t n cs ds → HoldReferences u n ds → Written ps qs cs ds
  unfolding all_written write_all written_on
  all_mirror [] [] e h cs ds l i j = (i, j, l)
  all_mirror (x ∷ ps) (y ∷ qs) e h cs ds l i j =
      let same : maps.put (found u t) x ≡ maps.put Is y = cc in
      let rest : map (maps.put (found u t)) ps ≡ map (maps.put Is) qs = cc in
      let to : x.to ≡ y.to = ap (λ (z : Put Found). z.to) same in
      let note : maps.note (found u t) x.note ≡ maps.note Is y.note = ap (λ (z : Put Found). z.note) same in
      let so : PutSo x.to y.note = subst (λ v. PutSo v y.note) (sym to) h.0 in
      let done = all_mirror ps qs rest h.1 (next x.to x.note cs) (after_put y.note u x.to ds) (next_length x.to x.note cs ∙ l) (next_mirror x.to x.note y.note cs ds note so l i j) (next_holds x.to y.note ds so j) in
      subst (λ v. Written ps qs (next x.to x.note cs) (after_put y.note u v ds)) to done
  all_mirror [] (y ∷ qs) e h cs ds l i j = cc
  all_mirror (x ∷ ps) [] e h cs ds l i j = cc

  -- ---- ways

  abbrev op_of : Frame → Operation
  op_of x = x.op

  abbrev note_of : Frame → Note Name
  note_of x = x.note

  map_end : {A B : Type 0} (g : A → B) (xs : List A) (x : A) → map g (xs ++ x ∷ []) ≡ map g xs ++ g x ∷ []
  map_end g [] x = refl
  map_end g (y ∷ xs) x = ap (λ ys. g y ∷ ys) (map_end g xs x)

  drop_end : (i : ℕ) (xs : List Operation) (x : Operation) → i ≤ length xs → drop i (xs ++ x ∷ []) ≡ drop i xs ++ x ∷ []
  drop_end zero xs x h = refl
  drop_end (suc i) (y ∷ xs) x h = drop_end i xs x (omega arith)
  drop_end (suc i) [] x h = absurd (omega arith)

  length_end : (xs : List Operation) (x : Operation) → length (xs ++ x ∷ []) ≡ suc (length xs)
  length_end [] x = refl
  length_end (y ∷ xs) x = ap suc (length_end xs x)

  pushed_notes : (x : Frame) (m : Note Name) → x.note ≡ m → (l : Link) (y : Way) → WayMirrors l y → WayMirrors (machine.pushed m l) (numbers.pushed x y)
  unfolding machine.pushed numbers.pushed
  pushed_notes x m e l y h = by l.cut y.cut h.cut
    where
      by : (a b : Bool) → b ≡ a → WayMirrors (elim a [ true ↦ record l { log = l.log ++ m ∷ [] } | false ↦ record l { notes = l.notes ++ m ∷ []; log = l.log ++ m ∷ [] } ]) (elim b [ true ↦ y | false ↦ record y { frames = y.frames ++ x ∷ [] } ])
      by true true i = record { from = h.from; to = h.to; cut = h.cut; notes = h.notes }
      by false false i = record { from = h.from; to = h.to; cut = h.cut; notes = map_end note_of y.frames x ∙ (ap (λ ns. ns ++ x.note ∷ []) h.notes ∙ ap (λ z. l.notes ++ z ∷ []) e) }
      by true false i = cc
      by false true i = cc

  -- pushed where the way is not cut
  abbrev one : Bool → Frame → Way → Way
  one b x y = elim b [ true ↦ y | false ↦ record y { frames = y.frames ++ x ∷ [] } ]

  one_ends : (b : Bool) (x : Frame) (y : Way) → ((one b x y).from ≡ y.from) × ((one b x y).to ≡ y.to) × ((one b x y).cut ≡ y.cut)
  one_ends true x y = (refl, refl, refl)
  one_ends false x y = (refl, refl, refl)

  pushed_ends : (x : Frame) (y : Way) → ((numbers.pushed x y).from ≡ y.from) × ((numbers.pushed x y).to ≡ y.to) × ((numbers.pushed x y).cut ≡ y.cut)
  unfolding numbers.pushed
  pushed_ends x y = one_ends y.cut x y

  pushed_on : (x : Frame) (y : Way) → y.cut ≡ false → (numbers.pushed x y).frames ≡ y.frames ++ x ∷ []
  unfolding numbers.pushed
  pushed_on x y e = ap (λ b. (one b x y).frames) e

  due_same : (c d g h : Connected) (y : Way) → g.written ≡ c.written → h.heard ≡ d.heard → FramesDue c d y → FramesDue g h y
  due_same c d g h y e i k = record { ops = rw (e, i) k.ops; arrived = rw (e, i) k.arrived }

  due_more : (c d g h : Connected) (x : Frame) (o : Operation) (y z : Way) → x.op ≡ o → g.written ≡ c.written ++ o ∷ [] → h.heard ≡ d.heard → z.frames ≡ y.frames ++ x ∷ [] → FramesDue c d y → FramesDue g h z
  due_more c d g h x o y z e i j k l = record {
    ops = ap (map op_of) k ∙ map_end op_of y.frames x ∙ ap (λ os. os ++ x.op ∷ []) l.ops ∙ ap (λ a. drop d.heard c.written ++ a ∷ []) e ∙ sym (drop_end d.heard c.written o l.arrived) ∙ ap (drop d.heard) (sym i) ∙ ap (λ a. drop a g.written) (sym j);
    arrived = let a = l.arrived in let b : length g.written ≡ suc (length c.written) = ap length i ∙ length_end c.written o in omega arith;
  }

  module _ (v : ℕ) (x : Frame) (m : Note Name) (ds : List Connected) (xs : List Way) (op_so : v < n → x.op ≡ frame_now (sight u v) m (connected_at u v ds).tables) (due : AllDue n ds xs) where
    abbrev es : List Connected
    es = after_put m u v ds

    abbrev DueAt : ℕ → ℕ → Way → Type 0
    DueAt a b y = (a < n) × (b < n) × (y.cut ≡ false → FramesDue (connected_at a b es) (connected_at b a es) y)

    due_here : (y z : Way) → way_at u v xs ≡ Some y → z ≡ numbers.pushed x y → DueAt u v z
    due_here y z e i =
        let k = due u v y e in (
          k.0,
          k.1,
          λ c.
              let uncut : y.cut ≡ false = sym (pushed_ends x y).2 ∙ ap (λ (w : Way). w.cut) (sym i) ∙ c in
              due_more (connected_at u v ds) (connected_at v u ds) (connected_at u v es) (connected_at v u es) x (frame_now (sight u v) m (connected_at u v ds).tables) y z (op_so k.1) (put_frames m u v ds) (put_heard m u v v u ds) (ap (λ (w : Way). w.frames) i ∙ pushed_on x y uncut) (k.2 uncut),
        )

    due_there : (a b : ℕ) (y : Way) → (u ≡ a → v ≡ b → ⊥) → way_at a b xs ≡ Some y → DueAt a b y
    due_there a b y f e = let k = due a b y e in (k.0, k.1, λ c. due_same (connected_at a b ds) (connected_at b a ds) (connected_at a b es) (connected_at b a es) y (ap (λ (c : Connected). c.written) (put_other m u v a b ds f)) (put_heard m u v b a ds) (k.2 c))

    push_due : AllDue n es (with_way (numbers.pushed x) u v xs)
    push_due a b y e = by (way_came (numbers.pushed x) (λ z. (pushed_ends x z).0) (λ z. (pushed_ends x z).1) u v a b xs y e)
      where
        by : Came (numbers.pushed x) (λ z. (pushed_ends x z).0) (λ z. (pushed_ends x z).1) u v a b xs y → DueAt a b y
        by (inl h) = subst (λ w. DueAt a w y) h.1 (subst (λ w. DueAt w v y) h.0 (due_here h.2.0 y (subst (λ w. way_at u w xs ≡ Some h.2.0) (sym h.1) (subst (λ w. way_at w b xs ≡ Some h.2.0) (sym h.0) h.2.1)) h.2.2))
        by (inr h) = due_there a b y h.0 h.1

  abbrev Pushed : (Local → Name) → List (Put Local) → List (Put Name) → List (Connection Local) → List Connected → List Link → List Way → Type 0
  Pushed f ps qs cs ds ls xs = WaysMirror (machine.push_all u qs ls) (numbers.push_all u (frames_of p f ps cs) xs) × AllDue n (write_all u qs ds) (numbers.push_all u (frames_of p f ps cs) xs)

  ways_mirror : (f : Local → Name) (ps : List (Put Local)) (qs : List (Put Name)) → map (maps.put (found u t)) ps ≡ map (maps.put Is) qs → map (maps.put f) ps ≡ qs → AllPutSo qs → (cs : List (Connection Local)) (ds : List Connected) → length cs ≡ n → ConnectionsMirror u t n cs ds → HoldReferences u n ds
      → (ls : List Link) (xs : List Way) → WaysMirror ls xs → AllDue n ds xs → Pushed f ps qs cs ds ls xs
  unfolding write_all written_on frames_of machine.push_all numbers.push_all
  ways_mirror f [] [] e g h cs ds l i j ls xs a b = (a, b)
  ways_mirror f (x ∷ ps) (y ∷ qs) e g h cs ds l i j ls xs a b =
      let same : maps.put (found u t) x ≡ maps.put Is y = cc in
      let rest : map (maps.put (found u t)) ps ≡ map (maps.put Is) qs = cc in
      let named : maps.put f x ≡ y = cc in
      let others : map (maps.put f) ps ≡ qs = cc in
      let to : x.to ≡ y.to = ap (λ (z : Put Found). z.to) same in
      let note : maps.note (found u t) x.note ≡ maps.note Is y.note = ap (λ (z : Put Found). z.note) same in
      let so : PutSo x.to y.note = subst (λ v. PutSo v y.note) (sym to) h.0 in
      let frame : Frame = record { note = maps.note f x.note; op = frame_now (sight_for p x.note) x.note (get_or cs x.to unconnected) } in
      let said : frame.note ≡ y.note = ap (λ (z : Put Name). z.note) named in
      let op_so : x.to < n → frame.op ≡ frame_now (sight u x.to) y.note (connected_at u x.to ds).tables = λ k. (frame_so x.to x.note y.note (get_or cs x.to unconnected) (connected_at u x.to ds).tables note so (i x.to k) (j x.to k)).0 in
      let done = ways_mirror f ps qs rest others h.1 (next x.to x.note cs) (after_put y.note u x.to ds) (next_length x.to x.note cs ∙ l) (next_mirror x.to x.note y.note cs ds note so l i j) (next_holds x.to y.note ds so j)
      (with_link (machine.pushed y.note) u x.to ls) (with_way (numbers.pushed frame) u x.to xs) (with_mirrors (machine.pushed y.note) (numbers.pushed frame) (pushed_notes frame y.note said) u x.to ls xs a) (push_due x.to frame y.note ds xs op_so b) in
      subst (λ v. WaysMirror (machine.push_all u qs (with_link (machine.pushed y.note) u v ls)) (numbers.push_all u (frames_of p f ps (next x.to x.note cs)) (with_way (numbers.pushed frame) u x.to xs)) × AllDue n (write_all u qs (after_put y.note u v ds)) (numbers.push_all u (frames_of p f ps (next x.to x.note cs)) (with_way (numbers.pushed frame) u x.to xs))) to done
  ways_mirror f [] (y ∷ qs) e g h cs ds l i j ls xs a b = cc
  ways_mirror f (x ∷ ps) [] e g h cs ds l i j ls xs a b = cc

-- all of it, from what is asked of the state
all_so : (u : ℕ) (qs : List (Put Name)) → AllOf (λ (p : Put Name). NoteMay refers p.note) qs → AllOf (λ (p : Put Name). AllOf (λ n. refers n ≡ true) (asked_in (sight u p.to) p.note)) qs → AllOf (λ (p : Put Name). NamesItsAnswer p.to p.note) qs
    → AllOf (λ (q : Put Name). NoteMay refers q.note × AllOf (λ x. refers x ≡ true) (asked_in (sight u q.to) q.note) × NamesItsAnswer q.to q.note) qs
all_so u [] h k l = tt
all_so u (q ∷ qs) h k l = ((h.0, k.0, l.0), all_so u qs h.1 k.1 l.1)

pub writings_mirror : WritingsMirror
writings_mirror u n t good r p stands names so f named cs ds l i j =
    let puts : map (maps.put (found u t)) p.outbox ≡ map (maps.put Is) r.outbox = ap (λ (z : Vat Found). z.outbox) stands in
    let said : map (maps.put f) p.outbox ≡ r.outbox = ap (λ (z : Vat Name). z.outbox) named in
    let all = all_so u r.outbox so.referring so.asking so.answers in (
      all_mirror u n t good r p stands names so p.outbox r.outbox puts all cs ds l i j,
      λ ls xs a b. ways_mirror u n t good r p stands names so f p.outbox r.outbox puts said all cs ds l i j ls xs a b,
    )
