-- A note that comes to a hostile vat leaves the two runs standing for one another.
use Rattle.std.proofs.Common.{◌≡◌, ℕ, zero, ◌<◌, Bool, true, false, List, [], ◌∷◌, ◌++◌, ◌⊎◌, inl, inr, Option, Some, None, refl, sym, ap, ◌∙◌, subst, length, map, drop, arith, append-nil}
use Rattle.std.specs.Prelude.{slice_get, ◌==◌}
use Rattle.def_op.specs.Frames.{spelling}
use Rattle.def_machine.specs.Arrive as machine
use Rattle.def_machine.specs.Arrive.{Incoming, Old, New}
use Rattle.def_machine.specs.State.{Known, Note, Put, Happened, Deliver, Vat, Done, Gives, ◌>>=◌, ◌>>◌, and_then, give, come, mail, begun}
use Rattle.def_machine.specs.Values.{Name, IsLearnt, IsCarried, answer_of}
use Rattle.def_run.specs.Deeds.{perform, hear_message, hear}
use Rattle.def_run.specs.Numbers.{Frame, Way, Vats, way_at, with_way, ready}
use Rattle.def_run.specs.Vats.{Member, connection_for}
use Rattle.def_run.specs.Wire.{Connected, connected_at, frame_bytes, hear_at, write_all}
use Rattle.def_run.specs.World as world
use Rattle.def_run.specs.World.{Script, Event, Carried, Idle, Link, World, Run, link_at, with_link, with_notes, put_at, readied, put_back, within, next_frame, connections_after, heard_by, events_of, push_all, read_name, names_of, left_held, left_wait, left_vat}
use Rattle.def_hostile.specs.Hostile as names
use Rattle.def_hostile.specs.Hostile.{Play, Scene, is_hostile}
use Rattle.def_hostile.specs.Numbers as numbers
use Rattle.def_hostile.specs.Numbers.{Cast}
use Rattle.def_hostile.specs.Outsiders.{Outsider}
use Rattle.law_fate.specs.Name.Names.{names_in}
use Rattle.law_machine.specs.Renamed.Stands.{Table, Is, found, StandsFor}
use Rattle.law_reference.specs.Reference.Exports.{object_of}
use Rattle.law_frame.specs.Frame.OwnFrames.{refers}
use Rattle.law_frame.specs.Frame.Together.{TablesMay, changed_tables}
use Rattle.law_frame.specs.Local.Mirrors.{LearntAre, HoldReferences}
use Rattle.law_frame.specs.Local.Writing.{AllDue}
use Rattle.law_frame.proofs.Frame.Places.{same_or}
use Rattle.law_frame.proofs.Local.CarryLinks.{ways_taken, heard_there, frame_first}
use Rattle.law_frame.proofs.Local.Steps.{put_beside, put_here, put_length}
use Rattle.law_frame.proofs.Local.Positions.{there_is}
use Rattle.law_frame.proofs.Local.Ways.{MayMirror, at_mirrors}
use Rattle.law_hostile_frame.specs.Mirrors.{HonestMirrors, OutsiderMirrors, SceneMirrors, ActsMirror}
use Rattle.law_hostile_frame.specs.Tables.{had_at, table_in}
use Rattle.law_hostile_frame.proofs.Cuts.{lines_joined}
use Rattle.law_hostile_frame.proofs.Steps.{events_mirror}
use Rattle.law_hostile_mirror.specs.Swallows.{HearingRefers, CarriesToHostileVatsMirror}
use Rattle.law_hostile_mirror.proofs.Links.{made_taken, exports_same, due_off}

-- ---- what the record of a hostile vat does with a note

-- names and messages come to be known, and nothing else
pub record Quiet (script : Script) (s r : Vat Name) : Type 0 where
  pub fuel : r.fuel ≡ s.fuel
  pub drawn : r.drawn ≡ s.drawn
  pub things : r.things ≡ s.things
  pub promises : r.promises ≡ s.promises
  pub messages : r.messages ≡ s.messages
  pub outbox : r.outbox ≡ s.outbox
  pub happened : r.happened ≡ s.happened
  pub left : left_vat script r ≡ left_vat script s

abbrev Swallowed : {A : Type 0} → Script → Vat Name → Done Name A → Type 0
Swallowed script s (Gives a r) = Quiet script s r
Swallowed script s other = ⊥

pub held_end : (script : Script) (v : ℕ) (ks : List (Known Name)) (n : Name) (h : ℕ) → left_held script v (ks ++ begun n h ∷ []) ≡ left_held script v ks
unfolding left_held begun
held_end script v [] n h = refl
held_end script v (k ∷ ks) n h = ap (λ es. map (λ m. world.LeftHeld v k.name m.id) k.held ++ es) (held_end script v ks n h)

pub wait_end : (script : Script) (v : ℕ) (ks : List (Known Name)) (n : Name) (h : ℕ) → left_wait script v (ks ++ begun n h ∷ []) ≡ left_wait script v ks
unfolding left_wait begun
wait_end script v [] n h = refl
wait_end script v (k ∷ ks) n h = ap (λ es. map (λ m. world.LeftWait v k.name m.id) k.reactions ++ es) (wait_end script v ks n h)

with_one : (script : Script) (s : Vat Name) (ns : List Name) (n : Name) (h : ℕ) → Quiet script s (record s { mails = ns; known = s.known ++ begun n h ∷ [] })
unfolding left_vat
with_one script s ns n h = record {
  fuel = refl;
  drawn = refl;
  things = refl;
  promises = refl;
  messages = refl;
  outbox = refl;
  happened = refl;
  left = both (map (λ m. world.LeftQueue s.number m.id) s.queue) (held_end script s.number s.known n h) (wait_end script s.number s.known n h);
}
  where
    both : (e : List Event) {a b c d : List Event} → a ≡ b → c ≡ d → e ++ a ++ c ≡ e ++ b ++ d
    both e i j = cc

with_mail : (script : Script) (s : Vat Name) (ns : List Name) → Quiet script s (record s { mails = ns })
unfolding left_vat
with_mail script s ns = record { fuel = refl; drawn = refl; things = refl; promises = refl; messages = refl; outbox = refl; happened = refl; left = refl }

learns_by : (script : Script) (u : ℕ) (s : Vat Name) (ns : List Name) (x : Incoming Name Name) → Swallowed script s ((machine.learn_name (world.names script u) x >> give (tt {0})) (record s { mails = ns }))
unfolding machine.learn_name ◌>>◌ ◌>>=◌ and_then give come
learns_by script u s ns (Old n) = with_mail script s ns
learns_by script u s ns (New x h) = with_one script s ns ((world.names script u).made (IsLearnt x) (length s.known)) h

note_swallowed : (script : Script) (u : ℕ) (n : Note Name) (s : Vat Name) → Swallowed script s (hear script u n s)
unfolding hear hear_message perform machine.learn_message mail ◌>>◌ ◌>>=◌ and_then give names_of
note_swallowed script u (Deliver d x verb ys) s = by d.asks
  where
    id : Name
    id = (world.names script u).mailed (IsCarried d.message) (length s.mails)

    by : (b : Bool) → Swallowed script s (hear_message script u d.message b s)
    by true = learns_by script u s (s.mails ++ id ∷ []) (read_name (names_in s.known) (answer_of u id))
    by false = with_mail script s (s.mails ++ id ∷ [])
note_swallowed script u other s = record { fuel = refl; drawn = refl; things = refl; promises = refl; messages = refl; outbox = refl; happened = refl; left = refl }

-- ---- what it leaves

module _ (play : Play) (v u k : ℕ) (s : Scene) (c : Cast) (h : SceneMirrors play s c) (other : v ≡ u → ⊥) (bad : is_hostile play u ≡ true) (l : Link) (at : link_at v u s.world.links ≡ Some l) (uncut : l.cut ≡ false)
    (way : Way) (on : way_at v u c.vats.ways ≡ Some way) (clear : way.cut ≡ false) (f : Frame) (fs : List Frame) (frames : way.frames ≡ f ∷ fs) (ns : List (Note Name)) (rest : map (λ (g : Frame). g.note) fs ≡ ns)
    (refer : HoldReferences u (length s.world.vats) (hear_at v u f.note s.world.connections)) (t : Vat Name) (there : slice_get s.world.vats u ≡ Some t) (r : Vat Name) (quiet : Quiet play.script (readied s.world t) r) where
  abbrev x : World
  x = s.world

  abbrev X : Vats
  X = c.vats

  abbrev n : Note Name
  n = f.note

  abbrev ds : List Connected
  ds = hear_at v u n x.connections

  abbrev line : List Event
  line = Carried k v u n (spelling f.op) ∷ []

  abbrev y : World
  y = record { fuel = r.fuel; drawn = r.drawn; vats = put_at u r x.vats; links = with_link (with_notes ns) v u x.links; connections = ds; history = x.history ++ line }

  abbrev Y : Vats
  Y = record X { ways = with_way (λ a. record a { frames = fs }) v u X.ways; history = X.history ++ line }

  same_fuel : r.fuel ≡ x.fuel
  unfolding readied
  same_fuel = quiet.fuel

  same_drawn : r.drawn ≡ x.drawn
  unfolding readied
  same_drawn = quiet.drawn

  -- what others have exported
  abbrev had_or : Bool → List Name → ℕ → Option ℕ
  had_or b xs q = elim b [ true ↦ None | false ↦ object_of (slice_get xs q) ]

  had_one : (z g q : ℕ) → had_at ds z g q ≡ had_at x.connections z g q
  unfolding had_at
  had_one z g q = ap (λ xs. had_or (z == g) xs q) (exports_same n v u x.connections other g z)

  had_all : (z : ℕ) → had_at ds z ≡ had_at x.connections z
  had_all z = λ i g q. had_one z g q i

  abbrev with_exports : Vat Name → (ℕ → ℕ → Option ℕ) → Table
  with_exports q e = record { names = names_in q.known; mails = q.mails; exports = e }

  table_is : (z : ℕ) (q : Vat Name) → table_in y z q ≡ table_in x z q
  unfolding table_in
  table_is z q = ap (with_exports q) (had_all z)

  apart_from : (z : ℕ) → is_hostile play z ≡ false → u ≡ z → ⊥
  apart_from z e i = clash (is_hostile play z) (sym (ap (is_hostile play) i) ∙ bad) e
    where
      clash : (b : Bool) → b ≡ true → b ≡ false → ⊥
      clash b j k = cc

  with_both : (a : Vat Name) → record a { fuel = r.fuel; drawn = r.drawn; outbox = []; happened = [] } ≡ record a { fuel = x.fuel; drawn = x.drawn; outbox = []; happened = [] }
  with_both a = ap (λ o. record a { fuel = o; drawn = r.drawn; outbox = []; happened = [] }) same_fuel ∙ ap (λ o. record a { fuel = x.fuel; drawn = o; outbox = []; happened = [] }) same_drawn

  ready_same : (q : Vat Name) → readied y q ≡ readied x q
  unfolding readied
  ready_same q = with_both q

  module _ (z : ℕ) (q : Vat Name) (m : Member) (apart : u ≡ z → ⊥) where
    honest_stays : HonestMirrors play x X z q m → HonestMirrors play y Y z q m
    unfolding ready
    honest_stays o = record {
      vat = record {
        placed = o.vat.placed;
        stands = subst (λ (a : Table). StandsFor z a (ready X m.vat) (readied y q)) (sym (table_is z q)) (subst (λ b. StandsFor z (table_in x z q) (ready X m.vat) b) (sym (ready_same q)) o.vat.stands);
        known = o.vat.known;
        mails = o.vat.mails;
        positions = λ g p j e. o.vat.positions g p j (sym (had_one z g p) ∙ e);
        peers = o.vat.peers;
        connections = λ w i. subst (λ (a : Table). changed_tables (found z a) (connection_for w m) ≡ changed_tables Is (connected_at z w ds).tables) (sym (table_is z q)) (o.vat.connections w i ∙ ap (λ (d : Connected). changed_tables Is d.tables) (sym (heard_there n v u x.connections other z w (λ a b. apart a))));
        learnt = subst (λ (a : Table). LearntAre z a m.learnt) (sym (table_is z q)) o.vat.learnt;
      };
      knows = o.knows;
    }

  module _ (z : ℕ) (o : Outsider) (g : Member) where
    outsider_stays : (q p : Vat Name) → p.things ≡ q.things → p.promises ≡ q.promises → p.messages ≡ q.messages → left_vat play.script p ≡ left_vat play.script q → OutsiderMirrors x X play z q o g → OutsiderMirrors y Y play z p o g
    outsider_stays q p a b d e i = record {
      objects = i.objects ∙ sym (ap length a);
      promises = i.promises ∙ sym b;
      messages = i.messages ∙ sym d;
      exports = λ w j. i.exports w j ∙ sym (exports_same n v u x.connections other z w);
      plain = i.plain;
      peers = i.peers;
      idle = e ∙ i.idle;
      empty = i.empty;
    }

  left_ready : left_vat play.script (readied x t) ≡ left_vat play.script t
  unfolding left_vat readied
  left_ready = refl

  things_ready : ((readied x t).things ≡ t.things) × ((readied x t).promises ≡ t.promises) × ((readied x t).messages ≡ t.messages)
  unfolding readied
  things_ready = (refl, refl, refl)

  each_hostile : (z : ℕ) (q : Vat Name) (o : Outsider) (g : Member) → is_hostile play z ≡ true → slice_get y.vats z ≡ Some q → slice_get c.outsiders z ≡ Some o → slice_get Y.members z ≡ Some g → OutsiderMirrors y Y play z q o g
  each_hostile z q o g e i j m = by (same_or u u z z)
    where
      by : ((u ≡ z) × (u ≡ z)) ⊎ (u ≡ z → u ≡ z → ⊥) → OutsiderMirrors y Y play z q o g
      by (inl a) =
          let b : q ≡ r = put_here x.vats u r q (ap (slice_get (put_at u r x.vats)) a.0 ∙ i) in
          let w = things_ready in
          let old : slice_get x.vats z ≡ Some t = ap (slice_get x.vats) (sym a.0) ∙ there in
          subst (λ (p : Vat Name). OutsiderMirrors y Y play z p o g) (sym b) (outsider_stays z o g t r (quiet.things ∙ w.0) (quiet.promises ∙ w.1) (quiet.messages ∙ w.2) (quiet.left ∙ left_ready) (h.hostile z t o g e old j m))
      by (inr a) =
          let was : slice_get x.vats z ≡ Some q = sym (put_beside x.vats u z r (λ b. a b b)) ∙ i in
          outsider_stays z o g q q refl refl refl refl (h.hostile z q o g e was j m)

  refer_all : (z : ℕ) → z < length X.members → HoldReferences z (length X.members) ds
  refer_all z i = by (same_or u u z z)
    where
      by : ((u ≡ z) × (u ≡ z)) ⊎ (u ≡ z → u ≡ z → ⊥) → HoldReferences z (length X.members) ds
      by (inl a) = subst (λ b. HoldReferences b (length X.members) ds) a.0 (subst (λ m. HoldReferences u m ds) (sym h.count) refer)
      by (inr a) = λ w j. subst (λ (d : Connected). TablesMay refers d.tables) (sym (heard_there n v u x.connections other z w (λ b e. a b b))) (h.references z i w j)

  dues : AllDue (length X.members) ds Y.ways
  dues = due_off n v u x.connections other (length X.members) X.ways h.ends h.frames way on clear f fs frames

  swallows_so : (ls ks : List names.Line) → ks ≡ ls → SceneMirrors play (record s { world = y; lines = ls }) (record c { vats = Y; lines = ks })
  swallows_so ls ks e = record {
    fuel = h.fuel ∙ sym same_fuel;
    drawn = h.drawn ∙ sym same_drawn;
    history = ap (λ es. es ++ line) h.history;
    lines = e;
    raws = h.raws;
    claims = h.claims;
    made = λ a b. h.made a b ∙ sym (made_taken play.hostile a b v u ns x.links);
    puts = h.puts;
    count = h.count ∙ sym (put_length x.vats u r);
    outsiders = h.outsiders ∙ sym (put_length x.vats u r);
    ways = ways_taken ns fs rest v u x.links X.ways h.ways;
    ends = λ a b w i. let d = dues a b w i in (d.0, d.1);
    frames = λ a b w i j. (dues a b w i).2 j;
    references = refer_all;
    honest = λ z q m e i j. honest_stays z q m (apart_from z e) (h.honest z q m e (sym (put_beside x.vats u z r (apart_from z e)) ∙ i) j);
    hostile = each_hostile;
  }

  -- ---- both

  bytes : next_frame v u x.connections ≡ spelling f.op
  unfolding next_frame frame_bytes
  bytes = ap frame_bytes (frame_first (connected_at v u x.connections) (connected_at u v x.connections) way f fs (h.frames v u way on clear) frames).0

  told_drop : {A : Type 0} (xs ys : List A) → drop (length xs) (xs ++ ys) ≡ ys
  told_drop [] ys = refl
  told_drop (a ∷ xs) ys = told_drop xs ys

  abbrev popped : World
  popped = record x { links = with_link (with_notes ns) v u x.links }

  abbrev leaving : List Event → List (Put Name) → List (Happened Name) → World
  leaving es qs hs = record { fuel = r.fuel; drawn = r.drawn; vats = put_at u r x.vats; links = push_all u qs popped.links; connections = write_all u qs ds; history = x.history ++ es ++ events_of popped.links u hs }

  none_put : r.outbox ≡ []
  unfolding readied
  none_put = quiet.outbox

  none_told : r.happened ≡ []
  unfolding readied
  none_told = quiet.happened

  is_left : leaving (Carried k v u n (next_frame v u x.connections) ∷ []) r.outbox r.happened ≡ y
  unfolding push_all write_all events_of
  is_left =
      ap (λ b. leaving (Carried k v u n b ∷ []) r.outbox r.happened) bytes ∙ ap (λ qs. leaving line qs r.happened) none_put ∙ ap (leaving line []) none_told
      ∙ ap (λ (es : List Event). record y { history = es }) (append-nil (x.history ++ line))

  abbrev after : Cast
  after = record c { vats = Y; lines = c.lines ++ names.Told (Carried k v u n (spelling f.op)) ∷ [] }

  -- the record goes so, and the line is told
  pub goes_so : ActsMirror play (names.acted (names.step_of play k) s [] (put_back u popped (Carried k v u n (next_frame v u x.connections) ∷ []) zero (Gives tt r)))
      (numbers.happens (Carried k v u n (spelling f.op)) (record c { vats = record X { ways = with_way (λ a. record a { frames = fs }) v u X.ways } }))
  unfolding put_back connections_after heard_by names.acted numbers.happens names.told_since
  goes_so = subst (λ z. SceneMirrors play (record s { world = z; lines = s.lines ++ [] ++ names.told_since x z }) after) (sym is_left)
      (swallows_so (s.lines ++ [] ++ names.told_since x y) (c.lines ++ names.Told (Carried k v u n (spelling f.op)) ∷ [])
      (lines_joined (h.lines ∙ sym (append-nil s.lines)) (sym (ap (map names.Told) (told_drop x.history line)))))

-- ---- the entry

module _ (play : Play) (v u k : ℕ) (s : Scene) (c : Cast) (h : SceneMirrors play s c) (other : v ≡ u → ⊥) (bad : is_hostile play u ≡ true) (refers_on : HearingRefers v u s.world) where
  none_there : ActsMirror play (names.happens (Idle k) s) (numbers.happens (Idle k) c)
  none_there = events_mirror play (Idle k) s c h

  swallows_by : (l : Link) (way : Way) → link_at v u s.world.links ≡ Some l → way_at v u c.vats.ways ≡ Some way → l.cut ≡ false → way.cut ≡ false → (f : Frame) (fs : List Frame) → way.frames ≡ f ∷ fs → l.notes ≡ f.note ∷ map (λ (g : Frame). g.note) fs
      → (t : Vat Name) → slice_get s.world.vats u ≡ Some t → (o : Option (Vat Name)) → o ≡ Some t
      → ActsMirror play (names.acted (names.step_of play k) s [] (names.swallows play k v u (record s.world { links = with_link (with_notes (map (λ (g : Frame). g.note) fs)) v u s.world.links }) f.note o))
      (numbers.happens (Carried k v u f.note (spelling f.op)) (record c { vats = record c.vats { ways = with_way (λ a. record a { frames = fs }) v u c.vats.ways } }))
  unfolding names.swallows within readied
  swallows_by l way at on uncut clear f fs frames notes t there None e = cc
  swallows_by l way at on uncut clear f fs frames notes t there (Some z) e =
      let same : z ≡ t = cc in
      by (hear play.script u f.note (readied (record s.world { links = with_link (with_notes (map (λ (g : Frame). g.note) fs)) v u s.world.links }) z)) (subst (λ (a : Vat Name). Swallowed play.script (readied s.world a) (hear play.script u f.note (readied (record s.world { links = with_link (with_notes (map (λ (g : Frame). g.note) fs)) v u s.world.links }) z))) same (swallowed z))
    where
      swallowed : (a : Vat Name) → Swallowed play.script (readied s.world a) (hear play.script u f.note (readied (record s.world { links = with_link (with_notes (map (λ (g : Frame). g.note) fs)) v u s.world.links }) a))
      swallowed a = note_swallowed play.script u f.note (readied s.world a)

      by : (d : Done Name (Unit {0})) → Swallowed play.script (readied s.world t) d
          → ActsMirror play (names.acted (names.step_of play k) s [] (put_back u (record s.world { links = with_link (with_notes (map (λ (g : Frame). g.note) fs)) v u s.world.links }) (Carried k v u f.note (next_frame v u s.world.connections) ∷ []) zero d))
          (numbers.happens (Carried k v u f.note (spelling f.op)) (record c { vats = record c.vats { ways = with_way (λ a. record a { frames = fs }) v u c.vats.ways } }))
      by (Gives tt r) q = goes_so play v u k s c h other bad l at uncut way on clear f fs frames (map (λ (g : Frame). g.note) fs) refl (refers_on l f.note (map (λ (g : Frame). g.note) fs) at uncut notes) t there r q
      by other q = absurd q

  notes_by : (l : Link) (way : Way) → link_at v u s.world.links ≡ Some l → way_at v u c.vats.ways ≡ Some way → l.cut ≡ false → way.cut ≡ false → (fs : List Frame) → way.frames ≡ fs → (ns : List (Note Name)) → l.notes ≡ ns → map (λ (g : Frame). g.note) fs ≡ ns → u < length c.vats.members
      → ActsMirror play (names.carry_notes play k v u s ns) (numbers.carry_frames play k v u c fs)
  unfolding names.carry_notes numbers.carry_frames names.comes numbers.comes
  notes_by l way at on uncut clear [] frames [] notes e i = none_there
  notes_by l way at on uncut clear (f ∷ fs) frames (n ∷ ns) notes e i =
      let first : f.note ≡ n = cc in let rest : map (λ (g : Frame). g.note) fs ≡ ns = cc in
      let t = there_is s.world.vats u (let z = h.count in omega arith) in
      subst (λ ms. ActsMirror play (names.acted (names.step_of play k) s [] (names.comes play (is_hostile play u) k v u (record s.world { links = with_link (with_notes ms) v u s.world.links }) n)) (numbers.comes play (is_hostile play u) k v u c (record c.vats { ways = with_way (λ a. record a { frames = fs }) v u c.vats.ways }) f)) rest
      (subst (λ m. ActsMirror play (names.acted (names.step_of play k) s [] (names.comes play (is_hostile play u) k v u (record s.world { links = with_link (with_notes (map (λ (g : Frame). g.note) fs)) v u s.world.links }) m)) (numbers.comes play (is_hostile play u) k v u c (record c.vats { ways = with_way (λ a. record a { frames = fs }) v u c.vats.ways }) f)) first
      (by (is_hostile play u) bad (swallows_by l way at on uncut clear f fs frames (notes ∙ sym e) t.0 t.1 (slice_get s.world.vats u) t.1)))
    where
      by : (b : Bool) → b ≡ true
          → ActsMirror play (names.acted (names.step_of play k) s [] (names.swallows play k v u (record s.world { links = with_link (with_notes (map (λ (g : Frame). g.note) fs)) v u s.world.links }) f.note (slice_get s.world.vats u))) (numbers.happens (Carried k v u f.note (spelling f.op)) (record c { vats = record c.vats { ways = with_way (λ a. record a { frames = fs }) v u c.vats.ways } }))
          → ActsMirror play (names.acted (names.step_of play k) s [] (names.comes play b k v u (record s.world { links = with_link (with_notes (map (λ (g : Frame). g.note) fs)) v u s.world.links }) f.note)) (numbers.comes play b k v u c (record c.vats { ways = with_way (λ a. record a { frames = fs }) v u c.vats.ways }) f)
      by true j a = a
      by false j a = cc
  notes_by l way at on uncut clear [] frames (n ∷ ns) notes e i = cc
  notes_by l way at on uncut clear (f ∷ fs) frames [] notes e i = cc

  links_by : (o : Option Link) (p : Option Way) → MayMirror o p → link_at v u s.world.links ≡ o → way_at v u c.vats.ways ≡ p → ActsMirror play (names.carry_link play k v u s o) (numbers.carry_way play k v u c p)
  unfolding names.carry_link numbers.carry_way
  links_by None None m e i = none_there
  links_by (Some l) (Some w) m e i = by l.cut w.cut refl refl
    where
      by : (a b : Bool) → l.cut ≡ a → w.cut ≡ b → ActsMirror play (elim a [ true ↦ names.happens (Idle k) s | false ↦ names.carry_notes play k v u s l.notes ]) (elim b [ true ↦ numbers.happens (Idle k) c | false ↦ numbers.carry_frames play k v u c w.frames ])
      by true true x y = none_there
      by false false x y = notes_by l w e i x y w.frames refl l.notes refl m.notes (h.ends v u w i).1
      by true false x y = cc (sym y ∙ m.cut ∙ x)
      by false true x y = cc (sym y ∙ m.cut ∙ x)
  links_by (Some l) None m e i = absurd m
  links_by None (Some w) m e i = absurd m

pub carries_to_hostile_vats_mirror : CarriesToHostileVatsMirror
carries_to_hostile_vats_mirror play v u k s c other bad refers_on h = links_by play v u k s c h other bad refers_on (link_at v u s.world.links) (way_at v u c.vats.ways) (at_mirrors v u s.world.links c.vats.ways h.ways) refl refl
