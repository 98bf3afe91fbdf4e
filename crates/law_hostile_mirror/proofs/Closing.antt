-- What is left at the end is the same in both.
use Rattle.std.proofs.Common.{◌≡◌, ℕ, zero, suc, ◌+◌, Bool, true, false, List, [], ◌∷◌, ◌++◌, Some, refl, sym, ap, ◌∙◌, length, map, arith}
use Rattle.std.specs.Prelude.{slice_get}
use Rattle.std.proofs.lemmas.Option.{slice_get_within}
use Rattle.def_machine.specs.Maps as maps
use Rattle.def_machine.specs.State.{Known, Vat}
use Rattle.def_machine.specs.Values.{Name, Local}
use Rattle.def_run.specs.Numbers as run
use Rattle.def_run.specs.Numbers.{Frame, Way, Vats, name_at_vat, ready}
use Rattle.def_run.specs.Vats.{Member}
use Rattle.def_run.specs.World.{LeftQueue, LeftHeld, LeftWait, LeftLink, Ends, Link, World, readied, left_vats, left_vat, left_held, left_wait}
use Rattle.def_hostile.specs.Hostile as names
use Rattle.def_hostile.specs.Hostile.{Play, Scene, Line, Told, LeftFrame, Raw, frames_at, is_hostile}
use Rattle.def_hostile.specs.Numbers as numbers
use Rattle.def_hostile.specs.Numbers.{Cast}
use Rattle.law_frame.specs.Local.Mirrors.{WayMirrors, WaysMirror}
use Rattle.law_frame.proofs.Local.Named.{named}
use Rattle.law_frame.proofs.Local.Positions.{there_is}
use Rattle.law_hostile_frame.specs.Mirrors.{VatMirrors, SceneMirrors}
use Rattle.law_hostile_frame.specs.Tables.{table_in}
use Rattle.law_hostile_frame.proofs.Steps.{told}
use Rattle.law_hostile_mirror.specs.Plays.{ClosingsMirror}
use Rattle.law_hostile_mirror.proofs.Steps.{name_is}

map_map : {A B C : Type 0} (g : B → C) (f : A → B) (xs : List A) → map (λ x. g (f x)) xs ≡ map g (map f xs)
map_map g f [] = refl
map_map g f (x ∷ xs) = ap (λ ys. g (f x) ∷ ys) (map_map g f xs)

joined : {A : Type 0} {ws xs ys zs : List A} → ws ≡ xs → ys ≡ zs → ws ++ ys ≡ xs ++ zs
joined e i = cc

-- the state in names is that in numbers with each name in its number's place
pub state_named : (w : World) (W : Vats) (u : ℕ) (s : Vat Name) (m : Member) → VatMirrors w W u s m → maps.vat (name_at_vat W.members u m.names) (ready W m.vat) ≡ readied w s
state_named w W u s m h = named u (table_in w u s) (name_at_vat W.members u m.names) (name_is w W.members u s m.names h.known h.mails h.positions) (ready W m.vat) (readied w s) h.stands

module _ (play : Play) where
  held_same : (u : ℕ) (f : Local → Name) (ks : List (Known Local)) → run.left_held play.script u f ks ≡ left_held play.script u (map (maps.known f) ks)
  unfolding run.left_held left_held
  held_same u f [] = refl
  held_same u f (k ∷ ks) = joined (map_map (λ m. LeftHeld u (f k.name) m.id) (maps.message f) k.held) (held_same u f ks)

  wait_same : (u : ℕ) (f : Local → Name) (ks : List (Known Local)) → run.left_wait play.script u f ks ≡ left_wait play.script u (map (maps.known f) ks)
  unfolding run.left_wait left_wait
  wait_same u f [] = refl
  wait_same u f (k ∷ ks) = joined (map_map (λ m. LeftWait u (f k.name) m.id) (maps.message f) k.reactions) (wait_same u f ks)

  left_named : (u : ℕ) (f : Local → Name) (q : Vat Local) (s : Vat Name) → s.number ≡ u → map (maps.message f) q.queue ≡ s.queue → map (maps.known f) q.known ≡ s.known
      → map (λ x. LeftQueue u (f x.id)) q.queue ++ run.left_held play.script u f q.known ++ run.left_wait play.script u f q.known ≡ left_vat play.script s
  unfolding left_vat
  left_named u f q s e i j = rw (e) (joined (joined (map_map (λ m. LeftQueue u m.id) (maps.message f) q.queue ∙ ap (map (λ m. LeftQueue u m.id)) i) (held_same u f q.known ∙ ap (left_held play.script u) j)) (wait_same u f q.known ∙ ap (left_wait play.script u) j))

  honest_left : (w : World) (W : Vats) (u : ℕ) (s : Vat Name) (m : Member) → VatMirrors w W u s m → run.left_member play.script W.members u m ≡ left_vat play.script s
  unfolding run.left_member ready readied
  honest_left w W u s m h = let e = state_named w W u s m h in left_named u (name_at_vat W.members u m.names) m.vat s h.placed (ap (λ (z : Vat Name). z.queue) e) (ap (λ (z : Vat Name). z.known) e)

  -- vats from number u on
  members_left : (all : List Member) (ms : List Member) (ss : List (Vat Name)) (u : ℕ) → length ms ≡ length ss → ((i : ℕ) (s : Vat Name) (m : Member) → slice_get ss i ≡ Some s → slice_get ms i ≡ Some m → run.left_member play.script all (i + u) m ≡ left_vat play.script s)
      → run.left_members play.script all u ms ≡ left_vats play.script ss
  unfolding run.left_members left_vats
  members_left all [] [] u e h = refl
  members_left all (m ∷ ms) (s ∷ ss) u e h = let l : length ms ≡ length ss = omega arith in joined (first (h zero s m refl refl)) (members_left all ms ss (suc u) l (λ (i : ℕ) (t : Vat Name) (n : Member) (j : slice_get ss i ≡ Some t) (k : slice_get ms i ≡ Some n). next i t n (h (suc i) t n j k)))
    where
      first : run.left_member play.script all (zero + u) m ≡ left_vat play.script s → run.left_member play.script all u m ≡ left_vat play.script s
      first j = let k : zero + u ≡ u = omega arith in ap (λ x. run.left_member play.script all x m) (sym k) ∙ j

      next : (i : ℕ) (t : Vat Name) (n : Member) → run.left_member play.script all (suc i + u) n ≡ left_vat play.script t → run.left_member play.script all (i + suc u) n ≡ left_vat play.script t
      next i t n j = let k : i + suc u ≡ suc i + u = omega arith in ap (λ x. run.left_member play.script all x n) k ∙ j
  members_left all [] (s ∷ ss) u e h = cc
  members_left all (m ∷ ms) [] u e h = cc

  -- ---- ways

  way_left : (l : Link) (x : Way) → WayMirrors l x → map (λ (f : Frame). Told (LeftLink x.from x.to f.note)) x.frames ≡ map (λ n. Told (LeftLink l.from l.to n)) l.notes
  way_left l x h = rw (h.from, h.to) (map_map (λ n. Told (LeftLink l.from l.to n)) (λ (f : Frame). f.note) x.frames ∙ ap (map (λ n. Told (LeftLink l.from l.to n))) h.notes)

  raw_left : (l : Link) (x : Way) (rs : List Raw) → WayMirrors l x → map (LeftFrame x.from x.to) (frames_at x.from x.to rs) ≡ map (LeftFrame l.from l.to) (frames_at l.from l.to rs)
  raw_left l x rs h = rw (h.from, h.to) refl

  ways_left : (rs : List Raw) (ls : List Link) (xs : List Way) → WaysMirror ls xs → numbers.left_ways play rs xs ≡ names.left_links play rs ls
  unfolding numbers.left_ways names.left_links
  ways_left rs [] [] h = refl
  ways_left rs (l ∷ ls) (x ∷ xs) h = joined (joined (way_left l x h.0) (raw_left l x rs h.0)) (ways_left rs ls xs h.1)
  ways_left rs [] (x ∷ xs) h = absurd h
  ways_left rs (l ∷ ls) [] h = absurd h

  -- ---- a scene

  module _ (s : Scene) (c : Cast) (h : SceneMirrors play s c) where
    vat_left : (u : ℕ) (t : Vat Name) (m : Member) → slice_get s.world.vats u ≡ Some t → slice_get c.vats.members u ≡ Some m → (b : Bool) → is_hostile play u ≡ b → run.left_member play.script c.vats.members u m ≡ left_vat play.script t
    vat_left u t m e i false b = honest_left s.world c.vats u t m (h.honest u t m b e i).vat
    vat_left u t m e i true b =
        let o = there_is c.outsiders u (let k = h.outsiders in let w = slice_get_within s.world.vats u t e in omega arith) in
        let x = h.hostile u t o.0 m b e o.1 i in
        x.empty c.vats.members m.names ∙ sym x.idle

    at_zero : (u : ℕ) (t : Vat Name) (m : Member) → slice_get s.world.vats u ≡ Some t → slice_get c.vats.members u ≡ Some m → run.left_member play.script c.vats.members (u + zero) m ≡ left_vat play.script t
    at_zero u t m e i = let z : u + zero ≡ u = omega arith in ap (λ x. run.left_member play.script c.vats.members x m) z ∙ vat_left u t m e i (is_hostile play u) refl

    vats_left : run.left_members play.script c.vats.members zero c.vats.members ≡ left_vats play.script s.world.vats
    vats_left = members_left c.vats.members c.vats.members s.world.vats zero h.count at_zero

    all_left : numbers.left_ways play c.raws c.vats.ways ≡ names.left_links play s.raws s.world.links
    all_left = ap (λ rs. numbers.left_ways play rs c.vats.ways) h.raws ∙ ways_left s.raws s.world.links c.vats.ways h.ways

    closes_so : c.lines ++ map Told (run.left_members play.script c.vats.members zero c.vats.members) ++ numbers.left_ways play c.raws c.vats.ways ++ Told Ends ∷ [] ≡ s.lines ++ map Told (left_vats play.script s.world.vats) ++ names.left_links play s.raws s.world.links ++ Told Ends ∷ []
    closes_so = joined (joined (joined h.lines (ap (map Told) vats_left)) all_left) refl

pub closings_mirror : ClosingsMirror
unfolding names.closes numbers.closes
closings_mirror play s c h = told play s c s.world.history c.vats.history
    (s.lines ++ map Told (left_vats play.script s.world.vats) ++ names.left_links play s.raws s.world.links ++ Told Ends ∷ [])
    (c.lines ++ map Told (run.left_members play.script c.vats.members zero c.vats.members) ++ numbers.left_ways play c.raws c.vats.ways ++ Told Ends ∷ [])
    s.raws c.raws h h.history (closes_so play s c h) h.raws
