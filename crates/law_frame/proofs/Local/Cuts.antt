-- A cut of a link.
use Rattle.std.proofs.Common.{◌≡◌, ℕ, ◌<◌, length, Bool, true, false, List, [], ◌∷◌, ◌++◌, Option, Some, None, ◌⊎◌, inl, inr, refl, sym, ap, ◌∙◌, subst, map}
use Rattle.std.specs.Prelude.{option_map, slice_get, ◌==◌}
use Rattle.def_machine.specs.Values.{Name}
use Rattle.def_machine.specs.State.{Vat, Note, Deliver}
use Rattle.def_run.specs.Wire.{connected_at}
use Rattle.def_run.specs.World as machine
use Rattle.def_run.specs.World.{Script, Event, CutAt, LostCut, Link, World, link_at, with_link, severed_link, lost_by, lost_on, readied}
use Rattle.law_reference.specs.Reference.Logs.{log_of, roots_of, exports, questions}
use Rattle.law_reference.specs.Reference.Exports.{exported_at, object_of}
use Rattle.law_reference.specs.Reference.Tables.{table_of}
use Rattle.law_machine.specs.Renamed.Stands.{Table, Is, found, StandsFor}
use Rattle.law_frame.proofs.Frame.Places.{same_or, link_same, link_other}
use Rattle.law_frame.specs.Frame.Together.{changed_tables}
use Rattle.def_run.specs.Vats.{Member, connection_for}
use Rattle.def_run.specs.Numbers as numbers
use Rattle.def_run.specs.Numbers.{Frame, Way, Vats, severed, way_at, with_way, carried_in, lost_frames, ready}
use Rattle.law_frame.specs.Local.Mirrors.{Mirrors, VatMirrors, WayMirrors, WaysMirror, FramesDue, LearntAre}
use Rattle.law_frame.specs.Local.Statements.{CutsMirror}
use Rattle.law_frame.proofs.Local.Ways.{MayMirror, Came, at_mirrors, with_mirrors, way_came}

-- an object of others at that position
abbrev exported_or : Bool → List Name → ℕ → Option ℕ
exported_or b ns p = elim b [ true ↦ None | false ↦ object_of (slice_get ns p) ]

-- ---- a change of a link that leaves what was put

module _ (f : Link → Link) (from : (l : Link) → (f l).from ≡ l.from) (to : (l : Link) → (f l).to ≡ l.to) (log : (l : Link) → (f l).log ≡ l.log) (roots : (l : Link) → (f l).roots ≡ l.roots) where
  log_mapped : (o : Option Link) → (log_of (option_map f o) ≡ log_of o) × (roots_of (option_map f o) ≡ roots_of o)
  unfolding log_of roots_of
  log_mapped (Some l) = (log l, roots l)
  log_mapped None = (refl, refl)

  abbrev pub SameLogs : ℕ → ℕ → List Link → ℕ → ℕ → Type 0
  SameLogs a b ls v u = (log_of (link_at v u (with_link f a b ls)) ≡ log_of (link_at v u ls)) × (roots_of (link_at v u (with_link f a b ls)) ≡ roots_of (link_at v u ls))

  pub same_logs : (a b v u : ℕ) (ls : List Link) → SameLogs a b ls v u
  same_logs a b v u ls = by (same_or a b v u)
    where
      here : SameLogs a b ls a b
      here = let h = log_mapped (link_at a b ls) in let e = link_same f from to a b ls in (ap log_of e ∙ h.0, ap roots_of e ∙ h.1)

      by : ((a ≡ v) × (b ≡ u)) ⊎ (a ≡ v → b ≡ u → ⊥) → SameLogs a b ls v u
      by (inl h) = subst (λ d. SameLogs a b ls v d) h.1 (subst (λ c. SameLogs a b ls c b) h.0 here)
      by (inr n) = let e = link_other f from to a b v u ls n in (ap log_of e, ap roots_of e)

  pub same_exports : (a b h u : ℕ) (ls : List Link) → exports (λ i. i) (with_link f a b ls) h u ≡ exports (λ i. i) ls h u
  unfolding exports questions
  same_exports a b h u ls = let i = same_logs a b h u ls in let j = same_logs a b u h ls in rw (i.0, i.1, j.0) refl

  pub same_exported : (a b u : ℕ) (ls : List Link) → exported_at (with_link f a b ls) u ≡ exported_at ls u
  unfolding exported_at
  same_exported a b u ls = λ i h p. exported_at_same h p i
    where
      exported_at_same : (h p : ℕ) → exported_at (with_link f a b ls) u h p ≡ exported_at ls u h p
      exported_at_same h p = ap (λ (ns : List Name). exported_or (u == h) ns p) (same_exports a b h u ls)

-- ---- links cut on both sides

cut_exported : (v u t : ℕ) (ls : List Link) → exported_at (with_link severed_link u v (with_link severed_link v u ls)) t ≡ exported_at ls t
unfolding severed_link
cut_exported v u t ls = same_exported severed_link (λ l. refl) (λ l. refl) (λ l. refl) (λ l. refl) u v t (with_link severed_link v u ls) ∙ same_exported severed_link (λ l. refl) (λ l. refl) (λ l. refl) (λ l. refl) v u t ls

severed_mirrors : (l : Link) (x : Way) → WayMirrors l x → WayMirrors (severed_link l) (severed x)
unfolding severed_link severed
severed_mirrors l x h = record { from = h.from; to = h.to; cut = refl; notes = refl }

cut_ways : (v u : ℕ) (ls : List Link) (xs : List Way) → WaysMirror ls xs → WaysMirror (with_link severed_link u v (with_link severed_link v u ls)) (with_way severed u v (with_way severed v u xs))
cut_ways v u ls xs h = with_mirrors severed_link severed severed_mirrors u v (with_link severed_link v u ls) (with_way severed v u xs) (with_mirrors severed_link severed severed_mirrors v u ls xs h)

no_both : {A : Type 0} (c : Bool) → c ≡ true → c ≡ false → A
no_both c e f = cc

is_severed : (x y : Way) → x ≡ severed y → x.cut ≡ true
unfolding severed
is_severed x y i = ap (λ (z : Way). z.cut) i

-- a way that is not cut after it was there before
uncut_before : (a b v u : ℕ) (xs : List Way) (x : Way) → way_at v u (with_way severed a b xs) ≡ Some x → x.cut ≡ false → way_at v u xs ≡ Some x
unfolding severed
uncut_before a b v u xs x e c = by (way_came severed (λ y. refl) (λ y. refl) a b v u xs x e)
  where
    by : Came severed (λ y. refl) (λ y. refl) a b v u xs x → way_at v u xs ≡ Some x
    by (inl h) = no_both x.cut (is_severed x h.2.0 h.2.2) c
    by (inr h) = h.1

-- nor does a cut make a way
ends_before : (a b v u : ℕ) (xs : List Way) (n : ℕ) → ((x : Way) → way_at v u xs ≡ Some x → (v < n) × (u < n)) → (x : Way) → way_at v u (with_way severed a b xs) ≡ Some x → (v < n) × (u < n)
unfolding severed
ends_before a b v u xs n h x e = by (way_came severed (λ y. refl) (λ y. refl) a b v u xs x e)
  where
    by : Came severed (λ y. refl) (λ y. refl) a b v u xs x → (v < n) × (u < n)
    by (inl k) = h k.2.0 k.2.1
    by (inr k) = h x k.1

note_lost : (script : Script) (n : Note Name) (ns : List (Note Name)) → map LostCut (carried_in n) ++ lost_by script ns ≡ lost_by script (n ∷ ns)
unfolding lost_by carried_in
note_lost script (Deliver d n verb ys) ns = refl
note_lost script other ns = refl

lost_same : (script : Script) (xs : List Frame) → lost_frames xs ≡ lost_by script (map (λ (f : Frame). f.note) xs)
unfolding lost_frames lost_by
lost_same script [] = refl
lost_same script (x ∷ xs) = ap (λ es. map LostCut (carried_in x.note) ++ es) (lost_same script xs) ∙ note_lost script x.note (map (λ (f : Frame). f.note) xs)

lost_may : (script : Script) (o : Option Link) (p : Option Way) → MayMirror o p → numbers.lost_on p ≡ lost_on script o
unfolding numbers.lost_on lost_on
lost_may script None None h = refl
lost_may script (Some l) (Some x) h = lost_same script x.frames ∙ ap (lost_by script) h.notes
lost_may script (Some l) None h = absurd h
lost_may script None (Some x) h = absurd h

joined : {ws xs ys zs : List Event} → ws ≡ xs → ys ≡ zs → ws ++ ys ≡ xs ++ zs
joined e i = cc

module _ (w : World) (W : Vats) (h : Mirrors w W) (v u : ℕ) (es fs : List Event) where
  abbrev links : List Link
  links = with_link severed_link u v (with_link severed_link v u w.links)

  abbrev ways : List Way
  ways = with_way severed u v (with_way severed v u W.ways)

  abbrev now : World
  now = record w { links = links; history = es }

  abbrev here : Vats
  here = record W { ways = ways; history = fs }

  table_same : (t : ℕ) (s : Vat Name) → table_of now t s ≡ table_of w t s
  unfolding table_of
  table_same t s = rw (cut_exported v u t w.links) refl

  vat_cut : (t : ℕ) (s : Vat Name) (m : Member) → VatMirrors w W t s m → VatMirrors now here t s m
  unfolding readied ready
  vat_cut t s m k = record {
    placed = k.placed;
    stands = subst (λ (z : Table). StandsFor t z (ready W m.vat) (readied w s)) (sym (table_same t s)) k.stands;
    known = k.known;
    mails = k.mails;
    positions = λ g p j e. k.positions g p j (sym (ap (λ (f : ℕ → ℕ → Option ℕ). f g p) (cut_exported v u t w.links)) ∙ e);
    peers = k.peers;
    connections = λ z i. subst (λ (x : Table). changed_tables (found t x) (connection_for z m) ≡ changed_tables Is (connected_at t z w.connections).tables) (sym (table_same t s)) (k.connections z i);
    learnt = subst (λ (x : Table). LearntAre t x m.learnt) (sym (table_same t s)) k.learnt;
  }

  cut_frames : (a b : ℕ) (x : Way) → way_at a b ways ≡ Some x → x.cut ≡ false → FramesDue (connected_at a b w.connections) (connected_at b a w.connections) x
  cut_frames a b x e c = h.frames a b x (uncut_before v u a b W.ways x (uncut_before u v a b (with_way severed v u W.ways) x e c) c) c

  cut_ends : (a b : ℕ) (x : Way) → way_at a b ways ≡ Some x → (a < length W.members) × (b < length W.members)
  cut_ends a b x e = ends_before u v a b (with_way severed v u W.ways) (length W.members) (λ y. ends_before v u a b W.ways (length W.members) (h.ends a b) y) x e

  pub cut_so : fs ≡ es → Mirrors now here
  cut_so e = record { fuel = h.fuel; drawn = h.drawn; history = e; count = h.count; ways = cut_ways v u w.links W.ways h.ways; ends = cut_ends; frames = cut_frames; references = h.references; vats = λ t s m i j. vat_cut t s m (h.vats t s m i j) }

pub cuts_mirror : CutsMirror
unfolding machine.cut numbers.cut
cuts_mirror script k v u w W h = cut_so w W h v u
    (w.history ++ CutAt k v u ∷ (lost_on script (link_at v u w.links) ++ lost_on script (link_at u v w.links)))
    (W.history ++ CutAt k v u ∷ (numbers.lost_on (way_at v u W.ways) ++ numbers.lost_on (way_at u v W.ways)))
    (joined h.history (ap (λ xs. CutAt k v u ∷ xs) (joined (lost_may script (link_at v u w.links) (way_at v u W.ways) (at_mirrors v u w.links W.ways h.ways)) (lost_may script (link_at u v w.links) (way_at u v W.ways) (at_mirrors u v w.links W.ways h.ways)))))
