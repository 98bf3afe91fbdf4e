-- A note off its link, and its frame off its way: what was put before stays, and the frames left are those that are due once one more is heard.
use Rattle.std.proofs.Common.{◌≡◌, ℕ, zero, suc, ◌≤◌, ◌<◌, false, List, [], ◌∷◌, ◌⊎◌, inl, inr, Option, Some, refl, sym, ap, ◌∙◌, subst, length, map, arith}
use Rattle.std.specs.Prelude.{slice_get, drop}
use Rattle.def_op.specs.Frames.{Operation}
use Rattle.def_machine.specs.Values.{Name}
use Rattle.def_machine.specs.State.{Note, Vat}
use Rattle.def_run.specs.Wire.{Connected, connected_at, frame_due, received, hear_at}
use Rattle.def_run.specs.World.{Link, World, with_link, with_notes, readied}
use Rattle.law_machine.specs.Renamed.Stands.{Table, Is, found, StandsFor}
use Rattle.law_reference.specs.Reference.Logs.{exports}
use Rattle.law_reference.specs.Reference.Exports.{exported_at}
use Rattle.law_reference.specs.Reference.Tables.{table_of}
use Rattle.law_frame.specs.Frame.Exports.{KeepsPositions}
use Rattle.law_frame.specs.Frame.Together.{changed_tables}
use Rattle.law_frame.proofs.Frame.Places.{same_or, connected_same, connected_other}
use Rattle.def_run.specs.Vats.{Member, connection_for}
use Rattle.def_run.specs.Numbers.{Frame, Way, Vats, way_at, with_way, ready}
use Rattle.law_frame.specs.Local.Mirrors.{Mirrors, VatMirrors, WayMirrors, WaysMirror, FramesDue, LearntAre}
use Rattle.law_frame.specs.Local.Writing.{AllDue}
use Rattle.law_frame.specs.Local.Carrying.{taken, off}
use Rattle.law_frame.proofs.Local.Ways.{Came, with_mirrors, way_came}
use Rattle.law_frame.proofs.Local.Cuts.{same_exports, same_exported}

-- ---- what was put

pub exports_taken : (v u : ℕ) (ns : List (Note Name)) (a b : ℕ) (ls : List Link) → exports (λ i. i) (with_link (with_notes ns) v u ls) a b ≡ exports (λ i. i) ls a b
unfolding with_notes
exports_taken v u ns a b ls = same_exports (with_notes ns) (λ l. refl) (λ l. refl) (λ l. refl) (λ l. refl) v u a b ls

pub exported_taken : (v u : ℕ) (ns : List (Note Name)) (t : ℕ) (ls : List Link) → exported_at (with_link (with_notes ns) v u ls) t ≡ exported_at ls t
unfolding with_notes
exported_taken v u ns t ls = same_exported (with_notes ns) (λ l. refl) (λ l. refl) (λ l. refl) (λ l. refl) v u t ls

pub table_taken : (x : World) (v u : ℕ) (ns : List (Note Name)) (t : ℕ) (s : Vat Name) → table_of (taken x v u ns) t s ≡ table_of x t s
unfolding table_of
table_taken x v u ns t s = rw (exported_taken v u ns t x.links) refl

-- positions are kept from there on where they are kept from before
pub keeps_taken : (x y : World) (v u : ℕ) (ns : List (Note Name)) (t : ℕ) → KeepsPositions x y t → KeepsPositions (taken x v u ns) y t
keeps_taken x y v u ns t h g p j e = h g p j (sym (ap (λ (f : ℕ → ℕ → Option ℕ). f g p) (exported_taken v u ns t x.links)) ∙ e)

-- ---- the way

way_taken : (ns : List (Note Name)) (fs : List Frame) → map (λ (f : Frame). f.note) fs ≡ ns → (l : Link) (x : Way) → WayMirrors l x → WayMirrors (with_notes ns l) (record x { frames = fs })
unfolding with_notes
way_taken ns fs e l x h = record { from = h.from; to = h.to; cut = h.cut; notes = e }

pub ways_taken : (ns : List (Note Name)) (fs : List Frame) → map (λ (f : Frame). f.note) fs ≡ ns → (v u : ℕ) (ls : List Link) (xs : List Way) → WaysMirror ls xs → WaysMirror (with_link (with_notes ns) v u ls) (with_way (λ l. record l { frames = fs }) v u xs)
ways_taken ns fs e v u ls xs h = with_mirrors (with_notes ns) (λ l. record l { frames = fs }) (way_taken ns fs e) v u ls xs h

-- ---- connections once the note is heard

module _ (n : Note Name) (v u : ℕ) (cs : List Connected) (other : v ≡ u → ⊥) where
  abbrev C : Connected
  C = connected_at v u cs

  abbrev D : Connected
  D = connected_at u v cs

  pub heard_here : connected_at u v (hear_at v u n cs) ≡ received C n D
  unfolding hear_at received
  heard_here = connected_same (received (connected_at v u cs) n) (λ c. refl) (λ c. refl) u v cs

  pub heard_there : (a b : ℕ) → (u ≡ a → v ≡ b → ⊥) → connected_at a b (hear_at v u n cs) ≡ connected_at a b cs
  unfolding hear_at received
  heard_there a b apart = connected_other (received (connected_at v u cs) n) (λ c. refl) (λ c. refl) u v a b cs apart

  -- no connection comes to have other frames, and but one vat hears one more
  written_same : (a b : ℕ) → (connected_at a b (hear_at v u n cs)).written ≡ (connected_at a b cs).written
  unfolding received
  written_same a b = by (same_or u v a b)
    where
      by : ((u ≡ a) × (v ≡ b)) ⊎ (u ≡ a → v ≡ b → ⊥) → (connected_at a b (hear_at v u n cs)).written ≡ (connected_at a b cs).written
      by (inl e) = subst (λ j. (connected_at a j (hear_at v u n cs)).written ≡ (connected_at a j cs).written) e.1 (subst (λ i. (connected_at i v (hear_at v u n cs)).written ≡ (connected_at i v cs).written) e.0 (ap (λ (c : Connected). c.written) heard_here))
      by (inr o) = ap (λ (c : Connected). c.written) (heard_there a b o)

  heard_more : (connected_at u v (hear_at v u n cs)).heard ≡ suc (connected_at u v cs).heard
  unfolding received
  heard_more = ap (λ (c : Connected). c.heard) heard_here

-- ---- the frames that are due

-- the first of what is left of a list
pub dropped : {A : Type 0} (i : ℕ) (xs ys : List A) (y : A) → drop i xs ≡ y ∷ ys → (slice_get xs i ≡ Some y) × (drop (suc i) xs ≡ ys) × (suc i ≤ length xs)
dropped zero [] ys y e = cc
dropped zero (x ∷ xs) ys y e = (let i : x ≡ y = cc in ap Some i, (let j : xs ≡ ys = cc in j), (omega arith))
dropped (suc i) [] ys y e = cc
dropped (suc i) (x ∷ xs) ys y e = let h = dropped i xs ys y e in (h.0, h.1, (let k = h.2 in omega arith))

-- where the first frame on a way is one of those due
pub frame_first : (c d : Connected) (x : Way) (f : Frame) (fs : List Frame) → FramesDue c d x → x.frames ≡ f ∷ fs → (frame_due c d ≡ Some f.op) × (drop (suc d.heard) c.written ≡ map (λ (g : Frame). g.op) fs) × (suc d.heard ≤ length c.written)
unfolding frame_due
frame_first c d x f fs h e = dropped d.heard c.written (map (λ (g : Frame). g.op) fs) f.op (sym h.ops ∙ ap (map (λ (g : Frame). g.op)) e)

module _ (x : World) (X : Vats) (h : Mirrors x X) (v u : ℕ) (other : v ≡ u → ⊥) (y : Way) (at : way_at v u X.ways ≡ Some y) (uncut : y.cut ≡ false) (f : Frame) (fs : List Frame) (first : y.frames ≡ f ∷ fs) (n : Note Name) where
  abbrev cs : List Connected
  cs = x.connections

  abbrev ds : List Connected
  ds = hear_at v u n cs

  due_same : (c d e g : Connected) (z : Way) → e.written ≡ c.written → g.heard ≡ d.heard → FramesDue c d z → FramesDue e g z
  due_same c d e g z i j k = record {
    ops = k.ops ∙ sym (ap (λ i. drop i e.written) j ∙ ap (λ (ws : List Operation). drop d.heard ws) i);
    arrived = let a = k.arrived in let b = ap (λ (ws : List Operation). length ws) i in omega arith;
  }

  due_here : FramesDue (connected_at v u ds) (connected_at u v ds) (record y { frames = fs })
  due_here =
      let d = frame_first (connected_at v u cs) (connected_at u v cs) y f fs (h.frames v u y at uncut) first in
      let i = written_same n v u cs other v u in
      let j = heard_more n v u cs other in
      record {
        ops = sym (ap (λ k. drop k (connected_at v u ds).written) j ∙ ap (λ (ws : List Operation). drop (suc (connected_at u v cs).heard) ws) i ∙ d.1);
        arrived = let a = d.2 in let b = ap (λ (ws : List Operation). length ws) i in omega arith;
      }

  due_there : (a b : ℕ) (z : Way) → (v ≡ a → u ≡ b → ⊥) → way_at a b X.ways ≡ Some z → z.cut ≡ false → FramesDue (connected_at a b ds) (connected_at b a ds) z
  due_there a b z apart e c = due_same (connected_at a b cs) (connected_at b a cs) (connected_at a b ds) (connected_at b a ds) z (written_same n v u cs other a b) (ap (λ (k : Connected). k.heard) (heard_there n v u cs other b a (λ i j. apart j i))) (h.frames a b z e c)

  pub due_off : AllDue (length X.members) ds (with_way (λ l. record l { frames = fs }) v u X.ways)
  due_off a b z e = by (way_came (λ l. record l { frames = fs }) (λ l. refl) (λ l. refl) v u a b X.ways z e)
    where
      same : (p q : Way) → ◌≡◌ {A = Option Way} (Some p) (Some q) → p ≡ q
      same p q i = cc

      by : Came (λ l. record l { frames = fs }) (λ l. refl) (λ l. refl) v u a b X.ways z → (a < length X.members) × (b < length X.members) × (z.cut ≡ false → FramesDue (connected_at a b ds) (connected_at b a ds) z)
      by (inl k) =
          let ends = h.ends a b k.2.0 k.2.1 in
          let was : k.2.0 ≡ y = same k.2.0 y (sym k.2.1 ∙ ap (λ j. way_at a j X.ways) (sym k.1) ∙ ap (λ i. way_at i u X.ways) (sym k.0) ∙ at) in
          let is : z ≡ record y { frames = fs } = k.2.2 ∙ ap (λ (l : Way). record l { frames = fs }) was in
          (ends.0, ends.1, λ c. subst (λ (l : Way). FramesDue (connected_at a b ds) (connected_at b a ds) l) (sym is) (subst (λ j. FramesDue (connected_at a j ds) (connected_at j a ds) (record y { frames = fs })) k.1 (subst (λ i. FramesDue (connected_at i u ds) (connected_at u i ds) (record y { frames = fs })) k.0 due_here)))
      by (inr k) = let ends = h.ends a b z k.1 in (ends.0, ends.1, λ c. due_there a b z k.0 k.1 c)

-- ---- each vat stands as it did

pub vat_taken : (x : World) (X : Vats) (v u : ℕ) (ns : List (Note Name)) (fs : List Frame) (t : ℕ) (s : Vat Name) (m : Member) → VatMirrors x X t s m → VatMirrors (taken x v u ns) (off X v u fs) t s m
unfolding readied ready
vat_taken x X v u ns fs t s m k = record {
  placed = k.placed;
  stands = subst (λ (z : Table). StandsFor t z (ready X m.vat) (readied x s)) (sym (table_taken x v u ns t s)) k.stands;
  known = k.known;
  mails = k.mails;
  positions = λ g p j e. k.positions g p j (sym (ap (λ (f : ℕ → ℕ → Option ℕ). f g p) (exported_taken v u ns t x.links)) ∙ e);
  peers = k.peers;
  connections = λ z i. subst (λ (w : Table). changed_tables (found t w) (connection_for z m) ≡ changed_tables Is (connected_at t z x.connections).tables) (sym (table_taken x v u ns t s)) (k.connections z i);
  learnt = subst (λ (w : Table). LearntAre t w m.learnt) (sym (table_taken x v u ns t s)) k.learnt;
}
