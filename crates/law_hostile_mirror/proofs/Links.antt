-- The first frame is taken off a way, and heard.
use Rattle.std.proofs.Common.{◌≡◌, ℕ, suc, ◌<◌, Bool, true, false, List, [], ◌∷◌, ◌⊎◌, inl, inr, Option, Some, refl, sym, ap, ◌∙◌, subst, length, drop, arith}
use Rattle.def_op.specs.Frames.{Operation}
use Rattle.def_machine.specs.State.{Note, is_in}
use Rattle.def_machine.specs.Values.{Name}
use Rattle.def_run.specs.Numbers.{Frame, Way, way_at, with_way}
use Rattle.def_run.specs.Wire.{Connected, connected_at, received, hear_at}
use Rattle.def_run.specs.World.{Link, is_link, with_link, with_notes}
use Rattle.def_hostile.specs.Claims.{made_on, is_made}
use Rattle.law_frame.specs.Local.Mirrors.{FramesDue}
use Rattle.law_frame.specs.Local.Writing.{AllDue}
use Rattle.law_frame.proofs.Frame.Places.{same_or}
use Rattle.law_frame.proofs.Local.CarryLinks.{heard_here, heard_there, frame_first}
use Rattle.law_frame.proofs.Local.Ways.{Came, way_came}

-- ---- what was made

made_or : (b : Bool) (hs : List ℕ) (h i : ℕ) (ns : List (Note Name)) (l : Link) (ls ms : List Link) → is_made hs h i ms ≡ is_made hs h i ls → is_made hs h i (elim b [ true ↦ with_notes ns l ∷ ls | false ↦ l ∷ ms ]) ≡ is_made hs h i (l ∷ ls)
unfolding is_made with_notes made_on
made_or true hs h i ns l ls ms e = of_log (is_in l.from hs)
  where
    of_log : (b : Bool) → ◌≡◌ {A = Bool} (elim (made_on h i b (with_notes ns l)) [ true ↦ true | false ↦ is_made hs h i ls ]) (elim (made_on h i b l) [ true ↦ true | false ↦ is_made hs h i ls ])
    of_log true = refl
    of_log false = refl
made_or false hs h i ns l ls ms e = ap (λ x. elim_then (made_on h i (is_in l.from hs) l) x) e
  where
    elim_then : Bool → Bool → Bool
    elim_then a x = elim a [ true ↦ true | false ↦ x ]

-- taking notes off a link makes no gift
pub made_taken : (hs : List ℕ) (h i v u : ℕ) (ns : List (Note Name)) (ls : List Link) → is_made hs h i (with_link (with_notes ns) v u ls) ≡ is_made hs h i ls
unfolding with_link
made_taken hs h i v u ns [] = refl
made_taken hs h i v u ns (l ∷ ls) = made_or (is_link v u l) hs h i ns l ls (with_link (with_notes ns) v u ls) (made_taken hs h i v u ns ls)

-- ---- connections

module _ (n : Note Name) (v u : ℕ) (cs : List Connected) (other : v ≡ u → ⊥) where
  abbrev ds : List Connected
  ds = hear_at v u n cs

  -- but for what one vat heard of another, each connection stays
  pub written_same : (a b : ℕ) → (connected_at a b ds).written ≡ (connected_at a b cs).written
  unfolding received
  written_same a b = by (same_or u v a b)
    where
      by : ((u ≡ a) × (v ≡ b)) ⊎ (u ≡ a → v ≡ b → ⊥) → (connected_at a b ds).written ≡ (connected_at a b cs).written
      by (inl e) = subst (λ j. (connected_at a j ds).written ≡ (connected_at a j cs).written) e.1 (subst (λ i. (connected_at i v ds).written ≡ (connected_at i v cs).written) e.0 (ap (λ (c : Connected). c.written) (heard_here n v u cs other)))
      by (inr o) = ap (λ (c : Connected). c.written) (heard_there n v u cs other a b o)

  pub exports_same : (a b : ℕ) → (connected_at a b ds).tables.exports ≡ (connected_at a b cs).tables.exports
  unfolding received
  exports_same a b = by (same_or u v a b)
    where
      by : ((u ≡ a) × (v ≡ b)) ⊎ (u ≡ a → v ≡ b → ⊥) → (connected_at a b ds).tables.exports ≡ (connected_at a b cs).tables.exports
      by (inl e) = subst (λ j. (connected_at a j ds).tables.exports ≡ (connected_at a j cs).tables.exports) e.1 (subst (λ i. (connected_at i v ds).tables.exports ≡ (connected_at i v cs).tables.exports) e.0 (ap (λ (c : Connected). c.tables.exports) (heard_here n v u cs other)))
      by (inr o) = ap (λ (c : Connected). c.tables.exports) (heard_there n v u cs other a b o)

  heard_more : (connected_at u v ds).heard ≡ suc (connected_at u v cs).heard
  unfolding received
  heard_more = ap (λ (c : Connected). c.heard) (heard_here n v u cs other)

  -- ---- the frames that are due

  module _ (m : ℕ) (ws : List Way) (ends : (a b : ℕ) (z : Way) → way_at a b ws ≡ Some z → (a < m) × (b < m)) (due : (a b : ℕ) (z : Way) → way_at a b ws ≡ Some z → z.cut ≡ false → FramesDue (connected_at a b cs) (connected_at b a cs) z)
      (y : Way) (at : way_at v u ws ≡ Some y) (uncut : y.cut ≡ false) (f : Frame) (fs : List Frame) (first : y.frames ≡ f ∷ fs) where
    due_same : (c d e g : Connected) (z : Way) → e.written ≡ c.written → g.heard ≡ d.heard → FramesDue c d z → FramesDue e g z
    due_same c d e g z i j k = record {
      ops = k.ops ∙ sym (ap (λ i. drop i e.written) j ∙ ap (λ (xs : List Operation). drop d.heard xs) i);
      arrived = let a = k.arrived in let b = ap (λ (xs : List Operation). length xs) i in omega arith;
    }

    due_here : FramesDue (connected_at v u ds) (connected_at u v ds) (record y { frames = fs })
    due_here =
        let d = frame_first (connected_at v u cs) (connected_at u v cs) y f fs (due v u y at uncut) first in
        let i = written_same v u in
        let j = heard_more in
        record {
          ops = sym (ap (λ k. drop k (connected_at v u ds).written) j ∙ ap (λ (xs : List Operation). drop (suc (connected_at u v cs).heard) xs) i ∙ d.1);
          arrived = let a = d.2 in let b = ap (λ (xs : List Operation). length xs) i in omega arith;
        }

    due_there : (a b : ℕ) (z : Way) → (v ≡ a → u ≡ b → ⊥) → way_at a b ws ≡ Some z → z.cut ≡ false → FramesDue (connected_at a b ds) (connected_at b a ds) z
    due_there a b z apart e c = due_same (connected_at a b cs) (connected_at b a cs) (connected_at a b ds) (connected_at b a ds) z (written_same a b) (ap (λ (k : Connected). k.heard) (heard_there n v u cs other b a (λ i j. apart j i))) (due a b z e c)

    pub due_off : AllDue m ds (with_way (λ l. record l { frames = fs }) v u ws)
    due_off a b z e = by (way_came (λ l. record l { frames = fs }) (λ l. refl) (λ l. refl) v u a b ws z e)
      where
        same : (p q : Way) → ◌≡◌ {A = Option Way} (Some p) (Some q) → p ≡ q
        same p q i = cc

        by : Came (λ l. record l { frames = fs }) (λ l. refl) (λ l. refl) v u a b ws z → (a < m) × (b < m) × (z.cut ≡ false → FramesDue (connected_at a b ds) (connected_at b a ds) z)
        by (inl k) =
            let both = ends a b k.2.0 k.2.1 in
            let was : k.2.0 ≡ y = same k.2.0 y (sym k.2.1 ∙ ap (λ j. way_at a j ws) (sym k.1) ∙ ap (λ i. way_at i u ws) (sym k.0) ∙ at) in
            let is : z ≡ record y { frames = fs } = k.2.2 ∙ ap (λ (l : Way). record l { frames = fs }) was in
            (both.0, both.1, λ c. subst (λ (l : Way). FramesDue (connected_at a b ds) (connected_at b a ds) l) (sym is) (subst (λ j. FramesDue (connected_at a j ds) (connected_at j a ds) (record y { frames = fs })) k.1 (subst (λ i. FramesDue (connected_at i u ds) (connected_at u i ds) (record y { frames = fs })) k.0 due_here)))
        by (inr k) = let both = ends a b z k.1 in (both.0, both.1, λ c. due_there a b z k.0 k.1 c)
