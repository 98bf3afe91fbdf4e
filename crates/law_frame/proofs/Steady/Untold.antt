-- What a vat asked another for stands among what that one told it only where the two were cut off from one another.
use Rattle.std.proofs.Common.{◌≡◌, ℕ, ◌<◌, Bool, true, false, List, [], ◌∷◌, ◌++◌, ◌⊎◌, inl, inr, Some, refl, sym, subst, length, ◌==◌}
use Rattle.def_machine.specs.Values.{Value, Ref, Name, host_of}
use Rattle.def_machine.specs.State.{Passed, Passeds, Plain, AGift, Many, NoMore, More, Note, Deliver, Open, Ask, SettledTo, Elsewhere, Shorten}
use Rattle.def_run.specs.Wire.{connected_at}
use Rattle.def_run.specs.World.{Script, Link, World, link_at, has_name}
use Rattle.law_fate.specs.Name.Names.{IsAmong}
use Rattle.law_fate.proofs.Name.SameNames.{among_has}
use Rattle.law_reference.specs.Reference.ApartAsking.{InRunsBehindCuts}
use Rattle.law_reference.specs.Reference.Logs as wire
use Rattle.law_machine.specs.Run.Moves.{IsReached}
use Rattle.law_machine.proofs.Run.Honest.{honest_reached}
use Rattle.law_frame.proofs.Frame.Grow.{export_or}
use Rattle.law_frame.proofs.Frame.LinksStay.{AllLinked, roots_is, opened_linked, stepped_linked}
use Rattle.law_frame.proofs.Heard.Questions.{questions_logged}
use Rattle.law_frame.proofs.Heard.Runs.{opened_kept, stepped_kept}
use Rattle.law_frame.proofs.Heard.Steps.{Asked, AllKept}
use Rattle.law_frame.proofs.Local.Positions.{there_is}
use Rattle.law_frame.specs.Steady.Statements.{OfTwo}
use Rattle.law_frame.proofs.Steady.Hearing.{unlike}
use Rattle.law_frame.proofs.Frame.WireRuns as wires
use Rattle.law_frame.proofs.Frame.WireRuns.{Wire}
use Rattle.law_fate.proofs.Name.Among.{all_among}
use Rattle.law_frame.proofs.Steady.Roots.{IsRoot, AllHaveRoots, opened_roots, stepped_roots, questions_no_root, roots_at}
use Rattle.law_frame.proofs.Steady.Questions.{reached, opened_counted, stepped_counted}

-- one of the links between the two is cut
abbrev pub AreCutOff : World → ℕ → ℕ → Type 0
AreCutOff w u v = (l : Link) × ((link_at u v w.links ≡ Some l) ⊎ (link_at v u w.links ≡ Some l)) × (l.cut ≡ true)

-- what the one asked the other for was not told by it, but where the two were cut off
abbrev pub UntoldUnlessCut : World → Type 0
UntoldUnlessCut w = OfTwo w (λ u v. (z : Name) → IsAmong z (connected_at u v w.connections).tables.questions → IsAmong z (connected_at u v w.connections).tables.imports → AreCutOff w u v)

-- ---- what was asked for is not exported

module _ (v : ℕ) (asked : List Name) (z : Name) (has : has_name asked z ≡ true) where
  asked_or : (a b c : Bool) (m : Name) (ns : List Name) → b ≡ true → IsAmong z (elim a [ true ↦ elim b [ true ↦ ns | false ↦ elim c [ true ↦ ns | false ↦ ns ++ m ∷ [] ] ] | false ↦ ns ]) → IsAmong z ns
  asked_or true true c m ns e h = h
  asked_or true false c m ns e h = cc
  asked_or false b c m ns e h = h

  by_export : (m : Name) (ns : List Name) → IsAmong z (wire.with_export v asked m ns) → IsAmong z ns
  unfolding wire.with_export
  by_export m ns h = either (export_or v asked z m ns h)
    where
      either : IsAmong z ns ⊎ (z ≡ m) → IsAmong z ns
      either (inl a) = a
      either (inr e) = asked_or (host_of m == v) (has_name asked m) (has_name ns m) m ns (subst (λ n. has_name asked n ≡ true) e has) h

  by_value : (y : Value Name) (ns : List Name) → IsAmong z (wire.with_value v asked y ns) → IsAmong z ns
  unfolding wire.with_value
  by_value (Ref m) ns h = by_export m ns h
  by_value other ns h = h

  mutual
    unfolding wire.with_passed wire.with_all

    by_passed : (y : Passed Name) (ns : List Name) → IsAmong z (wire.with_passed v asked y ns) → IsAmong z ns
    by_passed (Plain y) ns h = by_value y ns h
    by_passed (AGift g i) ns h = h
    by_passed (Many ys) ns h = by_all ys ns h

    by_all : (ys : Passeds Name) (ns : List Name) → IsAmong z (wire.with_all v asked ys ns) → IsAmong z ns
    by_all NoMore ns h = h
    by_all (More y ys) ns h = by_passed y ns (by_all ys (wire.with_passed v asked y ns) h)

  by_note : (n : Note Name) (ns : List Name) → IsAmong z (wire.with_note v asked n ns) → IsAmong z ns
  unfolding wire.with_note
  by_note (Deliver d m verb ys) ns h = by_export m ns (by_all ys (wire.with_export v asked m ns) h)
  by_note (Open i m) ns h = by_export m ns h
  by_note (Ask p i m) ns h = h
  by_note (SettledTo m y) ns h = by_export m ns (by_passed y (wire.with_export v asked m ns) h)
  by_note (Elsewhere m c) ns h = by_export m ns h
  by_note (Shorten m c i) ns h = by_export m ns h

  -- it is exported by no notes: it was there before
  pub by_notes : (log : List (Note Name)) (ns : List Name) → IsAmong z (wire.exports_after v asked log ns) → IsAmong z ns
  unfolding wire.exports_after
  by_notes [] ns h = h
  by_notes (n ∷ log) ns h = by_note n ns (by_notes log (wire.with_note v asked n ns) h)

-- ---- in a world of a run

module _ (script : Script) (w : World) (kept : AllKept w) (linked : AllLinked script w) (count : length w.vats ≡ length script.vats) (r : IsReached script w) (roots : AllHaveRoots w) (wires : Wire script w) where
  untold : UntoldUnlessCut w
  unfolding wire.questions
  untold u v low_u low_v other z a b = by l.0.cut m.0.cut refl refl
    where
      l : (k : Link) × (link_at v u w.links ≡ Some k)
      l = linked v u (unlike v u other) (subst (λ n. v < n) count low_v) (subst (λ n. u < n) count low_u)

      m : (k : Link) × (link_at u v w.links ≡ Some k)
      m = linked u v (unlike u v (λ e. other (sym e))) (subst (λ n. u < n) count low_u) (subst (λ n. v < n) count low_v)

      asked : IsAmong z (Asked w u v)
      asked = subst (IsAmong z) (questions_logged script [] w (reached script w r) u v m.0 m.1) a

      told : l.0.cut ≡ false → m.0.cut ≡ false → IsAmong z l.0.roots
      told e f = let s = there_is w.vats v low_v in let t = there_is w.vats u low_u in
          let k = kept v u other s.0 t.0 s.1 t.1 l.0 m.0 l.1 m.1 e f in
          by_notes v (Asked w u v) z (among_has (Asked w u v) z asked) k.2 l.0.roots (subst (IsAmong z) k.7 b)

      no_root : IsRoot z → ⊥
      no_root = all_among (λ n. IsRoot n → ⊥) (Asked w u v) z (questions_no_root script w wires u v (link_at u v w.links) refl) asked

      root : IsAmong z l.0.roots → IsRoot z
      root i = all_among IsRoot (wire.roots_of (link_at v u w.links)) z (roots_at w roots v u) (subst (IsAmong z) (sym (roots_is l.0 (link_at v u w.links) l.1)) i)

      by : (c d : Bool) → l.0.cut ≡ c → m.0.cut ≡ d → AreCutOff w u v
      by true d e f = (l.0, inr l.1, e)
      by false true e f = (m.0, inl m.1, f)
      by false false e f = absurd (no_root (root (told e f)))

pub each_untold : InRunsBehindCuts UntoldUnlessCut
each_untold script once = (
  λ ps rest w split opened. untold script w (opened_kept script once ps rest w split opened) (opened_linked script once ps rest w split opened) (opened_counted script once ps rest w split opened) ((honest_reached script).0 ps rest w split opened)
      (opened_roots script once ps rest w split opened) (wires.opened_both script once ps rest w split opened).1,
  λ w x es k follow opened stepped. untold script x (stepped_kept script once w x es k follow opened stepped) (stepped_linked script once w x es k opened stepped) (stepped_counted script once w x es k opened stepped) ((honest_reached script).1 w x es k opened stepped)
      (stepped_roots script once w x es k opened stepped) (wires.stepped_both script once w x es k opened stepped).1,
)
