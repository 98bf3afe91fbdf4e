-- Every carry: of a frame that arrives, and of none.
use Rattle.std.proofs.Common.{◌≡◌, ℕ, zero, Bool, true, false, List, [], ◌∷◌, Option, Some, None, refl, sym, ap, ◌∙◌, subst, map, arith}
use Rattle.def_machine.specs.Values.{Name}
use Rattle.def_run.specs.Wire.{connected_at}
use Rattle.def_run.specs.World as machine
use Rattle.def_run.specs.World.{Script, Entry, Carry, Link, World, Goes, link_at}
use Rattle.law_fate.specs.Name.Runs.{KnowsOnce}
use Rattle.law_reference.specs.Reference.Cuts.{NoticesFollowCuts}
use Rattle.law_reference.proofs.Reference.LegMoves.{stepped_before}
use Rattle.law_reference.proofs.Reference.LegRuns.{self_none}
use Rattle.def_run.specs.Numbers as numbers
use Rattle.def_run.specs.Numbers.{Frame, Way, Vats, way_at}
use Rattle.law_frame.specs.Local.Mirrors.{Mirrors, WayMirrors, RunMirrors}
use Rattle.law_frame.specs.Local.Carrying.{CarriesMirror}
use Rattle.law_frame.proofs.Local.Closing.{idles_mirror}
use Rattle.law_frame.proofs.Local.Positions.{there_is}
use Rattle.law_frame.proofs.Local.Ways.{MayMirror, at_mirrors}
use Rattle.law_frame.proofs.Local.CarryLinks.{frame_first}
use Rattle.law_frame.proofs.Local.HeardRuns.{frames_heard}
use Rattle.law_frame.proofs.Local.Carry.{carry_mirrors}

module _ (script : Script) (once : KnowsOnce script) (w x : World) (es : List Entry) (k : ℕ) (follow : NoticesFollowCuts es) (opened : machine.open_from script zero script.vats (machine.begins script) ≡ Goes w) (stepped : machine.steps_from script es k w ≡ Goes x)
    (X : Vats) (mirrors : Mirrors x X) (v u j : ℕ) where
  abbrev Both : Type 0
  Both = RunMirrors (machine.step script (Carry v u) j x) (numbers.step script (Carry v u) j X)

  -- where both do nothing
  idle_both : machine.step script (Carry v u) j x ≡ machine.idle script j x → numbers.step script (Carry v u) j X ≡ numbers.idle script j X → Both
  idle_both e i = subst (λ a. RunMirrors a (numbers.step script (Carry v u) j X)) (sym e) (subst (λ c. RunMirrors (machine.idle script j x) c) (sym i) (idles_mirror script j x X mirrors))

  module _ (l : Link) (way : Way) (at : link_at v u x.links ≡ Some l) (on : way_at v u X.ways ≡ Some way) (both : WayMirrors l way) where
    -- no link leads from a vat to itself
    other : v ≡ u → ⊥
    other i = let before = stepped_before script once w x es k opened stepped in let counted = before.counted in let fated = counted.fated (Name.Sent (record { sender = 0; number = 0 })) in
        self_none x.links fated.apart u l (ap (λ z. link_at z u x.links) (sym i) ∙ at)

    cut_or : {A : Type 0} (b c : Bool) (p q : A) → b ≡ c → ◌≡◌ {A = A} (elim b [ true ↦ p | false ↦ q ]) (elim c [ true ↦ p | false ↦ q ])
    cut_or true true p q e = refl
    cut_or false false p q e = refl
    cut_or true false p q e = cc
    cut_or false true p q e = cc

    theirs : (b : Bool) → l.cut ≡ b → machine.step script (Carry v u) j x ≡ elim b [ true ↦ machine.idle script j x | false ↦ machine.carry_notes script j v u x l.notes ]
    unfolding machine.step machine.carry_link
    theirs b e = ap (λ o. machine.carry_link script j v u x o) at ∙ cut_or l.cut b (machine.idle script j x) (machine.carry_notes script j v u x l.notes) e

    ours : (b : Bool) → way.cut ≡ b → numbers.step script (Carry v u) j X ≡ elim b [ true ↦ numbers.idle script j X | false ↦ numbers.carry_frames script j v u X way.frames ]
    unfolding numbers.step numbers.carry_way
    ours b e = ap (λ o. numbers.carry_way script j v u X o) on ∙ cut_or way.cut b (numbers.idle script j X) (numbers.carry_frames script j v u X way.frames) e

    of_cut : (b : Bool) → l.cut ≡ b → Both
    unfolding machine.carry_notes numbers.carry_frames
    of_cut true e = idle_both (theirs true e) (ours true (both.cut ∙ e))
    of_cut false e = of_frames way.frames refl
      where
        of_frames : (gs : List Frame) → way.frames ≡ gs → Both
        of_frames [] i = idle_both
            (theirs false e ∙ ap (λ ns. machine.carry_notes script j v u x ns) (sym both.notes ∙ ap (map (λ (f : Frame). f.note)) i))
            (ours false (both.cut ∙ e) ∙ ap (λ fs. numbers.carry_frames script j v u X fs) i)
        of_frames (f ∷ fs) i =
            let clear = both.cut ∙ e in
            let ends = mirrors.ends v u way on in
            let count = mirrors.count in
            let t = there_is x.vats v (let a = ends.0 in omega arith) in
            let s = there_is x.vats u (let a = ends.1 in omega arith) in
            let z = there_is X.members v ends.0 in
            let m = there_is X.members u ends.1 in
            let head = sym both.notes ∙ ap (map (λ (g : Frame). g.note)) i in
            let due = frame_first (connected_at v u x.connections) (connected_at u v x.connections) way f fs (mirrors.frames v u way on clear) i in
            let h = frames_heard script once w x es k follow opened stepped v u t.0 s.0 t.1 s.1 other l at e X m.0 mirrors m.1 f.note (map (λ (g : Frame). g.note) fs) head f.op due.0 in
            carry_mirrors script once w x es k follow opened stepped X mirrors v u other l at e f fs head way on clear i t.0 s.0 t.1 s.1 z.0 m.0 z.1 m.1 h.0 h.1 h.2 j

  each : (o : Option Link) (p : Option Way) → link_at v u x.links ≡ o → way_at v u X.ways ≡ p → MayMirror o p → Both
  unfolding machine.step machine.carry_link numbers.step numbers.carry_way
  each None None e i h = idle_both (ap (λ o. machine.carry_link script j v u x o) e) (ap (λ o. numbers.carry_way script j v u X o) i)
  each (Some l) (Some way) e i h = of_cut l way e i h l.cut refl
  each (Some l) None e i h = absurd h
  each None (Some way) e i h = absurd h

  pub carry_each : Both
  carry_each = each (link_at v u x.links) (way_at v u X.ways) refl refl (at_mirrors v u x.links X.ways mirrors.ways)

pub carries_mirror : CarriesMirror
carries_mirror script once w x es k follow opened stepped X mirrors v u j = carry_each script once w x es k follow opened stepped X mirrors v u j
