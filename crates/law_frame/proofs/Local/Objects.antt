-- Each position that a frame says to be of an object is of one.
use Rattle.std.proofs.Common.{◌≡◌, ℕ, zero, suc, Bool, true, false, List, [], ◌∷◌, Some, refl, sym, ap, ◌∙◌, length}
use Rattle.std.specs.Prelude.{slice_get, ◌==◌}
use Rattle.std.proofs.lemmas.Bool.{eqb-true}
use Rattle.def_op.specs.Frames.{Described, Members}
use Rattle.def_machine.specs.Values.{Value, Ref, Name, Object, same_name, host_of}
use Rattle.def_machine.specs.State.{Passed, Passeds, Plain, AGift, Many, NoMore, More, Note, Deliver, Open, Ask, SettledTo, Elsewhere, Shorten}
use Rattle.def_run.specs.Connections as write
use Rattle.def_run.specs.Connections.{Connection, Sight, stands_in, place_in, exported_note, frame_now}
use Rattle.def_run.specs.Wire.{sight, is_object}
use Rattle.law_machine.proofs.Machine.StepLaws.{get_append}
use Rattle.law_fate.proofs.Name.SameNames.{has_among}
use Rattle.law_reference.specs.Reference.Logs.{rank}
use Rattle.law_frame.specs.Frame.Growing.{IsFront}
use Rattle.law_frame.proofs.Frame.Ranks.{get_rank}
use Rattle.law_frame.proofs.Heard.Kept.{in_has}
use Rattle.law_frame.proofs.Local.Newcomers.{Fits, AllFit, FrameFits}

-- ---- what is written

-- where that holds of the position of each object of the writer's own
module _ {N : Type 0} (S : Sight N) (c : Connection N) (P : ℕ → Type 0) (at : (n : N) → S.object n ≡ true → S.own n ≡ true → stands_in S c.exports n ≡ true → P (place_in S c.exports n)) where
  position_fits : (n : N) (b : Bool) → S.object n ≡ b → S.own n ≡ true → stands_in S c.exports n ≡ true → Fits P (write.position S b (place_in S c.exports n))
  unfolding write.position
  position_fits n true e o i = at n e o i
  position_fits n false e o i = tt

  mine_fits : (n : N) (b : Bool) → stands_in S c.exports n ≡ b → S.own n ≡ true → Fits P (write.mine S c n b)
  unfolding write.mine
  mine_fits n true e o = position_fits n (S.object n) refl o e
  mine_fits n false e o = tt

  yours_fits : (n : N) (b : Bool) → Fits P (write.yours S c n b)
  unfolding write.yours
  yours_fits n true = tt
  yours_fits n false = tt

  described_fits : (n : N) → Fits P (write.described S c n)
  unfolding write.described
  described_fits n = by (S.own n) refl
    where
      by : (b : Bool) → S.own n ≡ b → Fits P (elim b [ true ↦ write.mine S c n (stands_in S c.exports n) | false ↦ write.yours S c n (stands_in S c.questions n) ])
      by true e = mine_fits n (stands_in S c.exports n) refl e
      by false e = yours_fits n (stands_in S c.questions n)

  value_fits : (y : Value N) → Fits P (write.described_value S c y)
  unfolding write.described_value
  value_fits (Ref n) = described_fits n
  value_fits other = tt

  mutual
    unfolding write.described_passed write.described_all

    passed_fits : (y : Passed N) → Fits P (write.described_passed S c y)
    passed_fits (Plain y) = value_fits y
    passed_fits (AGift h i) = tt
    passed_fits (Many ys) = all_fit ys

    all_fit : (ys : Passeds N) → AllFit P (write.described_all S c ys)
    all_fit NoMore = tt
    all_fit (More y ys) = (passed_fits y, all_fit ys)

  delivered_fits : (b : Bool) (q : ℕ) (d : Described) (verb : List ℕ) (ds : Members) → Fits P d → AllFit P ds → FrameFits P (write.delivered S b q d verb ds)
  unfolding write.delivered
  delivered_fits true q d verb ds e f = (e, f)
  delivered_fits false q d verb ds e f = (e, f)

  pub frame_fits : (n : Note N) → FrameFits P (write.operation S c n)
  unfolding write.operation
  frame_fits (Deliver d n verb ys) = delivered_fits d.asks (length c.questions) (write.described S c n) verb (write.described_all S c ys) (described_fits n) (all_fit ys)
  frame_fits (Open i n) = described_fits n
  frame_fits (Ask p i n) = tt
  frame_fits (SettledTo n y) = (described_fits n, passed_fits y)
  frame_fits (Elsewhere n h) = (described_fits n, tt)
  frame_fits (Shorten n h i) = described_fits n

-- ---- the next frame

place_rank : (v u : ℕ) (ns : List Name) (n : Name) → place_in (sight v u) ns n ≡ rank ns n
unfolding place_in rank sight
place_rank v u [] n = refl
place_rank v u (m ∷ ns) n = ap (λ (k : ℕ). elim (same_name m n) [ true ↦ zero | false ↦ suc k ]) (place_rank v u ns n)

place_of : (v u : ℕ) (ns : List Name) (n : Name) → stands_in (sight v u) ns n ≡ true → slice_get ns (place_in (sight v u) ns n) ≡ Some n
place_of v u ns n e = ap (slice_get ns) (place_rank v u ns n) ∙ get_rank ns n (has_among ns n (sym (in_has v u ns n) ∙ e))

object_is : (n : Name) (v : ℕ) → is_object n ≡ true → host_of n ≡ v → (j : ℕ) × (n ≡ Object v j)
unfolding is_object host_of
object_is (Object w j) v e h = (j, ap (λ x. Object x j) h)
object_is other v e h = cc

module _ (v u : ℕ) (ns : List Name) (P : ℕ → Type 0) (fit : (p j : ℕ) → slice_get ns p ≡ Some (Object v j) → P p) (n : Note Name) where
  -- So the frame of a note from v to u fits where the exports of v, with those of the note, are the first of those.
  pub written_fits : (t : Connection Name) → IsFront (exported_note (sight v u) t.answers n t.exports) ns → FrameFits P (frame_now (sight v u) n t)
  unfolding frame_now write.exporting sight
  written_fits t f = frame_fits (sight v u) (write.exporting (sight v u) n t) P at n
    where
      at : (m : Name) → is_object m ≡ true → (host_of m == v) ≡ true → stands_in (sight v u) (exported_note (sight v u) t.answers n t.exports) m ≡ true → P (place_in (sight v u) (exported_note (sight v u) t.answers n t.exports) m)
      at m e o i =
          let xs = exported_note (sight v u) t.answers n t.exports in
          let k = object_is m v e (eqb-true (host_of m) v o) in
          let p = place_in (sight v u) xs m in
          fit p k.0 (ap (λ ys. slice_get ys p) f.1 ∙ get_append xs f.0 p (Object v k.0) (place_of v u xs m i ∙ ap Some k.1))
