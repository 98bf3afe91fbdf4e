use Rattle.std.proofs.Common.{ℕ, List, length, arith, refl, sym, ap, ◌∙◌}
use Rattle.ev_steps.specs.Layers.{any_open}
use Rattle.ev_steps.proofs.Opens.{first_found, first_missed, next_found, next_missed, none_left, none_lower}
use Rattle.ev_steps.proofs.open.is_open.Goals.{then-loop-depth-test+else-not-is_empty, else-loop-depth-test}
use Rattle.ev_steps.proofs.open.is_open.Goals as goal

pub returns-then-branch : goal.returns-then-branch
returns-then-branch c =
    sym (first_found c.args.room.now c.args.value c.new-lists.result.keys c.look_at.new.next.keys c.in_ok-look_at.field-0 (length c.args.room.now.heap.lists)
    c.new-lists.ensures.empty c.if-branch.true c.in_ok-look_at.ensures)

pub loop-depth-init : goal.loop-depth-init
loop-depth-init c =
    first_missed c.args.room.now c.args.value c.new-lists.result.keys c.look_at.new.next.keys c.in_ok-look_at.field-0 (length c.args.room.now.heap.lists)
    c.new-lists.ensures.empty c.if-branch.false c.in_ok-look_at.ensures
    ∙ ap (λ (d : ℕ). any_open c.args.room.now d c.look_at.new.next.keys) (sym c.list_count-depth.ensures)

pub returns-then-branch-2 : goal.returns-then-branch-2
returns-then-branch-2 c =
    sym (c.loop-depth.invariant ∙ ap (λ (ks : List ℕ). any_open c.args.room.now c.loop-depth.depth ks) (sym c.as_slice.ensures.keys)
    ∙ next_found c.args.room.now c.as_slice.result.now c.new-next.result.keys c.look_into.new.next.keys c.in_ok-look_into.field-0 c.loop-depth.depth
    c.loop-depth-test.true c.new-next.ensures.empty c.if-branch-2.true c.in_ok-look_into.ensures)

pub loop-depth-preserved : goal.loop-depth-preserved
loop-depth-preserved c =
    c.loop-depth.invariant ∙ ap (λ (ks : List ℕ). any_open c.args.room.now c.loop-depth.depth ks) (sym c.as_slice.ensures.keys)
    ∙ next_missed c.args.room.now c.as_slice.result.now c.new-next.result.keys c.look_into.new.next.keys c.in_ok-look_into.field-0 c.loop-depth.depth
    c.loop-depth-test.true c.new-next.ensures.empty c.if-branch-2.false c.in_ok-look_into.ensures

pub returns : goal.returns
returns c =
    sym (c.loop-depth.invariant
    ∙ elim c.loop-depth-test.branch [
      | then-loop-depth-test+else-not-is_empty w ↦ none_left c.args.room.now c.loop-depth.depth c.loop-depth.lists.keys (w.if-not-is_empty.ensures.0 refl)
      | else-loop-depth-test w ↦ ap (λ (d : ℕ). any_open c.args.room.now d c.loop-depth.lists.keys) (omega (arith, w.loop-depth-test)) ∙ none_lower c.args.room.now c.loop-depth.lists.keys
    ])
