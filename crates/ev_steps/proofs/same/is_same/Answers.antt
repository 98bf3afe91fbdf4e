use Rattle.std.proofs.Common.{ℕ, ◌<◌, List, length, arith, refl, sym, ap, ◌∙◌}
use Rattle.ev_steps.specs.declared.same.Pair.{Pair}
use Rattle.ev_steps.specs.Layers.{all_alike}
use Rattle.ev_steps.proofs.Alikes.{first_differs, first_alike, next_differs, next_alike, none_left, none_lower}
use Rattle.ev_steps.proofs.same.is_same.Goals as goal

pub returns-then-not-branch : goal.returns-then-not-branch
returns-then-not-branch c =
    sym (first_differs c.args.room.now c.args.x c.args.y c.new-pairs.result.keys c.compare.new.next.keys c.in_ok-compare.field-0 (length c.args.room.now.heap.lists)
    c.new-pairs.ensures.empty c.if-not-branch.true c.in_ok-compare.ensures)

pub loop-pairs-init : goal.loop-pairs-init
loop-pairs-init c =
    first_alike c.args.room.now c.args.x c.args.y c.new-pairs.result.keys c.compare.new.next.keys c.in_ok-compare.field-0 (length c.args.room.now.heap.lists)
    c.new-pairs.ensures.empty c.if-not-branch.false c.in_ok-compare.ensures
    ∙ ap (λ (d : ℕ). all_alike c.args.room.now d c.compare.new.next.keys) (sym c.list_count-depth.ensures)

pub returns-then-depth-eq0 : goal.returns-then-depth-eq0
returns-then-depth-eq0 c =
    sym (c.loop-pairs.invariant ∙ ap (λ (d : ℕ). all_alike c.args.room.now d c.loop-pairs.pairs.keys) c.if-depth-eq0.true
    ∙ none_lower c.args.room.now c.loop-pairs.pairs.keys (λ e. cc (c.loop-pairs-test.ensures.1 e)))

pub returns-then-not-branch-2 : goal.returns-then-not-branch-2
returns-then-not-branch-2 c =
    let some : 0 < c.loop-pairs.depth = omega (arith, c.if-depth-eq0.false) in
    sym (c.loop-pairs.invariant ∙ ap (λ (ps : List Pair). all_alike c.args.room.now c.loop-pairs.depth ps) (sym c.as_slice.ensures.keys)
    ∙ next_differs c.args.room.now c.as_slice.result.now c.new-next.result.keys c.compare_layer.new.next.keys c.in_ok-compare_layer.field-0 c.loop-pairs.depth
    some c.new-next.ensures.empty c.if-not-branch-2.true c.in_ok-compare_layer.ensures)

pub loop-pairs-preserved : goal.loop-pairs-preserved
loop-pairs-preserved c =
    let some : 0 < c.loop-pairs.depth = omega (arith, c.if-depth-eq0.false) in
    c.loop-pairs.invariant ∙ ap (λ (ps : List Pair). all_alike c.args.room.now c.loop-pairs.depth ps) (sym c.as_slice.ensures.keys)
    ∙ next_alike c.args.room.now c.as_slice.result.now c.new-next.result.keys c.compare_layer.new.next.keys c.in_ok-compare_layer.field-0 c.loop-pairs.depth
    some c.new-next.ensures.empty c.if-not-branch-2.false c.in_ok-compare_layer.ensures

pub returns : goal.returns
returns c = sym (c.loop-pairs.invariant ∙ none_left c.args.room.now c.loop-pairs.depth c.loop-pairs.pairs.keys (c.loop-pairs-test.ensures.0 refl))
