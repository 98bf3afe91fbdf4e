use Rattle.std.proofs.Common.{◌≡◌, ◌+◌, arith, length, List, Option, Some, None, ap, subst, sym, ◌∙◌}
use Rattle.ev_links.specs.declared.label.Label.{Label}
use Rattle.ev_known.specs.Following.{StridesTo}
use Rattle.ev_known.proofs.Walking.{Walking, walking_init, walking_step, walking_back, walking_end, walking_there, longer}
use Rattle.ev_known.proofs.following.follow_in.Goals as goal

pub loop-seen-init : goal.loop-seen-init
loop-seen-init c empty h =
    subst (λ (ls : List Label). Walking c.args.settled.now c.args.viewed.now c.args.at c.args.name ls c.args.name) (sym empty)
    (walking_init c.args.settled.now c.args.viewed.now c.args.at c.args.name)

pub returns-then-has : goal.returns-then-has
returns-then-has c empty h =
    walking_back c.args.settled.now c.args.viewed.now c.args.at c.args.name c.loop-seen.seen c.loop-seen.current (c.loop-seen.invariant empty h) (sym c.has.ensures ∙ c.if-has.true)

pub returns-in_default : goal.returns-in_default
returns-in_default c empty h =
    walking_end c.args.settled.now c.args.viewed.now c.args.at c.args.name c.loop-seen.seen c.loop-seen.current (c.loop-seen.invariant empty h) (sym c.is_object.ensures ∙ c.loop-seen-test.true)
    (subst (StridesTo c.args.settled.now c.args.viewed.now c.args.at c.loop-seen.current) c.in_default.is
    (c.stride.ensures (sym c.is_object.ensures ∙ c.loop-seen-test.true) h))

pub loop-seen-smaller : goal.loop-seen-smaller
loop-seen-smaller c =
    let more : length c.add.new.self ≡ length c.loop-seen.seen + 1
    = ap length c.in_ok-add.ensures ∙ longer c.loop-seen.seen c.loop-seen.current (sym c.has.ensures ∙ c.if-has.false) in
    omega (arith, c.len-count.ensures)

pub loop-seen-preserved : goal.loop-seen-preserved
loop-seen-preserved c empty h =
    walking_step c.args.settled.now c.args.viewed.now c.args.at c.args.name c.loop-seen.seen c.add.new.self c.loop-seen.current c.in-Some.next (c.loop-seen.invariant empty h)
    c.in_ok-add.ensures
    (subst (StridesTo c.args.settled.now c.args.viewed.now c.args.at c.loop-seen.current) c.in-Some.is
    (c.stride.ensures (sym c.is_object.ensures ∙ c.loop-seen-test.true) h))

pub returns : goal.returns
returns c empty h =
    walking_there c.args.settled.now c.args.viewed.now c.args.at c.args.name c.loop-seen.seen c.loop-seen.current (c.loop-seen.invariant empty h) (sym c.is_object.ensures ∙ c.loop-seen-test.false)
