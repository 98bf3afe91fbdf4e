use Rattle.std.proofs.Common.{◌≡◌, refl, length, drop_of_length-le, arith, Some, None, subst}
use Rattle.def_syntax.specs.Machine.{started}
use Rattle.def_syntax.specs.Heights.{no_spelling, ended_with}
use Rattle.def_syntax.specs.Exact.{IsAnswer}
use Rattle.ev_parser.specs.Parsed.{numbered}
use Rattle.ev_parser.proofs.Reading.{read_on, read_stuck, read_ended, drop_here}
use Rattle.ev_parser.proofs.read.read.Goals as goal

pub loop-i-init : goal.loop-i-init
loop-i-init c = (started, ((refl, refl, c.new.ensures.items, refl), c.new-frames.ensures), refl)

pub returns-in-None : goal.returns-in-None
returns-in-None c =
    let k = rw c.in-None.is at (c.in_ok-next.ensures _ (c.loop-i.invariant.0, c.loop-i.invariant.1, refl)) in
    read_stuck c.args.tokens.now c.loop-i.i _ c.loop-i.high c.loop-i.invariant.0 (drop_here c.args.tokens.now c.loop-i.i _ c.loop-i-test.true) k c.loop-i.invariant.2

pub loop-i-preserved : goal.loop-i-preserved
loop-i-preserved c =
    let k = rw c.in-Some.is at (c.in_ok-next.ensures _ (c.loop-i.invariant.0, c.loop-i.invariant.1, refl)) in
    (k.0, k.1, read_on c.args.tokens.now c.loop-i.i _ c.loop-i.high c.note-high.result c.loop-i.invariant.0 k.0 _ (drop_here c.args.tokens.now c.loop-i.i _ c.loop-i-test.true) k.2 (c.note-high.ensures _ k.0 k.1) c.loop-i.invariant.2)

pub returns-in-None-high : goal.returns-in-None-high
returns-in-None-high c =
    let k = rw c.in-Some-2.is at (c.in_ok-root.ensures _ (c.loop-i.invariant.0, c.loop-i.invariant.1, refl)) in
    let e = read_ended c.args.tokens.now c.loop-i.i c.loop-i.high c.loop-i.invariant.0 (Some k.0) (drop_of_length-le c.args.tokens.now c.loop-i-test.false) k.2 c.loop-i.invariant.2 in
    (k.0, k.1, subst (λ d. IsAnswer (numbered 0 c.args.tokens.now) (ended_with (Some k.0) c.loop-i.i d)) c.in-None-high.is e)

pub returns-in-Some-high : goal.returns-in-Some-high
returns-in-Some-high c =
    let k = rw c.in-Some-2.is at (c.in_ok-root.ensures _ (c.loop-i.invariant.0, c.loop-i.invariant.1, refl)) in
    let e = read_ended c.args.tokens.now c.loop-i.i c.loop-i.high c.loop-i.invariant.0 (Some k.0) (drop_of_length-le c.args.tokens.now c.loop-i-test.false) k.2 c.loop-i.invariant.2 in
    subst (λ d. IsAnswer (numbered 0 c.args.tokens.now) (ended_with (Some k.0) c.loop-i.i d)) c.in-Some-high.is e

pub returns-in-None-2 : goal.returns-in-None-2
returns-in-None-2 c =
    let k = rw c.in-None-2.is at (c.in_ok-root.ensures _ (c.loop-i.invariant.0, c.loop-i.invariant.1, refl)) in
    let e : c.loop-i.i ≡ length c.args.tokens.now = omega arith in
    subst (λ n. IsAnswer (numbered 0 c.args.tokens.now) (no_spelling n)) e (read_ended c.args.tokens.now c.loop-i.i c.loop-i.high c.loop-i.invariant.0 None (drop_of_length-le c.args.tokens.now c.loop-i-test.false) k c.loop-i.invariant.2)
