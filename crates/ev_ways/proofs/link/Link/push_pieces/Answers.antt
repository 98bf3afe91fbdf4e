use Rattle.std.proofs.Common.{List, ℕ, ◌++◌, subst}
use Rattle.std.proofs.lemmas.Result.{err_from_is_err_and}
use Rattle.ev_ways.specs.Streams.{Holds, stream}
use Rattle.ev_ways.proofs.Streams.{IsComing, comes_first, comes_next, comes_still, has_come, none_left, some_left}
use Rattle.ev_ways.proofs.link.Link.push_pieces.Goals as goal

pub loop-rest-init : goal.loop-rest-init
loop-rest-init c =
    comes_first c.args.self.now c.push_piece.new.self c.args.frame.now c.requires.none
    (subst (λ (bs : List ℕ). Holds (stream c.args.self.now ++ bs) c.push_piece.new.self) c.length_bytes.ensures.spelled (c.in_ok-push_piece.ensures.ok c.requires.uncut))

pub returns-in_err-push_piece-2-clause-err : goal.returns-in_err-push_piece-2-clause-err
returns-in_err-push_piece-2-clause-err c =
    let p = err_from_is_err_and c.from_residual-in_err-push_piece-2.result c.from_residual-in_err-push_piece-2.ensures.1 in
    rw p.1 (rw c.in_err-push_piece-2.ensures.err (comes_still c.args.self.now.frames c.args.frame.now c.loop-rest.rest.now c.loop-rest.self c.requires.fit c.length_bytes.ensures.fits (some_left c.loop-rest.rest.now c.loop-rest-test.ensures) c.loop-rest.invariant))

pub loop-rest-preserved : goal.loop-rest-preserved
loop-rest-preserved c =
    comes_next c.args.self.now.frames c.args.frame.now c.loop-rest.rest.now c.split_at.result.0.now c.split_at.result.1.now c.loop-rest.self c.push_piece-in-loop-rest.new.self c.loop-rest.invariant c.split_at.ensures.by_index.0
    c.in_ok-push_piece-2.ensures.ok

pub returns-clause-ok : goal.returns-clause-ok
returns-clause-ok c =
    has_come c.args.self.now c.loop-rest.self c.args.frame.now c.requires.fit c.requires.none c.requires.uncut c.length_bytes.ensures.fits
    (subst (λ (bs : List ℕ). IsComing c.args.self.now.frames c.args.frame.now bs c.loop-rest.self) (none_left c.loop-rest.rest.now c.loop-rest-test.ensures) c.loop-rest.invariant)
