use Rattle.std.proofs.Common.{◌∙◌, ap, refl}
use Rattle.ev_intro.specs.Word.{Drawn}
use Rattle.ev_sturdy.proofs.Turns.{begins, says, repeats, ends}
use Rattle.ev_sturdy.proofs.telling.push_lines.Goals as goal

pub loop-line-init : goal.loop-line-init
loop-line-init c = record {
  key = refl;
  so_far = begins c.args.words.now.key c.args.lines.now _ _ _ c.requires.empty c.requires.opened c.requires.undrawn;
}

pub loop-line-preserved : goal.loop-line-preserved
loop-line-preserved c =
    let gives = rw c.in-Says.is at c.in_ok-said.ensures.gives in
    let drawn = rw c.in-Says.is at c.in_ok-said.ensures.draws in
    record {
      key = ap (λ (w : Drawn). w.key) drawn ∙ c.loop-line.invariant.key;
      so_far = says c.args.words.now.key c.loop-line.words.key c.args.lines.now c.loop-line.line-index _ c.loop-line.sturdy c.answered.new.sturdy
          c.loop-line.words.count c.answered.new.words.count _ _ c.in-Says.said c.loop-line-test.true c.loop-line.invariant.key c.loop-line.invariant.so_far gives
          (ap (λ (w : Drawn). w.count) drawn) c.in_ok-push_line-in-Says.ensures;
    }

pub returns-in-Repeats : goal.returns-in-Repeats
returns-in-Repeats c =
    let gives = rw c.in-Repeats.is at c.in_ok-said.ensures.gives in
    repeats c.args.words.now.key c.loop-line.words.key c.args.lines.now c.loop-line.line-index _ c.loop-line.sturdy c.answered.new.sturdy
    c.loop-line.words.count _ _ c.in-Repeats.first c.in-Repeats.second c.loop-line-test.true c.loop-line.invariant.key c.loop-line.invariant.so_far gives
    c.in_ok-push_stop-in-Repeats.ensures

pub returns : goal.returns
returns c =
    ends c.args.words.now.key c.args.lines.now c.loop-line.line-index c.loop-line.sturdy c.loop-line.words.count _ _ c.loop-line-test.false
    c.loop-line.invariant.so_far c.in_ok-push_end.ensures
