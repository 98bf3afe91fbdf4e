use Rattle.std.proofs.Common.{◌≡◌, ◌∙◌, true, false, refl, arith}
use Rattle.ev_make_text.proofs.Lists.{drops_empty, stays_full}
use Rattle.ev_make_text.proofs.bodies.trimmed.Goals as goal

pub returns-then-not-is_empty : goal.returns-then-not-is_empty
returns-then-not-is_empty c =
    stays_full c.loop-end.end c.args.lines.now c.index-lines-end.result (omega arith) c.loop-end.invariant.within c.index-lines-end.is
    (λ e. let h : false ≡ true = c.if-not-is_empty.ensures.1 e in cc) ∙ c.loop-end.invariant.same

pub loop-end-preserved : goal.loop-end-preserved
loop-end-preserved c = record {
  within = omega arith;
  same = drops_empty c.loop-end.end c.args.lines.now c.index-lines-end.result (omega arith) c.loop-end.invariant.within c.index-lines-end.is
      (c.if-not-is_empty.ensures.0 refl) ∙ c.loop-end.invariant.same;
}
