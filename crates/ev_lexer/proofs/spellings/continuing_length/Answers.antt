use Rattle.std.proofs.Common.{arith, sym, ◌∙◌}
use Rattle.std.specs.Str.Iter.{chars_rest}
use Rattle.ev_lexer.proofs.Fronts.{begins_at, goes_after, goes_further, stops_at_end, stops_before}
use Rattle.ev_lexer.proofs.spellings.continuing_length.Goals as goal

pub loop-c-init : goal.loop-c-init
loop-c-init c = begins_at (chars_rest c.into_iter-c-iterator.result) c.args.text.now (cc) c.utf8.text

pub overflow_add-length : goal.overflow_add-length
overflow_add-length c =
    omega (arith, goes_after _ c.loop-c.length c.len_utf8-length.result _ _ c.args.text.now c.len_utf8-length.ensures.value c.in-Some.ensures.steps.0 (sym c.continues_identifier.ensures ∙ c.if-continues_identifier.true) c.loop-c.invariant)

pub loop-c-preserved : goal.loop-c-preserved
loop-c-preserved c = goes_further _ _ _ _ _ c.args.text.now c.len_utf8-length.ensures.value c.in-Some.ensures.steps.0 (sym c.continues_identifier.ensures ∙ c.if-continues_identifier.true) c.loop-c.invariant

pub returns-else-continues_identifier-clause-value : goal.returns-else-continues_identifier-clause-value
returns-else-continues_identifier-clause-value c =
    (stops_before _ _ _ _ c.args.text.now c.in-Some.ensures.steps.0 (sym c.continues_identifier.ensures ∙ c.if-continues_identifier.false) c.loop-c.invariant).read

pub returns-else-continues_identifier-clause-boundary : goal.returns-else-continues_identifier-clause-boundary
returns-else-continues_identifier-clause-boundary c =
    (stops_before _ _ _ _ c.args.text.now c.in-Some.ensures.steps.0 (sym c.continues_identifier.ensures ∙ c.if-continues_identifier.false) c.loop-c.invariant).boundary

pub returns-clause-value : goal.returns-clause-value
returns-clause-value c = (stops_at_end _ _ c.args.text.now c.in-None.ensures.steps.0.0 c.loop-c.invariant).read

pub returns-clause-boundary : goal.returns-clause-boundary
returns-clause-boundary c = (stops_at_end _ _ c.args.text.now c.in-None.ensures.steps.0.0 c.loop-c.invariant).boundary
