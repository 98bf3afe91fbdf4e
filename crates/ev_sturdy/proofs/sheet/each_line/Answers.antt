use Rattle.std.proofs.Common.{◌∙◌, sym}
use Rattle.ev_script.proofs.EachLemmas.{goes_at, stops_at, ends, each_map}
use Rattle.ev_sturdy.specs.Sheet.{line_of}
use Rattle.ev_sturdy.proofs.sheet.each_line.Goals as goal

pub returns-in_default : goal.returns-in_default
returns-in_default c =
    stops_at (λ t. line_of t.now) _ c.loop-text.found _ c.args.texts.now c.loop-text.text-index c.loop-text-test.true
    c.loop-text.invariant (sym c.line_of.ensures ∙ c.in_default.is) ∙ sym (each_map line_of (λ t. t.now) c.args.texts.now)

pub loop-text-preserved : goal.loop-text-preserved
loop-text-preserved c =
    goes_at (λ t. line_of t.now) _ c.in-Some.line c.loop-text.found _ _ c.args.texts.now c.loop-text.text-index
    c.loop-text-test.true c.loop-text.invariant (sym c.line_of.ensures ∙ c.in-Some.is) c.in_ok-push.ensures.ok

pub returns : goal.returns
returns c =
    ends (λ t. line_of t.now) c.loop-text.found _ c.args.texts.now c.loop-text.text-index c.loop-text-test.false c.loop-text.invariant
    ∙ sym (each_map line_of (λ t. t.now) c.args.texts.now)
