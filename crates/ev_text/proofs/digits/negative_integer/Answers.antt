use Rattle.std.proofs.Common.{◌≡◌, ◌∙◌, sym, true, false}
use Rattle.ev_text.specs.Lines.{begins_with_zero, is_numeral}
use Rattle.ev_text.proofs.Parsed.{negative_is}
use Rattle.ev_text.proofs.digits.negative_integer.Goals as goal

pub returns : goal.returns
returns c =
    let digits = c.args.digits.now in
    let first : begins_with_zero digits ≡ false = sym c.begins_with_zero.ensures ∙ c.if-begins_with_zero.false in
    let row : is_numeral digits ≡ true = sym c.is_numeral.ensures ∙ c.if-not-is_numeral.false in
    c.ok.ensures.value ∙ negative_is c.args.text.now digits c.parse.result c.requires c.parse.ensures.value.0 first row
