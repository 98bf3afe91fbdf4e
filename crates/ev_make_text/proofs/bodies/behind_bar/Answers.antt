use Rattle.std.proofs.Common.{lit<}
use Rattle.std.proofs.lemmas.Str.Pattern.{strip_prefix_char}
use Rattle.ev_make_text.proofs.Lists.{bar}
use Rattle.ev_make_text.proofs.bodies.behind_bar.Goals as goal

pub returns : goal.returns
returns c = bar c.args.line.now c.strip_prefix.result (strip_prefix_char 124 c.args.line.now c.strip_prefix.result c.strip_prefix.ensures.cases (lit< tt))
