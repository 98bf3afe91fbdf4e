use Rattle.std.proofs.Common.{◌++◌, ◌∙◌, ap, string_bytes, encode_utf8}
use Rattle.ev_trace.proofs.NamingLemmas.{run_byte}
use Rattle.ev_trace.proofs.naming.with_byte.Goals as goal

pub returns : goal.returns
returns c = run_byte c.args.at.quote c.args.at.rooted c.args.at.provides _ _ c.args.byte c.requires (c.in_ok-push.ensures.bytes ∙ ap (λ b. string_bytes c.args.at.run ++ encode_utf8 b) c.from.ensures)
