use Rattle.std.proofs.Common.{[], false, ◌∙◌, ap}
use Rattle.ev_trace_words.specs.declared.words.Quote.TheVariants.{Outside}
use Rattle.ev_trace.specs.Naming.{only_if, scan, with_names}
use Rattle.ev_trace.proofs.NamingLemmas.{all_bytes}
use Rattle.ev_trace.proofs.naming.add_scanned.Goals as goal

pub returns : goal.returns
returns c =
    all_bytes c.loop-byte.at.quote c.loop-byte.at.rooted c.loop-byte.at.provides _ c.as_bytes-byte-items.result.now c.loop-byte.byte-index c.loop-byte.names _ _ c.loop-byte-test.false
    (c.in_ok-add_only_if.ensures ∙ ap (λ r. with_names c.loop-byte.names (only_if c.loop-byte.at.rooted r)) c.as_str.ensures.value) c.loop-byte.invariant
    ∙ ap (λ w. with_names c.args.names.now (scan Outside c.args.rooted false [] w)) c.as_bytes-byte-items.ensures.value
