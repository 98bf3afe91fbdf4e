use Rattle.std.proofs.Common.{[], true, false, ◌∙◌, ap}
use Rattle.ev_trace_words.specs.declared.words.Quote.TheVariants.{Outside}
use Rattle.ev_trace.specs.Naming.{scan, with_names}
use Rattle.ev_trace.proofs.NamingLemmas.{host_first}
use Rattle.ev_trace.proofs.naming.add_host.Goals as goal

pub returns-in_ok-add_values-in-len1-up : goal.returns-in_ok-add_values-in-len1-up
returns-in_ok-add_values-in-len1-up c =
    host_first c.args.names.now _ _ c.args.words.now c.host-item.result c.in-len1-up.len_at_least c.host-item.is
    (c.in_ok-add_scanned-in-len1-up.ensures ∙ ap (λ w. with_names c.args.names.now (scan Outside true false [] w)) c.as_str.ensures)
    c.in_ok-add_values-in-len1-up.ensures
