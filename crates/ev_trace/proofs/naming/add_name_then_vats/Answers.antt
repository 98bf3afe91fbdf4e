use Rattle.std.proofs.Common.{[], false, ◌∙◌, ap}
use Rattle.ev_trace_words.specs.declared.words.Quote.TheVariants.{Outside}
use Rattle.ev_trace.specs.Naming.{scan, with_names}
use Rattle.ev_trace.proofs.NamingLemmas.{name_first}
use Rattle.ev_trace.proofs.naming.add_name_then_vats.Goals as goal

pub returns-in_ok-add_bare-in-len1-up : goal.returns-in_ok-add_bare-in-len1-up
returns-in_ok-add_bare-in-len1-up c =
    name_first c.args.names.now _ _ c.args.words.now c.name-item.result c.in-len1-up.len_at_least c.name-item.is
    (c.in_ok-add_scanned-in-len1-up.ensures ∙ ap (λ w. with_names c.args.names.now (scan Outside false false [] w)) c.as_str.ensures)
    c.in_ok-add_bare-in-len1-up.ensures
