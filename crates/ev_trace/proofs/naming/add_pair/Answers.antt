use Rattle.std.proofs.Common.{[], true, false, ◌∙◌, ap}
use Rattle.ev_trace_words.specs.declared.words.Quote.TheVariants.{Outside}
use Rattle.ev_trace.specs.Naming.{scan, with_names}
use Rattle.ev_trace.proofs.NamingLemmas.{pair_first}
use Rattle.ev_trace.proofs.naming.add_pair.Goals as goal

pub returns-in_ok-add_note-in-len2-up : goal.returns-in_ok-add_note-in-len2-up
returns-in_ok-add_note-in-len2-up c =
    pair_first c.args.names.now _ _ _ c.args.words.now c.from-item.result c.to-item.result c.in-len2-up.len_at_least c.from-item.is c.to-item.is
    (c.in_ok-add_scanned-in-len2-up.ensures ∙ ap (λ w. with_names c.args.names.now (scan Outside true false [] w)) c.as_str.ensures)
    (c.in_ok-add_scanned-in-len2-up-2.ensures ∙ ap (λ w. with_names c.add_scanned.new.names (scan Outside true false [] w)) c.as_str-in-len2-up.ensures)
    c.in_ok-add_note-in-len2-up.ensures
