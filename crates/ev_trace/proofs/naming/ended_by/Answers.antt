use Rattle.std.proofs.Common.{◌∙◌, ap}
use Rattle.ev_trace_words.specs.Words.{behind_quote}
use Rattle.ev_trace.specs.Naming.{only_if, with_names}
use Rattle.ev_trace.proofs.NamingLemmas.{end_byte}
use Rattle.ev_trace.proofs.naming.ended_by.Goals as goal

pub returns : goal.returns
returns c =
    end_byte c.args.at.quote _ c.args.at.rooted c.args.at.provides _ _ c.ends_name-is_name.result _ _ c.args.byte c.args.names.now _ c.requires c.ends_name-is_name.ensures
    (c.in_ok-add_only_if.ensures ∙ ap (λ r. with_names c.args.names.now (only_if c.ends_name-is_name.result r)) c.as_str.ensures.value)
    c.new.ensures.bytes c.is_root.ensures c.is_gift.ensures (c.behind_quote.ensures ∙ ap (behind_quote c.args.at.quote) c.from.ensures)
