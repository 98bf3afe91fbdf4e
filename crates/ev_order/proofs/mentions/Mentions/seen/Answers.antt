use Rattle.std.proofs.Common.{MatchOption, sym, ◌∙◌, subst}
use Rattle.ev_order.specs.declared.mentions.MessageKey.{MessageKey}
use Rattle.ev_order.specs.Mentions.{MentionList, IsThere, IsAbsent}
use Rattle.ev_order.proofs.Keys.{finds}
use Rattle.ev_order.proofs.mentions.Mentions.seen.Goals as goal

pub returns : goal.returns
returns c =
    let key : MessageKey = record { sender = c.args.sender; number = c.args.number } in
    let es = c.self.inside.first.entries in
    let found = finds key es c.copied.result (sym (c.copied.ensures ∙ c.get.ensures.value)) in
    subst (λ (ms : MentionList). MatchOption c.copied.result (IsAbsent (record { sender = c.args.sender; number = c.args.number }) ms) (λ mention. IsThere (record { sender = c.args.sender; number = c.args.number }) mention ms)) c.self.view_is found
