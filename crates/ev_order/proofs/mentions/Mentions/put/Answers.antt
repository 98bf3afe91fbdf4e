use Rattle.std.proofs.Common.{[], ◌∷◌, ◌++◌, sym, ap, ◌∙◌, refl, subst, inl, inr}
use Rattle.std.specs.Map.{lookup}
use Rattle.indexmap.proofs.CallerLemmas.{insert_entry-new}
use Rattle.ev_order.specs.declared.mentions.MessageKey.{MessageKey}
use Rattle.ev_order.specs.Mentions.{MentionList, IsThere, IsAbsent}
use Rattle.ev_order.proofs.Keys.{same_key, found, missing, mentions_of, pushed, none_from, some_from}
use Rattle.ev_order.proofs.mentions.Mentions.put.Goals as goal

pub returns-then-contains_key : goal.returns-then-contains_key
returns-then-contains_key c =
    let key : MessageKey = record { sender = c.args.sender; number = c.args.number } in
    let es = c.self.inside.first.entries in
    let there = some_from (lookup (same_key key) es) (sym c.contains_key.ensures ∙ c.if-contains_key.true) in
    inl ((there.0, subst (IsThere (record { sender = c.args.sender; number = c.args.number }) there.0) c.self.view_is (found key es there.0 there.1)), refl)

pub returns : goal.returns
returns c =
    let key : MessageKey = record { sender = c.args.sender; number = c.args.number } in
    let es = c.self.inside.first.entries in
    let none = none_from (lookup (same_key key) es) (sym c.contains_key.ensures ∙ c.if-contains_key.false) in
    inr (
      subst (IsAbsent (record { sender = c.args.sender; number = c.args.number })) c.self.view_is (missing key es none),
      ap mentions_of (c.in_ok-insert.ensures.entries ∙ insert_entry-new same_key c.self.inside.first key c.args.mention none) ∙ pushed es (key, c.args.mention) ∙ ap (λ (ms : MentionList). ms ++ (record { sender = c.args.sender; number = c.args.number }, c.args.mention) ∷ []) c.self.view_is,
    )
