use Rattle.std.proofs.Common.{ap, ◌∙◌}
use Rattle.ev_intro.specs.declared.gifts.GiftKey.{GiftKey}
use Rattle.ev_intro.specs.declared.gifts.Gift.{Gift as Held}
use Rattle.ev_intro.specs.Gift.{put}
use Rattle.ev_intro.proofs.GiftLemmas.{gift_of, gifts_of, put_insert}
use Rattle.ev_intro.proofs.gifts.GiftTable.put.Goals as goal

pub returns-clause-ok : goal.returns-clause-ok
returns-clause-ok c =
    let key : GiftKey = record { provider = c.args.provider; swiss = c.args.swiss } in
    let held : Held = record { promise = c.args.promise; is_opened = c.args.is_opened } in
    ap gifts_of c.in_ok-insert.ensures.entries ∙ put_insert key held c.self.inside.gifts.entries ∙ ap (put (gift_of (key, held))) c.self.view_is
