use Rattle.std.proofs.Common.{ap, ◌∙◌}
use Rattle.std.specs.Prelude.{option_map}
use Rattle.ev_intro.specs.declared.gifts.GiftKey.{GiftKey}
use Rattle.ev_intro.specs.Gift.{find}
use Rattle.ev_intro.proofs.GiftLemmas.{shown, find_lookup}
use Rattle.ev_intro.proofs.gifts.GiftTable.seen.Goals as goal

pub returns-in-Some : goal.returns-in-Some
returns-in-Some c =
    let key : GiftKey = record { provider = c.args.provider; swiss = c.args.swiss } in
    ap (option_map shown) (c.in-Some.ensures ∙ c.get.ensures.value) ∙ find_lookup key c.self.inside.gifts.entries ∙ ap (find c.args.provider c.args.swiss) c.self.view_is

pub returns-in-None : goal.returns-in-None
returns-in-None c =
    let key : GiftKey = record { provider = c.args.provider; swiss = c.args.swiss } in
    ap (option_map shown) (c.in-None.ensures ∙ c.get.ensures.value) ∙ find_lookup key c.self.inside.gifts.entries ∙ ap (find c.args.provider c.args.swiss) c.self.view_is
