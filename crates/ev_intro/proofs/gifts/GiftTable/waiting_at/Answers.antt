use Rattle.std.proofs.Common.{Option, sym, ap, ◌∙◌}
use Rattle.std.specs.Prelude.{option_map}
use Rattle.ev_intro.specs.declared.gifts.GiftKey.{GiftKey}
use Rattle.ev_intro.specs.declared.gifts.Gift.{Gift as Held}
use Rattle.ev_intro.specs.Gift.{Gifts, waiting_at}
use Rattle.ev_intro.proofs.GiftLemmas.{gift_of, waiting_in, waiting_entry}
use Rattle.ev_intro.proofs.gifts.GiftTable.waiting_at.Goals as goal

pub returns-in-Some : goal.returns-in-Some
returns-in-Some c =
    let p = c.args.provider in
    let es = c.self.inside.gifts.entries in
    c.waiting.ensures ∙ ap (λ (o : Option (GiftKey × Held)). waiting_in p (option_map gift_of o)) c.in-Some.ensures.entry
    ∙ sym (waiting_entry p es c.args.index) ∙ ap (λ (gs : Gifts). waiting_at p gs c.args.index) c.self.view_is

pub returns-in-None : goal.returns-in-None
returns-in-None c =
    let p = c.args.provider in
    let es = c.self.inside.gifts.entries in
    ap (λ (o : Option (GiftKey × Held)). waiting_in p (option_map gift_of o)) c.in-None.ensures.entry
    ∙ sym (waiting_entry p es c.args.index) ∙ ap (λ (gs : Gifts). waiting_at p gs c.args.index) c.self.view_is
