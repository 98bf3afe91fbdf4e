use Rattle.std.proofs.Common.{ℕ, sym, ap, ◌∙◌}
use Rattle.def_machine.proofs.Keys.{word_key}
use Rattle.ev_resident.specs.Names.{gift_at}
use Rattle.ev_resident.proofs.names.name_of_gift.Goals as goal

pub returns : goal.returns
returns c = c.gift_name.ensures ∙ ap (λ (w : ℕ). gift_at c.args.words.now c.args.host w) (sym (word_key c.args.swiss.provider c.args.swiss.word))
