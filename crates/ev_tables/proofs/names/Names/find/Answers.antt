use Rattle.std.proofs.Common.{ap, ◌∙◌}
use Rattle.ev_tables.specs.Table.{name_of}
use Rattle.ev_tables.proofs.Keys.{name_lookup}
use Rattle.ev_tables.proofs.names.Names.find.Goals as goal

pub returns : goal.returns
returns c = c.copied.ensures ∙ c.get.ensures.value ∙ name_lookup c.args.value.now c.self.inside.numbers.entries ∙ ap (name_of c.args.value.now) c.self.view_is
