use Rattle.std.proofs.Common.{ap, ◌∙◌}
use Rattle.ev_tables.specs.Table.{place_of}
use Rattle.ev_tables.proofs.Keys.{place_position}
use Rattle.ev_tables.proofs.places.Places.find.Goals as goal

pub returns : goal.returns
returns c = c.get_index_of.ensures.index ∙ place_position c.args.value.now c.self.inside.things.keys ∙ ap (place_of c.args.value.now) c.self.view_is
