use Rattle.std.proofs.Common.{◌∙◌}
use Rattle.ev_reader.proofs.Names.{lookup_is}
use Rattle.ev_reader.proofs.scope.find_in.Goals as goal

pub returns : goal.returns
returns c = c.copied.ensures ∙ c.get.ensures.value ∙ lookup_is c.args.name.now c.args.names.now.entries
