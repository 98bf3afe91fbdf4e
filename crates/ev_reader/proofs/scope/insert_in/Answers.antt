use Rattle.std.proofs.Common.{ap, ◌∙◌}
use Rattle.ev_reader.specs.Bindings.{bindings}
use Rattle.ev_reader.proofs.Names.{inserted_is}
use Rattle.ev_reader.proofs.scope.insert_in.Goals as goal

pub returns : goal.returns
returns c = ap bindings c.in_ok-_old.ensures.entries ∙ inserted_is c.args.names.now _ c.args.is_var c.args.name.now c.in_ok-key.ensures.ok c.requires
