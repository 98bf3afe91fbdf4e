use Rattle.std.proofs.lemmas.Result.{on_ok_weaker}
use Rattle.def_event.specs.Uses.{AName}
use Rattle.ev_uses.proofs.Adding.{one_added}
use Rattle.ev_uses.proofs.lines.add_name.Goals as goal

pub returns : goal.returns
returns c =
    on_ok_weaker c.add.result (one_added (AName c.args.name.now) c.name_label.result c.args.labels.now c.add.new.self c.name_label.ensures) c.add.ensures
