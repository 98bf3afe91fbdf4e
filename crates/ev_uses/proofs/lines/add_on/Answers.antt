use Rattle.std.proofs.lemmas.Result.{on_ok_weaker}
use Rattle.def_event.specs.Uses.{all_parts, parts}
use Rattle.ev_uses.proofs.Adding.{both_added}
use Rattle.ev_uses.proofs.lines.add_on.Goals as goal

pub returns : goal.returns
returns c =
    on_ok_weaker c.add_values.result
    (both_added (parts c.args.target.now) (all_parts c.args.values.now) c.args.labels.now c.add_value.new.labels c.add_values.new.labels c.in_ok-add_value.ensures) c.add_values.ensures
