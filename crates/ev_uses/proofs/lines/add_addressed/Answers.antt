use Rattle.std.proofs.Common.{◌∷◌, []}
use Rattle.std.proofs.lemmas.Result.{on_ok_weaker}
use Rattle.def_event.specs.Uses.{AName, all_parts}
use Rattle.ev_uses.proofs.Adding.{both_added}
use Rattle.ev_uses.proofs.lines.add_addressed.Goals as goal

pub returns : goal.returns
returns c =
    on_ok_weaker c.add_values.result
    (both_added (AName c.args.target.now ∷ []) (all_parts c.args.values.now) c.args.labels.now c.add_name.new.labels c.add_values.new.labels c.in_ok-add_name.ensures)
    c.add_values.ensures
