use Rattle.std.proofs.Common.{◌≡◌, ◌++◌, subst}
use Rattle.std.specs.Prelude.{OnOk}
use Rattle.ev_resident.specs.Closing.{left_lines}
use Rattle.ev_step_lines.specs.Lines.{Naming}
use Rattle.ev_world.proofs.closing.tell_resident.Goals as goal

pub returns : goal.returns
returns c =
    subst (λ (t : Naming). OnOk c.tell_left-told.result (c.tell_left-told.new.history ≡ c.args.history.now ++ left_lines t c.args.resident.member.vat.host.inside.refs)) c.table.ensures c.tell_left-told.ensures
