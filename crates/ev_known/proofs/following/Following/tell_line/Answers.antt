use Rattle.std.proofs.Common.{sym, subst}
use Rattle.std.proofs.lemmas.Result.{on_ok_weaker}
use Rattle.def_event.specs.Uses.{settles}
use Rattle.ev_known.specs.Following.{Tables, TablesStand}
use Rattle.ev_known.proofs.Chained.{chains_noted}
use Rattle.ev_known.proofs.Followed.{line_followed}
use Rattle.ev_known.proofs.following.Following.tell_line.Goals as goal

pub returns-clause-stands : goal.returns-clause-stands
returns-clause-stands c past h =
    let old : Tables = record { settled = c.self.inside.settled; viewed = c.self.inside.viewed; plan = c.self.inside.plan; told = c.self.inside.told } in
    let inside : TablesStand old past = subst (λ (t : Tables). TablesStand t past) (sym c.self.view_is) h in
    on_ok_weaker c.tell_chain.result (
    λ chains.
    line_followed c.args.at c.args.event.now past old
    (record { settled = c.note_settled.new.settled; viewed = c.note_viewed.new.viewed; plan = c.self.inside.plan; told = c.tell_chain.new.told }) c.in_ok-note_settled.ensures
    c.in_ok-note_viewed.ensures chains inside
    ) (c.tell_chain.ensures (chains_noted c.args.at (settles c.args.event.now) old.plan old.told old.settled c.note_settled.new.settled c.in_ok-note_settled.ensures inside.chains))
