use Rattle.std.proofs.Common.{sym, subst}
use Rattle.std.proofs.lemmas.Result.{IfOk-weaker}
use Rattle.ev_links.specs.declared.label.Label.{Label}
use Rattle.ev_known.specs.Following.{FollowsTo, Tables, TablesStand}
use Rattle.ev_known.proofs.Followed.{followed_as}
use Rattle.ev_known.proofs.following.Following.follow.Goals as goal

pub returns : goal.returns
returns c past h =
    let t : Tables = record { settled = c.self.inside.settled; viewed = c.self.inside.viewed; plan = c.self.inside.plan; told = c.self.inside.told } in
    let inside : TablesStand t past = subst (λ (x : Tables). TablesStand x past) (sym c.self.view_is) h in
    IfOk-weaker c.follow_in.result _ _ (
    λ object leads.
    followed_as t past c.args.at c.args.name.now object inside
    (subst (λ (l : Label). FollowsTo t.settled t.viewed c.args.at l object) c.name_label-start.ensures leads)
    ) (c.follow_in.ensures c.new-seen.ensures inside.chains)
