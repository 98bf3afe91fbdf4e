use Rattle.std.proofs.Common.{◌≡◌, true, false, List, sym, ap, subst, ◌∙◌}
use Rattle.ev_known.specs.declared.facts.Fact.{Fact}
use Rattle.ev_known.specs.declared.facts.Fact.TheVariants.{Audition}
use Rattle.ev_links.specs.declared.label.Label.{Label}
use Rattle.ev_known.specs.Following.{FollowedAs, Tables, TablesStand}
use Rattle.ev_known.specs.Knowing.{Known}
use Rattle.ev_known.specs.Telling.{is_told}
use Rattle.ev_known.proofs.Knowing.{audition_back, audition_there, none_followed}
use Rattle.ev_known.proofs.knowledge.Knowledge.leads_to_audition.Goals as goal

pub returns-in_default : goal.returns-in_default
returns-in_default c past h =
    let tables = subst (λ (t : Tables). TablesStand t past) (sym (ap (λ (k : Known). k.following) c.self.view_is)) h.following in
    let none = subst (FollowedAs past c.args.at c.args.name.now) c.in_default.is (c.in_ok-object.ensures past tables) in
    (λ e. absurd (let bad : false ≡ true = e in cc), λ leads. absurd (none_followed c.args.self.now past c.args.at c.args.name.now h none leads))

pub returns : goal.returns
returns c past h =
    let l : Label = c.in-Some.object in
    let tables = subst (λ (t : Tables). TablesStand t past) (sym (ap (λ (k : Known). k.following) c.self.view_is)) h.following in
    let found = subst (FollowedAs past c.args.at c.args.name.now) c.in-Some.is (c.in_ok-object.ensures past tables) in
    let told : c.has.result ≡ is_told c.args.self.now.facts (Audition l) = c.has.ensures ∙ ap (λ (k : Known). is_told k.facts (Audition l)) c.self.view_is in (
      λ e. audition_there c.args.self.now past c.args.at c.args.name.now h l found (sym told ∙ e),
      λ leads. told ∙ audition_back c.args.self.now past c.args.at c.args.name.now h l found leads,
    )
