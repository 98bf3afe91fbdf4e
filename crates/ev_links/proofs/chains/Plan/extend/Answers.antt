use Rattle.std.proofs.Common.{sym, ap, ◌∙◌}
use Rattle.std.proofs.lemmas.Result.{on_ok_weaker}
use Rattle.ev_links.specs.Chains.{PlanTables, end_of, spot}
use Rattle.ev_links.specs.Plan.{Settling}
use Rattle.ev_links.proofs.Planning.{extended, extended_never, extended_open, extended_other, labels_apart, labels_same}
use Rattle.ev_links.proofs.chains.Plan.extend.Goals as goal

pub returns-in_default : goal.returns-in_default
returns-in_default c past event is h =
    let s : Settling = record { from = c.args.from; to = c.args.to } in
    extended_never past c.args.at event s c.args.self.now c.append.new.self is h c.in_ok-append.ensures (sym c.find.ensures ∙ c.in_default.is)

pub returns-in_default-find : goal.returns-in_default-find
returns-in_default-find c past event is h =
    let s : Settling = record { from = c.args.from; to = c.args.to } in
    extended_open past c.args.at event s c.args.self.now c.append.new.self is h c.in_ok-append.ensures c.in-Some.standing (sym c.find.ensures ∙ c.in-Some.is)
    (sym (c.find-2.ensures ∙ ap (λ (p : PlanTables). end_of p.ends (spot c.args.at c.in-Some.standing.chain)) c.self.view_is) ∙ c.in_default-find.is)

pub returns-then-ne : goal.returns-then-ne
returns-then-ne c past event is h =
    let s : Settling = record { from = c.args.from; to = c.args.to } in
    extended_other past c.args.at event s c.args.self.now c.append.new.self is h c.in_ok-append.ensures c.in-Some.standing (sym c.find.ensures ∙ c.in-Some.is) c.in-Some-find.end
    (sym (c.find-2.ensures ∙ ap (λ (p : PlanTables). end_of p.ends (spot c.args.at c.in-Some.standing.chain)) c.self.view_is) ∙ c.in-Some-find.is)
    (labels_apart c.in-Some-find.end.name c.args.from (sym c.ne.ensures ∙ c.if-ne.true))

pub returns : goal.returns
returns c past event is h =
    let s : Settling = record { from = c.args.from; to = c.args.to } in
    on_ok_weaker c.append-2.result
    (extended past c.args.at event s c.args.self.now c.append.new.self is h c.in_ok-append.ensures c.in-Some.standing (sym c.find.ensures ∙ c.in-Some.is) c.in-Some-find.end
    (sym (c.find-2.ensures ∙ ap (λ (p : PlanTables). end_of p.ends (spot c.args.at c.in-Some.standing.chain)) c.self.view_is) ∙ c.in-Some-find.is)
    (labels_same c.in-Some-find.end.name c.args.from (sym c.ne.ensures ∙ c.if-ne.false)) c.append-2.new.self) c.append-2.ensures
