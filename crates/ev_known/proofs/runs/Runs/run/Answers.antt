use Rattle.std.proofs.Common.{Some, None, inl, inr, refl, sym, subst, ◌∙◌}
use Rattle.std.proofs.lemmas.Result.{on_ok_weaker}
use Rattle.def_event.specs.Uses as uses
use Rattle.ev_known.specs.Telling.{key}
use Rattle.ev_known.specs.Following.{FollowedAs}
use Rattle.ev_known.proofs.Running.{told_is, not_told}
use Rattle.ev_known.proofs.runs.Runs.run.Goals as goal

pub returns-then-has : goal.returns-then-has
unfolding key
returns-then-has c past s t =
    let a : uses.Activation = record { at = c.args.activation.at; number = c.args.activation.number } in
    inl (told_is c.args.facts.now past (uses.Begun a) s (sym c.has.ensures ∙ c.if-has.true), refl)

pub returns-in_default : goal.returns-in_default
unfolding key
returns-in_default c past s t =
    let a : uses.Activation = record { at = c.args.activation.at; number = c.args.activation.number } in
    inr (
      not_told c.args.facts.now past (uses.Begun a) s (sym c.has.ensures ∙ c.if-has.false),
      None,
      subst (FollowedAs past c.args.activation.at c.args.target.now) c.in_default.is (c.in_ok-object.ensures past t),
      refl,
    )

pub returns : goal.returns
unfolding key
returns c past s t =
    let a : uses.Activation = record { at = c.args.activation.at; number = c.args.activation.number } in
    on_ok_weaker c.put.result (
    λ put.
    inr (
      not_told c.args.facts.now past (uses.Begun a) s (sym c.has.ensures ∙ c.if-has.false),
      Some c.in-Some.object,
      subst (FollowedAs past c.args.activation.at c.args.target.now) c.in-Some.is (c.in_ok-object.ensures past t),
      put,
    )
    ) c.put.ensures
