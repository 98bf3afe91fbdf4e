use Rattle.std.proofs.Common.{◌≡◌, ℕ, Bool, true, refl, sym, subst, ◌∙◌}
use Rattle.std.specs.Prelude.{◌↔◌}
use Rattle.std.proofs.lemmas.Result.{IfOk-weaker}
use Rattle.def_event.specs.Uses.{KnowsName, open_calls}
use Rattle.ev_uses.specs.Calls.{stack}
use Rattle.ev_uses.proofs.Giving.{asked_inside, begun_inside, none_inside}
use Rattle.ev_uses.proofs.returning.is_name_given_back.Goals as goal

pub returns-in_default : goal.returns-in_default
returns-in_default c past h g =
    let a = c.args.activation in
    IfOk-weaker c.knows.result _ _ (
    λ b known. (
      none_inside past a.at a.number c.args.name.now (open_calls past a.at a.number) (stack c.args.calls.now a) b (g.each (record { at = a.at; number = a.number }))
          (sym c.innermost.ensures ∙ c.in_default.is) known.0,
      known.1,
    )
    ) (c.knows.ensures past h)

pub returns-then-call : goal.returns-then-call
returns-then-call c past h g =
    let a = c.args.activation in (
      (
        λ e. asked_inside past a.at a.number c.args.name.now (open_calls past a.at a.number) (stack c.args.calls.now a) c.in-Some.call (g.each (record { at = a.at; number = a.number }))
            (sym c.innermost.ensures ∙ c.in-Some.is) c.if-call.true,
        λ x. refl,
      ),
      h,
    )

pub returns : goal.returns
returns c past h g =
    let a = c.args.activation in
    IfOk-weaker c.knows-2.result _ _ (
    λ (b : Bool) answer.
    let known : (b ≡ true) ↔ KnowsName past a.at c.number_or-number.result c.args.name.now = answer.0 in (
      begun_inside past a.at a.number c.args.name.now (open_calls past a.at a.number) (stack c.args.calls.now a) c.in-Some.call b (g.each (record { at = a.at; number = a.number }))
          (sym c.innermost.ensures ∙ c.in-Some.is) c.if-call.false (subst (λ (n : ℕ). (b ≡ true) ↔ KnowsName past a.at n c.args.name.now) c.number_or-number.ensures known),
      answer.1,
    )
    ) (c.knows-2.ensures past h)
