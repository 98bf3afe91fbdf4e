use Rattle.std.proofs.Common.{◌≡◌, true, false, sym, ◌∙◌}
use Rattle.std.proofs.lemmas.Result.{IfOk-weaker}
use Rattle.ev_uses.proofs.Giving.{both_points, both_stand, first_point}
use Rattle.ev_uses.proofs.kept.is_of_known.Goals as goal

pub returns-then-not-branch : goal.returns-then-not-branch
returns-then-not-branch c past h =
    let uses = c.in_ok-uses_known.ensures past h.knowledge in (
      (
        λ e. absurd (let bad : false ≡ true = e in cc),
        λ p. absurd (let first = uses.0.1 (first_point past (record { at = c.args.at; event = c.args.event.now }) p) in let bad : true ≡ false = sym first ∙ c.if-not-branch.true in cc),
      ),
      both_stand c.uses_known.new.knowledge c.args.calls.now past uses.1 h.calls,
    )

pub returns : goal.returns
returns c past h =
    let uses = c.in_ok-uses_known.ensures past h.knowledge in
    IfOk-weaker c.gives_back_known.result _ _ (
    λ b gives. (
      both_points past (record { at = c.args.at; event = c.args.event.now }) b (uses.0.0 c.if-not-branch.false) gives.0,
      both_stand c.gives_back_known.new.knowledge c.args.calls.now past gives.1 h.calls,
    )
    ) (c.gives_back_known.ensures past uses.1 h.calls)
