use Rattle.std.proofs.Common.{List, [], ◌∷◌, ◌++◌, ℕ, sym, ◌∙◌}
use Rattle.std.proofs.lemmas.Result.{on_ok_weaker}
use Rattle.ev_injected.proofs.Changes.{with_found}
use Rattle.ev_injected.proofs.injected.Injected.push.Goals as goal

pub returns-in-Some-clause-ok : goal.returns-in-Some-clause-ok
returns-in-Some-clause-ok c =
    on_ok_weaker c.push_at.result (λ e. e ∙ sym (with_found (λ (fs : List (List ℕ)). fs ++ c.args.frame ∷ []) c.args.from c.args.to c.args.self.now c.in-Some.index (sym c.in-Some.ensures))) c.push_at.ensures.ok
