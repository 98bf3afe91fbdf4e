use Rattle.std.proofs.Common.{inr, refl, sym, ◌∙◌, subst}
use Rattle.ev_base.specs.declared.names.Msg.{Msg}
use Rattle.ev_order.specs.Mentions.{IsAbsent}
use Rattle.ev_order.proofs.Ranking.{same_entry}
use Rattle.ev_order.proofs.judge.taken_seed.Goals as goal

pub returns-in_default-find : goal.returns-in_default-find
returns-in_default-find c = λ m t h.
    let e = same_entry c.args.taken.now c.args.number m c.in-Some.message t _ h (sym c.get.ensures ∙ c.in-Some.is) in
    inr (subst (λ (x : Msg). IsAbsent x c.args.sent.now) (sym e.0) c.in_default-find.ensures, refl)
