use Rattle.std.proofs.Common.{inl, sym, ap, ◌∙◌, subst}
use Rattle.ev_base.specs.declared.names.Msg.{Msg}
use Rattle.ev_order.specs.Mentions.{IsAbsent}
use Rattle.ev_order.specs.Judge.{seed_of}
use Rattle.ev_order.proofs.Ranking.{same_entry}
use Rattle.ev_order.proofs.judge.untaken_seed.Goals as goal

pub returns-in-None : goal.returns-in-None
returns-in-None c = λ m s h.
    let e = same_entry c.args.sent.now c.args.number m c.in-Some.message s c.in-Some.mention h (sym c.get.ensures ∙ c.in-Some.is) in
    inl (subst (λ (x : Msg). IsAbsent x c.args.taken.now) (sym e.0) c.in-None.ensures, c.seed_of.ensures ∙ ap (seed_of c.args.places.now) (sym e.1))
