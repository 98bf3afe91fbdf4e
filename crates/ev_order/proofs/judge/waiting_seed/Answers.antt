use Rattle.std.proofs.Common.{true, false, refl, sym, ap, ◌∙◌, subst}
use Rattle.ev_base.specs.declared.names.Msg.{Msg}
use Rattle.ev_order.specs.Judge.{TellsTaken, seed_of}
use Rattle.ev_order.proofs.Ranking.{same_entry}
use Rattle.ev_order.proofs.judge.waiting_seed.Goals as goal

pub returns-then-is_taken : goal.returns-then-is_taken
returns-then-is_taken c = λ m s h.
    let e = same_entry c.args.sent.now c.args.number m c.in-Some.message s c.in-Some.mention h (sym c.get.ensures ∙ c.in-Some.is) in
    let tells = subst (TellsTaken c.args.taken.now c.in-Some.message c.args.line) c.if-is_taken.true c.is_taken.ensures in
    record { is_taken = true; tells = subst (λ (x : Msg). TellsTaken c.args.taken.now x c.args.line true) (sym e.0) tells; is = refl }

pub returns : goal.returns
returns c = λ m s h.
    let e = same_entry c.args.sent.now c.args.number m c.in-Some.message s c.in-Some.mention h (sym c.get.ensures ∙ c.in-Some.is) in
    let tells = subst (TellsTaken c.args.taken.now c.in-Some.message c.args.line) c.if-is_taken.false c.is_taken.ensures in
    record { is_taken = false; tells = subst (λ (x : Msg). TellsTaken c.args.taken.now x c.args.line false) (sym e.0) tells; is = c.seed_of.ensures ∙ ap (seed_of c.args.places.now) (sym e.1) }
