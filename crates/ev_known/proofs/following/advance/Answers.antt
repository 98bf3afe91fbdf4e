use Rattle.std.proofs.Common.{◌≡◌, sym, ap, ◌∙◌, arith}
use Rattle.std.proofs.lemmas.Result.{on_ok_weaker}
use Rattle.ev_known.specs.Following.{place_told}
use Rattle.ev_known.proofs.Chained.{advanced}
use Rattle.ev_known.proofs.following.advance.Goals as goal

pub returns : goal.returns
returns c settled n is other goes h =
    let start = c.in-Some.start in
    let after = c.is_after.ensures c.if-not-is_after.false in
    let there : c.place_told.result ≡ start.place = omega arith in
    on_ok_weaker c.put.result
    (λ put. advanced c.args.plan.now c.args.told.now c.put.new.self settled c.args.at c.args.from c.args.to start c.in-Some-find.end n h (sym c.find.ensures ∙ c.in-Some.is)
    (sym c.find-2.ensures ∙ c.in-Some-find.is) after.0 after.1 (ap place_told (sym c.find-3.ensures) ∙ sym c.place_told.ensures ∙ there) put is other goes) c.put.ensures
