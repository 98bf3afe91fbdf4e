use Rattle.std.proofs.Common.{refl, sym, subst, append-nil}
use Rattle.ev_order.specs.Chains.{IsChain}
use Rattle.ev_order.specs.Walk.{Walked, Does, does_take}
use Rattle.ev_order.proofs.walk.Walk.add_take.Goals as goal

pub returns : goal.returns
returns c =
    let deed = does_take (record { message = c.args.message; by_object = c.args.by_object }) in
    let now : Walked = record { here = c.self.inside.here; chain = c.self.inside.chains; sent = c.self.inside.sent; carried = c.self.inside.carried; taken = c.add.new.self } in
    subst (λ (old : Walked). Does c.args.line deed old now) c.self.view_is (record {
      here = refl;
      chain = subst (λ (old : Walked). IsChain old.chain) (sym c.self.view_is) c.requires;
      references = sym (append-nil c.self.inside.chains.references);
      sent = refl;
      carried = refl;
      taken = c.in_ok-add.ensures;
    })
