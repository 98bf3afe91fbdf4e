use Rattle.std.proofs.Common.{ℕ, List, Some, map, ◌++◌, refl, ap, ◌∙◌, subst}
use Rattle.def_event.specs.declared.shown.Shown.{Shown}
use Rattle.ev_order.specs.declared.mentions.Mention.{Mention}
use Rattle.ev_order.specs.Mentions.{IsAdded}
use Rattle.ev_order.specs.Chains.{reference}
use Rattle.ev_order.specs.Walk.{Walked, Does, does_carry}
use Rattle.ev_order.proofs.walk.Walk.add_carry.Goals as goal

pub returns : goal.returns
returns c =
    let deed = does_carry (record { message = c.args.message; leaves = c.args.leaves; reaches = c.args.reaches; args = c.args.args.now }) in
    let now : Walked = record { here = c.self.inside.here; chain = c.add_all.new.chains; sent = c.self.inside.sent; carried = c.add.new.self; taken = c.self.inside.taken } in
    let args = c.as_slice.ensures in
    let first = c.len-first.ensures in
    let count = c.len.ensures in
    let leaves = c.leaves.view_is in
    let same : Mention → Type 0 = λ (m : Mention). IsAdded c.args.message m c.self.inside.carried c.add.new.self in
    subst (λ (old : Walked). Does c.args.line deed old now) c.self.view_is (record {
      here = refl;
      chain = c.in_ok-add_all.ensures.chain;
      references = c.in_ok-add_all.ensures.references
          ∙ ap (λ (xs : List Shown). c.self.inside.chains.references ++ map (reference (Some c.reaches.inside.0)) xs) args
          ∙ ap (λ (v : ℕ). c.self.inside.chains.references ++ map (reference (Some v)) c.args.args.now) c.reaches.view_is;
      sent = refl;
      carried = subst same (λ i. record { line = c.args.line; first = first i; args = count i; vat = Some (leaves i) }) c.in_ok-add.ensures;
      taken = refl;
    })
