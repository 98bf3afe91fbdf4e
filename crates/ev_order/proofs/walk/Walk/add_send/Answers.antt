use Rattle.std.proofs.Common.{List, [], ◌∷◌, Option, map, ◌++◌, refl, ap, ◌∙◌, subst, append_assoc}
use Rattle.def_event.specs.declared.shown.Shown.{Shown}
use Rattle.def_event.specs.declared.reference.Reference.{Reference}
use Rattle.def_event.specs.Order.{Sending}
use Rattle.ev_order.specs.declared.mentions.Mention.{Mention}
use Rattle.ev_order.specs.Mentions.{IsAdded}
use Rattle.ev_order.specs.Chains.{reference}
use Rattle.ev_order.specs.Walk.{Walked, Does, does_send}
use Rattle.ev_order.proofs.walk.Walk.add_send.Goals as goal

pub returns : goal.returns
returns c =
    let send : Sending = record { message = c.args.message; target = c.args.target.now; args = c.args.args.now } in
    let now : Walked = record { here = c.self.inside.here; chain = c.add.new.self; sent = c.add-2.new.self; carried = c.self.inside.carried; taken = c.self.inside.taken } in
    let here = c.self.inside.here in
    let refs = c.self.inside.chains.references in
    let last = reference here c.args.target.now in
    let args = c.as_slice.ensures in
    let first = c.len-first.ensures in
    let count = c.len.ensures in
    let same : Mention → Type 0 = λ (m : Mention). IsAdded c.args.message m c.self.inside.sent c.add-2.new.self in
    subst (λ (old : Walked). Does c.args.line (does_send old.here send) old now) c.self.view_is (record {
      here = refl;
      chain = c.in_ok-add.ensures.chain;
      references = c.in_ok-add.ensures.references
          ∙ ap (λ (rs : List (Option Reference)). rs ++ last ∷ []) (c.in_ok-add_all.ensures.references ∙ ap (λ (xs : List Shown). refs ++ map (reference here) xs) args)
          ∙ append_assoc refs (map (reference here) c.args.args.now) (last ∷ []);
      sent = subst same (λ i. record { line = c.args.line; first = first i; args = count i; vat = here }) c.in_ok-add-2.ensures;
      carried = refl;
      taken = refl;
    })
