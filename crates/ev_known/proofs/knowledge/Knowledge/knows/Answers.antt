use Rattle.std.proofs.Common.{refl, sym, ◌∙◌}
use Rattle.def_event.specs.Uses as uses
use Rattle.def_event.specs.Uses.{AName}
use Rattle.ev_known.proofs.Knowing.{had_known}
use Rattle.ev_known.proofs.knowledge.Knowledge.knows.Goals as goal

pub returns-then-knows_already : goal.returns-then-knows_already
returns-then-knows_already c past h =
    let a : uses.Activation = record { at = c.args.activation.at; number = c.args.activation.number } in (
      (
        λ _. had_known c.args.self.now past h a (AName c.args.name.now) c.name_label-label.result c.name_label-label.ensures (sym c.knows_already.ensures ∙ c.if-knows_already.true),
        λ _. refl,
      ),
      h,
    )

pub returns : goal.returns
returns c past h =
    c.seek.ensures past (AName c.args.name.now) h c.new-labels.ensures c.name_label-label.ensures (sym c.knows_already.ensures ∙ c.if-knows_already.false)
