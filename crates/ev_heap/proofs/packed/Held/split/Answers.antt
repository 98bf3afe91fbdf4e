use Rattle.std.proofs.Common.{List, take, drop, ap, ◌∙◌}
use Rattle.ev_base.specs.declared.values.Value.{Value}
use Rattle.ev_heap.specs.Packed.{values_of}
use Rattle.ev_heap.proofs.Room.{values_first, values_others}
use Rattle.ev_heap.proofs.packed.Held.split.Goals as goal

pub returns-clause-own : goal.returns-clause-own
returns-clause-own c =
    c.of.ensures ∙ ap (values_of c.self.inside.aside.now) c.split.ensures.own ∙ values_first c.self.inside.aside.now c.args.width c.self.inside.small.now
    ∙ ap (λ (vs : List Value). take c.args.width vs) c.self.view_is

pub returns-clause-others : goal.returns-clause-others
returns-clause-others c =
    c.of-2.ensures ∙ ap (values_of c.self.inside.aside.now) c.split.ensures.others ∙ values_others c.self.inside.aside.now c.args.width c.self.inside.small.now
    ∙ ap (λ (vs : List Value). drop c.args.width vs) c.self.view_is
