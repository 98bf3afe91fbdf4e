use Rattle.std.proofs.Common.{List, get_or, ap, ◌∙◌}
use Rattle.ev_base.specs.declared.values.Value.{Value}
use Rattle.ev_base.specs.declared.values.Value.TheVariants.{Null}
use Rattle.ev_heap.specs.Packed.{value_of}
use Rattle.ev_heap.proofs.Room.{value_at}
use Rattle.ev_heap.proofs.packed.Held.at.Goals as goal

pub returns : goal.returns
returns c =
    c.value_of.ensures ∙ ap (value_of c.self.inside.aside.now) c.small_at.ensures ∙ value_at c.self.inside.aside.now c.self.inside.small.now c.args.place
    ∙ ap (λ (vs : List Value). get_or vs c.args.place Null) c.self.view_is
