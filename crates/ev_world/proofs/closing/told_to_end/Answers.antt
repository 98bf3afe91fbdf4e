use Rattle.std.proofs.Common.{◌∷◌, ◌++◌, [], List, ap, ◌∙◌, zero}
use Rattle.def_event.specs.declared.event.Event.{Event}
use Rattle.def_event.specs.declared.event.Event.TheVariants as line
use Rattle.ev_ways.specs.Telling.{left_rows}
use Rattle.ev_world.proofs.closing.told_to_end.Goals as goal

pub returns : goal.returns
returns c =
    c.in_ok-push.ensures.ok
    ∙ ap (λ (es : List Event). es ++ line.End ∷ []) (c.in_ok-tell_left.ensures ∙ ap (λ (es : List Event). es ++ left_rows zero c.args.ways) c.in_ok-tell_residents.ensures)
