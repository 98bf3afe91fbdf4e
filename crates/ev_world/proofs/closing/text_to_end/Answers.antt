use Rattle.std.proofs.Common.{◌≡◌, ◌∷◌, ◌++◌, [], List, ap, subst, ◌∙◌, zero, append_assoc}
use Rattle.std.specs.Prelude.{string_bytes}
use Rattle.def_event.specs.Lines.{render}
use Rattle.def_event.specs.declared.event.Event.{Event}
use Rattle.def_event.specs.declared.event.Event.TheVariants as line
use Rattle.ev_ways.specs.Telling.{left_rows}
use Rattle.ev_world.specs.Closing.{all_left}
use Rattle.ev_world.proofs.closing.text_to_end.Goals as goal

-- lines that were told from nothing, behind others
behind : (es h a b d : List Event) → h ≡ [] → es ++ (((h ++ a) ++ b) ++ d) ≡ ((es ++ a) ++ b) ++ d
behind es h a b d none =
    ap (λ (xs : List Event). es ++ (((xs ++ a) ++ b) ++ d)) none ∙ simp append_assoc

pub returns : goal.returns
returns c = λ es is.
    subst (λ (xs : List Event). string_bytes c.add_text.new.text ≡ render c.args.names.now xs)
    (ap (λ (xs : List Event). es ++ xs) c.in_ok-left.ensures ∙ behind es c.new.result (all_left c.args.residents.items) (left_rows zero c.args.ways) (line.End ∷ []) c.new.ensures)
    (c.in_ok-add_text.ensures.more es is)
