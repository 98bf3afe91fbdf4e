-- what is written are the first ones
use Rattle.std.proofs.Common.{◌≡◌, ◌++◌, ◌∷◌, map, take, string_bytes}
use Rattle.std.specs.List.{flat_map}
use Rattle.def_event.specs.Lines.{values}
use Rattle.ev_step_lines.specs.Lines.{shown_capture}
use Rattle.ev_step_text.proofs.held.add_captures.Given as goal

abbrev pub invariant-loop-capture : goal.invariant-loop-capture
invariant-loop-capture l =
    string_bytes l.out ≡ string_bytes l.fn.out ++ flat_map (λ v. 32 ∷ v) (values l.names (map (shown_capture l.teller) (take l.capture-index l.captures)))
