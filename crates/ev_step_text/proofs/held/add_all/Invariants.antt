-- what is written are the first ones
use Rattle.std.proofs.Common.{◌≡◌, ◌++◌, ◌∷◌, take, string_bytes}
use Rattle.std.specs.List.{flat_map}
use Rattle.def_event.specs.Lines.{values}
use Rattle.ev_step_lines.specs.Lines.{all_held}
use Rattle.ev_step_text.proofs.held.add_all.Given as goal

abbrev pub invariant-loop-held : goal.invariant-loop-held
invariant-loop-held l =
    string_bytes l.out ≡ string_bytes l.fn.out ++ flat_map (λ v. 32 ∷ v) (values l.names (all_held l.teller (take l.held-index l.all)))
