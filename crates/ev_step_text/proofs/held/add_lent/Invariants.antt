-- what is written are the first ones
use Rattle.std.proofs.Common.{◌≡◌, ◌++◌, ◌∷◌, take, string_bytes}
use Rattle.std.specs.List.{flat_map}
use Rattle.def_event.specs.Lines.{values}
use Rattle.ev_step_lines.specs.Lines.{all_held}
use Rattle.ev_step_text.proofs.held.add_lent.Given as goal

abbrev pub invariant-loop-place : goal.invariant-loop-place
invariant-loop-place l =
    string_bytes l.out ≡ string_bytes l.fn.out ++ flat_map (λ v. 32 ∷ v) (values l.names (all_held l.teller (take l.place l.all)))
