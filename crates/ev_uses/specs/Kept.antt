-- All that is kept of lines.
use Rattle.std.specs.Prelude.{List}
use Rattle.def_event.specs.Uses.{Line}
use Rattle.ev_known.specs.Knowing.{Known, KnownStand}
use Rattle.ev_uses.specs.Calls.{CallsStand, Stacks}

-- it stands for these lines
pub record KeptStand (known : Known) (stacks : Stacks) (past : List Line) : Type 0 where
  pub knowledge : KnownStand known past
  pub calls : CallsStand stacks past
