-- Whole entries of runs that are small steps.
use Rattle.std.specs.Prelude.{◌≡◌, ℕ, Bool}
use Rattle.def_run.specs.World.{Script, CutLink, World, Goes, step}
use Rattle.law_machine.specs.Run.Moves.{IsReached}
use Rattle.law_order.specs.History.Tells.{Tale}

-- In every run, as links are cut.
abbrev pub CutsAreTales : Type 0
CutsAreTales = (script : Script) (honest : ℕ → Bool) (x y : World) (a b k : ℕ) → IsReached script x → step script (CutLink a b) k x ≡ Goes y → Tale script honest x y
