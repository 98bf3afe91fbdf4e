-- The greatest depth of what is run, the text of the machine's run on a script, and the vat whose step a step is.
use Rattle.std.specs.Prelude.{ℕ, nat_lt, ◌-◌, Bool, true, false, if◌then◌else◌, List, length, slice_get, Some, None}
use Rattle.std.specs.declared.option.Option.{Option}
use Rattle.def_run.specs.World as machine
use Rattle.def_run.specs.World.{run}
use Rattle.def_run.specs.Text.{text, wire_text}
use Rattle.ev_script.specs.declared.script.Entry.{Entry}
use Rattle.ev_script.specs.declared.script.Entry.TheVariants.{Turn, Carry, Cut, Notice}
use Rattle.ev_script.specs.declared.script.Script.{Script}

-- the greatest depth at which a node begins
abbrev pub greatest_depth : ℕ
greatest_depth = 20000

-- the text of the machine's run on a script, with the frames where they are asked for
abbrev pub text_of : Bool → machine.Script → List ℕ
text_of true script = wire_text script (run script)
text_of false script = text script (run script)

-- ---- whose step a step is

-- the vat that an entry has take a step; a cut, of which no vat takes one, is told by its first
abbrev pub vat_of_entry : Entry → ℕ
vat_of_entry (Turn v) = v
vat_of_entry (Carry v w) = w
vat_of_entry (Cut v w) = v
vat_of_entry (Notice v w) = v

abbrev pub vat_of_found : Option Entry → ℕ
vat_of_found (Some entry) = vat_of_entry entry
vat_of_found None = 0

-- steps are counted from 0 over the opening turns, one for each vat, and then the entries
abbrev pub vat_of_step : Script → ℕ → ℕ
vat_of_step script step =
    if nat_lt step (length script.vats) then step else vat_of_found (slice_get script.schedule (step - length script.vats))
