-- What the schedule is of a script of no vat.
use Rattle.std.specs.Prelude.{◌≡◌, ℕ, List, [], Ok}
use Rattle.ev_script.specs.Script.{read}
use Rattle.ev_script.specs.declared.script.Script.{Script}

-- Law: a script of no vat that is read has no entry.
abbrev pub NoVatTakesNone : Type 0
NoVatTakesNone = (bytes : List ℕ) (script : Script) → read bytes ≡ Ok script → script.vats ≡ [] → script.schedule ≡ []
