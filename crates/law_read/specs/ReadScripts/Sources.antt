-- What the programs of a script are that is read.
use Rattle.std.specs.Prelude.{◌≡◌, ℕ, List, Ok, All}
use Rattle.std.specs.Str.{IsUtf8}
use Rattle.ev_script.specs.Script.{read}
use Rattle.ev_script.specs.declared.script.Script.{Script}
use Rattle.ev_script.specs.declared.script.VatScript.{VatScript}

-- Law: the program of each vat of a script that is read is in UTF-8.
abbrev pub SourcesAreTexts : Type 0
SourcesAreTexts = (bytes : List ℕ) (script : Script) → read bytes ≡ Ok script → All (λ (vat : VatScript). IsUtf8 vat.source) script.vats
