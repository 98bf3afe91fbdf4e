-- The hostile vats of a play, rule by rule.
use Rattle.std.proofs.Common.{◌≡◌, ℕ, Bool, true, false, List, Some, Result, Ok, Err, refl}
use Rattle.std.specs.List.{list_all}
use Rattle.serde_json.specs.Data.{Data}
use Rattle.ev_script.specs.declared.script.VatScript.{VatScript}
use Rattle.ev_play.specs.Hostile.{hostile_of, has_no_source, may_do}
use Rattle.ev_play.specs.Play.{read_hostile}
use Rattle.ev_play.specs.declared.play.Doing.{Doing}

-- what the three rules come to
abbrev pub ruled : List ℕ → Bool → Bool → Result (List ℕ) ℕ
ruled hostile false b = Err 14
ruled hostile true false = Err 15
ruled hostile true true = Ok hostile

pub read_by : (names : List (List ℕ)) (vats : List VatScript) (doings : List Doing) (d : Data) (hostile : List ℕ) (a b : Bool) → hostile_of names d ≡ Some hostile
    → list_all (has_no_source vats) hostile ≡ a → list_all (may_do hostile) doings ≡ b → read_hostile names vats doings d ≡ ruled hostile a b
unfolding read_hostile
read_by names vats doings d hostile true true h s m = rw (h, s, m) refl
read_by names vats doings d hostile true false h s m = rw (h, s, m) refl
read_by names vats doings d hostile false b h s m = rw (h, s) refl
