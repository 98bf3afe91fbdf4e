-- Answers that notes ask for, which are new.
use Rattle.std.specs.Prelude.{◌≡◌, false, List, [], ◌∷◌, get_or}
use Rattle.def_run.specs.Numbers.{written_on}
use Rattle.def_run.specs.Vats.{is_own, sight_for, unconnected}
use Rattle.def_machine.specs.State.{Put, Vat}
use Rattle.def_machine.specs.Values.{Local}
use Rattle.def_run.specs.Connections.{Connection, asked_in}
use Rattle.def_run.specs.Seeing.{among}

-- it is another vat's, and that vat was not told or asked of it before
pub record IsNew (s : Vat Local) (c : Connection Local) (n : Local) : Type 0 where
  pub other : is_own s.number s.known n ≡ false
  pub unasked : among c.questions n ≡ false
  pub untold : among c.imports n ≡ false

abbrev pub AreNew : Vat Local → Connection Local → List Local → Type 0
AreNew s c [] = Unit {0}
AreNew s c (n ∷ ns) = IsNew s c n × AreNew s c ns

-- each note that a vat puts so asks for what is new, if for anything
abbrev pub AskAnew : Vat Local → List (Put Local) → List (Connection Local) → Type 0
AskAnew s [] cs = Unit {0}
AskAnew s (p ∷ ps) cs = AreNew s (get_or cs p.to unconnected) (asked_in (sight_for s p.note) p.note) × AskAnew s ps (written_on s p cs)
