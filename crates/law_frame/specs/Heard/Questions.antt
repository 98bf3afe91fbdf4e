-- What a vat has of its questions to another is what it ever asked it for.
use Rattle.std.specs.Prelude.{◌≡◌, ℕ, true, List, Some}
use Rattle.def_machine.specs.State.{is_in}
use Rattle.def_run.specs.Wire.{connected_at}
use Rattle.def_run.specs.World.{Script, Link, World, link_at}
use Rattle.law_reference.specs.Reference.Logs as logs
use Rattle.law_machine.specs.Run.Moves.{Reached, AnyNotice}

-- In each world that is reached, whichever vats are hostile and whatever they say, and of each link, be it cut or not.
abbrev pub QuestionsAreAsLogged : Type 0
QuestionsAreAsLogged = (script : Script) (hs : List ℕ) (w : World) → Reached script (λ v. is_in v hs ≡ true) AnyNotice (λ w v s d. Unit {0}) (λ w v u s n. Unit {0}) w
    → (v u : ℕ) (l : Link) → link_at v u w.links ≡ Some l → (connected_at v u w.connections).tables.questions ≡ logs.questions (λ i. i) w.links v u
