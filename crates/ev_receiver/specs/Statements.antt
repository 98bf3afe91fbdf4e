-- What is said of frames that come in.
use Rattle.std.specs.Prelude.{◌≡◌, ◌||◌, ℕ, Bool, true, is_some, List, Some}
use Rattle.ev_base.specs.declared.values.Value.TheVariants as held
use Rattle.def_machine.specs.Values.{Prom}
use Rattle.def_op.specs.Frames.{Operation}
use Rattle.def_run.specs.Seeing.{among}
use Rattle.def_hostile.specs.Arrivals.{counts_in}
use Rattle.def_hostile.specs.Judge.{Lawful, verdict}
use Rattle.ev_judge.specs.Views.{counts}
use Rattle.ev_pass.specs.declared.interior.Interior.{Interior}
use Rattle.ev_tables.specs.Table.{Table, name_of}
use Rattle.ev_tables.specs.Standing.{AreReferences, IsKept, connection_of}
use Rattle.ev_wire.specs.Bringing.{Told}
use Rattle.ev_wire.specs.Hearing.{no_news, note_heard}
use Rattle.ev_wire.specs.Learnt.{LearntGifts}
use Rattle.ev_wire.specs.declared.news.News.{News}
use Rattle.law_judge.specs.Statements.{AreBytes}

-- What a judge sees of a connection is what the run in numbers judges by.
abbrev pub CountsAreTheMachines : Type 0
CountsAreTheMachines = (t : Table) → counts t ≡ counts_in (connection_of t)

-- A lawful operation is heard, where what the connection has are references.
abbrev pub LawfulIsHeardHere : Type 0
LawfulIsHeardHere = (i : Interior) (t : Table) (l : LearntGifts) (vats : ℕ) (bytes : List ℕ) (op : Operation) (new : List Bool) → AreBytes bytes → AreReferences t.exports → AreReferences t.imports
    → verdict vats i.refs.me t.peer (counts_in (connection_of t)) bytes ≡ Lawful op new → (x : Told × News) × (note_heard i t l op (no_news i) ≡ Some x)

-- A promise of the vat's own has a number for the peer, as its table tells it, exactly where the vat exported it there or answered with it. By that a vat sees whether the peer was told of a gift that it asks for.
abbrev pub OwnPromisesAreSeen : Type 0
OwnPromisesAreSeen = (mine : ℕ → Bool) (t : Table) (n : ℕ) → IsKept mine t → mine n ≡ true
    → is_some (name_of (held.Prom n) t.names) ≡ (among (connection_of t).exports (Prom n) || among (connection_of t).answers (Prom n))
