-- What is said of a vat's numbers for a peer in the machine's terms.
use Rattle.std.specs.Prelude.{◌≡◌, ℕ, Bool, true, false, None}
use Rattle.ev_base.specs.declared.values.Value.{Value}
use Rattle.ev_base.specs.declared.values.Value.TheVariants as held
use Rattle.def_machine.specs.Values.{Local}
use Rattle.def_run.specs.Connections.{described, exported_as}
use Rattle.ev_tables.specs.Table.{Table, answered, asked_for, fresh, imported, name_of}
use Rattle.ev_tables.specs.Standing.{IsKept, connection_of, is_own, is_reference, local_of, sight_of}
use Rattle.ev_tables.specs.Numbering.{described_in, numbered}

-- A reference of the vat's own comes to have a position where the machine says so.
abbrev pub NumbersAsTheMachine : Type 0
NumbersAsTheMachine = (mine : ℕ → Bool) (answer : Local) (v : Value) (t : Table) → is_reference v ≡ true → IsKept mine t
    → (connection_of (numbered (is_own mine (local_of v)) v t) ≡ record (connection_of t) { exports = exported_as (sight_of mine answer) (connection_of t).answers (local_of v) (connection_of t).exports })
    × IsKept mine (numbered (is_own mine (local_of v)) v t)

-- A reference is described as the machine says.
abbrev pub DescribesAsTheMachine : Type 0
DescribesAsTheMachine = (mine : ℕ → Bool) (answer : Local) (v : Value) (t : Table) → is_reference v ≡ true → IsKept mine t
    → described_in (is_own mine (local_of v)) v t ≡ described (sight_of mine answer) (connection_of t) (local_of v)

-- What a vat has for a peer begins as it is to be.
abbrev pub BeginsKept : Type 0
BeginsKept = (mine : ℕ → Bool) (peer : ℕ) → IsKept mine (fresh peer)

-- A question is asked: its answer is of another vat, and has no number before.
abbrev pub AskingKeeps : Type 0
AskingKeeps = (mine : ℕ → Bool) (p : ℕ) (t : Table) → mine p ≡ false → name_of (held.Prom p) t.names ≡ None → IsKept mine t → IsKept mine (asked_for p t)

-- The peer asks: the answer is of this vat.
abbrev pub AnsweringKeeps : Type 0
AnsweringKeeps = (mine : ℕ → Bool) (p : ℕ) (t : Table) → mine p ≡ true → IsKept mine t → IsKept mine (answered p t)

-- The peer exports: what it exports is of another vat.
abbrev pub ImportingKeeps : Type 0
ImportingKeeps = (mine : ℕ → Bool) (v : Value) (t : Table) → is_reference v ≡ true → is_own mine (local_of v) ≡ false → IsKept mine t → IsKept mine (imported v t)
