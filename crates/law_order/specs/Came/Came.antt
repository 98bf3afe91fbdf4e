-- What a vat holds for a name came to it as the history tells.
use Rattle.std.specs.Prelude.{◌≡◌, ℕ, zero, List, Some, slice_get}
use Rattle.def_machine.specs.Values.{Name}
use Rattle.def_machine.specs.State.{Message, Known, Vat}
use Rattle.def_run.specs.World.{Script, Program, Entry, World, Goes, begins, open_from, steps_from}
use Rattle.law_uses.specs.Connectivity.Known.{IsAmong}
use Rattle.law_uses.specs.Connectivity.Stems.{HasList, ComeAll}
use Rattle.law_order.specs.Ordering.Order.{Coming, comes}

-- By the history each message that a name of a vat holds came to that vat, and its arguments are those that came, each list as one of the vat with such members.
abbrev pub HeldCame : World → Type 0
HeldCame w = (v : ℕ) (s : Vat Name) → slice_get w.vats v ≡ Some s → (k : Known Name) → IsAmong k s.known → (m : Message Name) → IsAmong m k.held
    → (c : Coming) × (comes v m.id zero w.history ≡ Some c) × ComeAll (HasList w v) c.args m.args

-- ---- laws

-- So it is in every world of a run.
abbrev pub HeldMessagesCame : Type 0
HeldMessagesCame = (script : Script) → ((ps : List Program) (w : World) → open_from script zero ps (begins script) ≡ Goes w → HeldCame w)
    × ((w x : World) (es : List Entry) (k : ℕ) → open_from script zero script.vats (begins script) ≡ Goes w → steps_from script es k w ≡ Goes x → HeldCame x)
