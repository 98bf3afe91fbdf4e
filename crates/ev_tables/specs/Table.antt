-- What a vat keeps of its connection to a peer: the numbers under which the two know things.
use Rattle.std.specs.Prelude.{◌≡◌, ◌≢◌, ℕ, suc, Bool, false, is_some, if◌then◌else◌, List, [], ◌∷◌, ◌++◌, length, slice_get, unwrap_or, option_map, Option, Some, None, IsTrue}
use Rattle.ev_base.specs.declared.values.Value.{Value}
use Rattle.ev_base.specs.declared.values.Value.TheVariants.{Prom}
use Rattle.def_op.specs.Frames as frames
use Rattle.ev_tables.specs.declared.numeral.Number.{Number}
use Rattle.ev_tables.specs.declared.numeral.Number.TheVariants.{MyExport, MyPromise, YourExport, YourAnswer, MyAnswer}
use Rattle.ev_tables.specs.declared.fault.TableFault.{TableFault}
use Rattle.ev_tables.specs.declared.fault.TableFault.TheVariants as fault
use Rattle.ev_tables.specs.Thing.{same_value}

abbrev pub Things : Type 0
Things = List Value

abbrev pub NameList : Type 0
NameList = List (Value × Number)

-- Each list stands in the order of its numbers. `names` has each value that has a number, with the one that came first.
pub record Table : Type 0 where
  pub peer : ℕ
  pub is_closed : Bool
  -- what this vat exported to the peer
  pub exports : Things
  -- what the peer exported, as this vat knows it
  pub imports : Things
  -- the answers of this vat's questions
  pub asked : List ℕ
  -- the answers of the peer's questions
  pub answers : List ℕ
  pub names : NameList

-- a connection on which nothing has passed
abbrev pub fresh : ℕ → Table
fresh peer = record { peer = peer; is_closed = false; exports = []; imports = []; asked = []; answers = []; names = [] }

-- the position of a thing, where it has one
abbrev pub place_of : Value → Things → Option ℕ
place_of thing [] = None
place_of thing (t ∷ ts) = if same_value thing t then Some 0 else option_map suc (place_of thing ts)

-- the number of a value that came first, where it has one
abbrev pub name_of : Value → NameList → Option Number
name_of value [] = None
name_of value (e ∷ es) = if same_value value e.0 then Some e.1 else name_of value es

-- a value gets a number, which counts where it has none yet
abbrev pub named : Value → Number → NameList → NameList
named value number names = if is_some (name_of value names) then names else names ++ (value, number) ∷ []

-- an export goes by what it is
abbrev pub export_number : Value → ℕ → Number
export_number (Prom promise) position = MyPromise position
export_number thing position = MyExport position

-- the position of a thing: its own, or the next one
abbrev pub export_position : Value → Table → ℕ
export_position thing table = unwrap_or (place_of thing table.exports) (length table.exports)

-- a thing is exported, unless it was
abbrev pub exported : Value → Table → Table
exported thing table =
    if is_some (place_of thing table.exports) then table
    else record table {
      exports = table.exports ++ thing ∷ [];
      names = named thing (export_number thing (length table.exports)) table.names;
    }

-- a value is imported at the next position
abbrev pub imported : Value → Table → Table
imported local table = record table {
  imports = table.imports ++ local ∷ [];
  names = named local (YourExport (length table.imports)) table.names;
}

-- a question is asked, whose answer is this promise
abbrev pub asked_for : ℕ → Table → Table
asked_for promise table = record table {
  asked = table.asked ++ promise ∷ [];
  names = named (Prom promise) (YourAnswer (length table.asked)) table.names;
}

-- the peer asks its next question, whose answer is this promise
abbrev pub answered : ℕ → Table → Table
answered promise table = record table {
  answers = table.answers ++ promise ∷ [];
  names = named (Prom promise) (MyAnswer (length table.answers)) table.names;
}

-- what a description that comes from the peer stands for, where its number is there
abbrev pub entry : frames.Described → Table → Option Value
entry (frames.YourExport n) table = slice_get table.exports n
entry (frames.YourAnswer n) table = option_map Prom (slice_get table.answers n)
entry (frames.MyExport n) table = slice_get table.imports n
entry (frames.MyPromise n) table = slice_get table.imports n
entry (frames.MyAnswer n) table = option_map Prom (slice_get table.asked n)
entry d table = None

-- a number as this vat describes it to the peer
abbrev pub description : Number → frames.Described
description (MyExport n) = frames.MyExport n
description (MyPromise n) = frames.MyPromise n
description (YourExport n) = frames.YourExport n
description (YourAnswer n) = frames.YourAnswer n
description (MyAnswer n) = frames.MyAnswer n

-- why a thing was not exported, or a question not asked: after closing exactly
abbrev pub IsExportFault : Table → TableFault → Type 0
IsExportFault table fault.Closed = IsTrue table.is_closed
IsExportFault table (fault.WrongNumber n) = ⊥
IsExportFault table fault.Memory = table.is_closed ≡ false

-- why a number was not taken, where this one was given and that one is next
abbrev pub IsNumberFault : ℕ → ℕ → Table → TableFault → Type 0
IsNumberFault given next table fault.Closed = IsTrue table.is_closed
IsNumberFault given next table (fault.WrongNumber n) = (table.is_closed ≡ false) × (given ≢ next) × (n ≡ next)
IsNumberFault given next table fault.Memory = (table.is_closed ≡ false) × (given ≡ next)
