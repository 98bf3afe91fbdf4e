-- What a vat has for a peer once what a frame brought was taken in, in the code's terms.
use Rattle.std.specs.Prelude.{List, [], ◌∷◌}
use Rattle.ev_base.specs.declared.values.Value.{Value}
use Rattle.ev_tables.specs.Table.{Table, imported}

-- values are imported at the next positions
unfoldable pub imported_all : List Value → Table → Table
imported_all [] t = t
imported_all (v ∷ vs) t = imported_all vs (imported v t)
