-- What came to stand at the next positions is taken in.
use Rattle.std.proofs.Common.{◌≡◌, ℕ, Bool, List, [], ◌∷◌, ◌++◌, map, sym, ap, ◌∙◌, append_assoc, append-nil}
use Rattle.ev_base.specs.declared.values.Value.{Value}
use Rattle.ev_tables.specs.Table.{Table, imported}
use Rattle.ev_tables.specs.Standing.{IsKept, connection_of, local_of}
use Rattle.ev_tables.proofs.Kept.{importing}
use Rattle.ev_wire.specs.Taking.{imported_all}
use Rattle.ev_wire.specs.HearingStatements.{AllOthers, TakesInAsTheMachine}

stands : (vs : List Value) (t : Table) → connection_of (imported_all vs t) ≡ record (connection_of t) { imports = map local_of (t.imports ++ vs) }
unfolding imported_all
stands [] t = ap (λ (us : List Value). record (connection_of t) { imports = map local_of us }) (sym (append-nil t.imports))
stands (v ∷ vs) t = stands vs (imported v t) ∙ ap (λ (us : List Value). record (connection_of t) { imports = map local_of us }) (append_assoc t.imports (v ∷ []) vs)

keeps : (mine : ℕ → Bool) (vs : List Value) (t : Table) → AllOthers mine vs → IsKept mine t → IsKept mine (imported_all vs t)
unfolding imported_all
keeps mine [] t h k = k
keeps mine (v ∷ vs) t h k = keeps mine vs (imported v t) h.2 (importing mine v t h.0 h.1 k)

pub takes_in : TakesInAsTheMachine
takes_in mine vs t = (stands vs t, keeps mine vs t)
