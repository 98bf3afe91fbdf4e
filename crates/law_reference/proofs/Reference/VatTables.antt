-- The table of a vat meets what the theorem on numbers asks of it, part by part.
use Rattle.std.proofs.Common.{◌≡◌, ℕ, Some, refl, ◌∙◌, ◌==◌, ◌&&◌}
use Rattle.std.specs.Prelude.{slice_get}
use Rattle.def_machine.specs.Values.{Name, Object, Sent, Foreign, spot_of, same_name, same_reference}
use Rattle.def_machine.specs.State.{Vat}
use Rattle.law_machine.specs.Renamed.Stands.{IsTable}
use Rattle.def_run.specs.World.{World}
use Rattle.law_fate.specs.Name.Names.{AllOf, IsEventual, IsMessageName, names_in}
use Rattle.law_fate.proofs.Name.SameNames.{at_all, eventual_spot, message_is}
use Rattle.law_fate.proofs.Name.Laws.{names_apart}
use Rattle.law_reference.specs.Reference.Exports.{exported_at}
use Rattle.law_reference.specs.Reference.Tables.{table_of, TablesTellThingsApart}
use Rattle.law_reference.proofs.Reference.KnownRuns.{names_are_known_once}
use Rattle.law_reference.proofs.Reference.NameTableLaws.{exports_are_distinct}

-- what is no message is told apart as a name is
reference_name : (a b : Name) → IsEventual a → same_reference a b ≡ same_name a b
unfolding same_reference
reference_name (Object w i) b h = absurd h
reference_name (Sent m) b h = absurd h
reference_name other b h = refl

pub has_table : (w : World) (v : ℕ) (s : Vat Name) → AllOf IsEventual (names_in s.known) × AllOf IsMessageName s.mails
    → ((i j : ℕ) (a b : Name) → slice_get (names_in s.known) i ≡ Some a → slice_get (names_in s.known) j ≡ Some b → same_name a b ≡ (i == j))
    → ((h p j : ℕ) → exported_at w.links v h p ≡ Some j → spot_of v (Object h j) ≡ Foreign h)
    × ((h p g q i j : ℕ) → exported_at w.links v h p ≡ Some i → exported_at w.links v g q ≡ Some j → same_name (Object h i) (Object g j) ≡ ((h == g) && (p == q)))
    → IsTable v (table_of w v s)
unfolding table_of same_reference
has_table w v s kinds differ exports = record {
  promises = λ k n e. eventual_spot v n (at_all IsEventual (names_in s.known) k n kinds.0 e);
  distinct = λ i j a b e f. reference_name a b (at_all IsEventual (names_in s.known) i a kinds.0 e) ∙ differ i j a b e f;
  messages = λ k n e. message_is n (at_all IsMessageName s.mails k n kinds.1 e);
  abroad = exports.0;
  exports_distinct = exports.1;
}

pub tables_tell_things_apart : TablesTellThingsApart
tables_tell_things_apart script once = (
  λ ps rest w e opened v s i. has_table w v s ((names_apart script once).0 ps rest w e opened v s i) ((names_are_known_once script once).0 ps rest w e opened v s i) ((exports_are_distinct script).0 ps w opened v),
  λ w x es k opened news stepped v s i. has_table x v s ((names_apart script once).1 w x es k opened stepped v s i) ((names_are_known_once script once).1 w x es k opened news stepped v s i) ((exports_are_distinct script).1 w x es k opened stepped v),
)
