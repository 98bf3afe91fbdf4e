use Rattle.std.proofs.Common.{◌≡◌, Some}
use Rattle.std.specs.Prelude.{slice_get}
use Rattle.ev_resident.specs.declared.resident.Resident.{Resident}
use Rattle.ev_world.specs.Exporting.{AreTold}
use Rattle.ev_world.proofs.exporting.tell_exports.Given as goal

abbrev pub invariant-loop-place : goal.invariant-loop-place
invariant-loop-place l = (q : Resident) → slice_get l.fn.residents.items l.vat ≡ Some q → AreTold l.vat q.member l.before l.place l.fn.residents.items l.residents.items
