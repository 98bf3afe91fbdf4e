use Rattle.std.proofs.Common.{◌≡◌, [], ◌∷◌, map, replicate, take}
use Rattle.ev_base.specs.declared.names.Name.TheVariants.{Root}
use Rattle.ev_step_lines.specs.Lines.{no_names}
use Rattle.ev_resident.proofs.names.VatNames.first.Given as goal

-- the roots so far are named
abbrev pub invariant-loop-vat : goal.invariant-loop-vat
invariant-loop-vat l = l.table ≡ record (no_names l.fn.me) { names = Root l.fn.me ∷ map Root (take l.vat-index l.knows); objects = replicate l.vats [] }
