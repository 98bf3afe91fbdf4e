use Rattle.ev_resident.specs.Names.{names_first}
use Rattle.ev_resident.specs.Starting.{with_roots}
use Rattle.ev_resident.proofs.Roots.{roots_done, roots_on}
use Rattle.ev_resident.proofs.starting.first_names.Goals as goal

pub loop-vat-preserved : goal.loop-vat-preserved
loop-vat-preserved c =
    roots_on c.args.knows.now c.loop-vat.vat-index c.vat-item.result c.loop-vat.names c.import.new.self (with_roots c.args.knows.now (names_first c.args.me c.args.knows.now c.args.count))
    c.loop-vat-test.true c.vat-item.is c.in_ok-import.ensures.ok c.loop-vat.invariant

pub returns : goal.returns
returns c = roots_done c.args.knows.now c.loop-vat.vat-index c.loop-vat.names _ c.loop-vat-test.false c.loop-vat.invariant
