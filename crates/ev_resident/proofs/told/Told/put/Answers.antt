use Rattle.std.proofs.Common.{sym}
use Rattle.ev_resident.proofs.Entries.{first_ok, told_before}
use Rattle.ev_resident.proofs.told.Told.put.Goals as goal

pub returns-in-Some : goal.returns-in-Some
returns-in-Some c = told_before _ (record { number = c.args.number; name = c.args.name }) c.args.self.now (sym c.in-Some.ensures)

pub returns-in-None : goal.returns-in-None
returns-in-None c = first_ok c.add.result (record { number = c.args.number; name = c.args.name }) c.args.self.now c.add.new.self (sym c.in-None.ensures) c.add.ensures
