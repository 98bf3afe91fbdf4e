use Rattle.ev_tables.proofs.fault.TableFaultDisplay.fmt.Goals as goal

pub returns-in-WrongNumber-clause-writes : goal.returns-in-WrongNumber-clause-writes
returns-in-WrongNumber-clause-writes g c = λ plain ok. rw c.in-WrongNumber.is (c.write-in-WrongNumber.ensures.writes plain ok)
