use Rattle.ev_intro.proofs.words.DrawFaultDisplay.fmt.Goals as goal

pub returns-in-WordRepeated-clause-writes : goal.returns-in-WordRepeated-clause-writes
returns-in-WordRepeated-clause-writes g c = λ plain ok. rw c.in-WordRepeated.is (c.write.ensures.writes plain ok)
