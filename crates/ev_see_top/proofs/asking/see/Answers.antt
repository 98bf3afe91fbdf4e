use Rattle.std.proofs.Common.{refl, inl, inr}
use Rattle.ev_see_top.specs.Asked.{question_of}
use Rattle.ev_see_top.specs.Due.{IsDue}
use Rattle.ev_see_top.specs.declared.status.SeeStatus.TheVariants.{ReadFault, Memory}
use Rattle.ev_see_top.proofs.PayLemmas.{unpaid}
use Rattle.ev_see_top.proofs.asking.see.Goals as goal

pub returns-in-Err-ReadFault-clause-due : goal.returns-in-Err-ReadFault-clause-due
returns-in-Err-ReadFault-clause-due g c =
    unpaid (IsDue (question_of c.args.words.now)) (g.S.Source.left c.args.src.now) (g.K.Sink.written c.args.out.now) (g.L.Sink.written c.args.err.now) ReadFault (inl refl)

pub returns-in-Err-Memory-clause-due : goal.returns-in-Err-Memory-clause-due
returns-in-Err-Memory-clause-due g c =
    unpaid (IsDue (question_of c.args.words.now)) (g.S.Source.left c.args.src.now) (g.K.Sink.written c.args.out.now) (g.L.Sink.written c.args.err.now) Memory (inr refl)
