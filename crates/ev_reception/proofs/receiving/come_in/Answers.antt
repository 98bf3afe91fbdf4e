use Rattle.std.proofs.Common.{◌≡◌, ◌++◌, None, subst}
use Rattle.def_machine.specs.Receive as theirs
use Rattle.def_machine.specs.Values.{Local}
use Rattle.ev_arrive.specs.Hearing.{Sees, heard_by}
use Rattle.ev_reception.proofs.Nothing.{sees_kept}
use Rattle.ev_room.specs.Reading.{names, texts_of}
use Rattle.ev_room.specs.Sound.{Grown, Stays}
use Rattle.ev_vat.proofs.Arriving.{goes_on, texts_fit, texts_ready}
use Rattle.ev_vat.specs.Vat.{ArrivalIs, UnlessMemory}
use Rattle.ev_vat.specs.declared.vat.Vat.{Vat}
use Rattle.law_evaluation.specs.Arrivals.Arrivals.{vat_in}
use Rattle.ev_reception.proofs.receiving.come_in.Goals as goal

pub receive-requires : goal.receive-requires
receive-requires c = record {
  ready = texts_ready c.args.vat.now c.keep_news.new.vat c.args.news.now.texts c.in_ok-keep_news.ensures c.requires.ready;
  fits = texts_fit c.args.vat.now c.keep_news.new.vat c.args.news.now.texts c.args.note c.in_ok-keep_news.ensures c.requires.fits;
}

pub returns-clause-step : goal.returns-clause-step
returns-clause-step c going w rest front key their sees n x k =
    subst (λ (z : Vat). z.stopped ≡ None → z.host.inside.words.key ≡ w.key → Sees their z.host c.args.note c.args.sight → ArrivalIs w c.receive.result c.receive.new.self.host (theirs.receive (names w) their c.args.from (heard_by (texts_of w) n x k c.args.from c.args.note) (vat_in w z.host)))
    c.in_ok-keep_news.ensures (λ g e s. c.receive.ensures.step g w rest front e their s n x k) going key
    (sees_kept their c.args.vat.now.host (c.args.vat.now.host.inside.heap.texts ++ c.args.news.now.texts) c.args.note c.args.sight sees)

pub returns-clause-grown : goal.returns-clause-grown
returns-clause-grown c = subst (λ (z : Vat). z.stopped ≡ None → UnlessMemory c.receive.result (Grown z.host.inside.heap c.receive.new.self.host.inside.heap)) c.in_ok-keep_news.ensures c.receive.ensures.grown

pub returns-clause-stays : goal.returns-clause-stays
returns-clause-stays c = subst (λ (z : Vat). z.stopped ≡ None → UnlessMemory c.receive.result (Stays z.host.inside c.receive.new.self.host.inside)) c.in_ok-keep_news.ensures c.receive.ensures.stays

pub returns-clause-going : goal.returns-clause-going
returns-clause-going c = goes_on c.receive.result c.receive.new.self.stopped c.receive.ensures.kept
