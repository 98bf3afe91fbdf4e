use Rattle.std.proofs.Common.{◌≡◌, None, subst}
use Rattle.def_machine.specs.Arrive as machine
use Rattle.ev_vat.proofs.Arriving.{goes_on, texts_fit, texts_ready}
use Rattle.ev_arrive.specs.Hearing.{heard_by}
use Rattle.ev_room.specs.Reading.{names, texts_of}
use Rattle.ev_room.specs.Sound.{Grown, Stays}
use Rattle.ev_vat.specs.Vat.{ArrivalIs, UnlessMemory}
use Rattle.ev_vat.specs.declared.vat.Vat.{Vat}
use Rattle.law_evaluation.specs.Arrivals.Arrivals.{vat_in}
use Rattle.ev_vat.proofs.hearing.come_in.Goals as goal

pub arrive-requires : goal.arrive-requires
arrive-requires c = record {
  ready = texts_ready c.args.vat.now c.keep_news.new.vat c.args.news.now.texts c.in_ok-keep_news.ensures c.requires.ready;
  fits = texts_fit c.args.vat.now c.keep_news.new.vat c.args.news.now.texts c.args.note c.in_ok-keep_news.ensures c.requires.fits;
}

pub returns-clause-step : goal.returns-clause-step
returns-clause-step c going w rest front key n x k =
    subst (λ (z : Vat). z.stopped ≡ None → z.host.inside.words.key ≡ w.key → ArrivalIs w c.arrive.result c.arrive.new.self.host (machine.arrive (names w) c.args.from (heard_by (texts_of w) n x k c.args.from c.args.note) (vat_in w z.host)))
    c.in_ok-keep_news.ensures (λ g e. c.arrive.ensures.step g w rest front e n x k) going key

pub returns-clause-grown : goal.returns-clause-grown
returns-clause-grown c = subst (λ (z : Vat). z.stopped ≡ None → UnlessMemory c.arrive.result (Grown z.host.inside.heap c.arrive.new.self.host.inside.heap)) c.in_ok-keep_news.ensures c.arrive.ensures.grown

pub returns-clause-stays : goal.returns-clause-stays
returns-clause-stays c = subst (λ (z : Vat). z.stopped ≡ None → UnlessMemory c.arrive.result (Stays z.host.inside c.arrive.new.self.host.inside)) c.in_ok-keep_news.ensures c.arrive.ensures.stays

pub returns-clause-going : goal.returns-clause-going
returns-clause-going c = goes_on c.arrive.result c.arrive.new.self.stopped c.arrive.ensures.kept
