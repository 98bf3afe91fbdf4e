use Rattle.std.proofs.Common.{ap}
use Rattle.ev_vat.specs.declared.vat.Vat.{Vat}
use Rattle.ev_vat.proofs.Readies.{readies_so, stays_ready}
use Rattle.ev_vat.proofs.member.Member.ready.Goals as goal

pub returns-clause-found : goal.returns-clause-found
returns-clause-found c m same is =
    readies_so c.args.self.now (record c.args.self.now { vat = c.ready.new.self }) m c.args.fuel c.args.words.now (ap (λ (v : Vat). record c.args.self.now { vat = v }) c.ready.ensures.vat) same is

pub returns-clause-ready : goal.returns-clause-ready
returns-clause-ready c = stays_ready c.args.self.now.vat c.ready.new.self c.args.fuel c.args.words.now c.ready.ensures.vat
