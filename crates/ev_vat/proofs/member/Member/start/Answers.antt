use Rattle.ev_vat.specs.declared.member.Member.{Member}
use Rattle.ev_vat.proofs.MemberStarts.{begins_so}
use Rattle.ev_vat.proofs.member.Member.start.Goals as goal

pub returns-clause-begins : goal.returns-clause-begins
returns-clause-begins c = λ names.
    let z : Member = record { vat = c.in_ok-vat.vat; learnt = c.new.result; connections = c.in_ok-connections.connections } in
    begins_so c.args.fuel c.args.me c.args.count c.args.knows.now c.args.known_by.now c.args.key.now names z c.in_ok-vat.ensures.rooted c.in_ok-vat.ensures.begins c.in_ok-vat.ensures.sound c.in_ok-vat.ensures.stopped
    c.new.ensures c.in_ok-connections.ensures
