use Rattle.std.proofs.Common.{true, false, Vec, Global, Ok, Some, refl, sym, ap, subst, ◌∙◌}
use Rattle.ev_vat.specs.MemberSteps.{Turns}
use Rattle.ev_vat.specs.declared.member.Member.{Member}
use Rattle.ev_vat.specs.declared.sending.Sending.{Sending}
use Rattle.ev_vat.proofs.MemberSteps.{with_vat}
use Rattle.ev_vat.proofs.Turning.{by_test, idle, take, turn_stops, turned, vat_same}
use Rattle.ev_room.specs.Sound.{IsSound}
use Rattle.ev_vat.specs.declared.vat.Vat.{Vat}
use Rattle.ev_vat.proofs.member.Member.turn.Goals as goal

pub turn-requires : goal.turn-requires
turn-requires c = record { ready = c.requires.ready }

pub returns-in-Ok-clause-step : goal.returns-in-Ok-clause-step
returns-in-Ok-clause-step c =
    λ fuel drawn m found.
    let q = c.args.self.now in
    let v = c.turn.new.self in
    let s : Member = record c.send.new.self { vat = v } in
    let going = found.rest.going in
    let tree = c.args.program.now in
    let depth = c.args.limits.depth in
    let queue = q.vat.host.inside.refs.queue in
    subst (λ (x : Member). Turns {A = Vec Sending Global} fuel drawn m (λ xs. xs.items) (Ok (Some c.in-Ok.sendings)) q x (take fuel drawn m q s found tree depth) m.vat.queue) (with_vat c.send.new.self v c.send.ensures.vat)
    (turned fuel drawn m q s found tree depth {A = Vec Sending Global} (λ xs. xs.items) c.in-Ok.sendings queue m.vat.queue refl refl (c.in-Ok-true.ensures.grown going) (c.in-Ok-true.ensures.stays going) c.in-Ok-true.ensures.gifts
    c.in-Ok-true.ensures.sound c.in-Ok-true.ensures.kept c.send.ensures.learnt c.in-Ok.ensures.sends c.in-Ok.ensures.connections
    (by_test fuel drawn m q s found tree depth c.in-Ok-true.field-0 true c.in-Ok-true.field-0-test queue (c.in-Ok-true.ensures.turn going)))

pub returns-in-Ok-false-clause-step : goal.returns-in-Ok-false-clause-step
returns-in-Ok-false-clause-step c =
    λ fuel drawn m found.
    let q = c.args.self.now in
    let s : Member = record q { vat = c.turn.new.self } in
    let going = found.rest.going in
    let tree = c.args.program.now in
    let depth = c.args.limits.depth in
    let queue = q.vat.host.inside.refs.queue in
    idle fuel drawn m q s found tree depth {A = Vec Sending Global} (λ xs. xs.items) queue m.vat.queue refl refl (c.in-Ok-false.ensures.grown going) (c.in-Ok-false.ensures.stays going)
    (λ same. vat_same q c.turn.new.self same c.in-Ok-false.ensures.gifts (c.in-Ok-false.ensures.kept ∙ sym going))
    (by_test fuel drawn m q s found tree depth c.in-Ok-false.field-0 false c.in-Ok-false.field-0-test queue (c.in-Ok-false.ensures.turn going))

pub returns-in-Err-clause-step : goal.returns-in-Err-clause-step
returns-in-Err-clause-step c =
    λ fuel drawn m found.
    let q = c.args.self.now in
    let s : Member = record q { vat = c.turn.new.self } in
    let going = found.rest.going in
    turn_stops fuel drawn m q s found c.args.program.now c.args.limits.depth {A = Vec Sending Global} (λ xs. xs.items) c.in-Err.stop q.vat.host.inside.refs.queue m.vat.queue refl refl (c.in-Err.ensures.turn going) (c.in-Err.ensures.grown going) (c.in-Err.ensures.stays going)

pub returns-in-Ok-clause-ready : goal.returns-in-Ok-clause-ready
returns-in-Ok-clause-ready c = λ going. subst (λ (v : Vat). IsSound v.host.inside) (sym c.send.ensures.vat) c.in-Ok-true.ensures.sound

pub returns-in-Ok-clause-key : goal.returns-in-Ok-clause-key
returns-in-Ok-clause-key c = λ going. (ap (λ (v : Vat). v.host.inside.words.key) c.send.ensures.vat ∙ c.in-Ok-true.ensures.stays going)

pub returns-in-Err-clause-ready : goal.returns-in-Err-clause-ready
returns-in-Err-clause-ready c = λ going. let stopped = c.in-Err.ensures.kept in absurd cc

pub returns-in-Err-clause-key : goal.returns-in-Err-clause-key
returns-in-Err-clause-key c = λ going. tt

pub returns-in-Ok-false-clause-ready : goal.returns-in-Ok-false-clause-ready
returns-in-Ok-false-clause-ready c = λ going. c.in-Ok-false.ensures.sound

pub returns-in-Ok-false-clause-key : goal.returns-in-Ok-false-clause-key
returns-in-Ok-false-clause-key c = λ going. c.in-Ok-false.ensures.stays going
