use Rattle.std.proofs.Common.{ℕ, List, Vec, Global, subst, sym, ap, ◌∙◌}
use Rattle.def_machine.specs.Arrive as machine
use Rattle.def_machine.specs.State.{Act}
use Rattle.def_machine.specs.Values.{Local}
use Rattle.ev_vat.specs.MemberSteps.{EndsSo, own}
use Rattle.ev_vat.specs.Standing.{with_draws}
use Rattle.ev_vat.specs.declared.member.Member.{Member}
use Rattle.ev_vat.specs.declared.sending.Sending.{Sending}
use Rattle.ev_pass.specs.Reading.{names_under}
use Rattle.ev_vat.proofs.MemberSteps.{always, host_comes, host_stops, own_sends, with_vat}
use Rattle.ev_room.specs.Sound.{IsSound}
use Rattle.ev_vat.specs.declared.vat.Vat.{Vat}
use Rattle.ev_vat.proofs.member.Member.notice.Goals as goal

pub notice-requires : goal.notice-requires
notice-requires c = record { ready = c.requires.ready }

pub returns-in-Ok-clause-step : goal.returns-in-Ok-clause-step
returns-in-Ok-clause-step c =
    λ fuel drawn m found.
    let q = c.args.self.now in
    let v = c.notice.new.self in
    let s : Member = record c.send.new.self { vat = v } in
    let act : List ℕ → Act Local (Unit {0}) = λ key. machine.notice (names_under key) c.args.peer in
    let d = act q.vat.host.inside.words.key (with_draws fuel drawn m.vat) in
    let going = found.rest.going in
    let grown = c.in-Ok.ensures.grown going in
    let stays = c.in-Ok.ensures.stays going in
    subst (λ (x : Member). EndsSo {A = Vec Sending Global} m (own m) (λ xs. xs.items) c.send.result x d) (with_vat c.send.new.self v c.send.ensures.vat)
    (own_sends fuel drawn m q s found {A = Vec Sending Global} (λ xs. xs.items) c.send.result d grown stays c.in-Ok.ensures.sound c.in-Ok.ensures.kept c.send.ensures.learnt
    c.send.ensures.sends c.send.ensures.connections c.send.ensures.fault (host_comes fuel drawn m q s found act grown stays (c.in-Ok.ensures.step going)))

pub returns-in-Err-clause-step : goal.returns-in-Err-clause-step
returns-in-Err-clause-step c =
    λ fuel drawn m found.
    let q = c.args.self.now in
    let s : Member = record q { vat = c.notice.new.self } in
    let act : List ℕ → Act Local (Unit {0}) = λ key. machine.notice (names_under key) c.args.peer in
    let d = act q.vat.host.inside.words.key (with_draws fuel drawn m.vat) in
    let going = found.rest.going in
    host_stops fuel drawn m q s found act {A = Vec Sending Global} (λ xs. xs.items) c.in-Err.stop (c.in-Err.ensures.step going) (c.in-Err.ensures.grown going) (c.in-Err.ensures.stays going)

pub returns-in-Ok-clause-ready : goal.returns-in-Ok-clause-ready
returns-in-Ok-clause-ready c = λ going. subst (λ (v : Vat). IsSound v.host.inside) (sym c.send.ensures.vat) c.in-Ok.ensures.sound

pub returns-in-Ok-clause-key : goal.returns-in-Ok-clause-key
returns-in-Ok-clause-key c = λ going. always c.send.result _ (ap (λ (v : Vat). v.host.inside.words.key) c.send.ensures.vat ∙ c.in-Ok.ensures.stays going)

pub returns-in-Err-clause-ready : goal.returns-in-Err-clause-ready
returns-in-Err-clause-ready c = λ going. let stopped = c.in-Err.ensures.kept in absurd cc

pub returns-in-Err-clause-key : goal.returns-in-Err-clause-key
returns-in-Err-clause-key c = λ going. tt
