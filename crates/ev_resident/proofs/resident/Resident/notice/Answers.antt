use Rattle.std.proofs.Common.{ℕ, List, Vec, Global, ap, subst, ◌∙◌}
use Rattle.def_machine.specs.Arrive.{notice}
use Rattle.ev_intro.specs.Word.{Drawn}
use Rattle.ev_vat.specs.MemberSteps.{Steps, own}
use Rattle.ev_vat.specs.declared.sending.Sending.{Sending}
use Rattle.ev_pass.specs.Acts.{words_by}
use Rattle.ev_pass.specs.Reading.{names_under}
use Rattle.ev_resident.proofs.Worlds.{under}
use Rattle.ev_resident.proofs.resident.Resident.notice.Goals as goal

pub notice-requires : goal.notice-requires
notice-requires c = record { ready = c.ready.ensures.ready c.requires.ready }

pub returns-clause-step : goal.returns-clause-step
returns-clause-step c = λ m same is.
    let ds = words_by c.args.words.now.key c.args.words.now.count in
    subst (λ (k : List ℕ). Steps {A = Vec Sending Global} c.args.fuel ds m (own m) (λ xs. xs.items) c.notice.result c.notice.new.self (notice (names_under k) c.args.peer))
    (ap (λ (d : Drawn). d.key) c.ready.ensures.kept)
    (c.notice.ensures.step c.args.fuel ds m (c.ready.ensures.found m same is))

pub returns-clause-key : goal.returns-clause-key
returns-clause-key c = λ going. under c.notice.new.self.vat.host.inside.words.key c.notice.result c.ready.ensures.kept (c.notice.ensures.key (c.ready.ensures.stopped ∙ going))
