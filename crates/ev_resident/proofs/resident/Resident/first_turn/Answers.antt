use Rattle.std.proofs.Common.{ℕ, List, Vec, Global, ap, subst, ◌∙◌}
use Rattle.def_machine.specs.Eval.{opening}
use Rattle.def_machine.specs.Values.{Prom}
use Rattle.ev_room.specs.Reading.{roots_from}
use Rattle.ev_intro.specs.Word.{Drawn}
use Rattle.ev_vat.specs.MemberSteps.{Steps, own}
use Rattle.ev_vat.specs.declared.sending.Sending.{Sending}
use Rattle.ev_pass.specs.Acts.{words_by}
use Rattle.ev_pass.specs.Reading.{names_under}
use Rattle.ev_resident.proofs.Worlds.{under}
use Rattle.ev_resident.proofs.resident.Resident.first_turn.Goals as goal

pub first_turn-requires : goal.first_turn-requires
first_turn-requires c = record { ready = c.ready.ensures.ready c.requires.ready }

pub returns-clause-step : goal.returns-clause-step
returns-clause-step c = λ m same is.
    let ds = words_by c.args.words.now.key c.args.words.now.count in
    subst (λ (k : List ℕ). Steps {A = Vec Sending Global} c.args.fuel ds m (own m) (λ xs. xs.items) c.first_turn.result c.first_turn.new.self (opening (names_under k) c.args.program.now c.args.limits.depth (Prom 0) (roots_from 1 c.args.nouns.now)))
    (ap (λ (d : Drawn). d.key) c.ready.ensures.kept)
    (c.first_turn.ensures.step c.args.fuel ds m (c.ready.ensures.found m same is))

pub returns-clause-key : goal.returns-clause-key
returns-clause-key c = λ going. under c.first_turn.new.self.vat.host.inside.words.key c.first_turn.result c.ready.ensures.kept (c.first_turn.ensures.key (c.ready.ensures.stopped ∙ going))
