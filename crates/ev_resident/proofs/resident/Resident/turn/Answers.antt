use Rattle.std.proofs.Common.{ℕ, List, Vec, Global, ap, subst, ◌∙◌}
use Rattle.def_machine.specs.Eval.{taking}
use Rattle.ev_intro.specs.Word.{Drawn}
use Rattle.ev_vat.specs.MemberSteps.{Turns}
use Rattle.ev_vat.specs.declared.sending.Sending.{Sending}
use Rattle.ev_pass.specs.Acts.{words_by}
use Rattle.ev_pass.specs.Reading.{names_under}
use Rattle.ev_resident.proofs.Worlds.{under}
use Rattle.ev_resident.proofs.resident.Resident.turn.Goals as goal

pub turn-requires : goal.turn-requires
turn-requires c = record { ready = c.ready.ensures.ready c.requires.ready }

pub returns-clause-step : goal.returns-clause-step
returns-clause-step c = λ m same is.
    let ds = words_by c.args.words.now.key c.args.words.now.count in
    let found = c.ready.ensures.found m same is in (
      c.ready.new.self,
      found,
      subst (λ (k : List ℕ). Turns {A = Vec Sending Global} c.args.fuel ds m (λ xs. xs.items) c.turn.result c.ready.new.self c.turn.new.self (λ x. taking (names_under k) c.args.program.now c.args.limits.depth x) m.vat.queue)
          (ap (λ (d : Drawn). d.key) c.ready.ensures.kept)
          (c.turn.ensures.step c.args.fuel ds m found),
    )

pub returns-clause-key : goal.returns-clause-key
returns-clause-key c = λ going. under c.turn.new.self.vat.host.inside.words.key c.turn.result c.ready.ensures.kept (c.turn.ensures.key (c.ready.ensures.stopped ∙ going))
