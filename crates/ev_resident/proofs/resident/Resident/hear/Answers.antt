use Rattle.std.proofs.Common.{ℕ, List, ap, subst, ◌∙◌}
use Rattle.ev_intro.specs.Word.{Drawn}
use Rattle.ev_vat.specs.Hearing.{Hears, frame_heard}
use Rattle.ev_vat.specs.declared.hearing.Arrival.{Arrival}
use Rattle.ev_pass.specs.Acts.{words_by}
use Rattle.ev_pass.specs.Reading.{names_under}
use Rattle.ev_resident.proofs.Worlds.{under}
use Rattle.ev_resident.proofs.resident.Resident.hear.Goals as goal

pub hear-requires : goal.hear-requires
hear-requires c = record { ready = c.ready.ensures.ready c.requires.ready }

pub returns-clause-step : goal.returns-clause-step
returns-clause-step c = λ m same is.
    let ds = words_by c.args.words.now.key c.args.words.now.count in
    let found = c.ready.ensures.found m same is in (
      c.ready.new.self,
      found,
      subst (λ (k : List ℕ). Hears {A = Arrival} (names_under k) c.args.fuel ds c.args.from m (λ a. a.sendings.items) c.hear.result c.ready.new.self c.hear.new.self (frame_heard c.args.from m c.args.frame.now))
          (ap (λ (d : Drawn). d.key) c.ready.ensures.kept)
          (c.hear.ensures.step c.args.fuel ds m found),
    )

pub returns-clause-key : goal.returns-clause-key
returns-clause-key c = λ going. under c.hear.new.self.vat.host.inside.words.key c.hear.result c.ready.ensures.kept (c.hear.ensures.key (c.ready.ensures.stopped ∙ going))

pub returns-clause-news : goal.returns-clause-news
returns-clause-news c = λ m same is. c.hear.ensures.news c.args.fuel (words_by c.args.words.now.key c.args.words.now.count) m (c.ready.ensures.found m same is)
