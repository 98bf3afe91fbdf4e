use Rattle.std.proofs.Common.{◌++◌, ◌∙◌, ap, map, List, ℕ}
use Rattle.def_see.specs.Words.{subject}
use Rattle.def_see.specs.Lines.{about, subjects_from}
use Rattle.ev_see_lives.specs.Lives.{spelled}
use Rattle.ev_see_lives.proofs.LifeLemmas.{next_subject, no_more_subjects}
use Rattle.ev_see_lives.proofs.lives.subjects.Goals as goal

pub loop-number-preserved : goal.loop-number-preserved
loop-number-preserved c =
    next_subject c.index-lines-number.result (subjects_from 0 c.args.lines.now) (map spelled c.loop-number.pairs.items) _ c.args.lines.now c.loop-number.number
    c.loop-number-test.true c.index-lines-number.is c.loop-number.invariant
    (c.in_ok-add_subject.ensures ∙ ap (λ (ws : List (List ℕ)). map spelled c.loop-number.pairs.items ++ about (subject ws) c.loop-number.number) c.as_slice.ensures)

pub returns : goal.returns
returns c = no_more_subjects (subjects_from 0 c.args.lines.now) (map spelled c.loop-number.pairs.items) c.args.lines.now c.loop-number.number c.loop-number-test.false c.loop-number.invariant
