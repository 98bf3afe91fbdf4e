use Rattle.std.proofs.Common.{take, drop, ap, ◌∙◌}
use Rattle.ev_heap.proofs.Next.{read_end, read_next, fits_next, fit_others}
use Rattle.ev_heap.proofs.cursor.Cursor.next.Goals as goal

pub invariant_of-self : goal.invariant_of-self
invariant_of-self c = fit_others _ _ _ _ c.in-Some.line.now c.in-Some.ensures.cases.0 c.self.invariant

pub returns-in-None-clause-end : goal.returns-in-None-clause-end
returns-in-None-clause-end c = rw (← c.self.view_is) (read_end _ _ _ _ c.in-None.ensures.cases)

pub returns-in-Some-clause-next : goal.returns-in-Some-clause-next
returns-in-Some-clause-next c =
    rw (← c.self.view_is) (read_next _ _ _ _ c.in-Some.line.now _ _ _ c.in-Some.ensures.cases.0
    (c.split-values.ensures.own ∙ ap (λ n. take n c.self.inside.values) c.width.ensures)
    (c.split-values.ensures.others ∙ ap (λ n. drop n c.self.inside.values) c.width.ensures))

pub returns-in-Some-clause-fits : goal.returns-in-Some-clause-fits
returns-in-Some-clause-fits c = rw (← c.self.view_is) (fits_next _ _ _ _ c.in-Some.line.now c.in-Some.ensures.cases.0 c.self.invariant)
