use Rattle.std.proofs.Common.{sym, ◌∙◌}
use Rattle.ev_parser.proofs.Stacks.{inside_off, inside_framed, inside_none, after_fits, after_framed}
use Rattle.ev_parser.proofs.frames.Frames.pop.Goals as goal

pub invariant_of-self-in-After : goal.invariant_of-self-in-After
invariant_of-self-in-After c = sym (after_fits _ _ c.in-After.tail (rw c.in-After.is at c.in_ok-tail.ensures.items)) ∙ c.self.invariant

pub invariant_of-self-in_err-stand-in-Inside : goal.invariant_of-self-in_err-stand-in-Inside
invariant_of-self-in_err-stand-in-Inside c = absurd (inside_none _ _ _ (rw c.in-Inside.is at c.in_ok-tail.ensures.items) (sym c.self.inside.stands.ok.0 ∙ c.in_err-stand-in-Inside.ensures.cases.0) c.self.invariant)

pub returns-in_err-stand-in-Inside : goal.returns-in_err-stand-in-Inside
returns-in_err-stand-in-Inside c = absurd (inside_none _ _ _ (rw c.in-Inside.is at c.in_ok-tail.ensures.items) (sym c.self.inside.stands.ok.0 ∙ c.in_err-stand-in-Inside.ensures.cases.0) c.self.invariant)

pub invariant_of-self-in-Inside : goal.invariant_of-self-in-Inside
invariant_of-self-in-Inside c = inside_off _ _ _ _ _ (rw c.in-Inside.is at c.in_ok-tail.ensures.items) c.in_ok-stand-in-Inside.ensures.items c.self.invariant

pub returns-in-After : goal.returns-in-After
returns-in-After c =
    let e = rw c.in-After.is at c.in_ok-tail.ensures.items in
    sym c.self.view_is ∙ after_framed _ _ _ c.in-After.tail e (sym (after_fits _ _ c.in-After.tail e) ∙ c.self.invariant)

pub returns-in_ok-stand-in-Inside : goal.returns-in_ok-stand-in-Inside
returns-in_ok-stand-in-Inside c =
    let e = rw c.in-Inside.is at c.in_ok-tail.ensures.items in
    sym c.self.view_is ∙ inside_framed _ _ _ _ _ e c.in_ok-stand-in-Inside.ensures.items (inside_off _ _ _ _ _ e c.in_ok-stand-in-Inside.ensures.items c.self.invariant)
