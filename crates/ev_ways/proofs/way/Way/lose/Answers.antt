use Rattle.std.proofs.Common.{◌∙◌}
use Rattle.ev_ways.proofs.Labels.{left_is, none_is, stays_is, taken_is}
use Rattle.ev_ways.proofs.way.Way.lose.Goals as goal

pub returns-in_err-bytes-clause-value : goal.returns-in_err-bytes-clause-value
returns-in_err-bytes-clause-value c = c.from_residual.ensures ∙ none_is c.self.inside.labels.items c.self.inside.link c.args.self.now c.self.invariant c.in_err-bytes.ensures.value c.self.view_is

pub returns-in_err-bytes-clause-after : goal.returns-in_err-bytes-clause-after
returns-in_err-bytes-clause-after c = stays_is c.self.inside.labels.items c.self.inside.link c.carry.new.self c.args.self.now c.self.invariant c.in_err-bytes.ensures.value c.in_err-bytes.ensures.after c.self.view_is

pub returns-clause-value : goal.returns-clause-value
returns-clause-value c =
    taken_is c.self.inside.labels.items c.pop_front.new.self.items c.in_ok-note.field-0 c.self.inside.link c.carry.new.self c.in_ok-bytes.bytes c.args.self.now c.self.invariant c.in_ok-bytes.ensures.value c.in_ok-bytes.ensures.after
    c.in_ok-note.ensures.items c.self.view_is

pub returns-clause-after : goal.returns-clause-after
returns-clause-after c =
    left_is c.self.inside.labels.items c.pop_front.new.self.items c.in_ok-note.field-0 c.self.inside.link c.carry.new.self c.in_ok-bytes.bytes c.args.self.now c.self.invariant c.in_ok-bytes.ensures.value c.in_ok-bytes.ensures.after
    c.in_ok-note.ensures.items c.self.view_is
