use Rattle.std.proofs.Common.{drop, sym, ap, ◌∙◌}
use Rattle.ev_ways.proofs.Streams.{cut_holds, cut_sound}
use Rattle.ev_ways.proofs.link.Link.push_piece.Goals as goal

pub invariant_of-self-in-Ok : goal.invariant_of-self-in-Ok
invariant_of-self-in-Ok c =
    cut_sound c.self.inside.frames.items c.cut_frames.new.frames.items c.self.inside.part.items c.as_slice.result.now (drop c.in-Ok.count c.as_slice.result.now) c.take_away.new.bytes.items c.self.invariant
    c.in-Ok.ensures.cut c.in-Ok.ensures.unfinished (c.take_away.ensures ∙ ap (drop c.in-Ok.count) (sym c.as_slice.ensures.value))

pub returns-in-Ok-clause-ok : goal.returns-in-Ok-clause-ok
returns-in-Ok-clause-ok c uncut =
    cut_holds c.args.self.now c.self.inside.frames.items c.cut_frames.new.frames.items c.self.inside.part.items c.args.piece.now c.as_slice.result.now (drop c.in-Ok.count c.as_slice.result.now) c.take_away.new.bytes.items
    c.self.inside.is_cut c.self.view_is uncut c.self.invariant (c.as_slice.ensures.value ∙ c.in_ok-extend_from_slice.ensures.items) c.in-Ok.ensures.cut c.in-Ok.ensures.unfinished
    (c.take_away.ensures ∙ ap (drop c.in-Ok.count) (sym c.as_slice.ensures.value))
