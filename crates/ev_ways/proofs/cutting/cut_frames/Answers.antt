use Rattle.std.proofs.Common.{List, [], ◌∷◌, ◌++◌, ◌∙◌, ap, ℕ}
use Rattle.ev_ways.proofs.Streams.{front_shorter, none_cut, one_cut}
use Rattle.ev_ways.proofs.cutting.cut_frames.Goals as goal

pub loop-frame-init : goal.loop-frame-init
loop-frame-init c = none_cut c.args.frames.now.items c.args.bytes.now

pub loop-frame-smaller : goal.loop-frame-smaller
loop-frame-smaller c = front_shorter c.loop-frame.rest.now c.in-Some.frame.now c.in-Some.behind.now c.in-Some.ensures.found

pub loop-frame-preserved : goal.loop-frame-preserved
loop-frame-preserved c =
    one_cut c.args.frames.now.items c.loop-frame.frames.items c.push_back.new.self.items c.args.bytes.now c.loop-frame.rest.now c.in-Some.frame.now c.in-Some.behind.now c.loop-frame.invariant c.in-Some.ensures.found
    (c.in_ok-push_back.ensures.items ∙ ap (λ (f : List ℕ). c.loop-frame.frames.items ++ f ∷ []) (c.of.ensures ∙ c.in_ok-from_slice.ensures.items))
