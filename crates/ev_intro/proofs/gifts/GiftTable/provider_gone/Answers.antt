use Rattle.std.proofs.Common.{ℕ, ◌<◌, List, length, arith, ap, ◌∙◌}
use Rattle.ev_intro.specs.Gift.{and_one, waiting_at}
use Rattle.ev_intro.proofs.GiftLemmas.{unopened_step}
use Rattle.ev_intro.proofs.gifts.GiftTable.provider_gone.Goals as goal

pub loop-index-preserved : goal.loop-index-preserved
loop-index-preserved c =
    let gs = c.args.self.now in
    let p = c.provider.inside.0 in
    let i = c.loop-index.index in
    let lt : i < length gs = omega arith in
    unopened_step p gs i c.add_waiting.new.promises lt (c.in_ok-add_waiting.ensures ∙ ap (λ (ps : List ℕ). and_one ps (waiting_at p gs i)) c.loop-index.invariant)
