use Rattle.std.proofs.Common.{◌≡◌, ◌≤◌, true, false, length, sym, ◌∙◌, arith}
use Rattle.ev_links.specs.declared.links.Scope.TheVariants.{All}
use Rattle.ev_links.proofs.Spreading.{searching_done, searching_init, searching_step}
use Rattle.ev_uses.proofs.unsent.reach_sought.Goals as goal

pub loop-index-init : goal.loop-index-init
loop-index-init c = searching_init c.args.links.now All c.args.labels.now

pub loop-index-preserved : goal.loop-index-preserved
loop-index-preserved c =
    searching_step c.args.links.now All c.args.labels.now c.loop-index.labels c.go_on.new.labels c.loop-index.index c.at-label.result c.loop-index.invariant c.at-label.ensures
    c.in_ok-go_on.ensures

pub returns : goal.returns
returns c =
    let all : length c.loop-index.labels ≤ c.loop-index.index = omega (arith, c.len.ensures) in
    record {
      answer = c.has_sought-2.ensures;
      sound = c.loop-index.invariant.sound;
      all = λ _. searching_done c.args.links.now All c.args.labels.now c.loop-index.labels c.loop-index.index c.loop-index.invariant all;
    }
