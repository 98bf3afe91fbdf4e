use Rattle.std.proofs.Common.{◌∙◌, ap, ℕ}
use Rattle.ev_top.specs.Ends.{summed_by}
use Rattle.ev_top.proofs.ReadLemmas.{count_is}
use Rattle.ev_top.proofs.Summed.{script_summed}
use Rattle.ev_top.proofs.summary.sum_run.Goals as goal

pub run_events-requires-clause-programs : goal.run_events-requires-clause-programs
run_events-requires-clause-programs c = count_is c.args.script.now.vats c.args.script.now.vats c.args.programs.items c.requires.read

pub returns : goal.returns
returns c =
    let ran = c.in_ok-ran.ran in
    let told = c.in_ok-text.ensures ∙ ap (λ (n : ℕ). summed_by ran.history n ran.end) c.steps_of.ensures in
    script_summed c.args.script.now c.args.programs.items ran.end ran.history _ _ c.requires.admitted c.in_ok-ran.ensures.end c.in_ok-ran.ensures.events c.status_by.ensures told
