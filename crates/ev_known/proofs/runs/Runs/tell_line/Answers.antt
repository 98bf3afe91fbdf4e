use Rattle.std.proofs.lemmas.Result.{on_ok_weaker}
use Rattle.ev_known.proofs.Running.{line_runs}
use Rattle.ev_known.proofs.runs.Runs.tell_line.Goals as goal

pub returns : goal.returns
returns c past s t stand =
    on_ok_weaker c.tell_event.result (λ told. line_runs c.args.at c.args.event.now past c.args.self.now c.tell_event.new.self told stand) (c.tell_event.ensures past s t)
