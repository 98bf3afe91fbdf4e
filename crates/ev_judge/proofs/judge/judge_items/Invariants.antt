use Rattle.std.proofs.Common.{◌≡◌, drop}
use Rattle.def_hostile.specs.Judge.{first_look, judged}
use Rattle.ev_judge.specs.Views.{counts, seen}
use Rattle.ev_judge.proofs.judge.judge_items.Given as goal

-- what is left is judged as the whole is
abbrev pub invariant-loop-index : goal.invariant-loop-index
invariant-loop-index l =
    judged l.receiver.vats l.receiver.me l.connection.peer (counts l.connection) (drop l.index l.spots) (seen l.index l.look)
    ≡ judged l.receiver.vats l.receiver.me l.connection.peer (counts l.connection) l.spots first_look
