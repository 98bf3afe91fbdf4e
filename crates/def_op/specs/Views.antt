-- What a clause sees of operations and descriptions: which they are, without where their parts lie in memory.
use Rattle.std.specs.Prelude.{List, map}
use Rattle.def_op.specs.declared.op.Desc.{Desc, fold-Desc}
use Rattle.def_op.specs.declared.op.Desc.TheOpen.{Desc-F}
use Rattle.def_op.specs.declared.op.Resolved.{Resolved}
use Rattle.def_op.specs.declared.op.Op.{Op}
use Rattle.def_op.specs.Frames.{Described, Datum, ListOf, Broken, YourExport, YourAnswer, MyExport, MyPromise, Third, MyAnswer, Outcome, To, Elsewhere, Operation, Deliver, Resolve, Provide, Accept, Shorten, DeliverOnly, Members, members}

-- one level, with each member already seen as what it describes
abbrev pub described_step : Desc-F Described → Described
described_step (Desc-F.Plain p) = Datum p
described_step (Desc-F.ListOf v) = ListOf (members v.items)
described_step (Desc-F.Broken text) = Broken text
described_step (Desc-F.YourExport n) = YourExport n
described_step (Desc-F.YourAnswer n) = YourAnswer n
described_step (Desc-F.MyExport n) = MyExport n
described_step (Desc-F.MyPromise n) = MyPromise n
described_step (Desc-F.Third host s) = Third host s
described_step (Desc-F.MyAnswer n) = MyAnswer n

abbrev pub described : Desc → Described
described = fold-Desc Described described_step

abbrev pub all_described : List Desc → Members
all_described ds = members (map described ds)

abbrev pub outcome : Resolved → Outcome
outcome (Resolved.To d) = To (described d)
outcome (Resolved.Elsewhere host) = Elsewhere host

abbrev pub operation : Op → Operation
operation (Op.Deliver question target verb args) = Deliver question (described target) verb (all_described args)
operation (Op.Resolve subject to) = Resolve (described subject) (outcome to)
operation (Op.Provide target s) = Provide (described target) s
operation (Op.Accept question provider s) = Accept question provider s
operation (Op.Shorten subject s) = Shorten (described subject) s
operation (Op.DeliverOnly target verb args) = DeliverOnly (described target) verb (all_described args)
