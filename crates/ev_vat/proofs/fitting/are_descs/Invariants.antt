-- Those so far have a spelling.
use Rattle.std.proofs.Common.{◌↔◌, drop}
use Rattle.def_op.specs.Frames.{AreDescs}
use Rattle.def_op.specs.Views.{all_described}
use Rattle.ev_vat.proofs.fitting.are_descs.Given as goal

abbrev pub invariant-loop-desc : goal.invariant-loop-desc
invariant-loop-desc l = AreDescs (all_described (drop l.desc-index l.descs)) ↔ AreDescs (all_described l.descs)
