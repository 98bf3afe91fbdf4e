use Rattle.ev_kernel_printer.proofs.FormLemmas.{starts, goes, shrinks}
use Rattle.std.proofs.Common.{refl}
use Rattle.ev_kernel_printer.proofs.printer.print.Goals as goal

pub loop-piece-init : goal.loop-piece-init
loop-piece-init c = starts _ _ _ _ _ _ refl c.new-out.ensures.bytes c.new-pieces.ensures c.in_ok-write_node.ensures.text c.in_ok-write_node.ensures.parts

pub loop-piece-smaller : goal.loop-piece-smaller
loop-piece-smaller c = shrinks _ c.in-Some.piece _ _ _ c.in-Some.ensures c.in_ok-write_piece.ensures.pieces

pub loop-piece-preserved : goal.loop-piece-preserved
loop-piece-preserved c = goes _ c.in-Some.piece _ _ _ _ _ _ c.in-Some.ensures c.in_ok-write_piece.ensures.text c.in_ok-write_piece.ensures.pieces c.loop-piece.invariant
