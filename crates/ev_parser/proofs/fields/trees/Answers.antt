use Rattle.std.proofs.Common.{sym, ◌∙◌, ap, ◌++◌, ◌∷◌, [], List, ℕ, get_or}
use Rattle.ev_parser.specs.declared.draft.Part.TheVariants as piece
use Rattle.ev_parser.specs.Surface.{trees}
use Rattle.ev_parser.proofs.Marks.{trees_next}
use Rattle.ev_parser.proofs.fields.trees.Goals as goal

pub loop-part-preserved : goal.loop-part-preserved
loop-part-preserved c = c.in_ok-add_tree.ensures ∙ ap (λ (x : List ℕ). x ++ trees (get_or c.args.parts.now c.loop-part.part-index (piece.Tree 0) ∷ [])) c.loop-part.invariant ∙ sym (trees_next c.args.parts.now c.loop-part.part-index (piece.Tree 0) c.loop-part-test.true)
