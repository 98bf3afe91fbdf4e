-- The form of a whole tree is read as the tree.
use Rattle.std.proofs.Common.{◌≡◌, ℕ, ◌+◌, ◌≤◌, List, [], length, Result, Ok, refl, sym, ◌∙◌, ap, arith}
use Rattle.std.specs.Str.{chars}
use Rattle.std.proofs.lemmas.List.{append-nil}
use Rattle.def_kernel.specs.declared.node.Node.{Node}
use Rattle.def_kernel.specs.declared.reader.Mode.TheVariants.{Whole as whole}
use Rattle.def_kernel.specs.declared.shape.Kind.TheVariants.{Expression}
use Rattle.def_kernel.specs.Forms.{form}
use Rattle.def_kernel.specs.Reading.{read, started}
use Rattle.law_kernel_form.specs.Laws.{ReadingUndoesPrinting, FormOfOneTree}
use Rattle.law_kernel_form.proofs.Parts.{whole_part}
use Rattle.law_kernel_form.proofs.Steps.{steps, state, whole_read}
use Rattle.law_kernel_form.proofs.Going.{TreeRead}
use Rattle.law_kernel_form.proofs.ReadingTrees.{tree_read}

high_enough : (k : ℕ) → k ≤ k + 0
high_enough k = omega arith

all_read : (nodes : List Node) → TreeRead nodes Expression 0 (length nodes) → read (form nodes 0) ≡ Ok nodes
all_read nodes tree =
    let text = form nodes 0 in
    whole_read (chars text) 0 started (state [] tree.part whole) refl
    (ap (λ cs. steps cs started) (sym (append-nil (chars text))) ∙ (tree.reads (length nodes) (high_enough (length nodes))).reads [] [] refl started refl [])
    ∙ ap Ok (whole_part nodes (length nodes) tree.part refl tree.is)

pub undoes : ReadingUndoesPrinting
undoes nodes tree = all_read nodes (tree_read tree)

same_ok : (r : Result (List Node) ℕ) (xs ys : List Node) → r ≡ Ok xs → r ≡ Ok ys → xs ≡ ys
same_ok r xs ys d e = cc

pub one_tree : FormOfOneTree
one_tree left right is_left is_right same = same_ok (read (form left 0)) left right (undoes left is_left) (ap read same ∙ undoes right is_right)
