-- Literals: integers, characters and texts.
use Rattle.std.proofs.Common.{◌≡◌, ℕ, false, List, [], ◌∷◌, ◌++◌, length, Some, refl}
use Rattle.def_kernel.specs.declared.node.Literal.{Literal}
use Rattle.def_kernel.specs.declared.node.Literal.TheVariants.{Int, Char, Text}
use Rattle.def_kernel.specs.declared.node.Node.{Node}
use Rattle.def_kernel.specs.declared.reader.Item.{Item}
use Rattle.def_kernel.specs.declared.reader.Item.TheVariants.{Literal as ALit}
use Rattle.def_kernel.specs.declared.reader.Frame.{Frame}
use Rattle.def_kernel.specs.declared.shape.Head.{Head}
use Rattle.def_kernel.specs.declared.shape.Want.TheVariants.{Literal as ALiteral}
use Rattle.def_kernel.specs.Forms.{literal_form}
use Rattle.def_kernel.specs.Reading.{wanted, takes_exit}
use Rattle.def_kernel.specs.Trees.{IsLiteral}
use Rattle.law_kernel_form.proofs.Steps.{Goes, at}
use Rattle.law_kernel_form.proofs.Going.{Going, then_word}
use Rattle.law_kernel_form.proofs.Names.{begins_wanted}
use Rattle.law_kernel_form.proofs.Quoted.{quoted_item, character_item}
use Rattle.law_kernel_form.proofs.Decimals.{int_item}

literal_item : (l : Literal) → IsLiteral l → (number : ℕ) (head : Head) (items : List Item) (frames : List Frame) (now : List Node)
    → wanted head (length items) ≡ Some ALiteral → takes_exit head (length items) ≡ false
    → Goes (32 ∷ literal_form l) (at number head items frames now) (at number head (items ++ ALit l ∷ []) frames now)
literal_item (Int z) is number head items frames now wants no_exit = int_item z is number head items frames now wants no_exit
literal_item (Char c) is number head items frames now wants no_exit =
    character_item c number head items frames now ALiteral is wants (begins_wanted 39 number head items frames now ALiteral refl wants no_exit)
literal_item (Text w) is number head items frames now wants no_exit =
    quoted_item false w number head items frames now ALiteral is refl wants (begins_wanted 34 number head items frames now ALiteral refl wants no_exit)

pub then_literal : {nodes : List Node} {n : ℕ} {first head : Head} {texts : ℕ → List (List ℕ)} {items : List Item} {a : ℕ} (l : Literal) → Going nodes n first head texts items a
    → IsLiteral l → wanted head (length items) ≡ Some ALiteral → takes_exit head (length items) ≡ false
    → Going nodes n first head (λ height. texts height ++ literal_form l ∷ []) (items ++ ALit l ∷ []) a
then_literal {n = n} {head = head} {items = items} l g is wants no_exit =
    then_word g (literal_form l) head (items ++ ALit l ∷ []) (λ frames now. literal_item l is n head items frames now wants no_exit)
