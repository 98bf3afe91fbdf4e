-- Verbs, bare or between quotes.
use Rattle.std.proofs.Common.{◌≡◌, ℕ, ◌&&◌, not, cond, Bool, true, false, List, [], ◌∷◌, ◌++◌, length, Some, None, option_map, refl, ◌∙◌, ap}
use Rattle.std.specs.Char.{encode_utf8}
use Rattle.std.specs.Str.{IsUtf8}
use Rattle.def_text.specs.Quoting.{quoted}
use Rattle.def_text.specs.Keywords.{is_identifier, begins_identifier, printed_verb}
use Rattle.def_kernel.specs.declared.node.Node.{Node}
use Rattle.def_kernel.specs.declared.reader.Item.{Item}
use Rattle.def_kernel.specs.declared.reader.Item.TheVariants.{Word as AWord}
use Rattle.def_kernel.specs.declared.reader.Frame.{Frame}
use Rattle.def_kernel.specs.declared.reader.Mode.{Mode}
use Rattle.def_kernel.specs.declared.reader.Mode.TheVariants.{Before as before, Bare as bare, Text as text}
use Rattle.def_kernel.specs.declared.shape.Head.{Head}
use Rattle.def_kernel.specs.declared.shape.Want.TheVariants.{Verb}
use Rattle.def_kernel.specs.Reading.{step, wanted, takes_exit}
use Rattle.law_kernel_form.proofs.Steps.{Goes, state, framed, at}
use Rattle.law_kernel_form.proofs.Going.{Going, then_word}
use Rattle.law_kernel_form.proofs.Names.{differs, begins_wanted, bare_item}
use Rattle.law_kernel_form.proofs.Quoted.{quoted_item}

verb_begins : (c number : ℕ) (head : Head) (items : List Item) (frames : List Frame) (nodes : List Node) → wanted head (length items) ≡ Some Verb → takes_exit head (length items) ≡ false
    → begins_identifier c ≡ true → step c (state (framed number head items frames) nodes before) ≡ Some (state (framed number head items frames) nodes (bare (encode_utf8 c)))
verb_begins c number head items frames nodes wants no_exit e =
    begins_wanted c number head items frames nodes Verb (differs c 40 begins_identifier refl e) wants no_exit
    ∙ ap (λ b. option_map (λ (mode : Mode). state (framed number head items frames) nodes mode) (cond b (Some (text true [])) (cond (begins_identifier c) (Some (bare (encode_utf8 c))) None)))
    (differs c 34 begins_identifier refl e)
    ∙ ap (λ b. option_map (λ (mode : Mode). state (framed number head items frames) nodes mode) (cond b (Some (bare (encode_utf8 c))) None)) e

verb_item : (verb : List ℕ) (b : Bool) → is_identifier verb ≡ b → IsUtf8 verb → (number : ℕ) (head : Head) (items : List Item) (frames : List Frame) (now : List Node)
    → wanted head (length items) ≡ Some Verb → takes_exit head (length items) ≡ false
    → Goes (32 ∷ cond b verb (quoted verb)) (at number head items frames now) (at number head (items ++ AWord verb ∷ []) frames now)
verb_item verb true is utf8 number head items frames now wants no_exit =
    bare_item verb number head items frames now Verb utf8 is wants (λ c e. verb_begins c number head items frames now wants no_exit e)
verb_item verb false is utf8 number head items frames now wants no_exit =
    quoted_item true verb number head items frames now Verb utf8 (ap (λ b. not (true && b)) is) wants (begins_wanted 34 number head items frames now Verb refl wants no_exit)

pub then_verb : {nodes : List Node} {n : ℕ} {first head : Head} {texts : ℕ → List (List ℕ)} {items : List Item} {a : ℕ} {verb : List ℕ} → Going nodes n first head texts items a
    → IsUtf8 verb → wanted head (length items) ≡ Some Verb → takes_exit head (length items) ≡ false
    → Going nodes n first head (λ height. texts height ++ printed_verb verb ∷ []) (items ++ AWord verb ∷ []) a
then_verb {n = n} {head = head} {items = items} {verb = verb} g utf8 wants no_exit =
    then_word g (printed_verb verb) head (items ++ AWord verb ∷ []) (λ frames now. verb_item verb (is_identifier verb) refl utf8 n head items frames now wants no_exit)
