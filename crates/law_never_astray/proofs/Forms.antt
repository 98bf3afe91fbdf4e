-- The form of a node of the tree can be built.
use Rattle.std.proofs.Common.{◌≡◌, ℕ, zero, suc, List, [], ◌∷◌, ◌++◌, Option, Some, None, refl, sym, subst, length, append_assoc}
use Rattle.std.specs.Prelude.{slice_get}
use Rattle.def_machine.specs.Values.{Words, Value, Text, Naming}
use Rattle.def_machine.specs.State.{Vat, Fuel}
use Rattle.def_machine.specs.Form.{Item, End, Word, Fact, literal_value, group, headed, forms, form_option, exit_form, caught_form, node_form, form_found, form_at, items_of}
use Rattle.def_machine.specs.Calls as calls
use Rattle.def_kernel.specs.declared.node.Literal.{Literal}
use Rattle.def_kernel.specs.declared.node.Node.{Node}
use Rattle.def_kernel.specs.declared.node.Node.TheVariants.{Lit, Noun, Set, Def, Call, Sequence, If, Escape, Try, Finally, Hide, MatchBind, Object, Method, Matcher, Final, Var, Any, ListPattern, Via}
use Rattle.def_kernel.specs.Trees.{Has}
use Rattle.law_never_astray.proofs.Leads.{AtStops, Leads, Nothing, lead_next}
use Rattle.law_never_astray.proofs.CoveredNatives.{list_leads}

module _ {N W : Type 0} (K : Naming N W) (tree : List Node) (F : AtStops N) (fuel : (s : Vat N) → F Fuel s) (many act : ℕ) where
  abbrev Built : List Item → List (List (Value N)) → Type 0
  Built is fs = Leads tree F many Nothing (calls.build K tree act is fs)

  -- items in a list that was begun leave it begun, and the lists round it as they were
  record Fits (is : List Item) : Type 0 where
    goes : (rest : List Item) (fs : List (List (Value N))) → ((g : List (Value N)) → Built rest (g ∷ fs)) → (f : List (Value N)) → Built (is ++ rest) (f ∷ fs)

  fits_none : Fits []
  fits_none = record { goes = λ rest fs h f. h f }

  fits_both : {is js : List Item} → Fits is → Fits js → Fits (is ++ js)
  fits_both {is = is} {js = js} h k = record { goes = λ rest fs l f. subst (λ x. Built x (f ∷ fs)) (sym (append_assoc is js rest)) (h.goes (js ++ rest) fs (λ g. k.goes rest fs l g) f) }

  fits_word : (w : Words) {is : List Item} → Fits is → Fits (Word w ∷ is)
  unfolding calls.build calls.with_item
  fits_word w h = record { goes = λ rest fs l f. h.goes rest fs l (f ++ Text w ∷ []) }

  fits_fact : (l : Literal) → Fits (Fact l ∷ [])
  unfolding calls.build calls.with_item
  fits_fact l = record { goes = λ rest fs h f. h (f ++ literal_value l ∷ []) }

  built_end : (rest : List Item) (fs : List (List (Value N))) (f g : List (Value N)) → ((x : List (Value N)) → Built rest (x ∷ fs)) → Built (End ∷ rest) (g ∷ f ∷ fs)
  unfolding calls.build calls.with_item
  built_end [] fs f g h = list_leads K tree F fuel many act g
  built_end (i ∷ rest) fs f g h = lead_next tree F (list_leads K tree F fuel many act g) (λ v. h (f ++ v ∷ []))

  fits_group : {is : List Item} → Fits is → Fits (group is)
  unfolding group calls.build
  fits_group {is = is} h = record { goes = λ rest fs l f. subst (λ x. Built x ([] ∷ f ∷ fs)) (sym (append_assoc is (End ∷ []) rest)) (h.goes (End ∷ rest) (f ∷ fs) (λ g. built_end rest fs f g l) []) }

  -- the items of a node between its brackets
  record Bracketed (is : List Item) : Type 0 where
    inside : List Item
    is_group : is ≡ group inside
    fits : Fits inside

  bracketed : (w : Words) {is : List Item} → Fits is → Bracketed (headed w is)
  unfolding headed
  bracketed w {is = is} h = record { inside = Word w ∷ is; is_group = refl; fits = fits_word w h }

  module _ (rec : ℕ → List Item) (good : (e : ℕ) → Fits (rec e)) where
    fits_forms : (es : List ℕ) → Fits (forms rec es)
    unfolding forms
    fits_forms [] = fits_none
    fits_forms (e ∷ es) = fits_both (good e) (fits_forms es)

    fits_option : (o : Option ℕ) → Fits (form_option rec o)
    unfolding form_option
    fits_option None = fits_none
    fits_option (Some e) = good e

    fits_exit : (o : Option ℕ) → Fits (exit_form rec o)
    unfolding exit_form
    fits_exit None = fits_none
    fits_exit (Some e) = fits_word _ (good e)

    fits_caught : (o : Option (ℕ × ℕ)) → Fits (caught_form rec o)
    unfolding caught_form
    fits_caught None = fits_none
    fits_caught (Some c) = fits_both (good c.0) (good c.1)

    node_bracketed : (n : Node) → Bracketed (node_form rec n)
    unfolding node_form
    node_bracketed (Lit l) = bracketed _ (fits_fact l)
    node_bracketed (Noun x) = bracketed _ (fits_word x fits_none)
    node_bracketed (Set x e) = bracketed _ (fits_word x (good e))
    node_bracketed (Def p j e) = bracketed _ (fits_both (fits_both (good p) (fits_exit j)) (good e))
    node_bracketed (Call r v es) = bracketed _ (fits_both (good r) (fits_word v (fits_forms es)))
    node_bracketed (Sequence es) = bracketed _ (fits_forms es)
    node_bracketed (If t a b) = bracketed _ (fits_both (fits_both (good t) (good a)) (good b))
    node_bracketed (Escape p b c) = bracketed _ (fits_both (fits_both (good p) (good b)) (fits_caught c))
    node_bracketed (Try b p h) = bracketed _ (fits_both (fits_both (good b) (good p)) (good h))
    node_bracketed (Finally a b) = bracketed _ (fits_both (good a) (good b))
    node_bracketed (Hide e) = bracketed _ (good e)
    node_bracketed (MatchBind e p) = bracketed _ (fits_both (good e) (good p))
    node_bracketed (Object p auditors members) = bracketed _ (fits_both (fits_both (good p) (fits_group (fits_forms auditors))) (fits_forms members))
    node_bracketed (Method v ps b) = bracketed _ (fits_word v (fits_both (fits_group (fits_forms ps)) (good b)))
    node_bracketed (Matcher p b) = bracketed _ (fits_both (good p) (good b))
    node_bracketed (Final x g) = bracketed _ (fits_word x (fits_option g))
    node_bracketed (Var x g) = bracketed _ (fits_word x (fits_option g))
    node_bracketed (Any g) = bracketed _ (fits_option g)
    node_bracketed (ListPattern ps) = bracketed _ (fits_forms ps)
    node_bracketed (Via e p) = bracketed _ (fits_both (good e) (good p))

  fits_bracketed : (is : List Item) → Bracketed is → Fits is
  fits_bracketed is b = subst Fits (sym b.is_group) (fits_group b.fits)

  fits_found : (rec : ℕ → List Item) → ((e : ℕ) → Fits (rec e)) → (o : Option Node) → Fits (form_found rec o)
  unfolding form_found
  fits_found rec good None = fits_none
  fits_found rec good (Some n) = fits_bracketed (node_form rec n) (node_bracketed rec good n)

  fits_at : (d e : ℕ) → Fits (form_at tree d e)
  unfolding form_at
  fits_at zero e = fits_none
  fits_at (suc d) e = fits_found (λ e. form_at tree d e) (fits_at d) (slice_get tree e)

  built_group : (is : List Item) → Fits is → Built (group is) []
  unfolding group calls.build
  built_group is h = h.goes (End ∷ []) [] (λ g. list_leads K tree F fuel many act g) []

  built_bracketed : (is : List Item) → Bracketed is → Built is []
  built_bracketed is b = subst (λ x. Built x []) (sym b.is_group) (built_group b.inside b.fits)

  built_at : (d e : ℕ) (n : Node) → Has tree e n → (z : ℕ) → d ≡ suc z → Built (form_at tree d e) []
  unfolding form_at form_found
  built_at zero e n i z f = cc
  built_at (suc d) e n i z f = go (slice_get tree e) i
    where
      go : (o : Option Node) → o ≡ Some n → Built (form_found (λ e. form_at tree d e) o) []
      go None j = cc
      go (Some x) j = built_bracketed _ (node_bracketed (λ e. form_at tree d e) (fits_at d) x)

  not_empty : (xs : List Node) (e : ℕ) (n : Node) → slice_get xs e ≡ Some n → (z : ℕ) × (length xs ≡ suc z)
  not_empty [] e n i = cc
  not_empty (x ∷ xs) e n i = (length xs, refl)

  -- where the node is there
  pub lead_form : (e : ℕ) (n : Node) → Has tree e n → Leads tree F many Nothing (calls.build K tree act (items_of tree e) [])
  unfolding items_of
  lead_form e n i = let l = not_empty tree e n i in built_at (length tree) e n i l.0 l.1
