-- The form of a node as auditors see it: words, literals, and where lists begin and end.
use Rattle.std.specs.Prelude.{ℕ, zero, suc, List, [], ◌∷◌, ◌++◌, Option, Some, None, length, slice_get, codes}
use Rattle.def_machine.specs.Values.{Words, Value, Number, Letter, Text}
use Rattle.def_kernel.specs.declared.node.Literal.{Literal}
use Rattle.def_kernel.specs.declared.node.Literal.TheVariants as literal
use Rattle.def_kernel.specs.declared.node.Node.{Node}
use Rattle.def_kernel.specs.declared.node.Node.TheVariants.{Lit, Noun, Set, Def, Call, Sequence, If, Escape, Try, Finally, Hide, MatchBind, Object, Method, Matcher, Final, Var, Any, ListPattern, Via}

pub data Item : Type 0 where
  Begin : Item
  End : Item
  Word : Words → Item
  -- a literal
  Fact : Literal → Item

unfoldable pub literal_value : {N : Type 0} → Literal → Value N
literal_value (literal.Int z) = Number z
literal_value (literal.Char c) = Letter c
literal_value (literal.Text t) = Text t

abbrev pub Former : Type 0
Former = ℕ → List Item

unfoldable pub group : List Item → List Item
group is = Begin ∷ is ++ End ∷ []

-- a list headed by a word
unfoldable pub headed : Words → List Item → List Item
headed w is = group (Word w ∷ is)

unfoldable pub forms : Former → List ℕ → List Item
forms rec [] = []
forms rec (e ∷ es) = rec e ++ forms rec es

unfoldable pub form_option : Former → Option ℕ → List Item
form_option rec None = []
form_option rec (Some e) = rec e

unfoldable pub exit_form : Former → Option ℕ → List Item
exit_form rec None = []
exit_form rec (Some j) = Word (codes "exit") ∷ rec j

unfoldable pub caught_form : Former → Option (ℕ × ℕ) → List Item
caught_form rec None = []
caught_form rec (Some c) = rec c.0 ++ rec c.1

unfoldable pub node_form : Former → Node → List Item
node_form rec (Lit l) = headed (codes "lit") (Fact l ∷ [])
node_form rec (Noun x) = headed (codes "noun") (Word x ∷ [])
node_form rec (Set x e) = headed (codes "set") (Word x ∷ rec e)
node_form rec (Def p j e) = headed (codes "def") (rec p ++ exit_form rec j ++ rec e)
node_form rec (Call r v es) = headed (codes "call") (rec r ++ Word v ∷ forms rec es)
node_form rec (Sequence es) = headed (codes "seq") (forms rec es)
node_form rec (If t a b) = headed (codes "if") (rec t ++ rec a ++ rec b)
node_form rec (Escape p b c) = headed (codes "escape") (rec p ++ rec b ++ caught_form rec c)
node_form rec (Try b p h) = headed (codes "try") (rec b ++ rec p ++ rec h)
node_form rec (Finally a b) = headed (codes "finally") (rec a ++ rec b)
node_form rec (Hide e) = headed (codes "hide") (rec e)
node_form rec (MatchBind e p) = headed (codes "match") (rec e ++ rec p)
node_form rec (Object p auditors members) = headed (codes "object") (rec p ++ group (forms rec auditors) ++ forms rec members)
node_form rec (Method v ps b) = headed (codes "method") (Word v ∷ group (forms rec ps) ++ rec b)
node_form rec (Matcher p b) = headed (codes "matcher") (rec p ++ rec b)
node_form rec (Final x g) = headed (codes "final") (Word x ∷ form_option rec g)
node_form rec (Var x g) = headed (codes "var") (Word x ∷ form_option rec g)
node_form rec (Any g) = headed (codes "any") (form_option rec g)
node_form rec (ListPattern ps) = headed (codes "list") (forms rec ps)
node_form rec (Via e p) = headed (codes "via") (rec e ++ rec p)

unfoldable pub form_found : Former → Option Node → List Item
form_found rec None = []
form_found rec (Some n) = node_form rec n

unfoldable pub form_at : List Node → ℕ → Former
form_at tree zero e = []
form_at tree (suc d) e = form_found (λ e. form_at tree d e) (slice_get tree e)

-- the form of that node of the tree
unfoldable pub items_of : List Node → ℕ → List Item
items_of tree e = form_at tree (length tree) e

-- opens each definition of this file
unfoldable pub opened_form : Unit {0}
unfolding literal_value group headed forms form_option exit_form caught_form node_form form_found form_at items_of
opened_form = tt
