-- Items of a form that fit its shape, and the trees that they make.
use Rattle.std.proofs.Common.{◌≡◌, ℕ, suc, ◌+◌, ◌≤◌, Bool, true, false, cond, List, [], ◌∷◌, ◌++◌, length, map, Option, Some, option_map, refl, sym, ◌∙◌, ap, subst, arith}
use Rattle.std.specs.Prelude.{bytes_eq}
use Rattle.std.specs.List.{find}
use Rattle.std.specs.Str.{IsUtf8}
use Rattle.std.proofs.lemmas.Option.{same_Some}
use Rattle.std.proofs.lemmas.Slice.Eq.{bytes_eq-Decides}
use Rattle.def_kernel.specs.declared.node.Literal.{Literal}
use Rattle.def_kernel.specs.declared.node.Node.{Node}
use Rattle.def_kernel.specs.declared.node.Node.TheVariants as node
use Rattle.def_kernel.specs.declared.reader.Item.{Item}
use Rattle.def_kernel.specs.declared.reader.Item.TheVariants.{Node as ANode, Nodes as ANodes, Word as AWord, Literal as ALit}
use Rattle.def_kernel.specs.declared.shape.Kind.{Kind}
use Rattle.def_kernel.specs.declared.shape.Kind.TheVariants.{Expression, Pattern, Member, Naming}
use Rattle.def_kernel.specs.declared.shape.Head.{Head}
use Rattle.def_kernel.specs.declared.shape.Head.TheVariants as head
use Rattle.def_kernel.specs.declared.shape.Want.{Want}
use Rattle.def_kernel.specs.declared.shape.Want.TheVariants as want
use Rattle.def_kernel.specs.declared.shape.Tail.TheVariants.{Many}
use Rattle.def_kernel.specs.Reading.{heads, head_of, fixed, tail, wanted, ends, numbers, node_of}
use Rattle.def_kernel.specs.Trees.{Has, IsName, IsLiteral, Tree, Row, literal, noun, set, def, def_exit, call, sequence, choice, escape, escape_catch, try_catch, finally, hide, match_bind, object, method, matcher, final, final_guarded, variable, variable_guarded, any, any_guarded, list, via, named, unnamed, none, one_more}
use Rattle.law_kernel_form.proofs.Going.{wants_more}
use Rattle.std.specs.Prelude.{codes}
use Rattle.def_text.specs.Keywords.{printed_verb}
use Rattle.def_text.specs.Quoting.{quoted}
use Rattle.def_kernel.specs.Forms.{enclosed, spaced, items as written}
use Rattle.law_kernel_form.proofs.Writing.{item_text, inner_words, word, Ready, gap_behind}
use Rattle.law_kernel_form.proofs.Groups.{numbers_are}

-- an item that is what is wanted; its nodes are those from the first number to before the second
pub data ItemFits (nodes : List Node) : Option Want → Item → ℕ → ℕ → Type 0 where
  a_tree : {kind : Kind} {a b : ℕ} → Tree nodes kind a b → ItemFits nodes (Some (want.Tree kind)) (ANode a) a b
  a_group : {kind : Kind} {starts : List ℕ} {a b : ℕ} → Row nodes kind starts a b → ItemFits nodes (Some (want.Group kind)) (ANodes starts) a b
  a_name : {w : List ℕ} {a : ℕ} → IsName w → ItemFits nodes (Some want.Name) (AWord w) a a
  a_verb : {w : List ℕ} {a : ℕ} → IsUtf8 w → ItemFits nodes (Some want.Verb) (AWord w) a a
  a_literal : {l : Literal} {a : ℕ} → IsLiteral l → ItemFits nodes (Some want.Literal) (ALit l) a a

-- items that are what a form wants from so many items on
pub data Fits (nodes : List Node) (shape : Head) : ℕ → List Item → ℕ → ℕ → Type 0 where
  no_more : {k a : ℕ} → Fits nodes shape k [] a a
  also : {k : ℕ} {i : Item} {items : List Item} {a b m : ℕ} → ItemFits nodes (wanted shape k) i a b → Fits nodes shape (suc k) items b m → Fits nodes shape k (i ∷ items) a m

at_end : (j k : ℕ) → j ≡ k + 0 → j ≡ k
at_end j k e = omega arith

-- one more item
pub fits_more : {nodes : List Node} {shape : Head} {k : ℕ} {items : List Item} {a b m : ℕ} {i : Item} (j : ℕ) → j ≡ k + length items → Fits nodes shape k items a b
    → ItemFits nodes (wanted shape j) i b m → Fits nodes shape k (items ++ i ∷ []) a m
fits_more {nodes = nodes} {shape = shape} {k = k} {b = b} {m = m} {i = i} j e no_more f =
    also (subst (λ x. ItemFits nodes (wanted shape x) i b m) (at_end j k e) f) no_more
fits_more j e (also g rest) f = also g (fits_more j (omega arith) rest f)

-- trees alone
record RowOf (nodes : List Node) (items : List Item) (kind : Kind) (a m : ℕ) : Type 0 where
  pub starts : List ℕ
  pub are : items ≡ map ANode starts
  pub row : Row nodes kind starts a m

record TreeOf (nodes : List Node) (i : Item) (kind : Kind) (a b : ℕ) : Type 0 where
  pub is : i ≡ ANode a
  pub tree : Tree nodes kind a b

tree_of : {nodes : List Node} {i : Item} {a b : ℕ} (o : Option Want) (kind : Kind) → o ≡ Some (want.Tree kind) → ItemFits nodes o i a b → TreeOf nodes i kind a b
tree_of {nodes = nodes} {a = a} {b = b} _ kind e (a_tree {kind = other} t) =
    let same : other ≡ kind = cc in record { is = refl; tree = subst (λ k. Tree nodes k a b) same t }
tree_of _ kind e (a_group row) = absurd (cc)
tree_of _ kind e (a_name is) = absurd (cc)
tree_of _ kind e (a_verb is) = absurd (cc)
tree_of _ kind e (a_literal is) = absurd (cc)

row_of : {nodes : List Node} {shape : Head} {k : ℕ} {items : List Item} {a m : ℕ} (kind : Kind) → tail shape ≡ Many kind → length (fixed shape) ≤ k → Fits nodes shape k items a m → RowOf nodes items kind a m
row_of kind many enough no_more = record { starts = []; are = refl; row = none }
row_of {shape = shape} {k = k} kind many enough (also {i = i} {items = items} {a = a} f rest) =
    let t = tree_of (wanted shape k) kind (wants_more shape kind k many enough) f in
    let r = row_of kind many (omega arith) rest in
    record { starts = a ∷ r.starts; are = ap (λ x. x ∷ items) t.is ∙ ap (λ xs. ANode a ∷ xs) r.are; row = one_more t.tree r.row }

numbers_of : {nodes : List Node} {items : List Item} {kind : Kind} {a m : ℕ} (r : RowOf nodes items kind a m) → numbers items ≡ r.starts
numbers_of r = ap numbers r.are ∙ numbers_are r.starts

-- the shapes of each kind
pub data Of : Kind → Head → Type 0 where
  of_lit : Of Expression head.Lit
  of_noun : Of Expression head.Noun
  of_set : Of Expression head.Set
  of_def : Of Expression head.Def
  of_call : Of Expression head.Call
  of_seq : Of Expression head.Seq
  of_if : Of Expression head.If
  of_escape : Of Expression head.Escape
  of_try : Of Expression head.Try
  of_finally : Of Expression head.Finally
  of_hide : Of Expression head.Hide
  of_match : Of Expression head.Match
  of_object : Of Expression head.Object
  of_final : Of Pattern head.Final
  of_var : Of Pattern head.Var
  of_any : Of Pattern head.Any
  of_list : Of Pattern head.List
  of_via : Of Pattern head.Via
  of_method : Of Member head.Method
  of_matcher : Of Member head.Matcher
  of_final_name : Of Naming head.FinalName
  of_no_name : Of Naming head.NoName
  of_def_exit : Of Expression head.DefExit

-- a shape of this kind, whose word this is
pub record Spelt (kind : Kind) (w : List ℕ) (shape : Head) : Type 0 where
  pub of : Of kind shape
  pub is : w ≡ word shape
  pub ready : Ready shape []

-- what all words have
abbrev AllOf : Kind → List (List ℕ × Head) → Type 0
AllOf kind [] = Unit {0}
AllOf kind (entry ∷ entries) = Spelt kind entry.0 entry.1 × AllOf kind entries

found_so : (kind : Kind) (w : List ℕ) (b : Bool) (entry : List ℕ × Head) (rest : Option (List ℕ × Head)) (shape : Head) → bytes_eq w entry.0 ≡ b → option_map (λ (x : List ℕ × Head). x.1) (cond b (Some entry) rest) ≡ Some shape
    → Spelt kind entry.0 entry.1 → (option_map (λ (x : List ℕ × Head). x.1) rest ≡ Some shape → Spelt kind w shape) → Spelt kind w shape
found_so kind w true entry rest shape same e p later =
    subst (λ h. Spelt kind w h) (same_Some entry.1 shape e) (subst (λ v. Spelt kind v entry.1) (sym ((bytes_eq-Decides w entry.0).0 same)) p)
found_so kind w false entry rest shape same e p later = later e

found_in : (kind : Kind) (entries : List (List ℕ × Head)) (w : List ℕ) (shape : Head) → head_of entries w ≡ Some shape → AllOf kind entries → Spelt kind w shape
found_in kind [] w shape e all = absurd (cc)
found_in kind (entry ∷ entries) w shape e all =
    found_so kind w (bytes_eq w entry.0) entry (find (λ x. bytes_eq w x.0) entries) shape refl e all.0 (λ later. found_in kind entries w shape later all.1)

pub of_word : (kind : Kind) (w : List ℕ) (shape : Head) → head_of (heads kind) w ≡ Some shape → Spelt kind w shape
of_word Expression w shape e = found_in Expression (heads Expression) w shape e (record { of = of_lit; is = refl; ready = tt }, (record { of = of_noun; is = refl; ready = tt }, (record { of = of_set; is = refl; ready = tt }, (record { of = of_def; is = refl; ready = tt }, (record { of = of_call; is = refl; ready = tt }, (record { of = of_seq; is = refl; ready = tt }, (record { of = of_if; is = refl; ready = tt }, (record { of = of_escape; is = refl; ready = tt }, (record { of = of_try; is = refl; ready = tt }, (record { of = of_finally; is = refl; ready = tt }, (record { of = of_hide; is = refl; ready = tt }, (record { of = of_match; is = refl; ready = tt }, (record { of = of_object; is = refl; ready = tt }, tt)))))))))))))
of_word Pattern w shape e = found_in Pattern (heads Pattern) w shape e (record { of = of_final; is = refl; ready = tt }, (record { of = of_var; is = refl; ready = tt }, (record { of = of_any; is = refl; ready = tt }, (record { of = of_list; is = refl; ready = tt }, (record { of = of_via; is = refl; ready = tt }, tt)))))
of_word Member w shape e = found_in Member (heads Member) w shape e (record { of = of_method; is = refl; ready = tt }, (record { of = of_matcher; is = refl; ready = tt }, tt))
of_word Naming w shape e = found_in Naming (heads Naming) w shape e (record { of = of_final_name; is = refl; ready = tt }, (record { of = of_no_name; is = refl; ready = tt }, tt))

-- a form whose items are all there is a tree
pub closes : {nodes : List Node} {kind : Kind} {shape : Head} {items : List Item} {n m : ℕ} → Of kind shape → Fits nodes shape 0 items (suc n) m → ends shape (length items) ≡ true
    → Has nodes n (node_of shape items) → Tree nodes kind n m
closes of_lit no_more e has = absurd (cc)
closes of_lit (also (a_literal l0) no_more) e has = literal has l0
closes of_lit (also _ (also x _)) e has = elim x [ ]
closes of_noun no_more e has = absurd (cc)
closes of_noun (also (a_name n0) no_more) e has = noun has n0
closes of_noun (also _ (also x _)) e has = elim x [ ]
closes of_set no_more e has = absurd (cc)
closes of_set (also _ no_more) e has = absurd (cc)
closes of_set (also (a_name n0) (also (a_tree t1) no_more)) e has = set has n0 t1
closes of_set (also _ (also _ (also x _))) e has = elim x [ ]
closes of_def no_more e has = absurd (cc)
closes of_def (also _ no_more) e has = absurd (cc)
closes of_def (also (a_tree t0) (also (a_tree t1) no_more)) e has = def has t0 t1
closes of_def (also _ (also _ (also x _))) e has = elim x [ ]
closes of_def_exit no_more e has = absurd (cc)
closes of_def_exit (also _ no_more) e has = absurd (cc)
closes of_def_exit (also _ (also _ no_more)) e has = absurd (cc)
closes of_def_exit (also (a_tree t0) (also (a_tree t1) (also (a_tree t2) no_more))) e has = def_exit has t0 t1 t2
closes of_def_exit (also _ (also _ (also _ (also x _)))) e has = elim x [ ]
closes of_call no_more e has = absurd (cc)
closes of_call (also _ no_more) e has = absurd (cc)
closes {n = n} of_call (also (a_tree t) (also (a_verb {w = verb} v) rest)) e has =
    let r = row_of Expression refl (omega arith) rest in call (has ∙ ap (λ ns. Some (node.Call (suc n) verb ns)) (numbers_of r)) v t r.row
closes of_seq no_more e has = absurd (cc)
closes {n = n} of_seq (also (a_tree t) rest) e has =
    let r = row_of Expression refl (omega arith) rest in sequence (has ∙ ap (λ ns. Some (node.Sequence (suc n ∷ ns))) (numbers_of r)) t r.row
closes of_if no_more e has = absurd (cc)
closes of_if (also _ no_more) e has = absurd (cc)
closes of_if (also _ (also _ no_more)) e has = absurd (cc)
closes of_if (also (a_tree t0) (also (a_tree t1) (also (a_tree t2) no_more))) e has = choice has t0 t1 t2
closes of_if (also _ (also _ (also _ (also x _)))) e has = elim x [ ]
closes of_escape no_more e has = absurd (cc)
closes of_escape (also _ no_more) e has = absurd (cc)
closes of_escape (also (a_tree t0) (also (a_tree t1) no_more)) e has = escape has t0 t1
closes of_escape (also _ (also _ (also _ no_more))) e has = absurd (cc)
closes of_escape (also (a_tree t0) (also (a_tree t1) (also (a_tree t2) (also (a_tree t3) no_more)))) e has = escape_catch has t0 t1 t2 t3
closes of_escape (also _ (also _ (also _ (also _ (also x _))))) e has = elim x [ ]
closes of_try no_more e has = absurd (cc)
closes of_try (also _ no_more) e has = absurd (cc)
closes of_try (also _ (also _ no_more)) e has = absurd (cc)
closes of_try (also (a_tree t0) (also (a_tree t1) (also (a_tree t2) no_more))) e has = try_catch has t0 t1 t2
closes of_try (also _ (also _ (also _ (also x _)))) e has = elim x [ ]
closes of_finally no_more e has = absurd (cc)
closes of_finally (also _ no_more) e has = absurd (cc)
closes of_finally (also (a_tree t0) (also (a_tree t1) no_more)) e has = finally has t0 t1
closes of_finally (also _ (also _ (also x _))) e has = elim x [ ]
closes of_hide no_more e has = absurd (cc)
closes of_hide (also (a_tree t0) no_more) e has = hide has t0
closes of_hide (also _ (also x _)) e has = elim x [ ]
closes of_match no_more e has = absurd (cc)
closes of_match (also _ no_more) e has = absurd (cc)
closes of_match (also (a_tree t0) (also (a_tree t1) no_more)) e has = match_bind has t0 t1
closes of_match (also _ (also _ (also x _))) e has = elim x [ ]
closes of_object no_more e has = absurd (cc)
closes of_object (also _ no_more) e has = absurd (cc)
closes {n = n} of_object (also (a_tree t) (also (a_group {starts = auditors} g) rest)) e has =
    let r = row_of Member refl (omega arith) rest in object (has ∙ ap (λ ns. Some (node.Object (suc n) auditors ns)) (numbers_of r)) t g r.row
closes of_method no_more e has = absurd (cc)
closes of_method (also _ no_more) e has = absurd (cc)
closes of_method (also _ (also _ no_more)) e has = absurd (cc)
closes of_method (also (a_verb v0) (also (a_group g1) (also (a_tree t2) no_more))) e has = method has v0 g1 t2
closes of_method (also _ (also _ (also _ (also x _)))) e has = elim x [ ]
closes of_matcher no_more e has = absurd (cc)
closes of_matcher (also _ no_more) e has = absurd (cc)
closes of_matcher (also (a_tree t0) (also (a_tree t1) no_more)) e has = matcher has t0 t1
closes of_matcher (also _ (also _ (also x _))) e has = elim x [ ]
closes of_final no_more e has = absurd (cc)
closes of_final (also (a_name n0) no_more) e has = final has n0
closes of_final (also (a_name n0) (also (a_tree t1) no_more)) e has = final_guarded has n0 t1
closes of_final (also _ (also _ (also x _))) e has = elim x [ ]
closes of_var no_more e has = absurd (cc)
closes of_var (also (a_name n0) no_more) e has = variable has n0
closes of_var (also (a_name n0) (also (a_tree t1) no_more)) e has = variable_guarded has n0 t1
closes of_var (also _ (also _ (also x _))) e has = elim x [ ]
closes of_any no_more e has = any has
closes of_any (also (a_tree t0) no_more) e has = any_guarded has t0
closes of_any (also _ (also x _)) e has = elim x [ ]
closes of_list rest e has =
    let r = row_of Pattern refl (omega arith) rest in list (has ∙ ap (λ ns. Some (node.ListPattern ns)) (numbers_of r)) r.row
closes of_via no_more e has = absurd (cc)
closes of_via (also _ no_more) e has = absurd (cc)
closes of_via (also (a_tree t0) (also (a_tree t1) no_more)) e has = via has t0 t1
closes of_via (also _ (also _ (also x _))) e has = elim x [ ]
closes of_final_name no_more e has = absurd (cc)
closes of_final_name (also (a_name n0) no_more) e has = named has n0
closes of_final_name (also _ (also x _)) e has = elim x [ ]
closes of_no_name no_more e has = unnamed has
closes of_no_name (also x _) e has = elim x [ ]

-- the words of trees alone
row_words : (form : ℕ → List ℕ) (starts : List ℕ) → map (item_text form) (map ANode starts) ≡ map form starts
row_words form [] = refl
row_words form (n ∷ starts) = ap (λ ws. form n ∷ ws) (row_words form starts)

row_text : {nodes : List Node} {items : List Item} {kind : Kind} {a m : ℕ} (form : ℕ → List ℕ) (r : RowOf nodes items kind a m) → map form (numbers items) ≡ map (item_text form) items
row_text form r = ap (map form) (numbers_of r) ∙ sym (row_words form r.starts) ∙ sym (ap (map (item_text form)) r.are)

-- a name is printed as it is
name_prints : {w : List ℕ} → IsName w → w ≡ printed_verb w
name_prints {w = w} is = sym (ap (λ b. cond b w (quoted w)) is.is_one)

-- what is written of the node of a form's items
pub written_words : {nodes : List Node} {kind : Kind} {shape : Head} {items : List Item} {n m : ℕ} (form : ℕ → List ℕ) → Of kind shape → Fits nodes shape 0 items n m → ends shape (length items) ≡ true
    → written form (node_of shape items) ≡ inner_words shape (map (item_text form) items)
written_words form of_lit no_more e = absurd (cc)
written_words form of_lit (also (a_literal l0) no_more) e = refl
written_words form of_lit (also _ (also x _)) e = elim x [ ]
written_words form of_noun no_more e = absurd (cc)
written_words form of_noun (also (a_name n0) no_more) e = ap (λ w. codes "noun" ∷ w ∷ []) (name_prints n0)
written_words form of_noun (also _ (also x _)) e = elim x [ ]
written_words form of_set no_more e = absurd (cc)
written_words form of_set (also _ no_more) e = absurd (cc)
written_words form of_set (also (a_name n0) (also (a_tree {a = n1} _) no_more)) e = ap (λ w. codes "set" ∷ w ∷ form n1 ∷ []) (name_prints n0)
written_words form of_set (also _ (also _ (also x _))) e = elim x [ ]
written_words form of_def no_more e = absurd (cc)
written_words form of_def (also _ no_more) e = absurd (cc)
written_words form of_def (also (a_tree t0) (also (a_tree t1) no_more)) e = refl
written_words form of_def (also _ (also _ (also x _))) e = elim x [ ]
written_words form of_def_exit no_more e = absurd (cc)
written_words form of_def_exit (also _ no_more) e = absurd (cc)
written_words form of_def_exit (also _ (also _ no_more)) e = absurd (cc)
written_words form of_def_exit (also (a_tree t0) (also (a_tree t1) (also (a_tree t2) no_more))) e = refl
written_words form of_def_exit (also _ (also _ (also _ (also x _)))) e = elim x [ ]
written_words form of_call no_more e = absurd (cc)
written_words form of_call (also _ no_more) e = absurd (cc)
written_words form of_call (also (a_tree {a = a} t) (also (a_verb {w = verb} v) rest)) e =
    ap (λ ws. codes "call" ∷ form a ∷ printed_verb verb ∷ ws) (row_text form (row_of Expression refl (omega arith) rest))
written_words form of_seq no_more e = absurd (cc)
written_words form of_seq (also (a_tree {a = a} t) rest) e = ap (λ ws. codes "seq" ∷ form a ∷ ws) (row_text form (row_of Expression refl (omega arith) rest))
written_words form of_if no_more e = absurd (cc)
written_words form of_if (also _ no_more) e = absurd (cc)
written_words form of_if (also _ (also _ no_more)) e = absurd (cc)
written_words form of_if (also (a_tree t0) (also (a_tree t1) (also (a_tree t2) no_more))) e = refl
written_words form of_if (also _ (also _ (also _ (also x _)))) e = elim x [ ]
written_words form of_escape no_more e = absurd (cc)
written_words form of_escape (also _ no_more) e = absurd (cc)
written_words form of_escape (also (a_tree t0) (also (a_tree t1) no_more)) e = refl
written_words form of_escape (also _ (also _ (also _ no_more))) e = absurd (cc)
written_words form of_escape (also (a_tree t0) (also (a_tree t1) (also (a_tree t2) (also (a_tree t3) no_more)))) e = refl
written_words form of_escape (also _ (also _ (also _ (also _ (also x _))))) e = elim x [ ]
written_words form of_try no_more e = absurd (cc)
written_words form of_try (also _ no_more) e = absurd (cc)
written_words form of_try (also _ (also _ no_more)) e = absurd (cc)
written_words form of_try (also (a_tree t0) (also (a_tree t1) (also (a_tree t2) no_more))) e = refl
written_words form of_try (also _ (also _ (also _ (also x _)))) e = elim x [ ]
written_words form of_finally no_more e = absurd (cc)
written_words form of_finally (also _ no_more) e = absurd (cc)
written_words form of_finally (also (a_tree t0) (also (a_tree t1) no_more)) e = refl
written_words form of_finally (also _ (also _ (also x _))) e = elim x [ ]
written_words form of_hide no_more e = absurd (cc)
written_words form of_hide (also (a_tree t0) no_more) e = refl
written_words form of_hide (also _ (also x _)) e = elim x [ ]
written_words form of_match no_more e = absurd (cc)
written_words form of_match (also _ no_more) e = absurd (cc)
written_words form of_match (also (a_tree t0) (also (a_tree t1) no_more)) e = refl
written_words form of_match (also _ (also _ (also x _))) e = elim x [ ]
written_words form of_object no_more e = absurd (cc)
written_words form of_object (also _ no_more) e = absurd (cc)
written_words form of_object (also (a_tree {a = a} t) (also (a_group {starts = auditors} g) rest)) e =
    ap (λ ws. codes "object" ∷ form a ∷ enclosed (map form auditors) ∷ ws) (row_text form (row_of Member refl (omega arith) rest))
written_words form of_method no_more e = absurd (cc)
written_words form of_method (also _ no_more) e = absurd (cc)
written_words form of_method (also _ (also _ no_more)) e = absurd (cc)
written_words form of_method (also (a_verb v0) (also (a_group g1) (also (a_tree t2) no_more))) e = refl
written_words form of_method (also _ (also _ (also _ (also x _)))) e = elim x [ ]
written_words form of_matcher no_more e = absurd (cc)
written_words form of_matcher (also _ no_more) e = absurd (cc)
written_words form of_matcher (also (a_tree t0) (also (a_tree t1) no_more)) e = refl
written_words form of_matcher (also _ (also _ (also x _))) e = elim x [ ]
written_words form of_final no_more e = absurd (cc)
written_words form of_final (also (a_name n0) no_more) e = ap (λ w. codes "final" ∷ w ∷ []) (name_prints n0)
written_words form of_final (also (a_name n0) (also (a_tree {a = n1} _) no_more)) e = ap (λ w. codes "final" ∷ w ∷ form n1 ∷ []) (name_prints n0)
written_words form of_final (also _ (also _ (also x _))) e = elim x [ ]
written_words form of_var no_more e = absurd (cc)
written_words form of_var (also (a_name n0) no_more) e = ap (λ w. codes "var" ∷ w ∷ []) (name_prints n0)
written_words form of_var (also (a_name n0) (also (a_tree {a = n1} _) no_more)) e = ap (λ w. codes "var" ∷ w ∷ form n1 ∷ []) (name_prints n0)
written_words form of_var (also _ (also _ (also x _))) e = elim x [ ]
written_words form of_any no_more e = refl
written_words form of_any (also (a_tree t0) no_more) e = refl
written_words form of_any (also _ (also x _)) e = elim x [ ]
written_words form of_list rest e = ap (λ ws. codes "list" ∷ ws) (row_text form (row_of Pattern refl (omega arith) rest))
written_words form of_via no_more e = absurd (cc)
written_words form of_via (also _ no_more) e = absurd (cc)
written_words form of_via (also (a_tree t0) (also (a_tree t1) no_more)) e = refl
written_words form of_via (also _ (also _ (also x _))) e = elim x [ ]
written_words form of_final_name no_more e = absurd (cc)
written_words form of_final_name (also (a_name n0) no_more) e = ap (λ w. codes "final" ∷ w ∷ []) (name_prints n0)
written_words form of_final_name (also _ (also x _)) e = elim x [ ]
written_words form of_no_name no_more e = refl
written_words form of_no_name (also x _) e = elim x [ ]

-- trees between brackets
pub closes_row : {nodes : List Node} {kind : Kind} {items : List Item} {a m : ℕ} → Fits nodes (head.Group kind) 0 items a m → Row nodes kind (numbers items) a m
closes_row {nodes = nodes} {kind = kind} {a = a} {m = m} fits =
    let r = row_of kind refl (omega arith) fits in subst (λ ns. Row nodes kind ns a m) (sym (numbers_of r)) r.row

-- and their text
pub group_words : {nodes : List Node} {kind : Kind} {items : List Item} {a m : ℕ} (form : ℕ → List ℕ) → Fits nodes (head.Group kind) 0 items a m → map (item_text form) items ≡ map form (numbers items)
group_words {kind = kind} form fits = sym (row_text form (row_of kind refl (omega arith) fits))

-- what a form begins with
pub first_words : {kind : Kind} {shape : Head} → Of kind shape → spaced (inner_words shape []) ≡ word shape
first_words of_lit = refl
first_words of_noun = refl
first_words of_set = refl
first_words of_def = refl
first_words of_call = refl
first_words of_seq = refl
first_words of_if = refl
first_words of_escape = refl
first_words of_try = refl
first_words of_finally = refl
first_words of_hide = refl
first_words of_match = refl
first_words of_object = refl
first_words of_final = refl
first_words of_var = refl
first_words of_any = refl
first_words of_list = refl
first_words of_via = refl
first_words of_method = refl
first_words of_matcher = refl
first_words of_final_name = refl
first_words of_no_name = refl
first_words of_def_exit = refl

pub first_gap : {kind : Kind} {shape : Head} → Of kind shape → gap_behind (inner_words shape []) ≡ 32 ∷ []
first_gap of_lit = refl
first_gap of_noun = refl
first_gap of_set = refl
first_gap of_def = refl
first_gap of_call = refl
first_gap of_seq = refl
first_gap of_if = refl
first_gap of_escape = refl
first_gap of_try = refl
first_gap of_finally = refl
first_gap of_hide = refl
first_gap of_match = refl
first_gap of_object = refl
first_gap of_final = refl
first_gap of_var = refl
first_gap of_any = refl
first_gap of_list = refl
first_gap of_via = refl
first_gap of_method = refl
first_gap of_matcher = refl
first_gap of_final_name = refl
first_gap of_no_name = refl
first_gap of_def_exit = refl
