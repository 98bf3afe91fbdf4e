-- A tree's form is read as its nodes, by what the tree is.
use Rattle.std.proofs.Common.{ℕ, suc, List, ◌∷◌, Some, None, refl, ap, arith}
use Rattle.def_kernel.specs.declared.node.Node.{Node}
use Rattle.def_kernel.specs.declared.node.Node.TheVariants as node
use Rattle.def_kernel.specs.declared.shape.Kind.{Kind}
use Rattle.def_kernel.specs.declared.shape.Kind.TheVariants.{Expression, Pattern, Member}
use Rattle.def_kernel.specs.declared.shape.Head.TheVariants as head
use Rattle.def_kernel.specs.Trees.{Tree, Row, literal, noun, set, def, def_exit, call, sequence, choice, escape, escape_catch, try_catch, finally, hide, match_bind, object, method, matcher, final, final_guarded, variable, variable_guarded, any, any_guarded, list, via, named, unnamed, none, one_more}
use Rattle.law_kernel_form.proofs.Heads.{begins_lit, begins_noun, begins_set, begins_def, begins_call, begins_seq, begins_if, begins_escape, begins_try, begins_finally, begins_hide, begins_match, begins_object, begins_final, begins_var, begins_any, begins_list_head, begins_via, begins_method, begins_matcher, begins_final_name, begins_no_name}
use Rattle.law_kernel_form.proofs.Going.{TreeRead, begin, then_tree, then_exit, node_read, wants_more, may_end}
use Rattle.law_kernel_form.proofs.Groups.{RowRead, then_row, then_group, empty_row, longer_row, numbers_are}
use Rattle.law_kernel_form.proofs.Names.{then_name}
use Rattle.law_kernel_form.proofs.Verbs.{then_verb}
use Rattle.law_kernel_form.proofs.Literals.{then_literal}

mutual
  pub tree_read : {nodes : List Node} {kind : Kind} {n m : ℕ} → Tree nodes kind n m → TreeRead nodes kind n m
  tree_read (literal {l = l} has is) = node_read (node.Lit l) has begins_lit (then_literal l (begin _ _ head.Lit) is refl refl) (λ _ _. refl) refl refl (λ _. refl)
  tree_read (noun {name = name} has is) = node_read (node.Noun name) has begins_noun (then_name (begin _ _ head.Noun) is refl refl) (λ _ _. refl) refl refl (λ _. refl)
  tree_read (set {n = n} {name = name} has is e) = node_read (node.Set name (suc n)) has begins_set (then_tree (then_name (begin _ _ head.Set) is refl refl) (tree_read e) refl) (λ _ _. refl) refl refl (λ _. refl)
  tree_read (def {n = n} {a = a} has p e) = node_read (node.Def (suc n) None a) has begins_def (then_tree (then_tree (begin _ _ head.Def) (tree_read p) refl) (tree_read e) refl) (λ _ _. refl) refl refl (λ _. refl)
  tree_read (def_exit {n = n} {a = a} {b = b} has p j e) = node_read (node.Def (suc n) (Some a) b) has begins_def (then_tree (then_tree (then_exit (then_tree (begin _ _ head.Def) (tree_read p) refl)) (tree_read j) refl) (tree_read e) refl) (λ _ _. refl) refl refl (λ _. refl)
  tree_read (call {n = n} {verb = verb} {args = args} has is r es) = node_read (node.Call (suc n) verb args) has begins_call
      (then_row (then_verb (then_tree (begin _ _ head.Call) (tree_read r) refl) is refl refl) (row_read es) (λ k e. wants_more head.Call Expression k refl e))
      (λ _ _. refl) (may_end head.Call Expression _ refl (omega arith)) (ap (λ ns. node.Call (suc n) verb ns) (numbers_are args)) (λ _. refl)
  tree_read (sequence {n = n} {more = more} has e es) = node_read (node.Sequence (suc n ∷ more)) has begins_seq
      (then_row (then_tree (begin _ _ head.Seq) (tree_read e) refl) (row_read es) (λ k e. wants_more head.Seq Expression k refl e))
      (λ _ _. refl) (may_end head.Seq Expression _ refl (omega arith)) (ap (λ ns. node.Sequence (suc n ∷ ns)) (numbers_are more)) (λ _. refl)
  tree_read (choice {n = n} {a = a} {b = b} has t e f) = node_read (node.If (suc n) a b) has begins_if (then_tree (then_tree (then_tree (begin _ _ head.If) (tree_read t) refl) (tree_read e) refl) (tree_read f) refl) (λ _ _. refl) refl refl (λ _. refl)
  tree_read (escape {n = n} {a = a} has p e) = node_read (node.Escape (suc n) a None) has begins_escape (then_tree (then_tree (begin _ _ head.Escape) (tree_read p) refl) (tree_read e) refl) (λ _ _. refl) refl refl (λ _. refl)
  tree_read (escape_catch {n = n} {a = a} {b = b} {c = c} has p e q f) = node_read (node.Escape (suc n) a (Some (b, c))) has begins_escape (then_tree (then_tree (then_tree (then_tree (begin _ _ head.Escape) (tree_read p) refl) (tree_read e) refl) (tree_read q) refl) (tree_read f) refl) (λ _ _. refl) refl refl (λ _. refl)
  tree_read (try_catch {n = n} {a = a} {b = b} has e p h) = node_read (node.Try (suc n) a b) has begins_try (then_tree (then_tree (then_tree (begin _ _ head.Try) (tree_read e) refl) (tree_read p) refl) (tree_read h) refl) (λ _ _. refl) refl refl (λ _. refl)
  tree_read (finally {n = n} {a = a} has e f) = node_read (node.Finally (suc n) a) has begins_finally (then_tree (then_tree (begin _ _ head.Finally) (tree_read e) refl) (tree_read f) refl) (λ _ _. refl) refl refl (λ _. refl)
  tree_read (hide {n = n} has e) = node_read (node.Hide (suc n)) has begins_hide (then_tree (begin _ _ head.Hide) (tree_read e) refl) (λ _ _. refl) refl refl (λ _. refl)
  tree_read (match_bind {n = n} {a = a} has e p) = node_read (node.MatchBind (suc n) a) has begins_match (then_tree (then_tree (begin _ _ head.Match) (tree_read e) refl) (tree_read p) refl) (λ _ _. refl) refl refl (λ _. refl)
  tree_read (object {n = n} {auditors = auditors} {members = members} has p es ms) = node_read (node.Object (suc n) auditors members) has begins_object
      (then_row (then_group (then_tree (begin _ _ head.Object) (tree_read p) refl) (row_read es) refl) (row_read ms) (λ k e. wants_more head.Object Member k refl e))
      (λ _ _. refl) (may_end head.Object Member _ refl (omega arith)) (ap (λ ns. node.Object (suc n) auditors ns) (numbers_are members)) (λ _. refl)
  tree_read (method {a = a} {verb = verb} {patterns = patterns} has is ps e) = node_read (node.Method verb patterns a) has begins_method
      (then_tree (then_group (then_verb (begin _ _ head.Method) is refl refl) (row_read ps) refl) (tree_read e) refl) (λ _ _. refl) refl refl (λ _. refl)
  tree_read (matcher {n = n} {a = a} has p e) = node_read (node.Matcher (suc n) a) has begins_matcher (then_tree (then_tree (begin _ _ head.Matcher) (tree_read p) refl) (tree_read e) refl) (λ _ _. refl) refl refl (λ _. refl)
  tree_read (final {name = name} has is) = node_read (node.Final name None) has begins_final (then_name (begin _ _ head.Final) is refl refl) (λ _ _. refl) refl refl (λ _. refl)
  tree_read (final_guarded {n = n} {name = name} has is g) = node_read (node.Final name (Some (suc n))) has begins_final (then_tree (then_name (begin _ _ head.Final) is refl refl) (tree_read g) refl) (λ _ _. refl) refl refl (λ _. refl)
  tree_read (variable {name = name} has is) = node_read (node.Var name None) has begins_var (then_name (begin _ _ head.Var) is refl refl) (λ _ _. refl) refl refl (λ _. refl)
  tree_read (variable_guarded {n = n} {name = name} has is g) = node_read (node.Var name (Some (suc n))) has begins_var (then_tree (then_name (begin _ _ head.Var) is refl refl) (tree_read g) refl) (λ _ _. refl) refl refl (λ _. refl)
  tree_read (any has) = node_read (node.Any None) has begins_any (begin _ _ head.Any) (λ _ _. refl) refl refl (λ _. refl)
  tree_read (any_guarded {n = n} has g) = node_read (node.Any (Some (suc n))) has begins_any (then_tree (begin _ _ head.Any) (tree_read g) refl) (λ _ _. refl) refl refl (λ _. refl)
  tree_read (list {patterns = patterns} has ps) = node_read (node.ListPattern patterns) has begins_list_head
      (then_row (begin _ _ head.List) (row_read ps) (λ k e. wants_more head.List Pattern k refl e))
      (λ _ _. refl) (may_end head.List Pattern _ refl (omega arith)) (ap (λ ns. node.ListPattern ns) (numbers_are patterns)) (λ _. refl)
  tree_read (via {n = n} {a = a} has e p) = node_read (node.Via (suc n) a) has begins_via (then_tree (then_tree (begin _ _ head.Via) (tree_read e) refl) (tree_read p) refl) (λ _ _. refl) refl refl (λ _. refl)
  tree_read (named {name = name} has is) = node_read (node.Final name None) has begins_final_name (then_name (begin _ _ head.FinalName) is refl refl) (λ _ _. refl) refl refl (λ _. refl)
  tree_read (unnamed has) = node_read (node.Any None) has begins_no_name (begin _ _ head.NoName) (λ _ _. refl) refl refl (λ _. refl)

  pub row_read : {nodes : List Node} {kind : Kind} {starts : List ℕ} {n m : ℕ} → Row nodes kind starts n m → RowRead nodes kind starts n m
  row_read none = empty_row _ _ _
  row_read (one_more t ts) = longer_row (tree_read t) (row_read ts)
