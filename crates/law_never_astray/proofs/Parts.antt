-- What a formed node has for parts.
use Rattle.std.proofs.Common.{◌≡◌, ℕ, zero, suc, ◌+◌, ◌≤◌, List, [], ◌∷◌, Option, Some, None, subst, length, arith}
use Rattle.def_machine.specs.State.{WhereSome}
use Rattle.def_kernel.specs.declared.node.Node.{Node}
use Rattle.def_kernel.specs.declared.node.Node.TheVariants.{Lit, Noun, Set, Def, Call, Sequence, If, Escape, Try, Finally, Hide, MatchBind, Object, Method, Matcher, Final, Var, Any, ListPattern, Via}
use Rattle.def_kernel.specs.declared.shape.Kind.{Kind}
use Rattle.def_kernel.specs.declared.shape.Kind.TheVariants.{Expression, Pattern, Member, Naming}
use Rattle.def_kernel.specs.Trees.{Has, Tree, Row, literal, noun, set, def, def_exit, call, sequence, choice, escape, escape_catch, try_catch, finally, hide, match_bind, object, method, matcher, final, final_guarded, variable, variable_guarded, any, any_guarded, list, via, named, unnamed, none}
use Rattle.def_kernel.specs.Trees as trees
use Rattle.law_never_astray.proofs.AcceptedTrees.{tree_ends, row_ends}
use Rattle.law_never_astray.specs.Formed.{AllOf, FormedBy, FormedWithin, Formed}

pub all_map : {A : Type 0} {P Q : A → Type 0} → ((x : A) → P x → Q x) → (xs : List A) → AllOf P xs → AllOf Q xs
all_map f [] h = tt
all_map f (x ∷ xs) h = (f x h.0, all_map f xs h.1)

some_map : {A : Type 0} (P Q : A → Type 0) → ((a : A) → P a → Q a) → (o : Option A) → WhereSome P o → WhereSome Q o
some_map P Q f (Some a) h = f a h
some_map P Q f None h = tt

module _ {P Q : Kind → ℕ → Type 0} (f : (kind : Kind) (n : ℕ) → P kind n → Q kind n) where
  formed_map : (kind : Kind) (node : Node) → FormedBy P kind node → FormedBy Q kind node
  formed_map Expression (Lit l) h = tt
  formed_map Expression (Noun x) h = tt
  formed_map Expression (Set x e) h = f Expression e h
  formed_map Expression (Def p exit e) h = (f Pattern p h.0, some_map (P Expression) (Q Expression) (f Expression) exit h.1, f Expression e h.2)
  formed_map Expression (Call r verb args) h = (f Expression r h.0, all_map (f Expression) args h.1)
  formed_map Expression (Sequence parts) h = all_map (f Expression) parts h
  formed_map Expression (If a b c) h = (f Expression a h.0, f Expression b h.1, f Expression c h.2)
  formed_map Expression (Escape p b c) h = (f Pattern p h.0, f Expression b h.1, some_map _ _ (λ (caught : ℕ × ℕ) k. (f Pattern caught.0 k.0, f Expression caught.1 k.1)) c h.2)
  formed_map Expression (Try b p t) h = (f Expression b h.0, f Pattern p h.1, f Expression t h.2)
  formed_map Expression (Finally a b) h = (f Expression a h.0, f Expression b h.1)
  formed_map Expression (Hide e) h = f Expression e h
  formed_map Expression (MatchBind e p) h = (f Expression e h.0, f Pattern p h.1)
  formed_map Expression (Object p auditors members) h = (f Naming p h.0, all_map (f Expression) auditors h.1, all_map (f Member) members h.2)
  formed_map Member (Method verb patterns b) h = (all_map (f Pattern) patterns h.0, f Expression b h.1)
  formed_map Member (Matcher p b) h = (f Pattern p h.0, f Expression b h.1)
  formed_map Pattern (Final x g) h = some_map (P Expression) (Q Expression) (f Expression) g h
  formed_map Pattern (Var x g) h = some_map (P Expression) (Q Expression) (f Expression) g h
  formed_map Pattern (Any g) h = some_map (P Expression) (Q Expression) (f Expression) g h
  formed_map Pattern (ListPattern patterns) h = all_map (f Pattern) patterns h
  formed_map Pattern (Via e p) h = (f Expression e h.0, f Pattern p h.1)
  formed_map Naming (Final x None) h = tt
  formed_map Naming (Any None) h = tt
  formed_map kind node h = absurd h

module _ (tree : List Node) where
  -- every greater height will do
  within_up : (h : ℕ) (kind : Kind) (n : ℕ) → FormedWithin tree h kind n → FormedWithin tree (suc h) kind n
  within_up zero kind n f = absurd f
  within_up (suc h) kind n f = (f.0, f.1, formed_map (within_up h) kind f.0 f.2)

  -- the node that has this number has the parts
  pub within_parts : (h : ℕ) (kind : Kind) (n : ℕ) (node : Node) → FormedWithin tree (suc h) kind n → Has tree n node → FormedBy (FormedWithin tree h) kind node
  within_parts h kind n node f e = let same : f.0 ≡ node = (let i = f.1 in cc) in subst (λ x. FormedBy (FormedWithin tree h) kind x) same f.2

  parts_at : (h : ℕ) (kind : Kind) (n : ℕ) (node : Node) → FormedWithin tree h kind n → Has tree n node → FormedBy (FormedWithin tree h) kind node
  parts_at zero kind n node f e = absurd f
  parts_at (suc h) kind n node f e = formed_map (within_up h) kind node (within_parts h kind n node f e)

  pub formed_parts : (kind : Kind) (n : ℕ) (node : Node) → Formed tree kind n → Has tree n node → FormedBy (Formed tree) kind node
  formed_parts kind n node f e = parts_at (length tree) kind n node f e

  formed_at : (h : ℕ) (kind : Kind) (n : ℕ) → FormedWithin tree h kind n → (node : Node) × Has tree n node
  formed_at zero kind n f = absurd f
  formed_at (suc h) kind n f = (f.0, f.1)

  pub formed_node : (kind : Kind) (n : ℕ) → Formed tree kind n → (node : Node) × Has tree n node
  formed_node kind n f = formed_at (length tree) kind n f

-- ---- the parts of a node of whatever kind

module _ (P : Kind → ℕ → Type 0) where
  set_parts : (kind : Kind) (x : List ℕ) (e : ℕ) → FormedBy P kind (Set x e) → P Expression e
  set_parts Expression x e h = h
  set_parts _ x e h = absurd h

  def_parts : (kind : Kind) (p : ℕ) (exit : Option ℕ) (e : ℕ) → FormedBy P kind (Def p exit e) → P Pattern p × WhereSome (P Expression) exit × P Expression e
  def_parts Expression p exit e h = h
  def_parts _ p exit e h = absurd h

  call_parts : (kind : Kind) (r : ℕ) (verb args : List ℕ) → FormedBy P kind (Call r verb args) → P Expression r × AllOf (P Expression) args
  call_parts Expression r verb args h = h
  call_parts _ r verb args h = absurd h

  sequence_parts : (kind : Kind) (parts : List ℕ) → FormedBy P kind (Sequence parts) → AllOf (P Expression) parts
  sequence_parts Expression parts h = h
  sequence_parts _ parts h = absurd h

  choice_parts : (kind : Kind) (a b c : ℕ) → FormedBy P kind (If a b c) → P Expression a × P Expression b × P Expression c
  choice_parts Expression a b c h = h
  choice_parts _ a b c h = absurd h

  escape_parts : (kind : Kind) (p b : ℕ) (c : Option (ℕ × ℕ)) → FormedBy P kind (Escape p b c) → P Pattern p × P Expression b × WhereSome (λ (caught : ℕ × ℕ). P Pattern caught.0 × P Expression caught.1) c
  escape_parts Expression p b c h = h
  escape_parts _ p b c h = absurd h

  try_parts : (kind : Kind) (b p t : ℕ) → FormedBy P kind (Try b p t) → P Expression b × P Pattern p × P Expression t
  try_parts Expression b p t h = h
  try_parts _ b p t h = absurd h

  finally_parts : (kind : Kind) (a b : ℕ) → FormedBy P kind (Finally a b) → P Expression a × P Expression b
  finally_parts Expression a b h = h
  finally_parts _ a b h = absurd h

  hide_parts : (kind : Kind) (e : ℕ) → FormedBy P kind (Hide e) → P Expression e
  hide_parts Expression e h = h
  hide_parts _ e h = absurd h

  match_parts : (kind : Kind) (e p : ℕ) → FormedBy P kind (MatchBind e p) → P Expression e × P Pattern p
  match_parts Expression e p h = h
  match_parts _ e p h = absurd h

  object_parts : (kind : Kind) (p : ℕ) (auditors members : List ℕ) → FormedBy P kind (Object p auditors members) → P Naming p × AllOf (P Expression) auditors × AllOf (P Member) members
  object_parts Expression p auditors members h = h
  object_parts _ p auditors members h = absurd h

  method_parts : (kind : Kind) (verb patterns : List ℕ) (b : ℕ) → FormedBy P kind (Method verb patterns b) → AllOf (P Pattern) patterns × P Expression b
  method_parts Member verb patterns b h = h
  method_parts _ verb patterns b h = absurd h

  matcher_parts : (kind : Kind) (p b : ℕ) → FormedBy P kind (Matcher p b) → P Pattern p × P Expression b
  matcher_parts Member p b h = h
  matcher_parts _ p b h = absurd h

  final_parts : (kind : Kind) (x : List ℕ) (g : Option ℕ) → FormedBy P kind (Final x g) → WhereSome (P Expression) g
  final_parts Pattern x g h = h
  final_parts Naming x None h = tt
  final_parts Naming x (Some g) h = absurd h
  final_parts other x g h = absurd h

  var_parts : (kind : Kind) (x : List ℕ) (g : Option ℕ) → FormedBy P kind (Var x g) → WhereSome (P Expression) g
  var_parts Pattern x g h = h
  var_parts _ x g h = absurd h

  any_parts : (kind : Kind) (g : Option ℕ) → FormedBy P kind (Any g) → WhereSome (P Expression) g
  any_parts Pattern g h = h
  any_parts Naming None h = tt
  any_parts Naming (Some g) h = absurd h
  any_parts other g h = absurd h

  list_parts : (kind : Kind) (patterns : List ℕ) → FormedBy P kind (ListPattern patterns) → AllOf (P Pattern) patterns
  list_parts Pattern patterns h = h
  list_parts _ patterns h = absurd h

  via_parts : (kind : Kind) (e p : ℕ) → FormedBy P kind (Via e p) → P Expression e × P Pattern p
  via_parts Pattern e p h = h
  via_parts _ e p h = absurd h

module _ (tree : List Node) where
  pub of_set : (h : ℕ) (kind : Kind) (n : ℕ) {x : List ℕ} {e : ℕ} → FormedWithin tree (suc h) kind n → Has tree n (Set x e) → FormedWithin tree h Expression e
  of_set h kind n {x = x} {e = e} formed there = set_parts (FormedWithin tree h) kind x e (within_parts tree h kind n _ formed there)

  pub of_def : (h : ℕ) (kind : Kind) (n : ℕ) {p : ℕ} {exit : Option ℕ} {e : ℕ} → FormedWithin tree (suc h) kind n → Has tree n (Def p exit e) → FormedWithin tree h Pattern p × WhereSome (FormedWithin tree h Expression) exit × FormedWithin tree h Expression e
  of_def h kind n {p = p} {exit = exit} {e = e} formed there = def_parts (FormedWithin tree h) kind p exit e (within_parts tree h kind n _ formed there)

  pub of_call : (h : ℕ) (kind : Kind) (n : ℕ) {r : ℕ} {verb args : List ℕ} → FormedWithin tree (suc h) kind n → Has tree n (Call r verb args) → FormedWithin tree h Expression r × AllOf (FormedWithin tree h Expression) args
  of_call h kind n {r = r} {verb = verb} {args = args} formed there = call_parts (FormedWithin tree h) kind r verb args (within_parts tree h kind n _ formed there)

  pub of_sequence : (h : ℕ) (kind : Kind) (n : ℕ) {parts : List ℕ} → FormedWithin tree (suc h) kind n → Has tree n (Sequence parts) → AllOf (FormedWithin tree h Expression) parts
  of_sequence h kind n {parts = parts} formed there = sequence_parts (FormedWithin tree h) kind parts (within_parts tree h kind n _ formed there)

  pub of_choice : (h : ℕ) (kind : Kind) (n : ℕ) {a b c : ℕ} → FormedWithin tree (suc h) kind n → Has tree n (If a b c) → FormedWithin tree h Expression a × FormedWithin tree h Expression b × FormedWithin tree h Expression c
  of_choice h kind n {a = a} {b = b} {c = c} formed there = choice_parts (FormedWithin tree h) kind a b c (within_parts tree h kind n _ formed there)

  pub of_escape : (h : ℕ) (kind : Kind) (n : ℕ) {p b : ℕ} {c : Option (ℕ × ℕ)} → FormedWithin tree (suc h) kind n → Has tree n (Escape p b c) → FormedWithin tree h Pattern p × FormedWithin tree h Expression b × WhereSome (λ (caught : ℕ × ℕ). FormedWithin tree h Pattern caught.0 × FormedWithin tree h Expression caught.1) c
  of_escape h kind n {p = p} {b = b} {c = c} formed there = escape_parts (FormedWithin tree h) kind p b c (within_parts tree h kind n _ formed there)

  pub of_try : (h : ℕ) (kind : Kind) (n : ℕ) {b p t : ℕ} → FormedWithin tree (suc h) kind n → Has tree n (Try b p t) → FormedWithin tree h Expression b × FormedWithin tree h Pattern p × FormedWithin tree h Expression t
  of_try h kind n {b = b} {p = p} {t = t} formed there = try_parts (FormedWithin tree h) kind b p t (within_parts tree h kind n _ formed there)

  pub of_finally : (h : ℕ) (kind : Kind) (n : ℕ) {a b : ℕ} → FormedWithin tree (suc h) kind n → Has tree n (Finally a b) → FormedWithin tree h Expression a × FormedWithin tree h Expression b
  of_finally h kind n {a = a} {b = b} formed there = finally_parts (FormedWithin tree h) kind a b (within_parts tree h kind n _ formed there)

  pub of_hide : (h : ℕ) (kind : Kind) (n : ℕ) {e : ℕ} → FormedWithin tree (suc h) kind n → Has tree n (Hide e) → FormedWithin tree h Expression e
  of_hide h kind n {e = e} formed there = hide_parts (FormedWithin tree h) kind e (within_parts tree h kind n _ formed there)

  pub of_match : (h : ℕ) (kind : Kind) (n : ℕ) {e p : ℕ} → FormedWithin tree (suc h) kind n → Has tree n (MatchBind e p) → FormedWithin tree h Expression e × FormedWithin tree h Pattern p
  of_match h kind n {e = e} {p = p} formed there = match_parts (FormedWithin tree h) kind e p (within_parts tree h kind n _ formed there)

  pub of_object : (h : ℕ) (kind : Kind) (n : ℕ) {p : ℕ} {auditors members : List ℕ} → FormedWithin tree (suc h) kind n → Has tree n (Object p auditors members) → FormedWithin tree h Naming p × AllOf (FormedWithin tree h Expression) auditors × AllOf (FormedWithin tree h Member) members
  of_object h kind n {p = p} {auditors = auditors} {members = members} formed there = object_parts (FormedWithin tree h) kind p auditors members (within_parts tree h kind n _ formed there)

  pub of_method : (h : ℕ) (kind : Kind) (n : ℕ) {verb patterns : List ℕ} {b : ℕ} → FormedWithin tree (suc h) kind n → Has tree n (Method verb patterns b) → AllOf (FormedWithin tree h Pattern) patterns × FormedWithin tree h Expression b
  of_method h kind n {verb = verb} {patterns = patterns} {b = b} formed there = method_parts (FormedWithin tree h) kind verb patterns b (within_parts tree h kind n _ formed there)

  pub of_matcher : (h : ℕ) (kind : Kind) (n : ℕ) {p b : ℕ} → FormedWithin tree (suc h) kind n → Has tree n (Matcher p b) → FormedWithin tree h Pattern p × FormedWithin tree h Expression b
  of_matcher h kind n {p = p} {b = b} formed there = matcher_parts (FormedWithin tree h) kind p b (within_parts tree h kind n _ formed there)

  pub of_final : (h : ℕ) (kind : Kind) (n : ℕ) {x : List ℕ} {g : Option ℕ} → FormedWithin tree (suc h) kind n → Has tree n (Final x g) → WhereSome (FormedWithin tree h Expression) g
  of_final h kind n {x = x} {g = g} formed there = final_parts (FormedWithin tree h) kind x g (within_parts tree h kind n _ formed there)

  pub of_var : (h : ℕ) (kind : Kind) (n : ℕ) {x : List ℕ} {g : Option ℕ} → FormedWithin tree (suc h) kind n → Has tree n (Var x g) → WhereSome (FormedWithin tree h Expression) g
  of_var h kind n {x = x} {g = g} formed there = var_parts (FormedWithin tree h) kind x g (within_parts tree h kind n _ formed there)

  pub of_any : (h : ℕ) (kind : Kind) (n : ℕ) {g : Option ℕ} → FormedWithin tree (suc h) kind n → Has tree n (Any g) → WhereSome (FormedWithin tree h Expression) g
  of_any h kind n {g = g} formed there = any_parts (FormedWithin tree h) kind g (within_parts tree h kind n _ formed there)

  pub of_list : (h : ℕ) (kind : Kind) (n : ℕ) {patterns : List ℕ} → FormedWithin tree (suc h) kind n → Has tree n (ListPattern patterns) → AllOf (FormedWithin tree h Pattern) patterns
  of_list h kind n {patterns = patterns} formed there = list_parts (FormedWithin tree h) kind patterns (within_parts tree h kind n _ formed there)

  pub of_via : (h : ℕ) (kind : Kind) (n : ℕ) {e p : ℕ} → FormedWithin tree (suc h) kind n → Has tree n (Via e p) → FormedWithin tree h Expression e × FormedWithin tree h Pattern p
  of_via h kind n {e = e} {p = p} formed there = via_parts (FormedWithin tree h) kind e p (within_parts tree h kind n _ formed there)

-- ---- trees

mutual
  -- every height that the tree does not pass will do
  pub tree_formed : (nodes : List Node) (kind : Kind) (n m : ℕ) → Tree nodes kind n m → (h : ℕ) → m ≤ n + h → FormedWithin nodes h kind n
  tree_formed nodes kind n m t zero l = let x = tree_ends nodes kind n m t in absurd (omega arith)
  tree_formed nodes kind n m (literal e i) (suc h) l = (_, e, tt)
  tree_formed nodes kind n m (noun e i) (suc h) l = (_, e, tt)
  tree_formed nodes kind n m (set e i a) (suc h) l = (_, e, tree_formed nodes _ _ _ a h (omega arith))
  tree_formed nodes kind n m (def e a b) (suc h) l = let x = tree_ends nodes _ _ _ a in let y = tree_ends nodes _ _ _ b in
      (_, e, (tree_formed nodes _ _ _ a h (omega arith), tt, tree_formed nodes _ _ _ b h (omega arith)))
  tree_formed nodes kind n m (def_exit e a b c) (suc h) l = let x = tree_ends nodes _ _ _ a in let y = tree_ends nodes _ _ _ b in let z = tree_ends nodes _ _ _ c in
      (_, e, (tree_formed nodes _ _ _ a h (omega arith), tree_formed nodes _ _ _ b h (omega arith), tree_formed nodes _ _ _ c h (omega arith)))
  tree_formed nodes kind n m (call e i a r) (suc h) l = let x = tree_ends nodes _ _ _ a in let y = row_ends nodes _ _ _ _ r in
      (_, e, (tree_formed nodes _ _ _ a h (omega arith), row_formed nodes _ _ _ _ r h (omega arith)))
  tree_formed nodes kind n m (sequence e a r) (suc h) l = let x = tree_ends nodes _ _ _ a in let y = row_ends nodes _ _ _ _ r in
      (_, e, (tree_formed nodes _ _ _ a h (omega arith), row_formed nodes _ _ _ _ r h (omega arith)))
  tree_formed nodes kind n m (choice e a b c) (suc h) l = let x = tree_ends nodes _ _ _ a in let y = tree_ends nodes _ _ _ b in let z = tree_ends nodes _ _ _ c in
      (_, e, (tree_formed nodes _ _ _ a h (omega arith), tree_formed nodes _ _ _ b h (omega arith), tree_formed nodes _ _ _ c h (omega arith)))
  tree_formed nodes kind n m (escape e a b) (suc h) l = let x = tree_ends nodes _ _ _ a in let y = tree_ends nodes _ _ _ b in
      (_, e, (tree_formed nodes _ _ _ a h (omega arith), tree_formed nodes _ _ _ b h (omega arith), tt))
  tree_formed nodes kind n m (escape_catch e a b c d) (suc h) l = let x = tree_ends nodes _ _ _ a in let y = tree_ends nodes _ _ _ b in let z = tree_ends nodes _ _ _ c in let w = tree_ends nodes _ _ _ d in
      (_, e, (tree_formed nodes _ _ _ a h (omega arith), tree_formed nodes _ _ _ b h (omega arith), (tree_formed nodes _ _ _ c h (omega arith), tree_formed nodes _ _ _ d h (omega arith))))
  tree_formed nodes kind n m (try_catch e a b c) (suc h) l = let x = tree_ends nodes _ _ _ a in let y = tree_ends nodes _ _ _ b in let z = tree_ends nodes _ _ _ c in
      (_, e, (tree_formed nodes _ _ _ a h (omega arith), tree_formed nodes _ _ _ b h (omega arith), tree_formed nodes _ _ _ c h (omega arith)))
  tree_formed nodes kind n m (finally e a b) (suc h) l = let x = tree_ends nodes _ _ _ a in let y = tree_ends nodes _ _ _ b in
      (_, e, (tree_formed nodes _ _ _ a h (omega arith), tree_formed nodes _ _ _ b h (omega arith)))
  tree_formed nodes kind n m (hide e a) (suc h) l = (_, e, tree_formed nodes _ _ _ a h (omega arith))
  tree_formed nodes kind n m (match_bind e a b) (suc h) l = let x = tree_ends nodes _ _ _ a in let y = tree_ends nodes _ _ _ b in
      (_, e, (tree_formed nodes _ _ _ a h (omega arith), tree_formed nodes _ _ _ b h (omega arith)))
  tree_formed nodes kind n m (object e a r q) (suc h) l = let x = tree_ends nodes _ _ _ a in let y = row_ends nodes _ _ _ _ r in let z = row_ends nodes _ _ _ _ q in
      (_, e, (tree_formed nodes _ _ _ a h (omega arith), row_formed nodes _ _ _ _ r h (omega arith), row_formed nodes _ _ _ _ q h (omega arith)))
  tree_formed nodes kind n m (method e i r a) (suc h) l = let x = row_ends nodes _ _ _ _ r in let y = tree_ends nodes _ _ _ a in
      (_, e, (row_formed nodes _ _ _ _ r h (omega arith), tree_formed nodes _ _ _ a h (omega arith)))
  tree_formed nodes kind n m (matcher e a b) (suc h) l = let x = tree_ends nodes _ _ _ a in let y = tree_ends nodes _ _ _ b in
      (_, e, (tree_formed nodes _ _ _ a h (omega arith), tree_formed nodes _ _ _ b h (omega arith)))
  tree_formed nodes kind n m (final e i) (suc h) l = (_, e, tt)
  tree_formed nodes kind n m (final_guarded e i a) (suc h) l = (_, e, tree_formed nodes _ _ _ a h (omega arith))
  tree_formed nodes kind n m (variable e i) (suc h) l = (_, e, tt)
  tree_formed nodes kind n m (variable_guarded e i a) (suc h) l = (_, e, tree_formed nodes _ _ _ a h (omega arith))
  tree_formed nodes kind n m (any e) (suc h) l = (_, e, tt)
  tree_formed nodes kind n m (any_guarded e a) (suc h) l = (_, e, tree_formed nodes _ _ _ a h (omega arith))
  tree_formed nodes kind n m (list e r) (suc h) l = (_, e, row_formed nodes _ _ _ _ r h (omega arith))
  tree_formed nodes kind n m (via e a b) (suc h) l = let x = tree_ends nodes _ _ _ a in let y = tree_ends nodes _ _ _ b in
      (_, e, (tree_formed nodes _ _ _ a h (omega arith), tree_formed nodes _ _ _ b h (omega arith)))
  tree_formed nodes kind n m (named e i) (suc h) l = (_, e, tt)
  tree_formed nodes kind n m (unnamed e) (suc h) l = (_, e, tt)

  row_formed : (nodes : List Node) (kind : Kind) (starts : List ℕ) (n m : ℕ) → Row nodes kind starts n m → (h : ℕ) → m ≤ n + h → AllOf (FormedWithin nodes h kind) starts
  row_formed nodes kind starts n m none h l = tt
  row_formed nodes kind starts n m (trees.one_more a r) h l = let x = tree_ends nodes _ _ _ a in let y = row_ends nodes _ _ _ _ r in (tree_formed nodes _ _ _ a h (omega arith), row_formed nodes _ _ _ _ r h (omega arith))
