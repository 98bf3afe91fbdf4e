-- How much a node of a kernel tree makes by its form alone: no more than twice as much as the tree has nodes.
use Rattle.std.proofs.Common.{◌≡◌, ℕ, zero, suc, ◌+◌, ◌≤◌, ◌<◌, ◌⊎◌, inl, inr, List, [], ◌∷◌, ◌++◌, Option, Some, None, refl, sym, ap, subst, ◌∙◌, length, length-append, codes, arith}
use Rattle.std.specs.Prelude.{slice_get}
use Rattle.std.proofs.lemmas.Bool.{cases_lt}
use Rattle.def_machine.specs.Form as form
use Rattle.def_machine.specs.Form.{Item, Begin, End, Word, Fact}
use Rattle.def_machine.specs.Free as free
use Rattle.def_kernel.specs.declared.node.Node.{Node}
use Rattle.def_kernel.specs.declared.node.Node.TheVariants.{Lit, Noun, Set, Def, Call, Sequence, If, Escape, Try, Finally, Hide, MatchBind, Object, Method, Matcher, Final, Var, Any, ListPattern, Via}
use Rattle.def_kernel.specs.declared.shape.Kind.{Kind}
use Rattle.def_kernel.specs.Trees.{Has, Tree, Row, IsTree, literal, noun, set, def, def_exit, call, sequence, choice, escape, escape_catch, try_catch, finally, hide, match_bind, object, method, matcher, final, final_guarded, variable, variable_guarded, any, any_guarded, list, via, named, unnamed, none, one_more}
use Rattle.law_machine.proofs.Costs.Calls.{ends_in}

-- ---- the parts of a node, in the order in which they stand in the tree

abbrev maybe : Option ℕ → List ℕ
maybe None = []
maybe (Some e) = e ∷ []

abbrev caught : Option (ℕ × ℕ) → List ℕ
caught None = []
caught (Some c) = c.0 ∷ c.1 ∷ []

abbrev parts : Node → List ℕ
parts (Set x e) = e ∷ []
parts (Def p exit e) = p ∷ (maybe exit ++ e ∷ [])
parts (Call r verb args) = r ∷ args
parts (Sequence es) = es
parts (If t a b) = t ∷ a ∷ b ∷ []
parts (Escape p b c) = p ∷ b ∷ caught c
parts (Try b p h) = b ∷ p ∷ h ∷ []
parts (Finally a b) = a ∷ b ∷ []
parts (Hide e) = e ∷ []
parts (MatchBind e p) = e ∷ p ∷ []
parts (Object p auditors members) = p ∷ (auditors ++ members)
parts (Method verb ps b) = ps ++ b ∷ []
parts (Matcher p b) = p ∷ b ∷ []
parts (Final x g) = maybe g
parts (Var x g) = maybe g
parts (Any g) = maybe g
parts (ListPattern ps) = ps
parts (Via e p) = e ∷ p ∷ []
parts other = []

abbrev total : (ℕ → ℕ) → List ℕ → ℕ
total f [] = zero
total f (e ∷ es) = f e + total f es

total_append : (f : ℕ → ℕ) (xs ys : List ℕ) → total f (xs ++ ys) ≡ total f xs + total f ys
total_append f [] ys = omega arith
total_append f (x ∷ xs) ys = let e = total_append f xs ys in omega (arith, e)

-- ---- what a node makes by its parts

-- a measure of nodes to a height: a node adds two at most to that of its parts
record Measure (nodes : List Node) (f : ℕ → ℕ → ℕ) : Type 0 where
  pub low : (n : ℕ) → f zero n ≡ zero
  pub absent : (d n : ℕ) → slice_get nodes n ≡ None → f d n ≡ zero
  pub adds : (d n : ℕ) (x : Node) → slice_get nodes n ≡ Some x → f (suc d) n ≤ 2 + total (f d) (parts x)

module _ (nodes : List Node) (f : ℕ → ℕ → ℕ) (law : Measure nodes f) where
  -- trees from the first number to before the second: their measure, and that of each node in them
  record Spans (starts : List ℕ) (n m : ℕ) : Type 0 where
    pub rises : n ≤ m
    pub at : (d : ℕ) → total (f d) starts + (n + n) ≤ m + m
    pub each : (d i : ℕ) → n ≤ i → i < m → f d i ≤ m + m

  empty : (n : ℕ) → Spans [] n n
  empty n = record { rises = omega arith; at = λ d. omega arith; each = λ d i l k. absurd (omega (arith, l, k)) }

  within : {xs ys : List ℕ} {n a m : ℕ} → Spans xs n a → Spans ys a m → (d i : ℕ) → n ≤ i → i < m → (i < a) ⊎ (a ≤ i) → f d i ≤ m + m
  within h k d i l g (inl u) = let e = h.each d i l u in let r = k.rises in omega (arith, e, r)
  within h k d i l g (inr u) = k.each d i u g

  behind : {xs ys : List ℕ} {n a m : ℕ} → Spans xs n a → Spans ys a m → Spans (xs ++ ys) n m
  behind {xs = xs} {ys = ys} {a = a} h k = record {
    rises = let l = h.rises in let r = k.rises in omega (arith, l, r);
    at = λ d. let e = total_append (f d) xs ys in let l = h.at d in let r = k.at d in omega (arith, e, l, r);
    each = λ d i l g. within h k d i l g (cases_lt i a);
  }

  -- a node, and its parts behind it
  node : (n m : ℕ) (x : Node) → Has nodes n x → Spans (parts x) (suc n) m → Spans (n ∷ []) n m
  node n m x has h = record {
    rises = let l = h.rises in omega (arith, l);
    at = at;
    each = λ d i l g. by d i g (cases_lt n i) l;
  }
    where
      top : (d : ℕ) → f d n + (n + n) ≤ m + m
      top zero = let e = law.low n in let l = h.rises in omega (arith, e, l)
      top (suc d) = let l = law.adds d n x has in let r = h.at d in omega (arith, l, r)

      at : (d : ℕ) → total (f d) (n ∷ []) + (n + n) ≤ m + m
      at d = let l = top d in omega (arith, l)

      by : (d i : ℕ) → i < m → (n < i) ⊎ (i ≤ n) → n ≤ i → f d i ≤ m + m
      by d i g (inl u) l = h.each d i u g
      by d i g (inr u) l = let same : n ≡ i = omega (arith, l, u) in subst (λ k. f d k ≤ m + m) same (let t = top d in omega (arith, t))

  mutual
    spans : {kind : Kind} {n m : ℕ} → Tree nodes kind n m → Spans (n ∷ []) n m
    spans (literal {n = n} e g) = node n (suc n) _ e (empty (suc n))
    spans (noun {n = n} e g) = node n (suc n) _ e (empty (suc n))
    spans (set {n = n} {m = m} e g t) = node n m _ e (spans t)
    spans (def {n = n} {m = m} e p t) = node n m _ e (behind (spans p) (spans t))
    spans (def_exit {n = n} {m = m} e p j t) = node n m _ e (behind (spans p) (behind (spans j) (spans t)))
    spans (call {n = n} {m = m} e u t r) = node n m _ e (behind (spans t) (row r))
    spans (sequence {n = n} {m = m} e t r) = node n m _ e (behind (spans t) (row r))
    spans (choice {n = n} {m = m} e x y z) = node n m _ e (behind (spans x) (behind (spans y) (spans z)))
    spans (escape {n = n} {m = m} e p t) = node n m _ e (behind (spans p) (spans t))
    spans (escape_catch {n = n} {m = m} e p t q h) = node n m _ e (behind (spans p) (behind (spans t) (behind (spans q) (spans h))))
    spans (try_catch {n = n} {m = m} e t p h) = node n m _ e (behind (spans t) (behind (spans p) (spans h)))
    spans (finally {n = n} {m = m} e s t) = node n m _ e (behind (spans s) (spans t))
    spans (hide {n = n} {m = m} e t) = node n m _ e (spans t)
    spans (match_bind {n = n} {m = m} e t p) = node n m _ e (behind (spans t) (spans p))
    spans (object {n = n} {m = m} e p r s) = node n m _ e (behind (spans p) (behind (row r) (row s)))
    spans (method {n = n} {m = m} e u r t) = node n m _ e (behind (row r) (spans t))
    spans (matcher {n = n} {m = m} e p t) = node n m _ e (behind (spans p) (spans t))
    spans (final {n = n} e g) = node n (suc n) _ e (empty (suc n))
    spans (final_guarded {n = n} {m = m} e g t) = node n m _ e (spans t)
    spans (variable {n = n} e g) = node n (suc n) _ e (empty (suc n))
    spans (variable_guarded {n = n} {m = m} e g t) = node n m _ e (spans t)
    spans (any {n = n} e) = node n (suc n) _ e (empty (suc n))
    spans (any_guarded {n = n} {m = m} e t) = node n m _ e (spans t)
    spans (list {n = n} {m = m} e r) = node n m _ e (row r)
    spans (via {n = n} {m = m} e t p) = node n m _ e (behind (spans t) (spans p))
    spans (named {n = n} e g) = node n (suc n) _ e (empty (suc n))
    spans (unnamed {n = n} e) = node n (suc n) _ e (empty (suc n))

    row : {kind : Kind} {ns : List ℕ} {n m : ℕ} → Row nodes kind ns n m → Spans ns n m
    row (none {n = n}) = empty n
    row (one_more t r) = behind (spans t) (row r)

  inside : (xs : List Node) (i : ℕ) (x : Node) → slice_get xs i ≡ Some x → i < length xs
  inside [] i x e = cc
  inside (y ∷ xs) zero x e = omega arith
  inside (y ∷ xs) (suc i) x e = let l = inside xs i x e in omega (arith, l)

  few : (d i : ℕ) → Spans (zero ∷ []) zero (length nodes) → (o : Option Node) → slice_get nodes i ≡ o → f d i ≤ length nodes + length nodes
  few d i h (Some x) e = h.each d i (omega arith) (inside nodes i x e)
  few d i h None e = let z = law.absent d i e in omega (arith, z)

  measured : IsTree nodes → (d i : ℕ) → f d i ≤ length nodes + length nodes
  measured t d i = few d i (spans t) (slice_get nodes i) refl

-- ---- the lists of a form

ends_append : (is ks : List Item) → ends_in (is ++ ks) ≡ ends_in is + ends_in ks
ends_append [] ks = omega arith
ends_append (Begin ∷ is) ks = ends_append is ks
ends_append (End ∷ is) ks = let e = ends_append is ks in omega (arith, e)
ends_append (Word w ∷ is) ks = ends_append is ks
ends_append (Fact l ∷ is) ks = ends_append is ks

ends_group : (is : List Item) → ends_in (form.group is) ≡ suc (ends_in is)
unfolding form.group
ends_group is = let e = ends_append is (End ∷ []) in omega (arith, e)

ends_headed : (w : List ℕ) (is : List Item) → ends_in (form.headed w is) ≡ suc (ends_in is)
unfolding form.headed
ends_headed w is = ends_group (Word w ∷ is)

module _ (rec : ℕ → List Item) where
  abbrev many : ℕ → ℕ
  many e = ends_in (rec e)

  ends_forms : (es : List ℕ) → ends_in (form.forms rec es) ≡ total many es
  unfolding form.forms
  ends_forms [] = refl
  ends_forms (e ∷ es) = let a = ends_append (rec e) (form.forms rec es) in let b = ends_forms es in omega (arith, a, b)

  ends_option : (o : Option ℕ) → ends_in (form.form_option rec o) ≡ total many (maybe o)
  unfolding form.form_option
  ends_option None = refl
  ends_option (Some e) = omega arith

  ends_exit : (o : Option ℕ) → ends_in (form.exit_form rec o) ≡ total many (maybe o)
  unfolding form.exit_form
  ends_exit None = refl
  ends_exit (Some j) = omega arith

  ends_caught : (o : Option (ℕ × ℕ)) → ends_in (form.caught_form rec o) ≡ total many (caught o)
  unfolding form.caught_form
  ends_caught None = refl
  ends_caught (Some c) = let a = ends_append (rec c.0) (rec c.1) in omega (arith, a)

  two : (w : List ℕ) (a b : ℕ) → ends_in (form.headed w (rec a ++ rec b)) ≤ 2 + (many a + (many b + zero))
  two w a b = let h = ends_headed w (rec a ++ rec b) in let e = ends_append (rec a) (rec b) in omega (arith, h, e)

  ends_node : (x : Node) → ends_in (form.node_form rec x) ≤ 2 + total many (parts x)
  unfolding form.node_form
  ends_node (Lit l) = let h = ends_headed (codes "lit") (Fact l ∷ []) in omega (arith, h)
  ends_node (Noun x) = let h = ends_headed (codes "noun") (Word x ∷ []) in omega (arith, h)
  ends_node (Set x e) = let h = ends_headed (codes "set") (Word x ∷ rec e) in omega (arith, h)
  ends_node (Def p j e) = let h = ends_headed (codes "def") (rec p ++ form.exit_form rec j ++ rec e) in let a = ends_append (rec p ++ form.exit_form rec j) (rec e) in let b = ends_append (rec p) (form.exit_form rec j) in let k = ends_exit j in
      let t = total_append many (maybe j) (e ∷ []) in omega (arith, h, a, b, k, t)
  ends_node (Call r v es) = let h = ends_headed (codes "call") (rec r ++ Word v ∷ form.forms rec es) in let a = ends_append (rec r) (Word v ∷ form.forms rec es) in let b = ends_forms es in omega (arith, h, a, b)
  ends_node (Sequence es) = let h = ends_headed (codes "seq") (form.forms rec es) in let b = ends_forms es in omega (arith, h, b)
  ends_node (If t a b) = let h = ends_headed (codes "if") (rec t ++ rec a ++ rec b) in let x = ends_append (rec t ++ rec a) (rec b) in let y = ends_append (rec t) (rec a) in omega (arith, h, x, y)
  ends_node (Escape p b c) = let h = ends_headed (codes "escape") (rec p ++ rec b ++ form.caught_form rec c) in let x = ends_append (rec p ++ rec b) (form.caught_form rec c) in let y = ends_append (rec p) (rec b) in let z = ends_caught c in omega (arith, h, x, y, z)
  ends_node (Try b p t) = let h = ends_headed (codes "try") (rec b ++ rec p ++ rec t) in let x = ends_append (rec b ++ rec p) (rec t) in let y = ends_append (rec b) (rec p) in omega (arith, h, x, y)
  ends_node (Finally a b) = two (codes "finally") a b
  ends_node (Hide e) = let h = ends_headed (codes "hide") (rec e) in omega (arith, h)
  ends_node (MatchBind e p) = two (codes "match") e p
  ends_node (Object p auditors members) = let h = ends_headed (codes "object") (rec p ++ form.group (form.forms rec auditors) ++ form.forms rec members) in let x = ends_append (rec p ++ form.group (form.forms rec auditors)) (form.forms rec members) in
      let y = ends_append (rec p) (form.group (form.forms rec auditors)) in let g = ends_group (form.forms rec auditors) in let a = ends_forms auditors in let m = ends_forms members in let t = total_append many auditors members in omega (arith, h, x, y, g, a, m, t)
  ends_node (Method v ps b) = let h = ends_headed (codes "method") (Word v ∷ form.group (form.forms rec ps) ++ rec b) in let x = ends_append (form.group (form.forms rec ps)) (rec b) in let g = ends_group (form.forms rec ps) in let a = ends_forms ps in
      let t = total_append many ps (b ∷ []) in omega (arith, h, x, g, a, t)
  ends_node (Matcher p b) = two (codes "matcher") p b
  ends_node (Final x g) = let h = ends_headed (codes "final") (Word x ∷ form.form_option rec g) in let a = ends_option g in omega (arith, h, a)
  ends_node (Var x g) = let h = ends_headed (codes "var") (Word x ∷ form.form_option rec g) in let a = ends_option g in omega (arith, h, a)
  ends_node (Any g) = let h = ends_headed (codes "any") (form.form_option rec g) in let a = ends_option g in omega (arith, h, a)
  ends_node (ListPattern ps) = let h = ends_headed (codes "list") (form.forms rec ps) in let b = ends_forms ps in omega (arith, h, b)
  ends_node (Via e p) = two (codes "via") e p

-- ---- the nouns that a pattern binds

module _ (rec : ℕ → List free.BoundNoun) where
  abbrev nouns : ℕ → ℕ
  nouns e = length (rec e)

  nouns_all : (es : List ℕ) → length (free.of_all rec es) ≡ total nouns es
  unfolding free.of_all
  nouns_all [] = refl
  nouns_all (e ∷ es) = let a = length-append (rec e) (free.of_all rec es) in let b = nouns_all es in omega (arith, a, b)

  nouns_option : (o : Option ℕ) → length (free.of_option rec o) ≡ total nouns (maybe o)
  unfolding free.of_option
  nouns_option None = refl
  nouns_option (Some e) = omega arith

  nouns_node : (x : Node) → length (free.of_node rec x) ≤ 2 + total nouns (parts x)
  unfolding free.of_node
  nouns_node (Def p j e) = let a = length-append (rec p ++ free.of_option rec j) (rec e) in let b = length-append (rec p) (free.of_option rec j) in let k = nouns_option j in let t = total_append nouns (maybe j) (e ∷ []) in omega (arith, a, b, k, t)
  nouns_node (Call r v es) = let a = length-append (rec r) (free.of_all rec es) in let b = nouns_all es in omega (arith, a, b)
  nouns_node (Sequence es) = let b = nouns_all es in omega (arith, b)
  nouns_node (MatchBind e p) = let a = length-append (rec e) (rec p) in omega (arith, a)
  nouns_node (Object p auditors members) = let a = length-append (rec p) (free.of_all rec auditors) in let b = nouns_all auditors in let t = total_append nouns auditors members in omega (arith, a, b, t)
  nouns_node (Final x g) = let a = nouns_option g in omega (arith, a)
  nouns_node (Var x g) = let a = nouns_option g in omega (arith, a)
  nouns_node (Any g) = let a = nouns_option g in omega (arith, a)
  nouns_node (ListPattern ps) = let b = nouns_all ps in omega (arith, b)
  nouns_node (Via e p) = let a = length-append (rec e) (rec p) in omega (arith, a)
  nouns_node other = omega arith

-- ---- the whole

module _ (nodes : List Node) where
  abbrev lists : ℕ → ℕ → ℕ
  lists d n = ends_in (form.form_at nodes d n)

  abbrev bindings : ℕ → ℕ → ℕ
  bindings d n = length (free.bound_at nodes d n)

  absent_lists : (d n : ℕ) → slice_get nodes n ≡ None → lists d n ≡ zero
  unfolding form.form_at
  absent_lists zero n e = refl
  absent_lists (suc d) n e = ap (λ o. ends_in (form.form_found (λ k. form.form_at nodes d k) o)) e ∙ unfold form.form_found in refl

  lists_measure : Measure nodes lists
  unfolding form.form_at form.form_found
  lists_measure = record {
    low = λ n. refl;
    absent = absent_lists;
    adds = λ d n x e. subst (λ o. ends_in (form.form_found (λ k. form.form_at nodes d k) o) ≤ 2 + total (lists d) (parts x)) (sym e) (ends_node (λ k. form.form_at nodes d k) x);
  }

  absent_bindings : (d n : ℕ) → slice_get nodes n ≡ None → bindings d n ≡ zero
  unfolding free.bound_at
  absent_bindings zero n e = refl
  absent_bindings (suc d) n e = ap (λ o. length (free.of_found (λ k. free.bound_at nodes d k) o)) e ∙ unfold free.of_found in refl

  bindings_measure : Measure nodes bindings
  unfolding free.bound_at free.of_found
  bindings_measure = record {
    low = λ n. refl;
    absent = absent_bindings;
    adds = λ d n x e. subst (λ o. length (free.of_found (λ k. free.bound_at nodes d k) o) ≤ 2 + total (bindings d) (parts x)) (sym e) (nouns_node (λ k. free.bound_at nodes d k) x);
  }

  pub few_lists : IsTree nodes → (n : ℕ) → ends_in (form.items_of nodes n) ≤ length nodes + length nodes
  unfolding form.items_of
  few_lists t n = measured nodes lists lists_measure t (length nodes) n

  pub few_bindings : IsTree nodes → (n : ℕ) → length (free.bound_nouns nodes n) ≤ length nodes + length nodes
  unfolding free.bound_nouns
  few_bindings t n = measured nodes bindings bindings_measure t (length nodes) n
