-- A tree in which the check finds no fault is scoped.
use Rattle.std.proofs.Common.{◌≡◌, ℕ, zero, suc, ◌+◌, ◌≤◌, ◌<◌, Bool, true, false, List, [], ◌∷◌, Option, Some, None, refl, sym, ap, subst, ◌∙◌, length, arith}
use Rattle.std.specs.Prelude.{slice_get, drop}
use Rattle.def_kernel.specs.declared.node.Node.{Node}
use Rattle.def_kernel.specs.declared.node.Node.TheVariants.{Noun, Set, Def, Call, Sequence, If, Escape, Try, Finally, Hide, MatchBind, Object, Method, Matcher, Final, Var, Any, ListPattern, Via}
use Rattle.def_kernel.specs.declared.shape.Kind.{Kind}
use Rattle.def_kernel.specs.Trees.{Has, Tree, Row, literal, noun, set, def, def_exit, call, sequence, choice, escape, escape_catch, try_catch, finally, hide, match_bind, object, method, matcher, final, final_guarded, variable, variable_guarded, any, any_guarded, list, via, named, unnamed, none}
use Rattle.def_kernel.specs.Trees as trees
use Rattle.ev_reader.specs.declared.scan.Scan.{Scan}
use Rattle.ev_reader.specs.Scopes.{bound, with_name_here, assignment_of, is_clean, enter, inside, all, perhaps, visit, visit_found, scan, started}
use Rattle.law_never_astray.specs.Scoped.{Scopes, Scoped, MayScoped, AllScoped, is_literal, is_noun, is_set, is_def, is_call, is_sequence, is_choice, is_escape, is_escape_catch, is_try, is_finally, is_hide, is_match, is_object, is_method, is_matcher, is_final, is_var, is_any, is_list, is_via, has_none, has_one, no_more, one_more, AcceptedTreesAreScoped}
use Rattle.law_never_astray.proofs.ScopeFaults.{IsClean, used, assigned, binding_new, bound_clean, all_clean, perhaps_clean, inside_clean, inside_two, scan_clean}

-- ---- where trees end

mutual
  pub tree_ends : (nodes : List Node) (kind : Kind) (n m : ℕ) → Tree nodes kind n m → n < m
  tree_ends nodes kind n m (literal e l) = omega arith
  tree_ends nodes kind n m (noun e i) = omega arith
  tree_ends nodes kind n m (set e i a) = let x = tree_ends nodes _ _ _ a in omega arith
  tree_ends nodes kind n m (def e a b) = let x = tree_ends nodes _ _ _ a in let y = tree_ends nodes _ _ _ b in omega arith
  tree_ends nodes kind n m (def_exit e a b c) = let x = tree_ends nodes _ _ _ a in let y = tree_ends nodes _ _ _ b in let z = tree_ends nodes _ _ _ c in omega arith
  tree_ends nodes kind n m (call e i a r) = let x = tree_ends nodes _ _ _ a in let y = row_ends nodes _ _ _ _ r in omega arith
  tree_ends nodes kind n m (sequence e a r) = let x = tree_ends nodes _ _ _ a in let y = row_ends nodes _ _ _ _ r in omega arith
  tree_ends nodes kind n m (choice e a b c) = let x = tree_ends nodes _ _ _ a in let y = tree_ends nodes _ _ _ b in let z = tree_ends nodes _ _ _ c in omega arith
  tree_ends nodes kind n m (escape e a b) = let x = tree_ends nodes _ _ _ a in let y = tree_ends nodes _ _ _ b in omega arith
  tree_ends nodes kind n m (escape_catch e a b c d) = let x = tree_ends nodes _ _ _ a in let y = tree_ends nodes _ _ _ b in let z = tree_ends nodes _ _ _ c in let w = tree_ends nodes _ _ _ d in omega arith
  tree_ends nodes kind n m (try_catch e a b c) = let x = tree_ends nodes _ _ _ a in let y = tree_ends nodes _ _ _ b in let z = tree_ends nodes _ _ _ c in omega arith
  tree_ends nodes kind n m (finally e a b) = let x = tree_ends nodes _ _ _ a in let y = tree_ends nodes _ _ _ b in omega arith
  tree_ends nodes kind n m (hide e a) = let x = tree_ends nodes _ _ _ a in omega arith
  tree_ends nodes kind n m (match_bind e a b) = let x = tree_ends nodes _ _ _ a in let y = tree_ends nodes _ _ _ b in omega arith
  tree_ends nodes kind n m (object e a r q) = let x = tree_ends nodes _ _ _ a in let y = row_ends nodes _ _ _ _ r in let z = row_ends nodes _ _ _ _ q in omega arith
  tree_ends nodes kind n m (method e i r a) = let x = row_ends nodes _ _ _ _ r in let y = tree_ends nodes _ _ _ a in omega arith
  tree_ends nodes kind n m (matcher e a b) = let x = tree_ends nodes _ _ _ a in let y = tree_ends nodes _ _ _ b in omega arith
  tree_ends nodes kind n m (final e i) = omega arith
  tree_ends nodes kind n m (final_guarded e i a) = let x = tree_ends nodes _ _ _ a in omega arith
  tree_ends nodes kind n m (variable e i) = omega arith
  tree_ends nodes kind n m (variable_guarded e i a) = let x = tree_ends nodes _ _ _ a in omega arith
  tree_ends nodes kind n m (any e) = omega arith
  tree_ends nodes kind n m (any_guarded e a) = let x = tree_ends nodes _ _ _ a in omega arith
  tree_ends nodes kind n m (list e r) = let x = row_ends nodes _ _ _ _ r in omega arith
  tree_ends nodes kind n m (via e a b) = let x = tree_ends nodes _ _ _ a in let y = tree_ends nodes _ _ _ b in omega arith
  tree_ends nodes kind n m (named e i) = omega arith
  tree_ends nodes kind n m (unnamed e) = omega arith

  pub row_ends : (nodes : List Node) (kind : Kind) (starts : List ℕ) (n m : ℕ) → Row nodes kind starts n m → n ≤ m
  row_ends nodes kind starts n m none = omega arith
  row_ends nodes kind starts n m (trees.one_more a r) = let x = tree_ends nodes _ _ _ a in let y = row_ends nodes _ _ _ _ r in omega arith

-- ---- nodes

-- the scopes inside which it stands stay as they are
pub record Reached (nodes : List Node) (s : Scopes) (n : ℕ) (t : Scopes) : Type 0 where
  pub scoped : Scoped nodes s n t
  pub outside : drop 1 t ≡ drop 1 s

record ReachedAll (nodes : List Node) (s : Scopes) (ns : List ℕ) (t : Scopes) : Type 0 where
  pub scoped : AllScoped nodes s ns t
  pub outside : drop 1 t ≡ drop 1 s

record ReachedMay (nodes : List Node) (s : Scopes) (o : Option ℕ) (t : Scopes) : Type 0 where
  pub scoped : MayScoped nodes s o t
  pub outside : drop 1 t ≡ drop 1 s

with_outside : (name : List ℕ) (v : Bool) (s : Scopes) → drop 1 (with_name_here name v s) ≡ drop 1 s
with_outside name v [] = refl
with_outside name v (x ∷ xs) = refl

module _ (nodes : List Node) (h : ℕ) where
  abbrev Good : ℕ → Type 0
  Good n = (s : Scan) → IsClean (scan nodes h n s) → Reached nodes s.scopes n (scan nodes h n s).scopes

  abbrev AllGood : List ℕ → Type 0
  AllGood [] = Unit {0}
  AllGood (n ∷ ns) = Good n × AllGood ns

  abbrev MayGood : Option ℕ → Type 0
  MayGood None = Unit {0}
  MayGood (Some n) = Good n

  all_reached : (ns : List ℕ) → AllGood ns → (s : Scan) → IsClean (all (scan nodes h) ns s) → ReachedAll nodes s.scopes ns (all (scan nodes h) ns s).scopes
  all_reached [] g s c = record { scoped = no_more; outside = refl }
  all_reached (n ∷ ns) g s c =
      let a = g.0 s (all_clean (scan nodes h) (scan_clean nodes h) ns (scan nodes h n s) c) in let b = all_reached ns g.1 (scan nodes h n s) c in
      record { scoped = one_more a.scoped b.scoped; outside = b.outside ∙ a.outside }

  may_reached : (o : Option ℕ) → MayGood o → (s : Scan) → IsClean (perhaps (scan nodes h) o s) → ReachedMay nodes s.scopes o (perhaps (scan nodes h) o s).scopes
  may_reached None g s c = record { scoped = has_none; outside = refl }
  may_reached (Some n) g s c = let a = g s c in record { scoped = has_one a.scoped; outside = a.outside }

  -- a node in a scope of its own
  one_inside : (e : ℕ) → Good e → (s : Scan) → IsClean (inside (scan nodes h e) s) → (t : Scopes) × Scoped nodes ([] ∷ s.scopes) e t × ((inside (scan nodes h e) s).scopes ≡ s.scopes)
  one_inside e g s c = let a = g (enter s) c in ((scan nodes h e (enter s)).scopes, a.scoped, a.outside)

  -- and two
  two_inside : (a b : ℕ) → Good a → Good b → (s : Scan) → IsClean (inside (λ u. scan nodes h b (scan nodes h a u)) s)
      → (t u : Scopes) × Scoped nodes ([] ∷ s.scopes) a t × Scoped nodes t b u × ((inside (λ u. scan nodes h b (scan nodes h a u)) s).scopes ≡ s.scopes)
  two_inside a b g k s c = let x = g (enter s) (scan_clean nodes h b (scan nodes h a (enter s)) c) in let y = k (scan nodes h a (enter s)) c in
      ((scan nodes h a (enter s)).scopes, (scan nodes h b (scan nodes h a (enter s))).scopes, x.scoped, y.scoped, y.outside ∙ x.outside)

  -- a node that leaves the scopes as they were
  same_scopes : (n : ℕ) (s t : Scopes) → Scoped nodes s n s → t ≡ s → Reached nodes s n t
  same_scopes n s t d e = record { scoped = subst (λ x. Scoped nodes s n x) (sym e) d; outside = ap (drop 1) e }

  inner_is : (e : ℕ) (s t u : Scopes) → t ≡ s → Scoped nodes ([] ∷ t) e u → Scoped nodes ([] ∷ s) e u
  inner_is e s t u q d = subst (λ x. Scoped nodes ([] ∷ x) e u) q d

  abbrev Stands : ℕ → Node → Type 0
  Stands n node = (s : Scan) → IsClean (visit (scan nodes h) n node s) → Reached nodes s.scopes n (visit (scan nodes h) n node s).scopes

  noun_stands : (n : ℕ) (name : List ℕ) → Has nodes n (Noun name) → Stands n (Noun name)
  noun_stands n name e s c = let u = used n (bound name s.scopes) s c in same_scopes n s.scopes _ (is_noun e u.1) (ap (λ (x : Scan). x.scopes) u.2)

  set_stands : (n v : ℕ) (name : List ℕ) → Has nodes n (Set name v) → Good v → Stands n (Set name v)
  set_stands n v name e g s c = let x : Scan = assignment_of n (bound name s.scopes) s in let u = assigned n (bound name s.scopes) s (scan_clean nodes h v x c) in
      let a : Reached nodes s.scopes v (scan nodes h v x).scopes = subst (λ (y : Scan). Reached nodes y.scopes v (scan nodes h v x).scopes) u.1 (g x c) in
      record { scoped = is_set e u.0 a.scoped; outside = a.outside }

  def_stands : (n p v : ℕ) (exit : Option ℕ) → Has nodes n (Def p exit v) → Good p → MayGood exit → Good v → Stands n (Def p exit v)
  def_stands n p v exit e g j k s c = let x : Scan = perhaps (scan nodes h) exit s in let y : Scan = scan nodes h v x in
      let cy : IsClean y = scan_clean nodes h p y c in let a = may_reached exit j s (scan_clean nodes h v x cy) in let b = k x cy in let d = g y c in
      record { scoped = is_def e a.scoped b.scoped d.scoped; outside = d.outside ∙ (b.outside ∙ a.outside) }

  call_stands : (n r : ℕ) (verb args : List ℕ) → Has nodes n (Call r verb args) → Good r → AllGood args → Stands n (Call r verb args)
  call_stands n r verb args e g k s c = let x : Scan = scan nodes h r s in let a = g s (all_clean (scan nodes h) (scan_clean nodes h) args x c) in let b = all_reached args k x c in
      record { scoped = is_call e a.scoped b.scoped; outside = b.outside ∙ a.outside }

  sequence_stands : (n : ℕ) (parts : List ℕ) → Has nodes n (Sequence parts) → AllGood parts → Stands n (Sequence parts)
  sequence_stands n parts e g s c = let a = all_reached parts g s c in record { scoped = is_sequence e a.scoped; outside = a.outside }

  choice_stands : (n a b d : ℕ) → Has nodes n (If a b d) → Good a → Good b → Good d → Stands n (If a b d)
  choice_stands n a b d e g k j s c = let x : Scan = inside (λ u. scan nodes h b (scan nodes h a u)) s in
      let y = two_inside a b g k s (inside_clean (scan nodes h) (scan_clean nodes h) d x c) in let z = one_inside d j x c in
      same_scopes n s.scopes _ (is_choice e y.2 y.3 (inner_is d s.scopes x.scopes z.0 y.4 z.1)) (z.2 ∙ y.4)

  escape_stands : (n p b : ℕ) → Has nodes n (Escape p b None) → Good p → Good b → Stands n (Escape p b None)
  escape_stands n p b e g k s c = let y = two_inside p b g k s c in same_scopes n s.scopes _ (is_escape e y.2 y.3) y.4

  catch_stands : (n p b q d : ℕ) → Has nodes n (Escape p b (Some (q, d))) → Good p → Good b → Good q → Good d → Stands n (Escape p b (Some (q, d)))
  catch_stands n p b q d e g k i j s c = let x : Scan = inside (λ u. scan nodes h b (scan nodes h p u)) s in
      let y = two_inside p b g k s (inside_two (scan nodes h) (scan_clean nodes h) q d x c) in let z = two_inside q d i j x c in
      same_scopes n s.scopes _ (is_escape_catch e y.2 y.3 (inner_is q s.scopes x.scopes z.0 y.4 z.2) z.3) (z.4 ∙ y.4)

  try_stands : (n b p t : ℕ) → Has nodes n (Try b p t) → Good b → Good p → Good t → Stands n (Try b p t)
  try_stands n b p t e g k j s c = let x : Scan = inside (scan nodes h b) s in
      let y = one_inside b g s (inside_two (scan nodes h) (scan_clean nodes h) p t x c) in let z = two_inside p t k j x c in
      same_scopes n s.scopes _ (is_try e y.1 (inner_is p s.scopes x.scopes z.0 y.2 z.2) z.3) (z.4 ∙ y.2)

  finally_stands : (n a b : ℕ) → Has nodes n (Finally a b) → Good a → Good b → Stands n (Finally a b)
  finally_stands n a b e g k s c = let x : Scan = inside (scan nodes h a) s in
      let y = one_inside a g s (inside_clean (scan nodes h) (scan_clean nodes h) b x c) in let z = one_inside b k x c in
      same_scopes n s.scopes _ (is_finally e y.1 (inner_is b s.scopes x.scopes z.0 y.2 z.1)) (z.2 ∙ y.2)

  hide_stands : (n v : ℕ) → Has nodes n (Hide v) → Good v → Stands n (Hide v)
  hide_stands n v e g s c = let y = one_inside v g s c in same_scopes n s.scopes _ (is_hide e y.1) y.2

  match_stands : (n v p : ℕ) → Has nodes n (MatchBind v p) → Good v → Good p → Stands n (MatchBind v p)
  match_stands n v p e g k s c = let x : Scan = scan nodes h v s in let a = g s (scan_clean nodes h p x c) in let b = k x c in record { scoped = is_match e a.scoped b.scoped; outside = b.outside ∙ a.outside }

  object_stands : (n p : ℕ) (auditors members : List ℕ) → Has nodes n (Object p auditors members) → Good p → AllGood auditors → AllGood members → Stands n (Object p auditors members)
  object_stands n p auditors members e g i j s c = let x : Scan = all (scan nodes h) auditors s in let y : Scan = scan nodes h p x in
      let cy : IsClean y = all_clean (scan nodes h) (scan_clean nodes h) members y c in let a = all_reached auditors i s (scan_clean nodes h p x cy) in let b = g x cy in let d = all_reached members j y c in
      record { scoped = is_object e a.scoped b.scoped d.scoped; outside = d.outside ∙ (b.outside ∙ a.outside) }

  method_stands : (n b : ℕ) (verb patterns : List ℕ) → Has nodes n (Method verb patterns b) → AllGood patterns → Good b → Stands n (Method verb patterns b)
  method_stands n b verb patterns e g k s c = let x : Scan = all (scan nodes h) patterns (enter s) in let a = all_reached patterns g (enter s) (scan_clean nodes h b x c) in let d = k x c in
      same_scopes n s.scopes _ (is_method e a.scoped d.scoped) (d.outside ∙ a.outside)

  matcher_stands : (n p b : ℕ) → Has nodes n (Matcher p b) → Good p → Good b → Stands n (Matcher p b)
  matcher_stands n p b e g k s c = let y = two_inside p b g k s c in same_scopes n s.scopes _ (is_matcher e y.2 y.3) y.4

  final_stands : (n : ℕ) (name : List ℕ) (guard : Option ℕ) → Has nodes n (Final name guard) → MayGood guard → Stands n (Final name guard)
  final_stands n name guard e g s c = let x : Scan = perhaps (scan nodes h) guard s in let cx : IsClean x = bound_clean n (is_clean s) x name false c in
      let a = may_reached guard g s cx in record { scoped = is_final e a.scoped (binding_new n s x name false (perhaps_clean (scan nodes h) (scan_clean nodes h) guard s cx) c); outside = with_outside name false x.scopes ∙ a.outside }

  var_stands : (n : ℕ) (name : List ℕ) (guard : Option ℕ) → Has nodes n (Var name guard) → MayGood guard → Stands n (Var name guard)
  var_stands n name guard e g s c = let x : Scan = perhaps (scan nodes h) guard s in let cx : IsClean x = bound_clean n (is_clean s) x name true c in
      let a = may_reached guard g s cx in record { scoped = is_var e a.scoped (binding_new n s x name true (perhaps_clean (scan nodes h) (scan_clean nodes h) guard s cx) c); outside = with_outside name true x.scopes ∙ a.outside }

  any_stands : (n : ℕ) (guard : Option ℕ) → Has nodes n (Any guard) → MayGood guard → Stands n (Any guard)
  any_stands n guard e g s c = let a = may_reached guard g s c in record { scoped = is_any e a.scoped; outside = a.outside }

  list_stands : (n : ℕ) (patterns : List ℕ) → Has nodes n (ListPattern patterns) → AllGood patterns → Stands n (ListPattern patterns)
  list_stands n patterns e g s c = let a = all_reached patterns g s c in record { scoped = is_list e a.scoped; outside = a.outside }

  via_stands : (n v p : ℕ) → Has nodes n (Via v p) → Good v → Good p → Stands n (Via v p)
  via_stands n v p e g k s c = let x : Scan = scan nodes h v s in let a = g s (scan_clean nodes h p x c) in let b = k x c in record { scoped = is_via e a.scoped b.scoped; outside = b.outside ∙ a.outside }

  -- the node that has this number
  found : (n : ℕ) (node : Node) → Has nodes n node → Stands n node → (s : Scan) → IsClean (scan nodes (suc h) n s) → Reached nodes s.scopes n (scan nodes (suc h) n s).scopes
  found n node e f s c = go (slice_get nodes n) e c
    where
      go : (o : Option Node) → o ≡ Some node → IsClean (visit_found (scan nodes h) n o s) → Reached nodes s.scopes n (visit_found (scan nodes h) n o s).scopes
      go None i d = cc
      go (Some x) i d = let same : x ≡ node = cc in subst (λ y. IsClean (visit (scan nodes h) n y s) → Reached nodes s.scopes n (visit (scan nodes h) n y s).scopes) (sym same) (f s) d

-- ---- trees

mutual
  -- every height that the tree does not pass will do
  tree_good : (nodes : List Node) (kind : Kind) (n m : ℕ) → Tree nodes kind n m → (h : ℕ) → m ≤ n + h → Good nodes h n
  tree_good nodes kind n m t zero l = let x = tree_ends nodes kind n m t in absurd (omega arith)
  tree_good nodes kind n m (literal e i) (suc h) l = found nodes h n _ e (λ s c. record { scoped = is_literal e; outside = refl })
  tree_good nodes kind n m (noun e i) (suc h) l = found nodes h n _ e (noun_stands nodes h n _ e)
  tree_good nodes kind n m (set e i a) (suc h) l = found nodes h n _ e (set_stands nodes h n _ _ e (tree_good nodes _ _ _ a h (omega arith)))
  tree_good nodes kind n m (def e a b) (suc h) l = let x = tree_ends nodes _ _ _ a in let y = tree_ends nodes _ _ _ b in
      found nodes h n _ e (def_stands nodes h n _ _ None e (tree_good nodes _ _ _ a h (omega arith)) tt (tree_good nodes _ _ _ b h (omega arith)))
  tree_good nodes kind n m (def_exit e a b c) (suc h) l = let x = tree_ends nodes _ _ _ a in let y = tree_ends nodes _ _ _ b in let z = tree_ends nodes _ _ _ c in
      found nodes h n _ e (def_stands nodes h n _ _ (Some _) e (tree_good nodes _ _ _ a h (omega arith)) (tree_good nodes _ _ _ b h (omega arith)) (tree_good nodes _ _ _ c h (omega arith)))
  tree_good nodes kind n m (call e i a r) (suc h) l = let x = tree_ends nodes _ _ _ a in let y = row_ends nodes _ _ _ _ r in
      found nodes h n _ e (call_stands nodes h n _ _ _ e (tree_good nodes _ _ _ a h (omega arith)) (row_good nodes _ _ _ _ r h (omega arith)))
  tree_good nodes kind n m (sequence e a r) (suc h) l = let x = tree_ends nodes _ _ _ a in let y = row_ends nodes _ _ _ _ r in
      found nodes h n _ e (sequence_stands nodes h n _ e (tree_good nodes _ _ _ a h (omega arith), row_good nodes _ _ _ _ r h (omega arith)))
  tree_good nodes kind n m (choice e a b c) (suc h) l = let x = tree_ends nodes _ _ _ a in let y = tree_ends nodes _ _ _ b in let z = tree_ends nodes _ _ _ c in
      found nodes h n _ e (choice_stands nodes h n _ _ _ e (tree_good nodes _ _ _ a h (omega arith)) (tree_good nodes _ _ _ b h (omega arith)) (tree_good nodes _ _ _ c h (omega arith)))
  tree_good nodes kind n m (escape e a b) (suc h) l = let x = tree_ends nodes _ _ _ a in let y = tree_ends nodes _ _ _ b in
      found nodes h n _ e (escape_stands nodes h n _ _ e (tree_good nodes _ _ _ a h (omega arith)) (tree_good nodes _ _ _ b h (omega arith)))
  tree_good nodes kind n m (escape_catch e a b c d) (suc h) l = let x = tree_ends nodes _ _ _ a in let y = tree_ends nodes _ _ _ b in let z = tree_ends nodes _ _ _ c in let w = tree_ends nodes _ _ _ d in
      found nodes h n _ e (catch_stands nodes h n _ _ _ _ e (tree_good nodes _ _ _ a h (omega arith)) (tree_good nodes _ _ _ b h (omega arith)) (tree_good nodes _ _ _ c h (omega arith)) (tree_good nodes _ _ _ d h (omega arith)))
  tree_good nodes kind n m (try_catch e a b c) (suc h) l = let x = tree_ends nodes _ _ _ a in let y = tree_ends nodes _ _ _ b in let z = tree_ends nodes _ _ _ c in
      found nodes h n _ e (try_stands nodes h n _ _ _ e (tree_good nodes _ _ _ a h (omega arith)) (tree_good nodes _ _ _ b h (omega arith)) (tree_good nodes _ _ _ c h (omega arith)))
  tree_good nodes kind n m (finally e a b) (suc h) l = let x = tree_ends nodes _ _ _ a in let y = tree_ends nodes _ _ _ b in
      found nodes h n _ e (finally_stands nodes h n _ _ e (tree_good nodes _ _ _ a h (omega arith)) (tree_good nodes _ _ _ b h (omega arith)))
  tree_good nodes kind n m (hide e a) (suc h) l = found nodes h n _ e (hide_stands nodes h n _ e (tree_good nodes _ _ _ a h (omega arith)))
  tree_good nodes kind n m (match_bind e a b) (suc h) l = let x = tree_ends nodes _ _ _ a in let y = tree_ends nodes _ _ _ b in
      found nodes h n _ e (match_stands nodes h n _ _ e (tree_good nodes _ _ _ a h (omega arith)) (tree_good nodes _ _ _ b h (omega arith)))
  tree_good nodes kind n m (object e a r q) (suc h) l = let x = tree_ends nodes _ _ _ a in let y = row_ends nodes _ _ _ _ r in let z = row_ends nodes _ _ _ _ q in
      found nodes h n _ e (object_stands nodes h n _ _ _ e (tree_good nodes _ _ _ a h (omega arith)) (row_good nodes _ _ _ _ r h (omega arith)) (row_good nodes _ _ _ _ q h (omega arith)))
  tree_good nodes kind n m (method e i r a) (suc h) l = let x = row_ends nodes _ _ _ _ r in let y = tree_ends nodes _ _ _ a in
      found nodes h n _ e (method_stands nodes h n _ _ _ e (row_good nodes _ _ _ _ r h (omega arith)) (tree_good nodes _ _ _ a h (omega arith)))
  tree_good nodes kind n m (matcher e a b) (suc h) l = let x = tree_ends nodes _ _ _ a in let y = tree_ends nodes _ _ _ b in
      found nodes h n _ e (matcher_stands nodes h n _ _ e (tree_good nodes _ _ _ a h (omega arith)) (tree_good nodes _ _ _ b h (omega arith)))
  tree_good nodes kind n m (final e i) (suc h) l = found nodes h n _ e (final_stands nodes h n _ None e tt)
  tree_good nodes kind n m (final_guarded e i a) (suc h) l = found nodes h n _ e (final_stands nodes h n _ (Some _) e (tree_good nodes _ _ _ a h (omega arith)))
  tree_good nodes kind n m (variable e i) (suc h) l = found nodes h n _ e (var_stands nodes h n _ None e tt)
  tree_good nodes kind n m (variable_guarded e i a) (suc h) l = found nodes h n _ e (var_stands nodes h n _ (Some _) e (tree_good nodes _ _ _ a h (omega arith)))
  tree_good nodes kind n m (any e) (suc h) l = found nodes h n _ e (any_stands nodes h n None e tt)
  tree_good nodes kind n m (any_guarded e a) (suc h) l = found nodes h n _ e (any_stands nodes h n (Some _) e (tree_good nodes _ _ _ a h (omega arith)))
  tree_good nodes kind n m (list e r) (suc h) l = found nodes h n _ e (list_stands nodes h n _ e (row_good nodes _ _ _ _ r h (omega arith)))
  tree_good nodes kind n m (via e a b) (suc h) l = let x = tree_ends nodes _ _ _ a in let y = tree_ends nodes _ _ _ b in
      found nodes h n _ e (via_stands nodes h n _ _ e (tree_good nodes _ _ _ a h (omega arith)) (tree_good nodes _ _ _ b h (omega arith)))
  tree_good nodes kind n m (named e i) (suc h) l = found nodes h n _ e (final_stands nodes h n _ None e tt)
  tree_good nodes kind n m (unnamed e) (suc h) l = found nodes h n _ e (any_stands nodes h n None e tt)

  row_good : (nodes : List Node) (kind : Kind) (starts : List ℕ) (n m : ℕ) → Row nodes kind starts n m → (h : ℕ) → m ≤ n + h → AllGood nodes h starts
  row_good nodes kind starts n m none h l = tt
  row_good nodes kind starts n m (trees.one_more a r) h l = let x = tree_ends nodes _ _ _ a in let y = row_ends nodes _ _ _ _ r in (tree_good nodes _ _ _ a h (omega arith), row_good nodes _ _ _ _ r h (omega arith))

pub accepted_scoped : AcceptedTreesAreScoped
accepted_scoped nodes given t f = let a = tree_good nodes _ _ _ t (length nodes) (omega arith) (started given) f in ((scan nodes (length nodes) zero (started given)).scopes, a.scoped)
