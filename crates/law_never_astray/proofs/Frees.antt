-- What stands in scopes stands in those of its free nouns alone.
use Rattle.std.proofs.Common.{◌≡◌, ℕ, zero, suc, Bool, true, false, ◌||◌, List, [], ◌∷◌, ◌++◌, Option, Some, None, refl, sym, subst, ◌∙◌, ◌⊎◌, inl, inr}
use Rattle.std.specs.Prelude.{slice_get}
use Rattle.def_machine.specs.Values.{Words}
use Rattle.def_machine.specs.State.{WhereSome}
use Rattle.def_machine.specs.Free.{has_words, Walk, uses, binds, walk_all, walk_option, inside, walk_object, walk_node, walk_found, walk}
use Rattle.def_kernel.specs.declared.node.Node.{Node}
use Rattle.def_kernel.specs.declared.node.Node.TheVariants.{Lit, Noun, Set, Def, Call, Sequence, If, Escape, Try, Finally, Hide, MatchBind, Object, Method, Matcher, Final, Var, Any, ListPattern, Via}
use Rattle.def_kernel.specs.declared.shape.Kind.{Kind}
use Rattle.def_kernel.specs.declared.shape.Kind.TheVariants.{Expression, Pattern, Member, Naming}
use Rattle.def_kernel.specs.Trees.{Has}
use Rattle.ev_reader.specs.Scopes.{bound, is_bound_here, with_name_here}
use Rattle.law_never_astray.specs.Scoped.{Scopes, Scoped, MayScoped, AllScoped, is_literal, is_noun, is_set, is_def, is_call, is_sequence, is_choice, is_escape, is_escape_catch, is_try, is_finally, is_hide, is_match, is_object, is_method, is_matcher, is_final, is_var, is_any, is_list, is_via, has_none, has_one, no_more, one_more}
use Rattle.law_never_astray.specs.Formed.{AllOf, FormedWithin}
use Rattle.law_never_astray.proofs.Parts.{of_set, of_def, of_call, of_sequence, of_choice, of_escape, of_try, of_finally, of_hide, of_match, of_object, of_method, of_matcher, of_final, of_var, of_any, of_list, of_via}
use Rattle.law_never_astray.proofs.Statics.{IsOpen, here, not_here, here_not, here_new, here_other, bound_new, bound_other, open_named}
use Rattle.law_never_astray.proofs.Words.{has_more, has_either, has_left, has_end, same_or_not}

-- ---- what was bound or used stays so

record Grown (w v : Walk) : Type 0 where
  bound : (x : Words) → has_words x w.bound ≡ true → has_words x v.bound ≡ true
  free : (x : Words) → has_words x w.free ≡ true → has_words x v.free ≡ true

grown_same : (w : Walk) → Grown w w
grown_same w = record { bound = λ x h. h; free = λ x h. h }

grown_both : (w v u : Walk) → Grown w v → Grown v u → Grown w u
grown_both w v u f g = record { bound = λ x h. g.bound x (f.bound x h); free = λ x h. g.free x (f.free x h) }

grown_uses : (x : Words) (w : Walk) → Grown w (uses x w)
unfolding uses
grown_uses x w = go (has_words x w.bound || has_words x w.free)
  where
    go : (b : Bool) → Grown w (elim b [ true ↦ w | false ↦ record w { free = w.free ++ x ∷ [] } ])
    go true = grown_same w
    go false = record { bound = λ y h. h; free = λ y h. has_left y w.free (x ∷ []) h }

grown_binds : (x : Words) (w : Walk) → Grown w (binds x w)
unfolding binds
grown_binds x w = record { bound = λ y h. has_more y x w.bound h; free = λ y h. h }

grown_inside : (f : Walk → Walk) (w : Walk) → Grown w (f w) → Grown w (inside f w)
unfolding inside
grown_inside f w g = record { bound = λ x h. h; free = g.free }

module _ (rec : ℕ → Walk → Walk) (good : (e : ℕ) (w : Walk) → Grown w (rec e w)) where
  grown_two : (a b : ℕ) (w : Walk) → Grown w (rec b (rec a w))
  grown_two a b w = grown_both w (rec a w) _ (good a w) (good b (rec a w))

  grown_all : (es : List ℕ) (w : Walk) → Grown w (walk_all rec es w)
  unfolding walk_all
  grown_all [] w = grown_same w
  grown_all (e ∷ es) w = grown_both w (rec e w) _ (good e w) (grown_all es (rec e w))

  grown_option : (o : Option ℕ) (w : Walk) → Grown w (walk_option rec o w)
  unfolding walk_option
  grown_option None w = grown_same w
  grown_option (Some e) w = good e w

  grown_node : (n : Node) (w : Walk) → Grown w (walk_node rec n w)
  unfolding walk_node walk_object
  grown_node (Lit l) w = grown_same w
  grown_node (Noun x) w = grown_uses x w
  grown_node (Set x e) w = grown_both w (uses x w) _ (grown_uses x w) (good e (uses x w))
  grown_node (Def p j e) w = grown_both w (walk_option rec j w) _ (grown_option j w) (grown_two e p (walk_option rec j w))
  grown_node (Call r v es) w = grown_both w (rec r w) _ (good r w) (grown_all es (rec r w))
  grown_node (Sequence es) w = grown_all es w
  grown_node (If t a b) w = let v : Walk = inside (λ u. rec a (rec t u)) w in grown_both w v _ (grown_inside _ w (grown_two t a w)) (grown_inside (rec b) v (good b v))
  grown_node (Escape p b None) w = grown_inside _ w (grown_two p b w)
  grown_node (Escape p b (Some c)) w = let v : Walk = inside (λ u. rec b (rec p u)) w in grown_both w v _ (grown_inside _ w (grown_two p b w)) (grown_inside _ v (grown_two c.0 c.1 v))
  grown_node (Try b p h) w = let v : Walk = inside (rec b) w in grown_both w v _ (grown_inside _ w (good b w)) (grown_inside _ v (grown_two p h v))
  grown_node (Finally a b) w = let v : Walk = inside (rec a) w in grown_both w v _ (grown_inside _ w (good a w)) (grown_inside _ v (good b v))
  grown_node (Hide e) w = grown_inside _ w (good e w)
  grown_node (MatchBind e p) w = grown_two e p w
  grown_node (Object p auditors members) w = let v : Walk = walk_all rec auditors w in
      grown_both w v _ (grown_all auditors w) (grown_both v (rec p v) _ (good p v) (grown_inside _ (rec p v) (grown_all members (rec p v))))
  grown_node (Method v ps b) w = grown_inside _ w (grown_both w (walk_all rec ps w) _ (grown_all ps w) (good b (walk_all rec ps w)))
  grown_node (Matcher p b) w = grown_inside _ w (grown_two p b w)
  grown_node (Final x g) w = grown_both w (walk_option rec g w) _ (grown_option g w) (grown_binds x (walk_option rec g w))
  grown_node (Var x g) w = grown_both w (walk_option rec g w) _ (grown_option g w) (grown_binds x (walk_option rec g w))
  grown_node (Any g) w = grown_option g w
  grown_node (ListPattern ps) w = grown_all ps w
  grown_node (Via e p) w = grown_two e p w

  grown_found : (o : Option Node) (w : Walk) → Grown w (walk_found rec o w)
  unfolding walk_found
  grown_found None w = grown_same w
  grown_found (Some n) w = grown_node n w

grown_at : (tree : List Node) (d e : ℕ) (w : Walk) → Grown w (walk tree d e w)
unfolding walk
grown_at tree zero e w = grown_same w
grown_at tree (suc d) e w = grown_found (λ e w. walk tree d e w) (grown_at tree d) (slice_get tree e) w

-- ---- scopes that have the same of what is bound there and of the free nouns

pub record Like (F B : List Words) (s t : Scopes) : Type 0 where
  pub same : (x : Words) → (has_words x B ≡ true) ⊎ (has_words x F ≡ true) → bound x t ≡ bound x s
  pub unbound : (x : Words) → here x s ≡ None → here x t ≡ None
  pub wide : IsOpen s
  pub narrow : IsOpen t

like_inside : (F B : List Words) (s t : Scopes) → Like F B s t → Like F B ([] ∷ s) ([] ∷ t)
like_inside F B s t l = record { same = l.same; unbound = λ x h. refl; wide = tt; narrow = tt }

like_less : (F B C : List Words) (s t : Scopes) → ((x : Words) → has_words x C ≡ true → has_words x B ≡ true) → Like F B s t → Like F C s t
like_less F B C s t f l = record { same = λ x h. l.same x (up x h); unbound = l.unbound; wide = l.wide; narrow = l.narrow }
  where
    up : (x : Words) → (has_words x C ≡ true) ⊎ (has_words x F ≡ true) → (has_words x B ≡ true) ⊎ (has_words x F ≡ true)
    up x (inl h) = inl (f x h)
    up x (inr h) = inr h

like_named : (F B : List Words) (x : Words) (v : Bool) (s t : Scopes) → is_bound_here x s ≡ false → Like F B s t → Like F (x ∷ B) (with_name_here x v s) (with_name_here x v t)
like_named F B x v s t e l = record { same = λ y h. same y (same_or_not y x) h; unbound = λ y h. unbound y (same_or_not y x) h; wide = open_named x v s l.wide; narrow = open_named x v t l.narrow }
  where
    f : is_bound_here x t ≡ false
    f = here_not x t (l.unbound x (not_here x s e))

    same : (y : Words) → (y ≡ x) ⊎ (y ≡ x → ⊥) → (has_words y (x ∷ B) ≡ true) ⊎ (has_words y F ≡ true) → bound y (with_name_here x v t) ≡ bound y (with_name_here x v s)
    same y (inl i) h = subst (λ z. bound z (with_name_here x v t) ≡ bound z (with_name_here x v s)) (sym i) (bound_new x v t l.narrow f ∙ sym (bound_new x v s l.wide e))
    same y (inr n) h = bound_other x y v t f n ∙ (l.same y (less h) ∙ sym (bound_other x y v s e n))
      where
        less : (has_words y (x ∷ B) ≡ true) ⊎ (has_words y F ≡ true) → (has_words y B ≡ true) ⊎ (has_words y F ≡ true)
        less (inr h) = inr h
        less (inl h) = go (has_either y x B h)
          where
            go : (y ≡ x) ⊎ (has_words y B ≡ true) → (has_words y B ≡ true) ⊎ (has_words y F ≡ true)
            go (inl i) = absurd (n i)
            go (inr k) = inl k

    unbound : (y : Words) → (y ≡ x) ⊎ (y ≡ x → ⊥) → here y (with_name_here x v s) ≡ None → here y (with_name_here x v t) ≡ None
    unbound y (inl i) h = let g : here x (with_name_here x v s) ≡ None = subst (λ z. here z (with_name_here x v s) ≡ None) i h in let k : Some v ≡ None = sym (here_new x v s l.wide e) ∙ g in cc
    unbound y (inr n) h = here_other x y v t f n ∙ l.unbound y (sym (here_other x y v s e n) ∙ h)

abbrev pub Within : List Words → Walk → Type 0
Within F w = (x : Words) → has_words x w.free ≡ true → has_words x F ≡ true

less_within : (F : List Words) (w v : Walk) → Grown w v → Within F v → Within F w
less_within F w v g h x i = h x (g.free x i)

-- a noun that is used is bound there or free
used_in : (F : List Words) (x : Words) (w : Walk) → Within F (uses x w) → (has_words x w.bound ≡ true) ⊎ (has_words x F ≡ true)
unfolding uses
used_in F x w h = go (has_words x w.bound) (has_words x w.free) refl refl h
  where
    go : (b c : Bool) → has_words x w.bound ≡ b → has_words x w.free ≡ c → Within F (elim (b || c) [ true ↦ w | false ↦ record w { free = w.free ++ x ∷ [] } ]) → (has_words x w.bound ≡ true) ⊎ (has_words x F ≡ true)
    go true c e f k = inl e
    go false true e f k = inr (k x f)
    go false false e f k = inr (k x (has_end x w.free))

used_bound : (x : Words) (w : Walk) → (uses x w).bound ≡ w.bound
unfolding uses
used_bound x w = go (has_words x w.bound || has_words x w.free)
  where
    go : (b : Bool) → (elim b as (λ _. Walk) [ true ↦ w | false ↦ record w { free = w.free ++ x ∷ [] } ]).bound ≡ w.bound
    go true = refl
    go false = refl

-- ---- nodes

pub record Narrowed (D : Scopes → Type 0) (F B : List Words) (t : Scopes) : Type 0 where
  pub scopes : Scopes
  pub stands : D scopes
  pub like : Like F B t scopes

module _ (tree : List Node) (F : List Words) where
  abbrev pub At : ℕ → ℕ → Walk → Walk
  At d = λ e w. walk tree d e w

  found : (D : Scopes → Type 0) (t : Scopes) (d n : ℕ) (node : Node) (w : Walk) → Has tree n node → (Within F (walk_node (At d) node w) → Narrowed D F (walk_node (At d) node w).bound t) → Within F (walk tree (suc d) n w) → Narrowed D F (walk tree (suc d) n w).bound t
  unfolding walk walk_found
  found D t d n node w e f = go (slice_get tree n) e
    where
      go : (o : Option Node) → o ≡ Some node → Within F (walk_found (At d) o w) → Narrowed D F (walk_found (At d) o w).bound t
      go None i = cc
      go (Some x) i = let same : node ≡ x = cc in subst (λ y. Within F (walk_node (At d) y w) → Narrowed D F (walk_node (At d) y w).bound t) same f

  mutual
    unfolding walk_node walk_object walk_all walk_option inside binds

    node_narrow : (s t : Scopes) (n : ℕ) → Scoped tree s n t → (d : ℕ) (kind : Kind) → FormedWithin tree d kind n → (w : Walk) (r : Scopes) → Like F w.bound s r → Within F (walk tree d n w) → Narrowed (λ u. Scoped tree r n u) F (walk tree d n w).bound t
    node_narrow s t n k zero kind f w r l = absurd f
    node_narrow s t n (is_literal e) (suc d) kind f w r l = found (λ u. Scoped tree r n u) t d n _ w e (λ i. record { scopes = r; stands = is_literal e; like = l })
    node_narrow s t n (is_noun {name = x} e b) (suc d) kind f w r l = found (λ u. Scoped tree r n u) t d n _ w e (λ i. record { scopes = r; stands = is_noun e (l.same x (used_in F x w i) ∙ b); like = subst (λ B. Like F B s r) (sym (used_bound x w)) l })
    node_narrow s t n (is_set {e = c} {name = x} e b a) (suc d) kind f w r l = found (λ u. Scoped tree r n u) t d n _ w e (λ i.
        let y = node_narrow s t c a d Expression (of_set tree d kind n f e) (uses x w) r (subst (λ B. Like F B s r) (sym (used_bound x w)) l) i in
        record { scopes = y.scopes; stands = is_set e (l.same x (used_in F x w (less_within F _ _ (grown_at tree d c (uses x w)) i)) ∙ b) y.stands; like = y.like })
    node_narrow s t n (is_def {p = p} {e = c} {exit = j} e a b q) (suc d) kind f w r l = found (λ u. Scoped tree r n u) t d n _ w e (λ i.
        let g = of_def tree d kind n f e in let v : Walk = walk_option (At d) j w in let u : Walk = walk tree d c v in
        let iu = less_within F u _ (grown_at tree d p u) i in let iv = less_within F v u (grown_at tree d c v) iu in
        let x = may_narrow s _ j a d g.1 w r l iv in let y = node_narrow _ _ c b d Expression g.2 v x.scopes x.like iu in let z = node_narrow _ t p q d Pattern g.0 u y.scopes y.like i in
        record { scopes = z.scopes; stands = is_def e x.stands y.stands z.stands; like = z.like })
    node_narrow s t n (is_call {r = c} {args = cs} e a b) (suc d) kind f w r l = found (λ u. Scoped tree r n u) t d n _ w e (λ i.
        let g = of_call tree d kind n f e in let v : Walk = walk tree d c w in
        let x = node_narrow s _ c a d Expression g.0 w r l (less_within F v _ (grown_all (At d) (grown_at tree d) cs v) i) in let y = all_narrow _ t cs b d Expression g.1 v x.scopes x.like i in
        record { scopes = y.scopes; stands = is_call e x.stands y.stands; like = y.like })
    node_narrow s t n (is_sequence {parts = cs} e a) (suc d) kind f w r l = found (λ u. Scoped tree r n u) t d n _ w e (λ i.
        let x = all_narrow s t cs a d Expression (of_sequence tree d kind n f e) w r l i in record { scopes = x.scopes; stands = is_sequence e x.stands; like = x.like })
    node_narrow s t n (is_choice {a = a} {b = b} {c = c} e x y z) (suc d) kind f w r l = found (λ u. Scoped tree r n u) t d n _ w e (λ i.
        let g = of_choice tree d kind n f e in let v : Walk = inside (λ u. walk tree d b (walk tree d a u)) w in let li = like_inside F w.bound s r l in
        let iv = less_within F v (walk tree d c v) (grown_at tree d c v) i in
        let x' = node_narrow _ _ a x d Expression g.0 w _ li (less_within F (walk tree d a w) _ (grown_at tree d b (walk tree d a w)) iv) in
        let y' = node_narrow _ _ b y d Expression g.1 (walk tree d a w) x'.scopes x'.like iv in let z' = node_narrow _ _ c z d Expression g.2 v _ li i in
        record { scopes = r; stands = is_choice e x'.stands y'.stands z'.stands; like = l })
    node_narrow s t n (is_escape {p = p} {b = b} e x y) (suc d) kind f w r l = found (λ u. Scoped tree r n u) t d n _ w e (λ i.
        let g = of_escape tree d kind n f e in
        let x' = node_narrow _ _ p x d Pattern g.0 w _ (like_inside F w.bound s r l) (less_within F (walk tree d p w) _ (grown_at tree d b (walk tree d p w)) i) in
        let y' = node_narrow _ _ b y d Expression g.1 (walk tree d p w) x'.scopes x'.like i in record { scopes = r; stands = is_escape e x'.stands y'.stands; like = l })
    node_narrow s t n (is_escape_catch {p = p} {b = b} {q = q} {c = c} e x y z h) (suc d) kind f w r l = found (λ u. Scoped tree r n u) t d n _ w e (λ i.
        let g = of_escape tree d kind n f e in let v : Walk = inside (λ u. walk tree d b (walk tree d p u)) w in let li = like_inside F w.bound s r l in
        let iv = less_within F v (walk tree d c (walk tree d q v)) (grown_two (At d) (grown_at tree d) q c v) i in
        let x' = node_narrow _ _ p x d Pattern g.0 w _ li (less_within F (walk tree d p w) _ (grown_at tree d b (walk tree d p w)) iv) in
        let y' = node_narrow _ _ b y d Expression g.1 (walk tree d p w) x'.scopes x'.like iv in
        let z' = node_narrow _ _ q z d Pattern g.2.0 v _ li (less_within F (walk tree d q v) _ (grown_at tree d c (walk tree d q v)) i) in let h' = node_narrow _ _ c h d Expression g.2.1 (walk tree d q v) z'.scopes z'.like i in
        record { scopes = r; stands = is_escape_catch e x'.stands y'.stands z'.stands h'.stands; like = l })
    node_narrow s t n (is_try {b = b} {p = p} {h = c} e x y z) (suc d) kind f w r l = found (λ u. Scoped tree r n u) t d n _ w e (λ i.
        let g = of_try tree d kind n f e in let v : Walk = inside (walk tree d b) w in let li = like_inside F w.bound s r l in
        let iv = less_within F v (walk tree d c (walk tree d p v)) (grown_two (At d) (grown_at tree d) p c v) i in
        let x' = node_narrow _ _ b x d Expression g.0 w _ li iv in
        let y' = node_narrow _ _ p y d Pattern g.1 v _ li (less_within F (walk tree d p v) _ (grown_at tree d c (walk tree d p v)) i) in let z' = node_narrow _ _ c z d Expression g.2 (walk tree d p v) y'.scopes y'.like i in
        record { scopes = r; stands = is_try e x'.stands y'.stands z'.stands; like = l })
    node_narrow s t n (is_finally {a = a} {b = b} e x y) (suc d) kind f w r l = found (λ u. Scoped tree r n u) t d n _ w e (λ i.
        let g = of_finally tree d kind n f e in let v : Walk = inside (walk tree d a) w in let li = like_inside F w.bound s r l in
        let x' = node_narrow _ _ a x d Expression g.0 w _ li (less_within F v (walk tree d b v) (grown_at tree d b v) i) in let y' = node_narrow _ _ b y d Expression g.1 v _ li i in
        record { scopes = r; stands = is_finally e x'.stands y'.stands; like = l })
    node_narrow s t n (is_hide {e = c} e x) (suc d) kind f w r l = found (λ u. Scoped tree r n u) t d n _ w e (λ i.
        let x' = node_narrow _ _ c x d Expression (of_hide tree d kind n f e) w _ (like_inside F w.bound s r l) i in record { scopes = r; stands = is_hide e x'.stands; like = l })
    node_narrow s t n (is_match {e = c} {p = p} e x y) (suc d) kind f w r l = found (λ u. Scoped tree r n u) t d n _ w e (λ i.
        let g = of_match tree d kind n f e in let v : Walk = walk tree d c w in
        let x' = node_narrow s _ c x d Expression g.0 w r l (less_within F v _ (grown_at tree d p v) i) in let y' = node_narrow _ t p y d Pattern g.1 v x'.scopes x'.like i in
        record { scopes = y'.scopes; stands = is_match e x'.stands y'.stands; like = y'.like })
    node_narrow s t n (is_object {p = p} {auditors = cs} {members = ms} e x y z) (suc d) kind f w r l = found (λ u. Scoped tree r n u) t d n _ w e (λ i.
        let g = of_object tree d kind n f e in let v : Walk = walk_all (At d) cs w in let u : Walk = walk tree d p v in let m = grown_all (At d) (grown_at tree d) ms u in
        let iu = less_within F u (walk_all (At d) ms u) m i in
        let x' = all_narrow s _ cs x d Expression g.1 w r l (less_within F v u (grown_at tree d p v) iu) in let y' = node_narrow _ _ p y d Naming g.0 v x'.scopes x'.like iu in
        let z' = all_narrow _ t ms z d Member g.2 u y'.scopes y'.like i in
        record { scopes = z'.scopes; stands = is_object e x'.stands y'.stands z'.stands; like = like_less F _ u.bound t z'.scopes m.bound z'.like })
    node_narrow s t n (is_method {b = b} {patterns = cs} e x y) (suc d) kind f w r l = found (λ u. Scoped tree r n u) t d n _ w e (λ i.
        let g = of_method tree d kind n f e in let v : Walk = walk_all (At d) cs w in
        let x' = all_narrow _ _ cs x d Pattern g.0 w _ (like_inside F w.bound s r l) (less_within F v _ (grown_at tree d b v) i) in let y' = node_narrow _ _ b y d Expression g.1 v x'.scopes x'.like i in
        record { scopes = r; stands = is_method e x'.stands y'.stands; like = l })
    node_narrow s t n (is_matcher {p = p} {b = b} e x y) (suc d) kind f w r l = found (λ u. Scoped tree r n u) t d n _ w e (λ i.
        let g = of_matcher tree d kind n f e in
        let x' = node_narrow _ _ p x d Pattern g.0 w _ (like_inside F w.bound s r l) (less_within F (walk tree d p w) _ (grown_at tree d b (walk tree d p w)) i) in
        let y' = node_narrow _ _ b y d Expression g.1 (walk tree d p w) x'.scopes x'.like i in record { scopes = r; stands = is_matcher e x'.stands y'.stands; like = l })
    node_narrow s t n (is_final {t = q} {name = x} {guard = j} e a b) (suc d) kind f w r l = found (λ u. Scoped tree r n u) t d n _ w e (λ i.
        let x' = may_narrow s q j a d (of_final tree d kind n f e) w r l i in
        record { scopes = with_name_here x false x'.scopes; stands = is_final e x'.stands (here_not x x'.scopes (x'.like.unbound x (not_here x q b))); like = like_named F _ x false q x'.scopes b x'.like })
    node_narrow s t n (is_var {t = q} {name = x} {guard = j} e a b) (suc d) kind f w r l = found (λ u. Scoped tree r n u) t d n _ w e (λ i.
        let x' = may_narrow s q j a d (of_var tree d kind n f e) w r l i in
        record { scopes = with_name_here x true x'.scopes; stands = is_var e x'.stands (here_not x x'.scopes (x'.like.unbound x (not_here x q b))); like = like_named F _ x true q x'.scopes b x'.like })
    node_narrow s t n (is_any {guard = j} e a) (suc d) kind f w r l = found (λ u. Scoped tree r n u) t d n _ w e (λ i.
        let x = may_narrow s t j a d (of_any tree d kind n f e) w r l i in record { scopes = x.scopes; stands = is_any e x.stands; like = x.like })
    node_narrow s t n (is_list {patterns = cs} e a) (suc d) kind f w r l = found (λ u. Scoped tree r n u) t d n _ w e (λ i.
        let x = all_narrow s t cs a d Pattern (of_list tree d kind n f e) w r l i in record { scopes = x.scopes; stands = is_list e x.stands; like = x.like })
    node_narrow s t n (is_via {e = c} {p = p} e x y) (suc d) kind f w r l = found (λ u. Scoped tree r n u) t d n _ w e (λ i.
        let g = of_via tree d kind n f e in let v : Walk = walk tree d c w in
        let x' = node_narrow s _ c x d Expression g.0 w r l (less_within F v _ (grown_at tree d p v) i) in let y' = node_narrow _ t p y d Pattern g.1 v x'.scopes x'.like i in
        record { scopes = y'.scopes; stands = is_via e x'.stands y'.stands; like = y'.like })

    may_narrow : (s t : Scopes) (j : Option ℕ) → MayScoped tree s j t → (d : ℕ) → WhereSome (FormedWithin tree d Expression) j → (w : Walk) (r : Scopes) → Like F w.bound s r → Within F (walk_option (At d) j w) → Narrowed (λ u. MayScoped tree r j u) F (walk_option (At d) j w).bound t
    may_narrow s t j has_none d f w r l i = record { scopes = r; stands = has_none; like = l }
    may_narrow s t j (has_one {n = n} a) d f w r l i = let x = node_narrow s t n a d Expression f w r l i in record { scopes = x.scopes; stands = has_one x.stands; like = x.like }

    pub all_narrow : (s t : Scopes) (ns : List ℕ) → AllScoped tree s ns t → (d : ℕ) (kind : Kind) → AllOf (FormedWithin tree d kind) ns → (w : Walk) (r : Scopes) → Like F w.bound s r → Within F (walk_all (At d) ns w) → Narrowed (λ u. AllScoped tree r ns u) F (walk_all (At d) ns w).bound t
    all_narrow s t ns no_more d kind f w r l i = record { scopes = r; stands = no_more; like = l }
    all_narrow s t ns (one_more {n = n} {ns = ms} a b) d kind f w r l i = let v : Walk = walk tree d n w in
        let x = node_narrow s _ n a d kind f.0 w r l (less_within F v _ (grown_all (At d) (grown_at tree d) ms v) i) in let y = all_narrow _ t ms b d kind f.1 v x.scopes x.like i in
        record { scopes = y.scopes; stands = one_more x.stands y.stands; like = y.like }
