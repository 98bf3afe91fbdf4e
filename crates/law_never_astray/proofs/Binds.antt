-- What a part of a tree binds in the scope in which it stands is what is bound there after it.
use Rattle.std.proofs.Common.{◌≡◌, ℕ, zero, suc, Bool, true, false, List, [], ◌∷◌, ◌++◌, Option, Some, None, refl, sym, ap, subst, ◌∙◌, ◌⊎◌, inl, inr, append_assoc}
use Rattle.std.specs.Prelude.{slice_get, drop}
use Rattle.def_machine.specs.State.{WhereSome}
use Rattle.def_machine.specs.Free.{BoundNoun, of_all, of_option, of_node, of_found, bound_at}
use Rattle.def_kernel.specs.declared.node.Node.{Node}
use Rattle.def_kernel.specs.declared.shape.Kind.{Kind}
use Rattle.def_kernel.specs.declared.shape.Kind.TheVariants.{Expression, Pattern, Member, Naming}
use Rattle.def_kernel.specs.Trees.{Has}
use Rattle.ev_reader.specs.Scopes.{is_bound_here, with_name_here}
use Rattle.law_never_astray.specs.Scoped.{Scopes, Scoped, MayScoped, AllScoped, is_literal, is_noun, is_set, is_def, is_call, is_sequence, is_choice, is_escape, is_escape_catch, is_try, is_finally, is_hide, is_match, is_object, is_method, is_matcher, is_final, is_var, is_any, is_list, is_via, has_none, has_one, no_more, one_more}
use Rattle.law_never_astray.specs.Formed.{AllOf, FormedWithin}
use Rattle.law_never_astray.proofs.Parts.{within_parts, of_set, of_def, of_call, of_sequence, of_match, of_object, of_final, of_var, of_any, of_list, of_via}
use Rattle.law_never_astray.proofs.Statics.{IsOpen, here, not_here, here_new, here_other, open_named, outer_named}

-- a noun is among these, and so bound
abbrev pub Told : List ℕ → Bool → List BoundNoun → Type 0
Told x v [] = ⊥
Told x v (b ∷ bs) = ((x ≡ b.noun) × (v ≡ b.is_var)) ⊎ Told x v bs

told_left : (x : List ℕ) (v : Bool) (bs cs : List BoundNoun) → Told x v bs → Told x v (bs ++ cs)
told_left x v [] cs h = absurd h
told_left x v (b ∷ bs) cs (inl h) = inl h
told_left x v (b ∷ bs) cs (inr h) = inr (told_left x v bs cs h)

told_right : (x : List ℕ) (v : Bool) (bs cs : List BoundNoun) → Told x v cs → Told x v (bs ++ cs)
told_right x v [] cs h = h
told_right x v (b ∷ bs) cs h = inr (told_right x v bs cs h)

told_either : (x : List ℕ) (v : Bool) (bs cs : List BoundNoun) → Told x v (bs ++ cs) → Told x v bs ⊎ Told x v cs
told_either x v [] cs h = inr h
told_either x v (b ∷ bs) cs (inl h) = inl (inl h)
told_either x v (b ∷ bs) cs (inr h) = go (told_either x v bs cs h)
  where
    go : Told x v bs ⊎ Told x v cs → Told x v (b ∷ bs) ⊎ Told x v cs
    go (inl g) = inl (inr g)
    go (inr g) = inr g

told_turned : (x : List ℕ) (v : Bool) (bs cs : List BoundNoun) → Told x v (bs ++ cs) → Told x v (cs ++ bs)
told_turned x v bs cs h = go (told_either x v bs cs h)
  where
    go : Told x v bs ⊎ Told x v cs → Told x v (cs ++ bs)
    go (inl g) = told_right x v cs bs g
    go (inr g) = told_left x v cs bs g

-- from the first scopes to the second these are bound, each for the first time in its scope, and no other
pub record Binds (s : Scopes) (bs : List BoundNoun) (t : Scopes) : Type 0 where
  pub new : (x : List ℕ) (v : Bool) → Told x v bs → (here x s ≡ None) × (here x t ≡ Some v)
  pub old : (x : List ℕ) → ((v : Bool) → Told x v bs → ⊥) → here x t ≡ here x s
  pub outer : drop 1 t ≡ drop 1 s
  pub opened : IsOpen t

pub binds_none : (s : Scopes) → IsOpen s → Binds s [] s
binds_none s o = record { new = λ x v h. absurd h; old = λ x h. refl; outer = refl; opened = o }

none_some : (o : Option Bool) (v : Bool) → o ≡ None → o ≡ Some v → ⊥
none_some o v e f = cc

pub binds_both : (s t u : Scopes) (bs cs : List BoundNoun) → Binds s bs t → Binds t cs u → Binds s (bs ++ cs) u
binds_both s t u bs cs f g = record { new = λ x v h. new x v (told_either x v bs cs h); old = λ x h. g.old x (λ v k. h v (told_right x v bs cs k)) ∙ f.old x (λ v k. h v (told_left x v bs cs k)); outer = g.outer ∙ f.outer; opened = g.opened }
  where
    new : (x : List ℕ) (v : Bool) → Told x v bs ⊎ Told x v cs → (here x s ≡ None) × (here x u ≡ Some v)
    new x v (inl h) = let a = f.new x v h in (a.0, g.old x (λ w k. none_some (here x t) v (g.new x w k).0 a.1) ∙ a.1)
    new x v (inr h) = let a = g.new x v h in (sym (f.old x (λ w k. none_some (here x t) w a.0 (f.new x w k).1)) ∙ a.0, a.1)

binds_turned : (s t : Scopes) (bs cs : List BoundNoun) → Binds s (bs ++ cs) t → Binds s (cs ++ bs) t
binds_turned s t bs cs f = record { new = λ x v h. f.new x v (told_turned x v cs bs h); old = λ x h. f.old x (λ v k. h v (told_turned x v bs cs k)); outer = f.outer; opened = f.opened }

-- a pattern binds its name
binds_one : (s : Scopes) (x : List ℕ) (v : Bool) → IsOpen s → is_bound_here x s ≡ false → Binds s (record { noun = x; is_var = v } ∷ []) (with_name_here x v s)
binds_one s x v o e = record { new = new; old = λ y h. here_other x y v s e (λ p. h v (inl (p, refl))); outer = outer_named x v s; opened = open_named x v s o }
  where
    new : (y : List ℕ) (w : Bool) → Told y w (record { noun = x; is_var = v } ∷ []) → (here y s ≡ None) × (here y (with_name_here x v s) ≡ Some w)
    new y w (inl h) = (ap (λ z. here z s) h.0 ∙ not_here x s e, ap (λ z. here z (with_name_here x v s)) h.0 ∙ (here_new x v s o e ∙ ap Some (sym h.1)))
    new y w (inr h) = absurd h

binds_named : (s t : Scopes) (x : List ℕ) (v : Bool) (bs : List BoundNoun) → Binds s bs t → is_bound_here x t ≡ false → Binds s (record { noun = x; is_var = v } ∷ bs) (with_name_here x v t)
binds_named s t x v bs f e = binds_turned s (with_name_here x v t) bs (record { noun = x; is_var = v } ∷ []) (binds_both s t (with_name_here x v t) bs _ f (binds_one t x v f.opened e))

module _ (tree : List Node) where
  -- where that node is there
  at_node : (h n : ℕ) (node : Node) (s t : Scopes) → Has tree n node → Binds s (of_node (λ e. bound_at tree h e) node) t → Binds s (bound_at tree (suc h) n) t
  unfolding bound_at of_found
  at_node h n node s t e f = go (slice_get tree n) e
    where
      go : (o : Option Node) → o ≡ Some node → Binds s (of_found (λ e. bound_at tree h e) o) t
      go None i = cc
      go (Some x) i = let same : node ≡ x = cc in subst (λ y. Binds s (of_node (λ e. bound_at tree h e) y) t) same f

  mutual
    unfolding of_node of_option of_all

    pub node_binds : (s t : Scopes) (n : ℕ) → Scoped tree s n t → IsOpen s → (h : ℕ) (kind : Kind) → FormedWithin tree h kind n → Binds s (bound_at tree h n) t
    node_binds s t n d o zero kind f = absurd f
    node_binds s t n (is_literal e) o (suc h) kind f = at_node h n _ s t e (binds_none s o)
    node_binds s t n (is_noun e b) o (suc h) kind f = at_node h n _ s t e (binds_none s o)
    node_binds s t n (is_set e b a) o (suc h) kind f = at_node h n _ s t e (node_binds s t _ a o h Expression (of_set tree h kind n f e))
    node_binds s t n (is_def {p = i} {e = c} {exit = k} e j a p) o (suc h) kind f = let g = of_def tree h kind n f e in
        let x = may_binds s _ _ j o h g.1 in let y = node_binds _ _ _ a x.opened h Expression g.2 in let z = node_binds _ t _ p y.opened h Pattern g.0 in
        at_node h n _ s t e (subst (λ bs. Binds s bs t) (sym (append_assoc (bound_at tree h i) (of_option (λ e. bound_at tree h e) k) (bound_at tree h c)))
        (binds_turned s t (of_option (λ e. bound_at tree h e) k ++ bound_at tree h c) (bound_at tree h i) (binds_both s _ t _ _ (binds_both s _ _ _ _ x y) z)))
    node_binds s t n (is_call e r as') o (suc h) kind f = let g = of_call tree h kind n f e in
        let x = node_binds s _ _ r o h Expression g.0 in at_node h n _ s t e (binds_both s _ t _ _ x (all_binds _ t _ as' x.opened h Expression g.1))
    node_binds s t n (is_sequence e a) o (suc h) kind f = at_node h n _ s t e (all_binds s t _ a o h Expression (of_sequence tree h kind n f e))
    node_binds s t n (is_choice e a b c) o (suc h) kind f = at_node h n _ s t e (binds_none s o)
    node_binds s t n (is_escape e p b) o (suc h) kind f = at_node h n _ s t e (binds_none s o)
    node_binds s t n (is_escape_catch e p b q c) o (suc h) kind f = at_node h n _ s t e (binds_none s o)
    node_binds s t n (is_try e b p c) o (suc h) kind f = at_node h n _ s t e (binds_none s o)
    node_binds s t n (is_finally e a b) o (suc h) kind f = at_node h n _ s t e (binds_none s o)
    node_binds s t n (is_hide e a) o (suc h) kind f = at_node h n _ s t e (binds_none s o)
    node_binds s t n (is_match e a p) o (suc h) kind f = let g = of_match tree h kind n f e in
        let x = node_binds s _ _ a o h Expression g.0 in at_node h n _ s t e (binds_both s _ t _ _ x (node_binds _ t _ p x.opened h Pattern g.1))
    node_binds s t n (is_object {p = i} {auditors = c} e a p m) o (suc h) kind f = let g = of_object tree h kind n f e in
        let x = all_binds s _ _ a o h Expression g.1 in let y = node_binds _ _ _ p x.opened h Naming g.0 in
        at_node h n _ s t e (subst (λ u. Binds s (bound_at tree h i ++ of_all (λ e. bound_at tree h e) c) u) (members_stay _ t _ m h g.2)
        (binds_turned s _ (of_all (λ e. bound_at tree h e) c) (bound_at tree h i) (binds_both s _ _ _ _ x y)))
    node_binds s t n (is_method e a b) o (suc h) kind f = at_node h n _ s t e (binds_none s o)
    node_binds s t n (is_matcher e p b) o (suc h) kind f = at_node h n _ s t e (binds_none s o)
    node_binds s t n (is_final e g i) o (suc h) kind f = at_node h n _ s t e (binds_named s _ _ false _ (may_binds s _ _ g o h (of_final tree h kind n f e)) i)
    node_binds s t n (is_var e g i) o (suc h) kind f = at_node h n _ s t e (binds_named s _ _ true _ (may_binds s _ _ g o h (of_var tree h kind n f e)) i)
    node_binds s t n (is_any e g) o (suc h) kind f = at_node h n _ s t e (may_binds s t _ g o h (of_any tree h kind n f e))
    node_binds s t n (is_list e a) o (suc h) kind f = at_node h n _ s t e (all_binds s t _ a o h Pattern (of_list tree h kind n f e))
    node_binds s t n (is_via e a p) o (suc h) kind f = let g = of_via tree h kind n f e in
        let x = node_binds s _ _ a o h Expression g.0 in at_node h n _ s t e (binds_both s _ t _ _ x (node_binds _ t _ p x.opened h Pattern g.1))

    pub may_binds : (s t : Scopes) (j : Option ℕ) → MayScoped tree s j t → IsOpen s → (h : ℕ) → WhereSome (FormedWithin tree h Expression) j → Binds s (of_option (λ e. bound_at tree h e) j) t
    may_binds s t j has_none o h f = binds_none s o
    may_binds s t j (has_one a) o h f = node_binds s t _ a o h Expression f

    pub all_binds : (s t : Scopes) (ns : List ℕ) → AllScoped tree s ns t → IsOpen s → (h : ℕ) (kind : Kind) → AllOf (FormedWithin tree h kind) ns → Binds s (of_all (λ e. bound_at tree h e) ns) t
    all_binds s t ns no_more o h kind f = binds_none s o
    all_binds s t ns (one_more a as') o h kind f = let x = node_binds s _ _ a o h kind f.0 in binds_both s _ t _ _ x (all_binds _ t _ as' x.opened h kind f.1)

    -- methods and matchers leave the scopes as they are
    pub members_stay : (s t : Scopes) (ns : List ℕ) → AllScoped tree s ns t → (h : ℕ) → AllOf (FormedWithin tree h Member) ns → s ≡ t
    members_stay s t ns no_more h f = refl
    members_stay s t ns (one_more a as') h f = member_stays s _ _ a h f.0 ∙ members_stay _ t _ as' h f.1

    pub member_stays : (s t : Scopes) (n : ℕ) → Scoped tree s n t → (h : ℕ) → FormedWithin tree h Member n → s ≡ t
    member_stays s t n d zero f = absurd f
    member_stays s t n (is_method e a b) (suc h) f = refl
    member_stays s t n (is_matcher e p b) (suc h) f = refl
    member_stays s t n (is_literal e) (suc h) f = refl
    member_stays s t n (is_noun e b) (suc h) f = refl
    member_stays s t n (is_set e b a) (suc h) f = absurd (within_parts tree h Member n _ f e)
    member_stays s t n (is_def e j a p) (suc h) f = absurd (within_parts tree h Member n _ f e)
    member_stays s t n (is_call e r as') (suc h) f = absurd (within_parts tree h Member n _ f e)
    member_stays s t n (is_sequence e a) (suc h) f = absurd (within_parts tree h Member n _ f e)
    member_stays s t n (is_choice e a b c) (suc h) f = refl
    member_stays s t n (is_escape e p b) (suc h) f = refl
    member_stays s t n (is_escape_catch e p b q c) (suc h) f = refl
    member_stays s t n (is_try e b p c) (suc h) f = refl
    member_stays s t n (is_finally e a b) (suc h) f = refl
    member_stays s t n (is_hide e a) (suc h) f = refl
    member_stays s t n (is_match e a p) (suc h) f = absurd (within_parts tree h Member n _ f e)
    member_stays s t n (is_object e a p m) (suc h) f = absurd (within_parts tree h Member n _ f e)
    member_stays s t n (is_final e g i) (suc h) f = absurd (within_parts tree h Member n _ f e)
    member_stays s t n (is_var e g i) (suc h) f = absurd (within_parts tree h Member n _ f e)
    member_stays s t n (is_any e g) (suc h) f = absurd (within_parts tree h Member n _ f e)
    member_stays s t n (is_list e a) (suc h) f = absurd (within_parts tree h Member n _ f e)
    member_stays s t n (is_via e a p) (suc h) f = absurd (within_parts tree h Member n _ f e)
