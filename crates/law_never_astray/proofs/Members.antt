-- The methods and matchers of an object that stand in scopes.
use Rattle.std.proofs.Common.{◌≡◌, ℕ, Bool, true, false, ◌&&◌, List, [], ◌∷◌, Option, Some, None, refl, sym, subst, ◌∙◌, length}
use Rattle.std.specs.Prelude.{◌==◌, slice_get}
use Rattle.std.proofs.lemmas.Bool.{eqb-true, and_parts}
use Rattle.def_machine.specs.Values.{Words}
use Rattle.def_machine.specs.Free.{same_words}
use Rattle.def_machine.specs.Scopes.{Body, Case, suits, method_of, matcher_in, matchers_of}
use Rattle.def_kernel.specs.declared.node.Node.{Node}
use Rattle.def_kernel.specs.declared.node.Node.TheVariants.{Method, Matcher}
use Rattle.def_kernel.specs.declared.shape.Kind.TheVariants.{Expression, Pattern, Member}
use Rattle.def_kernel.specs.Trees.{Has}
use Rattle.law_never_astray.specs.Scoped.{Scopes, Scoped, AllScoped, is_literal, is_noun, is_set, is_def, is_call, is_sequence, is_choice, is_escape, is_escape_catch, is_try, is_finally, is_hide, is_match, is_object, is_method, is_matcher, is_final, is_var, is_any, is_list, is_via, no_more, one_more}
use Rattle.law_never_astray.specs.Formed.{AllOf, Formed}
use Rattle.law_never_astray.proofs.Parts.{formed_parts}
use Rattle.law_never_astray.proofs.Binds.{member_stays}
use Rattle.law_never_astray.proofs.Leads.{all_append}

module _ (tree : List Node) where
  data MemberIs (s : Scopes) (m : ℕ) : Type 0 where
    a_method : (v ps : List ℕ) (b : ℕ) (u w : Scopes) → Has tree m (Method v ps b) → AllScoped tree ([] ∷ s) ps u → Scoped tree u b w → MemberIs s m
    a_matcher : (p b : ℕ) (u w : Scopes) → Has tree m (Matcher p b) → Scoped tree ([] ∷ s) p u → Scoped tree u b w → MemberIs s m

  member_is : (s t : Scopes) (m : ℕ) → Scoped tree s m t → Formed tree Member m → MemberIs s m
  member_is s t m (is_method e a b) f = a_method _ _ _ _ _ e a b
  member_is s t m (is_matcher e a b) f = a_matcher _ _ _ _ e a b
  member_is s t m (is_literal e) f = absurd (formed_parts tree Member m _ f e)
  member_is s t m (is_noun e b) f = absurd (formed_parts tree Member m _ f e)
  member_is s t m (is_set e b a) f = absurd (formed_parts tree Member m _ f e)
  member_is s t m (is_def e j a p) f = absurd (formed_parts tree Member m _ f e)
  member_is s t m (is_call e r a) f = absurd (formed_parts tree Member m _ f e)
  member_is s t m (is_sequence e a) f = absurd (formed_parts tree Member m _ f e)
  member_is s t m (is_choice e a b c) f = absurd (formed_parts tree Member m _ f e)
  member_is s t m (is_escape e p b) f = absurd (formed_parts tree Member m _ f e)
  member_is s t m (is_escape_catch e p b q c) f = absurd (formed_parts tree Member m _ f e)
  member_is s t m (is_try e b p c) f = absurd (formed_parts tree Member m _ f e)
  member_is s t m (is_finally e a b) f = absurd (formed_parts tree Member m _ f e)
  member_is s t m (is_hide e a) f = absurd (formed_parts tree Member m _ f e)
  member_is s t m (is_match e a p) f = absurd (formed_parts tree Member m _ f e)
  member_is s t m (is_object e a p b) f = absurd (formed_parts tree Member m _ f e)
  member_is s t m (is_final e g i) f = absurd (formed_parts tree Member m _ f e)
  member_is s t m (is_var e g i) f = absurd (formed_parts tree Member m _ f e)
  member_is s t m (is_any e g) f = absurd (formed_parts tree Member m _ f e)
  member_is s t m (is_list e a) f = absurd (formed_parts tree Member m _ f e)
  member_is s t m (is_via e a p) f = absurd (formed_parts tree Member m _ f e)

  -- what a method runs stands in a scope of its own, with as many patterns as that
  pub record BodyStands (s : Scopes) (n : ℕ) (b : Body) : Type 0 where
    pub inner : Scopes
    pub end : Scopes
    pub patterns : AllScoped tree ([] ∷ s) b.patterns inner
    pub body : Scoped tree inner b.body end
    pub are_patterns : AllOf (Formed tree Pattern) b.patterns
    pub is_expression : Formed tree Expression b.body
    pub many : length b.patterns ≡ n

  pub record CaseStands (s : Scopes) (c : Case) : Type 0 where
    pub inner : Scopes
    pub end : Scopes
    pub pattern : Scoped tree ([] ∷ s) c.pattern inner
    pub body : Scoped tree inner c.body end
    pub is_pattern : Formed tree Pattern c.pattern
    pub is_expression : Formed tree Expression c.body

  suits_method : (s u w : Scopes) (verb v ps : List ℕ) (n c : ℕ) (b : Body) → AllScoped tree ([] ∷ s) ps u → Scoped tree u c w → AllOf (Formed tree Pattern) ps → Formed tree Expression c → suits verb n (Some (Method v ps c)) ≡ Some b → BodyStands s n b
  unfolding suits
  suits_method s u w verb v ps n c b a d f g e = go (same_words v verb && (length ps == n)) refl e
    where
      go : (t : Bool) → same_words v verb && (length ps == n) ≡ t → ◌≡◌ {A = Option Body} (elim t [ true ↦ Some (record { patterns = ps; body = c }) | false ↦ None ]) (Some b) → BodyStands s n b
      go true h i = let same : record { patterns = ps; body = c } ≡ b = cc in
          subst (BodyStands s n) same (record { inner = u; end = w; patterns = a; body = d; are_patterns = f; is_expression = g; many = eqb-true (length ps) n (and_parts (same_words v verb) (length ps == n) h).1 })
      go false h i = cc

  suits_member : (s : Scopes) (m : ℕ) (verb : Words) (n : ℕ) (b : Body) → Formed tree Member m → MemberIs s m → suits verb n (slice_get tree m) ≡ Some b → BodyStands s n b
  unfolding suits
  suits_member s m verb n b f (a_method v ps c u w h a d) e = let g = formed_parts tree Member m _ f h in suits_method s u w verb v ps n c b a d g.0 g.1 (subst (λ o. suits verb n o ≡ Some b) h e)
  suits_member s m verb n b f (a_matcher p c u w h a d) e = let g : None ≡ Some b = subst (λ o. suits verb n o ≡ Some b) h e in cc

  pub body_stands : (s t : Scopes) (members : List ℕ) (verb : Words) (n : ℕ) (b : Body) → AllScoped tree s members t → AllOf (Formed tree Member) members → method_of tree members verb n ≡ Some b → BodyStands s n b
  unfolding method_of
  body_stands s t members verb n b no_more f e = cc
  body_stands s t members verb n b (one_more {t = r} {n = m} {ns = ms} a d) f e = go (suits verb n (slice_get tree m)) refl e (λ i. body_stands r t ms verb n b d f.1 i)
    where
      go : (o : Option Body) → suits verb n (slice_get tree m) ≡ o → elim o as (λ _. Option Body) [ Some x ↦ Some x | None ↦ method_of tree ms verb n ] ≡ Some b → (method_of tree ms verb n ≡ Some b → BodyStands r n b) → BodyStands s n b
      go (Some x) g h k = suits_member s m verb n b f.0 (member_is s r m a f.0) (g ∙ h)
      go None g h k = subst (λ u. BodyStands u n b) (sym (member_stays tree s r m a (length tree) f.0)) (k h)

  case_stands : (s : Scopes) (m : ℕ) → Formed tree Member m → MemberIs s m → AllOf (CaseStands s) (matcher_in (slice_get tree m))
  unfolding matcher_in
  case_stands s m f (a_method v ps c u w h a d) = subst (λ o. AllOf (CaseStands s) (matcher_in o)) (sym h) tt
  case_stands s m f (a_matcher p c u w h a d) = let g = formed_parts tree Member m _ f h in subst (λ o. AllOf (CaseStands s) (matcher_in o)) (sym h) (record { inner = u; end = w; pattern = a; body = d; is_pattern = g.0; is_expression = g.1 }, tt)

  pub cases_stand : (s t : Scopes) (members : List ℕ) → AllScoped tree s members t → AllOf (Formed tree Member) members → AllOf (CaseStands s) (matchers_of tree members)
  unfolding matchers_of
  cases_stand s t members no_more f = tt
  cases_stand s t members (one_more {t = r} {n = m} {ns = ms} a d) f = all_append (CaseStands s) (matcher_in (slice_get tree m)) (matchers_of tree ms) (case_stands s m f.0 (member_is s r m a f.0))
      (subst (λ u. AllOf (CaseStands u) (matchers_of tree ms)) (sym (member_stays tree s r m a (length tree) f.0)) (cases_stand r t ms d f.1))
