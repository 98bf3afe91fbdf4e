-- A fault that was found stays: where none is found in the end, none was found on the way.
use Rattle.std.proofs.Common.{◌≡◌, ℕ, zero, suc, Bool, true, false, not, ◌&&◌, List, [], ◌∷◌, Option, Some, None, refl}
use Rattle.std.specs.Prelude.{slice_get, is_some}
use Rattle.def_kernel.specs.declared.node.Node.{Node}
use Rattle.def_kernel.specs.declared.node.Node.TheVariants.{Lit, Noun, Set, Def, Call, Sequence, If, Escape, Try, Finally, Hide, MatchBind, Object, Method, Matcher, Final, Var, Any, ListPattern, Via}
use Rattle.ev_reader.specs.declared.scope_fault.ScopeFault.{ScopeFault}
use Rattle.ev_reader.specs.declared.scope_fault.ScopeFault.TheVariants.{Unbound, AssignToFinal}
use Rattle.ev_reader.specs.declared.scan.Scan.{Scan}
use Rattle.ev_reader.specs.Scopes.{bound, is_bound_here, first, use_of, assignment_of, is_clean, fault_behind, binds, enter, inside, Scanner, all, perhaps, catch, visit, visit_found, scan}

abbrev pub IsClean : Scan → Type 0
IsClean s = s.fault ≡ None

first_some : (o : Option ScopeFault) (f : ScopeFault) → first o f ≡ None → ⊥
first_some (Some e) f h = cc
first_some None f h = cc

-- a noun that is used without a fault is bound, and all is as it was
pub used : (id : ℕ) (o : Option Bool) (s : Scan) → IsClean (use_of id o s) → (b : Bool) × (o ≡ Some b) × (use_of id o s ≡ s)
used id None s h = absurd (first_some s.fault (Unbound id) h)
used id (Some b) s h = (b, refl, refl)

pub assigned : (id : ℕ) (o : Option Bool) (s : Scan) → IsClean (assignment_of id o s) → (o ≡ Some true) × (assignment_of id o s ≡ s)
assigned id None s h = absurd (first_some s.fault (Unbound id) h)
assigned id (Some true) s h = (refl, refl)
assigned id (Some false) s h = absurd (first_some s.fault (AssignToFinal id) h)

behind : (id : ℕ) (b : Bool) (o : Option ScopeFault) → fault_behind id b o ≡ None → (b ≡ false) × (o ≡ None)
behind id true o h = cc
behind id false o h = (refl, h)

not_both : (b : Bool) → true && b ≡ false → b ≡ false
not_both b h = h

none_clean : (o : Option ScopeFault) → o ≡ None → not (is_some o) ≡ true
none_clean None h = refl
none_clean (Some f) h = cc

-- a name that is bound without a fault was not bound in its scope
pub binding_new : (id : ℕ) (s : Scan) (t : Scan) (name : List ℕ) (v : Bool) → IsClean s → IsClean (binds id (is_clean s) name v t) → is_bound_here name t.scopes ≡ false
binding_new id s t name v c h = let b = (behind id (is_clean s && is_bound_here name t.scopes) t.fault h).0 in let e : is_clean s ≡ true = none_clean s.fault c in free (is_clean s) (is_bound_here name t.scopes) e b
  where
    free : (a b : Bool) → a ≡ true → a && b ≡ false → b ≡ false
    free true b e f = f
    free false b e f = cc

pub bound_clean : (id : ℕ) (b : Bool) (t : Scan) (name : List ℕ) (v : Bool) → IsClean (binds id b name v t) → IsClean t
bound_clean id b t name v h = (behind id (b && is_bound_here name t.scopes) t.fault h).1

-- what keeps each fault
abbrev pub Stays : Scanner → Type 0
Stays rec = (id : ℕ) (s : Scan) → IsClean (rec id s) → IsClean s

module _ (rec : Scanner) (stays : Stays rec) where
  pub all_clean : (ids : List ℕ) (s : Scan) → IsClean (all rec ids s) → IsClean s
  all_clean [] s h = h
  all_clean (id ∷ ids) s h = stays id s (all_clean ids (rec id s) h)

  pub perhaps_clean : (o : Option ℕ) (s : Scan) → IsClean (perhaps rec o s) → IsClean s
  perhaps_clean None s h = h
  perhaps_clean (Some id) s h = stays id s h

  pub inside_clean : (id : ℕ) (s : Scan) → IsClean (inside (rec id) s) → IsClean s
  inside_clean id s h = stays id (enter s) h

  pub inside_two : (a b : ℕ) (s : Scan) → IsClean (inside (λ u. rec b (rec a u)) s) → IsClean s
  inside_two a b s h = stays a (enter s) (stays b (rec a (enter s)) h)

  pub catch_clean : (o : Option (ℕ × ℕ)) (s : Scan) → IsClean (catch rec o s) → IsClean s
  catch_clean None s h = h
  catch_clean (Some c) s h = inside_two c.0 c.1 s h

  used_clean : (id : ℕ) (o : Option Bool) (s : Scan) → IsClean (use_of id o s) → IsClean s
  used_clean id None s h = absurd (first_some s.fault (Unbound id) h)
  used_clean id (Some b) s h = h

  assigned_clean : (id : ℕ) (o : Option Bool) (s : Scan) → IsClean (assignment_of id o s) → IsClean s
  assigned_clean id None s h = absurd (first_some s.fault (Unbound id) h)
  assigned_clean id (Some true) s h = h
  assigned_clean id (Some false) s h = absurd (first_some s.fault (AssignToFinal id) h)

  visit_clean : (id : ℕ) (node : Node) (s : Scan) → IsClean (visit rec id node s) → IsClean s
  visit_clean id (Lit l) s h = h
  visit_clean id (Noun name) s h = used_clean id (bound name s.scopes) s h
  visit_clean id (Set name e) s h = assigned_clean id (bound name s.scopes) s (stays e (assignment_of id (bound name s.scopes) s) h)
  visit_clean id (Def p exit e) s h = perhaps_clean exit s (stays e (perhaps rec exit s) (stays p (rec e (perhaps rec exit s)) h))
  visit_clean id (Call r verb args) s h = stays r s (all_clean args (rec r s) h)
  visit_clean id (Sequence parts) s h = all_clean parts s h
  visit_clean id (If a b c) s h = inside_two a b s (inside_clean c (inside (λ u. rec b (rec a u)) s) h)
  visit_clean id (Escape p b c) s h = inside_two p b s (catch_clean c (inside (λ u. rec b (rec p u)) s) h)
  visit_clean id (Try b p t) s h = inside_clean b s (inside_two p t (inside (rec b) s) h)
  visit_clean id (Finally a b) s h = inside_clean a s (inside_clean b (inside (rec a) s) h)
  visit_clean id (Hide e) s h = inside_clean e s h
  visit_clean id (MatchBind e p) s h = stays e s (stays p (rec e s) h)
  visit_clean id (Object p auditors members) s h = all_clean auditors s (stays p (all rec auditors s) (all_clean members (rec p (all rec auditors s)) h))
  visit_clean id (Method verb patterns b) s h = all_clean patterns (enter s) (stays b (all rec patterns (enter s)) h)
  visit_clean id (Matcher p b) s h = inside_two p b s h
  visit_clean id (Final name guard) s h = perhaps_clean guard s (bound_clean id (is_clean s) (perhaps rec guard s) name false h)
  visit_clean id (Var name guard) s h = perhaps_clean guard s (bound_clean id (is_clean s) (perhaps rec guard s) name true h)
  visit_clean id (Any guard) s h = perhaps_clean guard s h
  visit_clean id (ListPattern patterns) s h = all_clean patterns s h
  visit_clean id (Via e p) s h = stays e s (stays p (rec e s) h)

  found_clean : (id : ℕ) (o : Option Node) (s : Scan) → IsClean (visit_found rec id o s) → IsClean s
  found_clean id None s h = h
  found_clean id (Some node) s h = visit_clean id node s h

-- to every height
pub scan_clean : (nodes : List Node) (h : ℕ) → Stays (scan nodes h)
scan_clean nodes zero id s c = c
scan_clean nodes (suc h) id s c = found_clean (scan nodes h) (scan_clean nodes h) id (slice_get nodes id) s c
