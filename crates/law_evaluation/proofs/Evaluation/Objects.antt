-- Objects in the code's evaluation stand for the machine's: calls on them.
use Rattle.std.proofs.Common.{◌≡◌, ℕ, Bool, true, false, List, [], ◌∷◌, Option, Some, None, Ok, Err, length, map, refl, sym, subst}
use Rattle.std.specs.Prelude.{◌==◌, if◌then◌else◌, reverse, slice_get, option_map}
use Rattle.std.proofs.lemmas.List.{length-map}
use Rattle.ev_base.specs.declared.values.Value.{Value as Held}
use Rattle.ev_base.specs.declared.values.Value.TheVariants as held
use Rattle.ev_heap.specs.declared.happened.Happened.TheVariants as event
use Rattle.ev_heap.specs.declared.kept.AuditView.{AuditView}
use Rattle.ev_heap.specs.declared.kept.Caught.{Caught}
use Rattle.ev_heap.specs.declared.kept.Shape.{Shape}
use Rattle.ev_heap.specs.declared.kept.Shape.TheVariants as shape
use Rattle.ev_heap.specs.declared.kept.Thing.{Thing as HeldThing}
use Rattle.def_kernel.specs.declared.node.Node.{Node}
use Rattle.def_kernel.specs.declared.node.Node.TheVariants.{Method}
use Rattle.def_machine.specs.Values.{Words, Value, Text, Ref, Local, Obj, Prom, local_spot, numbering}
use Rattle.def_machine.specs.State.{Binding as Bond, Scope as Surroundings, Got, Called, Made, Resolver, Audition, Vat, Done, Throws, Ejects, Stops, opened_state}
use Rattle.def_machine.specs.State as machine
use Rattle.def_machine.specs.Scopes as scopes
use Rattle.def_machine.specs.Calls as calls
use Rattle.def_machine.specs.Perform as perform
use Rattle.ev_prims.specs.declared.problem.Problem.TheVariants.{NoMethod}
use Rattle.ev_room.specs.declared.object.Object.{Object}
use Rattle.ev_room.specs.declared.exit.Exit.TheVariants as exit
use Rattle.ev_pass.specs.declared.interior.Interior.{Interior as Room}
use Rattle.ev_room.specs.declared.scope.Binding.{Binding}
use Rattle.ev_room.specs.declared.scope.Scope.{Scope}
use Rattle.ev_audit.specs.Asks.{asking}
use Rattle.ev_audit.specs.Views.{view_of as seen_of}
use Rattle.ev_room.specs.Reading.{World, names, text_of, value_of, values_of, line_of, shape_in, thing_of}
use Rattle.ev_room.specs.Sound.{Grown, IsSound, IsPlainShape, IsPlainThing, caught_of, is_there, are_there, are_bound}
use Rattle.ev_steps.specs.Steps.{Caller, Evaluator, audition_answer, call_audition, bind_all, run_method, handed_over, matched, match_all, message_pair, try_matchers, value_of_matchers, run_found, run_object, call_made, call_code, call_object}
use Rattle.ev_room.specs.Acts.{Out, Act, and_then, ◌>>=◌, ◌>>◌, give, fail, text_value, make_list, first_method, closed, code_in, code_of, look_code}
use Rattle.law_evaluation.proofs.Acts.Leaving.{call_ejector_met, new_ejector_met, leave_met}
use Rattle.law_evaluation.proofs.Acts.Closes.{called_line, closed_met}
use Rattle.ev_steps.specs.Eventual.{resolving, resolver_answer, call_resolver}
use Rattle.law_evaluation.proofs.Acts.Promises.{resolver_met}
use Rattle.law_evaluation.proofs.Evaluation.Auditing.{audition_met}
use Rattle.law_evaluation.proofs.Evaluation.Calls.{CallsMet}
use Rattle.law_evaluation.proofs.Evaluation.IsMet.{IsMet}
use Rattle.law_evaluation.proofs.Acts.Sounds.{all_on, all_and, grown_on, scope_on, there_on}
use Rattle.law_evaluation.proofs.Acts.Stands.{Look, Met, vat, a_value, an_answer, a_scope, bond_of, scope_of, then_met, ended_met, give_met, stop_met, throw_met, eject_met, tell_met, fails_met, text_met, list_met, activation_met}
use Rattle.ev_room.proofs.There.{both}
use Rattle.law_evaluation.proofs.Acts.Making.{turned_is, reverse_there, things_at, thing_is, code_is, body_of, method_is}

-- ---- methods

pub bind_all_met : (w : World) (tree : List Node) (rec : Evaluator) (their : scopes.Evaluator Local) (h : IsMet w rec their) (ps : List ℕ) (vs : List Held) (j : Held) (here : Scope) (s : Room) → IsSound s → are_there s.heap vs ≡ true → is_there s.heap j ≡ true → are_bound s.heap here.nouns ≡ true
    → Met w a_scope s (bind_all rec ps vs j here s) (calls.bind_all (names w) tree their ps (values_of w vs) (value_of w j) (scope_of w here) (vat w s))
unfolding bind_all calls.bind_all ◌>>=◌ machine.◌>>=◌
bind_all_met w tree rec their h [] vs j here s sound i l k = give_met w a_scope here s sound k
bind_all_met w tree rec their h (p ∷ ps) [] j here s sound i l k = give_met w a_scope here s sound k
bind_all_met w tree rec their h (p ∷ ps) (v ∷ vs) j here s sound i l k =
    let b = both (is_there s.heap v) (are_there s.heap vs) i in
    then_met _ _ (h.pattern p v j here s sound b.0 l k) (λ after t q m g. bind_all_met w tree rec their h ps vs j after t q (all_on g vs b.1) (there_on g j l) m)

method_met : (w : World) (tree : List Node) (rec : Evaluator) (their : scopes.Evaluator Local) (h : IsMet w rec their) (ms : List scopes.Case) (verb : Words) (ps : List ℕ) (b : ℕ) (args : List Held) (here : Scope) (s : Room) → IsSound s → are_there s.heap args ≡ true → are_bound s.heap here.nouns ≡ true
    → Met w a_value s (run_method rec ps b args here s) (calls.run_body (names w) tree their ms verb (Some (record { patterns = ps; body = b })) (values_of w args) (scope_of w here) (vat w s))
unfolding run_method calls.run_body ◌>>=◌ machine.◌>>=◌
method_met w tree rec their h ms verb ps b args here s sound i k =
    then_met _ _ (bind_all_met w tree rec their h ps args held.Null here s sound i refl k) (λ inner t q j g. then_met _ _ (h.expression b inner t q j) (λ x u r l e. give_met w a_value x.0 u r l.0))

-- ---- matchers

-- a value, without the scope after it
abbrev alone_of : Look (Held × Scope) (Value Local)
alone_of = record { of = λ w a. value_of w a.0; fits = λ h a. is_there h a.0 ≡ true }

got_line : (w : World) (act : ℕ) (v : Held) → line_of w (event.Got act v) ≡ Got act (value_of w v) ∷ []
unfolding line_of
got_line w act v = refl

handed_met : (w : World) (tree : List Node) (act j : ℕ) (next : Act (Held × Scope)) (theirs' : machine.Act Local (Value Local)) (n : ℕ) (v : Held) (b : Bool) (s : Room) → IsSound s → is_there s.heap v ≡ true
    → ((t : Room) → IsSound t → Grown s.heap t.heap → Met w alone_of t (next t) (theirs' (vat w t)))
    → Met w alone_of s (handed_over act next n v b s) ((if b then (λ y. machine.and_then (machine.tell (Got act (value_of w v)) y) (λ u. theirs')) else machine.eject n (value_of w v)) (vat w s))
unfolding handed_over ◌>>◌
handed_met w tree act j next theirs' n v true s sound i f =
    then_met _ _ (tell_met w (event.Got act v) (Got act (value_of w v)) s sound (got_line w act v)) (λ u t q k g. f t q g)
handed_met w tree act j next theirs' n v false s sound i f = eject_met w alone_of n v s sound i

hand_is : (w : World) (tree : List Node) (act j : ℕ) (next : machine.Act Local (Value Local)) (n : ℕ) (v : Value Local) (y : Vat Local)
    → calls.hand_over (names w) tree act j next n v y ≡ (if n == j then (λ z. machine.and_then (machine.tell (Got act v) z) (λ u. next)) else machine.eject n v) y
unfolding calls.hand_over machine.◌>>◌
hand_is w tree act j next n v y = refl

module _ (w : World) (tree : List Node) (rec : Evaluator) (their : scopes.Evaluator Local) (h : IsMet w rec their) where
  matched_met : (act j b : ℕ) (here : Scope) (next : Act (Held × Scope)) (theirs' : machine.Act Local (Value Local)) (s : Room) (o : Out Scope) (m : machine.Act Local (Surroundings Local)) → IsSound s
      → Met w a_scope s o (m (vat w s))
      → ((t : Room) → IsSound t → Grown s.heap t.heap → Met w alone_of t (next t) (theirs' (vat w t)))
      → Met w alone_of s (matched rec act j b next o) (calls.matched (names w) tree their act j b theirs' m (vat w s))
  unfolding matched calls.matched machine.ending machine.◌>>=◌
  matched_met act j b here next theirs' s o m sound i f =
      ended_met w a_scope alone_of s o (m (vat w s)) _ _ _ _ _ _ i
      (λ inner t q k g. leave_met w alone_of tree j (rec.expression b inner) (λ y. machine.and_then (their.expression b (scope_of w inner) y) (λ x. machine.give x.value)) t q
      (λ u r e. body_alone (rec.expression b inner u) (their.expression b (scope_of w inner) (vat w u)) u (h.expression b inner u r (scope_on e inner.nouns k))))
      (λ id t q k g. leave_met w alone_of tree j (fail (exit.Thrown id)) (machine.throw (text_of w id)) t q (λ u r e. throw_met w alone_of id u r (there_on e (held.Text id) k)))
      (λ n v t q k g. leave_met w alone_of tree j (handed_over act next n v (n == j)) (calls.hand_over (names w) tree act j theirs' n (value_of w v)) t q
      (λ u r e. rw (hand_is w tree act j theirs' n (value_of w v) (vat w u)) (handed_met w tree act j next theirs' n v (n == j) u r (there_on e v k) (λ z p d. f z p (grown_on g (grown_on e d))))))
    where
      kept_same : (o : Out (Held × Scope)) → and_then o (λ x. give x) ≡ o
      kept_same (Ok x, t) = unfold and_then give in refl
      kept_same (Err e, t) = unfold and_then give in refl

      body_alone : (o : Out (Held × Scope)) (d : Done Local (scopes.Answer Local)) (u : Room) → Met w an_answer u o d → Met w alone_of u o (machine.and_then d (λ x. machine.give x.value))
      body_alone o d u i = subst (λ (p : Out (Held × Scope)). Met w alone_of u p (machine.and_then d (λ x. machine.give x.value))) (kept_same o) (then_met (λ x. give x) _ i (λ x t q k g. give_met w alone_of x t q k.0))

  matches_more : (m : scopes.Case) (ms : List scopes.Case) (v : Value Local) (sc : Surroundings Local) (y : Vat Local)
      → calls.match_all (names w) tree their (m ∷ ms) v sc y
      ≡ machine.and_then (calls.new_ejector (names w) tree sc.act y) (λ j. calls.matched (names w) tree their sc.act j m.body (λ z. calls.match_all (names w) tree their ms v sc z) (λ z. their.pattern m.pattern v (Ref (Obj j)) sc z))
  unfolding calls.match_all machine.◌>>=◌ numbering
  matches_more m ms v sc y = refl

  match_all_met : (ms : List scopes.Case) (v : Held) (here : Scope) (s : Room) → IsSound s → is_there s.heap v ≡ true → are_bound s.heap here.nouns ≡ true
      → Met w alone_of s (match_all rec ms v here s) (calls.match_all (names w) tree their ms (value_of w v) (scope_of w here) (vat w s))
  unfolding match_all ◌>>=◌
  match_all_met [] v here s sound i k = unfold calls.match_all in fails_met w alone_of NoMethod s sound
  match_all_met (m ∷ ms) v here s sound i k =
      rw (matches_more m ms (value_of w v) (scope_of w here) (vat w s))
      (then_met _ _ (new_ejector_met w tree here.act s sound)
      (λ j t q l g. matched_met here.act j m.body here (match_all rec ms v here) (λ z. calls.match_all (names w) tree their ms (value_of w v) (scope_of w here) z) t
      (rec.pattern m.pattern v (held.Obj j) here t) (λ z. their.pattern m.pattern (value_of w v) (Ref (Obj j)) (scope_of w here) z) q
      (h.pattern m.pattern v (held.Obj j) here t q (there_on g v i) refl (scope_on g here.nouns k))
      (λ u r e. match_all_met ms v here u r (there_on (grown_on g e) v i) (scope_on (grown_on g e) here.nouns k))))

  given_on : {A B : Type 0} (a : A) (y : Vat Local) (f : A → machine.Act Local B) → machine.and_then (machine.give a y) f ≡ f a y
  unfolding opened_state
  given_on a y f = refl

  pair_is : (m : scopes.Case) (ms : List scopes.Case) (verb : Words) (vs : List (Value Local)) (sc : Surroundings Local) (y : Vat Local)
      → calls.try_matchers (names w) tree their (m ∷ ms) verb vs sc y
      ≡ machine.and_then (perform.make_list (names w) tree sc.act vs y) (λ l z. machine.and_then (machine.give (Text verb) z) (λ u x. machine.and_then (perform.make_list (names w) tree sc.act (u ∷ l ∷ []) x) (λ p. calls.match_all (names w) tree their (m ∷ ms) p sc)))
  unfolding calls.try_matchers machine.◌>>=◌ opened_state
  pair_is m ms verb vs sc y = refl

  pairs : (act : ℕ) (verb : Words) (args : List Held) (f : Held → Act (Held × Scope)) (s : Room)
      → and_then (message_pair act verb args s) f ≡ and_then (make_list act args s) (λ l t. and_then (text_value verb t) (λ u r. and_then (make_list act (u ∷ l ∷ []) r) f))
  unfolding message_pair ◌>>=◌
  pairs act verb args f s = first (make_list act args s)
    where
      last : (o : Out Held) (l : Held) → and_then (and_then o (λ u. make_list act (u ∷ l ∷ []))) f ≡ and_then o (λ u r. and_then (make_list act (u ∷ l ∷ []) r) f)
      last (Ok u, t) l = unfold and_then in refl
      last (Err e, t) l = unfold and_then in refl

      first : (o : Out Held) → and_then (and_then o (λ l t. and_then (text_value verb t) (λ u. make_list act (u ∷ l ∷ [])))) f ≡ and_then o (λ l t. and_then (text_value verb t) (λ u r. and_then (make_list act (u ∷ l ∷ []) r) f))
      first (Ok l, t) = unfold and_then in last (text_value verb t) l
      first (Err e, t) = unfold and_then in refl

  try_met : (ms : List scopes.Case) (verb : Words) (args : List Held) (here : Scope) (s : Room) → IsSound s → are_there s.heap args ≡ true → are_bound s.heap here.nouns ≡ true
      → Met w alone_of s (try_matchers rec ms verb args here s) (calls.try_matchers (names w) tree their ms verb (values_of w args) (scope_of w here) (vat w s))
  unfolding try_matchers ◌>>=◌
  try_met [] verb args here s sound i k = unfold calls.try_matchers in fails_met w alone_of NoMethod s sound
  try_met (m ∷ ms) verb args here s sound i k =
      rw (pair_is m ms verb (values_of w args) (scope_of w here) (vat w s), pairs here.act verb args (λ p. match_all rec (m ∷ ms) p here) s)
      (then_met _ _ (list_met w tree here.act args s sound i)
      (λ l t q j g. then_met _ _ (text_met w verb t q)
      (λ u r p o e. then_met _ _ (list_met w tree here.act (u ∷ l ∷ []) r p (all_and (is_there r.heap u) (are_there r.heap (l ∷ [])) o (all_and (is_there r.heap l) true (there_on e l j) refl)))
      (λ v z x n d. match_all_met (m ∷ ms) v here z x n (scope_on d here.nouns (scope_on e here.nouns (scope_on g here.nouns k)))))))

  matchers_met : (ms : List scopes.Case) (verb : Words) (args : List Held) (here : Scope) (s : Room) → IsSound s → are_there s.heap args ≡ true → are_bound s.heap here.nouns ≡ true
      → Met w a_value s (value_of_matchers rec ms verb args here s) (calls.run_body (names w) tree their ms verb None (values_of w args) (scope_of w here) (vat w s))
  unfolding value_of_matchers calls.run_body ◌>>=◌
  matchers_met ms verb args here s sound i k =
      subst (λ (d : Done Local (Value Local)). Met w a_value s (and_then (try_matchers rec ms verb args here s) (λ x. give x.0)) d) (same_done (calls.try_matchers (names w) tree their ms verb (values_of w args) (scope_of w here) (vat w s)))
      (then_met _ (λ v. machine.give v) (try_met ms verb args here s sound i k) (λ x t q j g. give_met w a_value x.0 t q j))
    where
      same_done : (d : Done Local (Value Local)) → machine.and_then d (λ v. machine.give v) ≡ d
      same_done (machine.Gives v t) = unfold opened_state in refl
      same_done other = unfold opened_state in refl

run_found_met : (w : World) (tree : List Node) (rec : Evaluator) (their : scopes.Evaluator Local) (h : IsMet w rec their) (ms : List scopes.Case) (verb : Words) (o : Option Node) (args : List Held) (here : Scope) (s : Room) → IsSound s → are_there s.heap args ≡ true → are_bound s.heap here.nouns ≡ true
    → Met w a_value s (run_found rec ms verb o args here s) (calls.run_body (names w) tree their ms verb (body_of o) (values_of w args) (scope_of w here) (vat w s))
unfolding run_found body_of
run_found_met w tree rec their h ms verb (Some (Method v ps b)) args here s sound i k = method_met w tree rec their h ms verb ps b args here s sound i k
run_found_met w tree rec their h ms verb other args here s sound i k = matchers_met w tree rec their h ms verb args here s sound i k

run_met : (w : World) (tree : List Node) (rec : Evaluator) (their : scopes.Evaluator Local) (h : IsMet w rec their) (node : ℕ) (verb : Words) (args : List Held) (here : Scope) (s : Room) → IsSound s → are_there s.heap args ≡ true → are_bound s.heap here.nouns ≡ true
    → Met w a_value s (run_object tree rec node verb args here s) (calls.run_object (names w) tree their (scopes.members_of (slice_get tree node)) verb (values_of w args) (scope_of w here) (vat w s))
unfolding run_object calls.run_object
run_met w tree rec their h node verb args here s sound i k =
    rw (
      length-map args (value_of w),
      method_is tree (scopes.members_of (slice_get tree node)) verb (length args),
    ) (run_found_met w tree rec their h (scopes.matchers_of tree (scopes.members_of (slice_get tree node))) verb (first_method tree (scopes.members_of (slice_get tree node)) verb (length args)) args here s sound i k)

-- ---- calls on objects

-- the code of an object, in an activation
pub object_run_met : (w : World) (tree : List Node) (rec : Evaluator) (their : scopes.Evaluator Local) (h : IsMet w rec their) (b : ℕ) (verb : Words) (args : List Held) (o : Object) (s : Room) → IsSound s → are_there s.heap args ≡ true → are_bound s.heap o.nouns ≡ true
    → Met w a_value s (run_object tree rec o.node verb args (record { act = b; nouns = reverse o.nouns }) s)
    (calls.run_object (names w) tree their (scopes.members_of (slice_get tree o.node)) verb (values_of w args) (record { act = b; nouns = map (bond_of w) o.nouns }) (vat w s))
object_run_met w tree rec their h b verb args o s sound a k =
    subst (λ (ns : List (Bond Local)). Met w a_value s (run_object tree rec o.node verb args (record { act = b; nouns = reverse o.nouns }) s) (calls.run_object (names w) tree their (scopes.members_of (slice_get tree o.node)) verb (values_of w args) (record { act = b; nouns = ns }) (vat w s)))
    (turned_is w o.nouns)
    (run_met w tree rec their h o.node verb args (record { act = b; nouns = reverse o.nouns }) s sound a (reverse_there s.heap o.nouns k))

-- the code of what stands there, and then its call
after_code : List Node → Evaluator → Caller → ℕ → Held → ℕ → Words → List Held → Option HeldThing → Room → Out Held
after_code tree rec mine act x i verb args o s = and_then (code_in o, s) (call_code tree rec mine act x i verb args)

module _ (w : World) (tree : List Node) (rec : Evaluator) (their : scopes.Evaluator Local) (mine : Caller) (again : scopes.Caller Local) (act : ℕ) (x : Held) (i : ℕ) (verb : Words) (args : List Held) where
  -- what a call on something of that shape does
  abbrev ShapeMet : Room → Bool → Shape → Type 0
  ShapeMet s live sh = Met w a_value s (after_code tree rec mine act x i verb args (Some (record { shape = sh; alive = live })) s) (calls.call_thing (names w) tree their again act (value_of w x) i (Some (shape_in w live sh)) verb (values_of w args) (vat w s))

  made_call_met : IsMet w rec their → (o : Object) (stamps : List Held) (s : Room) → IsSound s → are_there s.heap args ≡ true → are_bound s.heap o.nouns ≡ true
      → Met w a_value s (call_made tree rec act x i verb args o s) (calls.call_thing (names w) tree their again act (value_of w x) i (Some (Made o.node (map (bond_of w) o.nouns) (values_of w stamps))) verb (values_of w args) (vat w s))
  unfolding call_made closed calls.call_thing scopes.ended machine.ending ◌>>=◌ ◌>>◌ machine.◌>>=◌ machine.◌>>◌
  made_call_met h o stamps s sound a k =
      then_met _ _ (activation_met w (held.Obj i) s sound)
      (λ b t q j g. then_met _ _ (tell_met w (event.Call act x verb args (Some b)) (Called act (value_of w x) verb (values_of w args) (Some b)) t q (called_line w act x verb args (Some b)))
      (λ u r p l e. closed_met w act r (run_object tree rec o.node verb args (record { act = b; nouns = reverse o.nouns }) r) (calls.run_object (names w) tree their (scopes.members_of (slice_get tree o.node)) verb (values_of w args) (record { act = b; nouns = map (bond_of w) o.nouns }) (vat w r)) (vat w r)
      (object_run_met w tree rec their h b verb args o r p (all_on e args (all_on g args a)) (scope_on e o.nouns (scope_on g o.nouns k)))))

  made_met : IsMet w rec their → (node : ℕ) (bs : List Binding) (stamps : List Held) (live : Bool) (s : Room) → IsSound s → are_there s.heap args ≡ true → are_bound s.heap bs ≡ true
      → ShapeMet s live (shape.Made node (map caught_of bs) stamps)
  unfolding after_code and_then code_in call_code
  made_met h node bs stamps live s sound a k =
      rw (code_is node bs stamps live, thing_is w node bs stamps live) (made_call_met h (record { node = node; nouns = bs }) stamps s sound a k)

  ejector_met : (live : Bool) (s : Room) → IsSound s → are_there s.heap args ≡ true → ShapeMet s live shape.Ejector
  unfolding after_code and_then code_in code_of call_code
  ejector_met live s sound a = call_ejector_met w tree their again act x i live verb args s sound a

  called_resolver_met : (p : ℕ) (s : Room) → IsSound s → are_there s.heap args ≡ true
      → Met w a_value s (call_resolver act x p verb args s) (calls.call_thing (names w) tree their again act (value_of w x) i (Some (Resolver (Prom p))) verb (values_of w args) (vat w s))
  unfolding call_resolver closed calls.call_thing calls.thing_answer scopes.with_lines scopes.ended machine.ending ◌>>◌ machine.◌>>◌
  called_resolver_met p s sound a =
      then_met _ _ (tell_met w (event.Call act x verb args None) (Called act (value_of w x) verb (values_of w args) None) s sound (called_line w act x verb args None))
      (λ u t q j g. closed_met w act t (resolver_answer p (resolving verb args) t) (calls.resolver_answer (names w) tree (Prom p) (scopes.resolver_ask verb (values_of w args)) (vat w t)) (vat w t)
      (resolver_met w tree t q p verb args (all_on g args a)))

  resolver_shape_met : (p : ℕ) (live : Bool) (s : Room) → IsSound s → are_there s.heap args ≡ true → ShapeMet s live (shape.Resolver p)
  unfolding after_code and_then code_in code_of call_code
  resolver_shape_met p live s sound a = called_resolver_met p s sound a

  called_audition_met : CallsMet w mine again → (view : AuditView) (live : Bool) (s : Room) → IsSound s → are_there s.heap args ≡ true
      → Met w a_value s (call_audition tree mine act x live view verb args s) (calls.call_thing (names w) tree their again act (value_of w x) i (Some (Audition live (seen_of view))) verb (values_of w args) (vat w s))
  unfolding call_audition closed calls.call_thing calls.thing_answer scopes.with_lines scopes.ended machine.ending ◌>>◌ machine.◌>>◌
  called_audition_met m view live s sound a =
      then_met _ _ (tell_met w (event.Call act x verb args None) (Called act (value_of w x) verb (values_of w args) None) s sound (called_line w act x verb args None))
      (λ u t q j g. closed_met w act t (audition_answer tree mine act live view (asking verb args) t) (calls.audition_answer (names w) tree again act live (seen_of view) (scopes.audition_ask verb (values_of w args)) (vat w t)) (vat w t)
      (audition_met w tree mine again m act live view verb args t q (all_on g args a)))

  audition_shape_met : CallsMet w mine again → (view : AuditView) (live : Bool) (s : Room) → IsSound s → are_there s.heap args ≡ true → ShapeMet s live (shape.Audition view)
  unfolding after_code and_then code_in code_of call_code
  audition_shape_met m view live s sound a = called_audition_met m view live s sound a

  shape_met : IsMet w rec their → CallsMet w mine again → (sh : Shape) (live : Bool) (s : Room) → IsSound s → are_there s.heap args ≡ true → IsPlainShape s.heap sh → ShapeMet s live sh
  shape_met h m (shape.Made node caught stamps) live s sound a p =
      subst (λ (cs : List Caught). ShapeMet s live (shape.Made node cs stamps)) (sym p.1.0)
      (made_met h node p.0 stamps live s sound a p.1.1.1)
  shape_met h m shape.Ejector live s sound a p = ejector_met live s sound a
  shape_met h m (shape.Resolver k) live s sound a p = resolver_shape_met k live s sound a
  shape_met h m (shape.Audition view) live s sound a p = audition_shape_met m view live s sound a

  none_met : (s : Room) → IsSound s → Met w a_value s (after_code tree rec mine act x i verb args None s) (calls.call_thing (names w) tree their again act (value_of w x) i None verb (values_of w args) (vat w s))
  unfolding after_code and_then code_in calls.call_thing fail
  none_met s sound = stop_met w a_value s

  thing_met : IsMet w rec their → CallsMet w mine again → (o : Option HeldThing) (s : Room) → IsSound s → are_there s.heap args ≡ true → ((t : HeldThing) → o ≡ Some t → IsPlainThing s.heap t)
      → Met w a_value s (after_code tree rec mine act x i verb args o s) (calls.call_thing (names w) tree their again act (value_of w x) i (option_map (thing_of w) o) verb (values_of w args) (vat w s))
  thing_met h m None s sound a f = none_met s sound
  thing_met h m (Some t) s sound a f = shape_met h m t.shape t.alive s sound a (f t refl)

  spot_is : (v : Vat Local) → calls.call_value (names w) tree their again act (value_of w x) (Ref (Obj i)) verb (values_of w args) v ≡ calls.call_thing (names w) tree their again act (value_of w x) i (slice_get v.things i) verb (values_of w args) v
  unfolding calls.call_value calls.call_spot numbering local_spot opened_state
  spot_is v = refl

  call_object_is : (s : Room) → call_object tree rec mine act x i verb args s ≡ after_code tree rec mine act x i verb args (slice_get s.heap.things i) s
  unfolding call_object look_code after_code ◌>>=◌
  call_object_is s = refl

  -- on an object, held as x
  pub call_object_met : IsMet w rec their → CallsMet w mine again → (s : Room) → IsSound s → are_there s.heap args ≡ true
      → Met w a_value s (call_object tree rec mine act x i verb args s) (calls.call_value (names w) tree their again act (value_of w x) (Ref (Obj i)) verb (values_of w args) (vat w s))
  call_object_met h m s sound a = rw (call_object_is s, spot_is (vat w s), things_at w s i) (thing_met h m (slice_get s.heap.things i) s sound a (sound.things i))
