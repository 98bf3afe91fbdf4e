-- Evaluation over the state of the code is the machine's.
use Rattle.std.proofs.Common.{◌≡◌, ◌==◌, ℕ, zero, suc, ◌+◌, Bool, true, false, List, [], ◌∷◌, ◌++◌, Option, Some, None, Ok, Err, length, refl, sym, ap, subst, ◌∙◌, append_assoc, append-nil, arith}
use Rattle.std.specs.Prelude.{option_map, slice_get, codes, if◌then◌else◌}
use Rattle.std.proofs.lemmas.List.{map-append, length-map}
use Rattle.ev_base.specs.declared.values.Value.{Value as Held}
use Rattle.ev_base.specs.declared.values.Value.TheVariants as held
use Rattle.ev_heap.specs.declared.happened.Happened.TheVariants as event
use Rattle.ev_heap.specs.declared.kept.Cell.{Cell}
use Rattle.ev_heap.specs.declared.kept.GuardKind.{GuardKind}
use Rattle.ev_heap.specs.declared.kept.GuardKind.TheVariants.{Native, User}
use Rattle.ev_audit.specs.Views.{guard_of}
use Rattle.def_kernel.specs.declared.node.Literal.{Literal}
use Rattle.def_kernel.specs.declared.node.Literal.TheVariants as literal
use Rattle.def_kernel.specs.declared.node.Node.{Node}
use Rattle.def_kernel.specs.declared.node.Node.TheVariants.{Lit, Noun, Set, Def, Call, Sequence, If, Escape, Try, Finally, Hide, MatchBind, Object as ObjectNode, Method, Matcher, Final, Var, Any, ListPattern, Via}
use Rattle.def_machine.specs.Free.{BoundNoun, bound_nouns, free_nouns}
use Rattle.def_machine.specs.Values.{Words, Value, Flag, Prim, Items, Ref, Local, Obj, Prom, Far, local_spot, numbering}
use Rattle.def_machine.specs.State.{Bound, Fixed, Slot, Binding as Bond, Scope as Surroundings, Got, SlotMade, Vat, Done, Throws, Ejects, Stops, opened_state}
use Rattle.def_machine.specs.State as machine
use Rattle.def_machine.specs.Scopes.{Answer, Answers, any_guard}
use Rattle.def_machine.specs.Eval.{opened_eval}
use Rattle.def_machine.specs.Form as form
use Rattle.def_machine.specs.Native as native
use Rattle.def_machine.specs.Refs.{follow}
use Rattle.def_machine.specs.Refs as refs
use Rattle.def_machine.specs.Scopes as scopes
use Rattle.def_machine.specs.Perform as perform
use Rattle.def_machine.specs.Calls as calls
use Rattle.def_machine.specs.Eval as theirs
use Rattle.ev_prims.specs.declared.problem.Problem.TheVariants.{NotBoolean}
use Rattle.ev_room.specs.declared.exit.Exit.TheVariants as exit
use Rattle.ev_pass.specs.declared.interior.Interior.{Interior as Room}
use Rattle.ev_room.specs.declared.scope.Bound.{Bound as Kept}
use Rattle.ev_room.specs.declared.scope.Bound.TheVariants as scope
use Rattle.ev_room.specs.declared.scope.Scope.{Scope}
use Rattle.ev_room.specs.Reading.{World, names, text_of, value_of, values_of, members_of, cell_of, line_of}
use Rattle.ev_room.specs.Sound.{IsSound, any_guard as any, no_guard, is_there, are_there, is_bound, are_bound, no_match_id, not_a_list_id, not_a_guard_id, not_near_id}
use Rattle.ev_steps.specs.declared.target.Target.{Target}
use Rattle.ev_steps.specs.declared.target.Target.TheVariants as target
use Rattle.ev_steps.specs.Steps.{Evaluator, Caller, call_value, call_at, call, again_by, handed, gathered, last_of, call_node, object_on, exit_of, define_by, define, no_match, unmatched_noun, bind_unmatched, unmatched, not_matched, matched_if, match_ended, match_on, match_node, failed, coerce, write_under, write_cell, write_bound, bind_list, bind_items, bind_via, bind_asked, literal_value, literal_node, noun_node, set_node, within, choose, if_node, step, bind_coerced, bind_by, bind_under, bind_guarded, bind_step, step_found, bind_found, deeper, evaluator}
use Rattle.ev_room.specs.Acts.{Out, and_then, ◌>>=◌, ◌>>◌, give, fail, found_from, with_noun}
use Rattle.law_evaluation.proofs.Evaluation.Auditing.{make_object_met}
use Rattle.law_evaluation.proofs.Evaluation.Calls.{CallsMet, call_data_met}
use Rattle.law_evaluation.proofs.Evaluation.Grows.{deeper_grows, none_grows}
use Rattle.law_evaluation.proofs.Acts.Behind.{Grows, same, onward, cut_back}
use Rattle.law_evaluation.proofs.Evaluation.Coercing.{coerce_met, failed_met, handed_then, handed_there, pair_there}
use Rattle.law_evaluation.proofs.Evaluation.Guarded.{in_turn, escape_met, try_met, finally_met, hide_met}
use Rattle.law_evaluation.proofs.Evaluation.IsMet.{IsMet}
use Rattle.law_evaluation.proofs.Acts.Bindings.{found_is, none_bound, noun_met, onto_more, bound_more, made_line, new_slot_met, found_of, cells_at, write_slot_met}
use Rattle.law_evaluation.proofs.Evaluation.Objects.{bind_all_met, call_object_met}
use Rattle.law_evaluation.proofs.Evaluation.Primitives.{primitive_met}
use Rattle.law_evaluation.proofs.Acts.Sounds.{grown_same, there_on, all_on, scope_on, all_and}
use Rattle.ev_prims.specs.Answers.{members_at}
use Rattle.law_evaluation.proofs.Acts.Replies.{there_joined, members_there}
use Rattle.ev_refs.specs.Follow.{followed}
use Rattle.law_evaluation.proofs.Acts.Following.{followed_there}
use Rattle.law_evaluation.proofs.Acts.Leaving.{new_ejector_met, leave_met}
use Rattle.law_evaluation.proofs.Acts.Stands.{Look, Met, vat, a_value, an_answer, some_answers, a_scope, ended_met, eject_met, known_there, bound_of, scope_of, then_met, then_met_of, give_met, stop_met, deep_met, throw_met, tell_met, fails_met, spend_met, text_met, lists_of, members_are, follow_is}

-- ---- nodes

-- what an outcome gives, behind other values
unfoldable with_front : List (Value Local) → Done Local (Answers Local) → Done Local (Answers Local)
with_front vs (machine.Gives xs t) = machine.Gives (record { values = vs ++ xs.values; scope = xs.scope }) t
with_front vs (Throws p t) = Throws p t
with_front vs (Ejects n v t) = Ejects n v t
with_front vs (Stops c t) = Stops c t

front_one : (x : Value Local) (vs : List (Value Local)) (d : Done Local (Answers Local))
    → with_front vs (machine.and_then d (λ xs. machine.give (record { values = x ∷ xs.values; scope = xs.scope }))) ≡ with_front (vs ++ x ∷ []) d
unfolding with_front opened_state
front_one x vs (machine.Gives xs t) = ap (λ (ys : List (Value Local)). machine.Gives (record { values = ys; scope = xs.scope }) t) (sym (append_assoc vs (x ∷ []) xs.values))
front_one x vs other = refl

front_then : (vs : List (Value Local)) (d : Done Local (Answer Local)) (rest : Answer Local → machine.Act Local (Answers Local))
    → with_front vs (machine.and_then d (λ x t. machine.and_then (rest x t) (λ xs. machine.give (record { values = x.value ∷ xs.values; scope = xs.scope }))))
    ≡ machine.and_then d (λ x t. with_front (vs ++ x.value ∷ []) (rest x t))
unfolding with_front opened_state
front_then vs (machine.Gives x t) rest = front_one x.value vs (rest x t)
front_then vs other rest = refl

front_none : (d : Done Local (Answers Local)) → with_front [] d ≡ d
unfolding with_front
front_none (machine.Gives xs t) = refl
front_none other = refl

all_of-more : (w : World) (tree : List Node) (their : scopes.Evaluator Local) (e : ℕ) (es : List ℕ) (sc : Surroundings Local) (v : Vat Local)
    → theirs.all_of (names w) tree their (e ∷ es) sc v
    ≡ machine.and_then (their.expression e sc v) (λ x t. machine.and_then (theirs.all_of (names w) tree their es x.scope t) (λ xs. machine.give (record { values = x.value ∷ xs.values; scope = xs.scope })))
unfolding theirs.all_of machine.◌>>=◌
all_of-more w tree their e es sc v = refl

all_of-none : (w : World) (tree : List Node) (their : scopes.Evaluator Local) (sc : Surroundings Local) (v : Vat Local)
    → theirs.all_of (names w) tree their [] sc v ≡ machine.Gives (record { values = []; scope = sc }) v
unfolding theirs.all_of opened_state
all_of-none w tree their sc v = refl

nothing_met : (w : World) (so_far : List Held) (here : Scope) (s : Room) → IsSound s → are_there s.heap so_far ≡ true → are_bound s.heap here.nouns ≡ true
    → Met w some_answers s (give (so_far, here) s) (machine.Gives (record { values = values_of w so_far ++ []; scope = scope_of w here }) (vat w s))
unfolding machine.give
nothing_met w so_far here s sound i k = rw (append-nil (values_of w so_far)) (unfold machine.give in give_met w some_answers (so_far, here) s sound (i, k))

gathered_met : (w : World) (tree : List Node) (rec : Evaluator) (their : scopes.Evaluator Local) (h : IsMet w rec their) (so_far : List Held) (es : List ℕ) (here : Scope) (s : Room) → IsSound s → are_there s.heap so_far ≡ true → are_bound s.heap here.nouns ≡ true
    → Met w some_answers s (gathered rec so_far es here s) (with_front (values_of w so_far) (theirs.all_of (names w) tree their es (scope_of w here) (vat w s)))
unfolding gathered ◌>>=◌ with_front
gathered_met w tree rec their h so_far [] here s sound i k = rw (all_of-none w tree their (scope_of w here) (vat w s)) (nothing_met w so_far here s sound i k)
gathered_met w tree rec their h so_far (e ∷ es) here s sound i k =
    rw (all_of-more w tree their e es (scope_of w here) (vat w s), front_then (values_of w so_far) (their.expression e (scope_of w here) (vat w s)) (λ x. theirs.all_of (names w) tree their es x.scope))
    (then_met _ _ (h.expression e here s sound k) (λ a t q j g. subst
    (λ (vs : List (Value Local)). Met w some_answers t (gathered rec (so_far ++ a.0 ∷ []) es a.1 t) (with_front vs (theirs.all_of (names w) tree their es (scope_of w a.1) (vat w t))))
    (map-append (value_of w) so_far (a.0 ∷ []))
    (gathered_met w tree rec their h (so_far ++ a.0 ∷ []) es a.1 t q (there_joined t.heap so_far (a.0 ∷ []) (all_on g so_far i) (all_and (is_there t.heap a.0) true j.0 refl)) j.1)))

all_met : (w : World) (tree : List Node) (rec : Evaluator) (their : scopes.Evaluator Local) (h : IsMet w rec their) (es : List ℕ) (here : Scope) (s : Room) → IsSound s → are_bound s.heap here.nouns ≡ true
    → Met w some_answers s (gathered rec [] es here s) (theirs.all_of (names w) tree their es (scope_of w here) (vat w s))
all_met w tree rec their h es here s sound k =
    subst (λ (d : Done Local (Answers Local)). Met w some_answers s (gathered rec [] es here s) d) (front_none (theirs.all_of (names w) tree their es (scope_of w here) (vat w s)))
    (gathered_met w tree rec their h [] es here s sound refl k)

last_met : (w : World) (tree : List Node) (rec : Evaluator) (their : scopes.Evaluator Local) (h : IsMet w rec their) (x : Held) (es : List ℕ) (here : Scope) (s : Room) → IsSound s → is_there s.heap x ≡ true → are_bound s.heap here.nouns ≡ true
    → Met w an_answer s (last_of rec x es here s) (theirs.last_of (names w) tree their (record { value = value_of w x; scope = scope_of w here }) es (vat w s))
unfolding last_of theirs.last_of ◌>>=◌ machine.◌>>=◌
last_met w tree rec their h x [] here s sound i k = give_met w an_answer (x, here) s sound (i, k)
last_met w tree rec their h x (e ∷ es) here s sound i k = then_met _ _ (h.expression e here s sound k) (λ a t q j g. last_met w tree rec their h a.0 es a.1 t q j.0 j.1)

-- ---- calls

-- the calls in which data calls again
abbrev again_at : World → List Node → scopes.Evaluator Local → ℕ → scopes.Caller Local
again_at w tree their n = λ a y u xs. calls.call_at (names w) tree n their a y u xs

module _ (w : World) (tree : List Node) (rec : Evaluator) (their : scopes.Evaluator Local) (h : IsMet w rec their) where
  not_near_met : (act : ℕ) (x : Value Local) (n : Local) (verb : Words) (vs : List (Value Local)) (more : scopes.Caller Local) (s : Room) → IsSound s
      → calls.call_value (names w) tree their more act x (Ref n) verb vs (vat w s) ≡ machine.throw (codes "not near") (vat w s)
      → Met w a_value s (fail (exit.Thrown not_near_id) s) (calls.call_value (names w) tree their more act x (Ref n) verb vs (vat w s))
  not_near_met act x n verb vs more s sound e = rw e (throw_met w a_value not_near_id s sound (known_there s sound not_near_id refl))

  -- on x, as it is held and as it is followed
  value_met : (again : Caller) (more : scopes.Caller Local) → CallsMet w again more → (act : ℕ) (x y : Held) (verb : Words) (args : List Held) (s : Room) → IsSound s → is_there s.heap y ≡ true → are_there s.heap args ≡ true
      → Met w a_value s (call_value tree rec again act x y verb args s) (calls.call_value (names w) tree their more act (value_of w x) (value_of w y) verb (values_of w args) (vat w s))
  value_met again more m act x (held.Obj i) verb args s sound j a = unfold call_value in call_object_met w tree rec their again more act x i verb args h m s sound a
  value_met again more m act x (held.Prom n) verb args s sound j a =
      unfold call_value in not_near_met act (value_of w x) (Prom n) verb (values_of w args) more s sound (unfold calls.call_value calls.call_spot numbering local_spot in refl)
  value_met again more m act x (held.Far v p) verb args s sound j a =
      unfold call_value in not_near_met act (value_of w x) (Far v p) verb (values_of w args) more s sound (unfold calls.call_value calls.call_spot numbering local_spot in refl)
  value_met again more m act x (held.Broken id) verb args s sound j a = unfold call_value calls.call_value in throw_met w a_value id s sound j
  value_met again more m act x (held.Prim n) verb args s sound j a = unfold call_value calls.call_value in primitive_met w tree again more m act n verb args s sound a
  value_met again more m act x held.Null verb args s sound j a = unfold call_value calls.call_value in call_data_met w tree again more m act x held.Null verb args s sound j a
  value_met again more m act x (held.Bool b) verb args s sound j a = unfold call_value calls.call_value in call_data_met w tree again more m act x (held.Bool b) verb args s sound j a
  value_met again more m act x (held.Int z) verb args s sound j a = unfold call_value calls.call_value in call_data_met w tree again more m act x (held.Int z) verb args s sound j a
  value_met again more m act x (held.Char c) verb args s sound j a = unfold call_value calls.call_value in call_data_met w tree again more m act x (held.Char c) verb args s sound j a
  value_met again more m act x (held.Text id) verb args s sound j a = unfold call_value calls.call_value in call_data_met w tree again more m act x (held.Text id) verb args s sound j a
  value_met again more m act x (held.List k) verb args s sound j a = unfold call_value calls.call_value in call_data_met w tree again more m act x (held.List k) verb args s sound j a

  one_is : (n act : ℕ) (x : Value Local) (verb : Words) (vs : List (Value Local)) (v : Vat Local)
      → calls.call_at (names w) tree (suc n) their act x verb vs v ≡ calls.call_value (names w) tree their (again_at w tree their n) act x (follow (names w) v x) verb vs v
  unfolding calls.call_at calls.call_one opened_state
  one_is n act x verb vs v = refl

  call_at_met : (n : ℕ) → CallsMet w (call_at tree rec n) (again_at w tree their n)
  unfolding call_at
  call_at_met zero act x verb args s sound i a = unfold calls.call_at in stop_met w a_value s
  call_at_met (suc n) act x verb args s sound i a =
      rw (one_is n act (value_of w x) verb (values_of w args) (vat w s), follow_is w s sound x)
      (value_met (call_at tree rec n) (again_at w tree their n) (call_at_met n) act x (followed s.refs x) verb args s sound (followed_there s sound x i) a)

  call_is : (act : ℕ) (x : Value Local) (verb : Words) (vs : List (Value Local)) (s : Room)
      → calls.call (names w) tree their act x verb vs (vat w s) ≡ again_at w tree their (length s.heap.lists + 4) act x verb vs (vat w s)
  unfolding calls.call opened_state
  call_is act x verb vs s =
      let e : 4 + length (vat w s).lists ≡ length s.heap.lists + 4 = ap (λ (n : ℕ). 4 + n) (ap length (lists_of w s) ∙ length-map s.heap.lists (members_of w)) ∙ (let f : 4 + length s.heap.lists ≡ length s.heap.lists + 4 = omega arith in f) in
      ap (λ (n : ℕ). calls.call_at (names w) tree n their act x verb vs (vat w s)) e

  call_met : (act : ℕ) (x : Held) (verb : Words) (args : List Held) (s : Room) → IsSound s → is_there s.heap x ≡ true → are_there s.heap args ≡ true
      → Met w a_value s (call tree rec act x verb args s) (calls.call (names w) tree their act (value_of w x) verb (values_of w args) (vat w s))
  unfolding call
  call_met act x verb args s sound i a = rw (call_is act (value_of w x) verb (values_of w args) s) (call_at_met (length s.heap.lists + 4) act x verb args s sound i a)

  -- calls again, each with its levels counted anew
  pub again_met : CallsMet w (again_by tree rec None) (calls.call (names w) tree their)
  unfolding again_by
  again_met act x verb args s sound i a = call_met act x verb args s sound i a

  call_node_met : (id r : ℕ) (verb : Words) (args : List ℕ) (here : Scope) (s : Room) → IsSound s → are_bound s.heap here.nouns ≡ true
      → Met w an_answer s (call_node tree rec r verb args here s) (theirs.step (names w) tree their id (Call r verb args) (scope_of w here) (vat w s))
  unfolding call_node theirs.step scopes.answered ◌>>=◌ machine.◌>>=◌
  call_node_met id r verb args here s sound k =
      then_met _ _ (h.expression r here s sound k)
      (λ x t q j g. then_met _ _ (all_met w tree rec their h args x.1 t q j.1)
      (λ xs u p l e. then_met _ _ (call_met here.act x.0 verb xs.0 u p (there_on e x.0 j.0) l.0)
      (λ v r o m d. give_met w an_answer (v, xs.1) r o (m, scope_on d xs.1.nouns l.1))))

  -- ---- object expressions

  object_is : (id p : ℕ) (auditors ms : List ℕ) (sc : Surroundings Local) (y : Vat Local)
      → theirs.step (names w) tree their id (ObjectNode p auditors ms) sc y
      ≡ machine.and_then (theirs.all_of (names w) tree their auditors sc y) (λ xs. calls.make_object (names w) tree (calls.call (names w) tree their) id (slice_get tree p) (free_nouns tree ms) xs.values xs.scope)
  unfolding theirs.step machine.◌>>=◌
  object_is id p auditors ms sc y = refl

  object_met : (id p : ℕ) (auditors ms : List ℕ) (here : Scope) (s : Room) → IsSound s → are_bound s.heap here.nouns ≡ true
      → slice_get tree id ≡ Some (ObjectNode p auditors ms)
      → Met w an_answer s (object_on tree rec id p [] auditors here s) (theirs.step (names w) tree their id (ObjectNode p auditors ms) (scope_of w here) (vat w s))
  unfolding object_on ◌>>=◌
  object_met id p auditors ms here s sound k found =
      rw (object_is id p auditors ms (scope_of w here) (vat w s))
      (then_met _ _ (all_met w tree rec their h auditors here s sound k)
      (λ xs t q i g. make_object_met w tree (call tree rec) (calls.call (names w) tree their) call_met id p auditors ms xs.0 xs.1 t q i.0 i.1 found))

-- ---- definitions, nouns, literals

exit_met : (w : World) (tree : List Node) (rec : Evaluator) (their : scopes.Evaluator Local) (h : IsMet w rec their) (j : Option ℕ) (here : Scope) (s : Room) → IsSound s → are_bound s.heap here.nouns ≡ true
    → Met w an_answer s (exit_of rec j here s) (theirs.exit_of (names w) tree their j (scope_of w here) (vat w s))
unfolding exit_of theirs.exit_of scopes.answered
exit_met w tree rec their h None here s sound k = give_met w an_answer (held.Null, here) s sound (refl, k)
exit_met w tree rec their h (Some j) here s sound k = h.expression j here s sound k

definition_is : (w : World) (tree : List Node) (their : scopes.Evaluator Local) (id p : ℕ) (j : Option ℕ) (e : ℕ) (sc : Surroundings Local) (v : Vat Local)
    → theirs.step (names w) tree their id (Def p j e) sc v
    ≡ machine.and_then (theirs.exit_of (names w) tree their j sc v) (λ y t. machine.and_then (their.expression e y.scope t) (λ x u. machine.and_then (their.pattern p x.value y.value x.scope u) (λ after. machine.give (record { value = x.value; scope = after }))))
unfolding theirs.step scopes.answered machine.◌>>=◌
definition_is w tree their id p j e sc v = refl

define_met : (w : World) (tree : List Node) (rec : Evaluator) (their : scopes.Evaluator Local) (h : IsMet w rec their) (id p : ℕ) (j : Option ℕ) (e : ℕ) (here : Scope) (s : Room) → IsSound s → are_bound s.heap here.nouns ≡ true
    → Met w an_answer s (define rec p j e here s) (theirs.step (names w) tree their id (Def p j e) (scope_of w here) (vat w s))
unfolding define define_by ◌>>=◌
define_met w tree rec their h id p j e here s sound k =
    rw (definition_is w tree their id p j e (scope_of w here) (vat w s))
    (then_met _ _ (exit_met w tree rec their h j here s sound k)
    (λ y t q i g. then_met _ _ (h.expression e y.1 t q i.1)
    (λ x u r l d. then_met _ _ (h.pattern p x.0 y.0 x.1 u r l.0 (there_on d y.0 i.0) l.1) (λ after z o m f. give_met w an_answer (x.0, after) z o (there_on f x.0 l.0, m)))))

noun_node_met : (w : World) (tree : List Node) (their : scopes.Evaluator Local) (id : ℕ) (x : Words) (here : Scope) (s : Room) → IsSound s → are_bound s.heap here.nouns ≡ true
    → Met w an_answer s (noun_node x here s) (theirs.step (names w) tree their id (Noun x) (scope_of w here) (vat w s))
unfolding noun_node theirs.step scopes.answered ◌>>=◌ machine.◌>>=◌
noun_node_met w tree their id x here s sound k = then_met _ _ (noun_met w x here s sound k) (λ v t q j g. give_met w an_answer (v, here) t q (j, scope_on g here.nouns k))

-- what a noun stands for is written with what its guard makes of the value
module _ (w : World) (tree : List Node) (rec : Evaluator) (their : scopes.Evaluator Local) (h : IsMet w rec their) where
  coerces_met : (act : ℕ) (k : GuardKind) (v j : Held) (s : Room) → IsSound s → is_there s.heap v ≡ true → is_there s.heap j ≡ true
      → Met w a_value s (coerce (call tree rec) act k j v s) (perform.coerce (names w) tree (calls.call (names w) tree their) act (guard_of k) (value_of w j) (value_of w v) (vat w s))
  coerces_met act k v j s sound i l = coerce_met w tree (call tree rec) (calls.call (names w) tree their) (call_met w tree rec their h) act k v j s sound i l

  write_cell_met : (act k : ℕ) (v : Held) (o : Option Cell) (s : Room) → IsSound s → is_there s.heap v ≡ true
      → Met w a_value s (write_cell (call tree rec) act k v o s) (theirs.write_cell (names w) tree their act k (value_of w v) (option_map (cell_of w) o) (vat w s))
  unfolding write_cell write_under theirs.write_cell ◌>>=◌ machine.◌>>=◌ machine.◌>>◌
  write_cell_met act k v None s sound i = stop_met w a_value s
  write_cell_met act k v (Some c) s sound i = then_met _ _ (coerces_met act c.guard v held.Null s sound i refl) (λ u t q j g. write_slot_met w act k u t q j)

  write_slot_is : (act k : ℕ) (v : Value Local) (y : Vat Local) → theirs.write_bound (names w) tree their act (Some (Slot k)) v y ≡ theirs.write_cell (names w) tree their act k v (slice_get y.slots k) y
  unfolding theirs.write_bound opened_state
  write_slot_is act k v y = refl

  write_met : (act : ℕ) (f : Option Kept) (v : Held) (s : Room) → IsSound s → is_there s.heap v ≡ true
      → Met w a_value s (write_bound (call tree rec) act f v s) (theirs.write_bound (names w) tree their act (found_of w f) (value_of w v) (vat w s))
  unfolding write_bound
  write_met act (Some (scope.Slot k)) v s sound i = rw (write_slot_is act k (value_of w v) (vat w s), cells_at w s k) (write_cell_met act k v (slice_get s.heap.slots k) s sound i)
  write_met act other v s sound i = unfold theirs.write_bound in stop_met w a_value s

  set_met : (id : ℕ) (x : Words) (e : ℕ) (here : Scope) (s : Room) → IsSound s → are_bound s.heap here.nouns ≡ true
      → Met w an_answer s (set_node tree rec x e here s) (theirs.step (names w) tree their id (Set x e) (scope_of w here) (vat w s))
  unfolding set_node theirs.step scopes.answered ◌>>=◌ machine.◌>>=◌
  set_met id x e here s sound k =
      rw (found_is w here.nouns [] None x (none_bound w x))
      (then_met _ _ (h.expression e here s sound k)
      (λ v t q j g. then_met _ _ (write_met here.act (found_from None here.nouns x) v.0 t q j.0) (λ u r p l d. give_met w an_answer (u, v.1) r p (l, scope_on d v.1.nouns j.1))))

literal_value_met : (w : World) (l : Literal) (s : Room) → IsSound s → Met w a_value s (literal_value l s) (machine.give (form.literal_value l) (vat w s))
unfolding literal_value form.literal_value
literal_value_met w (literal.Int z) s sound = give_met w a_value (held.Int z) s sound refl
literal_value_met w (literal.Char c) s sound = give_met w a_value (held.Char c) s sound refl
literal_value_met w (literal.Text u) s sound = text_met w u s sound

literal_is : (w : World) (tree : List Node) (their : scopes.Evaluator Local) (id : ℕ) (l : Literal) (sc : Surroundings Local) (v : Vat Local)
    → theirs.step (names w) tree their id (Lit l) sc v ≡ machine.and_then (machine.give (form.literal_value l) v) (λ x. scopes.answered sc x)
unfolding theirs.step opened_state
literal_is w tree their id l sc v = refl

literal_met : (w : World) (tree : List Node) (their : scopes.Evaluator Local) (id : ℕ) (l : Literal) (here : Scope) (s : Room) → IsSound s → are_bound s.heap here.nouns ≡ true
    → Met w an_answer s (literal_node l here s) (theirs.step (names w) tree their id (Lit l) (scope_of w here) (vat w s))
unfolding literal_node scopes.answered ◌>>=◌
literal_met w tree their id l here s sound k =
    rw (literal_is w tree their id l (scope_of w here) (vat w s))
    (then_met _ _ (literal_value_met w l s sound) (λ v t q j g. give_met w an_answer (v, here) t q (j, scope_on g here.nouns k)))

sequence_met : (w : World) (tree : List Node) (rec : Evaluator) (their : scopes.Evaluator Local) (h : IsMet w rec their) (id : ℕ) (es : List ℕ) (here : Scope) (s : Room) → IsSound s → are_bound s.heap here.nouns ≡ true
    → Met w an_answer s (last_of rec held.Null es here s) (theirs.step (names w) tree their id (Sequence es) (scope_of w here) (vat w s))
unfolding theirs.step
sequence_met w tree rec their h id es here s sound k = last_met w tree rec their h held.Null es here s sound refl k

-- an expression whose names are dropped, in a scope that has grown from another
within_met : (w : World) (rec : Evaluator) (their : scopes.Evaluator Local) (h : IsMet w rec their) (e : ℕ) (here inner : Scope) → Grows here inner → (s : Room) → IsSound s → are_bound s.heap here.nouns ≡ true → are_bound s.heap inner.nouns ≡ true
    → Met w an_answer s (within rec (length here.nouns) e inner s) (machine.and_then (their.expression e (scope_of w inner) (vat w s)) (λ x. scopes.answered (scope_of w here) x.value))
unfolding within scopes.answered ◌>>=◌
within_met w rec their h e here inner g s sound k l =
    then_met_of _ _ (h.expression e inner s sound l) (h.grows.expression e inner s)
    (λ x t q j r more. subst (λ (after : Scope). Met w an_answer t (give (x.0, after) t) (machine.give (record { value = value_of w x.0; scope = scope_of w here }) (vat w t)))
    (sym (cut_back (onward g more))) (give_met w an_answer (x.0, here) t q (j.0, scope_on r here.nouns k)))

choose_met : (w : World) (tree : List Node) (rec : Evaluator) (their : scopes.Evaluator Local) (h : IsMet w rec their) (a b : ℕ) (x : Held) (here inner : Scope) → Grows here inner → (s : Room) → IsSound s → are_bound s.heap here.nouns ≡ true → are_bound s.heap inner.nouns ≡ true
    → Met w an_answer s (choose rec (length here.nouns) a b x inner s) (theirs.choose (names w) tree their a b (scope_of w here) (scope_of w inner) (value_of w x) (vat w s))
unfolding choose theirs.choose machine.◌>>=◌
choose_met w tree rec their h a b (held.Bool true) here inner g s sound k l = within_met w rec their h a here inner g s sound k l
choose_met w tree rec their h a b (held.Bool false) here inner g s sound k l =
    subst (λ (after : Scope). Met w an_answer s (within rec (length here.nouns) b after s) (machine.and_then (their.expression b (scope_of w here) (vat w s)) (λ x. scopes.answered (scope_of w here) x.value)))
    (sym (cut_back g)) (within_met w rec their h b here here (same here) s sound k k)
choose_met w tree rec their h a b _ here inner g s sound k l = fails_met w an_answer NotBoolean s sound

if_is : (w : World) (tree : List Node) (their : scopes.Evaluator Local) (id c a b : ℕ) (sc : Surroundings Local) (v : Vat Local)
    → theirs.step (names w) tree their id (If c a b) sc v
    ≡ machine.and_then (their.expression c sc v) (λ x t. theirs.choose (names w) tree their a b sc x.scope (follow (names w) t x.value) t)
unfolding theirs.step machine.◌>>=◌ machine.look machine.and_then
if_is w tree their id c a b sc v = refl

if_met : (w : World) → (tree : List Node) (rec : Evaluator) (their : scopes.Evaluator Local) (h : IsMet w rec their) (id c a b : ℕ) (here : Scope) (s : Room) → IsSound s → are_bound s.heap here.nouns ≡ true
    → Met w an_answer s (if_node rec c a b here s) (theirs.step (names w) tree their id (If c a b) (scope_of w here) (vat w s))
unfolding if_node ◌>>=◌
if_met w tree rec their h id c a b here s sound k =
    rw (if_is w tree their id c a b (scope_of w here) (vat w s))
    (then_met_of _ _ (h.expression c here s sound k) (h.grows.expression c here s)
    (λ x t q j g more. rw (follow_is w t q x.0) (choose_met w tree rec their h a b (followed t.refs x.0) here x.1 more t q (scope_on g here.nouns k) j.1)))

-- ---- matches

-- what a noun is bound to
abbrev a_bound : Look Kept (Bound Local)
a_bound = record { of = bound_of; fits = λ h b. is_bound h b ≡ true }

got_line : (w : World) (act : ℕ) (v : Held) → line_of w (event.Got act v) ≡ Got act (value_of w v) ∷ []
unfolding line_of
got_line w act v = refl

no_match_there : (s : Room) → IsSound s → is_there s.heap no_match ≡ true
no_match_there s sound = known_there s sound no_match_id refl

fresh_is : (w : World) (tree : List Node) (act : ℕ) (v : Vat Local)
    → theirs.unmatched_noun (names w) tree act true v
    ≡ machine.and_then (machine.new_slot any_guard (theirs.no_match (names w) tree) v) (λ k t. machine.and_then (machine.tell (SlotMade act k (theirs.no_match (names w) tree)) t) (λ u. machine.give (Slot k)))
unfolding theirs.unmatched_noun machine.◌>>=◌ machine.◌>>◌
fresh_is w tree act v = refl

no_match_is : (w : World) (tree : List Node) → theirs.no_match (names w) tree ≡ value_of w no_match
unfolding theirs.no_match
no_match_is w tree = refl

unmatched_noun_met : (w : World) (tree : List Node) (act : ℕ) (b : Bool) (s : Room) → IsSound s
    → Met w a_bound s (unmatched_noun act b s) (theirs.unmatched_noun (names w) tree act b (vat w s))
unfolding unmatched_noun any_guard ◌>>=◌ ◌>>◌
unmatched_noun_met w tree act false s sound = unfold theirs.unmatched_noun theirs.no_match in give_met w a_bound (scope.Fixed no_match no_guard) s sound (no_match_there s sound)
unmatched_noun_met w tree act true s sound =
    rw (fresh_is w tree act (vat w s), no_match_is w tree)
    (then_met _ _ (new_slot_met w no_guard no_match s sound (no_match_there s sound))
    (λ k t q j g. then_met _ _ (tell_met w (event.Slot act k no_match) (SlotMade act k (value_of w no_match)) t q (made_line w act k no_match))
    (λ u r p l d. give_met w a_bound (scope.Slot k) r p refl)))

more_scope : (w : World) (x : Words) (b : Kept) (here : Scope) → scope_of w (with_noun x b here) ≡ scopes.with_noun x (bound_of w b) (scope_of w here)
unfolding scopes.with_noun
more_scope w x b here = ap (λ (ns : List (Bond Local)). record { act = here.act; nouns = ns }) (onto_more w [] here.nouns (record { noun = x; bound = b }))

after_one : (b : BoundNoun) (bs : List BoundNoun) (here : Scope) (o : Out Kept) → and_then (and_then o (λ n. give (with_noun b.noun n here))) (λ after. unmatched bs after) ≡ and_then o (λ n. unmatched bs (with_noun b.noun n here))
unfolding and_then give
after_one b bs here (Ok n, t) = refl
after_one b bs here (Err e, t) = refl

unmatched_met : (w : World) (tree : List Node) (bs : List BoundNoun) (here : Scope) (s : Room) → IsSound s → are_bound s.heap here.nouns ≡ true
    → Met w a_scope s (unmatched bs here s) (theirs.unmatched (names w) tree bs (scope_of w here) (vat w s))
unfolding unmatched bind_unmatched theirs.unmatched ◌>>=◌ machine.◌>>=◌
unmatched_met w tree [] here s sound k = give_met w a_scope here s sound k
unmatched_met w tree (b ∷ bs) here s sound k =
    rw (after_one b bs here (unmatched_noun here.act b.is_var s))
    (then_met _ _ (unmatched_noun_met w tree here.act b.is_var s sound)
    (λ n t q j g. subst (λ (sc : Surroundings Local). Met w a_scope t (unmatched bs (with_noun b.noun n here) t) (theirs.unmatched (names w) tree bs sc (vat w t))) (more_scope w b.noun n here)
    (unmatched_met w tree bs (with_noun b.noun n here) t q (bound_more t.heap here.nouns (record { noun = b.noun; bound = n }) (scope_on g here.nouns k) j))))

matched_if_met : (w : World) (tree : List Node) (p : ℕ) (here : Scope) (n : ℕ) (v : Held) (b : Bool) (s : Room) → IsSound s → is_there s.heap v ≡ true → are_bound s.heap here.nouns ≡ true
    → Met w an_answer s (matched_if tree p here n v b s) ((if b then theirs.not_matched (names w) tree p (scope_of w here) (value_of w v) else machine.eject n (value_of w v)) (vat w s))
unfolding matched_if not_matched theirs.not_matched scopes.answered ◌>>=◌ ◌>>◌ machine.◌>>=◌ machine.◌>>◌
matched_if_met w tree p here n v true s sound i k =
    then_met _ _ (tell_met w (event.Got here.act v) (Got here.act (value_of w v)) s sound (got_line w here.act v))
    (λ u t q j g. then_met _ _ (unmatched_met w tree (bound_nouns tree p) here t q (scope_on g here.nouns k)) (λ after r o l d. give_met w an_answer (held.Bool false, after) r o (refl, l)))
matched_if_met w tree p here n v false s sound i k = eject_met w an_answer n v s sound i

match_ended_met : (w : World) (tree : List Node) (their : scopes.Evaluator Local) (j p : ℕ) (here : Scope) (s : Room) (o : Out Scope) (m : machine.Act Local (Surroundings Local)) → IsSound s → are_bound s.heap here.nouns ≡ true
    → Met w a_scope s o (m (vat w s))
    → Met w an_answer s (match_ended tree j p here o) (theirs.match_ended (names w) tree j p (scope_of w here) m (vat w s))
unfolding match_ended theirs.match_ended machine.ending
match_ended_met w tree their j p here s o m sound k h =
    ended_met w a_scope an_answer s o (m (vat w s)) _ _ _ _ _ _ h
    (λ inner t q i g. leave_met w an_answer tree j (give (held.Bool true, inner)) (scopes.answered (scope_of w inner) (Flag true)) t q
    (λ u r e. unfold scopes.answered in give_met w an_answer (held.Bool true, inner) u r (refl, scope_on e inner.nouns i)))
    (λ id t q i g. leave_met w an_answer tree j (fail (exit.Thrown id)) (machine.throw (text_of w id)) t q (λ u r e. throw_met w an_answer id u r (there_on e (held.Text id) i)))
    (λ n v t q i g. leave_met w an_answer tree j (matched_if tree p here n v (n == j)) (if n == j then theirs.not_matched (names w) tree p (scope_of w here) (value_of w v) else machine.eject n (value_of w v)) t q
    (λ u r e. matched_if_met w tree p here n v (n == j) u r (there_on e v i) (scope_on e here.nouns (scope_on g here.nouns k))))

match_is : (w : World) (tree : List Node) (their : scopes.Evaluator Local) (id e p : ℕ) (sc : Surroundings Local) (v : Vat Local)
    → theirs.step (names w) tree their id (MatchBind e p) sc v
    ≡ machine.and_then (their.expression e sc v) (λ x t. machine.and_then (calls.new_ejector (names w) tree sc.act t) (λ j. theirs.match_ended (names w) tree j p x.scope (λ z. their.pattern p x.value (Ref (Obj j)) x.scope z)))
unfolding theirs.step machine.◌>>=◌ numbering
match_is w tree their id e p sc v = refl

match_met : (w : World) (tree : List Node) (rec : Evaluator) (their : scopes.Evaluator Local) (h : IsMet w rec their) (id e p : ℕ) (here : Scope) (s : Room) → IsSound s → are_bound s.heap here.nouns ≡ true
    → Met w an_answer s (match_node tree rec e p here s) (theirs.step (names w) tree their id (MatchBind e p) (scope_of w here) (vat w s))
unfolding match_node match_on ◌>>=◌
match_met w tree rec their h id e p here s sound k =
    rw (match_is w tree their id e p (scope_of w here) (vat w s))
    (then_met _ _ (h.expression e here s sound k)
    (λ x t q i g. then_met _ _ (new_ejector_met w tree here.act t q)
    (λ j u r l d. match_ended_met w tree their j p x.1 u (rec.pattern p x.0 (held.Obj j) x.1 u) (λ z. their.pattern p (value_of w x.0) (Ref (Obj j)) (scope_of w x.1) z) r (scope_on d x.1.nouns i.1)
    (h.pattern p x.0 (held.Obj j) x.1 u r (there_on d x.0 i.0) refl (scope_on d x.1.nouns i.1)))))

step_met : (w : World) → (tree : List Node) (rec : Evaluator) (their : scopes.Evaluator Local) (h : IsMet w rec their) (id : ℕ) (n : Node) (here : Scope) (s : Room) → IsSound s → are_bound s.heap here.nouns ≡ true
    → slice_get tree id ≡ Some n
    → Met w an_answer s (step tree rec id n here s) (theirs.step (names w) tree their id n (scope_of w here) (vat w s))
unfolding step theirs.step
step_met w tree rec their h id (Lit l) here s sound k found = literal_met w tree their id l here s sound k
step_met w tree rec their h id (Noun x) here s sound k found = noun_node_met w tree their id x here s sound k
step_met w tree rec their h id (Set x v) here s sound k found = set_met w tree rec their h id x v here s sound k
step_met w tree rec their h id (Def p j v) here s sound k found = define_met w tree rec their h id p j v here s sound k
step_met w tree rec their h id (Call r verb args) here s sound k found = call_node_met w tree rec their h id r verb args here s sound k
step_met w tree rec their h id (Sequence es) here s sound k found = sequence_met w tree rec their h id es here s sound k
step_met w tree rec their h id (If c a b) here s sound k found = if_met w tree rec their h id c a b here s sound k
step_met w tree rec their h id (Escape p b c) here s sound k found = escape_met w tree rec their h id p b c here s sound k
step_met w tree rec their h id (Try b p g) here s sound k found = try_met w tree rec their h id b p g here s sound k
step_met w tree rec their h id (Finally a b) here s sound k found = finally_met w tree rec their h id a b here s sound k
step_met w tree rec their h id (Hide v) here s sound k found = hide_met w tree rec their h id v here s sound k
step_met w tree rec their h id (MatchBind v p) here s sound k found = match_met w tree rec their h id v p here s sound k
step_met w tree rec their h id (ObjectNode p auditors ms) here s sound k found = object_met w tree rec their h id p auditors ms here s sound k found
step_met w tree rec their h id other here s sound k found = stop_met w an_answer s

-- ---- patterns

bound_met : (w : World) (x : Words) (b : Kept) (here : Scope) (s : Room) → IsSound s → are_bound s.heap here.nouns ≡ true → is_bound s.heap b ≡ true
    → Met w a_scope s (give (with_noun x b here) s) (machine.give (scopes.with_noun x (bound_of w b) (scope_of w here)) (vat w s))
unfolding give machine.give scopes.with_noun
bound_met w x b here s sound k i = record {
  grown = grown_same s.heap;
  stays = refl;
  keeps = (sound, bound_more s.heap here.nouns (record { noun = x; bound = b }) k i);
  is = λ f. ap (λ (ns : List (Bond Local)). machine.Gives (record { act = here.act; nouns = ns }) (vat w s)) (sym (onto_more w [] here.nouns (record { noun = x; bound = b })));
}

-- what the machine binds by a pattern of one name
unfoldable their_bound : ℕ → Target → Value Local → Value Local → Surroundings Local → machine.Act Local (Surroundings Local)
their_bound act (target.Final x) g y sc = machine.give (scopes.with_noun x (Fixed y g) sc)
their_bound act (target.Var x) g y sc = λ v. machine.and_then (machine.new_slot g y v) (λ k t. machine.and_then (machine.tell (SlotMade act k y) t) (λ u. machine.give (scopes.with_noun x (Slot k) sc)))
their_bound act target.Nothing g y sc = machine.give sc

-- the pattern that binds so, with its guard
abbrev node_of : Target → Option ℕ → Node
node_of (target.Final x) g = Final x g
node_of (target.Var x) g = Var x g
node_of target.Nothing g = Any g

bind_coerced_met : (w : World) (act : ℕ) (t : Target) (k : GuardKind) (v : Held) (here : Scope) (s : Room) → IsSound s → is_there s.heap v ≡ true → are_bound s.heap here.nouns ≡ true
    → Met w a_scope s (bind_coerced act t k v here s) (their_bound act t (guard_of k) (value_of w v) (scope_of w here) (vat w s))
unfolding bind_coerced their_bound ◌>>=◌ ◌>>◌
bind_coerced_met w act (target.Final x) k v here s sound i l = bound_met w x (scope.Fixed v k) here s sound l i
bind_coerced_met w act (target.Var x) k v here s sound i l =
    then_met _ _ (new_slot_met w k v s sound i)
    (λ n t q m g. then_met _ _ (tell_met w (event.Slot act n v) (SlotMade act n (value_of w v)) t q (made_line w act n v))
    (λ u r p o d. bound_met w x (scope.Slot n) here r p (scope_on d here.nouns (scope_on g here.nouns l)) refl))
bind_coerced_met w act target.Nothing k v here s sound i l = give_met w a_scope here s sound l

-- ---- lists

module _ (w : World) (tree : List Node) (rec : Evaluator) (their : scopes.Evaluator Local) (h : IsMet w rec their) where
  not_list_met : (act : ℕ) (j : Held) (s : Room) → IsSound s → is_there s.heap j ≡ true
      → Met w a_scope s (failed (call tree rec) act j not_a_list_id s) (perform.failed (names w) tree {A = Surroundings Local} (calls.call (names w) tree their) act (value_of w j) (codes "not a list") (vat w s))
  not_list_met act j s sound i = failed_met w tree (call tree rec) (calls.call (names w) tree their) (call_met w tree rec their h) a_scope act j not_a_list_id s sound i (known_there s sound not_a_list_id refl)

  list_bound_met : (ps : List ℕ) (j : Held) (here : Scope) (vs : List Held) (b : Bool) (s : Room) → IsSound s → are_there s.heap vs ≡ true → is_there s.heap j ≡ true → are_bound s.heap here.nouns ≡ true
      → Met w a_scope s (bind_list tree rec ps j here vs b s)
      ((if b then calls.bind_all (names w) tree their ps (values_of w vs) (value_of w j) (scope_of w here) else perform.failed (names w) tree (calls.call (names w) tree their) here.act (value_of w j) (codes "not a list")) (vat w s))
  unfolding bind_list
  list_bound_met ps j here vs true s sound i l k = bind_all_met w tree rec their h ps vs j here s sound i l k
  list_bound_met ps j here vs false s sound i l k = not_list_met here.act j s sound l

  looks_at : (ps : List ℕ) (j : Value Local) (sc : Surroundings Local) (k : ℕ) (v : Vat Local)
      → theirs.bind_items (names w) tree their ps j sc (Items k) v
      ≡ (if length (native.list_at v.lists k) == length ps then calls.bind_all (names w) tree their ps (native.list_at v.lists k) j sc else perform.failed (names w) tree (calls.call (names w) tree their) sc.act j (codes "not a list")) v
  unfolding theirs.bind_items theirs.bind_list opened_state
  looks_at ps j sc k v = refl

  items_met : (ps : List ℕ) (j : Held) (here : Scope) (v : Held) (s : Room) → IsSound s → is_there s.heap v ≡ true → is_there s.heap j ≡ true → are_bound s.heap here.nouns ≡ true
      → Met w a_scope s (bind_items tree rec ps j here v s) (theirs.bind_items (names w) tree their ps (value_of w j) (scope_of w here) (value_of w v) (vat w s))
  unfolding bind_items
  items_met ps j here (held.List n) s sound i l k =
      rw (looks_at ps (value_of w j) (scope_of w here) n (vat w s), members_are w s n, length-map (members_at s.heap n) (value_of w))
      (list_bound_met ps j here (members_at s.heap n) (length (members_at s.heap n) == length ps) s sound (members_there s.heap sound.lists n) l k)
  items_met ps j here other s sound i l k = unfold theirs.bind_items in not_list_met here.act j s sound l

  list_is : (ps : List ℕ) (y j : Value Local) (sc : Surroundings Local) (v : Vat Local)
      → theirs.bind_step (names w) tree their (ListPattern ps) y j sc v ≡ theirs.bind_items (names w) tree their ps j sc (follow (names w) v y) v
  unfolding theirs.bind_step opened_state
  list_is ps y j sc v = refl

  list_pattern_met : (ps : List ℕ) (v j : Held) (here : Scope) (s : Room) → IsSound s → is_there s.heap v ≡ true → is_there s.heap j ≡ true → are_bound s.heap here.nouns ≡ true
      → Met w a_scope s (bind_items tree rec ps j here (followed s.refs v) s) (theirs.bind_step (names w) tree their (ListPattern ps) (value_of w v) (value_of w j) (scope_of w here) (vat w s))
  list_pattern_met ps v j here s sound i l k =
      rw (list_is ps (value_of w v) (value_of w j) (scope_of w here) (vat w s), follow_is w s sound v) (items_met ps j here (followed s.refs v) s sound (followed_there s sound v i) l k)

  -- ---- via

  via_is : (e p : ℕ) (y j : Value Local) (sc : Surroundings Local) (v : Vat Local)
      → theirs.bind_step (names w) tree their (Via e p) y j sc v
      ≡ machine.and_then (their.expression e sc v) (λ f t. machine.and_then (perform.handed (names w) tree j t) (λ k u. machine.and_then (calls.call (names w) tree their sc.act f.value (codes "run") (y ∷ k ∷ []) u) (λ x. their.pattern p x j f.scope)))
  unfolding theirs.bind_step machine.◌>>=◌
  via_is e p y j sc v = refl

  viewed_met : (act p : ℕ) (v j f : Held) (here : Scope) (s : Room) → IsSound s → is_there s.heap v ≡ true → is_there s.heap j ≡ true → is_there s.heap f ≡ true → are_bound s.heap here.nouns ≡ true
      → Met w a_scope s (bind_via tree rec act p v j f here s)
      (machine.and_then (perform.handed (names w) tree (value_of w j) (vat w s)) (λ k u. machine.and_then (calls.call (names w) tree their act (value_of w f) (codes "run") (value_of w v ∷ k ∷ []) u) (λ x. their.pattern p x (value_of w j) (scope_of w here))))
  unfolding bind_via ◌>>=◌
  viewed_met act p v j f here s sound i l m k =
      rw (handed_then w tree (call tree rec) (calls.call (names w) tree their) (call_met w tree rec their h) j s (λ k u. machine.and_then (calls.call (names w) tree their act (value_of w f) (codes "run") (value_of w v ∷ k ∷ []) u) (λ x. their.pattern p x (value_of w j) (scope_of w here))) sound)
      (then_met _ _ (call_met w tree rec their h act f (codes "run") (v ∷ handed s j ∷ []) s sound m (pair_there v (handed s j) s i (handed_there w tree (call tree rec) (calls.call (names w) tree their) (call_met w tree rec their h) j s l)))
      (λ y t q o g. h.pattern p y j here t q o (there_on g j l) (scope_on g here.nouns k)))

  via_met : (e p : ℕ) (v j : Held) (here : Scope) (s : Room) → IsSound s → is_there s.heap v ≡ true → is_there s.heap j ≡ true → are_bound s.heap here.nouns ≡ true
      → Met w a_scope s (bind_asked tree rec e p v j here s) (theirs.bind_step (names w) tree their (Via e p) (value_of w v) (value_of w j) (scope_of w here) (vat w s))
  unfolding bind_asked ◌>>=◌
  via_met e p v j here s sound i l k =
      rw (via_is e p (value_of w v) (value_of w j) (scope_of w here) (vat w s))
      (then_met _ _ (h.expression e here s sound k) (λ f t q m g. viewed_met here.act p v j f.0 f.1 t q (there_on g v i) (there_on g j l) m.0 m.1))

  -- ---- guards

  none_is : (t : Target) (y j : Value Local) (sc : Surroundings Local) (v : Vat Local)
      → theirs.bind_step (names w) tree their (node_of t None) y j sc v ≡ their_bound sc.act t (Prim any) y sc v
  unfolding opened_eval their_bound
  none_is (target.Final x) y j sc v = refl
  none_is other y j sc v = refl

  -- what the machine binds under a guard
  abbrev their_under : ℕ → Target → Value Local → Value Local → Value Local → Surroundings Local → machine.Act Local (Surroundings Local)
  their_under act t y j g sc = λ v. machine.and_then (perform.coerce (names w) tree (calls.call (names w) tree their) act g j y v) (λ z. their_bound act t g z sc)

  binds_is : (t : Target) (g : Option ℕ) (y j : Value Local) (sc : Surroundings Local) (v : Vat Local)
      → theirs.bind_step (names w) tree their (node_of t g) y j sc v ≡ machine.and_then (theirs.guard_of (names w) tree their g sc v) (λ k. their_under sc.act t y j k.value k.scope)
  unfolding theirs.bind_step their_bound machine.◌>>=◌ machine.◌>>◌
  binds_is (target.Final x) g y j sc v = refl
  binds_is other g y j sc v = refl

  guard_is : (e : ℕ) (sc : Surroundings Local) (v : Vat Local)
      → theirs.guard_of (names w) tree their (Some e) sc v ≡ machine.and_then (their.expression e sc v) (λ x u. scopes.answered x.scope (follow (names w) u x.value) u)
  unfolding theirs.guard_of machine.◌>>=◌ machine.look machine.and_then
  guard_is e sc v = refl

  answered_first : (x : Value Local) (sc : Surroundings Local) (v : Vat Local) (f : Answer Local → machine.Act Local (Surroundings Local)) → machine.and_then (scopes.answered sc x v) f ≡ f (record { value = x; scope = sc }) v
  unfolding scopes.answered opened_state
  answered_first x sc v f = refl

  some_is : (t : Target) (e : ℕ) (y j : Value Local) (sc : Surroundings Local) (v : Vat Local)
      → theirs.bind_step (names w) tree their (node_of t (Some e)) y j sc v
      ≡ machine.and_then (their.expression e sc v) (λ x u. machine.and_then (scopes.answered x.scope (follow (names w) u x.value) u) (λ k. their_under sc.act t y j k.value k.scope))
  some_is t e y j sc v =
      binds_is t (Some e) y j sc v
      ∙ ap (λ (d : Done Local (Answer Local)). machine.and_then d (λ k. their_under sc.act t y j k.value k.scope)) (guard_is e sc v)
      ∙ in_turn (their.expression e sc v) (λ x u. scopes.answered x.scope (follow (names w) u x.value) u) (λ k. their_under sc.act t y j k.value k.scope)

  by_met : (act : ℕ) (t : Target) (v j : Held) (k : GuardKind) (here : Scope) (s : Room) → IsSound s → is_there s.heap v ≡ true → is_there s.heap j ≡ true → are_bound s.heap here.nouns ≡ true
      → Met w a_scope s (bind_by tree rec act t v j k here s) (their_under act t (value_of w v) (value_of w j) (guard_of k) (scope_of w here) (vat w s))
  unfolding bind_by ◌>>=◌
  by_met act t v j k here s sound i l m = then_met _ _ (coerces_met w tree rec their h act k v j s sound i l) (λ u q r n g. bind_coerced_met w act t k u here q r n (scope_on g here.nouns m))

  no_guard_met : (act : ℕ) (t : Target) (y j g : Value Local) (sc : Surroundings Local) (s : Room) → IsSound s → perform.coerce (names w) tree (calls.call (names w) tree their) act g j y (vat w s) ≡ machine.throw (codes "not a guard") (vat w s)
      → Met w a_scope s (fail (exit.Thrown not_a_guard_id) s) (their_under act t y j g sc (vat w s))
  unfolding opened_state
  no_guard_met act t y j g sc s sound e = rw e (throw_met w a_scope not_a_guard_id s sound (known_there s sound not_a_guard_id refl))

  -- no promise and no far object is a guard
  elsewhere : (act : ℕ) (g j y : Value Local) (p : refs.Place Local) (v : Vat Local) → scopes.is_near p ≡ false → perform.coerce_near (names w) tree (calls.call (names w) tree their) act g j y p v ≡ machine.throw (codes "not a guard") v
  unfolding scopes.is_near perform.coerce_near
  elsewhere act g j y refs.Near v e = absurd (cc)
  elsewhere act g j y other v e = refl

  reference_is : (act : ℕ) (n : Local) (j y : Value Local) (v : Vat Local)
      → perform.coerce (names w) tree (calls.call (names w) tree their) act (Ref n) j y v ≡ perform.coerce_near (names w) tree (calls.call (names w) tree their) act (Ref n) j y (refs.place (names w) v (Ref n)) v
  unfolding perform.coerce opened_state
  reference_is act n j y v = refl

  waiting : (v : Vat Local) (n : Local) (b : Bool) → scopes.is_near (elim b [ true ↦ refs.Mine n | false ↦ refs.Away (refs.host_at (names w) v.number v.known n) n false ]) ≡ false
  unfolding scopes.is_near
  waiting v n true = refl
  waiting v n false = refl

  promise_is : (act n : ℕ) (j y : Value Local) (s : Room) → perform.coerce (names w) tree (calls.call (names w) tree their) act (Ref (Prom n)) j y (vat w s) ≡ machine.throw (codes "not a guard") (vat w s)
  promise_is act n j y s =
      reference_is act (Prom n) j y (vat w s)
      ∙ elsewhere act (Ref (Prom n)) j y (refs.place (names w) (vat w s) (Ref (Prom n))) (vat w s)
      (unfold refs.place refs.spotted refs.hosted numbering local_spot in waiting (vat w s) (Prom n) ((vat w s).number == refs.host_at (names w) (vat w s).number (vat w s).known (Prom n)))

  far_is : (act a p : ℕ) (j y : Value Local) (s : Room) → perform.coerce (names w) tree (calls.call (names w) tree their) act (Ref (Far a p)) j y (vat w s) ≡ machine.throw (codes "not a guard") (vat w s)
  far_is act a p j y s =
      reference_is act (Far a p) j y (vat w s)
      ∙ elsewhere act (Ref (Far a p)) j y (refs.place (names w) (vat w s) (Ref (Far a p))) (vat w s) (unfold refs.place refs.spotted scopes.is_near numbering local_spot in refl)

  under_met : (act : ℕ) (t : Target) (v j x : Held) (here : Scope) (s : Room) → IsSound s → is_there s.heap v ≡ true → is_there s.heap j ≡ true → is_there s.heap x ≡ true → are_bound s.heap here.nouns ≡ true
      → Met w a_scope s (bind_under tree rec act t v j x here s) (their_under act t (value_of w v) (value_of w j) (value_of w x) (scope_of w here) (vat w s))
  unfolding bind_under
  under_met act t v j (held.Prim n) here s sound i l k m = by_met act t v j (Native n) here s sound i l m
  under_met act t v j (held.Obj n) here s sound i l k m = by_met act t v j (User n) here s sound i l m
  under_met act t v j held.Null here s sound i l k m = no_guard_met act t (value_of w v) (value_of w j) (value_of w held.Null) (scope_of w here) s sound (unfold perform.coerce in refl)
  under_met act t v j (held.Bool b) here s sound i l k m = no_guard_met act t (value_of w v) (value_of w j) (value_of w (held.Bool b)) (scope_of w here) s sound (unfold perform.coerce in refl)
  under_met act t v j (held.Int z) here s sound i l k m = no_guard_met act t (value_of w v) (value_of w j) (value_of w (held.Int z)) (scope_of w here) s sound (unfold perform.coerce in refl)
  under_met act t v j (held.Char c) here s sound i l k m = no_guard_met act t (value_of w v) (value_of w j) (value_of w (held.Char c)) (scope_of w here) s sound (unfold perform.coerce in refl)
  under_met act t v j (held.Text n) here s sound i l k m = no_guard_met act t (value_of w v) (value_of w j) (value_of w (held.Text n)) (scope_of w here) s sound (unfold perform.coerce in refl)
  under_met act t v j (held.Broken n) here s sound i l k m = no_guard_met act t (value_of w v) (value_of w j) (value_of w (held.Broken n)) (scope_of w here) s sound (unfold perform.coerce in refl)
  under_met act t v j (held.List n) here s sound i l k m = no_guard_met act t (value_of w v) (value_of w j) (value_of w (held.List n)) (scope_of w here) s sound (unfold perform.coerce in refl)
  under_met act t v j (held.Prom n) here s sound i l k m = no_guard_met act t (value_of w v) (value_of w j) (value_of w (held.Prom n)) (scope_of w here) s sound (promise_is act n (value_of w j) (value_of w v) s)
  under_met act t v j (held.Far n p) here s sound i l k m = no_guard_met act t (value_of w v) (value_of w j) (value_of w (held.Far n p)) (scope_of w here) s sound (far_is act n p (value_of w j) (value_of w v) s)

  guarded_met : (t : Target) (g : Option ℕ) (v j : Held) (here : Scope) (s : Room) → IsSound s → is_there s.heap v ≡ true → is_there s.heap j ≡ true → are_bound s.heap here.nouns ≡ true
      → Met w a_scope s (bind_guarded tree rec t g v j here s) (theirs.bind_step (names w) tree their (node_of t g) (value_of w v) (value_of w j) (scope_of w here) (vat w s))
  unfolding bind_guarded ◌>>=◌
  guarded_met t None v j here s sound i l k = rw (none_is t (value_of w v) (value_of w j) (scope_of w here) (vat w s)) (bind_coerced_met w here.act t no_guard v here s sound i k)
  guarded_met t (Some e) v j here s sound i l k =
      rw (some_is t e (value_of w v) (value_of w j) (scope_of w here) (vat w s))
      (then_met _ _ (h.expression e here s sound k)
      (λ x q r m g. rw (
        follow_is w q r x.0,
        answered_first (value_of w (followed q.refs x.0)) (scope_of w x.1) (vat w q) (λ y. their_under here.act t (value_of w v) (value_of w j) y.value y.scope),
      ) (under_met here.act t v j (followed q.refs x.0) x.1 q r (there_on g v i) (there_on g j l) (followed_there q r x.0 m.0) m.1)))

  bind_step_met : (n : Node) (v j : Held) (here : Scope) (s : Room) → IsSound s → is_there s.heap v ≡ true → is_there s.heap j ≡ true → are_bound s.heap here.nouns ≡ true
      → Met w a_scope s (bind_step tree rec n v j here s) (theirs.bind_step (names w) tree their n (value_of w v) (value_of w j) (scope_of w here) (vat w s))
  unfolding bind_step ◌>>=◌
  bind_step_met (Final x g) v j here s sound i l k = guarded_met (target.Final x) g v j here s sound i l k
  bind_step_met (Var x g) v j here s sound i l k = guarded_met (target.Var x) g v j here s sound i l k
  bind_step_met (Any g) v j here s sound i l k = guarded_met target.Nothing g v j here s sound i l k
  bind_step_met (ListPattern ps) v j here s sound i l k = list_pattern_met ps v j here s sound i l k
  bind_step_met (Via f p) v j here s sound i l k = via_met f p v j here s sound i l k
  bind_step_met _ v j here s sound i l k = unfold theirs.bind_step in stop_met w a_scope s

-- ---- the tree and the depth

found_met : (w : World) → (tree : List Node) (rec : Evaluator) (their : scopes.Evaluator Local) (h : IsMet w rec their) (id : ℕ) (o : Option Node) (here : Scope) (s : Room) → IsSound s → are_bound s.heap here.nouns ≡ true
    → slice_get tree id ≡ o
    → Met w an_answer s (step_found tree rec id o here s) (theirs.step_found (names w) tree their id o (scope_of w here) (vat w s))
unfolding step_found theirs.step_found
found_met w tree rec their h id None here s sound k e = stop_met w an_answer s
found_met w tree rec their h id (Some n) here s sound k e = step_met w tree rec their h id n here s sound k e

bind_met : (w : World) → (tree : List Node) (rec : Evaluator) (their : scopes.Evaluator Local) (h : IsMet w rec their) (o : Option Node) (v j : Held) (here : Scope) (s : Room) → IsSound s → is_there s.heap v ≡ true → is_there s.heap j ≡ true → are_bound s.heap here.nouns ≡ true
    → Met w a_scope s (bind_found tree rec o v j here s) (theirs.bind_found (names w) tree their o (value_of w v) (value_of w j) (scope_of w here) (vat w s))
unfolding bind_found theirs.bind_found
bind_met w tree rec their h None v j here s sound i l k = stop_met w a_scope s
bind_met w tree rec their h (Some n) v j here s sound i l k = bind_step_met w tree rec their h n v j here s sound i l k

deeper_met : (w : World) → (tree : List Node) (rec : Evaluator) (their : scopes.Evaluator Local) → IsMet w rec their
    → IsMet w (deeper tree rec) (theirs.deeper (names w) tree their)
unfolding deeper theirs.deeper ◌>>◌ machine.◌>>◌
deeper_met w tree rec their h = record {
  expression = λ id here s sound k. then_met _ _ (spend_met w 1 s sound) (λ u t q j g. found_met w tree rec their h id (slice_get tree id) here t q (scope_on g here.nouns k) refl);
  pattern = λ id v j here s sound i l k. then_met _ _ (spend_met w 1 s sound) (λ u t q m g. bind_met w tree rec their h (slice_get tree id) v j here t q (there_on g v i) (there_on g j l) (scope_on g here.nouns k));
  grows = deeper_grows tree rec h.grows;
}

pub evaluator_met : (w : World) → (tree : List Node) (d : ℕ) → IsMet w (evaluator tree d) (theirs.evaluator (names w) tree d)
unfolding evaluator theirs.evaluator
evaluator_met w tree zero = record { expression = λ id here s sound k. deep_met w an_answer s; pattern = λ id v j here s sound i l k. deep_met w a_scope s; grows = none_grows tree }
evaluator_met w tree (suc d) = deeper_met w tree (evaluator tree d) (theirs.evaluator (names w) tree d) (evaluator_met w tree d)
