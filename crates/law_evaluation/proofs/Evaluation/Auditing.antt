-- Auditors and auditions in the code's evaluation stand for the machine's.
use Rattle.std.proofs.Common.{◌≡◌, ◌==◌, ℕ, Bool, true, false, List, [], ◌∷◌, ◌++◌, Option, Some, Ok, Err, length, refl, sym, ap, subst, append_assoc, append-nil}
use Rattle.std.specs.Prelude.{if◌then◌else◌, codes, slice_get}
use Rattle.std.proofs.lemmas.List.{map-append}
use Rattle.ev_base.specs.declared.values.Value.{Value as Held}
use Rattle.ev_base.specs.declared.values.Value.TheVariants as held
use Rattle.ev_heap.specs.Contents.{Contents}
use Rattle.ev_heap.specs.declared.kept.AuditView.{AuditView}
use Rattle.def_kernel.specs.declared.node.Node.{Node}
use Rattle.def_kernel.specs.declared.node.Node.TheVariants.{Object as ObjectNode}
use Rattle.def_machine.specs.Calls as calls
use Rattle.def_machine.specs.Free.{entry, free_nouns, same_words}
use Rattle.def_machine.specs.Native.{primitive}
use Rattle.def_machine.specs.Perform as perform
use Rattle.def_machine.specs.Refs.{Near, follow, place}
use Rattle.def_machine.specs.Scopes as scopes
use Rattle.def_machine.specs.State.{Audition, AuditionMade, Scope as Surroundings, View, Vat, Done, Throws, Ejects, Stops, opened_state}
use Rattle.def_machine.specs.State as machine
use Rattle.def_machine.specs.Values.{Words, Value, Flag, Prim, Ref, Local, Obj, Prom, Far, numbering}
use Rattle.ev_audit.specs.Asks.{ask_by, asking}
use Rattle.ev_audit.specs.Views.{view_of as seen_of}
use Rattle.ev_audit.specs.declared.auditions.AuditionAsk.{AuditionAsk}
use Rattle.ev_audit.specs.declared.auditions.AuditionAsk.TheVariants.{GetsForm, GetsGuard, Asks, NoMethod as NoAsk}
use Rattle.ev_pass.specs.declared.interior.Interior.{Interior as Room}
use Rattle.ev_prims.specs.declared.problem.Problem.TheVariants.{NoMethod}
use Rattle.ev_refs.specs.Follow.{followed, place_of, hosted, host_of}
use Rattle.ev_refs.specs.Reading.{place_by}
use Rattle.ev_refs.specs.declared.follow.Place.TheVariants.{Mine, FarPromise}
use Rattle.ev_room.specs.Reading.{World, names, texts_of, text_of, value_of, values_of}
use Rattle.ev_room.specs.Sound.{IsSound, is_there, are_there, are_bound, not_an_auditor_id, dead_audition_id}
use Rattle.ev_room.specs.declared.exit.Exit.TheVariants as exit
use Rattle.ev_room.specs.declared.scope.Scope.{Scope}
use Rattle.ev_room.specs.Acts.{Out, and_then, ◌>>=◌, give, fail, fails, answer, guard_asked, prim_verdict, view_at}
use Rattle.ev_steps.specs.Steps.{Caller, leaving, is_true, approved, audited, audit, verdict, with_stamp, ask_all, make_object, audition_live, dead_problem, audition_answer}
use Rattle.law_evaluation.proofs.Acts.Auditing.{new_audition_met, guard_asked_met}
use Rattle.law_evaluation.proofs.Acts.Building.{object_form_met}
use Rattle.law_evaluation.proofs.Acts.Following.{followed_there}
use Rattle.law_evaluation.proofs.Acts.Leaving.{leave_met}
use Rattle.law_evaluation.proofs.Acts.Making.{object_at_met, view_is}
use Rattle.law_evaluation.proofs.Acts.Replies.{there_joined}
use Rattle.law_evaluation.proofs.Acts.Sounds.{there_on, all_on, all_and, scope_on}
use Rattle.law_evaluation.proofs.Acts.Stands.{Look, Met, vat, a_value, an_answer, scope_of, ended_met, then_met, give_met, throw_met, eject_met, fails_met, known_there, follow_is, place_is}
use Rattle.law_evaluation.proofs.Evaluation.Calls.{CallsMet}
use Rattle.ev_room.proofs.There.{both}

-- ---- verdicts

-- a boolean, as it is held
abbrev IsFlag : Held → Type 0
IsFlag (held.Bool b) = Unit {0}
IsFlag _ = ⊥

abbrev a_flag : Look Held Bool
a_flag = record { of = λ w v. is_true v; fits = λ h v. IsFlag v }

flag_by : (w : World) (b c : Bool) (s : Room) → IsSound s
    → Met w a_flag s (answer (if b then Ok (held.Bool c) else Err (exit.Thrown not_an_auditor_id)) s) ((if b then machine.give c else machine.throw (codes "not an auditor")) (vat w s))
unfolding answer
flag_by w true c s sound = unfold give in give_met w a_flag (held.Bool c) s sound tt
flag_by w false c s sound = unfold fail in throw_met w a_flag not_an_auditor_id s sound (known_there s sound not_an_auditor_id refl)

no_auditor_met : (w : World) (s : Room) → IsSound s → Met w a_flag s (fail (exit.Thrown not_an_auditor_id) s) (machine.throw (codes "not an auditor") (vat w s))
no_auditor_met w s sound = throw_met w a_flag not_an_auditor_id s sound (known_there s sound not_an_auditor_id refl)

-- only true approves
true_is : (w : World) (v : Held) → scopes.is_true (value_of w v) ≡ is_true v
unfolding scopes.is_true
true_is w (held.Bool b) = refl
true_is w _ = refl

look_is : {A : Type 0} (f : Vat Local → A) (y : Vat Local) → machine.look f y ≡ machine.give (f y) y
unfolding opened_state
look_is f y = refl

approved_met : (w : World) (v : Held) (s : Room) → IsSound s → Met w a_flag s (approved v s) (machine.look (λ y. scopes.is_true (follow (names w) y (value_of w v))) (vat w s))
unfolding approved
approved_met w v s sound =
    rw (look_is (λ y. scopes.is_true (follow (names w) y (value_of w v))) (vat w s), follow_is w s sound v, true_is w (followed s.refs v))
    (give_met w a_flag (held.Bool (is_true (followed s.refs v))) s sound tt)

-- the audition is dead, however it ended
leaving_met : (w : World) (tree : List Node) (n : ℕ) (s : Room) (o : Out Held) (m : machine.Act Local (Value Local)) → Met w a_value s o (m (vat w s))
    → Met w a_value s (leaving n o) (calls.leaving (names w) tree n m (vat w s))
unfolding leaving calls.leaving machine.ending
leaving_met w tree n s o m i =
    ended_met w a_value a_value s o (m (vat w s)) _ _ _ _ _ _ i
    (λ v u q k g. leave_met w a_value tree n (give v) (machine.give (value_of w v)) u q (λ z r e. give_met w a_value v z r (there_on e v k)))
    (λ id u q k g. leave_met w a_value tree n (fail (exit.Thrown id)) (machine.throw (text_of w id)) u q (λ z r e. throw_met w a_value id z r (there_on e (held.Text id) k)))
    (λ k v u q l g. leave_met w a_value tree n (fail (exit.Ejected k v)) (machine.eject k (value_of w v)) u q (λ z r e. eject_met w a_value k v z r (there_on e v l)))

their_verdict_is : (w : World) (tree : List Node) (their : scopes.Caller Local) (act n : ℕ) (view : View Local) (a : Value Local) (y : Vat Local)
    → calls.verdict (names w) tree their act view a (Prim n) y
    ≡ (if scopes.is_auditor (primitive n) then machine.give (scopes.approves (primitive n) view.free) else machine.throw (codes "not an auditor")) y
unfolding calls.verdict
their_verdict_is w tree their act n view a y = refl

placed_is : (w : World) (tree : List Node) (their : scopes.Caller Local) (act : ℕ) (view : View Local) (a : Value Local) (n : Local) (y : Vat Local)
    → calls.verdict (names w) tree their act view a (Ref n) y ≡ calls.audit (names w) tree their act view a (place (names w) y (Ref n)) y
unfolding calls.verdict opened_state
placed_is w tree their act view a n y = refl

audit_is : (w : World) (tree : List Node) (their : scopes.Caller Local) (act : ℕ) (view : View Local) (a : Value Local) (y : Vat Local)
    → calls.audit (names w) tree their act view a Near y
    ≡ machine.and_then (machine.and_then (machine.new_thing (Audition true view) y) (λ j t. machine.and_then (machine.tell (AuditionMade act (Obj j)) t) (λ u. machine.give j)))
    (λ n z. machine.and_then (calls.leaving (names w) tree n (their act a (codes "audit") (Ref (Obj n) ∷ [])) z) (λ v. machine.look (λ s. scopes.is_true (follow (names w) s v))))
unfolding calls.audit numbering opened_state
audit_is w tree their act view a y = refl

module _ (w : World) (tree : List Node) (again : Caller) (their : scopes.Caller Local) (h : CallsMet w again their) where
  audit_met : (act : ℕ) (view : AuditView) (a : Held) (s : Room) → IsSound s → is_there s.heap a ≡ true
      → Met w a_flag s (audit again act view a s) (calls.audit (names w) tree their act (seen_of view) (value_of w a) Near (vat w s))
  unfolding audit audited ◌>>=◌
  audit_met act view a s sound i =
      rw (audit_is w tree their act (seen_of view) (value_of w a) (vat w s))
      (then_met _ _ (new_audition_met w act view s sound)
      (λ n t q j g. then_met _ _ (leaving_met w tree n t (again act a (codes "audit") (held.Obj n ∷ []) t) (their act (value_of w a) (codes "audit") (Ref (Obj n) ∷ [])) (h act a (codes "audit") (held.Obj n ∷ []) t q (there_on g a i) refl))
      (λ v u r k e. approved_met w v u r)))

  -- a promise is no auditor
  away_met : (act : ℕ) (view : AuditView) (a : Held) (b : Bool) (n v : ℕ) (s : Room) → IsSound s
      → Met w a_flag s (fail (exit.Thrown not_an_auditor_id) s) (calls.audit (names w) tree their act (seen_of view) (value_of w a) (place_by (texts_of w) (if b then Mine n else FarPromise v n)) (vat w s))
  unfolding calls.audit
  away_met act view a true n v s sound = no_auditor_met w s sound
  away_met act view a false n v s sound = no_auditor_met w s sound

  promise_met : (act : ℕ) (view : AuditView) (a : Held) (n : ℕ) (s : Room) → IsSound s
      → Met w a_flag s (fail (exit.Thrown not_an_auditor_id) s) (calls.audit (names w) tree their act (seen_of view) (value_of w a) (place_by (texts_of w) (place_of s.refs (held.Prom n))) (vat w s))
  unfolding place_of hosted
  promise_met act view a n s sound = away_met act view a (s.refs.me == host_of s.refs n) n (host_of s.refs n) s sound

  far_met : (act : ℕ) (view : AuditView) (a : Held) (v p : ℕ) (s : Room) → IsSound s
      → Met w a_flag s (fail (exit.Thrown not_an_auditor_id) s) (calls.audit (names w) tree their act (seen_of view) (value_of w a) (place_by (texts_of w) (place_of s.refs (held.Far v p))) (vat w s))
  unfolding place_of calls.audit
  far_met act view a v p s sound = no_auditor_met w s sound

  near_is : (i : ℕ) (s : Room) → place (names w) (vat w s) (Ref (Obj i)) ≡ Near
  unfolding place_of
  near_is i s = place_is w s (held.Obj i)

  -- the verdict of an auditor, as it is held and as it is followed
  pub verdict_met : (act : ℕ) (view : AuditView) (a y : Held) (s : Room) → IsSound s → is_there s.heap a ≡ true
      → Met w a_flag s (verdict again act view a y s) (calls.verdict (names w) tree their act (seen_of view) (value_of w a) (value_of w y) (vat w s))
  unfolding verdict
  verdict_met act view a (held.Prim n) s sound i =
      rw (their_verdict_is w tree their act n (seen_of view) (value_of w a) (vat w s))
      (unfold prim_verdict in flag_by w (scopes.is_auditor (primitive n)) (scopes.approves (primitive n) (seen_of view).free) s sound)
  verdict_met act view a (held.Obj k) s sound i =
      rw (placed_is w tree their act (seen_of view) (value_of w a) (Obj k) (vat w s), near_is k s) (audit_met act view a s sound i)
  verdict_met act view a (held.Prom n) s sound i =
      rw (placed_is w tree their act (seen_of view) (value_of w a) (Prom n) (vat w s), place_is w s (held.Prom n)) (promise_met act view a n s sound)
  verdict_met act view a (held.Far v p) s sound i =
      rw (placed_is w tree their act (seen_of view) (value_of w a) (Far v p) (vat w s), place_is w s (held.Far v p)) (far_met act view a v p s sound)
  verdict_met act view a other s sound i = unfold calls.verdict in no_auditor_met w s sound

-- ---- all of them, in order

abbrev some_values : Look (List Held) (List (Value Local))
some_values = record { of = values_of; fits = λ h vs. are_there h vs ≡ true }

-- the stamps that an outcome gives, behind others
unfoldable with_stamps : List (Value Local) → Done Local (List (Value Local)) → Done Local (List (Value Local))
with_stamps vs (machine.Gives xs t) = machine.Gives (vs ++ xs) t
with_stamps vs (Throws p t) = Throws p t
with_stamps vs (Ejects n v t) = Ejects n v t
with_stamps vs (Stops c t) = Stops c t

abbrev stamped : Bool → Value Local → List (Value Local) → List (Value Local)
stamped true y vs = vs ++ y ∷ []
stamped false y vs = vs

stamp_one : (w : World) (tree : List Node) (b : Bool) (y : Value Local) (vs xs : List (Value Local)) → vs ++ calls.with_stamp (names w) tree b y xs ≡ stamped b y vs ++ xs
unfolding calls.with_stamp
stamp_one w tree true y vs xs = sym (append_assoc vs (y ∷ []) xs)
stamp_one w tree false y vs xs = refl

stamps_one : (w : World) (tree : List Node) (b : Bool) (y : Value Local) (vs : List (Value Local)) (d : Done Local (List (Value Local)))
    → with_stamps vs (machine.and_then d (λ ys. machine.give (calls.with_stamp (names w) tree b y ys))) ≡ with_stamps (stamped b y vs) d
unfolding with_stamps opened_state
stamps_one w tree b y vs (machine.Gives xs t) = ap (λ (zs : List (Value Local)). machine.Gives zs t) (stamp_one w tree b y vs xs)
stamps_one w tree b y vs other = refl

stamps_then : (w : World) (tree : List Node) (y : Value Local) (vs : List (Value Local)) (d : Done Local Bool) (rest : machine.Act Local (List (Value Local)))
    → with_stamps vs (machine.and_then d (λ b t. machine.and_then (rest t) (λ ys. machine.give (calls.with_stamp (names w) tree b y ys))))
    ≡ machine.and_then d (λ b t. with_stamps (stamped b y vs) (rest t))
unfolding with_stamps opened_state
stamps_then w tree y vs (machine.Gives b t) rest = stamps_one w tree b y vs (rest t)
stamps_then w tree y vs other rest = refl

stamps_none : (d : Done Local (List (Value Local))) → with_stamps [] d ≡ d
unfolding with_stamps
stamps_none (machine.Gives xs t) = refl
stamps_none other = refl

stamped_is : (w : World) (b : Bool) (y : Held) (vs : List Held) → values_of w (with_stamp b y vs) ≡ stamped b (value_of w y) (values_of w vs)
stamped_is w true y vs = map-append (value_of w) vs (y ∷ [])
stamped_is w false y vs = refl

stamped_there : (c : Contents) (b : Bool) (y : Held) (vs : List Held) → is_there c y ≡ true → are_there c vs ≡ true → are_there c (with_stamp b y vs) ≡ true
stamped_there c true y vs i k = there_joined c vs (y ∷ []) k (all_and (is_there c y) true i refl)
stamped_there c false y vs i k = k

module _ (w : World) (tree : List Node) (again : Caller) (their : scopes.Caller Local) (h : CallsMet w again their) where
  abbrev their_all : ℕ → View Local → List (Value Local) → machine.Act Local (List (Value Local))
  their_all act view as' = calls.ask_all (names w) tree their act view as'

  ask_more : (act : ℕ) (view : View Local) (a : Value Local) (as' : List (Value Local)) (y : Vat Local)
      → their_all act view (a ∷ as') y
      ≡ machine.and_then (calls.verdict (names w) tree their act view a (follow (names w) y a) y) (λ b t. machine.and_then (their_all act view as' t) (λ ys. machine.give (calls.with_stamp (names w) tree b (follow (names w) y a) ys)))
  unfolding calls.ask_all opened_state
  ask_more act view a as' y = refl

  ask_none : (act : ℕ) (view : View Local) (y : Vat Local) → their_all act view [] y ≡ machine.Gives [] y
  unfolding calls.ask_all opened_state
  ask_none act view y = refl

  asked_none : (so_far : List Held) (s : Room) → IsSound s → are_there s.heap so_far ≡ true → Met w some_values s (give so_far s) (machine.Gives (values_of w so_far ++ []) (vat w s))
  asked_none so_far s sound k = rw (append-nil (values_of w so_far)) (unfold machine.give in give_met w some_values so_far s sound k)

  ask_all_met : (act : ℕ) (view : AuditView) (so_far as' : List Held) (s : Room) → IsSound s → are_there s.heap so_far ≡ true → are_there s.heap as' ≡ true
      → Met w some_values s (ask_all again act view so_far as' s) (with_stamps (values_of w so_far) (their_all act (seen_of view) (values_of w as') (vat w s)))
  unfolding ask_all
  ask_all_met act view so_far [] s sound k l = rw (ask_none act (seen_of view) (vat w s)) (unfold with_stamps in asked_none so_far s sound k)
  ask_all_met act view so_far (a ∷ as') s sound k l =
      let b = both (is_there s.heap a) (are_there s.heap as') l in
      let y = followed s.refs a in
      rw (
        ask_more act (seen_of view) (value_of w a) (values_of w as') (vat w s),
        follow_is w s sound a,
        stamps_then w tree (value_of w y) (values_of w so_far) (calls.verdict (names w) tree their act (seen_of view) (value_of w a) (value_of w y) (vat w s)) (their_all act (seen_of view) (values_of w as')),
      )
      (then_met _ _ (verdict_met w tree again their h act view a y s sound b.0)
      (λ v t q i g. subst
      (λ (vs : List (Value Local)). Met w some_values t (ask_all again act view (with_stamp (is_true v) y so_far) as' t) (with_stamps vs (their_all act (seen_of view) (values_of w as') (vat w t))))
      (stamped_is w (is_true v) y so_far)
      (ask_all_met act view (with_stamp (is_true v) y so_far) as' t q (stamped_there t.heap (is_true v) y so_far (there_on g y (followed_there s sound a b.0)) (all_on g so_far k)) (all_on g as' b.1))))

  all_asked_met : (act : ℕ) (view : AuditView) (as' : List Held) (s : Room) → IsSound s → are_there s.heap as' ≡ true
      → Met w some_values s (ask_all again act view [] as' s) (their_all act (seen_of view) (values_of w as') (vat w s))
  all_asked_met act view as' s sound l =
      subst (λ (d : Done Local (List (Value Local))). Met w some_values s (ask_all again act view [] as' s) d) (stamps_none (their_all act (seen_of view) (values_of w as') (vat w s)))
      (ask_all_met act view [] as' s sound refl l)

  -- ---- the object comes to be

  make_is : (id : ℕ) (p : Option Node) (free : List Words) (as' : List (Value Local)) (sc : Surroundings Local) (y : Vat Local)
      → calls.make_object (names w) tree their id p free as' sc y
      ≡ machine.and_then (their_all sc.act (calls.view_of (names w) tree id p free sc) as' y) (λ stamps v. calls.object_as (names w) tree id p free stamps (Obj (length v.things)) sc v)
  unfolding calls.make_object numbering opened_state
  make_is id p free as' sc y = refl

  -- the auditors' values are known
  pub make_object_met : (id p : ℕ) (auditors ms : List ℕ) (as' : List Held) (here : Scope) (s : Room) → IsSound s → are_there s.heap as' ≡ true → are_bound s.heap here.nouns ≡ true
      → slice_get tree id ≡ Some (ObjectNode p auditors ms)
      → Met w an_answer s (make_object tree again id p [] as' here s) (calls.make_object (names w) tree their id (slice_get tree p) (free_nouns tree ms) (values_of w as') (scope_of w here) (vat w s))
  unfolding make_object ◌>>=◌
  make_object_met id p auditors ms as' here s sound l k e =
      rw (make_is id (slice_get tree p) (free_nouns tree ms) (values_of w as') (scope_of w here) (vat w s), ← view_is w tree id p auditors ms here e)
      (then_met _ _ (all_asked_met here.act (view_at tree id p here) as' s sound l)
      (λ stamps t q i g. object_at_met w tree id p auditors ms stamps here t q (scope_on g here.nouns k) i e))

  -- ---- what an audition answers

  -- what is asked is of values that stand there
  abbrev AskThere : Contents → AuditionAsk → Type 0
  AskThere c (GetsGuard x) = is_there c x ≡ true
  AskThere c (Asks a) = is_there c a ≡ true
  AskThere c other = Unit {0}

  dead_met : (s : Room) → IsSound s → Met w a_value s (fail (exit.Thrown dead_audition_id) s) (machine.throw (codes "audition is dead") (vat w s))
  dead_met s sound = throw_met w a_value dead_audition_id s sound (known_there s sound dead_audition_id refl)

  guard_told_is : (act : ℕ) (view : View Local) (x : Value Local) (y : Vat Local)
      → calls.audition_live (names w) tree their act view (scopes.GetsGuard x) y ≡ perform.reply (names w) tree their act (scopes.guard_asked view.free (follow (names w) y x)) y
  unfolding calls.audition_live opened_state
  guard_told_is act view x y = refl

  guard_live_met : (act : ℕ) (view : AuditView) (x : Held) (s : Room) → IsSound s → is_there s.heap x ≡ true
      → Met w a_value s (answer (guard_asked s.heap view (followed s.refs x)) s) (calls.audition_live (names w) tree their act (seen_of view) (scopes.GetsGuard (value_of w x)) (vat w s))
  guard_live_met act view x s sound i =
      rw (guard_told_is act (seen_of view) (value_of w x) (vat w s), follow_is w s sound x)
      (guard_asked_met w tree their act view (followed s.refs x) s sound (followed_there s sound x i))

  asks_is : (act : ℕ) (view : View Local) (a : Value Local) (y : Vat Local)
      → calls.audition_live (names w) tree their act view (scopes.Asks a) y ≡ machine.and_then (calls.verdict (names w) tree their act view a (follow (names w) y a) y) (λ b. machine.give (Flag b))
  unfolding calls.audition_live opened_state
  asks_is act view a y = refl

  kept_same : (o : Out Held) → and_then o (λ v. give v) ≡ o
  kept_same (Ok v, t) = unfold and_then give in refl
  kept_same (Err e, t) = unfold and_then give in refl

  flag_given : (v : Held) (t : Room) → IsSound t → IsFlag v → Met w a_value t (give v t) (machine.give (Flag (is_true v)) (vat w t))
  flag_given (held.Bool b) t q i = give_met w a_value (held.Bool b) t q refl
  flag_given _ t q i = absurd i

  flagged_met : (s : Room) (o : Out Held) (d : Done Local Bool) → Met w a_flag s o d → Met w a_value s o (machine.and_then d (λ b. machine.give (Flag b)))
  flagged_met s o d m =
      subst (λ (p : Out Held). Met w a_value s p (machine.and_then d (λ b. machine.give (Flag b)))) (kept_same o) (then_met (λ v. give v) (λ b. machine.give (Flag b)) m (λ v t q i g. flag_given v t q i))

  asks_live_met : (act : ℕ) (view : AuditView) (a : Held) (s : Room) → IsSound s → is_there s.heap a ≡ true
      → Met w a_value s (verdict again act view a (followed s.refs a) s) (calls.audition_live (names w) tree their act (seen_of view) (scopes.Asks (value_of w a)) (vat w s))
  asks_live_met act view a s sound i =
      rw (asks_is act (seen_of view) (value_of w a) (vat w s), follow_is w s sound a)
      (flagged_met s (verdict again act view a (followed s.refs a) s) (calls.verdict (names w) tree their act (seen_of view) (value_of w a) (value_of w (followed s.refs a)) (vat w s)) (verdict_met w tree again their h act view a (followed s.refs a) s sound i))

  answer_at_met : (act : ℕ) (live : Bool) (view : AuditView) (q : AuditionAsk) (s : Room) → IsSound s → AskThere s.heap q
      → Met w a_value s (audition_answer tree again act live view q s) (calls.audition_answer (names w) tree their act live (seen_of view) (ask_by (text_of w) q) (vat w s))
  unfolding audition_answer audition_live dead_problem calls.audition_answer
  answer_at_met act true view NoAsk s sound i = fails_met w a_value NoMethod s sound
  answer_at_met act false view NoAsk s sound i = unfold fails in fails_met w a_value NoMethod s sound
  answer_at_met act true view GetsForm s sound i = unfold calls.audition_live in object_form_met w tree act view.node s sound
  answer_at_met act true view (GetsGuard x) s sound i = guard_live_met act view x s sound i
  answer_at_met act true view (Asks a) s sound i = asks_live_met act view a s sound i
  answer_at_met act false view other s sound i = dead_met s sound

  none_asked : (b : Bool) → ◌≡◌ {A = scopes.AuditionAsk Local} (elim b [ true ↦ scopes.GetsForm | false ↦ scopes.NoAuditionAsk ]) (ask_by (text_of w) (if b then GetsForm else NoAsk))
  none_asked true = refl
  none_asked false = refl

  one_asked : (b c : Bool) (x : Held)
      → ◌≡◌ {A = scopes.AuditionAsk Local} (elim b [ true ↦ scopes.GetsGuard (value_of w x) | false ↦ elim c [ true ↦ scopes.Asks (value_of w x) | false ↦ scopes.NoAuditionAsk ] ])
      (ask_by (text_of w) (if b then GetsGuard x else if c then Asks x else NoAsk))
  one_asked true c x = refl
  one_asked false true x = refl
  one_asked false false x = refl

  asking_is : (verb : Words) (args : List Held) → scopes.audition_ask verb (values_of w args) ≡ ask_by (text_of w) (asking verb args)
  unfolding scopes.audition_ask entry asking
  asking_is verb [] = none_asked (same_words (codes "getObjectExpr") verb)
  asking_is verb (x ∷ []) = one_asked (same_words (codes "getGuard") verb) (same_words (codes "ask") verb) x
  asking_is verb (x ∷ y ∷ vs) = refl

  none_there : (c : Contents) (b : Bool) → AskThere c (if b then GetsForm else NoAsk)
  none_there c true = tt
  none_there c false = tt

  one_there : (c : Contents) (b d : Bool) (x : Held) → is_there c x ≡ true → AskThere c (if b then GetsGuard x else if d then Asks x else NoAsk)
  one_there c true d x i = i
  one_there c false true x i = i
  one_there c false false x i = tt

  asking_there : (c : Contents) (verb : Words) (args : List Held) → are_there c args ≡ true → AskThere c (asking verb args)
  unfolding asking
  asking_there c verb [] i = none_there c (same_words (codes "getObjectExpr") verb)
  asking_there c verb (x ∷ []) i = one_there c (same_words (codes "getGuard") verb) (same_words (codes "ask") verb) x (both (is_there c x) true i).0
  asking_there c verb (x ∷ y ∷ vs) i = tt

  pub audition_met : (act : ℕ) (live : Bool) (view : AuditView) (verb : Words) (args : List Held) (s : Room) → IsSound s → are_there s.heap args ≡ true
      → Met w a_value s (audition_answer tree again act live view (asking verb args) s) (calls.audition_answer (names w) tree their act live (seen_of view) (scopes.audition_ask verb (values_of w args)) (vat w s))
  audition_met act live view verb args s sound i = rw (asking_is verb args) (answer_at_met act live view (asking verb args) s sound (asking_there s.heap verb args i))
