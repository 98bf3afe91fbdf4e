-- Evaluation: one step by cases on the node, over what evaluates the nodes below, and the depth.
use Rattle.std.specs.Prelude.{ℕ, zero, suc, Bool, true, false, List, [], ◌∷◌, Option, Some, None, if◌then◌else◌, ◌==◌, length, slice_get, codes}
use Rattle.def_machine.specs.Values.{Words, Value, Null, Flag, Text, Prim, Broken, Items, Ref, Naming}
use Rattle.def_machine.specs.State.{Bound, Fixed, Slot, Binding, Scope, Cell, Message, Took, Finished, Threw, Got, SlotMade, SlotWrote, Deep, Astray, Act, ◌>>=◌, ◌>>◌, give, throw, look, tell, stop, eject, spend, for_some, ending, new_activation, new_slot, write_slot}
use Rattle.def_machine.specs.Refs.{follow, settle, resolve}
use Rattle.def_machine.specs.Free.{free_nouns, bound_nouns, BoundNoun}
use Rattle.def_machine.specs.Form.{literal_value}
use Rattle.def_machine.specs.Native.{list_at}
use Rattle.def_kernel.specs.declared.node.Node.{Node}
use Rattle.def_kernel.specs.declared.node.Node.TheVariants.{Lit, Noun, Set, Def, Call, Sequence, If, Escape, Try, Finally, Hide, MatchBind, Object, Final, Var, Any, ListPattern, Via}
use Rattle.def_machine.specs.Scopes.{Answer, Answers, Evaluator, bound_in, with_noun, answered, read_bound, any_guard}
use Rattle.def_machine.specs.Perform.{failed, handed, coerce}
use Rattle.def_machine.specs.Calls.{leave, bind_all, new_ejector, call, turn_value, make_object}
use Rattle.def_machine.specs.Calls.{opened_calls}

module _ {N W : Type 0} (K : Naming N W) (tree : List Node) where
  -- ---- expressions

  -- expressions from left to right, each in the scope after the one before
  unfoldable pub all_of : Evaluator N → List ℕ → Scope N → Act N (Answers N)
  all_of rec [] here = give (record { values = []; scope = here })
  all_of rec (e ∷ es) here = do
    x ← rec.expression e here
    xs ← all_of rec es x.scope
    give (record { values = x.value ∷ xs.values; scope = xs.scope })

  unfoldable pub last_of : Evaluator N → Answer N → List ℕ → Act N (Answer N)
  last_of rec x [] = give x
  last_of rec x (e ∷ es) = do
    y ← rec.expression e x.scope
    last_of rec y es

  unfoldable pub exit_of : Evaluator N → Option ℕ → Scope N → Act N (Answer N)
  exit_of rec None here = answered here Null
  exit_of rec (Some j) here = rec.expression j here

  -- what left by the ejector is the value, or is bound by the catch
  unfoldable pub caught_by : Evaluator N → Scope N → Option (ℕ × ℕ) → Value N → Act N (Answer N)
  caught_by rec here None v = do
    tell (Got here.act v)
    answered here v
  caught_by rec here (Some c) v = do
    tell (Got here.act v)
    inner ← rec.pattern c.0 v Null here
    x ← rec.expression c.1 inner
    answered here x.value

  unfoldable pub escaped : Evaluator N → ℕ → Scope N → Option (ℕ × ℕ) → Act N (Answer N) → Act N (Answer N)
  escaped rec j here c m = ending
      (λ x. leave K tree j (answered here x.value))
      (λ p. leave K tree j (throw p))
      (λ n v. leave K tree j (if n == j then caught_by rec here c v else eject n v)) m

  -- the handler, at a problem
  unfoldable pub handles : Evaluator N → ℕ → ℕ → Scope N → Words → Act N (Answer N)
  handles rec p h here t = do
    inner ← rec.pattern p (Text t) Null here
    x ← rec.expression h inner
    answered here x.value

  unfoldable pub tried : Evaluator N → ℕ → ℕ → Scope N → Act N (Answer N) → Act N (Answer N)
  tried rec p h here m = ending (λ x. answered here x.value) (handles rec p h here) eject m

  -- the second part is evaluated after every outcome but a stop, and its value is dropped
  unfoldable pub at_last : Evaluator N → ℕ → Scope N → Act N (Answer N) → Act N (Answer N)
  at_last rec b here m = ending
      (λ x. rec.expression b here >> answered here x.value)
      (λ p. rec.expression b here >> throw p)
      (λ n v. rec.expression b here >> eject n v) m

  unfoldable pub choose : Evaluator N → ℕ → ℕ → Scope N → Scope N → Value N → Act N (Answer N)
  choose rec a b here inner (Flag true) = do
    x ← rec.expression a inner
    answered here x.value
  choose rec a b here inner (Flag false) = do
    x ← rec.expression b here
    answered here x.value
  choose rec a b here inner _ = throw (codes "not boolean")

  unfoldable pub no_match : Value N
  no_match = Broken (codes "no match")

  unfoldable pub unmatched_noun : ℕ → Bool → Act N (Bound N)
  unmatched_noun act false = give (Fixed no_match any_guard)
  unmatched_noun act true = do
    k ← new_slot any_guard no_match
    tell (SlotMade act k no_match)
    give (Slot k)

  -- the names of a failed match are bound anew
  unfoldable pub unmatched : List BoundNoun → Scope N → Act N (Scope N)
  unmatched [] here = give here
  unmatched (b ∷ bs) here = do
    n ← unmatched_noun here.act b.is_var
    unmatched bs (with_noun b.noun n here)

  unfoldable pub not_matched : ℕ → Scope N → Value N → Act N (Answer N)
  not_matched p here v = do
    tell (Got here.act v)
    after ← unmatched (bound_nouns tree p) here
    answered after (Flag false)

  unfoldable pub match_ended : ℕ → ℕ → Scope N → Act N (Scope N) → Act N (Answer N)
  match_ended j p here m = ending
      (λ inner. leave K tree j (answered inner (Flag true)))
      (λ t. leave K tree j (throw t))
      (λ n v. leave K tree j (if n == j then not_matched p here v else eject n v)) m

  unfoldable pub write_cell : Evaluator N → ℕ → ℕ → Value N → Option (Cell N) → Act N (Value N)
  write_cell rec act k v None = stop Astray
  write_cell rec act k v (Some c) = do
    w ← coerce K tree (call K tree rec) act c.guard Null v
    write_slot k w
    tell (SlotWrote act k w)
    give w

  -- the value is coerced by the slot's guard and written; it gives what is written
  unfoldable pub write_bound : Evaluator N → ℕ → Option (Bound N) → Value N → Act N (Value N)
  write_bound rec act (Some (Slot k)) v = do
    c ← look (λ s. slice_get s.slots k)
    write_cell rec act k v c
  write_bound rec act _ v = stop Astray

  unfoldable pub step : Evaluator N → ℕ → Node → Scope N → Act N (Answer N)
  step rec id (Lit l) here = answered here (literal_value l)
  step rec id (Noun x) here = do
    v ← read_bound here.act (bound_in here.nouns x) x
    answered here v
  step rec id (Set x e) here = do
    v ← rec.expression e here
    w ← write_bound rec here.act (bound_in here.nouns x) v.value
    answered v.scope w
  step rec id (Def p exit e) here = do
    j ← exit_of rec exit here
    x ← rec.expression e j.scope
    after ← rec.pattern p x.value j.value x.scope
    answered after x.value
  step rec id (Call r verb args) here = do
    x ← rec.expression r here
    xs ← all_of rec args x.scope
    v ← call K tree rec here.act x.value verb xs.values
    answered xs.scope v
  step rec id (Sequence es) here = last_of rec (record { value = Null; scope = here }) es
  step rec id (If t a b) here = do
    x ← rec.expression t here
    y ← look (λ s. follow K s x.value)
    choose rec a b here x.scope y
  step rec id (Escape p body c) here = do
    j ← new_ejector K tree here.act
    escaped rec j here c (do
      inner ← rec.pattern p (Ref (K.object j)) Null here
      rec.expression body inner)
  step rec id (Try body p h) here = tried rec p h here (rec.expression body here)
  step rec id (Finally a b) here = at_last rec b here (rec.expression a here)
  step rec id (Hide e) here = do
    x ← rec.expression e here
    answered here x.value
  step rec id (MatchBind e p) here = do
    x ← rec.expression e here
    j ← new_ejector K tree here.act
    match_ended j p x.scope (rec.pattern p x.value (Ref (K.object j)) x.scope)
  step rec id (Object p auditors members) here = do
    xs ← all_of rec auditors here
    make_object K tree (call K tree rec) id (slice_get tree p) (free_nouns tree members) xs.values xs.scope
  step rec id _ here = stop Astray

  -- ---- patterns

  -- a guard is what its expression follows to
  unfoldable pub guard_of : Evaluator N → Option ℕ → Scope N → Act N (Answer N)
  guard_of rec None here = answered here any_guard
  guard_of rec (Some g) here = do
    x ← rec.expression g here
    y ← look (λ s. follow K s x.value)
    answered x.scope y

  unfoldable pub bind_list : Evaluator N → List ℕ → Value N → Scope N → List (Value N) → Act N (Scope N)
  bind_list rec ps j here vs = if length vs == length ps then bind_all K tree rec ps vs j here else failed K tree (call K tree rec) here.act j (codes "not a list")

  -- a list of as many members, at a followed specimen
  unfoldable pub bind_items : Evaluator N → List ℕ → Value N → Scope N → Value N → Act N (Scope N)
  bind_items rec ps j here (Items k) = do
    vs ← look (λ s. list_at s.lists k)
    bind_list rec ps j here vs
  bind_items rec ps j here _ = failed K tree (call K tree rec) here.act j (codes "not a list")

  unfoldable pub bind_step : Evaluator N → Node → Value N → Value N → Scope N → Act N (Scope N)
  bind_step rec (Final x g) v j here = do
    g ← guard_of rec g here
    y ← coerce K tree (call K tree rec) here.act g.value j v
    give (with_noun x (Fixed y g.value) g.scope)
  bind_step rec (Var x g) v j here = do
    g ← guard_of rec g here
    y ← coerce K tree (call K tree rec) here.act g.value j v
    k ← new_slot g.value y
    tell (SlotMade here.act k y)
    give (with_noun x (Slot k) g.scope)
  bind_step rec (Any g) v j here = do
    g ← guard_of rec g here
    y ← coerce K tree (call K tree rec) here.act g.value j v
    give g.scope
  bind_step rec (ListPattern ps) v j here = do
    y ← look (λ s. follow K s v)
    bind_items rec ps j here y
  bind_step rec (Via e p) v j here = do
    f ← rec.expression e here
    k ← handed K tree j
    y ← call K tree rec here.act f.value (codes "run") (v ∷ k ∷ [])
    rec.pattern p y j f.scope
  bind_step rec _ v j here = stop Astray

  -- ---- depth

  unfoldable pub step_found : Evaluator N → ℕ → Option Node → Scope N → Act N (Answer N)
  step_found rec id None here = stop Astray
  step_found rec id (Some n) here = step rec id n here

  unfoldable pub bind_found : Evaluator N → Option Node → Value N → Value N → Scope N → Act N (Scope N)
  bind_found rec None v j here = stop Astray
  bind_found rec (Some n) v j here = bind_step rec n v j here

  -- a level above those that evaluate so: each node begun spends a unit
  unfoldable pub deeper : Evaluator N → Evaluator N
  deeper rec = record {
    expression = λ id here. spend 1 >> step_found rec id (slice_get tree id) here;
    pattern = λ id v j here. spend 1 >> bind_found rec (slice_get tree id) v j here;
  }

  -- the evaluator of so many levels
  unfoldable pub evaluator : ℕ → Evaluator N
  evaluator zero = record { expression = λ id here. stop Deep; pattern = λ id v j here. stop Deep }
  evaluator (suc d) = deeper (evaluator d)

  -- ---- turns

  -- A turn ends: its answer is resolved to the value, or broken with the problem. Where it has none, both are dropped.
  unfoldable pub closes : ℕ → Option N → Act N (Value N) → Act N (Unit {0})
  closes act o m = ending (λ v. tell (Finished act v) >> for_some o (λ p. resolve K p v) (give tt))
      (λ t. tell (Threw act t) >> for_some o (λ p. settle K p (Broken t)) (give tt)) (λ n v. stop Astray) m

  -- the opening turn evaluates the program, and resolves the root
  unfoldable pub opening : ℕ → N → List (Binding N) → Act N (Unit {0})
  opening depth p given = do
    a ← new_activation
    closes a (Some p) (do
      x ← (evaluator depth).expression 0 (record { act = a; nouns = given })
      give x.value)

  -- a turn takes a message
  unfoldable pub taking : ℕ → Message N → Act N (Unit {0})
  taking depth m = do
    a ← new_activation
    tell (Took a m)
    closes a m.answer (turn_value K tree (evaluator depth) a m.target m.verb m.args)

-- opens each definition of this file, and of those below
unfoldable pub opened_eval : Unit {0}
unfolding all_of last_of exit_of caught_by escaped handles tried at_last choose no_match unmatched_noun unmatched not_matched match_ended write_cell write_bound step guard_of bind_list bind_items bind_step step_found bind_found deeper evaluator closes opening taking opened_calls
opened_eval = tt
