-- What evaluates a node earns, as the unit that it spends pays for the node; and a turn costs a call.
use Rattle.std.proofs.Common.{ℕ, zero, suc, ◌+◌, ◌≤◌, Bool, true, false, List, [], ◌∷◌, Option, Some, None, ◌==◌, length, arith}
use Rattle.std.specs.Prelude.{slice_get}
use Rattle.def_machine.specs.Values.{Words, Value, Null, Flag, Text, Items, Naming}
use Rattle.def_machine.specs.State.{Bound, Fixed, Slot, Binding, Scope, Cell, Message, Happened, Vat, Stop, Act, ◌>>=◌, ◌>>◌, give, throw, stop, eject, look, tell, new_slot, ending}
use Rattle.def_machine.specs.Form.{items_of}
use Rattle.def_machine.specs.Free.{BoundNoun, bound_nouns}
use Rattle.def_machine.specs.Scopes as scopes
use Rattle.def_machine.specs.Scopes.{Answer, Evaluator}
use Rattle.def_machine.specs.Perform as perform
use Rattle.def_machine.specs.Calls as calls
use Rattle.def_machine.specs.Eval as eval
use Rattle.def_kernel.specs.declared.node.Node.{Node}
use Rattle.def_kernel.specs.declared.node.Node.TheVariants.{Lit, Any}
use Rattle.law_machine.proofs.Costs.Costs.{Prices, paid, paid_one, Costs, cost_up, cost_bind, cost_then, free_bind, free_then, cost_give, cost_throw, cost_eject, cost_stop, cost_look, cost_some, cost_if, cost_ending, spend_then, cost_tell, cost_activation, cost_slot, cost_write}
use Rattle.law_machine.proofs.Costs.Refs.{free_settle, free_resolve}
use Rattle.law_machine.proofs.Costs.Perform.{GoodCaller, at_most, cost_failed, free_handed, cost_coerce}
use Rattle.law_machine.proofs.Costs.Calls.{GoodEvaluator, ends_in, cost_leave, free_bind_all, cost_new_ejector, good_call, cost_turn_value, cost_make_object}

module _ (P : Prices) {N W : Type 0} (K : Naming N W) (tree : List Node) (formed : (id : ℕ) → ends_in (items_of tree id) ≤ P.tree) (bound : (id : ℕ) → length (bound_nouns tree id) ≤ P.tree) where
  -- what a node costs at most, without the unit that is spent for it
  abbrev node : ℕ
  node = P.call + P.tree + 20

  -- neither more nor less, but that it may throw
  abbrev Even : {A : Type 0} → Act N A → Type 0
  Even m = Costs P 10 10 m

  even : {A : Type 0} {m : Act N A} → Costs P 10 0 m → Even m
  even h = cost_up P (omega arith) (omega arith) h

  earned : {A : Type 0} {m : Act N A} → Costs P 0 0 m → Even m
  earned h = cost_up P (omega arith) (omega arith) h

  even_bind : {A B : Type 0} {m : Act N A} {f : A → Act N B} → Even m → ((a : A) → Even (f a)) → Even (m >>= f)
  even_bind h k = cost_bind P h k (omega arith) (omega arith) (omega arith)

  fails : {A : Type 0} (p : Words) → Costs P {N = N} 10 10 (throw {A = A} p)
  fails p = cost_up P (omega arith) (omega arith) (cost_throw P p)

  called : {A B : Type 0} {m : Act N A} {f : A → Act N B} → Costs P P.call P.call m → ((a : A) → Even (f a)) → Costs P P.call P.call (m >>= f)
  called h k = cost_bind P h k (omega arith) (omega arith) (omega arith)

  as_call : {A : Type 0} {m : Act N A} → Even m → Costs P P.call P.call m
  as_call h = at_most P K tree (omega arith) (omega arith) h

  answered : (here : Scope N) (v : Value N) → Costs P 10 0 (scopes.answered here v)
  unfolding scopes.answered
  answered here v = cost_give P _

  read_cell : (act k : ℕ) (o : Option (Cell N)) → Even (scopes.read_cell act k o)
  unfolding scopes.read_cell
  read_cell act k None = cost_stop P _
  read_cell act k (Some c) = even (free_then P (cost_tell P _) (cost_give P _))

  read_bound : (act : ℕ) (o : Option (Bound N)) (x : Words) → Even (scopes.read_bound act o x)
  unfolding scopes.read_bound
  read_bound act (Some (Fixed v g)) x = even (cost_give P v)
  read_bound act (Some (Slot k)) x = free_bind P (cost_look P _) (λ c. read_cell act k c)
  read_bound act None x = cost_some P _ (λ v. even (cost_give P v)) (cost_stop P _)

  module _ (rec : Evaluator N) (good : GoodEvaluator P rec) where
    caller : GoodCaller P (calls.call K tree rec)
    caller = good_call P K tree formed rec good

    expression : (id : ℕ) (here : Scope N) → Even (rec.expression id here)
    expression id here = earned (good.expression id here)

    pattern : (id : ℕ) (v j : Value N) (here : Scope N) → Even (rec.pattern id v j here)
    pattern id v j here = earned (good.pattern id v j here)

    -- ---- expressions

    all_of : (es : List ℕ) (here : Scope N) → Even (eval.all_of K tree rec es here)
    unfolding eval.all_of
    all_of [] here = even (cost_give P _)
    all_of (e ∷ es) here = even_bind (expression e here) (λ x. even_bind (all_of es x.scope) (λ xs. even (cost_give P _)))

    last_of : (x : Answer N) (es : List ℕ) → Even (eval.last_of K tree rec x es)
    unfolding eval.last_of
    last_of x [] = even (cost_give P x)
    last_of x (e ∷ es) = even_bind (expression e x.scope) (λ y. last_of y es)

    exit_of : (o : Option ℕ) (here : Scope N) → Even (eval.exit_of K tree rec o here)
    unfolding eval.exit_of
    exit_of None here = even (answered here Null)
    exit_of (Some j) here = expression j here

    caught_by : (here : Scope N) (o : Option (ℕ × ℕ)) (v : Value N) → Even (eval.caught_by K tree rec here o v)
    unfolding eval.caught_by
    caught_by here None v = even (free_then P (cost_tell P _) (answered here v))
    caught_by here (Some c) v = free_then P (cost_tell P _) (even_bind (pattern c.0 v Null here) (λ inner. even_bind (expression c.1 inner) (λ x. even (answered here x.value))))

    -- however something ended, what follows costs nothing
    even_ending : {A B : Type 0} {m : Act N A} {f : A → Act N B} {g : Words → Act N B} {h : ℕ → Value N → Act N B} → Even m → ((a : A) → Even (f a)) → ((p : Words) → Even (g p)) → ((n : ℕ) (v : Value N) → Even (h n v)) → Even (ending f g h m)
    even_ending r i j k = cost_ending P r i j k (omega arith) (omega arith) (omega arith) (omega arith)

    left_by : {A : Type 0} (n : ℕ) (v : Value N) → Even (eject {A = A} n v)
    left_by n v = cost_up P (omega arith) (omega arith) (cost_eject P n v)

    escaped : (j : ℕ) (here : Scope N) (c : Option (ℕ × ℕ)) (m : Act N (Answer N)) → Even m → Even (eval.escaped K tree rec j here c m)
    unfolding eval.escaped
    escaped j here c m h = even_ending h (λ x. cost_leave P K tree formed j (even (answered here x.value))) (λ p. cost_leave P K tree formed j (fails p))
        (λ n v. cost_leave P K tree formed j (cost_if P (n == j) (caught_by here c v) (left_by n v)))

    handles : (p h : ℕ) (here : Scope N) (t : Words) → Even (eval.handles K tree rec p h here t)
    unfolding eval.handles
    handles p h here t = even_bind (pattern p (Text t) Null here) (λ inner. even_bind (expression h inner) (λ x. even (answered here x.value)))

    tried : (p h : ℕ) (here : Scope N) (m : Act N (Answer N)) → Even m → Even (eval.tried K tree rec p h here m)
    unfolding eval.tried
    tried p h here m k = even_ending k (λ x. even (answered here x.value)) (λ t. handles p h here t) (λ n v. left_by n v)

    then_even : {A B : Type 0} {m : Act N A} {n : Act N B} → Even m → Even n → Even (m >> n)
    then_even h k = cost_then P h k (omega arith) (omega arith) (omega arith)

    at_last : (b : ℕ) (here : Scope N) (m : Act N (Answer N)) → Even m → Even (eval.at_last K tree rec b here m)
    unfolding eval.at_last
    at_last b here m h = even_ending h (λ x. then_even (expression b here) (even (answered here x.value))) (λ p. then_even (expression b here) (fails p)) (λ n v. then_even (expression b here) (left_by n v))

    choose : (a b : ℕ) (here inner : Scope N) (v : Value N) → Even (eval.choose K tree rec a b here inner v)
    unfolding eval.choose
    choose a b here inner (Flag true) = even_bind (expression a inner) (λ x. even (answered here x.value))
    choose a b here inner (Flag false) = even_bind (expression b here) (λ x. even (answered here x.value))
    choose a b here inner _ = fails _

    unmatched_noun : (act : ℕ) (b : Bool) → Costs P 11 1 (eval.unmatched_noun K tree act b)
    unfolding eval.unmatched_noun
    unmatched_noun act false = cost_up P (omega arith) (omega arith) (cost_give P _)
    unmatched_noun act true = cost_bind P (cost_slot P _ _) (λ k. free_then P (cost_tell P _) (cost_give P _)) (omega arith) (omega arith) (omega arith)

    unmatched : (bs : List BoundNoun) (here : Scope N) → Costs P (10 + length bs) (length bs) (eval.unmatched K tree bs here)
    unfolding eval.unmatched
    unmatched [] here = cost_give P here
    unmatched (b ∷ bs) here = cost_bind P (unmatched_noun here.act b.is_var) (λ n. unmatched bs (scopes.with_noun b.noun n here)) (omega arith) (omega arith) (omega arith)

    not_matched : (p : ℕ) (here : Scope N) (v : Value N) → Costs P (10 + P.tree) (10 + P.tree) (eval.not_matched K tree p here v)
    unfolding eval.not_matched
    not_matched p here v = let few = bound p in free_then P (cost_tell P _) (cost_bind P (unmatched (bound_nouns tree p) here) (λ after. answered after (Flag false)) (omega (arith, few)) (omega (arith, few)) (omega (arith, few)))

    write_cell : (act k : ℕ) (v : Value N) (o : Option (Cell N)) → Costs P P.call P.call (eval.write_cell K tree rec act k v o)
    unfolding eval.write_cell
    write_cell act k v None = cost_stop P _
    write_cell act k v (Some c) = called (cost_coerce P K tree _ caller act c.guard Null v) (λ w. even (free_then P (cost_write P k w) (free_then P (cost_tell P _) (cost_give P w))))

    write_bound : (act : ℕ) (o : Option (Bound N)) (v : Value N) → Costs P P.call P.call (eval.write_bound K tree rec act o v)
    unfolding eval.write_bound
    write_bound act (Some (Slot k)) v = free_bind P (cost_look P _) (λ c. write_cell act k v c)
    write_bound act other v = cost_stop P _

    match_ended : (j p : ℕ) (here : Scope N) (m : Act N (Scope N)) → Even m → Costs P (10 + P.tree) (10 + P.tree) (eval.match_ended K tree j p here m)
    unfolding eval.match_ended
    match_ended j p here m h = cost_ending P {c3 = 10 + P.tree} {d3 = 10 + P.tree} h (λ inner. cost_leave P K tree formed j (answered inner (Flag true))) (λ t. cost_leave P K tree formed j (cost_up P (omega arith) (omega arith) (cost_throw P t)))
        (λ n v. cost_leave P K tree formed j (cost_if P (n == j) (not_matched p here v) (cost_up P (omega arith) (omega arith) (cost_eject P n v)))) (omega arith) (omega arith) (omega arith) (omega arith)

    -- ---- patterns

    guard_of : (g : Option ℕ) (here : Scope N) → Even (eval.guard_of K tree rec g here)
    unfolding eval.guard_of
    guard_of None here = even (answered here _)
    guard_of (Some g) here = even_bind (expression g here) (λ x. free_bind P (cost_look P _) (λ y. even (answered x.scope y)))

    failing : {A : Type 0} (act : ℕ) (j : Value N) (p : Words) → Costs P P.call P.call (perform.failed K tree {A = A} (calls.call K tree rec) act j p)
    failing act j p = cost_failed P K tree _ caller act j p

    bind_list : (ps : List ℕ) (j : Value N) (here : Scope N) (vs : List (Value N)) → Costs P P.call P.call (eval.bind_list K tree rec ps j here vs)
    unfolding eval.bind_list
    bind_list ps j here vs = cost_if P _ (as_call (free_bind_all P K tree formed rec good ps vs j here)) (failing here.act j _)

    bind_items : (ps : List ℕ) (j : Value N) (here : Scope N) (v : Value N) → Costs P P.call P.call (eval.bind_items K tree rec ps j here v)
    unfolding eval.bind_items
    bind_items ps j here (Items k) = free_bind P (cost_look P _) (λ vs. bind_list ps j here vs)
    bind_items ps j here _ = failing here.act j _

    -- ---- nodes

    -- what a node may cost, and what is left of it behind a call or behind what comes to be
    abbrev Whole : {A : Type 0} → Act N A → Type 0
    Whole m = Costs P node node m

    abbrev Calls : {A : Type 0} → Act N A → Type 0
    Calls m = Costs P P.call P.call m

    abbrev Rest : {A : Type 0} → Act N A → Type 0
    Rest m = Costs P (29 + P.tree) (29 + P.tree) m

    whole_even : {A : Type 0} {m : Act N A} → Even m → Whole m
    whole_even h = cost_up P (omega arith) (omega arith) h

    whole_call : {A : Type 0} {m : Act N A} → Calls m → Whole m
    whole_call h = cost_up P (omega arith) (omega arith) h

    whole_bind : {A B : Type 0} {m : Act N A} {f : A → Act N B} → Even m → ((a : A) → Whole (f a)) → Whole (m >>= f)
    whole_bind h k = cost_bind P h k (omega arith) (omega arith) (omega arith)

    whole_call_bind : {A B : Type 0} {m : Act N A} {f : A → Act N B} → Calls m → ((a : A) → Rest (f a)) → Whole (m >>= f)
    whole_call_bind h k = cost_bind P h k (omega arith) (omega arith) (omega arith)

    whole_new_bind : {A B : Type 0} {m : Act N A} {f : A → Act N B} → Costs P 11 1 m → ((a : A) → Rest (f a)) → Whole (m >>= f)
    whole_new_bind h k = let l = P.calls in cost_bind P h k (omega (arith, l)) (omega arith) (omega (arith, l))

    rest_even : {A : Type 0} {m : Act N A} → Even m → Rest m
    rest_even h = cost_up P (omega arith) (omega arith) h

    rest_bind : {A B : Type 0} {m : Act N A} {f : A → Act N B} → Even m → ((a : A) → Rest (f a)) → Rest (m >>= f)
    rest_bind h k = cost_bind P h k (omega arith) (omega arith) (omega arith)

    rest_new_bind : {A B : Type 0} {m : Act N A} {f : A → Act N B} → Costs P 11 1 m → ((a : A) → Even (f a)) → Rest (m >>= f)
    rest_new_bind h k = cost_bind P h k (omega arith) (omega arith) (omega arith)

    -- what the nodes are put together from, each with its cost
    even_answered : (here : Scope N) (v : Value N) → Even (scopes.answered here v)
    even_answered here v = even (answered here v)

    even_give : {A : Type 0} (a : A) → Even (give a)
    even_give a = even (cost_give P a)

    even_look : {A : Type 0} (f : Vat N → A) → Even (look f)
    even_look f = even (cost_look P f)

    even_tell : (e : Happened N) → Even (tell e)
    even_tell e = even (cost_tell P e)

    even_handed : (j : Value N) → Even (perform.handed K tree j)
    even_handed j = even (free_handed P K tree j)

    stops : {A : Type 0} (c : Stop) → Whole (stop {A = A} c)
    stops c = cost_stop P c

    new_ejector : (act : ℕ) → Costs P 11 1 (calls.new_ejector K tree act)
    new_ejector act = cost_new_ejector P K tree formed act

    slot_made : (g v : Value N) → Costs P 11 1 (new_slot g v)
    slot_made g v = cost_up P (omega arith) (omega arith) (cost_slot P g v)

    calls_any : (act : ℕ) (x : Value N) (verb : Words) (args : List (Value N)) → Calls (calls.call K tree rec act x verb args)
    calls_any act x verb args = caller.any act x verb args

    coerced : (act : ℕ) (g j v : Value N) → Calls (perform.coerce K tree (calls.call K tree rec) act g j v)
    coerced act g j v = cost_coerce P K tree _ caller act g j v

    rest_matched : (j p : ℕ) (here : Scope N) (m : Act N (Scope N)) → Even m → Rest (eval.match_ended K tree j p here m)
    rest_matched j p here m h = cost_up P (omega arith) (omega arith) (match_ended j p here m h)

    whole_object : (id : ℕ) (o : Option Node) (free : List Words) (auditors : List (Value N)) (here : Scope N) → Whole (calls.make_object K tree (calls.call K tree rec) id o free auditors here)
    whole_object id o free auditors here = let l = P.calls in cost_up P (omega (arith, l)) (omega (arith, l)) (cost_make_object P K tree formed _ caller id o free auditors here)

    -- a node that is put together from these is no more text here
    ruleset nodes = (whole_bind, whole_call_bind, whole_new_bind, whole_object, whole_call, whole_even, stops, rest_bind, rest_new_bind, rest_matched, rest_even, even_bind, then_even, even_answered, even_give, even_look, even_tell, even_handed, fails, new_ejector, slot_made, calls_any, coerced, expression, pattern, read_bound, write_bound, all_of, last_of, exit_of, caught_by, escaped, tried, at_last, choose, guard_of, bind_items)

    step : (id : ℕ) (n : Node) (here : Scope N) → Costs P node node (eval.step K tree rec id n here)
    unfolding eval.step
    step id (Lit l) here = search nodes depth 30
    step id other here = search nodes depth 30

    bind_step : (n : Node) (v j : Value N) (here : Scope N) → Costs P node node (eval.bind_step K tree rec n v j here)
    unfolding eval.bind_step
    bind_step (Any g) v j here = search nodes depth 30
    bind_step other v j here = search nodes depth 30

    -- ---- depth

    step_found : (id : ℕ) (o : Option Node) (here : Scope N) → Costs P node node (eval.step_found K tree rec id o here)
    unfolding eval.step_found
    step_found id None here = cost_stop P _
    step_found id (Some n) here = step id n here

    bind_found : (o : Option Node) (v j : Value N) (here : Scope N) → Costs P node node (eval.bind_found K tree rec o v j here)
    unfolding eval.bind_found
    bind_found None v j here = cost_stop P _
    bind_found (Some n) v j here = bind_step n v j here

    unit : node ≤ 0 + paid P.unit 1
    unit = let e = paid_one P.unit in let l = P.units in omega (arith, e, l)

    deeper : GoodEvaluator P (eval.deeper K tree rec)
    unfolding eval.deeper
    deeper = record {
      expression = λ id here. spend_then P 1 (λ few. step_found id (slice_get tree id) here) unit unit;
      pattern = λ id v j here. spend_then P 1 (λ few. bind_found (slice_get tree id) v j here) unit unit;
    }

  evaluates : (d : ℕ) → GoodEvaluator P (eval.evaluator K tree d)
  unfolding eval.evaluator
  evaluates zero = record { expression = λ id here. cost_stop P _; pattern = λ id v j here. cost_stop P _ }
  evaluates (suc d) = deeper (eval.evaluator K tree d) (evaluates d)

  -- ---- turns

  -- one more than a call
  abbrev pub turn : ℕ
  turn = suc P.call

  closes : (act : ℕ) (o : Option N) (m : Act N (Value N)) → Costs P P.call P.call m → Costs P P.call P.call (eval.closes K tree act o m)
  unfolding eval.closes
  closes act o m h = cost_ending P h (λ v. even (free_then P (cost_tell P _) (cost_some P o (λ p. free_resolve P K p v) (cost_give P tt))))
      (λ t. even (free_then P (cost_tell P _) (cost_some P o (λ p. free_settle P K p _) (cost_give P tt)))) (λ n v. cost_stop P _) (omega arith) (omega arith) (omega arith) (omega arith)

  pub cost_opening : (depth : ℕ) (p : N) (given : List (Binding N)) → Costs P turn turn (eval.opening K tree depth p given)
  unfolding eval.opening
  cost_opening depth p given = let l = P.calls in cost_bind P (cost_activation P) (λ a. closes a (Some p) _ (as_call (even_bind (cost_up P (omega arith) (omega arith) ((evaluates depth).expression 0 _)) (λ x. even (cost_give P _)))))
      (omega arith) (omega arith) (omega arith)

  pub cost_taking : (depth : ℕ) (m : Message N) → Costs P turn turn (eval.taking K tree depth m)
  unfolding eval.taking
  cost_taking depth m = cost_bind P (cost_activation P) (λ a. free_then P (cost_tell P _) (closes a m.answer _ (cost_turn_value P K tree formed (eval.evaluator K tree depth) (evaluates depth) a m.target m.verb m.args))) (omega arith) (omega arith) (omega arith)
