-- Calls: auditors, auditions, ejectors, resolvers and objects; and how objects are made.
use Rattle.std.specs.Prelude.{ℕ, zero, suc, ◌+◌, Bool, true, false, List, [], ◌∷◌, ◌++◌, Option, Some, None, if◌then◌else◌, ◌==◌, length, slice_get, map, codes}
use Rattle.def_machine.specs.Values.{Words, Value, Null, Flag, Text, Prim, Broken, Ref, Naming, Spot, Own}
use Rattle.def_machine.specs.State.{Binding, Scope, View, Thing, Made, Ejector, Audition, Resolver, Standing, Unsettled, Called, Got, EjectorMade, AuditionMade, ObjectMade, Astray, Act, ◌>>=◌, ◌>>◌, give, throw, look, tell, stop, eject, ending, new_activation, new_thing, kill}
use Rattle.def_machine.specs.Refs.{Place, Near, follow, place, standing_of, settle, resolve}
use Rattle.def_machine.specs.Form.{Item, Begin, End, Word, Fact, literal_value, items_of}
use Rattle.def_machine.specs.Native.{primitive, asked}
use Rattle.def_kernel.specs.declared.node.Node.{Node}
use Rattle.def_machine.specs.Scopes.{Answer, Evaluator, Caller, answered, Body, method_of, Case, matchers_of, members_of, captures, named, own_noun, name_of, free_names, guard_asked, is_auditor, approves, AuditionAsk, audition_ask, ResolverAsk, resolver_ask, ejector_ask, is_true, ended, with_lines, GetsForm, GetsGuard, Asks, NoAuditionAsk, Resolves, Smashes, NoResolverAsk}
use Rattle.def_machine.specs.Perform.{make_list, reply, data_answer, perform}
use Rattle.def_machine.specs.Perform.{opened_perform}

module _ {N W : Type 0} (K : Naming N W) (tree : List Node) where
  -- ---- auditing

  -- the ejector or audition is dead from here on
  unfoldable pub leave : {A : Type 0} → ℕ → Act N A → Act N A
  leave j m = kill j >> m

  -- however it ends, the ejector or audition is dead after it
  unfoldable pub leaving : {A : Type 0} → ℕ → Act N A → Act N A
  leaving n m = ending (λ v. leave n (give v)) (λ p. leave n (throw p)) (λ k v. leave n (eject k v)) m

  -- an object is asked, with an audition of its own
  unfoldable pub audit : Caller N → ℕ → View N → Value N → Place N → Act N Bool
  audit again act view a Near = do
    n ← new_thing (Audition true view)
    tell (AuditionMade act (K.object n))
    v ← leaving n (again act a (codes "audit") (Ref (K.object n) ∷ []))
    look (λ s. is_true (follow K s v))
  audit again act view a _ = throw (codes "not an auditor")

  -- the verdict of an auditor, as it is held and as it is followed
  unfoldable pub verdict : Caller N → ℕ → View N → Value N → Value N → Act N Bool
  verdict again act view a (Prim n) = if is_auditor (primitive n) then give (approves (primitive n) view.free) else throw (codes "not an auditor")
  verdict again act view a (Ref n) = do
    p ← look (λ s. place K s (Ref n))
    audit again act view a p
  verdict again act view a _ = throw (codes "not an auditor")

  unfoldable pub with_stamp : Bool → Value N → List (Value N) → List (Value N)
  with_stamp true y ys = y ∷ ys
  with_stamp false y ys = ys

  -- each auditor is asked, in order; it gives the stamps
  unfoldable pub ask_all : Caller N → ℕ → View N → List (Value N) → Act N (List (Value N))
  ask_all again act view [] = give []
  ask_all again act view (a ∷ as') = do
    y ← look (λ s. follow K s a)
    approved ← verdict again act view a y
    ys ← ask_all again act view as'
    give (with_stamp approved y ys)

  unfoldable pub with_item : Value N → List (List (Value N)) → List (List (Value N))
  with_item v [] = []
  with_item v (f ∷ fs) = (f ++ v ∷ []) ∷ fs

  -- The lists of a form are made, inner ones first; the lists begun so far, the innermost first.
  unfoldable pub build : ℕ → List Item → List (List (Value N)) → Act N (Value N)
  build act (Begin ∷ is) fs = build act is ([] ∷ fs)
  build act (Word w ∷ is) fs = build act is (with_item (Text w) fs)
  build act (Fact l ∷ is) fs = build act is (with_item (literal_value l) fs)
  build act (End ∷ []) (f ∷ fs) = make_list K tree act f
  build act (End ∷ i ∷ is) (f ∷ fs) = do
    v ← make_list K tree act f
    build act (i ∷ is) (with_item v fs)
  build act _ _ = stop Astray

  unfoldable pub audition_live : Caller N → ℕ → View N → AuditionAsk N → Act N (Value N)
  audition_live again act view GetsForm = build act (items_of tree view.node) []
  audition_live again act view (GetsGuard x) = do
    r ← look (λ s. guard_asked view.free (follow K s x))
    reply K tree again act r
  audition_live again act view (Asks a) = do
    y ← look (λ s. follow K s a)
    b ← verdict again act view a y
    give (Flag b)
  audition_live again act view NoAuditionAsk = throw (codes "no method")

  -- verb and number of arguments are tested first, then whether it is live
  unfoldable pub audition_answer : Caller N → ℕ → Bool → View N → AuditionAsk N → Act N (Value N)
  audition_answer again act live view NoAuditionAsk = throw (codes "no method")
  audition_answer again act true view ask = audition_live again act view ask
  audition_answer again act false view ask = throw (codes "audition is dead")

  -- ---- ejectors and resolvers

  unfoldable pub ejector_answer : ℕ → Bool → Option (Value N) → Act N (Value N)
  ejector_answer i live None = throw (codes "no method")
  ejector_answer i true (Some v) = eject i v
  ejector_answer i false (Some v) = throw (codes "ejector is dead")

  unfoldable pub where_unresolved : Standing N → Act N (Unit {0}) → Act N (Value N)
  where_unresolved Unsettled m = m >> give Null
  where_unresolved _ m = throw (codes "already resolved")

  unfoldable pub smash : N → Value N → Act N (Value N)
  smash p (Text t) = do
    w ← look (λ s. standing_of K s.known p)
    where_unresolved w (settle K p (Broken t))
  smash p _ = throw (codes "bad argument")

  unfoldable pub resolver_answer : N → ResolverAsk N → Act N (Value N)
  resolver_answer p (Resolves x) = do
    w ← look (λ s. standing_of K s.known p)
    where_unresolved w (resolve K p x)
  resolver_answer p (Smashes x) = do
    y ← look (λ s. follow K s x)
    smash p y
  resolver_answer p NoResolverAsk = throw (codes "no method")

  -- ---- objects

  -- patterns at values, one after another, with an ejector
  unfoldable pub bind_all : Evaluator N → List ℕ → List (Value N) → Value N → Scope N → Act N (Scope N)
  bind_all rec [] vs j here = give here
  bind_all rec (p ∷ ps) [] j here = give here
  bind_all rec (p ∷ ps) (v ∷ vs) j here = do
    next ← rec.pattern p v j here
    bind_all rec ps vs j next

  unfoldable pub new_ejector : ℕ → Act N ℕ
  new_ejector act = do
    j ← new_thing (Ejector true)
    tell (EjectorMade act (K.object j))
    give j

  unfoldable pub hand_over : ℕ → ℕ → Act N (Value N) → ℕ → Value N → Act N (Value N)
  hand_over act j next n v = if n == j then (tell (Got act v) >> next) else eject n v

  -- A matcher whose pattern is bound gives its body's value. One that left by its ejector hands over.
  unfoldable pub matched : Evaluator N → ℕ → ℕ → ℕ → Act N (Value N) → Act N (Scope N) → Act N (Value N)
  matched rec act j body next m = ending
      (λ inner. leave j (do
        x ← rec.expression body inner
        give x.value))
      (λ p. leave j (throw p))
      (λ n v. leave j (hand_over act j next n v)) m

  unfoldable pub match_all : Evaluator N → List Case → Value N → Scope N → Act N (Value N)
  match_all rec [] v here = throw (codes "no method")
  match_all rec (m ∷ ms) v here = do
    j ← new_ejector here.act
    matched rec here.act j m.body (λ s. match_all rec ms v here s) (rec.pattern m.pattern v (Ref (K.object j)) here)

  -- the matchers are tried on one list of the verb and the list of the arguments
  unfoldable pub try_matchers : Evaluator N → List Case → Words → List (Value N) → Scope N → Act N (Value N)
  try_matchers rec [] verb args here = throw (codes "no method")
  try_matchers rec (m ∷ ms) verb args here = do
    l ← make_list K tree here.act args
    pair ← make_list K tree here.act (Text verb ∷ l ∷ [])
    match_all rec (m ∷ ms) pair here

  unfoldable pub run_body : Evaluator N → List Case → Words → Option Body → List (Value N) → Scope N → Act N (Value N)
  run_body rec ms verb (Some b) args here = do
    inner ← bind_all rec b.patterns args Null here
    x ← rec.expression b.body inner
    give x.value
  run_body rec ms verb None args here = try_matchers rec ms verb args here

  -- what an object does with a message, in the environment of its captures
  unfoldable pub run_object : Evaluator N → List ℕ → Words → List (Value N) → Scope N → Act N (Value N)
  run_object rec members verb args here = run_body rec (matchers_of tree members) verb (method_of tree members verb (length args)) args here

  -- ---- calls

  -- what an ejector, an audition or a resolver answers
  unfoldable pub thing_answer : Caller N → ℕ → ℕ → Thing N → Words → List (Value N) → Act N (Value N)
  thing_answer again act i (Ejector live) verb args = ejector_answer i live (ejector_ask verb args)
  thing_answer again act i (Audition live view) verb args = audition_answer again act live view (audition_ask verb args)
  thing_answer again act i (Resolver p) verb args = resolver_answer p (resolver_ask verb args)
  thing_answer again act i (Made node caught stamps) verb args = stop Astray

  unfoldable pub call_thing : Evaluator N → Caller N → ℕ → Value N → ℕ → Option (Thing N) → Words → List (Value N) → Act N (Value N)
  call_thing rec again act x i None verb args = stop Astray
  call_thing rec again act x i (Some (Made node caught stamps)) verb args = do
    b ← new_activation
    tell (Called act x verb args (Some b))
    ended act (run_object rec (members_of (slice_get tree node)) verb args (record { act = b; nouns = caught }))
  call_thing rec again act x i (Some t) verb args = with_lines act x verb args (thing_answer again act i t verb args)

  unfoldable pub call_spot : Evaluator N → Caller N → ℕ → Value N → Spot → Words → List (Value N) → Act N (Value N)
  call_spot rec again act x (Own i) verb args = do
    t ← look (λ s. slice_get s.things i)
    call_thing rec again act x i t verb args
  call_spot rec again act x _ verb args = throw (codes "not near")

  -- a call on x, as it is held and as it is followed
  unfoldable pub call_value : Evaluator N → Caller N → ℕ → Value N → Value N → Words → List (Value N) → Act N (Value N)
  call_value rec again act x (Ref n) verb args = call_spot rec again act x (K.spot n) verb args
  call_value rec again act x (Broken p) verb args = throw p
  call_value rec again act x (Prim n) verb args = perform K tree again act (asked (primitive n) verb args)
  call_value rec again act x y verb args = with_lines act x verb args (data_answer K tree again act y verb args)

  unfoldable pub call_one : Evaluator N → Caller N → Caller N
  call_one rec again act x verb args = do
    y ← look (λ s. follow K s x)
    call_value rec again act x y verb args

  -- a call in which E.call and other primitives call again at most so many times, one inside another
  unfoldable pub call_at : ℕ → Evaluator N → Caller N
  call_at zero rec act x verb args = stop Astray
  call_at (suc d) rec act x verb args = call_one rec (λ a y v xs. call_at d rec a y v xs) act x verb args

  -- E.call calls E.call again only with a list that stands in its own list, so this many times suffice.
  unfoldable pub call : Evaluator N → Caller N
  call rec act x verb args = do
    n ← look (λ s. 4 + length s.lists)
    call_at n rec act x verb args

  -- what a turn runs, which tells no line of its own: a message on a followed value
  unfoldable pub turn_thing : Evaluator N → ℕ → ℕ → Option (Thing N) → Words → List (Value N) → Act N (Value N)
  turn_thing rec act i None verb args = stop Astray
  turn_thing rec act i (Some (Made node caught stamps)) verb args = run_object rec (members_of (slice_get tree node)) verb args (record { act = act; nouns = caught })
  turn_thing rec act i (Some t) verb args = thing_answer (call rec) act i t verb args

  unfoldable pub turn_spot : Evaluator N → ℕ → Spot → Words → List (Value N) → Act N (Value N)
  turn_spot rec act (Own i) verb args = do
    t ← look (λ s. slice_get s.things i)
    turn_thing rec act i t verb args
  turn_spot rec act _ verb args = stop Astray

  unfoldable pub turn_value : Evaluator N → ℕ → Value N → Words → List (Value N) → Act N (Value N)
  turn_value rec act (Ref n) verb args = turn_spot rec act (K.spot n) verb args
  turn_value rec act (Broken p) verb args = throw p
  turn_value rec act (Prim n) verb args = perform K tree (call rec) act (asked (primitive n) verb args)
  turn_value rec act y verb args = data_answer K tree (call rec) act y verb args

  -- ---- making objects

  unfoldable pub object_made : ℕ → Words → ℕ → N → Scope N → List (Value N) → List (Binding N) → Act N (Answer N)
  object_made node x act me after stamps caught = do
    new_thing (Made node caught stamps)
    tell (ObjectMade act me x (map (λ b. b.bound) caught) stamps)
    answered after (Ref me)

  -- in the scope after its own name is bound
  unfoldable pub object_in : ℕ → Words → List Words → ℕ → N → List (Value N) → Scope N → Act N (Answer N)
  object_in node x free act me stamps after = object_made node x act me after stamps (captures after free)

  unfoldable pub object_as : ℕ → Option Node → List Words → List (Value N) → N → Scope N → Act N (Answer N)
  object_as node p free stamps me here = object_in node (name_of p) free here.act me stamps (named p (Ref me) here)

  unfoldable pub view_of : ℕ → Option Node → List Words → Scope N → View N
  view_of node p free here = record { node = node; free = free_names (own_noun p) here.nouns free }

  -- the auditors' values are known; each is asked, and then the object comes to be
  unfoldable pub make_object : Caller N → ℕ → Option Node → List Words → List (Value N) → Scope N → Act N (Answer N)
  make_object again node p free auditors here = do
    stamps ← ask_all again here.act (view_of node p free here) auditors
    n ← look (λ s. length s.things)
    object_as node p free stamps (K.object n) here

-- opens each definition of this file, and of those below
unfoldable pub opened_calls : Unit {0}
unfolding leave leaving audit verdict with_stamp ask_all with_item build audition_live audition_answer ejector_answer where_unresolved smash resolver_answer bind_all new_ejector hand_over matched match_all try_matchers run_body run_object thing_answer call_thing call_spot call_value call_one call_at call turn_thing turn_spot turn_value object_made object_in object_as view_of make_object opened_perform
opened_calls = tt
