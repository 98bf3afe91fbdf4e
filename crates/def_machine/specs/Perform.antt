-- What guards, data and primitives do, and E, Ref and the loop.
use Rattle.std.specs.Prelude.{ℕ, zero, suc, Bool, true, false, List, [], ◌∷◌, ◌++◌, Option, Some, None, if◌then◌else◌, ◌==◌, length, slice_get, map, codes, nat_le, pos}
use Rattle.def_machine.specs.Values.{Words, Value, Null, Flag, Number, Letter, Text, Prim, Broken, Items, Ref, Naming, Spot, Own}
use Rattle.def_machine.specs.State.{Resolver, ListMade, PromiseMade, Vat, Fuel, Act, ◌>>=◌, ◌>>◌, give, throw, look, tell, stop, spend, for_some, new_thing, new_list, new_promise}
use Rattle.def_machine.specs.Refs.{Place, Near, Mine, Away, Gone, follow, place, list_fits, highest, any_of, send, send_only, react}
use Rattle.def_machine.specs.Free.{same_words}
use Rattle.def_machine.specs.Ints.{same_int}
use Rattle.def_machine.specs.Native.{Reply, Says, Writes, Lists, Iterates, Fails, Guard, AnyGuard, VoidGuard, IntGuard, BooleanGuard, CharGuard, TextGuard, ListGuard, NullGuard, NearGuard, FrozenGuard, OrNull, guard_name, primitive, native_guard, RefTest, IsNear, IsFar, IsResolved, IsBroken, OptProblem, Fulfillment, NoTest, Asked, MakesList, Ranges, Same, Compares, Loops, SendsTo, CallsTo, MakesPromise, Breaks, Tells, Whens, ThrowsIt, IsStamped, Coerces, AddsNull, NoMethod, data_reply, range_reply, compared, value_order, null_or_reply, list_at}
use Rattle.def_kernel.specs.declared.node.Node.{Node}
use Rattle.def_machine.specs.Scopes.{Caller, is_null, is_int, is_boolean, is_char, is_text, is_list, is_near, where_true, is_plain, stamps_of}
use Rattle.def_machine.specs.Scopes.{opened_scopes}

module _ {N W : Type 0} (K : Naming N W) (tree : List Node) where
  -- ---- stamps and frozen values

  unfoldable pub same_stamp : Value N → Value N → Bool
  same_stamp (Prim m) (Prim n) = m == n
  same_stamp (Ref m) (Ref n) = K.same m n
  same_stamp _ _ = false

  unfoldable pub has_stamp : Value N → List (Value N) → Bool
  has_stamp a [] = false
  has_stamp a (b ∷ bs) = elim (same_stamp a b) [ true ↦ true | false ↦ has_stamp a bs ]

  unfoldable pub stamps_at : Vat N → Spot → List (Value N)
  stamps_at s (Own i) = stamps_of (slice_get s.things i)
  stamps_at s _ = []

  -- whether a followed value is an object of this vat that bears the stamp of a followed auditor
  unfoldable pub is_stamped : Vat N → Value N → Value N → Bool
  is_stamped s a (Ref n) = has_stamp a (stamps_at s (K.spot n))
  is_stamped s a _ = false

  -- data without names, a primitive, or an object with DeepFrozen's stamp
  unfoldable pub is_frozen : Vat N → Value N → Bool
  is_frozen s (Ref n) = is_stamped s (Prim 17) (Ref n)
  is_frozen s y = is_plain highest s.lists y

  -- ---- native guards

  -- what a native guard answers for a specimen, as it is held and as it is followed
  unfoldable pub taken : Vat N → Guard → Value N → Value N → Option (Value N)
  taken s AnyGuard x y = Some x
  taken s VoidGuard x y = Some Null
  taken s IntGuard x y = where_true (is_int y) y
  taken s BooleanGuard x y = where_true (is_boolean y) y
  taken s CharGuard x y = where_true (is_char y) y
  taken s TextGuard x y = where_true (is_text y) y
  taken s ListGuard x y = where_true (is_list y) y
  taken s NullGuard x y = where_true (is_null y) y
  taken s NearGuard x y = where_true (is_near (place K s y)) y
  taken s FrozenGuard x y = where_true (is_frozen s y) y
  taken s (OrNull g) x y = elim (is_null y) [ true ↦ Some Null | false ↦ taken s g x y ]

  unfoldable pub fail_by : {A : Type 0} → Caller N → ℕ → Value N → Words → Bool → Act N A
  fail_by again act j p true = throw p
  fail_by again act j p false = again act j (codes "run") (Text p ∷ []) >> throw p

  -- A failing calls the ejector where there is one, and throws where that comes back.
  unfoldable pub failed : {A : Type 0} → Caller N → ℕ → Value N → Words → Act N A
  failed again act j p = do
    none ← look (λ s. is_null (follow K s j))
    fail_by again act j p none

  -- the ejector as it is handed on
  unfoldable pub handed : Value N → Act N (Value N)
  handed j = do
    none ← look (λ s. is_null (follow K s j))
    if none then give Null else give j

  unfoldable pub native_coerce : Caller N → ℕ → Guard → Value N → Value N → Act N (Value N)
  native_coerce again act g j x = do
    y ← look (λ s. taken s g x (follow K s x))
    for_some y give (failed again act j (codes "not " ++ guard_name g))

  unfoldable pub coerce_near : Caller N → ℕ → Value N → Value N → Value N → Place N → Act N (Value N)
  coerce_near again act g j x Near = do
    k ← handed j
    again act g (codes "coerce") (x ∷ k ∷ [])
  coerce_near again act g j x _ = throw (codes "not a guard")

  unfoldable pub coerce_native : Caller N → ℕ → Option Guard → Value N → Value N → Act N (Value N)
  coerce_native again act (Some g) j x = native_coerce again act g j x
  coerce_native again act None j x = throw (codes "not a guard")

  -- a followed guard coerces a specimen, with an ejector
  unfoldable pub coerce : Caller N → ℕ → Value N → Value N → Value N → Act N (Value N)
  coerce again act (Prim n) j x = coerce_native again act (native_guard (primitive n)) j x
  coerce again act (Ref n) j x = do
    p ← look (λ s. place K s (Ref n))
    coerce_near again act (Ref n) j x p
  coerce again act _ j x = throw (codes "not a guard")

  -- ---- what data and primitives answer

  unfoldable pub store : ℕ → List (Value N) → Act N (Value N)
  store act vs = do
    spend (length vs)
    k ← new_list vs
    tell (ListMade act k vs)
    give (Items k)

  -- a list that an activation makes: its limits are tested, then a unit for each member is spent
  unfoldable pub make_list : ℕ → List (Value N) → Act N (Value N)
  make_list act vs = do
    good ← look (λ s. list_fits s.lists vs)
    if good then store act vs else throw (codes "too heavy")

  unfoldable pub spell : Words → Act N (Value N)
  spell t = do
    spend (length t)
    give (Text t)

  -- a text that a text answers: a unit for each byte
  unfoldable pub write_text : Words → Act N (Value N)
  write_text t = if nat_le (length t) 65535 then spell t else throw (codes "too heavy")

  unfoldable pub iterate : Caller N → ℕ → Value N → ℕ → List (Value N) → Act N (Value N)
  iterate again act o k [] = give Null
  iterate again act o k (v ∷ vs) = again act o (codes "run") (Number (pos k) ∷ v ∷ []) >> iterate again act o (suc k) vs

  unfoldable pub reply : Caller N → ℕ → Reply N → Act N (Value N)
  reply again act (Says v) = give v
  reply again act (Writes t) = write_text t
  reply again act (Lists vs) = make_list act vs
  reply again act (Iterates o vs) = iterate again act o 0 vs
  reply again act (Fails p) = throw p

  unfoldable pub data_answer : Caller N → ℕ → Value N → Words → List (Value N) → Act N (Value N)
  data_answer again act y verb args = do
    r ← look (λ s. data_reply s.lists y verb args (map (follow K s) args))
    reply again act r

  -- ---- sameEver

  unfoldable pub is_unsettled : Place N → Bool
  is_unsettled (Mine n) = true
  is_unsettled (Away h n o) = elim o [ true ↦ false | false ↦ true ]
  is_unsettled _ = false

  unfoldable pub open_by : (List (Value N) → Bool) → Vat N → Value N → Bool
  open_by members s (Items k) = members (list_at s.lists k)
  open_by members s y = is_unsettled (place K s y)

  -- whether a followed part of it is unsettled
  unfoldable pub is_open : ℕ → Vat N → Value N → Bool
  is_open zero s x = open_by (λ vs. false) s (follow K s x)
  is_open (suc d) s x = open_by (any_of K (λ v. is_open d s v)) s (follow K s x)

  unfoldable pub all_same : (Value N → Value N → Bool) → List (Value N) → List (Value N) → Bool
  all_same f [] [] = true
  all_same f (v ∷ vs) (w ∷ ws) = elim (f v w) [ true ↦ all_same f vs ws | false ↦ false ]
  all_same f _ _ = false

  unfoldable pub same_by : (List (Value N) → List (Value N) → Bool) → Vat N → Value N → Value N → Bool
  same_by members s Null Null = true
  same_by members s (Flag a) (Flag b) = elim a [ true ↦ b | false ↦ elim b [ true ↦ false | false ↦ true ] ]
  same_by members s (Number a) (Number b) = same_int a b
  same_by members s (Letter a) (Letter b) = a == b
  same_by members s (Text a) (Text b) = same_words a b
  same_by members s (Prim a) (Prim b) = a == b
  same_by members s (Broken a) (Broken b) = same_words a b
  same_by members s (Items j) (Items k) = members (list_at s.lists j) (list_at s.lists k)
  same_by members s (Ref m) (Ref n) = K.same m n
  same_by members s _ _ = false

  -- whether two values are the same, member by member, each followed
  unfoldable pub is_same : ℕ → Vat N → Value N → Value N → Bool
  is_same zero s x y = same_by (λ vs ws. false) s (follow K s x) (follow K s y)
  is_same (suc d) s x y = same_by (all_same (λ v w. is_same d s v w)) s (follow K s x) (follow K s y)

  -- lists nest no deeper than there are lists, since none leads back to itself
  unfoldable pub same_reply : Vat N → Value N → Value N → Reply N
  same_reply s x y = elim (any_of K (is_open (length s.lists) s) (x ∷ y ∷ [])) [
    | true ↦ Fails (codes "not settled")
    | false ↦ Says (Flag (is_same (length s.lists) s x y))
  ]

  -- ---- E and Ref

  -- a send, with an answer or without one
  unfoldable pub send_by : Bool → ℕ → Value N → Words → List (Value N) → Act N (Value N)
  send_by only act x verb args = if only then send_only K act x verb args else send K act x verb args

  unfoldable pub send_listed : Bool → ℕ → Value N → Words → List (Value N) → Act N (Value N)
  send_listed only act x verb args = if nat_le (length args) 255 then send_by only act x verb args else throw (codes "bad message")

  -- E.send and E.sendOnly, at a followed verb and list, on the target as it is held
  unfoldable pub send_with : Bool → ℕ → Value N → Value N → Value N → Act N (Value N)
  send_with only act x (Text verb) (Items k) = do
    args ← look (λ s. list_at s.lists k)
    send_listed only act x verb args
  send_with only act x _ _ = throw (codes "bad message")

  unfoldable pub call_listed : Caller N → ℕ → Value N → Words → List (Value N) → Act N (Value N)
  call_listed again act x verb args = if nat_le (length args) 255 then again act x verb args else throw (codes "bad message")

  unfoldable pub call_with : Caller N → ℕ → Value N → Value N → Value N → Act N (Value N)
  call_with again act x (Text verb) (Items k) = do
    args ← look (λ s. list_at s.lists k)
    call_listed again act x verb args
  call_with again act x _ _ = throw (codes "bad message")

  -- the promise and its resolver
  unfoldable pub make_promise : ℕ → Act N (Value N)
  make_promise act = do
    p ← new_promise K
    r ← new_thing (Resolver p)
    tell (PromiseMade act p (K.object r))
    make_list act (Ref p ∷ Ref (K.object r) ∷ [])

  unfoldable pub broken_text : Value N → Reply N
  broken_text (Text t) = Says (Broken t)
  broken_text _ = Fails (codes "bad argument")

  unfoldable pub problem_of : Place N → Value N
  problem_of (Gone p) = Text p
  problem_of _ = Null

  unfoldable pub fulfilled : Value N → Place N → Reply N
  fulfilled x Near = Says x
  fulfilled x (Away h n true) = Says x
  fulfilled x (Gone p) = Fails p
  fulfilled x _ = Fails (codes "not resolved")

  unfoldable pub is_far : Place N → Bool
  is_far (Away h n o) = o
  is_far _ = false

  unfoldable pub is_gone : Place N → Bool
  is_gone (Gone p) = true
  is_gone _ = false

  -- what Ref tells of a value, as it is held, whose followed value is at this place
  unfoldable pub test_reply : RefTest → Value N → Place N → Reply N
  test_reply IsNear x p = Says (Flag (is_near p))
  test_reply IsFar x p = Says (Flag (is_far p))
  test_reply IsResolved x p = Says (Flag (elim (is_unsettled p) [ true ↦ false | false ↦ true ]))
  test_reply IsBroken x p = Says (Flag (is_gone p))
  test_reply OptProblem x p = Says (problem_of p)
  test_reply Fulfillment x p = fulfilled x p
  test_reply NoTest x p = Fails (codes "no method")

  unfoldable pub react_near : ℕ → Value N → Value N → Value N → Place N → Act N (Value N)
  react_near act x o y Near = react K act x o y
  react_near act x o y _ = throw (codes "not near")

  unfoldable pub when_resolved : ℕ → Value N → Value N → Act N (Value N)
  when_resolved act x o = do
    y ← look (λ s. follow K s o)
    p ← look (λ s. place K s y)
    react_near act x o y p

  unfoldable pub thrown_text : Value N → Reply N
  thrown_text (Text t) = Fails t
  thrown_text _ = Fails (codes "not a text")

  -- ---- the loop: as many turns at most as there is fuel, of which each turn takes some

  unfoldable pub after_turn : Act N (Value N) → Value N → Act N (Value N)
  after_turn more (Flag true) = more
  after_turn more (Flag false) = give Null
  after_turn more _ = throw (codes "not boolean")

  unfoldable pub turns : ℕ → Act N (Value N) → Act N (Value N)
  turns zero body = stop Fuel
  turns (suc n) body = do
    x ← body
    y ← look (λ s. follow K s x)
    after_turn (λ s. turns n body s) y

  unfoldable pub loop : Act N (Value N) → Act N (Value N)
  loop body = do
    n ← look (λ s. suc s.fuel)
    turns n body

  -- ---- primitives, which tell no line of their own call

  unfoldable pub perform : Caller N → ℕ → Asked N → Act N (Value N)
  perform again act (MakesList vs) = make_list act vs
  perform again act (Ranges last a b) = do
    r ← look (λ s. range_reply last (follow K s a) (follow K s b))
    reply again act r
  perform again act (Same a b) = do
    r ← look (λ s. same_reply s a b)
    reply again act r
  perform again act (Compares test a b) = do
    r ← look (λ s. compared test (value_order (follow K s a) (follow K s b)))
    reply again act r
  perform again act (Loops o) = loop (again act o (codes "run") [])
  perform again act (SendsTo only x v l) = do
    verb ← look (λ s. follow K s v)
    list ← look (λ s. follow K s l)
    send_with only act x verb list
  perform again act (CallsTo x v l) = do
    verb ← look (λ s. follow K s v)
    list ← look (λ s. follow K s l)
    call_with again act x verb list
  perform again act MakesPromise = make_promise act
  perform again act (Breaks t) = do
    r ← look (λ s. broken_text (follow K s t))
    reply again act r
  perform again act (Tells test x) = do
    r ← look (λ s. test_reply test x (place K s (follow K s x)))
    reply again act r
  perform again act (Whens x o) = when_resolved act x o
  perform again act (ThrowsIt t) = do
    r ← look (λ s. thrown_text (follow K s t))
    reply again act r
  perform again act (IsStamped a x) = do
    b ← look (λ s. is_stamped s (follow K s a) (follow K s x))
    give (Flag b)
  perform again act (Coerces g x j) = native_coerce again act g j x
  perform again act (AddsNull g) = do
    r ← look (λ s. null_or_reply (follow K s g))
    reply again act r
  perform again act NoMethod = throw (codes "no method")

-- opens each definition of this file, and of those below
unfoldable pub opened_perform : Unit {0}
unfolding same_stamp has_stamp stamps_at is_stamped is_frozen taken fail_by failed handed native_coerce coerce_near coerce_native coerce store make_list spell write_text iterate reply data_answer is_unsettled open_by is_open all_same same_by is_same same_reply send_by send_listed send_with call_listed call_with make_promise broken_text problem_of fulfilled is_far is_gone test_reply react_near when_resolved thrown_text after_turn turns loop perform opened_scopes
opened_perform = tt
