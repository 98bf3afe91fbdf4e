-- What comes out the same by two callers that agree on what it calls.
use Rattle.std.proofs.Common.{◌≡◌, ℕ, zero, suc, Bool, true, false, List, [], ◌∷◌, Option, Some, None, if◌then◌else◌, codes, refl, ap, ◌∙◌, map}
use Rattle.std.specs.Prelude.{pos}
use Rattle.def_machine.specs.Values.{Words, Value, Null, Flag, Number, Letter, Text, Prim, Broken, Items, Ref, Naming, Spot, Own}
use Rattle.def_machine.specs.State.{Thing, Ejector, Audition, Resolver, View, Vat, Done, Gives, Act, ◌>>=◌, ◌>>◌, and_then, end_by, ending, for_some, give, look, throw}
use Rattle.def_machine.specs.Refs.{Place, Near, follow}
use Rattle.def_machine.specs.Native.{list_at, data_reply, primitive, asked, Reply, Iterates, Guard, Asked, MakesList, Loops, SendsTo, CallsTo, MakesPromise, Whens, IsStamped, Coerces, NoMethod}
use Rattle.def_machine.specs.Scopes as scopes
use Rattle.def_machine.specs.Perform as perform
use Rattle.def_machine.specs.Calls as calls
use Rattle.def_machine.specs.Scopes.{Evaluator, Caller, AuditionAsk, GetsForm, GetsGuard, Asks, NoAuditionAsk}
use Rattle.def_kernel.specs.declared.node.Node.{Node}

-- from every state the same
pub record Alike {N A : Type 0} (f g : Act N A) : Type 0 where
  pub at : (s : Vat N) → f s ≡ g s

module _ {N : Type 0} where
  pub itself : {A : Type 0} (f : Act N A) → Alike f f
  itself f = record { at = λ s. refl }

  bind_done : {A B : Type 0} (d : Done N A) {f g : A → Act N B} → ((a : A) → Alike (f a) (g a)) → and_then d f ≡ and_then d g
  unfolding and_then
  bind_done (Gives a t) h = (h a).at t
  bind_done other h = refl

  pub alike_bind : {A B : Type 0} {m n : Act N A} {f g : A → Act N B} → Alike m n → ((a : A) → Alike (f a) (g a)) → Alike (m >>= f) (n >>= g)
  unfolding ◌>>=◌
  alike_bind {n = n} {f = f} h k = record { at = λ s. ap (λ d. and_then d f) (h.at s) ∙ bind_done (n s) k }

  pub alike_then : {A B : Type 0} {m n : Act N A} {f g : Act N B} → Alike m n → Alike f g → Alike (m >> f) (n >> g)
  unfolding ◌>>◌
  alike_then {n = n} {f = f} h k = record { at = λ s. ap (λ d. and_then d (λ _. f)) (h.at s) ∙ bind_done (n s) (λ _. k) }

  pub alike_ending : {A B : Type 0} {m n : Act N A} (f : A → Act N B) (g : Words → Act N B) (h : ℕ → Value N → Act N B) → Alike m n → Alike (ending f g h m) (ending f g h n)
  unfolding ending
  alike_ending f g h k = record { at = λ s. ap (end_by f g h) (k.at s) }

  pub alike_ended : (act : ℕ) {m n : Act N (Value N)} → Alike m n → Alike (scopes.ended act m) (scopes.ended act n)
  unfolding scopes.ended
  alike_ended act h = alike_ending _ _ _ h

  pub alike_lines : (act : ℕ) (x : Value N) (verb : Words) (args : List (Value N)) {m n : Act N (Value N)} → Alike m n → Alike (scopes.with_lines act x verb args m) (scopes.with_lines act x verb args n)
  unfolding scopes.with_lines
  alike_lines act x verb args h = alike_then (itself _) (alike_ended act h)

-- two callers agree on calls of these arguments, whoever is called
abbrev pub AgreeOn : {N : Type 0} → Caller N → Caller N → Words → List (Value N) → Type 0
AgreeOn {N} a b verb args = (act : ℕ) (x : Value N) → Alike (a act x verb args) (b act x verb args)

-- on what an iteration, a loop and the asking of an auditor call
pub record Agree {N : Type 0} (a b : Caller N) : Type 0 where
  pub pairs : (v w : Value N) → AgreeOn a b (codes "run") (v ∷ w ∷ [])
  pub runs : AgreeOn a b (codes "run") []
  pub audits : (v : Value N) → AgreeOn a b (codes "audit") (v ∷ [])

-- what of a call's answer they need to agree on
module _ {N : Type 0} (a b : Caller N) where
  abbrev pub ReplyAlike : Reply N → Type 0
  ReplyAlike (Iterates o vs) = (v w : Value N) → AgreeOn a b (codes "run") (v ∷ w ∷ [])
  ReplyAlike other = Unit {0}

  abbrev pub AuditionAlike : AuditionAsk N → Type 0
  AuditionAlike (GetsGuard x) = (r : Reply N) → ReplyAlike r
  AuditionAlike (Asks x) = (v : Value N) → AgreeOn a b (codes "audit") (v ∷ [])
  AuditionAlike other = Unit {0}

  -- a call of calls is told apart: of it they need to agree on that call, in that state
  module _ (calls : Value N → Type 0) where
    abbrev pub AskedAlike : Asked N → Type 0
    AskedAlike (MakesList vs) = Unit {0}
    AskedAlike (Loops o) = AgreeOn a b (codes "run") []
    AskedAlike (SendsTo only x v l) = Unit {0}
    AskedAlike (CallsTo x v l) = calls l
    AskedAlike MakesPromise = Unit {0}
    AskedAlike (Whens x o) = Unit {0}
    AskedAlike (IsStamped v x) = Unit {0}
    AskedAlike (Coerces g x j) = (v : Value N) → AgreeOn a b (codes "run") (v ∷ [])
    AskedAlike NoMethod = Unit {0}
    AskedAlike other = (r : Reply N) → ReplyAlike r

  pub each_reply : ((v w : Value N) → AgreeOn a b (codes "run") (v ∷ w ∷ [])) → (r : Reply N) → ReplyAlike r
  each_reply h (Iterates o vs) = h
  each_reply h other = tt

module _ {N W : Type 0} (K : Naming N W) (tree : List Node) (a b : Caller N) where
  -- ---- what primitives and data answer

  alike_iterate : ((v w : Value N) → AgreeOn a b (codes "run") (v ∷ w ∷ [])) → (act : ℕ) (o : Value N) (k : ℕ) (vs : List (Value N)) → Alike (perform.iterate K tree a act o k vs) (perform.iterate K tree b act o k vs)
  unfolding perform.iterate
  alike_iterate h act o k [] = itself _
  alike_iterate h act o k (v ∷ vs) = alike_then (h (Number (pos k)) v act o) (alike_iterate h act o (suc k) vs)

  pub alike_reply : (act : ℕ) (r : Reply N) → ReplyAlike a b r → Alike (perform.reply K tree a act r) (perform.reply K tree b act r)
  unfolding perform.reply
  alike_reply act (Iterates o vs) h = alike_iterate h act o 0 vs
  alike_reply act other h = itself _

  alike_more : {m n : Act N (Value N)} → Alike m n → (y : Value N) → Alike (perform.after_turn K tree m y) (perform.after_turn K tree n y)
  unfolding perform.after_turn
  alike_more h (Flag true) = h
  alike_more h other = itself _

  alike_turns : (n : ℕ) {f g : Act N (Value N)} → Alike f g → Alike (perform.turns K tree n f) (perform.turns K tree n g)
  unfolding perform.turns
  alike_turns zero h = itself _
  alike_turns (suc n) {f = f} {g = g} h = alike_bind h (λ x. alike_bind (itself _) (λ y. alike_more {m = λ s. perform.turns K tree n f s} {n = λ s. perform.turns K tree n g s} (record { at = λ s. (alike_turns n h).at s }) y))

  alike_loop : {f g : Act N (Value N)} → Alike f g → Alike (perform.loop K tree f) (perform.loop K tree g)
  unfolding perform.loop
  alike_loop h = alike_bind (itself _) (λ n. alike_turns n h)

  alike_fail : {A : Type 0} → ((v : Value N) → AgreeOn a b (codes "run") (v ∷ [])) → (act : ℕ) (j : Value N) (p : Words) (none : Bool) → Alike (perform.fail_by K tree {A = A} a act j p none) (perform.fail_by K tree {A = A} b act j p none)
  unfolding perform.fail_by
  alike_fail h act j p true = itself _
  alike_fail h act j p false = alike_then (h (Text p) act j) (itself _)

  alike_failed : {A : Type 0} → ((v : Value N) → AgreeOn a b (codes "run") (v ∷ [])) → (act : ℕ) (j : Value N) (p : Words) → Alike (perform.failed K tree {A = A} a act j p) (perform.failed K tree {A = A} b act j p)
  unfolding perform.failed
  alike_failed h act j p = alike_bind (itself _) (λ none. alike_fail h act j p none)

  alike_some : (o : Option (Value N)) {m n : Act N (Value N)} → Alike m n → Alike (for_some o give m) (for_some o give n)
  unfolding for_some
  alike_some (Some v) h = itself _
  alike_some None h = h

  alike_coerce : ((v : Value N) → AgreeOn a b (codes "run") (v ∷ [])) → (act : ℕ) (g : Guard) (j x : Value N) → Alike (perform.native_coerce K tree a act g j x) (perform.native_coerce K tree b act g j x)
  unfolding perform.native_coerce
  alike_coerce h act g j x = alike_bind (itself _) (λ y. alike_some y (alike_failed h act j _))

  -- what a call of calls comes to, with a followed list
  abbrev pub CallsAlike : Vat N → Value N → Type 0
  CallsAlike s l = (k : ℕ) → follow K s l ≡ Items k → (act : ℕ) (x : Value N) (verb : Words) → a act x verb (list_at s.lists k) s ≡ b act x verb (list_at s.lists k) s

  listed_alike : (act : ℕ) (x : Value N) (verb : Words) (args : List (Value N)) (s : Vat N) (short : Bool) → a act x verb args s ≡ b act x verb args s
      → (if short then a act x verb args else throw (codes "bad message")) s ≡ (if short then b act x verb args else throw (codes "bad message")) s
  listed_alike act x verb args s true h = h
  listed_alike act x verb args s false h = refl

  with_alike : (act : ℕ) (x verb l : Value N) (s : Vat N) → ((k : ℕ) → l ≡ Items k → (y : Value N) (v : Words) → a act y v (list_at s.lists k) s ≡ b act y v (list_at s.lists k) s) → perform.call_with K tree a act x verb l s ≡ perform.call_with K tree b act x verb l s
  unfolding perform.call_with perform.call_listed look ◌>>=◌ and_then
  with_alike act x (Text verb) (Items k) s h = listed_alike act x verb (list_at s.lists k) s _ (h k refl x verb)
  with_alike act x verb l s h = refl

  performed_alike : (act : ℕ) (s : Vat N) (x v l : Value N) → CallsAlike s l → perform.perform K tree a act (CallsTo x v l) s ≡ perform.perform K tree b act (CallsTo x v l) s
  unfolding perform.perform look ◌>>=◌ and_then
  performed_alike act s x v l h = with_alike act x (follow K s v) (follow K s l) s (λ k e y w. h k e act y w)

  pub alike_perform : (act : ℕ) (s : Vat N) (k : Asked N) → AskedAlike a b (CallsAlike s) k → perform.perform K tree a act k s ≡ perform.perform K tree b act k s
  unfolding perform.perform
  alike_perform act s (MakesList vs) h = refl
  alike_perform act s (Loops o) h = (alike_loop (h act o)).at s
  alike_perform act s (SendsTo only x v l) h = refl
  alike_perform act s (CallsTo x v l) h = performed_alike act s x v l h
  alike_perform act s MakesPromise h = refl
  alike_perform act s (Whens x o) h = refl
  alike_perform act s (IsStamped v x) h = refl
  alike_perform act s (Coerces g x j) h = (alike_coerce h act g j x).at s
  alike_perform act s NoMethod h = refl
  alike_perform act s other h = (alike_bind (itself _) (λ r. alike_reply act r (h r))).at s

  alike_data : (act : ℕ) (y : Value N) (verb : Words) (args : List (Value N)) → ((s : Vat N) → ReplyAlike a b (data_reply s.lists y verb args (map (follow K s) args))) → Alike (perform.data_answer K tree a act y verb args) (perform.data_answer K tree b act y verb args)
  unfolding perform.data_answer look ◌>>=◌ and_then
  alike_data act y verb args h = record { at = λ s. (alike_reply act _ (h s)).at s }

  -- ---- what things answer

  alike_audit : ((v : Value N) → AgreeOn a b (codes "audit") (v ∷ [])) → (act : ℕ) (view : View N) (x : Value N) (p : Place N) → Alike (calls.audit K tree a act view x p) (calls.audit K tree b act view x p)
  unfolding calls.audit calls.leaving
  alike_audit h act view x Near = alike_bind (itself _) (λ n. alike_then (itself _) (alike_bind (alike_ending _ _ _ (h (Ref (K.object n)) act x)) (λ v. itself _)))
  alike_audit h act view x other = itself _

  alike_verdict : ((v : Value N) → AgreeOn a b (codes "audit") (v ∷ [])) → (act : ℕ) (view : View N) (x y : Value N) → Alike (calls.verdict K tree a act view x y) (calls.verdict K tree b act view x y)
  unfolding calls.verdict
  alike_verdict h act view x (Ref n) = alike_bind (itself _) (λ p. alike_audit h act view x p)
  alike_verdict h act view x other = itself _

  alike_live : (act : ℕ) (view : View N) (k : AuditionAsk N) → AuditionAlike a b k → Alike (calls.audition_live K tree a act view k) (calls.audition_live K tree b act view k)
  unfolding calls.audition_live
  alike_live act view (GetsGuard x) h = alike_bind (itself _) (λ r. alike_reply act r (h r))
  alike_live act view (Asks x) h = alike_bind (itself _) (λ y. alike_bind (alike_verdict h act view x y) (λ c. itself _))
  alike_live act view other h = itself _

  alike_audition : (act : ℕ) (live : Bool) (view : View N) (k : AuditionAsk N) → AuditionAlike a b k → Alike (calls.audition_answer K tree a act live view k) (calls.audition_answer K tree b act live view k)
  unfolding calls.audition_answer
  alike_audition act live view NoAuditionAsk h = itself _
  alike_audition act true view GetsForm h = alike_live act view GetsForm h
  alike_audition act true view (GetsGuard x) h = alike_live act view (GetsGuard x) h
  alike_audition act true view (Asks x) h = alike_live act view (Asks x) h
  alike_audition act false view other h = itself _

  alike_thing : (act i : ℕ) (t : Thing N) (verb : Words) (args : List (Value N)) → AuditionAlike a b (scopes.audition_ask verb args) → Alike (calls.thing_answer K tree a act i t verb args) (calls.thing_answer K tree b act i t verb args)
  unfolding calls.thing_answer
  alike_thing act i (Audition live view) verb args h = alike_audition act live view (scopes.audition_ask verb args) h
  alike_thing act i other verb args h = itself _

  -- ---- a call

  -- what the two callers need to agree on for a call of these arguments, in that state
  pub record Suits (s : Vat N) (verb : Words) (args : List (Value N)) : Type 0 where
    pub asks : (n : ℕ) → AskedAlike a b (CallsAlike s) (asked (primitive n) verb args)
    pub replies : (t : Vat N) (y : Value N) → ReplyAlike a b (data_reply t.lists y verb args (map (follow K t) args))
    pub auditions : AuditionAlike a b (scopes.audition_ask verb args)

  module _ (rec : Evaluator N) (act : ℕ) (x : Value N) (verb : Words) (args : List (Value N)) where
    alike_called : (i : ℕ) (o : Option (Thing N)) → AuditionAlike a b (scopes.audition_ask verb args) → Alike (calls.call_thing K tree rec a act x i o verb args) (calls.call_thing K tree rec b act x i o verb args)
    unfolding calls.call_thing
    alike_called i (Some (Ejector live)) h = alike_lines act x verb args (alike_thing act i (Ejector live) verb args h)
    alike_called i (Some (Audition live view)) h = alike_lines act x verb args (alike_thing act i (Audition live view) verb args h)
    alike_called i (Some (Resolver p)) h = alike_lines act x verb args (alike_thing act i (Resolver p) verb args h)
    alike_called i other h = itself _

    alike_spot : (p : Spot) → AuditionAlike a b (scopes.audition_ask verb args) → Alike (calls.call_spot K tree rec a act x p verb args) (calls.call_spot K tree rec b act x p verb args)
    unfolding calls.call_spot
    alike_spot (Own i) h = alike_bind (itself _) (λ o. alike_called i o h)
    alike_spot other h = itself _

    alike_value : (s : Vat N) (y : Value N) → Suits s verb args → calls.call_value K tree rec a act x y verb args s ≡ calls.call_value K tree rec b act x y verb args s
    unfolding calls.call_value
    alike_value s (Ref n) h = (alike_spot (K.spot n) h.auditions).at s
    alike_value s (Broken p) h = refl
    alike_value s (Prim n) h = alike_perform act s (asked (primitive n) verb args) (h.asks n)
    alike_value s Null h = (alike_lines act x verb args (alike_data act Null verb args (λ t. h.replies t Null))).at s
    alike_value s (Flag c) h = (alike_lines act x verb args (alike_data act (Flag c) verb args (λ t. h.replies t (Flag c)))).at s
    alike_value s (Number z) h = (alike_lines act x verb args (alike_data act (Number z) verb args (λ t. h.replies t (Number z)))).at s
    alike_value s (Letter c) h = (alike_lines act x verb args (alike_data act (Letter c) verb args (λ t. h.replies t (Letter c)))).at s
    alike_value s (Text u) h = (alike_lines act x verb args (alike_data act (Text u) verb args (λ t. h.replies t (Text u)))).at s
    alike_value s (Items k) h = (alike_lines act x verb args (alike_data act (Items k) verb args (λ t. h.replies t (Items k)))).at s

    pub alike_call : (s : Vat N) → Suits s verb args → calls.call_one K tree rec a act x verb args s ≡ calls.call_one K tree rec b act x verb args s
    unfolding calls.call_one look ◌>>=◌ and_then
    alike_call s h = alike_value s (follow K s x) h
