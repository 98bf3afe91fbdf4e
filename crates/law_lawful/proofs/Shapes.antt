-- What an operation is about, where it was read from bytes: a message goes to a name of the receiver, and what is told of is a promise of the sender.
use Rattle.std.proofs.Common.{◌≡◌, ℕ, Bool, true, false, List, [], ◌∷◌, Option, Some, None, if◌then◌else◌}
use Rattle.std.specs.Prelude.{◌==◌}
use Rattle.def_op.specs.declared.kind.Kind.{Kind}
use Rattle.def_op.specs.declared.kind.Kind.TheVariants as kind
use Rattle.def_op.specs.Frames as op
use Rattle.def_op.specs.Frames.{Described, Operation}
use Rattle.def_op.specs.Reading as reading
use Rattle.def_op.specs.Reading.{◌>>=◌, kind_at, op_at}
use Rattle.def_hostile.specs.Judge as judge
use Rattle.def_hostile.specs.Judge.{Verdict, Judged, Faulty, Fine, Lawful}

abbrev pub IsTarget : Described → Type 0
IsTarget (op.YourExport n) = Unit {0}
IsTarget (op.YourAnswer n) = Unit {0}
IsTarget other = ⊥

abbrev pub IsSubject : Described → Type 0
IsSubject (op.MyPromise n) = Unit {0}
IsSubject (op.MyAnswer n) = Unit {0}
IsSubject other = ⊥

abbrev pub IsShaped : Operation → Type 0
IsShaped (op.Deliver q d verb ds) = IsTarget d
IsShaped (op.DeliverOnly d verb ds) = IsTarget d
IsShaped (op.Provide d w) = IsTarget d
IsShaped (op.Accept q p w) = Unit {0}
IsShaped (op.Resolve d o) = IsSubject d
IsShaped (op.Shorten d w) = IsTarget d

abbrev Gets : {A : Type 0} → (A → Type 0) → Option A → Type 0
Gets P None = Unit {0}
Gets P (Some x) = P x

gets_then : {A B : Type 0} (P : A → Type 0) (Q : B → Type 0) (o : Option A) (f : A → Option B) → Gets P o → ((x : A) → P x → Gets Q (f x)) → Gets Q (o >>= f)
gets_then P Q None f h g = tt
gets_then P Q (Some x) f h g = g x h

gets_any : {A : Type 0} (o : Option A) → Gets (λ (x : A). Unit {0}) o
gets_any None = tt
gets_any (Some x) = tt

after : {A B : Type 0} (Q : B → Type 0) (o : Option A) (f : A → Option B) → ((x : A) → Gets Q (f x)) → Gets Q (o >>= f)
after {A = A} Q o f g = gets_then (λ (x : A). Unit {0}) Q o f (gets_any o) (λ x h. g x)

gets_if : {B : Type 0} (Q : B → Type 0) (b : Bool) (o p : Option B) → Gets Q o → Gets Q p → Gets Q (if b then o else p)
gets_if Q true o p h k = h
gets_if Q false o p h k = k

abbrev First : {B : Type 0} → (Described → Type 0) → Described × B → Type 0
First P x = P x.0

behind_target : (k : Kind) (bytes : List ℕ) → Gets (First IsTarget) (reading.target_behind k bytes)
unfolding reading.target_behind
behind_target kind.YourExport bytes = after (First IsTarget) (reading.unsigned_at bytes) _ (λ n. tt)
behind_target kind.YourAnswer bytes = after (First IsTarget) (reading.unsigned_at bytes) _ (λ n. tt)
behind_target other bytes = tt

target : (bytes : List ℕ) → Gets (First IsTarget) (reading.target_at bytes)
unfolding reading.target_at
target bytes = after (First IsTarget) (kind_at bytes) _ (λ k. behind_target k.0 k.1)

behind_subject : (k : Kind) (bytes : List ℕ) → Gets (First IsSubject) (reading.subject_behind k bytes)
unfolding reading.subject_behind
behind_subject kind.MyPromise bytes = after (First IsSubject) (reading.unsigned_at bytes) _ (λ n. tt)
behind_subject kind.MyAnswer bytes = after (First IsSubject) (reading.unsigned_at bytes) _ (λ n. tt)
behind_subject other bytes = tt

subject : (bytes : List ℕ) → Gets (First IsSubject) (reading.subject_at bytes)
unfolding reading.subject_at
subject bytes = after (First IsSubject) (kind_at bytes) _ (λ k. behind_subject k.0 k.1)

abbrev Shaped : Operation × List ℕ → Type 0
Shaped x = IsShaped x.0

deliver : (bytes : List ℕ) → Gets Shaped (reading.deliver_at bytes)
unfolding reading.deliver_at
deliver bytes = after Shaped (reading.unsigned_at bytes) _ (λ q. gets_then (First IsTarget) Shaped (reading.target_at q.1) _ (target q.1) (λ t h. after Shaped (reading.text_at _ t.1) _ (λ verb. after Shaped (reading.few_at verb.1) _ (λ n. after Shaped (reading.members_at reading.free_at n.0 0 n.1) _ (λ args. h)))))

deliver_only : (bytes : List ℕ) → Gets Shaped (reading.deliver_only_at bytes)
unfolding reading.deliver_only_at
deliver_only bytes = gets_then (First IsTarget) Shaped (reading.target_at bytes) _ (target bytes) (λ t h. after Shaped (reading.text_at _ t.1) _ (λ verb. after Shaped (reading.few_at verb.1) _ (λ n. after Shaped (reading.members_at reading.free_at n.0 0 n.1) _ (λ args. h))))

resolve : (bytes : List ℕ) → Gets Shaped (reading.resolve_at bytes)
unfolding reading.resolve_at
resolve bytes = gets_then (First IsSubject) Shaped (reading.subject_at bytes) _ (subject bytes) (λ t h. after Shaped (reading.outcome_at t.1) _ (λ o. h))

provide : (bytes : List ℕ) → Gets Shaped (reading.provide_at bytes)
unfolding reading.provide_at
provide bytes = gets_then (First IsTarget) Shaped (reading.target_at bytes) _ (target bytes) (λ t h. after Shaped (reading.swiss_at t.1) _ (λ w. h))

accept : (bytes : List ℕ) → Gets Shaped (reading.accept_at bytes)
unfolding reading.accept_at
accept bytes = after Shaped (reading.unsigned_at bytes) _ (λ q. after Shaped (reading.vat_at q.1) _ (λ p. after Shaped (reading.swiss_at p.1) _ (λ w. tt)))

shorten : (bytes : List ℕ) → Gets Shaped (reading.shorten_at bytes)
unfolding reading.shorten_at
shorten bytes = gets_then (First IsTarget) Shaped (reading.target_at bytes) _ (target bytes) (λ t h. after Shaped (reading.swiss_at t.1) _ (λ w. h))

shaped : (bytes : List ℕ) → Gets Shaped (op_at bytes)
unfolding op_at
shaped [] = tt
shaped (b ∷ rest) = gets_if Shaped (b == 1) _ _ (deliver rest) (gets_if Shaped (b == 2) _ _ (resolve rest) (gets_if Shaped (b == 3) _ _ (provide rest) (gets_if Shaped (b == 4) _ _ (accept rest) (gets_if Shaped (b == 5) _ _ (shorten rest) (gets_if Shaped (b == 6) _ _ (deliver_only rest) tt)))))

lawful_shaped : (new kinds : List Bool) (o : Operation) (x : Option (Operation × List ℕ)) → Gets Shaped x → judge.lawful_if new x ≡ Lawful o kinds → IsShaped o
unfolding judge.lawful_if
lawful_shaped new kinds o None h e = cc
lawful_shaped new kinds o (Some x) h e = let same : x.0 ≡ o = cc in rw same at h

by_shaped : (bytes : List ℕ) (kinds : List Bool) (o : Operation) (stop : Option ℕ) (j : Judged) → judge.verdict_by bytes stop j ≡ Lawful o kinds → IsShaped o
unfolding judge.verdict_by
by_shaped bytes kinds o stop (Faulty place) e = cc
by_shaped bytes kinds o (Some place) (Fine new) e = cc
by_shaped bytes kinds o None (Fine new) e = lawful_shaped new kinds o (op_at bytes) (shaped bytes) e

-- so of an operation that the judge accepts
pub accepted_shaped : (vats me peer : ℕ) (c : judge.Counts) (bytes : List ℕ) (o : Operation) (kinds : List Bool) → judge.verdict vats me peer c bytes ≡ Lawful o kinds → IsShaped o
unfolding judge.verdict
accepted_shaped vats me peer c bytes o kinds e = by_shaped bytes kinds o _ _ e
