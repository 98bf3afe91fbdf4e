-- What a part leaves to be done.
use Rattle.std.proofs.Common.{◌≡◌, ℕ, zero, suc, ◌+◌, ◌-◌, ◌<◌, List, [], ◌∷◌, ◌++◌, Option, Some, None, Ok, Err, length, refl, sym, ap, ◌∙◌, subst, arith}
use Rattle.std.specs.Prelude.{Result, IfSome, slice_get, slice_set}
use Rattle.ev_base.specs.declared.values.Value.{Value}
use Rattle.ev_heap.specs.declared.happened.Happened.TheVariants as event
use Rattle.ev_pass.specs.Acts.{Out, Unless, Gives, and_then, ◌>>=◌, ◌>>◌, give, tell}
use Rattle.ev_pass.specs.declared.interior.Interior.{Interior}
use Rattle.ev_pass.specs.declared.interior.Stop.{Stop}
use Rattle.ev_pass.proofs.Ends.{ends}
use Rattle.ev_refs.specs.Changes.{settled_as, waiters_at}
use Rattle.ev_refs.specs.References.{References}
use Rattle.ev_refs.specs.declared.known.Known.{Known}
use Rattle.ev_refs.specs.declared.known.Message.{Message}
use Rattle.ev_refs.specs.declared.known.Waiters.{Waiters}
use Rattle.ev_settle.specs.Settling.{Leaves, set_known, parts_of, settle_waiters, settle_found, perform, next, run, patience, settle, forward}
use Rattle.ev_settle.specs.declared.tasks.Task.{Task}
use Rattle.ev_settle.specs.declared.tasks.Task.TheVariants.{SendOn, Settle}

-- what changes the inside alone leaves the rest to be done
pub rests : (r : Result (Unit {0}) Stop) (rest : List Task) (s : Interior) (o : Out (Unit {0})) → Gives r s o → Leaves r rest s (and_then o (λ _. give rest))
unfolding and_then give
rests (Ok u) rest s o h = rw h refl
rests (Err e) rest s o h = ends e s o (λ _. give rest) h

-- ---- a name that is known

present : {A : Type 0} (xs : List A) (n : ℕ) → n < length xs → (x : A) × (slice_get xs n ≡ Some x)
present [] n less = absurd (omega arith)
present (x ∷ xs) zero less = (x, refl)
present (x ∷ xs) (suc n) less = present xs n (omega arith)

module _ (p : ℕ) (v : Value) (d : ℕ) (rest : List Task) (s : Interior) (new : References) where
  abbrev IsAfter : Known → Type 0
  IsAfter x = new ≡ record s.refs { known = slice_set s.refs.known p (settled_as v x) }

  none_by : (x : Known) (o : Option Waiters) → IsAfter x → None ≡ o → settle_waiters p v d x o rest s ≡ (Ok rest, record s { refs = new })
  unfolding settle_waiters set_known ◌>>◌ and_then give
  none_by x None h e = rw h refl
  none_by x (Some ws) h e = absurd cc

  some_by : (x : Known) (o : Option Waiters) (ws : Waiters) → IsAfter x → Some ws ≡ o → settle_waiters p v d x o rest s ≡ and_then (tell (event.Settle p v) (record s { refs = new })) (λ _. give (parts_of p v d ws ++ rest))
  unfolding settle_waiters set_known ◌>>◌ and_then
  some_by x None ws h e = absurd cc
  some_by x (Some us) ws h e = let same : us ≡ ws = cc in rw (h, same) refl

  none_in : (o : Option Known) (x : Known) → o ≡ Some x → IfSome o IsAfter → IfSome o (λ y. None ≡ waiters_at y.standing y) → settle_found p v d o rest s ≡ (Ok rest, record s { refs = new })
  unfolding settle_found
  none_in None x e h w = absurd cc
  none_in (Some y) x e h w = none_by y (waiters_at y.standing y) h w

  some_in : (o : Option Known) (x : Known) (ws : Waiters) → o ≡ Some x → IfSome o IsAfter → IfSome o (λ y. Some ws ≡ waiters_at y.standing y)
      → settle_found p v d o rest s ≡ and_then (tell (event.Settle p v) (record s { refs = new })) (λ _. give (parts_of p v d ws ++ rest))
  unfolding settle_found
  some_in None x ws e h w = absurd cc
  some_in (Some y) x ws e h w = some_by y (waiters_at y.standing y) ws h w

  pub settled_none : p < length s.refs.known → IfSome (slice_get s.refs.known p) IsAfter → IfSome (slice_get s.refs.known p) (λ y. None ≡ waiters_at y.standing y) → settle_found p v d (slice_get s.refs.known p) rest s ≡ (Ok rest, record s { refs = new })
  settled_none less h w = let found = present s.refs.known p less in none_in (slice_get s.refs.known p) found.0 found.1 h w

  pub settled_some : (ws : Waiters) (left : List Task) (r : Result (Unit {0}) Stop) (u : Interior) → p < length s.refs.known → IfSome (slice_get s.refs.known p) IsAfter → IfSome (slice_get s.refs.known p) (λ y. Some ws ≡ waiters_at y.standing y)
      → left ≡ parts_of p v d ws ++ rest → Gives r u (tell (event.Settle p v) (record s { refs = new })) → Leaves r left u (settle_found p v d (slice_get s.refs.known p) rest s)
  settled_some ws left r u less h w is g =
      let found = present s.refs.known p less in
      let goes : settle_found p v d (slice_get s.refs.known p) rest s ≡ and_then (tell (event.Settle p v) (record s { refs = new })) (λ _. give left) =
      some_in (slice_get s.refs.known p) found.0 ws found.1 h w ∙ ap (λ (ts : List Task). and_then (tell (event.Settle p v) (record s { refs = new })) (λ _. give ts)) (sym is) in
      subst (λ (o : Out (List Task)). Leaves r left u o) (sym goes) (rests r left u (tell (event.Settle p v) (record s { refs = new })) g)

-- ---- one part after another

one_less : (n i : ℕ) → i < n → n - i ≡ suc (n - (i + 1))
one_less n i h = omega arith

patience_is : patience ≡ 18446744073709551615
unfolding patience
patience_is = refl

two_more : (n : ℕ) → n + 2 ≡ suc (suc n)
two_more n = omega arith

pub settles : (p d : ℕ) (v : Value) (ts : List Task) (s u : Interior) (r : Result (Unit {0}) Stop) → d ≡ length s.refs.known + 2 → ts ≡ Settle p v d ∷ [] → Gives r u (run patience ts s) → Gives r u (settle p v s)
unfolding settle
settles p d v ts s u r e h g =
    subst (λ (us : List Task). Gives r u (run patience us s)) (h ∙ ap (λ (k : ℕ). Settle p v k ∷ []) (e ∙ two_more (length s.refs.known))) g

pub forwards : (m : Message) (d : ℕ) (ts : List Task) (s u : Interior) (r : Result (Unit {0}) Stop) → d ≡ length s.refs.known + 2 → ts ≡ SendOn m d ∷ [] → Gives r u (run patience ts s) → Gives r u (forward m s)
unfolding forward
forwards m d ts s u r e h g =
    subst (λ (us : List Task). Gives r u (run patience us s)) (h ∙ ap (λ (k : ℕ). SendOn m k ∷ []) (e ∙ two_more (length s.refs.known))) g

pub begins : (ts : List Task) (s : Interior) → run (patience - 0) ts s ≡ run patience ts s
begins ts s = let all : patience - 0 ≡ patience = omega arith in ap (λ (k : ℕ). run k ts s) all

-- the next is done, and then the others
step : (i : ℕ) (t : Task) (ts us : List Task) (s u : Interior) → i < patience → perform t ts s ≡ (Ok us, u) → run (patience - i) (t ∷ ts) s ≡ run (patience - (i + 1)) us u
unfolding run next ◌>>=◌ and_then
step i t ts us s u less h = rw (one_less patience i less) (ap (λ (o : Out (List Task)). and_then o (run (patience - (i + 1)))) h)

pub goes_on : (i : ℕ) (t : Task) (old ts us : List Task) (s u : Interior) (total : Out (Unit {0})) → i < 18446744073709551615 → old ≡ t ∷ ts → perform t ts s ≡ (Ok us, u) → run (patience - i) old s ≡ total → run (patience - (i + 1)) us u ≡ total
goes_on i t old ts us s u total less is h so_far =
    let below : i < patience = subst (λ (n : ℕ). i < n) (sym patience_is) less in
    sym (step i t ts us s u below h) ∙ ap (λ (ks : List Task). run (patience - i) ks s) (sym is) ∙ so_far

ended : (i : ℕ) (t : Task) (ts : List Task) (s u : Interior) (e : Stop) → i < patience → Unless e (perform t ts s ≡ (Err e, u)) → Unless e (run (patience - i) (t ∷ ts) s ≡ (Err e, u))
unfolding run next ◌>>=◌
ended i t ts s u e less h = rw (one_less patience i less) (ends e u (perform t ts s) (run (patience - (i + 1))) h)

pub stops : (i : ℕ) (t : Task) (old ts : List Task) (s u : Interior) (e : Stop) (total : Out (Unit {0})) → i < 18446744073709551615 → old ≡ t ∷ ts → Unless e (perform t ts s ≡ (Err e, u)) → run (patience - i) old s ≡ total → Unless e (total ≡ (Err e, u))
stops i t old ts s u e total less is h so_far =
    let below : i < patience = subst (λ (n : ℕ). i < n) (sym patience_is) less in
    subst (λ (o : Out (Unit {0})). Unless e (o ≡ (Err e, u))) so_far (subst (λ (ks : List Task). Unless e (run (patience - i) ks s ≡ (Err e, u))) (sym is) (ended i t ts s u e below h))

pub is_done : (i : ℕ) (old : List Task) (s : Interior) (total : Out (Unit {0})) → i < 18446744073709551615 → old ≡ [] → run (patience - i) old s ≡ total → total ≡ (Ok tt, s)
unfolding run next give
is_done i old s total less is so_far =
    let below : i < patience = subst (λ (n : ℕ). i < n) (sym patience_is) less in
    sym so_far ∙ ap (λ (ks : List Task). run (patience - i) ks s) is ∙ ap (λ (n : ℕ). run n [] s) (one_less patience i below)
