-- What comes to be known by a frame that is heard in numbers: each new number stands at a new position, or is a gift that was learnt.
use Rattle.std.proofs.Common.{◌≡◌, ℕ, zero, suc, ◌≤◌, ◌<◌, Bool, true, false, List, [], ◌∷◌, ◌++◌, ◌⊎◌, inl, inr, Option, Some, None, refl, sym, ap, ◌∙◌, append_assoc, append-nil, length, arith, ◌==◌}
use Rattle.std.specs.Prelude.{slice_get}
use Rattle.def_op.specs.Frames as op
use Rattle.def_op.specs.Frames.{Described, Members, Outcome, Operation}
use Rattle.def_machine.specs.Values.{Words, Local, Prom, Far, key}
use Rattle.def_machine.specs.Arrive.{Incoming, Old}
use Rattle.def_run.specs.Connections as tables
use Rattle.def_run.specs.Connections.{Connection, Learnt, Stage, Heard, Hearing, told, told_if, told_where, next, learnt_at}
use Rattle.def_run.specs.Vats.{newcomers}
use Rattle.law_frame.specs.Local.Naming.{SomeOf}
use Rattle.law_frame.proofs.Local.Naming.{some_left, some_right}

abbrev pub Number : ℕ → Local → Type 0
Number k n = n ≡ Prom k

abbrev pub Named : ℕ → Learnt Local → Type 0
Named k g = g.name ≡ Prom k

-- from one stage to a later one: what is new stands at the end, and has each new number
pub record Grew (s t : Stage Local) : Type 0 where
  pub positions : List Local
  pub gifts : List (Learnt Local)
  pub imports : t.imports ≡ s.imports ++ positions
  pub learnt : t.learnt ≡ s.learnt ++ gifts
  pub more : s.known ≤ t.known
  pub each : (k : ℕ) → s.known ≤ k → k < t.known → SomeOf (Number k) positions ⊎ SomeOf (Named k) gifts

grew_same : (s : Stage Local) → Grew s s
grew_same s = record { positions = []; gifts = []; imports = sym (append-nil s.imports); learnt = sym (append-nil s.learnt); more = (omega arith); each = λ k a b. absurd (omega arith) }

below_or : (k n : ℕ) → (k < n) ⊎ (n ≤ k)
below_or k zero = inr (omega arith)
below_or zero (suc n) = inl (omega arith)
below_or (suc k) (suc n) = by (below_or k n)
  where
    by : (k < n) ⊎ (n ≤ k) → (suc k < suc n) ⊎ (suc n ≤ suc k)
    by (inl h) = inl (omega arith)
    by (inr h) = inr (omega arith)

grew_on : (s t u : Stage Local) → Grew s t → Grew t u → Grew s u
grew_on s t u h k = record {
  positions = h.positions ++ k.positions;
  gifts = h.gifts ++ k.gifts;
  imports = k.imports ∙ ap (λ xs. xs ++ k.positions) h.imports ∙ append_assoc s.imports h.positions k.positions;
  learnt = k.learnt ∙ ap (λ xs. xs ++ k.gifts) h.learnt ∙ append_assoc s.learnt h.gifts k.gifts;
  more = (let a = h.more in let b = k.more in omega arith);
  each = λ i a b. by i (below_or i t.known) a b;
}
  where
    first : (i : ℕ) → SomeOf (Number i) h.positions ⊎ SomeOf (Named i) h.gifts → SomeOf (Number i) (h.positions ++ k.positions) ⊎ SomeOf (Named i) (h.gifts ++ k.gifts)
    first i (inl a) = inl (some_left (Number i) h.positions k.positions a)
    first i (inr a) = inr (some_left (Named i) h.gifts k.gifts a)

    then : (i : ℕ) → SomeOf (Number i) k.positions ⊎ SomeOf (Named i) k.gifts → SomeOf (Number i) (h.positions ++ k.positions) ⊎ SomeOf (Named i) (h.gifts ++ k.gifts)
    then i (inl a) = inl (some_right (Number i) h.positions k.positions a)
    then i (inr a) = inr (some_right (Named i) h.gifts k.gifts a)

    by : (i : ℕ) → (i < t.known) ⊎ (t.known ≤ i) → s.known ≤ i → i < u.known → SomeOf (Number i) (h.positions ++ k.positions) ⊎ SomeOf (Named i) (h.gifts ++ k.gifts)
    by i (inl b) c d = first i (h.each i c b)
    by i (inr b) c d = then i (k.each i b d)

-- what was heard grew, if it was
abbrev pub Late : {A : Type 0} → Stage Local → Option (Heard Local A) → Type 0
Late s (Some h) = Grew s h.after
Late s None = Unit {0}

late_on : {A : Type 0} (s t : Stage Local) (o : Option (Heard Local A)) → Grew s t → Late t o → Late s o
late_on s t (Some h) g l = grew_on s t h.after g l
late_on s t None g l = tt

late_told : {A : Type 0} (x : A) (s : Stage Local) → Late s (told x s)
unfolding told
late_told x s = grew_same s

late_told_if : {A B : Type 0} (f : A → B) (o : Option A) (s : Stage Local) → Late s (told_if f o s)
unfolding told_if told
late_told_if f (Some x) s = grew_same s
late_told_if f None s = tt

late_next : {A B : Type 0} (f : A → Hearing Local B) (s : Stage Local) (o : Option (Heard Local A)) → Late s o → ((x : A) (t : Stage Local) → Late t (f x t)) → Late s (next f o)
unfolding next
late_next f s (Some h) l g = late_on s h.after (f h.read h.after) l (g h.read h.after)
late_next f s None l g = tt

late_where : {A : Type 0} (b : Bool) (f : Hearing Local A) (s : Stage Local) → Late s (f s) → Late s (told_where b f s)
unfolding told_where
late_where true f s l = l
late_where false f s l = tt

one_number : (k n : ℕ) → n ≤ k → k < suc n → n ≡ k
one_number k n a b = omega arith

module _ (object : Local → Bool) (me peer : ℕ) (c : Connection Local) where
  late_object : (p : ℕ) (s : Stage Local) → Late s (tables.new_object object me peer (newcomers peer) c p s)
  unfolding tables.new_object told newcomers
  late_object p s = record { positions = Far peer p ∷ []; gifts = []; imports = refl; learnt = sym (append-nil s.learnt); more = (omega arith); each = λ k a b. absurd (omega arith) }

  late_promise : (p : ℕ) (s : Stage Local) → Late s (tables.new_promise object me peer (newcomers peer) c p s)
  unfolding tables.new_promise told newcomers
  late_promise p s = record { positions = Prom s.known ∷ []; gifts = []; imports = refl; learnt = sym (append-nil s.learnt); more = (omega arith); each = λ k a b. inl (inl (ap Prom (one_number k s.known a b))) }

  late_object_heard : (p : ℕ) (o : Option Local) (s : Stage Local) → Late s (tables.object_heard object me peer (newcomers peer) c p o s)
  unfolding tables.object_heard
  late_object_heard p (Some n) s = late_where (object n) (told (Old n)) s (late_told (Old n) s)
  late_object_heard p None s = late_where (p == length s.imports) (tables.new_object object me peer (newcomers peer) c p) s (late_object p s)

  late_either : (b : Bool) (n : Local) (s : Stage Local) → Late {A = Incoming Local Local} s (elim b [ true ↦ None | false ↦ told (Old n) s ])
  late_either true n s = tt
  late_either false n s = late_told (Old n) s

  late_promise_heard : (p : ℕ) (o : Option Local) (s : Stage Local) → Late s (tables.promise_heard object me peer (newcomers peer) c p o s)
  unfolding tables.promise_heard
  late_promise_heard p (Some n) s = late_either (object n) n s
  late_promise_heard p None s = late_where (p == length s.imports) (tables.new_promise object me peer (newcomers peer) c p) s (late_promise p s)

  late_name : (d : Described) (s : Stage Local) → Late s (tables.name_heard object me peer (newcomers peer) c d s)
  unfolding tables.name_heard
  late_name (op.MyExport p) s = late_object_heard p (slice_get s.imports p) s
  late_name (op.MyPromise p) s = late_promise_heard p (slice_get s.imports p) s
  late_name (op.YourExport p) s = late_told_if Old (slice_get c.exports p) s
  late_name (op.MyAnswer q) s = late_told_if Old (slice_get c.questions q) s
  late_name (op.YourAnswer q) s = late_told_if Old (slice_get c.answers q) s
  late_name other s = tt

  late_gift : (h i : ℕ) (o : Option Local) (s : Stage Local) → Late s (tables.gift_heard object me peer (newcomers peer) c h i o s)
  unfolding tables.gift_heard told newcomers
  late_gift h i (Some n) s = grew_same s
  late_gift h i None s = record { positions = []; gifts = record { host = h; number = i; name = Prom s.known } ∷ []; imports = sym (append-nil s.imports); learnt = refl; more = (omega arith); each = λ k a b. inr (inl (ap Prom (one_number k s.known a b))) }

  late_reference : (d : Described) (s : Stage Local) → Late s (next (tables.reference_heard object me peer (newcomers peer) c) (tables.name_heard object me peer (newcomers peer) c d s))
  unfolding tables.reference_heard
  late_reference d s = late_next (tables.reference_heard object me peer (newcomers peer) c) s (tables.name_heard object me peer (newcomers peer) c d s) (late_name d s) (λ x t. late_told _ t)

  mutual
    unfolding tables.passed_heard tables.all_heard

    late_passed : (d : Described) (s : Stage Local) → Late s (tables.passed_heard object me peer (newcomers peer) c d s)
    late_passed (op.ListOf ds) s = late_next _ s (tables.all_heard object me peer (newcomers peer) c ds s) (late_all ds s) (λ x t. late_told _ t)
    late_passed (op.Third h w) s = late_gift h (key peer w) (learnt_at h (key peer w) s.learnt) s
    late_passed (op.MyExport p) s = late_reference (op.MyExport p) s
    late_passed (op.MyPromise p) s = late_reference (op.MyPromise p) s
    late_passed (op.YourExport p) s = late_reference (op.YourExport p) s
    late_passed (op.MyAnswer q) s = late_reference (op.MyAnswer q) s
    late_passed (op.YourAnswer q) s = late_reference (op.YourAnswer q) s
    late_passed other s = late_told _ s

    late_all : (ds : Members) (s : Stage Local) → Late s (tables.all_heard object me peer (newcomers peer) c ds s)
    late_all op.none s = late_told _ s
    late_all (op.more d ds) s = late_next _ s (tables.passed_heard object me peer (newcomers peer) c d s) (late_passed d s) (λ y t. late_next _ t (tables.all_heard object me peer (newcomers peer) c ds t) (late_all ds t) (λ ys z. late_told _ z))

  late_outcome : (x : Incoming Local Local) (o : Outcome) (s : Stage Local) → Late s (tables.outcome_heard object me peer (newcomers peer) c x o s)
  unfolding tables.outcome_heard
  late_outcome x (op.To d) s = late_next _ s (tables.passed_heard object me peer (newcomers peer) c d s) (late_passed d s) (λ y t. late_told _ t)
  late_outcome x (op.Elsewhere h) s = late_told _ s

  late_message : (asks : Bool) (d : Described) (verb : Words) (ds : Members) (s : Stage Local) → Late s (tables.message_heard object me peer (newcomers peer) c asks d verb ds s)
  unfolding tables.message_heard
  late_message asks d verb ds s = late_next _ s (tables.name_heard object me peer (newcomers peer) c d s) (late_name d s) (λ x t. late_next _ t (tables.all_heard object me peer (newcomers peer) c ds t) (late_all ds t) (λ ys z. late_told _ z))

  pub late_note : (o : Operation) (s : Stage Local) → Late s (tables.note_heard object me peer (newcomers peer) c o s)
  unfolding tables.note_heard
  late_note (op.Deliver q d verb ds) s = late_where (q == length c.answers) (tables.message_heard object me peer (newcomers peer) c true d verb ds) s (late_message true d verb ds s)
  late_note (op.DeliverOnly d verb ds) s = late_message false d verb ds s
  late_note (op.Provide d w) s = late_next _ s (tables.name_heard object me peer (newcomers peer) c d s) (late_name d s) (λ x t. late_told _ t)
  late_note (op.Accept q p w) s = late_where (q == length c.answers) _ s (late_told _ s)
  late_note (op.Resolve d o) s = late_next _ s (tables.name_heard object me peer (newcomers peer) c d s) (late_name d s) (λ x t. late_outcome x o t)
  late_note (op.Shorten d w) s = late_next _ s (tables.name_heard object me peer (newcomers peer) c d s) (late_name d s) (λ x t. late_told _ t)
