-- What is read moves no position.
use Rattle.std.proofs.Common.{ℕ, Bool, true, false, List, [], ◌∷◌, Option, Some, None, length, ◌==◌}
use Rattle.std.specs.Prelude.{slice_get}
use Rattle.def_op.specs.Frames as op
use Rattle.def_op.specs.Frames.{Described, Members, Outcome, Operation}
use Rattle.def_machine.specs.Values.{key}
use Rattle.def_machine.specs.State.{Many, More, Deliver, Shorten, Elsewhere}
use Rattle.def_machine.specs.Arrive.{Incoming, Old}
use Rattle.def_run.specs.Connections as read
use Rattle.def_run.specs.Connections.{Connection, Stage, Newcomers, Heard, Hearing}
use Rattle.law_frame.specs.Frame.Growing.{IsFront}
use Rattle.law_frame.proofs.Frame.Lists.{front_same, front_more, front_trans}

-- what was imported before is imported after
abbrev pub Later : {N A : Type 0} → List N → Option (Heard N A) → Type 0
Later is (Some h) = IsFront is h.after.imports
Later is None = Unit {0}

module _ {N : Type 0} where
  later_front : {A : Type 0} (is js : List N) (o : Option (Heard N A)) → IsFront is js → Later js o → Later is o
  later_front is js (Some h) e l = front_trans is js h.after.imports e l
  later_front is js None e l = tt

  told_later : {A : Type 0} (x : A) (s : Stage N) → Later s.imports (read.told x s)
  unfolding read.told
  told_later x s = front_same s.imports

  if_later : {A B : Type 0} (f : A → B) (o : Option A) (s : Stage N) → Later s.imports (read.told_if f o s)
  unfolding read.told_if
  if_later f (Some x) s = told_later (f x) s
  if_later f None s = tt

  where_later : {A : Type 0} (b : Bool) (f : Hearing N A) (s : Stage N) → Later s.imports (f s) → Later s.imports (read.told_where b f s)
  unfolding read.told_where
  where_later true f s l = l
  where_later false f s l = tt

  next_later : {A B : Type 0} (is : List N) (f : A → Hearing N B) (o : Option (Heard N A)) → Later is o → ((x : A) (s : Stage N) → Later s.imports (f x s)) → Later is (read.next f o)
  unfolding read.next
  next_later is f (Some h) l k = later_front is h.after.imports (f h.read h.after) l (k h.read h.after)
  next_later is f None l k = tt

  module _ {W : Type 0} (object : N → Bool) (me peer : ℕ) (F : Newcomers N W) (c : Connection N) where
    new_object_later : (p : ℕ) (s : Stage N) → Later s.imports (read.new_object object me peer F c p s)
    unfolding read.new_object read.told
    new_object_later p s = front_more s.imports (F.object p ∷ [])

    new_promise_later : (p : ℕ) (s : Stage N) → Later s.imports (read.new_promise object me peer F c p s)
    unfolding read.new_promise read.told
    new_promise_later p s = front_more s.imports (F.promise p s.known ∷ [])

    object_later : (p : ℕ) (o : Option N) (s : Stage N) → Later s.imports (read.object_heard object me peer F c p o s)
    unfolding read.object_heard
    object_later p (Some n) s = where_later (object n) (read.told (Old n)) s (told_later (Old n) s)
    object_later p None s = where_later (p == length s.imports) (read.new_object object me peer F c p) s (new_object_later p s)

    old_later : (b : Bool) (n : N) (s : Stage N) → Later {A = Incoming N W} s.imports (elim b [ true ↦ None | false ↦ read.told (Old n) s ])
    old_later true n s = tt
    old_later false n s = told_later (Old n) s

    promise_later : (p : ℕ) (o : Option N) (s : Stage N) → Later s.imports (read.promise_heard object me peer F c p o s)
    unfolding read.promise_heard
    promise_later p (Some n) s = old_later (object n) n s
    promise_later p None s = where_later (p == length s.imports) (read.new_promise object me peer F c p) s (new_promise_later p s)

    name_later : (d : Described) (s : Stage N) → Later s.imports (read.name_heard object me peer F c d s)
    unfolding read.name_heard
    name_later (op.MyExport p) s = object_later p (slice_get s.imports p) s
    name_later (op.MyPromise p) s = promise_later p (slice_get s.imports p) s
    name_later (op.YourExport p) s = if_later Old (slice_get c.exports p) s
    name_later (op.MyAnswer q) s = if_later Old (slice_get c.questions q) s
    name_later (op.YourAnswer q) s = if_later Old (slice_get c.answers q) s
    name_later other s = tt

    reference_later : (d : Described) (s : Stage N) → Later s.imports (read.next (read.reference_heard object me peer F c) (read.name_heard object me peer F c d s))
    unfolding read.reference_heard
    reference_later d s = next_later s.imports (read.reference_heard object me peer F c) (read.name_heard object me peer F c d s) (name_later d s) (λ x t. told_later _ t)

    gift_later : (h i : ℕ) (o : Option N) (s : Stage N) → Later s.imports (read.gift_heard object me peer F c h i o s)
    unfolding read.gift_heard read.told
    gift_later h i (Some n) s = front_same s.imports
    gift_later h i None s = front_same s.imports

    mutual
      unfolding read.passed_heard read.all_heard

      passed_later : (d : Described) (s : Stage N) → Later s.imports (read.passed_heard object me peer F c d s)
      passed_later (op.ListOf ds) s = next_later s.imports (λ ys. read.told (Many ys)) (read.all_heard object me peer F c ds s) (all_later ds s) (λ x t. told_later _ t)
      passed_later (op.Third h w) s = gift_later h (key peer w) (read.learnt_at h (key peer w) s.learnt) s
      passed_later (op.MyExport p) s = reference_later (op.MyExport p) s
      passed_later (op.MyPromise p) s = reference_later (op.MyPromise p) s
      passed_later (op.YourExport p) s = reference_later (op.YourExport p) s
      passed_later (op.MyAnswer q) s = reference_later (op.MyAnswer q) s
      passed_later (op.YourAnswer q) s = reference_later (op.YourAnswer q) s
      passed_later other s = told_later _ s

      all_later : (ds : Members) (s : Stage N) → Later s.imports (read.all_heard object me peer F c ds s)
      all_later op.none s = told_later _ s
      all_later (op.more d ds) s = next_later s.imports _ (read.passed_heard object me peer F c d s) (passed_later d s)
          (λ y t. next_later t.imports (λ ys. read.told (More y ys)) (read.all_heard object me peer F c ds t) (all_later ds t) (λ ys u. told_later _ u))

    outcome_later : (x : Incoming N W) (o : Outcome) (s : Stage N) → Later s.imports (read.outcome_heard object me peer F c x o s)
    unfolding read.outcome_heard
    outcome_later x (op.To d) s = next_later s.imports _ (read.passed_heard object me peer F c d s) (passed_later d s) (λ y t. told_later _ t)
    outcome_later x (op.Elsewhere h) s = told_later _ s

    message_later : (asks : Bool) (d : Described) (verb : List ℕ) (ds : Members) (s : Stage N) → Later s.imports (read.message_heard object me peer F c asks d verb ds s)
    unfolding read.message_heard
    message_later asks d verb ds s = next_later s.imports _ (read.name_heard object me peer F c d s) (name_later d s)
        (λ x t. next_later t.imports _ (read.all_heard object me peer F c ds t) (all_later ds t) (λ ys u. told_later _ u))

    pub note_later : (o : Operation) (s : Stage N) → Later s.imports (read.note_heard object me peer F c o s)
    unfolding read.note_heard
    note_later (op.Deliver q d verb ds) s = where_later (q == length c.answers) _ s (message_later true d verb ds s)
    note_later (op.DeliverOnly d verb ds) s = message_later false d verb ds s
    note_later (op.Provide d w) s = next_later s.imports _ (read.name_heard object me peer F c d s) (name_later d s) (λ x t. told_later _ t)
    note_later (op.Accept q p w) s = where_later (q == length c.answers) _ s (told_later _ s)
    note_later (op.Resolve d o) s = next_later s.imports _ (read.name_heard object me peer F c d s) (name_later d s) (λ x t. outcome_later x o t)
    note_later (op.Shorten d w) s = next_later s.imports _ (read.name_heard object me peer F c d s) (name_later d s) (λ x t. told_later _ t)
