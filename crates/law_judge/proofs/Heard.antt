-- What an operation may say is heard.
use Rattle.std.proofs.Common.{◌≡◌, ℕ, zero, suc, ◌<◌, Bool, true, false, not, nat_lt, ◌==◌, List, [], ◌∷◌, ◌++◌, map, length, slice_get, option_map, Option, Some, None, refl, ap, subst, sym, ◌∙◌, arith, append_assoc}
use Rattle.std.proofs.lemmas.Bool.{eqb-true, ltb-true}
use Rattle.std.proofs.lemmas.List.{length-map, map_push}
use Rattle.std.proofs.lemmas.Option.{slice_get-map}
use Rattle.def_op.specs.Frames.{Described, Datum, ListOf, Broken, YourExport, YourAnswer, MyExport, MyPromise, Third, MyAnswer, Members, none, more, Outcome, To, Elsewhere, Operation, Deliver, Resolve, Provide, Accept, Shorten, DeliverOnly, IsOp, IsTarget, IsSubject}
use Rattle.def_machine.specs.Values.{Ref, key}
use Rattle.def_machine.specs.Values as value
use Rattle.def_machine.specs.State.{Delivery, Plain, AGift, Many, NoMore, More, Deliver as Delivers, Open, Ask, SettledTo, Elsewhere as IsElsewhere, Shorten as Shortens}
use Rattle.def_machine.specs.Arrive.{Incoming, Old, New}
use Rattle.def_run.specs.Connections.{Connection, Stage, Newcomers, Heard, Hearing, told, told_if, told_where, next, new_object, new_promise, object_heard, promise_heard, name_heard, fact_heard, reference_heard, gift_heard, learnt_at, passed_heard, all_heard, outcome_heard, message_heard, note_heard}
use Rattle.def_hostile.specs.Judge.{Counts, same_kind}
use Rattle.law_judge.specs.Points.{Gathering, then_gather, allowed, is_known_name, is_other, is_third, at_position, in_described, in_members, in_outcome, in_operation}
use Rattle.law_judge.proofs.Growing.{Begins, begins_through, same_gathered, allowed_by, allowed_then_by, gathered_by, all_grow, outcome_grows}

-- what stands behind others
behind_them : (xs rest : List Bool) (x : Bool) → slice_get ((xs ++ x ∷ []) ++ rest) (length xs) ≡ Some x
behind_them [] rest x = refl
behind_them (y ∷ xs) rest x = behind_them xs rest x

-- what is there
is_there : {A : Type 0} (xs : List A) (n : ℕ) → n < length xs → (x : A) × (slice_get xs n ≡ Some x)
is_there [] n lt = absurd (omega (arith, lt))
is_there (x ∷ xs) zero lt = (x, refl)
is_there (x ∷ xs) (suc n) lt = is_there xs n (omega (arith, lt))

module _ {N W : Type 0} (object : N → Bool) (me peer : ℕ) (F : Newcomers N W) (c : Connection N) (vats : ℕ) (final : List Bool) where
  -- the counts of the connection
  abbrev pub counted : Counts
  counted = record { exports = length c.exports; answers = length c.answers; questions = length c.questions; imports = map object c.imports }

  -- what is new is of the kind that its position has in the end
  abbrev pub Suits : Type 0
  Suits = ((p : ℕ) → slice_get (map object c.imports ++ final) p ≡ Some true → object (F.object p) ≡ true)
      × ((p k : ℕ) → slice_get (map object c.imports ++ final) p ≡ Some false → object (F.promise p k) ≡ false)

  -- the imports of a stage are those of before and the new ones
  abbrev pub Has : Stage N → List Bool → Type 0
  Has s new = map object s.imports ≡ map object c.imports ++ new

  abbrev pub HeardAs : {A : Type 0} → Option (Heard N A) → List Bool → Type 0
  HeardAs {A} o after = (h : Heard N A) × (o ≡ Some h) × Has h.after after

  abbrev pub Hears : {A : Type 0} → Gathering → Hearing N A → Type 0
  Hears f hear = (s : Stage N) (new after : List Bool) → Has s new → Begins after final → f new ≡ Some after → HeardAs (hear s) after

  -- one after the other
  nexts : {A B : Type 0} (g : A → Hearing N B) (o : Option (Heard N A)) (mid after : List Bool) → HeardAs o mid → ((x : A) (t : Stage N) → Has t mid → HeardAs (g x t) after) → HeardAs (next g o) after
  unfolding next
  nexts g o mid after h k = subst (λ o. HeardAs (next g o) after) (sym h.1) (k h.0.read h.0.after h.2)

  tells : {A : Type 0} (x : A) (s : Stage N) (after : List Bool) → Has s after → HeardAs (told x s) after
  unfolding told
  tells x s after h = (record { read = x; after = s }, refl, h)

  kept : (s : Stage N) (new after : List Bool) → Has s new → new ≡ after → Has s after
  kept s new after h e = h ∙ ap (λ (ks : List Bool). map object c.imports ++ ks) e

  -- ---- names

  there : {A : Type 0} (f : N → A) (ns : List N) (n : ℕ) → Hears (allowed (nat_lt n (length ns))) (told_if f (slice_get ns n))
  unfolding told_if
  there f ns n s new after has begins e =
      let by = allowed_by (nat_lt n (length ns)) new after e in
      let found = is_there ns n (ltb-true n (length ns) by.0) in
      subst (λ (o : Option N). HeardAs (told_if f o s) after) (sym found.1) (tells (f found.0) s after (kept s new after has by.1))

  -- what stands at a position of a stage
  at_stage : (s : Stage N) (new : List Bool) (n : ℕ) → Has s new → slice_get (map object c.imports ++ new) n ≡ option_map object (slice_get s.imports n)
  at_stage s new n has = sym (ap (λ (ks : List Bool). slice_get ks n) has) ∙ slice_get-map object s.imports n

  stage_length : (s : Stage N) (new : List Bool) → Has s new → length s.imports ≡ length (map object c.imports ++ new)
  stage_length s new has = sym (length-map s.imports object) ∙ ap length has

  -- one more import
  grown : (s : Stage N) (new after : List Bool) (n : N) (kind : Bool) → Has s new → object n ≡ kind → new ++ kind ∷ [] ≡ after → map object (s.imports ++ n ∷ []) ≡ map object c.imports ++ after
  grown s new after n kind has is e =
      map_push object s.imports n ∙ ap (λ (k : Bool). map object s.imports ++ k ∷ []) is ∙ ap (λ (ks : List Bool). ks ++ kind ∷ []) has
      ∙ append_assoc (map object c.imports) new (kind ∷ []) ∙ ap (λ (ks : List Bool). map object c.imports ++ ks) e

  -- the kind of the next position in the end
  in_the_end : (new after : List Bool) (kind : Bool) (p : ℕ) → p ≡ length (map object c.imports ++ new) → new ++ kind ∷ [] ≡ after → Begins after final → slice_get (map object c.imports ++ final) p ≡ Some kind
  in_the_end new after kind p is e begins =
      let all : map object c.imports ++ final ≡ ((map object c.imports ++ new) ++ kind ∷ []) ++ begins.0 =
      ap (λ (ks : List Bool). map object c.imports ++ ks) (begins.1 ∙ ap (λ (ks : List Bool). ks ++ begins.0) (sym e))
      ∙ sym (append_assoc (map object c.imports) (new ++ kind ∷ []) begins.0) ∙ ap (λ (ks : List Bool). ks ++ begins.0) (sym (append_assoc (map object c.imports) new (kind ∷ []))) in
      ap (λ (ks : List Bool). slice_get ks p) all ∙ ap (slice_get (((map object c.imports ++ new) ++ kind ∷ []) ++ begins.0)) is ∙ behind_them (map object c.imports ++ new) begins.0 kind

  object_known : (k : Bool) (n : N) (s : Stage N) (new after : List Bool) → Has s new → allowed (same_kind vats me peer counted k true) new ≡ Some after → HeardAs {A = Incoming N W} (told_where k (told (Old n)) s) after
  unfolding same_kind told_where
  object_known true n s new after has e = tells (Old n) s after (kept s new after has (allowed_by true new after e).1)
  object_known false n s new after has e = absurd (let f = (allowed_by false new after e).0 in cc)

  promise_known : (k : Bool) (n : N) (s : Stage N) (new after : List Bool) → Has s new → allowed (same_kind vats me peer counted k false) new ≡ Some after → HeardAs {A = Incoming N W} (elim k as (λ _. Option (Heard N (Incoming N W))) [ true ↦ None | false ↦ told (Old n) s ]) after
  unfolding same_kind
  promise_known false n s new after has e = tells (Old n) s after (kept s new after has (allowed_by true new after e).1)
  promise_known true n s new after has e = absurd (let f = (allowed_by false new after e).0 in cc)

  module _ (suits : Suits) where
    object_new : (p : ℕ) (s : Stage N) (new after : List Bool) → Has s new → Begins after final → allowed (p == length (map object c.imports ++ new)) (new ++ true ∷ []) ≡ Some after
        → HeardAs (told_where (p == length s.imports) (new_object object me peer F c p) s) after
    unfolding told_where new_object told
    object_new p s new after has begins e =
        let by = allowed_by (p == length (map object c.imports ++ new)) (new ++ true ∷ []) after e in
        let is : p ≡ length (map object c.imports ++ new) = eqb-true p (length (map object c.imports ++ new)) by.0 in
        let kind = suits.0 p (in_the_end new after true p is by.1 begins) in
        let goes : (p == length s.imports) ≡ true = ap (λ (n : ℕ). p == n) (stage_length s new has) ∙ by.0 in
        rw goes (record { read = Old (F.object p); after = record s { imports = s.imports ++ F.object p ∷ [] } }, refl, grown s new after (F.object p) true has kind by.1)

    promise_new : (p : ℕ) (s : Stage N) (new after : List Bool) → Has s new → Begins after final → allowed (p == length (map object c.imports ++ new)) (new ++ false ∷ []) ≡ Some after
        → HeardAs (told_where (p == length s.imports) (new_promise object me peer F c p) s) after
    unfolding told_where new_promise told
    promise_new p s new after has begins e =
        let by = allowed_by (p == length (map object c.imports ++ new)) (new ++ false ∷ []) after e in
        let is : p ≡ length (map object c.imports ++ new) = eqb-true p (length (map object c.imports ++ new)) by.0 in
        let kind = suits.1 p s.known (in_the_end new after false p is by.1 begins) in
        let goes : (p == length s.imports) ≡ true = ap (λ (n : ℕ). p == n) (stage_length s new has) ∙ by.0 in
        rw goes (record { read = New (F.exported p) peer; after = record s { imports = s.imports ++ F.promise p s.known ∷ []; known = suc s.known } }, refl, grown s new after (F.promise p s.known) false has kind by.1)

    object_at : (p : ℕ) (o : Option N) (s : Stage N) (new after : List Bool) → Has s new → Begins after final → at_position vats me peer counted true p (option_map object o) new ≡ Some after
        → HeardAs (object_heard object me peer F c p o s) after
    unfolding at_position object_heard
    object_at p (Some n) s new after has begins e = object_known (object n) n s new after has e
    object_at p None s new after has begins e = object_new p s new after has begins e

    promise_at : (p : ℕ) (o : Option N) (s : Stage N) (new after : List Bool) → Has s new → Begins after final → at_position vats me peer counted false p (option_map object o) new ≡ Some after
        → HeardAs (promise_heard object me peer F c p o s) after
    unfolding at_position promise_heard
    promise_at p (Some n) s new after has begins e = promise_known (object n) n s new after has e
    promise_at p None s new after has begins e = promise_new p s new after has begins e

    export_hears : (p : ℕ) → Hears (in_described vats me peer counted (MyExport p)) (name_heard object me peer F c (MyExport p))
    unfolding in_described name_heard
    export_hears p s new after has begins e =
        object_at p (slice_get s.imports p) s new after has begins (ap (λ (o : Option Bool). at_position vats me peer counted true p o new) (sym (at_stage s new p has)) ∙ e)

    promise_hears : (p : ℕ) → Hears (in_described vats me peer counted (MyPromise p)) (name_heard object me peer F c (MyPromise p))
    unfolding in_described name_heard
    promise_hears p s new after has begins e =
        promise_at p (slice_get s.imports p) s new after has begins (ap (λ (o : Option Bool). at_position vats me peer counted false p o new) (sym (at_stage s new p has)) ∙ e)

    -- ---- names that are there

    your_export_hears : (n : ℕ) → Hears (in_described vats me peer counted (YourExport n)) (name_heard object me peer F c (YourExport n))
    unfolding in_described name_heard
    your_export_hears n s new after has begins e = there Old c.exports n s new after has begins e

    your_answer_hears : (n : ℕ) → Hears (in_described vats me peer counted (YourAnswer n)) (name_heard object me peer F c (YourAnswer n))
    unfolding in_described name_heard
    your_answer_hears n s new after has begins e = there Old c.answers n s new after has begins e

    my_answer_hears : (n : ℕ) → Hears (in_described vats me peer counted (MyAnswer n)) (name_heard object me peer F c (MyAnswer n))
    unfolding in_described name_heard
    my_answer_hears n s new after has begins e = there Old c.questions n s new after has begins e

    target_hears : (d : Described) → IsTarget d → Hears (in_described vats me peer counted d) (name_heard object me peer F c d)
    unfolding IsTarget
    target_hears (YourExport n) is s new after has begins e = your_export_hears n s new after has begins e
    target_hears (YourAnswer n) is s new after has begins e = your_answer_hears n s new after has begins e
    target_hears (Datum p) is s new after has begins e = absurd is
    target_hears (ListOf ds) is s new after has begins e = absurd is
    target_hears (Broken t) is s new after has begins e = absurd is
    target_hears (MyExport n) is s new after has begins e = absurd is
    target_hears (MyPromise n) is s new after has begins e = absurd is
    target_hears (Third h w) is s new after has begins e = absurd is
    target_hears (MyAnswer n) is s new after has begins e = absurd is

    subject_hears : (d : Described) → IsSubject d → Hears (in_described vats me peer counted d) (name_heard object me peer F c d)
    unfolding IsSubject
    subject_hears (MyPromise n) is s new after has begins e = promise_hears n s new after has begins e
    subject_hears (MyAnswer n) is s new after has begins e = my_answer_hears n s new after has begins e
    subject_hears (Datum p) is s new after has begins e = absurd is
    subject_hears (ListOf ds) is s new after has begins e = absurd is
    subject_hears (Broken t) is s new after has begins e = absurd is
    subject_hears (YourExport n) is s new after has begins e = absurd is
    subject_hears (YourAnswer n) is s new after has begins e = absurd is
    subject_hears (MyExport n) is s new after has begins e = absurd is
    subject_hears (Third h w) is s new after has begins e = absurd is

    -- ---- values

    -- a name as a value
    referred : (o : Option (Heard N (Incoming N W))) (after : List Bool) → HeardAs o after → HeardAs (next (reference_heard object me peer F c) o) after
    unfolding reference_heard
    referred o after h = nexts (reference_heard object me peer F c) o after after h (λ x t g. tells (Plain (Ref x)) t after g)

    gift_hears : (h i : ℕ) (o : Option N) (s : Stage N) (after : List Bool) → Has s after → HeardAs (gift_heard object me peer F c h i o s) after
    unfolding gift_heard told
    gift_hears h i (Some n) s after has = (record { read = Plain (Ref (Old n)); after = s }, refl, has)
    gift_hears h i None s after has = (record { read = AGift h i; after = record s { learnt = s.learnt ++ record { host = h; number = i; name = F.gift h i s.known } ∷ []; known = suc s.known } }, refl, has)

    mutual
      unfolding in_described passed_heard

      passed_hears : (d : Described) → Hears (in_described vats me peer counted d) (passed_heard object me peer F c d)
      passed_hears (Datum p) s new after has begins e = tells (Plain (fact_heard object me peer F c p)) s after (kept s new after has (same_gathered new after e))
      passed_hears (ListOf ds) s new after has begins e = nexts (λ ys. told (Many ys)) (all_heard object me peer F c ds s) after after (all_hear ds s new after has begins e) (λ ys t g. tells (Many ys) t after g)
      passed_hears (Broken p) s new after has begins e = tells (Plain (value.Broken p)) s after (kept s new after has (same_gathered new after e))
      passed_hears (YourExport n) s new after has begins e = referred (name_heard object me peer F c (YourExport n) s) after (your_export_hears n s new after has begins e)
      passed_hears (YourAnswer n) s new after has begins e = referred (name_heard object me peer F c (YourAnswer n) s) after (your_answer_hears n s new after has begins e)
      passed_hears (MyExport n) s new after has begins e = referred (name_heard object me peer F c (MyExport n) s) after (export_hears n s new after has begins e)
      passed_hears (MyPromise n) s new after has begins e = referred (name_heard object me peer F c (MyPromise n) s) after (promise_hears n s new after has begins e)
      passed_hears (Third h w) s new after has begins e = gift_hears h (key peer w) (learnt_at h (key peer w) s.learnt) s after (kept s new after has (allowed_by (is_third vats me peer counted h) new after e).1)
      passed_hears (MyAnswer n) s new after has begins e = referred (name_heard object me peer F c (MyAnswer n) s) after (my_answer_hears n s new after has begins e)

      all_hear : (ds : Members) → Hears (in_members vats me peer counted ds) (all_heard object me peer F c ds)
      all_hear none s new after has begins e = tells NoMore s after (kept s new after has (same_gathered new after e))
      all_hear (more d ds) s new after has begins e =
          let parts = gathered_by (in_members vats me peer counted ds) (in_described vats me peer counted d new) after e in
          nexts (λ y t. next (λ ys. told (More y ys)) (all_heard object me peer F c ds t)) (passed_heard object me peer F c d s) parts.0 after
          (passed_hears d s new parts.0 has (begins_through parts.0 after final (all_grow vats me peer counted ds parts.0 after parts.2) begins) parts.1)
          (λ y t g. nexts (λ ys. told (More y ys)) (all_heard object me peer F c ds t) after after (all_hear ds t parts.0 after g begins parts.2) (λ ys u k. tells (More y ys) u after k))

    -- ---- notes

    outcome_hears : (x : Incoming N W) (to : Outcome) → Hears (in_outcome vats me peer counted to) (outcome_heard object me peer F c x to)
    unfolding in_outcome outcome_heard
    outcome_hears x (To d) s new after has begins e =
        let by = allowed_then_by (not (is_known_name d)) (in_described vats me peer counted d) new after e in
        nexts (λ y. told (SettledTo x y)) (passed_heard object me peer F c d s) after after (passed_hears d s new after has begins by.1) (λ y t g. tells (SettledTo x y) t after g)
    outcome_hears x (Elsewhere h) s new after has begins e = tells (IsElsewhere x h) s after (kept s new after has (allowed_by (is_other vats me peer counted h) new after e).1)

    message_hears : (asks : Bool) (d : Described) (verb : List ℕ) (ds : Members) → IsTarget d
        → Hears (λ new. then_gather (in_members vats me peer counted ds) (in_described vats me peer counted d new)) (message_heard object me peer F c asks d verb ds)
    unfolding message_heard
    message_hears asks d verb ds is s new after has begins e =
        let parts = gathered_by (in_members vats me peer counted ds) (in_described vats me peer counted d new) after e in
        let said : Delivery (Incoming N W) = record { message = New F.message peer; asks = asks; answer = None } in
        nexts (λ x t. next (λ ys. told (Delivers said x verb ys)) (all_heard object me peer F c ds t)) (name_heard object me peer F c d s) parts.0 after
        (target_hears d is s new parts.0 has (begins_through parts.0 after final (all_grow vats me peer counted ds parts.0 after parts.2) begins) parts.1)
        (λ x t g. nexts (λ ys. told (Delivers said x verb ys)) (all_heard object me peer F c ds t) after after (all_hear ds t parts.0 after g begins parts.2) (λ ys u k. tells (Delivers said x verb ys) u after k))

    pub note_hears : (op : Operation) → IsOp op → Hears (in_operation vats me peer counted op) (note_heard object me peer F c op)
    unfolding in_operation note_heard IsOp told_where
    note_hears (Deliver q d verb ds) is s new after has begins e =
        let by = allowed_then_by (q == length c.answers) (λ m. then_gather (in_members vats me peer counted ds) (in_described vats me peer counted d m)) new after e in
        rw by.0 (message_hears true d verb ds is.1 s new after has begins by.1)
    note_hears (DeliverOnly d verb ds) is s new after has begins e = message_hears false d verb ds is.0 s new after has begins e
    note_hears (Provide d w) is s new after has begins e =
        nexts (λ x. told (Open (key peer w) x)) (name_heard object me peer F c d s) after after (target_hears d is.0 s new after has begins e) (λ x t g. tells (Open (key peer w) x) t after g)
    note_hears (Accept q p w) is s new after has begins e =
        let by = allowed_then_by (q == length c.answers) (allowed (is_third vats me peer counted p)) new after e in
        rw by.0 (tells (Ask p (key p w) (New (F.asked q) me)) s after (kept s new after has (allowed_by (is_third vats me peer counted p) new after by.1).1))
    note_hears (Resolve d o) is s new after has begins e =
        let parts = gathered_by (in_outcome vats me peer counted o) (in_described vats me peer counted d new) after e in
        nexts (λ x. outcome_heard object me peer F c x o) (name_heard object me peer F c d s) parts.0 after
        (subject_hears d is.0 s new parts.0 has (begins_through parts.0 after final (outcome_grows vats me peer counted o parts.0 after parts.2) begins) parts.1)
        (λ x t g. outcome_hears x o t parts.0 after g begins parts.2)
    note_hears (Shorten d w) is s new after has begins e =
        nexts (λ x. told (Shortens x peer (key me w))) (name_heard object me peer F c d s) after after (target_hears d is.0 s new after has begins e) (λ x t g. tells (Shortens x peer (key me w)) t after g)
