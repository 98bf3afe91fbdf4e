-- A frame is read alike by two kinds of names, of which a function leads from one to the other.
use Rattle.std.proofs.Common.{◌≡◌, ℕ, suc, Bool, true, false, List, [], ◌∷◌, ◌++◌, Option, Some, None, refl, sym, ap, ◌∙◌, map, length, ◌==◌}
use Rattle.std.specs.Prelude.{slice_get, option_map}
use Rattle.std.proofs.lemmas.Option.{slice_get-map}
use Rattle.def_op.specs.Frames as op
use Rattle.def_op.specs.declared.op.Plain.TheVariants as plain
use Rattle.def_op.specs.declared.op.Plain.{Plain as Fact}
use Rattle.def_op.specs.Frames.{Described, Members, Outcome, Operation}
use Rattle.def_machine.specs.Values.{Broken, key}
use Rattle.def_machine.specs.State.{Passed, Passeds, Plain, Many, NoMore, More, Note, Delivery, Deliver, Open, Ask, SettledTo, Elsewhere, Shorten}
use Rattle.def_machine.specs.Arrive.{Incoming, Old, New}
use Rattle.def_run.specs.Connections as read
use Rattle.def_run.specs.Connections.{Connection, Learnt, Stage, Newcomers, Heard, Hearing}
use Rattle.def_machine.specs.Maps as maps
use Rattle.def_machine.specs.Maps.{incoming}
use Rattle.law_frame.specs.Frame.Together.{changed_tables, changed_gift, changed_stage, changed_heard, changed_newcomers, GoTogether, ReadingsGoTogether}

module _ {N M W V : Type 0} (f : N → M) (g : W → V) (object : N → Bool) (other : M → Bool) (me peer : ℕ) (F : Newcomers N W) (alike : (n : N) → other (f n) ≡ object n) (c : Connection N) where
  abbrev G : Newcomers M V
  G = changed_newcomers f g F

  abbrev d : Connection M
  d = changed_tables f c

  abbrev On : Stage N → Stage M
  On s = changed_stage f s

  -- what is heard there is what is heard here, changed
  abbrev Alike : {A B : Type 0} → (A → B) → Option (Heard M B) → Option (Heard N A) → Type 0
  Alike r o i = o ≡ option_map (changed_heard f r) i

  next_alike : {A B C D : Type 0} (q : A → B) (r : C → D) (h : B → Hearing M D) (k : A → Hearing N C) (o : Option (Heard M B)) (i : Option (Heard N A)) → Alike q o i → ((x : A) (s : Stage N) → Alike r (h (q x) (On s)) (k x s)) → Alike r (read.next h o) (read.next k i)
  unfolding read.next
  next_alike q r h k o (Some j) e a = ap (read.next h) e ∙ a j.read j.after
  next_alike q r h k o None e a = ap (read.next h) e

  told_alike : {A B : Type 0} (r : A → B) (x : A) (s : Stage N) → Alike r (read.told (r x) (On s)) (read.told x s)
  unfolding read.told
  told_alike r x s = refl

  where_alike : {A B : Type 0} (r : A → B) (a b : Bool) (h : Hearing M B) (k : Hearing N A) (s : Stage N) → a ≡ b → Alike r (h (On s)) (k s) → Alike r (read.told_where a h (On s)) (read.told_where b k s)
  unfolding read.told_where
  where_alike r a true h k s e l = ap (λ z. read.told_where z h (On s)) e ∙ l
  where_alike r a false h k s e l = ap (λ z. read.told_where z h (On s)) e

  abbrev In : Incoming N W → Incoming M V
  In = incoming f g

  if_alike : (o : Option N) (p : Option M) (s : Stage N) → p ≡ option_map f o → Alike In (read.told_if Old p (On s)) (read.told_if Old o s)
  unfolding read.told_if
  if_alike (Some n) p s e = ap (λ z. read.told_if Old z (On s)) e ∙ told_alike In (Old n) s
  if_alike None p s e = ap (λ z. read.told_if Old z (On s)) e

  map_end : {A B : Type 0} (h : A → B) (xs : List A) (x : A) → map h (xs ++ x ∷ []) ≡ map h xs ++ h x ∷ []
  map_end h [] x = refl
  map_end h (y ∷ xs) x = ap (λ ys. h y ∷ ys) (map_end h xs x)

  map_length : {A B : Type 0} (h : A → B) (xs : List A) → length (map h xs) ≡ length xs
  map_length h [] = refl
  map_length h (x ∷ xs) = ap suc (map_length h xs)

  object_new : (p : ℕ) (s : Stage N) → Alike In (read.new_object other me peer G d p (On s)) (read.new_object object me peer F c p s)
  unfolding read.new_object read.told
  object_new p s = rw (map_end f s.imports (F.object p)) refl

  promise_new : (p : ℕ) (s : Stage N) → Alike In (read.new_promise other me peer G d p (On s)) (read.new_promise object me peer F c p s)
  unfolding read.new_promise read.told
  promise_new p s = rw (map_end f s.imports (F.promise p s.known)) refl

  object_alike : (p : ℕ) (o : Option M) (i : Option N) (s : Stage N) → o ≡ option_map f i → Alike In (read.object_heard other me peer G d p o (On s)) (read.object_heard object me peer F c p i s)
  unfolding read.object_heard
  object_alike p o (Some n) s e = ap (λ z. read.object_heard other me peer G d p z (On s)) e ∙ where_alike In (other (f n)) (object n) (read.told (Old (f n))) (read.told (Old n)) s (alike n) (told_alike In (Old n) s)
  object_alike p o None s e = ap (λ z. read.object_heard other me peer G d p z (On s)) e ∙ where_alike In (p == length (map f s.imports)) (p == length s.imports) (read.new_object other me peer G d p) (read.new_object object me peer F c p) s (ap (λ k. p == k) (map_length f s.imports)) (object_new p s)

  either_alike : (a b : Bool) (n : N) (s : Stage N) → a ≡ b → Alike In (elim a [ true ↦ None | false ↦ read.told (Old (f n)) (On s) ]) (elim b [ true ↦ None | false ↦ read.told (Old n) s ])
  either_alike true true n s e = refl
  either_alike false false n s e = told_alike In (Old n) s
  either_alike true false n s e = cc
  either_alike false true n s e = cc

  promise_alike : (p : ℕ) (o : Option M) (i : Option N) (s : Stage N) → o ≡ option_map f i → Alike In (read.promise_heard other me peer G d p o (On s)) (read.promise_heard object me peer F c p i s)
  unfolding read.promise_heard
  promise_alike p o (Some n) s e = ap (λ z. read.promise_heard other me peer G d p z (On s)) e ∙ either_alike (other (f n)) (object n) n s (alike n)
  promise_alike p o None s e = ap (λ z. read.promise_heard other me peer G d p z (On s)) e ∙ where_alike In (p == length (map f s.imports)) (p == length s.imports) (read.new_promise other me peer G d p) (read.new_promise object me peer F c p) s (ap (λ k. p == k) (map_length f s.imports)) (promise_new p s)

  name_alike : (x : Described) (s : Stage N) → Alike In (read.name_heard other me peer G d x (On s)) (read.name_heard object me peer F c x s)
  unfolding read.name_heard
  name_alike (op.MyExport p) s = object_alike p _ (slice_get s.imports p) s (slice_get-map f s.imports p)
  name_alike (op.MyPromise p) s = promise_alike p _ (slice_get s.imports p) s (slice_get-map f s.imports p)
  name_alike (op.YourExport p) s = if_alike (slice_get c.exports p) _ s (slice_get-map f c.exports p)
  name_alike (op.MyAnswer q) s = if_alike (slice_get c.questions q) _ s (slice_get-map f c.questions q)
  name_alike (op.YourAnswer q) s = if_alike (slice_get c.answers q) _ s (slice_get-map f c.answers q)
  name_alike other s = refl

  abbrev Ps : Passed (Incoming N W) → Passed (Incoming M V)
  Ps = maps.passed In

  one_reference : (y : Incoming N W) (t : Stage N) → Alike Ps (read.reference_heard other me peer G d (In y) (On t)) (read.reference_heard object me peer F c y t)
  unfolding read.reference_heard read.told
  one_reference y t = refl

  reference_alike : (x : Described) (s : Stage N) → Alike Ps (read.next (read.reference_heard other me peer G d) (read.name_heard other me peer G d x (On s))) (read.next (read.reference_heard object me peer F c) (read.name_heard object me peer F c x s))
  reference_alike x s = next_alike In Ps (read.reference_heard other me peer G d) (read.reference_heard object me peer F c) _ _ (name_alike x s) (λ y t. one_reference y t)

  gift_or : (a b : Bool) (n : N) (o : Option M) (i : Option N) → o ≡ option_map f i → ◌≡◌ {A = Option M} (elim a [ true ↦ elim b [ true ↦ Some (f n) | false ↦ o ] | false ↦ o ]) (option_map f (elim a [ true ↦ elim b [ true ↦ Some n | false ↦ i ] | false ↦ i ]))
  gift_or true true n o i e = refl
  gift_or true false n o i e = e
  gift_or false b n o i e = e

  learnt_alike : (h i : ℕ) (gs : List (Learnt N)) → read.learnt_at h i (map (changed_gift f) gs) ≡ option_map f (read.learnt_at h i gs)
  unfolding read.learnt_at
  learnt_alike h i [] = refl
  learnt_alike h i (x ∷ gs) = gift_or (x.host == h) (x.number == i) x.name (read.learnt_at h i (map (changed_gift f) gs)) (read.learnt_at h i gs) (learnt_alike h i gs)

  gift_new : (h i : ℕ) (s : Stage N) → Alike Ps (read.gift_heard other me peer G d h i None (On s)) (read.gift_heard object me peer F c h i None s)
  unfolding read.gift_heard read.told
  gift_new h i s = rw (map_end (changed_gift f) s.learnt (record { host = h; number = i; name = F.gift h i s.known })) refl

  gift_alike : (h i : ℕ) (o : Option M) (j : Option N) (s : Stage N) → o ≡ option_map f j → Alike Ps (read.gift_heard other me peer G d h i o (On s)) (read.gift_heard object me peer F c h i j s)
  unfolding read.gift_heard read.told
  gift_alike h i o (Some n) s e = ap (λ z. read.gift_heard other me peer G d h i z (On s)) e
  gift_alike h i o None s e = ap (λ z. read.gift_heard other me peer G d h i z (On s)) e ∙ gift_new h i s

  fact_alike : (x : Fact) → maps.value In (read.fact_heard object me peer F c x) ≡ read.fact_heard other me peer G d x
  unfolding read.fact_heard
  fact_alike plain.Null = refl
  fact_alike other = refl

  abbrev Pss : Passeds (Incoming N W) → Passeds (Incoming M V)
  Pss = maps.passeds In

  mutual
    unfolding read.passed_heard read.all_heard

    passed_alike : (x : Described) (s : Stage N) → Alike Ps (read.passed_heard other me peer G d x (On s)) (read.passed_heard object me peer F c x s)
    passed_alike (op.Datum x) s = ap (λ y. read.told (Plain y) (On s)) (sym (fact_alike x)) ∙ told_alike Ps (Plain (read.fact_heard object me peer F c x)) s
    passed_alike (op.Broken p) s = told_alike Ps (Plain (Broken p)) s
    passed_alike (op.ListOf ds) s = next_alike Pss Ps (λ ys. read.told (Many ys)) (λ ys. read.told (Many ys)) _ _ (all_alike ds s) (λ ys t. told_alike Ps (Many ys) t)
    passed_alike (op.Third h w) s = gift_alike h (key peer w) _ (read.learnt_at h (key peer w) s.learnt) s (learnt_alike h (key peer w) s.learnt)
    passed_alike (op.MyExport p) s = reference_alike (op.MyExport p) s
    passed_alike (op.MyPromise p) s = reference_alike (op.MyPromise p) s
    passed_alike (op.YourExport p) s = reference_alike (op.YourExport p) s
    passed_alike (op.MyAnswer q) s = reference_alike (op.MyAnswer q) s
    passed_alike (op.YourAnswer q) s = reference_alike (op.YourAnswer q) s

    all_alike : (xs : Members) (s : Stage N) → Alike Pss (read.all_heard other me peer G d xs (On s)) (read.all_heard object me peer F c xs s)
    all_alike op.none s = told_alike Pss NoMore s
    all_alike (op.more x xs) s = next_alike Ps Pss (λ y t. read.next (λ ys. read.told (More y ys)) (read.all_heard other me peer G d xs t)) (λ y t. read.next (λ ys. read.told (More y ys)) (read.all_heard object me peer F c xs t)) _ _ (passed_alike x s)
        (λ y t. next_alike Pss Pss (λ ys. read.told (More (Ps y) ys)) (λ ys. read.told (More y ys)) _ _ (all_alike xs t) (λ ys u. told_alike Pss (More y ys) u))

  abbrev Ns : Note (Incoming N W) → Note (Incoming M V)
  Ns = maps.note In

  outcome_alike : (x : Incoming N W) (o : Outcome) (s : Stage N) → Alike Ns (read.outcome_heard other me peer G d (In x) o (On s)) (read.outcome_heard object me peer F c x o s)
  unfolding read.outcome_heard
  outcome_alike x (op.To y) s = next_alike Ps Ns (λ z. read.told (SettledTo (In x) z)) (λ z. read.told (SettledTo x z)) _ _ (passed_alike y s) (λ z t. told_alike Ns (SettledTo x z) t)
  outcome_alike x (op.Elsewhere h) s = told_alike Ns (Elsewhere x h) s

  about : (x : Described) (r : Incoming M V → Note (Incoming M V)) (q : Incoming N W → Note (Incoming N W)) → ((y : Incoming N W) → r (In y) ≡ Ns (q y)) → (s : Stage N) → Alike Ns (read.next (λ y. read.told (r y)) (read.name_heard other me peer G d x (On s))) (read.next (λ y. read.told (q y)) (read.name_heard object me peer F c x s))
  about x r q e s = next_alike In Ns (λ y. read.told (r y)) (λ y. read.told (q y)) _ _ (name_alike x s) (λ y t. ap (λ z. read.told z (On t)) (e y) ∙ told_alike Ns (q y) t)

  abbrev There : Bool → Delivery (Incoming M V)
  There asks = record { message = New G.message peer; asks = asks; answer = None }

  abbrev Here : Bool → Delivery (Incoming N W)
  Here asks = record { message = New F.message peer; asks = asks; answer = None }

  message_alike : (asks : Bool) (x : Described) (verb : List ℕ) (xs : Members) (s : Stage N) → Alike Ns (read.message_heard other me peer G d asks x verb xs (On s)) (read.message_heard object me peer F c asks x verb xs s)
  unfolding read.message_heard
  message_alike asks x verb xs s = next_alike In Ns (λ y t. read.next (λ ys. read.told (Deliver (There asks) y verb ys)) (read.all_heard other me peer G d xs t)) (λ y t. read.next (λ ys. read.told (Deliver (Here asks) y verb ys)) (read.all_heard object me peer F c xs t)) _ _ (name_alike x s)
      (λ y t. next_alike Pss Ns (λ ys. read.told (Deliver (There asks) (In y) verb ys)) (λ ys. read.told (Deliver (Here asks) y verb ys)) _ _ (all_alike xs t) (λ ys u. told_alike Ns (Deliver (Here asks) y verb ys) u))

  pub note_alike : (o : Operation) (s : Stage N) → Alike Ns (read.note_heard other me peer G d o (On s)) (read.note_heard object me peer F c o s)
  unfolding read.note_heard
  note_alike (op.Deliver q x verb xs) s = where_alike Ns (q == length (map f c.answers)) (q == length c.answers) _ _ s (ap (λ k. q == k) (map_length f c.answers)) (message_alike true x verb xs s)
  note_alike (op.DeliverOnly x verb xs) s = message_alike false x verb xs s
  note_alike (op.Provide x w) s = about x (λ y. Open (key peer w) y) (λ y. Open (key peer w) y) (λ y. refl) s
  note_alike (op.Accept q p w) s = where_alike Ns (q == length (map f c.answers)) (q == length c.answers) _ _ s (ap (λ k. q == k) (map_length f c.answers)) (told_alike Ns (Ask p (key p w) (New (F.asked q) me)) s)
  note_alike (op.Resolve x o) s = next_alike In Ns (λ y. read.outcome_heard other me peer G d y o) (λ y. read.outcome_heard object me peer F c y o) _ _ (name_alike x s) (λ y t. outcome_alike y o t)
  note_alike (op.Shorten x w) s = about x (λ y. Shorten y peer (key me w)) (λ y. Shorten y peer (key me w)) (λ y. refl) s

pub go_together : {N M W V : Type 0} → GoTogether N M W V
go_together f g object other me peer F alike c s o = note_alike f g object other me peer F alike c o s

pub readings_go_together : ReadingsGoTogether
readings_go_together = (go_together, go_together)
