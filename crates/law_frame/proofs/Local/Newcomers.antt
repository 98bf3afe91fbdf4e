-- Two readings of a frame by newcomers that agree on all that is told first are one.
use Rattle.std.proofs.Common.{◌≡◌, ℕ, suc, Bool, true, false, List, [], ◌∷◌, ◌++◌, Option, Some, None, refl, sym, ap, subst, ◌∙◌, length, ◌==◌}
use Rattle.std.specs.Prelude.{slice_get}
use Rattle.def_op.specs.Frames as op
use Rattle.def_op.specs.declared.op.Plain.TheVariants as plain
use Rattle.def_op.specs.declared.op.Plain.{Plain as Fact}
use Rattle.def_op.specs.Frames.{Described, Members, Outcome, Operation}
use Rattle.def_machine.specs.Values.{Value, Null, Flag, Number, Letter, Text, Prim, Broken, Ref, key}
use Rattle.def_machine.specs.State.{Passed, Passeds, Plain, AGift, Many, NoMore, More, Note, Delivery, Deliver, Open, Ask, SettledTo, Elsewhere, Shorten}
use Rattle.def_machine.specs.Arrive.{Incoming, Old, New}
use Rattle.def_run.specs.Connections as read
use Rattle.def_run.specs.Connections.{Connection, Learnt, Stage, Newcomers, Heard, Hearing}
use Rattle.def_machine.specs.Maps as maps
use Rattle.def_machine.specs.Maps.{incoming}
use Rattle.law_fate.specs.Name.Names.{AllOf}
use Rattle.law_fate.proofs.Name.Facts.{all_end}

-- ---- objects that are described by a position

module _ (P : ℕ → Type 0) where
  abbrev mutual
    -- each position that is said to be of an object fits
    pub Fits : Described → Type 0
    Fits (op.MyExport p) = P p
    Fits (op.ListOf ds) = AllFit ds
    Fits other = Unit {0}

    pub AllFit : Members → Type 0
    AllFit op.none = Unit {0}
    AllFit (op.more d ds) = Fits d × AllFit ds

  abbrev pub OutcomeFits : Outcome → Type 0
  OutcomeFits (op.To d) = Fits d
  OutcomeFits (op.Elsewhere h) = Unit {0}

  abbrev pub FrameFits : Operation → Type 0
  FrameFits (op.Deliver q d verb ds) = Fits d × AllFit ds
  FrameFits (op.DeliverOnly d verb ds) = Fits d × AllFit ds
  FrameFits (op.Provide d w) = Fits d
  FrameFits (op.Accept q p w) = Unit {0}
  FrameFits (op.Resolve d o) = Fits d × OutcomeFits o
  FrameFits (op.Shorten d w) = Fits d

-- ---- what is told first in a note, in order: X has the name of what is new, Y that of a gift

module _ {N V : Type 0} (X : V → N) (Y : ℕ → ℕ → N) where
  abbrev pub news_in : Incoming N V → List N
  news_in (Old n) = []
  news_in (New x h) = X x ∷ []

  abbrev pub news_value : Value (Incoming N V) → List N
  news_value (Ref x) = news_in x
  news_value other = []

  abbrev mutual
    pub news_passed : Passed (Incoming N V) → List N
    news_passed (Plain y) = news_value y
    news_passed (AGift h i) = Y h i ∷ []
    news_passed (Many ys) = news_all ys

    pub news_all : Passeds (Incoming N V) → List N
    news_all NoMore = []
    news_all (More y ys) = news_passed y ++ news_all ys

  -- what a note asks for is not told by it
  abbrev pub news_note : Note (Incoming N V) → List N
  news_note (Deliver d x verb ys) = news_in x ++ news_all ys
  news_note (Open i x) = news_in x
  news_note (Ask p i x) = []
  news_note (SettledTo x y) = news_in x ++ news_passed y
  news_note (Elsewhere x c) = news_in x
  news_note (Shorten x c i) = news_in x

-- the numbers from k on are those things, in order
abbrev pub NumberedFrom : {N : Type 0} → (ℕ → N) → ℕ → List N → Type 0
NumberedFrom K k [] = Unit {0}
NumberedFrom K k (x ∷ xs) = (K k ≡ x) × NumberedFrom K (suc k) xs

-- so many more
abbrev pub count_on : {A : Type 0} → ℕ → List A → ℕ
count_on k [] = k
count_on k (x ∷ xs) = count_on (suc k) xs

count_twice : {A : Type 0} (k : ℕ) (xs ys : List A) → count_on k (xs ++ ys) ≡ count_on (count_on k xs) ys
count_twice k [] ys = refl
count_twice k (x ∷ xs) ys = count_twice (suc k) xs ys

numbered_split : {N : Type 0} (K : ℕ → N) (k : ℕ) (xs ys : List N) → NumberedFrom K k (xs ++ ys) → NumberedFrom K k xs × NumberedFrom K (count_on k xs) ys
numbered_split K k [] ys h = (tt, h)
numbered_split K k (x ∷ xs) ys h = let r = numbered_split K (suc k) xs ys h.1 in ((h.0, r.0), r.1)

-- ---- two readings

-- One calls what comes to be known as number k so, K k, whatever it is, and objects at positions so, O p; the other goes by what it is.
module _ {N V : Type 0} (object : N → Bool) (me peer : ℕ) (O : ℕ → N) (K : ℕ → N) (B : ℕ → N) (X : V → N) (Y : ℕ → ℕ → N) (E Q : ℕ → V) (M : V) (c : Connection N) where
  abbrev F : Newcomers N (Unit {0})
  F = record { object = O; promise = λ p k. K k; gift = λ h i k. K k; exported = λ p. tt; asked = λ q. tt; message = tt }

  abbrev G : Newcomers N V
  G = record { object = B; promise = λ p k. X (E p); gift = λ h i k. Y h i; exported = E; asked = Q; message = M }

  abbrev Given : Learnt N → Type 0
  Given g = g.name ≡ Y g.host g.number

  abbrev Fit : ℕ → Type 0
  Fit p = O p ≡ B p

  -- what is heard by what things are, from that stage on, and what is heard by numbers
  pub record Alike {A C : Type 0} (r : A → C) (news : A → List N) (s : Stage N) (j : Heard N A) (o : Option (Heard N C)) : Type 0 where
    pub count : j.after.known ≡ count_on s.known (news j.read)
    pub same : NumberedFrom K s.known (news j.read) → o ≡ Some (record { read = r j.read; after = j.after })
    pub given : AllOf Given s.learnt → AllOf Given j.after.learnt

  abbrev pub AlikeIf : {A C : Type 0} → (A → C) → (A → List N) → Stage N → Option (Heard N A) → Option (Heard N C) → Type 0
  AlikeIf r news s (Some j) o = Alike r news s j o
  AlikeIf r news s None o = Unit {0}

  told_alike : {A C : Type 0} (r : A → C) (news : A → List N) (s : Stage N) (x : A) → news x ≡ [] → AlikeIf r news s (read.told x s) (read.told (r x) s)
  unfolding read.told
  told_alike r news s x e = record { count = ap (count_on s.known) (sym e); same = λ f. refl; given = λ a. a }

  where_alike : {A C : Type 0} (r : A → C) (news : A → List N) (s : Stage N) (b : Bool) (g : Hearing N A) (f : Hearing N C) → AlikeIf r news s (g s) (f s) → AlikeIf r news s (read.told_where b g s) (read.told_where b f s)
  unfolding read.told_where
  where_alike r news s true g f a = a
  where_alike r news s false g f a = tt

  next_one : {A C D L : Type 0} (r : A → C) (q : D → L) (news : A → List N) (all : D → List N) (k : A → D) (l : C → L) → ((x : A) → q (k x) ≡ l (r x)) → ((x : A) → all (k x) ≡ news x)
      → (s : Stage N) (i : Option (Heard N A)) (o : Option (Heard N C)) → AlikeIf r news s i o → AlikeIf q all s (read.next (λ x. read.told (k x)) i) (read.next (λ x. read.told (l x)) o)
  unfolding read.next read.told
  next_one r q news all k l e z s None o a = tt
  next_one r q news all k l e z s (Some j) o a = record {
    count = a.count ∙ ap (count_on s.known) (sym (z j.read));
    same = λ f. ap (read.next (λ x. read.told (l x))) (a.same (subst (NumberedFrom K s.known) (z j.read) f)) ∙ ap (λ w. Some (record { read = w; after = j.after })) (sym (e j.read));
    given = a.given;
  }

  module _ {A C H J D L : Type 0} (r : A → C) (t : H → J) (q : D → L) (news : A → List N) (more : H → List N) (all : D → List N) (k : A → H → D) (l : C → J → L)
      (e : (x : A) (y : H) → q (k x y) ≡ l (r x) (t y)) (z : (x : A) (y : H) → all (k x y) ≡ news x ++ more y) (I : Hearing N H) (P : Hearing N J) (then : (s : Stage N) → AlikeIf t more s (I s) (P s)) where
    abbrev Ours : C → Hearing N L
    Ours x = λ s. read.next (λ y. read.told (l x y)) (P s)

    last_two : (s : Stage N) (j : Heard N A) (o : Option (Heard N C)) → Alike r news s j o → (w : Option (Heard N H)) → AlikeIf t more j.after w (P j.after) → AlikeIf q all s (read.next (λ y. read.told (k j.read y)) w) (read.next Ours o)
    unfolding read.next read.told
    last_two s j o a None b = tt
    last_two s j o a (Some h) b = record {
      count = b.count ∙ ap (λ m. count_on m (more h.read)) a.count ∙ sym (count_twice s.known (news j.read) (more h.read)) ∙ ap (count_on s.known) (sym (z j.read h.read));
      same = λ f. let g = numbered_split K s.known (news j.read) (more h.read) (subst (NumberedFrom K s.known) (z j.read h.read) f) in
          ap (read.next Ours) (a.same g.0) ∙ ap (read.next (λ y. read.told (l (r j.read) y))) (b.same (subst (λ m. NumberedFrom K m (more h.read)) (sym a.count) g.1)) ∙ ap (λ w. Some (record { read = w; after = h.after })) (sym (e j.read h.read));
      given = λ y. b.given (a.given y);
    }

    next_two : (s : Stage N) (i : Option (Heard N A)) (o : Option (Heard N C)) → AlikeIf r news s i o → AlikeIf q all s (read.next (λ x t. read.next (λ y. read.told (k x y)) (I t)) i) (read.next Ours o)
    unfolding read.next
    next_two s None o a = tt
    next_two s (Some j) o a = last_two s j o a (I j.after) (then j.after)

  -- ---- names

  abbrev Bare : Incoming N V → Incoming N (Unit {0})
  Bare = incoming (λ n. n) (λ a. tt)

  abbrev In : Incoming N V → List N
  In = news_in X Y

  if_alike : (o : Option N) (s : Stage N) → AlikeIf Bare In s (read.told_if Old o s) (read.told_if Old o s)
  unfolding read.told_if
  if_alike (Some n) s = told_alike Bare In s (Old n) refl
  if_alike None s = tt

  object_new : (p : ℕ) (s : Stage N) → Fit p → AlikeIf Bare In s (read.new_object object me peer G c p s) (read.new_object object me peer F c p s)
  unfolding read.new_object read.told
  object_new p s e = record { count = refl; same = λ f. ap (λ (n : N). Some (record { read = Old n; after = record s { imports = s.imports ++ n ∷ [] } })) e; given = λ a. a }

  promise_new : (p : ℕ) (s : Stage N) → AlikeIf Bare In s (read.new_promise object me peer G c p s) (read.new_promise object me peer F c p s)
  unfolding read.new_promise read.told
  promise_new p s = record { count = refl; same = λ f. ap (λ (n : N). Some (record { read = New tt peer; after = record s { imports = s.imports ++ n ∷ []; known = suc s.known } })) f.0; given = λ a. a }

  object_alike : (p : ℕ) (o : Option N) (s : Stage N) → Fit p → AlikeIf Bare In s (read.object_heard object me peer G c p o s) (read.object_heard object me peer F c p o s)
  unfolding read.object_heard
  object_alike p (Some n) s e = where_alike Bare In s (object n) (read.told (Old n)) (read.told (Old n)) (told_alike Bare In s (Old n) refl)
  object_alike p None s e = where_alike Bare In s (p == length s.imports) (read.new_object object me peer G c p) (read.new_object object me peer F c p) (object_new p s e)

  either_alike : (b : Bool) (n : N) (s : Stage N) → AlikeIf Bare In s (elim b [ true ↦ None | false ↦ read.told (Old n) s ]) (elim b [ true ↦ None | false ↦ read.told (Old n) s ])
  either_alike true n s = tt
  either_alike false n s = told_alike Bare In s (Old n) refl

  promise_alike : (p : ℕ) (o : Option N) (s : Stage N) → AlikeIf Bare In s (read.promise_heard object me peer G c p o s) (read.promise_heard object me peer F c p o s)
  unfolding read.promise_heard
  promise_alike p (Some n) s = either_alike (object n) n s
  promise_alike p None s = where_alike Bare In s (p == length s.imports) (read.new_promise object me peer G c p) (read.new_promise object me peer F c p) (promise_new p s)

  name_alike : (d : Described) (s : Stage N) → Fits Fit d → AlikeIf Bare In s (read.name_heard object me peer G c d s) (read.name_heard object me peer F c d s)
  unfolding read.name_heard
  name_alike (op.MyExport p) s e = object_alike p (slice_get s.imports p) s e
  name_alike (op.MyPromise p) s e = promise_alike p (slice_get s.imports p) s
  name_alike (op.YourExport p) s e = if_alike (slice_get c.exports p) s
  name_alike (op.MyAnswer q) s e = if_alike (slice_get c.questions q) s
  name_alike (op.YourAnswer q) s e = if_alike (slice_get c.answers q) s
  name_alike other s e = tt

  -- ---- what passes

  abbrev BareOf : Passed (Incoming N V) → Passed (Incoming N (Unit {0}))
  BareOf = maps.passed Bare

  abbrev Of : Passed (Incoming N V) → List N
  Of = news_passed X Y

  reference_alike : (d : Described) (s : Stage N) → Fits Fit d → AlikeIf BareOf Of s (read.next (read.reference_heard object me peer G c) (read.name_heard object me peer G c d s)) (read.next (read.reference_heard object me peer F c) (read.name_heard object me peer F c d s))
  unfolding read.reference_heard
  reference_alike d s e = next_one Bare BareOf In Of (λ x. Plain (Ref x)) (λ x. Plain (Ref x)) (λ x. refl) (λ x. refl) s (read.name_heard object me peer G c d s) (read.name_heard object me peer F c d s) (name_alike d s e)

  gift_alike : (h i : ℕ) (o : Option N) (s : Stage N) → AlikeIf BareOf Of s (read.gift_heard object me peer G c h i o s) (read.gift_heard object me peer F c h i o s)
  unfolding read.gift_heard read.told
  gift_alike h i (Some n) s = record { count = refl; same = λ f. refl; given = λ a. a }
  gift_alike h i None s = record {
    count = refl;
    same = λ f. ap (λ (n : N). Some (record { read = AGift h i; after = record s { learnt = s.learnt ++ record { host = h; number = i; name = n } ∷ []; known = suc s.known } })) f.0;
    given = λ a. all_end Given s.learnt (record { host = h; number = i; name = Y h i }) a refl;
  }

  fact_alike : (x : Fact) (s : Stage N) → AlikeIf BareOf Of s (read.told (Plain (read.fact_heard object me peer G c x)) s) (read.told (Plain (read.fact_heard object me peer F c x)) s)
  unfolding read.fact_heard
  fact_alike plain.Null s = told_alike BareOf Of s (Plain Null) refl
  fact_alike (plain.Bool b) s = told_alike BareOf Of s (Plain (Flag b)) refl
  fact_alike (plain.Int z) s = told_alike BareOf Of s (Plain (Number z)) refl
  fact_alike (plain.Char x) s = told_alike BareOf Of s (Plain (Letter x)) refl
  fact_alike (plain.Text x) s = told_alike BareOf Of s (Plain (Text x)) refl
  fact_alike (plain.Prim n) s = told_alike BareOf Of s (Plain (Prim n)) refl

  abbrev BareAll : Passeds (Incoming N V) → Passeds (Incoming N (Unit {0}))
  BareAll = maps.passeds Bare

  abbrev OfAll : Passeds (Incoming N V) → List N
  OfAll = news_all X Y

  mutual
    unfolding read.passed_heard read.all_heard

    passed_alike : (d : Described) (s : Stage N) → Fits Fit d → AlikeIf BareOf Of s (read.passed_heard object me peer G c d s) (read.passed_heard object me peer F c d s)
    passed_alike (op.Datum x) s e = fact_alike x s
    passed_alike (op.Broken p) s e = told_alike BareOf Of s (Plain (Broken p)) refl
    passed_alike (op.ListOf ds) s e = next_one BareAll BareOf OfAll Of (λ ys. Many ys) (λ ys. Many ys) (λ ys. refl) (λ ys. refl) s (read.all_heard object me peer G c ds s) (read.all_heard object me peer F c ds s) (all_alike ds s e)
    passed_alike (op.Third h w) s e = gift_alike h (key peer w) (read.learnt_at h (key peer w) s.learnt) s
    passed_alike (op.MyExport p) s e = reference_alike (op.MyExport p) s e
    passed_alike (op.MyPromise p) s e = reference_alike (op.MyPromise p) s e
    passed_alike (op.YourExport p) s e = reference_alike (op.YourExport p) s e
    passed_alike (op.MyAnswer q) s e = reference_alike (op.MyAnswer q) s e
    passed_alike (op.YourAnswer q) s e = reference_alike (op.YourAnswer q) s e

    all_alike : (ds : Members) (s : Stage N) → AllFit Fit ds → AlikeIf BareAll OfAll s (read.all_heard object me peer G c ds s) (read.all_heard object me peer F c ds s)
    all_alike op.none s e = told_alike BareAll OfAll s NoMore refl
    all_alike (op.more d ds) s e = next_two BareOf BareAll BareAll Of OfAll OfAll (λ y ys. More y ys) (λ y ys. More y ys) (λ y ys. refl) (λ y ys. refl) (read.all_heard object me peer G c ds) (read.all_heard object me peer F c ds) (λ t. all_alike ds t e.1)
        s (read.passed_heard object me peer G c d s) (read.passed_heard object me peer F c d s) (passed_alike d s e.0)

  -- ---- a note

  abbrev BareNote : Note (Incoming N V) → Note (Incoming N (Unit {0}))
  BareNote = maps.note Bare

  abbrev OfNote : Note (Incoming N V) → List N
  OfNote = news_note X Y

  about : (d : Described) (k : Incoming N V → Note (Incoming N V)) (l : Incoming N (Unit {0}) → Note (Incoming N (Unit {0}))) → ((x : Incoming N V) → BareNote (k x) ≡ l (Bare x)) → ((x : Incoming N V) → OfNote (k x) ≡ In x) → (s : Stage N) → Fits Fit d
      → AlikeIf BareNote OfNote s (read.next (λ x. read.told (k x)) (read.name_heard object me peer G c d s)) (read.next (λ x. read.told (l x)) (read.name_heard object me peer F c d s))
  about d k l e z s f = next_one Bare BareNote In OfNote k l e z s (read.name_heard object me peer G c d s) (read.name_heard object me peer F c d s) (name_alike d s f)

  settled_alike : (d : Described) (o : Outcome) (s : Stage N) → Fits Fit d → OutcomeFits Fit o
      → AlikeIf BareNote OfNote s (read.next (λ x. read.outcome_heard object me peer G c x o) (read.name_heard object me peer G c d s)) (read.next (λ x. read.outcome_heard object me peer F c x o) (read.name_heard object me peer F c d s))
  unfolding read.outcome_heard
  settled_alike d (op.To y) s e f = next_two Bare BareOf BareNote In Of OfNote (λ x z. SettledTo x z) (λ x z. SettledTo x z) (λ x z. refl) (λ x z. refl) (read.passed_heard object me peer G c y) (read.passed_heard object me peer F c y) (λ t. passed_alike y t f)
      s (read.name_heard object me peer G c d s) (read.name_heard object me peer F c d s) (name_alike d s e)
  settled_alike d (op.Elsewhere h) s e f = about d (λ x. Elsewhere x h) (λ x. Elsewhere x h) (λ x. refl) (λ x. refl) s e

  abbrev Theirs : Bool → Delivery (Incoming N V)
  Theirs asks = record { message = New M peer; asks = asks; answer = None }

  abbrev Mine : Bool → Delivery (Incoming N (Unit {0}))
  Mine asks = record { message = New tt peer; asks = asks; answer = None }

  message_alike : (asks : Bool) (d : Described) (verb : List ℕ) (ds : Members) (s : Stage N) → Fits Fit d → AllFit Fit ds → AlikeIf BareNote OfNote s (read.message_heard object me peer G c asks d verb ds s) (read.message_heard object me peer F c asks d verb ds s)
  unfolding read.message_heard
  message_alike asks d verb ds s e f = next_two Bare BareAll BareNote In OfAll OfNote (λ x ys. Deliver (Theirs asks) x verb ys) (λ x ys. Deliver (Mine asks) x verb ys) (λ x ys. refl) (λ x ys. refl) (read.all_heard object me peer G c ds) (read.all_heard object me peer F c ds) (λ t. all_alike ds t f)
      s (read.name_heard object me peer G c d s) (read.name_heard object me peer F c d s) (name_alike d s e)

  pub note_alike : (o : Operation) (s : Stage N) → FrameFits Fit o → AlikeIf BareNote OfNote s (read.note_heard object me peer G c o s) (read.note_heard object me peer F c o s)
  unfolding read.note_heard
  note_alike (op.Deliver q d verb ds) s e = where_alike BareNote OfNote s (q == length c.answers) (read.message_heard object me peer G c true d verb ds) (read.message_heard object me peer F c true d verb ds) (message_alike true d verb ds s e.0 e.1)
  note_alike (op.DeliverOnly d verb ds) s e = message_alike false d verb ds s e.0 e.1
  note_alike (op.Provide d w) s e = about d (λ x. Open (key peer w) x) (λ x. Open (key peer w) x) (λ x. refl) (λ x. refl) s e
  note_alike (op.Accept q p w) s e = where_alike BareNote OfNote s (q == length c.answers) (read.told (Ask p (key p w) (New (Q q) me))) (read.told (Ask p (key p w) (New tt me))) (told_alike BareNote OfNote s (Ask p (key p w) (New (Q q) me)) refl)
  note_alike (op.Resolve d o) s e = settled_alike d o s e.0 e.1
  note_alike (op.Shorten d w) s e = about d (λ x. Shorten x peer (key me w)) (λ x. Shorten x peer (key me w)) (λ x. refl) (λ x. refl) s e
