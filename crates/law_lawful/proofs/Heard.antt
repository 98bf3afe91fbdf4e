-- What is heard in a frame names what stands in the tables of its receiver, or is new; and what comes to be imported is new.
use Rattle.std.proofs.Common.{◌≡◌, ℕ, zero, suc, Bool, true, false, List, [], ◌∷◌, Option, Some, None, refl, length}
use Rattle.std.specs.Prelude.{slice_get, ◌==◌}
use Rattle.def_op.specs.declared.op.Plain.{Plain as Fact}
use Rattle.def_op.specs.declared.op.Plain.TheVariants as plain
use Rattle.def_op.specs.Frames as op
use Rattle.def_op.specs.Frames.{Described, Members, Outcome, Operation}
use Rattle.def_machine.specs.Values.{Name, key}
use Rattle.def_machine.specs.State.{Passed, Passeds, Note, Deliver, Open, Ask, SettledTo, Elsewhere, Shorten}
use Rattle.def_machine.specs.Arrive.{Incoming, Old}
use Rattle.def_machine.specs.Maps as maps
use Rattle.def_run.specs.Connections as reading
use Rattle.def_run.specs.Connections.{Connection, Learnt, Stage, Newcomers, Heard, Hearing}
use Rattle.def_hostile.specs.Hostile.{name_in}
use Rattle.law_fate.specs.Name.Names.{Bit, Named, Drew, At, AllOf, ValueOk, PassedOk, PassedsOk}
use Rattle.law_fate.proofs.Name.Facts.{all_end}

pub all_at : {A : Type 0} (P : A → Type 0) (xs : List A) (i : ℕ) (x : A) → AllOf P xs → slice_get xs i ≡ Some x → P x
all_at P [] i x h e = cc
all_at P (y ∷ xs) zero x h e = let same : y ≡ x = cc in rw same at h.0
all_at P (y ∷ xs) (suc i) x h e = all_at P xs i x h.1 e

-- the words of the gifts in a description may be claimed
abbrev mutual
  pub DescClaims : (ℕ → Type 0) → Described → Type 0
  DescClaims Claim (op.Third h w) = Claim w
  DescClaims Claim (op.ListOf ds) = AllClaim Claim ds
  DescClaims Claim (op.Datum x) = Unit {0}
  DescClaims Claim (op.Broken t) = Unit {0}
  DescClaims Claim (op.YourExport p) = Unit {0}
  DescClaims Claim (op.YourAnswer p) = Unit {0}
  DescClaims Claim (op.MyExport p) = Unit {0}
  DescClaims Claim (op.MyPromise p) = Unit {0}
  DescClaims Claim (op.MyAnswer p) = Unit {0}

  pub AllClaim : (ℕ → Type 0) → Members → Type 0
  AllClaim Claim op.none = Unit {0}
  AllClaim Claim (op.more d ds) = DescClaims Claim d × AllClaim Claim ds

abbrev pub OutcomeClaims : (ℕ → Type 0) → Outcome → Type 0
OutcomeClaims Claim (op.To d) = DescClaims Claim d
OutcomeClaims Claim (op.Elsewhere h) = Unit {0}

-- so do the words of an operation
abbrev pub OpClaims : (ℕ → Type 0) → Operation → Type 0
OpClaims Claim (op.Deliver q d verb ds) = AllClaim Claim ds
OpClaims Claim (op.DeliverOnly d verb ds) = AllClaim Claim ds
OpClaims Claim (op.Resolve d o) = OutcomeClaims Claim o
OpClaims Claim (op.Provide d w) = Claim w
OpClaims Claim (op.Accept q p w) = Claim w
OpClaims Claim (op.Shorten d w) = Claim w

-- all that is imported once it is heard
abbrev pub ImportsFit : {T : Type 0} → (Name → Type 0) → Option (Heard Name T) → Type 0
ImportsFit B None = Unit {0}
ImportsFit B (Some h) = AllOf B h.after.imports

-- what a note says, by the operation that it was read from: A is so of the receiver's own names, B of the sender's, and Q of what passes
module _ (A B : Name → Type 0) (Q : Bit Name → Type 0) (me peer : ℕ) (message : Name) where
  abbrev pub About : Described → Name → Type 0
  About (op.YourExport p) n = A n
  About (op.YourAnswer p) n = A n
  About (op.MyExport p) n = B n
  About (op.MyPromise p) n = B n
  About (op.MyAnswer p) n = B n
  About (op.Datum x) n = ⊥
  About (op.ListOf ds) n = ⊥
  About (op.Broken t) n = ⊥
  About (op.Third h w) n = ⊥

  abbrev pub Sends : Described → Note Name → Type 0
  Sends d (Deliver e n verb ys) = (e.message ≡ message) × About d n × PassedsOk Q ys
  Sends d other = ⊥

  abbrev pub Provides : Described → ℕ → Note Name → Type 0
  Provides d w (Open i n) = (i ≡ key peer w) × About d n
  Provides d w other = ⊥

  abbrev pub Accepts : ℕ → ℕ → Note Name → Type 0
  Accepts p w (Ask p' i n) = i ≡ key p w
  Accepts p w other = ⊥

  abbrev pub Resolves : Described → Note Name → Type 0
  Resolves d (SettledTo n y) = About d n × PassedOk Q y
  Resolves d (Elsewhere n h) = About d n
  Resolves d other = ⊥

  abbrev pub Shortens : Described → ℕ → Note Name → Type 0
  Shortens d w (Shorten n h i) = About d n × (i ≡ key me w)
  Shortens d w other = ⊥

  abbrev pub SaysOf : Operation → Note Name → Type 0
  SaysOf (op.Deliver q d verb ds) n = Sends d n
  SaysOf (op.DeliverOnly d verb ds) n = Sends d n
  SaysOf (op.Provide d w) n = Provides d w n
  SaysOf (op.Accept q p w) n = Accepts p w n
  SaysOf (op.Resolve d o) n = Resolves d n
  SaysOf (op.Shorten d w) n = Shortens d w n

-- from vat peer at vat me, which has that connection: A is so of its own names there, B of the peer's, G of gifts that are told in the frame, and Q of what passes
module _ (Claim : ℕ → Type 0) (A B G : Name → Type 0) (Q : Bit Name → Type 0) (object : Name → Bool) (me peer : ℕ) (F : Newcomers Name Name) (c : Connection Name)
    (exports : AllOf A c.exports) (answers : AllOf A c.answers) (questions : AllOf B c.questions)
    (objects : (p : ℕ) → B (F.object p)) (promises : (p k : ℕ) → B (F.promise p k)) (exported : (p : ℕ) → B (F.exported p)) (gifts : (h w k : ℕ) → Claim w → G (F.gift h (key peer w) k))
    (mine : (n : Name) → A n → Q (Named n)) (theirs : (n : Name) → B n → Q (Named n)) (thirds : (n : Name) → G n → Q (Named n)) (vats : (h : ℕ) → Q (At h)) (words : (w : ℕ) → Claim w → Q (Drew (key peer w))) where
  abbrev pub StageFits : Stage Name → Type 0
  StageFits s = AllOf B s.imports × AllOf (λ (g : Learnt Name). G g.name) s.learnt

  abbrev pub HeardFits : {T : Type 0} → (T → Type 0) → Option (Heard Name T) → Type 0
  HeardFits R None = Unit {0}
  HeardFits R (Some h) = R h.read × StageFits h.after

  abbrev AboutHere : Described → Name → Type 0
  AboutHere = About A B Q me peer F.message

  abbrev SendsHere : Described → Note Name → Type 0
  SendsHere = Sends A B Q me peer F.message

  abbrev ProvidesHere : Described → ℕ → Note Name → Type 0
  ProvidesHere = Provides A B Q me peer F.message

  abbrev AcceptsHere : ℕ → ℕ → Note Name → Type 0
  AcceptsHere = Accepts A B Q me peer F.message

  abbrev ResolvesHere : Described → Note Name → Type 0
  ResolvesHere = Resolves A B Q me peer F.message

  abbrev ShortensHere : Described → ℕ → Note Name → Type 0
  ShortensHere = Shortens A B Q me peer F.message

  abbrev SaysOfHere : Operation → Note Name → Type 0
  SaysOfHere = SaysOf A B Q me peer F.message

  told_fits : {T : Type 0} (R : T → Type 0) (x : T) (s : Stage Name) → R x → StageFits s → HeardFits R (reading.told x s)
  unfolding reading.told
  told_fits R x s r h = (r, h)

  next_fits : {S T : Type 0} (P : S → Type 0) (R : T → Type 0) (f : S → Hearing Name T) (o : Option (Heard Name S)) → ((x : S) (s : Stage Name) → P x → StageFits s → HeardFits R (f x s)) → HeardFits P o → HeardFits R (reading.next f o)
  unfolding reading.next
  next_fits P R f None g h = tt
  next_fits P R f (Some x) g h = g x.read x.after h.0 h.1

  where_fits : {T : Type 0} (R : T → Type 0) (b : Bool) (f : Hearing Name T) (s : Stage Name) → HeardFits R (f s) → HeardFits R (reading.told_where b f s)
  unfolding reading.told_where
  where_fits R true f s h = h
  where_fits R false f s h = tt

  -- ---- names

  abbrev Incomes : (Name → Type 0) → Incoming Name Name → Type 0
  Incomes P x = P (name_in x)

  found_fits : (P : Name → Type 0) (ns : List Name) (p : ℕ) (o : Option Name) (s : Stage Name) → AllOf P ns → slice_get ns p ≡ o → StageFits s → HeardFits (Incomes P) (reading.told_if Old o s)
  unfolding reading.told_if reading.told name_in
  found_fits P ns p None s a e h = tt
  found_fits P ns p (Some n) s a e h = (all_at P ns p n a e, h)

  object_fits : (p : ℕ) (o : Option Name) (s : Stage Name) → slice_get s.imports p ≡ o → StageFits s → HeardFits (Incomes B) (reading.object_heard object me peer F c p o s)
  unfolding reading.object_heard reading.new_object reading.told name_in
  object_fits p (Some n) s e h = where_fits (Incomes B) (object n) _ s (all_at B s.imports p n h.0 e, h)
  object_fits p None s e h = where_fits (Incomes B) (p == length s.imports) _ s (objects p, (all_end B s.imports (F.object p) h.0 (objects p), h.1))

  kept_fits : (b : Bool) (n : Name) (s : Stage Name) → B n → StageFits s → HeardFits (Incomes B) (elim b as (λ _. Option (Heard Name (Incoming Name Name))) [ true ↦ None | false ↦ reading.told (Old n) s ])
  unfolding reading.told name_in
  kept_fits true n s r h = tt
  kept_fits false n s r h = (r, h)

  promise_fits : (p : ℕ) (o : Option Name) (s : Stage Name) → slice_get s.imports p ≡ o → StageFits s → HeardFits (Incomes B) (reading.promise_heard object me peer F c p o s)
  unfolding reading.promise_heard reading.new_promise reading.told name_in
  promise_fits p (Some n) s e h = kept_fits (object n) n s (all_at B s.imports p n h.0 e) h
  promise_fits p None s e h = where_fits (Incomes B) (p == length s.imports) _ s (exported p, (all_end B s.imports (F.promise p s.known) h.0 (promises p s.known), h.1))

  name_fits : (d : Described) (s : Stage Name) → StageFits s → HeardFits (Incomes (AboutHere d)) (reading.name_heard object me peer F c d s)
  unfolding reading.name_heard
  name_fits (op.MyExport p) s h = object_fits p (slice_get s.imports p) s refl h
  name_fits (op.MyPromise p) s h = promise_fits p (slice_get s.imports p) s refl h
  name_fits (op.YourExport p) s h = found_fits A c.exports p (slice_get c.exports p) s exports refl h
  name_fits (op.MyAnswer q) s h = found_fits B c.questions q (slice_get c.questions q) s questions refl h
  name_fits (op.YourAnswer q) s h = found_fits A c.answers q (slice_get c.answers q) s answers refl h
  name_fits (op.Datum x) s h = tt
  name_fits (op.ListOf ds) s h = tt
  name_fits (op.Broken t) s h = tt
  name_fits (op.Third g w) s h = tt

  -- ---- what passes

  abbrev Passes : Passed (Incoming Name Name) → Type 0
  Passes y = PassedOk Q (maps.passed name_in y)

  abbrev AllPass : Passeds (Incoming Name Name) → Type 0
  AllPass ys = PassedsOk Q (maps.passeds name_in ys)

  fact_fits : (x : Fact) → ValueOk Q (maps.value name_in (reading.fact_heard object me peer F c x))
  unfolding reading.fact_heard
  fact_fits plain.Null = tt
  fact_fits (plain.Bool b) = tt
  fact_fits (plain.Int z) = tt
  fact_fits (plain.Char x) = tt
  fact_fits (plain.Text x) = tt
  fact_fits (plain.Prim n) = tt

  about_ok : (d : Described) (n : Name) → AboutHere d n → Q (Named n)
  about_ok (op.YourExport p) n h = mine n h
  about_ok (op.YourAnswer p) n h = mine n h
  about_ok (op.MyExport p) n h = theirs n h
  about_ok (op.MyPromise p) n h = theirs n h
  about_ok (op.MyAnswer p) n h = theirs n h
  about_ok other n h = absurd h

  reference_fits : (d : Described) (s : Stage Name) → StageFits s → HeardFits Passes (reading.next (reading.reference_heard object me peer F c) (reading.name_heard object me peer F c d s))
  unfolding reading.reference_heard
  reference_fits d s h = next_fits (Incomes (AboutHere d)) Passes _ (reading.name_heard object me peer F c d s) (λ x t r k. told_fits Passes _ t (about_ok d (name_in x) r) k) (name_fits d s h)

  learnt_or : (b e : Bool) (g : Learnt Name) (o : Option Name) (n : Name) → G g.name → (o ≡ Some n → G n) → elim b as (λ _. Option Name) [ true ↦ elim e as (λ _. Option Name) [ true ↦ Some g.name | false ↦ o ] | false ↦ o ] ≡ Some n → G n
  learnt_or true true g o n h k i = let same : g.name ≡ n = cc in rw same at h
  learnt_or true false g o n h k i = k i
  learnt_or false e g o n h k i = k i

  learnt_fits : (h i : ℕ) (gs : List (Learnt Name)) (n : Name) → AllOf (λ (g : Learnt Name). G g.name) gs → reading.learnt_at h i gs ≡ Some n → G n
  unfolding reading.learnt_at
  learnt_fits h i [] n a e = cc
  learnt_fits h i (g ∷ gs) n a e = learnt_or (g.host == h) (g.number == i) g (reading.learnt_at h i gs) n a.0 (learnt_fits h i gs n a.1) e

  gift_fits : (h w : ℕ) (o : Option Name) (s : Stage Name) → Claim w → reading.learnt_at h (key peer w) s.learnt ≡ o → StageFits s → HeardFits Passes (reading.gift_heard object me peer F c h (key peer w) o s)
  unfolding reading.gift_heard reading.told name_in
  gift_fits h w (Some n) s k e a = (thirds n (learnt_fits h (key peer w) s.learnt n a.1 e), a)
  gift_fits h w None s k e a = ((vats h, words w k), (a.0, all_end (λ (g : Learnt Name). G g.name) s.learnt _ a.1 (gifts h w s.known k)))

  mutual
    unfolding reading.passed_heard reading.all_heard

    passed_fits : (d : Described) (s : Stage Name) → DescClaims Claim d → StageFits s → HeardFits Passes (reading.passed_heard object me peer F c d s)
    passed_fits (op.Datum x) s k h = told_fits Passes _ s (fact_fits x) h
    passed_fits (op.Broken t) s k h = told_fits Passes _ s tt h
    passed_fits (op.ListOf ds) s k h = next_fits AllPass Passes _ (reading.all_heard object me peer F c ds s) (λ ys t r i. told_fits Passes _ t r i) (all_fits ds s k h)
    passed_fits (op.Third g w) s k h = gift_fits g w (reading.learnt_at g (key peer w) s.learnt) s k refl h
    passed_fits (op.MyExport p) s k h = reference_fits (op.MyExport p) s h
    passed_fits (op.MyPromise p) s k h = reference_fits (op.MyPromise p) s h
    passed_fits (op.YourExport p) s k h = reference_fits (op.YourExport p) s h
    passed_fits (op.MyAnswer q) s k h = reference_fits (op.MyAnswer q) s h
    passed_fits (op.YourAnswer q) s k h = reference_fits (op.YourAnswer q) s h

    all_fits : (ds : Members) (s : Stage Name) → AllClaim Claim ds → StageFits s → HeardFits AllPass (reading.all_heard object me peer F c ds s)
    all_fits op.none s k h = told_fits AllPass _ s tt h
    all_fits (op.more d ds) s k h = next_fits Passes AllPass _ (reading.passed_heard object me peer F c d s)
        (λ y t r i. next_fits AllPass AllPass _ (reading.all_heard object me peer F c ds t) (λ ys u q j. told_fits AllPass _ u (r, q) j) (all_fits ds t k.1 i)) (passed_fits d s k.0 h)

  -- ---- notes

  abbrev Reads : (Note Name → Type 0) → Note (Incoming Name Name) → Type 0
  Reads P n = P (maps.note name_in n)

  outcome_fits : (d : Described) (x : Incoming Name Name) (o : Outcome) (s : Stage Name) → OutcomeClaims Claim o → AboutHere d (name_in x) → StageFits s → HeardFits (Reads (ResolvesHere d)) (reading.outcome_heard object me peer F c x o s)
  unfolding reading.outcome_heard
  outcome_fits d x (op.To e) s k r h = next_fits Passes (Reads (ResolvesHere d)) _ (reading.passed_heard object me peer F c e s) (λ y t q i. told_fits (Reads (ResolvesHere d)) _ t (r, q) i) (passed_fits e s k h)
  outcome_fits d x (op.Elsewhere g) s k r h = told_fits (Reads (ResolvesHere d)) _ s r h

  message_fits : (asks : Bool) (d : Described) (verb : List ℕ) (ds : Members) (s : Stage Name) → AllClaim Claim ds → StageFits s → HeardFits (Reads (SendsHere d)) (reading.message_heard object me peer F c asks d verb ds s)
  unfolding reading.message_heard name_in
  message_fits asks d verb ds s k h = next_fits (Incomes (AboutHere d)) (Reads (SendsHere d)) _ (reading.name_heard object me peer F c d s)
      (λ x t r i. next_fits AllPass (Reads (SendsHere d)) _ (reading.all_heard object me peer F c ds t) (λ ys u q j. told_fits (Reads (SendsHere d)) _ u (refl, r, q) j) (all_fits ds t k i)) (name_fits d s h)

  pub note_fits : (o : Operation) (s : Stage Name) → OpClaims Claim o → StageFits s → HeardFits (Reads (SaysOfHere o)) (reading.note_heard object me peer F c o s)
  unfolding reading.note_heard
  note_fits (op.Deliver q d verb ds) s k h = where_fits (Reads (SendsHere d)) (q == length c.answers) _ s (message_fits true d verb ds s k h)
  note_fits (op.DeliverOnly d verb ds) s k h = message_fits false d verb ds s k h
  note_fits (op.Provide d w) s k h = next_fits (Incomes (AboutHere d)) (Reads (ProvidesHere d w)) _ (reading.name_heard object me peer F c d s) (λ x t r i. told_fits (Reads (ProvidesHere d w)) _ t (refl, r) i) (name_fits d s h)
  note_fits (op.Accept q p w) s k h = where_fits (Reads (AcceptsHere p w)) (q == length c.answers) _ s (told_fits (Reads (AcceptsHere p w)) _ s refl h)
  note_fits (op.Resolve d o) s k h = next_fits (Incomes (AboutHere d)) (Reads (ResolvesHere d)) _ (reading.name_heard object me peer F c d s) (λ x t r i. outcome_fits d x o t k r i) (name_fits d s h)
  note_fits (op.Shorten d w) s k h = next_fits (Incomes (AboutHere d)) (Reads (ShortensHere d w)) _ (reading.name_heard object me peer F c d s) (λ x t r i. told_fits (Reads (ShortensHere d w)) _ t (r, refl) i) (name_fits d s h)

  imports_of : {T : Type 0} (R : T → Type 0) (x : Option (Heard Name T)) → HeardFits R x → ImportsFit B x
  imports_of R None h = tt
  imports_of R (Some x) h = h.1.0

  pub note_imports : (o : Operation) (s : Stage Name) → OpClaims Claim o → StageFits s → ImportsFit B (reading.note_heard object me peer F c o s)
  note_imports o s k h = imports_of (Reads (SaysOfHere o)) (reading.note_heard object me peer F c o s) (note_fits o s k h)

  read_of : {T : Type 0} (R : T → Type 0) (x : Option (Heard Name T)) (y : Heard Name T) → x ≡ Some y → HeardFits R x → R y.read
  read_of R x y e h = let one : HeardFits R (Some y) = rw e at h in one.0

  -- what is heard says what its operation says
  pub note_says : (o : Operation) (s : Stage Name) (y : Heard Name (Note (Incoming Name Name))) → OpClaims Claim o → StageFits s → reading.note_heard object me peer F c o s ≡ Some y → SaysOf A B Q me peer F.message o (maps.note name_in y.read)
  note_says o s y k h e = read_of (Reads (SaysOfHere o)) (reading.note_heard object me peer F c o s) y e (note_fits o s k h)
