-- What a vat has in numbers for a peer: how it writes frames by that, and how it reads the peer's.
-- All of it is said for any type N of names: those that every vat means the same by, or the numbers of one vat.
use Rattle.std.specs.Prelude.{ℕ, zero, suc, Bool, true, false, List, [], ◌∷◌, ◌++◌, Option, Some, None, length, slice_get, ◌==◌}
use Rattle.def_op.specs.declared.op.Plain.{Plain as Fact}
use Rattle.def_op.specs.declared.op.Plain.TheVariants as plain
use Rattle.def_op.specs.Frames as op
use Rattle.def_op.specs.Frames.{Described, Members, Outcome, Operation, spelling}
use Rattle.def_op.specs.Numbers as number
use Rattle.def_machine.specs.Values.{Value, Null, Flag, Number, Letter, Text, Prim, Broken, Items, Ref, key, word_of}
use Rattle.def_machine.specs.State.{Passed, Passeds, Plain, AGift, Many, NoMore, More, Note, Deliver, Open, Ask, SettledTo, Elsewhere, Shorten}
use Rattle.def_machine.specs.Arrive.{Incoming, Old, New}

-- Lists that only grow: what stands in one of them keeps its number.
pub record Connection (N : Type 0) : Type 0 where
  -- by position: what the vat exported to the peer, and what the peer exported to it, as far as its frames have arrived
  pub exports : List N
  pub imports : List N
  -- by number of question: what the vat asked the peer for, and what the peer asked it for, as far as its frames have arrived
  pub questions : List N
  pub answers : List N

-- how one end of a connection sees names
pub record Sight (N : Type 0) : Type 0 where
  -- whether two references name one thing
  pub same : N → N → Bool
  -- whether the vat hosts it, and whether it is an object
  pub own : N → Bool
  pub object : N → Bool
  -- the answer, at the peer, of a message
  pub answer : N → N

-- ---- writing

module _ {N : Type 0} (S : Sight N) where
  unfoldable pub stands_in : List N → N → Bool
  stands_in [] n = false
  stands_in (m ∷ ms) n = elim (S.same m n) [ true ↦ true | false ↦ stands_in ms n ]

  -- how many stand before it
  unfoldable pub place_in : List N → N → ℕ
  place_in [] n = zero
  place_in (m ∷ ms) n = elim (S.same m n) [ true ↦ zero | false ↦ suc (place_in ms n) ]

  -- a message asks for its answer, if it has one
  unfoldable pub answer_if : Bool → N → List N
  answer_if true m = S.answer m ∷ []
  answer_if false m = []

  -- what a note asks the peer for
  unfoldable pub asked_in : Note N → List N
  asked_in (Deliver d n verb ys) = answer_if d.asks d.message
  asked_in (Ask p i n) = n ∷ []
  asked_in (Open i n) = []
  asked_in (SettledTo n y) = []
  asked_in (Elsewhere n c) = []
  asked_in (Shorten n c i) = []

  -- A name of the vat's own comes to have a position where it is told, has none, and no question for it has arrived.
  unfoldable pub exported_as : List N → N → List N → List N
  exported_as asked n ns = elim (S.own n) [
    | true ↦ elim (stands_in asked n) [ true ↦ ns | false ↦ elim (stands_in ns n) [ true ↦ ns | false ↦ ns ++ n ∷ [] ] ]
    | false ↦ ns
  ]

  unfoldable pub exported_value : List N → Value N → List N → List N
  exported_value asked (Ref n) ns = exported_as asked n ns
  exported_value asked y ns = ns

  unfoldable mutual
    pub exported_passed : List N → Passed N → List N → List N
    exported_passed asked (Plain y) ns = exported_value asked y ns
    exported_passed asked (AGift h i) ns = ns
    exported_passed asked (Many ys) ns = exported_all asked ys ns

    pub exported_all : List N → Passeds N → List N → List N
    exported_all asked NoMore ns = ns
    exported_all asked (More y ys) ns = exported_all asked ys (exported_passed asked y ns)

  unfoldable pub exported_note : List N → Note N → List N → List N
  exported_note asked (Deliver d n verb ys) ns = exported_all asked ys (exported_as asked n ns)
  exported_note asked (Open i n) ns = exported_as asked n ns
  exported_note asked (Ask p i n) ns = ns
  exported_note asked (SettledTo n y) ns = exported_passed asked y (exported_as asked n ns)
  exported_note asked (Elsewhere n c) ns = exported_as asked n ns
  exported_note asked (Shorten n c i) ns = exported_as asked n ns

  unfoldable pub position : Bool → ℕ → Described
  position true p = op.MyExport p
  position false p = op.MyPromise p

  -- of two numbers that a name has, it is described by the one that came first at its host
  unfoldable pub mine : Connection N → N → Bool → Described
  mine c n true = position (S.object n) (place_in c.exports n)
  mine c n false = op.MyAnswer (place_in c.answers n)

  unfoldable pub yours : Connection N → N → Bool → Described
  yours c n true = op.YourAnswer (place_in c.questions n)
  yours c n false = op.YourExport (place_in c.imports n)

  unfoldable pub described : Connection N → N → Described
  described c n = elim (S.own n) [ true ↦ mine c n (stands_in c.exports n) | false ↦ yours c n (stands_in c.questions n) ]

  unfoldable pub described_value : Connection N → Value N → Described
  described_value c Null = op.Datum plain.Null
  described_value c (Flag b) = op.Datum (plain.Bool b)
  described_value c (Number z) = op.Datum (plain.Int z)
  described_value c (Letter x) = op.Datum (plain.Char x)
  described_value c (Text t) = op.Datum (plain.Text t)
  described_value c (Prim n) = op.Datum (plain.Prim n)
  described_value c (Broken p) = op.Broken p
  described_value c (Items k) = op.ListOf op.none
  described_value c (Ref n) = described c n

  unfoldable mutual
    -- a gift by its host and its word: the vat is its provider
    pub described_passed : Connection N → Passed N → Described
    described_passed c (Plain y) = described_value c y
    described_passed c (AGift h i) = op.Third h (word_of i)
    described_passed c (Many ys) = op.ListOf (described_all c ys)

    pub described_all : Connection N → Passeds N → Members
    described_all c NoMore = op.none
    described_all c (More y ys) = op.more (described_passed c y) (described_all c ys)

  -- a message, by whether it asks for an answer
  unfoldable pub delivered : Bool → ℕ → Described → List ℕ → Members → Operation
  delivered true q target verb args = op.Deliver q target verb args
  delivered false q target verb args = op.DeliverOnly target verb args

  -- what a note to the peer says, once what it tells first has its position; a question has the next number
  unfoldable pub operation : Connection N → Note N → Operation
  operation c (Deliver d n verb ys) = delivered d.asks (length c.questions) (described c n) verb (described_all c ys)
  operation c (Open i n) = op.Provide (described c n) (word_of i)
  operation c (Ask p i n) = op.Accept (length c.questions) p (word_of i)
  operation c (SettledTo n y) = op.Resolve (described c n) (op.To (described_passed c y))
  operation c (Elsewhere n h) = op.Resolve (described c n) (op.Elsewhere h)
  operation c (Shorten n h i) = op.Shorten (described c n) (word_of i)

  unfoldable pub exporting : Note N → Connection N → Connection N
  exporting n c = record c { exports = exported_note c.answers n c.exports }

  -- the frame of a note that is put now
  unfoldable pub frame_now : Note N → Connection N → Operation
  frame_now n c = operation (exporting n c) n

  -- the connection once a note was put
  unfoldable pub put_on : Note N → Connection N → Connection N
  put_on n c = record c { exports = exported_note c.answers n c.exports; questions = c.questions ++ asked_in n }

-- ---- reading

-- a gift that was learnt as a gift: its host, its key, and what it is
pub record Learnt (N : Type 0) : Type 0 where
  pub host : ℕ
  pub number : ℕ
  pub name : N

-- What is had at a stage of the reading of a frame: the imports and the gifts learnt by then, and how many names are known by then.
pub record Stage (N : Type 0) : Type 0 where
  pub imports : List N
  pub learnt : List (Learnt N)
  pub known : ℕ

-- What comes to be had by a frame. W is how a note names what is new.
pub record Newcomers (N W : Type 0) : Type 0 where
  -- the object at that position
  pub object : ℕ → N
  -- the promise at that position, which comes to be known as that number
  pub promise : ℕ → ℕ → N
  -- the gift of that host under that key, which comes to be known as that number
  pub gift : ℕ → ℕ → ℕ → N
  -- a promise by its position, a gift by the question that asks for it, and the message that the frame carries
  pub exported : ℕ → W
  pub asked : ℕ → W
  pub message : W

pub record Heard (N A : Type 0) : Type 0 where
  pub read : A
  pub after : Stage N

-- what reads a part of a frame; none where that names a number which is not there
abbrev pub Hearing : Type 0 → Type 0 → Type 0
Hearing N A = Stage N → Option (Heard N A)

unfoldable pub told : {N A : Type 0} → A → Hearing N A
told x s = Some (record { read = x; after = s })

unfoldable pub told_if : {N A B : Type 0} → (A → B) → Option A → Hearing N B
told_if f (Some x) s = told (f x) s
told_if f None s = None

unfoldable pub next : {N A B : Type 0} → (A → Hearing N B) → Option (Heard N A) → Option (Heard N B)
next f (Some h) = f h.read h.after
next f None = None

-- where that is so
unfoldable pub told_where : {N A : Type 0} → Bool → Hearing N A → Hearing N A
told_where true f s = f s
told_where false f s = None

unfoldable pub learnt_at : {N : Type 0} → ℕ → ℕ → List (Learnt N) → Option N
learnt_at h i [] = None
learnt_at h i (g ∷ gs) = elim (g.host == h) [ true ↦ elim (g.number == i) [ true ↦ Some g.name | false ↦ learnt_at h i gs ] | false ↦ learnt_at h i gs ]

-- from vat `peer` at vat `me`, which has that connection
module _ {N W : Type 0} (object : N → Bool) (me peer : ℕ) (F : Newcomers N W) (c : Connection N) where
  unfoldable pub new_object : ℕ → Hearing N (Incoming N W)
  new_object p s = told (Old (F.object p)) (record s { imports = s.imports ++ F.object p ∷ [] })

  unfoldable pub new_promise : ℕ → Hearing N (Incoming N W)
  new_promise p s = told (New (F.exported p) peer) (record s { imports = s.imports ++ F.promise p s.known ∷ []; known = suc s.known })

  -- what stands at a position is an object or a promise; the next position is that of something new
  unfoldable pub object_heard : ℕ → Option N → Hearing N (Incoming N W)
  object_heard p (Some n) s = told_where (object n) (told (Old n)) s
  object_heard p None s = told_where (p == length s.imports) (new_object p) s

  unfoldable pub promise_heard : ℕ → Option N → Hearing N (Incoming N W)
  promise_heard p (Some n) s = elim (object n) [ true ↦ None | false ↦ told (Old n) s ]
  promise_heard p None s = told_where (p == length s.imports) (new_promise p) s

  -- a name of the vat or of the peer
  unfoldable pub name_heard : Described → Hearing N (Incoming N W)
  name_heard (op.MyExport p) s = object_heard p (slice_get s.imports p) s
  name_heard (op.MyPromise p) s = promise_heard p (slice_get s.imports p) s
  name_heard (op.YourExport p) s = told_if Old (slice_get c.exports p) s
  name_heard (op.MyAnswer q) s = told_if Old (slice_get c.questions q) s
  name_heard (op.YourAnswer q) s = told_if Old (slice_get c.answers q) s
  name_heard (op.Datum x) s = None
  name_heard (op.ListOf ds) s = None
  name_heard (op.Broken p) s = None
  name_heard (op.Third h i) s = None

  unfoldable pub fact_heard : Fact → Value (Incoming N W)
  fact_heard plain.Null = Null
  fact_heard (plain.Bool b) = Flag b
  fact_heard (plain.Int z) = Number z
  fact_heard (plain.Char x) = Letter x
  fact_heard (plain.Text x) = Text x
  fact_heard (plain.Prim n) = Prim n

  unfoldable pub reference_heard : Incoming N W → Hearing N (Passed (Incoming N W))
  reference_heard x s = told (Plain (Ref x)) s

  -- A gift that was learnt as a gift is known, and another comes to be known. The peer is its provider.
  unfoldable pub gift_heard : ℕ → ℕ → Option N → Hearing N (Passed (Incoming N W))
  gift_heard h i (Some n) s = told (Plain (Ref (Old n))) s
  gift_heard h i None s = told (AGift h i) (record s { learnt = s.learnt ++ record { host = h; number = i; name = F.gift h i s.known } ∷ []; known = suc s.known })

  unfoldable mutual
    pub passed_heard : Described → Hearing N (Passed (Incoming N W))
    passed_heard (op.Datum x) s = told (Plain (fact_heard x)) s
    passed_heard (op.Broken p) s = told (Plain (Broken p)) s
    passed_heard (op.ListOf ds) s = next (λ ys. told (Many ys)) (all_heard ds s)
    passed_heard (op.Third h w) s = gift_heard h (key peer w) (learnt_at h (key peer w) s.learnt) s
    passed_heard (op.MyExport p) s = next reference_heard (name_heard (op.MyExport p) s)
    passed_heard (op.MyPromise p) s = next reference_heard (name_heard (op.MyPromise p) s)
    passed_heard (op.YourExport p) s = next reference_heard (name_heard (op.YourExport p) s)
    passed_heard (op.MyAnswer q) s = next reference_heard (name_heard (op.MyAnswer q) s)
    passed_heard (op.YourAnswer q) s = next reference_heard (name_heard (op.YourAnswer q) s)

    pub all_heard : Members → Hearing N (Passeds (Incoming N W))
    all_heard op.none s = told NoMore s
    all_heard (op.more d ds) s = next (λ y t. next (λ ys. told (More y ys)) (all_heard ds t)) (passed_heard d s)

  unfoldable pub outcome_heard : Incoming N W → Outcome → Hearing N (Note (Incoming N W))
  outcome_heard x (op.To d) s = next (λ y. told (SettledTo x y)) (passed_heard d s)
  outcome_heard x (op.Elsewhere h) s = told (Elsewhere x h) s

  -- a message, by whether it asks for an answer
  unfoldable pub message_heard : Bool → Described → List ℕ → Members → Hearing N (Note (Incoming N W))
  message_heard asks d verb ds s = next (λ x t. next (λ ys. told (Deliver (record { message = New F.message peer; asks = asks; answer = None }) x verb ys)) (all_heard ds t)) (name_heard d s)

  -- A note by what its frame says; a question has the next number.
  -- The frame of a message does not tell who sent it first, nor that of a request to shorten where the object is, nor that of one who asks for a gift whether the gift is known: nothing looks at what stands in their places.
  unfoldable pub note_heard : Operation → Hearing N (Note (Incoming N W))
  note_heard (op.Deliver q d verb ds) s = told_where (q == length c.answers) (message_heard true d verb ds) s
  note_heard (op.DeliverOnly d verb ds) s = message_heard false d verb ds s
  note_heard (op.Provide d w) s = next (λ x. told (Open (key peer w) x)) (name_heard d s)
  note_heard (op.Accept q p w) s = told_where (q == length c.answers) (told (Ask p (key p w) (New (F.asked q) me))) s
  note_heard (op.Resolve d o) s = next (λ x. outcome_heard x o) (name_heard d s)
  note_heard (op.Shorten d w) s = next (λ x. told (Shorten x peer (key me w))) (name_heard d s)

-- opens each definition of this file
unfoldable pub opened_connections : Unit {0}
unfolding stands_in place_in answer_if asked_in exported_as exported_value exported_passed exported_all exported_note position mine yours described described_value described_passed described_all delivered operation exporting frame_now put_on told told_if next told_where learnt_at new_object new_promise object_heard promise_heard name_heard fact_heard reference_heard gift_heard passed_heard all_heard outcome_heard message_heard note_heard op.spelling op.outcome_bytes op.desc_bytes op.members_bytes op.plain_bytes op.count number.digits number.low_first
opened_connections = tt
