-- How a vat reads what its peer writes, in the code's terms: by the numbers that it has for the peer and the gifts that it learnt, and by what the frame has brought so far.
use Rattle.std.specs.Prelude.{◌≡◌, ◌+◌, ◌-◌, ℕ, suc, nat_lt, Bool, true, false, ◌==◌, if◌then◌else◌, List, [], ◌∷◌, ◌++◌, Option, Some, None, Result, Ok, Err, length, slice_get}
use Rattle.ev_base.specs.declared.values.Value.{Value}
use Rattle.ev_base.specs.declared.values.Value.TheVariants as held
use Rattle.def_op.specs.declared.op.Plain.{Plain as Fact}
use Rattle.def_op.specs.declared.op.Plain.TheVariants as plain
use Rattle.def_op.specs.Frames as op
use Rattle.def_op.specs.Frames.{Described, Members, Outcome, Operation}
use Rattle.ev_pass.specs.declared.interior.Interior.{Interior}
use Rattle.ev_pass.specs.declared.note.Reference.{Reference}
use Rattle.ev_pass.specs.declared.note.Reference.TheVariants as reference
use Rattle.ev_arrive.specs.declared.host.Incoming.{Incoming}
use Rattle.ev_arrive.specs.declared.host.Incoming.TheVariants.{Known, New}
use Rattle.ev_arrive.specs.declared.host.Subject.{Subject}
use Rattle.ev_arrive.specs.declared.host.Subject.TheVariants as subject
use Rattle.ev_arrive.specs.declared.host.Carried.TheVariants as carried
use Rattle.ev_arrive.specs.Bringing as part
use Rattle.ev_arrive.specs.Bringing.{Part, Parts}
use Rattle.ev_op.specs.Decoded.{decoded}
use Rattle.ev_tables.specs.Table.{Table, entry}
use Rattle.ev_wire.specs.Bringing.{Told, told, Deliver, Open, Ask, Settled, Elsewhere, Shorten}
use Rattle.ev_wire.specs.Learnt.{LearntGifts, find, put}
use Rattle.ev_wire.specs.declared.news.News.{News}
use Rattle.ev_wire.specs.declared.news.Hearing.{Hearing}
use Rattle.ev_wire.specs.declared.fault.HearFault.{HearFault}
use Rattle.ev_wire.specs.declared.fault.HearFault.TheVariants.{Malformed, Memory}

-- what is read, and what the frame has brought by then; none where it is malformed
abbrev pub Out : Type 0 → Type 0
Out A = Option (A × News)

abbrev pub Act : Type 0 → Type 0
Act A = News → Out A

-- what a function of the code returned and left, seen through a view, is what the definition gives, unless memory ran out
abbrev pub Shows : {A B : Type 0} → (A → B) → Result A HearFault → News → Out B → Type 0
Shows view (Ok a) s out = out ≡ Some (view a, s)
Shows view (Err Malformed) s out = out ≡ None
Shows view (Err Memory) s out = Unit {0}

abbrev pub Gives : {A : Type 0} → Result A HearFault → News → Out A → Type 0
Gives r s out = Shows (λ a. a) r s out

unfoldable pub and_then : {A B : Type 0} → Out A → (A → Act B) → Out B
and_then (Some x) f = f x.0 x.1
and_then None f = None

infixl 10 ◌>>=◌
unfoldable pub ◌>>=◌ : {A B : Type 0} → Act A → (A → Act B) → Act B
m >>= f = λ s. and_then (m s) f

unfoldable pub give : {A : Type 0} → A → Act A
give a = λ s. Some (a, s)

unfoldable pub refuse : {A : Type 0} → Act A
refuse = λ s. None

-- ---- names

unfoldable pub known_value : Value → Act Incoming
known_value (held.Obj i) = give (Known (reference.Object i))
known_value (held.Prom n) = give (Known (reference.Promise n))
known_value (held.Far h p) = give (Known (reference.Far h p))
known_value v = refuse

unfoldable pub known : Option Value → Act Incoming
known (Some v) = known_value v
known None = refuse

unfoldable pub known_object : Value → Act Incoming
known_object (held.Obj i) = give (Known (reference.Object i))
known_object (held.Far h p) = give (Known (reference.Far h p))
known_object v = refuse

unfoldable pub known_promise : Value → Act Incoming
known_promise (held.Prom n) = give (Known (reference.Promise n))
known_promise v = refuse

module _ (t : Table) where
  -- what stands at a position by now
  unfoldable pub import_at : ℕ → News → Option Value
  import_at p s = if nat_lt p (length t.imports) then slice_get t.imports p else slice_get s.imports (p - length t.imports)

  -- whether that is the next position
  unfoldable pub is_next : ℕ → News → Bool
  is_next p s = if nat_lt p (length t.imports) then false else (p - length t.imports) == length s.imports

  unfoldable pub new_object : ℕ → Act Incoming
  new_object p = λ s. Some (Known (reference.Far t.peer p), record s { imports = s.imports ++ held.Far t.peer p ∷ [] })

  unfoldable pub new_promise : Act Incoming
  new_promise = λ s. Some (New t.peer, record s { imports = s.imports ++ held.Prom s.known ∷ []; known = suc s.known })

  unfoldable pub object_at : ℕ → Option Value → Act Incoming
  object_at p (Some v) = known_object v
  object_at p None = λ s. if is_next p s then new_object p s else None

  unfoldable pub promise_at : ℕ → Option Value → Act Incoming
  promise_at p (Some v) = known_promise v
  promise_at p None = λ s. if is_next p s then new_promise s else None

  -- a name of this vat or of the peer
  unfoldable pub name_heard : Described → Act Incoming
  name_heard (op.MyExport p) = λ s. object_at p (import_at p s) s
  name_heard (op.MyPromise p) = λ s. promise_at p (import_at p s) s
  name_heard (op.YourExport p) = known (entry (op.YourExport p) t)
  name_heard (op.MyAnswer q) = known (entry (op.MyAnswer q) t)
  name_heard (op.YourAnswer q) = known (entry (op.YourAnswer q) t)
  name_heard (op.Datum x) = refuse
  name_heard (op.ListOf ds) = refuse
  name_heard (op.Broken p) = refuse
  name_heard (op.Third h w) = refuse

-- ---- values

-- a text comes to be kept
unfoldable pub text_brought : Interior → List ℕ → Act ℕ
text_brought i x = λ s. Some (length i.heap.texts + length s.texts, record s { texts = s.texts ++ x ∷ [] })

unfoldable pub text_heard : Interior → (ℕ → Value) → List ℕ → Act Part
text_heard i value x = do
  id ← text_brought i x
  give (part.Plain (value id))

unfoldable pub fact_heard : Interior → Fact → Act Part
fact_heard i plain.Null = give (part.Plain held.Null)
fact_heard i (plain.Bool b) = give (part.Plain (held.Bool b))
fact_heard i (plain.Int z) = give (part.Plain (held.Int z))
fact_heard i (plain.Char x) = give (part.Plain (held.Char x))
fact_heard i (plain.Text x) = text_heard i held.Text x
fact_heard i (plain.Prim n) = give (part.Plain (held.Prim n))

abbrev pub value_of : Reference → Value
value_of (reference.Object i) = held.Obj i
value_of (reference.Promise n) = held.Prom n
value_of (reference.Far h p) = held.Far h p

abbrev pub part_of : Incoming → Part
part_of (Known r) = part.Plain (value_of r)
part_of (New v) = part.New v

-- a gift that was learnt by now
abbrev pub or_else : Option ℕ → Option ℕ → Option ℕ
or_else (Some n) o = Some n
or_else None o = o

-- A gift that was learnt as a gift is known, and another comes to be known. The peer is its provider.
unfoldable pub gift_at : Table → ℕ → ℕ → Option ℕ → Act Part
gift_at t h w (Some n) = give (part.Plain (held.Prom n))
gift_at t h w None = λ s. Some (part.Gift h w, record s { gifts = put (record { host = h; provider = t.peer; word = w; name = s.known }) s.gifts; known = suc s.known })

module _ (t : Table) (l : LearntGifts) where
  unfoldable pub learnt_by : ℕ → ℕ → News → Option ℕ
  learnt_by h w s = or_else (find h t.peer w l) (find h t.peer w s.gifts)

  unfoldable pub gift_heard : ℕ → ℕ → Act Part
  gift_heard h w = λ s. gift_at t h w (learnt_by h w s) s

unfoldable pub reference_heard : Table → Described → Act Part
reference_heard t d = do
  x ← name_heard t d
  give (part_of x)

-- what settled is a promise
unfoldable pub subject_at : Reference → Act Subject
subject_at (reference.Promise n) = give (subject.Known n)
subject_at (reference.Object n) = refuse
subject_at (reference.Far h p) = refuse

unfoldable pub subject_of : Incoming → Act Subject
subject_of (Known x) = subject_at x
subject_of (New v) = give (subject.New v)

-- a question has the next number
unfoldable pub where_next : {A : Type 0} → Table → ℕ → Act A → Act A
where_next t q m = λ s. if q == length t.answers then m s else None

module _ (i : Interior) (t : Table) (l : LearntGifts) where
  unfoldable mutual
    -- a value, inner parts first, from left to right
    pub part_heard : Described → Act Part
    part_heard (op.Datum x) = fact_heard i x
    part_heard (op.Broken p) = text_heard i held.Broken p
    part_heard (op.ListOf ds) = do
      ps ← parts_heard ds
      give (part.Many ps)
    part_heard (op.Third h w) = gift_heard t l h w
    part_heard (op.MyExport p) = reference_heard t (op.MyExport p)
    part_heard (op.MyPromise p) = reference_heard t (op.MyPromise p)
    part_heard (op.YourExport p) = reference_heard t (op.YourExport p)
    part_heard (op.MyAnswer q) = reference_heard t (op.MyAnswer q)
    part_heard (op.YourAnswer q) = reference_heard t (op.YourAnswer q)

    pub parts_heard : Members → Act Parts
    parts_heard op.none = give part.NoMore
    parts_heard (op.more d ds) = do
      p ← part_heard d
      ps ← parts_heard ds
      give (part.More p ps)

  -- ---- notes

  unfoldable pub outcome_heard : Subject → Outcome → Act Told
  outcome_heard x (op.To d) = do
    y ← part_heard d
    give (Settled x y)
  outcome_heard x (op.Elsewhere h) = give (Elsewhere x h)

  unfoldable pub message_heard : Bool → Described → List ℕ → Members → Act Told
  message_heard asks d verb ds = do
    x ← name_heard t d
    ps ← parts_heard ds
    give (Deliver carried.New asks x verb ps)

  -- a note by what its frame says
  unfoldable pub note_heard : Operation → Act Told
  note_heard (op.Deliver q d verb ds) = where_next t q (message_heard true d verb ds)
  note_heard (op.DeliverOnly d verb ds) = message_heard false d verb ds
  note_heard (op.Provide d w) = do
    x ← name_heard t d
    give (Open w x)
  note_heard (op.Accept q p w) = where_next t q (give (Ask p w))
  note_heard (op.Resolve d o) = do
    x ← name_heard t d
    y ← subject_of x
    outcome_heard y o
  note_heard (op.Shorten d w) = do
    x ← name_heard t d
    give (Shorten x (record { provider = i.refs.me; word = w }))

-- what is there before a frame is read
abbrev pub no_news : Interior → News
no_news i = record { imports = []; gifts = []; texts = []; known = length i.refs.known }

-- a frame is one whole operation
unfoldable pub whole_heard : Interior → Table → LearntGifts → Operation → ℕ → ℕ → Out Told
whole_heard i t l o len size = if len == size then note_heard i t l o (no_news i) else None

unfoldable pub found_heard : Interior → Table → LearntGifts → ℕ → Option (Operation × ℕ) → Out Told
found_heard i t l size (Some x) = whole_heard i t l x.0 x.1 size
found_heard i t l size None = None

-- what is heard of a frame of these bytes
unfoldable pub frame_heard : Interior → Table → LearntGifts → List ℕ → Out Told
frame_heard i t l bytes = found_heard i t l (length bytes) (decoded bytes)

-- what was heard, or why nothing was
abbrev pub Hears : Result Hearing HearFault → Out Told → Type 0
Hears (Ok h) out = out ≡ Some (told h.note, h.news)
Hears (Err Malformed) out = out ≡ None
Hears (Err Memory) out = Unit {0}

-- opens the acts
unfoldable pub opened_acts : Unit {0}
unfolding and_then ◌>>=◌ give refuse
opened_acts = tt
