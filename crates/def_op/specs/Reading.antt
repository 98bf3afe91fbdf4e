-- Reading a frame from left to right: what stands at the front of the bytes, and the bytes behind it.
-- There is None where nothing allowed stands there.
use Rattle.std.specs.Prelude.{ℕ, zero, suc, ◌+◌, ◌-◌, ◌*◌, Bool, true, false, nat_lt, nat_le, ◌==◌, if◌then◌else◌, List, [], ◌∷◌, length, take, drop, slice_get, Option, Some, None, ℤ, pos, negsuc}
use Rattle.std.specs.Str.{is_utf8}
use lib.Utf8.{scalar}
use Rattle.def_op.specs.declared.op.Plain.TheVariants as plain
use Rattle.def_op.specs.declared.kind.Kind.{Kind}
use Rattle.def_op.specs.declared.kind.Kind.TheVariants as kind
use Rattle.def_op.specs.Numbers.{digit, is_primitive}
use Rattle.def_op.specs.Frames.{Described, Members, Datum, ListOf, Broken, YourExport, YourAnswer, MyExport, MyPromise, Third, MyAnswer, none, more, Outcome, To, Elsewhere, Operation, Deliver, DeliverOnly, Resolve, Provide, Accept, Shorten}

infixl 10 ◌>>=◌
abbrev pub ◌>>=◌ : {A B : Type 0} → Option A → (A → Option B) → Option B
None >>= f = None
(Some x) >>= f = f x

-- A number in digits to the base 128: whether its digits are turned round, the number, and the bytes behind it.
pub record Digits : Type 0 where
  pub negative : Bool
  pub number : ℕ
  pub rest : List ℕ

-- the last digit
abbrev pub last_digit : ℕ → ℕ → List ℕ → Digits
last_digit last b rest = record { negative = nat_le last b; number = digit (nat_le last b) b; rest = rest }

-- a digit before others, where the number needs them
abbrev pub lower_digit : ℕ → ℕ → Digits → Option Digits
lower_digit last b high =
    if nat_le last (128 * high.number + digit high.negative (b - 128))
    then Some (record high { number = 128 * high.number + digit high.negative (b - 128) })
    else None

-- a digit in the last place that a number may have
abbrev pub in_last_place : Digits → Option Digits
in_last_place d = if nat_lt d.number 2 then Some d else None

unfoldable pub digits_at : ℕ → ℕ → List ℕ → Option Digits
digits_at last zero [] = None
digits_at last (suc k) [] = None
digits_at last zero (b ∷ rest) = if nat_lt b 128 then in_last_place (last_digit last b rest) else None
digits_at last (suc k) (b ∷ rest) =
    if nat_lt b 128 then Some (last_digit last b rest)
    else digits_at last k rest >>= lower_digit last b

-- a number below 2 ^ 64
abbrev pub unsigned_at : List ℕ → Option (ℕ × List ℕ)
unsigned_at bytes = digits_at 128 9 bytes >>= λ d. Some (d.number, d.rest)

abbrev pub with_sign : Bool → ℕ → ℤ
with_sign negative n = if negative then negsuc n else pos n

-- a number of 128 bits with a sign
abbrev pub signed_at : List ℕ → Option (ℤ × List ℕ)
signed_at bytes = digits_at 64 18 bytes >>= λ d. Some (with_sign d.negative d.number, d.rest)

-- so many bytes, the lowest first
unfoldable pub low_first_at : ℕ → List ℕ → Option (ℕ × List ℕ)
low_first_at zero bytes = Some (0, bytes)
low_first_at (suc k) [] = None
low_first_at (suc k) (b ∷ rest) = low_first_at k rest >>= λ high. Some (b + 256 * high.0, high.1)

abbrev pub swiss_at : List ℕ → Option (ℕ × List ℕ)
swiss_at = low_first_at 16

abbrev pub byte_at : List ℕ → Option (ℕ × List ℕ)
byte_at [] = None
byte_at (b ∷ rest) = Some (b, rest)

-- a byte that passes a test
abbrev pub byte_where : (ℕ → Bool) → List ℕ → Option (ℕ × List ℕ)
byte_where test [] = None
byte_where test (b ∷ rest) = if test b then Some (b, rest) else None

abbrev pub vat_at : List ℕ → Option (ℕ × List ℕ)
vat_at = byte_where (λ b. nat_lt b 16)

abbrev pub primitive_at : List ℕ → Option (ℕ × List ℕ)
primitive_at = byte_where is_primitive

-- a text of at most so many bytes
unfoldable pub text_at : ℕ → List ℕ → Option (List ℕ × List ℕ)
text_at room bytes = do
  n ← unsigned_at bytes
  if nat_lt (length n.1) n.0 then None
      else if nat_lt room n.0 then None
      else if is_utf8 (take n.0 n.1) then Some (take n.0 n.1, drop n.0 n.1) else None

unfoldable pub character_at : List ℕ → Option (ℕ × List ℕ)
character_at bytes = do
  n ← unsigned_at bytes
  if scalar n.0 then Some n else None

-- the kinds of description, each at its code
abbrev pub kinds : List Kind
kinds =
    kind.Null ∷ kind.False ∷ kind.True ∷ kind.Integer ∷ kind.Character ∷ kind.Text ∷ kind.List ∷ kind.Primitive
    ∷ kind.Broken ∷ kind.YourExport ∷ kind.YourAnswer ∷ kind.MyExport ∷ kind.MyPromise ∷ kind.Third ∷ kind.MyAnswer ∷ []

abbrev pub kind_at : List ℕ → Option (Kind × List ℕ)
kind_at [] = None
kind_at (b ∷ rest) = slice_get kinds b >>= λ k. Some (k, rest)

-- A value that was read, the weight that is left to the lists round it, and the bytes behind it.
pub record Read (A : Type 0) : Type 0 where
  pub value : A
  pub room : ℕ
  pub rest : List ℕ

abbrev pub read : {A : Type 0} → A → ℕ → List ℕ → Option (Read A)
read x room rest = Some (record { value = x; room = room; rest = rest })

-- a number, as what it counts
abbrev pub counted_at : (ℕ → Described) → List ℕ → Option (Described × List ℕ)
counted_at f bytes = unsigned_at bytes >>= λ n. Some (f n.0, n.1)

abbrev pub is_list : Kind → Bool
is_list kind.List = true
is_list k = false

-- what is no list, behind its first byte
unfoldable pub leaf_at : Kind → ℕ → List ℕ → Option (Read Described)
leaf_at kind.Null room bytes = read (Datum plain.Null) room bytes
leaf_at kind.False room bytes = read (Datum (plain.Bool false)) room bytes
leaf_at kind.True room bytes = read (Datum (plain.Bool true)) room bytes
leaf_at kind.Integer room bytes = signed_at bytes >>= λ z. read (Datum (plain.Int z.0)) room z.1
leaf_at kind.Character room bytes = character_at bytes >>= λ c. read (Datum (plain.Char c.0)) room c.1
leaf_at kind.Text room bytes = text_at room bytes >>= λ t. read (Datum (plain.Text t.0)) (room - length t.0) t.1
leaf_at kind.List room bytes = None
leaf_at kind.Primitive room bytes = primitive_at bytes >>= λ p. read (Datum (plain.Prim p.0)) room p.1
leaf_at kind.Broken room bytes = text_at room bytes >>= λ t. read (Broken t.0) (room - length t.0) t.1
leaf_at kind.YourExport room bytes = unsigned_at bytes >>= λ n. read (YourExport n.0) room n.1
leaf_at kind.YourAnswer room bytes = unsigned_at bytes >>= λ n. read (YourAnswer n.0) room n.1
leaf_at kind.MyExport room bytes = unsigned_at bytes >>= λ n. read (MyExport n.0) room n.1
leaf_at kind.MyPromise room bytes = unsigned_at bytes >>= λ n. read (MyPromise n.0) room n.1
leaf_at kind.Third room bytes = vat_at bytes >>= λ v. swiss_at v.1 >>= λ s. read (Third v.0 s.0) room s.1
leaf_at kind.MyAnswer room bytes = unsigned_at bytes >>= λ n. read (MyAnswer n.0) room n.1

-- A description whose lists are read so. The lists round it have room for its first byte.
unfoldable pub first_at : (ℕ → List ℕ → Option (Read Described)) → ℕ → List ℕ → Option (Read Described)
first_at lists zero bytes = None
first_at lists (suc room) bytes = kind_at bytes >>= λ k. if is_list k.0 then lists room k.1 else leaf_at k.0 room k.1

-- so many descriptions, each read so
unfoldable pub members_at : (ℕ → List ℕ → Option (Read Described)) → ℕ → ℕ → List ℕ → Option (Read Members)
members_at one zero room bytes = read none room bytes
members_at one (suc n) room bytes = do
  d ← one room bytes
  ds ← members_at one n d.room d.rest
  read (more d.value ds.value) ds.room ds.rest

-- a list behind its first byte
unfoldable pub list_at : (ℕ → List ℕ → Option (Read Described)) → ℕ → List ℕ → Option (Read Described)
list_at one room bytes = do
  n ← unsigned_at bytes
  ds ← members_at one n.0 room n.1
  read (ListOf ds.value) ds.room ds.rest

-- no list
abbrev pub no_list : ℕ → List ℕ → Option (Read Described)
no_list room bytes = None

-- a description in which at most so many lists stand in each other
unfoldable pub desc_at : ℕ → ℕ → List ℕ → Option (Read Described)
desc_at zero = first_at no_list
desc_at (suc height) = first_at (list_at (desc_at height))

-- Where no list stands round it, a list may weigh 65,536, and anything else what it will.
abbrev pub free_room : List ℕ → ℕ
free_room [] = 0
free_room (b ∷ rest) = if b == 6 then 65536 else suc (length rest)

-- a description round which no list stands
unfoldable pub free_at : ℕ → List ℕ → Option (Read Described)
free_at room bytes = do
  d ← desc_at 100 (free_room bytes) bytes
  read d.value room d.rest

-- a member of a list in which at most so many lists stand in each other, or an argument
abbrev pub member_at : Option ℕ → ℕ → List ℕ → Option (Read Described)
member_at None = free_at
member_at (Some height) = desc_at height

-- behind the first byte of what an operation is about: an object or promise of the receiver
unfoldable pub target_behind : Kind → List ℕ → Option (Described × List ℕ)
target_behind kind.YourExport bytes = counted_at YourExport bytes
target_behind kind.YourAnswer bytes = counted_at YourAnswer bytes
target_behind k bytes = None

unfoldable pub target_at : List ℕ → Option (Described × List ℕ)
target_at bytes = kind_at bytes >>= λ k. target_behind k.0 k.1

-- behind the first byte of what an operation tells of: a promise of the sender
unfoldable pub subject_behind : Kind → List ℕ → Option (Described × List ℕ)
subject_behind kind.MyPromise bytes = counted_at MyPromise bytes
subject_behind kind.MyAnswer bytes = counted_at MyAnswer bytes
subject_behind k bytes = None

unfoldable pub subject_at : List ℕ → Option (Described × List ℕ)
subject_at bytes = kind_at bytes >>= λ k. subject_behind k.0 k.1

-- what a subject came to
unfoldable pub outcome_at : List ℕ → Option (Outcome × List ℕ)
outcome_at [] = None
outcome_at (b ∷ rest) =
    if b == 15 then (vat_at rest >>= λ v. Some (Elsewhere v.0, v.1))
    else (free_at 0 (b ∷ rest) >>= λ d. Some (To d.value, d.rest))

-- a count of at most 255
abbrev pub few_at : List ℕ → Option (ℕ × List ℕ)
few_at bytes = unsigned_at bytes >>= λ n. if nat_lt 255 n.0 then None else Some n

unfoldable pub deliver_at : List ℕ → Option (Operation × List ℕ)
deliver_at bytes = do
  question ← unsigned_at bytes
  target ← target_at question.1
  verb ← text_at (length target.1) target.1
  count ← few_at verb.1
  args ← members_at free_at count.0 0 count.1
  Some (Deliver question.0 target.0 verb.0 args.value, args.rest)

unfoldable pub deliver_only_at : List ℕ → Option (Operation × List ℕ)
deliver_only_at bytes = do
  target ← target_at bytes
  verb ← text_at (length target.1) target.1
  count ← few_at verb.1
  args ← members_at free_at count.0 0 count.1
  Some (DeliverOnly target.0 verb.0 args.value, args.rest)

unfoldable pub resolve_at : List ℕ → Option (Operation × List ℕ)
resolve_at bytes = do
  subject ← subject_at bytes
  to ← outcome_at subject.1
  Some (Resolve subject.0 to.0, to.1)

unfoldable pub provide_at : List ℕ → Option (Operation × List ℕ)
provide_at bytes = do
  target ← target_at bytes
  s ← swiss_at target.1
  Some (Provide target.0 s.0, s.1)

unfoldable pub accept_at : List ℕ → Option (Operation × List ℕ)
accept_at bytes = do
  question ← unsigned_at bytes
  provider ← vat_at question.1
  s ← swiss_at provider.1
  Some (Accept question.0 provider.0 s.0, s.1)

unfoldable pub shorten_at : List ℕ → Option (Operation × List ℕ)
shorten_at bytes = do
  subject ← target_at bytes
  s ← swiss_at subject.1
  Some (Shorten subject.0 s.0, s.1)

-- the operation at the front
unfoldable pub op_at : List ℕ → Option (Operation × List ℕ)
op_at [] = None
op_at (b ∷ rest) =
    if b == 1 then deliver_at rest
    else if b == 2 then resolve_at rest
    else if b == 3 then provide_at rest
    else if b == 4 then accept_at rest
    else if b == 5 then shorten_at rest
    else if b == 6 then deliver_only_at rest
    else None
