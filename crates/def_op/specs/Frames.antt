-- What vats send each other, and the one spelling of it in bytes.
use Rattle.std.specs.Prelude.{◌≡◌, ℕ, ◌+◌, ◌<◌, ◌≤◌, ◌^◌, true, if◌then◌else◌, List, [], ◌∷◌, ◌++◌, length, max, pos, negsuc}
use Rattle.std.specs.Char.{IsScalar}
use Rattle.std.specs.Str.{IsUtf8}
use Rattle.def_op.specs.declared.op.Plain.{Plain}
use Rattle.def_op.specs.declared.op.Plain.TheVariants.{Null, Bool as Boolean, Int, Char, Text, Prim}
use Rattle.def_op.specs.Numbers.{unsigned, signed, swiss, is_primitive}

-- a description of a value, and a list of such
mutual
  pub data Described : Type 0 where
    Datum : Plain → Described
    ListOf : Members → Described
    Broken : List ℕ → Described
    YourExport : ℕ → Described
    YourAnswer : ℕ → Described
    MyExport : ℕ → Described
    MyPromise : ℕ → Described
    Third : ℕ → ℕ → Described
    MyAnswer : ℕ → Described

  pub data Members : Type 0 where
    none : Members
    more : Described → Members → Members

-- what a subject came to: a description, or a name of another vat
pub data Outcome : Type 0 where
  To : Described → Outcome
  Elsewhere : ℕ → Outcome

-- an operation; its arguments stand in this order
pub data Operation : Type 0 where
  -- question, target, verb, arguments
  Deliver : ℕ → Described → List ℕ → Members → Operation
  -- subject
  Resolve : Described → Outcome → Operation
  -- target, swiss number
  Provide : Described → ℕ → Operation
  -- question, provider, swiss number
  Accept : ℕ → ℕ → ℕ → Operation
  -- subject, swiss number
  Shorten : Described → ℕ → Operation
  -- target, verb, arguments of a message without an answer
  DeliverOnly : Described → List ℕ → Members → Operation

-- the members of a list
abbrev pub members : List Described → Members
members [] = none
members (d ∷ ds) = more d (members ds)

unfoldable pub count : Members → ℕ
count none = 0
count (more d ds) = 1 + count ds

-- a text: the count of its bytes, and its bytes
abbrev pub text_bytes : List ℕ → List ℕ
text_bytes text = unsigned (length text) ++ text

unfoldable pub plain_bytes : Plain → List ℕ
plain_bytes Null = 0 ∷ []
plain_bytes (Boolean b) = (if b then 2 else 1) ∷ []
plain_bytes (Int z) = 3 ∷ signed z
plain_bytes (Char c) = 4 ∷ unsigned c
plain_bytes (Text text) = 5 ∷ text_bytes text
plain_bytes (Prim p) = 7 ∷ p ∷ []

-- the spelling of a description, and of descriptions one after the other
unfoldable mutual
  pub desc_bytes : Described → List ℕ
  desc_bytes (Datum p) = plain_bytes p
  desc_bytes (ListOf ds) = 6 ∷ (unsigned (count ds) ++ members_bytes ds)
  desc_bytes (Broken text) = 8 ∷ text_bytes text
  desc_bytes (YourExport n) = 9 ∷ unsigned n
  desc_bytes (YourAnswer n) = 10 ∷ unsigned n
  desc_bytes (MyExport n) = 11 ∷ unsigned n
  desc_bytes (MyPromise n) = 12 ∷ unsigned n
  desc_bytes (Third host s) = 13 ∷ host ∷ swiss s
  desc_bytes (MyAnswer n) = 14 ∷ unsigned n

  pub members_bytes : Members → List ℕ
  members_bytes none = []
  members_bytes (more d ds) = desc_bytes d ++ members_bytes ds

unfoldable pub outcome_bytes : Outcome → List ℕ
outcome_bytes (To d) = desc_bytes d
outcome_bytes (Elsewhere host) = 15 ∷ host ∷ []

-- the one spelling of an operation
unfoldable pub spelling : Operation → List ℕ
spelling (Deliver question target verb args) =
    1 ∷ (unsigned question ++ (desc_bytes target ++ (text_bytes verb ++ (unsigned (count args) ++ members_bytes args))))
spelling (Resolve subject to) = 2 ∷ (desc_bytes subject ++ outcome_bytes to)
spelling (Provide target s) = 3 ∷ (desc_bytes target ++ swiss s)
spelling (Accept question provider s) = 4 ∷ (unsigned question ++ (provider ∷ swiss s))
spelling (Shorten subject s) = 5 ∷ (desc_bytes subject ++ swiss s)
spelling (DeliverOnly target verb args) = 6 ∷ (desc_bytes target ++ (text_bytes verb ++ (unsigned (count args) ++ members_bytes args)))

-- A text or a broken value weighs 1 and its bytes, a list 1 and its members, anything else 1.
unfoldable mutual
  pub weight : Described → ℕ
  weight (Datum (Text text)) = 1 + length text
  weight (Datum p) = 1
  weight (ListOf ds) = 1 + weights ds
  weight (Broken text) = 1 + length text
  weight d = 1

  pub weights : Members → ℕ
  weights none = 0
  weights (more d ds) = weight d + weights ds

-- how many lists stand in each other
unfoldable mutual
  pub height : Described → ℕ
  height (ListOf ds) = 1 + heights ds
  height d = 0

  pub heights : Members → ℕ
  heights none = 0
  heights (more d ds) = max (height d) (heights ds)

-- a text that has a spelling
abbrev pub IsText : List ℕ → Type 0
IsText text = (length text < 2 ^ 64) × IsUtf8 text

unfoldable pub PlainFits : Plain → Type 0
PlainFits (Int (pos n)) = n < 2 ^ 127
PlainFits (Int (negsuc n)) = n < 2 ^ 127
PlainFits (Char c) = IsScalar c
PlainFits (Text text) = IsText text
PlainFits (Prim p) = is_primitive p ≡ true
PlainFits p = Unit {0}

-- numbers below 2 ^ 64, vats below 16, swiss numbers of 16 bytes, texts in UTF-8
unfoldable mutual
  pub DescFits : Described → Type 0
  DescFits (Datum p) = PlainFits p
  DescFits (ListOf ds) = MembersFit ds
  DescFits (Broken text) = IsText text
  DescFits (YourExport n) = n < 2 ^ 64
  DescFits (YourAnswer n) = n < 2 ^ 64
  DescFits (MyExport n) = n < 2 ^ 64
  DescFits (MyPromise n) = n < 2 ^ 64
  DescFits (Third host s) = (host < 16) × (s < 2 ^ 128)
  DescFits (MyAnswer n) = n < 2 ^ 64

  pub MembersFit : Members → Type 0
  MembersFit none = Unit {0}
  MembersFit (more d ds) = DescFits d × MembersFit ds

-- a list weighs at most 65,536 and is at most 100 high
unfoldable pub WithinLimits : Described → Type 0
WithinLimits (ListOf ds) = (weight (ListOf ds) ≤ 65536) × (height (ListOf ds) ≤ 100)
WithinLimits d = Unit {0}

-- a description that has a spelling
abbrev pub IsDesc : Described → Type 0
IsDesc d = DescFits d × WithinLimits d

unfoldable pub AreDescs : Members → Type 0
AreDescs none = Unit {0}
AreDescs (more d ds) = IsDesc d × AreDescs ds

-- what is sent to: an object or promise of the receiver
unfoldable pub IsTarget : Described → Type 0
IsTarget (YourExport n) = n < 2 ^ 64
IsTarget (YourAnswer n) = n < 2 ^ 64
IsTarget d = ⊥

-- what the sender tells of: a promise of its own
unfoldable pub IsSubject : Described → Type 0
IsSubject (MyPromise n) = n < 2 ^ 64
IsSubject (MyAnswer n) = n < 2 ^ 64
IsSubject d = ⊥

unfoldable pub OutcomeFits : Outcome → Type 0
OutcomeFits (To d) = IsDesc d
OutcomeFits (Elsewhere host) = host < 16

-- an operation that has a spelling
unfoldable pub IsOp : Operation → Type 0
IsOp (Deliver question target verb args) = (question < 2 ^ 64) × IsTarget target × IsText verb × (count args ≤ 255) × AreDescs args
IsOp (Resolve subject to) = IsSubject subject × OutcomeFits to
IsOp (Provide target s) = IsTarget target × (s < 2 ^ 128)
IsOp (Accept question provider s) = (question < 2 ^ 64) × (provider < 16) × (s < 2 ^ 128)
IsOp (Shorten subject s) = IsTarget subject × (s < 2 ^ 128)
IsOp (DeliverOnly target verb args) = IsTarget target × IsText verb × (count args ≤ 255) × AreDescs args
