-- The values of E, and the names of things. Everything above is said for any type N of names.
use Rattle.std.specs.Prelude.{ℕ, ℤ, zero, suc, ◌*◌, ◌/◌, ◌%◌, Bool, true, false, List, ◌==◌, ◌&&◌}

-- a text, as its bytes in UTF-8
abbrev pub Words : Type 0
Words = List ℕ

-- a value: data, or the name of something
pub data Value (N : Type 0) : Type 0 where
  Null : Value N
  Flag : Bool → Value N
  -- an integer within 128 bits with a sign
  Number : ℤ → Value N
  -- a character, by its code
  Letter : ℕ → Value N
  Text : Words → Value N
  -- a primitive of the safe scope, by its number
  Prim : ℕ → Value N
  -- a broken reference, with its problem
  Broken : Words → Value N
  -- a list, by its number in the heap of its vat
  Items : ℕ → Value N
  Ref : N → Value N

-- message number n of a vat: v/n
pub record Msg : Type 0 where
  pub sender : ℕ
  pub number : ℕ

-- A name that every vat means the same by. Each has one host, the vat that it begins with.
pub data Name : Type 0 where
  -- @v, the root of a vat
  Root : ℕ → Name
  -- v.n, its object number n; ejectors, resolvers and auditions are counted with objects
  Object : ℕ → ℕ → Name
  -- v~n, the promise number n that it made by Ref.promise()
  Promise : ℕ → ℕ → Name
  -- h?m, the answer of message m at host h
  Answer : ℕ → Msg → Name
  -- the gift at host h under key i, which tells its provider and its word
  Gift : ℕ → ℕ → Name
  -- v/n, a message
  Sent : Msg → Name

abbrev pub same_msg : Msg → Msg → Bool
same_msg a b = (a.sender == b.sender) && (a.number == b.number)

unfoldable pub same_name : Name → Name → Bool
same_name (Root v) (Root w) = v == w
same_name (Object v i) (Object w j) = (v == w) && (i == j)
same_name (Promise v i) (Promise w j) = (v == w) && (i == j)
same_name (Answer v m) (Answer w n) = (v == w) && same_msg m n
same_name (Gift v i) (Gift w j) = (v == w) && (i == j)
same_name (Sent m) (Sent n) = same_msg m n
same_name _ _ = false

-- Whether two references name one thing. A message is no reference: a vat may have had one message twice, and counts it twice.
unfoldable pub same_reference : Name → Name → Bool
same_reference (Sent m) n = false
same_reference a b = same_name a b

-- what a name is at a vat, as far as the name itself tells
pub data Spot : Type 0 where
  -- what bears this number of this vat
  Own : ℕ → Spot
  -- an object of vat h
  Foreign : ℕ → Spot
  -- a promise or a root
  NoObject : Spot

-- How a name came to be known by a vat. W is how the notes of peers name things.
pub data Coming (N W : Type 0) : Type 0 where
  -- the root of that vat, known from the start
  IsRoot : ℕ → Coming N W
  -- the promise of that number that the vat made
  IsOwn : ℕ → Coming N W
  -- the answer, at that host, of this message
  IsAnswer : ℕ → N → Coming N W
  -- the gift at that host under that key
  IsGift : ℕ → ℕ → Coming N W
  -- learnt from a note, which names it so
  IsLearnt : W → Coming N W

-- How a message came to be at a vat: as its own message of that number, or in a note.
pub data Mailing (W : Type 0) : Type 0 where
  IsSent : ℕ → Mailing W
  IsCarried : W → Mailing W

-- How a vat names things, and the words that are drawn.
pub record Naming (N W : Type 0) : Type 0 where
  -- its object of that number
  pub object : ℕ → N
  -- the name that came so, as number k of the names that the vat knows
  pub made : Coming N W → ℕ → N
  -- the name of the message that came so, as number k of the vat's messages
  pub mailed : Mailing W → ℕ → N
  pub spot : N → Spot
  -- whether two references name one thing; a message is none
  pub same : N → N → Bool
  -- the word of each draw of the run
  pub word : ℕ → ℕ

-- ---- keys of gifts

-- A gift has a provider and a word. They are told by one number, its key: each number is the key of one provider and one word.
unfoldable pub key : ℕ → ℕ → ℕ
key zero word = 2 * word
key (suc p) word = suc (2 * key p word)

-- a key is halved until it is even, at most so many times
unfoldable pub word_in : ℕ → ℕ → ℕ
word_in zero i = zero
word_in (suc d) i = elim (i % 2 == 0) [ true ↦ i / 2 | false ↦ word_in d (i / 2) ]

unfoldable pub provider_in : ℕ → ℕ → ℕ
provider_in zero i = zero
provider_in (suc d) i = elim (i % 2 == 0) [ true ↦ zero | false ↦ suc (provider_in d (i / 2)) ]

unfoldable pub word_of : ℕ → ℕ
word_of i = word_in (suc i) i

unfoldable pub provider_of : ℕ → ℕ
provider_of i = provider_in (suc i) i

-- the key of the same word under that provider
unfoldable pub under : ℕ → ℕ → ℕ
under p i = key p (word_of i)

-- ---- global names

unfoldable pub spot_of : ℕ → Name → Spot
spot_of v (Object w n) = elim (v == w) [ true ↦ Own n | false ↦ Foreign w ]
spot_of v _ = NoObject

unfoldable pub answer_of : ℕ → Name → Name
answer_of h (Sent m) = Answer h m
answer_of h n = n

unfoldable pub mail_of : ℕ → Mailing Name → Name
mail_of v (IsSent i) = Sent (record { sender = v; number = i })
mail_of v (IsCarried n) = n

-- the name itself tells how it came
unfoldable pub name_of : ℕ → Coming Name Name → Name
name_of v (IsRoot w) = Root w
name_of v (IsOwn i) = Promise v i
name_of v (IsAnswer h m) = answer_of h m
name_of v (IsGift h i) = Gift h i
name_of v (IsLearnt n) = n

-- how vat v names things in the one global state
unfoldable pub naming : (ℕ → ℕ) → ℕ → Naming Name Name
naming word v = record { object = Object v; made = λ c k. name_of v c; mailed = λ c k. mail_of v c; spot = spot_of v; same = same_reference; word = word }

unfoldable pub host_of : Name → ℕ
host_of (Root v) = v
host_of (Object v i) = v
host_of (Promise v i) = v
host_of (Answer v m) = v
host_of (Gift v i) = v
host_of (Sent m) = m.sender

-- ---- local numbers

-- what the code of one vat has for names
pub data Local : Type 0 where
  -- an object of this vat
  Obj : ℕ → Local
  -- a promise or root, by the order in which the vat came to know it
  Prom : ℕ → Local
  -- an object of that vat, by its position among that vat's exports
  Far : ℕ → ℕ → Local
  -- a message, by the order in which it came to be at the vat
  Mess : ℕ → Local

-- whether two references are one; a message is none
unfoldable pub same_local : Local → Local → Bool
same_local (Obj i) (Obj j) = i == j
same_local (Prom i) (Prom j) = i == j
same_local (Far h p) (Far g q) = (h == g) && (p == q)
same_local _ _ = false

unfoldable pub local_spot : Local → Spot
local_spot (Obj i) = Own i
local_spot (Far h p) = Foreign h
local_spot (Prom i) = NoObject
local_spot (Mess i) = NoObject

unfoldable pub numbering : {W : Type 0} → (ℕ → ℕ) → Naming Local W
numbering word = record { object = Obj; made = λ c k. Prom k; mailed = λ c k. Mess k; spot = local_spot; same = same_local; word = word }

-- opens each definition of this file
unfoldable pub opened_values : Unit {0}
unfolding key word_in provider_in word_of provider_of under same_name same_reference spot_of name_of answer_of mail_of naming host_of same_local local_spot numbering
opened_values = tt
