-- Whether the bytes of a frame are lawful from one vat at another, by what that one has in numbers for it, or else the place of the first fault.
use Rattle.std.specs.Prelude.{ℕ, zero, suc, Bool, true, false, not, nat_lt, ◌&&◌, ◌||◌, ◌==◌, List, [], ◌∷◌, ◌++◌, length, slice_get, Option, Some, None}
use Rattle.def_op.specs.declared.spots.Part.{Part}
use Rattle.def_op.specs.declared.spots.Part.TheVariants.{Code, Number, Vat, Swiss, Other}
use Rattle.def_op.specs.declared.spots.Spot.{Spot}
use Rattle.def_op.specs.Items.{items_of, walk_leaf, walk_members, walk_list, walk_first, walk_desc, walk_free, walk_named, walk_outcome, walk_message, walk_deliver, walk_resolve, walk_provide, walk_accept, walk_op}
use Rattle.def_op.specs.Reading as reading
use Rattle.def_op.specs.Reading.{op_at}
use Rattle.std.specs.Str.{is_utf8, chars}
use lib.Utf8.{encode, encodes}
use Rattle.def_op.specs.Frames.{Operation}

-- what the receiver has in numbers for the sender, as far as a judge looks at it
pub record Counts : Type 0 where
  pub exports : ℕ
  pub answers : ℕ
  pub questions : ℕ
  -- by position, whether it is an object
  pub imports : List Bool

-- What is known at an item: how many are in front of it, the operation's byte, the byte that stands right in front of it, if one does, and the new positions so far.
pub record Look : Type 0 where
  pub index : ℕ
  pub op : ℕ
  pub code : Option ℕ
  pub new : List Bool

pub data Judged : Type 0 where
  -- the new positions: whether each is an object
  Fine : List Bool → Judged
  Faulty : ℕ → Judged

-- an item passes, and what is known behind it; or it is a fault
pub data Passes : Type 0 where
  On : Look → Passes
  Off : Passes

unfoldable pub passes_where : Bool → Look → Passes
passes_where true l = On l
passes_where false l = Off

unfoldable pub onward : Option ℕ → Look → Look
onward code l = record l { index = suc l.index; code = code }

-- the first byte of a target that is a name, other than a new object's
unfoldable pub is_name_code : ℕ → Bool
is_name_code c = (c == 9) || (c == 10) || (c == 12) || (c == 13) || (c == 14)

module _ (vats me peer : ℕ) (c : Counts) where
  unfoldable pub asks : Look → Bool
  asks l = (l.index == 1) && ((l.op == 1) || (l.op == 4))

  unfoldable pub same_kind : Bool → Bool → Bool
  same_kind true b = b
  same_kind false b = not b

  -- a position with an object, or with a promise: one that is there is of that kind, and another is the next
  unfoldable pub position_passes : Bool → ℕ → Look → Option Bool → Passes
  position_passes object n l (Some k) = passes_where (same_kind k object) (onward None l)
  position_passes object n l None = passes_where (n == length (c.imports ++ l.new)) (onward None (record l { new = l.new ++ object ∷ [] }))

  -- a number behind that first byte
  unfoldable pub numbered_by : ℕ → Option ℕ → Look → Passes
  numbered_by n None l = On (onward None l)
  numbered_by n (Some b) l =
      elim (b == 9) [
        | true ↦ passes_where (nat_lt n c.exports) (onward None l)
        | false ↦
            elim (b == 10) [
              | true ↦ passes_where (nat_lt n c.answers) (onward None l)
              | false ↦
                  elim (b == 14) [
                    | true ↦ passes_where (nat_lt n c.questions) (onward None l)
                    | false ↦
                        elim (b == 11) [
                          | true ↦ position_passes true n l (slice_get (c.imports ++ l.new) n)
                          | false ↦
                              elim (b == 12) [ true ↦ position_passes false n l (slice_get (c.imports ++ l.new) n) | false ↦ On (onward None l) ]
                        ]
                  ]
            ]
      ]

  unfoldable pub number_passes : ℕ → Look → Passes
  number_passes n l = elim (asks l) [ true ↦ passes_where (n == c.answers) (onward None l) | false ↦ numbered_by n l.code l ]

  -- the host of a gift and the provider of one that is asked for are third vats; a vat to which a name settled is not the sender
  unfoldable pub is_elsewhere : Option ℕ → Bool
  is_elsewhere (Some b) = b == 15
  is_elsewhere None = false

  unfoldable pub vat_passes : ℕ → Look → Passes
  vat_passes v l = passes_where (nat_lt v vats && (not (v == peer) && (is_elsewhere l.code || not (v == me)))) (onward None l)

  unfoldable pub begins : Look → Bool
  begins l = l.index == 0

  -- what a name settled to is none of these
  unfoldable pub is_bad_target : ℕ → Look → Bool
  is_bad_target b l = (l.index == 3) && ((l.op == 2) && is_name_code b)

  unfoldable pub code_passes : ℕ → Look → Passes
  code_passes b l = elim (begins l) [ true ↦ On (record l { index = 1; op = b }) | false ↦ passes_where (not (is_bad_target b l)) (onward (Some b) l) ]

  unfoldable pub item_passes : Part → Look → Passes
  item_passes (Code b) l = code_passes b l
  item_passes (Number n) l = number_passes n l
  item_passes (Vat v) l = vat_passes v l
  item_passes (Swiss w) l = On (onward None l)
  item_passes Other l = On (onward None l)

  unfoldable pub judged_on : Spot → (Look → Judged) → Passes → Judged
  judged_on s rest (On l) = rest l
  judged_on s rest Off = Faulty s.at

  unfoldable pub judged : List Spot → Look → Judged
  judged [] l = Fine l.new
  judged (s ∷ ss) l = judged_on s (λ k. judged ss k) (item_passes s.part l)

unfoldable pub first_look : Look
first_look = record { index = zero; op = zero; code = None; new = [] }

pub data Verdict : Type 0 where
  -- what it says, and its new positions
  Lawful : Operation → List Bool → Verdict
  Malformed : ℕ → Verdict

unfoldable pub lawful_if : List Bool → Option (Operation × List ℕ) → Verdict
lawful_if new (Some x) = Lawful x.0 new
lawful_if new None = Malformed zero

unfoldable pub verdict_by : List ℕ → Option ℕ → Judged → Verdict
verdict_by bytes stop (Faulty place) = Malformed place
verdict_by bytes (Some place) (Fine new) = Malformed place
verdict_by bytes None (Fine new) = lawful_if new (op_at bytes)

unfoldable pub verdict : ℕ → ℕ → ℕ → Counts → List ℕ → Verdict
verdict vats me peer c bytes = verdict_by bytes (items_of bytes).stop (judged vats me peer c (items_of bytes).spots first_look)

-- opens each definition of this file, and of those below
unfoldable pub opened_judge : Unit {0}
unfolding passes_where onward is_name_code asks same_kind position_passes numbered_by number_passes is_elsewhere vat_passes begins is_bad_target code_passes item_passes judged judged_on first_look lawful_if verdict_by verdict walk_leaf walk_members walk_list walk_first walk_desc walk_free walk_named walk_outcome walk_message walk_deliver walk_resolve walk_provide walk_accept walk_op reading.digits_at reading.low_first_at reading.text_at reading.character_at reading.leaf_at reading.first_at reading.members_at reading.list_at reading.desc_at reading.free_at reading.target_behind reading.target_at reading.subject_behind reading.subject_at reading.outcome_at reading.deliver_at reading.deliver_only_at reading.resolve_at reading.provide_at reading.accept_at reading.shorten_at reading.op_at is_utf8 chars encode encodes
opened_judge = tt
