-- The items of a frame from left to right, and the first place that is not allowed.
use Rattle.std.specs.Prelude.{ℕ, zero, suc, ◌-◌, Bool, true, false, not, nat_lt, ◌&&◌, ◌||◌, ◌==◌, if◌then◌else◌, List, [], ◌∷◌, ◌++◌, length, Option, Some, None}
use Rattle.def_op.specs.declared.kind.Kind.{Kind}
use Rattle.def_op.specs.declared.kind.Kind.TheVariants as kind
use Rattle.def_op.specs.declared.spots.Part.{Part}
use Rattle.def_op.specs.declared.spots.Part.TheVariants.{Code, Number, Vat, Swiss, Other}
use Rattle.def_op.specs.declared.spots.Spot.{Spot}
use Rattle.def_op.specs.declared.spots.Parts.{Parts}
use Rattle.def_op.specs.Reading.{◌>>=◌, unsigned_at, signed_at, swiss_at, vat_at, primitive_at, character_at, few_at, text_at, byte_where, kind_at, is_list, free_room}

-- the items so far with what goes on from there, or the items before the first that is not allowed, with its place
pub data Walk (A : Type 0) : Type 0 where
  On : List Spot → A → Walk A
  Off : List Spot → ℕ → Walk A

abbrev pub and_then : {A B : Type 0} → Walk A → (List Spot → A → Walk B) → Walk B
and_then (On spots x) f = f spots x
and_then (Off spots place) f = Off spots place

-- an item at the front of the bytes, where `total` bytes were there
abbrev pub item : {A : Type 0} → (A → Part) → ℕ → List Spot → List ℕ → Option (A × List ℕ) → Walk (A × List ℕ)
item part total spots bytes None = Off spots (total - length bytes)
item part total spots bytes (Some x) = On (spots ++ record { at = total - length bytes; part = part x.0 } ∷ []) x

-- the first byte of a description of each kind
abbrev pub code : Kind → ℕ
code kind.Null = 0
code kind.False = 1
code kind.True = 2
code kind.Integer = 3
code kind.Character = 4
code kind.Text = 5
code kind.List = 6
code kind.Primitive = 7
code kind.Broken = 8
code kind.YourExport = 9
code kind.YourAnswer = 10
code kind.MyExport = 11
code kind.MyPromise = 12
code kind.Third = 13
code kind.MyAnswer = 14

-- the room that is left to the lists round a description, and the bytes behind it
pub record Left : Type 0 where
  pub room : ℕ
  pub rest : List ℕ

abbrev pub left : ℕ → List ℕ → Left
left room rest = record { room = room; rest = rest }

abbrev pub walk_number : ℕ → List Spot → List ℕ → Walk (ℕ × List ℕ)
walk_number total spots bytes = item Number total spots bytes (unsigned_at bytes)

abbrev pub text_len_at : ℕ → List ℕ → Option (ℕ × List ℕ)
text_len_at room bytes = text_at room bytes >>= λ t. Some (length t.0, t.1)

-- what stands behind the first byte of a description that is no list
unfoldable pub walk_leaf : ℕ → Kind → ℕ → List Spot → List ℕ → Walk Left
walk_leaf total kind.Null room spots bytes = On spots (left room bytes)
walk_leaf total kind.False room spots bytes = On spots (left room bytes)
walk_leaf total kind.True room spots bytes = On spots (left room bytes)
walk_leaf total kind.Integer room spots bytes = and_then (item (λ _. Other) total spots bytes (signed_at bytes)) (λ s x. On s (left room x.1))
walk_leaf total kind.Character room spots bytes = and_then (item Number total spots bytes (character_at bytes)) (λ s x. On s (left room x.1))
walk_leaf total kind.Text room spots bytes = and_then (item (λ _. Other) total spots bytes (text_len_at room bytes)) (λ s x. On s (left (room - x.0) x.1))
walk_leaf total kind.List room spots bytes = On spots (left room bytes)
walk_leaf total kind.Primitive room spots bytes = and_then (item Number total spots bytes (primitive_at bytes)) (λ s x. On s (left room x.1))
walk_leaf total kind.Broken room spots bytes = and_then (item (λ _. Other) total spots bytes (text_len_at room bytes)) (λ s x. On s (left (room - x.0) x.1))
walk_leaf total kind.Third room spots bytes = and_then (item Vat total spots bytes (vat_at bytes)) (λ s x. and_then (item Swiss total s x.1 (swiss_at x.1)) (λ t y. On t (left room y.1)))
walk_leaf total k room spots bytes = and_then (walk_number total spots bytes) (λ s x. On s (left room x.1))

-- whether a description of this kind may begin here: it adds 1 to each list round it, and a list is one higher
abbrev pub may_begin : ℕ → ℕ → Kind → Bool
may_begin height room k = nat_lt 0 room && (not (is_list k) || nat_lt 0 height)

-- the first byte of a description, where so many lists may stand in each other
abbrev pub opening_at : ℕ → ℕ → List ℕ → Option (Kind × List ℕ)
opening_at height room bytes = kind_at bytes >>= λ k. if may_begin height room k.0 then Some k else None

-- so many descriptions, each walked so
unfoldable pub walk_members : (ℕ → List Spot → List ℕ → Walk Left) → ℕ → ℕ → List Spot → List ℕ → Walk Left
walk_members one zero room spots bytes = On spots (left room bytes)
walk_members one (suc n) room spots bytes = and_then (one room spots bytes) (λ s x. walk_members one n x.room s x.rest)

-- a list behind its first byte
unfoldable pub walk_list : ℕ → (ℕ → List Spot → List ℕ → Walk Left) → ℕ → List Spot → List ℕ → Walk Left
walk_list total one room spots bytes = and_then (walk_number total spots bytes) (λ s n. walk_members one n.0 room s n.1)

abbrev pub no_walk : ℕ → List Spot → List ℕ → Walk Left
no_walk room spots bytes = On spots (left room bytes)

unfoldable pub walk_first : ℕ → ℕ → (ℕ → List Spot → List ℕ → Walk Left) → ℕ → List Spot → List ℕ → Walk Left
walk_first total height lists room spots bytes =
    and_then (item (λ k. Code (code k)) total spots bytes (opening_at height room bytes))
    (λ s k. if is_list k.0 then lists (room - 1) s k.1 else walk_leaf total k.0 (room - 1) s k.1)

unfoldable pub walk_desc : ℕ → ℕ → ℕ → List Spot → List ℕ → Walk Left
walk_desc total zero = walk_first total zero no_walk
walk_desc total (suc height) = walk_first total (suc height) (walk_list total (walk_desc total height))

-- a description round which no list stands
unfoldable pub walk_free : ℕ → ℕ → List Spot → List ℕ → Walk Left
walk_free total room spots bytes = and_then (walk_desc total 100 (free_room bytes) spots bytes) (λ s x. On s (left room x.rest))

abbrev pub walk_member : ℕ → Option ℕ → ℕ → List Spot → List ℕ → Walk Left
walk_member total None = walk_free total
walk_member total (Some height) = walk_desc total height

-- a description of a target or subject: its first byte, of one of two kinds, and a number
abbrev pub kind_where : (Kind → Bool) → List ℕ → Option (Kind × List ℕ)
kind_where test bytes = kind_at bytes >>= λ k. if test k.0 then Some k else None

abbrev pub is_target : Kind → Bool
is_target kind.YourExport = true
is_target kind.YourAnswer = true
is_target k = false

abbrev pub is_subject : Kind → Bool
is_subject kind.MyPromise = true
is_subject kind.MyAnswer = true
is_subject k = false

unfoldable pub walk_named : (Kind → Bool) → ℕ → List Spot → List ℕ → Walk (List ℕ)
walk_named test total spots bytes =
    and_then (item (λ k. Code (code k)) total spots bytes (kind_where test bytes))
    (λ s k. and_then (walk_number total s k.1) (λ t n. On t n.1))

abbrev pub walk_swiss : ℕ → List Spot → List ℕ → Walk (List ℕ)
walk_swiss total spots bytes = and_then (item Swiss total spots bytes (swiss_at bytes)) (λ s x. On s x.1)

abbrev pub walk_vat : ℕ → List Spot → List ℕ → Walk (List ℕ)
walk_vat total spots bytes = and_then (item Vat total spots bytes (vat_at bytes)) (λ s x. On s x.1)

abbrev pub walk_text : ℕ → List Spot → List ℕ → Walk (List ℕ)
walk_text total spots bytes = and_then (item (λ _. Other) total spots bytes (text_len_at (length bytes) bytes)) (λ s x. On s x.1)

-- what a subject came to: `0f` and a vat, or a description
unfoldable pub walk_outcome : ℕ → List Spot → List ℕ → Walk (List ℕ)
walk_outcome total spots [] = and_then (walk_free total 0 spots []) (λ s x. On s x.rest)
walk_outcome total spots (b ∷ rest) =
    if b == 15 then and_then (item Code total spots (b ∷ rest) (Some (b, rest))) (λ s x. walk_vat total s x.1)
    else and_then (walk_free total 0 spots (b ∷ rest)) (λ s x. On s x.rest)

-- a message: its target, verb and arguments
unfoldable pub walk_message : ℕ → List Spot → List ℕ → Walk (List ℕ)
walk_message total spots bytes =
    and_then (walk_named is_target total spots bytes) (λ t target.
    and_then (walk_text total t target) (λ u verb.
    and_then (item Number total u verb (few_at verb)) (λ v count.
    and_then (walk_members (walk_free total) count.0 0 v count.1) (λ w args. On w args.rest))))

unfoldable pub walk_deliver : ℕ → List Spot → List ℕ → Walk (List ℕ)
walk_deliver total spots bytes = and_then (walk_number total spots bytes) (λ s question. walk_message total s question.1)

unfoldable pub walk_resolve : ℕ → List Spot → List ℕ → Walk (List ℕ)
walk_resolve total spots bytes = and_then (walk_named is_subject total spots bytes) (λ s subject. walk_outcome total s subject)

unfoldable pub walk_provide : ℕ → List Spot → List ℕ → Walk (List ℕ)
walk_provide total spots bytes = and_then (walk_named is_target total spots bytes) (λ s target. walk_swiss total s target)

unfoldable pub walk_accept : ℕ → List Spot → List ℕ → Walk (List ℕ)
walk_accept total spots bytes =
    and_then (walk_number total spots bytes) (λ s question.
    and_then (walk_vat total s question.1) (λ t provider. walk_swiss total t provider))

-- the byte of an operation
abbrev pub is_op : ℕ → Bool
is_op b = nat_lt 0 b && nat_lt b 7

unfoldable pub walk_op : ℕ → List Spot → List ℕ → Walk (List ℕ)
walk_op total spots bytes =
    and_then (item Code total spots bytes (byte_where is_op bytes)) (λ s b.
    if b.0 == 1 then walk_deliver total s b.1
    else if b.0 == 2 then walk_resolve total s b.1
    else if b.0 == 4 then walk_accept total s b.1
    else if b.0 == 6 then walk_message total s b.1
    else walk_provide total s b.1)

-- the items, and the place behind the operation where bytes follow it
abbrev pub parts_of : List ℕ → Walk (List ℕ) → Parts
parts_of bytes (On spots rest) = record { spots = spots; stop = if length rest == 0 then None else Some (length bytes - length rest) }
parts_of bytes (Off spots place) = record { spots = spots; stop = Some place }

-- the items of the bytes that are allowed, from left to right, and the place of the first that is not
abbrev pub items_of : List ℕ → Parts
items_of bytes = parts_of bytes (walk_op (length bytes) [] bytes)
