-- Whether two values of a vat are the same, each followed, with their parts.
use Rattle.std.specs.Prelude.{ℕ, zero, suc, ◌==◌, Bool, true, false, not, if◌then◌else◌, List, [], ◌∷◌, length}
use Rattle.std.specs.Ordering.{int_eq}
use Rattle.std.specs.Str.{bytes_eq}
use Rattle.ev_base.specs.declared.values.Value.{Value}
use Rattle.ev_base.specs.declared.values.Value.TheVariants as held
use Rattle.def_machine.specs.Values.{Words}
use Rattle.ev_pass.specs.declared.interior.Interior.{Interior}
use Rattle.ev_prims.specs.Answers.{members_at}
use Rattle.ev_prims.specs.Reading.{text_in}
use Rattle.ev_refs.specs.Follow.{followed, place_of}
use Rattle.ev_refs.specs.declared.follow.Place.{Place}
use Rattle.ev_refs.specs.declared.follow.Place.TheVariants.{Mine, FarPromise}
use Rattle.ev_room.specs.Acts.{Act, give, fail}
use Rattle.ev_room.specs.Sound.{not_settled_id}
use Rattle.ev_room.specs.declared.exit.Exit.TheVariants.{Thrown}

-- ---- what is unsettled

abbrev pub is_unsettled : Place → Bool
is_unsettled (Mine n) = true
is_unsettled (FarPromise h n) = true
is_unsettled _ = false

abbrev pub any_of : (Value → Bool) → List Value → Bool
any_of f [] = false
any_of f (v ∷ vs) = if f v then true else any_of f vs

unfoldable pub open_by : Interior → (List Value → Bool) → Value → Bool
open_by i members (held.List k) = members (members_at i.heap k)
open_by i members y = is_unsettled (place_of i.refs y)

-- whether a followed part of it is unsettled, in lists of which at most so many stand one inside another
unfoldable pub is_open : Interior → ℕ → Value → Bool
is_open i zero x = open_by i (λ vs. false) (followed i.refs x)
is_open i (suc d) x = open_by i (any_of (λ v. is_open i d v)) (followed i.refs x)

-- ---- what is the same

-- what is no list: texts and problems by their words, anything else by its number
unfoldable pub same_plain : (ℕ → Words) → Value → Value → Bool
same_plain t held.Null held.Null = true
same_plain t (held.Bool a) (held.Bool b) = if a then b else not b
same_plain t (held.Int a) (held.Int b) = int_eq a b
same_plain t (held.Char a) (held.Char b) = a == b
same_plain t (held.Text a) (held.Text b) = bytes_eq (t a) (t b)
same_plain t (held.Prim a) (held.Prim b) = a == b
same_plain t (held.Obj a) (held.Obj b) = a == b
same_plain t (held.Prom a) (held.Prom b) = a == b
same_plain t (held.Far v p) (held.Far u q) = if v == u then p == q else false
same_plain t (held.Broken a) (held.Broken b) = bytes_eq (t a) (t b)
same_plain t _ _ = false

-- as many members, each the same as the one in its place
unfoldable pub all_same : (Value → Value → Bool) → List Value → List Value → Bool
all_same f [] [] = true
all_same f (x ∷ xs) (y ∷ ys) = if f x y then all_same f xs ys else false
all_same f [] (y ∷ ys) = false
all_same f (x ∷ xs) [] = false

-- lists by their members
unfoldable pub same_by : Interior → (List Value → List Value → Bool) → Value → Value → Bool
same_by i members (held.List a) (held.List b) = members (members_at i.heap a) (members_at i.heap b)
same_by i members x y = same_plain (text_in i.heap) x y

-- two values, each followed, in lists of which at most so many stand one inside another
unfoldable pub is_same : Interior → ℕ → Value → Value → Bool
is_same i zero x y = same_by i (λ vs ws. false) (followed i.refs x) (followed i.refs y)
is_same i (suc d) x y = same_by i (all_same (λ v w. is_same i d v w)) (followed i.refs x) (followed i.refs y)

unfoldable pub same_unless : Bool → Value → Value → Act Value
same_unless true x y = fail (Thrown not_settled_id)
same_unless false x y = λ s. give (held.Bool (is_same s (length s.heap.lists) x y)) s

-- Whether two values are the same, of which no part is unsettled: lists nest no deeper than there are lists, since none leads back to itself.
unfoldable pub same_ever : Value → Value → Act Value
same_ever x y = λ s. same_unless (if is_open s (length s.heap.lists) x then true else is_open s (length s.heap.lists) y) x y s
