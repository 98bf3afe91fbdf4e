-- A list is within the limits of the heap exactly where it is within those of the machine.
use Rattle.std.proofs.Common.{◌≡◌, ℕ, zero, suc, ◌+◌, ◌-◌, ◌<◌, ◌≤◌, nat_lt, nat_le, ◌&&◌, Bool, true, false, List, [], ◌∷◌, ◌++◌, Option, Some, None, length, map, fold, refl, sym, ap, ◌∙◌, arith}
use Rattle.std.specs.Prelude.{if◌then◌else◌, slice_get, option_map, unwrap_or, max}
use Rattle.std.proofs.lemmas.Bool.Decides.{nat_tests}
use Rattle.ev_base.specs.declared.values.Value.{Value as Held}
use Rattle.ev_base.specs.declared.values.Value.TheVariants as held
use Rattle.ev_heap.specs.Contents.{Contents, size_of, weight_in, height_in, weight_of, height_of, is_light}
use Rattle.ev_heap.specs.declared.kept.Listed.{Listed}
use Rattle.def_machine.specs.Values.{Words, Value, Null, Flag, Number, Letter, Text, Prim, Broken, Items, Ref, Local, Obj, Prom, Far}
use Rattle.def_machine.specs.Native.{list_at}
use Rattle.def_machine.specs.Refs.{own_weight, take_room, room_behind, room_by, room_after, most, highest, has_room, list_fits}
use Rattle.ev_pass.specs.declared.interior.Interior.{Interior}
use Rattle.ev_prims.specs.Reading.{text_in}
use Rattle.ev_prims.proofs.Means.{lists_are}
use Rattle.ev_room.specs.Reading.{World, text_of, value_of, values_of, members_of}
use Rattle.ev_room.specs.Sound.{Each, IsListed, is_there, are_there, problems}
use Rattle.ev_room.proofs.Cells.{stands_at}
use Rattle.law_evaluation.proofs.Acts.Sounds.{got_front}
use Rattle.ev_room.proofs.There.{both, below}

-- ---- the texts of the end

-- a heap's texts stand first among those of the end
abbrev pub IsFront : World → Contents → Type 0
IsFront w h = (rest : List Words) × (problems ++ w.texts ≡ h.texts ++ rest)

-- an inside comes before the end of the turn: its texts stand first among those of the end, and words are drawn under the same key
abbrev pub IsBefore : World → Interior → Type 0
IsBefore w i = IsFront w i.heap × (i.words.key ≡ w.key)

pub same_text : (w : World) (h : Contents) → IsFront w h → (id : ℕ) → nat_lt id (length h.texts) ≡ true → text_of w id ≡ text_in h id
same_text w h f id t =
    ap (λ (ts : List Words). unwrap_or (slice_get ts id) []) f.1
    ∙ ap (λ (o : Option Words). unwrap_or o []) (got_front h.texts f.0 id (below id (length h.texts) t))

-- ---- rooms

-- what is left of a room behind so much weight, at most so high
unfoldable left_of : ℕ → ℕ → ℕ → ℕ → Option ℕ
left_of weight height d room = if nat_le weight room then (if nat_le height d then Some (room - weight) else None) else None

le_true : (a b : ℕ) → a ≤ b → nat_le a b ≡ true
le_true a b h = grind (arith, nat_tests)

same_room : (b : Bool) (n d : ℕ) → elim b as (λ c. Option ℕ) [ true ↦ Some n | false ↦ None ] ≡ (if b then (if nat_le 0 d then Some n else None) else None)
same_room true n d = rw (le_true 0 d (omega arith)) refl
same_room false n d = refl

flat : (n d room : ℕ) → take_room n room ≡ left_of n 0 d room
unfolding take_room left_of
flat n d room = same_room (nat_le n room) (room - n) d

le_false : (a b : ℕ) → b < a → nat_le a b ≡ false
le_false a b h = grind (arith, nat_tests)

of_le : (a b : ℕ) → nat_le a b ≡ true → a ≤ b
of_le a b h = grind (arith, nat_tests)

of_not_le : (a b : ℕ) → nat_le a b ≡ false → b < a
of_not_le a b h = grind (arith, nat_tests)

max_left : (a b : ℕ) → a ≤ max a b
max_left a b = grind (arith, nat_tests)

max_right : (a b : ℕ) → b ≤ max a b
max_right a b = grind (arith, nat_tests)

max_below : (a b d : ℕ) → a ≤ d → b ≤ d → max a b ≤ d
max_below a b d h k = grind (arith, nat_tests)

-- it fits, or it is too heavy or too high
is_left : (weight height d room : ℕ) → weight ≤ room → height ≤ d → left_of weight height d room ≡ Some (room - weight)
unfolding left_of
is_left weight height d room h k = rw (le_true weight room h, le_true height d k) refl

is_heavy : (weight height d room : ℕ) → room < weight → left_of weight height d room ≡ None
unfolding left_of
is_heavy weight height d room h = rw (le_false weight room h) refl

either_way : (b c : Bool) (n : ℕ) → c ≡ false → (if b then (if c then Some n else None) else None) ≡ None
either_way true c n e = rw e refl
either_way false c n e = refl

is_high : (weight height d room : ℕ) → d < height → left_of weight height d room ≡ None
unfolding left_of
is_high weight height d room h = either_way (nat_le weight room) (nat_le height d) (room - weight) (le_false height d h)

nothing_left : (d room : ℕ) → Some room ≡ left_of 0 0 d room
nothing_left d room =
    let e : room - 0 ≡ room = omega arith in
    sym (is_left 0 0 d room (omega arith) (omega arith) ∙ ap (λ (n : ℕ). Some n) e)

-- one part and then others
swapped : (o : Option ℕ) (f g : ℕ → Option ℕ) → ((left : ℕ) → f left ≡ g left)
    → elim o as (λ c. Option ℕ) [ Some left ↦ f left | None ↦ None ] ≡ elim o as (λ c. Option ℕ) [ Some left ↦ g left | None ↦ None ]
swapped (Some left) f g h = h left
swapped None f g h = refl

one_more : (a s p q d room : ℕ) (b c : Bool) → nat_le a room ≡ b → nat_le p d ≡ c
    → elim (left_of a p d room) as (λ o. Option ℕ) [ Some left ↦ left_of s q d left | None ↦ None ] ≡ left_of (a + s) (max p q) d room
one_more a s p q d room false c e f =
    let h = of_not_le a room e in
    ap (λ (o : Option ℕ). elim o as (λ x. Option ℕ) [ Some left ↦ left_of s q d left | None ↦ None ]) (is_heavy a p d room h)
    ∙ sym (is_heavy (a + s) (max p q) d room (omega arith))
one_more a s p q d room true false e f =
    let h = of_not_le p d f in
    let m = max_left p q in
    ap (λ (o : Option ℕ). elim o as (λ x. Option ℕ) [ Some left ↦ left_of s q d left | None ↦ None ]) (is_high a p d room h)
    ∙ sym (is_high (a + s) (max p q) d room (omega arith))
one_more a s p q d room true true e f =
    ap (λ (o : Option ℕ). elim o as (λ x. Option ℕ) [ Some left ↦ left_of s q d left | None ↦ None ]) (is_left a p d room (of_le a room e) (of_le p d f))
    ∙ rest (nat_le s (room - a)) (nat_le q d) refl refl
  where
    rest : (b c : Bool) → nat_le s (room - a) ≡ b → nat_le q d ≡ c → left_of s q d (room - a) ≡ left_of (a + s) (max p q) d room
    rest false c g k =
        let h = of_not_le s (room - a) g in
        let l = of_le a room e in
        is_heavy s q d (room - a) h ∙ sym (is_heavy (a + s) (max p q) d room (omega arith))
    rest true false g k =
        let h = of_not_le q d k in
        let m = max_right p q in
        is_high s q d (room - a) h ∙ sym (is_high (a + s) (max p q) d room (omega arith))
    rest true true g k =
        let h = of_le s (room - a) g in
        let l = of_le a room e in
        let left : room - a - s ≡ room - (a + s) = omega arith in
        is_left s q d (room - a) h (of_le q d k) ∙ ap (λ (n : ℕ). Some n) left
        ∙ sym (is_left (a + s) (max p q) d room (omega arith) (max_below p q d (of_le p d f) (of_le q d k)))

-- a list round all of these
one_round : (s q d room : ℕ) (b : Bool) → nat_le 1 room ≡ b
    → elim (take_room 1 room) as (λ o. Option ℕ) [ Some left ↦ left_of s q d left | None ↦ None ] ≡ left_of (s + 1) (q + 1) (suc d) room
one_round s q d room b e =
    ap (λ (o : Option ℕ). elim o as (λ x. Option ℕ) [ Some left ↦ left_of s q d left | None ↦ None ]) (flat 1 d room)
    ∙ one_more 1 s 0 q d room b true e (le_true 0 d (omega arith))
    ∙ higher (nat_le (1 + s) room) (nat_le (max 0 q) d) refl refl
  where
    zero_max : max 0 q ≡ q
    zero_max = grind (arith, nat_tests)

    higher : (b c : Bool) → nat_le (1 + s) room ≡ b → nat_le (max 0 q) d ≡ c → left_of (1 + s) (max 0 q) d room ≡ left_of (s + 1) (q + 1) (suc d) room
    higher false c g k =
        let h = of_not_le (1 + s) room g in
        is_heavy (1 + s) (max 0 q) d room h ∙ sym (is_heavy (s + 1) (q + 1) (suc d) room (omega arith))
    higher true false g k =
        let h = of_not_le (max 0 q) d k in
        let z = zero_max in
        is_high (1 + s) (max 0 q) d room h ∙ sym (is_high (s + 1) (q + 1) (suc d) room (omega arith))
    higher true true g k =
        let h = of_le (1 + s) room g in
        let l = of_le (max 0 q) d k in
        let z = zero_max in
        let left : room - (1 + s) ≡ room - (s + 1) = omega arith in
        is_left (1 + s) (max 0 q) d room h l ∙ ap (λ (n : ℕ). Some n) left ∙ sym (is_left (s + 1) (q + 1) (suc d) room (omega arith) (omega arith))

-- ---- sums and greatest heights

sum_from : (f : Held → ℕ) (n : ℕ) (vs : List Held) → fold (λ x v. x + f v) n vs ≡ n + fold (λ x v. x + f v) 0 vs
sum_from f n [] = omega arith
sum_from f n (v ∷ vs) =
    let one = sum_from f (n + f v) vs in
    let two = sum_from f (0 + f v) vs in
    omega arith

max_assoc : (a b c : ℕ) → max (max a b) c ≡ max a (max b c)
max_assoc a b c = grind (arith, nat_tests)

max_none : (a : ℕ) → a ≡ max a 0
max_none a = grind (arith, nat_tests)

pub none_max : (a : ℕ) → max 0 a ≡ a
none_max a = grind (arith, nat_tests)

pub most_from : (f : Held → ℕ) (n : ℕ) (vs : List Held) → fold (λ x v. max x (f v)) n vs ≡ max n (fold (λ x v. max x (f v)) 0 vs)
most_from f n [] = max_none n
most_from f n (v ∷ vs) =
    most_from f (max n (f v)) vs ∙ max_assoc n (f v) (fold (λ x v. max x (f v)) 0 vs)
    ∙ ap (max n) (sym (most_from f (max 0 (f v)) vs ∙ ap (λ (m : ℕ). max m (fold (λ x v. max x (f v)) 0 vs)) (none_max (f v))))

-- ---- the limits

room_some : (n : ℕ) → has_room (Some n) ≡ true
unfolding has_room
room_some n = refl

room_none : has_room None ≡ false
unfolding has_room
room_none = refl

and_first : (a b : Bool) → a ≡ false → (a && b) ≡ false
and_first true b e = absurd (cc)
and_first false b e = refl

and_second : (a b : Bool) → b ≡ false → (a && b) ≡ false
and_second true b e = e
and_second false b e = refl

and_both : (a b : Bool) → a ≡ true → b ≡ true → (a && b) ≡ true
and_both true b e f = f
and_both false b e f = absurd (cc)

fits_by : (s q : ℕ) (b c : Bool) → nat_le s 65535 ≡ b → nat_le q 99 ≡ c → has_room (left_of s q 99 65535) ≡ (nat_le (s + 1) 65536 && nat_le (q + 1) 100)
fits_by s q false c e f =
    let g = of_not_le s 65535 e in
    ap has_room (is_heavy s q 99 65535 g) ∙ room_none ∙ sym (and_first (nat_le (s + 1) 65536) (nat_le (q + 1) 100) (le_false (s + 1) 65536 (omega arith)))
fits_by s q true false e f =
    let k = of_not_le q 99 f in
    ap has_room (is_high s q 99 65535 k) ∙ room_none ∙ sym (and_second (nat_le (s + 1) 65536) (nat_le (q + 1) 100) (le_false (q + 1) 100 (omega arith)))
fits_by s q true true e f =
    let g = of_le s 65535 e in
    let k = of_le q 99 f in
    ap has_room (is_left s q 99 65535 g k) ∙ room_some (65535 - s)
    ∙ sym (and_both (nat_le (s + 1) 65536) (nat_le (q + 1) 100) (le_true (s + 1) 65536 (omega arith)) (le_true (q + 1) 100 (omega arith)))

-- ---- values

abbrev is_no_list : Value Local → Bool
is_no_list (Items k) = false
is_no_list _ = true

abbrev one_weight : Value Local → Bool
one_weight (Text u) = false
one_weight (Broken u) = false
one_weight _ = true

one_own : (x : Value Local) → one_weight x ≡ true → own_weight x ≡ 1
unfolding own_weight
one_own (Text u) e = absurd (cc)
one_own (Broken u) e = absurd (cc)
one_own _ e = refl

size_is : (o : Option Words) → length (unwrap_or o []) ≡ size_of o
size_is (Some u) = refl
size_is None = refl

module _ (w : World) (h : Contents) (front : IsFront w h) (sound : Each (IsListed h) h.lists) where
  abbrev lists : List (List (Value Local))
  lists = map (members_of w) h.lists

  no_list : (d : ℕ) (x : Value Local) (room : ℕ) → is_no_list x ≡ true → room_after (λ (y : Value Local). y) lists d x room ≡ take_room (own_weight x) room
  unfolding room_after room_by
  no_list d (Items k) room e = absurd (cc)
  no_list zero _ room e = refl
  no_list (suc d) _ room e = refl

  text_weight : (id : ℕ) → nat_lt id (length h.texts) ≡ true → 1 + length (text_of w id) ≡ size_of (slice_get h.texts id) + 1
  text_weight id t =
      let e : length (text_of w id) ≡ size_of (slice_get h.texts id) = ap (length {A = ℕ}) (same_text w h front id t) ∙ size_is (slice_get h.texts id) in
      omega arith

  text_own : (id : ℕ) → nat_lt id (length h.texts) ≡ true → own_weight (value_of w (held.Text id)) ≡ size_of (slice_get h.texts id) + 1
  unfolding own_weight
  text_own id t = text_weight id t

  broken_own : (id : ℕ) → nat_lt id (length h.texts) ≡ true → own_weight (value_of w (held.Broken id)) ≡ size_of (slice_get h.texts id) + 1
  unfolding own_weight
  broken_own id t = text_weight id t

  abbrev part : ℕ → Value Local → ℕ → Option ℕ
  part d = λ (x : Value Local) (left : ℕ). room_after (λ (y : Value Local). y) lists d x left

  behind_more : (f : Value Local → ℕ → Option ℕ) (x : Value Local) (xs : List (Value Local)) (room : ℕ)
      → room_behind f (x ∷ xs) room ≡ elim (f x room) as (λ c. Option ℕ) [ Some left ↦ room_behind f xs left | None ↦ None ]
  unfolding room_behind
  behind_more f x xs room = refl

  behind_none : (f : Value Local → ℕ → Option ℕ) (room : ℕ) → room_behind f [] room ≡ Some room
  unfolding room_behind
  behind_none f room = refl

  abbrev IsLeft : ℕ → Type 0
  IsLeft d = (v : Held) → is_there h v ≡ true → (room : ℕ) → room_after (λ (y : Value Local). y) lists d (value_of w v) room ≡ left_of (weight_of h v) (height_of h v) d room

  abbrev sum : List Held → ℕ
  sum vs = fold (λ x v. x + weight_of h v) 0 vs

  abbrev top : List Held → ℕ
  top vs = fold (λ x v. max x (height_of h v)) 0 vs

  sum_more : (v : Held) (vs : List Held) → sum (v ∷ vs) ≡ weight_of h v + sum vs
  sum_more v vs =
      let e : 0 + weight_of h v ≡ weight_of h v = omega arith in
      sum_from (weight_of h) (0 + weight_of h v) vs ∙ ap (λ (n : ℕ). n + sum vs) e

  top_more : (v : Held) (vs : List Held) → top (v ∷ vs) ≡ max (height_of h v) (top vs)
  top_more v vs = most_from (height_of h) (max 0 (height_of h v)) vs ∙ ap (λ (m : ℕ). max m (top vs)) (none_max (height_of h v))

  -- all of these, where each part is as it should be
  all_behind : (d : ℕ) → IsLeft d → (vs : List Held) → are_there h vs ≡ true → (room : ℕ) → room_behind (part d) (values_of w vs) room ≡ left_of (sum vs) (top vs) d room
  all_behind d each [] t room = behind_none (part d) room ∙ nothing_left d room
  all_behind d each (v ∷ vs) t room =
      let s = both (is_there h v) (are_there h vs) t in
      behind_more (part d) (value_of w v) (values_of w vs) room
      ∙ ap (λ (o : Option ℕ). elim o as (λ c. Option ℕ) [ Some left ↦ room_behind (part d) (values_of w vs) left | None ↦ None ]) (each v s.0 room)
      ∙ swapped (left_of (weight_of h v) (height_of h v) d room) (λ left. room_behind (part d) (values_of w vs) left) (λ left. left_of (sum vs) (top vs) d left) (λ left. all_behind d each vs s.1 left)
      ∙ one_more (weight_of h v) (sum vs) (height_of h v) (top vs) d room (nat_le (weight_of h v) room) (nat_le (height_of h v) d) refl refl
      ∙ ap (λ (n : ℕ). left_of n (max (height_of h v) (top vs)) d room) (sym (sum_more v vs))
      ∙ ap (λ (n : ℕ). left_of (sum (v ∷ vs)) n d room) (sym (top_more v vs))

  listed_of : (id : ℕ) → nat_lt id (length h.lists) ≡ true → (l : Listed) × ((slice_get h.lists id ≡ Some l) × IsListed h l)
  listed_of id t =
      let p = stands_at h.lists id (below id (length h.lists) t) in
      (p.0, (p.1, sound id p.0 p.1))

  members_are : (id : ℕ) (l : Listed) → slice_get h.lists id ≡ Some l → list_at lists id ≡ values_of w l.members
  members_are id l e = lists_are (text_of w) h.lists id ∙ ap (λ (o : Option Listed). values_of w (unwrap_or (option_map (λ (m : Listed). m.members) o) [])) e

  weight_is : (id : ℕ) (l : Listed) → slice_get h.lists id ≡ Some l → IsListed h l → weight_of h (held.List id) ≡ sum l.members + 1
  weight_is id l e s = ap weight_in e ∙ ap (λ (m : Listed). m.weight) s.0

  height_is : (id : ℕ) (l : Listed) → slice_get h.lists id ≡ Some l → IsListed h l → height_of h (held.List id) ≡ top l.members + 1
  height_is id l e s = ap height_in e ∙ ap (λ (m : Listed). m.height) s.0

  none_left : (o : Option ℕ) → elim o as (λ c. Option ℕ) [ Some left ↦ None | None ↦ None ] ≡ None
  none_left (Some left) = refl
  none_left None = refl

  list_none : (id room : ℕ) → room_after (λ (y : Value Local). y) lists zero (Items id) room ≡ None
  unfolding room_after room_by
  list_none id room = none_left (take_room 1 room)

  list_some : (d id room : ℕ) → room_after (λ (y : Value Local). y) lists (suc d) (Items id) room ≡ elim (take_room 1 room) as (λ c. Option ℕ) [ Some left ↦ room_behind (part d) (list_at lists id) left | None ↦ None ]
  unfolding room_after room_by
  list_some d id room = refl

  lowest : (id room : ℕ) → nat_lt id (length h.lists) ≡ true → room_after (λ (y : Value Local). y) lists zero (Items id) room ≡ left_of (weight_of h (held.List id)) (height_of h (held.List id)) zero room
  lowest id room t =
      let l = listed_of id t in
      let high : height_of h (held.List id) ≡ top l.0.members + 1 = height_is id l.0 l.1.0 l.1.1 in
      list_none id room ∙ sym (is_high (weight_of h (held.List id)) (height_of h (held.List id)) zero room (omega arith))

  round : (d id room : ℕ) → IsLeft d → nat_lt id (length h.lists) ≡ true → room_after (λ (y : Value Local). y) lists (suc d) (Items id) room ≡ left_of (weight_of h (held.List id)) (height_of h (held.List id)) (suc d) room
  round d id room each t =
      let l = listed_of id t in
      list_some d id room
      ∙ ap (λ (vs : List (Value Local)). elim (take_room 1 room) as (λ c. Option ℕ) [ Some left ↦ room_behind (part d) vs left | None ↦ None ]) (members_are id l.0 l.1.0)
      ∙ swapped (take_room 1 room) (λ left. room_behind (part d) (values_of w l.0.members) left) (λ left. left_of (sum l.0.members) (top l.0.members) d left) (λ left. all_behind d each l.0.members l.1.1.1 left)
      ∙ one_round (sum l.0.members) (top l.0.members) d room (nat_le 1 room) refl
      ∙ ap (λ (n : ℕ). left_of n (top l.0.members + 1) (suc d) room) (sym (weight_is id l.0 l.1.0 l.1.1))
      ∙ ap (λ (n : ℕ). left_of (weight_of h (held.List id)) n (suc d) room) (sym (height_is id l.0 l.1.0 l.1.1))

  -- what is no list
  alone : (d room : ℕ) (x : Value Local) (n : ℕ) → is_no_list x ≡ true → own_weight x ≡ n → room_after (λ (y : Value Local). y) lists d x room ≡ left_of n 0 d room
  alone d room x n k e = no_list d x room k ∙ ap (λ (m : ℕ). take_room m room) e ∙ flat n d room

  value_left : (d : ℕ) → IsLeft d
  value_left zero (held.List id) t room = lowest id room t
  value_left (suc d) (held.List id) t room = round d id room (value_left d) t
  value_left d (held.Text id) t room = alone d room (value_of w (held.Text id)) (size_of (slice_get h.texts id) + 1) refl (text_own id t)
  value_left d (held.Broken id) t room = alone d room (value_of w (held.Broken id)) (size_of (slice_get h.texts id) + 1) refl (broken_own id t)
  value_left d held.Null t room = alone d room Null 1 refl (one_own Null refl)
  value_left d (held.Bool b) t room = alone d room (Flag b) 1 refl (one_own (Flag b) refl)
  value_left d (held.Int z) t room = alone d room (Number z) 1 refl (one_own (Number z) refl)
  value_left d (held.Char c) t room = alone d room (Letter c) 1 refl (one_own (Letter c) refl)
  value_left d (held.Prim n) t room = alone d room (Prim n) 1 refl (one_own (Prim n) refl)
  value_left d (held.Obj i) t room = alone d room (Ref (Obj i)) 1 refl (one_own (Ref (Obj i)) refl)
  value_left d (held.Prom k) t room = alone d room (Ref (Prom k)) 1 refl (one_own (Ref (Prom k)) refl)
  value_left d (held.Far v p) t room = alone d room (Ref (Far v p)) 1 refl (one_own (Ref (Far v p)) refl)

  -- the limits of a list
  pub fits_is : (vs : List Held) → are_there h vs ≡ true → list_fits lists (values_of w vs) ≡ is_light h vs
  unfolding list_fits most highest
  fits_is vs t = ap has_room (all_behind 99 (value_left 99) vs t 65535) ∙ fits_by (sum vs) (top vs) (nat_le (sum vs) 65535) (nat_le (top vs) 99) refl refl
