-- When values in lines are the same, and when what a note tells is what it stands for.
use Rattle.std.specs.Prelude.{ℕ, ℤ, ◌==◌, Bool, true, false, ◌&&◌, ◌||◌, not, if◌then◌else◌, List, [], ◌∷◌, length}
use Rattle.std.specs.Str.{bytes_eq}
use Rattle.std.specs.Ordering.{int_eq}
use Rattle.ev_base.specs.declared.names.Name.{Name}
use Rattle.ev_base.specs.contracts.names.NamePartialEq.TheImpl.{eq-value}
use Rattle.def_event.specs.declared.shown.Shown.{Shown, Null, Bool as Flag, Int, Char, Text, Broken, Prim, List as ListOf, Slot, Name as Named, Members'}

unfoldable pub is_null : Shown → Bool
is_null Null = true
is_null _ = false

unfoldable pub is_flag : Bool → Shown → Bool
is_flag a (Flag b) = (a && b) || not (a || b)
is_flag a _ = false

unfoldable pub is_int : ℤ → Shown → Bool
is_int a (Int b) = int_eq a b
is_int a _ = false

unfoldable pub is_char : ℕ → Shown → Bool
is_char a (Char b) = a == b
is_char a _ = false

unfoldable pub is_text : List ℕ → Shown → Bool
is_text a (Text b) = bytes_eq a b
is_text a _ = false

unfoldable pub is_broken_so : List ℕ → Shown → Bool
is_broken_so a (Broken b) = bytes_eq a b
is_broken_so a _ = false

unfoldable pub is_prim : ℕ → Shown → Bool
is_prim a (Prim b) = a == b
is_prim a _ = false

unfoldable pub is_list_at : ℕ → ℕ → Shown → Bool
is_list_at v n (ListOf w m) = (v == w) && (n == m)
is_list_at v n _ = false

unfoldable pub is_slot_at : ℕ → ℕ → Shown → Bool
is_slot_at v n (Slot w m) = (v == w) && (n == m)
is_slot_at v n _ = false

unfoldable pub is_name : Name → Shown → Bool
is_name n (Named m) = eq-value.it n m
is_name n _ = false

-- the same value, and no list of a note, which no vat holds
unfoldable pub same : Shown → Shown → Bool
same Null y = is_null y
same (Flag a) y = is_flag a y
same (Int a) y = is_int a y
same (Char a) y = is_char a y
same (Text a) y = is_text a y
same (Broken a) y = is_broken_so a y
same (Prim a) y = is_prim a y
same (ListOf v n) y = is_list_at v n y
same (Slot v n) y = is_slot_at v n y
same (Named n) y = is_name n y
same (Members' shape members) y = false

unfoldable pub is_members : Shown → Bool
is_members (Members' shape members) = true
is_members _ = false

unfoldable pub is_list : Shown → Bool
is_list (ListOf v n) = true
is_list _ = false

-- of what a note tells, and of a value: a list comes in a note by its members
abbrev pub is_told_as : Shown → Shown → Bool
is_told_as note x = (is_members note && is_list x) || same note x

-- neither a name nor a list
unfoldable pub is_data : Shown → Bool
is_data (Named n) = false
is_data (ListOf v n) = false
is_data (Members' shape members) = false
is_data _ = true

-- data stays as it is, and a name may have come to be data
abbrev pub may_be : Shown → Shown → Bool
may_be x y = not (is_data x && is_data y) || same x y

-- one for one, as far as there are both
abbrev pub each_may_be : List Shown → List Shown → Bool
each_may_be [] ys = true
each_may_be (x ∷ xs) [] = true
each_may_be (x ∷ xs) (y ∷ ys) = if may_be x y then each_may_be xs ys else false

abbrev pub may_all_be : List Shown → List Shown → Bool
may_all_be xs ys = (length xs == length ys) && each_may_be xs ys

-- opens the definitions of this file
unfoldable pub opened_values : Unit {0}
unfolding is_null is_flag is_int is_char is_text is_broken_so is_prim is_list_at is_slot_at is_name same is_members is_list is_data
opened_values = tt
