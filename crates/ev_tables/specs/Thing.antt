-- A value as a key: when two are the same, and what a hash is made of.
use Rattle.std.specs.Prelude.{ℕ, Bool, true, false, not, ◌&&◌, ◌==◌, ℤ}
use Rattle.std.specs.Ordering.{int_eq}
use Rattle.ev_base.specs.declared.values.Value.{Value}
use Rattle.ev_base.specs.declared.values.Value.TheVariants.{Null, Bool as Boolean, Int, Char, Text, List, Prim, Obj, Prom, Far, Broken}

abbrev pub is_null : Value → Bool
is_null Null = true
is_null v = false

abbrev pub is_boolean : Bool → Value → Bool
is_boolean true (Boolean c) = c
is_boolean false (Boolean c) = not c
is_boolean b v = false

abbrev pub is_integer : ℤ → Value → Bool
is_integer z (Int w) = int_eq z w
is_integer z v = false

abbrev pub is_character : ℕ → Value → Bool
is_character n (Char m) = n == m
is_character n v = false

abbrev pub is_text : ℕ → Value → Bool
is_text n (Text m) = n == m
is_text n v = false

abbrev pub is_list : ℕ → Value → Bool
is_list n (List m) = n == m
is_list n v = false

abbrev pub is_primitive : ℕ → Value → Bool
is_primitive n (Prim m) = n == m
is_primitive n v = false

abbrev pub is_object : ℕ → Value → Bool
is_object n (Obj m) = n == m
is_object n v = false

abbrev pub is_promise : ℕ → Value → Bool
is_promise n (Prom m) = n == m
is_promise n v = false

abbrev pub is_far : ℕ → ℕ → Value → Bool
is_far host n (Far other m) = (host == other) && (n == m)
is_far host n v = false

abbrev pub is_broken : ℕ → Value → Bool
is_broken n (Broken m) = n == m
is_broken n v = false

-- whether two values are one
unfoldable pub same_value : Value → Value → Bool
same_value Null = is_null
same_value (Boolean b) = is_boolean b
same_value (Int z) = is_integer z
same_value (Char n) = is_character n
same_value (Text n) = is_text n
same_value (List n) = is_list n
same_value (Prim n) = is_primitive n
same_value (Obj n) = is_object n
same_value (Prom n) = is_promise n
same_value (Far host n) = is_far host n
same_value (Broken n) = is_broken n

-- what a hash is made of: which of the named kinds a value is, and its number
abbrev pub mark : Value → ℕ
mark (Obj n) = 1
mark (Prom n) = 2
mark (Far host n) = 3
mark v = 0

abbrev pub number : Value → ℕ
number (Obj n) = n
number (Prom n) = n
number (Far host n) = n
number v = 0
