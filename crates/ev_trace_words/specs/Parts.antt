-- What a word of digits and names stands for.
use Rattle.std.specs.Prelude.{ℕ, true, false, ◌+◌, ◌==◌, nat_lt, ◌||◌, ◌&&◌, if◌then◌else◌, List, length, codes, Some, None, option_map, option_and_then}
use Rattle.std.specs.declared.option.Option.{Option}
use Rattle.std.specs.List.{position_or_len, before_first, after_first}
use Rattle.std.specs.Str.{bytes_eq}
use Rattle.ev_base.specs.SafeScope.{safe_value}
use Rattle.ev_base.specs.declared.values.Value.{Value}
use Rattle.ev_base.specs.declared.values.Value.TheVariants as safe
use Rattle.ev_base.specs.declared.names.Name.{Name}
use Rattle.ev_base.specs.declared.names.Name.TheVariants.{Object, Own, Answer, Gift, Root, Claimed}
use Rattle.ev_base.specs.declared.names.Msg.{Msg}
use Rattle.def_event.specs.declared.shown.Shown.{Shown, Null, Bool as Boolean, Int, Prim, Name as Named}
use Rattle.ev_text.specs.Lines.{number, integer, spelled_number}
use Rattle.ev_script.specs.Json.{◌>>=◌}
use Rattle.ev_script.specs.Vats.{place_of}

-- what stands before and behind the first such character
abbrev pub split_at : ℕ → List ℕ → Option (List ℕ × List ℕ)
split_at mark word =
    if nat_lt (position_or_len (λ b. b == mark) word) (length word) then Some (before_first (λ b. b == mark) word, after_first (λ b. b == mark) word)
    else None

-- what stands behind such a character, where the word begins with it
abbrev pub behind_mark : ℕ → List ℕ → Option (List ℕ)
behind_mark mark word = do
  parts ← split_at mark word
  if length parts.0 == 0 then Some parts.1 else None

-- what stands before such a character, where the word ends with its first one
abbrev pub before_mark : ℕ → List ℕ → Option (List ℕ)
before_mark mark word = do
  parts ← split_at mark word
  if length parts.1 == 0 then Some parts.0 else None

-- what stands behind a word and a colon
abbrev pub behind_label : List ℕ → List ℕ → Option (List ℕ)
behind_label label word = do
  parts ← split_at 58 word
  if bytes_eq parts.0 label then Some parts.1 else None

-- a number below 2^64
abbrev pub count : List ℕ → Option ℕ
count word = number 18446744073709551615 word

-- `!` and the number of an activation
abbrev pub activation : List ℕ → Option ℕ
activation word = do
  digits ← behind_mark 33 word
  count digits

-- ---- the names of primitives

abbrev pub primitive_in : Value → Option ℕ
primitive_in (safe.Prim n) = Some n
primitive_in _ = None

-- the number of a primitive of the safe scope
abbrev pub primitive_number : List ℕ → Option ℕ
primitive_number word = option_and_then primitive_in (safe_value word)

-- the guards that `nullOk` may have: `any`, `void`, `int`, `boolean`, `char`, `String`, `List`, `near` and `DeepFrozen`
abbrev pub guarded : ℕ → Option ℕ
guarded n = if ((nat_lt 7 n && nat_lt n 15) || n == 16) || n == 17 then Some (32 + n) else None

abbrev pub primitive_named : List ℕ → Option (List ℕ) → Option ℕ
primitive_named word None = primitive_number word
primitive_named word (Some guard) = do
  n ← primitive_number guard
  guarded n

-- a primitive between `<` and `>`
abbrev pub primitive : List ℕ → Option ℕ
primitive word = do
  behind ← behind_mark 60 word
  named ← before_mark 62 behind
  primitive_named named (behind_label (codes "nullOk") named)

-- `null`, `true` and `false`
abbrev pub constant : List ℕ → Option Shown
constant word =
    if bytes_eq word (codes "null") then Some Null
    else if bytes_eq word (codes "true") then Some (Boolean true)
    else if bytes_eq word (codes "false") then Some (Boolean false)
    else None

-- the first of two readings that there is
abbrev pub otherwise : {A : Type 0} → Option A → Option A → Option A
otherwise None second = second
otherwise (Some x) second = Some x

-- ---- names, by the names of the vats

module _ (names : List (List ℕ)) where
  -- a vat, such a mark, and a number
  abbrev pub numbered : ℕ → List ℕ → Option (ℕ × ℕ)
  numbered mark word = do
    parts ← split_at mark word
    v ← place_of names parts.0
    n ← count parts.1
    Some (v, n)

  abbrev pub message : List ℕ → Option Msg
  message word = do
    m ← numbered 47 word
    Some (record { sender = m.0; number = m.1 })

  abbrev pub root : List ℕ → Option Name
  root word = do
    named ← behind_mark 64 word
    v ← place_of names named
    Some (Root v)

  abbrev pub answer : List ℕ → Option Name
  answer word = do
    parts ← split_at 63 word
    host ← place_of names parts.0
    m ← message parts.1
    Some (Answer host m)

  -- a vat, `:`, and a number of 128 bits by its bytes, the lowest first
  abbrev pub provided : List ℕ → Option (ℕ × ℕ)
  provided word = do
    parts ← split_at 58 word
    v ← place_of names parts.0
    n ← spelled_number parts.1
    Some (v, n)

  -- a gift by its host, its provider and its number, as a frame of a hostile vat named it
  abbrev pub claimed : List ℕ → Option Name
  claimed word = do
    parts ← split_at 94 word
    host ← place_of names parts.0
    by ← provided parts.1
    Some (Claimed host by.0 by.1)

  abbrev pub made : (ℕ → ℕ → Name) → Option (ℕ × ℕ) → Option Name
  made kind None = None
  made kind (Some x) = Some (kind x.0 x.1)

  -- the name of an object, a promise, an answer, a gift or a root
  abbrev pub name : List ℕ → Option Name
  name word =
      otherwise (made Object (numbered 46 word))
      (otherwise (made Own (numbered 126 word))
      (otherwise (made Gift (numbered 94 word))
      (otherwise (answer word) (otherwise (root word) (claimed word)))))

  -- ---- values without texts

  abbrev pub plain : List ℕ → Option Shown
  plain word =
      otherwise (constant word) (otherwise (option_map Int (integer word)) (otherwise (option_map Prim (primitive word)) (option_map Named (name word))))
