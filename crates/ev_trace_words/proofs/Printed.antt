-- What is printed of numbers and names is read again.
use Rattle.std.proofs.Common.{◌&&◌, ◌||◌, ◌≡◌, ◌<◌, ◌+◌, ◌++◌, ◌^◌, ℕ, zero, suc, Bool, true, false, not, cond, eqb, ltb, leb, List, [], ◌∷◌, Option, Some, None, length, length-append, get_or, take, drop, take_at, drop_at, refl, sym, ◌∙◌, ap, append_assoc, arith}
use Rattle.std.specs.Prelude.{decimal, nat_le, is_some, option_map}
use Rattle.std.specs.Char.{is_ascii_digit}
use Rattle.std.specs.List.{list_all, list_any, position_or_len}
use Rattle.std.specs.Str.{bytes_eq, all_ascii_digits}
use Rattle.std.specs.Str.Parse.{digits_value}
use Rattle.std.proofs.lemmas.Bool.{lt-ltb, le-leb}
use Rattle.std.proofs.lemmas.Bool.Decides.{nat_tests}
use Rattle.std.proofs.lemmas.Fmt.{decimal_digit, decimal_is_IsNumeral, decimal_nonempty, first_decimal}
use Rattle.std.proofs.lemmas.Slice.Eq.{bytes_eq-Decides}
use Rattle.std.proofs.lemmas.Str.Parse.{IsNumeralModel, numerals_by_value, tells_all_ascii_digits}
use Rattle.ev_base.specs.SafeScope.{safe_value}
use Rattle.ev_base.specs.declared.names.Name.{Name}
use Rattle.ev_base.specs.declared.names.Name.TheVariants.{Object, Own, Answer, Gift, Root, Claimed}
use Rattle.ev_base.specs.declared.names.Msg.{Msg}
use Rattle.def_text.specs.Keywords.{is_keyword}
use Rattle.def_event.specs.Lines.{hex, low_first, vat}
use Rattle.def_event.specs.Lines as lines
use Rattle.ev_text.specs.Lines.{begins_with_zero, is_lower_digit, spelled_number}
use Rattle.ev_script.specs.Vats.{begins_lower, differ, is_lower_or_digit, is_vat_name, place_of}
use Rattle.ev_trace_words.specs.Parts.{count, split_at}
use Rattle.ev_trace_words.specs.Parts as parts
use Rattle.ev_trace_words.specs.Laws.{AreNames, FitsName}
use Rattle.ev_trace_words.proofs.Hexed.{key_again, key_lower}

-- ---- numbers

own : IsNumeralModel (λ ds. all_ascii_digits ds ≡ true) (digits_value 10)
own = numerals_by_value _ tells_all_ascii_digits

digits_alone : (n : ℕ) → n < 2 ^ 64 → all_ascii_digits (decimal n) ≡ true
digits_alone n h = own.from (decimal n) (decimal_is_IsNumeral n h).0.1

not_zero : (ds : List ℕ) → 48 < get_or ds 0 0 → begins_with_zero ds ≡ false
not_zero [] h = refl
not_zero (d ∷ ds) h = grind (arith, nat_tests)

or_true : (a : Bool) → (a || true) ≡ true
or_true true = refl
or_true false = refl

no_leading_zero : (n : ℕ) → n < 2 ^ 64 → (eqb (length (decimal n)) 1 || not (begins_with_zero (decimal n))) ≡ true
no_leading_zero zero h = rw (decimal_digit 0 (omega arith)) refl
no_leading_zero (suc n) h = rw (not_zero (decimal (suc n)) (first_decimal (suc n) (omega arith) h)) (or_true (eqb (length (decimal (suc n))) 1))

counted : (word : List ℕ) (n : ℕ) → all_ascii_digits word ≡ true → (eqb (length word) 1 || not (begins_with_zero word)) ≡ true → ltb 0 (length word) ≡ true
    → leb (digits_value 10 word) 18446744073709551615 ≡ true → digits_value 10 word ≡ n → count word ≡ Some n
counted word n digits first some small value = rw (digits, first, some, small) (ap Some value)

-- a number in decimal is read as itself
pub count_again : (n : ℕ) → n < 2 ^ 64 → count (decimal n) ≡ Some n
count_again n h =
    let value : digits_value 10 (decimal n) ≡ n = (decimal_is_IsNumeral n h).1 in
    counted (decimal n) n (digits_alone n h) (no_leading_zero n h) (lt-ltb 0 (length (decimal n)) (decimal_nonempty n h))
    (le-leb (digits_value 10 (decimal n)) 18446744073709551615 (omega (arith, value, h))) value

-- ---- words that are split at a mark

both : (a b : Bool) → (a && b) ≡ true → (a ≡ true) × (b ≡ true)
both true b e = (refl, e)
both false b e = absurd cc

and_true : (a b : Bool) → a ≡ true → b ≡ true → (a && b) ≡ true
and_true a b e f = rw (e, f) refl

same_mark : (mark : ℕ) → eqb mark mark ≡ true
same_mark mark = grind (arith, nat_tests)

-- no character is the mark
abbrev pub lacks : ℕ → List ℕ → Bool
lacks mark word = list_all (λ b. not (eqb b mark)) word

at_mark : (mark : ℕ) (behind : List ℕ) (t : Bool) → t ≡ true → cond (not t) (1 + position_or_len (λ b. eqb b mark) behind) 0 ≡ 0
at_mark mark behind t e = rw e refl

past : (n : ℕ) (t : Bool) → not t ≡ true → cond (not t) (1 + n) 0 ≡ suc n
past n t e = rw e (omega arith)

place_in : (mark : ℕ) (front behind : List ℕ) → lacks mark front ≡ true → position_or_len (λ b. eqb b mark) (front ++ mark ∷ behind) ≡ length front
place_in mark [] behind e = at_mark mark behind (eqb mark mark) (same_mark mark)
place_in mark (b ∷ front) behind e =
    let t = both (not (eqb b mark)) (lacks mark front) e in
    past (position_or_len (λ b. eqb b mark) (front ++ mark ∷ behind)) (eqb b mark) t.0 ∙ ap suc (place_in mark front behind t.1)

no_place : (mark : ℕ) (word : List ℕ) → lacks mark word ≡ true → position_or_len (λ b. eqb b mark) word ≡ length word
no_place mark [] e = refl
no_place mark (b ∷ word) e =
    let t = both (not (eqb b mark)) (lacks mark word) e in
    past (position_or_len (λ b. eqb b mark) word) (eqb b mark) t.0 ∙ ap suc (no_place mark word t.1)

cut_at : (word : List ℕ) (place n : ℕ) (front behind : List ℕ) → place ≡ n → ltb n (length word) ≡ true → take n word ≡ front → drop (n + 1) word ≡ behind
    → cond {A = Option (List ℕ × List ℕ)} (ltb place (length word)) (Some (take place word, drop (place + 1) word)) None ≡ Some (front, behind)
cut_at word place n front behind p l t d = rw (p, l, t, d) refl

pub split_again : (mark : ℕ) (front behind : List ℕ) → lacks mark front ≡ true → split_at mark (front ++ mark ∷ behind) ≡ Some (front, behind)
split_again mark front behind e =
    let long : length (front ++ mark ∷ behind) ≡ length front + suc (length behind) = length-append front (mark ∷ behind) in
    let one : length (front ++ mark ∷ []) ≡ length front + 1 = length-append front (mark ∷ []) in
    cut_at (front ++ mark ∷ behind) (position_or_len (λ b. eqb b mark) (front ++ mark ∷ behind)) (length front) front behind (place_in mark front behind e)
    (lt-ltb (length front) (length (front ++ mark ∷ behind)) (omega (arith, long)))
    (take_at front (mark ∷ behind) (length front) refl)
    (ap (drop (length front + 1)) (sym (append_assoc front (mark ∷ []) behind)) ∙ drop_at (front ++ mark ∷ []) behind (length front + 1) one)

not_below : (n : ℕ) → ltb n n ≡ false
not_below n = grind (arith, nat_tests)

pub split_none : (mark : ℕ) (word : List ℕ) → lacks mark word ≡ true → split_at mark word ≡ None
split_none mark word e =
    let p = no_place mark word e in
    ap (λ n. cond {A = Option (List ℕ × List ℕ)} (ltb n (length word)) (Some (take n word, drop (n + 1) word)) None) p ∙ ap (λ t. cond {A = Option (List ℕ × List ℕ)} t (Some (take (length word) word, drop (length word + 1) word)) None) (not_below (length word))

-- ---- names of vats and digits lack each mark

lower_lacks_one : (mark b : ℕ) → is_lower_or_digit mark ≡ false → is_lower_or_digit b ≡ true → not (eqb b mark) ≡ true
lower_lacks_one mark b m e = grind (arith, nat_tests)

pub lower_lacks : (mark : ℕ) (word : List ℕ) → is_lower_or_digit mark ≡ false → list_all is_lower_or_digit word ≡ true → lacks mark word ≡ true
lower_lacks mark [] m e = refl
lower_lacks mark (b ∷ word) m e =
    let t = both (is_lower_or_digit b) (list_all is_lower_or_digit word) e in
    and_true (not (eqb b mark)) (lacks mark word) (lower_lacks_one mark b m t.0) (lower_lacks mark word m t.1)

digit_lacks_one : (mark b : ℕ) → is_ascii_digit mark ≡ false → is_ascii_digit b ≡ true → not (eqb b mark) ≡ true
digit_lacks_one mark b m e = grind (arith, nat_tests)

digits_lack_by : (mark : ℕ) (word : List ℕ) → is_ascii_digit mark ≡ false → all_ascii_digits word ≡ true → lacks mark word ≡ true
digits_lack_by mark [] m e = refl
digits_lack_by mark (b ∷ word) m e =
    let t = both (is_ascii_digit b) (all_ascii_digits word) e in
    and_true (not (eqb b mark)) (lacks mark word) (digit_lacks_one mark b m t.0) (digits_lack_by mark word m t.1)

pub digits_lack : (mark n : ℕ) → is_ascii_digit mark ≡ false → n < 2 ^ 64 → lacks mark (decimal n) ≡ true
digits_lack mark n m h = digits_lack_by mark (decimal n) m (digits_alone n h)

-- ---- the names of vats

name_letters : (word : List ℕ) → is_vat_name word ≡ true → list_all is_lower_or_digit word ≡ true
name_letters word e =
    let a = both (((nat_le (length word) 16 && begins_lower word) && list_all is_lower_or_digit word) && not (is_keyword word)) (not (is_some (safe_value word))) e in
    let b = both ((nat_le (length word) 16 && begins_lower word) && list_all is_lower_or_digit word) (not (is_keyword word)) a.0 in
    (both (nat_le (length word) 16 && begins_lower word) (list_all is_lower_or_digit word) b.0).1

pub vat_letters : (names : List (List ℕ)) (v : ℕ) → list_all is_vat_name names ≡ true → list_all is_lower_or_digit (vat names v) ≡ true
vat_letters [] v e = refl
vat_letters (x ∷ names) zero e = name_letters x (both (is_vat_name x) (list_all is_vat_name names) e).0
vat_letters (x ∷ names) (suc v) e = vat_letters names v (both (is_vat_name x) (list_all is_vat_name names) e).1

neither : (a b : Bool) → not (a || b) ≡ true → (a ≡ false) × (not b ≡ true)
neither false b e = (refl, e)
neither true b e = absurd cc

turned : (x y : List ℕ) (t : Bool) → bytes_eq y x ≡ t → bytes_eq x y ≡ false → bytes_eq y x ≡ false
turned x y false e f = e
turned x y true e f = let same : bytes_eq x y ≡ true = (bytes_eq-Decides x y).1 (sym ((bytes_eq-Decides y x).0 e)) in absurd cc

apart_from : (x : List ℕ) (names : List (List ℕ)) (v : ℕ) → not (list_any (bytes_eq x) names) ≡ true → v < length names → bytes_eq (vat names v) x ≡ false
apart_from x [] v e h = absurd (omega arith)
apart_from x (y ∷ names) zero e h = turned x y (bytes_eq y x) refl (neither (bytes_eq x y) (list_any (bytes_eq x) names) e).0
apart_from x (y ∷ names) (suc v) e h = apart_from x names v (neither (bytes_eq x y) (list_any (bytes_eq x) names) e).1 (omega arith)

-- a vat is found by its name
pub place_again : (names : List (List ℕ)) (v : ℕ) → differ names ≡ true → v < length names → place_of names (vat names v) ≡ Some v
place_again [] v e h = absurd (omega arith)
place_again (x ∷ names) zero e h = rw ((bytes_eq-Decides x x).1 refl) refl
place_again (x ∷ names) (suc v) e h =
    let t = both (not (list_any (bytes_eq x) names)) (differ names) e in
    ap (λ k. cond k (Some 0) (option_map suc (place_of names (vat names v)))) (apart_from x names v t.0 (omega arith))
    ∙ ap (option_map suc) (place_again names v t.1 (omega arith))

-- ---- things of vats by their numbers

by_parts : (names : List (List ℕ)) (mark : ℕ) (word front behind : List ℕ) (v n : ℕ) → split_at mark word ≡ Some (front, behind) → place_of names front ≡ Some v → count behind ≡ Some n
    → parts.numbered names mark word ≡ Some (v, n)
by_parts names mark word front behind v n s p c = rw s (rw p (rw c refl))

by_none : (names : List (List ℕ)) (mark : ℕ) (word : List ℕ) → split_at mark word ≡ None → parts.numbered names mark word ≡ None
by_none names mark word s = rw s refl

pub numbered_again : (names : List (List ℕ)) (v mark n : ℕ) → AreNames names → v < length names → n < 2 ^ 64 → is_lower_or_digit mark ≡ false
    → parts.numbered names mark (lines.numbered names v mark n) ≡ Some (v, n)
numbered_again names v mark n are there small m =
    by_parts names mark (lines.numbered names v mark n) (vat names v) (decimal n) v n (split_again mark (vat names v) (decimal n) (lower_lacks mark (vat names v) m (vat_letters names v are.lawful)))
    (place_again names v are.apart there) (count_again n small)

pub lacks_append : (mark : ℕ) (a b : List ℕ) → lacks mark a ≡ true → lacks mark b ≡ true → lacks mark (a ++ b) ≡ true
lacks_append mark [] b e f = f
lacks_append mark (x ∷ a) b e f =
    let t = both (not (eqb x mark)) (lacks mark a) e in and_true (not (eqb x mark)) (lacks mark (a ++ b)) t.0 (lacks_append mark a b t.1 f)

-- a mark that is not that of the thing
pub record IsOther (mark : ℕ) : Type 0 where
  pub letter : is_lower_or_digit mark ≡ false
  pub digit : is_ascii_digit mark ≡ false

pub numbered_lacks : (names : List (List ℕ)) (v other mark n : ℕ) → AreNames names → n < 2 ^ 64 → IsOther mark → not (eqb other mark) ≡ true → lacks mark (lines.numbered names v other n) ≡ true
numbered_lacks names v other mark n are small m d =
    lacks_append mark (vat names v) (other ∷ decimal n) (lower_lacks mark (vat names v) m.letter (vat_letters names v are.lawful))
    (and_true (not (eqb other mark)) (lacks mark (decimal n)) d (digits_lack mark n m.digit small))

pub numbered_none : (names : List (List ℕ)) (mark : ℕ) (word : List ℕ) → lacks mark word ≡ true → parts.numbered names mark word ≡ None
numbered_none names mark word e = by_none names mark word (split_none mark word e)

-- ---- messages and names

pub message_again : (names : List (List ℕ)) (m : Msg) → AreNames names → m.sender < length names → m.number < 2 ^ 64 → parts.message names (lines.message names m) ≡ Some m
message_again names m are there small = rw (numbered_again names m.sender 47 m.number are there small refl) refl

dot : IsOther 46
dot = record { letter = refl; digit = refl }

tilde : IsOther 126
tilde = record { letter = refl; digit = refl }

caret : IsOther 94
caret = record { letter = refl; digit = refl }

query : IsOther 63
query = record { letter = refl; digit = refl }

first_is : (names : List (List ℕ)) (word : List ℕ) (x : ℕ × ℕ) → parts.numbered names 46 word ≡ Some x → parts.name names word ≡ Some (Object x.0 x.1)
first_is names word x e = rw e refl

second_is : (names : List (List ℕ)) (word : List ℕ) (x : ℕ × ℕ) → parts.numbered names 46 word ≡ None → parts.numbered names 126 word ≡ Some x → parts.name names word ≡ Some (Own x.0 x.1)
second_is names word x e f = rw e (rw f refl)

third_is : (names : List (List ℕ)) (word : List ℕ) (x : ℕ × ℕ) → parts.numbered names 46 word ≡ None → parts.numbered names 126 word ≡ None → parts.numbered names 94 word ≡ Some x
    → parts.name names word ≡ Some (Gift x.0 x.1)
third_is names word x e f g = rw e (rw f (rw g refl))

fourth_is : (names : List (List ℕ)) (word : List ℕ) (x : Name) → parts.numbered names 46 word ≡ None → parts.numbered names 126 word ≡ None → parts.numbered names 94 word ≡ None
    → parts.answer names word ≡ Some x → parts.name names word ≡ Some x
fourth_is names word x e f g h = rw e (rw f (rw g (rw h refl)))

fifth_is : (names : List (List ℕ)) (word : List ℕ) (x : Name) → parts.numbered names 46 word ≡ None → parts.numbered names 126 word ≡ None → parts.numbered names 94 word ≡ None
    → parts.answer names word ≡ None → parts.root names word ≡ Some x → parts.name names word ≡ Some x
fifth_is names word x e f g h i = rw e (rw f (rw g (rw h (rw i refl))))

answer_by : (names : List (List ℕ)) (word front behind : List ℕ) (v : ℕ) (m : Msg) → split_at 63 word ≡ Some (front, behind) → place_of names front ≡ Some v → parts.message names behind ≡ Some m
    → parts.answer names word ≡ Some (Answer v m)
answer_by names word front behind v m s p e = rw s (rw p (rw e refl))

answer_none : (names : List (List ℕ)) (word : List ℕ) → split_at 63 word ≡ None → parts.answer names word ≡ None
answer_none names word s = rw s refl

root_by : (names : List (List ℕ)) (word behind : List ℕ) (v : ℕ) → split_at 64 word ≡ Some ([], behind) → place_of names behind ≡ Some v → parts.root names word ≡ Some (Root v)
root_by names word behind v s p = rw s (rw p refl)

answer_lacks : (names : List (List ℕ)) (host mark : ℕ) (m : Msg) → AreNames names → m.number < 2 ^ 64 → IsOther mark → not (eqb 63 mark) ≡ true → not (eqb 47 mark) ≡ true
    → lacks mark (lines.name names (Answer host m)) ≡ true
answer_lacks names host mark m are small o q s =
    lacks_append mark (vat names host) (63 ∷ lines.message names m) (lower_lacks mark (vat names host) o.letter (vat_letters names host are.lawful))
    (and_true (not (eqb 63 mark)) (lacks mark (lines.message names m)) q (numbered_lacks names m.sender 47 mark m.number are small o s))

root_lacks : (names : List (List ℕ)) (v mark : ℕ) → AreNames names → IsOther mark → not (eqb 64 mark) ≡ true → lacks mark (64 ∷ vat names v) ≡ true
root_lacks names v mark are o d = and_true (not (eqb 64 mark)) (lacks mark (vat names v)) d (lower_lacks mark (vat names v) o.letter (vat_letters names v are.lawful))

-- ---- gifts that a hostile vat claimed

sixth_is : (names : List (List ℕ)) (word : List ℕ) (x : Name) → parts.numbered names 46 word ≡ None → parts.numbered names 126 word ≡ None → parts.numbered names 94 word ≡ None
    → parts.answer names word ≡ None → parts.root names word ≡ None → parts.claimed names word ≡ Some x → parts.name names word ≡ Some x
sixth_is names word x e f g h i j = rw e (rw f (rw g (rw h (rw i j))))

root_none : (names : List (List ℕ)) (word : List ℕ) → split_at 64 word ≡ None → parts.root names word ≡ None
root_none names word s = rw s refl

-- what stands behind the host is no number
no_digits : (front behind : List ℕ) → all_ascii_digits (front ++ 58 ∷ behind) ≡ false
no_digits [] behind = refl
no_digits (b ∷ front) behind = rw (no_digits front behind) (never (is_ascii_digit b))
  where
    never : (a : Bool) → (a && false) ≡ false
    never true = refl
    never false = refl

no_count : (word : List ℕ) → all_ascii_digits word ≡ false → count word ≡ None
no_count word e = rw e refl

no_number : (names : List (List ℕ)) (mark : ℕ) (word front behind : List ℕ) (v : ℕ) → split_at mark word ≡ Some (front, behind) → place_of names front ≡ Some v → count behind ≡ None
    → parts.numbered names mark word ≡ None
no_number names mark word front behind v s p c = rw s (rw p (rw c refl))

provided_by : (names : List (List ℕ)) (word front behind : List ℕ) (v n : ℕ) → split_at 58 word ≡ Some (front, behind) → place_of names front ≡ Some v → spelled_number behind ≡ Some n
    → parts.provided names word ≡ Some (v, n)
provided_by names word front behind v n s p c = rw s (rw p (rw c refl))

claimed_by : (names : List (List ℕ)) (word front behind : List ℕ) (v : ℕ) (by : ℕ × ℕ) → split_at 94 word ≡ Some (front, behind) → place_of names front ≡ Some v → parts.provided names behind ≡ Some by
    → parts.claimed names word ≡ Some (Claimed v by.0 by.1)
claimed_by names word front behind v by s p c = rw s (rw p (rw c refl))

letter_too : (b : ℕ) → is_lower_digit b ≡ true → is_lower_or_digit b ≡ true
letter_too b e = grind (arith, nat_tests)

pub letters_too : (word : List ℕ) → list_all is_lower_digit word ≡ true → list_all is_lower_or_digit word ≡ true
letters_too [] e = refl
letters_too (b ∷ word) e =
    let t = both (is_lower_digit b) (list_all is_lower_digit word) e in and_true (is_lower_or_digit b) (list_all is_lower_or_digit word) (letter_too b t.0) (letters_too word t.1)

-- the digits of a number by its bytes are letters and digits
pub key_letters : (n : ℕ) → list_all is_lower_or_digit (hex (low_first 16 n)) ≡ true
key_letters n = letters_too (hex (low_first 16 n)) (key_lower n)

claimed_lacks : (names : List (List ℕ)) (host provider n mark : ℕ) → AreNames names → IsOther mark → not (eqb 94 mark) ≡ true → not (eqb 58 mark) ≡ true
    → lacks mark (lines.name names (Claimed host provider n)) ≡ true
claimed_lacks names host provider n mark are o c d =
    let digits = hex (low_first 16 n) in
    lacks_append mark (vat names host) (94 ∷ (vat names provider ++ 58 ∷ digits)) (lower_lacks mark (vat names host) o.letter (vat_letters names host are.lawful))
    (and_true (not (eqb 94 mark)) (lacks mark (vat names provider ++ 58 ∷ digits)) c
    (lacks_append mark (vat names provider) (58 ∷ digits) (lower_lacks mark (vat names provider) o.letter (vat_letters names provider are.lawful))
    (and_true (not (eqb 58 mark)) (lacks mark digits) d (lower_lacks mark digits o.letter (key_letters n)))))

at_sign : IsOther 64
at_sign = record { letter = refl; digit = refl }

claimed_again : (names : List (List ℕ)) (host provider n : ℕ) → AreNames names → FitsName (length names) (Claimed host provider n)
    → parts.name names (lines.name names (Claimed host provider n)) ≡ Some (Claimed host provider n)
claimed_again names host provider n are fits =
    let word = lines.name names (Claimed host provider n) in
    let digits = hex (low_first 16 n) in
    let behind = vat names provider ++ 58 ∷ digits in
    let split = split_again 94 (vat names host) behind (lower_lacks 94 (vat names host) refl (vat_letters names host are.lawful)) in
    let there = place_again names host are.apart fits.0 in
    let by = provided_by names behind (vat names provider) digits provider n (split_again 58 (vat names provider) digits (lower_lacks 58 (vat names provider) refl (vat_letters names provider are.lawful)))
    (place_again names provider are.apart fits.1) (key_again n fits.2) in
    sixth_is names word (Claimed host provider n) (numbered_none names 46 word (claimed_lacks names host provider n 46 are dot refl refl))
    (numbered_none names 126 word (claimed_lacks names host provider n 126 are tilde refl refl))
    (no_number names 94 word (vat names host) behind host split there (no_count behind (no_digits (vat names provider) digits)))
    (answer_none names word (split_none 63 word (claimed_lacks names host provider n 63 are query refl refl)))
    (root_none names word (split_none 64 word (claimed_lacks names host provider n 64 are at_sign refl refl)))
    (claimed_by names word (vat names host) behind host (provider, n) split there by)

-- a name is read as itself
pub name_again : (names : List (List ℕ)) (x : Name) → AreNames names → FitsName (length names) x → parts.name names (lines.name names x) ≡ Some x
name_again names (Object v n) are fits = first_is names (lines.numbered names v 46 n) (v, n) (numbered_again names v 46 n are fits.0 fits.1 refl)
name_again names (Own v n) are fits =
    second_is names (lines.numbered names v 126 n) (v, n) (numbered_none names 46 (lines.numbered names v 126 n) (numbered_lacks names v 126 46 n are fits.1 dot refl))
    (numbered_again names v 126 n are fits.0 fits.1 refl)
name_again names (Gift v n) are fits =
    third_is names (lines.numbered names v 94 n) (v, n) (numbered_none names 46 (lines.numbered names v 94 n) (numbered_lacks names v 94 46 n are fits.1 dot refl))
    (numbered_none names 126 (lines.numbered names v 94 n) (numbered_lacks names v 94 126 n are fits.1 tilde refl))
    (numbered_again names v 94 n are fits.0 fits.1 refl)
name_again names (Answer host m) are fits =
    let word = lines.name names (Answer host m) in
    fourth_is names word (Answer host m) (numbered_none names 46 word (answer_lacks names host 46 m are fits.2 dot refl refl))
    (numbered_none names 126 word (answer_lacks names host 126 m are fits.2 tilde refl refl))
    (numbered_none names 94 word (answer_lacks names host 94 m are fits.2 caret refl refl))
    (answer_by names word (vat names host) (lines.message names m) host m (split_again 63 (vat names host) (lines.message names m) (lower_lacks 63 (vat names host) refl (vat_letters names host are.lawful)))
    (place_again names host are.apart fits.0) (message_again names m are fits.1 fits.2))
name_again names (Root v) are fits =
    let word = 64 ∷ vat names v in
    fifth_is names word (Root v) (numbered_none names 46 word (root_lacks names v 46 are dot refl)) (numbered_none names 126 word (root_lacks names v 126 are tilde refl))
    (numbered_none names 94 word (root_lacks names v 94 are caret refl)) (answer_none names word (split_none 63 word (root_lacks names v 63 are query refl)))
    (root_by names word (vat names v) v (split_again 64 [] (vat names v) refl) (place_again names v are.apart fits))
name_again names (Claimed host provider n) are fits = claimed_again names host provider n are fits
