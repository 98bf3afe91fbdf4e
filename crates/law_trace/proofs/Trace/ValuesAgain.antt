-- What is printed of names, lists and slots is read again as a value.
use Rattle.std.proofs.Common.{◌&&◌, ◌||◌, ◌≡◌, ◌<◌, ◌++◌, ◌^◌, ℕ, zero, suc, Bool, true, false, not, cond, eqb, List, [], ◌∷◌, Option, Some, None, length, refl, sym, ◌∙◌, ap, arith}
use Rattle.std.specs.Prelude.{codes, nat_le, is_some, Ok}
use Rattle.std.specs.Char.{is_ascii_digit}
use Rattle.std.specs.List.{list_all}
use Rattle.std.specs.Str.{bytes_eq}
use Rattle.std.proofs.lemmas.Bool.{eqb-true}
use Rattle.std.proofs.lemmas.Bool.Decides.{nat_tests}
use Rattle.std.proofs.lemmas.Option.{cond_some, option_and_then_some}
use Rattle.std.proofs.lemmas.Slice.Eq.{bytes_eq-Decides}
use Rattle.ev_base.specs.SafeScope.{safe_value}
use Rattle.ev_base.specs.declared.names.Name.{Name}
use Rattle.ev_base.specs.declared.names.Name.TheVariants.{Object, Own, Answer, Gift, Root, Claimed}
use Rattle.ev_base.specs.declared.names.Msg.{Msg}
use Rattle.def_text.specs.Keywords.{is_keyword}
use Rattle.def_event.specs.declared.shown.Shown.{List as ListOf, Slot, Name as Named}
use Rattle.def_event.specs.Lines.{hex, low_first, vat}
use Rattle.def_event.specs.Lines as lines
use Rattle.ev_text.specs.Lines.{integer}
use Rattle.ev_script.specs.Vats.{begins_lower, is_lower, is_lower_or_digit, is_vat_name}
use Rattle.ev_trace_words.specs.Parts.{behind_mark, constant, primitive, split_at}
use Rattle.ev_trace_words.specs.Parts as parts
use Rattle.ev_trace_words.specs.Values.{value}
use Rattle.ev_trace_words.specs.Laws.{AreNames, FitsName}
use Rattle.law_trace.specs.Trace.Laws.{ThingsAreReadAgain}
use Rattle.ev_trace_words.proofs.Printed.{IsOther, key_letters, name_again, numbered_again, numbered_lacks, numbered_none, lacks, lacks_append, lower_lacks, vat_letters}
use Rattle.ev_trace_words.proofs.Spelled.{split_is}

pub both : (a b : Bool) → (a && b) ≡ true → (a ≡ true) × (b ≡ true)
both true b e = (refl, e)
both false b e = absurd cc

-- ---- how names begin

-- the first byte is that of a name: a small letter, or `@`
abbrev pub begins_name : List ℕ → Bool
begins_name [] = false
begins_name (b ∷ word) = is_lower b || eqb b 64

lower_name : (word rest : List ℕ) → begins_lower word ≡ true → begins_name (word ++ rest) ≡ true
lower_name [] rest e = absurd cc
lower_name (b ∷ word) rest e = rw e refl

pub letter_first : (word : List ℕ) → is_vat_name word ≡ true → begins_lower word ≡ true
letter_first word e =
    let a = both (((nat_le (length word) 16 && begins_lower word) && list_all is_lower_or_digit word) && not (is_keyword word)) (not (is_some (safe_value word))) e in
    let b = both ((nat_le (length word) 16 && begins_lower word) && list_all is_lower_or_digit word) (not (is_keyword word)) a.0 in
    let c = both (nat_le (length word) 16 && begins_lower word) (list_all is_lower_or_digit word) b.0 in
    (both (nat_le (length word) 16) (begins_lower word) c.0).1

vat_begins : (names : List (List ℕ)) (v : ℕ) → list_all is_vat_name names ≡ true → v < length names → begins_lower (vat names v) ≡ true
vat_begins [] v e h = absurd (omega arith)
vat_begins (x ∷ names) zero e h = letter_first x (both (is_vat_name x) (list_all is_vat_name names) e).0
vat_begins (x ∷ names) (suc v) e h = vat_begins names v (both (is_vat_name x) (list_all is_vat_name names) e).1 (omega arith)

pub begins_so : (names : List (List ℕ)) (x : Name) → AreNames names → FitsName (length names) x → begins_name (lines.name names x) ≡ true
begins_so names (Object v n) are fits = lower_name (vat names v) _ (vat_begins names v are.lawful fits.0)
begins_so names (Own v n) are fits = lower_name (vat names v) _ (vat_begins names v are.lawful fits.0)
begins_so names (Gift v n) are fits = lower_name (vat names v) _ (vat_begins names v are.lawful fits.0)
begins_so names (Answer host m) are fits = lower_name (vat names host) _ (vat_begins names host are.lawful fits.0)
begins_so names (Root v) are fits = refl
begins_so names (Claimed host p word) are fits = lower_name (vat names host) _ (vat_begins names host are.lawful fits.0)

-- ---- so it is no integer and no primitive

abbrev pub starts : ℕ → List ℕ → Bool
starts mark [] = false
starts mark (b ∷ word) = eqb b mark

other_first : (mark b : ℕ) → is_lower mark ≡ false → eqb mark 64 ≡ false → (is_lower b || eqb b 64) ≡ true → eqb b mark ≡ false
other_first mark b l r e = grind (arith, nat_tests)

no_digit : (b : ℕ) → (is_lower b || eqb b 64) ≡ true → is_ascii_digit b ≡ false
no_digit b e = grind (arith, nat_tests)

no_integer : (word : List ℕ) → begins_name word ≡ true → integer word ≡ None
no_integer [] e = refl
no_integer (b ∷ word) e = rw (other_first 45 b refl refl e) (rw (no_digit b e) refl)

same_mark : (mark : ℕ) → eqb mark mark ≡ true
same_mark mark = grind (arith, nat_tests)

empty : (xs : List ℕ) → length xs ≡ 0 → xs ≡ []
empty [] h = refl
empty (x ∷ xs) h = absurd (omega arith)

begins : (mark : ℕ) (word rest : List ℕ) → behind_mark mark word ≡ Some rest → word ≡ mark ∷ rest
begins mark word rest e =
    option_and_then_some (λ (p : List ℕ × List ℕ). cond (eqb (length p.0) 0) (Some p.1) None) (split_at mark word) rest e (λ p s z.
    let c = cond_some (eqb (length p.0) 0) p.1 rest z in
    split_is mark word p s ∙ ap (λ f. f ++ mark ∷ p.1) (empty p.0 (eqb-true (length p.0) 0 c.0)) ∙ ap (λ r. mark ∷ r) c.1)

pub no_front : (mark : ℕ) (word : List ℕ) (o : Option (List ℕ)) → behind_mark mark word ≡ o → starts mark word ≡ false → behind_mark mark word ≡ None
no_front mark word None s f = s
no_front mark word (Some rest) s f = let one : starts mark word ≡ true = ap (starts mark) (begins mark word rest s) ∙ same_mark mark in absurd cc

pub starts_not : (mark : ℕ) (word : List ℕ) → is_lower mark ≡ false → eqb mark 64 ≡ false → begins_name word ≡ true → starts mark word ≡ false
starts_not mark [] l r e = refl
starts_not mark (b ∷ word) l r e = other_first mark b l r e

no_primitive : (word : List ℕ) → begins_name word ≡ true → primitive word ≡ None
no_primitive word e = rw (no_front 60 word (behind_mark 60 word) refl (starts_not 60 word refl refl e)) refl

-- ---- and it is no constant, since no name is read of these

differs : (names : List (List ℕ)) (word other : List ℕ) (x : Name) (t : Bool) → bytes_eq word other ≡ t → parts.name names word ≡ Some x → parts.name names other ≡ None → bytes_eq word other ≡ false
differs names word other x false s e n = s
differs names word other x true s e n = let both_ways : None ≡ Some x = sym n ∙ ap (parts.name names) (sym ((bytes_eq-Decides word other).0 s)) ∙ e in absurd cc

no_constant : (names : List (List ℕ)) (word : List ℕ) (x : Name) → parts.name names word ≡ Some x → constant word ≡ None
no_constant names word x e =
    rw (differs names word (codes "null") x (bytes_eq word (codes "null")) refl e refl)
    (rw (differs names word (codes "true") x (bytes_eq word (codes "true")) refl e refl) (rw (differs names word (codes "false") x (bytes_eq word (codes "false")) refl e refl) refl))

-- ---- it is no list and no slot

percent : IsOther 37
percent = record { letter = refl; digit = refl }

ampersand : IsOther 38
ampersand = record { letter = refl; digit = refl }

and_true : (a b : Bool) → a ≡ true → b ≡ true → (a && b) ≡ true
and_true a b e f = rw (e, f) refl

answer_lacks : (names : List (List ℕ)) (host mark : ℕ) (m : Msg) → AreNames names → m.number < 2 ^ 64 → IsOther mark → not (eqb 63 mark) ≡ true → not (eqb 47 mark) ≡ true
    → lacks mark (lines.name names (Answer host m)) ≡ true
answer_lacks names host mark m are small o q s =
    lacks_append mark (vat names host) (63 ∷ lines.message names m) (lower_lacks mark (vat names host) o.letter (vat_letters names host are.lawful))
    (and_true (not (eqb 63 mark)) (lacks mark (lines.message names m)) q (numbered_lacks names m.sender 47 mark m.number are small o s))

root_lacks : (names : List (List ℕ)) (v mark : ℕ) → AreNames names → IsOther mark → not (eqb 64 mark) ≡ true → lacks mark (64 ∷ vat names v) ≡ true
root_lacks names v mark are o d = and_true (not (eqb 64 mark)) (lacks mark (vat names v)) d (lower_lacks mark (vat names v) o.letter (vat_letters names v are.lawful))

claimed_lacks : (names : List (List ℕ)) (host provider n mark : ℕ) → AreNames names → IsOther mark → not (eqb 94 mark) ≡ true → not (eqb 58 mark) ≡ true
    → lacks mark (lines.name names (Claimed host provider n)) ≡ true
claimed_lacks names host provider n mark are o c d =
    let digits = hex (low_first 16 n) in
    lacks_append mark (vat names host) (94 ∷ (vat names provider ++ 58 ∷ digits)) (lower_lacks mark (vat names host) o.letter (vat_letters names host are.lawful))
    (and_true (not (eqb 94 mark)) (lacks mark (vat names provider ++ 58 ∷ digits)) c
    (lacks_append mark (vat names provider) (58 ∷ digits) (lower_lacks mark (vat names provider) o.letter (vat_letters names provider are.lawful))
    (and_true (not (eqb 58 mark)) (lacks mark digits) d (lower_lacks mark digits o.letter (key_letters n)))))

name_lacks : (names : List (List ℕ)) (x : Name) (mark : ℕ) → AreNames names → FitsName (length names) x → IsOther mark
    → not (eqb 46 mark) ≡ true → not (eqb 126 mark) ≡ true → not (eqb 94 mark) ≡ true → not (eqb 63 mark) ≡ true → not (eqb 47 mark) ≡ true → not (eqb 64 mark) ≡ true → not (eqb 58 mark) ≡ true → lacks mark (lines.name names x) ≡ true
name_lacks names (Object v n) mark are fits o a b c d e f g = numbered_lacks names v 46 mark n are fits.1 o a
name_lacks names (Own v n) mark are fits o a b c d e f g = numbered_lacks names v 126 mark n are fits.1 o b
name_lacks names (Gift v n) mark are fits o a b c d e f g = numbered_lacks names v 94 mark n are fits.1 o c
name_lacks names (Answer host m) mark are fits o a b c d e f g = answer_lacks names host mark m are fits.2 o d e
name_lacks names (Root v) mark are fits o a b c d e f g = root_lacks names v mark are o f
name_lacks names (Claimed host p word) mark are fits o a b c d e f g = claimed_lacks names host p word mark are o c g

named_by : (names : List (List ℕ)) (word : List ℕ) (x : Name) → parts.numbered names 37 word ≡ None → parts.numbered names 38 word ≡ None → constant word ≡ None → integer word ≡ None → primitive word ≡ None
    → parts.name names word ≡ Some x → value names word ≡ Ok (Named x)
named_by names word x l s c i p n = rw l (rw s (rw c (rw i (rw p (rw n refl)))))

-- a name is read as that value
pub named_again : (names : List (List ℕ)) (x : Name) → AreNames names → FitsName (length names) x → value names (lines.name names x) ≡ Ok (Named x)
named_again names x are fits =
    let word = lines.name names x in
    let n = name_again names x are fits in
    let b = begins_so names x are fits in
    named_by names word x (numbered_none names 37 word (name_lacks names x 37 are fits percent refl refl refl refl refl refl refl)) (numbered_none names 38 word (name_lacks names x 38 are fits ampersand refl refl refl refl refl refl refl))
    (no_constant names word x n) (no_integer word b) (no_primitive word b) n

list_by : (names : List (List ℕ)) (word : List ℕ) (x : ℕ × ℕ) → parts.numbered names 37 word ≡ Some x → value names word ≡ Ok (ListOf x.0 x.1)
list_by names word x e = rw e refl

slot_by : (names : List (List ℕ)) (word : List ℕ) (x : ℕ × ℕ) → parts.numbered names 37 word ≡ None → parts.numbered names 38 word ≡ Some x → value names word ≡ Ok (Slot x.0 x.1)
slot_by names word x e f = rw e (rw f refl)

-- a list and a slot by their numbers
pub list_again : (names : List (List ℕ)) (v n : ℕ) → AreNames names → v < length names → n < 2 ^ 64 → value names (lines.numbered names v 37 n) ≡ Ok (ListOf v n)
list_again names v n are there small = list_by names (lines.numbered names v 37 n) (v, n) (numbered_again names v 37 n are there small refl)

pub slot_again : (names : List (List ℕ)) (v n : ℕ) → AreNames names → v < length names → n < 2 ^ 64 → value names (lines.numbered names v 38 n) ≡ Ok (Slot v n)
slot_again names v n are there small =
    slot_by names (lines.numbered names v 38 n) (v, n) (numbered_none names 37 (lines.numbered names v 38 n) (numbered_lacks names v 38 37 n are small percent refl)) (numbered_again names v 38 n are there small refl)

pub values_again : ThingsAreReadAgain
values_again = record { named = named_again; list = list_again; slot = slot_again }
