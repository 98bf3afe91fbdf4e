-- A word of digits and names that is read is how what it says is printed.
use Rattle.std.proofs.Common.{◌&&◌, ◌||◌, ◌≡◌, ◌⊎◌, ◌<◌, ◌++◌, ℕ, suc, Bool, true, false, not, cond, eqb, ltb, leb, List, [], ◌∷◌, Option, Some, None, length, get_or, refl, sym, ◌∙◌, ap, inl, inr, arith}
use Rattle.std.specs.Prelude.{decimal, option_map, option_and_then}
use Rattle.std.specs.List.{position_or_len, before_first, after_first}
use Rattle.std.specs.Str.{bytes_eq, all_ascii_digits}
use Rattle.std.specs.Str.Parse.{digits_value}
use Rattle.std.proofs.lemmas.Bool.{ltb-true, leb-true, eqb-true}
use Rattle.std.proofs.lemmas.Bool.Decides.{nat_tests}
use Rattle.std.proofs.lemmas.Fmt.{decimal-digits_value}
use Rattle.std.proofs.lemmas.List.Sums.{split_at_first, passes_at_first}
use Rattle.std.proofs.lemmas.Option.{same_Some, cond_some, option_and_then_some}
use Rattle.std.proofs.lemmas.Slice.Eq.{bytes_eq-Decides}
use Rattle.std.proofs.lemmas.Str.Parse.{IsNumeralModel, numerals_by_value, tells_all_ascii_digits}
use Rattle.ev_base.specs.declared.names.Name.{Name}
use Rattle.ev_base.specs.declared.names.Name.TheVariants.{Object, Own, Answer, Gift, Root, Claimed}
use Rattle.ev_base.specs.declared.names.Msg.{Msg}
use Rattle.def_event.specs.Lines.{hex, low_first, vat}
use Rattle.def_event.specs.Lines as lines
use Rattle.ev_text.specs.Lines.{begins_with_zero, is_numeral, spelled_number}
use Rattle.ev_script.specs.Vats.{place_of}
use Rattle.ev_trace_words.specs.Parts.{activation, behind_mark, count, made, otherwise, split_at}
use Rattle.ev_trace_words.specs.Parts as parts
use Rattle.ev_trace_words.proofs.Hexed.{key_is}

-- ---- numbers

both : (a b : Bool) → (a && b) ≡ true → (a ≡ true) × (b ≡ true)
both true b e = (refl, e)
both false b e = absurd cc

guarded : {A : Type 0} (t : Bool) (o : Option A) (x : A) → cond t o None ≡ Some x → (t ≡ true) × (o ≡ Some x)
guarded true o x e = (refl, e)
guarded false o x e = absurd cc

own : IsNumeralModel (λ ds. all_ascii_digits ds ≡ true) (digits_value 10)
own = numerals_by_value _ tells_all_ascii_digits

zero_leads : (ds : List ℕ) → 0 < length ds → get_or ds 0 0 ≡ 48 → begins_with_zero ds ≡ true
zero_leads [] h e = absurd (omega arith)
zero_leads (d ∷ ds) h e = grind (arith, nat_tests)

alone : (ds : List ℕ) (one starts : Bool) → (one || not starts) ≡ true → starts ≡ true → one ≡ true
alone ds true starts e s = refl
alone ds false true e s = absurd cc
alone ds false false e s = absurd cc

pub count_is : (word : List ℕ) (n : ℕ) → count word ≡ Some n → decimal n ≡ word
count_is word n e =
    let a = guarded (is_numeral word) (cond (ltb 0 (length word) && leb (digits_value 10 word) 18446744073709551615) (Some (digits_value 10 word)) None) n e in
    let b = cond_some (ltb 0 (length word) && leb (digits_value 10 word) 18446744073709551615) (digits_value 10 word) n a.1 in
    let c = both (ltb 0 (length word)) (leb (digits_value 10 word) 18446744073709551615) b.0 in
    let d = both (all_ascii_digits word) (eqb (length word) 1 || not (begins_with_zero word)) a.0 in
    let long = ltb-true 0 (length word) c.0 in
    let small = leb-true (digits_value 10 word) 18446744073709551615 c.1 in
    ap decimal (sym b.1)
    ∙ decimal-digits_value own word d.0 long (λ z. eqb-true (length word) 1 (alone word (eqb (length word) 1) (begins_with_zero word) d.1 (zero_leads word long z))) (omega (arith, small))

-- ---- vats

mapped : (o : Option ℕ) (v : ℕ) → option_map suc o ≡ Some v → (u : ℕ) × (o ≡ Some u) × (v ≡ suc u)
mapped None v e = absurd cc
mapped (Some u) v e = (u, refl, sym (same_Some (suc u) v e))

place_by : (names : List (List ℕ)) (x word : List ℕ) (v : ℕ) (t : Bool) → bytes_eq word x ≡ t → ((u : ℕ) → place_of names word ≡ Some u → vat names u ≡ word)
    → cond t (Some 0) (option_map suc (place_of names word)) ≡ Some v → vat (x ∷ names) v ≡ word
place_by names x word v true same next e = ap (vat (x ∷ names)) (sym (same_Some 0 v e)) ∙ sym ((bytes_eq-Decides word x).0 same)
place_by names x word v false same next e = let m = mapped (place_of names word) v e in ap (vat (x ∷ names)) m.2 ∙ next m.0 m.1

pub place_is : (names : List (List ℕ)) (word : List ℕ) (v : ℕ) → place_of names word ≡ Some v → vat names v ≡ word
place_is [] word v e = absurd cc
place_is (x ∷ names) word v e = place_by names x word v (bytes_eq word x) refl (λ u h. place_is names word u h) e

-- ---- words that are split at a mark

pub split_is : (mark : ℕ) (word : List ℕ) (p : List ℕ × List ℕ) → split_at mark word ≡ Some p → word ≡ p.0 ++ mark ∷ p.1
split_is mark word p e =
    let c = cond_some (ltb (position_or_len (λ b. eqb b mark) word) (length word)) (before_first (λ b. eqb b mark) word, after_first (λ b. eqb b mark) word) p e in
    let there = ltb-true (position_or_len (λ b. eqb b mark) word) (length word) c.0 in
    let here = eqb-true (get_or word (position_or_len (λ b. eqb b mark) word) 0) mark (passes_at_first (λ b. eqb b mark) word 0 there) in
    split_at_first (λ b. eqb b mark) word 0 there
    ∙ ap (λ k. before_first (λ b. eqb b mark) word ++ k ∷ after_first (λ b. eqb b mark) word) here
    ∙ ap (λ q. q.0 ++ mark ∷ q.1) c.1

numbered_by : (names : List (List ℕ)) (mark : ℕ) (word front behind : List ℕ) (v n : ℕ) → word ≡ front ++ mark ∷ behind → vat names v ≡ front → decimal n ≡ behind → lines.numbered names v mark n ≡ word
numbered_by names mark word front behind v n w f b = ap (λ x. x ++ mark ∷ decimal n) f ∙ ap (λ x. front ++ mark ∷ x) b ∙ sym w

pub numbered_is : (names : List (List ℕ)) (mark : ℕ) (word : List ℕ) (x : ℕ × ℕ) → parts.numbered names mark word ≡ Some x → lines.numbered names x.0 mark x.1 ≡ word
numbered_is names mark word x e =
    option_and_then_some (λ p. option_and_then (λ v. option_and_then (λ n. Some (v, n)) (count p.1)) (place_of names p.0)) (split_at mark word) x e (λ p s r.
    option_and_then_some (λ v. option_and_then (λ n. Some (v, n)) (count p.1)) (place_of names p.0) x r (λ v q t.
    option_and_then_some (λ n. Some (v, n)) (count p.1) x t (λ n c z.
    ap (λ y. lines.numbered names y.0 mark y.1) (sym (same_Some (v, n) x z)) ∙ numbered_by names mark word p.0 p.1 v n (split_is mark word p s) (place_is names p.0 v q) (count_is p.1 n c))))

-- ---- messages and names

pub message_is : (names : List (List ℕ)) (word : List ℕ) (m : Msg) → parts.message names word ≡ Some m → lines.message names m ≡ word
message_is names word m e =
    option_and_then_some (λ x. Some (record { sender = x.0; number = x.1 })) (parts.numbered names 47 word) m e (λ x s z.
    ap (lines.message names) (sym (same_Some (record { sender = x.0; number = x.1 }) m z)) ∙ numbered_is names 47 word x s)

-- a front without a mark
begins : (mark : ℕ) (word rest : List ℕ) → behind_mark mark word ≡ Some rest → word ≡ mark ∷ rest
begins mark word rest e =
    option_and_then_some (λ p. if_empty p) (split_at mark word) rest e (λ p s z.
    let c = cond_some (eqb (length p.0) 0) p.1 rest z in
    split_is mark word p s ∙ ap (λ f. f ++ mark ∷ p.1) (empty p.0 (eqb-true (length p.0) 0 c.0)) ∙ ap (λ r. mark ∷ r) c.1)
  where
    if_empty : List ℕ × List ℕ → Option (List ℕ)
    if_empty p = cond (eqb (length p.0) 0) (Some p.1) None

    empty : (xs : List ℕ) → length xs ≡ 0 → xs ≡ []
    empty [] h = refl
    empty (x ∷ xs) h = absurd (omega arith)

pub root_is : (names : List (List ℕ)) (word : List ℕ) (x : Name) → parts.root names word ≡ Some x → lines.name names x ≡ word
root_is names word x e =
    option_and_then_some (λ r. option_and_then (λ v. Some (Root v)) (place_of names r)) (behind_mark 64 word) x e (λ r s t.
    option_and_then_some (λ v. Some (Root v)) (place_of names r) x t (λ v q z.
    ap (lines.name names) (sym (same_Some (Root v) x z)) ∙ ap (λ f. 64 ∷ f) (place_is names r v q) ∙ sym (begins 64 word r s)))

answer_parts : (names : List (List ℕ)) (word front behind : List ℕ) (host : ℕ) (m : Msg) → word ≡ front ++ 63 ∷ behind → vat names host ≡ front → lines.message names m ≡ behind → lines.name names (Answer host m) ≡ word
answer_parts names word front behind host m w f b = ap (λ x. x ++ 63 ∷ lines.message names m) f ∙ ap (λ x. front ++ 63 ∷ x) b ∙ sym w

pub answer_is : (names : List (List ℕ)) (word : List ℕ) (x : Name) → parts.answer names word ≡ Some x → lines.name names x ≡ word
answer_is names word x e =
    option_and_then_some (λ p. option_and_then (λ v. option_and_then (λ m. Some (Answer v m)) (parts.message names p.1)) (place_of names p.0)) (split_at 63 word) x e (λ p s r.
    option_and_then_some (λ v. option_and_then (λ m. Some (Answer v m)) (parts.message names p.1)) (place_of names p.0) x r (λ v q t.
    option_and_then_some (λ m. Some (Answer v m)) (parts.message names p.1) x t (λ m c z.
    ap (lines.name names) (sym (same_Some (Answer v m) x z)) ∙ answer_parts names word p.0 p.1 v m (split_is 63 word p s) (place_is names p.0 v q) (message_is names p.1 m c))))

-- the first of two readings, or the second
one_of : {A : Type 0} (a b : Option A) (x : A) → otherwise a b ≡ Some x → (a ≡ Some x) ⊎ (b ≡ Some x)
one_of None b x e = inr e
one_of (Some y) b x e = inl e

made_is : (names : List (List ℕ)) (kind : ℕ → ℕ → Name) (o : Option (ℕ × ℕ)) (x : Name) → made names kind o ≡ Some x → (y : ℕ × ℕ) × (o ≡ Some y) × (kind y.0 y.1 ≡ x)
made_is names kind None x e = absurd cc
made_is names kind (Some y) x e = (y, refl, same_Some (kind y.0 y.1) x e)

thing_is : (names : List (List ℕ)) (kind : ℕ → ℕ → Name) (mark : ℕ) (word : List ℕ) (x : Name) → ((v n : ℕ) → lines.name names (kind v n) ≡ lines.numbered names v mark n)
    → made names kind (parts.numbered names mark word) ≡ Some x → lines.name names x ≡ word
thing_is names kind mark word x p e =
    let m = made_is names kind (parts.numbered names mark word) x e in
    ap (lines.name names) (sym m.2) ∙ p m.0.0 m.0.1 ∙ numbered_is names mark word m.0 m.1

-- ---- gifts that a hostile vat claimed

provided_parts : (names : List (List ℕ)) (word front behind : List ℕ) (v n : ℕ) → word ≡ front ++ 58 ∷ behind → vat names v ≡ front → hex (low_first 16 n) ≡ behind → vat names v ++ 58 ∷ hex (low_first 16 n) ≡ word
provided_parts names word front behind v n w f b = ap (λ x. x ++ 58 ∷ hex (low_first 16 n)) f ∙ ap (λ x. front ++ 58 ∷ x) b ∙ sym w

provided_is : (names : List (List ℕ)) (word : List ℕ) (x : ℕ × ℕ) → parts.provided names word ≡ Some x → vat names x.0 ++ 58 ∷ hex (low_first 16 x.1) ≡ word
provided_is names word x e =
    option_and_then_some (λ p. option_and_then (λ v. option_and_then (λ n. Some (v, n)) (spelled_number p.1)) (place_of names p.0)) (split_at 58 word) x e (λ p s r.
    option_and_then_some (λ v. option_and_then (λ n. Some (v, n)) (spelled_number p.1)) (place_of names p.0) x r (λ v q t.
    option_and_then_some (λ n. Some (v, n)) (spelled_number p.1) x t (λ n c z.
    ap (λ y. vat names y.0 ++ 58 ∷ hex (low_first 16 y.1)) (sym (same_Some (v, n) x z)) ∙ provided_parts names word p.0 p.1 v n (split_is 58 word p s) (place_is names p.0 v q) (key_is p.1 n c))))

claimed_parts : (names : List (List ℕ)) (word front behind : List ℕ) (host provider n : ℕ) → word ≡ front ++ 94 ∷ behind → vat names host ≡ front → vat names provider ++ 58 ∷ hex (low_first 16 n) ≡ behind
    → lines.name names (Claimed host provider n) ≡ word
claimed_parts names word front behind host provider n w f b = ap (λ x. x ++ 94 ∷ (vat names provider ++ 58 ∷ hex (low_first 16 n))) f ∙ ap (λ x. front ++ 94 ∷ x) b ∙ sym w

claimed_is : (names : List (List ℕ)) (word : List ℕ) (x : Name) → parts.claimed names word ≡ Some x → lines.name names x ≡ word
claimed_is names word x e =
    option_and_then_some (λ p. option_and_then (λ v. option_and_then (λ by. Some (Claimed v by.0 by.1)) (parts.provided names p.1)) (place_of names p.0)) (split_at 94 word) x e (λ p s r.
    option_and_then_some (λ v. option_and_then (λ by. Some (Claimed v by.0 by.1)) (parts.provided names p.1)) (place_of names p.0) x r (λ v q t.
    option_and_then_some (λ by. Some (Claimed v by.0 by.1)) (parts.provided names p.1) x t (λ by c z.
    ap (lines.name names) (sym (same_Some (Claimed v by.0 by.1) x z)) ∙ claimed_parts names word p.0 p.1 v by.0 by.1 (split_is 94 word p s) (place_is names p.0 v q) (provided_is names p.1 by c))))

-- ---- the readings of a name, from the last

abbrev root_or_claimed : List (List ℕ) → List ℕ → Option Name
root_or_claimed names word = otherwise (parts.root names word) (parts.claimed names word)

abbrev answer_or_later : List (List ℕ) → List ℕ → Option Name
answer_or_later names word = otherwise (parts.answer names word) (root_or_claimed names word)

abbrev gift_or_later : List (List ℕ) → List ℕ → Option Name
gift_or_later names word = otherwise (made names Gift (parts.numbered names 94 word)) (answer_or_later names word)

abbrev own_or_later : List (List ℕ) → List ℕ → Option Name
own_or_later names word = otherwise (made names Own (parts.numbered names 126 word)) (gift_or_later names word)

fifth_is : (names : List (List ℕ)) (word : List ℕ) (x : Name) → root_or_claimed names word ≡ Some x → lines.name names x ≡ word
fifth_is names word x e = elim (one_of (parts.root names word) (parts.claimed names word) x e) [
  | inl r ↦ root_is names word x r
  | inr c ↦ claimed_is names word x c
]

fourth_is : (names : List (List ℕ)) (word : List ℕ) (x : Name) → answer_or_later names word ≡ Some x → lines.name names x ≡ word
fourth_is names word x e = elim (one_of (parts.answer names word) (root_or_claimed names word) x e) [
  | inl a ↦ answer_is names word x a
  | inr r ↦ fifth_is names word x r
]

third_is : (names : List (List ℕ)) (word : List ℕ) (x : Name) → gift_or_later names word ≡ Some x → lines.name names x ≡ word
third_is names word x e = elim (one_of (made names Gift (parts.numbered names 94 word)) (answer_or_later names word) x e) [
  | inl g ↦ thing_is names Gift 94 word x (λ v n. refl) g
  | inr r ↦ fourth_is names word x r
]

second_is : (names : List (List ℕ)) (word : List ℕ) (x : Name) → own_or_later names word ≡ Some x → lines.name names x ≡ word
second_is names word x e = elim (one_of (made names Own (parts.numbered names 126 word)) (gift_or_later names word) x e) [
  | inl g ↦ thing_is names Own 126 word x (λ v n. refl) g
  | inr r ↦ third_is names word x r
]

-- a word that is read as a name is how it is printed
pub name_is : (names : List (List ℕ)) (word : List ℕ) (x : Name) → parts.name names word ≡ Some x → lines.name names x ≡ word
name_is names word x e = elim (one_of (made names Object (parts.numbered names 46 word)) (own_or_later names word) x e) [
  | inl g ↦ thing_is names Object 46 word x (λ v n. refl) g
  | inr r ↦ second_is names word x r
]
