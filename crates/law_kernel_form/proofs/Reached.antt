-- Where a character of a word or a literal leads, and that all that is read is a tree.
use Rattle.std.proofs.Common.{◌≡◌, ℕ, ◌+◌, ◌-◌, ◌^◌, ◌<◌, ◌≤◌, inl, inr, Result, Ok, Err, ◌&&◌, ◌||◌, not, cond, eqb, ltb, leb, Bool, true, false, ℤ, pos, negsuc, List, [], ◌∷◌, ◌++◌, length, Option, Some, None, option_map, option_and_then, refl, sym, ◌∙◌, ap, subst, arith, lit<}
use Rattle.std.specs.Prelude.{◌-ℤ◌, ◌+ℤ◌, ◌*ℤ◌}
use Rattle.std.specs.Char.{IsScalar, encode_utf8}
use Rattle.std.specs.Str.{IsUtf8, chars}
use lib.Utf8.{scalar, scalars, low_scalar}
use Rattle.std.proofs.lemmas.Bool.{leb-true}
use Rattle.std.proofs.lemmas.Bool.Decides.{nat_tests}
use Rattle.std.proofs.lemmas.Option.{same_Some, option_and_then_some}
use Rattle.std.proofs.lemmas.Str.{IsUtf8-append, IsUtf8-encode, scalars-chars}
use Rattle.def_text.specs.Keywords.{is_identifier, continues_identifier}
use Rattle.def_kernel.specs.declared.node.Literal.{Literal}
use Rattle.def_kernel.specs.declared.node.Literal.TheVariants.{Int, Char, Text}
use Rattle.def_kernel.specs.declared.node.Node.{Node}
use Rattle.def_kernel.specs.declared.reader.Item.TheVariants.{Word as AWord, Literal as ALit}
use Rattle.def_kernel.specs.declared.reader.Frame.{Frame}
use Rattle.def_kernel.specs.declared.reader.Place.{Place as Digits}
use Rattle.def_kernel.specs.declared.reader.Place.TheVariants.{First, Second, Third, Low, High}
use Rattle.def_kernel.specs.declared.reader.Digit.{Digit}
use Rattle.def_kernel.specs.declared.reader.Digit.TheVariants.{More, Made}
use Rattle.def_kernel.specs.declared.reader.Mode.{Mode}
use Rattle.def_kernel.specs.declared.reader.Mode.TheVariants.{Opening as opening, Heading as heading, Behind as behind, Before as before, Grouping as grouping, Exiting as exiting, Bare as bare, Negative as negative, Digits as digits, Text as text, TextEscape as text_escape, TextNumber as text_number, Character as character, CharacterEscape as character_escape, CharacterNumber as character_number, CharacterEnd as character_end, Whole as whole}
use Rattle.def_kernel.specs.declared.reader.State.{State}
use Rattle.def_kernel.specs.declared.shape.Kind.{Kind}
use Rattle.def_kernel.specs.declared.shape.Want.TheVariants as want
use Rattle.def_kernel.specs.Reading.{next_wanted, add_item, step, step_in, step_bare, step_digits, step_negative, step_text, step_text_escape, step_character, step_character_escape, step_character_end, item_ends, is_digit, is_zero, fits, with_digit, more_digits, letter_escape, character_letter, hexadecimal, low_control, number_digit, text_digit, character_digit, text_item, may_end_text, ends_word}
use Rattle.def_kernel.specs.declared.shape.Kind.TheVariants.{Expression}
use Rattle.def_kernel.specs.Reading.{read_on, finished, started}
use Rattle.def_kernel.specs.Trees.{IsInt, IsLiteral, IsTree, Tree}
use Rattle.law_kernel_form.specs.Laws.{WhatIsReadIsATree}
use Rattle.std.specs.List.{flat_map}
use Rattle.std.specs.Fmt.{signed_decimal}
use Rattle.std.specs.Char.{digit_char}
use Rattle.std.specs.Str.{encode_utf8_all}
use Rattle.std.proofs.Common.{zero, suc, append_assoc, ltb, ◌%◌}
use Rattle.std.proofs.lemmas.Bool.{lt-ltb, ltb-true, eqb-true}
use Rattle.std.proofs.lemmas.List.{append-nil}
use Rattle.std.proofs.lemmas.Grind.{flat_map-append}
use Rattle.std.proofs.lemmas.Str.{encode_ascii, encodes-chars}
use Rattle.def_text.specs.Quoting.{by_number, escaped, escaped_character, quoted}
use Rattle.ev_text.proofs.QuotingLemmas.{escaped_bytes}
use Rattle.def_kernel.specs.Forms.{form_within}
use Rattle.law_kernel_form.specs.Laws.{WhatIsReadPrintsTheSame}
use Rattle.law_kernel_form.proofs.Decimals.{one_down, negative_text, added_text}
use Rattle.law_kernel_form.proofs.Quoted.{no_tens, units, one_ten, high_units}
use Rattle.law_kernel_form.proofs.Writing.{IsSigned, up_to_item, text_at, item_text, last_form, read_text, place_text, alone_text}
use Rattle.law_kernel_form.proofs.Stepping.{byte, by_test, by_choice, by_value, nothing_here, leads_to, item_good, behind_good, heading_good, before_good, grouping_good, exiting_good, digit_low, small_negative, left, right}
use Rattle.law_kernel_form.proofs.Steps.{steps, reads_one, state}
use Rattle.law_kernel_form.proofs.Shapes.{ItemFits, a_name, a_verb, a_literal}
use Rattle.law_kernel_form.proofs.Standing.{grown, at_root, Open, text_want, WordNext, Stands, StandsAt, Later, Good, earlier, stays, adds, open_more}

longer : (w : List ℕ) (c : ℕ) → IsUtf8 w → IsScalar c → IsUtf8 (w ++ encode_utf8 c)
longer w c utf8 scalar = IsUtf8-append w (encode_utf8 c) utf8 (IsUtf8-encode c scalar)

-- a word
word_added : {last : List Node} {frames : List Frame} {m : ℕ} (w : List ℕ) → Open last frames m → WordNext frames → IsUtf8 w → is_identifier w ≡ true → Open last (add_item (AWord w) frames) m
word_added {last = last} {m = m} w opened (inl next) utf8 is = open_more opened (subst (λ o. ItemFits last o (AWord w) m m) (sym next) (a_name (record { utf8 = utf8; is_one = is })))
word_added {last = last} {m = m} w opened (inr next) utf8 is = open_more opened (subst (λ o. ItemFits last o (AWord w) m m) (sym next) (a_verb utf8))

letter_low : (c e : ℕ) → letter_escape c ≡ Some e → e < 128
letter_low c e h = grind (arith, nat_tests)

character_letter_low : (c e : ℕ) → character_letter c ≡ Some e → e < 128
character_letter_low c e h = by_choice (eqb c 39) (Some 39) (letter_escape c) e h (λ _ is. subst (λ x. x < 128) (same_Some 39 e is) (lit< tt)) (λ _ is. letter_low c e is)

scalar_of : (e : ℕ) → e < 128 → IsScalar e
scalar_of e h = low_scalar e (omega arith)

hexadecimal_low : (c d : ℕ) → hexadecimal c ≡ Some d → d < 16
hexadecimal_low c d h = grind (arith, nat_tests)

absurd_true : {P : Type 0} → true ≡ false → P
absurd_true e = absurd (cc)

escaped_self : (c : ℕ) → eqb c 34 ≡ false → eqb c 92 ≡ false → ltb c 32 ≡ false → c ∷ [] ≡ escaped c
escaped_self c quote slash low = grind (arith, nat_tests)

signed_down : (d : ℕ) → 0 < d → IsSigned true (pos 0 -ℤ pos d)
signed_down zero h = absurd (omega arith)
signed_down (suc d) h = subst (IsSigned true) (sym (one_down d)) tt

difference : (c : ℕ) → is_digit c ≡ true → eqb c 48 ≡ false → 0 < c - 48
difference c digit other = grind (arith, nat_tests)

plain_by : (c : ℕ) (b : Bool) → ltb c 128 ≡ b → eqb c 34 ≡ false → eqb c 92 ≡ false → ltb c 32 ≡ false → encode_utf8 c ≡ cond b (escaped c) (encode_utf8 c)
plain_by c true e quote slash low = encode_ascii c (ltb-true c 128 e) ∙ escaped_self c quote slash low
plain_by c false e quote slash low = refl

letter_at : (P : ℕ → ℕ → Type 0) (c d x e : ℕ) → eqb c d ≡ true → Some x ≡ Some e → P d x → P c e
letter_at P c d x e at is p = subst (λ y. P c y) (same_Some x e is) (subst (λ y. P y x) (sym (eqb-true c d at)) p)

far : (e d : ℕ) → e < d → eqb e d ≡ false
far e d h = grind (arith, nat_tests)

above : (e d : ℕ) → d < e → eqb e d ≡ false
above e d h = grind (arith, nat_tests)

hexadecimal_narrow : (c d : ℕ) → hexadecimal c ≡ Some d → c < 128
hexadecimal_narrow c d h = grind (arith, nat_tests)

same_place : (place next : Digits) → Some (More place) ≡ Some (More next) → place_text place ≡ place_text next
same_place place next e = let same : place ≡ next = cc in ap place_text same

same_number : (d e : ℕ) → Made d ≡ Made e → d ≡ e
same_number d e h = cc

same_made : (d e : ℕ) → Some (Made d) ≡ Some (Made e) → d ≡ e
same_made d e h = cc

not_made : {P : Type 0} (place : Digits) (e : ℕ) → Some (More place) ≡ Some (Made e) → P
not_made place e h = absurd (cc)

negative_signed : (c : ℕ) → is_digit c ≡ true → eqb c 48 ≡ false → IsSigned true (pos 0 -ℤ pos (c - 48))
negative_signed c digit other = signed_down (c - 48) (difference c digit other)

not_true : (b : Bool) → not b ≡ true → b ≡ false
not_true true e = absurd (cc)
not_true false e = refl

neither : (a b c : Bool) → (a || b || c) ≡ false → (a ≡ false) × ((b ≡ false) × (c ≡ false))
neither false false false e = (refl, (refl, refl))
neither false false true e = absurd_true e
neither false true c e = absurd_true e
neither true b c e = absurd_true e

-- a character that stands for itself
plain_is : (c : ℕ) → eqb c 34 ≡ false → eqb c 92 ≡ false → ltb c 32 ≡ false → encode_utf8 c ≡ escaped_character c
plain_is c quote slash low = plain_by c (ltb c 128) refl quote slash low

-- one more character of a text
escaped_more : (w : List ℕ) (e : ℕ) → flat_map escaped w ++ escaped_character e ≡ flat_map escaped (w ++ encode_utf8 e)
escaped_more w e = ap (λ v. flat_map escaped w ++ v) (sym (escaped_bytes e)) ∙ sym (flat_map-append escaped w (encode_utf8 e))

-- each escape of one letter
by_letter : (P : ℕ → ℕ → Type 0) → P 110 10 → P 116 9 → P 114 13 → P 92 92 → P 34 34 → (c e : ℕ) → letter_escape c ≡ Some e → P c e
by_letter P n t r slash quote c e h =
    by_choice (eqb c 110) (Some 10) _ e h (λ at is. letter_at P c 110 10 e at is n)
    (λ _ h1. by_choice (eqb c 116) (Some 9) _ e h1 (λ at is. letter_at P c 116 9 e at is t)
    (λ _ h2. by_choice (eqb c 114) (Some 13) _ e h2 (λ at is. letter_at P c 114 13 e at is r)
    (λ _ h3. by_choice (eqb c 92) (Some 92) _ e h3 (λ at is. letter_at P c 92 92 e at is slash)
    (λ _ h4. by_choice (eqb c 34) (Some 34) None e h4 (λ at is. letter_at P c 34 34 e at is quote) (λ _ none. nothing_here e none)))))

letter_text : (c e : ℕ) → letter_escape c ≡ Some e → 92 ∷ encode_utf8 c ≡ escaped_character e
unfolding encode_utf8
letter_text = by_letter (λ c e. 92 ∷ encode_utf8 c ≡ escaped_character e) refl refl refl refl refl

letter_alone : (c e : ℕ) → letter_escape c ≡ Some e → 92 ∷ encode_utf8 c ≡ alone_text e
unfolding encode_utf8
letter_alone = by_letter (λ c e. 92 ∷ encode_utf8 c ≡ alone_text e) refl refl refl refl refl

-- the digits of an escape by its number
hexadecimal_is : (c d : ℕ) → hexadecimal c ≡ Some d → c ≡ digit_char d
hexadecimal_is c d h = grind (arith, nat_tests)

hexadecimal_byte : (c d : ℕ) → hexadecimal c ≡ Some d → encode_utf8 c ≡ digit_char d ∷ []
hexadecimal_byte c d h = encode_ascii c (hexadecimal_narrow c d h) ∙ ap (λ x. x ∷ []) (hexadecimal_is c d h)

number_is : (e : ℕ) → eqb e 9 ≡ false → eqb e 10 ≡ false → eqb e 13 ≡ false → e < 32 → by_number e ≡ escaped_character e
number_is e n9 n10 n13 h =
    let n92 : eqb e 92 ≡ false = far e 92 (omega arith) in let n34 : eqb e 34 ≡ false = far e 34 (omega arith) in
    let low : ltb e 32 ≡ true = lt-ltb e 32 h in let narrow : ltb e 128 ≡ true = lt-ltb e 128 (omega arith) in
    rw (narrow, n10, n9, n13, n92, n34, low) refl

low_number : (e : ℕ) → e < 16 → by_number e ≡ 92 ∷ 117 ∷ 48 ∷ 48 ∷ 48 ∷ digit_char e ∷ []
low_number e h = ap (λ x. 92 ∷ 117 ∷ 48 ∷ 48 ∷ digit_char x ∷ digit_char (e % 16) ∷ []) (no_tens e h) ∙ ap (λ x. 92 ∷ 117 ∷ 48 ∷ 48 ∷ 48 ∷ digit_char x ∷ []) (units e h)

high_number : (d : ℕ) → d < 16 → by_number (16 + d) ≡ 92 ∷ 117 ∷ 48 ∷ 48 ∷ 49 ∷ digit_char d ∷ []
high_number d h =
    ap (λ x. 92 ∷ 117 ∷ 48 ∷ 48 ∷ digit_char x ∷ digit_char ((16 + d) % 16) ∷ []) (one_ten (16 + d) (omega arith) (omega arith))
    ∙ ap (λ x. 92 ∷ 117 ∷ 48 ∷ 48 ∷ 49 ∷ digit_char x ∷ []) (high_units (16 + d) (omega arith) (omega arith) ∙ omega arith)

place_more : (place next : Digits) (c : ℕ) → number_digit place c ≡ Some (More next) → place_text place ++ encode_utf8 c ≡ place_text next
place_more First next c h = by_choice (eqb c 48) (Some (More Second)) None (More next) h (λ at is. ap (λ v. place_text First ++ v) (byte c 48 at (lit< tt)) ∙ same_place Second next is) (λ _ none. nothing_here (More next) none)
place_more Second next c h = by_choice (eqb c 48) (Some (More Third)) None (More next) h (λ at is. ap (λ v. place_text Second ++ v) (byte c 48 at (lit< tt)) ∙ same_place Third next is) (λ _ none. nothing_here (More next) none)
place_more Third next c h =
    by_choice (eqb c 48) (Some (More Low)) (cond (eqb c 49) (Some (More High)) None) (More next) h (λ at is. ap (λ v. place_text Third ++ v) (byte c 48 at (lit< tt)) ∙ same_place Low next is)
    (λ _ on. by_choice (eqb c 49) (Some (More High)) None (More next) on (λ at is. ap (λ v. place_text Third ++ v) (byte c 49 at (lit< tt)) ∙ same_place High next is) (λ _ none. nothing_here (More next) none))
place_more Low next c h = option_and_then_some low_control (hexadecimal c) (More next) h (λ d at is. by_choice ((eqb d 9) || (eqb d 10) || (eqb d 13)) None (Some (Made d)) (More next) is (λ _ none. nothing_here (More next) none) (λ _ made. absurd (cc)))
place_more High next c h = by_value (λ d. Made (16 + d)) (hexadecimal c) (More next) h (λ d at is. absurd (cc))

low_made : (c d e : ℕ) → hexadecimal c ≡ Some d → low_control d ≡ Some (Made e) → (92 ∷ 117 ∷ 48 ∷ 48 ∷ 48 ∷ encode_utf8 c ≡ escaped_character e) × (e < 32)
low_made c d e at is =
    by_choice ((eqb d 9) || (eqb d 10) || (eqb d 13)) None (Some (Made d)) (Made e) is (λ _ none. nothing_here (Made e) none) (λ none made.
    let n = neither (eqb d 9) (eqb d 10) (eqb d 13) none in
    let l = hexadecimal_low c d at in
    let same : d ≡ e = same_made d e made in (
      ap (λ v. 92 ∷ 117 ∷ 48 ∷ 48 ∷ 48 ∷ v) (hexadecimal_byte c d at) ∙ sym (low_number d l) ∙ number_is d n.0 n.1.0 n.1.1 (omega arith) ∙ ap escaped_character same,
      subst (λ x. x < 32) same (omega arith),
    ))

high_made : (c d e : ℕ) → hexadecimal c ≡ Some d → 16 + d ≡ e → (92 ∷ 117 ∷ 48 ∷ 48 ∷ 49 ∷ encode_utf8 c ≡ escaped_character e) × (e < 32)
high_made c d e at same =
    let l = hexadecimal_low c d at in (
      ap (λ v. 92 ∷ 117 ∷ 48 ∷ 48 ∷ 49 ∷ v) (hexadecimal_byte c d at) ∙ sym (high_number d l)
          ∙ number_is (16 + d) (above (16 + d) 9 (omega arith)) (above (16 + d) 10 (omega arith)) (above (16 + d) 13 (omega arith)) (omega arith) ∙ ap escaped_character same,
      subst (λ x. x < 32) same (omega arith),
    )

place_made : (place : Digits) (c e : ℕ) → number_digit place c ≡ Some (Made e) → (place_text place ++ encode_utf8 c ≡ escaped_character e) × (e < 32)
place_made First c e h = by_choice (eqb c 48) (Some (More Second)) None (Made e) h (λ _ is. not_made Second e is) (λ _ none. nothing_here (Made e) none)
place_made Second c e h = by_choice (eqb c 48) (Some (More Third)) None (Made e) h (λ _ is. not_made Third e is) (λ _ none. nothing_here (Made e) none)
place_made Third c e h =
    by_choice (eqb c 48) (Some (More Low)) (cond (eqb c 49) (Some (More High)) None) (Made e) h (λ _ is. not_made Low e is)
    (λ _ on. by_choice (eqb c 49) (Some (More High)) None (Made e) on (λ _ is. not_made High e is) (λ _ none. nothing_here (Made e) none))
place_made Low c e h = option_and_then_some low_control (hexadecimal c) (Made e) h (λ d at is. low_made c d e at is)
place_made High c e h = by_value (λ d. Made (16 + d)) (hexadecimal c) (Made e) h (λ d at is. high_made c d e at (same_number (16 + d) e is))

bare_good : (last : List Node) (c : ℕ) (w : List ℕ) (frames : List Frame) (nodes : List Node) (t : State) → IsScalar c → step_bare w c (state frames nodes whole) ≡ Some t
    → Good last (encode_utf8 c) (state frames nodes (bare w)) t
bare_good last c w frames nodes t scalar e =
    by_test (ends_word c) (elim (is_identifier w) as (λ _. Option State) [ true ↦ item_ends (AWord w) c (state frames nodes whole) | false ↦ None ])
    (elim (continues_identifier c) as (λ _. Option State) [ true ↦ Some (state frames nodes (bare (w ++ encode_utf8 c))) | false ↦ None ]) t e
    (λ _ ends. by_test (is_identifier w) (item_ends (AWord w) c (state frames nodes whole)) None t ends
    (λ is goes. item_good last c frames nodes (bare w) (AWord w) t (λ x. x.0) (λ x. word_added w x.0 x.1.0 x.1.1 is) refl (λ x. sym (ap (λ b. cond b w (quoted w)) is)) goes) (λ _ none. nothing_here t none))
    (λ _ more. by_test (continues_identifier c) (Some (state frames nodes (bare (w ++ encode_utf8 c)))) None t more
    (λ _ is. leads_to last (encode_utf8 c) (state frames nodes (bare w)) (state frames nodes (bare (w ++ encode_utf8 c))) t is
    (stays last (encode_utf8 c) frames nodes (bare w) (bare (w ++ encode_utf8 c)) (λ x. (x.0, (x.1.0, longer w c x.1.1 scalar))) (λ _. append_assoc (up_to_item (last_form last) frames) w (encode_utf8 c))))
    (λ _ none. nothing_here t none))

-- an integer
negative_good : (last : List Node) (c : ℕ) (frames : List Frame) (nodes : List Node) (t : State) → step_negative c (state frames nodes whole) ≡ Some t
    → Good last (encode_utf8 c) (state frames nodes negative) t
negative_good last c frames nodes t e =
    let z : ℤ = pos 0 -ℤ pos (c - 48) in
    by_test (is_digit c && not (eqb c 48)) (Some (state frames nodes (digits true z))) None t e
    (λ is leads.
    let digit = left (is_digit c) (not (eqb c 48)) is in let other = not_true (eqb c 48) (right (is_digit c) (not (eqb c 48)) is) in
    leads_to last (encode_utf8 c) (state frames nodes negative) (state frames nodes (digits true z)) t leads
    (stays last (encode_utf8 c) frames nodes negative (digits true z)
    (λ x. (x, (small_negative (c - 48) (let l = digit_low c digit in omega arith), negative_signed c digit other)))
    (λ _. grown (up_to_item (last_form last) frames) (45 ∷ []) (encode_utf8 c) (signed_decimal z) (negative_text c digit other))))
    (λ _ none. nothing_here t none)

fits_is : (z y : ℤ) → fits z ≡ Some y → IsInt y
fits_is (pos n) y e =
    by_choice (leb n (2 ^ 127 - 1)) (Some (pos n)) None y e
    (λ low is. subst IsInt (same_Some (pos n) y is) (let l : n ≤ 2 ^ 127 - 1 = leb-true n (2 ^ 127 - 1) low in omega arith)) (λ _ none. nothing_here y none)
fits_is (negsuc n) y e =
    by_choice (leb n (2 ^ 127 - 1) && true) (Some (negsuc n)) None y e
    (λ low is. subst IsInt (same_Some (negsuc n) y is) (let l : n ≤ 2 ^ 127 - 1 = leb-true n (2 ^ 127 - 1) (left (leb n (2 ^ 127 - 1)) true low) in omega arith))
    (λ _ none. nothing_here y none)

digit_fits : (minus : Bool) (d : ℕ) (z y : ℤ) → with_digit minus d z ≡ Some y → IsInt y
digit_fits true d z y e = option_and_then_some (λ tens. fits (tens -ℤ pos d)) (fits (z *ℤ pos 10)) y e (λ tens _ is. fits_is (tens -ℤ pos d) y is)
digit_fits false d z y e = option_and_then_some (λ tens. fits (tens +ℤ pos d)) (fits (z *ℤ pos 10)) y e (λ tens _ is. fits_is (tens +ℤ pos d) y is)

more_good : (last : List Node) (c : ℕ) (minus : Bool) (z : ℤ) (frames : List Frame) (nodes : List Node) (t : State) (o : Option ℤ) → with_digit minus (c - 48) z ≡ o → is_digit c ≡ true → is_zero z ≡ false
    → more_digits minus o (state frames nodes whole) ≡ Some t → Good last (encode_utf8 c) (state frames nodes (digits minus z)) t
more_good last c minus z frames nodes t None at digit some e = nothing_here t e
more_good last c minus z frames nodes t (Some y) at digit some e =
    let int = digit_fits minus (c - 48) z y at in
    leads_to last (encode_utf8 c) (state frames nodes (digits minus z)) (state frames nodes (digits minus y)) t e (stays last (encode_utf8 c) frames nodes (digits minus z) (digits minus y)
    (λ x. (x.0, (int, (added_text minus c z y x.1.1 int some digit at).1)))
    (λ x. grown (up_to_item (last_form last) frames) (signed_decimal z) (encode_utf8 c) (signed_decimal y) (added_text minus c z y x.1.1 int some digit at).0))

literal_added : {last : List Node} {frames : List Frame} {m : ℕ} (l : Literal) → Open last frames m → next_wanted frames ≡ Some want.Literal → IsLiteral l → Open last (add_item (ALit l) frames) m
literal_added {last = last} {m = m} l opened next is = open_more opened (subst (λ o. ItemFits last o (ALit l) m m) (sym next) (a_literal is))

digits_good : (last : List Node) (c : ℕ) (minus : Bool) (z : ℤ) (frames : List Frame) (nodes : List Node) (t : State) → step_digits minus z c (state frames nodes whole) ≡ Some t
    → Good last (encode_utf8 c) (state frames nodes (digits minus z)) t
digits_good last c minus z frames nodes t e =
    by_test (is_digit c) (elim (is_zero z) as (λ _. Option State) [ true ↦ None | false ↦ more_digits minus (with_digit minus (c - 48) z) (state frames nodes whole) ])
    (item_ends (ALit (Int z)) c (state frames nodes whole)) t e
    (λ digit goes. by_test (is_zero z) None (more_digits minus (with_digit minus (c - 48) z) (state frames nodes whole)) t goes (λ _ none. nothing_here t none)
    (λ some more. more_good last c minus z frames nodes t (with_digit minus (c - 48) z) refl digit some more))
    (λ _ ends. item_good last c frames nodes (digits minus z) (ALit (Int z)) t (λ x. x.0.0) (λ x. literal_added (Int z) x.0.0 x.0.1 x.1.0) refl (λ _. refl) ends)

-- a text
text_added : {last : List Node} {frames : List Frame} {m : ℕ} (verb : Bool) (w : List ℕ) → Open last frames m → next_wanted frames ≡ Some (text_want verb) → IsUtf8 w
    → Open last (add_item (text_item verb w) frames) m
text_added {last = last} {m = m} true w opened next utf8 = open_more opened (subst (λ o. ItemFits last o (AWord w) m m) (sym next) (a_verb utf8))
text_added false w opened next utf8 = literal_added (Text w) opened next utf8

quoted_is : (form : ℕ → List ℕ) (verb : Bool) (w : List ℕ) → may_end_text verb w ≡ true → quoted w ≡ item_text form (text_item verb w)
quoted_is form true w e = sym (ap (λ b. cond b w (quoted w)) (not_true (is_identifier w) e))
quoted_is form false w e = refl

text_good : (last : List Node) (c : ℕ) (verb : Bool) (w : List ℕ) (frames : List Frame) (nodes : List Node) (t : State) → IsScalar c → step_text verb w c (state frames nodes whole) ≡ Some t
    → Good last (encode_utf8 c) (state frames nodes (text verb w)) t
text_good last c verb w frames nodes t scalar e =
    let here = state frames nodes (text verb w) in
    let b = up_to_item (last_form last) frames in
    let f = flat_map escaped w in
    let ended = state (add_item (text_item verb w) frames) nodes behind in
    let escape = state frames nodes (text_escape verb w) in
    let more = state frames nodes (text verb (w ++ encode_utf8 c)) in
    by_test (eqb c 34) (elim (may_end_text verb w) as (λ _. Option State) [ true ↦ Some ended | false ↦ None ])
    (elim (eqb c 92) as (λ _. Option State) [ true ↦ Some escape | false ↦ elim (ltb c 32) as (λ _. Option State) [ true ↦ None | false ↦ Some more ] ]) t e
    (λ at ends. by_test (may_end_text verb w) (Some ended) None t ends
    (λ may is. leads_to last (encode_utf8 c) here ended t is (adds last (encode_utf8 c) frames nodes (text verb w) (text_item verb w) (λ x. x.0.0) (λ x. text_added verb w x.0.0 x.0.1 x.1) refl
    (λ _. ap (λ v. 34 ∷ (f ++ v)) (byte c 34 at (lit< tt)) ∙ quoted_is (last_form last) verb w may))) (λ _ none. nothing_here t none))
    (λ quote on. by_test (eqb c 92) (Some escape) (elim (ltb c 32) as (λ _. Option State) [ true ↦ None | false ↦ Some more ]) t on
    (λ at is. leads_to last (encode_utf8 c) here escape t is (stays last (encode_utf8 c) frames nodes (text verb w) (text_escape verb w) (λ x. x)
    (λ _. grown b (34 ∷ f) (encode_utf8 c) (34 ∷ (f ++ 92 ∷ [])) (ap (λ v. 34 ∷ (f ++ v)) (byte c 92 at (lit< tt))))))
    (λ slash plain. by_test (ltb c 32) None (Some more) t plain (λ _ none. nothing_here t none)
    (λ low is. leads_to last (encode_utf8 c) here more t is (stays last (encode_utf8 c) frames nodes (text verb w) (text verb (w ++ encode_utf8 c)) (λ x. (x.0, longer w c x.1 scalar))
    (λ _. grown b (34 ∷ f) (encode_utf8 c) (34 ∷ flat_map escaped (w ++ encode_utf8 c)) (ap (λ v. 34 ∷ v) (ap (λ v. f ++ v) (plain_is c quote slash low) ∙ escaped_more w c)))))))

made_is : (d e : ℕ) → low_control d ≡ Some (Made e) → d ≡ e
made_is d e h = by_choice ((eqb d 9) || (eqb d 10) || (eqb d 13)) None (Some (Made d)) (Made e) h (λ _ none. nothing_here (Made e) none) (λ _ is. cc)

made_scalar : (place : Digits) (c e : ℕ) → number_digit place c ≡ Some (Made e) → IsScalar e
made_scalar First c e h = by_choice (eqb c 48) (Some (More Second)) None (Made e) h (λ _ is. absurd (cc)) (λ _ none. nothing_here (Made e) none)
made_scalar Second c e h = by_choice (eqb c 48) (Some (More Third)) None (Made e) h (λ _ is. absurd (cc)) (λ _ none. nothing_here (Made e) none)
made_scalar Third c e h =
    by_choice (eqb c 48) (Some (More Low)) (cond (eqb c 49) (Some (More High)) None) (Made e) h (λ _ is. absurd (cc))
    (λ _ on. by_choice (eqb c 49) (Some (More High)) None (Made e) on (λ _ is. absurd (cc)) (λ _ none. nothing_here (Made e) none))
made_scalar Low c e h =
    option_and_then_some low_control (hexadecimal c) (Made e) h (λ d at is. scalar_of e (let l = hexadecimal_low c d at in let same = made_is d e is in omega arith))
made_scalar High c e h =
    by_value (λ d. Made (16 + d)) (hexadecimal c) (Made e) h (λ d at is. scalar_of e (let l = hexadecimal_low c d at in let same : 16 + d ≡ e = cc in omega arith))

escape_good : (last : List Node) (c : ℕ) (verb : Bool) (w : List ℕ) (frames : List Frame) (nodes : List Node) (t : State) → step_text_escape verb w c (state frames nodes whole) ≡ Some t
    → Good last (encode_utf8 c) (state frames nodes (text_escape verb w)) t
escape_good last c verb w frames nodes t e =
    let here = state frames nodes (text_escape verb w) in
    let b = up_to_item (last_form last) frames in
    let f = flat_map escaped w in
    by_test (eqb c 117) (Some (state frames nodes (text_number verb w First))) (option_map (λ x. state frames nodes (text verb (w ++ encode_utf8 x))) (letter_escape c)) t e
    (λ at is. leads_to last (encode_utf8 c) here (state frames nodes (text_number verb w First)) t is (stays last (encode_utf8 c) frames nodes (text_escape verb w) (text_number verb w First) (λ x. x)
    (λ _. grown b (34 ∷ (f ++ 92 ∷ [])) (encode_utf8 c) (34 ∷ (f ++ place_text First)) (ap (λ v. 34 ∷ v) (append_assoc f (92 ∷ []) (encode_utf8 c) ∙ ap (λ v. f ++ 92 ∷ v) (byte c 117 at (lit< tt)))))))
    (λ _ on. by_value (λ x. state frames nodes (text verb (w ++ encode_utf8 x))) (letter_escape c) t on (λ y is leads.
    subst (λ x. Good last (encode_utf8 c) here x) leads (stays last (encode_utf8 c) frames nodes (text_escape verb w) (text verb (w ++ encode_utf8 y)) (λ x. (x.0, longer w y x.1 (scalar_of y (letter_low c y is))))
    (λ _. grown b (34 ∷ (f ++ 92 ∷ [])) (encode_utf8 c) (34 ∷ flat_map escaped (w ++ encode_utf8 y))
    (ap (λ v. 34 ∷ v) (append_assoc f (92 ∷ []) (encode_utf8 c) ∙ ap (λ v. f ++ v) (letter_text c y is) ∙ escaped_more w y))))))

number_leads : (last : List Node) (c : ℕ) (verb : Bool) (w : List ℕ) (place : Digits) (frames : List Frame) (nodes : List Node) (digit : Digit) → number_digit place c ≡ Some digit
    → Good last (encode_utf8 c) (state frames nodes (text_number verb w place)) (state frames nodes (text_digit verb w digit))
number_leads last c verb w place frames nodes (More next) at =
    let f = flat_map escaped w in
    stays last (encode_utf8 c) frames nodes (text_number verb w place) (text_number verb w next) (λ x. x)
    (λ _. grown (up_to_item (last_form last) frames) (34 ∷ (f ++ place_text place)) (encode_utf8 c) (34 ∷ (f ++ place_text next))
    (ap (λ v. 34 ∷ v) (append_assoc f (place_text place) (encode_utf8 c) ∙ ap (λ v. f ++ v) (place_more place next c at))))
number_leads last c verb w place frames nodes (Made e) at =
    let f = flat_map escaped w in
    stays last (encode_utf8 c) frames nodes (text_number verb w place) (text verb (w ++ encode_utf8 e)) (λ x. (x.0, longer w e x.1 (made_scalar place c e at)))
    (λ _. grown (up_to_item (last_form last) frames) (34 ∷ (f ++ place_text place)) (encode_utf8 c) (34 ∷ flat_map escaped (w ++ encode_utf8 e))
    (ap (λ v. 34 ∷ v) (append_assoc f (place_text place) (encode_utf8 c) ∙ ap (λ v. f ++ v) (place_made place c e at).0 ∙ escaped_more w e)))

number_good : (last : List Node) (c : ℕ) (verb : Bool) (w : List ℕ) (place : Digits) (frames : List Frame) (nodes : List Node) (t : State)
    → option_map (λ digit. state frames nodes (text_digit verb w digit)) (number_digit place c) ≡ Some t → Good last (encode_utf8 c) (state frames nodes (text_number verb w place)) t
number_good last c verb w place frames nodes t e =
    by_value (λ digit. state frames nodes (text_digit verb w digit)) (number_digit place c) t e (λ digit at leads.
    subst (λ x. Good last (encode_utf8 c) (state frames nodes (text_number verb w place)) x) leads (number_leads last c verb w place frames nodes digit at))

-- a character
alone_is : (c : ℕ) → eqb c 39 ≡ false → escaped_character c ≡ alone_text c
alone_is c e = sym (ap (λ b. cond b (92 ∷ 39 ∷ []) (escaped_character c)) e)

character_good : (last : List Node) (c : ℕ) (frames : List Frame) (nodes : List Node) (t : State) → IsScalar c → step_character c (state frames nodes whole) ≡ Some t
    → Good last (encode_utf8 c) (state frames nodes character) t
character_good last c frames nodes t scalar e =
    let here = state frames nodes character in
    let b = up_to_item (last_form last) frames in
    by_test (eqb c 92) (Some (state frames nodes character_escape))
    (elim ((eqb c 39) || (eqb c 34) || (ltb c 32)) as (λ _. Option State) [ true ↦ None | false ↦ Some (state frames nodes (character_end c)) ]) t e
    (λ at is. leads_to last (encode_utf8 c) here (state frames nodes character_escape) t is (stays last (encode_utf8 c) frames nodes character character_escape (λ x. x)
    (λ _. grown b (39 ∷ []) (encode_utf8 c) (39 ∷ 92 ∷ []) (ap (λ v. 39 ∷ v) (byte c 92 at (lit< tt))))))
    (λ slash on. by_test ((eqb c 39) || (eqb c 34) || (ltb c 32)) None (Some (state frames nodes (character_end c))) t on (λ _ none. nothing_here t none)
    (λ no is.
    let n = neither (eqb c 39) (eqb c 34) (ltb c 32) no in
    leads_to last (encode_utf8 c) here (state frames nodes (character_end c)) t is (stays last (encode_utf8 c) frames nodes character (character_end c) (λ x. (x, scalar))
    (λ _. grown b (39 ∷ []) (encode_utf8 c) (39 ∷ alone_text c) (ap (λ v. 39 ∷ v) (plain_is c n.1.0 slash n.1.1 ∙ alone_is c n.0))))))

character_letter_text : (c e : ℕ) → character_letter c ≡ Some e → 92 ∷ encode_utf8 c ≡ alone_text e
character_letter_text c e h =
    by_choice (eqb c 39) (Some 39) (letter_escape c) e h (λ at is. ap (λ v. 92 ∷ v) (byte c 39 at (lit< tt)) ∙ ap alone_text (same_Some 39 e is)) (λ _ is. letter_alone c e is)

character_escape_good : (last : List Node) (c : ℕ) (frames : List Frame) (nodes : List Node) (t : State) → step_character_escape c (state frames nodes whole) ≡ Some t
    → Good last (encode_utf8 c) (state frames nodes character_escape) t
character_escape_good last c frames nodes t e =
    let here = state frames nodes character_escape in
    let b = up_to_item (last_form last) frames in
    by_test (eqb c 117) (Some (state frames nodes (character_number First))) (option_map (λ x. state frames nodes (character_end x)) (character_letter c)) t e
    (λ at is. leads_to last (encode_utf8 c) here (state frames nodes (character_number First)) t is (stays last (encode_utf8 c) frames nodes character_escape (character_number First) (λ x. x)
    (λ _. grown b (39 ∷ 92 ∷ []) (encode_utf8 c) (39 ∷ place_text First) (ap (λ v. 39 ∷ 92 ∷ v) (byte c 117 at (lit< tt))))))
    (λ _ on. by_value (λ x. state frames nodes (character_end x)) (character_letter c) t on (λ y is leads.
    subst (λ x. Good last (encode_utf8 c) here x) leads (stays last (encode_utf8 c) frames nodes character_escape (character_end y) (λ x. (x, scalar_of y (character_letter_low c y is)))
    (λ _. grown b (39 ∷ 92 ∷ []) (encode_utf8 c) (39 ∷ alone_text y) (ap (λ v. 39 ∷ v) (character_letter_text c y is))))))

digit_leads : (last : List Node) (c : ℕ) (place : Digits) (frames : List Frame) (nodes : List Node) (digit : Digit) → number_digit place c ≡ Some digit
    → Good last (encode_utf8 c) (state frames nodes (character_number place)) (state frames nodes (character_digit digit))
digit_leads last c place frames nodes (More next) at =
    stays last (encode_utf8 c) frames nodes (character_number place) (character_number next) (λ x. x)
    (λ _. grown (up_to_item (last_form last) frames) (39 ∷ place_text place) (encode_utf8 c) (39 ∷ place_text next) (ap (λ v. 39 ∷ v) (place_more place next c at)))
digit_leads last c place frames nodes (Made e) at =
    let made = place_made place c e at in
    stays last (encode_utf8 c) frames nodes (character_number place) (character_end e) (λ x. (x, made_scalar place c e at))
    (λ _. grown (up_to_item (last_form last) frames) (39 ∷ place_text place) (encode_utf8 c) (39 ∷ alone_text e) (ap (λ v. 39 ∷ v) (made.0 ∙ alone_is e (far e 39 (let l = made.1 in omega arith)))))

character_number_good : (last : List Node) (c : ℕ) (place : Digits) (frames : List Frame) (nodes : List Node) (t : State)
    → option_map (λ digit. state frames nodes (character_digit digit)) (number_digit place c) ≡ Some t → Good last (encode_utf8 c) (state frames nodes (character_number place)) t
character_number_good last c place frames nodes t e =
    by_value (λ digit. state frames nodes (character_digit digit)) (number_digit place c) t e (λ digit at leads.
    subst (λ x. Good last (encode_utf8 c) (state frames nodes (character_number place)) x) leads (digit_leads last c place frames nodes digit at))

character_end_good : (last : List Node) (c e : ℕ) (frames : List Frame) (nodes : List Node) (t : State) → step_character_end e c (state frames nodes whole) ≡ Some t
    → Good last (encode_utf8 c) (state frames nodes (character_end e)) t
character_end_good last c e frames nodes t goes =
    by_choice (eqb c 39) (Some (state (add_item (ALit (Char e)) frames) nodes behind)) None t goes
    (λ at is. leads_to last (encode_utf8 c) (state frames nodes (character_end e)) (state (add_item (ALit (Char e)) frames) nodes behind) t is
    (adds last (encode_utf8 c) frames nodes (character_end e) (ALit (Char e)) (λ x. x.0.0) (λ x. literal_added (Char e) x.0.0 x.0.1 x.1) refl
    (λ _. ap (λ v. 39 ∷ (alone_text e ++ v)) (byte c 39 at (lit< tt)))))
    (λ _ none. nothing_here t none)

opening_good : (last : List Node) (c : ℕ) (kind : Kind) (frames : List Frame) (nodes : List Node) (t : State)
    → cond (eqb c 40) (Some (state frames nodes (heading kind []))) None ≡ Some t → Good last (encode_utf8 c) (state frames nodes (opening kind)) t
opening_good last c kind frames nodes t e =
    by_choice (eqb c 40) (Some (state frames nodes (heading kind []))) None t e
    (λ at is. leads_to last (encode_utf8 c) (state frames nodes (opening kind)) (state frames nodes (heading kind [])) t is (stays last (encode_utf8 c) frames nodes (opening kind) (heading kind []) (λ x. x)
    (λ _. grown (up_to_item (last_form last) frames) [] (encode_utf8 c) (40 ∷ []) (byte c 40 at (lit< tt)))))
    (λ _ none. nothing_here t none)

-- each character
good_in : (last : List Node) (mode : Mode) (c : ℕ) (frames : List Frame) (nodes : List Node) (t : State) → IsScalar c → step_in mode c (state frames nodes whole) ≡ Some t
    → Good last (encode_utf8 c) (state frames nodes mode) t
good_in last (opening kind) c frames nodes t scalar e = opening_good last c kind frames nodes t e
good_in last (heading kind w) c frames nodes t scalar e = heading_good last c kind w frames nodes t e
good_in last behind c frames nodes t scalar e = behind_good last c frames nodes t e
good_in last before c frames nodes t scalar e = before_good last c frames nodes t scalar e
good_in last grouping c frames nodes t scalar e = grouping_good last c frames nodes t scalar e
good_in last (exiting w) c frames nodes t scalar e = exiting_good last c w frames nodes t e
good_in last (bare w) c frames nodes t scalar e = bare_good last c w frames nodes t scalar e
good_in last negative c frames nodes t scalar e = negative_good last c frames nodes t e
good_in last (digits minus z) c frames nodes t scalar e = digits_good last c minus z frames nodes t e
good_in last (text verb w) c frames nodes t scalar e = text_good last c verb w frames nodes t scalar e
good_in last (text_escape verb w) c frames nodes t scalar e = escape_good last c verb w frames nodes t e
good_in last (text_number verb w place) c frames nodes t scalar e = number_good last c verb w place frames nodes t e
good_in last character c frames nodes t scalar e = character_good last c frames nodes t scalar e
good_in last character_escape c frames nodes t scalar e = character_escape_good last c frames nodes t e
good_in last (character_number place) c frames nodes t scalar e = character_number_good last c place frames nodes t e
good_in last (character_end x) c frames nodes t scalar e = character_end_good last c x frames nodes t e
good_in last whole c frames nodes t scalar e = nothing_here t e

-- nothing comes behind the form of the root
not_over : (c : ℕ) (s t : State) → step c s ≡ Some t → s.mode ≡ whole → ⊥
not_over c s t e same = let none : step_in whole c (state s.frames s.nodes whole) ≡ Some t = subst (λ m. step_in m c (state s.frames s.nodes whole) ≡ Some t) same e in absurd (cc)

later_step : (c : ℕ) (cs : List ℕ) (s t : State) (o : Option State) → step c s ≡ o → IsScalar c → option_and_then (λ n. steps cs n) o ≡ Some t
    → ((n : State) → steps cs n ≡ Some t → Later t.nodes n) → Later t.nodes s
later_step c cs s t None e scalar none later = nothing_here t none
later_step c cs s t (Some n) e scalar on later = earlier t.nodes (encode_utf8 c) s n (not_over c s n e) (good_in t.nodes s.mode c s.frames s.nodes n scalar e) (later n on)

later_on : (cs : List ℕ) (s t : State) → scalars cs ≡ true → steps cs s ≡ Some t → Later t.nodes s
later_on [] s t all e = subst (λ (x : State). Later x.nodes s) (same_Some s t e) (record { same = λ i some within untouched. refl; ended = λ _. refl })
later_on (c ∷ cs) s t all e = later_step c cs s t (step c s) refl (left (scalar c) (scalars cs) all) e (λ n on. later_on cs n t (right (scalar c) (scalars cs) all) on)

stands_step : (c : ℕ) (cs : List ℕ) (s t : State) (o : Option State) → step c s ≡ o → IsScalar c → scalars cs ≡ true → option_and_then (λ n. steps cs n) o ≡ Some t → StandsAt t.nodes s
    → ((n : State) → steps cs n ≡ Some t → StandsAt t.nodes n → StandsAt t.nodes t) → StandsAt t.nodes t
stands_step c cs s t None e scalar all none is later = nothing_here t none
stands_step c cs s t (Some n) e scalar all on is later = later n on ((good_in t.nodes s.mode c s.frames s.nodes n scalar e).stands is (later_on cs n t all on))

stands_on : (cs : List ℕ) (s t : State) → scalars cs ≡ true → steps cs s ≡ Some t → StandsAt t.nodes s → StandsAt t.nodes t
stands_on [] s t all e is = subst (λ (x : State). StandsAt t.nodes x) (same_Some s t e) is
stands_on (c ∷ cs) s t all e is =
    stands_step c cs s t (step c s) refl (left (scalar c) (scalars cs) all) (right (scalar c) (scalars cs) all) e is (λ n on there. stands_on cs n t (right (scalar c) (scalars cs) all) on there)

-- and the text grows by what is read
says_step : (c : ℕ) (cs : List ℕ) (s t : State) (o : Option State) → step c s ≡ o → IsScalar c → scalars cs ≡ true → option_and_then (λ n. steps cs n) o ≡ Some t → StandsAt t.nodes s
    → ((n : State) → steps cs n ≡ Some t → StandsAt t.nodes n → read_text t.nodes n ++ encode_utf8_all cs ≡ read_text t.nodes t) → read_text t.nodes s ++ encode_utf8_all (c ∷ cs) ≡ read_text t.nodes t
says_step c cs s t None e scalar all none is later = nothing_here t none
says_step c cs s t (Some n) e scalar all on is later =
    let good = good_in t.nodes s.mode c s.frames s.nodes n scalar e in
    let after = later_on cs n t all on in
    sym (append_assoc (read_text t.nodes s) (encode_utf8 c) (encode_utf8_all cs)) ∙ ap (λ w. w ++ encode_utf8_all cs) (good.says is after) ∙ later n on (good.stands is after)

says_on : (cs : List ℕ) (s t : State) → scalars cs ≡ true → steps cs s ≡ Some t → StandsAt t.nodes s → read_text t.nodes s ++ encode_utf8_all cs ≡ read_text t.nodes t
says_on [] s t all e is = append-nil (read_text t.nodes s) ∙ ap (λ (x : State). read_text t.nodes x) (same_Some s t e)
says_on (c ∷ cs) s t all e is =
    says_step c cs s t (step c s) refl (left (scalar c) (scalars cs) all) (right (scalar c) (scalars cs) all) e is (λ n on there. says_on cs n t (right (scalar c) (scalars cs) all) on there)

-- the last state of what is read
record Ends (cs : List ℕ) (s : State) (nodes : List Node) : Type 0 where
  pub at_last : State
  pub reads : steps cs s ≡ Some at_last
  pub over : at_last.mode ≡ whole
  pub are : at_last.nodes ≡ nodes

finish : (mode : Mode) (place : ℕ) (made nodes : List Node) → finished mode place made ≡ Ok nodes → (mode ≡ whole) × (made ≡ nodes)
finish whole place made nodes e = (refl, cc)
finish _ place made nodes e = absurd (cc)

ends_step : (c : ℕ) (cs : List ℕ) (place : ℕ) (s : State) (nodes : List Node) (o : Option State) → step c s ≡ o
    → elim o as (λ _. Result (List Node) ℕ) [ None ↦ Err place | Some next ↦ read_on cs (place + length (encode_utf8 c)) next ] ≡ Ok nodes
    → ((k : ℕ) (n : State) → read_on cs k n ≡ Ok nodes → Ends cs n nodes) → Ends (c ∷ cs) s nodes
ends_step c cs place s nodes None e none later = absurd (cc)
ends_step c cs place s nodes (Some n) e on later =
    let r = later (place + length (encode_utf8 c)) n on in record { at_last = r.at_last; reads = reads_one c cs s n e ∙ r.reads; over = r.over; are = r.are }

ends : (cs : List ℕ) (place : ℕ) (s : State) (nodes : List Node) → read_on cs place s ≡ Ok nodes → Ends cs s nodes
ends [] place s nodes e = let f = finish s.mode place s.nodes nodes e in record { at_last = s; reads = refl; over = f.0; are = f.1 }
ends (c ∷ cs) place s nodes e = ends_step c cs place s nodes (step c s) refl e (λ k n on. ends cs k n nodes on)

pub read_is_tree : WhatIsReadIsATree
read_is_tree spelled nodes utf8 e =
    let r = ends (chars spelled) 0 started nodes e in
    let t = r.at_last in
    let tree : Tree t.nodes Expression 0 (length t.nodes) =
    subst (λ m. Stands t.nodes t.frames (length t.nodes) m) r.over (stands_on (chars spelled) started t (scalars-chars spelled utf8) r.reads at_root) in
    subst IsTree r.are tree

pub read_is_printed : WhatIsReadPrintsTheSame
read_is_printed spelled nodes utf8 e =
    let r = ends (chars spelled) 0 started nodes e in
    let t = r.at_last in
    ap (λ ns. form_within (length ns) ns 0) (sym r.are)
    ∙ sym (ap (λ m. text_at (last_form t.nodes) t.frames m) r.over)
    ∙ sym (says_on (chars spelled) started t (scalars-chars spelled utf8) r.reads at_root)
    ∙ encodes-chars spelled utf8
