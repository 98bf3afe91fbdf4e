-- Characters between quotes are read as what they stand for.
use Rattle.std.proofs.Common.{◌≡◌, ℕ, ◌+◌, ◌-◌, ◌/◌, ◌%◌, ◌<◌, ◌≤◌, ◌||◌, cond, eqb, ltb, Bool, true, false, List, [], ◌∷◌, ◌++◌, length, Option, Some, None, option_and_then, option_map, refl, sym, ◌∙◌, ap, subst, arith, append_assoc, lit<}
use Rattle.std.specs.Char.{encode_utf8, digit_char, IsScalar}
use Rattle.std.specs.Str.{chars, IsUtf8, encode_utf8_all}
use Rattle.std.specs.List.{flat_map}
use Rattle.std.proofs.lemmas.Bool.{ltb-true, le-ltb, eqb-true, ltb-false}
use Rattle.std.proofs.lemmas.Bool.Decides.{nat_tests}
use Rattle.std.proofs.lemmas.List.{append-nil}
use Rattle.std.proofs.lemmas.Str.{encodes-chars}
use Rattle.def_text.specs.Quoting.{by_number, escaped, quoted, quoted_character}
use Rattle.def_kernel.specs.declared.node.Node.{Node}
use Rattle.def_kernel.specs.declared.node.Literal.TheVariants.{Char}
use Rattle.def_kernel.specs.declared.reader.Item.{Item}
use Rattle.def_kernel.specs.declared.reader.Item.TheVariants.{Literal as ALit}
use Rattle.def_kernel.specs.declared.reader.Frame.{Frame}
use Rattle.def_kernel.specs.declared.reader.Digit.{Digit}
use Rattle.def_kernel.specs.declared.reader.Digit.TheVariants.{More, Made}
use Rattle.def_kernel.specs.declared.reader.Place.{Place}
use Rattle.def_kernel.specs.declared.reader.Place.TheVariants.{Third, Low, High}
use Rattle.def_kernel.specs.declared.reader.Mode.TheVariants.{Before as before, Behind as behind, Text as text, TextNumber as text_number, Character as character, CharacterEscape as character_escape, CharacterNumber as character_number, CharacterEnd as character_end, TextEscape as text_escape}
use Rattle.def_kernel.specs.declared.reader.State.{State}
use Rattle.def_kernel.specs.declared.shape.Head.{Head}
use Rattle.def_kernel.specs.declared.shape.Want.{Want}
use Rattle.def_kernel.specs.Reading.{step, add_item, wanted, hexadecimal, low_control, number_digit, text_digit, character_digit, text_item, may_end_text}
use Rattle.law_kernel_form.proofs.Steps.{steps, reads_one, Goes, item, state, framed, at, space_wanted}
use Rattle.law_kernel_form.proofs.Spelled.{either, spelled, spelled_alone, spells_quoted, spells_quoted_character, spells_utf8, spells_chars}

-- the two digits of a control character that has no letter
record Numbered (b : ℕ) : Type 0 where
  pub place : Place
  pub first : number_digit Third (digit_char (b / 16)) ≡ Some (More place)
  pub second : number_digit place (digit_char (b % 16)) ≡ Some (Made b)

hexadecimal_digit : (d : ℕ) → d < 16 → hexadecimal (digit_char d) ≡ Some d
hexadecimal_digit d h = grind (arith, nat_tests)

made_low : (x y z : Bool) (d : Digit) → x ≡ false → y ≡ false → z ≡ false → cond (x || y || z) None (Some d) ≡ Some d
made_low false false false d p q r = refl
made_low false false true d p q r = absurd (cc)
made_low false true z d p q r = absurd (cc)
made_low true y z d p q r = absurd (cc)

pub no_tens : (b : ℕ) → b < 16 → b / 16 ≡ 0
no_tens b h = omega arith

pub units : (b : ℕ) → b < 16 → b % 16 ≡ b
units b h = omega arith

pub one_ten : (b : ℕ) → 16 ≤ b → b < 32 → b / 16 ≡ 1
one_ten b l h = omega arith

pub high_units : (b : ℕ) → 16 ≤ b → b < 32 → b % 16 ≡ b - 16
high_units b l h = omega arith

numbered_low : (b : ℕ) → b < 16 → eqb b 9 ≡ false → eqb b 10 ≡ false → eqb b 13 ≡ false → Numbered b
numbered_low b h n9 n10 n13 = record {
  place = Low;
  first = ap (λ d. number_digit Third (digit_char d)) (no_tens b h);
  second = ap (λ d. number_digit Low (digit_char d)) (units b h) ∙ ap (option_and_then low_control) (hexadecimal_digit b h)
      ∙ made_low (eqb b 9) (eqb b 10) (eqb b 13) (Made b) n9 n10 n13;
}

numbered_high : (b : ℕ) → 16 ≤ b → b < 32 → Numbered b
numbered_high b l h = record {
  place = High;
  first = ap (λ d. number_digit Third (digit_char d)) (one_ten b l h);
  second = ap (λ d. number_digit High (digit_char d)) (high_units b l h) ∙ ap (option_map (λ d. Made (16 + d))) (hexadecimal_digit (b - 16) (omega arith))
      ∙ ap (λ d. Some (Made d)) (omega arith);
}

numbered_by : (b : ℕ) (t : Bool) → ltb b 16 ≡ t → b < 32 → eqb b 9 ≡ false → eqb b 10 ≡ false → eqb b 13 ≡ false → Numbered b
numbered_by b true e h n9 n10 n13 = numbered_low b (ltb-true b 16 e) n9 n10 n13
numbered_by b false e h n9 n10 n13 = numbered_high b (ltb-false b 16 e) h

-- characters that stand for one in a text
abbrev InText : ℕ → List ℕ → Type 0
InText c piece = (verb : Bool) (w rest : List ℕ) (frames : List Frame) (nodes : List Node)
    → steps (piece ++ rest) (state frames nodes (text verb w)) ≡ steps rest (state frames nodes (text verb (w ++ encode_utf8 c)))

-- and between `'`
abbrev Alone : ℕ → List ℕ → Type 0
Alone c piece = (rest : List ℕ) (frames : List Frame) (nodes : List Node)
    → steps (piece ++ rest) (state frames nodes character) ≡ steps rest (state frames nodes (character_end c))

number_in_text : (b : ℕ) → Numbered b → InText b (by_number b)
number_in_text b n verb w rest frames nodes =
    let u = digit_char (b / 16) in let v = digit_char (b % 16) in
    reads_one u (v ∷ rest) (state frames nodes (text_number verb w Third)) (state frames nodes (text_number verb w n.place))
    (ap (option_map (λ digit. state frames nodes (text_digit verb w digit))) n.first)
    ∙ reads_one v rest (state frames nodes (text_number verb w n.place)) (state frames nodes (text verb (w ++ encode_utf8 b)))
    (ap (option_map (λ digit. state frames nodes (text_digit verb w digit))) n.second)

number_alone : (b : ℕ) → Numbered b → Alone b (by_number b)
number_alone b n rest frames nodes =
    let u = digit_char (b / 16) in let v = digit_char (b % 16) in
    reads_one u (v ∷ rest) (state frames nodes (character_number Third)) (state frames nodes (character_number n.place))
    (ap (option_map (λ digit. state frames nodes (character_digit digit))) n.first)
    ∙ reads_one v rest (state frames nodes (character_number n.place)) (state frames nodes (character_end b))
    (ap (option_map (λ digit. state frames nodes (character_digit digit))) n.second)

plain_chosen : (quote slash low : Bool) (a b c : Option State) → quote ≡ false → slash ≡ false → low ≡ false
    → elim quote as (λ _. Option State) [ true ↦ a | false ↦ elim slash as (λ _. Option State) [ true ↦ b | false ↦ elim low as (λ _. Option State) [ true ↦ None | false ↦ c ] ] ] ≡ c
plain_chosen false false false a b c p q r = refl
plain_chosen false false true a b c p q r = absurd (cc)
plain_chosen false true low a b c p q r = absurd (cc)
plain_chosen true slash low a b c p q r = absurd (cc)

plain_in_text : (c : ℕ) → eqb c 34 ≡ false → eqb c 92 ≡ false → ltb c 32 ≡ false → InText c (c ∷ [])
plain_in_text c quote slash low verb w rest frames nodes =
    reads_one c rest (state frames nodes (text verb w)) (state frames nodes (text verb (w ++ encode_utf8 c)))
    (plain_chosen (eqb c 34) (eqb c 92) (ltb c 32)
    (elim (may_end_text verb w) as (λ _. Option State) [ true ↦ Some (state (add_item (text_item verb w) frames) nodes behind) | false ↦ None ])
    (Some (state frames nodes (text_escape verb w))) (Some (state frames nodes (text verb (w ++ encode_utf8 c)))) quote slash low)

alone_chosen : (slash apostrophe quote low : Bool) (a b : Option State) → slash ≡ false → apostrophe ≡ false → quote ≡ false → low ≡ false
    → elim slash as (λ _. Option State) [ true ↦ a | false ↦ elim (apostrophe || quote || low) as (λ _. Option State) [ true ↦ None | false ↦ b ] ] ≡ b
alone_chosen false false false false a b p q r s = refl
alone_chosen false false false true a b p q r s = absurd (cc)
alone_chosen false false true low a b p q r s = absurd (cc)
alone_chosen false true quote low a b p q r s = absurd (cc)
alone_chosen true apostrophe quote low a b p q r s = absurd (cc)

plain_alone : (c : ℕ) → eqb c 39 ≡ false → eqb c 34 ≡ false → eqb c 92 ≡ false → ltb c 32 ≡ false → Alone c (c ∷ [])
plain_alone c apostrophe quote slash low rest frames nodes =
    reads_one c rest (state frames nodes character) (state frames nodes (character_end c))
    (alone_chosen (eqb c 92) (eqb c 39) (eqb c 34) (ltb c 32) (Some (state frames nodes character_escape)) (Some (state frames nodes (character_end c))) slash apostrophe quote low)

same : (P : ℕ → Type 0) (c d : ℕ) → eqb c d ≡ true → P d → P c
same P c d e p = subst P (sym (eqb-true c d e)) p

escaped_in_text : (c : ℕ) → InText c (escaped c)
escaped_in_text c =
    either (InText c) (eqb c 10) _ _ (λ h. same (λ x. InText x (92 ∷ 110 ∷ [])) c 10 h (λ verb w rest frames nodes. refl)) (λ n10.
    either (InText c) (eqb c 9) _ _ (λ h. same (λ x. InText x (92 ∷ 116 ∷ [])) c 9 h (λ verb w rest frames nodes. refl)) (λ n9.
    either (InText c) (eqb c 13) _ _ (λ h. same (λ x. InText x (92 ∷ 114 ∷ [])) c 13 h (λ verb w rest frames nodes. refl)) (λ n13.
    either (InText c) (eqb c 92) _ _ (λ h. same (λ x. InText x (92 ∷ 92 ∷ [])) c 92 h (λ verb w rest frames nodes. refl)) (λ slash.
    either (InText c) (eqb c 34) _ _ (λ h. same (λ x. InText x (92 ∷ 34 ∷ [])) c 34 h (λ verb w rest frames nodes. refl)) (λ quote.
    either (InText c) (ltb c 32) _ _ (λ h. number_in_text c (numbered_by c (ltb c 16) refl (ltb-true c 32 h) n9 n10 n13)) (λ low. plain_in_text c quote slash low))))))

escaped_alone : (c : ℕ) → eqb c 39 ≡ false → Alone c (escaped c)
escaped_alone c apostrophe =
    either (Alone c) (eqb c 10) _ _ (λ h. same (λ x. Alone x (92 ∷ 110 ∷ [])) c 10 h (λ rest frames nodes. refl)) (λ n10.
    either (Alone c) (eqb c 9) _ _ (λ h. same (λ x. Alone x (92 ∷ 116 ∷ [])) c 9 h (λ rest frames nodes. refl)) (λ n9.
    either (Alone c) (eqb c 13) _ _ (λ h. same (λ x. Alone x (92 ∷ 114 ∷ [])) c 13 h (λ rest frames nodes. refl)) (λ n13.
    either (Alone c) (eqb c 92) _ _ (λ h. same (λ x. Alone x (92 ∷ 92 ∷ [])) c 92 h (λ rest frames nodes. refl)) (λ slash.
    either (Alone c) (eqb c 34) _ _ (λ h. same (λ x. Alone x (92 ∷ 34 ∷ [])) c 34 h (λ rest frames nodes. refl)) (λ quote.
    either (Alone c) (ltb c 32) _ _ (λ h. number_alone c (numbered_by c (ltb c 16) refl (ltb-true c 32 h) n9 n10 n13)) (λ low. plain_alone c apostrophe quote slash low))))))

wide : (c d : ℕ) → ltb c 128 ≡ false → d < 128 → eqb c d ≡ false
wide c d e h = let high : 128 ≤ c = ltb-false c 128 e in grind (arith, nat_tests)

not_low : (c : ℕ) → ltb c 128 ≡ false → ltb c 32 ≡ false
not_low c e = let high : 128 ≤ c = ltb-false c 128 e in le-ltb c 32 (omega arith)

spelled_in_text : (c : ℕ) → InText c (spelled c)
spelled_in_text c = either (InText c) (ltb c 128) _ _ (λ _. escaped_in_text c) (λ h. plain_in_text c (wide c 34 h (lit< tt)) (wide c 92 h (lit< tt)) (not_low c h))

spelled_alone_reads : (c : ℕ) → Alone c (spelled_alone c)
spelled_alone_reads c =
    either (Alone c) (eqb c 39) _ _ (λ h. same (λ x. Alone x (92 ∷ 39 ∷ [])) c 39 h (λ rest frames nodes. refl)) (λ apostrophe.
    either (Alone c) (ltb c 128) _ _ (λ _. escaped_alone c apostrophe) (λ h.
    plain_alone c apostrophe (wide c 34 h (lit< tt)) (wide c 92 h (lit< tt)) (not_low c h)))

-- the characters of a text one after another
inside : (cs w rest : List ℕ) (verb : Bool) (frames : List Frame) (nodes : List Node)
    → steps (flat_map spelled cs ++ rest) (state frames nodes (text verb w)) ≡ steps rest (state frames nodes (text verb (w ++ encode_utf8_all cs)))
inside [] w rest verb frames nodes = ap (λ v. steps rest (state frames nodes (text verb v))) (sym (append-nil w))
inside (c ∷ cs) w rest verb frames nodes =
    ap (λ xs. steps xs (state frames nodes (text verb w))) (append_assoc (spelled c) (flat_map spelled cs) rest)
    ∙ spelled_in_text c verb w (flat_map spelled cs ++ rest) frames nodes
    ∙ inside cs (w ++ encode_utf8 c) rest verb frames nodes
    ∙ ap (λ v. steps rest (state frames nodes (text verb v))) (append_assoc w (encode_utf8 c) (encode_utf8_all cs))

ends_text : (verb : Bool) (w : List ℕ) (frames : List Frame) (nodes : List Node) → may_end_text verb w ≡ true
    → step 34 (state frames nodes (text verb w)) ≡ Some (state (add_item (text_item verb w) frames) nodes behind)
ends_text verb w frames nodes e =
    ap (λ b. elim b as (λ _. Option State) [ true ↦ Some (state (add_item (text_item verb w) frames) nodes behind) | false ↦ None ]) e

-- a quoted text behind a space
pub quoted_item : (verb : Bool) (w : List ℕ) (number : ℕ) (head : Head) (items : List Item) (frames : List Frame) (now : List Node) (want : Want) → IsUtf8 w
    → may_end_text verb w ≡ true → wanted head (length items) ≡ Some want
    → step 34 (state (framed number head items frames) now before) ≡ Some (state (framed number head items frames) now (text verb []))
    → Goes (32 ∷ quoted w) (at number head items frames now) (at number head (items ++ text_item verb w ∷ []) frames now)
quoted_item verb w number head items frames now want utf8 may_close wants begins =
    let cs : List ℕ = flat_map spelled (chars w) in
    let spells = spells_quoted w utf8 in
    let here = framed number head items frames in
    item (quoted w) (at number head items frames now) (at number head (items ++ text_item verb w ∷ []) frames now) (spells_utf8 (34 ∷ (cs ++ 34 ∷ [])) (quoted w) spells) (λ rest h.
    ap (λ xs. steps (32 ∷ (xs ++ rest)) (at number head items frames now)) (spells_chars (34 ∷ (cs ++ 34 ∷ [])) (quoted w) spells)
    ∙ reads_one 32 (34 ∷ ((cs ++ 34 ∷ []) ++ rest)) (at number head items frames now) (state here now before) (space_wanted number head items frames now want wants)
    ∙ reads_one 34 ((cs ++ 34 ∷ []) ++ rest) (state here now before) (state here now (text verb [])) begins
    ∙ ap (λ xs. steps xs (state here now (text verb []))) (append_assoc cs (34 ∷ []) rest)
    ∙ inside (chars w) [] (34 ∷ rest) verb here now
    ∙ ap (λ v. steps (34 ∷ rest) (state here now (text verb v))) (encodes-chars w utf8)
    ∙ reads_one 34 rest (state here now (text verb w)) (at number head (items ++ text_item verb w ∷ []) frames now) (ends_text verb w here now may_close))

-- a quoted character behind a space
pub character_item : (c number : ℕ) (head : Head) (items : List Item) (frames : List Frame) (now : List Node) (want : Want) → IsScalar c
    → wanted head (length items) ≡ Some want
    → step 39 (state (framed number head items frames) now before) ≡ Some (state (framed number head items frames) now character)
    → Goes (32 ∷ quoted_character c) (at number head items frames now) (at number head (items ++ ALit (Char c) ∷ []) frames now)
character_item c number head items frames now want scalar wants begins =
    let cs : List ℕ = spelled_alone c in
    let spells = spells_quoted_character c scalar in
    let here = framed number head items frames in
    item (quoted_character c) (at number head items frames now) (at number head (items ++ ALit (Char c) ∷ []) frames now)
    (spells_utf8 (39 ∷ (cs ++ 39 ∷ [])) (quoted_character c) spells) (λ rest h.
    ap (λ xs. steps (32 ∷ (xs ++ rest)) (at number head items frames now)) (spells_chars (39 ∷ (cs ++ 39 ∷ [])) (quoted_character c) spells)
    ∙ reads_one 32 (39 ∷ ((cs ++ 39 ∷ []) ++ rest)) (at number head items frames now) (state here now before) (space_wanted number head items frames now want wants)
    ∙ reads_one 39 ((cs ++ 39 ∷ []) ++ rest) (state here now before) (state here now character) begins
    ∙ ap (λ xs. steps xs (state here now character)) (append_assoc cs (39 ∷ []) rest)
    ∙ spelled_alone_reads c (39 ∷ rest) here now)
