-- What loops over the characters of a text have made so far.
use Rattle.std.proofs.Common.{◌≡◌, ℕ, zero, suc, ◌-◌, ◌<◌, List, [], ◌∷◌, ◌++◌, length, Option, Some, None, refl, sym, ◌∙◌, ap, arith, append_assoc}
use Rattle.std.specs.Prelude.{map, slice_get}
use Rattle.std.specs.Char.{encode_utf8}
use Rattle.std.specs.Str.{chars, IsUtf8}
use Rattle.std.proofs.lemmas.List.{append-nil}
use Rattle.std.proofs.lemmas.Str.{chars_past_char, chars-nil, IsUtf8-past_char}
use Rattle.ev_base.specs.declared.values.Value.{Value as Held}
use Rattle.ev_base.specs.declared.values.Value.TheVariants.{Char}
use Rattle.def_machine.specs.Native.{part_of, encoded}

no_chars : (rest : List ℕ) → length rest ≡ 0 → chars rest ≡ []
no_chars [] e = chars-nil
no_chars (b ∷ rest) e = absurd (omega arith)

-- ---- the character at a place

-- what is sought stands so many characters into the rest
pub record Seeks (rest : List ℕ) (left : ℕ) (whole : Option ℕ) : Type 0 where
  pub utf8 : IsUtf8 rest
  pub found : slice_get (chars rest) left ≡ whole

behind : (left c : ℕ) (cs : List ℕ) → 0 < left → slice_get (c ∷ cs) left ≡ slice_get cs (left - 1)
behind zero c cs h = absurd (omega arith)
behind (suc left) c cs h = let e : suc left - 1 ≡ left = omega arith in ap (slice_get cs) (sym e)

pub seeks_more : (c left : ℕ) (text rest : List ℕ) (whole : Option ℕ) → 0 < left → text ≡ encode_utf8 c ++ rest → Seeks text left whole → Seeks rest (left - 1) whole
seeks_more c left text rest whole some here so_far = record {
  utf8 = IsUtf8-past_char text rest c so_far.utf8 here;
  found = sym (ap (λ cs. slice_get cs left) (chars_past_char text rest c so_far.utf8 here) ∙ behind left c (chars rest) some) ∙ so_far.found;
}

first : (left c : ℕ) (cs : List ℕ) → left ≡ 0 → slice_get (c ∷ cs) left ≡ Some c
first zero c cs e = refl
first (suc left) c cs e = absurd (omega arith)

pub seeks_here : (c left : ℕ) (text rest : List ℕ) (whole : Option ℕ) → left ≡ 0 → text ≡ encode_utf8 c ++ rest → Seeks text left whole → Some c ≡ whole
seeks_here c left text rest whole e here so_far =
    sym (ap (λ cs. slice_get cs left) (chars_past_char text rest c so_far.utf8 here) ∙ first left c (chars rest) e) ∙ so_far.found

pub seeks_past : (left : ℕ) (rest : List ℕ) (whole : Option ℕ) → length rest ≡ 0 → Seeks rest left whole → None ≡ whole
seeks_past left rest whole e so_far = sym (ap (λ cs. slice_get cs left) (no_chars rest e)) ∙ so_far.found

-- ---- all characters

-- what is made, and the characters of the rest, are all
pub record Gathers (made : List Held) (rest : List ℕ) (whole : List Held) : Type 0 where
  pub utf8 : IsUtf8 rest
  pub gathered : made ++ map Char (chars rest) ≡ whole

pub gathers_more : (c : ℕ) (text rest : List ℕ) (made new whole : List Held) → text ≡ encode_utf8 c ++ rest → new ≡ made ++ Char c ∷ [] → Gathers made text whole → Gathers new rest whole
gathers_more c text rest made new whole here wrote so_far = record {
  utf8 = IsUtf8-past_char text rest c so_far.utf8 here;
  gathered =
      ap (λ xs. xs ++ map Char (chars rest)) wrote ∙ append_assoc made (Char c ∷ []) (map Char (chars rest))
      ∙ ap (λ cs. made ++ map Char cs) (sym (chars_past_char text rest c so_far.utf8 here)) ∙ so_far.gathered;
}

pub gathers_all : (rest : List ℕ) (made whole : List Held) → length rest ≡ 0 → Gathers made rest whole → made ≡ whole
gathers_all rest made whole e so_far = sym (append-nil made) ∙ ap (λ cs. made ++ map Char cs) (sym (no_chars rest e)) ∙ so_far.gathered

-- ---- a part

-- what is written, and so many characters of the rest behind so many others, are the part
pub record Parts (out rest : List ℕ) (before left : ℕ) (whole : List ℕ) : Type 0 where
  pub utf8 : IsUtf8 rest
  pub made : out ++ encoded (part_of before left (chars rest)) ≡ whole

passed : (before left c : ℕ) (cs : List ℕ) → 0 < before → part_of before left (c ∷ cs) ≡ part_of (before - 1) left cs
unfolding part_of
passed zero left c cs h = absurd (omega arith)
passed (suc before) left c cs h = let e : suc before - 1 ≡ before = omega arith in ap (λ n. part_of n left cs) (sym e)

pub passes : (c before left : ℕ) (text rest out whole : List ℕ) → 0 < before → text ≡ encode_utf8 c ++ rest → Parts out text before left whole → Parts out rest (before - 1) left whole
passes c before left text rest out whole some here so_far = record {
  utf8 = IsUtf8-past_char text rest c so_far.utf8 here;
  made =
      ap (λ cs. out ++ encoded cs) (sym (ap (part_of before left) (chars_past_char text rest c so_far.utf8 here) ∙ passed before left c (chars rest) some))
      ∙ so_far.made;
}

taken : (before left c : ℕ) (cs : List ℕ) → before ≡ 0 → 0 < left → encoded (part_of before left (c ∷ cs)) ≡ encode_utf8 c ++ encoded (part_of before (left - 1) cs)
unfolding part_of encoded
taken zero zero c cs z h = absurd (omega arith)
taken zero (suc left) c cs z h = let e : suc left - 1 ≡ left = omega arith in ap (λ n. encode_utf8 c ++ encoded (part_of zero n cs)) (sym e)
taken (suc before) left c cs z h = absurd (omega arith)

pub takes : (c before left : ℕ) (text rest out new whole : List ℕ) → before ≡ 0 → 0 < left → text ≡ encode_utf8 c ++ rest → new ≡ out ++ encode_utf8 c → Parts out text before left whole → Parts new rest before (left - 1) whole
takes c before left text rest out new whole none some here wrote so_far = record {
  utf8 = IsUtf8-past_char text rest c so_far.utf8 here;
  made =
      ap (λ xs. xs ++ encoded (part_of before (left - 1) (chars rest))) wrote
      ∙ append_assoc out (encode_utf8 c) (encoded (part_of before (left - 1) (chars rest)))
      ∙ ap (λ xs. out ++ xs)
      (sym (ap (λ cs. encoded (part_of before left cs)) (chars_past_char text rest c so_far.utf8 here) ∙ taken before left c (chars rest) none some))
      ∙ so_far.made;
}

nothing_of : (before left : ℕ) → encoded (part_of before left []) ≡ []
unfolding part_of encoded
nothing_of zero zero = refl
nothing_of zero (suc left) = refl
nothing_of (suc before) zero = refl
nothing_of (suc before) (suc left) = refl

none_of : (before left : ℕ) (cs : List ℕ) → before ≡ 0 → left ≡ 0 → encoded (part_of before left cs) ≡ []
unfolding part_of encoded
none_of zero zero [] e f = refl
none_of zero zero (c ∷ cs) e f = refl
none_of zero (suc left) cs e f = absurd (omega arith)
none_of (suc before) left cs e f = absurd (omega arith)

pub is_full : (before left : ℕ) (rest out whole : List ℕ) → before ≡ 0 → left ≡ 0 → Parts out rest before left whole → out ≡ whole
is_full before left rest out whole e f so_far = sym (append-nil out) ∙ ap (λ xs. out ++ xs) (sym (none_of before left (chars rest) e f)) ∙ so_far.made

pub is_over : (before left : ℕ) (rest out whole : List ℕ) → length rest ≡ 0 → Parts out rest before left whole → out ≡ whole
is_over before left rest out whole e so_far =
    sym (append-nil out) ∙ ap (λ xs. out ++ xs) (sym (ap (λ cs. encoded (part_of before left cs)) (no_chars rest e) ∙ nothing_of before left)) ∙ so_far.made
