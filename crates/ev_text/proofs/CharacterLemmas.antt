-- The first characters of a text.
use Rattle.std.proofs.Common.{◌≡◌, ℕ, zero, suc, ◌-◌, ◌<◌, List, [], ◌∷◌, ◌++◌, length, take, refl, sym, ◌∙◌, ap, arith, append_assoc}
use Rattle.std.specs.Char.{encode_utf8}
use Rattle.std.specs.Str.{chars, IsUtf8, encode_utf8_all}
use Rattle.std.proofs.lemmas.List.{append-nil}
use Rattle.std.proofs.lemmas.Str.{chars_past_char, chars-nil, IsUtf8-past_char}

-- the front that has been read, and so many more characters of the rest, are the first characters
pub record Reads (front rest : List ℕ) (left : ℕ) (whole : List ℕ) : Type 0 where
  pub utf8 : IsUtf8 rest
  pub made : front ++ encode_utf8_all (take left (chars rest)) ≡ whole

taken : (left c : ℕ) (cs : List ℕ) → 0 < left → encode_utf8_all (take left (c ∷ cs)) ≡ encode_utf8 c ++ encode_utf8_all (take (left - 1) cs)
taken zero c cs h = absurd (omega arith)
taken (suc left) c cs h = let e : suc left - 1 ≡ left = omega arith in rw e refl

pub reads_more : (c left : ℕ) (text rest front new whole : List ℕ) → 0 < left → text ≡ encode_utf8 c ++ rest → new ≡ front ++ encode_utf8 c → Reads front text left whole → Reads new rest (left - 1) whole
reads_more c left text rest front new whole some here wrote so_far = record {
  utf8 = IsUtf8-past_char text rest c so_far.utf8 here;
  made =
      ap (λ xs. xs ++ encode_utf8_all (take (left - 1) (chars rest))) wrote
      ∙ append_assoc front (encode_utf8 c) (encode_utf8_all (take (left - 1) (chars rest)))
      ∙ ap (λ xs. front ++ xs) (sym (ap (λ cs. encode_utf8_all (take left cs)) (chars_past_char text rest c so_far.utf8 here) ∙ taken left c (chars rest) some))
      ∙ so_far.made;
}

none_left : (left : ℕ) (cs : List ℕ) → left ≡ 0 → take left cs ≡ []
none_left zero cs e = refl
none_left (suc left) cs e = absurd (omega arith)

pub read_all : (left : ℕ) (front rest whole : List ℕ) → left ≡ 0 → Reads front rest left whole → front ≡ whole
read_all left front rest whole e so_far = sym (append-nil front) ∙ ap (λ cs. front ++ encode_utf8_all cs) (sym (none_left left (chars rest) e)) ∙ so_far.made

no_more : (rest : List ℕ) (left : ℕ) → length rest ≡ 0 → take left (chars rest) ≡ []
no_more [] zero e = refl
no_more [] (suc left) e = ap (take (suc left)) chars-nil
no_more (b ∷ rest) left e = absurd (omega arith)

pub read_to_end : (left : ℕ) (front rest whole : List ℕ) → length rest ≡ 0 → Reads front rest left whole → front ≡ whole
read_to_end left front rest whole e so_far = sym (append-nil front) ∙ ap (λ cs. front ++ encode_utf8_all cs) (sym (no_more rest left e)) ∙ so_far.made
