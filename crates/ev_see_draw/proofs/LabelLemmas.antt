-- What a loop over the characters of a text has written so far of a label.
use Rattle.std.proofs.Common.{◌≡◌, ℕ, zero, suc, List, [], ◌∷◌, ◌++◌, length, refl, sym, ◌∙◌, ap, arith, append_assoc}
use Rattle.std.specs.List.{flat_map}
use Rattle.std.specs.Char.{encode_utf8}
use Rattle.std.specs.Str.{chars, IsUtf8}
use Rattle.std.proofs.lemmas.List.{append-nil}
use Rattle.std.proofs.lemmas.Str.{chars_past_char, chars-nil, IsUtf8-past_char}
use Rattle.def_draw.specs.Diagram.{escaped_character}

-- what is written, and what the rest will add, is what the text adds
pub record Labels (out rest whole : List ℕ) : Type 0 where
  pub utf8 : IsUtf8 rest
  pub written : out ++ flat_map escaped_character (chars rest) ≡ whole

pub labels_more : (c : ℕ) (text rest out new whole : List ℕ) → text ≡ encode_utf8 c ++ rest → new ≡ out ++ escaped_character c → Labels out text whole → Labels new rest whole
labels_more c text rest out new whole here wrote so_far = record {
  utf8 = IsUtf8-past_char text rest c so_far.utf8 here;
  written =
      ap (λ xs. xs ++ flat_map escaped_character (chars rest)) wrote ∙ append_assoc out (escaped_character c) (flat_map escaped_character (chars rest))
      ∙ ap (λ cs. out ++ flat_map escaped_character cs) (sym (chars_past_char text rest c so_far.utf8 here)) ∙ so_far.written;
}

no_chars : (rest : List ℕ) → length rest ≡ 0 → chars rest ≡ []
no_chars [] e = chars-nil
no_chars (b ∷ rest) e = absurd (omega arith)

pub labels_all : (rest out whole : List ℕ) → length rest ≡ 0 → Labels out rest whole → out ≡ whole
labels_all rest out whole e so_far = sym (append-nil out) ∙ ap (λ cs. out ++ flat_map escaped_character cs) (sym (no_chars rest e)) ∙ so_far.written
