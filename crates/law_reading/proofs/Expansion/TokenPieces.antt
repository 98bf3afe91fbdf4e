-- The text of the piece at the front of a text is what its kind says.
use Rattle.std.proofs.Common.{◌≡◌, ℕ, ◌+◌, Bool, true, false, not, ◌&&◌, cond, eqb, List, [], ◌∷◌, length, take, Option, Some, None, option_map, is_some, refl, sym, ◌∙◌, ap, subst}
use Rattle.std.specs.List.{prefix_len}
use Rattle.std.specs.Char.{is_ascii_digit}
use Rattle.std.specs.Str.{IsUtf8, chars}
use Rattle.std.proofs.lemmas.Str.{scalars-chars}
use Rattle.std.proofs.Math.Utf8.{scalars}
use Rattle.def_text.specs.Keywords.{begins_identifier}
use Rattle.def_syntax.specs.declared.token.TokenKind.{TokenKind}
use Rattle.def_syntax.specs.declared.token.TokenKind.TheVariants as kinds
use Rattle.ev_integer.specs.Numerals.{number_of}
use Rattle.ev_lexer.specs.declared.pieces.Piece.{Piece}
use Rattle.ev_lexer.specs.declared.pieces.Piece.TheVariants.{Whole, Fault}
use Rattle.ev_lexer.specs.declared.pieces.Start.{Start}
use Rattle.ev_lexer.specs.declared.pieces.Start.TheVariants.{LineFeed, CarriageReturn, Backslash, Slash, Quote, Apostrophe, Digit, Other}
use Rattle.ev_lexer.specs.Words.{kind_among, operators, operator_of, or_else, longest_operator, word_kind}
use Rattle.ev_lexer.specs.Pieces.{line_end, blank_before, blank_with, commented, comment_end, literal, text_of, character_of, bad_escape, is_one, closing, number, operator, slashed, front_word, word, word_or_operator, start, piece_of, piece}
use Rattle.ev_lexer.proofs.Operators.{both}
use Rattle.law_reading.proofs.Expansion.TokenWords.{Named, is_word, other_kind, AllEntries, found, word_named, begins_with}

-- what the piece at the front of this text says of its own text
abbrev pub Names : Piece → List ℕ → Type 0
Names (Whole kind n) text = Named kind (take n text)
Names other text = Unit {0}

chosen : (t : Bool) (x y : Piece) (text : List ℕ) → (t ≡ true → Names x text) → Names y text → Names (cond t x y) text
chosen true x y text h k = h refl
chosen false x y text h k = k

-- ---- operators

abbrev IsOther : List ℕ → TokenKind → Type 0
IsOther w k = is_word k ≡ false

abbrev all_other : List (List ℕ × TokenKind) → Bool
all_other [] = true
all_other (e ∷ es) = not (is_word e.1) && all_other es

not_true : (b : Bool) → not b ≡ true → b ≡ false
not_true true e = absurd (cc)
not_true false e = refl

are_other : (es : List (List ℕ × TokenKind)) → all_other es ≡ true → AllEntries IsOther es
are_other [] e = tt
are_other (x ∷ xs) e = let b = both (not (is_word x.1)) (all_other xs) e in (not_true (is_word x.1) b.0, are_other xs b.1)

abbrev OtherIf : Option (TokenKind × ℕ) → Type 0
OtherIf None = Unit {0}
OtherIf (Some f) = is_word f.0 ≡ false

other_if : (w : List ℕ) (n : ℕ) (o : Option TokenKind) → kind_among operators w ≡ o → OtherIf (option_map (λ (k : TokenKind). (k, n)) o)
other_if w n None e = tt
other_if w n (Some k) e = found IsOther operators w k (are_other operators refl) e

or_other : (a b : Option (TokenKind × ℕ)) → OtherIf a → OtherIf b → OtherIf (or_else a b)
or_other None b h k = k
or_other (Some f) b h k = h

operator_names : (o : Option (TokenKind × ℕ)) (text : List ℕ) → OtherIf o → Names (operator o) text
operator_names None text h = tt
operator_names (Some f) text h = other_kind f.0 (take f.1 text) h

of_most : (most : ℕ) (text : List ℕ) → OtherIf (operator_of most text)
of_most most text = other_if (take most text) (length (take most text)) (kind_among operators (take most text)) refl

longest_names : (text : List ℕ) → Names (operator (longest_operator text)) text
longest_names text = operator_names (longest_operator text) text
    (or_other (operator_of 3 text) (or_else (operator_of 2 text) (operator_of 1 text)) (of_most 3 text) (or_other (operator_of 2 text) (operator_of 1 text) (of_most 2 text) (of_most 1 text)))

commented_names : (o : Option ℕ) (text : List ℕ) → Names (commented o) text
commented_names None text = tt
commented_names (Some n) text = tt

slashed_names : (text more : List ℕ) → Names (slashed text more) text
slashed_names text (a ∷ b ∷ inside) =
    chosen (eqb a 42 && eqb b 42) (commented (comment_end inside)) (operator (longest_operator text)) text (λ _. commented_names (comment_end inside) text) (longest_names text)
slashed_names text other = longest_names text

-- ---- literals and white space

literal_names : (k : TokenKind) (r : Bool) (o : Option ℕ) (n : ℕ) (text : List ℕ) → is_word k ≡ false → Names (literal k r o n) text
literal_names k r (Some p) n text e = tt
literal_names k true None n text e = other_kind k (take (2 + n) text) e
literal_names k false None n text e = tt

text_names : (more : List ℕ) (o : Option ℕ) (text : List ℕ) → Names (text_of more o) text
text_names more None text = tt
text_names more (Some n) text = literal_names kinds.Text true (bad_escape 0 (take n more)) n text refl

character_names : (more : List ℕ) (o : Option ℕ) (text : List ℕ) → Names (character_of more o) text
character_names more None text = tt
character_names more (Some n) text = literal_names kinds.Character (is_one (take n more)) (bad_escape 0 (take n more)) n text refl

before_names : (o : Option ℕ) (text : List ℕ) → Names (blank_before o) text
before_names None text = tt
before_names (Some n) text = tt

with_names : (o : Option ℕ) (text : List ℕ) → Names (blank_with o) text
with_names None text = tt
with_names (Some n) text = tt

number_names : (digits text : List ℕ) → Names (number digits) text
number_names digits text = chosen (is_some (number_of digits)) (Whole kinds.Number (length digits)) (Fault _ 0) text (λ _. other_kind kinds.Number (take (length digits) text) refl) tt

-- ---- words

word_names : (text cs : List ℕ) → IsUtf8 text → chars text ≡ cs → Names (word_or_operator text cs) text
word_names text [] u e = longest_names text
word_names text (c ∷ cs) u e =
    chosen (begins_identifier c) (word (front_word c cs)) (operator (longest_operator text)) text
    (λ b. subst (Named (word_kind (front_word c cs))) (sym (begins_with text c cs u e)) (word_named c cs (ap scalars (sym e) ∙ scalars-chars text u) b)) (longest_names text)

-- ---- all of them

of_names : (s : Start) (text more : List ℕ) → IsUtf8 text → Names (piece_of s text more) text
of_names LineFeed text more u = other_kind kinds.LineEnd (take 1 text) refl
of_names CarriageReturn text more u = before_names (line_end text) text
of_names Backslash text more u = with_names (line_end more) text
of_names Slash text more u = slashed_names text more
of_names Quote text more u = text_names more (closing 34 more) text
of_names Apostrophe text more u = character_names more (closing 39 more) text
of_names Digit text more u = number_names (take (prefix_len is_ascii_digit text) text) text
of_names Other text more u = word_names text (chars text) u refl
of_names other text more u = tt

piece_names : (text : List ℕ) → IsUtf8 text → Names (piece text) text
unfolding piece
piece_names [] u = tt
piece_names (b ∷ more) u = of_names (start b) (b ∷ more) more u

pub whole_named : (text : List ℕ) (kind : TokenKind) (n : ℕ) → IsUtf8 text → piece text ≡ Whole kind n → Named kind (take n text)
whole_named text kind n u e = subst (λ (p : Piece). Names p text) e (piece_names text u)
