-- How a text falls into pieces, one by one.
use Rattle.std.proofs.Common.{◌≡◌, ℕ, zero, suc, ◌+◌, ◌-◌, ◌<◌, ◌≤◌, List, [], ◌∷◌, ◌++◌, length, drop, Result, Ok, Err, refl, sym, ◌∙◌, ap, arith, append_assoc}
use Rattle.std.proofs.lemmas.List.{append-nil}
use Rattle.def_syntax.specs.declared.token.Token.{Token}
use Rattle.def_syntax.specs.declared.token.TokenKind.{TokenKind}
use Rattle.ev_lexer.specs.declared.pieces.Piece.TheVariants.{Blank, Whole, Fault}
use Rattle.ev_lexer.specs.Pieces.{piece}
use Rattle.ev_lexer.specs.Lexed.{split, token, with_token}

-- tokens put before those of what stands behind
abbrev pub prepended : List Token → Result (List Token) (ℕ × ℕ) → Result (List Token) (ℕ × ℕ)
prepended front (Ok tokens) = Ok (front ++ tokens)
prepended front (Err place) = Err place

pub prepended_nil : (r : Result (List Token) (ℕ × ℕ)) → prepended [] r ≡ r
prepended_nil (Ok tokens) = refl
prepended_nil (Err place) = refl

one_prepended : (front : List Token) (t : Token) (r : Result (List Token) (ℕ × ℕ)) → prepended (front ++ (t ∷ [])) r ≡ prepended front (with_token t r)
one_prepended front t (Ok tokens) = ap Ok (append_assoc front (t ∷ []) tokens)
one_prepended front t (Err place) = refl

-- bytes that belong to a piece are passed over
passes : (k place : ℕ) (bytes : List ℕ) → k ≤ length bytes → split k place bytes ≡ split zero (place + k) (drop k bytes)
unfolding split
passes zero place bytes h = ap (λ n. split zero n bytes) (omega arith)
passes (suc k) place [] h = absurd (omega arith)
passes (suc k) place (b ∷ more) h = passes k (suc place) more (omega arith) ∙ ap (λ n. split zero n (drop k more)) (omega arith)

passes_piece : (n place b : ℕ) (more : List ℕ) → 0 < n → n ≤ length (b ∷ more) → split (n - 1) (suc place) more ≡ split zero (place + n) (drop n (b ∷ more))
passes_piece zero place b more some within = absurd (omega arith)
passes_piece (suc m) place b more some within =
    let same : suc m - 1 ≡ m = omega arith in
    ap (λ k. split k (suc place) more) same ∙ passes m (suc place) more (omega arith) ∙ ap (λ k. split zero k (drop m more)) (omega arith)

blank : (n place : ℕ) (text : List ℕ) → 0 < length text → 0 < n → n ≤ length text → piece text ≡ Blank n → split zero place text ≡ split zero (place + n) (drop n text)
unfolding split
blank n place [] some h within e = absurd (omega arith)
blank n place (b ∷ more) some h within e = rw (e, split) (passes_piece n place b more h within)

whole : (kind : TokenKind) (n place : ℕ) (text : List ℕ) → 0 < length text → 0 < n → n ≤ length text → piece text ≡ Whole kind n
    → split zero place text ≡ with_token (token kind place (place + n)) (split zero (place + n) (drop n text))
unfolding split
whole kind n place [] some h within e = absurd (omega arith)
whole kind n place (b ∷ more) some h within e = rw (e, split) (ap (with_token (token kind place (place + n))) (passes_piece n place b more h within))

fault : (kind behind place : ℕ) (text : List ℕ) → 0 < length text → piece text ≡ Fault kind behind → split zero place text ≡ Err (kind, place + behind)
unfolding split
fault kind behind place [] some e = absurd (omega arith)
fault kind behind place (b ∷ more) some e = rw (e, split) refl

pub past_blank : (tokens : List Token) (n place : ℕ) (text : List ℕ) (due : Result (List Token) (ℕ × ℕ)) → 0 < length text → 0 < n → n ≤ length text → piece text ≡ Blank n
    → prepended tokens (split zero place text) ≡ due → prepended tokens (split zero (place + n) (drop n text)) ≡ due
past_blank tokens n place text due some h within e so_far = ap (prepended tokens) (sym (blank n place text some h within e)) ∙ so_far

pub past_token : (tokens more : List Token) (kind : TokenKind) (n place : ℕ) (text : List ℕ) (due : Result (List Token) (ℕ × ℕ)) → 0 < length text → 0 < n → n ≤ length text
    → piece text ≡ Whole kind n → more ≡ tokens ++ (token kind place (place + n) ∷ [])
    → prepended tokens (split zero place text) ≡ due → prepended more (split zero (place + n) (drop n text)) ≡ due
past_token tokens more kind n place text due some h within e pushed so_far =
    ap (λ xs. prepended xs (split zero (place + n) (drop n text))) pushed ∙ one_prepended tokens (token kind place (place + n)) (split zero (place + n) (drop n text))
    ∙ ap (prepended tokens) (sym (whole kind n place text some h within e)) ∙ so_far

pub at_fault : (tokens : List Token) (kind behind place : ℕ) (text : List ℕ) (due : Result (List Token) (ℕ × ℕ)) → 0 < length text → piece text ≡ Fault kind behind
    → prepended tokens (split zero place text) ≡ due → due ≡ Err (kind, place + behind)
at_fault tokens kind behind place text due some e so_far = sym so_far ∙ ap (prepended tokens) (fault kind behind place text some e)

pub at_end : (tokens : List Token) (place : ℕ) (text : List ℕ) (due : Result (List Token) (ℕ × ℕ)) → length text ≡ 0 → prepended tokens (split zero place text) ≡ due → due ≡ Ok tokens
unfolding split
at_end tokens place [] due none so_far = sym so_far ∙ ap Ok (append-nil tokens)
at_end tokens place (b ∷ more) due none so_far = absurd (omega arith)
