-- How a scan of bytes goes on: for the end of a comment, for a closing quote, and for a bad escape.
use Rattle.std.proofs.Common.{◌≡◌, ℕ, zero, suc, ◌+◌, ◌-◌, ◌<◌, ◌≤◌, ◌&&◌, true, false, eqb, List, [], ◌∷◌, length, take, drop, get_or, Option, Some, None, option_map, refl, sym, ◌∙◌, ap, arith, add-one, drop-cons, length-drop}
use Rattle.std.proofs.lemmas.List.{drop-drop}
use Rattle.std.proofs.Math.Seq.{take-length}
use Rattle.std.proofs.lemmas.Bool.Decides.{nat_tests}
use Rattle.ev_lexer.specs.Pieces.{comment_end, closing, bad_escape, escape_length}

-- a place behind so many bytes
abbrev pub shifted : ℕ → Option ℕ → Option ℕ
shifted k o = option_map (λ n. k + n) o

pub shifted_zero : (o : Option ℕ) → shifted 0 o ≡ o
shifted_zero None = refl
shifted_zero (Some n) = ap Some (omega arith)

shifted_suc : (k : ℕ) (o : Option ℕ) → shifted k (option_map suc o) ≡ shifted (k + 1) o
shifted_suc k None = refl
shifted_suc k (Some n) = ap Some (omega arith)

shifted_two : (k : ℕ) (o : Option ℕ) → shifted k (option_map (λ n. suc (suc n)) o) ≡ shifted (k + 2) o
shifted_two k None = refl
shifted_two k (Some n) = ap Some (omega arith)

suc_shifted : (k : ℕ) (o : Option ℕ) → option_map suc (shifted k o) ≡ shifted (suc k) o
suc_shifted k None = refl
suc_shifted k (Some n) = ap Some (omega arith)

shifted_add : (k m : ℕ) (o : Option ℕ) → shifted k (shifted m o) ≡ shifted (k + m) o
shifted_add k m None = refl
shifted_add k m (Some n) = ap Some (omega arith)

at_once : (k : ℕ) → shifted k (Some 0) ≡ Some k
at_once k = ap Some (omega arith)

pub same_byte : (a b : ℕ) → a ≡ b → eqb a b ≡ true
same_byte a b e = grind (arith, nat_tests)

pub other_byte : (a b : ℕ) → ¬ (a ≡ b) → eqb a b ≡ false
other_byte a b e = grind (arith, nat_tests)

-- the bytes from a place on, by the first of them
one_at : (d : ℕ) (bytes : List ℕ) (i : ℕ) → i < length bytes → drop i bytes ≡ get_or bytes i d ∷ drop (i + 1) bytes
one_at d bytes i lt = rw add-one (drop-cons bytes i d lt)

pub none_at : (bytes : List ℕ) (i : ℕ) → length bytes ≤ i → drop i bytes ≡ []
none_at [] zero h = refl
none_at [] (suc i) h = refl
none_at (b ∷ bytes) zero h = absurd (omega arith)
none_at (b ∷ bytes) (suc i) h = none_at bytes i (omega arith)

pub rest_of : (bytes : List ℕ) (i : ℕ) → take (length bytes - i) (drop i bytes) ≡ drop i bytes
rest_of bytes i =
    let long : length (drop i bytes) ≡ length bytes - i = omega (arith, length-drop i bytes) in
    ap (λ k. take k (drop i bytes)) (sym long) ∙ take-length (drop i bytes)

-- the end of a comment

ends_here : (a b : ℕ) (more : List ℕ) → (eqb a 42 && eqb b 47) ≡ true → comment_end (a ∷ b ∷ more) ≡ Some 2
unfolding comment_end
ends_here a b more e = rw (e, comment_end) refl

ends_later : (a b : ℕ) (more : List ℕ) → (eqb a 42 && eqb b 47) ≡ false → comment_end (a ∷ b ∷ more) ≡ option_map suc (comment_end (b ∷ more))
unfolding comment_end
ends_later a b more e = rw (e, comment_end) refl

too_short : (bytes : List ℕ) → length bytes ≤ 1 → comment_end bytes ≡ None
unfolding comment_end
too_short [] h = refl
too_short (a ∷ []) h = refl
too_short (a ∷ b ∷ more) h = absurd (omega arith)

pub comment_ends : (d e : ℕ) (bytes : List ℕ) (i : ℕ) (due : Option ℕ) → i + 1 < length bytes → (eqb (get_or bytes i d) 42 && eqb (get_or bytes (i + 1) e) 47) ≡ true
    → shifted i (comment_end (drop i bytes)) ≡ due → due ≡ Some (i + 2)
comment_ends d e bytes i due lt here so_far =
    let first : drop i bytes ≡ get_or bytes i d ∷ drop (i + 1) bytes = one_at d bytes i (omega arith) in
    let second : drop (i + 1) bytes ≡ get_or bytes (i + 1) e ∷ drop ((i + 1) + 1) bytes = one_at e bytes (i + 1) lt in
    sym so_far ∙ ap (λ xs. shifted i (comment_end xs)) (first ∙ ap (λ xs. get_or bytes i d ∷ xs) second) ∙ ap (shifted i) (ends_here _ _ _ here)

pub comment_goes_on : (d e : ℕ) (bytes : List ℕ) (i : ℕ) (due : Option ℕ) → i + 1 < length bytes → (eqb (get_or bytes i d) 42 && eqb (get_or bytes (i + 1) e) 47) ≡ false
    → shifted i (comment_end (drop i bytes)) ≡ due → shifted (i + 1) (comment_end (drop (i + 1) bytes)) ≡ due
comment_goes_on d e bytes i due lt here so_far =
    let first : drop i bytes ≡ get_or bytes i d ∷ drop (i + 1) bytes = one_at d bytes i (omega arith) in
    let second : drop (i + 1) bytes ≡ get_or bytes (i + 1) e ∷ drop ((i + 1) + 1) bytes = one_at e bytes (i + 1) lt in
    let later : comment_end (drop i bytes) ≡ option_map suc (comment_end (drop (i + 1) bytes)) =
    ap comment_end (first ∙ ap (λ xs. get_or bytes i d ∷ xs) second) ∙ ends_later _ _ _ here ∙ ap (λ xs. option_map suc (comment_end xs)) (sym second) in
    sym (shifted_suc i (comment_end (drop (i + 1) bytes))) ∙ ap (shifted i) (sym later) ∙ so_far

remaining : (bytes : List ℕ) (i : ℕ) → length bytes ≤ i + 1 → length (drop i bytes) ≤ 1
remaining bytes i h = omega (arith, length-drop i bytes)

pub no_comment_end : (bytes : List ℕ) (i : ℕ) (due : Option ℕ) → length bytes ≤ i + 1 → shifted i (comment_end (drop i bytes)) ≡ due → due ≡ None
no_comment_end bytes i due h so_far = sym so_far ∙ ap (shifted i) (too_short (drop i bytes) (remaining bytes i h))

-- a closing quote

closes_here : (mark a : ℕ) (more : List ℕ) → eqb a mark ≡ true → closing mark (a ∷ more) ≡ Some 0
unfolding closing
closes_here mark a [] e = rw (e, closing) refl
closes_here mark a (b ∷ more) e = rw (e, closing) refl

hides_next : (mark a : ℕ) (more : List ℕ) → eqb a mark ≡ false → eqb a 92 ≡ true → closing mark (a ∷ more) ≡ option_map (λ n. suc (suc n)) (closing mark (drop 1 more))
unfolding closing
hides_next mark a [] e h = rw (e, closing) refl
hides_next mark a (b ∷ more) e h = rw (e, h, closing) refl

closes_later : (mark a : ℕ) (more : List ℕ) → eqb a mark ≡ false → eqb a 92 ≡ false → closing mark (a ∷ more) ≡ option_map suc (closing mark more)
unfolding closing
closes_later mark a [] e h = rw (e, closing) refl
closes_later mark a (b ∷ more) e h = rw (e, h, closing) refl

closes_never : (mark : ℕ) (bytes : List ℕ) (i : ℕ) → length bytes ≤ i → closing mark (drop i bytes) ≡ None
unfolding closing
closes_never mark bytes i h = ap (closing mark) (none_at bytes i h)

pub quote_closes : (d mark : ℕ) (bytes : List ℕ) (i : ℕ) (due : Option ℕ) → i < length bytes → get_or bytes i d ≡ mark
    → shifted i (closing mark (drop i bytes)) ≡ due → due ≡ Some i
quote_closes d mark bytes i due lt here so_far =
    sym so_far ∙ ap (λ xs. shifted i (closing mark xs)) (one_at d bytes i lt)
    ∙ ap (shifted i) (closes_here mark _ _ (same_byte _ _ here)) ∙ at_once i

pub quote_is_hidden : (d mark : ℕ) (bytes : List ℕ) (i : ℕ) (due : Option ℕ) → i < length bytes → ¬ (get_or bytes i d ≡ mark) → get_or bytes i d ≡ 92
    → shifted i (closing mark (drop i bytes)) ≡ due → shifted (i + 2) (closing mark (drop (i + 2) bytes)) ≡ due
quote_is_hidden d mark bytes i due lt other here so_far =
    let next : drop 1 (drop (i + 1) bytes) ≡ drop (i + 2) bytes = drop-drop 1 (i + 1) bytes ∙ ap (λ k. drop k bytes) (omega arith) in
    let later : closing mark (drop i bytes) ≡ option_map (λ n. suc (suc n)) (closing mark (drop (i + 2) bytes)) =
    ap (closing mark) (one_at d bytes i lt) ∙ hides_next mark _ _ (other_byte _ _ other) (same_byte _ _ here)
    ∙ ap (λ xs. option_map (λ n. suc (suc n)) (closing mark xs)) next in
    sym (shifted_two i _) ∙ ap (shifted i) (sym later) ∙ so_far

pub quote_comes_later : (d mark : ℕ) (bytes : List ℕ) (i : ℕ) (due : Option ℕ) → i < length bytes → ¬ (get_or bytes i d ≡ mark) → ¬ (get_or bytes i d ≡ 92)
    → shifted i (closing mark (drop i bytes)) ≡ due → shifted (i + 1) (closing mark (drop (i + 1) bytes)) ≡ due
quote_comes_later d mark bytes i due lt other plain so_far =
    let later : closing mark (drop i bytes) ≡ option_map suc (closing mark (drop (i + 1) bytes)) =
    ap (closing mark) (one_at d bytes i lt) ∙ closes_later mark _ _ (other_byte _ _ other) (other_byte _ _ plain) in
    sym (shifted_suc i _) ∙ ap (shifted i) (sym later) ∙ so_far

pub no_quote : (mark : ℕ) (bytes : List ℕ) (i : ℕ) (due : Option ℕ) → length bytes ≤ i → shifted i (closing mark (drop i bytes)) ≡ due → due ≡ None
no_quote mark bytes i due h so_far = sym so_far ∙ ap (shifted i) (closes_never mark bytes i h)

-- a bad escape

plain_byte : (b : ℕ) (more : List ℕ) → eqb b 92 ≡ false → bad_escape zero (b ∷ more) ≡ option_map suc (bad_escape zero more)
unfolding bad_escape
plain_byte b more e = rw (e, bad_escape) refl

bad_here : (b : ℕ) (more : List ℕ) → eqb b 92 ≡ true → escape_length more ≡ None → bad_escape zero (b ∷ more) ≡ Some 0
unfolding bad_escape
bad_here b more e none = rw (e, bad_escape) (rw none refl)

good_here : (b n : ℕ) (more : List ℕ) → eqb b 92 ≡ true → escape_length more ≡ Some n → bad_escape zero (b ∷ more) ≡ option_map suc (bad_escape n more)
unfolding bad_escape
good_here b n more e some = rw (e, bad_escape) (rw some refl)

escape_passes : (k : ℕ) (bytes : List ℕ) → bad_escape k bytes ≡ shifted k (bad_escape zero (drop k bytes))
unfolding bad_escape
escape_passes zero bytes = sym (shifted_zero (bad_escape zero bytes))
escape_passes (suc k) [] = refl
escape_passes (suc k) (b ∷ more) = ap (option_map suc) (escape_passes k more) ∙ suc_shifted k (bad_escape zero (drop k more))

ends_well : (bytes : List ℕ) (i : ℕ) → length bytes ≤ i → bad_escape zero (drop i bytes) ≡ None
unfolding bad_escape
ends_well bytes i h = ap (bad_escape zero) (none_at bytes i h)

pub escape_is_bad : (d : ℕ) (bytes : List ℕ) (i : ℕ) (due : Option ℕ) → i < length bytes → get_or bytes i d ≡ 92 → escape_length (drop (i + 1) bytes) ≡ None
    → shifted i (bad_escape zero (drop i bytes)) ≡ due → due ≡ Some i
escape_is_bad d bytes i due lt here none so_far =
    sym so_far ∙ ap (λ xs. shifted i (bad_escape zero xs)) (one_at d bytes i lt) ∙ ap (shifted i) (bad_here _ _ (same_byte _ _ here) none) ∙ at_once i

pub escape_is_good : (d n : ℕ) (bytes : List ℕ) (i : ℕ) (due : Option ℕ) → i < length bytes → get_or bytes i d ≡ 92 → escape_length (drop (i + 1) bytes) ≡ Some n
    → shifted i (bad_escape zero (drop i bytes)) ≡ due → shifted (i + (1 + n)) (bad_escape zero (drop (i + (1 + n)) bytes)) ≡ due
escape_is_good d n bytes i due lt here some so_far =
    let next : drop n (drop (i + 1) bytes) ≡ drop (i + (1 + n)) bytes = drop-drop n (i + 1) bytes ∙ ap (λ k. drop k bytes) (omega arith) in
    let later : bad_escape zero (drop i bytes) ≡ option_map suc (shifted n (bad_escape zero (drop (i + (1 + n)) bytes))) =
    ap (bad_escape zero) (one_at d bytes i lt) ∙ good_here _ n _ (same_byte _ _ here) some
    ∙ ap (option_map suc) (escape_passes n (drop (i + 1) bytes) ∙ ap (λ xs. shifted n (bad_escape zero xs)) next) in
    ap (λ k. shifted k (bad_escape zero (drop (i + (1 + n)) bytes))) (omega arith) ∙ sym (shifted_add (i + 1) n _) ∙ sym (shifted_suc i _) ∙ ap (shifted i) (sym later) ∙ so_far

pub byte_is_plain : (d : ℕ) (bytes : List ℕ) (i : ℕ) (due : Option ℕ) → i < length bytes → ¬ (get_or bytes i d ≡ 92)
    → shifted i (bad_escape zero (drop i bytes)) ≡ due → shifted (i + 1) (bad_escape zero (drop (i + 1) bytes)) ≡ due
byte_is_plain d bytes i due lt plain so_far =
    let later : bad_escape zero (drop i bytes) ≡ option_map suc (bad_escape zero (drop (i + 1) bytes)) =
    ap (bad_escape zero) (one_at d bytes i lt) ∙ plain_byte _ _ (other_byte _ _ plain) in
    sym (shifted_suc i _) ∙ ap (shifted i) (sym later) ∙ so_far

pub no_bad_escape : (bytes : List ℕ) (i : ℕ) (due : Option ℕ) → length bytes ≤ i → shifted i (bad_escape zero (drop i bytes)) ≡ due → due ≡ None
no_bad_escape bytes i due h so_far = sym so_far ∙ ap (shifted i) (ends_well bytes i h)
