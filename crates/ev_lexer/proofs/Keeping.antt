-- How the line ends of a list of tokens are dropped, token by token.
use Rattle.std.proofs.Common.{◌≡◌, ◌<◌, ◌≤◌, ◌+◌, ◌++◌, ◌&&◌, ◌||◌, ℕ, Bool, true, false, List, [], ◌∷◌, length, get_or, drop, refl, sym, ◌∙◌, ap, add-one, drop-cons, append_assoc, append-nil, arith}
use Rattle.std.proofs.lemmas.Grind.{common_steps}
use Rattle.def_syntax.specs.declared.token.Token.{Token}
use Rattle.ev_lexer.specs.LineEnds.{is_inside, is_line_end, joins, kept, opened}

dropped : (brackets : List Bool) (joined : Bool) (t : Token) (more : List Token)
    → (is_line_end t.kind && (is_inside brackets || joined)) ≡ true → kept brackets joined (t ∷ more) ≡ kept brackets joined more
unfolding kept
dropped brackets joined t more e = rw (e, kept) refl

stays : (brackets : List Bool) (joined : Bool) (t : Token) (more : List Token)
    → (is_line_end t.kind && (is_inside brackets || joined)) ≡ false
    → kept brackets joined (t ∷ more) ≡ t ∷ kept (opened t.kind brackets) (joins t.kind) more
unfolding kept
stays brackets joined t more e = rw (e, kept) refl

-- the same of a list from a place on
pub goes_dropped : (d : Token) (left whole : List Token) (brackets : List Bool) (joined : Bool) (ts : List Token) (i : ℕ) → i < length ts
    → left ++ kept brackets joined (drop i ts) ≡ whole → (is_line_end (get_or ts i d).kind && (is_inside brackets || joined)) ≡ true
    → left ++ kept brackets joined (drop (i + 1) ts) ≡ whole
goes_dropped d left whole brackets joined ts i lt kept_so_far e =
    let next : drop i ts ≡ get_or ts i d ∷ drop (i + 1) ts = rw add-one (drop-cons ts i d lt) in
    let same : kept brackets joined (drop i ts) ≡ kept brackets joined (drop (i + 1) ts) = ap (kept brackets joined) next ∙ dropped brackets joined (get_or ts i d) (drop (i + 1) ts) e in
    ap (λ rest. left ++ rest) (sym same) ∙ kept_so_far

goes_kept : (d : Token) (left whole : List Token) (brackets : List Bool) (joined : Bool) (ts : List Token) (i : ℕ) → i < length ts
    → left ++ kept brackets joined (drop i ts) ≡ whole → (is_line_end (get_or ts i d).kind && (is_inside brackets || joined)) ≡ false
    → (left ++ (get_or ts i d ∷ [])) ++ kept (opened (get_or ts i d).kind brackets) (joins (get_or ts i d).kind) (drop (i + 1) ts) ≡ whole
goes_kept d left whole brackets joined ts i lt kept_so_far e =
    let next : drop i ts ≡ get_or ts i d ∷ drop (i + 1) ts = rw add-one (drop-cons ts i d lt) in
    let same : kept brackets joined (drop i ts) ≡ get_or ts i d ∷ kept (opened (get_or ts i d).kind brackets) (joins (get_or ts i d).kind) (drop (i + 1) ts) =
    ap (kept brackets joined) next ∙ stays brackets joined (get_or ts i d) (drop (i + 1) ts) e in
    append_assoc left (get_or ts i d ∷ []) _ ∙ ap (λ rest. left ++ rest) (sym same) ∙ kept_so_far

nothing_behind : (ts : List Token) (i : ℕ) → length ts ≤ i → drop i ts ≡ []
nothing_behind ts i h = grind (arith, common_steps)

pub ends : (left whole : List Token) (brackets : List Bool) (joined : Bool) (ts : List Token) (i : ℕ) → length ts ≤ i
    → left ++ kept brackets joined (drop i ts) ≡ whole → left ≡ whole
unfolding kept
ends left whole brackets joined ts i h kept_so_far =
    let none : drop i ts ≡ [] = nothing_behind ts i h in
    sym (append-nil left) ∙ ap (λ rest. left ++ kept brackets joined rest) (sym none) ∙ kept_so_far

pub goes_on : (d : Token) (left more whole : List Token) (brackets deeper : List Bool) (joined joins_now : Bool) (ts : List Token) (i : ℕ) → i < length ts
    → left ++ kept brackets joined (drop i ts) ≡ whole → (is_line_end (get_or ts i d).kind && (is_inside brackets || joined)) ≡ false
    → more ≡ left ++ (get_or ts i d ∷ []) → deeper ≡ opened (get_or ts i d).kind brackets → joins_now ≡ joins (get_or ts i d).kind
    → more ++ kept deeper joins_now (drop (i + 1) ts) ≡ whole
goes_on d left more whole brackets deeper joined joins_now ts i lt kept_so_far e p b j =
    rw (p, b, j) (goes_kept d left whole brackets joined ts i lt kept_so_far e)
