-- What is kept of the cuts so far cuts what was cut so far.
use Rattle.std.proofs.Common.{◌≡◌, ◌<◌, ◌≤◌, ◌+◌, ◌++◌, ◌&&◌, ◌||◌, ◌==◌, ◌⊎◌, inl, inr, ℕ, Bool, true, false, List, [], ◌∷◌, length, get_or, drop, take, refl, sym, ◌∙◌, ap, arith}
use Rattle.std.specs.List.{list_any}
use Rattle.std.proofs.lemmas.List.{take_more}
use Rattle.std.proofs.lemmas.Bool.Decides.{nat_tests}
use Rattle.ev_script.specs.declared.script.Entry.{Entry}
use Rattle.ev_script.specs.declared.script.Entry.TheVariants.{Turn, Carry, Cut, Notice}
use Rattle.ev_script.specs.Schedule.{are_in_order, cuts, is_pair, may_follow}
use Rattle.ev_script.proofs.EachLemmas.{next_item, nothing_behind}

abbrev pub CutAlike : List Entry → List Entry → Type 0
CutAlike a b = (v w : ℕ) → list_any (cuts v w) a ≡ list_any (cuts v w) b

or_false : (a : Bool) → (a || false) ≡ a
or_false true = refl
or_false false = refl

or_assoc : (a b c : Bool) → (a || (b || c)) ≡ ((a || b) || c)
or_assoc true b c = refl
or_assoc false b c = refl

pub any_push : (p : Entry → Bool) (es : List Entry) (e : Entry) → list_any p (es ++ e ∷ []) ≡ (list_any p es || p e)
any_push p [] e = or_false (p e)
any_push p (x ∷ es) e = ap (λ b. p x || b) (any_push p es e) ∙ or_assoc (p x) (list_any p es) (p e)

-- an entry that is no cut
pub alike_other : (es : List Entry) (e : Entry) → ((v w : ℕ) → cuts v w e ≡ false) → CutAlike es (es ++ e ∷ [])
alike_other es e none v w = sym (any_push (cuts v w) es e ∙ ap (λ b. list_any (cuts v w) es || b) (none v w) ∙ or_false (list_any (cuts v w) es))

pair_cases : (v w a b : ℕ) → is_pair v w a b ≡ true → ((v ≡ a) × (w ≡ b)) ⊎ ((v ≡ b) × (w ≡ a))
pair_cases v w a b h = grind (arith, nat_tests)

or_swapped : (p q r s : Bool) → ((p && q) || (r && s)) ≡ ((s && r) || (q && p))
or_swapped true true true true = refl
or_swapped true true true false = refl
or_swapped true true false true = refl
or_swapped true true false false = refl
or_swapped true false true true = refl
or_swapped true false true false = refl
or_swapped true false false true = refl
or_swapped true false false false = refl
or_swapped false true true true = refl
or_swapped false true true false = refl
or_swapped false true false true = refl
or_swapped false true false false = refl
or_swapped false false true true = refl
or_swapped false false true false = refl
or_swapped false false false true = refl
or_swapped false false false false = refl

swapped : (a b x y : ℕ) → is_pair b a x y ≡ is_pair a b x y
swapped a b x y = or_swapped (b == x) (a == y) (b == y) (a == x)

swapped_cuts : (a b : ℕ) (e : Entry) → cuts b a e ≡ cuts a b e
swapped_cuts a b (Cut x y) = swapped a b x y
swapped_cuts a b (Turn x) = refl
swapped_cuts a b (Carry x y) = refl
swapped_cuts a b (Notice x y) = refl

swapped_any : (a b : ℕ) (es : List Entry) → list_any (cuts b a) es ≡ list_any (cuts a b) es
swapped_any a b [] = refl
swapped_any a b (e ∷ es) = ap (λ c. c || list_any (cuts b a) es) (swapped_cuts a b e) ∙ ap (λ c. cuts a b e || c) (swapped_any a b es)

same_any : (v w a b : ℕ) (es : List Entry) → ((v ≡ a) × (w ≡ b)) ⊎ ((v ≡ b) × (w ≡ a)) → list_any (cuts v w) es ≡ list_any (cuts a b) es
same_any v w a b es (inl h) = ap (λ n. list_any (cuts n w) es) h.0 ∙ ap (λ n. list_any (cuts a n) es) h.1
same_any v w a b es (inr h) = ap (λ n. list_any (cuts n w) es) h.0 ∙ ap (λ n. list_any (cuts b n) es) h.1 ∙ swapped_any a b es

absorbed : (c p : Bool) → (p ≡ true → c ≡ true) → c ≡ (c || p)
absorbed true p h = refl
absorbed false true h = h refl
absorbed false false h = refl

-- a second cut of two vats
pub alike_again : (es : List Entry) (a b : ℕ) → list_any (cuts a b) es ≡ true → CutAlike es (es ++ Cut a b ∷ [])
alike_again es a b cut v w =
    absorbed (list_any (cuts v w) es) (is_pair v w a b) (λ h. same_any v w a b es (pair_cases v w a b h) ∙ cut)
    ∙ sym (any_push (cuts v w) es (Cut a b))

-- what may follow is told by what is kept
pub follow_alike : (a b : List Entry) (e : Entry) → CutAlike a b → may_follow a e ≡ may_follow b e
follow_alike a b (Notice v w) h = h v w
follow_alike a b (Turn v) h = refl
follow_alike a b (Carry v w) h = refl
follow_alike a b (Cut v w) h = refl

both : (b c : Bool) → b ≡ true → (b && c) ≡ c
both b c e = rw e refl

neither : (b c : Bool) → b ≡ false → (b && c) ≡ false
neither b c e = rw e refl

taken : {A : Type 0} (x : A) (xs : List A) (i : ℕ) → i < length xs → x ≡ get_or xs i x → take (i + 1) xs ≡ take i xs ++ x ∷ []
taken x xs i lt is = take_more xs i x lt ∙ ap (λ z. take i xs ++ z ∷ []) (sym is)

pub order_goes : (x : Entry) (whole : Bool) (xs : List Entry) (i : ℕ) → i < length xs → x ≡ get_or xs i x
    → are_in_order (take i xs) (drop i xs) ≡ whole → may_follow (take i xs) x ≡ true → are_in_order (take (i + 1) xs) (drop (i + 1) xs) ≡ whole
order_goes x whole xs i lt is so_far e =
    ap (λ before. are_in_order before (drop (i + 1) xs)) (taken x xs i lt is)
    ∙ sym (both (may_follow (take i xs) x) (are_in_order (take i xs ++ x ∷ []) (drop (i + 1) xs)) e)
    ∙ ap (are_in_order (take i xs)) (sym (next_item x xs i lt is)) ∙ so_far

pub order_stops : (x : Entry) (whole : Bool) (xs : List Entry) (i : ℕ) → i < length xs → x ≡ get_or xs i x
    → are_in_order (take i xs) (drop i xs) ≡ whole → may_follow (take i xs) x ≡ false → false ≡ whole
order_stops x whole xs i lt is so_far e =
    sym (neither (may_follow (take i xs) x) (are_in_order (take i xs ++ x ∷ []) (drop (i + 1) xs)) e)
    ∙ ap (are_in_order (take i xs)) (sym (next_item x xs i lt is)) ∙ so_far

pub order_ends : (whole : Bool) (xs : List Entry) (i : ℕ) → length xs ≤ i → are_in_order (take i xs) (drop i xs) ≡ whole → true ≡ whole
order_ends whole xs i le so_far = ap (are_in_order (take i xs)) (sym (nothing_behind xs i le)) ∙ so_far

-- the kept cuts and those so far, with one entry more
pub kept_goes : (kept more : List Entry) (x : Entry) (xs : List Entry) (i : ℕ) → i < length xs → x ≡ get_or xs i x
    → CutAlike kept (take i xs) → CutAlike more (kept ++ x ∷ []) → CutAlike more (take (i + 1) xs)
kept_goes kept more x xs i lt is alike m v w =
    m v w ∙ any_push (cuts v w) kept x ∙ ap (λ b. b || cuts v w x) (alike v w)
    ∙ sym (any_push (cuts v w) (take i xs) x) ∙ ap (list_any (cuts v w)) (sym (taken x xs i lt is))
