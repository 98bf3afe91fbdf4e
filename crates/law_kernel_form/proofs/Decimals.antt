-- Decimal digits are read as the integer that they are of.
use Rattle.std.proofs.Common.{◌≡◌, ℕ, zero, suc, ◌+◌, ◌-◌, ◌*◌, ◌/◌, ◌%◌, ◌^◌, ◌<◌, ◌≤◌, ◌&&◌, cond, eqb, leb, Bool, true, false, ℤ, pos, negsuc, List, [], ◌∷◌, ◌++◌, length, Option, Some, None, option_and_then, option_map, refl, sym, ◌∙◌, ap, subst, append_assoc, arith, lit<}
use Rattle.std.specs.Prelude.{◌-ℤ◌, ◌+ℤ◌, ◌*ℤ◌, neg_ℤ}
use Rattle.std.specs.Fmt.{digit_glyph, digits_onto, signed_decimal}
use Rattle.std.specs.Fmt.{digits as digits_of}
use Rattle.std.proofs.lemmas.Bool.{lt-ltb, le-leb, eqb-true}
use Rattle.std.proofs.lemmas.Bool.Decides.{nat_tests}
use Rattle.std.proofs.lemmas.Int.{ints}
use Rattle.def_kernel.specs.declared.node.Node.{Node}
use Rattle.def_kernel.specs.declared.node.Literal.TheVariants.{Int}
use Rattle.def_kernel.specs.declared.reader.Item.{Item}
use Rattle.def_kernel.specs.declared.reader.Item.TheVariants.{Literal as ALit}
use Rattle.def_kernel.specs.declared.reader.Frame.{Frame}
use Rattle.def_kernel.specs.declared.reader.Mode.TheVariants.{Before as before, Behind as behind, Whole as whole, Negative as negative, Digits as digits}
use Rattle.def_kernel.specs.declared.reader.State.{State}
use Rattle.def_kernel.specs.declared.shape.Head.{Head}
use Rattle.def_kernel.specs.declared.shape.Want.TheVariants.{Literal as ALiteral}
use Rattle.def_kernel.specs.Reading.{step, add_item, wanted, takes_exit, literal_begins, is_digit, is_zero, fits, with_digit, more_digits, item_ends}
use Rattle.std.specs.Char.{encode_utf8}
use Rattle.std.proofs.lemmas.Str.{encode_ascii}
use Rattle.std.proofs.lemmas.Option.{same_Some, option_and_then_some}
use Rattle.def_kernel.specs.Trees.{IsInt}
use Rattle.law_kernel_form.proofs.Writing.{IsSigned}
use Rattle.law_kernel_form.proofs.Steps.{steps, reads_one, Stops, space, bracket, Goes, item, state, framed, at, space_wanted}
use Rattle.law_kernel_form.proofs.Names.{begins_wanted}
use Rattle.law_kernel_form.proofs.Spelled.{either, Spells, ascii, nothing, spells_utf8, spells_chars}

-- an integer by whether it has a sign, and how large it is
abbrev signed : Bool → ℕ → ℤ
signed false n = pos n
signed true zero = pos 0
signed true (suc n) = negsuc n

abbrev Within : Bool → ℕ → Type 0
Within false n = n < 2 ^ 127
Within true n = n ≤ 2 ^ 127

-- below this number so many digits are enough
abbrev limit : ℕ → ℕ
limit zero = 1
limit (suc k) = 10 * limit k

fits_pos : (n : ℕ) → n < 2 ^ 127 → fits (pos n) ≡ Some (pos n)
fits_pos n h = ap (λ b. cond b (Some (pos n)) None) (le-leb n (2 ^ 127 - 1) (omega arith))

both_true : (b : Bool) (z : ℤ) → b ≡ true → cond (b && true) (Some z) None ≡ Some z
both_true true z e = refl
both_true false z e = absurd (cc)

fits_negative : (n : ℕ) → n < 2 ^ 127 → fits (negsuc n) ≡ Some (negsuc n)
fits_negative n h = both_true (leb n (2 ^ 127 - 1)) (negsuc n) (le-leb n (2 ^ 127 - 1) (omega arith))

suc_ten : (q : ℕ) → suc q * 10 ≡ suc (q * 10 + 9)
suc_ten q = omega arith

ten_times : (q : ℕ) → negsuc q *ℤ pos 10 ≡ negsuc (q * 10 + 9)
ten_times q = ap (λ k. neg_ℤ (pos k)) (suc_ten q)

further_down : (t d : ℕ) → negsuc t -ℤ pos d ≡ negsuc (t + d)
further_down t d = omega (arith, ints)

pub one_down : (d : ℕ) → pos 0 -ℤ pos (suc d) ≡ negsuc d
one_down d = omega (arith, ints)

-- one more digit
digit_added : (minus : Bool) (q d n : ℕ) → 0 < q → d < 10 → n ≡ q * 10 + d → Within minus n → with_digit minus d (signed minus q) ≡ Some (signed minus n)
digit_added false q d n some low e h =
    ap (option_and_then (λ tens. fits (tens +ℤ pos d))) (fits_pos (q * 10) (omega arith)) ∙ fits_pos (q * 10 + d) (omega arith) ∙ ap (λ k. Some (pos k)) (sym e)
digit_added true zero d n some low e h = absurd (omega arith)
digit_added true (suc q) d zero some low e h = absurd (omega arith)
digit_added true (suc q) d (suc n) some low e h =
    ap (λ z. option_and_then (λ tens. fits (tens -ℤ pos d)) (fits z)) (ten_times q)
    ∙ ap (option_and_then (λ tens. fits (tens -ℤ pos d))) (fits_negative (q * 10 + 9) (omega arith))
    ∙ ap fits (further_down (q * 10 + 9) d) ∙ fits_negative (q * 10 + 9 + d) (omega arith) ∙ ap (λ k. Some (negsuc k)) (omega arith)

positive : (q : ℕ) → 0 < q → eqb q 0 ≡ false
positive q h = grind (arith, nat_tests)

not_zero : (minus : Bool) (q : ℕ) → 0 < q → is_zero (signed minus q) ≡ false
not_zero false q h = positive q h
not_zero true zero h = absurd (omega arith)
not_zero true (suc q) h = refl

digit_is : (d : ℕ) → d < 10 → is_digit (48 + d) ≡ true
digit_is d h = grind (arith, nat_tests)

glyph_is : (d : ℕ) → d < 10 → digit_glyph false d ≡ 48 + d
glyph_is d h = ap (λ b. cond b (48 + d) (87 + d)) (lt-ltb d 10 h)

chosen : (digit zero_there : Bool) (a b : Option State) → digit ≡ true → zero_there ≡ false
    → elim digit as (λ _. Option State) [ true ↦ elim zero_there as (λ _. Option State) [ true ↦ None | false ↦ b ] | false ↦ a ] ≡ b
chosen true false a b d e = refl
chosen true true a b d e = absurd (cc)
chosen false zero_there a b d e = absurd (cc)

back : (d : ℕ) → 48 + d - 48 ≡ d
back d = omega arith

one_digit : (minus : Bool) (q d n : ℕ) (frames : List Frame) (nodes : List Node) → 0 < q → d < 10 → n ≡ q * 10 + d → Within minus n
    → step (48 + d) (state frames nodes (digits minus (signed minus q))) ≡ Some (state frames nodes (digits minus (signed minus n)))
one_digit minus q d n frames nodes some low e h =
    let s = state frames nodes whole in
    chosen (is_digit (48 + d)) (is_zero (signed minus q)) (item_ends (ALit (Int (signed minus q))) (48 + d) s) (more_digits minus (with_digit minus (48 + d - 48) (signed minus q)) s)
    (digit_is d low) (not_zero minus q some)
    ∙ ap (λ k. more_digits minus (with_digit minus k (signed minus q)) s) (back d)
    ∙ ap (λ o. more_digits minus o s) (digit_added minus q d n some low e h)

-- the first digit leads from this state to its number
abbrev First : Bool → State → List Frame → List Node → Type 0
First minus s frames nodes = (d : ℕ) → 0 < d → d < 10 → step (48 + d) s ≡ Some (state frames nodes (digits minus (signed minus d)))

-- digits, and then these characters, lead to the number
abbrev Reads : ℕ → ℕ → Bool → State → List ℕ → List Frame → List Node → Type 0
Reads k n minus s rest frames nodes = (acc : List ℕ) → steps (digits_onto k 10 false n acc ++ rest) s ≡ steps (acc ++ rest) (state frames nodes (digits minus (signed minus n)))

only_digit : (n : ℕ) → n / 10 ≡ 0 → 0 < n → (0 < n % 10) × (n % 10 ≡ n)
only_digit n e h = (omega arith, omega arith)

within_less : (minus : Bool) (n : ℕ) → Within minus n → Within minus (n / 10)
within_less false n h = omega arith
within_less true n h = omega arith

digit_below : (n : ℕ) → n % 10 < 10
digit_below n = omega arith

tens_there : (n : ℕ) → eqb (n / 10) 0 ≡ false → 0 < n / 10
tens_there n e = grind (arith, nat_tests)

by_last : (k n : ℕ) (acc rest : List ℕ) (minus : Bool) (s : State) (frames : List Frame) (nodes : List Node) (t : Bool) → eqb (n / 10) 0 ≡ t → 0 < n → Within minus n
    → First minus s frames nodes → (eqb (n / 10) 0 ≡ false → Reads k (n / 10) minus s rest frames nodes)
    → steps (cond t (digit_glyph false (n % 10) ∷ acc) (digits_onto k 10 false (n / 10) (digit_glyph false (n % 10) ∷ acc)) ++ rest) s
    ≡ steps (acc ++ rest) (state frames nodes (digits minus (signed minus n)))
by_last k n acc rest minus s frames nodes true e some h first later =
    let only = only_digit n (eqb-true (n / 10) 0 e) some in
    ap (λ c. steps (c ∷ (acc ++ rest)) s) (glyph_is (n % 10) (digit_below n))
    ∙ reads_one (48 + n % 10) (acc ++ rest) s (state frames nodes (digits minus (signed minus (n % 10)))) (first (n % 10) only.0 (digit_below n))
    ∙ ap (λ k. steps (acc ++ rest) (state frames nodes (digits minus (signed minus k)))) only.1
by_last k n acc rest minus s frames nodes false e some h first later =
    later e (digit_glyph false (n % 10) ∷ acc)
    ∙ ap (λ c. steps (c ∷ (acc ++ rest)) (state frames nodes (digits minus (signed minus (n / 10))))) (glyph_is (n % 10) (digit_below n))
    ∙ reads_one (48 + n % 10) (acc ++ rest) (state frames nodes (digits minus (signed minus (n / 10)))) (state frames nodes (digits minus (signed minus n)))
    (one_digit minus (n / 10) (n % 10) n frames nodes (tens_there n e) (digit_below n) (omega arith) h)

less_digits : (n l : ℕ) → n < 10 * l → n / 10 < l
less_digits n l h = omega arith

digits_read : (k n : ℕ) (rest : List ℕ) (minus : Bool) (s : State) (frames : List Frame) (nodes : List Node) → 0 < n → n < limit k → Within minus n
    → First minus s frames nodes → Reads k n minus s rest frames nodes
digits_read zero n rest minus s frames nodes some low h first acc = absurd (omega arith)
digits_read (suc k) n rest minus s frames nodes some low h first acc =
    by_last k n acc rest minus s frames nodes (eqb (n / 10) 0) refl some h first (λ e.
    digits_read k (n / 10) rest minus s frames nodes (tens_there n e) (less_digits n (limit k) low) (within_less minus n h) first)

-- the number is an item where it ends
number_ends : (minus : Bool) (z : ℤ) (rest : List ℕ) (frames : List Frame) (nodes : List Node) → Stops rest
    → steps rest (state frames nodes (digits minus z)) ≡ steps rest (state (add_item (ALit (Int z)) frames) nodes behind)
number_ends minus z _ frames nodes (space {cs = cs}) = refl
number_ends minus z _ frames nodes (bracket {cs = cs}) = refl

-- digits are in ASCII
glyph_narrow : (n : ℕ) → digit_glyph false (n % 10) < 128
glyph_narrow n = let e = glyph_is (n % 10) (digit_below n) in omega arith

digits_plain : (k n : ℕ) (acc : List ℕ) → Spells acc acc → Spells (digits_onto k 10 false n acc) (digits_onto k 10 false n acc)
digits_plain zero n acc p = p
digits_plain (suc k) n acc p =
    let q = ascii (digit_glyph false (n % 10)) acc acc (glyph_narrow n) p in
    either (λ xs. Spells xs xs) (eqb (n / 10) 0) _ _ (λ _. q) (λ _. digits_plain k (n / 10) (digit_glyph false (n % 10) ∷ acc) q)

-- each first digit
by_digit : (P : ℕ → Type 0) → P 1 → P 2 → P 3 → P 4 → P 5 → P 6 → P 7 → P 8 → P 9 → (d : ℕ) → 0 < d → d < 10 → P d
by_digit P a b c d e f g h i (suc zero) some low = a
by_digit P a b c d e f g h i (suc (suc zero)) some low = b
by_digit P a b c d e f g h i (suc (suc (suc zero))) some low = c
by_digit P a b c d e f g h i (suc (suc (suc (suc zero)))) some low = d
by_digit P a b c d e f g h i (suc (suc (suc (suc (suc zero))))) some low = e
by_digit P a b c d e f g h i (suc (suc (suc (suc (suc (suc zero)))))) some low = f
by_digit P a b c d e f g h i (suc (suc (suc (suc (suc (suc (suc zero))))))) some low = g
by_digit P a b c d e f g h i (suc (suc (suc (suc (suc (suc (suc (suc zero)))))))) some low = h
by_digit P a b c d e f g h i (suc (suc (suc (suc (suc (suc (suc (suc (suc zero))))))))) some low = i
by_digit P a b c d e f g h i other some low = absurd (omega arith)

-- a first digit without a sign, and behind `-`
begins_positive : (d : ℕ) → 0 < d → d < 10 → literal_begins (48 + d) ≡ Some (digits false (pos d))
begins_positive = by_digit (λ d. literal_begins (48 + d) ≡ Some (digits false (pos d))) refl refl refl refl refl refl refl refl refl

no_bracket : (d : ℕ) → 0 < d → d < 10 → eqb (48 + d) 40 ≡ false
no_bracket = by_digit (λ d. eqb (48 + d) 40 ≡ false) refl refl refl refl refl refl refl refl refl

first_negative : (frames : List Frame) (nodes : List Node) → First true (state frames nodes negative) frames nodes
first_negative frames nodes = by_digit (λ d. step (48 + d) (state frames nodes negative) ≡ Some (state frames nodes (digits true (signed true d)))) refl refl refl refl refl refl refl refl refl

first_positive : (number : ℕ) (head : Head) (items : List Item) (frames : List Frame) (nodes : List Node) → wanted head (length items) ≡ Some ALiteral → takes_exit head (length items) ≡ false
    → First false (state (framed number head items frames) nodes before) (framed number head items frames) nodes
first_positive number head items frames nodes wants no_exit d some low =
    begins_wanted (48 + d) number head items frames nodes ALiteral (no_bracket d some low) wants no_exit
    ∙ ap (option_map (λ mode. state (framed number head items frames) nodes mode)) (begins_positive d some low)

-- 64 digits are enough
enough : (n : ℕ) → n ≤ 2 ^ 127 → n < limit 64
enough n h = let l : 2 ^ 127 < limit 64 = lit< tt in omega arith

-- an integer behind a space
abbrev pub IntItem : ℤ → Type 0
IntItem z = (number : ℕ) (head : Head) (items : List Item) (frames : List Frame) (now : List Node) → wanted head (length items) ≡ Some ALiteral → takes_exit head (length items) ≡ false
    → Goes (32 ∷ signed_decimal z) (at number head items frames now) (at number head (items ++ ALit (Int z) ∷ []) frames now)

-- by characters that are in ASCII
plain_item : (cs : List ℕ) (z : ℤ) (minus : Bool) (number : ℕ) (head : Head) (items : List Item) (frames : List Frame) (now : List Node) → Spells cs cs → wanted head (length items) ≡ Some ALiteral
    → ((rest : List ℕ) → steps (cs ++ rest) (state (framed number head items frames) now before) ≡ steps rest (state (framed number head items frames) now (digits minus z)))
    → Goes (32 ∷ cs) (at number head items frames now) (at number head (items ++ ALit (Int z) ∷ []) frames now)
plain_item cs z minus number head items frames now plain wants reads =
    item cs (at number head items frames now) (at number head (items ++ ALit (Int z) ∷ []) frames now) (spells_utf8 cs cs plain) (λ rest h.
    ap (λ xs. steps (32 ∷ (xs ++ rest)) (at number head items frames now)) (spells_chars cs cs plain)
    ∙ reads_one 32 (cs ++ rest) (at number head items frames now) (state (framed number head items frames) now before) (space_wanted number head items frames now ALiteral wants)
    ∙ reads rest ∙ number_ends minus z rest (framed number head items frames) now h)

zero_item : IntItem (pos 0)
unfolding digits_of
zero_item number head items frames now wants no_exit =
    plain_item (48 ∷ []) (pos 0) false number head items frames now (ascii 48 [] [] (lit< tt) nothing) wants (λ rest.
    reads_one 48 rest (state (framed number head items frames) now before) (state (framed number head items frames) now (digits false (pos 0)))
    (begins_wanted 48 number head items frames now ALiteral refl wants no_exit))

positive_item : (n : ℕ) → suc n < 2 ^ 127 → IntItem (pos (suc n))
unfolding digits_of
positive_item n h number head items frames now wants no_exit =
    plain_item (digits_onto 64 10 false (suc n) []) (pos (suc n)) false number head items frames now (digits_plain 64 (suc n) [] nothing) wants (λ rest.
    digits_read 64 (suc n) rest false (state (framed number head items frames) now before) (framed number head items frames) now (omega arith) (enough (suc n) (omega arith)) h
    (first_positive number head items frames now wants no_exit) [])

negative_item : (n : ℕ) → n < 2 ^ 127 → IntItem (negsuc n)
unfolding digits_of
negative_item n h number head items frames now wants no_exit =
    let here = framed number head items frames in
    plain_item (45 ∷ digits_onto 64 10 false (suc n) []) (negsuc n) true number head items frames now
    (ascii 45 (digits_onto 64 10 false (suc n) []) (digits_onto 64 10 false (suc n) []) (lit< tt) (digits_plain 64 (suc n) [] nothing)) wants (λ rest.
    reads_one 45 (digits_onto 64 10 false (suc n) [] ++ rest) (state here now before) (state here now negative) (begins_wanted 45 number head items frames now ALiteral refl wants no_exit)
    ∙ digits_read 64 (suc n) rest true (state here now negative) here now (omega arith) (enough (suc n) (omega arith)) (omega arith) (first_negative here now) [])

pub int_item : (z : ℤ) → IsInt z → IntItem z
int_item (pos zero) h = zero_item
int_item (pos (suc n)) h = positive_item n h
int_item (negsuc n) h = negative_item n h

onto_by : (k n : ℕ) (acc : List ℕ) (b : Bool) → ((more : List ℕ) → digits_onto k 10 false (n / 10) more ≡ digits_onto k 10 false (n / 10) [] ++ more)
    → cond b (digit_glyph false (n % 10) ∷ acc) (digits_onto k 10 false (n / 10) (digit_glyph false (n % 10) ∷ acc))
    ≡ cond b (digit_glyph false (n % 10) ∷ []) (digits_onto k 10 false (n / 10) (digit_glyph false (n % 10) ∷ [])) ++ acc
onto_by k n acc true later = refl
onto_by k n acc false later =
    later (digit_glyph false (n % 10) ∷ acc) ∙ sym (append_assoc (digits_onto k 10 false (n / 10) []) (digit_glyph false (n % 10) ∷ []) acc)
    ∙ ap (λ xs. xs ++ acc) (sym (later (digit_glyph false (n % 10) ∷ [])))

fuel_by : (k n : ℕ) (acc : List ℕ) (b : Bool) → eqb (n / 10) 0 ≡ b
    → (eqb (n / 10) 0 ≡ false → digits_onto (suc k) 10 false (n / 10) (digit_glyph false (n % 10) ∷ acc) ≡ digits_onto k 10 false (n / 10) (digit_glyph false (n % 10) ∷ acc))
    → cond b (digit_glyph false (n % 10) ∷ acc) (digits_onto (suc k) 10 false (n / 10) (digit_glyph false (n % 10) ∷ acc))
    ≡ cond b (digit_glyph false (n % 10) ∷ acc) (digits_onto k 10 false (n / 10) (digit_glyph false (n % 10) ∷ acc))
fuel_by k n acc true e later = refl
fuel_by k n acc false e later = later e

more_than : (a q : ℕ) → a ≡ q → 0 < q → 0 < a
more_than a q e h = omega arith

fewer : (n : ℕ) → n ≤ 2 ^ 127 → n < limit 63
fewer n h = let l : 2 ^ 127 < limit 63 = lit< tt in omega arith

digit_above : (c : ℕ) → is_digit c ≡ true → 48 ≤ c
digit_above c e = grind (arith, nat_tests)

digit_below_58 : (c : ℕ) → is_digit c ≡ true → c ≤ 57
digit_below_58 c e = grind (arith, nat_tests)

above_48 : (c : ℕ) → 48 ≤ c → eqb c 48 ≡ false → 48 < c
above_48 c h e = grind (arith, nat_tests)

not_none : (q : ℕ) → eqb q 0 ≡ false → 0 < q
not_none q e = grind (arith, nat_tests)

fits_by : (z y : ℤ) (b : Bool) → cond b (Some z) None ≡ Some y → z ≡ y
fits_by z y true e = same_Some z y e
fits_by z y false e = absurd (cc)

-- the digits of a number, and then these characters
onto_append : (k n : ℕ) (acc : List ℕ) → digits_onto k 10 false n acc ≡ digits_onto k 10 false n [] ++ acc
onto_append zero n acc = refl
onto_append (suc k) n acc = onto_by k n acc (eqb (n / 10) 0) (λ more. onto_append k (n / 10) more)

-- one digit less is enough where the number has fewer
less_fuel : (k n : ℕ) (acc : List ℕ) → 0 < n → n < limit k → digits_onto (suc k) 10 false n acc ≡ digits_onto k 10 false n acc
less_fuel zero n acc some low = absurd (omega arith)
less_fuel (suc k) n acc some low = fuel_by k n acc (eqb (n / 10) 0) refl (λ e. less_fuel k (n / 10) (digit_glyph false (n % 10) ∷ acc) (tens_there n e) (less_digits n (limit k) low))

tens : (q d n : ℕ) → d < 10 → n ≡ q * 10 + d → n / 10 ≡ q
tens q d n h e = omega arith

ones : (q d n : ℕ) → d < 10 → n ≡ q * 10 + d → n % 10 ≡ d
ones q d n h e = omega arith

-- one more digit of a number
digits_more : (q d n : ℕ) → 0 < q → d < 10 → n ≡ q * 10 + d → n ≤ 2 ^ 127 → digits_onto 64 10 false n [] ≡ digits_onto 64 10 false q [] ++ (48 + d) ∷ []
digits_more q d n some low e h =
    ap (λ b. cond b (digit_glyph false (n % 10) ∷ []) (digits_onto 63 10 false (n / 10) (digit_glyph false (n % 10) ∷ []))) (positive (n / 10) (more_than (n / 10) q (tens q d n low e) some))
    ∙ ap (λ x. digits_onto 63 10 false x (digit_glyph false (n % 10) ∷ [])) (tens q d n low e)
    ∙ ap (λ x. digits_onto 63 10 false q (x ∷ [])) (ap (digit_glyph false) (ones q d n low e) ∙ glyph_is d low)
    ∙ onto_append 63 q ((48 + d) ∷ []) ∙ ap (λ xs. xs ++ (48 + d) ∷ []) (sym (less_fuel 63 q [] some (fewer q (omega arith))))

-- each number of one digit
one_text : (d : ℕ) → d < 10 → digits_onto 64 10 false d [] ≡ (48 + d) ∷ []
one_text zero h = refl
one_text (suc d) h = by_digit (λ d. digits_onto 64 10 false d [] ≡ (48 + d) ∷ []) refl refl refl refl refl refl refl refl refl (suc d) (omega arith) h

digit_bounds : (c : ℕ) → is_digit c ≡ true → (48 ≤ c) × (c ≤ 57)
digit_bounds c e = (digit_above c e, digit_below_58 c e)

-- the first digit of a number without a sign
pub first_text : (c : ℕ) → is_digit c ≡ true → encode_utf8 c ≡ signed_decimal (pos (c - 48))
unfolding digits_of
first_text c e =
    let b = digit_bounds c e in
    encode_ascii c (omega arith) ∙ ap (λ x. x ∷ []) (omega arith) ∙ sym (one_text (c - 48) (omega arith))

-- and behind `-`
negative_digit : (c d : ℕ) → c ≡ 48 + suc d → suc d < 10 → 45 ∷ encode_utf8 c ≡ signed_decimal (pos 0 -ℤ pos (suc d))
unfolding digits_of
negative_digit c d e h =
    ap (λ xs. 45 ∷ xs) (encode_ascii c (omega arith) ∙ ap (λ x. x ∷ []) e ∙ sym (one_text (suc d) h)) ∙ ap signed_decimal (sym (one_down d))

pub negative_text : (c : ℕ) → is_digit c ≡ true → eqb c 48 ≡ false → 45 ∷ encode_utf8 c ≡ signed_decimal (pos 0 -ℤ pos (c - 48))
negative_text c e n =
    let b = digit_bounds c e in
    let more : 48 < c = above_48 c b.0 n in
    let same : suc (c - 49) ≡ c - 48 = omega arith in
    negative_digit c (c - 49) (omega arith) (omega arith) ∙ ap (λ d. signed_decimal (pos 0 -ℤ pos d)) same

fits_same : (z y : ℤ) → fits z ≡ Some y → z ≡ y
fits_same z y e = fits_by z y _ e

-- one more digit of an integer
pub added_text : (minus : Bool) (c : ℕ) (z y : ℤ) → IsSigned minus z → IsInt y → is_zero z ≡ false → is_digit c ≡ true → with_digit minus (c - 48) z ≡ Some y
    → (signed_decimal z ++ encode_utf8 c ≡ signed_decimal y) × IsSigned minus y
unfolding digits_of
added_text true c (pos q) y is int some digit e = absurd is
added_text false c (negsuc q) y is int some digit e = absurd is
added_text false c (pos q) y is int some digit e =
    let b = digit_bounds c digit in
    option_and_then_some (λ x. fits (x +ℤ pos (c - 48))) (fits (pos (q * 10))) y e (λ x at made.
    let same : pos (q * 10 + (c - 48)) ≡ y = ap (λ w. w +ℤ pos (c - 48)) (fits_same (pos (q * 10)) x at) ∙ fits_same (x +ℤ pos (c - 48)) y made in
    let small : IsInt (pos (q * 10 + (c - 48))) = subst IsInt (sym same) int in (
      ap (λ xs. digits_onto 64 10 false q [] ++ xs) (encode_ascii c (omega arith) ∙ ap (λ x. x ∷ []) (omega arith))
          ∙ sym (digits_more q (c - 48) (q * 10 + (c - 48)) (not_none q some) (omega arith) refl (omega arith)) ∙ ap signed_decimal same,
      subst (IsSigned false) same tt,
    ))
added_text true c (negsuc q) y is int some digit e =
    let b = digit_bounds c digit in
    option_and_then_some (λ x. fits (x -ℤ pos (c - 48))) (fits (negsuc q *ℤ pos 10)) y e (λ x at made.
    let same : negsuc (q * 10 + 9 + (c - 48)) ≡ y =
    sym (further_down (q * 10 + 9) (c - 48)) ∙ ap (λ w. w -ℤ pos (c - 48)) (sym (ten_times q) ∙ fits_same (negsuc q *ℤ pos 10) x at) ∙ fits_same (x -ℤ pos (c - 48)) y made in
    let small : IsInt (negsuc (q * 10 + 9 + (c - 48))) = subst IsInt (sym same) int in (
      ap (λ xs. (45 ∷ digits_onto 64 10 false (suc q) []) ++ xs) (encode_ascii c (omega arith) ∙ ap (λ x. x ∷ []) (omega arith))
          ∙ ap (λ xs. 45 ∷ xs) (sym (digits_more (suc q) (c - 48) (suc (q * 10 + 9 + (c - 48))) (omega arith) (omega arith) (omega arith) (omega arith))) ∙ ap signed_decimal same,
      subst (IsSigned true) same tt,
    ))
