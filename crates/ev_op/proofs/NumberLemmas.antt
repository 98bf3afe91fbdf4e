-- On numbers in digits: what is read is spelled so, and what is spelled so is read.
use Rattle.std.proofs.Common.{◌≡◌, ℕ, zero, suc, ◌+◌, ◌-◌, ◌*◌, ◌/◌, ◌%◌, ◌^◌, ◌<◌, ◌≤◌, ◌⊎◌, inl, inr, ⊎_elim, Bool, true, false, cond, ltb, leb, List, [], ◌∷◌, ◌++◌, get_or, Option, Some, None, refl, sym, ap, subst, ◌∙◌, append_assoc, arith}
use Rattle.std.specs.Prelude.{ℤ, pos, negsuc}
use Rattle.std.proofs.lemmas.Bool.{ltb-false, ltb-true, le-ltb, lt-ltb, leb-true, leb-false, le-leb, lt-leb, cases_lt}
use Rattle.def_op.specs.Numbers.{bound, digit, digits, unsigned, signed, low_first, byte_bound}
use Rattle.def_op.specs.Reading.{◌>>=◌, Digits, last_digit, lower_digit, in_last_place, digits_at, unsigned_at, signed_at, with_sign, low_first_at}

pub bound_least : (k : ℕ) → 2 ≤ bound k
bound_least zero = omega arith
bound_least (suc k) = omega (arith, bound_least k)

pub bound_large : (k : ℕ) → 0 < k → 256 ≤ bound k
bound_large zero h = absurd (omega arith)
bound_large (suc k) h = omega (arith, bound_least k)

-- ---- on options

pub bind_some : {A B : Type 0} (o : Option A) (f : A → Option B) (y : B) → (o >>= f) ≡ Some y → (x : A) × (o ≡ Some x) × (f x ≡ Some y)
bind_some (Some x) f y e = (x, refl, e)
bind_some None f y e = absurd cc

pub then_some : {A : Type 0} (b : Bool) (x y : A) → cond b (Some x) None ≡ Some y → (b ≡ true) × (x ≡ y)
then_some true x y e = (refl, cc)
then_some false x y e = absurd cc

pub else_some : {A : Type 0} (b : Bool) (x y : A) → cond b None (Some x) ≡ Some y → (b ≡ false) × (x ≡ y)
else_some true x y e = absurd cc
else_some false x y e = (refl, cc)

-- which way a test went
pub chosen : {A : Type 0} (b : Bool) (x y z : A) → cond b x y ≡ z → ((b ≡ true) × (x ≡ z)) ⊎ ((b ≡ false) × (y ≡ z))
chosen true x y z e = inl (refl, e)
chosen false x y z e = inr (refl, e)

pub some_is : {A : Type 0} (x y : A) → Some x ≡ Some y → x ≡ y
some_is x y e = cc

pub none_is : {A : Type 0} (x : A) → None ≡ Some x → ⊥
none_is x e = cc

-- ---- bytes

abbrev pub IsBytes : List ℕ → Type 0
IsBytes bytes = (i : ℕ) → get_or bytes i 0 < 256

pub IsBytes-rest : (b : ℕ) (bytes : List ℕ) → IsBytes (b ∷ bytes) → IsBytes bytes
IsBytes-rest b bytes h i = h (suc i)

-- what a reader took from the front
pub record Takes (bytes text rest : List ℕ) : Type 0 where
  pub parts : bytes ≡ text ++ rest
  pub fits : IsBytes rest

pub Takes-then : (a x b y c : List ℕ) → Takes a x b → Takes b y c → Takes a (x ++ y) c
Takes-then a x b y c p q = record { parts = p.parts ∙ ap (λ (t : List ℕ). x ++ t) q.parts ∙ sym (append_assoc x y c); fits = q.fits }

pub Takes-cons : (h : ℕ) (a x b : List ℕ) → Takes a x b → Takes (h ∷ a) (h ∷ x) b
Takes-cons h a x b p = record { parts = ap (λ (t : List ℕ). h ∷ t) p.parts; fits = p.fits }

-- ---- digits

digit_back : (negative : Bool) (d : ℕ) → d < 128 → digit negative (digit negative d) ≡ d
digit_back true d h = omega arith
digit_back false d h = refl

digit_small : (negative : Bool) (d : ℕ) → d < 128 → digit negative d < 128
digit_small true d h = omega arith
digit_small false d h = h

-- a byte below 128 as a last digit
last_small : (last b : ℕ) → 64 ≤ last → b < 128 → digit (leb last b) b < last
last_small last b low h = by (leb last b) refl
  where
    by : (c : Bool) → leb last b ≡ c → digit c b < last
    by true e = omega (arith, leb-true last b e)
    by false e = omega (arith, leb-false last b e)

parts_of : (m d : ℕ) → d < 128 → ((128 * m + d) / 128 ≡ m) × ((128 * m + d) % 128 ≡ d)
parts_of m d h = (omega arith, omega arith)

one_digit : (last : ℕ) (negative : Bool) (k n : ℕ) → n < last → n < bound k → digits last negative k n ≡ digit negative n ∷ []
unfolding digits
one_digit last negative zero n lt fits = refl
one_digit last negative (suc k) n lt fits = rw (lt-ltb n last lt) refl

more_digits : (last : ℕ) (negative : Bool) (k n : ℕ) → last ≤ n → digits last negative (suc k) n ≡ (128 + digit negative (n % 128)) ∷ digits last negative k (n / 128)
unfolding digits
more_digits last negative k n le = rw (le-ltb n last le) refl

-- a number that was read
abbrev pub made : Bool → ℕ → List ℕ → Digits
made negative number rest = record { negative = negative; number = number; rest = rest }

pub record IsRead (last k : ℕ) (bytes : List ℕ) (d : Digits) : Type 0 where
  pub takes : Takes bytes (digits last d.negative k d.number) d.rest
  pub below : d.number < bound k
  pub sign : d.negative ≡ true → last < 128

one_read : (last k b : ℕ) (rest : List ℕ) (d : Digits) → 64 ≤ last → IsBytes (b ∷ rest) → b < 128 → digit (leb last b) b < bound k → last_digit last b rest ≡ d → IsRead last k (b ∷ rest) d
one_read last k b rest d low fits small below e = subst (IsRead last k (b ∷ rest)) e (record {
  takes = record { parts = ap (λ (t : List ℕ). t ++ rest) (sym (one_digit last (leb last b) k (digit (leb last b) b) (last_small last b low small) below ∙ ap (λ (x : ℕ). x ∷ []) (digit_back (leb last b) b small))); fits = IsBytes-rest b rest fits };
  below = below;
  sign = λ h. omega (arith, leb-true last b h);
})

more_read : (last k b : ℕ) (rest : List ℕ) (h d : Digits) → IsBytes (b ∷ rest) → 128 ≤ b → IsRead last k rest h → lower_digit last b h ≡ Some d → IsRead last (suc k) (b ∷ rest) d
more_read last k b rest h d fits large found e =
    let byte : b < 256 = fits 0 in
    let low : b - 128 < 128 = omega arith in
    let x = digit h.negative (b - 128) in
    let small : x < 128 = digit_small h.negative (b - 128) low in
    let n = 128 * h.number + x in
    let g = then_some (leb last n) (record h { number = n }) d e in
    let p = parts_of h.number x small in
    let back : 128 + digit h.negative x ≡ b = rw (digit_back h.negative (b - 128) low) (omega arith) in
    let spelled : digits last h.negative (suc k) n ≡ b ∷ digits last h.negative k h.number =
    more_digits last h.negative k n (leb-true last n g.0) ∙ rw (p.0, p.1, back) refl in
    subst (IsRead last (suc k) (b ∷ rest)) g.1 (record {
      takes = record { parts = ap (λ (t : List ℕ). b ∷ t) found.takes.parts ∙ ap (λ (t : List ℕ). t ++ h.rest) (sym spelled); fits = found.takes.fits };
      below = omega (arith, found.below, small);
      sign = found.sign;
    })

pub digits_take : (last k : ℕ) (bytes : List ℕ) (d : Digits) → 64 ≤ last → IsBytes bytes → digits_at last k bytes ≡ Some d → IsRead last k bytes d
unfolding digits_at
digits_take last zero [] d low fits e = absurd cc
digits_take last (suc k) [] d low fits e = absurd cc
digits_take last zero (b ∷ rest) d low fits e =
    let c = last_digit last b rest in
    ⊎_elim
    (λ p. let g = then_some (ltb c.number 2) c d p.1 in one_read last zero b rest d low fits (ltb-true b 128 p.0) (ltb-true c.number 2 g.0) g.1)
    (λ p. absurd (none_is d p.1))
    (chosen (ltb b 128) (in_last_place c) None (Some d) e)
digits_take last (suc k) (b ∷ rest) d low fits e =
    let c = last_digit last b rest in
    ⊎_elim
    (λ p. let small = ltb-true b 128 p.0 in one_read last (suc k) b rest d low fits small (omega (arith, digit_small (leb last b) b small, bound_least k)) (some_is c d p.1))
    (λ p. let q = bind_some (digits_at last k rest) (lower_digit last b) d p.1 in
    more_read last k b rest q.0 d fits (ltb-false b 128 p.0) (digits_take last k rest q.0 low (IsBytes-rest b rest fits) q.1) q.2)
    (chosen (ltb b 128) (Some c) (digits_at last k rest >>= lower_digit last b) (Some d) e)

-- the last digit tells the sign
abbrev pub HasSign : ℕ → Bool → Type 0
HasSign last true = last ≡ 64
HasSign last false = (64 ≤ last) × (last ≤ 128)

low_of : (last : ℕ) (negative : Bool) → HasSign last negative → (64 ≤ last) × (last ≤ 128)
low_of last true h = (omega arith, omega arith)
low_of last false h = h

tells : (last : ℕ) (negative : Bool) (n : ℕ) → HasSign last negative → n < last → leb last (digit negative n) ≡ negative
tells last true n h lt = le-leb last (127 - n) (omega arith)
tells last false n h lt = lt-leb last n lt

last_again : (last : ℕ) (negative : Bool) (n : ℕ) (rest : List ℕ) → HasSign last negative → n < last → last_digit last (digit negative n) rest ≡ made negative n rest
last_again last negative n rest h lt =
    let small : n < 128 = omega (arith, low_of last negative h) in
    rw (tells last negative n h lt, digit_back negative n small) refl

lower_again : (last : ℕ) (negative : Bool) (n : ℕ) (rest : List ℕ) → last ≤ n → lower_digit last (128 + digit negative (n % 128)) (made negative (n / 128) rest) ≡ Some (made negative n rest)
lower_again last negative n rest le =
    let low : n % 128 < 128 = omega arith in
    let back : digit negative ((128 + digit negative (n % 128)) - 128) ≡ n % 128 =
    let e : (128 + digit negative (n % 128)) - 128 ≡ digit negative (n % 128) = omega arith in
    ap (digit negative) e ∙ digit_back negative (n % 128) low in
    let sum : 128 * (n / 128) + digit negative ((128 + digit negative (n % 128)) - 128) ≡ n = rw back (omega arith) in
    rw (sum, le-leb last n le) refl

place_again : (last : ℕ) (negative : Bool) (n : ℕ) (rest : List ℕ) → HasSign last negative → n < last → n < 2 → in_last_place (last_digit last (digit negative n) rest) ≡ Some (made negative n rest)
place_again last negative n rest h lt fits = ap in_last_place (last_again last negative n rest h lt) ∙ rw (lt-ltb n 2 fits) refl

pub digits_again : (last : ℕ) (negative : Bool) (k n : ℕ) (rest : List ℕ) → HasSign last negative → n < bound k
    → digits_at last k (digits last negative k n ++ rest) ≡ Some (made negative n rest)
unfolding digits_at
digits_again last negative zero n rest h fits =
    let lows = low_of last negative h in
    let lt : n < last = omega (arith, lows) in
    let small : digit negative n < 128 = digit_small negative n (omega arith) in
    ap (λ (t : List ℕ). digits_at last zero (t ++ rest)) (one_digit last negative zero n lt fits)
    ∙ rw (lt-ltb (digit negative n) 128 small) (place_again last negative n rest h lt fits)
digits_again last negative (suc k) n rest h fits =
    ⊎_elim
    (λ (lt : n < last).
    let small : digit negative n < 128 = digit_small negative n (omega (arith, low_of last negative h)) in
    ap (λ (t : List ℕ). digits_at last (suc k) (t ++ rest)) (one_digit last negative (suc k) n lt fits)
    ∙ rw (lt-ltb (digit negative n) 128 small, last_again last negative n rest h lt) refl)
    (λ (le : last ≤ n).
    let high : n / 128 < bound k = omega arith in
    let large : 128 ≤ 128 + digit negative (n % 128) = omega arith in
    ap (λ (t : List ℕ). digits_at last (suc k) (t ++ rest)) (more_digits last negative k n le)
    ∙ rw (le-ltb (128 + digit negative (n % 128)) 128 large, digits_again last negative k (n / 128) rest h high) (lower_again last negative n rest le))
    (cases_lt n last)

-- ---- numbers

not_turned : (negative : Bool) → (negative ≡ true → 128 < 128) → negative ≡ false
not_turned true h = absurd (let e = h refl in omega arith)
not_turned false h = refl

pub unsigned_takes : (bytes : List ℕ) (x : ℕ × List ℕ) → IsBytes bytes → unsigned_at bytes ≡ Some x → Takes bytes (unsigned x.0) x.1 × (x.0 < 2 ^ 64)
unsigned_takes bytes x fits e =
    let q = bind_some (digits_at 128 9 bytes) (λ d. Some (d.number, d.rest)) x e in
    let d = q.0 in
    let found = digits_take 128 9 bytes d (omega arith) fits q.1 in
    let plain = not_turned d.negative found.sign in
    subst (λ (y : ℕ × List ℕ). Takes bytes (unsigned y.0) y.1 × (y.0 < 2 ^ 64)) (some_is (d.number, d.rest) x q.2)
    (subst (λ (c : Bool). Takes bytes (digits 128 c 9 d.number) d.rest) plain found.takes, found.below)

pub unsigned_again : (n : ℕ) (rest : List ℕ) → n < 2 ^ 64 → unsigned_at (unsigned n ++ rest) ≡ Some (n, rest)
unsigned_again n rest lt = ap (λ (o : Option Digits). o >>= λ d. Some (d.number, d.rest)) (digits_again 128 false 9 n rest (omega arith, omega arith) lt)

-- a number of 128 bits with a sign
abbrev pub IsSigned : ℤ → Type 0
IsSigned (pos n) = n < 2 ^ 127
IsSigned (negsuc n) = n < 2 ^ 127

signed_made : (negative : Bool) (n : ℕ) (bytes rest : List ℕ) → Takes bytes (digits 64 negative 18 n) rest → n < 2 ^ 127
    → Takes bytes (signed (with_sign negative n)) rest × IsSigned (with_sign negative n)
signed_made true n bytes rest t lt = (t, lt)
signed_made false n bytes rest t lt = (t, lt)

pub signed_takes : (bytes : List ℕ) (x : ℤ × List ℕ) → IsBytes bytes → signed_at bytes ≡ Some x → Takes bytes (signed x.0) x.1 × IsSigned x.0
signed_takes bytes x fits e =
    let q = bind_some (digits_at 64 18 bytes) (λ d. Some (with_sign d.negative d.number, d.rest)) x e in
    let d = q.0 in
    let found = digits_take 64 18 bytes d (omega arith) fits q.1 in
    subst (λ (y : ℤ × List ℕ). Takes bytes (signed y.0) y.1 × IsSigned y.0) (some_is (with_sign d.negative d.number, d.rest) x q.2)
    (signed_made d.negative d.number bytes d.rest found.takes found.below)

pub signed_again : (z : ℤ) (rest : List ℕ) → IsSigned z → signed_at (signed z ++ rest) ≡ Some (z, rest)
signed_again (pos n) rest lt = ap (λ (o : Option Digits). o >>= λ d. Some (with_sign d.negative d.number, d.rest)) (digits_again 64 false 18 n rest (omega arith, omega arith) lt)
signed_again (negsuc n) rest lt = ap (λ (o : Option Digits). o >>= λ d. Some (with_sign d.negative d.number, d.rest)) (digits_again 64 true 18 n rest refl lt)

pub low_first_takes : (k : ℕ) (bytes : List ℕ) (x : ℕ × List ℕ) → IsBytes bytes → low_first_at k bytes ≡ Some x → Takes bytes (low_first k x.0) x.1 × (x.0 < byte_bound k)
unfolding low_first_at low_first
low_first_takes zero bytes x fits e =
    subst (λ (y : ℕ × List ℕ). Takes bytes (low_first zero y.0) y.1 × (y.0 < 1)) (some_is (0, bytes) x e) (record { parts = refl; fits = fits }, omega arith)
low_first_takes (suc k) [] x fits e = absurd cc
low_first_takes (suc k) (b ∷ rest) x fits e =
    let q = bind_some (low_first_at k rest) (λ high. Some (b + 256 * high.0, high.1)) x e in
    let m = q.0.0 in
    let byte : b < 256 = fits 0 in
    let t = low_first_takes k rest q.0 (IsBytes-rest b rest fits) q.1 in
    let n = b + 256 * m in
    let low : n % 256 ≡ b = omega arith in
    let high : n / 256 ≡ m = omega arith in
    let spelled : low_first (suc k) n ≡ b ∷ low_first k m = rw (low, high) refl in
    subst (λ (y : ℕ × List ℕ). Takes (b ∷ rest) (low_first (suc k) y.0) y.1 × (y.0 < 256 * byte_bound k)) (some_is (n, q.0.1) x q.2)
    (subst (λ (t : List ℕ). Takes (b ∷ rest) t q.0.1) (sym spelled) (Takes-cons b rest (low_first k m) q.0.1 t.0), omega (arith, t.1))

pub low_first_again : (k n : ℕ) (rest : List ℕ) → n < byte_bound k → low_first_at k (low_first k n ++ rest) ≡ Some (n, rest)
unfolding low_first_at low_first
low_first_again zero n rest lt = let e : 0 ≡ n = omega arith in ap (λ (m : ℕ). Some (m, rest)) e
low_first_again (suc k) n rest lt =
    let high : n / 256 < byte_bound k = omega arith in
    let sum : n % 256 + 256 * (n / 256) ≡ n = omega arith in
    rw (low_first_again k (n / 256) rest high, sum) refl
