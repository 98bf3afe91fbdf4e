-- How numbers stand in a frame: LEB128 in its shortest spelling, and bytes with the lowest first.
use Rattle.std.specs.Prelude.{ℕ, zero, suc, ◌+◌, ◌-◌, ◌*◌, ◌/◌, ◌%◌, Bool, true, false, ◌&&◌, ◌||◌, nat_lt, nat_le, ◌==◌, if◌then◌else◌, List, [], ◌∷◌, ℤ, pos, negsuc}

-- what a number of at most k + 1 digits to the base 128 is below, where the last digit is below 2:
-- 2 ^ 64 for k = 9, and 2 ^ 127 for k = 18
abbrev pub bound : ℕ → ℕ
bound zero = 2
bound (suc k) = 128 * bound k

-- a digit of a negative number stands as 127 less the digit
abbrev pub digit : Bool → ℕ → ℕ
digit negative d = if negative then 127 - d else d

-- The digits, lowest first, each but the last with 128 added. The last is the first rest below `last`.
unfoldable pub digits : ℕ → Bool → ℕ → ℕ → List ℕ
digits last negative zero n = digit negative n ∷ []
digits last negative (suc k) n =
    if nat_lt n last then digit negative n ∷ []
    else (128 + digit negative (n % 128)) ∷ digits last negative k (n / 128)

-- a number below 2 ^ 64
abbrev pub unsigned : ℕ → List ℕ
unsigned n = digits 128 false 9 n

-- a number of 128 bits with a sign: -1 less n is spelled by the digits of n, each turned round
abbrev pub signed : ℤ → List ℕ
signed (pos n) = digits 64 false 18 n
signed (negsuc n) = digits 64 true 18 n

-- so many bytes, the lowest first
unfoldable pub low_first : ℕ → ℕ → List ℕ
low_first zero n = []
low_first (suc k) n = (n % 256) ∷ low_first k (n / 256)

-- what so many bytes are below
abbrev pub byte_bound : ℕ → ℕ
byte_bound zero = 1
byte_bound (suc k) = 256 * byte_bound k

-- a drawn number, of 16 bytes
abbrev pub swiss : ℕ → List ℕ
swiss n = low_first 16 n

-- the numbers of the primitives: 20 of the safe scope, and those of a guard that takes null too
abbrev pub is_primitive : ℕ → Bool
is_primitive n = nat_lt n 20 || (nat_le 40 n && nat_lt n 47) || (n == 48) || (n == 49)
