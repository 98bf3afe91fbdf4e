-- The lesser of two numbers, where there are any.
use Rattle.std.specs.Prelude.{ℕ, nat_lt, if◌then◌else◌, Option, Some, None}

abbrev pub earlier : Option ℕ → Option ℕ → Option ℕ
earlier None o = o
earlier (Some x) None = Some x
earlier (Some x) (Some y) = if nat_lt x y then Some x else Some y
