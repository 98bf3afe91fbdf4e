-- Primitives by their numbers.
use Rattle.std.proofs.Common.{◌≡◌, ℕ, Bool, ◌-◌, ◌<◌, ◌≤◌, true, false, Some, None, ap}
use Rattle.std.specs.Prelude.{if◌then◌else◌, unwrap_or}
use Rattle.std.specs.declared.option.Option.{Option}
use Rattle.std.proofs.lemmas.Option.{slice_get_past}
use Rattle.std.proofs.lemmas.Bool.{lt-ltb, le-ltb}
use Rattle.ev_prims.specs.declared.primitives.Primitive.{Primitive as Ours}
use Rattle.ev_prims.specs.declared.primitives.Primitive.TheVariants as ours
use Rattle.ev_prims.specs.Asks as asks
use Rattle.def_machine.specs.Native.{NoPrimitive, primitives, numbered, with_null, primitive}

-- ---- numbers

pub numbered_past : (n : ℕ) → 20 ≤ n → numbered n ≡ NoPrimitive
unfolding numbered primitives
numbered_past n h = ap (λ o. elim o [ Some p ↦ p | None ↦ NoPrimitive ]) (slice_get_past primitives n h)

pub primitive_low : (n : ℕ) → n < 32 → primitive n ≡ numbered n
unfolding primitive
primitive_low n h = ap (λ b. elim b [ true ↦ numbered n | false ↦ with_null (numbered (n - 32)) ]) (lt-ltb n 32 h)

pub primitive_high : (n : ℕ) → 32 ≤ n → primitive n ≡ with_null (numbered (n - 32))
unfolding primitive
primitive_high n h = ap (λ b. elim b [ true ↦ numbered n | false ↦ with_null (numbered (n - 32)) ]) (le-ltb n 32 h)

-- ---- the same in the terms of the code

pub none_past : (n : ℕ) → 20 ≤ n → asks.numbered n ≡ ours.NoPrimitive
unfolding asks.numbered
none_past n h = ap (λ (o : Option Ours). unwrap_or o ours.NoPrimitive) (slice_get_past asks.primitives n h)

pub low_is : (n : ℕ) → n < 32 → asks.primitive_at n ≡ asks.numbered n
unfolding asks.primitive_at
low_is n h = ap (λ (b : Bool). if b then asks.numbered n else asks.with_null (asks.numbered (n - 32))) (lt-ltb n 32 h)

pub high_is : (n : ℕ) → 32 ≤ n → asks.primitive_at n ≡ asks.with_null (asks.numbered (n - 32))
unfolding asks.primitive_at
high_is n h = ap (λ (b : Bool). if b then asks.numbered n else asks.with_null (asks.numbered (n - 32))) (le-ltb n 32 h)
