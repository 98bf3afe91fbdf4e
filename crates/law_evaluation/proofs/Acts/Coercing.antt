-- Primitives by their numbers, and the guards that take null as well, are the machine's.
use Rattle.std.proofs.Common.{◌≡◌, ℕ, ◌-◌, ◌<◌, ◌≤◌, nat_lt, Bool, true, false, List, map, Option, Some, None, refl, sym, ap, ◌∙◌, arith}
use Rattle.std.specs.Prelude.{option_map, slice_get, unwrap_or}
use Rattle.std.proofs.lemmas.Bool.Decides.{nat_tests}
use Rattle.std.proofs.lemmas.Option.{slice_get-map}
use Rattle.ev_base.specs.declared.values.Value.{Value as Held}
use Rattle.ev_base.specs.declared.values.Value.TheVariants as held
use Rattle.ev_heap.specs.Contents.{Contents}
use Rattle.def_machine.specs.Native as native
use Rattle.def_machine.specs.Values.{Words, Local}
use Rattle.ev_prims.specs.Asks.{numbered, primitive_at, primitives, with_null}
use Rattle.ev_prims.specs.Primitives.{guard_in, primitive_in}
use Rattle.ev_prims.specs.Reading.{reply_by, value_by}
use Rattle.ev_prims.specs.declared.primitives.Kind.{Kind}
use Rattle.ev_prims.specs.declared.primitives.Kind.TheVariants as kind
use Rattle.ev_prims.specs.declared.primitives.Primitive.{Primitive}
use Rattle.ev_prims.specs.declared.primitives.Primitive.TheVariants.{Guarding, NoPrimitive}
use Rattle.ev_prims.proofs.PrimitiveLemmas.{primitive_low, primitive_high, low_is, high_is}
use Rattle.ev_room.specs.Coercion.{null_or, null_or_guard, null_or_prim}
use Rattle.law_evaluation.proofs.Acts.Replies.{Fits}

-- ---- numbers

place_is : (n : ℕ) → slice_get native.primitives n ≡ option_map primitive_in (slice_get primitives n)
unfolding native.primitives
place_is n = slice_get-map primitive_in primitives n

numbered_by : (n : ℕ) (o : Option Primitive) → slice_get primitives n ≡ o → native.numbered n ≡ primitive_in (unwrap_or o NoPrimitive)
unfolding native.numbered native.primitives
numbered_by n None e = rw (place_is n, e) refl
numbered_by n (Some p) e = rw (place_is n, e) refl

numbered_is : (n : ℕ) → native.numbered n ≡ primitive_in (numbered n)
unfolding numbered
numbered_is n = numbered_by n (slice_get primitives n) refl

-- each of them by itself
all_with_null : map (λ (p : Primitive). native.with_null (primitive_in p)) primitives ≡ map (λ (p : Primitive). primitive_in (with_null p)) primitives
unfolding native.with_null
all_with_null = refl

with_null_at : (n : ℕ) → option_map (λ (p : Primitive). native.with_null (primitive_in p)) (slice_get primitives n) ≡ option_map (λ (p : Primitive). primitive_in (with_null p)) (slice_get primitives n)
with_null_at n =
    sym (slice_get-map (λ (p : Primitive). native.with_null (primitive_in p)) primitives n)
    ∙ ap (λ (ps : List native.Primitive). slice_get ps n) all_with_null
    ∙ slice_get-map (λ (p : Primitive). primitive_in (with_null p)) primitives n

with_null_by : (o : Option Primitive) → option_map (λ (p : Primitive). native.with_null (primitive_in p)) o ≡ option_map (λ (p : Primitive). primitive_in (with_null p)) o
    → native.with_null (primitive_in (unwrap_or o NoPrimitive)) ≡ primitive_in (with_null (unwrap_or o NoPrimitive))
with_null_by None e = unfold native.with_null in refl
with_null_by (Some p) e = cc

with_null_is : (n : ℕ) → native.with_null (primitive_in (numbered n)) ≡ primitive_in (with_null (numbered n))
unfolding numbered
with_null_is n = with_null_by (slice_get primitives n) (with_null_at n)

primitive_by : (n : ℕ) (b : Bool) → nat_lt n 32 ≡ b → native.primitive n ≡ primitive_in (primitive_at n)
primitive_by n true e =
    let h : n < 32 = grind (arith, nat_tests) in
    primitive_low n h ∙ numbered_is n ∙ ap primitive_in (sym (low_is n h))
primitive_by n false e =
    let h : 32 ≤ n = grind (arith, nat_tests) in
    primitive_high n h ∙ ap native.with_null (numbered_is (n - 32)) ∙ with_null_is (n - 32) ∙ ap primitive_in (sym (high_is n h))

pub primitive_is : (n : ℕ) → native.primitive n ≡ primitive_in (primitive_at n)
primitive_is n = primitive_by n (nat_lt n 32) refl

-- ---- guards that take null as well

module _ (t : ℕ → Words) where
  means_guard : (n : ℕ) (k : Kind) (b : Bool) → reply_by t (null_or_guard n (record { kind = k; or_null = b })) ≡ native.null_or {N = Local} n (native.Guarding (guard_in (record { kind = k; or_null = b })))
  unfolding native.null_or
  means_guard n k true = refl
  means_guard n kind.Null false = refl
  means_guard n other false = refl

  means_prim : (n : ℕ) (p : Primitive) → reply_by t (null_or_prim n p) ≡ native.null_or {N = Local} n (primitive_in p)
  means_prim n (Guarding g) = means_guard n g.kind g.or_null
  means_prim n _ = unfold native.null_or in refl

  -- what the guard is that takes null as well
  pub null_or_means : (x : Held) → reply_by t (null_or x) ≡ native.null_or_reply (value_by t x)
  unfolding null_or native.null_or_reply
  null_or_means (held.Prim n) = means_prim n (primitive_at n) ∙ ap (native.null_or {N = Local} n) (sym (primitive_is n))
  null_or_means _ = refl

module _ (h : Contents) where
  fits_guard : (n : ℕ) (k : Kind) (b : Bool) → Fits h (null_or_guard n (record { kind = k; or_null = b }))
  fits_guard n k true = tt
  fits_guard n kind.Null false = tt
  fits_guard n _ false = refl

  fits_prim : (n : ℕ) (p : Primitive) → Fits h (null_or_prim n p)
  fits_prim n (Guarding g) = fits_guard n g.kind g.or_null
  fits_prim n _ = tt

  -- it stands in any heap
  pub fits_null_or : (x : Held) → Fits h (null_or x)
  unfolding null_or
  fits_null_or (held.Prim n) = fits_prim n (primitive_at n)
  fits_null_or _ = tt
