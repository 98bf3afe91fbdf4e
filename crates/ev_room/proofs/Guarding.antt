-- Guards that take null as well, and objects that are frozen.
use Rattle.std.proofs.Common.{◌≡◌, ◌≤◌, ◌-◌, ℕ, false, length, refl, sym}
use Rattle.std.proofs.lemmas.Option.{slice_get_past}
use Rattle.ev_audit.specs.Frozen.{is_frozen}
use Rattle.ev_audit.specs.Stamps.{bears}
use Rattle.ev_base.specs.declared.values.Value.TheVariants as held
use Rattle.ev_heap.specs.Contents.{Contents}
use Rattle.ev_prims.specs.Asks.{kind_or_null, numbered, primitive_at, with_null}
use Rattle.ev_prims.specs.declared.primitives.Kind.{Kind}
use Rattle.ev_prims.specs.declared.primitives.Kind.TheVariants as kind
use Rattle.ev_prims.specs.declared.primitives.Primitive.{Primitive}
use Rattle.ev_prims.specs.declared.primitives.Primitive.TheVariants.{Guarding}
use Rattle.ev_prims.specs.declared.problem.Problem.TheVariants.{BadArgument}
use Rattle.ev_prims.specs.declared.reply.Reply.TheVariants.{Fails}
use Rattle.ev_prims.proofs.PrimitiveLemmas.{high_is}
use Rattle.ev_room.specs.Coercion.{null_or_prim}

-- ---- objects that the heap does not hold

pub past_is_not_frozen : (h : Contents) (i : ℕ) → length h.things ≤ i → is_frozen h (held.Obj i) ≡ false
unfolding bears
past_is_not_frozen h i e = rw (slice_get_past h.things i e) refl

null_or_both : (n : ℕ) (p : Primitive) → null_or_prim n (with_null p) ≡ Fails BadArgument
null_or_both n (Guarding g) = both_of g.kind
  where
    both_of : (k : Kind) → null_or_prim n (kind_or_null k) ≡ Fails BadArgument
    both_of kind.Null = refl
    both_of kind.Any = refl
    both_of kind.Void = refl
    both_of kind.Int = refl
    both_of kind.Boolean = refl
    both_of kind.Char = refl
    both_of kind.Text = refl
    both_of kind.List = refl
    both_of kind.Near = refl
    both_of kind.Frozen = refl
null_or_both n _ = refl

pub null_or_high : (n : ℕ) → 32 ≤ n → Fails BadArgument ≡ null_or_prim n (primitive_at n)
null_or_high n h = rw (high_is n h) (sym (null_or_both n (numbered (n - 32))))
