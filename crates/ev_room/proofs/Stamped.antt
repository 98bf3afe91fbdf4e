-- Stamps of what a heap holds, and the verdicts of primitives.
use Rattle.std.proofs.Common.{◌≡◌, ℕ, ◌≤◌, Bool, true, false, [], length, Option, Some, None, Ok, Err, refl, sym, ◌∙◌}
use Rattle.std.specs.Prelude.{IfSome, is_some, if◌then◌else◌, slice_get, option_map, unwrap_or}
use Rattle.std.proofs.lemmas.Option.{slice_get_past}
use Rattle.ev_base.specs.declared.values.Value.{Value}
use Rattle.ev_base.specs.declared.values.Value.TheVariants as held
use Rattle.ev_heap.specs.Contents.{Contents}
use Rattle.ev_heap.specs.declared.kept.AuditView.{AuditView}
use Rattle.ev_heap.specs.declared.kept.Thing.{Thing}
use Rattle.def_machine.specs.Native.{primitive}
use Rattle.def_machine.specs.Scopes.{is_auditor, approves}
use Rattle.ev_audit.specs.Frozen.{stamps_at}
use Rattle.ev_audit.specs.Stamps.{bears, stamps_in}
use Rattle.ev_audit.specs.Views.{view_of}
use Rattle.ev_room.specs.declared.exit.Exit.TheVariants.{Thrown}
use Rattle.ev_room.specs.Acts.{prim_verdict}
use Rattle.ev_room.specs.Sound.{not_an_auditor_id}

thing_stamped : (a : Value) (o : Option Thing) (b : Bool) → option_map (λ thing. bears a (stamps_in thing.shape)) o ≡ Some b → b ≡ bears a (unwrap_or (option_map (λ thing. stamps_in thing.shape) o) [])
thing_stamped a None b e = absurd (cc)
thing_stamped a (Some t) b e = let is : bears a (stamps_in t.shape) ≡ b = cc in sym is

pub stamped : (h : Contents) (a : Value) (i : ℕ) (b : Bool) → option_map (λ thing. bears a (stamps_in thing.shape)) (slice_get h.things i) ≡ Some b → b ≡ bears a (stamps_at h i)
stamped h a i b e = thing_stamped a (slice_get h.things i) b e

pub no_stamps : (h : Contents) (a : Value) (i : ℕ) → length h.things ≤ i → false ≡ bears a (stamps_at h i)
unfolding bears
no_stamps h a i e = rw (slice_get_past h.things i e) refl

judged_so : (n : ℕ) (view : AuditView) (b c : Bool) → true ≡ c → b ≡ approves (primitive n) (view_of view).free
    → Ok (held.Bool b) ≡ (if c then Ok (held.Bool (approves (primitive n) (view_of view).free)) else Err (Thrown not_an_auditor_id))
judged_so n view b true e f = rw f refl
judged_so n view b false e f = absurd (cc)

pub judged : (n : ℕ) (view : AuditView) (o : Option Bool) (b : Bool) → o ≡ Some b → is_some o ≡ is_auditor (primitive n) → IfSome o (λ x. x ≡ approves (primitive n) (view_of view).free)
    → Ok (held.Bool b) ≡ prim_verdict n view
unfolding prim_verdict
judged n view None b e f g = absurd (cc)
judged n view (Some c) b e f g = let is : c ≡ b = cc in judged_so n view b (is_auditor (primitive n)) f (sym is ∙ g)

not_judged_so : (n : ℕ) (view : AuditView) (c : Bool) → false ≡ c
    → Err (Thrown not_an_auditor_id) ≡ (if c then Ok (held.Bool (approves (primitive n) (view_of view).free)) else Err (Thrown not_an_auditor_id))
not_judged_so n view true e = absurd (cc)
not_judged_so n view false e = refl

pub not_judged : (n : ℕ) (view : AuditView) (o : Option Bool) → o ≡ None → is_some o ≡ is_auditor (primitive n) → Err (Thrown not_an_auditor_id) ≡ prim_verdict n view
unfolding prim_verdict
not_judged n view (Some c) e f = absurd (cc)
not_judged n view None e f = not_judged_so n view (is_auditor (primitive n)) f
