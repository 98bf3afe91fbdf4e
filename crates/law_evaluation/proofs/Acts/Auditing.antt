-- Auditions over the state of the code stand for the machine's: making one, and what one tells of a name.
use Rattle.std.proofs.Common.{◌≡◌, ℕ, true, List, [], ◌∷◌, ◌++◌, Option, Some, None, refl, ap, ◌∙◌}
use Rattle.std.specs.Prelude.{nat_lt, length, option_map, codes}
use Rattle.std.proofs.lemmas.List.{map-append, length-map}
use Rattle.ev_base.specs.declared.values.Value.{Value as Held}
use Rattle.ev_base.specs.declared.values.Value.TheVariants as held
use Rattle.ev_heap.specs.Contents.{Contents}
use Rattle.ev_heap.specs.declared.happened.Happened.TheVariants as event
use Rattle.ev_heap.specs.declared.kept.AuditView.{AuditView}
use Rattle.ev_heap.specs.declared.kept.Bound.{Bound}
use Rattle.ev_heap.specs.declared.kept.Bound.TheVariants as bound
use Rattle.ev_heap.specs.declared.kept.FreeName.{FreeName as Known}
use Rattle.ev_heap.specs.declared.kept.GuardKind.TheVariants.{Native, User}
use Rattle.ev_heap.specs.declared.kept.Shape.TheVariants as shape
use Rattle.def_kernel.specs.declared.node.Node.{Node}
use Rattle.def_machine.specs.Native as native
use Rattle.def_machine.specs.Perform as perform
use Rattle.def_machine.specs.Scopes as scopes
use Rattle.def_machine.specs.State.{Audition, AuditionMade}
use Rattle.def_machine.specs.State as machine
use Rattle.def_machine.specs.Values.{Words, Local, Obj}
use Rattle.ev_audit.specs.Views.{bound_at, bound_told, free_names, told_at, told_by, told_of}
use Rattle.ev_audit.specs.Views.{view_of as seen_of}
use Rattle.ev_audit.proofs.Told.{guard_found}
use Rattle.ev_prims.specs.Reading.{text_in}
use Rattle.ev_prims.specs.declared.problem.Problem.TheVariants.{BadArgument}
use Rattle.ev_pass.specs.declared.interior.Interior.{Interior as Room}
use Rattle.ev_room.specs.Reading.{World, names, text_of, value_of, thing_of, line_of, vat_of}
use Rattle.ev_room.specs.Sound.{IsSound, is_there, not_free_id}
use Rattle.ev_room.specs.Acts.{◌>>=◌, ◌>>◌, answer, fail, fails, give, keep_audition, new_audition, guard_asked, told_as}
use Rattle.law_evaluation.proofs.Acts.Sounds.{audition_sound, things_grown}
use Rattle.law_evaluation.proofs.Acts.Stands.{Met, vat, a_value, itself, met_by, then_met, give_met, throw_met, tell_met, fails_met, known_there}
use Rattle.law_evaluation.proofs.Acts.Weights.{IsFront, same_text}

-- ---- making one

keep_audition_met : (w : World) (view : AuditView) (s : Room) → IsSound s → Met w itself s (keep_audition view s) (machine.new_thing (Audition true (seen_of view)) (vat w s))
unfolding keep_audition machine.new_thing vat_of
keep_audition_met w view s sound = record {
  grown = things_grown s sound (s.heap.things ++ record { shape = shape.Audition view; alive = true } ∷ []);
  stays = refl;
  keeps = (audition_sound s sound view, tt);
  is = λ f. rw (length-map s.heap.things (thing_of w), map-append (thing_of w) s.heap.things (record { shape = shape.Audition view; alive = true } ∷ [])) refl;
}

audition_line : (w : World) (act j : ℕ) → line_of w (event.Audition act (held.Obj j)) ≡ AuditionMade act (Obj j) ∷ []
unfolding line_of
audition_line w act j = refl

pub new_audition_met : (w : World) (act : ℕ) (view : AuditView) (s : Room) → IsSound s
    → Met w itself s (new_audition act view s) (machine.and_then (machine.new_thing (Audition true (seen_of view)) (vat w s)) (λ j t. machine.and_then (machine.tell (AuditionMade act (Obj j)) t) (λ u. machine.give j)))
unfolding new_audition ◌>>=◌ ◌>>◌
new_audition_met w act view s sound =
    then_met _ _ (keep_audition_met w view s sound)
    (λ j t q i g. then_met _ _ (tell_met w (event.Audition act (held.Obj j)) (AuditionMade act (Obj j)) t q (audition_line w act j)) (λ u r p l e. give_met w itself j r p tt))

-- ---- the guard of a name

told_is : (w : World) (o : Option Bound) → told_of o ≡ told_by (text_of w) (option_map bound_told o)
unfolding scopes.guard_told scopes.any_guard
told_is w None = refl
told_is w (Some bound.Safe) = refl
told_is w (Some (bound.Final (Native n))) = refl
told_is w other = refl

told_there : (h : Contents) (b : Bound) → is_there h (bound_told b) ≡ true
told_there h bound.Safe = refl
told_there h (bound.Final (Native n)) = refl
told_there h other = refl

bound_told_met : (w : World) (tree : List Node) (their : scopes.Caller Local) (act : ℕ) (o : Option Bound) (s : Room) → IsSound s
    → Met w a_value s (answer (told_as (option_map bound_told o)) s) (perform.reply (names w) tree their act (told_by (text_of w) (option_map bound_told o)) (vat w s))
unfolding answer perform.reply
bound_told_met w tree their act None s sound = unfold fail in throw_met w a_value not_free_id s sound (known_there s sound not_free_id refl)
bound_told_met w tree their act (Some b) s sound = unfold give in give_met w a_value (bound_told b) s sound (told_there s.heap b)

guard_is : (w : World) (fs : List Known) (x : Words) → scopes.guard_at (free_names fs) x ≡ told_by (text_of w) (told_at fs x)
guard_is w fs x = guard_found fs x ∙ told_is w (bound_at fs x)

text_asked_by : (w : World) (tree : List Node) (their : scopes.Caller Local) (act : ℕ) (view : AuditView) (id : ℕ) (s : Room) → nat_lt id (length s.heap.texts) ≡ true → IsFront w s.heap
    → perform.reply (names w) tree their act (scopes.guard_asked (seen_of view).free (value_of w (held.Text id))) (vat w s)
    ≡ perform.reply (names w) tree their act (told_by (text_of w) (told_at view.names (text_in s.heap id))) (vat w s)
unfolding scopes.guard_asked
text_asked_by w tree their act view id s t f =
    ap (λ (u : Words). perform.reply (names w) tree their act (scopes.guard_at (free_names view.names) u) (vat w s)) (same_text w s.heap f id t)
    ∙ ap (λ (r : native.Reply Local). perform.reply (names w) tree their act r (vat w s)) (guard_is w view.names (text_in s.heap id))

bad_asked : (w : World) (tree : List Node) (their : scopes.Caller Local) (act : ℕ) (s : Room) → IsSound s
    → Met w a_value s (fails BadArgument s) (perform.reply (names w) tree their act (native.Fails (codes "bad argument")) (vat w s))
unfolding perform.reply
bad_asked w tree their act s sound = fails_met w a_value BadArgument s sound

-- at a value as it is followed
pub guard_asked_met : (w : World) (tree : List Node) (their : scopes.Caller Local) (act : ℕ) (view : AuditView) (x : Held) (s : Room) → IsSound s → is_there s.heap x ≡ true
    → Met w a_value s (answer (guard_asked s.heap view x) s) (perform.reply (names w) tree their act (scopes.guard_asked (seen_of view).free (value_of w x)) (vat w s))
unfolding guard_asked
guard_asked_met w tree their act view (held.Text id) s sound t =
    met_by _ (λ b. text_asked_by w tree their act view id s t b.0) (bound_told_met w tree their act (bound_at view.names (text_in s.heap id)) s sound)
guard_asked_met w tree their act view _ s sound t = unfold scopes.guard_asked answer fails fail in bad_asked w tree their act s sound
