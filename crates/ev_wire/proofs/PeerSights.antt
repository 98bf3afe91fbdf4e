-- How the machine's run in numbers sees the numbers of a vat, in the code's terms.
use Rattle.std.proofs.Common.{◌≡◌, ℕ, zero, suc, ◌==◌, Bool, true, false, List, [], ◌∷◌, Option, Some, None, refl, sym, ap, ◌∙◌}
use Rattle.std.specs.Prelude.{slice_get, option_map}
use Rattle.std.proofs.Math.Path.{fun_ext}
use Rattle.std.proofs.lemmas.Cmp.{nat_eq_equiv}
use Rattle.def_machine.specs.State as machine
use Rattle.def_machine.specs.Values.{Words, Local, Obj, Prom, same_local}
use Rattle.def_run.specs.Connections.{Sight}
use Rattle.def_run.specs.Vats as local
use Rattle.def_run.specs.Vats.{answer_in, host_in, is_hosted, sight_for}
use Rattle.ev_pass.specs.Notes.{Noted, Deliver}
use Rattle.ev_pass.specs.Reading.{note_by}
use Rattle.ev_pass.specs.declared.interior.Interior.{Interior}
use Rattle.ev_refs.specs.Follow.{host_found, host_of, hosted, place_of}
use Rattle.ev_refs.specs.Reading.{knowns_by}
use Rattle.ev_refs.specs.References.{References}
use Rattle.ev_refs.specs.declared.known.Known.{Known}
use Rattle.ev_tables.specs.Standing.{is_object, is_own}
use Rattle.ev_wire.specs.WritingStatements.{answer_in as code_answer, sight_now}
use Rattle.ev_wire.specs.Writing.{is_here, is_mine}
use Rattle.ev_wire.specs.Standing.{HasReferences}

-- ---- what is the vat's own

known_at : (ts : List Words) (n : ℕ) (ks : List Known) (k : ℕ) → host_in (knowns_by ts n ks) k ≡ option_map (λ (e : Known). e.host) (slice_get ks k)
unfolding host_in knowns_by
known_at ts n [] k = refl
known_at ts n (e ∷ es) zero = refl
known_at ts n (e ∷ es) (suc k) = known_at ts (suc n) es k

here_if : (r : References) (n h : ℕ) (b : Bool) → (r.me == h) ≡ b → is_here (hosted r n h) ≡ b
unfolding hosted
here_if r n h true e = rw (e) refl
here_if r n h false e = rw (e) refl

same_me : (n : ℕ) → true ≡ (n == n)
same_me n = sym (nat_eq_equiv.refl n)

hosted_is : (r : References) (n : ℕ) (o : Option Known) → is_hosted r.me (option_map (λ (e : Known). e.host) o) ≡ is_here (hosted r n (host_found r.me o))
unfolding is_hosted host_found
hosted_is r n None = sym (here_if r n r.me true (sym (same_me r.me)))
hosted_is r n (Some e) = nat_eq_equiv.symm e.host r.me ∙ sym (here_if r n e.host (r.me == e.host) refl)

mine_is : (ts : List Words) (r : References) (n : ℕ) → is_hosted r.me (host_in (knowns_by ts 0 r.known) n) ≡ is_mine r n
unfolding is_mine place_of host_of
mine_is ts r n = ap (is_hosted r.me) (known_at ts 0 r.known n) ∙ hosted_is r n (slice_get r.known n)

own_at : (ts : List Words) (r : References) (n : Local) → local.is_own r.me (knowns_by ts 0 r.known) n ≡ is_own (is_mine r) n
unfolding local.is_own is_own
own_at ts r (Prom k) = mine_is ts r k
own_at ts r other = refl

pub own_is : (ts : List Words) (r : References) (s : machine.Vat Local) → HasReferences ts r s → (n : Local) → local.is_own s.number s.known n ≡ is_own (is_mine r) n
own_is ts r s h n = ap (λ (u : ℕ). local.is_own u s.known n) h.number ∙ ap (λ (ks : List (machine.Known Local)). local.is_own r.me ks n) h.known ∙ own_at ts r n

-- ---- how notes are seen

object_at : (n : Local) → local.is_object n ≡ is_object n
unfolding local.is_object is_object
object_at (Obj i) = refl
object_at other = refl

pub objects : ◌≡◌ {A = Local → Bool} local.is_object is_object
objects = fun_ext object_at

owns : (ts : List Words) (r : References) (s : machine.Vat Local) → HasReferences ts r s → ◌≡◌ {A = Local → Bool} (local.is_own s.number s.known) (is_own (is_mine r))
owns ts r s h = fun_ext (own_is ts r s h)

answer_is : (ts : List Words) (n : Noted) → answer_in (note_by ts n) ≡ Prom (code_answer n)
unfolding answer_in
answer_is ts (Deliver m (Some a) x verb ps) = refl
answer_is ts other = refl

abbrev seeing : (Local → Bool) → (Local → Bool) → Local → Sight Local
seeing own object answer = record { same = same_local; own = own; object = object; answer = λ m. answer }

-- a vat sees its numbers as the code does, for each note
pub sight_is : (ts : List Words) (i : Interior) (s : machine.Vat Local) (n : Noted) → HasReferences ts i.refs s → sight_for s (note_by ts n) ≡ sight_now i (code_answer n)
unfolding sight_for
sight_is ts i s n h =
    ap (λ (own : Local → Bool). seeing own local.is_object (answer_in (note_by ts n))) (owns ts i.refs s h)
    ∙ ap (λ (object : Local → Bool). seeing (is_own (is_mine i.refs)) object (answer_in (note_by ts n))) objects
    ∙ ap (seeing (is_own (is_mine i.refs)) is_object) (answer_is ts n)
