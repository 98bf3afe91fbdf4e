-- The inside of a vat that has done nothing.
use Rattle.std.proofs.Common.{◌≡◌, ℕ, zero, suc, [], Some, refl, sym, ap, subst, ◌∙◌, append-nil}
use Rattle.std.specs.Prelude.{slice_get}
use Rattle.ev_heap.specs.Contents.{Contents, nothing}
use Rattle.ev_pass.specs.declared.interior.Interior.{Interior}
use Rattle.ev_refs.specs.References.{References, no_references}
use Rattle.ev_room.specs.Holding.{ReferencesOf}
use Rattle.ev_room.specs.Sound.{IsSound, cycle_id, is_there, partition_id, problems, too_heavy_id}

none_got : {A : Type 0} (k : ℕ) (x : A) → slice_get [] k ≡ Some x → ⊥
none_got zero x e = absurd (cc)
none_got (suc k) x e = absurd (cc)

-- a heap with the texts of the problems alone
abbrev fresh : Contents
fresh = record nothing { texts = problems }

knows_none : (me : ℕ) → ReferencesOf (is_there fresh) (no_references me partition_id cycle_id)
knows_none me = record { known = tt; queue = tt; partition = refl; cycle = refl }

pub is_sound : (i : Interior) (me : ℕ) → i.heap ≡ record nothing { texts = problems } → i.refs ≡ no_references me partition_id cycle_id → i.too_heavy ≡ too_heavy_id → IsSound i
is_sound i me e r heavy = record {
  slots = λ k x g. absurd (none_got k x (subst (λ (h : Contents). slice_get h.slots k ≡ Some x) e g));
  things = λ k x g. absurd (none_got k x (subst (λ (h : Contents). slice_get h.things k ≡ Some x) e g));
  lists = λ k x g. absurd (none_got k x (subst (λ (h : Contents). slice_get h.lists k ≡ Some x) e g));
  problems_first = ([], ap (λ (h : Contents). h.texts) e ∙ sym (append-nil problems));
  refs = subst (λ (h : Contents). ReferencesOf (is_there h) i.refs) (sym e) (subst (λ (q : References). ReferencesOf (is_there fresh) q) (sym r) (knows_none me));
  knows = record { partition = ap (λ (q : References). q.partition) r; cycle = ap (λ (q : References). q.cycle) r; heavy = heavy };
}
