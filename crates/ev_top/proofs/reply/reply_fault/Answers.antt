use Rattle.std.proofs.Common.{◌≡◌, ℕ, List, ◌∷◌, ◌++◌, codes, string_bytes, refl, sym, subst, ◌∙◌, append_assoc}
use Rattle.ev_reader.specs.Stages.{fault_text}
use Rattle.ev_reader.specs.declared.fault.ProgramFault.{ProgramFault}
use Rattle.ev_reader.specs.declared.fault.ProgramFault.TheVariants.{At}
use Rattle.ev_reader.specs.declared.fault.Stage.{Stage as Part}
use Rattle.ev_io.specs.Words.{line}
use Rattle.ev_top.specs.Programs.{IsDueOfFault, refusal}
use Rattle.ev_io.specs.declared.status.Status.{Status}
use Rattle.ev_io.specs.declared.status.Status.TheVariants.{ProgramRefused}
use Rattle.ev_top.proofs.reply.reply_fault.Goals as goal

at_fault : (vat : ℕ) (name : List ℕ) (fault : ProgramFault) (part : Part) (kind place : ℕ) (status : Status) (text : List ℕ) → fault ≡ At part kind place
    → status ≡ ProgramRefused (refusal vat part kind place) → text ≡ line (codes "refused program " ++ name ++ 32 ∷ fault_text (At part kind place)) → IsDueOfFault vat name fault status text
at_fault vat name fault part kind place status text e same told =
    subst (λ (f : ProgramFault). IsDueOfFault vat name f status text) (sym e) (same, told)

pub returns : goal.returns
returns c =
    at_fault c.args.vat c.args.name.now c.args.fault c.in-At.part c.in-At.kind c.in-At.place
    (ProgramRefused (record { vat = c.args.vat; stage = c.stage_of.result; kind = c.in-At.kind; place = c.in-At.place })) (string_bytes c.in_ok-format.field-0)
    c.in-At.is (rw c.stage_of.ensures refl) (c.in_ok-format.ensures.ok ∙ simp append_assoc)
