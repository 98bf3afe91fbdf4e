-- Lawful bytes are spelled as their operation is.
use Rattle.std.proofs.Common.{◌≡◌, ℕ, zero, suc, ◌<◌, Bool, List, [], ◌∷◌, get_or, arith, Option, Some, None, refl, ap, subst, sym, ◌∙◌}
use Rattle.std.specs.Prelude.{Ok}
use Rattle.std.proofs.lemmas.List.{append-nil}
use Rattle.def_op.specs.Frames.{Operation, IsOp, spelling}
use Rattle.def_op.specs.Reading.{op_at}
use Rattle.def_op.specs.Items.{items_of}
use Rattle.def_hostile.specs.Judge.{Counts, Judged, Fine, Faulty, Verdict, Lawful, Malformed, verdict, verdict_by, lawful_if, judged, first_look}
use Rattle.ev_op.proofs.OpLemmas.{op_again}
use Rattle.ev_parts.proofs.WholeLemmas.{whole_exactly}
use Rattle.law_judge.specs.Statements.{AreBytes, LawfulIsSpelled}

the_op : Operation → Verdict → Operation
the_op d (Lawful op new) = op
the_op d (Malformed place) = d

the_new : List Bool → Verdict → List Bool
the_new d (Lawful op new) = new
the_new d (Malformed place) = d

-- what stands behind a lawful verdict: no stop, fine items, and what is read
abbrev pub Stands : List ℕ → Option ℕ → Judged → Operation → List Bool → Type 0
Stands bytes stop j op new = (stop ≡ None) × (j ≡ Fine new) × ((rest : List ℕ) × (op_at bytes ≡ Some (op, rest)))

lawful_read : (bytes : List ℕ) (o : Option (Operation × List ℕ)) (n new : List Bool) (op : Operation) → op_at bytes ≡ o → lawful_if n o ≡ Lawful op new → Stands bytes None (Fine n) op new
unfolding lawful_if the_op the_new
lawful_read bytes (Some x) n new op at e =
    let same : x.0 ≡ op = ap (the_op x.0) e in
    (refl, ap (λ (v : Verdict). Fine (the_new n v)) e, (x.1, at ∙ ap (λ (p : Operation). Some (p, x.1)) same))
lawful_read bytes None n new op at e = absurd cc

lawful_by : (bytes : List ℕ) (stop : Option ℕ) (j : Judged) (op : Operation) (new : List Bool) → verdict_by bytes stop j ≡ Lawful op new → Stands bytes stop j op new
unfolding verdict_by
lawful_by bytes stop (Faulty place) op new e = absurd cc
lawful_by bytes (Some place) (Fine n) op new e = absurd cc
lawful_by bytes None (Fine n) op new e = lawful_read bytes (op_at bytes) n new op refl e

pub lawful_stands : (vats me peer : ℕ) (c : Counts) (bytes : List ℕ) (op : Operation) (new : List Bool) → verdict vats me peer c bytes ≡ Lawful op new
    → Stands bytes (items_of bytes).stop (judged vats me peer c (items_of bytes).spots first_look) op new
unfolding verdict
lawful_stands vats me peer c bytes op new e = lawful_by bytes (items_of bytes).stop (judged vats me peer c (items_of bytes).spots first_look) op new e

the_read : Operation → Option (Operation × List ℕ) → Operation
the_read d (Some x) = x.0
the_read d None = d

same_read : (a b : Operation) (x y : List ℕ) (o : Option (Operation × List ℕ)) → o ≡ Some (a, x) → o ≡ Some (b, y) → a ≡ b
unfolding the_read
same_read a b x y o e f = ap (the_read a) (sym e ∙ f)

-- a byte, or 0 behind the end
each_byte : (bytes : List ℕ) → AreBytes bytes → (i : ℕ) → get_or bytes i 0 < 256
each_byte [] h i = omega arith
each_byte (b ∷ bytes) h zero = h 0 0 (omega arith)
each_byte (b ∷ bytes) h (suc i) = each_byte bytes (λ k d lt. h (suc k) d (omega (arith, lt))) i

pub is_spelled : LawfulIsSpelled
is_spelled vats me peer c bytes op new fits e =
    let stands = lawful_stands vats me peer c bytes op new e in
    let whole = (whole_exactly bytes (Ok (items_of bytes)) (each_byte bytes fits) refl).0 stands.0 in
    let again : op_at bytes ≡ Some (whole.0, []) = ap op_at (whole.2 ∙ sym (append-nil (spelling whole.0))) ∙ op_again whole.0 [] whole.1 in
    let same : whole.0 ≡ op = same_read whole.0 op [] stands.2.0 (op_at bytes) again stands.2.1 in
    subst (λ (p : Operation). IsOp p × (bytes ≡ spelling p)) same (whole.1, whole.2)
