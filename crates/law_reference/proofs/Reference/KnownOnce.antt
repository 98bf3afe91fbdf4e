-- Where the names that a vat knows differ pairwise, it knows none twice; so waits and views end where notes bring what is new.
use Rattle.std.proofs.Common.{◌≡◌, ℕ, zero, suc, Bool, true, false, List, [], ◌∷◌, Some, refl, sym, ap, ◌∙◌, inl, inr, ◌==◌, arith}
use Rattle.std.specs.Prelude.{slice_get}
use Rattle.std.proofs.lemmas.Bool.{eqb-true, eq-eqb}
use Rattle.def_machine.specs.Values.{Name, same_name}
use Rattle.law_fate.specs.Name.Names.{IsAmong, Once, names_in}
use Rattle.law_fate.proofs.Name.SameNames.{same_self}
use Rattle.law_reference.proofs.Reference.KnownRuns.{names_are_known_once}
use Rattle.law_reference.specs.Reference.Waits.{WaitsEndWhereNotesBringNew}
use Rattle.law_reference.proofs.Reference.RinglessRuns.{waits_end_in_runs}

-- names at different places differ
abbrev Differ : List Name → Type 0
Differ ns = (i j : ℕ) (a b : Name) → slice_get ns i ≡ Some a → slice_get ns j ≡ Some b → same_name a b ≡ (i == j)

place_of : (n : Name) (ns : List Name) → IsAmong n ns → (i : ℕ) × (slice_get ns i ≡ Some n)
place_of n [] h = absurd h
place_of n (m ∷ ns) (inl e) = (zero, ap Some (sym e))
place_of n (m ∷ ns) (inr h) = let at = place_of n ns h in (suc at.0, at.1)

next_same : (i j : ℕ) (b c : Bool) → (i == j) ≡ b → (suc i == suc j) ≡ c → c ≡ b
next_same i j true true e f = refl
next_same i j false false e f = refl
next_same i j true false e f = let yes : (suc i == suc j) ≡ true = eq-eqb (suc i) (suc j) (ap suc (eqb-true i j e)) in cc
next_same i j false true e f = let same : suc i ≡ suc j = eqb-true (suc i) (suc j) f in let yes : (i == j) ≡ true = eq-eqb i j (omega arith) in cc

no_first : (p : ℕ) → (zero == suc p) ≡ true → ⊥
no_first p e = let same : zero ≡ suc p = eqb-true zero (suc p) e in omega arith

first_apart : (n : Name) (ns : List Name) → Differ (n ∷ ns) → IsAmong n ns → ⊥
first_apart n ns differ h = let at = place_of n ns h in no_first at.0 (sym (differ zero (suc at.0) n n refl at.1) ∙ same_self n)

once_where_apart : (ns : List Name) → Differ ns → Once ns
once_where_apart [] differ = tt
once_where_apart (n ∷ ns) differ = (first_apart n ns differ, once_where_apart ns (λ i j a b e f. differ (suc i) (suc j) a b e f ∙ next_same i j (i == j) (suc i == suc j) refl refl))

pub waits_end_where_new : WaitsEndWhereNotesBringNew
waits_end_where_new script once = (
  λ ps rest w e opened v s i. (waits_end_in_runs script once).0 ps rest w e opened v s i (once_where_apart (names_in s.known) ((names_are_known_once script once).0 ps rest w e opened v s i)),
  λ w x es k opened news stepped v s i. (waits_end_in_runs script once).1 w x es k opened stepped v s i (once_where_apart (names_in s.known) ((names_are_known_once script once).1 w x es k opened news stepped v s i)),
)
