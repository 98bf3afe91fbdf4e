-- What a table tells of a promise of the vat's own is what the run in numbers looks at.
use Rattle.std.proofs.Common.{◌≡◌, ◌||◌, ◌==◌, ℕ, suc, Bool, true, false, is_some, List, [], ◌∷◌, map, Option, Some, None, refl, ap, ◌∙◌}
use Rattle.std.specs.Prelude.{option_map, if◌then◌else◌}
use Rattle.std.proofs.Common.{arith}
use Rattle.std.proofs.lemmas.Bool.Decides.{nat_tests}
use Rattle.ev_base.specs.declared.values.Value.{Value}
use Rattle.ev_base.specs.declared.values.Value.TheVariants as held
use Rattle.def_machine.specs.Values.{Prom, same_local}
use Rattle.def_run.specs.Seeing.{among}
use Rattle.ev_tables.specs.Table.{place_of, export_number}
use Rattle.ev_tables.specs.Thing.{same_value}
use Rattle.ev_tables.specs.Standing.{first_number, is_own, is_reference, local_of, or_else, promises}
use Rattle.ev_tables.specs.declared.numeral.Number.{Number}
use Rattle.ev_tables.specs.declared.numeral.Number.TheVariants.{MyAnswer}
use Rattle.ev_receiver.specs.Statements.{OwnPromisesAreSeen}

same_by : (a b : ℕ) (s t : Bool) → (a == b) ≡ s → (b == a) ≡ t → s ≡ t
same_by a b true true e f = refl
same_by a b false false e f = refl
same_by a b true false e f = absurd (grind (arith, nat_tests))
same_by a b false true e f = absurd (grind (arith, nat_tests))

same_test : (a b : ℕ) → (a == b) ≡ (b == a)
same_test a b = same_by a b _ _ refl refl

-- one promise, among values and among their names
alike : (n : ℕ) (v : Value) → same_value (held.Prom n) v ≡ same_local (local_of v) (Prom n)
unfolding same_value same_local local_of
alike n held.Null = refl
alike n (held.Bool b) = refl
alike n (held.Int z) = refl
alike n (held.Char c) = refl
alike n (held.Text t) = refl
alike n (held.List l) = refl
alike n (held.Prim p) = refl
alike n (held.Obj i) = refl
alike n (held.Prom m) = same_test n m
alike n (held.Far h p) = refl
alike n (held.Broken p) = refl

abbrev chosen : Bool → Bool → Bool
chosen s r = elim s [ true ↦ true | false ↦ r ]

here : (b c r : Bool) (o : Option ℕ) → b ≡ c → is_some o ≡ r → is_some (if b then Some 0 else option_map suc o) ≡ chosen c r
here true true r o e f = refl
here false false r None e f = f
here false false r (Some k) e f = f
here true false r o e f = cc
here false true r o e f = cc

found : (n : ℕ) (vs : List Value) → is_some (place_of (held.Prom n) vs) ≡ among (map local_of vs) (Prom n)
unfolding among
found n [] = refl
found n (v ∷ vs) = here (same_value (held.Prom n) v) (same_local (local_of v) (Prom n)) (among (map local_of vs) (Prom n)) (place_of (held.Prom n) vs) (alike n v) (found n vs)

-- promises are references
named : (ns : List ℕ) → map local_of (promises ns) ≡ map Prom ns
unfolding local_of
named [] = refl
named (n ∷ ns) = ap (λ xs. Prom n ∷ xs) (named ns)

either : (f : ℕ → Number) (g : ℕ → Number) (o p : Option ℕ) → is_some (or_else (option_map f o) (option_map g p)) ≡ (is_some o || is_some p)
either f g (Some k) p = refl
either f g None (Some k) = refl
either f g None None = refl

pub own_promises_seen : OwnPromisesAreSeen
unfolding first_number is_own local_of is_reference
own_promises_seen mine t n kept own =
    ap is_some (kept.found (held.Prom n) refl)
    ∙ ap (λ b. is_some (first_number b (held.Prom n) t)) own
    ∙ either (export_number (held.Prom n)) MyAnswer (place_of (held.Prom n) t.exports) (place_of (held.Prom n) (promises t.answers))
    ∙ ap (λ b. b || is_some (place_of (held.Prom n) (promises t.answers))) (found n t.exports)
    ∙ ap (λ b. among (map local_of t.exports) (Prom n) || b) (found n (promises t.answers) ∙ ap (λ ns. among ns (Prom n)) (named t.answers))
