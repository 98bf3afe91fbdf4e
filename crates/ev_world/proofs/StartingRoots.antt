-- The tables of a vat at the start: a root of each vat that it knows stands at the first position.
use Rattle.std.proofs.Common.{◌≡◌, ◌==◌, ◌⊎◌, inl, inr, ◌<◌, ℕ, zero, suc, Bool, true, false, List, [], ◌∷◌, ◌++◌, All, append-nil, get_or, length, nat_eq, replicate, refl, sym, ap, subst, ◌∙◌}
use Rattle.std.specs.List.{AllByRecursion, IsDistinct}
use Rattle.std.proofs.lemmas.Cmp.{nat_eq_equiv}
use Rattle.std.proofs.lemmas.List.{length-replicate}
use Rattle.std.proofs.lemmas.List.Elements.{All-head, All-tail}
use Rattle.def_machine.specs.State.{is_in}
use Rattle.ev_resident.specs.Names.{Named, names_first}
use Rattle.ev_resident.specs.Starting.{with_root, with_roots}
use Rattle.ev_world.specs.Exporting.{with_imports}
use Rattle.ev_world.proofs.Objects.{Imported, imported, same_or_not}
use Rattle.ev_world.proofs.StartingKnowers.{apart, or_in}

-- what stands for a vat whose root does, or does not
abbrev pub root_if : Bool → List ℕ
root_if b = elim b [ true ↦ zero ∷ [] | false ↦ [] ]

put : (v : ℕ) (n : Named) → Imported v (zero ∷ []) n (with_root v n)
unfolding with_imports
put v n = imported v (zero ∷ []) n

pub room_kept : (vs : List ℕ) (n : Named) → length (with_roots vs n).naming.objects ≡ length n.naming.objects
unfolding with_roots
room_kept [] n = refl
room_kept (v ∷ vs) n = room_kept vs (with_root v n) ∙ (put v n).room

unlike : (v : ℕ) (vs : List ℕ) → AllByRecursion (λ w. nat_eq v w ≡ false) vs → is_in v vs ≡ false
unfolding is_in
unlike v [] all = refl
unlike v (w ∷ ws) all = ap (λ (b : Bool). or_in b (is_in v ws)) all.0 ∙ unlike v ws all.1

root_by : (v h : ℕ) (vs : List ℕ) (n : Named) → v < length n.naming.objects → is_in v vs ≡ false → (v ≡ h) ⊎ (v ≡ h → ⊥)
    → get_or (with_root v n).naming.objects h [] ++ root_if (is_in h vs) ≡ get_or n.naming.objects h [] ++ root_if (is_in h (v ∷ vs))
unfolding is_in
root_by v h vs n less alone (inl e) =
    subst (λ (k : ℕ). get_or (with_root v n).naming.objects k [] ++ root_if (is_in k vs) ≡ get_or n.naming.objects k [] ++ root_if (or_in (k == v) (is_in k vs))) e
    (ap (λ (b : Bool). get_or (with_root v n).naming.objects v [] ++ root_if b) alone
    ∙ append-nil (get_or (with_root v n).naming.objects v [])
    ∙ (put v n).here less
    ∙ ap (λ (b : Bool). get_or n.naming.objects v [] ++ root_if (or_in b (is_in v vs))) (sym (nat_eq_equiv.refl v)))
root_by v h vs n less alone (inr ne) =
    ap (λ (xs : List ℕ). xs ++ root_if (is_in h vs)) ((put v n).other h ne)
    ∙ ap (λ (b : Bool). get_or n.naming.objects h [] ++ root_if (or_in b (is_in h vs))) (sym (apart h v (λ e. ne (sym e))))

roots_on : (vs : List ℕ) (n : Named) (h : ℕ) → IsDistinct nat_eq vs → All (λ v. v < length n.naming.objects) vs
    → get_or (with_roots vs n).naming.objects h [] ≡ get_or n.naming.objects h [] ++ root_if (is_in h vs)
unfolding with_roots IsDistinct is_in
roots_on [] n h distinct within = sym (append-nil (get_or n.naming.objects h []))
roots_on (v ∷ vs) n h distinct within =
    roots_on vs (with_root v n) h distinct.1 (subst (λ (k : ℕ). All (λ w. w < k) vs) (sym (put v n).room) (All-tail (λ w. w < length n.naming.objects) v vs within))
    ∙ root_by v h vs n (All-head (λ w. w < length n.naming.objects) v vs within) (unlike v vs distinct.0) (same_or_not v h)

-- no object stands there
abbrev no_object : List ℕ
no_object = []

none_at_first : (k h : ℕ) → get_or (replicate k no_object) h no_object ≡ no_object
none_at_first zero h = refl
none_at_first (suc k) zero = refl
none_at_first (suc k) (suc h) = none_at_first k h

many_at_first : (k : ℕ) → length (replicate k no_object) ≡ k
many_at_first k = length-replicate k no_object

pub first_room : (u k : ℕ) (vs : List ℕ) → length (with_roots vs (names_first u vs k)).naming.objects ≡ k
first_room u k vs = room_kept vs (names_first u vs k) ∙ many_at_first k

pub first_roots : (u k : ℕ) (vs : List ℕ) (h : ℕ) → IsDistinct nat_eq vs → All (λ v. v < k) vs → get_or (with_roots vs (names_first u vs k)).naming.objects h [] ≡ root_if (is_in h vs)
first_roots u k vs h distinct within =
    roots_on vs (names_first u vs k) h distinct (subst (λ (n : ℕ). All (λ v. v < n) vs) (sym (many_at_first k)) within)
    ∙ ap (λ (xs : List ℕ). xs ++ root_if (is_in h vs)) (none_at_first k h)
