-- What is found of one verb is known of it.
use Rattle.std.proofs.Common.{◌≡◌, ℕ, zero, suc, Bool, List, [], ◌∷◌, Option, Some, None, ◌<◌, replicate, get_or, sym, subst, ◌∙◌}
use Rattle.std.proofs.lemmas.List.{get_or-replicate, length-replicate}
use Rattle.std.proofs.lemmas.Option.{get_or_from_slice_get, slice_get_within}
use Rattle.std.specs.Prelude.{slice_get, slice_set}
use Rattle.def_text.specs.Keywords.{is_identifier}
use Rattle.ev_heap.specs.Verbs.{text_at}
use Rattle.ev_step_text.specs.Spelled.{IsKnown}

same_option : {A : Type 0} (a b : A) → Some a ≡ Some b → a ≡ b
same_option a b e = cc

none_is_some : (o : Option Bool) (c : Bool) → o ≡ None → o ≡ Some c → ⊥
none_is_some o c e f = cc

-- of any table of what is so
set_keeps : (says : ℕ → Bool) (known : List (Option Bool)) (at : ℕ) (b : Bool) → b ≡ says at → ((i : ℕ) (c : Bool) → slice_get known i ≡ Some (Some c) → c ≡ says i)
    → (i : ℕ) (c : Bool) → slice_get (slice_set known at (Some b)) i ≡ Some (Some c) → c ≡ says i
set_keeps says [] at b is so i c e = so i c e
set_keeps says (k ∷ ks) zero b is so zero c e = sym (same_option b c (same_option (Some b) (Some c) e)) ∙ is
set_keeps says (k ∷ ks) zero b is so (suc i) c e = so (suc i) c e
set_keeps says (k ∷ ks) (suc at) b is so zero c e = so zero c e
set_keeps says (k ∷ ks) (suc at) b is so (suc i) c e = set_keeps (λ j. says (suc j)) ks at b is (λ j d f. so (suc j) d f) i c e

pub kept : (verbs : List (List ℕ)) (known : List (Option Bool)) (place : ℕ) (plain : Bool) → plain ≡ is_identifier (text_at verbs place) → IsKnown verbs known → IsKnown verbs (slice_set known place (Some plain))
kept verbs known place plain is so = set_keeps (λ j. is_identifier (text_at verbs j)) known place plain is so

-- nothing is known at first
pub none_known : (verbs : List (List ℕ)) (n : ℕ) → IsKnown verbs (replicate n None)
none_known verbs n = λ i c e.
    let nothing : List (Option Bool) = replicate n None in
    let within : i < n = subst (λ (k : ℕ). i < k) (length-replicate n None) (slice_get_within nothing i (Some c) e) in
    absurd (none_is_some (get_or nothing i None) c (get_or-replicate n i None None within) (get_or_from_slice_get nothing i (Some c) None e))
