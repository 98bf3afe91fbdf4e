-- What is exported gets one position, behind those that have one.
use Rattle.std.proofs.Common.{◌≡◌, ℕ, zero, suc, Bool, true, false, List, [], ◌∷◌, ◌++◌, Some, refl, sym, ap, ◌⊎◌, inl, inr, ◌==◌}
use Rattle.std.specs.Prelude.{slice_get}
use Rattle.std.proofs.lemmas.Bool.{eqb-true}
use Rattle.def_machine.specs.Values.{Value, Ref, Name, host_of}
use Rattle.def_machine.specs.State.{Passed, Passeds, Plain, AGift, Many, NoMore, More, Note, Deliver, Open, Ask, SettledTo, Elsewhere, Shorten}
use Rattle.def_run.specs.World.{has_name}
use Rattle.law_reference.specs.Reference.Logs as wire
use Rattle.law_fate.specs.Name.Names.{AllOf, IsAmong, Once}
use Rattle.law_fate.proofs.Name.Facts.{all_end}
use Rattle.law_fate.proofs.Name.Among.{among_or}
use Rattle.law_fate.proofs.Name.SameNames.{among_has}

-- the names there differ pairwise, and vat v is the host of each
abbrev pub Fine : ℕ → List Name → Type 0
Fine v ns = Once ns × AllOf (λ n. host_of n ≡ v) ns

pub once_end : (ns : List Name) (n : Name) → Once ns → (IsAmong n ns → ⊥) → Once (ns ++ n ∷ [])
once_end [] n h k = (λ i. i, tt)
once_end (m ∷ ns) n h k = (λ i. new (among_or m ns n i), once_end ns n h.1 (λ i. k (inr i)))
  where
    new : IsAmong m ns ⊎ (m ≡ n) → ⊥
    new (inl i) = h.0 i
    new (inr e) = k (inl (sym e))

true_false : (b : Bool) → b ≡ true → b ≡ false → ⊥
true_false b e f = cc

module _ (v : ℕ) (asked : List Name) where
  unless_there : (b : Bool) (n : Name) (ns : List Name) → has_name ns n ≡ b → host_of n ≡ v → Fine v ns → Fine v (elim b [ true ↦ ns | false ↦ ns ++ n ∷ [] ])
  unless_there true n ns e o h = h
  unless_there false n ns e o h = (once_end ns n h.0 (λ i. true_false (has_name ns n) (among_has ns n i) e), all_end (λ n. host_of n ≡ v) ns n h.1 o)

  unless_asked : (b c : Bool) (n : Name) (ns : List Name) → has_name ns n ≡ c → host_of n ≡ v → Fine v ns → Fine v (elim b [ true ↦ ns | false ↦ elim c [ true ↦ ns | false ↦ ns ++ n ∷ [] ] ])
  unless_asked true c n ns e o h = h
  unless_asked false c n ns e o h = unless_there c n ns e o h

  where_hosted : (a b c : Bool) (n : Name) (ns : List Name) → (host_of n == v) ≡ a → has_name ns n ≡ c → Fine v ns → Fine v (elim a [ true ↦ elim b [ true ↦ ns | false ↦ elim c [ true ↦ ns | false ↦ ns ++ n ∷ [] ] ] | false ↦ ns ])
  where_hosted true b c n ns e f h = unless_asked b c n ns f (eqb-true (host_of n) v e) h
  where_hosted false b c n ns e f h = h

  export_fine : (n : Name) (ns : List Name) → Fine v ns → Fine v (wire.with_export v asked n ns)
  unfolding wire.with_export
  export_fine n ns h = where_hosted (host_of n == v) (has_name asked n) (has_name ns n) n ns refl refl h

  value_fine : (y : Value Name) (ns : List Name) → Fine v ns → Fine v (wire.with_value v asked y ns)
  unfolding wire.with_value
  value_fine (Ref n) ns h = export_fine n ns h
  value_fine other ns h = h

  mutual
    unfolding wire.with_passed wire.with_all

    passed_fine : (y : Passed Name) (ns : List Name) → Fine v ns → Fine v (wire.with_passed v asked y ns)
    passed_fine (Plain y) ns h = value_fine y ns h
    passed_fine (AGift w i) ns h = h
    passed_fine (Many ys) ns h = all_fine ys ns h

    all_fine : (ys : Passeds Name) (ns : List Name) → Fine v ns → Fine v (wire.with_all v asked ys ns)
    all_fine NoMore ns h = h
    all_fine (More y ys) ns h = all_fine ys (wire.with_passed v asked y ns) (passed_fine y ns h)

  note_fine : (n : Note Name) (ns : List Name) → Fine v ns → Fine v (wire.with_note v asked n ns)
  unfolding wire.with_note
  note_fine (Deliver m n verb ys) ns h = all_fine ys (wire.with_export v asked n ns) (export_fine n ns h)
  note_fine (Open i n) ns h = export_fine n ns h
  note_fine (Ask p i n) ns h = h
  note_fine (SettledTo n y) ns h = passed_fine y (wire.with_export v asked n ns) (export_fine n ns h)
  note_fine (Elsewhere n c) ns h = export_fine n ns h
  note_fine (Shorten n c i) ns h = export_fine n ns h

  pub exports_fine : (log : List (Note Name)) (ns : List Name) → Fine v ns → Fine v (wire.exports_after v asked log ns)
  unfolding wire.exports_after
  exports_fine [] ns h = h
  exports_fine (n ∷ log) ns h = exports_fine log (wire.with_note v asked n ns) (note_fine n ns h)

-- ---- the positions of objects

among_get : (ns : List Name) (p : ℕ) (n : Name) → slice_get ns p ≡ Some n → IsAmong n ns
among_get [] p n e = cc
among_get (m ∷ ns) zero n e = inl (let f : m ≡ n = cc in sym f)
among_get (m ∷ ns) (suc p) n e = inr (among_get ns p n e)

-- of names that differ pairwise, one stands in one position
pub one_position : (ns : List Name) (p q : ℕ) (n : Name) → Once ns → slice_get ns p ≡ Some n → slice_get ns q ≡ Some n → p ≡ q
one_position [] p q n h e f = cc
one_position (m ∷ ns) zero zero n h e f = refl
one_position (m ∷ ns) zero (suc q) n h e f = let g : m ≡ n = cc in absurd (h.0 (rw (sym g) at (among_get ns q n f)))
one_position (m ∷ ns) (suc p) zero n h e f = let g : m ≡ n = cc in absurd (h.0 (rw (sym g) at (among_get ns p n e)))
one_position (m ∷ ns) (suc p) (suc q) n h e f = ap suc (one_position ns p q n h.1 e f)

pub host_at : (v : ℕ) (ns : List Name) (p : ℕ) (n : Name) → AllOf (λ n. host_of n ≡ v) ns → slice_get ns p ≡ Some n → host_of n ≡ v
host_at v [] p n h e = cc
host_at v (m ∷ ns) zero n h e = let f : m ≡ n = cc in rw f at h.0
host_at v (m ∷ ns) (suc p) n h e = host_at v ns p n h.1 e
