-- The rank of a name is where it stands, and exports grow at their end.
use Rattle.std.proofs.Common.{◌≡◌, ℕ, zero, suc, Bool, true, false, List, [], ◌∷◌, ◌++◌, Some, refl, sym, ap, ◌∙◌, inl, inr, length, append_assoc, append-nil, ◌==◌}
use Rattle.std.specs.Prelude.{slice_get}
use Rattle.def_machine.specs.Values.{Value, Ref, Name, same_name, host_of}
use Rattle.def_machine.specs.State.{Passed, Passeds, Plain, AGift, Many, NoMore, More, Note, Deliver, Open, Ask, SettledTo, Elsewhere, Shorten}
use Rattle.def_run.specs.World.{has_name}
use Rattle.law_reference.specs.Reference.Logs as wire
use Rattle.law_fate.specs.Name.Names.{IsAmong}
use Rattle.law_fate.proofs.Name.SameNames.{same_is, same_self}

true_false : (b : Bool) → b ≡ true → b ≡ false → ⊥
true_false b e f = cc

tail : (n m : Name) (ms : List Name) → IsAmong n (m ∷ ms) → same_name m n ≡ false → IsAmong n ms
tail n m ms (inl e) f = absurd (true_false (same_name m n) (ap (λ z. same_name z n) (sym e) ∙ same_self n) f)
tail n m ms (inr a) f = a

get_either : (b : Bool) (m n : Name) (ms : List Name) (r : ℕ) → (b ≡ true → m ≡ n) → (b ≡ false → slice_get ms r ≡ Some n) → slice_get (m ∷ ms) (elim b [ true ↦ zero | false ↦ suc r ]) ≡ Some n
get_either true m n ms r f g = ap Some (f refl)
get_either false m n ms r f g = g refl

-- a name stands at its rank
pub get_rank : (ns : List Name) (n : Name) → IsAmong n ns → slice_get ns (wire.rank ns n) ≡ Some n
unfolding wire.rank
get_rank [] n h = absurd h
get_rank (m ∷ ms) n h = get_either (same_name m n) m n ms (wire.rank ms n) (same_is m n) (λ e. get_rank ms n (tail n m ms h e))

rank_zero : (b : Bool) (r : ℕ) → b ≡ true → ◌≡◌ {A = ℕ} (elim b [ true ↦ zero | false ↦ suc r ]) zero
rank_zero true r e = refl
rank_zero false r e = cc

rank_suc : (b : Bool) (r k : ℕ) → (b ≡ true → ⊥) → r ≡ k → ◌≡◌ {A = ℕ} (elim b [ true ↦ zero | false ↦ suc r ]) (suc k)
rank_suc true r k f e = absurd (f refl)
rank_suc false r k f e = ap suc e

-- a name that comes last stands behind the others
pub rank_end : (ns more : List Name) (n : Name) → (IsAmong n ns → ⊥) → wire.rank (ns ++ n ∷ more) n ≡ length ns
unfolding wire.rank
rank_end [] more n f = rank_zero (same_name n n) (wire.rank more n) (same_self n)
rank_end (m ∷ ms) more n f = rank_suc (same_name m n) (wire.rank (ms ++ n ∷ more) n) (length ms) (λ e. f (inl (sym (same_is m n e)))) (rank_end ms more n (λ a. f (inr a)))

rank_either : (b : Bool) (r k : ℕ) → (b ≡ false → r ≡ k) → ◌≡◌ {A = ℕ} (elim b [ true ↦ zero | false ↦ suc r ]) (elim b [ true ↦ zero | false ↦ suc k ])
rank_either true r k f = refl
rank_either false r k f = ap suc (f refl)

pub rank_front : (ns more : List Name) (n : Name) → IsAmong n ns → wire.rank (ns ++ more) n ≡ wire.rank ns n
unfolding wire.rank
rank_front [] more n h = absurd h
rank_front (m ∷ ms) more n h = rank_either (same_name m n) (wire.rank (ms ++ more) n) (wire.rank ms n) (λ e. rank_front ms more n (tail n m ms h e))

-- ---- exports grow at their end

abbrev pub Starts : List Name → List Name → Type 0
Starts ns ms = (more : List Name) × (ms ≡ ns ++ more)

starts_same : (ns : List Name) → Starts ns ns
starts_same ns = ([], sym (append-nil ns))

starts_end : (ns : List Name) (n : Name) → Starts ns (ns ++ n ∷ [])
starts_end ns n = (n ∷ [], refl)

starts_on : (ns ms ks : List Name) → Starts ns ms → Starts ms ks → Starts ns ks
starts_on ns ms ks h k = (h.0 ++ k.0, k.1 ∙ ap (λ xs. xs ++ k.0) h.1 ∙ append_assoc ns h.0 k.0)

module _ (v : ℕ) (asked : List Name) where
  there_starts : (a b c : Bool) (n : Name) (ns : List Name) → Starts ns (elim a [ true ↦ elim b [ true ↦ ns | false ↦ elim c [ true ↦ ns | false ↦ ns ++ n ∷ [] ] ] | false ↦ ns ])
  there_starts true true c n ns = starts_same ns
  there_starts true false true n ns = starts_same ns
  there_starts true false false n ns = starts_end ns n
  there_starts false b c n ns = starts_same ns

  export_starts : (n : Name) (ns : List Name) → Starts ns (wire.with_export v asked n ns)
  unfolding wire.with_export
  export_starts n ns = there_starts (host_of n == v) (has_name asked n) (has_name ns n) n ns

  value_starts : (y : Value Name) (ns : List Name) → Starts ns (wire.with_value v asked y ns)
  unfolding wire.with_value
  value_starts (Ref n) ns = export_starts n ns
  value_starts other ns = starts_same ns

  mutual
    unfolding wire.with_passed wire.with_all

    passed_starts : (y : Passed Name) (ns : List Name) → Starts ns (wire.with_passed v asked y ns)
    passed_starts (Plain y) ns = value_starts y ns
    passed_starts (AGift w i) ns = starts_same ns
    passed_starts (Many ys) ns = all_starts ys ns

    all_starts : (ys : Passeds Name) (ns : List Name) → Starts ns (wire.with_all v asked ys ns)
    all_starts NoMore ns = starts_same ns
    all_starts (More y ys) ns = starts_on ns (wire.with_passed v asked y ns) (wire.with_all v asked ys (wire.with_passed v asked y ns)) (passed_starts y ns) (all_starts ys (wire.with_passed v asked y ns))

  note_starts : (n : Note Name) (ns : List Name) → Starts ns (wire.with_note v asked n ns)
  unfolding wire.with_note
  note_starts (Deliver m t verb ys) ns = starts_on ns (wire.with_export v asked t ns) (wire.with_all v asked ys (wire.with_export v asked t ns)) (export_starts t ns) (all_starts ys (wire.with_export v asked t ns))
  note_starts (Open i t) ns = export_starts t ns
  note_starts (Ask p i t) ns = starts_same ns
  note_starts (SettledTo t y) ns = starts_on ns (wire.with_export v asked t ns) (wire.with_passed v asked y (wire.with_export v asked t ns)) (export_starts t ns) (passed_starts y (wire.with_export v asked t ns))
  note_starts (Elsewhere t c) ns = export_starts t ns
  note_starts (Shorten t c i) ns = export_starts t ns

  pub exports_start : (log : List (Note Name)) (ns : List Name) → Starts ns (wire.exports_after v asked log ns)
  unfolding wire.exports_after
  exports_start [] ns = starts_same ns
  exports_start (x ∷ log) ns = starts_on ns (wire.with_note v asked x ns) (wire.exports_after v asked log (wire.with_note v asked x ns)) (note_starts x ns) (exports_start log (wire.with_note v asked x ns))

  -- the exports of some notes and then of others
  pub exports_twice : (front rest : List (Note Name)) (ns : List Name) → wire.exports_after v asked (front ++ rest) ns ≡ wire.exports_after v asked rest (wire.exports_after v asked front ns)
  unfolding wire.exports_after
  exports_twice [] rest ns = refl
  exports_twice (x ∷ front) rest ns = exports_twice front rest (wire.with_note v asked x ns)
