-- Names that break one after another.
use Rattle.std.proofs.Common.{◌≡◌, ◌∙◌, ◌+◌, ◌<◌, ◌≤◌, ℕ, List, ◌∷◌, Ok, Err, drop, get_or, length, sym, ap, subst}
use Rattle.std.proofs.lemmas.List.{drop_all, drop_more}
use Rattle.ev_pass.specs.Acts.{Unless}
use Rattle.ev_pass.specs.declared.interior.Stop.{Stop}
use Rattle.ev_arrive.specs.Acts.{Act, Out, and_then, ◌>>◌, give}
use Rattle.ev_arrive.specs.Noticing.{break_each}
use Rattle.ev_arrive.specs.declared.host.Host.{Host}
use Rattle.ev_arrive.proofs.Ends.{ends}

module _ (f : ℕ → Act (Unit {0})) where
  first : (ns : List ℕ) (i n : ℕ) → i < length ns → n ≡ get_or ns i n → drop i ns ≡ n ∷ drop (i + 1) ns
  first ns i n lt is = drop_more ns i n lt ∙ ap (λ (z : ℕ). z ∷ drop (i + 1) ns) (sym is)

  pub goes : (ns : List ℕ) (i n : ℕ) (h u : Host) (total : Out (Unit {0})) → i < length ns → n ≡ get_or ns i n → f n h ≡ (Ok tt, u)
      → break_each f (drop i ns) h ≡ total → break_each f (drop (i + 1) ns) u ≡ total
  unfolding break_each ◌>>◌ and_then
  goes ns i n h u total lt at e so_far =
      ap (λ (o : Out (Unit {0})). and_then o (λ _. break_each f (drop (i + 1) ns))) (sym e)
      ∙ ap (λ (z : List ℕ). break_each f z h) (sym (first ns i n lt at)) ∙ so_far

  pub stops : (ns : List ℕ) (i n : ℕ) (h u : Host) (e : Stop) (total : Out (Unit {0})) → i < length ns → n ≡ get_or ns i n → Unless e (f n h ≡ (Err e, u))
      → break_each f (drop i ns) h ≡ total → Unless e (total ≡ (Err e, u))
  unfolding break_each ◌>>◌ and_then
  stops ns i n h u e total lt at is so_far =
      subst (λ (o : Out (Unit {0})). Unless e (o ≡ (Err e, u))) (ap (λ (z : List ℕ). break_each f z h) (sym (first ns i n lt at)) ∙ so_far)
      (ends e u (f n h) (λ _. break_each f (drop (i + 1) ns)) is)

  pub done : (ns : List ℕ) (i : ℕ) (h : Host) (total : Out (Unit {0})) → length ns ≤ i → break_each f (drop i ns) h ≡ total → total ≡ (Ok tt, h)
  unfolding break_each give
  done ns i h total le so_far = sym so_far ∙ ap (λ (z : List ℕ). break_each f z h) (drop_all i ns le)
