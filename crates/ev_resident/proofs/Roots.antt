-- The names of a vat at its start.
use Rattle.std.proofs.Common.{◌≡◌, ◌+◌, ◌<◌, ◌≤◌, ℕ, zero, List, [], ◌∷◌, drop, get_or, length, map, refl, sym, ap, ◌∙◌}
use Rattle.std.proofs.lemmas.List.{drop_all, drop_more}
use Rattle.ev_base.specs.declared.names.Name.{Name as ShownName}
use Rattle.ev_base.specs.declared.names.Name.TheVariants as shown
use Rattle.def_machine.specs.State.{Vat}
use Rattle.def_machine.specs.Values.{Name, Root, Local}
use Rattle.def_run.specs.Shown.{shown_name}
use Rattle.ev_resident.specs.Names.{Named, names_first}
use Rattle.ev_resident.specs.OutcomeStanding.{NamesStand}
use Rattle.ev_resident.specs.Starting.{with_root, with_roots}

pub roots_on : (vs : List ℕ) (k v : ℕ) (n m total : Named) → k < length vs → v ≡ get_or vs k v → m ≡ with_root v n → with_roots (drop k vs) n ≡ total → with_roots (drop (k + 1) vs) m ≡ total
unfolding with_roots
roots_on vs k v n m total lt at is so_far =
    ap (λ (q : Named). with_roots (drop (k + 1) vs) q) is
    ∙ ap (λ (x : ℕ). with_roots (drop (k + 1) vs) (with_root x n)) at
    ∙ ap (λ (xs : List ℕ). with_roots xs n) (sym (drop_more vs k v lt))
    ∙ so_far

pub roots_done : (vs : List ℕ) (k : ℕ) (n total : Named) → length vs ≤ k → with_roots (drop k vs) n ≡ total → n ≡ total
unfolding with_roots
roots_done vs k n total le so_far = ap (λ (xs : List ℕ). with_roots xs n) (sym (drop_all k vs le)) ∙ so_far

-- what is known of names stays so
module _ (ds : List ℕ) (u : ℕ) (s : Vat Local) (known : List Name) where
  roots_stand : (vs : List ℕ) (n : Named) → NamesStand ds u s (record { known = known; mails = [] }) n → NamesStand ds u s (record { known = known; mails = [] }) (with_roots vs n)
  unfolding with_roots
  roots_stand [] n h = h
  roots_stand (v ∷ vs) n h = roots_stand vs (with_root v n) (record { vat = h.vat; names = h.names; mails = h.mails; counts = record { promises = h.counts.promises; messages = h.counts.messages; gifts = h.counts.gifts } })

roots_shown : (ds vs : List ℕ) → map shown.Root vs ≡ map (shown_name ds) (map Root vs)
unfolding shown_name
roots_shown ds [] = refl
roots_shown ds (v ∷ vs) = ap (λ (ns : List ShownName). shown.Root v ∷ ns) (roots_shown ds vs)

-- the names at the start stand for the roots of the vat and of those that it knows
pub first_stand : (ds : List ℕ) (u : ℕ) (vs : List ℕ) (count : ℕ) (s : Vat Local) → s.promises ≡ zero → s.messages ≡ zero → s.gifts ≡ []
    → NamesStand ds u s (record { known = Root u ∷ map Root vs; mails = [] }) (with_roots vs (names_first u vs count))
unfolding shown_name
first_stand ds u vs count s promises messages gifts =
    roots_stand ds u s (Root u ∷ map Root vs) vs (names_first u vs count) (record {
      vat = refl;
      names = ap (λ (ns : List ShownName). shown.Root u ∷ ns) (roots_shown ds vs);
      mails = refl;
      counts = record { promises = sym promises; messages = sym messages; gifts = sym (ap length gifts) };
    })
