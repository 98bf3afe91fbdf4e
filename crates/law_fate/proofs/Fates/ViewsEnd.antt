-- Where the view of each name comes later among the names known, views end.
use Rattle.std.proofs.Common.{◌≡◌, ℕ, ◌≤◌, zero, suc, Bool, true, false, List, [], ◌∷◌, ◌++◌, Option, Some, refl, sym, ap, ◌∙◌, inl, inr, ◌⊎◌, length, append_assoc, subst, arith}
use Rattle.def_machine.specs.Values.{Name, Naming, naming}
use Rattle.def_machine.specs.State.{Known, Standing, Unsettled, Viewed, Vat}
use Rattle.def_machine.specs.Refs.{entry_of, standing_of, standing_in}
use Rattle.law_fate.specs.Name.Names.{AllOf, IsAmong, IsEventual, names_in}
use Rattle.law_fate.proofs.Name.Views.{LooksOn, AllLookOn}
use Rattle.law_fate.proofs.Name.Among.{among_or, names_end, all_among}
use Rattle.law_fate.proofs.Name.SameNames.{reference_is, reference_self}
use Rattle.law_fate.specs.Fates.Finding as finding
use Rattle.law_fate.specs.Fates.Finding.{ViewIs, ViewsEndIn, ViewsEnd}

true_false : true ≡ false → ⊥
true_false e = cc

module _ (K : Naming Name Name) (alike : (a b : Name) → K.same a b ≡ true → a ≡ b) (alone : (a : Name) → IsEventual a → K.same a a ≡ true) where
  found_either : (k : Known Name) (q : Name) (o : Option (Known Name)) (b : Bool) → K.same q q ≡ true → K.same k.name q ≡ b → (q ≡ k.name) ⊎ ((j : Known Name) × (o ≡ Some j)) → (j : Known Name) × (elim b [ true ↦ Some k | false ↦ o ] ≡ Some j)
  found_either k q o true self e h = (k, refl)
  found_either k q o false self e (inl i) = absurd (true_false (sym self ∙ ap (λ n. K.same n q) i ∙ e))
  found_either k q o false self e (inr h) = h

  -- a name that is known has an entry
  pub among_known : (ks : List (Known Name)) (q : Name) → K.same q q ≡ true → IsAmong q (names_in ks) → finding.IsAmong K ks q
  unfolding entry_of
  among_known [] q self h = absurd h
  among_known (k ∷ ks) q self (inl e) = found_either k q (entry_of K ks q) (K.same k.name q) self refl (inl e)
  among_known (k ∷ ks) q self (inr a) = found_either k q (entry_of K ks q) (K.same k.name q) self refl (inr (among_known ks q self a))

  known_self : (all : List (Known Name)) (q : Name) → AllOf IsEventual (names_in all) → IsAmong q (names_in all) → K.same q q ≡ true
  known_self all q eventual a = alone q (all_among IsEventual (names_in all) q eventual a)

  past_either : (k : Known Name) (o p : Option (Known Name)) (n : Name) (b : Bool) → K.same k.name n ≡ b → (n ≡ k.name → ⊥) → o ≡ p → elim b [ true ↦ Some k | false ↦ o ] ≡ p
  past_either k o p n true e f g = absurd (f (sym (alike k.name n e)))
  past_either k o p n false e f g = g

  -- names that are others are passed by
  entry_past : (front ks : List (Known Name)) (n : Name) → (IsAmong n (names_in front) → ⊥) → entry_of K (front ++ ks) n ≡ entry_of K ks n
  unfolding entry_of
  entry_past [] ks n f = refl
  entry_past (k ∷ front) ks n f = past_either k (entry_of K (front ++ ks) n) (entry_of K ks n) n (K.same k.name n) refl (λ e. f (inl e)) (entry_past front ks n (λ a. f (inr a)))

  none_ends : (d : ℕ) (all : List (Known Name)) (n : Name) → standing_of K all n ≡ Unsettled → ViewsEndIn K d all n
  none_ends zero all n e = rw e tt
  none_ends (suc d) all n e = rw e tt

  view_ends : (d : ℕ) (all : List (Known Name)) (before later : List Name) (t : Standing Name) → LooksOn before later t → ((q : Name) → (IsAmong q before → ⊥) → IsAmong q later → ViewsEndIn K d all q × finding.IsAmong K all q) → ViewIs K (ViewsEndIn K d all) all t
  view_ends d all before later (Viewed q) h f = f q h.0 h.1
  view_ends d all before later other h f = tt

  among_later : (front : List (Known Name)) (q : Name) (ks : List (Known Name)) → IsAmong q (names_in ks) → IsAmong q (names_in (front ++ ks))
  among_later [] q ks h = h
  among_later (k ∷ front) q ks h = inr (among_later front q ks h)

  hit : (k : Known Name) (o : Option (Known Name)) (b : Bool) → b ≡ true → elim b [ true ↦ Some k | false ↦ o ] ≡ Some k
  hit k o true e = refl
  hit k o false e = cc

  ends_either : (d : ℕ) (all front : List (Known Name)) (k : Known Name) (ks : List (Known Name)) (n : Name) (b : Bool) → AllOf IsEventual (names_in all) → K.same k.name n ≡ b → all ≡ front ++ (k ∷ ks) → LooksOn (names_in front ++ k.name ∷ []) (names_in ks) k.standing
      → ((q : Name) → (IsAmong q (names_in front ++ k.name ∷ []) → ⊥) → ViewsEndIn K d all q) → ((IsAmong n (names_in front ++ k.name ∷ []) → ⊥) → ViewsEndIn K (suc d) all n) → (IsAmong n (names_in front) → ⊥) → ViewsEndIn K (suc d) all n
  unfolding standing_of standing_in entry_of
  ends_either d all front k ks n true eventual i e h on same f = subst (λ t. ViewIs K (ViewsEndIn K d all) all t) (sym stands) (view_ends d all (names_in front ++ k.name ∷ []) (names_in ks) k.standing h (λ q a b. let known : IsAmong q (names_in all) = rw (sym e) at (among_later front q (k ∷ ks) (inr b)) in (on q a, among_known all q (known_self all q eventual known) known)))
    where
      stands : standing_of K all n ≡ k.standing
      stands = ap standing_in (ap (λ js. entry_of K js n) e ∙ (entry_past front (k ∷ ks) n f ∙ hit k (entry_of K ks n) (K.same k.name n) i))
  ends_either d all front k ks n false eventual i e h on same f = same (λ a. or (among_or n (names_in front) k.name a))
    where
      or : IsAmong n (names_in front) ⊎ (n ≡ k.name) → ⊥
      or (inl a) = f a
      or (inr j) = true_false (sym (known_self all n eventual (rw (sym e) at (among_later front n (k ∷ ks) (inl j)))) ∙ (ap (λ m. K.same m n) j ∙ i))

  ends_at : (d : ℕ) (all front ks : List (Known Name)) → AllOf IsEventual (names_in all) → all ≡ front ++ ks → length ks ≤ d → AllLookOn (names_in front) ks → (n : Name) → (IsAmong n (names_in front) → ⊥) → ViewsEndIn K d all n
  unfolding standing_of standing_in entry_of
  ends_at d all front [] eventual e l h n f = none_ends d all n (ap standing_in (ap (λ ks. entry_of K ks n) e ∙ entry_past front [] n f))
  ends_at zero all front (k ∷ ks) eventual e l h n f = absurd (omega arith)
  ends_at (suc d) all front (k ∷ ks) eventual e l h n f = let joined : all ≡ (front ++ k ∷ []) ++ ks = e ∙ sym (append_assoc front (k ∷ []) ks) in
      let looks : AllLookOn (names_in (front ++ k ∷ [])) ks = rw (sym (names_end front k)) at h.1 in
      ends_either d all front k ks n (K.same k.name n) eventual refl e h.0 (λ q a. ends_at d all (front ++ k ∷ []) ks eventual joined (omega arith) looks q (λ b. a (rw (names_end front k) at b)))
      (λ a. ends_at (suc d) all (front ++ k ∷ []) ks eventual joined (omega arith) looks n (λ b. a (rw (names_end front k) at b))) f

-- from each name, where names are global
pub views_end : (word : ℕ → ℕ) (v : ℕ) (s : Vat Name) → AllOf IsEventual (names_in s.known) → AllLookOn [] s.known → ViewsEnd (naming word v) s
unfolding naming
views_end word v s eventual h n = ends_at (naming word v) reference_is reference_self (length s.known) s.known [] s.known eventual refl (omega arith) h n (λ a. a)
