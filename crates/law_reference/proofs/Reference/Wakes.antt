-- Which names come to wait: those that waited, and those that are free to.
use Rattle.std.proofs.Common.{◌≡◌, ℕ, Bool, true, false, List, [], ◌∷◌, ◌++◌, Option, Some, None, refl, sym, ap, ◌∙◌, ◌⊎◌, inl, inr}
use Rattle.def_machine.specs.Values.{Value, Name, same_reference, Naming, naming}
use Rattle.def_machine.specs.State.{Standing, Unsettled, Viewed, Settled, Known, Change, Hold, Wait, WaitOn, See, React, ToTell, Settle, with_change, changed, changed_to, unless_settled, begun}
use Rattle.def_machine.specs.Refs.{entry_of, standing_of, standing_in}
use Rattle.law_machine.specs.Machine.Breaks.{still_waits}
use Rattle.law_fate.specs.Name.Names.{IsEventual}
use Rattle.law_fate.proofs.Name.SameNames.{reference_is, reference_self}
use Rattle.law_fate.proofs.Name.Tracked.{same_name as name_stays}

-- what is known of it neither settled nor is a view
abbrev pub Waiting : Option (Known Name) → Type 0
Waiting (Some k) = still_waits k.standing ≡ true
Waiting None = ⊥

module _ (word : ℕ → ℕ) (v : ℕ) (IsFree : Name → Type 0) where
  abbrev Names : Naming Name Name
  Names = naming word v

  -- known, and it waits
  abbrev pub WaitsAt : List (Known Name) → Name → Type 0
  WaitsAt ks n = Waiting (entry_of Names ks n)

  -- what waits in t waited in s, or is free to
  abbrev pub Wakes : List (Known Name) → List (Known Name) → Type 0
  Wakes ks js = (n : Name) → WaitsAt js n → WaitsAt ks n ⊎ IsFree n

  pub same_wakes : (ks : List (Known Name)) → Wakes ks ks
  same_wakes ks n w = inl w

  pub wakes_on : (ks js is : List (Known Name)) → Wakes ks js → Wakes js is → Wakes ks is
  wakes_on ks js is h k n w = first (k n w)
    where
      first : WaitsAt js n ⊎ IsFree n → WaitsAt ks n ⊎ IsFree n
      first (inl i) = h n i
      first (inr f) = inr f

  -- ---- a change of what is known of a name

  unless_wakes : (t : Standing Name) (k j : Known Name) (m : Name) → (Waiting (Some j) → Waiting (Some k) ⊎ IsFree m) → Waiting (Some (unless_settled t k j)) → Waiting (Some k) ⊎ IsFree m
  unfolding unless_settled
  unless_wakes (Settled y) k j m f w = inl w
  unless_wakes other k j m f w = f w

  changed_wakes : (c : Change Name) (k : Known Name) (m : Name) → (Waiting (Some (changed_to c k)) → Waiting (Some k) ⊎ IsFree m) → Waiting (Some (changed c k)) → Waiting (Some k) ⊎ IsFree m
  unfolding changed
  changed_wakes c k m f w = unless_wakes k.standing k (changed_to c k) m f w

  found_now : (d : Bool) (k j : Known Name) (o : Option (Known Name)) (m : Name) → (d ≡ true → Waiting (Some j) → Waiting (Some k) ⊎ IsFree m) → Waiting (elim d [ true ↦ Some j | false ↦ o ]) → Waiting (elim d [ true ↦ Some k | false ↦ o ]) ⊎ IsFree m
  found_now true k j o m f w = f refl w
  found_now false k j o m f w = inl w

  found_later : (d : Bool) (k : Known Name) (o p : Option (Known Name)) (m : Name) → (Waiting p → Waiting o ⊎ IsFree m) → Waiting (elim d [ true ↦ Some k | false ↦ p ]) → Waiting (elim d [ true ↦ Some k | false ↦ o ]) ⊎ IsFree m
  found_later true k o p m f w = inl w
  found_later false k o p m f w = f w

  same_head : (d e : Bool) (j : Known Name) (o : Option (Known Name)) → d ≡ e → Waiting (elim d [ true ↦ Some j | false ↦ o ]) → Waiting (elim e [ true ↦ Some j | false ↦ o ])
  same_head d e j o i w = rw i at w

  head_wakes : (b : Bool) (c : Change Name) (k0 : Known Name) (ks rest : List (Known Name)) (m : Name) → (b ≡ true → k0.name ≡ m → Waiting (Some (changed_to c k0)) → Waiting (Some k0) ⊎ IsFree m) → (b ≡ false → WaitsAt rest m → WaitsAt ks m ⊎ IsFree m)
      → WaitsAt (elim b [ true ↦ changed c k0 ∷ ks | false ↦ k0 ∷ rest ]) m → WaitsAt (k0 ∷ ks) m ⊎ IsFree m
  unfolding entry_of naming
  head_wakes true c k0 ks rest m f g w = let same : same_reference (changed c k0).name m ≡ same_reference k0.name m = ap (λ n. same_reference n m) (name_stays Names c k0) in
      found_now (same_reference k0.name m) k0 (changed c k0) (entry_of Names ks m) m (λ e. changed_wakes c k0 m (f refl (reference_is k0.name m e))) (same_head (same_reference (changed c k0).name m) (same_reference k0.name m) (changed c k0) (entry_of Names ks m) same w)
  head_wakes false c k0 ks rest m f g w = found_later (same_reference k0.name m) k0 (entry_of Names ks m) (entry_of Names rest m) m (g refl) w

  pick_one : (b : Bool) (k0 : Known Name) (o : Option (Known Name)) → b ≡ true → ◌≡◌ {A = Option (Known Name)} (elim b [ true ↦ Some k0 | false ↦ o ]) (Some k0)
  pick_one b k0 o e = rw e refl

  pick_rest : (b : Bool) (k0 : Known Name) (o : Option (Known Name)) → b ≡ false → ◌≡◌ {A = Option (Known Name)} (elim b [ true ↦ Some k0 | false ↦ o ]) o
  pick_rest b k0 o e = rw e refl

  free_is : (n m : Name) → n ≡ m → (k : Known Name) → Waiting (Some k) ⊎ IsFree n → Waiting (Some k) ⊎ IsFree m
  free_is n m e k h = rw e at h

  pub change_wakes : (c : Change Name) (n : Name) (ks : List (Known Name)) → ((k : Known Name) → entry_of Names ks n ≡ Some k → Waiting (Some (changed_to c k)) → Waiting (Some k) ⊎ IsFree n) → Wakes ks (with_change Names c n ks)
  unfolding with_change entry_of naming
  change_wakes c n [] f m w = absurd w
  change_wakes c n (k0 ∷ ks) f m w = head_wakes (Names.same k0.name n) c k0 ks (with_change Names c n ks) m
      (λ e i w. free_is n m (sym (reference_is k0.name n e) ∙ i) k0 (f k0 (pick_one (Names.same k0.name n) k0 (entry_of Names ks n) e) w))
      (λ e w. change_wakes c n ks (λ k i. f k (pick_rest (Names.same k0.name n) k0 (entry_of Names ks n) e ∙ i)) m w) w

  -- each kind of change but a wait wakes nothing
  pub hold_wakes : (m : _) (n : Name) (ks : List (Known Name)) → Wakes ks (with_change Names (Hold m) n ks)
  unfolding changed_to
  hold_wakes m n ks = change_wakes (Hold m) n ks (λ k i w. inl w)

  pub react_wakes : (m : _) (n : Name) (ks : List (Known Name)) → Wakes ks (with_change Names (React m) n ks)
  unfolding changed_to
  react_wakes m n ks = change_wakes (React m) n ks (λ k i w. inl w)

  pub wait_wakes : (q n : Name) (ks : List (Known Name)) → Wakes ks (with_change Names (Wait q) n ks)
  unfolding changed_to
  wait_wakes q n ks = change_wakes (Wait q) n ks (λ k i w. inl w)

  pub tell_wakes : (u : ℕ) (n : Name) (ks : List (Known Name)) → Wakes ks (with_change Names (ToTell u) n ks)
  unfolding changed_to
  tell_wakes u n ks = change_wakes (ToTell u) n ks (λ k i w. inl w)

  view_waits : (q : Name) → still_waits (Viewed q) ≡ true → ⊥
  unfolding still_waits
  view_waits q e = cc

  settled_waits : (y : _) → still_waits {N = Name} (Settled y) ≡ true → ⊥
  unfolding still_waits
  settled_waits y e = cc

  pub see_wakes : (q n : Name) (ks : List (Known Name)) → Wakes ks (with_change Names (See q) n ks)
  unfolding changed_to
  see_wakes q n ks = change_wakes (See q) n ks (λ k i w. absurd (view_waits q w))

  pub settle_wakes : (y : _) (n : Name) (ks : List (Known Name)) → Wakes ks (with_change Names (Settle y) n ks)
  unfolding changed_to
  settle_wakes y n ks = change_wakes (Settle y) n ks (λ k i w. absurd (settled_waits y w))

  -- a wait wakes the name, where that is free to, or did not settle and is not viewed
  pub free_wait_wakes : (q n : Name) (ks : List (Known Name)) → IsFree n → Wakes ks (with_change Names (WaitOn q) n ks)
  free_wait_wakes q n ks f = change_wakes (WaitOn q) n ks (λ k i w. inr f)

  open_waits : (k : Known Name) → k.standing ≡ Unsettled → Waiting (Some k)
  unfolding still_waits
  open_waits k e = rw e refl

  pub open_wait_wakes : (q n : Name) (ks : List (Known Name)) → standing_of Names ks n ≡ Unsettled → Wakes ks (with_change Names (WaitOn q) n ks)
  unfolding standing_of standing_in
  open_wait_wakes q n ks e = change_wakes (WaitOn q) n ks (λ k i w. inl (open_waits k (rw i at e)))

  -- ---- a name that comes to be known

  last_wakes : (d : Bool) (k : Known Name) (n m : Name) → (d ≡ true → n ≡ m) → Waiting (elim d [ true ↦ Some k | false ↦ None ]) → n ≡ m
  last_wakes true k n m f w = f refl
  last_wakes false k n m f w = absurd w

  pub last_or : (ks : List (Known Name)) (n : Name) (h : ℕ) (m : Name) → WaitsAt (ks ++ begun n h ∷ []) m → WaitsAt ks m ⊎ (n ≡ m)
  unfolding entry_of naming begun
  last_or [] n h m w = inr (last_wakes (same_reference n m) (begun n h) n m (reference_is n m) w)
  last_or (k0 ∷ ks) n h m w = either (same_reference k0.name m) w (λ i. last_or ks n h m i)
    where
      either : (d : Bool) → Waiting (elim d [ true ↦ Some k0 | false ↦ entry_of Names (ks ++ begun n h ∷ []) m ]) → (WaitsAt (ks ++ begun n h ∷ []) m → WaitsAt ks m ⊎ (n ≡ m)) → Waiting (elim d [ true ↦ Some k0 | false ↦ entry_of Names ks m ]) ⊎ (n ≡ m)
      either true i g = inl i
      either false i g = g i

  pub came_wakes : (ks : List (Known Name)) (n : Name) (h : ℕ) → IsFree n → Wakes ks (ks ++ begun n h ∷ [])
  came_wakes ks n h f m w = pick (last_or ks n h m w)
    where
      pick : WaitsAt ks m ⊎ (n ≡ m) → WaitsAt ks m ⊎ IsFree m
      pick (inl i) = inl i
      pick (inr e) = inr (rw e at f)

  -- ---- what is found

  entry_settled : (o : Option (Known Name)) (y : Value Name) → standing_in o ≡ Settled y → Waiting o → ⊥
  unfolding standing_in
  entry_settled (Some k) y e w = settled_waits y (rw e at w)
  entry_settled None y e w = absurd w

  -- what settled does not wait
  pub settled_rests : (ks : List (Known Name)) (n : Name) (y : Value Name) → standing_of Names ks n ≡ Settled y → WaitsAt ks n → ⊥
  unfolding standing_of
  settled_rests ks n y e w = entry_settled (entry_of Names ks n) y e w

  either_found : (b : Bool) (k0 : Known Name) (o : Option (Known Name)) → (k : Known Name) × (o ≡ Some k) → (k : Known Name) × ◌≡◌ {A = Option (Known Name)} (elim b [ true ↦ Some k0 | false ↦ o ]) (Some k)
  either_found true k0 o h = (k0, refl)
  either_found false k0 o h = h

  -- a name that came to be known is found
  pub came_found : (ks : List (Known Name)) (n : Name) (h : ℕ) → IsEventual n → (k : Known Name) × (entry_of Names (ks ++ begun n h ∷ []) n ≡ Some k)
  unfolding entry_of naming begun
  came_found [] n h eventual = (begun n h, pick_one (same_reference n n) (begun n h) None (reference_self n eventual))
  came_found (k0 ∷ ks) n h eventual = either_found (same_reference k0.name n) k0 (entry_of Names (ks ++ begun n h ∷ []) n) (came_found ks n h eventual)

  -- where a name settled, that it came to be known wakes nothing
  pub came_settled : (ks us : List (Known Name)) (g : Name) (h : ℕ) (y : Value Name) → standing_of Names us g ≡ Settled y → Wakes (ks ++ begun g h ∷ []) us → Wakes ks us
  came_settled ks us g h y e f n w = first (f n w)
    where
      same : g ≡ n → ⊥
      same i = settled_rests us n y (rw i at e) w

      second : WaitsAt ks n ⊎ (g ≡ n) → WaitsAt ks n ⊎ IsFree n
      second (inl a) = inl a
      second (inr i) = absurd (same i)

      first : WaitsAt (ks ++ begun g h ∷ []) n ⊎ IsFree n → WaitsAt ks n ⊎ IsFree n
      first (inl a) = second (last_or ks g h n a)
      first (inr a) = inr a
