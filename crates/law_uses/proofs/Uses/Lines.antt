-- The lines of a history one behind the other: what stands before each, what they tell, and what they lead to.
use Rattle.std.proofs.Common.{◌≡◌, ℕ, List, [], ◌∷◌, ◌++◌, Option, Some, None, refl, sym, ap, ◌∙◌, subst, map, ◌⊎◌, inl, inr}
use Rattle.def_event.specs.declared.event.Event.{Event}
use Rattle.def_event.specs.Uses.{Line, line_after, and_lines, IsAmong, Lead, leads, IsLead, or_else, first_of, last_of}

-- ---- one history behind another

pub lines_join : (past : List Line) (es fs : List Event) → and_lines past (es ++ fs) ≡ and_lines (and_lines past es) fs
lines_join past [] fs = refl
lines_join past (e ∷ es) fs = lines_join (line_after past e ∷ past) es fs

or_none : {A : Type 0} (x : Option A) → x ≡ or_else x None
or_none (Some a) = refl
or_none None = refl

or_joined : {A : Type 0} (x y z : Option A) → or_else (or_else x y) z ≡ or_else x (or_else y z)
or_joined (Some a) y z = refl
or_joined None y z = refl

module _ {A : Type 0} (f : Event → Option A) where
  pub last_join : (es fs : List Event) → last_of f (es ++ fs) ≡ or_else (last_of f fs) (last_of f es)
  last_join [] fs = or_none (last_of f fs)
  last_join (e ∷ es) fs = ap (λ o. or_else o (f e)) (last_join es fs) ∙ or_joined (last_of f fs) (last_of f es) (f e)

  pub first_join : (es fs : List Event) → first_of f (es ++ fs) ≡ or_else (first_of f es) (first_of f fs)
  first_join [] fs = refl
  first_join (e ∷ es) fs = ap (λ o. or_else (f e) o) (first_join es fs) ∙ sym (or_joined (f e) (first_of f es) (first_of f fs))

  -- the lines stand with the last of them first
  pub first_lines : (past : List Line) (es : List Event) → first_of f (map (λ l. l.event) (and_lines past es)) ≡ or_else (last_of f es) (first_of f (map (λ l. l.event) past))
  first_lines past [] = refl
  first_lines past (e ∷ es) = first_lines (line_after past e ∷ past) es ∙ sym (or_joined (last_of f es) (f e) (first_of f (map (λ l. l.event) past)))

-- ---- what lines lead to

module _ {A B : Type 0} (f : A → B) where
  pub among_map : (x : A) (xs : List A) → IsAmong x xs → IsAmong (f x) (map f xs)
  among_map x [] i = i
  among_map x (y ∷ xs) (inl e) = inl (ap f e)
  among_map x (y ∷ xs) (inr i) = inr (among_map x xs i)

  pub map_among : (y : B) (xs : List A) → IsAmong y (map f xs) → (x : A) × IsAmong x xs × (f x ≡ y)
  map_among y [] i = absurd i
  map_among y (x ∷ xs) (inl e) = (x, inl refl, e)
  map_among y (x ∷ xs) (inr i) = let r = map_among y xs i in (r.0, inr r.1, r.2)

pub lead_before : (l : Line) (past : List Line) (d : Lead) → IsLead past d → IsLead (l ∷ past) d
unfolding IsLead
lead_before l past d h = inl h

lead_now : (l : Line) (past : List Line) (d : Lead) → IsAmong d (leads l.at l.event) → IsLead (l ∷ past) d
unfolding IsLead
lead_now l past d h = inr h

lead_either : (l : Line) (past : List Line) (d : Lead) → IsLead (l ∷ past) d → IsLead past d ⊎ IsAmong d (leads l.at l.event)
unfolding IsLead
lead_either l past d h = h

pub no_lead : (d : Lead) → IsLead [] d → ⊥
unfolding IsLead
no_lead d h = h

pub lead_stays : (past : List Line) (es : List Event) (d : Lead) → IsLead past d → IsLead (and_lines past es) d
lead_stays past [] d h = h
lead_stays past (e ∷ es) d h = lead_stays (line_after past e ∷ past) es d (lead_before (line_after past e) past d h)

-- what an event leads to at each place its line leads to
pub lead_told : (past : List Line) (es : List Event) (e : Event) (D : ℕ → Lead) → ((at : ℕ) → IsAmong (D at) (leads at e)) → IsAmong e es → (at : ℕ) × IsLead (and_lines past es) (D at)
lead_told past [] e D f i = absurd i
lead_told past (x ∷ es) e D f (inl q) = let l = line_after past x in (l.at, lead_stays (l ∷ past) es (D l.at) (lead_now l past (D l.at) (subst (λ y. IsAmong (D l.at) (leads l.at y)) (sym q) (f l.at))))
lead_told past (x ∷ es) e D f (inr i) = lead_told (line_after past x ∷ past) es e D f i

pub lead_from : (past : List Line) (es : List Event) (d : Lead) → IsLead (and_lines past es) d → IsLead past d ⊎ ((at : ℕ) × (e : Event) × IsAmong e es × IsAmong d (leads at e))
lead_from past [] d h = inl h
lead_from past (e ∷ es) d h = either (lead_from (line_after past e ∷ past) es d h)
  where
    before : IsLead past d ⊎ IsAmong d (leads (line_after past e).at e) → IsLead past d ⊎ ((at : ℕ) × (x : Event) × IsAmong x (e ∷ es) × IsAmong d (leads at x))
    before (inl i) = inl i
    before (inr i) = inr ((line_after past e).at, e, inl refl, i)

    either : IsLead (line_after past e ∷ past) d ⊎ ((at : ℕ) × (x : Event) × IsAmong x es × IsAmong d (leads at x)) → IsLead past d ⊎ ((at : ℕ) × (x : Event) × IsAmong x (e ∷ es) × IsAmong d (leads at x))
    either (inl i) = before (lead_either (line_after past e) past d i)
    either (inr r) = inr (r.0, r.1, inr r.2, r.3)
