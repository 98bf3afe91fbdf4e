-- The view of a name comes later among the names known than the name does.
use Rattle.std.proofs.Common.{◌≡◌, Bool, true, false, List, [], ◌∷◌, ◌++◌, refl, sym, ◌∙◌, inl, inr, ◌⊎◌, subst}
use Rattle.def_machine.specs.Values.{Name, Naming}
use Rattle.def_machine.specs.State.{Known, Standing, Unsettled, Viewed, Settled, Change, WaitOn, See, Settle, with_change, changed, changed_to, unless_settled}
use Rattle.law_fate.specs.Name.Names.{IsAmong, names_in}
use Rattle.law_fate.proofs.Name.Care.{ViewsNone}
use Rattle.law_fate.proofs.Name.Among.{among_more, among_last, among_or, names_end}

-- no view, or one that is among the later names and not among those before
abbrev pub LooksOn : List Name → List Name → Standing Name → Type 0
LooksOn before later (Viewed q) = (IsAmong q before → ⊥) × IsAmong q later
LooksOn before later other = Unit {0}

-- of each of these names, which stand behind those
abbrev pub AllLookOn : List Name → List (Known Name) → Type 0
AllLookOn before [] = Unit {0}
AllLookOn before (k ∷ ks) = LooksOn (before ++ k.name ∷ []) (names_in ks) k.standing × AllLookOn (before ++ k.name ∷ []) ks

looks_later : (before later more : List Name) (t : Standing Name) → ((n : Name) → IsAmong n later → IsAmong n more) → LooksOn before later t → LooksOn before more t
looks_later before later more (Viewed q) f h = (h.0, f q h.1)
looks_later before later more other f h = tt

-- a name that comes to be known views nothing
pub look_on_end : (before : List Name) (ks : List (Known Name)) (k : Known Name) → k.standing ≡ Unsettled → AllLookOn before ks → AllLookOn before (ks ++ k ∷ [])
look_on_end before [] k e h = (rw e tt, tt)
look_on_end before (j ∷ ks) k e h = (looks_later (before ++ j.name ∷ []) (names_in ks) (names_in (ks ++ k ∷ [])) j.standing (λ n i. rw (sym (names_end ks k)) at (among_more n (names_in ks) k.name i)) h.0, look_on_end (before ++ j.name ∷ []) ks k e h.1)

to_looks : (before later : List Name) (c : Change Name) (k : Known Name) → ViewsNone c → LooksOn before later k.standing → LooksOn before later (changed_to c k).standing
unfolding changed_to
to_looks before later (WaitOn q) k none h = tt
to_looks before later (See q) k none h = absurd none
to_looks before later (Settle y) k none h = tt
to_looks before later other k none h = h

unless_looks : (before later : List Name) (t : Standing Name) (k new : Known Name) → LooksOn before later k.standing → LooksOn before later new.standing → LooksOn before later (unless_settled t k new).standing
unfolding unless_settled
unless_looks before later (Settled y) k new h i = h
unless_looks before later other k new h i = i

-- the name that was changed, or the names behind it
either_look : (b : Bool) (before : List Name) (j k : Known Name) (js ks : List (Known Name)) → j.name ≡ k.name → names_in js ≡ names_in ks → LooksOn (before ++ k.name ∷ []) (names_in ks) j.standing → LooksOn (before ++ k.name ∷ []) (names_in ks) k.standing
    → AllLookOn (before ++ k.name ∷ []) js → AllLookOn (before ++ k.name ∷ []) ks → AllLookOn before (elim b [ true ↦ j ∷ ks | false ↦ k ∷ js ])
either_look true before j k js ks e f a b c d = rw e (a, d)
either_look false before j k js ks e f a b c d = (rw f b, c)

module _ (K : Naming Name Name) where
  module _ (same_names : (c : Change Name) (n : Name) (ks : List (Known Name)) → names_in (with_change K c n ks) ≡ names_in ks) (same_name : (c : Change Name) (k : Known Name) → (changed c k).name ≡ k.name) where
    -- a change by which no name comes to be viewed
    pub look_on_change : (before : List Name) (c : Change Name) (n : Name) (ks : List (Known Name)) → ViewsNone c → AllLookOn before ks → AllLookOn before (with_change K c n ks)
    unfolding with_change changed
    look_on_change before c n [] none h = tt
    look_on_change before c n (k ∷ ks) none h = either_look (K.same k.name n) before (changed c k) k (with_change K c n ks) ks (same_name c k) (same_names c n ks)
        (unless_looks (before ++ k.name ∷ []) (names_in ks) k.standing k (changed_to c k) h.0 (to_looks (before ++ k.name ∷ []) (names_in ks) c k none h.0)) h.0 (look_on_change (before ++ k.name ∷ []) c n ks none h.1) h.1

    -- a name that was known comes to be viewed as the name that came last
    pub look_on_see : (g n : Name) → (n ≡ g → ⊥) → ((k : Known Name) → K.same k.name n ≡ true → k.name ≡ n) → (before : List Name) (ks : List (Known Name)) (e : Known Name) → e.name ≡ g → (IsAmong g before → ⊥) → (IsAmong g (names_in ks) → ⊥)
        → AllLookOn before (ks ++ e ∷ []) → AllLookOn before (with_change K (See g) n (ks ++ e ∷ []))
    unfolding with_change changed changed_to
    look_on_see g n other alike before [] e i fresh new h = last (K.same e.name n) refl
      where
        last : (b : Bool) → K.same e.name n ≡ b → AllLookOn before (elim b [ true ↦ changed (See g) e ∷ [] | false ↦ e ∷ [] ])
        last true j = absurd (other (sym (alike e j) ∙ i))
        last false j = h
    look_on_see g n other alike before (k ∷ ks) e i fresh new h = either_look (K.same k.name n) before (changed (See g) k) k (with_change K (See g) n (ks ++ e ∷ [])) (ks ++ e ∷ []) (same_name (See g) k) (same_names (See g) n (ks ++ e ∷ []))
        (unless_looks (before ++ k.name ∷ []) (names_in (ks ++ e ∷ [])) k.standing k (changed_to (See g) k) h.0 seen) h.0 (look_on_see g n other alike (before ++ k.name ∷ []) ks e i not_before (λ a. new (inr a)) h.1) h.1
      where
        or : IsAmong g before ⊎ (g ≡ k.name) → ⊥
        or (inl a) = fresh a
        or (inr j) = new (inl j)

        not_before : IsAmong g (before ++ k.name ∷ []) → ⊥
        not_before a = or (among_or g before k.name a)

        seen : LooksOn (before ++ k.name ∷ []) (names_in (ks ++ e ∷ [])) (changed_to (See g) k).standing
        seen = let same : IsAmong g (names_in ks ++ e.name ∷ []) = subst (λ n. IsAmong g (names_in ks ++ n ∷ [])) (sym i) (among_last (names_in ks) g) in (not_before, rw (sym (names_end ks e)) at same)
