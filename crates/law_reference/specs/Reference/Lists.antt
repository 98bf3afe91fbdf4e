-- What lists are made of, and where their members lead.
use Rattle.std.specs.Prelude.{◌≡◌, ℕ, zero, suc, true, false, List, [], ◌∷◌, ◌++◌, ◌⊎◌, Some, length, slice_get}
use Rattle.def_machine.specs.Values.{Value, Null, Flag, Number, Letter, Text, Prim, Broken, Items, Ref, Name, Naming, naming}
use Rattle.def_machine.specs.State.{Change, Hold, Wait, WaitOn, See, React, ToTell, Settle, Viewed, Settled, Known, Vat, with_change, begun}
use Rattle.def_machine.specs.Native.{list_at}
use Rattle.def_machine.specs.Refs.{standing_of, follow_at, follow, target_of}
use Rattle.law_machine.specs.Machine.Breaks.{still_waits}
use Rattle.def_run.specs.World.{Script, Program, Entry, World, Goes, begins, open_from, steps_from, names}
use Rattle.law_frozen.specs.Frozen.{AllOf, IsAmong, Lists, AreThere, Sound}

-- It holds of each vat in the world after any of the opening turns of any script, and after all of them and any entries.
abbrev pub InEveryVat : (Script → ℕ → Vat Name → Type 0) → Type 0
InEveryVat P = (script : Script)
    → ((ps rest : List Program) (w : World) → script.vats ≡ ps ++ rest → open_from script zero ps (begins script) ≡ Goes w → (v : ℕ) (s : Vat Name) → slice_get w.vats v ≡ Some s → P script v s)
    × ((w x : World) (es : List Entry) (k : ℕ) → open_from script zero script.vats (begins script) ≡ Goes w → steps_from script es k w ≡ Goes x → (v : ℕ) (s : Vat Name) → slice_get x.vats v ≡ Some s → P script v s)

-- Each list that stands in a value of the vat is there, and a list among the members of another was there before it.
abbrev pub ListsAreThere : Type 0
ListsAreThere = InEveryVat (λ script v s. Sound (names script v) s)

-- by members, in so many steps at most, to no list
abbrev pub MembersEndIn : ℕ → Lists Name → Value Name → Type 0
MembersEndIn zero ls (Items k) = ⊥
MembersEndIn (suc d) ls (Items k) = AllOf (MembersEndIn d ls) (list_at ls k)
MembersEndIn d ls Null = Unit {0}
MembersEndIn d ls (Flag b) = Unit {0}
MembersEndIn d ls (Number z) = Unit {0}
MembersEndIn d ls (Letter c) = Unit {0}
MembersEndIn d ls (Text t) = Unit {0}
MembersEndIn d ls (Prim n) = Unit {0}
MembersEndIn d ls (Broken p) = Unit {0}
MembersEndIn d ls (Ref n) = Unit {0}

-- List number k is no more than k + 1 high, by its members alone.
abbrev pub MembersEndInRuns : Type 0
MembersEndInRuns = InEveryVat (λ script v s. (k : ℕ) → MembersEndIn (suc k) s.lists (Items k))

-- ---- members that are followed

module _ (K : Naming Name Name) where
  -- y is a member of the list x, followed
  abbrev pub Leads : Vat Name → Value Name → Value Name → Type 0
  Leads s (Items k) y = (v : Value Name) × IsAmong v (list_at s.lists k) × (follow K s v ≡ y)
  Leads s Null y = ⊥
  Leads s (Flag b) y = ⊥
  Leads s (Number z) y = ⊥
  Leads s (Letter c) y = ⊥
  Leads s (Text t) y = ⊥
  Leads s (Prim n) y = ⊥
  Leads s (Broken p) y = ⊥
  Leads s (Ref n) y = ⊥

  -- by so many members, each followed
  abbrev pub LeadsIn : ℕ → Vat Name → Value Name → Value Name → Type 0
  LeadsIn zero s x y = x ≡ y
  LeadsIn (suc d) s x y = (z : Value Name) × Leads s x z × LeadsIn d s z y

  -- By members, each followed, any number of times, one comes from no list to that list.
  abbrev pub NoListLeadsBack : Vat Name → Type 0
  NoListLeadsBack s = (k d : ℕ) → LeadsIn (suc d) s (Items k) (Items k) → ⊥

  -- it has no members
  abbrev pub HasNone : Vat Name → Value Name → Type 0
  HasNone s (Items k) = list_at s.lists k ≡ []
  HasNone s Null = Unit {0}
  HasNone s (Flag b) = Unit {0}
  HasNone s (Number z) = Unit {0}
  HasNone s (Letter c) = Unit {0}
  HasNone s (Text t) = Unit {0}
  HasNone s (Prim n) = Unit {0}
  HasNone s (Broken p) = Unit {0}
  HasNone s (Ref n) = Unit {0}

  -- by members, each followed, one comes in so many steps at most to values without members
  abbrev pub LeadingEndsIn : ℕ → Vat Name → Value Name → Type 0
  LeadingEndsIn zero s x = HasNone s x
  LeadingEndsIn (suc d) s (Items k) = AllOf (λ v. LeadingEndsIn d s (follow K s v)) (list_at s.lists k)
  LeadingEndsIn (suc d) s Null = Unit {0}
  LeadingEndsIn (suc d) s (Flag b) = Unit {0}
  LeadingEndsIn (suc d) s (Number z) = Unit {0}
  LeadingEndsIn (suc d) s (Letter c) = Unit {0}
  LeadingEndsIn (suc d) s (Text t) = Unit {0}
  LeadingEndsIn (suc d) s (Prim n) = Unit {0}
  LeadingEndsIn (suc d) s (Broken p) = Unit {0}
  LeadingEndsIn (suc d) s (Ref n) = Unit {0}

  -- where it is a name, that neither settled nor is viewed
  abbrev pub IsEnd : Vat Name → Value Name → Type 0
  IsEnd s y = (n : Name) → y ≡ Ref n → still_waits (standing_of K s.known n) ≡ true

  -- p neither settled nor is viewed, and is followed to itself; and y is what it settles to behind the test
  abbrev pub IsTested : Vat Name → Value Name → Name → Type 0
  IsTested s y p = (x : Value Name) × (y ≡ target_of K s p x) × (still_waits (standing_of K s.known p) ≡ true) × (follow K s (Ref p) ≡ Ref p)

  -- its view settled to y
  abbrev pub ViewSettled : Vat Name → Value Name → Name → Type 0
  ViewSettled s y p = (g : Name) × (standing_of K s.known p ≡ Viewed g) × (standing_of K s.known g ≡ Settled y)

  -- What is asked of a change of what is known of p: where p settles, that it does so to no name that leads on, and to a list behind the test or with its view;
  -- and where it is viewed, that its view leads nowhere.
  abbrev pub IsBehind : Vat Name → Change Name → Name → Type 0
  IsBehind s (Settle y) p = IsEnd s y × ((c : ℕ) → y ≡ Items c → IsTested s y p ⊎ ViewSettled s y p)
  IsBehind s (See g) p = still_waits (standing_of K s.known g) ≡ true
  IsBehind s (Hold m) p = Unit {0}
  IsBehind s (Wait q) p = Unit {0}
  IsBehind s (WaitOn q) p = Unit {0}
  IsBehind s (React m) p = Unit {0}
  IsBehind s (ToTell w) p = Unit {0}

-- No change of what is known makes a list lead back to itself.
abbrev pub ChangesCloseNoRing : Type 0
ChangesCloseNoRing = (word : ℕ → ℕ) (v : ℕ) (s : Vat Name) (c : Change Name) (p : Name) → IsBehind (naming word v) s c p → NoListLeadsBack (naming word v) s
    → NoListLeadsBack (naming word v) (record s { known = with_change (naming word v) c p s.known })

-- Nor does a new list, of what is there.
abbrev pub NewListsCloseNoRing : Type 0
NewListsCloseNoRing = (word : ℕ → ℕ) (v : ℕ) (s : Vat Name) (vs : List (Value Name)) → Sound (naming word v) s → AreThere s.lists vs → NoListLeadsBack (naming word v) s
    → NoListLeadsBack (naming word v) (record s { lists = s.lists ++ vs ∷ [] })

-- Where no list leads back to itself, one comes from each value, by no more members than there are lists, to values without members.
abbrev pub RinglessListsEnd : Type 0
RinglessListsEnd = (word : ℕ → ℕ) (v : ℕ) (s : Vat Name) → NoListLeadsBack (naming word v) s → (x : Value Name) → LeadingEndsIn (naming word v) (length s.lists) s x

-- Where settlings and views lead from a value to a list, in any number of steps, following comes there.
abbrev pub FollowingSuffices : Type 0
FollowingSuffices = (word : ℕ → ℕ) (v : ℕ) (ks : List (Known Name)) (k d : ℕ) (x : Value Name) → follow_at (naming word v) d ks x ≡ Items k → follow_at (naming word v) (suc (length ks)) ks x ≡ Items k

-- Nor does a name that comes to be known, or a vat that is noticed, make a list lead back to itself.
abbrev pub NewNamesCloseNoRing : Type 0
NewNamesCloseNoRing = (word : ℕ → ℕ) (v : ℕ) (s : Vat Name) (n : Name) (h : ℕ) → NoListLeadsBack (naming word v) s → NoListLeadsBack (naming word v) (record s { known = s.known ++ begun n h ∷ [] })

abbrev pub NoticesCloseNoRing : Type 0
NoticesCloseNoRing = (word : ℕ → ℕ) (v : ℕ) (s : Vat Name) (w : ℕ) → NoListLeadsBack (naming word v) s → NoListLeadsBack (naming word v) (record s { noticed = s.noticed ++ w ∷ [] })

-- Where no list leads back to itself, list 0 leads back to itself once p settled to it behind the test.
abbrev pub ClosesRing : Naming Name Name → Vat Name → Name → Type 0
ClosesRing K s p = LeadsIn K 1 (record s { known = with_change K (Settle (target_of K s p (Items zero))) p s.known }) (Items zero) (Items zero)

-- What is asked of a name that settles is needed: there is a name that waits, whose host was noticed, and one that is viewed, which closes a ring.
abbrev pub ConditionsAreNeeded : Type 0
ConditionsAreNeeded = let K : Naming Name Name = naming (λ i. i) zero in
    ((s : Vat Name) × (p : Name) × NoListLeadsBack K s × (still_waits (standing_of K s.known p) ≡ true) × ClosesRing K s p)
    × ((s : Vat Name) × (p g : Name) × NoListLeadsBack K s × (standing_of K s.known p ≡ Viewed g) × ClosesRing K s p)
