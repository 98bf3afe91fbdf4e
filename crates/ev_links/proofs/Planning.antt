-- Names come to stand in the plan as the lines of a history make them stand.
use Rattle.std.proofs.Common.{◌≡◌, ℕ, suc, ◌+◌, ◌<◌, ◌≤◌, ◌^◌, arith, Bool, true, false, cond, List, [], ◌∷◌, length, slice_get, Option, Some, None, refl, sym, ap, subst, ◌∙◌, inl, inr}
use Rattle.std.proofs.lemmas.Bool.{cases_lt}
use Rattle.std.specs.Prelude.{◌⊎◌, ◌↔◌, IfSome, is_some, not}
use Rattle.ev_base.specs.declared.names.Name.{Name}
use Rattle.def_event.specs.declared.event.Event.{Event}
use Rattle.def_event.specs.declared.event.Event.TheVariants.{Settle}
use Rattle.def_event.specs.declared.shown.Shown.{Shown, Name as Named}
use Rattle.def_event.specs.Uses.{AName, Line, and_lines, line_after, lines_before, name_of, place_after, place_of, settles}
use Rattle.ev_links.specs.declared.chains.End.{End}
use Rattle.ev_links.specs.declared.chains.Spot.{Spot}
use Rattle.ev_links.specs.declared.chains.Standing.{Standing}
use Rattle.ev_links.specs.declared.label.Label.{Label}
use Rattle.ev_links.specs.Chains.{IsNextPlace, IsWithin, PlanStands, PlanTables, PutsEnd, PutsStanding, end_of, spot, standing}
use Rattle.ev_links.specs.Plan.{Appended, Begins, Comes, IsFree, IsPlanOf, Joins, Settling, Stands, added, after, first_of, full, settling, stood}
use Rattle.ev_links.specs.Label.{label}
use Rattle.ev_links.specs.contracts.chains.SpotPartialEq.TheImpl.{eq-value}
use Rattle.ev_links.specs.contracts.label.LabelPartialEq.TheImpl.{eq-value as label_eq}
use Rattle.ev_links.proofs.Chaining.{appended, end_cases, none_planned, spot_is, standing_cases}
use Rattle.ev_links.proofs.Lines.{lines_step}
use Rattle.ev_links.proofs.Spreading.{exact_label, take_all}

standing_is : (x : Standing) (c : Label) (n : ℕ) → x.chain ≡ c → x.place ≡ n → x ≡ record { chain = c; place = n }
standing_is x c n e f = ap (λ (l : Label). record { chain = l; place = x.place }) e ∙ ap (λ (k : ℕ). record { chain = c; place = k }) f

some_same : {A : Type 0} (x y : A) (o : Option A) → o ≡ Some x → o ≡ Some y → x ≡ y
some_same x y o e f = let both : Some x ≡ Some y = sym e ∙ f in cc

none_some : {A : Type 0} (x : A) (o : Option A) → o ≡ None → o ≡ Some x → ⊥
none_some x o e f = let both : None ≡ Some x = sym e ∙ f in cc

-- ---- chains by the lines

module _ (Stood : Label → Standing → Type 0) (s : Settling) where
  -- stood before, or came to stand
  abbrev Now : Label → Standing → Type 0
  Now l x = Stood l x ⊎ Comes Stood (Some s) l x

  begins_first : (l : Label) (x : Standing) → Begins Stood s l x → Now x.chain (first_of x.chain)
  begins_first l x b = subst (λ (y : Standing). Now y.chain (first_of y.chain)) (sym b.2) (inr (inl (b.0, b.1, refl)))

  begins_filled : (l : Label) (x : Standing) (q : ℕ) → Begins Stood s l x → q ≤ x.place → Now l (record { chain = x.chain; place = q })
  begins_filled l x q b le =
      let place : x.place ≡ 0 = ap (λ (y : Standing). y.place) b.2 in
      inr (inl (b.0, b.1, standing_is (record { chain = x.chain; place = q }) l 0 (ap (λ (y : Standing). y.chain) b.2) (omega (arith, le, place))))

come_first : (Stood : Label → Standing → Type 0) → ((m : Label) (y : Standing) → Stood m y → Stood y.chain (first_of y.chain)) → (o : Option Settling) (l : Label) (x : Standing) → Comes Stood o l x
    → Stood x.chain (first_of x.chain) ⊎ Comes Stood o x.chain (first_of x.chain)
come_first Stood h None l x c = absurd c
come_first Stood h (Some s) l x (inl b) = begins_first Stood s l x b
come_first Stood h (Some s) l x (inr j) =
    subst (λ (y : Standing). Stood y.chain (first_of y.chain) ⊎ Comes Stood (Some s) y.chain (first_of y.chain)) (sym j.there)
    (elim j.stands [ inl a ↦ inl (h s.from j.before a) | inr b ↦ begins_first Stood s s.from j.before b ])

-- the first name of a chain stands at its beginning
firsts_stand : (past : List Line) (at : ℕ) (l : Label) (x : Standing) → Stands past at l x → Stands past at x.chain (first_of x.chain)
firsts_stand [] at l x h = absurd h
firsts_stand (line ∷ past) at l x (inl h) = inl (firsts_stand past at l x h)
firsts_stand (line ∷ past) at l x (inr h) =
    elim (come_first (Stands past at) (firsts_stand past at) (settling line.event) l x h.1) [ inl a ↦ inl a | inr c ↦ inr (h.0, c) ]

come_filled : (Stood : Label → Standing → Type 0) → ((m : Label) (y : Standing) (q : ℕ) → Stood m y → q ≤ y.place → (n : Label) × Stood n (record { chain = y.chain; place = q })) → (o : Option Settling) (l : Label) (x : Standing) (q : ℕ)
    → Comes Stood o l x → q ≤ x.place → (n : Label) × (Stood n (record { chain = x.chain; place = q }) ⊎ Comes Stood o n (record { chain = x.chain; place = q }))
come_filled Stood h None l x q c le = absurd c
come_filled Stood h (Some s) l x q (inl b) le = (l, begins_filled Stood s l x q b le)
come_filled Stood h (Some s) l x q (inr j) le = by (cases_lt q x.place)
  where
    chain : x.chain ≡ j.before.chain
    chain = ap (λ (y : Standing). y.chain) j.there

    place : x.place ≡ j.before.place + 1
    place = ap (λ (y : Standing). y.place) j.there

    earlier : (n : Label) × (Stood n (record { chain = j.before.chain; place = q }) ⊎ Comes Stood (Some s) n (record { chain = j.before.chain; place = q })) → (n : Label) × (Stood n (record { chain = x.chain; place = q }) ⊎ Comes Stood (Some s) n (record { chain = x.chain; place = q }))
    earlier found = (found.0, subst (λ (c : Label). Stood found.0 (record { chain = c; place = q }) ⊎ Comes Stood (Some s) found.0 (record { chain = c; place = q })) (sym chain) found.1)

    by : (q < x.place) ⊎ (x.place ≤ q) → (n : Label) × (Stood n (record { chain = x.chain; place = q }) ⊎ Comes Stood (Some s) n (record { chain = x.chain; place = q }))
    by (inl less) =
        let within : q ≤ j.before.place = omega (arith, less, place) in
        earlier (elim j.stands [
          | inl a ↦ let found = h s.from j.before q a within in (found.0, inl found.1)
          | inr b ↦ (s.from, begins_filled Stood s s.from j.before q b within)
        ])
    by (inr more) =
        let same : x.place ≡ q = omega (arith, le, more) in
        (l, subst (λ (k : ℕ). Stood l (record { chain = x.chain; place = k }) ⊎ Comes Stood (Some s) l (record { chain = x.chain; place = k })) same (inr (inr j)))

-- before what stands in a chain, none of its places is empty
filled : (past : List Line) (at : ℕ) (l : Label) (x : Standing) (q : ℕ) → Stands past at l x → q ≤ x.place → (m : Label) × Stands past at m (record { chain = x.chain; place = q })
filled [] at l x q h le = absurd h
filled (line ∷ past) at l x q (inl h) le = let found = filled past at l x q h le in (found.0, inl found.1)
filled (line ∷ past) at l x q (inr h) le =
    let found = come_filled (Stands past at) (filled past at) (settling line.event) l x q h.1 le in
    (found.0, elim found.1 [ inl a ↦ inl a | inr c ↦ inr (h.0, c) ])

-- ---- a name is put into the tables

abbrev EndsStand : PlanTables → Type 0
EndsStand plan =
    (at : ℕ) (c : Label) (e : End) → end_of plan.ends (spot at c) ≡ Some e → standing plan.standings (spot at e.name) ≡ Some (record { chain = c; place = e.place })

put_there : (s : Spot) (x : Standing) (old new : List (Spot × Standing)) → PutsStanding s x old new → standing new s ≡ Some x
put_there s x old new put = put s ∙ ap (λ (b : Bool). cond b (Some x) (standing old s)) ((spot_is s s).1 refl)

put_keeps : (s q : Spot) (x y : Standing) (old new : List (Spot × Standing)) → PutsStanding s x old new → standing old s ≡ None → standing old q ≡ Some y → standing new q ≡ Some y
put_keeps s q x y old new put none is = by (eq-value.it s q) refl
  where
    by : (b : Bool) → eq-value.it s q ≡ b → standing new q ≡ Some y
    by true same = absurd (none_some y (standing old q) (ap (standing old) (sym ((spot_is s q).0 same)) ∙ none) is)
    by false apart = put q ∙ ap (λ (b : Bool). cond b (Some x) (standing old q)) apart ∙ is

module _ (old new : PlanTables) (at : ℕ) (name chain : Label) (n : ℕ) (none : standing old.standings (spot at name) ≡ None)
    (puts : PutsStanding (spot at name) (record { chain = chain; place = n }) old.standings new.standings) (ends : PutsEnd (spot at chain) (record { place = n; name = name }) old.ends new.ends) where
  ends_after : EndsStand old → EndsStand new
  ends_after h = λ k c e is. elim (end_cases (spot at chain) (spot k c) (record { place = n; name = name }) e old.ends new.ends ends is) [
    | inl a ↦
        subst (λ (y : End). standing new.standings (spot k y.name) ≡ Some (record { chain = c; place = y.place })) a.1
        (subst (λ (q : Spot). standing new.standings (spot q.at name) ≡ Some (record { chain = q.name; place = n })) a.0
        (put_there (spot at name) (record { chain = chain; place = n }) old.standings new.standings puts))
    | inr b ↦ put_keeps (spot at name) (spot k e.name) (record { chain = chain; place = n }) (record { chain = c; place = e.place }) old.standings new.standings puts none (h k c e b)
  ]

-- ---- the name that settles

-- the plan, where the name that settles has begun a chain, if it had to
pub record Begun (past : List Line) (at : ℕ) (s : Settling) (plan : PlanTables) : Type 0 where
  pub planned : PlanStands plan
  pub standings : (k : ℕ) (l : Label) (x : Standing) → (standing plan.standings (spot k l) ≡ Some x) ↔ (Stands past k l x ⊎ ((at ≡ k) × Begins (Stands past k) s l x))
  pub ends : (k : ℕ) (c : Label) (e : End) → end_of plan.ends (spot k c) ≡ Some e → standing plan.standings (spot k e.name) ≡ Some (record { chain = c; place = e.place })

-- what stands nowhere has begun no chain
no_chain : (past : List Line) (at : ℕ) (l : Label) (plan : PlanTables) → IsPlanOf past plan → standing plan.standings (spot at l) ≡ None → end_of plan.ends (spot at l) ≡ None
no_chain past at l plan h none = by (end_of plan.ends (spot at l)) refl
  where
    by : (o : Option End) → end_of plan.ends (spot at l) ≡ o → o ≡ None
    by None e = refl
    by (Some e) is =
        let there = (h.standings at e.name (record { chain = l; place = e.place })).0 (h.ends at l e is) in
        let first = (h.standings at l (first_of l)).1 (firsts_stand past at e.name (record { chain = l; place = e.place }) there) in
        absurd (none_some (first_of l) (standing plan.standings (spot at l)) none first)

module _ (past : List Line) (at : ℕ) (s : Settling) (old : PlanTables) (h : IsPlanOf past old) where
  begun_stood : (x : Standing) → standing old.standings (spot at s.from) ≡ Some x → Begun past at s old
  begun_stood x is = record {
    planned = h.planned;
    standings = λ k l y. (
      λ e. inl ((h.standings k l y).0 e),
      λ e. elim e [
        | inl a ↦ (h.standings k l y).1 a
        | inr b ↦ absurd (b.1.0 x (subst (λ (j : ℕ). Stands past j l x) b.0 (subst (λ (m : Label). Stands past at m x) b.1.1 ((h.standings at s.from x).0 is))))
      ],
    );
    ends = h.ends;
  }

  module _ (new : PlanTables) (n : ℕ) (none : standing old.standings (spot at s.from) ≡ None) (next : IsNextPlace (end_of old.ends (spot at s.from)) (Some n))
      (puts : PutsStanding (spot at s.from) (record { chain = s.from; place = n }) old.standings new.standings) (ends : PutsEnd (spot at s.from) (record { place = n; name = s.from }) old.ends new.ends) where
    is_zero : n ≡ 0
    is_zero = subst (λ (o : Option End). IsNextPlace o (Some n)) (no_chain past at s.from old h none) next

    abbrev came : Standing
    came = record { chain = s.from; place = n }

    was_free : (k : ℕ) (l : Label) → spot at s.from ≡ spot k l → IsFree (Stands past k) l
    was_free k l same y a = none_some y (standing old.standings (spot k l)) (ap (standing old.standings) (sym same) ∙ none) ((h.standings k l y).1 a)

    begins_there : (k : ℕ) (l : Label) (x : Standing) → (at ≡ k) × Begins (Stands past k) s l x → standing new.standings (spot k l) ≡ Some x
    begins_there k l x b =
        let is : came ≡ x = standing_is came l 0 b.1.1 is_zero ∙ sym b.1.2 in
        subst (λ (y : Standing). standing new.standings (spot k l) ≡ Some y) is
        (subst (λ (j : ℕ). standing new.standings (spot j l) ≡ Some came) b.0
        (subst (λ (m : Label). standing new.standings (spot at m) ≡ Some came) b.1.1 (put_there (spot at s.from) came old.standings new.standings puts)))

    begun_added : Begun past at s new
    begun_added = record {
      planned = appended old new at s.from s.from n h.planned next puts ends;
      standings = λ k l x. (
        λ e. elim (standing_cases (spot at s.from) (spot k l) came x old.standings new.standings puts e) [
          | inl a ↦
              let name : s.from ≡ l = ap (λ (q : Spot). q.name) a.0 in
              inr (ap (λ (q : Spot). q.at) a.0, (was_free k l a.0, name, sym a.1 ∙ standing_is came l 0 name is_zero))
          | inr b ↦ inl ((h.standings k l x).0 b)
        ],
        λ e. elim e [
          | inl a ↦ put_keeps (spot at s.from) (spot k l) came x old.standings new.standings puts none ((h.standings k l x).1 a)
          | inr b ↦ begins_there k l x b
        ],
      );
      ends = ends_after old new at s.from s.from n none puts ends h.ends;
    }

  pub begun : (new : PlanTables) → Appended at s.from s.from old new → Begun past at s new
  begun new (stood x is same) = subst (Begun past at s) (sym same) (begun_stood x is)
  begun new (full none more same) = absurd (subst (λ (o : Option End). IsNextPlace o None) (no_chain past at s.from old h none) more)
  begun new (added n lt none next puts ends) = begun_added new n none next puts ends

-- and so it stands
pub begun_there : (past : List Line) (at : ℕ) (s : Settling) (old new : PlanTables) → Appended at s.from s.from old new → standing new.standings (spot at s.from) ≡ None → IsPlanOf past old → ⊥
begun_there past at s old new (stood x is same) none h =
    none_some x (standing old.standings (spot at s.from)) (ap (λ (p : PlanTables). standing p.standings (spot at s.from)) (sym same) ∙ none) is
begun_there past at s old new (full free more same) none h = subst (λ (o : Option End). IsNextPlace o None) (no_chain past at s.from old h free) more
begun_there past at s old new (added n lt free next puts ends) none h =
    none_some (record { chain = s.from; place = n }) (standing new.standings (spot at s.from)) none
    (put_there (spot at s.from) (record { chain = s.from; place = n }) old.standings new.standings puts)

-- ---- the name to which it settles

-- the plan after a line at the place
pub record Grown (past : List Line) (at : ℕ) (o : Option Settling) (plan : PlanTables) : Type 0 where
  pub planned : PlanStands plan
  pub standings : (k : ℕ) (l : Label) (x : Standing) → (standing plan.standings (spot k l) ≡ Some x) ↔ (Stands past k l x ⊎ ((at ≡ k) × Comes (Stands past k) o l x))
  pub ends : (k : ℕ) (c : Label) (e : End) → end_of plan.ends (spot k c) ≡ Some e → standing plan.standings (spot k e.name) ≡ Some (record { chain = c; place = e.place })

pub grown : (past : List Line) (at : ℕ) (event : Event) (plan : PlanTables) → Grown past at (settling event) plan → IsPlanOf (record { at = at; event = event } ∷ past) plan
grown past at event plan h = record { planned = h.planned; standings = h.standings; ends = h.ends }

pub grown_by : (past : List Line) (at : ℕ) (event : Event) (s : Settling) (plan : PlanTables) → settling event ≡ Some s → Grown past at (Some s) plan → IsPlanOf (record { at = at; event = event } ∷ past) plan
grown_by past at event s plan is h = grown past at event plan (subst (λ (o : Option Settling). Grown past at o plan) (sym is) h)

-- a line that settles nothing to a name
pub grown_alone : (past : List Line) (at : ℕ) (event : Event) (plan : PlanTables) → settling event ≡ None → IsPlanOf past plan → IsPlanOf (record { at = at; event = event } ∷ past) plan
grown_alone past at event plan is h =
    grown past at event plan (subst (λ (o : Option Settling). Grown past at o plan) (sym is) (record {
      planned = h.planned;
      standings = λ k l x. (
        λ e. inl ((h.standings k l x).0 e),
        λ e. elim e [ inl a ↦ (h.standings k l x).1 a | inr b ↦ absurd b.1 ],
      );
      ends = h.ends;
    }))

module _ (past : List Line) (at : ℕ) (s : Settling) (mid : PlanTables) (b : Begun past at s mid) where
  -- where what another joins stands
  joined : (l : Label) (x : Standing) (j : Joins (Stands past at) s l x) → standing mid.standings (spot at s.from) ≡ Some j.before
  joined l x j = (b.standings at s.from j.before).1 (elim j.stands [ inl a ↦ inl a | inr c ↦ inr (refl, c) ])

  -- none joins
  alone : ((l : Label) (x : Standing) → Joins (Stands past at) s l x → ⊥) → Grown past at (Some s) mid
  alone none = record {
    planned = b.planned;
    standings = λ k l x. (
      λ e. elim ((b.standings k l x).0 e) [ inl a ↦ inl a | inr c ↦ inr (c.0, inl c.1) ],
      λ e. elim e [
        | inl a ↦ (b.standings k l x).1 (inl a)
        | inr c ↦ elim c.1 [
          | inl d ↦ (b.standings k l x).1 (inr (c.0, d))
          | inr j ↦ absurd (none l x (subst (λ (i : ℕ). Joins (Stands past i) s l x) (sym c.0) j))
        ]
      ],
    );
    ends = b.ends;
  }

  module _ (y : Standing) (there : standing mid.standings (spot at s.from) ≡ Some y) where
    before_is : (l : Label) (x : Standing) (j : Joins (Stands past at) s l x) → j.before ≡ y
    before_is l x j = some_same j.before y (standing mid.standings (spot at s.from)) (joined l x j) there

    -- another stands after it
    not_last : ((e : End) → end_of mid.ends (spot at y.chain) ≡ Some e → e.name ≡ s.from → ⊥) → Grown past at (Some s) mid
    not_last other = alone (λ l x j. by_end l x j (end_of mid.ends (spot at y.chain)) refl (b.planned.within at s.from y there))
      where
        by_place : (l : Label) (x : Standing) (j : Joins (Stands past at) s l x) (e : End) → end_of mid.ends (spot at y.chain) ≡ Some e → (y.place < e.place) ⊎ (e.place ≤ y.place) → y.place ≤ e.place → ⊥
        by_place l x j e is (inl less) le = elim ((b.standings at e.name (record { chain = y.chain; place = e.place })).0 (b.ends at y.chain e is)) [
          | inl a ↦
              let found = filled past at e.name (record { chain = y.chain; place = e.place }) (y.place + 1) a (omega (arith, less)) in
              j.last found.0 (subst (λ (z : Standing). Stands past at found.0 (after z)) (sym (before_is l x j)) found.1)
          | inr c ↦ let first : e.place ≡ 0 = ap (λ (z : Standing). z.place) c.1.2 in omega (arith, first, less)
        ]
        by_place l x j e is (inr more) le =
            let same : e.place ≡ y.place = omega (arith, more, le) in
            let one = b.ends at y.chain e is ∙ ap (λ (k : ℕ). Some (record { chain = y.chain; place = k })) same in
            other e is (b.planned.one at e.name s.from y one there)

        by_end : (l : Label) (x : Standing) (j : Joins (Stands past at) s l x) (o : Option End) → end_of mid.ends (spot at y.chain) ≡ o → IsWithin y.place o → ⊥
        by_end l x j None is within = within
        by_end l x j (Some e) is within = by_place l x j e is (cases_lt y.place e.place) within

    pub none_last : end_of mid.ends (spot at y.chain) ≡ None → Grown past at (Some s) mid
    none_last none = not_last (λ e is name. none_some e (end_of mid.ends (spot at y.chain)) none is)

    pub other_last : (e : End) → end_of mid.ends (spot at y.chain) ≡ Some e → (e.name ≡ s.from → ⊥) → Grown past at (Some s) mid
    other_last e is apart =
        not_last (λ f that name. apart (ap (λ (d : End). d.name) (some_same e f (end_of mid.ends (spot at y.chain)) is that) ∙ name))

    module _ (e : End) (is : end_of mid.ends (spot at y.chain) ≡ Some e) (name : e.name ≡ s.from) where
      place_is : e.place ≡ y.place
      place_is =
          let ends : standing mid.standings (spot at s.from) ≡ Some (record { chain = y.chain; place = e.place })
          = ap (λ (l : Label). standing mid.standings (spot at l)) (sym name) ∙ b.ends at y.chain e is in
          ap (λ (z : Standing). z.place) (some_same (record { chain = y.chain; place = e.place }) y (standing mid.standings (spot at s.from)) ends there)

      -- what it settles to stands elsewhere
      last_stood : (z : Standing) → standing mid.standings (spot at s.to) ≡ Some z → Grown past at (Some s) mid
      last_stood z that = alone (λ l x j. elim ((b.standings at s.to z).0 that) [
        | inl a ↦ j.free z (subst (λ (m : Label). Stands past at m z) j.is a)
        | inr c ↦ j.other c.1.1
      ])

      last_full : IsNextPlace (end_of mid.ends (spot at y.chain)) None → Grown past at (Some s) mid
      last_full more = alone (λ l x j.
          let end : 2 ^ 64 ≤ e.place + 1 = subst (λ (o : Option End). IsNextPlace o None) is more in
          let place : x.place ≡ j.before.place + 1 = ap (λ (z : Standing). z.place) j.there in
          let before : j.before.place ≡ y.place = ap (λ (z : Standing). z.place) (before_is l x j) in
          omega (arith, end, place, before, place_is, j.fits))

      module _ (new : PlanTables) (n : ℕ) (lt : n < 2 ^ 64) (none : standing mid.standings (spot at s.to) ≡ None) (next : IsNextPlace (end_of mid.ends (spot at y.chain)) (Some n))
          (puts : PutsStanding (spot at s.to) (record { chain = y.chain; place = n }) mid.standings new.standings) (ends : PutsEnd (spot at y.chain) (record { place = n; name = s.to }) mid.ends new.ends) where
        abbrev joining : Standing
        joining = record { chain = y.chain; place = n }

        n_is : n ≡ y.place + 1
        n_is = let after_end : n ≡ e.place + 1 = subst (λ (o : Option End). IsNextPlace o (Some n)) is next in omega (arith, after_end, place_is)

        joining_is : joining ≡ after y
        joining_is = standing_is joining y.chain (y.place + 1) refl n_is

        none_after : (m : Label) → Stands past at m (after y) → ⊥
        none_after m a =
            let within : y.place + 1 ≤ e.place = subst (IsWithin (y.place + 1)) is (b.planned.within at m (after y) ((b.standings at m (after y)).1 (inl a))) in
            omega (arith, within, place_is)

        joins : Joins (Stands past at) s s.to joining
        joins = record {
          before = y;
          stands = elim ((b.standings at s.from y).0 there) [ inl a ↦ inl a | inr c ↦ inr c.1 ];
          last = none_after;
          other = λ same. none_some y (standing mid.standings (spot at s.to)) none (ap (λ (l : Label). standing mid.standings (spot at l)) (sym same) ∙ there);
          is = refl;
          free = λ z a. none_some z (standing mid.standings (spot at s.to)) none ((b.standings at s.to z).1 (inl a));
          there = joining_is;
          fits = lt;
        }

        joined_there : (l : Label) (x : Standing) → Joins (Stands past at) s l x → standing new.standings (spot at l) ≡ Some x
        joined_there l x j =
            let is_that : joining ≡ x = joining_is ∙ sym (j.there ∙ ap (λ (z : Standing). after z) (before_is l x j)) in
            subst (λ (z : Standing). standing new.standings (spot at l) ≡ Some z) is_that
            (subst (λ (m : Label). standing new.standings (spot at m) ≡ Some joining) j.is (put_there (spot at s.to) joining mid.standings new.standings puts))

        kept : (k : ℕ) (l : Label) (x : Standing) → standing mid.standings (spot k l) ≡ Some x → standing new.standings (spot k l) ≡ Some x
        kept k l x that = put_keeps (spot at s.to) (spot k l) joining x mid.standings new.standings puts none that

        last_added : Grown past at (Some s) new
        last_added = record {
          planned = appended mid new at s.to y.chain n b.planned next puts ends;
          standings = λ k l x. (
            λ that. elim (standing_cases (spot at s.to) (spot k l) joining x mid.standings new.standings puts that) [
              | inl a ↦
                  let here : at ≡ k = ap (λ (q : Spot). q.at) a.0 in
                  inr (
                    here,
                    inr (subst (λ (i : ℕ). Joins (Stands past i) s l x) here
                        (subst (λ (z : Standing). Joins (Stands past at) s l z) a.1 (subst (λ (q : Spot). Joins (Stands past at) s q.name joining) a.0 joins))),
                  )
              | inr c ↦ elim ((b.standings k l x).0 c) [ inl a ↦ inl a | inr d ↦ inr (d.0, inl d.1) ]
            ],
            λ that. elim that [
              | inl a ↦ kept k l x ((b.standings k l x).1 (inl a))
              | inr c ↦ elim c.1 [
                | inl d ↦ kept k l x ((b.standings k l x).1 (inr (c.0, d)))
                | inr j ↦
                    subst (λ (i : ℕ). standing new.standings (spot i l) ≡ Some x) c.0 (joined_there l x (subst (λ (i : ℕ). Joins (Stands past i) s l x) (sym c.0) j))
              ]
            ],
          );
          ends = ends_after mid new at s.to y.chain n none puts ends b.ends;
        }

      -- it is the last, and the other may join
      pub last_appended : (new : PlanTables) → Appended at s.to y.chain mid new → Grown past at (Some s) new
      last_appended new (stood z that same) = subst (Grown past at (Some s)) (sym same) (last_stood z that)
      last_appended new (full none more same) = subst (Grown past at (Some s)) (sym same) (last_full more)
      last_appended new (added n lt none next puts ends) = last_added new n lt none next puts ends

-- ---- before the first line

pub none_plan : (standings : List (Spot × Standing)) (ends : List (Spot × End)) → standings ≡ [] → ends ≡ [] → IsPlanOf [] (record { standings = standings; ends = ends })
unfolding standing end_of
none_plan standings ends none empty = record {
  planned = none_planned standings ends none empty;
  standings = λ at l x. (
    λ e. let bad : None ≡ Some x = ap (λ (es : List (Spot × Standing)). standing es (spot at l)) (sym none) ∙ e in cc,
    λ h. absurd h,
  );
  ends = λ at c e is. absurd (let bad : None ≡ Some e = ap (λ (es : List (Spot × End)). end_of es (spot at c)) (sym empty) ∙ is in cc);
}

-- ---- one line

pub appended_stood : (at : ℕ) (name chain : Label) (plan : PlanTables) (o : Option Standing) → o ≡ standing plan.standings (spot at name) → is_some o ≡ true → Appended at name chain plan plan
appended_stood at name chain plan None e some = absurd cc
appended_stood at name chain plan (Some x) e some = stood x (sym e) refl

free_if : (o p : Option Standing) → o ≡ p → is_some o ≡ false → p ≡ None
free_if None p e none = sym e
free_if (Some x) p e none = absurd cc

pub appended_full : (at : ℕ) (name chain : Label) (plan : PlanTables) (o : Option Standing) (end : Option End) (place : Option ℕ) → o ≡ standing plan.standings (spot at name) → is_some o ≡ false
    → end ≡ end_of plan.ends (spot at chain) → IsNextPlace end place → place ≡ None → Appended at name chain plan plan
appended_full at name chain plan o end place e none is next last =
    full (free_if o (standing plan.standings (spot at name)) e none) (subst (λ (p : Option End). IsNextPlace p None) is (subst (IsNextPlace end) last next)) refl

pub appended_more : (at : ℕ) (name chain : Label) (old new : PlanTables) (o : Option Standing) (end : Option End) (place : Option ℕ) (n : ℕ) → o ≡ standing old.standings (spot at name) → is_some o ≡ false
    → end ≡ end_of old.ends (spot at chain) → IsNextPlace end place → IfSome place (λ k. k < 2 ^ 64) → place ≡ Some n
    → PutsStanding (spot at name) (record { chain = chain; place = n }) old.standings new.standings → PutsEnd (spot at chain) (record { place = n; name = name }) old.ends new.ends → Appended at name chain old new
appended_more at name chain old new o end place n e none is next fits there puts ends =
    added n (subst (λ (p : Option ℕ). IfSome p (λ k. k < 2 ^ 64)) there fits) (free_if o (standing old.standings (spot at name)) e none)
    (subst (λ (p : Option End). IsNextPlace p (Some n)) is (subst (IsNextPlace end) there next)) puts ends

module _ (past : List Line) (at : ℕ) (event : Event) (s : Settling) (old mid : PlanTables) (is : settling event ≡ Some s) (h : IsPlanOf past old) (first : Appended at s.from s.from old mid) where
  abbrev line : Line
  line = record { at = at; event = event }

  pub extended_never : standing mid.standings (spot at s.from) ≡ None → IsPlanOf (line ∷ past) mid
  extended_never none = absurd (begun_there past at s old mid first none h)

  module _ (y : Standing) (there : standing mid.standings (spot at s.from) ≡ Some y) where
    pub extended_open : end_of mid.ends (spot at y.chain) ≡ None → IsPlanOf (line ∷ past) mid
    extended_open none = grown_by past at event s mid is (none_last past at s mid (begun past at s old h mid first) y there none)

    pub extended_other : (e : End) → end_of mid.ends (spot at y.chain) ≡ Some e → (e.name ≡ s.from → ⊥) → IsPlanOf (line ∷ past) mid
    extended_other e that apart = grown_by past at event s mid is (other_last past at s mid (begun past at s old h mid first) y there e that apart)

    pub extended : (e : End) → end_of mid.ends (spot at y.chain) ≡ Some e → e.name ≡ s.from → (new : PlanTables) → Appended at s.to y.chain mid new → IsPlanOf (line ∷ past) new
    extended e that name new next = grown_by past at event s new is (last_appended past at s mid (begun past at s old h mid first) y there e that name new next)

-- ---- line by line

pub record Planning (at : ℕ) (events : List Event) (i : ℕ) (plan : PlanTables) : Type 0 where
  pub here : at ≡ place_of (lines_before events i)
  pub planned : IsPlanOf (lines_before events i) plan

pub planning_init : (events : List Event) (plan : PlanTables) → IsPlanOf [] plan → Planning 0 events 0 plan
planning_init events plan h = record { here = refl; planned = h }

pub planning_step : (at next : ℕ) (events : List Event) (i : ℕ) (e : Event) (old new : PlanTables) → slice_get events i ≡ Some e → next ≡ place_after at e → Planning at events i old
    → ((past : List Line) → IsPlanOf past old → IsPlanOf (record { at = next; event = e } ∷ past) new) → Planning next events (i + 1) new
planning_step at next events i e old new get is h told =
    let past = lines_before events i in
    let place : next ≡ place_after (place_of past) e = is ∙ ap (λ (n : ℕ). place_after n e) h.here in
    let suc_is : suc i ≡ i + 1 = omega arith in
    let step : line_after past e ∷ past ≡ lines_before events (i + 1) = sym (lines_step [] events i e get) ∙ ap (lines_before events) suc_is in
    record {
      here = place ∙ ap place_of step;
      planned = subst (λ (lines : List Line). IsPlanOf lines new) (ap (λ (n : ℕ). record { at = n; event = e } ∷ past) place ∙ step) (told past h.planned);
    }

pub planning_done : (at : ℕ) (events : List Event) (i : ℕ) (plan : PlanTables) → length events ≤ i → Planning at events i plan → IsPlanOf (and_lines [] events) plan
planning_done at events i plan le h = subst (λ (es : List Event). IsPlanOf (and_lines [] es) plan) (take_all events i le) h.planned

-- ---- what a line settles

pub settles_to : (n m : Name) (v : Shown) (from to : Label) → from ≡ label (AName n) → to ≡ label (AName m) → v ≡ Named m → settling (Settle n v) ≡ Some (record { from = from; to = to })
unfolding settles name_of
settles_to n m v from to f t is =
    ap (λ (x : Shown). settling (Settle n x)) is
    ∙ (ap (λ (l : Label). Some (record { from = l; to = label (AName m) })) (sym f) ∙ ap (λ (l : Label). Some (record { from = from; to = l })) (sym t))

settles_none : (n : Name) (v : Shown) → ((m : Name) → v ≡ Named m → ⊥) → settling (Settle n v) ≡ None
unfolding settles name_of
settles_none n (Named m) none = absurd (none m refl)
settles_none n v none = refl

no_settling : (e : Event) → ((n : Name) (v : Shown) → e ≡ Settle n v → ⊥) → settling e ≡ None
unfolding settles
no_settling (Settle n v) none = absurd (none n v refl)
no_settling e none = refl

pub grown_nameless : (past : List Line) (at : ℕ) (n : Name) (v : Shown) (plan : PlanTables) → ((m : Name) → v ≡ Named m → ⊥) → IsPlanOf past plan → IsPlanOf (record { at = at; event = Settle n v } ∷ past) plan
grown_nameless past at n v plan none h = grown_alone past at (Settle n v) plan (settles_none n v none) h

pub grown_unsettled : (past : List Line) (at : ℕ) (e : Event) (plan : PlanTables) → ((n : Name) (v : Shown) → e ≡ Settle n v → ⊥) → IsPlanOf past plan → IsPlanOf (record { at = at; event = e } ∷ past) plan
grown_unsettled past at e plan none h = grown_alone past at e plan (no_settling e none) h

pub labels_apart : (a b : Label) → not (label_eq.it a b) ≡ true → a ≡ b → ⊥
labels_apart a b h e = let bad : false ≡ true = ap not (sym (ap (label_eq.it a) (sym e) ∙ exact_label.itself a)) ∙ h in cc

pub labels_same : (a b : Label) → not (label_eq.it a b) ≡ false → a ≡ b
labels_same a b h = by (label_eq.it a b) refl h
  where
    by : (c : Bool) → label_eq.it a b ≡ c → not c ≡ false → a ≡ b
    by true is e = exact_label.same a b is
    by false is e = absurd cc
