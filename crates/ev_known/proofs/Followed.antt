-- The tables have what the first lines give, so that names are followed by them as by the lines.
use Rattle.std.proofs.Common.{◌≡◌, ℕ, Bool, true, false, cond, List, [], ◌∷◌, Option, Some, None, refl, sym, ap, subst, ◌∙◌, inl, inr, rules}
use Rattle.std.specs.Prelude.{◌↔◌, IsTrue, is_some}
use Rattle.ev_base.specs.declared.names.Name.{Name}
use Rattle.ev_base.specs.declared.names.Name.TheVariants.{Object, Own, Answer, Gift, Root}
use Rattle.def_event.specs.declared.event.Event.{Event}
use Rattle.def_event.specs.Uses.{AName, Line, Given_for, IsGivenBy, IsFirstGivenBy, IsNext, IsFollowed, settles, views, is_object}
use Rattle.def_event.specs.Uses as uses
use Rattle.ev_links.specs.declared.label.Label.{Label}
use Rattle.ev_links.specs.declared.chains.End.{End}
use Rattle.ev_links.specs.declared.chains.Spot.{Spot}
use Rattle.ev_known.specs.declared.following.Goal.{Goal}
use Rattle.ev_known.specs.declared.following.Goal.TheVariants.{To, Data}
use Rattle.ev_links.specs.contracts.chains.SpotPartialEq.TheImpl.{eq-value}
use Rattle.ev_links.specs.Chains.{PlanStands, PlanTables}
use Rattle.ev_links.proofs.Chaining.{spot_is}
use Rattle.ev_links.specs.Label.{label}
use Rattle.ev_known.specs.Following.{ChainsStand, Table, goal, goal_at, Noted, NotedFor, FollowsTo, FollowedAs, Tables, TablesStand, FirstAs, GivesFirst, is_object_label, next_by, next_of, Follows, there, further}
use Rattle.ev_known.proofs.Keys.{name_same}
use Rattle.ev_known.proofs.Walking.{follows_one}
use Rattle.ev_known.proofs.Naming.{object_label}
use Rattle.ev_known.proofs.Chained.{none_told}

abbrev spot : ℕ → Name → Spot
spot at n = record { at = at; name = label (AName n) }

module _ (by : Event → Option Given_for) where
  first_given : (past : List Line) (at : ℕ) (n : Name) (v : Option Name) → IsFirstGivenBy by past at n v → IsGivenBy by past at n
  first_given [] at n v h = absurd h
  first_given (l ∷ past) at n v (inl h) = inl (first_given past at n v h)
  first_given (l ∷ past) at n v (inr h) = inr (h.1, v, h.2)

  -- a line that gives nothing new for the name
  kept : (l : Line) (past : List Line) (at : ℕ) (n : Name) (o : Option Goal) → ((v : Option Name) → l.at ≡ at → by l.event ≡ Some (record { name = n; value = v }) → IsGivenBy by past at n)
      → FirstAs by past at n o → FirstAs by (l ∷ past) at n o
  kept l past at n None again h = λ g. elim g [ inl a ↦ h a | inr b ↦ h (again b.1 b.0 b.2) ]
  kept l past at n (Some g) again h =
      (inl h.0, h.1, h.2, inl h.3, λ w f. elim f [ inl a ↦ h.4 w a | inr b ↦ absurd (b.0 h.0) ])

  value_same : (n : Name) (v w : Option Name) (o : Option Given_for) → o ≡ Some (record { name = n; value = v }) → o ≡ Some (record { name = n; value = w }) → w ≡ v
  value_same n v w o e f =
      let both : Some (record { name = n; value = v }) ≡ Some (record { name = n; value = w }) = sym e ∙ f in
      ap (value_in v) (sym both)
    where
      value_in : Option Name → Option Given_for → Option Name
      value_in d None = d
      value_in d (Some g) = g.value

  -- the first that gives something for the name
  fresh : (l : Line) (past : List Line) (at : ℕ) (n : Name) (v : Option Name) → (IsGivenBy by past at n → ⊥) → l.at ≡ at → by l.event ≡ Some (record { name = n; value = v })
      → FirstAs by (l ∷ past) at n (Some (goal v))
  fresh l past at n v new here e = (
    inr (here, v, e),
    v,
    refl,
    inr (new, here, e),
    λ w f. elim f [ inl a ↦ absurd (new (first_given past at n w a)) | inr b ↦ value_same n v w (by l.event) e b.2 ],
  )

  -- what stood there stands
  stood : (b : Bool) (s : Spot) (g : Goal) (old new : Table) (x : Goal) → Noted s g b old new → b ≡ is_some (goal_at old s) → goal_at old s ≡ Some x → goal_at new s ≡ Some x
  stood true s g old new x h t e = ap (λ (es : Table). goal_at es s) h ∙ e
  stood false s g old new x h t e = let bad : false ≡ true = t ∙ ap is_some e in absurd cc

  -- what was missing is put
  came : (b : Bool) (s : Spot) (g : Goal) (old new : Table) → Noted s g b old new → b ≡ is_some (goal_at old s) → goal_at old s ≡ None → goal_at new s ≡ Some g
  came true s g old new h t e = let bad : true ≡ false = t ∙ ap is_some e in absurd cc
  came false s g old new h t e = h s ∙ ap (λ (c : Bool). cond c (Some g) (goal_at old s)) ((spot_is s s).1 refl)

  -- all else is as it was
  other : (b : Bool) (s q : Spot) (g : Goal) (old new : Table) → Noted s g b old new → eq-value.it s q ≡ false → goal_at new q ≡ goal_at old q
  other true s q g old new h e = ap (λ (es : Table). goal_at es q) h
  other false s q g old new h e = h q ∙ ap (λ (c : Bool). cond c (Some g) (goal_at old q)) e

  at_spot : (o : Option Goal) (l : Line) (past : List Line) (g : Given_for) (old new : Table) → goal_at old (spot l.at g.name) ≡ o
      → Noted (spot l.at g.name) (goal g.value) (is_some (goal_at old (spot l.at g.name))) old new → by l.event ≡ Some g → FirstAs by past l.at g.name o
      → FirstAs by (l ∷ past) l.at g.name (goal_at new (spot l.at g.name))
  at_spot None l past g old new e h is f =
      subst (FirstAs by (l ∷ past) l.at g.name) (sym (came (is_some (goal_at old (spot l.at g.name))) (spot l.at g.name) (goal g.value) old new h refl e))
      (fresh l past l.at g.name g.value f refl is)
  at_spot (Some x) l past g old new e h is f =
      subst (FirstAs by (l ∷ past) l.at g.name) (sym (stood (is_some (goal_at old (spot l.at g.name))) (spot l.at g.name) (goal g.value) old new x h refl e))
      (kept l past l.at g.name (Some x) (λ v here k. f.0) f)

  name_given : (g : Given_for) (n : Name) (v : Option Name) (o : Option Given_for) → o ≡ Some g → o ≡ Some (record { name = n; value = v }) → g.name ≡ n
  name_given g n v o e f =
      let both : Some g ≡ Some (record { name = n; value = v }) = sym e ∙ f in
      ap (name_in g.name) both
    where
      name_in : Name → Option Given_for → Name
      name_in d None = d
      name_in d (Some g) = g.name

  noted_if : (b : Bool) (l : Line) (past : List Line) (g : Given_for) (old new : Table) (at : ℕ) (n : Name) → eq-value.it (spot l.at g.name) (spot at n) ≡ b → GivesFirst by old past
      → Noted (spot l.at g.name) (goal g.value) (is_some (goal_at old (spot l.at g.name))) old new → by l.event ≡ Some g
      → FirstAs by (l ∷ past) at n (goal_at new (spot at n))
  noted_if true l past g old new at n e h noted is =
      let same = (spot_is (spot l.at g.name) (spot at n)).0 e in
      let here : l.at ≡ at = ap (λ (s : Spot). s.at) same in
      let this : g.name ≡ n = name_same g.name n (ap (λ (s : Spot). s.name) same) in
      let there = at_spot (goal_at old (spot l.at g.name)) l past g old new refl noted is (h.each l.at g.name) in
      subst (λ (m : Name). FirstAs by (l ∷ past) at m (goal_at new (spot at m))) this
      (subst (λ (k : ℕ). FirstAs by (l ∷ past) k g.name (goal_at new (spot k g.name))) here there)
  noted_if false l past g old new at n e h noted is =
      subst (FirstAs by (l ∷ past) at n) (sym (other (is_some (goal_at old (spot l.at g.name))) (spot l.at g.name) (spot at n) (goal g.value) old new noted e))
      (kept l past at n (goal_at old (spot at n))
      (λ v here k.
      let this : g.name ≡ n = name_given g n v (by l.event) is k in
      let same : spot l.at g.name ≡ spot at n = ap (λ (j : ℕ). spot j g.name) here ∙ ap (spot at) this in
      let bad : eq-value.it (spot l.at g.name) (spot at n) ≡ true = (spot_is (spot l.at g.name) (spot at n)).1 same in
      absurd (let worse : true ≡ false = sym bad ∙ e in cc))
      (h.each at n))

  noted_for : (o : Option Given_for) (l : Line) (past : List Line) (old new : Table) → by l.event ≡ o → NotedFor l.at o old new → GivesFirst by old past → GivesFirst by new (l ∷ past)
  noted_for None l past old new is noted h = record {
    each = λ at n.
        subst (λ (es : Table). FirstAs by (l ∷ past) at n (goal_at es (spot at n))) (sym noted)
        (kept l past at n (goal_at old (spot at n)) (λ v here k. let bad : None ≡ Some (record { name = n; value = v }) = sym is ∙ k in absurd cc) (h.each at n));
  }
  noted_for (Some g) l past old new is noted h = record {
    each = λ at n.
        noted_if (eq-value.it (spot l.at g.name) (spot at n)) l past g old new at n refl h noted is;
  }

pub settles_first : (l : Line) (past : List Line) (old new : Table) → NotedFor l.at (settles l.event) old new → GivesFirst settles old past → GivesFirst settles new (l ∷ past)
settles_first l past old new noted h = noted_for settles (settles l.event) l past old new refl noted h

pub views_first : (l : Line) (past : List Line) (old new : Table) → NotedFor l.at (views l.event) old new → GivesFirst views old past → GivesFirst views new (l ∷ past)
views_first l past old new noted h = noted_for views (views l.event) l past old new refl noted h

pub none_first : (by : Event → Option Given_for) → GivesFirst by [] []
unfolding goal_at
none_first by = record { each = λ at n h. h }

-- ---- following by the tables

to_same : (l : Label) (n : Name) (v : Option Name) → v ≡ Some n → goal v ≡ To (label (AName n))
to_same l n v e = ap goal e

next_there_by : (past : List Line) (at : ℕ) (n m : Name) (o p : Option Goal) → FirstAs settles past at n o → FirstAs views past at n p → IsNext past at n m → next_by o p ≡ Some (label (AName m))
next_there_by past at n m None p f g (inl h) = absurd (f (first_given settles past at n (Some m) h))
next_there_by past at n m (Some x) p f g (inl h) =
    let is : To (label (AName m)) ≡ x = ap goal (f.4 (Some m) h) ∙ f.2 in
    ap (λ (y : Goal). next_by (Some y) p) (sym is)
next_there_by past at n m (Some x) p f g (inr h) = absurd (h.0 f.0)
next_there_by past at n m None None f g (inr h) = absurd (g (first_given views past at n (Some m) h.1))
next_there_by past at n m None (Some x) f g (inr h) =
    let is : To (label (AName m)) ≡ x = ap goal (g.4 (Some m) h.1) ∙ g.2 in
    ap (λ (y : Goal). next_by None (Some y)) (sym is)

-- what a goal is of
pub named_goal : (v : Option Name) (l : Label) → goal v ≡ To l → (m : Name) × (label (AName m) ≡ l) × (v ≡ Some m)
named_goal None l e = absurd cc
named_goal (Some m) l e = let same : label (AName m) ≡ l = cc in (m, same, refl)

next_back_by : (past : List Line) (at : ℕ) (n : Name) (l : Label) (o p : Option Goal) → FirstAs settles past at n o → FirstAs views past at n p → next_by o p ≡ Some l → (m : Name) × (label (AName m) ≡ l) × IsNext past at n m
next_back_by past at n l (Some (To x)) p f g e =
    let same : x ≡ l = cc in
    let v = named_goal f.1 x f.2 in
    (v.0, v.1 ∙ same, inl (subst (IsFirstGivenBy settles past at n) v.2 f.3))
next_back_by past at n l (Some Data) p f g e = absurd cc
next_back_by past at n l None (Some (To x)) f g e =
    let same : x ≡ l = cc in
    let v = named_goal g.1 x g.2 in
    (v.0, v.1 ∙ same, inr (f, subst (IsFirstGivenBy views past at n) v.2 g.3))
next_back_by past at n l None (Some Data) f g e = absurd cc
next_back_by past at n l None None f g e = absurd cc

module _ (settled viewed : Table) (past : List Line) (s : GivesFirst settles settled past) (v : GivesFirst views viewed past) (at : ℕ) where
  pub followed_there : (n o : Name) → IsFollowed past at n o → Follows settled viewed at (label (AName n)) (label (AName o))
  followed_there n o (uses.there e) = there (object_label o ∙ e)
  followed_there n o (uses.further m e next r) =
      further (label (AName m)) (object_label n ∙ e) (next_there_by past at n m (goal_at settled (spot at n)) (goal_at viewed (spot at n)) (s.each at n) (v.each at n) next) (followed_there m o r)

  pub followed_back : (l p : Label) (n : Name) → label (AName n) ≡ l → Follows settled viewed at l p → (o : Name) × (label (AName o) ≡ p) × IsFollowed past at n o
  followed_back l p n is (there e) = (n, is, uses.there (sym (object_label n) ∙ ap is_object_label is ∙ e))
  followed_back l p n is (further m e next r) =
      let found = next_back_by past at n m (goal_at settled (spot at n)) (goal_at viewed (spot at n)) (s.each at n) (v.each at n)
      (ap (next_of settled viewed at) is ∙ next) in
      let rest = followed_back m p found.0 found.1 r in
      (rest.0, rest.1, uses.further found.0 (sym (object_label n) ∙ ap is_object_label is ∙ e) found.2 rest.2)

pub none_stand : (settled viewed : Table) (plan : PlanTables) (told : List (Spot × End)) → settled ≡ [] → viewed ≡ [] → told ≡ [] → PlanStands plan
    → TablesStand (record { settled = settled; viewed = viewed; plan = plan; told = told }) []
none_stand settled viewed plan told s v t p = record {
  settled = subst (λ (es : Table). GivesFirst settles es []) (sym s) (none_first settles);
  viewed = subst (λ (es : Table). GivesFirst views es []) (sym v) (none_first views);
  chains = subst (λ (es : List (Spot × End)). ChainsStand plan es settled) (sym t) (none_told plan settled p);
}

pub line_followed : (at : ℕ) (e : Event) (past : List Line) (old new : Tables) → NotedFor at (settles e) old.settled new.settled → NotedFor at (views e) old.viewed new.viewed
    → ChainsStand new.plan new.told new.settled → TablesStand old past → TablesStand new (record { at = at; event = e } ∷ past)
line_followed at e past old new s v c h = record {
  settled = settles_first (record { at = at; event = e }) past old.settled new.settled s h.settled;
  viewed = views_first (record { at = at; event = e }) past old.viewed new.viewed v h.viewed;
  chains = c;
}

pub followed_as : (tables : Tables) (past : List Line) (at : ℕ) (n : Name) (object : Option Label) → TablesStand tables past
    → FollowsTo tables.settled tables.viewed at (label (AName n)) object → FollowedAs past at n object
followed_as tables past at n None h f = λ o g. f (label (AName o)) (followed_there tables.settled tables.viewed past h.settled h.viewed at n o g)
followed_as tables past at n (Some l) h f =
    let found = followed_back tables.settled tables.viewed past h.settled h.viewed at (label (AName n)) l n refl f in (
      found.0,
      found.1,
      found.2,
      λ p g. name_same p found.0
          (follows_one tables.settled tables.viewed at (label (AName n)) (label (AName p)) l (followed_there tables.settled tables.viewed past h.settled h.viewed at n p g) f ∙ sym found.1),
    )
