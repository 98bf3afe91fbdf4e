-- As far as chains have come, their names have settled to one another.
use Rattle.std.proofs.Common.{◌≡◌, ℕ, ◌+◌, ◌<◌, ◌≤◌, arith, Bool, true, false, cond, List, [], Option, Some, None, refl, sym, ap, subst, ◌∙◌, inl, inr}
use Rattle.std.specs.Prelude.{◌⊎◌, is_some}
use Rattle.std.proofs.lemmas.Bool.Decides.{leb_tells}
use Rattle.ev_base.specs.declared.names.Name.{Name}
use Rattle.def_event.specs.Uses.{AName, Given_for, is_object}
use Rattle.ev_links.specs.declared.chains.End.{End}
use Rattle.ev_links.specs.declared.chains.Spot.{Spot}
use Rattle.ev_links.specs.declared.chains.Standing.{Standing}
use Rattle.ev_links.specs.declared.label.Label.{Label}
use Rattle.ev_links.specs.contracts.chains.SpotPartialEq.TheImpl.{eq-value}
use Rattle.ev_links.specs.Chains.{PlanStands, PlanTables, PutsEnd, end_of, spot, standing}
use Rattle.ev_links.specs.Label.{label}
use Rattle.ev_links.proofs.Chaining.{spot_is}
use Rattle.ev_known.specs.declared.following.Goal.{Goal}
use Rattle.ev_known.specs.declared.following.Goal.TheVariants.{To}
use Rattle.ev_known.specs.Following.{ChainsStand, Noted, NotedFor, Steps, Strides, StridesTo, Table, goal, goal_at, here, onward, one, more, is_object_label, next_by, next_of, place_told}
use Rattle.ev_known.proofs.Naming.{object_label}

-- ---- steps

step_after : (settled : Table) (at : ℕ) (l m o : Label) (n : Name) → Steps settled at l m → label (AName n) ≡ m → is_object n ≡ false → goal_at settled (spot at m) ≡ Some (To o) → Steps settled at l o
step_after settled at l m o n here is other e = onward n o is other e here
step_after settled at l m o n (onward k j that only next r) is other e = onward k j that only next (step_after settled at j m o n r is other e)

steps_grow : (old new : Table) (at : ℕ) (l m : Label) → ((q : Spot) (g : Goal) → goal_at old q ≡ Some g → goal_at new q ≡ Some g) → Steps old at l m → Steps new at l m
steps_grow old new at l m kept here = here
steps_grow old new at l m kept (onward n k is other e r) = onward n k is other (kept (spot at l) (To k) e) (steps_grow old new at k m kept r)

-- ---- what settles is noted

kept_if : (b : Bool) (s q : Spot) (x g : Goal) (old new : Table) → Noted s x b old new → b ≡ is_some (goal_at old s) → goal_at old q ≡ Some g → goal_at new q ≡ Some g
kept_if true s q x g old new h is e = ap (λ (es : Table). goal_at es q) h ∙ e
kept_if false s q x g old new h is e = by_test (eq-value.it s q) refl
  where
    by_test : (c : Bool) → eq-value.it s q ≡ c → goal_at new q ≡ Some g
    by_test true same =
        let there : s ≡ q = (spot_is s q).0 same in
        let bad : false ≡ true = is ∙ ap (λ (k : Spot). is_some (goal_at old k)) there ∙ ap is_some e in cc
    by_test false other = h q ∙ ap (λ (c : Bool). cond c (Some x) (goal_at old q)) other ∙ e

kept_for : (at : ℕ) (o : Option Given_for) (old new : Table) → NotedFor at o old new → (q : Spot) (g : Goal) → goal_at old q ≡ Some g → goal_at new q ≡ Some g
kept_for at None old new h q g e = ap (λ (es : Table). goal_at es q) h ∙ e
kept_for at (Some x) old new h q g e =
    kept_if (is_some (goal_at old (spot at (label (AName x.name))))) (spot at (label (AName x.name))) q (goal x.value) g old new h refl e

pub chains_noted : (at : ℕ) (o : Option Given_for) (plan : PlanTables) (told : List (Spot × End)) (old new : Table) → NotedFor at o old new → ChainsStand plan told old → ChainsStand plan told new
chains_noted at o plan told old new noted h = record {
  planned = h.planned;
  steps = λ k l m x y e f c p q. steps_grow old new k l m (kept_for at o old new noted) (h.steps k l m x y e f c p q);
  ends = h.ends;
}

-- ---- how far chains have come

same_standing : (x y : Standing) → x.chain ≡ y.chain → x.place ≡ y.place → x ≡ y
same_standing x y c p = ap (λ (l : Label). record { chain = l; place = x.place }) c ∙ ap (λ (n : ℕ). record { chain = y.chain; place = n }) p

-- two that stand at one place are one
at_one : (plan : PlanTables) (at : ℕ) (l m : Label) (x y : Standing) → PlanStands plan → standing plan.standings (spot at l) ≡ Some x → standing plan.standings (spot at m) ≡ Some y → x.chain ≡ y.chain → x.place ≡ y.place → l ≡ m
at_one plan at l m x y h e f c p = h.one at l m y (e ∙ ap Some (same_standing x y c p)) f

pub none_told : (plan : PlanTables) (settled : Table) → PlanStands plan → ChainsStand plan [] settled
unfolding end_of
none_told plan settled h = record {
  planned = h;
  steps = λ at l m x y e f c p q. let first : y.place ≤ 0 = q in subst (Steps settled at l) (at_one plan at l m x y h e f c (omega (arith, p, first))) here;
  ends = λ at chain e is. absurd (let bad : None ≡ Some e = is in cc);
}

at_most : (k i j : ℕ) → j ≡ i + 1 → k ≤ j → (k ≤ i) ⊎ (k ≡ j)
at_most k i j e le = elim (leb_tells k i) [
  | inl a ↦ inl a.1
  | inr b ↦ inr (let same : k ≡ j = omega (arith, e, le, b.1) in same)
]

module _ (plan : PlanTables) (old new : List (Spot × End)) (settled : Table) (at : ℕ) (from to : Label) (start end : Standing) (n : Name) (h : ChainsStand plan old settled)
    (first : standing plan.standings (spot at from) ≡ Some start) (next : standing plan.standings (spot at to) ≡ Some end) (one_chain : start.chain ≡ end.chain) (after : end.place ≡ start.place + 1)
    (come : place_told (end_of old (spot at end.chain)) ≡ start.place) (put : PutsEnd (spot at end.chain) (record { place = end.place; name = to }) old new)
    (is : label (AName n) ≡ from) (other : is_object n ≡ false) (goes : goal_at settled (spot at from) ≡ Some (To to)) where
  abbrev now : End
  now = record { place = end.place; name = to }

  -- up to the new end of that chain
  to_end : (l m : Label) (x y : Standing) → standing plan.standings (spot at l) ≡ Some x → standing plan.standings (spot at m) ≡ Some y → x.chain ≡ y.chain → y.chain ≡ end.chain → x.place ≤ y.place → y.place ≤ end.place → Steps settled at l m
  to_end l m x y e f c d p q = elim (at_most y.place start.place end.place after q) [
    | inl before ↦ h.steps at l m x y e f c p (subst (λ (chain : Label). y.place ≤ place_told (end_of old (spot at chain))) (sym d) (subst (λ (k : ℕ). y.place ≤ k) (sym come) before))
    | inr there ↦
        let last : to ≡ m = at_one plan at to m end y h.planned next f (sym d) (sym there) in
        subst (Steps settled at l) last (elim (at_most x.place start.place end.place after (subst (λ (k : ℕ). x.place ≤ k) there p)) [
          | inl before ↦
              step_after settled at l from to n
              (h.steps at l from x start e first (c ∙ d ∙ sym one_chain) before
              (subst (λ (chain : Label). start.place ≤ place_told (end_of old (spot at chain))) (sym one_chain) (subst (λ (k : ℕ). start.place ≤ k) (sym come) (let same : start.place ≤ start.place = omega arith in same))))
              is other goes
          | inr that ↦ subst (Steps settled at l) (at_one plan at l to x end h.planned e next (c ∙ d) that) here
        ])
  ]

  pub advanced : ChainsStand plan new settled
  advanced = record {
    planned = h.planned;
    steps = λ k l m x y e f c p q. by_chain (eq-value.it (spot at end.chain) (spot k y.chain)) k l m x y refl e f c p q;
    ends = λ k chain e f. by_end (eq-value.it (spot at end.chain) (spot k chain)) k chain e refl f;
  }
    where
      by_chain : (b : Bool) (k : ℕ) (l m : Label) (x y : Standing) → eq-value.it (spot at end.chain) (spot k y.chain) ≡ b → standing plan.standings (spot k l) ≡ Some x → standing plan.standings (spot k m) ≡ Some y → x.chain ≡ y.chain
          → x.place ≤ y.place → y.place ≤ place_told (end_of new (spot k y.chain)) → Steps settled k l m
      by_chain true k l m x y same e f c p q =
          let both = (spot_is (spot at end.chain) (spot k y.chain)).0 same in
          let there : at ≡ k = ap (λ (s : Spot). s.at) both in
          let chain : end.chain ≡ y.chain = ap (λ (s : Spot). s.name) both in
          let ends_so : end_of new (spot k y.chain) ≡ Some now = put (spot k y.chain) ∙ ap (λ (b : Bool). cond b (Some now) (end_of old (spot k y.chain))) same in
          let within : y.place ≤ end.place = subst (λ (o : Option End). y.place ≤ place_told o) ends_so q in
          subst (λ (j : ℕ). Steps settled j l m) there
          (to_end l m x y (subst (λ (j : ℕ). standing plan.standings (spot j l) ≡ Some x) (sym there) e) (subst (λ (j : ℕ). standing plan.standings (spot j m) ≡ Some y) (sym there) f) c (sym chain) p within)
      by_chain false k l m x y apart e f c p q =
          let kept : end_of new (spot k y.chain) ≡ end_of old (spot k y.chain) = put (spot k y.chain) ∙ ap (λ (b : Bool). cond b (Some now) (end_of old (spot k y.chain))) apart in
          h.steps k l m x y e f c p (subst (λ (o : Option End). y.place ≤ place_told o) kept q)

      by_end : (b : Bool) (k : ℕ) (chain : Label) (e : End) → eq-value.it (spot at end.chain) (spot k chain) ≡ b → end_of new (spot k chain) ≡ Some e → standing plan.standings (spot k e.name) ≡ Some (record { chain = chain; place = e.place })
      by_end true k chain e same f =
          let both = (spot_is (spot at end.chain) (spot k chain)).0 same in
          let ends_so : Some now ≡ Some e = sym (put (spot k chain) ∙ ap (λ (b : Bool). cond b (Some now) (end_of old (spot k chain))) same) ∙ f in
          let is_now : now ≡ e = cc in
          subst (λ (x : End). standing plan.standings (spot k x.name) ≡ Some (record { chain = chain; place = x.place })) is_now
          (subst (λ (s : Spot). standing plan.standings (record { at = s.at; name = to }) ≡ Some (record { chain = s.name; place = end.place })) both next)
      by_end false k chain e apart f =
          let kept : end_of new (spot k chain) ≡ end_of old (spot k chain) = put (spot k chain) ∙ ap (λ (b : Bool). cond b (Some now) (end_of old (spot k chain))) apart in
          h.ends k chain e (sym kept ∙ f)

-- ---- to the end of a chain

settled_next : (settled viewed : Table) (at : ℕ) (l m : Label) → goal_at settled (spot at l) ≡ Some (To m) → next_of settled viewed at l ≡ Some m
settled_next settled viewed at l m e = ap (λ (o : Option Goal). next_by o (goal_at viewed (spot at l))) e

strides_of : (settled viewed : Table) (at : ℕ) (l m : Label) → Steps settled at l m → (l ≡ m) ⊎ Strides settled viewed at l m
strides_of settled viewed at l m here = inl refl
strides_of settled viewed at l m (onward n k is other e r) =
    let apart : is_object_label l ≡ false = ap is_object_label (sym is) ∙ object_label n ∙ other in
    let next = settled_next settled viewed at l k e in
    inr (elim (strides_of settled viewed at k m r) [
      | inl same ↦ subst (Strides settled viewed at l) same (one apart next)
      | inr rest ↦ more k apart next rest
    ])

pub end_strides : (plan : PlanTables) (told : List (Spot × End)) (settled viewed : Table) (at : ℕ) (name : Label) (x : Standing) (e : End) → ChainsStand plan told settled
    → standing plan.standings (spot at name) ≡ Some x → end_of told (spot at x.chain) ≡ Some e → x.place < e.place → Strides settled viewed at name e.name
end_strides plan told settled viewed at name x e h stands ends before =
    let last = h.ends at x.chain e ends in
    let within : e.place ≤ place_told (end_of told (spot at x.chain)) = subst (λ (o : Option End). e.place ≤ place_told o) (sym ends) (let same : e.place ≤ e.place = omega arith in same) in
    elim (strides_of settled viewed at name e.name (h.steps at name e.name x (record { chain = x.chain; place = e.place }) stands last refl (omega (arith, before)) within)) [
      | inr r ↦ r
      | inl same ↦
          let twice : Some x ≡ Some (record { chain = x.chain; place = e.place }) = sym stands ∙ ap (λ (l : Label). standing plan.standings (spot at l)) same ∙ last in
          let is_one : x ≡ record { chain = x.chain; place = e.place } = cc in
          let places : x.place ≡ e.place = ap (λ (s : Standing). s.place) is_one in
          absurd (omega (arith, places, before))
    ]
