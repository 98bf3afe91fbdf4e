-- What is marked is held, and what stands behind it in a chain is known.
use Rattle.std.proofs.Common.{◌≡◌, ℕ, ◌+◌, ◌≤◌, arith, Bool, true, false, cond, List, [], ◌∷◌, Option, Some, None, refl, sym, ap, subst, ◌∙◌, inl, inr}
use Rattle.std.specs.Prelude.{◌&&◌, slice_get}
use Rattle.std.proofs.lemmas.Bool.{cases_lt}
use Rattle.std.proofs.lemmas.Bool.Decides.{leb_tells}
use Rattle.ev_base.specs.declared.names.Name.{Name}
use Rattle.def_event.specs.declared.shown.Shown.{Shown, Name as Named}
use Rattle.def_event.specs.declared.event.Event.{Event}
use Rattle.def_event.specs.declared.event.Event.TheVariants.{Settle}
use Rattle.def_event.specs.Uses as uses
use Rattle.def_event.specs.Uses.{AName, IsAmong, IsFirstGivenBy, IsLead, IsTold, Knows, Lead, Line, Thing, leads, led, name_of, settles, things_of}
use Rattle.ev_links.specs.declared.chains.Spot.{Spot}
use Rattle.ev_links.specs.declared.chains.Standing.{Standing}
use Rattle.ev_links.specs.declared.label.Label.{Label}
use Rattle.ev_links.specs.contracts.chains.SpotPartialEq.TheImpl.{eq-value as spot_eq}
use Rattle.ev_links.specs.Chains.{PlanTables, spot, standing}
use Rattle.ev_links.specs.Label.{label}
use Rattle.ev_links.proofs.Chaining.{put_cases, spot_is}
use Rattle.ev_links.proofs.Spreading.{exact_label}
use Rattle.ev_known.specs.declared.facts.Activation.{Activation}
use Rattle.ev_known.specs.declared.facts.Fact.{Fact}
use Rattle.ev_known.specs.declared.facts.Fact.TheVariants as fact
use Rattle.ev_known.specs.declared.following.Goal.TheVariants.{To}
use Rattle.ev_known.specs.declared.marks.Holder.{Holder}
use Rattle.ev_known.specs.declared.marks.Holder.TheVariants as holder
use Rattle.ev_known.specs.declared.marks.Mark.{Mark}
use Rattle.ev_known.specs.contracts.marks.HolderPartialEq.TheImpl.{eq-value as holder_eq}
use Rattle.ev_known.specs.contracts.marks.MarkPartialEq.TheImpl.{eq-value}
use Rattle.ev_known.specs.Following.{FirstAs, GivesFirst, Steps, Table, goal_at, here, onward}
use Rattle.ev_known.specs.Marks.{AreKept, AreMarked, Held, HeldAs, Holding, IsMarkedFor, MarksStand, PutsMark, holding, is_from, is_marked, mark_at}
use Rattle.ev_known.specs.Telling.{StandsFor, key}
use Rattle.ev_known.proofs.Keys.{exact_activation, label_same}
use Rattle.ev_known.proofs.Followed.{named_goal}

-- ---- keys

holder_same : (a b : Holder) → holder_eq.it a b ≡ true → a ≡ b
holder_same (holder.Activation a) (holder.Activation b) h = ap holder.Activation (exact_activation.same a b h)
holder_same (holder.Object a) (holder.Object b) h = ap holder.Object (exact_label.same a b h)
holder_same a b h = absurd cc

both : (a b : Bool) → (a && b) ≡ true → (a ≡ true) × (b ≡ true)
both true true h = (refl, refl)
both true false h = absurd cc
both false b h = absurd cc

mark_same : (a b : Mark) → eq-value.it a b ≡ true → a ≡ b
mark_same a b h =
    let p = both (holder_eq.it a.holder b.holder) (spot_eq.it a.chain b.chain) h in
    ap (λ (x : Holder). record { holder = x; chain = a.chain }) (holder_same a.holder b.holder p.0) ∙ ap (λ (x : Spot). record { holder = b.holder; chain = x }) ((spot_is a.chain b.chain).0 p.1)

-- ---- what is held is marked

held_grows : (l : Line) (past : List Line) (h : Holder) (t : Thing) → Held past h t → Held (l ∷ past) h t
unfolding IsTold
held_grows l past (holder.Activation a) t x = inl x
held_grows l past (holder.Object o) t x = λ n is. inl (x n is)

pub marks_grow : (at : ℕ) (e : Event) (es : List (Mark × ℕ)) (old new : PlanTables) (past : List Line) → new ≡ old → MarksStand es old past → MarksStand es new (record { at = at; event = e } ∷ past)
marks_grow at e es old new past same h = record {
  each = λ k j c i is.
      let m = h.each k j c i is in
      (m.0, ap (λ (p : PlanTables). standing p.standings (spot j m.0)) same ∙ m.1, λ t l. held_grows (record { at = at; event = e }) past k t (m.2 t l));
}

pub none_marked : (plan : PlanTables) (past : List Line) → MarksStand [] plan past
unfolding mark_at
none_marked plan past = record { each = λ k j c i is. absurd (let bad : None ≡ Some i = is in cc) }

pub marked : (h : Holder) (at : ℕ) (l : Label) (x : Standing) (old new : List (Mark × ℕ)) (plan : PlanTables) (past : List Line) → standing plan.standings (spot at l) ≡ Some x → HeldAs past h l
    → PutsMark (record { holder = h; chain = spot at x.chain }) x.place old new → MarksStand old plan past → MarksStand new plan past
marked h at l x old new plan past stands held put m = record {
  each = λ k j c i is.
      let q : Mark = record { holder = k; chain = spot j c } in
      let this : Mark = record { holder = h; chain = spot at x.chain } in
      elim (put_cases (eq-value.it this q) x.place i (mark_at new q) (mark_at old q) (put q) is) [
        | inl a ↦
            let same = mark_same this q a.0 in (
              l,
              subst (λ (n : ℕ). standing plan.standings (spot j l) ≡ Some (record { chain = c; place = n })) a.1
                  (subst (λ (y : Mark). standing plan.standings (spot y.chain.at l) ≡ Some (record { chain = y.chain.name; place = x.place })) same stands),
              subst (λ (y : Mark). HeldAs past y.holder l) same held,
            )
        | inr b ↦ m.each k j c i b.1
      ];
}

pub given_held : (facts : List Fact) (past : List Line) (a : Activation) (l : Label) → StandsFor facts past → IsAmong (fact.Given a l) facts → HeldAs past (holder.Activation a) l
unfolding key
given_held facts past a l s i = λ t is. (s.each (uses.Given (record { at = a.at; number = a.number }) t)).0 (subst (λ (x : Label). IsAmong (fact.Given a x) facts) (sym is) i)

pub captured_held : (facts : List Fact) (past : List Line) (o l : Label) → StandsFor facts past → IsAmong (fact.Captured o l) facts → HeldAs past (holder.Object o) l
unfolding key
captured_held facts past o l s i = λ t is n same.
    (s.each (uses.Captured n t)).0 (subst (λ (x : Label). IsAmong (fact.Captured x (label t)) facts) (sym same) (subst (λ (x : Label). IsAmong (fact.Captured o x) facts) (sym is) i))

-- ---- all that is held and stands in a chain is marked

holder_itself : (a : Holder) → holder_eq.it a a ≡ true
holder_itself (holder.Activation a) = exact_activation.itself a
holder_itself (holder.Object o) = exact_label.itself o

mark_itself : (m : Mark) → eq-value.it m m ≡ true
mark_itself m = ap (λ (b : Bool). b && spot_eq.it m.chain m.chain) (holder_itself m.holder) ∙ (spot_is m.chain m.chain).1 refl

from_so : (i n : ℕ) → i ≤ n → is_from (Some i) n ≡ true
from_so i n le = elim (leb_tells i n) [ inl a ↦ a.0 | inr b ↦ absurd (omega (arith, le, b.1)) ]

-- what comes behind an older mark comes behind an earlier one
from_earlier : (o : Option ℕ) (i n : ℕ) → is_from o i ≡ false → is_from o n ≡ true → is_from (Some i) n ≡ true
from_earlier None i n before behind = absurd cc
from_earlier (Some k) i n before behind = elim (leb_tells k i) [
  | inl a ↦ absurd (let bad : true ≡ false = sym a.0 ∙ before in cc)
  | inr b ↦ elim (leb_tells k n) [
    | inl c ↦ from_so i n (omega (arith, b.1, c.1))
    | inr d ↦ absurd (let bad : true ≡ false = sym behind ∙ d.0 in cc)
  ]
]

module _ (h : Holder) (at : ℕ) (x : Standing) (old new : List (Mark × ℕ)) (later : is_marked old h at x ≡ false) (put : PutsMark (record { holder = h; chain = spot at x.chain }) x.place old new) where
  abbrev this : Mark
  this = record { holder = h; chain = spot at x.chain }

  kept_at : (q : Mark) (n : ℕ) → is_from (mark_at old q) n ≡ true → is_from (mark_at new q) n ≡ true
  kept_at q n was = by (eq-value.it this q) refl
    where
      by : (b : Bool) → eq-value.it this q ≡ b → is_from (mark_at new q) n ≡ true
      by true same =
          let now : mark_at new q ≡ Some x.place = put q ∙ ap (λ (b : Bool). cond b (Some x.place) (mark_at old q)) same in
          let before : is_from (mark_at old q) x.place ≡ false = ap (λ (m : Mark). is_from (mark_at old m) x.place) (sym (mark_same this q same)) ∙ later in
          ap (λ (o : Option ℕ). is_from o n) now ∙ from_earlier (mark_at old q) x.place n before was
      by false apart = ap (λ (o : Option ℕ). is_from o n) (put q ∙ ap (λ (b : Bool). cond b (Some x.place) (mark_at old q)) apart) ∙ was

  pub put_kept : AreKept old new
  put_kept k j y was = kept_at (record { holder = k; chain = spot j y.chain }) y.place was

  pub put_marked : is_marked new h at x ≡ true
  put_marked =
      let now : mark_at new this ≡ Some x.place = put this ∙ ap (λ (b : Bool). cond b (Some x.place) (mark_at old this)) (mark_itself this) in
      ap (λ (o : Option ℕ). is_from o x.place) now ∙ from_so x.place x.place (let same : x.place ≤ x.place = omega arith in same)

-- where it stands is where it is marked
pub marked_for : (es : List (Mark × ℕ)) (plan : PlanTables) (h : Holder) (at : ℕ) (l : Label) (x : Standing) → standing plan.standings (spot at l) ≡ Some x → is_marked es h at x ≡ true
    → IsMarkedFor es plan (Some (record { holder = h; at = at; label = l }))
marked_for es plan h at l x is so y that = let both : Some x ≡ Some y = sym is ∙ that in let same : x ≡ y = cc in subst (λ (z : Standing). is_marked es h at z ≡ true) same so

pub none_for : (es : List (Mark × ℕ)) (plan : PlanTables) (h : Holder) (at : ℕ) (l : Label) → standing plan.standings (spot at l) ≡ None → IsMarkedFor es plan (Some (record { holder = h; at = at; label = l }))
none_for es plan h at l is y that = absurd (let bad : None ≡ Some y = sym is ∙ that in cc)

kept_for : (old new : List (Mark × ℕ)) (plan : PlanTables) (o : Option Holding) → AreKept old new → IsMarkedFor old plan o → IsMarkedFor new plan o
kept_for old new plan None kept h = h
kept_for old new plan (Some w) kept h = λ y is. kept w.holder w.at y (h y is)

pub none_marked_yet : (plan : PlanTables) (facts : List Fact) (first next : ℕ) (es : List (Mark × ℕ)) → next ≤ first → AreMarked plan facts first next es es
none_marked_yet plan facts first next es le = record { kept = λ h at x is. is; each = λ i f from to is. absurd (omega (arith, from, to, le)) }

pub one_marked : (plan : PlanTables) (facts : List Fact) (first i : ℕ) (f : Fact) (old mid new : List (Mark × ℕ)) → slice_get facts i ≡ Some f → AreMarked plan facts first i old mid → AreKept mid new
    → IsMarkedFor new plan (holding f) → AreMarked plan facts first (i + 1) old new
one_marked plan facts first i f old mid new is h kept this = record {
  kept = λ k at x was. kept k at x (h.kept k at x was);
  each = λ j g from to get. elim (cases_lt j i) [
    | inl less ↦ kept_for mid new plan (holding g) kept (h.each j g from less get)
    | inr more ↦
        let same : i ≡ j = omega (arith, to, more) in
        let both : Some f ≡ Some g = sym is ∙ ap (slice_get facts) same ∙ get in
        let one : f ≡ g = cc in
        subst (λ (x : Fact). IsMarkedFor new plan (holding x)) one this
  ];
}

pub all_marked : (plan : PlanTables) (facts : List Fact) (first next last : ℕ) (old new : List (Mark × ℕ)) → last ≤ next → AreMarked plan facts first next old new → AreMarked plan facts first last old new
all_marked plan facts first next last old new le h = record { kept = h.kept; each = λ i f from to is. h.each i f from (omega (arith, to, le)) is }

-- ---- what stands behind is known

value_leads : (at : ℕ) (p m : Name) (x : Shown) → name_of x ≡ Some m → IsAmong (record { way = uses.Settled at; from = AName p; to = AName m }) (led (uses.Settled at) (AName p) (things_of x))
unfolding name_of things_of
value_leads at p m (Named k) h = let same : k ≡ m = cc in inl (ap (λ (y : Name). record { way = uses.Settled at; from = AName p; to = AName y }) same)
value_leads at p m x h = absurd cc

event_leads : (at : ℕ) (e : Event) (n m : Name) → settles e ≡ Some (record { name = n; value = Some m }) → IsAmong (record { way = uses.Settled at; from = AName n; to = AName m }) (leads at e)
unfolding settles leads
event_leads at (Settle p x) n m h =
    let name : p ≡ n = ap (name_in p) h in
    let value : name_of x ≡ Some m = ap (value_in None) h in
    subst (λ (y : Name). IsAmong (record { way = uses.Settled at; from = AName y; to = AName m }) (led (uses.Settled at) (AName p) (things_of x))) name (value_leads at p m x value)
  where
    name_in : Name → Option uses.Given_for → Name
    name_in d None = d
    name_in d (Some g) = g.name

    value_in : Option Name → Option uses.Given_for → Option Name
    value_in d None = d
    value_in d (Some g) = g.value
event_leads at e n m h = absurd cc

first_leads : (past : List Line) (at : ℕ) (n m : Name) → IsFirstGivenBy settles past at n (Some m) → IsLead past (record { way = uses.Settled at; from = AName n; to = AName m })
unfolding IsLead
first_leads [] at n m h = absurd h
first_leads (l ∷ past) at n m (inl h) = inl (first_leads past at n m h)
first_leads (l ∷ past) at n m (inr h) =
    inr (subst (λ (k : ℕ). IsAmong (record { way = uses.Settled k; from = AName n; to = AName m }) (leads l.at l.event)) h.1 (event_leads l.at l.event n m h.2))

pub steps_known : (settled : Table) (past : List Line) (a : uses.Activation) (l m : Label) → GivesFirst settles settled past → Steps settled a.at l m → ((t : Thing) → label t ≡ l → Knows past a t)
    → (t : Thing) → label t ≡ m → Knows past a t
steps_known settled past a l m g here known = known
steps_known settled past a l m g (onward n k is other e r) known =
    let there : FirstAs settles past a.at n (Some (To k))
    = subst (FirstAs settles past a.at n) (ap (λ (x : Label). goal_at settled (spot a.at x)) is ∙ e) (g.each a.at n) in
    let v = named_goal there.1 k there.2 in
    let lead = first_leads past a.at n v.0 (subst (IsFirstGivenBy settles past a.at n) v.2 there.3) in
    let next : Knows past a (AName v.0) = uses.onward (record { way = uses.Settled a.at; from = AName n; to = AName v.0 }) lead refl (known (AName n) is) in
    steps_known settled past a k m g r (λ t same. subst (Knows past a) (sym (label_same t (AName v.0) (same ∙ sym v.1))) next)
