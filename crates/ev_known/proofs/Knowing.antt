-- The tables tell what activations know.
use Rattle.std.proofs.Common.{◌≡◌, ℕ, Bool, true, false, List, [], ◌∷◌, reverse, not, Option, Some, None, refl, sym, ap, subst, ◌∙◌, inl, inr, eq-eqb}
use Rattle.std.specs.Prelude.{◌⊎◌, ◌&&◌, if◌then◌else◌}
use Rattle.std.proofs.lemmas.Bool.{eqb-true, leb-true}
use Rattle.ev_base.specs.declared.names.Name.{Name}
use Rattle.ev_base.specs.declared.names.Name.TheVariants.{Object, Own, Answer, Gift, Root, Claimed}
use Rattle.def_event.specs.Uses as uses
use Rattle.def_event.specs.Uses.{IsAmong, Thing, AName, AList, Line, Lead, Has, Knows, IsOpenAt, IsTold, Runs, is_root}
use Rattle.ev_known.specs.declared.facts.Activation.{Activation}
use Rattle.ev_known.specs.declared.facts.Fact.{Fact}
use Rattle.ev_known.specs.declared.facts.Fact.TheVariants as fact
use Rattle.ev_known.specs.declared.found.Finding.{Finding}
use Rattle.ev_known.specs.declared.marks.Holder.{Holder}
use Rattle.ev_known.specs.declared.marks.Holder.TheVariants as holder
use Rattle.ev_known.specs.declared.marks.Mark.{Mark}
use Rattle.ev_links.specs.declared.chains.Standing.{Standing}
use Rattle.ev_links.specs.declared.label.Label.{Label}
use Rattle.ev_links.specs.declared.links.Link.{Link}
use Rattle.ev_links.specs.declared.links.Scope.TheVariants.{Place}
use Rattle.ev_links.specs.Chains.{end_of, spot, standing}
use Rattle.ev_links.specs.Label.{label}
use Rattle.ev_known.specs.Leads.{LinksStand, backward, way_of}
use Rattle.ev_links.specs.Links.{IsReached, start, onward, is_open, row, with_label}
use Rattle.ev_known.specs.Found.{FoundStand, is_found, with_found}
use Rattle.ev_known.specs.Following.{FollowedAs, Tables, TablesStand, is_told_in, place_told}
use Rattle.ev_known.specs.Marks.{Held, MarksStand, is_from, is_marked, mark_at}
use Rattle.ev_known.proofs.Marking.{none_marked, steps_known}
use Rattle.ev_known.specs.Runs.{RunsAs, RunsStand, runner}
use Rattle.ev_known.specs.Telling.{StandsFor, activation, is_told, key}
use Rattle.ev_known.specs.Knowing.{Known, KnownStand, LeadsToAudition, Searched, has_captured, has_in, is_behind, is_chained, is_led, is_marked_for, is_root_label, knows_in, leads_from}
use Rattle.ev_links.proofs.Among.{among_reverse, any_so, any_there}
use Rattle.ev_known.proofs.Growing.{among_more, found_among, nothing_found}
use Rattle.ev_known.proofs.Keys.{label_same}
use Rattle.ev_known.proofs.Told.{among_is_told}
use Rattle.ev_known.proofs.Running.{told_is}
use Rattle.ev_known.proofs.Leading.{none_lead}

pub none_known : (facts : List Fact) (following : Tables) (runs : List (Activation × Label)) (links : List (Label × List Link)) (marks : List (Mark × ℕ)) (found : List Finding)
    → StandsFor facts [] → TablesStand following [] → RunsStand runs [] → links ≡ [] → marks ≡ [] → found ≡ []
    → KnownStand (record { facts = facts; following = following; runs = runs; links = links; marks = marks; found = found }) []
none_known facts following runs links marks found f g r l m n = record {
  facts = f;
  following = g;
  runs = r;
  links = subst (λ (ls : List (Label × List Link)). LinksStand ls []) (sym l) none_lead;
  marks = subst (λ (ms : List (Mark × ℕ)). MarksStand ms following.plan []) (sym m) (none_marked following.plan []);
  found = subst (λ (ks : List Finding). FoundStand ks []) (sym n) (nothing_found []);
}

-- ---- tests of two and three

two_true : (a b : Bool) → (if a then true else b) ≡ true → (a ≡ true) ⊎ (b ≡ true)
two_true true b h = inl refl
two_true false b h = inr h

not_stopped : (a b : Bool) → (if not a then false else b) ≡ true → (a ≡ true) × (b ≡ true)
not_stopped true b h = (refl, h)
not_stopped false b h = absurd cc

three_true : (a b c : Bool) → (if a then true else if b then true else c) ≡ true → (a ≡ true) ⊎ ((b ≡ true) ⊎ (c ≡ true))
three_true true b c h = inl refl
three_true false true c h = inr (inl refl)
three_true false false c h = inr (inr h)

first_true : (a b c : Bool) → a ≡ true → (if a then true else if b then true else c) ≡ true
first_true true b c h = refl
first_true false b c h = absurd cc

second_true : (a b c : Bool) → b ≡ true → (if a then true else if b then true else c) ≡ true
second_true true b c h = refl
second_true false true c h = refl
second_true false false c h = absurd cc

third_true : (a b c : Bool) → c ≡ true → (if a then true else if b then true else c) ≡ true
third_true true b c h = refl
third_true false true c h = refl
third_true false false c h = h

both : (a b : Bool) → (a && b) ≡ true → (a ≡ true) × (b ≡ true)
both true true h = (refl, refl)
both true false h = absurd cc
both false b h = absurd cc

both_so : (a b : Bool) → a ≡ true → b ≡ true → (a && b) ≡ true
both_so true true h k = refl
both_so true false h k = absurd cc
both_so false b h k = absurd cc

-- ---- what an activation has

root_label : (t : Thing) → is_root_label (label t) ≡ is_root t
unfolding label is_root
root_label (AName (Object v n)) = refl
root_label (AName (Own v n)) = refl
root_label (AName (Answer v m)) = refl
root_label (AName (Gift v n)) = refl
root_label (AName (Root v)) = refl
root_label (AName (Claimed v p word)) = refl
root_label (AList v n) = refl

fact_told : (facts : List Fact) (past : List Line) (f : uses.Fact) → StandsFor facts past → IsTold past f → is_told facts (key f) ≡ true
fact_told facts past f h t = among_is_told facts (key f) ((h.each f).1 t)

captured_there : (facts : List Fact) (past : List Line) (a : uses.Activation) (t : Thing) (o : Option Label) → StandsFor facts past → RunsAs past a o → has_captured facts o (label t) ≡ true
    → (n : Name) × Runs past a n × IsTold past (uses.Captured n t)
unfolding key
captured_there facts past a t None h r e = absurd cc
captured_there facts past a t (Some l) h r e =
    (r.0, r.2, told_is facts past (uses.Captured r.0 t) h (ap (λ (x : Label). is_told facts (fact.Captured x (label t))) r.1 ∙ e))

captured_back : (facts : List Fact) (past : List Line) (a : uses.Activation) (t : Thing) (o : Option Label) (n : Name) → StandsFor facts past → RunsAs past a o → Runs past a n → IsTold past (uses.Captured n t)
    → has_captured facts o (label t) ≡ true
unfolding key
captured_back facts past a t None n h r runs told = absurd (r n runs)
captured_back facts past a t (Some l) n h r runs told =
    ap (λ (x : Label). is_told facts (fact.Captured x (label t))) (sym (ap (λ (m : Name). label (AName m)) (r.3 n runs) ∙ r.1)) ∙ fact_told facts past (uses.Captured n t) h told

module _ (k : Known) (past : List Line) (h : KnownStand k past) (a : uses.Activation) where
  has_there : (t : Thing) → has_in k (activation a) (label t) ≡ true → Has past a t
  unfolding key
  has_there t e = elim (three_true (is_root_label (label t) && is_told k.facts (fact.Opened (activation a))) (is_told k.facts (fact.Given (activation a) (label t))) (has_captured k.facts (runner k.runs (activation a)) (label t)) e) [
    | inl x ↦
        let p = both (is_root_label (label t)) (is_told k.facts (fact.Opened (activation a))) x in
        inl (sym (root_label t) ∙ p.0, told_is k.facts past (uses.Opened a) h.facts p.1)
    | inr y ↦ inr (elim y [
      | inl x ↦ inl (told_is k.facts past (uses.Given a t) h.facts x)
      | inr x ↦ inr (captured_there k.facts past a t (runner k.runs (activation a)) h.facts (h.runs.each a) x)
    ])
  ]

  has_back : (t : Thing) → Has past a t → has_in k (activation a) (label t) ≡ true
  unfolding key
  has_back t has = elim has [
    | inl x ↦ first_true (is_root_label (label t) && is_told k.facts (fact.Opened (activation a))) (is_told k.facts (fact.Given (activation a) (label t))) (has_captured k.facts (runner k.runs (activation a)) (label t))
        (both_so (is_root_label (label t)) (is_told k.facts (fact.Opened (activation a))) (root_label t ∙ x.0) (fact_told k.facts past (uses.Opened a) h.facts x.1))
    | inr y ↦ elim y [
      | inl x ↦ second_true (is_root_label (label t) && is_told k.facts (fact.Opened (activation a))) (is_told k.facts (fact.Given (activation a) (label t))) (has_captured k.facts (runner k.runs (activation a)) (label t))
          (fact_told k.facts past (uses.Given a t) h.facts x)
      | inr x ↦ third_true (is_root_label (label t) && is_told k.facts (fact.Opened (activation a))) (is_told k.facts (fact.Given (activation a) (label t))) (has_captured k.facts (runner k.runs (activation a)) (label t))
          (captured_back k.facts past a t (runner k.runs (activation a)) x.0 h.facts (h.runs.each a) x.1 x.2)
    ]
  ]

  -- ---- what leads to it

  open_there : (w : uses.Way) → IsOpenAt a.at w → is_open (Place a.at) (way_of w) ≡ true
  open_there uses.Listed o = refl
  open_there (uses.Settled v) o = eq-eqb v a.at o

  open_back : (w : uses.Way) → is_open (Place a.at) (way_of w) ≡ true → IsOpenAt a.at w
  open_back uses.Listed e = tt
  open_back (uses.Settled v) e = eqb-true v a.at e

  -- ---- what stands behind it in a chain

  behind_mark : (t : Thing) (x : Standing) (who : Holder) (o : Option ℕ) → standing k.following.plan.standings (spot a.at (label t)) ≡ Some x → is_told_in k.following.told a.at x ≡ true → ((s : Thing) → Held past who s → Knows past a s)
      → mark_at k.marks (record { holder = who; chain = spot a.at x.chain }) ≡ o → is_from o x.place ≡ true → Knows past a t
  behind_mark t x who None stands told known is e = absurd cc
  behind_mark t x who (Some i) stands told known is e =
      let first = h.marks.each who a.at x.chain i is in
      let steps = h.following.chains.steps a.at first.0 (label t) (record { chain = x.chain; place = i }) x first.1 stands refl (leb-true i x.place e)
      (leb-true x.place (place_told (end_of k.following.told (spot a.at x.chain))) told) in
      steps_known k.following.settled past a first.0 (label t) h.following.settled steps (λ s same. known s (first.2 s same)) t refl

  behind_object : (t : Thing) (x : Standing) (o : Option Label) → standing k.following.plan.standings (spot a.at (label t)) ≡ Some x → is_told_in k.following.told a.at x ≡ true → RunsAs past a o
      → is_marked_for k a.at x o ≡ true → Knows past a t
  behind_object t x None stands told runs e = absurd cc
  behind_object t x (Some o) stands told runs e =
      behind_mark t x (holder.Object o) (mark_at k.marks (record { holder = holder.Object o; chain = spot a.at x.chain })) stands told
      (λ s held. uses.start (inr (inr (runs.0, runs.2, held runs.0 runs.1)))) refl e

  behind_known : (t : Thing) (o : Option Standing) → standing k.following.plan.standings (spot a.at (label t)) ≡ o → is_behind k (activation a) o ≡ true → Knows past a t
  behind_known t None stands e = absurd cc
  behind_known t (Some x) stands e =
      let both = not_stopped (is_told_in k.following.told a.at x) (if is_marked k.marks (holder.Activation (activation a)) a.at x then true else is_marked_for k a.at x (runner k.runs (activation a))) e in
      elim (two_true (is_marked k.marks (holder.Activation (activation a)) a.at x) (is_marked_for k a.at x (runner k.runs (activation a))) both.1) [
        | inl y ↦ behind_mark t x (holder.Activation (activation a)) (mark_at k.marks (record { holder = holder.Activation (activation a); chain = spot a.at x.chain })) stands both.0
            (λ s held. uses.start (inr (inl held))) refl y
        | inr y ↦ behind_object t x (runner k.runs (activation a)) stands both.0 (h.runs.each a) y
      ]

  knows_of : (t : Thing) → knows_in k (activation a) (label t) ≡ true → Knows past a t
  knows_of t e = elim (three_true (is_found k.found (record { by = activation a; thing = label t })) (has_in k (activation a) (label t)) (is_chained k (activation a) (label t)) e) [
    | inl x ↦ h.found.each a t (found_among k.found (record { by = activation a; thing = label t }) x)
    | inr y ↦ elim y [
      | inl x ↦ uses.start (has_there t x)
      | inr x ↦ behind_known t (standing k.following.plan.standings (spot a.at (label t))) refl x
    ]
  ]

  has_known : (l : Label) → has_in k (activation a) l ≡ true → knows_in k (activation a) l ≡ true
  has_known l e = second_true (is_found k.found (record { by = activation a; thing = l })) (has_in k (activation a) l) (is_chained k (activation a) l) e

  -- a known thing leads there by one link
  led_so : (l : Label) (x : Link) → IsAmong x (row k.links l) → is_open (Place a.at) x.way ≡ true → knows_in k (activation a) x.other ≡ true → is_led k (activation a) l ≡ true
  led_so l x i o e =
      any_so (leads_from k (activation a)) x (reverse (row k.links l)) ((among_reverse x (row k.links l)).1 i)
      (both_so (is_open (Place a.at) x.way) (knows_in k (activation a) x.other) o e)

  pub led_known : (t : Thing) (l : Label) → label t ≡ l → is_led k (activation a) l ≡ true → Knows past a t
  led_known t l is e =
      let x = any_there (leads_from k (activation a)) (reverse (row k.links l)) e in
      let p = both (is_open (Place a.at) x.0.way) (knows_in k (activation a) x.0.other) x.2 in
      let d = (h.links.each l x.0).0 ((among_reverse x.0 (row k.links l)).0 x.1) in
      let same : d.0.to ≡ t = label_same d.0.to t (d.2 ∙ sym is) in
      let open_way : IsOpenAt a.at d.0.way = open_back d.0.way (ap (λ (y : Link). is_open (Place a.at) y.way) d.3 ∙ p.0) in
      let from : Knows past a d.0.from = knows_of d.0.from (ap (λ (y : Link). knows_in k (activation a) y.other) d.3 ∙ p.1) in
      subst (Knows past a) same (uses.onward d.0 d.1 open_way from)

  -- what is known is so already, or going back from it one comes to what a known thing leads to
  knows_there : (starts : List Label) (t : Thing) → Knows past a t → IsReached k.links (Place a.at) starts (label t)
      → (knows_in k (activation a) (label t) ≡ true) ⊎ ((l : Label) × IsReached k.links (Place a.at) starts l × (is_led k (activation a) l ≡ true))
  knows_there starts t (uses.start has) r = inl (has_known (label t) (has_back t has))
  knows_there starts t (uses.onward d lead gone rest) r =
      let link = (h.links.each (label d.to) (backward d)).1 (d, lead, refl, refl) in
      let way = open_there d.way gone in
      elim (knows_there starts d.from rest (onward (label d.to) (backward d) link way r)) [
        | inl x ↦ inr (label d.to, r, led_so (label d.to) (backward d) link way x)
        | inr y ↦ inr y
      ]

  knows_back : (t : Thing) (l : Label) → IsReached k.links (Place a.at) (label t ∷ []) l → (s : Thing) × (label s ≡ l) × (Knows past a s → Knows past a t)
  knows_back t l (start e) = (t, elim e [ inl x ↦ x | inr n ↦ absurd n ], λ x. x)
  knows_back t l (onward m link there gone r) =
      let s = knows_back t m r in
      let d = (h.links.each m link).0 there in
      let same : d.0.to ≡ s.0 = label_same d.0.to s.0 (d.2 ∙ sym s.1) in
      let open_way : IsOpenAt a.at d.0.way = open_back d.0.way (ap (λ (x : Link). is_open (Place a.at) x.way) d.3 ∙ gone) in
      (d.0.from, ap (λ (x : Link). x.other) d.3, λ x. s.2 (subst (Knows past a) same (uses.onward d.0 d.1 open_way x)))

  -- ---- the answers

  pub had_known : (t : Thing) (l : Label) → l ≡ label t → knows_in k (activation a) l ≡ true → Knows past a t
  had_known t l is e = knows_of t (ap (knows_in k (activation a)) (sym is) ∙ e)

  one_start : (t : Thing) (l : Label) (starts : List Label) → l ≡ label t → starts ≡ with_label [] l → starts ≡ label t ∷ []
  unfolding with_label
  one_start t l starts is one = one ∙ ap (λ (x : Label). x ∷ []) is

  pub found_known : (t : Thing) (l : Label) (starts seen : List Label) (i : ℕ) → l ≡ label t → starts ≡ with_label [] l → Searched k (activation a) starts seen (Some i) → Knows past a t
  found_known t l starts seen i is one s =
      let back = knows_back t s.1 (subst (λ (ls : List Label). IsReached k.links (Place a.at) ls s.1) (one_start t l starts is one) s.2) in
      back.2 (led_known back.0 s.1 back.1 s.3)

  pub none_known_of : (t : Thing) (l : Label) (starts seen : List Label) → l ≡ label t → starts ≡ with_label [] l → Searched k (activation a) starts seen None
      → knows_in k (activation a) l ≡ false → Knows past a t → ⊥
  none_known_of t l starts seen is one s other known =
      elim (knows_there starts t known (subst (λ (ls : List Label). IsReached k.links (Place a.at) ls (label t)) (sym (one_start t l starts is one)) (start (inl refl)))) [
        | inl x ↦ (let bad : true ≡ false = sym x ∙ ap (knows_in k (activation a)) (sym is) ∙ other in absurd cc)
        | inr y ↦ (let bad : true ≡ false = sym y.2 ∙ s y.0 y.1 in absurd cc)
      ]

-- ---- what was found is kept

pub kept_stand : (k : Known) (past : List Line) (a : Activation) (l : Label) (found : List Finding) → KnownStand k past → is_led k a l ≡ true → found ≡ with_found k.found (record { by = a; thing = l })
    → KnownStand (record k { found = found }) past
kept_stand k past a l found h led is = record {
  facts = h.facts;
  following = h.following;
  runs = h.runs;
  links = h.links;
  marks = h.marks;
  found = record {
    each = λ b t i. elim ((among_more (record { by = activation b; thing = label t }) (record { by = a; thing = l }) k.found).0 (subst (IsAmong (record { by = activation b; thing = label t })) is i)) [
      | inl x ↦ h.found.each b t x
      | inr e ↦ led_known k past h b t l (sym (ap (λ (x : Finding). x.thing) e)) (subst (λ (x : Activation). is_led k x l ≡ true) (ap (λ (x : Finding). x.by) e) led)
    ];
  };
}

-- what was found may be let go
pub none_found_stand : (k : Known) (past : List Line) (found : List Finding) → KnownStand k past → found ≡ [] → KnownStand (record k { found = found }) past
none_found_stand k past found h is = record {
  facts = h.facts;
  following = h.following;
  runs = h.runs;
  links = h.links;
  marks = h.marks;
  found = subst (λ (ks : List Finding). FoundStand ks past) (sym is) (nothing_found past);
}

-- ---- auditions

module _ (k : Known) (past : List Line) (at : ℕ) (n : Name) (h : KnownStand k past) where
  pub none_followed : FollowedAs past at n None → LeadsToAudition past at n → ⊥
  none_followed none leads = none leads.0 leads.1

  pub audition_there : (l : Label) → FollowedAs past at n (Some l) → is_told k.facts (fact.Audition l) ≡ true → LeadsToAudition past at n
  unfolding key
  audition_there l f e = (f.0, f.2, told_is k.facts past (uses.Audition f.0) h.facts (ap (λ (x : Label). is_told k.facts (fact.Audition x)) f.1 ∙ e))

  pub audition_back : (l : Label) → FollowedAs past at n (Some l) → LeadsToAudition past at n → is_told k.facts (fact.Audition l) ≡ true
  unfolding key
  audition_back l f leads =
      let same : label (AName leads.0) ≡ l = ap (λ (m : Name). label (AName m)) (f.3 leads.0 leads.1) ∙ f.1 in
      ap (λ (x : Label). is_told k.facts (fact.Audition x)) (sym same) ∙ fact_told k.facts past (uses.Audition leads.0) h.facts leads.2
