-- What the judge answers is the answer on the order of the trace.
use Rattle.std.specs.Prelude.{◌≡◌, ◌+◌, ◌≤◌, ℕ, Bool, true, false, if◌then◌else◌, List, length, Option, Some, None, option_map, slice_get}
use Rattle.std.proofs.Common.{refl, arith, sym, ◌∙◌, ap, subst, ⊎_elim, inl, inr}
use Rattle.std.proofs.Math.ListN.{get_or}
use Rattle.std.proofs.lemmas.Option.{slice_get_within, slice_get-get_or}
use Rattle.std.proofs.lemmas.Bool.{ltb-true, ltb-false}
use Rattle.std.proofs.lemmas.Bool.Decides.{eqb_tells}
use Rattle.ev_base.specs.declared.names.Msg.{Msg}
use Rattle.def_event.specs.declared.event.Event.{Event}
use Rattle.def_event.specs.Order.{Taking, taking, IsTakenBefore, Before, IsOrdered, IsFirstOvertaken}
use Rattle.ev_order.specs.declared.mentions.Mention.{Mention}
use Rattle.ev_order.specs.declared.spread.Place.{Place}
use Rattle.ev_order.specs.Mentions.{MentionList, IsThere, IsAbsent}
use Rattle.ev_order.specs.Spread.{HasLabel}
use Rattle.ev_order.specs.Walk.{HoldsSent, HoldsTaken}
use Rattle.ev_order.specs.Graph.{IsGraph}
use Rattle.ev_order.specs.Judge.{FitPlaces, seed_of, HasRanks, HasWaiting, IsFound, IsEarliest, IsWaiting, TellsTaken, first_label, IsFirstEarly, TakesAt, NoneEarly}
use Rattle.ev_order.proofs.Graphs.{one_deed, sent_fit}
use Rattle.ev_order.proofs.Judged.{Sees, leads_is_before, single_sent, before_is_lead, not_before, taken_there, absent_not, overtaken_from, overtaken_early}

pub fits : (lines : List Event) (places : List Place) (sent : MentionList) → IsGraph lines places → HoldsSent lines sent → FitPlaces places sent
fits lines places sent g hs n m s at = omega (arith, sent_fit lines sent hs n m s at, g.linked.same_length)

module _ (lines : List Event) (places : List Place) (g : IsGraph lines places) (sent taken : MentionList) (hs : HoldsSent lines sent) (ht : HoldsTaken lines taken) where
  -- ---- none takes too early

  pub all_ordered : (labels : List (Option ℕ)) → HasRanks places sent taken labels → NoneEarly labels sent taken lines (length lines) → IsOrdered lines
  all_ordered labels r none t i n m o =
      let e = overtaken_early lines places g sent taken hs ht r.seeds labels r.ranked r.labels_are t n m i o in
      none t e.0 n (slice_get_within lines t e.0 e.1) e.1 e.2

  -- ---- the first that does

  waiting_free : (line : ℕ) (m : Msg) (s : Mention) (o : Option ℕ) → IsWaiting places taken line m s o → (IsTakenBefore lines line m → ⊥) → o ≡ seed_of places s
  waiting_free line m s o w waits = w.is ∙ ap (λ (b : Bool). if b then None else seed_of places s) (is_free w.is_taken w.tells)
    where
      is_free : (b : Bool) → TellsTaken taken m line b → b ≡ false
      is_free false t = refl
      is_free true (inl t) = absurd (waits (taken_there lines places g sent taken hs ht line m t.0 t.1 (ltb-true t.0.line line (sym t.2))))
      is_free true (inr t) = let no_way = t.1 in cc

  waiting_some : (line : ℕ) (m : Msg) (s : Mention) (a : ℕ) → IsWaiting places taken line m s (Some a) → (Some a ≡ seed_of places s) × (IsTakenBefore lines line m → ⊥)
  waiting_some line m s a w = cases w.is_taken w.tells w.is
    where
      cases : (b : Bool) → TellsTaken taken m line b → Some a ≡ (if b then None else seed_of places s) → (Some a ≡ seed_of places s) × (IsTakenBefore lines line m → ⊥)
      cases true t e = cc
      cases false (inl t) e = (e, not_before lines places g sent taken hs ht line m t.0 t.1 (ltb-false t.0.line line (sym t.2)))
      cases false (inr t) e = (e, absent_not lines places g sent taken hs ht line m t.0)

  module _ (line : ℕ) (labels : List (Option ℕ)) (w : HasWaiting places sent taken line labels) where
    -- a message that is before another and waits has a label of the other's place above it
    labelled : (m : Msg) (i : ℕ) (n : Msg) (s : Sees lines places g sent taken hs ht m i n) → (IsTakenBefore lines line m → ⊥) → (k : ℕ) × (k ≤ s.there.0) × HasLabel labels (s.later.first + s.later.args) k
    labelled m i n s waits =
        let e = s.there.0 in
        let inside = slice_get_within sent e (m, s.send) s.there.1 in
        let got = slice_get-get_or w.seeds e None (omega (arith, inside, w.waiting.size)) in
        let free = waiting_free line m s.send (get_or w.seeds e None) (w.waiting.each e m s.send (get_or w.seeds e None) inside s.there.1 got) waits in
        w.labels_are.first (s.later.first + s.later.args) e s.seed (got ∙ ap Some (free ∙ s.seed_is)) s.leads (fits lines places sent g hs s.later_there.0 n s.later s.later_there.1)

    -- an entry of a lower number is of an earlier line
    no_later : (k e : ℕ) (m l : Msg) (s t : Mention) → k ≤ e → slice_get sent k ≡ Some (m, s) → slice_get sent e ≡ Some (l, t) → s.line ≤ t.line
    no_later k e m l s t le hk he = ⊎_elim
        (λ (same : (_ : _) × (k ≡ e)).
        let two : Some (m, s) ≡ Some (l, t) = sym hk ∙ ap (slice_get sent) same.1 ∙ he in
        let pair : (m, s) ≡ (l, t) = cc in
        let is = ap (λ (p : Msg × Mention). p.1.line) pair in
        omega (arith, is))
        (λ (other : (_ : _) × (k ≡ e → ⊥)). omega (arith, hs.ascending k e m l s t (omega (arith, le, other.1)) hk he))
        (eqb_tells k e)

    -- what the label of the place of a message that is taken too early says
    record Found (n : Msg) : Type 0 where
      pub later : Mention
      pub later_there : IsThere n later sent
      pub number : ℕ
      pub label : HasLabel labels (later.first + later.args) number

    answered : (ranks : List (Option ℕ)) (r : HasRanks places sent taken ranks) (e : Event) (n : Msg) (f : Found n) → slice_get lines line ≡ Some e → TakesAt ranks sent taken e line n → NoneEarly ranks sent taken lines line
        → (m : Msg) × ((s : Mention) × (slice_get sent f.number ≡ Some (m, s)) × IsFirstOvertaken lines m n)
    answered ranks r e n f at h none =
        let u = f.later in
        let k = f.number in
        let led = w.labels_are.leads (u.first + u.args) k f.label in
        let inside = slice_get_within w.seeds k (Some led.0) led.1 in
        let p = get_or sent k (n, u) in
        let there = slice_get-get_or sent k (n, u) (omega (arith, inside, w.waiting.size)) in
        let some = waiting_some line p.0 p.1 led.0 (w.waiting.each k p.0 p.1 (Some led.0) (omega (arith, inside, w.waiting.size)) there led.1) in (
          p.0,
          (
            p.1,
            there,
            record {
              line = line;
              sent = p.1.line;
              overtaken = record {
                took = h.take;
                taken = (e, at, h.takes);
                message = h.message;
                by_object = h.by_object;
                before = leads_is_before lines places g sent taken hs ht p.0 n p.1 u (k, there) f.later_there led.0 some.0 led.2;
                waits = some.1;
              };
              first_line = λ t i b a less o.
                  let early = overtaken_early lines places g sent taken hs ht r.seeds ranks r.ranked r.labels_are t b a i o in
                  none t early.0 b less early.1 early.2;
              sent_first = λ i b a less o.
                  let same = one_deed taking lines line o.took h.take o.taken (e, at, h.takes) in
                  let is : b ≡ n = sym o.message ∙ ap (λ (x : Taking). x.message) same ∙ h.message in
                  let s = before_is_lead lines places g sent taken hs ht a i n (subst (Before lines a i) is o.before) in
                  let lab = labelled a i n s o.waits in
                  let one = single_sent lines places g sent taken hs ht n s.later u s.later_there f.later_there in
                  let two : Some (Some lab.0) ≡ Some (Some k) = sym lab.2 ∙ ap (λ (x : Mention). slice_get labels (x.first + x.args)) one ∙ f.label in
                  let number : lab.0 ≡ k = cc in
                  let order = no_later k s.there.0 p.0 a p.1 s.send (omega (arith, lab.1, number)) there s.there.1 in
                  omega (arith, order, less, s.line);
            },
          ),
        )

    -- the place of a message that is taken too early has a label
    found : (ranks : List (Option ℕ)) (r : HasRanks places sent taken ranks) (e : Event) (n : Msg) → slice_get lines line ≡ Some e → TakesAt ranks sent taken e line n → Found n
    found ranks r e n at h =
        let o = overtaken_from lines places g sent taken hs ht r.seeds ranks r.ranked r.labels_are e line n at h in
        let s = before_is_lead lines places g sent taken hs ht o.0 o.1.0 n o.1.1.before in
        let lab = labelled o.0 o.1.0 n s o.1.1.waits in
        record { later = s.later; later_there = s.later_there; number = lab.0; label = lab.2 }

  pub overtaken_found : (line : ℕ) (n : Msg) (o : Option Msg) (ranks : List (Option ℕ)) → HasRanks places sent taken ranks → (e : Event) → slice_get lines line ≡ Some e → TakesAt ranks sent taken e line n → NoneEarly ranks sent taken lines line
      → IsFound places sent taken line n o → (m : Msg) × (o ≡ Some m) × IsFirstOvertaken lines m n
  overtaken_found line n o ranks r e at h none found_is =
      let f = found line found_is.labels found_is.waiting ranks r e n at h in
      let a = answered line found_is.labels found_is.waiting ranks r e n f at h none in (
        a.0,
        ⊎_elim
            (λ (is : (s : Mention) × IsThere n s sent × (o ≡ first_label sent (slice_get found_is.labels (s.first + s.args)))).
            let one = single_sent lines places g sent taken hs ht n is.0 f.later is.1 f.later_there in
            is.2 ∙ ap (λ (x : Mention). first_label sent (slice_get found_is.labels (x.first + x.args))) one ∙ ap (first_label sent) f.label
            ∙ ap (option_map (λ (p : Msg × Mention). p.0)) a.1.1)
            (λ (none_sent : IsAbsent n sent × (o ≡ None)). absurd (none_sent.0 f.later f.later_there))
            found_is.first,
        a.1.2,
      )

  -- ---- the answers

  pub ordered_none : (o : Option (ℕ × Msg)) → IsEarliest places sent taken lines o → o ≡ None → IsOrdered lines
  ordered_none o i e = all_ordered i.labels i.ranks (subst (λ (x : Option (ℕ × Msg)). IsFirstEarly i.labels sent taken lines x) e i.early)

  first_found : (o : Option (ℕ × Msg)) (line : ℕ) (later : Msg) (f : Option Msg) → IsEarliest places sent taken lines o → o ≡ Some (line, later) → IsFound places sent taken line later f → (m : Msg) × (f ≡ Some m) × IsFirstOvertaken lines m later
  first_found o line later f i e found_is =
      let early = subst (λ (x : Option (ℕ × Msg)). IsFirstEarly i.labels sent taken lines x) e i.early in
      overtaken_found line later f i.labels i.ranks early.0.0 early.0.1 early.0.2 early.1 found_is

  pub overtaken_some : (o : Option (ℕ × Msg)) (line : ℕ) (later : Msg) (f : Option Msg) (m : Msg) → IsEarliest places sent taken lines o → o ≡ Some (line, later) → IsFound places sent taken line later f → f ≡ Some m → IsFirstOvertaken lines m later
  overtaken_some o line later f m i e found_is is =
      let first = first_found o line later f i e found_is in
      let two : Some first.0 ≡ Some m = sym first.1 ∙ is in
      let same : first.0 ≡ m = cc in
      subst (λ (x : Msg). IsFirstOvertaken lines x later) same first.2

  pub overtaken_none : (o : Option (ℕ × Msg)) (line : ℕ) (later : Msg) (f : Option Msg) → IsEarliest places sent taken lines o → o ≡ Some (line, later) → IsFound places sent taken line later f → f ≡ None → IsOrdered lines
  overtaken_none o line later f i e found_is is =
      let first = first_found o line later f i e found_is in
      let two : Some first.0 ≡ None = sym first.1 ∙ is in
      cc
