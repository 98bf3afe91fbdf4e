-- A line takes too early by its label exactly where it does so by the trace.
use Rattle.std.specs.Prelude.{◌≡◌, ◌+◌, ◌-◌, ◌<◌, ◌≤◌, ℕ, Bool, true, false, not, nat_lt, List, length, take, Option, Some, None, slice_get}
use Rattle.std.proofs.Common.{refl, arith, sym, ◌∙◌, ap, subst, ⊎_elim}
use Rattle.std.proofs.Math.ListN.{get_or}
use Rattle.std.proofs.lemmas.List.{length-take-le}
use Rattle.std.proofs.lemmas.Option.{slice_get_within, slice_get-get_or}
use Rattle.std.proofs.lemmas.Bool.{cases_lt, lt-ltb, le-ltb, ltb-false}
use Rattle.std.proofs.lemmas.Bool.Decides.{eqb_tells}
use Rattle.ev_base.specs.declared.names.Msg.{Msg}
use Rattle.def_event.specs.declared.event.Event.{Event}
use Rattle.def_event.specs.declared.reference.Reference.{Reference}
use Rattle.def_event.specs.Order.{Sending, sending, vat_at, IsTakenBefore, IsSentOn, Before, IsOvertaken}
use Rattle.ev_order.specs.declared.mentions.Mention.{Mention}
use Rattle.ev_order.specs.declared.spread.Place.{Place}
use Rattle.ev_order.specs.Mentions.{MentionList, IsThere, IsAbsent}
use Rattle.ev_order.specs.Chains.{HasReference, HasNext, reference}
use Rattle.ev_order.specs.Spread.{Leads, Here, On, IsSeed, HasFirstLabels}
use Rattle.ev_order.specs.Walk.{all_references, HoldsSent, HoldsTaken, sent_mention}
use Rattle.ev_order.specs.Graph.{start, IsGraph}
use Rattle.ev_order.specs.Judge.{next_of, seed_of, IsRanked, late, late_label, IsEarly, TakesAt}
use Rattle.ev_order.proofs.Starts.{target_at}
use Rattle.ev_order.proofs.Befores.{before_leads, leads_before, reference_is, there_is}
use Rattle.ev_order.proofs.Graphs.{mention_of, single, sent_fit}

-- ---- seeds

seed_next : (places : List Place) (x a : ℕ) → next_of (slice_get places x) ≡ Some a → HasNext places x a
seed_next places x a h = cases (slice_get places x) refl h
  where
    cases : (o : Option Place) → slice_get places x ≡ o → next_of o ≡ Some a → HasNext places x a
    cases None e is = cc
    cases (Some p) e is = (p, e, is)

next_seed : (places : List Place) (x a : ℕ) → HasNext places x a → next_of (slice_get places x) ≡ Some a
next_seed places x a h = ap next_of h.1 ∙ h.2

-- a label that is late
late_inv : (sent taken : MentionList) (line : ℕ) (o : Option (Option ℕ)) → late_label sent taken line o ≡ true → (k : ℕ) × (o ≡ Some (Some k)) × (late (length sent) k line (slice_get taken (length taken - 1 - (k - length sent))) ≡ true)
late_inv sent taken line None h = cc
late_inv sent taken line (Some None) h = cc
late_inv sent taken line (Some (Some k)) h = (k, refl, h)

late_first : (s k line : ℕ) (o : Option (Msg × Mention)) → k < s → late s k line o ≡ true
late_first s k line o less = rw (lt-ltb k s less) refl

late_second : (s k line : ℕ) (p : Msg × Mention) → s ≤ k → line ≤ p.1.line → late s k line (Some p) ≡ true
late_second s k line p more le = rw (le-ltb k s more) (rw (le-ltb p.1.line line le) refl)

late_means : (s k line : ℕ) (p : Msg × Mention) → s ≤ k → late s k line (Some p) ≡ true → line ≤ p.1.line
late_means s k line p more h = cases (nat_lt p.1.line line) refl (rw (le-ltb k s more) at h)
  where
    cases : (b : Bool) → nat_lt p.1.line line ≡ b → not b ≡ true → line ≤ p.1.line
    cases true e is = cc
    cases false e is = ltb-false p.1.line line e

module _ (lines : List Event) (places : List Place) (g : IsGraph lines places) (sent taken : MentionList) (hs : HoldsSent lines sent) (ht : HoldsTaken lines taken) where
  -- the place on which a mentioned message was sent
  place_of : (m : Msg) (s : Mention) (h : IsThere m s sent) → s.first + s.args ≡ start lines s.line + length (hs.noted h.0 m s h.1).what.args
  place_of m s h =
      let no = hs.noted h.0 m s h.1 in
      let first = ap (λ (x : Mention). x.first) no.mention_is in
      let args = ap (λ (x : Mention). x.args) no.mention_is in
      omega (arith, first, args)

  sent_on : (m : Msg) (s : Mention) (h : IsThere m s sent) (r : Reference) → HasReference (all_references None lines) (s.first + s.args) r → (l : IsSentOn lines m s.line r) × (s.first + s.args ≡ start lines s.line + length l.send.args)
  sent_on m s h r at =
      let no = hs.noted h.0 m s h.1 in
      let e = place_of m s h in
      let two : Some (Some r) ≡ Some (reference (vat_at lines s.line) no.what.target) = sym at ∙ ap (slice_get (all_references None lines)) e ∙ target_at lines s.line no.what no.first.there in
      let one : Some r ≡ reference (vat_at lines s.line) no.what.target = cc in
      let is = reference_is (vat_at lines s.line) no.what.target r (sym one) in
      (record { send = no.what; is_sent = no.first; message = no.message_is; vat = is.1; target = is.0 }, e)

  -- where a place leads a reference stands
  end_there : (x a k : ℕ) → HasNext places x a → Leads places a k → (q : Reference) × HasReference (all_references None lines) k q
  end_there x a k on (Here b e) = let next = g.linked.next x a on in (next.1.0, ap (slice_get (all_references None lines)) e ∙ next.1.2)
  end_there x a k on (On b c led step) = ⊎_elim
      (λ (e : step.0.next ≡ Some c). let next = g.linked.next b c (step.0, step.1, e) in (next.1.0, next.1.2))
      (λ (e : step.0.over ≡ Some c). there_is (all_references None lines) c (g.over b c (step.0, step.1, e)).there)
      step.2

  pub leads_is_before : (m n : Msg) (s u : Mention) → IsThere m s sent → IsThere n u sent → (a : ℕ) → Some a ≡ seed_of places s → Leads places a (u.first + u.args) → Before lines m s.line n
  leads_is_before m n s u hm hn a seed led =
      let on = seed_next places (s.first + s.args) a (sym seed) in
      let next = g.linked.next (s.first + s.args) a on in
      let from = sent_on m s hm next.1.0 next.1.1 in
      let end = end_there (s.first + s.args) a (u.first + u.args) on led in
      let to = sent_on n u hn end.0 end.1 in
      leads_before lines places g m n s.line u.line next.1.0 end.0 from.0 to.0 a
      (subst (λ (x : ℕ). HasNext places x a) from.1 on) (subst (Leads places a) to.1 led)

  pub single_sent : (m : Msg) (s t : Mention) → IsThere m s sent → IsThere m t sent → s ≡ t
  single_sent = single sending (λ (x : Sending). x.message) sent_mention lines sent hs

  -- a message that was sent first is mentioned
  sent_there : (m : Msg) (i : ℕ) (r : Reference) (l : IsSentOn lines m i r) → IsThere m (sent_mention (take i lines) l.send) sent
  sent_there m i r l = subst (λ (x : Msg). IsThere x (sent_mention (take i lines) l.send) sent) l.message (mention_of sending (λ (x : Sending). x.message) sent_mention lines sent hs i l.send l.is_sent)

  pub record Sees (m : Msg) (i : ℕ) (n : Msg) : Type 0 where
    pub send : Mention
    pub there : IsThere m send sent
    pub line : send.line ≡ i
    pub seed : ℕ
    pub seed_is : seed_of places send ≡ Some seed
    pub later : Mention
    pub later_there : IsThere n later sent
    pub leads : Leads places seed (later.first + later.args)

  pub before_is_lead : (m : Msg) (i : ℕ) (n : Msg) → Before lines m i n → Sees m i n
  before_is_lead m i n b =
      let led = before_leads lines places g m n i b.later b.from b.to b.last b.sent b.sent_later b.behind b.follows in
      record {
        send = sent_mention (take i lines) b.sent.send;
        there = sent_there m i b.from b.sent;
        line = length-take-le i lines (omega (arith, slice_get_within lines i b.sent.is_sent.there.0 b.sent.is_sent.there.1));
        seed = led.0;
        seed_is = next_seed places (start lines i + length b.sent.send.args) led.0 led.1;
        later = sent_mention (take b.later lines) b.sent_later.send;
        later_there = sent_there n b.later b.to b.sent_later;
        leads = led.2;
      }

  -- a message that is mentioned as taken is taken there, and not before
  pub not_before : (line : ℕ) (m : Msg) (t : Mention) → IsThere m t taken → line ≤ t.line → IsTakenBefore lines line m → ⊥
  not_before line m t there le b =
      let no = ht.noted there.0 m t there.1 in
      no.first.first b.0 b.1 (omega (arith, b.2, le)) b.3 (b.4 ∙ sym no.message_is)

  pub taken_there : (line : ℕ) (m : Msg) (t : Mention) → IsThere m t taken → t.line < line → IsTakenBefore lines line m
  taken_there line m t there less =
      let no = ht.noted there.0 m t there.1 in
      (t.line, no.what, less, no.first.there, no.message_is)

  pub absent_not : (line : ℕ) (m : Msg) → IsAbsent m taken → IsTakenBefore lines line m → ⊥
  absent_not line m absent b = let there = ht.all b.0 b.1 b.3 in absent there.0 (subst (λ (x : Msg). IsThere x there.0 taken) b.4 there.1)

  module _ (seeds labels : List (Option ℕ)) (hr : IsRanked places sent taken seeds (length sent) (length taken)) (hl : HasFirstLabels places seeds labels) where
    -- ---- by the label, and so by the trace

    pub overtaken_from : (e : Event) (line : ℕ) (n : Msg) → slice_get lines line ≡ Some e → TakesAt labels sent taken e line n → (m : Msg) × ((i : ℕ) × IsOvertaken lines line n m i)
    overtaken_from e line n at h =
        let u = h.early.0 in
        let late_is = late_inv sent taken line (slice_get labels (u.first + u.args)) h.early.2 in
        let k = late_is.0 in
        let led = hl.leads (u.first + u.args) k late_is.1 in
        ⊎_elim
        (λ (less : k < length sent).
        let p = get_or sent k (n, u) in
        let there = slice_get-get_or sent k (n, u) less in
        ⊎_elim
        (λ (free : IsAbsent p.0 taken × (Some led.0 ≡ seed_of places p.1)). (
          p.0,
          (
            p.1.line,
            record {
              took = h.take;
              taken = (e, at, h.takes);
              message = h.message;
              by_object = h.by_object;
              before = leads_is_before p.0 n p.1 u (k, there) h.early.1 led.0 free.1 led.2;
              waits = absent_not line p.0 free.0;
            },
          ),
        ))
        (λ (no : ((t : Mention) × IsThere p.0 t taken) × (Some led.0 ≡ None)). let no_way = no.1 in cc)
        (hr.first k p.0 p.1 (Some led.0) less there led.1))
        (λ (more : length sent ≤ k).
        let inside = slice_get_within seeds k (Some led.0) led.1 in
        let b = k - length sent in
        let small : b < length taken = omega (arith, inside, hr.size, more) in
        let spot : length taken - 1 - b < length taken = omega (arith, small) in
        let p = get_or taken (length taken - 1 - b) (n, u) in
        let there = slice_get-get_or taken (length taken - 1 - b) (n, u) spot in
        let same : k ≡ length sent + b = omega (arith, more) in
        let late_p = late_means (length sent) k line p more (subst (λ (o : Option (Msg × Mention)). late (length sent) k line o ≡ true) there late_is.2) in
        ⊎_elim
        (λ (is : (s : Mention) × IsThere p.0 s sent × (Some led.0 ≡ seed_of places s)). (
          p.0,
          (
            is.0.line,
            record {
              took = h.take;
              taken = (e, at, h.takes);
              message = h.message;
              by_object = h.by_object;
              before = leads_is_before p.0 n is.0 u is.1 h.early.1 led.0 is.2 led.2;
              waits = not_before line p.0 p.1 (length taken - 1 - b, there) late_p;
            },
          ),
        ))
        (λ (no : IsAbsent p.0 sent × (Some led.0 ≡ None)). let no_way = no.1 in cc)
        (hr.second b p.0 p.1 (Some led.0) small there (sym (ap (slice_get seeds) same) ∙ led.1)))
        (cases_lt k (length sent))

    -- ---- by the trace, and so by the label

    pub within : (u : Mention) (n : Msg) → IsThere n u sent → u.first + u.args < length places
    within u n there = omega (arith, sent_fit lines sent hs there.0 n u there.1, g.linked.same_length)

    label_late : (u : Mention) (n : Msg) → IsThere n u sent → (line k a : ℕ) → IsSeed seeds k a → Leads places a (u.first + u.args)
        → ((j : ℕ) → j ≤ k → length sent ≤ j → late (length sent) j line (slice_get taken (length taken - 1 - (j - length sent))) ≡ true) → late_label sent taken line (slice_get labels (u.first + u.args)) ≡ true
    label_late u n there line k a seed led later =
        let first = hl.first (u.first + u.args) k a seed led (within u n there) in
        ap (late_label sent taken line) first.2 ∙ ⊎_elim
        (λ (less : first.0 < length sent). late_first (length sent) first.0 line (slice_get taken (length taken - 1 - (first.0 - length sent))) less)
        (λ (more : length sent ≤ first.0). later first.0 first.1 more)
        (cases_lt first.0 (length sent))

    -- the takes of the ranks up to that of a message come no earlier than its own
    ranks_late : (line f : ℕ) (m : Msg) (t : Mention) → slice_get taken f ≡ Some (m, t) → line ≤ t.line → (j : ℕ) → j ≤ length sent + (length taken - 1 - f) → length sent ≤ j → late (length sent) j line (slice_get taken (length taken - 1 - (j - length sent))) ≡ true
    ranks_late line f m t at le j small more =
        let inside = slice_get_within taken f (m, t) at in
        let spot : length taken - 1 - (j - length sent) < length taken = omega (arith, inside) in
        let p = get_or taken (length taken - 1 - (j - length sent)) (m, t) in
        let there = slice_get-get_or taken (length taken - 1 - (j - length sent)) (m, t) spot in
        let above : f ≤ length taken - 1 - (j - length sent) = omega (arith, small, more, inside) in
        let line_le : line ≤ p.1.line = ⊎_elim
        (λ (same : (_ : _) × (length taken - 1 - (j - length sent) ≡ f)).
        let two : Some p ≡ Some (m, t) = sym there ∙ ap (slice_get taken) same.1 ∙ at in
        let is : p ≡ (m, t) = cc in
        let e = ap (λ (q : Msg × Mention). q.1.line) is in
        omega (arith, e, le))
        (λ (other : (_ : _) × (length taken - 1 - (j - length sent) ≡ f → ⊥)).
        omega (arith, le, ht.ascending f (length taken - 1 - (j - length sent)) m p.0 t p.1 (omega (arith, above, other.1)) at there))
        (eqb_tells (length taken - 1 - (j - length sent)) f) in
        ap (late (length sent) j line) there ∙ late_second (length sent) j line p more line_le

    seen_early : (line : ℕ) (m : Msg) (i : ℕ) (n : Msg) → Sees m i n → (IsTakenBefore lines line m → ⊥) → IsEarly labels sent taken n line
    seen_early line m i n s waits =
        let k = s.there.0 in
        let inside = slice_get_within sent k (m, s.send) s.there.1 in
        let got = slice_get-get_or seeds k None (omega (arith, inside, hr.size)) in (
          s.later,
          s.later_there,
          ⊎_elim
              (λ (free : IsAbsent m taken × (get_or seeds k None ≡ seed_of places s.send)).
              label_late s.later n s.later_there line k s.seed (got ∙ ap Some (free.1 ∙ s.seed_is)) s.leads (λ j small more. absurd (omega (arith, small, more, inside))))
              (λ (is : ((t : Mention) × IsThere m t taken) × (get_or seeds k None ≡ None)).
              let t = is.0.0 in
              let f = is.0.1.0 in
              let at = is.0.1.1 in
              let within_f = slice_get_within taken f (m, t) at in
              let le : line ≤ t.line = ⊎_elim (λ (less : t.line < line). absurd (waits (taken_there line m t (f, at) less))) (λ (le : line ≤ t.line). le) (cases_lt t.line line) in
              let b = length taken - 1 - f in
              let back : length taken - 1 - b ≡ f = omega (arith, within_f) in
              let found = slice_get-get_or seeds (length sent + b) None (omega (arith, within_f, hr.size)) in
              ⊎_elim
              (λ (was_sent : (x : Mention) × IsThere m x sent × (get_or seeds (length sent + b) None ≡ seed_of places x)).
              let same = single_sent m was_sent.0 s.send was_sent.1 s.there in
              label_late s.later n s.later_there line (length sent + b) s.seed (found ∙ ap Some (was_sent.2 ∙ ap (seed_of places) same ∙ s.seed_is)) s.leads (ranks_late line f m t at le))
              (λ (none : IsAbsent m sent × (get_or seeds (length sent + b) None ≡ None)). absurd (none.0 s.send s.there))
              (hr.second b m t (get_or seeds (length sent + b) None) (omega (arith, within_f)) (ap (slice_get taken) back ∙ at) found))
              (hr.first k m s.send (get_or seeds k None) inside s.there.1 got),
        )

    pub overtaken_early : (line : ℕ) (n m : Msg) (i : ℕ) → IsOvertaken lines line n m i → (e : Event) × (slice_get lines line ≡ Some e) × TakesAt labels sent taken e line n
    overtaken_early line n m i o =
        (o.taken.0, o.taken.1, record { take = o.took; takes = o.taken.2; by_object = o.by_object; message = o.message; early = seen_early line m i n (before_is_lead m i n o.before) o.waits })
