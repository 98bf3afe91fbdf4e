-- The places that were walked, once arguments lead over, are the graph of the trace.
use Rattle.std.specs.Prelude.{◌≡◌, ◌+◌, ◌<◌, ◌≤◌, ℕ, List, length, take, Option, Some, None, slice_get}
use Rattle.std.proofs.Common.{arith, sym, ◌∙◌, ap, subst, ⊎_elim}
use Rattle.std.proofs.Math.ListN.{get_or}
use Rattle.std.proofs.lemmas.Option.{slice_get_within, slice_get-get_or}
use Rattle.std.proofs.lemmas.Bool.{cases_lt}
use Rattle.ev_base.specs.declared.names.Msg.{Msg}
use Rattle.def_event.specs.declared.event.Event.{Event}
use Rattle.def_event.specs.declared.reference.Reference.{Reference}
use Rattle.def_event.specs.Order.{Sending, Carrying, sending, carrying, DoesAt, IsFirst}
use Rattle.ev_order.specs.declared.mentions.Mention.{Mention}
use Rattle.ev_order.specs.declared.spread.Place.{Place}
use Rattle.ev_order.specs.Mentions.{MentionList, IsThere}
use Rattle.ev_order.specs.Chains.{HasNext, IsLinked}
use Rattle.ev_order.specs.Over.{HasOver, Joins, IsJoined, FitIn, AreSingle}
use Rattle.ev_order.specs.Walk.{Walked, all_references, HoldsFirst, HoldsSent, HoldsCarried, IsWalked, sent_mention, carried_mention}
use Rattle.ev_order.specs.Graph.{start, IsPassed, IsGraph}
use Rattle.ev_order.proofs.Starts.{grows_with, sent_room, carried_room, start_within}

no_place : Place
no_place = record { next = None; over = None }

-- ---- first lines

-- what a line does is one thing
pub one_deed : {A : Type 0} (does : Event → Option A) (lines : List Event) (i : ℕ) (a b : A) → DoesAt does lines i a → DoesAt does lines i b → a ≡ b
one_deed does lines i a b h l =
    let one : Some h.0 ≡ Some l.0 = sym h.1 ∙ l.1 in
    let is : h.0 ≡ l.0 = cc in
    let two : Some a ≡ Some b = sym h.2 ∙ ap does is ∙ l.2 in
    cc

-- two first lines of one message are one
pub one_line : {A : Type 0} (does : Event → Option A) (message : A → Msg) (lines : List Event) (i j : ℕ) (a b : A) → IsFirst does message lines i a → IsFirst does message lines j b → message a ≡ message b → i ≡ j
one_line does message lines i j a b h l same = ⊎_elim
    (λ (less : i < j). absurd (l.first i a less h.there same))
    (λ (more : j ≤ i). ⊎_elim
    (λ (less : j < i). absurd (h.first j b less l.there (sym same)))
    (λ (le : i ≤ j). omega (arith, more, le))
    (cases_lt j i))
    (cases_lt i j)

pub one_first : {A : Type 0} (does : Event → Option A) (message : A → Msg) (lines : List Event) (i j : ℕ) (a b : A) → IsFirst does message lines i a → IsFirst does message lines j b → message a ≡ message b → a ≡ b
one_first does message lines i j a b h l same =
    let e = one_line does message lines i j a b h l same in
    one_deed does lines j a b (subst (λ (k : ℕ). DoesAt does lines k a) e h.there) l.there

-- ---- mentions

-- a message is mentioned once
pub single : {A : Type 0} (does : Event → Option A) (message : A → Msg) (mention : List Event → A → Mention) (lines : List Event) (list : MentionList) → HoldsFirst does message mention lines list → AreSingle list
single does message mention lines list h m s t hs ht =
    let a = h.noted hs.0 m s hs.1 in
    let b = h.noted ht.0 m t ht.1 in
    let line = one_line does message lines s.line t.line a.what b.what a.first b.first (a.message_is ∙ sym b.message_is) in
    let what = one_first does message lines s.line t.line a.what b.what a.first b.first (a.message_is ∙ sym b.message_is) in
    a.mention_is ∙ ap (λ (k : ℕ). mention (take k lines) a.what) line ∙ ap (mention (take t.line lines)) what ∙ sym b.mention_is

-- the mention of a message that a line sends first, or carries first
pub mention_of : {A : Type 0} (does : Event → Option A) (message : A → Msg) (mention : List Event → A → Mention) (lines : List Event) (list : MentionList) → HoldsFirst does message mention lines list
    → (i : ℕ) (a : A) → IsFirst does message lines i a → IsThere (message a) (mention (take i lines) a) list
mention_of does message mention lines list h i a first =
    let there = h.all i a first.there in
    let noted = h.noted there.1.0 (message a) there.0 there.1.1 in
    let line = one_line does message lines there.0.line i noted.what a noted.first first noted.message_is in
    let what = one_first does message lines there.0.line i noted.what a noted.first first noted.message_is in
    let is : there.0 ≡ mention (take i lines) a = noted.mention_is ∙ ap (λ (k : ℕ). mention (take k lines) noted.what) line ∙ ap (mention (take i lines)) what in
    (there.1.0, there.1.1 ∙ ap (λ (x : Mention). Some (message a, x)) is)

pub sent_fit : (lines : List Event) (list : MentionList) → HoldsSent lines list → (n : ℕ) (m : Msg) (s : Mention) → slice_get list n ≡ Some (m, s) → s.first + s.args < length (all_references None lines)
sent_fit lines list h n m s at =
    let noted = h.noted n m s at in
    let first = ap (λ (x : Mention). x.first) noted.mention_is in
    let args = ap (λ (x : Mention). x.args) noted.mention_is in
    omega (arith, first, args, sent_room lines s.line noted.what noted.first.there, start_within lines (s.line + 1))

carried_fit : (lines : List Event) (list : MentionList) → HoldsCarried lines list → FitIn (all_references None lines) list
carried_fit lines list h n m s at =
    let noted = h.noted n m s at in
    let first = ap (λ (x : Mention). x.first) noted.mention_is in
    let args = ap (λ (x : Mention). x.args) noted.mention_is in
    omega (arith, first, args, carried_room lines s.line noted.what noted.first.there, start_within lines (s.line + 1))

-- ---- the graph

-- Two passings from one place lead to one place.
passed_once : (lines : List Event) (rs : List (Option Reference)) (i j k : ℕ) → IsPassed lines rs i j → IsPassed lines rs i k → j ≡ k
passed_once lines rs i j k h l =
    let line : h.sent ≡ l.sent = ⊎_elim
    (λ (less : h.sent < l.sent). absurd (omega (arith, grows_with lines (h.sent + 1) l.sent (omega (arith, less)), sent_room lines h.sent h.send h.is_sent.there, h.first, l.first, h.in_send)))
    (λ (more : l.sent ≤ h.sent). ⊎_elim
    (λ (less : l.sent < h.sent). absurd (omega (arith, grows_with lines (l.sent + 1) h.sent (omega (arith, less)), sent_room lines l.sent l.send l.is_sent.there, h.first, l.first, l.in_send)))
    (λ (le : h.sent ≤ l.sent). omega (arith, more, le))
    (cases_lt l.sent h.sent))
    (cases_lt h.sent l.sent) in
    let begins = ap (start lines) line in
    let send = one_deed sending lines l.sent h.send l.send (subst (λ (x : ℕ). DoesAt sending lines x h.send) line h.is_sent.there) l.is_sent.there in
    let same : h.carry.message ≡ l.carry.message = h.same ∙ ap (λ (x : Sending). x.message) send ∙ sym l.same in
    let carried = one_line carrying (λ (x : Carrying). x.message) lines h.carried l.carried h.carry l.carry h.is_carried l.is_carried same in
    let ends = ap (start lines) carried in
    omega (arith, h.first, l.first, h.second, l.second, begins, ends)

module _ (lines : List Event) (w : Walked) (h : IsWalked lines w) (now : List Place) (j : Joins (IsJoined w.chain.references w.sent w.carried) w.chain.places now) where
  old_next : (a b : ℕ) → HasNext now a b → HasNext w.chain.places a b
  old_next a b at = let q = j.next a at.0 at.1 in (q.0, q.1, sym q.2 ∙ at.2)

  new_next : (a b : ℕ) → HasNext w.chain.places a b → HasNext now a b
  new_next a b at =
      let there = slice_get-get_or now a no_place (omega (arith, slice_get_within w.chain.places a at.0 at.1, j.same_length)) in
      let q = j.next a (get_or now a no_place) there in
      let one : Some q.0 ≡ Some at.0 = sym q.1 ∙ at.1 in
      let is : q.0 ≡ at.0 = cc in
      (get_or now a no_place, there, q.2 ∙ ap (λ (p : Place). p.next) is ∙ at.2)

  linked : IsLinked w.chain.references now
  linked = record {
    same_length = j.same_length ∙ h.chain.linked.same_length;
    next = λ a b at. h.chain.linked.next a b (old_next a b at);
    nearest = λ a k r less ha hk. let near = h.chain.linked.nearest a k r less ha hk in (near.0, near.1, new_next a near.0 near.2);
  }

  joined_passed : (a b : ℕ) → IsJoined w.chain.references w.sent w.carried a b → IsPassed lines w.chain.references a b
  joined_passed a b o =
      let s = h.sent.noted o.number o.message o.send o.at in
      let c = h.carried.noted o.comes.0 o.message o.carry o.comes.1 in
      let s_first = ap (λ (x : Mention). x.first) s.mention_is in
      let s_args = ap (λ (x : Mention). x.args) s.mention_is in
      let c_first = ap (λ (x : Mention). x.first) c.mention_is in
      let c_args = ap (λ (x : Mention). x.args) c.mention_is in
      record {
        sent = o.send.line;
        carried = o.carry.line;
        send = s.what;
        carry = c.what;
        is_sent = s.first;
        is_carried = c.first;
        same = c.message_is ∙ sym s.message_is;
        leaves = sym (ap (λ (x : Mention). x.vat) s.mention_is) ∙ o.join.same_vat ∙ ap (λ (x : Mention). x.vat) c.mention_is;
        argument = o.join.argument;
        in_send = omega (arith, o.join.is_sent, s_args);
        in_carry = omega (arith, o.join.is_carried, c_args);
        first = omega (arith, o.join.first, s_first);
        second = omega (arith, o.join.second, c_first);
        here = o.join.here;
        there = o.join.there;
      }

  passed_joined : (a b : ℕ) → IsPassed lines w.chain.references a b → IsJoined w.chain.references w.sent w.carried a b
  passed_joined a b o =
      let s = mention_of sending (λ (x : Sending). x.message) sent_mention lines w.sent h.sent o.sent o.send o.is_sent in
      let c = mention_of carrying (λ (x : Carrying). x.message) carried_mention lines w.carried h.carried o.carried o.carry o.is_carried in
      record {
        number = s.0;
        message = o.send.message;
        send = sent_mention (take o.sent lines) o.send;
        carry = carried_mention (take o.carried lines) o.carry;
        at = s.1;
        comes = subst (λ (m : Msg). IsThere m (carried_mention (take o.carried lines) o.carry) w.carried) o.same c;
        join = record { same_vat = o.leaves; argument = o.argument; is_sent = o.in_send; is_carried = o.in_carry; first = o.first; second = o.second; here = o.here; there = o.there };
      }

  over_passed : (a b : ℕ) → HasOver now a b → IsPassed lines w.chain.references a b
  over_passed a b at = ⊎_elim
      (λ (old : HasOver w.chain.places a b). let two : Some b ≡ None = sym old.2 ∙ h.chain.no_over a old.0 old.1 in cc)
      (λ (o : IsJoined w.chain.references w.sent w.carried a b). joined_passed a b o)
      (j.said a b at)

  graph_is : IsGraph lines now
  graph_is = subst (λ (rs : List (Option Reference)). (IsLinked rs now) × (((a b : ℕ) → HasOver now a b → IsPassed lines rs a b) × ((a b : ℕ) → IsPassed lines rs a b → HasOver now a b)) → IsGraph lines now) (sym h.references)
      (λ parts. record { linked = parts.0; over = parts.1.0; all_over = parts.1.1 }) (
        linked,
        (
          over_passed,
          λ a b o.
              let k = j.done a b (passed_joined a b o) in
              subst (λ (x : ℕ). HasOver now a x) (passed_once lines w.chain.references a k.0 b (over_passed a k.0 k.1) o) k.1,
        ),
      )

-- ---- what the joining asks

pub asks_fit : (lines : List Event) (w : Walked) → IsWalked lines w → FitIn w.chain.references w.sent
asks_fit lines w h = subst (λ (rs : List (Option Reference)). FitIn rs w.sent) (sym h.references) (λ n m s at. omega (arith, sent_fit lines w.sent h.sent n m s at))

pub asks_carried : (lines : List Event) (w : Walked) → IsWalked lines w → FitIn w.chain.references w.carried
asks_carried lines w h = subst (λ (rs : List (Option Reference)). FitIn rs w.carried) (sym h.references) (carried_fit lines w.carried h.carried)

pub asks_single : (lines : List Event) (w : Walked) → IsWalked lines w → AreSingle w.carried
asks_single lines w h = single carrying (λ (x : Carrying). x.message) carried_mention lines w.carried h.carried

pub makes_graph : (lines : List Event) (w : Walked) (h : IsWalked lines w) (now : List Place) → Joins (IsJoined w.chain.references w.sent w.carried) w.chain.places now → IsGraph lines now
makes_graph lines w h now j = graph_is lines w h now j
