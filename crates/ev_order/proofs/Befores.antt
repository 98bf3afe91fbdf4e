-- What leads to what in the places of a trace is what comes before what in it.
use Rattle.std.specs.Prelude.{◌≡◌, ◌+◌, ◌-◌, ◌<◌, ◌≤◌, ℕ, true, List, length, Option, Some, None, slice_get}
use Rattle.std.proofs.Common.{refl, arith, sym, ◌∙◌, ap, subst, ⊎_elim, inl, inr, suc, zero}
use Rattle.std.proofs.Math.ListN.{get_or}
use Rattle.std.proofs.lemmas.Option.{slice_get_within, slice_get-get_or}
use Rattle.std.proofs.lemmas.Bool.{cases_lt}
use Rattle.std.proofs.lemmas.Bool.Decides.{eqb_tells}
use Rattle.ev_base.specs.declared.names.Msg.{Msg}
use Rattle.def_event.specs.declared.event.Event.{Event}
use Rattle.def_event.specs.declared.shown.Shown.{Shown, Null, Name as Named}
use Rattle.def_event.specs.declared.reference.Reference.{Reference}
use Rattle.def_event.specs.Order.{Sending, Carrying, sending, carrying, DoesAt, vat_at, Behind, OnItself, Passed, IsSentOn, Before}
use Rattle.ev_order.specs.declared.spread.Place.{Place}
use Rattle.ev_order.specs.Spread.{LeadsOn, Leads, Here, On}
use Rattle.ev_order.specs.Chains.{HasReference, HasNext, reference}
use Rattle.ev_order.specs.Over.{is_reference, IsReference, HasOver}
use Rattle.ev_order.specs.Walk.{all_references}
use Rattle.ev_order.specs.Graph.{start, IsPassed, IsGraph}
use Rattle.ev_order.proofs.Walking.{carries_alone}
use Rattle.ev_order.proofs.Starts.{grows_with, argument_at, target_at, carried_argument_at, sent_room, carried_room}

-- ---- leading

leads_both : (places : List Place) (a b c : ℕ) → Leads places a b → Leads places b c → Leads places a c
leads_both places a b c first (Here d e) = subst (Leads places a) (sym e) first
leads_both places a b c first (On d e led on) = On d e (leads_both places a b d first led) on

next_on : (places : List Place) (i j : ℕ) → HasNext places i j → LeadsOn places i j
next_on places i j h = (h.0, h.1, inl h.2)

over_on : (places : List Place) (i j : ℕ) → HasOver places i j → LeadsOn places i j
over_on places i j h = (h.0, h.1, inr h.2)

one_next : (places : List Place) (i j k : ℕ) → HasNext places i j → HasNext places i k → j ≡ k
one_next places i j k h l =
    let two : Some h.0 ≡ Some l.0 = sym h.1 ∙ l.1 in
    let is : h.0 ≡ l.0 = cc in
    let next : Some j ≡ Some k = sym h.2 ∙ ap (λ (p : Place). p.next) is ∙ l.2 in
    cc

-- ---- references

one_reference : (refs : List (Option Reference)) (i : ℕ) (q r : Reference) → HasReference refs i q → HasReference refs i r → q ≡ r
one_reference refs i q r h l = let two : Some (Some q) ≡ Some (Some r) = sym h ∙ l in cc

some_of : {A : Type 0} {x y : A} → Some x ≡ Some y → x ≡ y
some_of e = cc

pub reference_is : (v : Option ℕ) (x : Shown) (q : Reference) → reference v x ≡ Some q → (x ≡ Named q.name) × (v ≡ q.vat)
reference_is v (Named n) q h =
    let e : record { vat = v; name = n } ≡ q = cc in
    (ap (λ (r : Reference). Named r.name) e, ap (λ (r : Reference). r.vat) e)
reference_is v x q h = cc

pub there_is : (refs : List (Option Reference)) (i : ℕ) → IsReference refs i → (q : Reference) × HasReference refs i q
there_is refs i h = cases (slice_get refs i) refl h
  where
    cases : (o : Option (Option Reference)) → slice_get refs i ≡ o → is_reference o ≡ true → (q : Reference) × HasReference refs i q
    cases None e is = cc
    cases (Some None) e is = cc
    cases (Some (Some q)) e is = (q, e)

is_there : (refs : List (Option Reference)) (i : ℕ) (q : Reference) → HasReference refs i q → IsReference refs i
is_there refs i q h = ap is_reference h

module _ (lines : List Event) (places : List Place) (g : IsGraph lines places) where
  -- a place leads to each later one with its reference
  leads_later : (n i k : ℕ) (r : Reference) → k ≤ i + n → i ≤ k → HasReference (all_references None lines) i r → HasReference (all_references None lines) k r → Leads places i k
  leads_later zero i k r small le hi hk = Here k (omega (arith, small, le))
  leads_later (suc n) i k r small le hi hk = ⊎_elim
      (λ (same : (_ : _) × (k ≡ i)). Here k same.1)
      (λ (other : (_ : _) × (k ≡ i → ⊥)).
      let near = g.linked.nearest i k r (omega (arith, le, other.1)) hi hk in
      let next = g.linked.next i near.0 near.2 in
      let is = one_reference (all_references None lines) i next.1.0 r next.1.1 hi in
      let later = leads_later n near.0 k r (omega (arith, small, next.0)) near.1 (subst (HasReference (all_references None lines) near.0) is next.1.2) hk in
      leads_both places i near.0 k (On i near.0 (Here i refl) (next_on places i near.0 near.2)) later)
      (eqb_tells k i)

  leads_to_later : (i k : ℕ) (r : Reference) → i ≤ k → HasReference (all_references None lines) i r → HasReference (all_references None lines) k r → Leads places i k
  leads_to_later i k r le hi hk = leads_later (k - i) i k r (omega (arith, le)) le hi hk

  -- ---- from the trace to the places

  module _ (r : Reference) (i : ℕ) (s : Sending) (does : DoesAt sending lines i s) (target : HasReference (all_references None lines) (start lines i + length s.args) r) where
    leads_behind : (q : Reference) (t : ℕ) → Behind lines r i q t → (k : ℕ) → HasReference (all_references None lines) k q → start lines (t + 1) ≤ k → (a : ℕ) × HasNext places (start lines i + length s.args) a × Leads places a k
    leads_behind q t (OnItself p j e f) k hk past =
        let on = subst (HasReference (all_references None lines) k) e hk in
        let begins : start lines (t + 1) ≡ start lines i + length s.args + 1 = ap (λ (x : ℕ). start lines (x + 1)) f ∙ sent_room lines i s does in
        let near = g.linked.nearest (start lines i + length s.args) k r (omega (arith, begins, past)) target on in
        let next = g.linked.next (start lines i + length s.args) near.0 near.2 in
        let is = one_reference (all_references None lines) (start lines i + length s.args) next.1.0 r next.1.1 target in
        (near.0, near.2, leads_to_later near.0 k r near.1 (subst (HasReference (all_references None lines) near.0) is next.1.2) on)
    leads_behind q t (Passed p w j sent carried b less passing) k hk past =
        let from = start lines sent + passing.place in
        let to = start lines carried + passing.place in
        let here : HasReference (all_references None lines) from p =
        argument_at lines sent passing.send passing.place (Named p.name) passing.is_sent.there passing.given
        ∙ ap (λ (v : Option ℕ). Some (Some (record { vat = v; name = p.name }))) passing.giver in
        let there : HasReference (all_references None lines) to q =
        carried_argument_at lines carried passing.carry passing.place (Named q.name) passing.is_carried.there passing.received
        ∙ ap (λ (v : Option ℕ). Some (Some (record { vat = v; name = q.name }))) (sym passing.reaches) in
        let in_send = slice_get_within passing.send.args passing.place (Named p.name) passing.given in
        let in_carry = slice_get_within passing.carry.args passing.place (Named q.name) passing.received in
        let first = leads_behind p j b from here (omega (arith, grows_with lines (j + 1) sent (omega (arith, less)))) in
        let over = g.all_over from to (record {
          sent = sent;
          carried = carried;
          send = passing.send;
          carry = passing.carry;
          is_sent = passing.is_sent;
          is_carried = passing.is_carried;
          same = passing.same;
          leaves = passing.giver ∙ passing.leaves;
          argument = passing.place;
          in_send = in_send;
          in_carry = in_carry;
          first = refl;
          second = refl;
          here = is_there (all_references None lines) from p here;
          there = is_there (all_references None lines) to q there;
        }) in
        let room = carried_room lines carried passing.carry passing.is_carried.there in (
          first.0,
          first.1,
          leads_both places first.0 to k (On from to first.2 (over_on places from to over))
              (leads_to_later to k q (omega (arith, room, past, in_carry)) there hk),
        )

  -- ---- from the places to the trace

  -- place k stands not before line t, and each line that sends and has it comes behind line t
  record StandsBehind (t k : ℕ) : Type 0 where
    pub from : start lines t ≤ k
    pub later : (s : ℕ) (x : Sending) → DoesAt sending lines s x → start lines s ≤ k → k ≤ start lines s + length x.args → t < s

  record Comes (r : Reference) (i k : ℕ) : Type 0 where
    pub reference : Reference
    pub there : HasReference (all_references None lines) k reference
    pub line : ℕ
    pub behind : Behind lines r i reference line
    pub stands : StandsBehind line k

  behind_all : (i : ℕ) (s : Sending) (k : ℕ) → DoesAt sending lines i s → start lines i + length s.args < k → StandsBehind i k
  behind_all i s k does past = record {
    from = omega (arith, past);
    later = λ t x other begins ends. ⊎_elim
        (λ (less : i < t). less)
        (λ (more : t ≤ i).
        absurd (omega (arith, grows_with lines (t + 1) (i + 1) (omega (arith, more)), sent_room lines i s does, sent_room lines t x other, past, ends)))
        (cases_lt i t);
  }

  next_stands : (t b c : ℕ) → b < c → StandsBehind t b → StandsBehind t c
  next_stands t b c less h = record {
    from = omega (arith, less, h.from);
    later = λ s x does begins ends. ⊎_elim
        (λ (before : b < start lines s). ⊎_elim
        (λ (is : t < s). is)
        (λ (more : s ≤ t). absurd (omega (arith, grows_with lines s t more, h.from, before)))
        (cases_lt t s))
        (λ (within : start lines s ≤ b). h.later s x does within (omega (arith, less, ends)))
        (cases_lt b (start lines s));
  }

  carried_stands : (t : ℕ) (c : Carrying) (k : ℕ) → DoesAt carrying lines t c → start lines t ≤ k → StandsBehind t k
  carried_stands t c k does from = record {
    from = from;
    later = λ s x other begins ends. ⊎_elim
        (λ (less : t < s). less)
        (λ (more : s ≤ t). ⊎_elim
        (λ (same : (_ : _) × (s ≡ t)).
        let one : Some does.0 ≡ Some other.0 = sym does.1 ∙ ap (slice_get lines) (sym same.1) ∙ other.1 in
        let is : does.0 ≡ other.0 = cc in
        let two : None ≡ Some x = sym (carries_alone does.0 c does.2).0 ∙ ap sending is ∙ other.2 in
        cc)
        (λ (apart : (_ : _) × (s ≡ t → ⊥)).
        absurd (omega (arith, grows_with lines (s + 1) t (omega (arith, more, apart.1)), sent_room lines s x other, from, ends)))
        (eqb_tells s t))
        (cases_lt t s);
  }

  -- what an argument has at its place
  place_is : (v : Option ℕ) (args : List Shown) (argument k : ℕ) (q : Reference) → ((x : Shown) → slice_get args argument ≡ Some x → slice_get (all_references None lines) k ≡ Some (reference v x)) → argument < length args → HasReference (all_references None lines) k q
      → (slice_get args argument ≡ Some (Named q.name)) × (v ≡ q.vat)
  place_is v args argument k q reads inside at =
      let there = slice_get-get_or args argument Null inside in
      let two : Some (Some q) ≡ Some (reference v (get_or args argument Null)) = sym at ∙ reads (get_or args argument Null) there in
      let is = reference_is v (get_or args argument Null) q (sym (some_of two)) in
      (there ∙ ap Some is.0, is.1)

  comes_over : (r : Reference) (i b c : ℕ) → Comes r i b → IsPassed lines (all_references None lines) b c → Comes r i c
  comes_over r i b c h o =
      let new = there_is (all_references None lines) c o.there in
      let from = place_is (vat_at lines o.sent) o.send.args o.argument b h.reference
      (λ x at. ap (slice_get (all_references None lines)) o.first ∙ argument_at lines o.sent o.send o.argument x o.is_sent.there at) o.in_send h.there in
      let to = place_is (Some o.carry.reaches) o.carry.args o.argument c new.0
      (λ x at. ap (slice_get (all_references None lines)) o.second ∙ carried_argument_at lines o.carried o.carry o.argument x o.is_carried.there at) o.in_carry new.1 in
      record {
        reference = new.0;
        there = new.1;
        line = o.carried;
        behind = Passed h.reference new.0 h.line o.sent o.carried h.behind
            (h.stands.later o.sent o.send o.is_sent.there (omega (arith, o.first)) (omega (arith, o.first, o.in_send)))
            (record {
              send = o.send;
              carry = o.carry;
              is_sent = o.is_sent;
              is_carried = o.is_carried;
              same = o.same;
              place = o.argument;
              given = from.0;
              received = to.0;
              giver = from.1;
              leaves = sym from.1 ∙ o.leaves;
              reaches = sym to.1;
            });
        stands = carried_stands o.carried o.carry c o.is_carried.there (omega (arith, o.second));
      }

  comes_next : (r : Reference) (i b c : ℕ) → Comes r i b → HasNext places b c → Comes r i c
  comes_next r i b c h on =
      let next = g.linked.next b c on in
      let is = one_reference (all_references None lines) b next.1.0 h.reference next.1.1 h.there in
      record {
        reference = h.reference;
        there = subst (HasReference (all_references None lines) c) is next.1.2;
        line = h.line;
        behind = h.behind;
        stands = next_stands h.line b c next.0 h.stands;
      }

  comes : (r : Reference) (i a k : ℕ) → Comes r i a → Leads places a k → Comes r i k
  comes r i a k first (Here b e) = subst (Comes r i) (sym e) first
  comes r i a k first (On b c led on) =
      let h = comes r i a b first led in
      ⊎_elim
      (λ (e : on.0.next ≡ Some c). comes_next r i b c h (on.0, on.1, e))
      (λ (e : on.0.over ≡ Some c). comes_over r i b c h (g.over b c (on.0, on.1, e)))
      on.2

  first_comes : (r : Reference) (i a : ℕ) (s : Sending) → DoesAt sending lines i s → HasReference (all_references None lines) (start lines i + length s.args) r → HasNext places (start lines i + length s.args) a → Comes r i a
  first_comes r i a s does target on =
      let next = g.linked.next (start lines i + length s.args) a on in
      let is = one_reference (all_references None lines) (start lines i + length s.args) next.1.0 r next.1.1 target in
      record {
        reference = r;
        there = subst (HasReference (all_references None lines) a) is next.1.2;
        line = i;
        behind = OnItself r i refl refl;
        stands = behind_all i s a does next.0;
      }

  -- ---- before

  -- the place at which a message stands on its reference
  sent_place : (m : Msg) (i : ℕ) (r : Reference) (h : IsSentOn lines m i r) → HasReference (all_references None lines) (start lines i + length h.send.args) r
  sent_place m i r h =
      target_at lines i h.send h.is_sent.there
      ∙ ap (λ (x : Shown). Some (reference (vat_at lines i) x)) h.target
      ∙ ap (λ (v : Option ℕ). Some (Some (record { vat = v; name = r.name }))) h.vat

  -- A message is before another exactly where its place leads next to one that leads to the other's.
  pub before_leads : (m n : Msg) (i later : ℕ) (from to : Reference) (last : ℕ) (h : IsSentOn lines m i from) (l : IsSentOn lines n later to) → Behind lines from i to last → last < later
      → (a : ℕ) × HasNext places (start lines i + length h.send.args) a × Leads places a (start lines later + length l.send.args)
  before_leads m n i later from to last h l behind less =
      leads_behind from i h.send h.is_sent.there (sent_place m i from h) to last behind (start lines later + length l.send.args) (sent_place n later to l)
      (omega (arith, grows_with lines (last + 1) later (omega (arith, less))))

  pub leads_before : (m n : Msg) (i later : ℕ) (from to : Reference) (h : IsSentOn lines m i from) (l : IsSentOn lines n later to) (a : ℕ) → HasNext places (start lines i + length h.send.args) a → Leads places a (start lines later + length l.send.args)
      → Before lines m i n
  leads_before m n i later from to h l a on led =
      let end = comes from i a (start lines later + length l.send.args) (first_comes from i a h.send h.is_sent.there (sent_place m i from h) on) led in
      let is = one_reference (all_references None lines) (start lines later + length l.send.args) end.reference to end.there (sent_place n later to l) in
      record {
        from = from;
        to = to;
        last = end.line;
        later = later;
        sent = h;
        behind = subst (λ (q : Reference). Behind lines from i q end.line) is end.behind;
        sent_later = l;
        follows = end.stands.later later l.send l.is_sent.there (omega arith) (omega arith);
      }
