-- A history that is in order is so under other names.
use Rattle.std.proofs.Common.{◌≡◌, ◌<◌, ℕ, zero, suc, Bool, true, false, List, [], ◌∷◌, map, Option, Some, None, option_map, refl, sym, ap, ◌∙◌, subst, ◌&&◌, ◌==◌, eqb-true, eq-eqb}
use Rattle.std.specs.Prelude.{slice_get}
use Rattle.ev_base.specs.declared.names.Msg.{Msg}
use Rattle.ev_base.specs.declared.names.Name.{Name}
use Rattle.ev_base.specs.declared.names.Name.TheVariants.{Object}
use Rattle.def_event.specs.declared.shown.Shown.{Shown, Name as Named}
use Rattle.def_event.specs.declared.note.ShownNote.{ShownNote}
use Rattle.def_event.specs.declared.note.ShownNote.TheVariants.{Deliver, DeliverOnly}
use Rattle.def_event.specs.declared.event.Event.{Event}
use Rattle.def_event.specs.declared.event.Event.TheVariants.{Carry, Frame, Take, Send, SendOnly}
use Rattle.def_event.specs.declared.reference.Reference.{Reference}
use Rattle.def_event.specs.Order.{vat_at, Sending, Carrying, Taking, sending, note_carrying, carrying, is_object, taking, DoesAt, IsFirst, IsSent, IsCarried, Passing, Behind, OnItself, Passed, IsSentOn, IsOvertaken, IsOrdered}
use Rattle.def_event.specs.Uses.{name_of, same_message}
use Rattle.def_event.specs.Uses as uses
use Rattle.law_trace.proofs.UsesSeen.Same.{some_of}
use Rattle.law_trace.proofs.UsesSeen.Renaming.{Renaming, IsRenaming, AreEvents, values, note, event}
use Rattle.law_trace.proofs.Seen.Placing.{IsFrame, at, further, before, mirrors, mirrored, vat_same}

some_is : {A : Type 0} (x y : A) → Some x ≡ Some y → x ≡ y
some_is x y e = cc

none_some : {A : Type 0} (x : A) → None ≡ Some x → ⊥
none_some x e = cc

and_first : (a b : Bool) → (a && b) ≡ true → a ≡ true
and_first true b e = refl
and_first false b e = absurd (cc)

and_second : (a b : Bool) → (a && b) ≡ true → b ≡ true
and_second true b e = e
and_second false b e = absurd (cc)

and_true : (a b : Bool) → a ≡ true → b ≡ true → (a && b) ≡ true
and_true true b e f = f
and_true false b e f = absurd (cc)

message_is : (m n : Msg) → same_message m n ≡ true → m ≡ n
message_is m n e =
    let a : m.sender ≡ n.sender = eqb-true m.sender n.sender (and_first (m.sender == n.sender) (m.number == n.number) e) in
    let b : m.number ≡ n.number = eqb-true m.number n.number (and_second (m.sender == n.sender) (m.number == n.number) e) in
    ap (λ (s : ℕ). record { sender = s; number = m.number }) a ∙ ap (λ (k : ℕ). record { sender = n.sender; number = k }) b

message_self : (m : Msg) → same_message m m ≡ true
message_self m = and_true (m.sender == m.sender) (m.number == m.number) (eq-eqb m.sender m.sender refl) (eq-eqb m.number m.number refl)

-- a value is a name
named_is : (x : Shown) (n : Name) → name_of x ≡ Some n → x ≡ Named n
unfolding name_of
named_is (Named m) n e = ap Named (some_is m n e)
named_is other n e = absurd (none_some n e)

name_is : (n : Name) → name_of (Named n) ≡ Some n
unfolding name_of
name_is n = refl

-- whether it is an object, by its name
abbrev object_by : Option Name → Bool
object_by (Some n) = uses.is_object n
object_by None = false

name_object : (n : Name) → is_object (Named n) ≡ uses.is_object n
unfolding uses.is_object
name_object (Object v k) = refl
name_object other = refl

object_is : (x : Shown) → is_object x ≡ object_by (name_of x)
unfolding name_of
object_is (Named n) = name_object n
object_is other = refl

get_map : {A B : Type 0} (f : A → B) (xs : List A) (k : ℕ) (y : B) → slice_get (map f xs) k ≡ Some y → (x : A) × (slice_get xs k ≡ Some x) × (f x ≡ y)
get_map f [] k y q = absurd (none_some y q)
get_map f (x ∷ xs) zero y q = (x, refl, some_is (f x) y q)
get_map f (x ∷ xs) (suc k) y q = get_map f xs k y q

module _ (r : Renaming) (good : IsRenaming r) where
  -- ---- what lines tell of messages

  abbrev sending_to : Sending → Sending
  sending_to s = record { message = r.message s.message; target = r.value s.target; args = values r s.args }

  abbrev carrying_to : Carrying → Carrying
  carrying_to c = record { message = r.message c.message; leaves = r.vat c.leaves; reaches = r.vat c.reaches; args = values r c.args }

  abbrev taking_to : Taking → Taking
  taking_to t = record { message = r.message t.message; by_object = t.by_object }

  sends_same : (e : Event) → sending (event r e) ≡ option_map sending_to (sending e)
  sends_same (Send m) = refl
  sends_same (SendOnly m) = refl
  sends_same other = refl

  note_same : (v w : ℕ) (n : ShownNote) → note_carrying (r.vat v) (r.vat w) (note r n) ≡ option_map carrying_to (note_carrying v w n)
  note_same v w (Deliver m target verb args) = refl
  note_same v w (DeliverOnly m target verb args) = refl
  note_same v w other = refl

  carries_same : (e : Event) → carrying (event r e) ≡ option_map carrying_to (carrying e)
  carries_same (Carry k v w n) = note_same v w n
  carries_same other = refl

  by_name : (o : Option Name) → object_by (option_map r.name o) ≡ object_by o
  by_name (Some n) = good.objects n
  by_name None = refl

  object_same : (x : Shown) → is_object (r.value x) ≡ is_object x
  object_same x = object_is (r.value x) ∙ ap object_by (good.as_name x) ∙ by_name (name_of x) ∙ sym (object_is x)

  takes_same : (e : Event) → taking (event r e) ≡ option_map taking_to (taking e)
  takes_same (Take t) = ap (λ (b : Bool). Some (record { message = r.message t.message; by_object = b })) (object_same t.target)
  takes_same other = refl

  messages_apart : (m n : Msg) → r.message m ≡ r.message n → m ≡ n
  messages_apart m n e = message_is m n (sym (good.messages_same m n) ∙ ap (λ (z : Msg). same_message (r.message m) z) (sym e) ∙ message_self (r.message m))

  -- a value that is a name under other names is a name
  named_back : (x : Shown) (n : Name) → r.value x ≡ Named n → (m : Name) × (x ≡ Named m) × (r.name m ≡ n)
  named_back x n e = let s = some_of r.name (name_of x) (name_of (r.value x)) n (good.as_name x) (ap name_of e ∙ name_is n) in (s.0, named_is x s.0 s.1, s.2)

  vats_apart : (a b : Option ℕ) → option_map r.vat a ≡ option_map r.vat b → a ≡ b
  vats_apart (Some v) (Some w) e = ap Some (good.vats_apart v w (some_is (r.vat v) (r.vat w) e))
  vats_apart None None e = refl
  vats_apart (Some v) None e = absurd (none_some (r.vat v) (sym e))
  vats_apart None (Some w) e = absurd (none_some (r.vat w) e)

  reference_to : Reference → Reference
  reference_to p = record { vat = option_map r.vat p.vat; name = r.name p.name }

  reference_same : (p q : Reference) → p.vat ≡ q.vat → p.name ≡ q.name → p ≡ q
  reference_same p q e f = ap (λ (v : Option ℕ). record { vat = v; name = p.name }) e ∙ ap (λ (n : Name). record { vat = q.vat; name = n }) f

  references_apart : (p q : Reference) → reference_to p ≡ reference_to q → p ≡ q
  unfolding reference_to
  references_apart p q e = reference_same p q (vats_apart p.vat q.vat (ap (λ (z : Reference). z.vat) e)) (good.names_apart p.name q.name (ap (λ (z : Reference). z.name) e))

  module _ (es fs : List Event) (a : AreEvents r es fs) where
    -- ---- lines that do something with messages

    module _ {A : Type 0} (does : Event → Option A) (to : A → A) (same : (e : Event) → does (event r e) ≡ option_map to (does e)) (frames : (bytes : List ℕ) → does (Frame bytes) ≡ None) where
      plain : (e : Event) (x : A) → does e ≡ Some x → IsFrame e → ⊥
      plain (Frame bytes) x q h = none_some x (sym (frames bytes) ∙ q)
      plain other x q h = h

      does_back : (j : ℕ) (y : A) → DoesAt does fs j y → (x : A) × DoesAt does es (at r a j) x × (to x ≡ y)
      does_back j y d =
          let m = mirrors r a j d.0 d.1 in
          let s = some_of to (does m.event_there) (does (event r m.event_there)) y (same m.event_there) (ap does (sym m.is) ∙ d.2) in
          (s.0, (m.event_there, m.there, s.1), s.2)

      does_on : (i : ℕ) (x : A) → DoesAt does es i x → (j : ℕ) × (at r a j ≡ i) × DoesAt does fs j (to x)
      does_on i x d =
          let m = mirrored r a i d.0 d.1 (plain d.0 x d.2) in
          (m.0, m.1, (event r d.0, m.2, same d.0 ∙ ap (option_map to) d.2))

      module _ (message : A → Msg) (named : (x : A) → message (to x) ≡ r.message (message x)) where
        first_back : (j : ℕ) (x : A) → IsFirst does message fs j (to x) → DoesAt does es (at r a j) x → IsFirst does message es (at r a j) x
        first_back j x f d = record {
          there = d;
          first = λ i y l e same_message.
              let o = does_on i y e in
              let less : at r a o.0 < at r a j = subst (λ n. n < at r a j) (sym o.1) l in
              f.first o.0 (to y) (before r a o.0 j less) o.2 (named y ∙ ap r.message same_message ∙ sym (named x));
        }

    record SentBack (j : ℕ) (s : Sending) : Type 0 where
      pub sent : Sending
      pub is_sent : IsSent es (at r a j) sent
      pub is : s ≡ sending_to sent

    sent_back : (j : ℕ) (s : Sending) → IsSent fs j s → SentBack j s
    sent_back j s f =
        let d = does_back sending sending_to sends_same (λ bytes. refl) j s f.there in
        let first : IsFirst sending (λ (x : Sending). x.message) fs j (sending_to d.0) = subst (λ z. IsFirst sending (λ (x : Sending). x.message) fs j z) (sym d.2) f in
        record { sent = d.0; is_sent = first_back sending sending_to sends_same (λ bytes. refl) (λ (x : Sending). x.message) (λ x. refl) j d.0 first d.1; is = sym d.2 }

    record CarriedBack (j : ℕ) (c : Carrying) : Type 0 where
      pub carried : Carrying
      pub is_carried : IsCarried es (at r a j) carried
      pub is : c ≡ carrying_to carried

    carried_back : (j : ℕ) (c : Carrying) → IsCarried fs j c → CarriedBack j c
    carried_back j c f =
        let d = does_back carrying carrying_to carries_same (λ bytes. refl) j c f.there in
        let first : IsFirst carrying (λ (x : Carrying). x.message) fs j (carrying_to d.0) = subst (λ z. IsFirst carrying (λ (x : Carrying). x.message) fs j z) (sym d.2) f in
        record { carried = d.0; is_carried = first_back carrying carrying_to carries_same (λ bytes. refl) (λ (x : Carrying). x.message) (λ x. refl) j d.0 first d.1; is = sym d.2 }

    -- ---- references

    record SentOn (m : Msg) (j : ℕ) (p : Reference) : Type 0 where
      pub message : Msg
      pub named : m ≡ r.message message
      pub reference : Reference
      pub is : p ≡ reference_to reference
      pub sent_on : IsSentOn es message (at r a j) reference

    sent_on_back : (m : Msg) (j : ℕ) (p : Reference) → IsSentOn fs m j p → SentOn m j p
    unfolding reference_to
    sent_on_back m j p o =
        let s = sent_back j o.send o.is_sent in
        let n = named_back s.sent.target p.name (ap (λ (x : Sending). x.target) (sym s.is) ∙ o.target) in
        record {
          message = s.sent.message;
          named = sym o.message ∙ ap (λ (x : Sending). x.message) s.is;
          reference = record { vat = vat_at es (at r a j); name = n.0 };
          is = reference_same p (record { vat = option_map r.vat (vat_at es (at r a j)); name = r.name n.0 }) (sym o.vat ∙ vat_same r a j) (sym n.2);
          sent_on = record { send = s.sent; is_sent = s.is_sent; message = refl; vat = refl; target = n.1 };
        }

    record PassedBack (p : Reference) (q : Reference) (sent carried : ℕ) : Type 0 where
      pub reference : Reference
      pub is : q ≡ reference_to reference
      pub passing : Passing es p reference (at r a sent) (at r a carried)

    passed_back : (p p' q : Reference) (sent carried : ℕ) → p' ≡ reference_to p → Passing fs p' q sent carried → PassedBack p q sent carried
    unfolding reference_to
    passed_back p p' q sent carried e h =
        let s = sent_back sent h.send h.is_sent in
        let c = carried_back carried h.carry h.is_carried in
        let given = get_map r.value s.sent.args h.place (Named p'.name) (ap (λ (x : Sending). slice_get x.args h.place) (sym s.is) ∙ h.given) in
        let n = named_back given.0 p'.name given.2 in
        let came = get_map r.value c.carried.args h.place (Named q.name) (ap (λ (x : Carrying). slice_get x.args h.place) (sym c.is) ∙ h.received) in
        let m = named_back came.0 q.name came.2 in
        let name : n.0 ≡ p.name = good.names_apart n.0 p.name (n.2 ∙ ap (λ (z : Reference). z.name) e) in
        record {
          reference = record { vat = Some c.carried.reaches; name = m.0 };
          is = reference_same q (record { vat = Some (r.vat c.carried.reaches); name = r.name m.0 }) (h.reaches ∙ ap (λ (x : Carrying). Some x.reaches) c.is) (sym m.2);
          passing = record {
            send = s.sent;
            carry = c.carried;
            is_sent = s.is_sent;
            is_carried = c.is_carried;
            same = messages_apart c.carried.message s.sent.message (ap (λ (x : Carrying). x.message) (sym c.is) ∙ h.same ∙ ap (λ (x : Sending). x.message) s.is);
            place = h.place;
            given = given.1 ∙ ap Some (n.1 ∙ ap Named name);
            received = came.1 ∙ ap Some m.1;
            giver = vats_apart (vat_at es (at r a sent)) p.vat (sym (vat_same r a sent) ∙ h.giver ∙ ap (λ (z : Reference). z.vat) e);
            leaves = vats_apart p.vat (Some c.carried.leaves) (ap (λ (z : Reference). z.vat) (sym e) ∙ h.leaves ∙ ap (λ (x : Carrying). Some x.leaves) c.is);
            reaches = refl;
          };
        }

    record BehindBack (p : Reference) (i : ℕ) (q : Reference) (j : ℕ) : Type 0 where
      pub reference : Reference
      pub is : q ≡ reference_to reference
      pub behind : Behind es p (at r a i) reference (at r a j)

    behind_back : (p p' : Reference) (i : ℕ) → p' ≡ reference_to p → (q : Reference) (j : ℕ) → Behind fs p' i q j → BehindBack p i q j
    behind_back p p' i e q j (OnItself q1 j1 f g) = record { reference = p; is = f ∙ e; behind = OnItself p (at r a j) refl (ap (at r a) g) }
    behind_back p p' i e q j (Passed o q1 j1 sent carried b l h) =
        let so = behind_back p p' i e o j1 b in
        let next = passed_back so.reference o q sent carried so.is h in
        record { reference = next.reference; is = next.is; behind = Passed so.reference next.reference (at r a j1) (at r a sent) (at r a carried) so.behind (further r a j1 sent l) next.passing }

    -- ---- no object takes a message too early

    overtaken_back : IsOrdered es → (t i : ℕ) (n m : Msg) → IsOvertaken fs t n m i → ⊥
    overtaken_back ordered t i n m o =
        let b = o.before in
        let first = sent_on_back m i b.from b.sent in
        let second = sent_on_back n b.later b.to b.sent_later in
        let chain = behind_back first.reference b.from i first.is b.to b.last b.behind in
        let to : second.reference ≡ chain.reference = references_apart second.reference chain.reference (sym second.is ∙ chain.is) in
        let took = does_back taking taking_to takes_same (λ bytes. refl) t o.took o.taken in
        ordered (at r a t) (at r a i) second.message first.message (record {
          took = took.0;
          taken = took.1;
          message = messages_apart (took.0).message second.message (ap (λ (x : Taking). x.message) took.2 ∙ o.message ∙ second.named);
          by_object = ap (λ (x : Taking). x.by_object) took.2 ∙ o.by_object;
          before = record {
            from = first.reference;
            to = second.reference;
            last = at r a b.last;
            later = at r a b.later;
            sent = first.sent_on;
            behind = subst (λ z. Behind es first.reference (at r a i) z (at r a b.last)) (sym to) chain.behind;
            sent_later = second.sent_on;
            follows = further r a b.last b.later b.follows;
          };
          waits = λ w.
              let d = does_on taking taking_to takes_same (λ bytes. refl) w.0 w.1 w.3 in
              let less : at r a d.0 < at r a t = subst (λ k. k < at r a t) (sym d.1) w.2 in
              o.waits (d.0, taking_to w.1, before r a d.0 t less, d.2, ap r.message w.4 ∙ sym first.named);
        })

  pub order_renamed : (es fs : List Event) → AreEvents r es fs → IsOrdered es → IsOrdered fs
  order_renamed es fs a ordered t i n m o = overtaken_back es fs a ordered t i n m o
