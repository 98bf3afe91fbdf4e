-- The lines of a message that is taken too early.
use Rattle.std.proofs.Common.{◌≡◌, ◌<◌, ◌+◌, ℕ, Bool, true, false, List, slice_get, Option, Some, None, refl, sym, ◌∙◌, ap, inl, inr, rules, arith}
use Rattle.std.specs.Prelude.{◌⊎◌, ◌↔◌, ◌&&◌, IsTrue}
use Rattle.std.proofs.lemmas.Bool.{cases_order}
use Rattle.ev_base.specs.declared.names.Msg.{Msg}
use Rattle.ev_base.specs.contracts.names.MsgPartialEq.TheImpl.{eq-value}
use Rattle.def_event.specs.declared.event.Event.{Event}
use Rattle.def_event.specs.declared.event.Event.TheVariants.{Take, Send, SendOnly}
use Rattle.def_event.specs.Order.{DoesAt, IsFirstOvertaken, IsOvertaken, IsTakenBefore, JudgesOrder, Sending as Sends, Taking, is_object, sending, taking}
use Rattle.ev_see_verdicts.specs.declared.order.Deed.{Deed}
use Rattle.ev_see_verdicts.specs.declared.order.Deed.TheVariants.{ByObject, Sending}
use Rattle.ev_see_verdicts.specs.declared.order.Overtaking.{Overtaking}
use Rattle.ev_see_verdicts.specs.Judged.{IsFirstDoing, IsFirstLine, TellsOrder, does}

-- ---- what it is to do it

key_is : (a b : Msg) → IsTrue (eq-value.it a b) ↔ (a ≡ b)
key_is a b = search rules

both : (a b : Bool) → (a && b) ≡ true → (a ≡ true) × (b ≡ true)
both true true h = (refl, refl)
both true false h = absurd cc
both false b h = absurd cc

both_so : (a b : Bool) → a ≡ true → b ≡ true → (a && b) ≡ true
both_so true true h k = refl
both_so true false h k = absurd cc
both_so false b h k = absurd cc

takes_is : (m : Msg) (e : Event) → does ByObject m e ≡ true → (t : Taking) × (taking e ≡ Some t) × (t.message ≡ m) × (t.by_object ≡ true)
unfolding does
takes_is m (Take t) is =
    let p = both (is_object t.target) (eq-value.it t.message m) is in
    (record { message = t.message; by_object = is_object t.target }, refl, (key_is t.message m).0 p.1, p.0)
takes_is m _ is = absurd cc

takes_so : (m : Msg) (e : Event) (t : Taking) → taking e ≡ Some t → t.message ≡ m → t.by_object ≡ true → does ByObject m e ≡ true
unfolding does
takes_so m (Take x) t is same by =
    let it : record { message = x.message; by_object = is_object x.target } ≡ t = (let s : Some (record { message = x.message; by_object = is_object x.target }) ≡ Some t = is in cc) in
    both_so (is_object x.target) (eq-value.it x.message m) (ap (λ (y : Taking). y.by_object) it ∙ by) ((key_is x.message m).1 (ap (λ (y : Taking). y.message) it ∙ same))
takes_so m _ t is same by = absurd cc

sends_is : (m : Msg) (e : Event) → does Sending m e ≡ true → (s : Sends) × (sending e ≡ Some s) × (s.message ≡ m)
unfolding does
sends_is m (Send s) is = (record { message = s.message; target = s.target; args = s.args }, refl, (key_is s.message m).0 is)
sends_is m (SendOnly s) is = (record { message = s.message; target = s.target; args = s.args }, refl, (key_is s.message m).0 is)
sends_is m _ is = absurd cc

sends_so : (m : Msg) (e : Event) (s : Sends) → sending e ≡ Some s → s.message ≡ m → does Sending m e ≡ true
unfolding does
sends_so m (Send x) s is same =
    let it : record { message = x.message; target = x.target; args = x.args } ≡ s = (let q : Some (record { message = x.message; target = x.target; args = x.args }) ≡ Some s = is in cc) in
    (key_is x.message m).1 (ap (λ (y : Sends). y.message) it ∙ same)
sends_so m (SendOnly x) s is same =
    let it : record { message = x.message; target = x.target; args = x.args } ≡ s = (let q : Some (record { message = x.message; target = x.target; args = x.args }) ≡ Some s = is in cc) in
    (key_is x.message m).1 (ap (λ (y : Sends). y.message) it ∙ same)
sends_so m _ s is same = absurd cc

clash : (b : Bool) → b ≡ true → b ≡ false → ⊥
clash b t f = let bad : true ≡ false = sym t ∙ f in absurd cc

-- ---- the lines

module _ (es : List Event) (m n : Msg) (w : IsFirstOvertaken es m n) where
  took_it : does ByObject n w.overtaken.taken.0 ≡ true
  took_it = takes_so n w.overtaken.taken.0 w.overtaken.took w.overtaken.taken.2 w.overtaken.message w.overtaken.by_object

  taken_then : (j : ℕ) → j < w.line → IsTakenBefore es j m → IsTakenBefore es w.line m
  taken_then j lt (k, t, less, there, same) = (k, t, omega arith, there, same)

  not_earlier : (i : ℕ) (e : Event) → slice_get es i ≡ Some e → does ByObject n e ≡ true → i < w.line → ⊥
  not_earlier i e there is lt =
      let t = takes_is n e is in
      w.first_line i w.sent n m lt (record {
        took = t.0;
        taken = (e, there, t.1);
        message = t.2;
        by_object = t.3;
        before = w.overtaken.before;
        waits = λ before. w.overtaken.waits (taken_then i lt before);
      })

  line_is : (i : ℕ) → IsFirstDoing ByObject n es (Some i) → i ≡ w.line
  line_is i ((e, there, is), before) = by (cases_order i w.line)
    where
      by : (i ≡ w.line) ⊎ ((i < w.line) ⊎ (w.line < i)) → i ≡ w.line
      by (inl same) = same
      by (inr (inl less)) = absurd (not_earlier i e there is less)
      by (inr (inr more)) = absurd (clash _ took_it (before w.line w.overtaken.taken.0 more w.overtaken.taken.1))

  line_there : IsFirstDoing ByObject n es None → ⊥
  line_there none = clash _ took_it (none w.line w.overtaken.taken.0 w.overtaken.taken.1)

  sent_it : does Sending m w.overtaken.before.sent.is_sent.there.0 ≡ true
  sent_it = sends_so m w.overtaken.before.sent.is_sent.there.0 w.overtaken.before.sent.send w.overtaken.before.sent.is_sent.there.2 w.overtaken.before.sent.message

  sent_is : (i : ℕ) → IsFirstDoing Sending m es (Some i) → i ≡ w.sent
  sent_is i ((e, there, is), before) = by (cases_order i w.sent)
    where
      by : (i ≡ w.sent) ⊎ ((i < w.sent) ⊎ (w.sent < i)) → i ≡ w.sent
      by (inl same) = same
      by (inr (inl less)) =
          let s = sends_is m e is in
          absurd (w.overtaken.before.sent.is_sent.first i s.0 less (e, there, s.1) (s.2 ∙ sym w.overtaken.before.sent.message))
      by (inr (inr more)) = absurd (clash _ sent_it (before w.sent w.overtaken.before.sent.is_sent.there.0 more w.overtaken.before.sent.is_sent.there.1))

  sent_there : IsFirstDoing Sending m es None → ⊥
  sent_there none = clash _ sent_it (none w.sent w.overtaken.before.sent.is_sent.there.0 w.overtaken.before.sent.is_sent.there.1)

pub lines_are : (es : List Event) (m n : Msg) (line sent : ℕ) → IsFirstLine ByObject n es (Some line) → IsFirstLine Sending m es (Some sent) → JudgesOrder es (Some (m, n))
    → TellsOrder es (Some (record { first = m; sent = sent; taken = n; line = line }))
lines_are es m n line sent taken sends w =
    let (i, is, first) = taken.is in
    let (j, is', first') = sends.is in
    (w, is ∙ ap (λ k. k + 1) (line_is es m n w i first), is' ∙ ap (λ k. k + 1) (sent_is es m n w j first'))

pub no_line : (es : List Event) (m n : Msg) → IsFirstLine ByObject n es None → JudgesOrder es (Some (m, n)) → TellsOrder es None
no_line es m n none w = absurd (line_there es m n w none.is)

pub no_send : (es : List Event) (m n : Msg) → IsFirstLine Sending m es None → JudgesOrder es (Some (m, n)) → TellsOrder es None
no_send es m n none w = absurd (sent_there es m n w none.is)
