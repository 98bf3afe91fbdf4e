-- What is judged of a trace is told by the trace.
use Rattle.std.specs.Prelude.{◌≡◌, ◌<◌, ◌+◌, ◌++◌, ◌⊎◌, ℕ, List, Option, Some, None, slice_get}
use Rattle.std.proofs.Common.{refl, sym, ap, subst, ◌∙◌, inl, inr}
use Rattle.std.proofs.lemmas.Bool.{cases_order}
use Rattle.ev_base.specs.declared.names.Msg.{Msg}
use Rattle.def_event.specs.declared.event.Event.{Event}
use Rattle.def_event.specs.Order.{Sending, Taking, sending, taking, DoesAt, IsOvertaken, IsFirstOvertaken, JudgesOrder}
use Rattle.def_event.specs.Uses.{Line, IsFirstFailing, LineHolds}
use Rattle.ev_check_text.specs.Checks.{order_line, uses_line}
use Rattle.ev_check_text.specs.Laws.{IsJudgedOnce}

some_is : {A : Type 0} {x y : A} → Some x ≡ Some y → x ≡ y
some_is e = cc

-- a line does one thing
one_deed : {A : Type 0} (does : Event → Option A) (lines : List Event) (i j : ℕ) (a b : A) → i ≡ j → DoesAt does lines i a → DoesAt does lines j b → a ≡ b
one_deed does lines i j a b same (e, there, is) (f, there', is') =
    let events : e ≡ f = some_is (sym there ∙ (ap (λ n. slice_get lines n) same ∙ there')) in
    some_is (sym is ∙ (ap does events ∙ is'))

-- ---- order

module _ (lines : List Event) (a b c d : Msg) (x : IsFirstOvertaken lines a b) (y : IsFirstOvertaken lines c d) where
  same_line : x.line ≡ y.line
  same_line = by (cases_order x.line y.line)
    where
      by : (x.line ≡ y.line) ⊎ ((x.line < y.line) ⊎ (y.line < x.line)) → x.line ≡ y.line
      by (inl same) = same
      by (inr (inl less)) = absurd (y.first_line x.line x.sent b a less x.overtaken)
      by (inr (inr more)) = absurd (x.first_line y.line y.sent d c more y.overtaken)

  same_sent : x.sent ≡ y.sent
  same_sent = by (cases_order x.sent y.sent)
    where
      by : (x.sent ≡ y.sent) ⊎ ((x.sent < y.sent) ⊎ (y.sent < x.sent)) → x.sent ≡ y.sent
      by (inl same) = same
      by (inr (inl less)) = absurd (y.sent_first x.sent b a less (subst (λ (t : ℕ). IsOvertaken lines t b a x.sent) same_line x.overtaken))
      by (inr (inr more)) = absurd (x.sent_first y.sent d c more (subst (λ (t : ℕ). IsOvertaken lines t d c y.sent) (sym same_line) y.overtaken))

  same_taken : b ≡ d
  same_taken =
      let took : x.overtaken.took ≡ y.overtaken.took = one_deed taking lines x.line y.line _ _ same_line x.overtaken.taken y.overtaken.taken in
      sym x.overtaken.message ∙ (ap (λ (t : Taking). t.message) took ∙ y.overtaken.message)

  same_overtaken : a ≡ c
  same_overtaken =
      let p = x.overtaken.before.sent in
      let q = y.overtaken.before.sent in
      let send : p.send ≡ q.send = one_deed sending lines x.sent y.sent _ _ same_sent p.is_sent.there q.is_sent.there in
      sym p.message ∙ (ap (λ (s : Sending). s.message) send ∙ q.message)

order_once : (lines : List Event) (first second : Option (Msg × Msg)) → JudgesOrder lines first → JudgesOrder lines second → first ≡ second
order_once lines None None x y = refl
order_once lines None (Some pair) x y = absurd (x y.line y.sent pair.1 pair.0 y.overtaken)
order_once lines (Some pair) None x y = absurd (y x.line x.sent pair.1 pair.0 x.overtaken)
order_once lines (Some (a, b)) (Some (c, d)) x y =
    ap Some (ap (λ (m : Msg). (m, b)) (same_overtaken lines a b c d x y) ∙ ap (λ (m : Msg). (c, m)) (same_taken lines a b c d x y))

-- ---- uses

failing_once : (Holds : List Line → Line → Type 0) (lines : List Event) (first second : Option ℕ) → IsFirstFailing Holds lines first → IsFirstFailing Holds lines second → first ≡ second
failing_once Holds lines None None x y = refl
failing_once Holds lines None (Some n) x (k, is, fails, before) = absurd (fails (x k))
failing_once Holds lines (Some n) None (k, is, fails, before) y = absurd (fails (y k))
failing_once Holds lines (Some n) (Some m) (k, is, fails, before) (l, is', fails', before') = by (cases_order k l)
  where
    by : (k ≡ l) ⊎ ((k < l) ⊎ (l < k)) → Some n ≡ Some m
    by (inl same) = ap Some (is ∙ (ap (λ i. i + 1) same ∙ sym is'))
    by (inr (inl less)) = absurd (fails (before' k less))
    by (inr (inr more)) = absurd (fails' (before l more))

-- ---- the text

pub judged_once : IsJudgedOnce
judged_once trace first second x y =
    let order : x.order ≡ y.order = order_once trace.history x.order y.order x.of_order y.of_order in
    let uses : x.uses ≡ y.uses = failing_once (LineHolds trace.history) trace.history x.uses y.uses x.of_uses y.of_uses in
    x.written ∙ (ap (λ (o : Option (Msg × Msg)). order_line trace.names o ++ uses_line x.uses) order
    ∙ (ap (λ (u : Option ℕ). order_line trace.names y.order ++ uses_line u) uses ∙ sym y.written))
