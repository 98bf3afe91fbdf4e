-- Lines that take too early, one after the other.
use Rattle.std.specs.Prelude.{◌≡◌, ◌+◌, ◌≤◌, ℕ, Bool, true, false, List, [], ◌∷◌, ◌++◌, length, Option, Some, slice_get}
use Rattle.std.proofs.Common.{refl, arith, sym, ◌∙◌, ap, subst, ⊎_elim, inl, inr}
use Rattle.std.proofs.lemmas.List.{length-append}
use Rattle.std.proofs.lemmas.Option.{slice_get_within}
use Rattle.std.proofs.lemmas.Bool.Decides.{eqb_tells}
use Rattle.ev_base.specs.declared.names.Msg.{Msg}
use Rattle.def_event.specs.declared.event.Event.{Event}
use Rattle.def_event.specs.Order.{Taking, taking}
use Rattle.ev_order.specs.declared.mentions.Mention.{Mention}
use Rattle.ev_order.specs.declared.spread.Place.{Place}
use Rattle.ev_order.specs.Mentions.{MentionList}
use Rattle.ev_order.specs.Over.{AreSingle}
use Rattle.ev_order.specs.Judge.{late_label, Overtakes, IsEarly, TakesAt, NoneEarly, IsWaiting, AreWaiting}
use Rattle.ev_order.proofs.Lists.{get_either}

early_from : (labels : List (Option ℕ)) (sent taken : MentionList) (m : Msg) (line : ℕ) (b : Bool) → Overtakes labels sent taken m line b → b ≡ true → IsEarly labels sent taken m line
early_from labels sent taken m line b (inl h) told = (h.0, h.1, sym h.2 ∙ told)
early_from labels sent taken m line b (inr h) told = let no_way : true ≡ false = sym told ∙ h.1 in cc

early_not : (labels : List (Option ℕ)) (sent taken : MentionList) (m : Msg) (line : ℕ) (b : Bool) → AreSingle sent → Overtakes labels sent taken m line b → b ≡ false → IsEarly labels sent taken m line → ⊥
early_not labels sent taken m line b single (inl h) no_one early =
    let same = single m early.0 h.0 early.1 h.1 in
    let no_way : true ≡ false = sym early.2 ∙ ap (λ (s : Mention). late_label sent taken line (slice_get labels (s.first + s.args))) same ∙ sym h.2 ∙ no_one in
    cc
early_not labels sent taken m line b single (inr h) no_one early = h.0 early.0 early.1

pub takes_at : (labels : List (Option ℕ)) (sent taken : MentionList) (e : Event) (line : ℕ) (t : Taking) (b : Bool) → taking e ≡ Some t → t.by_object ≡ true → Overtakes labels sent taken t.message line b → b ≡ true → TakesAt labels sent taken e line t.message
takes_at labels sent taken e line t b takes object overtakes told = record { take = t; takes = takes; by_object = object; message = refl; early = early_from labels sent taken t.message line b overtakes told }

pub takes_not : (labels : List (Option ℕ)) (sent taken : MentionList) (e : Event) (line : ℕ) (t : Taking) (b : Bool) → AreSingle sent → taking e ≡ Some t → Overtakes labels sent taken t.message line b → b ≡ false → (m : Msg) → TakesAt labels sent taken e line m → ⊥
takes_not labels sent taken e line t b single takes overtakes no_one m h =
    let two : Some h.take ≡ Some t = sym h.takes ∙ takes in
    let same : h.take ≡ t = cc in
    let is : m ≡ t.message = sym h.message ∙ ap (λ (x : Taking). x.message) same in
    early_not labels sent taken t.message line b single overtakes no_one (subst (λ (x : Msg). IsEarly labels sent taken x line) is h.early)

pub none_more : (labels : List (Option ℕ)) (sent taken : MentionList) (events : List Event) (line : ℕ) (e : Event) → slice_get events line ≡ Some e → NoneEarly labels sent taken events line → ((m : Msg) → TakesAt labels sent taken e line m → ⊥) → NoneEarly labels sent taken events (line + 1)
none_more labels sent taken events line e at none here j d m less there h = ⊎_elim
    (λ (same : (_ : _) × (j ≡ line)).
    let two : Some d ≡ Some e = sym there ∙ ap (slice_get events) same.1 ∙ at in
    let is : d ≡ e = cc in
    here m (subst (λ (k : ℕ). TakesAt labels sent taken e k m) same.1 (subst (λ (x : Event). TakesAt labels sent taken x j m) is h)))
    (λ (other : (_ : _) × (j ≡ line → ⊥)). none j d m (omega (arith, less, other.1)) there h)
    (eqb_tells j line)

pub none_at_all : (labels : List (Option ℕ)) (sent taken : MentionList) (events : List Event) (line : ℕ) → length events ≤ line → NoneEarly labels sent taken events line → NoneEarly labels sent taken events (length events)
none_at_all labels sent taken events line past none j e m less at h = none j e m (omega (arith, less, past)) at h

pub waits_more : (places : List Place) (sent taken : MentionList) (line : ℕ) (seeds : List (Option ℕ)) (n : ℕ) (o : Option ℕ) → AreWaiting places sent taken line seeds n → ((m : Msg) (s : Mention) → slice_get sent n ≡ Some (m, s) → IsWaiting places taken line m s o) → AreWaiting places sent taken line (seeds ++ o ∷ []) (n + 1)
waits_more places sent taken line seeds n o w new = record {
  size = omega (arith, length-append seeds (o ∷ []), w.size);
  each = λ k m s p less at got. ⊎_elim
      (λ (old : slice_get seeds k ≡ Some p). w.each k m s p (omega (arith, slice_get_within seeds k p old, w.size)) at old)
      (λ (is : (k ≡ length seeds) × (p ≡ o)).
      let here : k ≡ n = omega (arith, is.0, w.size) in
      subst (IsWaiting places taken line m s) (sym is.1) (new m s (sym (ap (slice_get sent) here) ∙ at)))
      (get_either seeds o k p got);
}
