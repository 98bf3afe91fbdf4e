-- Labels and keys tell things and facts apart.
use Rattle.std.proofs.Common.{◌≡◌, ℕ, Bool, true, false, List, [], ◌∷◌, map, refl, sym, ap, ◌∙◌, inl, inr, rules, ◌&&◌}
use Rattle.std.specs.Prelude.{◌↔◌, IsTrue}
use Rattle.ev_base.specs.declared.names.Name.{Name}
use Rattle.ev_base.specs.declared.names.Name.TheVariants.{Object, Own, Answer, Gift, Root, Claimed}
use Rattle.def_event.specs.Uses as uses
use Rattle.def_event.specs.Uses.{IsAmong, Thing, AName, AList}
use Rattle.ev_links.specs.declared.label.Label.{Label}
use Rattle.ev_links.specs.declared.label.Kind.{Kind}
use Rattle.ev_links.specs.declared.label.Kind.TheVariants as kind
use Rattle.ev_known.specs.declared.facts.Activation.{Activation}
use Rattle.ev_known.specs.declared.facts.Fact.{Fact}
use Rattle.ev_known.specs.declared.facts.Fact.TheVariants as fact
use Rattle.ev_links.specs.contracts.label.LabelPartialEq.TheImpl.{eq-value as label_eq}
use Rattle.ev_known.specs.contracts.facts.ActivationPartialEq.TheImpl.{eq-value as activation_eq}
use Rattle.ev_known.specs.contracts.facts.FactPartialEq.TheImpl.{eq-value as fact_eq}
use Rattle.ev_links.specs.Label.{label}
use Rattle.ev_known.specs.Telling.{key}
use Rattle.ev_links.proofs.Among.{IsExact}
use Rattle.ev_links.proofs.Spreading.{exact_label}

-- ---- what a label stands for

by_kind : Kind → ℕ → ℕ → ℕ → Thing
by_kind kind.Object h s n = AName (Object h n)
by_kind kind.Own h s n = AName (Own h n)
by_kind kind.Answer h s n = AName (Answer h (record { sender = s; number = n }))
by_kind kind.Gift h s n = AName (Gift h n)
by_kind kind.Root h s n = AName (Root h)
by_kind kind.Claimed h s n = AName (Claimed h s n)
by_kind kind.List h s n = AList h n

pub unlabel : Label → Thing
unlabel l = by_kind l.kind l.host l.sender l.number

pub unlabel_label : (t : Thing) → unlabel (label t) ≡ t
unfolding label unlabel by_kind
unlabel_label (AName (Object v n)) = refl
unlabel_label (AName (Own v n)) = refl
unlabel_label (AName (Answer v m)) = refl
unlabel_label (AName (Gift v n)) = refl
unlabel_label (AName (Root v)) = refl
unlabel_label (AName (Claimed v p word)) = refl
unlabel_label (AList v n) = refl

pub label_same : (t u : Thing) → label t ≡ label u → t ≡ u
label_same t u e = sym (unlabel_label t) ∙ ap unlabel e ∙ unlabel_label u

name_in : Thing → Name
name_in (AName n) = n
name_in (AList v n) = Root 0

named : (n : Name) → name_in (unlabel (label (AName n))) ≡ n
unfolding name_in
named n = ap name_in (unlabel_label (AName n))

pub name_same : (n m : Name) → label (AName n) ≡ label (AName m) → n ≡ m
name_same n m e = sym (named n) ∙ ap (λ (l : Label). name_in (unlabel l)) e ∙ named m

-- ---- what a key stands for

unkey : Fact → uses.Fact
unkey (fact.Begun a) = uses.Begun (record { at = a.at; number = a.number })
unkey (fact.Opened a) = uses.Opened (record { at = a.at; number = a.number })
unkey (fact.Given a t) = uses.Given (record { at = a.at; number = a.number }) (unlabel t)
unkey (fact.Made n) = uses.Made (name_in (unlabel n))
unkey (fact.Captured n t) = uses.Captured (name_in (unlabel n)) (unlabel t)
unkey (fact.Audition n) = uses.Audition (name_in (unlabel n))

unkey_key : (f : uses.Fact) → unkey (key f) ≡ f
unfolding unkey key
unkey_key (uses.Begun a) = refl
unkey_key (uses.Opened a) = refl
unkey_key (uses.Given a t) = ap (uses.Given a) (unlabel_label t)
unkey_key (uses.Made n) = ap uses.Made (named n)
unkey_key (uses.Captured n t) =
    ap (λ (m : Name). uses.Captured m (unlabel (label t))) (named n) ∙ ap (uses.Captured n) (unlabel_label t)
unkey_key (uses.Audition n) = ap uses.Audition (named n)

pub key_same : (f g : uses.Fact) → key f ≡ key g → f ≡ g
key_same f g e = sym (unkey_key f) ∙ ap unkey e ∙ unkey_key g

pub among_keys : (f : uses.Fact) (fs : List uses.Fact) → IsAmong (key f) (map key fs) ↔ IsAmong f fs
among_keys f [] = (λ h. h, λ h. h)
among_keys f (g ∷ fs) =
    let rest = among_keys f fs in
    (λ h. elim h [ inl e ↦ inl (key_same g f e) | inr a ↦ inr (rest.0 a) ], λ h. elim h [ inl e ↦ inl (ap key e) | inr a ↦ inr (rest.1 a) ])

-- ---- tests of keys

activation_is : (a b : Activation) → IsTrue (activation_eq.it a b) ↔ (a ≡ b)
activation_is a b = search rules

both : (a b : Bool) → (a && b) ≡ true → (a ≡ true) × (b ≡ true)
both true true h = (refl, refl)
both true false h = absurd cc
both false b h = absurd cc

both_so : (a b : Bool) → a ≡ true → b ≡ true → (a && b) ≡ true
both_so true true h k = refl
both_so true false h k = absurd cc
both_so false b h k = absurd cc

unlike : false ≡ true → ⊥
unlike e = cc

fact_same : (a b : Fact) → fact_eq.it a b ≡ true → a ≡ b
fact_same (fact.Begun a) (fact.Begun b) h = ap fact.Begun ((activation_is a b).0 h)
fact_same (fact.Opened a) (fact.Opened b) h = ap fact.Opened ((activation_is a b).0 h)
fact_same (fact.Given a t) (fact.Given b u) h =
    let p = both (activation_eq.it a b) (label_eq.it t u) h in
    ap (λ (x : Activation). fact.Given x t) ((activation_is a b).0 p.0) ∙ ap (fact.Given b) (exact_label.same t u p.1)
fact_same (fact.Made n) (fact.Made m) h = ap fact.Made (exact_label.same n m h)
fact_same (fact.Captured n t) (fact.Captured m u) h =
    let p = both (label_eq.it n m) (label_eq.it t u) h in
    ap (λ (x : Label). fact.Captured x t) (exact_label.same n m p.0) ∙ ap (fact.Captured m) (exact_label.same t u p.1)
fact_same (fact.Audition n) (fact.Audition m) h = ap fact.Audition (exact_label.same n m h)
fact_same a b h = absurd (unlike h)

fact_itself : (a : Fact) → fact_eq.it a a ≡ true
fact_itself (fact.Begun a) = (activation_is a a).1 refl
fact_itself (fact.Opened a) = (activation_is a a).1 refl
fact_itself (fact.Given a t) = both_so (activation_eq.it a a) (label_eq.it t t) ((activation_is a a).1 refl) (exact_label.itself t)
fact_itself (fact.Made n) = exact_label.itself n
fact_itself (fact.Captured n t) = both_so (label_eq.it n n) (label_eq.it t t) (exact_label.itself n) (exact_label.itself t)
fact_itself (fact.Audition n) = exact_label.itself n

pub exact_fact : IsExact fact_eq.it
exact_fact = record { same = fact_same; itself = fact_itself }

pub exact_activation : IsExact activation_eq.it
exact_activation = record { same = λ a b h. (activation_is a b).0 h; itself = λ a. (activation_is a a).1 refl }
