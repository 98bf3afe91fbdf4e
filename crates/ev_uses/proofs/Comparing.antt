-- Names are compared by their labels.
use Rattle.std.proofs.Common.{◌≡◌, Bool, true, false, List, [], ◌∷◌, refl, sym, ap, subst, ◌∙◌, inl, inr}
use Rattle.std.specs.Prelude.{◌⊎◌, ◌↔◌, if◌then◌else◌}
use Rattle.ev_base.specs.declared.names.Name.{Name}
use Rattle.ev_base.specs.declared.names.Name.TheVariants.{Object, Own, Answer, Gift, Root, Claimed}
use Rattle.def_event.specs.Uses.{AList, AName, IsAmong, Thing, is_gift}
use Rattle.ev_links.specs.declared.label.Label.{Label}
use Rattle.ev_links.specs.contracts.label.LabelPartialEq.TheImpl.{eq-value}
use Rattle.ev_links.specs.Label.{label}
use Rattle.ev_links.specs.Links.{has_label}
use Rattle.ev_links.proofs.Among.{any_among, among_any}
use Rattle.ev_known.proofs.Keys.{label_same}
use Rattle.ev_links.proofs.Spreading.{exact_label}
use Rattle.ev_uses.specs.declared.sought.Sought.{Sought}
use Rattle.ev_uses.specs.declared.sought.Sought.TheVariants.{Names, NoGifts}
use Rattle.ev_uses.specs.Sought.{has_sought, is_sought}
use Rattle.ev_uses.proofs.Reaching.{AreLabels}

-- ---- labels

label_there : (l : Label) (ls : List Label) → has_label ls l ≡ true → IsAmong l ls
unfolding has_label
label_there l ls h = any_among eq-value.it exact_label l ls h

there_label : (l : Label) (ls : List Label) → IsAmong l ls → has_label ls l ≡ true
unfolding has_label
there_label l ls h = among_any eq-value.it exact_label l ls h

first_if : (sought has rest : Bool) → (if sought then (if has then rest else false) else rest) ≡ true → (sought ≡ true → has ≡ true) × (rest ≡ true)
first_if true true rest h = (λ s. refl, h)
first_if true false rest h = absurd cc
first_if false has rest h = (λ s. absurd cc, h)

if_first : (sought has rest : Bool) → (sought ≡ true → has ≡ true) → rest ≡ true → (if sought then (if has then rest else false) else rest) ≡ true
if_first true true rest f h = h
if_first true false rest f h = f refl
if_first false has rest f h = h

module _ (s : Sought) (ls : List Label) where
  sought_there : (os : List Label) → has_sought s ls os ≡ true → (o : Label) → IsAmong o os → is_sought s o ≡ true → IsAmong o ls
  sought_there [] h o i e = absurd i
  sought_there (x ∷ os) h o (inl same) e =
      label_there o ls (ap (has_label ls) (sym same) ∙ (first_if (is_sought s x) (has_label ls x) (has_sought s ls os) h).0 (ap (is_sought s) same ∙ e))
  sought_there (x ∷ os) h o (inr i) e = sought_there os ((first_if (is_sought s x) (has_label ls x) (has_sought s ls os) h).1) o i e

  there_sought : (os : List Label) → ((o : Label) → IsAmong o os → is_sought s o ≡ true → IsAmong o ls) → has_sought s ls os ≡ true
  there_sought [] h = refl
  there_sought (x ∷ os) h =
      if_first (is_sought s x) (has_label ls x) (has_sought s ls os) (λ e. there_label x ls (h x (inl refl) e)) (there_sought os (λ o i e. h o (inr i) e))

-- ---- names

-- a thing whose label is sought is a name
sought_name : (s : Sought) (t : Thing) → is_sought s (label t) ≡ true → (n : Name) × (t ≡ AName n)
unfolding label
sought_name s (AName n) h = (n, refl)
sought_name s (AList v n) h = absurd cc

module _ (s : Sought) (ls os : List Label) (Is Other : Thing → Type 0) (are : AreLabels ls Is) (others : AreLabels os Other) where
  sought_so : has_sought s ls os ≡ true → (n : Name) → Other (AName n) → is_sought s (label (AName n)) ≡ true → Is (AName n)
  sought_so h n is e =
      let t = are.back (label (AName n)) (sought_there s ls os h (label (AName n)) (others.there (AName n) is) e) in
      subst Is (label_same t.0 (AName n) t.1) t.2

  so_sought : ((n : Name) → Other (AName n) → is_sought s (label (AName n)) ≡ true → Is (AName n)) → has_sought s ls os ≡ true
  so_sought h = there_sought s ls os (λ o i e.
      let t = others.back o i in
      let e' : is_sought s (label t.0) ≡ true = ap (is_sought s) t.1 ∙ e in
      let n = sought_name s t.0 e' in
      let is : Other (AName n.0) = subst Other n.1 t.2 in
      let same : label (AName n.0) ≡ o = ap label (sym n.1) ∙ t.1 in
      subst (λ (l : Label). IsAmong l ls) same (are.there (AName n.0) (h n.0 is (ap (is_sought s) same ∙ e))))

each_sought : (n : Name) → is_sought Names (label (AName n)) ≡ true
unfolding label
each_sought (Object v n) = refl
each_sought (Own v n) = refl
each_sought (Answer v m) = refl
each_sought (Gift v n) = refl
each_sought (Root v) = refl
each_sought (Claimed v p word) = refl

gift_or_sought : (n : Name) → (is_gift n ≡ true) ⊎ (is_sought NoGifts (label (AName n)) ≡ true)
unfolding label is_gift
gift_or_sought (Object v n) = inr refl
gift_or_sought (Own v n) = inr refl
gift_or_sought (Answer v m) = inr refl
gift_or_sought (Gift v n) = inl refl
gift_or_sought (Root v) = inr refl
gift_or_sought (Claimed v p word) = inl refl

no_gift_sought : (n : Name) → is_gift n ≡ true → is_sought NoGifts (label (AName n)) ≡ true → ⊥
unfolding label is_gift
no_gift_sought (Object v n) g e = absurd cc
no_gift_sought (Own v n) g e = absurd cc
no_gift_sought (Answer v m) g e = absurd cc
no_gift_sought (Gift v n) g e = absurd cc
no_gift_sought (Root v) g e = absurd cc
no_gift_sought (Claimed v p word) g e = absurd cc

module _ (ls os : List Label) (Is Other : Thing → Type 0) (are : AreLabels ls Is) (others : AreLabels os Other) where
  -- all that are no gifts are there
  pub no_gifts : (has_sought NoGifts ls os ≡ true) ↔ ((n : Name) → Other (AName n) → (is_gift n ≡ true) ⊎ Is (AName n))
  no_gifts = (
    λ h n is. elim (gift_or_sought n) [ inl g ↦ inl g | inr e ↦ inr (sought_so NoGifts ls os Is Other are others h n is e) ],
    λ h. so_sought NoGifts ls os Is Other are others (λ n is e. elim (h n is) [ inl g ↦ absurd (no_gift_sought n g e) | inr x ↦ x ]),
  )

  all_names : has_sought Names ls os ≡ true → (n : Name) → Other (AName n) → Is (AName n)
  all_names h n is = sought_so Names ls os Is Other are others h n is (each_sought n)

  names_all : ((n : Name) → Other (AName n) → Is (AName n)) → has_sought Names ls os ≡ true
  names_all h = so_sought Names ls os Is Other are others (λ n is e. h n is)

-- the same names are in both
pub same_names : (ls os : List Label) (Is Other : Thing → Type 0) → AreLabels ls Is → AreLabels os Other → has_sought Names os ls ≡ true
    → (has_sought Names ls os ≡ true) ↔ ((n : Name) → Is (AName n) ↔ Other (AName n))
same_names ls os Is Other are others first = (
  λ h n. (all_names os ls Other Is others are first n, all_names ls os Is Other are others h n),
  λ same. names_all ls os Is Other are others (λ n. (same n).1),
)

pub other_names : (ls os : List Label) (Is Other : Thing → Type 0) → AreLabels ls Is → AreLabels os Other → has_sought Names os ls ≡ false
    → (false ≡ true) ↔ ((n : Name) → Is (AName n) ↔ Other (AName n))
other_names ls os Is Other are others first = (
  λ e. absurd (let bad : false ≡ true = e in cc),
  λ same. (let h = names_all os ls Other Is others are (λ n. (same n).0) in sym first ∙ h),
)
