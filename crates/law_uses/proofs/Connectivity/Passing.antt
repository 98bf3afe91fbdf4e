-- How arguments pass and come, where a vat has more to show.
use Rattle.std.proofs.Common.{◌≡◌, ℕ, List, [], ◌∷◌, ◌++◌, ◌⊎◌, inl, inr}
use Rattle.std.specs.Prelude.{codes}
use Rattle.def_machine.specs.Values.{Value, Null, Flag, Number, Letter, Text, Prim, Broken, Items, Ref, Name}
use Rattle.def_machine.specs.State.{Passed, Passeds, Plain, AGift, Many, NoMore, More, Happened, Settles, Views}
use Rattle.law_uses.specs.Connectivity.Known.{AllOf}
use Rattle.law_uses.specs.Connectivity.Stems.{LeadsTo, itself, settled, viewed, IsTooHeavy, PassesPlain, PassesAs, PassAll, ComesAs, ComeAll}

pub all_map : {A : Type 0} (P Q : A → Type 0) → ((a : A) → P a → Q a) → (xs : List A) → AllOf P xs → AllOf Q xs
all_map P Q f [] h = tt
all_map P Q f (x ∷ xs) h = (f x h.0, all_map P Q f xs h.1)

pub all_end : {A : Type 0} (P : A → Type 0) (xs : List A) (x : A) → AllOf P xs → P x → AllOf P (xs ++ x ∷ [])
all_end P [] x h i = (i, tt)
all_end P (y ∷ xs) x h i = (h.0, all_end P xs x h.1 i)

-- what a line of settling or viewing shows, a line of the other sort shows
abbrev pub Kept : (Happened Name → Type 0) → (Happened Name → Type 0) → Type 0
Kept line more = ((n : Name) (y : Value Name) → line (Settles n y) → more (Settles n y)) × ((n q : Name) → line (Views n q) → more (Views n q))

pub kept_all : (line more : Happened Name → Type 0) → ((e : Happened Name) → line e → more e) → Kept line more
kept_all line more f = (λ n y. f (Settles n y), λ n q. f (Views n q))

module _ (line more : Happened Name → Type 0) (f : Kept line more) where
  pub leads_map : (x y : Value Name) → LeadsTo line x y → LeadsTo more x y
  leads_map x y itself = itself
  leads_map x z (settled n y i l) = settled n y (f.0 n y i) (leads_map y z l)
  leads_map x z (viewed n q i l) = viewed n q (f.1 n q i) (leads_map (Ref q) z l)

  module _ (list lists : ℕ → List (Value Name) → Type 0) (g : (k : ℕ) (vs : List (Value Name)) → list k vs → lists k vs)
      (opened opens : ℕ → ℕ → Name → Type 0) (h : (w i : ℕ) (n : Name) → opened w i n → opens w i n)
      (gone goes : Name → Type 0) (q : (n : Name) → gone n → goes n) where
    heavy_map : (k : ℕ) → IsTooHeavy line list opened gone k → IsTooHeavy more lists opens goes k
    heavy_map k t = record { followed = t.followed; lists = t.lists; leads = λ x. either x (t.leads x); there = λ j vs e. g j vs (t.there j vs e); heavy = t.heavy }
      where
        either : (x : Value Name) → LeadsTo line x (t.followed x) ⊎ ((n : Name) × LeadsTo line x (Ref n) × gone n × (t.followed x ≡ Broken (codes "partition"))) → LeadsTo more x (t.followed x) ⊎ ((n : Name) × LeadsTo more x (Ref n) × goes n × (t.followed x ≡ Broken (codes "partition")))
        either x (inl l) = inl (leads_map x (t.followed x) l)
        either x (inr l) = inr (l.0, leads_map x (Ref l.0) l.1, q l.0 l.2, l.3)

    plain_map : (x y : Value Name) → PassesPlain line list opened gone x y → PassesPlain more lists opens goes x y
    plain_map x (Broken p) (inl i) = inl (leads_map x (Broken p) i)
    plain_map x (Broken p) (inr (inl i)) = inr (inl (i.0, leads_map x (Ref i.0) i.1, q i.0 i.2, i.3))
    plain_map x (Broken p) (inr (inr i)) = inr (inr (i.0, leads_map x (Items i.0) i.1, heavy_map i.0 i.2, i.3))
    plain_map x (Items k) i = i
    plain_map x (Ref n) i = leads_map x (Ref n) i
    plain_map x Null i = leads_map x Null i
    plain_map x (Flag b) i = leads_map x (Flag b) i
    plain_map x (Number z) i = leads_map x (Number z) i
    plain_map x (Letter c) i = leads_map x (Letter c) i
    plain_map x (Text t) i = leads_map x (Text t) i
    plain_map x (Prim j) i = leads_map x (Prim j) i

    either_list : (k : ℕ) (vs : List (Value Name)) → list k vs ⊎ (vs ≡ []) → lists k vs ⊎ (vs ≡ [])
    either_list k vs (inl e) = inl (g k vs e)
    either_list k vs (inr e) = inr e

    mutual
      pub passes_map : (x : Value Name) (y : Passed Name) → PassesAs line list opened gone x y → PassesAs more lists opens goes x y
      passes_map x (Plain y) i = plain_map x y i
      passes_map x (AGift w k) i = (i.0, leads_map x (Ref i.0) i.1, h w k i.0 i.2)
      passes_map x (Many ys) i = (i.0, i.1, leads_map x (Items i.0) i.2, either_list i.0 i.1 i.3, pass_all_map i.1 ys i.4)

      pub pass_all_map : (xs : List (Value Name)) (ys : Passeds Name) → PassAll line list opened gone xs ys → PassAll more lists opens goes xs ys
      pass_all_map [] NoMore i = tt
      pass_all_map (x ∷ xs) (More y ys) i = (passes_map x y i.0, pass_all_map xs ys i.1)
      pass_all_map [] (More y ys) i = absurd i
      pass_all_map (x ∷ xs) NoMore i = absurd i

module _ (line : Happened Name → Type 0) where
  pub leads_on : (x y z : Value Name) → LeadsTo line x y → LeadsTo line y z → LeadsTo line x z
  leads_on x y z itself k = k
  leads_on x y z (settled n v i l) k = settled n v i (leads_on v y z l k)
  leads_on x y z (viewed n q i l) k = viewed n q i (leads_on (Ref q) y z l k)

  plain_on : (list : ℕ → List (Value Name) → Type 0) (opened : ℕ → ℕ → Name → Type 0) (gone : Name → Type 0) (x y z : Value Name) → LeadsTo line x y → PassesPlain line list opened gone y z → PassesPlain line list opened gone x z
  plain_on list opened gone x y (Broken p) l (inl h) = inl (leads_on x y (Broken p) l h)
  plain_on list opened gone x y (Broken p) l (inr (inl h)) = inr (inl (h.0, leads_on x y (Ref h.0) l h.1, h.2, h.3))
  plain_on list opened gone x y (Broken p) l (inr (inr h)) = inr (inr (h.0, leads_on x y (Items h.0) l h.1, h.2, h.3))
  plain_on list opened gone x y (Items k) l h = h
  plain_on list opened gone x y (Ref n) l h = leads_on x y (Ref n) l h
  plain_on list opened gone x y Null l h = leads_on x y Null l h
  plain_on list opened gone x y (Flag b) l h = leads_on x y (Flag b) l h
  plain_on list opened gone x y (Number z) l h = leads_on x y (Number z) l h
  plain_on list opened gone x y (Letter c) l h = leads_on x y (Letter c) l h
  plain_on list opened gone x y (Text t) l h = leads_on x y (Text t) l h
  plain_on list opened gone x y (Prim i) l h = leads_on x y (Prim i) l h

  pub passes_on : (list : ℕ → List (Value Name) → Type 0) (opened : ℕ → ℕ → Name → Type 0) (gone : Name → Type 0) (x y : Value Name) (z : Passed Name) → LeadsTo line x y → PassesAs line list opened gone y z → PassesAs line list opened gone x z
  passes_on list opened gone x y (Plain z) l h = plain_on list opened gone x y z l h
  passes_on list opened gone x y (AGift w i) l h = (h.0, leads_on x y (Ref h.0) l h.1, h.2)
  passes_on list opened gone x y (Many zs) l h = (h.0, h.1, leads_on x y (Items h.0) l h.2, h.3, h.4)

module _ (list lists : ℕ → List (Value Name) → Type 0) (g : (k : ℕ) (vs : List (Value Name)) → list k vs → lists k vs) where
  mutual
    pub comes_map : (y : Passed Name) (v : Value Name) → ComesAs list y v → ComesAs lists y v
    comes_map (Many ys) v h = (h.0, h.1, h.2, g h.0 h.1 h.3, come_all_map ys h.1 h.4)
    comes_map other v h = h

    pub come_all_map : (ys : Passeds Name) (vs : List (Value Name)) → ComeAll list ys vs → ComeAll lists ys vs
    come_all_map NoMore [] h = tt
    come_all_map (More y ys) (v ∷ vs) h = (comes_map y v h.0, come_all_map ys vs h.1)
    come_all_map NoMore (v ∷ vs) h = absurd h
    come_all_map (More y ys) [] h = absurd h
