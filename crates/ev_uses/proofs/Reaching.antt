-- A search along the links finds what the things in a set lead to.
use Rattle.std.proofs.Common.{◌≡◌, true, List, [], ◌∷◌, map, refl, sym, ap, subst, ◌∙◌, inl, inr}
use Rattle.std.specs.Prelude.{◌↔◌}
use Rattle.def_event.specs.Uses as uses
use Rattle.def_event.specs.Uses.{IsAmong, IsListed, Line, Reaches, Thing}
use Rattle.ev_links.specs.declared.label.Label.{Label}
use Rattle.ev_links.specs.declared.links.Link.{Link}
use Rattle.ev_links.specs.declared.links.Scope.{Scope}
use Rattle.ev_links.specs.declared.links.Scope.TheVariants.{All, Lists}
use Rattle.ev_links.specs.Label.{label}
use Rattle.ev_known.specs.Leads.{way_of}
use Rattle.ev_links.specs.Links.{AreReached, IsReached, start, onward, is_open}
use Rattle.ev_known.proofs.Keys.{label_same}
use Rattle.ev_uses.specs.Lines.{AddsThings}
use Rattle.ev_uses.specs.Onward.{OnwardStand, forward}

-- the labels are those of such things
pub record AreLabels (labels : List Label) (Is : Thing → Type 0) : Type 0 where
  pub there : (t : Thing) → Is t → IsAmong (label t) labels
  pub back : (l : Label) → IsAmong l labels → (t : Thing) × (label t ≡ l) × Is t

labels_there : (t : Thing) (ts : List Thing) → IsAmong t ts → IsAmong (label t) (map label ts)
labels_there t [] h = absurd h
labels_there t (u ∷ ts) (inl e) = inl (ap label e)
labels_there t (u ∷ ts) (inr h) = inr (labels_there t ts h)

labels_back : (l : Label) (ts : List Thing) → IsAmong l (map label ts) → (t : Thing) × (label t ≡ l) × IsAmong t ts
labels_back l [] h = absurd h
labels_back l (t ∷ ts) (inl e) = (t, e, inl refl)
labels_back l (t ∷ ts) (inr h) = let r = labels_back l ts h in (r.0, r.1, inr r.2)

pub added_labels : (ts : List Thing) (labels : List Label) → AddsThings ts [] labels → AreLabels labels (λ t. IsAmong t ts)
added_labels ts labels h = record {
  there = λ t i. (h.each (label t)).1 (inr (labels_there t ts i));
  back = λ l i. elim ((h.each l).0 i) [ inl n ↦ absurd n | inr a ↦ labels_back l ts a ];
}

-- what more things lead to is more
pub reaches_more : (past : List Line) (S T : Thing → Type 0) (IsOpen : uses.Way → Type 0) (t : Thing) → ((u : Thing) → S u → T u) → Reaches past S IsOpen t → Reaches past T IsOpen t
reaches_more past S T IsOpen t more (uses.start i) = uses.start (more t i)
reaches_more past S T IsOpen t more (uses.onward d lead gone r) = uses.onward d lead gone (reaches_more past S T IsOpen d.from more r)

-- of two lists with the same labels one has what the other has
pub same_parts : (ts us : List Thing) (ls : List Label) → AddsThings ts [] ls → AddsThings us [] ls → (t : Thing) → IsAmong t ts → IsAmong t us
same_parts ts us ls h g t i =
    let u = (added_labels us ls g).back (label t) ((added_labels ts ls h).there t i) in
    subst (λ (x : Thing). IsAmong x us) (label_same u.0 t u.1) u.2

-- the ways that are open in a scope
pub IsScope : Scope → (uses.Way → Type 0) → Type 0
IsScope scope IsOpen = (w : uses.Way) → IsOpen w ↔ (is_open scope (way_of w) ≡ true)

pub lists_open : IsScope Lists IsListed
unfolding IsScope
lists_open uses.Listed = (λ e. refl, λ e. refl)
lists_open (uses.Settled at) = (λ e. absurd cc, λ e. absurd cc)

pub all_open : IsScope All (λ w. Unit {0})
unfolding IsScope
all_open uses.Listed = (λ e. refl, λ e. tt)
all_open (uses.Settled at) = (λ e. refl, λ e. tt)

module _ (rows : List (Label × List Link)) (past : List Line) (h : OnwardStand rows past) (scope : Scope) (IsOpen : uses.Way → Type 0) (opens : IsScope scope IsOpen) (ts : List Thing) (starts : List Label) (are : AreLabels starts (λ t. IsAmong t ts)) where
  reached_there : (t : Thing) → Reaches past (λ u. IsAmong u ts) IsOpen t → IsReached rows scope starts (label t)
  unfolding IsScope
  reached_there t (uses.start i) = start (are.there t i)
  reached_there t (uses.onward d lead gone r) =
      onward (label d.from) (forward d) ((h.each (label d.from) (forward d)).1 (d, lead, refl, refl)) ((opens d.way).0 gone) (reached_there d.from r)

  pub reached_back : (l : Label) → IsReached rows scope starts l → (t : Thing) × (label t ≡ l) × Reaches past (λ u. IsAmong u ts) IsOpen t
  unfolding IsScope
  reached_back l (start i) = let t = are.back l i in (t.0, t.1, uses.start t.2)
  reached_back l (onward m link there gone r) =
      let t = reached_back m r in
      let d = (h.each m link).0 there in
      let same : d.0.from ≡ t.0 = label_same d.0.from t.0 (d.2 ∙ sym t.1) in
      let open_way : IsOpen d.0.way = (opens d.0.way).1 (ap (λ (x : Link). is_open scope x.way) d.3 ∙ gone) in
      (d.0.to, ap (λ (x : Link). x.other) d.3, uses.onward d.0 d.1 open_way (subst (Reaches past (λ u. IsAmong u ts) IsOpen) (sym same) t.2))

  pub reached_labels : (labels : List Label) → AreReached rows scope starts labels → AreLabels labels (Reaches past (λ t. IsAmong t ts) IsOpen)
  reached_labels labels all = record {
    there = λ t r. (all (label t)).1 (reached_there t r);
    back = λ l i. reached_back l ((all l).0 i);
  }
