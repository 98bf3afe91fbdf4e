-- What is known by some lines is known by more, so what was found stays found.
use Rattle.std.proofs.Common.{◌≡◌, true, List, [], ◌∷◌, refl, inl, inr, rules}
use Rattle.std.specs.Prelude.{◌⊎◌, ◌↔◌, IsTrue}
use Rattle.def_event.specs.declared.event.Event.{Event}
use Rattle.def_event.specs.Uses as uses
use Rattle.def_event.specs.Uses.{Has, IsAmong, IsLead, IsOpenAt, IsTold, Knows, Line, Reaches, Thing, Way, start, onward}
use Rattle.ev_known.specs.declared.found.Finding.{Finding}
use Rattle.ev_known.specs.contracts.found.FindingPartialEq.TheImpl.{eq-value}
use Rattle.ev_known.specs.Found.{FoundStand, is_found, with_found}
use Rattle.ev_links.proofs.Among.{IsExact, any_among, inserted}

-- ---- one line more

has_grows : (l : Line) (past : List Line) (a : uses.Activation) (t : Thing) → Has past a t → Has (l ∷ past) a t
unfolding IsTold
has_grows l past a t (inl h) = inl (h.0, inl h.1)
has_grows l past a t (inr (inl h)) = inr (inl (inl h))
has_grows l past a t (inr (inr h)) = inr (inr (h.0, inl h.1, inl h.2))

pub knows_grows : (l : Line) (past : List Line) (a : uses.Activation) (t : Thing) → Knows past a t → Knows (l ∷ past) a t
unfolding IsLead
knows_grows l past a t (start h) = start (has_grows l past a t h)
knows_grows l past a t (onward d lead gone rest) = onward d (inl lead) gone (knows_grows l past a d.from rest)

pub found_grows : (at : _) (e : Event) (ks : List Finding) (past : List Line) → FoundStand ks past → FoundStand ks (record { at = at; event = e } ∷ past)
found_grows at e ks past h = record { each = λ a t i. knows_grows (record { at = at; event = e }) past a t (h.each a t i) }

pub nothing_found : (past : List Line) → FoundStand [] past
nothing_found past = record { each = λ a t i. absurd i }

-- ---- the set

finding_is : (a b : Finding) → IsTrue (eq-value.it a b) ↔ (a ≡ b)
finding_is a b = search rules

exact_finding : IsExact eq-value.it
exact_finding = record { same = λ a b h. (finding_is a b).0 h; itself = λ a. (finding_is a a).1 refl }

pub found_among : (ks : List Finding) (k : Finding) → is_found ks k ≡ true → IsAmong k ks
unfolding is_found
found_among ks k h = any_among eq-value.it exact_finding k ks h

pub among_more : (x k : Finding) (ks : List Finding) → IsAmong x (with_found ks k) ↔ (IsAmong x ks ⊎ (k ≡ x))
unfolding with_found
among_more x k ks = inserted eq-value.it exact_finding x k ks
