-- Links lead on as the lines say.
use Rattle.std.proofs.Common.{◌≡◌, ℕ, zero, suc, ◌+◌, arith, List, [], ◌∷◌, ◌++◌, map, take, slice_get, Some, append_assoc, refl, sym, ap, subst, ◌∙◌, inl, inr}
use Rattle.std.proofs.lemmas.List.{append-nil, map-append}
use Rattle.def_event.specs.declared.shown.Shown.{Shown}
use Rattle.def_event.specs.declared.event.Event.{Event}
use Rattle.def_event.specs.Uses as uses
use Rattle.def_event.specs.Uses.{IsAmong, IsLead, Lead, Line, Thing, led, leads, things, things_of}
use Rattle.ev_links.specs.declared.label.Label.{Label}
use Rattle.ev_links.specs.declared.links.Link.{Link}
use Rattle.ev_links.specs.declared.links.Way.{Way}
use Rattle.ev_links.specs.Label.{label}
use Rattle.ev_known.specs.Leads.{way_of}
use Rattle.ev_links.specs.Links.{Adds, row}
use Rattle.ev_links.proofs.Among.{among_left, among_right, among_cases}
use Rattle.ev_uses.specs.Onward.{AddsOnward, LeadsTo, OnwardStand, forward}

abbrev Rows : Type 0
Rows = List (Label × List Link)

pub one_led : (from : Label) (way : Way) (to : Label) (old new : Rows) → Adds from (record { way = way; other = to }) old new → LeadsTo from way (to ∷ []) old new
one_led from way to old new h = record {
  each = λ j l. (
    λ a. elim ((h j l).0 a) [ inl b ↦ inl b | inr e ↦ inr (to, inl refl, e.0, e.1) ],
    λ a. (h j l).1 (elim a [
      | inl b ↦ inl b
      | inr e ↦ elim e.1 [
        | inl i ↦ inr (e.2, ap (λ (t : Label). record { way = way; other = t }) i ∙ e.3)
        | inr n ↦ absurd n
      ]
    ]),
  );
}

pub none_led : (from : Label) (way : Way) (rows : Rows) → LeadsTo from way [] rows rows
none_led from way rows = record { each = λ j l. (λ a. inl a, λ a. elim a [ inl b ↦ b | inr e ↦ absurd e.1 ]) }

more_led : (from : Label) (way : Way) (ts us : List Label) (old mid new : Rows) → LeadsTo from way ts old mid → LeadsTo from way us mid new → LeadsTo from way (ts ++ us) old new
more_led from way ts us old mid new h k = record {
  each = λ j l. (
    λ a. elim ((k.each j l).0 a) [
      | inl b ↦ elim ((h.each j l).0 b) [ inl c ↦ inl c | inr e ↦ inr (e.0, among_left e.0 ts us e.1, e.2, e.3) ]
      | inr e ↦ inr (e.0, among_right e.0 ts us e.1, e.2, e.3)
    ],
    λ a. elim a [
      | inl b ↦ (k.each j l).1 (inl ((h.each j l).1 (inl b)))
      | inr e ↦ elim (among_cases e.0 ts us e.1) [
        | inl c ↦ (k.each j l).1 (inl ((h.each j l).1 (inr (e.0, c, e.2, e.3))))
        | inr c ↦ (k.each j l).1 (inr (e.0, c, e.2, e.3))
      ]
    ],
  );
}

things_take : (xs : List Shown) (i : ℕ) (x : Shown) → slice_get xs i ≡ Some x → things (take (suc i) xs) ≡ things (take i xs) ++ things_of x
things_take [] i x e = absurd cc
things_take (y ∷ xs) zero x e = let same : y ≡ x = cc in append-nil (things_of y) ∙ ap things_of same
things_take (y ∷ xs) (suc i) x e =
    ap (λ (ts : List Thing). things_of y ++ ts) (things_take xs i x e) ∙ sym (append_assoc (things_of y) (things (take i xs)) (things_of x))

pub next_led : (from : Label) (way : Way) (xs : List Shown) (i : ℕ) (x : Shown) (old mid new : Rows) → slice_get xs i ≡ Some x → LeadsTo from way (map label (things (take i xs))) old mid
    → LeadsTo from way (map label (things_of x)) mid new → LeadsTo from way (map label (things (take (i + 1) xs))) old new
next_led from way xs i x old mid new e h k =
    let next : suc i ≡ i + 1 = omega arith in
    subst (λ (ts : List Label). LeadsTo from way ts old new)
    (sym (map-append label (things (take i xs)) (things_of x)) ∙ ap (map label) (sym (things_take xs i x e)) ∙ ap (λ (n : ℕ). map label (things (take n xs))) next)
    (more_led from way (map label (things (take i xs))) (map label (things_of x)) old mid new h k)

-- ---- leads

among_led : (w : uses.Way) (f : Thing) (l : Label) (ts : List Thing) → IsAmong l (map label ts) → (d : Lead) × IsAmong d (led w f ts) × (d.way ≡ w) × (d.from ≡ f) × (label d.to ≡ l)
among_led w f l [] h = absurd h
among_led w f l (t ∷ ts) (inl e) = (record { way = w; from = f; to = t }, inl refl, refl, refl, e)
among_led w f l (t ∷ ts) (inr h) = let r = among_led w f l ts h in (r.0, inr r.1, r.2, r.3, r.4)

led_among : (w : uses.Way) (f : Thing) (d : Lead) (ts : List Thing) → IsAmong d (led w f ts) → IsAmong (label d.to) (map label ts) × (d.way ≡ w) × (d.from ≡ f)
led_among w f d [] h = absurd h
led_among w f d (t ∷ ts) (inl e) = (inl (ap (λ (x : Lead). label x.to) e), sym (ap (λ (x : Lead). x.way) e), sym (ap (λ (x : Lead). x.from) e))
led_among w f d (t ∷ ts) (inr h) = let r = led_among w f d ts h in (inr r.0, r.1, r.2)

pub leads_onward : (w : uses.Way) (f : Thing) (ts : List Thing) (from : Label) (way : Way) (old new : Rows) → LeadsTo from way (map label ts) old new → from ≡ label f → way ≡ way_of w
    → AddsOnward (led w f ts) old new
leads_onward w f ts from way old new h is by = record {
  each = λ j l. (
    λ a. elim ((h.each j l).0 a) [
      | inl b ↦ inl b
      | inr e ↦
          let d = among_led w f e.0 ts e.1 in
          let link : forward d.0 ≡ record { way = way; other = e.0 }
          = ap (λ (x : Label). record { way = way_of d.0.way; other = x }) d.4 ∙ ap (λ (x : Way). record { way = x; other = e.0 }) (ap way_of d.2 ∙ sym by) in
          inr (d.0, d.1, ap label d.3 ∙ sym is ∙ e.2, link ∙ e.3)
    ],
    λ a. (h.each j l).1 (elim a [
      | inl b ↦ inl b
      | inr e ↦
          let r = led_among w f e.0 ts e.1 in
          inr (label e.0.to, r.0, is ∙ ap label (sym r.2) ∙ e.2, ap (λ (x : Way). record { way = x; other = label e.0.to }) (by ∙ ap way_of (sym r.1)) ∙ e.3)
    ]),
  );
}

pub no_leads : (rows : Rows) → AddsOnward [] rows rows
no_leads rows = record { each = λ j l. (λ a. inl a, λ a. elim a [ inl b ↦ b | inr e ↦ absurd e.1 ]) }

pub line_leads : (at : ℕ) (e : Event) (past : List Line) (old new : Rows) → AddsOnward (leads at e) old new → OnwardStand old past → OnwardStand new (record { at = at; event = e } ∷ past)
unfolding IsLead
line_leads at e past old new h k = record {
  each = λ j l. (
    λ a. elim ((h.each j l).0 a) [
      | inl b ↦ let d = (k.each j l).0 b in (d.0, inl d.1, d.2, d.3)
      | inr d ↦ (d.0, inr d.1, d.2, d.3)
    ],
    λ a. (h.each j l).1 (elim a.1 [
      | inl b ↦ inl ((k.each j l).1 (a.0, b, a.2, a.3))
      | inr b ↦ inr (a.0, b, a.2, a.3)
    ]),
  );
}

pub none_lead : OnwardStand [] []
unfolding IsLead row
none_lead = record { each = λ j l. (λ a. absurd a, λ a. absurd a.1) }
