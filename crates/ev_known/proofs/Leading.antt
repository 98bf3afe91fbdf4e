-- Links stand for what the lines say of what leads to what.
use Rattle.std.proofs.Common.{◌≡◌, ℕ, zero, suc, ◌+◌, arith, List, [], ◌∷◌, ◌++◌, map, take, slice_get, Some, append_assoc, refl, sym, ap, subst, ◌∙◌, inl, inr}
use Rattle.std.proofs.lemmas.List.{append-nil}
use Rattle.def_event.specs.declared.shown.Shown.{Shown}
use Rattle.def_event.specs.declared.event.Event.{Event}
use Rattle.def_event.specs.Uses as uses
use Rattle.def_event.specs.Uses.{IsAmong, IsLead, Lead, Line, Thing, led, leads, things, things_of}
use Rattle.ev_links.specs.declared.label.Label.{Label}
use Rattle.ev_links.specs.declared.links.Link.{Link}
use Rattle.ev_links.specs.Label.{label}
use Rattle.ev_links.specs.Links.{Adds, row}
use Rattle.ev_known.specs.Leads.{AddsEach, AddsLeads, LinksStand, backward}
use Rattle.ev_links.proofs.Among.{among_left, among_right, among_cases}

abbrev Rows : Type 0
Rows = List (Label × List Link)

pub one_added : (link : Link) (to : Label) (old new : Rows) → Adds to link old new → AddsEach link (to ∷ []) old new
one_added link to old new h = record {
  each = λ j l. (
    λ a. elim ((h j l).0 a) [ inl b ↦ inl b | inr e ↦ inr (inl e.0, e.1) ],
    λ a. (h j l).1 (elim a [ inl b ↦ inl b | inr e ↦ elim e.0 [ inl i ↦ inr (i, e.1) | inr n ↦ absurd n ] ]),
  );
}

pub none_added : (link : Link) (rows : Rows) → AddsEach link [] rows rows
none_added link rows = record { each = λ j l. (λ a. inl a, λ a. elim a [ inl b ↦ b | inr e ↦ absurd e.0 ]) }

pub more_added : (link : Link) (ts us : List Label) (old mid new : Rows) → AddsEach link ts old mid → AddsEach link us mid new → AddsEach link (ts ++ us) old new
more_added link ts us old mid new h k = record {
  each = λ j l. (
    λ a. elim ((k.each j l).0 a) [
      | inl b ↦ elim ((h.each j l).0 b) [ inl c ↦ inl c | inr e ↦ inr (among_left j ts us e.0, e.1) ]
      | inr e ↦ inr (among_right j ts us e.0, e.1)
    ],
    λ a. elim a [
      | inl b ↦ (k.each j l).1 (inl ((h.each j l).1 (inl b)))
      | inr e ↦ elim (among_cases j ts us e.0) [
        | inl c ↦ (k.each j l).1 (inl ((h.each j l).1 (inr (c, e.1))))
        | inr c ↦ (k.each j l).1 (inr (c, e.1))
      ]
    ],
  );
}

labels_append : (ts us : List Thing) → map label (ts ++ us) ≡ map label ts ++ map label us
labels_append [] us = refl
labels_append (t ∷ ts) us = ap (λ (ls : List Label). label t ∷ ls) (labels_append ts us)

things_take : (xs : List Shown) (i : ℕ) (x : Shown) → slice_get xs i ≡ Some x → things (take (suc i) xs) ≡ things (take i xs) ++ things_of x
things_take [] i x e = absurd cc
things_take (y ∷ xs) zero x e = let same : y ≡ x = cc in append-nil (things_of y) ∙ ap things_of same
things_take (y ∷ xs) (suc i) x e =
    ap (λ (ts : List Thing). things_of y ++ ts) (things_take xs i x e) ∙ sym (append_assoc (things_of y) (things (take i xs)) (things_of x))

pub next_added : (link : Link) (xs : List Shown) (i : ℕ) (x : Shown) (old mid new : Rows) → slice_get xs i ≡ Some x → AddsEach link (map label (things (take i xs))) old mid
    → AddsEach link (map label (things_of x)) mid new → AddsEach link (map label (things (take (i + 1) xs))) old new
next_added link xs i x old mid new e h k =
    let next : suc i ≡ i + 1 = omega arith in
    subst (λ (ts : List Label). AddsEach link ts old new)
    (sym (labels_append (things (take i xs)) (things_of x)) ∙ ap (map label) (sym (things_take xs i x e)) ∙ ap (λ (n : ℕ). map label (things (take n xs))) next)
    (more_added link (map label (things (take i xs))) (map label (things_of x)) old mid new h k)

-- ---- leads

label_among : (j : Label) (ts : List Thing) → IsAmong j (map label ts) → (t : Thing) × IsAmong t ts × (label t ≡ j)
label_among j [] h = absurd h
label_among j (t ∷ ts) (inl e) = (t, inl refl, e)
label_among j (t ∷ ts) (inr h) = let r = label_among j ts h in (r.0, inr r.1, r.2)

led_among : (w : uses.Way) (f t : Thing) (ts : List Thing) → IsAmong t ts → IsAmong (record { way = w; from = f; to = t }) (led w f ts)
led_among w f t [] h = absurd h
led_among w f t (u ∷ ts) (inl e) = inl (ap (λ (x : Thing). record { way = w; from = f; to = x }) e)
led_among w f t (u ∷ ts) (inr h) = inr (led_among w f t ts h)

among_led : (w : uses.Way) (f : Thing) (d : Lead) (ts : List Thing) → IsAmong d (led w f ts) → IsAmong (label d.to) (map label ts) × (record { way = w; from = f; to = d.to } ≡ d)
among_led w f d [] h = absurd h
among_led w f d (t ∷ ts) (inl e) =
    (inl (ap (λ (x : Lead). label x.to) e), subst (λ (x : Lead). record { way = w; from = f; to = x.to } ≡ x) e refl)
among_led w f d (t ∷ ts) (inr h) = let r = among_led w f d ts h in (inr r.0, r.1)

pub led_added : (w : uses.Way) (f : Thing) (ts : List Thing) (link : Link) (old new : Rows) → AddsEach link (map label ts) old new → link ≡ backward (record { way = w; from = f; to = f })
    → AddsLeads (led w f ts) old new
led_added w f ts link old new h is = record {
  each = λ j l. (
    λ a. elim ((h.each j l).0 a) [
      | inl b ↦ inl b
      | inr e ↦ let t = label_among j ts e.0 in inr (record { way = w; from = f; to = t.0 }, led_among w f t.0 ts t.1, t.2, sym is ∙ e.1)
    ],
    λ a. (h.each j l).1 (elim a [
      | inl b ↦ inl b
      | inr e ↦
          let r = among_led w f e.0 ts e.1 in
          inr (subst (λ (x : Label). IsAmong x (map label ts)) e.2 r.0, is ∙ ap backward r.1 ∙ e.3)
    ]),
  );
}

pub no_leads : (rows : Rows) → AddsLeads [] rows rows
no_leads rows = record { each = λ j l. (λ a. inl a, λ a. elim a [ inl b ↦ b | inr e ↦ absurd e.1 ]) }

pub line_leads : (at : ℕ) (e : Event) (past : List Line) (old new : Rows) → AddsLeads (leads at e) old new → LinksStand old past → LinksStand new (record { at = at; event = e } ∷ past)
unfolding IsLead
line_leads at e past old new h k = record {
  each = λ j l. (
    λ a. elim ((h.each j l).0 a) [
      | inl b ↦ let d = (k.each j l).0 b in (d.0, inl d.1, d.2, d.3)
      | inr d ↦ (d.0, inr d.1, d.2, d.3)
    ],
    λ a. (h.each j l).1 (elim a.1 [
      | inl b ↦ inl ((k.each j l).1 (a.0, b, a.2, a.3))
      | inr b ↦ inr (a.0, b, a.2, a.3)
    ]),
  );
}

pub none_lead : LinksStand [] []
unfolding IsLead row
none_lead = record { each = λ j l. (λ a. absurd a, λ a. absurd a.1) }
