-- Things are added as labels, and what is left of lists in lists is added in the end.
use Rattle.std.proofs.Common.{◌≡◌, ◌+◌, ◌<◌, List, [], ◌∷◌, ◌++◌, length, map, refl, sym, ap, subst, ◌∙◌, inl, inr, arith}
use Rattle.std.specs.Prelude.{◌⊎◌, ◌↔◌}
use Rattle.std.proofs.lemmas.List.{map-append}
use mathlib.Core.Former.{Count}
use denote.Ref.{Bor}
use Rattle.def_event.specs.declared.shown.Shown.{Shown, Members, Members', Row_of-Shown, end_of-Shown, more_of-Shown, items-the_row-Shown, items_hidden-the_row-Shown-0}
use Rattle.def_event.specs.Uses.{IsAmong, Thing, all_parts, member_parts, parts}
use Rattle.ev_links.specs.declared.label.Label.{Label}
use Rattle.ev_links.specs.Label.{label}
use Rattle.ev_links.specs.Links.{with_label}
use Rattle.ev_links.proofs.Among.{among_left, among_right, among_cases}
use Rattle.ev_links.proofs.Spreading.{among_label}
use Rattle.ev_event.specs.Pending.{open_weight, weight, weights}
use Rattle.ev_event.proofs.ValueLemmas.{open_weight-push, weight_members}
use Rattle.ev_uses.specs.Left.{IsLeft, IsOf, Leaves}
use Rattle.ev_uses.specs.Lines.{AddsThings}

-- ---- things

pub none_added : (ls : List Label) → AddsThings [] ls ls
none_added ls = record { each = λ l. (λ h. inl h, λ h. elim h [ inl a ↦ a | inr n ↦ absurd n ]) }

pub one_added : (t : Thing) (k : Label) (old new : List Label) → k ≡ label t → new ≡ with_label old k → AddsThings (t ∷ []) old new
one_added t k old new is put = record {
  each = λ l.
      let both = among_label l k old in (
        λ h. elim (both.0 (subst (IsAmong l) put h)) [ inl a ↦ inl a | inr e ↦ inr (inl (sym is ∙ e)) ],
        λ h. subst (IsAmong l) (sym put) (both.1 (elim h [ inl a ↦ inl a | inr i ↦ elim i [ inl e ↦ inr (is ∙ e) | inr n ↦ absurd n ] ])),
      );
}

-- what is labelled in two lists of things
pub in_either : (l : Label) (ts us : List Thing) → IsAmong l (map label (ts ++ us)) ↔ (IsAmong l (map label ts) ⊎ IsAmong l (map label us))
in_either l ts us =
    let is = map-append label ts us in (
      λ h. among_cases l (map label ts) (map label us) (subst (IsAmong l) is h),
      λ h. subst (IsAmong l) (sym is) (elim h [ inl a ↦ among_left l (map label ts) (map label us) a | inr b ↦ among_right l (map label ts) (map label us) b ]),
    )

pub both_added : (ts us : List Thing) (old mid new : List Label) → AddsThings ts old mid → AddsThings us mid new → AddsThings (ts ++ us) old new
both_added ts us old mid new h k = record {
  each = λ l.
      let either = in_either l ts us in (
        λ a. elim ((k.each l).0 a) [
          | inl b ↦ elim ((h.each l).0 b) [ inl c ↦ inl c | inr d ↦ inr (either.1 (inl d)) ]
          | inr d ↦ inr (either.1 (inr d))
        ],
        λ a. (k.each l).1 (elim a [
          | inl b ↦ inl ((h.each l).1 (inl b))
          | inr d ↦ elim (either.0 d) [ inl c ↦ inl ((h.each l).1 (inr c)) | inr c ↦ inr c ]
        ]),
      );
}

-- ---- the members of a list in a note

abbrev row_of : Shown → (n : Count) × Row_of-Shown n
row_of (Members' _ row) = (_, row)
row_of _ = (_, end_of-Shown)

of_row : (n : _) (row : Row_of-Shown n) → member_parts row ≡ all_parts (items-the_row-Shown n row)
of_row n end_of-Shown = refl
of_row n (more_of-Shown x rest) = ap (λ (ts : List Thing). parts x ++ ts) (of_row _ rest)

pub parts_members : (xs : List Shown) → parts (Members xs) ≡ all_parts xs
parts_members xs =
    let row = row_of (Members xs) in
    of_row row.0 row.1 ∙ ap all_parts (items_hidden-the_row-Shown-0 xs)

pub members_added : (x : Shown) (members : List Shown) (old new : List Label) → x ≡ Members members → AddsThings (all_parts members) old new → AddsThings (parts x) old new
members_added x members old new is h = subst (λ (ts : List Thing). AddsThings ts old new) (sym (ap parts is ∙ parts_members members)) h

-- ---- what is left

abbrev Lists : Type 0
Lists = List (Bor (List Shown))

left_push : (l : Label) (lists : Lists) (t : Bor (List Shown)) → IsLeft l (lists ++ t ∷ []) ↔ (IsLeft l lists ⊎ IsOf l t.now)
left_push l [] t = (λ h. elim h [ inl a ↦ inr a | inr n ↦ absurd n ], λ h. elim h [ inl n ↦ absurd n | inr a ↦ inl a ])
left_push l (rest ∷ lists) t =
    let more = left_push l lists t in (
      λ h. elim h [ inl a ↦ inl (inl a) | inr b ↦ elim (more.0 b) [ inl c ↦ inl (inr c) | inr c ↦ inr c ] ],
      λ h. elim h [ inl a ↦ elim a [ inl b ↦ inl b | inr b ↦ inr (more.1 (inl b)) ] | inr b ↦ inr (more.1 (inr b)) ],
    )

-- nothing stands in front
pub none_leaves : (values : List Shown) (labels : List Label) (lists : Lists) → values ≡ [] → Leaves values labels lists labels lists
none_leaves values labels lists none = record {
  each = λ l. (
    λ h. elim h [ inl a ↦ inl a | inr b ↦ inr (inl b) ],
    λ h. elim h [
      | inl a ↦ inl a
      | inr b ↦ elim b [ inl c ↦ inr c | inr c ↦ absurd (subst (IsOf l) none c) ]
    ],
  );
}

-- a first value, of which something is added at once and something is left
first_leaves : (x : Shown) (more values : List Shown) (rest : Bor (List Shown)) (old new : List Label) (lists pushed after : Lists)
    → values ≡ x ∷ more → rest.now ≡ more → pushed ≡ lists ++ rest ∷ []
    → ((l : Label) → (IsAmong l new ⊎ IsLeft l after) ↔ (IsAmong l old ⊎ (IsLeft l pushed ⊎ IsAmong l (map label (parts x))))) → Leaves values old lists new after
first_leaves x more values rest old new lists pushed after is same put h = record {
  each = λ l.
      let either = in_either l (parts x) (all_parts more) in
      let push = left_push l lists rest in (
        λ a. elim ((h l).0 a) [
          | inl b ↦ inl b
          | inr b ↦ inr (elim b [
            | inl c ↦ elim (push.0 (subst (IsLeft l) put c)) [
              | inl d ↦ inl d
              | inr d ↦ inr (subst (IsOf l) (sym is) (either.1 (inr (subst (IsOf l) same d))))
            ]
            | inr c ↦ inr (subst (IsOf l) (sym is) (either.1 (inl c)))
          ])
        ],
        λ a. (h l).1 (elim a [
          | inl b ↦ inl b
          | inr b ↦ inr (elim b [
            | inl c ↦ inl (subst (IsLeft l) (sym put) (push.1 (inl c)))
            | inr c ↦ elim (either.0 (subst (IsOf l) is c)) [
              | inl d ↦ inr d
              | inr d ↦ inl (subst (IsLeft l) (sym put) (push.1 (inr (subst (IsOf l) (sym same) d))))
            ]
          ])
        ]),
      );
}

pub plain_leaves : (x : Shown) (more values : List Shown) (rest : Bor (List Shown)) (old new : List Label) (lists pushed : Lists)
    → values ≡ x ∷ more → rest.now ≡ more → pushed ≡ lists ++ rest ∷ [] → AddsThings (parts x) old new → Leaves values old lists new pushed
plain_leaves x more values rest old new lists pushed is same put h =
    first_leaves x more values rest old new lists pushed pushed is same put (λ l. (
      λ a. elim a [
        | inl b ↦ elim ((h.each l).0 b) [ inl c ↦ inl c | inr c ↦ inr (inr c) ]
        | inr b ↦ inr (inl b)
      ],
      λ a. elim a [
        | inl b ↦ inl ((h.each l).1 (inl b))
        | inr b ↦ elim b [ inl c ↦ inr c | inr c ↦ inl ((h.each l).1 (inr c)) ]
      ],
    ))

pub members_leave : (x : Shown) (more values members : List Shown) (rest inner : Bor (List Shown)) (old new : List Label) (lists pushed after : Lists)
    → values ≡ x ∷ more → rest.now ≡ more → pushed ≡ lists ++ rest ∷ [] → new ≡ old → x ≡ Members members → inner.now ≡ members → after ≡ pushed ++ inner ∷ []
    → Leaves values old lists new after
members_leave x more values members rest inner old new lists pushed after is same put kept list inside put_inside =
    first_leaves x more values rest old new lists pushed after is same put (λ l.
    let push = left_push l pushed inner in
    let same_things : parts x ≡ all_parts inner.now = ap parts list ∙ parts_members members ∙ ap all_parts (sym inside) in (
      λ a. elim a [
        | inl b ↦ inl (subst (IsAmong l) kept b)
        | inr b ↦ elim (push.0 (subst (IsLeft l) put_inside b)) [
          | inl c ↦ inr (inl c)
          | inr c ↦ inr (inr (subst (λ (ts : List Thing). IsAmong l (map label ts)) (sym same_things) c))
        ]
      ],
      λ a. elim a [
        | inl b ↦ inl (subst (IsAmong l) (sym kept) b)
        | inr b ↦ inr (subst (IsLeft l) (sym put_inside) (push.1 (elim b [
          | inl c ↦ inl c
          | inr c ↦ inr (subst (λ (ts : List Thing). IsAmong l (map label ts)) same_things c)
        ])))
      ],
    ))

-- ---- the values so far

pub leaves_init : (values : List Shown) (first : Bor (List Shown)) (labels : List Label) (lists none : Lists) → first.now ≡ values → none ≡ [] → lists ≡ none ++ first ∷ []
    → Leaves values labels [] labels lists
leaves_init values first labels lists none same empty put = record {
  each = λ l.
      let is : lists ≡ first ∷ [] = put ∙ ap (λ (ls : Lists). ls ++ first ∷ []) empty in (
        λ h. elim h [
          | inl a ↦ inl a
          | inr a ↦ elim (subst (IsLeft l) is a) [ inl b ↦ inr (inr (subst (IsOf l) same b)) | inr n ↦ absurd n ]
        ],
        λ h. elim h [
          | inl a ↦ inl a
          | inr a ↦ elim a [ inl n ↦ absurd n | inr b ↦ inr (subst (IsLeft l) (sym is) (inl (subst (IsOf l) (sym same) b))) ]
        ],
      );
}

pub leaves_step : (values : List Shown) (rest : Bor (List Shown)) (old labels new : List Label) (lists popped after : Lists) → Leaves values old [] labels lists → lists ≡ popped ++ rest ∷ []
    → Leaves rest.now labels popped new after → Leaves values old [] new after
leaves_step values rest old labels new lists popped after h pop k = record {
  each = λ l.
      let push = left_push l popped rest in (
        λ a. (h.each l).0 (elim ((k.each l).0 a) [ inl b ↦ inl b | inr b ↦ inr (subst (IsLeft l) (sym pop) (push.1 b)) ]),
        λ a. (k.each l).1 (elim ((h.each l).1 a) [ inl b ↦ inl b | inr b ↦ inr (push.0 (subst (IsLeft l) pop b)) ]),
      );
}

none_left : (lists : Lists) → length lists ≡ 0 → lists ≡ []
none_left [] e = refl
none_left (rest ∷ lists) e = absurd (omega arith)

pub leaves_done : (values : List Shown) (old labels : List Label) (lists : Lists) → length lists ≡ 0 → Leaves values old [] labels lists → AddsThings (all_parts values) old labels
leaves_done values old labels lists none h = record {
  each = λ l. (
    λ a. elim ((h.each l).0 (inl a)) [ inl b ↦ inl b | inr b ↦ elim b [ inl n ↦ absurd n | inr c ↦ inr c ] ],
    λ a. elim ((h.each l).1 (elim a [ inl b ↦ inl b | inr b ↦ inr (inr b) ])) [
      | inl b ↦ b
      | inr b ↦ absurd (subst (IsLeft l) (none_left lists none) b)
    ],
  );
}

-- ---- less is left

weight_some : (x : Shown) → 0 < weight x
weight_some (Members' n row) = omega arith
weight_some x = omega arith

pub plain_less : (x : Shown) (more values : List Shown) (rest : Bor (List Shown)) (lists pushed : Lists) → values ≡ x ∷ more → rest.now ≡ more → pushed ≡ lists ++ rest ∷ []
    → open_weight pushed < weights values + 1 + open_weight lists
plain_less x more values rest lists pushed is same put =
    let a : open_weight pushed ≡ open_weight lists + weights more + 1 = ap open_weight put ∙ open_weight-push lists rest ∙ ap (λ (xs : List Shown). open_weight lists + weights xs + 1) same in
    let b : weights values ≡ weights more + weight x + 1 = ap weights is in
    omega arith

pub members_less : (x : Shown) (more values members : List Shown) (rest inner : Bor (List Shown)) (lists pushed after : Lists)
    → values ≡ x ∷ more → rest.now ≡ more → pushed ≡ lists ++ rest ∷ [] → x ≡ Members members → inner.now ≡ members → after ≡ pushed ++ inner ∷ []
    → open_weight after < weights values + 1 + open_weight lists
members_less x more values members rest inner lists pushed after is same put list inside put_inside =
    let a : open_weight pushed ≡ open_weight lists + weights more + 1 = ap open_weight put ∙ open_weight-push lists rest ∙ ap (λ (xs : List Shown). open_weight lists + weights xs + 1) same in
    let b : weights values ≡ weights more + weight x + 1 = ap weights is in
    let c : weight x ≡ weights members + 2 = ap weight list ∙ weight_members members in
    let d : open_weight after ≡ open_weight pushed + weights members + 1 = ap open_weight put_inside ∙ open_weight-push pushed inner ∙ ap (λ (xs : List Shown). open_weight pushed + weights xs + 1) inside in
    omega arith

pub popped_less : (rest : Bor (List Shown)) (lists popped after : Lists) → lists ≡ popped ++ rest ∷ [] → open_weight after < weights rest.now + 1 + open_weight popped → open_weight after < open_weight lists
popped_less rest lists popped after pop less =
    let e : open_weight lists ≡ open_weight popped + weights rest.now + 1 = ap open_weight pop ∙ open_weight-push popped rest in
    omega arith
