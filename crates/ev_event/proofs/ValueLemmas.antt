-- The values of a list in a note.
use Rattle.std.proofs.Common.{Option, Some, None, ◌<◌, Bool, true, false, append_assoc, ◌≡◌, ℕ, ◌+◌, List, [], ◌∷◌, ◌++◌, refl, sym, ◌∙◌, ap, arith}
use mathlib.Core.Former.{Count}
use Rattle.def_event.specs.declared.shown.Shown.{Shown, Members, Members', Row_of-Shown, end_of-Shown, more_of-Shown, items-the_row-Shown, items_hidden-the_row-Shown-0}
use Rattle.def_event.specs.Lines.{value, values, member_values, spaced}
use Rattle.std.specs.List.{flat_map}
use Rattle.std.proofs.lemmas.List.{append-nil}
use denote.Ref.{Bor}
use Rattle.ev_event.specs.Pending.{weight, row_weight, weights, open_weight, open_text, rest_text, list_text, separator, next_text, next_weight}

abbrev row_of : Shown → (n : Count) × Row_of-Shown n
row_of (Members' _ row) = (_, row)
row_of _ = (_, end_of-Shown)

module _ (vats : List (List ℕ)) where
  of_row : (n : _) (row : Row_of-Shown n) → member_values vats row ≡ values vats (items-the_row-Shown n row)
  of_row n end_of-Shown = refl
  of_row n (more_of-Shown x rest) = ap (λ ws. value vats x ∷ ws) (of_row _ rest)

  pub value_members : (xs : List Shown) → value vats (Members xs) ≡ 91 ∷ (spaced (values vats xs) ++ 93 ∷ [])
  value_members xs =
      let row = row_of (Members xs) in
      ap (λ ws. 91 ∷ (spaced ws ++ 93 ∷ [])) (of_row row.0 row.1 ∙ ap (values vats) (items_hidden-the_row-Shown-0 xs))

weight_of_row : (n : _) (row : Row_of-Shown n) → row_weight row ≡ weights (items-the_row-Shown n row)
weight_of_row n end_of-Shown = refl
weight_of_row n (more_of-Shown x rest) = ap (λ k. k + weight x + 1) (weight_of_row _ rest)

pub weight_members : (xs : List Shown) → weight (Members xs) ≡ weights xs + 2
weight_members xs =
    let row = row_of (Members xs) in
    ap (λ k. k + 2) (weight_of_row row.0 row.1 ∙ ap weights (items_hidden-the_row-Shown-0 xs))

pub open_weight-push : (lists : List (Bor (List Shown))) (t : Bor (List Shown)) → open_weight (lists ++ t ∷ []) ≡ open_weight lists + weights t.now + 1
open_weight-push [] t = omega arith
open_weight-push (rest ∷ lists) t = omega (arith, open_weight-push lists t)

module _ (vats : List (List ℕ)) where
  pub open_text-push : (lists : List (Bor (List Shown))) (t : Bor (List Shown)) → open_text vats (lists ++ t ∷ []) ≡ rest_text vats t.now ++ open_text vats lists
  open_text-push [] t = sym (append-nil (rest_text vats t.now))
  open_text-push (rest ∷ lists) t = ap (λ xs. xs ++ rest_text vats rest.now) (open_text-push lists t) ∙ append_assoc (rest_text vats t.now) (open_text vats lists) (rest_text vats rest.now)

  pub list_text-cons : (behind : Bool) (x : Shown) (more : List Shown) → list_text vats behind (x ∷ more) ≡ separator behind ++ (value vats x ++ rest_text vats more)
  list_text-cons true x more = ap (λ xs. 32 ∷ xs) (append_assoc (value vats x) (flat_map (λ v. 32 ∷ v) (values vats more)) (93 ∷ []))
  list_text-cons false x more = append_assoc (value vats x) (flat_map (λ v. 32 ∷ v) (values vats more)) (93 ∷ [])

  -- a first member is handed out
  pub entered : (behind : Bool) (x : Shown) (more all : List Shown) (old new : List ℕ) (lists after : List (Bor (List Shown))) (rest : Bor (List Shown))
      → all ≡ x ∷ more → new ≡ old ++ separator behind → after ≡ lists ++ rest ∷ [] → rest.now ≡ more
      → new ++ (value vats x ++ open_text vats after) ≡ old ++ (list_text vats behind all ++ open_text vats lists)
  entered behind x more all old new lists after rest is wrote pushed same =
      ap (λ xs. xs ++ (value vats x ++ open_text vats after)) wrote
      ∙ append_assoc old (separator behind) (value vats x ++ open_text vats after)
      ∙ ap (λ xs. old ++ (separator behind ++ (value vats x ++ xs))) (ap (open_text vats) pushed ∙ open_text-push lists rest ∙ ap (λ xs. rest_text vats xs ++ open_text vats lists) same)
      ∙ ap (λ xs. old ++ xs) (sym (
      ap (λ xs. xs ++ open_text vats lists) (ap (list_text vats behind) is ∙ list_text-cons behind x more)
      ∙ append_assoc (separator behind) (value vats x ++ rest_text vats more) (open_text vats lists)
      ∙ ap (λ xs. separator behind ++ xs) (append_assoc (value vats x) (rest_text vats more) (open_text vats lists))))

pub entered_less : (x : Shown) (more all : List Shown) (lists after : List (Bor (List Shown))) (rest : Bor (List Shown))
    → all ≡ x ∷ more → after ≡ lists ++ rest ∷ [] → rest.now ≡ more → weight x + open_weight after < weights all + 1 + open_weight lists
entered_less x more all lists after rest is pushed same =
    let a : open_weight after ≡ open_weight lists + weights more + 1 = ap open_weight pushed ∙ open_weight-push lists rest ∙ ap (λ xs. open_weight lists + weights xs + 1) same in
    let b : weights all ≡ weights more + weight x + 1 = ap weights is in
    omega arith

module _ (vats : List (List ℕ)) where
  -- the members of the next value are next
  pub on_to_members : (m : Bor Shown) (members : List Shown) (was next : Option (Bor Shown)) (lists after : List (Bor (List Shown))) (old begun new whole : List ℕ)
      → was ≡ Some m → m.now ≡ Members members → begun ≡ old ++ 91 ∷ []
      → new ++ (next_text vats next ++ open_text vats after) ≡ begun ++ (list_text vats false members ++ open_text vats lists)
      → old ++ (next_text vats was ++ open_text vats lists) ≡ whole → new ++ (next_text vats next ++ open_text vats after) ≡ whole
  on_to_members m members was next lists after old begun new whole some is wrote entered so_far =
      entered
      ∙ ap (λ xs. xs ++ (list_text vats false members ++ open_text vats lists)) wrote
      ∙ append_assoc old (91 ∷ []) (list_text vats false members ++ open_text vats lists)
      ∙ ap (λ xs. old ++ (xs ++ open_text vats lists)) (sym (ap (next_text vats) some ∙ ap (value vats) is ∙ value_members vats members))
      ∙ so_far

  -- the innermost list that is open goes on
  pub on_to_rest : (rest : Bor (List Shown)) (was next : Option (Bor Shown)) (lists popped after : List (Bor (List Shown))) (old new whole : List ℕ)
      → was ≡ None → lists ≡ popped ++ rest ∷ []
      → new ++ (next_text vats next ++ open_text vats after) ≡ old ++ (list_text vats true rest.now ++ open_text vats popped)
      → old ++ (next_text vats was ++ open_text vats lists) ≡ whole → new ++ (next_text vats next ++ open_text vats after) ≡ whole
  on_to_rest rest was next lists popped after old new whole none pops entered so_far =
      entered
      ∙ ap (λ xs. old ++ xs) (sym (open_text-push vats popped rest) ∙ ap (open_text vats) (sym pops))
      ∙ ap (λ xs. old ++ (next_text vats xs ++ open_text vats lists)) (sym none)
      ∙ so_far

pub members_less : (m : Bor Shown) (members : List Shown) (was next : Option (Bor Shown)) (lists after : List (Bor (List Shown)))
    → was ≡ Some m → m.now ≡ Members members → next_weight next + open_weight after < weights members + 1 + open_weight lists
    → next_weight next + open_weight after < next_weight was + open_weight lists
members_less m members was next lists after some is less =
    let e : next_weight was ≡ weights members + 2 = ap next_weight some ∙ ap weight is ∙ weight_members members in
    omega arith

pub rest_less : (rest : Bor (List Shown)) (was next : Option (Bor Shown)) (lists popped after : List (Bor (List Shown)))
    → was ≡ None → lists ≡ popped ++ rest ∷ [] → next_weight next + open_weight after < weights rest.now + 1 + open_weight popped
    → next_weight next + open_weight after < next_weight was + open_weight lists
rest_less rest was next lists popped after none pops less =
    let e : next_weight was ≡ 0 = ap next_weight none in
    let f : open_weight lists ≡ open_weight popped + weights rest.now + 1 = ap open_weight pops ∙ open_weight-push popped rest in
    omega arith
