-- What the rows answer is what stands on the way among the others.
use Rattle.std.proofs.Common.{◌≡◌, ℕ, zero, Bool, true, false, List, [], Option, Some, None, refl, sym, ap, ◌∙◌, arith}
use Rattle.std.specs.Prelude.{◌==◌, slice_get, if◌then◌else◌}
use Rattle.std.proofs.lemmas.Bool.{eqb-true, eq-eqb}
use Rattle.ev_ways.specs.Rows.{Lane, next, first, of_found, frames_in, row_of, row_at, next_to, first_to, frames_to, next_from, first_from, next_at, first_at, frames_at}
use Rattle.ev_ways.specs.Standing.{Placed, placed_from}
use Rattle.ev_ways.proofs.Places.{placed_at, place_for, found_in, rows_found, own_found}

-- what is had of the way there, where it is found
abbrev pub of_place : {B : Type 0} → B → (Lane → B) → Option Placed → B
of_place d h None = d
of_place d h (Some p) = h p.lane

module _ {B : Type 0} (d : B) (h : Lane → B) (v u : ℕ) where
  -- the same of the way in its row
  abbrev pub of_lane : Option Lane → B
  of_lane None = d
  of_lane (Some l) = h l

  abbrev pub of_row : Option (List Lane) → B
  of_row None = d
  of_row (Some r) = of_lane (slice_get r u)

  lane_placed : (o : Option Lane) → of_place d h (of_found (place_for v u) o) ≡ of_lane o
  unfolding of_found place_for
  lane_placed None = refl
  lane_placed (Some l) = refl

  pub row_placed : (o : Option (List Lane)) → of_place d h (of_found (found_in v u) o) ≡ of_row o
  unfolding of_found found_in
  row_placed None = refl
  row_placed (Some r) = lane_placed (slice_get r u)

  pub by_or : (rows : List (List Lane)) (b : Bool) (x : B) → (v == u) ≡ b → x ≡ of_row (slice_get rows v) → (if b then d else x) ≡ of_place d h (placed_at v u (placed_from zero rows))
  by_or rows true x e i = sym (ap (λ (w : ℕ). of_place d h (placed_at v w (placed_from zero rows))) (sym (eqb-true v u e)) ∙ ap (of_place d h) (own_found v rows))
  by_or rows false x e i = i ∙ (sym (row_placed (slice_get rows v)) ∙ ap (of_place d h) (sym (rows_found v u zero v rows (λ j. let t : true ≡ false = sym (eq-eqb v u j) ∙ e in cc) (omega arith))))

next_lane : (o : Option Lane) (v u : ℕ) → of_found next o ≡ of_lane None next v u o
unfolding of_found
next_lane None v u = refl
next_lane (Some l) v u = refl

next_row : (v u : ℕ) (o : Option (List Lane)) → of_found (next_to u) o ≡ of_row None next v u o
unfolding of_found next_to
next_row v u None = refl
next_row v u (Some r) = next_lane (slice_get r u) v u

pub next_found : (v u : ℕ) (rows : List (List Lane)) → next_at v u rows ≡ of_place None next (placed_at v u (placed_from zero rows))
unfolding next_at next_from
next_found v u rows = by_or None next v u rows (v == u) (next_from v u rows) refl (next_row v u (slice_get rows v))

first_lane : (o : Option Lane) (v u : ℕ) → of_found first o ≡ of_lane None first v u o
unfolding of_found
first_lane None v u = refl
first_lane (Some l) v u = refl

first_row : (v u : ℕ) (o : Option (List Lane)) → of_found (first_to u) o ≡ of_row None first v u o
unfolding of_found first_to
first_row v u None = refl
first_row v u (Some r) = first_lane (slice_get r u) v u

pub first_found : (v u : ℕ) (rows : List (List Lane)) → first_at v u rows ≡ of_place None first (placed_at v u (placed_from zero rows))
unfolding first_at first_from
first_found v u rows = by_or None first v u rows (v == u) (first_from v u rows) refl (first_row v u (slice_get rows v))

frames_lane : (o : Option Lane) (v u : ℕ) → frames_in o ≡ of_lane [] (λ (l : Lane). l.frames) v u o
unfolding frames_in
frames_lane None v u = refl
frames_lane (Some l) v u = refl

frames_row : (v u : ℕ) (o : Option (List Lane)) → frames_to u (row_of o) ≡ of_row [] (λ (l : Lane). l.frames) v u o
unfolding frames_to row_of frames_in
frames_row v u None = refl
frames_row v u (Some r) = frames_lane (slice_get r u) v u

pub frames_found : (v u : ℕ) (rows : List (List Lane)) → frames_at v u rows ≡ of_place [] (λ (l : Lane). l.frames) (placed_at v u (placed_from zero rows))
unfolding frames_at row_at
frames_found v u rows = by_or [] (λ (l : Lane). l.frames) v u rows (v == u) (frames_to u (row_at v rows)) refl (frames_row v u (slice_get rows v))
