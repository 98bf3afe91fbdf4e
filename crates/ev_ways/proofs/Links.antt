-- Which ways are cut, as the lines of a step look at it.
use Rattle.std.proofs.Common.{◌≡◌, ℕ, zero, suc, Bool, true, false, List, [], ◌∷◌, Option, Some, None, refl, sym, ap, ◌∙◌, map, get_or}
use Rattle.std.specs.Prelude.{◌==◌, if◌then◌else◌, option_map, slice_get}
use Rattle.std.proofs.lemmas.Bool.{eqb-true}
use Rattle.def_run.specs.World.{Link, cut_in, is_cut, is_link, link_at}
use Rattle.def_run.specs.Numbers.{Way, is_way, link_of, way_at}
use Rattle.ev_ways.specs.Rows.{Lane, cut_to, cuts, fresh, is_cut_at, is_cut_in, row_at, row_of}
use Rattle.ev_ways.specs.Standing.{Placed, WaysStand, placed_from}
use Rattle.ev_ways.specs.Statements.{CutsStand}
use Rattle.ev_ways.proofs.Places.{placed_at}
use Rattle.ev_ways.proofs.Stands.{MayStand, finds}
use Rattle.ev_ways.proofs.Looks.{by_or, of_lane, of_place, of_row}

link_or : (b : Bool) (l : Way) (o : Option Link) (q : Option Way) → o ≡ option_map link_of q → elim b [ true ↦ Some (link_of l) | false ↦ o ] ≡ option_map link_of (elim b [ true ↦ Some l | false ↦ q ])
link_or true l o q e = refl
link_or false l o q e = e

links_at : (v u : ℕ) (ls : List Way) → link_at v u (map link_of ls) ≡ option_map link_of (way_at v u ls)
unfolding link_at way_at is_link is_way link_of
links_at v u [] = refl
links_at v u (l ∷ ls) = link_or (is_way v u l) l (link_at v u (map link_of ls)) (way_at v u ls) (links_at v u ls)

cut_of : (ds : List ℕ) (v u : ℕ) (o : Option Way) (q : Option Placed) → MayStand ds v u o q → cut_in (option_map link_of o) ≡ of_place false (λ (l : Lane). l.is_cut) q
unfolding cut_in link_of
cut_of ds v u None None h = refl
cut_of ds v u (Some l) (Some p) h = sym h.stands.is_cut
cut_of ds v u None (Some p) h = absurd h
cut_of ds v u (Some l) None h = absurd h

lane_cut : (v u : ℕ) (o : Option Lane) → is_cut_in o ≡ of_lane false (λ (l : Lane). l.is_cut) v u o
unfolding is_cut_in
lane_cut v u None = refl
lane_cut v u (Some l) = refl

row_cut : (v u : ℕ) (o : Option (List Lane)) → cut_to u (row_of o) ≡ of_row false (λ (l : Lane). l.is_cut) v u o
unfolding cut_to row_of is_cut_in
row_cut v u None = refl
row_cut v u (Some r) = lane_cut v u (slice_get r u)

-- a vat's way to itself is not cut
lane_own : (o : Option Lane) → ((l : Lane) → o ≡ Some l → l ≡ fresh) → is_cut_in o ≡ false
unfolding is_cut_in
lane_own None f = refl
lane_own (Some l) f = ap (λ (m : Lane). m.is_cut) (f l refl)

row_own : (v : ℕ) (o : Option (List Lane)) → ((r : List Lane) (l : Lane) → o ≡ Some r → slice_get r v ≡ Some l → l ≡ fresh) → cut_to v (row_of o) ≡ false
unfolding cut_to row_of is_cut_in
row_own v None f = refl
row_own v (Some r) f = lane_own (slice_get r v) (λ l e. f r l refl e)

own_or : (ds : List ℕ) (n v u : ℕ) (ls : List Way) (ways : List (List Lane)) → WaysStand ds n ls ways → (b : Bool) → (v == u) ≡ b → is_cut_at v u ways ≡ (if b then false else is_cut_at v u ways)
unfolding is_cut_at row_at
own_or ds n v u ls ways h true e = ap (λ (w : ℕ). cut_to w (row_at v ways)) (sym (eqb-true v u e)) ∙ row_own v (slice_get ways v) (λ r l i j. h.unused v r l i j)
own_or ds n v u ls ways h false e = refl

cut_found : (ds : List ℕ) (n v u : ℕ) (ls : List Way) (ways : List (List Lane)) → WaysStand ds n ls ways → is_cut_at v u ways ≡ of_place false (λ (l : Lane). l.is_cut) (placed_at v u (placed_from zero ways))
unfolding is_cut_at row_at
cut_found ds n v u ls ways h =
    own_or ds n v u ls ways h (v == u) refl
    ∙ by_or false (λ (l : Lane). l.is_cut) v u ways (v == u) (is_cut_at v u ways) refl (row_cut v u (slice_get ways v))

cut_at : (u : ℕ) (r : List Lane) → is_cut_in (slice_get r u) ≡ get_or (map (λ (l : Lane). l.is_cut) r) u false
unfolding is_cut_in
cut_at u [] = refl
cut_at zero (l ∷ ls) = refl
cut_at (suc u) (l ∷ ls) = cut_at u ls

row_cuts : (v u : ℕ) (ways : List (List Lane)) → is_cut_at v u ways ≡ get_or (cuts (row_at v ways)) u false
unfolding is_cut_at cut_to cuts
row_cuts v u ways = cut_at u (row_at v ways)

one_stands : (ds : List ℕ) (n v u : ℕ) (ls : List Way) (ways : List (List Lane)) → WaysStand ds n ls ways → is_cut v u (map link_of ls) ≡ is_cut_at v u ways
unfolding is_cut
one_stands ds n v u ls ways h =
    ap cut_in (links_at v u ls)
    ∙ (cut_of ds v u (way_at v u ls) (placed_at v u (placed_from zero ways)) (finds ds v u ls (placed_from zero ways) h.ways) ∙ sym (cut_found ds n v u ls ways h))

pub cuts_stand : CutsStand
cuts_stand ds n v u ls ways h = let e = one_stands ds n v u ls ways h in record { one = e; of_all = e ∙ row_cuts v u ways }
