-- The two runs at the start.
use Rattle.std.proofs.Common.{◌≡◌, ℕ, zero, suc, ◌+◌, ◌≤◌, ◌<◌, Bool, true, false, List, [], ◌∷◌, ◌++◌, Option, Some, None, refl, sym, ap, ◌∙◌, subst, length, map, arith}
use Rattle.std.specs.Prelude.{slice_get, get_or, ◌==◌}
use Rattle.std.proofs.lemmas.Bool.{eqb-true, eq-eqb}
use Rattle.def_machine.specs.Values.{Name, Root, Local, Prom}
use Rattle.def_machine.specs.State.{Known, Vat, begun, is_in}
use Rattle.def_run.specs.Connections.{Connection}
use Rattle.def_run.specs.Wire as wire
use Rattle.def_run.specs.Wire.{Connected, connected_at, connects}
use Rattle.def_run.specs.World as machine
use Rattle.def_run.specs.World.{Script, Program, Link, World, link_at, readied}
use Rattle.law_fate.specs.Name.Names.{AllOf, names_in}
use Rattle.def_machine.specs.Maps as maps
use Rattle.law_machine.specs.Renamed.Stands.{Table, Found, Is, found, prom_found, StandsFor}
use Rattle.law_reference.specs.Reference.Logs.{log_of, roots_of, exports, exports_after, questions}
use Rattle.law_reference.specs.Reference.Exports.{exported_at, object_of}
use Rattle.law_reference.specs.Reference.Tables.{table_of}
use Rattle.law_frame.specs.Frame.Together.{TablesMay, changed_tables}
use Rattle.law_frame.specs.Frame.OwnFrames.{refers}
use Rattle.law_frame.proofs.Frame.Written.{at_fresh, from_fresh}
use Rattle.def_run.specs.Vats.{Member, connection_for, unconnected}
use Rattle.def_run.specs.Numbers as numbers
use Rattle.def_run.specs.Numbers.{Way, Vats, way_at, ready}
use Rattle.law_frame.specs.Local.Mirrors.{VatMirrors, WaysMirror, FramesDue}
use Rattle.law_frame.specs.Local.Statements.{StartMirrors}
use Rattle.law_frame.proofs.Local.Ways.{way_found}

abbrev one_or : Bool → Connected → Connected → Connected
one_or c x y = elim c [ true ↦ x | false ↦ y ]

by_bool : (P : Bool → Type 0) → P true → P false → (b : Bool) → P b
by_bool P x y true = x
by_bool P x y false = y

all_join : {A : Type 0} (P : A → Type 0) (xs ys : List A) → AllOf P xs → AllOf P ys → AllOf P (xs ++ ys)
all_join P [] ys h k = k
all_join P (x ∷ xs) ys h k = (h.0, all_join P xs ys h.1 k)

-- ---- links

to_mirror : (v u : ℕ) (ps : List Program) → WaysMirror (machine.links_to v u ps) (numbers.ways_to v u ps)
unfolding machine.links_to numbers.ways_to
to_mirror v u [] = tt
to_mirror v u (p ∷ ps) = by_bool
    (λ b. WaysMirror (elim b [ true ↦ machine.links_to v (suc u) ps | false ↦ record { from = v; to = u; cut = false; notes = []; roots = machine.roots_for v p; log = [] } ∷ machine.links_to v (suc u) ps ]) (elim b [ true ↦ numbers.ways_to v (suc u) ps | false ↦ record { from = v; to = u; cut = false; frames = [] } ∷ numbers.ways_to v (suc u) ps ]))
    (to_mirror v (suc u) ps) (record { from = refl; to = refl; cut = refl; notes = refl }, to_mirror v (suc u) ps) (v == u)

join_mirror : (ks ls : List Link) (xs ys : List Way) → WaysMirror ks xs → WaysMirror ls ys → WaysMirror (ks ++ ls) (xs ++ ys)
join_mirror [] ls [] ys h k = k
join_mirror (l ∷ ks) ls (x ∷ xs) ys h k = (h.0, join_mirror ks ls xs ys h.1 k)
join_mirror [] ls (x ∷ xs) ys h k = absurd h
join_mirror (l ∷ ks) ls [] ys h k = absurd h

from_mirror : (all : List Program) (v : ℕ) (ps : List Program) → WaysMirror (machine.links_from all v ps) (numbers.ways_from all v ps)
unfolding machine.links_from numbers.ways_from
from_mirror all v [] = tt
from_mirror all v (p ∷ ps) = join_mirror (machine.links_to v zero all) (machine.links_from all (suc v) ps) (numbers.ways_to v zero all) (numbers.ways_from all (suc v) ps) (to_mirror v zero all) (from_mirror all (suc v) ps)

-- a way between two of so many vats, with nothing on it
abbrev FreshWay : ℕ → Way → Type 0
FreshWay n x = (x.frames ≡ []) × (x.from < n) × (x.to < n)

to_fresh : (n v u : ℕ) (ps : List Program) → v < n → u + length ps ≤ n → AllOf (FreshWay n) (numbers.ways_to v u ps)
unfolding numbers.ways_to
to_fresh n v u [] h k = tt
to_fresh n v u (p ∷ ps) h k =
    let rest = to_fresh n v (suc u) ps h (omega arith) in
    by_bool (λ b. AllOf (FreshWay n) (elim b [ true ↦ numbers.ways_to v (suc u) ps | false ↦ record { from = v; to = u; cut = false; frames = [] } ∷ numbers.ways_to v (suc u) ps ])) rest ((refl, h, omega arith), rest) (v == u)

ways_fresh : (all : List Program) (v : ℕ) (ps : List Program) → v + length ps ≤ length all → AllOf (FreshWay (length all)) (numbers.ways_from all v ps)
unfolding numbers.ways_from
ways_fresh all v [] h = tt
ways_fresh all v (p ∷ ps) h = all_join (FreshWay (length all)) (numbers.ways_to v zero all) (numbers.ways_from all (suc v) ps) (to_fresh (length all) v zero all (omega arith) (omega arith)) (ways_fresh all (suc v) ps (omega arith))

-- a link on which nothing was put, and whose roots are no objects
abbrev FreshLink : Link → Type 0
FreshLink l = (l.log ≡ []) × ((p : ℕ) → object_of (slice_get l.roots p) ≡ None)

no_object : (v : ℕ) (p : Program) (k : ℕ) → object_of (slice_get (machine.roots_for v p) k) ≡ None
unfolding machine.roots_for object_of
no_object v p k = by (is_in v p.knows) k
  where
    by : (b : Bool) (i : ℕ) → object_of (slice_get (elim b [ true ↦ Root v ∷ [] | false ↦ [] ]) i) ≡ None
    by true zero = refl
    by true (suc i) = refl
    by false i = refl

links_fresh : (v u : ℕ) (ps : List Program) → AllOf FreshLink (machine.links_to v u ps)
unfolding machine.links_to
links_fresh v u [] = tt
links_fresh v u (p ∷ ps) =
    let rest = links_fresh v (suc u) ps in
    by_bool (λ b. AllOf FreshLink (elim b [ true ↦ machine.links_to v (suc u) ps | false ↦ record { from = v; to = u; cut = false; notes = []; roots = machine.roots_for v p; log = [] } ∷ machine.links_to v (suc u) ps ])) rest ((refl, no_object v p), rest) (v == u)

all_fresh : (all : List Program) (v : ℕ) (ps : List Program) → AllOf FreshLink (machine.links_from all v ps)
unfolding machine.links_from
all_fresh all v [] = tt
all_fresh all v (p ∷ ps) = all_join FreshLink (machine.links_to v zero all) (machine.links_from all (suc v) ps) (links_fresh v zero all) (all_fresh all (suc v) ps)

-- where there is none, there are no roots either
abbrev NothingPut : Option Link → Type 0
NothingPut o = (log_of o ≡ []) × ((p : ℕ) → object_of (slice_get (roots_of o) p) ≡ None)

found_fresh : (v u : ℕ) (ls : List Link) → AllOf FreshLink ls → NothingPut (link_at v u ls)
unfolding link_at log_of roots_of object_of
found_fresh v u [] h = (refl, λ p. refl)
found_fresh v u (l ∷ ls) h = by_bool (λ b. NothingPut (elim b [ true ↦ Some l | false ↦ link_at v u ls ])) h.0 (found_fresh v u ls h.1) (machine.is_link v u l)

none_exported : (ls : List Link) → AllOf FreshLink ls → (u h p j : ℕ) → exported_at ls u h p ≡ Some j → ⊥
unfolding exported_at exports exports_after
none_exported ls a u h p j e = by (u == h) e
  where
    f : NothingPut (link_at h u ls)
    f = found_fresh h u ls a

    none : object_of (slice_get (exports_after h (questions (λ i. i) ls u h) (log_of (link_at h u ls)) (roots_of (link_at h u ls))) p) ≡ None
    none = ap (λ ns. object_of (slice_get (exports_after h (questions (λ i. i) ls u h) ns (roots_of (link_at h u ls))) p)) f.0 ∙ f.1 p

    by : (b : Bool) → elim b [ true ↦ None | false ↦ object_of (slice_get (exports_after h (questions (λ i. i) ls u h) (log_of (link_at h u ls)) (roots_of (link_at h u ls))) p) ] ≡ Some j → ⊥
    by true k = cc
    by false k = clash (sym none ∙ k)
      where
        clash : ◌≡◌ {A = Option ℕ} None (Some j) → ⊥
        clash i = cc

-- ---- connections

left : {A : Type 0} (c : Bool) (x y : A) → c ≡ false → ◌≡◌ {A = A} (elim c [ true ↦ x | false ↦ y ]) y
left false x y e = refl
left true x y e = cc

taken : {A : Type 0} (c : Bool) (x y : A) → c ≡ true → ◌≡◌ {A = A} (elim c [ true ↦ x | false ↦ y ]) x
taken true x y e = refl
taken false x y e = cc

not_same : (a b : ℕ) → (a ≡ b → ⊥) → (a == b) ≡ false
not_same a b n = by (a == b) refl
  where
    by : (c : Bool) → (a == b) ≡ c → c ≡ false
    by true e = absurd (n (eqb-true a b e))
    by false e = refl

-- a connection for another vat stands in front
passes : (a b : ℕ) (c : Connected) (cs : List Connected) → (c.from ≡ a → c.to ≡ b → ⊥) → connected_at a b (c ∷ cs) ≡ connected_at a b cs
unfolding connected_at connects
passes a b c cs n = left (connects a b c) c (connected_at a b cs) (other (c.from == a) (c.to == b) refl refl)
  where
    other : (s t : Bool) → (c.from == a) ≡ s → (c.to == b) ≡ t → elim s [ true ↦ t | false ↦ false ] ≡ false
    other true true i j = absurd (n (eqb-true c.from a i) (eqb-true c.to b j))
    other true false i j = refl
    other false t i j = refl

meets : (a b : ℕ) (c : Connected) (cs : List Connected) → c.from ≡ a → c.to ≡ b → connected_at a b (c ∷ cs) ≡ c
unfolding connected_at connects
meets a b c cs i j = taken (connects a b c) c (connected_at a b cs) (both (c.from == a) (c.to == b) (eq-eqb c.from a i) (eq-eqb c.to b j))
  where
    both : (s t : Bool) → s ≡ true → t ≡ true → elim s [ true ↦ t | false ↦ false ] ≡ true
    both true true k l = refl
    both true false k l = cc
    both false t k l = cc

-- what vat v has for vats from number w on has nothing for another vat, or for one before
past : (v : ℕ) (p : Program) (a b w : ℕ) (qs : List Program) (rest : List Connected) → ((i : ℕ) → w ≤ i → v ≡ a → i ≡ b → ⊥) → connected_at a b (machine.connections_to v p w qs ++ rest) ≡ connected_at a b rest
unfolding machine.connections_to machine.first_connection
past v p a b w [] rest n = refl
past v p a b w (q ∷ qs) rest n = skip (past v p a b (suc w) qs rest (λ i k. n i (omega arith))) (v == w)
  where
    skip : connected_at a b (machine.connections_to v p (suc w) qs ++ rest) ≡ connected_at a b rest → (t : Bool) → connected_at a b (elim t [ true ↦ machine.connections_to v p (suc w) qs | false ↦ machine.first_connection v w p q ∷ machine.connections_to v p (suc w) qs ] ++ rest) ≡ connected_at a b rest
    skip next true = next
    skip next false = passes a b (machine.first_connection v w p q) (machine.connections_to v p (suc w) qs ++ rest) (n w (omega arith)) ∙ next

-- what it has for a vat of the script, or where there is none of that number what stands behind
abbrev first_or : ℕ → ℕ → Program → Option Program → Connected → Connected
first_or a b p None d = d
first_or a b p (Some q) d = elim (a == b) [ true ↦ d | false ↦ machine.first_connection a b p q ]

to_at : (a : ℕ) (p : Program) (w : ℕ) (qs : List Program) (i b : ℕ) (rest : List Connected) → b ≡ i + w → connected_at a b (machine.connections_to a p w qs ++ rest) ≡ first_or a b p (slice_get qs i) (connected_at a b rest)
unfolding machine.connections_to machine.first_connection
to_at a p w [] i b rest e = refl
to_at a p w (q ∷ qs) zero b rest e = let k : b ≡ w = omega arith in subst (λ (w : ℕ). connected_at a b (machine.connections_to a p w (q ∷ qs) ++ rest) ≡ first_or a b p (Some q) (connected_at a b rest)) k (by (a == b))
  where
    behind : connected_at a b (machine.connections_to a p (suc b) qs ++ rest) ≡ connected_at a b rest
    behind = past a p a b (suc b) qs rest (λ i k l m. omega arith)

    by : (t : Bool) → connected_at a b (elim t [ true ↦ machine.connections_to a p (suc b) qs | false ↦ machine.first_connection a b p q ∷ machine.connections_to a p (suc b) qs ] ++ rest) ≡ elim t [ true ↦ connected_at a b rest | false ↦ machine.first_connection a b p q ]
    by true = behind
    by false = meets a b (machine.first_connection a b p q) (machine.connections_to a p (suc b) qs ++ rest) refl refl
to_at a p w (q ∷ qs) (suc i) b rest e = skip (to_at a p (suc w) qs i b rest (omega arith)) (a == w)
  where
    skip : connected_at a b (machine.connections_to a p (suc w) qs ++ rest) ≡ first_or a b p (slice_get qs i) (connected_at a b rest) → (t : Bool) → connected_at a b (elim t [ true ↦ machine.connections_to a p (suc w) qs | false ↦ machine.first_connection a w p q ∷ machine.connections_to a p (suc w) qs ] ++ rest) ≡ first_or a b p (slice_get qs i) (connected_at a b rest)
    skip next true = next
    skip next false = passes a b (machine.first_connection a w p q) (machine.connections_to a p (suc w) qs ++ rest) (λ i j. omega arith) ∙ next

from_past : (all : List Program) (a b v : ℕ) (ps : List Program) → a < v → connected_at a b (machine.connections_from all v ps) ≡ wire.unconnected a b
unfolding machine.connections_from connected_at
from_past all a b v [] h = refl
from_past all a b v (p ∷ ps) h = past v p a b zero all (machine.connections_from all (suc v) ps) (λ i k l m. omega arith) ∙ from_past all a b (suc v) ps (omega arith)

from_at : (all : List Program) (a b v : ℕ) (ps : List Program) (i : ℕ) (p : Program) → a ≡ i + v → slice_get ps i ≡ Some p → connected_at a b (machine.connections_from all v ps) ≡ first_or a b p (slice_get all b) (wire.unconnected a b)
unfolding machine.connections_from
from_at all a b v [] i p e k = cc
from_at all a b v (q ∷ ps) zero p e k =
    let j : v ≡ a = omega arith in let l : q ≡ p = cc in
    ap (λ (x : ℕ). connected_at a b (machine.connections_to x q zero all ++ machine.connections_from all (suc v) ps)) j
    ∙ to_at a q zero all b b (machine.connections_from all (suc v) ps) (omega arith)
    ∙ ap (first_or a b q (slice_get all b)) (from_past all a b (suc v) ps (omega arith))
    ∙ ap (λ (x : Program). first_or a b x (slice_get all b) (wire.unconnected a b)) l
from_at all a b v (q ∷ ps) (suc i) p e k = past v q a b zero all (machine.connections_from all (suc v) ps) (λ i k l m. omega arith) ∙ from_at all a b (suc v) ps i p (omega arith) k

-- the same in numbers
abbrev first_here : ℕ → ℕ → Program → Option Program → Connection Local
first_here u b p None = unconnected
first_here u b p (Some q) = elim (u == b) [ true ↦ unconnected | false ↦ numbers.first_connection u b p q ]

here_at : (u : ℕ) (p : Program) (w : ℕ) (qs : List Program) (i b : ℕ) → b ≡ i + w → get_or (numbers.connections_from u p w qs) i unconnected ≡ first_here u b p (slice_get qs i)
unfolding numbers.connections_from
here_at u p w [] i b e = refl
here_at u p w (q ∷ qs) zero b e = let k : w ≡ b = omega arith in ap (λ x. first_here u x p (Some q)) k
here_at u p w (q ∷ qs) (suc i) b e = here_at u p (suc w) qs i b (omega arith)

here_length : (u : ℕ) (p : Program) (w : ℕ) (qs : List Program) → length (numbers.connections_from u p w qs) ≡ length qs
unfolding numbers.connections_from
here_length u p w [] = refl
here_length u p w (q ∷ qs) = ap suc (here_length u p (suc w) qs)

-- no message has a number at the start
roots_refer : (v : ℕ) (p : Program) → AllOf (λ n. refers n ≡ true) (machine.roots_for v p)
unfolding machine.roots_for refers
roots_refer v p = by_bool (λ b. AllOf (λ n. refers n ≡ true) (elim b [ true ↦ Root v ∷ [] | false ↦ [] ])) (refl, tt) tt (is_in v p.knows)

first_refers : (v w : ℕ) (p q : Program) → TablesMay refers (machine.first_connection v w p q).tables
unfolding machine.first_connection
first_refers v w p q = record { exports = roots_refer v q; imports = roots_refer w p; questions = tt; answers = tt }

to_refer : (v : ℕ) (p : Program) (w : ℕ) (qs : List Program) → AllOf (λ (c : Connected). TablesMay refers c.tables) (machine.connections_to v p w qs)
unfolding machine.connections_to
to_refer v p w [] = tt
to_refer v p w (q ∷ qs) =
    let rest = to_refer v p (suc w) qs in
    by_bool (λ b. AllOf (λ (c : Connected). TablesMay refers c.tables) (elim b [ true ↦ machine.connections_to v p (suc w) qs | false ↦ machine.first_connection v w p q ∷ machine.connections_to v p (suc w) qs ])) rest (first_refers v w p q, rest) (v == w)

from_refer : (all : List Program) (v : ℕ) (ps : List Program) → AllOf (λ (c : Connected). TablesMay refers c.tables) (machine.connections_from all v ps)
unfolding machine.connections_from
from_refer all v [] = tt
from_refer all v (p ∷ ps) = all_join (λ (c : Connected). TablesMay refers c.tables) (machine.connections_to v p zero all) (machine.connections_from all (suc v) ps) (to_refer v p zero all) (from_refer all (suc v) ps)

at_refers : (v u : ℕ) (cs : List Connected) → AllOf (λ (c : Connected). TablesMay refers c.tables) cs → TablesMay refers (connected_at v u cs).tables
unfolding connected_at wire.unconnected
at_refers v u [] h = record { exports = tt; imports = tt; questions = tt; answers = tt }
at_refers v u (c ∷ cs) h = by_bool (λ b. TablesMay refers (one_or b c (connected_at v u cs)).tables) h.0 (at_refers v u cs h.1) (connects v u c)

-- ---- a vat

abbrev mapped_head : {x y : Found} → x ≡ y → ◌≡◌ {A = List Found} (x ∷ []) (y ∷ [])
mapped_head e = ap (λ z. z ∷ []) e

abbrev in_or : Bool → Bool → Bool
in_or d r = elim d [ true ↦ true | false ↦ r ]

module _ (u : ℕ) (t : Table) where
  -- roots have numbers from k on
  abbrev RootsFound : ℕ → List ℕ → Type 0
  RootsFound k ws = (i x : ℕ) → slice_get ws i ≡ Some x → found u t (Prom (i + k)) ≡ Is (Root x)

  next_found : (k w : ℕ) (ws : List ℕ) → RootsFound k (w ∷ ws) → RootsFound (suc k) ws
  next_found k w ws h i x e = let j : i + suc k ≡ suc i + k = omega arith in ap (λ n. found u t (Prom n)) j ∙ h (suc i) x e

  first_found : (k w : ℕ) (ws : List ℕ) → RootsFound k (w ∷ ws) → found u t (Prom k) ≡ Is (Root w)
  first_found k w ws h = let j : k ≡ zero + k = omega arith in ap (λ n. found u t (Prom n)) j ∙ h zero w refl

  root_same : (b k : ℕ) (ws : List ℕ) → RootsFound k ws → map (found u t) (numbers.root_number k b ws) ≡ map Is (elim (is_in b ws) [ true ↦ Root b ∷ [] | false ↦ [] ])
  unfolding numbers.root_number is_in
  root_same b k [] h = refl
  root_same b k (w ∷ ws) h = by (w == b) (b == w) refl refl (root_same b (suc k) ws (next_found k w ws h))
    where
      by : (c d : Bool) → (w == b) ≡ c → (b == w) ≡ d → map (found u t) (numbers.root_number (suc k) b ws) ≡ map Is (elim (is_in b ws) [ true ↦ Root b ∷ [] | false ↦ [] ])
          → map (found u t) (elim c [ true ↦ Prom k ∷ [] | false ↦ numbers.root_number (suc k) b ws ]) ≡ map Is (elim (in_or d (is_in b ws)) [ true ↦ Root b ∷ [] | false ↦ [] ])
      by true true i j r = mapped_head (first_found k w ws h ∙ ap (λ n. Is (Root n)) (eqb-true w b i))
      by false false i j r = r
      by true false i j r = absurd (no_both (b == w) (eq-eqb b w (sym (eqb-true w b i))) j)
        where
          no_both : (c : Bool) → c ≡ true → c ≡ false → ⊥
          no_both c k l = cc
      by false true i j r = absurd (no_both (w == b) (eq-eqb w b (sym (eqb-true b w j))) i)
        where
          no_both : (c : Bool) → c ≡ true → c ≡ false → ⊥
          no_both c k l = cc

  known_same : (k : ℕ) (ws : List ℕ) → RootsFound k ws → map (maps.known (found u t)) (numbers.roots_known k ws) ≡ map (maps.known Is) (map machine.known_root ws)
  unfolding numbers.roots_known machine.known_root begun
  known_same k [] h = refl
  known_same k (w ∷ ws) h = cc (first_found k w ws h, known_same (suc k) ws (next_found k w ws h))

  module _ (p : Program) (own : found u t (Prom zero) ≡ Is (Root u)) (others : RootsFound 1 p.knows) where
    exports_same : (b : Bool) → map (found u t) (elim b [ true ↦ Prom zero ∷ [] | false ↦ [] ]) ≡ map Is (elim b [ true ↦ Root u ∷ [] | false ↦ [] ])
    exports_same true = mapped_head own
    exports_same false = refl

    first_same : (b : ℕ) (o : Option Program) → changed_tables (found u t) (first_here u b p o) ≡ changed_tables Is (first_or u b p o (wire.unconnected u b)).tables
    unfolding numbers.first_connection machine.first_connection machine.roots_for unconnected wire.unconnected
    first_same b None = refl
    first_same b (Some q) = by_bool (λ c. changed_tables (found u t) (elim c [ true ↦ unconnected | false ↦ numbers.first_connection u b p q ]) ≡ changed_tables Is (one_or c (wire.unconnected u b) (machine.first_connection u b p q)).tables)
        refl (cc (exports_same (is_in u q.knows), root_same b 1 p.knows others)) (u == b)

root_name : (ws : List ℕ) (i x : ℕ) → slice_get ws i ≡ Some x → slice_get (names_in (map machine.known_root ws)) i ≡ Some (Root x)
unfolding machine.known_root begun
root_name [] i x e = cc
root_name (w ∷ ws) zero x e = let j : w ≡ x = cc in ap (λ n. Some (Root n)) j
root_name (w ∷ ws) (suc i) x e = root_name ws i x e

names_same : (ws : List ℕ) → map Root ws ≡ names_in (map machine.known_root ws)
unfolding machine.known_root begun
names_same [] = refl
names_same (w ∷ ws) = ap (λ ns. Root w ∷ ns) (names_same ws)

members_count : (script : Script) (v : ℕ) (ps : List Program) → length (numbers.fresh_from script v ps) ≡ length ps
unfolding numbers.fresh_from
members_count script v [] = refl
members_count script v (p ∷ ps) = ap suc (members_count script (suc v) ps)

pub vats_count : (script : Script) (v : ℕ) (ps : List Program) → length (machine.fresh_from script v ps) ≡ length ps
unfolding machine.fresh_from
vats_count script v [] = refl
vats_count script v (p ∷ ps) = ap suc (vats_count script (suc v) ps)

module _ (script : Script) (u : ℕ) (p : Program) (there : slice_get script.vats u ≡ Some p) where
  abbrev w : World
  w = machine.begins script

  abbrev W : Vats
  W = numbers.begins script

  abbrev s : Vat Name
  s = machine.fresh script u p

  abbrev m : Member
  m = numbers.fresh_member script u p

  abbrev t : Table
  t = table_of w u s

  own_found : found u t (Prom zero) ≡ Is (Root u)
  unfolding found table_of prom_found machine.fresh machine.known_root begun
  own_found = refl

  prom_so : (k : ℕ) (o : Option Name) (n : Name) → o ≡ Some n → prom_found k o ≡ Is n
  unfolding prom_found
  prom_so k o n e = rw e refl

  others_found : RootsFound u t 1 p.knows
  unfolding found table_of machine.fresh
  others_found i x e = let j : i + 1 ≡ suc i = omega arith in ap (λ n. found u t (Prom n)) j ∙ prom_so (suc i) (slice_get (names_in (map machine.known_root p.knows)) i) (Root x) (root_name p.knows i x e)

  -- the vat at the start, which knows these
  abbrev vat_with : List (Known Found) → Vat Found
  vat_with ks = record { number = u; fuel = script.fuel; drawn = []; things = []; slots = []; lists = []; activations = zero; messages = zero; promises = zero; queue = []; known = ks; mails = []; gifts = []; noticed = []; outbox = []; happened = [] }

  joined : {x y : Known Found} {xs ys : List (Known Found)} → x ≡ y → xs ≡ ys → x ∷ xs ≡ y ∷ ys
  joined e i = cc

  start_stands : StandsFor u t (ready W m.vat) (readied w s)
  unfolding ready readied machine.fresh numbers.fresh_member numbers.fresh_vat machine.begins numbers.begins begun machine.known_root
  start_stands = ap vat_with (joined (ap (λ n. record (begun n u) { told = machine.knowers u zero script.vats }) own_found) (known_same u t 1 p.knows others_found))

  names_known : m.names.known ≡ names_in s.known
  unfolding machine.fresh numbers.fresh_member begun machine.known_root
  names_known = ap (λ ns. Root u ∷ ns) (names_same p.knows)

  none_there : (h q j : ℕ) → exported_at w.links u h q ≡ Some j → ⊥
  unfolding machine.begins
  none_there h q j e = none_exported (machine.links_from script.vats zero script.vats) (all_fresh script.vats zero script.vats) u h q j e

  connected_so : (v : ℕ) → changed_tables (found u t) (connection_for v m) ≡ changed_tables Is (connected_at u v w.connections).tables
  unfolding machine.begins connection_for numbers.fresh_member
  connected_so v =
      ap (changed_tables (found u t)) (here_at u p zero script.vats v v (omega arith))
      ∙ first_same u t p own_found others_found v (slice_get script.vats v)
      ∙ ap (λ (c : Connected). changed_tables Is c.tables) (sym (from_at script.vats u v zero script.vats u p (omega arith) there))

  pub vat_starts : VatMirrors w W u s m
  unfolding machine.fresh numbers.fresh_member numbers.begins
  vat_starts = record {
    placed = refl;
    stands = start_stands;
    known = names_known;
    mails = refl;
    positions = λ h q j e. absurd (none_there h q j e);
    peers = here_length u p zero script.vats ∙ sym (members_count script zero script.vats);
    connections = λ v i. connected_so v;
    learnt = tt;
  }

-- ---- the world

-- the states of one program on both sides
abbrev StartOf : Script → ℕ → ℕ → List Program → Vat Name → Member → Type 0
StartOf script i v ps s m = (p : Program) × (slice_get ps i ≡ Some p) × (s ≡ machine.fresh script (i + v) p) × (m ≡ numbers.fresh_member script (i + v) p)

both_at : (script : Script) (v : ℕ) (ps : List Program) (i : ℕ) (s : Vat Name) (m : Member) → slice_get (machine.fresh_from script v ps) i ≡ Some s → slice_get (numbers.fresh_from script v ps) i ≡ Some m → StartOf script i v ps s m
unfolding machine.fresh_from numbers.fresh_from
both_at script v [] i s m e k = cc
both_at script v (p ∷ ps) zero s m e k =
    let j : v ≡ zero + v = omega arith in let a : machine.fresh script v p ≡ s = cc in let b : numbers.fresh_member script v p ≡ m = cc in
    (p, refl, sym a ∙ ap (λ x. machine.fresh script x p) j, sym b ∙ ap (λ x. numbers.fresh_member script x p) j)
both_at script v (p ∷ ps) (suc i) s m e k =
    let h = both_at script (suc v) ps i s m e k in let j : i + suc v ≡ suc i + v = omega arith in
    (h.0, h.1, h.2 ∙ ap (λ x. machine.fresh script x h.0) j, h.3 ∙ ap (λ x. numbers.fresh_member script x h.0) j)

vats_start : (script : Script) (u : ℕ) (s : Vat Name) (m : Member) → slice_get (machine.begins script).vats u ≡ Some s → slice_get (numbers.begins script).members u ≡ Some m → VatMirrors (machine.begins script) (numbers.begins script) u s m
unfolding machine.begins numbers.begins
vats_start script u s m e k =
    let h = both_at script zero script.vats u s m e k in let j : u + zero ≡ u = omega arith in
    let a : machine.fresh script u h.0 ≡ s = ap (λ x. machine.fresh script x h.0) (sym j) ∙ sym h.2 in
    let b : numbers.fresh_member script u h.0 ≡ m = ap (λ x. numbers.fresh_member script x h.0) (sym j) ∙ sym h.3 in
    subst (λ (x : Vat Name). VatMirrors (machine.begins script) (numbers.begins script) u x m) a (subst (λ (y : Member). VatMirrors (machine.begins script) (numbers.begins script) u (machine.fresh script u h.0) y) b (vat_starts script u h.0 h.1))

ways_start : (script : Script) (v u : ℕ) (x : Way) → way_at v u (numbers.begins script).ways ≡ Some x → FreshWay (length script.vats) x × (x.from ≡ v) × (x.to ≡ u)
unfolding numbers.begins
ways_start script v u x e = way_found (FreshWay (length script.vats)) v u (numbers.ways_from script.vats zero script.vats) x (ways_fresh script.vats zero script.vats (omega arith)) e

frames_start : (script : Script) (v u : ℕ) (x : Way) → x.frames ≡ [] → FramesDue (connected_at v u (machine.begins script).connections) (connected_at u v (machine.begins script).connections) x
unfolding machine.begins
frames_start script v u x e =
    let a = at_fresh v u (machine.connections_from script.vats zero script.vats) (from_fresh script.vats zero script.vats) in
    let b = at_fresh u v (machine.connections_from script.vats zero script.vats) (from_fresh script.vats zero script.vats) in
    record { ops = rw (e, a.0, b.1) refl; arrived = rw (b.1) (omega arith) }

pub start_mirrors : StartMirrors
unfolding machine.begins numbers.begins
start_mirrors script = record {
  fuel = refl;
  drawn = refl;
  history = refl;
  count = members_count script zero script.vats ∙ sym (vats_count script zero script.vats);
  ways = from_mirror script.vats zero script.vats;
  ends = λ v u x e. let h = ways_start script v u x e in let n = members_count script zero script.vats in (subst (λ k. k < length (numbers.fresh_from script zero script.vats)) h.1 (rw n h.0.1), subst (λ k. k < length (numbers.fresh_from script zero script.vats)) h.2 (rw n h.0.2));
  frames = λ v u x e c. frames_start script v u x (ways_start script v u x e).0.0;
  references = λ v i u j. at_refers v u (machine.connections_from script.vats zero script.vats) (from_refer script.vats zero script.vats);
  vats = vats_start script;
}
