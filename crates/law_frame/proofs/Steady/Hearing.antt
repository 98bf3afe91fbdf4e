-- What a vat has for the sender of a frame once it was heard: what stands there for the sender is of the sender, and what the sender asked for is the vat's own.
use Rattle.std.proofs.Common.{◌≡◌, ℕ, zero, suc, ◌<◌, Bool, true, false, List, [], ◌∷◌, ◌++◌, ◌⊎◌, inl, inr, Some, refl, ap, ◌∙◌, subst, length, drop, map, get_or, arith, ◌==◌}
use Rattle.std.specs.Prelude.{slice_get, slice_set}
use Rattle.std.proofs.lemmas.Bool.{eqb-true, eq-eqb}
use Rattle.std.proofs.lemmas.List.{length-set}
use Rattle.std.proofs.lemmas.Option.{slice_get_within}
use Rattle.def_machine.specs.Values.{Name, Local, host_of}
use Rattle.def_machine.specs.State.{Note, Put, Vat}
use Rattle.def_machine.specs.Arrive.{Incoming}
use Rattle.def_run.specs.Connections.{Connection, Sight, Heard, put_on}
use Rattle.def_run.specs.Wire.{connected_at}
use Rattle.law_fate.specs.Name.Names.{AllOf}
use Rattle.law_machine.specs.Renamed.Stands.{Found, Is, found}
use Rattle.law_reference.specs.Reference.Tables.{table_of}
use Rattle.law_frame.specs.Frame.Together.{TablesMay, changed_tables}
use Rattle.law_frame.specs.Frame.OwnFrames.{refers}
use Rattle.def_run.specs.Vats.{Member, connection_for, unconnected, heard_on, asked_by, sight_for}
use Rattle.def_run.specs.Numbers.{Vats, all_written, written_on}
use Rattle.def_run.specs.Steady.{AllOwn}
use Rattle.law_frame.proofs.Steady.Owns.{own_by_host}
use Rattle.law_frame.proofs.Steady.Went.{Grows, Pair, is, now, table}

-- ---- what is written leaves imports and answers as they were

pub set_or : {A : Type 0} (xs : List A) (i v : ℕ) (y d : A) → (get_or (slice_set xs i y) v d ≡ get_or xs v d) ⊎ ((i ≡ v) × (i < length xs) × (get_or (slice_set xs i y) v d ≡ y))
set_or [] i v y d = inl refl
set_or (x ∷ xs) zero zero y d = inr (refl, omega arith, refl)
set_or (x ∷ xs) zero (suc v) y d = inl refl
set_or (x ∷ xs) (suc i) zero y d = inl refl
set_or (x ∷ xs) (suc i) (suc v) y d = by (set_or xs i v y d)
  where
    by : (get_or (slice_set xs i y) v d ≡ get_or xs v d) ⊎ ((i ≡ v) × (i < length xs) × (get_or (slice_set xs i y) v d ≡ y))
        → (get_or (slice_set xs i y) v d ≡ get_or xs v d) ⊎ ((suc i ≡ suc v) × (suc i < suc (length xs)) × (get_or (slice_set xs i y) v d ≡ y))
    by (inl e) = inl e
    by (inr e) = let l = e.1 in inr (ap suc e.0, omega arith, e.2)

pub set_at : {A : Type 0} (xs : List A) (v : ℕ) (y d : A) → v < length xs → get_or (slice_set xs v y) v d ≡ y
set_at [] v y d h = absurd (omega arith)
set_at (x ∷ xs) zero y d h = refl
set_at (x ∷ xs) (suc v) y d h = set_at xs v y d (omega arith)

put_imports : (S : Sight Local) (n : Note Local) (c : Connection Local) → (put_on S n c).imports ≡ c.imports
unfolding put_on
put_imports S n c = refl

put_answers : (S : Sight Local) (n : Note Local) (c : Connection Local) → (put_on S n c).answers ≡ c.answers
unfolding put_on
put_answers S n c = refl

pub unlike : (v u : ℕ) → (v ≡ u → ⊥) → (v == u) ≡ false
unlike v u other = by (v == u) refl
  where
    by : (b : Bool) → (v == u) ≡ b → b ≡ false
    by true e = absurd (other (eqb-true v u e))
    by false e = refl

pub all_length : (s : Vat Local) (ps : List (Put Local)) (cs : List (Connection Local)) → length (all_written s ps cs) ≡ length cs
unfolding all_written written_on
all_length s [] cs = refl
all_length s (p ∷ ps) cs = all_length s ps (written_on s p cs) ∙ length-set cs p.to (put_on (sight_for s p.note) p.note (get_or cs p.to unconnected))

module _ (s : Vat Local) (v : ℕ) where
  -- the connection for v is as it was, or that note was put on it
  pub written_or : (p : Put Local) (cs : List (Connection Local)) → (get_or (written_on s p cs) v unconnected ≡ get_or cs v unconnected) ⊎ ((p.to ≡ v) × (p.to < length cs) × (get_or (written_on s p cs) v unconnected ≡ put_on (sight_for s p.note) p.note (get_or cs v unconnected)))
  unfolding written_on
  written_or p cs = by (set_or cs p.to v (put_on (sight_for s p.note) p.note (get_or cs p.to unconnected)) unconnected)
    where
      ds : List (Connection Local)
      ds = slice_set cs p.to (put_on (sight_for s p.note) p.note (get_or cs p.to unconnected))

      by : (get_or ds v unconnected ≡ get_or cs v unconnected) ⊎ ((p.to ≡ v) × (p.to < length cs) × (get_or ds v unconnected ≡ put_on (sight_for s p.note) p.note (get_or cs p.to unconnected)))
          → (get_or ds v unconnected ≡ get_or cs v unconnected) ⊎ ((p.to ≡ v) × (p.to < length cs) × (get_or ds v unconnected ≡ put_on (sight_for s p.note) p.note (get_or cs v unconnected)))
      by (inl e) = inl e
      by (inr e) = inr (e.0, e.1, e.2 ∙ ap (λ (z : ℕ). put_on (sight_for s p.note) p.note (get_or cs z unconnected)) e.0)

  pub imports_stay : (ps : List (Put Local)) (cs : List (Connection Local)) → (get_or (all_written s ps cs) v unconnected).imports ≡ (get_or cs v unconnected).imports
  unfolding all_written
  imports_stay [] cs = refl
  imports_stay (p ∷ ps) cs = imports_stay ps (written_on s p cs) ∙ by (written_or p cs)
    where
      by : (get_or (written_on s p cs) v unconnected ≡ get_or cs v unconnected) ⊎ ((p.to ≡ v) × (p.to < length cs) × (get_or (written_on s p cs) v unconnected ≡ put_on (sight_for s p.note) p.note (get_or cs v unconnected))) → (get_or (written_on s p cs) v unconnected).imports ≡ (get_or cs v unconnected).imports
      by (inl e) = ap (λ (c : Connection Local). c.imports) e
      by (inr e) = ap (λ (c : Connection Local). c.imports) e.2 ∙ put_imports (sight_for s p.note) p.note (get_or cs v unconnected)

  pub answers_stay : (ps : List (Put Local)) (cs : List (Connection Local)) → (get_or (all_written s ps cs) v unconnected).answers ≡ (get_or cs v unconnected).answers
  unfolding all_written
  answers_stay [] cs = refl
  answers_stay (p ∷ ps) cs = answers_stay ps (written_on s p cs) ∙ by (written_or p cs)
    where
      by : (get_or (written_on s p cs) v unconnected ≡ get_or cs v unconnected) ⊎ ((p.to ≡ v) × (p.to < length cs) × (get_or (written_on s p cs) v unconnected ≡ put_on (sight_for s p.note) p.note (get_or cs v unconnected))) → (get_or (written_on s p cs) v unconnected).answers ≡ (get_or cs v unconnected).answers
      by (inl e) = ap (λ (c : Connection Local). c.answers) e
      by (inr e) = ap (λ (c : Connection Local). c.answers) e.2 ∙ put_answers (sight_for s p.note) p.note (get_or cs v unconnected)

-- ---- what is all of one vat

module _ (b : Bool) (s : Vat Local) where
  own_last : (xs ys : List Local) → AllOwn b s (xs ++ ys) → AllOwn b s ys
  own_last [] ys h = h
  own_last (x ∷ xs) ys h = own_last xs ys h.1

  own_drop : (k : ℕ) (xs : List Local) → AllOwn b s xs → AllOwn b s (drop k xs)
  own_drop zero xs h = h
  own_drop (suc k) [] h = h
  own_drop (suc k) (x ∷ xs) h = own_drop k xs h.1

-- Vat u, which was m in numbers, is k.
module _ (X Y : Vats) (p : Pair X Y) (u : ℕ) (m k : Member) (there : slice_get X.members u ≡ Some m) (here : slice_get Y.members u ≡ Some k) (grows : Grows m.names k.names) where
  abbrev f : Local → Found
  f = found u (table_of p.y u (is X Y p u m k there here grows).0)

  all_own : (v : ℕ) (b : Bool) → (v == u) ≡ b → (xs : List Local) (ns : List Name) → map f xs ≡ map Is ns → AllOf (λ n. host_of n ≡ v) ns → AllOf (λ n. refers n ≡ true) ns → AllOwn b k.vat xs
  all_own v b e [] ns i h r = tt
  all_own v b e (x ∷ xs) [] i h r = cc
  all_own v b e (x ∷ xs) (n ∷ ns) i h r =
      let first : f x ≡ Is n = cc in let rest : map f xs ≡ map Is ns = cc in let y = is X Y p u m k there here grows in
      (own_by_host p.y Y u y.0 k (table X Y p u m k there here grows) (p.hosts_now u y.0 y.1) (now X Y p u m k there here grows) x n first r.0 ∙ ap (λ z. z == u) h.0 ∙ e, all_own v b e xs ns rest h.1 r.1)

  module _ (v : ℕ) (low : v < length Y.members) where
    same : changed_tables f (connection_for v k) ≡ changed_tables Is (connected_at u v (let w = p.y in w.connections)).tables
    same = let h = now X Y p u m k there here grows in h.connections v low

    may : TablesMay refers (connected_at u v (let w = p.y in w.connections)).tables
    may = let h = p.after in h.references u (slice_get_within Y.members u k here) v low

    pub imports_of : (v ≡ u → ⊥) → AllOf (λ n. host_of n ≡ v) (connected_at u v (let w = p.y in w.connections)).tables.imports → AllOwn false k.vat (connection_for v k).imports
    imports_of other h = all_own v false (unlike v u other) (connection_for v k).imports (connected_at u v (let w = p.y in w.connections)).tables.imports (ap (λ (z : Connection Found). z.imports) same) h (let t = may in t.imports)

    pub answers_of : AllOf (λ n. host_of n ≡ u) (connected_at u v (let w = p.y in w.connections)).tables.answers → AllOwn true k.vat (connection_for v k).answers
    answers_of h = all_own u true (eq-eqb u u refl) (connection_for v k).answers (connected_at u v (let w = p.y in w.connections)).tables.answers (ap (λ (z : Connection Found). z.answers) same) h (let t = may in t.answers)

-- ---- once a frame was heard

module _ (s : Vat Local) (v : ℕ) (m : Member) (h : Heard Local (Note (Incoming Local Local))) (low : v < length m.connections) where
  abbrev cs : List (Connection Local)
  cs = slice_set m.connections v (heard_on h s (connection_for v m))

  heard_at : get_or cs v unconnected ≡ heard_on h s (connection_for v m)
  heard_at = set_at m.connections v (heard_on h s (connection_for v m)) unconnected low

  pub imports_heard : AllOwn false s (get_or (all_written s s.outbox cs) v unconnected).imports → AllOwn false s (drop (length (connection_for v m).imports) h.after.imports)
  unfolding heard_on
  imports_heard a = own_drop false s (length (connection_for v m).imports) h.after.imports (subst (AllOwn false s) (imports_stay s v s.outbox cs ∙ ap (λ (c : Connection Local). c.imports) heard_at) a)

  pub answers_heard : AllOwn true s (get_or (all_written s s.outbox cs) v unconnected).answers → AllOwn true s (asked_by h.after.known s h.read)
  unfolding heard_on
  answers_heard a = own_last true s (connection_for v m).answers (asked_by h.after.known s h.read) (subst (AllOwn true s) (answers_stay s v s.outbox cs ∙ ap (λ (c : Connection Local). c.answers) heard_at) a)
