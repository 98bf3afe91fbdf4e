-- What a vat has for its peers at the start.
use Rattle.std.proofs.Common.{◌≡◌, ◌==◌, ℕ, zero, suc, ◌+◌, ◌-◌, ◌<◌, ◌≤◌, Bool, true, false, cond, not, List, [], ◌∷◌, ◌++◌, map, length, drop, get_or, Option, Some, None, refl, sym, ap, subst, ◌∙◌, append_assoc, append-nil, length-append, arith}
use Rattle.std.specs.Prelude.{if◌then◌else◌, slice_get}
use Rattle.std.proofs.lemmas.List.{drop_all, drop_more}
use Rattle.std.proofs.lemmas.Cmp.{nat_eq_equiv}
use Rattle.std.proofs.lemmas.Bool.Decides.{nat_tests}
use Rattle.def_run.specs.Names.{Names}
use Rattle.def_run.specs.Numbers.{root_number}
use Rattle.def_run.specs.Vats.{unconnected}
use Rattle.def_machine.specs.State.{Vat, is_in}
use Rattle.def_machine.specs.Values.{Local, Prom}
use Rattle.def_run.specs.Connections.{Connection}
use Rattle.ev_base.specs.declared.values.Value.TheVariants as held
use Rattle.ev_vat.specs.Starting.{exported_if, first_connection, first_connections, first_table, first_tables, imported_if, root_in, rooted_member}
use Rattle.ev_vat.specs.Standing.{IsMember, with_draws}
use Rattle.ev_vat.specs.declared.member.Member.{Member}
use Rattle.ev_tables.specs.Standing.{IsKept, connection_of, is_own, is_reference, local_of}
use Rattle.ev_tables.proofs.Kept.{begins, export_keeps, importing}
use Rattle.ev_wire.specs.Learnt.{LearntGifts}
use Rattle.ev_wire.specs.Reading.{learnt_of}
use Rattle.ev_refs.specs.Follow.{host_found, host_of, hosted, place_of}
use Rattle.ev_refs.specs.References.{References, unsettled_of}
use Rattle.ev_refs.specs.declared.follow.Place.TheVariants.{FarPromise, Mine}
use Rattle.ev_refs.specs.declared.known.Known.{Known}
use Rattle.ev_room.specs.Reading.{World}
use Rattle.ev_room.specs.Sound.{IsSound}
use Rattle.ev_tables.specs.Table.{Table, fresh}
use Rattle.ev_vat.specs.Rooted as rooted
use Rattle.ev_vat.specs.Rooted.{IsRooted, each_once, root_of, root_references}
use Rattle.ev_wire.specs.Writing.{is_here, is_mine}
use Rattle.law_evaluation.proofs.Acts.Sounds.{got_last}
use Rattle.law_evaluation.specs.Arrivals.Arrivals.{vat_in}
use Rattle.ev_wire.specs.Standing.{AreFor, IsFor, connections_of}

-- ---- the number of a root

first : (ws : List ℕ) (i w : ℕ) → i < length ws → w ≡ get_or ws i w → drop i ws ≡ w ∷ drop (i + 1) ws
first ws i w lt is = drop_more ws i w lt ∙ ap (λ (z : ℕ). z ∷ drop (i + 1) ws) (sym is)

root_at : (k v : ℕ) (ws : List ℕ) (i w : ℕ) → i < length ws → w ≡ get_or ws i w → (b : Bool) → b ≡ (w == v) → root_in k v (drop i ws) ≡ cond b (Some k) (root_in (suc k) v (drop (i + 1) ws))
unfolding root_in
root_at k v ws i w lt is b e = ap (root_in k v) (first ws i w lt is) ∙ ap (λ (x : Bool). cond x (Some k) (root_in (suc k) v (drop (i + 1) ws))) (sym e)

pub root_here : (v : ℕ) (ws : List ℕ) (i w : ℕ) → i < length ws → w ≡ get_or ws i w → true ≡ (w == v) → root_in (i + 1) v (drop i ws) ≡ root_in 1 v ws → Some (i + 1) ≡ root_in 1 v ws
root_here v ws i w lt is e so_far = sym (root_at (i + 1) v ws i w lt is true e) ∙ so_far

pub root_on : (v : ℕ) (ws : List ℕ) (i w : ℕ) → i < length ws → w ≡ get_or ws i w → false ≡ (w == v) → root_in (i + 1) v (drop i ws) ≡ root_in 1 v ws → root_in (i + 1 + 1) v (drop (i + 1) ws) ≡ root_in 1 v ws
root_on v ws i w lt is e so_far =
    let next : i + 1 + 1 ≡ suc (i + 1) = omega arith in
    ap (λ (k : ℕ). root_in k v (drop (i + 1) ws)) next ∙ sym (root_at (i + 1) v ws i w lt is false e) ∙ so_far

pub root_none : (v : ℕ) (ws : List ℕ) (i : ℕ) → length ws ≤ i → root_in (i + 1) v (drop i ws) ≡ root_in 1 v ws → None ≡ root_in 1 v ws
unfolding root_in
root_none v ws i le so_far = ap (root_in (i + 1) v) (sym (drop_all i ws le)) ∙ so_far

-- ---- one table

pub other_table : (u v : ℕ) (ks bs : List ℕ) (b : Bool) (o : Option ℕ) (t s z : Table) → true ≡ not (u == v) → b ≡ is_in v bs → o ≡ root_in 1 v ks → t ≡ fresh v → s ≡ exported_if b t → z ≡ imported_if o s → z ≡ first_table u v ks bs
unfolding first_table
other_table u v ks bs b o t s z e f g h i j =
    j ∙ ap (λ (x : Table). imported_if o x) (i ∙ ap (λ (x : Table). exported_if b x) h ∙ ap (λ (x : Bool). exported_if x (fresh v)) f) ∙ ap (λ (x : Option ℕ). imported_if x (exported_if (is_in v bs) (fresh v))) g
    ∙ by_test (u == v) e
  where
    by_test : (c : Bool) → true ≡ not c → imported_if (root_in 1 v ks) (exported_if (is_in v bs) (fresh v)) ≡ cond c (fresh v) (imported_if (root_in 1 v ks) (exported_if (is_in v bs) (fresh v)))
    by_test false x = refl
    by_test true x = absurd cc

pub own_table : (u v : ℕ) (ks bs : List ℕ) (t z : Table) → false ≡ not (u == v) → t ≡ fresh v → z ≡ t → z ≡ first_table u v ks bs
unfolding first_table
own_table u v ks bs t z e h j = j ∙ h ∙ by_test (u == v) e
  where
    by_test : (c : Bool) → false ≡ not c → fresh v ≡ cond c (fresh v) (imported_if (root_in 1 v ks) (exported_if (is_in v bs) (fresh v)))
    by_test true x = refl
    by_test false x = absurd cc

-- ---- all

pub tables_on : (u v n : ℕ) (ks bs : List ℕ) (front after total : List Table) (t : Table) → v < n → t ≡ first_table u v ks bs → after ≡ front ++ t ∷ [] → front ++ first_tables u v (n - v) ks bs ≡ total
    → after ++ first_tables u (v + 1) (n - (v + 1)) ks bs ≡ total
unfolding first_tables
tables_on u v n ks bs front after total t lt is grown so_far =
    let left : n - v ≡ suc (n - (v + 1)) = omega arith in
    let next : v + 1 ≡ suc v = omega arith in
    ap (λ (xs : List Table). xs ++ first_tables u (v + 1) (n - (v + 1)) ks bs) grown
    ∙ append_assoc front (t ∷ []) (first_tables u (v + 1) (n - (v + 1)) ks bs)
    ∙ ap (λ (x : Table). front ++ x ∷ first_tables u (v + 1) (n - (v + 1)) ks bs) is
    ∙ ap (λ (k : ℕ). front ++ first_table u v ks bs ∷ first_tables u k (n - (v + 1)) ks bs) next
    ∙ ap (λ (k : ℕ). front ++ first_tables u v k ks bs) (sym left)
    ∙ so_far

pub tables_done : (u v n : ℕ) (ks bs : List ℕ) (front total : List Table) → n ≤ v → front ++ first_tables u v (n - v) ks bs ≡ total → front ≡ total
unfolding first_tables
tables_done u v n ks bs front total le so_far =
    let none : n - v ≡ zero = omega arith in
    sym (append-nil front) ∙ ap (λ (k : ℕ). front ++ first_tables u v k ks bs) (sym none) ∙ so_far

-- ---- the machine's connections

abbrev numbers_of : Option ℕ → List Local
numbers_of (Some n) = Prom n ∷ []
numbers_of None = []

roots_at : (k v : ℕ) (ws : List ℕ) → root_number (suc k) v ws ≡ numbers_of (root_in (suc k) v ws) → (b : Bool)
    → ◌≡◌ {A = List Local} (elim b [ true ↦ Prom k ∷ [] | false ↦ root_number (suc k) v ws ]) (numbers_of (cond b (Some k) (root_in (suc k) v ws)))
roots_at k v ws so true = refl
roots_at k v ws so false = so

roots_are : (k v : ℕ) (ws : List ℕ) → root_number k v ws ≡ numbers_of (root_in k v ws)
unfolding root_number root_in
roots_are k v [] = refl
roots_are k v (w ∷ ws) = roots_at k v ws (roots_are (suc k) v ws) (w == v)

abbrev having : Bool → List Local → Connection Local
having e ns = record { exports = elim e [ true ↦ Prom zero ∷ [] | false ↦ [] ]; imports = ns; questions = []; answers = [] }

told_is : (v : ℕ) (e : Bool) (o : Option ℕ) → connection_of (imported_if o (exported_if e (fresh v))) ≡ having e (numbers_of o)
unfolding local_of
told_is v true (Some n) = refl
told_is v true None = refl
told_is v false (Some n) = refl
told_is v false None = refl

one_is : (v : ℕ) (ks bs : List ℕ) (b : Bool) → connection_of (cond b (fresh v) (imported_if (root_in 1 v ks) (exported_if (is_in v bs) (fresh v)))) ≡ elim b [ true ↦ unconnected | false ↦ having (is_in v bs) (root_number 1 v ks) ]
unfolding unconnected
one_is v ks bs true = refl
one_is v ks bs false = told_is v (is_in v bs) (root_in 1 v ks) ∙ ap (having (is_in v bs)) (sym (roots_are 1 v ks))

table_is : (u v : ℕ) (ks bs : List ℕ) → connection_of (first_table u v ks bs) ≡ first_connection u v ks bs
unfolding first_table first_connection
table_is u v ks bs = one_is v ks bs (u == v)

pub all_are : (u v n : ℕ) (ks bs : List ℕ) → connections_of (first_tables u v n ks bs) ≡ first_connections u v n ks bs
unfolding first_tables first_connections
all_are u v zero ks bs = refl
all_are u v (suc n) ks bs =
    ap (λ (c : Connection Local). c ∷ connections_of (first_tables u (suc v) n ks bs)) (table_is u v ks bs)
    ∙ ap (λ (cs : List (Connection Local)). first_connection u v ks bs ∷ cs) (all_are u (suc v) n ks bs)

-- ---- each is as it is to be

same_number : (a b : ℕ) → true ≡ (a == b) → a ≡ b
same_number a b e = grind (arith, nat_tests)

module _ (u : ℕ) where
  root_host_at : (pre : List Known) (j v w : ℕ) (ws : List ℕ) (k : ℕ) (b : Bool) → length pre ≡ j → b ≡ (w == v) → cond b (Some j) (root_in (suc j) v ws) ≡ Some k
      → (root_in (suc j) v ws ≡ Some k → host_found u (slice_get ((pre ++ unsettled_of w ∷ []) ++ map unsettled_of ws) k) ≡ v)
      → host_found u (slice_get (pre ++ unsettled_of w ∷ map unsettled_of ws) k) ≡ v
  unfolding host_found
  root_host_at pre j v w ws k true l e f so =
      let at : length pre ≡ k = let g : j ≡ k = cc in l ∙ g in
      ap (λ (n : ℕ). host_found u (slice_get (pre ++ unsettled_of w ∷ map unsettled_of ws) n)) (sym at)
      ∙ ap (λ (xs : List Known). host_found u (slice_get xs (length pre))) (sym (append_assoc pre (unsettled_of w ∷ []) (map unsettled_of ws)))
      ∙ ap (host_found u) (got_last pre (unsettled_of w) (map unsettled_of ws))
      ∙ same_number w v e
  root_host_at pre j v w ws k false l e f so =
      ap (λ (xs : List Known). host_found u (slice_get xs k)) (sym (append_assoc pre (unsettled_of w ∷ []) (map unsettled_of ws))) ∙ so f

  root_host : (pre : List Known) (j v : ℕ) (ws : List ℕ) (k : ℕ) → length pre ≡ j → root_in j v ws ≡ Some k → host_found u (slice_get (pre ++ map unsettled_of ws) k) ≡ v
  unfolding root_in
  root_host pre j v [] k l e = absurd cc
  root_host pre j v (w ∷ ws) k l e =
      let more : length (pre ++ unsettled_of w ∷ []) ≡ suc j = omega (arith, length-append pre (unsettled_of w ∷ []), l) in
      root_host_at pre j v w ws k (w == v) l refl e (root_host (pre ++ unsettled_of w ∷ []) (suc j) v ws k more)

here_if : (n h : ℕ) (b : Bool) → is_here (if b then Mine n else FarPromise h n) ≡ b
here_if n h true = refl
here_if n h false = refl

module _ (u : ℕ) (ks bs : List ℕ) where
  abbrev r : References
  r = root_references u ks bs

  root_mine : is_mine r 0 ≡ true
  unfolding is_mine place_of hosted host_of host_found
  root_mine = here_if 0 u (u == u) ∙ nat_eq_equiv.refl u

  root_other : (v k : ℕ) → root_in 1 v ks ≡ Some k → false ≡ (u == v) → is_mine r k ≡ false
  unfolding is_mine place_of hosted host_of
  root_other v k e f =
      let h : host_found u (slice_get r.known k) ≡ v = root_host u (root_of u (each_once bs) ∷ []) 1 v ks k refl e in
      here_if k (host_found u (slice_get r.known k)) (u == host_found u (slice_get r.known k)) ∙ ap (λ (x : ℕ). u == x) h ∙ sym f

  exported_kept : (v : ℕ) (e : Bool) → IsKept (is_mine r) (exported_if e (fresh v))
  unfolding is_own is_reference local_of
  exported_kept v true = export_keeps (is_mine r) (held.Prom 0) (fresh v) refl root_mine refl (begins (is_mine r) v)
  exported_kept v false = begins (is_mine r) v

  imported_for : (v : ℕ) (e : Bool) (o : Option ℕ) → o ≡ root_in 1 v ks → false ≡ (u == v) → IsFor r v (imported_if o (exported_if e (fresh v)))
  unfolding is_own is_reference local_of
  imported_for v true (Some k) f g = record { peer = refl; is_open = refl; kept = importing (is_mine r) (held.Prom k) (exported_if true (fresh v)) refl (root_other v k (sym f) g) (exported_kept v true) }
  imported_for v false (Some k) f g = record { peer = refl; is_open = refl; kept = importing (is_mine r) (held.Prom k) (fresh v) refl (root_other v k (sym f) g) (exported_kept v false) }
  imported_for v true None f g = record { peer = refl; is_open = refl; kept = exported_kept v true }
  imported_for v false None f g = record { peer = refl; is_open = refl; kept = exported_kept v false }

  one_for : (v : ℕ) (b : Bool) → b ≡ (u == v) → IsFor r v (cond b (fresh v) (imported_if (root_in 1 v ks) (exported_if (is_in v bs) (fresh v))))
  one_for v true e = record { peer = refl; is_open = refl; kept = begins (is_mine r) v }
  one_for v false e = imported_for v (is_in v bs) (root_in 1 v ks) refl e

  table_for : (v : ℕ) → IsFor r v (first_table u v ks bs)
  unfolding first_table
  table_for v = one_for v (u == v) refl

  tables_for : (v n w : ℕ) (t : Table) → slice_get (first_tables u v n ks bs) w ≡ Some t → IsFor r (v + w) t
  unfolding first_tables
  tables_for v zero w t e = absurd cc
  tables_for v (suc n) zero t e =
      let here : first_table u v ks bs ≡ t = cc in
      let at : v ≡ v + 0 = omega arith in
      subst (λ (x : Table). IsFor r (v + 0) x) here (subst (λ (k : ℕ). IsFor r k (first_table u v ks bs)) at (table_for v))
  tables_for v (suc n) (suc w) t e =
      let at : suc v + w ≡ v + suc w = omega arith in
      subst (λ (k : ℕ). IsFor r k t) at (tables_for (suc v) n w t e)

  pub all_for : (n : ℕ) → AreFor r (first_tables u 0 n ks bs)
  all_for n = λ w t e. let at : 0 + w ≡ w = omega arith in subst (λ (k : ℕ). IsFor r k t) at (tables_for 0 n w t e)

-- ---- the member

pub begins_so : (fuel u n : ℕ) (ks bs key : List ℕ) (names : Names) (c : Member) → IsRooted u ks bs key c.vat.host.inside
    → ((w : World) → vat_in w c.vat.host ≡ record (rooted.fresh u fuel ks bs) { outbox = w.before.outbox; happened = w.before.happened })
    → IsSound c.vat.host.inside → c.vat.stopped ≡ None → c.learnt ≡ [] → c.connections.items ≡ first_tables u 0 n ks bs → IsMember (rooted_member fuel u n ks bs names) c
begins_so fuel u n ks bs key names c root begun sound going learnt tables = record {
  vat = λ w e. ap (λ (s : Vat Local). with_draws 0 [] s) (begun w);
  rest = record {
    sound = sound;
    going = going;
    learnt = ap (λ (l : LearntGifts). map learnt_of l) learnt;
    connections = ap connections_of tables ∙ all_are u 0 n ks bs;
    tables = subst (λ (x : References). AreFor x c.connections.items) (sym root.refs) (subst (λ (ts : List Table). AreFor (root_references u ks bs) ts) (sym tables) (all_for u ks bs n));
  };
}
