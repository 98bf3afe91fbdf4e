-- A vat of a run in numbers at the start.
use Rattle.std.proofs.Common.{◌≡◌, ◌==◌, ◌+◌, ℕ, zero, suc, Bool, true, false, List, [], ◌∷◌, Option, Some, None, get_or, length, map, slice_get, refl, sym, ap, ◌∙◌, arith}
use Rattle.std.proofs.lemmas.Bool.Decides.{Decides-eqb}
use Rattle.def_run.specs.Numbers.{connections_from, first_connection, fresh_from, fresh_member, fresh_vat, root_number, roots_known}
use Rattle.def_run.specs.Vats.{Member, connection_for, unconnected}
use Rattle.def_machine.specs.State.{Known, Vat, begun, is_in}
use Rattle.def_machine.specs.Values.{Local, Prom, Root}
use Rattle.def_run.specs.Connections.{Connection}
use Rattle.def_run.specs.World.{Program, Script, knowers}
use Rattle.ev_resident.specs.MemberStarting as ours
use Rattle.ev_resident.specs.MemberStarting.{first_connections, rooted_member}
use Rattle.ev_resident.specs.OutcomeStanding.{exported_to, object_number}
use Rattle.ev_resident.specs.Rooted as rooted
use Rattle.ev_world.proofs.StartingKnowers.{each_knows_once, knows_so, some_is}
use Rattle.ev_world.proofs.StartingRoots.{root_if}

-- ---- the members

-- the member at a place is that of the program there
member_from : (S : Script) (k : ℕ) (ps : List Program) (u : ℕ) (m : Member) → slice_get (fresh_from S k ps) u ≡ Some m → (p : Program) × (slice_get ps u ≡ Some p) × (m ≡ fresh_member S (k + u) p)
unfolding fresh_from
member_from S k [] u m e = absurd cc
member_from S k (p ∷ ps) zero m e =
    let at : k ≡ k + zero = omega arith in
    (p, refl, sym (some_is e) ∙ ap (λ (j : ℕ). fresh_member S j p) at)
member_from S k (p ∷ ps) (suc u) m e =
    let at : suc k + u ≡ k + suc u = omega arith in
    let rest = member_from S (suc k) ps u m e in
    (rest.0, rest.1, rest.2 ∙ ap (λ (j : ℕ). fresh_member S j rest.0) at)

pub member_at : (S : Script) (u : ℕ) (m : Member) → slice_get (fresh_from S zero S.vats) u ≡ Some m → (p : Program) × (slice_get S.vats u ≡ Some p) × (m ≡ fresh_member S u p)
member_at S u m e =
    let at : zero + u ≡ u = omega arith in
    let found = member_from S zero S.vats u m e in
    (found.0, found.1, found.2 ∙ ap (λ (j : ℕ). fresh_member S j found.0) at)

pub many_fresh : (S : Script) (k : ℕ) (ps : List Program) → length (fresh_from S k ps) ≡ length ps
unfolding fresh_from
many_fresh S k [] = refl
many_fresh S k (p ∷ ps) = ap suc (many_fresh S (suc k) ps)

-- ---- the vat of a member

roots_alike : (k : ℕ) (vs : List ℕ) → rooted.roots_known k vs ≡ roots_known k vs
unfolding roots_known
roots_alike k [] = refl
roots_alike k (v ∷ vs) = ap (λ (ks : List (Known Local)). begun (Prom k) v ∷ ks) (roots_alike (suc k) vs)

vat_is : (S : Script) (u : ℕ) (p : Program) → rooted.fresh u S.fuel p.knows (knowers u zero S.vats) ≡ fresh_vat S u p
unfolding fresh_vat
vat_is S u p =
    let vat : List ℕ → List (Known Local) → Vat Local = λ told ks. record (rooted.fresh u S.fuel p.knows []) { known = record (begun (Prom zero) u) { told = told } ∷ ks } in
    ap (λ (told : List ℕ). vat told (rooted.roots_known 1 p.knows)) (each_knows_once u S.vats) ∙ ap (λ (ks : List (Known Local)). vat (knowers u zero S.vats) ks) (roots_alike 1 p.knows)

-- ---- its connections

abbrev connection_if : Bool → Bool → List Local → Connection Local
connection_if same known ns = elim same [
  | true ↦ unconnected
  | false ↦ record { exports = elim known [ true ↦ Prom zero ∷ [] | false ↦ [] ]; imports = ns; questions = []; answers = [] }
]

connections_are : (u : ℕ) (p : Program) (ks : List ℕ) (v : ℕ) (qs : List Program) → ((i : ℕ) (q : Program) → slice_get qs i ≡ Some q → is_in (v + i) ks ≡ is_in u q.knows)
    → first_connections u v (length qs) p.knows ks ≡ connections_from u p v qs
unfolding first_connections ours.first_connection connections_from first_connection
connections_are u p ks v [] each = refl
connections_are u p ks v (q ∷ qs) each =
    let here : v + zero ≡ v = omega arith in
    let known : is_in v ks ≡ is_in u q.knows = ap (λ (j : ℕ). is_in j ks) (sym here) ∙ each zero q refl in
    ap (λ (b : Bool). connection_if (u == v) b (root_number 1 v p.knows) ∷ first_connections u (suc v) (length qs) p.knows ks) known
    ∙ ap (λ (cs : List (Connection Local)). connection_if (u == v) (is_in u q.knows) (root_number 1 v p.knows) ∷ cs)
    (connections_are u p ks (suc v) qs (λ i o e. let at : suc v + i ≡ v + suc i = omega arith in ap (λ (j : ℕ). is_in j ks) at ∙ each (suc i) o e))

-- a member that starts so in the code's terms is that of the run
pub member_is : (S : Script) (u : ℕ) (p : Program) → rooted_member S.fuel u (length S.vats) p.knows (knowers u zero S.vats) (record { known = Root u ∷ map Root p.knows; mails = [] }) ≡ fresh_member S u p
unfolding fresh_member
member_is S u p =
    let member : Vat Local → List (Connection Local) → Member = λ s cs. record { vat = s; learnt = []; connections = cs; names = record { known = Root u ∷ map Root p.knows; mails = [] } } in
    let ks = knowers u zero S.vats in
    ap (λ (s : Vat Local). member s (first_connections u zero (length S.vats) p.knows ks)) (vat_is S u p)
    ∙ ap (λ (cs : List (Connection Local)). member (fresh_vat S u p) cs) (connections_are u p ks zero S.vats (λ i q e. knows_so u zero i S.vats q e))

-- ---- what it exported

abbrev exported_by : Script → ℕ → ℕ → Option Program → List Local
exported_by S u h None = []
exported_by S u h (Some q) = (connection_for u (fresh_member S h q)).exports

exported_from : (S : Script) (u k : ℕ) (ps : List Program) (h : ℕ) → exported_to u (slice_get (fresh_from S k ps) h) ≡ exported_by S u (k + h) (slice_get ps h)
unfolding fresh_from
exported_from S u k [] h = refl
exported_from S u k (p ∷ ps) zero = let at : k ≡ k + zero = omega arith in ap (λ (j : ℕ). (connection_for u (fresh_member S j p)).exports) at
exported_from S u k (p ∷ ps) (suc h) =
    let at : suc k + h ≡ k + suc h = omega arith in
    exported_from S u (suc k) ps h ∙ ap (λ (j : ℕ). exported_by S u j (slice_get ps h)) at

abbrev between : Bool → ℕ → ℕ → Program → Program → Connection Local
between b h u q p = elim b [ true ↦ unconnected | false ↦ first_connection h u q p ]

connection_at : (h : ℕ) (q : Program) (k : ℕ) (ps : List Program) (i : ℕ) (p : Program) → slice_get ps i ≡ Some p → get_or (connections_from h q k ps) i unconnected ≡ between (h == k + i) h (k + i) q p
unfolding connections_from
connection_at h q k [] i p e = absurd cc
connection_at h q k (o ∷ ps) zero p e =
    let at : k ≡ k + zero = omega arith in
    ap (λ (r : Program). between (h == k) h k q r) (some_is e) ∙ ap (λ (j : ℕ). between (h == j) h j q p) at
connection_at h q k (o ∷ ps) (suc i) p e =
    let at : suc k + i ≡ k + suc i = omega arith in
    connection_at h q (suc k) ps i p e ∙ ap (λ (j : ℕ). between (h == j) h j q p) at

objects_if : (known : Bool) → map object_number (elim known [ true ↦ Prom zero ∷ [] | false ↦ [] ]) ≡ root_if known
objects_if true = refl
objects_if false = refl

objects_between : (h u : ℕ) (q p : Program) (b : Bool) → b ≡ (h == u) → is_in u p.knows ≡ false → map object_number (between b h u q p).exports ≡ root_if (is_in h p.knows)
unfolding first_connection unconnected
objects_between h u q p true same alone =
    let at : h ≡ u = (Decides-eqb h u).0 (sym same) in
    ap root_if (sym (ap (λ (j : ℕ). is_in j p.knows) at ∙ alone))
objects_between h u q p false same alone = objects_if (is_in h p.knows)

module _ (S : Script) (u : ℕ) (p : Program) (here : slice_get S.vats u ≡ Some p) where
  -- a vat exported its root to the one at that place if that knows it, and nothing else
  exports_are : (h : ℕ) (o : Option Program) → o ≡ slice_get S.vats h → is_in u p.knows ≡ false → (slice_get S.vats h ≡ None → is_in h p.knows ≡ false) → map object_number (exported_by S u h o) ≡ root_if (is_in h p.knows)
  unfolding fresh_member connection_for
  exports_are h None e alone beyond = ap root_if (sym (beyond (sym e)))
  exports_are h (Some q) e alone beyond =
      let at : zero + u ≡ u = omega arith in
      ap (λ (c : Connection Local). map object_number c.exports) (connection_at h q zero S.vats u p here ∙ ap (λ (j : ℕ). between (h == j) h j q p) at)
      ∙ objects_between h u q p (h == u) refl alone

  pub exports_at : (h : ℕ) → is_in u p.knows ≡ false → (slice_get S.vats h ≡ None → is_in h p.knows ≡ false) → map object_number (exported_to u (slice_get (fresh_from S zero S.vats) h)) ≡ root_if (is_in h p.knows)
  exports_at h alone beyond =
      let at : zero + h ≡ h = omega arith in
      ap (map object_number) (exported_from S u zero S.vats h ∙ ap (λ (j : ℕ). exported_by S u j (slice_get S.vats h)) at)
      ∙ exports_are h (slice_get S.vats h) refl alone beyond
