-- In every run the names of a vat rest as it takes a turn.
use Rattle.std.proofs.Common.{◌≡◌, ℕ, zero, suc, ◌<◌, true, false, List, [], ◌∷◌, ◌++◌, Option, Some, None, refl, sym, ap, ◌∙◌, subst, inl, inr, ◌==◌}
use lib.Dec.{eqb-zero-suc, eqb-suc-suc}
use Rattle.std.specs.Prelude.{slice_get}
use Rattle.def_machine.specs.Values.{Value, Name, Root, Object, Promise, Answer, Sent, Naming, naming, name_of, host_of, same_name, same_reference}
use Rattle.def_machine.specs.State.{Message, Known, Resolver, Standing, Unsettled, Viewed, Settled, Happened, Vat, WhereSome}
use Rattle.def_machine.specs.Refs.{standing_in, entry_of, standing_of}
use Rattle.law_machine.specs.Machine.Steps.{Step, Opens, Takes}
use Rattle.def_run.specs.World as world
use Rattle.def_run.specs.World.{Script, Program, Entry, Event, World, Goes, names, begins}
use Rattle.law_fate.specs.Name.Names as name
use Rattle.law_fate.specs.Name.Names.{IsEventual, names_in, Everywhere, IsMade}
use Rattle.law_fate.specs.Name.Runs.{KnowsOnce}
use Rattle.law_fate.proofs.Name.Laws.{names_made}
use Rattle.law_fate.proofs.Name.Among.{messages_at}
use Rattle.law_fate.proofs.Name.SameNames.{reference_is, reference_self}
use Rattle.law_frozen.specs.Frozen as frozen
use Rattle.law_reference.specs.Reference.Cuts.{NoticesFollowCuts}
use Rattle.law_reference.specs.Reference.ListRingless.{IsAnswerName, IsView, Ringless}
use Rattle.law_reference.specs.Reference.ListRingless as ringless
use Rattle.law_reference.specs.Reference.Views.{ViewsWait}
use Rattle.law_reference.proofs.Reference.ViewsRuns.{views_wait_in_runs}
use Rattle.law_reference.proofs.Reference.ApartWhole.{known_once}
use Rattle.law_reference.specs.Reference.NameTableRuns.{NamesDiffer}
use Rattle.law_reference.proofs.Reference.VatStep.{Rings, Seen}
use Rattle.law_reference.proofs.Reference.StepRings.{word}
use Rattle.law_uses.specs.Connectivity.Known.{IsAmong}
use Rattle.law_uses.specs.Connectivity.Settlings.{IsOwed}
use Rattle.law_uses.specs.Connectivity.Begotten.{IsTaken, LineOf}
use Rattle.law_uses.specs.Running.Runs.{IsRun}
use Rattle.law_uses.specs.Running.Running.{PromisesAreOwn}
use Rattle.law_uses.specs.Running.Resting.{IsTurn, WasKnown, NamesRest}
use Rattle.law_uses.proofs.Running.Rings.{run_rings, run_sound}
use Rattle.law_uses.proofs.Running.Steps.{entry_in}

-- ---- among names, as the crates below have it

pub name_at : {A : Type 0} (P : A → Type 0) (xs : List A) (x : A) → name.AllOf P xs → IsAmong x xs → P x
name_at P [] x h i = absurd i
name_at P (y ∷ xs) x h (inl q) = subst P (sym q) h.0
name_at P (y ∷ xs) x h (inr i) = name_at P xs x h.1 i

to_name : {A : Type 0} (x : A) (xs : List A) → IsAmong x xs → name.IsAmong x xs
to_name x [] i = i
to_name x (y ∷ xs) (inl q) = inl q
to_name x (y ∷ xs) (inr i) = inr (to_name x xs i)

from_name : {A : Type 0} (x : A) (xs : List A) → name.IsAmong x xs → IsAmong x xs
from_name x [] i = i
from_name x (y ∷ xs) (inl q) = inl q
from_name x (y ∷ xs) (inr i) = inr (from_name x xs i)

frozen_at : {A : Type 0} (P : A → Type 0) (xs : List A) (i : ℕ) (x : A) → frozen.AllOf P xs → slice_get xs i ≡ Some x → P x
frozen_at P [] i x h q = cc
frozen_at P (y ∷ xs) zero x h q = let same : y ≡ x = cc in subst P same h.0
frozen_at P (y ∷ xs) (suc i) x h q = frozen_at P xs i x h.1 q

-- ---- names that differ pairwise are found

-- each at its place
abbrev Differ : List (Known Name) → Type 0
Differ ks = (i j : ℕ) (a b : Name) → slice_get (names_in ks) i ≡ Some a → slice_get (names_in ks) j ≡ Some b → same_name a b ≡ (i == j)

index_of : (k : Known Name) (ks : List (Known Name)) → IsAmong k ks → (i : ℕ) × (slice_get (names_in ks) i ≡ Some k.name)
index_of k [] m = absurd m
index_of k (j ∷ ks) (inl q) = (zero, ap (λ (x : Known Name). Some x.name) (sym q))
index_of k (j ∷ ks) (inr m) = let r = index_of k ks m in (suc r.0, r.1)

not_same : (a b : Name) → same_name a b ≡ false → same_reference a b ≡ false
unfolding same_reference
not_same (Sent m) b q = refl
not_same other b q = q

module _ (script : Script) (v : ℕ) where
  abbrev K : Naming Name Name
  K = names script v

  found_itself : (ks : List (Known Name)) (k : Known Name) → Differ ks → name.AllOf (λ (x : Known Name). IsEventual x.name) ks → IsAmong k ks → entry_of K ks k.name ≡ Some k
  unfolding entry_of names naming
  found_itself [] k d e m = absurd m
  found_itself (j ∷ ks) k d e (inl q) = subst (λ (x : Known Name). elim (same_reference x.name k.name) [ true ↦ Some x | false ↦ entry_of K ks k.name ] ≡ Some k) q
      (subst (λ b. elim b [ true ↦ Some k | false ↦ entry_of K ks k.name ] ≡ Some k) (sym (reference_self k.name (subst (λ (x : Known Name). IsEventual x.name) (sym q) e.0))) refl)
  found_itself (j ∷ ks) k d e (inr m) = let i = index_of k ks m in
      subst (λ b. elim b [ true ↦ Some j | false ↦ entry_of K ks k.name ] ≡ Some k) (sym (not_same j.name k.name (d zero (suc i.0) j.name k.name refl i.1 ∙ eqb-zero-suc i.0))) (found_itself ks k (λ a b x y f g. d (suc a) (suc b) x y f g ∙ eqb-suc-suc a b) e.1 m)

-- ---- names that are the vat's own

module _ (D : ℕ → Type 0) (v : ℕ) where
  abbrev pub Own : Name → Type 0
  Own p = (host_of p ≡ v) × (IsView D p → ⊥)

  answer_own : (p : Name) → host_of p ≡ v → IsAnswerName p → Own p
  answer_own (Answer h m) q a = (q, λ i. i)
  answer_own other q a = absurd a

  root_own : Own (Root v)
  unfolding host_of
  root_own = (refl, λ i. i)

  promise_own : (i : ℕ) → Own (Promise v i)
  unfolding host_of
  promise_own i = (refl, λ j. j)

  some_own : (o : Option Name) (p : Name) → o ≡ Some p → WhereSome (λ a. (host_of a ≡ v) × IsAnswerName a) o → Own p
  some_own None p q h = cc
  some_own (Some a) p q h = let same : a ≡ p = cc in subst Own same (answer_own a h.0 h.1)

-- ---- in a run

module _ (script : Script) (once : KnowsOnce script) {w : World} {v : ℕ} {e : Happened Name} (l : LineOf script w v e) (run : IsRun script l.from) (turn : IsTurn l.step)
    (promised : PromisesAreOwn l) where
  by_run : (P : World → Type 0) → ((ps rest : List Program) (x : World) → script.vats ≡ ps ++ rest → world.open_from script zero ps (begins script) ≡ Goes x → P x)
      → ((y x : World) (es : List Entry) (k : ℕ) → NoticesFollowCuts es → world.open_from script zero script.vats (begins script) ≡ Goes y → world.steps_from script es k y ≡ Goes x → P x) → P l.from
  by_run P f g = either run
    where
      either : IsRun script l.from → P l.from
      either (inl (ps, rest, q, o)) = f ps rest l.from q o
      either (inr (y, es, k, follows, o, s)) = g y l.from es k follows o s

  abbrev pub rings : Rings (word script) false l.from
  rings = run_rings script once l.from run

  quiet : Ringless (naming (word script) v) v rings.views (Seen (word script) l.from.vats v) (ringless.heeded false l.vat) l.vat
  quiet = rings.by.vats v l.vat l.here

  abbrev pub Mine : Name → Type 0
  Mine = Own rings.views v

  views : ViewsWait (names script v) l.vat.known
  views = by_run (λ x. (u : ℕ) (s : Vat Name) → slice_get x.vats u ≡ Some s → ViewsWait (names script u) s.known) (λ ps rest x q o. (views_wait_in_runs script once).0 ps rest x q o) (λ y x es k follows o s. (views_wait_in_runs script once).1 y x es k o s) v l.vat l.here

  differ : Differ l.vat.known
  differ = by_run NamesDiffer (λ ps rest x q o. (known_once script once).0 ps rest x q o) (λ y x es k follows o s. (known_once script once).1 y x es k follows o s) v l.vat l.here

  made : Everywhere (IsMade l.from.vats l.from.drawn) l.vat
  made = by_run (λ x. (u : ℕ) (s : Vat Name) → slice_get x.vats u ≡ Some s → Everywhere (IsMade x.vats x.drawn) s) (λ ps rest x q o. (names_made script once).0 ps rest x q o) (λ y x es k follows o s. (names_made script once).1 y x es k o s) v l.vat l.here

  before_is : l.before ≡ world.readied l.from (record l.vat { queue = l.queue })
  before_is = l.ready

  known_is : l.before.known ≡ l.vat.known
  unfolding world.readied
  known_is = ap (λ (s : Vat Name). s.known) l.ready

  things_are : l.before.things ≡ l.vat.things
  unfolding world.readied
  things_are = ap (λ (s : Vat Name). s.things) l.ready

  count_is : l.before.messages ≡ l.vat.messages
  unfolding world.readied
  count_is = ap (λ (s : Vat Name). s.messages) l.ready

  owed_by : (step : Step Name Name) (head : List Event) → IsTaken script l.from v l.vat l.queue head step → (p : Name) → IsOwed (names script v) (record { step = l.step; vat = l.before }) step p → Mine p
  owed_by (Opens tree depth root given) head t p o = subst Mine (sym (o ∙ t.6)) (root_own rings.views v)
  owed_by (Takes tree depth m) head t p o = let q = subst (λ ms. name.AllOf (ringless.IsOwn v) ms) t.2 quiet.queue in some_own rings.views v m.answer p o q.0.1
  owed_by other head t p o = absurd o

  resolver_own : (i : ℕ) (p : Name) → slice_get l.before.things i ≡ Some (Resolver p) → Mine p
  unfolding names naming name_of
  resolver_own i p q = let h = frozen_at (frozen.ThingWell (names script v) l.vat.things l.vat.lists) l.vat.things i (Resolver p) ((run_sound script once l.from run).vats v l.vat l.here).things (subst (λ ts. slice_get ts i ≡ Some (Resolver p)) things_are q) in
      subst Mine (sym h.2) (promise_own rings.views v h.0)

  in_known : (k : Known Name) → IsAmong k l.before.known → IsAmong k l.vat.known
  in_known k i = subst (λ ks. IsAmong k ks) known_is i

  out_known : (k : Known Name) → IsAmong k l.vat.known → IsAmong k l.before.known
  out_known k i = subst (λ ks. IsAmong k ks) (sym known_is) i

  held_own : (k : Known Name) (m : Message Name) (p : Name) → IsAmong k l.before.known → IsAmong m k.held → m.answer ≡ Some p → Mine p
  held_own k m p i j q = let h = name_at (ringless.HoldsOwn v) l.vat.known k quiet.names.held (in_known k i) in some_own rings.views v m.answer p q (name_at (ringless.IsOwn v) k.held m h.0 j).1

  waits_own : (k : Known Name) (p : Name) → IsAmong k l.before.known → IsAmong p k.waiting → Mine k.name → Mine p
  unfolding names
  waits_own k p i j o = quiet.names.waits p k.name k (found_itself script v l.vat.known k differ quiet.names.eventual (in_known k i)) (to_name p k.waiting j) o.1

  -- the entry of a name that is viewed
  viewed_in : (o : Option (Known Name)) (q : Name) → standing_in o ≡ Viewed q → (k : Known Name) × (o ≡ Some k)
  unfolding standing_in
  viewed_in None q s = absurd (no s)
    where
      no : ◌≡◌ {A = Standing Name} Unsettled (Viewed q) → ⊥
      no s = cc
  viewed_in (Some k) q s = (k, refl)

  name_found : (n : Name) (k : Known Name) → entry_of (names script v) l.vat.known n ≡ Some k → IsAmong k l.before.known × (k.name ≡ n)
  unfolding names naming
  name_found n k q = let r = entry_in script v n k l.vat.known q in (out_known k r.0, reference_is k.name n r.1)

  found_standing : (n : Name) (k : Known Name) (y : Value Name) → entry_of (names script v) l.vat.known n ≡ Some k → standing_of (names script v) l.vat.known n ≡ Settled y → k.standing ≡ Settled y
  unfolding standing_of standing_in
  found_standing n k y q s = subst (λ o. standing_in o ≡ Settled y) q s

  name_viewed : (m q : Name) → standing_of (names script v) l.before.known m ≡ Viewed q
      → (Mine m → ⊥) × WasKnown l.before.known m × ((k : Known Name) × IsAmong k l.before.known × (k.name ≡ q) × IsAmong m k.waiting) × ((y : Value Name) → standing_of (names script v) l.before.known q ≡ Settled y → ⊥)
  unfolding names standing_of
  name_viewed m q s = let t = subst (λ ks. standing_of (names script v) ks m ≡ Viewed q) known_is s in let a = views m q t in let o = viewed_in (entry_of (names script v) l.vat.known m) q t in let f = name_found m o.0 o.1 in let g = name_found q a.entry a.found in
      (λ x. quiet.names.far m q t x.0, (o.0, f.0, f.1), (a.entry, g.0, g.1, from_name m a.entry.waiting a.among), λ y u. a.pending y (found_standing q a.entry y a.found (subst (λ ks. standing_of (names script v) ks q ≡ Settled y) known_is u)))

  no_object : (u i : ℕ) → WasKnown l.before.known (Object u i) → ⊥
  no_object u i (k, j, q) = subst IsEventual q (name_at (λ (x : Known Name). IsEventual x.name) l.vat.known k quiet.names.eventual (in_known k j))

  numbered : (h j : ℕ) → WasKnown l.before.known (Answer h (record { sender = v; number = j })) → j < l.before.messages
  numbered h j (k, i, q) = subst (λ n. j < n) (messages_at l.from.vats v l.vat l.here ∙ sym count_is)
      (subst (λ n. name.WasMade l.from.vats l.from.drawn n) q (name_at (name.KnownOk (IsMade l.from.vats l.from.drawn)) l.vat.known k made.known (in_known k i)).0)

  pub names_rest : NamesRest Mine l
  names_rest = record {
    turn = turn;
    owed = λ a p o. owed_by l.step l.head l.taken p o.1;
    resolvers = resolver_own;
    promises = λ a p r i. let h = promised a p r i in subst Mine (sym h.1) (promise_own rings.views v h.0);
    held = held_own;
    waits = waits_own;
    viewed = name_viewed;
    objects = no_object;
    numbered = numbered;
  }
