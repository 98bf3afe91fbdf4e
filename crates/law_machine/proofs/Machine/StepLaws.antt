-- Each law, from what single changes keep.
use Rattle.std.proofs.Common.{◌≡◌, ℕ, zero, suc, Bool, true, false, List, [], ◌∷◌, ◌++◌, Option, Some, None, refl, sym, ap, ◌∙◌, append_assoc, append-nil, arith, length, ◌==◌}
use Rattle.std.specs.Prelude.{slice_get}
use Rattle.def_machine.specs.Values.{Words, Value, Broken, Ref, Naming}
use Rattle.def_machine.specs.State.{Binding, Cell, View, Thing, Made, Ejector, Audition, Resolver, Known, Standing, Unsettled, Settled, Change, Vat, Done, Gives, Throws, Ejects, Stops, change, dead, holding, is_in, with_change, changed, changed_to, Hold, unless_settled}
use Rattle.def_machine.specs.Refs as refs
use Rattle.def_machine.specs.Refs.{entry_of, standing_of, standing_in, follow, follow_at}
use Rattle.law_machine.specs.Machine.Steps.{Step, Opens, Takes, Receives, Notices, does, After}
use Rattle.law_machine.specs.Machine.Laws.{NoMoreFuel, SameObjects, SameResolvers, DeadEjectors, DeadAuditions, SameLists, SameGuards, SameNames, SameMails, SameDraws, SettledStays, BrokenStays, NoticedStays, AddsAtEnd}
use Rattle.law_machine.proofs.Machine.Keeps.{IsKept, IsKeptUnder}
use Rattle.law_machine.proofs.Machine.ArriveKeeps.{keeps_arrive, keeps_notice}
use Rattle.law_machine.proofs.Machine.EvalKeeps.{keeps_opening, keeps_taking}

-- what each single change keeps, every step keeps
pub kept_by_steps : {N W : Type 0} (K : Naming N W) (R : Vat N → Vat N → Type 0) → IsKept R → IsKeptUnder K R → (step : Step N W) (s : Vat N) → After R s (does K step s)
unfolding does
kept_by_steps K R base law (Opens tree depth root given) s = (keeps_opening K R base law tree depth root given).after s
kept_by_steps K R base law (Takes tree depth m) s = (keeps_taking K R base law tree depth m).after s
kept_by_steps K R base law (Receives from n) s = (keeps_arrive K R base law from n).after s
kept_by_steps K R base law (Notices w) s = (keeps_notice K R base law w).after s

-- ---- lists that grow

pub get_append : {A : Type 0} (xs ys : List A) (i : ℕ) (x : A) → slice_get xs i ≡ Some x → slice_get (xs ++ ys) i ≡ Some x
get_append [] ys i x e = cc
get_append (y ∷ xs) ys zero x e = e
get_append (y ∷ xs) ys (suc i) x e = get_append xs ys i x e

-- ---- fuel

pub fuel_law : {N : Type 0} → IsKept {N = N} NoMoreFuel
fuel_law = record {
  same = λ s. omega arith;
  trans = λ h k. omega arith;
  fuel = λ s n. omega arith;
  happened = λ s e. omega arith;
  activations = λ s. omega arith;
  thing = λ s x. omega arith;
  killed = λ s n. omega arith;
  slot = λ s c. omega arith;
  written = λ s n v. omega arith;
  list = λ s vs. omega arith;
  queue = λ s m. omega arith;
  outbox = λ s n. omega arith;
  gift = λ s g. omega arith;
  opened = λ s p i. omega arith;
  noticed = λ s w. omega arith;
  drawn = λ s w. omega arith;
}

pub fuel_names : {N W : Type 0} (K : Naming N W) → IsKeptUnder K NoMoreFuel
fuel_names K = record {
  altered = λ s c n. omega arith;
  came = λ s c h. omega arith;
  mailed = λ s c. omega arith;
  lone = λ s id. omega arith;
  promised = λ s. omega arith;
  messaged = λ s h id. omega arith;
}

pub fuel_stays : {N W : Type 0} (K : Naming N W) (step : Step N W) (s : Vat N) → After NoMoreFuel s (does K step s)
fuel_stays K = kept_by_steps K NoMoreFuel fuel_law (fuel_names K)

-- ---- objects

dead_objects : {N : Type 0} (ts : List (Thing N)) (k i : ℕ) (node : ℕ) (caught : List (Binding N)) (stamps : List (Value N)) → slice_get ts i ≡ Some (Made node caught stamps) → slice_get (change dead k ts) i ≡ Some (Made node caught stamps)
unfolding change dead
dead_objects [] k i node caught stamps e = e
dead_objects (Made a b c ∷ ts) zero zero node caught stamps e = cc
dead_objects (t ∷ ts) zero (suc i) node caught stamps e = e
dead_objects (t ∷ ts) (suc k) zero node caught stamps e = e
dead_objects (t ∷ ts) (suc k) (suc i) node caught stamps e = dead_objects ts k i node caught stamps e
dead_objects other zero zero node caught stamps e = cc

pub objects_law : {N : Type 0} → IsKept {N = N} SameObjects
objects_law = record {
  same = λ s i node caught stamps e. e;
  trans = λ h k i node caught stamps e. k i node caught stamps (h i node caught stamps e);
  fuel = λ s n. (λ i node caught stamps e. e);
  happened = λ s e. (λ i node caught stamps e. e);
  activations = λ s. (λ i node caught stamps e. e);
  thing = λ s x. (λ i node caught stamps e. get_append s.things _ i _ e);
  killed = λ s n. (λ i node caught stamps e. dead_objects s.things n i node caught stamps e);
  slot = λ s c. (λ i node caught stamps e. e);
  written = λ s n v. (λ i node caught stamps e. e);
  list = λ s vs. (λ i node caught stamps e. e);
  queue = λ s m. (λ i node caught stamps e. e);
  outbox = λ s n. (λ i node caught stamps e. e);
  gift = λ s g. (λ i node caught stamps e. e);
  opened = λ s p i. (λ i node caught stamps e. e);
  noticed = λ s w. (λ i node caught stamps e. e);
  drawn = λ s w. (λ i node caught stamps e. e);
}

pub objects_names : {N W : Type 0} (K : Naming N W) → IsKeptUnder K SameObjects
objects_names K = record {
  altered = λ s c n. (λ i node caught stamps e. e);
  came = λ s c h. (λ i node caught stamps e. e);
  mailed = λ s c. (λ i node caught stamps e. e);
  lone = λ s id. (λ i node caught stamps e. e);
  promised = λ s. (λ i node caught stamps e. e);
  messaged = λ s h id. (λ i node caught stamps e. e);
}

pub objects_stays : {N W : Type 0} (K : Naming N W) (step : Step N W) (s : Vat N) → After SameObjects s (does K step s)
objects_stays K = kept_by_steps K SameObjects objects_law (objects_names K)

-- ---- resolvers

dead_resolvers : {N : Type 0} (ts : List (Thing N)) (k i : ℕ) (p : N) → slice_get ts i ≡ Some (Resolver p) → slice_get (change dead k ts) i ≡ Some (Resolver p)
unfolding change dead
dead_resolvers [] k i p e = e
dead_resolvers (Made a b c ∷ ts) zero zero p e = cc
dead_resolvers (t ∷ ts) zero (suc i) p e = e
dead_resolvers (t ∷ ts) (suc k) zero p e = e
dead_resolvers (t ∷ ts) (suc k) (suc i) p e = dead_resolvers ts k i p e
dead_resolvers other zero zero p e = cc

pub resolvers_law : {N : Type 0} → IsKept {N = N} SameResolvers
resolvers_law = record {
  same = λ s i p e. e;
  trans = λ h k i p e. k i p (h i p e);
  fuel = λ s n. (λ i p e. e);
  happened = λ s e. (λ i p e. e);
  activations = λ s. (λ i p e. e);
  thing = λ s x. (λ i p e. get_append s.things _ i _ e);
  killed = λ s n. (λ i p e. dead_resolvers s.things n i p e);
  slot = λ s c. (λ i p e. e);
  written = λ s n v. (λ i p e. e);
  list = λ s vs. (λ i p e. e);
  queue = λ s m. (λ i p e. e);
  outbox = λ s n. (λ i p e. e);
  gift = λ s g. (λ i p e. e);
  opened = λ s p i. (λ i p e. e);
  noticed = λ s w. (λ i p e. e);
  drawn = λ s w. (λ i p e. e);
}

pub resolvers_names : {N W : Type 0} (K : Naming N W) → IsKeptUnder K SameResolvers
resolvers_names K = record {
  altered = λ s c n. (λ i p e. e);
  came = λ s c h. (λ i p e. e);
  mailed = λ s c. (λ i p e. e);
  lone = λ s id. (λ i p e. e);
  promised = λ s. (λ i p e. e);
  messaged = λ s h id. (λ i p e. e);
}

pub resolvers_stays : {N W : Type 0} (K : Naming N W) (step : Step N W) (s : Vat N) → After SameResolvers s (does K step s)
resolvers_stays K = kept_by_steps K SameResolvers resolvers_law (resolvers_names K)

-- ---- ejectors

dead_ejectors : {N : Type 0} (ts : List (Thing N)) (k i : ℕ) → slice_get ts i ≡ Some (Ejector false) → slice_get (change dead k ts) i ≡ Some (Ejector false)
unfolding change dead
dead_ejectors [] k i e = e
dead_ejectors (Made a b c ∷ ts) zero zero e = cc
dead_ejectors (t ∷ ts) zero (suc i) e = e
dead_ejectors (t ∷ ts) (suc k) zero e = e
dead_ejectors (t ∷ ts) (suc k) (suc i) e = dead_ejectors ts k i e
dead_ejectors other zero zero e = cc

pub ejectors_law : {N : Type 0} → IsKept {N = N} DeadEjectors
ejectors_law = record {
  same = λ s i e. e;
  trans = λ h k i e. k i (h i e);
  fuel = λ s n. (λ i e. e);
  happened = λ s e. (λ i e. e);
  activations = λ s. (λ i e. e);
  thing = λ s x. (λ i e. get_append s.things _ i _ e);
  killed = λ s n. (λ i e. dead_ejectors s.things n i e);
  slot = λ s c. (λ i e. e);
  written = λ s n v. (λ i e. e);
  list = λ s vs. (λ i e. e);
  queue = λ s m. (λ i e. e);
  outbox = λ s n. (λ i e. e);
  gift = λ s g. (λ i e. e);
  opened = λ s p i. (λ i e. e);
  noticed = λ s w. (λ i e. e);
  drawn = λ s w. (λ i e. e);
}

pub ejectors_names : {N W : Type 0} (K : Naming N W) → IsKeptUnder K DeadEjectors
ejectors_names K = record {
  altered = λ s c n. (λ i e. e);
  came = λ s c h. (λ i e. e);
  mailed = λ s c. (λ i e. e);
  lone = λ s id. (λ i e. e);
  promised = λ s. (λ i e. e);
  messaged = λ s h id. (λ i e. e);
}

pub ejectors_stays : {N W : Type 0} (K : Naming N W) (step : Step N W) (s : Vat N) → After DeadEjectors s (does K step s)
ejectors_stays K = kept_by_steps K DeadEjectors ejectors_law (ejectors_names K)

-- ---- auditions

dead_auditions : {N : Type 0} (ts : List (Thing N)) (k i : ℕ) (view : View N) → slice_get ts i ≡ Some (Audition false view) → slice_get (change dead k ts) i ≡ Some (Audition false view)
unfolding change dead
dead_auditions [] k i view e = e
dead_auditions (Made a b c ∷ ts) zero zero view e = cc
dead_auditions (t ∷ ts) zero (suc i) view e = e
dead_auditions (t ∷ ts) (suc k) zero view e = e
dead_auditions (t ∷ ts) (suc k) (suc i) view e = dead_auditions ts k i view e
dead_auditions other zero zero view e = cc

pub auditions_law : {N : Type 0} → IsKept {N = N} DeadAuditions
auditions_law = record {
  same = λ s i view e. e;
  trans = λ h k i view e. k i view (h i view e);
  fuel = λ s n. (λ i view e. e);
  happened = λ s e. (λ i view e. e);
  activations = λ s. (λ i view e. e);
  thing = λ s x. (λ i view e. get_append s.things _ i _ e);
  killed = λ s n. (λ i view e. dead_auditions s.things n i view e);
  slot = λ s c. (λ i view e. e);
  written = λ s n v. (λ i view e. e);
  list = λ s vs. (λ i view e. e);
  queue = λ s m. (λ i view e. e);
  outbox = λ s n. (λ i view e. e);
  gift = λ s g. (λ i view e. e);
  opened = λ s p i. (λ i view e. e);
  noticed = λ s w. (λ i view e. e);
  drawn = λ s w. (λ i view e. e);
}

pub auditions_names : {N W : Type 0} (K : Naming N W) → IsKeptUnder K DeadAuditions
auditions_names K = record {
  altered = λ s c n. (λ i view e. e);
  came = λ s c h. (λ i view e. e);
  mailed = λ s c. (λ i view e. e);
  lone = λ s id. (λ i view e. e);
  promised = λ s. (λ i view e. e);
  messaged = λ s h id. (λ i view e. e);
}

pub auditions_stays : {N W : Type 0} (K : Naming N W) (step : Step N W) (s : Vat N) → After DeadAuditions s (does K step s)
auditions_stays K = kept_by_steps K DeadAuditions auditions_law (auditions_names K)

-- ---- lists

pub lists_law : {N : Type 0} → IsKept {N = N} SameLists
lists_law = record {
  same = λ s i x e. e;
  trans = λ h k i x e. k i x (h i x e);
  fuel = λ s n. (λ i x e. e);
  happened = λ s e. (λ i x e. e);
  activations = λ s. (λ i x e. e);
  thing = λ s x. (λ i x e. e);
  killed = λ s n. (λ i x e. e);
  slot = λ s c. (λ i x e. e);
  written = λ s n v. (λ i x e. e);
  list = λ s vs. (λ i x e. get_append s.lists _ i x e);
  queue = λ s m. (λ i x e. e);
  outbox = λ s n. (λ i x e. e);
  gift = λ s g. (λ i x e. e);
  opened = λ s p i. (λ i x e. e);
  noticed = λ s w. (λ i x e. e);
  drawn = λ s w. (λ i x e. e);
}

pub lists_names : {N W : Type 0} (K : Naming N W) → IsKeptUnder K SameLists
lists_names K = record {
  altered = λ s c n. (λ i x e. e);
  came = λ s c h. (λ i x e. e);
  mailed = λ s c. (λ i x e. e);
  lone = λ s id. (λ i x e. e);
  promised = λ s. (λ i x e. e);
  messaged = λ s h id. (λ i x e. e);
}

pub lists_stays : {N W : Type 0} (K : Naming N W) (step : Step N W) (s : Vat N) → After SameLists s (does K step s)
lists_stays K = kept_by_steps K SameLists lists_law (lists_names K)

-- ---- mails

pub mails_law : {N : Type 0} → IsKept {N = N} SameMails
mails_law = record {
  same = λ s i x e. e;
  trans = λ h k i x e. k i x (h i x e);
  fuel = λ s n. (λ i x e. e);
  happened = λ s e. (λ i x e. e);
  activations = λ s. (λ i x e. e);
  thing = λ s x. (λ i x e. e);
  killed = λ s n. (λ i x e. e);
  slot = λ s c. (λ i x e. e);
  written = λ s n v. (λ i x e. e);
  list = λ s vs. (λ i x e. e);
  queue = λ s m. (λ i x e. e);
  outbox = λ s n. (λ i x e. e);
  gift = λ s g. (λ i x e. e);
  opened = λ s p i. (λ i x e. e);
  noticed = λ s w. (λ i x e. e);
  drawn = λ s w. (λ i x e. e);
}

pub mails_names : {N W : Type 0} (K : Naming N W) → IsKeptUnder K SameMails
mails_names K = record {
  altered = λ s c n. (λ i x e. e);
  came = λ s c h. (λ i x e. e);
  mailed = λ s c. (λ i x e. get_append s.mails _ i x e);
  lone = λ s id. (λ i x e. get_append s.mails _ i x e);
  promised = λ s. (λ i x e. e);
  messaged = λ s h id. (λ i x e. get_append s.mails _ i x e);
}

pub mails_stays : {N W : Type 0} (K : Naming N W) (step : Step N W) (s : Vat N) → After SameMails s (does K step s)
mails_stays K = kept_by_steps K SameMails mails_law (mails_names K)

-- ---- draws

pub draws_law : {N : Type 0} → IsKept {N = N} SameDraws
draws_law = record {
  same = λ s i x e. e;
  trans = λ h k i x e. k i x (h i x e);
  fuel = λ s n. (λ i x e. e);
  happened = λ s e. (λ i x e. e);
  activations = λ s. (λ i x e. e);
  thing = λ s x. (λ i x e. e);
  killed = λ s n. (λ i x e. e);
  slot = λ s c. (λ i x e. e);
  written = λ s n v. (λ i x e. e);
  list = λ s vs. (λ i x e. e);
  queue = λ s m. (λ i x e. e);
  outbox = λ s n. (λ i x e. e);
  gift = λ s g. (λ i x e. e);
  opened = λ s p i. (λ i x e. e);
  noticed = λ s w. (λ i x e. e);
  drawn = λ s w. (λ i x e. get_append s.drawn _ i x e);
}

pub draws_names : {N W : Type 0} (K : Naming N W) → IsKeptUnder K SameDraws
draws_names K = record {
  altered = λ s c n. (λ i x e. e);
  came = λ s c h. (λ i x e. e);
  mailed = λ s c. (λ i x e. e);
  lone = λ s id. (λ i x e. e);
  promised = λ s. (λ i x e. e);
  messaged = λ s h id. (λ i x e. e);
}

pub draws_stays : {N W : Type 0} (K : Naming N W) (step : Step N W) (s : Vat N) → After SameDraws s (does K step s)
draws_stays K = kept_by_steps K SameDraws draws_law (draws_names K)

-- ---- guards

held_guard : {N : Type 0} (cs : List (Cell N)) (k : ℕ) (v : Value N) (i : ℕ) (c : Cell N) → slice_get cs i ≡ Some c → (d : Cell N) × (slice_get (change (holding v) k cs) i ≡ Some d) × (d.guard ≡ c.guard)
unfolding change holding
held_guard [] k v i c e = (c, e, refl)
held_guard (b ∷ cs) zero v zero c e = let same : b ≡ c = cc in (record b { value = v }, refl, ap (λ (x : Cell _). x.guard) same)
held_guard (b ∷ cs) zero v (suc i) c e = (c, e, refl)
held_guard (b ∷ cs) (suc k) v zero c e = (c, e, refl)
held_guard (b ∷ cs) (suc k) v (suc i) c e = held_guard cs k v i c e

pub guards_law : {N : Type 0} → IsKept {N = N} SameGuards
guards_law = record {
  same = λ s i c e. (c, e, refl);
  trans = λ h k i c e. let d = h i c e in let f = k i d.0 d.1 in (f.0, f.1, f.2 ∙ d.2);
  fuel = λ s n. (λ i c e. (c, e, refl));
  happened = λ s e. (λ i c e. (c, e, refl));
  activations = λ s. (λ i c e. (c, e, refl));
  thing = λ s x. (λ i c e. (c, e, refl));
  killed = λ s n. (λ i c e. (c, e, refl));
  slot = λ s c. (λ i d e. (d, get_append s.slots _ i d e, refl));
  written = λ s n v. (λ i c e. held_guard s.slots n v i c e);
  list = λ s vs. (λ i c e. (c, e, refl));
  queue = λ s m. (λ i c e. (c, e, refl));
  outbox = λ s n. (λ i c e. (c, e, refl));
  gift = λ s g. (λ i c e. (c, e, refl));
  opened = λ s p i. (λ i c e. (c, e, refl));
  noticed = λ s w. (λ i c e. (c, e, refl));
  drawn = λ s w. (λ i c e. (c, e, refl));
}

pub guards_names : {N W : Type 0} (K : Naming N W) → IsKeptUnder K SameGuards
guards_names K = record {
  altered = λ s c n. (λ i c e. (c, e, refl));
  came = λ s c h. (λ i c e. (c, e, refl));
  mailed = λ s c. (λ i c e. (c, e, refl));
  lone = λ s id. (λ i c e. (c, e, refl));
  promised = λ s. (λ i c e. (c, e, refl));
  messaged = λ s h id. (λ i c e. (c, e, refl));
}

pub guards_stays : {N W : Type 0} (K : Naming N W) (step : Step N W) (s : Vat N) → After SameGuards s (does K step s)
guards_stays K = kept_by_steps K SameGuards guards_law (guards_names K)

-- ---- names

same_head : {N : Type 0} (t : Standing N) (k new : Known N) → new.name ≡ k.name → new.host ≡ k.host → ((unless_settled t k new).name ≡ k.name) × ((unless_settled t k new).host ≡ k.host)
unfolding unless_settled
same_head (Settled y) k new a b = (refl, refl)
same_head other k new a b = (a, b)

to_name : {N : Type 0} (c : Change N) (k : Known N) → (changed_to c k).name ≡ k.name
unfolding changed_to
to_name (Hold m) k = refl
to_name other k = refl

to_host : {N : Type 0} (c : Change N) (k : Known N) → (changed_to c k).host ≡ k.host
unfolding changed_to
to_host (Hold m) k = refl
to_host other k = refl

pub changed_head : {N : Type 0} (c : Change N) (k : Known N) → ((changed c k).name ≡ k.name) × ((changed c k).host ≡ k.host)
unfolding changed
changed_head c k = same_head k.standing k (changed_to c k) (to_name c k) (to_host c k)

-- the entry at a place, with its name and its host
abbrev Entry : {N : Type 0} → List (Known N) → ℕ → Known N → Type 0
Entry {N} ks i k = (j : Known N) × (slice_get ks i ≡ Some j) × (j.name ≡ k.name) × (j.host ≡ k.host)

altered_entry : {N : Type 0} (b : Bool) (c : Change N) (k0 : Known N) (ks rest : List (Known N)) (i : ℕ) (k : Known N) → slice_get (k0 ∷ ks) i ≡ Some k
    → ((j : ℕ) → slice_get ks j ≡ Some k → Entry rest j k) → Entry (elim b [ true ↦ changed c k0 ∷ ks | false ↦ k0 ∷ rest ]) i k
altered_entry true c k0 ks rest zero k e h = let same : k0 ≡ k = cc in let head = changed_head c k0 in (changed c k0, refl, head.0 ∙ ap (λ (x : Known _). x.name) same, head.1 ∙ ap (λ (x : Known _). x.host) same)
altered_entry true c k0 ks rest (suc i) k e h = (k, e, refl, refl)
altered_entry false c k0 ks rest zero k e h = (k, e, refl, refl)
altered_entry false c k0 ks rest (suc i) k e h = h i e

altered_names : {N W : Type 0} (K : Naming N W) (c : Change N) (n : N) (ks : List (Known N)) (i : ℕ) (k : Known N) → slice_get ks i ≡ Some k → Entry (with_change K c n ks) i k
unfolding with_change
altered_names K c n [] i k e = (k, e, refl, refl)
altered_names K c n (k0 ∷ ks) i k e = altered_entry (K.same k0.name n) c k0 ks (with_change K c n ks) i k e (λ j h. altered_names K c n ks j k h)

pub names_law : {N : Type 0} → IsKept {N = N} SameNames
names_law = record {
  same = λ s i k e. (k, e, refl, refl);
  trans = λ h k i x e. let d = h i x e in let f = k i d.0 d.1 in (f.0, f.1, f.2 ∙ d.2, f.3 ∙ d.3);
  fuel = λ s n. (λ i k e. (k, e, refl, refl));
  happened = λ s e. (λ i k e. (k, e, refl, refl));
  activations = λ s. (λ i k e. (k, e, refl, refl));
  thing = λ s x. (λ i k e. (k, e, refl, refl));
  killed = λ s n. (λ i k e. (k, e, refl, refl));
  slot = λ s c. (λ i k e. (k, e, refl, refl));
  written = λ s n v. (λ i k e. (k, e, refl, refl));
  list = λ s vs. (λ i k e. (k, e, refl, refl));
  queue = λ s m. (λ i k e. (k, e, refl, refl));
  outbox = λ s n. (λ i k e. (k, e, refl, refl));
  gift = λ s g. (λ i k e. (k, e, refl, refl));
  opened = λ s p i. (λ i k e. (k, e, refl, refl));
  noticed = λ s w. (λ i k e. (k, e, refl, refl));
  drawn = λ s w. (λ i k e. (k, e, refl, refl));
}

pub names_names : {N W : Type 0} (K : Naming N W) → IsKeptUnder K SameNames
names_names K = record {
  altered = λ s c n. (λ i k e. altered_names K c n s.known i k e);
  came = λ s c h. (λ i k e. (k, get_append s.known _ i k e, refl, refl));
  mailed = λ s c. (λ i k e. (k, e, refl, refl));
  lone = λ s id. (λ i k e. (k, e, refl, refl));
  promised = λ s. (λ i k e. (k, get_append s.known _ i k e, refl, refl));
  messaged = λ s h id. (λ i k e. (k, get_append s.known _ i k e, refl, refl));
}

pub names_stays : {N W : Type 0} (K : Naming N W) (step : Step N W) (s : Vat N) → After SameNames s (does K step s)
names_stays K = kept_by_steps K SameNames names_law (names_names K)

-- ---- settlings

unless_at : {N : Type 0} (t : Standing N) (k new : Known N) (y : Value N) → t ≡ Settled y → unless_settled t k new ≡ k
unfolding unless_settled
unless_at (Settled z) k new y e = refl
unless_at other k new y e = cc

settled_same : {N : Type 0} (c : Change N) (k : Known N) (y : Value N) → k.standing ≡ Settled y → changed c k ≡ k
unfolding changed
settled_same c k y e = unless_at k.standing k (changed_to c k) y e

pick_here : {A : Type 0} (b : Bool) (x z k : A) (o : Option A) → elim b [ true ↦ Some x | false ↦ o ] ≡ Some k → (x ≡ k → z ≡ x) → elim b [ true ↦ Some z | false ↦ o ] ≡ Some k
pick_here true x z k o e h = let same : x ≡ k = cc in let there = h same in cc
pick_here false x z k o e h = e

pick_same : {A : Type 0} (a b : Bool) (x z k : A) (o : Option A) → a ≡ b → elim b [ true ↦ Some x | false ↦ o ] ≡ Some k → (x ≡ k → z ≡ x) → elim a [ true ↦ Some z | false ↦ o ] ≡ Some k
pick_same a b x z k o q e h = rw q (pick_here b x z k o e h)

pick_there : {A : Type 0} (b : Bool) (x k : A) (o p : Option A) → elim b [ true ↦ Some x | false ↦ o ] ≡ Some k → (o ≡ Some k → p ≡ Some k) → elim b [ true ↦ Some x | false ↦ p ] ≡ Some k
pick_there true x k o p e h = e
pick_there false x k o p e h = h e

standing_along : {N : Type 0} (x k : Known N) (y : Value N) → x ≡ k → k.standing ≡ Settled y → x.standing ≡ Settled y
standing_along x k y e h = ap (λ (z : Known _). z.standing) e ∙ h

entry_cons : {N W : Type 0} (K : Naming N W) (b : Bool) (c : Change N) (n : N) (k0 : Known N) (ks rest : List (Known N)) (k : Known N) (y : Value N)
    → entry_of K (k0 ∷ ks) n ≡ Some k → k.standing ≡ Settled y → (entry_of K ks n ≡ Some k → entry_of K rest n ≡ Some k)
    → entry_of K (elim b [ true ↦ changed c k0 ∷ ks | false ↦ k0 ∷ rest ]) n ≡ Some k
unfolding refs.entry_of
entry_cons K true c n k0 ks rest k y e h r = pick_same (K.same (changed c k0).name n) (K.same k0.name n) k0 (changed c k0) k (entry_of K ks n) (ap (λ x. K.same x n) (changed_head c k0).0) e (λ same. settled_same c k0 y (standing_along k0 k y same h))
entry_cons K false c n k0 ks rest k y e h r = pick_there (K.same k0.name n) k0 k (entry_of K ks n) (entry_of K rest n) e r

entry_altered : {N W : Type 0} (K : Naming N W) (c : Change N) (m n : N) (ks : List (Known N)) (k : Known N) (y : Value N) → entry_of K ks n ≡ Some k → k.standing ≡ Settled y → entry_of K (with_change K c m ks) n ≡ Some k
unfolding with_change
entry_altered K c m n [] k y e h = e
entry_altered K c m n (k0 ∷ ks) k y e h = entry_cons K (K.same k0.name m) c n k0 ks (with_change K c m ks) k y e h (λ r. entry_altered K c m n ks k y r h)

pub entry_append : {N W : Type 0} (K : Naming N W) (n : N) (ks js : List (Known N)) (k : Known N) → entry_of K ks n ≡ Some k → entry_of K (ks ++ js) n ≡ Some k
unfolding refs.entry_of
entry_append K n [] js k e = cc
entry_append K n (k0 ∷ ks) js k e = pick_there (K.same k0.name n) k0 k (entry_of K ks n) (entry_of K (ks ++ js) n) e (λ r. entry_append K n ks js k r)

pub settled_law : {N W : Type 0} (K : Naming N W) → IsKept {N = N} (SettledStays K)
settled_law K = record {
  same = λ s n k y e h. e;
  trans = λ h j n k y e i. j n k y (h n k y e i) i;
  fuel = λ s n. (λ n k y e h. e);
  happened = λ s e. (λ n k y e h. e);
  activations = λ s. (λ n k y e h. e);
  thing = λ s x. (λ n k y e h. e);
  killed = λ s n. (λ n k y e h. e);
  slot = λ s c. (λ n k y e h. e);
  written = λ s n v. (λ n k y e h. e);
  list = λ s vs. (λ n k y e h. e);
  queue = λ s m. (λ n k y e h. e);
  outbox = λ s n. (λ n k y e h. e);
  gift = λ s g. (λ n k y e h. e);
  opened = λ s p i. (λ n k y e h. e);
  noticed = λ s w. (λ n k y e h. e);
  drawn = λ s w. (λ n k y e h. e);
}

pub settled_names : {N W : Type 0} (K : Naming N W) → IsKeptUnder K (SettledStays K)
settled_names K = record {
  altered = λ s c n. (λ m k y e h. entry_altered K c n m s.known k y e h);
  came = λ s c h. (λ n k y e i. entry_append K n s.known _ k e);
  mailed = λ s c. (λ n k y e h. e);
  lone = λ s id. (λ n k y e h. e);
  promised = λ s. (λ n k y e h. entry_append K n s.known _ k e);
  messaged = λ s h id. (λ n k y e i. entry_append K n s.known _ k e);
}

pub settled_stays : {N W : Type 0} (K : Naming N W) (step : Step N W) (s : Vat N) → After (SettledStays K) s (does K step s)
settled_stays K = kept_by_steps K (SettledStays K) (settled_law K) (settled_names K)

-- ---- broken references

-- what settled, with its entry
abbrev pub SettledEntry : {N : Type 0} → Option (Known N) → Value N → Type 0
SettledEntry {N} o y = (k : Known N) × (o ≡ Some k) × (k.standing ≡ Settled y)

pub settled_entry : {N : Type 0} (o : Option (Known N)) (y : Value N) → standing_in o ≡ Settled y → SettledEntry o y
unfolding standing_in
settled_entry (Some k) y e = (k, refl, e)
settled_entry None y e = absurd (elim_none e)
  where
    elim_none : Unsettled ≡ Settled y → ⊥
    elim_none h = cc

follow_broken : {N W : Type 0} (K : Naming N W) (d : ℕ) (ks : List (Known N)) (p : Words) → follow_at K d ks (Broken p) ≡ Broken p
unfolding follow_at
follow_broken K zero ks p = refl
follow_broken K (suc d) ks p = refl

followed_at : {N W : Type 0} (K : Naming N W) (t : Vat N) (n : N) (p : Words) → standing_of K t.known n ≡ Settled (Broken p) → follow K t (Ref n) ≡ Broken p
unfolding follow follow_at refs.led refs.severed
followed_at K t n p e = rw e (rw (follow_broken K (length t.known) t.known p) refl)

pub standing_found : {N W : Type 0} (K : Naming N W) (ks : List (Known N)) (n : N) (k : Known N) (y : Value N) → entry_of K ks n ≡ Some k → k.standing ≡ Settled y → standing_of K ks n ≡ Settled y
unfolding standing_of standing_in
standing_found K ks n k y e h = rw e h

pub broken_from : {N W : Type 0} (K : Naming N W) (s t : Vat N) → SettledStays K s t → BrokenStays K s t
unfolding standing_of
broken_from K s t h n p e = let found = settled_entry (entry_of K s.known n) (Broken p) e in followed_at K t n p (standing_found K t.known n found.0 (Broken p) (h n found.0 (Broken p) found.1 found.2) found.2)

pub after_map : {N A : Type 0} (R Q : Vat N → Vat N → Type 0) (s : Vat N) (d : Done N A) → ((t : Vat N) → R s t → Q s t) → After R s d → After Q s d
after_map R Q s (Gives a t) f h = f t h
after_map R Q s (Throws p t) f h = f t h
after_map R Q s (Ejects n v t) f h = f t h
after_map R Q s (Stops c t) f h = f t h

pub broken_stays : {N W : Type 0} (K : Naming N W) (step : Step N W) (s : Vat N) → After (BrokenStays K) s (does K step s)
broken_stays K step s = after_map (SettledStays K) (BrokenStays K) s (does K step s) (λ t h. broken_from K s t h) (settled_stays K step s)

-- ---- notices

noticed_either : (b : Bool) (w : ℕ) (xs ys : List ℕ) → elim b [ true ↦ true | false ↦ is_in w xs ] ≡ true → (is_in w xs ≡ true → is_in w (xs ++ ys) ≡ true) → elim b [ true ↦ true | false ↦ is_in w (xs ++ ys) ] ≡ true
noticed_either true w xs ys e h = refl
noticed_either false w xs ys e h = h e

pub noticed_append : (w : ℕ) (xs ys : List ℕ) → is_in w xs ≡ true → is_in w (xs ++ ys) ≡ true
unfolding is_in
noticed_append w [] ys e = cc
noticed_append w (x ∷ xs) ys e = noticed_either (w == x) w xs ys e (λ h. noticed_append w xs ys h)

pub noticed_law : {N : Type 0} → IsKept {N = N} NoticedStays
noticed_law = record {
  same = λ s w e. e;
  trans = λ h k w e. k w (h w e);
  fuel = λ s n. (λ v e. e);
  happened = λ s e. (λ v h. h);
  activations = λ s. (λ v e. e);
  thing = λ s x. (λ v e. e);
  killed = λ s n. (λ v e. e);
  slot = λ s c. (λ v e. e);
  written = λ s n v. (λ v e. e);
  list = λ s vs. (λ v e. e);
  queue = λ s m. (λ v e. e);
  outbox = λ s n. (λ v e. e);
  gift = λ s g. (λ v e. e);
  opened = λ s p i. (λ v e. e);
  noticed = λ s w. (λ v e. noticed_append v s.noticed _ e);
  drawn = λ s w. (λ v e. e);
}

pub noticed_names : {N W : Type 0} (K : Naming N W) → IsKeptUnder K NoticedStays
noticed_names K = record {
  altered = λ s c n. (λ v e. e);
  came = λ s c h. (λ v e. e);
  mailed = λ s c. (λ v e. e);
  lone = λ s id. (λ v e. e);
  promised = λ s. (λ v e. e);
  messaged = λ s h id. (λ v e. e);
}

pub noticed_stays : {N W : Type 0} (K : Naming N W) (step : Step N W) (s : Vat N) → After NoticedStays s (does K step s)
noticed_stays K = kept_by_steps K NoticedStays noticed_law (noticed_names K)

-- ---- histories

none_added : {A : Type 0} (xs : List A) → (es : List A) × (xs ≡ xs ++ es)
none_added xs = ([], sym (append-nil xs))

both_added : {A : Type 0} (xs ys zs : List A) → (es : List A) × (ys ≡ xs ++ es) → (es : List A) × (zs ≡ ys ++ es) → (es : List A) × (zs ≡ xs ++ es)
both_added xs ys zs h k = (h.0 ++ k.0, k.1 ∙ ap (λ x. x ++ k.0) h.1 ∙ append_assoc xs h.0 k.0)

pub history_law : {N : Type 0} → IsKept {N = N} AddsAtEnd
history_law = record {
  same = λ s. (none_added s.happened, none_added s.outbox);
  trans = λ h k. (both_added _ _ _ h.0 k.0, both_added _ _ _ h.1 k.1);
  fuel = λ s n. (none_added s.happened, none_added s.outbox);
  happened = λ s e. ((e ∷ [], refl), none_added s.outbox);
  activations = λ s. (none_added s.happened, none_added s.outbox);
  thing = λ s x. (none_added s.happened, none_added s.outbox);
  killed = λ s n. (none_added s.happened, none_added s.outbox);
  slot = λ s c. (none_added s.happened, none_added s.outbox);
  written = λ s n v. (none_added s.happened, none_added s.outbox);
  list = λ s vs. (none_added s.happened, none_added s.outbox);
  queue = λ s m. (none_added s.happened, none_added s.outbox);
  outbox = λ s n. (none_added s.happened, (n ∷ [], refl));
  gift = λ s g. (none_added s.happened, none_added s.outbox);
  opened = λ s p i. (none_added s.happened, none_added s.outbox);
  noticed = λ s w. (none_added s.happened, none_added s.outbox);
  drawn = λ s w. (none_added s.happened, none_added s.outbox);
}

pub history_names : {N W : Type 0} (K : Naming N W) → IsKeptUnder K AddsAtEnd
history_names K = record {
  altered = λ s c n. (none_added s.happened, none_added s.outbox);
  came = λ s c h. (none_added s.happened, none_added s.outbox);
  mailed = λ s c. (none_added s.happened, none_added s.outbox);
  lone = λ s id. (none_added s.happened, none_added s.outbox);
  promised = λ s. (none_added s.happened, none_added s.outbox);
  messaged = λ s h id. (none_added s.happened, none_added s.outbox);
}

pub history_stays : {N W : Type 0} (K : Naming N W) (step : Step N W) (s : Vat N) → After AddsAtEnd s (does K step s)
history_stays K = kept_by_steps K AddsAtEnd history_law (history_names K)
