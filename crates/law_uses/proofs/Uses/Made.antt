-- Each object, ejector, audition and resolver of a vat is made by one line.
use Rattle.std.proofs.Common.{◌≡◌, ℕ, zero, suc, ◌+◌, ◌≤◌, arith, Bool, true, false, List, [], ◌∷◌, ◌++◌, Option, Some, None, refl, sym, ap, ◌∙◌, subst, map, length, ◌⊎◌, inl, inr, ◌==◌, eqb-true}
use Rattle.std.proofs.lemmas.Bool.{eq-eqb}
use Rattle.std.specs.Prelude.{slice_get}
use Rattle.def_machine.specs.Values.{Name}
use Rattle.def_machine.specs.State.{Happened, Posted, Note, Vat}
use Rattle.def_run.specs.World as world
use Rattle.def_run.specs.World.{Script, Event, Opens, Turned, Carried, NoticedAt, LostCut, Link, World, names}
use Rattle.law_fate.specs.Fates.Fate.{once, total}
use Rattle.law_fate.proofs.Fates.RunCounts.{pick, total_append}
use Rattle.law_uses.specs.Connectivity.Activations.{Rises}
use Rattle.law_uses.specs.Connectivity.News.{thing_made}
use Rattle.law_uses.specs.Uses.Made.{made_one, where_so, makes}
use Rattle.law_uses.proofs.Uses.Kept.{put_either}

-- ---- numbers that rise come once, and none below or above

pub record Counted (i n m : ℕ) (os : List (Option ℕ)) : Type 0 where
  pub bounds : n ≤ m
  pub few : total (made_one i) os ≤ 1
  pub below : suc i ≤ n → total (made_one i) os ≡ 0
  pub above : m ≤ i → total (made_one i) os ≡ 0

one_counted : (i n m b : ℕ) (os : List (Option ℕ)) → n ≤ b → Counted i (suc b) m os → (c : Bool) → (b == i) ≡ c → (n ≤ m) × (once c + total (made_one i) os ≤ 1) × (suc i ≤ n → once c + total (made_one i) os ≡ 0) × (m ≤ i → once c + total (made_one i) os ≡ 0)
unfolding once
one_counted i n m b os h r true q = let e = eqb-true b i q in let a = r.below (omega arith) in let d = r.bounds in (omega arith, omega arith, λ k. omega arith, λ k. omega arith)
one_counted i n m b os h r false q = let a = r.few in let d = r.bounds in (omega arith, omega arith, λ k. let z = r.below (omega arith) in omega arith, λ k. let z = r.above k in omega arith)

rises_counted : (i : ℕ) (os : List (Option ℕ)) (n m : ℕ) → Rises n os m → Counted i n m os
unfolding total made_one
rises_counted i [] n m h = record { bounds = h; few = omega arith; below = λ k. refl; above = λ k. refl }
rises_counted i (None ∷ os) n m h = let r = rises_counted i os n m h in let f = r.few in record { bounds = r.bounds; few = omega arith; below = λ k. let z = r.below k in omega arith; above = λ k. let z = r.above k in omega arith }
rises_counted i (Some b ∷ os) n m h = let r = one_counted i n m b os h.0 (rises_counted i os (suc b) m h.1) (b == i) refl in record { bounds = r.0; few = r.1; below = r.2; above = r.3 }

-- ---- in the lines of a step

so_none : (b : Bool) → where_so b 0 ≡ 0
unfolding where_so
so_none true = refl
so_none false = refl

so_add : (b : Bool) (x y : ℕ) → where_so b x + where_so b y ≡ where_so b (x + y)
unfolding where_so
so_add true x y = refl
so_add false x y = refl

not_true : (b : Bool) → (b ≡ true → ⊥) → b ≡ false
not_true true f = absurd (f refl)
not_true false f = refl

so_same : (v n : ℕ) → where_so (v == v) n ≡ n
unfolding where_so
so_same v n = ap (λ b. where_so b n) (eq-eqb v v refl)

so_other : (u v n : ℕ) → (v ≡ u → ⊥) → where_so (u == v) n ≡ 0
unfolding where_so
so_other u v n f = ap (λ b. where_so b n) (not_true (u == v) (λ q. f (sym (eqb-true u v q))))

less_or : (a b : ℕ) → (suc a ≤ b) ⊎ (b ≤ a)
less_or a zero = inr (omega arith)
less_or zero (suc b) = inl (omega arith)
less_or (suc a) (suc b) = up (less_or a b)
  where
    up : (suc a ≤ b) ⊎ (b ≤ a) → (suc (suc a) ≤ suc b) ⊎ (suc b ≤ suc a)
    up (inl h) = inl (omega arith)
    up (inr h) = inr (omega arith)

module _ (script : Script) where
  lost_makes : (v i : ℕ) (m : Name) (b : Bool) → total (makes script v i) (pick b (LostCut m ∷ []) []) ≡ 0
  unfolding total makes
  lost_makes v i m true = refl
  lost_makes v i m false = refl

  event_makes : (ls : List Link) (u v i : ℕ) (e : Happened Name) → total (makes script v i) (world.event_of ls u e) ≡ where_so (u == v) (made_one i (thing_made (names script u) e))
  unfolding world.event_of total makes made_one
  event_makes ls u v i (Posted w m) = lost_makes v i m (world.is_cut u w ls) ∙ sym (so_none (u == v))
  event_makes ls u v i _ = omega arith

  events_make : (ls : List Link) (u v i : ℕ) (es : List (Happened Name)) → total (makes script v i) (world.events_of ls u es) ≡ where_so (u == v) (total (made_one i) (map (thing_made (names script u)) es))
  unfolding world.events_of total
  events_make ls u v i [] = sym (so_none (u == v))
  events_make ls u v i (e ∷ es) = let a = total_append (makes script v i) (world.event_of ls u e) (world.events_of ls u es) in let b = event_makes ls u v i e in let c = events_make ls u v i es in
      let d = so_add (u == v) (made_one i (thing_made (names script u) e)) (total (made_one i) (map (thing_made (names script u)) es)) in omega arith

  -- each number of a thing of a vat is made once at most, and none from the vat's count on
  abbrev pub MadeOnce : World → Type 0
  MadeOnce w = (v : ℕ) (s : Vat Name) → slice_get w.vats v ≡ Some s → (i : ℕ) → (total (makes script v i) w.history ≤ 1) × (length s.things ≤ i → total (makes script v i) w.history ≡ 0)

  -- lines that make nothing
  pub made_still : (w y : World) (es : List Event) → y.vats ≡ w.vats → y.history ≡ w.history ++ es → ((v i : ℕ) → total (makes script v i) es ≡ 0) → MadeOnce w → MadeOnce y
  made_still w y es vats more none h v s e i = let r = h v s (subst (λ xs. slice_get xs v ≡ Some s) vats e) i in let a = ap (total (makes script v i)) more ∙ total_append (makes script v i) w.history es in let z = none v i in
      let f = r.0 in (omega arith, λ k. let c = r.1 k in omega arith)

  -- a step of vat v, with its own line
  pub made_next : (v : ℕ) (w y : World) (e : Event) (s t : Vat Name) → slice_get w.vats v ≡ Some s → y.vats ≡ world.put_at v t w.vats → y.history ≡ (w.history ++ e ∷ []) ++ world.events_of w.links v t.happened
      → ((u i : ℕ) → makes script u i e ≡ 0) → Rises (length s.things) (map (thing_made (names script v)) t.happened) (length t.things) → MadeOnce w → MadeOnce y
  unfolding total
  made_next v w y e s t at vats history own rises h u q f i = either (put_either v t w.vats u q (subst (λ xs. slice_get xs u ≡ Some q) vats f))
    where
      count : total (makes script u i) y.history ≡ total (makes script u i) w.history + where_so (v == u) (total (made_one i) (map (thing_made (names script v)) t.happened))
      count = let a = ap (total (makes script u i)) history ∙ total_append (makes script u i) (w.history ++ e ∷ []) (world.events_of w.links v t.happened) in let b = total_append (makes script u i) w.history (e ∷ []) in
          let c = own u i in let d = events_make w.links v u i t.happened in omega arith

      mine : u ≡ v → q ≡ t → (total (makes script u i) y.history ≤ 1) × (length q.things ≤ i → total (makes script u i) y.history ≡ 0)
      mine is same = let r = rises_counted i (map (thing_made (names script v)) t.happened) (length s.things) (length t.things) rises in let o = h u s (subst (λ n. slice_get w.vats n ≡ Some s) (sym is) at) i in
          let c = count in let k : where_so (v == u) (total (made_one i) (map (thing_made (names script v)) t.happened)) ≡ total (made_one i) (map (thing_made (names script v)) t.happened) = ap (λ n. where_so (v == n) (total (made_one i) (map (thing_made (names script v)) t.happened))) is ∙ so_same v _ in
          let l : length q.things ≡ length t.things = ap (λ (z : Vat Name). length z.things) same in let b = r.bounds in let x = r.few in let y = o.0 in
          (by_place (less_or i (length s.things)) r o c k, λ j. let z = r.above (omega arith) in let p = o.1 (omega arith) in omega arith)
        where
          by_place : (suc i ≤ length s.things) ⊎ (length s.things ≤ i) → Counted i (length s.things) (length t.things) (map (thing_made (names script v)) t.happened)
              → (total (makes script u i) w.history ≤ 1) × (length s.things ≤ i → total (makes script u i) w.history ≡ 0)
              → total (makes script u i) y.history ≡ total (makes script u i) w.history + where_so (v == u) (total (made_one i) (map (thing_made (names script v)) t.happened))
              → where_so (v == u) (total (made_one i) (map (thing_made (names script v)) t.happened)) ≡ total (made_one i) (map (thing_made (names script v)) t.happened)
              → total (makes script u i) y.history ≤ 1
          by_place (inl j) r o c k = let z = r.below j in let p = o.0 in omega arith
          by_place (inr j) r o c k = let z = o.1 j in let p = r.few in omega arith

      other : (u ≡ v → ⊥) → slice_get w.vats u ≡ Some q → (total (makes script u i) y.history ≤ 1) × (length q.things ≤ i → total (makes script u i) y.history ≡ 0)
      other not g = let o = h u q g i in let c = count in let k = so_other v u (total (made_one i) (map (thing_made (names script v)) t.happened)) not in let p = o.0 in (omega arith, λ j. let z = o.1 j in omega arith)

      either : ((u ≡ v) × (q ≡ t)) ⊎ ((u ≡ v → ⊥) × (slice_get w.vats u ≡ Some q)) → (total (makes script u i) y.history ≤ 1) × (length q.things ≤ i → total (makes script u i) y.history ≡ 0)
      either (inl j) = mine j.0 j.1
      either (inr j) = other j.0 j.1

  -- the lines that tell of steps make nothing
  pub opens_make : (v u i : ℕ) → makes script u i (Opens v) ≡ 0
  unfolding makes
  opens_make v u i = refl

  pub turned_makes : (k v u i : ℕ) → makes script u i (Turned k v) ≡ 0
  unfolding makes
  turned_makes k v u i = refl

  pub carried_makes : (k a b : ℕ) (n : Note Name) (bytes : List ℕ) (u i : ℕ) → makes script u i (Carried k a b n bytes) ≡ 0
  unfolding makes
  carried_makes k a b n bytes u i = refl

  pub noticed_makes : (k a b u i : ℕ) → makes script u i (NoticedAt k a b) ≡ 0
  unfolding makes
  noticed_makes k a b u i = refl
