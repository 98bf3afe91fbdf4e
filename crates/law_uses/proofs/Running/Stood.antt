-- In every world of a run each settling that a line tells of stands.
use Rattle.std.proofs.Common.{◌≡◌, ℕ, zero, suc, List, [], ◌∷◌, ◌++◌, Some, refl, sym, ◌∙◌, subst, ◌⊎◌, inl, inr}
use Rattle.std.specs.Prelude.{slice_get}
use Rattle.def_machine.specs.Values.{Value, Name, Root, Naming}
use Rattle.def_machine.specs.State.{Message, Standing, Settled, Happened, Settles, Vat, Done, Gives}
use Rattle.def_machine.specs.Refs.{standing_of}
use Rattle.law_machine.specs.Machine.Steps.{Step, Opens as Starts, Takes, does, After}
use Rattle.def_run.specs.World as world
use Rattle.def_run.specs.World.{Script, Event, Opens, Here, Link, World, Run, Goes, Stopped, names, begins, run}
use Rattle.def_run.specs.Text.{history_of}
use Rattle.law_fate.specs.Fates.FateRuns.{Reached}
use Rattle.law_uses.specs.Connectivity.Known.{IsAmong, AllOf}
use Rattle.law_uses.proofs.Connectivity.Events.{all_at, among_either, events_here}
use Rattle.law_uses.proofs.Uses.Kept.{put_either}
use Rattle.law_uses.specs.Running.Settled.{SettlingsStand, SettlingsStandInRuns}
use Rattle.law_uses.proofs.Running.Course.{IsNeutral, Opening, first, next, Course, opened, quiet, stepped, opened_course, entered_course, ended_course, run_course}
use Rattle.law_uses.proofs.Running.Standing.{Tells, stands_later, MayTake, steps_tell}

-- how a step that gives has ended
pub tells_after : {N W : Type 0} (K : Naming N W) (T : Message N → Type 0) (C : Type 0) (r t : Vat N) (d : Done N (Unit {0})) → After (Tells K T C) r d → d ≡ Gives tt t → Tells K T C r t
tells_after K T C r t (Gives u x) h q = let same : x ≡ t = cc in subst (λ z. Tells K T C r z) same h
tells_after K T C r t other h q = cc

-- any message may be taken
abbrev Any : Message Name → Type 0
Any m = Unit {0}

any_may : (K : Naming Name Name) (step : Step Name Name) → MayTake K Any (Unit {0}) step
any_may K (Takes tree depth m) = (tt, tt)
any_may K other = tt

module _ (script : Script) where
  -- what is told of a vat's settlings in a history
  abbrev StandIn : List Event → ℕ → Vat Name → Type 0
  StandIn es v s = (n : Name) (y : Value Name) → IsAmong (Here v (Settles n y)) es → standing_of (names script v) s.known n ≡ Settled y

  -- lines of no vat
  no_line : (v : ℕ) (e : Happened Name) (es : List Event) → AllOf IsNeutral es → IsAmong (Here v e) es → ⊥
  no_line v e es plain i = all_at IsNeutral es (Here v e) plain i

  quiet_stand : (w x : World) (es : List Event) → x.vats ≡ w.vats → x.history ≡ w.history ++ es → AllOf IsNeutral es → SettlingsStand script w → SettlingsStand script x
  quiet_stand w x es vats more plain h v s e n y i = old (among_either (Here v (Settles n y)) w.history es (subst (λ hs. IsAmong (Here v (Settles n y)) hs) more i))
    where
      old : IsAmong (Here v (Settles n y)) w.history ⊎ IsAmong (Here v (Settles n y)) es → standing_of (names script v) s.known n ≡ Settled y
      old (inl j) = h v s (subst (λ vs. slice_get vs v ≡ Some s) vats e) n y j
      old (inr j) = absurd (no_line v (Settles n y) es plain j)

  -- a step of vat v, which is s, from r on, which knows what s does, behind lines of no vat's step
  module _ (v : ℕ) (w x : World) (head : Event) (s r t : Vat Name) (ls : List Link) (at : slice_get w.vats v ≡ Some s) (vats : x.vats ≡ world.put_at v t w.vats) (more : x.history ≡ (w.history ++ head ∷ []) ++ world.events_of ls v t.happened)
      (plain : (u : ℕ) (e : Happened Name) → Here u e ≡ head → ⊥) (known : r.known ≡ s.known) (none : r.happened ≡ []) (told : Tells (names script v) Any (Unit {0}) r t) (h : SettlingsStand script w) where
    abbrev Told : ℕ → Name → Value Name → Type 0
    Told u n y = IsAmong (Here u (Settles n y)) w.history ⊎ ((u ≡ v) × IsAmong (Settles n y) t.happened)

    told_of : (u : ℕ) (n : Name) (y : Value Name) → IsAmong (Here u (Settles n y)) x.history → Told u n y
    told_of u n y i = behind (among_either (Here u (Settles n y)) (w.history ++ head ∷ []) (world.events_of ls v t.happened) (subst (λ hs. IsAmong (Here u (Settles n y)) hs) more i))
      where
        before : IsAmong (Here u (Settles n y)) w.history ⊎ IsAmong (Here u (Settles n y)) (head ∷ []) → Told u n y
        before (inl j) = inl j
        before (inr (inl q)) = absurd (plain u (Settles n y) q)
        before (inr (inr j)) = absurd j

        behind : IsAmong (Here u (Settles n y)) (w.history ++ head ∷ []) ⊎ IsAmong (Here u (Settles n y)) (world.events_of ls v t.happened) → Told u n y
        behind (inl j) = before (among_either (Here u (Settles n y)) w.history (head ∷ []) j)
        behind (inr j) = inr (events_here ls v u (Settles n y) t.happened j)

    mine : (n : Name) (y : Value Name) → Told v n y → standing_of (names script v) t.known n ≡ Settled y
    mine n y (inl j) = stands_later (names script v) Any (Unit {0}) r t told.stays n y (subst (λ ks. standing_of (names script v) ks n ≡ Settled y) (sym known) (h v s at n y j))
    mine n y (inr j) = told.stood n y (subst (λ es. IsAmong (Settles n y) es) (told_lines none told.lines) j.1)
      where
        told_lines : r.happened ≡ [] → t.happened ≡ r.happened ++ told.more → t.happened ≡ told.more
        told_lines e f = subst (λ es. t.happened ≡ es ++ told.more) e f

    step_stand : SettlingsStand script x
    step_stand u q e n y i = either (put_either v t w.vats u q (subst (λ vs. slice_get vs u ≡ Some q) vats e)) (told_of u n y i)
      where
        other : (u ≡ v → ⊥) → slice_get w.vats u ≡ Some q → Told u n y → standing_of (names script u) q.known n ≡ Settled y
        other apart f (inl j) = h u q f n y j
        other apart f (inr j) = absurd (apart j.0)

        either : ((u ≡ v) × (q ≡ t)) ⊎ ((u ≡ v → ⊥) × (slice_get w.vats u ≡ Some q)) → Told u n y → standing_of (names script u) q.known n ≡ Settled y
        either (inl j) k = subst (λ m. standing_of (names script m) q.known n ≡ Settled y) (sym j.0) (subst (λ (z : Vat Name). standing_of (names script v) z.known n ≡ Settled y) (sym j.1) (mine n y (subst (λ m. Told m n y) j.0 k)))
        either (inr j) k = other j.0 j.1 k

  -- ---- the course of a run

  opens_apart : (n u : ℕ) (e : Happened Name) → Here u e ≡ Opens n → ⊥
  opens_apart n u e q = cc

  neutral_apart : (head : Event) → IsNeutral head → (u : ℕ) (e : Happened Name) → Here u e ≡ head → ⊥
  neutral_apart head plain u e q = subst IsNeutral (sym q) plain

  opened_stand : (n : ℕ) (w x : World) (s t : Vat Name) (tree : List _) (depth : ℕ) (root : Name) (given : List _) → slice_get w.vats n ≡ Some s → does (names script n) (Starts tree depth root given) (world.readied w s) ≡ Gives tt t → x.vats ≡ world.put_at n t w.vats
      → x.history ≡ (w.history ++ Opens n ∷ []) ++ world.events_of w.links n t.happened → SettlingsStand script w → SettlingsStand script x
  unfolding world.readied
  opened_stand n w x s t tree depth root given at q vats more h = step_stand n w x (Opens n) s (world.readied w s) t w.links at vats more (opens_apart n) refl refl
      (tells_after (names script n) Any (Unit {0}) (world.readied w s) t (does (names script n) (Starts tree depth root given) (world.readied w s)) ((steps_tell (names script n) Any (Unit {0}) (Starts tree depth root given) tt).after (world.readied w s)) q) h

  stepped_stand : (v : ℕ) (w x : World) (s t : Vat Name) (ms : List (Message Name)) (head : Event) (step : Step Name Name) (ls : List Link) → slice_get w.vats v ≡ Some s → IsNeutral head → does (names script v) step (world.readied w (record s { queue = ms })) ≡ Gives tt t
      → x.vats ≡ world.put_at v t w.vats → x.history ≡ (w.history ++ head ∷ []) ++ world.events_of ls v t.happened → SettlingsStand script w → SettlingsStand script x
  unfolding world.readied
  stepped_stand v w x s t ms head step ls at plain q vats more h = let r : Vat Name = world.readied w (record s { queue = ms }) in
      step_stand v w x head s r t ls at vats more (neutral_apart head plain) refl refl (tells_after (names script v) Any (Unit {0}) r t (does (names script v) step r) ((steps_tell (names script v) Any (Unit {0}) step (any_may (names script v) step)).after r) q) h

  begins_stand : SettlingsStand script (begins script)
  unfolding begins
  begins_stand v s e n y i = absurd i

  opening_stand : (n : ℕ) (w : World) → Opening script n w → SettlingsStand script w
  unfolding does
  opening_stand _ w first = begins_stand
  opening_stand _ x (next {n = n} {w = w} p s t o programmed at q vats more) = opened_stand n w x s t p.tree script.depth (Root n) (world.given script.vats p.knows) at q vats more (opening_stand n w o)

  pub course_stand : (w : World) → Course script w → SettlingsStand script w
  course_stand w (opened n o) = opening_stand n w o
  course_stand x (quiet {w = w} es c vats more plain) = quiet_stand w x es vats more plain (course_stand w c)
  course_stand x (stepped {w = w} v s t ms head step ls c at taken plain q vats more) = stepped_stand v w x s t ms head step ls at plain q vats more (course_stand w c)

-- ---- vats of lines

-- each line is of a vat that is there
abbrev pub HasVats : World → Type 0
HasVats w = (v : ℕ) (e : Happened Name) → IsAmong (Here v e) w.history → (s : Vat Name) × (slice_get w.vats v ≡ Some s)

put_there : {A : Type 0} (n : ℕ) (y : A) (xs : List A) (u : ℕ) (x : A) → slice_get xs u ≡ Some x → (z : A) × (slice_get (world.put_at n y xs) u ≡ Some z)
unfolding world.put_at
put_there n y [] u x e = (x, e)
put_there zero y (x ∷ xs) zero z e = (y, refl)
put_there zero y (x ∷ xs) (suc u) z e = (z, e)
put_there (suc n) y (x ∷ xs) zero z e = (z, e)
put_there (suc n) y (x ∷ xs) (suc u) z e = put_there n y xs u z e

quiet_vats : (w x : World) (es : List Event) → x.vats ≡ w.vats → x.history ≡ w.history ++ es → AllOf IsNeutral es → HasVats w → HasVats x
quiet_vats w x es vats more plain h v e i = either (among_either (Here v e) w.history es (subst (λ hs. IsAmong (Here v e) hs) more i))
  where
    either : IsAmong (Here v e) w.history ⊎ IsAmong (Here v e) es → (s : Vat Name) × (slice_get x.vats v ≡ Some s)
    either (inl j) = let r = h v e j in (r.0, subst (λ vs. slice_get vs v ≡ Some r.0) (sym vats) r.1)
    either (inr j) = absurd (all_at IsNeutral es (Here v e) plain j)

step_vats : (v : ℕ) (w x : World) (head : Event) (s t : Vat Name) (ls : List Link) → slice_get w.vats v ≡ Some s → x.vats ≡ world.put_at v t w.vats → x.history ≡ (w.history ++ head ∷ []) ++ world.events_of ls v t.happened → ((u : ℕ) (e : Happened Name) → Here u e ≡ head → ⊥) → HasVats w → HasVats x
step_vats v w x head s t ls at vats more plain h u e i = behind (among_either (Here u e) (w.history ++ head ∷ []) (world.events_of ls v t.happened) (subst (λ hs. IsAmong (Here u e) hs) more i))
  where
    there : (q : Vat Name) → slice_get w.vats u ≡ Some q → (z : Vat Name) × (slice_get x.vats u ≡ Some z)
    there q f = let r = put_there v t w.vats u q f in (r.0, subst (λ vs. slice_get vs u ≡ Some r.0) (sym vats) r.1)

    before : IsAmong (Here u e) w.history ⊎ IsAmong (Here u e) (head ∷ []) → (z : Vat Name) × (slice_get x.vats u ≡ Some z)
    before (inl j) = let r = h u e j in there r.0 r.1
    before (inr (inl q)) = absurd (plain u e q)
    before (inr (inr j)) = absurd j

    behind : IsAmong (Here u e) (w.history ++ head ∷ []) ⊎ IsAmong (Here u e) (world.events_of ls v t.happened) → (z : Vat Name) × (slice_get x.vats u ≡ Some z)
    behind (inl j) = before (among_either (Here u e) w.history (head ∷ []) j)
    behind (inr j) = let r = events_here ls v u e t.happened j in there s (subst (λ n. slice_get w.vats n ≡ Some s) (sym r.0) at)

module _ (script : Script) where
  begins_vats : HasVats (begins script)
  unfolding begins
  begins_vats v e i = absurd i

  opening_vats : (n : ℕ) (w : World) → Opening script n w → HasVats w
  opening_vats _ w first = begins_vats
  opening_vats _ x (next {n = n} {w = w} p s t o programmed at q vats more) = step_vats n w x (Opens n) s t w.links at vats more (opens_apart script n) (opening_vats n w o)

  pub course_vats : (w : World) → Course script w → HasVats w
  course_vats w (opened n o) = opening_vats n w o
  course_vats x (quiet {w = w} es c vats more plain) = quiet_vats w x es vats more plain (course_vats w c)
  course_vats x (stepped {w = w} v s t ms head step ls c at taken plain q vats more) = step_vats v w x head s t ls at vats more (neutral_apart script head plain) (course_vats w c)

  settled_is : (y z : Value Name) → ◌≡◌ {A = Standing Name} (Settled y) (Settled z) → y ≡ z
  settled_is y z e = cc

  world_value : (w : World) → Course script w → (v : ℕ) (n : Name) (y z : Value Name) → IsAmong (Here v (Settles n y)) w.history → IsAmong (Here v (Settles n z)) w.history → y ≡ z
  world_value w c v n y z i j = let s = course_vats w c v (Settles n y) i in settled_is y z (sym (course_stand script w c v s.0 s.1 n y i) ∙ course_stand script w c v s.0 s.1 n z j)

  run_value : (r : Run) → Reached (Course script) r → (v : ℕ) (n : Name) (y z : Value Name) → IsAmong (Here v (Settles n y)) (history_of r) → IsAmong (Here v (Settles n z)) (history_of r) → y ≡ z
  unfolding history_of
  run_value (Goes w) c v n y z i j = world_value w c v n y z i j
  run_value (Stopped k m w) c v n y z i j = world_value w c v n y z i j

  -- two lines of a vat that tell of one name give one value
  pub one_value : (v : ℕ) (n : Name) (y z : Value Name) → IsAmong (Here v (Settles n y)) (history_of (run script)) → IsAmong (Here v (Settles n z)) (history_of (run script)) → y ≡ z
  one_value = run_value (run script) (run_course script)

pub settlings_stand : SettlingsStandInRuns
settlings_stand = (
  λ script. (
    λ ps rest w s e. course_stand script w (opened_course script ps rest w s e),
    λ w x es k e i. course_stand script x (entered_course script w x es k e i),
  ),
  λ script w e. course_stand script w (ended_course script w e),
)
