-- Each activation of a vat begins once: its number is above those that began before, and the opening's is 0.
use Rattle.std.proofs.Common.{◌≡◌, ℕ, zero, suc, ◌≤◌, arith, Bool, true, false, List, [], ◌∷◌, ◌++◌, Option, Some, None, refl, sym, ap, subst, map, ◌⊎◌, inl, inr}
use Rattle.std.specs.Prelude.{slice_get}
use Rattle.def_kernel.specs.declared.node.Node.{Node}
use Rattle.def_machine.specs.Values.{Name, Root, Naming}
use Rattle.def_machine.specs.State.{Binding, Message, Happened, Posted, Vat, Done, Gives, ◌>>=◌, and_then, give, new_activation}
use Rattle.def_machine.specs.Eval as eval
use Rattle.law_machine.specs.Machine.Steps.{Step, does, After}
use Rattle.law_machine.proofs.Machine.Walks.{walk_bind}
use Rattle.law_machine.proofs.Machine.Whole.{in_eval, in_eval_under, whole_resolve}
use Rattle.law_machine.proofs.Machine.EvalWalk.{in_nodes, good_evaluator, walk_closes}
use Rattle.def_run.specs.World as world
use Rattle.def_run.specs.World.{Script, Program, Event, Opens, Here, LostCut, Link, World, Run, Goes, Stopped, names, begins}
use Rattle.def_run.specs.Text.{history_of}
use Rattle.law_fate.specs.Fates.FateRuns.{Reached}
use Rattle.law_uses.specs.Connectivity.Known.{AllOf}
use Rattle.law_uses.specs.Connectivity.Activations.{begun_by, Rises}
use Rattle.law_uses.proofs.Connectivity.Counts.{Counts, CountsBy, Ends, counts_whole}
use Rattle.law_uses.proofs.Connectivity.StepCounts.{steps_count}
use Rattle.law_uses.proofs.Uses.Kept.{put_either}
use Rattle.law_uses.proofs.Running.Course.{end_none, joined, IsNeutral, Opening, first, next, Course, opened, quiet, stepped, run_course}

-- ---- what holds of each event after those before it

module _ (P : List Event → Event → Type 0) where
  abbrev pub AllAfter : List Event → List Event → Type 0
  AllAfter hs [] = Unit {0}
  AllAfter hs (e ∷ es) = P hs e × AllAfter (hs ++ e ∷ []) es

  pub after_join : (hs es fs : List Event) → AllAfter hs es → AllAfter (hs ++ es) fs → AllAfter hs (es ++ fs)
  after_join hs [] fs h k = subst (λ r. AllAfter r fs) (end_none hs) k
  after_join hs (e ∷ es) fs h k = (h.0, after_join (hs ++ e ∷ []) es fs h.1 (subst (λ r. AllAfter r fs) (sym (joined hs (e ∷ []) es)) k))

  pub after_at : (hs es h k : List Event) (e : Event) → AllAfter hs es → es ≡ h ++ e ∷ k → P (hs ++ h) e
  after_at hs [] [] k e all q = cc
  after_at hs [] (x ∷ h) k e all q = cc
  after_at hs (x ∷ es) [] k e all q = let same : x ≡ e = cc in subst (λ r. P r e) (sym (end_none hs)) (subst (P hs) same all.0)
  after_at hs (x ∷ es) (y ∷ h) k e all q = let same : x ≡ y = cc in let rest : es ≡ h ++ e ∷ k = cc in
      subst (λ r. P r e) (joined hs (y ∷ []) h) (after_at (hs ++ y ∷ []) es h k e (subst (λ z. AllAfter (hs ++ z ∷ []) es) same all.1) rest)

-- ---- numbers of activations

-- below that number, where it begins one
abbrev pub IsUnder : ℕ → Option ℕ → Type 0
IsUnder n None = Unit {0}
IsUnder n (Some b) = suc b ≤ n

-- the activation of vat v that an event begins is below that number
abbrev pub Under : ℕ → ℕ → Event → Type 0
Under v n (Here u e) = u ≡ v → IsUnder n (begun_by e)
Under v n (Opens u) = u ≡ v → suc zero ≤ n
Under v n _ = Unit {0}

-- it is another than b
abbrev pub IsOther : ℕ → Option ℕ → Type 0
IsOther b None = Unit {0}
IsOther b (Some c) = c ≡ b → ⊥

abbrev pub Other : ℕ → ℕ → Event → Type 0
Other v b (Here u e) = u ≡ v → IsOther b (begun_by e)
Other v b (Opens u) = u ≡ v → zero ≡ b → ⊥
Other v b _ = Unit {0}

abbrev pub AnewAt : ℕ → List Event → Option ℕ → Type 0
AnewAt v hs None = Unit {0}
AnewAt v hs (Some b) = AllOf (Other v b) hs

-- what an event begins, none before it begins
abbrev pub Anew : List Event → Event → Type 0
Anew hs (Here v e) = AnewAt v hs (begun_by e)
Anew hs (Opens v) = AllOf (Other v zero) hs
Anew hs _ = Unit {0}

under_other : (n b : ℕ) → n ≤ b → (o : Option ℕ) → IsUnder n o → IsOther b o
under_other n b l None h = tt
under_other n b l (Some c) h = λ e. omega arith

under_up : (n m : ℕ) → n ≤ m → (o : Option ℕ) → IsUnder n o → IsUnder m o
under_up n m l None h = tt
under_up n m l (Some c) h = omega arith

event_other : (v n b : ℕ) → n ≤ b → (e : Event) → Under v n e → Other v b e
event_other v n b l (Here u e) h = λ i. under_other n b l (begun_by e) (h i)
event_other v n b l (Opens u) h = λ i j. let k = h i in omega arith
event_other v n b l _ h = tt

event_up : (v n m : ℕ) → n ≤ m → (e : Event) → Under v n e → Under v m e
event_up v n m l (Here u e) h = λ i. under_up n m l (begun_by e) (h i)
event_up v n m l (Opens u) h = λ i. let k = h i in omega arith
event_up v n m l _ h = tt

-- ---- in lists of events

pub all_join : {A : Type 0} (P : A → Type 0) (xs ys : List A) → AllOf P xs → AllOf P ys → AllOf P (xs ++ ys)
all_join P [] ys h k = k
all_join P (x ∷ xs) ys h k = (h.0, all_join P xs ys h.1 k)

all_turn : {A : Type 0} (P Q : A → Type 0) → ((x : A) → P x → Q x) → (xs : List A) → AllOf P xs → AllOf Q xs
all_turn P Q f [] h = tt
all_turn P Q f (x ∷ xs) h = (f x h.0, all_turn P Q f xs h.1)

neutral_under : (v n : ℕ) (e : Event) → IsNeutral e → Under v n e
neutral_under v n (Here u e) h = absurd h
neutral_under v n (Opens u) h = absurd h
neutral_under v n _ h = tt

neutral_anew : (hs : List Event) (e : Event) → IsNeutral e → Anew hs e
neutral_anew hs (Here u e) h = absurd h
neutral_anew hs (Opens u) h = absurd h
neutral_anew hs _ h = tt

neutrals_anew : (hs es : List Event) → AllOf IsNeutral es → AllAfter Anew hs es
neutrals_anew hs [] h = tt
neutrals_anew hs (e ∷ es) h = (neutral_anew hs e h.0, neutrals_anew (hs ++ e ∷ []) es h.1)

-- ---- the lines of a step

-- a line of a vat is an event; what is no event begins nothing
event_shape : (ls : List Link) (v : ℕ) (e : Happened Name) → (world.event_of ls v e ≡ Here v e ∷ []) ⊎ (AllOf IsNeutral (world.event_of ls v e) × (begun_by e ≡ None))
unfolding world.event_of begun_by
event_shape ls v (Posted w m) = inr (lost (world.is_cut v w ls), refl)
  where
    lost : (b : Bool) → AllOf IsNeutral (elim b [ true ↦ LostCut m ∷ [] | false ↦ [] ])
    lost true = (tt, tt)
    lost false = tt
event_shape ls v _ = inl refl

-- From that count on a step numbers those that it begins upwards: each is new after these events, and below the count after it.
record StepAnew (v m : ℕ) (hs es : List Event) : Type 0 where
  pub anew : AllAfter Anew hs es
  pub under : AllOf (Under v m) (hs ++ es)

one_more : (v n m : ℕ) (hs es fs : List Event) → AllAfter Anew hs es → StepAnew v m (hs ++ es) fs → StepAnew v m hs (es ++ fs)
one_more v n m hs es fs h r = record { anew = after_join Anew hs es fs h r.anew; under = subst (AllOf (Under v m)) (joined hs es fs) r.under }

-- the first line of a step, where what comes behind it is known
module _ (ls : List Link) (v m : ℕ) (e : Happened Name) (es : List (Happened Name)) (rest : (n : ℕ) (hs : List Event) → AllOf (Under v n) hs → Rises n (map begun_by es) m → StepAnew v m hs (world.events_of ls v es)) where
  line_anew : (n : ℕ) (hs : List Event) → AllOf (Under v n) hs → (o : Option ℕ) → begun_by e ≡ o → Rises n (o ∷ map begun_by es) m → StepAnew v m hs (Here v e ∷ world.events_of ls v es)
  line_anew n hs h None q k = one_more v n m hs (Here v e ∷ []) (world.events_of ls v es) (subst (AnewAt v hs) (sym q) tt, tt)
      (rest n (hs ++ Here v e ∷ []) (all_join (Under v n) hs (Here v e ∷ []) h ((λ i. subst (IsUnder n) (sym q) tt), tt)) k)
  line_anew n hs h (Some b) q k = let l = k.0 in let up : n ≤ suc b = omega arith in let last : suc b ≤ suc b = omega arith in
      one_more v n m hs (Here v e ∷ []) (world.events_of ls v es) (subst (AnewAt v hs) (sym q) (all_turn (Under v n) (Other v b) (event_other v n b l) hs h), tt)
      (rest (suc b) (hs ++ Here v e ∷ []) (all_join (Under v (suc b)) hs (Here v e ∷ []) (all_turn (Under v n) (Under v (suc b)) (event_up v n (suc b) up) hs h) ((λ i. subst (IsUnder (suc b)) (sym q) last), tt)) k.1)

  silent_rises : (n : ℕ) (o : Option ℕ) → o ≡ None → Rises n (o ∷ map begun_by es) m → Rises n (map begun_by es) m
  silent_rises n None q k = k
  silent_rises n (Some b) q k = cc

  event_anew : (n : ℕ) (hs : List Event) → AllOf (Under v n) hs → Rises n (map begun_by (e ∷ es)) m → (world.event_of ls v e ≡ Here v e ∷ []) ⊎ (AllOf IsNeutral (world.event_of ls v e) × (begun_by e ≡ None)) → StepAnew v m hs (world.event_of ls v e ++ world.events_of ls v es)
  event_anew n hs h r (inl q) = subst (λ xs. StepAnew v m hs (xs ++ world.events_of ls v es)) (sym q) (line_anew n hs h (begun_by e) refl r)
  event_anew n hs h r (inr q) = let xs : List Event = world.event_of ls v e in
      one_more v n m hs xs (world.events_of ls v es) (neutrals_anew hs xs q.0)
      (rest n (hs ++ xs) (all_join (Under v n) hs xs h (all_turn IsNeutral (Under v n) (neutral_under v n) xs q.0)) (silent_rises n (begun_by e) q.1 r))

step_anew : (ls : List Link) (v m : ℕ) (es : List (Happened Name)) (n : ℕ) (hs : List Event) → AllOf (Under v n) hs → Rises n (map begun_by es) m → StepAnew v m hs (world.events_of ls v es)
unfolding world.events_of
step_anew ls v m [] n hs h r = record { anew = tt; under = subst (AllOf (Under v m)) (sym (end_none hs)) (all_turn (Under v n) (Under v m) (event_up v n m r) hs h) }
step_anew ls v m (e ∷ es) n hs h r = event_anew ls v m e es (λ k gs f g. step_anew ls v m es k gs f g) n hs h r (event_shape ls v e)

-- the lines of another vat
others_under : (ls : List Link) (v u n : ℕ) (es : List (Happened Name)) → (v ≡ u → ⊥) → AllOf (Under u n) (world.events_of ls v es)
unfolding world.events_of
others_under ls v u n [] apart = tt
others_under ls v u n (e ∷ es) apart = all_join (Under u n) (world.event_of ls v e) (world.events_of ls v es) (one (event_shape ls v e)) (others_under ls v u n es apart)
  where
    one : (world.event_of ls v e ≡ Here v e ∷ []) ⊎ (AllOf IsNeutral (world.event_of ls v e) × (begun_by e ≡ None)) → AllOf (Under u n) (world.event_of ls v e)
    one (inl q) = subst (AllOf (Under u n)) (sym q) ((λ i. absurd (apart i)), tt)
    one (inr q) = all_turn IsNeutral (Under u n) (neutral_under u n) (world.event_of ls v e) q.0

-- ---- in a world

-- each event begins what is new, and what a vat began is below its count
pub record Numbered (w : World) : Type 0 where
  pub anew : AllAfter Anew [] w.history
  pub under : (v : ℕ) (s : Vat Name) → slice_get w.vats v ≡ Some s → AllOf (Under v s.activations) w.history

-- lines of no vat
quiet_numbered : (w x : World) (es : List Event) → x.vats ≡ w.vats → x.history ≡ w.history ++ es → AllOf IsNeutral es → Numbered w → Numbered x
quiet_numbered w x es vats more plain h = record {
  anew = subst (AllAfter Anew []) (sym more) (after_join Anew [] w.history es h.anew (neutrals_anew w.history es plain));
  under = λ v s e. subst (AllOf (Under v s.activations)) (sym more) (all_join (Under v s.activations) w.history es (h.under v s (subst (λ vs. slice_get vs v ≡ Some s) vats e)) (all_turn IsNeutral (Under v s.activations) (neutral_under v s.activations) es plain));
}

-- a step of vat v behind its line, which numbers from low on
step_numbered : (v low : ℕ) (w x : World) (head : Event) (s t : Vat Name) (ls : List Link) → slice_get w.vats v ≡ Some s → x.vats ≡ world.put_at v t w.vats → x.history ≡ (w.history ++ head ∷ []) ++ world.events_of ls v t.happened
    → Anew w.history head → ((u n : ℕ) → (u ≡ v → low ≤ n) → Under u n head) → s.activations ≤ low → Rises low (map begun_by t.happened) t.activations → Numbered w → Numbered x
step_numbered v low w x head s t ls at vats more new under_head up rises h = record {
  anew = subst (AllAfter Anew []) (sym more) (after_join Anew [] (w.history ++ head ∷ []) (world.events_of ls v t.happened) (after_join Anew [] w.history (head ∷ []) h.anew (new, tt)) mine.anew);
  under = λ u q e. subst (AllOf (Under u q.activations)) (sym more) (either u q (put_either v t w.vats u q (subst (λ vs. slice_get vs u ≡ Some q) vats e)));
}
  where
    before : AllOf (Under v low) (w.history ++ head ∷ [])
    before = all_join (Under v low) w.history (head ∷ []) (all_turn (Under v s.activations) (Under v low) (event_up v s.activations low up) w.history (h.under v s at)) (under_head v low (λ i. omega arith), tt)

    mine : StepAnew v t.activations (w.history ++ head ∷ []) (world.events_of ls v t.happened)
    mine = step_anew ls v t.activations t.happened low (w.history ++ head ∷ []) before rises

    either : (u : ℕ) (q : Vat Name) → ((u ≡ v) × (q ≡ t)) ⊎ ((u ≡ v → ⊥) × (slice_get w.vats u ≡ Some q)) → AllOf (Under u q.activations) ((w.history ++ head ∷ []) ++ world.events_of ls v t.happened)
    either u q (inl i) = subst (λ n. AllOf (Under n q.activations) ((w.history ++ head ∷ []) ++ world.events_of ls v t.happened)) (sym i.0)
        (subst (λ (r : Vat Name). AllOf (Under v r.activations) ((w.history ++ head ∷ []) ++ world.events_of ls v t.happened)) (sym i.1) mine.under)
    either u q (inr i) = all_join (Under u q.activations) (w.history ++ head ∷ []) (world.events_of ls v t.happened)
        (all_join (Under u q.activations) w.history (head ∷ []) (h.under u q i.1) (under_head u q.activations (λ j. absurd (i.0 j)), tt)) (others_under ls v u q.activations t.happened (λ j. i.0 (sym j)))

-- ---- how a step numbers

rises_after : (low : ℕ) (t : Vat Name) (d : Done Name (Unit {0})) → Ends low d → d ≡ Gives tt t → Rises low (map begun_by t.happened) t.activations
rises_after low t (Gives u x) h q = let same : x ≡ t = cc in subst (λ (z : Vat Name). Rises low (map begun_by z.happened) z.activations) same h
rises_after low t other h q = cc

after_rises : (r t : Vat Name) (d : Done Name (Unit {0})) → After (λ s t. Rises s.activations (map begun_by t.happened) t.activations) r d → d ≡ Gives tt t → Rises r.activations (map begun_by t.happened) t.activations
after_rises r t (Gives u x) h q = let same : x ≡ t = cc in subst (λ (z : Vat Name). Rises r.activations (map begun_by z.happened) z.activations) same h
after_rises r t other h q = cc

module _ (script : Script) (v : ℕ) where
  abbrev K : Naming Name Name
  K = names script v

  -- what an opening turn does once its own activation has its number
  opening_counts : (low act : ℕ) (tree : List Node) (depth : ℕ) (root : Name) (given : List (Binding Name)) → Counts low (eval.closes K tree act (Some root) ((eval.evaluator K tree depth).expression 0 (record { act = act; nouns = given }) >>= λ x. give x.value))
  opening_counts low act tree depth root given = let law = counts_whole K low in let good = good_evaluator (CountsBy low) K tree law.closed law.ends (in_eval (CountsBy low) K law) (in_nodes (CountsBy low) K tree law.closed law.ends (in_eval (CountsBy low) K law) (in_eval_under (CountsBy low) K law tree)) depth in
      walk_closes (CountsBy low) K tree law.closed law.ends (in_eval (CountsBy low) K law) (in_eval_under (CountsBy low) K law tree) act (Some root) (whole_resolve (CountsBy low) K law root) _
      (walk_bind (CountsBy low) law.closed (good.expression 0 (record { act = act; nouns = given })) (λ x. law.closed.gives x.value))

  opening_rises : (tree : List Node) (depth : ℕ) (root : Name) (given : List (Binding Name)) (r : Vat Name) → r.happened ≡ [] → Ends (suc r.activations) (eval.opening K tree depth root given r)
  unfolding eval.opening new_activation ◌>>=◌ and_then
  opening_rises tree depth root given r e = (opening_counts (suc r.activations) r.activations tree depth root given).after (record r { activations = suc r.activations }) (subst (λ (es : List (Happened Name)). Rises (suc r.activations) (map begun_by es) (suc r.activations)) (sym e) (omega arith))

  -- ---- the course of a run

  step_rises : (w : World) (s t : Vat Name) (ms : List (Message Name)) (step : Step Name Name) → does (names script v) step (world.readied w (record s { queue = ms })) ≡ Gives tt t → Rises s.activations (map begun_by t.happened) t.activations
  unfolding world.readied
  step_rises w s t ms step q = after_rises (world.readied w (record s { queue = ms })) t (does K step (world.readied w (record s { queue = ms }))) (steps_count K step (world.readied w (record s { queue = ms })) refl) q

  open_rises : (w : World) (s t : Vat Name) (tree : List Node) (depth : ℕ) (root : Name) (given : List (Binding Name)) → eval.opening K tree depth root given (world.readied w s) ≡ Gives tt t → Rises (suc s.activations) (map begun_by t.happened) t.activations
  unfolding world.readied
  open_rises w s t tree depth root given q = rises_after (suc s.activations) t (eval.opening K tree depth root given (world.readied w s)) (opening_rises tree depth root given (world.readied w s) refl) q

module _ (script : Script) where
  -- no vat from number n on has begun an activation
  abbrev Unopened : ℕ → World → Type 0
  Unopened n w = (u : ℕ) (s : Vat Name) → n ≤ u → slice_get w.vats u ≡ Some s → s.activations ≡ zero

  same_some : (x y : Vat Name) → Some x ≡ Some y → x ≡ y
  same_some x y e = cc

  fresh_none : (v : ℕ) (ps : List Program) (u : ℕ) (s : Vat Name) → slice_get (world.fresh_from script v ps) u ≡ Some s → s.activations ≡ zero
  unfolding world.fresh_from world.fresh
  fresh_none v [] u s e = cc
  fresh_none v (p ∷ ps) zero s e = ap (λ (r : Vat Name). r.activations) (sym (same_some (world.fresh script v p) s e))
  fresh_none v (p ∷ ps) (suc u) s e = fresh_none (suc v) ps u s e

  under_none : (v : ℕ) (s : Vat Name) → AllOf (Under v s.activations) []
  under_none v s = tt

  begins_numbered : Numbered (begins script) × Unopened zero (begins script)
  unfolding begins
  begins_numbered = (record { anew = tt; under = λ v s e. under_none v s }, λ u s l e. fresh_none zero script.vats u s e)

  opening_numbered : (n : ℕ) (w : World) → Opening script n w → Numbered w × Unopened n w
  opening_numbered _ w first = begins_numbered
  opening_numbered _ x (next {n = n} {w = w} p s t o programmed at q vats more) = let h = opening_numbered n w o in let none : s.activations ≡ zero = h.1 n s (omega arith) at in let low : s.activations ≤ zero = omega arith in (
    step_numbered n (suc s.activations) w x (Opens n) s t w.links at vats more (all_turn (Under n s.activations) (Other n zero) (event_other n s.activations zero low) w.history (h.0.under n s at))
        (λ u m f i. let k = f (sym i) in omega arith) (omega arith) (open_rises script n w s t p.tree script.depth (Root n) (world.given script.vats p.knows) q) h.0,
    λ u r l e. later u r l (put_either n t w.vats u r (subst (λ vs. slice_get vs u ≡ Some r) vats e)) h.1,
  )
    where
      later : (u : ℕ) (r : Vat Name) → suc n ≤ u → ((u ≡ n) × (r ≡ t)) ⊎ ((u ≡ n → ⊥) × (slice_get w.vats u ≡ Some r)) → Unopened n w → r.activations ≡ zero
      later u r l (inl i) h = let j = i.0 in absurd (below j)
        where
          below : u ≡ n → ⊥
          below j = omega arith
      later u r l (inr i) h = h u r (omega arith) i.1

  course_numbered : (w : World) → Course script w → Numbered w
  course_numbered w (opened n o) = (opening_numbered n w o).0
  course_numbered x (quiet {w = w} es c vats more plain) = quiet_numbered w x es vats more plain (course_numbered w c)
  course_numbered x (stepped {w = w} v s t ms head step ls c at taken plain q vats more) = step_numbered v s.activations w x head s t ls at vats more (neutral_anew w.history head plain) (λ u n f. neutral_under u n head plain) (omega arith) (step_rises script v w s t ms step q) (course_numbered w c)

  run_numbered : (r : Run) → Reached (Course script) r → AllAfter Anew [] (history_of r)
  unfolding history_of
  run_numbered (Goes w) h = (course_numbered w h).anew
  run_numbered (Stopped c k w) h = (course_numbered w h).anew

  -- each event of a run begins what is new
  pub run_anew : AllAfter Anew [] (history_of (world.run script))
  run_anew = run_numbered (world.run script) (run_course script)
