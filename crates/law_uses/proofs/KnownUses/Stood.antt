-- Each line of the history of a run stands in a step of its vat, at that place.
use Rattle.std.proofs.Common.{◌≡◌, ℕ, zero, suc, ◌+◌, ◌≤◌, arith, Bool, true, false, List, [], ◌∷◌, ◌++◌, Some, refl, sym, ap, ◌∙◌, subst, length, ◌⊎◌, inl, inr, append_assoc, append-nil}
use Rattle.std.specs.Prelude.{slice_get}
use Rattle.def_machine.specs.Values.{Name, Root}
use Rattle.def_machine.specs.State.{Message, Happened, Posted, Vat, Gives}
use Rattle.law_machine.specs.Machine.Steps.{Step, does}
use Rattle.def_run.specs.World as world
use Rattle.def_run.specs.World.{Script, Program, Entry, Event, Here, LostCut, Ends as IsEnd, Link, World, Run, Goes, Stopped, names, events_of, event_of, begins}
use Rattle.def_run.specs.Text.{history_of}
use Rattle.law_fate.specs.Fates.FateRuns.{Reached}
use Rattle.law_fate.specs.Fates.Fate.{total}
use Rattle.law_fate.proofs.Fates.RunCounts.{pick, total_append}
use Rattle.law_fate.proofs.Fates.RunFates.{none_vats, none_links}
use Rattle.law_fate.proofs.Name.Among.{get_put}
use Rattle.law_uses.specs.Connectivity.Known.{IsAmong}
use Rattle.law_uses.specs.Connectivity.Begotten.{IsTaken, IsReached, start, opened, entered, LineOf, InEachRun}
use Rattle.law_uses.proofs.Connectivity.Knowing.{among_mid}
use Rattle.law_uses.proofs.Connectivity.Events.{among_either, IsNobodys, nobodys_join, vats_nobodys, links_nobodys}
use Rattle.law_uses.proofs.Connectivity.RunStems.{one_line}
use Rattle.law_uses.proofs.Uses.Kept.{is_carry}
use Rattle.law_uses.proofs.Uses.Steps.{Parted, parted}
use Rattle.law_uses.specs.Running.Running.{HasEachLine}
use Rattle.law_uses.specs.KnownUses.Told.{IsPassed, lines_so}
use Rattle.law_uses.proofs.KnownUses.Walk.{Leads, quiet, steps, Comes, entry_comes, opening_comes, opening_keeps, FirstIs}

-- what holds in each run holds of each world of a run
pub in_run : (P : Script → World → Type 0) → InEachRun P → (script : Script) (w : World) → IsPassed script w → P script w
in_run P f script w (inl r) = (f script).0 r.0 r.1 w r.2 r.3
in_run P f script w (inr r) = (f script).1 r.0 w r.1 r.3 r.5 r.6

-- ---- the lines of a step among the events of a run

-- the line of vat u that stands there is one of the step's
abbrev Among : List Link → ℕ → List (Happened Name) → List Event → ℕ → Happened Name → Type 0
Among ls v es h u e = (so : List (Happened Name)) × (rest : List (Happened Name)) × (u ≡ v) × (es ≡ so ++ e ∷ rest) × (h ≡ events_of ls v so)

here_same : (u v : ℕ) (e f : Happened Name) (h k rest : List Event) → Here v f ∷ rest ≡ h ++ Here u e ∷ k → ((h ≡ []) × (u ≡ v) × (e ≡ f)) ⊎ ((g : List Event) × (h ≡ Here v f ∷ g) × (rest ≡ g ++ Here u e ∷ k))
here_same u v e f [] k rest q = inl (refl, cc, cc)
here_same u v e f (x ∷ g) k rest q = let a : Here v f ≡ x = cc in let b : rest ≡ g ++ Here u e ∷ k = cc in inr (g, ap (λ z. z ∷ g) (sym a), b)

-- lines of nobody in front
behind : (m : Name) (u : ℕ) (e : Happened Name) (h k rest : List Event) → LostCut m ∷ rest ≡ h ++ Here u e ∷ k → (g : List Event) × (h ≡ LostCut m ∷ g) × (rest ≡ g ++ Here u e ∷ k)
behind m u e [] k rest q = cc
behind m u e (x ∷ g) k rest q = let a : LostCut m ≡ x = cc in let b : rest ≡ g ++ Here u e ∷ k = cc in (g, ap (λ z. z ∷ g) (sym a), b)

module _ (ls : List Link) (v u : ℕ) (e : Happened Name) where
  -- an event of its own in front
  own_front : (f : Happened Name) (es : List (Happened Name)) → event_of ls v f ≡ Here v f ∷ [] → ((h k : List Event) → events_of ls v es ≡ h ++ Here u e ∷ k → Among ls v es h u e)
      → (h k : List Event) → Here v f ∷ events_of ls v es ≡ h ++ Here u e ∷ k → Among ls v (f ∷ es) h u e
  unfolding events_of
  own_front f es own r h k q = either (here_same u v e f h k (events_of ls v es) q)
    where
      either : ((h ≡ []) × (u ≡ v) × (e ≡ f)) ⊎ ((g : List Event) × (h ≡ Here v f ∷ g) × (events_of ls v es ≡ g ++ Here u e ∷ k)) → Among ls v (f ∷ es) h u e
      either (inl i) = ([], es, i.1, ap (λ z. z ∷ es) (sym i.2), i.0)
      either (inr i) = let a = r i.0 k i.2 in (f ∷ a.0, a.1, a.2, ap (λ z. f ∷ z) a.3, i.1 ∙ ap (λ z. Here v f ∷ z) a.4 ∙ ap (λ z. z ++ events_of ls v a.0) (sym own))

  lost_front : (to : ℕ) (m : Name) (es : List (Happened Name)) (b : Bool) → world.is_cut v to ls ≡ b → ((h k : List Event) → events_of ls v es ≡ h ++ Here u e ∷ k → Among ls v es h u e)
      → (h k : List Event) → pick b (LostCut m ∷ []) [] ++ events_of ls v es ≡ h ++ Here u e ∷ k → Among ls v (Posted to m ∷ es) h u e
  unfolding events_of event_of
  lost_front to m es b c r h k q = either b c q
    where
      more : (g : List Event) → Among ls v es g u e → (front : List Event) → event_of ls v (Posted to m) ≡ front → h ≡ front ++ g → Among ls v (Posted to m ∷ es) h u e
      more g a front s i = (Posted to m ∷ a.0, a.1, a.2, ap (λ z. Posted to m ∷ z) a.3, i ∙ ap (λ z. front ++ z) a.4 ∙ ap (λ z. z ++ events_of ls v a.0) (sym s))

      either : (b : Bool) → world.is_cut v to ls ≡ b → pick b (LostCut m ∷ []) [] ++ events_of ls v es ≡ h ++ Here u e ∷ k → Among ls v (Posted to m ∷ es) h u e
      either true c q = let i = behind m u e h k (events_of ls v es) q in more i.0 (r i.0 k i.2) (LostCut m ∷ []) (ap (λ b. pick b (LostCut m ∷ []) []) c) i.1
      either false c q = more h (r h k q) [] (ap (λ b. pick b (LostCut m ∷ []) []) c) refl

  pub step_line : (es : List (Happened Name)) (h k : List Event) → events_of ls v es ≡ h ++ Here u e ∷ k → Among ls v es h u e
  unfolding events_of event_of
  step_line [] [] k q = cc
  step_line [] (x ∷ h) k q = cc
  step_line (Posted to m ∷ es) h k q = lost_front to m es (world.is_cut v to ls) refl (step_line es) h k q
  step_line (f ∷ es) h k q = own_front f es refl (step_line es) h k q

length_end : {A : Type 0} (xs : List A) (x : A) → length (xs ++ x ∷ []) ≡ suc (length xs)
length_end [] x = refl
length_end (y ∷ xs) x = ap suc (length_end xs x)

-- ---- where a line stands

module _ (script : Script) where
  -- a world of the run, by the worlds that the run had come to before it
  pub data Came : World → Type 0 where
    first : Came (begins script)
    onward : {w x : World} → Came w → IsPassed script x → IsReached script x → Leads script w x → Came x

  pub is_run : (w : World) → Came w → IsPassed script w
  unfolding world.open_from
  is_run w first = inl ([], script.vats, refl, refl)
  is_run w (onward c r real l) = r

  is_real : (w : World) → Came w → IsReached script w
  is_real w first = start
  is_real w (onward c r real l) = real

  -- A line of vat v, behind these events: a step told it, after which the run had come to a world.
  pub record Stood (v : ℕ) (e : Happened Name) (h : List Event) : Type 0 where
    pub next : World
    pub run : IsPassed script next
    pub line : LineOf script next v e
    pub begun : Came line.from
    pub nobodys : IsNobodys line.head
    pub new : FirstIs line.step line.vat
    pub after : slice_get next.vats v ≡ Some line.after
    pub place : h ≡ lines_so line

  abbrev pub Lined : World → Type 0
  Lined x = (h k : List Event) (v : ℕ) (e : Happened Name) → x.history ≡ h ++ Here v e ∷ k → Stood v e h

  -- the lines of a step behind a history
  module _ (w x : World) (a : Came w) (lines : Lined w) (r : IsPassed script x) (u : ℕ) (s t : Vat Name) (ms : List (Message Name)) (head : List Event) (step : Step Name Name) (links : List Link)
      (at : slice_get w.vats u ≡ Some s) (taken : IsTaken script w u s ms head step) (none : IsNobodys head) (d : does (names script u) step (world.readied w (record s { queue = ms })) ≡ Gives tt t) (new : FirstIs step s) (there : slice_get x.vats u ≡ Some t)
      (more : x.history ≡ w.history ++ head ++ events_of links u t.happened) where
    stood_now : (h : List Event) (v : ℕ) (e : Happened Name) (g : List Event) → h ≡ (w.history ++ head) ++ g → Among links u t.happened g v e → Stood v e h
    stood_now h v e g i m = subst (λ z. Stood z e h) (sym m.2) (record {
      next = x;
      run = r;
      line = record {
        step = step;
        from = w;
        vat = s;
        queue = ms;
        before = world.readied w (record s { queue = ms });
        after = t;
        so = m.0;
        rest = m.1;
        links = links;
        head = head;
        later = [];
        real = is_real w a;
        here = at;
        taken = taken;
        ready = refl;
        stepped = d;
        together = more ∙ sym (append-nil (w.history ++ head ++ events_of links u t.happened));
        told = m.3;
      };
      begun = a;
      nobodys = none;
      new = new;
      after = there;
      place = i ∙ ap (λ z. (w.history ++ head) ++ z) m.4;
    })

    in_head : (h k : List Event) (v : ℕ) (e : Happened Name) → Parted w.history head h (Here v e) k → Stood v e h
    in_head h k v e (inl p) = lines h p.0 v e p.1
    in_head h k v e (inr p) = absurd (none v e (subst (λ z. IsAmong (Here v e) z) (sym p.2) (among_mid (Here v e) p.0 k)))

    in_step : (h k : List Event) (v : ℕ) (e : Happened Name) → Parted (w.history ++ head) (events_of links u t.happened) h (Here v e) k → Stood v e h
    in_step h k v e (inl p) = in_head h p.0 v e (parted w.history head h (Here v e) p.0 p.1)
    in_step h k v e (inr p) = stood_now h v e p.0 p.1 (step_line links u v e t.happened p.0 k p.2)

    step_lined : Lined x
    step_lined h k v e q = in_step h k v e (parted (w.history ++ head) (events_of links u t.happened) h (Here v e) k (sym more ∙ q))

  quiet_lined : (w x : World) (es : List Event) → Lined w → IsNobodys es → x.history ≡ w.history ++ es → Lined x
  quiet_lined w x es lines none more h k v e q = either (parted w.history es h (Here v e) k (sym more ∙ q))
    where
      either : Parted w.history es h (Here v e) k → Stood v e h
      either (inl p) = lines h p.0 v e p.1
      either (inr p) = absurd (none v e (subst (λ z. IsAmong (Here v e) z) (sym p.2) (among_mid (Here v e) p.0 k)))

  no_line : (h k : List Event) (x : Event) → [] ≡ h ++ x ∷ k → ⊥
  no_line [] k x q = cc
  no_line (y ∷ h) k x q = cc

  lined_on : (w x : World) → Came w → Lined w → IsPassed script x → Leads script w x → Lined x
  lined_on w x a lines r (quiet es none few vats more) = quiet_lined w x es lines none more
  lined_on w x a lines r (steps u s t ms head step links at taken none d new vats more) = step_lined w x a lines r u s t ms head step links at taken none d new (subst (λ us. slice_get us u ≡ Some t) (sym vats) (get_put w.vats u s t at)) more

  pub came_lined : (w : World) → Came w → Lined w
  unfolding begins
  came_lined w first = λ h k v e q. absurd (no_line h k (Here v e) q)
  came_lined x (onward {w = w} c r real l) = lined_on w x c (came_lined w c) r l

  -- ---- over a run

  goes_is : (x y : World) → Goes x ≡ Goes y → x ≡ y
  goes_is x y e = cc

  -- a world that the run came to, with lines of no vat behind, which carry nothing, and the same vats
  abbrev pub Ended : World → Type 0
  Ended x = (w : World) × (es : List Event) × Came w × IsNobodys es × (x.history ≡ w.history ++ es) × (total is_carry es ≡ 0) × (x.vats ≡ w.vats)

  stopped_at : (w x : World) → Came w → (x.history ≡ w.history) × (x.vats ≡ w.vats) → Ended x
  unfolding total
  stopped_at w x c e = (w, [], c, λ u f i. i, e.0 ∙ sym (append-nil w.history), refl, e.1)

  then_is : (r : Run) (f : World → Run) (x y : World) → r ≡ Goes x → f x ≡ Goes y → world.then_goes r f ≡ Goes y
  unfolding world.then_goes
  then_is (Goes z) f x y e g = let same : z ≡ x = cc in subst (λ u. f u ≡ Goes y) (sym same) g
  then_is (Stopped n k z) f x y e g = cc

  then_from : (r : Run) (f : World → Run) (y : World) → world.then_goes r f ≡ Goes y → (x : World) × (r ≡ Goes x) × (f x ≡ Goes y)
  unfolding world.then_goes
  then_from (Goes x) f y e = (x, refl, e)
  then_from (Stopped n k x) f y e = cc

  -- one more entry
  steps_end : (es : List Entry) (entry : Entry) (k : ℕ) (w x y : World) → world.steps_from script es k w ≡ Goes x → world.step script entry (k + length es) x ≡ Goes y → world.steps_from script (es ++ entry ∷ []) k w ≡ Goes y
  unfolding world.steps_from
  steps_end [] entry k w x y e f = let n : k + zero ≡ k = omega arith in then_is (world.step script entry k w) (λ z. Goes z) y y (subst (λ z. world.step script entry k z ≡ Goes y) (sym (goes_is w x e)) (subst (λ m. world.step script entry m x ≡ Goes y) n f)) refl
  steps_end (l ∷ es) entry k w x y e f = let r = then_from (world.step script l k w) (world.steps_from script es (suc k)) x e in let n : k + suc (length es) ≡ suc k + length es = omega arith in
      then_is (world.step script l k w) (world.steps_from script (es ++ entry ∷ []) (suc k)) r.0 y r.1 (steps_end es entry (suc k) r.0 x y r.2 (subst (λ m. world.step script entry m x ≡ Goes y) n f))

  -- one more opening turn
  opens_end : (ps : List Program) (p : Program) (v : ℕ) (w x y : World) → world.open_from script v ps w ≡ Goes x → world.open_vat script (v + length ps) p x ≡ Goes y → world.open_from script v (ps ++ p ∷ []) w ≡ Goes y
  unfolding world.open_from
  opens_end [] p v w x y e f = let n : v + zero ≡ v = omega arith in then_is (world.open_vat script v p w) (λ z. Goes z) y y (subst (λ z. world.open_vat script v p z ≡ Goes y) (sym (goes_is w x e)) (subst (λ m. world.open_vat script m p x ≡ Goes y) n f)) refl
  opens_end (q ∷ ps) p v w x y e f = let r = then_from (world.open_vat script v q w) (world.open_from script (suc v) ps) x e in let n : v + suc (length ps) ≡ suc v + length ps = omega arith in
      then_is (world.open_vat script v q w) (world.open_from script (suc v) (ps ++ p ∷ [])) r.0 y r.1 (opens_end ps p (suc v) r.0 x y r.2 (subst (λ m. world.open_vat script m p x ≡ Goes y) n f))

  get_mid : (front : List Program) (p : Program) (rest : List Program) → slice_get (front ++ p ∷ rest) (length front) ≡ Some p
  get_mid [] p rest = refl
  get_mid (q ∷ front) p rest = get_mid front p rest

  -- after the entries so far come these
  steps_came : (es front : List Entry) (k n : ℕ) (o w : World) → n ≡ k + length front → script.schedule ≡ front ++ es → world.open_from script zero script.vats (begins script) ≡ Goes o → world.steps_from script front k o ≡ Goes w → Came w
      → (f : World → Run) → ((x : World) → Came x → Reached Ended (f x)) → Reached Ended (world.then_goes (world.steps_from script es n w) f)
  unfolding world.steps_from world.then_goes
  steps_came [] front k n o w m parts begun at a f g = g w a
  steps_came (entry ∷ es) front k n o w m parts begun at a f g = on (world.step script entry n w) refl (entry_comes script w entry n) (λ x e c. steps_came es (front ++ entry ∷ []) k (suc n) o x count after begun (next x e) (along x e c) f g)
    where
      next : (x : World) → world.step script entry n w ≡ Goes x → world.steps_from script (front ++ entry ∷ []) k o ≡ Goes x
      next x e = steps_end front entry k o w x at (subst (λ z. world.step script entry z w ≡ Goes x) m e)

      after : script.schedule ≡ (front ++ entry ∷ []) ++ es
      after = parts ∙ sym (append_assoc front (entry ∷ []) es)

      along : (x : World) → world.step script entry n w ≡ Goes x → Leads script w x → Came x
      along x e l = onward a (inr (o, front ++ entry ∷ [], es, k, after, begun, next x e)) (entered entry n (is_real w a) e) l

      count : suc n ≡ k + length (front ++ entry ∷ [])
      count = let c = length_end front entry in omega arith

      on : (r : Run) → world.step script entry n w ≡ r → Comes script w r → ((x : World) → world.step script entry n w ≡ Goes x → Leads script w x → Reached Ended (world.then_goes (world.steps_from script es (suc n) x) f))
          → Reached Ended (world.then_goes (world.then_goes r (world.steps_from script es (suc n))) f)
      on (Goes x) e c h = h x e c
      on (Stopped i j x) e c h = stopped_at w x a c

  -- no vat from number n on has begun an activation
  abbrev Unopened : ℕ → World → Type 0
  Unopened n w = (u : ℕ) (s : Vat Name) → n ≤ u → slice_get w.vats u ≡ Some s → s.activations ≡ zero

  fresh_none : (v : ℕ) (ps : List Program) (u : ℕ) (s : Vat Name) → slice_get (world.fresh_from script v ps) u ≡ Some s → s.activations ≡ zero
  unfolding world.fresh_from world.fresh
  fresh_none v [] u s e = cc
  fresh_none v (p ∷ ps) zero s e = let same : world.fresh script v p ≡ s = cc in ap (λ (r : Vat Name). r.activations) (sym same)
  fresh_none v (p ∷ ps) (suc u) s e = fresh_none (suc v) ps u s e

  begins_unopened : Unopened zero (begins script)
  unfolding begins
  begins_unopened u s l e = fresh_none zero script.vats u s e

  unopened_on : (v : ℕ) (p : Program) (w x : World) → world.open_vat script v p w ≡ Goes x → Unopened v w → Unopened (suc v) x
  unopened_on v p w x e h u s l f = h u s (omega arith) (opening_keeps script w v p x e u s (λ q. below q) f)
    where
      below : u ≡ v → ⊥
      below q = omega arith

  -- after the opening turns so far come these
  opens_came : (ps front rest : List Program) (v : ℕ) (w : World) → v ≡ length front → script.vats ≡ front ++ (ps ++ rest) → world.open_from script zero front (begins script) ≡ Goes w → Came w → Unopened v w
      → (f : World → Run) → ((x : World) → world.open_from script zero (front ++ ps) (begins script) ≡ Goes x → Came x → Reached Ended (f x)) → Reached Ended (world.then_goes (world.open_from script v ps w) f)
  unfolding world.open_from world.then_goes
  opens_came [] front rest v w m vats at a new f g = g w (subst (λ qs. world.open_from script zero qs (begins script) ≡ Goes w) (sym (append-nil front)) at) a
  opens_came (p ∷ ps) front rest v w m vats at a new f g = on (world.open_vat script v p w) refl (opening_comes script w v p there (λ s q. new v s (omega arith) q)) (λ x e c. opens_came ps (front ++ p ∷ []) rest (suc v) x count parts (next x e) (along x e c) (unopened_on v p w x e new) f (λ y q b. g y (subst (λ qs. world.open_from script zero qs (begins script) ≡ Goes y) (append_assoc front (p ∷ []) ps) q) b))
    where
      there : slice_get script.vats v ≡ Some p
      there = subst (λ n. slice_get script.vats n ≡ Some p) (sym m) (subst (λ qs. slice_get qs (length front) ≡ Some p) (sym vats) (get_mid front p (ps ++ rest)))

      next : (x : World) → world.open_vat script v p w ≡ Goes x → world.open_from script zero (front ++ p ∷ []) (begins script) ≡ Goes x
      next x e = let n : v ≡ zero + length front = omega arith in opens_end front p zero (begins script) w x at (subst (λ z. world.open_vat script z p w ≡ Goes x) n e)

      parts : script.vats ≡ (front ++ p ∷ []) ++ (ps ++ rest)
      parts = vats ∙ sym (append_assoc front (p ∷ []) (ps ++ rest))

      along : (x : World) → world.open_vat script v p w ≡ Goes x → Leads script w x → Came x
      along x e l = onward a (inl (front ++ p ∷ [], ps ++ rest, parts, next x e)) (opened v p there (is_real w a) e) l

      count : suc v ≡ length (front ++ p ∷ [])
      count = ap suc m ∙ sym (length_end front p)

      on : (r : Run) → world.open_vat script v p w ≡ r → Comes script w r → ((x : World) → world.open_vat script v p w ≡ Goes x → Leads script w x → Reached Ended (world.then_goes (world.open_from script (suc v) ps x) f))
          → Reached Ended (world.then_goes (world.then_goes r (world.open_from script (suc v) ps)) f)
      on (Goes x) e c h = h x e c
      on (Stopped i j x) e c h = stopped_at w x a c

  -- the closing list
  close_carries : (w : World) → total is_carry (world.left_vats script w.vats ++ (world.left_links script w.links ++ IsEnd ∷ [])) ≡ 0
  unfolding total is_carry
  close_carries w =
      let a = none_vats (Root 0) script is_carry (λ v m. refl) (λ v n m. refl) (λ v n m. refl) (λ v u n. refl) w.vats in
      let b = none_links (Root 0) script is_carry (λ v m. refl) (λ v n m. refl) (λ v n m. refl) (λ v u n. refl) w.links in
      let c = total_append is_carry (world.left_vats script w.vats) (world.left_links script w.links ++ IsEnd ∷ []) in
      let d = total_append is_carry (world.left_links script w.links) (IsEnd ∷ []) in
      omega arith

  close_came : (w : World) → Came w → Reached Ended (world.close script w)
  unfolding world.close
  close_came w a = let vats : List Event = world.left_vats script w.vats in let links : List Event = world.left_links script w.links in
      let none : IsNobodys (vats ++ (links ++ IsEnd ∷ [])) = nobodys_join vats (links ++ IsEnd ∷ []) (vats_nobodys script w.vats) (nobodys_join links (IsEnd ∷ []) (links_nobodys script w.links) (one_line IsEnd (λ u e i. cc))) in
      let more : ((w.history ++ vats) ++ links) ++ IsEnd ∷ [] ≡ w.history ++ (vats ++ (links ++ IsEnd ∷ [])) = append_assoc (w.history ++ vats) links (IsEnd ∷ []) ∙ append_assoc w.history vats (links ++ IsEnd ∷ []) in
      let ended : Ended (record w { history = ((w.history ++ vats) ++ links) ++ IsEnd ∷ [] }) = (w, vats ++ (links ++ IsEnd ∷ []), a, none, more, close_carries w, refl) in ended

  -- in a whole run, also in one that stopped
  pub run_ended : Reached Ended (world.run script)
  unfolding world.run world.open_from world.steps_from
  run_ended = opens_came script.vats [] [] zero (begins script) refl (sym (append-nil script.vats)) opens_none first begins_unopened _
      (λ w e a. steps_came script.schedule [] 1 1 w w one refl e (steps_none w) a (world.close script) close_came)
    where
      opens_none : world.open_from script zero [] (begins script) ≡ Goes (begins script)
      opens_none = refl

      steps_none : (w : World) → world.steps_from script [] 1 w ≡ Goes w
      steps_none w = refl

      one : 1 ≡ 1 + length {A = Entry} []
      one = omega arith

  ended_lined : (r : Run) → Reached Ended r → Reached Lined r
  ended_lined (Goes x) e = quiet_lined e.0 x e.1 (came_lined e.0 e.2) e.3 e.4
  ended_lined (Stopped i j x) e = quiet_lined e.0 x e.1 (came_lined e.0 e.2) e.3 e.4

  -- the last of the worlds that the run comes to, whose history has each line of the run
  pub last_world : (w : World) × IsPassed script w × HasEachLine script w
  unfolding history_of
  last_world = by (world.run script) run_ended
    where
      has : (x : World) → Ended x → (w : World) × IsPassed script w × ((v : ℕ) (e : Happened Name) → IsAmong (Here v e) x.history → IsAmong (Here v e) w.history)
      has x (w, es, c, none, q, few, vats) = (w, is_run w c, λ v e i. own v e (among_either (Here v e) w.history es (subst (λ zs. IsAmong (Here v e) zs) q i)))
        where
          own : (v : ℕ) (e : Happened Name) → IsAmong (Here v e) w.history ⊎ IsAmong (Here v e) es → IsAmong (Here v e) w.history
          own v e (inl i) = i
          own v e (inr i) = absurd (none v e i)

      by : (r : Run) → Reached Ended r → (w : World) × IsPassed script w × ((v : ℕ) (e : Happened Name) → IsAmong (Here v e) (history_of r) → IsAmong (Here v e) w.history)
      by (Goes x) e = has x e
      by (Stopped i j x) e = has x e

  pub run_lined : Reached Lined (world.run script)
  run_lined = ended_lined (world.run script) run_ended

  stood_in : (r : Run) → Reached Lined r → (h k : List Event) (v : ℕ) (e : Happened Name) → history_of r ≡ h ++ Here v e ∷ k → Stood v e h
  unfolding history_of
  stood_in (Goes w) l h k v e q = l h k v e q
  stood_in (Stopped c n w) l h k v e q = l h k v e q

  -- where a line of a run stands
  pub stood_at : (h k : List Event) (v : ℕ) (e : Happened Name) → history_of (world.run script) ≡ h ++ Here v e ∷ k → Stood v e h
  stood_at h k v e q = stood_in (world.run script) run_lined h k v e q
