-- What is known of a line's step in a run: what takes a message is an object, and what settled before was told.
use Rattle.std.proofs.Common.{◌≡◌, ℕ, suc, Bool, true, false, List, [], ◌∷◌, ◌++◌, Option, Some, None, refl, sym, ap, ◌∙◌, subst, inl, inr}
use Rattle.def_kernel.specs.declared.node.Node.{Node}
use Rattle.def_machine.specs.Values.{Words, Value, Ref, Name, Spot, Own, Naming, naming}
use Rattle.def_machine.specs.State.{Message, Standing, Unsettled, Settled, Known, Happened, Took, Called, Settles, Astray, Vat, Done, Gives, Stops, Act, ◌>>=◌, ◌>>◌, and_then, end_by, ending, tell, stop, new_activation}
use Rattle.def_machine.specs.Refs.{standing_in, entry_of, standing_of}
use Rattle.def_machine.specs.Scopes.{Evaluator}
use Rattle.def_machine.specs.Calls as calls
use Rattle.def_machine.specs.Eval as eval
use Rattle.law_machine.specs.Machine.Steps.{Step, Takes, Receives, Notices, does}
use Rattle.def_run.specs.World as world
use Rattle.def_run.specs.World.{Script, World, names}
use Rattle.law_fate.proofs.Name.SameNames.{reference_is}
use Rattle.law_uses.specs.Connectivity.Known.{IsAmong}
use Rattle.law_uses.specs.Connectivity.Begotten.{LineOf}
use Rattle.law_uses.specs.Connectivity.Stems.{HasLine}
use Rattle.law_uses.specs.Connectivity.MessageLaws.{IsToldStanding, AllStem}
use Rattle.law_uses.proofs.Connectivity.Events.{all_at}
use Rattle.law_uses.specs.Running.Running.{TakesAreOnObjects, StandingsAreTold}
use Rattle.law_uses.specs.Running.Resting.{IsTurn}
use Rattle.law_uses.proofs.Running.Standing.{Tells, MayTake, steps_tell}
use Rattle.law_uses.proofs.Running.Stood.{tells_after}

-- ---- a turn that gives takes its message on an object, where it takes it on a name

module _ (K : Naming Name Name) (tree : List Node) (rec : Evaluator Name) where
  -- what a turn does once its message is told to be taken
  abbrev Runs : ℕ → Option Name → Value Name → Words → List (Value Name) → Act Name (Unit {0})
  Runs a o x verb args = eval.closes K tree a o (calls.turn_value K tree rec a x verb args)

  stops_not : (s t : Vat Name) → ◌≡◌ {A = Done Name (Unit {0})} (Stops Astray s) (Gives tt t) → ⊥
  stops_not s t q = cc

  spot_own : (a : ℕ) (o : Option Name) (verb : Words) (args : List (Value Name)) (s t : Vat Name) (p : Spot) → eval.closes K tree a o (calls.turn_spot K tree rec a p verb args) s ≡ Gives tt t → (i : ℕ) × (p ≡ Own i)
  unfolding eval.closes calls.turn_spot ending end_by stop
  spot_own a o verb args s t (Own i) q = (i, refl)
  spot_own a o verb args s t other q = absurd (stops_not s t q)

  value_own : (a : ℕ) (o : Option Name) (verb : Words) (args : List (Value Name)) (s t : Vat Name) (n : Name) → Runs a o (Ref n) verb args s ≡ Gives tt t → (i : ℕ) × (K.spot n ≡ Own i)
  unfolding calls.turn_value
  value_own a o verb args s t n q = spot_own a o verb args s t (K.spot n) q

taking_own : (K : Naming Name Name) (tree : List Node) (depth : ℕ) (m : Message Name) (s t : Vat Name) (n : Name) → m.target ≡ Ref n → eval.taking K tree depth m s ≡ Gives tt t → (i : ℕ) × (K.spot n ≡ Own i)
unfolding eval.taking new_activation tell ◌>>=◌ ◌>>◌ and_then
taking_own K tree depth m s t n e q = value_own K tree (eval.evaluator K tree depth) s.activations m.answer m.verb m.args _ t n
    (subst (λ x. Runs K tree (eval.evaluator K tree depth) s.activations m.answer x m.verb m.args (record s { activations = suc s.activations; happened = s.happened ++ Took s.activations m ∷ [] }) ≡ Gives tt t) e q)

-- the message of a step
abbrev pub IsStepOf : Step Name Name → Message Name → Type 0
IsStepOf (Takes tree depth x) m = x ≡ m
IsStepOf other m = ⊥

own_may : (K : Naming Name Name) (step : Step Name Name) → MayTake K (IsStepOf step) (IsTurn step) step
own_may K (Takes tree depth m) = (refl, tt)
own_may K other = tt

step_own : (K : Naming Name Name) (step : Step Name Name) (s t : Vat Name) → does K step s ≡ Gives tt t → (m : Message Name) → IsStepOf step m → (n : Name) → m.target ≡ Ref n → (i : ℕ) × (K.spot n ≡ Own i)
unfolding does
step_own K (Takes tree depth x) s t q m h n e = taking_own K tree depth x s t n (ap (λ (y : Message Name). y.target) h ∙ e) q
step_own K other s t q m h n e = absurd h

module _ (script : Script) (v : ℕ) where
  -- what is known of a name is among what is known
  entry_either : (n : Name) (j k : Known Name) (ks : List (Known Name)) (b : Bool) → (names script v).same j.name n ≡ b → elim b [ true ↦ Some j | false ↦ entry_of (names script v) ks n ] ≡ Some k
      → (entry_of (names script v) ks n ≡ Some k → IsAmong k ks × ((names script v).same k.name n ≡ true)) → IsAmong k (j ∷ ks) × ((names script v).same k.name n ≡ true)
  entry_either n j k ks true s q f = let same : j ≡ k = cc in (inl (sym same), subst (λ (x : Known Name). (names script v).same x.name n ≡ true) same s)
  entry_either n j k ks false s q f = let r = f q in (inr r.0, r.1)

  pub entry_in : (n : Name) (k : Known Name) (ks : List (Known Name)) → entry_of (names script v) ks n ≡ Some k → IsAmong k ks × ((names script v).same k.name n ≡ true)
  unfolding entry_of
  entry_in n k [] q = cc
  entry_in n k (j ∷ ks) q = entry_either n j k ks ((names script v).same j.name n) refl q (entry_in n k ks)

  in_entry : (y : Value Name) (o : Option (Known Name)) → standing_in o ≡ Settled y → (k : Known Name) × (o ≡ Some k) × (k.standing ≡ Settled y)
  unfolding standing_in
  in_entry y None q = absurd (no q)
    where
      no : ◌≡◌ {A = Standing Name} Unsettled (Settled y) → ⊥
      no q = cc
  in_entry y (Some k) q = (k, refl, q)

  -- a name that is settled is known so
  pub settled_known : (n : Name) (y : Value Name) (ks : List (Known Name)) → standing_of (names script v) ks n ≡ Settled y → (k : Known Name) × IsAmong k ks × (k.name ≡ n) × (k.standing ≡ Settled y)
  unfolding standing_of names naming
  settled_known n y ks q = by (in_entry y (entry_of (names script v) ks n) q)
    where
      by : (k : Known Name) × (entry_of (names script v) ks n ≡ Some k) × (k.standing ≡ Settled y) → (k : Known Name) × IsAmong k ks × (k.name ≡ n) × (k.standing ≡ Settled y)
      by (k, f, s) = let i = entry_in n k ks f in (k, i.0, reference_is k.name n i.1, s)

module _ {script : Script} {w : World} {v : ℕ} {e : Happened Name} (l : LineOf script w v e) where
  -- what the lines of the step tell
  pub line_tells : Tells (names script v) (IsStepOf l.step) (IsTurn l.step) l.before l.after
  line_tells = tells_after (names script v) (IsStepOf l.step) (IsTurn l.step) l.before l.after (does (names script v) l.step l.before) ((steps_tell (names script v) (IsStepOf l.step) (IsTurn l.step) l.step (own_may (names script v) l.step)).after l.before) l.stepped

  pub none_before : l.before.happened ≡ []
  unfolding world.readied
  none_before = ap (λ (s : Vat Name). s.happened) l.ready

  known_before : l.before.known ≡ l.vat.known
  unfolding world.readied
  known_before = ap (λ (s : Vat Name). s.known) l.ready

  left_among : (x : Happened Name) (xs ys : List (Happened Name)) → IsAmong x xs → IsAmong x (xs ++ ys)
  left_among x [] ys i = absurd i
  left_among x (y ∷ xs) ys (inl q) = inl q
  left_among x (y ∷ xs) ys (inr i) = inr (left_among x xs ys i)

  -- a line so far is one that the step tells
  pub line_more : (x : Happened Name) → IsAmong x l.so → IsAmong x line_tells.more
  line_more x i = subst (λ es. IsAmong x es) (by line_tells.lines) (subst (λ es. IsAmong x es) (sym l.told) (left_among x l.so (e ∷ l.rest) i))
    where
      by : l.after.happened ≡ l.before.happened ++ line_tells.more → l.after.happened ≡ line_tells.more
      by q = subst (λ es. l.after.happened ≡ es ++ line_tells.more) none_before q

  pub takes_on_objects : TakesAreOnObjects l
  unfolding names naming
  takes_on_objects a m n i q = step_own (names script v) l.step l.before l.after l.stepped m (line_tells.took a m (line_more (Took a m) i)) n q

  -- a step that takes a message, or tells of a call, is a turn
  turn_of : (step : Step Name Name) (m : Message Name) → IsStepOf step m → IsTurn step
  turn_of (Receives from n) m h = h
  turn_of (Notices u) m h = h
  turn_of other m h = tt

  pub takes_in_turns : (a : ℕ) (m : Message Name) → IsAmong (Took a m) l.so → IsTurn l.step
  takes_in_turns a m i = turn_of l.step m (line_tells.took a m (line_more (Took a m) i))

  pub calls_in_turns : (a : ℕ) (x : Value Name) (verb : Words) (args : List (Value Name)) (b : Option ℕ) → IsAmong (Called a x verb args b) l.so → IsTurn l.step
  calls_in_turns a x verb args b i = line_tells.called a x verb args b (line_more (Called a x verb args b) i)

  -- where the world before tells of each standing
  pub standings_told : AllStem l.from → StandingsAreTold l
  standings_told stem n y q = let k = settled_known script v n y l.vat.known (subst (λ ks. standing_of (names script v) ks n ≡ Settled y) known_before q) in
      subst (λ m. HasLine l.from v (Settles m y)) k.2 (subst (λ x. IsToldStanding (HasLine l.from v) k.0.name x) k.3 (all_at (λ (z : Known Name). IsToldStanding (HasLine l.from v) z.name z.standing) l.vat.known k.0 (stem.standings v l.vat l.here) k.1))
