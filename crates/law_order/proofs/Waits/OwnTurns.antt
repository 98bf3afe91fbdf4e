-- A turn keeps where a name waits that is not owed, as a promise of the vat's own is: what a resolver resolves is known by then, and did neither settle nor wait.
use Rattle.std.proofs.Common.{◌≡◌, ℕ, ◌+◌, ◌*◌, ◌≤◌, Bool, true, false, List, [], ◌∷◌, ◌++◌, Option, Some, None, refl, sym, ap, subst, ◌∙◌, ◌⊎◌, inl, inr, arith}
use Rattle.std.specs.Prelude.{slice_get}
use Rattle.def_machine.specs.Values.{Value, Broken, Name, Root, Promise, Naming, naming, same_name}
use Rattle.def_machine.specs.State.{Message, Unsettled, Vat, Done, Stops, Act, new_promise, WhereSome}
use Rattle.def_machine.specs.Refs.{standing_of, settle, resolve, send, send_only, react}
use Rattle.def_machine.specs.Eval.{opening, taking}
use Rattle.law_machine.specs.Machine.Steps.{does}
use Rattle.def_run.specs.Draws.{draw_word}
use Rattle.def_run.specs.World as world
use Rattle.def_run.specs.World.{Script, Program, World, readied}
use Rattle.law_fate.specs.Name.Names.{IsAmong, names_in, IsKnownIn, IsEventual}
use Rattle.law_fate.proofs.Name.Facts.{Holds, Fact, IsName, IsValue, nothing}
use Rattle.law_fate.proofs.Name.Care.{Care, Under, Makes, Sound, Gets, Ends as CareEnds, Fine, got_entry, fine_promise}
use Rattle.law_fate.proofs.Name.CareRefs.{fine_settle, fine_resolve, fine_send, fine_send_only, fine_react}
use Rattle.law_fate.proofs.Name.Serves.{Serves, Closing}
use Rattle.law_fate.proofs.Name.Run.{inside, low_at, Stands}
use Rattle.law_fate.proofs.Name.Tracked.{tracked, tracked_under, tracked_makes}
use Rattle.law_fate.specs.Fates.Fate.{once, one, total}
use Rattle.law_reference.proofs.Reference.CareMore.{Leaves, KeptQuiet, More, lift, joined, without, more_of}
use Rattle.law_reference.proofs.Reference.Following.{standing_found}
use Rattle.law_reference.proofs.Reference.Gentle.{AfterGives}
use Rattle.law_reference.proofs.Reference.LegRuns.{stands_of}
use Rattle.law_reference.proofs.Reference.StepsMore.{turn_keeps, opening_keeps}
use Rattle.law_order.specs.Waits.Answers.{answered_by, answers}
use Rattle.law_order.proofs.Waits.Room.{share, times, times_least}
use Rattle.law_order.proofs.Waits.Room as room
use Rattle.law_order.proofs.Waits.Costs.{Ends, one_or}
use Rattle.law_order.proofs.Waits.Costs as costs
use Rattle.law_order.proofs.Waits.Settling as settling
use Rattle.law_order.proofs.Waits.Sends as sends
use Rattle.law_order.proofs.Waits.Classes.{owed_at, fit_at}
use Rattle.law_order.proofs.Waits.Moving.{Held, TurnsKeep, turns_by, given_at}

total_tail : (f : Message Name → ℕ) (fs ms : List (Message Name)) → total f ms ≤ total f (fs ++ ms)
unfolding total
total_tail f [] ms = omega arith
total_tail f (m ∷ fs) ms = let rest = total_tail f fs ms in omega arith

module _ (script : Script) (v : ℕ) (x : Name) (unowed : owed_at v x ≡ false) (eventual : IsEventual x) where
  abbrev word : ℕ → ℕ
  word = draw_word script.key

  abbrev N : Naming Name Name
  N = naming word v

  abbrev At : ℕ → Vat Name → Type 0
  At c s = costs.At word v x (owed_at v x) c s

  abbrev Costs : {A : Type 0} → ℕ → Act Name A → Type 0
  Costs c m = costs.Costs word v x (owed_at v x) c m

  owes : owed_at v x ≡ true → IsEventual x
  owes e = eventual

  abbrev Keeps : Vat Name → Type 0
  Keeps s = Held script v x s

  keeps_quiet : KeptQuiet Keeps
  keeps_quiet = record {
    fuel = λ s n h. h;
    told = λ s e h. h;
    activations = λ s h. h;
    thing = λ s t h. h;
    killed = λ s n h. h;
    slot = λ s c h. h;
    written = λ s n y h. h;
    list = λ s ys h. h;
  }

  -- what counts only where the name is owed is nothing
  shares_none : (n : ℕ) → share (owed_at v x) n ≡ 0
  unfolding share
  shares_none n = ap (λ (b : Bool). share b n) unowed

  spares_settle : (p : Name) (y : Value Name) → Costs 0 (settle N p y)
  spares_settle p y = let none = shares_none (one p x) in
      costs.costs_more word v x (owed_at v x) (share (owed_at v x) (one p x)) 0 (omega arith) (settling.costs_settle word v x (owed_at v x) owes p y)

  spares_resolve : (p : Name) → one p x ≡ 0 → (y : Value Name) → Costs 0 (resolve N p y)
  spares_resolve p z y = costs.costs_more word v x (owed_at v x) (2 * one p x) 0 (omega arith) (settling.costs_resolve word v x (owed_at v x) owes p y)

  leaves : {A : Type 0} (d : Done Name A) → Ends Keeps d → Leaves Keeps d
  leaves (Stops c t) h = tt
  leaves other h = h

  free : {A : Type 0} (m : Act Name A) → Costs 0 m → (s : Vat Name) → Keeps s → Leaves Keeps (m s)
  free m k s h = leaves (m s) (k.after 0 s (costs.less word v x (owed_at v x) 0 (0 + 0) (omega arith) s h))

  -- a name that is known, and did neither settle nor wait
  known_fits : (p : Name) (s : Vat Name) → IsKnownIn (names_in s.known) p → standing_of N s.known p ≡ Unsettled → costs.Fits word v x (owed_at v x) p s.known
  known_fits p s a u = go (one_or p x)
    where
      go : (one p x ≡ 0) ⊎ (p ≡ x) → costs.Fits word v x (owed_at v x) p s.known
      go (inl z) = inl z
      go (inr same) = let known : IsKnownIn (names_in s.known) x = subst (IsKnownIn (names_in s.known)) same a in let among : IsAmong x (names_in s.known) = room.known_among x eventual (names_in s.known) known in
          let k = room.times_found word v x eventual s.known (times_least x s.known among) in
          inr (same, (k.0, k.1, inl (sym (standing_found N s.known x k.0 k.1) ∙ subst (λ (n : Name). standing_of N s.known n ≡ Unsettled) same u)))

  open_resolves : (p : Name) (y : Value Name) (s : Vat Name) → IsKnownIn (names_in s.known) p → standing_of N s.known p ≡ Unsettled → Keeps s → Leaves Keeps (resolve N p y s)
  open_resolves p y s a u h = let none = shares_none (one p x) in leaves (resolve N p y s)
      (settling.resolves_so word v x (owed_at v x) owes p 0 s (known_fits p s a u) (costs.less word v x (owed_at v x) 0 (2 * share (owed_at v x) (one p x) + 0) (omega arith) s h) y)

  -- ---- a turn of a vat of a run

  module _ (w : World) (s : Vat Name) (there : slice_get w.vats v ≡ Some s) (h : Stands script w) (held : Keeps s) where
    abbrev T : Care Name
    T = tracked true (inside script) w.vats v s there (low_at script w h v s there)

    abbrev V : Care Name
    V = More T Keeps keeps_quiet

    under : Under N T
    under = tracked_under true (inside script) w.vats v s there (low_at script w h v s there) word

    makes : Makes N T
    makes = tracked_makes (inside script) w.vats v s there (low_at script w h v s there) word

    names : {C F : Fact Name} → Gets V C F → Gets T C F
    names g = record { at = λ t c. g.at t c }

    settles : (C : Fact Name) (p : Name) → Gets V C (IsName p) → (y : Value Name) → Gets T C (IsValue y) → Fine V C (settle N p y) nothing
    settles C p g y i = lift T Keeps keeps_quiet (fine_settle N T under p (got_entry T C p (names g)) y i) (free (settle N p y) (spares_settle p y))

    resolves_known : (C : Fact Name) (p : Name) → Gets V C (IsName p) → (y : Value Name) → Gets V C (IsValue y) → (t : Vat Name) → Sound V t → Holds (V.ok t) C → standing_of N t.known p ≡ Unsettled → CareEnds V nothing t (resolve N p y t)
    resolves_known C p g y i t sound c u = joined T Keeps keeps_quiet nothing t (resolve N p y t) ((fine_resolve N T under p (got_entry T C p (names g)) y (names i)).after t (without T Keeps keeps_quiet t sound) c)
        (open_resolves p y t (g.at t c).1 u (more_of T Keeps keeps_quiet t sound))

    serves : Serves N V
    serves = record {
      spots = record { alike = λ a b e. let spots = under.spots in spots.alike a b e; placed = λ t m n i. let spots = under.spots in spots.placed t m.0 n i };
      object = λ t i l. under.object t i l;
      promises = λ C. lift T Keeps keeps_quiet (fine_promise N T under makes) (free (new_promise N) (costs.costs_free word v x (owed_at v x) 0 (costs.spare_promise word v x (owed_at v x))));
      smashes = λ C p g q t sound c r u. (settles C p g (Broken q) (record { at = λ r d. tt })).after t sound c;
      resolves = λ C p g y i t sound c r u. resolves_known C p g y i t sound c u;
      sends = λ C act y g verb args i. lift T Keeps keeps_quiet (fine_send N T under makes act y (names g) verb args (names i)) (free (send N act y verb args) (sends.free_send word v x (owed_at v x) (fit_at v x) act y verb args));
      sends_only = λ C act y g verb args i. lift T Keeps keeps_quiet (fine_send_only N T under makes act y (names g) verb args (names i)) (free (send_only N act y verb args) (sends.free_send_only word v x (owed_at v x) (fit_at v x) act y verb args));
      reacts = λ C act y g o i near j. lift T Keeps keeps_quiet (fine_react N T under makes act y (names g) o (names i) near (names j)) (free (react N act y o near) (sends.free_react word v x (owed_at v x) (fit_at v x) act y o near));
    }

    -- a turn ends with another name
    closes : (p : Name) → one p x ≡ 0 → Closing N V p
    closes p z = record {
      breaks = λ C g t. settles C p g (Broken t) (record { at = λ r c. tt });
      closes = λ C g y i. lift T Keeps keeps_quiet (fine_resolve N T under p (got_entry T C p (names g)) y (names i)) (free (resolve N p y) (spares_resolve p z y));
    }

    closes_answer : (o : Option Name) → answered_by x o ≡ 0 → WhereSome (Closing N V) o
    unfolding answered_by
    closes_answer (Some p) z = closes p z
    closes_answer None z = tt

    starts : (fs ms : List (Message Name)) → s.queue ≡ fs ++ ms → Keeps (readied w (record s { queue = ms }))
    unfolding readied
    starts fs ms e = let fits = held.fits in let split : total (answers x) s.queue ≡ total (answers x) (fs ++ ms) = ap (total (answers x)) e in let tail = total_tail (answers x) fs ms in
        record { number = held.number; fits = omega arith; waiting = held.waiting; gifts = held.gifts }

    -- no message that waits is to give its value
    answers_none : (m : Message Name) (ms : List (Message Name)) → s.queue ≡ m ∷ ms → answers x m ≡ 0
    unfolding total
    answers_none m ms e = let fits = held.fits in let none = shares_none (times x s.known) in let split : total (answers x) s.queue ≡ answers x m + total (answers x) ms = ap (total (answers x)) e in omega arith

    turned : (m : Message Name) (ms : List (Message Name)) → s.queue ≡ m ∷ ms → AfterGives Keeps (taking (world.names script v) (world.tree_at script.vats v) script.depth m (readied w (record s { queue = ms })))
    unfolding answers
    turned m ms e = turn_keeps script w v s there h Keeps keeps_quiet starts serves m ms e (closes_answer m.answer (answers_none m ms e))

    opened : (p : Program) → slice_get script.vats v ≡ Some p → one (Root v) x ≡ 0 → AfterGives Keeps (opening (world.names script v) p.tree script.depth (Root v) (world.given script.vats p.knows) (readied w s))
    opened p e z = opening_keeps script w v s there h Keeps keeps_quiet starts serves p e (closes (Root v) z)

  -- where there is room for the root, it is another name
  root_other : (s : Vat Name) → At (2 * one (Root v) x) s → one (Root v) x ≡ 0
  root_other s h = let fits = h.fits in let none = shares_none (times x s.known) in omega arith

  turns_known : TurnsKeep script v x
  unfolding does
  turns_known = record {
    turn = λ w f s t m ms there e gives held. given_at Keeps (taking (world.names script v) (world.tree_at script.vats v) script.depth m (readied w (record s { queue = ms }))) t (turned w s there (stands_of script w f.before) held m ms e) gives;
    opening = λ w f s t p is there gives held. given_at Keeps (opening (world.names script v) p.tree script.depth (Root v) (world.given script.vats p.knows) (readied w s)) t
        (opened w s there (stands_of script w f.before) (costs.less word v x (owed_at v x) (2 * one (Root v) x) 0 (omega arith) s held) p is (root_other s held)) gives;
  }

-- So it is of each name: a promise is not owed, and another name is no promise of the vat's own.
pub turning : (script : Script) (v : ℕ) (x : Name) → TurnsKeep script v x
unfolding one once same_name owed_at
turning script v (Promise w i) = turns_known script v (Promise w i) refl tt
turning script v other = turns_by script v other (λ i. refl)
