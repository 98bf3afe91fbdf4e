-- What the openings and the entries of a run come to one after the other, the run comes to.
use Rattle.std.proofs.Common.{◌≡◌, ℕ, zero, suc, ◌+◌, ◌<◌, ◌≤◌, Bool, List, [], ◌∷◌, ◌++◌, Some, length, map, refl, sym, ap, subst, ◌∙◌, append_assoc, append-nil, arith}
use Rattle.std.specs.Prelude.{get_or, pred, slice_get}
use Rattle.std.proofs.lemmas.List.{length-append, length-map}
use Rattle.std.proofs.lemmas.Option.{slice_get_read}
use Rattle.ev_step_text.specs.declared.account.Account.{Account}
use Rattle.def_run.specs.Numbers.{Course, Runs, Halts, Vats, begins, open_from, open_member, step, step_number, steps_from, then_runs}
use Rattle.def_run.specs.World.{Entry, Program, Script}
use Rattle.ev_script.specs.declared.script.Entry.{Entry as TheirEntry}
use Rattle.ev_resident.specs.declared.VatStop.{VatStop}
use Rattle.ev_resident.specs.declared.VatStop.TheVariants.{Fuel, Deep, WordRepeated, Astray, Memory}
use Rattle.ev_world.specs.Standing.{Comes, HaltsAs}
use Rattle.ev_world.specs.Steadily.{OpensSteadily, StepsSteadily}
use Rattle.def_run.specs.Steady.{RunsSteadily}
use Rattle.law_schedule.specs.Scripts.{machine_entry}

-- ---- courses

then_end : (c : Course) (f : Vats → Course) → ((w : Vats) → f w ≡ Runs w) → then_runs c f ≡ c
unfolding then_runs
then_end (Runs w) f e = e w
then_end (Halts c k w) f e = refl

then_over : (c : Course) (f g h : Vats → Course) → ((w : Vats) → f w ≡ then_runs (g w) h) → then_runs c f ≡ then_runs (then_runs c g) h
unfolding then_runs
then_over (Runs w) f g h e = e w
then_over (Halts c k w) f g h e = refl

-- what halts halts whatever would come behind it
pub halts_on : (e : VatStop) (k : ℕ) (wire : Bool) (c : Course) (f : Vats → Course) (told : Account) → HaltsAs e k wire c told → HaltsAs e k wire (then_runs c f) told
unfolding then_runs
halts_on Fuel k wire c f told h = (h.0, (ap (λ (d : Course). then_runs d f) h.1.0, h.1.1))
halts_on Deep k wire c f told h = (h.0, (ap (λ (d : Course). then_runs d f) h.1.0, h.1.1))
halts_on (WordRepeated i j) k wire c f told h = (h.0, (ap (λ (d : Course). then_runs d f) h.1.0, h.1.1))
halts_on Astray k wire c f told h = (h.0, (ap (λ (d : Course). then_runs d f) h.1.0, h.1.1))
halts_on Memory k wire c f told h = tt

-- behind what came to a state
pub runs_on : (c : Course) (f : Vats → Course) (w : Vats) → c ≡ Runs w → then_runs c f ≡ f w
unfolding then_runs
runs_on c f w e = rw e refl

-- ---- places in lists

stands_at : {A : Type 0} (xs ys : List A) (x : A) → slice_get (xs ++ x ∷ ys) (length xs) ≡ Some x
stands_at [] ys x = refl
stands_at (z ∷ xs) ys x = stands_at xs ys x

one_longer : {A : Type 0} (xs : List A) (x : A) → length (xs ++ x ∷ []) ≡ suc (length xs)
one_longer [] x = refl
one_longer (z ∷ xs) x = ap suc (one_longer xs x)

none_left : {A : Type 0} (all before left : List A) (k : ℕ) → all ≡ before ++ left → length before ≡ k → length all ≤ k → before ≡ all
none_left all before [] k e many most = sym (e ∙ append-nil before)
none_left all before (x ∷ left) k e many most =
    let long : length all ≡ length before + suc (length left) = ap length e ∙ length-append before (x ∷ left) in
    absurd (omega arith)

none_past : {A : Type 0} (all before : List A) (k : ℕ) → all ≡ before ++ [] → length before ≡ k → k < length all → ⊥
none_past all before k e many less =
    let long : length all ≡ length before + zero = ap length e ∙ length-append before [] in
    omega arith

-- ---- openings

module _ (S : Script) where
  pub openings_joined : (u : ℕ) (ps qs : List Program) (w : Vats) → open_from S u (ps ++ qs) w ≡ then_runs (open_from S u ps w) (open_from S (u + length ps) qs)
  unfolding then_runs open_from
  openings_joined u [] qs w = let i : u ≡ u + zero = omega arith in ap (λ (v : ℕ). open_from S v qs w) i
  openings_joined u (p ∷ ps) qs w =
      let i : suc u + length ps ≡ u + suc (length ps) = omega arith in
      then_over (open_member S u p w (slice_get w.members u)) (open_from S (suc u) (ps ++ qs)) (open_from S (suc u) ps) (open_from S (u + suc (length ps)) qs)
      (λ y. openings_joined (suc u) ps qs y ∙ ap (λ (v : ℕ). then_runs (open_from S (suc u) ps y) (open_from S v qs)) i)

  one_opened : (u : ℕ) (p : Program) (w : Vats) → open_from S u (p ∷ []) w ≡ open_member S u p w (slice_get w.members u)
  unfolding open_from
  one_opened u p w = then_end (open_member S u p w (slice_get w.members u)) (open_from S (suc u) []) (λ y. refl)

  pub opened_last : (ps : List Program) (p : Program) (v w : Vats) → open_from S zero ps v ≡ Runs w → open_from S zero (ps ++ p ∷ []) v ≡ open_member S (length ps) p w (slice_get w.members (length ps))
  opened_last ps p v w e =
      let i : 0 + length ps ≡ length ps = omega arith in
      openings_joined zero ps (p ∷ []) v ∙ ap (λ (k : ℕ). then_runs (open_from S zero ps v) (open_from S k (p ∷ []))) i ∙ runs_on (open_from S zero ps v) (open_from S (length ps) (p ∷ [])) w e ∙ one_opened (length ps) p w

-- So many opening turns, one after the other, are a course of which that holds.
pub record OpenedBy (S : Script) (P : Course → Type 0) (k : ℕ) : Type 0 where
  pub before : List Program
  pub left : List Program
  pub all : S.vats ≡ before ++ left
  pub many : length before ≡ k
  pub course : P (open_from S zero before (begins S))

-- That holds of the opening turn of vat k, from each state of which this holds.
abbrev pub OpensTo : Script → (Vats → Type 0) → (Course → Type 0) → ℕ → Type 0
OpensTo S At P k = (w : Vats) (p : Program) → slice_get S.vats k ≡ Some p → At w → OpensSteadily S k p w → P (open_member S k p w (slice_get w.members k))

pub none_opened : (S : Script) (At : Vats → Type 0) → At (begins S) → OpenedBy S (Comes At) zero
unfolding open_from
none_opened S At a = record { before = []; left = S.vats; all = refl; many = refl; course = (begins S, (refl, a)) }

opens_steadily : (S : Script) → RunsSteadily S → (ps rest : List Program) (p : Program) (w : Vats) → S.vats ≡ ps ++ p ∷ rest → open_from S zero ps (begins S) ≡ Runs w → OpensSteadily S (length ps) p w
opens_steadily S steady ps rest p w all runs = record { steady = steady.openings ps rest p w all runs; shown = λ y e. steady.shown_opening ps rest p w y all runs e }

opened_on : (S : Script) (At : Vats → Type 0) (P : Course → Type 0) (k : ℕ) → RunsSteadily S → k < length S.vats → OpensTo S At P k → (ps left : List Program) → S.vats ≡ ps ++ left → length ps ≡ k
    → Comes At (open_from S zero ps (begins S)) → OpenedBy S P (k + 1)
opened_on S At P k steady less opens ps [] all many came = absurd (none_past S.vats ps k all many less)
opened_on S At P k steady less opens ps (p ∷ rest) all many came =
    let there : slice_get S.vats (length ps) ≡ Some p = ap (λ (qs : List Program). slice_get qs (length ps)) all ∙ stands_at ps rest p in
    let next : OpensTo S At P (length ps) = subst (λ (j : ℕ). OpensTo S At P j) (sym many) opens in
    let last : length (ps ++ p ∷ []) ≡ suc (length ps) = one_longer ps p in
    let grown : length (ps ++ p ∷ []) ≡ k + 1 = omega arith in
    record {
      before = ps ++ p ∷ [];
      left = rest;
      all = all ∙ sym (append_assoc ps (p ∷ []) rest);
      many = grown;
      course = subst P (sym (opened_last S ps p (begins S) came.0 came.1.0)) (next came.0 p there came.1.1 (opens_steadily S steady ps rest p came.0 all came.1.0));
    }

pub opened_next : (S : Script) (At : Vats → Type 0) (P : Course → Type 0) (k : ℕ) → RunsSteadily S → k < length S.vats → OpensTo S At P k → OpenedBy S (Comes At) k → OpenedBy S P (k + 1)
opened_next S At P k steady less opens o = opened_on S At P k steady less opens o.before o.left o.all o.many o.course

pub all_opened : (S : Script) (P : Course → Type 0) (k : ℕ) → length S.vats ≤ k → OpenedBy S P k → P (open_from S zero S.vats (begins S))
all_opened S P k most o = subst (λ (ps : List Program). P (open_from S zero ps (begins S))) (none_left S.vats o.before o.left k o.all o.many most) o.course

pub opened_halts : (S : Script) (e : VatStop) (j k : ℕ) (wire : Bool) (told : Account) → OpenedBy S (λ c. HaltsAs e j wire c told) k → HaltsAs e j wire (open_from S zero S.vats (begins S)) told
opened_halts S e j k wire told o =
    subst (λ (c : Course). HaltsAs e j wire c told) (sym (ap (λ (ps : List Program). open_from S zero ps (begins S)) o.all ∙ openings_joined S zero o.before o.left (begins S)))
    (halts_on e j wire (open_from S zero o.before (begins S)) (open_from S (0 + length o.before) o.left) told o.course)

-- ---- entries

module _ (S : Script) where
  pub steps_joined : (k : ℕ) (es fs : List Entry) (w : Vats) → steps_from S (es ++ fs) k w ≡ then_runs (steps_from S es k w) (steps_from S fs (k + length es))
  unfolding then_runs steps_from
  steps_joined k [] fs w = let i : k ≡ k + zero = omega arith in ap (λ (j : ℕ). steps_from S fs j w) i
  steps_joined k (e ∷ es) fs w =
      let i : suc k + length es ≡ k + suc (length es) = omega arith in
      then_over (step S e k w) (steps_from S (es ++ fs) (suc k)) (steps_from S es (suc k)) (steps_from S fs (k + suc (length es)))
      (λ y. steps_joined (suc k) es fs y ∙ ap (λ (j : ℕ). then_runs (steps_from S es (suc k) y) (steps_from S fs j)) i)

  one_stepped : (k : ℕ) (e : Entry) (w : Vats) → steps_from S (e ∷ []) k w ≡ step S e k w
  unfolding steps_from
  one_stepped k e w = then_end (step S e k w) (steps_from S [] (suc k)) (λ y. refl)

  pub stepped_last : (es : List Entry) (e : Entry) (v w : Vats) → steps_from S es 1 v ≡ Runs w → steps_from S (es ++ e ∷ []) 1 v ≡ step S e (suc (length es)) w
  stepped_last es e v w runs =
      let i : 1 + length es ≡ suc (length es) = omega arith in
      steps_joined 1 es (e ∷ []) v ∙ ap (λ (k : ℕ). then_runs (steps_from S es 1 v) (steps_from S (e ∷ []) k)) i ∙ runs_on (steps_from S es 1 v) (steps_from S (e ∷ []) (suc (length es))) w runs ∙ one_stepped (suc (length es)) e w

-- So many entries, one after the other from that state, are a course of which that holds.
pub record SteppedBy (S : Script) (from : Vats) (P : Course → Type 0) (k : ℕ) : Type 0 where
  pub before : List Entry
  pub left : List Entry
  pub all : S.schedule ≡ before ++ left
  pub many : length before ≡ k
  pub course : P (steps_from S before 1 from)

-- That holds of the step of the entry at place k, from each state of which this holds.
abbrev pub StepsTo : Script → (Vats → Type 0) → (Course → Type 0) → ℕ → Type 0
StepsTo S At P k = (w : Vats) (e : Entry) → slice_get S.schedule k ≡ Some e → At w → StepsSteadily S e (suc k) w → P (step S e (suc k) w)

pub none_stepped : (S : Script) (from : Vats) (At : Vats → Type 0) → At from → SteppedBy S from (Comes At) zero
unfolding steps_from
none_stepped S from At a = record { before = []; left = S.schedule; all = refl; many = refl; course = (from, (refl, a)) }

steps_steadily : (S : Script) → RunsSteadily S → (from : Vats) → open_from S zero S.vats (begins S) ≡ Runs from
    → (es rest : List Entry) (e : Entry) (w : Vats) → S.schedule ≡ es ++ e ∷ rest → steps_from S es 1 from ≡ Runs w → (k : ℕ) → StepsSteadily S e k w
steps_steadily S steady from opened es rest e w all runs k = record { steady = steady.entries es rest e from w all opened runs; shown = λ y s. steady.shown es rest e k from w y all opened runs s }

stepped_on : (S : Script) (from : Vats) (At : Vats → Type 0) (P : Course → Type 0) (k : ℕ) → RunsSteadily S → open_from S zero S.vats (begins S) ≡ Runs from → k < length S.schedule → StepsTo S At P k
    → (es left : List Entry) → S.schedule ≡ es ++ left → length es ≡ k → Comes At (steps_from S es 1 from) → SteppedBy S from P (k + 1)
stepped_on S from At P k steady opened less steps es [] all many came = absurd (none_past S.schedule es k all many less)
stepped_on S from At P k steady opened less steps es (e ∷ rest) all many came =
    let there : slice_get S.schedule (length es) ≡ Some e = ap (λ (fs : List Entry). slice_get fs (length es)) all ∙ stands_at es rest e in
    let next : StepsTo S At P (length es) = subst (λ (j : ℕ). StepsTo S At P j) (sym many) steps in
    let last : length (es ++ e ∷ []) ≡ suc (length es) = one_longer es e in
    let grown : length (es ++ e ∷ []) ≡ k + 1 = omega arith in
    record {
      before = es ++ e ∷ [];
      left = rest;
      all = all ∙ sym (append_assoc es (e ∷ []) rest);
      many = grown;
      course = subst P (sym (stepped_last S es e from came.0 came.1.0)) (next came.0 e there came.1.1 (steps_steadily S steady from opened es rest e came.0 all came.1.0 (suc (length es))));
    }

pub stepped_next : (S : Script) (from : Vats) (At : Vats → Type 0) (P : Course → Type 0) (k : ℕ) → RunsSteadily S → open_from S zero S.vats (begins S) ≡ Runs from → k < length S.schedule → StepsTo S At P k
    → SteppedBy S from (Comes At) k → SteppedBy S from P (k + 1)
stepped_next S from At P k steady opened less steps o = stepped_on S from At P k steady opened less steps o.before o.left o.all o.many o.course

pub all_stepped : (S : Script) (from : Vats) (P : Course → Type 0) (k : ℕ) → length S.schedule ≤ k → SteppedBy S from P k → P (steps_from S S.schedule 1 from)
all_stepped S from P k most o = subst (λ (es : List Entry). P (steps_from S es 1 from)) (none_left S.schedule o.before o.left k o.all o.many most) o.course

pub stepped_halts : (S : Script) (from : Vats) (e : VatStop) (j k : ℕ) (wire : Bool) (told : Account) → SteppedBy S from (λ c. HaltsAs e j wire c told) k → HaltsAs e j wire (steps_from S S.schedule 1 from) told
stepped_halts S from e j k wire told o =
    subst (λ (c : Course). HaltsAs e j wire c told) (sym (ap (λ (es : List Entry). steps_from S es 1 from) o.all ∙ steps_joined S 1 o.before o.left from))
    (halts_on e j wire (steps_from S o.before 1 from) (steps_from S o.left (1 + length o.before)) told o.course)

-- ---- the number of an entry

pub number_of : (S : Script) (n k : ℕ) → length S.vats ≡ n → step_number S (k + 1) ≡ n + k
unfolding step_number
number_of S n k e = let next : k + 1 ≡ suc k = omega arith in ap (λ (j : ℕ). length S.vats + pred j) next ∙ ap (λ (m : ℕ). m + k) e

entry_is : {A B : Type 0} (f : A → B) (xs : List A) (k : ℕ) (x : A) (y : B) → slice_get xs k ≡ Some x → slice_get (map f xs) k ≡ Some y → y ≡ f x
entry_is f [] zero x y e g = cc
entry_is f [] (suc k) x y e g = cc
entry_is f (z ∷ xs) zero x y e g = cc
entry_is f (z ∷ xs) (suc k) x y e g = entry_is f xs k x y e g

-- the step of an entry of the schedule as it was read
pub steps_by : (S : Script) (At : Vats → Type 0) (P : Course → Type 0) (k : ℕ) (x : TheirEntry) (xs : List TheirEntry) → S.schedule ≡ map machine_entry xs → slice_get xs k ≡ Some x
    → ((w : Vats) → At w → StepsSteadily S (machine_entry x) (k + 1) w → P (step S (machine_entry x) (k + 1) w)) → StepsTo S At P k
steps_by S At P k x xs e there each w y found at_w steady =
    let next : k + 1 ≡ suc k = omega arith in
    let same : y ≡ machine_entry x = entry_is machine_entry xs k x y there (ap (λ (es : List Entry). slice_get es k) (sym e) ∙ found) in
    subst (λ (j : ℕ). P (step S y j w)) next (subst (λ (z : Entry). P (step S z (k + 1) w)) (sym same)
    (each w at_w (subst (λ (z : Entry). StepsSteadily S z (k + 1) w) same (subst (λ (j : ℕ). StepsSteadily S y j w) (sym next) steady))))

-- what was read of the entry at that place
pub entry_read : (xs : List TheirEntry) (k : ℕ) (x : TheirEntry) → k < length xs → x ≡ get_or xs k x → slice_get xs k ≡ Some x
entry_read xs k x less e = slice_get_read xs (length xs) k x refl less e

pub many_read : (S : Script) (xs : List TheirEntry) → S.schedule ≡ map machine_entry xs → length S.schedule ≡ length xs
many_read S xs e = ap length e ∙ length-map xs machine_entry
