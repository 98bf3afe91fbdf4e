-- A vat goes through the entries of a run in its own numbers.
use Rattle.std.proofs.Common.{◌≡◌, ℕ, zero, suc, ◌+◌, List, [], ◌∷◌, ◌++◌, Option, Some, None, refl, sym, ap, subst, ◌∙◌, ◌⊎◌, inl, inr, length, append_assoc, append-nil, arith}
use Rattle.std.specs.Prelude.{slice_get}
use Rattle.def_machine.specs.Values.{Name, Local}
use Rattle.def_machine.specs.State.{Vat}
use Rattle.law_fate.specs.Name.Runs.{KnowsOnce}
use Rattle.law_fate.proofs.Name.Among.{get_put, length_end}
use Rattle.law_machine.specs.Renamed.Stands.{StandsFor}
use Rattle.def_run.specs.World as world
use Rattle.def_run.specs.World.{Script, Entry, World, Run, Goes as Going, Stopped, put_at, readied}
use Rattle.law_reference.specs.Reference.Cuts.{NoticesFollowCuts}
use Rattle.law_reference.specs.Reference.Tables.{table_of}
use Rattle.law_reference.proofs.Reference.Follow.{eq_dec}
use Rattle.law_reference.proofs.Reference.Moves.{Moved, Still, Severs, Drops, Steps, Arrives, steps_end, going_is}
use Rattle.law_reference.proofs.Reference.AskHolds.{notices_front}
use Rattle.law_frame.proofs.Frame.AlikeArrivals.{some_same}
use Rattle.law_frame.specs.Frame.Steps.{OwnStep, entry_by_numbers}
use Rattle.law_frame.specs.Frame.Chain.{readied_by_numbers, LeavesFor, left_by, where_goes, where_is, run_by_numbers, RunsByNumbersStand, RunsAreTakenInNumbers}
use Rattle.law_frame.specs.Frame.States.{in_numbers}
use Rattle.law_frame.proofs.Frame.Own.{stay_put}
use Rattle.law_frame.proofs.Frame.States.{states_have_numbers}
use Rattle.law_frame.proofs.Frame.Answered.{entry_move}
use Rattle.law_frame.proofs.Frame.Chain.{entries_chain}

-- ---- a vat stays one

abbrev pub IsThere : World → ℕ → Type 0
IsThere y u = (t : Vat Name) × (slice_get y.vats u ≡ Some t)

same_there : (x y : World) (u : ℕ) (s : Vat Name) → slice_get x.vats u ≡ Some s → y.vats ≡ x.vats → IsThere y u
same_there x y u s i e = (s, ap (λ us. slice_get us u) e ∙ i)

put_there : (x y : World) (u v : ℕ) (s q t : Vat Name) → slice_get x.vats u ≡ Some s → slice_get x.vats v ≡ Some q → y.vats ≡ put_at v t x.vats → IsThere y u
put_there x y u v s q t i j e = either (eq_dec v u)
  where
    either : (v ≡ u) ⊎ (v ≡ u → ⊥) → IsThere y u
    either (inl k) = (t, ap (λ us. slice_get us u) e ∙ subst (λ z. slice_get (put_at v t x.vats) z ≡ Some t) k (get_put x.vats v q t j))
    either (inr o) = (s, stay_put v t x y e u o ∙ i)

pub still_there : (script : Script) (x y : World) (u : ℕ) (s : Vat Name) → slice_get x.vats u ≡ Some s → Moved script x y → IsThere y u
still_there script x y u s i (Still v l d) = same_there x y u s i v
still_there script x y u s i (Severs c e v l d) = same_there x y u s i v
still_there script x y u s i (Drops c v n ns l at notes none vats links drawn) = same_there x y u s i vats
still_there script x y u s i (Steps v q r t what alone d vats links drawn first fresh) = put_there x y u v s q t i d.there vats
still_there script x y u s i (Arrives c v q t n ns l at cut notes d vats links drawn first fresh) = put_there x y u v s q t i d.there vats

-- ---- the end of a run in numbers

module _ (x : World) (u : ℕ) (r : Vat Name) where
  abbrev Found : Option (Vat Local) → Type 0
  Found o = (p : Vat Local) × (o ≡ Some p) × StandsFor u (table_of x u r) p (readied x r)

  then_found : (o : Run) (g : World → Run) (f : World → Option (Vat Local)) → world.then_goes o g ≡ Going x → ((y : World) → o ≡ Going y → g y ≡ Going x → Found (f y)) → Found (where_goes o f)
  unfolding world.then_goes where_goes
  then_found (Going y) g f e h = h y refl e
  then_found (Stopped c n y) g f e h = cc

  is_found : (o : Option (Vat Name)) (s : Vat Name) (f : Vat Name → Option (Vat Local)) → o ≡ Some s → Found (f s) → Found (where_is o f)
  unfolding where_is
  is_found (Some t) s f e h = subst (λ z. Found (f z)) (let same : s ≡ t = cc in same) h
  is_found None s f e h = cc

  left_found : (y : World) (t : Vat Name) (q : Vat Local) (o : OwnStep) (f : Vat Local → Option (Vat Local)) → LeavesFor y u t q o → ((p : Vat Local) → StandsFor u (table_of y u t) p (readied y t) → Found (f p)) → Found (where_is (left_by y q o) f)
  unfolding left_by where_is
  left_found y t q None f l h = h (readied_by_numbers y q) l
  left_found y t q (Some d) f l h = subst (λ z. Found (where_is (left_by y q (Some z)) f)) (sym l.1) (h (readied_by_numbers y l.0) l.2)

module _ (script : Script) (once : KnowsOnce script) (u : ℕ) (w0 : World) (k0 : ℕ) (opened : world.open_from script zero script.vats (world.begins script) ≡ Going w0) where
  goes_on : (ds es : List Entry) (k : ℕ) (w x : World) → k ≡ k0 + length ds → world.steps_from script ds k0 w0 ≡ Going w → NoticesFollowCuts (ds ++ es) → world.steps_from script es k w ≡ Going x
      → (s r : Vat Name) → slice_get w.vats u ≡ Some s → slice_get x.vats u ≡ Some r → (q : Vat Local) → StandsFor u (table_of w u s) q (readied w s) → Found x u r (run_by_numbers script u es k w q)
  unfolding world.steps_from run_by_numbers
  goes_on ds [] k w x n done follow e s r i j q stands = let same : w ≡ x = going_is w x e in let there : slice_get w.vats u ≡ Some r = subst (λ (z : World). slice_get z.vats u ≡ Some r) (sym same) j in
      (q, refl, subst (λ (z : World). StandsFor u (table_of z u r) q (readied z r)) same (subst (λ z. StandsFor u (table_of w u z) q (readied w z)) (some_same s r (sym i ∙ there)) stands))
  goes_on ds (e ∷ es) k w x n done follow f s r i j q stands = then_found x u r (world.step script e k w) (world.steps_from script es (suc k)) (λ y. where_is (slice_get w.vats u) (λ s. where_is (left_by y q (entry_by_numbers script w e u s q)) (run_by_numbers script u es (suc k) y))) f
      (λ y g m. let steps : world.step script e (k0 + length ds) w ≡ Going y = rw n at g in let next : world.steps_from script (ds ++ e ∷ []) k0 w0 ≡ Going y = steps_end script ds e k0 w0 w y done steps in
      let all : NoticesFollowCuts ((ds ++ e ∷ []) ++ es) = subst NoticesFollowCuts (sym (append_assoc ds (e ∷ []) es)) follow in let t = still_there script w y u s i (entry_move script once w0 w y ds e k0 opened done steps) in
      is_found x u r (slice_get w.vats u) s (λ s. where_is (left_by y q (entry_by_numbers script w e u s q)) (run_by_numbers script u es (suc k) y)) i
      (left_found x u r y t.0 q (entry_by_numbers script w e u s q) (run_by_numbers script u es (suc k) y) (entries_chain script once w0 w y ds e k0 (notices_front script [] (ds ++ e ∷ []) es all) opened done steps u s t.0 i t.1 q stands)
      (λ p st. let l = length_end ds e in goes_on (ds ++ e ∷ []) es (suc k) y x (omega arith) next all m t.0 r t.1 j p st)))

pub runs_stand : RunsByNumbersStand
unfolding world.steps_from
runs_stand script once w x es k follow opened stepped u s r i j q stands = let n : k ≡ k + 0 = omega arith in goes_on script once u w k opened [] es k w x n refl follow stepped s r i j q stands

pub runs_taken : RunsAreTakenInNumbers
runs_taken script once knows w x es k follow opened stepped u s r i j =
    runs_stand script once w x es k follow opened stepped u s r i j (in_numbers w u s) ((states_have_numbers script once knows).0 script.vats [] w (sym (append-nil script.vats)) opened u s i)
