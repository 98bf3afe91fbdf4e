-- The machine's verdict is exact.
use Rattle.std.proofs.Common.{◌≡◌, ℕ, suc, List, [], ◌∷◌, ◌++◌, Option, Some, None, refl, sym, ◌∙◌, subst, ap}
use Rattle.def_syntax.specs.declared.syntax.Word.{Word}
use Rattle.def_syntax.specs.declared.syntax.Shape.{Shape}
use Rattle.def_syntax.specs.declared.place.Ending.{Ending}
use Rattle.def_syntax.specs.declared.place.Ending.TheVariants.{Never, Ends, BeforeStop}
use Rattle.def_syntax.specs.Grammar.{Tree, Trees, node, ending, MayEnd, Goal, line, tail, inside, Spells, form, tower, stays, goes, ends, takes, reads, wraps, SpellsProgram}
use Rattle.def_syntax.specs.Machine.{Frame, within, after, State, at, step, started, end_in, Through, Completes, and_then, end_frames, finish, Verdict, tree, fails, at_end, go_on, run}
use Rattle.std.proofs.Common.{take, length, ◌<◌, ◌≤◌, ◌+◌, arith, zero-add}
use Rattle.def_syntax.proofs.Sound.{spells_at, step_sound, run_sound}
use Rattle.def_syntax.proofs.Complete.{Valid, Goes, step_complete}
use Rattle.def_syntax.proofs.Lawful.{ValidNext, step_valid, started_valid}
use Rattle.def_syntax.proofs.Low.{least_reached}
use Rattle.def_syntax.specs.Exact.{Exact}

-- no line spells nothing, and what may end spells nothing
abbrev Empty : Goal → Tree → Type 0
Empty (line l) w = ⊥
Empty (tail c v) w = v ≡ w
Empty (inside q f fs) w = end_in (ending q) f fs ≡ Some w

end_may : (e : Ending) (s : Shape) (f : Word) (fs : Trees) (ts : List Word) → MayEnd e s ts → end_in e f fs ≡ Some (node s f fs)
end_may Never s f fs ts m = absurd m
end_may (Ends x) s f fs ts m = ap (λ (y : Shape). Some (node y f fs)) m
end_may (BeforeStop x) s f fs ts m = ap (λ (y : Shape). Some (node y f fs)) m.0

ends_only : {g : Goal} {ts rest : List Word} {w : Tree} → Spells g ts w rest → ts ≡ [] → (rest ≡ []) × Empty g w
ends_only (form e d) h = cc
ends_only (tower e d tl) h = absurd (ends_only d h).1
ends_only stays h = (h, refl)
ends_only (goes e d tl) h = cc
ends_only {ts = ts} (ends {q = q} {s = s} {f = f} {fs = fs} e) h = (h, end_may (ending q) s f fs ts e)
ends_only (takes m e d) h = cc
ends_only (reads m d r) h = absurd (ends_only d h).1
ends_only (wraps m e d) h = cc

end_frames_complete : (frs : List Frame) (v w : Tree) (ts : List Word) → ts ≡ [] → Through frs v ts w [] → end_frames frs v ≡ Some w
unfolding end_frames
end_frames_complete [] v w ts e th = ap (λ (x : Tree). Some x) th.0
end_frames_complete (within q f fs ∷ frs) v w ts e th =
    let r = ends_only th.2 e in
    ap (λ (o : Option Tree). and_then o (λ u. end_frames frs u)) r.1 ∙ end_frames_complete frs th.0 w th.1 r.0 th.3
end_frames_complete (after c ∷ frs) v w ts e th =
    let r = ends_only th.2 e in
    ap (λ (x : Tree). end_frames frs x) r.1 ∙ end_frames_complete frs th.0 w th.1 r.0 th.3

finish_complete : (s : State) (w : Tree) → Completes s [] w → finish s ≡ Some w
unfolding finish
finish_complete (at q f fs frs) w c =
    let r = ends_only c.2 refl in
    ap (λ (o : Option Tree). and_then o (λ u. end_frames frs u)) r.1 ∙ end_frames_complete frs c.0 w c.1 r.0 c.3

at_step : (o : Option State) (ts : List Word) (w : Tree) → Goes o ts w → ValidNext o → (s : State) × (o ≡ Some s) × Completes s ts w × Valid s
at_step None ts w h v = absurd h
at_step (Some s) ts w h v = (s, refl, h, v)

-- what is spelled is answered
pub run_complete : (ts : List Word) (n : ℕ) (s : State) → Valid s → (w : Tree) → Completes s ts w → run ts n s ≡ tree w
unfolding run
run_complete [] n s v w c = ap (λ (o : Option Tree). at_end o n) (finish_complete s w c)
run_complete (t ∷ ts) n s v w c =
    let r = at_step (step s t) ts w (step_complete s v t ts w c) (step_valid s t v) in
    ap (λ (o : Option State). go_on o n (λ s'. run ts (suc n) s')) r.1 ∙ run_complete ts (suc n) r.0 r.3 w r.2

no_tree : (w : Tree) → None ≡ Some w → ⊥
no_tree w e = cc

pub fails_is : (k n : ℕ) → fails k ≡ fails n → k ≡ n + 0
fails_is k n e = let h : k ≡ n = cc in omega arith

pub fails_less : (k n j : ℕ) → k ≡ suc n + j → k ≡ n + suc j
fails_less k n j e = omega arith

-- the first bad token, seen from a state
pub record Bad (s : State) (ts : List Word) (j : ℕ) : Type 0 where
  pub within : j ≤ length ts
  pub before : (rest : List Word) × (w : Tree) × Completes s (take j ts ++ rest) w
  pub here : j < length ts → (rest : List Word) (w : Tree) → Completes s (take (suc j) ts ++ rest) w → ⊥
  pub never : (w : Tree) → Completes s ts w → ⊥

none_bad : (s : State) → Valid s → (n k : ℕ) → (o : Option Tree) → finish s ≡ o → at_end o n ≡ fails k → (j : ℕ) × (k ≡ n + j) × Bad s [] j
none_bad s v n k (Some w) e h = cc
none_bad s v n k None e h =
    let x = least_reached s v in (
      0,
      fails_is k n (sym h),
      record {
        within = omega arith;
        before = (x.0, x.1, x.2);
        here = λ lt. absurd (omega arith);
        never = λ w c. no_tree w (sym e ∙ finish_complete s w c);
      },
    )

stuck_bad : (s : State) → Valid s → (t : Word) (ts : List Word) → step s t ≡ None → Bad s (t ∷ ts) 0
stuck_bad s v t ts e =
    let x = least_reached s v in
    let stops_here : (rest : List Word) (w : Tree) → Completes s (t ∷ rest) w → ⊥ = λ rest w c. subst (λ (o : Option State). Goes o rest w) e (step_complete s v t rest w c) in
    record {
      within = omega arith;
      before = (x.0, x.1, x.2);
      here = λ lt rest w c. stops_here rest w c;
      never = λ w c. stops_here ts w c;
    }

next_bad : (s s' : State) → Valid s → (t : Word) (ts : List Word) (j : ℕ) → step s t ≡ Some s' → Bad s' ts j → Bad s (t ∷ ts) (suc j)
next_bad s s' v t ts j e b =
    let onward : (rest : List Word) (w : Tree) → Completes s (t ∷ rest) w → Completes s' rest w = λ rest w c. subst (λ (o : Option State). Goes o rest w) e (step_complete s v t rest w c) in
    record {
      within = omega (arith, b.within);
      before = (b.before.0, b.before.1, step_sound s t s' (take j ts ++ b.before.0) b.before.1 e b.before.2);
      here = λ lt rest w c. b.here (omega (arith, lt)) rest w (onward (take (suc j) ts ++ rest) w c);
      never = λ w c. b.never w (onward ts w c);
    }

mutual_step : (s : State) (t : Word) (ts : List Word) (n k : ℕ) → Valid s → (o : Option State) → step s t ≡ o → ValidNext o → go_on o n (λ s'. run ts (suc n) s') ≡ fails k → ((s' : State) → Valid s' → run ts (suc n) s' ≡ fails k → (j : ℕ) × (k ≡ suc n + j) × Bad s' ts j) → (j : ℕ) × (k ≡ n + j) × Bad s (t ∷ ts) j
mutual_step s t ts n k v None e vn h on = (0, fails_is k n (sym h), stuck_bad s v t ts e)
mutual_step s t ts n k v (Some s') e vn h on =
    let r = on s' vn h in
    (suc r.0, fails_less k n r.0 r.1, next_bad s s' v t ts r.0 e r.2)

pub run_fails : (ts : List Word) (n k : ℕ) (s : State) → Valid s → run ts n s ≡ fails k → (j : ℕ) × (k ≡ n + j) × Bad s ts j
unfolding run
run_fails [] n k s v h = none_bad s v n k (finish s) refl h
run_fails (t ∷ ts) n k s v h = mutual_step s t ts n k v (step s t) refl (step_valid s t v) h (λ s' v' h'. run_fails ts (suc n) k s' v' h')

-- from the start the machine's completions are the program's spellings
pub program_of : (ts : List Word) (w : Tree) → Completes started ts w → SpellsProgram w ts
program_of ts w c = spells_at c.3.0 c.3.1 c.2

pub of_program : (ts : List Word) (w : Tree) → SpellsProgram w ts → Completes started ts w
of_program ts w d = (w, [], d, (refl, refl))

tree_same : (u w : Tree) → tree u ≡ tree w → u ≡ w
tree_same u w e = cc

pub exact_at : (ts : List Word) (o : Verdict) → run ts 0 started ≡ o → Exact ts o
exact_at ts (tree w) e = (program_of ts w (run_sound ts 0 started w e), λ u d. tree_same u w (sym (run_complete ts 0 started started_valid u (of_program ts u d)) ∙ e))
exact_at ts (fails k) e =
    let r = run_fails ts 0 k started started_valid e in
    let is : k ≡ r.0 = r.1 ∙ zero-add r.0 in
    subst (λ (x : ℕ). Exact ts (fails x)) (sym is) (record {
      within = r.2.within;
      before = (r.2.before.0, r.2.before.1, program_of (take r.0 ts ++ r.2.before.0) r.2.before.1 r.2.before.2);
      at = λ lt v. r.2.here lt v.0 v.1 (of_program (take (suc r.0) ts ++ v.0) v.1 v.2);
      none = λ w d. r.2.never w (of_program ts w d);
    })

-- the machine's verdict is exact
pub exact : (ts : List Word) → Exact ts (run ts 0 started)
exact ts = exact_at ts (run ts 0 started) refl

-- a token list spells at most one tree
pub one_tree : (ts : List Word) (u w : Tree) → SpellsProgram u ts → SpellsProgram w ts → u ≡ w
one_tree ts u w d e = tree_same u w (sym (run_complete ts 0 started started_valid u (of_program ts u d)) ∙ run_complete ts 0 started started_valid w (of_program ts w e))
