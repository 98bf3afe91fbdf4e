-- The answer is exact.
use Rattle.std.proofs.Common.{◌≡◌, ℕ, suc, List, [], ◌∷◌, ◌++◌, Bool, true, false, cond, Option, Some, None, refl, sym, ◌∙◌, subst, ap, ◌+◌, ◌≤◌, ◌<◌, arith, nat_lt, ltb-true, ltb-false, le_trans, take, drop, length, zero-add, take-append-drop}
use Rattle.def_syntax.specs.declared.syntax.Word.{Word}
use Rattle.def_syntax.specs.Grammar.{Tree, SpellsProgram}
use Rattle.def_syntax.specs.Machine.{State, step, started, Completes, finish, Verdict, fails, at_end, go_on, run}
use Rattle.def_syntax.specs.Machine.{tree as read}
use Rattle.def_syntax.specs.Heights.{height, low_frames, least, most_height, Answer, tree, no_spelling, too_nested, noted, closed, ended_with, onward, answer_from, answer, IsFirstHigh}
use Rattle.def_syntax.specs.Exact.{IsAnswer}
use Rattle.def_syntax.proofs.Sound.{step_sound}
use Rattle.def_syntax.proofs.Complete.{Valid, Goes, step_complete}
use Rattle.def_syntax.proofs.Lawful.{ValidNext, step_valid, started_valid}
use Rattle.def_syntax.proofs.Verdicts.{exact_at, program_of, of_program}
use Rattle.def_syntax.proofs.Low.{least_below, least_reached, finish_low}

-- the same verdict without heights
abbrev Agrees : Answer → Verdict → Type 0
Agrees (tree w) v = v ≡ read w
Agrees (no_spelling k) v = v ≡ fails k
Agrees (too_nested k) v = (w : Tree) × (v ≡ read w)

closed_agrees : (d : Option ℕ) (w : Tree) → Agrees (closed d w) (read w)
closed_agrees None w = refl
closed_agrees (Some k) w = (w, refl)

ended_agrees : (o : Option Tree) (n : ℕ) (d : Option ℕ) → Agrees (ended_with o n d) (at_end o n)
ended_agrees None n d = refl
ended_agrees (Some w) n d = closed_agrees d w

onward_agrees : (o : Option State) (n : ℕ) (f : State → Answer) (g : State → Verdict) → ((s : State) → Agrees (f s) (g s)) → Agrees (onward o n f) (go_on o n g)
onward_agrees None n f g h = refl
onward_agrees (Some s) n f g h = h s

agrees : (ts : List Word) (n : ℕ) (d : Option ℕ) (s : State) → Agrees (answer_from ts n d s) (run ts n s)
unfolding answer_from run
agrees [] n d s = ended_agrees (finish s) n d
agrees (t ∷ ts) n d s = onward_agrees (step s t) n (λ s'. answer_from ts (suc n) (noted d n s') s') (λ s'. run ts (suc n) s') (λ s'. agrees ts (suc n) (noted d n s') s')

-- where the height is exceeded, seen from a state
record High (s : State) (ts : List Word) (j : ℕ) : Type 0 where
  pub within : j < length ts
  pub before : (rest : List Word) × (w : Tree) × Completes s (take j ts ++ rest) w × (height w ≤ most_height)
  pub here : (rest : List Word) (w : Tree) → Completes s (take (suc j) ts ++ rest) w → most_height < height w

too_is : (a b : ℕ) → too_nested a ≡ too_nested b → b ≡ a
too_is a b e = cc

-- once noted, the place stays
stays_end : (o : Option Tree) (n a k : ℕ) → ended_with o n (Some a) ≡ too_nested k → k ≡ a
stays_end None n a k h = cc
stays_end (Some w) n a k h = too_is a k h

stays_on : (o : Option State) (n a k : ℕ) (f : State → Answer) → onward o n f ≡ too_nested k → ((s : State) → f s ≡ too_nested k → k ≡ a) → k ≡ a
stays_on None n a k f h on = cc
stays_on (Some s) n a k f h on = on s h

noted_stays : (ts : List Word) (n a k : ℕ) (s : State) → answer_from ts n (Some a) s ≡ too_nested k → k ≡ a
unfolding answer_from
noted_stays [] n a k s e = stays_end (finish s) n a k e
noted_stays (t ∷ ts) n a k s e = stays_on (step s t) n a k (λ s'. answer_from ts (suc n) (Some a) s') e (λ s' h. noted_stays ts (suc n) a k s' h)

high_now : (s s' : State) → Valid s → (t : Word) (ts : List Word) → least s ≤ most_height → step s t ≡ Some s' → Valid s' → most_height < least s' → High s (t ∷ ts) 0
high_now s s' v t ts lo e v' hi =
    let x = least_reached s v in
    record {
      within = omega arith;
      before = (x.0, x.1, x.2, le_trans x.3 lo);
      here = λ rest w c.
          let c' : Completes s' rest w = subst (λ (o : Option State). Goes o rest w) e (step_complete s v t rest w c) in
          let k : least s' ≤ height w = least_below s' rest w c' in
          omega (arith, k, hi);
    }

high_next : (s s' : State) → Valid s → (t : Word) (ts : List Word) (j : ℕ) → step s t ≡ Some s' → High s' ts j → High s (t ∷ ts) (suc j)
high_next s s' v t ts j e h = record {
  within = omega (arith, h.within);
  before = (h.before.0, h.before.1, step_sound s t s' (take j ts ++ h.before.0) h.before.1 e h.before.2, h.before.3);
  here = λ rest w c. h.here rest w (subst (λ (o : Option State). Goes o (take (suc j) ts ++ rest) w) e (step_complete s v t (take (suc j) ts ++ rest) w c));
}

abbrev Placed : State → List Word → ℕ → ℕ → Type 0
Placed s ts n k = (j : ℕ) × (k ≡ n + j) × High s ts j

not_ended : (o : Option Tree) (n k : ℕ) → ended_with o n None ≡ too_nested k → ⊥
not_ended None n k h = cc
not_ended (Some w) n k h = cc

tested : (s s' : State) (t : Word) (ts : List Word) (n k : ℕ) → Valid s → least s ≤ most_height → (b : Bool) → nat_lt most_height (least s') ≡ b → step s t ≡ Some s' → Valid s' → answer_from ts (suc n) (cond b (Some n) None) s' ≡ too_nested k → (least s' ≤ most_height → answer_from ts (suc n) None s' ≡ too_nested k → Placed s' ts (suc n) k) → Placed s (t ∷ ts) n k
tested s s' t ts n k v lo true b e' v' h on =
    let is : k ≡ n = noted_stays ts (suc n) n k s' h in
    (0, omega arith, high_now s s' v t ts lo e' v' (ltb-true most_height (least s') b))
tested s s' t ts n k v lo false b e' v' h on =
    let r = on (ltb-false most_height (least s') b) h in
    (suc r.0, omega (arith, r.1), high_next s s' v t ts r.0 e' r.2)

placed_on : (s : State) (t : Word) (ts : List Word) (n k : ℕ) → Valid s → least s ≤ most_height → (o : Option State) → step s t ≡ o → ValidNext o → onward o n (λ s'. answer_from ts (suc n) (noted None n s') s') ≡ too_nested k → ((s' : State) → Valid s' → least s' ≤ most_height → answer_from ts (suc n) None s' ≡ too_nested k → Placed s' ts (suc n) k) → Placed s (t ∷ ts) n k
placed_on s t ts n k v lo None e' v' h on = cc
placed_on s t ts n k v lo (Some s') e' v' h on = tested s s' t ts n k v lo (nat_lt most_height (least s')) refl e' v' h (on s' v')

high_place : (ts : List Word) (n k : ℕ) (s : State) → Valid s → least s ≤ most_height → answer_from ts n None s ≡ too_nested k → Placed s ts n k
unfolding answer_from
high_place [] n k s v lo e = absurd (not_ended (finish s) n k e)
high_place (t ∷ ts) n k s v lo e = placed_on s t ts n k v lo (step s t) refl (step_valid s t v) e (λ s' v' lo' h. high_place ts (suc n) k s' v' lo' h)

-- a tree that is answered is low
closed_low : (d : Option ℕ) (w u : Tree) → closed d u ≡ tree w → (d ≡ None) × (u ≡ w)
closed_low None w u h = (refl, (let k : u ≡ w = cc in k))
closed_low (Some a) w u h = cc

ended_low : (s : State) (n : ℕ) (d : Option ℕ) (w : Tree) → Valid s → (d ≡ None → least s ≤ most_height) → (o : Option Tree) → finish s ≡ o → ended_with o n d ≡ tree w → height w ≤ most_height
ended_low s n d w v lo None e h = cc
ended_low s n d w v lo (Some u) e h =
    let r = closed_low d w u h in
    le_trans (finish_low s w (e ∙ ap (λ (x : Tree). Some x) r.1)) (lo r.0)

noted_low : (d : Option ℕ) (n : ℕ) (s : State) → noted d n s ≡ None → least s ≤ most_height
noted_low (Some a) n s h = cc
noted_low None n s h = go (nat_lt most_height (least s)) refl h
  where
    go : (b : Bool) → nat_lt most_height (least s) ≡ b → cond b (Some n) None ≡ None → least s ≤ most_height
    go true e k = cc
    go false e k = ltb-false most_height (least s) e

low_on : (t : Word) (n : ℕ) (f : State → Answer) (w : Tree) → (o : Option State) → ValidNext o → onward o n f ≡ tree w → ((s' : State) → Valid s' → f s' ≡ tree w → height w ≤ most_height) → height w ≤ most_height
low_on t n f w None v h on = cc
low_on t n f w (Some s') v h on = on s' v h

tree_low : (ts : List Word) (n : ℕ) (d : Option ℕ) (s : State) (w : Tree) → Valid s → (d ≡ None → least s ≤ most_height) → answer_from ts n d s ≡ tree w → height w ≤ most_height
unfolding answer_from
tree_low [] n d s w v lo e = ended_low s n d w v lo (finish s) refl e
tree_low (t ∷ ts) n d s w v lo e = low_on t n (λ s'. answer_from ts (suc n) (noted d n s') s') w (step s t) (step_valid s t v) e (λ s' v' h. tree_low ts (suc n) (noted d n s') s' w v' (λ k. noted_low d n s' k) h)

started_low : least started ≤ most_height
unfolding low_frames
started_low = omega arith

answer_at : (ts : List Word) (a : Answer) → answer_from ts 0 None started ≡ a → Agrees a (run ts 0 started) → IsAnswer ts a
answer_at ts (tree w) e g = ((exact_at ts (read w) g).0, tree_low ts 0 None started w started_valid (λ k. started_low) e)
answer_at ts (no_spelling k) e g = exact_at ts (fails k) g
answer_at ts (too_nested k) e g =
    let r = high_place ts 0 k started started_valid started_low e in
    let is : r.0 ≡ k = sym (r.1 ∙ zero-add r.0) in
    let spelled = (exact_at ts (read g.0) g.1).0 in
    let whole : (take (suc r.0) ts ++ drop (suc r.0) ts) ≡ ts = take-append-drop (suc r.0) ts in (
      g.0,
      spelled,
      r.2.here (drop (suc r.0) ts) g.0 (of_program (take (suc r.0) ts ++ drop (suc r.0) ts) g.0 (subst (λ (x : List Word). SpellsProgram g.0 x) (sym whole) spelled)),
      subst (λ (x : ℕ). IsFirstHigh ts x) is (record {
        within = r.2.within;
        before = (r.2.before.0, r.2.before.1, program_of (take r.0 ts ++ r.2.before.0) r.2.before.1 r.2.before.2, r.2.before.3);
        at = λ x. absurd (let k : most_height < height x.1 = r.2.here x.0 x.1 (of_program (take (suc r.0) ts ++ x.0) x.1 x.2) in let l : height x.1 ≤ most_height = x.3 in omega (arith, k, l));
      }),
    )

-- the machine's answer is exact
pub answer_exact : (ts : List Word) → IsAnswer ts (answer ts)
answer_exact ts = answer_at ts (answer ts) refl (agrees ts 0 None started)
