-- Between the steps of a run nothing is live.
use Rattle.std.proofs.Common.{◌≡◌, ℕ, zero, suc, Bool, true, false, List, [], ◌∷◌, Some, None, refl, sym, subst}
use Rattle.std.specs.Prelude.{slice_get}
use Rattle.def_machine.specs.Values.{Name}
use Rattle.def_machine.specs.State.{Vat, Done, Gives}
use Rattle.law_machine.specs.Machine.Steps.{Step, does}
use Rattle.def_run.specs.World.{Script, Program, Entry, Event, World, Goes, put_at, put_back, readied, within, names, fresh, fresh_from, begins, open_from, steps_from}
use Rattle.law_machine.proofs.Run.RunKeeps.{Begins, IsKeptByRuns, run_keeps, opens_keep}
use Rattle.law_uses.specs.Connectivity.Liveness.{live_at, LeavesDead}
use Rattle.law_uses.specs.Connectivity.Runs.{NothingLive}
use Rattle.law_uses.proofs.Connectivity.StepDies.{steps_leave_dead}

-- nothing in a vat is live
abbrev Still : Vat Name → Type 0
Still s = (i : ℕ) → live_at s.things i ≡ false

-- from one world to the next
abbrev StaysStill : World → World → Type 0
StaysStill w x = NothingLive w → NothingLive x

not_true : (b : Bool) → (b ≡ true → ⊥) → b ≡ false
not_true true f = absurd (f refl)
not_true false f = refl

false_true : (b : Bool) → b ≡ false → b ≡ true → ⊥
false_true b e f = cc

still_after : (s t : Vat Name) → ((i : ℕ) → live_at t.things i ≡ true → live_at s.things i ≡ true) → Still s → Still t
still_after s t r h i = not_true (live_at t.things i) (λ e. false_true (live_at s.things i) (h i) (r i e))

same_some : (x y : Vat Name) → Some x ≡ Some y → x ≡ y
same_some x y e = cc

no_some : (y : Vat Name) → None ≡ Some y → ⊥
no_some y e = cc

put_still : (v : ℕ) (t : Vat Name) (xs : List (Vat Name)) → Still t → ((u : ℕ) (s : Vat Name) → slice_get xs u ≡ Some s → Still s) → (u : ℕ) (s : Vat Name) → slice_get (put_at v t xs) u ≡ Some s → Still s
unfolding put_at
put_still v t [] h all u s e = all u s e
put_still zero t (x ∷ xs) h all zero s e = subst Still (same_some t s e) h
put_still zero t (x ∷ xs) h all (suc u) s e = all (suc u) s e
put_still (suc v) t (x ∷ xs) h all zero s e = all zero s e
put_still (suc v) t (x ∷ xs) h all (suc u) s e = put_still v t xs h (λ n z f. all (suc n) z f) u s e

goes_vats : (w x : World) → Goes w ≡ Goes x → w ≡ x
goes_vats w x e = cc

back_still : (v : ℕ) (w x : World) (head : List Event) (n : ℕ) (r : Vat Name) (d : Done Name (Unit {0})) → Still r → LeavesDead r d → put_back v w head n d ≡ Goes x → StaysStill w x
unfolding put_back
back_still v w x head n r (Gives a t) q h e all = subst NothingLive (goes_vats _ x e) (λ u s f. put_still v t w.vats (still_after r t h q) all u s f)
back_still v w x head n r other q h e all = cc

module _ (script : Script) where
  begun_still : (s q : Vat Name) → Begins s q → Still s → Still q
  begun_still s q b h = subst Still (sym b.1) h

  within_still : (v : ℕ) (w x : World) (head : List Event) (n : ℕ) (what : Step Name Name) (s q : Vat Name) → slice_get w.vats v ≡ Some s → Begins s q → within v w head n (does (names script v) what) (Some q) ≡ Goes x → StaysStill w x
  unfolding within readied
  within_still v w x head n what s q e b i all = back_still v w x head n (readied w q) (does (names script v) what (readied w q)) (begun_still s q b (all v s e)) (steps_leave_dead (names script v) what (readied w q)) i all

  kept : IsKeptByRuns script StaysStill
  kept = record {
    same = λ w h. h;
    trans = λ w x y f g h. g (f h);
    adds = λ w ls es h. h;
    links = λ w ls h. h;
    vat = λ v w x head n what s q e b i. within_still v w x head n what s q e b i;
  }

  fresh_still : (v : ℕ) (ps : List Program) (u : ℕ) (s : Vat Name) → slice_get (fresh_from script v ps) u ≡ Some s → Still s
  unfolding fresh_from fresh live_at
  fresh_still v [] u s e = absurd (no_some s e)
  fresh_still v (p ∷ ps) zero s e = subst Still (same_some (fresh script v p) s e) (λ i. refl)
  fresh_still v (p ∷ ps) (suc u) s e = fresh_still (suc v) ps u s e

  begins_still : NothingLive (begins script)
  unfolding begins
  begins_still u s e = fresh_still zero script.vats u s e

  pub opened_still : (ps : List Program) (w : World) → open_from script zero ps (begins script) ≡ Goes w → NothingLive w
  opened_still ps w e = opens_keep script StaysStill kept zero ps (begins script) w e begins_still

  pub run_still : (w x : World) (es : List Entry) (k : ℕ) → open_from script zero script.vats (begins script) ≡ Goes w → steps_from script es k w ≡ Goes x → NothingLive x
  run_still w x es k e i = run_keeps script StaysStill kept es k w x i (opened_still script.vats w e)
