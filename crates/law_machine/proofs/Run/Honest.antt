-- Every world of a run is reached by moves of honest vats.
use Rattle.std.proofs.Common.{◌≡◌, ℕ, zero, suc, List, [], ◌∷◌, ◌++◌, refl, sym, ◌∙◌, length, append_assoc, append-nil}
use Rattle.def_machine.specs.Values.{Name}
use Rattle.def_machine.specs.State.{Note, Vat}
use Rattle.def_run.specs.World as world
use Rattle.def_run.specs.World.{Script, Program, Entry, CutLink, NoticeLink, World, Run, Goes as Going, Stopped}
use Rattle.law_machine.specs.Run.Moves.{Deed, Move, Opened, Stepped, IsHonest, Follows, Reached, MovesLift, Nobody, AnyNotice, IsReached, HonestRunsAreReached}

abbrev pub NoDeed : World → ℕ → Vat Name → Deed → Type 0
NoDeed w v s d = ⊥

abbrev pub NoWord : World → ℕ → ℕ → Vat Name → Note Name → Type 0
NoWord w v u s n = ⊥

going_is : (w x : World) → Going w ≡ Going x → w ≡ x
going_is w x e = cc

length_end : (ds : List Program) (p : Program) → length (ds ++ p ∷ []) ≡ suc (length ds)
length_end [] p = refl
length_end (d ∷ ds) p = cc (length_end ds p)

module _ (script : Script) where
  reached_is : (w x : World) → IsReached script w → Going w ≡ Going x → IsReached script x
  reached_is w x r e = rw (going_is w x e) at r

  on : (w y : World) → IsReached script w → Move script Nobody AnyNotice NoDeed NoWord w y → IsReached script y
  on w y r m = (w ∷ r.0, (m, r.1))

  honest : (w : World) (e : Entry) → IsHonest script Nobody AnyNotice NoDeed NoWord w e
  honest w (CutLink a b) = tt
  honest w (NoticeLink v to) = (λ h. h, tt)
  honest w other = λ h. h

  then_reached : (x : World) (r : Run) (f : World → Run) → ((y : World) → r ≡ Going y → IsReached script y) → ((y : World) → IsReached script y → f y ≡ Going x → IsReached script x) → world.then_goes r f ≡ Going x → IsReached script x
  unfolding world.then_goes
  then_reached x (Going y) f a b e = b y (a y refl) e
  then_reached x (Stopped c n y) f a b e = cc

  pub steps_reached : (es : List Entry) (k : ℕ) (w x : World) → IsReached script w → world.steps_from script es k w ≡ Going x → IsReached script x
  unfolding world.steps_from
  steps_reached [] k w x r e = reached_is w x r e
  steps_reached (entry ∷ es) k w x r e = then_reached x (world.step script entry k w) (world.steps_from script es (suc k)) (λ y i. on w y r (Stepped entry k (honest w entry) i)) (λ y a j. steps_reached es (suc k) y x a j) e

  pub opens_reached : (front ps rest : List Program) (w x : World) → script.vats ≡ front ++ (ps ++ rest) → IsReached script w → world.open_from script (length front) ps w ≡ Going x → IsReached script x
  unfolding world.open_from
  opens_reached front [] rest w x i r e = reached_is w x r e
  opens_reached front (p ∷ ps) rest w x i r e = then_reached x (world.open_vat script (length front) p w) (world.open_from script (suc (length front)) ps) (λ y j. on w y r (Opened front (ps ++ rest) p (λ h. h) i j))
      (λ y a j. opens_reached (front ++ p ∷ []) ps rest y x (i ∙ sym (append_assoc front (p ∷ []) (ps ++ rest))) a (rw (sym (length_end front p)) at j)) e

  pub opened_reached : (ps rest : List Program) (w : World) → script.vats ≡ ps ++ rest → world.open_from script zero ps (world.begins script) ≡ Going w → IsReached script w
  opened_reached ps rest w i e = opens_reached [] ps rest (world.begins script) w i ([], refl) e

pub honest_reached : HonestRunsAreReached
honest_reached script = (λ ps rest w i e. opened_reached script ps rest w i e, λ w x es k e i. steps_reached script es k w x (opened_reached script script.vats [] w (sym (append-nil script.vats)) e) i)

module _ (script : Script) (Hostile : ℕ → Type 0) (MayNotice : World → ℕ → ℕ → Type 0) (May : World → ℕ → Vat Name → Deed → Type 0) (Lawful : World → ℕ → ℕ → Vat Name → Note Name → Type 0)
    (J : World → Type 0) (begun : J (world.begins script)) (law : (w y : World) → Reached script Hostile MayNotice May Lawful w → J w → Move script Hostile MayNotice May Lawful w y → J y) where
  at_start : (y : World) → y ≡ world.begins script → J y
  at_start y e = rw (sym e) at begun

  follows : (ws : List World) (y : World) → Follows script Hostile MayNotice May Lawful ws y → J y
  follows [] y f = at_start y f
  follows (w ∷ ws) y f = law w y (ws, f.1) (follows ws w f.1) f.0

pub lifted : MovesLift
lifted script Hostile MayNotice May Lawful J begun law y r = follows script Hostile MayNotice May Lawful J begun law r.0 y r.1
