-- Doing after doing, to the end of a play; and the texts.
use Rattle.std.proofs.Common.{◌≡◌, ℕ, zero, suc, ◌+◌, ◌≤◌, Bool, true, false, List, [], ◌∷◌, ◌++◌, Option, Some, None, refl, sym, ap, ◌∙◌, subst, length, append_assoc, arith}
use Rattle.std.specs.Prelude.{slice_get}
use Rattle.def_machine.specs.Eval.{opening}
use Rattle.def_machine.specs.State.{Vat, Done, Gives, Throws, Ejects, Stops}
use Rattle.def_machine.specs.Values.{Name}
use Rattle.def_run.specs.World as world
use Rattle.def_run.specs.World.{Script, Program, Opens, Run, World, fresh, within, put_back, readied}
use Rattle.def_hostile.specs.Hostile as names
use Rattle.def_hostile.specs.Hostile.{Play, Doing, Scene, Acted, Plays, Breaks, is_hostile, then_plays}
use Rattle.def_hostile.specs.HostileText as theirs
use Rattle.def_hostile.specs.Numbers as numbers
use Rattle.def_hostile.specs.Numbers.{Cast, Performed, Performs, Ceases, then_performs}
use Rattle.def_hostile.specs.NumbersText as ours
use Rattle.law_frame.proofs.Frame.Openings.{begins_at}
use Rattle.law_frame.proofs.Local.Steps.{put_beside}
use Rattle.law_hostile_frame.specs.Mirrors.{SceneMirrors, ActsMirror}
use Rattle.law_hostile_frame.proofs.Malformed.{shown_same}
use Rattle.law_hostile_frame.proofs.Starts.{starts_mirror}
use Rattle.law_hostile_mirror.specs.Plays.{EachDoingMirrors, PlaysMirror, TextsMirror}
use Rattle.law_hostile_mirror.proofs.Closing.{closings_mirror}

-- ---- texts

pub texts_mirror : TextsMirror
unfolding theirs.text theirs.wire_text ours.text ours.wire_text
texts_mirror play (Plays s) (Performs c) h = (rw (shown_same play s c h) refl, rw (shown_same play s c h) refl)
texts_mirror play (Breaks e k s) (Ceases f n c) h = (rw (h.0, h.1, h.2) refl, rw (h.0, h.1, h.2) refl)
texts_mirror play (Plays s) (Ceases f n c) h = absurd h
texts_mirror play (Breaks e k s) (Performs c) h = absurd h

-- ---- one after another

-- what goes on from what mirrors
goes_on : (play : Play) (a : Acted) (b : Performed) (f : Scene → Acted) (g : Cast → Performed) → ActsMirror play a b → ((s : Scene) (c : Cast) → a ≡ Plays s → b ≡ Performs c → SceneMirrors play s c → ActsMirror play (f s) (g c))
    → ActsMirror play (then_plays a f) (then_performs b g)
unfolding then_plays then_performs
goes_on play (Plays s) (Performs c) f g h k = k s c refl refl h
goes_on play (Breaks e i s) (Ceases d j c) f g h k = h
goes_on play (Plays s) (Ceases d j c) f g h k = absurd h
goes_on play (Breaks e i s) (Performs c) f g h k = absurd h

length_end : {A : Type 0} (xs : List A) (x : A) → length (xs ++ x ∷ []) ≡ suc (length xs)
length_end [] x = refl
length_end (y ∷ xs) x = ap suc (length_end xs x)

module _ (play : Play) where
  -- one more behind what went
  opened_one : (v : ℕ) (ps : List Program) (p : Program) (s t : Scene) → names.opens_from play v ps s ≡ Plays t → names.opens_from play v (ps ++ p ∷ []) s ≡ then_plays (names.opens play (is_hostile play (v + length ps)) (v + length ps) p t) (λ z. Plays z)
  unfolding names.opens_from then_plays
  opened_one v [] p s t e = let i : s ≡ t = cc in let j : v ≡ v + zero = omega arith in ap (λ z. then_plays (names.opens play (is_hostile play v) v p z) (λ y. Plays y)) i ∙ ap (λ n. then_plays (names.opens play (is_hostile play n) n p t) (λ y. Plays y)) j
  opened_one v (q ∷ ps) p s t e = by (names.opens play (is_hostile play v) v q s) e (λ z i. opened_one (suc v) ps p z t i)
    where
      by : (a : Acted) → then_plays a (names.opens_from play (suc v) ps) ≡ Plays t → ((z : Scene) → names.opens_from play (suc v) ps z ≡ Plays t → names.opens_from play (suc v) (ps ++ p ∷ []) z ≡ then_plays (names.opens play (is_hostile play (suc v + length ps)) (suc v + length ps) p t) (λ y. Plays y))
          → then_plays a (names.opens_from play (suc v) (ps ++ p ∷ [])) ≡ then_plays (names.opens play (is_hostile play (v + suc (length ps))) (v + suc (length ps)) p t) (λ y. Plays y)
      by (Plays z) i h = let j : suc v + length ps ≡ v + suc (length ps) = omega arith in h z i ∙ ap (λ n. then_plays (names.opens play (is_hostile play n) n p t) (λ y. Plays y)) j
      by (Breaks c n z) i h = cc

  done_one : (ds : List Doing) (d : Doing) (k : ℕ) (s t : Scene) → names.does_all play ds k s ≡ Plays t → names.does_all play (ds ++ d ∷ []) k s ≡ then_plays (names.does play d (k + length ds) t) (λ z. Plays z)
  unfolding names.does_all then_plays
  done_one [] d k s t e = let i : s ≡ t = cc in let j : k ≡ k + zero = omega arith in ap (λ z. then_plays (names.does play d k z) (λ y. Plays y)) i ∙ ap (λ n. then_plays (names.does play d n t) (λ y. Plays y)) j
  done_one (g ∷ ds) d k s t e = by (names.does play g k s) e (λ z i. done_one ds d (suc k) z t i)
    where
      by : (a : Acted) → then_plays a (names.does_all play ds (suc k)) ≡ Plays t → ((z : Scene) → names.does_all play ds (suc k) z ≡ Plays t → names.does_all play (ds ++ d ∷ []) (suc k) z ≡ then_plays (names.does play d (suc k + length ds) t) (λ y. Plays y))
          → then_plays a (names.does_all play (ds ++ d ∷ []) (suc k)) ≡ then_plays (names.does play d (k + suc (length ds)) t) (λ y. Plays y)
      by (Plays z) i h = let j : suc k + length ds ≡ k + suc (length ds) = omega arith in h z i ∙ ap (λ n. then_plays (names.does play d n t) (λ y. Plays y)) j
      by (Breaks c n z) i h = cc

  -- ---- vats that are still to open are as at the start

  put_apart : (v j : ℕ) (w : World) (head : List world.Event) (n : ℕ) (d : Done Name (Unit {0})) (y : World) → put_back v w head n d ≡ world.Goes y → (v ≡ j → ⊥) → slice_get y.vats j ≡ slice_get w.vats j
  unfolding put_back
  put_apart v j w head n (Gives a r) y e apart =
      let i : world.put_at v r w.vats ≡ y.vats = ap vats_of e in
      ap (λ vs. slice_get vs j) (sym i) ∙ put_beside w.vats v j r apart
    where
      vats_of : Run → List (Vat Name)
      vats_of (world.Goes z) = z.vats
      vats_of (world.Stopped c k z) = z.vats
  put_apart v j w head n (Stops c r) y e apart = cc
  put_apart v j w head n (Throws p r) y e apart = cc
  put_apart v j w head n (Ejects m x r) y e apart = cc

  open_apart : (v j : ℕ) (p : Program) (w y : World) (o : Option (Vat Name)) → within v w (Opens v ∷ []) v (opening (world.names play.script v) p.tree play.script.depth (Name.Root v) (world.given play.script.vats p.knows)) o ≡ world.Goes y → (v ≡ j → ⊥) → slice_get y.vats j ≡ slice_get w.vats j
  unfolding within
  open_apart v j p w y None e apart = cc
  open_apart v j p w y (Some s) e apart = put_apart v j w (Opens v ∷ []) v (opening (world.names play.script v) p.tree play.script.depth (Name.Root v) (world.given play.script.vats p.knows) (readied w s)) y e apart

  acted_apart : (n j : ℕ) (s t : Scene) (r : Run) → names.acted n s [] r ≡ Plays t → ((y : World) → r ≡ world.Goes y → slice_get y.vats j ≡ slice_get s.world.vats j) → slice_get t.world.vats j ≡ slice_get s.world.vats j
  unfolding names.acted
  acted_apart n j s t (world.Goes y) e h = let i : y.vats ≡ t.world.vats = ap vats_of e in ap (λ vs. slice_get vs j) (sym i) ∙ h y refl
    where
      vats_of : Acted → List (Vat Name)
      vats_of (Plays z) = z.world.vats
      vats_of (Breaks c k z) = z.world.vats
  acted_apart n j s t (world.Stopped c k y) e h = cc

  opens_apart : (b : Bool) (v j : ℕ) (p : Program) (s t : Scene) → names.opens play b v p s ≡ Plays t → (v ≡ j → ⊥) → slice_get t.world.vats j ≡ slice_get s.world.vats j
  unfolding names.opens world.open_vat
  opens_apart true v j p s t e apart = let i : s ≡ t = cc in ap (λ (z : Scene). slice_get z.world.vats j) (sym i)
  opens_apart false v j p s t e apart = acted_apart (names.honest_before play v) j s t (within v s.world (Opens v ∷ []) v (opening (world.names play.script v) p.tree play.script.depth (Name.Root v) (world.given play.script.vats p.knows)) (slice_get s.world.vats v)) e
      (λ y i. open_apart v j p s.world y (slice_get s.world.vats v) i apart)

  later_same : (v : ℕ) (ps : List Program) (s t : Scene) (j : ℕ) → names.opens_from play v ps s ≡ Plays t → v + length ps ≤ j → slice_get t.world.vats j ≡ slice_get s.world.vats j
  unfolding names.opens_from then_plays
  later_same v [] s t j e i = let k : s ≡ t = cc in ap (λ (z : Scene). slice_get z.world.vats j) (sym k)
  later_same v (p ∷ ps) s t j e i = by (names.opens play (is_hostile play v) v p s) refl e (λ z k. later_same (suc v) ps z t j k (omega arith))
    where
      apart : v ≡ j → ⊥
      apart k = absurd (omega arith)

      by : (a : Acted) → names.opens play (is_hostile play v) v p s ≡ a → then_plays a (names.opens_from play (suc v) ps) ≡ Plays t → ((z : Scene) → names.opens_from play (suc v) ps z ≡ Plays t → slice_get t.world.vats j ≡ slice_get z.world.vats j) → slice_get t.world.vats j ≡ slice_get s.world.vats j
      by (Plays z) k l f = f z l ∙ opens_apart (is_hostile play v) v j p s z k apart
      by (Breaks c n z) k l f = cc

  still_fresh : (ps rest : List Program) (p : Program) (s : Scene) → play.script.vats ≡ ps ++ p ∷ rest → names.opens_from play zero ps (names.starts play) ≡ Plays s → slice_get s.world.vats (length ps) ≡ Some (fresh play.script (length ps) p)
  unfolding names.starts
  still_fresh ps rest p s split opened = later_same zero ps (names.starts play) s (length ps) opened (omega arith) ∙ begins_at play.script ps rest p split

  -- ---- the play

  module _ (each : EachDoingMirrors play) where
    opening_by : (ps rest : List Program) (p : Program) (s : Scene) (c : Cast) → play.script.vats ≡ ps ++ p ∷ rest → names.opens_from play zero ps (names.starts play) ≡ Plays s → SceneMirrors play s c → (b : Bool) → is_hostile play (length ps) ≡ b
        → ActsMirror play (names.opens play b (length ps) p s) (numbers.opens play b (length ps) p c)
    unfolding names.opens numbers.opens
    opening_by ps rest p s c split opened h true e = h
    opening_by ps rest p s c split opened h false e = each.openings ps rest p s c split opened e (still_fresh ps rest p s split opened) h

    openings_so : (ps rest : List Program) (v : ℕ) (s : Scene) (c : Cast) → v ≡ length ps → play.script.vats ≡ ps ++ rest → names.opens_from play zero ps (names.starts play) ≡ Plays s → SceneMirrors play s c → ActsMirror play (names.opens_from play v rest s) (numbers.opens_from play v rest c)
    unfolding names.opens_from numbers.opens_from then_plays
    openings_so ps [] v s c l e opened h = h
    openings_so ps (p ∷ rest) v s c l e opened h =
        goes_on play (names.opens play (is_hostile play v) v p s) (numbers.opens play (is_hostile play v) v p c) (names.opens_from play (suc v) rest) (numbers.opens_from play (suc v) rest)
        (subst (λ n. ActsMirror play (names.opens play (is_hostile play n) n p s) (numbers.opens play (is_hostile play n) n p c)) (sym l) (opening_by ps rest p s c e opened h (is_hostile play (length ps)) refl))
        (λ t d i j k. openings_so (ps ++ p ∷ []) rest (suc v) t d (ap suc l ∙ sym (length_end ps p)) (e ∙ sym (append_assoc ps (p ∷ []) rest))
        (opened_one zero ps p (names.starts play) s opened ∙ ap (λ n. then_plays (names.opens play (is_hostile play n) n p s) (λ z. Plays z)) (from_zero ps l) ∙ ap (λ r. then_plays r (λ z. Plays z)) i) k)
      where
        from_zero : (qs : List Program) → v ≡ length qs → zero + length qs ≡ v
        from_zero qs m = omega arith

    doings_so : (opened : Scene) → names.opens_from play zero play.script.vats (names.starts play) ≡ Plays opened → (ds rest : List Doing) (k : ℕ) (s : Scene) (c : Cast) → k ≡ 1 + length ds → play.doings ≡ ds ++ rest → names.does_all play ds 1 opened ≡ Plays s → SceneMirrors play s c
        → ActsMirror play (names.does_all play rest k s) (numbers.does_all play rest k c)
    unfolding names.does_all numbers.does_all then_plays
    doings_so opened o ds [] k s c l e done h = h
    doings_so opened o ds (d ∷ rest) k s c l e done h =
        goes_on play (names.does play d k s) (numbers.does play d k c) (names.does_all play rest (suc k)) (numbers.does_all play rest (suc k))
        (subst (λ n. ActsMirror play (names.does play d n s) (numbers.does play d n c)) (sym l) (each.doings opened s c ds rest d e o done h))
        (λ t z i j m. doings_so opened o (ds ++ d ∷ []) rest (suc k) t z (more ds (length_end ds d) l) (e ∙ sym (append_assoc ds (d ∷ []) rest))
        (done_one ds d 1 opened s done ∙ ap (λ n. then_plays (names.does play d n s) (λ y. Plays y)) (sym l) ∙ ap (λ r. then_plays r (λ y. Plays y)) i) m)
      where
        more : (fs : List Doing) → length (fs ++ d ∷ []) ≡ suc (length fs) → k ≡ 1 + length fs → suc k ≡ 1 + length (fs ++ d ∷ [])
        more fs a b = omega arith

    play_mirrors : ActsMirror play (names.acts play) (numbers.performs play)
    unfolding names.acts numbers.performs names.opens_from names.does_all
    play_mirrors =
        goes_on play (names.opens_from play zero play.script.vats (names.starts play)) (numbers.opens_from play zero play.script.vats (numbers.starts play)) (λ s. then_plays (names.does_all play play.doings 1 s) (names.closes play)) (λ c. then_performs (numbers.does_all play play.doings 1 c) (numbers.closes play))
        (openings_so [] play.script.vats zero (names.starts play) (numbers.starts play) refl refl refl (starts_mirror play))
        (λ s c i j h. goes_on play (names.does_all play play.doings 1 s) (numbers.does_all play play.doings 1 c) (names.closes play) (numbers.closes play)
        (doings_so s i [] play.doings 1 s c (omega arith) refl refl h) (λ t d a b k. closings_mirror play t d k))

pub plays_mirror : PlaysMirror
plays_mirror play each = play_mirrors play each
