-- A run is in order whose steps are made of small steps.
use Rattle.std.proofs.Common.{◌≡◌, ℕ, zero, suc, ◌+◌, Bool, List, [], ◌∷◌, ◌++◌, length, refl, sym, ap, ◌∙◌, subst, ◌⊎◌, inl, inr, arith, append_assoc, map}
use Rattle.std.proofs.lemmas.List.{append-nil}
use Rattle.def_machine.specs.Values.{Name}
use Rattle.def_machine.specs.State.{Known, Message, Vat, Note}
use Rattle.def_run.specs.World as world
use Rattle.def_run.specs.World.{Script, Program, Entry, Event, LeftQueue, LeftHeld, LeftWait, LeftLink, Ends, Link, World, Run, Goes, Stopped}
use Rattle.law_machine.proofs.Halting.Halted.{stopped_leave}
use Rattle.law_machine.specs.Halting.Halted.{LeavesOf, OpeningStops, EntryStops}
use Rattle.law_order.specs.Ordering.Order.{Ordered}
use Rattle.law_order.specs.Ordering.Example.{history_of}
use Rattle.law_order.specs.History.Lines.{AllQuiet, counts, with_first}
use Rattle.law_order.specs.History.Befores.{TellsOrder}
use Rattle.law_order.specs.History.Tells.{Tale, over, then_on}
use Rattle.law_order.specs.History.Told.{IsOfRun, opened, entered, IsTold}
use Rattle.law_order.specs.History.Laws.{StepsAreTales, TalesAreOrdered}
use Rattle.law_order.proofs.History.Kept.{small_steps_keep}
use Rattle.law_order.proofs.History.Same.{same_step}
use Rattle.law_order.proofs.History.Begins.{begins_tell}
use Rattle.law_order.proofs.History.Told.{history_told, told_before}

-- the history goes on
tale_lines : (script : Script) (honest : ℕ → Bool) (x y : World) → Tale script honest x y → (more : List Event) × (y.history ≡ x.history ++ more)
tale_lines script honest x y over = ([], sym (append-nil x.history))
tale_lines script honest x y (then_on {y = z} s t) = let r = tale_lines script honest z y t in let new = with_first s.line s.quiet in (new ++ r.0, r.1 ∙ ap (λ es. es ++ r.0) s.lines ∙ append_assoc x.history new r.0)

pub tale_tells : (script : Script) (honest : ℕ → Bool) (x y : World) → Tale script honest x y → IsTold script y.history → TellsOrder script honest x → TellsOrder script honest y
tale_tells script honest x y over told h = h
tale_tells script honest x y (then_on {y = z} s t) told h = tale_tells script honest z y t told (small_steps_keep script honest x z so_far h s)
  where
    so_far : IsTold script x.history
    so_far = let new = with_first s.line s.quiet in let r = tale_lines script honest z y t in
        told_before script x.history (new ++ r.0) (subst (IsTold script) (r.1 ∙ ap (λ es. es ++ r.0) s.lines ∙ append_assoc x.history new r.0) told)

-- ---- steps that follow each other

then_join : (r : Run) (f : World → Run) (x y : World) → r ≡ Goes y → f y ≡ Goes x → world.then_goes r f ≡ Goes x
unfolding world.then_goes
then_join r f x y e h = subst (λ q. world.then_goes q f ≡ Goes x) (sym e) h

record Split (r : Run) (f : World → Run) (x : World) : Type 0 where
  pub middle : World
  pub first : r ≡ Goes middle
  pub second : f middle ≡ Goes x

then_split : (r : Run) (f : World → Run) (x : World) → world.then_goes r f ≡ Goes x → Split r f x
unfolding world.then_goes
then_split (Goes y) f x e = record { middle = y; first = refl; second = e }
then_split (Stopped c k y) f x e = absurd (cc)

goes_is : (x y : World) → Goes x ≡ Goes y → x ≡ y
goes_is x y e = cc

length_end : {A : Type 0} (xs : List A) (y : A) → length (xs ++ y ∷ []) ≡ suc (length xs)
length_end [] y = refl
length_end (x ∷ xs) y = ap suc (length_end xs y)

module _ (script : Script) where
  steps_end : (es : List Entry) (e : Entry) (k n : ℕ) (w x y : World) → n ≡ k + length es → world.steps_from script es k w ≡ Goes x → world.step script e n x ≡ Goes y → world.steps_from script (es ++ e ∷ []) k w ≡ Goes y
  unfolding world.steps_from
  steps_end [] e k n w x y i f g = then_join (world.step script e k w) (λ z. Goes z) y y (subst (λ z. world.step script e k z ≡ Goes y) (sym (goes_is w x f)) (subst (λ m. world.step script e m x ≡ Goes y) same g)) refl
    where
      same : n ≡ k
      same = omega arith
  steps_end (c ∷ es) e k n w x y i f g =
      let s = then_split (world.step script c k w) (world.steps_from script es (suc k)) x f in
      let j : n ≡ suc k + length es = omega arith in
      then_join (world.step script c k w) (world.steps_from script (es ++ e ∷ []) (suc k)) y s.middle s.first (steps_end es e (suc k) n s.middle x y j s.second g)

  opens_end : (ps : List Program) (p : Program) (v n : ℕ) (w x y : World) → n ≡ v + length ps → world.open_from script v ps w ≡ Goes x → world.open_vat script n p x ≡ Goes y → world.open_from script v (ps ++ p ∷ []) w ≡ Goes y
  unfolding world.open_from
  opens_end [] p v n w x y i f g = then_join (world.open_vat script v p w) (λ z. Goes z) y y (subst (λ z. world.open_vat script v p z ≡ Goes y) (sym (goes_is w x f)) (subst (λ m. world.open_vat script m p x ≡ Goes y) same g)) refl
    where
      same : n ≡ v
      same = omega arith
  opens_end (c ∷ ps) p v n w x y i f g =
      let s = then_split (world.open_vat script v c w) (world.open_from script (suc v) ps) x f in
      let j : n ≡ suc v + length ps = omega arith in
      then_join (world.open_vat script v c w) (world.open_from script (suc v) (ps ++ p ∷ [])) y s.middle s.first (opens_end ps p (suc v) n s.middle x y j s.second g)

  module _ (honest : ℕ → Bool) (tales : StepsAreTales script honest) where
    abbrev Tells : World → Type 0
    Tells w = TellsOrder script honest w

    opens_tell : (front ps rest : List Program) (w x : World) → script.vats ≡ front ++ (ps ++ rest) → world.open_from script zero front (world.begins script) ≡ Goes w → Tells w → world.open_from script (length front) ps w ≡ Goes x → Tells x
    unfolding world.open_from
    opens_tell front [] rest w x i o h e = subst Tells (goes_is w x e) h
    opens_tell front (p ∷ ps) rest w x i o h e =
        let s = then_split (world.open_vat script (length front) p w) (world.open_from script (suc (length front)) ps) x e in
        let split = i ∙ sym (append_assoc front (p ∷ []) (ps ++ rest)) in
        let so = opens_end front p zero (length front) (world.begins script) w s.middle (omega arith) o s.first in
        let t = tale_tells script honest w s.middle (tales.opening front (ps ++ rest) p w s.middle i o s.first) (history_told script s.middle (opened (front ++ p ∷ []) (ps ++ rest) split so)) h in
        opens_tell (front ++ p ∷ []) ps rest s.middle x split so t
        (subst (λ m. world.open_from script m ps s.middle ≡ Goes x) (sym (length_end front p)) s.second)

    opened_tells : (ps rest : List Program) (w : World) → script.vats ≡ ps ++ rest → world.open_from script zero ps (world.begins script) ≡ Goes w → Tells w
    unfolding world.open_from
    opened_tells ps rest w i e = opens_tell [] ps rest (world.begins script) w i refl (begins_tell script honest) e

    next : (done : List Entry) (c : Entry) → suc (1 + length done) ≡ 1 + length (done ++ c ∷ [])
    next done c = let e : length (done ++ c ∷ []) ≡ suc (length done) = length_end done c in omega arith

    steps_tell : (done es rest : List Entry) (w x y : World) → script.schedule ≡ done ++ (es ++ rest) → world.open_from script zero script.vats (world.begins script) ≡ Goes w → world.steps_from script done 1 w ≡ Goes x → Tells x
        → world.steps_from script es (1 + length done) x ≡ Goes y → Tells y
    unfolding world.steps_from
    steps_tell done [] rest w x y i o d h e = subst Tells (goes_is x y e) h
    steps_tell done (c ∷ es) rest w x y i o d h e =
        let s = then_split (world.step script c (1 + length done) x) (world.steps_from script es (suc (1 + length done))) y e in
        let j = steps_end done c 1 (1 + length done) w x s.middle refl d s.first in
        let split = i ∙ sym (append_assoc done (c ∷ []) (es ++ rest)) in
        let t = tale_tells script honest x s.middle (tales.entry done (es ++ rest) c w x s.middle i o d s.first j h) (history_told script s.middle (entered (done ++ c ∷ []) (es ++ rest) w split o j)) h in
        steps_tell (done ++ c ∷ []) es rest w s.middle y split o j t (subst (λ m. world.steps_from script es m s.middle ≡ Goes y) (next done c) s.second)

    entered_tells : (es rest : List Entry) (w x : World) → script.schedule ≡ es ++ rest → world.open_from script zero script.vats (world.begins script) ≡ Goes w → world.steps_from script es 1 w ≡ Goes x → Tells x
    unfolding world.steps_from
    entered_tells es rest w x i o e = steps_tell [] es rest w w x i o refl (opened_tells script.vats [] w (sym (append-nil script.vats)) o) e

    -- ---- the closing list

    quiet_append : (es fs : List Event) → AllQuiet es → AllQuiet fs → AllQuiet (es ++ fs)
    quiet_append [] fs h k = k
    quiet_append (e ∷ es) fs h k = (h.0, quiet_append es fs h.1 k)

    quiet_map : {A : Type 0} (f : A → Event) (xs : List A) → ((a : A) → counts (f a) ≡ Bool.false) → AllQuiet (map f xs)
    quiet_map f [] h = tt
    quiet_map f (a ∷ xs) h = (h a, quiet_map f xs h)

    held_quiet : (v : ℕ) (ks : List (Known Name)) → AllQuiet (world.left_held script v ks)
    unfolding world.left_held counts
    held_quiet v [] = tt
    held_quiet v (k ∷ ks) = quiet_append (map (λ m. LeftHeld v k.name m.id) k.held) (world.left_held script v ks) (quiet_map (λ (m : Message Name). LeftHeld v k.name m.id) k.held (λ m. refl)) (held_quiet v ks)

    wait_quiet : (v : ℕ) (ks : List (Known Name)) → AllQuiet (world.left_wait script v ks)
    unfolding world.left_wait counts
    wait_quiet v [] = tt
    wait_quiet v (k ∷ ks) = quiet_append (map (λ m. LeftWait v k.name m.id) k.reactions) (world.left_wait script v ks) (quiet_map (λ (m : Message Name). LeftWait v k.name m.id) k.reactions (λ m. refl)) (wait_quiet v ks)

    vats_quiet : (ss : List (Vat Name)) → AllQuiet (world.left_vats script ss)
    unfolding world.left_vats world.left_vat counts
    vats_quiet [] = tt
    vats_quiet (s ∷ ss) = quiet_append (world.left_vat script s) (world.left_vats script ss)
        (quiet_append (map (λ m. LeftQueue s.number m.id) s.queue ++ world.left_held script s.number s.known) (world.left_wait script s.number s.known)
        (quiet_append (map (λ m. LeftQueue s.number m.id) s.queue) (world.left_held script s.number s.known) (quiet_map (λ (m : Message Name). LeftQueue s.number m.id) s.queue (λ m. refl)) (held_quiet s.number s.known))
        (wait_quiet s.number s.known))
        (vats_quiet ss)

    links_quiet : (ls : List Link) → AllQuiet (world.left_links script ls)
    unfolding world.left_links counts
    links_quiet [] = tt
    links_quiet (l ∷ ls) = quiet_append (map (λ n. LeftLink l.from l.to n) l.notes) (world.left_links script ls) (quiet_map (λ (n : Note Name). LeftLink l.from l.to n) l.notes (λ n. refl)) (links_quiet ls)

    close_quiet : (w : World) → AllQuiet (world.left_vats script w.vats ++ (world.left_links script w.links ++ Ends ∷ []))
    unfolding counts
    close_quiet w = quiet_append (world.left_vats script w.vats) (world.left_links script w.links ++ Ends ∷ []) (vats_quiet w.vats) (quiet_append (world.left_links script w.links) (Ends ∷ []) (links_quiet w.links) (refl, tt))

    joined : (h a b c : List Event) → h ++ (a ++ (b ++ c)) ≡ ((h ++ a) ++ b) ++ c
    joined h a b c = simp append_assoc

    closed : (w : World) → IsOfRun script w → Tells w → Ordered (history_of (world.close script w))
    unfolding world.close history_of
    closed w of_run h = let es = world.left_vats script w.vats ++ (world.left_links script w.links ++ Ends ∷ []) in
        let t = small_steps_keep script honest w _ (history_told script w of_run) h (same_step script honest w w.fuel w.drawn w.connections es (close_quiet w)) in
        subst Ordered (joined w.history (world.left_vats script w.vats) (world.left_links script w.links) (Ends ∷ [])) t.ordered

    -- ---- the whole run

    leaves : (x w : World) → LeavesOf x w → Ordered x.history → Ordered w.history
    leaves x w (inl e) h = subst (λ (z : World). Ordered z.history) (sym e) h
    leaves x w (inr (v, u, l, n, ns, there, holds, e)) h = subst (λ (z : World). Ordered z.history) (sym e) h

    stopped : (x : World) (r : Run) → OpeningStops script x r ⊎ EntryStops script x r → Ordered x.history
    stopped x r (inl (ps, rest, p, i, o, s)) = (opened_tells ps (p ∷ rest) x i o).ordered
    stopped x r (inr (w, es, rest, e, i, o, d, s)) = (entered_tells es (e ∷ rest) w x i o d).ordered

    run_ordered : (r : Run) → world.run script ≡ r → Ordered (history_of r)
    unfolding world.run history_of
    run_ordered (Stopped c k w) e = let l = stopped_leave script c k w e in leaves l.0 w l.2 (stopped l.0 (Stopped c k w) l.1)
    run_ordered (Goes z) e =
        let s = then_split (world.open_from script zero script.vats (world.begins script)) (λ w. world.then_goes (world.steps_from script script.schedule 1 w) (world.close script)) z e in
        let t = then_split (world.steps_from script script.schedule 1 s.middle) (world.close script) z s.second in
        subst (λ r. Ordered (history_of r)) t.second (closed t.middle (entered script.schedule [] s.middle (sym (append-nil script.schedule)) s.first t.first) (entered_tells script.schedule [] s.middle t.middle (sym (append-nil script.schedule)) s.first t.first))

pub tales_are_ordered : TalesAreOrdered
tales_are_ordered = λ script honest tales. run_ordered script honest tales (world.run script) refl
