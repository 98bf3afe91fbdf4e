-- A run begins with no message, and its closing list names each place.
use Rattle.std.proofs.Common.{◌≡◌, ℕ, zero, suc, ◌+◌, ◌≤◌, Bool, true, false, List, [], ◌∷◌, ◌++◌, refl, arith, map}
use Rattle.std.specs.Prelude.{◌==◌}
use Rattle.std.proofs.lemmas.Bool.{eq-eqb}
use Rattle.def_machine.specs.Values.{Name}
use Rattle.def_machine.specs.State.{Message, Known, Note, Vat, begun}
use Rattle.def_run.specs.World as world
use Rattle.def_run.specs.World.{Script, Program, Event, LeftQueue, LeftHeld, LeftWait, LeftLink, Ends, Link, World, Run, Goes, Stopped, begins}
use Rattle.law_fate.specs.Fates.Fate.{one, total, among, at_names, at_vat, of_note, on_link, places, sent_by, sent, took_by, takes, lost_by, losses, left_by, leavings, fates}
use Rattle.law_fate.specs.Fates.FateRuns.{Reached, EachSentOnce, EachTakenOnce, PlacesAndFates, OneFateAtMost}
use Rattle.law_fate.proofs.Fates.RunCounts.{pick, total_append, numbered_once, AllApart}
use Rattle.law_fate.proofs.Fates.RunAccount.{Fated, steps_fated, opens_fated}

-- ---- the start

roots_hold_none : (x : Name) (ws : List ℕ) → at_names x (map world.known_root ws) ≡ 0
unfolding at_names among world.known_root begun
roots_hold_none x [] = refl
roots_hold_none x (w ∷ ws) = let rest = roots_hold_none x ws in omega arith

fresh_none : (x : Name) (script : Script) (v : ℕ) (ps : List Program) → total (at_vat x) (world.fresh_from script v ps) ≡ 0
unfolding total at_vat world.fresh_from world.fresh among at_names world.known_root begun
fresh_none x script v [] = refl
fresh_none x script v (p ∷ ps) = let roots = roots_hold_none x p.knows in let rest = fresh_none x script (suc v) ps in omega arith

unequal : (v w : ℕ) → (v == w) ≡ false → v ≡ w → ⊥
unequal v w e h = let i = eq-eqb v w h in cc

link_to : (v w : ℕ) (p : Program) → Link
link_to v w p = record { from = v; to = w; cut = false; notes = []; roots = world.roots_for v p; log = [] }

link_well : (x : Name) (v w : ℕ) (p : Program) (ls : List Link) (b : Bool) → (v == w) ≡ b → AllApart ls × (total (on_link x) ls ≡ 0)
    → AllApart (pick b ls (link_to v w p ∷ ls)) × (total (on_link x) (pick b ls (link_to v w p ∷ ls)) ≡ 0)
unfolding total on_link link_to
link_well x v w p ls true e h = h
link_well x v w p ls false e h = let none = h.1 in ((unequal v w e, h.0), omega arith)

links_to_well : (x : Name) (v w : ℕ) (ps : List Program) → AllApart (world.links_to v w ps) × (total (on_link x) (world.links_to v w ps) ≡ 0)
unfolding world.links_to total link_to
links_to_well x v w [] = (tt, refl)
links_to_well x v w (p ∷ ps) = link_well x v w p (world.links_to v (suc w) ps) (v == w) refl (links_to_well x v (suc w) ps)

apart_append : (ls ms : List Link) → AllApart ls → AllApart ms → AllApart (ls ++ ms)
apart_append [] ms h k = k
apart_append (l ∷ ls) ms h k = (h.0, apart_append ls ms h.1 k)

links_from_well : (x : Name) (all : List Program) (v : ℕ) (ps : List Program) → AllApart (world.links_from all v ps) × (total (on_link x) (world.links_from all v ps) ≡ 0)
unfolding world.links_from total
links_from_well x all v [] = (tt, refl)
links_from_well x all v (p ∷ ps) = let here = links_to_well x v zero all in let rest = links_from_well x all (suc v) ps in
    let a = total_append (on_link x) (world.links_to v zero all) (world.links_from all (suc v) ps) in let b = here.1 in let c = rest.1 in (apart_append (world.links_to v zero all) (world.links_from all (suc v) ps) here.0 rest.0, omega arith)

pub begins_fated : (x : Name) (script : Script) → Fated x (begins script)
unfolding begins places sent takes losses leavings total
begins_fated x script = let none = fresh_none x script zero script.vats in let links = links_from_well x script.vats zero script.vats in let a = links.1 in
    record { kept = omega arith; unlisted = refl; fresh = omega arith; apart = links.0 }

-- ---- the closing list

module _ (x : Name) where
  queue_listed : (g : Message Name → Event) → ((m : Message Name) → left_by x (g m) ≡ one m.id x) → (ms : List (Message Name)) → total (left_by x) (map g ms) ≡ among x ms
  unfolding total among
  queue_listed g h [] = refl
  queue_listed g h (m ∷ ms) = let here = h m in let rest = queue_listed g h ms in omega arith

  module _ (script : Script) where
    held_listed : (v : ℕ) (ks : List (Known Name)) → total (left_by x) (world.left_held script v ks) + total (left_by x) (world.left_wait script v ks) ≡ at_names x ks
    unfolding total at_names world.left_held world.left_wait left_by
    held_listed v [] = refl
    held_listed v (k ∷ ks) =
        let a = queue_listed (λ m. LeftHeld v k.name m.id) (λ m. refl) k.held in let b = queue_listed (λ m. LeftWait v k.name m.id) (λ m. refl) k.reactions in
        let c = total_append (left_by x) (map (λ (m : Message Name). LeftHeld v k.name m.id) k.held) (world.left_held script v ks) in
        let d = total_append (left_by x) (map (λ (m : Message Name). LeftWait v k.name m.id) k.reactions) (world.left_wait script v ks) in let rest = held_listed v ks in omega arith

    vat_listed : (s : Vat Name) → total (left_by x) (world.left_vat script s) ≡ at_vat x s
    unfolding at_vat world.left_vat left_by
    vat_listed s = let n = s.number in let a = queue_listed (λ m. LeftQueue s.number m.id) (λ m. refl) s.queue in let b = held_listed s.number s.known in
        let q : List Event = map (λ (m : Message Name). LeftQueue s.number m.id) s.queue in
        let c = total_append (left_by x) (q ++ world.left_held script s.number s.known) (world.left_wait script s.number s.known) in let d = total_append (left_by x) q (world.left_held script s.number s.known) in omega arith

    pub vats_listed : (ss : List (Vat Name)) → total (left_by x) (world.left_vats script ss) ≡ total (at_vat x) ss
    unfolding total world.left_vats
    vats_listed [] = refl
    vats_listed (s ∷ ss) = let a = total_append (left_by x) (world.left_vat script s) (world.left_vats script ss) in let b = vat_listed s in let rest = vats_listed ss in omega arith

    notes_listed : (v w : ℕ) (ns : List (Note Name)) → total (left_by x) (map (λ n. LeftLink v w n) ns) ≡ total (of_note x) ns
    unfolding total left_by
    notes_listed v w [] = refl
    notes_listed v w (n ∷ ns) = let rest = notes_listed v w ns in omega arith

    pub links_listed : (ls : List Link) → total (left_by x) (world.left_links script ls) ≡ total (on_link x) ls
    unfolding total world.left_links on_link
    links_listed [] = refl
    links_listed (l ∷ ls) = let a = total_append (left_by x) (map (λ n. LeftLink l.from l.to n) l.notes) (world.left_links script ls) in let b = notes_listed l.from l.to l.notes in let rest = links_listed ls in omega arith

    -- ---- lines of the closing list tell of nothing else

    module _ (f : Event → ℕ) (queue : (v : ℕ) (m : Name) → f (LeftQueue v m) ≡ 0) (held : (v : ℕ) (n m : Name) → f (LeftHeld v n m) ≡ 0) (wait : (v : ℕ) (n m : Name) → f (LeftWait v n m) ≡ 0)
        (link : (v w : ℕ) (n : Note Name) → f (LeftLink v w n) ≡ 0) where
      none_of : {A : Type 0} (g : A → Event) → ((a : A) → f (g a) ≡ 0) → (xs : List A) → total f (map g xs) ≡ 0
      unfolding total
      none_of g h [] = refl
      none_of g h (a ∷ xs) = let here = h a in let rest = none_of g h xs in omega arith

      none_held : (v : ℕ) (ks : List (Known Name)) → total f (world.left_held script v ks) ≡ 0
      unfolding total world.left_held
      none_held v [] = refl
      none_held v (k ∷ ks) = let a = none_of (λ (m : Message Name). LeftHeld v k.name m.id) (λ m. held v k.name m.id) k.held in
          let b = total_append f (map (λ (m : Message Name). LeftHeld v k.name m.id) k.held) (world.left_held script v ks) in let rest = none_held v ks in omega arith

      none_wait : (v : ℕ) (ks : List (Known Name)) → total f (world.left_wait script v ks) ≡ 0
      unfolding total world.left_wait
      none_wait v [] = refl
      none_wait v (k ∷ ks) = let a = none_of (λ (m : Message Name). LeftWait v k.name m.id) (λ m. wait v k.name m.id) k.reactions in
          let b = total_append f (map (λ (m : Message Name). LeftWait v k.name m.id) k.reactions) (world.left_wait script v ks) in let rest = none_wait v ks in omega arith

      none_vat : (s : Vat Name) → total f (world.left_vat script s) ≡ 0
      unfolding world.left_vat
      none_vat s = let q : List Event = map (λ (m : Message Name). LeftQueue s.number m.id) s.queue in let a = none_of (λ (m : Message Name). LeftQueue s.number m.id) (λ m. queue s.number m.id) s.queue in
          let b = total_append f (q ++ world.left_held script s.number s.known) (world.left_wait script s.number s.known) in let c = total_append f q (world.left_held script s.number s.known) in
          let d = none_held s.number s.known in let e = none_wait s.number s.known in omega arith

      pub none_vats : (ss : List (Vat Name)) → total f (world.left_vats script ss) ≡ 0
      unfolding total world.left_vats
      none_vats [] = refl
      none_vats (s ∷ ss) = let a = total_append f (world.left_vat script s) (world.left_vats script ss) in let b = none_vat s in let rest = none_vats ss in omega arith

      pub none_links : (ls : List Link) → total f (world.left_links script ls) ≡ 0
      unfolding total world.left_links
      none_links [] = refl
      none_links (l ∷ ls) = let a = total_append f (map (λ n. LeftLink l.from l.to n) l.notes) (world.left_links script ls) in let b = none_of (λ n. LeftLink l.from l.to n) (λ n. link l.from l.to n) l.notes in let rest = none_links ls in omega arith

    -- the closing list in a sum over the whole history
    pub closing : (f : Event → ℕ) → f Ends ≡ 0 → (w : World) → total f (((w.history ++ world.left_vats script w.vats) ++ world.left_links script w.links) ++ Ends ∷ [])
        ≡ total f w.history + total f (world.left_vats script w.vats) + total f (world.left_links script w.links)
    unfolding total
    closing f z w = let h : List Event = w.history ++ world.left_vats script w.vats in
        let a = total_append f (h ++ world.left_links script w.links) (Ends ∷ []) in let b = total_append f h (world.left_links script w.links) in let c = total_append f w.history (world.left_vats script w.vats) in omega arith

    -- fates are no more than sends, and of these there is one at most
    abbrev pub Ended : World → Type 0
    Ended w = (fates x w.history ≤ sent x w.history) × (sent x w.history ≤ 1)

    fated_ends : (w : World) → Fated x w → Ended w
    unfolding places fates
    fated_ends w h = let k = h.kept in let u = h.unlisted in let f = h.fresh in let one = numbered_once x 0 w.vats in (omega arith, omega arith)

    pub close_ends : (w : World) → Fated x w → Reached Ended (world.close script w)
    unfolding world.close fates sent takes losses leavings places sent_by took_by lost_by left_by
    close_ends w h =
        let k = h.kept in let u = h.unlisted in let f = h.fresh in let most = numbered_once x 0 w.vats in
        let a = closing (sent_by x) refl w in let b = closing (took_by x) refl w in let c = closing (lost_by x) refl w in let d = closing (left_by x) refl w in
        let a1 = none_vats (sent_by x) (λ v m. refl) (λ v n m. refl) (λ v n m. refl) (λ v u n. refl) w.vats in let a2 = none_links (sent_by x) (λ v m. refl) (λ v n m. refl) (λ v n m. refl) (λ v u n. refl) w.links in
        let b1 = none_vats (took_by x) (λ v m. refl) (λ v n m. refl) (λ v n m. refl) (λ v u n. refl) w.vats in let b2 = none_links (took_by x) (λ v m. refl) (λ v n m. refl) (λ v n m. refl) (λ v u n. refl) w.links in
        let c1 = none_vats (lost_by x) (λ v m. refl) (λ v n m. refl) (λ v n m. refl) (λ v u n. refl) w.vats in let c2 = none_links (lost_by x) (λ v m. refl) (λ v n m. refl) (λ v n m. refl) (λ v u n. refl) w.links in
        let d1 = vats_listed w.vats in let d2 = links_listed w.links in (omega arith, omega arith)

    reached_then : (P Q : World → Type 0) → ((w : World) → P w → Q w) → (r : Run) (f : World → Run) → Reached P r → ((w : World) → P w → Reached Q (f w)) → Reached Q (world.then_goes r f)
    unfolding world.then_goes
    reached_then P Q i (Goes w) f h g = g w h
    reached_then P Q i (Stopped c k w) f h g = i w h

    pub run_ends : Reached Ended (world.run script)
    unfolding world.run
    run_ends = reached_then (Fated x) Ended fated_ends (world.open_from script zero script.vats (begins script)) _ (opens_fated x script zero script.vats (begins script) (begins_fated x script))
        (λ w h. reached_then (Fated x) Ended fated_ends (world.steps_from script script.schedule 1 w) (world.close script) (steps_fated x script script.schedule 1 w h) close_ends)

    pub reached_map : (P Q : World → Type 0) → ((w : World) → P w → Q w) → (r : Run) → Reached P r → Reached Q r
    reached_map P Q i (Goes w) h = i w h
    reached_map P Q i (Stopped c k w) h = i w h

    pub goes_fated : (r : Run) (w : World) → r ≡ Goes w → Reached (Fated x) r → Fated x w
    goes_fated (Goes y) w e h = let same : y ≡ w = cc in rw same at h
    goes_fated (Stopped c k y) w e h = cc

    fated_places : (w : World) → Fated x w → (places x w + fates x w.history ≤ sent x w.history) × (sent x w.history ≤ 1)
    unfolding fates
    fated_places w h = let k = h.kept in let u = h.unlisted in let f = h.fresh in let one = numbered_once x 0 w.vats in (omega arith, omega arith)

    ended_takes : (w : World) → Ended w → takes x w.history ≤ 1
    unfolding fates
    ended_takes w h = let a = h.0 in let b = h.1 in omega arith

pub one_fate_at_most : OneFateAtMost
one_fate_at_most x script = run_ends x script

pub each_sent_once : EachSentOnce
each_sent_once x script = reached_map x script (Ended x script) (λ w. sent x w.history ≤ 1) (λ w h. h.1) (world.run script) (run_ends x script)

pub each_taken_once : EachTakenOnce
each_taken_once x script = reached_map x script (Ended x script) (λ w. takes x w.history ≤ 1) (ended_takes x script) (world.run script) (run_ends x script)

pub places_and_fates : PlacesAndFates
places_and_fates x script = (
  λ ps. reached_map x script (Fated x) (λ w. (places x w + fates x w.history ≤ sent x w.history) × (sent x w.history ≤ 1)) (fated_places x script) (world.open_from script zero ps (begins script)) (opens_fated x script zero ps (begins script) (begins_fated x script)),
  λ w es k e. reached_map x script (Fated x) (λ y. (places x y + fates x y.history ≤ sent x y.history) × (sent x y.history ≤ 1)) (fated_places x script) (world.steps_from script es k w)
      (steps_fated x script es k w (goes_fated x script (world.open_from script zero script.vats (begins script)) w e (opens_fated x script zero script.vats (begins script) (begins_fated x script)))),
)
