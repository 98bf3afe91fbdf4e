-- What is done without hostile vats goes where the run goes.
use Rattle.std.proofs.Common.{◌≡◌, ℕ, zero, suc, ◌+◌, pred, Bool, true, false, List, [], ◌∷◌, ◌++◌, Option, Some, None, refl, sym, ap, subst, ◌∙◌, length, map, append_assoc, append-nil, inl, inr, drop}
use Rattle.std.specs.Prelude.{slice_get}
use Rattle.def_machine.specs.Values.{Name}
use Rattle.def_machine.specs.State.{Message, Note, Vat, Stop, Done, Gives, Stops, Act, is_in}
use Rattle.def_machine.specs.Arrive.{arrive}
use Rattle.def_machine.specs.Receive.{receive}
use Rattle.def_run.specs.Entered.{sight_by}
use Rattle.def_run.specs.Wire.{connected_at}
use Rattle.def_run.specs.World as world
use Rattle.def_run.specs.World.{Script, Program, Entry, Turn, Carry, CutLink, NoticeLink, Event, Idle, Carried, Link, World, Run, Goes as Going, Stopped, names, names_of, read_note, readied, next_frame, with_link, with_notes, link_at}
use Rattle.def_hostile.specs.Hostile as hostile
use Rattle.def_hostile.specs.Hostile.{Play, Does, Line, Told, Scene, Acted, Plays, Breaks, starts}
use Rattle.law_machine.specs.Halting.Halted.{LeavesOf}
use Rattle.law_instance.specs.Honest.{honest, scene_of, ComesTo, EndsIn, SameOutcome, NextAreReceived, StepsAlike}

-- ---- what a step makes of a run

-- from that world on, in the step of that number
abbrev pub GoesFrom : ℕ → World → Run → Type 0
GoesFrom n x (Going y) = (es : List Event) × (y.history ≡ x.history ++ es)
GoesFrom n x (Stopped c k y) = (k ≡ n) × LeavesOf x y

-- a step that stops told nothing, and drew nothing
pub stop_history : (y x : World) → LeavesOf x y → y.history ≡ x.history
stop_history y x (inl e) = ap (λ (z : World). z.history) e
stop_history y x (inr (v, u, l, n, ns, at, notes, e)) = ap (λ (z : World). z.history) e

pub stop_drawn : (y x : World) → LeavesOf x y → y.drawn ≡ x.drawn
stop_drawn y x (inl e) = ap (λ (z : World). z.drawn) e
stop_drawn y x (inr (v, u, l, n, ns, at, notes, e)) = ap (λ (z : World). z.drawn) e

map_append : (xs ys : List Event) → map Told (xs ++ ys) ≡ map Told xs ++ map Told ys
map_append [] ys = refl
map_append (x ∷ xs) ys = ap (λ zs. Told x ∷ zs) (map_append xs ys)

drop_front : (xs ys : List Event) → drop (length xs) (xs ++ ys) ≡ ys
drop_front [] ys = refl
drop_front (x ∷ xs) ys = drop_front xs ys

told_lines : (x y : World) (es : List Event) → y.history ≡ x.history ++ es → map Told x.history ++ [] ++ hostile.told_since x y ≡ map Told y.history
unfolding hostile.told_since
told_lines x y es e = ap (λ zs. zs ++ map Told (drop (length x.history) y.history)) (append-nil (map Told x.history)) ∙ ap (λ zs. map Told x.history ++ map Told (drop (length x.history) zs)) e ∙ ap (λ zs. map Told x.history ++ map Told zs) (drop_front x.history es) ∙ sym (map_append x.history es) ∙ ap (λ zs. map Told zs) (sym e)

going_is : (w x : World) → Going w ≡ Going x → w ≡ x
going_is w x e = cc

-- the closing list draws nothing
pub closed_drawn : (script : Script) (x y : World) → world.close script x ≡ Going y → y.drawn ≡ x.drawn
unfolding world.close
closed_drawn script x y e = sym (ap (λ (z : World). z.drawn) (going_is _ y e))

module _ (script : Script) where
  abbrev play : Play
  play = honest script

  acted_so : (n : ℕ) (x : World) (r : Run) → GoesFrom n x r → ComesTo script r (hostile.acted n (scene_of script x) [] r)
  unfolding hostile.acted
  acted_so n x (Going y) h = ap (λ ls. Plays (record (scene_of script x) { world = y; lines = ls })) (told_lines x y h.0 h.1)
  acted_so n x (Stopped c k y) h = (x, h.1, ap (λ j. Breaks c j (scene_of script x)) (sym h.0))

  -- ---- numbers of steps

  none_before : (v : ℕ) → hostile.honest_before play v ≡ v
  unfolding hostile.honest_before hostile.is_hostile is_in
  none_before zero = refl
  none_before (suc v) = ap suc (none_before v)

  same_number : (k : ℕ) → hostile.step_of play k ≡ world.step_number script k
  unfolding hostile.step_of world.step_number
  same_number k = ap (λ n. n + pred k) (none_before (length script.vats))

  nobody : (v : ℕ) → hostile.is_hostile play v ≡ false
  unfolding hostile.is_hostile is_in
  nobody v = refl

  -- ---- each step of the run goes from its world on

  idle_from : (n k : ℕ) (x : World) → GoesFrom n x (world.idle script k x)
  unfolding world.idle
  idle_from n k x = (Idle k ∷ [], refl)

  put_from : (v n : ℕ) (x y : World) (head : List Event) (d : Done Name (Unit {0})) → y.history ≡ x.history → LeavesOf x y → GoesFrom n x (world.put_back v y head n d)
  unfolding world.put_back
  put_from v n x y head (Gives a t) e f = (head ++ world.events_of y.links v t.happened, ap (λ es. es ++ head ++ world.events_of y.links v t.happened) e ∙ append_assoc x.history head (world.events_of y.links v t.happened))
  put_from v n x y head other e f = (refl, f)

  within_from : (v n : ℕ) (x y : World) (head : List Event) (m : Act Name (Unit {0})) (o : Option (Vat Name)) → y.history ≡ x.history → LeavesOf x y → GoesFrom n x (world.within v y head n m o)
  unfolding world.within
  within_from v n x y head m None e f = (refl, f)
  within_from v n x y head m (Some s) e f = put_from v n x y head (m (readied y s)) e f

  queue_from : (k v : ℕ) (x : World) (s : Vat Name) (ms : List (Message Name)) → GoesFrom (world.step_number script k) x (world.turn_queue script k v x s ms)
  unfolding world.turn_queue
  queue_from k v x s [] = idle_from (world.step_number script k) k x
  queue_from k v x s (m ∷ ms) = within_from v (world.step_number script k) x x _ _ (Some (record s { queue = ms })) refl (inl refl)

  turn_from : (k v : ℕ) (x : World) (o : Option (Vat Name)) → GoesFrom (world.step_number script k) x (world.turn script k v x o)
  unfolding world.turn
  turn_from k v x None = idle_from (world.step_number script k) k x
  turn_from k v x (Some s) = queue_from k v x s s.queue

  cut_from : (n k v u : ℕ) (x : World) → GoesFrom n x (world.cut script k v u x)
  unfolding world.cut
  cut_from n k v u x = (_, refl)

  notes_from : (k v u : ℕ) (x : World) (l : Link) → link_at v u x.links ≡ Some l → (ns : List (Note Name)) → l.notes ≡ ns → GoesFrom (world.step_number script k) x (world.carry_notes script k v u x ns)
  unfolding world.carry_notes world.arrives world.idle
  notes_from k v u x l at [] e = idle_from (world.step_number script k) k x
  notes_from k v u x l at (n ∷ ns) e = arrives_from (slice_get x.vats u)
    where
      arrives_from : (o : Option (Vat Name)) → GoesFrom (world.step_number script k) x (world.arrives script k v u (record x { links = with_link (with_notes ns) v u x.links }) n o)
      arrives_from None = (Idle k ∷ [], refl)
      arrives_from (Some s) = within_from u (world.step_number script k) x (record x { links = with_link (with_notes ns) v u x.links }) _ _ (Some s) refl (inr (v, u, l, n, ns, at, e, refl))

  uncut_from : (k v u : ℕ) (x : World) (l : Link) (b : Bool) → link_at v u x.links ≡ Some l → GoesFrom (world.step_number script k) x (elim b [ true ↦ world.idle script k x | false ↦ world.carry_notes script k v u x l.notes ])
  uncut_from k v u x l true at = idle_from (world.step_number script k) k x
  uncut_from k v u x l false at = notes_from k v u x l at l.notes refl

  link_from : (k v u : ℕ) (x : World) (o : Option Link) → link_at v u x.links ≡ o → GoesFrom (world.step_number script k) x (world.carry_link script k v u x o)
  unfolding world.carry_link
  link_from k v u x None at = idle_from (world.step_number script k) k x
  link_from k v u x (Some l) at = uncut_from k v u x l l.cut at

  pub step_from : (e : Entry) (k : ℕ) (x : World) → GoesFrom (world.step_number script k) x (world.step script e k x)
  unfolding world.step
  step_from (Turn v) k x = turn_from k v x (slice_get x.vats v)
  step_from (Carry v u) k x = link_from k v u x (link_at v u x.links) refl
  step_from (CutLink v u) k x = cut_from (world.step_number script k) k v u x
  step_from (NoticeLink v u) k x = within_from v (world.step_number script k) x x _ _ (slice_get x.vats v) refl (inl refl)

  pub open_from_here : (v : ℕ) (p : Program) (x : World) → GoesFrom v x (world.open_vat script v p x)
  unfolding world.open_vat
  open_from_here v p x = within_from v v x x _ _ (slice_get x.vats v) refl (inl refl)

  -- ---- a step of the run, by its number

  acted_step : (k : ℕ) (x : World) (r : Run) → GoesFrom (world.step_number script k) x r → ComesTo script r (hostile.acted (hostile.step_of play k) (scene_of script x) [] r)
  acted_step k x r h = subst (λ n. ComesTo script r (hostile.acted n (scene_of script x) [] r)) (sym (same_number k)) (acted_so (world.step_number script k) x r h)

  happens_so : (k : ℕ) (x : World) → ComesTo script (world.idle script k x) (hostile.happens (Idle k) (scene_of script x))
  unfolding hostile.happens world.idle
  happens_so k x = ap (λ ls. Plays (record (scene_of script x) { world = record x { history = x.history ++ Idle k ∷ [] }; lines = ls })) (sym (map_append x.history (Idle k ∷ [])))

  -- ---- a note comes

  module _ (x : World) (k v u : ℕ) (n : Note Name) (ns : List (Note Name)) (s : Vat Name) (left : LeavesOf x (record x { links = with_link (with_notes ns) v u x.links })) where
    -- the world in which the note left its link
    abbrev Left : World
    Left = record x { links = with_link (with_notes ns) v u x.links }

    abbrev Head : List Event
    Head = Carried k v u n (next_frame v u x.connections) ∷ []

    -- a step in the world without the note, told with the number of another step
    numbered : (j : ℕ) (d : Done Name (Unit {0})) → ComesTo script (world.put_back u Left Head j d) (hostile.acted j (scene_of script x) [] (hostile.then_places play v u n Left (world.put_back u Left Head zero d)))
    unfolding world.put_back hostile.then_places hostile.placed_imports hostile.is_empty hostile.acted
    numbered j (Gives a t) = acted_so j x (world.put_back u Left Head j (Gives a t)) (put_from u j x Left Head (Gives a t) refl left)
    numbered j other = (x, left, refl)

    both_stop : (j : ℕ) (c : Stop) (p q : Vat Name) → ComesTo script (world.put_back u Left Head j (Stops c q)) (hostile.acted j (scene_of script x) [] (hostile.then_places play v u n Left (world.put_back u Left Head zero (Stops c p))))
    unfolding world.put_back hostile.then_places hostile.acted
    both_stop j c p q = (x, left, refl)

    same_so : (j : ℕ) (d e : Done Name (Unit {0})) → SameOutcome d e → ComesTo script (world.put_back u Left Head j e) (hostile.acted j (scene_of script x) [] (hostile.then_places play v u n Left (world.put_back u Left Head zero d)))
    same_so j d e (inl f) = subst (λ z. ComesTo script (world.put_back u Left Head j e) (hostile.acted j (scene_of script x) [] (hostile.then_places play v u n Left (world.put_back u Left Head zero z)))) (sym f) (numbered j e)
    same_so j d e (inr f) = rw f.3 (rw f.4 (both_stop j f.0 f.1 f.2))

    abbrev Received : Type 0
    Received = SameOutcome (receive (names script u) (sight_by (names_of s) (connected_at u v x.connections).tables) v (read_note (names_of s) n) (readied x s)) (arrive (names script u) v (read_note (names_of s) n) (readied x s))

    received_so : Received → ComesTo script (world.arrives script k v u Left n (Some s)) (hostile.acted (hostile.step_of play k) (scene_of script x) [] (hostile.receives_at play k v u Left n (Some s)))
    unfolding hostile.receives_at hostile.receives hostile.entered_note hostile.is_empty world.arrives world.within readied
    received_so f = subst (λ j. ComesTo script (world.put_back u Left Head (world.step_number script k) (arrive (names script u) v (read_note (names_of s) n) (readied Left s))) (hostile.acted j (scene_of script x) [] (hostile.then_places play v u n Left (world.put_back u Left Head zero (receive (names script u) (sight_by (names_of s) (connected_at u v x.connections).tables) v (read_note (names_of s) n) (readied x s))))))
        (sym (same_number k)) (same_so (world.step_number script k) _ _ f)

  comes_so : (x : World) (k v u : ℕ) (n : Note Name) (ns : List (Note Name)) (s : Vat Name) (left : LeavesOf x (record x { links = with_link (with_notes ns) v u x.links })) (o : Option (Vat Name)) → o ≡ Some s → Received x k v u n ns s left
      → ComesTo script (world.arrives script k v u (Left x k v u n ns s left) n o) (hostile.acted (hostile.step_of play k) (scene_of script x) [] (hostile.receives_at play k v u (Left x k v u n ns s left) n o))
  comes_so x k v u n ns s left None e f = cc
  comes_so x k v u n ns s left (Some t) e f = let same : s ≡ t = cc in subst (λ r. ComesTo script (world.arrives script k v u (Left x k v u n ns s left) n (Some r)) (hostile.acted (hostile.step_of play k) (scene_of script x) [] (hostile.receives_at play k v u (Left x k v u n ns s left) n (Some r)))) same (received_so x k v u n ns s left f)

  notes_so : (x : World) → NextAreReceived script x → (k v u : ℕ) (l : Link) → link_at v u x.links ≡ Some l → l.cut ≡ false → (ns : List (Note Name)) → l.notes ≡ ns
      → ComesTo script (world.carry_notes script k v u x ns) (hostile.carry_notes play k v u (scene_of script x) ns)
  unfolding world.carry_notes hostile.carry_notes hostile.comes hostile.is_hostile is_in
  notes_so x h k v u l at uncut [] e = happens_so k x
  notes_so x h k v u l at uncut (n ∷ ns) e = let r = h v u l n ns at uncut e in comes_so x k v u n ns r.0 (inr (v, u, l, n, ns, at, e, refl)) (slice_get x.vats u) r.1 r.2

  uncut_so : (x : World) → NextAreReceived script x → (k v u : ℕ) (l : Link) → link_at v u x.links ≡ Some l → (b : Bool) → l.cut ≡ b
      → ComesTo script (elim b [ true ↦ world.idle script k x | false ↦ world.carry_notes script k v u x l.notes ]) (elim b [ true ↦ hostile.happens (Idle k) (scene_of script x) | false ↦ hostile.carry_notes play k v u (scene_of script x) l.notes ])
  uncut_so x h k v u l at true e = happens_so k x
  uncut_so x h k v u l at false e = notes_so x h k v u l at e l.notes refl

  link_so : (x : World) → NextAreReceived script x → (k v u : ℕ) (o : Option Link) → link_at v u x.links ≡ o → ComesTo script (world.carry_link script k v u x o) (hostile.carry_link play k v u (scene_of script x) o)
  unfolding world.carry_link hostile.carry_link
  link_so x h k v u None e = happens_so k x
  link_so x h k v u (Some l) e = uncut_so x h k v u l e l.cut refl

  -- ---- no frame is under way

  frame_or : (b : Bool) (l : Link) (rs qs : List hostile.Raw) → qs ≡ rs → elim b [ true ↦ record (hostile.raw_of play l) { frames = [] } ∷ rs | false ↦ hostile.raw_of play l ∷ qs ] ≡ hostile.raw_of play l ∷ rs
  unfolding hostile.raw_of
  frame_or true l rs qs e = refl
  frame_or false l rs qs e = cc

  none_lost : (v u : ℕ) (ls : List Link) → hostile.with_frames (λ fs. []) v u (map (hostile.raw_of play) ls) ≡ map (hostile.raw_of play) ls
  unfolding hostile.with_frames
  none_lost v u [] = refl
  none_lost v u (l ∷ ls) = frame_or (hostile.is_raw v u (hostile.raw_of play l)) l (map (hostile.raw_of play) ls) _ (none_lost v u ls)

  none_cut : (v u : ℕ) → hostile.raws_cut v u (starts play).raws ≡ (starts play).raws
  unfolding starts hostile.raws_cut
  none_cut v u = ap (λ rs. hostile.with_frames (λ fs. []) u v rs) (none_lost v u (world.begins script).links) ∙ none_lost u v (world.begins script).links

  none_or : (b : Bool) (fs gs : List (List ℕ)) → fs ≡ [] → gs ≡ [] → ◌≡◌ {A = List (List ℕ)} (elim b [ true ↦ fs | false ↦ gs ]) []
  none_or true fs gs e f = e
  none_or false fs gs e f = f

  none_found : (v u : ℕ) (ls : List Link) → hostile.frames_at v u (map (hostile.raw_of play) ls) ≡ []
  unfolding hostile.frames_at hostile.raw_of
  none_found v u [] = refl
  none_found v u (l ∷ ls) = none_or (hostile.is_raw v u (hostile.raw_of play l)) [] (hostile.frames_at v u (map (hostile.raw_of play) ls)) refl (none_found v u ls)

  -- ---- entries

  tries_so : (x : World) → NextAreReceived script x → (e : Entry) (k : ℕ) → ComesTo script (world.step script e k x) (hostile.tries play (Does e) k (scene_of script x))
  unfolding world.step hostile.tries hostile.does_turn hostile.does_carry hostile.does_notice hostile.is_hostile is_in
  tries_so x h (Turn v) k = acted_step k x _ (turn_from k v x (slice_get x.vats v))
  tries_so x h (Carry v u) k = link_so x h k v u (link_at v u x.links) refl
  tries_so x h (CutLink v u) k = subst (λ rs. ComesTo script (world.cut script k v u x) (hostile.acted (hostile.step_of play k) (record (scene_of script x) { raws = rs }) [] (world.cut script k v u x))) (sym (none_cut v u)) (acted_step k x _ (cut_from (world.step_number script k) k v u x))
  tries_so x h (NoticeLink v u) k = acted_step k x _ (within_from v (world.step_number script k) x x _ _ (slice_get x.vats v) refl (inl refl))

  -- where it stops, what is left is the scene before it
  before_so : (n : ℕ) (x : World) (r : Run) (a : Acted) → GoesFrom n x r → ComesTo script r a → ComesTo script r (hostile.or_leaves (scene_of script x) a)
  unfolding hostile.or_leaves
  before_so n x (Going y) a g h = ap (λ b. hostile.or_leaves (scene_of script x) b) h
  before_so n x (Stopped c k y) a g h = (x, g.1, ap (λ b. hostile.or_leaves (scene_of script x) b) h.2)

  pub does_so : (x : World) → NextAreReceived script x → StepsAlike script x
  unfolding hostile.does
  does_so x h e k = before_so (world.step_number script k) x (world.step script e k x) (hostile.tries play (Does e) k (scene_of script x)) (step_from e k x) (tries_so x h e k)

  -- ---- one after another

  then_so : (r : Run) (a : Acted) (f : World → Run) (g : Scene → Acted) → ComesTo script r a → ((y : World) → r ≡ Going y → ComesTo script (f y) (g (scene_of script y))) → ComesTo script (world.then_goes r f) (hostile.then_plays a g)
  unfolding world.then_goes hostile.then_plays
  then_so (Going y) a f g h k = rw h (k y refl)
  then_so (Stopped c n y) a f g h k = (h.0, h.1, ap (λ b. hostile.then_plays b g) h.2)

  pub does_all_so : (es : List Entry) (k : ℕ) (x : World) → ((fs rest : List Entry) (y : World) → es ≡ fs ++ rest → world.steps_from script fs k x ≡ Going y → NextAreReceived script y)
      → ComesTo script (world.steps_from script es k x) (hostile.does_all play (map Does es) k (scene_of script x))
  unfolding world.steps_from world.then_goes hostile.does_all
  does_all_so [] k x h = refl
  does_all_so (e ∷ es) k x h = then_so (world.step script e k x) (hostile.does play (Does e) k (scene_of script x)) (world.steps_from script es (suc k)) (hostile.does_all play (map Does es) (suc k)) (does_so x (h [] (e ∷ es) x refl refl) e k)
      (λ y i. does_all_so es (suc k) y (λ fs rest z split steps. h (e ∷ fs) rest z (ap (λ gs. e ∷ gs) split) (ap (λ r. world.then_goes r (world.steps_from script fs (suc k))) i ∙ steps)))

  -- ---- the opening turns

  opens_one : (v : ℕ) (p : Program) (x : World) → ComesTo script (world.open_vat script v p x) (hostile.opens play (hostile.is_hostile play v) v p (scene_of script x))
  unfolding hostile.opens hostile.is_hostile is_in world.open_vat
  opens_one v p x = let r : Run = world.open_vat script v p x in subst (λ n. ComesTo script r (hostile.acted n (scene_of script x) [] r)) (sym (none_before v)) (acted_so v x r (within_from v v x x _ _ (slice_get x.vats v) refl (inl refl)))

  pub opens_so : (v : ℕ) (ps : List Program) (x : World) → ComesTo script (world.open_from script v ps x) (hostile.opens_from play v ps (scene_of script x))
  unfolding world.open_from hostile.opens_from
  opens_so v [] x = refl
  opens_so v (p ∷ ps) x = then_so (world.open_vat script v p x) (hostile.opens play (hostile.is_hostile play v) v p (scene_of script x)) (world.open_from script (suc v) ps) (hostile.opens_from play (suc v) ps) (opens_one v p x) (λ y i. opens_so (suc v) ps y)

  pub start_so : scene_of script (world.begins script) ≡ starts play
  unfolding starts world.begins
  start_so = refl

  -- ---- the closing list

  map_twice : (v u : ℕ) (ns : List (Note Name)) → map (λ n. Told (world.LeftLink v u n)) ns ≡ map Told (map (λ n. world.LeftLink v u n) ns)
  map_twice v u [] = refl
  map_twice v u (n ∷ ns) = ap (λ ls. Told (world.LeftLink v u n) ∷ ls) (map_twice v u ns)

  left_so : (ls : List Link) → hostile.left_links play (starts play).raws ls ≡ map Told (world.left_links script ls)
  unfolding hostile.left_links world.left_links starts
  left_so [] = refl
  left_so (l ∷ ls) = ap (λ fs. map (λ n. Told (world.LeftLink l.from l.to n)) l.notes ++ map (hostile.LeftFrame l.from l.to) fs ++ hostile.left_links play (starts play).raws ls) (none_found l.from l.to (world.begins script).links)
      ∙ ap (λ zs. zs ++ hostile.left_links play (starts play).raws ls) (append-nil (map (λ n. Told (world.LeftLink l.from l.to n)) l.notes) ∙ map_twice l.from l.to l.notes)
      ∙ ap (λ zs. map Told (map (λ n. world.LeftLink l.from l.to n) l.notes) ++ zs) (left_so ls)
      ∙ sym (map_append (map (λ n. world.LeftLink l.from l.to n) l.notes) (world.left_links script ls))

  closing_lines : (h a b c : List Event) → map Told h ++ map Told a ++ map Told b ++ map Told c ≡ map Told (h ++ a ++ b ++ c)
  closing_lines h a b c = sym (map_append (h ++ a ++ b) c ∙ ap (λ zs. zs ++ map Told c) (map_append (h ++ a) b ∙ ap (λ zs. zs ++ map Told b) (map_append h a)))

  closes_so : (x : World) → EndsIn script (world.close script x) (hostile.closes play (scene_of script x))
  unfolding world.close hostile.closes
  closes_so x = (
    x,
    refl,
    ap (λ ls. Plays (record (scene_of script x) { lines = ls }))
        (ap (λ zs. map Told x.history ++ map Told (world.left_vats script x.vats) ++ zs ++ Told world.Ends ∷ []) (left_so x.links) ∙ closing_lines x.history (world.left_vats script x.vats) (world.left_links script x.links) (world.Ends ∷ [])),
  )

  ends_then : (r : Run) (a : Acted) (f : World → Run) (g : Scene → Acted) → ComesTo script r a → ((y : World) → r ≡ Going y → EndsIn script (f y) (g (scene_of script y))) → EndsIn script (world.then_goes r f) (hostile.then_plays a g)
  unfolding world.then_goes hostile.then_plays
  ends_then (Going y) a f g h k = rw h (k y refl)
  ends_then (Stopped c n y) a f g h k = (h.0, h.1, ap (λ b. hostile.then_plays b g) h.2)

  pub acts_so : ((w : World) → world.open_from script zero script.vats (world.begins script) ≡ Going w → (fs rest : List Entry) (y : World) → script.schedule ≡ fs ++ rest → world.steps_from script fs 1 w ≡ Going y → NextAreReceived script y)
      → EndsIn script (world.run script) (hostile.acts play)
  unfolding world.run hostile.acts
  acts_so h = ends_then (world.open_from script zero script.vats (world.begins script)) (hostile.opens_from play zero script.vats (starts play)) _ _
      (subst (λ s. ComesTo script (world.open_from script zero script.vats (world.begins script)) (hostile.opens_from play zero script.vats s)) start_so (opens_so zero script.vats (world.begins script)))
      (λ w e. ends_then (world.steps_from script script.schedule 1 w) (hostile.does_all play (map Does script.schedule) 1 (scene_of script w)) (world.close script) (hostile.closes play) (does_all_so script.schedule 1 w (h w e)) (λ y i. closes_so y))
