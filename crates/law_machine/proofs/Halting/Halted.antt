-- A step that stops leaves the world on which it worked; so a run that stops leaves the world before that step.
use Rattle.std.proofs.Common.{◌≡◌, ◌⊎◌, inl, inr, ◌+◌, ◌++◌, ℕ, zero, suc, Bool, true, false, List, [], ◌∷◌, Option, Some, None, length, refl, ap, subst, ◌∙◌, arith}
use Rattle.std.specs.Prelude.{slice_get}
use Rattle.def_machine.specs.Values.{Name}
use Rattle.def_machine.specs.State.{Message, Note, Vat, Stop, Done, Gives, Stops, Act}
use Rattle.def_run.specs.World as world
use Rattle.def_run.specs.World.{Script, Program, Entry, Turn, Carry, CutLink, NoticeLink, Event, Link, World, Run, Goes, Stopped, begins, with_link, with_notes}
use Rattle.law_machine.specs.Halting.Halted.{OpeningStops, EntryStops, LeavesOf, StoppedRunsLeave}

-- where it stops, it leaves such a world
abbrev StopsBy : (World → Type 0) → Run → Type 0
StopsBy P r = (c : Stop) (k : ℕ) (w : World) → r ≡ Stopped c k w → P w

abbrev IsThat : World → World → Type 0
IsThat x w = w ≡ x

-- ---- a step

goes_on : (P : World → Type 0) (y : World) → StopsBy P (Goes y)
goes_on P y c k w e = cc

stops_here : (x : World) (c : Stop) (k : ℕ) → StopsBy (IsThat x) (Stopped c k x)
stops_here x c k d j w e = cc

put_stops : (v : ℕ) (x : World) (head : List Event) (n : ℕ) (d : Done Name (Unit {0})) → StopsBy (IsThat x) (world.put_back v x head n d)
unfolding world.put_back
put_stops v x head n (Gives u s) = goes_on (IsThat x) _
put_stops v x head n (Stops c s) = stops_here x c n
put_stops v x head n other = stops_here x _ n

within_stops : (v : ℕ) (x : World) (head : List Event) (n : ℕ) (m : Act Name (Unit {0})) (o : Option (Vat Name)) → StopsBy (IsThat x) (world.within v x head n m o)
unfolding world.within
within_stops v x head n m None = stops_here x _ n
within_stops v x head n m (Some s) = put_stops v x head n (m (world.readied x s))

same_leaves : (x : World) (r : Run) → StopsBy (IsThat x) r → StopsBy (LeavesOf x) r
same_leaves x r h c k w e = inl (h c k w e)

module _ (script : Script) where
  turn_stops : (k v : ℕ) (x : World) (s : Vat Name) (ms : List (Message Name)) → StopsBy (IsThat x) (world.turn_queue script k v x s ms)
  unfolding world.turn_queue world.idle
  turn_stops k v x s [] = goes_on (IsThat x) _
  turn_stops k v x s (m ∷ ms) = within_stops v x _ _ _ _

  queue_stops : (k v : ℕ) (x : World) (o : Option (Vat Name)) → StopsBy (IsThat x) (world.turn script k v x o)
  unfolding world.turn world.idle
  queue_stops k v x None = goes_on (IsThat x) _
  queue_stops k v x (Some s) = turn_stops k v x s s.queue

  arrives_stops : (k v u : ℕ) (x : World) (n : Note Name) (o : Option (Vat Name)) → StopsBy (IsThat x) (world.arrives script k v u x n o)
  unfolding world.arrives world.idle
  arrives_stops k v u x n None = goes_on (IsThat x) _
  arrives_stops k v u x n (Some s) = within_stops u x _ _ _ _

  -- the note is off its link by then
  notes_stop : (k v u : ℕ) (x : World) (l : Link) → world.link_at v u x.links ≡ Some l → (ns : List (Note Name)) → l.notes ≡ ns → StopsBy (LeavesOf x) (world.carry_notes script k v u x ns)
  unfolding world.carry_notes world.idle
  notes_stop k v u x l there [] holds = goes_on (LeavesOf x) _
  notes_stop k v u x l there (n ∷ ns) holds =
      λ c j w e. inr (v, u, l, n, ns, there, holds, arrives_stops k v u (record x { links = with_link (with_notes ns) v u x.links }) n (slice_get x.vats u) c j w e)

  uncut_stops : (k v u : ℕ) (x : World) (l : Link) → world.link_at v u x.links ≡ Some l → (b : Bool)
      → StopsBy (LeavesOf x) (elim b [ true ↦ world.idle script k x | false ↦ world.carry_notes script k v u x l.notes ])
  unfolding world.idle
  uncut_stops k v u x l there true = goes_on (LeavesOf x) _
  uncut_stops k v u x l there false = notes_stop k v u x l there l.notes refl

  carry_stops : (k v u : ℕ) (x : World) (o : Option Link) → world.link_at v u x.links ≡ o → StopsBy (LeavesOf x) (world.carry_link script k v u x o)
  unfolding world.carry_link world.idle
  carry_stops k v u x None there = goes_on (LeavesOf x) _
  carry_stops k v u x (Some l) there = uncut_stops k v u x l there l.cut

  step_stops : (e : Entry) (k : ℕ) (x : World) → StopsBy (LeavesOf x) (world.step script e k x)
  unfolding world.step world.cut
  step_stops (Turn v) k x = same_leaves x _ (queue_stops k v x (slice_get x.vats v))
  step_stops (Carry v u) k x = carry_stops k v u x (world.link_at v u x.links) refl
  step_stops (CutLink v u) k x = goes_on (LeavesOf x) _
  step_stops (NoticeLink v u) k x = same_leaves x _ (within_stops v x _ _ _ (slice_get x.vats v))

  opening_stops : (v : ℕ) (p : Program) (x : World) → StopsBy (LeavesOf x) (world.open_vat script v p x)
  unfolding world.open_vat
  opening_stops v p x = same_leaves x _ (within_stops v x _ _ _ (slice_get x.vats v))

  -- ---- runs

  goes_is : {x y : World} → Goes x ≡ Goes y → x ≡ y
  goes_is e = cc

  -- what stops stops first, or behind a world
  then_stops : (r : Run) (f : World → Run) (q : Run) (c : Stop) (k : ℕ) (w : World) → q ≡ Stopped c k w → world.then_goes r f ≡ q → (r ≡ q) ⊎ ((x : World) × (r ≡ Goes x) × (f x ≡ q))
  unfolding world.then_goes
  then_stops (Goes x) f q c k w i e = inr (x, refl, e)
  then_stops (Stopped d j y) f q c k w i e = inl e

  then_front : (r : Run) (f : World → Run) (x y : World) → r ≡ Goes x → f x ≡ Goes y → world.then_goes r f ≡ Goes y
  unfolding world.then_goes
  then_front r f x y e i = rw e i

  record OpensTo (v : ℕ) (ps : List Program) (x : World) (q : Run) : Type 0 where
    pub last : World
    pub front : List Program
    pub rest : List Program
    pub next : Program
    pub split : ps ≡ front ++ next ∷ rest
    pub goes : world.open_from script v front x ≡ Goes last
    pub stops : world.open_vat script (v + length front) next last ≡ q

  more_opened : (v : ℕ) (p : Program) (ps : List Program) (x y : World) (q : Run) → world.open_vat script v p x ≡ Goes y → OpensTo (suc v) ps y q → OpensTo v (p ∷ ps) x q
  unfolding world.open_from
  more_opened v p ps x y q e o = record {
    last = o.last;
    front = p ∷ o.front;
    rest = o.rest;
    next = o.next;
    split = ap (λ z. p ∷ z) o.split;
    goes = then_front (world.open_vat script v p x) (world.open_from script (suc v) o.front) y o.last e o.goes;
    stops = let n : suc v + length o.front ≡ v + suc (length o.front) = omega arith in subst (λ i. world.open_vat script i o.next o.last ≡ q) n o.stops;
  }

  opens_stop : (v : ℕ) (ps : List Program) (x : World) (q : Run) (c : Stop) (k : ℕ) (w : World) → q ≡ Stopped c k w → world.open_from script v ps x ≡ q → OpensTo v ps x q
  unfolding world.open_from
  opens_stop v [] x q c k w i e = let f : Goes x ≡ Stopped c k w = e ∙ i in cc
  opens_stop v (p ∷ ps) x q c k w i e = by (λ y s. opens_stop (suc v) ps y q c k w i s) (then_stops (world.open_vat script v p x) (world.open_from script (suc v) ps) q c k w i e)
    where
      by : ((y : World) → world.open_from script (suc v) ps y ≡ q → OpensTo (suc v) ps y q) → (world.open_vat script v p x ≡ q) ⊎ ((y : World) × (world.open_vat script v p x ≡ Goes y) × (world.open_from script (suc v) ps y ≡ q)) → OpensTo v (p ∷ ps) x q
      by h (inl s) = record { last = x; front = []; rest = ps; next = p; split = refl; goes = refl; stops = let n : v ≡ v + zero = omega arith in subst (λ j. world.open_vat script j p x ≡ q) n s }
      by h (inr (y, g, s)) = more_opened v p ps x y q g (h y s)

  record EntersTo (k : ℕ) (es : List Entry) (x : World) (q : Run) : Type 0 where
    pub last : World
    pub front : List Entry
    pub rest : List Entry
    pub next : Entry
    pub split : es ≡ front ++ next ∷ rest
    pub goes : world.steps_from script front k x ≡ Goes last
    pub stops : world.step script next (k + length front) last ≡ q

  more_entered : (k : ℕ) (a : Entry) (es : List Entry) (x y : World) (q : Run) → world.step script a k x ≡ Goes y → EntersTo (suc k) es y q → EntersTo k (a ∷ es) x q
  unfolding world.steps_from
  more_entered k a es x y q e o = record {
    last = o.last;
    front = a ∷ o.front;
    rest = o.rest;
    next = o.next;
    split = ap (λ z. a ∷ z) o.split;
    goes = then_front (world.step script a k x) (world.steps_from script o.front (suc k)) y o.last e o.goes;
    stops = let n : suc k + length o.front ≡ k + suc (length o.front) = omega arith in subst (λ i. world.step script o.next i o.last ≡ q) n o.stops;
  }

  steps_stop : (k : ℕ) (es : List Entry) (x : World) (q : Run) (c : Stop) (j : ℕ) (w : World) → q ≡ Stopped c j w → world.steps_from script es k x ≡ q → EntersTo k es x q
  unfolding world.steps_from
  steps_stop k [] x q c j w i e = let f : Goes x ≡ Stopped c j w = e ∙ i in cc
  steps_stop k (a ∷ es) x q c j w i e = by (λ y s. steps_stop (suc k) es y q c j w i s) (then_stops (world.step script a k x) (world.steps_from script es (suc k)) q c j w i e)
    where
      by : ((y : World) → world.steps_from script es (suc k) y ≡ q → EntersTo (suc k) es y q) → (world.step script a k x ≡ q) ⊎ ((y : World) × (world.step script a k x ≡ Goes y) × (world.steps_from script es (suc k) y ≡ q)) → EntersTo k (a ∷ es) x q
      by h (inl s) = record { last = x; front = []; rest = es; next = a; split = refl; goes = refl; stops = let n : k ≡ k + zero = omega arith in subst (λ i. world.step script a i x ≡ q) n s }
      by h (inr (y, g, s)) = more_entered k a es x y q g (h y s)

  -- ---- the whole

  opening_left : (c : Stop) (k : ℕ) (w : World) → OpensTo zero script.vats (begins script) (Stopped c k w) → (x : World) × (OpeningStops script x (Stopped c k w) ⊎ EntryStops script x (Stopped c k w)) × LeavesOf x w
  opening_left c k w o = let n : zero + length o.front ≡ length o.front = omega arith in
      let s : world.open_vat script (length o.front) o.next o.last ≡ Stopped c k w = subst (λ i. world.open_vat script i o.next o.last ≡ Stopped c k w) n o.stops in
      (o.last, inl (o.front, o.rest, o.next, o.split, o.goes, s), opening_stops (length o.front) o.next o.last c k w s)

  entry_left : (c : Stop) (k : ℕ) (w opened : World) → world.open_from script zero script.vats (begins script) ≡ Goes opened → EntersTo 1 script.schedule opened (Stopped c k w) → (x : World) × (OpeningStops script x (Stopped c k w) ⊎ EntryStops script x (Stopped c k w)) × LeavesOf x w
  entry_left c k w opened g o = (o.last, inr (opened, o.front, o.rest, o.next, o.split, g, o.goes, o.stops), step_stops o.next (1 + length o.front) o.last c k w o.stops)

  closes : (x : World) (c : Stop) (k : ℕ) (w : World) → world.close script x ≡ Stopped c k w → ⊥
  unfolding world.close
  closes x c k w e = cc

  run_left : (c : Stop) (k : ℕ) (w : World) → world.run script ≡ Stopped c k w → (x : World) × (OpeningStops script x (Stopped c k w) ⊎ EntryStops script x (Stopped c k w)) × LeavesOf x w
  unfolding world.run
  run_left c k w e = by (then_stops (world.open_from script zero script.vats (begins script)) (λ y. world.then_goes (world.steps_from script script.schedule 1 y) (world.close script)) (Stopped c k w) c k w refl e)
    where
      behind : (y : World) → world.open_from script zero script.vats (begins script) ≡ Goes y → (world.steps_from script script.schedule 1 y ≡ Stopped c k w) ⊎ ((z : World) × (world.steps_from script script.schedule 1 y ≡ Goes z) × (world.close script z ≡ Stopped c k w))
          → (x : World) × (OpeningStops script x (Stopped c k w) ⊎ EntryStops script x (Stopped c k w)) × LeavesOf x w
      behind y g (inl s) = entry_left c k w y g (steps_stop 1 script.schedule y (Stopped c k w) c k w refl s)
      behind y g (inr (z, h, s)) = absurd (closes z c k w s)

      by : (world.open_from script zero script.vats (begins script) ≡ Stopped c k w) ⊎ ((y : World) × (world.open_from script zero script.vats (begins script) ≡ Goes y) × (world.then_goes (world.steps_from script script.schedule 1 y) (world.close script) ≡ Stopped c k w))
          → (x : World) × (OpeningStops script x (Stopped c k w) ⊎ EntryStops script x (Stopped c k w)) × LeavesOf x w
      by (inl s) = opening_left c k w (opens_stop zero script.vats (begins script) (Stopped c k w) c k w refl s)
      by (inr (y, g, s)) = behind y g (then_stops (world.steps_from script script.schedule 1 y) (world.close script) (Stopped c k w) c k w refl s)

pub stopped_leave : StoppedRunsLeave
stopped_leave script c k w e = run_left script c k w e
