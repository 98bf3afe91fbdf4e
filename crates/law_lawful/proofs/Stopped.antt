-- A step that stops leaves the scene in which it began; so a run that stops leaves one to which it came.
use Rattle.std.proofs.Common.{◌≡◌, ◌⊎◌, inl, inr, ◌+◌, ◌++◌, ℕ, zero, suc, Bool, true, false, List, [], ◌∷◌, Option, Some, None, length, refl, sym, ap, subst, ◌∙◌, arith}
use Rattle.def_op.specs.Frames.{Operation}
use Rattle.def_machine.specs.Values.{Name}
use Rattle.def_machine.specs.State.{Note, Vat, Stop}
use Rattle.def_machine.specs.Arrive.{Incoming}
use Rattle.def_run.specs.Connections.{Heard}
use Rattle.def_run.specs.World.{Program, Turn, Carry, CutLink, NoticeLink, Event, Idle, Link, Run, Goes as Going, Stopped}
use Rattle.def_hostile.specs.Judge as judge
use Rattle.def_hostile.specs.Judge.{Verdict}
use Rattle.def_hostile.specs.Hostile as hostile
use Rattle.def_hostile.specs.Hostile.{Play, Scene, Acted, Plays, Breaks, Doing, Does, Injects, Line, starts}
use Rattle.def_hostile.specs.Plays.{ComesTo}
use Rattle.law_lawful.specs.Halted.{OpeningStops, DoingStops, StopsLeaveWhatWas, NextStepsStop}

-- where it stops, that is the number
abbrev Numbered : ℕ → Acted → Type 0
Numbered n a = (c : Stop) (k : ℕ) (s : Scene) → a ≡ Breaks c k s → k ≡ n

goes_on : (n : ℕ) (t : Scene) → Numbered n (Plays t)
goes_on n t c k s e = cc

stops_so : (n : ℕ) (d : Stop) (t : Scene) → Numbered n (Breaks d n t)
stops_so n d t c k s e = cc

left_there : (s : Scene) (a : Acted) (c : Stop) (k : ℕ) (t : Scene) → hostile.or_leaves s a ≡ Breaks c k t → t ≡ s
unfolding hostile.or_leaves
left_there s (Plays x) c k t e = cc
left_there s (Breaks d j x) c k t e = cc

left_numbered : (n : ℕ) (s : Scene) (a : Acted) → Numbered n a → Numbered n (hostile.or_leaves s a)
unfolding hostile.or_leaves
left_numbered n s (Plays x) h = goes_on n x
left_numbered n s (Breaks d j x) h = let e : j ≡ n = h d j x refl in λ c k t f. let g : k ≡ j = stops_so j d s c k t f in g ∙ e

acted_numbered : (n : ℕ) (s : Scene) (front : List Line) (r : Run) → Numbered n (hostile.acted n s front r)
unfolding hostile.acted
acted_numbered n s front (Going y) = goes_on n _
acted_numbered n s front (Stopped c k y) = stops_so n c s

acted_there : (n : ℕ) (s : Scene) (front : List Line) (r : Run) (c : Stop) (k : ℕ) (t : Scene) → hostile.acted n s front r ≡ Breaks c k t → t ≡ s
unfolding hostile.acted
acted_there n s front (Going y) c k t e = cc
acted_there n s front (Stopped d j y) c k t e = cc

happens_numbered : (n : ℕ) (e : Event) (s : Scene) → Numbered n (hostile.happens e s)
unfolding hostile.happens
happens_numbered n e s = goes_on n _

tells_numbered : (n : ℕ) (l : Line) (s : Scene) → Numbered n (hostile.tells l s)
unfolding hostile.tells
tells_numbered n l s = goes_on n _

module _ (play : Play) where
  -- ---- the number of a step

  notes_numbered : (k v u : ℕ) (s : Scene) (ns : List (Note Name)) → Numbered (hostile.step_of play k) (hostile.carry_notes play k v u s ns)
  unfolding hostile.carry_notes
  notes_numbered k v u s [] = happens_numbered _ _ s
  notes_numbered k v u s (n ∷ ns) = acted_numbered _ s [] _

  cut_numbered : (k v u : ℕ) (s : Scene) (l : Link) (b : Bool) → Numbered (hostile.step_of play k) (elim b [ true ↦ hostile.happens (Idle k) s | false ↦ hostile.carry_notes play k v u s l.notes ])
  cut_numbered k v u s l true = happens_numbered _ _ s
  cut_numbered k v u s l false = notes_numbered k v u s l.notes

  link_numbered : (k v u : ℕ) (s : Scene) (o : Option Link) → Numbered (hostile.step_of play k) (hostile.carry_link play k v u s o)
  unfolding hostile.carry_link
  link_numbered k v u s None = happens_numbered _ _ s
  link_numbered k v u s (Some l) = cut_numbered k v u s l l.cut

  severed_numbered : (k h u place : ℕ) (s : Scene) (halfway r : Run) → Numbered (hostile.step_of play k) (hostile.severed_by play k h u place s halfway r)
  unfolding hostile.severed_by
  severed_numbered k h u place s halfway (Going z) = goes_on _ _
  severed_numbered k h u place s halfway (Stopped c n z) = stops_so _ c s

  said_numbered : (k h u : ℕ) (s : Scene) (r : Run) → Numbered (hostile.step_of play k) (hostile.carries_said play k h u s r)
  unfolding hostile.carries_said
  said_numbered k h u s (Going y) = link_numbered k h u _ _
  said_numbered k h u s (Stopped c n y) = stops_so _ c s

  spoken_numbered : (k h u : ℕ) (op : Operation) (bytes : List ℕ) (kinds : List Bool) (new : List Name) (n : Note Name) (s : Scene) (r : Vat Name) (b : Bool) → Numbered (hostile.step_of play k) (hostile.spoken play k h u op bytes kinds new n s r b)
  unfolding hostile.spoken
  spoken_numbered k h u op bytes kinds new n s r true = happens_numbered _ _ s
  spoken_numbered k h u op bytes kinds new n s r false = said_numbered k h u _ _

  heard_numbered : (k h u : ℕ) (op : Operation) (bytes : List ℕ) (kinds : List Bool) (new : List Name) (s : Scene) (r t : Vat Name) (o : Option (Heard Name (Note (Incoming Name Name)))) → Numbered (hostile.step_of play k) (hostile.heard_note play k h u op bytes kinds new s r t o)
  unfolding hostile.heard_note
  heard_numbered k h u op bytes kinds new s r t None = stops_so _ _ s
  heard_numbered k h u op bytes kinds new s r t (Some x) = spoken_numbered k h u op bytes kinds new _ s r _

  lawful_numbered : (k h u : ℕ) (op : Operation) (bytes : List ℕ) (kinds : List Bool) (s : Scene) (a b : Option (Vat Name)) → Numbered (hostile.step_of play k) (hostile.lawful play k h u op bytes kinds s a b)
  unfolding hostile.lawful
  lawful_numbered k h u op bytes kinds s None b = stops_so _ _ s
  lawful_numbered k h u op bytes kinds s (Some r) None = stops_so _ _ s
  lawful_numbered k h u op bytes kinds s (Some r) (Some t) = heard_numbered k h u op bytes kinds _ s r t _

  judged_numbered : (k h u : ℕ) (bytes : List ℕ) (s : Scene) (x : Verdict) → Numbered (hostile.step_of play k) (hostile.judged_frame play k h u bytes s x)
  unfolding hostile.judged_frame hostile.malformed
  judged_numbered k h u bytes s (judge.Malformed place) = severed_numbered k h u place s _ _
  judged_numbered k h u bytes s (judge.Lawful op kinds) = lawful_numbered k h u op bytes kinds s _ _

  frame_numbered : (k h u : ℕ) (bytes : List ℕ) (s : Scene) (b : Bool) → Numbered (hostile.step_of play k) (hostile.frame_comes play b k h u bytes s)
  unfolding hostile.frame_comes
  frame_numbered k h u bytes s true = tells_numbered _ _ s
  frame_numbered k h u bytes s false = judged_numbered k h u bytes s _

  carry_numbered : (k v u : ℕ) (s : Scene) (fs : List (List ℕ)) → Numbered (hostile.step_of play k) (hostile.carry play k v u s fs)
  unfolding hostile.carry
  carry_numbered k v u s [] = link_numbered k v u s _
  carry_numbered k v u s (f ∷ fs) = frame_numbered k v u f _ _

  does_carry_numbered : (k v u : ℕ) (s : Scene) (b : Bool) → Numbered (hostile.step_of play k) (hostile.does_carry play b k v u s)
  unfolding hostile.does_carry
  does_carry_numbered k v u s true = carry_numbered k v u s _
  does_carry_numbered k v u s false = link_numbered k v u s _

  turn_numbered : (k v : ℕ) (s : Scene) (b : Bool) → Numbered (hostile.step_of play k) (hostile.does_turn play b k v s)
  unfolding hostile.does_turn
  turn_numbered k v s true = happens_numbered _ _ s
  turn_numbered k v s false = acted_numbered _ s [] _

  notice_numbered : (k v w : ℕ) (s : Scene) (b : Bool) → Numbered (hostile.step_of play k) (hostile.does_notice play b k v w s)
  unfolding hostile.does_notice
  notice_numbered k v w s true = happens_numbered _ _ s
  notice_numbered k v w s false = acted_numbered _ s [] _

  injects_numbered : (n k h u : ℕ) (bytes : List ℕ) (s : Scene) (b : Bool) → Numbered n (hostile.injects play b k h u bytes s)
  unfolding hostile.injects
  injects_numbered n k h u bytes s true = tells_numbered n _ s
  injects_numbered n k h u bytes s false = tells_numbered n _ _

  tries_numbered : (d : Doing) (k : ℕ) (s : Scene) → Numbered (hostile.step_of play k) (hostile.tries play d k s)
  unfolding hostile.tries
  tries_numbered (Does (Turn v)) k s = turn_numbered k v s _
  tries_numbered (Does (Carry v u)) k s = does_carry_numbered k v u s _
  tries_numbered (Does (CutLink v u)) k s = acted_numbered _ _ [] _
  tries_numbered (Does (NoticeLink v u)) k s = notice_numbered k v u s _
  tries_numbered (Injects h u bytes) k s = injects_numbered _ k h u bytes s _

  -- ---- a step

  does_numbered : (d : Doing) (k : ℕ) (s : Scene) → Numbered (hostile.step_of play k) (hostile.does play d k s)
  unfolding hostile.does
  does_numbered d k s = left_numbered _ s (hostile.tries play d k s) (tries_numbered d k s)

  does_there : (d : Doing) (j : ℕ) (s : Scene) (c : Stop) (k : ℕ) (t : Scene) → hostile.does play d j s ≡ Breaks c k t → t ≡ s
  unfolding hostile.does
  does_there d j s c k t e = left_there s (hostile.tries play d j s) c k t e

  opens_numbered : (v : ℕ) (p : Program) (s : Scene) (b : Bool) → Numbered (hostile.honest_before play v) (hostile.opens play b v p s)
  unfolding hostile.opens
  opens_numbered v p s true = goes_on _ s
  opens_numbered v p s false = acted_numbered _ s [] _

  opens_there : (v : ℕ) (p : Program) (s : Scene) (b : Bool) (c : Stop) (k : ℕ) (t : Scene) → hostile.opens play b v p s ≡ Breaks c k t → t ≡ s
  unfolding hostile.opens
  opens_there v p s true c k t e = cc
  opens_there v p s false c k t e = acted_there _ s [] _ c k t e

  -- ---- runs

  plays_is : (s t : Scene) (c : Stop) (k : ℕ) → Plays s ≡ Breaks c k t → ⊥
  plays_is s t c k e = cc

  -- what stops stops first, or behind a scene
  then_stops : (a : Acted) (f : Scene → Acted) (c : Stop) (k : ℕ) (t : Scene) → hostile.then_plays a f ≡ Breaks c k t → (a ≡ Breaks c k t) ⊎ ((x : Scene) × (a ≡ Plays x) × (f x ≡ Breaks c k t))
  unfolding hostile.then_plays
  then_stops (Plays x) f c k t e = inr (x, refl, e)
  then_stops (Breaks d j x) f c k t e = inl e

  then_front : (a : Acted) (f : Scene → Acted) (x y : Scene) → a ≡ Plays x → f x ≡ Plays y → hostile.then_plays a f ≡ Plays y
  unfolding hostile.then_plays
  then_front a f x y e i = rw e i

  record OpensTo (v : ℕ) (ps : List Program) (x : Scene) (c : Stop) (k : ℕ) (t : Scene) : Type 0 where
    pub front : List Program
    pub rest : List Program
    pub next : Program
    pub split : ps ≡ front ++ next ∷ rest
    pub goes : hostile.opens_from play v front x ≡ Plays t
    pub stops : hostile.opens play (hostile.is_hostile play (v + length front)) (v + length front) next t ≡ Breaks c k t

  more_opened : (v : ℕ) (p : Program) (ps : List Program) (x y : Scene) (c : Stop) (k : ℕ) (t : Scene) → hostile.opens play (hostile.is_hostile play v) v p x ≡ Plays y → OpensTo (suc v) ps y c k t → OpensTo v (p ∷ ps) x c k t
  unfolding hostile.opens_from
  more_opened v p ps x y c k t e o = record {
    front = p ∷ o.front;
    rest = o.rest;
    next = o.next;
    split = ap (λ z. p ∷ z) o.split;
    goes = then_front (hostile.opens play (hostile.is_hostile play v) v p x) (hostile.opens_from play (suc v) o.front) y t e o.goes;
    stops = let n : suc v + length o.front ≡ v + suc (length o.front) = omega arith in subst (λ i. hostile.opens play (hostile.is_hostile play i) i o.next t ≡ Breaks c k t) n o.stops;
  }

  -- it stops in this opening turn, and leaves the scene before it
  opened_here : (v : ℕ) (p : Program) (ps : List Program) (x : Scene) (c : Stop) (k : ℕ) (t : Scene) → hostile.opens play (hostile.is_hostile play v) v p x ≡ Breaks c k t → OpensTo v (p ∷ ps) x c k t
  unfolding hostile.opens_from
  opened_here v p ps x c k t e = let same : t ≡ x = opens_there v p x (hostile.is_hostile play v) c k t e in let n : v ≡ v + zero = omega arith in record {
    front = [];
    rest = ps;
    next = p;
    split = refl;
    goes = ap Plays (sym same);
    stops = subst (λ i. hostile.opens play (hostile.is_hostile play i) i p t ≡ Breaks c k t) n (subst (λ z. hostile.opens play (hostile.is_hostile play v) v p z ≡ Breaks c k t) (sym same) e);
  }

  opens_stop : (v : ℕ) (ps : List Program) (x : Scene) (c : Stop) (k : ℕ) (t : Scene) → hostile.opens_from play v ps x ≡ Breaks c k t → OpensTo v ps x c k t
  unfolding hostile.opens_from
  opens_stop v [] x c k t e = absurd (plays_is x t c k e)
  opens_stop v (p ∷ ps) x c k t e = by (λ y s. opens_stop (suc v) ps y c k t s) (then_stops (hostile.opens play (hostile.is_hostile play v) v p x) (hostile.opens_from play (suc v) ps) c k t e)
    where
      by : ((y : Scene) → hostile.opens_from play (suc v) ps y ≡ Breaks c k t → OpensTo (suc v) ps y c k t) → (hostile.opens play (hostile.is_hostile play v) v p x ≡ Breaks c k t) ⊎ ((y : Scene) × (hostile.opens play (hostile.is_hostile play v) v p x ≡ Plays y) × (hostile.opens_from play (suc v) ps y ≡ Breaks c k t)) → OpensTo v (p ∷ ps) x c k t
      by h (inl s) = opened_here v p ps x c k t s
      by h (inr (y, g, s)) = more_opened v p ps x y c k t g (h y s)

  record DoesTo (j : ℕ) (ds : List Doing) (x : Scene) (c : Stop) (k : ℕ) (t : Scene) : Type 0 where
    pub front : List Doing
    pub rest : List Doing
    pub next : Doing
    pub split : ds ≡ front ++ next ∷ rest
    pub goes : hostile.does_all play front j x ≡ Plays t
    pub stops : hostile.does play next (j + length front) t ≡ Breaks c k t

  more_done : (j : ℕ) (d : Doing) (ds : List Doing) (x y : Scene) (c : Stop) (k : ℕ) (t : Scene) → hostile.does play d j x ≡ Plays y → DoesTo (suc j) ds y c k t → DoesTo j (d ∷ ds) x c k t
  unfolding hostile.does_all
  more_done j d ds x y c k t e o = record {
    front = d ∷ o.front;
    rest = o.rest;
    next = o.next;
    split = ap (λ z. d ∷ z) o.split;
    goes = then_front (hostile.does play d j x) (hostile.does_all play o.front (suc j)) y t e o.goes;
    stops = let n : suc j + length o.front ≡ j + suc (length o.front) = omega arith in subst (λ i. hostile.does play o.next i t ≡ Breaks c k t) n o.stops;
  }

  done_here : (j : ℕ) (d : Doing) (ds : List Doing) (x : Scene) (c : Stop) (k : ℕ) (t : Scene) → hostile.does play d j x ≡ Breaks c k t → DoesTo j (d ∷ ds) x c k t
  unfolding hostile.does_all
  done_here j d ds x c k t e = let same : t ≡ x = does_there d j x c k t e in let n : j ≡ j + zero = omega arith in record {
    front = [];
    rest = ds;
    next = d;
    split = refl;
    goes = ap Plays (sym same);
    stops = subst (λ i. hostile.does play d i t ≡ Breaks c k t) n (subst (λ z. hostile.does play d j z ≡ Breaks c k t) (sym same) e);
  }

  does_stop : (j : ℕ) (ds : List Doing) (x : Scene) (c : Stop) (k : ℕ) (t : Scene) → hostile.does_all play ds j x ≡ Breaks c k t → DoesTo j ds x c k t
  unfolding hostile.does_all
  does_stop j [] x c k t e = absurd (plays_is x t c k e)
  does_stop j (d ∷ ds) x c k t e = by (λ y s. does_stop (suc j) ds y c k t s) (then_stops (hostile.does play d j x) (hostile.does_all play ds (suc j)) c k t e)
    where
      by : ((y : Scene) → hostile.does_all play ds (suc j) y ≡ Breaks c k t → DoesTo (suc j) ds y c k t) → (hostile.does play d j x ≡ Breaks c k t) ⊎ ((y : Scene) × (hostile.does play d j x ≡ Plays y) × (hostile.does_all play ds (suc j) y ≡ Breaks c k t)) → DoesTo j (d ∷ ds) x c k t
      by h (inl s) = done_here j d ds x c k t s
      by h (inr (y, g, s)) = more_done j d ds x y c k t g (h y s)

  -- ---- the whole

  closes_on : (x : Scene) (c : Stop) (k : ℕ) (t : Scene) → hostile.closes play x ≡ Breaks c k t → ⊥
  unfolding hostile.closes
  closes_on x c k t e = cc

  opening_left : (c : Stop) (k : ℕ) (t : Scene) → OpensTo zero play.script.vats (starts play) c k t → OpeningStops play c k t
  opening_left c k t o = let n : zero + length o.front ≡ length o.front = omega arith in
      let s : hostile.opens play (hostile.is_hostile play (length o.front)) (length o.front) o.next t ≡ Breaks c k t = subst (λ i. hostile.opens play (hostile.is_hostile play i) i o.next t ≡ Breaks c k t) n o.stops in
      (o.front, o.rest, o.next, o.split, o.goes, s, opens_numbered (length o.front) o.next t (hostile.is_hostile play (length o.front)) c k t s)

  doing_left : (c : Stop) (k : ℕ) (t opened : Scene) → hostile.opens_from play zero play.script.vats (starts play) ≡ Plays opened → DoesTo 1 play.doings opened c k t → DoingStops play c k t
  doing_left c k t opened g o = (opened, o.front, o.rest, o.next, o.split, g, o.goes, o.stops, does_numbered o.next (1 + length o.front) t c k t o.stops)

  run_left : (c : Stop) (k : ℕ) (t : Scene) → hostile.acts play ≡ Breaks c k t → OpeningStops play c k t ⊎ DoingStops play c k t
  unfolding hostile.acts
  run_left c k t e = by (then_stops (hostile.opens_from play zero play.script.vats (starts play)) (λ y. hostile.then_plays (hostile.does_all play play.doings 1 y) (hostile.closes play)) c k t e)
    where
      behind : (y : Scene) → hostile.opens_from play zero play.script.vats (starts play) ≡ Plays y → (hostile.does_all play play.doings 1 y ≡ Breaks c k t) ⊎ ((z : Scene) × (hostile.does_all play play.doings 1 y ≡ Plays z) × (hostile.closes play z ≡ Breaks c k t)) → OpeningStops play c k t ⊎ DoingStops play c k t
      behind y g (inl s) = inr (doing_left c k t y g (does_stop 1 play.doings y c k t s))
      behind y g (inr (z, h, s)) = absurd (closes_on z c k t s)

      by : (hostile.opens_from play zero play.script.vats (starts play) ≡ Breaks c k t) ⊎ ((y : Scene) × (hostile.opens_from play zero play.script.vats (starts play) ≡ Plays y) × (hostile.then_plays (hostile.does_all play play.doings 1 y) (hostile.closes play) ≡ Breaks c k t)) → OpeningStops play c k t ⊎ DoingStops play c k t
      by (inl s) = inl (opening_left c k t (opens_stop zero play.script.vats (starts play) c k t s))
      by (inr (y, g, s)) = behind y g (then_stops (hostile.does_all play play.doings 1 y) (hostile.closes play) c k t s)

  came_there : (c : Stop) (k : ℕ) (t : Scene) → OpeningStops play c k t ⊎ DoingStops play c k t → ComesTo play t
  came_there c k t (inl (ps, rest, p, split, goes, stops, number)) = inl (ps, p ∷ rest, split, goes)
  came_there c k t (inr (opened, ds, rest, d, split, opens, goes, stops, number)) = inr (inl (opened, ds, d ∷ rest, split, opens, goes))

pub next_stop : NextStepsStop
next_stop play c k s e = run_left play c k s e

pub leave_what_was : StopsLeaveWhatWas
leave_what_was play c k s e = came_there play c k s (run_left play c k s e)
