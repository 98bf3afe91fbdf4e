-- What is done without hostile vats goes, in the vats' own numbers, where the run in numbers goes.
use Rattle.std.proofs.Common.{◌≡◌, ℕ, zero, suc, ◌+◌, pred, Bool, true, false, List, [], ◌∷◌, ◌++◌, Option, Some, None, refl, sym, ap, subst, ◌∙◌, length, map, append_assoc, append-nil, inl, inr, drop}
use Rattle.std.specs.Prelude.{slice_get}
use Rattle.def_op.specs.Frames.{spelling}
use Rattle.def_machine.specs.Values.{Local}
use Rattle.def_machine.specs.State.{Message, Note, Vat, Stop, Astray, Done, Gives, Stops, is_in}
use Rattle.def_machine.specs.Arrive.{Incoming, arrive}
use Rattle.def_machine.specs.Receive.{receive}
use Rattle.def_run.specs.Connections.{Heard}
use Rattle.def_run.specs.Names.{names_after}
use Rattle.def_run.specs.Numbers as run
use Rattle.def_run.specs.Numbers.{Frame, Way, Vats, Course, Runs, Halts, Brought, way_at, with_way, ready, numbers}
use Rattle.def_run.specs.Vats.{Member, heard_in}
use Rattle.def_run.specs.World.{Script, Program, Entry, Turn, Carry, CutLink, NoticeLink, Event, Idle, Carried, LeftLink, Ends}
use Rattle.def_hostile.specs.Arrivals as arrivals
use Rattle.def_hostile.specs.Arrivals.{sees, brings_nothing}
use Rattle.def_hostile.specs.Claims.{Claim}
use Rattle.def_hostile.specs.Hostile as hostile
use Rattle.def_hostile.specs.Hostile.{Play, Does, Line, Told}
use Rattle.def_hostile.specs.Numbers as ours
use Rattle.def_hostile.specs.Numbers.{Cast, Performed, Performs, Ceases, starts}
use Rattle.law_hostile_frame.specs.Honest.{honest, cast_of, StoppedFrom, ComesTo, EndsIn, SameOutcome, FramesAreReceived}

-- ---- what a step makes of a run

-- from that state on, in the step of that number
abbrev pub GoesFrom : ℕ → Vats → Course → Type 0
GoesFrom n X (Runs Y) = (es : List Event) × (Y.history ≡ X.history ++ es)
GoesFrom n X (Halts e k Y) = (k ≡ n) × StoppedFrom Y X

stays : (X : Vats) → StoppedFrom X X
stays X = record { drawn = refl; history = refl }

map_append : (xs ys : List Event) → map Told (xs ++ ys) ≡ map Told xs ++ map Told ys
map_append [] ys = refl
map_append (x ∷ xs) ys = ap (λ zs. Told x ∷ zs) (map_append xs ys)

drop_front : (xs ys : List Event) → drop (length xs) (xs ++ ys) ≡ ys
drop_front [] ys = refl
drop_front (x ∷ xs) ys = drop_front xs ys

told_lines : (X Y : Vats) (es : List Event) → Y.history ≡ X.history ++ es → map Told X.history ++ ours.told_since X Y ≡ map Told Y.history
unfolding ours.told_since
told_lines X Y es e = ap (λ zs. map Told X.history ++ map Told (drop (length X.history) zs)) e ∙ ap (λ zs. map Told X.history ++ map Told zs) (drop_front X.history es) ∙ sym (map_append X.history es) ∙ ap (λ zs. map Told zs) (sym e)

module _ (script : Script) where
  abbrev play : Play
  play = honest script

  acted_so : (n u : ℕ) (made : List Claim) (X : Vats) (r : Course) → GoesFrom n X r → ComesTo script r (ours.acted n u (cast_of script made X) r)
  unfolding ours.acted
  acted_so n u made X (Runs Y) h = (ours.made_after u Y made, ap (λ ls. Performs (record (cast_of script made X) { vats = Y; made = ours.made_after u Y made; lines = ls })) (told_lines X Y h.0 h.1))
  acted_so n u made X (Halts e k Y) h = (made, X, h.1, ap (λ j. Ceases e j (cast_of script made X)) (sym h.0))

  -- ---- numbers of steps

  none_before : (v : ℕ) → hostile.honest_before play v ≡ v
  unfolding hostile.honest_before hostile.is_hostile is_in
  none_before zero = refl
  none_before (suc v) = ap suc (none_before v)

  same_number : (k : ℕ) → hostile.step_of play k ≡ run.step_number script k
  unfolding hostile.step_of run.step_number
  same_number k = ap (λ n. n + pred k) (none_before (length script.vats))

  -- ---- each step of the run goes from its state on

  idle_from : (n k : ℕ) (X : Vats) → GoesFrom n X (run.idle script k X)
  unfolding run.idle
  idle_from n k X = (Idle k ∷ [], refl)

  idle_after : (n k : ℕ) (X W : Vats) → W.history ≡ X.history → GoesFrom n X (run.idle script k W)
  unfolding run.idle
  idle_after n k X W e = (Idle k ∷ [], ap (λ es. es ++ Idle k ∷ []) e)

  after_from : (n u : ℕ) (X W : Vats) (head : List Event) (m : Member) (b : Vat Local → Brought) (d : Done Local (Unit {0})) → W.history ≡ X.history → W.drawn ≡ X.drawn → GoesFrom n X (run.after_step W u head n m b d)
  unfolding run.after_step run.left_by
  after_from n u X W head m b (Gives a t) e f =
      let told = run.lines_of W.ways u (run.name_at_vat W.members u (names_after u m.names m.vat (b t).carried (b t).told t)) t.happened in
      (head ++ told, ap (λ es. es ++ head ++ told) e ∙ append_assoc X.history head told)
  after_from n u X W head m b other e f = (refl, record { drawn = f; history = e })

  queue_from : (k u : ℕ) (X : Vats) (m : Member) (xs : List (Message Local)) → GoesFrom (run.step_number script k) X (run.turn_queue script k u X m xs)
  unfolding run.turn_queue
  queue_from k u X m [] = idle_from (run.step_number script k) k X
  queue_from k u X m (x ∷ xs) = after_from (run.step_number script k) u X X _ m _ _ refl refl

  turn_from : (k u : ℕ) (X : Vats) (o : Option Member) → GoesFrom (run.step_number script k) X (run.turn script k u X o)
  unfolding run.turn
  turn_from k u X None = idle_from (run.step_number script k) k X
  turn_from k u X (Some m) = queue_from k u X m m.vat.queue

  cut_from : (n k v u : ℕ) (X : Vats) → GoesFrom n X (run.cut script k v u X)
  unfolding run.cut
  cut_from n k v u X = (_, refl)

  notice_from : (k v u : ℕ) (X : Vats) (o : Option Member) → GoesFrom (run.step_number script k) X (run.notice_by script k v u X o)
  unfolding run.notice_by run.own_step
  notice_from k v u X None = (refl, stays X)
  notice_from k v u X (Some m) = after_from (run.step_number script k) v X X _ m _ _ refl refl

  open_from_here : (v : ℕ) (p : Program) (X : Vats) (o : Option Member) → GoesFrom v X (run.open_member script v p X o)
  unfolding run.open_member run.own_step
  open_from_here v p X None = (refl, stays X)
  open_from_here v p X (Some m) = after_from v v X X _ m _ _ refl refl

  -- ---- a step of the run, by its number

  acted_step : (k u : ℕ) (made : List Claim) (X : Vats) (r : Course) → GoesFrom (run.step_number script k) X r → ComesTo script r (ours.acted (hostile.step_of play k) u (cast_of script made X) r)
  acted_step k u made X r h = subst (λ n. ComesTo script r (ours.acted n u (cast_of script made X) r)) (sym (same_number k)) (acted_so (run.step_number script k) u made X r h)

  happens_so : (k : ℕ) (made : List Claim) (X : Vats) → ComesTo script (run.idle script k X) (ours.happens (Idle k) (cast_of script made X))
  unfolding ours.happens run.idle
  happens_so k made X = (made, ap (λ ls. Performs (record (cast_of script made X) { vats = record X { history = X.history ++ Idle k ∷ [] }; lines = ls })) (sym (map_append X.history (Idle k ∷ []))))

  -- ---- a frame comes

  module _ (made : List Claim) (X : Vats) (k v u : ℕ) (x : Frame) (xs : List Frame) (m : Member) where
    -- the state in which the frame left its way
    abbrev Left : Vats
    Left = record X { ways = with_way (λ l. record l { frames = xs }) v u X.ways }

    abbrev Head : List Event
    Head = Carried k v u x.note (spelling x.op) ∷ []

    abbrev Theirs : ℕ → Heard Local (Note (Incoming Local Local)) → Done Local (Unit {0}) → Course
    Theirs j h d = run.after_step Left u Head j m (run.brings script Left v u x h m) d

    abbrev Ours : Heard Local (Note (Incoming Local Local)) → Bool → Done Local (Unit {0}) → Course
    Ours h b d = run.after_step Left u (Carried k v u (arrivals.entered_note true Left.members v u m x.note) (spelling x.op) ∷ []) zero m (arrivals.brings_if b m (arrivals.brings true Left.members v u x h m)) d

    numbered : (j : ℕ) (h : Heard Local (Note (Incoming Local Local))) (d : Done Local (Unit {0})) → ComesTo script (Theirs j h d) (ours.acted j u (cast_of script made X) (Ours h false d))
    unfolding run.after_step run.brings run.brought arrivals.entered_note arrivals.brings_if arrivals.brings arrivals.told_by arrivals.import_name arrivals.learnt_after ours.acted
    numbered j h (Gives a t) = acted_so j u made X (Theirs j h (Gives a t)) (after_from j u X Left Head m (run.brings script Left v u x h m) (Gives a t) refl refl)
    numbered j h other = (made, X, record { drawn = refl; history = refl }, refl)

    both_stop : (j : ℕ) (h : Heard Local (Note (Incoming Local Local))) (c : Stop) (p q : Vat Local) → ComesTo script (Theirs j h (Stops c q)) (ours.acted j u (cast_of script made X) (Ours h false (Stops c p)))
    unfolding run.after_step ours.acted
    both_stop j h c p q = (made, X, record { drawn = refl; history = refl }, refl)

    same_so : (j : ℕ) (h : Heard Local (Note (Incoming Local Local))) (b : Bool) (d e : Done Local (Unit {0})) → b ≡ false → SameOutcome d e → ComesTo script (Theirs j h e) (ours.acted j u (cast_of script made X) (Ours h b d))
    same_so j h true d e i f = cc
    same_so j h false d e i (inl f) = subst (λ z. ComesTo script (Theirs j h e) (ours.acted j u (cast_of script made X) (Ours h false z))) (sym f) (numbered j h e)
    same_so j h false d e i (inr f) = rw f.3 (rw f.4 (both_stop j h f.0 f.1 f.2))

    -- what is asked of the frame, by what is heard of it
    abbrev Received : Type 0
    Received = (h : Heard Local (Note (Incoming Local Local))) → heard_in v x.op m ≡ Some h
        → (brings_nothing (numbers script) v m h.read ≡ false) × SameOutcome (receive (numbers script) (sees v m) v h.read (ready X m.vat)) (arrive (numbers script) v h.read (ready X m.vat))

    hears_so : (o : Option (Heard Local (Note (Incoming Local Local)))) → heard_in v x.op m ≡ o → Received → ComesTo script (run.hears script k v u Left x m o) (ours.acted (hostile.step_of play k) u (cast_of script made X) (ours.hears play k v u Left x m o))
    unfolding run.hears ours.hears hostile.is_empty ready ours.acted
    hears_so None e f = (made, X, record { drawn = refl; history = refl }, ap (λ j. Ceases Astray j (cast_of script made X)) (same_number k))
    hears_so (Some h) e f = let g = f h e in
        subst (λ j. ComesTo script (Theirs (run.step_number script k) h (arrive (numbers script) v h.read (ready X m.vat))) (ours.acted j u (cast_of script made X) (Ours h (brings_nothing (numbers script) v m h.read) (receive (numbers script) (sees v m) v h.read (ready X m.vat)))))
        (sym (same_number k)) (same_so (run.step_number script k) h (brings_nothing (numbers script) v m h.read) _ _ g.0 g.1)

  arrives_so : (made : List Claim) (X : Vats) (k v u : ℕ) (x : Frame) (xs : List Frame) (o : Option Member) → ((m : Member) → o ≡ Some m → Received made X k v u x xs m)
      → ComesTo script (run.arrives script k v u (record X { ways = with_way (λ l. record l { frames = xs }) v u X.ways }) x o) (ours.acted (hostile.step_of play k) u (cast_of script made X) (ours.arrives play k v u (record X { ways = with_way (λ l. record l { frames = xs }) v u X.ways }) x o))
  unfolding run.arrives ours.arrives
  arrives_so made X k v u x xs None f = let W : Vats = record X { ways = with_way (λ l. record l { frames = xs }) v u X.ways } in acted_step k u made X (run.idle script k W) (idle_after (run.step_number script k) k X W refl)
  arrives_so made X k v u x xs (Some m) f = hears_so made X k v u x xs m (heard_in v x.op m) refl (f m refl)

  frames_so : (made : List Claim) (X : Vats) → FramesAreReceived script X → (k v u : ℕ) (l : Way) → way_at v u X.ways ≡ Some l → l.cut ≡ false → (fs : List Frame) → l.frames ≡ fs
      → ComesTo script (run.carry_frames script k v u X fs) (ours.carry_frames play k v u (cast_of script made X) fs)
  unfolding run.carry_frames ours.carry_frames ours.comes hostile.is_hostile is_in
  frames_so made X h k v u l at uncut [] e = happens_so k made X
  frames_so made X h k v u l at uncut (x ∷ xs) e = arrives_so made X k v u x xs (slice_get X.members u) (λ m there g heard. h v u l x xs m g at uncut e there heard)

  uncut_so : (made : List Claim) (X : Vats) → FramesAreReceived script X → (k v u : ℕ) (l : Way) → way_at v u X.ways ≡ Some l → (b : Bool) → l.cut ≡ b
      → ComesTo script (elim b [ true ↦ run.idle script k X | false ↦ run.carry_frames script k v u X l.frames ]) (elim b [ true ↦ ours.happens (Idle k) (cast_of script made X) | false ↦ ours.carry_frames play k v u (cast_of script made X) l.frames ])
  uncut_so made X h k v u l at true e = happens_so k made X
  uncut_so made X h k v u l at false e = frames_so made X h k v u l at e l.frames refl

  way_so : (made : List Claim) (X : Vats) → FramesAreReceived script X → (k v u : ℕ) (o : Option Way) → way_at v u X.ways ≡ o → ComesTo script (run.carry_way script k v u X o) (ours.carry_way play k v u (cast_of script made X) o)
  unfolding run.carry_way ours.carry_way
  way_so made X h k v u None e = happens_so k made X
  way_so made X h k v u (Some l) e = uncut_so made X h k v u l e l.cut refl

  -- ---- no frame is injected

  abbrev raw : Way → hostile.Raw
  raw l = hostile.raw_of play (run.link_of l)

  frame_or : (b : Bool) (l : Way) (rs qs : List hostile.Raw) → qs ≡ rs → elim b [ true ↦ record (raw l) { frames = [] } ∷ rs | false ↦ raw l ∷ qs ] ≡ raw l ∷ rs
  unfolding hostile.raw_of
  frame_or true l rs qs e = refl
  frame_or false l rs qs e = cc

  none_lost : (v u : ℕ) (ls : List Way) → hostile.with_frames (λ fs. []) v u (map raw ls) ≡ map raw ls
  unfolding hostile.with_frames
  none_lost v u [] = refl
  none_lost v u (l ∷ ls) = frame_or (hostile.is_raw v u (raw l)) l (map raw ls) _ (none_lost v u ls)

  none_cut : (v u : ℕ) → hostile.raws_cut v u (starts play).raws ≡ (starts play).raws
  unfolding starts hostile.raws_cut
  none_cut v u = ap (λ rs. hostile.with_frames (λ fs. []) u v rs) (none_lost v u (run.begins script).ways) ∙ none_lost u v (run.begins script).ways

  none_or : (b : Bool) (fs gs : List (List ℕ)) → fs ≡ [] → gs ≡ [] → ◌≡◌ {A = List (List ℕ)} (elim b [ true ↦ fs | false ↦ gs ]) []
  none_or true fs gs e f = e
  none_or false fs gs e f = f

  none_found : (v u : ℕ) (ls : List Way) → hostile.frames_at v u (map raw ls) ≡ []
  unfolding hostile.frames_at hostile.raw_of
  none_found v u [] = refl
  none_found v u (l ∷ ls) = none_or (hostile.is_raw v u (raw l)) [] (hostile.frames_at v u (map raw ls)) refl (none_found v u ls)

  -- ---- entries

  pub does_so : (X : Vats) → FramesAreReceived script X → (made : List Claim) (e : Entry) (k : ℕ) → ComesTo script (run.step script e k X) (ours.does play (Does e) k (cast_of script made X))
  unfolding run.step ours.does ours.does_turn ours.does_carry ours.does_notice hostile.is_hostile is_in
  does_so X h made (Turn v) k = acted_step k v made X _ (turn_from k v X (slice_get X.members v))
  does_so X h made (Carry v u) k = way_so made X h k v u (way_at v u X.ways) refl
  does_so X h made (CutLink v u) k = subst (λ rs. ComesTo script (run.cut script k v u X) (ours.acted (hostile.step_of play k) v (record (cast_of script made X) { raws = rs }) (run.cut script k v u X))) (sym (none_cut v u)) (acted_step k v made X _ (cut_from (run.step_number script k) k v u X))
  does_so X h made (NoticeLink v u) k = acted_step k v made X _ (notice_from k v u X (slice_get X.members v))

  -- ---- one after another

  then_so : (r : Course) (a : Performed) (f : Vats → Course) (g : Cast → Performed) → ComesTo script r a → ((Y : Vats) (made : List Claim) → r ≡ Runs Y → ComesTo script (f Y) (g (cast_of script made Y))) → ComesTo script (run.then_runs r f) (ours.then_performs a g)
  unfolding run.then_runs ours.then_performs
  then_so (Runs Y) a f g h k = rw h.1 (k Y h.0 refl)
  then_so (Halts e n Y) a f g h k = (h.0, h.1, h.2, ap (λ b. ours.then_performs b g) h.3)

  pub does_all_so : (es : List Entry) (k : ℕ) (X : Vats) (made : List Claim) → ((fs rest : List Entry) (Y : Vats) → es ≡ fs ++ rest → run.steps_from script fs k X ≡ Runs Y → FramesAreReceived script Y)
      → ComesTo script (run.steps_from script es k X) (ours.does_all play (map Does es) k (cast_of script made X))
  unfolding run.steps_from run.then_runs ours.does_all
  does_all_so [] k X made h = (made, refl)
  does_all_so (e ∷ es) k X made h = then_so (run.step script e k X) (ours.does play (Does e) k (cast_of script made X)) (run.steps_from script es (suc k)) (ours.does_all play (map Does es) (suc k)) (does_so X (h [] (e ∷ es) X refl refl) made e k)
      (λ Y more i. does_all_so es (suc k) Y more (λ fs rest Z split steps. h (e ∷ fs) rest Z (ap (λ gs. e ∷ gs) split) (ap (λ r. run.then_runs r (run.steps_from script fs (suc k))) i ∙ steps)))

  -- ---- the opening turns

  opens_one : (v : ℕ) (p : Program) (X : Vats) (made : List Claim) → ComesTo script (run.open_member script v p X (slice_get X.members v)) (ours.opens play (hostile.is_hostile play v) v p (cast_of script made X))
  unfolding ours.opens hostile.is_hostile is_in
  opens_one v p X made = let r : Course = run.open_member script v p X (slice_get X.members v) in subst (λ n. ComesTo script r (ours.acted n v (cast_of script made X) r)) (sym (none_before v)) (acted_so v v made X r (open_from_here v p X (slice_get X.members v)))

  pub opens_so : (v : ℕ) (ps : List Program) (X : Vats) (made : List Claim) → ComesTo script (run.open_from script v ps X) (ours.opens_from play v ps (cast_of script made X))
  unfolding run.open_from ours.opens_from
  opens_so v [] X made = (made, refl)
  opens_so v (p ∷ ps) X made = then_so (run.open_member script v p X (slice_get X.members v)) (ours.opens play (hostile.is_hostile play v) v p (cast_of script made X)) (run.open_from script (suc v) ps) (ours.opens_from play (suc v) ps) (opens_one v p X made) (λ Y more i. opens_so (suc v) ps Y more)

  pub start_so : cast_of script [] (run.begins script) ≡ starts play
  unfolding starts run.begins
  start_so = refl

  -- ---- the closing list

  map_twice : (v u : ℕ) (fs : List Frame) → map (λ (x : Frame). Told (LeftLink v u x.note)) fs ≡ map Told (map (λ (x : Frame). LeftLink v u x.note) fs)
  map_twice v u [] = refl
  map_twice v u (x ∷ fs) = ap (λ ls. Told (LeftLink v u x.note) ∷ ls) (map_twice v u fs)

  left_so : (ls : List Way) → ours.left_ways play (starts play).raws ls ≡ map Told (run.left_ways script ls)
  unfolding ours.left_ways run.left_ways starts
  left_so [] = refl
  left_so (l ∷ ls) = ap (λ fs. map (λ (x : Frame). Told (LeftLink l.from l.to x.note)) l.frames ++ map (hostile.LeftFrame l.from l.to) fs ++ ours.left_ways play (starts play).raws ls) (none_found l.from l.to (run.begins script).ways)
      ∙ ap (λ zs. zs ++ ours.left_ways play (starts play).raws ls) (append-nil (map (λ (x : Frame). Told (LeftLink l.from l.to x.note)) l.frames) ∙ map_twice l.from l.to l.frames)
      ∙ ap (λ zs. map Told (map (λ (x : Frame). LeftLink l.from l.to x.note) l.frames) ++ zs) (left_so ls)
      ∙ sym (map_append (map (λ (x : Frame). LeftLink l.from l.to x.note) l.frames) (run.left_ways script ls))

  closing_lines : (h a b c : List Event) → map Told h ++ map Told a ++ map Told b ++ map Told c ≡ map Told (h ++ a ++ b ++ c)
  closing_lines h a b c = sym (map_append (h ++ a ++ b) c ∙ ap (λ zs. zs ++ map Told c) (map_append (h ++ a) b ∙ ap (λ zs. zs ++ map Told b) (map_append h a)))

  closes_so : (X : Vats) (made : List Claim) → EndsIn script (run.close script X) (ours.closes play (cast_of script made X))
  unfolding run.close ours.closes
  closes_so X made = (
    made,
    X,
    refl,
    ap (λ ls. Performs (record (cast_of script made X) { lines = ls }))
        (ap (λ zs. map Told X.history ++ map Told (run.left_members script X.members zero X.members) ++ zs ++ Told Ends ∷ []) (left_so X.ways) ∙ closing_lines X.history (run.left_members script X.members zero X.members) (run.left_ways script X.ways) (Ends ∷ [])),
  )

  ends_then : (r : Course) (a : Performed) (f : Vats → Course) (g : Cast → Performed) → ComesTo script r a → ((Y : Vats) (made : List Claim) → r ≡ Runs Y → EndsIn script (f Y) (g (cast_of script made Y))) → EndsIn script (run.then_runs r f) (ours.then_performs a g)
  unfolding run.then_runs ours.then_performs
  ends_then (Runs Y) a f g h k = rw h.1 (k Y h.0 refl)
  ends_then (Halts e n Y) a f g h k = (h.0, h.1, h.2, ap (λ b. ours.then_performs b g) h.3)

  pub performs_so : ((W : Vats) → run.open_from script zero script.vats (run.begins script) ≡ Runs W → (fs rest : List Entry) (Y : Vats) → script.schedule ≡ fs ++ rest → run.steps_from script fs 1 W ≡ Runs Y → FramesAreReceived script Y)
      → EndsIn script (run.run script) (ours.performs play)
  unfolding run.run ours.performs
  performs_so h = ends_then (run.open_from script zero script.vats (run.begins script)) (ours.opens_from play zero script.vats (starts play)) _ _
      (subst (λ c. ComesTo script (run.open_from script zero script.vats (run.begins script)) (ours.opens_from play zero script.vats c)) start_so (opens_so zero script.vats (run.begins script) []))
      (λ W made e. ends_then (run.steps_from script script.schedule 1 W) (ours.does_all play (map Does script.schedule) 1 (cast_of script made W)) (run.close script) (ours.closes play) (does_all_so script.schedule 1 W made (h W e)) (λ Y more i. closes_so Y more))
