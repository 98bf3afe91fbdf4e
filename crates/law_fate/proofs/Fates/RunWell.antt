-- In every world of a run all is well in each vat, and with each note under way.
use Rattle.std.proofs.Common.{◌≡◌, ℕ, zero, suc, Bool, true, false, List, [], ◌∷◌, ◌++◌, Option, Some, None, refl, inl, inr, ◌⊎◌, map, subst}
use Rattle.std.specs.Prelude.{slice_get, ◌==◌}
use Rattle.def_machine.specs.Values.{Value, Ref, Name, Root, Object, Promise, Answer, Gift, Sent}
use Rattle.def_machine.specs.State.{Message, Passed, Passeds, Plain, AGift, Many, NoMore, More, Note, Deliver, Open, Ask, SettledTo, Elsewhere, Shorten, Put, Vat, Done, Gives, Throws, begun}
use Rattle.def_machine.specs.Arrive.{Old, New, notice}
use Rattle.def_machine.specs.Eval.{opening}
use Rattle.law_machine.specs.Machine.Steps.{Step, Opens as Starts, Takes, Receives, Notices, does}
use Rattle.def_run.specs.Draws.{draw_word}
use Rattle.def_run.specs.World as world
use Rattle.def_run.specs.World.{Script, Program, Opens, Entry, Turn, Carry, CutLink, NoticeLink, Event, Turned, Carried, NoticedAt, Link, World, Run, Goes, Stopped, names, names_of, read_note, begins}
use Rattle.law_fate.specs.Fates.Lasting.{Each, NoPromise, KnownWell, PassedLast, NoteWell, ComesAsNoObject, ValueComes, PassedComes, AllCome, ValueSettles, PassedSettles, NoteComes, StepComes, PlacesLast}
use Rattle.law_fate.specs.Fates.FateRuns.{Reached}
use Rattle.law_fate.specs.Fates.Wellness.{WorldWell, RunsStayWell}
use Rattle.law_fate.proofs.Fates.RunCounts.{pick}
use Rattle.law_fate.proofs.Fates.PlacesLast.{each_end}
use Rattle.law_fate.proofs.Fates.PlacesSteps.{steps_keep_places}

-- ---- notes as they are read

either_comes : (n : Name) (h : ℕ) (b : Bool) → ComesAsNoObject (New n h) → ComesAsNoObject (pick b (Old n) (New n h))
either_comes n h true g = tt
either_comes n h false g = g

pub read_comes : (n : Name) (ks : List Name) → ComesAsNoObject (world.read_name ks n)
unfolding world.read_name world.is_old
read_comes (Object w i) ks = tt
read_comes (Root w) ks = either_comes (Root w) _ (world.has_name ks (Root w)) tt
read_comes (Promise w i) ks = either_comes (Promise w i) _ (world.has_name ks (Promise w i)) tt
read_comes (Answer w m) ks = either_comes (Answer w m) _ (world.has_name ks (Answer w m)) tt
read_comes (Gift w i) ks = either_comes (Gift w i) _ (world.has_name ks (Gift w i)) tt
read_comes (Sent m) ks = either_comes (Sent m) _ (world.has_name ks (Sent m)) tt

value_comes : (y : Value Name) (ks : List Name) → ValueComes (world.read_value ks y).read
unfolding world.read_value
value_comes (Ref n) ks = read_comes n ks
value_comes other ks = tt

mutual
  unfolding world.read_passed world.read_all world.plain_read world.many_read world.more_read

  passed_comes : (y : Passed Name) (ks : List Name) → PassedComes (world.read_passed y ks).read
  passed_comes (Plain y) ks = value_comes y ks
  passed_comes (AGift p i) ks = tt
  passed_comes (Many ys) ks = all_come ys ks

  pub all_come : (ys : Passeds Name) (ks : List Name) → AllCome (world.read_all ys ks).read
  all_come NoMore ks = tt
  all_come (More y ys) ks = (passed_comes y ks, all_come ys (world.read_passed y ks).known)

value_settles : (y : Value Name) (ks : List Name) → NoPromise y → ValueSettles (world.read_value ks y).read
unfolding world.read_value world.read_name world.is_old
value_settles (Ref (Root w)) ks h = absurd h
value_settles (Ref (Promise w i)) ks h = absurd h
value_settles (Ref (Answer w m)) ks h = absurd h
value_settles (Ref (Gift w i)) ks h = absurd h
value_settles (Ref (Sent m)) ks h = absurd h
value_settles other ks h = tt

passed_settles : (y : Passed Name) (ks : List Name) → PassedLast y → PassedSettles (world.read_passed y ks).read
unfolding world.read_passed world.plain_read world.many_read
passed_settles (Plain y) ks h = value_settles y ks h
passed_settles (AGift p i) ks h = absurd h
passed_settles (Many ys) ks h = all_come ys ks

pub note_comes : (ks : List Name) (n : Note Name) → NoteWell n → NoteComes (read_note ks n)
unfolding read_note
note_comes ks (Deliver m n verb ys) h = (h, read_comes n (world.read_all ys ks).known, all_come ys ks)
note_comes ks (Open i n) h = read_comes n ks
note_comes ks (Ask p i n) h = tt
note_comes ks (SettledTo n y) h = (read_comes n ks, passed_settles y (world.known_after ks n) h)
note_comes ks (Elsewhere n c) h = read_comes n ks
note_comes ks (Shorten n c i) h = read_comes n ks

-- ---- links

abbrev pub LinkWell : Link → Type 0
LinkWell l = Each NoteWell l.notes

pub with_link_well : (f : Link → Link) → ((l : Link) → LinkWell l → LinkWell (f l)) → (v w : ℕ) (ls : List Link) → Each LinkWell ls → Each LinkWell (world.with_link f v w ls)
unfolding world.with_link
with_link_well f g v w [] h = tt
with_link_well f g v w (l ∷ ls) h = either (world.is_link v w l) (with_link_well f g v w ls h.1)
  where
    either : (b : Bool) → Each LinkWell (world.with_link f v w ls) → Each LinkWell (pick b (f l ∷ ls) (l ∷ world.with_link f v w ls))
    either true i = (g l h.0, h.1)
    either false i = (h.0, i)

pushed_well : (n : Note Name) → NoteWell n → (l : Link) → LinkWell l → LinkWell (world.pushed n l)
unfolding world.pushed
pushed_well n h l i = either l.cut
  where
    either : (b : Bool) → LinkWell (pick b (record l { log = l.log ++ n ∷ [] }) (record l { notes = l.notes ++ n ∷ []; log = l.log ++ n ∷ [] }))
    either true = i
    either false = each_end NoteWell l.notes n i h

push_all_well : (v : ℕ) (ps : List (Put Name)) (ls : List Link) → Each (λ (p : Put Name). NoteWell p.note) ps → Each LinkWell ls → Each LinkWell (world.push_all v ps ls)
unfolding world.push_all
push_all_well v [] ls h i = i
push_all_well v (p ∷ ps) ls h i = push_all_well v ps (world.with_link (world.pushed p.note) v p.to ls) h.1 (with_link_well (world.pushed p.note) (pushed_well p.note h.0) v p.to ls i)

pub found_link : (v w : ℕ) (ls : List Link) (k : Link) → world.link_at v w ls ≡ Some k → Each LinkWell ls → LinkWell k
unfolding world.link_at
found_link v w [] k e h = cc
found_link v w (l ∷ ls) k e h = either (world.is_link v w l) e (λ i. found_link v w ls k i h.1)
  where
    either : (b : Bool) → pick b (Some l) (world.link_at v w ls) ≡ Some k → (world.link_at v w ls ≡ Some k → LinkWell k) → LinkWell k
    either true i g = let same : l ≡ k = cc in rw same at h.0
    either false i g = g i

-- ---- what a step of a vat makes of the world

pub put_at_or : (v : ℕ) (y : Vat Name) (xs : List (Vat Name)) (u : ℕ) (t : Vat Name) → slice_get (world.put_at v y xs) u ≡ Some t → (y ≡ t) ⊎ (slice_get xs u ≡ Some t)
unfolding world.put_at
put_at_or v y [] u t e = inr e
put_at_or zero y (x ∷ xs) zero t e = let same : y ≡ t = cc in inl same
put_at_or zero y (x ∷ xs) (suc u) t e = inr e
put_at_or (suc v) y (x ∷ xs) zero t e = inr e
put_at_or (suc v) y (x ∷ xs) (suc u) t e = put_at_or v y xs u t e

put_one : (y t : Vat Name) (o : Option (Vat Name)) → Each KnownWell y.known → (o ≡ Some t → Each KnownWell t.known) → (y ≡ t) ⊎ (o ≡ Some t) → Each KnownWell t.known
put_one y t o h k (inl e) = rw e at h
put_one y t o h k (inr e) = k e

put_back_well : (v : ℕ) (w : World) (head : List Event) (n : ℕ) (s : Vat Name) (d : Done Name (Unit {0})) → WorldWell w → PlacesLast (λ to. false) (Root 0) s d → Reached WorldWell (world.put_back v w head n d)
unfolding world.put_back
put_back_well v w head n s (Gives u t) h p = let well = p.0 in record {
  vats = λ u r e. put_one t r (slice_get w.vats u) well.0 (h.vats u r) (put_at_or v t w.vats u r e);
  links = push_all_well v t.outbox w.links well.1 h.links;
}
put_back_well v w head n s (Throws t u) h p = h
put_back_well v w head n s other h p = h

module _ (script : Script) where
  within_well : (v : ℕ) (w : World) (head : List Event) (n : ℕ) (what : Step Name Name) (q : Vat Name) → WorldWell w → Each KnownWell q.known → StepComes what → Reached WorldWell (world.within v w head n (does (names script v) what) (Some q))
  unfolding world.within names world.readied
  within_well v w head n what q h k g = put_back_well v w head n (world.readied w q) _ h (steps_keep_places (draw_word script.key) v what (world.readied w q) (λ to. false) (Root 0) (k, tt) g)

  idle_well : (k : ℕ) (w : World) → WorldWell w → Reached WorldWell (world.idle script k w)
  unfolding world.idle
  idle_well k w h = record { vats = h.vats; links = h.links }

  turn_queue_well : (k v : ℕ) (w : World) (s : Vat Name) (ms : List (Message Name)) → Each KnownWell s.known → WorldWell w → Reached WorldWell (world.turn_queue script k v w s ms)
  unfolding world.turn_queue does
  turn_queue_well k v w s [] e h = idle_well k w h
  turn_queue_well k v w s (m ∷ ms) e h = within_well v w (Turned k v ∷ []) (world.step_number script k) (Takes (world.tree_at script.vats v) script.depth m) (record s { queue = ms }) h e tt

  turn_well : (k v : ℕ) (w : World) (o : Option (Vat Name)) → slice_get w.vats v ≡ o → WorldWell w → Reached WorldWell (world.turn script k v w o)
  unfolding world.turn
  turn_well k v w None e h = idle_well k w h
  turn_well k v w (Some s) e h = turn_queue_well k v w s s.queue (h.vats v s e) h

  arrives_well : (k v to : ℕ) (w : World) (n : Note Name) (o : Option (Vat Name)) → slice_get w.vats to ≡ o → NoteWell n → WorldWell w → Reached WorldWell (world.arrives script k v to w n o)
  unfolding world.arrives does
  arrives_well k v to w n None e g h = idle_well k w h
  arrives_well k v to w n (Some s) e g h = within_well to w (Carried k v to n (world.next_frame v to w.connections) ∷ []) (world.step_number script k) (Receives v (read_note (names_of s) n)) s h (h.vats to s e) (note_comes (names_of s) n g)

  carry_notes_well : (k v to : ℕ) (w : World) (ns : List (Note Name)) → Each NoteWell ns → WorldWell w → Reached WorldWell (world.carry_notes script k v to w ns)
  unfolding world.carry_notes world.with_notes
  carry_notes_well k v to w [] g h = idle_well k w h
  carry_notes_well k v to w (n ∷ ns) g h = arrives_well k v to (record w { links = world.with_link (world.with_notes ns) v to w.links }) n (slice_get w.vats to) refl g.0
      (record { vats = h.vats; links = with_link_well (world.with_notes ns) (λ l i. g.1) v to w.links h.links })

  carry_cut_well : (k v to : ℕ) (w : World) (l : Link) (b : Bool) → LinkWell l → WorldWell w → Reached WorldWell (pick b (world.idle script k w) (world.carry_notes script k v to w l.notes))
  carry_cut_well k v to w l true g h = idle_well k w h
  carry_cut_well k v to w l false g h = carry_notes_well k v to w l.notes g h

  carry_link_well : (k v to : ℕ) (w : World) (o : Option Link) → world.link_at v to w.links ≡ o → WorldWell w → Reached WorldWell (world.carry_link script k v to w o)
  unfolding world.carry_link
  carry_link_well k v to w None e h = idle_well k w h
  carry_link_well k v to w (Some l) e h = carry_cut_well k v to w l l.cut (found_link v to w.links l e h.links) h

  cut_well : (k v to : ℕ) (w : World) → WorldWell w → Reached WorldWell (world.cut script k v to w)
  unfolding world.cut world.severed_link
  cut_well k v to w h = record { vats = h.vats; links = with_link_well world.severed_link (λ l i. tt) to v (world.with_link world.severed_link v to w.links) (with_link_well world.severed_link (λ l i. tt) v to w.links h.links) }

  notice_well : (k v to : ℕ) (w : World) (o : Option (Vat Name)) → slice_get w.vats v ≡ o → WorldWell w → Reached WorldWell (world.within v w (NoticedAt k v to ∷ []) (world.step_number script k) (notice (names script v) to) o)
  unfolding does world.within
  notice_well k v to w None e h = h
  notice_well k v to w (Some s) e h = within_well v w (NoticedAt k v to ∷ []) (world.step_number script k) (Notices to) s h (h.vats v s e) tt

  pub open_well : (v : ℕ) (p : Program) (w : World) (o : Option (Vat Name)) → slice_get w.vats v ≡ o → WorldWell w → Reached WorldWell (world.within v w (Opens v ∷ []) v (opening (names script v) p.tree script.depth (Root v) (world.given script.vats p.knows)) o)
  unfolding does world.within
  open_well v p w None e h = h
  open_well v p w (Some s) e h = within_well v w (Opens v ∷ []) v (Starts p.tree script.depth (Root v) (world.given script.vats p.knows)) s h (h.vats v s e) tt

  pub step_well : (entry : Entry) (k : ℕ) (w : World) → WorldWell w → Reached WorldWell (world.step script entry k w)
  unfolding world.step
  step_well (Turn v) k w h = turn_well k v w (slice_get w.vats v) refl h
  step_well (Carry v to) k w h = carry_link_well k v to w (world.link_at v to w.links) refl h
  step_well (CutLink v to) k w h = cut_well k v to w h
  step_well (NoticeLink v to) k w h = notice_well k v to w (slice_get w.vats v) refl h

  then_well : (r : Run) (f : World → Run) → Reached WorldWell r → ((w : World) → WorldWell w → Reached WorldWell (f w)) → Reached WorldWell (world.then_goes r f)
  unfolding world.then_goes
  then_well (Goes w) f h g = g w h
  then_well (Stopped c k w) f h g = h

  steps_well : (es : List Entry) (k : ℕ) (w : World) → WorldWell w → Reached WorldWell (world.steps_from script es k w)
  unfolding world.steps_from
  steps_well [] k w h = h
  steps_well (e ∷ es) k w h = then_well (world.step script e k w) (world.steps_from script es (suc k)) (step_well e k w h) (λ y i. steps_well es (suc k) y i)

  pub opens_well : (v : ℕ) (ps : List Program) (w : World) → WorldWell w → Reached WorldWell (world.open_from script v ps w)
  unfolding world.open_from world.open_vat
  opens_well v [] w h = h
  opens_well v (p ∷ ps) w h = then_well (world.open_vat script v p w) (world.open_from script (suc v) ps) (open_well v p w (slice_get w.vats v) refl h) (λ y i. opens_well (suc v) ps y i)

-- ---- the start

pub roots_well : (ws : List ℕ) → Each KnownWell (map world.known_root ws)
unfolding world.known_root begun
roots_well [] = tt
roots_well (w ∷ ws) = (record { name = tt; standing = tt; held = tt }, roots_well ws)

pub some_same : (a b : Vat Name) → Some a ≡ Some b → a ≡ b
some_same a b e = cc

first_well : (script : Script) (v : ℕ) (p : Program) → Each KnownWell (world.fresh script v p).known
unfolding world.fresh world.known_root begun
first_well script v p = (record { name = tt; standing = tt; held = tt }, roots_well p.knows)

pub fresh_well : (script : Script) (v : ℕ) (ps : List Program) (u : ℕ) (s : Vat Name) → slice_get (world.fresh_from script v ps) u ≡ Some s → Each KnownWell s.known
unfolding world.fresh_from
fresh_well script v [] u s e = cc
fresh_well script v (p ∷ ps) zero s e = subst (λ (r : Vat Name). Each KnownWell r.known) (some_same (world.fresh script v p) s e) (first_well script v p)
fresh_well script v (p ∷ ps) (suc u) s e = fresh_well script (suc v) ps u s e

pub each_append : (P : Link → Type 0) (xs ys : List Link) → Each P xs → Each P ys → Each P (xs ++ ys)
each_append P [] ys h k = k
each_append P (x ∷ xs) ys h k = (h.0, each_append P xs ys h.1 k)

links_to_well : (v w : ℕ) (ps : List Program) → Each LinkWell (world.links_to v w ps)
unfolding world.links_to
links_to_well v w [] = tt
links_to_well v w (p ∷ ps) = either (v == w) (links_to_well v (suc w) ps)
  where
    either : (b : Bool) → Each LinkWell (world.links_to v (suc w) ps) → Each LinkWell (pick b (world.links_to v (suc w) ps) (record { from = v; to = w; cut = false; notes = []; roots = world.roots_for v p; log = [] } ∷ world.links_to v (suc w) ps))
    either true h = h
    either false h = (tt, h)

links_from_well : (all : List Program) (v : ℕ) (ps : List Program) → Each LinkWell (world.links_from all v ps)
unfolding world.links_from
links_from_well all v [] = tt
links_from_well all v (p ∷ ps) = each_append LinkWell (world.links_to v zero all) (world.links_from all (suc v) ps) (links_to_well v zero all) (links_from_well all (suc v) ps)

pub begins_well : (script : Script) → WorldWell (begins script)
unfolding begins
begins_well script = record { vats = λ v s e. fresh_well script zero script.vats v s e; links = links_from_well script.vats zero script.vats }

pub goes_well : (r : Run) (w : World) → r ≡ Goes w → Reached WorldWell r → WorldWell w
goes_well (Goes y) w e h = let same : y ≡ w = cc in rw same at h
goes_well (Stopped c k y) w e h = cc

pub runs_stay_well : RunsStayWell
runs_stay_well script = (
  λ ps. opens_well script zero ps (begins script) (begins_well script),
  λ w es k e. steps_well script es k w (goes_well (world.open_from script zero script.vats (begins script)) w e (opens_well script zero script.vats (begins script) (begins_well script))),
)
