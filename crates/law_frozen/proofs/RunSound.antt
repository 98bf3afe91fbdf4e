-- Every world of a run is sound: each vat in it, and each note under way.
use Rattle.std.proofs.Common.{◌≡◌, ℕ, zero, suc, Bool, true, false, List, [], ◌∷◌, ◌++◌, Option, Some, None, refl, sym, ap, inl, inr, ◌⊎◌, map, ◌==◌}
use Rattle.std.specs.Prelude.{slice_get}
use Rattle.def_machine.specs.Values.{Value, Items, Name, Root}
use Rattle.def_machine.specs.State.{Message, Passed, Passeds, Plain, AGift, Many, NoMore, More, Note, Deliver, SettledTo, Put, Vat, Done, Gives, begun}
use Rattle.def_machine.specs.Native as native
use Rattle.def_machine.specs.Scopes as scopes
use Rattle.def_machine.specs.Scopes.{any_guard}
use Rattle.def_machine.specs.Eval.{opening}
use Rattle.def_machine.specs.Arrive.{notice}
use Rattle.law_machine.specs.Machine.Steps.{Step, Opens as Starts, Takes, Receives, Notices, does, After}
use Rattle.def_run.specs.Draws.{draw_word}
use Rattle.def_run.specs.World as world
use Rattle.def_run.specs.World.{Script, Program, Opens, Entry, Turn, Carry, CutLink, NoticeLink, Event, Turned, Idle, Carried, NoticedAt, Link, World, Run, Goes, Stopped, names, names_of, read_note}
use Rattle.law_frozen.specs.Frozen.{AllOf, PlainPasses, Passes, AllPass, NotePasses, KnownThere, MessageThere, NounWell, Sound}
use Rattle.law_frozen.specs.Laws.{StepWell}
use Rattle.law_frozen.specs.Runs.{ReachIsFrozenIn, ReachIsFrozenInRuns, ReachIsFrozenAtTheEnd}
use Rattle.law_frozen.proofs.Facts.{all_end, all_append}
use Rattle.law_frozen.proofs.Fine.{MayBe}
use Rattle.law_frozen.proofs.FrozenSteps.{stays_sound}
use Rattle.law_frozen.proofs.Reach.{global_spots, frozen_reach}

abbrev pub LinkPasses : Link → Type 0
LinkPasses l = AllOf NotePasses l.notes

pub record WorldSound (script : Script) (w : World) : Type 0 where
  pub vats : (v : ℕ) (s : Vat Name) → slice_get w.vats v ≡ Some s → Sound (names script v) s
  pub links : AllOf LinkPasses w.links

-- ---- notes as they are read

read_plain : (ks : List Name) (y : Value Name) → PlainPasses y → PlainPasses (world.read_value ks y).read
unfolding world.read_value
read_plain ks (Items k) h = absurd h
read_plain ks other h = tt

mutual
  unfolding world.read_passed world.read_all world.plain_read world.many_read world.more_read

  read_passes : (y : Passed Name) (ks : List Name) → Passes y → Passes (world.read_passed y ks).read
  read_passes (Plain y) ks h = read_plain ks y h
  read_passes (AGift p i) ks h = tt
  read_passes (Many ys) ks h = reads_pass ys ks h

  reads_pass : (ys : Passeds Name) (ks : List Name) → AllPass ys → AllPass (world.read_all ys ks).read
  reads_pass NoMore ks h = tt
  reads_pass (More y ys) ks h = (read_passes y ks h.0, reads_pass ys (world.read_passed y ks).known h.1)

pub note_read : (ks : List Name) (n : Note Name) → NotePasses n → NotePasses (read_note ks n)
unfolding read_note
note_read ks (Deliver m n verb ys) h = reads_pass ys ks h
note_read ks (SettledTo n y) h = read_passes y (world.known_after ks n) h
note_read ks other h = tt

-- ---- links

pub with_link_passes : (f : Link → Link) → ((l : Link) → LinkPasses l → LinkPasses (f l)) → (v w : ℕ) (ls : List Link) → AllOf LinkPasses ls → AllOf LinkPasses (world.with_link f v w ls)
unfolding world.with_link
with_link_passes f g v w [] h = tt
with_link_passes f g v w (l ∷ ls) h = either (world.is_link v w l) (g l h.0) (with_link_passes f g v w ls h.1)
  where
    either : (b : Bool) → LinkPasses (f l) → AllOf LinkPasses (world.with_link f v w ls) → AllOf LinkPasses (elim b [ true ↦ f l ∷ ls | false ↦ l ∷ world.with_link f v w ls ])
    either true i j = (i, h.1)
    either false i j = (h.0, j)

pushed_passes : (n : Note Name) → NotePasses n → (l : Link) → LinkPasses l → LinkPasses (world.pushed n l)
unfolding world.pushed
pushed_passes n h l i = either l.cut
  where
    either : (b : Bool) → LinkPasses (elim b [ true ↦ record l { log = l.log ++ n ∷ [] } | false ↦ record l { notes = l.notes ++ n ∷ []; log = l.log ++ n ∷ [] } ])
    either true = i
    either false = all_end NotePasses l.notes n i h

pub push_all_passes : (v : ℕ) (ps : List (Put Name)) (ls : List Link) → AllOf (λ (p : Put Name). NotePasses p.note) ps → AllOf LinkPasses ls → AllOf LinkPasses (world.push_all v ps ls)
unfolding world.push_all
push_all_passes v [] ls h i = i
push_all_passes v (p ∷ ps) ls h i = push_all_passes v ps (world.with_link (world.pushed p.note) v p.to ls) h.1 (with_link_passes (world.pushed p.note) (pushed_passes p.note h.0) v p.to ls i)

either_link : (b : Bool) (l : Link) (o : Option Link) → LinkPasses l → MayBe LinkPasses o → MayBe LinkPasses (elim b [ true ↦ Some l | false ↦ o ])
either_link true l o h i = h
either_link false l o h i = i

pub link_passes : (v w : ℕ) (ls : List Link) → AllOf LinkPasses ls → MayBe LinkPasses (world.link_at v w ls)
unfolding world.link_at
link_passes v w [] h = tt
link_passes v w (l ∷ ls) h = either_link (world.is_link v w l) l (world.link_at v w ls) h.0 (link_passes v w ls h.1)

-- ---- what a step of a vat makes of the world

pub put_at_or : (v : ℕ) (y : Vat Name) (xs : List (Vat Name)) (u : ℕ) (t : Vat Name) → slice_get (world.put_at v y xs) u ≡ Some t → ((u ≡ v) × (y ≡ t)) ⊎ (slice_get xs u ≡ Some t)
unfolding world.put_at
put_at_or v y [] u t e = inr e
put_at_or zero y (x ∷ xs) zero t e = let same : y ≡ t = cc in inl (refl, same)
put_at_or zero y (x ∷ xs) (suc u) t e = inr e
put_at_or (suc v) y (x ∷ xs) zero t e = inr e
put_at_or (suc v) y (x ∷ xs) (suc u) t e = go (put_at_or v y xs u t e)
  where
    go : ((u ≡ v) × (y ≡ t)) ⊎ (slice_get xs u ≡ Some t) → ((suc u ≡ suc v) × (y ≡ t)) ⊎ (slice_get (x ∷ xs) (suc u) ≡ Some t)
    go (inl h) = inl (ap suc h.0, h.1)
    go (inr h) = inr h

goes_is : (w x : World) → Goes w ≡ Goes x → w ≡ x
goes_is w x e = cc

module _ (script : Script) where
  moved : (w x : World) → WorldSound script w → Goes w ≡ Goes x → WorldSound script x
  moved w x h e = rw (goes_is w x e) at h

  pub put_one : (v : ℕ) (y : Vat Name) (w : World) → WorldSound script w → Sound (names script v) y → (u : ℕ) (t : Vat Name) → ((u ≡ v) × (y ≡ t)) ⊎ (slice_get w.vats u ≡ Some t) → Sound (names script u) t
  put_one v y w h k u t (inl e) = let one : Sound (names script u) y = rw (sym e.0) at k in rw e.1 at one
  put_one v y w h k u t (inr e) = h.vats u t e

  put_back_sound : (v : ℕ) (w x : World) (head : List Event) (n : ℕ) (d : Done Name (Unit {0})) → WorldSound script w → (s : Vat Name) → After (λ _. Sound (names script v)) s d → world.put_back v w head n d ≡ Goes x → WorldSound script x
  unfolding world.put_back
  put_back_sound v w x head n (Gives a t) h s k e = moved _ x (record { vats = λ u r i. put_one v t w h k u r (put_at_or v t w.vats u r i); links = push_all_passes v t.outbox w.links k.outbox h.links }) e
  put_back_sound v w x head n other h s k e = cc

  within_sound : (v : ℕ) (w x : World) (head : List Event) (n : ℕ) (what : Step Name Name) (q : Vat Name) → WorldSound script w → Sound (names script v) q → StepWell (names script v) (world.readied w q) what
      → world.within v w head n (does (names script v) what) (Some q) ≡ Goes x → WorldSound script x
  unfolding world.within world.readied names
  within_sound v w x head n what q h k i e =
      let ready : Sound (names script v) (world.readied w q) = record { things = k.things; slots = k.slots; lists = k.lists; stacked = k.stacked; queue = k.queue; known = k.known; outbox = tt } in
      put_back_sound v w x head n (does (names script v) what (world.readied w q)) h (world.readied w q) (stays_sound (names script v) (global_spots (draw_word script.key) v) what (world.readied w q) ready i) e

  -- ---- the entries of a schedule

  idle_sound : (k : ℕ) (w x : World) → WorldSound script w → world.idle script k w ≡ Goes x → WorldSound script x
  unfolding world.idle
  idle_sound k w x h e = moved (record w { history = w.history ++ Idle k ∷ [] }) x (record { vats = h.vats; links = h.links }) e

  turn_queue_sound : (k v : ℕ) (w x : World) (s : Vat Name) → WorldSound script w → Sound (names script v) s → (qs : List (Message Name)) → s.queue ≡ qs → world.turn_queue script k v w s qs ≡ Goes x → WorldSound script x
  unfolding world.turn_queue does world.readied
  turn_queue_sound k v w x s h i [] q e = idle_sound k w x h e
  turn_queue_sound k v w x s h i (m ∷ ms) q e = let waiting : AllOf (MessageThere s.lists) (m ∷ ms) = rw q at i.queue in
      within_sound v w x (Turned k v ∷ []) (world.step_number script k) (Takes (world.tree_at script.vats v) script.depth m) (record s { queue = ms }) h
      (record { things = i.things; slots = i.slots; lists = i.lists; stacked = i.stacked; queue = waiting.1; known = i.known; outbox = i.outbox }) waiting.0 e

  turn_sound : (k v : ℕ) (w x : World) → WorldSound script w → (o : Option (Vat Name)) → slice_get w.vats v ≡ o → world.turn script k v w o ≡ Goes x → WorldSound script x
  unfolding world.turn
  turn_sound k v w x h None q e = idle_sound k w x h e
  turn_sound k v w x h (Some s) q e = turn_queue_sound k v w x s h (h.vats v s q) s.queue refl e

  arrives_sound : (k v to : ℕ) (w x : World) (n : Note Name) → WorldSound script w → NotePasses n → (o : Option (Vat Name)) → slice_get w.vats to ≡ o → world.arrives script k v to w n o ≡ Goes x → WorldSound script x
  unfolding world.arrives does
  arrives_sound k v to w x n h i None q e = idle_sound k w x h e
  arrives_sound k v to w x n h i (Some s) q e = within_sound to w x (Carried k v to n (world.next_frame v to w.connections) ∷ []) (world.step_number script k) (Receives v (read_note (names_of s) n)) s h (h.vats to s q) (note_read (names_of s) n i) e

  carry_notes_sound : (k v to : ℕ) (w x : World) → WorldSound script w → (ns : List (Note Name)) → AllOf NotePasses ns → world.carry_notes script k v to w ns ≡ Goes x → WorldSound script x
  unfolding world.carry_notes world.with_notes
  carry_notes_sound k v to w x h [] i e = idle_sound k w x h e
  carry_notes_sound k v to w x h (n ∷ ns) i e = arrives_sound k v to (record w { links = world.with_link (world.with_notes ns) v to w.links }) x n
      (record { vats = h.vats; links = with_link_passes (world.with_notes ns) (λ l j. i.1) v to w.links h.links }) i.0 (slice_get w.vats to) refl e

  carry_cut_sound : (k v to : ℕ) (w x : World) → WorldSound script w → (l : Link) → LinkPasses l → (b : Bool) → elim b [ true ↦ world.idle script k w | false ↦ world.carry_notes script k v to w l.notes ] ≡ Goes x → WorldSound script x
  carry_cut_sound k v to w x h l i true e = idle_sound k w x h e
  carry_cut_sound k v to w x h l i false e = carry_notes_sound k v to w x h l.notes i e

  carry_link_sound : (k v to : ℕ) (w x : World) → WorldSound script w → (o : Option Link) → MayBe LinkPasses o → world.carry_link script k v to w o ≡ Goes x → WorldSound script x
  unfolding world.carry_link
  carry_link_sound k v to w x h None i e = idle_sound k w x h e
  carry_link_sound k v to w x h (Some l) i e = carry_cut_sound k v to w x h l i l.cut e

  cut_sound : (k v to : ℕ) (w x : World) → WorldSound script w → world.cut script k v to w ≡ Goes x → WorldSound script x
  unfolding world.cut world.severed_link
  cut_sound k v to w x h e = moved _ x (record { vats = h.vats; links = with_link_passes world.severed_link (λ l i. tt) to v (world.with_link world.severed_link v to w.links) (with_link_passes world.severed_link (λ l i. tt) v to w.links h.links) }) e

  notice_sound : (k v to : ℕ) (w x : World) → WorldSound script w → (o : Option (Vat Name)) → slice_get w.vats v ≡ o → world.within v w (NoticedAt k v to ∷ []) (world.step_number script k) (notice (names script v) to) o ≡ Goes x → WorldSound script x
  unfolding does world.within
  notice_sound k v to w x h None q e = cc
  notice_sound k v to w x h (Some s) q e = within_sound v w x (NoticedAt k v to ∷ []) (world.step_number script k) (Notices to) s h (h.vats v s q) tt e

  pub step_sound : (entry : Entry) (k : ℕ) (w x : World) → WorldSound script w → world.step script entry k w ≡ Goes x → WorldSound script x
  unfolding world.step
  step_sound (Turn v) k w x h e = turn_sound k v w x h (slice_get w.vats v) refl e
  step_sound (Carry v to) k w x h e = carry_link_sound k v to w x h (world.link_at v to w.links) (link_passes v to w.links h.links) e
  step_sound (CutLink v to) k w x h e = cut_sound k v to w x h e
  step_sound (NoticeLink v to) k w x h e = notice_sound k v to w x h (slice_get w.vats v) refl e

  then_sound : (x : World) (r : Run) (f : World → Run) → ((y : World) → r ≡ Goes y → WorldSound script y) → ((y : World) → WorldSound script y → f y ≡ Goes x → WorldSound script x) → world.then_goes r f ≡ Goes x → WorldSound script x
  unfolding world.then_goes
  then_sound x (Goes y) f a b e = b y (a y refl) e
  then_sound x (Stopped c n y) f a b e = cc

  pub steps_sound : (es : List Entry) (k : ℕ) (w x : World) → WorldSound script w → world.steps_from script es k w ≡ Goes x → WorldSound script x
  unfolding world.steps_from
  steps_sound [] k w x h e = moved w x h e
  steps_sound (entry ∷ es) k w x h e = then_sound x (world.step script entry k w) (world.steps_from script es (suc k)) (λ y i. step_sound entry k w y h i) (λ y i j. steps_sound es (suc k) y x i j) e

  -- ---- the opening turns

  false_true : false ≡ true → ⊥
  false_true e = cc

  pub given_well : (v : ℕ) (s : Vat Name) (ws : List ℕ) → AllOf (NounWell (names script v) s.things s.lists) (world.given script.vats ws)
  unfolding world.given world.name_at any_guard scopes.frozen_guard scopes.freezes native.primitive native.numbered native.primitives
  given_well v s [] = tt
  given_well v s (u ∷ us) = ((tt, tt, λ e. absurd (false_true e)), given_well v s us)

  pub open_sound : (v : ℕ) (p : Program) (w x : World) → WorldSound script w → (o : Option (Vat Name)) → slice_get w.vats v ≡ o
      → world.within v w (Opens v ∷ []) v (opening (names script v) p.tree script.depth (Root v) (world.given script.vats p.knows)) o ≡ Goes x → WorldSound script x
  unfolding does world.within
  open_sound v p w x h None q e = cc
  open_sound v p w x h (Some s) q e = within_sound v w x (Opens v ∷ []) v (Starts p.tree script.depth (Root v) (world.given script.vats p.knows)) s h (h.vats v s q) (given_well v (world.readied w s) p.knows) e

  pub opens_sound : (v : ℕ) (ps : List Program) (w x : World) → WorldSound script w → world.open_from script v ps w ≡ Goes x → WorldSound script x
  unfolding world.open_from world.open_vat
  opens_sound v [] w x h e = moved w x h e
  opens_sound v (p ∷ ps) w x h e = then_sound x (world.open_vat script v p w) (world.open_from script (suc v) ps) (λ y i. open_sound v p w y h (slice_get w.vats v) refl i) (λ y i j. opens_sound (suc v) ps y x i j) e

  -- ---- the start

  roots_there : (ws : List ℕ) → AllOf (KnownThere []) (map world.known_root ws)
  unfolding world.known_root begun
  roots_there [] = tt
  roots_there (w ∷ ws) = ((tt, tt, tt), roots_there ws)

  fresh_sound : (u v : ℕ) (p : Program) → Sound (names script u) (world.fresh script v p)
  unfolding world.fresh world.known_root begun
  fresh_sound u v p = record { things = tt; slots = tt; lists = tt; stacked = tt; queue = tt; known = ((tt, tt, tt), roots_there p.knows); outbox = tt }

  some_is : (s t : Vat Name) → Some s ≡ Some t → s ≡ t
  some_is s t e = cc

  fresh_from_sound : (v : ℕ) (ps : List Program) (u n : ℕ) (s : Vat Name) → slice_get (world.fresh_from script v ps) n ≡ Some s → Sound (names script u) s
  unfolding world.fresh_from
  fresh_from_sound v [] u n s e = cc
  fresh_from_sound v (p ∷ ps) u zero s e = rw (some_is (world.fresh script v p) s e) at (fresh_sound u v p)
  fresh_from_sound v (p ∷ ps) u (suc n) s e = fresh_from_sound (suc v) ps u n s e

  either_links : (b : Bool) (l : Link) (ls : List Link) → LinkPasses l → AllOf LinkPasses ls → AllOf LinkPasses (elim b [ true ↦ ls | false ↦ l ∷ ls ])
  either_links true l ls h i = i
  either_links false l ls h i = (h, i)

  links_to_pass : (v w : ℕ) (ps : List Program) → AllOf LinkPasses (world.links_to v w ps)
  unfolding world.links_to
  links_to_pass v w [] = tt
  links_to_pass v w (p ∷ ps) = either_links (v == w) _ (world.links_to v (suc w) ps) tt (links_to_pass v (suc w) ps)

  links_from_pass : (all : List Program) (v : ℕ) (ps : List Program) → AllOf LinkPasses (world.links_from all v ps)
  unfolding world.links_from
  links_from_pass all v [] = tt
  links_from_pass all v (p ∷ ps) = all_append LinkPasses (world.links_to v zero all) (world.links_from all (suc v) ps) (links_to_pass v zero all) (links_from_pass all (suc v) ps)

  pub begins_sound : WorldSound script (world.begins script)
  unfolding world.begins
  begins_sound = record { vats = λ v s e. fresh_from_sound zero script.vats v v s e; links = links_from_pass script.vats zero script.vats }

  -- ---- the end

  close_sound : (w x : World) → WorldSound script w → world.close script w ≡ Goes x → WorldSound script x
  unfolding world.close
  close_sound w x h e = moved _ x (record { vats = h.vats; links = h.links }) e

  pub run_sound : (x : World) → world.run script ≡ Goes x → WorldSound script x
  unfolding world.run
  run_sound x e = then_sound x (world.open_from script zero script.vats (world.begins script)) (λ w. world.then_goes (world.steps_from script script.schedule 1 w) (world.close script))
      (λ y i. opens_sound zero script.vats (world.begins script) y begins_sound i)
      (λ y i j. then_sound x (world.steps_from script script.schedule 1 y) (world.close script) (λ z k. steps_sound script.schedule 1 y z i k) (λ z k l. close_sound z x k l) j) e

pub reach_in : (script : Script) (w : World) → WorldSound script w → ReachIsFrozenIn script w
unfolding names
reach_in script w h v s e = frozen_reach (names script v) (global_spots (draw_word script.key) v) s (h.vats v s e)

pub reach_in_runs : ReachIsFrozenInRuns
reach_in_runs script = (
  λ ps rest w e opened. reach_in script w (opens_sound script zero ps (world.begins script) w (begins_sound script) opened),
  λ w x es k opened stepped. reach_in script x (steps_sound script es k w x (opens_sound script zero script.vats (world.begins script) w (begins_sound script) opened) stepped),
)

pub reach_at_the_end : ReachIsFrozenAtTheEnd
reach_at_the_end script w e = reach_in script w (run_sound script w e)
