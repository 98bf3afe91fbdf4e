-- A note that tells what a name settled to is carried in a run: what it tells is so, and the receiver is told so.
use Rattle.std.proofs.Common.{◌≡◌, ℕ, zero, Bool, true, false, List, [], ◌∷◌, ◌++◌, Some, None, length, refl, sym, ap, subst, ◌∙◌, inl, inr, eqb-true}
use Rattle.std.specs.Prelude.{◌==◌}
use Rattle.def_machine.specs.Values.{Value, Ref, Name, Object, Naming, Own, Foreign, naming, spot_of, host_of}
use Rattle.def_machine.specs.State.{Known, Note, SettledTo, Passed, Plain, Unsettled, Settled, Settles, Vat, Done, Gives, is_in, ◌>>=◌}
use Rattle.def_machine.specs.State as state
use Rattle.def_machine.specs.Refs as refs
use Rattle.def_machine.specs.Refs.{entry_of, standing_of, follow_at}
use Rattle.def_machine.specs.Arrive as arriving
use Rattle.def_run.specs.Draws.{draw_word}
use Rattle.def_run.specs.World as world
use Rattle.def_run.specs.World.{Script, Carry, Entry, Event, Link, World, Goes, begins, open_from, steps_from, names, read_note, readied}
use Rattle.law_machine.proofs.Machine.StepLaws.{settled_entry}
use Rattle.law_fate.specs.Name.Names.{AllOf, names_in}
use Rattle.law_fate.specs.Name.Runs.{KnowsOnce}
use Rattle.law_fate.specs.Fates.Lasting.{Each, KnownWell, NoteWell, PassedLast, NoPromise, SettledWell}
use Rattle.law_fate.specs.Fates.Wellness.{WorldWell}
use Rattle.law_fate.proofs.Fates.RunWell.{runs_stay_well}
use Rattle.law_reference.specs.Reference.Cuts.{NoticesFollowCuts}
use Rattle.law_reference.proofs.Reference.Told.{found_all}
use Rattle.law_reference.proofs.Reference.VatStep.{link_all}
use Rattle.law_order.specs.Ordering.Ways.{End, Queue}
use Rattle.law_order.specs.Ordering.Places.{delivered, aimed, leads_in}
use Rattle.law_order.specs.Ordering.Worlds.{IsObject, FollowsEnd}
use Rattle.law_order.specs.Ordering.Settle.{IsEnded, IsOwnSpot, settled_to}
use Rattle.law_order.specs.Ordering.Settlings.{with_line}
use Rattle.law_order.proofs.Ordering.Arrived.{learnt_leads}
use Rattle.law_order.specs.Arrivals.Tellings.{IsToldOf}
use Rattle.law_order.proofs.Runs.Beginnings.{reached_is, each_all, named_object}
use Rattle.law_order.proofs.Runs.ToldRuns.{NoteTrue}
use Rattle.law_order.proofs.Runs.Truths.{data_self, object_self}
use Rattle.law_order.specs.Asks.Asks.{Bears}
use Rattle.law_order.proofs.Asks.Steps as steps
use Rattle.law_order.proofs.Steady.Facts.{ClearSpot, IsClear}
use Rattle.law_order.specs.News.News.{BearsSettled}
use Rattle.law_order.proofs.News.Tidiness.{objects_unknown}
use Rattle.law_order.proofs.News.Teller as teller
use Rattle.law_order.proofs.News.Teller.{settled}
use Rattle.law_order.proofs.News.Learnt.{Learnt, learns}
use Rattle.law_order.proofs.News.Away.{told_settled}
use Rattle.law_order.proofs.News.Carried as carried
use Rattle.law_order.proofs.News.Resting as resting

-- ---- an object leads to the queue of its vat

module _ (script : Script) (honest : ℕ → Bool) (u : ℕ) (t : Vat Name) (n o : Name) (there : standing_of (names script u) t.known n ≡ Settled (Ref o)) (own : IsOwnSpot ((names script u).spot o)) (unknown : entry_of (names script u) t.known o ≡ None) where
  abbrev Here : Naming Name Name
  Here = names script u

  whole_by : (q : _) → IsOwnSpot q → refs.severed_at Here t o q ≡ Ref o
  unfolding refs.severed_at
  whole_by (Own i) h = refl
  whole_by other h = absurd h

  near_by : (q : _) → IsOwnSpot q → refs.spotted Here t o q ≡ refs.Near
  unfolding refs.spotted
  near_by (Own i) h = refl
  near_by other h = absurd h

  followed : refs.follow Here t (Ref n) ≡ Ref o
  unfolding refs.follow follow_at refs.led refs.severed
  followed = ap (λ y. refs.severed Here t y) (ap (λ z. refs.led Here (λ y. follow_at Here (length t.known) t.known y) n z) there ∙ object_self script u (length t.known) t.known o unknown) ∙ whole_by (Here.spot o) own

  placed : refs.place Here t (Ref o) ≡ refs.Near
  unfolding refs.place
  placed = near_by (Here.spot o) own

  pub near_leads : leads_in script honest u t (Ref n) ≡ End (Queue u) o
  unfolding refs.standing_of aimed
  near_leads = let known = settled_entry (entry_of Here t.known n) (Ref o) there in learnt_leads script honest u t n (inr (known.0, known.1)) ∙ ap (λ y. aimed u y (refs.place Here t y)) followed ∙ ap (λ q. aimed u (Ref o) q) placed

host_own : (script : Script) (u : ℕ) (o : Name) → IsObject o → IsOwnSpot ((names script u).spot o) → host_of o ≡ u
unfolding names naming spot_of host_of
host_own script u (Object w i) p own = go (u == w) refl own
  where
    go : (c : Bool) → (u == w) ≡ c → IsOwnSpot (elim c [ true ↦ Own i | false ↦ Foreign w ]) → w ≡ u
    go true e q = sym (eqb-true u w e)
    go false e q = absurd q
host_own script u other p own = absurd p

-- it is an object of another vat elsewhere
spot_far : (script : Script) (v a : ℕ) (o : Name) → IsObject o → host_of o ≡ a → (a ≡ v → ⊥) → (names script v).spot o ≡ Foreign a
unfolding names naming spot_of host_of
spot_far script v a (Object w i) p e f = go (v == w) refl
  where
    go : (c : Bool) → (v == w) ≡ c → elim c [ true ↦ Own i | false ↦ Foreign w ] ≡ Foreign a
    go true g = absurd (f (sym e ∙ sym (eqb-true v w g)))
    go false g = ap Foreign e
spot_far script v a other p e f = absurd p

-- ---- where a note tells that, it is so

module _ (script : Script) (once : KnowsOnce script) (w x : World) (es : List Entry) (k : ℕ) (o : open_from script zero script.vats (begins script) ≡ Goes w) (e : steps_from script es k w ≡ Goes x) (honest : ℕ → Bool)
    (a : ℕ) (n q : Name) (told : NoteTrue script x.vats a (SettledTo n (Plain (Ref q)))) (object : IsObject q) where
  abbrev Sender : Vat Name
  Sender = told.0

  sender_well : (j : Known Name) → entry_of (names script a) Sender.known n ≡ Some j → KnownWell j
  unfolding names
  sender_well j g = found_all (draw_word script.key) a KnownWell Sender.known n j (each_all KnownWell Sender.known ((reached_is WorldWell _ x e ((runs_stay_well script).1 w es k o)).vats a Sender told.1)) g

  ended_is : (z : Value Name) → NoPromise z → IsEnded z
  ended_is (Ref r) g = named_object script a r g
  ended_is other g = tt

  told_ended : IsEnded told.2.0
  unfolding refs.standing_of
  told_ended = let j = settled_entry (entry_of (names script a) Sender.known n) told.2.0 told.2.1 in ended_is told.2.0 (subst SettledWell j.2 (sender_well j.0 j.1).standing)

  none_known : (r : Name) → IsObject r → entry_of (names script a) Sender.known r ≡ None
  none_known r i = objects_unknown script once w x es k o e honest a Sender told.1 r i

  found : (told.2.0 ≡ Ref q) × IsOwnSpot ((names script a).spot q)
  found = told.2.2 told_ended (λ r i. none_known r (subst IsEnded i told_ended))

  pub told_host : host_of q ≡ a
  told_host = host_own script a q object found.1

  pub told_leads : leads_in script honest a Sender (Ref n) ≡ End (Queue a) q
  told_leads = near_leads script honest a Sender n q (told.2.1 ∙ ap Settled found.0) found.1 (none_known q object)

-- ---- what a note tells that a name settled to is no promise, and no gift

all_links : (ls : List Link) → Each (λ (l : Link). Each NoteWell l.notes) ls → AllOf (λ (l : Link). AllOf NoteWell l.notes) ls
all_links [] g = tt
all_links (l ∷ ls) g = (each_all NoteWell l.notes g.0, all_links ls g.1)

pub told_last : (script : Script) (w x : World) (es : List Entry) (k : ℕ) → open_from script zero script.vats (begins script) ≡ Goes w → steps_from script es k w ≡ Goes x → (a b : ℕ) (n : Name) (y : Passed Name) → Bears x a b (SettledTo n y) → PassedLast y
told_last script w x es k o e a b n y h = (subst (λ ns. AllOf NoteWell ns) h.first (link_all (λ (l : Link). AllOf NoteWell l.notes) a b x.links h.link (all_links x.links (reached_is WorldWell _ x e ((runs_stay_well script).1 w es k o)).links) h.found)).0

-- ---- values that are no lists

value_learnt : (K : Naming Name Name) (ks : List Name) (v : Value Name) (s : Vat Name) → NoPromise v → arriving.learn_value K (world.read_value ks v).read s ≡ Gives v s
unfolding world.read_value world.read_name world.is_old arriving.learn_value arriving.learn_name state.◌>>=◌ state.and_then state.give
value_learnt K ks (Ref (Object w i)) s h = refl
value_learnt K ks (Ref other) s h = absurd h
value_learnt K ks other s h = refl

module _ (script : Script) (once : KnowsOnce script) (w x y : World) (es : List Entry) (k a b : ℕ) (n : Name) (v : Value Name) (follow : NoticesFollowCuts es)
    (o : open_from script zero script.vats (begins script) ≡ Goes w) (e : steps_from script es k w ≡ Goes x) (f : steps_from script (es ++ Carry a b ∷ []) k w ≡ Goes y) (honest : ℕ → Bool) (h : BearsSettled script honest x a b n v) where
  abbrev K : Naming Name Name
  K = names script b

  abbrev Tells : Note Name
  Tells = SettledTo n (Plain v)

  abbrev Was : Vat Name
  Was = h.borne.vat

  plain : IsObject n → ⊥
  plain = teller.plain script once w x es k o e a b n Tells settled h.borne

  hosted : host_of n ≡ a
  hosted = teller.hosted script once w x es k o e a b n Tells settled h.borne

  other : a ≡ b → ⊥
  other = teller.other script once w x es k o e a b n Tells settled h.borne

  unnoticed : is_in a Was.noticed ≡ false
  unnoticed = teller.unnoticed script once w x es k o e a b n Tells settled h.borne follow

  pub learnt : (s : Vat Name) × (arriving.learn_name K (world.read_name (names_in Was.known) n) (readied x Was) ≡ Gives n s) × Learnt script x honest b Was n s
  learnt = learns script once w x es k o e honest b Was h.borne.there n (teller.made script once w x es k o e a b n Tells settled h.borne) plain

  abbrev S : Vat Name
  S = learnt.0

  abbrev L : Learnt script x honest b Was n S
  L = learnt.2

  -- ---- what it settled to

  pub lasts : NoPromise v
  lasts = told_last script w x es k o e a b n (Plain v) h.borne

  there_told : NoteTrue script x.vats a Tells
  there_told = teller.told script once w x es k o e a b n Tells settled h.borne

  -- ---- the arrival

  pub bare : (ns : List (Note Name)) → delivered (Tells ∷ ns) ≡ delivered ns
  unfolding delivered
  bare ns = refl

  abbrev Ns : List Name
  Ns = names_in Was.known

  abbrev Arrival : Done Name (Unit {0})
  Arrival = steps.Arrival script honest x a b Tells h.borne

  pub arrival : Arrival ≡ refs.settle K n v S
  unfolding arriving.arrive arriving.arrive_settled arriving.learn world.read_note world.read_passed world.plain_read state.◌>>=◌ state.and_then
  arrival = ap (λ d. state.and_then d (λ m. arriving.learn K a (Plain (world.read_value (world.known_after Ns n) v).read) >>= (λ z. refs.settle K m z))) learnt.1
      ∙ ap (λ d. state.and_then d (λ z. refs.settle K n z)) (value_learnt K (world.known_after Ns n) v S lasts)

  abbrev came : (t : Vat Name) × (head : List Event) × (Arrival ≡ Gives tt t) × (y ≡ steps.Then script honest x a b Tells h.borne head t)
  came = carried.came script once w x y es k a b Tells h.borne tt bare o e f honest

  abbrev T : Vat Name
  T = came.0

  pub ends : refs.settle K n v S ≡ Gives tt T
  ends = sym arrival ∙ came.2

  abbrev Then : Vat Name
  Then = settled_to K (with_line S (Settles n v)) n v

  -- ---- what it settled to is clear, and the vat is told so

  abbrev ToldRef : Name → Type 0
  ToldRef q = NoteTrue script x.vats a (SettledTo n (Plain (Ref q)))

  ref_told : (q : Name) → v ≡ Ref q → ToldRef q
  ref_told q i = subst (λ z. NoteTrue script x.vats a (SettledTo n (Plain z))) i there_told

  pub ref_object : (q : Name) → v ≡ Ref q → IsObject q
  ref_object q i = named_object script a q (subst NoPromise i lasts)

  pub ref_host : (q : Name) → v ≡ Ref q → host_of q ≡ a
  ref_host q i = told_host script once w x es k o e honest a n q (ref_told q i) (ref_object q i)

  clear_by : (z : Value Name) → v ≡ z → IsClear K Was.noticed z
  clear_by (Ref q) i = subst (λ s. ClearSpot Was.noticed s) (sym (spot_far script b a q (ref_object q i) (ref_host q i) other)) unnoticed
  clear_by other i = tt

  pub clear : IsClear K Was.noticed v
  clear = clear_by v refl

  pub empty : (j : Known Name) → entry_of K Was.known n ≡ Some j → (j.held ≡ []) × (j.told ≡ [])
  empty j g = teller.empty script once w x es k o e a b n Tells settled h.borne j g

  away : host_of n ≡ b → ⊥
  away g = other (sym hosted ∙ g)

  module _ (unsettled : L.entry.standing ≡ Unsettled) where
    ended : FollowsEnd K T
    ended = carried.ended script once w x y es k a b Tells h.borne tt bare o e f honest

    follows : FollowsEnd K Then
    follows = resting.follows script once w x es k follow o e honest b Was h.borne.there n away S L empty v lasts h.single clear T ends ended h.waiters unsettled

    ended_by : (z : Value Name) → NoPromise z → (d : ℕ) → follow_at K d Then.known z ≡ z
    ended_by (Ref q) g d = object_self script b d Then.known q (follows.objects q (named_object script b q g))
    ended_by other g d = data_self script b d Then.known other tt

    pub told : IsToldOf script b a S Then n v
    told = record {
      only = told_settled script b S n v L.entry L.found unsettled (resting.bare script once w x es k follow o e honest b Was h.borne.there n away S L empty v lasts h.single clear T ends).0;
      own = L.ready.number;
      host = hosted;
      other = other;
      reached = inl (ap (λ ws. is_in a ws) L.noticed ∙ unnoticed);
      plain = plain;
      follows = follows;
      ended = ended_by v lasts;
    }
