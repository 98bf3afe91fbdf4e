-- In a run, as a vat has learnt what a note tells of a name that settled: what is asked of it for settlings by small steps holds.
use Rattle.std.proofs.Common.{◌≡◌, ℕ, zero, suc, Bool, true, false, List, [], ◌∷◌, ◌++◌, Some, None, length, refl, sym, ap, subst, ◌∙◌, ◌⊎◌, inl, inr, arith}
use Rattle.def_machine.specs.Values.{Words, Value, Broken, Ref, Name, Naming, host_of}
use Rattle.def_machine.specs.State.{Message, Standing, Unsettled, Viewed, Settled, Known, Passed, Note, SettledTo, Put, Vat, Gives, is_in}
use Rattle.def_machine.specs.Refs as refs
use Rattle.def_machine.specs.Refs.{entry_of, standing_of, follow_at}
use Rattle.def_machine.specs.Arrive as arriving
use Rattle.def_run.specs.Draws.{draw_word}
use Rattle.def_run.specs.World.{Script, Carry, Entry, Event, World, Goes, begins, open_from, steps_from, names, readied}
use Rattle.law_fate.specs.Name.Names.{AllOf, HostIsTrue, IsAmong}
use Rattle.law_fate.specs.Name.Runs.{KnowsOnce}
use Rattle.law_fate.specs.Fates.Fate.{total}
use Rattle.law_fate.specs.Fates.Lasting.{Each, KnownWell, SettledWell, NoPromise}
use Rattle.law_fate.specs.Fates.Sound.{KnownSound, ViewsAnother}
use Rattle.law_reference.specs.Reference.Cuts.{NoticesFollowCuts}
use Rattle.law_reference.proofs.Reference.ApartWhole.{bring_new}
use Rattle.law_reference.proofs.Reference.Told.{found_all}
use Rattle.law_order.specs.Ordering.Steps.{Ready}
use Rattle.law_order.specs.Ordering.Worlds.{IsObject}
use Rattle.law_order.specs.Ordering.Arrivals.{IsSilent}
use Rattle.law_order.specs.Arrivals.Tellings.{IsTidy, IsNoteFor, IsOwnEnd, OwnNamesEnd, HostsAreTold}
use Rattle.law_order.specs.Asks.Asks.{Bears}
use Rattle.law_order.proofs.Runs.Beginnings.{each_all, entry_name, named_object}
use Rattle.law_order.proofs.Runs.Truths.{data_self, object_self}
use Rattle.law_order.specs.Waits.Answers.{IsWaitOf}
use Rattle.law_order.proofs.Waits.Runs.{waiters_wait_in_runs}
use Rattle.law_reference.proofs.OwnWaits.Runs.{waits_in_runs}
use Rattle.law_order.proofs.Steady.Facts as facts
use Rattle.law_order.proofs.Steady.Starts.{of_all, steady_at}
use Rattle.law_order.proofs.Steady.Steady.{Steady, less}
use Rattle.law_order.specs.History.Lines.{AllQuiet, was_sent}
use Rattle.law_order.specs.History.Told.{IsOfRun}
use Rattle.law_order.specs.Tales.Middle.{middle, IsQuietLine}
use Rattle.law_order.proofs.News.Teller as teller
use Rattle.law_order.proofs.News.Teller.{settled}
use Rattle.law_order.proofs.News.Tidiness.{tidy}
use Rattle.law_order.proofs.NoticeTales.Unsent.{unsent}
use Rattle.law_order.proofs.NewsTales.Parts.{middle_unsent}
use Rattle.law_order.proofs.Sending.Passing.{entry_host, vats_there, can_pass}
use Rattle.law_order.proofs.MessageTales.Calm.{Calm, StandsOr}
use Rattle.law_order.proofs.MessageTales.Reaching.{IsAtRest}
use Rattle.law_order.proofs.MessageTales.Rests.{rests}
use Rattle.law_order.specs.Settling.Holding.{Holds}
use Rattle.law_order.proofs.SettledTales.Entries.{Learns, IsAsIn, as_was, bare}
use Rattle.law_order.proofs.SettledTales.Learnt as learnt
use Rattle.law_order.proofs.SettledTales.Settles.{HasLearnt}
use Rattle.law_order.proofs.Steady.Wells.{entry_among}

none_each : {A : Type 0} (P : Type 0) (xs : List A) → (P → ⊥) → Each (λ (y : A). P) xs → xs ≡ []
none_each P [] f h = refl
none_each P (y ∷ ys) f h = absurd (f h.0)

silent_for : (b : ℕ) (n : Note Name) → IsSilent n → IsNoteFor b n
silent_for b (Rattle.def_machine.specs.State.Deliver d m verb ys) h = absurd h
silent_for b (Rattle.def_machine.specs.State.Open i m) h = absurd h
silent_for b (Rattle.def_machine.specs.State.Shorten m c i) h = absurd h
silent_for b other h = tt

all_for : (ps : List (Put Name)) → AllOf (λ (p : Put Name). IsSilent p.note) ps → AllOf (λ (p : Put Name). IsNoteFor p.to p.note) ps
all_for [] h = tt
all_for (p ∷ ps) h = (silent_for p.to p.note h.0, all_for ps h.1)

-- ---- where a vat's own names end

module _ (script : Script) (v : ℕ) (ks : List (Known Name)) (objects : (n : Name) → IsObject n → entry_of (names script v) ks n ≡ None) where
  abbrev N : Naming Name Name
  N = names script v

  settled_end : (d : ℕ) (y : Value Name) → NoPromise y → IsOwnEnd v (follow_at N d ks y)
  settled_end d (Ref o) h = let plain : IsObject o = named_object script v o h in subst (IsOwnEnd v) (sym (object_self script v d ks o (objects o plain))) (inl plain)
  settled_end d other h = subst (IsOwnEnd v) (sym (data_self script v d ks other tt)) tt

  standing_end : (n : Name) (t : Standing Name) → SettledWell t → ViewsAnother v n t → host_of n ≡ v → IsOwnEnd v (refs.led N (λ y. follow_at N (length ks) ks y) n t)
  unfolding refs.led
  standing_end n (Viewed q) well another own = absurd (another own)
  standing_end n (Settled y) well another own = settled_end (length ks) y well
  standing_end n other well another own = inr own

  pub own_end : Each KnownWell ks → Each (KnownSound v) ks → (n : Name) (k : Known Name) → entry_of N ks n ≡ Some k → host_of n ≡ v → IsOwnEnd v (follow_at N (suc (length ks)) ks (Ref n))
  unfolding follow_at standing_of refs.standing_in names
  own_end well sound n k e own = let w = found_all (draw_word script.key) v KnownWell ks n k (each_all KnownWell ks well) e in let s = found_all (draw_word script.key) v (KnownSound v) ks n k (each_all (KnownSound v) ks sound) e in
      subst (λ o. IsOwnEnd v (refs.led N (λ y. follow_at N (length ks) ks y) n (refs.standing_in o))) (sym e) (standing_end n k.standing w.standing (subst (λ m. ViewsAnother v m k.standing) (entry_name script v ks n k e) s.viewed) own)

module _ (script : Script) (once : KnowsOnce script) (w x : World) (es : List Entry) (i : ℕ) (follow : NoticesFollowCuts es) (o : open_from script zero script.vats (begins script) ≡ Goes w) (e : steps_from script es i w ≡ Goes x) (of_run : IsOfRun script x)
    (honest : ℕ → Bool) (all : (u : ℕ) → honest u ≡ true) (a b : ℕ) (follow_then : NoticesFollowCuts (es ++ Carry a b ∷ [])) (n : Name) (z : Passed Name) (h : Bears x a b (SettledTo n z)) (head : List Event) (silent : AllQuiet head)
    (m : Name) (r : Vat Name) (v : Value Name) (s : Vat Name) (first : arriving.learn_name (names script b) (learnt.Nn script once w x es i o e honest a b n z h) (readied x h.vat) ≡ Gives m r) (last : arriving.learn (names script b) a (learnt.Zz script once w x es i o e honest a b n z h) r ≡ Gives v s) where
  abbrev K : Naming Name Name
  K = names script b

  abbrev Was : Vat Name
  Was = h.vat

  abbrev Start : Vat Name
  Start = readied x Was

  abbrev Tells : Note Name
  Tells = SettledTo n z

  pub hosted : host_of n ≡ a
  hosted = teller.hosted script once w x es i o e a b n Tells settled h

  pub other : a ≡ b → ⊥
  other = teller.other script once w x es i o e a b n Tells settled h

  pub plain : IsObject n → ⊥
  plain = teller.plain script once w x es i o e a b n Tells settled h

  pub learns : Learns script b Start s
  learns = (learnt.has_learnt script once w x es i o e honest a b n z h m r v s first last).rel

  pub calm : Calm script b Start s
  calm = learns.calm

  -- ---- steady, and ready

  begins_steady : Steady script x b (λ q. 0) (λ q. 0) Start
  unfolding readied of_all total
  begins_steady = less script x b (of_all []) (λ q. 0) (λ q. 0) (λ q. 0) (λ q. omega arith) (λ q. omega arith) Start (steady_at script once w x es i follow o e b Was h.there ((waits_in_runs script once).1 w x es i o e b Was h.there) [] Was.queue refl)

  steady : Steady script x b (λ q. 0) (λ q. 0) s
  steady = learnt.steady_then script once w x es i o e honest a b n z h m r v s first last (bring_new script once w (es ++ Carry a b ∷ []) i follow_then o) (λ q. 0) begins_steady

  ready : Ready script honest x b s
  ready = facts.ready script x b honest (λ q. 0) (λ q. 0) s steady

  -- ---- what it has can pass

  at_rest : IsAtRest script honest x
  at_rest = rests script once honest all x of_run

  hosts : AllOf HostIsTrue s.known
  unfolding readied
  hosts = let stand = at_rest.stands.vats b Was h.there in let kept = stand.kept in calm.hosts kept.hosts

  quiet : AllOf IsQuietLine s.happened
  unfolding readied
  quiet = subst (λ ls. AllOf IsQuietLine ls) (sym calm.happened) calm.quiet

  never_sent : (q : Name) (k : Known Name) → entry_of K Was.known q ≡ Some k → (u : Message Name) → IsAmong u k.reactions → was_sent u.id (middle x b head s).history ≡ false
  never_sent q k f u g = middle_unsent x b head s u.id silent quiet (unsent script w x es i o e b Was h.there u (k, entry_among K Was.known q k f, g))

  unsent_by : (q : Name) (k : Known Name) → IsAsIn script b Start q k → (u : Message Name) → IsAmong u k.reactions → was_sent u.id (middle x b head s).history ≡ false
  unfolding readied
  unsent_by q k (as_was j f c d) u g = never_sent q j f u (subst (λ us. IsAmong u us) d g)
  unsent_by q k (bare c d) u g = absurd (subst (λ us. IsAmong u us) d g)

  holds : Holds script honest x b head s
  unfolding readied
  holds = record {
    ready = ready;
    there = λ y g q j f. vats_there script honest x at_rest.stands at_rest.meet at_rest.far b Was h.there s ready calm.settles hosts (λ c d. subst (λ ds. IsAmong c ds) (sym calm.drawn) d) y g q j f;
    passes = λ g t apart found. can_pass script honest x at_rest.stands at_rest.meet at_rest.far b Was h.there s ready calm.settles hosts (λ c d. subst (λ ds. IsAmong c ds) (sym calm.drawn) d) g t apart found;
    unsent = λ q k f u g. unsent_by q k (learns.entries q k f) u g;
  }

  -- ---- all is tidy

  own : OwnNamesEnd K b s
  own q k f g = let sound = steady.sound in own_end script b s.known ready.ends.objects sound.well sound.names q k f g

  told_hosts : HostsAreTold K s
  unfolding names
  told_hosts q k f = entry_host (draw_word script.key) b s.known q k hosts f

  puts : AllOf (λ (p : Put Name). IsNoteFor p.to p.note) s.outbox
  unfolding readied
  puts = subst (λ ps. AllOf (λ (p : Put Name). IsNoteFor p.to p.note) ps) (sym calm.outbox) (all_for calm.puts calm.silent)

  all_tidy : IsTidy script honest x b s
  all_tidy = tidy script once w x es i o e honest b s told_hosts ready.ends.objects own puts

  -- ---- the name

  known_by : (IsObject n) ⊎ ((k : Known Name) × (entry_of K s.known n ≡ Some k)) → (k : Known Name) × (entry_of K s.known n ≡ Some k)
  known_by (inl c) = absurd (plain c)
  known_by (inr c) = c

  pub entry : (k : Known Name) × (entry_of K s.known n ≡ Some k)
  entry = known_by (subst (λ q. (IsObject q) ⊎ ((k : Known Name) × (entry_of K s.known q ≡ Some k))) (learnt.named script once w x es i o e honest a b n z h m r v s first last) (learnt.has_learnt script once w x es i o e honest a b n z h m r v s first last).held.0)

  empty : (entry.0.held ≡ []) × (entry.0.told ≡ [])
  unfolding names
  empty = let parts = steady.sound in let sound = found_all (draw_word script.key) b (KnownSound b) s.known n entry.0 (each_all (KnownSound b) s.known parts.names) entry.1 in
      let another : (host_of entry.0.name ≡ b → ⊥) = λ c. other (sym hosted ∙ sym (ap host_of (entry_name script b s.known n entry.0 entry.1)) ∙ c) in
      (none_each (host_of entry.0.name ≡ b) entry.0.held another sound.held, none_each (host_of entry.0.name ≡ b) entry.0.told another sound.told)

  -- what waited for it waits, or is broken
  still_waits : (q : Name) → IsWaitOf n (standing_of K Was.known q) → StandsOr K Was.known s.known q → IsWaitOf n (standing_of K s.known q)
  still_waits q c (inl f) = subst (IsWaitOf n) (sym f) c
  still_waits q c (inr f) = subst (IsWaitOf n) (sym f.1) tt

  sleeps_by : IsAsIn script b Start n entry.0 → (q : Name) → IsAmong q entry.0.waiting → IsWaitOf n (standing_of K s.known q)
  unfolding readied
  sleeps_by (as_was j f c d) q g = still_waits q (subst (λ u. IsWaitOf u (standing_of K Was.known q)) (entry_name script b Was.known n j f)
      ((waiters_wait_in_runs script once).1 w x es i follow o e b Was h.there j q (entry_among K Was.known n j f) (subst (λ qs. IsAmong q qs) c g))) (calm.standing q)
  sleeps_by (bare c d) q g = absurd (subst (λ qs. IsAmong q qs) c g)

  noticed : s.noticed ≡ Was.noticed
  noticed = (learnt.stays script once w x es i o e honest a b n z h m r v s first last).1.3

  -- the name is unsettled, or broken
  abbrev IsNew : Standing Name → Type 0
  IsNew t = (t ≡ Unsettled) ⊎ ((p : Words) × (t ≡ Settled (Broken p)))

  stands_by : IsNew (standing_of K Was.known n) → StandsOr K Was.known s.known n → IsNew (standing_of K s.known n)
  stands_by c (inl f) = subst IsNew (sym f) c
  stands_by c (inr f) = inr (f.0, f.1)

  stands : IsNew entry.0.standing
  unfolding standing_of refs.standing_in readied
  stands = subst IsNew (ap (λ c. refs.standing_in c) entry.1) (stands_by (teller.new script once w x es i o e a b n Tells settled h follow) (calm.standing n))

  before_by : IsAsIn script b Start n entry.0 → (entry.0.waiting ≡ []) ⊎ ((j : Known Name) × (entry_of K Was.known n ≡ Some j))
  unfolding readied
  before_by (as_was j f c d) = inr (j, f)
  before_by (bare c d) = inl c

  pub has_learnt : HasLearnt script honest all x b a Was h.there head n hosted other plain s
  has_learnt = record {
    steady = steady;
    holds = holds;
    tidy = all_tidy;
    unnoticed = ap (is_in a) noticed ∙ teller.unnoticed script once w x es i o e a b n Tells settled h follow;
    entry = entry.0;
    found = entry.1;
    bare = empty;
    new = stands;
    was_known = before_by (learns.entries n entry.0 entry.1);
    sleeps = sleeps_by (learns.entries n entry.0 entry.1);
  }
