-- A vat learns the name of which a note tells, and what stands of it then.
use Rattle.std.proofs.Common.{◌≡◌, ℕ, zero, suc, ◌≤◌, Bool, true, false, List, [], ◌∷◌, ◌++◌, Some, None, refl, sym, ap, subst, ◌∙◌, ◌⊎◌, inl, inr, le_refl, arith}
use Rattle.std.specs.Prelude.{slice_get}
use Rattle.def_machine.specs.Values.{Words, Broken, Name, Object, Promise, Answer, Gift, Sent, Msg, Naming, host_of, naming, name_of}
use Rattle.def_machine.specs.State.{Known, Standing, Unsettled, Settled, Vat, Gives, begun, come, give}
use Rattle.def_machine.specs.Refs as refs
use Rattle.def_machine.specs.Refs.{entry_of, standing_of}
use Rattle.def_machine.specs.Arrive as arriving
use Rattle.def_machine.specs.Arrive.{Old, New}
use Rattle.def_run.specs.World as world
use Rattle.def_run.specs.World.{Script, Entry, World, Goes, begins, open_from, steps_from, names, readied}
use Rattle.law_fate.specs.Name.Names.{AllOf, IsMade, KnownOk, WasDrawn, WasMade, messages_of, promises_of, names_in}
use Rattle.law_fate.specs.Name.Runs.{KnowsOnce}
use Rattle.law_fate.proofs.Name.Laws.{names_made, next_new}
use Rattle.law_fate.proofs.Name.SameNames.{new_unknown}
use Rattle.law_order.specs.Ordering.Steps.{Ready, Grown}
use Rattle.law_order.specs.Ordering.Worlds.{IsObject, IsKnown}
use Rattle.law_order.specs.Ordering.Arrivals.{IsLearnt}
use Rattle.law_order.proofs.Ordering.Coming.{new_entry}
use Rattle.law_order.proofs.Ordering.News.{came_none, stays_self}
use Rattle.law_order.specs.Arrivals.Tellings.{HostsAreTold, OwnNamesEnd}
use Rattle.law_order.specs.Carries.Carries.{IsNotNext}
use Rattle.law_order.proofs.Carries.Learning.{Came, alone_self, come_stays, differs}
use Rattle.law_order.proofs.Carries.Carried.{learnt_in}
use Rattle.law_order.proofs.Runs.Beginnings.{none_found, own_messages, own_promises, vats_are_ready}
use Rattle.law_order.proofs.Runs.OwnRuns.{own_names_end}
use Rattle.law_order.proofs.News.Tidiness.{own_came, hosts_came, hosts_told}

module _ (script : Script) (x : World) (honest : ℕ → Bool) (b : ℕ) (was : Vat Name) (n : Name) where
  abbrev K : Naming Name Name
  K = names script b

  -- The vat knows the name, as it was known before or as it came to be known just now. Of all else that counts nothing changed.
  pub record Learnt (s : Vat Name) : Type 0 where
    pub ready : Ready script honest x b s
    pub grown : Grown script honest x b (readied x was) s
    pub entry : Known Name
    pub found : entry_of K s.known n ≡ Some entry
    pub stood : ((entry_of K was.known n ≡ Some entry) × (s ≡ readied x was)) ⊎ (entry ≡ begun n (host_of n))
    pub hosts : HostsAreTold K s
    pub own : OwnNamesEnd K b s
    -- a gift under a word that was not drawn is not known
    pub new : (g i : ℕ) → (WasDrawn x.drawn i → ⊥) → entry_of K s.known (Gift g i) ≡ None
    pub drawn : s.drawn ≡ x.drawn
    pub noticed : s.noticed ≡ was.noticed
    pub gifts : s.gifts ≡ was.gifts
    pub empty : s.outbox ≡ []
    pub lists : s.lists ≡ was.lists

  -- how it stands: unsettled, or broken
  abbrev pub IsNew : Standing Name → Type 0
  IsNew t = (t ≡ Unsettled) ⊎ ((p : Words) × (t ≡ Settled (Broken p)))

  stood_so : (j : Known Name) → entry_of K was.known n ≡ Some j → IsNew (standing_of K was.known n) → IsNew j.standing
  unfolding standing_of refs.standing_in
  stood_so j i h = subst IsNew (ap (λ o. refs.standing_in o) i) h

  begun_new : IsNew (begun n (host_of n)).standing
  unfolding begun
  begun_new = inl refl

  pub stands : (s : Vat Name) (l : Learnt s) → IsNew (standing_of K was.known n) → IsNew l.entry.standing
  stands s l h = go l.stood
    where
      go : ((entry_of K was.known n ≡ Some l.entry) × (s ≡ readied x was)) ⊎ (l.entry ≡ begun n (host_of n)) → IsNew l.entry.standing
      go (inl i) = stood_so l.entry i.0 h
      go (inr i) = subst (λ (j : Known Name). IsNew j.standing) (sym i) begun_new

module _ (script : Script) (once : KnowsOnce script) (w x : World) (es : List Entry) (k : ℕ) (o : open_from script zero script.vats (begins script) ≡ Goes w) (e : steps_from script es k w ≡ Goes x)
    (honest : ℕ → Bool) (b : ℕ) (was : Vat Name) (there : slice_get x.vats b ≡ Some was) (n : Name) (made : WasMade x.vats x.drawn n) (plain : IsObject n → ⊥) where
  abbrev N : Naming Name Name
  N = names script b

  abbrev Start : Vat Name
  Start = readied x was

  abbrev Ns : List Name
  Ns = names_in was.known

  ready : Ready script honest x b Start
  ready = (vats_are_ready script once).1 w x es k o e honest b was was.queue there

  known_made : AllOf (KnownOk (IsMade x.vats x.drawn)) was.known
  known_made = ((names_made script once).1 w x es k o e b was there).known

  no_gift : (g i : ℕ) → (WasDrawn x.drawn i → ⊥) → entry_of N was.known (Gift g i) ≡ None
  no_gift g i f = none_found script b was.known (Gift g i) (λ a. ((next_new script once).1 w x es k o e b was there b was there).2 g i f a)

  abbrev Next : Msg
  Next = record { sender = b; number = was.messages }

  message : (m : Msg) → n ≡ Sent m → ⊥
  message m f = subst (WasMade x.vats x.drawn) f made

  answer : (h j : ℕ) → was.messages ≤ j → n ≡ Answer h (record { sender = b; number = j }) → ⊥
  answer h j l f = let less : suc j ≤ messages_of x.vats b = subst (WasMade x.vats x.drawn) f made in let own = own_messages script b x was there known_made in omega arith

  promise : (j : ℕ) → was.promises ≤ j → n ≡ Promise b j → ⊥
  promise j l f = let less : suc j ≤ promises_of x.vats b = subst (WasMade x.vats x.drawn) f made in let own = own_promises script b x was there known_made in omega arith

  not_next : IsNotNext b Start (Answer zero Next) n
  unfolding readied
  not_next = (λ f. answer zero was.messages (le_refl was.messages) f, message, answer, promise)

  known_so : world.is_old Ns n ≡ true → IsKnown N was n
  unfolding world.known_after
  known_so f = go (learnt_in script b was Ns n message (ap (λ c. elim c [ true ↦ Ns | false ↦ Ns ++ n ∷ [] ]) (sym f)))
    where
      go : IsLearnt b script was n → IsKnown N was n
      go (inl i) = absurd (plain i)
      go (inr i) = i

  old : world.is_old Ns n ≡ true → Learnt script x honest b was n Start
  unfolding readied
  old f = let i = known_so f in record {
    ready = ready;
    grown = (stays_self script honest x b Start ready).1;
    entry = i.0;
    found = i.1;
    stood = inl (i.1, refl);
    hosts = hosts_told script once w x es k o e honest b was there;
    own = (own_names_end script once).1 w x es k o e b was there;
    new = no_gift;
    drawn = refl;
    noticed = refl;
    gifts = refl;
    empty = refl;
    lists = refl;
  }

  unknown : world.is_old Ns n ≡ false → entry_of N was.known n ≡ None
  unknown f = none_found script b was.known n (new_unknown Ns n f)

  eventual_entry : entry_of N was.known n ≡ None → entry_of N (was.known ++ begun n (host_of n) ∷ []) n ≡ Some (begun n (host_of n))
  eventual_entry f = new_entry N was.known (begun n (host_of n)) n f ∙ alone n plain message
    where
      alone : (m : Name) → (IsObject m → ⊥) → ((i : Msg) → m ≡ Sent i → ⊥) → entry_of N (begun m (host_of m) ∷ []) m ≡ Some (begun m (host_of m))
      alone (Object g i) p q = absurd (p tt)
      alone (Sent m) p q = absurd (q m refl)
      alone other p q = alone_self script b other (host_of other) tt

  came : world.is_old Ns n ≡ false → Learnt script x honest b was n (Came script honest x b Start n plain)
  unfolding readied names naming
  came f = let r = come_stays script honest x b Start n plain (Answer zero Next) not_next ready in record {
    ready = r.0;
    grown = r.1;
    entry = begun n (host_of n);
    found = eventual_entry (unknown f);
    stood = inr refl;
    hosts = hosts_came script honest b Start n ready.ends plain (unknown f) (hosts_told script once w x es k o e honest b was there);
    own = own_came script honest b Start n ready.ends plain (unknown f) ((own_names_end script once).1 w x es k o e b was there);
    new = λ g i q. came_none N Start n (host_of n) plain ready.ends (Gift g i) (no_gift g i q) (differs n (Gift g i) (λ z. q (subst (WasMade x.vats x.drawn) z made)));
    drawn = refl;
    noticed = refl;
    gifts = refl;
    empty = refl;
    lists = refl;
  }

  -- the name is learnt, one way or the other
  pub learns : (s : Vat Name) × (arriving.learn_name N (world.read_name Ns n) Start ≡ Gives n s) × Learnt script x honest b was n s
  unfolding world.read_name arriving.learn_name give come names naming name_of
  learns = go (world.is_old Ns n) refl
    where
      go : (c : Bool) → world.is_old Ns n ≡ c → (s : Vat Name) × (arriving.learn_name N (elim c [ true ↦ Old n | false ↦ New n (host_of n) ]) Start ≡ Gives n s) × Learnt script x honest b was n s
      go true f = (Start, refl, old f)
      go false f = (Came script honest x b Start n plain, refl, came f)
