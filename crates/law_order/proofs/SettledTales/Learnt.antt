-- In a run a vat learns what the first note of a link tells: the name that settled, and to what. It stays ready and steady, no message moves, and what waits and reacts is as it was.
use Rattle.std.proofs.Common.{◌≡◌, ℕ, zero, suc, ◌+◌, ◌≤◌, Bool, List, [], ◌∷◌, ◌++◌, refl, subst, inr, arith, le_refl}
use Rattle.def_machine.specs.Values.{Value, Ref, Items, Name, Answer, Msg, Naming}
use Rattle.def_machine.specs.State.{Passed, Passeds, Plain, AGift, Many, NoMore, More, Note, SettledTo, Vat, Done, Gives}
use Rattle.def_machine.specs.Arrive as arriving
use Rattle.def_machine.specs.Arrive.{Incoming}
use Rattle.def_run.specs.World as world
use Rattle.def_run.specs.World.{Script, Carry, Entry, Link, World, Goes, begins, open_from, steps_from, step, names, readied, read_passed}
use Rattle.law_fate.specs.Name.Names.{AllOf, IsMade, WasMade, ValueOk, PassedOk, PassedsOk, NoteOk, KnownOk, messages_of, promises_of, names_in}
use Rattle.law_fate.specs.Name.Runs.{KnowsOnce}
use Rattle.law_fate.proofs.Name.Laws.{names_made, notes_made}
use Rattle.law_fate.specs.Fates.Lasting.{PassedComes}
use Rattle.law_fate.specs.Fates.Sound.{HostComes, PassedHosts}
use Rattle.law_fate.proofs.Fates.RunWell.{read_comes, all_come}
use Rattle.law_fate.proofs.Fates.WorldLight.{note_arrives}
use Rattle.law_reference.specs.Reference.GiftPassing.{gifts_in, gifts_in_all, gifts_in_note}
use Rattle.law_reference.specs.Reference.Knowing.{claims, new_name, new_in}
use Rattle.law_reference.specs.Reference.NameTableRuns.{allowed, EntryBringsNew, NotesBringNew}
use Rattle.law_reference.proofs.Reference.VatStep.{link_all}
use Rattle.law_order.specs.Ordering.Steps.{Ready, StaysReady}
use Rattle.law_order.specs.Asks.Asks.{Bears}
use Rattle.law_order.specs.Carries.Carries.{IsNotNext, ValueNotNext, PassedNotNext, AllNotNext}
use Rattle.law_order.proofs.Carries.Learning as learning
use Rattle.law_order.proofs.Carries.Learning.{Yields, IsAt}
use Rattle.law_order.proofs.News.Teller as teller
use Rattle.law_order.proofs.News.Teller.{settled}
use Rattle.law_order.proofs.Runs.Beginnings.{own_messages, own_promises, vats_are_ready}
use Rattle.law_order.proofs.Runs.NewGifts.{IsNew, AllNew, new_all}
use Rattle.law_order.proofs.Runs.NewGifts as gifts
use Rattle.law_order.proofs.Steady.Steady.{Steady}
use Rattle.law_order.proofs.MessageTales.Learnt as learnt
use Rattle.law_order.proofs.MessageTales.Learnt.{IsHaving}
use Rattle.law_order.proofs.SettledTales.Entries.{Learns}
use Rattle.law_order.proofs.SettledTales.Entries as entries
use Rattle.law_order.proofs.SettledTales.Learning.{both, learnt_steady}

-- what the vat has for what was told
abbrev pub HasFor : Passed Name → Value Name → Type 0
HasFor (Plain y) x = x ≡ y
HasFor (AGift g i) x = Unit {0}
HasFor (Many ys) x = (k : ℕ) × (x ≡ Items k)

abbrev pub HasAll : Passeds Name → List (Value Name) → Type 0
HasAll NoMore xs = Unit {0}
HasAll (More y ys) [] = ⊥
HasAll (More y ys) (x ∷ xs) = HasFor y x × HasAll ys xs

pub having : IsHaving (λ ls y x. HasFor y x) (λ ls ys xs. HasAll ys xs)
having = record { plain = λ ls y. refl; gift = λ ls h i. tt; many = λ ls ys k vs e h. (k, refl); none = λ ls. tt; one_more = λ ls y ys x xs h k. (h, k); later = λ ls ms y x h. h; all_later = λ ls ms ys xs h. h }

yielded : {A : Type 0} (P : A → Vat Name → Type 0) (d : Done Name A) (a : A) (t : Vat Name) → d ≡ Gives a t → Yields P d → P a t
yielded P d a t e h = subst (λ z. Yields P z) e h

-- ---- the last entry brings what is new

then_last : (x : World) (e : Entry) (r : world.Run) (f : World → world.Run) → ((y : World) → r ≡ Goes y → f y ≡ Goes x → EntryBringsNew x e) → world.then_goes r f ≡ Goes x → EntryBringsNew x e
unfolding world.then_goes
then_last x e (Goes y) f g i = g y refl i
then_last x e other f g i = absurd (cc)

new_last : (script : Script) (es : List Entry) (e : Entry) (k : ℕ) (w x : World) → NotesBringNew script (es ++ e ∷ []) k w → steps_from script es k w ≡ Goes x → EntryBringsNew x e
unfolding steps_from
new_last script [] e k w x h f = subst (λ z. EntryBringsNew z e) (same_world w x f) h.0
  where
    same_world : (a b : World) → Goes a ≡ Goes b → a ≡ b
    same_world a b g = cc
new_last script (d ∷ es) e k w x h f = then_last x e (step script d k w) (λ y. steps_from script es (suc k) y) (λ y g i. new_last script es e (suc k) y x (h.1 y g) i) f

module _ (script : Script) (once : KnowsOnce script) (w x : World) (es : List Entry) (k : ℕ) (o : open_from script zero script.vats (begins script) ≡ Goes w) (e : steps_from script es k w ≡ Goes x)
    (honest : ℕ → Bool) (a b : ℕ) (n : Name) (z : Passed Name) (h : Bears x a b (SettledTo n z)) where
  abbrev K : Naming Name Name
  K = names script b

  abbrev Tells : Note Name
  Tells = SettledTo n z

  abbrev pub Start : Vat Name
  Start = readied x h.vat

  abbrev Ns : List Name
  Ns = names_in h.vat.known

  abbrev Next : Msg
  Next = record { sender = b; number = h.vat.messages }

  abbrev Own : Name
  Own = Answer zero Next

  -- the name, and what is told of it
  abbrev Pair : Passeds Name
  Pair = More (Plain (Ref n)) (More z NoMore)

  -- ---- what the note names

  made : NoteOk (IsMade x.vats x.drawn) Tells
  made = (subst (λ ns. AllOf (NoteOk (IsMade x.vats x.drawn)) ns) h.first (link_all (λ (l : Link). AllOf (NoteOk (IsMade x.vats x.drawn)) l.notes) a b x.links h.link ((notes_made script once).1 w x es k o e) h.found)).0

  known_made : AllOf (KnownOk (IsMade x.vats x.drawn)) h.vat.known
  known_made = ((names_made script once).1 w x es k o e b h.vat h.there).known

  no_answer : (q : Name) → WasMade x.vats x.drawn q → (g i : ℕ) → h.vat.messages ≤ i → q ≡ Answer g (record { sender = b; number = i }) → ⊥
  no_answer q p g i l f = let less : suc i ≤ messages_of x.vats b = subst (WasMade x.vats x.drawn) f p in let own = own_messages script b x h.vat h.there known_made in omega arith

  not_next : (q : Name) → WasMade x.vats x.drawn q → IsNotNext b h.vat Own q
  not_next q p = (
    λ f. no_answer q p zero h.vat.messages (le_refl h.vat.messages) f,
    λ m f. subst (WasMade x.vats x.drawn) f p,
    λ g i l f. no_answer q p g i l f,
    λ i l f. let less : suc i ≤ promises_of x.vats b = subst (WasMade x.vats x.drawn) f p in let own = own_promises script b x h.vat h.there known_made in omega arith,
  )

  value_next : (y : Value Name) → ValueOk (IsMade x.vats x.drawn) y → ValueNotNext b h.vat Own y
  value_next (Ref q) p = not_next q p
  value_next other p = tt

  mutual
    passed_next : (y : Passed Name) (ns : List Name) → PassedOk (IsMade x.vats x.drawn) y → IsNew b ns y → PassedNotNext b h.vat Own ns y
    passed_next (Plain y) ns p g = value_next y p
    passed_next (AGift c i) ns p g = inr g
    passed_next (Many ys) ns p g = all_next ys ns p g

    all_next : (ys : Passeds Name) (ns : List Name) → PassedsOk (IsMade x.vats x.drawn) ys → AllNew b ns ys → AllNotNext b h.vat Own ns ys
    all_next NoMore ns p g = tt
    all_next (More y ys) ns p g = (passed_next y ns p.0 g.0, all_next ys (read_passed y ns).known p.1 g.1)

  new_pair : AllNew b Ns Pair
  unfolding gifts_in_note gifts_in_all gifts_in
  new_pair = new_all (gifts.providers script once w x es k o e a b h.link h.vat h.found h.there Tells h.rest h.first).0 x.drawn a b Pair Ns (tt, (gifts.from script once w x es k o e a b h.link h.vat h.found h.there Tells h.rest h.first, tt))
      (λ g i q m c. gifts.unknown script once w x es k o e a b h.link h.vat h.found h.there Tells h.rest h.first g i q (omega arith) c)
      (λ i. let f = gifts.few script once w x es k o e a b h.link h.vat h.found h.there Tells h.rest h.first i in omega arith)
      (λ i m. let s = gifts.spared script once w x es k o e a b h.link h.vat h.found h.there Tells h.rest h.first i (omega arith) in (s.0, (s.1, tt)))

  pair_next : AllNotNext b h.vat Own Ns Pair
  pair_next = all_next Pair Ns (made.0, (made.1, tt)) new_pair

  -- ---- it is learnt

  ready : Ready script honest x b Start
  ready = (vats_are_ready script once).1 w x es k o e honest b h.vat h.vat.queue h.there

  start : IsAt script honest x b h.vat zero Next Ns Start
  unfolding readied
  start = (refl, refl, refl, refl, ready.answers zero h.vat.messages (le_refl h.vat.messages))

  abbrev pub Nn : Incoming Name Name
  Nn = world.read_name Ns n

  abbrev pub Zz : Passed (Incoming Name Name)
  Zz = (read_passed z (world.known_after Ns n)).read

  module _ (m : Name) (r : Vat Name) (v : Value Name) (s : Vat Name) (first : arriving.learn_name K Nn Start ≡ Gives m r) (last : arriving.learn K a Zz r ≡ Gives v s) where
    whole : arriving.learn_all K a (world.read_all Pair Ns).read Start ≡ Gives (Ref m ∷ v ∷ []) s
    unfolding world.read_all world.read_passed world.plain_read world.read_value world.more_read
    whole = both script x b a Nn Zz Start r s m v first last

    pub stays : StaysReady script honest x b Start s × IsAt script honest x b h.vat zero Next (world.read_all Pair Ns).known s
    stays = yielded (λ xs t. learning.Learns script honest x b h.vat zero Next Start (world.read_all Pair Ns).known t) (arriving.learn_all K a (world.read_all Pair Ns).read Start) (Ref m ∷ v ∷ []) s whole (learning.learn_all script honest x b h.vat zero Next Start Ns a Pair pair_next start)

    pub has_learnt : learnt.AllLearnt script honest x b h.vat zero Next (Learns script b) (entries.learning script b) (λ ls y x. HasFor y x) (λ ls ys xs. HasAll ys xs) having Start (world.read_all Pair Ns).known Pair (Ref m ∷ v ∷ []) s
    has_learnt = yielded (λ xs t. learnt.AllLearnt script honest x b h.vat zero Next (Learns script b) (entries.learning script b) (λ ls y x. HasFor y x) (λ ls ys xs. HasAll ys xs) having Start (world.read_all Pair Ns).known Pair xs t) (arriving.learn_all K a (world.read_all Pair Ns).read Start) (Ref m ∷ v ∷ []) s whole
        (learnt.all_learnt script honest x b h.vat zero Next (Learns script b) (entries.learning script b) (λ ls y x. HasFor y x) (λ ls ys xs. HasAll ys xs) having Start Ns a Pair pair_next start)

    name_is : (p q : Name) → ◌≡◌ {A = Value Name} (Ref p) (Ref q) → p ≡ q
    name_is p q f = cc

    -- it is that name, and what was told of it
    pub named : m ≡ n
    named = name_is m n has_learnt.had.0

    pub told_value : HasFor z v
    told_value = has_learnt.had.1.0

    -- and the vat stays steady, where its next step brings what is new
    module _ (brings : NotesBringNew script (es ++ Carry a b ∷ []) k w) (c : Name → ℕ) (steady : Steady script x b c (λ q. 0) Start) where
      hosts : HostComes Nn × PassedHosts Zz
      unfolding world.read_note
      hosts = note_arrives Ns a b Tells (teller.other script once w x es k o e a b n Tells settled h) (teller.hosted script once w x es k o e a b n Tells settled h)

      comes : PassedComes Zz
      unfolding world.read_all world.more_read
      comes = (all_come (More z NoMore) (world.known_after Ns n)).0

      room : (y : Name) → claims b y Start.known + (new_name y Nn + new_in y Zz + 0) ≤ allowed b y Start Start.drawn
      unfolding readied allowed Rattle.law_reference.specs.Reference.NameTableRuns.brings_here Rattle.law_reference.specs.Reference.Knowing.brings world.read_note world.names_of
      room y = let i = new_last script es (Carry a b) k w x brings e h.link Tells h.rest h.vat h.found h.first h.there y in omega arith

      pub steady_then : Steady script x b c (λ q. 0) s
      steady_then = learnt_steady script x b a Nn Zz Start r s m v first last (read_comes n Ns) hosts.0 comes hosts.1 c (λ q. 0) steady room
