-- A vat is ready for each step, as laws of names and references have it.
use Rattle.std.proofs.Common.{◌≡◌, ℕ, zero, suc, ◌≤◌, ◌<◌, Bool, true, false, List, [], ◌∷◌, Option, Some, None, length, refl, sym, ap, subst, ◌∙◌, ◌⊎◌, inl, inr, arith}
use Rattle.std.specs.Prelude.{slice_get}
use Rattle.def_machine.specs.Values.{Value, Ref, Name, Object, Promise, Answer, Naming, naming, host_of, word_of}
use Rattle.def_machine.specs.State.{Message, Standing, Unsettled, WaitsOn, Viewed, Settled, Known, Note, Open, Shorten, Vat}
use Rattle.def_machine.specs.Refs as refs
use Rattle.def_machine.specs.Refs.{entry_of, standing_of, standing_in, follow_at}
use Rattle.def_run.specs.Draws.{draw_word}
use Rattle.def_run.specs.World as world
use Rattle.def_run.specs.World.{Script, Link, World, Run, Goes, Stopped, names, readied}
use Rattle.law_machine.specs.Machine.Breaks.{still_waits}
use Rattle.law_fate.specs.Name.Names.{AllOf, IsAmong, IsEventual, IsMade, KnownOk, WasMade, messages_of, promises_of, names_in}
use Rattle.law_fate.proofs.Name.Laws.{names_made, names_apart, hosts_true}
use Rattle.law_fate.proofs.Name.SameNames.{reference_is}
use Rattle.law_fate.specs.Fates.FateRuns.{Reached}
use Rattle.law_fate.specs.Fates.Lasting.{Each, KnownWell, HeldWell, SettledWell, NoPromise, NamesObject}
use Rattle.law_fate.specs.Fates.Wellness.{WorldWell}
use Rattle.law_fate.proofs.Fates.RunWell.{runs_stay_well}
use Rattle.law_reference.specs.Reference.GiftPassing.{HasProviders, Provides}
use Rattle.law_reference.specs.Reference.Rest.{ReferencesRest}
use Rattle.law_reference.proofs.Reference.GiftLaws.{one_provider}
use Rattle.law_reference.proofs.Reference.OwnRuns.{own_in_runs}
use Rattle.law_reference.proofs.Reference.RestLaws.{references_rest}
use Rattle.law_reference.proofs.Reference.Puts.{among_in}
use Rattle.law_reference.proofs.Reference.Told.{unknown, found_all}
use Rattle.law_order.specs.Ordering.Settle.{AllOn}
use Rattle.law_order.specs.Ordering.Steps.{LetsDrawn, NotesDrawn, AllDrawn, Ready}
use Rattle.law_order.specs.Ordering.Worlds.{IsWaiting, IsObject, IsFixed, FollowsEnd}
use Rattle.law_order.specs.Runs.Beginnings.{VatsAreReady, HeldIsOnItsName, HostsAreOfNames}

goes_is : (w x : World) → Goes w ≡ Goes x → w ≡ x
goes_is w x e = cc

pub reached_is : (P : World → Type 0) (r : Run) (w : World) → r ≡ Goes w → Reached P r → P w
reached_is P (Goes x) w e h = subst P (goes_is x w e) h
reached_is P (Stopped c k x) w e h = cc

pub each_all : {A : Type 0} (P : A → Type 0) (xs : List A) → Each P xs → AllOf P xs
each_all P [] h = tt
each_all P (x ∷ xs) h = (h.0, each_all P xs h.1)

-- ---- draws

note_drawn : (P : ℕ → ℕ) (d : List ℕ) (a b : ℕ) (n : Note Name) → Provides P d a b n → LetsDrawn d n
note_drawn P d a b (Open i n) h = among_in (word_of i) d h.0
note_drawn P d a b (Shorten n c i) h = among_in (word_of i) d h.0
note_drawn P d a b other h = tt

notes_drawn : (P : ℕ → ℕ) (d : List ℕ) (a b : ℕ) (ns : List (Note Name)) → Each (Provides P d a b) ns → NotesDrawn d ns
notes_drawn P d a b [] h = tt
notes_drawn P d a b (n ∷ ns) h = (note_drawn P d a b n h.0, notes_drawn P d a b ns h.1)

links_drawn : (P : ℕ → ℕ) (d : List ℕ) (ls : List Link) → Each (λ (l : Link). Each (Provides P d l.from l.to) l.log × Each (Provides P d l.from l.to) l.notes) ls → AllDrawn d ls
links_drawn P d [] h = tt
links_drawn P d (l ∷ ls) h = (notes_drawn P d l.from l.to l.notes h.0.1, notes_drawn P d l.from l.to l.log h.0.0, links_drawn P d ls h.1)

drawn_in : (w : World) → HasProviders w → AllDrawn w.drawn w.links
drawn_in w h = links_drawn h.0 w.drawn w.links h.1

-- ---- names

pub object_apart : (n : Name) → IsObject n → IsEventual n → ⊥
object_apart (Object w i) o e = e
object_apart other o e = o

pub all_eventual : (ks : List (Known Name)) (n : Name) → AllOf IsEventual (names_in ks) → IsAmong n (names_in ks) → IsEventual n
all_eventual [] n h a = absurd a
all_eventual (k ∷ ks) n h (inl e) = subst IsEventual (sym e) h.0
all_eventual (k ∷ ks) n h (inr a) = all_eventual ks n h.1 a

module _ (script : Script) (v : ℕ) where
  abbrev K : Naming Name Name
  K = names script v

  word : ℕ → ℕ
  word = draw_word script.key

  pub entry_name : (ks : List (Known Name)) (n : Name) (k : Known Name) → entry_of K ks n ≡ Some k → k.name ≡ n
  unfolding entry_of names naming
  entry_name [] n k e = cc
  entry_name (j ∷ ks) n k e = go (λ g. entry_name ks n k g) (K.same j.name n) refl e
    where
      same : j ≡ k → K.same j.name n ≡ true → k.name ≡ n
      same f g = ap (λ (x : Known Name). x.name) (sym f) ∙ reference_is j.name n g

      go : (entry_of K ks n ≡ Some k → k.name ≡ n) → (b : Bool) → K.same j.name n ≡ b → ◌≡◌ {A = Option (Known Name)} (elim b [ true ↦ Some j | false ↦ entry_of K ks n ]) (Some k) → k.name ≡ n
      go r true f g = let h : j ≡ k = cc in same h f
      go r false f g = r g

  pub none_found : (ks : List (Known Name)) (n : Name) → (IsAmong n (names_in ks) → ⊥) → entry_of K ks n ≡ None
  unfolding names word
  none_found ks n f = unknown word v ks n f

  -- ---- following

  -- data, an object, or a name that is known
  abbrev Had : List (Known Name) → Value Name → Type 0
  Had ks (Ref n) = IsObject n ⊎ ((k : Known Name) × (entry_of K ks n ≡ Some k))
  Had ks other = Unit {0}

  pub named_object : (n : Name) → NamesObject n → IsObject n
  named_object (Object w i) h = tt
  named_object other h = h

  settled_had : (ks : List (Known Name)) (y : Value Name) → NoPromise y → Had ks y
  settled_had ks (Ref n) h = inl (named_object n h)
  settled_had ks other h = tt

  module _ (ks : List (Known Name)) (well : Each KnownWell ks) (views : (n g : Name) → standing_of K ks n ≡ Viewed g → (k : Known Name) × (entry_of K ks g ≡ Some k)) where
    found_well : (n : Name) (k : Known Name) → entry_of K ks n ≡ Some k → KnownWell k
    unfolding names word
    found_well n k e = found_all word v KnownWell ks n k (each_all KnownWell ks well) e

    settled_well : (n : Name) (o : Option (Known Name)) (y : Value Name) → entry_of K ks n ≡ o → standing_in o ≡ Settled y → Had ks y
    unfolding standing_in
    settled_well n None y e f = cc
    settled_well n (Some k) y e f = settled_had ks y (subst SettledWell f (found_well n k e).standing)

    follow_had : (d : ℕ) (x : Value Name) → Had ks x → Had ks (follow_at K d ks x)
    unfolding follow_at refs.led standing_of
    follow_had zero x h = h
    follow_had (suc d) (Ref n) h = go (λ y i. follow_had d y i) (standing_of K ks n) refl
      where
        go : ((y : Value Name) → Had ks y → Had ks (follow_at K d ks y)) → (t : Standing Name) → standing_of K ks n ≡ t → Had ks (refs.led K (λ y. follow_at K d ks y) n t)
        go r (Settled y) e = r y (settled_well n (entry_of K ks n) y refl e)
        go r (Viewed q) e = r (Ref q) (inr (views n q e))
        go r (WaitsOn q) e = h
        go r Unsettled e = h
    follow_had (suc d) other h = tt

  waits_so : (t : Standing Name) → still_waits t ≡ true → IsWaiting t
  unfolding still_waits
  waits_so (Viewed q) e = cc
  waits_so (Settled y) e = cc
  waits_so other e = tt

  module _ (s : Vat Name) where
    had_fixed : (y : Value Name) → Had s.known y → ((n : Name) → y ≡ Ref n → still_waits (standing_of K s.known n) ≡ true) → IsFixed K s y
    unfolding standing_of standing_in
    had_fixed (Ref n) (inl o) f = inl o
    had_fixed (Ref n) (inr h) f = inr (h.0, h.1, waits_so h.0.standing (ap (λ o. still_waits (standing_in o)) (sym h.1) ∙ f n refl))
    had_fixed other h f = tt

    follows_end : AllOf IsEventual (names_in s.known) → Each KnownWell s.known → ReferencesRest K s → FollowsEnd K s
    follows_end eventual well rests = record {
      objects = λ n o. none_found s.known n (λ a. object_apart n o (all_eventual s.known n eventual a));
      fixed = λ n k. had_fixed (follow_at K (suc (length s.known)) s.known (Ref n)) (follow_had s.known well (λ m g e. (rests.views m g e).0) (suc (length s.known)) (Ref n) (inr k)) (λ m e. rests.ends (Ref n) m e);
    }

  -- ---- what is new

  module _ (w : World) (s : Vat Name) (there : slice_get w.vats v ≡ Some s) (made : AllOf (KnownOk (IsMade w.vats w.drawn)) s.known) where
    among_made : (ks : List (Known Name)) (n : Name) → AllOf (KnownOk (IsMade w.vats w.drawn)) ks → IsAmong n (names_in ks) → WasMade w.vats w.drawn n
    among_made [] n h a = absurd a
    among_made (k ∷ ks) n h (inl e) = subst (λ x. WasMade w.vats w.drawn x) (sym e) h.0.0
    among_made (k ∷ ks) n h (inr a) = among_made ks n h.1 a

    pub own_messages : messages_of w.vats v ≡ s.messages
    unfolding messages_of
    own_messages = ap (λ o. elim o [ Some q ↦ q.messages | None ↦ zero ]) there

    pub own_promises : promises_of w.vats v ≡ s.promises
    unfolding promises_of
    own_promises = ap (λ o. elim o [ Some q ↦ q.promises | None ↦ zero ]) there

    new_answers : (h i : ℕ) → s.messages ≤ i → entry_of K s.known (Answer h (record { sender = v; number = i })) ≡ None
    new_answers h i l = none_found s.known (Answer h (record { sender = v; number = i })) (λ a. let less : i < messages_of w.vats v = among_made s.known (Answer h (record { sender = v; number = i })) made a in let same = own_messages in omega arith)

    new_promises : (i : ℕ) → s.promises ≤ i → entry_of K s.known (Promise v i) ≡ None
    new_promises i l = none_found s.known (Promise v i) (λ a. let less : i < promises_of w.vats v = among_made s.known (Promise v i) made a in let same = own_promises in omega arith)

-- ---- in a world

ready_in : (script : Script) (honest : ℕ → Bool) (w : World) (v : ℕ) (s : Vat Name) (ms : List (Message Name)) → slice_get w.vats v ≡ Some s → s.number ≡ v → AllOf IsEventual (names_in s.known) → Each KnownWell s.known → ReferencesRest (names script v) s
    → AllOf (KnownOk (IsMade w.vats w.drawn)) s.known → HasProviders w → Ready script honest w v (readied w (record s { queue = ms }))
unfolding readied world.push_all
ready_in script honest w v s ms there own eventual well rests made provided = let ends = follows_end script v s eventual well rests in record {
  number = own;
  ends = record { objects = ends.objects; fixed = ends.fixed };
  draws = drawn_in w provided;
  answers = new_answers script v w s there made;
  promises = new_promises script v w s there made;
}

on_name : (k : Known Name) (n : Name) (ms : List (Message Name)) → k.name ≡ n → Each (HeldWell k.name) ms → AllOn n ms
on_name k n [] e h = tt
on_name k n (m ∷ ms) e h = (h.0.0 ∙ ap Ref e, on_name k n ms e h.1)

held_in_world : (script : Script) (w : World) → WorldWell w → (v : ℕ) (s : Vat Name) (n : Name) (k : Known Name) → slice_get w.vats v ≡ Some s → entry_of (names script v) s.known n ≡ Some k → AllOn n k.held
unfolding names word
held_in_world script w h v s n k there e = on_name k n k.held (entry_name script v s.known n k e) (found_all (word script v) v KnownWell s.known n k (each_all KnownWell s.known (h.vats v s there)) e).held

-- ---- the laws

pub vats_are_ready : VatsAreReady
vats_are_ready script once = (
  λ ps rest w i e honest v s ms there. ready_in script honest w v s ms there ((own_in_runs script once).0 ps rest w i e v s there).0 ((names_apart script once).0 ps rest w i e v s there).0 ((reached_is WorldWell _ w e ((runs_stay_well script).0 ps)).vats v s there)
      ((references_rest script once).0 ps rest w i e v s there) ((names_made script once).0 ps rest w i e v s there).known (reached_is HasProviders _ w e ((one_provider script).0 ps)),
  λ w x es k o e honest v s ms there. ready_in script honest x v s ms there ((own_in_runs script once).1 w x es k o e v s there).0 ((names_apart script once).1 w x es k o e v s there).0 ((reached_is WorldWell _ x e ((runs_stay_well script).1 w es k o)).vats v s there)
      ((references_rest script once).1 w x es k o e v s there) ((names_made script once).1 w x es k o e v s there).known (reached_is HasProviders _ x e ((one_provider script).1 w es k o)),
)

pub held_is_on_its_name : HeldIsOnItsName
held_is_on_its_name script = (
  λ ps rest w i e. held_in_world script w (reached_is WorldWell _ w e ((runs_stay_well script).0 ps)),
  λ w x es k o e. held_in_world script x (reached_is WorldWell _ x e ((runs_stay_well script).1 w es k o)),
)

pub host_in_world : (script : Script) (v : ℕ) (s : Vat Name) (n : Name) (k : Known Name) → AllOf (λ (j : Known Name). j.host ≡ host_of j.name) s.known → entry_of (names script v) s.known n ≡ Some k → k.host ≡ host_of n
unfolding names word
host_in_world script v s n k h e = found_all (word script v) v (λ (j : Known Name). j.host ≡ host_of j.name) s.known n k h e ∙ ap host_of (entry_name script v s.known n k e)

pub hosts_are_of_names : HostsAreOfNames
hosts_are_of_names script once = (
  λ ps rest w i e v s n k there f. host_in_world script v s n k ((hosts_true script once).0 ps rest w i e v s there) f,
  λ w x es j o e v s n k there f. host_in_world script v s n k ((hosts_true script once).1 w x es j o e v s there) f,
)
