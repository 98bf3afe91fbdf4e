-- Where references lead as a name breaks that came to be in this step: where they led, or nowhere.
use Rattle.std.proofs.Common.{◌≡◌, ℕ, Bool, true, false, Some, refl, sym, ap, subst, ◌∙◌, ◌⊎◌, inl, inr}
use Rattle.std.specs.Prelude.{slice_get, ◌==◌, ◌&&◌}
use Rattle.def_machine.specs.Values.{Words, Value, Broken, Name, Answer, Msg, Naming, NoObject, naming, same_name}
use Rattle.def_machine.specs.State.{Known, Unsettled, Settled, Settle, Vat, changed, is_in}
use Rattle.def_machine.specs.Refs as refs
use Rattle.def_machine.specs.Refs.{entry_of}
use Rattle.def_run.specs.World as world
use Rattle.def_run.specs.World.{Script, World, names}
use Rattle.law_fate.specs.Name.Names.{IsEventual}
use Rattle.law_fate.proofs.Name.SameNames.{eventual_spot}
use Rattle.law_order.specs.Ordering.Ways.{Held, Place, Nowhere, End}
use Rattle.law_order.specs.Ordering.Places.{aimed, leads_in, released_at, released, unsettled, onward_at, ways_of, ways, amid}
use Rattle.law_order.specs.Ordering.Settlings.{IsLoose}
use Rattle.law_order.specs.Ordering.Settle.{passed_by, SettlesHere, aimed_at}
use Rattle.law_order.specs.Ordering.Worlds.{IsWaiting, IsObject, FollowsEnd, StandsAlike}
use Rattle.law_order.proofs.Ordering.Adding.{refers_same}
use Rattle.law_order.proofs.Ordering.Adds.{alike_same}
use Rattle.law_order.proofs.Ordering.Amid.{entry_self}
use Rattle.law_order.proofs.Ordering.Sends.{get_put}
use Rattle.law_order.proofs.Ordering.Settled.{leads_on}
use Rattle.law_order.specs.Views.Led.{StandsOtherwise}
use Rattle.law_order.proofs.Views.Quiet.{is_name}
use Rattle.law_order.proofs.Views.Settling.{IsOpen, settles_alone, settled_now}
use Rattle.law_order.proofs.Views.Severed as severed
use Rattle.law_order.proofs.Views.Severed.{IsAlone, ends_then}
use Rattle.law_order.proofs.Carries.Breaking.{IsFresh, Line, Broke}

-- of where an unsettled answer leads nothing is said
pub loose_answer : (script : Script) (honest : ℕ → Bool) (w : World) (b : ℕ) (r : Vat Name) → slice_get w.vats b ≡ Some r → (t : Vat Name) (g : ℕ) (m : Msg) (k : Known Name) → refs.entry_of (names script b) t.known (Answer g m) ≡ Some k → k.standing ≡ Unsettled → IsLoose script honest w b (Answer g m) t
unfolding ways ways_of onward_at released_at released unsettled amid refs.standing_of refs.standing_in
loose_answer script honest w b r there t g m k e z o =
    let vs = world.put_at b t w.vats in
    let ls = world.push_all b t.outbox w.links in
    ap (λ x. released_at script honest vs ls b (Answer g m) x) (get_put w.vats b r t there)
    ∙ ap (λ z. released script honest vs ls b (Answer g m) t.gifts z) (ap (λ z. refs.standing_in z) e ∙ z)

-- each reference of the vat leads where it led, or nowhere
abbrev pub LeadsOr : Script → (ℕ → Bool) → ℕ → Vat Name → Vat Name → Type 0
LeadsOr script honest b s t = (x : Value Name) → (leads_in script honest b t x ≡ leads_in script honest b s x) ⊎ (leads_in script honest b t x ≡ Nowhere)

pub leads_or_then : (script : Script) (honest : ℕ → Bool) (b : ℕ) (s t u : Vat Name) → LeadsOr script honest b s t → LeadsOr script honest b t u → LeadsOr script honest b s u
leads_or_then script honest b s t u f g x = go (f x) (g x)
  where
    go : (leads_in script honest b t x ≡ leads_in script honest b s x) ⊎ (leads_in script honest b t x ≡ Nowhere) → (leads_in script honest b u x ≡ leads_in script honest b t x) ⊎ (leads_in script honest b u x ≡ Nowhere)
        → (leads_in script honest b u x ≡ leads_in script honest b s x) ⊎ (leads_in script honest b u x ≡ Nowhere)
    go i (inr j) = inr j
    go (inl i) (inl j) = inl (j ∙ i)
    go (inr i) (inl j) = inr (j ∙ i)

passed_or : (v : ℕ) (p : Name) (c : Place) → (passed_by v p Nowhere c ≡ c) ⊎ (passed_by v p Nowhere c ≡ Nowhere)
unfolding passed_by
passed_or v p (End (Held u q) n) = go ((u == v) && same_name q p)
  where
    go : (x : Bool) → (elim x [ true ↦ Nowhere | false ↦ End (Held u q) n ] ≡ End (Held u q) n) ⊎ (elim x [ true ↦ Nowhere | false ↦ End (Held u q) n ] ≡ Nowhere)
    go true = inr refl
    go false = inl refl
passed_or v p other = inl refl

module _ (script : Script) (honest : ℕ → Bool) (v : ℕ) (s : Vat Name) (p : Name) (problem : Words) {known : Known Name} (l : IsFresh (names script v) v s p known) (alone : IsAlone (names script v) s.known p) (plain : IsObject p → ⊥) (eventual : IsEventual p) (number : s.number ≡ v) (ends : FollowsEnd (names script v) s) where
  abbrev K : Naming Name Name
  K = names script v

  abbrev Told : Vat Name
  Told = Line s p problem

  abbrev T : Vat Name
  T = Broke K s p problem

  abbrev Now : Known Name
  Now = changed (Settle (Broken problem)) known

  only : StandsOtherwise K Told T p known Now
  only = settles_alone script v Told p (Broken problem) known l.found (subst IsOpen (sym l.unsettled) tt) l.held

  broken : Now.standing ≡ Settled (Broken problem)
  broken = settled_now script v Told p (Broken problem) known l.found (subst IsOpen (sym l.unsettled) tt) l.held

  told_ends : FollowsEnd K Told
  told_ends = record { objects = ends.objects; fixed = ends.fixed }

  now_ends : FollowsEnd K T
  now_ends = ends_then script honest v Told T p problem only l.unsettled broken told_ends plain alone

  some_same : (a b : Known Name) → Some a ≡ Some b → a ≡ b
  some_same a b e = cc

  other_entries : (n : Name) → (n ≡ p) ⊎ (n ≡ p → ⊥) → (n ≡ p) ⊎ ((n ≡ p → ⊥) × StandsAlike n (entry_of K Told.known n) (entry_of K T.known n))
  other_entries n (inl e) = inl e
  other_entries n (inr f) = inr (f, subst (λ o. StandsAlike n (entry_of K Told.known n) o) (sym (only.others n f)) (entry_self n (entry_of K Told.known n)))

  here : is_in v s.noticed ≡ false → SettlesHere K Told T p (Broken problem) v
  here itself = record {
    only = record {
      number = refl;
      gifts = refl;
      noticed = refl;
      queue = refl;
      outbox = refl;
      names_known = only.names_known;
      before = (known, l.found, subst IsWaiting (sym l.unsettled) tt);
      after = (Now, only.found_then, broken);
      others = λ n. other_entries n (is_name n p);
    };
    own = number;
    host = λ k e. ap (λ (j : Known Name). j.host) (some_same k known (sym e ∙ l.found)) ∙ l.hosted;
    host_after = λ k e. ap (λ (j : Known Name). j.host) (some_same k Now (sym e ∙ only.found_then)) ∙ only.host ∙ l.hosted;
    itself = itself;
    plain = plain;
    ended = tt;
    follows = now_ends;
  }

  nothing : aimed_at script v T (Broken problem) ≡ Nowhere
  unfolding aimed_at refs.severed refs.place aimed
  nothing = refl

  told_leads : (x : Value Name) → leads_in script honest v Told x ≡ leads_in script honest v s x
  told_leads x = (refers_same script honest v s Told (alike_same K s Told refl refl refl refl)).leading x

  spot : K.spot p ≡ NoObject
  unfolding names naming
  spot = eventual_spot v p eventual

  pub breaks_lead : LeadsOr script honest v s T
  breaks_lead x = go (is_in v s.noticed) refl
    where
      passed : is_in v s.noticed ≡ false → leads_in script honest v T x ≡ passed_by v p Nowhere (leads_in script honest v s x)
      passed e = leads_on script honest v Told T p (Broken problem) (here e) x ∙ ap (λ c. passed_by v p c (leads_in script honest v Told x)) nothing ∙ ap (λ c. passed_by v p Nowhere c) (told_leads x)

      go : (c : Bool) → is_in v s.noticed ≡ c → (leads_in script honest v T x ≡ leads_in script honest v s x) ⊎ (leads_in script honest v T x ≡ Nowhere)
      go false e = elim (passed_or v p (leads_in script honest v s x)) [ inl i ↦ inl (passed e ∙ i) | inr i ↦ inr (passed e ∙ i) ]
      go true e = inl (severed.leads_on script honest v Told T p problem (record { before = known; after = Now; only = only; unsettled = l.unsettled; noticed = subst (λ h. is_in h s.noticed ≡ true) (sym l.hosted) e; broken = broken; plain = spot; follows = now_ends }) x ∙ told_leads x)
