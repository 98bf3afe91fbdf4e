-- A name of another vat settles at a vat that is told of it: the vat follows all that it knows to an end.
use Rattle.std.proofs.Common.{◌≡◌, ℕ, zero, Bool, List, [], Some, refl, sym, ap, subst, ◌⊎◌, inl, inr}
use Rattle.std.specs.Prelude.{slice_get}
use Rattle.def_machine.specs.Values.{Value, Items, Name, Naming, host_of}
use Rattle.def_machine.specs.State.{Known, Unsettled, Settles, Vat, Gives, begun}
use Rattle.def_machine.specs.Refs as refs
use Rattle.def_machine.specs.Refs.{entry_of}
use Rattle.def_run.specs.World.{Script, Entry, World, Goes, begins, open_from, steps_from, names, readied}
use Rattle.law_fate.specs.Name.Runs.{KnowsOnce}
use Rattle.law_fate.specs.Fates.Lasting.{NoPromise}
use Rattle.law_reference.specs.Reference.Cuts.{NoticesFollowCuts}
use Rattle.law_order.specs.Ordering.Settle.{settled_to}
use Rattle.law_order.specs.Ordering.Settlings.{with_line}
use Rattle.law_order.specs.Ordering.Worlds.{IfGives, FollowsEnd}
use Rattle.law_order.specs.Arrivals.Wholes.{IsIdle}
use Rattle.law_order.proofs.Steady.Facts.{IsClear}
use Rattle.law_order.specs.News.News.{IsNoItems, WaitersGo}
use Rattle.law_order.proofs.News.Learnt.{Learnt}
use Rattle.law_order.proofs.News.Away.{settles_alone, ends_known}
use Rattle.law_order.proofs.News.Waiters as waiters

pub target_same : (K : Naming Name Name) (s : Vat Name) (n : Name) (v : Value Name) → IsNoItems v → refs.target_of K s n v ≡ v
unfolding refs.target_of
target_same K s n (Items k) h = absurd h
target_same K s n other h = refl

module _ (script : Script) (once : KnowsOnce script) (w x : World) (es : List Entry) (k : ℕ) (follow : NoticesFollowCuts es) (o : open_from script zero script.vats (begins script) ≡ Goes w) (e : steps_from script es k w ≡ Goes x)
    (honest : ℕ → Bool) (b : ℕ) (was : Vat Name) (there : slice_get x.vats b ≡ Some was) (n : Name) (away : host_of n ≡ b → ⊥) (s : Vat Name) (l : Learnt script x honest b was n s)
    (empty : (j : Known Name) → entry_of (names script b) was.known n ≡ Some j → (j.held ≡ []) × (j.told ≡ []))
    (v : Value Name) (lasts : NoPromise v) (single : IsNoItems v) (clear : IsClear (names script b) was.noticed v) (t : Vat Name) (ends : refs.settle (names script b) n v s ≡ Gives tt t) where
  abbrev K : Naming Name Name
  K = names script b

  abbrev pub Then : Vat Name
  Then = settled_to K (with_line s (Settles n v)) n v

  bare_by : ((entry_of K was.known n ≡ Some l.entry) × (s ≡ readied x was)) ⊎ (l.entry ≡ begun n (host_of n)) → (l.entry.held ≡ []) × (l.entry.told ≡ [])
  unfolding begun
  bare_by (inl i) = empty l.entry i.0
  bare_by (inr i) = (ap (λ (j : Known Name). j.held) i, ap (λ (j : Known Name). j.told) i)

  pub bare : (l.entry.held ≡ []) × (l.entry.told ≡ [])
  bare = bare_by l.stood

  module _ (ended : FollowsEnd K t) (go_on : WaitersGo script honest b was n) (unsettled : l.entry.standing ≡ Unsettled) where
    idle : IsIdle script honest x b l.entry
    idle = (unsettled, bare.0, bare.1)

    -- nothing waits for it
    alone : l.entry.waiting ≡ [] → FollowsEnd K Then
    alone none = ends_known K t Then (subst (λ d. IfGives (λ (u : Vat Name). u.known ≡ Then.known) d) ends (subst (λ z. IfGives (λ (u : Vat Name). u.known ≡ (let q = settled_to K (with_line s (Settles n z)) n z in q.known)) (refs.settle K n v s)) (target_same K s n v single) (settles_alone script honest x b s n v l.entry idle none l.found))) ended

    -- or those that wait settle in order
    in_order : entry_of K was.known n ≡ Some l.entry → s ≡ readied x was → WaitersGo script honest b was n → FollowsEnd K Then
    unfolding readied
    in_order i same (inl all) = subst (λ u. FollowsEnd K (settled_to K (with_line u (Settles n v)) n v)) (sym same) (waiters.follows script once w x es k follow o e honest all b was there n away l.entry i unsettled bare.0 v lasts clear)
    in_order i same (inr none) = alone (none l.entry i)

    goes_by : ((entry_of K was.known n ≡ Some l.entry) × (s ≡ readied x was)) ⊎ (l.entry ≡ begun n (host_of n)) → FollowsEnd K Then
    unfolding begun
    goes_by (inl i) = in_order i.0 i.1 go_on
    goes_by (inr i) = alone (ap (λ (j : Known Name). j.waiting) i)

    pub follows : FollowsEnd K Then
    follows = goes_by l.stood
