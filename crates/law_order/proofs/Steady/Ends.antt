-- Where each view is known later than what it views, and what settled settled to data or to an object, all is followed to an end.
use Rattle.std.proofs.Common.{◌≡◌, ℕ, zero, suc, ◌+◌, ◌<◌, ◌≤◌, List, [], ◌∷◌, ◌++◌, Option, Some, None, length, refl, sym, ap, subst, ◌∙◌, inl, inr, arith}
use Rattle.def_machine.specs.Values.{Value, Ref, Name, Object, Naming, host_of}
use Rattle.def_machine.specs.State.{Standing, Unsettled, WaitsOn, Viewed, Settled, Known, Change, Settle, Vat, with_change, changed, begun}
use Rattle.def_machine.specs.Refs as refs
use Rattle.def_machine.specs.Refs.{entry_of, standing_of, standing_in, follow_at}
use Rattle.def_run.specs.Draws.{draw_word}
use Rattle.def_run.specs.World.{Script, names}
use Rattle.law_machine.proofs.Machine.StepLaws.{entry_append}
use Rattle.law_fate.specs.Fates.Lasting.{Each, KnownWell, SettledWell, NoPromise, NamesNoObject}
use Rattle.law_reference.specs.Reference.Views.{index_at}
use Rattle.law_reference.proofs.Reference.Entries.{SameOr, same_or, index_changed, index_append, index_less, Mild}
use Rattle.law_reference.proofs.Reference.Settles.{change_settles}
use Rattle.law_reference.proofs.Reference.Told.{found_all}
use Rattle.law_reference.proofs.Reference.ViewsGo.{go_append, go_changed}
use Rattle.law_order.specs.Ordering.Settle.{IsEnded}
use Rattle.law_order.specs.Ordering.Worlds.{IsObject, IsWaiting, IsFixed, FollowsEnd}
use Rattle.law_order.proofs.Runs.Beginnings.{each_all, entry_name, named_object}
use Rattle.law_order.proofs.Runs.Truths.{object_self, data_self}

-- each view is known, and came to be known later than the name that has it
abbrev pub ViewsLater : Naming Name Name → List (Known Name) → Type 0
ViewsLater K ks = (n g : Name) → standing_of K ks n ≡ Viewed g → (k : Known Name) × (entry_of K ks g ≡ Some k) × (index_at K ks n < index_at K ks g)

-- a name that waits on another is the vat's own
abbrev pub WaitsAreOwn : Naming Name Name → ℕ → List (Known Name) → Type 0
WaitsAreOwn K v ks = (n q : Name) → standing_of K ks n ≡ WaitsOn q → host_of n ≡ v

object_none : (n : Name) → IsObject n → NamesNoObject n → ⊥
object_none (Object w i) o h = h
object_none other o h = o

none_or : (o : Option (Known Name)) → ((k : Known Name) → o ≡ Some k → ⊥) → o ≡ None
none_or (Some k) f = absurd (f k refl)
none_or None f = refl

module _ (script : Script) (v : ℕ) where
  abbrev K : Naming Name Name
  K = names script v

  module _ (ks : List (Known Name)) (well : Each KnownWell ks) where
    found_well : (n : Name) (k : Known Name) → entry_of K ks n ≡ Some k → KnownWell k
    unfolding names
    found_well n k e = found_all (draw_word script.key) v KnownWell ks n k (each_all KnownWell ks well) e

    -- no object is known
    pub no_objects : (o : Name) → IsObject o → entry_of K ks o ≡ None
    no_objects o i = none_or (entry_of K ks o) (λ k e. object_none o i (subst NamesNoObject (entry_name script v ks o k e) (found_well o k e).name))

    -- data and objects are followed to themselves
    pub ended_self : (d : ℕ) (y : Value Name) → NoPromise y → follow_at K d ks y ≡ y
    ended_self d (Ref o) h = object_self script v d ks o (no_objects o (named_object script v o h))
    ended_self d other h = data_self script v d ks other tt

  pub ended_is : (y : Value Name) → NoPromise y → IsEnded y
  ended_is (Ref o) h = named_object script v o h
  ended_is other h = tt

  module _ (s : Vat Name) (well : Each KnownWell s.known) (later : ViewsLater K s.known) where
    ended_fixed : (y : Value Name) → NoPromise y → IsFixed K s y
    ended_fixed (Ref o) h = inl (named_object script v o h)
    ended_fixed other h = tt

    stands_in : (n : Name) (k : Known Name) → entry_of K s.known n ≡ Some k → standing_of K s.known n ≡ k.standing
    unfolding standing_of standing_in
    stands_in n k e = ap (λ o. standing_in o) e

    -- by how a name stands that has a place among those known
    goes_on : (d : ℕ) (n : Name) (k : Known Name) → entry_of K s.known n ≡ Some k → (t : Standing Name) → k.standing ≡ t → ((g : Name) → t ≡ Viewed g → IsFixed K s (follow_at K d s.known (Ref g))) → IsFixed K s (refs.led K (λ z. follow_at K d s.known z) n t)
    unfolding refs.led
    goes_on d n k e (Settled y) i f = let fine : NoPromise y = subst SettledWell i (found_well s.known well n k e).standing in subst (IsFixed K s) (sym (ended_self s.known well d y fine)) (ended_fixed y fine)
    goes_on d n k e (Viewed g) i f = f g refl
    goes_on d n k e other i f = inr (k, e, subst IsWaiting (sym i) tt)

    from_place : (d : ℕ) (n : Name) (k : Known Name) → entry_of K s.known n ≡ Some k → length s.known ≤ d + index_at K s.known n → IsFixed K s (follow_at K (suc d) s.known (Ref n))
    unfolding follow_at
    from_place zero n k e l = let less = index_less K s.known n k e in absurd (omega arith)
    from_place (suc d) n k e l = subst (λ t. IsFixed K s (refs.led K (λ z. follow_at K (suc d) s.known z) n t)) (sym (stands_in n k e)) (goes_on (suc d) n k e k.standing refl
        (λ g i. let on = later n g (stands_in n k e ∙ i) in let less : index_at K s.known n < index_at K s.known g = on.2 in from_place d g on.0 on.1 (omega arith)))

    pub follows_end : FollowsEnd K s
    follows_end = record { objects = no_objects s.known well; fixed = λ n h. from_place (length s.known) n h.0 h.1 (omega arith) }

  -- ---- views stay later

  begun_waits : (n : Name) (h : ℕ) → (begun n h).standing ≡ Unsettled
  unfolding begun
  begun_waits n h = refl

  viewed_in : (o : Option (Known Name)) (g : Name) → standing_in o ≡ Viewed g → (k : Known Name) × (o ≡ Some k)
  unfolding standing_in
  viewed_in (Some k) g e = (k, refl)
  viewed_in None g e = cc

  known_view : (ks : List (Known Name)) (m g : Name) → standing_of K ks m ≡ Viewed g → (k : Known Name) × (entry_of K ks m ≡ Some k)
  unfolding standing_of
  known_view ks m g e = viewed_in (entry_of K ks m) g e

  pub later_come : (n : Name) (h : ℕ) (ks : List (Known Name)) → ViewsLater K ks → ViewsLater K (ks ++ begun n h ∷ [])
  later_come n h ks f m g e = let back = (go_append K ks (begun n h) (begun_waits n h) m g e).0 in let was = f m g back in let at = known_view ks m g back in
      (was.0, entry_append K g ks (begun n h ∷ []) was.0 was.1, subst (λ i. i < index_at K (ks ++ begun n h ∷ []) g) (sym (index_append K ks (begun n h ∷ []) m at.0 at.1)) (subst (λ i. index_at K ks m < i) (sym (index_append K ks (begun n h ∷ []) g was.0 was.1)) was.2))

  changed_later : (c : Change Name) (p : Name) (ks : List (Known Name)) → ((m g : Name) → standing_of K (with_change K c p ks) m ≡ Viewed g → standing_of K ks m ≡ Viewed g) → ViewsLater K ks → ViewsLater K (with_change K c p ks)
  changed_later c p ks back f m g e = let was = f m g (back m g e) in go (same_or K c p g ks) was
    where
      less : index_at K ks m < index_at K ks g → index_at K (with_change K c p ks) m < index_at K (with_change K c p ks) g
      less l = subst (λ i. i < index_at K (with_change K c p ks) g) (sym (index_changed K c p m ks)) (subst (λ i. index_at K ks m < i) (sym (index_changed K c p g ks)) l)

      go : SameOr K c p ks (with_change K c p ks) g → (k : Known Name) × (entry_of K ks g ≡ Some k) × (index_at K ks m < index_at K ks g) → (k : Known Name) × (entry_of K (with_change K c p ks) g ≡ Some k) × (index_at K (with_change K c p ks) m < index_at K (with_change K c p ks) g)
      go (inl i) was = (was.0, i ∙ was.1, less was.2)
      go (inr i) was = (changed c i.0, i.3, less was.2)

  pub later_change : (c : Change Name) → Mild c → (p : Name) (ks : List (Known Name)) → ViewsLater K ks → ViewsLater K (with_change K c p ks)
  later_change c mild p ks f = changed_later c p ks (λ m g e. (go_changed K c mild p ks m g e).0) f

  settled_apart : (t : Standing Name) (z : Value Name) (g : Name) → t ≡ Settled z → t ≡ Viewed g → ⊥
  settled_apart t z g e i = cc

  settle_back : (y : Value Name) (p : Name) (ks : List (Known Name)) (m g : Name) → standing_of K (with_change K (Settle y) p ks) m ≡ Viewed g → SameOr K (Settle y) p ks (with_change K (Settle y) p ks) m → standing_of K ks m ≡ Viewed g
  unfolding standing_of standing_in
  settle_back y p ks m g e (inl i) = ap (λ o. standing_in o) (sym i) ∙ e
  settle_back y p ks m g e (inr i) = let z = change_settles y i.0 in absurd (settled_apart (changed (Settle y) i.0).standing z.0 g z.1 (ap (λ o. standing_in o) (sym i.3) ∙ e))

  pub later_settle : (y : Value Name) (p : Name) (ks : List (Known Name)) → ViewsLater K ks → ViewsLater K (with_change K (Settle y) p ks)
  later_settle y p ks f = changed_later (Settle y) p ks (λ m g e. settle_back y p ks m g e (same_or K (Settle y) p m ks)) f
