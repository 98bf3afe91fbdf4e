-- From a state in which a name that is viewed did not settle with its view, lists end, if they do so once the vat went on: what they led to they lead to still.
use Rattle.std.proofs.Common.{◌≡◌, ℕ, zero, suc, Bool, true, false, List, [], ◌∷◌, Option, Some, None, refl, sym, subst, length}
use Rattle.std.specs.Prelude.{slice_get}
use Rattle.def_machine.specs.Values.{Words, Value, Broken, Items, Ref, Name, Naming, Spot, Own, Foreign, NoObject, naming}
use Rattle.def_machine.specs.State.{Standing, Unsettled, WaitsOn, Viewed, Settled, Known, Vat, Done, Stops, Stop, is_in}
use Rattle.def_machine.specs.Refs as refs
use Rattle.def_machine.specs.Refs.{entry_of, standing_of, standing_in, follow_at, follow}
use Rattle.def_machine.specs.Native.{list_at}
use Rattle.def_machine.specs.Calls as calls
use Rattle.def_machine.specs.Eval.{evaluator}
use Rattle.def_kernel.specs.declared.node.Node.{Node}
use Rattle.law_machine.specs.Machine.Steps.{After}
use Rattle.law_machine.specs.Machine.Laws.{SameLists, SettledStays}
use Rattle.law_machine.proofs.Machine.Keeps.{Keeps, KeepsBy, IsKept, IsKeptUnder, keeps_closed, keeps_ends}
use Rattle.law_machine.proofs.Machine.EvalKeeps.{keeps_in_eval, keeps_in_nodes, good_evaluator}
use Rattle.law_machine.proofs.Machine.EvalWalk as walk
use Rattle.law_machine.proofs.Machine.StepLaws.{lists_law, lists_names, settled_law, settled_names, settled_entry, standing_found}
use Rattle.law_fate.specs.Name.Names.{AllOf}
use Rattle.law_frozen.specs.Frozen as frozen
use Rattle.law_frozen.specs.Frozen.{IsAmong}
use Rattle.law_reference.specs.Reference.Views.{IsOpen, ViewsWait}
use Rattle.law_reference.specs.Reference.Lists.{Leads, LeadsIn, NoListLeadsBack, LeadingEndsIn}
use Rattle.law_reference.proofs.Reference.ListLaws.{following_suffices, ringless_lists_end}
use Rattle.law_never_astray.specs.Levels.{EndsIn, ListsEnd}

-- ---- what a call keeps, however it ends

module _ {N W : Type 0} (K : Naming N W) (R : Vat N → Vat N → Type 0) (base : IsKept R) (law : IsKeptUnder K R) (tree : List Node) where
  call_keeps : (d act : ℕ) (x : Value N) (verb : Words) (args : List (Value N)) → Keeps R (calls.call K tree (evaluator K tree d) act x verb args)
  call_keeps d act x verb args = walk.walk_call (KeepsBy R) K tree (keeps_closed R base) (keeps_ends R base) (keeps_in_eval R base) (keeps_in_nodes K R base law tree) (evaluator K tree d) (good_evaluator K R base law tree d) act x verb args

stopped : {N A : Type 0} (R : Vat N → Vat N → Type 0) (s t : Vat N) (c : Stop) (d : Done N A) → After R s d → d ≡ Stops c t → R s t
stopped R s t c (Stops r u) h e = let same : u ≡ t = cc in subst (R s) same h
stopped R s t c other h e = cc

module _ (word : ℕ → ℕ) (v : ℕ) where
  abbrev K : Naming Name Name
  K = naming word v

  -- ---- following

  no_ref : (n : Name) (k : ℕ) → Ref n ≡ Items k → ⊥
  no_ref n k e = cc

  open_standing : (o : Option (Known Name)) (k : Known Name) (y : Value Name) → o ≡ Some k → IsOpen k.standing → standing_in o ≡ Settled y → ⊥
  unfolding standing_in
  open_standing (Some j) k y e h q = let same : j ≡ k = cc in h y (subst (λ (z : Known Name). z.standing ≡ Settled y) same q)
  open_standing None k y e h q = cc

  module _ (ks : List (Known Name)) (views : ViewsWait K ks) where
    view_open : (n g : Name) (y : Value Name) → standing_of K ks n ≡ Viewed g → standing_of K ks g ≡ Settled y → ⊥
    unfolding standing_of
    view_open n g y e q = let w = views n g e in open_standing (entry_of K ks g) w.entry y w.found w.pending q

    -- what did not settle leads to no list
    open_leads : (d : ℕ) (n : Name) (k : ℕ) → ((y : Value Name) → standing_of K ks n ≡ Settled y → ⊥) → follow_at K d ks (Ref n) ≡ Items k → ⊥
    unfolding follow_at refs.led
    open_leads zero n k f e = no_ref n k e
    open_leads (suc d) n k f e = go (standing_of K ks n) refl (λ g o i. open_leads d g k o i) e
      where
        go : (t : Standing Name) → standing_of K ks n ≡ t → ((g : Name) → ((y : Value Name) → standing_of K ks g ≡ Settled y → ⊥) → follow_at K d ks (Ref g) ≡ Items k → ⊥) → refs.led K (λ y. follow_at K d ks y) n t ≡ Items k → ⊥
        go Unsettled q next i = no_ref n k i
        go (WaitsOn m) q next i = no_ref n k i
        go (Viewed g) q next i = next g (λ y. view_open n g y q) i
        go (Settled y) q next i = f y q

    module _ (js : List (Known Name)) (settled : (n : Name) (y : Value Name) → standing_of K ks n ≡ Settled y → standing_of K js n ≡ Settled y) where
      leads_on : (d : ℕ) (x : Value Name) (k : ℕ) → follow_at K d ks x ≡ Items k → follow_at K d js x ≡ Items k
      unfolding follow_at refs.led
      leads_on zero x k e = e
      leads_on (suc d) (Ref n) k e = go (standing_of K ks n) refl (λ y i. leads_on d y k i) e
        where
          go : (t : Standing Name) → standing_of K ks n ≡ t → ((y : Value Name) → follow_at K d ks y ≡ Items k → follow_at K d js y ≡ Items k) → refs.led K (λ y. follow_at K d ks y) n t ≡ Items k → refs.led K (λ y. follow_at K d js y) n (standing_of K js n) ≡ Items k
          go Unsettled q next i = absurd (no_ref n k i)
          go (WaitsOn m) q next i = absurd (no_ref n k i)
          go (Viewed g) q next i = absurd (open_leads d g k (λ y. view_open n g y q) i)
          go (Settled y) q next i = rw (settled n y q) (next y i)
      leads_on (suc d) (Items j) k e = e
      leads_on (suc d) other k e = cc

  severed_by : (b : Bool) (t : Words) (n : Name) (k : ℕ) → ◌≡◌ {A = Value Name} (elim b [ true ↦ Broken t | false ↦ Ref n ]) (Items k) → ⊥
  severed_by true t n k e = cc
  severed_by false t n k e = cc

  severed_at : (s : Vat Name) (n : Name) (p : Spot) (k : ℕ) → refs.severed_at K s n p ≡ Items k → ⊥
  unfolding refs.severed_at refs.severed_by
  severed_at s n (Own i) k e = no_ref n k e
  severed_at s n (Foreign h) k e = severed_by (is_in h s.noticed) _ n k e
  severed_at s n NoObject k e = severed_by (is_in (refs.host_at K s.number s.known n) s.noticed) _ n k e

  severed_list : (s : Vat Name) (y : Value Name) (k : ℕ) → refs.severed K s y ≡ Items k → y ≡ Items k
  unfolding refs.severed
  severed_list s (Ref n) k e = absurd (severed_at s n (K.spot n) k e)
  severed_list s other k e = e

  items_severed : (s : Vat Name) (y : Value Name) (k : ℕ) → y ≡ Items k → refs.severed K s y ≡ Items k
  unfolding refs.severed
  items_severed s (Items j) k e = e
  items_severed s other k e = cc

  -- ---- lists

  module _ (s t : Vat Name) (views : ViewsWait K s.known) (settled : SettledStays K s t) (lists : SameLists s t) where
    still_settled : (n : Name) (y : Value Name) → standing_of K s.known n ≡ Settled y → standing_of K t.known n ≡ Settled y
    unfolding standing_of
    still_settled n y e = let k = settled_entry (entry_of K s.known n) y e in standing_found K t.known n k.0 y (settled n k.0 y k.1 k.2) k.2

    follows_on : (x : Value Name) (k : ℕ) → follow K s x ≡ Items k → follow K t x ≡ Items k
    unfolding follow
    follows_on x k e = let i : follow_at K (suc (length s.known)) s.known x ≡ Items k = severed_list s _ k e in
        items_severed t _ k (following_suffices word v t.known k (suc (length s.known)) x (leads_on s.known views t.known still_settled (suc (length s.known)) x k i))

    same_members : (x : Value Name) (k : ℕ) → IsAmong x (list_at s.lists k) → list_at t.lists k ≡ list_at s.lists k
    unfolding list_at
    same_members x k h = go (slice_get s.lists k) refl h
      where
        found : (o : Option (List (Value Name))) (xs : List (Value Name)) → o ≡ Some xs → ◌≡◌ {A = List (Value Name)} (elim o [ Some ys ↦ ys | None ↦ [] ]) xs
        found (Some ys) xs e = cc
        found None xs e = cc

        go : (o : Option (List (Value Name))) → slice_get s.lists k ≡ o → IsAmong x (elim o [ Some ys ↦ ys | None ↦ [] ]) → ◌≡◌ {A = List (Value Name)} (elim (slice_get t.lists k) [ Some ys ↦ ys | None ↦ [] ]) (elim o [ Some ys ↦ ys | None ↦ [] ])
        go (Some xs) e i = found (slice_get t.lists k) xs (lists k xs e)
        go None e i = absurd i

    leads_still : (x : Value Name) (k : ℕ) → Leads K s x (Items k) → Leads K t x (Items k)
    leads_still (Items j) k h = (h.0, subst (IsAmong h.0) (sym (same_members h.0 j h.1)) h.1, follows_on h.0 k h.2)
    leads_still other k h = absurd h

    -- what leads on is a list
    list_leads : (d : ℕ) (z y : Value Name) → LeadsIn K (suc d) s z y → (k : ℕ) × (z ≡ Items k)
    list_leads d (Items k) y h = (k, refl)
    list_leads d other y h = absurd h.1

    is_list : (d : ℕ) (z : Value Name) (k : ℕ) → LeadsIn K d s z (Items k) → (j : ℕ) × (z ≡ Items j)
    is_list zero z k h = (k, h)
    is_list (suc d) z k h = list_leads d z (Items k) h

    leads_in_still : (d : ℕ) (x : Value Name) (k : ℕ) → LeadsIn K d s x (Items k) → LeadsIn K d t x (Items k)
    leads_in_still zero x k h = h
    leads_in_still (suc d) x k h = let j = is_list d h.0 k h.2 in (h.0, subst (Leads K t x) (sym j.1) (leads_still x j.0 (subst (Leads K s x) j.1 h.1)), leads_in_still d h.0 k h.2)

    none_before : NoListLeadsBack K t → NoListLeadsBack K s
    none_before f k d h = f k d (leads_in_still (suc d) (Items k) k h)

  -- ---- that lists end

  all_of : {A : Type 0} {P Q : A → Type 0} → ((x : A) → P x → Q x) → (xs : List A) → frozen.AllOf P xs → AllOf Q xs
  all_of f [] h = tt
  all_of f (x ∷ xs) h = (f x h.0, all_of f xs h.1)

  ends_so : (s : Vat Name) (d : ℕ) (x : Value Name) → LeadingEndsIn K d s x → EndsIn K d s x
  ends_so s zero (Items k) h = h
  ends_so s (suc d) (Items k) h = all_of (λ y. ends_so s d (follow K s y)) (list_at s.lists k) h
  ends_so s zero other h = tt
  ends_so s (suc d) other h = tt

  lists_end : (s : Vat Name) → NoListLeadsBack K s → ListsEnd K s
  lists_end s none x = ends_so s (length s.lists) x (ringless_lists_end word v s none x)

  -- where a call stops in a state in which no list leads back to itself, lists ended as it began
  pub ended_before : (tree : List Node) (d act : ℕ) (x : Value Name) (verb : Words) (args : List (Value Name)) (s t : Vat Name) (c : Stop) → ViewsWait K s.known → calls.call K tree (evaluator K tree d) act x verb args s ≡ Stops c t → NoListLeadsBack K t → ListsEnd K s
  ended_before tree d act x verb args s t c views e none = lists_end s (none_before s t views
      (stopped (SettledStays K) s t c _ ((call_keeps K (SettledStays K) (settled_law K) (settled_names K) tree d act x verb args).after s) e)
      (stopped SameLists s t c _ ((call_keeps K SameLists lists_law (lists_names K) tree d act x verb args).after s) e) none)
