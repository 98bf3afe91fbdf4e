-- Views go on as they were: what is viewed was viewed, and what waits on its view waits on it, in all that a vat does but for making a view.
use Rattle.std.proofs.Common.{◌≡◌, ℕ, ◌<◌, Bool, true, false, List, [], ◌∷◌, ◌++◌, Option, Some, None, refl, sym, ap, ◌∙◌, inl, inr}
use Rattle.def_machine.specs.Values.{Value, Naming}
use Rattle.def_machine.specs.State.{Standing, Unsettled, Viewed, Settled, Known, Change, Settle, Settles as Told, Vat, Done, Gives, Act, ◌>>◌, and_then, tell, alter, with_change, changed, begun}
use Rattle.def_machine.specs.Refs as refs
use Rattle.def_machine.specs.Refs.{entry_of, standing_of, standing_in}
use Rattle.law_machine.proofs.Machine.StepLaws.{entry_append}
use Rattle.law_fate.specs.Name.Names.{IsAmong}
use Rattle.law_reference.specs.Reference.Views.{IsOpen, index_at, Awaits}
use Rattle.law_reference.proofs.Reference.Entries.{SameOr, same_or, Knows, index_changed, index_append, Mild}
use Rattle.law_reference.proofs.Reference.Gentle.{GivesBy, AfterGives, Gentle, IsGentle, gentle}
use Rattle.law_reference.proofs.Reference.Settles.{IsSettled, change_settles, told_on, waiting_settled}
use Rattle.law_reference.proofs.Reference.RefsGentle.{SettlesBy, GoodSettler, gentle_send_on, gentle_inform}

settled_view : {N : Type 0} (t : Standing N) (y : Value N) (g : N) → t ≡ Settled y → t ≡ Viewed g → ⊥
settled_view t y g e f = let both : Settled y ≡ Viewed g = sym e ∙ f in cc

module _ {N W : Type 0} (K : Naming N W) where
  abbrev pub Go : List (Known N) → List (Known N) → Type 0
  Go ks ls = (n g : N) → standing_of K ls n ≡ Viewed g → (standing_of K ks n ≡ Viewed g) × (Awaits K ks n g → Awaits K ls n g)

  abbrev pub ViewsGo : Vat N → Vat N → Type 0
  ViewsGo s t = Go s.known t.known

  -- ---- a change

  viewed_back : (c : Change N) → ((k : Known N) (g : N) → (changed c k).standing ≡ Viewed g → k.standing ≡ Viewed g) → (m n g : N) (ks ls : List (Known N)) → SameOr K c m ks ls n → standing_of K ls n ≡ Viewed g → standing_of K ks n ≡ Viewed g
  unfolding standing_of standing_in
  viewed_back c f m n g ks ls (inl e) h = rw e at h
  viewed_back c f m n g ks ls (inr x) h = rw x.1 (f x.0 g (rw x.3 at h))

  some_same : (j k : Known N) → Some j ≡ Some k → j ≡ k
  some_same j k e = cc

  pub awaits_changed : (c : Change N) → ((k : Known N) → IsOpen k.standing → IsOpen (changed c k).standing) → ((k : Known N) (n : N) → IsAmong n k.waiting → IsAmong n (changed c k).waiting)
      → (m n g : N) (ks : List (Known N)) → Awaits K ks n g → Awaits K (with_change K c m ks) n g
  awaits_changed c pends waits m n g ks aw = by_or (same_or K c m g ks)
    where
      less : index_at K (with_change K c m ks) n < index_at K (with_change K c m ks) g
      less = rw (index_changed K c m n ks, index_changed K c m g ks) aw.later

      by_or : SameOr K c m ks (with_change K c m ks) g → Awaits K (with_change K c m ks) n g
      by_or (inl e) = record { entry = aw.entry; found = e ∙ aw.found; pending = aw.pending; among = aw.among; later = less }
      by_or (inr x) = let same : x.0 ≡ aw.entry = some_same x.0 aw.entry (sym x.1 ∙ aw.found) in
          record { entry = changed c aw.entry; found = x.3 ∙ ap (λ (k : Known N). Some (changed c k)) same; pending = pends aw.entry aw.pending; among = waits aw.entry n aw.among; later = less }

  pub go_changed : (c : Change N) → Mild c → (m : N) (ks : List (Known N)) → Go ks (with_change K c m ks)
  go_changed c mild m ks n g e = (viewed_back c mild.viewed m n g ks (with_change K c m ks) (same_or K c m n ks) e, λ aw. awaits_changed c mild.pending mild.waits m n g ks aw)

  -- ---- one name more

  viewed_some : (o : Option (Known N)) (g : N) → standing_in o ≡ Viewed g → (k : Known N) × (o ≡ Some k)
  unfolding standing_in
  viewed_some (Some k) g e = (k, refl)
  viewed_some None g e = cc

  pub viewed_known : (ks : List (Known N)) (n g : N) → standing_of K ks n ≡ Viewed g → Knows K ks n
  unfolding standing_of
  viewed_known ks n g e = viewed_some (entry_of K ks n) g e

  pub awaits_append : (ks js : List (Known N)) (n g : N) → Knows K ks n → Awaits K ks n g → Awaits K (ks ++ js) n g
  awaits_append ks js n g h aw = record {
    entry = aw.entry;
    found = entry_append K g ks js aw.entry aw.found;
    pending = aw.pending;
    among = aw.among;
    later = rw (index_append K ks js n h.0 h.1, index_append K ks js g aw.entry aw.found) aw.later;
  }

  begun_stands : (b : Bool) (k : Known N) (g : N) → k.standing ≡ Unsettled → standing_in (elim b [ true ↦ Some k | false ↦ None ]) ≡ Viewed g → ⊥
  unfolding standing_in
  begun_stands true k g e h = let both : Unsettled ≡ Viewed g = sym e ∙ h in cc
  begun_stands false k g e h = cc

  last_head : (a : Bool) (k0 : Known N) (o p r : Option (Known N)) → ◌≡◌ {A = Option (Known N)} (elim a [ true ↦ Some k0 | false ↦ o ]) None → (o ≡ None → p ≡ r) → ◌≡◌ {A = Option (Known N)} (elim a [ true ↦ Some k0 | false ↦ p ]) r
  last_head true k0 o p r e f = cc
  last_head false k0 o p r e f = f e

  -- the entry of a name that was not known
  pub entry_last : (ks : List (Known N)) (k : Known N) (n : N) → entry_of K ks n ≡ None → entry_of K (ks ++ k ∷ []) n ≡ (elim (K.same k.name n) [ true ↦ Some k | false ↦ None ])
  unfolding entry_of
  entry_last [] k n e = refl
  entry_last (k0 ∷ ks) k n e = last_head (K.same k0.name n) k0 (entry_of K ks n) (entry_of K (ks ++ k ∷ []) n) (elim (K.same k.name n) [ true ↦ Some k | false ↦ None ]) e (λ h. entry_last ks k n h)

  viewed_before : (ks : List (Known N)) (k : Known N) (n g : N) (o : Option (Known N)) → k.standing ≡ Unsettled → entry_of K ks n ≡ o → standing_of K (ks ++ k ∷ []) n ≡ Viewed g → standing_of K ks n ≡ Viewed g
  unfolding standing_of
  viewed_before ks k n g (Some j) u e h = rw e (rw (entry_append K n ks (k ∷ []) j e) at h)
  viewed_before ks k n g None u e h = absurd (begun_stands (K.same k.name n) k g u (rw (entry_last ks k n e) at h))

  pub go_append : (ks : List (Known N)) (k : Known N) → k.standing ≡ Unsettled → Go ks (ks ++ k ∷ [])
  go_append ks k u n g e = let before = viewed_before ks k n g (entry_of K ks n) u refl e in (before, λ aw. awaits_append ks (k ∷ []) n g (viewed_known ks n g before) aw)

  unsettled : (n : N) (h : ℕ) → (begun n h).standing ≡ Unsettled
  unfolding begun
  unsettled n h = refl

  -- ---- all single changes but settling and making a view

  pub go_same : (ks : List (Known N)) → Go ks ks
  go_same ks n g e = (e, λ aw. aw)

  pub views_gentle : IsGentle K ViewsGo
  views_gentle = record {
    same = λ s. go_same s.known;
    trans = λ h k n g e. let back = k n g e in let on = h n g back.0 in (on.0, λ aw. back.1 (on.1 aw));
    fuel = λ s n. go_same s.known;
    happened = λ s e. go_same s.known;
    list = λ s vs. go_same s.known;
    queue = λ s m. go_same s.known;
    outbox = λ s n. go_same s.known;
    gift = λ s g. go_same s.known;
    opened = λ s p i. go_same s.known;
    drawn = λ s w. go_same s.known;
    altered = λ s c n mild. go_changed c mild n s.known;
    came = λ s c h. go_append s.known _ (unsettled _ h);
    mailed = λ s c. go_same s.known;
    lone = λ s id. go_same s.known;
    promised = λ s. go_append s.known _ (unsettled _ s.number);
    messaged = λ s h id. go_append s.known _ (unsettled _ h);
  }

  -- ---- settling

  -- what is viewed once a name settled was viewed before
  settle_back : (y : Value N) (p n g : N) (ks ls : List (Known N)) → SameOr K (Settle y) p ks ls n → standing_of K ls n ≡ Viewed g → standing_of K ks n ≡ Viewed g
  unfolding standing_of standing_in
  settle_back y p n g ks ls (inl e) h = rw e at h
  settle_back y p n g ks ls (inr x) h = let z = change_settles y x.0 in absurd (settled_view (changed (Settle y) x.0).standing z.0 g z.1 (rw x.3 at h))

  settle_index : (y : Value N) (p n g : N) (ks : List (Known N)) → index_at K ks n < index_at K ks g → index_at K (with_change K (Settle y) p ks) n < index_at K (with_change K (Settle y) p ks) g
  settle_index y p n g ks h = rw (index_changed K (Settle y) p n ks, index_changed K (Settle y) p g ks) h

  -- what waited on another name waits on it
  settle_awaits : (y : Value N) (p n g : N) (ks : List (Known N)) (k : Known N) → entry_of K ks p ≡ Some k → (IsAmong n k.waiting → ⊥) → Awaits K ks n g → Awaits K (with_change K (Settle y) p ks) n g
  settle_awaits y p n g ks k e never aw = by_or (same_or K (Settle y) p g ks)
    where
      by_or : SameOr K (Settle y) p ks (with_change K (Settle y) p ks) g → Awaits K (with_change K (Settle y) p ks) n g
      by_or (inl i) = record { entry = aw.entry; found = i ∙ aw.found; pending = aw.pending; among = aw.among; later = settle_index y p n g ks aw.later }
      by_or (inr x) = let same : aw.entry ≡ k = some_same aw.entry k (sym aw.found ∙ x.1 ∙ sym x.2 ∙ e) in absurd (never (rw same at aw.among))

  told_leads : (settle : N → Value N → Act N (Unit {0})) → GoodSettler ViewsGo settle → (p : N) (y : Value N) (k : Known N) → Gentle ViewsGo (told_on K settle p y k)
  unfolding told_on
  told_leads settle good p y k = let law : IsGentle K ViewsGo = views_gentle in search (gentle, gentle_send_on, gentle_inform) depth 14

  -- from the state in which the name settled on
  after_told : (p : N) (y : Value N) (k : Known N) (s u : Vat N) → entry_of K s.known p ≡ Some k → Go (with_change K (Settle y) p s.known) u.known
      → ((n : N) → IsAmong n k.waiting → Knows K (with_change K (Settle y) p s.known) n → IsSettled K n u) → ViewsGo s u
  after_told p y k s u e go settled n g h = let back = go n g h in (
    settle_back y p n g s.known (with_change K (Settle y) p s.known) (same_or K (Settle y) p n s.known) back.0,
    λ aw. back.1 (settle_awaits y p n g s.known k e (λ i. let z = settled n i (viewed_known (with_change K (Settle y) p s.known) n g back.0) in settled_view (standing_of K u.known n) z.0 g z.1 h) aw),
  )

  told_views : {A : Type 0} (p : N) (y : Value N) (k : Known N) (s t : Vat N) (d : Done N A) → entry_of K s.known p ≡ Some k → t.known ≡ with_change K (Settle y) p s.known → GivesBy ViewsGo t d
      → ((n : N) → IsAmong n k.waiting → Knows K t.known n → AfterGives (IsSettled K n) d) → GivesBy ViewsGo s d
  told_views p y k s t (Gives a u) e same go settled = after_told p y k s u e (rw same at go) (rw same at settled)
  told_views p y k s t other e same go settled = tt

  pub settles_views : SettlesBy K ViewsGo
  unfolding refs.settle_known told_on ◌>>◌ tell alter and_then
  settles_views settle good lasts settles p y k s e = let t : Vat N = record s { happened = s.happened ++ Told p y ∷ []; known = with_change K (Settle y) p s.known } in
      told_views p y k s t (told_on K settle p y k t) e refl ((told_leads settle good p y k).after t) (λ n i h. waiting_settled K settle lasts settles p y k t n i h)
