-- What a vat learns moves no message and puts only notes that ask; what passes to another vat puts no note on the link to that.
use Rattle.std.proofs.Common.{◌≡◌, ℕ, zero, ◌-◌, Bool, true, false, List, [], ◌∷◌, ◌++◌, Option, Some, None, length, refl, sym, ap, subst, ◌∙◌, ◌⊎◌, inl, inr, append_assoc, ◌==◌, if◌then◌else◌}
use Rattle.std.proofs.lemmas.Bool.{eq-eqb}
use Rattle.std.proofs.lemmas.List.{append-nil}
use Rattle.def_machine.specs.Values.{Words, Value, Broken, Name, IsLearnt, Naming, host_of, naming, name_of}
use Rattle.def_machine.specs.State.{Message, Standing, Unsettled, Settled, Settle, Settles, Known, ToTell, Passed, Passeds, Plain, AGift, Many, NoMore, More, Note, Ask, Open, Put, ListCame, Lost, Happened, Vat, Done, Gives, ◌>>=◌, ◌>>◌, each, give, look, come, alter, draw, draws, drawn_at, send_out, begun, with_change}
use Rattle.def_machine.specs.State as state
use Rattle.def_machine.specs.Refs as refs
use Rattle.def_machine.specs.Refs.{Place, Mine, Away, entry_of}
use Rattle.def_run.specs.World.{Script, names}
use Rattle.law_fate.proofs.Fates.Leads.{Leads, Ends, IsLed, leads_bind, leads_then, leads_give, leads_look, leads_spend}
use Rattle.law_machine.specs.Machine.Laws.{SettledStays}
use Rattle.law_fate.specs.Name.Names.{AllOf, HostIsTrue}
use Rattle.law_reference.proofs.Reference.Kept.{changed_or}
use Rattle.law_fate.proofs.Name.Facts.{all_append}
use Rattle.law_order.specs.Ordering.Arrivals.{IsSilent}
use Rattle.law_order.specs.Ordering.Places.{held_on, held_in}
use Rattle.law_order.specs.Ordering.Worlds.{IfGives, IsKnown}
use Rattle.law_order.proofs.Ordering.Coming.{new_entry, old_entry}
use Rattle.law_order.proofs.Ordering.Entries.{Differs, as_it_was, changes, differs}
use Rattle.law_order.proofs.Carries.Breaking.{IsFresh, Broke}
use Rattle.law_order.specs.Tales.Middle.{DeliversNothing, IsQuietLine, MovesNone}
use Rattle.law_order.proofs.Tales.Silent.{silent_delivers}
use Rattle.law_order.proofs.Tales.Stilling.{Any, base, still_come, still_to_tell, still_pass, still_inform}
use Rattle.law_order.specs.MessageTales.Reorder.{IsAside}
use Rattle.law_order.proofs.MessageTales.Learnt.{IsCalm}
use Rattle.law_order.proofs.MessageTales.Arrival.{IsAfter}

abbrev pub StandsOr : Naming Name Name → List (Known Name) → List (Known Name) → Name → Type 0
StandsOr K ks js n = (refs.standing_of K js n ≡ refs.standing_of K ks n) ⊎ ((p : Words) × (refs.standing_of K js n ≡ Settled (Broken p)) × (refs.standing_of K ks n ≡ Unsettled))

stands_then : (K : Naming Name Name) (ks js is : List (Known Name)) (n : Name) → StandsOr K ks js n → StandsOr K js is n → StandsOr K ks is n
stands_then K ks js is n (inl e) (inl f) = inl (f ∙ e)
stands_then K ks js is n (inr e) (inl f) = inr (e.0, f ∙ e.1, e.2)
stands_then K ks js is n (inl e) (inr f) = inr (f.0, f.1, sym e ∙ f.2)
stands_then K ks js is n (inr e) (inr f) = inr (f.0, f.1, e.2)

settled_changed : (c : state.Change Name) (k : Known Name) (y : Value Name) → k.standing ≡ Settled y → state.changed c k ≡ k
unfolding state.changed state.unless_settled
settled_changed c k y e = ap (λ q. state.unless_settled q k (state.changed_to c k)) e

told_to : (w : ℕ) (k : Known Name) → (state.changed (ToTell w) k).standing ≡ k.standing
unfolding state.changed state.unless_settled state.changed_to
told_to w k = go k.standing refl
  where
    go : (q : Standing Name) → k.standing ≡ q → (state.unless_settled q k (record k { told = state.with_vat w k.told })).standing ≡ k.standing
    go (Settled y) e = refl
    go other e = refl

host_changed_to : (c : state.Change Name) (k : Known Name) → HostIsTrue k → HostIsTrue (state.changed_to c k)
unfolding state.changed_to
host_changed_to (state.Hold m) k h = h
host_changed_to other k h = h

host_changed : (c : state.Change Name) (k : Known Name) → HostIsTrue k → HostIsTrue (state.changed c k)
host_changed c k h = go (changed_or c k)
  where
    go : (state.changed c k ≡ k) ⊎ (state.changed c k ≡ state.changed_to c k) → HostIsTrue (state.changed c k)
    go (inl e) = subst HostIsTrue (sym e) h
    go (inr e) = subst HostIsTrue (sym e) (host_changed_to c k h)

now_broken : (problem : Words) (k : Known Name) → k.standing ≡ Unsettled → (state.changed (Settle (Broken problem)) k).standing ≡ Settled (Broken problem)
unfolding state.changed state.unless_settled state.changed_to
now_broken problem k e = ap (λ q. (state.unless_settled q k (record k { standing = Settled (Broken problem); held = []; waiting = []; reactions = []; told = [] })).standing) e

module _ (script : Script) (b : ℕ) where
  abbrev K : Naming Name Name
  K = names script b

  alone_unsettled : (n : Name) (h : ℕ) (m : Name) → refs.standing_in (entry_of K (begun n h ∷ []) m) ≡ Unsettled
  unfolding refs.standing_in entry_of begun
  alone_unsettled n h m = go (K.same n m)
    where
      go : (c : Bool) → refs.standing_in {N = Name} (elim c [ true ↦ Some (record { name = n; host = h; standing = Unsettled; held = []; waiting = []; reactions = []; told = [] }) | false ↦ None ]) ≡ Unsettled
      go true = refl
      go false = refl

  hosts_changed : (c : state.Change Name) (p : Name) (ks : List (Known Name)) → AllOf HostIsTrue ks → AllOf HostIsTrue (with_change K c p ks)
  unfolding with_change
  hosts_changed c p [] h = tt
  hosts_changed c p (k ∷ ks) h = go (K.same k.name p) (hosts_changed c p ks h.1)
    where
      go : (d : Bool) → AllOf HostIsTrue (with_change K c p ks) → AllOf HostIsTrue (elim d [ true ↦ state.changed c k ∷ ks | false ↦ k ∷ with_change K c p ks ])
      go true r = (host_changed c k h.0, h.1)
      go false r = (h.0, r)

  some_known : (j k : Known Name) → Some j ≡ Some k → j ≡ k
  some_known j k e = cc

  pub settled_kept : (c : state.Change Name) (p : Name) (ks : List (Known Name)) (n : Name) (k : Known Name) (y : Value Name) → entry_of K ks n ≡ Some k → k.standing ≡ Settled y → entry_of K (with_change K c p ks) n ≡ Some k
  settled_kept c p ks n k y e f = go (differs script b c p n ks) e
    where
      go : {d i : Option (Known Name)} → Differs script b c p n d i → d ≡ Some k → i ≡ Some k
      go (as_it_was g) j = g ∙ j
      go (changes l g h i) j = let same : l ≡ k = some_known l k (sym h ∙ j) in i ∙ ap (λ z. Some (state.changed c z)) same ∙ ap (λ z. Some z) (settled_changed c k y f)

  come_standing : (ks : List (Known Name)) (n : Name) (h : ℕ) (m : Name) → refs.standing_of K (ks ++ begun n h ∷ []) m ≡ refs.standing_of K ks m
  unfolding refs.standing_of refs.standing_in
  come_standing ks n h m = go (entry_of K ks m) refl
    where
      go : (o : Option (Known Name)) → entry_of K ks m ≡ o → refs.standing_in (entry_of K (ks ++ begun n h ∷ []) m) ≡ refs.standing_in (entry_of K ks m)
      go (Some k) e = ap (λ q. refs.standing_in q) (old_entry K ks (begun n h) k m e ∙ sym e)
      go None e = ap (λ q. refs.standing_in q) (new_entry K ks (begun n h) m e) ∙ alone_unsettled n h m ∙ sym (ap (λ q. refs.standing_in q) e)

  tell_standing : (w : ℕ) (p : Name) (ks : List (Known Name)) (m : Name) → refs.standing_of K (with_change K (ToTell w) p ks) m ≡ refs.standing_of K ks m
  unfolding refs.standing_of refs.standing_in
  tell_standing w p ks m = go (differs script b (ToTell w) p m ks)
    where
      go : {d i : Option (Known Name)} → Differs script b (ToTell w) p m d i → refs.standing_in i ≡ refs.standing_in d
      go (as_it_was g) = ap (λ q. refs.standing_in q) g
      go (changes l g h i) = ap (λ q. refs.standing_in q) i ∙ told_to w l ∙ sym (ap (λ q. refs.standing_in q) h)

  break_standing : (s : Vat Name) (p : Name) (problem : Words) (host : ℕ) (k : Known Name) → IsFresh K host s p k → (m : Name) → StandsOr K s.known (Broke K s p problem).known m
  unfolding refs.standing_of refs.standing_in
  break_standing s p problem host k fresh m = go (differs script b (Settle (Broken problem)) p m s.known) refl
    where
      go : {d i : Option (Known Name)} → Differs script b (Settle (Broken problem)) p m d i → entry_of K s.known m ≡ d
          → (refs.standing_in i ≡ refs.standing_in d) ⊎ ((q : Words) × (refs.standing_in i ≡ Settled (Broken q)) × (refs.standing_in d ≡ Unsettled))
      go (as_it_was g) e = inl (ap (λ q. refs.standing_in q) g)
      go (changes l g h i) e =
          let same : k ≡ l = some_known k l (sym fresh.found ∙ ap (entry_of K s.known) (sym g) ∙ e ∙ h) in
          let open_then : l.standing ≡ Unsettled = ap (λ (z : Known Name). z.standing) (sym same) ∙ fresh.unsettled in
          inr (problem, ap (λ q. refs.standing_in q) i ∙ now_broken problem l open_then, ap (λ q. refs.standing_in q) h ∙ open_then)

  -- From s to t no message moves, silent notes are put, no word is drawn, names that were known are, and lists come to the end.
  pub record Calm (s t : Vat Name) : Type 0 where
    pub queue : t.queue ≡ s.queue
    pub held : (n : Name) → held_in n (entry_of K t.known n) ≡ held_in n (entry_of K s.known n)
    pub puts : List (Put Name)
    pub outbox : t.outbox ≡ s.outbox ++ puts
    pub silent : AllOf (λ (p : Put Name). IsSilent p.note) puts
    pub lines : List (Happened Name)
    pub happened : t.happened ≡ s.happened ++ lines
    pub quiet : AllOf IsQuietLine lines
    pub drawn : t.drawn ≡ s.drawn
    pub knows : (n : Name) → IsKnown K s n → IsKnown K t n
    -- what settled stays, and a name stands as it stood, or is broken and was unsettled
    pub settles : SettledStays K s t
    pub standing : (n : Name) → StandsOr K s.known t.known n
    pub hosts : AllOf HostIsTrue s.known → AllOf HostIsTrue t.known
    pub more : List (List (Value Name))
    pub lists : t.lists ≡ s.lists ++ more

  delivers_none : (ps : List (Put Name)) → AllOf (λ (p : Put Name). IsSilent p.note) ps → AllOf (λ (p : Put Name). DeliversNothing p.note) ps
  delivers_none [] h = tt
  delivers_none (p ∷ ps) h = (silent_delivers p.note h.0, delivers_none ps h.1)

  pub calm_moves : (s t : Vat Name) → Calm s t → MovesNone K s t
  calm_moves s t h = record { queue = h.queue; held = h.held; puts = h.puts; outbox = h.outbox; none = delivers_none h.puts h.silent; lines = h.lines; happened = h.happened; quiet = h.quiet }

  -- nothing is put
  module _ (s t : Vat Name) (queue : t.queue ≡ s.queue) (held : (n : Name) → held_in n (entry_of K t.known n) ≡ held_in n (entry_of K s.known n)) (outbox : t.outbox ≡ s.outbox) (drawn : t.drawn ≡ s.drawn) (knows : (n : Name) → IsKnown K s n → IsKnown K t n)
      (settles : SettledStays K s t) (standing : (n : Name) → StandsOr K s.known t.known n) (hosts : AllOf HostIsTrue s.known → AllOf HostIsTrue t.known) where
    quietly : (ls : List (Happened Name)) → t.happened ≡ s.happened ++ ls → AllOf IsQuietLine ls → (ms : List (List (Value Name))) → t.lists ≡ s.lists ++ ms → Calm s t
    quietly ls e q ms l = record { queue = queue; held = held; puts = []; outbox = outbox ∙ sym (append-nil s.outbox); silent = tt; lines = ls; happened = e; quiet = q; drawn = drawn; knows = knows; settles = settles; standing = standing; hosts = hosts; more = ms; lists = l }

    unheard : t.happened ≡ s.happened → t.lists ≡ s.lists → Calm s t
    unheard e l = quietly [] (e ∙ sym (append-nil s.happened)) tt [] (l ∙ sym (append-nil s.lists))

  calm_then : (s t u : Vat Name) → Calm s t → Calm t u → Calm s u
  calm_then s t u h k = record {
    queue = k.queue ∙ h.queue;
    held = λ n. k.held n ∙ h.held n;
    puts = h.puts ++ k.puts;
    outbox = k.outbox ∙ ap (λ ps. ps ++ k.puts) h.outbox ∙ append_assoc s.outbox h.puts k.puts;
    silent = all_append (λ (p : Put Name). IsSilent p.note) h.puts k.puts h.silent k.silent;
    lines = h.lines ++ k.lines;
    happened = k.happened ∙ ap (λ es. es ++ k.lines) h.happened ∙ append_assoc s.happened h.lines k.lines;
    quiet = all_append IsQuietLine h.lines k.lines h.quiet k.quiet;
    drawn = k.drawn ∙ h.drawn;
    knows = λ n i. k.knows n (h.knows n i);
    settles = λ n e y i j. k.settles n e y (h.settles n e y i j) j;
    standing = λ n. stands_then K s.known t.known u.known n (h.standing n) (k.standing n);
    hosts = λ i. k.hosts (h.hosts i);
    more = h.more ++ k.more;
    lists = k.lists ∙ ap (λ ls. ls ++ k.more) h.lists ∙ append_assoc s.lists h.more k.more;
  }

  begun_host : (n : Name) (h : ℕ) → h ≡ host_of n → HostIsTrue (begun n h)
  unfolding begun
  begun_host n h e = e

  come_held : (s : Vat Name) (n : Name) (h : ℕ) → MovesNone K s (record s { known = s.known ++ begun n h ∷ [] })
  unfolding come names naming name_of
  come_held s n h = (still_come K (IsLearnt n) h).after s

  tell_held : (s : Vat Name) (w : ℕ) (n : Name) → MovesNone K s (record s { known = with_change K (ToTell w) n s.known })
  unfolding alter
  tell_held s w n = (still_to_tell K w n).after s

  changed_known : (c : state.Change Name) (p : Name) (ks : List (Known Name)) (n : Name) → (k : Known Name) × (entry_of K ks n ≡ Some k) → (k : Known Name) × (entry_of K (with_change K c p ks) n ≡ Some k)
  changed_known c p ks n i = go (differs script b c p n ks) i
    where
      go : {d e : Option (Known Name)} → Differs script b c p n d e → (k : Known Name) × (d ≡ Some k) → (k : Known Name) × (e ≡ Some k)
      go (as_it_was f) j = (j.0, f ∙ j.1)
      go (changes k f g h) j = (state.changed c k, h)

  -- a fresh name breaks
  none_held : (n : Name) (ms : List (Message Name)) → ms ≡ [] → held_on n ms ≡ []
  unfolding held_on
  none_held n ms e = ap (held_on n) e

  settled_held : (y : Value Name) (n : Name) (k : Known Name) → k.held ≡ [] → held_on n (state.changed (Settle y) k).held ≡ held_on n k.held
  unfolding state.changed state.unless_settled state.changed_to held_on
  settled_held y n k e = go k.standing
    where
      go : (c : Standing Name) → held_on n (state.unless_settled c k (record k { standing = Settled y; held = []; waiting = []; reactions = []; told = [] })).held ≡ held_on n k.held
      go (Settled z) = refl
      go other = sym (none_held n k.held e)

  breaks_held : (s : Vat Name) (p : Name) (problem : Words) (host : ℕ) (k : Known Name) → IsFresh K host s p k → (n : Name) → held_in n (entry_of K (Broke K s p problem).known n) ≡ held_in n (entry_of K s.known n)
  unfolding held_in
  breaks_held s p problem host k fresh n = go (differs script b (Settle (Broken problem)) p n s.known) refl
    where
      go : {d e : Option (Known Name)} → Differs script b (Settle (Broken problem)) p n d e → entry_of K s.known n ≡ d → held_in n e ≡ held_in n d
      go (as_it_was f) i = ap (held_in n) f
      go (changes j f g h) i = ap (held_in n) h ∙ settled_held (Broken problem) n j empty ∙ sym (ap (held_in n) g)
        where
          same : k ≡ j
          same = some_is (sym fresh.found ∙ ap (entry_of K s.known) (sym f) ∙ i ∙ g)
            where
              some_is : Some k ≡ Some j → k ≡ j
              some_is c = cc

          empty : j.held ≡ []
          empty = ap (λ (z : Known Name). z.held) (sym same) ∙ fresh.held

  -- nothing is known otherwise
  same_known : (s t : Vat Name) → t.queue ≡ s.queue → t.outbox ≡ s.outbox → t.drawn ≡ s.drawn → t.known ≡ s.known → (ls : List (Happened Name)) → t.happened ≡ s.happened ++ ls → AllOf IsQuietLine ls → (ms : List (List (Value Name))) → t.lists ≡ s.lists ++ ms → Calm s t
  same_known s t q o d k ls e i ms l = quietly s t q (λ n. ap (λ ks. held_in n (entry_of K ks n)) k) o d (λ n j. subst (λ ks. (z : Known Name) × (entry_of K ks n ≡ Some z)) (sym k) j)
      (λ n z y f g. subst (λ ks. entry_of K ks n ≡ Some z) (sym k) f) (λ n. inl (ap (λ ks. refs.standing_of K ks n) k)) (λ h. subst (λ ks. AllOf HostIsTrue ks) (sym k) h) ls e i ms l

  pub calm : IsCalm K Calm
  calm = record {
    same = λ s. same_known s s refl refl refl refl [] (sym (append-nil s.happened)) tt [] (sym (append-nil s.lists));
    trans = λ {s} {t} {u} h k. calm_then s t u h k;
    mails = λ s m. same_known s (record s { mails = s.mails ++ m ∷ [] }) refl refl refl refl [] (sym (append-nil s.happened)) tt [] (sym (append-nil s.lists));
    comes = λ s n h true_host. unheard s (record s { known = s.known ++ begun n h ∷ [] }) refl (come_held s n h).held refl refl (λ m i. (i.0, old_entry K s.known (begun n h) i.0 m i.1))
        (λ m k y e f. old_entry K s.known (begun n h) k m e) (λ m. inl (come_standing s.known n h m)) (λ i. all_append HostIsTrue s.known (begun n h ∷ []) i (begun_host n h true_host, tt)) refl refl;
    lists = λ s vs. same_known s (record s { lists = s.lists ++ vs ∷ []; happened = s.happened ++ ListCame (length s.lists) vs ∷ [] }) refl refl refl refl (ListCame (length s.lists) vs ∷ []) refl (tt, tt) (vs ∷ []) refl;
    tells = λ s w n. unheard s (record s { known = with_change K (ToTell w) n s.known }) refl (tell_held s w n).held refl refl (λ m i. changed_known (ToTell w) n s.known m i)
        (λ m k y e f. settled_kept (ToTell w) n s.known m k y e f) (λ m. inl (tell_standing w n s.known m)) (hosts_changed (ToTell w) n s.known) refl refl;
    asks = λ s h p i n. record { queue = refl; held = λ m. refl; puts = record { to = h; note = Ask p i n } ∷ []; outbox = refl; silent = (tt, tt); lines = []; happened = sym (append-nil s.happened); quiet = tt; drawn = refl; knows = λ m j. j; settles = λ m k y e f. e; standing = λ m. inl refl; hosts = λ j. j; more = []; lists = sym (append-nil s.lists) };
    breaks = λ s p problem host k fresh. quietly s (Broke K s p problem) refl (breaks_held s p problem host k fresh) refl refl (λ m i. changed_known (Settle (Broken problem)) p s.known m i)
        (λ m l y e f. settled_kept (Settle (Broken problem)) p s.known m l y e f) (break_standing s p problem host k fresh) (hosts_changed (Settle (Broken problem)) p s.known) (Settles p (Broken problem) ∷ []) refl (tt, tt) [] (sym (append-nil s.lists));
    knows = λ h n i. h.knows n i;
    more = λ h. (h.more, h.lists);
  }

  -- ---- what comes after, where the message is lost

  informs : (p : Name) (hs : List ℕ) → Leads Any (MovesNone K) (each (refs.inform K p) hs)
  unfolding each
  informs p [] = leads_give Any (MovesNone K) (base K) tt
  informs p (h ∷ hs) = leads_then Any (MovesNone K) (base K) (still_inform K p h) (informs p hs)

  gives : {A : Type 0} (s : Vat Name) (d : Done Name A) → Ends Any (MovesNone K) s d → IfGives (λ t. MovesNone K s t) d
  gives s (Gives x t) h = h
  gives s other h = tt

  pub after : IsAfter K Calm (MovesNone K)
  after = record {
    calm = λ {s} {t} h. calm_moves s t h;
    trans = λ h k. (base K).trans h k;
    lost = λ s m. record { queue = refl; held = λ n. refl; puts = []; outbox = sym (append-nil s.outbox); none = tt; lines = Lost m ∷ []; happened = refl; quiet = (tt, tt) };
    informs = λ s p hs. gives s (each (refs.inform K p) hs s) ((informs p hs).after s);
  }

  pub passes_none : (h : ℕ) (xs : List (Value Name)) → Leads Any (MovesNone K) (refs.pass_all K h xs)
  unfolding refs.pass_all
  passes_none h [] = leads_give Any (MovesNone K) (base K) NoMore
  passes_none h (x ∷ xs) = leads_bind Any (MovesNone K) (base K) (still_pass K h x) (λ y. leads_bind Any (MovesNone K) (base K) (passes_none h xs) (λ ys. leads_give Any (MovesNone K) (base K) (More y ys)))

  -- ---- what passes puts nothing on the link to the receiver

  module _ (h : ℕ) where
    pub record Aside (s t : Vat Name) : Type 0 where
      pub puts : List (Put Name)
      pub outbox : t.outbox ≡ s.outbox ++ puts
      pub aside : AllOf (IsAside h) puts

    none_put : (s t : Vat Name) → t.outbox ≡ s.outbox → Aside s t
    none_put s t e = record { puts = []; outbox = e ∙ sym (append-nil s.outbox); aside = tt }

    aside_then : (s t u : Vat Name) → Aside s t → Aside t u → Aside s u
    aside_then s t u f g = record { puts = f.puts ++ g.puts; outbox = g.outbox ∙ ap (λ ps. ps ++ g.puts) f.outbox ∙ append_assoc s.outbox f.puts g.puts; aside = all_append (IsAside h) f.puts g.puts f.aside g.aside }

    led : IsLed Any Aside
    led = record {
      same = λ s. none_put s s refl;
      trans = λ {s} {t} {u} f g. aside_then s t u f g;
      stops = λ s. tt;
      stopped = λ f g. tt;
      fuel = λ s n. none_put s (record s { fuel = s.fuel - n }) refl;
      told = λ s e i. none_put s (record s { happened = s.happened ++ e ∷ [] }) refl;
      activations = λ s. none_put s _ refl;
      thing = λ s t. none_put s (record s { things = s.things ++ t ∷ [] }) refl;
      killed = λ s n. none_put s (record s { things = state.change state.dead n s.things }) refl;
      slot = λ s c. none_put s (record s { slots = s.slots ++ c ∷ [] }) refl;
      written = λ s n y. none_put s (record s { slots = state.change (state.holding y) n s.slots }) refl;
      list = λ s vs. none_put s (record s { lists = s.lists ++ vs ∷ [] }) refl;
    }

    aside_tell : (w : ℕ) (n : Name) → Leads Any Aside (alter K (ToTell w) n)
    unfolding alter
    aside_tell w n = record { after = λ s. none_put s _ refl }

    aside_draw : Leads Any Aside (draw K)
    unfolding draw draws
    aside_draw = record { after = λ s. go s (drawn_at zero (K.word (length s.drawn)) s.drawn) }
      where
        go : (s : Vat Name) (o : Option ℕ) → Ends Any Aside s (draws (K.word (length s.drawn)) o s)
        go s (Some j) = tt
        go s None = none_put s _ refl

    aside_open : (g i : ℕ) (n : Name) → (g == h) ≡ false → Leads {N = Name} Any Aside (send_out g (Open i n))
    unfolding send_out
    aside_open g i n e = record { after = λ s. record { puts = record { to = g; note = Open i n } ∷ []; outbox = refl; aside = (λ f. absurd (let j : (g == h) ≡ true = eq-eqb g h f in cc), tt) } }

    aside_gift : (g : ℕ) (n : Name) → (g == h) ≡ false → Leads Any Aside (draw K >>= (λ i. send_out g (Open i n) >> give {A = Passed Name} (AGift g i)))
    aside_gift g n e = leads_bind Any Aside led aside_draw (λ i. leads_then Any Aside led (aside_open g i n e) (leads_give Any Aside led (AGift g i)))

    aside_plain : (y : Value Name) (p : Place Name) → Leads Any Aside (refs.address_plain K h y p)
    unfolding refs.address_plain
    aside_plain y (Away g n o) = go (g == h) refl
      where
        go : (c : Bool) → (g == h) ≡ c → Leads Any Aside (if c then give (Plain y) else (draw K >>= (λ i. send_out g (Open i n) >> give {A = Passed Name} (AGift g i))))
        go true e = leads_give Any Aside led (Plain y)
        go false e = aside_gift g n e
    aside_plain y (Mine n) = leads_then Any Aside led (aside_tell h n) (leads_give Any Aside led (Plain y))
    aside_plain y other = leads_give Any Aside led (Plain y)

    mutual
      unfolding refs.address refs.address_all

      aside_one : (y : Passed Name) → Leads Any Aside (refs.address K h y)
      aside_one (Plain y) = leads_bind Any Aside led (leads_look Any Aside led _) (λ p. aside_plain y p)
      aside_one (AGift g i) = leads_give Any Aside led (AGift g i)
      aside_one (Many ys) = leads_bind Any Aside led (aside_many ys) (λ zs. leads_give Any Aside led (Many zs))

      aside_many : (ys : Passeds Name) → Leads Any Aside (refs.address_all K h ys)
      aside_many NoMore = leads_give Any Aside led NoMore
      aside_many (More y ys) = leads_bind Any Aside led (aside_one y) (λ z. leads_bind Any Aside led (aside_many ys) (λ zs. leads_give Any Aside led (More z zs)))

    aside_pass : (x : Value Name) → Leads Any Aside (refs.pass K h x)
    unfolding refs.pass
    aside_pass x = leads_bind Any Aside led (leads_look Any Aside led _) (λ y. leads_then Any Aside led (leads_spend Any Aside led _) (aside_one y.value))

    pub passes_aside : (xs : List (Value Name)) → Leads Any Aside (refs.pass_all K h xs)
    unfolding refs.pass_all
    passes_aside [] = leads_give Any Aside led NoMore
    passes_aside (x ∷ xs) = leads_bind Any Aside led (aside_pass x) (λ y. leads_bind Any Aside led (passes_aside xs) (λ ys. leads_give Any Aside led (More y ys)))
