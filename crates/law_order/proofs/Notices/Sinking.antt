-- Names of a vat break, and nothing is left of what waited on them: what is shown of the vat before holds of it after.
use Rattle.std.proofs.Common.{◌≡◌, ℕ, zero, suc, false, List, [], ◌∷◌, ◌++◌, Option, Some, None, length, refl, sym, ap, subst, ◌∙◌, ◌⊎◌, inl, inr}
use Rattle.std.proofs.lemmas.List.{append-nil, append_assoc}
use Rattle.def_machine.specs.Values.{Words, Value, Broken, Ref, Name, Naming, host_of}
use Rattle.def_machine.specs.State.{Message, Standing, Unsettled, WaitsOn, Viewed, Settled, Known, Settle, Passed, SettledTo, Put, Happened, Lost, Settles, Vat, WhereSome, is_in}
use Rattle.def_machine.specs.Refs as refs
use Rattle.def_machine.specs.Refs.{entry_of, standing_of, standing_in, follow_at}
use Rattle.def_run.specs.World.{Script, names}
use Rattle.law_fate.specs.Name.Names.{AllOf, IsAmong}
use Rattle.law_reference.specs.Reference.Waits.{WaitIs, WaitsEndIn}
use Rattle.law_order.specs.Ordering.Settle.{IsEnded, OnlySettles, SettlesHere, AllOn, settled_to}
use Rattle.law_order.specs.Ordering.Settlings.{with_line}
use Rattle.law_order.specs.Ordering.Worlds.{IsWaiting, IsObject, IsKnown, IsFixed, FollowsEnd, StandsAlike}
use Rattle.law_order.proofs.Ordering.Amid.{entry_self}
use Rattle.law_order.proofs.Ordering.Entries.{Differs, as_it_was, changes, differs, same_length}
use Rattle.law_order.proofs.Ordering.Sends.{entry_changed}
use Rattle.law_order.proofs.Views.Quiet.{is_name}
use Rattle.law_order.proofs.Views.Settling.{IsOpen, settles}
use Rattle.law_order.proofs.Runs.Truths.{object_self, data_self}
use Rattle.law_order.specs.Waits.Answers.{IsWaitOf}

-- ---- what is asked of a vat

-- it is the vat's own if it waits, and another's if it is viewed; it settled to data or to an object
abbrev pub StandsWell : ℕ → Name → Standing Name → Type 0
StandsWell v n Unsettled = Unit {0}
StandsWell v n (WaitsOn q) = host_of n ≡ v
StandsWell v n (Viewed g) = host_of n ≡ v → ⊥
StandsWell v n (Settled z) = IsEnded z

-- the vat hosts the answer of the message
abbrev pub AnswersHere : ℕ → Message Name → Type 0
AnswersHere v m = WhereSome (λ a. host_of a ≡ v) m.answer

-- What vat v knows of a name: of one of another vat it holds nothing, and is to tell nobody. P holds of each message that reacts.
pub record IsWell (P : Message Name → Type 0) (v : ℕ) (n : Name) (k : Known Name) : Type 0 where
  pub host : k.host ≡ host_of n
  pub stands : StandsWell v n k.standing
  pub on : AllOn n k.held
  pub answers : AllOf (AnswersHere v) k.held
  pub empty : (host_of n ≡ v → ⊥) → (k.held ≡ []) × (k.told ≡ [])
  pub reacts : AllOf P k.reactions

-- What is shown of vat v in each state of a notice. It stays so as names break.
pub record Sound (K : Naming Name Name) (P : Message Name → Type 0) (v : ℕ) (s : Vat Name) : Type 0 where
  pub number : s.number ≡ v
  pub itself : is_in v s.noticed ≡ false
  pub objects : (n : Name) → IsObject n → entry_of K s.known n ≡ None
  pub known : (n : Name) (k : Known Name) → entry_of K s.known n ≡ Some k → IsWell P v n k
  pub views : (n g : Name) → standing_of K s.known n ≡ Viewed g → IsKnown K s g
  pub ends : (n : Name) → WaitsEndIn K (length s.known) s.known n
  pub waits : (n : Name) (k : Known Name) (q : Name) → entry_of K s.known n ≡ Some k → IsAmong q k.waiting → IsWaitOf n (standing_of K s.known q)

-- ---- names break

-- this name, broken
abbrev pub Broke : Value Name → Known Name → Known Name
Broke y k = record k { standing = Settled y; held = []; waiting = []; reactions = []; told = [] }

-- what is known of a name: as it was, or it broke
pub data Sank (y : Value Name) (a b : Option (Known Name)) : Type 0 where
  stayed : b ≡ a → Sank y a b
  broke : (k : Known Name) → a ≡ Some k → b ≡ Some (Broke y k) → Sank y a b

-- it tells where a name settled
abbrev pub IsNews : Put Name → Type 0
IsNews p = (n : Name) × (y : Passed Name) × (p.note ≡ SettledTo n y)

-- it tells that a name settled, or that a message is lost
abbrev pub IsEnding : Happened Name → Type 0
IsEnding (Settles p y) = Unit {0}
IsEnding (Lost m) = Unit {0}
IsEnding other = ⊥

-- From s to t names broke, and nothing else changed of what is known of names. Messages of which P holds came to the end of the queue, notes were put that tell of names, and lines told that something ended.
pub record Sinks (K : Naming Name Name) (P : Message Name → Type 0) (y : Value Name) (s t : Vat Name) : Type 0 where
  pub number : t.number ≡ s.number
  pub noticed : t.noticed ≡ s.noticed
  pub gifts : t.gifts ≡ s.gifts
  pub names_known : length t.known ≡ length s.known
  pub entries : (n : Name) → Sank y (entry_of K s.known n) (entry_of K t.known n)
  pub queue : (ms : List (Message Name)) × (t.queue ≡ s.queue ++ ms) × AllOf P ms
  pub notes : (ps : List (Put Name)) × (t.outbox ≡ s.outbox ++ ps) × AllOf IsNews ps
  pub lines : (es : List (Happened Name)) × (t.happened ≡ s.happened ++ es) × AllOf IsEnding es

all_more : {A : Type 0} (P : A → Type 0) (xs ys : List A) → AllOf P xs → AllOf P ys → AllOf P (xs ++ ys)
all_more P [] ys g h = h
all_more P (x ∷ xs) ys g h = (g.0, all_more P xs ys g.1 h)

-- what came, and then what came behind it
more_then : {A : Type 0} (P : A → Type 0) (xs ys zs : List A) → ((ms : List A) × (ys ≡ xs ++ ms) × AllOf P ms) → ((ms : List A) × (zs ≡ ys ++ ms) × AllOf P ms) → (ms : List A) × (zs ≡ xs ++ ms) × AllOf P ms
more_then P xs ys zs g h = (g.0 ++ h.0, h.1 ∙ ap (λ is. is ++ h.0) g.1 ∙ append_assoc xs g.0 h.0, all_more P g.0 h.0 g.2 h.2)

some_same : (j k : Known Name) → Some j ≡ Some k → j ≡ k
some_same j k e = cc

none_some : (k : Known Name) → ◌≡◌ {A = Option (Known Name)} None (Some k) → ⊥
none_some k e = cc

settled_views : (y : Value Name) (g : Name) → Settled y ≡ Viewed g → ⊥
settled_views y g e = cc

module _ (K : Naming Name Name) (P : Message Name → Type 0) (y : Value Name) where
  pub sinks_same : (s t : Vat Name) → t.number ≡ s.number → t.noticed ≡ s.noticed → t.gifts ≡ s.gifts → t.known ≡ s.known
      → ((ms : List (Message Name)) × (t.queue ≡ s.queue ++ ms) × AllOf P ms) → ((ps : List (Put Name)) × (t.outbox ≡ s.outbox ++ ps) × AllOf IsNews ps)
      → ((es : List (Happened Name)) × (t.happened ≡ s.happened ++ es) × AllOf IsEnding es) → Sinks K P y s t
  sinks_same s t a b c e f g h = record { number = a; noticed = b; gifts = c; names_known = ap (λ ks. length ks) e; entries = λ n. stayed (ap (λ ks. entry_of K ks n) e); queue = f; notes = g; lines = h }

  -- where nothing is queued and no note is put
  pub sinks_still : (s t : Vat Name) → t.number ≡ s.number → t.noticed ≡ s.noticed → t.gifts ≡ s.gifts → t.known ≡ s.known → t.queue ≡ s.queue → t.outbox ≡ s.outbox
      → ((es : List (Happened Name)) × (t.happened ≡ s.happened ++ es) × AllOf IsEnding es) → Sinks K P y s t
  sinks_still s t a b c e f g h = sinks_same s t a b c e ([], f ∙ sym (append-nil s.queue), tt) ([], g ∙ sym (append-nil s.outbox), tt) h

  -- a line tells that something ended
  pub sinks_line : (s : Vat Name) (e : Happened Name) → IsEnding e → Sinks K P y s (with_line s e)
  sinks_line s e h = sinks_still s (with_line s e) refl refl refl refl refl refl (e ∷ [], refl, (h, tt))

  pub sinks_self : (s : Vat Name) → Sinks K P y s s
  sinks_self s = sinks_still s s refl refl refl refl refl refl ([], sym (append-nil s.happened), tt)

  sank_then : (a b c : Option (Known Name)) → Sank y a b → Sank y b c → Sank y a c
  sank_then a b c (stayed e) (stayed f) = stayed (f ∙ e)
  sank_then a b c (stayed e) (broke k f g) = broke k (sym e ∙ f) g
  sank_then a b c (broke k e f) (stayed g) = broke k e (g ∙ f)
  sank_then a b c (broke k e f) (broke j g h) = broke k e (h ∙ ap (λ i. Some (Broke y i)) (some_same j (Broke y k) (sym g ∙ f)))

  pub sinks_then : (s t u : Vat Name) → Sinks K P y s t → Sinks K P y t u → Sinks K P y s u
  sinks_then s t u g h = record {
    number = h.number ∙ g.number;
    noticed = h.noticed ∙ g.noticed;
    gifts = h.gifts ∙ g.gifts;
    names_known = h.names_known ∙ g.names_known;
    entries = λ n. sank_then (entry_of K s.known n) (entry_of K t.known n) (entry_of K u.known n) (g.entries n) (h.entries n);
    queue = more_then P s.queue t.queue u.queue g.queue h.queue;
    notes = more_then IsNews s.outbox t.outbox u.outbox g.notes h.notes;
    lines = more_then IsEnding s.happened t.happened u.happened g.lines h.lines;
  }

  -- ---- how names stand

  -- as it stood, or broken
  sank_standing : (a b : Option (Known Name)) → Sank y a b → (standing_in b ≡ standing_in a) ⊎ (standing_in b ≡ Settled y)
  unfolding standing_in
  sank_standing a b (stayed e) = inl (ap (λ o. standing_in o) e)
  sank_standing a b (broke k e f) = inr (ap (λ o. standing_in o) f)

  pub stands_then : (s t : Vat Name) → Sinks K P y s t → (n : Name) → (standing_of K t.known n ≡ standing_of K s.known n) ⊎ (standing_of K t.known n ≡ Settled y)
  unfolding standing_of
  stands_then s t g n = sank_standing (entry_of K s.known n) (entry_of K t.known n) (g.entries n)

  -- what settled so stands so
  pub down_then : (s t : Vat Name) → Sinks K P y s t → (n : Name) → standing_of K s.known n ≡ Settled y → standing_of K t.known n ≡ Settled y
  down_then s t g n e = go (stands_then s t g n)
    where
      go : (standing_of K t.known n ≡ standing_of K s.known n) ⊎ (standing_of K t.known n ≡ Settled y) → standing_of K t.known n ≡ Settled y
      go (inl f) = f ∙ e
      go (inr f) = f

  wait_then : (n : Name) (a b : Standing Name) → (b ≡ a) ⊎ (b ≡ Settled y) → IsWaitOf n a → IsWaitOf n b
  wait_then n a b (inl e) h = subst (IsWaitOf n) (sym e) h
  wait_then n a b (inr e) h = subst (IsWaitOf n) (sym e) tt

  wait_map : (A B : Name → Type 0) (a : Standing Name) → ((q : Name) → A q → B q) → WaitIs A a → WaitIs B a
  wait_map A B (WaitsOn q) f h = f q h
  wait_map A B (Viewed q) f h = f q h
  wait_map A B other f h = tt

  wait_less : (A B : Name → Type 0) (a b : Standing Name) → (b ≡ a) ⊎ (b ≡ Settled y) → ((q : Name) → A q → B q) → WaitIs A a → WaitIs B b
  wait_less A B a b (inl e) f h = subst (WaitIs B) (sym e) (wait_map A B a f h)
  wait_less A B a b (inr e) f h = subst (WaitIs B) (sym e) tt

  ends_then : (s t : Vat Name) → Sinks K P y s t → (d : ℕ) (n : Name) → WaitsEndIn K d s.known n → WaitsEndIn K d t.known n
  ends_then s t g zero n h = wait_less (λ q. ⊥) (λ q. ⊥) (standing_of K s.known n) (standing_of K t.known n) (stands_then s t g n) (λ q i. i) h
  ends_then s t g (suc d) n h = wait_less (WaitsEndIn K d s.known) (WaitsEndIn K d t.known) (standing_of K s.known n) (standing_of K t.known n) (stands_then s t g n) (λ q i. ends_then s t g d q i) h

  -- ---- what is shown of the vat stays so

  module _ (v : ℕ) (ended : IsEnded y) where
    well_broke : (n : Name) (k : Known Name) → IsWell P v n k → IsWell P v n (Broke y k)
    well_broke n k h = record { host = h.host; stands = ended; on = tt; answers = tt; empty = λ f. (refl, refl); reacts = tt }

    module _ (s t : Vat Name) (g : Sinks K P y s t) (h : Sound K P v s) where
      objects : (n : Name) (b : Option (Known Name)) → Sank y (entry_of K s.known n) b → IsObject n → b ≡ None
      objects n b (stayed e) o = e ∙ h.objects n o
      objects n b (broke k e f) o = absurd (none_some k (sym (h.objects n o) ∙ e))

      known : (n : Name) (k : Known Name) (b : Option (Known Name)) → Sank y (entry_of K s.known n) b → b ≡ Some k → IsWell P v n k
      known n k b (stayed e) f = h.known n k (sym e ∙ f)
      known n k b (broke j e i) f = subst (IsWell P v n) (some_same (Broke y j) k (sym i ∙ f)) (well_broke n j (h.known n j e))

      known_still : (n : Name) (k : Known Name) (b : Option (Known Name)) → entry_of K s.known n ≡ Some k → Sank y (entry_of K s.known n) b → (j : Known Name) × (b ≡ Some j)
      known_still n k b e (stayed f) = (k, f ∙ e)
      known_still n k b e (broke j f i) = (Broke y j, i)

      views : (n q : Name) → standing_of K t.known n ≡ Viewed q → (standing_of K t.known n ≡ standing_of K s.known n) ⊎ (standing_of K t.known n ≡ Settled y) → IsKnown K t q
      views n q e (inl f) = let k = h.views n q (sym f ∙ e) in known_still q k.0 (entry_of K t.known q) k.1 (g.entries q)
      views n q e (inr f) = absurd (settled_views y q (sym f ∙ e))

      waits : (n : Name) (k : Known Name) (q : Name) (b : Option (Known Name)) → Sank y (entry_of K s.known n) b → b ≡ Some k → IsAmong q k.waiting → IsWaitOf n (standing_of K t.known q)
      waits n k q b (stayed e) f a = wait_then n (standing_of K s.known q) (standing_of K t.known q) (stands_then s t g q) (h.waits n k q (sym e ∙ f) a)
      waits n k q b (broke j e i) f a = absurd (subst (λ (x : Known Name). IsAmong q x.waiting) (some_same k (Broke y j) (sym f ∙ i)) a)

      pub sound_then : Sound K P v t
      sound_then = record {
        number = g.number ∙ h.number;
        itself = subst (λ us. is_in v us ≡ false) (sym g.noticed) h.itself;
        objects = λ n o. objects n (entry_of K t.known n) (g.entries n) o;
        known = λ n k e. known n k (entry_of K t.known n) (g.entries n) e;
        views = λ n q e. views n q e (stands_then s t g n);
        ends = λ n. subst (λ d. WaitsEndIn K d t.known n) (sym g.names_known) (ends_then s t g (length s.known) n (h.ends n));
        waits = λ n k q e a. waits n k q (entry_of K t.known n) (g.entries n) e a;
      }

-- ---- all is followed to an end

module _ (script : Script) (P : Message Name → Type 0) (v : ℕ) where
  abbrev N : Naming Name Name
  N = names script v

  module _ (s : Vat Name) (h : Sound (names script v) P v s) where
    fixed_ended : (z : Value Name) → IsEnded z → IsFixed N s z
    fixed_ended (Ref n) e = inl e
    fixed_ended other e = tt

    self_ended : (d : ℕ) (z : Value Name) → IsEnded z → follow_at N d s.known z ≡ z
    self_ended d (Ref n) e = object_self script v d s.known n (h.objects n e)
    self_ended d other e = data_self script v d s.known other tt

    abbrev Ends : ℕ → Type 0
    Ends d = (n : Name) (k : Known Name) → entry_of N s.known n ≡ Some k → WaitsEndIn N d s.known n → IsFixed N s (follow_at N (suc d) s.known (Ref n))

    settled_fixed : (d : ℕ) (z : Value Name) → IsEnded z → IsFixed N s (follow_at N d s.known z)
    settled_fixed d z e = subst (IsFixed N s) (sym (self_ended d z e)) (fixed_ended z e)

    abbrev Leads : ℕ → Name → Standing Name → Type 0
    Leads d n q = IsFixed N s (refs.led N (λ x. follow_at N d s.known x) n q)

    standing_is : (n : Name) (k : Known Name) → entry_of N s.known n ≡ Some k → standing_of N s.known n ≡ k.standing
    unfolding standing_of standing_in
    standing_is n k e = ap (λ o. standing_in o) e

    waits_fixed : (n : Name) (k : Known Name) (q : Standing Name) → entry_of N s.known n ≡ Some k → k.standing ≡ q → IsWaiting q → IsFixed N s (Ref n)
    waits_fixed n k q e f i = inr (k, e, subst IsWaiting (sym f) i)

    -- where it leads by how it stands, where a view leads to an end
    led_fixed : (d : ℕ) (n : Name) (k : Known Name) (q : Standing Name) → entry_of N s.known n ≡ Some k → k.standing ≡ q → ((g : Name) → q ≡ Viewed g → IsFixed N s (follow_at N d s.known (Ref g))) → Leads d n q
    unfolding refs.led
    led_fixed d n k (Settled z) e f view = settled_fixed d z (subst (StandsWell v n) f (h.known n k e).stands)
    led_fixed d n k (Viewed g) e f view = view g refl
    led_fixed d n k other e f view = waits_fixed n k other e f tt

    ends_none : (n : Name) (k : Known Name) → entry_of N s.known n ≡ Some k → WaitsEndIn N zero s.known n → (g : Name) → k.standing ≡ Viewed g → ⊥
    ends_none n k e w g f = subst (WaitIs (λ q. ⊥)) (standing_is n k e ∙ f) w

    ends_on : (d : ℕ) (n : Name) (k : Known Name) → entry_of N s.known n ≡ Some k → WaitsEndIn N (suc d) s.known n → (g : Name) → k.standing ≡ Viewed g → WaitsEndIn N d s.known g
    ends_on d n k e w g f = subst (WaitIs (WaitsEndIn N d s.known)) (standing_is n k e ∙ f) w

    ends_fixed : (d : ℕ) → Ends d
    unfolding follow_at
    ends_fixed zero n k e w = subst (Leads zero n) (sym (standing_is n k e)) (led_fixed zero n k k.standing e refl (λ g f. absurd (ends_none n k e w g f)))
    ends_fixed (suc d) n k e w = subst (Leads (suc d) n) (sym (standing_is n k e))
        (led_fixed (suc d) n k k.standing e refl (λ g f. let known = h.views n g (standing_is n k e ∙ f) in ends_fixed d g known.0 known.1 (ends_on d n k e w g f)))

    pub follows_end : FollowsEnd (names script v) s
    follows_end = record { objects = h.objects; fixed = λ n k. ends_fixed (length s.known) n k.0 k.1 (h.ends n) }

  -- ---- a name breaks

  module _ (s : Vat Name) (p : Name) (problem : Words) (k : Known Name) (found : entry_of (names script v) s.known p ≡ Some k) (open_still : IsOpen k.standing) where
    abbrev Y : Value Name
    Y = Broken problem

    abbrev T : Vat Name
    T = settled_to N s p Y

    sank : (n : Name) → Differs script v (Settle Y) p n (entry_of N s.known n) (entry_of N T.known n) → Sank Y (entry_of N s.known n) (entry_of N T.known n)
    sank n (as_it_was e) = stayed e
    sank n (changes j e a b) = broke j a (b ∙ ap (λ x. Some x) (settles Y j (subst (λ (x : Known Name). IsOpen x.standing) (some_same k j (sym found ∙ ap (λ m. entry_of N s.known m) (sym e) ∙ a)) open_still)))

    pub breaks_sinks : Sinks (names script v) P (Broken problem) s (settled_to (names script v) s p (Broken problem))
    breaks_sinks = record { number = refl; noticed = refl; gifts = refl; names_known = same_length script v (Settle Y) p s.known; entries = λ n. sank n (differs script v (Settle Y) p n s.known); queue = ([], sym (append-nil s.queue), tt); notes = ([], sym (append-nil s.outbox), tt); lines = ([], sym (append-nil s.happened), tt) }

    found_then : entry_of N T.known p ≡ Some (Broke Y k)
    found_then = entry_changed N p (Settle Y) s.known k found ∙ ap (λ x. Some x) (settles Y k open_still)

    pub down : standing_of (names script v) (settled_to (names script v) s p (Broken problem)).known p ≡ Settled (Broken problem)
    unfolding standing_of standing_in
    down = ap (λ o. standing_in o) found_then

    -- where it is the vat's own
    module _ (h : Sound (names script v) P v s) (own : host_of p ≡ v) where
      other_alike : (n : Name) → (n ≡ p → ⊥) → Differs script v (Settle Y) p n (entry_of N s.known n) (entry_of N T.known n) → StandsAlike n (entry_of N s.known n) (entry_of N T.known n)
      other_alike n f (as_it_was e) = subst (λ o. StandsAlike n (entry_of N s.known n) o) (sym e) (entry_self n (entry_of N s.known n))
      other_alike n f (changes j e a b) = absurd (f e)

      others : (n : Name) → (n ≡ p) ⊎ (n ≡ p → ⊥) → (n ≡ p) ⊎ ((n ≡ p → ⊥) × StandsAlike n (entry_of N s.known n) (entry_of N T.known n))
      others n (inl e) = inl e
      others n (inr f) = inr (f, other_alike n f (differs script v (Settle Y) p n s.known))

      waits_open : (q : Standing Name) → IsOpen q → StandsWell v p q → IsWaiting q
      waits_open (Viewed g) i w = absurd (w own)
      waits_open (Settled z) i w = absurd i
      waits_open other i w = tt

      hosted : (j : Known Name) → entry_of N s.known p ≡ Some j → j.host ≡ v
      hosted j e = (h.known p j e).host ∙ own

      hosted_then : (j : Known Name) → entry_of N T.known p ≡ Some j → j.host ≡ v
      hosted_then j e = ap (λ (x : Known Name). x.host) (some_same j (Broke Y k) (sym e ∙ found_then)) ∙ hosted k found

      only : OnlySettles N s T p Y
      only = record {
        number = refl;
        gifts = refl;
        noticed = refl;
        queue = refl;
        outbox = refl;
        names_known = same_length script v (Settle Y) p s.known;
        before = (k, found, waits_open k.standing open_still (h.known p k found).stands);
        after = (Broke Y k, found_then, refl);
        others = λ n. others n (is_name n p);
      }

      pub settles_here : SettlesHere (names script v) s (settled_to (names script v) s p (Broken problem)) p (Broken problem) v
      settles_here = record {
        only = only;
        own = h.number;
        host = hosted;
        host_after = hosted_then;
        itself = h.itself;
        plain = λ o. none_some k (sym (h.objects p o) ∙ found);
        ended = tt;
        follows = follows_end T (sound_then N P Y v tt s T breaks_sinks h);
      }
