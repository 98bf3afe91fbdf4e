-- What is kept of a vat in a step, so that each settling, wait and view has its cause before it.
use Rattle.std.proofs.Common.{◌≡◌, ◌≤◌, arith, ℕ, suc, Bool, true, false, List, [], ◌∷◌, ◌++◌, Option, Some, None, ◌==◌, refl, sym, ap, ◌∙◌, subst, length, map, ◌⊎◌, inl, inr}
use Rattle.std.specs.Prelude.{codes, nat_le}
use Rattle.def_machine.specs.Values.{Words, Value, Broken, Items, Ref, Naming, Coming, Mailing, IsOwn, IsAnswer, IsSent}
use Rattle.std.proofs.lemmas.Bool.{eqb-true}
use Rattle.def_machine.specs.State.{Message, Standing, WaitsOn, Settled, Known, Change, Hold, Wait, WaitOn, See, React, ToTell, Note, GiftEntry, Passed, Passeds, Many, NoMore, More, Open, SettledTo, Happened, Waits, Views, ListCame, Vat, Stop, Done, Gives, Throws, Ejects, Stops, Act, ◌>>=◌, ◌>>◌, and_then, give, stop, look, tell, spend, spent, enqueue, send_out, new_list, new_gift, is_gift, open_gift, with_opened, mark, is_in, unless_settled, changed_to, changed, with_change, begun, draws, alter, come, mail, new_promise, new_message, new_lone_message, draw}
use Rattle.def_machine.specs.Arrive.{Incoming, make_list}
use Rattle.def_machine.specs.Refs.{standing_in, entry_of, standing_of}
use Rattle.law_machine.specs.Machine.Steps.{Step, Receives, Notices}
use Rattle.law_machine.proofs.Machine.Walks.{Property, Holds, IsClosed}
use Rattle.law_uses.specs.Connectivity.Known.{IsAmong, AllOf, Start, Leads, settled, viewed, settles, views, Reaches, itself, onward}
use Rattle.law_uses.specs.Connectivity.News.{list_made, Adds}
use Rattle.law_uses.proofs.Connectivity.Adding.{adds_line, adds_new}
use Rattle.law_uses.proofs.Connectivity.Knowing.{among_more, leads_more, reaches_more, thing_more}
use Rattle.law_uses.proofs.Connectivity.Rising.{length_end}
use Rattle.law_uses.proofs.Connectivity.Idle.{joined, no_more}
use Rattle.law_uses.proofs.Connectivity.Passing.{all_map, all_end}
use Rattle.law_uses.proofs.Connectivity.Traces.{Told, among_last, traces_tell, traces_hold, traces_wait, traces_wait_on, traces_react, traces_to_tell, traces_come, traces_promise, traces_message, traces_viewed, traces_give}
use Rattle.law_uses.specs.Connectivity.Settlings.{IsNew, IsGiftOf, HasAnswer, sent, held, came, IsResolver, IsHanded, WaitsFor, ComesOf, IsKnownOf, IsNoticed, HasMembers, Rings, itself as is_it, member, GoesOn, Chain, there, onward as goes_on, LeadsBack, Follows, IsGiven, gave, threw, resolved, smashed, waited, said, lost, Says, IsLearntAs, AreLearntAs, Becomes, SettlesWell, ViewsBy, IsCaused}

module _ {N W : Type 0} (K : Naming N W) (E : Start N W) where
  -- lines that come after these, each with its cause
  abbrev pub CausedAfter : List (Happened N) → List (Happened N) → Type 0
  CausedAfter so [] = Unit {0}
  CausedAfter so (e ∷ es) = IsCaused K E so e × CausedAfter (so ++ e ∷ []) es

  pub caused_end : (so es : List (Happened N)) (e : Happened N) → CausedAfter so es → IsCaused K E (so ++ es) e → CausedAfter so (es ++ e ∷ [])
  caused_end so [] e k l = (subst (λ xs. IsCaused K E xs e) (sym (no_more so)) l, tt)
  caused_end so (x ∷ es) e k l = (k.0, caused_end (so ++ x ∷ []) es e k.1 (subst (λ xs. IsCaused K E xs e) (sym (joined so (x ∷ []) es)) l))

  -- of those in two parts, the second
  pub caused_rest : (so es more : List (Happened N)) → CausedAfter so (es ++ more) → CausedAfter (so ++ es) more
  caused_rest so [] more k = subst (λ xs. CausedAfter xs more) (no_more so) k
  caused_rest so (x ∷ es) more k = subst (λ xs. CausedAfter xs more) (joined so (x ∷ []) es) (caused_rest (so ++ x ∷ []) es more k.1)

  -- ---- more lines

  module _ (so more : List (Happened N)) where
    pub has_more : (i p : N) (x : Value N) → HasAnswer K E so i p x → HasAnswer K E (so ++ more) i p x
    has_more i p x (sent a m h e) = sent a m (among_more _ so more h) e
    has_more i p x (held k m h j e) = held k m h j e
    has_more i p x (came from d y verb ys i' n e f g h) = came from d y verb ys i' n e f g h

    pub follows_more : (x y : Value N) → Follows K E so x y → Follows K E (so ++ more) x y
    follows_more x y (inl r) = inl (reaches_more K E.vat.known so more x y r)
    follows_more x y (inr h) = inr ((h.0.0, h.0.1, reaches_more K E.vat.known so more x (Ref h.0.1) h.0.2, h.0.3, h.0.4), h.1)

    pub members_more : (k : ℕ) (vs : List (Value N)) → HasMembers K E so k vs → HasMembers K E (so ++ more) k vs
    members_more k vs (inl h) = inl h
    members_more k vs (inr (inl h)) = inr (inl (h.0, among_more _ so more h.1))
    members_more k vs (inr (inr h)) = inr (inr (among_more _ so more h))

    rings_more : (x : Value N) (p : N) → Rings K E so x p → Rings K E (so ++ more) x p
    rings_more x p (is_it n f e) = is_it n (follows_more x (Ref n) f) e
    rings_more x p (member k vs y f h i r) = member k vs y (follows_more x (Items k) f) (members_more k vs h) i (rings_more y p r)

    pub goes_more : (n q : N) → GoesOn K E so n q → GoesOn K E (so ++ more) n q
    goes_more n q (inl h) = inl h
    goes_more n q (inr (inl h)) = inr (inl (h.0, among_more _ so more h.1, h.2))
    goes_more n q (inr (inr h)) = inr (inr (leads_more K E.vat.known so more (Ref n) (Ref q) h))

    chain_more : (n p : N) → Chain K E so n p → Chain K E (so ++ more) n p
    chain_more n p (there e) = there e
    chain_more n p (goes_on q g c) = goes_on q (goes_more n q g) (chain_more q p c)

    back_more : (p : N) (z : Value N) → LeadsBack K E so p z → LeadsBack K E (so ++ more) p z
    back_more p (Items k) h = rings_more (Items k) p h
    back_more p (Ref n) h = chain_more n p h
    back_more p other h = absurd h

    pub resolver_more : (i : ℕ) (p : N) → IsResolver K E so i p → IsResolver K E (so ++ more) i p
    resolver_more i p (inl e) = inl e
    resolver_more i p (inr h) = inr (h.0, h.1, among_more _ so more h.2, h.3)

    pub handed_more : (i : ℕ) (name : Words) (v : Value N) → IsHanded K E so i name v → IsHanded K E (so ++ more) i name v
    handed_more i name v (inl h) = inl (h.0, h.1, h.2, among_more _ so more h.3, h.4, thing_more K E.vat.known so more h.1 i h.5)
    handed_more i name v (inr h) = inr (h.0, h.1, among_more _ so more h.2, h.3, h.4, thing_more K E.vat.known so more h.1.target i h.5)

    mutual
      pub learnt_more : (y : Passed (Incoming N W)) (v : Value N) → IsLearntAs K E so y v → IsLearntAs K E (so ++ more) y v
      learnt_more (Many ys) v h = (h.0, h.1, h.2, among_more _ so more h.3, learnt_all_more ys h.1 h.4)
      learnt_more other v h = h

      pub learnt_all_more : (ys : Passeds (Incoming N W)) (vs : List (Value N)) → AreLearntAs K E so ys vs → AreLearntAs K E (so ++ more) ys vs
      learnt_all_more NoMore [] h = tt
      learnt_all_more (More y ys) (v ∷ vs) h = (learnt_more y v h.0, learnt_all_more ys vs h.1)
      learnt_all_more NoMore (v ∷ vs) h = absurd h
      learnt_all_more (More y ys) [] h = absurd h

    says_more : (step : Step N W) (p : N) (v : Value N) → Says K E so step p v → Says K E (so ++ more) step p v
    says_more (Receives from (SettledTo x y)) p v h = (h.0, learnt_more y v h.1)
    says_more (Receives from (Open i x)) p v h = h
    says_more other p v h = absurd h

    pub waits_more : (p q : N) → WaitsFor K E so p q → WaitsFor K E (so ++ more) p q
    waits_more p q (inl h) = inl h
    waits_more p q (inr (n, inl h, o)) = inr (n, inl (among_more _ so more h), o)
    waits_more p q (inr (n, inr h, o)) = inr (n, inr (among_more _ so more h), o)

    pub given_more : (p : N) (x : Value N) → IsGiven K E so p x → IsGiven K E (so ++ more) p x
    given_more p x (gave a h o) = gave a (among_more _ so more h) o
    given_more p x (threw a h o) = threw a (among_more _ so more h) o
    given_more p x (resolved i r h) = resolved i (resolver_more i p r) (handed_more i (codes "resolve") x h)
    given_more p x (smashed i v r h f) = smashed i v (resolver_more i p r) (handed_more i (codes "smash") v h) (follows_more v _ f)
    given_more p x (waited q h w) = waited q (among_more _ so more h) (waits_more p q w)
    given_more p x (said h) = said (says_more E.step p x h)
    given_more p x (lost i y h l f) = lost i y (has_more i p y h) (among_more _ so more l) (follows_more y _ f)

    becomes_more : (p : N) (x y : Value N) → Becomes K E so p x y → Becomes K E (so ++ more) p x y
    becomes_more p x y (inl f) = inl (follows_more x y f)
    becomes_more p x y (inr h) = inr (h.0, follows_more x h.0 h.1, back_more p h.0 h.2, h.3)

    pub settles_more : (p : N) (y : Value N) → SettlesWell K E so p y → SettlesWell K E (so ++ more) p y
    settles_more p y (inl h) = inl (h.0, given_more p h.0 h.1, becomes_more p h.0 y h.2)
    settles_more p y (inr h) = inr h

  -- ---- following

  reaches_trans : (so : List (Happened N)) (x y z : Value N) → Reaches K E.vat.known so x y → Reaches K E.vat.known so y z → Reaches K E.vat.known so x z
  reaches_trans so x y z itself r = r
  reaches_trans so x y z (onward w l q) r = onward w l (reaches_trans so w y z q r)

  broken_leads : (so : List (Happened N)) (x y : Value N) (t : Words) → x ≡ Broken t → Leads K E.vat.known so x y → ⊥
  broken_leads so x y t e (settled f) = cc
  broken_leads so x y t e (viewed f) = cc
  broken_leads so x y t e (settles p i o) = cc
  broken_leads so x y t e (views p i o) = cc

  broken_reaches : (so : List (Happened N)) (x y : Value N) (t : Words) → x ≡ Broken t → Reaches K E.vat.known so x y → y ≡ Broken t
  broken_reaches so x y t e itself = e
  broken_reaches so x y t e (onward w l q) = absurd (broken_leads so x w t e l)

  pub follows_trans : (so : List (Happened N)) (x y z : Value N) → Follows K E so x y → Follows K E so y z → Follows K E so x z
  follows_trans so x y z (inl r) (inl q) = inl (reaches_trans so x y z r q)
  follows_trans so x y z (inr h) (inl q) = inr (h.0, broken_reaches so y z (codes "partition") h.1 q)
  follows_trans so x y z (inl r) (inr h) = inr ((h.0.0, h.0.1, reaches_trans so x y (Ref h.0.1) r h.0.2, h.0.3, h.0.4), h.1)
  follows_trans so x y z (inr h) (inr i) = inr (h.0, i.1)

  -- ---- what is kept

  -- a name is among those that wait at that entry: it was before, or a line tells it
  abbrev pub WaitTold : List (Happened N) → N → N → Type 0
  WaitTold so q p = ((k : Known N) × IsAmong k E.vat.known × (k.name ≡ q) × IsAmong p k.waiting) ⊎ ((n : N) × (IsAmong (Waits p n) so ⊎ IsAmong (Views p n) so) × (K.same q n ≡ true))

  -- a message that has an answer is one that is here, on what its target leads to
  abbrev pub MessageTold : List (Happened N) → Message N → Type 0
  MessageTold so m = (p : N) → m.answer ≡ Some p → (x : Value N) × HasAnswer K E so m.id p x × Follows K E so x m.target

  abbrev pub EntryTold : List (Happened N) → Known N → Type 0
  EntryTold so k = AllOf (WaitTold so k.name) k.waiting × AllOf (MessageTold so) k.held

  abbrev pub GiftTold : GiftEntry N → Type 0
  GiftTold g = IsGiftOf K E g.provider g.number g.name

  -- where a name waits, it did before, or a line tells it
  abbrev pub OnwardTold : List (Happened N) → N → Standing N → Type 0
  OnwardTold so n (WaitsOn q) = GoesOn K E so n q
  OnwardTold so n other = Unit {0}

  onward_more : (so more : List (Happened N)) (n : N) (x : Standing N) → OnwardTold so n x → OnwardTold (so ++ more) n x
  onward_more so more n (WaitsOn q) h = goes_more so more n q h
  onward_more so more n other h = tt

  abbrev pub HostTold : Known N → Type 0
  HostTold k = IsKnownOf K E k.host k.name

  pub record Causes (s : Vat N) : Type 0 where
    pub told : Told K E.vat.known s
    pub lines : CausedAfter [] s.happened
    pub entries : AllOf (EntryTold s.happened) s.known
    pub gifts : AllOf GiftTold s.gifts
    pub noticed : (w : ℕ) → is_in w s.noticed ≡ true → IsNoticed K E w
    pub number : s.number ≡ E.vat.number
    -- how many names and messages there were
    pub names : length E.vat.known ≤ length s.known
    pub mails : length E.vat.mails ≤ length s.mails
    pub promises : E.vat.promises ≤ s.promises
    -- of whom what is known is, what waits, and which lists there are
    pub hosts : AllOf HostTold s.known
    pub onward : (n : N) → OnwardTold s.happened n (standing_of K s.known n)
    pub lists : Adds E.vat.lists (map list_made s.happened) s.lists

  wait_more : (so more : List (Happened N)) (q p : N) → WaitTold so q p → WaitTold (so ++ more) q p
  wait_more so more q p (inl h) = inl h
  wait_more so more q p (inr (n, inl h, e)) = inr (n, inl (among_more _ so more h), e)
  wait_more so more q p (inr (n, inr h, e)) = inr (n, inr (among_more _ so more h), e)

  pub message_more : (so more : List (Happened N)) (m : Message N) → MessageTold so m → MessageTold (so ++ more) m
  message_more so more m h p e = let d = h p e in (d.0, has_more so more m.id p d.0 d.1, follows_more so more d.0 m.target d.2)

  entry_more : (so more : List (Happened N)) (k : Known N) → EntryTold so k → EntryTold (so ++ more) k
  entry_more so more k h = (all_map _ _ (wait_more so more k.name) k.waiting h.0, all_map _ _ (message_more so more) k.held h.1)

  pub entries_more : (so more : List (Happened N)) (ks : List (Known N)) → AllOf (EntryTold so) ks → AllOf (EntryTold (so ++ more)) ks
  entries_more so more ks h = all_map _ _ (entry_more so more) ks h

  -- what names, gifts and notices are the same
  abbrev pub SameNames : Vat N → Vat N → Type 0
  SameNames s t = (t.known ≡ s.known) × (t.gifts ≡ s.gifts) × (t.noticed ≡ s.noticed) × (t.number ≡ s.number) × (t.mails ≡ s.mails) × (t.promises ≡ s.promises)

  pub causes_same : (s t : Vat N) → t.happened ≡ s.happened → SameNames s t → Adds E.vat.lists (map list_made t.happened) t.lists → Causes s → Causes t
  causes_same s t e n ls c = record {
    told = rw (e, n.0) c.told;
    lines = subst (CausedAfter []) (sym e) c.lines;
    entries = rw (e, n.0) c.entries;
    gifts = rw n.1 c.gifts;
    noticed = λ w h. c.noticed w (subst (λ ws. is_in w ws ≡ true) n.2 h);
    number = n.3 ∙ c.number;
    names = rw n.0 c.names;
    mails = rw n.4 c.mails;
    promises = rw n.5 c.promises;
    hosts = rw n.0 c.hosts;
    onward = rw (e, n.0) c.onward;
    lists = ls;
  }

  -- one more line, with its cause
  abbrev with_line : Vat N → Happened N → Vat N
  with_line s e = record s { happened = s.happened ++ e ∷ [] }

  pub causes_block : (s t : Vat N) (e : Happened N) → t.happened ≡ s.happened ++ e ∷ [] → SameNames s t → IsCaused K E s.happened e → Adds E.vat.lists (map list_made t.happened) t.lists → Causes s → Causes t
  unfolding tell
  causes_block s t e f n l ls c = record {
    told = rw (f, n.0) ((traces_tell K E.vat.known e).after s c.told);
    lines = subst (CausedAfter []) (sym f) (caused_end [] s.happened e c.lines l);
    entries = rw (f, n.0) (entries_more s.happened (e ∷ []) s.known c.entries);
    gifts = rw n.1 c.gifts;
    noticed = λ w h. c.noticed w (subst (λ ws. is_in w ws ≡ true) n.2 h);
    number = n.3 ∙ c.number;
    names = rw n.0 c.names;
    mails = rw n.4 c.mails;
    promises = rw n.5 c.promises;
    hosts = rw n.0 c.hosts;
    onward = rw (f, n.0) (λ m. onward_more s.happened (e ∷ []) m (standing_of K s.known m) (c.onward m));
    lists = ls;
  }

  pub causes_line : (s : Vat N) (e : Happened N) → IsCaused K E s.happened e → list_made e ≡ None → Causes s → Causes (with_line s e)
  causes_line s e l q c = causes_block s (with_line s e) e refl (refl, refl, refl, refl, refl, refl) l (adds_line list_made E.vat.lists s.lists s.happened e q c.lists) c

  -- ---- how something ends

  abbrev pub Further : Vat N → Vat N → Type 0
  Further s t = (more : List (Happened N)) × (t.happened ≡ s.happened ++ more)

  -- no more lines
  pub no_further : (es : List (Happened N)) → (more : List (Happened N)) × (es ≡ es ++ more)
  no_further es = ([], no_more es)

  pub further_on : (s t u : Vat N) → Further s t → Further t u → Further s u
  further_on s t u h k = (h.0 ++ k.0, k.1 ∙ ap (λ es. es ++ k.0) h.1 ∙ joined s.happened h.0 k.0)

  -- what stays as lines are added
  pub up : (F : List (Happened N) → Type 0) → ((so more : List (Happened N)) → F so → F (so ++ more)) → (s t : Vat N) → Further s t → F s.happened → F t.happened
  up F f s t h x = subst F (sym h.1) (f s.happened h.0 x)

  abbrev pub Ends : {A : Type 0} → Vat N → (A → Vat N → Type 0) → Done N A → Type 0
  Ends s Q (Gives a t) = Further s t × Causes t × Q a t
  Ends s Q (Throws p t) = Further s t × Causes t
  Ends s Q (Ejects n v t) = Further s t × Causes t
  Ends s Q (Stops c t) = Further s t × Causes t

  abbrev pub Any : {A : Type 0} → A → Vat N → Type 0
  Any a t = Unit {0}

  ends_from : {A : Type 0} (s t : Vat N) (Q : A → Vat N → Type 0) (d : Done N A) → Further s t → Ends t Q d → Ends s Q d
  ends_from s t Q (Gives a u) l h = (further_on s t u l h.0, h.1, h.2)
  ends_from s t Q (Throws p u) l h = (further_on s t u l h.0, h.1)
  ends_from s t Q (Ejects n v u) l h = (further_on s t u l h.0, h.1)
  ends_from s t Q (Stops c u) l h = (further_on s t u l h.0, h.1)

  pub ends_then : {A B : Type 0} (s : Vat N) (d : Done N A) (f : A → Act N B) (Q : A → Vat N → Type 0) (R : B → Vat N → Type 0) → Ends s Q d
      → ((a : A) (t : Vat N) → Further s t → Causes t → Q a t → Ends t R (f a t)) → Ends s R (and_then d f)
  unfolding and_then
  ends_then s (Gives a t) f Q R h k = ends_from s t R (f a t) h.0 (k a t h.0 h.1 h.2)
  ends_then s other f Q R h k = h

  pub ends_more : {A : Type 0} (s : Vat N) (d : Done N A) (Q R : A → Vat N → Type 0) → Ends s Q d → ((a : A) (t : Vat N) → Further s t → Q a t → R a t) → Ends s R d
  ends_more s (Gives a t) Q R h k = (h.0, h.1, k a t h.0 h.2)
  ends_more s other Q R h k = h

  -- what needs no more than that all has its cause
  abbrev pub SteadyBy : Property N
  SteadyBy A m = (s : Vat N) → Causes s → Ends s Any (m s)

  abbrev pub Steady : {A : Type 0} → Act N A → Type 0
  Steady m = Holds SteadyBy m

  pub steady_bind : {A B : Type 0} {m : Act N A} {f : A → Act N B} → Steady m → ((a : A) → Steady (f a)) → Steady (m >>= f)
  unfolding ◌>>=◌
  steady_bind {m = m} {f = f} h k = record { after = λ s c. ends_then s (m s) f Any Any (h.after s c) (λ a t l d q. (k a).after t d) }

  pub steady_give : {A : Type 0} (a : A) → Steady (give a)
  unfolding give
  steady_give a = record { after = λ s c. (no_further s.happened, causes_same s _ refl (refl, refl, refl, refl, refl, refl) c.lists c, tt) }

  pub steady_stop : {A : Type 0} (r : Stop) → Steady (stop {A = A} r)
  unfolding stop
  steady_stop r = record { after = λ s c. (no_further s.happened, c) }

  pub steady_look : {A : Type 0} (f : Vat N → A) → Steady (look f)
  unfolding look
  steady_look f = record { after = λ s c. (no_further s.happened, causes_same s _ refl (refl, refl, refl, refl, refl, refl) c.lists c, tt) }

  pub steady_closed : IsClosed SteadyBy
  steady_closed = record { gives = steady_give; stops = steady_stop; looks = steady_look; binds = steady_bind }

  -- ---- single changes

  pub tells : (e : Happened N) → list_made e ≡ None → (s : Vat N) → Causes s → IsCaused K E s.happened e → Ends s (λ a t. IsAmong e t.happened) (tell e s)
  unfolding tell
  tells e q s c l = ((e ∷ [], refl), causes_line s e l q c, among_last s.happened e)

  spend_ends : (s : Vat N) (n : ℕ) (b : Bool) → Causes s → Ends s Any (spent n b s)
  unfolding spent
  spend_ends s n true c = (no_further s.happened, causes_same s _ refl (refl, refl, refl, refl, refl, refl) c.lists c, tt)
  spend_ends s n false c = (no_further s.happened, c)

  pub steady_spend : (n : ℕ) → Steady (spend n)
  unfolding spend
  steady_spend n = record { after = λ s c. spend_ends s n (nat_le n s.fuel) c }

  pub steady_enqueue : (m : Message N) → Steady (enqueue m)
  unfolding enqueue
  steady_enqueue m = record { after = λ s c. (no_further s.happened, causes_same s _ refl (refl, refl, refl, refl, refl, refl) c.lists c, tt) }

  pub steady_out : (to : ℕ) (n : Note N) → Steady (send_out to n)
  unfolding send_out
  steady_out to n = record { after = λ s c. (no_further s.happened, causes_same s _ refl (refl, refl, refl, refl, refl, refl) c.lists c, tt) }

  draws_ends : (s : Vat N) (w : ℕ) (o : Option ℕ) → Causes s → Ends s Any (draws w o s)
  unfolding draws
  draws_ends s w (Some i) c = (no_further s.happened, c)
  draws_ends s w None c = (no_further s.happened, causes_same s _ refl (refl, refl, refl, refl, refl, refl) c.lists c, tt)

  pub steady_draw : Steady (draw K)
  unfolding draw
  steady_draw = record { after = λ s c. draws_ends s _ _ c }

  count_end : {A : Type 0} (n : ℕ) (xs : List A) (x : A) → n ≤ length xs → n ≤ length (xs ++ x ∷ [])
  count_end n xs x h = let e = length_end xs x in omega arith

  more_mails : (s : Vat N) (m : N) → Causes s → Causes (record s { mails = s.mails ++ m ∷ [] })
  more_mails s m c = record { told = c.told; lines = c.lines; entries = c.entries; gifts = c.gifts; noticed = c.noticed; number = c.number; names = c.names; mails = count_end (length E.vat.mails) s.mails m c.mails; promises = c.promises; hosts = c.hosts; onward = c.onward; lists = c.lists }

  pub steady_mail : (w : Mailing W) → Steady (mail K w)
  unfolding mail
  steady_mail w = record { after = λ s c. (no_further s.happened, more_mails s _ c, tt) }

  -- ---- names that come to be known

  begun_told : (so : List (Happened N)) (a : N) (w : ℕ) → EntryTold so (begun a w)
  unfolding begun
  begun_told so a w = (tt, tt)

  module _ (so : List (Happened N)) where
    begun_onward : (a n : N) (w : ℕ) (b : Bool) → OnwardTold so n (standing_in (elim b [ true ↦ Some (begun a w) | false ↦ None ]))
    unfolding standing_in begun
    begun_onward a n w true = tt
    begun_onward a n w false = tt

    either_onward : (n : N) (k : Known N) (o p : Option (Known N)) (b : Bool) → (OnwardTold so n (standing_in o) → OnwardTold so n (standing_in p))
        → OnwardTold so n (standing_in (elim b [ true ↦ Some k | false ↦ o ])) → OnwardTold so n (standing_in (elim b [ true ↦ Some k | false ↦ p ]))
    either_onward n k o p true f h = h
    either_onward n k o p false f h = f h

    come_onward : (a n : N) (w : ℕ) (ks : List (Known N)) → OnwardTold so n (standing_in (entry_of K ks n)) → OnwardTold so n (standing_in (entry_of K (ks ++ begun a w ∷ []) n))
    unfolding entry_of
    come_onward a n w [] h = begun_onward a n w (K.same (begun a w).name n)
    come_onward a n w (k ∷ ks) h = either_onward n k (entry_of K ks n) (entry_of K (ks ++ begun a w ∷ []) n) (K.same k.name n) (come_onward a n w ks) h

  come_causes : (s t : Vat N) (a : N) (w : ℕ) → t.happened ≡ s.happened → t.known ≡ s.known ++ begun a w ∷ [] → t.gifts ≡ s.gifts → t.noticed ≡ s.noticed → t.number ≡ s.number → length E.vat.mails ≤ length t.mails → t.lists ≡ s.lists → E.vat.promises ≤ t.promises → IsKnownOf K E w a → Told K E.vat.known t → Causes s → Causes t
  unfolding standing_of begun
  come_causes s t a w e f g h i m ls pr o r c = record {
    told = r;
    lines = subst (CausedAfter []) (sym e) c.lines;
    entries = rw (e, f) (all_end (EntryTold s.happened) s.known (begun a w) c.entries (begun_told s.happened a w));
    gifts = rw g c.gifts;
    noticed = λ v k. c.noticed v (subst (λ ws. is_in v ws ≡ true) h k);
    number = i ∙ c.number;
    names = rw f (count_end (length E.vat.known) s.known (begun a w) c.names);
    mails = m;
    promises = pr;
    hosts = rw f (all_end HostTold s.known (begun a w) c.hosts o);
    onward = rw (e, f) (λ n. come_onward s.happened a n w s.known (c.onward n));
    lists = rw (e, ls) c.lists;
  }

  pub comes : (c : Coming N W) (w : ℕ) → ComesOf K E c w → (s : Vat N) → Causes s → Ends s (λ n t. IsNew K E c n) (come K c w s)
  unfolding come
  comes c w o s h = (no_further s.happened, come_causes s _ _ w refl refl refl refl refl h.mails refl h.promises (inr (c, (length s.known, h.names, refl), o)) ((traces_come K E.vat.known c w).after s h.told) h, (length s.known, h.names, refl))

  pub steady_promise : Steady (new_promise K)
  unfolding new_promise
  steady_promise = record { after = λ s h. (no_further s.happened, come_causes s _ _ s.number refl refl refl refl refl h.mails refl (let q = h.promises in omega arith) (inr (IsOwn s.promises, (length s.known, h.names, refl), sym h.number)) ((traces_promise K E.vat.known).after s h.told) h, tt) }

  pub steady_message : (w : ℕ) → Steady (new_message K w)
  unfolding new_message
  steady_message w = record { after = λ s h. (no_further s.happened, come_causes s _ _ w refl refl refl refl refl (count_end (length E.vat.mails) s.mails _ h.mails) refl h.promises (inr (IsAnswer w (K.mailed (IsSent s.messages) (length s.mails)), (length s.known, h.names, refl), refl)) ((traces_message K E.vat.known w).after s h.told) h, tt) }

  pub steady_lone_message : Steady (new_lone_message K)
  unfolding new_lone_message
  steady_lone_message = record { after = λ s c. (no_further s.happened, causes_same (record s { mails = s.mails ++ _ ∷ [] }) _ refl (refl, refl, refl, refl, refl, refl) c.lists (more_mails s _ c), tt) }

  -- ---- changes of what is known of a name

  abbrev Suits : List (Happened N) → N → Change N → Type 0
  Suits so n c = (k : Known N) → K.same k.name n ≡ true → EntryTold so k → EntryTold so (changed_to c k)

  unless_told : (so : List (Happened N)) (x : Standing N) (k new : Known N) → EntryTold so k → EntryTold so new → EntryTold so (unless_settled x k new)
  unfolding unless_settled
  unless_told so (Settled y) k new h i = h
  unless_told so other k new h i = i

  either_told : (so : List (Happened N)) (n : N) (c : Change N) (k : Known N) (ks : List (Known N)) (b : Bool) → K.same k.name n ≡ b → Suits so n c → EntryTold so k → AllOf (EntryTold so) ks → AllOf (EntryTold so) (with_change K c n ks)
      → AllOf (EntryTold so) (elim b [ true ↦ changed c k ∷ ks | false ↦ k ∷ with_change K c n ks ])
  unfolding changed
  either_told so n c k ks true e f h i j = (unless_told so k.standing k (changed_to c k) h (f k e h), i)
  either_told so n c k ks false e f h i j = (h, j)

  changes_told : (so : List (Happened N)) (n : N) (c : Change N) → Suits so n c → (ks : List (Known N)) → AllOf (EntryTold so) ks → AllOf (EntryTold so) (with_change K c n ks)
  unfolding with_change
  changes_told so n c f [] h = tt
  changes_told so n c f (k ∷ ks) h = either_told so n c k ks (K.same k.name n) refl f h.0 h.1 (changes_told so n c f ks h.1)

  change_count : (c : Change N) (n : N) (ks : List (Known N)) → length (with_change K c n ks) ≡ length ks
  unfolding with_change
  change_count c n [] = refl
  change_count c n (k ∷ ks) = either (K.same k.name n) (change_count c n ks)
    where
      either : (b : Bool) → length (with_change K c n ks) ≡ length ks → length {A = Known N} (elim b [ true ↦ changed c k ∷ ks | false ↦ k ∷ with_change K c n ks ]) ≡ suc (length ks)
      either true e = refl
      either false e = ap suc e

  -- a change keeps whose the name is
  changed_host : (c : Change N) (k : Known N) → HostTold k → HostTold (changed c k)
  unfolding changed changed_to unless_settled
  changed_host c k h = by_standing k.standing c
    where
      to_host : (c : Change N) → HostTold (changed_to c k)
      to_host (Hold m) = h
      to_host other = h

      by_standing : (x : Standing N) (c : Change N) → HostTold (unless_settled x k (changed_to c k))
      by_standing (Settled y) c = h
      by_standing other c = to_host c

  hosts_change : (n : N) (c : Change N) (ks : List (Known N)) → AllOf HostTold ks → AllOf HostTold (with_change K c n ks)
  unfolding with_change
  hosts_change n c [] h = tt
  hosts_change n c (k ∷ ks) h = either (K.same k.name n) (hosts_change n c ks h.1)
    where
      either : (b : Bool) → AllOf HostTold (with_change K c n ks) → AllOf HostTold (elim b [ true ↦ changed c k ∷ ks | false ↦ k ∷ with_change K c n ks ])
      either true i = (changed_host c k h.0, h.1)
      either false i = (h.0, i)

  module _ (so : List (Happened N)) where
    -- what is told of an entry before the change is told of it after
    abbrev pub Waited : N → Change N → Type 0
    Waited p c = (n : N) (k : Known N) → K.same k.name p ≡ true → K.same k.name n ≡ true → OnwardTold so n k.standing → OnwardTold so n (changed_to c k).standing

    unless_onward : (n : N) (x : Standing N) (k new : Known N) → OnwardTold so n k.standing → OnwardTold so n new.standing → OnwardTold so n (unless_settled x k new).standing
    unfolding unless_settled
    unless_onward n (Settled y) k new h i = h
    unless_onward n other k new h i = i

    same_name : (c : Change N) (k : Known N) → (changed c k).name ≡ k.name
    unfolding changed changed_to unless_settled
    same_name c k = by_standing k.standing c
      where
        to_name : (c : Change N) → (changed_to c k).name ≡ k.name
        to_name (Hold m) = refl
        to_name other = refl

        by_standing : (x : Standing N) (c : Change N) → (unless_settled x k (changed_to c k)).name ≡ k.name
        by_standing (Settled y) c = refl
        by_standing other c = to_name c

    true_false : true ≡ false → ⊥
    true_false e = cc

    first_onward : (n p : N) (c : Change N) (k : Known N) (o : Option (Known N)) (b d : Bool) → K.same k.name p ≡ true → K.same k.name n ≡ b → K.same (changed c k).name n ≡ d → Waited p c
        → OnwardTold so n (standing_in (elim b [ true ↦ Some k | false ↦ o ])) → OnwardTold so n (standing_in (elim d [ true ↦ Some (changed c k) | false ↦ o ]))
    unfolding standing_in changed
    first_onward n p c k o true true e f g fit h = unless_onward n k.standing k (changed_to c k) h (fit n k e f h)
    first_onward n p c k o false false e f g fit h = h
    first_onward n p c k o true false e f g fit h = absurd (true_false (sym f ∙ sym (ap (λ m. K.same m n) (same_name c k)) ∙ g))
    first_onward n p c k o false true e f g fit h = absurd (true_false (sym g ∙ ap (λ m. K.same m n) (same_name c k) ∙ f))

    either_waited : (n p : N) (c : Change N) (k : Known N) (ks : List (Known N)) (b : Bool) → K.same k.name p ≡ b → Waited p c
        → (OnwardTold so n (standing_in (entry_of K ks n)) → OnwardTold so n (standing_in (entry_of K (with_change K c p ks) n)))
        → OnwardTold so n (standing_in (entry_of K (k ∷ ks) n)) → OnwardTold so n (standing_in (entry_of K (elim b [ true ↦ changed c k ∷ ks | false ↦ k ∷ with_change K c p ks ]) n))
    unfolding entry_of
    either_waited n p c k ks true e fit f h = first_onward n p c k (entry_of K ks n) (K.same k.name n) (K.same (changed c k).name n) e refl refl fit h
    either_waited n p c k ks false e fit f h = either_onward so n k (entry_of K ks n) (entry_of K (with_change K c p ks) n) (K.same k.name n) f h

    onward_change : (n p : N) (c : Change N) (ks : List (Known N)) → Waited p c → OnwardTold so n (standing_in (entry_of K ks n)) → OnwardTold so n (standing_in (entry_of K (with_change K c p ks) n))
    unfolding with_change
    onward_change n p c [] fit h = h
    onward_change n p c (k ∷ ks) fit h = either_waited n p c k ks (K.same k.name p) refl fit (onward_change n p c ks fit) h

  pub alter_causes : (s : Vat N) (n : N) (c : Change N) → Suits s.happened n c → Waited s.happened n c → Told K E.vat.known (record s { known = with_change K c n s.known }) → Causes s → Causes (record s { known = with_change K c n s.known })
  unfolding standing_of
  alter_causes s n c f w r h = record { told = r; lines = h.lines; entries = changes_told s.happened n c f s.known h.entries; gifts = h.gifts; noticed = h.noticed; number = h.number; names = subst (λ k. length E.vat.known ≤ k) (sym (change_count c n s.known)) h.names; mails = h.mails; promises = h.promises; hosts = hosts_change n c s.known h.hosts; onward = λ m. onward_change s.happened m n c s.known w (h.onward m); lists = h.lists }

  pub holds : (m : Message N) (n : N) (s : Vat N) → Causes s → MessageTold s.happened m → Ends s Any (alter K (Hold m) n s)
  unfolding alter changed_to
  holds m n s c h = (no_further s.happened, alter_causes s n (Hold m) (λ k e i. (i.0, all_end (MessageTold s.happened) k.held m i.1 h)) (λ q k e f i. i) ((traces_hold K E.vat.known m n).after s c.told) c, tt)

  pub waits : (p q : N) (s : Vat N) → Causes s → IsAmong (Waits p q) s.happened ⊎ IsAmong (Views p q) s.happened → Ends s Any (alter K (Wait p) q s)
  unfolding alter changed_to
  waits p q s c h = (no_further s.happened, alter_causes s q (Wait p) (λ k e i. (all_end (WaitTold s.happened k.name) k.waiting p i.0 (inr (q, h, e)), i.1)) (λ m k e f i. i) ((traces_wait K E.vat.known p q).after s c.told) c, tt)

  pub waits_on_told : (q n : N) (s : Vat N) → Causes s → IsAmong (Waits n q) s.happened → Ends s Any (alter K (WaitOn q) n s)
  unfolding alter changed_to
  waits_on_told q n s c h = (no_further s.happened, alter_causes s n (WaitOn q) (λ k e i. i) (λ m k e f i. inr (inl (n, h, (k.name, e, f)))) ((traces_wait_on K E.vat.known q n).after s c.told) c, tt)

  pub steady_react : (m : Message N) (n : N) → Steady (alter K (React m) n)
  unfolding alter changed_to
  steady_react m n = record { after = λ s c. (no_further s.happened, alter_causes s n (React m) (λ k e i. i) (λ q k e f i. i) ((traces_react K E.vat.known m n).after s c.told) c, tt) }

  pub steady_to_tell : (w : ℕ) (n : N) → Steady (alter K (ToTell w) n)
  unfolding alter changed_to
  steady_to_tell w n = record { after = λ s c. (no_further s.happened, alter_causes s n (ToTell w) (λ k e i. i) (λ q k e f i. i) ((traces_to_tell K E.vat.known w n).after s c.told) c, tt) }

  pub new_gift_well : (n : N) (p i : ℕ) (s : Vat N) → Causes s → IsGiftOf K E p i n → Ends s Any (new_gift n p i s)
  unfolding new_gift
  new_gift_well n p i s c g = (no_further s.happened, record { told = c.told; lines = c.lines; entries = c.entries; gifts = all_end GiftTold s.gifts _ c.gifts g; noticed = c.noticed; number = c.number; names = c.names; mails = c.mails; promises = c.promises; hosts = c.hosts; onward = c.onward; lists = c.lists }, tt)

  opened_told : (p i : ℕ) (gs : List (GiftEntry N)) → AllOf GiftTold gs → AllOf GiftTold (with_opened p i gs)
  unfolding with_opened
  opened_told p i [] h = tt
  opened_told p i (g ∷ gs) h = either (is_gift p i g) (opened_told p i gs h.1)
    where
      either : (b : Bool) → AllOf GiftTold (with_opened p i gs) → AllOf GiftTold (elim b [ true ↦ record g { opened = true } ∷ gs | false ↦ g ∷ with_opened p i gs ])
      either true r = h
      either false r = (h.0, r)

  pub steady_open : (p i : ℕ) → Steady (open_gift p i)
  unfolding open_gift
  steady_open p i = record { after = λ s c. (no_further s.happened, record { told = c.told; lines = c.lines; entries = c.entries; gifts = opened_told p i s.gifts c.gifts; noticed = c.noticed; number = c.number; names = c.names; mails = c.mails; promises = c.promises; hosts = c.hosts; onward = c.onward; lists = c.lists }, tt) }

  marked : (v w : ℕ) (ws : List ℕ) → is_in v (ws ++ w ∷ []) ≡ true → (is_in v ws ≡ true) ⊎ (v ≡ w)
  unfolding is_in
  marked v w [] e = either (v == w) refl e
    where
      either : (b : Bool) → (v == w) ≡ b → elim b [ true ↦ true | false ↦ false ] ≡ true → (false ≡ true) ⊎ (v ≡ w)
      either true f g = inr (eqb-true v w f)
      either false f g = inl g
  marked v w (x ∷ ws) e = either (v == x) e (marked v w ws)
    where
      either : (b : Bool) → elim b [ true ↦ true | false ↦ is_in v (ws ++ w ∷ []) ] ≡ true → (is_in v (ws ++ w ∷ []) ≡ true → (is_in v ws ≡ true) ⊎ (v ≡ w)) → (elim b [ true ↦ true | false ↦ is_in v ws ] ≡ true) ⊎ (v ≡ w)
      either true g r = inl refl
      either false g r = r g

  pub marks : (w : ℕ) → E.step ≡ Notices w → (s : Vat N) → Causes s → Ends s (λ a t. t.known ≡ s.known) (mark w s)
  unfolding mark
  marks w e s c = (no_further s.happened, record { told = c.told; lines = c.lines; entries = c.entries; gifts = c.gifts; noticed = λ v h. either v (marked v w s.noticed h); number = c.number; names = c.names; mails = c.mails; promises = c.promises; hosts = c.hosts; onward = c.onward; lists = c.lists }, refl)
    where
      either : (v : ℕ) → (is_in v s.noticed ≡ true) ⊎ (v ≡ w) → IsNoticed K E v
      either v (inl h) = c.noticed v h
      either v (inr h) = inr (subst (λ u. E.step ≡ Notices u) (sym h) e)

  -- a view and its line
  pub views_now : (p q : N) (s : Vat N) → Causes s → ViewsBy K E E.step p q → Ends s (λ a t. IsAmong (Views p q) t.happened) ((tell (Views p q) >> alter K (See q) p) s)
  unfolding tell alter ◌>>◌ and_then changed_to give
  views_now p q s c w = let e : Happened N = Views p q in let r : Vat N = with_line s e in
      ((e ∷ [], refl), alter_causes r p (See q) (λ k f i. i) (λ m k f g i. tt) ((traces_viewed K E.vat.known p q (give (tt {0})) (traces_give K E.vat.known (tt {0}))).after s c.told) (causes_line s e w refl c), among_last s.happened e)

  pub lists_come : (vs : List (Value N)) (s : Vat N) → Causes s → Ends s (λ v t. (k : ℕ) × (v ≡ Items k) × IsAmong (ListCame k vs) t.happened) (make_list K vs s)
  unfolding make_list new_list tell ◌>>=◌ ◌>>◌ and_then give
  lists_come vs s c = let k = length s.lists in let e : Happened N = ListCame k vs in ((e ∷ [], refl), causes_block s _ e refl (refl, refl, refl, refl, refl, refl) tt (adds_new list_made E.vat.lists s.lists vs s.happened e refl c.lists) c, (k, refl, among_last s.happened e))
