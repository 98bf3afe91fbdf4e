-- What is kept of names in a step of one vat: each was made, and is known to the vat; roots and promises are known once, and each host is true.
use Rattle.std.proofs.Common.{◌≡◌, ℕ, ◌≤◌, ◌<◌, zero, suc, Bool, true, false, List, [], ◌∷◌, ◌++◌, Some, refl, sym, ap, ◌∙◌, ◌⊎◌, inl, inr, subst, Option, ◌==◌, arith}
use Rattle.std.specs.Prelude.{slice_get}
use Rattle.std.proofs.lemmas.Bool.{eq-eqb}
use Rattle.def_machine.specs.Refs as refs
use Rattle.def_machine.specs.Refs.{Mine, Away}
use Rattle.def_machine.specs.Values.{Name, Root, Object, Promise, Answer, Gift, Sent, Msg, Own, Foreign, NoObject, same_reference, spot_of, host_of, Naming, naming, name_of, answer_of, mail_of, key}
use Rattle.def_machine.specs.State.{Known, Standing, Unsettled, Settled, Change, Hold, Vat, with_change, changed, changed_to, unless_settled, begun}
use Rattle.def_run.specs.World.{put_at}
use Rattle.law_fate.specs.Name.Names.{Bit, Named, Mail, Drew, At, Off, Entered, Owns, bare, AllOf, IsAmong, promises_of, messages_of, WasDrawn, IsMade, names_in, IsKnownIn, IsHad, HostIsTrue, IsEventual, IsMessageName, IsPlain, PlainOnce}
use Rattle.def_machine.proofs.Keys.{word_key}
use Rattle.law_fate.proofs.Name.Facts.{all_end, PlaceOk}
use Rattle.law_fate.proofs.Name.Care.{ViewsNone, Care, Alike, Spots, Under, Giving, Makes}
use Rattle.law_fate.proofs.Name.SameNames.{false_true, reference_is}
use Rattle.law_fate.proofs.Name.Views.{AllLookOn, look_on_end, look_on_change}
use Rattle.law_fate.proofs.Name.Among.{among_more, among_last, among_or, among_is, names_end, drawn_last, plain_end, get_put, promises_grow, messages_grow, promises_at, messages_at, is_made_up}

-- a root, or a promise of another vat: what comes to be known by vat v from notes alone
abbrev pub IsTold : ℕ → Name → Type 0
IsTold v (Root w) = Unit {0}
IsTold v (Promise w i) = v ≡ w → ⊥
IsTold v other = ⊥

-- a mark of names and vats: names that are made of a vat that bears it bear it, and a name's host does
pub record Marked : Type 1 where
  pub mark : Bit Name → Type 0
  pub object : (v i : ℕ) → mark (At v) → mark (Named (Object v i))
  pub promise : (v i : ℕ) → mark (At v) → mark (Named (Promise v i))
  pub answer : (h : ℕ) (m : Msg) → mark (At h) → mark (Named (Answer h m))
  pub gift : (h i : ℕ) → mark (At h) → mark (Named (Gift h i))
  pub mail : (m : Msg) → mark (Mail (Sent m))
  pub draw : (i : ℕ) → mark (Drew i)
  pub near : (h : ℕ) → mark (Off h) → mark (At h)
  pub off : (h : ℕ) → mark (At h) → mark (Off h)
  pub host : (n : Name) → mark (Named n) → mark (At (host_of n))

-- another vat is not the vat itself
abbrev pub IsFar : ℕ → Bit Name → Type 0
IsFar v (Off h) = v ≡ h → ⊥
IsFar v other = Unit {0}

-- how the count of messages goes on: where new ones may be made, and where none are
abbrev pub Counts : Bool → ℕ → ℕ → Type 0
Counts true m m' = m ≤ m'
Counts false m m' = m ≡ m'

pub count_same : (news : Bool) (m : ℕ) → Counts news m m
count_same true m = omega arith
count_same false m = refl

count_trans : (news : Bool) (m m' m'' : ℕ) → Counts news m m' → Counts news m' m'' → Counts news m m''
count_trans true m m' m'' h k = omega arith
count_trans false m m' m'' h k = h ∙ k

pub count_most : (news : Bool) (m m' : ℕ) → Counts news m m' → m ≤ m'
count_most true m m' h = h
count_most false m m' h = omega arith

-- how the names known, the messages had, and the counts of promises, messages and draws go on, where no name of T comes to be known
pub record Follows (news : Bool) (T : Name → Type 0) (ns ms : List Name) (p m : ℕ) (d : List ℕ) (ns' ms' : List Name) (p' m' : ℕ) (d' : List ℕ) : Type 0 where
  pub names : (n : Name) → IsAmong n ns → IsAmong n ns'
  pub mails : (n : Name) → IsAmong n ms → IsAmong n ms'
  pub promises : p ≤ p'
  pub messages : Counts news m m'
  pub draws : (x : ℕ) → IsAmong x d → IsAmong x d'
  pub told : (n : Name) → T n → IsAmong n ns' → IsAmong n ns

-- what is kept of the names that vat v knows
pub record Kept (v u : ℕ) (ks : List (Known Name)) (ms : List Name) (p : ℕ) : Type 0 where
  pub number : u ≡ v
  pub hosts : AllOf HostIsTrue ks
  pub once : PlainOnce (names_in ks)
  pub own : (i : ℕ) → i < p → IsAmong (Promise v i) (names_in ks)
  pub below : (i : ℕ) → IsAmong (Promise v i) (names_in ks) → i < p
  pub apart : AllOf IsEventual (names_in ks)
  pub mails : AllOf IsMessageName ms
  pub views : AllLookOn [] ks

known_up : (ns ms : List Name) → ((n : Name) → IsAmong n ns → IsAmong n ms) → (n : Name) → IsKnownIn ns n → IsKnownIn ms n
known_up ns ms f (Object w i) h = tt
known_up ns ms f (Root w) h = f (Root w) h
known_up ns ms f (Promise w i) h = f (Promise w i) h
known_up ns ms f (Answer w m) h = f (Answer w m) h
known_up ns ms f (Gift w i) h = f (Gift w i) h
known_up ns ms f (Sent m) h = f (Sent m) h

pub known_among : (ns : List Name) (n : Name) → IsAmong n ns → IsKnownIn ns n
known_among ns (Object w i) h = tt
known_among ns other h = h

-- what is known of names changes, and not the names
unless_name : (x : Standing Name) (k new : Known Name) → new.name ≡ k.name → (unless_settled x k new).name ≡ k.name
unfolding unless_settled
unless_name (Settled y) k new e = refl
unless_name other k new e = e

to_name : (c : Change Name) (k : Known Name) → (changed_to c k).name ≡ k.name
unfolding changed_to
to_name (Hold m) k = refl
to_name other k = refl

unless_host : (x : Standing Name) (k new : Known Name) → HostIsTrue k → HostIsTrue new → HostIsTrue (unless_settled x k new)
unfolding unless_settled
unless_host (Settled y) k new h i = h
unless_host other k new h i = i

to_host : (c : Change Name) (k : Known Name) → HostIsTrue k → HostIsTrue (changed_to c k)
unfolding changed_to
to_host (Hold m) k h = h
to_host other k h = h

module _ (K : Naming Name Name) where
  either_name : (b : Bool) (j k : Known Name) (js ks : List (Known Name)) → j.name ≡ k.name → names_in js ≡ names_in ks → names_in (elim b [ true ↦ j ∷ ks | false ↦ k ∷ js ]) ≡ k.name ∷ names_in ks
  either_name true j k js ks e f = ap (λ n. n ∷ names_in ks) e
  either_name false j k js ks e f = ap (λ ns. k.name ∷ ns) f

  pub names_change : (c : Change Name) (n : Name) (ks : List (Known Name)) → names_in (with_change K c n ks) ≡ names_in ks
  unfolding with_change changed
  names_change c n [] = refl
  names_change c n (k ∷ ks) = either_name (K.same k.name n) (changed c k) k (with_change K c n ks) ks (unless_name k.standing k (changed_to c k) (to_name c k)) (names_change c n ks)

  either_host : (b : Bool) (j k : Known Name) (js ks : List (Known Name)) → HostIsTrue j → HostIsTrue k → AllOf HostIsTrue js → AllOf HostIsTrue ks → AllOf HostIsTrue (elim b [ true ↦ j ∷ ks | false ↦ k ∷ js ])
  either_host true j k js ks a b c d = (a, d)
  either_host false j k js ks a b c d = (b, c)

  hosts_change : (c : Change Name) (n : Name) (ks : List (Known Name)) → AllOf HostIsTrue ks → AllOf HostIsTrue (with_change K c n ks)
  unfolding with_change changed
  hosts_change c n [] h = tt
  hosts_change c n (k ∷ ks) h = either_host (K.same k.name n) (changed c k) k (with_change K c n ks) ks (unless_host k.standing k (changed_to c k) h.0 (to_host c k h.0)) h.0 (hosts_change c n ks h.1) h.1

  -- a change of what is known of a name, after which each view is among the later names
  pub kept_looking : (v number : ℕ) (c : Change Name) (n : Name) (ks : List (Known Name)) (ms : List Name) (p : ℕ) → AllLookOn [] (with_change K c n ks) → Kept v number ks ms p → Kept v number (with_change K c n ks) ms p
  kept_looking v number c n ks ms p views h = let e : names_in ks ≡ names_in (with_change K c n ks) = sym (names_change c n ks) in
      record { number = h.number; hosts = hosts_change c n ks h.hosts; once = rw e at h.once; own = λ i l. rw e at (h.own i l); below = λ i a. h.below i (rw (sym e) at a); apart = rw e at h.apart; mails = h.mails; views = views }

  pub same_name : (c : Change Name) (k : Known Name) → (changed c k).name ≡ k.name
  unfolding changed
  same_name c k = unless_name k.standing k (changed_to c k) (to_name c k)

  kept_change : (v number : ℕ) (c : Change Name) (n : Name) (ks : List (Known Name)) (ms : List Name) (p : ℕ) → ViewsNone c → Kept v number ks ms p → Kept v number (with_change K c n ks) ms p
  kept_change v number c n ks ms p none h = kept_looking v number c n ks ms p (look_on_change K names_change same_name [] c n ks none h.views) h

pub follows_same : (news : Bool) (T : Name → Type 0) (ns ms : List Name) (p m : ℕ) (d : List ℕ) → Follows news T ns ms p m d ns ms p m d
follows_same news T ns ms p m d = record { names = λ n h. h; mails = λ n h. h; promises = omega arith; messages = count_same news m; draws = λ x a. a; told = λ n t h. h }

pub follows_trans : (news : Bool) (T : Name → Type 0) (ns ms : List Name) (p m : ℕ) (d : List ℕ) (ns' ms' : List Name) (p' m' : ℕ) (d' : List ℕ) (ns'' ms'' : List Name) (p'' m'' : ℕ) (d'' : List ℕ) → Follows news T ns ms p m d ns' ms' p' m' d' → Follows news T ns' ms' p' m' d' ns'' ms'' p'' m'' d'' → Follows news T ns ms p m d ns'' ms'' p'' m'' d''
follows_trans news T ns ms p m d ns' ms' p' m' d' ns'' ms'' p'' m'' d'' h k =
    let a : p ≤ p' = h.promises in let b : p' ≤ p'' = k.promises in
    record { names = λ n i. k.names n (h.names n i); mails = λ n i. k.mails n (h.mails n i); promises = omega arith; messages = count_trans news m m' m'' h.messages k.messages; draws = λ x a. k.draws x (h.draws x a); told = λ n t i. h.told n t (k.told n t i) }

pub follows_drawn : (news : Bool) (T : Name → Type 0) (ns ms : List Name) (p m : ℕ) (ds : List ℕ) (w : ℕ) → Follows news T ns ms p m ds ns ms p m (ds ++ w ∷ [])
follows_drawn news T ns ms p m ds w = record { names = λ n h. h; mails = λ n h. h; promises = omega arith; messages = count_same news m; draws = λ x a. among_more x ds w a; told = λ n t h. h }

pub follows_change : (K : Naming Name Name) (news : Bool) (T : Name → Type 0) (c : Change Name) (n : Name) (ks : List (Known Name)) (ms : List Name) (p m : ℕ) (d : List ℕ) → Follows news T (names_in ks) ms p m d (names_in (with_change K c n ks)) ms p m d
follows_change K news T c n ks ms p m d = let e : names_in (with_change K c n ks) ≡ names_in ks = names_change K c n ks in
    record { names = λ x h. rw (sym e) at h; mails = λ x h. h; promises = omega arith; messages = count_same news m; draws = λ x a. a; told = λ x t h. rw e at h }

-- a name that is not told comes to be known
pub follows_known : (news : Bool) (T : Name → Type 0) (ks : List (Known Name)) (k : Known Name) (ms : List Name) (p m : ℕ) (d : List ℕ) → (T k.name → ⊥) → Follows news T (names_in ks) ms p m d (names_in (ks ++ k ∷ [])) ms p m d
follows_known news T ks k ms p m d f = let e : names_in (ks ++ k ∷ []) ≡ names_in ks ++ k.name ∷ [] = names_end ks k in
    record { names = λ n h. rw (sym e) at (among_more n (names_in ks) k.name h); mails = λ x h. h; promises = omega arith; messages = count_same news m; draws = λ x a. a; told = λ n t h. old n t (among_or n (names_in ks) k.name (rw e at h)) }
  where
    old : (n : Name) → T n → IsAmong n (names_in ks) ⊎ (n ≡ k.name) → IsAmong n (names_in ks)
    old n t (inl h) = h
    old n t (inr e) = absurd (f (rw e at t))

pub kept_known : (v number : ℕ) (ks : List (Known Name)) (k : Known Name) (ms : List Name) (p : ℕ) → k.standing ≡ Unsettled → HostIsTrue k → IsEventual k.name → (IsPlain k.name → IsAmong k.name (names_in ks) → ⊥) → ((i : ℕ) → Promise v i ≡ k.name → i < p) → Kept v number ks ms p → Kept v number (ks ++ k ∷ []) ms p
kept_known v number ks k ms p u t o f g h = let e : names_in (ks ++ k ∷ []) ≡ names_in ks ++ k.name ∷ [] = names_end ks k in
    record {
      number = h.number;
      hosts = all_end HostIsTrue ks k h.hosts t;
      once = rw (sym e) at (plain_end (names_in ks) k.name h.once f);
      own = λ i l. rw (sym e) at (among_more (Promise v i) (names_in ks) k.name (h.own i l));
      below = λ i a. low i (among_or (Promise v i) (names_in ks) k.name (rw e at a));
      apart = rw (sym e) at (all_end IsEventual (names_in ks) k.name h.apart o);
      mails = h.mails;
      views = look_on_end [] ks k u h.views;
    }
  where
    low : (i : ℕ) → IsAmong (Promise v i) (names_in ks) ⊎ (Promise v i ≡ k.name) → i < p
    low i (inl a) = h.below i a
    low i (inr e) = g i e

-- a message comes to be had
pub kept_mail : (v u : ℕ) (ks : List (Known Name)) (ms : List Name) (p : ℕ) (m : Name) → IsMessageName m → Kept v u ks ms p → Kept v u ks (ms ++ m ∷ []) p
kept_mail v u ks ms p m i h = record { number = h.number; hosts = h.hosts; once = h.once; own = h.own; below = h.below; apart = h.apart; mails = all_end IsMessageName ms m h.mails i; views = h.views }

pub no_answer : (v i h : ℕ) (m : Msg) → Promise v i ≡ Answer h m → ⊥
no_answer v i h m e = cc

pub no_gift : (v i h j : ℕ) → Promise v i ≡ Gift h j → ⊥
no_gift v i h j e = cc

same_promise : (v i j : ℕ) → Promise v i ≡ Promise v j → i ≡ j
same_promise v i j e = cc

either_below : (i p : ℕ) → i < suc p → (i < p) ⊎ (i ≡ p)
either_below zero zero h = inr refl
either_below zero (suc p) h = inl (omega arith)
either_below (suc i) zero h = absurd (omega arith)
either_below (suc i) (suc p) h = go (either_below i p (omega arith))
  where
    go : (i < p) ⊎ (i ≡ p) → (suc i < suc p) ⊎ (suc i ≡ suc p)
    go (inl k) = inl (omega arith)
    go (inr e) = inr (ap suc e)

-- a promise of the vat's own comes to be known
kept_promise : (v number : ℕ) (ks : List (Known Name)) (ms : List Name) (p : ℕ) → Kept v number ks ms p → Kept v number (ks ++ begun (Promise v p) number ∷ []) ms (suc p)
unfolding begun host_of
kept_promise v number ks ms p h = let k : Known Name = begun (Promise v p) number in let e : names_in (ks ++ k ∷ []) ≡ names_in ks ++ Promise v p ∷ [] = names_end ks k in
    record {
      number = h.number;
      hosts = all_end HostIsTrue ks k h.hosts h.number;
      once = rw (sym e) at (plain_end (names_in ks) (Promise v p) h.once (λ x a. fresh a));
      own = λ i l. rw (sym e) at (mine i (either_below i p l));
      below = λ i a. low i (among_or (Promise v i) (names_in ks) (Promise v p) (rw e at a));
      apart = rw (sym e) at (all_end IsEventual (names_in ks) (Promise v p) h.apart tt);
      mails = h.mails;
      views = look_on_end [] ks k refl h.views;
    }
  where
    fresh : IsAmong (Promise v p) (names_in ks) → ⊥
    fresh a = let l : p < p = h.below p a in omega arith

    mine : (i : ℕ) → (i < p) ⊎ (i ≡ p) → IsAmong (Promise v i) (names_in ks ++ Promise v p ∷ [])
    mine i (inl l) = among_more (Promise v i) (names_in ks) (Promise v p) (h.own i l)
    mine i (inr e) = among_is (Promise v i) (Promise v p) (names_in ks ++ Promise v p ∷ []) (ap (Promise v) e) (among_last (names_in ks) (Promise v p))

    low : (i : ℕ) → IsAmong (Promise v i) (names_in ks) ⊎ (Promise v i ≡ Promise v p) → i < suc p
    low i (inl a) = let l : i < p = h.below i a in omega arith
    low i (inr e) = let l : i ≡ p = same_promise v i p e in omega arith

module _ (news : Bool) (M : Marked) (vats : List (Vat Name)) (v : ℕ) (q : Vat Name) (there : slice_get vats v ≡ Some q) (here : M.mark (At v)) where
  abbrev pub Ok : Vat Name → Bit Name → Type 0
  Ok s b = IsMade (put_at v s vats) s.drawn b × IsHad (names_in s.known) s.mails b × IsFar v b × M.mark (bare b)

  abbrev pub Goes : Vat Name → Vat Name → Type 0
  Goes s t = Follows news (IsTold v) (names_in s.known) s.mails s.promises s.messages s.drawn (names_in t.known) t.mails t.promises t.messages t.drawn

  abbrev pub Keeps : Vat Name → Type 0
  Keeps s = Kept v s.number s.known s.mails s.promises

  pub quiet : (s : Vat Name) → Goes s s
  quiet s = follows_same news (IsTold v) (names_in s.known) s.mails s.promises s.messages s.drawn

  abbrev pub Onward : (Name → Type 0) → Vat Name → Vat Name → Type 0
  Onward T s t = Follows news T (names_in s.known) s.mails s.promises s.messages s.drawn (names_in t.known) t.mails t.promises t.messages t.drawn

  pub made_on : (T : Name → Type 0) (s t : Vat Name) → Onward T s t → (b : Bit Name) → IsMade (put_at v s vats) s.drawn b → IsMade (put_at v t vats) t.drawn b
  made_on T s t r b h = is_made_up (put_at v s vats) (put_at v t vats) s.drawn t.drawn (λ w. promises_grow vats v s t w r.promises) (λ w. messages_grow vats v s t w (count_most news s.messages t.messages r.messages)) r.draws b h

  had_up : (T : Name → Type 0) (s t : Vat Name) → Onward T s t → (b : Bit Name) → IsHad (names_in s.known) s.mails b → IsHad (names_in t.known) t.mails b
  had_up T s t r (Named n) h = known_up (names_in s.known) (names_in t.known) r.names n h
  had_up T s t r (Mail n) h = r.mails n h
  had_up T s t r (Entered n) h = known_up (names_in s.known) (names_in t.known) r.names n h
  had_up T s t r (Owns n i) h = known_up (names_in s.known) (names_in t.known) r.names n h
  had_up T s t r other h = tt

  pub ok_on : (T : Name → Type 0) (s t : Vat Name) → Onward T s t → (b : Bit Name) → Ok s b → Ok t b
  ok_on T s t r b h = (made_on T s t r b h.0, had_up T s t r b h.1, h.2, h.3)

  abbrev pub tracked : Care Name
  tracked = record {
    ok = Ok;
    more = Keeps;
    rel = Goes;
    same = quiet;
    trans = λ s t u h k. follows_trans news (IsTold v) (names_in s.known) s.mails s.promises s.messages s.drawn (names_in t.known) t.mails t.promises t.messages t.drawn (names_in u.known) u.mails u.promises u.messages u.drawn h k;
    up = λ s t r b h. ok_on (IsTold v) s t r b h;
    here = λ s h. (tt, tt, tt, subst (λ w. M.mark (At w)) (sym h.number) here);
    near = λ s w h. (tt, tt, tt, M.near w h.3);
    entered = λ s n h. h;
    owned = λ s n i h. h;
    owner = λ s n i h k. h;
    drew = λ s i h. h;
    fuel = λ s n. (quiet s, λ h. h);
    told = λ s e n. (quiet s, λ h. h);
    activations = λ s. (quiet s, λ h. h);
    thing = λ s t. (quiet s, λ h. h);
    killed = λ s n. (quiet s, λ h. h);
    slot = λ s c. (quiet s, λ h. h);
    written = λ s n x. (quiet s, λ h. h);
    list = λ s vs. (quiet s, λ h. h);
  }

  module _ (word : ℕ → ℕ) where
    answer_made : (s : Vat Name) (h : ℕ) (m : Msg) → m.number < messages_of (put_at v s vats) m.sender → M.mark (At h) →
        let t : Vat Name = record s { known = s.known ++ begun (Answer h m) h ∷ [] } in Goes s t × (Keeps s → Keeps t) × Ok t (Named (Answer h m))
    unfolding begun host_of
    answer_made s h m l at = let k : Known Name = begun (Answer h m) h in let t : Vat Name = record s { known = s.known ++ k ∷ [] } in
        let r : Goes s t = follows_known news (IsTold v) s.known k s.mails s.promises s.messages s.drawn (λ x. x) in
        let among : IsAmong (Answer h m) (names_in (s.known ++ k ∷ [])) = rw (sym (names_end s.known k)) at (among_last (names_in s.known) (Answer h m)) in
        (r, λ c. kept_known v s.number s.known k s.mails s.promises refl refl tt (λ x i. x) (λ i e. absurd (no_answer v i h m e)) c, (made_on (IsTold v) s t r (Named (Answer h m)) l, among, tt, M.answer h m at))

    gift_made : (s : Vat Name) (h i : ℕ) → WasDrawn s.drawn i → M.mark (At h) →
        let t : Vat Name = record s { known = s.known ++ begun (Gift h i) h ∷ [] } in Goes s t × (Keeps s → Keeps t) × Ok t (Named (Gift h i))
    unfolding begun host_of
    gift_made s h i l at = let k : Known Name = begun (Gift h i) h in let t : Vat Name = record s { known = s.known ++ k ∷ [] } in
        let r : Goes s t = follows_known news (IsTold v) s.known k s.mails s.promises s.messages s.drawn (λ x. x) in
        let among : IsAmong (Gift h i) (names_in (s.known ++ k ∷ [])) = rw (sym (names_end s.known k)) at (among_last (names_in s.known) (Gift h i)) in
        (r, λ c. kept_known v s.number s.known k s.mails s.promises refl refl tt (λ x a. x) (λ j e. absurd (no_gift v j h i e)) c, (made_on (IsTold v) s t r (Named (Gift h i)) l, among, tt, M.gift h i at))

    pub promise_made : (s : Vat Name) → let t : Vat Name = record s { promises = suc s.promises; known = s.known ++ begun (Promise v s.promises) s.number ∷ [] } in Goes s t × (Keeps s → Keeps t) × Ok t (Named (Promise v s.promises))
    unfolding begun
    promise_made s = let k : Known Name = begun (Promise v s.promises) s.number in let t : Vat Name = record s { promises = suc s.promises; known = s.known ++ k ∷ [] } in
        let f : Follows news (IsTold v) (names_in s.known) s.mails s.promises s.messages s.drawn (names_in (s.known ++ k ∷ [])) s.mails s.promises s.messages s.drawn = follows_known news (IsTold v) s.known k s.mails s.promises s.messages s.drawn (λ x. x refl) in
        let r : Goes s t = record { names = f.names; mails = f.mails; promises = omega arith; messages = count_same news s.messages; draws = λ x a. a; told = f.told } in
        let among : IsAmong (Promise v s.promises) (names_in (s.known ++ k ∷ [])) = rw (sym (names_end s.known k)) at (among_last (names_in s.known) (Promise v s.promises)) in
        let e : promises_of (put_at v t vats) v ≡ suc s.promises = promises_at (put_at v t vats) v t (get_put vats v q t there) in
        let l : s.promises < promises_of (put_at v t vats) v = omega arith in
        (r, λ c. kept_promise v s.number s.known s.mails s.promises c, (l, among, tt, M.promise v s.promises here))

    object_ok : (s : Vat Name) (i : ℕ) → Ok s (Named (Object v i))
    object_ok s i = (tt, tt, tt, M.object v i here)

    answered_ok : (s : Vat Name) (h : ℕ) (n : Name) → Ok s (Mail n) → M.mark (At h) → let t : Vat Name = record s { known = s.known ++ begun (answer_of h n) h ∷ [] } in Goes s t × (Keeps s → Keeps t) × Ok t (Named (answer_of h n))
    unfolding answer_of
    answered_ok s h (Sent m) l at = answer_made s h m l.0 at
    answered_ok s h other l at = absurd l.0

    -- the host that is told of a name is the host of that name
    host_either : (s : Vat Name) (k : Known Name) (n : Name) (o : Option (Known Name)) (b : Bool) → same_reference k.name n ≡ b → HostIsTrue k → (refs.host_in s.number o ≡ host_of n) ⊎ (refs.host_in s.number o ≡ s.number)
        → (refs.host_in s.number (elim b [ true ↦ Some k | false ↦ o ]) ≡ host_of n) ⊎ (refs.host_in s.number (elim b [ true ↦ Some k | false ↦ o ]) ≡ s.number)
    unfolding refs.host_in
    host_either s k n o true e h i = inl (h ∙ ap host_of (reference_is k.name n e))
    host_either s k n o false e h i = i

    host_told : (s : Vat Name) (n : Name) (ks : List (Known Name)) → AllOf HostIsTrue ks → (refs.host_in s.number (refs.entry_of (naming word v) ks n) ≡ host_of n) ⊎ (refs.host_in s.number (refs.entry_of (naming word v) ks n) ≡ s.number)
    unfolding refs.entry_of refs.host_in naming
    host_told s n [] h = inr refl
    host_told s n (k ∷ ks) h = host_either s k n (refs.entry_of (naming word v) ks n) (same_reference k.name n) refl h.0 (host_told s n ks h.1)

    hosted_far : (s : Vat Name) (n : Name) (h : ℕ) (b : Bool) → (s.number == h) ≡ b → Ok s (Named n) → s.number ≡ v → (h ≡ host_of n) ⊎ (h ≡ s.number) → PlaceOk (Ok s) (elim b [ true ↦ Mine n | false ↦ Away h n false ])
    hosted_far s n h true e g i j = g
    hosted_far s n h false e g i (inl j) = (g, (tt, tt, (λ k. false_true (sym e ∙ eq-eqb s.number h (i ∙ k))), M.off h (subst (λ w. M.mark (At w)) (sym j) (M.host n g.3))))
    hosted_far s n h false e g i (inr j) = absurd (false_true (sym e ∙ eq-eqb s.number h (sym j)))

    foreign_far : (s : Vat Name) (w i : ℕ) (b : Bool) → (v == w) ≡ b → Ok s (Named (Object w i)) → PlaceOk (Ok s) (refs.spotted (naming word v) s (Object w i) (elim b [ true ↦ Own i | false ↦ Foreign w ]))
    unfolding refs.spotted host_of
    foreign_far s w i true e g = tt
    foreign_far s w i false e g = (g, (tt, tt, (λ k. false_true (sym e ∙ eq-eqb v w k)), M.off w (M.host (Object w i) g.3)))

    eventual_far : (s : Vat Name) → Keeps s → (n : Name) → Ok s (Named n) → PlaceOk (Ok s) (refs.spotted (naming word v) s n NoObject)
    unfolding refs.spotted refs.hosted refs.host_at
    eventual_far s h n g = hosted_far s n (refs.host_in s.number (refs.entry_of (naming word v) s.known n)) (s.number == refs.host_in s.number (refs.entry_of (naming word v) s.known n)) refl g h.number (host_told s n s.known h.hosts)

    spots_far : (s : Vat Name) → Keeps s → (n : Name) → Ok s (Named n) → PlaceOk (Ok s) (refs.spotted (naming word v) s n (spot_of v n))
    unfolding spot_of
    spots_far s h (Object w i) g = foreign_far s w i (v == w) refl g
    spots_far s h (Root w) g = eventual_far s h (Root w) g
    spots_far s h (Promise w i) g = eventual_far s h (Promise w i) g
    spots_far s h (Answer w m) g = eventual_far s h (Answer w m) g
    spots_far s h (Gift w i) g = eventual_far s h (Gift w i) g
    spots_far s h (Sent m) g = eventual_far s h (Sent m) g

    tracked_spots : Spots (naming word v) tracked
    unfolding naming
    tracked_spots = record { alike = λ a b e. reference_is a b e; placed = spots_far }

    pub tracked_under : Under (naming word v) tracked
    unfolding naming name_of answer_of mail_of
    tracked_under = record {
      spots = tracked_spots;
      object = λ s i l. object_ok s i;
      happened = λ s e. (quiet s, λ h. h);
      queue = λ s m. (quiet s, λ h. h);
      outbox = λ s p h. (quiet s, λ h. h);
      opened = λ s p i. (quiet s, λ h. h);
      noticed = λ s w. (quiet s, λ h. h);
      drawn = λ s w. (follows_drawn news (IsTold v) (names_in s.known) s.mails s.promises s.messages s.drawn w, λ h. h, (drawn_last s.drawn w (key s.number w) (word_key s.number w), tt, tt, M.draw (key s.number w)));
      altered = λ s c n none h. (follows_change (naming word v) news (IsTold v) c n s.known s.mails s.promises s.messages s.drawn, λ k. kept_change (naming word v) v s.number c n s.known s.mails s.promises none k);
      answered = λ s h n l at. answered_ok s h n l at.3;
    }

    pub tracked_gives : Giving (naming word v) tracked
    unfolding naming name_of
    tracked_gives = record {
      gift = λ s g h. (quiet s, λ h. h);
      given = λ s h i l at. gift_made s h i l.0 at.3;
      hosted = λ s i k l. gift_made s s.number i l.0 (subst (λ w. M.mark (At w)) (sym k.number) here);
    }

    pub tracked_alike : Alike tracked
    tracked_alike = record { named = λ s n h. h; owns = λ s n i h. h; gave = λ s i h. h }

-- where new messages may be made
module _ (M : Marked) (vats : List (Vat Name)) (v : ℕ) (q : Vat Name) (there : slice_get vats v ≡ Some q) (here : M.mark (At v)) (word : ℕ → ℕ) where
  message_made : (s : Vat Name) (h : ℕ) → M.mark (At h) → let m : Msg = record { sender = v; number = s.messages } in let t : Vat Name = record s { messages = suc s.messages; mails = s.mails ++ Sent m ∷ []; known = s.known ++ begun (Answer h m) h ∷ [] } in
      Goes true M vats v q there here s t × (Keeps true M vats v q there here s → Keeps true M vats v q there here t) × Ok true M vats v q there here t (Mail (Sent m)) × Ok true M vats v q there here t (Named (Answer h m))
  unfolding begun host_of
  message_made s h at = let m : Msg = record { sender = v; number = s.messages } in let k : Known Name = begun (Answer h m) h in let t : Vat Name = record s { messages = suc s.messages; mails = s.mails ++ Sent m ∷ []; known = s.known ++ k ∷ [] } in
      let f : Follows true (IsTold v) (names_in s.known) s.mails s.promises s.messages s.drawn (names_in (s.known ++ k ∷ [])) s.mails s.promises s.messages s.drawn = follows_known true (IsTold v) s.known k s.mails s.promises s.messages s.drawn (λ x. x) in
      let r : Goes true M vats v q there here s t = record { names = f.names; mails = λ n a. among_more n s.mails (Sent m) a; promises = omega arith; messages = omega arith; draws = λ x a. a; told = f.told } in
      let among : IsAmong (Answer h m) (names_in (s.known ++ k ∷ [])) = rw (sym (names_end s.known k)) at (among_last (names_in s.known) (Answer h m)) in
      let e : messages_of (put_at v t vats) v ≡ suc s.messages = messages_at (put_at v t vats) v t (get_put vats v q t there) in
      let l : s.messages < messages_of (put_at v t vats) v = omega arith in
      (r, λ c. kept_mail v s.number (s.known ++ k ∷ []) s.mails s.promises (Sent m) tt (kept_known v s.number s.known k s.mails s.promises refl refl tt (λ x a. x) (λ i e. absurd (no_answer v i h m e)) c), (l, among_last s.mails (Sent m), tt, M.mail m), (l, among, tt, M.answer h m at))

  lone_made : (s : Vat Name) → let m : Msg = record { sender = v; number = s.messages } in let t : Vat Name = record s { messages = suc s.messages; mails = s.mails ++ Sent m ∷ [] } in
      Goes true M vats v q there here s t × (Keeps true M vats v q there here s → Keeps true M vats v q there here t) × Ok true M vats v q there here t (Mail (Sent m))
  lone_made s = let m : Msg = record { sender = v; number = s.messages } in let t : Vat Name = record s { messages = suc s.messages; mails = s.mails ++ Sent m ∷ [] } in
      let r : Goes true M vats v q there here s t = record { names = λ n a. a; mails = λ n a. among_more n s.mails (Sent m) a; promises = omega arith; messages = omega arith; draws = λ x a. a; told = λ n t a. a } in
      let e : messages_of (put_at v t vats) v ≡ suc s.messages = messages_at (put_at v t vats) v t (get_put vats v q t there) in
      let l : s.messages < messages_of (put_at v t vats) v = omega arith in
      (r, λ c. kept_mail v s.number s.known s.mails s.promises (Sent m) tt c, (l, among_last s.mails (Sent m), tt, M.mail m))

  pub tracked_makes : Makes (naming word v) (tracked true M vats v q there here)
  unfolding naming name_of answer_of mail_of
  tracked_makes = record {
    promised = λ s. promise_made true M vats v q there here word s;
    messaged = λ s h at. message_made s h at.3;
    lone = lone_made;
  }
