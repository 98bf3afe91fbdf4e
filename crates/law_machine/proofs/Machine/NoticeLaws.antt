-- What a notice breaks.
use Rattle.std.proofs.Common.{◌≡◌, ℕ, zero, suc, Bool, true, false, List, [], ◌∷◌, ◌++◌, Option, Some, None, refl, subst, ap, ◌∙◌, ◌⊎◌, inl, inr, length}
use Rattle.std.specs.Prelude.{slice_get, codes, ◌==◌, if◌then◌else◌}
use Rattle.std.proofs.lemmas.Bool.{eq-eqb}
use Rattle.def_machine.specs.Values.{Words, Value, Broken, Naming}
use Rattle.def_machine.specs.State.{Message, Standing, Viewed, Settled, Known, Change, Hold, Wait, WaitOn, ToTell, Settle, GiftEntry, Settles, Vat, Done, Gives, Act, ◌>>=◌, ◌>>◌, and_then, each, give, look, tell, enqueue, mark, alter, is_in, with_change, changed, changed_to, unless_settled}
use Rattle.def_machine.specs.Refs as refs
use Rattle.def_machine.specs.Refs.{entry_of, standing_of, standing_in}
use Rattle.def_machine.specs.Arrive as arrive
use Rattle.def_machine.specs.Arrive.{notice}
use Rattle.law_machine.specs.Machine.Steps.{After}
use Rattle.law_machine.specs.Machine.Laws.{SettledStays}
use Rattle.law_machine.specs.Machine.Breaks.{still_waits, IsBroken, HostedBreak, GiftsBreak}
use Rattle.law_machine.proofs.Machine.Keeps.{Keeps, IsKept, IsKeptUnder, keeps}
use Rattle.law_machine.proofs.Machine.RefsKeeps.{GoodSettler, keeps_send_on, keeps_inform, keeps_settle_at}
use Rattle.law_machine.proofs.Machine.StepLaws.{after_map, settled_law, settled_names, settled_entry, standing_found, changed_head, entry_append}
use Rattle.law_machine.proofs.Machine.NoticeKeeps.{IsKeptBreaking, breaking_each, breaking_bind, breaking_look, breaks_notice_name, breaks_notice_gift}

-- it waits, or settled to a broken reference
abbrev MayBreak : {N : Type 0} → Standing N → Type 0
MayBreak {N} t = (still_waits t ≡ true) ⊎ ((p : Words) × (t ≡ Settled (Broken p)))

unless_may : {N : Type 0} (t : Standing N) (k new : Known N) → MayBreak k.standing → MayBreak new.standing → MayBreak (unless_settled t k new).standing
unfolding unless_settled
unless_may (Settled y) k new h i = h
unless_may other k new h i = i

may_hold : {N : Type 0} (m : Message N) (k : Known N) → MayBreak k.standing → MayBreak (changed (Hold m) k).standing
unfolding changed changed_to
may_hold m k h = unless_may k.standing k (changed_to (Hold m) k) h h

may_wait : {N : Type 0} (q : N) (k : Known N) → MayBreak k.standing → MayBreak (changed (Wait q) k).standing
unfolding changed changed_to
may_wait q k h = unless_may k.standing k (changed_to (Wait q) k) h h

may_wait_on : {N : Type 0} (q : N) (k : Known N) → MayBreak k.standing → MayBreak (changed (WaitOn q) k).standing
unfolding changed changed_to still_waits
may_wait_on q k h = unless_may k.standing k (changed_to (WaitOn q) k) h (inl refl)

may_to_tell : {N : Type 0} (w : ℕ) (k : Known N) → MayBreak k.standing → MayBreak (changed (ToTell w) k).standing
unfolding changed changed_to
may_to_tell w k h = unless_may k.standing k (changed_to (ToTell w) k) h h

may_settle : {N : Type 0} (p : Words) (k : Known N) → MayBreak k.standing → MayBreak (changed (Settle (Broken p)) k).standing
unfolding changed changed_to
may_settle p k h = unless_may k.standing k (changed_to (Settle (Broken p)) k) h (inr (p, refl))

pick_either : {A : Type 0} (f : A → A) (a b : Bool) (x k : A) (o : Option A) → a ≡ b → ◌≡◌ {A = Option A} (elim b [ true ↦ Some x | false ↦ o ]) (Some k)
    → ◌⊎◌ (◌≡◌ {A = Option A} (elim a [ true ↦ Some (f x) | false ↦ o ]) (Some k)) (◌≡◌ {A = Option A} (elim a [ true ↦ Some (f x) | false ↦ o ]) (Some (f k)))
pick_either f a true x k o q e = let same : x ≡ k = cc in inr (rw q (ap (λ z. Some (f z)) same))
pick_either f a false x k o q e = inl (rw q e)

pick_on : {A : Type 0} (b : Bool) (x k l : A) (o p : Option A) → ◌≡◌ {A = Option A} (elim b [ true ↦ Some x | false ↦ o ]) (Some k) → (o ≡ Some k → (p ≡ Some k) ⊎ (p ≡ Some l))
    → ◌⊎◌ (◌≡◌ {A = Option A} (elim b [ true ↦ Some x | false ↦ p ]) (Some k)) (◌≡◌ {A = Option A} (elim b [ true ↦ Some x | false ↦ p ]) (Some l))
pick_on true x k l o p e h = inl e
pick_on false x k l o p e h = h e

-- the standing of what is changed to settled
settles_to : {N : Type 0} (t : Standing N) (y : Value N) (k new : Known N) → k.standing ≡ t → new.standing ≡ Settled y → (z : Value N) × ((unless_settled t k new).standing ≡ Settled z)
unfolding unless_settled
settles_to (Settled z) y k new e h = (z, e)
settles_to other y k new e h = (y, h)

change_settles : {N : Type 0} (y : Value N) (k : Known N) → (z : Value N) × ((changed (Settle y) k).standing ≡ Settled z)
unfolding changed changed_to
change_settles y k = settles_to k.standing y k (changed_to (Settle y) k) refl refl

-- P holds of the state given
abbrev AfterGives : {N A : Type 0} → (Vat N → Type 0) → Done N A → Type 0
AfterGives P (Gives a t) = P t
AfterGives P other = Unit {0}

gives_after : {N A : Type 0} (P : Vat N → Type 0) (s : Vat N) (d : Done N A) → After (λ r t. P t) s d → AfterGives P d
gives_after P s (Gives a t) h = h
gives_after P s other h = tt

-- what each gives, and what all that comes after keeps
gives_then : {N A B : Type 0} (P Q : Vat N → Type 0) (d : Done N A) (f : A → Act N B) → AfterGives P d → ((a : A) (t : Vat N) → P t → AfterGives Q (f a t)) → AfterGives Q (and_then d f)
unfolding and_then
gives_then P Q (Gives a t) f h k = k a t h
gives_then P Q other f h k = tt

gives_both : {N A : Type 0} (P Q : Vat N → Type 0) (d : Done N A) → AfterGives P d → AfterGives Q d → AfterGives (λ t. P t × Q t) d
gives_both P Q (Gives a t) h k = (h, k)
gives_both P Q other h k = tt

gives_so : {N A : Type 0} (P Q : Vat N → Type 0) (d : Done N A) → AfterGives P d → ((t : Vat N) → P t → Q t) → AfterGives Q d
gives_so P Q (Gives a t) h k = k t h
gives_so P Q other h k = tt

true_false : true ≡ false → ⊥
true_false e = cc

viewed_may : {N : Type 0} (q : N) (t : Standing N) → t ≡ Viewed q → MayBreak t → ⊥
unfolding still_waits
viewed_may q (Viewed r) e (inl h) = cc
viewed_may q (Viewed r) e (inr h) = let i = h.1 in cc
viewed_may q other e h = cc

found_head : {N : Type 0} (b : Bool) (k0 k : Known N) (ks : List (Known N)) (o : Option (Known N)) → ◌≡◌ {A = Option (Known N)} (elim b [ true ↦ Some k0 | false ↦ o ]) (Some k)
    → (o ≡ Some k → (i : ℕ) × (slice_get ks i ≡ Some k)) → (i : ℕ) × (slice_get (k0 ∷ ks) i ≡ Some k)
found_head true k0 k ks o e h = (zero, e)
found_head false k0 k ks o e h = let rest = h e in (suc rest.0, rest.1)

waits_settled : {N : Type 0} (t : Standing N) (y : Value N) → t ≡ Settled y → still_waits t ≡ true → ⊥
unfolding still_waits
waits_settled (Settled z) y e i = cc
waits_settled other y e i = cc

module _ {N W : Type 0} (K : Naming N W) where
  -- known, and it waits or settled to a broken reference
  abbrev WaitsOrBroken : N → Vat N → Type 0
  WaitsOrBroken n s = (k : Known N) × (entry_of K s.known n ≡ Some k) × MayBreak k.standing

  -- its entry as it was, or changed
  abbrev EntryOr : Change N → List (Known N) → N → Known N → Type 0
  EntryOr c ls n k = (entry_of K ls n ≡ Some k) ⊎ (entry_of K ls n ≡ Some (changed c k))

  or_cons : (b : Bool) (c : Change N) (n : N) (k0 : Known N) (ks rest : List (Known N)) (k : Known N) → entry_of K (k0 ∷ ks) n ≡ Some k → (entry_of K ks n ≡ Some k → EntryOr c rest n k)
      → EntryOr c (elim b [ true ↦ changed c k0 ∷ ks | false ↦ k0 ∷ rest ]) n k
  unfolding entry_of
  or_cons true c n k0 ks rest k e r = pick_either (changed c) (K.same (changed c k0).name n) (K.same k0.name n) k0 k (entry_of K ks n) (ap (λ x. K.same x n) (changed_head c k0).0) e
  or_cons false c n k0 ks rest k e r = pick_on (K.same k0.name n) k0 k (changed c k) (entry_of K ks n) (entry_of K rest n) e r

  or_changed : (c : Change N) (m n : N) (ks : List (Known N)) (k : Known N) → entry_of K ks n ≡ Some k → EntryOr c (with_change K c m ks) n k
  unfolding with_change
  or_changed c m n [] k e = inl e
  or_changed c m n (k0 ∷ ks) k e = or_cons (K.same k0.name m) c n k0 ks (with_change K c m ks) k e (λ h. or_changed c m n ks k h)

  may_entry : (c : Change N) (ls : List (Known N)) (n : N) (k : Known N) → EntryOr c ls n k → MayBreak k.standing → (MayBreak k.standing → MayBreak (changed c k).standing) → (j : Known N) × (entry_of K ls n ≡ Some j) × MayBreak j.standing
  may_entry c ls n k (inl e) h f = (k, e, h)
  may_entry c ls n k (inr e) h f = (changed c k, e, f h)

  may_change : (c : Change N) (m : N) (ks : List (Known N)) (n : N) (x : (k : Known N) × (entry_of K ks n ≡ Some k) × MayBreak k.standing) → ((k : Known N) → MayBreak k.standing → MayBreak (changed c k).standing)
      → (j : Known N) × (entry_of K (with_change K c m ks) n ≡ Some j) × MayBreak j.standing
  may_change c m ks n x f = may_entry c (with_change K c m ks) n x.0 (or_changed c m n ks x.0 x.1) x.2 (f x.0)

  -- what only breaks: what waited waits or is broken, the gifts are the same, and what settled is settled so
  abbrev pub OnlyBreaks : Vat N → Vat N → Type 0
  OnlyBreaks s t = ((n : N) → WaitsOrBroken n s → WaitsOrBroken n t) × (t.gifts ≡ s.gifts) × SettledStays K s t

  only_law : IsKeptBreaking K OnlyBreaks
  only_law = let base : IsKept (SettledStays K) = settled_law K in let under : IsKeptUnder K (SettledStays K) = settled_names K in record {
    same = λ s. (λ n x. x, refl, base.same s);
    trans = λ h k. (λ n x. k.0 n (h.0 n x), k.1 ∙ h.1, λ n j y e i. k.2 n j y (h.2 n j y e i) i);
    fuel = λ s m. (λ n x. x, refl, base.fuel s m);
    happened = λ s e. (λ n x. x, refl, base.happened s e);
    queue = λ s m. (λ n x. x, refl, base.queue s m);
    outbox = λ s p. (λ n x. x, refl, base.outbox s p);
    drawn = λ s w. (λ n x. x, refl, base.drawn s w);
    came = λ s c h. (λ n x. (x.0, entry_append K n s.known _ x.0 x.1, x.2), refl, under.came s c h);
    hold = λ s m n. (λ q x. may_change (Hold m) n s.known q x (λ k h. may_hold m k h), refl, under.altered s (Hold m) n);
    wait = λ s r n. (λ q x. may_change (Wait r) n s.known q x (λ k h. may_wait r k h), refl, under.altered s (Wait r) n);
    wait_on = λ s r n. (λ q x. may_change (WaitOn r) n s.known q x (λ k h. may_wait_on r k h), refl, under.altered s (WaitOn r) n);
    to_tell = λ s w n. (λ q x. may_change (ToTell w) n s.known q x (λ k h. may_to_tell w k h), refl, under.altered s (ToTell w) n);
    broken = λ s p n. (λ q x. may_change (Settle (Broken p)) n s.known q x (λ k h. may_settle p k h), refl, under.altered s (Settle (Broken p)) n);
  }

  -- ---- what settles is settled

  abbrev IsSettled : N → Vat N → Type 0
  IsSettled n t = (y : Value N) × (standing_of K t.known n ≡ Settled y)

  still_settled : (n : N) (s t : Vat N) → SettledStays K s t → IsSettled n s → IsSettled n t
  unfolding standing_of
  still_settled n s t h x = let found = settled_entry (entry_of K s.known n) x.0 x.1 in (x.0, standing_found K t.known n found.0 x.0 (h n found.0 x.0 found.1 found.2) found.2)

  pick_settles : (a b : Bool) (y : Value N) (x k : Known N) (o : Option (Known N)) → a ≡ b → ◌≡◌ {A = Option (Known N)} (elim b [ true ↦ Some x | false ↦ o ]) (Some k) → b ≡ true
      → (z : Value N) × (standing_in (elim a [ true ↦ Some (changed (Settle y) x) | false ↦ o ]) ≡ Settled z)
  unfolding standing_in
  pick_settles a true y x k o q e t = rw q (change_settles y x)
  pick_settles a false y x k o q e t = cc

  skip_settles : (a : Bool) (x k : Known N) (o p : Option (Known N)) → a ≡ false → ◌≡◌ {A = Option (Known N)} (elim a [ true ↦ Some x | false ↦ o ]) (Some k)
      → (o ≡ Some k → (z : Value N) × (standing_in p ≡ Settled z)) → (z : Value N) × (standing_in (elim a [ true ↦ Some x | false ↦ p ]) ≡ Settled z)
  skip_settles true x k o p i e h = absurd (true_false i)
  skip_settles false x k o p i e h = h e

  settle_cons : (b : Bool) (y : Value N) (n : N) (k0 : Known N) (ks rest : List (Known N)) (k : Known N) → K.same k0.name n ≡ b → entry_of K (k0 ∷ ks) n ≡ Some k
      → (entry_of K ks n ≡ Some k → (z : Value N) × (standing_in (entry_of K rest n) ≡ Settled z))
      → (z : Value N) × (standing_in (entry_of K (elim b [ true ↦ changed (Settle y) k0 ∷ ks | false ↦ k0 ∷ rest ]) n) ≡ Settled z)
  unfolding entry_of
  settle_cons true y n k0 ks rest k i e r = pick_settles (K.same (changed (Settle y) k0).name n) (K.same k0.name n) y k0 k (entry_of K ks n) (ap (λ x. K.same x n) (changed_head (Settle y) k0).0) e i
  settle_cons false y n k0 ks rest k i e r = skip_settles (K.same k0.name n) k0 k (entry_of K ks n) (entry_of K rest n) i e r

  nothing_found : (n : N) (k : Known N) → entry_of K [] n ≡ Some k → ⊥
  unfolding entry_of
  nothing_found n k e = cc

  settles_entry : (y : Value N) (n : N) (ks : List (Known N)) (k : Known N) → entry_of K ks n ≡ Some k → (z : Value N) × (standing_in (entry_of K (with_change K (Settle y) n ks) n) ≡ Settled z)
  unfolding with_change
  settles_entry y n [] k e = absurd (nothing_found n k e)
  settles_entry y n (k0 ∷ ks) k e = settle_cons (K.same k0.name n) y n k0 ks (with_change K (Settle y) n ks) k refl e (λ h. settles_entry y n ks k h)

  -- what follows the settling itself
  told_on : (N → Value N → Act N (Unit {0})) → N → Value N → Known N → Act N (Unit {0})
  told_on settle p y k = each (refs.send_on K settle) k.held >> (each (λ q. settle q y) k.waiting >> (each enqueue k.reactions >> each (refs.inform K p) k.told))

  keeps_told_on : (settle : N → Value N → Act N (Unit {0})) → GoodSettler (SettledStays K) settle → (p : N) (y : Value N) (k : Known N) → Keeps (SettledStays K) (told_on settle p y k)
  unfolding told_on
  keeps_told_on settle good p y k = let base : IsKept (SettledStays K) = settled_law K in let law : IsKeptUnder K (SettledStays K) = settled_names K in search (keeps, keeps_send_on, keeps_inform) depth 14

  known_settles : (settle : N → Value N → Act N (Unit {0})) → GoodSettler (SettledStays K) settle → (p : N) (y : Value N) (k j : Known N) (s : Vat N) → entry_of K s.known p ≡ Some j
      → After (λ r t. IsSettled p t) s (refs.settle_known K settle p y k s)
  unfolding refs.settle_known told_on ◌>>◌ tell alter and_then standing_of
  known_settles settle good p y k j s e = let t : Vat N = record s { happened = s.happened ++ Settles p y ∷ []; known = with_change K (Settle y) p s.known } in
      after_map (SettledStays K) (λ r u. IsSettled p u) t (told_on settle p y k t) (λ u h. still_settled p t u h (settles_entry y p s.known j e)) ((keeps_told_on settle good p y k).after t)

  standing_settles : (settle : N → Value N → Act N (Unit {0})) → GoodSettler (SettledStays K) settle → (p : N) (y : Value N) (k : Known N) (t : Standing N) (s : Vat N) → entry_of K s.known p ≡ Some k → k.standing ≡ t
      → After (λ r u. IsSettled p u) s (refs.settle_standing K settle p y k t s)
  unfolding refs.settle_standing give
  standing_settles settle good p y k (Settled z) s e i = (z, standing_found K s.known p k z e i)
  standing_settles settle good p y k other s e i = known_settles settle good p y k k s e

  entry_settles : (settle : N → Value N → Act N (Unit {0})) → GoodSettler (SettledStays K) settle → (p : N) (y : Value N) (k : Known N) (o : Option (Known N)) (s : Vat N) → entry_of K s.known p ≡ Some k → o ≡ Some k
      → After (λ r u. IsSettled p u) s (refs.settle_entry K settle p y o s)
  unfolding refs.settle_entry
  entry_settles settle good p y k (Some j) s e i = let same : j ≡ k = cc in standing_settles settle good p y j j.standing s (rw same e) refl
  entry_settles settle good p y k None s e i = cc

  settles : (p : N) (x : Value N) (k : Known N) (s : Vat N) → entry_of K s.known p ≡ Some k → After (λ r u. IsSettled p u) s (refs.settle K p x s)
  unfolding refs.settle refs.settle_at refs.settle_one ◌>>=◌ look and_then
  settles p x k s e = entry_settles (λ q z. refs.settle_at K (suc (length s.known)) q z) (λ q z. keeps_settle_at K (SettledStays K) (settled_law K) (settled_names K) (suc (length s.known)) q z) p (refs.target_of K s p x) k (entry_of K s.known p) s e e

  -- ---- one name, one gift

  standing_may : (n : N) (s : Vat N) → WaitsOrBroken n s → MayBreak (standing_of K s.known n)
  unfolding standing_of standing_in
  standing_may n s x = rw x.1 x.2

  hosted_settles : (w : ℕ) (n : N) (p : Words) (t : Standing N) (s : Vat N) → standing_of K s.known n ≡ t → WaitsOrBroken n s → After (λ r u. IsSettled n u) s (arrive.break_hosted K w n p t s)
  unfolding arrive.break_hosted give
  hosted_settles w n p (Viewed q) s e x = absurd (viewed_may q (standing_of K s.known n) e (standing_may n s x))
  hosted_settles w n p (Settled y) s e x = (y, e)
  hosted_settles w n p other s e x = settles n (Broken p) x.0 s x.1

  name_if : (w : ℕ) (n : N) (b : Bool) (s : Vat N) → b ≡ true → WaitsOrBroken n s → After (λ r u. IsSettled n u) s ((if b then arrive.break_hosted K w n (codes "partition") (standing_of K s.known n) else give tt) s)
  name_if w n true s e x = hosted_settles w n (codes "partition") (standing_of K s.known n) s refl x
  name_if w n false s e x = cc

  name_settles : (w : ℕ) (k : Known N) (s : Vat N) → k.host ≡ w → WaitsOrBroken k.name s → After (λ r u. IsSettled k.name u) s (arrive.notice_name K w k s)
  unfolding arrive.notice_name ◌>>=◌ look and_then
  name_settles w k s e x = name_if w k.name (k.host == w) s (eq-eqb k.host w e) x

  at_settles : (n : N) (p : Words) (t : Standing N) (s : Vat N) → standing_of K s.known n ≡ t → WaitsOrBroken n s → After (λ r u. IsSettled n u) s (arrive.break_at K n p t s)
  unfolding arrive.break_at give
  at_settles n p (Settled y) s e x = (y, e)
  at_settles n p other s e x = settles n (Broken p) x.0 s x.1

  unopened_settles : (n : N) (b : Bool) (s : Vat N) → b ≡ false → WaitsOrBroken n s → After (λ r u. IsSettled n u) s (arrive.break_unopened K n b s)
  unfolding arrive.break_unopened ◌>>=◌ look and_then
  unopened_settles n true s e x = cc
  unopened_settles n false s e x = at_settles n (codes "partition") (standing_of K s.known n) s refl x

  gift_if : (g : GiftEntry N) (b : Bool) (s : Vat N) → b ≡ true → g.opened ≡ false → WaitsOrBroken g.name s → After (λ r u. IsSettled g.name u) s ((if b then arrive.break_unopened K g.name g.opened else give tt) s)
  gift_if g true s e o x = unopened_settles g.name g.opened s o x
  gift_if g false s e o x = cc

  gift_settles : (w : ℕ) (g : GiftEntry N) (s : Vat N) → g.provider ≡ w → g.opened ≡ false → WaitsOrBroken g.name s → After (λ r u. IsSettled g.name u) s (arrive.notice_gift K w g s)
  unfolding arrive.notice_gift
  gift_settles w g s e o x = gift_if g (g.provider == w) s (eq-eqb g.provider w e) o x

  -- ---- all of them

  gives_kept : {A : Type 0} (P : Vat N → Type 0) (s : Vat N) (m : Act N A) → Keeps OnlyBreaks m → ((t : Vat N) → OnlyBreaks s t → P t) → AfterGives P (m s)
  gives_kept P s m k f = gives_after P s (m s) (after_map OnlyBreaks (λ r t. P t) s (m s) f (k.after s))

  keeps_each_of : {A : Type 0} (f : A → Act N (Unit {0})) (xs : List A) → ((y : A) → Keeps OnlyBreaks (f y)) → Keeps OnlyBreaks (each f xs)
  keeps_each_of f xs k = breaking_each K OnlyBreaks only_law xs k

  -- where each only breaks, and one settles n, all of them settle n
  each_settles : {A : Type 0} (f : A → Act N (Unit {0})) (n : N) (x : A) → ((y : A) → Keeps OnlyBreaks (f y)) → ((s : Vat N) → WaitsOrBroken n s → After (λ r t. IsSettled n t) s (f x s))
      → (xs : List A) (i : ℕ) → slice_get xs i ≡ Some x → (s : Vat N) → WaitsOrBroken n s → AfterGives (IsSettled n) (each f xs s)
  unfolding each ◌>>◌
  each_settles f n x k g [] i e s h = cc
  each_settles f n x k g (y ∷ xs) zero e s h = let same : x ≡ y = cc in
      gives_then (IsSettled n) (IsSettled n) (f y s) (λ u. each f xs) (subst (λ z. AfterGives (IsSettled n) (f z s)) same (gives_after {A = Unit {0}} (IsSettled n) s (f x s) (g s h))) (λ a t j. gives_kept (IsSettled n) t (each f xs) (keeps_each_of f xs k) (λ u only. still_settled n t u only.2 j))
  each_settles f n x k g (y ∷ xs) (suc i) e s h =
      gives_then (WaitsOrBroken n) (IsSettled n) (f y s) (λ u. each f xs) (gives_kept (WaitsOrBroken n) s (f y) (k y) (λ t only. only.0 n h)) (λ a t j. each_settles f n x k g xs i e t j)

  -- where an entry is found it is among those known
  found_at : (ks : List (Known N)) (n : N) (k : Known N) → entry_of K ks n ≡ Some k → (i : ℕ) × (slice_get ks i ≡ Some k)
  unfolding entry_of
  found_at [] n k e = absurd (nothing_found n k e)
  found_at (k0 ∷ ks) n k e = found_head (K.same k0.name n) k0 k ks (entry_of K ks n) e (λ h. found_at ks n k h)

  gifts_part : ℕ → Act N (Unit {0})
  gifts_part w = look (λ s. s.gifts) >>= (λ gifts. each (arrive.notice_gift K w) gifts)

  names_part : ℕ → List (Known N) → Act N (Unit {0})
  names_part w ks = each (arrive.notice_name K w) ks

  keeps_names : (w : ℕ) (ks : List (Known N)) → Keeps OnlyBreaks (names_part w ks)
  unfolding names_part
  keeps_names w ks = breaking_each K OnlyBreaks only_law ks (λ k. breaks_notice_name K OnlyBreaks only_law w k)

  keeps_gifts : (w : ℕ) → Keeps OnlyBreaks (gifts_part w)
  unfolding gifts_part
  keeps_gifts w = breaking_bind K OnlyBreaks only_law (breaking_look K OnlyBreaks only_law (λ s. s.gifts)) (λ gs. breaking_each K OnlyBreaks only_law gs (λ g. breaks_notice_gift K OnlyBreaks only_law w g))

  one_name : (w : ℕ) (k : Known N) → Keeps OnlyBreaks (arrive.notice_name K w k)
  one_name w k = breaks_notice_name K OnlyBreaks only_law w k

  one_gift : (w : ℕ) (g : GiftEntry N) → Keeps OnlyBreaks (arrive.notice_gift K w g)
  one_gift w g = breaks_notice_gift K OnlyBreaks only_law w g

  settled_broken : (n : N) (t : Vat N) → WaitsOrBroken n t → IsSettled n t → IsBroken K t n
  settled_broken n t x y = by_may (standing_may n t x)
    where
      by_may : MayBreak (standing_of K t.known n) → IsBroken K t n
      by_may (inl e) = absurd (waits_settled (standing_of K t.known n) y.0 y.1 e)
      by_may (inr e) = e

  -- the names of that host
  names_break : (w : ℕ) (s : Vat N) (k : Known N) → entry_of K s.known k.name ≡ Some k → k.host ≡ w → still_waits k.standing ≡ true → AfterGives (λ t. IsBroken K t k.name) ((names_part w s.known >> gifts_part w) s)
  unfolding names_part ◌>>◌
  names_break w s k e h i = let found = found_at s.known k.name k e in let before : WaitsOrBroken k.name s = (k, e, inl i) in
      gives_then (λ t. IsSettled k.name t × WaitsOrBroken k.name t) (λ t. IsBroken K t k.name) (each (arrive.notice_name K w) s.known s) (λ u. gifts_part w)
      (gives_both (IsSettled k.name) (WaitsOrBroken k.name) (each (arrive.notice_name K w) s.known s)
      (each_settles (arrive.notice_name K w) k.name k (one_name w) (λ t x. name_settles w k t h x) s.known found.0 found.1 s before)
      (gives_kept (WaitsOrBroken k.name) s (names_part w s.known) (keeps_names w s.known) (λ t only. only.0 k.name before)))
      (λ a t x. gives_kept (λ u. IsBroken K u k.name) t (gifts_part w) (keeps_gifts w) (λ u only. settled_broken k.name u (only.0 k.name x.1) (still_settled k.name t u only.2 x.0)))

  -- the gifts of that provider
  gifts_break : (w : ℕ) (s : Vat N) (i : ℕ) (g : GiftEntry N) (k : Known N) → slice_get s.gifts i ≡ Some g → g.provider ≡ w → g.opened ≡ false → entry_of K s.known g.name ≡ Some k → still_waits k.standing ≡ true
      → AfterGives (λ t. IsBroken K t g.name) ((names_part w s.known >> gifts_part w) s)
  unfolding names_part gifts_part ◌>>◌ ◌>>=◌ look and_then
  gifts_break w s i g k place h o e j = let before : WaitsOrBroken g.name s = (k, e, inl j) in
      gives_then (λ t. (t.gifts ≡ s.gifts) × WaitsOrBroken g.name t) (λ t. IsBroken K t g.name) (each (arrive.notice_name K w) s.known s) (λ u. gifts_part w)
      (gives_kept (λ t. (t.gifts ≡ s.gifts) × WaitsOrBroken g.name t) s (names_part w s.known) (keeps_names w s.known) (λ t only. (only.1, only.0 g.name before)))
      (λ a t x. gives_so (λ u. IsSettled g.name u × WaitsOrBroken g.name u) (λ u. IsBroken K u g.name) (each (arrive.notice_gift K w) t.gifts t)
      (gives_both (IsSettled g.name) (WaitsOrBroken g.name) (each (arrive.notice_gift K w) t.gifts t)
      (each_settles (arrive.notice_gift K w) g.name g (one_gift w) (λ u y. gift_settles w g u h o y) t.gifts i (rw x.0 place) t x.1)
      (gives_kept (WaitsOrBroken g.name) t (each (arrive.notice_gift K w) t.gifts) (keeps_each_of (arrive.notice_gift K w) t.gifts (one_gift w)) (λ u only. only.0 g.name x.1)))
      (λ u y. settled_broken g.name u y.1 y.0))

  gives_at : {A : Type 0} (P : Vat N → Type 0) (d : Done N A) (a : A) (t : Vat N) → d ≡ Gives a t → AfterGives P d → P t
  gives_at P d a t e h = rw e at h

  all_gives : (w : ℕ) (s t : Vat N) (b : Bool) → b ≡ false → ◌≡◌ {A = Done N (Unit {0})} ((if b then give tt else arrive.notice_all K w) s) (Gives tt t)
      → (names_part w s.known >> gifts_part w) (record s { noticed = s.noticed ++ w ∷ [] }) ≡ Gives tt t
  unfolding arrive.notice_all names_part gifts_part ◌>>◌ ◌>>=◌ look mark and_then
  all_gives w s t true e i = cc
  all_gives w s t false e i = i

  notice_gives : (w : ℕ) (s t : Vat N) → is_in w s.noticed ≡ false → notice K w s ≡ Gives tt t → (names_part w s.known >> gifts_part w) (record s { noticed = s.noticed ++ w ∷ [] }) ≡ Gives tt t
  unfolding arrive.notice ◌>>=◌ look and_then
  notice_gives w s t e i = all_gives w s t (is_in w s.noticed) e i

  pub notice_breaks : (w : ℕ) (s t : Vat N) → is_in w s.noticed ≡ false → notice K w s ≡ Gives tt t → HostedBreak K w s t × GiftsBreak K w s t
  notice_breaks w s t e i = let u : Vat N = record s { noticed = s.noticed ++ w ∷ [] } in let gives = notice_gives w s t e i in (
    λ k f h j. gives_at (λ x. IsBroken K x k.name) ((names_part w s.known >> gifts_part w) u) tt t gives (names_break w u k f h j),
    λ n g k place h o f j. gives_at (λ x. IsBroken K x g.name) ((names_part w s.known >> gifts_part w) u) tt t gives (gifts_break w u n g k place h o f j),
  )
