-- What is kept of one name at a vat: that there is room for the messages of which it is the answer and for one wait, and that what it waits on is where it waits.
use Rattle.std.proofs.Common.{◌≡◌, ℕ, suc, ◌+◌, ◌≤◌, Bool, true, false, List, [], ◌∷◌, ◌++◌, Option, Some, refl, sym, ap, subst, ◌∙◌, ◌⊎◌, inl, inr, arith}
use Rattle.def_machine.specs.Values.{Value, Name, Object, Sent, Naming, naming, same_reference, same_name}
use Rattle.def_machine.specs.State.{Standing, Unsettled, Settled, Known, Change, Wait, WaitOn, See, Settle, changed, changed_to, with_change, begun}
use Rattle.def_machine.specs.Refs.{entry_of, standing_of}
use Rattle.law_machine.proofs.Machine.StepLaws.{changed_head}
use Rattle.law_fate.specs.Name.Names.{AllOf, IsAmong, names_in, IsKnownIn, IsEventual}
use Rattle.law_fate.proofs.Name.Facts.{all_end, all_map}
use Rattle.law_fate.proofs.Name.SameNames.{reference_self, same_is}
use Rattle.law_fate.specs.Fates.Fate.{once, one, total}
use Rattle.law_reference.specs.Reference.Views.{IsOpen}
use Rattle.law_reference.proofs.Reference.Kept.{open_changed, settled_is}
use Rattle.law_reference.proofs.Reference.Kept as ring
use Rattle.law_reference.proofs.Reference.Entries.{changed_at}
use Rattle.law_reference.proofs.Reference.Following.{standing_found}
use Rattle.law_order.specs.Waits.Answers.{asked_at, waits_at, waitings, IsWaitOf}
use Rattle.law_order.proofs.Waits.Counts.{one_self, total_end, change_adds, change_same, change_frees, stands, IsMild, mild_stands, comes_stands, asks_more, asked_changed, waits_more, waits_changed, settled_asks, settled_waits}

-- what is known and is no object is among the names
pub known_among : (n : Name) → IsEventual n → (ns : List Name) → IsKnownIn ns n → IsAmong n ns
known_among (Object w i) e ns h = absurd e
known_among (Sent m) e ns h = absurd e
known_among other e ns h = h

-- ---- counts of one name

-- one where it did settle or waits
unfoldable pub spent : Standing Name → ℕ
spent Unsettled = 0
spent other = 1

spent_most : (t : Standing Name) → spent t ≤ 1
unfolding spent
spent_most Unsettled = omega arith
spent_most other = omega arith

pub unspent : (t : Standing Name) → spent t ≡ 0 → t ≡ Unsettled
unfolding spent
unspent Unsettled e = refl
unspent other e = absurd (omega arith)

-- how often it is known
unfoldable pub times : Name → List (Known Name) → ℕ
times x ks = total (λ k. one k.name x) ks

-- where it is among the names, it is known once at least
pub times_least : (x : Name) (ks : List (Known Name)) → IsAmong x (names_in ks) → 1 ≤ times x ks
unfolding times total
times_least x [] a = absurd a
times_least x (k ∷ ks) (inl e) = let here = one_self k.name x (sym e) in omega arith
times_least x (k ∷ ks) (inr a) = let rest = times_least x ks a in omega arith

pub few_or : (n : ℕ) → (2 ≤ n) ⊎ (n ≤ 1)
few_or (suc (suc n)) = inl (omega arith)
few_or other = inr (omega arith)

-- of what counts only where the name is owed
unfoldable pub share : Bool → ℕ → ℕ
share true n = n
share false n = 0

pub share_most : (owed : Bool) (n : ℕ) → share owed n ≤ n
unfolding share
share_most true n = omega arith
share_most false n = omega arith

pub share_sum : (owed : Bool) (m n : ℕ) → share owed (m + n) ≡ share owed m + share owed n
unfolding share
share_sum true m n = omega arith
share_sum false m n = omega arith

pub share_grows : (owed : Bool) (m n : ℕ) → m ≤ n → share owed m ≤ share owed n
unfolding share
share_grows true m n h = h
share_grows false m n h = omega arith

module _ (word : ℕ → ℕ) (v : ℕ) (x : Name) where
  abbrev N : Naming Name Name
  N = naming word v

  -- that it settled or waits, and how often it is among what waits
  unfoldable pub burden : List (Known Name) → ℕ
  burden ks = spent (standing_of N ks x) + waitings x ks

  -- Where it waits on a name that is known, it stands so.
  abbrev pub WaitsAs : Standing Name → Known Name → Type 0
  WaitsAs t k = (waits_at x k ≡ 0) ⊎ IsWaitOf k.name t

  abbrev pub Waiting : List (Known Name) → Type 0
  Waiting ks = AllOf (WaitsAs (standing_of N ks x)) ks

  -- ---- where it waits, after a change

  settled_all : (t : Standing Name) → ((n : Name) → IsWaitOf n t) → (ks : List (Known Name)) → AllOf (WaitsAs t) ks
  settled_all t h [] = tt
  settled_all t h (k ∷ ks) = (inr (h k.name), settled_all t h ks)

  pub settled_waiting : (y : Value Name) (ks : List (Known Name)) → standing_of N ks x ≡ Settled y → Waiting ks
  settled_waiting y ks e = settled_all (standing_of N ks x) (λ n. subst (IsWaitOf n) (sym e) tt) ks

  one_changed : (c : Change Name) → waits_more x c ≡ 0 → (t : Standing Name) (k : Known Name) → WaitsAs t k → WaitsAs t (changed c k)
  one_changed c z t k (inl e) = let more = waits_changed x c k in inl (omega arith)
  one_changed c z t k (inr i) = let head = changed_head c k in inr (subst (λ n. IsWaitOf n t) (sym head.0) i)

  -- by a change that has it not wait on more
  all_changed : (c : Change Name) (n : Name) → waits_more x c ≡ 0 → (t : Standing Name) (ks : List (Known Name)) → AllOf (WaitsAs t) ks → AllOf (WaitsAs t) (with_change N c n ks)
  all_changed c n z t ks h = ring.all_changed word v false (λ i. Unit {0}) (λ i. Unit {0}) (WaitsAs t) c n (λ k i. one_changed c z t k i) ks h

  pub waiting_changed : (c : Change Name) (n : Name) (ks : List (Known Name)) → waits_more x c ≡ 0 → standing_of N (with_change N c n ks) x ≡ standing_of N ks x → Waiting ks → Waiting (with_change N c n ks)
  waiting_changed c n ks z e h = subst (λ t. AllOf (WaitsAs t) (with_change N c n ks)) (sym e) (all_changed c n z (standing_of N ks x) ks h)

  -- so it waits on the name whose entry is changed
  wait_head : (t : Standing Name) (r : Name) (b : Bool) (k : Known Name) (ks ls : List (Known Name)) → IsWaitOf r t → (b ≡ true → k.name ≡ r) → WaitsAs t k → AllOf (WaitsAs t) ks → AllOf (WaitsAs t) ls → AllOf (WaitsAs t) (elim b [ true ↦ changed (Wait x) k ∷ ks | false ↦ k ∷ ls ])
  wait_head t r true k ks ls w e h i j = let head = changed_head (Wait x) k in (inr (subst (λ n. IsWaitOf n t) (sym (head.0 ∙ e refl)) w), i)
  wait_head t r false k ks ls w e h i j = (h, j)

  all_waiting : (t : Standing Name) (r : Name) → IsWaitOf r t → (ks : List (Known Name)) → AllOf (WaitsAs t) ks → AllOf (WaitsAs t) (with_change N (Wait x) r ks)
  unfolding with_change
  all_waiting t r w [] h = tt
  all_waiting t r w (k ∷ ks) h = wait_head t r (N.same k.name r) k ks (with_change N (Wait x) r ks) w (ring.is word v k.name r) h.0 h.1 (all_waiting t r w ks h.1)

  pub waiting_more : (r : Name) (ks : List (Known Name)) → IsWaitOf r (standing_of N ks x) → Waiting ks → Waiting (with_change N (Wait x) r ks)
  waiting_more r ks w h = subst (λ t. AllOf (WaitsAs t) (with_change N (Wait x) r ks)) (sym (mild_stands word v (Wait x) tt r x ks)) (all_waiting (standing_of N ks x) r w ks h)

  unsettled_none : (t : Standing Name) → t ≡ Unsettled → (k : Known Name) → WaitsAs t k → waits_at x k ≡ 0
  unsettled_none t e k (inl i) = i
  unsettled_none t e k (inr w) = absurd (subst (IsWaitOf k.name) e w)

  -- ---- it comes to wait

  -- It is known, and did neither settle nor wait, or it settled.
  abbrev pub IsCalm : List (Known Name) → Type 0
  IsCalm ks = (k : Known Name) × (entry_of N ks x ≡ Some k) × ((k.standing ≡ Unsettled) ⊎ ((y : Value Name) × (k.standing ≡ Settled y)))

  unsettled_open : (t : Standing Name) → t ≡ Unsettled → IsOpen t
  unsettled_open t e y i = cc

  module _ (c : Change Name) (r : Name) (none : waits_more x c ≡ 0) (new : (k : Known Name) → IsWaitOf r (changed_to c k).standing) where
    -- from then on, where it is changed so as to wait on r
    pub turned : (ks : List (Known Name)) → IsCalm ks → Waiting ks → Waiting (with_change N c x ks) × IsWaitOf r (standing_of N (with_change N c x ks) x)
    turned ks h waits = go h.2
      where
        found : standing_of N (with_change N c x ks) x ≡ (changed c h.0).standing
        found = standing_found N (with_change N c x ks) x (changed c h.0) (changed_at N c x ks h.0 h.1)

        was : standing_of N ks x ≡ h.0.standing
        was = standing_found N ks x h.0 h.1

        go : (h.0.standing ≡ Unsettled) ⊎ ((y : Value Name) × (h.0.standing ≡ Settled y)) → Waiting (with_change N c x ks) × IsWaitOf r (standing_of N (with_change N c x ks) x)
        go (inl e) = let loose : changed c h.0 ≡ changed_to c h.0 = open_changed c h.0 (unsettled_open h.0.standing e) in
            let free : AllOf (λ (k : Known Name). waits_at x k ≡ 0) ks = all_map {P = WaitsAs (standing_of N ks x)} {Q = λ (k : Known Name). waits_at x k ≡ 0} (λ k i. unsettled_none (standing_of N ks x) (was ∙ e) k i) ks waits in
            let now : AllOf (WaitsAs (standing_of N (with_change N c x ks) x)) ks = all_map {P = λ (k : Known Name). waits_at x k ≡ 0} {Q = WaitsAs (standing_of N (with_change N c x ks) x)} (λ k i. inl i) ks free in
            (all_changed c x none (standing_of N (with_change N c x ks) x) ks now, subst (IsWaitOf r) (sym (found ∙ ap (λ (k : Known Name). k.standing) loose)) (new h.0))
        go (inr e) = let same : standing_of N (with_change N c x ks) x ≡ Settled e.0 = found ∙ (ap (λ (k : Known Name). k.standing) (settled_is c h.0 e.0 e.1) ∙ e.1) in (settled_waiting e.0 (with_change N c x ks) same, subst (IsWaitOf r) (sym same) tt)

    pub waits_on : (ks : List (Known Name)) → IsCalm ks → Waiting ks → Waiting (with_change N (Wait x) r (with_change N c x ks))
    waits_on ks h waits = let now = turned ks h waits in waiting_more r (with_change N c x ks) now.1 now.0

  -- ---- the counts after a change

  -- the name settles, waits or comes to be viewed
  abbrev pub turns_more : Change Name → Name → ℕ
  turns_more (WaitOn q) n = one n x
  turns_more (See q) n = one n x
  turns_more (Settle y) n = one n x
  turns_more other n = 0

  spent_mild : (c : Change Name) → IsMild word v c → (n : Name) (ks : List (Known Name)) (d : ℕ) → spent (standing_of N (with_change N c n ks) x) ≤ spent (standing_of N ks x) + d
  spent_mild c h n ks d = let same : spent (standing_of N (with_change N c n ks) x) ≡ spent (standing_of N ks x) = ap spent (mild_stands word v c h n x ks) in omega arith

  spent_turned : (c : Change Name) (n : Name) (ks : List (Known Name)) → spent (standing_of N (with_change N c n ks) x) ≤ spent (standing_of N ks x) + one n x
  spent_turned c n ks = go (stands word v c n x ks)
    where
      go : (standing_of N (with_change N c n ks) x ≡ standing_of N ks x) ⊎ ((k : Known Name) × (n ≡ x) × (standing_of N ks x ≡ k.standing) × (standing_of N (with_change N c n ks) x ≡ (changed c k).standing))
          → spent (standing_of N (with_change N c n ks) x) ≤ spent (standing_of N ks x) + one n x
      go (inl e) = let same : spent (standing_of N (with_change N c n ks) x) ≡ spent (standing_of N ks x) = ap spent e in omega arith
      go (inr i) = let most = spent_most (standing_of N (with_change N c n ks) x) in let is = one_self n x i.1 in omega arith

  spent_changed : (c : Change Name) (n : Name) (ks : List (Known Name)) → spent (standing_of N (with_change N c n ks) x) ≤ spent (standing_of N ks x) + turns_more c n
  spent_changed (WaitOn q) n ks = spent_turned (WaitOn q) n ks
  spent_changed (See q) n ks = spent_turned (See q) n ks
  spent_changed (Settle y) n ks = spent_turned (Settle y) n ks
  spent_changed other n ks = spent_mild other tt n ks 0

  pub burden_changed : (c : Change Name) (n : Name) (ks : List (Known Name)) → burden (with_change N c n ks) ≤ burden ks + (waits_more x c + turns_more c n)
  unfolding burden waitings
  burden_changed c n ks = let a = change_adds word v (waits_at x) c n (waits_more x c) (waits_changed x c) ks in let b = spent_changed c n ks in omega arith

  pub asked_after : (c : Change Name) (n : Name) (ks : List (Known Name)) → total (asked_at x) (with_change N c n ks) ≤ total (asked_at x) ks + asks_more x c
  asked_after c n ks = change_adds word v (asked_at x) c n (asks_more x c) (asked_changed x c) ks

  pub times_changed : (c : Change Name) (n : Name) (ks : List (Known Name)) → times x (with_change N c n ks) ≡ times x ks
  unfolding times
  times_changed c n ks = change_same word v (λ (k : Known Name). one k.name x) c n (λ k. let head = changed_head c k in ap (λ (m : Name). one m x) head.0) ks

  -- a name that settles frees what it held, and what waited on it
  pub burden_settles : (y : Value Name) (p : Name) (k : Known Name) (ks : List (Known Name)) → entry_of N ks p ≡ Some k → IsOpen k.standing → burden (with_change N (Settle y) p ks) + waits_at x k ≤ burden ks + one p x
  unfolding burden waitings
  burden_settles y p k ks e loose = let a = change_frees word v (waits_at x) (Settle y) p k (settled_waits x y k loose) ks e in let b = spent_changed (Settle y) p ks in omega arith

  pub asked_settles : (y : Value Name) (p : Name) (k : Known Name) (ks : List (Known Name)) → entry_of N ks p ≡ Some k → IsOpen k.standing → total (asked_at x) (with_change N (Settle y) p ks) + asked_at x k ≡ total (asked_at x) ks
  asked_settles y p k ks e loose = change_frees word v (asked_at x) (Settle y) p k (settled_asks x y k loose) ks e

  pub settles_waiting : (y : Value Name) (p : Name) (ks : List (Known Name)) (k : Known Name) → entry_of N ks p ≡ Some k → IsOpen k.standing → Waiting ks → Waiting (with_change N (Settle y) p ks)
  unfolding changed_to
  settles_waiting y p ks k e loose h = go (stands word v (Settle y) p x ks)
    where
      found : standing_of N (with_change N (Settle y) p ks) p ≡ Settled y
      found = standing_found N (with_change N (Settle y) p ks) p (changed (Settle y) k) (changed_at N (Settle y) p ks k e) ∙ ap (λ (j : Known Name). j.standing) (open_changed (Settle y) k loose)

      go : (standing_of N (with_change N (Settle y) p ks) x ≡ standing_of N ks x) ⊎ ((j : Known Name) × (p ≡ x) × (standing_of N ks x ≡ j.standing) × (standing_of N (with_change N (Settle y) p ks) x ≡ (changed (Settle y) j).standing)) → Waiting (with_change N (Settle y) p ks)
      go (inl i) = waiting_changed (Settle y) p ks refl i h
      go (inr i) = settled_waiting y (with_change N (Settle y) p ks) (subst (λ (m : Name). standing_of N (with_change N (Settle y) p ks) m ≡ Settled y) i.1 found)

  -- ---- a name comes to be known

  begun_none : (n : Name) (h : ℕ) → (asked_at x (begun n h) ≡ 0) × (waits_at x (begun n h) ≡ 0)
  unfolding begun asked_at waits_at total
  begun_none n h = (refl, refl)

  begun_name : (n : Name) (h : ℕ) → (begun n h).name ≡ n
  unfolding begun
  begun_name n h = refl

  pub asked_comes : (n : Name) (h : ℕ) (ks : List (Known Name)) → total (asked_at x) (ks ++ begun n h ∷ []) ≡ total (asked_at x) ks
  asked_comes n h ks = let a = total_end (asked_at x) ks (begun n h) in let b = begun_none n h in let c = b.0 in omega arith

  pub burden_comes : (n : Name) (h : ℕ) (ks : List (Known Name)) → burden (ks ++ begun n h ∷ []) ≡ burden ks
  unfolding burden waitings
  burden_comes n h ks = let a = total_end (waits_at x) ks (begun n h) in let b = begun_none n h in let c = b.1 in let d : spent (standing_of N (ks ++ begun n h ∷ []) x) ≡ spent (standing_of N ks x) = ap spent (comes_stands word v n h x ks) in omega arith

  pub times_comes : (n : Name) (h : ℕ) (ks : List (Known Name)) → times x (ks ++ begun n h ∷ []) ≡ times x ks + one n x
  unfolding times
  times_comes n h ks = total_end (λ (k : Known Name). one k.name x) ks (begun n h) ∙ ap (λ (m : Name). total (λ (k : Known Name). one k.name x) ks + one m x) (begun_name n h)

  pub waiting_comes : (n : Name) (h : ℕ) (ks : List (Known Name)) → Waiting ks → Waiting (ks ++ begun n h ∷ [])
  waiting_comes n h ks w = let b = begun_none n h in subst (λ t. AllOf (WaitsAs t) (ks ++ begun n h ∷ [])) (sym (comes_stands word v n h x ks)) (all_end (WaitsAs (standing_of N ks x)) ks (begun n h) w (inl b.1))

  -- ---- what is known is found

  found_head : (b : Bool) (k : Known Name) (o : Option (Known Name)) (c d : ℕ) → (b ≡ false → c ≡ 0) → 1 ≤ c + d → (1 ≤ d → (j : Known Name) × (o ≡ Some j)) → (j : Known Name) × (◌≡◌ {A = Option (Known Name)} (elim b [ true ↦ Some k | false ↦ o ]) (Some j))
  found_head true k o c d z h rest = (k, refl)
  found_head false k o c d z h rest = let none = z refl in rest (omega arith)

  apart_one : IsEventual x → (n : Name) → N.same n x ≡ false → one n x ≡ 0
  unfolding one once naming
  apart_one e n f = go (same_name n x) refl
    where
      go : (b : Bool) → same_name n x ≡ b → once b ≡ 0
      go false i = refl
      go true i = let same : n ≡ x = same_is n x i in let alike : same_reference n x ≡ true = subst (λ (m : Name). same_reference m x ≡ true) (sym same) (reference_self x e) in cc

  pub times_found : IsEventual x → (ks : List (Known Name)) → 1 ≤ times x ks → (k : Known Name) × (entry_of N ks x ≡ Some k)
  unfolding times total entry_of
  times_found e [] h = absurd (omega arith)
  times_found e (k ∷ ks) h = found_head (N.same k.name x) k (entry_of N ks x) (one k.name x) (total (λ (j : Known Name). one j.name x) ks) (apart_one e k.name) h (λ i. times_found e ks i)

  -- a name that is known, did neither settle nor wait, and is among no names that wait
  pub free_calm : IsEventual x → (ks : List (Known Name)) → burden ks ≡ 0 → 1 ≤ times x ks → IsCalm ks
  unfolding burden
  free_calm e ks z h = let k = times_found e ks h in (k.0, k.1, inl (sym (standing_found N ks x k.0 k.1) ∙ unspent (standing_of N ks x) (omega arith)))
