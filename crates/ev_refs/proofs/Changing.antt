-- The single changes in the code's terms are those of the machine.
use Rattle.std.proofs.Common.{◌≡◌, ℕ, zero, suc, ◌+◌, ◌<◌, true, false, List, [], ◌∷◌, ◌++◌, Some, None, refl, sym, ap, ◌∙◌, subst, arith}
use Rattle.std.specs.Prelude.{◌==◌, slice_get, slice_set}
use Rattle.std.proofs.lemmas.Cmp.{nat_eq_equiv}
use Rattle.std.proofs.lemmas.List.{map-append}
use Rattle.ev_base.specs.declared.values.Value.{Value as Held}
use Rattle.def_machine.specs.Values.{Words, Local, Prom, same_local, numbering}
use Rattle.def_machine.specs.State as machine
use Rattle.def_machine.specs.State.{Change, Hold, Wait, WaitOn, See, React, ToTell, Settle, changed, changed_to, with_change}
use Rattle.ev_refs.specs.Changes.{unless_settled, with_held, with_waiting, waiting_on, seen_as, with_reaction, with_told, settled_as}
use Rattle.ev_refs.specs.Reading.{value_by, message_by, known_by, knowns_by, standing_by}
use Rattle.ev_refs.specs.declared.known.Known.{Known}
use Rattle.ev_refs.specs.declared.known.Message.{Message}
use Rattle.ev_refs.specs.declared.known.Standing.{Standing}
use Rattle.ev_refs.specs.declared.known.Standing.TheVariants.{Unsettled, WaitsOn, Viewed, Settled}
use Rattle.ev_refs.proofs.Machine.{names, unlike}

module _ (word : ℕ → ℕ) (ts : List Words) where
  here_changed : (c : Change Local) (k : machine.Known Local) (ks : List (machine.Known Local)) (n : Local) → same_local k.name n ≡ true → with_change (names word) c n (k ∷ ks) ≡ changed c k ∷ ks
  unfolding with_change numbering
  here_changed c k ks n h = rw (h, with_change) refl

  there_changed : (c : Change Local) (k : machine.Known Local) (ks : List (machine.Known Local)) (n : Local) → same_local k.name n ≡ false → with_change (names word) c n (k ∷ ks) ≡ k ∷ with_change (names word) c n ks
  unfolding with_change numbering
  there_changed c k ks n h = rw (h, with_change) refl

  -- the change of what is known of the name of a number is at its place
  change_from : (c : Change Local) (ks : List Known) (m i n : ℕ) (k new : Known) → m + i ≡ n → slice_get ks i ≡ Some k → changed c (known_by ts n k) ≡ known_by ts n new
      → with_change (names word) c (Prom n) (knowns_by ts m ks) ≡ knowns_by ts m (slice_set ks i new)
  unfolding knowns_by same_local
  change_from c [] m i n k new e h is = cc
  change_from c (x ∷ ks) m zero n k new e h is =
      let same : n ≡ m = omega arith in
      let found : x ≡ k = cc in
      here_changed c (known_by ts m x) (knowns_by ts (suc m) ks) (Prom n) (subst (λ (y : ℕ). (m == y) ≡ true) (sym same) (nat_eq_equiv.refl m))
      ∙ ap (λ (y : machine.Known Local). y ∷ knowns_by ts (suc m) ks) (rw found (subst (λ (y : ℕ). changed c (known_by ts y k) ≡ known_by ts y new) same is))
  change_from c (x ∷ ks) m (suc i) n k new e h is =
      let less : m < n = omega arith in
      let more : suc m + i ≡ n = omega arith in
      there_changed c (known_by ts m x) (knowns_by ts (suc m) ks) (Prom n) (unlike m n less)
      ∙ ap (λ (ys : List (machine.Known Local)). known_by ts m x ∷ ys) (change_from c ks (suc m) i n k new more h is)

  pub change_is : (c : Change Local) (ks : List Known) (n : ℕ) (k new : Known) → slice_get ks n ≡ Some k → changed c (known_by ts n k) ≡ known_by ts n new
      → with_change (names word) c (Prom n) (knowns_by ts 0 ks) ≡ knowns_by ts 0 (slice_set ks n new)
  change_is c ks n k new h is = change_from c ks 0 n n k new (omega arith) h is

-- ---- the seven changes

module _ (ts : List Words) (n : ℕ) where
  guarded : (st : Standing) (k new : Known) → machine.unless_settled (standing_by ts st) (known_by ts n k) (known_by ts n new) ≡ known_by ts n (unless_settled st k new)
  unfolding machine.unless_settled unless_settled
  guarded Unsettled k new = refl
  guarded (WaitsOn q) k new = refl
  guarded (Viewed q) k new = refl
  guarded (Settled v) k new = refl

  pub hold_is : (m : Message) (k : Known) → changed (Hold (message_by ts m)) (known_by ts n k) ≡ known_by ts n (with_held m k)
  unfolding changed changed_to
  hold_is m k =
      ap (λ (ms : List (machine.Message Local)). machine.unless_settled (standing_by ts k.standing) (known_by ts n k) (record (known_by ts n k) { held = ms })) (sym (map-append (message_by ts) k.held (m ∷ [])))
      ∙ guarded k.standing k (record k { held = k.held ++ m ∷ [] })

  pub wait_is : (q : ℕ) (k : Known) → changed (Wait (Prom q)) (known_by ts n k) ≡ known_by ts n (with_waiting q k)
  unfolding changed changed_to
  wait_is q k =
      ap (λ (qs : List Local). machine.unless_settled (standing_by ts k.standing) (known_by ts n k) (record (known_by ts n k) { waiting = qs })) (sym (map-append Prom k.waiting (q ∷ [])))
      ∙ guarded k.standing k (record k { waiting = k.waiting ++ q ∷ [] })

  pub wait_on_is : (q : ℕ) (k : Known) → changed (WaitOn (Prom q)) (known_by ts n k) ≡ known_by ts n (waiting_on q k)
  unfolding changed changed_to
  wait_on_is q k = guarded k.standing k (record k { standing = WaitsOn q })

  pub see_is : (q : ℕ) (k : Known) → changed (See (Prom q)) (known_by ts n k) ≡ known_by ts n (seen_as q k)
  unfolding changed changed_to
  see_is q k = guarded k.standing k (record k { standing = Viewed q })

  pub react_is : (m : Message) (k : Known) → changed (React (message_by ts m)) (known_by ts n k) ≡ known_by ts n (with_reaction m k)
  unfolding changed changed_to
  react_is m k =
      ap (λ (ms : List (machine.Message Local)). machine.unless_settled (standing_by ts k.standing) (known_by ts n k) (record (known_by ts n k) { reactions = ms })) (sym (map-append (message_by ts) k.reactions (m ∷ [])))
      ∙ guarded k.standing k (record k { reactions = k.reactions ++ m ∷ [] })

  pub tell_is : (w : ℕ) (k : Known) → changed (ToTell w) (known_by ts n k) ≡ known_by ts n (with_told w k)
  unfolding changed changed_to
  tell_is w k = guarded k.standing k (record k { told = machine.with_vat w k.told })

  pub settle_is : (v : Held) (k : Known) → changed (Settle (value_by ts v)) (known_by ts n k) ≡ known_by ts n (settled_as v k)
  unfolding changed changed_to
  settle_is v k = guarded k.standing k (record k { standing = Settled v; held = []; waiting = []; reactions = []; told = [] })

module _ (word : ℕ → ℕ) (ts : List Words) where
  unknown_from : (c : Change Local) (ks : List Known) (m i n : ℕ) → m + i ≡ n → slice_get ks i ≡ None → with_change (names word) c (Prom n) (knowns_by ts m ks) ≡ knowns_by ts m ks
  unfolding knowns_by same_local with_change
  unknown_from c [] m i n e h = refl
  unknown_from c (x ∷ ks) m zero n e h = cc
  unknown_from c (x ∷ ks) m (suc i) n e h =
      let less : m < n = omega arith in
      let more : suc m + i ≡ n = omega arith in
      there_changed word ts c (known_by ts m x) (knowns_by ts (suc m) ks) (Prom n) (unlike m n less)
      ∙ ap (λ (ys : List (machine.Known Local)). known_by ts m x ∷ ys) (unknown_from c ks (suc m) i n more h)

  -- the change of a name that is not known changes nothing
  pub unknown_same : (c : Change Local) (ks : List Known) (n : ℕ) → slice_get ks n ≡ None → with_change (names word) c (Prom n) (knowns_by ts 0 ks) ≡ knowns_by ts 0 ks
  unknown_same c ks n h = unknown_from c ks 0 n n (omega arith) h
