-- A settling ends before its depth is used up: each settling inside it is of a name that was known when it began and had not settled.
use Rattle.std.proofs.Common.{◌≡◌, ℕ, zero, suc, ◌≤◌, ◌⊎◌, inl, inr, Bool, true, List, [], ◌∷◌, ◌++◌, Option, Some, None, refl, sym, ap, subst, ◌∙◌, length, arith}
use Rattle.def_machine.specs.Values.{Value, Naming, IsAnswer, naming, numbering}
use Rattle.def_machine.specs.State.{Standing, Settled, Known, Change, Hold, Wait, Settle, Settles, Vat, Done, Stops, Act, ◌>>=◌, ◌>>◌, and_then, give, look, tell, with_change, changed, changed_to, unless_settled, alter, begun}
use Rattle.def_machine.specs.Refs as refs
use Rattle.def_machine.specs.Refs.{entry_of}
use Rattle.law_fate.specs.Name.Names.{AllOf}
use Rattle.law_fate.proofs.Name.Facts.{all_end}
use Rattle.law_never_astray.specs.Settlings.{NotAstray, IsNone, IsAwaited, IsAsked, EntryWaits, AllAwaited, SettlingsEnd}
use Rattle.law_never_astray.proofs.Counts.{open_one, open_of, open_length, either, found, length_change, length_end, found_change, none_change, found_end, none_end, entry_all, found_entry, less_settled}
use Rattle.law_never_astray.proofs.Sure as sure
use Rattle.law_never_astray.proofs.Sure.{ChangeWaits}

module _ {N W : Type 0} (K : Naming N W) (mail : N → Bool) where
  -- ---- where what waits is told by P, and the first b names are known from the start

  module _ (P : N → Type 0) (b : ℕ) where
    abbrev pub Waits : Known N → Type 0
    Waits k = EntryWaits K mail P k

    pub record Within (ks : List (Known N)) : Type 0 where
      pub long : b ≤ length ks
      pub waits : AllOf Waits ks
      pub known : (n : N) → P n → (found K b ks n ≡ true) ⊎ IsNone K mail ks n

    to_waits : (c : Change N) (k : Known N) → ChangeWaits K mail P c → Waits k → Waits (changed_to c k)
    unfolding changed_to
    to_waits (Hold m) k g h = (h.0, all_end (IsAsked K mail P) k.held m h.1 g)
    to_waits (Wait q) k g h = (all_end P k.waiting q h.0 g, h.1)
    to_waits (Settle y) k g h = (tt, tt)
    to_waits other k g h = h

    unless_waits : (t : Standing N) (k new : Known N) → Waits k → Waits new → Waits (unless_settled t k new)
    unfolding unless_settled
    unless_waits (Settled y) k new h i = h
    unless_waits other k new h i = i

    waits_change : (c : Change N) (n : N) (ks : List (Known N)) → ChangeWaits K mail P c → AllOf Waits ks → AllOf Waits (with_change K c n ks)
    unfolding with_change changed
    waits_change c n [] g h = tt
    waits_change c n (k ∷ ks) g h = either (AllOf Waits) (K.same k.name n) (changed c k ∷ ks) (k ∷ with_change K c n ks)
        (unless_waits k.standing k (changed_to c k) h.0 (to_waits c k g h.0), h.1) (h.0, waits_change c n ks g h.1)

    still_known : (ks js : List (Known N)) → ((n : N) → found K b ks n ≡ true → found K b js n ≡ true) → ((n : N) → IsNone K mail ks n → IsNone K mail js n) → (n : N) → (found K b ks n ≡ true) ⊎ IsNone K mail ks n → (found K b js n ≡ true) ⊎ IsNone K mail js n
    still_known ks js f g n (inl h) = inl (f n h)
    still_known ks js f g n (inr h) = inr (g n h)

    within_change : (c : Change N) (n : N) (ks : List (Known N)) → ChangeWaits K mail P c → Within ks → Within (with_change K c n ks)
    within_change c n ks g w = record {
      long = let e = length_change K c n ks in let l = w.long in rw e l;
      waits = waits_change c n ks g w.waits;
      known = λ m p. still_known ks (with_change K c n ks) (λ a h. found_change K c n b ks a h) (λ a h. (none_change K c n ks a h.0, h.1)) m (w.known m p);
    }

    begun_waits : (n : N) (h : ℕ) → Waits (begun n h)
    unfolding begun
    begun_waits n h = (tt, tt)

    begun_name : (n : N) (h : ℕ) → (begun n h).name ≡ n
    unfolding begun
    begun_name n h = refl

    within_answer : (h : ℕ) (m : N) (k i : ℕ) (ks : List (Known N)) → mail m ≡ true → Within ks → Within (ks ++ begun (K.made (IsAnswer h m) k) i ∷ [])
    within_answer h m k i ks g w = let new : Known N = begun (K.made (IsAnswer h m) k) i in record {
      long = let e = length_end K ks new in let l = w.long in omega arith;
      waits = all_end Waits ks new w.waits (begun_waits (K.made (IsAnswer h m) k) i);
      known = λ n p. still_known ks (ks ++ new ∷ []) (λ a f. found_end K b ks new a f) (λ a f. (none_end K ks new a (ap (λ x. K.same x a) (begun_name (K.made (IsAnswer h m) k) i) ∙ f.1 h m k g) f.0, f.1)) n (w.known n p);
    }

    long_of : (ks : List (Known N)) → Within ks → b ≤ length ks
    long_of ks w = w.long

    abbrev Kept : Vat N → Vat N → Type 0
    Kept s t = sure.Kept K mail P b Within long_of within_change within_answer s t

    abbrev EndsSure : {A : Type 0} → Vat N → Done N A → Type 0
    EndsSure s d = sure.EndsSure K mail P b Within long_of within_change within_answer s d

    abbrev SureSettler : ℕ → (N → Value N → Act N (Unit {0})) → Type 0
    SureSettler c settle = sure.SureSettler K mail P b Within long_of within_change within_answer c settle

    -- ---- settling

    ends_same : {A : Type 0} (s : Vat N) (a : A) → Within s.known → EndsSure s (give a s)
    unfolding give
    ends_same s a w = (w, omega arith)

    -- a name that has not settled: there is one less then
    known_ends : (c : ℕ) (settle : N → Value N → Act N (Unit {0})) → SureSettler c settle → (p : N) (y : Value N) (k : Known N) (s : Vat N) → Within s.known → open_of b s.known ≤ suc c → entry_of K s.known p ≡ Some k → found K b s.known p ≡ true → open_one k.standing ≡ suc zero
        → EndsSure s (refs.settle_known K settle p y k s)
    unfolding refs.settle_known ◌>>◌ and_then tell alter
    known_ends c settle good p y k s w l e f o =
        let less = less_settled K y p b s.known k e f o in
        let t : Vat N = record s { happened = s.happened ++ Settles p y ∷ []; known = with_change K (Settle y) p s.known } in
        sure.widen K mail P b Within long_of within_change within_answer s t _ (omega arith) ((sure.sure_wakes K mail P b Within long_of within_change within_answer c settle good p y k (entry_all K Waits s.known p k w.waits e)).after t (within_change (Settle y) p s.known tt w) (omega arith))

    no_entry : (ks : List (Known N)) (p : N) (k : Known N) → entry_of K ks p ≡ Some k → (found K b ks p ≡ true) ⊎ IsNone K mail ks p → found K b ks p ≡ true
    no_entry ks p k e (inl h) = h
    no_entry ks p k e (inr h) = let f = h.0 in cc

    abbrev Deeper : ℕ → Type 0
    Deeper c = (p : N) → P p → (y : Value N) (s : Vat N) → Within s.known → open_of b s.known ≤ c → EndsSure s (refs.settle_at K (suc c) p y s)

    -- a name that has not settled: with none left there is no such name
    wakes : (c : ℕ) → ((d : ℕ) → c ≡ suc d → SureSettler d (λ q z. refs.settle_at K c q z)) → (p : N) (y : Value N) (k : Known N) (s : Vat N) → Within s.known → open_of b s.known ≤ c → entry_of K s.known p ≡ Some k → found K b s.known p ≡ true → open_one k.standing ≡ suc zero
        → EndsSure s (refs.settle_known K (λ q z. refs.settle_at K c q z) p y k s)
    wakes zero good p y k s w l e f o = let less = less_settled K y p b s.known k e f o in absurd (omega arith)
    wakes (suc c) good p y k s w l e f o = known_ends c (λ q z. refs.settle_at K (suc c) q z) (good c refl) p y k s w l e f o

    standing_ends : (c : ℕ) → ((d : ℕ) → c ≡ suc d → SureSettler d (λ q z. refs.settle_at K c q z)) → (p : N) (y : Value N) (k : Known N) (t : Standing N) → k.standing ≡ t → (s : Vat N) → Within s.known → open_of b s.known ≤ c → entry_of K s.known p ≡ Some k → found K b s.known p ≡ true
        → EndsSure s (refs.settle_standing K (λ q z. refs.settle_at K c q z) p y k t s)
    unfolding refs.settle_standing open_one
    standing_ends c good p y k (Settled z) i s w l e f = ends_same s tt w
    standing_ends c good p y k other i s w l e f = wakes c good p y k s w l e f (rw i refl)

    entry_ends : (c : ℕ) → ((d : ℕ) → c ≡ suc d → SureSettler d (λ q z. refs.settle_at K c q z)) → (p : N) → P p → (y : Value N) (s : Vat N) → Within s.known → open_of b s.known ≤ c → (o : Option (Known N)) → entry_of K s.known p ≡ o
        → EndsSure s (refs.settle_entry K (λ q z. refs.settle_at K c q z) p y o s)
    unfolding refs.settle_entry
    entry_ends c good p g y s w l None e = ends_same s tt w
    entry_ends c good p g y s w l (Some k) e = standing_ends c good p y k k.standing refl s w l e (no_entry s.known p k e (w.known p g))

    settle_ends : (c : ℕ) → ((d : ℕ) → c ≡ suc d → SureSettler d (λ q z. refs.settle_at K c q z)) → Deeper c
    unfolding refs.settle_at refs.settle_one ◌>>=◌ and_then look
    settle_ends c good p g x s w l = entry_ends c good p g (refs.target_of K s p x) s w l (entry_of K s.known p) refl

    deeper_sure : (d c : ℕ) → c ≡ suc d → Deeper d → SureSettler d (λ q z. refs.settle_at K c q z)
    deeper_sure d c e h p g y = record { after = λ s w l. rw e (h p g y s w l) }

    less_suc : (c d : ℕ) → suc c ≡ suc d → d ≡ c
    less_suc c d e = omega arith

    -- at a depth of one more than have not settled
    settles_at : (c : ℕ) → Deeper c
    settles_at zero = settle_ends zero (λ d e. absurd (omega arith))
    settles_at (suc c) = settle_ends (suc c) (λ d e. deeper_sure d (suc c) e (subst Deeper (sym (less_suc c d e)) (settles_at c)))

  -- ---- the whole of it

  entry_known : (ks : List (Known N)) (n : N) → IsAwaited K mail ks n → (found K (length ks) ks n ≡ true) ⊎ IsNone K mail ks n
  entry_known ks n (inl h) = inl (found_entry K ks n h.0 h.1)
  entry_known ks n (inr h) = inr h

  -- what waits in a state is known there
  all_within : (ks : List (Known N)) → AllAwaited K mail ks → Within (IsAwaited K mail ks) (length ks) ks
  all_within ks h = record { long = omega arith; waits = h; known = entry_known ks }

  sure_ends : {A : Type 0} (P : N → Type 0) (b : ℕ) (s : Vat N) (d : Done N A) → EndsSure P b s d → NotAstray d
  sure_ends P b s (Stops c t) h = h
  sure_ends P b s other h = tt

  unknown_ends : (settle : N → Value N → Act N (Unit {0})) (p : N) (y : Value N) (s : Vat N) (o : Option (Known N)) → o ≡ None → NotAstray (refs.settle_entry K settle p y o s)
  unfolding refs.settle_entry give
  unknown_ends settle p y s None e = tt
  unknown_ends settle p y s (Some k) e = cc

  pub settle_sure : (p : N) (y : Value N) (s : Vat N) → AllAwaited K mail s.known → NotAstray (refs.settle K p y s)
  unfolding refs.settle refs.settle_at refs.settle_one ◌>>=◌ and_then look
  settle_sure p y s h = go (entry_of K s.known p) refl
    where
      go : (o : Option (Known N)) → entry_of K s.known p ≡ o → NotAstray (refs.settle K p y s)
      go None e = unknown_ends (λ q z. refs.settle_at K (suc (length s.known)) q z) p (refs.target_of K s p y) s (entry_of K s.known p) e
      go (Some k) e = sure_ends (IsAwaited K mail s.known) (length s.known) s (refs.settle K p y s)
          (settles_at (IsAwaited K mail s.known) (length s.known) (suc (length s.known)) p (inl (k, e)) y s (all_within s.known h) (let l = open_length (length s.known) s.known in omega arith))

pub settlings_end : SettlingsEnd
settlings_end = (λ word v mail. settle_sure (naming word v) mail, λ word mail. settle_sure (numbering word) mail)
