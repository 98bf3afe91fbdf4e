-- The laws of broken references, from what settlings and notices keep.
use Rattle.std.proofs.Common.{◌≡◌, ℕ, zero, suc, ◌≤◌, Bool, true, false, List, [], ◌∷◌, ◌++◌, Option, Some, None, refl, sym, ap, ◌⊎◌, inl, inr, arith, length}
use Rattle.std.specs.Prelude.{codes, ◌==◌, if◌then◌else◌}
use Rattle.std.proofs.lemmas.Bool.{eq-eqb}
use Rattle.def_machine.specs.Values.{Words, Value, Broken, Ref, Local, Prom, Far, Naming, Spot, Own, Foreign, NoObject, numbering, local_spot, same_local}
use Rattle.def_machine.specs.State.{Known, Standing, Viewed, Settled, Change, Vat, Done, Gives, Act, ◌>>=◌, ◌>>◌, and_then, each, give, look, mark, begun, is_in, with_change, changed}
use Rattle.def_machine.specs.Refs.{Near, Mine, Away, entry_of, standing_of, standing_in, host_at, follow, follow_at, led, severed, severed_at, severed_by, spotted, hosted, place}
use Rattle.def_machine.specs.Arrive as arrive
use Rattle.def_machine.specs.Arrive.{notice, notice_all}
use Rattle.law_machine.specs.Machine.Steps.{Step, does, After}
use Rattle.law_machine.specs.Machine.Laws.{SettledStays, NoticedStays}
use Rattle.law_machine.specs.Machine.Breaks.{settled_on, settled_at, settled_value, SettledBreakStays, FarApart, SeveredObjectStays, IsPending, AtRest, FollowedBreakStays, NothingOf, SeveredStays}
use Rattle.law_machine.proofs.Machine.Keeps.{Keeps, IsKept, IsKeptUnder, keeps}
use Rattle.law_machine.proofs.Machine.ArriveKeeps.{keeps_notice_name, keeps_notice_gift}
use Rattle.law_machine.proofs.Machine.StepLaws.{kept_by_steps, after_map, settled_entry, standing_found, settled_stays, noticed_stays, noticed_law, noticed_names, changed_head}

-- ---- the names known grow

abbrev pub KnowsMore : {N : Type 0} → Vat N → Vat N → Type 0
KnowsMore s t = length s.known ≤ length t.known

length_picked : {A : Type 0} (b : Bool) (x y : A) (xs ys : List A) → length xs ≤ length ys → length (x ∷ xs) ≤ length {A = A} (elim b [ true ↦ y ∷ xs | false ↦ x ∷ ys ])
length_picked true x y xs ys h = omega arith
length_picked false x y xs ys h = omega arith

length_changed : {N W : Type 0} (K : Naming N W) (c : Change N) (n : N) (ks : List (Known N)) → length ks ≤ length (with_change K c n ks)
unfolding with_change
length_changed K c n [] = omega arith
length_changed K c n (k ∷ ks) = length_picked (K.same k.name n) k (changed c k) ks (with_change K c n ks) (length_changed K c n ks)

length_more : {A : Type 0} (xs ys : List A) → length xs ≤ length (xs ++ ys)
length_more [] ys = omega arith
length_more (x ∷ xs) ys = let h = length_more xs ys in omega arith

more_law : {N : Type 0} → IsKept {N = N} KnowsMore
more_law = record {
  same = λ s. omega arith;
  trans = λ h k. omega arith;
  fuel = λ s n. omega arith;
  happened = λ s e. omega arith;
  activations = λ s. omega arith;
  thing = λ s x. omega arith;
  killed = λ s n. omega arith;
  slot = λ s c. omega arith;
  written = λ s n v. omega arith;
  list = λ s vs. omega arith;
  queue = λ s m. omega arith;
  outbox = λ s n. omega arith;
  gift = λ s g. omega arith;
  opened = λ s p i. omega arith;
  noticed = λ s w. omega arith;
  drawn = λ s w. omega arith;
}

more_names : {N W : Type 0} (K : Naming N W) → IsKeptUnder K KnowsMore
more_names K = record {
  altered = λ s c n. length_changed K c n s.known;
  came = λ s c h. length_more s.known _;
  mailed = λ s c. omega arith;
  lone = λ s id. omega arith;
  promised = λ s. length_more s.known _;
  messaged = λ s h id. length_more s.known _;
}

pub more_stays : {N W : Type 0} (K : Naming N W) (step : Step N W) (s : Vat N) → After KnowsMore s (does K step s)
more_stays K = kept_by_steps K KnowsMore more_law (more_names K)

-- ---- what broken references hang on

-- what settled, what was noticed and what was known is so still
abbrev pub Firm : {N W : Type 0} → Naming N W → Vat N → Vat N → Type 0
Firm K s t = SettledStays K s t × NoticedStays s t × KnowsMore s t

after_firm : {N W A : Type 0} (K : Naming N W) (s : Vat N) (d : Done N A) → After (SettledStays K) s d → After NoticedStays s d → After KnowsMore s d → After (Firm K) s d
after_firm K s (Gives a t) h i j = (h, i, j)
after_firm K s other h i j = (h, i, j)

pub firm_stays : {N W : Type 0} (K : Naming N W) (step : Step N W) (s : Vat N) → After (Firm K) s (does K step s)
firm_stays K step s = after_firm K s (does K step s) (settled_stays K step s) (noticed_stays K step s) (more_stays K step s)

-- ---- along settlings

module _ {N W : Type 0} (K : Naming N W) where
  -- what settled in ks has settled in ls
  abbrev SameSettled : List (Known N) → List (Known N) → Type 0
  SameSettled ks ls = (n : N) (y : Value N) → standing_of K ks n ≡ Settled y → standing_of K ls n ≡ Settled y

  same_settled : (s t : Vat N) → SettledStays K s t → SameSettled s.known t.known
  unfolding standing_of
  same_settled s t h n y e = let found = settled_entry (entry_of K s.known n) y e in standing_found K t.known n found.0 y (h n found.0 y found.1 found.2) found.2

  broken_settled : (d : ℕ) (ks : List (Known N)) (p : Words) → settled_at K d ks (Broken p) ≡ Broken p
  unfolding settled_at
  broken_settled zero ks p = refl
  broken_settled (suc d) ks p = refl

  broken_followed : (d : ℕ) (ks : List (Known N)) (p : Words) → follow_at K d ks (Broken p) ≡ Broken p
  unfolding follow_at
  broken_followed zero ks p = refl
  broken_followed (suc d) ks p = refl

  on_settled : (f g : Value N → Value N) (n : N) (t u : Standing N) (z : Value N) → settled_on f n t ≡ z → (Ref n ≡ z → settled_on g n u ≡ z) → ((y : Value N) → t ≡ Settled y → u ≡ Settled y) → ((y : Value N) → f y ≡ z → g y ≡ z) → settled_on g n u ≡ z
  unfolding settled_on
  on_settled f g n (Settled y) u z h stop stays up = rw (stays y refl) (up y h)
  on_settled f g n other u z h stop stays up = stop h

  on_led : (f g : Value N → Value N) (n : N) (t u : Standing N) (z : Value N) → settled_on f n t ≡ z → (Ref n ≡ z → led K g n u ≡ z) → ((y : Value N) → t ≡ Settled y → u ≡ Settled y) → ((y : Value N) → f y ≡ z → g y ≡ z) → led K g n u ≡ z
  unfolding settled_on led
  on_led f g n (Settled y) u z h stop stays up = rw (stays y refl) (up y h)
  on_led f g n other u z h stop stays up = stop h

  settled_up : (ks ls : List (Known N)) → SameSettled ks ls → (d e : ℕ) → d ≤ e → (x : Value N) (p : Words) → settled_at K d ks x ≡ Broken p → settled_at K e ls x ≡ Broken p
  unfolding settled_at
  settled_up ks ls same zero e le x p h = let i : x ≡ Broken p = h in rw i (broken_settled e ls p)
  settled_up ks ls same (suc d) zero le x p h = absurd (omega arith)
  settled_up ks ls same (suc d) (suc e) le (Ref n) p h = on_settled (λ y. settled_at K d ks y) (λ y. settled_at K e ls y) n (standing_of K ks n) (standing_of K ls n) (Broken p) h (λ i. cc) (same n) (λ y i. settled_up ks ls same d e (omega arith) y p i)
  settled_up ks ls same (suc d) (suc e) le x p h = h

  followed_up : (ks ls : List (Known N)) → SameSettled ks ls → (d e : ℕ) → d ≤ e → (x : Value N) (p : Words) → settled_at K d ks x ≡ Broken p → follow_at K e ls x ≡ Broken p
  unfolding settled_at follow_at
  followed_up ks ls same zero e le x p h = let i : x ≡ Broken p = h in rw i (broken_followed e ls p)
  followed_up ks ls same (suc d) zero le x p h = absurd (omega arith)
  followed_up ks ls same (suc d) (suc e) le (Ref n) p h = on_led (λ y. settled_at K d ks y) (λ y. follow_at K e ls y) n (standing_of K ks n) (standing_of K ls n) (Broken p) h (λ i. cc) (same n) (λ y i. followed_up ks ls same d e (omega arith) y p i)
  followed_up ks ls same (suc d) (suc e) le x p h = h

  follow_from : (t : Vat N) (x : Value N) (p : Words) → follow_at K (suc (length t.known)) t.known x ≡ Broken p → follow K t x ≡ Broken p
  unfolding follow severed
  follow_from t x p e = rw e refl

  pub settled_break : (s t : Vat N) → Firm K s t → SettledBreakStays K s t
  unfolding settled_value
  settled_break s t h x p e = let same = same_settled s t h.0 in let le : suc (length s.known) ≤ suc (length t.known) = let more = h.2 in omega arith in
      (settled_up s.known t.known same (suc (length s.known)) (suc (length t.known)) le x p e, follow_from t x p (followed_up s.known t.known same (suc (length s.known)) (suc (length t.known)) le x p e))

  -- ---- objects of vats that were noticed

  unknown_led : (g : Value N → Value N) (ls : List (Known N)) (m : N) → entry_of K ls m ≡ None → led K g m (standing_of K ls m) ≡ Ref m
  unfolding standing_of standing_in led
  unknown_led g ls m e = rw e refl

  unknown_stays : (e : ℕ) (ls : List (Known N)) (m : N) → entry_of K ls m ≡ None → follow_at K e ls (Ref m) ≡ Ref m
  unfolding follow_at
  unknown_stays zero ls m h = refl
  unknown_stays (suc e) ls m h = unknown_led (λ y. follow_at K e ls y) ls m h

  unknown_stop : (g : Value N → Value N) (ls : List (Known N)) (n m : N) → entry_of K ls m ≡ None → ◌≡◌ {A = Value N} (Ref n) (Ref m) → led K g n (standing_of K ls n) ≡ Ref m
  unknown_stop g ls n m h i = let j : n ≡ m = cc in rw j (unknown_led g ls m h)

  object_up : (ks ls : List (Known N)) → SameSettled ks ls → (m : N) → entry_of K ls m ≡ None → (d e : ℕ) → d ≤ e → (x : Value N) → settled_at K d ks x ≡ Ref m → follow_at K e ls x ≡ Ref m
  unfolding settled_at follow_at
  object_up ks ls same m far zero e le x h = let i : x ≡ Ref m = h in rw i (unknown_stays e ls m far)
  object_up ks ls same m far (suc d) zero le x h = absurd (omega arith)
  object_up ks ls same m far (suc d) (suc e) le (Ref n) h = on_led (λ y. settled_at K d ks y) (λ y. follow_at K e ls y) n (standing_of K ks n) (standing_of K ls n) (Ref m) h (unknown_stop (λ y. follow_at K e ls y) ls n m far) (same n) (λ y i. object_up ks ls same m far d e (omega arith) y i)
  object_up ks ls same m far (suc d) (suc e) le x h = h

  gone_by : (m : N) (b : Bool) → b ≡ true → ◌≡◌ {A = Value N} (elim b [ true ↦ Broken (codes "partition") | false ↦ Ref m ]) (Broken (codes "partition"))
  gone_by m b e = rw e refl

  severed_gone : (t : Vat N) (m : N) (h : ℕ) → is_in h t.noticed ≡ true → severed_by K h t m ≡ Broken (codes "partition")
  unfolding severed_by
  severed_gone t m h i = gone_by m (is_in h t.noticed) i

  severed_foreign : (t : Vat N) (m : N) (h : ℕ) → is_in h t.noticed ≡ true → severed_at K t m (Foreign h) ≡ Broken (codes "partition")
  unfolding severed_at
  severed_foreign t m h i = severed_gone t m h i

  severed_object : (t : Vat N) (m : N) (h : ℕ) → K.spot m ≡ Foreign h → is_in h t.noticed ≡ true → severed K t (Ref m) ≡ Broken (codes "partition")
  unfolding severed
  severed_object t m h e i = rw e (severed_foreign t m h i)

  severed_from : (t : Vat N) (x : Value N) (m : N) (h : ℕ) → follow_at K (suc (length t.known)) t.known x ≡ Ref m → K.spot m ≡ Foreign h → is_in h t.noticed ≡ true → follow K t x ≡ Broken (codes "partition")
  unfolding follow
  severed_from t x m h e i j = rw e (severed_object t m h i j)

  pub object_break : (s t : Vat N) → Firm K s t → SeveredObjectStays K s t
  unfolding settled_value
  object_break s t f apart x m h e i j = let le : suc (length s.known) ≤ suc (length t.known) = let more = f.2 in omega arith in
      severed_from t x m h (object_up s.known t.known (same_settled s t f.0) m (apart m h i) (suc (length s.known)) (suc (length t.known)) le x e) i (f.1 h j)

  -- ---- a vat at rest

  abbrev IsKnown : List (Known N) → N → Type 0
  IsKnown ks n = (k : Known N) × (entry_of K ks n ≡ Some k)

  -- every view is of a name that did not settle
  abbrev ViewsPend : List (Known N) → Type 0
  ViewsPend ks = (n g : N) → standing_of K ks n ≡ Viewed g → IsPending K ks g

  -- it is followed to a name that is known
  abbrev ToKnown : List (Known N) → Value N → Type 0
  ToKnown ks x = (m : N) × (x ≡ Ref m) × IsKnown ks m

  pending_led : (f : Value N → Value N) (ks : List (Known N)) (g : N) (t : Standing N) → IsKnown ks g → ((y : Value N) → t ≡ Settled y → ⊥) → ((q : N) → t ≡ Viewed q → ToKnown ks (f (Ref q))) → ToKnown ks (led K f g t)
  unfolding led
  pending_led f ks g (Settled y) k never on = absurd (never y refl)
  pending_led f ks g (Viewed q) k never on = on q refl
  pending_led f ks g other k never on = (g, refl, k)

  pending_along : (ks : List (Known N)) → ViewsPend ks → (d : ℕ) (g : N) → IsPending K ks g → ToKnown ks (follow_at K d ks (Ref g))
  unfolding follow_at
  pending_along ks views zero g p = (g, refl, p.0)
  pending_along ks views (suc d) g p = pending_led (λ y. follow_at K d ks y) ks g (standing_of K ks g) p.0 p.1 (λ q e. pending_along ks views d q (views g q e))

  either_led : (f h : Value N → Value N) (ks : List (Known N)) (n : N) (t : Standing N) → ((y : Value N) → (f y ≡ h y) ⊎ ToKnown ks (h y)) → ((q : N) → t ≡ Viewed q → ToKnown ks (h (Ref q))) → (settled_on f n t ≡ led K h n t) ⊎ ToKnown ks (led K h n t)
  unfolding settled_on led
  either_led f h ks n (Settled y) both on = both y
  either_led f h ks n (Viewed q) both on = inr (on q refl)
  either_led f h ks n other both on = inl refl

  -- settlings alone lead as far as following does, or it ends at a name that is known
  either_along : (ks : List (Known N)) → ViewsPend ks → (d : ℕ) (x : Value N) → (settled_at K d ks x ≡ follow_at K d ks x) ⊎ ToKnown ks (follow_at K d ks x)
  unfolding settled_at follow_at
  either_along ks views zero x = inl refl
  either_along ks views (suc d) (Ref n) = either_led (λ y. settled_at K d ks y) (λ y. follow_at K d ks y) ks n (standing_of K ks n) (λ y. either_along ks views d y) (λ q e. pending_along ks views d q (views n q e))
  either_along ks views (suc d) x = inl refl

  -- r is broken with that problem, or the object of a vat that was noticed, and the problem is partition
  abbrev BrokenEnd : Vat N → Value N → Words → Type 0
  BrokenEnd s r p = (r ≡ Broken p) ⊎ ((m : N) × (h : ℕ) × (r ≡ Ref m) × (K.spot m ≡ Foreign h) × (is_in h s.noticed ≡ true) × (p ≡ codes "partition"))

  by_host : (s : Vat N) (m : N) (h : ℕ) (b : Bool) (p : Words) → is_in h s.noticed ≡ b → ◌≡◌ {A = Value N} (elim b [ true ↦ Broken (codes "partition") | false ↦ Ref m ]) (Broken p) → (is_in h s.noticed ≡ true) × (p ≡ codes "partition")
  by_host s m h true p i e = (i, cc)
  by_host s m h false p i e = cc

  by_spot : (s : Vat N) (m : N) (t : Spot) (p : Words) → K.spot m ≡ t → is_in (host_at K s.number s.known m) s.noticed ≡ false → severed_at K s m t ≡ Broken p → BrokenEnd s (Ref m) p
  unfolding severed_at severed_by
  by_spot s m (Own i) p k near e = cc
  by_spot s m (Foreign h) p k near e = let gone = by_host s m h (is_in h s.noticed) p refl e in inr (m, h, refl, k, gone.0, gone.1)
  by_spot s m NoObject p k near e = let gone = by_host s m (host_at K s.number s.known m) (is_in (host_at K s.number s.known m) s.noticed) p refl e in cc

  by_end : (s : Vat N) (r : Value N) (p : Words) → ((m : N) → r ≡ Ref m → is_in (host_at K s.number s.known m) s.noticed ≡ false) → severed K s r ≡ Broken p → BrokenEnd s r p
  unfolding severed
  by_end s (Ref m) p near e = by_spot s m (K.spot m) p refl (near m refl) e
  by_end s x p near e = inl e

  not_known : (s : Vat N) → FarApart K s → (r : Value N) (p : Words) → BrokenEnd s r p → ToKnown s.known r → ⊥
  not_known s apart r p (inl e) k = let i = k.1 in cc
  not_known s apart r p (inr f) k = let i = f.2 in let j = k.1 in let same : f.0 ≡ k.0 = cc in let none = apart f.0 f.1 f.3 in let some : entry_of K s.known f.0 ≡ Some k.2.0 = rw same k.2.1 in cc

  end_settled : (s : Vat N) → FarApart K s → (a r : Value N) (p : Words) → (a ≡ r) ⊎ ToKnown s.known r → BrokenEnd s r p → BrokenEnd s a p
  end_settled s apart a r p (inl e) end = rw e end
  end_settled s apart a r p (inr k) end = absurd (not_known s apart r p end k)

  -- what a vat at rest follows to a broken reference, settlings alone lead to it or to an object of a vat that was noticed
  rest_end : (s : Vat N) → AtRest K s → (x : Value N) (p : Words) → follow K s x ≡ Broken p → BrokenEnd s (settled_value K s x) p
  unfolding follow settled_value
  rest_end s rest x p e = end_settled s rest.apart (settled_at K (suc (length s.known)) s.known x) (follow_at K (suc (length s.known)) s.known x) p
      (either_along s.known rest.views (suc (length s.known)) x)
      (by_end s (follow_at K (suc (length s.known)) s.known x) p (λ m i. rest.hosts m (rest.ends x m i)) e)

  followed_end : (s t : Vat N) → Firm K s t → FarApart K t → (x : Value N) (p : Words) → BrokenEnd s (settled_value K s x) p → follow K t x ≡ Broken p
  followed_end s t f apart x p (inl e) = (settled_break s t f x p e).1
  followed_end s t f apart x p (inr e) = rw e.5 (object_break s t f apart x e.0 e.1 e.2 e.3 e.4)

  pub followed_break : (s t : Vat N) → Firm K s t → FollowedBreakStays K s t
  followed_break s t f rest apart x p e = followed_end s t f apart x p (rest_end s rest x p e)

  -- ---- nothing that is followed has a host that was noticed

  place_host : (v h w : ℕ) (n m : N) (b object : Bool) → elim b [ true ↦ Mine n | false ↦ Away h n false ] ≡ Away w m object → h ≡ w
  place_host v h w n m true object e = cc
  place_host v h w n m false object e = cc

  host_apart : (s : Vat N) (n : N) (h w : ℕ) (b : Bool) (m : N) (object : Bool) → K.spot n ≡ NoObject → host_at K s.number s.known n ≡ h → is_in h s.noticed ≡ b → is_in w s.noticed ≡ true
      → place K s (elim b [ true ↦ Broken (codes "partition") | false ↦ Ref n ]) ≡ Away w m object → ⊥
  unfolding place spotted hosted
  host_apart s n h w true m object i j k gone e = cc
  host_apart s n h w false m object i j k gone e = let there : hosted K s.number n h ≡ Away w m object = rw (sym j) (rw i at e) in let same = place_host s.number h w n m (s.number == h) object there in let near : is_in w s.noticed ≡ false = rw (sym same) k in cc

  far_apart : (s : Vat N) (n : N) (h w : ℕ) (b : Bool) (m : N) (object : Bool) → K.spot n ≡ Foreign h → is_in h s.noticed ≡ b → is_in w s.noticed ≡ true
      → place K s (elim b [ true ↦ Broken (codes "partition") | false ↦ Ref n ]) ≡ Away w m object → ⊥
  unfolding place spotted
  far_apart s n h w true m object i k gone e = cc
  far_apart s n h w false m object i k gone e = let there : Away h n true ≡ Away w m object = rw i at e in let same : h ≡ w = cc in let near : is_in w s.noticed ≡ false = rw (sym same) k in cc

  own_apart : (s : Vat N) (n : N) (i w : ℕ) (m : N) (object : Bool) → K.spot n ≡ Own i → place K s (Ref n) ≡ Away w m object → ⊥
  unfolding place spotted
  own_apart s n i w m object k e = let there : Near ≡ Away w m object = rw k at e in cc

  spot_apart : (s : Vat N) (n : N) (t : Spot) (w : ℕ) (m : N) (object : Bool) → K.spot n ≡ t → is_in w s.noticed ≡ true → place K s (severed_at K s n t) ≡ Away w m object → ⊥
  unfolding severed_at severed_by
  spot_apart s n (Own i) w m object k gone e = own_apart s n i w m object k e
  spot_apart s n (Foreign h) w m object k gone e = far_apart s n h w (is_in h s.noticed) m object k refl gone e
  spot_apart s n NoObject w m object k gone e = host_apart s n (host_at K s.number s.known n) w (is_in (host_at K s.number s.known n) s.noticed) m object k refl refl gone e

  severed_apart : (s : Vat N) (r : Value N) (w : ℕ) (m : N) (object : Bool) → is_in w s.noticed ≡ true → place K s (severed K s r) ≡ Away w m object → ⊥
  unfolding severed place
  severed_apart s (Ref n) w m object gone e = spot_apart s n (K.spot n) w m object refl gone e
  severed_apart s x w m object gone e = cc

  pub nothing_of : (s : Vat N) (w : ℕ) → is_in w s.noticed ≡ true → NothingOf K w s
  unfolding follow
  nothing_of s w gone x n object e = severed_apart s (follow_at K (suc (length s.known)) s.known x) w n object gone e

  pub severed_stays : (s t : Vat N) → Firm K s t → SeveredStays K s t
  severed_stays s t f w gone = nothing_of t w (f.1 w gone)

-- ---- the notice

same_number : (w : ℕ) → (w == w) ≡ true
same_number w = eq-eqb w w refl

in_last : (b c : Bool) → b ≡ true → elim b [ true ↦ true | false ↦ c ] ≡ true
in_last b c e = rw e refl

in_either : (b : Bool) (w : ℕ) (xs : List ℕ) → is_in w (xs ++ w ∷ []) ≡ true → elim b [ true ↦ true | false ↦ is_in w (xs ++ w ∷ []) ] ≡ true
in_either true w xs e = refl
in_either false w xs e = e

is_last : (w : ℕ) (xs : List ℕ) → is_in w (xs ++ w ∷ []) ≡ true
unfolding is_in
is_last w [] = in_last (w == w) (is_in w []) (same_number w)
is_last w (x ∷ xs) = in_either (w == x) w xs (is_last w xs)

-- whatever comes after, that cut was noticed
was_noticed : {N A : Type 0} (w : ℕ) (s : Vat N) (d : Done N A) → is_in w s.noticed ≡ true → After NoticedStays s d → After (λ r t. is_in w t.noticed ≡ true) s d
was_noticed w s d gone h = after_map NoticedStays (λ r t. is_in w t.noticed ≡ true) s d (λ t f. f w gone) h

module _ {N W : Type 0} (K : Naming N W) where
  -- what follows the mark in a notice
  breakings : ℕ → Act N (Unit {0})
  breakings w = look (λ s. s.known) >>= (λ names. each (arrive.notice_name K w) names >> (look (λ s. s.gifts) >>= (λ gifts. each (arrive.notice_gift K w) gifts)))

  keeps_breakings : (w : ℕ) → Keeps NoticedStays (breakings w)
  unfolding breakings
  keeps_breakings w = let base : IsKept {N = N} NoticedStays = noticed_law in let law : IsKeptUnder K NoticedStays = noticed_names K in search (keeps, keeps_notice_name, keeps_notice_gift) depth 14

  marks : (w : ℕ) (s : Vat N) → After (λ r t. is_in w t.noticed ≡ true) s (arrive.notice_all K w s)
  unfolding arrive.notice_all breakings ◌>>◌ mark and_then
  marks w s = let t : Vat N = record s { noticed = s.noticed ++ w ∷ [] } in was_noticed w t (breakings w t) (is_last w s.noticed) ((keeps_breakings w).after t)

  marks_once : (w : ℕ) (s : Vat N) (b : Bool) → is_in w s.noticed ≡ b → After (λ r t. is_in w t.noticed ≡ true) s ((if b then give tt else arrive.notice_all K w) s)
  unfolding give
  marks_once w s true e = e
  marks_once w s false e = marks w s

  notice_marks : (w : ℕ) (s : Vat N) → After (λ r t. is_in w t.noticed ≡ true) s (notice K w s)
  unfolding arrive.notice ◌>>=◌ look and_then
  notice_marks w s = marks_once w s (is_in w s.noticed) refl

  pub notice_severs : (w : ℕ) (s : Vat N) → After (λ r t. NothingOf K w t) s (notice K w s)
  notice_severs w s = after_map (λ r t. is_in w t.noticed ≡ true) (λ r t. NothingOf K w t) s (notice K w s) (λ t h. nothing_of K t w h) (notice_marks w s)

pub settled_break_stays : {N W : Type 0} (K : Naming N W) (step : Step N W) (s : Vat N) → After (SettledBreakStays K) s (does K step s)
settled_break_stays K step s = after_map (Firm K) (SettledBreakStays K) s (does K step s) (λ t h. settled_break K s t h) (firm_stays K step s)

pub object_break_stays : {N W : Type 0} (K : Naming N W) (step : Step N W) (s : Vat N) → After (SeveredObjectStays K) s (does K step s)
object_break_stays K step s = after_map (Firm K) (SeveredObjectStays K) s (does K step s) (λ t h. object_break K s t h) (firm_stays K step s)

pub followed_break_stays : {N W : Type 0} (K : Naming N W) (step : Step N W) (s : Vat N) → After (FollowedBreakStays K) s (does K step s)
followed_break_stays K step s = after_map (Firm K) (FollowedBreakStays K) s (does K step s) (λ t h. followed_break K s t h) (firm_stays K step s)

pub severing_stays : {N W : Type 0} (K : Naming N W) (step : Step N W) (s : Vat N) → After (SeveredStays K) s (does K step s)
severing_stays K step s = after_map (Firm K) (SeveredStays K) s (does K step s) (λ t h. severed_stays K s t h) (firm_stays K step s)

-- ---- objects stay apart under local numbers

none_head : {A : Type 0} (a b : Bool) (x z : A) (o p : Option A) → a ≡ b → ◌≡◌ {A = Option A} (elim b [ true ↦ Some x | false ↦ o ]) None → (o ≡ None → p ≡ None) → ◌≡◌ {A = Option A} (elim a [ true ↦ Some z | false ↦ p ]) None
none_head a true x z o p q e h = cc
none_head a false x z o p q e h = rw q (h e)

none_last : {A : Type 0} (b : Bool) (x : A) → b ≡ false → ◌≡◌ {A = Option A} (elim b [ true ↦ Some x | false ↦ None ]) None
none_last b x e = rw e refl

module _ {N W : Type 0} (K : Naming N W) where
  none_cons : (b : Bool) (c : Change N) (m : N) (k0 : Known N) (ks rest : List (Known N)) → entry_of K (k0 ∷ ks) m ≡ None → (entry_of K ks m ≡ None → entry_of K rest m ≡ None)
      → entry_of K (elim b [ true ↦ changed c k0 ∷ ks | false ↦ k0 ∷ rest ]) m ≡ None
  unfolding entry_of
  none_cons true c m k0 ks rest e r = none_head (K.same (changed c k0).name m) (K.same k0.name m) k0 (changed c k0) (entry_of K ks m) (entry_of K ks m) (ap (λ x. K.same x m) (changed_head c k0).0) e (λ h. h)
  none_cons false c m k0 ks rest e r = none_head (K.same k0.name m) (K.same k0.name m) k0 k0 (entry_of K ks m) (entry_of K rest m) refl e r

  none_changed : (c : Change N) (n m : N) (ks : List (Known N)) → entry_of K ks m ≡ None → entry_of K (with_change K c n ks) m ≡ None
  unfolding with_change
  none_changed c n m [] e = e
  none_changed c n m (k0 ∷ ks) e = none_cons (K.same k0.name n) c m k0 ks (with_change K c n ks) e (λ h. none_changed c n m ks h)

  none_added : (m : N) (ks : List (Known N)) (l : Known N) → entry_of K ks m ≡ None → K.same l.name m ≡ false → entry_of K (ks ++ l ∷ []) m ≡ None
  unfolding entry_of
  none_added m [] l e apart = none_last (K.same l.name m) l apart
  none_added m (k0 ∷ ks) l e apart = none_head (K.same k0.name m) (K.same k0.name m) k0 k0 (entry_of K ks m) (entry_of K (ks ++ l ∷ []) m) refl e (λ h. none_added m ks l h apart)

far_prom : (k : ℕ) (m : Local) (h : ℕ) → local_spot m ≡ Foreign h → same_local (Prom k) m ≡ false
unfolding local_spot same_local
far_prom k (Far g i) h e = refl
far_prom k other h e = cc

-- apart before, apart after
abbrev KeepsApart : {N W : Type 0} → Naming N W → Vat N → Vat N → Type 0
KeepsApart K s t = FarApart K s → FarApart K t

apart_law : {N W : Type 0} (K : Naming N W) → IsKept {N = N} (KeepsApart K)
apart_law K = record {
  same = λ s a. a;
  trans = λ h k a. k (h a);
  fuel = λ s n a. a;
  happened = λ s e a. a;
  activations = λ s a. a;
  thing = λ s x a. a;
  killed = λ s n a. a;
  slot = λ s c a. a;
  written = λ s n v a. a;
  list = λ s vs a. a;
  queue = λ s m a. a;
  outbox = λ s n a. a;
  gift = λ s g a. a;
  opened = λ s p i a. a;
  noticed = λ s w a. a;
  drawn = λ s w a. a;
}

begun_apart : (W : Type 0) (word : ℕ → ℕ) (s : Vat Local) (k h : ℕ) → FarApart {W = W} (numbering word) s → (m : Local) (g : ℕ) → local_spot m ≡ Foreign g → entry_of {W = W} (numbering word) (s.known ++ begun (Prom k) h ∷ []) m ≡ None
unfolding numbering begun
begun_apart W word s k h a m g e = none_added {W = W} (numbering word) m s.known (begun (Prom k) h) (a m g e) (far_prom k m g e)

apart_names : (W : Type 0) (word : ℕ → ℕ) → IsKeptUnder {W = W} (numbering word) (KeepsApart {W = W} (numbering word))
unfolding numbering
apart_names W word = record {
  altered = λ s c n a m h e. none_changed {W = W} (numbering word) c n m s.known (a m h e);
  came = λ s c h a m g e. begun_apart W word s (length s.known) h a m g e;
  mailed = λ s c a. a;
  lone = λ s id a. a;
  promised = λ s a m g e. begun_apart W word s (length s.known) s.number a m g e;
  messaged = λ s h id a m g e. begun_apart W word s (length s.known) h a m g e;
}

pub apart_stays : {W : Type 0} (word : ℕ → ℕ) (step : Step Local W) (s : Vat Local) → FarApart {W = W} (numbering word) s → After (λ r t. FarApart {W = W} (numbering word) t) s (does (numbering word) step s)
apart_stays {W = W} word step s a = after_map (KeepsApart {W = W} (numbering word)) (λ r t. FarApart {W = W} (numbering word) t) s (does (numbering word) step s) (λ t h. h a) (kept_by_steps (numbering word) (KeepsApart {W = W} (numbering word)) (apart_law (numbering word)) (apart_names W word) step s)
