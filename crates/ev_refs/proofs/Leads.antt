-- A search over the lists that are met finds whether members lead back to a name.
use Rattle.std.proofs.Common.{◌≡◌, ℕ, zero, suc, ◌+◌, ◌*◌, ◌<◌, ◌≤◌, Bool, true, false, List, [], ◌∷◌, Option, Some, None, length, refl, sym, ap, ◌∙◌, subst, arith}
use Rattle.std.specs.Prelude.{◌==◌, ◌||◌, slice_get, slice_set, replicate}
use Rattle.std.specs.List.{list_any}
use Rattle.std.proofs.lemmas.Bool.{eqb-true}
use Rattle.std.proofs.lemmas.Cmp.{nat_eq_equiv}
use Rattle.std.proofs.lemmas.List.{length-replicate}
use Rattle.ev_base.specs.declared.values.Value.{Value}
use Rattle.ev_base.specs.declared.values.Value.TheVariants as held
use Rattle.def_machine.specs.State.{is_in}
use Rattle.ev_refs.specs.Follow.{followed, led, severed}
use Rattle.ev_refs.specs.Leading.{Searching, is_name, list_of, lists_of, members_at, members_of, leads_back, is_unmet, meet, meet_if, meet_all}
use Rattle.ev_refs.specs.References.{References}

both_ways : (b : Bool) → b ≡ true → b ≡ false → ⊥
both_ways true e h = cc
both_ways false e h = cc

or_false : (a b : Bool) → a ≡ false → b ≡ false → (a || b) ≡ false
or_false a b e h = rw (e, h) refl

or_left : (a b : Bool) → a ≡ true → (a || b) ≡ true
or_left a b e = rw e refl

or_right : (a b : Bool) → b ≡ true → (a || b) ≡ true
or_right true b e = refl
or_right false b e = e

or_more : (a b c : Bool) → (b ≡ true → c ≡ true) → (a || b) ≡ true → (a || c) ≡ true
or_more true b c h e = refl
or_more false b c h e = h e

or_first : (a b : Bool) → (a || b) ≡ false → a ≡ false
or_first true b e = cc
or_first false b e = refl

or_second : (a b : Bool) → (a || b) ≡ false → b ≡ false
or_second true b e = cc
or_second false b e = e

any_more : (f g : Value → Bool) → ((v : Value) → f v ≡ true → g v ≡ true) → (vs : List Value) → list_any f vs ≡ true → list_any g vs ≡ true
any_more f g h [] e = e
any_more f g h (v ∷ vs) e = head (f v) (g v) (list_any f vs) (list_any g vs) (h v) (any_more f g h vs) e
  where
    head : (a c b d : Bool) → (a ≡ true → c ≡ true) → (b ≡ true → d ≡ true) → (a || b) ≡ true → (c || d) ≡ true
    head true c b d i j k = or_left c d (i refl)
    head false c b d i j k = or_right c d (j k)

-- ---- how many lists are not met

abbrev pub one_if : Bool → ℕ
one_if true = 0
one_if false = 1

unfoldable pub unmet : List Bool → ℕ
unmet [] = 0
unmet (b ∷ bs) = one_if b + unmet bs

unmet_set : (bs : List Bool) (k : ℕ) → slice_get bs k ≡ Some false → unmet (slice_set bs k true) + 1 ≡ unmet bs
unfolding unmet
unmet_set [] k h = cc
unmet_set (b ∷ bs) zero h = let same : b ≡ false = cc in rw same (omega arith)
unmet_set (b ∷ bs) (suc k) h = omega (arith, unmet_set bs k h)

length_set : (bs : List Bool) (k : ℕ) (b : Bool) → length (slice_set bs k b) ≡ length bs
length_set [] k b = refl
length_set (x ∷ bs) zero b = refl
length_set (x ∷ bs) (suc k) b = ap suc (length_set bs k b)

all_unmet : (n : ℕ) → unmet (replicate n false) ≡ n
unfolding unmet
all_unmet zero = refl
all_unmet (suc n) = omega (arith, all_unmet n)

none_met : (n k : ℕ) → slice_get (replicate n false) k ≡ Some true → ⊥
none_met zero k h = cc
none_met (suc n) zero h = cc
none_met (suc n) (suc k) h = none_met n k h

set_here : (bs : List Bool) (k : ℕ) (b c : Bool) → slice_get bs k ≡ Some b → slice_get (slice_set bs k c) k ≡ Some c
set_here [] k b c h = cc
set_here (x ∷ bs) zero b c h = refl
set_here (x ∷ bs) (suc k) b c h = set_here bs k b c h

less_apart : (b : Bool) (k j : ℕ) → (k == j) ≡ b → (suc k == suc j) ≡ false → b ≡ false
less_apart true k j e h =
    let same : k ≡ j = eqb-true k j e in
    let both : (suc k == suc j) ≡ true = subst (λ (x : ℕ). (suc k == suc x) ≡ true) same (nat_eq_equiv.refl (suc k)) in
    cc
less_apart false k j e h = refl

set_elsewhere : (bs : List Bool) (k j : ℕ) (c : Bool) → (k == j) ≡ false → slice_get (slice_set bs k c) j ≡ slice_get bs j
set_elsewhere [] k j c h = refl
set_elsewhere (x ∷ bs) zero zero c h = cc
set_elsewhere (x ∷ bs) zero (suc j) c h = refl
set_elsewhere (x ∷ bs) (suc k) zero c h = refl
set_elsewhere (x ∷ bs) (suc k) (suc j) c h = set_elsewhere bs k j c (less_apart (k == j) k j refl h)

past : {A B : Type 0} (xs : List A) (ys : List B) (k : ℕ) → length xs ≡ length ys → slice_get xs k ≡ None → slice_get ys k ≡ None
past [] [] k e h = refl
past [] (y ∷ ys) k e h = absurd (omega arith)
past (x ∷ xs) [] k e h = refl
past (x ∷ xs) (y ∷ ys) zero e h = cc
past (x ∷ xs) (y ∷ ys) (suc k) e h = past xs ys k (omega arith) h

-- ---- lists that were met or are not there

abbrev Met : Searching → ℕ → Type 0
Met s k = slice_get s.met k ≡ Some true

abbrev Seen : List Bool → ℕ → Type 0
Seen bs k = slice_get bs k ≡ Some false → ⊥

unfoldable pub SeenIf : List Bool → Option ℕ → Type 0
SeenIf bs None = Unit {0}
SeenIf bs (Some k) = Seen bs k

unfoldable pub SeenAll : List Bool → List (Option ℕ) → Type 0
SeenAll bs [] = Unit {0}
SeenAll bs (o ∷ os) = SeenIf bs o × SeenAll bs os

-- what is so of each list before and after lists are met
pub record Onward (s t : Searching) : Type 0 where
  pub seen : (k : ℕ) → Seen s.met k → Seen t.met k
  pub new : (k : ℕ) → Met t k → is_in k t.left ≡ false → Met s k
  pub kept : (k : ℕ) → is_in k t.left ≡ false → is_in k s.left ≡ false
  pub queued : ((k : ℕ) → is_in k s.left ≡ true → Met s k) → (k : ℕ) → is_in k t.left ≡ true → Met t k
  pub long : length t.met ≡ length s.met
  pub less : 2 * unmet t.met + length t.left ≤ 2 * unmet s.met + length s.left
  pub fewer : unmet t.met ≤ unmet s.met

stays : (s : Searching) → Onward s s
stays s = record { seen = (λ k h. h); new = (λ k h g. h); kept = (λ k h. h); queued = (λ h k g. h k g); long = refl; less = omega arith; fewer = omega arith }

then : (s t u : Searching) → Onward s t → Onward t u → Onward s u
then s t u h g = record {
  seen = (λ k i. g.seen k (h.seen k i));
  new = (λ k i j. h.new k (g.new k i j) (g.kept k j));
  kept = (λ k i. h.kept k (g.kept k i));
  queued = (λ i. g.queued (h.queued i));
  long = g.long ∙ h.long;
  less = omega (arith, h.less, g.less);
  fewer = omega (arith, h.fewer, g.fewer);
}

abbrev with_met : ℕ → Searching → Searching
with_met j s = record { met = slice_set s.met j true; left = j ∷ s.left }

is_in_head : (k j : ℕ) (xs : List ℕ) (b : Bool) → (k == j) ≡ b → is_in k (j ∷ xs) ≡ elim b [ true ↦ true | false ↦ is_in k xs ]
unfolding is_in
is_in_head k j xs b h = rw (h, is_in) refl

same_number : (k j : ℕ) → (k == j) ≡ true → k ≡ j
same_number k j h = eqb-true k j h

module _ (s : Searching) (j : ℕ) (h : slice_get s.met j ≡ Some false) where
  seen_at : (b : Bool) (k : ℕ) → (j == k) ≡ b → Seen s.met k → Seen (slice_set s.met j true) k
  seen_at true k e g = λ i. (let same : j ≡ k = same_number j k e in let now : slice_get (slice_set s.met j true) k ≡ Some true = subst (λ (x : ℕ). slice_get (slice_set s.met j true) x ≡ Some true) same (set_here s.met j false true h) in cc)
  seen_at false k e g = λ i. g (sym (set_elsewhere s.met j k true e) ∙ i)

  new_at : (b : Bool) (k : ℕ) → (k == j) ≡ b → Met (with_met j s) k → is_in k (j ∷ s.left) ≡ false → Met s k
  new_at true k e g i = let here : is_in k (j ∷ s.left) ≡ true = is_in_head k j s.left true e in cc
  new_at false k e g i = sym (set_elsewhere s.met j k true (apart k j e)) ∙ g
    where
      apart : (a b : ℕ) → (a == b) ≡ false → (b == a) ≡ false
      apart a b x = grind (arith)

  kept_at : (b : Bool) (k : ℕ) → (k == j) ≡ b → is_in k (j ∷ s.left) ≡ false → is_in k s.left ≡ false
  kept_at true k e i = let here : is_in k (j ∷ s.left) ≡ true = is_in_head k j s.left true e in cc
  kept_at false k e i = sym (is_in_head k j s.left false e) ∙ i

  queued_at : (b : Bool) (k : ℕ) → (k == j) ≡ b → ((k : ℕ) → is_in k s.left ≡ true → Met s k) → is_in k (j ∷ s.left) ≡ true → Met (with_met j s) k
  queued_at true k e all i = subst (λ (x : ℕ). Met (with_met j s) x) (sym (same_number k j e)) (set_here s.met j false true h)
  queued_at false k e all i = set_elsewhere s.met j k true (apart k j e) ∙ all k (sym (is_in_head k j s.left false e) ∙ i)
    where
      apart : (a b : ℕ) → (a == b) ≡ false → (b == a) ≡ false
      apart a b x = grind (arith)

  adds : Onward s (with_met j s)
  adds = record {
    seen = (λ k g. seen_at (j == k) k refl g);
    new = (λ k g i. new_at (k == j) k refl g i);
    kept = (λ k i. kept_at (k == j) k refl i);
    queued = (λ all k i. queued_at (k == j) k refl all i);
    long = length_set s.met j true;
    less = omega (arith, unmet_set s.met j h);
    fewer = omega (arith, unmet_set s.met j h);
  }

unmet_is : (o : Option Bool) → is_unmet o ≡ true → o ≡ Some false
unmet_is None h = cc
unmet_is (Some true) h = cc
unmet_is (Some false) h = refl

met_where : (s : Searching) (j : ℕ) (b : Bool) → is_unmet (slice_get s.met j) ≡ b → Onward s (meet_if b j s)
unfolding meet_if
met_where s j false h = stays s
met_where s j true h = adds s j (unmet_is (slice_get s.met j) h)

met_on : (s : Searching) (o : Option ℕ) → Onward s (meet o s)
unfolding meet
met_on s None = stays s
met_on s (Some j) = met_where s j (is_unmet (slice_get s.met j)) refl

pub met_all_on : (os : List (Option ℕ)) (s : Searching) → Onward s (meet_all os s)
unfolding meet_all
met_all_on [] s = stays s
met_all_on (o ∷ os) s = then s (meet o s) (meet_all os (meet o s)) (met_on s o) (met_all_on os (meet o s))

seen_where : (s : Searching) (j : ℕ) (b : Bool) → is_unmet (slice_get s.met j) ≡ b → Seen (meet_if b j s).met j
unfolding meet_if
seen_where s j false h = λ i. (let new : is_unmet (slice_get s.met j) ≡ true = ap (λ (o : Option Bool). is_unmet o) i in cc)
seen_where s j true h = let now : slice_get (slice_set s.met j true) j ≡ Some true = set_here s.met j false true (unmet_is (slice_get s.met j) h) in λ i. cc

seen_met : (s : Searching) (o : Option ℕ) → SeenIf (meet o s).met o
unfolding meet SeenIf
seen_met s None = tt
seen_met s (Some j) = seen_where s j (is_unmet (slice_get s.met j)) refl

seen_on : (s t : Searching) (o : Option ℕ) → Onward s t → SeenIf s.met o → SeenIf t.met o
unfolding SeenIf
seen_on s t None h g = tt
seen_on s t (Some j) h g = h.seen j g

seen_all_on : (s t : Searching) (os : List (Option ℕ)) → Onward s t → SeenAll s.met os → SeenAll t.met os
unfolding SeenAll
seen_all_on s t [] h g = tt
seen_all_on s t (o ∷ os) h g = (seen_on s t o h g.0, seen_all_on s t os h g.1)

all_seen : (os : List (Option ℕ)) (s : Searching) → SeenAll (meet_all os s).met os
unfolding meet_all SeenAll
all_seen [] s = tt
all_seen (o ∷ os) s = (seen_on (meet o s) (meet_all os (meet o s)) o (met_all_on os (meet o s)) (seen_met s o), all_seen os (meet o s))

module _ (r : References) (ls : List (List Value)) (p : ℕ) where
  abbrev Leads : ℕ → Value → Bool
  Leads d v = leads_back d r ls p v

  abbrev Test : Value → Bool
  Test v = is_name p (followed r v)

  within : (d e : ℕ) (v : Value) → d ≤ e → Leads d v ≡ true → Leads e v ≡ true
  unfolding leads_back
  within zero e v l h = cc
  within (suc d) zero v l h = absurd (omega arith)
  within (suc d) (suc e) v l h = or_more (Test v) _ _ (any_more (Leads d) (Leads e) (λ w i. within d e w (omega arith) i) (members_of ls (list_of (followed r v)))) h

  -- ---- where all is met and leads nowhere

  abbrev ClosedAt : Searching → ℕ → Type 0
  ClosedAt s k = (list_any Test (members_at ls k) ≡ false) × SeenAll s.met (lists_of r (members_at ls k))

  none_of : (s : Searching) (f : Value → Bool) → ((v : Value) → Test v ≡ false → SeenIf s.met (list_of (followed r v)) → f v ≡ false)
      → (vs : List Value) → list_any Test vs ≡ false → SeenAll s.met (lists_of r vs) → list_any f vs ≡ false
  unfolding SeenAll
  none_of s f each [] h g = refl
  none_of s f each (v ∷ vs) h g = or_false (f v) (list_any f vs) (each v (or_first (Test v) _ h) g.0) (none_of s f each vs (or_second (Test v) _ h) g.1)

  module _ (s : Searching) (long : length s.met ≡ length ls) (closed : (k : ℕ) → Met s k → ClosedAt s k) where
    none_in : (d : ℕ) → ((v : Value) → Test v ≡ false → SeenIf s.met (list_of (followed r v)) → Leads d v ≡ false)
        → (k : ℕ) (o : Option Bool) → slice_get s.met k ≡ o → Seen s.met k → list_any (Leads d) (members_at ls k) ≡ false
    none_in d each k None h g = rw (past s.met ls k long h) refl
    none_in d each k (Some true) h g = none_of s (Leads d) each (members_at ls k) (closed k h).0 (closed k h).1
    none_in d each k (Some false) h g = absurd (g h)

    none_at : (d : ℕ) → ((v : Value) → Test v ≡ false → SeenIf s.met (list_of (followed r v)) → Leads d v ≡ false)
        → (o : Option ℕ) → SeenIf s.met o → list_any (Leads d) (members_of ls o) ≡ false
    unfolding members_of SeenIf
    none_at d each None g = refl
    none_at d each (Some k) g = none_in d each k (slice_get s.met k) refl g

    none_leads : (d : ℕ) (v : Value) → Test v ≡ false → SeenIf s.met (list_of (followed r v)) → Leads d v ≡ false
    unfolding leads_back
    none_leads zero v h g = refl
    none_leads (suc d) v h g = or_false (Test v) _ h (none_at d (none_leads d) (list_of (followed r v)) g)

  -- ---- each list that was met is led to

  module _ (k0 : ℕ) where
    abbrev start : Value
    start = held.List k0

    -- what is led to in so many steps
    abbrev Via : ℕ → Option ℕ → Type 0
    Via e o = (d : ℕ) → list_any (Leads d) (members_of ls o) ≡ true → Leads (e + suc d) start ≡ true

    abbrev Reach : Searching → ℕ → Type 0
    Reach s k = (e : ℕ) × ((e + unmet s.met < length ls) × Via e (Some k))

    abbrev AllReach : Searching → Type 0
    AllReach s = (k : ℕ) → Met s k → Reach s k

    unfoldable pub AllVia : ℕ → List (Option ℕ) → Type 0
    AllVia e [] = Unit {0}
    AllVia e (o ∷ os) = Via e o × AllVia e os

    reach_on : (s t : Searching) (k : ℕ) → unmet t.met ≤ unmet s.met → Reach s k → Reach t k
    reach_on s t k l h = (h.0, ((omega (arith, l, h.1.0)), h.1.1))

    reach_new : (s : Searching) (j e : ℕ) → slice_get s.met j ≡ Some false → e + unmet s.met ≤ length ls → Via e (Some j) → Reach (with_met j s) j
    reach_new s j e h l g = (e, ((omega (arith, l, unmet_set s.met j h)), g))

    reach_at : (s : Searching) (j e : ℕ) → slice_get s.met j ≡ Some false → e + unmet s.met ≤ length ls → Via e (Some j) → AllReach s → (b : Bool) (k : ℕ) → (j == k) ≡ b → Met (with_met j s) k → Reach (with_met j s) k
    reach_at s j e h l g all true k i m = subst (λ (x : ℕ). Reach (with_met j s) x) (same_number j k i) (reach_new s j e h l g)
    reach_at s j e h l g all false k i m = reach_on s (with_met j s) k (adds s j h).fewer (all k (sym (set_elsewhere s.met j k true i) ∙ m))

    reach_where : (s : Searching) (j e : ℕ) (b : Bool) → is_unmet (slice_get s.met j) ≡ b → e + unmet s.met ≤ length ls → Via e (Some j) → AllReach s → AllReach (meet_if b j s)
    unfolding meet_if
    reach_where s j e false h l g all = all
    reach_where s j e true h l g all = λ k m. reach_at s j e (unmet_is (slice_get s.met j) h) l g all (j == k) k refl m

    reach_met : (s : Searching) (e : ℕ) (o : Option ℕ) → e + unmet s.met ≤ length ls → Via e o → AllReach s → AllReach (meet o s)
    unfolding meet
    reach_met s e None l g all = all
    reach_met s e (Some j) l g all = reach_where s j e (is_unmet (slice_get s.met j)) refl l g all

    reach_all : (os : List (Option ℕ)) (s : Searching) (e : ℕ) → e + unmet s.met ≤ length ls → AllVia e os → AllReach s → AllReach (meet_all os s)
    unfolding meet_all AllVia
    reach_all [] s e l g all = all
    reach_all (o ∷ os) s e l g all = reach_all os (meet o s) e (omega (arith, l, (met_on s o).fewer)) g.1 (reach_met s e o l g.0 all)

    -- the members of a list that is led to lead on
    via_members : (e : ℕ) (vs : List Value) → ((d : ℕ) → list_any (Leads d) vs ≡ true → Leads (e + suc d) start ≡ true) → AllVia (suc e) (lists_of r vs)
    unfolding AllVia leads_back
    via_members e [] f = tt
    via_members e (v ∷ vs) f = (
      λ d h. (let further : e + suc (suc d) ≡ suc e + suc d = omega arith in subst (λ (n : ℕ). Leads n start ≡ true) further (f (suc d) (or_left (Leads (suc d) v) _ (or_right (Test v) _ h)))),
      via_members e vs (λ d h. f d (or_right (Leads d v) _ h)),
    )

    any_named : (vs : List Value) → list_any Test vs ≡ true → list_any (Leads 1) vs ≡ true
    unfolding leads_back
    any_named vs h = any_more Test (Leads 1) (λ v i. or_left (Test v) _ i) vs h

    -- a member of a list that is led to is the name
    pub found : (s : Searching) (n : ℕ) → Reach s n → list_any Test (members_at ls n) ≡ true → Leads (suc (length ls)) start ≡ true
    unfolding members_of
    found s n reach h = within (reach.0 + 2) (suc (length ls)) start (let bound : reach.0 + unmet s.met < length ls = reach.1.0 in omega arith) (reach.1.1 1 (any_named (members_at ls n) h))

    -- ---- the invariant of the search

    pub record Good (s : Searching) : Type 0 where
      pub long : length s.met ≡ length ls
      pub reach : AllReach s
      pub closed : (k : ℕ) → Met s k → is_in k s.left ≡ false → ClosedAt s k
      pub queued : (k : ℕ) → is_in k s.left ≡ true → Met s k
      pub began : Seen s.met k0

    abbrev popped : Searching → List ℕ → Searching
    popped s rest = record { met = s.met; left = rest }

    in_rest : (k n : ℕ) (rest : List ℕ) (b : Bool) → (k == n) ≡ b → is_in k rest ≡ true → is_in k (n ∷ rest) ≡ true
    in_rest k n rest true e h = is_in_head k n rest true e
    in_rest k n rest false e h = is_in_head k n rest false e ∙ h

    next_queued : (s : Searching) (n : ℕ) (rest : List ℕ) → s.left ≡ n ∷ rest → ((k : ℕ) → is_in k s.left ≡ true → Met s k) → Met s n
    next_queued s n rest e h = h n (subst (λ (xs : List ℕ). is_in n xs ≡ true) (sym e) (is_in_head n n rest true (nat_eq_equiv.refl n)))

    closes : (s : Searching) (n : ℕ) (rest : List ℕ) → s.left ≡ n ∷ rest → ((k : ℕ) → Met s k → is_in k s.left ≡ false → ClosedAt s k) → (s2 : Searching) → Onward (popped s rest) s2 → ClosedAt s2 n
        → (b : Bool) (k : ℕ) → (k == n) ≡ b → Met s k → is_in k rest ≡ false → ClosedAt s2 k
    closes s n rest e closed s2 on this true k i m j = subst (λ (x : ℕ). ClosedAt s2 x) (sym (same_number k n i)) this
    closes s n rest e closed s2 on this false k i m j =
        let before : ClosedAt s k = closed k m (subst (λ (xs : List ℕ). is_in k xs ≡ false) (sym e) (is_in_head k n rest false i ∙ j)) in
        (before.0, seen_all_on (popped s rest) s2 (lists_of r (members_at ls k)) on before.1)

    looked_on : (s : Searching) (n : ℕ) (rest : List ℕ) → s.left ≡ n ∷ rest → Good s → list_any Test (members_at ls n) ≡ false
        → Good (meet_all (lists_of r (members_at ls n)) (popped s rest))
    unfolding members_of
    looked_on s n rest e g none =
        let s1 : Searching = popped s rest in
        let os : List (Option ℕ) = lists_of r (members_at ls n) in
        let s2 : Searching = meet_all os s1 in
        let on : Onward s1 s2 = met_all_on os s1 in
        let reach : Reach s n = g.reach n (next_queued s n rest e g.queued) in
        let near : reach.0 + unmet s.met < length ls = reach.1.0 in
        let deep : suc reach.0 + unmet s.met ≤ length ls = omega arith in
        record {
          long = on.long ∙ g.long;
          reach = reach_all os s1 (suc reach.0) deep (via_members reach.0 (members_at ls n) (λ d h. reach.1.1 d h)) (λ k m. g.reach k m);
          closed = (λ k m i. closes s n rest e g.closed s2 on (none, all_seen os s1) (k == n) k refl (on.new k m i) (on.kept k i));
          queued = on.queued (λ k i. g.queued k (subst (λ (xs : List ℕ). is_in k xs ≡ true) (sym e) (in_rest k n rest (k == n) refl i)));
          began = on.seen k0 g.began;
        }

    pub first : Searching
    first = record { met = replicate (length ls) false; left = [] }

    begun : Good (meet (Some k0) first)
    unfolding first meet SeenIf members_of leads_back followed led severed is_in
    begun =
        let on : Onward first (meet (Some k0) first) = met_on first (Some k0) in
        record {
          long = on.long ∙ length-replicate (length ls) false;
          reach = reach_met first 0 (Some k0) (omega (arith, all_unmet (length ls))) (λ d h. (let same : 0 + suc d ≡ suc d = omega arith in subst (λ (n : ℕ). Leads n start ≡ true) (sym same) h)) (λ k m. absurd (none_met (length ls) k m));
          closed = (λ k m i. absurd (none_met (length ls) k (on.new k m i)));
          queued = on.queued (λ k i. cc);
          began = seen_met first (Some k0);
        }

    empty_nowhere : (s : Searching) → s.left ≡ [] → Good s → Leads (suc (length ls)) start ≡ false
    unfolding followed led severed SeenIf is_in
    empty_nowhere s none g = none_leads s g.long (λ k m. g.closed k m (subst (λ (xs : List ℕ). is_in k xs ≡ false) (sym none) refl)) (suc (length ls)) start refl g.began

    -- ---- by what was called

    pub search_begins : (n : ℕ) (s0 s : Searching) → n ≡ length ls → s0 ≡ record { met = replicate n false; left = [] } → s ≡ meet (Some k0) s0 → Good s
    unfolding first
    search_begins n s0 s e h g = subst (λ (x : Searching). Good x) (sym (g ∙ ap (λ (x : Searching). meet (Some k0) x) (h ∙ ap (λ (i : ℕ). record { met = replicate i false; left = [] }) e))) begun

    pub search_goes_on : (s s1 s2 : Searching) (n : ℕ) (vs : List Value) → s ≡ record s1 { left = n ∷ s1.left } → vs ≡ members_at ls n → list_any Test vs ≡ false → s2 ≡ meet_all (lists_of r vs) s1 → Good s → Good s2
    search_goes_on s s1 s2 n vs h e none is g =
        let whole : Good (record s1 { left = n ∷ s1.left }) = subst (λ (x : Searching). Good x) h g in
        let next : Good (meet_all (lists_of r (members_at ls n)) s1) = looked_on (record s1 { left = n ∷ s1.left }) n s1.left refl whole (subst (λ (xs : List Value). list_any Test xs ≡ false) e none) in
        subst (λ (x : Searching). Good x) (sym (is ∙ ap (λ (xs : List Value). meet_all (lists_of r xs) s1) e)) next

    pub search_finds : (s s1 : Searching) (n : ℕ) (vs : List Value) → s ≡ record s1 { left = n ∷ s1.left } → vs ≡ members_at ls n → list_any Test vs ≡ true → Good s → Leads (suc (length ls)) start ≡ true
    search_finds s s1 n vs h e some g =
        let whole : Good (record s1 { left = n ∷ s1.left }) = subst (λ (x : Searching). Good x) h g in
        found (record s1 { left = n ∷ s1.left }) n (whole.reach n (next_queued (record s1 { left = n ∷ s1.left }) n s1.left refl whole.queued)) (subst (λ (xs : List Value). list_any Test xs ≡ true) e some)

    pub search_ends : (s : Searching) → s.left ≡ [] → Good s → Leads (suc (length ls)) start ≡ false
    search_ends s e g = empty_nowhere s e g

-- less is left behind each list that is looked at
pub search_shrinks : (s s1 s2 : Searching) (n : ℕ) (os : List (Option ℕ)) → s ≡ record s1 { left = n ∷ s1.left } → s2 ≡ meet_all os s1 → 2 * unmet s2.met + length s2.left < 2 * unmet s.met + length s.left
search_shrinks s s1 s2 n os h e =
    let on : Onward s1 (meet_all os s1) = met_all_on os s1 in
    let less : 2 * unmet (meet_all os s1).met + length (meet_all os s1).left ≤ 2 * unmet s1.met + length s1.left = on.less in
    rw (h, e) (omega arith)
