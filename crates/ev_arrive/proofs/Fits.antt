-- Values of a note that fit the heap come to be here.
use Rattle.std.proofs.Common.{◌≡◌, ◌∙◌, ℕ, zero, suc, ◌+◌, ◌<◌, ◌≤◌, nat_lt, nat_le, Bool, true, false, List, [], ◌∷◌, ◌++◌, Option, Some, Ok, Err, length, length-append, fold, max, refl, sym, ap, subst, arith}
use Rattle.std.specs.Prelude.{if◌then◌else◌, slice_get, ◌&&◌}
use Rattle.std.specs.List.{sum_by}
use Rattle.std.proofs.lemmas.Bool.Decides.{nat_tests}
use Rattle.std.proofs.lemmas.List.Sums.{sum_by-cons}
use Rattle.ev_base.specs.declared.values.Value.{Value}
use Rattle.ev_base.specs.declared.values.Value.TheVariants as held
use Rattle.ev_heap.specs.Contents.{Contents, height_of, is_light, listed, most_weight, weight_in, height_in, weight_of}
use Rattle.ev_heap.specs.declared.kept.Listed.{Listed}
use Rattle.def_machine.specs.State.{is_in}
use Rattle.def_machine.specs.Values.{key}
use Rattle.ev_pass.specs.Acts as inner
use Rattle.ev_pass.specs.Acts.{send_out}
use Rattle.ev_pass.specs.Notes.{Ask}
use Rattle.ev_pass.specs.declared.interior.Interior.{Interior}
use Rattle.ev_refs.specs.Changes.{waiters_at}
use Rattle.ev_refs.specs.References.{unsettled_of}
use Rattle.ev_refs.specs.declared.known.Known.{Known}
use Rattle.ev_settle.specs.Changes.{come}
use Rattle.ev_settle.specs.Settling.{next, patience, perform, run, settle, settle_at, settle_found, settle_waiters, set_known, target_of}
use Rattle.ev_settle.specs.declared.tasks.Task.TheVariants.{Settle}
use Rattle.ev_arrive.specs.Acts.{Act, Out, and_then, ◌>>=◌, ◌>>◌, give, within}
use Rattle.ev_arrive.specs.Breaking.{break_name}
use Rattle.ev_arrive.specs.Delivering.{ask_for, learn_gift}
use Rattle.ev_arrive.specs.declared.host.Host.{Host}
use Rattle.ev_arrive.specs.Bringing.{Part, Parts, Plain, New, Gift, Many, NoMore, More}
use Rattle.ev_arrive.specs.Fitting.{AllFit, Fits, part_weight, parts_weight}
use Rattle.ev_arrive.specs.Learning.{are_kept, is_kept, keep_list, learn, learn_each, learn_given, learn_list, learn_new, learn_part, list_told, make_list}
use Rattle.ev_arrive.proofs.Kept.{below, light}

-- ---- a heap that has more lists

is_below : (a b : ℕ) → a < b → nat_lt a b ≡ true
is_below a b e = grind (arith, nat_tests)

is_within : (a b : ℕ) → a ≤ b → nat_le a b ≡ true
is_within a b h = grind (arith, nat_tests)

before : {A : Type 0} (xs : List A) (y : A) (k : ℕ) → k < length xs → slice_get (xs ++ y ∷ []) k ≡ slice_get xs k
before [] y k lt = absurd (omega arith)
before (x ∷ xs) y zero lt = refl
before (x ∷ xs) y (suc k) lt = before xs y k (omega arith)

last : {A : Type 0} (xs : List A) (y : A) → slice_get (xs ++ y ∷ []) (length xs) ≡ Some y
last [] y = refl
last (x ∷ xs) y = last xs y

-- a value that a heap has: its weight, and a bound of its height
record Sized (h : Contents) (d w : ℕ) (v : Value) : Type 0 where
  kept : is_kept h v ≡ true
  weighs : weight_of h v ≡ w
  low : height_of h v ≤ d

-- what the one has, the other has as it is
abbrev Keeps : Contents → Contents → Type 0
Keeps h g = (d w : ℕ) (v : Value) → Sized h d w v → Sized g d w v

abbrev with_list : Contents → Listed → Contents
with_list h l = record h { lists = h.lists ++ l ∷ [] }

more_keeps : (h : Contents) (l : Listed) → Keeps h (with_list h l)
more_keeps h l d w (held.List k) s =
    let lt : k < length h.lists = below k (length h.lists) s.kept in
    let same : slice_get (h.lists ++ l ∷ []) k ≡ slice_get h.lists k = before h.lists l k lt in
    record {
      kept = is_below k (length (h.lists ++ l ∷ [])) (omega (arith, lt, length-append h.lists (l ∷ [])));
      weighs = ap weight_in same ∙ s.weighs;
      low = subst (λ (n : ℕ). n ≤ d) (sym (ap height_in same)) s.low;
    }
more_keeps h l d w held.Null s = record { kept = s.kept; weighs = s.weighs; low = s.low }
more_keeps h l d w (held.Bool b) s = record { kept = s.kept; weighs = s.weighs; low = s.low }
more_keeps h l d w (held.Int z) s = record { kept = s.kept; weighs = s.weighs; low = s.low }
more_keeps h l d w (held.Char c) s = record { kept = s.kept; weighs = s.weighs; low = s.low }
more_keeps h l d w (held.Text id) s = record { kept = s.kept; weighs = s.weighs; low = s.low }
more_keeps h l d w (held.Prim n) s = record { kept = s.kept; weighs = s.weighs; low = s.low }
more_keeps h l d w (held.Obj n) s = record { kept = s.kept; weighs = s.weighs; low = s.low }
more_keeps h l d w (held.Prom n) s = record { kept = s.kept; weighs = s.weighs; low = s.low }
more_keeps h l d w (held.Far c p) s = record { kept = s.kept; weighs = s.weighs; low = s.low }
more_keeps h l d w (held.Broken id) s = record { kept = s.kept; weighs = s.weighs; low = s.low }

-- ---- several values

abbrev AllLow : Contents → ℕ → List Value → Type 0
AllLow h d [] = Unit {0}
AllLow h d (v ∷ vs) = (height_of h v ≤ d) × AllLow h d vs

record AllSized (h : Contents) (d w : ℕ) (vs : List Value) : Type 0 where
  kept : are_kept h vs ≡ true
  weigh : sum_by (weight_of h) vs ≡ w
  low : AllLow h d vs

one_more : (h : Contents) (d w u : ℕ) (v : Value) (vs : List Value) → Sized h d w v → AllSized h d u vs → AllSized h d (w + u) (v ∷ vs)
one_more h d w u v vs s t = record {
  kept = ap (λ (b : Bool). if b then are_kept h vs else false) s.kept ∙ t.kept;
  weigh = sum_by-cons (weight_of h) v vs ∙ ap (λ (n : ℕ). n + sum_by (weight_of h) vs) s.weighs ∙ ap (λ (n : ℕ). w + n) t.weigh;
  low = (s.low, t.low);
}

highest : (h : Contents) (d a : ℕ) (vs : List Value) → a ≤ d → AllLow h d vs → fold (λ n v. max n (height_of h v)) a vs ≤ d
highest h d a [] le low = le
highest h d a (v ∷ vs) le low = let le2 : max a (height_of h v) ≤ d = omega (arith, le, low.0) in highest h d (max a (height_of h v)) vs le2 low.1

two : (a b : Bool) → a ≡ true → b ≡ true → (a && b) ≡ true
two true b e f = f
two false b e f = cc

fits_is : (h : Contents) (d w : ℕ) (vs : List Value) → AllSized h d w vs → w + 1 ≤ most_weight → d < 100 → is_light h vs ≡ true
fits_is h d w vs s le lt =
    let high = highest h d 0 vs (omega arith) s.low in
    let heavy : sum_by (weight_of h) vs + 1 ≤ most_weight = subst (λ (n : ℕ). n + 1 ≤ most_weight) (sym s.weigh) le in
    two (nat_le (sum_by (weight_of h) vs + 1) most_weight) (nat_le (fold (λ n v. max n (height_of h v)) 0 vs + 1) 100) (is_within (sum_by (weight_of h) vs + 1) most_weight heavy) (is_within (fold (λ n v. max n (height_of h v)) 0 vs + 1) 100 (omega (arith, high, lt)))

-- ---- what leaves the heap as it is

abbrev InnerStays : {A : Type 0} → Contents → inner.Out A → Type 0
InnerStays h (Ok a, s) = s.heap ≡ h
InnerStays h (Err e, s) = ⊥

abbrev Stays : {A : Type 0} → Contents → Out A → Type 0
Stays h (Ok a, k) = k.inside.heap ≡ h
Stays h (Err e, k) = ⊥

stays_inside : {A : Type 0} (h : Contents) (m : inner.Act A) (k : Host) (o : inner.Out A) → m k.inside ≡ o → InnerStays h o → Stays h (within m k)
unfolding within
stays_inside h m k (Ok a, s) e stays = subst (λ (o : inner.Out _). Stays h (o.0, record k { inside = o.1 })) (sym e) stays
stays_inside h m k (Err x, s) e stays = absurd stays

fresh_found : (n c t d more : ℕ) (s : Interior) → InnerStays s.heap (inner.and_then (settle_found n (held.Broken t) d (Some (unsettled_of c)) [] s) (run (suc more)))
unfolding settle_found settle_waiters waiters_at set_known inner.tell inner.give inner.◌>>◌ inner.and_then run next
fresh_found n c t d more s = refl

fresh_ran : (n c t more : ℕ) (s : Interior) → slice_get s.refs.known n ≡ Some (unsettled_of c) → InnerStays s.heap (run (suc (suc more)) (Settle n (held.Broken t) (suc (suc (length s.refs.known))) ∷ []) s)
unfolding run next perform settle_at target_of inner.◌>>=◌
fresh_ran n c t more s e =
    subst (λ (o : Option Known). InnerStays s.heap (inner.and_then (settle_found n (held.Broken t) (suc (length s.refs.known)) o [] s) (run (suc more)))) (sym e) (fresh_found n c t (suc (length s.refs.known)) more s)

many : suc (suc 18446744073709551613) ≡ patience
unfolding patience
many = refl

-- a name at which nothing waits breaks
fresh_settles : (n c t : ℕ) (s : Interior) → slice_get s.refs.known n ≡ Some (unsettled_of c) → InnerStays s.heap (settle n (held.Broken t) s)
unfolding settle
fresh_settles n c t s e = subst (λ (m : ℕ). InnerStays s.heap (run m (Settle n (held.Broken t) (suc (suc (length s.refs.known))) ∷ []) s)) many (fresh_ran n c t 18446744073709551613 s e)

asked_by : (p a i n c : ℕ) (gone : Bool) (k : Host) → slice_get k.inside.refs.known n ≡ Some (unsettled_of c) → Stays k.inside.heap ((if gone then break_name n else within (send_out a (Ask p i n))) k)
unfolding break_name within send_out
asked_by p a i n c true k e = stays_inside k.inside.heap (settle n (held.Broken k.inside.refs.partition)) k _ refl (fresh_settles n c k.inside.refs.partition k.inside e)
asked_by p a i n c false k e = refl

asks_stays : (p a i n c : ℕ) (k : Host) → slice_get k.inside.refs.known n ≡ Some (unsettled_of c) → Stays k.inside.heap (ask_for p a i n k)
unfolding ask_for
asks_stays p a i n c k e = asked_by p a (key p i) n c (is_in a k.inside.refs.noticed) k e

then_given : {A : Type 0} (h : Contents) (o : Out A) (n : ℕ) → Stays h o → Stays h (and_then o (λ _. give n))
unfolding and_then give
then_given h (Ok a, k) n stays = stays
then_given h (Err e, k) n stays = absurd stays

gift_stays : (p a i : ℕ) (k : Host) → Stays k.inside.heap (learn_gift p a i k)
unfolding learn_gift come within ◌>>=◌ ◌>>◌ and_then
gift_stays p a i k =
    let ks = k.inside.refs.known in
    let n = length ks in
    let j : Host = record k { inside = record k.inside { refs = record k.inside.refs { known = ks ++ unsettled_of a ∷ [] } } } in
    then_given k.inside.heap (ask_for p a i n j) n (asks_stays p a i n a j (last ks (unsettled_of a)))

-- ---- what is learnt

abbrev Learnt : Contents → ℕ → ℕ → Out Value → Type 0
Learnt h d w (Ok v, k) = Keeps h k.inside.heap × Sized k.inside.heap d w v
Learnt h d w (Err e, k) = ⊥

abbrev AllLearnt : Contents → ℕ → ℕ → Out (List Value) → Type 0
AllLearnt h d w (Ok vs, k) = Keeps h k.inside.heap × AllSized k.inside.heap d w vs
AllLearnt h d w (Err e, k) = ⊥

named : (h : Contents) (d : ℕ) (o : Out ℕ) → Stays h o → Learnt h d 1 (and_then o (λ n. give (held.Prom n)))
unfolding and_then give
named h d (Ok n, k) stays = (λ e w v s. subst (λ (g : Contents). Sized g e w v) (sym stays) s, record { kept = refl; weighs = refl; low = omega arith })
named h d (Err e, k) stays = absurd stays

name_learnt : (d c : ℕ) (k : Host) → Learnt k.inside.heap d 1 (learn_new c k)
unfolding learn_new come within ◌>>=◌
name_learnt d c k = named k.inside.heap d (within (come c) k) refl

gift_learnt : (d from c i : ℕ) (k : Host) → Learnt k.inside.heap d 1 (learn_given from c i k)
unfolding learn_given ◌>>=◌
gift_learnt d from c i k = named k.inside.heap d (learn_gift from c i k) (gift_stays from c i k)

list_learnt : (d w : ℕ) (vs : List Value) (k : Host) → AllSized k.inside.heap d w vs → w + 1 ≤ most_weight → d < 100 → Learnt k.inside.heap (suc d) (w + 1) (within (make_list vs) k)
unfolding within make_list list_told keep_list inner.tell inner.give inner.◌>>=◌ inner.◌>>◌ inner.and_then
list_learnt d w vs k s le lt =
    let h = k.inside.heap in
    let l = listed h vs in
    let at = last h.lists l in
    let high = highest h d 0 vs (omega arith) s.low in
    subst (λ (o : inner.Out ℕ). Learnt h (suc d) (w + 1) ((inner.and_then o (list_told vs)).0, record k { inside = (inner.and_then o (list_told vs)).1 })) (sym (light vs k.inside s.kept (fits_is h d w vs s le lt))) (
      more_keeps h l,
      record {
        kept = is_below (length h.lists) (length (h.lists ++ l ∷ [])) (omega (arith, length-append h.lists (l ∷ [])));
        weighs = ap weight_in at ∙ ap (λ (n : ℕ). n + 1) s.weigh;
        low = subst (λ (n : ℕ). n ≤ suc d) (sym (ap height_in at)) (omega (arith, high));
      },
    )

later : (h g : Contents) (d w : ℕ) (o : Out Value) → Keeps h g → Learnt g d w o → Learnt h d w o
later h g d w (Ok v, k) keeps r = (λ e x y z. r.0 e x y (keeps e x y z), r.1)
later h g d w (Err e, k) keeps r = r

list_then : (h : Contents) (d w : ℕ) (o : Out (List Value)) → AllLearnt h d w o → w + 1 ≤ most_weight → d < 100 → Learnt h (suc d) (w + 1) (and_then o (λ vs. within (make_list vs)))
unfolding and_then
list_then h d w (Ok vs, k) r le lt = later h k.inside.heap (suc d) (w + 1) (within (make_list vs) k) r.0 (list_learnt d w vs k r.1 le lt)
list_then h d w (Err e, k) r le lt = absurd r

second : (h : Contents) (d w u : ℕ) (v : Value) (j : Host) (o : Out (List Value)) → Keeps h j.inside.heap → Sized j.inside.heap d w v → AllLearnt j.inside.heap d u o → AllLearnt h d (w + u) (and_then o (λ vs. give (v ∷ vs)))
unfolding and_then give
second h d w u v j (Ok vs, k) keeps s r = (λ e x y z. r.0 e x y (keeps e x y z), one_more k.inside.heap d w u v vs (r.0 d w v s) r.1)
second h d w u v j (Err e, k) keeps s r = absurd r

first : (h : Contents) (d w u : ℕ) (o : Out Value) (f : Act (List Value)) → Learnt h d w o → ((j : Host) → Keeps h j.inside.heap → AllLearnt j.inside.heap d u (f j)) → AllLearnt h d (w + u) (and_then o (λ v. f >>= λ vs. give (v ∷ vs)))
unfolding and_then ◌>>=◌
first h d w u (Ok v, j) f r more = second h d w u v j (f j) r.0 r.1 (more j r.0)
first h d w u (Err e, j) f r more = absurd r

mutual
  unfolding learn learn_part learn_list learn_each ◌>>=◌ give

  part_learnt : (h : Contents) (d from : ℕ) (p : Part) (k : Host) → Keeps h k.inside.heap → d ≤ 100 → Fits h d p → Learnt k.inside.heap d (part_weight h p) (learn d from p k)
  part_learnt h d from (Plain v) k keeps le f = (λ e w y s. s, keeps d (weight_of h v) v (record { kept = f.0; weighs = refl; low = f.1 }))
  part_learnt h d from (New c) k keeps le f = name_learnt d c k
  part_learnt h d from (Gift c i) k keeps le f = gift_learnt d from c i k
  part_learnt h zero from (Many ps) k keeps le f = absurd f
  part_learnt h (suc d) from (Many ps) k keeps le f =
      list_then k.inside.heap d (parts_weight h ps) (learn_each (learn d from) ps k) (parts_learnt h d from ps k keeps (omega (arith, le)) f.1) f.0 (omega (arith, le))

  parts_learnt : (h : Contents) (d from : ℕ) (ps : Parts) (k : Host) → Keeps h k.inside.heap → d ≤ 100 → AllFit h d ps → AllLearnt k.inside.heap d (parts_weight h ps) (learn_each (learn d from) ps k)
  parts_learnt h d from NoMore k keeps le f = (λ e w y s. s, record { kept = refl; weigh = refl; low = tt })
  parts_learnt h d from (More p ps) k keeps le f =
      first k.inside.heap d (part_weight h p) (parts_weight h ps) (learn d from p k) (learn_each (learn d from) ps) (part_learnt h d from p k keeps le f.0)
      (λ j more. parts_learnt h d from ps j (λ e w y s. more e w y (keeps e w y s)) le f.1)

is_learnt : (h : Contents) (d w : ℕ) (o : Out Value) → Learnt h d w o → (v : Value) × ((k : Host) × (o ≡ (Ok v, k)))
is_learnt h d w (Ok v, k) r = (v, (k, refl))
is_learnt h d w (Err e, k) r = absurd r

pub fits_learnt : (from : ℕ) (p : Part) (k : Host) → Fits k.inside.heap 100 p → (v : Value) × ((j : Host) × (learn 100 from p k ≡ (Ok v, j)))
fits_learnt from p k f = is_learnt k.inside.heap 100 (part_weight k.inside.heap p) (learn 100 from p k) (part_learnt k.inside.heap 100 from p k (λ e w v s. s) (omega arith) f)

are_learnt : (h : Contents) (d w : ℕ) (o : Out (List Value)) → AllLearnt h d w o → (vs : List Value) × ((k : Host) × (o ≡ (Ok vs, k)))
are_learnt h d w (Ok vs, k) r = (vs, (k, refl))
are_learnt h d w (Err e, k) r = absurd r

-- the same of several, from left to right
pub all_fit_learnt : (from : ℕ) (ps : Parts) (k : Host) → AllFit k.inside.heap 100 ps → (vs : List Value) × ((j : Host) × (learn_each (learn 100 from) ps k ≡ (Ok vs, j)))
all_fit_learnt from ps k f =
    are_learnt k.inside.heap 100 (parts_weight k.inside.heap ps) (learn_each (learn 100 from) ps k) (parts_learnt k.inside.heap 100 from ps k (λ e w v s. s) (omega arith) f)
