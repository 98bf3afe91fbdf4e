-- The entries of a schedule name vats of the script, and each notice stands behind a cut.
use Rattle.std.proofs.Common.{◌≡◌, ◌<◌, ◌≤◌, ◌+◌, ◌++◌, ◌==◌, ℕ, zero, suc, Bool, true, false, List, [], ◌∷◌, Option, Some, None, All, length, map, take, slice_get, refl, sym, subst, arith, append_assoc, append-nil}
use Rattle.std.specs.Prelude.{option_map, if◌then◌else◌}
use Rattle.std.specs.List.{list_any, flat_map, repeat, range_with_len}
use Rattle.std.proofs.lemmas.List.Elements.{All-nil, All-cons, All-append, All-head, All-tail}
use Rattle.serde_json.specs.Data.{Data}
use Rattle.serde_json.specs.Find.{as_str}
use Rattle.ev_script.specs.Vats.{place_of}
use Rattle.ev_text.specs.Lines.{split}
use Rattle.ev_script.specs.Schedule.{spelled_in, spelled_by, told, turn_of, drain_of, pair_of, vat_word, rounds_of, verb_of, placed, placed_pair, pair_step, step_in, carry_to, carries_from, round, written, written_out, cuts, may_follow, are_in_order}
use Rattle.ev_script.specs.Rules.{AreTwo, IsEntryOf}
use Rattle.ev_script.specs.declared.entries.Verb.{Verb}
use Rattle.ev_script.specs.declared.entries.Verb.TheVariants as verb
use Rattle.ev_script.specs.declared.entries.Spelled.{Spelled}
use Rattle.ev_script.specs.declared.entries.Spelled.TheVariants as spelled
use Rattle.ev_script.specs.declared.entries.Step.{Step}
use Rattle.ev_script.specs.declared.entries.Step.TheVariants as step
use Rattle.ev_script.specs.declared.script.Entry.{Entry}
use Rattle.ev_script.specs.declared.script.Entry.TheVariants.{Turn, Carry, Cut, Notice}
use Rattle.ev_script.proofs.RuleLemmas.{both, chosen, answered, some_same, mapped, place_below, nat_apart}

-- ---- an entry as it is spelled: the vats that it names are those of places

abbrev pub IsBelow : ℕ → Option ℕ → Type 0
IsBelow count None = Unit {0}
IsBelow count (Some k) = k < count

abbrev pub IsSpelledOf : ℕ → Spelled → Type 0
IsSpelledOf count (spelled.Turn v) = IsBelow count v
IsSpelledOf count (spelled.Pair verb v w) = IsBelow count v × IsBelow count w
IsSpelledOf count (spelled.Drain n) = Unit {0}

below : (names : List (List ℕ)) (word : List ℕ) (o : Option ℕ) → place_of names word ≡ o → IsBelow (length names) o
below names word None e = tt
below names word (Some k) e = place_below names word k e

pub word_below : (names : List (List ℕ)) (text : List ℕ) (v : Option ℕ) → vat_word names text ≡ Some v → IsBelow (length names) v
word_below names text v e = let c = chosen _ _ v e in below names text v c.1

turn_below : (names : List (List ℕ)) (rest : List ℕ) (s : Spelled) → turn_of names rest ≡ Some s → IsSpelledOf (length names) s
turn_below names rest s e =
    let m = mapped (vat_word names rest) spelled.Turn s e in
    subst (IsSpelledOf (length names)) m.2 (word_below names rest m.0 m.1)

drain_below : (count : ℕ) (rest : List ℕ) (s : Spelled) → drain_of rest ≡ Some s → IsSpelledOf count s
drain_below count rest s e = let m = mapped (rounds_of rest) spelled.Drain s e in subst (IsSpelledOf count) m.2 tt

pair_below : (names : List (List ℕ)) (word rest : List ℕ) (s : Spelled) → pair_of names word rest ≡ Some s → IsSpelledOf (length names) s
pair_below names word rest s e =
    let a = answered (verb_of word) _ s e in
    let b = answered (split rest) _ s a.2 in
    let c = answered (vat_word names b.0.0) _ s b.2 in
    let d = answered (vat_word names b.0.1) (λ w. Some (spelled.Pair a.0 c.0 w)) s c.2 in
    let n : spelled.Pair a.0 c.0 d.0 ≡ s = some_same d.2 in
    subst (IsSpelledOf (length names)) n (word_below names b.0.0 c.0 c.1, word_below names b.0.1 d.0 d.1)

pub either : {A : Type 0} (P : A → Type 0) (b : Bool) (o p : Option A) → ((x : A) → o ≡ Some x → P x) → ((x : A) → p ≡ Some x → P x) → (x : A) → (if b then o else p) ≡ Some x → P x
either P true o p f g x e = f x e
either P false o p f g x e = g x e

pub told_below : (names : List (List ℕ)) (word rest : List ℕ) (s : Spelled) → told names word rest ≡ Some s → IsSpelledOf (length names) s
told_below names word rest s e = either (IsSpelledOf (length names)) _ _ _ (turn_below names rest) (either (IsSpelledOf (length names)) _ _ _ (drain_below (length names) rest) (pair_below names word rest)) s e

text_below : (names : List (List ℕ)) (text : List ℕ) (s : Spelled) → spelled_by names text ≡ Some s → IsSpelledOf (length names) s
text_below names text s e = let a = answered (split text) _ s e in told_below names a.0.0 a.0.1 s a.2

spelled_below : (names : List (List ℕ)) (d : Data) (s : Spelled) → spelled_in names d ≡ Some s → IsSpelledOf (length names) s
spelled_below names d s e = let a = answered (as_str d) (spelled_by names) s e in text_below names a.0 s a.2

-- ---- a step: its vats are in the script, and two of one entry differ

abbrev pub IsStepOf : ℕ → Step → Type 0
IsStepOf count (step.Turn v) = v < count
IsStepOf count (step.Carry v w) = AreTwo count v w
IsStepOf count (step.Cut v w) = AreTwo count v w
IsStepOf count (step.Notice v w) = AreTwo count v w
IsStepOf count (step.Rounds n) = Unit {0}

pair_is : (count : ℕ) (v : Verb) (a b : ℕ) → AreTwo count a b → IsStepOf count (pair_step v a b)
pair_is count verb.Carry a b h = h
pair_is count verb.Cut a b h = h
pair_is count verb.Notice a b h = h

apart_step : (count : ℕ) (v : Verb) (a b : ℕ) (t : Bool) (s : Step) → (a == b) ≡ t → a < count → b < count → (if t then None else Some (pair_step v a b)) ≡ Some s → IsStepOf count s
apart_step count v a b true s e la lb h = cc
apart_step count v a b false s e la lb h = let n : pair_step v a b ≡ s = some_same h in subst (IsStepOf count) n (pair_is count v a b (la, lb, nat_apart a b e))

pair_placed : (count : ℕ) (v : Verb) (o p : Option ℕ) (s : Step) → IsBelow count o → IsBelow count p → placed_pair v o p ≡ Some s → IsStepOf count s
pair_placed count v (Some a) (Some b) s la lb e = apart_step count v a b (a == b) s refl la lb e
pair_placed count v None p s la lb e = cc
pair_placed count v (Some a) None s la lb e = cc

turn_placed : (count : ℕ) (o : Option ℕ) (s : Step) → IsBelow count o → option_map step.Turn o ≡ Some s → IsStepOf count s
turn_placed count (Some v) s l e = let n : step.Turn v ≡ s = some_same e in subst (IsStepOf count) n l
turn_placed count None s l e = cc

pub step_placed : (count : ℕ) (x : Spelled) (s : Step) → IsSpelledOf count x → placed x ≡ Some s → IsStepOf count s
step_placed count (spelled.Turn v) s h e = turn_placed count v s h e
step_placed count (spelled.Pair v a b) s h e = pair_placed count v a b s h.0 h.1 e
step_placed count (spelled.Drain n) s h e = let m : step.Rounds n ≡ s = some_same e in subst (IsStepOf count) m tt

pub step_is : (names : List (List ℕ)) (d : Data) (s : Step) → step_in names d ≡ Some s → IsStepOf (length names) s
step_is names d s e =
    let a = answered (spelled_in names d) placed s e in
    step_placed (length names) a.0 s (spelled_below names d a.0 a.1) a.2

-- ---- drains written out

all_between : (from n count : ℕ) → from + n ≤ count → All (λ v. v < count) (range_with_len from n)
all_between from zero count h = All-nil (λ v. v < count)
all_between from (suc n) count h =
    let first : from < count = omega (arith, h) in
    let others : (from + 1) + n ≤ count = omega (arith, h) in
    All-cons (λ v. v < count) from (range_with_len (from + 1) n) first (all_between (from + 1) n count others)

turns_are : (count : ℕ) (vs : List ℕ) → All (λ v. v < count) vs → All (IsEntryOf count) (map Turn vs)
turns_are count [] h = All-nil (IsEntryOf count)
turns_are count (v ∷ vs) h = All-cons (IsEntryOf count) (Turn v) (map Turn vs) (All-head (λ w. w < count) v vs h) (turns_are count vs (All-tail (λ w. w < count) v vs h))

carry_is : (count v w : ℕ) (t : Bool) → (w == v) ≡ t → v < count → w < count → All (IsEntryOf count) (if t then [] else Carry v w ∷ [])
carry_is count v w true e lv lw = All-nil (IsEntryOf count)
carry_is count v w false e lv lw = All-cons (IsEntryOf count) (Carry v w) [] (lv, lw, λ same. nat_apart w v e (sym same)) (All-nil (IsEntryOf count))

all_flat : {A : Type 0} (P : Entry → Type 0) (f : A → List Entry) (Q : A → Type 0) → ((x : A) → Q x → All P (f x)) → (xs : List A) → All Q xs → All P (flat_map f xs)
all_flat P f Q h [] all = All-nil P
all_flat P f Q h (x ∷ xs) all = All-append P (f x) (flat_map f xs) (h x (All-head Q x xs all)) (all_flat P f Q h xs (All-tail Q x xs all))

carries_are : (count v : ℕ) (vs : List ℕ) → v < count → All (λ w. w < count) vs → All (IsEntryOf count) (carries_from vs v)
carries_are count v vs l all = all_flat (IsEntryOf count) (carry_to v) (λ w. w < count) (λ w lw. carry_is count v w (w == v) refl l lw) vs all

round_is : (count : ℕ) → All (IsEntryOf count) (round count)
round_is count =
    let vs = range_with_len 0 count in
    let whole : 0 + count ≤ count = omega arith in
    let all = all_between 0 count count whole in
    All-append (IsEntryOf count) (map Turn vs) (flat_map (carries_from vs) vs) (turns_are count vs all)
    (all_flat (IsEntryOf count) (carries_from vs) (λ v. v < count) (λ v l. carries_are count v vs l all) vs all)

rounds_are : (P : Entry → Type 0) (n : ℕ) (es : List Entry) → All P es → All P (repeat n es)
rounds_are P zero es h = All-nil P
rounds_are P (suc n) es h = All-append P es (repeat n es) h (rounds_are P n es h)

alone : (count : ℕ) (e : Entry) → IsEntryOf count e → All (IsEntryOf count) (e ∷ [])
alone count e h = All-cons (IsEntryOf count) e [] h (All-nil (IsEntryOf count))

pub step_written : (count : ℕ) (s : Step) → IsStepOf count s → All (IsEntryOf count) (written (round count) s)
step_written count (step.Turn v) h = alone count (Turn v) h
step_written count (step.Carry v w) h = alone count (Carry v w) h
step_written count (step.Cut v w) h = alone count (Cut v w) h
step_written count (step.Notice v w) h = alone count (Notice v w) h
step_written count (step.Rounds n) h = rounds_are (IsEntryOf count) n (round count) (round_is count)

pub all_written : (count : ℕ) (steps : List Step) → All (IsStepOf count) steps → All (IsEntryOf count) (written_out (round count) steps)
all_written count steps h = all_flat (IsEntryOf count) (written (round count)) (IsStepOf count) (step_written count) steps h

-- ---- cuts come first

pub cuts_stand : (before es : List Entry) → are_in_order before es ≡ true → (place v w : ℕ) → slice_get es place ≡ Some (Notice v w) → list_any (cuts v w) (before ++ take place es) ≡ true
cuts_stand before [] e place v w g = cc
cuts_stand before (x ∷ es) e zero v w g =
    let b = both (may_follow before x) (are_in_order (before ++ x ∷ []) es) e in
    let n : x ≡ Notice v w = some_same g in
    let m : may_follow before (Notice v w) ≡ true = subst (λ y. may_follow before y ≡ true) n b.0 in
    subst (λ bs. list_any (cuts v w) bs ≡ true) (sym (append-nil before)) m
cuts_stand before (x ∷ es) e (suc place) v w g =
    let b = both (may_follow before x) (are_in_order (before ++ x ∷ []) es) e in
    subst (λ bs. list_any (cuts v w) bs ≡ true) (append_assoc before (x ∷ []) (take place es)) (cuts_stand (before ++ x ∷ []) es b.1 place v w g)
