-- What is done names vats of the script, and frames are of 1 to 4,096 bytes.
use Rattle.std.proofs.Common.{◌≡◌, ◌<◌, ◌≤◌, ◌+◌, ◌*◌, ◌-◌, ◌/◌, ◌%◌, ◌&&◌, ◌==◌, ℕ, Bool, true, false, List, [], ◌∷◌, Option, Some, None, All, length, map, nat_le, refl, sym, subst, arith}
use Rattle.std.specs.Prelude.{option_map, if◌then◌else◌, slice_index}
use Rattle.std.specs.List.{range_with_len}
use Rattle.std.proofs.lemmas.Bool.Decides.{nat_tests}
use Rattle.std.proofs.lemmas.List.FromFn.{length-map-range_with_len}
use Rattle.std.proofs.lemmas.List.Elements.{All-nil, All-cons, All-append, All-head, All-tail}
use Rattle.serde_json.specs.Data.{Data}
use Rattle.serde_json.specs.Find.{as_str}
use Rattle.ev_text.specs.Lines.{split}
use Rattle.ev_script.specs.Head.{is_between, hex_value, key_byte}
use Rattle.ev_script.specs.Rules.{AreTwo, IsEntryOf}
use Rattle.ev_script.specs.Schedule.{told, placed, vat_word, round, written}
use Rattle.ev_script.specs.declared.script.Entry.{Entry}
use Rattle.ev_script.proofs.RuleLemmas.{both, chosen, answered, mapped, some_same, nat_apart}
use Rattle.ev_script.proofs.RuleSteps.{IsBelow, IsSpelledOf, IsStepOf, word_below, told_below, step_placed, step_written, either}
use Rattle.ev_play.specs.Doings.{Spelling, Plain, Injects, is_frame, inject_of, spelling_by, spelling_in, frame_bytes, placed_inject, placed_spelling, play_step_in, done_by, done_by_all, entries_in}
use Rattle.ev_play.specs.Rules.{IsFrame}
use Rattle.ev_play.specs.declared.doings.PlayStep.{PlayStep}
use Rattle.ev_play.specs.declared.doings.PlayStep.TheVariants as step
use Rattle.ev_play.specs.declared.play.Doing.{Doing}
use Rattle.ev_play.specs.declared.play.Doing.TheVariants.{Does, Inject}

-- ---- the bytes of a frame

digit_below : (c : ℕ) (a b : Bool) → is_between 48 57 c ≡ a → is_between 97 102 c ≡ b → (if a then c - 48 else if b then c - 87 else 0) < 16
digit_below c true b e f = grind (arith, nat_tests)
digit_below c false true e f = grind (arith, nat_tests)
digit_below c false false e f = omega arith

value_below : (c : ℕ) → hex_value c < 16
value_below c = digit_below c _ _ refl refl

byte_below : (a b : ℕ) → a < 16 → b < 16 → 16 * a + b < 256
byte_below a b la lb = omega (arith, la, lb)

all_bytes : (digits places : List ℕ) → All (λ b. b < 256) (map (key_byte digits) places)
all_bytes digits [] = All-nil (λ b. b < 256)
all_bytes digits (p ∷ ps) =
    let high = slice_index digits (2 * p) in
    let low = slice_index digits (2 * p + 1) in
    All-cons (λ b. b < 256) (key_byte digits p) (map (key_byte digits) ps) (byte_below (hex_value high) (hex_value low) (value_below high) (value_below low)) (all_bytes digits ps)

bytes_within : (n : ℕ) → 2 ≤ n → n ≤ 8192 → (1 ≤ n / 2) × (n / 2 ≤ 4096)
bytes_within n low high = (grind arith, grind arith)

between : (low high n : ℕ) → is_between low high n ≡ true → (low ≤ n) × (n ≤ high)
between low high n e = let b = both (nat_le low n) (nat_le n high) e in let l = b.0 in let h = b.1 in (grind (arith, nat_tests), grind (arith, nat_tests))

frame_is : (digits : List ℕ) → is_frame digits ≡ true → IsFrame (frame_bytes digits)
frame_is digits e =
    let a = both (is_between 2 8192 (length digits) && (length digits % 2 == 0)) _ e in
    let b = both (is_between 2 8192 (length digits)) _ a.0 in
    let w = between 2 8192 (length digits) b.0 in
    let n = bytes_within (length digits) w.0 w.1 in
    let same : length digits / 2 ≡ length (frame_bytes digits) = sym (length-map-range_with_len (key_byte digits) 0 (length digits / 2)) in (
      subst (λ k. 1 ≤ k) same n.0,
      subst (λ k. k ≤ 4096) same n.1,
      all_bytes digits (range_with_len 0 (length digits / 2)),
    )

-- ---- what is to be done, as it is spelled

abbrev IsSpellingOf : ℕ → Spelling → Type 0
IsSpellingOf count (Plain s) = IsSpelledOf count s
IsSpellingOf count (Injects v w digits) = IsBelow count v × IsBelow count w × (is_frame digits ≡ true)

inject_below : (names : List (List ℕ)) (rest : List ℕ) (s : Spelling) → inject_of names rest ≡ Some s → IsSpellingOf (length names) s
inject_below names rest s e =
    let a = answered (split rest) _ s e in
    let b = answered (split a.0.1) _ s a.2 in
    let c = answered (vat_word names a.0.0) _ s b.2 in
    let d = answered (vat_word names b.0.0) (λ w. if is_frame b.0.1 then Some (Injects c.0 w b.0.1) else None) s c.2 in
    let f = chosen (is_frame b.0.1) (Injects c.0 d.0 b.0.1) s d.2 in
    subst (IsSpellingOf (length names)) f.1 (word_below names a.0.0 c.0 c.1, word_below names b.0.0 d.0 d.1, f.0)

plain_below : (names : List (List ℕ)) (word rest : List ℕ) (s : Spelling) → option_map Plain (told names word rest) ≡ Some s → IsSpellingOf (length names) s
plain_below names word rest s e = let m = mapped (told names word rest) Plain s e in subst (IsSpellingOf (length names)) m.2 (told_below names word rest m.0 m.1)

spelling_below : (names : List (List ℕ)) (d : Data) (s : Spelling) → spelling_in names d ≡ Some s → IsSpellingOf (length names) s
spelling_below names d s e =
    let a = answered (as_str d) (spelling_by names) s e in
    let b = answered (split a.0) _ s a.2 in
    either (IsSpellingOf (length names)) _ _ _ (inject_below names b.0.1) (plain_below names b.0.0 b.0.1) s b.2

-- ---- a step: its vats are in the script, and two of one entry differ

abbrev pub IsPlayStepOf : ℕ → PlayStep → Type 0
IsPlayStepOf count (step.Plain s) = IsStepOf count s
IsPlayStepOf count (step.Inject v w bytes) = AreTwo count v w × IsFrame bytes

apart_inject : (count a b : ℕ) (digits : List ℕ) (t : Bool) (s : PlayStep) → (a == b) ≡ t → a < count → b < count → is_frame digits ≡ true
    → (if t then None else Some (step.Inject a b (frame_bytes digits))) ≡ Some s → IsPlayStepOf count s
apart_inject count a b digits true s e la lb f h = cc
apart_inject count a b digits false s e la lb f h =
    let n : step.Inject a b (frame_bytes digits) ≡ s = some_same h in
    subst (IsPlayStepOf count) n ((la, lb, nat_apart a b e), frame_is digits f)

inject_placed : (count : ℕ) (o p : Option ℕ) (digits : List ℕ) (s : PlayStep) → IsBelow count o → IsBelow count p → is_frame digits ≡ true → placed_inject o p digits ≡ Some s → IsPlayStepOf count s
inject_placed count (Some a) (Some b) digits s la lb f e = apart_inject count a b digits (a == b) s refl la lb f e
inject_placed count None p digits s la lb f e = cc
inject_placed count (Some a) None digits s la lb f e = cc

spelling_placed : (count : ℕ) (x : Spelling) (s : PlayStep) → IsSpellingOf count x → placed_spelling x ≡ Some s → IsPlayStepOf count s
spelling_placed count (Plain x) s h e = let m = mapped (placed x) step.Plain s e in subst (IsPlayStepOf count) m.2 (step_placed count x m.0 h m.1)
spelling_placed count (Injects v w digits) s h e = inject_placed count v w digits s h.0 h.1 h.2 e

pub play_step_is : (names : List (List ℕ)) (d : Data) (s : PlayStep) → play_step_in names d ≡ Some s → IsPlayStepOf (length names) s
play_step_is names d s e =
    let a = answered (spelling_in names d) placed_spelling s e in
    spelling_placed (length names) a.0 s (spelling_below names d a.0 a.1) a.2

-- ---- drains written out

abbrev pub IsPlaced : ℕ → Doing → Type 0
IsPlaced count (Does e) = IsEntryOf count e
IsPlaced count (Inject v w bytes) = AreTwo count v w × IsFrame bytes

all_does : (count : ℕ) (es : List Entry) → All (IsEntryOf count) es → All (IsPlaced count) (map Does es)
all_does count [] h = All-nil (IsPlaced count)
all_does count (e ∷ es) h = All-cons (IsPlaced count) (Does e) (map Does es) (All-head (IsEntryOf count) e es h) (all_does count es (All-tail (IsEntryOf count) e es h))

step_done : (count : ℕ) (s : PlayStep) → IsPlayStepOf count s → All (IsPlaced count) (done_by (round count) s)
step_done count (step.Plain s) h = all_does count (written (round count) s) (step_written count s h)
step_done count (step.Inject v w bytes) h = All-cons (IsPlaced count) (Inject v w bytes) [] h (All-nil (IsPlaced count))

pub all_placed : (count : ℕ) (steps : List PlayStep) → All (IsPlayStepOf count) steps → All (IsPlaced count) (done_by_all (round count) steps)
all_placed count [] h = All-nil (IsPlaced count)
all_placed count (s ∷ ss) h =
    All-append (IsPlaced count) (done_by (round count) s) (done_by_all (round count) ss) (step_done count s (All-head (IsPlayStepOf count) s ss h))
    (all_placed count ss (All-tail (IsPlayStepOf count) s ss h))

-- ---- the entries among what is done

pub entries_are : (count : ℕ) (ds : List Doing) → All (IsPlaced count) ds → All (IsEntryOf count) (entries_in ds)
entries_are count [] h = All-nil (IsEntryOf count)
entries_are count (Does e ∷ ds) h = All-cons (IsEntryOf count) e (entries_in ds) (All-head (IsPlaced count) (Does e) ds h) (entries_are count ds (All-tail (IsPlaced count) (Does e) ds h))
entries_are count (Inject v w bytes ∷ ds) h = entries_are count ds (All-tail (IsPlaced count) (Inject v w bytes) ds h)

pub fewer : (ds : List Doing) → length (entries_in ds) ≤ length ds
fewer [] = omega arith
fewer (Does e ∷ ds) = let l = fewer ds in omega (arith, l)
fewer (Inject v w bytes ∷ ds) = let l = fewer ds in omega (arith, l)
