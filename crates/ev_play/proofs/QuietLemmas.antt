-- Bytes that name no hostile vat and inject nothing are read as a script is, rule by rule.
use Rattle.std.proofs.Common.{◌≡◌, ◌+◌, ◌++◌, ◌&&◌, ℕ, Bool, true, false, List, [], ◌∷◌, Option, Some, None, Result, Ok, Err, All, length, map, codes, is_some, refl, sym, ◌∙◌, ap, ap₂, nat_le}
use Rattle.std.specs.Prelude.{option_map, option_and_then, if◌then◌else◌}
use Rattle.std.specs.List.{list_all}
use Rattle.std.specs.Str.{bytes_eq}
use Rattle.std.proofs.lemmas.List.{length-map}
use Rattle.std.proofs.lemmas.List.Elements.{All-head, All-tail}
use Rattle.serde_json.specs.Data.{Data}
use Rattle.serde_json.specs.Find.{get, as_str}
use Rattle.ev_text.specs.Lines.{split}
use Rattle.ev_script.specs.Json.{each, has_members, list_at, json_of}
use Rattle.ev_script.specs.Head.{is_script_object, key_of, fuel_of}
use Rattle.ev_script.specs.Vats.{names_of, known_from}
use Rattle.ev_script.specs.Schedule.{told, placed, spelled_by, spelled_in, is_spelled, step_in, round, written, written_out, are_in_order}
use Rattle.ev_script.specs.Script.{◌>>=◌, rule, rule_holds, read_vats, most_entries, write_out, read_schedule, read_rest, read_value, read}
use Rattle.ev_script.specs.declared.entries.Spelled.{Spelled}
use Rattle.ev_script.specs.declared.entries.Step.{Step}
use Rattle.ev_script.specs.declared.script.Entry.{Entry}
use Rattle.ev_script.specs.declared.script.VatScript.{VatScript}
use Rattle.ev_script.specs.declared.vats.Described.{Described}
use Rattle.ev_play.specs.Doings.{Plain, spelling_of, spelling_by, spelling_in, is_spelling, placed_spelling, play_step_in, done_by_all, entries_in}
use Rattle.ev_play.specs.Hostile.{member_there, is_play_object, hostile_from, has_no_source, may_do}
use Rattle.ev_play.specs.Play.{do_all, read_doings, read_hostile, read_play_rest, read_play_value, read_play}
use Rattle.ev_play.specs.Quiet.{begins_inject, is_inject, injects, IsQuietValue, play_of, given, QuietPlaysAreScripts}
use Rattle.ev_play.specs.declared.doings.PlayStep.{PlayStep}
use Rattle.ev_play.specs.declared.doings.PlayStep.TheVariants as step
use Rattle.ev_play.specs.declared.play.Doing.{Doing}
use Rattle.ev_play.specs.declared.play.Doing.TheVariants.{Does}
use Rattle.ev_play.specs.declared.play.Play.{Play}

-- ---- chains of rules

bound : {A B C : Type 0} (h : B → C) (r : Result A ℕ) (f : A → Result C ℕ) (g : A → Result B ℕ) → ((x : A) → f x ≡ given h (g x)) → (r >>= f) ≡ given h (r >>= g)
bound h (Ok x) f g same = same x
bound h (Err k) f g same = refl

-- the first of two chains gives what is made of what the first of the other gives
bound_made : {A B C D : Type 0} (h : B → C) (m : A → D) (r : Result A ℕ) (f : D → Result C ℕ) (g : A → Result B ℕ) → ((x : A) → f (m x) ≡ given h (g x))
    → (given m r >>= f) ≡ given h (r >>= g)
bound_made h m (Ok x) f g same = same x
bound_made h m (Err k) f g same = refl

ruled : {A B : Type 0} (k : ℕ) (m : A → B) (o : Option A) → rule k (option_map m o) ≡ given m (rule k o)
ruled k m None = refl
ruled k m (Some x) = refl

-- ---- the members

count_same : (b : Bool) → (3 + (if b then 1 else 0)) + 0 ≡ (if b then 4 else 3)
count_same true = refl
count_same false = refl

object_same : (d : Data) → get (codes "hostile") d ≡ None → is_play_object d ≡ is_script_object d
object_same d none =
    ap (λ n. has_members n (codes "key" ∷ codes "vats" ∷ codes "schedule" ∷ []) d)
    (ap (λ (o : Option Data). (3 + member_there (codes "fuel") d) + (if is_some o then 1 else 0)) none ∙ count_same (is_some (get (codes "fuel") d)))

-- ---- the spelling

second_chosen : {A : Type 0} (b : Bool) (x y : A) → b ≡ false → (if b then x else y) ≡ y
second_chosen false x y e = refl
second_chosen true x y e = cc

words_quiet : (names : List (List ℕ)) (o : Option (List ℕ × List ℕ)) → begins_inject o ≡ false
    → option_and_then (λ words. spelling_of names words.0 words.1) o ≡ option_map Plain (option_and_then (λ words. told names words.0 words.1) o)
words_quiet names None quiet = refl
words_quiet names (Some words) quiet = second_chosen (bytes_eq words.0 (codes "inject")) _ _ quiet

text_quiet : (names : List (List ℕ)) (o : Option (List ℕ)) → is_inject o ≡ false → option_and_then (spelling_by names) o ≡ option_map Plain (option_and_then (spelled_by names) o)
text_quiet names None quiet = refl
text_quiet names (Some text) quiet = words_quiet names (split text) quiet

spelling_quiet : (names : List (List ℕ)) (v : Data) → injects v ≡ false → spelling_in names v ≡ option_map Plain (spelled_in names v)
spelling_quiet names v quiet = text_quiet names (as_str v) quiet

some_map : {A B : Type 0} (f : A → B) (o : Option A) → is_some (option_map f o) ≡ is_some o
some_map f None = refl
some_map f (Some x) = refl

all_spelled : (names : List (List ℕ)) (vs : List Data) → All (λ v. injects v ≡ false) vs → list_all (is_spelling names) vs ≡ list_all (is_spelled names) vs
all_spelled names [] quiet = refl
all_spelled names (v ∷ vs) quiet =
    ap₂ ◌&&◌ (ap is_some (spelling_quiet names v (All-head (λ v. injects v ≡ false) v vs quiet)) ∙ some_map Plain (spelled_in names v))
    (all_spelled names vs (All-tail (λ v. injects v ≡ false) v vs quiet))

-- ---- the steps

placed_plain : (o : Option Spelled) → option_and_then placed_spelling (option_map Plain o) ≡ option_map step.Plain (option_and_then placed o)
placed_plain None = refl
placed_plain (Some s) = refl

step_quiet : (names : List (List ℕ)) (v : Data) → injects v ≡ false → play_step_in names v ≡ option_map step.Plain (step_in names v)
step_quiet names v quiet = ap (option_and_then placed_spelling) (spelling_quiet names v quiet) ∙ placed_plain (spelled_in names v)

both_made : {A B : Type 0} (m : A → B) (a : Option A) (o : Option (List A))
    → option_and_then (λ y. option_and_then (λ ys. Some (y ∷ ys)) (option_map (map m) o)) (option_map m a) ≡ option_map (map m) (option_and_then (λ y. option_and_then (λ ys. Some (y ∷ ys)) o) a)
both_made m None o = refl
both_made m (Some y) None = refl
both_made m (Some y) (Some ys) = refl

steps_quiet : (names : List (List ℕ)) (vs : List Data) → All (λ v. injects v ≡ false) vs → each (play_step_in names) vs ≡ option_map (map step.Plain) (each (step_in names) vs)
steps_quiet names [] quiet = refl
steps_quiet names (v ∷ vs) quiet =
    ap (λ a. option_and_then (λ y. option_and_then (λ ys. Some (y ∷ ys)) (each (play_step_in names) vs)) a) (step_quiet names v (All-head (λ v. injects v ≡ false) v vs quiet))
    ∙ ap (λ o. option_and_then (λ y. option_and_then (λ ys. Some (y ∷ ys)) o) (option_map step.Plain (step_in names v))) (steps_quiet names vs (All-tail (λ v. injects v ≡ false) v vs quiet))
    ∙ both_made step.Plain (step_in names v) (each (step_in names) vs)

-- ---- what is done

map_append : {A B : Type 0} (f : A → B) (xs ys : List A) → map f (xs ++ ys) ≡ map f xs ++ map f ys
map_append f [] ys = refl
map_append f (x ∷ xs) ys = ap (λ zs. f x ∷ zs) (map_append f xs ys)

done_plain : (es : List Entry) (steps : List Step) → done_by_all es (map step.Plain steps) ≡ map Does (written_out es steps)
done_plain es [] = refl
done_plain es (s ∷ ss) = ap (λ ds. map Does (written es s) ++ ds) (done_plain es ss) ∙ sym (map_append Does (written es s) (written_out es ss))

pub entries_does : (es : List Entry) → entries_in (map Does es) ≡ es
entries_does [] = refl
entries_does (e ∷ es) = ap (λ fs. e ∷ fs) (entries_does es)

few_chosen : (b : Bool) (ds : List Doing) (es : List Entry) → ds ≡ map Does es → if◌then◌else◌ {A = Result (List Doing) ℕ} b (Ok ds) (Err 11) ≡ given (map Does) (if◌then◌else◌ {A = Result (List Entry) ℕ} b (Ok es) (Err 11))
few_chosen true ds es e = ap Ok e
few_chosen false ds es e = refl

all_done : (es : List Entry) (steps : List Step) → do_all es (map step.Plain steps) ≡ given (map Does) (write_out es steps)
unfolding do_all write_out
all_done es steps =
    let same = done_plain es steps in
    let count : length (done_by_all es (map step.Plain steps)) ≡ length (written_out es steps) = ap length same ∙ length-map (written_out es steps) Does in
    ap (λ n. if◌then◌else◌ {A = Result (List Doing) ℕ} (nat_le n most_entries) (Ok (done_by_all es (map step.Plain steps))) (Err 11)) count
    ∙ few_chosen (nat_le (length (written_out es steps)) most_entries) _ (written_out es steps) same

ordered : (es : List Entry) → (rule_holds 12 (are_in_order [] (entries_in (map Does es))) >>= (λ u. Ok (map Does es))) ≡ given (map Does) (rule_holds 12 (are_in_order [] es) >>= (λ u. Ok es))
ordered es =
    ap (λ fs. rule_holds 12 (are_in_order [] fs) >>= (λ u. Ok (map Does es))) (entries_does es)
    ∙ bound (map Does) (rule_holds 12 (are_in_order [] es)) (λ u. Ok (map Does es)) (λ u. Ok es) (λ u. refl)

placed_doings : List Entry → Option (List PlayStep) → Result (List Doing) ℕ
placed_doings es o = rule 10 o >>= (λ steps. do_all es steps >>= (λ doings. rule_holds 12 (are_in_order [] (entries_in doings)) >>= (λ u. Ok doings)))

placed_entries : List Entry → Option (List Step) → Result (List Entry) ℕ
placed_entries es o = rule 10 o >>= (λ steps. write_out es steps >>= (λ entries. rule_holds 12 (are_in_order [] entries) >>= (λ u. Ok entries)))

placed_same : (es : List Entry) (o : Option (List Step)) → placed_doings es (option_map (map step.Plain) o) ≡ given (map Does) (placed_entries es o)
unfolding placed_doings placed_entries
placed_same es None = refl
placed_same es (Some steps) =
    ap (λ r. r >>= (λ doings. rule_holds 12 (are_in_order [] (entries_in doings)) >>= (λ u. Ok doings))) (all_done es steps)
    ∙ bound_made (map Does) (map Does) (write_out es steps) _ _ ordered

listed_doings : (names : List (List ℕ)) (o : Option (List Data)) → ((vs : List Data) → o ≡ Some vs → All (λ v. injects v ≡ false) vs)
    → (rule 9 (option_and_then (λ vs. if list_all (is_spelling names) vs then Some vs else None) o) >>= (λ vs. placed_doings (round (length names)) (each (play_step_in names) vs)))
    ≡ given (map Does) (rule 9 (option_and_then (λ vs. if list_all (is_spelled names) vs then Some vs else None) o) >>= (λ vs. placed_entries (round (length names)) (each (step_in names) vs)))
listed_doings names None quiet = refl
listed_doings names (Some vs) quiet =
    ap (λ b. rule 9 (if b then Some vs else None) >>= (λ vs. placed_doings (round (length names)) (each (play_step_in names) vs))) (all_spelled names vs (quiet vs refl))
    ∙ by (list_all (is_spelled names) vs)
  where
    by : (b : Bool) → (rule 9 (if b then Some vs else None) >>= (λ vs. placed_doings (round (length names)) (each (play_step_in names) vs)))
        ≡ given (map Does) (rule 9 (if b then Some vs else None) >>= (λ vs. placed_entries (round (length names)) (each (step_in names) vs)))
    by true = ap (placed_doings (round (length names))) (steps_quiet names vs (quiet vs refl)) ∙ placed_same (round (length names)) (each (step_in names) vs)
    by false = refl

doings_same : (names : List (List ℕ)) (d : Data) → IsQuietValue d → read_doings names d ≡ given (map Does) (read_schedule names d)
unfolding read_doings read_schedule placed_doings placed_entries
doings_same names d quiet = listed_doings names (list_at (codes "schedule") d) quiet.1

-- ---- no vat is hostile

all_may : (es : List Entry) → list_all (may_do []) (map Does es) ≡ true
all_may [] = refl
all_may (e ∷ es) = all_may es

none_hostile : (names : List (List ℕ)) (vats : List VatScript) (es : List Entry) (d : Data) → get (codes "hostile") d ≡ None → read_hostile names vats (map Does es) d ≡ Ok []
unfolding read_hostile
none_hostile names vats es d none =
    ap (λ o. rule 13 (hostile_from names o) >>= (λ hostile. rule_holds 14 (list_all (has_no_source vats) hostile) >>= (λ u. rule_holds 15 (list_all (may_do hostile) (map Does es)) >>= (λ w. Ok hostile)))) none
    ∙ ap (λ b. rule_holds 15 b >>= (λ w. Ok [])) (all_may es)

-- ---- the whole

abbrev play_made : List ℕ → ℕ → List VatScript → List Doing → List ℕ → Play
play_made key fuel vats doings hostile = record { script = record { key = key; fuel = fuel; vats = vats; schedule = entries_in doings }; hostile = hostile; doings = doings }

made_same : (key : List ℕ) (fuel : ℕ) (vats : List VatScript) (es : List Entry) → play_made key fuel vats (map Does es) [] ≡ play_of (record { key = key; fuel = fuel; vats = vats; schedule = es })
made_same key fuel vats es = ap (λ schedule. record { script = record { key = key; fuel = fuel; vats = vats; schedule = schedule }; hostile = []; doings = map Does es }) (entries_does es)

rest_same : (key : List ℕ) (fuel : ℕ) (vats : List Described) (d : Data) → IsQuietValue d → read_play_rest key fuel vats d ≡ given play_of (read_rest key fuel vats d)
unfolding read_play_rest read_rest
rest_same key fuel vats d quiet =
    bound play_of (rule 8 (known_from (names_of vats) 0 vats)) _ _ (λ known.
    ap (λ r. r >>= (λ doings. read_hostile (names_of vats) known doings d >>= (λ hostile. Ok (play_made key fuel known doings hostile)))) (doings_same (names_of vats) d quiet)
    ∙ bound_made play_of (map Does) (read_schedule (names_of vats) d) _ _ (λ es.
    ap (λ r. r >>= (λ hostile. Ok (play_made key fuel known (map Does es) hostile))) (none_hostile (names_of vats) known es d quiet.0)
    ∙ ap Ok (made_same key fuel known es)))

value_same : (d : Data) → IsQuietValue d → read_play_value d ≡ given play_of (read_value d)
unfolding read_play_value read_value
value_same d quiet =
    ap (λ b. rule_holds 2 b >>= (λ u. rule 3 (key_of d) >>= (λ key. rule 4 (fuel_of d) >>= (λ fuel. read_vats d >>= (λ vats. read_play_rest key fuel vats d))))) (object_same d quiet.0)
    ∙ bound play_of (rule_holds 2 (is_script_object d)) _ _ (λ u.
    bound play_of (rule 3 (key_of d)) _ _ (λ key.
    bound play_of (rule 4 (fuel_of d)) _ _ (λ fuel.
    bound play_of (read_vats d) _ _ (λ vats. rest_same key fuel vats d quiet))))

by_value : (o : Option Data) → ((d : Data) → o ≡ Some d → IsQuietValue d) → (rule 1 o >>= read_play_value) ≡ given play_of (rule 1 o >>= read_value)
by_value None quiet = refl
by_value (Some d) quiet = value_same d (quiet d refl)

pub quiet_plays_are_scripts : QuietPlaysAreScripts
unfolding read_play read
quiet_plays_are_scripts bytes quiet = by_value (json_of bytes) quiet
