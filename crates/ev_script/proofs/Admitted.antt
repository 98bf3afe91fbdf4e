-- Each script that is read is as the rules say.
use Rattle.std.proofs.Common.{◌≡◌, ◌≢◌, ◌≤◌, ◌&&◌, ℕ, suc, Bool, true, false, List, [], ◌∷◌, Option, Some, None, Result, Ok, Err, IfOk, All, AllPairs, length, get_or, codes, refl, sym, ◌∙◌, ap, subst, subst₂, arith, nat_le, add-zero}
use Rattle.std.specs.Prelude.{option_and_then, if◌then◌else◌}
use Rattle.std.specs.List.{list_all}
use Rattle.std.proofs.lemmas.Bool.Decides.{nat_tests}
use Rattle.std.proofs.lemmas.List.Sums.{AllPass-from_list_all}
use Rattle.std.proofs.lemmas.List.Folds.{list_all-map}
use Rattle.serde_json.specs.Data.{Data}
use Rattle.serde_json.specs.Find.{get, as_u64, as_number}
use Rattle.ev_script.specs.Json.{each, text_at, list_at, json_of}
use Rattle.ev_script.specs.Head.{is_script_object, key_of, key_from, key_bytes, is_key, fuel_of, fuel_from, bounded_fuel}
use Rattle.ev_script.specs.Vats.{is_vat_name, vat_of, vats_in, vats_of, names_of, are_vat_names, differ, is_source, known_from}
use Rattle.ev_script.specs.Schedule.{entries_of, step_in, round, written_out, are_in_order}
use Rattle.ev_script.specs.Script.{◌>>=◌, rule, rule_holds, read_vats, most_entries, write_out, read_schedule, read_rest, read_value, read, Reads}
use Rattle.ev_script.specs.Rules.{AreVats, KnowsOthers, IsEntryOf, CutsComeFirst, IsAdmitted}
use Rattle.ev_script.specs.declared.vats.Described.{Described}
use Rattle.ev_script.specs.declared.entries.Step.{Step}
use Rattle.ev_script.specs.declared.script.Entry.{Entry}
use Rattle.ev_script.specs.declared.script.Script.{Script}
use Rattle.ev_script.specs.declared.script.ScriptFault.{ScriptFault}
use Rattle.ev_script.specs.declared.script.VatScript.{VatScript}
use Rattle.ev_script.proofs.RuleLemmas.{both, chosen, answered, each_is, names_differ, some_same, FromPlace, vats_known, same_names, each_vat, vat_at}
use Rattle.ev_script.proofs.RuleSteps.{IsStepOf, step_is, all_written, cuts_stand}

-- ---- what a chain of rules that gave something gave on its way

pub gave : {A B : Type 0} (r : Result A ℕ) (f : A → Result B ℕ) (y : B) → (r >>= f) ≡ Ok y → (x : A) × (r ≡ Ok x) × (f x ≡ Ok y)
gave (Ok x) f y e = (x, refl, e)
gave (Err k) f y e = cc

ruled : {A : Type 0} (k : ℕ) (o : Option A) (x : A) → rule k o ≡ Ok x → o ≡ Some x
ruled k (Some y) x e = cc
ruled k None x e = cc

upheld : (k : ℕ) (b : Bool) (u : Unit {0}) → rule_holds k b ≡ Ok u → b ≡ true
upheld k true u e = refl
upheld k false u e = cc

-- a rule that gives, and a rule that holds, at the head of a chain
pub by_rule : {A B : Type 0} (k : ℕ) (o : Option A) (f : A → Result B ℕ) (y : B) → (rule k o >>= f) ≡ Ok y → (x : A) × (o ≡ Some x) × (f x ≡ Ok y)
by_rule k o f y e = let g = gave (rule k o) f y e in (g.0, ruled k o g.0 g.1, g.2)

pub by_test : {B : Type 0} (k : ℕ) (b : Bool) (f : Unit {0} → Result B ℕ) (y : B) → (rule_holds k b >>= f) ≡ Ok y → (b ≡ true) × (f tt ≡ Ok y)
by_test k true f y e = (refl, e)
by_test k false f y e = cc

-- ---- the head

pub key_is : (d : Data) (key : List ℕ) → key_of d ≡ Some key → length key ≡ 32
key_is d key e =
    let a = answered (text_at (codes "key") d) key_from key e in
    let c = chosen (is_key a.0) (key_bytes a.0) key a.2 in
    subst (λ k. length k ≡ 32) c.1 refl

bounded_is : (n fuel : ℕ) → bounded_fuel n ≡ Some fuel → (1 ≤ fuel) × (fuel ≤ 10000000)
bounded_is n fuel e =
    let c = chosen (nat_le 1 n && nat_le n 10000000) n fuel e in
    let b = both (nat_le 1 n) (nat_le n 10000000) c.0 in
    let low = b.0 in
    let high = b.1 in
    let same = c.1 in
    (grind (arith, nat_tests), grind (arith, nat_tests))

pub from_is : (o : Option Data) (fuel : ℕ) → fuel_from o ≡ Some fuel → (1 ≤ fuel) × (fuel ≤ 10000000)
from_is None fuel e = let n : 1000000 ≡ fuel = some_same e in subst (λ f. (1 ≤ f) × (f ≤ 10000000)) n (omega arith, omega arith)
from_is (Some d) fuel e = let a = answered (option_and_then as_u64 (as_number d)) bounded_fuel fuel e in bounded_is a.0 fuel a.2

-- ---- the vats

abbrev pub AreDescribed : List Described → Type 0
AreDescribed ds = (length ds ≤ 16) × (are_vat_names (names_of ds) ≡ true) × (list_all is_source ds ≡ true)

few : (b : Bool) (vats : List Data) (ds : List Described) → nat_le (length vats) 16 ≡ b → (if b then each vat_of vats else None) ≡ Some ds → length ds ≤ 16
few true vats ds t e =
    let n = (each_is vat_of (λ d. Unit {0}) (λ x y h. tt) vats ds e).1 in
    let m : length vats ≤ 16 = grind (arith, nat_tests) in
    subst (λ k. k ≤ 16) (sym n) m
few false vats ds t e = cc

pub described : (d : Data) (ds : List Described) → read_vats d ≡ Ok ds → AreDescribed ds
unfolding read_vats
described d ds e =
    let a = by_rule 5 (vats_of d) _ ds e in
    let v = answered (list_at (codes "vats") d) vats_in a.0 a.1 in
    let b = by_test 6 (are_vat_names (names_of a.0)) _ ds a.2 in
    let c = by_test 7 (list_all is_source a.0) _ ds b.1 in
    let last = c.1 in
    let n : a.0 ≡ ds = cc in
    subst AreDescribed n (few (nat_le (length v.0) 16) v.0 a.0 refl v.2, b.0, c.0)

abbrev IsNamed : Described → Type 0
IsNamed d = (is_vat_name d.name ≡ true) × (length d.source ≤ 65536)

short : (d : Described) → is_source d ≡ true → length d.source ≤ 65536
short d e = grind (arith, nat_tests)

all_named : (ds : List Described) → list_all is_vat_name (names_of ds) ≡ true → list_all is_source ds ≡ true → All IsNamed ds
all_named ds names sources =
    let n = AllPass-from_list_all (λ (d : Described). is_vat_name d.name) ds (sym (list_all-map is_vat_name (λ (d : Described). d.name) ds) ∙ names) in
    let s = AllPass-from_list_all is_source ds sources in
    λ k d lt. (n k d lt, short (get_or ds k d) (s k d lt))

pub vats_are : (ds : List Described) (vats : List VatScript) → AreDescribed ds → FromPlace (length (names_of ds)) 0 ds vats → AreVats vats
vats_are ds vats h from =
    let same = same_names (length (names_of ds)) 0 ds vats from in
    let b = both (list_all is_vat_name (names_of ds)) (differ (names_of ds)) h.1 in (
      subst (λ k. k ≤ 16) (sym same.1) h.0,
      subst (AllPairs ◌≢◌) (sym same.0) (names_differ (names_of ds) b.1),
      each_vat IsNamed (λ vat. (is_vat_name vat.name ≡ true) × (length vat.source ≤ 65536)) (length (names_of ds)) 0 ds vats from (all_named ds b.0 h.2)
          (λ d vat n s q. (subst (λ x. is_vat_name x ≡ true) (sym n) q.0, subst (λ x. length x ≤ 65536) (sym s) q.1)),
    )

-- ---- the schedule

abbrev pub AreEntries : ℕ → List Entry → Type 0
AreEntries count es = (length es ≤ most_entries) × All (IsEntryOf count) es

pub within : {A : Type 0} (b : Bool) (x : A) (k : ℕ) (y : A) → if◌then◌else◌ {A = Result A ℕ} b (Ok x) (Err k) ≡ Ok y → (b ≡ true) × (x ≡ y)
within true x k y e = (refl, cc)
within false x k y e = cc

written_is : (names : List (List ℕ)) (steps : List Step) (es : List Entry) → All (IsStepOf (length names)) steps → write_out (round (length names)) steps ≡ Ok es → AreEntries (length names) es
unfolding write_out
written_is names steps es h e =
    let w = within (nat_le (length (written_out (round (length names)) steps)) most_entries) (written_out (round (length names)) steps) 11 es e in
    let few = w.0 in
    let m : length (written_out (round (length names)) steps) ≤ most_entries = grind (arith, nat_tests) in
    subst (AreEntries (length names)) w.1 (m, all_written (length names) steps h)

schedule_is : (names : List (List ℕ)) (d : Data) (es : List Entry) → read_schedule names d ≡ Ok es → AreEntries (length names) es × CutsComeFirst es
unfolding read_schedule
schedule_is names d es e =
    let a = by_rule 9 (entries_of names d) _ es e in
    let b = by_rule 10 (each (step_in names) a.0) _ es a.2 in
    let c = gave (write_out (round (length names)) b.0) _ es b.2 in
    let o = by_test 12 (are_in_order [] c.0) _ es c.2 in
    let last = o.1 in
    let n : c.0 ≡ es = cc in
    let steps = (each_is (step_in names) (IsStepOf (length names)) (λ x y h. step_is names x y h) a.0 b.0 b.1).0 in
    subst (λ xs. AreEntries (length names) xs × CutsComeFirst xs) n (written_is names b.0 c.0 steps c.1, cuts_stand [] c.0 o.0)

-- ---- the whole

pub count_of : (ds : List Described) → length (names_of ds) ≡ length ds
count_of [] = refl
count_of (d ∷ ds) = ap suc (count_of ds)

abbrev value : {A : Type 0} → A → Result A ℕ
value x = Ok x

pub ok_same : {A : Type 0} {x y : A} → value x ≡ value y → x ≡ y
ok_same e = cc

rest_is : (key : List ℕ) (fuel : ℕ) (ds : List Described) (d : Data) (script : Script) → length key ≡ 32 → (1 ≤ fuel) × (fuel ≤ 10000000) → AreDescribed ds → read_rest key fuel ds d ≡ Ok script → IsAdmitted script
unfolding read_rest
rest_is key fuel ds d script k f h e =
    let a = by_rule 8 (known_from (names_of ds) 0 ds) _ script e in
    let b = gave (read_schedule (names_of ds) d) _ script a.2 in
    let from = vats_known (names_of ds) 0 ds a.0 a.1 in
    let same : length (names_of ds) ≡ length a.0 = count_of ds ∙ sym (same_names (length (names_of ds)) 0 ds a.0 from).1 in
    let s = schedule_is (names_of ds) d b.0 b.1 in
    let n : record { key = key; fuel = fuel; vats = a.0; schedule = b.0 } ≡ script = ok_same b.2 in
    subst IsAdmitted n (record {
      key = k;
      fuel = f;
      vats = vats_are ds a.0 h from;
      knows = λ place vat g. subst₂ (λ c p. KnowsOthers c p vat) same (add-zero place) (vat_at (length (names_of ds)) 0 ds a.0 from place vat g);
      schedule = subst (λ c. AreEntries c b.0) same s.0;
      cuts_first = s.1;
    })

admitted : (bytes : List ℕ) (script : Script) → read bytes ≡ Ok script → IsAdmitted script
unfolding read read_value
admitted bytes script e =
    let j = by_rule 1 (json_of bytes) _ script e in
    let o = by_test 2 (is_script_object j.0) _ script j.2 in
    let k = by_rule 3 (key_of j.0) _ script o.1 in
    let f = by_rule 4 (fuel_of j.0) _ script k.2 in
    let v = gave (read_vats j.0) _ script f.2 in
    rest_is k.0 f.0 v.0 j.0 script (key_is j.0 k.0 k.1) (from_is (get (codes "fuel") j.0) f.0 f.1) (described j.0 v.0 v.1) v.2

pub read_admitted : (bytes : List ℕ) (result : Result Script ScriptFault) → Reads result (read bytes) → IfOk result IsAdmitted
read_admitted bytes (Ok script) reads = admitted bytes script reads
read_admitted bytes (Err fault) reads = tt
