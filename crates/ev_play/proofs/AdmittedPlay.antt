-- Each play that is read is as the rules say.
use Rattle.std.proofs.Common.{◌≡◌, ◌≢◌, ◌<◌, ◌≤◌, ◌==◌, ℕ, true, false, List, [], ◌∷◌, Option, Some, None, Result, Ok, Err, IfOk, All, AllPairs, length, map, get_or, codes, refl, sym, ◌∙◌, ap, subst, subst₂, arith, nat_le, add-zero}
use Rattle.std.specs.Prelude.{if◌then◌else◌}
use Rattle.std.specs.List.{list_all}
use Rattle.std.proofs.lemmas.Bool.Decides.{nat_tests}
use Rattle.std.proofs.lemmas.List.Sums.{AllPass-from_list_all}
use Rattle.std.proofs.lemmas.List.Elements.{All-nil, All-head, All-tail}
use Rattle.serde_json.specs.Data.{Data}
use Rattle.serde_json.specs.Find.{get, as_str}
use Rattle.ev_script.specs.Json.{each, list_of, json_of}
use Rattle.ev_script.specs.Head.{key_of, fuel_of}
use Rattle.ev_script.specs.Vats.{names_of, place_of, stand_once, known_from}
use Rattle.ev_script.specs.Schedule.{round, are_in_order}
use Rattle.ev_script.specs.Script.{read_vats, most_entries, Reads}
use Rattle.ev_script.specs.Rules.{KnowsOthers, CutsComeFirst}
use Rattle.ev_script.specs.declared.vats.Described.{Described}
use Rattle.ev_script.specs.declared.script.ScriptFault.{ScriptFault}
use Rattle.ev_script.specs.declared.script.VatScript.{VatScript}
use Rattle.ev_script.proofs.RuleLemmas.{chosen, answered, each_is, some_same, place_below, once, vats_known, same_names, vat_at}
use Rattle.ev_script.proofs.RuleSteps.{cuts_stand}
use Rattle.ev_script.proofs.Admitted.{AreDescribed, AreEntries, by_rule, by_test, gave, within, key_is, from_is, described, vats_are, count_of, ok_same}
use Rattle.ev_play.specs.Doings.{doings_of, play_step_in, done_by_all, entries_in}
use Rattle.ev_play.specs.Hostile.{is_play_object, vat_named, hostile_in, hostile_from, hostile_of, is_empty_source, has_no_source, may_do}
use Rattle.ev_play.specs.Play.{do_all, read_doings, read_hostile, read_play_rest, read_play_value, read_play}
use Rattle.ev_play.specs.Rules.{IsDoingOf, HasNoSource, IsAdmittedPlay}
use Rattle.ev_play.specs.Quiet.{HonestPlaysAreScripts}
use Rattle.ev_play.specs.declared.doings.PlayStep.{PlayStep}
use Rattle.ev_play.specs.declared.play.Doing.{Doing}
use Rattle.ev_play.specs.declared.play.Doing.TheVariants.{Does, Inject}
use Rattle.ev_play.specs.declared.play.Play.{Play}
use Rattle.ev_play.proofs.StepLemmas.{IsPlayStepOf, play_step_is, IsPlaced, all_placed, entries_are, fewer}

-- ---- what is done

abbrev ArePlaced : ℕ → List Doing → Type 0
ArePlaced count ds = (length ds ≤ most_entries) × All (IsPlaced count) ds

few_done : (names : List (List ℕ)) (steps : List PlayStep) (ds : List Doing) → All (IsPlayStepOf (length names)) steps → do_all (round (length names)) steps ≡ Ok ds → ArePlaced (length names) ds
unfolding do_all
few_done names steps ds h e =
    let w = within (nat_le (length (done_by_all (round (length names)) steps)) most_entries) (done_by_all (round (length names)) steps) 11 ds e in
    let few = w.0 in
    let m : length (done_by_all (round (length names)) steps) ≤ most_entries = grind (arith, nat_tests) in
    subst (ArePlaced (length names)) w.1 (m, all_placed (length names) steps h)

doings_are : (names : List (List ℕ)) (d : Data) (ds : List Doing) → read_doings names d ≡ Ok ds → ArePlaced (length names) ds × CutsComeFirst (entries_in ds)
unfolding read_doings
doings_are names d ds e =
    let a = by_rule 9 (doings_of names d) _ ds e in
    let b = by_rule 10 (each (play_step_in names) a.0) _ ds a.2 in
    let c = gave (do_all (round (length names)) b.0) _ ds b.2 in
    let o = by_test 12 (are_in_order [] (entries_in c.0)) _ ds c.2 in
    let n : c.0 ≡ ds = ok_same o.1 in
    let steps = (each_is (play_step_in names) (IsPlayStepOf (length names)) (λ x y h. play_step_is names x y h) a.0 b.0 b.1).0 in
    subst (λ xs. ArePlaced (length names) xs × CutsComeFirst (entries_in xs)) n (few_done names b.0 c.0 steps c.1, cuts_stand [] (entries_in c.0) o.0)

-- ---- the hostile vats

abbrev AreVatsOnce : ℕ → List ℕ → Type 0
AreVatsOnce count hs = All (λ v. v < count) hs × AllPairs ◌≢◌ hs

named_below : (names : List (List ℕ)) (d : Data) (k : ℕ) → vat_named names d ≡ Some k → k < length names
named_below names d k e = let a = answered (as_str d) (place_of names) k e in place_below names a.0 k a.2

from_value : (names : List (List ℕ)) (d : Data) (hs : List ℕ) → hostile_in names d ≡ Some hs → AreVatsOnce (length names) hs
from_value names d hs e =
    let a = answered (list_of d) _ hs e in
    let b = answered (each (vat_named names) a.0) (λ places. if stand_once [] places then Some places else None) hs a.2 in
    let c = chosen (stand_once [] b.0) b.0 hs b.2 in
    let below = (each_is (vat_named names) (λ k. k < length names) (λ x y h. named_below names x y h) a.0 b.0 b.1).0 in
    subst (AreVatsOnce (length names)) c.1 (below, once [] b.0 c.0 (λ i j x lt within. absurd (omega (arith, within))))

from_member : (names : List (List ℕ)) (o : Option Data) (hs : List ℕ) → hostile_from names o ≡ Some hs → AreVatsOnce (length names) hs
from_member names (Some d) hs e = from_value names d hs e
from_member names None hs e =
    let n : [] ≡ hs = some_same e in
    subst (AreVatsOnce (length names)) n (All-nil (λ v. v < length names), λ i j x lt within. absurd (omega (arith, within)))

is_zero : (n : ℕ) → (n == 0) ≡ true → n ≡ 0
is_zero n e = grind (arith, nat_tests)

empty_list : (xs : List ℕ) → (length xs == 0) ≡ true → xs ≡ []
empty_list [] e = refl
empty_list (x ∷ xs) e = let z = is_zero (length (x ∷ xs)) e in absurd (omega (arith, z))

no_source : (vats : List VatScript) (v : ℕ) → has_no_source vats v ≡ true → HasNoSource vats v
no_source vats v e vat g = empty_list vat.source (subst (λ o. is_empty_source o ≡ true) g e)

all_silent : (vats : List VatScript) (hs : List ℕ) → list_all (has_no_source vats) hs ≡ true → All (HasNoSource vats) hs
all_silent vats hs e = let s = AllPass-from_list_all (has_no_source vats) hs e in λ k d lt. no_source vats (get_or hs k d) (s k d lt)

may_be : (count : ℕ) (hs : List ℕ) (d : Doing) → IsPlaced count d → may_do hs d ≡ true → IsDoingOf count hs d
may_be count hs (Does e) h m = h
may_be count hs (Inject v w bytes) h m = (h.0, m, h.1)

all_may : (count : ℕ) (hs : List ℕ) (ds : List Doing) → All (IsPlaced count) ds → list_all (may_do hs) ds ≡ true → All (IsDoingOf count hs) ds
all_may count hs ds h e = let m = AllPass-from_list_all (may_do hs) ds e in λ k d lt. may_be count hs (get_or ds k d) (h k d lt) (m k d lt)

abbrev AreHostile : ℕ → List VatScript → List Doing → List ℕ → Type 0
AreHostile count vats ds hs = AreVatsOnce count hs × All (HasNoSource vats) hs × (list_all (may_do hs) ds ≡ true)

hostile_are : (names : List (List ℕ)) (vats : List VatScript) (ds : List Doing) (d : Data) (hs : List ℕ) → read_hostile names vats ds d ≡ Ok hs → AreHostile (length names) vats ds hs
unfolding read_hostile
hostile_are names vats ds d hs e =
    let a = by_rule 13 (hostile_of names d) _ hs e in
    let b = by_test 14 (list_all (has_no_source vats) a.0) _ hs a.2 in
    let c = by_test 15 (list_all (may_do a.0) ds) _ hs b.1 in
    let n : a.0 ≡ hs = ok_same c.1 in
    subst (AreHostile (length names) vats ds) n (from_member names (get (codes "hostile") d) a.0 a.1, all_silent vats a.0 b.0, c.0)

-- ---- the whole

rest_is : (key : List ℕ) (fuel : ℕ) (vats : List Described) (d : Data) (play : Play) → length key ≡ 32 → (1 ≤ fuel) × (fuel ≤ 10000000) → AreDescribed vats → read_play_rest key fuel vats d ≡ Ok play → IsAdmittedPlay play
unfolding read_play_rest
rest_is key fuel ds d play k f h e =
    let a = by_rule 8 (known_from (names_of ds) 0 ds) _ play e in
    let b = gave (read_doings (names_of ds) d) _ play a.2 in
    let c = gave (read_hostile (names_of ds) a.0 b.0 d) _ play b.2 in
    let from = vats_known (names_of ds) 0 ds a.0 a.1 in
    let same : length (names_of ds) ≡ length a.0 = count_of ds ∙ sym (same_names (length (names_of ds)) 0 ds a.0 from).1 in
    let s = doings_are (names_of ds) d b.0 b.1 in
    let t = hostile_are (names_of ds) a.0 b.0 d c.0 c.1 in
    let n : record { script = record { key = key; fuel = fuel; vats = a.0; schedule = entries_in b.0 }; hostile = c.0; doings = b.0 } ≡ play = ok_same c.2 in
    let few : length (entries_in b.0) ≤ most_entries = omega (arith, fewer b.0, s.0.0) in
    subst IsAdmittedPlay n (record {
      script = record {
        key = k;
        fuel = f;
        vats = vats_are ds a.0 h from;
        knows = λ place vat g. subst₂ (λ m p. KnowsOthers m p vat) same (add-zero place) (vat_at (length (names_of ds)) 0 ds a.0 from place vat g);
        schedule = subst (λ m. AreEntries m (entries_in b.0)) same (few, entries_are (length (names_of ds)) b.0 s.0.1);
        cuts_first = s.1;
      };
      schedule = refl;
      hostile = subst (λ m. AreVatsOnce m c.0) same t.0;
      silent = t.1;
      doings = subst (λ m. (length b.0 ≤ most_entries) × All (IsDoingOf m c.0) b.0) same (s.0.0, all_may (length (names_of ds)) c.0 b.0 s.0.1 t.2);
    })

pub admitted_play : (bytes : List ℕ) (play : Play) → read_play bytes ≡ Ok play → IsAdmittedPlay play
unfolding read_play read_play_value
admitted_play bytes play e =
    let j = by_rule 1 (json_of bytes) _ play e in
    let o = by_test 2 (is_play_object j.0) _ play j.2 in
    let k = by_rule 3 (key_of j.0) _ play o.1 in
    let f = by_rule 4 (fuel_of j.0) _ play k.2 in
    let v = gave (read_vats j.0) _ play f.2 in
    rest_is k.0 f.0 v.0 j.0 play (key_is j.0 k.0 k.1) (from_is (get (codes "fuel") j.0) f.0 f.1) (described j.0 v.0 v.1) v.2

pub read_admitted_play : (bytes : List ℕ) (result : Result Play ScriptFault) → Reads result (read_play bytes) → IfOk result IsAdmittedPlay
read_admitted_play bytes (Ok play) reads = admitted_play bytes play reads
read_admitted_play bytes (Err fault) reads = tt

-- ---- a play without hostile vats

false_true : {A : Type 0} → false ≡ true → A
false_true e = cc

all_entries : (count : ℕ) (ds : List Doing) → All (IsDoingOf count []) ds → ds ≡ map Does (entries_in ds)
all_entries count [] h = refl
all_entries count (Does e ∷ ds) h = ap (λ xs. Does e ∷ xs) (all_entries count ds (All-tail (IsDoingOf count []) (Does e) ds h))
all_entries count (Inject v w bytes ∷ ds) h = false_true (All-head (IsDoingOf count []) (Inject v w bytes) ds h).1

as_script : (play : Play) (hs : List ℕ) (ds : List Doing) → play.hostile ≡ hs → play.doings ≡ ds → play ≡ record { script = play.script; hostile = hs; doings = ds }
as_script play hs ds h d = rw (← h, ← d) refl

pub honest_plays_are_scripts : HonestPlaysAreScripts
honest_plays_are_scripts bytes play e none =
    let a = admitted_play bytes play e in
    let all = subst (λ hs. All (IsDoingOf (length play.script.vats) hs) play.doings) none a.doings.1 in
    as_script play [] (map Does play.script.schedule) none (all_entries (length play.script.vats) play.doings all ∙ ap (map Does) (sym a.schedule))
