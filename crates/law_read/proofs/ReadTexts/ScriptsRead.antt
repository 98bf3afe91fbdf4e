-- The text of the run of a script that is read is read again.
use Rattle.std.proofs.Common.{◌≡◌, ◌≢◌, ◌≤◌, ◌<◌, ◌+◌, ◌^◌, ◌||◌, ℕ, zero, suc, Bool, true, false, not, List, [], ◌∷◌, Ok, All, AllPairs, length, map, refl, sym, subst, arith}
use Rattle.std.specs.Prelude.{get_or}
use Rattle.std.specs.List.{list_all, list_any}
use Rattle.std.specs.Str.{bytes_eq}
use Rattle.std.proofs.lemmas.List.Elements.{All-head, All-tail}
use Rattle.std.proofs.lemmas.Slice.Eq.{bytes_eq-Decides}
use Rattle.def_kernel.specs.declared.node.Node.{Node}
use Rattle.def_run.specs.Text.{vat_names}
use Rattle.ev_script.specs.Rules.{IsAdmitted}
use Rattle.ev_script.specs.Script as script
use Rattle.ev_script.specs.Vats.{differ, is_vat_name}
use Rattle.ev_script.specs.declared.script.Script.{Script}
use Rattle.ev_script.specs.declared.script.VatScript.{VatScript}
use Rattle.ev_script.proofs.Admitted.{read_admitted}
use Rattle.ev_trace_words.specs.Laws.{AreNames}
use Rattle.law_read.specs.ReadScripts.Runs.{AreReadTo}
use Rattle.law_read.proofs.ReadScripts.AcceptedTexts.{entries_count, of_vats, vats_count}
use Rattle.law_read.proofs.ReadScripts.NeverAstray.{no_read_script_goes_astray}
use Rattle.law_read.proofs.ReadScripts.ReadTexts.{read_runs_are_bounded, trees}
use Rattle.law_read.proofs.ReadScripts.Vats.{names_are}
use Rattle.law_schedule.specs.Scripts.{machine_script}
use Rattle.law_text.proofs.Text.Front.{both_true}
use Rattle.law_text.specs.RunTexts.Laws.{IsOfVats}
use Rattle.law_read.specs.ReadTexts.Scripts.{EventsOfReadScriptsAreRead, TextsOfReadScriptsAreRead}
use Rattle.law_read.proofs.ReadTexts.RunsRead.{events_of_runs, texts_of_runs}

-- ---- names that differ pairwise

none_same : (w : List ℕ) (ws : List (List ℕ)) → ((j : ℕ) → j < length ws → w ≢ get_or ws j []) → not (list_any (bytes_eq w) ws) ≡ true
none_same w [] h = refl
none_same w (x ∷ ws) h = by (bytes_eq w x) refl (h zero (omega arith)) (none_same w ws (λ j l. h (suc j) (omega (arith, l))))
  where
    by : (t : Bool) → bytes_eq w x ≡ t → w ≢ x → not (list_any (bytes_eq w) ws) ≡ true → not (t || list_any (bytes_eq w) ws) ≡ true
    by true s apart rest = absurd (apart ((bytes_eq-Decides w x).0 s))
    by false s apart rest = rest

all_differ : (ws : List (List ℕ)) → AllPairs ◌≢◌ ws → differ ws ≡ true
all_differ [] h = refl
all_differ (w ∷ ws) h =
    both_true (not (list_any (bytes_eq w) ws)) (differ ws) (none_same w ws (λ j l. h zero (suc j) [] (omega arith) (omega (arith, l)))) (all_differ ws (λ i j d less inside. h (suc i) (suc j) d (omega (arith, less)) (omega (arith, inside))))

-- ---- what a script that is read has

abbrev IsGood : VatScript → Type 0
IsGood v = (is_vat_name v.name ≡ true) × (length v.source ≤ 65536)

all_lawful : (vats : List VatScript) → All IsGood vats → list_all is_vat_name (map (λ (v : VatScript). v.name) vats) ≡ true
all_lawful [] h = refl
all_lawful (v ∷ vats) h = both_true (is_vat_name v.name) (list_all is_vat_name (map (λ (x : VatScript). x.name) vats)) (All-head IsGood v vats h).0 (all_lawful vats (All-tail IsGood v vats h))

pub are_names : (depth : ℕ) (tree : ℕ → List Node) (s : Script) → IsAdmitted s → AreNames (vat_names (machine_script depth tree s))
unfolding vat_names
are_names depth tree s h = subst AreNames (sym (names_are tree zero s.vats)) (record { lawful = all_lawful s.vats h.vats.2; apart = all_differ (map (λ (v : VatScript). v.name) s.vats) h.vats.1 })

is_of_vats : (bytes : List ℕ) (s : Script) → script.read bytes ≡ Ok s → (depth : ℕ) (tree : ℕ → List Node) → AreReadTo s tree → IsOfVats (machine_script depth tree s)
is_of_vats bytes s e depth tree are = of_vats depth tree s (read_admitted bytes (Ok s) e) (trees bytes s e tree are)

few_steps : (m n v k : ℕ) → m ≡ v → n ≡ k → v ≤ 16 → k ≤ 100000 → m + n < 2 ^ 64
few_steps m n v k e f l h = omega (arith, e, f, l, h)

pub events_of_scripts : EventsOfReadScriptsAreRead
events_of_scripts bytes s e depth tree are = events_of_runs (machine_script depth tree s) (is_of_vats bytes s e depth tree are) (read_runs_are_bounded bytes s e depth tree are)

pub texts_of_scripts : TextsOfReadScriptsAreRead
texts_of_scripts bytes s e depth tree are low =
    let h = read_admitted bytes (Ok s) e in let count = vats_count tree zero s.vats in
    texts_of_runs (machine_script depth tree s) (are_names depth tree s h) (subst (λ n. n ≤ 16) (sym count) h.vats.0) (few_steps _ _ (length s.vats) (length s.schedule) count (entries_count s.schedule) h.vats.0 h.schedule.0)
    (is_of_vats bytes s e depth tree are) (read_runs_are_bounded bytes s e depth tree are) (λ c k w f g. no_read_script_goes_astray bytes s e depth tree are c k w f g) low
