-- The vats of each script that is read have names that a text tells.
use Rattle.std.proofs.Common.{◌≡◌, ◌≢◌, ◌<◌, ◌≤◌, ◌&&◌, ◌||◌, ℕ, zero, suc, ltb, not, Bool, true, false, List, [], ◌∷◌, Ok, All, AllPairs, length, map, refl, sym, ◌∙◌, ap, subst, arith}
use Rattle.std.specs.Prelude.{nat_le, get_or, is_some}
use Rattle.std.specs.List.{list_all}
use Rattle.std.proofs.lemmas.Bool.{and_parts}
use Rattle.std.proofs.lemmas.Bool.Decides.{nat_tests}
use Rattle.std.proofs.lemmas.List.Elements.{All-head, All-tail}
use Rattle.ev_base.specs.SafeScope.{safe_value}
use Rattle.def_text.specs.Keywords.{is_keyword}
use Rattle.def_kernel.specs.declared.node.Node.{Node}
use Rattle.def_event.specs.Lines.{vat}
use Rattle.def_run.specs.World.{Program}
use Rattle.def_run.specs.Text.{vat_names}
use Rattle.ev_script.specs.Head.{is_between}
use Rattle.ev_script.specs.Vats.{begins_lower, is_lower_or_digit, is_vat_name}
use Rattle.ev_script.specs.declared.script.VatScript.{VatScript}
use Rattle.ev_script.proofs.Admitted.{read_admitted}
use Rattle.law_schedule.specs.Scripts.{machine_vats}
use Rattle.law_text.specs.Text.Values.{names_vat, AreVats}
use Rattle.law_read.specs.ReadScripts.Accepted.{AcceptedVatsAreNamed}

-- ---- of letters and digits

third_of_five : (a b c d e : Bool) → (a && b && c && d && e) ≡ true → c ≡ true
third_of_five true true true d e h = refl
third_of_five true true false d e h = cc
third_of_five true false c d e h = cc
third_of_five false b c d e h = cc

letter_or_digit : (z a b u : Bool) → (z || a) ≡ true → (((a || b) || z) || u) ≡ true
letter_or_digit true true b u h = refl
letter_or_digit true false true u h = refl
letter_or_digit true false false u h = refl
letter_or_digit false true b u h = refl
letter_or_digit false false b u h = cc

letter_names : (c : ℕ) → is_lower_or_digit c ≡ true → names_vat c ≡ true
letter_names c h = letter_or_digit (is_between 97 122 c) (is_between 48 57 c) (is_between 65 90 c) _ h

both_true : (a b : Bool) → a ≡ true → b ≡ true → (a && b) ≡ true
both_true true b h k = k
both_true false b h k = cc

all_names : (w : List ℕ) → list_all is_lower_or_digit w ≡ true → list_all names_vat w ≡ true
all_names [] h = refl
all_names (c ∷ cs) h = let both = and_parts (is_lower_or_digit c) (list_all is_lower_or_digit cs) h in both_true (names_vat c) (list_all names_vat cs) (letter_names c both.0) (all_names cs both.1)

name_spelled : (w : List ℕ) → is_vat_name w ≡ true → list_all names_vat w ≡ true
name_spelled w h = all_names w (third_of_five (nat_le (length w) 16) (begins_lower w) (list_all is_lower_or_digit w) (not (is_keyword w)) (not (is_some (safe_value w))) h)

abbrev names : List VatScript → List (List ℕ)
names vats = map (λ (v : VatScript). v.name) vats

abbrev IsGood : VatScript → Type 0
IsGood v = (is_vat_name v.name ≡ true) × (length v.source ≤ 65536)

spelled : (vats : List VatScript) → All IsGood vats → (v : ℕ) → list_all names_vat (vat (names vats) v) ≡ true
spelled [] h v = refl
spelled (x ∷ vats) h zero = name_spelled x.name (All-head IsGood x vats h).0
spelled (x ∷ vats) h (suc v) = spelled vats (All-tail IsGood x vats h) v

-- ---- no two alike

is_at : (ns : List (List ℕ)) (v : ℕ) → get_or ns v [] ≡ vat ns v
is_at [] v = refl
is_at (n ∷ ns) zero = refl
is_at (n ∷ ns) (suc v) = is_at ns v

apart : (ns : List (List ℕ)) (v w : ℕ) → AllPairs ◌≢◌ ns → v < w → w < length ns → vat ns v ≡ vat ns w → ⊥
apart ns v w h less within e = h v w [] less within (is_at ns v ∙ e ∙ sym (is_at ns w))

one_by : (ns : List (List ℕ)) (v w : ℕ) (s t : Bool) → ltb v w ≡ s → ltb w v ≡ t → AllPairs ◌≢◌ ns → v < length ns → w < length ns → vat ns v ≡ vat ns w → v ≡ w
one_by ns v w true t i j h l m e = absurd (apart ns v w h (less v w i) m e)
  where
    less : (v w : ℕ) → ltb v w ≡ true → v < w
    less v w i = grind (arith, nat_tests)
one_by ns v w false true i j h l m e = absurd (apart ns w v h (less w v j) l (sym e))
  where
    less : (v w : ℕ) → ltb v w ≡ true → v < w
    less v w i = grind (arith, nat_tests)
one_by ns v w false false i j h l m e = neither v w i j
  where
    neither : (v w : ℕ) → ltb v w ≡ false → ltb w v ≡ false → v ≡ w
    neither v w i j = grind (arith, nat_tests)

-- ---- the machine's script

pub names_are : (tree : ℕ → List Node) (place : ℕ) (vats : List VatScript) → map (λ (p : Program). p.name) (machine_vats tree place vats) ≡ names vats
names_are tree place [] = refl
names_are tree place (v ∷ vats) = ap (λ (ns : List (List ℕ)). v.name ∷ ns) (names_are tree (suc place) vats)

are_vats : (vats : List VatScript) → All IsGood vats → AllPairs ◌≢◌ (names vats) → AreVats (names vats)
are_vats vats h k = record { spelled = spelled vats h; differ = λ v w l m e. one_by (names vats) v w (ltb v w) (ltb w v) refl refl k l m e }

pub vats_named : AcceptedVatsAreNamed
unfolding vat_names
vats_named bytes script e depth tree =
    let h = (read_admitted bytes (Ok script) e).vats in
    subst AreVats (sym (names_are tree zero script.vats)) (are_vats script.vats h.2 h.1)
