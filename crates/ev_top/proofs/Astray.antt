-- No run of a script whose programs are read goes astray: each was read under names that its vat is given.
use Rattle.std.proofs.Common.{◌≡◌, ◌≢◌, inl, inr, ◌<◌, ◌++◌, ◌&&◌, ℕ, zero, suc, Bool, true, false, List, [], ◌∷◌, Option, Some, None, Ok, All, length, map, slice_get, refl, sym, ap, subst, arith}
use Rattle.std.specs.Prelude.{is_some}
use Rattle.std.proofs.lemmas.List.Elements.{All-head, All-tail}
use Rattle.def_machine.specs.Values.{Words, Value, Name}
use Rattle.def_machine.specs.Free.{same_words, entry}
use Rattle.def_machine.specs.Native.{prims_from, safe_value}
use Rattle.def_machine.specs.State.{Astray}
use Rattle.ev_reader.specs.declared.accepted.Scoped.{Scoped}
use Rattle.ev_script.specs.Rules.{IsAdmitted}
use Rattle.ev_script.specs.declared.script.Script.{Script}
use Rattle.ev_script.specs.declared.script.VatScript.{VatScript}
use Rattle.ev_script.proofs.Admitted.{read_admitted}
use Rattle.ev_world.specs.Running.{tree_in}
use Rattle.law_fate.specs.Name.Names.{IsAmong}
use Rattle.law_never_astray.specs.Formed.{AllOf}
use Rattle.law_read.specs.ReadScripts.Checked.{IsGiven}
use Rattle.law_read.specs.ReadScripts.Runs.{AreReadTo}
use Rattle.law_read.proofs.ReadScripts.NeverAstray.{no_read_script_goes_astray}
use Rattle.ev_top.specs.Headline.{NoRunGoesAstray}
use Rattle.ev_top.specs.Machine.{greatest_depth}
use Rattle.ev_top.specs.Programs.{AreRead, IsRead, name_found, name_of, names_for, safe_names}
use Rattle.ev_top.proofs.Lawful.{bytes_of}

-- ---- the names that a program is given

abbrev all_safe : List Words → Bool
all_safe [] = true
all_safe (x ∷ xs) = is_some (safe_value {N = Name} x) && all_safe xs

names_are_safe : all_safe safe_names ≡ true
unfolding safe_value prims_from entry same_words
names_are_safe = refl

both : (a b : Bool) → (a && b) ≡ true → (a ≡ true) × (b ≡ true)
both true b e = (refl, e)
both false b e = cc

value_there : (o : Option (Value Name)) → is_some o ≡ true → (v : Value Name) × (o ≡ Some v)
value_there (Some v) e = (v, refl)
value_there None e = cc

safe_given : (vats : List VatScript) (vat : VatScript) (xs more : List Words) → all_safe xs ≡ true → AllOf (IsGiven vats vat) more → AllOf (IsGiven vats vat) (xs ++ more)
safe_given vats vat [] more e h = h
safe_given vats vat (x ∷ xs) more e h = let b = both (is_some (safe_value {N = Name} x)) (all_safe xs) e in (inl (value_there (safe_value x) b.0), safe_given vats vat xs more b.1 h)

vat_there : (vats : List VatScript) (w : ℕ) → w < length vats → (vat : VatScript) × (slice_get vats w ≡ Some vat)
vat_there [] w lt = absurd (omega (arith, lt))
vat_there (vat ∷ vats) zero lt = (vat, refl)
vat_there (vat ∷ vats) (suc w) lt = vat_there vats w (omega (arith, lt))

known_given : (vats : List VatScript) (vat : VatScript) (place : ℕ) (ws : List ℕ) → ((w : ℕ) → IsAmong w ws → IsAmong w vat.knows) → All (λ w. (w < length vats) × (w ≢ place)) ws
    → AllOf (IsGiven vats vat) (map (name_of vats) ws)
known_given vats vat place [] known all = tt
known_given vats vat place (w ∷ ws) known all =
    let other = vat_there vats w (All-head (λ w. (w < length vats) × (w ≢ place)) w ws all).0 in (
      inr (w, other.0, known w (inl refl), other.1, sym (ap name_found other.1)),
      known_given vats vat place ws (λ v i. known v (inr i)) (All-tail (λ w. (w < length vats) × (w ≢ place)) w ws all),
    )

names_given : (script : Script) → IsAdmitted script → (place : ℕ) (vat : VatScript) → slice_get script.vats place ≡ Some vat → AllOf (IsGiven script.vats vat) (names_for script.vats vat)
names_given script h place vat e =
    safe_given script.vats vat safe_names (map (name_of script.vats) vat.knows) names_are_safe (known_given script.vats vat place vat.knows (λ w i. i) (h.knows place vat e).0)

-- ---- the programs

-- what the program of the vat at a place is read to
record ReadThere (all : List VatScript) (vat : VatScript) (programs : List Scoped) (place : ℕ) : Type 0 where
  scoped : Scoped
  read : IsRead all vat (Ok scoped)
  same : scoped.tree ≡ tree_in programs place

read_there : (all vats : List VatScript) (programs : List Scoped) → AreRead all vats programs → (place : ℕ) (vat : VatScript) → slice_get vats place ≡ Some vat → ReadThere all vat programs place
read_there all [] programs are place vat e = cc
read_there all (first ∷ vats) [] are place vat e = absurd are
read_there all (first ∷ vats) (scoped ∷ programs) (read, are) zero vat e =
    let same : first ≡ vat = cc in record { scoped = scoped; read = subst (λ v. IsRead all v (Ok scoped)) same read; same = refl }
read_there all (first ∷ vats) (scoped ∷ programs) (read, are) (suc place) vat e =
    let r = read_there all vats programs are place vat e in record { scoped = r.scoped; read = r.read; same = r.same }

pub are_read_to : (script : Script) (programs : List Scoped) → IsAdmitted script → AreRead script.vats script.vats programs → AreReadTo script (tree_in programs)
are_read_to script programs h are = λ place vat e.
    let r = read_there script.vats script.vats programs are place vat e in
    (r.scoped, names_for script.vats vat, names_given script h place vat e, r.read, r.same)

pub no_run_goes_astray : NoRunGoesAstray
no_run_goes_astray command input script programs (has, are) step world stops =
    let found = bytes_of command input script has in
    no_read_script_goes_astray found.0 script found.1 greatest_depth (tree_in programs)
    (are_read_to script programs (read_admitted found.0 (Ok script) found.1) are) Astray step world stops refl
