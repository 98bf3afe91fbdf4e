-- A script that is read, whose programs are checked, is one of which no run goes astray.
use Rattle.std.proofs.Common.{◌≡◌, inl, inr, ℕ, zero, suc, ◌+◌, Bool, true, false, List, [], ◌∷◌, Option, Some, None, Ok, All, length, map, refl, sym, ◌∙◌, ap, subst, arith}
use Rattle.std.specs.Prelude.{slice_get}
use Rattle.std.proofs.lemmas.List.Elements.{All-head, All-tail}
use Rattle.def_kernel.specs.declared.node.Node.{Node}
use Rattle.def_machine.specs.Values.{Words, Value, Ref, Name, Root}
use Rattle.def_machine.specs.Native.{safe_value}
use Rattle.def_machine.specs.State.{Bound, Fixed}
use Rattle.def_machine.specs.Free.{same_words}
use Rattle.def_machine.specs.Scopes.{bound_in, any_guard}
use Rattle.def_run.specs.World.{Program, given, name_at}
use Rattle.def_kernel.specs.Trees.{IsTree}
use Rattle.ev_reader.specs.Scopes.{first_fault}
use Rattle.ev_script.specs.Rules.{IsEntryOf, IsAdmitted}
use Rattle.ev_script.specs.declared.script.Entry.{Entry}
use Rattle.ev_script.specs.declared.script.Entry.TheVariants.{Turn, Carry, Cut, Notice}
use Rattle.ev_script.specs.declared.script.Script.{Script}
use Rattle.ev_script.specs.declared.script.VatScript.{VatScript}
use Rattle.ev_script.proofs.Admitted.{read_admitted}
use Rattle.law_fate.specs.Name.Names.{IsAmong}
use Rattle.law_schedule.specs.Scripts.{machine_entry, machine_vats, machine_script}
use Rattle.law_read.proofs.ReadScripts.Meets.{accepted}
use Rattle.law_never_astray.specs.Formed.{AllOf}
use Rattle.law_never_astray.specs.Covered.{Stands}
use Rattle.law_never_astray.specs.CoveredRuns.{IsAccepted}
use Rattle.law_never_astray.proofs.Words.{other_not}
use Rattle.law_never_astray.specs.Runs.{NoticersAreThere}
use Rattle.law_never_astray.proofs.Final.{never_astray}
use Rattle.law_read.specs.ReadScripts.Checked.{IsGiven, AreChecked, NoCheckedScriptGoesAstray}

-- ---- what is given

-- the first of some bindings, or one of the others
picked : (x : Words) (b : Bound Name) (o : Option (Bound Name)) (t : Bool) → Stands zero false x (Some b) → (t ≡ false → Stands zero false x o) → Stands zero false x (elim t as (λ _. Option (Bound Name)) [ true ↦ Some b | false ↦ o ])
picked x b o true h f = h
picked x b o false h f = f refl

safe_stands : (ps : List Program) (ws : List ℕ) (x : Words) (v : Value Name) → safe_value x ≡ Some v → Stands zero false x (bound_in (given ps ws) x)
unfolding given bound_in
safe_stands ps [] x v e = (v, e)
safe_stands ps (w ∷ ws) x v e = picked x (Fixed (Ref (Root w)) any_guard) (bound_in (given ps ws) x) (same_words (name_at ps w) x) tt (λ i. safe_stands ps ws x v e)

known_stands : (ps : List Program) (ws : List ℕ) (x : Words) (w : ℕ) → IsAmong w ws → name_at ps w ≡ x → Stands zero false x (bound_in (given ps ws) x)
unfolding given bound_in
known_stands ps [] x w h e = absurd h
known_stands ps (u ∷ us) x w (inl i) e = picked x (Fixed (Ref (Root u)) any_guard) (bound_in (given ps us) x) (same_words (name_at ps u) x) tt (λ j. absurd (other_not (name_at ps u) x j (subst (λ k. name_at ps k ≡ x) i e)))
known_stands ps (u ∷ us) x w (inr h) e = picked x (Fixed (Ref (Root u)) any_guard) (bound_in (given ps us) x) (same_words (name_at ps u) x) tt (λ j. known_stands ps us x w h e)

-- ---- the vats

count_is : (tree : ℕ → List Node) (place : ℕ) (vats : List VatScript) → length (machine_vats tree place vats) ≡ length vats
count_is tree place [] = refl
count_is tree place (v ∷ vats) = ap suc (count_is tree (suc place) vats)

name_there : (tree : ℕ → List Node) (place : ℕ) (vats : List VatScript) (w : ℕ) (other : VatScript) → slice_get vats w ≡ Some other → name_at (machine_vats tree place vats) w ≡ other.name
unfolding name_at
name_there tree place [] w other e = cc
name_there tree place (vat ∷ vats) zero other e = let same : vat ≡ other = cc in ap (λ (z : VatScript). z.name) same
name_there tree place (vat ∷ vats) (suc w) other e = name_there tree (suc place) vats w other e

-- a vat of the machine's script is one of the script, and its program has the tree of its place
record IsOf (vats : List VatScript) (tree : List Node) (v : ℕ) (p : Program) : Type 0 where
  vat : VatScript
  there : slice_get vats v ≡ Some vat
  knows : vat.knows ≡ p.knows
  same : tree ≡ p.tree

vat_is : (tree : ℕ → List Node) (place : ℕ) (vats : List VatScript) (v k : ℕ) (p : Program) → k ≡ place + v → slice_get (machine_vats tree place vats) v ≡ Some p → IsOf vats (tree k) v p
vat_is tree place [] v k p i e = cc
vat_is tree place (vat ∷ vats) zero k p i e = let q : record { name = vat.name; knows = vat.knows; tree = tree place } ≡ p = cc in let at : k ≡ place = omega (arith, i) in
    record { vat = vat; there = refl; knows = ap (λ (z : Program). z.knows) q; same = ap tree at ∙ ap (λ (z : Program). z.tree) q }
vat_is tree place (vat ∷ vats) (suc v) k p i e = let r = vat_is tree (suc place) vats v k p (omega (arith, i)) e in record { vat = r.vat; there = r.there; knows = r.knows; same = r.same }

-- ---- acceptance

one_given : (tree : ℕ → List Node) (vats : List VatScript) (vat : VatScript) (x : Words) → IsGiven vats vat x → Stands zero false x (bound_in (given (machine_vats tree zero vats) vat.knows) x)
one_given tree vats vat x (inl s) = safe_stands (machine_vats tree zero vats) vat.knows x s.0 s.1
one_given tree vats vat x (inr k) = known_stands (machine_vats tree zero vats) vat.knows x k.0 k.2 (name_there tree zero vats k.0 k.1 k.3 ∙ k.4)

all_given : (tree : ℕ → List Node) (vats : List VatScript) (vat : VatScript) (xs : List Words) → AllOf (IsGiven vats vat) xs → AllOf (λ x. Stands zero false x (bound_in (given (machine_vats tree zero vats) vat.knows) x)) xs
all_given tree vats vat [] h = tt
all_given tree vats vat (x ∷ xs) h = (one_given tree vats vat x h.0, all_given tree vats vat xs h.1)

are_accepted : (script : Script) (depth : ℕ) (tree : ℕ → List Node) → AreChecked script tree → IsAccepted (machine_script depth tree script)
are_accepted script depth tree checked = λ v p e. let q = vat_is tree zero script.vats v v p (omega arith) e in let k = checked v q.vat q.there in
    (subst IsTree q.same k.0, (k.1.0, subst (λ t. first_fault t k.1.0 ≡ None) q.same k.1.2, subst (λ ws. AllOf (λ x. Stands zero false x (bound_in (given (machine_vats tree zero script.vats) ws) x)) k.1.0) q.knows (all_given tree script.vats q.vat k.1.0 k.1.1)))

-- ---- notices

noticers : (count : ℕ) (es : List Entry) → All (IsEntryOf count) es → NoticersAreThere count (map machine_entry es)
noticers count [] h = tt
noticers count (Turn v ∷ es) h = noticers count es (All-tail (IsEntryOf count) (Turn v) es h)
noticers count (Carry v w ∷ es) h = noticers count es (All-tail (IsEntryOf count) (Carry v w) es h)
noticers count (Cut v w ∷ es) h = noticers count es (All-tail (IsEntryOf count) (Cut v w) es h)
noticers count (Notice v w ∷ es) h = ((All-head (IsEntryOf count) (Notice v w) es h).0, noticers count es (All-tail (IsEntryOf count) (Notice v w) es h))

noticers_are_there : (script : Script) → IsAdmitted script → (depth : ℕ) (tree : ℕ → List Node) → NoticersAreThere (length (machine_vats tree zero script.vats)) (map machine_entry script.schedule)
noticers_are_there script h depth tree = subst (λ n. NoticersAreThere n (map machine_entry script.schedule)) (sym (count_is tree zero script.vats)) (noticers (length script.vats) script.schedule h.schedule.1)

-- ---- the whole

pub no_checked_script_goes_astray : NoCheckedScriptGoesAstray
no_checked_script_goes_astray bytes script e depth tree checked = let m = accepted bytes script e depth tree in
    never_astray (machine_script depth tree script) m.0 (are_accepted script depth tree checked) m.2 (noticers_are_there script (read_admitted bytes (Ok script) e) depth tree)
