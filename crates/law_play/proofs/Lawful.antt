-- What the rules say of a play that is read, of the machine's play.
use Rattle.std.proofs.Common.{◌≡◌, ◌≢◌, ◌<◌, ◌≤◌, ◌==◌, ◌||◌, ℕ, zero, suc, Bool, true, false, List, [], ◌∷◌, Ok, All, AllPairs, length, map, refl, sym, ◌∙◌, ap, subst, arith}
use Rattle.std.specs.List.{list_any}
use Rattle.std.proofs.lemmas.Bool.Decides.{nat_tests}
use Rattle.std.proofs.lemmas.List.{length-map}
use Rattle.std.proofs.lemmas.List.Elements.{All-nil, All-cons, All-head, All-tail}
use Rattle.def_kernel.specs.declared.node.Node.{Node}
use Rattle.def_machine.specs.State.{is_in}
use Rattle.def_run.specs.World as world
use Rattle.def_hostile.specs.Hostile as machine
use Rattle.ev_script.specs.Rules.{IsEntryOf}
use Rattle.ev_script.specs.declared.script.Entry.{Entry}
use Rattle.ev_script.specs.declared.script.Entry.TheVariants.{Turn, Carry, Cut, Notice}
use Rattle.ev_script.specs.declared.script.VatScript.{VatScript}
use Rattle.ev_play.specs.Hostile.{is_hostile}
use Rattle.ev_play.specs.Rules.{IsDoingOf, IsAdmittedPlay}
use Rattle.ev_play.specs.declared.play.Doing.{Doing}
use Rattle.ev_play.specs.declared.play.Doing.TheVariants.{Does, Inject}
use Rattle.ev_play.specs.declared.play.Play.{Play}
use Rattle.ev_play.proofs.AdmittedPlay.{admitted_play, honest_plays_are_scripts}
use Rattle.law_instance.specs.Honest.{honest, IsAccepted}
use Rattle.law_instance.proofs.Texts.{texts_are_runs}
use Rattle.law_accepted.proofs.Meets.{meets, count_is}
use Rattle.law_schedule.specs.Scripts.{machine_entry, machine_vats, machine_script}
use Rattle.law_play.specs.Plays.{machine_doing, machine_play}
use Rattle.law_play.specs.Statements.{IsDoing, IsLawfulPlay, PlaysAreLawful, HonestPlaysAreOfScripts, HonestPlaysHaveTheirTexts}

-- ---- a hostile vat

same_by : (a b : ℕ) (s t : Bool) → (a == b) ≡ s → (b == a) ≡ t → s ≡ t
same_by a b true true e f = refl
same_by a b false false e f = refl
same_by a b true false e f = absurd (grind (arith, nat_tests))
same_by a b false true e f = absurd (grind (arith, nat_tests))

same_test : (a b : ℕ) → (a == b) ≡ (b == a)
same_test a b = same_by a b _ _ refl refl

second : (a b : Bool) → a ≡ false → (a || b) ≡ true → b ≡ true
second false b e h = h
second true b e h = cc

abbrev chosen : Bool → Bool → Bool
chosen s b = elim s [ true ↦ true | false ↦ b ]

found : (v h : ℕ) (hs : List ℕ) (s : Bool) → (v == h) ≡ s → is_hostile (h ∷ hs) v ≡ true → (is_hostile hs v ≡ true → is_in v hs ≡ true) → chosen s (is_in v hs) ≡ true
found v h hs true e any rest = refl
found v h hs false e any rest = rest (second (h == v) (is_hostile hs v) (same_test h v ∙ e) any)

among : (v : ℕ) (hs : List ℕ) → is_hostile hs v ≡ true → is_in v hs ≡ true
unfolding is_in
among v [] e = cc
among v (h ∷ hs) e = found v h hs (v == h) refl e (among v hs)

-- ---- what is done

doing_is : (count : ℕ) (hs : List ℕ) (d : Doing) → IsDoingOf count hs d → IsDoing count hs (machine_doing d)
doing_is count hs (Does (Turn v)) h = h
doing_is count hs (Does (Carry v w)) h = h
doing_is count hs (Does (Cut v w)) h = h
doing_is count hs (Does (Notice v w)) h = h
doing_is count hs (Inject v w bytes) h = (h.0, among v hs h.1, h.2.0, h.2.1, h.2.2)

doings_are : (count : ℕ) (hs : List ℕ) (ds : List Doing) → All (IsDoingOf count hs) ds → All (IsDoing count hs) (map machine_doing ds)
doings_are count hs [] h = All-nil (IsDoing count hs)
doings_are count hs (d ∷ ds) h =
    All-cons (IsDoing count hs) (machine_doing d) (map machine_doing ds) (doing_is count hs d (All-head (IsDoingOf count hs) d ds h))
    (doings_are count hs ds (All-tail (IsDoingOf count hs) d ds h))

lawful : (play : Play) → IsAdmittedPlay play → (depth : ℕ) (tree : ℕ → List Node) → IsLawfulPlay (machine_play depth tree play)
lawful play a depth tree =
    let same : length play.script.vats ≡ length (machine_vats tree zero play.script.vats) = sym (count_is tree zero play.script.vats) in
    let m = meets play.script a.script depth tree in record {
      accepted = (m.0, m.1, m.2, subst (λ n. n ≤ 16) same a.script.vats.0);
      hostile = subst (λ n. All (λ v. v < n) play.hostile × AllPairs ◌≢◌ play.hostile) same a.hostile;
      doings = (
        subst (λ n. n ≤ 100000) (sym (length-map play.doings machine_doing)) a.doings.0,
        subst (λ n. All (IsDoing n play.hostile) (map machine_doing play.doings)) same (doings_are (length play.script.vats) play.hostile play.doings a.doings.1),
      );
    }

pub plays_are_lawful : PlaysAreLawful
plays_are_lawful bytes play e depth tree = lawful play (admitted_play bytes play e) depth tree

-- ---- without hostile vats

entries_done : (es : List Entry) → map machine_doing (map Does es) ≡ map machine.Does (map machine_entry es)
entries_done [] = refl
entries_done (e ∷ es) = ap (λ ds. machine.Does (machine_entry e) ∷ ds) (entries_done es)

pub honest_plays_are_of_scripts : HonestPlaysAreOfScripts
honest_plays_are_of_scripts bytes play e none depth tree =
    ap (machine_play depth tree) (honest_plays_are_scripts bytes play e none)
    ∙ ap (λ ds. record { script = machine_script depth tree play.script; hostile = []; doings = ds }) (entries_done play.script.schedule)

pub honest_plays_have_their_texts : HonestPlaysHaveTheirTexts
honest_plays_have_their_texts bytes play e none depth tree =
    let same = honest_plays_are_of_scripts bytes play e none depth tree in
    let texts = texts_are_runs (machine_script depth tree play.script) (lawful play (admitted_play bytes play e) depth tree).accepted in
    rw same texts
