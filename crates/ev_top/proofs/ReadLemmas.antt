-- Sources of vats that are read one after the other, and what is due for a script by them.
use Rattle.std.proofs.Common.{◌≡◌, ◌<◌, ◌≤◌, ◌+◌, ℕ, suc, List, [], ◌∷◌, ◌++◌, length, get_or, take, drop, string_bytes, Ok, Err, refl, sym, ap, subst, arith, ◌∙◌, append-nil, append_assoc}
use Rattle.std.proofs.lemmas.List.{length-map, length-take-le, take-append-drop}
use Rattle.std.proofs.Math.Seq.{drop-cons, take-suc}
use Rattle.def_kernel.specs.declared.node.Node.{Node}
use Rattle.ev_reader.specs.declared.accepted.Scoped.{Scoped}
use Rattle.ev_script.specs.declared.script.Script.{Script}
use Rattle.ev_script.specs.declared.script.VatScript.{VatScript}
use Rattle.ev_reader.specs.declared.fault.ProgramFault.{ProgramFault}
use Rattle.ev_top.specs.Programs.{AreRead, IsDueOfFault, IsRead, trees_of}
use Rattle.ev_top.specs.RunDue.{IsDueOfTrees, IsDueOfVats, Telling}
use Rattle.ev_top.specs.Unread.{IfRefused}
use Rattle.ev_top.specs.declared.sources.Unread.{Unread}
use Rattle.ev_top.specs.declared.sources.Unread.TheVariants.{Refused, Memory}
use Rattle.ev_io.specs.declared.status.Status.{Status}

-- one more
pub read_more : (all vats : List VatScript) (programs : List Scoped) (vat : VatScript) (scoped : Scoped) → AreRead all vats programs → IsRead all vat (Ok scoped)
    → AreRead all (vats ++ vat ∷ []) (programs ++ scoped ∷ [])
read_more all [] [] vat scoped are is = (is, tt)
read_more all (v ∷ vats) (p ∷ programs) vat scoped are is = (are.0, read_more all vats programs vat scoped are.1 is)
read_more all [] (p ∷ programs) vat scoped are is = absurd are
read_more all (v ∷ vats) [] vat scoped are is = absurd are

-- as many programs as vats
pub count_is : (all vats : List VatScript) (programs : List Scoped) → AreRead all vats programs → length programs ≡ length vats
count_is all [] [] are = refl
count_is all (v ∷ vats) (p ∷ programs) are = ap suc (count_is all vats programs are.1)
count_is all [] (p ∷ programs) are = absurd are
count_is all (v ∷ vats) [] are = absurd are

pub trees_count : (all vats : List VatScript) (programs : List Scoped) → AreRead all vats programs → length (trees_of programs) ≡ length vats
trees_count all vats programs are = length-map programs (λ (scoped : Scoped). scoped.tree) ∙ count_is all vats programs are

-- fewer than the most, while there is a next vat
pub few : (all : List VatScript) (i n : ℕ) (programs : List Scoped) → AreRead all (take i all) programs → i < length all → length all ≤ 16 → n ≡ length programs → n < 16
few all i n programs are below most is =
    let count : length programs ≡ length (take i all) = count_is all (take i all) programs are in
    let taken : length (take i all) ≡ i = length-take-le i all (omega (arith, below)) in
    omega (arith, is, count, taken, below, most)

-- the next is read too
pub read_next : (all : List VatScript) (i : ℕ) (programs next : List Scoped) (scoped : Scoped) (vat : VatScript) → AreRead all (take i all) programs → i < length all
    → vat ≡ get_or all i vat → IsRead all vat (Ok scoped) → next ≡ programs ++ scoped ∷ [] → AreRead all (take (i + 1) all) next
read_next all i programs next scoped vat are below here is more =
    let number : i + 1 ≡ suc i = omega arith in
    let taken : take (i + 1) all ≡ take i all ++ vat ∷ [] =
    ap (λ n. take n all) number ∙ take-suc all i vat below ∙ ap (λ v. take i all ++ v ∷ []) (sym here) in
    subst (λ (ps : List Scoped). AreRead all (take (i + 1) all) ps) (sym more)
    (subst (λ (vs : List VatScript). AreRead all vs (programs ++ scoped ∷ [])) (sym taken) (read_more all (take i all) programs vat scoped are is))

pub one_behind : (trees : List (List Node)) (tree : List Node) (more : List (List Node)) → (trees ++ tree ∷ []) ++ more ≡ trees ++ tree ∷ more
one_behind trees tree more = append_assoc trees (tree ∷ []) more

-- What is due for the run of a script is due for it, where the sources of the vats that come next are read.
pub due_of_trees : (tell : Telling) (script : Script) (trees : List (List Node)) (vats : List VatScript) (programs : List Scoped) (status : Status) (text : List ℕ)
    → AreRead script.vats vats programs → IsDueOfTrees tell script (trees ++ trees_of programs) status text → IsDueOfVats tell script trees vats status text
due_of_trees tell script trees [] [] status text are due = subst (λ (ts : List (List Node)). IsDueOfTrees tell script ts status text) (append-nil trees) due
due_of_trees tell script trees (v ∷ vats) (p ∷ programs) status text are due = (
  Ok p,
  are.0,
  due_of_trees tell script (trees ++ p.tree ∷ []) vats programs status text are.1
      (subst (λ (ts : List (List Node)). IsDueOfTrees tell script ts status text) (sym (one_behind trees p.tree (trees_of programs))) due),
)
due_of_trees tell script trees [] (p ∷ programs) status text are due = absurd are
due_of_trees tell script trees (v ∷ vats) [] status text are due = absurd are

-- The refusal of the first that is refused is due.
pub due_of_refused : (tell : Telling) (script : Script) (trees : List (List Node)) (front : List VatScript) (vat : VatScript) (more : List VatScript) (programs : List Scoped)
    (fault : ProgramFault) (status : Status) (text : List ℕ) → AreRead script.vats front programs → IsRead script.vats vat (Err fault)
    → IsDueOfFault (length (trees ++ trees_of programs)) vat.name fault status text → IsDueOfVats tell script trees (front ++ vat ∷ more) status text
due_of_refused tell script trees [] vat more [] fault status text are is due =
    (Err fault, is, subst (λ (ts : List (List Node)). IsDueOfFault (length ts) vat.name fault status text) (append-nil trees) due)
due_of_refused tell script trees (v ∷ front) vat more (p ∷ programs) fault status text are is due = (
  Ok p,
  are.0,
  due_of_refused tell script (trees ++ p.tree ∷ []) front vat more programs fault status text are.1 is
      (subst (λ (ts : List (List Node)). IsDueOfFault (length ts) vat.name fault status text) (sym (one_behind trees p.tree (trees_of programs))) due),
)
due_of_refused tell script trees [] vat more (p ∷ programs) fault status text are is due = absurd are
due_of_refused tell script trees (v ∷ front) vat more [] fault status text are is due = absurd are

-- The refusal of the next is due, where those in front are read.
pub next_refused : (script : Script) (i n : ℕ) (vat : VatScript) (programs : List Scoped) (fault : ProgramFault) (unread : Unread) → AreRead script.vats (take i script.vats) programs
    → i < length script.vats → vat ≡ get_or script.vats i vat → IsRead script.vats vat (Err fault) → n ≡ length programs
    → IfRefused unread (λ reply. IsDueOfFault n vat.name fault reply.status (string_bytes reply.text))
    → IfRefused unread (λ reply. (tell : Telling) → IsDueOfVats tell script [] script.vats reply.status (string_bytes reply.text))
next_refused script i n vat programs fault Memory are below here is count due = tt
next_refused script i n vat programs fault (Refused reply) are below here is count due = λ tell.
    let rest : drop i script.vats ≡ vat ∷ drop (suc i) script.vats = drop-cons script.vats i vat below ∙ ap (λ v. v ∷ drop (suc i) script.vats) (sym here) in
    let split : script.vats ≡ take i script.vats ++ vat ∷ drop (suc i) script.vats = sym (take-append-drop i script.vats) ∙ ap (λ vs. take i script.vats ++ vs) rest in
    let number : n ≡ length (trees_of programs) = count ∙ sym (length-map programs (λ (scoped : Scoped). scoped.tree)) in
    subst (λ (vs : List VatScript). IsDueOfVats tell script [] vs reply.status (string_bytes reply.text)) (sym split)
    (due_of_refused tell script [] (take i script.vats) vat (drop (suc i) script.vats) programs fault reply.status (string_bytes reply.text) are is
    (subst (λ (k : ℕ). IsDueOfFault k vat.name fault reply.status (string_bytes reply.text)) number due))
