-- The first fault of small forms, by computing.
use Rattle.std.specs.Prelude.{map, ◌≡◌, ℕ, List, [], ◌∷◌, codes, Option, Some, None, Result, Ok, Err, refl}
use Rattle.def_kernel.specs.declared.node.Node.{Node}
use Rattle.def_kernel.specs.Reading.{read, opened_reading}
use Rattle.ev_reader.specs.declared.scope_fault.ScopeFault.{ScopeFault}
use Rattle.ev_reader.specs.declared.scope_fault.ScopeFault.TheVariants.{Unbound, AssignToFinal, BoundTwice}
use Rattle.ev_reader.specs.Scopes.{first_fault}

abbrev given : List (List ℕ)
given = codes "int" ∷ codes "f" ∷ []

abbrev fault_of : Result (List Node) ℕ → Option ScopeFault
fault_of (Ok nodes) = first_fault nodes given
fault_of (Err place) = None

abbrev fault : List ℕ → Option ScopeFault
fault form = fault_of (read form)

faults : map fault (
    codes "(noun x)"
    ∷ codes "(seq (def (final x) (lit 1)) (set x (lit 2)))"
    ∷ codes "(set f (lit 1))"
    ∷ codes "(set x (def (var x) (lit 1)))"
    ∷ codes "(seq (def (final x) (lit 1)) (set x (noun y)))"
    ∷ codes "(def (final x (def (final x) (noun y))) (lit 1))"
    ∷ codes "(def (final x (seq (noun z) (def (final x) (lit 2)))) (noun y))"
    ∷ codes "(def (list (final a) (final a)) (lit 1))"
    ∷ codes "(def (final a (noun a)) (lit 1))"
    ∷ codes "(def (final p) exit (noun j) (noun e))"
    ∷ codes "(object (final x) ((noun x)))"
    ∷ codes "(seq (hide (def (final x) (lit 1))) (noun x))"
    ∷ codes "(if (match (lit 1) (final x)) (noun x) (noun x))"
    ∷ codes "(escape (final j) (noun j) (final p) (noun j))"
    ∷ codes "(finally (def (final x) (lit 1)) (noun x))"
    ∷ codes "(try (def (final x) (lit 1)) (any) (noun x))"
    ∷ codes "(object (any) () (method run ((final x) (final x)) (lit 1)))"
    ∷ codes "(seq (def (final f) (lit 1)) (def (final f) (lit 2)))"
    ∷ [])
    ≡ (Some (Unbound 0) ∷ Some (AssignToFinal 4) ∷ Some (AssignToFinal 0) ∷ Some (Unbound 0) ∷ Some (AssignToFinal 4)
    ∷ Some (BoundTwice 1) ∷ Some (Unbound 7) ∷ Some (BoundTwice 3) ∷ Some (Unbound 2) ∷ Some (Unbound 2) ∷ Some (Unbound 2)
    ∷ Some (Unbound 5) ∷ Some (Unbound 5) ∷ Some (Unbound 4) ∷ Some (Unbound 4) ∷ Some (Unbound 5) ∷ Some (BoundTwice 4)
    ∷ Some (BoundTwice 5) ∷ [])
unfolding opened_reading
faults = refl

scoped : map fault (
    codes "(lit 1)"
    ∷ codes "(def (list (final a) (final b (noun a))) (lit 1))"
    ∷ codes "(seq (def (var n) (lit 0)) (set n (noun int)) (hide (def (final n) (noun n))))"
    ∷ codes "(object (final x) () (method run ((final x)) (noun x)) (matcher (final m) (noun x)))"
    ∷ codes "(if (match (noun f) (final x)) (noun x) (noun int))"
    ∷ codes "(seq (def (final f) (lit 1)) (noun f))"
    ∷ codes "(try (escape (final j) (noun j) (final q) (noun q)) (final p) (finally (noun p) (noun p)))"
    ∷ [])
    ≡ (None ∷ None ∷ None ∷ None ∷ None ∷ None ∷ None ∷ [])
unfolding opened_reading
scoped = refl
