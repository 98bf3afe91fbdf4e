-- Small texts and what they expand to.
use Rattle.std.specs.Prelude.{ℕ, List, [], ◌∷◌, ◌++◌, codes}
use Rattle.test_expand.specs.Sources.{Expands, Refused}
use Rattle.ev_expand.specs.declared.marks.FaultKind.TheVariants.{Return, Break, Name}

-- a quote, a backslash
abbrev mark : List ℕ
mark = 34 ∷ []

abbrev slant : List ℕ
slant = 92 ∷ []

abbrev pub Literals : Type 0
Literals =
    Expands (codes "007") (codes "(lit 7)")
    × Expands (mark ++ codes "a" ++ slant ++ codes "n'" ++ mark) (codes "(lit " ++ mark ++ codes "a" ++ slant ++ codes "n'" ++ mark ++ codes ")")
    × Expands (codes "'x'") (codes "(lit 'x')")
    × Expands (codes "'" ++ slant ++ codes "n'") (codes "(lit '" ++ slant ++ codes "n')")
    × Expands (codes "'" ++ mark ++ codes "'") (codes "(lit '" ++ slant ++ mark ++ codes "')")
    × Expands (codes "1." ++ mark ++ codes "if" ++ mark ++ codes "()") (codes "(call (lit 1) " ++ mark ++ codes "if" ++ mark ++ codes ")")
    × Expands (codes "1." ++ mark ++ codes "a" ++ mark ++ codes "()") (codes "(call (lit 1) a)")
    × Expands (codes "1.__f()") (codes "(call (lit 1) __f)")

abbrev pub Calls : Type 0
Calls =
    Expands (codes "[a, b]") (codes "(call (noun __makeList) run (noun a) (noun b))")
    × Expands (codes "f(x)") (codes "(call (noun f) run (noun x))")
    × Expands (codes "o.v(x, y)") (codes "(call (noun o) v (noun x) (noun y))")
    × Expands (codes "o[i]") (codes "(call (noun o) get (noun i))")
    × Expands (codes "{1}(2)") (codes "(call (hide (lit 1)) run (lit 2))")

abbrev pub Sends : Type 0
Sends =
    Expands (codes "a <- v(x)") (codes "(call (noun E) send (noun a) (lit " ++ mark ++ codes "v" ++ mark ++ codes ") (call (noun __makeList) run (noun x)))")
    × Expands (codes "a <- ()") (codes "(call (noun E) send (noun a) (lit " ++ mark ++ codes "run" ++ mark ++ codes ") (call (noun __makeList) run))")
    × Expands (codes "a <- " ++ mark ++ codes "if" ++ mark ++ codes "()") (codes "(call (noun E) send (noun a) (lit " ++ mark ++ codes "if" ++ mark ++ codes ") (call (noun __makeList) run))")

abbrev pub Assignments : Type 0
Assignments =
    Expands (codes "x := 1") (codes "(set x (lit 1))")
    × Expands (codes "o[i] := 1") (codes "(call (noun o) put (noun i) (lit 1))")
    × Expands (codes "x += 1") (codes "(set x (call (noun x) add (lit 1)))")
    × Expands (codes "x -= 1; x *= 1; x //= 1") (codes "(seq (set x (call (noun x) subtract (lit 1))) (set x (call (noun x) multiply (lit 1))) (set x (call (noun x) floorDivide (lit 1))))")
    × Expands (codes "x %= 1; x %%= 1; x **= 1") (codes "(seq (set x (call (noun x) remainder (lit 1))) (set x (call (noun x) mod (lit 1))) (set x (call (noun x) pow (lit 1))))")
    × Expands (codes "x &= 1; x |= 1; x ^= 1") (codes "(seq (set x (call (noun x) and (lit 1))) (set x (call (noun x) or (lit 1))) (set x (call (noun x) xor (lit 1))))")

abbrev pub Arithmetic : Type 0
Arithmetic =
    Expands (codes "41 + 1") (codes "(call (lit 41) add (lit 1))")
    × Expands (codes "a - b - c") (codes "(call (call (noun a) subtract (noun b)) subtract (noun c))")
    × Expands (codes "a * b; a // b; a % b") (codes "(seq (call (noun a) multiply (noun b)) (call (noun a) floorDivide (noun b)) (call (noun a) remainder (noun b)))")
    × Expands (codes "a %% b; a ** b; a & b") (codes "(seq (call (noun a) mod (noun b)) (call (noun a) pow (noun b)) (call (noun a) and (noun b)))")
    × Expands (codes "a | b; a ^ b") (codes "(seq (call (noun a) or (noun b)) (call (noun a) xor (noun b)))")
    × Expands (codes "-a ** b") (codes "(call (call (noun a) negate) pow (noun b))")
    × Expands (codes "!a") (codes "(call (noun a) not)")

abbrev pub Comparisons : Type 0
Comparisons =
    Expands (codes "a == b") (codes "(call (noun __equalizer) sameEver (noun a) (noun b))")
    × Expands (codes "a != b") (codes "(call (call (noun __equalizer) sameEver (noun a) (noun b)) not)")
    × Expands (codes "a < b; a <= b") (codes "(seq (call (noun __comparer) lessThan (noun a) (noun b)) (call (noun __comparer) leq (noun a) (noun b)))")
    × Expands (codes "a <=> b; a >= b; a > b") (codes "(seq (call (noun __comparer) asBigAs (noun a) (noun b)) (call (noun __comparer) geq (noun a) (noun b)) (call (noun __comparer) greaterThan (noun a) (noun b)))")
    × Expands (codes "a..b; a..!b") (codes "(seq (call (noun __makeList) through (noun a) (noun b)) (call (noun __makeList) till (noun a) (noun b)))")
    × Expands (codes "a && b") (codes "(if (noun a) (if (noun b) (noun true) (noun false)) (noun false))")
    × Expands (codes "a || b") (codes "(if (noun a) (noun true) (if (noun b) (noun true) (noun false)))")
    × Expands (codes "a =~ p") (codes "(match (noun a) (final p))")

abbrev pub Blocks : Type 0
Blocks =
    Expands (codes "") (codes "(noun null)")
    × Expands (codes "1; 2") (codes "(seq (lit 1) (lit 2))")
    × Expands (codes "{}") (codes "(hide (noun null))")
    × Expands (codes "{{1}; 2}") (codes "(hide (seq (hide (lit 1)) (lit 2)))")
    × Expands (codes "({1})") (codes "(hide (lit 1))")
    × Expands (codes "if (a) {b}") (codes "(if (noun a) (noun b) (noun null))")
    × Expands (codes "if (a) {b} else {}") (codes "(if (noun a) (noun b) (noun null))")
    × Expands (codes "if (a) {b} else if (c) {d} else {{1}}") (codes "(if (noun a) (noun b) (if (noun c) (noun d) (hide (lit 1))))")

abbrev pub Loops : Type 0
Loops =
    Expands (codes "while (t) {b}") (codes "(call (noun __loop) run (object (any) () (method run () (if (noun t) (seq (noun b) (noun true)) (noun false)))))")
    × Expands (codes "while (t) {break}") (codes "(escape (final __break) (call (noun __loop) run (object (any) () (method run () (if (noun t) (seq (call (noun __break) run (noun null)) (noun true)) (noun false))))))")
    × Expands (codes "while (t) {continue 1}") (codes "(call (noun __loop) run (object (any) () (method run () (if (noun t) (seq (escape (final __continue) (call (noun __continue) run (lit 1))) (noun true)) (noun false)))))")
    × Expands (codes "while (break) {}") (codes "(escape (final __break) (call (noun __loop) run (object (any) () (method run () (if (call (noun __break) run (noun null)) (seq (noun null) (noun true)) (noun false))))))")
    × Expands (codes "while (continue) {}") (codes "(call (noun __loop) run (object (any) () (method run () (if (call (noun __continue) run (noun null)) (seq (noun null) (noun true)) (noun false)))))")
    × Expands (codes "while (t) {while (u) {break}}") (codes "(call (noun __loop) run (object (any) () (method run () (if (noun t) (seq (escape (final __break) (call (noun __loop) run (object (any) () (method run () (if (noun u) (seq (call (noun __break) run (noun null)) (noun true)) (noun false)))))) (noun true)) (noun false)))))")

abbrev pub Iterations : Type 0
Iterations =
    Expands (codes "for v in c {b}") (codes "(call (noun c) iterate (object (any) () (method run ((any) (final v)) (seq (noun b) (noun null)))))")
    × Expands (codes "for k => v in c {b; d}") (codes "(call (noun c) iterate (object (any) () (method run ((final k) (final v)) (seq (seq (noun b) (noun d)) (noun null)))))")
    × Expands (codes "for v in c {continue; break}") (codes "(escape (final __break) (call (noun c) iterate (object (any) () (method run ((any) (final v)) (seq (escape (final __continue) (seq (call (noun __continue) run (noun null)) (call (noun __break) run (noun null)))) (noun null))))))")
    × Expands (codes "for v in (break) {}") (codes "(escape (final __break) (call (call (noun __break) run (noun null)) iterate (object (any) () (method run ((any) (final v)) (seq (noun null) (noun null))))))")

abbrev pub Exits : Type 0
Exits =
    Expands (codes "escape e {e(1)}") (codes "(escape (final e) (call (noun e) run (lit 1)))")
    × Expands (codes "escape e {1} catch x {x}") (codes "(escape (final e) (lit 1) (final x) (noun x))")
    × Expands (codes "try {1}") (codes "(hide (lit 1))")
    × Expands (codes "try {1} catch p {2}") (codes "(try (lit 1) (final p) (lit 2))")
    × Expands (codes "try {1} catch p {2} catch q {3} catch r {4}") (codes "(try (try (try (lit 1) (final p) (lit 2)) (final q) (lit 3)) (final r) (lit 4))")
    × Expands (codes "try {1} finally {2}") (codes "(finally (lit 1) (lit 2))")
    × Expands (codes "try {1} catch p {2} finally {3}") (codes "(finally (try (lit 1) (final p) (lit 2)) (lit 3))")

abbrev pub Waits : Type 0
Waits =
    Expands (codes "when (e) -> {b}") (codes "(call (noun Ref) whenResolved (noun e) (object (any) () (method run ((final __w)) (seq (call (noun Ref) fulfillment (noun __w)) (noun b)))))")
    × Expands (codes "when (e) -> {b} catch p {c}") (codes "(call (noun Ref) whenResolved (noun e) (object (any) () (method run ((final __w)) (try (seq (call (noun Ref) fulfillment (noun __w)) (noun b)) (final p) (noun c)))))")
    × Expands (codes "fn a, b {c}") (codes "(object (any) () (method run ((final a) (final b)) (noun c)))")
    × Expands (codes "fn {}") (codes "(object (any) () (method run () (noun null)))")

abbrev pub Objects : Type 0
Objects =
    Expands (codes "def o {}") (codes "(object (final o) ())")
    × Expands (codes "def _ implements A, B {to v(p) {b}}") (codes "(object (any) ((noun A) (noun B)) (method v ((final p)) (seq (noun b) (noun null))))")
    × Expands (codes "def _ {to f() {1; 2}}") (codes "(object (any) () (method f () (seq (seq (lit 1) (lit 2)) (noun null))))")
    × Expands (codes "def _ {to f() {return}}") (codes "(object (any) () (method f () (escape (final __return) (seq (call (noun __return) run (noun null)) (noun null)))))")
    × Expands (codes "def _ {to f() :int {return 1}}") (codes "(object (any) () (method f () (seq (def (final __r (noun int)) (escape (final __return) (seq (call (noun __return) run (lit 1)) (noun null)))) (noun __r))))")
    × Expands (codes "def _ {to f(x :(return 1)) {}}") (codes "(object (any) () (method f ((final x (call (noun __return) run (lit 1)))) (escape (final __return) (seq (noun null) (noun null)))))")
    × Expands (codes "def _ {method v(p) :int {b}}") (codes "(object (any) () (method v ((final p)) (seq (def (final __r (noun int)) (noun b)) (noun __r))))")
    × Expands (codes "def m {match [v, args] {v}}") (codes "(object (final m) () (matcher (list (final v) (final args)) (noun v)))")

abbrev pub Functions : Type 0
Functions =
    Expands (codes "def f(p) {b}") (codes "(object (final f) () (method run ((final p)) (seq (noun b) (noun null))))")
    × Expands (codes "def f() {return f()}") (codes "(object (final f) () (method run () (escape (final __return) (seq (call (noun __return) run (call (noun f) run)) (noun null)))))")
    × Expands (codes "def f(x) :int implements A {while (t) {return x}}") (codes "(object (final f) ((noun A)) (method run ((final x)) (seq (def (final __r (noun int)) (escape (final __return) (seq (call (noun __loop) run (object (any) () (method run () (if (noun t) (seq (call (noun __return) run (noun x)) (noun true)) (noun false))))) (noun null)))) (noun __r))))")

abbrev pub Definitions : Type 0
Definitions =
    Expands (codes "def x := 1") (codes "(def (final x) (lit 1))")
    × Expands (codes "def x :int exit j := 1") (codes "(def (final x (noun int)) exit (noun j) (lit 1))")
    × Expands (codes "def p exit j[0] := 1") (codes "(def (final p) exit (call (noun j) get (lit 0)) (lit 1))")
    × Expands (codes "var x := 1") (codes "(def (var x) (lit 1))")
    × Expands (codes "var x :int exit j := 1") (codes "(def (var x (noun int)) exit (noun j) (lit 1))")
    × Expands (codes "def [a, var b, _, _ :int] := l") (codes "(def (list (final a) (var b) (any) (any (noun int))) (noun l))")
    × Expands (codes "def via (f) [] := l") (codes "(def (via (noun f) (list)) (noun l))")
    × Expands (codes "def x :g[a, b] := 1") (codes "(def (final x (call (noun g) get (noun a) (noun b))) (lit 1))")
    × Expands (codes "def x :({g}) := {1}") (codes "(def (final x (hide (noun g))) (hide (lit 1)))")

-- a `return` with no `to` or `def f()` nearest round it
abbrev pub StrayReturns : Type 0
StrayReturns =
    Refused (codes "return 1") Return 0
    × Refused (codes "def _ { to f() { when (return 1) -> {} } }") Return 10
    × Refused (codes "def _ { method f() { return 1 } }") Return 8
    × Refused (codes "def f() { fn { return } }") Return 7
    × Refused (codes "def _ { match p { return } }") Return 6
    × Refused (codes "def f() { def x implements (return) {} } ; return; break") Return 15

-- a `break` or `continue` with no loop round it inside what is nearest
abbrev pub StrayBreaks : Type 0
StrayBreaks =
    Refused (codes "break") Break 0
    × Refused (codes "continue; return") Break 0
    × Refused (codes "while (true) { fn { break } }") Break 7
    × Refused (codes "while (true) { def _ { to f() { continue } } }") Break 13
    × Refused (codes "for x in c { when (x) -> { break } }") Break 11

-- a noun that may not stand where it stands
abbrev pub ReservedNames : Type 0
ReservedNames =
    Refused (codes "__x; return") Name 0
    × Refused (codes "var true := 1") Name 1
    × Refused (codes "def x :__g := 1") Name 3
    × Refused (codes "def null {}") Name 1
    × Refused (codes "def any() {}") Name 1
    × Refused (codes "def f(var int) {}") Name 4
    × Refused (codes "E := 1") Name 0
    × Refused (codes "def f(x) implements __a {}") Name 6
    × Refused (codes "a; b + __c") Name 4
