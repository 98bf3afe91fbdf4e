-- For each way on which one message is before another the smallest script, and the messages of its run in the order in which they are taken.
use Rattle.std.specs.Prelude.{◌≡◌, List, [], ◌∷◌, ◌++◌, codes}
use Rattle.def_run.specs.World.{Entry, Turn, Carry, CutLink, NoticeLink, Program, Script}
use Rattle.def_machine.specs.Values.{Words}
use Rattle.test_machine.specs.Runs.{vat, script_of, message, taken, opened_runs}

-- ---- in one vat

-- def o { method f() { 1 }; method g() { 2 } }; o <- f(); o <- g()
unfoldable pub queue_script : Script
queue_script = script_of
    (vat (codes "a") [] (codes "(seq (object (final o) () (method f () (lit 1)) (method g () (lit 2))) (call (noun E) send (noun o) (lit \"f\") (call (noun __makeList) run)) (call (noun E) send (noun o) (lit \"g\") (call (noun __makeList) run)))") ∷ [])
    (Turn 0 ∷ Turn 0 ∷ [])

abbrev pub QueueRow : Type 0
QueueRow = taken queue_script ≡ message 0 0 ∷ message 0 1 ∷ []

-- def o { method f() { 1 }; method g() { 2 } }; def [p, r] := Ref.promise(); p <- f(); p <- g(); r.resolve(o)
unfoldable pub held_script : Script
held_script = script_of
    (vat (codes "a") [] (codes "(seq (object (final o) () (method f () (lit 1)) (method g () (lit 2))) (def (list (final p) (final r)) (call (noun Ref) promise)) (call (noun E) send (noun p) (lit \"f\") (call (noun __makeList) run)) (call (noun E) send (noun p) (lit \"g\") (call (noun __makeList) run)) (call (noun r) resolve (noun o)))") ∷ [])
    (Turn 0 ∷ Turn 0 ∷ [])

abbrev pub HeldRow : Type 0
HeldRow = taken held_script ≡ message 0 0 ∷ message 0 1 ∷ []

-- def [p, r] := Ref.promise(); p <- f(); p <- g(); r.resolve(1)
unfoldable pub data_script : Script
data_script = script_of
    (vat (codes "a") [] (codes "(seq (def (list (final p) (final r)) (call (noun Ref) promise)) (call (noun E) send (noun p) (lit \"f\") (call (noun __makeList) run)) (call (noun E) send (noun p) (lit \"g\") (call (noun __makeList) run)) (call (noun r) resolve (lit 1)))") ∷ [])
    (Turn 0 ∷ Turn 0 ∷ [])

abbrev pub DataRow : Type 0
DataRow = taken data_script ≡ message 0 0 ∷ message 0 1 ∷ []

-- ---- handed on

-- def o { method f() { 1 }; method g() { 2 }; method get() { o } }
unfoldable pub host : Words
host = codes "(object (final o) () (method f () (lit 1)) (method g () (lit 2)) (method get () (noun o)))"

-- def t { method take(x) { x <- g() } }
unfoldable pub taker : Words
taker = codes "(object (final t) () (method take ((final x)) (call (noun E) send (noun x) (lit \"g\") (call (noun __makeList) run))))"

-- def t { method take(xs) { xs[0] <- g() } }
unfoldable pub list_taker : Words
list_taker = codes "(object (final t) () (method take ((final xs)) (call (noun E) send (call (noun xs) get (lit 0)) (lit \"g\") (call (noun __makeList) run))))"

-- c <- f(); b <- take(c): a hands to b what c hosts
unfoldable pub given_vats : List Program
given_vats =
    vat (codes "a") (1 ∷ 2 ∷ []) (codes "(seq (call (noun E) send (noun c) (lit \"f\") (call (noun __makeList) run)) (call (noun E) send (noun b) (lit \"take\") (call (noun __makeList) run (noun c))))")
    ∷ vat (codes "b") [] taker
    ∷ vat (codes "c") [] host
    ∷ []

-- g comes to c first, and waits there for the note that lets the gift go, which is behind f.
unfoldable pub given_script : Script
given_script = script_of given_vats (Carry 0 1 ∷ Turn 1 ∷ Carry 1 2 ∷ Carry 1 2 ∷ Turn 2 ∷ Carry 0 2 ∷ Carry 0 2 ∷ Turn 2 ∷ Turn 2 ∷ [])

abbrev pub GivenRow : Type 0
GivenRow = taken given_script ≡ message 0 1 ∷ message 0 0 ∷ message 1 0 ∷ []

-- The links between a and c are cut while f is under way: f is lost, and g is not taken.
unfoldable pub cut_script : Script
cut_script = script_of given_vats (Carry 0 1 ∷ Turn 1 ∷ Carry 1 2 ∷ Carry 1 2 ∷ CutLink 0 2 ∷ Carry 0 2 ∷ Carry 0 2 ∷ Turn 2 ∷ NoticeLink 2 0 ∷ Turn 2 ∷ [])

abbrev pub CutRow : Type 0
CutRow = taken cut_script ≡ message 0 1 ∷ []

-- def [p, r] := Ref.promise(); p <- f(); b <- take(p); r.resolve(o): a hands on its own promise, and g comes back to it.
unfoldable pub promise_script : Script
promise_script = script_of
    (vat (codes "a") (1 ∷ []) (codes "(seq (object (final o) () (method f () (lit 1)) (method g () (lit 2))) (def (list (final p) (final r)) (call (noun Ref) promise)) (call (noun E) send (noun p) (lit \"f\") (call (noun __makeList) run)) (call (noun E) send (noun b) (lit \"take\") (call (noun __makeList) run (noun p))) (call (noun r) resolve (noun o)))")
    ∷ vat (codes "b") [] taker
    ∷ [])
    (Carry 0 1 ∷ Turn 1 ∷ Carry 1 0 ∷ Carry 1 0 ∷ Turn 0 ∷ Turn 0 ∷ [])

abbrev pub PromiseRow : Type 0
PromiseRow = taken promise_script ≡ message 0 1 ∷ message 0 0 ∷ message 1 0 ∷ []

-- c <- f(); b <- take([c])
unfoldable pub member_script : Script
member_script = script_of
    (vat (codes "a") (1 ∷ 2 ∷ []) (codes "(seq (call (noun E) send (noun c) (lit \"f\") (call (noun __makeList) run)) (call (noun E) send (noun b) (lit \"take\") (call (noun __makeList) run (call (noun __makeList) run (noun c)))))")
    ∷ vat (codes "b") [] list_taker
    ∷ vat (codes "c") [] host
    ∷ [])
    (Carry 0 1 ∷ Turn 1 ∷ Carry 1 2 ∷ Carry 1 2 ∷ Turn 2 ∷ Carry 0 2 ∷ Carry 0 2 ∷ Turn 2 ∷ Turn 2 ∷ [])

abbrev pub MemberRow : Type 0
MemberRow = taken member_script ≡ message 0 1 ∷ message 0 0 ∷ message 1 0 ∷ []

-- def [p, r] := Ref.promise(); def [q, s] := Ref.promise(); c <- f(); q <- take(p); r.resolve([c]); s.resolve(b)
-- What was sent is a promise, and what goes to b is the list to which it settled.
unfoldable pub settled_list_script : Script
settled_list_script = script_of
    (vat (codes "a") (1 ∷ 2 ∷ []) (codes "(seq (def (list (final p) (final r)) (call (noun Ref) promise)) (def (list (final q) (final s)) (call (noun Ref) promise)) (call (noun E) send (noun c) (lit \"f\") (call (noun __makeList) run)) (call (noun E) send (noun q) (lit \"take\") (call (noun __makeList) run (noun p))) (call (noun r) resolve (call (noun __makeList) run (noun c))) (call (noun s) resolve (noun b)))")
    ∷ vat (codes "b") [] list_taker
    ∷ vat (codes "c") [] host
    ∷ [])
    (Carry 1 0 ∷ Carry 0 1 ∷ Turn 1 ∷ Carry 1 2 ∷ Carry 1 2 ∷ Turn 2 ∷ Carry 0 2 ∷ Carry 0 2 ∷ Turn 2 ∷ Turn 2 ∷ [])

abbrev pub SettledListRow : Type 0
SettledListRow = taken settled_list_script ≡ message 0 1 ∷ message 0 0 ∷ message 1 0 ∷ []

-- a: c <- f(); b <- give(c)    b: def t { method give(x) { d <- take(x) } }
-- d sends g on what came to it over two vats. Its gift leads to that of b, and this to the note behind f.
unfoldable pub chain_script : Script
chain_script = script_of
    (vat (codes "a") (1 ∷ 2 ∷ []) (codes "(seq (call (noun E) send (noun c) (lit \"f\") (call (noun __makeList) run)) (call (noun E) send (noun b) (lit \"give\") (call (noun __makeList) run (noun c))))")
    ∷ vat (codes "b") (3 ∷ []) (codes "(object (final t) () (method give ((final x)) (call (noun E) send (noun d) (lit \"take\") (call (noun __makeList) run (noun x)))))")
    ∷ vat (codes "c") [] host
    ∷ vat (codes "d") [] taker
    ∷ [])
    (Carry 0 1 ∷ Turn 1 ∷ Carry 1 3 ∷ Turn 3 ∷ Carry 3 2 ∷ Carry 3 2 ∷ Carry 1 2 ∷ Carry 1 2 ∷ Turn 2 ∷ Carry 0 2 ∷ Carry 0 2 ∷ Turn 2 ∷ Turn 2 ∷ [])

abbrev pub ChainRow : Type 0
ChainRow = taken chain_script ≡ message 0 1 ∷ message 1 0 ∷ message 0 0 ∷ message 3 0 ∷ []

-- def x := c <- get(); x <- f(); b <- take(x): what c gives is not there yet, and the gift waits for it behind f.
unfoldable pub waiting_script : Script
waiting_script = script_of
    (vat (codes "a") (1 ∷ 2 ∷ []) (codes "(seq (def (final x) (call (noun E) send (noun c) (lit \"get\") (call (noun __makeList) run))) (call (noun E) send (noun x) (lit \"f\") (call (noun __makeList) run)) (call (noun E) send (noun b) (lit \"take\") (call (noun __makeList) run (noun x))))")
    ∷ vat (codes "b") [] taker
    ∷ vat (codes "c") [] host
    ∷ [])
    (Carry 0 1 ∷ Turn 1 ∷ Carry 0 2 ∷ Carry 0 2 ∷ Carry 0 2 ∷ Carry 1 2 ∷ Carry 1 2 ∷ Turn 2 ∷ Turn 2 ∷ Turn 2 ∷ [])

abbrev pub WaitingRow : Type 0
WaitingRow = taken waiting_script ≡ message 0 2 ∷ message 0 0 ∷ message 0 1 ∷ message 1 0 ∷ []

-- ---- elsewhere

-- a: def r := b <- get(); r <- f(); def go { method run() { r <- g() } }; go <- run()    b: def t { method get() { c } }
unfoldable pub view_vats : List Program
view_vats =
    vat (codes "a") (1 ∷ []) (codes "(seq (def (final r) (call (noun E) send (noun b) (lit \"get\") (call (noun __makeList) run))) (call (noun E) send (noun r) (lit \"f\") (call (noun __makeList) run)) (object (final go) () (method run () (call (noun E) send (noun r) (lit \"g\") (call (noun __makeList) run)))) (call (noun E) send (noun go) (lit \"run\") (call (noun __makeList) run)))")
    ∷ vat (codes "b") (2 ∷ []) (codes "(object (final t) () (method get () (noun c)))")
    ∷ vat (codes "c") [] host
    ∷ []

-- a is told that r is at c while f is still under way to b, and sends g to c at once.
unfoldable pub told_elsewhere : List Entry
told_elsewhere = Carry 2 1 ∷ Carry 0 1 ∷ Turn 1 ∷ Carry 1 0 ∷ Carry 1 0 ∷ Turn 0 ∷ Carry 0 2 ∷ Carry 0 2 ∷ Carry 1 2 ∷ Turn 2 ∷ []

-- The note that lets g go comes from b, behind f.
unfoldable pub view_script : Script
view_script = script_of view_vats (told_elsewhere ++ Carry 0 1 ∷ Carry 0 1 ∷ Carry 1 2 ∷ Carry 1 2 ∷ Turn 2 ∷ Turn 2 ∷ [])

abbrev pub ViewRow : Type 0
ViewRow = taken view_script ≡ message 0 0 ∷ message 0 2 ∷ message 0 1 ∷ message 0 3 ∷ []

-- The links between a and b are cut while f and the note that asks b for it are under way: f is lost, and g is not taken.
unfoldable pub cut_view_script : Script
cut_view_script = script_of view_vats (told_elsewhere ++ CutLink 0 1 ∷ Carry 0 1 ∷ Carry 1 2 ∷ Turn 2 ∷ [])

abbrev pub CutViewRow : Type 0
CutViewRow = taken cut_view_script ≡ message 0 0 ∷ message 0 2 ∷ []

-- opens the definitions of this file, and of those below
unfoldable pub opened_rows : Unit {0}
unfolding queue_script held_script data_script host taker list_taker given_vats given_script cut_script promise_script member_script settled_list_script chain_script waiting_script view_vats told_elsewhere view_script cut_view_script opened_runs
opened_rows = tt
