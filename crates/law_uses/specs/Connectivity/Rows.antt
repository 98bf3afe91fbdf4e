-- Histories that are connected, and one that is not.
use Rattle.std.specs.Prelude.{ℕ, List, [], ◌∷◌, None, Some, codes}
use Rattle.def_machine.specs.Values.{Value, Null, Broken, Ref, Name, Root, Object, Promise, Answer, Sent, Msg}
use Rattle.def_machine.specs.State.{Fixed, Made, Message, Vat, Happened, Took, Called, Sends, Finished, Settles, begun}
use Rattle.def_kernel.specs.declared.node.Literal.TheVariants as literal
use Rattle.def_kernel.specs.declared.node.Node.{Node}
use Rattle.def_kernel.specs.declared.node.Node.TheVariants as node
use Rattle.law_machine.specs.Machine.Steps.{Opens, Takes}
use Rattle.law_uses.specs.Connectivity.Known.{Holdings}

-- a vat before its opening turn, which knows its own root
unfoldable pub fresh : Vat Name
fresh = record {
  number = 0;
  fuel = 1000;
  drawn = [];
  things = [];
  slots = [];
  lists = [];
  activations = 0;
  messages = 0;
  promises = 0;
  queue = [];
  known = begun (Root 0) 0 ∷ [];
  mails = [];
  gifts = [];
  noticed = [];
  outbox = [];
  happened = [];
}

-- ---- handed on, or not

-- an object without captures, and a promise
unfoldable pub helper : Value Name
helper = Ref (Object 0 0)

unfoldable pub secret : Value Name
secret = Ref (Promise 0 0)

unfoldable pub one_object : Holdings Name Name
one_object = record { things = Made 0 [] [] ∷ []; lists = []; slots = []; before = []; given = []; start = record { step = Opens [] 0 (Root 0) []; vat = fresh } }

unfoldable pub sent : ℕ → Msg
sent n = record { sender = 0; number = n }

unfoldable pub message : ℕ → Value Name → List (Value Name) → Message Name
message n target args = record { id = Sent (sent n); target = target; verb = codes "run"; args = args; answer = Some (Answer 0 (sent n)) }

-- Activation 0 has the helper and the secret as its arguments, and calls the helper with these. The activation that this begins sends on the secret.
unfoldable pub handed : List (Value Name) → List (Happened Name)
handed args =
    Took 0 (message 0 Null (helper ∷ secret ∷ []))
    ∷ Called 0 helper (codes "run") args (Some 1)
    ∷ Sends 1 (message 1 secret [])
    ∷ []

-- ---- captured under a guard

-- the object has captured null, which was bound under the secret as its guard
unfoldable pub guarded : Holdings Name Name
guarded = record one_object { things = Made 0 (record { noun = codes "k"; bound = Fixed Null secret } ∷ []) [] ∷ [] }

-- The activation that the helper begins calls that guard to coerce.
unfoldable pub coercing : List (Happened Name)
coercing =
    Took 0 (message 0 Null (helper ∷ secret ∷ []))
    ∷ Called 0 helper (codes "run") [] (Some 1)
    ∷ Called 1 secret (codes "coerce") (Null ∷ Null ∷ []) None
    ∷ []

-- ---- settled to what nobody gave

unfoldable pub answering : Holdings Name Name
answering = record one_object { start = record { step = Takes [] 0 (message 0 helper []); vat = fresh } }

-- Activation 0 takes a message and gives null, and the answer settles to the secret.
unfoldable pub stray : List (Happened Name)
stray =
    Took 0 (message 0 helper [])
    ∷ Finished 0 Null
    ∷ Settles (Answer 0 (sent 0)) secret
    ∷ []

-- ---- broken without a cause

-- Activation 0 takes a message and gives the helper, and the answer breaks as one that leads back to itself.
unfoldable pub ringless : List (Happened Name)
ringless =
    Took 0 (message 0 helper [])
    ∷ Finished 0 helper
    ∷ Settles (Answer 0 (sent 0)) (Broken (codes "cycle"))
    ∷ []

-- The cut of vat 5 is noticed.
unfoldable pub parting : Holdings Name Name
parting = record one_object { start = record { step = Takes [] 0 (message 0 helper []); vat = record fresh { noticed = 5 ∷ [] } } }

-- Activation 0 takes a message and gives null, and the answer breaks as one of a vat that is cut off.
unfoldable pub parted : List (Happened Name)
parted =
    Took 0 (message 0 helper [])
    ∷ Finished 0 Null
    ∷ Settles (Answer 0 (sent 0)) (Broken (codes "partition"))
    ∷ []

-- ---- a small program

-- def o { to run(x) { x } }; def f { to go(y) { o.run(y) } }; f.go(o)
unfoldable pub program : List Node
program =
    node.Sequence (1 ∷ 6 ∷ 13 ∷ [])
    ∷ node.Object 2 [] (3 ∷ [])
    ∷ node.Final (codes "o") None
    ∷ node.Method (codes "run") (4 ∷ []) 5
    ∷ node.Final (codes "x") None
    ∷ node.Noun (codes "x")
    ∷ node.Object 7 [] (8 ∷ [])
    ∷ node.Final (codes "f") None
    ∷ node.Method (codes "go") (9 ∷ []) 10
    ∷ node.Final (codes "y") None
    ∷ node.Call 11 (codes "run") (12 ∷ [])
    ∷ node.Noun (codes "o")
    ∷ node.Noun (codes "y")
    ∷ node.Call 14 (codes "go") (15 ∷ [])
    ∷ node.Noun (codes "f")
    ∷ node.Noun (codes "o")
    ∷ []

-- def o {}; var s := o; escape ex { ex.run(s) }
unfoldable pub escaping : List Node
escaping =
    node.Sequence (1 ∷ 3 ∷ 6 ∷ [])
    ∷ node.Object 2 [] []
    ∷ node.Final (codes "o") None
    ∷ node.Def 4 None 5
    ∷ node.Var (codes "s") None
    ∷ node.Noun (codes "o")
    ∷ node.Escape 7 8 None
    ∷ node.Final (codes "ex") None
    ∷ node.Call 9 (codes "run") (10 ∷ [])
    ∷ node.Noun (codes "ex")
    ∷ node.Noun (codes "s")
    ∷ []

-- An auditor that asks another, which asks for the guard of a free name:
-- def p { to audit(m) { m.getGuard("k") } }; def q { to audit(m) { m.ask(p) } }; def g { to coerce(x, j) { x } };
-- def k :g := null; def x as q { to run() { k } }
unfoldable pub auditing : List Node
auditing =
    node.Sequence (1 ∷ 8 ∷ 15 ∷ 21 ∷ 25 ∷ [])
    ∷ node.Object 2 [] (3 ∷ [])
    ∷ node.Final (codes "p") None
    ∷ node.Method (codes "audit") (4 ∷ []) 5
    ∷ node.Final (codes "m") None
    ∷ node.Call 6 (codes "getGuard") (7 ∷ [])
    ∷ node.Noun (codes "m")
    ∷ node.Lit (literal.Text (codes "k"))
    ∷ node.Object 9 [] (10 ∷ [])
    ∷ node.Final (codes "q") None
    ∷ node.Method (codes "audit") (11 ∷ []) 12
    ∷ node.Final (codes "m") None
    ∷ node.Call 13 (codes "ask") (14 ∷ [])
    ∷ node.Noun (codes "m")
    ∷ node.Noun (codes "p")
    ∷ node.Object 16 [] (17 ∷ [])
    ∷ node.Final (codes "g") None
    ∷ node.Method (codes "coerce") (18 ∷ 19 ∷ []) 20
    ∷ node.Final (codes "x") None
    ∷ node.Final (codes "j") None
    ∷ node.Noun (codes "x")
    ∷ node.Def 22 None 24
    ∷ node.Final (codes "k") (Some 23)
    ∷ node.Noun (codes "g")
    ∷ node.Noun (codes "null")
    ∷ node.Object 26 (27 ∷ []) (28 ∷ [])
    ∷ node.Final (codes "x") None
    ∷ node.Noun (codes "q")
    ∷ node.Method (codes "run") [] 29
    ∷ node.Noun (codes "k")
    ∷ []

unfoldable pub opened_rows : Unit {0}
unfolding helper secret one_object sent message handed guarded coercing answering stray ringless parting parted program escaping auditing fresh
opened_rows = tt
