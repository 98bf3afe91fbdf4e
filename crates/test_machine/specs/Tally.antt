-- A counter that is sent two messages, and a reaction that waits for the second answer; and the same with too little fuel.
use Rattle.std.specs.Prelude.{◌≡◌, pos, ℕ, List, [], ◌∷◌, ◌++◌, None, Ok, codes}
use Rattle.def_run.specs.World.{Turn, Script, run}
use Rattle.def_run.specs.Text.{text}
use Rattle.def_kernel.specs.Reading.{read}
use Rattle.test_machine.specs.Endings.{lines}
use Rattle.def_kernel.specs.declared.node.Literal.TheVariants as literal
use Rattle.def_kernel.specs.declared.node.Node.{Node}
use Rattle.def_kernel.specs.declared.node.Node.TheVariants.{Lit, Noun, Set, Def, Call, Sequence, Object, Method, Final, Var, Any}
use Rattle.test_machine.specs.Keys.{zeros}

-- var n := 0; def counter { method incr() { n += 1 } }; counter <- incr(); def second := counter <- incr(); when (second) -> { second * 10 }
unfoldable pub tree_a : List Node
tree_a =
    Sequence (1 ∷ 4 ∷ 11 ∷ 17 ∷ 25 ∷ [])
    ∷ Def 2 None 3
    ∷ Var (codes "n") None
    ∷ Lit (literal.Int (pos 0))
    ∷ Object 5 [] (6 ∷ [])
    ∷ Final (codes "counter") None
    ∷ Method (codes "incr") [] 7
    ∷ Set (codes "n") 8
    ∷ Call 9 (codes "add") (10 ∷ [])
    ∷ Noun (codes "n")
    ∷ Lit (literal.Int (pos 1))
    ∷ Call 12 (codes "send") (13 ∷ 14 ∷ 15 ∷ [])
    ∷ Noun (codes "E")
    ∷ Noun (codes "counter")
    ∷ Lit (literal.Text (codes "incr"))
    ∷ Call 16 (codes "run") []
    ∷ Noun (codes "__makeList")
    ∷ Def 18 None 19
    ∷ Final (codes "second") None
    ∷ Call 20 (codes "send") (21 ∷ 22 ∷ 23 ∷ [])
    ∷ Noun (codes "E")
    ∷ Noun (codes "counter")
    ∷ Lit (literal.Text (codes "incr"))
    ∷ Call 24 (codes "run") []
    ∷ Noun (codes "__makeList")
    ∷ Call 26 (codes "whenResolved") (27 ∷ 28 ∷ [])
    ∷ Noun (codes "Ref")
    ∷ Noun (codes "second")
    ∷ Object 29 [] (30 ∷ [])
    ∷ Any None
    ∷ Method (codes "run") (31 ∷ []) 32
    ∷ Final (codes "__w") None
    ∷ Sequence (33 ∷ 36 ∷ [])
    ∷ Call 34 (codes "fulfillment") (35 ∷ [])
    ∷ Noun (codes "Ref")
    ∷ Noun (codes "__w")
    ∷ Call 37 (codes "multiply") (38 ∷ [])
    ∷ Noun (codes "second")
    ∷ Lit (literal.Int (pos 10))
    ∷ []

-- with so much fuel
unfoldable pub script : ℕ → Script
script fuel = record {
  key = zeros;
  fuel = fuel;
  depth = 400;
  vats =
      record { name = codes "a"; knows = []; tree = tree_a } ∷
      [];
  schedule = Turn 0 ∷ Turn 0 ∷ Turn 0 ∷ [];
}

-- the lines of the opening turn and of the first message
unfoldable pub begun : List (List ℕ)
begun =
    codes "open a"
    ∷ codes "!0 slot a&0 0"
    ∷ codes "!0 made a.0 counter caps a&0"
    ∷ codes "!0 list a%0"
    ∷ codes "!0 send a/0 a.0 incr -> a?a/0"
    ∷ codes "!0 list a%1"
    ∷ codes "!0 send a/1 a.0 incr -> a?a/1"
    ∷ codes "!0 made a.1 _ caps a?a/1"
    ∷ codes "!0 when a/2 a?a/1 a.1 -> a?a/2"
    ∷ codes "!0 done a?a/2"
    ∷ codes "wait @a a?a/2"
    ∷ codes "1 turn a"
    ∷ codes "!1 take a/0 a.0 incr"
    ∷ codes "!1 read a&0 0"
    ∷ codes "!1 call 0 add 1"
    ∷ codes "!1 back 1"
    ∷ codes "!1 wrote a&0 1"
    ∷ codes "!1 done 1"
    ∷ codes "settle a?a/0 1"
    ∷ []

abbrev pub TallyHolds : Type 0
TallyHolds = text (script 1000000) (run (script 1000000)) ≡ lines (
    begun
    ++ codes "2 turn a"
    ∷ codes "!2 take a/1 a.0 incr"
    ∷ codes "!2 read a&0 1"
    ∷ codes "!2 call 1 add 1"
    ∷ codes "!2 back 2"
    ∷ codes "!2 wrote a&0 2"
    ∷ codes "!2 done 2"
    ∷ codes "settle a?a/1 2"
    ∷ codes "3 turn a"
    ∷ codes "!3 take a/2 a.1 run a?a/1"
    ∷ codes "!3 call a?a/1 multiply 10"
    ∷ codes "!3 back 20"
    ∷ codes "!3 done 20"
    ∷ codes "settle a?a/2 20"
    ∷ codes "settle @a 20"
    ∷ codes "end"
    ∷ [])

-- the fuel is spent in the turn of the second message
abbrev pub TallyStops : Type 0
TallyStops = text (script 30) (run (script 30)) ≡ lines (begun ++ codes "stop fuel 2" ∷ [])

-- the trees are those of these forms
abbrev pub TallyReads : Type 0
TallyReads =
    (read (codes "(seq (def (var n) (lit 0)) (object (final counter) () (method incr () (set n (call (noun n) add (lit 1))))) (call (noun E) send (noun counter) (lit \"incr\") (call (noun __makeList) run)) (def (final second) (call (noun E) send (noun counter) (lit \"incr\") (call (noun __makeList) run))) (call (noun Ref) whenResolved (noun second) (object (any) () (method run ((final __w)) (seq (call (noun Ref) fulfillment (noun __w)) (call (noun second) multiply (lit 10)))))))") ≡ Ok tree_a)

-- opens the definitions of this file
unfoldable pub opened_tally : Unit {0}
unfolding tree_a script begun
opened_tally = tt
