-- One vat that knows no other: its script, its opening turn under numbers of its own, and what that makes of the run.
use Rattle.std.specs.Prelude.{◌≡◌, ℕ, zero, List, [], ◌∷◌, map}
use Rattle.def_kernel.specs.declared.node.Node.{Node}
use Rattle.def_machine.specs.Values.{Words, Name, Root, Object, Sent, Local, Obj, Prom, Far, Mess, numbering}
use Rattle.def_machine.specs.State.{Known, Vat, Done, Gives, Throws, Ejects, Stops, begun}
use Rattle.def_machine.specs.Eval.{opening}
use Rattle.def_machine.specs.Maps as maps
use Rattle.def_run.specs.Draws.{draw_word}
use Rattle.def_run.specs.World.{Script, Run, Opens, then_goes, put_back, begins, close, run}

-- the script of one vat that knows no other, with an empty schedule
abbrev pub alone : List ℕ → ℕ → ℕ → Words → List Node → Script
alone key fuel depth name tree = record { key = key; fuel = fuel; depth = depth; vats = record { name = name; knows = []; tree = tree } ∷ []; schedule = [] }

-- The vat at the start, under numbers of its own. Its root is the one name that it knows, number 0.
unfoldable pub start : ℕ → Vat Local
start fuel = record {
  number = zero;
  fuel = fuel;
  drawn = [];
  things = [];
  slots = [];
  lists = [];
  activations = zero;
  messages = zero;
  promises = zero;
  queue = [];
  known = begun (Prom zero) zero ∷ [];
  mails = [];
  gifts = [];
  noticed = [];
  outbox = [];
  happened = [];
}

-- its opening turn under these numbers
abbrev pub opened_alone : (ℕ → ℕ) → ℕ → ℕ → List Node → Done Local (Unit {0})
opened_alone word fuel depth tree = opening (numbering {W = Local} word) tree depth (Prom zero) [] (start fuel)

-- The name of each number of the vat: an object of its own, or its root. The others stand for nothing as long as nothing new is named.
unfoldable pub name_of : Local → Name
name_of (Obj i) = Object zero i
name_of (Prom k) = Root zero
name_of (Far h p) = Object h p
name_of (Mess k) = Sent (record { sender = zero; number = k })

-- the root is the one name known, and no message came to be
abbrev pub KnowsRootAlone : Vat Local → Type 0
KnowsRootAlone s = (map (λ (k : Known Local). k.name) s.known ≡ Prom zero ∷ []) × (s.mails ≡ [])

-- nothing new was named
abbrev pub NamesNothing : {A : Type 0} → Done Local A → Type 0
NamesNothing (Gives a s) = KnowsRootAlone s
NamesNothing (Throws p s) = KnowsRootAlone s
NamesNothing (Ejects n v s) = KnowsRootAlone s
NamesNothing (Stops c s) = KnowsRootAlone s

-- the run of which this is the one step
unfoldable pub run_of_step : Script → Done Name (Unit {0}) → Run
run_of_step script d = then_goes (put_back zero (begins script) (Opens zero ∷ []) zero d) (close script)

-- whatever the key, the fuel, the greatest depth, the vat's name and its tree
abbrev pub RunsAlone : Type 0
RunsAlone = (key : List ℕ) (fuel depth : ℕ) (name : Words) (tree : List Node)
    → NamesNothing (opened_alone (draw_word key) fuel depth tree)
    → run (alone key fuel depth name tree) ≡ run_of_step (alone key fuel depth name tree) (maps.done name_of (λ u. u) (opened_alone (draw_word key) fuel depth tree))
