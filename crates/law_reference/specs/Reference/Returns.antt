-- A run in which a message comes back to the vat that sent it.
use Rattle.std.specs.Prelude.{◌≡◌, ℕ, List, [], ◌∷◌, Some, None, Option, slice_get, codes}
use Rattle.def_machine.specs.Values.{Name, Root, Answer, Sent, Msg}
use Rattle.def_machine.specs.State.{Vat}
use Rattle.def_run.specs.World.{Carry, Script, Run, Goes, Stopped, run, names_of}
use Rattle.def_kernel.specs.declared.node.Literal.TheVariants as literal
use Rattle.def_kernel.specs.declared.node.Node.{Node}
use Rattle.def_kernel.specs.declared.node.Node.TheVariants.{Lit, Noun, Call, Sequence, Object, Final}

-- b <- run(); def o {}
unfoldable pub tree_a : List Node
tree_a =
    Sequence (1 ∷ 7 ∷ [])
    ∷ Call 2 (codes "send") (3 ∷ 4 ∷ 5 ∷ [])
    ∷ Noun (codes "E")
    ∷ Noun (codes "b")
    ∷ Lit (literal.Text (codes "run"))
    ∷ Call 6 (codes "run") []
    ∷ Noun (codes "__makeList")
    ∷ Object 8 [] []
    ∷ Final (codes "o") None
    ∷ []

-- a
unfoldable pub tree_b : List Node
tree_b = Noun (codes "a") ∷ []

-- The message and the news of a's root arrive at b, whose root settles to the object of a; so the message goes back.
unfoldable pub script : Script
script = record {
  key = [];
  fuel = 1000;
  depth = 100;
  vats = record { name = codes "a"; knows = 1 ∷ []; tree = tree_a } ∷ record { name = codes "b"; knows = 0 ∷ []; tree = tree_b } ∷ [];
  schedule = Carry 0 1 ∷ Carry 0 1 ∷ Carry 1 0 ∷ [];
}

unfoldable pub vats_of : Run → List (Vat Name)
vats_of (Goes w) = w.vats
vats_of (Stopped c k w) = []

unfoldable pub mails_in : Option (Vat Name) → List Name
mails_in (Some s) = s.mails
mails_in None = []

-- the messages that vat v has had
unfoldable pub mails_at : ℕ → List Name
mails_at v = mails_in (slice_get (vats_of (run script)) v)

unfoldable pub names_in : Option (Vat Name) → List Name
names_in (Some s) = names_of s
names_in None = []

-- the names that vat v knows
unfoldable pub names_at : ℕ → List Name
names_at v = names_in (slice_get (vats_of (run script)) v)

-- The sender has it twice, the other vat once; and each of the two knows its answers at both, once.
abbrev pub AMessageReturns : Type 0
AMessageReturns = let m : Msg = record { sender = 0; number = 0 } in (mails_at 0 ≡ Sent m ∷ Sent m ∷ []) × (mails_at 1 ≡ Sent m ∷ [])
    × (names_at 0 ≡ Root 0 ∷ Root 1 ∷ Answer 1 m ∷ Answer 0 m ∷ []) × (names_at 1 ≡ Root 1 ∷ Root 0 ∷ Answer 1 m ∷ Answer 0 m ∷ [])

-- opens the definitions of this file
unfoldable pub opened_returns : Unit {0}
unfolding tree_a tree_b script vats_of mails_in mails_at names_in names_at
opened_returns = tt
