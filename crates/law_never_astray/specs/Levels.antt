-- That no call uses up its levels where no list leads back to itself.
use Rattle.std.specs.Prelude.{◌≡◌, ℕ, zero, suc, ◌+◌, List, [], length}
use Rattle.def_machine.specs.Values.{Words, Value, Null, Flag, Number, Letter, Text, Prim, Broken, Items, Ref, Name, Naming, naming, numbering}
use Rattle.def_machine.specs.State.{Vat}
use Rattle.def_machine.specs.Native.{list_at}
use Rattle.def_machine.specs.Refs.{follow}
use Rattle.def_machine.specs.Scopes.{Evaluator, Caller}
use Rattle.def_machine.specs.Calls.{call_one, call}
use Rattle.def_kernel.specs.declared.node.Node.{Node}
use Rattle.law_fate.specs.Name.Names.{AllOf}

module _ {N W : Type 0} (K : Naming N W) where
  -- by members, each followed, one comes in so many steps at most to values without members
  abbrev pub EndsIn : ℕ → Vat N → Value N → Type 0
  EndsIn zero s (Items k) = list_at s.lists k ≡ []
  EndsIn (suc d) s (Items k) = AllOf (λ v. EndsIn d s (follow K s v)) (list_at s.lists k)
  EndsIn d s Null = Unit {0}
  EndsIn d s (Flag b) = Unit {0}
  EndsIn d s (Number z) = Unit {0}
  EndsIn d s (Letter c) = Unit {0}
  EndsIn d s (Text t) = Unit {0}
  EndsIn d s (Prim n) = Unit {0}
  EndsIn d s (Broken p) = Unit {0}
  EndsIn d s (Ref n) = Unit {0}

  -- so it is of every value, by no more members than there are lists
  abbrev pub ListsEnd : Vat N → Type 0
  ListsEnd s = (x : Value N) → EndsIn (length s.lists) s x

  module _ (tree : List Node) where
    -- a call of so many levels, one inside another, that makes that other call where they are used up
    unfoldable pub call_by : Caller N → ℕ → Evaluator N → Caller N
    call_by other zero rec act x verb args = other act x verb args
    call_by other (suc d) rec act x verb args = call_one K tree rec (λ a y v xs. call_by other d rec a y v xs) act x verb args

    -- Whatever is called where the levels of a call are used up, it comes out the same.
    abbrev pub LevelsSuffice : Type 0
    LevelsSuffice = (rec : Evaluator N) (other : Caller N) (s : Vat N) → ListsEnd s → (act : ℕ) (x : Value N) (verb : Words) (args : List (Value N))
        → call_by other (4 + length s.lists) rec act x verb args s ≡ call K tree rec act x verb args s

-- Law: so it is from every state in which lists end, under global names and under local numbers.
abbrev pub CallsEnd : Type 0
CallsEnd = ((word : ℕ → ℕ) (v : ℕ) (tree : List Node) → LevelsSuffice (naming word v) tree) × ((word : ℕ → ℕ) (tree : List Node) → LevelsSuffice (numbering {W = Name} word) tree)

-- opens each definition of this file
unfoldable pub opened_levels : Unit {0}
unfolding call_by
opened_levels = tt
