-- A vat is told by a note what became of a name: what is ahead of what in the world after it.
use Rattle.std.specs.Prelude.{◌≡◌, ℕ, Bool, true, [], Some, ◌⊎◌}
use Rattle.def_machine.specs.Values.{Value, Null, Flag, Number, Letter, Text, Prim, Broken, Items, Ref, Name}
use Rattle.def_machine.specs.State.{Elsewhere, SettledTo, Plain, Known, Vat, is_in}
use Rattle.def_machine.specs.Refs.{entry_of}
use Rattle.def_run.specs.World.{Script, World, names}
use Rattle.law_order.specs.Asks.Asks.{Bears}

-- All vats are honest, or nothing waits at vat v for the name n.
abbrev pub WaitersGo : (script : Script) (honest : ℕ → Bool) (v : ℕ) (s : Vat Name) (n : Name) → Type 0
WaitersGo script honest v s n = ((u : ℕ) → honest u ≡ true) ⊎ ((k : Known Name) → entry_of (names script v) s.known n ≡ Some k → k.waiting ≡ [])

-- The first note on the link from a to b tells that a name settled to an object of vat c. The three vats are honest. Where b noticed c, so that the name breaks, all vats are honest, or nothing waits there for it.
pub record BearsElsewhere (script : Script) (honest : ℕ → Bool) (w : World) (a b : ℕ) (n : Name) (c : ℕ) : Type 0 where
  pub borne : Bears w a b (Elsewhere n c)
  pub sender : honest a ≡ true
  pub receiver : honest b ≡ true
  pub third : honest c ≡ true
  pub waiters : is_in c borne.vat.noticed ≡ true → WaitersGo script honest b borne.vat n

-- it is no list
abbrev pub IsNoItems : Value Name → Type 0
IsNoItems (Items k) = ⊥
IsNoItems Null = Unit {0}
IsNoItems (Flag b) = Unit {0}
IsNoItems (Number z) = Unit {0}
IsNoItems (Letter c) = Unit {0}
IsNoItems (Text t) = Unit {0}
IsNoItems (Prim k) = Unit {0}
IsNoItems (Broken p) = Unit {0}
IsNoItems (Ref n) = Unit {0}

-- The first note on the link from a to b, whose ends are honest, tells that a name settled to that, which is no list. All vats are honest, or nothing waits for the name at b.
pub record BearsSettled (script : Script) (honest : ℕ → Bool) (w : World) (a b : ℕ) (n : Name) (v : Value Name) : Type 0 where
  pub borne : Bears w a b (SettledTo n (Plain v))
  pub sender : honest a ≡ true
  pub receiver : honest b ≡ true
  pub single : IsNoItems v
  pub waiters : WaitersGo script honest b borne.vat n
