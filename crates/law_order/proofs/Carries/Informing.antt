-- What is kept as vats are told what a name settled to: whatever is kept as a value passes, and as a note is put that lets no gift go.
use Rattle.std.proofs.Common.{ℕ, true, List, [], ◌∷◌}
use Rattle.def_machine.specs.Values.{Value, Name, Naming}
use Rattle.def_machine.specs.State.{Note, SettledTo, Elsewhere, Vat, ◌>>=◌, ◌>>◌, each, send_out}
use Rattle.def_machine.specs.Refs as refs
use Rattle.def_machine.specs.Refs.{Place, Away}
use Rattle.law_order.specs.Ordering.Worlds.{LetsNothingGo}
use Rattle.law_order.proofs.Ordering.Moves.{Keeps, IsKept, keeps_bind, keeps_then, keeps_if, keeps_look, keeps_give}

module _ (K : Naming Name Name) (R : Vat Name → Vat Name → Type 0) (base : IsKept R) (passes : (to : ℕ) (y : Value Name) → Keeps R (refs.pass K to y)) (puts : (to : ℕ) (n : Note Name) → LetsNothingGo n → Keeps {N = Name} {A = Unit {0}} R (send_out to n)) where
  tells : (p : Name) (to : ℕ) (y : Value Name) → Keeps R (refs.pass K to y >>= (λ z. send_out to (SettledTo p z)))
  tells p to y = keeps_bind R base (passes to y) (λ z. puts to (SettledTo p z) tt)

  informs_of : (p : Name) (to : ℕ) (y : Value Name) (q : Place Name) → Keeps R (refs.inform_of K p to y q)
  unfolding refs.inform_of
  informs_of p to y (Away h n true) = puts to (Elsewhere p h) tt
  informs_of p to y other = tells p to y

  pub informs : (p : Name) (to : ℕ) → Keeps R (refs.inform K p to)
  unfolding refs.inform
  informs p to = keeps_bind R base (keeps_look R base _) (λ y. keeps_bind R base (keeps_look R base _) (λ q. keeps_bind R base (keeps_look R base _) (λ gone. keeps_if R base gone (keeps_give R base tt) (informs_of p to y q))))

  pub informs_each : (p : Name) (hs : List ℕ) → Keeps R (each (refs.inform K p) hs)
  unfolding each
  informs_each p [] = keeps_give R base tt
  informs_each p (h ∷ hs) = keeps_then R base (informs p h) (informs_each p hs)
