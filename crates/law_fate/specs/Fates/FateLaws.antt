-- No step of a vat doubles a message.
use Rattle.std.specs.Prelude.{ℕ, suc, ◌+◌, ◌≤◌, Bool, true, false, nat_le, ◌==◌}
use Rattle.def_machine.specs.Values.{Name, Sent, naming}
use Rattle.def_machine.specs.State.{Vat}
use Rattle.def_machine.specs.Arrive.{Incoming, Old, New}
use Rattle.law_machine.specs.Machine.Steps.{Step, Opens, Takes, Receives, Notices, does, After}
use Rattle.law_fate.specs.Fates.Fate.{once, one, in_note, sent_in, account, opened_fate}

-- one where it is a message of vat v whose number is below k
unfoldable pub numbered : ℕ → ℕ → Name → ℕ
numbered v k (Sent m) = elim (v == m.sender) [ true ↦ once (nat_le (suc m.number) k) | false ↦ 0 ]
numbered v k _ = 0

-- the message that a step begins with: the one that is taken, or that of the note that arrives
unfoldable pub coming : Name → Incoming Name Name → ℕ
coming x (Old m) = one m x
coming x (New m h) = one m x

unfoldable pub brought : Name → Step Name Name → ℕ
brought x (Opens tree depth root given) = 0
brought x (Takes tree depth m) = one m.id x
brought x (Receives from n) = in_note (coming x) n
brought x (Notices w) = 0

-- From s to t the places of a message and what became of it are no more than there were, and came, and were sent;
-- and what was sent is a message that the vat numbered.
pub record Accounted (cut : ℕ → Bool) (v : ℕ) (x : Name) (came : ℕ) (s t : Vat Name) : Type 0 where
  pub kept : account cut x t + sent_in x s.happened ≤ came + account cut x s + sent_in x t.happened
  pub fresh : sent_in x t.happened + numbered v s.messages x ≤ sent_in x s.happened + numbered v t.messages x

-- in every step of every vat, however it ends, whichever links are cut
abbrev pub StepsDoubleNone : Type 0
StepsDoubleNone = (word : ℕ → ℕ) (v : ℕ) (step : Step Name Name) (s : Vat Name) (cut : ℕ → Bool) (x : Name)
    → After (λ s t. Accounted cut v x (brought x step) s t) s (does (naming word v) step s)

-- opens each definition of this file, and of those below
unfoldable pub opened_laws : Unit {0}
unfolding numbered coming brought opened_fate
opened_laws = tt
