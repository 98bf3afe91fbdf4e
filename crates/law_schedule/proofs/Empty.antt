-- Without a vat there is no entry.
use Rattle.std.proofs.Common.{◌≡◌, zero, List, [], ◌∷◌, Ok, All, length, refl, ap, subst, arith}
use Rattle.std.proofs.lemmas.List.Elements.{All-head}
use Rattle.ev_script.specs.Rules.{IsAdmitted, IsEntryOf}
use Rattle.ev_script.specs.declared.script.Entry.{Entry}
use Rattle.ev_script.specs.declared.script.Entry.TheVariants.{Turn, Carry, Cut, Notice}
use Rattle.ev_script.specs.declared.script.Script.{Script}
use Rattle.ev_script.proofs.Admitted.{read_admitted}
use Rattle.law_schedule.specs.Schedules.{NoVatTakesNone}

no_entries : (es : List Entry) → All (IsEntryOf zero) es → es ≡ []
no_entries [] all = refl
no_entries (e ∷ es) all = absurd (by e (All-head (IsEntryOf zero) e es all))
  where
    by : (first : Entry) → IsEntryOf zero first → ⊥
    by (Turn v) below = omega (arith, below)
    by (Carry v w) (below, other, apart) = omega (arith, below)
    by (Cut v w) (below, other, apart) = omega (arith, below)
    by (Notice v w) (below, other, apart) = omega (arith, below)

pub empty_schedule : (script : Script) → IsAdmitted script → script.vats ≡ [] → script.schedule ≡ []
empty_schedule script admitted none = no_entries script.schedule (subst (λ n. All (IsEntryOf n) script.schedule) (ap length none) admitted.schedule.1)

pub no_vat_takes_none : NoVatTakesNone
no_vat_takes_none bytes script e none = empty_schedule script (read_admitted bytes (Ok script) e) none
