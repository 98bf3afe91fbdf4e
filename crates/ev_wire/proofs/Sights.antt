-- What the tables tell is what the machine's names tell.
use Rattle.std.proofs.Common.{◌≡◌, ℕ, Bool, map, is_some, Option, Some, None, refl, sym, ap, ◌∙◌}
use Rattle.std.specs.Prelude.{option_map}
use Rattle.ev_base.specs.declared.values.Value.TheVariants as held
use Rattle.def_machine.specs.Values.{Local, Prom, key}
use Rattle.def_run.specs.Connections.{learnt_at}
use Rattle.ev_tables.specs.Table.{Table, name_of}
use Rattle.ev_wire.specs.Learnt.{LearntGifts, find}
use Rattle.ev_wire.specs.Reading.{learnt_of}
use Rattle.ev_wire.specs.Sight.{gift_numbered}
use Rattle.ev_wire.proofs.HearingMachine.{find_is}

pub numbered : (r : Bool) (o : Option (ℕ × Bool)) (t : Table) → r ≡ gift_numbered o t → (g : ℕ × Bool) → o ≡ Some g → r ≡ is_some (name_of (held.Prom g.0) t.names)
numbered r o t h g e = h ∙ ap (λ (p : Option (ℕ × Bool)). gift_numbered p t) e

there : (o : Option ℕ) → is_some o ≡ is_some (option_map Prom o)
there None = refl
there (Some n) = refl

pub known : (r : Bool) (c h w : ℕ) (l : LearntGifts) → r ≡ is_some (find c h w l) → r ≡ is_some (learnt_at c (key h w) (map learnt_of l))
known r c h w l e = e ∙ there (find c h w l) ∙ ap (λ (o : Option Local). is_some o) (sym (find_is c h w l))
