-- A test that tells equality is `same_value`.
use Rattle.std.proofs.Common.{◌≡◌, Bool, true, subst}
use Rattle.std.specs.Prelude.{IsTrue, ◌↔◌}
use Rattle.std.proofs.lemmas.Bool.Decides.{same_from_decides}
use Rattle.ev_base.specs.declared.values.Value.{Value}
use Rattle.ev_tables.specs.Thing.{same_value}
use Rattle.ev_tables.specs.SameLaws.{same_is, same_itself}

pub same_from : (r : Bool) (a b : Value) → (IsTrue r ↔ (a ≡ b)) → r ≡ same_value a b
same_from r a b h = same_from_decides r (same_value a b) h (same_is a b, (λ e. subst (λ (x : Value). same_value a x ≡ true) e (same_itself a)))
