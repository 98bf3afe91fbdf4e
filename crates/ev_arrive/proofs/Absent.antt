-- A gift that is not there comes to be.
use Rattle.std.proofs.Common.{◌≡◌, ℕ, Bool, Option, None, sym, ◌∙◌, subst}
use Rattle.std.specs.Prelude.{Result}
use Rattle.ev_intro.specs.Gift.{find}
use Rattle.ev_pass.specs.declared.interior.Stop.{Stop}
use Rattle.ev_arrive.specs.Acts.{Gives}
use Rattle.ev_arrive.specs.Hosting.{have_by, have_gift, new_gift}
use Rattle.ev_arrive.specs.declared.host.Host.{Host}

pub absent : (p i : ℕ) (h u : Host) (r : Result ℕ Stop) (o : Option (ℕ × Bool)) → o ≡ find p i h.gifts → o ≡ None → Gives r u (new_gift p i h) → Gives r u (have_gift p i h)
unfolding have_gift have_by
absent p i h u r o is none g = subst (λ (x : Option (ℕ × Bool)). Gives r u (have_by p i x h)) (sym none ∙ is) g
