-- How a name stands, by its number.
use Rattle.std.proofs.Common.{◌≡◌, ℕ, Option, Some, None, length, refl, ap, sym, ◌∙◌}
use Rattle.std.specs.Prelude.{◌≤◌, option_map, slice_get, unwrap_or}
use Rattle.std.proofs.lemmas.Option.{slice_get_past}
use Rattle.ev_refs.specs.References.{References}
use Rattle.ev_refs.specs.declared.known.Known.{Known}
use Rattle.ev_refs.specs.declared.known.Standing.{Standing}
use Rattle.ev_refs.specs.declared.known.Standing.TheVariants.{Unsettled}
use Rattle.ev_refs.specs.Follow.{host_found, host_of}
use Rattle.ev_arrive.specs.Breaking.{standing_found, standing_now}

found_is : (o : Option Known) → standing_found o ≡ unwrap_or (option_map (λ k. k.standing) o) Unsettled
found_is (Some k) = refl
found_is None = refl

pub stands : (r : References) (n : ℕ) (t : Standing) → option_map (λ k. k.standing) (slice_get r.known n) ≡ Some t → t ≡ standing_now r n
unfolding standing_now
stands r n t h = sym (found_is (slice_get r.known n) ∙ ap (λ (o : Option Standing). unwrap_or o Unsettled) h)

pub unknown : (r : References) (n : ℕ) → length r.known ≤ n → Unsettled ≡ standing_now r n
unfolding standing_now
unknown r n h = sym (ap standing_found (slice_get_past r.known n h))

host_is : (me : ℕ) (o : Option Known) → host_found me o ≡ unwrap_or (option_map (λ k. k.host) o) me
unfolding host_found
host_is me (Some k) = refl
host_is me None = refl

pub host_stands : (r : References) (n h : ℕ) → option_map (λ k. k.host) (slice_get r.known n) ≡ Some h → h ≡ host_of r n
unfolding host_of
host_stands r n h e = sym (host_is r.me (slice_get r.known n) ∙ ap (λ (o : Option ℕ). unwrap_or o r.me) e)

pub host_unknown : (r : References) (n : ℕ) → length r.known ≤ n → r.me ≡ host_of r n
unfolding host_of host_found
host_unknown r n h = sym (ap (host_found r.me) (slice_get_past r.known n h))
