-- The code of an object that stands in a heap.
use Rattle.std.proofs.Common.{◌≡◌, ℕ, ◌≤◌, Bool, length, Option, Some, None, Ok, Err, refl, ap}
use Rattle.std.specs.Prelude.{Result, slice_get, option_map}
use Rattle.std.proofs.lemmas.Option.{slice_get_past}
use Rattle.ev_heap.specs.declared.kept.Shape.{Shape}
use Rattle.ev_heap.specs.declared.kept.Thing.{Thing}
use Rattle.ev_room.specs.declared.exit.Exit.TheVariants.{Thrown, Ejected, Fuel, Deep, Repeated, Astray, Memory}
use Rattle.ev_room.specs.declared.exit.Exit.{Exit}
use Rattle.ev_room.specs.declared.object.Code.{Code}
use Rattle.ev_pass.specs.declared.interior.Interior.{Interior as Room}
use Rattle.ev_room.specs.Acts.{Answers, Gives, code_of, code_in, look_code}

code_at : (o : Option Thing) (sh : Shape) (live : Bool) → option_map (λ t. t.shape) o ≡ Some sh → option_map (λ t. t.alive) o ≡ Some live → code_in o ≡ code_of sh live
unfolding code_in
code_at None sh live h k = cc
code_at (Some t) sh live h k =
    let is : t.shape ≡ sh = cc in
    let so : t.alive ≡ live = cc in
    rw (is, so) refl

answers_gives : (r due : Result Code Exit) (s : Room) → Answers r due → Gives r s (due, s)
answers_gives (Ok a) due s h = ap (λ (d : Result Code Exit). (d, s)) h
answers_gives (Err (Thrown id)) due s h = ap (λ (d : Result Code Exit). (d, s)) h
answers_gives (Err (Ejected n v)) due s h = ap (λ (d : Result Code Exit). (d, s)) h
answers_gives (Err Fuel) due s h = ap (λ (d : Result Code Exit). (d, s)) h
answers_gives (Err Deep) due s h = ap (λ (d : Result Code Exit). (d, s)) h
answers_gives (Err (Repeated i j)) due s h = ap (λ (d : Result Code Exit). (d, s)) h
answers_gives (Err Astray) due s h = ap (λ (d : Result Code Exit). (d, s)) h
answers_gives (Err Memory) due s h = tt

pub code_goes : (i : ℕ) (s : Room) (sh : Shape) (live : Bool) (r : Result Code Exit) → option_map (λ t. t.shape) (slice_get s.heap.things i) ≡ Some sh
    → option_map (λ t. t.alive) (slice_get s.heap.things i) ≡ Some live → Answers r (code_of sh live) → Gives r s (look_code i s)
unfolding look_code
code_goes i s sh live r e l h = rw (code_at (slice_get s.heap.things i) sh live e l) (answers_gives r (code_of sh live) s h)

pub code_astray : (i : ℕ) (s : Room) → length s.heap.things ≤ i → look_code i s ≡ (Err Astray, s)
unfolding look_code code_in
code_astray i s h = rw (slice_get_past s.heap.things i h) refl
