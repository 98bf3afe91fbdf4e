-- A run in which a link is cut.
use Rattle.std.specs.Prelude.{◌≡◌, ℕ, true, [], ◌∷◌}
use Rattle.def_machine.specs.Values.{Name, key}
use Rattle.def_run.specs.World.{Turn, Carry, CutLink, World}
use Rattle.def_run.specs.Draws.{draw_word}
use Rattle.law_order.specs.Ordering.Ways.{Held, Place, Nowhere, Mid}
use Rattle.law_order.specs.Ordering.Places.{ways}
use Rattle.law_order.specs.Ordering.Messages.{place_of, opened_messages}
use Rattle.law_order.specs.Ordering.Example.{passed_script, message, passed_name, waiting_world, world_after, opened_example}
use Rattle.law_order.specs.Cuts.Letting.{letting, opened_letting}

-- the world in which f and the note behind it were under way from a to c, g waits at c, and the links between a and c were cut
unfoldable pub cut_world : World
cut_world = world_after passed_script (Carry 0 1 ∷ Turn 1 ∷ Carry 1 2 ∷ Carry 1 2 ∷ CutLink 0 2 ∷ [])

-- the key of the gift for which g waits
unfoldable pub passed_key : ℕ
passed_key = key 0 (draw_word passed_script.key 0)

unfoldable pub left_at : Name → Place
left_at m = place_of passed_script (λ v. true) cut_world m

-- One note lets the gift go. Once the links are cut there is none, f is nowhere, and g is where it was; what waits there leads nowhere.
abbrev pub CutIsTold : Type 0
CutIsTold =
    (letting passed_key waiting_world.links ≡ 1)
    × (letting passed_key cut_world.links ≡ 0)
    × (left_at (message 0 0) ≡ Nowhere)
    × (left_at (message 1 0) ≡ Mid (Held 2 passed_name) [] passed_name)
    × ((ways passed_script (λ v. true) cut_world).onward (Held 2 passed_name) passed_name ≡ Nowhere)

-- opens the definitions of this file
unfoldable pub opened_cut : Unit {0}
unfolding cut_world passed_key left_at opened_letting opened_messages opened_example
opened_cut = tt
