-- Histories of whole runs, which are in order, and others, which are not.
use Rattle.std.specs.Prelude.{◌≡◌, Bool, true, false, List, [], ◌∷◌, ◌++◌, None, codes}
use Rattle.def_machine.specs.Values.{Name, Object, Ref}
use Rattle.def_machine.specs.State.{Took}
use Rattle.def_run.specs.World.{Turn, Script, Event, Here, run}
use Rattle.def_run.specs.Text.{history_of}
use Rattle.test_machine.specs.Runs.{message}
use Rattle.test_machine.specs.Rows.{queue_script, held_script, data_script, given_script, cut_script, promise_script, member_script, settled_list_script, chain_script, waiting_script, view_script, cut_view_script, opened_rows}
use Rattle.law_order.specs.Ordering.Order.{is_before}
use Rattle.law_order.specs.Ordering.Example.{exchanged, settled_script, opened_example}
use Rattle.law_order.specs.Ordering.Example as example
use Rattle.law_order.specs.Rows.Decided.{in_order, opened_decided}

-- whether the first is before the second, whether the history of the run is in order, and whether it still is with the takes of these two exchanged
unfoldable pub judged : List Event → Name → Name → List Bool
judged es a b = is_before a b es ∷ in_order es ∷ in_order (exchanged a b es) ∷ []

-- The first is before the second. The run takes it first, and a history that takes it second is refused.
abbrev pub KeepsOrder : Script → Name → Name → Type 0
KeepsOrder script a b = judged (history_of (run script)) a b ≡ true ∷ true ∷ false ∷ []

abbrev pub InOneVat : Type 0
InOneVat = KeepsOrder queue_script (message 0 0) (message 0 1) × KeepsOrder held_script (message 0 0) (message 0 1)

abbrev pub Handed : Type 0
Handed = KeepsOrder given_script (message 0 0) (message 1 0) × KeepsOrder promise_script (message 0 0) (message 1 0) × KeepsOrder waiting_script (message 0 1) (message 1 0)

abbrev pub InLists : Type 0
InLists = KeepsOrder member_script (message 0 0) (message 1 0) × KeepsOrder settled_list_script (message 0 0) (message 1 0)

abbrev pub Chained : Type 0
Chained = KeepsOrder chain_script (message 0 0) (message 3 0)

abbrev pub Viewed : Type 0
Viewed = KeepsOrder view_script (message 0 1) (message 0 3)

-- c takes that message although the one before it is lost
unfoldable pub taken_late : Name → Event
taken_late m = Here 2 (Took 1 (record { id = m; target = Ref (Object 2 0); verb = codes "g"; args = []; answer = None }))

-- The first is before the second and is lost, and the second waits for good. A history in which c takes it is refused.
abbrev pub LosesBoth : Script → Name → Name → Type 0
LosesBoth script a b = let es = history_of (run script) in
    (is_before a b es ≡ true) × (in_order es ≡ true) × (in_order (es ++ taken_late b ∷ []) ≡ false)

abbrev pub Cut : Type 0
Cut = LosesBoth cut_script (message 0 0) (message 1 0) × LosesBoth cut_view_script (message 0 1) (message 0 3)

-- Data has no order: either may be taken first.
abbrev pub OnData : Type 0
OnData = judged (history_of (run data_script)) (message 0 0) (message 0 1) ≡ true ∷ true ∷ true ∷ []

-- g was sent before h, and h is taken first: f brought the reference on which h was sent, and came before g was sent.
abbrev pub CameFirst : Type 0
CameFirst = in_order (history_of (run example.held_script)) ≡ true

-- k was sent first, on a promise that came to wait for the one on which f and g were sent. It is before neither, and is taken last.
abbrev pub OnAnother : Type 0
OnAnother = let es = history_of (run (record settled_script { schedule = Turn 0 ∷ Turn 0 ∷ Turn 0 ∷ [] })) in
    (is_before (message 0 0) (message 0 1) es ≡ false) × (in_order es ≡ true) × (in_order (exchanged (message 0 0) (message 0 2) es) ≡ true) × (in_order (exchanged (message 0 1) (message 0 2) es) ≡ false)

-- opens the definitions of this file, and of those below
unfoldable pub opened_order_rows : Unit {0}
unfolding judged taken_late opened_rows opened_example opened_decided
opened_order_rows = tt
