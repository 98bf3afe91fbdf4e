-- Each kind of step of a vat under its own numbers stands for that step under names.
use Rattle.std.proofs.Common.{◌≡◌, map}
use Rattle.def_machine.specs.Values.{Name, numbering, naming}
use Rattle.def_machine.specs.State.{Done, Gives}
use Rattle.def_machine.specs.Arrive.{arrive, notice}
use Rattle.def_machine.specs.Eval.{opening, taking}
use Rattle.def_machine.specs.Maps as maps
use Rattle.def_machine.specs.Maps.{incoming}
use Rattle.law_machine.specs.Renamed.Stands.{Table, Found, Is, found, finding}
use Rattle.law_machine.specs.Renamed.Renaming.{Wire, EndsWith, ArrivalsStand, NoticesStand, TurnsStand, OpeningsStand}
use Rattle.law_machine.proofs.Renamed.Sim.{Books, id}
use Rattle.law_machine.proofs.Renamed.SimEval.{sim_taking, sim_opening}
use Rattle.law_machine.proofs.Renamed.SimArrive.{sim_arrive, sim_notice}
use Rattle.law_machine.proofs.Renamed.Stands.{step_stands, books_of, books_after, FitsTable, found_renames, is_renames}

books_same : (t : Table) (d : Done Name (Unit {0})) → EndsWith t d → books_after d ≡ books_of t
books_same t (Gives a u) h = cc (h.0, h.1)
books_same t other h = cc (h.0, h.1)

pub arrivals_stand : ArrivalsStand
arrivals_stand word v t good w from n m e s r stands h = step_stands v t good id id (arrive (numbering word) from n) (arrive (naming word v) from m) (arrive (finding word v) from (maps.note (incoming (found v t) w) n))
    (sim_arrive (found v t) w (numbering word) (finding word v) (FitsTable v t good) (found_renames v t good word w) from n)
    (rw e (sim_arrive Is (λ x. x) (naming word v) (finding word v) (λ (b : Books Found). Unit {0}) (is_renames word v) from m)) s r stands (books_same t (arrive (naming word v) from m r) h)

pub notices_stand : NoticesStand
notices_stand word v t good c s r stands h = step_stands v t good id id (notice (numbering {W = Wire} word) c) (notice (naming word v) c) (notice (finding word v) c)
    (sim_notice (found v t) (λ (x : Wire). Name.Root 0) (numbering word) (finding word v) (FitsTable v t good) (found_renames v t good word (λ (x : Wire). Name.Root 0)) c)
    (sim_notice Is (λ x. x) (naming word v) (finding word v) (λ (b : Books Found). Unit {0}) (is_renames word v) c) s r stands (books_same t (notice (naming word v) c r) h)

pub turns_stand : TurnsStand
turns_stand word v t good tree depth m n e s r stands h = step_stands v t good id id (taking (numbering {W = Wire} word) tree depth m) (taking (naming word v) tree depth n) (taking (finding word v) tree depth (maps.message (found v t) m))
    (sim_taking (found v t) (λ (x : Wire). Name.Root 0) (numbering word) (finding word v) (FitsTable v t good) (found_renames v t good word (λ (x : Wire). Name.Root 0)) tree depth m)
    (rw e (sim_taking Is (λ x. x) (naming word v) (finding word v) (λ (b : Books Found). Unit {0}) (is_renames word v) tree depth n)) s r stands (books_same t (taking (naming word v) tree depth n r) h)

pub openings_stand : OpeningsStand
openings_stand word v t good tree depth p q bs cs e i s r stands h = step_stands v t good id id (opening (numbering {W = Wire} word) tree depth p bs) (opening (naming word v) tree depth q cs) (opening (finding word v) tree depth (found v t p) (map (maps.binding (found v t)) bs))
    (sim_opening (found v t) (λ (x : Wire). Name.Root 0) (numbering word) (finding word v) (FitsTable v t good) (found_renames v t good word (λ (x : Wire). Name.Root 0)) tree depth p bs)
    (rw (e, i) (sim_opening Is (λ x. x) (naming word v) (finding word v) (λ (b : Books Found). Unit {0}) (is_renames word v) tree depth q cs)) s r stands (books_same t (opening (naming word v) tree depth q cs r) h)
