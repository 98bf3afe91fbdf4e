-- What a step in numbers leaves is what the next one begins with, since what others exported keeps its positions.
use Rattle.std.proofs.Common.{◌≡◌, ℕ, [], Some, None, refl, ap, sym, subst, length}
use Rattle.def_machine.specs.Values.{Name, Local}
use Rattle.def_machine.specs.State.{Vat}
use Rattle.law_machine.specs.Renamed.Stands.{Found, Table, StandsFor}
use Rattle.def_run.specs.World.{World, readied}
use Rattle.law_reference.specs.Reference.Tables.{table_of}
use Rattle.law_frame.specs.Frame.AlikeArrivals.{table_across}
use Rattle.law_frame.specs.Frame.Steps.{OwnStep, EndsFor, entry_by_numbers, opening_by_numbers}
use Rattle.law_frame.specs.Frame.Chain.{readied_by_numbers, LeavesFor, EntriesChainOn, OpeningTurnsChainOn}
use Rattle.law_frame.proofs.Frame.Entries.{entries_stand}
use Rattle.law_frame.proofs.Frame.Openings.{openings_stand}
use Rattle.law_frame.proofs.Frame.Untouched.{every_state}

ready_stands : (y : World) (u : ℕ) (t : Table) (q : Vat Local) (s : Vat Name) → StandsFor u t q s → StandsFor u t (readied_by_numbers y q) (readied y s)
unfolding readied_by_numbers readied
ready_stands y u t q s e = ap (λ (z : Vat Found). record z { fuel = y.fuel; drawn = y.drawn; outbox = []; happened = [] }) e

twice_ready : (x y : World) (s : Vat Name) → readied y (readied x s) ≡ readied y s
unfolding readied
twice_ready x y s = refl

module _ (x y : World) (u : ℕ) (on : (r : Vat Name) (p : Vat Local) (t : Vat Name) → StandsFor u (table_across x u r) p t → StandsFor u (table_of y u r) p t) (s r : Vat Name) (q : Vat Local) (stands : StandsFor u (table_of x u s) q (readied x s)) where
  across : StandsFor u (table_across x u s) q (readied x s)
  unfolding table_across table_of
  across = stands

  stayed : StandsFor u (table_of y u s) (readied_by_numbers y q) (readied y s)
  stayed = subst (λ z. StandsFor u (table_of y u s) (readied_by_numbers y q) z) (twice_ready x y s) (ready_stands y u (table_of y u s) q (readied x s) (on s q (readied x s) across))

  leaves : (o : OwnStep) → EndsFor x u s r o → LeavesFor y u r q o
  leaves None e = subst (λ z. StandsFor u (table_of y u z) (readied_by_numbers y q) (readied y z)) (sym e) stayed
  leaves (Some d) e = (e.0, e.1, ready_stands y u (table_of y u r) e.0 r (on r e.0 r e.2))

pub entries_chain : EntriesChainOn
entries_chain script once w x y es e k follow opened stepped steps u s r there after q stands =
    leaves x y u ((every_state script once).1 w x y es e k opened stepped steps u) s r q stands (entry_by_numbers script x e u s q) (entries_stand script once w x y es e k follow opened stepped steps u s r there after q stands)

pub openings_chain : OpeningTurnsChainOn
openings_chain script once ps rest p x y split opened opens u s r there after q stands =
    leaves x y u ((every_state script once).0 ps rest p x y split opened opens u) s r q stands (opening_by_numbers script (length ps) p u s q) (openings_stand script once ps rest p x y split opened opens u s r there after q stands)
