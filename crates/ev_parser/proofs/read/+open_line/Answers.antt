use Rattle.std.proofs.Common.{sym}
use Rattle.ev_parser.proofs.Open.{opened_form, opened_none, opened_tower}
use Rattle.ev_parser.proofs.read.+open_line.Goals as goal

pub returns-in-Some : goal.returns-in-Some
returns-in-Some t c = opened_form _ _ _ _ (sym c.in-Some.ensures)

pub returns-in-None-tower_at : goal.returns-in-None-tower_at
returns-in-None-tower_at t c = opened_none _ _ _ _ (sym c.in-None.ensures) (sym c.in-None-tower_at.ensures)

pub returns-in_ok-opened-in-Some-tower_at : goal.returns-in_ok-opened-in-Some-tower_at
returns-in_ok-opened-in-Some-tower_at t c =
    opened_tower _ c.in-Some-tower_at.inner c.in-Some-tower_at.tail _ _ _ _ (sym c.in-None.ensures) (sym c.in-Some-tower_at.ensures)
    (rw c.in_ok-push_after-in-Some-tower_at.ensures.ok at c.in_ok-opened-in-Some-tower_at.ensures)
