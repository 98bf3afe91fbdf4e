-- What the two walks through a history keep.
use Rattle.std.proofs.Common.{◌≡◌, ℕ, List, [], ◌∷◌, slice_get, Option, Some, sym, subst}
use Rattle.def_event.specs.declared.event.Event.{Event}
use Rattle.def_event.specs.Uses.{CarriesSent, Line, TakesSent}
use Rattle.ev_links.specs.declared.label.Label.{Label}
use Rattle.ev_links.specs.declared.links.Link.{Link}
use Rattle.ev_base.specs.declared.names.Msg.{Msg}
use Rattle.ev_uses.specs.Places.{PutsFor, Table}
use Rattle.ev_uses.specs.Lines.{holds, message_of}
use Rattle.ev_uses.specs.Finding.{FindsBefore}
use Rattle.ev_uses.specs.Onward.{OnwardStand}
use Rattle.ev_uses.proofs.Finding.{before_step, none_before}
use Rattle.ev_uses.proofs.Leading.{none_lead}

abbrev pub IsCarrySent : List Line → Line → Type 0
IsCarrySent past line = CarriesSent past line.event

abbrev pub IsTakeSent : List Event → List Line → Line → Type 0
IsTakeSent whole past line = TakesSent whole past line.event

-- the tables stand for these lines
abbrev pub HeldStand : List Event → Table → List (Label × List Link) → List Line → Type 0
HeldStand es before links past = FindsBefore es before past × OnwardStand links past

pub no_links_stand : (links : List (Label × List Link)) → links ≡ [] → OnwardStand links []
no_links_stand links none = subst (λ (ls : List (Label × List Link)). OnwardStand ls []) (sym none) none_lead

pub none_held : (es : List Event) (before : Table) (links : List (Label × List Link)) → before ≡ [] → links ≡ [] → HeldStand es before links []
none_held es before links b l = (none_before es before b, no_links_stand links l)

pub held_step : (es : List Event) (i at : ℕ) (e : Event) (message : Option Msg) (past : List Line) (before new : Table) (links onward : List (Label × List Link)) → slice_get es i ≡ Some e
    → message ≡ message_of (holds e) → PutsFor message i before new → (OnwardStand links past → OnwardStand onward (record { at = at; event = e } ∷ past)) → HeldStand es before links past
    → HeldStand es new onward (record { at = at; event = e } ∷ past)
held_step es i at e message past before new links onward get is put told h =
    (before_step es i at e past before new get (subst (λ (m : Option Msg). PutsFor m i before new) is put) h.0, told h.1)
