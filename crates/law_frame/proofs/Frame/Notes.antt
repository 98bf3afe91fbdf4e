-- Notes are read alike in every run, since what they bring is new in every run.
use Rattle.std.proofs.Common.{◌≡◌, ℕ, List, [], ◌∷◌, ◌++◌, Some}
use Rattle.std.specs.Prelude.{slice_get}
use Rattle.def_machine.specs.Values.{Name}
use Rattle.def_machine.specs.State.{Note, Vat}
use Rattle.def_run.specs.World as world
use Rattle.def_run.specs.World.{Script, Entry, Turn, Carry, CutLink, NoticeLink, Link, World, Goes as Going, link_at}
use Rattle.law_fate.specs.Name.Runs.{KnowsOnce}
use Rattle.law_reference.specs.Reference.Cuts.{NoticesFollow, NoticesFollowCuts}
use Rattle.law_reference.specs.Reference.NameTableRuns.{BringsNew}
use Rattle.law_reference.proofs.Reference.ApartWhole.{bring_new}
use Rattle.law_frame.proofs.Frame.AlikeLaws.{new_notes_alike}
use Rattle.law_frame.proofs.Frame.AlikeArrivals.{new_last, arrivals_by_numbers, positions_kept_alike}
use Rattle.law_frame.specs.Frame.Notes.{EveryNoteIsReadAlike, EveryPositionIsKeptAlike, EveryArrivalStands}

-- a carry is no notice
pub carry_follows : (done es : List Entry) (v u : ℕ) → NoticesFollow done es → NoticesFollow done (es ++ Carry v u ∷ [])
carry_follows done [] v u h = tt
carry_follows done (Turn a ∷ es) v u h = carry_follows (Turn a ∷ done) es v u h
carry_follows done (Carry a b ∷ es) v u h = carry_follows (Carry a b ∷ done) es v u h
carry_follows done (CutLink a b ∷ es) v u h = carry_follows (CutLink a b ∷ done) es v u h
carry_follows done (NoticeLink a b ∷ es) v u h = (h.0, h.1, carry_follows (NoticeLink a b ∷ done) es v u h.2)

-- the next note brings what is new
pub brings : (script : Script) → KnowsOnce script → (w x : World) (es : List Entry) (k : ℕ) → NoticesFollowCuts es → world.open_from script 0 script.vats (world.begins script) ≡ Going w → world.steps_from script es k w ≡ Going x
    → (v u : ℕ) (s : Vat Name) → slice_get x.vats u ≡ Some s → (l : Link) → link_at v u x.links ≡ Some l → (n : Note Name) (ns : List (Note Name)) → l.notes ≡ n ∷ ns → BringsNew x v u n s
brings script once w x es k follow opened stepped v u s there l at n ns head =
    new_last script es (Carry v u) k w x (bring_new script once w (es ++ Carry v u ∷ []) k (carry_follows [] es v u follow) opened) stepped l n ns s at head there

pub read_alike : EveryNoteIsReadAlike
read_alike script once w x es k follow opened stepped v u s there other l at uncut n ns head =
    new_notes_alike script once w x es k follow (bring_new script once w es k follow opened) opened stepped v u s there other l at uncut n ns head (brings script once w x es k follow opened stepped v u s there l at n ns head)

pub kept_alike : EveryPositionIsKeptAlike
kept_alike script once w x es k follow opened stepped v u s there other l at uncut n ns head =
    positions_kept_alike script once w x es k follow (bring_new script once w es k follow opened) opened stepped v u s there other l at uncut n ns head (brings script once w x es k follow opened stepped v u s there l at n ns head)

pub arrivals_stand : EveryArrivalStands
arrivals_stand script once w x y es k v u follow opened stepped carries s r there after other l at uncut n ns head =
    arrivals_by_numbers script once w x y es k v u follow (bring_new script once w (es ++ Carry v u ∷ []) k (carry_follows [] es v u follow) opened) opened stepped carries s r there after other l at uncut n ns head
