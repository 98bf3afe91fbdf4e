-- A note tells a vat that a name settled elsewhere: the vat asks for a gift, which is the name's view from then on.
use Rattle.std.specs.Prelude.{◌≡◌, ℕ, Bool, true, false, [], ◌∷◌, ◌++◌, Some, None, length, slice_get}
use Rattle.def_machine.specs.Values.{Ref, Name, Gift, key}
use Rattle.def_machine.specs.State.{Ask, Elsewhere, Shorten, Known, See, Wait, Views, Vat, begun, is_in, with_change}
use Rattle.def_machine.specs.Arrive.{Old, arrive}
use Rattle.def_machine.specs.Refs.{entry_of}
use Rattle.def_run.specs.World.{Script, World, names}
use Rattle.law_order.specs.Ordering.Places.{opened_there, amid}
use Rattle.law_order.specs.Ordering.Worlds.{IfGives}
use Rattle.law_order.specs.Ordering.Steps.{LeadsAmid, Ready}
use Rattle.law_order.specs.Ordering.Arrivals.{IsOpenWay}
use Rattle.law_order.specs.Arrivals.Tellings.{IsTidy, IsToldOf}
use Rattle.law_order.specs.Arrivals.Notes.{EndsOver}
use Rattle.law_order.specs.Arrivals.Wholes.{KeepsOwnOrder}

module _ (script : Script) (v h c : ℕ) (n : Name) (s : Vat Name) where
  -- the next word, the key of the gift under it, and the gift, which vat h is to provide at vat c
  abbrev pub view_word : ℕ
  view_word = (names script v).word (length s.drawn)

  abbrev pub view_key : ℕ
  view_key = key h view_word

  abbrev pub view_name : Name
  view_name = Gift c view_key

  -- the vat once it made the draw, asked h to let the gift go, knows the gift, and asked c for it
  abbrev pub asked_vat : Vat Name
  asked_vat = record s {
    drawn = s.drawn ++ view_word ∷ [];
    known = s.known ++ begun view_name c ∷ [];
    outbox = (s.outbox ++ record { to = h; note = Shorten n c view_key } ∷ []) ++ record { to = c; note = Ask h view_key view_name } ∷ [];
  }

  -- and then has it as the view of the name n
  abbrev pub seen_vat : Vat Name
  seen_vat = record asked_vat {
    known = with_change (names script v) (Wait n) view_name (with_change (names script v) (See view_name) n asked_vat.known);
    happened = s.happened ++ Views n view_name ∷ [];
  }

-- The name n of vat h, of which that is known, settled at h to an object of vat c, which is a third and which the vat did not notice. The vat is ready, the gift of the next draw is new to it and to c, the link to h is there and not cut, and all three are honest. It is tidy once the gift is asked for, and the vat is told so.
pub record CanView (script : Script) (honest : ℕ → Bool) (w : World) (v h c : ℕ) (s : Vat Name) (n : Name) (k : Known Name) : Type 0 where
  pub known : entry_of (names script v) s.known n ≡ Some k
  pub host : k.host ≡ h
  pub third : c ≡ v → ⊥
  pub unnoticed : is_in c s.noticed ≡ false
  pub ready : Ready script honest w v s
  pub link : IsOpenWay honest v h w
  pub honest_there : honest c ≡ true
  pub new_here : entry_of (names script v) s.known (view_name script v h c n s) ≡ None
  pub vat : Vat Name
  pub there : slice_get (amid v s w).vats c ≡ Some vat
  pub new_there : entry_of (names script c) vat.known (view_name script v h c n s) ≡ None
  pub shut : opened_there (view_name script v h c n s) vat.gifts ≡ false
  pub tidy : IsTidy script honest w v (asked_vat script v h c n s)
  pub told : IsToldOf script v h (asked_vat script v h c n s) (seen_vat script v h c n s) n (Ref (view_name script v h c n s))
  pub so : EndsOver h c (LeadsAmid script honest w v (asked_vat script v h c n s) h (Ref n))

-- Order is kept as a note arrives that tells that a name settled to an object of a third vat: the vat asks for a gift, and the name leads there. What was sent on the name before stands in front of the note by which the gift is asked for.
abbrev pub ElsewhereArrivalsKeep : Type 0
ElsewhereArrivalsKeep = (script : Script) (honest : ℕ → Bool) (w : World) (v h c from : ℕ) (r s : Vat Name) (n : Name) (k : Known Name) → slice_get w.vats v ≡ Some r → CanView script honest w v h c s n k
    → IfGives (λ u. KeepsOwnOrder script honest w v s u) (arrive (names script v) from (Elsewhere (Old n) c) s)
