-- The notice of a cut makes no list lead back to itself: each name that settles then breaks.
use Rattle.std.proofs.Common.{◌≡◌, ℕ, Bool, true, false, List, [], ◌∷◌, refl}
use Rattle.def_machine.specs.Values.{Words, Name, Naming}
use Rattle.def_machine.specs.State.{Standing, Viewed, Settled, Known, GiftEntry, Vat, Done, Gives, mark}
use Rattle.def_machine.specs.Arrive as arrive
use Rattle.law_machine.specs.Machine.Steps.{does, After}
use Rattle.law_frozen.specs.Frozen.{Sound}
use Rattle.law_frozen.proofs.Fine.{Keeper, Fact, Nothing, nothing, Ends, Fine, fine, grows_same}
use Rattle.law_frozen.proofs.Looks.{looks}
use Rattle.law_reference.specs.Reference.ListRingless.{Ringless, TellsSo, NoticesKeep, NoticeStepsCloseNoRing}
use Rattle.law_reference.proofs.Reference.FarEnough.{notice_closes_none}
use Rattle.law_reference.proofs.Reference.Kept.{Mark, Noticed, K, is, keeper}
use Rattle.law_reference.proofs.Reference.RefsRing.{settle_broken}
use Rattle.law_reference.proofs.Reference.ArriveRing.{broke_unopened}

module _ (word : ℕ → ℕ) (v : ℕ) (D : ℕ → Type 0) (Seen : Name → Type 0) where
  abbrev N : Naming Name Name
  N = K word v

  abbrev ls : List Mark
  ls = Noticed [] ∷ []

  abbrev M : Keeper N
  M = keeper word v false D Seen ls

  marks : {C : Fact Name} (w : ℕ) → Fine N M C (mark w) nothing
  unfolding mark
  marks w = record { after = λ s h c. (grows_same s.things s.lists, (h.0, record { number = h.1.number; names = h.1.names; none = notice_closes_none N (is word v) s w h.1.none; queue = h.1.queue; gifts = h.1.gifts }, h.2, h.3), tt) }

  broke_hosted : {C : Fact Name} (w : ℕ) (n : Name) (p : Words) (t : Standing Name) → Fine N M C (arrive.break_hosted N w n p t) nothing
  unfolding arrive.break_hosted
  broke_hosted {C = C} w n p (Viewed q) = search (fine, looks) depth 30
  broke_hosted {C = C} w n p (Settled y) = search (fine, looks) depth 30
  broke_hosted {C = C} w n p other = settle_broken word v false D Seen ls C n p

  broke_name : {C : Fact Name} (w : ℕ) (k : Known Name) → Fine N M C (arrive.notice_name N w k) nothing
  unfolding arrive.notice_name
  broke_name {C = C} w k = search (fine, looks, broke_hosted) depth 30

  broke_gift : {C : Fact Name} (w : ℕ) (g : GiftEntry Name) → Fine N M C (arrive.notice_gift N w g) nothing
  unfolding arrive.notice_gift
  broke_gift {C = C} w g = let unopened : (F : Fact Name) (n : Name) (b : Bool) → Fine N M F (arrive.break_unopened N n b) nothing = λ F n b. broke_unopened word v false D Seen [] [] {C = F} n b in search (fine, looks, unopened) depth 30

  noticed_all : {C : Fact Name} (w : ℕ) → Fine N M C (arrive.notice_all N w) nothing
  unfolding arrive.notice_all
  noticed_all {C = C} w = search (fine, looks, marks, broke_name, broke_gift) depth 30

  noticed : (w : ℕ) → Fine N M Nothing (arrive.notice N w) nothing
  unfolding arrive.notice
  noticed w = search (fine, looks, noticed_all) depth 30

  ends_after : (s : Vat Name) (d : Done Name (Unit {0})) → Ends N M nothing s d → After (λ r t. Sound N t × Ringless N v D Seen [] t × TellsSo N D t) s d
  ends_after s (Gives a t) h = (h.1.0, h.1.1, h.1.2)
  ends_after s other h = (h.1.0, h.1.1, h.1.2)

pub notices_keep : (D : ℕ → Type 0) (Seen : Name → Type 0) → NoticesKeep D Seen
unfolding does
notices_keep D Seen word v w s sound tells r = ends_after word v D Seen s _ ((noticed word v D Seen w).after s (sound, r, tells, (refl, tt)) tt)

pub notice_steps_close_no_ring : NoticeStepsCloseNoRing
notice_steps_close_no_ring D Seen = notices_keep (λ i. D i ≡ true) (λ n. Seen n ≡ true)
