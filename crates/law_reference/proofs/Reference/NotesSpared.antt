-- A note that can still arrive names nothing whose host the receiver noticed.
use Rattle.std.proofs.Common.{◌≡◌, ℕ, Bool, true, false, List, Option, Some, None, refl, ap, ◌∙◌, inl, inr}
use Rattle.def_machine.specs.Values.{Value, Ref, Name, host_of}
use Rattle.def_machine.specs.State.{Passed, Passeds, Plain, AGift, Many, NoMore, More, Note, Deliver, Open, Ask, SettledTo, Elsewhere, Shorten, Vat, is_in}
use Rattle.def_run.specs.World as world
use Rattle.def_run.specs.World.{Link}
use Rattle.law_fate.proofs.Name.Facts.{MayBe, all_map}
use Rattle.law_reference.specs.Reference.Notes.{IsBetween, IsOfEither, PassesBetween, AllPassBetween, Carries, IsSpared, ValueSpared, PassesSpared, AllPassSpared, NoteSpared, NotesNameNobodyNoticed}
use Rattle.law_reference.specs.Reference.Cuts.{IsCutThere}
use Rattle.law_reference.proofs.Reference.NotesLift.{At, found_fits}
use Rattle.law_reference.proofs.Reference.NotesRuns.{OfNotes, stepped_all, links_of}
use Rattle.law_reference.proofs.Reference.NoticedRuns.{noticed_links_cut}

pub not_true : (b : Bool) → (b ≡ true → ⊥) → b ≡ false
not_true true f = absurd (f refl)
not_true false f = refl

pub true_false : (b : Bool) → b ≡ true → b ≡ false → ⊥
true_false b e f = cc

-- neither the receiver nor the sender was noticed by the receiver
module _ (u v : ℕ) (s : Vat Name) (near : is_in v s.noticed ≡ false) (far : is_in u s.noticed ≡ false) where
  of_sender : (n : Name) → host_of n ≡ u → IsSpared s n
  of_sender n e = ap (λ h. is_in h s.noticed) e ∙ far

  of_receiver : (n : Name) → host_of n ≡ v → IsSpared s n
  of_receiver n e = ap (λ h. is_in h s.noticed) e ∙ near

  value_spared : (y : Value Name) → IsOfEither u v y → ValueSpared s y
  value_spared (Ref n) (inl e) = of_sender n e
  value_spared (Ref n) (inr e) = of_receiver n e
  value_spared other h = tt

  mutual
    passes_spared : (y : Passed Name) → PassesBetween u v y → PassesSpared s y
    passes_spared (Plain y) h = value_spared y h
    passes_spared (AGift c i) h = tt
    passes_spared (Many ys) h = all_spared ys h

    all_spared : (ys : Passeds Name) → AllPassBetween u v ys → AllPassSpared s ys
    all_spared NoMore h = tt
    all_spared (More y ys) h = (passes_spared y h.0, all_spared ys h.1)

  pub note_spared : (n : Note Name) → IsBetween u v n → Carries u v n → NoteSpared s n
  note_spared (Deliver m n verb ys) h k = (of_receiver n h, all_spared ys k.0)
  note_spared (Open i n) h k = of_receiver n h
  note_spared (Ask p i n) h k = of_receiver n h
  note_spared (SettledTo n y) h k = (of_sender n h, passes_spared y k)
  note_spared (Elsewhere n c) h k = of_sender n h
  note_spared (Shorten n c i) h k = λ e. of_receiver n (h e)

found_at : (B : ℕ → ℕ → Note Name → Type 0) (u v : ℕ) (ls : List Link) (o : Option Link) (l : Link) → world.link_at u v ls ≡ o → o ≡ Some l → MayBe (At B u v) (world.link_at u v ls) → At B u v l
found_at B u v ls None l e i h = cc
found_at B u v ls (Some j) l e i h = let there : MayBe (At B u v) (Some j) = rw e at h in let same : j ≡ l = cc in rw same at there

pub notes_spared : NotesNameNobodyNoticed
notes_spared script once w x es k follow opened stepped u v s l there link cut =
    let noticed : (h : ℕ) → is_in h s.noticed ≡ true → (v ≡ h → ⊥) × IsCutThere v h x.links × IsCutThere h v x.links = noticed_links_cut script once w x es k follow opened stepped v s there in
    let near : is_in v s.noticed ≡ false = not_true (is_in v s.noticed) (λ e. (noticed v e).0 refl) in
    let far : is_in u s.noticed ≡ false = not_true (is_in u s.noticed) (λ e. true_false l.cut ((noticed u e).2 l link) cut) in
    let fits : At (OfNotes script) u v l = found_at (OfNotes script) u v x.links (world.link_at u v x.links) l refl link (found_fits (OfNotes script) u v x.links (links_of script x (stepped_all script once w x es k opened stepped))) in
    all_map (λ n h. note_spared u v s near far n h.0 h.1) l.notes fits
