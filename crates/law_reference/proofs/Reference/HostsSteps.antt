-- After a step of a vat, what waits has a host that the vat did not notice.
use Rattle.std.proofs.Common.{◌≡◌, ℕ, Bool, true, false, List, [], ◌∷◌, ◌++◌, Option, Some, None, refl, sym, ap, ◌∙◌, ◌⊎◌, inl, inr, subst, if◌then◌else◌}
use Rattle.def_machine.specs.Values.{Value, Broken, Ref, Name, host_of, Naming, naming}
use Rattle.def_machine.specs.State.{Known, Passed, Passeds, Plain, AGift, Many, NoMore, More, Note, Deliver, Ask, SettledTo, Shorten, Vat, Done, Gives, ◌>>=◌, ◌>>◌, and_then, give, look, mark, is_in}
use Rattle.def_machine.specs.Refs.{entry_of, standing_of, standing_in, host_at, host_in}
use Rattle.def_machine.specs.Arrive as arrive
use Rattle.law_machine.specs.Machine.Breaks.{still_waits, IsBroken, HostedBreak}
use Rattle.law_machine.proofs.Machine.NoticeLaws.{notice_breaks}
use Rattle.law_fate.specs.Name.Names.{AllOf, IsMade, NoteOk}
use Rattle.law_fate.proofs.Name.SameNames.{new_eventual}
use Rattle.law_reference.specs.Reference.Own.{IsOwnKnown}
use Rattle.law_reference.specs.Reference.Rest.{HostsRest}
use Rattle.law_reference.specs.Reference.Notes.{ValueSpared, PassesSpared, AllPassSpared, NoteSpared}
use Rattle.law_reference.proofs.Reference.Gentle.{AfterGives, GivesBy}
use Rattle.law_reference.proofs.Reference.Wakes.{Waiting, WaitsAt, settled_rests}
use Rattle.law_reference.proofs.Reference.OwnKeeps.{Whole, Woken, KeepsOwn, IsFree, entry_name, found_own}
use Rattle.law_reference.proofs.Reference.OwnArrive.{FreeValue, FreePassed, AllFree, NoteFree, own_breakings}
use Rattle.law_reference.proofs.Reference.OwnRuns.{message_named}
use Rattle.law_reference.proofs.Reference.NoticedSteps.{SameNoticed, breakings, same_breakings, in_append}
use Rattle.law_reference.proofs.Reference.NotesSpared.{not_true, true_false}

-- the vats that s did not notice
abbrev pub Missed : Vat Name → ℕ → Type 0
Missed s h = is_in h s.noticed ≡ false

abbrev Whichever : Name → Type 0
Whichever n = Unit {0}

module _ (word : ℕ → ℕ) (v : ℕ) where
  abbrev Names : Naming Name Name
  Names = naming word v

  -- what waits has a host that was not noticed
  abbrev pub WaitsSpared : Vat Name → Type 0
  WaitsSpared s = (n : Name) → WaitsAt word v Whichever s.known n → Missed s (host_of n)

  -- ---- turns, notes and openings

  spared_on : (r t : Vat Name) → Missed r v → SameNoticed r t → WaitsSpared r → Woken word v (Missed r) r t → WaitsSpared t
  spared_on r t near same h k n w = rw (sym same) at (pick (k n w))
    where
      pick : WaitsAt word v Whichever r.known n ⊎ IsFree word v (Missed r) n → Missed r (host_of n)
      pick (inl a) = h n a
      pick (inr (inl e)) = rw (sym e) at near
      pick (inr (inr f)) = f

  pub spared_by : (r : Vat Name) (d : Done Name (Unit {0})) → Missed r v → Whole word v (Missed r) r → WaitsSpared r → GivesBy (KeepsOwn word v (Missed r)) r d → GivesBy SameNoticed r d → AfterGives WaitsSpared d
  spared_by r (Gives a t) near o h k e = spared_on r t near e h (k o).1
  spared_by r other near o h k e = tt

  -- ---- a note that names nothing whose host was noticed

  module _ (s : Vat Name) where
    value_missed : (y : Value Name) → ValueSpared s y → FreeValue word v (Missed s) y
    value_missed (Ref n) h = inr h
    value_missed other h = tt

    mutual
      passed_missed : (y : Passed Name) → PassesSpared s y → FreePassed word v (Missed s) y
      passed_missed (Plain y) h = value_missed y h
      passed_missed (AGift c i) h = tt
      passed_missed (Many ys) h = all_missed ys h

      all_missed : (ys : Passeds Name) → AllPassSpared s ys → AllFree word v (Missed s) ys
      all_missed NoMore h = tt
      all_missed (More y ys) h = (passed_missed y h.0, all_missed ys h.1)

    pub note_missed : (vats : List (Vat Name)) (d : List ℕ) (ks : List Name) (n : Note Name) → NoteOk (IsMade vats d) n → NoteSpared s n → NoteFree word v (Missed s) ks n
    note_missed vats d ks (Deliver e n verb ys) k h = (message_named vats e.message k.0, inr h.0, all_missed ys h.1)
    note_missed vats d ks (Ask p i n) k h = tt
    note_missed vats d ks (SettledTo n y) k h = (inr h.0, passed_missed y h.1)
    note_missed vats d ks (Shorten n c i) k h = λ e. inr (h (new_eventual ks vats d n e k.0))
    note_missed vats d ks other k h = inr h

  -- ---- notices

  abbrev Marked : ℕ → Vat Name → Vat Name
  Marked to r = record r { noticed = r.noticed ++ to ∷ [] }

  gone_gives : (to : ℕ) (r : Vat Name) (b : Bool) → b ≡ true → ◌≡◌ {A = Done Name (Unit {0})} ((if b then give tt else arrive.notice_all Names to) r) (Gives tt r)
  unfolding give
  gone_gives to r true e = refl
  gone_gives to r false e = cc

  again_gives : (to : ℕ) (r : Vat Name) → is_in to r.noticed ≡ true → arrive.notice Names to r ≡ Gives tt r
  unfolding arrive.notice ◌>>=◌ look and_then
  again_gives to r e = gone_gives to r (is_in to r.noticed) e

  first_gives : (to : ℕ) (r : Vat Name) (b : Bool) → b ≡ false → ◌≡◌ {A = Done Name (Unit {0})} ((if b then give tt else arrive.notice_all Names to) r) (breakings Names to (Marked to r))
  unfolding arrive.notice_all breakings ◌>>◌ mark and_then
  first_gives to r true e = cc
  first_gives to r false e = refl

  breaks_gives : (to : ℕ) (r : Vat Name) → is_in to r.noticed ≡ false → arrive.notice Names to r ≡ breakings Names to (Marked to r)
  unfolding arrive.notice ◌>>=◌ look and_then
  breaks_gives to r e = first_gives to r (is_in to r.noticed) e

  missed_more : (to h : ℕ) (r : Vat Name) → Missed r h → (h ≡ to → ⊥) → Missed (Marked to r) h
  missed_more to h r m f = not_true (is_in h (r.noticed ++ to ∷ [])) (λ e. pick (in_append Names h to r.noticed e))
    where
      pick : (is_in h r.noticed ≡ true) ⊎ (h ≡ to) → ⊥
      pick (inl i) = true_false (is_in h r.noticed) i m
      pick (inr i) = f i

  found : (o : Option (Known Name)) → Waiting o → (k : Known Name) × (o ≡ Some k) × (still_waits k.standing ≡ true)
  found (Some k) w = (k, refl, w)
  found None w = absurd w

  -- what waits on when a cut is noticed, is of another host
  entry_hosted : (to : ℕ) (r t : Vat Name) → AllOf (IsOwnKnown v) r.known → HostedBreak Names to r t → (n : Name) (k : Known Name) → entry_of Names r.known n ≡ Some k → still_waits k.standing ≡ true → WaitsAt word v Whichever t.known n → host_of n ≡ to → ⊥
  entry_hosted to r t own breaks n k i a w e = let named : k.name ≡ n = entry_name word v (λ h. Unit {0}) r.known n k i in let own_host : k.host ≡ host_of k.name = (found_own word v (λ h. Unit {0}) r.known n k own i).0 in
      let there : entry_of Names r.known k.name ≡ Some k = ap (entry_of Names r.known) named ∙ i in
      let broken : IsBroken Names t k.name = breaks k there (own_host ∙ ap host_of named ∙ e) a in
      settled_rests word v Whichever t.known n (Broken broken.0) (ap (standing_of Names t.known) (sym named) ∙ broken.1) w

  not_hosted : (to : ℕ) (r t : Vat Name) → AllOf (IsOwnKnown v) r.known → HostedBreak Names to r t → (n : Name) → WaitsAt word v Whichever r.known n → WaitsAt word v Whichever t.known n → host_of n ≡ to → ⊥
  not_hosted to r t own breaks n a w e = let f = found (entry_of Names r.known n) a in entry_hosted to r t own breaks n f.0 f.1 f.2 w e

  after_breaks : (to : ℕ) (r : Vat Name) (d : Done Name (Unit {0})) → arrive.notice Names to r ≡ d → is_in to r.noticed ≡ false → Missed r v → (v ≡ to → ⊥) → AllOf (IsOwnKnown v) r.known → WaitsSpared r
      → GivesBy (KeepsOwn word v (Missed (Marked to r))) (Marked to r) d → GivesBy SameNoticed (Marked to r) d → Whole word v (Missed (Marked to r)) (Marked to r) → AfterGives WaitsSpared d
  after_breaks to r (Gives a t) gives once near other own h k same o = λ n w. rw (sym same) at (pick n w ((k o).1 n w))
    where
      pick : (n : Name) → WaitsAt word v Whichever t.known n → WaitsAt word v Whichever r.known n ⊎ IsFree word v (Missed (Marked to r)) n → Missed (Marked to r) (host_of n)
      pick n w (inl x) = missed_more to (host_of n) r (h n x) (not_hosted to r t own (notice_breaks Names to r t once gives).0 n x w)
      pick n w (inr (inl e)) = let one : Missed (Marked to r) v = missed_more to v r near other in rw (sym e) at one
      pick n w (inr (inr f)) = f
  after_breaks to r another gives once near other own h k same o = tt

  notice_either : (to : ℕ) (r : Vat Name) (b : Bool) → is_in to r.noticed ≡ b → Missed r v → (v ≡ to → ⊥) → AllOf (IsOwnKnown v) r.known → WaitsSpared r → Whole word v (Missed (Marked to r)) (Marked to r) → AfterGives WaitsSpared (arrive.notice Names to r)
  notice_either to r true e near other own h o = subst (λ d. AfterGives WaitsSpared d) (sym (again_gives to r e)) h
  notice_either to r false e near other own h o = let gives = breaks_gives to r e in
      subst (λ d. AfterGives WaitsSpared d) (sym gives) (after_breaks to r (breakings Names to (Marked to r)) gives e near other own h ((own_breakings word v (Missed (Marked to r)) to).after (Marked to r)) ((same_breakings Names to).after (Marked to r)) o)

  pub spared_notice : (to : ℕ) (r : Vat Name) → Missed r v → (v ≡ to → ⊥) → Whole word v (Missed (Marked to r)) (Marked to r) → WaitsSpared r → AfterGives WaitsSpared (arrive.notice Names to r)
  spared_notice to r near other o h = notice_either to r (is_in to r.noticed) refl near other o.2 h o

  -- ---- so the hosts of what waits rest

  host_missed : (s : Vat Name) (n : Name) (o : Option (Known Name)) → s.number ≡ v → Missed s v → AllOf (IsOwnKnown v) s.known → WaitsSpared s → entry_of Names s.known n ≡ o → still_waits (standing_in o) ≡ true → Missed s (host_in s.number o)
  unfolding standing_in host_in
  host_missed s n None e near own h i w = rw (sym e) at near
  host_missed s n (Some k) e near own h i w = let named : k.name ≡ n = entry_name word v (λ x. Unit {0}) s.known n k i in let own_host : k.host ≡ host_of k.name = (found_own word v (λ x. Unit {0}) s.known n k own i).0 in
      let here : Waiting (entry_of Names s.known n) = subst (λ o. Waiting o) (sym i) w in rw (sym (own_host ∙ ap host_of named)) at (h n here)

  pub hosts_rest : (s : Vat Name) → s.number ≡ v → Missed s v → AllOf (IsOwnKnown v) s.known → WaitsSpared s → HostsRest Names s
  unfolding standing_of host_at
  hosts_rest s e near own h n w = host_missed s n (entry_of Names s.known n) e near own h refl w
