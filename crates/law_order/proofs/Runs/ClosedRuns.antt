-- What a vat knows is of vats of the script, and references lead over links that are there, so that a message is carried in order wherever it goes on.
use Rattle.std.proofs.Common.{◌≡◌, ℕ, ◌<◌, Bool, true, false, [], Option, Some, None, length, refl, sym, ap, subst, ◌∙◌, ◌⊎◌, inl, inr, ◌==◌, append-nil}
use Rattle.std.specs.Prelude.{slice_get}
use Rattle.std.proofs.lemmas.Bool.{eq-eqb}
use Rattle.def_machine.specs.Values.{Value, Ref, Words, Name, Object, Own, Foreign, NoObject, naming, host_of, spot_of}
use Rattle.def_machine.specs.State.{Passeds, Delivery, Deliver, Known, Vat, is_in}
use Rattle.def_machine.specs.Refs as refs
use Rattle.def_machine.specs.Refs.{Near, Mine, Away, entry_of, follow, place}
use Rattle.def_run.specs.Draws.{draw_word}
use Rattle.def_run.specs.World.{Script, Link, World, link_at, names}
use Rattle.law_machine.specs.Run.Moves.{IsReached}
use Rattle.law_machine.proofs.Run.Honest.{honest_reached}
use Rattle.law_fate.specs.Name.Names.{Bit, Mail, Drew, At, Off, Gave, bare, AllOf, IsAmong, KnownOk, NoteOk, ValueOk}
use Rattle.law_fate.proofs.Name.Among.{all_among}
use Rattle.law_fate.proofs.Name.Facts.{all_map, known_up}
use Rattle.law_fate.proofs.Name.Looks.{follow_ok}
use Rattle.law_fate.proofs.Name.Run.{IsInside, Had, Told, VatStands, Stands, opened_stands, steps_stand}
use Rattle.law_fate.specs.Fates.WholeFateRuns.{KnowsVats}
use Rattle.law_fate.proofs.Fates.Links.{AllLinked}
use Rattle.law_reference.proofs.Reference.Told.{found_all}
use Rattle.law_reference.proofs.Reference.VatStep.{link_all}
use Rattle.law_order.specs.Ordering.Ways.{Held, Way, Place, Nowhere, End}
use Rattle.law_order.specs.Ordering.Places.{aimed, by_host, by_follow, of_name, leads_in, leads_at, leads}
use Rattle.law_order.specs.Runs.Reaching.{InClosedRuns, IsOfVat, NamesAreOfVats, LinksAreThere, CarriesKeepInClosedRuns}
use Rattle.law_order.specs.Carries.Carries.{BearsMessage}
use Rattle.law_order.proofs.Runs.Beginnings.{entry_name, host_in_world}
use Rattle.law_order.proofs.Runs.LinkRuns.{reached_linked}
use Rattle.law_order.proofs.Runs.CarryRuns.{message_carries_keep_in_runs}

-- ---- names

inside_bare : (count : ℕ) (b : Bit Name) → IsInside count (bare b) → IsInside count b
inside_bare count (Mail n) h = tt
inside_bare count (Drew i) h = tt
inside_bare count (At h) i = i
inside_bare count (Off h) i = i
inside_bare count (Gave i) h = tt
inside_bare count other h = h

module _ (script : Script) (knows : KnowsVats script) (w : World) (stands : Stands script w) where
  abbrev count : ℕ
  count = length script.vats

  known_inside : (v : ℕ) (s : Vat Name) → slice_get w.vats v ≡ Some s → AllOf (KnownOk (IsInside count)) s.known
  known_inside v s there = all_map (known_up (Had script w v s) (IsInside count) (λ b h. inside_bare count b (h.3 knows))) s.known (stands.vats v s there).parts.known

  names_of_vats : (v : ℕ) (s : Vat Name) (n : Name) (k : Known Name) → slice_get w.vats v ≡ Some s → entry_of (names script v) s.known n ≡ Some k → IsOfVat script n
  unfolding names
  names_of_vats v s n k there e = subst (λ m. host_of m < count) (entry_name script v s.known n k e) (found_all (draw_word script.key) v (KnownOk (IsInside count)) s.known n k (known_inside v s there) e).0

  targets_of_vats : (a b : ℕ) (l : Link) (d : Delivery Name) (n : Name) (verb : Words) (ys : Passeds Name) → link_at a b w.links ≡ Some l → IsAmong (Deliver d n verb ys) l.notes → IsOfVat script n
  targets_of_vats a b l d n verb ys at i =
      let told : NoteOk (Told script w) (Deliver d n verb ys) = all_among (NoteOk (Told script w)) l.notes (Deliver d n verb ys) (link_all (λ (j : Link). AllOf (NoteOk (Told script w)) j.notes) a b w.links l stands.links at) i in told.1.1 knows

-- ---- where references lead

module _ (script : Script) (v : ℕ) (s : Vat Name) (own : s.number ≡ v) (hosts : (n : Name) (k : Known Name) → entry_of (names script v) s.known n ≡ Some k → k.host ≡ host_of n) (known : AllOf (KnownOk (IsInside (length script.vats))) s.known) where
  -- another vat of the script
  abbrev IsOther : ℕ → Type 0
  IsOther h = (v ≡ h → ⊥) × h < length script.vats

  abbrev PlaceIs : refs.Place Name → Type 0
  PlaceIs (Away h n o) = IsOther h
  PlaceIs other = Unit {0}

  false_true : false ≡ true → ⊥
  false_true e = cc

  foreign_other : (u i : ℕ) (b : Bool) → (v == u) ≡ b → u < length script.vats → PlaceIs (refs.spotted (names script v) s (Object u i) (elim b [ true ↦ Own i | false ↦ Foreign u ]))
  unfolding refs.spotted
  foreign_other u i true e l = tt
  foreign_other u i false e l = ((λ f. false_true (sym e ∙ eq-eqb v u f)), l)

  hosted_other : (n : Name) (h : ℕ) (b : Bool) → (s.number == h) ≡ b → IsOfVat script n → (h ≡ host_of n) ⊎ (h ≡ s.number) → PlaceIs (elim b [ true ↦ Mine n | false ↦ Away h n false ])
  hosted_other n h true e l i = tt
  hosted_other n h false e l (inl i) = ((λ f. false_true (sym e ∙ eq-eqb s.number h (own ∙ f))), subst (λ u. u < length script.vats) (sym i) l)
  hosted_other n h false e l (inr i) = absurd (false_true (sym e ∙ eq-eqb s.number h (sym i)))

  host_is : (n : Name) (o : Option (Known Name)) → entry_of (names script v) s.known n ≡ o → (refs.host_in s.number o ≡ host_of n) ⊎ (refs.host_in s.number o ≡ s.number)
  unfolding refs.host_in
  host_is n (Some k) e = inl (hosts n k e)
  host_is n None e = inr refl

  eventual_other : (n : Name) → IsOfVat script n → PlaceIs (refs.spotted (names script v) s n NoObject)
  unfolding refs.spotted refs.hosted refs.host_at
  eventual_other n l = hosted_other n (refs.host_in s.number (entry_of (names script v) s.known n)) (s.number == refs.host_in s.number (entry_of (names script v) s.known n)) refl l (host_is n (entry_of (names script v) s.known n) refl)

  spot_other : (n : Name) → IsOfVat script n → PlaceIs (refs.spotted (names script v) s n (spot_of v n))
  unfolding spot_of host_of
  spot_other (Object u i) l = foreign_other u i (v == u) refl l
  spot_other other l = eventual_other other l

  value_other : (y : Value Name) → ValueOk (IsInside (length script.vats)) y → PlaceIs (place (names script v) s y)
  unfolding place names naming
  value_other (Ref n) h = spot_other n h
  value_other other h = tt

  -- the place of what is aimed at, over a link
  abbrev LeadsTo : Place → ℕ → Name → Type 0
  LeadsTo c h q = c ≡ End (Way v h) q

  aimed_other : (y : Value Name) (p : refs.Place Name) → PlaceIs p → (h : ℕ) (q : Name) → LeadsTo (aimed v y p) h q → IsOther h
  unfolding aimed
  aimed_other (Ref n) Near i h q e = cc
  aimed_other y (Away g n o) i h q e = let same : g ≡ h = cc in subst IsOther same i
  aimed_other other Near i h q e = cc
  aimed_other y other i h q e = cc

  module _ (honest : ℕ → Bool) where
    followed_other : (n : Name) → IsOfVat script n → (h : ℕ) (q : Name) → LeadsTo (by_follow script honest v s (Ref n)) h q → IsOther h
    unfolding by_follow
    followed_other n l h q e = let y : Value Name = follow (names script v) s (Ref n) in
        aimed_other y (place (names script v) s y) (value_other y (follow_ok (names script v) (IsInside (length script.vats)) s known (Ref n) l)) h q e

    host_other : (n : Name) (g : ℕ) (b c : Bool) → (v == g) ≡ c → g < length script.vats → (h : ℕ) (q : Name) → LeadsTo (elim b [ true ↦ Nowhere | false ↦ elim c [ true ↦ End (Held v n) n | false ↦ End (Way v g) n ] ]) h q → IsOther h
    host_other n g false false f l h q e = let same : g ≡ h = cc in subst IsOther same ((λ i. false_true (sym f ∙ eq-eqb v g i)), l)
    host_other n g other another f l h q e = cc

    name_other : (n : Name) (o : Option (Known Name)) → IsOfVat script n → (h : ℕ) (q : Name) → LeadsTo (of_name script honest v s n o) h q → IsOther h
    unfolding of_name by_host
    name_other (Object u i) o l h q e = followed_other (Object u i) l h q e
    name_other other (Some k) l h q e = followed_other other l h q e
    name_other other None l h q e = host_other other (host_of other) (is_in (host_of other) s.noticed) (v == host_of other) refl l h q e

-- ---- in a world

module _ (script : Script) (knows : KnowsVats script) (w : World) (stands : Stands script w) (linked : AllLinked (length script.vats) w.links) where
  links_there : (honest : ℕ → Bool) (v h : ℕ) (s : Vat Name) (n q : Name) → slice_get w.vats v ≡ Some s → IsOfVat script n → leads script honest w.vats w.links v (Ref n) ≡ End (Way v h) q → (l : Link) × (link_at v h w.links ≡ Some l)
  unfolding leads leads_at leads_in
  links_there honest v h s n q there l e =
      let stand : VatStands script w v s = stands.vats v s there in
      let here : leads_in script honest v s (Ref n) ≡ End (Way v h) q = ap (λ o. leads_at script honest v o (Ref n)) (sym there) ∙ e in
      let other = name_other script v s stand.kept.number (λ m k f. host_in_world script v s m k stand.kept.hosts f) (known_inside script knows w stands v s there) honest n (entry_of (names script v) s.known n) l h q here in
      linked v h stand.low other.1 other.0

module _ (P : Script → World → Type 0) (holds : (script : Script) → KnowsVats script → (w : World) → Stands script w → IsReached script w → P script w) where
  in_closed_runs : InClosedRuns P
  in_closed_runs script once knows = (
    λ ps rest w i e. holds script knows w (opened_stands script once ps rest w i e) ((honest_reached script).0 ps rest w i e),
    λ w x es k o e. holds script knows x (steps_stand script es k w x (opened_stands script once script.vats [] w (sym (append-nil script.vats)) o) e) ((honest_reached script).1 w x es k o e),
  )

pub names_are_of_vats : NamesAreOfVats
names_are_of_vats = in_closed_runs _ (λ script knows w stands r. (names_of_vats script knows w stands, targets_of_vats script knows w stands))

pub links_are_there : LinksAreThere
links_are_there = in_closed_runs _ (λ script knows w stands r. links_there script knows w stands (reached_linked script w r))

-- ---- carries

pub carries_keep_in_closed_runs : CarriesKeepInClosedRuns
carries_keep_in_closed_runs script once knows w x y es k a b o e f honest d n verb ys c = message_carries_keep_in_runs script once w x y es k a b o e f honest d n verb ys borne
  where
    target : IsOfVat script n
    target = ((names_are_of_vats script once knows).1 w x es k o e).1 a b c.link d n verb ys c.found (subst (λ ns. IsAmong (Deliver d n verb ys) ns) (sym c.first) (inl refl))

    borne : BearsMessage script honest x a b d n verb ys
    borne = record {
      vat = c.vat;
      there = c.there;
      link = c.link;
      found = c.found;
      uncut = c.uncut;
      rest = c.rest;
      first = c.first;
      sender = c.sender;
      receiver = c.receiver;
      onward = λ h q i. (links_are_there script once knows).1 w x es k o e honest b h c.vat n q c.there target i;
    }
