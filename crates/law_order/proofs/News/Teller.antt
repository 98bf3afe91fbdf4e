-- Who tells of a name hosts it, and whom it tells knew nothing of it, or had it broken: what stands of a note that tells where a name settled, first on its link in a world of a run.
use Rattle.std.proofs.Common.{◌≡◌, ℕ, zero, Bool, true, false, List, [], ◌∷◌, Some, refl, sym, ap, subst, ◌∙◌, ◌⊎◌, inl, append-nil}
use Rattle.std.specs.Prelude.{slice_get}
use Rattle.def_machine.specs.Values.{Words, Value, Broken, Name, host_of}
use Rattle.def_machine.specs.State.{Known, Note, Elsewhere, SettledTo, Unsettled, Settled, Passed, Vat, is_in}
use Rattle.def_machine.specs.Refs.{entry_of, standing_of}
use Rattle.def_run.specs.Draws.{draw_word}
use Rattle.def_run.specs.World as world
use Rattle.def_run.specs.World.{Script, Entry, Link, World, Goes, begins, open_from, steps_from, names}
use Rattle.law_machine.proofs.Machine.StepLaws.{settled_entry}
use Rattle.law_machine.proofs.Run.Honest.{honest_reached}
use Rattle.law_fate.specs.Name.Names.{AllOf, IsAmong, IsMade, NoteOk, WasMade}
use Rattle.law_fate.specs.Name.Runs.{KnowsOnce}
use Rattle.law_fate.proofs.Name.Laws.{notes_made}
use Rattle.law_fate.proofs.Name.Run.{Stands, opened_stands, steps_stand}
use Rattle.law_fate.specs.Fates.CarryRuns.{WorldSound}
use Rattle.law_fate.specs.Fates.Lasting.{Each}
use Rattle.law_fate.specs.Fates.Sound.{KnownSound}
use Rattle.law_fate.proofs.Fates.RunLight.{messages_go_to_hosts}
use Rattle.law_reference.specs.Reference.Cuts.{NoticesFollowCuts}
use Rattle.law_reference.specs.Reference.Notes.{LinkFits, IsBetween}
use Rattle.law_reference.proofs.Reference.NotesRuns.{notes_name_ends}
use Rattle.law_reference.proofs.Reference.NoticedRuns.{noticed_links_cut}
use Rattle.law_reference.proofs.Reference.Told.{found_all}
use Rattle.law_reference.proofs.Reference.VatStep.{link_all, link_found}
use Rattle.law_frame.proofs.Heard.Pairs.{stepped_paired}
use Rattle.law_order.specs.ToldOnce.Told.{news_in, with_news}
use Rattle.law_order.proofs.ToldOnce.News.{news_is_new}
use Rattle.law_order.specs.Ordering.Worlds.{IsObject}
use Rattle.law_order.specs.Ordering.Arrivals.{IsOpenWay}
use Rattle.law_order.proofs.Ordering.Sends.{none_some}
use Rattle.law_order.proofs.Runs.Beginnings.{reached_is, each_all, entry_name}
use Rattle.law_order.proofs.Runs.LinkRuns.{reached_linked}
use Rattle.law_order.proofs.Runs.ToldRuns.{NoteTrue, reached_holds, note_in}
use Rattle.law_order.specs.Asks.Asks.{Bears}
use Rattle.law_order.proofs.News.Tidiness.{objects_unknown}

-- it tells where the name settled
pub data TellsOf (n : Name) : Note Name → Type 0 where
  elsewhere : {c : ℕ} → TellsOf n (Elsewhere n c)
  settled : {y : Passed Name} → TellsOf n (SettledTo n y)

none_each : {A : Type 0} (P : Type 0) (xs : List A) → (P → ⊥) → Each (λ (x : A). P) xs → xs ≡ []
none_each P [] f h = refl
none_each P (x ∷ xs) f h = absurd (f h.0)

pub true_false : {A : Type 0} (c : Bool) → c ≡ true → c ≡ false → A
true_false c e f = cc

module _ (script : Script) (once : KnowsOnce script) (w x : World) (es : List Entry) (k : ℕ) (o : open_from script zero script.vats (begins script) ≡ Goes w) (e : steps_from script es k w ≡ Goes x)
    (a b : ℕ) (n : Name) (m : Note Name) (tells : TellsOf n m) (h : Bears x a b m) where
  among : IsAmong m h.link.notes
  among = subst (λ ns. IsAmong m ns) (sym h.first) (inl refl)

  -- the name was made
  made_by : (q : Note Name) → TellsOf n q → NoteOk (IsMade x.vats x.drawn) q → WasMade x.vats x.drawn n
  made_by q elsewhere g = g.0
  made_by q settled g = g.0

  pub made : WasMade x.vats x.drawn n
  made = made_by m tells (subst (λ ns. AllOf (NoteOk (IsMade x.vats x.drawn)) ns) h.first (link_all (λ (l : Link). AllOf (NoteOk (IsMade x.vats x.drawn)) l.notes) a b x.links h.link ((notes_made script once).1 w x es k o e) h.found)).0

  -- it is of the sender
  hosted_by : (q : Note Name) → TellsOf n q → IsBetween h.link.from h.link.to q → host_of n ≡ h.link.from
  hosted_by q elsewhere g = g
  hosted_by q settled g = g

  pub hosted : host_of n ≡ a
  hosted = hosted_by m tells (subst (λ ns. AllOf (IsBetween h.link.from h.link.to) ns) h.first (link_all LinkFits a b x.links h.link ((notes_name_ends script once).1 w x es k o e) h.found).1).0 ∙ (link_found a b x.links h.link h.found).0

  -- where it settled
  pub told : NoteTrue script x.vats a m
  told = note_in script x a b h.link m (reached_holds script x ((honest_reached script).1 w x es k o e)) h.found among

  settled_by : (q : Note Name) → TellsOf n q → NoteTrue script x.vats a q → (t : Vat Name) × (slice_get x.vats a ≡ Some t) × (z : Value Name) × (standing_of (names script a) t.known n ≡ Settled z)
  settled_by q elsewhere g = (g.0, g.1, g.2.0, g.2.1)
  settled_by q settled g = (g.0, g.1, g.2.0, g.2.1)

  pub sender : (t : Vat Name) × (slice_get x.vats a ≡ Some t) × (z : Value Name) × (standing_of (names script a) t.known n ≡ Settled z)
  sender = settled_by m tells told

  pub plain : IsObject n → ⊥
  unfolding standing_of
  plain i = let j = settled_entry (entry_of (names script a) sender.0.known n) sender.2 sender.3 in none_some j.0 (sym (objects_unknown script once w x es k o e (λ u. true) a sender.0 sender.1 n i) ∙ j.1)

  -- the two are others, and the links between them are not cut
  pub other : a ≡ b → ⊥
  other f = (stepped_paired script once w x es k o e).1 a h.link (subst (λ z. world.link_at a z x.links ≡ Some h.link) (sym f) h.found)

  stands : Stands script x
  stands = steps_stand script es k w x (opened_stands script once script.vats [] w (sym (append-nil script.vats)) o) e

  back : (l : Link) × (world.link_at b a x.links ≡ Some l)
  back = reached_linked script x ((honest_reached script).1 w x es k o e) b a (stands.vats b h.vat h.there).low (stands.vats a sender.0 sender.1).low (λ f. other (sym f))

  back_uncut : back.0.cut ≡ false
  back_uncut = let c = (stepped_paired script once w x es k o e).0 a b in c.2 back.0 back.1 ∙ sym (c.1 h.link h.found) ∙ h.uncut

  pub back_open : (honest : ℕ → Bool) → honest a ≡ true → honest b ≡ true → IsOpenWay honest b a x
  back_open honest there here = record { link = back.0; found = back.1; uncut = back_uncut; sender = here; receiver = there }

  -- the receiver holds nothing for it, and is to tell nobody
  pub empty : (j : Known Name) → entry_of (names script b) h.vat.known n ≡ Some j → (j.held ≡ []) × (j.told ≡ [])
  unfolding names
  empty j f =
      let sound = found_all (draw_word script.key) b (KnownSound b) h.vat.known n j (each_all (KnownSound b) h.vat.known ((reached_is WorldSound _ x e ((messages_go_to_hosts script).1 w es k o)).vats b h.vat h.there).names) f in
      let another : (host_of j.name ≡ b → ⊥) = λ i. other (sym hosted ∙ sym (ap host_of (entry_name script b h.vat.known n j f)) ∙ i) in
      (none_each (host_of j.name ≡ b) j.held another sound.held, none_each (host_of j.name ≡ b) j.told another sound.told)

  module _ (follow : NoticesFollowCuts es) where
    pub unnoticed : is_in a h.vat.noticed ≡ false
    unnoticed = go (is_in a h.vat.noticed) refl
      where
        go : (c : Bool) → is_in a h.vat.noticed ≡ c → is_in a h.vat.noticed ≡ false
        go false f = f
        go true f = true_false h.link.cut (((noticed_links_cut script once w x es k follow o e b h.vat h.there a f).2) h.link h.found) h.uncut

    news_by : (q : Note Name) (ns : List (Note Name)) → TellsOf n q → IsAmong n (news_in (q ∷ ns))
    unfolding news_in with_news
    news_by q ns elsewhere = inl refl
    news_by q ns settled = inl refl

    -- of the name the receiver knows nothing, or it is broken there
    pub new : (standing_of (names script b) h.vat.known n ≡ Unsettled) ⊎ ((p : Words) × (standing_of (names script b) h.vat.known n ≡ Settled (Broken p)))
    new = (news_is_new script once).1 w x es k follow o e a b h.vat h.link h.there h.found h.uncut n (subst (λ ns. IsAmong n (news_in ns)) (sym h.first) (news_by m h.rest tells))
