-- As a note by which the provider of a gift is asked to open it is carried in a run, order is kept.
use Rattle.std.proofs.Common.{◌≡◌, ℕ, zero, suc, ◌≤◌, Bool, true, false, List, Some, None, length, refl, sym, ap, subst, ◌∙◌, inl, inr, arith}
use Rattle.std.specs.Prelude.{codes, ◌==◌}
use Rattle.def_machine.specs.Values.{Broken, Ref, Name, Object, Naming, Own, Foreign, naming, spot_of, host_of}
use Rattle.def_machine.specs.State.{Settled, Shorten, Vat, is_in}
use Rattle.def_machine.specs.Refs.{Away, entry_of, standing_of, standing_in, led, follow_at, follow, severed, severed_at, severed_by, place, spotted}
use Rattle.def_run.specs.World.{Script, Carry, Entry, World, Goes, begins, open_from, steps_from, names, readied, step}
use Rattle.law_machine.proofs.Machine.StepLaws.{settled_entry}
use Rattle.law_machine.proofs.Run.Honest.{honest_reached}
use Rattle.law_machine.specs.Run.Moves.{IsReached}
use Rattle.law_fate.specs.Name.Names.{AllOf, IsAmong, IsMade, WasMade, NoteOk, KnownOk, messages_of, promises_of}
use Rattle.law_fate.specs.Name.Runs.{KnowsOnce}
use Rattle.law_fate.proofs.Name.Laws.{names_made, notes_made}
use Rattle.law_reference.proofs.Reference.VatStep.{link_all}
use Rattle.law_order.specs.Ordering.Ways.{Way, End}
use Rattle.law_order.specs.Ordering.Places.{leads_in, leads_at, leads}
use Rattle.law_order.specs.Ordering.Worlds.{IsObject}
use Rattle.law_order.proofs.Ordering.Arrived.{learnt_leads}
use Rattle.law_order.proofs.Carries.Arriving.{aimed_back}
use Rattle.law_order.proofs.Cuts.Reached.{one_note_lets_a_gift_go, notes_are_logged}
use Rattle.law_order.proofs.Runs.Beginnings.{own_messages, own_promises, vats_are_ready}
use Rattle.law_order.proofs.Runs.CarryRuns.{next_step}
use Rattle.law_order.specs.Asks.Asks.{Bears}
use Rattle.law_order.specs.Asks.Shortens.{BearsShorten, CanShorten, ShortenCarriesKeepInRuns}
use Rattle.law_order.proofs.Asks.Shortens.{shorten_carries_keep}
use Rattle.law_order.proofs.Asks.Wishes.{shortens_are_true}

-- ---- where a name leads that settled to an object of another vat

module _ (script : Script) (b : ℕ) (s : Vat Name) where
  abbrev K : Naming Name Name
  K = names script b

  placed : (g i h : ℕ) (q : Name) (c : Bool) (x : Bool) → spotted K s (Object g i) (elim x [ true ↦ Own i | false ↦ Foreign g ]) ≡ Away h q c → h ≡ g
  unfolding spotted
  placed g i h q c true e = cc
  placed g i h q c false e = cc

  severed_host : (g i h : ℕ) (q : Name) (c x : Bool) → place K s (severed_at K s (Object g i) (elim x [ true ↦ Own i | false ↦ Foreign g ])) ≡ Away h q c → h ≡ g
  unfolding place severed_at severed_by names naming spot_of
  severed_host g i h q c true e = placed g i h q c (b == g) e
  severed_host g i h q c false e = go (is_in g s.noticed) e
    where
      go : (y : Bool) → place K s (elim y [ true ↦ Broken (codes "partition") | false ↦ Ref (Object g i) ]) ≡ Away h q c → h ≡ g
      go true f = cc
      go false f = placed g i h q c (b == g) f

  far_host : (o : Name) → IsObject o → (h : ℕ) (q : Name) (c : Bool) → place K s (severed K s (Ref o)) ≡ Away h q c → h ≡ host_of o
  unfolding severed names naming spot_of host_of
  far_host (Object g i) p h q c e = severed_host g i h q c (b == g) e
  far_host other p h q c e = absurd p

  module _ (objects : (o : Name) → IsObject o → entry_of K s.known o ≡ None) where
    object_ends : (d : ℕ) (o : Name) → IsObject o → follow_at K d s.known (Ref o) ≡ Ref o
    unfolding follow_at led standing_of standing_in
    object_ends zero o i = refl
    object_ends (suc d) o i = ap (λ k. led K (λ z. follow_at K d s.known z) o (standing_in k)) (objects o i)

    settled_leads : (n o : Name) → IsObject o → standing_of K s.known n ≡ Settled (Ref o) → follow K s (Ref n) ≡ severed K s (Ref o)
    unfolding follow follow_at led
    settled_leads n o i e = ap (λ y. severed K s y) (ap (λ z. led K (λ y. follow_at K (length s.known) s.known y) n z) e ∙ object_ends (length s.known) o i)

    pub leads_far : (honest : ℕ → Bool) (n o : Name) → IsObject o → standing_of K s.known n ≡ Settled (Ref o) → (h : ℕ) (q : Name) → leads_in script honest b s (Ref n) ≡ End (Way b h) q → h ≡ host_of o
    unfolding standing_of standing_in
    leads_far honest n o i e h q f =
        let known = settled_entry (entry_of K s.known n) (Ref o) e in
        let away = aimed_back b h q (follow K s (Ref n)) (place K s (follow K s (Ref n))) (sym (learnt_leads script honest b s n (inr (known.0, known.1))) ∙ f) in
        far_host o i h q away.0 (ap (λ y. place K s y) (sym (settled_leads n o i e)) ∙ away.1)

-- ---- the carry

module _ (script : Script) (once : KnowsOnce script) (w x : World) (es : List Entry) (k : ℕ) (o : open_from script zero script.vats (begins script) ≡ Goes w) (e : steps_from script es k w ≡ Goes x)
    (honest : ℕ → Bool) (a b c i : ℕ) (n : Name) (h : BearsShorten script honest x a b c i n) where
  reached : IsReached script x
  reached = (honest_reached script).1 w x es k o e

  made : WasMade x.vats x.drawn n
  made = (subst (λ ns. AllOf (NoteOk (IsMade x.vats x.drawn)) ns) h.borne.first (link_all (λ l. AllOf (NoteOk (IsMade x.vats x.drawn)) l.notes) a b x.links h.borne.link ((notes_made script once).1 w x es k o e) h.borne.found)).0.0

  known_made : AllOf (KnownOk (IsMade x.vats x.drawn)) h.borne.vat.known
  known_made = ((names_made script once).1 w x es k o e b h.borne.vat h.borne.there).known

  pub can_shorten : CanShorten script honest x a b c i n
  can_shorten = record {
    bears = h;
    ready = (vats_are_ready script once).1 w x es k o e honest b h.borne.vat h.borne.vat.queue h.borne.there;
    message = λ m f. subst (WasMade x.vats x.drawn) f made;
    answer = λ g j l f. let less : suc j ≤ messages_of x.vats b = subst (WasMade x.vats x.drawn) f made in let own = own_messages script b x h.borne.vat h.borne.there known_made in omega arith;
    promise = λ j l f. let less : suc j ≤ promises_of x.vats b = subst (WasMade x.vats x.drawn) f made in let own = own_promises script b x h.borne.vat h.borne.there known_made in omega arith;
    most = one_note_lets_a_gift_go script x reached;
    logged = notes_are_logged script x reached;
  }

some_same : (s t : Vat Name) → Some s ≡ Some t → s ≡ t
some_same s t e = cc

-- the name settled to an object of that vat, so it leads there alone
bears : (script : Script) → KnowsOnce script → (w x : World) (es : List Entry) (k a b c i : ℕ) (n : Name) → open_from script zero script.vats (begins script) ≡ Goes w → steps_from script es k w ≡ Goes x → Bears x a b (Shorten n c i) → (honest : ℕ → Bool) → honest a ≡ true → honest b ≡ true → BearsShorten script honest x a b c i n
unfolding leads leads_at readied
bears script once w x es k a b c i n o e h honest from to =
    let ready = (vats_are_ready script once).1 w x es k o e honest b h.vat h.vat.queue h.there in
    let so = (shortens_are_true script once).1 w x es k o e a b h.link n c i h.found (subst (λ ns. IsAmong (Shorten n c i) ns) (sym h.first) (inl refl)) in
    let same : so.0 ≡ h.vat = some_same so.0 h.vat (sym so.1 ∙ h.there) in
    let settled : standing_of (names script b) h.vat.known n ≡ Settled (Ref so.2) = subst (λ (s : Vat Name). standing_of (names script b) s.known n ≡ Settled (Ref so.2)) same so.3 in
    record {
      borne = h;
      sender = from;
      receiver = to;
      onward = λ g q f. leads_far script b h.vat ready.ends.objects honest n so.2 so.4 settled g q (sym (ap (λ u. leads_at script honest b u (Ref n)) h.there) ∙ f) ∙ so.5;
    }

pub shorten_carries_keep_in_runs : ShortenCarriesKeepInRuns
shorten_carries_keep_in_runs script once w x y es k a b c i n o e f h0 honest from to =
    let h : BearsShorten script honest x a b c i n = bears script once w x es k a b c i n o e h0 honest from to in
    let next : (j : ℕ) × (step script (Carry a b) j x ≡ Goes y) = next_step script (Carry a b) x y es k w e f in
    shorten_carries_keep script honest x y a b c i next.0 n (can_shorten script once w x es k o e honest a b c i n h) next.1
