-- What a vat heard that it is asked for stays so, and was asked for.
use Rattle.std.proofs.Common.{◌≡◌, ℕ, false, List, [], ◌∷◌, Some, refl, sym, ap, subst, ◌∙◌, ◌⊎◌, inl, inr}
use Rattle.def_machine.specs.Values.{Name}
use Rattle.def_machine.specs.State.{Note, Vat}
use Rattle.def_run.specs.Connections.{asked_in}
use Rattle.def_run.specs.Wire as conn
use Rattle.def_run.specs.Wire.{Connected, connected_at, with_connected, sight}
use Rattle.def_run.specs.World as world
use Rattle.def_run.specs.World.{Script, Program, Opens, Entry, CutLink, Event, Carried, Link, World, Goes as Going, link_at, with_link, with_notes}
use Rattle.law_machine.specs.Run.Moves as run
use Rattle.law_machine.specs.Run.Moves.{Stepped, Nobody, AnyNotice, went}
use Rattle.law_machine.proofs.Run.Honest.{NoDeed, NoWord}
use Rattle.law_machine.proofs.Run.Told.{moves_told}
use Rattle.law_fate.specs.Name.Names.{IsAmong}
use Rattle.law_reference.specs.Reference.Logs as wire
use Rattle.law_frame.proofs.Frame.Exported.{among_split}
use Rattle.law_frame.proofs.Frame.Exports.{asked_on}
use Rattle.law_frame.proofs.Frame.LinksGo.{Splits}
use Rattle.law_frame.proofs.Frame.LinksKnown.{at_link}
use Rattle.law_frame.proofs.Frame.Places.{same_or, connected_same, connected_other, connected_ends}
use Rattle.law_frame.proofs.Frame.SourceLaws.{log_is, asks_in}
use Rattle.law_frame.proofs.Frame.Sources.{waiting_logged}
use Rattle.law_frame.proofs.Frame.Worlds.{asker}
use Rattle.law_frame.proofs.Frame.Written.{received_from, received_to, carried_heard}
use Rattle.law_frame.proofs.Heard.CutPuts.{puts_answers, read_answers}
use Rattle.law_frame.proofs.Heard.CutSteps.{HeardWereAsked}
use Rattle.law_frame.proofs.Heard.Kept.{asked_same}
use Rattle.law_frame.proofs.Heard.Lift.{Opened}
use Rattle.law_frame.proofs.Heard.Pending.{Facts, splits}
use Rattle.law_frame.proofs.Heard.Steps.{Asked, Onward, honest, went_connections}

abbrev pub Answers : List Connected → ℕ → ℕ → List Name
Answers cs v u = (connected_at v u cs).tables.answers

-- what was heard by then is heard later
abbrev pub HeardOn : World → World → Type 0
HeardOn x y = (v u : ℕ) (z : Name) → IsAmong z (Answers x.connections v u) → IsAmong z (Answers y.connections v u)

-- ---- a note is read

received_cases : (p : Connected) (m : Note Name) (c : Connected) (z : Name) → IsAmong z (let e : Connected = conn.received p m c in e.tables.answers) → IsAmong z c.tables.answers ⊎ IsAmong z (asked_in (sight p.from p.to) m)
unfolding conn.received
received_cases p m c z a = among_split z c.tables.answers (asked_in (sight p.from p.to) m) a

read_cases : (a b v u : ℕ) (m : Note Name) (cs : List Connected) (z : Name) → IsAmong z (Answers (with_connected (conn.received (connected_at a b cs) m) b a cs) v u)
    → IsAmong z (Answers cs v u) ⊎ ((b ≡ v) × (a ≡ u) × IsAmong z (wire.questions_in b (m ∷ [])))
read_cases a b v u m cs z k = either (same_or b a v u)
  where
    abbrev_p : Connected
    abbrev_p = connected_at a b cs

    asks : IsAmong z (asked_in (sight abbrev_p.from abbrev_p.to) m) → IsAmong z (wire.questions_in b (m ∷ []))
    asks i = let ends = connected_ends a b cs in subst (λ qs. IsAmong z qs) (ap (λ (f : ℕ). asked_in (sight f abbrev_p.to) m) ends.0 ∙ ap (λ (t : ℕ). asked_in (sight a t) m) ends.1 ∙ asked_same a b m) i

    here : IsAmong z (Answers (with_connected (conn.received (connected_at a b cs) m) b a cs) b a) → IsAmong z (Answers cs b a) ⊎ IsAmong z (asked_in (sight abbrev_p.from abbrev_p.to) m)
    here i = received_cases (connected_at a b cs) m (connected_at b a cs) z (subst (λ (c : Connected). IsAmong z c.tables.answers) (connected_same (conn.received (connected_at a b cs) m) (received_from (connected_at a b cs) m) (received_to (connected_at a b cs) m) b a cs) i)

    now : (b ≡ v) → (a ≡ u) → IsAmong z (Answers cs b a) ⊎ IsAmong z (asked_in (sight abbrev_p.from abbrev_p.to) m) → IsAmong z (Answers cs v u) ⊎ ((b ≡ v) × (a ≡ u) × IsAmong z (wire.questions_in b (m ∷ [])))
    now i j (inl h) = inl (subst (λ c. IsAmong z (Answers cs v c)) j (subst (λ c. IsAmong z (Answers cs c a)) i h))
    now i j (inr h) = inr (i, j, asks h)

    either : ((b ≡ v) × (a ≡ u)) ⊎ (b ≡ v → a ≡ u → ⊥) → IsAmong z (Answers cs v u) ⊎ ((b ≡ v) × (a ≡ u) × IsAmong z (wire.questions_in b (m ∷ [])))
    either (inr n) = inl (subst (λ (c : Connected). IsAmong z c.tables.answers) (connected_other (conn.received (connected_at a b cs) m) (received_from (connected_at a b cs) m) (received_to (connected_at a b cs) m) b a v u cs n) k)
    either (inl e) = now e.0 e.1 (here (subst (λ c. IsAmong z (Answers (with_connected (conn.received (connected_at a b cs) m) b a cs) c a)) (sym e.0) (subst (λ c. IsAmong z (Answers (with_connected (conn.received (connected_at a b cs) m) b a cs) v c)) (sym e.1) k)))

-- ---- a move

module _ (script : Script) (x y : World) (f : Facts script x) (pair : Onward script x y) where
  -- what holds where the connections are those once a note was read
  module _ (v u : ℕ) (z : Name) where
    abbrev Z : World → Type 0
    Z w = IsAmong z (Answers w.connections v u)

    -- vat a puts
    went_answers : (a : ℕ) (t : Vat Name) (head : List Event) (before : World) → y ≡ went a before head t → (cs : List Connected) → world.heard_by head before.connections ≡ cs → Answers y.connections v u ≡ Answers cs v u
    went_answers a t head before e cs quiet = ap (λ ds. Answers ds v u) (ap (λ (w : World). w.connections) e ∙ went_connections script a before head t ∙ ap (conn.write_all a t.outbox) quiet) ∙ puts_answers a v u t.outbox cs

    going : {a b : World} → Going a ≡ Going b → a ≡ b
    going e = cc

    cut_answers : (k a b : ℕ) → world.step script (CutLink a b) k x ≡ Going y → Answers y.connections v u ≡ Answers x.connections v u
    unfolding world.step world.cut
    cut_answers k a b e = ap (λ (w : World). Answers w.connections v u) (sym (going e))

    same_answers : y.connections ≡ x.connections → Answers y.connections v u ≡ Answers x.connections v u
    same_answers e = ap (λ ds. Answers ds v u) e

    quiet_open : (a : ℕ) → world.heard_by (Opens a ∷ []) x.connections ≡ x.connections
    unfolding world.heard_by
    quiet_open a = refl

    -- as they were, or a note was read
    abbrev pub Goes : Type 0
    Goes = (Answers y.connections v u ≡ Answers x.connections v u) ⊎ ((a b : ℕ) × (n : Note Name) × (ns : List (Note Name)) × (l : Link) × (link_at a b x.links ≡ Some l) × (l.cut ≡ false) × (l.notes ≡ n ∷ ns)
        × (Answers y.connections v u ≡ Answers (with_connected (conn.received (connected_at a b x.connections) n) b a x.connections) v u))

    moved : run.Moved script x Nobody AnyNotice NoDeed NoWord y → Goes
    moved (run.Still es e) = inl (same_answers (ap (λ (w : World). w.connections) e))
    moved (run.Severs k a b e) = inl (cut_answers k a b e)
    moved (run.Drops a b n ns j es from uncut notes none e) = inl (same_answers (ap (λ (w : World). w.connections) e))
    moved (run.Steps a q o t what head decent alone may quiet d e) = inl (went_answers a t head x e x.connections (quiet x.connections))
    moved (run.Arrives a b q t n ns l k frame decent from uncut notes d e) =
        inr (a, b, n, ns, l, from, uncut, notes, went_answers b t (Carried k a b n frame ∷ []) (record x { links = with_link (with_notes ns) a b x.links }) e (with_connected (conn.received (connected_at a b x.connections) n) b a x.connections) (carried_heard script k a b n frame x.connections))
    moved (run.Hears a b q t n ns j k frame hostile from uncut notes i g e) = absurd hostile
    moved (run.Tells a b q t p ds n hostile i g j o e) = absurd hostile

    pub entry_goes : (e : Entry) (k : ℕ) → world.step script e k x ≡ Going y → Goes
    entry_goes e k i = moved (moves_told script Nobody AnyNotice NoDeed NoWord x y (Stepped e k (honest script x e) i))

    pub opening_goes : (a : ℕ) (p : Program) → Opened script x y a p → Goes
    opening_goes a p o = inl (went_answers a o.1 (Opens a ∷ []) x o.3 x.connections (quiet_open a))

    pub heard_later : Goes → Z x → Z y
    heard_later (inl e) k = subst (λ qs. IsAmong z qs) (sym e) k
    heard_later (inr (a, b, n, ns, l, at, uncut, notes, e)) k = subst (λ qs. IsAmong z qs) (sym e) (read_answers a b v u (connected_at a b x.connections) n x.connections z k)

    pub heard_asked : HeardWereAsked x → Goes → Z y → IsAmong z (Asked y u v)
    unfolding wire.questions
    heard_asked h (inl e) k = asked_on script x y pair.0 u v z (link_at u v x.links) refl (h v u z (subst (λ qs. IsAmong z qs) e k))
    heard_asked h (inr (a, b, n, ns, l, at, uncut, notes, e)) k = asked_on script x y pair.0 u v z (link_at u v x.links) refl (either (read_cases a b v u n x.connections z (subst (λ qs. IsAmong z qs) e k)))
      where
        logged : IsAmong n l.log
        logged = waiting_logged n ns l notes ((at_link Splits a b l x.links (splits script x f) at).0 uncut)

        asked : (b ≡ v) → (a ≡ u) → IsAmong z (wire.questions_in b (n ∷ [])) → IsAmong z (Asked x u v)
        asked i j q = let r = asker b z (n ∷ []) q in subst (λ c. IsAmong z (Asked x c v)) j (subst (λ c. IsAmong z (Asked x a c)) i (subst (λ ms. IsAmong z (wire.questions_in b ms)) (sym (log_is l (link_at a b x.links) at)) (asks_in b z l.log r.0 (one r.0 r.1) r.2)))
          where
            one : (m : Note Name) → IsAmong m (n ∷ []) → IsAmong m l.log
            one m (inl c) = subst (λ (d : Note Name). IsAmong d l.log) (sym c) logged
            one m (inr c) = absurd c

        either : IsAmong z (Answers x.connections v u) ⊎ ((b ≡ v) × (a ≡ u) × IsAmong z (wire.questions_in b (n ∷ []))) → IsAmong z (Asked x u v)
        either (inl i) = h v u z i
        either (inr i) = asked i.0 i.1 i.2
