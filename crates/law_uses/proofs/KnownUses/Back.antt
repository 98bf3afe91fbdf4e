-- What a call gives back is known to the activation that it began, or to its caller, or an audition gave it as a guard.
use Rattle.std.proofs.Common.{◌≡◌, ℕ, ◌+◌, true, List, [], ◌∷◌, ◌++◌, Option, Some, None, if◌then◌else◌, refl, sym, ap, ◌∙◌, subst, ◌⊎◌, inl, inr, append_assoc}
use Rattle.std.specs.Prelude.{codes, unwrap_or}
use Rattle.std.proofs.lemmas.Bool.{eq-eqb}
use Rattle.ev_base.specs.declared.names.Name.{Name as ShownName}
use Rattle.def_event.specs.declared.shown.Shown.{Shown, Name as Named}
use Rattle.def_event.specs.declared.event.Called.{Called as ShownCall}
use Rattle.def_event.specs.declared.event.Event.TheVariants as event
use Rattle.def_machine.specs.Values.{Value, Ref, Name, Object, Own, naming}
use Rattle.def_machine.specs.State.{Message, Happened, Called, AuditionMade, Back, Sends, Reacts, Posted, Vat}
use Rattle.def_machine.specs.Free.{same_words}
use Rattle.def_run.specs.World as world
use Rattle.def_run.specs.World.{Script, Event, Here, names, readied, events_of, event_of}
use Rattle.def_run.specs.Shown as show
use Rattle.def_run.specs.Text.{history_of}
use Rattle.law_frozen.proofs.EvalFacts.{same_is}
use Rattle.law_uses.specs.Connectivity.Known as known
use Rattle.law_uses.specs.Connectivity.Known.{AValue, IsAmong, Holdings, IsThing}
use Rattle.law_uses.specs.Connectivity.InTime.{WellThen}
use Rattle.law_uses.specs.Connectivity.Connected.{Open, AskedThen, GivenBack, BackWell}
use Rattle.def_event.specs.Uses as text
use Rattle.def_event.specs.Uses.{Line, place_of, place_after, OpenCall, open_calls, KnowsName, name_of, things_of, AName, AsksAudition, GivesBack, BackKnown}
use Rattle.law_uses.proofs.Connectivity.Events.{here_event}
use Rattle.law_uses.proofs.Connectivity.FineSteps.{among_right}
use Rattle.law_uses.proofs.Connectivity.Knowing.{among_mid, among_more, thing_more}
use Rattle.law_uses.proofs.Uses.Shown.{lines}
use Rattle.law_uses.proofs.Running.Facts.{openings_told}
use Rattle.law_uses.proofs.Running.Ran.{own_object}
use Rattle.law_uses.specs.KnownUses.Told.{IsShownApart, lines_so, first_of}
use Rattle.law_uses.specs.KnownUses.KnownUses.{CallsGiveBackKnown, CallsGiveBackWhatIsKnown}
use Rattle.law_uses.proofs.KnownUses.Stood.{Stood}
use Rattle.law_uses.proofs.KnownUses.Used.{One}
use Rattle.law_uses.proofs.KnownUses.Known.{item_known}
use Rattle.law_uses.proofs.KnownUses.Opened.{calls, events_end, Match, AllMatch, of, Opens, opens_at, nobodys_calls}
use Rattle.law_uses.proofs.KnownUses.Asked.{no_later}
use Rattle.law_uses.proofs.KnownUses.Lines.{place_among}
use Rattle.law_uses.proofs.KnownUses.Shut.{step_nested, step_placed, came_shut}
use Rattle.law_uses.proofs.KnownUses.InTime.{line_in_time}
use Rattle.law_uses.proofs.KnownUses.Ran.{ways_told}
use Rattle.law_uses.proofs.KnownUses.Moments.{told_then, held, facts}
use Rattle.law_uses.proofs.KnownUses.Texts.{placed_line, text_holds, quiet_uses}

-- the name that a value is
name_among : (y : Shown) (n : ShownName) → name_of y ≡ Some n → text.IsAmong (AName n) (things_of y)
unfolding name_of things_of
name_among (Named m) n e = let same : m ≡ n = cc in inl (ap AName same)
name_among _ n e = cc

module _ (script : Script) (v a : ℕ) (x : Value Name) (h k : List Event) (s : Stood script v (Back a x) h) (draws : List ℕ) (apart : IsShownApart script draws)
    (is : history_of (world.run script) ≡ h ++ Here v (Back a x) ∷ k) where
  abbrev Pre : List Event
  Pre = s.line.from.history ++ s.line.head

  abbrev Past : List Line
  Past = lines draws (lines_so s.line)

  -- what was there when the line was told
  then_so : WellThen (names script v) (first_of s.line) s.line.so (Back a x)
  then_so = line_in_time script v (Back a x) h s

  abbrev H : Holdings Name Name
  H = held script v (Back a x) h s then_so.0

  -- the open calls of the activation
  abbrev Of : List OpenCall → List OpenCall
  Of os = of draws s.line.links v Pre a os

  -- what an activation knows in the machine, it knows by name
  known_name : (b : ℕ) (n : ShownName) → name_of (show.shown_value draws v x) ≡ Some n → known.Knows (names script v) H s.line.so b (AValue x) → KnowsName Past (v + 1) b n
  known_name b n e g = item_known draws script v (lines_so s.line) H s.line.so (facts script v (Back a x) h s draws apart k is then_so.0 then_so.1) b (AValue x) g (AName n) (name_among (show.shown_value draws v x) n e)

  shut : (b : ℕ) → calls draws v b (lines draws Pre) ≡ []
  shut b = nobodys_calls draws v b s.line.from.history s.line.head s.nobodys ∙ came_shut draws script s.line.from s.begun v b

  began : s.line.before.happened ≡ []
  unfolding readied
  began = ap (λ (z : Vat Name). z.happened) s.line.ready

  open_so : Opens draws s.line.links v Pre s.line.so (Back a x ∷ s.line.rest)
  open_so = opens_at draws s.line.links v Pre s.line.after.happened
      (λ so rest q. step_placed draws script s.line.from v s.line.vat s.line.queue s.line.head s.line.step s.line.taken s.line.links s.line.after.happened so rest q)
      shut (step_nested script v s.line.step s.line.before s.line.after began s.line.stepped) s.line.so (Back a x ∷ s.line.rest) s.line.told

  abbrev Gives : ShownName → List OpenCall → Type 0
  Gives n os = GivesBack Past (v + 1) a n os

  module _ (n : ShownName) (e : name_of (show.shown_value draws v x) ≡ Some n) (c : Open Name) (o : OpenCall) (m : Match draws s.line.links v Pre s.line.so [] c o) (caller : a ≡ c.caller) where
    shown_target : (r : Value Name) (p : Name) → r ≡ Ref p → name_of (show.shown_value draws v r) ≡ Some (show.shown_name draws p)
    unfolding show.shown_value name_of
    shown_target r p q = ap (λ z. name_of (show.shown_value draws v z)) q

    -- the lines before the call
    abbrev There : List Event
    There = Pre ++ events_of s.line.links v m.front

    abbrev Behind : List Event
    Behind = events_of s.line.links v (Called c.caller c.receiver c.verb m.args c.begun ∷ m.rest) ++ Here v (Back a x) ∷ k

    stands : history_of (world.run script) ≡ There ++ Behind
    stands = is ∙ ap (λ z. z ++ Here v (Back a x) ∷ k) (s.place ∙ ap (λ z. Pre ++ events_of s.line.links v z) m.line ∙ ap (λ z. Pre ++ z) (events_end s.line.links v m.front (Called c.caller c.receiver c.verb m.args c.begun ∷ m.rest)))
        ∙ ap (λ z. z ++ Here v (Back a x) ∷ k) (sym (append_assoc Pre (events_of s.line.links v m.front) (events_of s.line.links v (Called c.caller c.receiver c.verb m.args c.begun ∷ m.rest))))
        ∙ append_assoc There (events_of s.line.links v (Called c.caller c.receiver c.verb m.args c.begun ∷ m.rest)) (Here v (Back a x) ∷ k)

    audition_told : (b i : ℕ) (p : Name) → IsAmong (AuditionMade b p) m.front → (names script v).spot p ≡ Own i → text.IsTold (lines draws There) (text.Audition (show.shown_name draws (Object v i)))
    unfolding names naming event_of
    audition_told b i p j q = let made : Event = Here v (AuditionMade b p) in let r = place_among made There (among_right made Pre (events_of s.line.links v m.front) (here_event s.line.links v m.front (AuditionMade b p) refl j)) in
        subst (λ z. text.IsTold (lines draws There) (text.Audition (show.shown_name draws z))) (own_object v p i q) (told_then draws There r.0 r.1 made (text.Audition (show.shown_name draws p)) r.2
        ((openings_told script draws r.0 (r.1 ++ Behind) v).1 b p (stands ∙ ap (λ z. z ++ Behind) r.2 ∙ append_assoc r.0 (made ∷ r.1) Behind)))

    by_audition : (i : ℕ) → AskedThen (names script v) H s.line.so c.caller c.receiver c.verb i → same_words (codes "getGuard") c.verb ≡ true → AsksAudition (v + 1) o
    by_audition i q verb = let d = no_later s.line.so m.front m.rest c.caller c.receiver c.verb m.args c.begun m.line m.inner q.1 q.2 _ _ q.3 q.4 in
        let thing : IsThing (names script v) H.before m.front c.receiver i = subst (λ z. IsThing (names script v) H.before z c.receiver i) (sym d.1) (thing_more (names script v) H.before q.1 d.0 c.receiver i q.5) in
        let way = ways_told script v (Back a x) h s draws apart k (is ∙ ap (λ z. z ++ Here v (Back a x) ∷ k) s.place) c.caller c.receiver c.verb m.args c.begun (subst (λ z. IsAmong (Called c.caller c.receiver c.verb m.args c.begun) z) (sym m.line) (among_mid (Called c.caller c.receiver c.verb m.args c.begun) m.front m.rest)) m.front (Called c.caller c.receiver c.verb m.args c.begun ∷ m.rest) m.line c.receiver i thing in (
          ap (λ (z : ShownCall). z.verb) m.call ∙ sym (same_is (codes "getGuard") c.verb verb),
          show.shown_name draws way.0,
          show.shown_name draws (Object v i),
          ap (λ (z : ShownCall). name_of z.target) m.call ∙ shown_target c.receiver way.0 way.1,
          subst (λ ls. text.IsFollowed ls (v + 1) (show.shown_name draws way.0) (show.shown_name draws (Object v i))) (sym m.before) way.2,
          subst (λ ls. text.IsTold ls (text.Audition (show.shown_name draws (Object v i)))) (sym m.before) (audition_told q.6 i q.7 (subst (λ z. IsAmong (AuditionMade q.6 q.7) z) (sym d.1) (among_more (AuditionMade q.6 q.7) q.1 d.0 q.8)) q.9),
        )

    begun_is : o.call.begun ≡ c.begun
    begun_is = ap (λ (z : ShownCall). z.begun) m.call

    given_back : (b : Option ℕ) → c.begun ≡ b → GivenBack (names script v) H s.line.so c.caller c.receiver c.verb b x → KnowsName Past (v + 1) (unwrap_or o.call.begun a) n ⊎ AsksAudition (v + 1) o
    given_back (Some b) q g = inl (subst (λ z. KnowsName Past (v + 1) (unwrap_or z a) n) (sym (begun_is ∙ q)) (known_name b n e g))
    given_back None q (inl g) = inl (subst (λ z. KnowsName Past (v + 1) (unwrap_or z a) n) (sym (begun_is ∙ q)) (known_name a n e (subst (λ z. known.Knows (names script v) H s.line.so z (AValue x)) (sym caller) g)))
    given_back None q (inr g) = inr (by_audition g.2 g.3 g.0)

    innermost : (os : List OpenCall) → Of (o ∷ os) ≡ o ∷ Of os
    innermost os = ap (λ b. if b then o ∷ Of os else Of os) (eq-eqb o.call.activation a (ap (λ (z : ShownCall). z.activation) m.call ∙ sym caller))

  gives_back : (n : ShownName) → name_of (show.shown_value draws v x) ≡ Some n → Gives n (open_calls Past (v + 1) a)
  gives_back n e = go open_so.0 open_so.1.0 open_so.1.1 (open_so.1.2 a) (subst (BackWell (names script v) H s.line.so a x) open_so.3 then_so.3)
    where
      go : (cs : List (Open Name)) (os : List OpenCall) → AllMatch draws s.line.links v Pre s.line.so [] cs os → open_calls Past (v + 1) a ≡ Of os → BackWell (names script v) H s.line.so a x cs → Gives n (open_calls Past (v + 1) a)
      go [] os m q w = absurd w
      go (c ∷ cs) [] m q w = absurd m
      go (c ∷ cs) (o ∷ os) m q w = subst (Gives n) (sym (q ∙ innermost n e c o m.0 w.0 os)) (given_back n e c o m.0 w.0 c.begun refl w.1)

-- ---- lines

module _ (draws : List ℕ) (v : ℕ) (past : List Line) (place : place_of past ≡ v + 1) where
  send_gives : (a : ℕ) (m : Message Name) (o : Option Name) → One BackKnown past (show.shown_send draws v a m o ∷ [])
  unfolding show.shown_send
  send_gives a m (Some p) = λ b y n q r. cc
  send_gives a m None = λ b y n q r. cc

  reaction_gives : (a : ℕ) (x y : Value Name) (m : Message Name) (o : Option Name) → One BackKnown past (show.shown_reaction draws v a x y m o)
  unfolding show.shown_reaction
  reaction_gives a x y m (Some p) = λ b z n q r. cc
  reaction_gives a x y m None = tt

  back_of : (a b : ℕ) (x : Value Name) (y : Shown) → event.Back a (show.shown_value draws v x) ≡ event.Back b y → (a ≡ b) × (show.shown_value draws v x ≡ y)
  back_of a b x y q = (cc, cc)

  happened_gives : (e : Happened Name) → ((a : ℕ) (x : Value Name) → e ≡ Back a x → (n : ShownName) → name_of (show.shown_value draws v x) ≡ Some n → GivesBack past (v + 1) a n (open_calls past (v + 1) a)) → One BackKnown past (show.shown_happened draws v e)
  unfolding show.shown_happened place_after
  happened_gives (Back a x) f = λ b y n q r. let i = back_of a b x y q in subst (λ z. GivesBack past z b n (open_calls past z b)) (sym place) (subst (λ z. GivesBack past (v + 1) z n (open_calls past (v + 1) z)) i.0 (f a x refl n (ap name_of i.1 ∙ r)))
  happened_gives (Sends a m) f = send_gives a m m.answer
  happened_gives (Reacts a x o m) f = reaction_gives a x o m m.answer
  happened_gives (Posted w m) f = tt
  happened_gives _ f = λ b y n q r. cc

module _ (draws : List ℕ) (script : Script) (apart : IsShownApart script draws) where
  own_gives : (v : ℕ) (e : Happened Name) (h k : List Event) → history_of (world.run script) ≡ h ++ Here v e ∷ k → Stood script v e h → One BackKnown (lines draws h) (show.shown_happened draws v e)
  own_gives v e h k is s = happened_gives draws v (lines draws h) (placed_line script draws v e h k is) e (λ a x q. back v e h k is s a x q)
    where
      back : (v : ℕ) (e : Happened Name) (h k : List Event) → history_of (world.run script) ≡ h ++ Here v e ∷ k → Stood script v e h → (a : ℕ) (x : Value Name) → e ≡ Back a x → (n : ShownName) → name_of (show.shown_value draws v x) ≡ Some n
          → GivesBack (lines draws h) (v + 1) a n (open_calls (lines draws h) (v + 1) a)
      back v e h k is s a x q n r = let t = subst (λ z. Stood script v z h) q s in
          subst (λ es. GivesBack (lines draws es) (v + 1) a n (open_calls (lines draws es) (v + 1) a)) (sym t.place) (gives_back script v a x h k t draws apart (is ∙ ap (λ z. h ++ Here v z ∷ k) q) n r)

  pub calls_give_back : CallsGiveBackKnown script draws
  calls_give_back = text_holds draws BackKnown script (λ past e f n i a x m q r. absurd ((quiet_uses draws e f n i).1 a x q)) own_gives

pub calls_give_back_what_is_known : CallsGiveBackWhatIsKnown
calls_give_back_what_is_known script draws apart = calls_give_back draws script apart
