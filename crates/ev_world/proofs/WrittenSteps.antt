-- What is written once a step has ended is the lines of the run so far.
use Rattle.std.proofs.Common.{◌≡◌, ℕ, Bool, true, false, List, [], ◌++◌, Option, refl, sym, ap, subst, ◌∙◌, append_assoc}
use Rattle.std.specs.Io.KnownBytes.{Appends}
use Rattle.std.proofs.KnownBytes.{Appends-trans}
use Rattle.def_event.specs.Lines.{render}
use Rattle.def_event.specs.declared.event.Event.{Event as ShownEvent}
use Rattle.std.specs.Prelude.{slice_get}
use Rattle.def_run.specs.Numbers.{Course, Runs, Halts, Vats, open_member, ready, step}
use Rattle.def_machine.specs.State as machine
use Rattle.def_machine.specs.Values.{Words}
use Rattle.def_run.specs.Text.{shown_events, vat_names}
use Rattle.def_run.specs.World.{Entry, Event, Program, Script, Turn, Carry, CutLink, NoticeLink}
use Rattle.ev_step_text.specs.Accounts.{IsAccount}
use Rattle.ev_step_text.specs.declared.account.Account.{Account}
use Rattle.ev_ways.proofs.Cuts.{shown_join}
use Rattle.ev_resident.specs.declared.VatStop.{VatStop}
use Rattle.ev_resident.specs.declared.VatStop.TheVariants.{Fuel, Deep, WordRepeated, Astray, Memory}
use Rattle.ev_world.specs.Standing.{Comes, HaltsAs, HaltsWith, IsWorld, told_so}
use Rattle.ev_world.specs.Writing.{AppendsFront, IsBehind, IsStep, IsWritten, StopsAs, StopsWith, text_at, text_to, untold}
use Rattle.ev_world.specs.declared.world.World.{World}
use Rattle.ev_world.specs.Steadily.{OpensSteadily, StepsSteadily}
use Rattle.ev_world.proofs.Fronts.{step_text, text_append}
use Rattle.ev_world.proofs.Untold.{open_behind, step_behind}
use Rattle.def_run.specs.Steady.{EntryIsSteady, ShownAlike}

-- ---- with what was told before

runs_are : (x y : Vats) → Runs x ≡ Runs y → x ≡ y
runs_are x y e = cc

-- the state, with what the first one told before it
abbrev pub behind : Vats → Vats → Vats
behind w x = record x { history = w.history ++ x.history }

pub behind_runs : (w : Vats) (c d : Course) (x : Vats) → IsBehind w c d → d ≡ Runs x → c ≡ Runs (behind w x)
behind_runs w (Runs y) (Runs z) x e f = ap Runs (e ∙ ap (behind w) (runs_are z x f))
behind_runs w (Halts s k y) (Halts t j z) x e f = absurd cc
behind_runs w (Runs y) (Halts t j z) x e f = absurd e
behind_runs w (Halts s k y) (Runs z) x e f = absurd e

-- a state of the same lines
abbrev SameLines : Vats → Vats → Type 0
SameLines w y = (y.drawn ≡ w.drawn) × (y.history ≡ w.history)

halts_as : (c d s : machine.Stop) (k j n : ℕ) (y z x : Vats) → c ≡ d → k ≡ j → Halts d j z ≡ Halts s n x → Halts c k y ≡ Halts s n y
halts_as c d s k j n y z x e f g = cc

behind_halts : (w : Vats) (c d : Course) (s : machine.Stop) (n : ℕ) (x : Vats) → IsBehind w c d → d ≡ Halts s n x → (y : Vats) × (c ≡ Halts s n y) × (SameLines w y)
behind_halts w (Runs y) (Runs z) s n x e f = absurd cc
behind_halts w (Halts c k y) (Halts d j z) s n x (stops, steps, drawn, history) f = (y, halts_as c d s k j n y z x stops steps f, (drawn, history))
behind_halts w (Runs y) (Halts d j z) s n x e f = absurd e
behind_halts w (Halts c k y) (Runs z) s n x e f = absurd e

-- ---- texts

text_behind : (names : List Words) (wire : Bool) (w x : Vats) → shown_events x.drawn w.history ≡ shown_events w.drawn w.history
    → text_at names wire (behind w x) ≡ text_at names wire w ++ render names (told_so wire (shown_events x.drawn x.history))
text_behind names wire w x alike =
    ap (λ (es : List ShownEvent). render names (told_so wire es)) (shown_join x.drawn w.history x.history ∙ ap (λ (es : List ShownEvent). es ++ shown_events x.drawn x.history) alike)
    ∙ text_append names wire (shown_events w.drawn w.history) (shown_events x.drawn x.history)

same_text : (names : List Words) (wire : Bool) (w y : Vats) → SameLines w y → text_at names wire w ≡ text_at names wire y
same_text names wire w y (drawn, history) =
    ap (λ (ds : List ℕ). render names (told_so wire (shown_events ds w.history))) (sym drawn) ∙ ap (λ (es : List Event). render names (told_so wire (shown_events y.drawn es))) (sym history)

-- what a step that went on came to, and its text
pub went_on : (S : Script) (names : List Words) (wire : Bool) (w : Vats) (course alone : Course) (told : List ShownEvent) → IsStep w course alone
    → Comes (λ (x : Vats). told ≡ told_so wire (shown_events x.drawn x.history)) alone → (x : Vats) × (alone ≡ Runs x) × (course ≡ Runs (behind w x)) × (text_at names wire (behind w x) ≡ text_at names wire w ++ render names told)
went_on S names wire w course alone told (e, alike) (x, (runs, said)) =
    let is : course ≡ Runs (behind w x) = behind_runs w course alone x e runs in (
      x,
      runs,
      is,
      text_behind names wire w x (alike (behind w x) is) ∙ ap (λ (es : List ShownEvent). text_at names wire w ++ render names es) (sym said),
    )

-- a front of what a step tells, behind what was written before
pub front_behind : (held mid after : Option (List ℕ)) (first more whole : List ℕ) → Appends held mid first → whole ≡ first ++ more → AppendsFront mid after more → AppendsFront held after whole
front_behind held mid after first more whole before is (t, appends, (rest, e)) =
    (first ++ t, Appends-trans held mid after first t before appends, (rest, is ∙ ap (λ (xs : List ℕ). first ++ xs) e ∙ sym (append_assoc first t rest)))

-- ---- the code

none_told : (wire : Bool) (ds : List ℕ) → [] ≡ told_so wire (shown_events ds [])
unfolding shown_events
none_told true ds = refl
none_told false ds = refl

-- the code holds the same once it let go of its lines
still_world : (S : Script) (w x : Vats) (c : World) (left : Account) → IsAccount (vat_names S) left [] → IsWorld S x c → IsWorld S (untold (behind w x)) (record c { history = left })
still_world S w x c left none at = record {
  fuel = at.fuel;
  key = at.key;
  drawn = at.drawn;
  depth = at.depth;
  count = at.count;
  members = at.members;
  residents = λ u m r e f.
      let q = at.residents u m r e f in
      record { member = q.member; ready = q.ready; key = q.key; names = q.names; objects = q.objects };
  rooms = at.rooms;
  programs = at.programs;
  nouns = at.nouns;
  ways = at.ways;
  history = subst (λ (es : List ShownEvent). IsAccount (vat_names S) left es) (none_told c.wire x.drawn) none;
}

module _ (S : Script) (held mid : Option (List ℕ)) (w : Vats) (course alone : Course) (c : World) (before : Appends held mid (text_at (vat_names S) c.wire w)) (is : IsStep w course alone) where
  abbrev names : List Words
  names = vat_names S

  -- what it told was written
  pub step_goes : (after : Option (List ℕ)) (left : Account) → ((es : List ShownEvent) → IsAccount names c.history es → IsAccount names left []) → Comes (λ (x : Vats). IsWorld S x c) alone
      → ((es : List ShownEvent) → IsAccount names c.history es → Appends mid after (render names es))
      → Comes (λ (y : Vats). IsWritten S names c.wire held after y (record c { history = left })) course
  step_goes after left cleared (x, (runs, at)) written =
      let said : List ShownEvent = told_so c.wire (shown_events x.drawn x.history) in
      let none : IsAccount names left [] = cleared said at.history in
      let more : Appends mid after (render names said) = written said at.history in
      let went = went_on S names c.wire w course alone said is (x, (runs, refl)) in
      let same : went.0 ≡ x = runs_are went.0 x (sym went.1 ∙ runs) in
      let text : text_at names c.wire (behind w x) ≡ text_at names c.wire w ++ render names said =
      subst (λ (v : Vats). text_at names c.wire (behind w v) ≡ text_at names c.wire w ++ render names said) same went.3 in (
        behind w x,
        (
          subst (λ (v : Vats). course ≡ Runs (behind w v)) same went.2,
          record {
            world = still_world S w x c left none at;
            written = subst (λ (t : List ℕ). Appends held after t) (sym text) (Appends-trans held mid after (text_at names c.wire w) (render names said) before more);
          },
        ),
      )

  -- what it told was not written to its end
  pub step_cut : (after : Option (List ℕ)) → Comes (λ (x : Vats). IsWorld S x c) alone → ((es : List ShownEvent) → IsAccount names c.history es → AppendsFront mid after (render names es)) → AppendsFront held after (text_to names c.wire course)
  step_cut after (x, (runs, at)) written =
      let said : List ShownEvent = told_so c.wire (shown_events x.drawn x.history) in
      let more : AppendsFront mid after (render names said) = written said at.history in
      let went = went_on S names c.wire w course alone said is (x, (runs, refl)) in
      front_behind held mid after (text_at names c.wire w) (render names said) (text_to names c.wire course) before (ap (text_to names c.wire) went.2 ∙ went.3) more

  step_stopped : (s : machine.Stop) (k : ℕ) → HaltsWith s k c.wire alone c.history → StopsWith s k names c.wire held mid course
  step_stopped s k (x, (halts, said)) =
      let h = behind_halts w course alone s k x is.0 halts in
      (h.0, h.1, subst (λ (t : List ℕ). Appends held mid t) (same_text names c.wire w h.0 h.2) before)

  -- it stopped
  pub step_stops : (stop : VatStop) (k : ℕ) → HaltsAs stop k c.wire alone c.history → StopsAs stop k names c.wire held mid course
  step_stops Fuel k h = step_stopped machine.Fuel k h
  step_stops Deep k h = step_stopped machine.Deep k h
  step_stops (WordRepeated i j) k h = step_stopped (machine.Repeated i j) k h
  step_stops Astray k h = step_stopped machine.Astray k h
  step_stops Memory k h = (text_at names c.wire w, before, step_text names c.wire w course alone is)

-- ---- what is asked of a step is asked of it whatever was told before

alike_untold : (w x : Vats) → ShownAlike w.drawn (behind w x).drawn w → ShownAlike (untold w).drawn x.drawn (untold w)
unfolding shown_events
alike_untold w x alike = record { history = refl; names = alike.names; frames = alike.frames }

pub untold_opens : (S : Script) (u : ℕ) (p : Program) (w : Vats) → OpensSteadily S u p w → OpensSteadily S u p (untold w)
unfolding ready
untold_opens S u p w fine = record {
  steady = fine.steady;
  shown = λ x e. alike_untold w x (fine.shown (behind w x) (behind_runs w (open_member S u p w (slice_get w.members u)) (open_member S u p (untold w) (slice_get w.members u)) x (open_behind S u p w (slice_get w.members u)) e));
}

entry_untold : (S : Script) (e : Entry) (w : Vats) → EntryIsSteady S w e → EntryIsSteady S (untold w) e
unfolding ready
entry_untold S (Turn u) w h = h
entry_untold S (Carry v u) w h = h
entry_untold S (CutLink v u) w h = h
entry_untold S (NoticeLink v u) w h = h

pub untold_steps : (S : Script) (e : Entry) (k : ℕ) (w : Vats) → StepsSteadily S e k w → StepsSteadily S e k (untold w)
untold_steps S e k w fine = record {
  steady = entry_untold S e w fine.steady;
  shown = λ x s. alike_untold w x (fine.shown (behind w x) (behind_runs w (step S e k w) (step S e k (untold w)) x (step_behind S e k w) s));
}
