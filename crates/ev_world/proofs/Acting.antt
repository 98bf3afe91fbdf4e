-- What a step of a vat came to in the code, in the run in numbers.
use Rattle.std.proofs.Common.{◌≡◌, inl, inr, ℕ, Bool, ◌<◌, List, [], ◌++◌, Option, Some, None, Result, Ok, Err, get_or, length, refl, sym, ap, subst, ◌∙◌}
use Rattle.std.specs.Prelude.{IsErr, IsErrAnd, filter, slice_get, slice_set}
use Rattle.std.proofs.lemmas.List.{length-set}
use Rattle.def_event.specs.Lines.{is_no_frame}
use Rattle.def_event.specs.declared.event.Event.{Event as ShownEvent}
use Rattle.def_run.specs.Numbers.{Brought, Course, Runs, Vats, Way, after_step, left_by, nothing_brought, numbers, ready}
use Rattle.def_run.specs.Vats.{Member, connection_for, unconnected}
use Rattle.def_machine.specs.State as machine
use Rattle.def_machine.specs.State.{Done, Gives}
use Rattle.def_machine.specs.Values.{Local, numbering}
use Rattle.def_run.specs.Draws.{draw_word, stream_word}
use Rattle.def_run.specs.Text.{shown_events, vat_names}
use Rattle.def_run.specs.World.{Event, Script}
use Rattle.ev_base.specs.declared.names.Msg.{Msg}
use Rattle.ev_intro.specs.Word.{Drawn, number_at, word}
use Rattle.ev_resident.specs.MemberStanding.{with_draws}
use Rattle.ev_resident.specs.MemberSteps.{EndsSo, Having, IsDone, IsSteady, Leaves, own}
use Rattle.ev_resident.specs.declared.Member.{Member as Ours}
use Rattle.ev_resident.specs.declared.Sending.{Sending}
use Rattle.ev_resident.specs.Names.{Entry, Named, carried_mails, told_at}
use Rattle.ev_resident.specs.NamesStanding.{Says, mails_of}
use Rattle.def_run.specs.Names as local
use Rattle.ev_resident.specs.OutcomeStanding.{NamesStand, ObjectsStand}
use Rattle.ev_pass.specs.Reading.{names_under}
use Rattle.ev_resident.specs.Standing.{IsResident, IsStepped}
use Rattle.ev_resident.specs.declared.resident.Resident.{Resident}
use Rattle.ev_resident.specs.Vat.{IsReady, StopsWith}
use Rattle.ev_resident.specs.declared.VatStop.{VatStop}
use Rattle.ev_resident.specs.declared.VatStop.TheVariants.{Fuel, Deep, WordRepeated, Astray, Memory}
use Rattle.ev_step_text.specs.Accounts.{IsAccount, More, Recounts}
use Rattle.ev_step_text.specs.declared.account.Account.{Account}
use Rattle.ev_ways.specs.Rows.{Lane}
use Rattle.ev_ways.specs.Standing.{WaysStand}
use Rattle.ev_ways.proofs.Cuts.{shown_join}
use Rattle.ev_world.specs.Exporting.{AreCounted}
use Rattle.ev_world.specs.Midway.{IsActing, IsMidway, drawn_now, having_of}
use Rattle.ev_world.specs.Standing.{Comes, CourseIs, HaltsAs, IsWorld, told_so}
use Rattle.ev_world.specs.declared.world.World.{World}
use Rattle.ev_world.proofs.Cuts.{says_behind}
use Rattle.ev_world.proofs.Objects.{exports_are, is_within, same_or_not, set_other, set_there}
use Rattle.ev_world.proofs.Pushes.{history_alike, ways_alike}
use Rattle.ev_world.proofs.Telling.{only, stands}
use Rattle.def_run.specs.Steady.{ShownAlike, StepIsSteady}

-- ---- stops

-- a stop of the code is one of the machine
abbrev pub StopsAs : VatStop → Done Local (Unit {0}) → Type 0
StopsAs Fuel d = StopsWith machine.Fuel d
StopsAs Deep d = StopsWith machine.Deep d
StopsAs (WordRepeated i j) d = StopsWith (machine.Repeated i j) d
StopsAs Astray d = StopsWith machine.Astray d
StopsAs Memory d = Unit {0}

pub stop_is : {A : Type 0} (m : Member) (b : Having) (read : A → List Sending) (e : VatStop) (c : Ours) (d : Done Local (Unit {0})) → EndsSo m b read (Err e) c d → StopsAs e d
stop_is m b read Fuel c d h = h
stop_is m b read Deep c d h = h
stop_is m b read (WordRepeated i j) c d h = h
stop_is m b read Astray c d h = h
stop_is m b read Memory c d h = tt

pub stop_halts : (e : VatStop) (w : Vats) (u : ℕ) (head : List Event) (k : ℕ) (m : Member) (f : machine.Vat Local → Brought) (d : Done Local (Unit {0})) (wire : Bool) (told : Account) → StopsAs e d
    → Recounts told (told_so wire (shown_events w.drawn w.history)) → HaltsAs e k wire (after_step w u head k m f d) told
unfolding after_step
stop_halts Fuel w u head k m f d wire told h e = (w, (ap (λ (x : Done Local (Unit {0})). after_step w u head k m f x) h.1, e))
stop_halts Deep w u head k m f d wire told h e = (w, (ap (λ (x : Done Local (Unit {0})). after_step w u head k m f x) h.1, e))
stop_halts (WordRepeated i j) w u head k m f d wire told h e = (w, (ap (λ (x : Done Local (Unit {0})). after_step w u head k m f x) h.1, e))
stop_halts Astray w u head k m f d wire told h e = (w, (ap (λ (x : Done Local (Unit {0})). after_step w u head k m f x) h.1, e))
stop_halts Memory w u head k m f d wire told h e = tt

-- a stop goes out as it came
stop_goes : {A : Type 0} (r : Result A VatStop) (e : VatStop) → IsErr r × IsErrAnd r (λ (x : VatStop). x ≡ e) → r ≡ Err e
stop_goes (Ok a) e h = absurd h.1
stop_goes (Err x) e h = ap (λ (y : VatStop). Err y) h.1

pub stops_with : (S : Script) (r : Result (Unit {0}) VatStop) (e : VatStop) (k : ℕ) (course : Course) (c : World) → IsErr r × IsErrAnd r (λ (x : VatStop). x ≡ e) → HaltsAs e k c.wire course c.history → CourseIs S r k course c
stops_with S r e k course c is halts = subst (λ (x : Result (Unit {0}) VatStop). CourseIs S x k course c) (sym (stop_goes r e is)) halts

-- ---- the vat as a step finds it

-- a vat that is in the code is in the run
pub receiver : (S : Script) (w : Vats) (u : ℕ) (c : World) (r : Resident) → IsWorld S w c → slice_get c.residents.items u ≡ Some r → (m : Member) × (slice_get w.members u ≡ Some m)
receiver S w u c r at found = stands w.members u (subst (λ (n : ℕ). u < n) (at.count ∙ sym at.members) (is_within c.residents.items u r found))

-- the words that a run draws are those that the code draws
words_are : (key : List ℕ) → word key ≡ draw_word key
unfolding draw_word stream_word number_at
words_are key = refl

pub numbers_are : (S : Script) (key : List ℕ) → key ≡ S.key → names_under key ≡ numbers S
unfolding numbers
numbers_are S key e = ap (λ (k : List ℕ). names_under k) e ∙ ap (λ (f : ℕ → ℕ). numbering {W = Local} f) (words_are S.key)

pub ready_is : (w : Vats) (fuel : ℕ) (drawn : List ℕ) (s : machine.Vat Local) → fuel ≡ w.fuel → drawn ≡ w.drawn → with_draws fuel drawn s ≡ ready w s
unfolding ready
ready_is w fuel drawn s e f = ap (λ (n : ℕ). with_draws n drawn s) e ∙ ap (λ (ds : List ℕ). with_draws w.fuel ds s) f

-- nothing is told of any number
pub says_nothing : (d : Drawn) → Says d [] []
unfolding told_at local.told_at
says_nothing d = λ k. refl

-- ---- midway

-- In the code the vat of number u took a step: r became q, which has its frames and lines still to be told, and has the run's words.
pub record Took (u : ℕ) (before : List ℕ) (c e : World) (r q : Resident) : Type 0 where
  pub found : slice_get c.residents.items u ≡ Some r
  pub counted : AreCounted r.member (length c.residents.items) before
  pub residents : e.residents.items ≡ slice_set c.residents.items u q
  pub words : e.words ≡ r.member.vat.host.inside.words
  pub names : q.names ≡ r.names
  pub ready : IsReady q.member.vat
  pub key : r.member.vat.stopped ≡ None → q.member.vat.host.inside.words.key ≡ c.words.key
  pub limits : e.limits.depth ≡ c.limits.depth
  pub programs : e.programs.items ≡ c.programs.items
  pub nouns : e.nouns.items ≡ c.nouns.items
  pub wire : e.wire ≡ c.wire

module _ (S : Script) (w : Vats) (u : ℕ) (m : Member) (b : Brought) (s : machine.Vat Local) (before : List ℕ) (xs : List Sending) (carried : Option Msg) (told : List Entry) (c e : World) (r q : Resident) (at : IsWorld S w c) (here : slice_get w.members u ≡ Some m)
    (took : Took u before c e r q) (stepped : IsStepped (having_of b) s xs q.member) (alike : ShownAlike w.drawn s.drawn w) (says : Says q.member.vat.host.inside.words told b.told) where
  abbrev was : IsResident S w u m r
  was = at.residents u m r here took.found

  names_move : (h : ℕ) (n : Member) (x : Resident) → slice_get w.members h ≡ Some n → NamesStand w.drawn h n.vat n.names x.names → NamesStand s.drawn h n.vat n.names x.names
  names_move h n x i is = record { vat = is.vat; names = is.names ∙ sym (alike.names h n i); mails = is.mails; counts = is.counts }

  acts : IsActing S w u m b s xs told q
  acts = record {
    stepped = stepped;
    ready = took.ready;
    key = took.key was.member.rest.going ∙ at.key;
    names = subst (λ (n : Named). NamesStand s.drawn u m.vat m.names n) (sym took.names) (names_move u m r here was.names);
    objects = subst (λ (n : Named). ObjectsStand w.members u n.naming.objects) (sym took.names) was.objects;
    room = ap (λ (n : Named). length n.naming.objects) took.names ∙ at.rooms u r took.found;
    says = says;
  }

  here_now : slice_get e.residents.items u ≡ Some q
  here_now = ap (λ (rs : List Resident). slice_get rs u) took.residents ∙ set_there c.residents.items u q (is_within c.residents.items u r took.found)

  there_still : (h : ℕ) (x : Resident) → (u ≡ h → ⊥) → slice_get e.residents.items h ≡ Some x → slice_get c.residents.items h ≡ Some x
  there_still h x ne f = sym (ap (λ (rs : List Resident). slice_get rs h) took.residents ∙ set_other c.residents.items u h q ne) ∙ f

  other_is : (h : ℕ) (n : Member) (x : Resident) → slice_get w.members h ≡ Some n → IsResident S w h n x → IsResident S (drawn_now s.drawn w) h n x
  other_is h n x i is = record { member = is.member; ready = is.ready; key = is.key; names = names_move h n x i is.names; objects = is.objects }

  room_is : (h : ℕ) (x : Resident) → slice_get e.residents.items h ≡ Some x → length x.names.naming.objects ≡ length S.vats
  room_is h x f = elim (same_or_not u h) as (λ _. length x.names.naming.objects ≡ length S.vats) [
    | inl i ↦ subst (λ (z : Resident). length z.names.naming.objects ≡ length S.vats) (only here_now (ap (slice_get e.residents.items) i ∙ f)) acts.room
    | inr ne ↦ at.rooms h x (there_still h x ne f)
  ]

  -- so is the state that has these ways and told those events
  pub midway_is : (ls : List Way) (head : List Event) → mails_of (carried_mails carried) ≡ b.carried → ((h : ℕ) → (get_or b.connections h unconnected).exports ≡ (connection_for h m).exports) → WaysStand s.drawn (length S.vats) ls e.ways
      → IsAccount (vat_names S) e.history (told_so e.wire (shown_events s.drawn (w.history ++ head))) → IsMidway S (record w { ways = ls }) u m head b s before xs carried told e
  midway_is ls head mails same stand lines = record {
    here = here;
    own = λ x f. let a : IsActing S w u m b s xs told x = subst (λ (z : Resident). IsActing S w u m b s xs told z) (only here_now f) acts in
        record { stepped = a.stepped; ready = a.ready; key = a.key; names = a.names; objects = a.objects; room = a.room; says = a.says };
    others = λ h n x ne i f. let is = other_is h n x i (at.residents h n x i (there_still h x ne f)) in
        record { member = is.member; ready = is.ready; key = is.key; names = is.names; objects = is.objects };
    rooms = room_is;
    mails = mails;
    exports = same;
    counts = λ h less. took.counted.each h (subst (λ (k : ℕ). h < k) (sym at.count) less) ∙ exports_are h m r.member was.member.rest.connections;
    key = ap (λ (d : Drawn). d.key) took.words ∙ was.key;
    depth = took.limits ∙ at.depth;
    count = ap length took.residents ∙ length-set c.residents.items u q ∙ at.count;
    members = at.members;
    programs = took.programs ∙ at.programs;
    nouns = took.nouns ∙ at.nouns;
    ways = stand;
    history = lines;
  }

-- lines that are no frames, behind those before
pub lines_behind : (S : Script) (w : Vats) (c e : World) (ds : List ℕ) (head : List Event) (lines : List ShownEvent) → IsWorld S w c → ShownAlike w.drawn ds w → e.wire ≡ c.wire → shown_events ds head ≡ lines → filter is_no_frame lines ≡ lines
    → More c.history e.history lines → IsAccount (vat_names S) e.history (told_so e.wire (shown_events ds (w.history ++ head)))
lines_behind S w c e ds head lines at alike wire is plain more =
    subst (λ (v : Bool). IsAccount (vat_names S) e.history (told_so v (shown_events ds (w.history ++ head)))) (sym wire)
    (subst (λ (es : List ShownEvent). IsAccount (vat_names S) e.history (told_so c.wire es))
    (ap (λ (es : List ShownEvent). shown_events ds w.history ++ es) (sym is) ∙ sym (shown_join ds w.history head))
    (says_behind (vat_names S) c.wire c.history e.history (shown_events ds w.history) lines (history_alike S w c ds alike at) plain more))

-- ---- steps that no note brought

pub own_comes : (S : Script) (w : Vats) (u : ℕ) (m : Member) (head : List Event) (k : ℕ) (d : Done Local (Unit {0})) (course : Course) (before : List ℕ) (xs : List Sending) (c mid e : World) (r q : Resident) (lines : List ShownEvent) → IsWorld S w c → slice_get w.members u ≡ Some m
    → Took u before c mid r q → mid.ways ≡ c.ways → More c.history mid.history lines → ((ds : List ℕ) → shown_events ds head ≡ lines) → filter is_no_frame lines ≡ lines
    → course ≡ after_step w u head k m (λ s. nothing_brought m) d → ((s : machine.Vat Local) → d ≡ Gives tt s → StepIsSteady m m.connections s) → ((y : Vats) → course ≡ Runs y → ShownAlike w.drawn y.drawn w)
    → (s : machine.Vat Local) × (IsDone s q.member d × (IsSteady m (own m) s → Leaves (own m) s xs q.member))
    → ((s : machine.Vat Local) → IsMidway S w u m head (nothing_brought m) s before xs None [] mid → IsWorld S (left_by w u head m (nothing_brought m) s) e) → Comes (λ (y : Vats). IsWorld S y e) course
unfolding after_step nothing_brought left_by
own_comes S w u m head k d course before xs c mid e r q lines at here took ways more shown plain is steady alikes done finished =
    let s : machine.Vat Local = done.0 in
    let runs : course ≡ Runs (left_by w u head m (nothing_brought m) s) = is ∙ ap (λ (x : Done Local (Unit {0})). after_step w u head k m (λ t. nothing_brought m) x) done.1.0.gives in
    let alike : ShownAlike w.drawn s.drawn w = alikes (left_by w u head m (nothing_brought m) s) runs in
    let fine : StepIsSteady m m.connections s = steady s done.1.0.gives in
    let stepped : IsStepped (having_of (nothing_brought m)) s xs q.member = record { vat = done.1.0.vat; leaves = done.1.1 (record { owns = fine.owns; asks = fine.asks }) } in (
      left_by w u head m (nothing_brought m) s,
      (
        runs,
        finished s (midway_is S w u m (nothing_brought m) s before xs None [] c mid r q at here took stepped alike (says_nothing q.member.vat.host.inside.words) w.ways head refl
            (λ h. unfold connection_for in refl)
            (subst (λ (rows : List (List Lane)). WaysStand s.drawn (length S.vats) w.ways rows) (sym ways) (ways_alike S w c s.drawn alike at))
            (lines_behind S w c mid s.drawn head lines at alike took.wire (shown s.drawn) plain more)),
      ),
    )
