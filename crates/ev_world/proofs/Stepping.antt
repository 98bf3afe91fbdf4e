-- What the steps of a vat come to, as the code takes them, in the run in numbers.
use Rattle.std.proofs.Common.{◌≡◌, ◌<◌, ℕ, zero, suc, List, [], ◌∷◌, ◌++◌, Option, Some, None, Result, Ok, Err, refl, sym, ap, subst, ◌∙◌}
use Rattle.std.specs.Prelude.{slice_get, slice_set}
use Rattle.def_event.specs.declared.event.Event.TheVariants as line
use Rattle.def_kernel.specs.declared.node.Node.{Node}
use Rattle.def_run.specs.Numbers.{Course, Runs, Vats, idle, left_by, nothing_brought, open_member, step, step_number, turn, turn_queue}
use Rattle.def_run.specs.Vats.{Member}
use Rattle.def_machine.specs.Eval.{opening, taking}
use Rattle.def_machine.specs.Arrive as arriving
use Rattle.def_machine.specs.State as machine
use Rattle.def_machine.specs.State.{Done, Message}
use Rattle.def_machine.specs.Values.{Local, Prom, Words}
use Rattle.def_run.specs.Shown.{shown_event}
use Rattle.def_run.specs.Text.{shown_events, vat_names}
use Rattle.def_run.specs.World.{Event, Idle, NoticeLink, NoticedAt, Opens, Program, Script, Turn, Turned}
use Rattle.ev_room.specs.Reading.{roots_from}
use Rattle.ev_resident.specs.MemberStanding.{IsFound, IsMember, with_draws}
use Rattle.ev_resident.specs.MemberSteps.{Steps, Turns, own}
use Rattle.ev_resident.specs.declared.Member.{Member as Ours}
use Rattle.ev_resident.specs.declared.Sending.{Sending}
use Rattle.ev_pass.specs.Acts.{words_by}
use Rattle.ev_pass.specs.Reading.{names_under}
use Rattle.ev_resident.specs.Standing.{IsResident}
use Rattle.ev_resident.specs.declared.resident.Resident.{Resident}
use Rattle.ev_resident.specs.declared.VatStop.{VatStop}
use Rattle.ev_step_text.specs.Accounts.{More}
use Rattle.ev_world.specs.Midway.{IsMidway}
use Rattle.ev_world.specs.Standing.{Comes, HaltsAs, IsWorld}
use Rattle.ev_world.specs.Steadily.{OpensSteadily, StepsSteadily}
use Rattle.ev_world.specs.declared.world.World.{World}
use Rattle.ev_world.proofs.Acting.{Took, own_comes, receiver, stop_halts, stop_is}
use Rattle.ev_world.proofs.Left.{IsRested}
use Rattle.ev_world.proofs.Objects.{is_within}
use Rattle.ev_world.proofs.Opening.{noticed, notices, notices_steady, opened, opens, opens_steady}
use Rattle.ev_world.proofs.Telling.{stands}
use Rattle.ev_world.proofs.Turning.{TakesOne, idles, takes, turn_halts, turns, turns_none, turns_some, turns_steady}

-- ---- what the code calls

-- The call that takes the step from that state answers so, whatever member the vat is.
abbrev pub Answers : World → Resident → (Member → Type 0) → Type 0
Answers c r is = (m : Member) → c.words.key ≡ r.member.vat.host.inside.words.key → IsMember m r.member → is m

-- From midway the rest of the step of vat u, of that head line, comes to this state.
abbrev pub Finishes : Script → Vats → ℕ → List Event → List ℕ → List Sending → World → World → Type 0
Finishes S w u head before xs mid e =
    (m : Member) (s : machine.Vat Local) → IsMidway S w u m head (nothing_brought m) s before xs None [] mid → IsWorld S (left_by w u head m (nothing_brought m) s) e

answered : (S : Script) (w : Vats) (u : ℕ) (m : Member) (c : World) (r : Resident) (is : Member → Type 0) → IsWorld S w c → slice_get w.members u ≡ Some m → slice_get c.residents.items u ≡ Some r → Answers c r is → is m
answered S w u m c r is at here found call = let was : IsResident S w u m r = at.residents u m r here found in call m (at.key ∙ sym was.key) was.member

-- ---- the opening turn

-- of this program, with these nouns
abbrev pub OpensSo : {A : Type 0} → World → List Node → List Words → (A → List Sending) → Result A VatStop → Ours → Member → Type 0
OpensSo {A} c t vs read answer q m = Steps {A = A} c.fuel (words_by c.words.key c.words.count) m (own m) read answer q (opening (names_under c.words.key) t c.limits.depth (Prom 0) (roots_from 1 vs))

module _ (S : Script) (w : Vats) (u : ℕ) (p : Program) (c : World) (r : Resident) (x : List Node) (ns : List Words) (t : List Node) (vs : List Words) (there : slice_get S.vats u ≡ Some p) (at : IsWorld S w c) (found : slice_get c.residents.items u ≡ Some r)
    (program : slice_get c.programs.items u ≡ Some x) (nouns : slice_get c.nouns.items u ≡ Some ns) (tree : t ≡ x) (names : vs ≡ ns) {A : Type 0} (read : A → List Sending) where
  opens_so : (answer : Result A VatStop) (q : Ours) (m : Member) → OpensSo {A = A} c t vs read answer q m → OpensSo {A = A} c x ns read answer q m
  opens_so answer q m call = subst (λ (z : List Node). OpensSo {A = A} c z ns read answer q m) tree (subst (λ (zs : List Words). OpensSo {A = A} c t zs read answer q m) names call)

  pub open_halts : (e : VatStop) (q : Ours) → Answers c r (OpensSo {A = A} c t vs read (Err e) q) → HaltsAs e u c.wire (open_member S u p w (slice_get w.members u)) c.history
  open_halts e q call =
      let y = receiver S w u c r at found in
      let m : Member = y.0 in
      let d : Done Local (Unit {0}) = opened S w u p m c x ns there at y.1 program nouns in
      subst (λ (o : Course). HaltsAs e u c.wire o c.history) (sym (opens S w u p m c x ns there at y.1 program nouns))
      (stop_halts e w u (Opens u ∷ []) u m (λ s. nothing_brought m) d c.wire c.history (stop_is {A = A} m (own m) read e q d (opens_so (Err e) q m (answered S w u m c r (OpensSo {A = A} c t vs read (Err e) q) at y.1 found call))) (record { names = vat_names S; is = at.history }))

  pub open_comes : (k : ℕ) (a : A) (before : List ℕ) (mid e : World) (q : Resident) → k ≡ u → OpensSteadily S u p w → Took u before c mid r q → Answers c r (OpensSo {A = A} c t vs read (Ok a) q.member)
      → mid.ways ≡ c.ways → More c.history mid.history (line.Open k ∷ []) → Finishes S w k (Opens k ∷ []) before (read a) mid e → Comes (λ (y : Vats). IsWorld S y e) (open_member S u p w (slice_get w.members u))
  open_comes k a before mid e q same steady took call ways more finished =
      let y = receiver S w u c r at found in
      let m : Member = y.0 in
      let ended = opens_so (Ok a) q.member m (answered S w u m c r (OpensSo {A = A} c t vs read (Ok a) q.member) at y.1 found call) in
      own_comes S w u m (Opens u ∷ []) u (opened S w u p m c x ns there at y.1 program nouns) (open_member S u p w (slice_get w.members u)) before (read a) c mid e r q (line.Open u ∷ []) at y.1 took ways
      (subst (λ (j : ℕ). More c.history mid.history (line.Open j ∷ [])) same more)
      (λ ds. unfold shown_events in unfold shown_event in refl) refl
      (opens S w u p m c x ns there at y.1 program nouns) (opens_steady S w u p m c x ns there at y.1 program nouns steady) (λ z i. steady.shown z i)
      (ended.0, (ended.1, ended.2))
      (subst (λ (j : ℕ). Finishes S w j (Opens j ∷ []) before (read a) mid e) same finished m)

-- ---- a vat notices that a link is cut

abbrev pub NoticesSo : {A : Type 0} → World → ℕ → (A → List Sending) → Result A VatStop → Ours → Member → Type 0
NoticesSo {A} c peer read answer q m = Steps {A = A} c.fuel (words_by c.words.key c.words.count) m (own m) read answer q (arriving.notice (names_under c.words.key) peer)

module _ (S : Script) (w : Vats) (u peer k : ℕ) (c : World) (r : Resident) (at : IsWorld S w c) (found : slice_get c.residents.items u ≡ Some r) {A : Type 0} (read : A → List Sending) where
  pub notice_halts : (e : VatStop) (q : Ours) → Answers c r (NoticesSo {A = A} c peer read (Err e) q) → HaltsAs e (step_number S k) c.wire (step S (NoticeLink u peer) k w) c.history
  notice_halts e q call =
      let y = receiver S w u c r at found in
      let m : Member = y.0 in
      let d : Done Local (Unit {0}) = noticed S w u peer m c at y.1 in
      subst (λ (o : Course). HaltsAs e (step_number S k) c.wire o c.history) (sym (notices S w u peer m c at y.1 k))
      (stop_halts e w u (NoticedAt k u peer ∷ []) (step_number S k) m (λ s. nothing_brought m) d c.wire c.history (stop_is {A = A} m (own m) read e q d (answered S w u m c r (NoticesSo {A = A} c peer read (Err e) q) at y.1 found call)) (record { names = vat_names S; is = at.history }))

  pub notice_comes : (a : A) (before : List ℕ) (mid e : World) (q : Resident) → StepsSteadily S (NoticeLink u peer) k w → Took u before c mid r q → Answers c r (NoticesSo {A = A} c peer read (Ok a) q.member)
      → mid.ways ≡ c.ways → More c.history mid.history (line.Notice k u peer ∷ []) → Finishes S w u (NoticedAt k u peer ∷ []) before (read a) mid e → Comes (λ (y : Vats). IsWorld S y e) (step S (NoticeLink u peer) k w)
  notice_comes a before mid e q steady took call ways more finished =
      let y = receiver S w u c r at found in
      let m : Member = y.0 in
      let ended = answered S w u m c r (NoticesSo {A = A} c peer read (Ok a) q.member) at y.1 found call in
      own_comes S w u m (NoticedAt k u peer ∷ []) (step_number S k) (noticed S w u peer m c at y.1) (step S (NoticeLink u peer) k w) before (read a) c mid e r q (line.Notice k u peer ∷ []) at y.1 took ways more
      (λ ds. unfold shown_events in unfold shown_event in refl) refl
      (notices S w u peer m c at y.1 k) (notices_steady S w u peer m c at y.1 k steady) (λ z i. steady.shown z i)
      (ended.0, (ended.1, ended.2)) (finished m)

-- ---- a turn

-- what is found of the vat, and what the turn answered
abbrev pub TurnsTo : {A : Type 0} → World → List Node → (A → List Sending) → Result (Option A) VatStop → Ours → Member → Type 0
TurnsTo {A} c t read answer q m =
    (found : Ours) × IsFound c.fuel (words_by c.words.key c.words.count) m found
    × Turns {A = A} c.fuel (words_by c.words.key c.words.count) m read answer found q (λ y. taking (names_under c.words.key) t c.limits.depth y) m.vat.queue

-- one put after another at the same place
set_twice : {B : Type 0} (xs : List B) (i : ℕ) (y z : B) → slice_set (slice_set xs i y) i z ≡ slice_set xs i z
set_twice [] i y z = refl
set_twice (x ∷ xs) zero y z = refl
set_twice {B = B} (x ∷ xs) (suc i) y z = ap (λ (ys : List B). x ∷ ys) (set_twice xs i y z)

module _ (S : Script) (w : Vats) (u k : ℕ) (c : World) (r : Resident) (x : List Node) (t : List Node) (at : IsWorld S w c) (found : slice_get c.residents.items u ≡ Some r) (program : slice_get c.programs.items u ≡ Some x) (tree : t ≡ x)
    {A : Type 0} (read : A → List Sending) where
  turns_to : (answer : Result (Option A) VatStop) (q : Ours) (m : Member) → slice_get w.members u ≡ Some m → Answers c r (TurnsTo {A = A} c t read answer q) → TurnsTo {A = A} c x read answer q m
  turns_to answer q m here call = subst (λ (z : List Node). TurnsTo {A = A} c z read answer q m) tree (answered S w u m c r (TurnsTo {A = A} c t read answer q) at here found call)

  its_program : (p : Program) × (slice_get S.vats u ≡ Some p)
  its_program = stands S.vats u (subst (λ (n : ℕ). u < n) at.count (is_within c.residents.items u r found))

  pub turn_stops_so : (e : VatStop) (q : Ours) → Answers c r (TurnsTo {A = A} c t read (Err e) q) → HaltsAs e (step_number S k) c.wire (step S (Turn u) k w) c.history
  turn_stops_so e q call =
      let y = receiver S w u c r at found in
      let p = its_program in
      let z = turns_to (Err e) q y.0 y.1 call in
      turn_halts S w u p.0 y.0 c x at program p.1 {A = A} k read e z.0 q c.wire c.history y.1 (record { names = vat_names S; is = at.history }) z.2

  pub turn_comes : (a : A) (before : List ℕ) (mid e : World) (q : Resident) → StepsSteadily S (Turn u) k w → Took u before c mid r q → Answers c r (TurnsTo {A = A} c t read (Ok (Some a)) q.member)
      → mid.ways ≡ c.ways → More c.history mid.history (line.Turn k u ∷ []) → Finishes S w u (Turned k u ∷ []) before (read a) mid e → Comes (λ (y : Vats). IsWorld S y e) (step S (Turn u) k w)
  turn_comes a before mid e q steady took call ways more finished =
      let y = receiver S w u c r at found in
      let m : Member = y.0 in
      let p = its_program in
      let z = turns_to (Ok (Some a)) q.member m y.1 call in
      let take : Message Local → machine.Act Local (Unit {0}) = takes S w u p.0 m c x at program p.1 in
      let one : TakesOne c.fuel (words_by c.words.key c.words.count) m read a q.member take m.vat.queue =
      turns_some c.fuel (words_by c.words.key c.words.count) m read a z.0 q.member take m.vat.queue z.2 in
      own_comes S w u m (Turned k u ∷ []) (step_number S k) (take one.first (record (with_draws c.fuel (words_by c.words.key c.words.count) m.vat) { queue = one.rest })) (step S (Turn u) k w) before (read a) c mid e r q (line.Turn k u ∷ []) at y.1 took ways more
      (λ ds. unfold shown_events in unfold shown_event in refl) refl
      (turns S w u p.0 m c x at program p.1 k one.first one.rest y.1 one.is) (turns_steady S w u p.0 m c x at program p.1 k one.first one.rest y.1 one.is steady) (λ z i. steady.shown z i)
      (one.ends.0, (one.ends.1, one.ends.2)) (finished m)

  idles_then : (m : Member) → slice_get w.members u ≡ Some m → m.vat.queue ≡ [] → step S (Turn u) k w ≡ Runs (record w { history = w.history ++ Idle k ∷ [] })
  unfolding step turn turn_queue idle
  idles_then m here none = ap (turn S k u w) here ∙ ap (turn_queue S k u w m) none

  -- the vat rested at once, as z
  pub turn_idles : (before : List ℕ) (mid e : World) (q z : Resident) → Took u before c mid r q → Answers c r (TurnsTo {A = A} c t read (Ok None) q.member) → IsRested q z mid.words e.fuel e.words
      → e.residents.items ≡ slice_set c.residents.items u z → e.limits.depth ≡ mid.limits.depth → e.programs.items ≡ mid.programs.items → e.nouns.items ≡ mid.nouns.items → e.wire ≡ mid.wire → e.ways ≡ c.ways
      → More c.history e.history (line.Idle k ∷ []) → Comes (λ (y : Vats). IsWorld S y e) (step S (Turn u) k w)
  turn_idles before mid e q z took call rested residents limits programs nouns wire ways history =
      let y = receiver S w u c r at found in
      let m : Member = y.0 in
      let i = turns_to (Ok None) q.member m y.1 call in
      let none = turns_none {A = A} c.fuel (words_by c.words.key c.words.count) m read i.0 q.member (λ v. taking (names_under c.words.key) x c.limits.depth v) m.vat.queue i.2 in
      let again : e.residents.items ≡ slice_set mid.residents.items u z =
      residents ∙ sym (ap (λ (rs : List Resident). slice_set rs u z) took.residents ∙ set_twice c.residents.items u q z) in (
        record w { history = w.history ++ Idle k ∷ [] },
        (idles_then m y.1 none.0, idles S w u k m before c mid e r q z i.0 at y.1 took i.1 none.1 rested again limits programs nouns wire ways history),
      )
