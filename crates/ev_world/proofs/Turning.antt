-- A turn, and one with no message to take.
use Rattle.std.proofs.Common.{◌≡◌, ◌⊎◌, inl, inr, ℕ, Bool, List, [], ◌∷◌, ◌++◌, Option, Some, None, Ok, Err, length, refl, sym, ap, subst, ◌∙◌, append-nil}
use Rattle.std.specs.Prelude.{slice_get, slice_set}
use Rattle.std.proofs.lemmas.List.{length-set}
use Rattle.def_event.specs.declared.event.Event.{Event as ShownEvent}
use Rattle.def_event.specs.declared.event.Event.TheVariants as line
use Rattle.def_kernel.specs.declared.node.Node.{Node}
use Rattle.def_run.specs.Numbers.{Vats, after_step, nothing_brought, numbers, ready, step, step_number, turn, turn_queue}
use Rattle.def_run.specs.Vats.{Member}
use Rattle.def_machine.specs.Eval.{taking}
use Rattle.def_machine.specs.State as machine
use Rattle.def_machine.specs.State.{Done, Gives, Message}
use Rattle.def_machine.specs.Values.{Local, Naming}
use Rattle.def_run.specs.Shown.{shown_event}
use Rattle.def_run.specs.Text.{shown_events, vat_names}
use Rattle.def_run.specs.World.{Idle, Program, Script, Turn, Turned, tree_at}
use Rattle.ev_intro.specs.Word.{Drawn}
use Rattle.ev_resident.specs.MemberStanding.{IsFound, IsMember, Sees, with_draws}
use Rattle.ev_resident.specs.MemberSteps.{EndsSo, Turns, TurnsSo, own}
use Rattle.ev_resident.specs.declared.Member.{Member as Ours}
use Rattle.ev_resident.specs.declared.Sending.{Sending}
use Rattle.ev_resident.specs.OutcomeStanding.{NamesStand, ObjectsStand}
use Rattle.ev_pass.specs.Acts.{words_by}
use Rattle.ev_pass.specs.Reading.{names_under}
use Rattle.ev_resident.proofs.Worlds.{world_of}
use Rattle.ev_resident.specs.Standing.{IsResident}
use Rattle.ev_resident.specs.declared.resident.Resident.{Resident}
use Rattle.ev_room.specs.Reading.{World as Seen, vat_of}
use Rattle.ev_resident.specs.declared.VatStop.{VatStop}
use Rattle.ev_resident.specs.declared.VatStop.TheVariants.{Fuel, Deep, WordRepeated, Astray, Memory}
use Rattle.ev_ways.proofs.Cuts.{shown_join}
use Rattle.ev_resident.specs.Names.{Named}
use Rattle.ev_ways.specs.Rows.{Lane}
use Rattle.ev_ways.specs.Standing.{WaysStand}
use Rattle.ev_step_text.specs.Accounts.{IsAccount, More, Recounts}
use Rattle.ev_step_text.specs.declared.account.Account.{Account}
use Rattle.ev_world.specs.Standing.{HaltsAs, IsWorld, told_so}
use Rattle.ev_world.specs.Steadily.{StepsSteadily}
use Rattle.ev_world.specs.declared.world.World.{World}
use Rattle.ev_world.proofs.Acting.{StopsAs, Took, numbers_are, ready_is, stop_halts}
use Rattle.ev_world.proofs.Cuts.{says_behind}
use Rattle.ev_world.proofs.Left.{IsRested}
use Rattle.ev_world.proofs.Objects.{is_within, same_or_not, set_other, set_there}
use Rattle.ev_world.proofs.Opening.{tree_is}
use Rattle.ev_world.proofs.Telling.{only}
use Rattle.def_run.specs.Steady.{StepIsSteady, TurnIsSteady}

-- ---- what a call answered

pub turns_none : {A : Type 0} (fuel : ℕ) (drawn : List ℕ) (m : Member) (read : A → List Sending) (before after : Ours) (take : Message Local → machine.Act Local (Unit {0})) (queue : List (Message Local)) → Turns {A = A} fuel drawn m read (Ok None) before after take queue
    → (queue ≡ []) × (after ≡ before)
turns_none fuel drawn m read before after take [] h = (refl, h.1)
turns_none fuel drawn m read before after take (x ∷ xs) h = absurd h

-- the first message was taken
pub record TakesOne {A : Type 0} (fuel : ℕ) (drawn : List ℕ) (m : Member) (read : A → List Sending) (a : A) (after : Ours) (take : Message Local → machine.Act Local (Unit {0})) (queue : List (Message Local)) : Type 0 where
  pub first : Message Local
  pub rest : List (Message Local)
  pub is : queue ≡ first ∷ rest
  pub ends : EndsSo m (own m) read (Ok a) after (take first (record (with_draws fuel drawn m.vat) { queue = rest }))

pub turns_some : {A : Type 0} (fuel : ℕ) (drawn : List ℕ) (m : Member) (read : A → List Sending) (a : A) (before after : Ours) (take : Message Local → machine.Act Local (Unit {0})) (queue : List (Message Local)) → Turns fuel drawn m read (Ok (Some a)) before after take queue
    → TakesOne fuel drawn m read a after take queue
turns_some fuel drawn m read a before after take [] h = let no_answer = h.0 in absurd cc
turns_some fuel drawn m read a before after take (x ∷ xs) h = record { first = x; rest = xs; is = refl; ends = h }

turn_stops : {A : Type 0} (m : Member) (read : A → List Sending) (e : VatStop) (c : Ours) (d : Done Local (Unit {0})) → TurnsSo {A = A} m read (Err e) c d → StopsAs e d
turn_stops m read Fuel c d h = h
turn_stops m read Deep c d h = h
turn_stops m read (WordRepeated i j) c d h = h
turn_stops m read Astray c d h = h
turn_stops m read Memory c d h = tt

-- ---- a turn

module _ (S : Script) (w : Vats) (u : ℕ) (p : Program) (m : Member) (c : World) (x : List Node) (at : IsWorld S w c) (program : slice_get c.programs.items u ≡ Some x) (there : slice_get S.vats u ≡ Some p) where
  abbrev pub takes : Message Local → machine.Act Local (Unit {0})
  takes q = taking (names_under c.words.key) x c.limits.depth q

  tree_now : x ≡ tree_at S.vats u
  unfolding tree_at
  tree_now = tree_is S w c u x p at program there ∙ ap (λ (o : Option Program). elim o as (λ _. List Node) [ Some q ↦ q.tree | None ↦ [] ]) (sym there)

  pub takes_is : (q : Message Local) (qs : List (Message Local)) → takes q (record (with_draws c.fuel (words_by c.words.key c.words.count) m.vat) { queue = qs }) ≡ taking (numbers S) (tree_at S.vats u) S.depth q (record (ready w m.vat) { queue = qs })
  takes_is q qs =
      ap (λ (K : Naming Local Local). taking K x c.limits.depth q (record (with_draws c.fuel (words_by c.words.key c.words.count) m.vat) { queue = qs })) (numbers_are S c.words.key at.key)
      ∙ ap (λ (t : List Node). taking (numbers S) t c.limits.depth q (record (with_draws c.fuel (words_by c.words.key c.words.count) m.vat) { queue = qs })) tree_now
      ∙ ap (λ (d : ℕ). taking (numbers S) (tree_at S.vats u) d q (record (with_draws c.fuel (words_by c.words.key c.words.count) m.vat) { queue = qs })) at.depth
      ∙ ap (λ (v : machine.Vat Local). taking (numbers S) (tree_at S.vats u) S.depth q (record v { queue = qs })) (ready_is w c.fuel (words_by c.words.key c.words.count) m.vat at.fuel at.drawn)

  -- the run takes that message
  pub turns : (k : ℕ) (q : Message Local) (qs : List (Message Local)) → slice_get w.members u ≡ Some m → m.vat.queue ≡ q ∷ qs
      → step S (Turn u) k w ≡ after_step w u (Turned k u ∷ []) (step_number S k) m (λ s. nothing_brought m) (takes q (record (with_draws c.fuel (words_by c.words.key c.words.count) m.vat) { queue = qs }))
  unfolding step turn turn_queue
  turns k q qs here is =
      ap (turn S k u w) here ∙ ap (turn_queue S k u w m) is
      ∙ ap (λ (d : Done Local (Unit {0})). after_step w u (Turned k u ∷ []) (step_number S k) m (λ s. nothing_brought m) d) (sym (takes_is q qs))

  pub turns_steady : (k : ℕ) (q : Message Local) (qs : List (Message Local)) → slice_get w.members u ≡ Some m → m.vat.queue ≡ q ∷ qs → StepsSteadily S (Turn u) k w → (s : machine.Vat Local)
      → takes q (record (with_draws c.fuel (words_by c.words.key c.words.count) m.vat) { queue = qs }) ≡ Gives tt s → StepIsSteady m m.connections s
  turns_steady k q qs here is steady s e = (subst (TurnIsSteady S w u m) is (steady.steady m here)) s (sym (takes_is q qs) ∙ e)

  turn_halts_so : {A : Type 0} (k : ℕ) (read : A → List Sending) (e : VatStop) (before after : Ours) (wire : Bool) (told : Account) (queue : List (Message Local)) → Recounts told (told_so wire (shown_events w.drawn w.history))
      → Turns {A = A} c.fuel (words_by c.words.key c.words.count) m read (Err e) before after takes queue → HaltsAs e (step_number S k) wire (turn_queue S k u w m queue) told
  unfolding turn_queue
  turn_halts_so k read Fuel before after wire told [] f h = absurd h
  turn_halts_so k read Deep before after wire told [] f h = absurd h
  turn_halts_so k read (WordRepeated i j) before after wire told [] f h = absurd h
  turn_halts_so k read Astray before after wire told [] f h = absurd h
  turn_halts_so k read Memory before after wire told [] f h = tt
  turn_halts_so k read e before after wire told (q ∷ qs) f h =
      stop_halts e w u (Turned k u ∷ []) (step_number S k) m (λ s. nothing_brought m) (taking (numbers S) (tree_at S.vats u) S.depth q (record (ready w m.vat) { queue = qs })) wire told
      (subst (StopsAs e) (takes_is q qs) (turn_stops m read e after (takes q (record (with_draws c.fuel (words_by c.words.key c.words.count) m.vat) { queue = qs })) h)) f

  pub turn_halts : {A : Type 0} (k : ℕ) (read : A → List Sending) (e : VatStop) (before after : Ours) (wire : Bool) (told : Account) → slice_get w.members u ≡ Some m → Recounts told (told_so wire (shown_events w.drawn w.history))
      → Turns {A = A} c.fuel (words_by c.words.key c.words.count) m read (Err e) before after takes m.vat.queue → HaltsAs e (step_number S k) wire (step S (Turn u) k w) told
  unfolding step turn
  turn_halts k read e before after wire told here f h =
      subst (λ (o : Option Member). HaltsAs e (step_number S k) wire (turn S k u w o) told) (sym here) (turn_halts_so k read e before after wire told m.vat.queue f h)

-- ---- no message to take

module _ (fuel : ℕ) (drawn : List ℕ) (m : Member) (c : Ours) (found : IsFound fuel drawn m c) where
  abbrev seen : Seen
  seen = world_of c found.rest.sound

  sees : Sees seen c.vat.host.inside
  sees = record { outbox = refl; happened = refl; rest = []; texts = sym found.rest.sound.problems_first.1 ∙ sym (append-nil c.vat.host.inside.heap.texts); key = refl }

  pub found_fuel : c.vat.host.inside.micro.fuel ≡ fuel
  unfolding vat_of
  found_fuel = ap (λ (v : machine.Vat Local). v.fuel) (found.vat seen sees)

  pub found_drawn : words_by c.vat.host.inside.words.key c.vat.host.inside.words.count ≡ drawn
  unfolding vat_of
  found_drawn = ap (λ (v : machine.Vat Local). v.drawn) (found.vat seen sees)

  pub found_member : IsMember m c
  found_member = record {
    vat = λ v e. ap (with_draws 0 []) (found.vat v e);
    rest = record { sound = found.rest.sound; going = found.rest.going; learnt = found.rest.learnt; connections = found.rest.connections; tables = found.rest.tables };
  }

-- An entry that finds no message: the vat has rested, and the run's words are back.
pub idles : (S : Script) (w : Vats) (u k : ℕ) (m : Member) (before : List ℕ) (c mid e : World) (r q z : Resident) (found : Ours) → IsWorld S w c → slice_get w.members u ≡ Some m → Took u before c mid r q → IsFound c.fuel (words_by c.words.key c.words.count) m found → q.member ≡ found
    → IsRested q z mid.words e.fuel e.words → e.residents.items ≡ slice_set mid.residents.items u z → e.limits.depth ≡ mid.limits.depth → e.programs.items ≡ mid.programs.items → e.nouns.items ≡ mid.nouns.items → e.wire ≡ mid.wire → e.ways ≡ c.ways → More c.history e.history (line.Idle k ∷ [])
    → IsWorld S (record w { history = w.history ++ Idle k ∷ [] }) e
idles S w u k m before c mid e r q z found at here took is_found same rested residents limits programs nouns wire ways history = record {
  fuel = rested.fuel ∙ ap (λ (x : Ours). x.vat.host.inside.micro.fuel) same ∙ found_fuel c.fuel (words_by c.words.key c.words.count) m found is_found ∙ at.fuel;
  key = ap (λ (d : Drawn). d.key) rested.words ∙ took.key was.member.rest.going ∙ at.key;
  drawn = ap (λ (d : Drawn). words_by d.key d.count) (rested.words ∙ ap (λ (x : Ours). x.vat.host.inside.words) same) ∙ found_drawn c.fuel (words_by c.words.key c.words.count) m found is_found ∙ at.drawn;
  depth = limits ∙ took.limits ∙ at.depth;
  count = ap length residents ∙ length-set mid.residents.items u z ∙ ap length took.residents ∙ length-set c.residents.items u q ∙ at.count;
  members = at.members;
  residents = λ h n x i f. let is = resident_is h n x i f (same_or_not u h) in record { member = is.member; ready = is.ready; key = is.key; names = is.names; objects = is.objects };
  rooms = λ h x f. room_is h x f (same_or_not u h);
  programs = (programs ∙ took.programs) ∙ at.programs;
  nouns = nouns ∙ took.nouns ∙ at.nouns;
  ways = subst (λ (rows : List (List Lane)). WaysStand w.drawn (length S.vats) w.ways rows) (sym ways) at.ways;
  history =
      subst (λ (v : Bool). IsAccount (vat_names S) e.history (told_so v (shown_events w.drawn (w.history ++ Idle k ∷ [])))) (sym (wire ∙ took.wire))
      (subst (λ (es : List ShownEvent). IsAccount (vat_names S) e.history (told_so c.wire es))
      (ap (λ (es : List ShownEvent). shown_events w.drawn w.history ++ es) (sym shown) ∙ sym (shown_join w.drawn w.history (Idle k ∷ [])))
      (says_behind (vat_names S) c.wire c.history e.history (shown_events w.drawn w.history) (line.Idle k ∷ []) at.history refl history));
}
  where
    was : IsResident S w u m r
    was = at.residents u m r here took.found

    shown : shown_events w.drawn (Idle k ∷ []) ≡ line.Idle k ∷ []
    shown = unfold shown_events in unfold shown_event in refl

    now : IsResident S w u m z
    now = record {
      member = rested.member m (ap (λ (d : Drawn). d.key) took.words ∙ was.key ∙ sym (took.key was.member.rest.going ∙ at.key)) (subst (λ (x : Ours). IsMember m x) (sym same) (found_member c.fuel (words_by c.words.key c.words.count) m found is_found));
      ready = rested.ready took.ready;
      key = ap (λ (d : Drawn). d.key) (rested.key ∙ took.words) ∙ was.key;
      names = subst (λ (n : Named). NamesStand w.drawn u m.vat m.names n) (sym (rested.names ∙ took.names)) was.names;
      objects = subst (λ (n : Named). ObjectsStand w.members u n.naming.objects) (sym (rested.names ∙ took.names)) was.objects;
    }

    here_now : slice_get e.residents.items u ≡ Some z
    here_now = ap (λ (rs : List Resident). slice_get rs u) residents ∙ set_there mid.residents.items u z (is_within mid.residents.items u q (ap (λ (rs : List Resident). slice_get rs u) took.residents ∙ set_there c.residents.items u q (is_within c.residents.items u r took.found)))

    there_still : (h : ℕ) (x : Resident) → (u ≡ h → ⊥) → slice_get e.residents.items h ≡ Some x → slice_get c.residents.items h ≡ Some x
    there_still h x ne f = sym (ap (λ (rs : List Resident). slice_get rs h) residents ∙ set_other mid.residents.items u h z ne ∙ ap (λ (rs : List Resident). slice_get rs h) took.residents ∙ set_other c.residents.items u h q ne) ∙ f

    resident_is : (h : ℕ) (n : Member) (x : Resident) → slice_get w.members h ≡ Some n → slice_get e.residents.items h ≡ Some x → (u ≡ h) ⊎ (u ≡ h → ⊥) → IsResident S w h n x
    resident_is h n x i f (inl j) =
        subst (λ (g : ℕ). IsResident S w g n x) j
        (subst (λ (y : Member). IsResident S w u y x) (only here (ap (slice_get w.members) j ∙ i))
        (subst (λ (y : Resident). IsResident S w u m y) (only here_now (ap (slice_get e.residents.items) j ∙ f)) now))
    resident_is h n x i f (inr ne) = at.residents h n x i (there_still h x ne f)

    room_is : (h : ℕ) (x : Resident) → slice_get e.residents.items h ≡ Some x → (u ≡ h) ⊎ (u ≡ h → ⊥) → length x.names.naming.objects ≡ length S.vats
    room_is h x f (inl j) = subst (λ (y : Resident). length y.names.naming.objects ≡ length S.vats) (only here_now (ap (slice_get e.residents.items) j ∙ f)) (ap (λ (n : Named). length n.naming.objects) (rested.names ∙ took.names) ∙ at.rooms u r took.found)
    room_is h x f (inr ne) = at.rooms h x (there_still h x ne f)
