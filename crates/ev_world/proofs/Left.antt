-- What a step left and told is the state of the run after it.
use Rattle.std.proofs.Common.{◌≡◌, ◌⊎◌, inl, inr, ℕ, Bool, zero, ◌<◌, List, ◌++◌, Option, Some, get_or, length, sym, ap, subst, ◌∙◌}
use Rattle.std.specs.Prelude.{drop, slice_get, slice_set}
use Rattle.std.proofs.lemmas.List.{length-set}
use Rattle.def_event.specs.declared.event.Event.{Event as ShownEvent}
use Rattle.def_run.specs.Names.{Names, names_after}
use Rattle.def_run.specs.Numbers.{Brought, Vats, all_written, frames_of, left_by, lines_of, name_at_vat}
use Rattle.def_run.specs.Vats.{Member, connection_for, unconnected}
use Rattle.def_machine.specs.State as machine
use Rattle.def_machine.specs.Values.{Local, Name}
use Rattle.def_run.specs.Text.{shown_events, vat_names}
use Rattle.def_run.specs.World.{Event, Script}
use Rattle.ev_base.specs.declared.names.Msg.{Msg}
use Rattle.ev_intro.specs.Word.{Drawn}
use Rattle.ev_resident.specs.MemberStanding.{IsMember}
use Rattle.ev_resident.specs.declared.Member.{Member as Ours}
use Rattle.ev_resident.specs.declared.Sending.{Sending}
use Rattle.ev_resident.specs.Names.{Entry, Named}
use Rattle.ev_resident.specs.NamesStanding.{mails_of}
use Rattle.ev_resident.specs.OutcomeStanding.{IsAfter, NamesStand, ObjectsStand}
use Rattle.ev_pass.specs.Acts.{words_by}
use Rattle.ev_resident.proofs.Worlds.{is_after, world_then}
use Rattle.ev_resident.specs.Standing.{IsResident, IsStepped}
use Rattle.ev_resident.specs.Telling.{IsTold}
use Rattle.ev_resident.specs.declared.outgoing.Outgoing.{Outgoing}
use Rattle.ev_resident.specs.declared.resident.Resident.{Resident}
use Rattle.ev_room.specs.Reading.{vat_of}
use Rattle.ev_resident.specs.Vat.{IsReady}
use Rattle.ev_ways.specs.Rows.{Lane}
use Rattle.ev_ways.specs.Standing.{WaysStand}
use Rattle.ev_ways.proofs.Cuts.{shown_join}
use Rattle.ev_step_text.specs.Accounts.{IsAccount}
use Rattle.ev_step_text.specs.declared.account.Account.{Account}
use Rattle.ev_world.specs.Exporting.{AreTold, objects_for, told_by, with_imports}
use Rattle.ev_world.specs.Midway.{IsActing, IsMidway, drawn_now, having_of}
use Rattle.ev_world.specs.Pushing.{all_pushed}
use Rattle.ev_world.specs.Standing.{IsWorld, told_so}
use Rattle.ev_world.specs.declared.world.World.{World}
use Rattle.ev_world.proofs.Cuts.{says_behind}
use Rattle.ev_world.proofs.Exports.{Grows, exports_grow}
use Rattle.ev_world.proofs.Objects.{Imported, imported, is_within, objects_stand, same_or_not, set_other, set_there}
use Rattle.ev_world.proofs.Plain.{lines_plain}
use Rattle.ev_world.proofs.Pushes.{pushes_stand}
use Rattle.ev_world.proofs.Telling.{only, stands}

-- ---- the vat that stepped

-- The vat of a step as it is once its step was told: what was told, and what came back of the run.
pub record IsRested (r q : Resident) (lent : Drawn) (left : ℕ) (after : Drawn) : Type 0 where
  pub fuel : left ≡ r.member.vat.host.inside.micro.fuel
  pub words : after ≡ r.member.vat.host.inside.words
  pub member : (m : Member) → lent.key ≡ r.member.vat.host.inside.words.key → IsMember m r.member → IsMember m q.member
  pub key : q.member.vat.host.inside.words ≡ lent
  pub ready : IsReady r.member.vat → IsReady q.member.vat
  pub names : q.names ≡ r.names

module _ (S : Script) (w : Vats) (u : ℕ) (m : Member) (head : List Event) (b : Brought) (s : machine.Vat Local) (before : List ℕ) (xs : List Sending) (carried : Option Msg) (told : List Entry) (c : World) (mid : IsMidway S w u m head b s before xs carried told c) where
  abbrev pub names_now : Names
  names_now = names_after u m.names m.vat b.carried b.told s

  abbrev pub naming_now : Local → Name
  naming_now = name_at_vat w.members u names_now

  abbrev pub member_now : Member
  member_now = record { vat = s; learnt = b.learnt; connections = all_written s s.outbox b.connections; names = names_now }

  -- r the vat before it told, p once it did, q once it gave back the words
  module _ (r p q : Resident) (ys : List Outgoing) (lines : Account) (fuel : ℕ) (after : Drawn) (found : slice_get c.residents.items u ≡ Some r) (same : p.member ≡ r.member) (objects : p.names.naming.objects ≡ r.names.naming.objects)
      (said : IsTold w u m.names s m.vat b.connections b.carried b.told c.history lines ys p.names) (rested : IsRested p q c.words fuel after) where
    abbrev acts : IsActing S w u m b s xs told r
    acts = mid.own r found

    abbrev steps : IsStepped (having_of b) s xs p.member
    steps = subst (λ (x : Ours). IsStepped (having_of b) s xs x) (sym same) acts.stepped

    abbrev own_key : p.member.vat.host.inside.words.key ≡ S.key
    own_key = ap (λ (x : Ours). x.vat.host.inside.words.key) same ∙ acts.key

    abbrev saw : IsAfter (world_then m (having_of b) s xs p.member steps) p.member.vat.host s
    saw = is_after m (having_of b) s xs p.member steps

    fuel_is : fuel ≡ s.fuel
    unfolding vat_of
    fuel_is = rested.fuel ∙ ap (λ (v : machine.Vat Local). v.fuel) saw.vat

    drawn_is : words_by after.key after.count ≡ s.drawn
    unfolding vat_of
    drawn_is = ap (λ (d : Drawn). words_by d.key d.count) rested.words ∙ ap (λ (v : machine.Vat Local). v.drawn) saw.vat

    key_is : after.key ≡ S.key
    key_is = ap (λ (d : Drawn). d.key) rested.words ∙ own_key

    same_objects : q.names.naming.objects ≡ r.names.naming.objects
    same_objects = ap (λ (n : Named). n.naming.objects) rested.names ∙ objects

    own_is : IsResident S (drawn_now s.drawn w) u member_now q
    own_is = record {
      member = rested.member member_now (mid.key ∙ sym own_key) (steps.leaves.member names_now);
      ready = rested.ready (subst (λ (x : Ours). IsReady x.vat) (sym same) acts.ready);
      key = ap (λ (d : Drawn). d.key) rested.key ∙ mid.key;
      names = subst (λ (n : Named). NamesStand s.drawn u s names_now n) (sym rested.names) said.names;
      objects = subst (λ (os : List (List ℕ)). ObjectsStand w.members u os) (sym same_objects) acts.objects;
    }

    own_room : length q.names.naming.objects ≡ length S.vats
    own_room = ap length same_objects ∙ acts.room

    -- ---- all residents, before the exports are told

    abbrev rests : List Resident
    rests = slice_set c.residents.items u q

    here_now : slice_get rests u ≡ Some q
    here_now = set_there c.residents.items u q (is_within c.residents.items u r found)

    rest_is : (h : ℕ) (n : Member) (x : Resident) → slice_get (slice_set w.members u member_now) h ≡ Some n → slice_get rests h ≡ Some x → IsResident S (drawn_now s.drawn w) h n x
    rest_is h n x e f = by (same_or_not u h)
      where
        by : (u ≡ h) ⊎ (u ≡ h → ⊥) → IsResident S (drawn_now s.drawn w) h n x
        by (inl i) =
            let is_q : q ≡ x = only (here_now) (ap (slice_get rests) i ∙ f) in
            let is_m : member_now ≡ n = only (set_there w.members u member_now (is_within w.members u m mid.here)) (ap (slice_get (slice_set w.members u member_now)) i ∙ e) in
            subst (λ (j : ℕ). IsResident S (drawn_now s.drawn w) j n x) i
            (subst (λ (z : Member). IsResident S (drawn_now s.drawn w) u z x) is_m
            (subst (λ (z : Resident). IsResident S (drawn_now s.drawn w) u member_now z) is_q own_is))
        by (inr ne) = mid.others h n x ne (sym (set_other w.members u h member_now ne) ∙ e) (sym (set_other c.residents.items u h q ne) ∙ f)

    room_is : (h : ℕ) (x : Resident) → slice_get rests h ≡ Some x → length x.names.naming.objects ≡ length S.vats
    room_is h x f = by (same_or_not u h)
      where
        by : (u ≡ h) ⊎ (u ≡ h → ⊥) → length x.names.naming.objects ≡ length S.vats
        by (inl i) = let is_q : q ≡ x = only (here_now) (ap (slice_get rests) i ∙ f) in subst (λ (z : Resident). length z.names.naming.objects ≡ length S.vats) is_q own_room
        by (inr ne) = mid.rooms h x (sym (set_other c.residents.items u h q ne) ∙ f)

    -- ---- and once they are told

    u_is_vat : u < length S.vats
    u_is_vat = subst (λ (k : ℕ). u < k) mid.members (is_within w.members u m mid.here)

    grown : (h : ℕ) → Grows (connection_for h m).exports (connection_for h member_now).exports
    unfolding connection_for
    grown h = subst (λ (es : List Local). Grows es (get_or (all_written s s.outbox b.connections) h unconnected).exports) (mid.exports h) (exports_grow s s.outbox b.connections h)

    told_is : (h : ℕ) (n : Member) (x : Resident) → h < length S.vats → length x.names.naming.objects ≡ length S.vats → IsResident S (drawn_now s.drawn w) h n x
        → IsResident S (left_by w u head m b s) h n (told_by u q.member before h x)
    unfolding left_by
    told_is h n x less room is =
        let k : ℕ = get_or before h zero in
        let now : Imported u (drop k (objects_for h q.member)) x.names (with_imports u (drop k (objects_for h q.member)) x.names) = imported u (drop k (objects_for h q.member)) x.names in
        record {
          member = is.member;
          ready = is.ready;
          key = is.key;
          names = record {
            vat = now.vat ∙ is.names.vat;
            names = now.names ∙ is.names.names;
            mails = ap mails_of now.mails ∙ is.names.mails;
            counts = record { promises = now.promises ∙ is.names.counts.promises; messages = now.messages ∙ is.names.counts.messages; gifts = now.gifts ∙ is.names.counts.gifts };
          };
          objects = objects_stand w.members u m member_now q.member mid.here own_is.member.rest.connections h x.names k is.objects (subst (λ (j : ℕ). u < j) (sym room) u_is_vat) (mid.counts h less) (grown h);
        }

    all_told : (rs qs : List Resident) → rs ≡ rests → AreTold u q.member before (length rs) rs qs → (h : ℕ) (x : Resident) → slice_get qs h ≡ Some x
        → (z : Resident) × ((slice_get rests h ≡ Some z) × (x ≡ told_by u q.member before h z))
    all_told rs qs e are h x f =
        let less : h < length qs = is_within qs h x f in
        let within : h < length rs = subst (λ (k : ℕ). h < k) are.same less in
        let z = stands rs h within in
        (z.0, (ap (λ (ts : List Resident). slice_get ts h) (sym e) ∙ z.1, only f (are.told h z.0 z.1 within)))

    residents_are : (rs qs : List Resident) → rs ≡ rests → AreTold u q.member before (length rs) rs qs → (h : ℕ) (n : Member) (x : Resident) → slice_get (left_by w u head m b s).members h ≡ Some n → slice_get qs h ≡ Some x
        → IsResident S (left_by w u head m b s) h n x
    unfolding left_by
    residents_are rs qs e are h n x i f =
        let z = all_told rs qs e are h x f in
        let less : h < length S.vats = subst (λ (k : ℕ). h < k) (length-set w.members u member_now ∙ mid.members) (is_within (slice_set w.members u member_now) h n i) in
        subst (λ (t : Resident). IsResident S (left_by w u head m b s) h n t) (sym z.1.1) (told_is h n z.0 less (room_is h z.0 z.1.0) (rest_is h n z.0 i z.1.0))

    rooms_are : (rs qs : List Resident) → rs ≡ rests → AreTold u q.member before (length rs) rs qs → (h : ℕ) (x : Resident) → slice_get qs h ≡ Some x → length x.names.naming.objects ≡ length S.vats
    rooms_are rs qs e are h x f =
        let z = all_told rs qs e are h x f in
        let os : List ℕ = drop (get_or before h zero) (objects_for h q.member) in
        ap (λ (t : Resident). length t.names.naming.objects) z.1.1 ∙ (imported u os z.0.names).room ∙ room_is h z.0 z.1.0

    lines_are : IsAccount (vat_names S) lines (told_so c.wire (shown_events s.drawn (left_by w u head m b s).history))
    unfolding left_by
    lines_are =
        let more : List Event = lines_of w.ways u naming_now s.happened in
        subst (λ (es : List ShownEvent). IsAccount (vat_names S) lines (told_so c.wire es)) (sym (shown_join s.drawn (w.history ++ head) more))
        (says_behind (vat_names S) c.wire c.history lines (shown_events s.drawn (w.history ++ head)) (shown_events s.drawn more) mid.history (lines_plain s.drawn w.ways u naming_now s.happened) said.history)

    -- The code's state after the step, by its parts.
    pub left_is : (e : World) (rs : List Resident) → rs ≡ rests → AreTold u q.member before (length rs) rs e.residents.items → e.fuel ≡ fuel → e.words ≡ after → e.limits.depth ≡ c.limits.depth → e.programs.items ≡ c.programs.items
        → e.nouns.items ≡ c.nouns.items → e.wire ≡ c.wire → e.ways ≡ all_pushed u ys c.ways → e.history ≡ lines → IsWorld S (left_by w u head m b s) e
    unfolding left_by
    left_is e rs f are fuels words limits programs nouns wire ways history = record {
      fuel = fuels ∙ fuel_is;
      key = ap (λ (d : Drawn). d.key) words ∙ key_is;
      drawn = ap (λ (d : Drawn). words_by d.key d.count) words ∙ drawn_is;
      depth = limits ∙ mid.depth;
      count = are.same ∙ ap length f ∙ length-set c.residents.items u q ∙ mid.count;
      members = length-set w.members u member_now ∙ mid.members;
      residents = residents_are rs e.residents.items f are;
      rooms = rooms_are rs e.residents.items f are;
      programs = programs ∙ mid.programs;
      nouns = nouns ∙ mid.nouns;
      ways = subst (λ (rows : List (List Lane)). WaysStand s.drawn (length S.vats) (left_by w u head m b s).ways rows) (sym ways) (pushes_stand s.drawn (length S.vats) u (frames_of s naming_now s.outbox b.connections) ys w.ways c.ways said.outgoing mid.ways);
      history = subst (λ (v : Bool). IsAccount (vat_names S) e.history (told_so v (shown_events s.drawn (left_by w u head m b s).history))) (sym wire)
          (subst (λ (a : Account). IsAccount (vat_names S) a (told_so c.wire (shown_events s.drawn (left_by w u head m b s).history))) (sym history) lines_are);
    }
