-- Steps of a vat with what it has for its peers.
use Rattle.std.proofs.Common.{◌≡◌, ℕ, List, [], ◌∷◌, ◌++◌, map, Result, Ok, Err, None, refl, sym, ap, subst, ◌∙◌}
use Rattle.std.specs.Prelude.{IfErr, IfOk, OnOk}
use Rattle.def_run.specs.Numbers.{Addressed as Framed, all_written, frames_of}
use Rattle.def_run.specs.Vats.{Member as Theirs}
use Rattle.def_machine.specs.State as machine
use Rattle.def_machine.specs.State.{Act, Done, Gives, Put}
use Rattle.def_machine.specs.Values.{Words, Local, Root}
use Rattle.def_run.specs.Connections.{Connection}
use Rattle.ev_arrive.specs.Reading.{with_gifts}
use Rattle.ev_arrive.specs.declared.host.Host.{Host}
use Rattle.ev_intro.specs.Gift.{Gifts}
use Rattle.ev_vat.proofs.Worlds.{gifted, gifted_is, grown_texts, grown_world, sees_back, sees_grown}
use Rattle.ev_vat.specs.Sending.{AllSpelled, AreOps, AreSent, packed, spelled}
use Rattle.ev_vat.specs.Standing.{IsFound, Sees, with_draws}
use Rattle.ev_vat.specs.MemberSteps.{EndsSo, Having, IsDone, IsSteady, Leaves, own}
use Rattle.ev_vat.specs.declared.member.Member.{Member}
use Rattle.ev_vat.specs.declared.sending.Sending.{Sending}
use Rattle.ev_pass.specs.Reading.{put_by}
use Rattle.ev_pass.specs.declared.interior.Interior.{Interior}
use Rattle.ev_wire.specs.Learnt.{LearntGifts}
use Rattle.ev_wire.specs.Reading.{learnt_of}
use Rattle.ev_room.specs.Reading.{World, texts_of, vat_of}
use Rattle.ev_room.specs.Sound.{Grown, IsSound, Stays}
use Rattle.ev_tables.specs.Table.{Table}
use Rattle.ev_vat.specs.Vat.{ArrivalIs, StepIs, StopsWith, UnlessMemory}
use Rattle.ev_vat.specs.declared.vat.Vat.{Vat}
use Rattle.ev_vat.specs.declared.vat.VatStop.{VatStop}
use Rattle.ev_vat.specs.declared.vat.VatStop.TheVariants.{Fuel, Deep, WordRepeated, Astray, Memory}
use Rattle.ev_wire.specs.Putting as code
use Rattle.ev_wire.specs.Putting.{Addressed, put_all}
use Rattle.law_evaluation.specs.Arrivals.Arrivals.{vat_in}
use Rattle.def_run.specs.Asking.{AskAnew}
use Rattle.def_run.specs.Seeing.{SeesAsBefore}
use Rattle.ev_wire.specs.Standing.{AreFor, HasReferences, connections_of}
use Rattle.ev_wire.specs.PeerStatements.{framed}
use Rattle.ev_wire.proofs.Stays.{stays_for}
use Rattle.ev_wire.proofs.Writes.{writes_all}

-- ---- what a vat of the machine has of an inside

references_are : (w : World) (h : Host) → HasReferences (texts_of w) h.inside.refs (vat_in w h)
unfolding vat_of
references_are w h = record { number = refl; known = refl }

put_at : (before : machine.Vat Local) (texts : List Words) (key : List ℕ) (h : Host) → before.outbox ≡ [] → (vat_in (record { before = before; texts = texts; key = key }) h).outbox ≡ map (put_by (texts_of (record { before = before; texts = texts; key = key }))) h.inside.post
unfolding vat_of
put_at before texts key h e = ap (λ (ps : List (Put Local)). ps ++ map (put_by (texts_of (record { before = before; texts = texts; key = key }))) h.inside.post) e

gives_same : (d : Done Local (Unit {0})) (s t : machine.Vat Local) → d ≡ Gives tt s → d ≡ Gives tt t → s ≡ t
gives_same d s t e f = cc

-- ---- a step that came to its end

-- in each world that sees what is left, it is what the machine's step leaves
abbrev pub ComesTo : Host → Done Local (Unit {0}) → Type 0
ComesTo h d = (w : World) → Sees w h.inside → d ≡ Gives tt (vat_in w h)

module _ (i : Interior) (h : Host) (d : Done Local (Unit {0})) (sound : IsSound i) (grown : Grown i.heap h.inside.heap) (each : ComesTo h d) where
  -- its texts are those of the heap
  abbrev now : World
  now = grown_world i h.inside sound grown

  abbrev pub came : machine.Vat Local
  came = vat_in now h

  pub is_came : (w : World) → Sees w h.inside → vat_in w h ≡ came
  is_came w e = gives_same d (vat_in w h) came (each w e) (each now (sees_grown i h.inside sound grown))

  pub came_references : HasReferences h.inside.heap.texts h.inside.refs came
  came_references = subst (λ (ts : List Words). HasReferences ts h.inside.refs came) (grown_texts i h.inside sound grown) (references_are now h)

  pub came_outbox : came.outbox ≡ map (put_by h.inside.heap.texts) h.inside.post
  came_outbox = put_at now.before now.texts now.key h refl ∙ ap (λ (ts : List Words). map (put_by ts) h.inside.post) (grown_texts i h.inside sound grown)

map_map : {A B C : Type 0} (xs : List A) (f : B → C) (g : A → B) → map f (map g xs) ≡ map (λ x. f (g x)) xs
map_map [] f g = refl
map_map (x ∷ xs) f g = ap (λ (ys : List _). f (g x) ∷ ys) (map_map xs f g)

-- what has a spelling
ops_of : (xs : List Framed) → AllSpelled (map framed xs) → AreOps xs
ops_of [] all = tt
ops_of (x ∷ xs) all = (all.0, ops_of xs all.1)

-- what was written, as frames
module _ (c : Member) (b : Having) (s : machine.Vat Local) (xs : List Sending) (ts : List Table)
    (vat : (w : World) → Sees w c.vat.host.inside → vat_in w c.vat.host ≡ s)
    (references : HasReferences c.vat.host.inside.heap.texts c.vat.host.inside.refs s)
    (outbox : s.outbox ≡ map (put_by c.vat.host.inside.heap.texts) c.vat.host.inside.post)
    (sound : IsSound c.vat.host.inside) (going : c.vat.stopped ≡ None) (learnt : map learnt_of c.learnt ≡ b.learnt)
    (had : connections_of ts ≡ b.connections) (all : AreFor c.vat.host.inside.refs ts)
    (sends : AreSent (code.all_written c.vat.host.inside c.vat.host.inside.post ts) xs)
    (tables : c.connections.items ≡ put_all c.vat.host.inside c.vat.host.inside.post ts) where
  abbrev i : Interior
  i = c.vat.host.inside

  abbrev puts : List (Put Local)
  puts = map (put_by i.heap.texts) i.post

  pub leaves : AskAnew s s.outbox b.connections → Leaves b s xs c
  leaves new =
      let anew : AskAnew s puts (connections_of ts) = subst (λ (cs : List (Connection Local)). AskAnew s puts cs) (sym had) (subst (λ (ps : List (Put Local)). AskAnew s ps b.connections) outbox new) in
      let after = writes_all i s (λ n. Root 0) i.post ts references anew all in
      record {
        sends = λ f.
            sends.frames ∙ ap (λ (ys : List Addressed). map packed ys) (sym (writes_all i s f i.post ts references anew all).0)
            ∙ map_map (frames_of s f puts (connections_of ts)) packed framed
            ∙ ap (λ (cs : List (Connection Local)). map spelled (frames_of s f puts cs)) had
            ∙ ap (λ (ps : List (Put Local)). map spelled (frames_of s f ps b.connections)) (sym outbox);
        fits = λ f.
            subst (λ (ps : List (Put Local)). AreOps (frames_of s f ps b.connections)) (sym outbox)
            (subst (λ (cs : List (Connection Local)). AreOps (frames_of s f puts cs)) had
            (ops_of (frames_of s f puts (connections_of ts)) (subst AllSpelled (sym (writes_all i s f i.post ts references anew all).0) sends.fits)));
        member = λ t. record {
          vat = λ w e. ap (λ (x : machine.Vat Local). with_draws 0 [] x) (vat w e);
          rest = record {
            sound = sound;
            going = going;
            learnt = learnt;
            connections = ap connections_of tables ∙ after.1 ∙ ap (λ (cs : List (Connection Local)). all_written s puts cs) had ∙ ap (λ (ps : List (Put Local)). all_written s ps b.connections) (sym outbox);
            tables = subst (λ (us : List Table). AreFor i.refs us) (sym tables) after.2;
          };
        };
      }

-- ---- steps that no note brought

module _ (fuel : ℕ) (drawn : List ℕ) (m : Theirs) (q c : Member) (found : IsFound fuel drawn m q) where
  abbrev before : Interior
  before = q.vat.host.inside

  abbrev after : Interior
  after = c.vat.host.inside

  pub references_before : (w : World) → Sees w before → HasReferences (texts_of w) before.refs m.vat
  references_before w e =
      let r = references_are w q.vat.host in
      let same = found.vat w e in
      record { number = ap (λ (x : machine.Vat Local). x.number) (sym same) ∙ r.number; known = ap (λ (x : machine.Vat Local). x.known) (sym same) ∙ r.known }

  -- what was sent, where the step came to its end
  pub done_so : (xs : List Sending) (d : Done Local (Unit {0})) (grown : Grown before.heap after.heap) (stays : Stays before after) → IsSound after → c.vat.stopped ≡ None → c.learnt ≡ q.learnt
      → AreSent (code.all_written after after.post q.connections.items) xs → c.connections.items ≡ put_all after after.post q.connections.items → ComesTo c.vat.host d
      → (s : machine.Vat Local) × IsDone s c d × (IsSteady m (own m) s → Leaves (own m) s xs c)
  done_so xs d grown stays sound going learnt sends tables each =
      let w = grown_world before after found.rest.sound grown in
      let sees = sees_grown before after found.rest.sound grown in
      let s = came before c.vat.host d found.rest.sound grown each in
      let is = is_came before c.vat.host d found.rest.sound grown each in
      let references = came_references before c.vat.host d found.rest.sound grown each in (
        s,
        record { gives = each w sees; vat = is },
        λ steady.
            leaves c (own m) s xs q.connections.items is references (came_outbox before c.vat.host d found.rest.sound grown each) sound going (ap (λ (l : LearntGifts). map learnt_of l) learnt ∙ found.rest.learnt) found.rest.connections
            (stays_for (texts_of w) after.heap.texts before.refs after.refs m.vat s q.connections.items (references_before w (sees_back w before after grown stays sees)) references
            (subst (λ (cs : List (Connection Local)). SeesAsBefore m.vat s cs) (sym found.rest.connections) steady.owns) found.rest.tables)
            sends tables steady.asks,
      )

  -- ---- steps of the inside

  -- what the machine's step is in each world that sees what is left, where the vat has its gifts
  abbrev pub BeginsAs : (World → Done Local (Unit {0})) → Done Local (Unit {0}) → Type 0
  BeginsAs step d = (w : World) → Sees w after → step (gifted q.vat.host.gifts w) ≡ d

  pub sees_before : (grown : Grown before.heap after.heap) (stays : Stays before after) (w : World) → Sees w after → vat_of (gifted q.vat.host.gifts w) before ≡ with_draws fuel drawn m.vat
  sees_before grown stays w e = sym (gifted_is w q.vat.host.gifts before) ∙ found.vat w (sees_back w before after grown stays e)

  -- what an act of the inside begins with
  pub own_begins : (act : List ℕ → Act Local (Unit {0})) (grown : Grown before.heap after.heap) (stays : Stays before after) → BeginsAs (λ w. act w.key (vat_of w before)) (act before.words.key (with_draws fuel drawn m.vat))
  own_begins act grown stays = λ w e.
      ap (λ (k : List ℕ). act k (vat_of (gifted q.vat.host.gifts w) before)) (sym e.key ∙ stays)
      ∙ ap (λ (x : machine.Vat Local). act before.words.key x) (sees_before grown stays w e)

  module _ (step : World → Done Local (Unit {0})) (d : Done Local (Unit {0})) where
    pub own_comes : (stays : Stays before after) → c.vat.host.gifts ≡ q.vat.host.gifts → BeginsAs step d
        → ((w : World) (rest : List Words) → texts_of w ≡ after.heap.texts ++ rest → before.words.key ≡ w.key → StepIs w (Ok tt) after (step w))
        → ComesTo c.vat.host d
    own_comes stays gifts begins each = λ w e.
        sym (begins w e) ∙ each (gifted q.vat.host.gifts w) e.rest e.texts (sym stays ∙ e.key)
        ∙ ap (λ (x : machine.Vat Local). Gives tt x) (sym (gifted_is w q.vat.host.gifts after) ∙ ap (λ (gs : Gifts). with_gifts gs (vat_of w after)) (sym gifts))

    module _ {A : Type 0} (read : A → List Sending) where
      stops : (k : machine.Stop) (grown : Grown before.heap after.heap) (stays : Stays before after) → BeginsAs step d
          → ((w : World) (rest : List Words) → texts_of w ≡ after.heap.texts ++ rest → before.words.key ≡ w.key → StopsWith k (step w))
          → StopsWith k d
      stops k grown stays begins each =
          let w = grown_world before after found.rest.sound grown in
          let e = sees_grown before after found.rest.sound grown in
          subst (λ (o : Done Local (Unit {0})). StopsWith k o) (begins w e) (each (gifted q.vat.host.gifts w) e.rest e.texts (sym stays ∙ e.key))

      pub own_stops : (r : VatStop) → (Grown before.heap after.heap → Stays before after → BeginsAs step d)
          → ((w : World) (rest : List Words) → texts_of w ≡ after.heap.texts ++ rest → before.words.key ≡ w.key → StepIs w (Err r) after (step w))
          → UnlessMemory {A = Unit {0}} (Err r) (Grown before.heap after.heap) → UnlessMemory {A = Unit {0}} (Err r) (Stays before after) → EndsSo m (own m) read (Err r) c d
      own_stops Fuel begins each grown stays = stops machine.Fuel grown stays (begins grown stays) each
      own_stops Deep begins each grown stays = stops machine.Deep grown stays (begins grown stays) each
      own_stops (WordRepeated x y) begins each grown stays = stops (machine.Repeated x y) grown stays (begins grown stays) each
      own_stops Astray begins each grown stays = stops machine.Astray grown stays (begins grown stays) each
      own_stops Memory begins each grown stays = tt

  -- what was put is sent, unless memory ran out
  pub own_sends : {A : Type 0} (read : A → List Sending) (r : Result A VatStop) (d : Done Local (Unit {0})) (grown : Grown before.heap after.heap) (stays : Stays before after) → IsSound after → c.vat.stopped ≡ None → c.learnt ≡ q.learnt
      → IfOk r (λ a. AreSent (code.all_written after after.post q.connections.items) (read a)) → OnOk r (c.connections.items ≡ put_all after after.post q.connections.items)
      → IfErr r (λ e. e ≡ Memory) → ComesTo c.vat.host d → EndsSo m (own m) read r c d
  own_sends read (Ok a) d grown stays sound going learnt sends tables fault each = done_so (read a) d grown stays sound going learnt sends tables each
  own_sends read (Err Memory) d grown stays sound going learnt sends tables fault each = tt
  own_sends read (Err Fuel) d grown stays sound going learnt sends tables fault each = absurd cc
  own_sends read (Err Deep) d grown stays sound going learnt sends tables fault each = absurd cc
  own_sends read (Err (WordRepeated x y)) d grown stays sound going learnt sends tables fault each = absurd cc
  own_sends read (Err Astray) d grown stays sound going learnt sends tables fault each = absurd cc

  module _ (act : List ℕ → Act Local (Unit {0})) where
    -- ---- steps of a vat with the gifts that it hosts

    host_begins : (grown : Grown before.heap after.heap) (stays : Stays before after) (w : World) → Sees w after → act w.key (vat_in w q.vat.host) ≡ act before.words.key (with_draws fuel drawn m.vat)
    host_begins grown stays w e =
        ap (λ (k : List ℕ). act k (vat_in w q.vat.host)) (sym e.key ∙ stays)
        ∙ ap (λ (x : machine.Vat Local). act before.words.key x) (found.vat w (sees_back w before after grown stays e))

    pub host_comes : (grown : Grown before.heap after.heap) (stays : Stays before after)
        → ((w : World) (rest : List Words) → texts_of w ≡ after.heap.texts ++ rest → before.words.key ≡ w.key → ArrivalIs w (Ok tt) c.vat.host (act w.key (vat_in w q.vat.host)))
        → ComesTo c.vat.host (act before.words.key (with_draws fuel drawn m.vat))
    host_comes grown stays step = λ w e. sym (host_begins grown stays w e) ∙ step w e.rest e.texts (sym stays ∙ e.key)

    module _ {A : Type 0} (read : A → List Sending) where
      host_stops_with : (k : machine.Stop) (grown : Grown before.heap after.heap) (stays : Stays before after)
          → ((w : World) (rest : List Words) → texts_of w ≡ after.heap.texts ++ rest → before.words.key ≡ w.key → StopsWith k (act w.key (vat_in w q.vat.host)))
          → StopsWith k (act before.words.key (with_draws fuel drawn m.vat))
      host_stops_with k grown stays step =
          let w = grown_world before after found.rest.sound grown in
          let e = sees_grown before after found.rest.sound grown in
          subst (λ (d : Done Local (Unit {0})). StopsWith k d) (host_begins grown stays w e) (step w e.rest e.texts (sym stays ∙ e.key))

      pub host_stops : (r : VatStop) → ((w : World) (rest : List Words) → texts_of w ≡ after.heap.texts ++ rest → before.words.key ≡ w.key → ArrivalIs w (Err r) c.vat.host (act w.key (vat_in w q.vat.host)))
          → UnlessMemory {A = Unit {0}} (Err r) (Grown before.heap after.heap) → UnlessMemory {A = Unit {0}} (Err r) (Stays before after) → EndsSo m (own m) read (Err r) c (act before.words.key (with_draws fuel drawn m.vat))
      host_stops Fuel step grown stays = host_stops_with machine.Fuel grown stays step
      host_stops Deep step grown stays = host_stops_with machine.Deep grown stays step
      host_stops (WordRepeated x y) step grown stays = host_stops_with (machine.Repeated x y) grown stays step
      host_stops Astray step grown stays = host_stops_with machine.Astray grown stays step
      host_stops Memory step grown stays = tt

-- the vat of a member, where that is another name for it
pub with_vat : (z : Member) (v : Vat) → z.vat ≡ v → record z { vat = v } ≡ z
with_vat z v e = ap (λ (x : Vat). record z { vat = x }) (sym e)

-- what holds anyway
pub always : {A E : Type 0} (r : Result A E) (P : Type 0) → P → OnOk r P
always (Ok a) P p = p
always (Err e) P p = tt
