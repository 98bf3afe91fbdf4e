-- What references do in a turn is what the machine does.
use Rattle.std.proofs.Common.{◌≡◌, ℕ, ◌+◌, ◌<◌, true, List, [], ◌∷◌, Option, Some, Ok, Err, length, refl, sym, ap, subst, ◌∙◌}
use Rattle.std.specs.Prelude.{get_or, option_map, slice_get, unwrap_or}
use Rattle.std.proofs.lemmas.Option.{slice_get-get_or, slice_get-map}
use Rattle.ev_base.specs.declared.values.Value.{Value as Held}
use Rattle.ev_base.specs.declared.values.Value.TheVariants as held
use Rattle.ev_heap.specs.Contents.{Contents}
use Rattle.ev_heap.specs.declared.kept.Listed.{Listed}
use Rattle.def_machine.specs.State as machine
use Rattle.def_machine.specs.State.{Vat, Done}
use Rattle.def_machine.specs.Values.{Words, Local}
use Rattle.ev_steps.specs.Eventual.{exit_of, lifted, lifted_by}
use Rattle.ev_pass.specs.Acts as inside
use Rattle.ev_pass.specs.Measuring.{own_weight}
use Rattle.ev_pass.specs.Reading.{Reads, vat_at}
use Rattle.ev_pass.specs.declared.interior.Interior.{Interior}
use Rattle.ev_pass.specs.declared.interior.Stop.TheVariants.{Fuel, Repeated, Astray, Missing, Memory}
use Rattle.ev_prims.specs.Answers as answers
use Rattle.ev_refs.specs.Leading.{lists_in, members_at}
use Rattle.ev_refs.specs.Mailing.{with_promise}
use Rattle.ev_refs.specs.References.{unsettled_of}
use Rattle.ev_refs.specs.Statements.{KnowsTexts}
use Rattle.law_evaluation.proofs.Acts.Lists.{every_more}
use Rattle.ev_room.specs.Acts.{Act, and_then}
use Rattle.ev_room.specs.Holding.{Every, IsOf, KnownOf, ReferencesOf}
use Rattle.ev_room.specs.Reading.{World, beside, line_of, text_of, texts_of}
use Rattle.ev_room.specs.Sound.{Grown, IsSound, KnowsProblems, is_there, are_there}
use Rattle.ev_room.proofs.There.{below, both}
use Rattle.ev_settle.specs.Statements.{EndsFor}
use Rattle.law_evaluation.proofs.Acts.Inside.{reads, stands}
use Rattle.law_evaluation.proofs.Acts.Replies.{members_there}
use Rattle.law_evaluation.proofs.Acts.Sounds.{grown_by, sound_by}
use Rattle.law_evaluation.proofs.Acts.Stands.{Look, Met, before_back, carried, vat}
use Rattle.law_evaluation.proofs.Acts.Weights.{IsBefore}
use Rattle.law_evaluation.specs.Acts.Kinds.{Base, GroundOf, InsideOf, EndsOf, Anything}

-- ---- what a vat that is sound stands on

abbrev pub base_of : Interior → Base
base_of s = record { heap = s.heap; partition = s.refs.partition; cycle = s.refs.cycle; heavy = s.too_heavy; key = s.words.key }

abbrev pub stands_in : Interior → Held → Type 0
stands_in s v = is_there s.heap v ≡ true

weighed_text : (ts : List Words) (id : ℕ) → id < length ts → (n : ℕ) × (option_map (λ (t : Words). length t + 1) (slice_get ts id) ≡ Some n)
weighed_text ts id h = (length (get_or ts id []) + 1, ap (λ (o : Option Words). option_map (λ (t : Words). length t + 1) o) (slice_get-get_or ts id [] h))

pub each_of : (h : Contents) (vs : List Held) → are_there h vs ≡ true → Every (IsOf (is_there h)) vs
each_of h [] i = tt
each_of h (v ∷ vs) i = let s = both (is_there h v) (are_there h vs) i in (s.0, each_of h vs s.1)

module _ (s : Interior) (sound : IsSound s) where
  has_text : (v : Held) → stands_in s v → (n : ℕ) × (own_weight s.heap v ≡ Some n)
  has_text (held.Text id) i = weighed_text s.heap.texts id (below id (length s.heap.texts) i)
  has_text (held.Broken id) i = weighed_text s.heap.texts id (below id (length s.heap.texts) i)
  has_text other i = (1, refl)

  members_so : (k : ℕ) → members_at (lists_in s.heap) k ≡ answers.members_at s.heap k
  members_so k = ap (λ (o : Option (List Held)). unwrap_or o []) (slice_get-map (λ (l : Listed). l.members) s.heap.lists k)

  pub ground_of : GroundOf (is_there s.heap) (base_of s)
  ground_of = record {
    texts = has_text;
    members = λ k. subst (Every (IsOf (is_there s.heap))) (sym (members_so k)) (each_of s.heap (answers.members_at s.heap k) (members_there s.heap sound.lists k));
    names = λ n. refl;
    broken = λ t i. i;
    partition = sound.refs.partition;
    cycle = sound.refs.cycle;
  }

  pub inside_of : InsideOf (is_there s.heap) (base_of s) s
  inside_of = record { heap = refl; refs = record { known = sound.refs.known; queue = sound.refs.queue; partition = refl; cycle = refl }; heavy = refl; key = refl }

  -- what acts on references leave is sound
  pub sound_after : (t : Interior) → InsideOf (is_there s.heap) (base_of s) t → IsSound t
  sound_after t g =
      let knows : KnowsProblems t = record {
        partition = g.refs.partition ∙ sound.knows.partition;
        cycle = g.refs.cycle ∙ sound.knows.cycle;
        heavy = g.heavy ∙ sound.knows.heavy;
      } in
      let held_so : ReferencesOf (is_there s.heap) t.refs = record {
        known = g.refs.known;
        queue = g.refs.queue;
        partition = subst (λ (n : ℕ). IsOf (is_there s.heap) (held.Broken n)) (sym g.refs.partition) sound.refs.partition;
        cycle = subst (λ (n : ℕ). IsOf (is_there s.heap) (held.Broken n)) (sym g.refs.cycle) sound.refs.cycle;
      } in
      sound_by (grown_by s.heap t.heap (ap (λ (h : Contents). h.texts) g.heap) (ap (λ (h : Contents). h.lists) g.heap)) sound
      (ap (λ (h : Contents). h.slots) g.heap) (ap (λ (h : Contents). h.things) g.heap) (ap (λ (h : Contents). h.lists) g.heap)
      (subst (λ (h : Contents). ReferencesOf (is_there h) t.refs) (sym g.heap) held_so) knows

  -- one more promise of the vat's own leaves it sound
  pub promise_sound : IsSound (record s { refs = with_promise s.refs })
  promise_sound = sound_after (record s { refs = with_promise s.refs }) (record {
    heap = refl;
    refs = record { known = every_more (KnownOf (is_there s.heap)) s.refs.known (unsettled_of s.refs.me) sound.refs.known (tt, (tt, tt)); queue = sound.refs.queue; partition = refl; cycle = refl };
    heavy = refl;
    key = refl;
  })

  -- the problems of references are the texts of the end that have their numbers
  pub knows_texts : (w : World) → KnowsTexts (texts_of w) s.refs
  knows_texts w = (ap (λ (n : ℕ). text_of w n) sound.knows.partition, ap (λ (n : ℕ). text_of w n) sound.knows.cycle)

  -- it is read as the laws of references ask, where it comes before the end of the turn
  pub reads_before : (w : World) → IsBefore w s → Reads (texts_of w) w.key s
  reads_before w b = subst (λ (key : List ℕ). Reads (texts_of w) key s) b.1 (reads w s b.0.0 sound.knows b.0.1)

-- ---- what follows what references do

module _ (w : World) (s : Interior) (sound : IsSound s) where
  grown_in : (t : Interior) → InsideOf (is_there s.heap) (base_of s) t → Grown s.heap t.heap
  grown_in t g = grown_by s.heap t.heap (ap (λ (h : Contents). h.texts) g.heap) (ap (λ (h : Contents). h.lists) g.heap)

  -- what comes before the end later does so earlier
  back : (t : Interior) → InsideOf (is_there s.heap) (base_of s) t → IsBefore w t → IsBefore w s
  back t g b = before_back w s t (grown_in t g) g.key b

  -- what ends a vat so does, beside which nothing changed
  end_at : {A C D : Type 0} (look : Look C D) (f : A → Act C) (end : A → Vat Local → Done Local D) (d : Done Local D) (a : A) (t : Interior) → InsideOf (is_there s.heap) (base_of s) t
      → (IsBefore w t → d ≡ end a (vat_at (texts_of w) (line_of w) t (beside w s))) → Met w look t (f a t) (end a (vat w t)) → Met w look s (f a t) d
  end_at {D = D} look f end d a t g is m =
      carried w look s t (f a t) d (end a (vat w t)) (λ (x : Done Local D). x) (grown_in t g) g.key
      (λ b. is b ∙ ap (end a) (sym (stands w s t g.heap))) m

  -- what follows a reference's act, by how that is told to end
  pub then_ends : {A C D : Type 0} (look : Look C D) (o : inside.Out A) (f : A → Act C) (end : A → Vat Local → Done Local D) (d : Done Local D)
      → EndsOf (is_there s.heap) (base_of s) Anything o
      → (IsBefore w s → EndsFor (texts_of w) w.key (line_of w) (beside w s) end o d)
      → ((a : A) (t : Interior) → IsSound t → t.heap ≡ s.heap → Met w look t (f a t) (end a (vat w t)))
      → Met w look s (and_then (lifted o) f) d
  unfolding and_then lifted_by exit_of
  then_ends look (Ok a, t) f end d g is next =
      end_at look f end d a t g.1 (λ b. (is (back t g.1 b)).0) (next a t (sound_after s sound t g.1) g.1.heap)
  then_ends look (Err Fuel, t) f end d g is next = record { grown = grown_in t g.1; stays = g.1.key; keeps = tt; is = λ b. is (back t g.1 b) ∙ ap (machine.Stops machine.Fuel) (sym (stands w s t g.1.heap)) }
  then_ends look (Err (Repeated i j), t) f end d g is next = record { grown = grown_in t g.1; stays = g.1.key; keeps = tt; is = λ b. is (back t g.1 b) ∙ ap (machine.Stops (machine.Repeated i j)) (sym (stands w s t g.1.heap)) }
  then_ends look (Err Astray, t) f end d g is next = record { grown = grown_in t g.1; stays = g.1.key; keeps = tt; is = λ b. is (back t g.1 b) ∙ ap (machine.Stops machine.Astray) (sym (stands w s t g.1.heap)) }
  then_ends look (Err Missing, t) f end d g is next = absurd g.0
  then_ends look (Err Memory, t) f end d g is next = record { grown = grown_in t g.1; stays = g.1.key; keeps = tt; is = λ b. tt }
