-- Turns of a vat with what it has for its peers.
use Rattle.std.proofs.Common.{◌≡◌, ℕ, Bool, true, false, List, [], ◌∷◌, ◌++◌, map, Option, Some, None, Result, Ok, Err, refl, sym, ap, subst, ◌∙◌}
use Rattle.def_kernel.specs.declared.node.Node.{Node}
use Rattle.def_run.specs.Vats.{Member as Theirs}
use Rattle.def_machine.specs.Eval.{taking}
use Rattle.def_machine.specs.State as machine
use Rattle.def_machine.specs.State.{Done}
use Rattle.def_machine.specs.Values.{Words, Local}
use Rattle.ev_intro.specs.Gift.{Gifts}
use Rattle.ev_vat.proofs.MemberSteps.{own_comes, own_sends, own_stops, sees_before}
use Rattle.ev_vat.proofs.Worlds.{gifted, grown_world, sees_grown}
use Rattle.ev_vat.specs.Sending.{AreSent}
use Rattle.ev_vat.specs.Standing.{IsFound, Sees, with_draws}
use Rattle.ev_vat.specs.MemberSteps.{IdlesSo, Turns}
use Rattle.ev_vat.specs.declared.member.Member.{Member}
use Rattle.ev_vat.specs.declared.sending.Sending.{Sending}
use Rattle.ev_pass.specs.Reading.{names_under}
use Rattle.ev_pass.specs.declared.interior.Interior.{Interior}
use Rattle.ev_refs.specs.Reading.{message_by}
use Rattle.ev_refs.specs.declared.known.Message.{Message}
use Rattle.ev_room.specs.Reading.{World, names, texts_of, vat_of}
use Rattle.ev_room.specs.Sound.{Grown, IsSound, Stays}
use Rattle.ev_vat.specs.Vat.{TurnOf, UnlessMemory, with_queue}
use Rattle.ev_vat.specs.declared.vat.Vat.{Vat}
use Rattle.ev_vat.specs.declared.vat.VatStop.{VatStop}
use Rattle.ev_vat.specs.declared.vat.VatStop.TheVariants.{Fuel, Deep, WordRepeated, Astray, Memory}
use Rattle.ev_wire.specs.Putting as code
use Rattle.ev_wire.specs.Putting.{put_all}
use Rattle.law_evaluation.proofs.Acts.Sounds.{grown_same}

queued : (w : World) (i : Interior) (qs : List Message) → vat_of w (with_queue qs i) ≡ record (vat_of w i) { queue = map (message_by (texts_of w)) qs }
unfolding vat_of
queued w i qs = refl

queue_in : (w : World) (i : Interior) → (vat_of w i).queue ≡ map (message_by (texts_of w)) i.refs.queue
unfolding vat_of
queue_in w i = refl

head_is : {A : Type 0} (x y : A) (xs ys : List A) → x ∷ xs ≡ y ∷ ys → x ≡ y
head_is x y xs ys e = cc

tail_is : {A : Type 0} (x y : A) (xs ys : List A) → x ∷ xs ≡ y ∷ ys → xs ≡ ys
tail_is x y xs ys e = cc

module _ (fuel : ℕ) (drawn : List ℕ) (m : Theirs) (q c : Member) (found : IsFound fuel drawn m q) (tree : List Node) (depth : ℕ) where
  abbrev before : Interior
  before = q.vat.host.inside

  abbrev after : Interior
  after = c.vat.host.inside

  abbrev pub take : machine.Message Local → machine.Act Local (Unit {0})
  take x = taking (names_under before.words.key) tree depth x

  -- each message of the queue is the machine's
  queue_is : (grown : Grown before.heap after.heap) (stays : Stays before after) (w : World) → Sees w after → map (message_by (texts_of w)) before.refs.queue ≡ m.vat.queue
  queue_is grown stays w e = sym (queue_in (gifted q.vat.host.gifts w) before) ∙ ap (λ (s : machine.Vat Local). s.queue) (sees_before fuel drawn m q c found grown stays w e)

  module _ (y : Message) (ys : List Message) (here : before.refs.queue ≡ y ∷ ys) where
    -- the turn in each world
    abbrev pub taken_in : World → Done Local (Unit {0})
    taken_in w = taking (names w) tree depth (message_by (texts_of w) y) (vat_of w (with_queue ys before))

    module _ (x : machine.Message Local) (xs : List (machine.Message Local)) (there : m.vat.queue ≡ x ∷ xs) where
      abbrev pub begun : Done Local (Unit {0})
      begun = take x (record (with_draws fuel drawn m.vat) { queue = xs })

      pub takes_same : (grown : Grown before.heap after.heap) (stays : Stays before after) (w : World) → Sees w after → taken_in (gifted q.vat.host.gifts w) ≡ begun
      takes_same grown stays w e =
          let v = gifted q.vat.host.gifts w in
          let same : message_by (texts_of w) y ∷ map (message_by (texts_of w)) ys ≡ x ∷ xs = ap (map (message_by (texts_of w))) (sym here) ∙ queue_is grown stays w e ∙ there in
          ap (λ (k : List ℕ). taking (names_under k) tree depth (message_by (texts_of w) y) (vat_of v (with_queue ys before))) (sym e.key ∙ stays)
          ∙ ap (λ (z : machine.Message Local). take z (vat_of v (with_queue ys before))) (head_is (message_by (texts_of w) y) x (map (message_by (texts_of w)) ys) xs same)
          ∙ ap (λ (s : machine.Vat Local). take x s) (queued v before ys)
          ∙ ap (λ (s : machine.Vat Local). take x (record s { queue = map (message_by (texts_of w)) ys })) (sees_before fuel drawn m q c found grown stays w e)
          ∙ ap (λ (zs : List (machine.Message Local)). take x (record (with_draws fuel drawn m.vat) { queue = zs })) (tail_is (message_by (texts_of w) y) x (map (message_by (texts_of w)) ys) xs same)

  -- ---- queues are empty together

  abbrev first : World
  first = grown_world before before found.rest.sound (grown_same before.heap)

  pairs : (qs : List Message) (ms : List (machine.Message Local)) → before.refs.queue ≡ qs → m.vat.queue ≡ ms → map (message_by (texts_of first)) qs ≡ ms
  pairs qs ms here there =
      ap (map (message_by (texts_of first))) (sym here)
      ∙ sym (queue_in first before)
      ∙ ap (λ (s : machine.Vat Local). s.queue) (found.vat first (sees_grown before before found.rest.sound (grown_same before.heap)))
      ∙ there

  abbrev pub Turned : Result Bool VatStop → List Message → Type 0
  Turned r qs = (w : World) (rest : List Words) → texts_of w ≡ after.heap.texts ++ rest → before.words.key ≡ w.key → TurnOf w tree depth r before after qs

  pub by_test : (a b : Bool) → a ≡ b → (qs : List Message) → Turned (Ok a) qs → Turned (Ok b) qs
  by_test a b e qs step = subst (λ (x : Bool). Turned (Ok x) qs) e step

  -- what the code did in the world of the heap
  done_in : (r : Result Bool VatStop) (qs : List Message) (grown : Grown before.heap after.heap) (stays : Stays before after) → Turned r qs → TurnOf (grown_world before after found.rest.sound grown) tree depth r before after qs
  done_in r qs grown stays step =
      let e = sees_grown before after found.rest.sound grown in
      step (grown_world before after found.rest.sound grown) e.rest e.texts (sym stays ∙ e.key)

  module _ {A : Type 0} (read : A → List Sending) where
    pub turned : (a : A) (qs : List Message) (ms : List (machine.Message Local)) → before.refs.queue ≡ qs → m.vat.queue ≡ ms → (grown : Grown before.heap after.heap) (stays : Stays before after)
        → c.vat.host.gifts ≡ q.vat.host.gifts → IsSound after → c.vat.stopped ≡ None → c.learnt ≡ q.learnt
        → AreSent (code.all_written after after.post q.connections.items) (read a) → c.connections.items ≡ put_all after after.post q.connections.items
        → Turned (Ok true) qs → Turns fuel drawn m read (Ok (Some a)) q c take ms
    turned a [] ms here there grown stays gifts sound going learnt sends tables step = let e = (done_in (Ok true) [] grown stays step).0 in absurd cc
    turned a (y ∷ ys) [] here there grown stays gifts sound going learnt sends tables step = let e = pairs (y ∷ ys) [] here there in absurd cc
    turned a (y ∷ ys) (x ∷ xs) here there grown stays gifts sound going learnt sends tables step =
        own_sends fuel drawn m q c found read (Ok a) (begun y ys here x xs there) grown stays sound going learnt sends tables tt
        (own_comes fuel drawn m q c found (taken_in y ys here) (begun y ys here x xs there) stays gifts (takes_same y ys here x xs there grown stays) step)

    pub idle : (qs : List Message) (ms : List (machine.Message Local)) → before.refs.queue ≡ qs → m.vat.queue ≡ ms → (grown : Grown before.heap after.heap) (stays : Stays before after)
        → (after ≡ before → c ≡ q) → Turned (Ok false) qs → Turns fuel drawn m read (Ok None) q c take ms
    idle [] [] here there grown stays same step = (refl, same (done_in (Ok false) [] grown stays step).1)
    idle [] (x ∷ xs) here there grown stays same step = let e = pairs [] (x ∷ xs) here there in absurd cc
    idle (y ∷ ys) ms here there grown stays same step = absurd (done_in (Ok false) (y ∷ ys) grown stays step)

    none_stops : (e : VatStop) → Turned (Err e) [] → UnlessMemory {A = Bool} (Err e) (Grown before.heap after.heap) → UnlessMemory {A = Bool} (Err e) (Stays before after) → IdlesSo {A = A} (Err e) q c
    none_stops Fuel step grown stays = let e = (done_in (Err Fuel) [] grown stays step).0 in absurd cc
    none_stops Deep step grown stays = let e = (done_in (Err Deep) [] grown stays step).0 in absurd cc
    none_stops (WordRepeated i j) step grown stays = let e = (done_in (Err (WordRepeated i j)) [] grown stays step).0 in absurd cc
    none_stops Astray step grown stays = let e = (done_in (Err Astray) [] grown stays step).0 in absurd cc
    none_stops Memory step grown stays = tt

    pub turn_stops : (e : VatStop) (qs : List Message) (ms : List (machine.Message Local)) → before.refs.queue ≡ qs → m.vat.queue ≡ ms → Turned (Err e) qs
        → UnlessMemory {A = Bool} (Err e) (Grown before.heap after.heap) → UnlessMemory {A = Bool} (Err e) (Stays before after) → Turns fuel drawn m read (Err e) q c take ms
    turn_stops e [] [] here there step grown stays = none_stops e step grown stays
    turn_stops e [] (x ∷ xs) here there step grown stays = let f = pairs [] (x ∷ xs) here there in absurd cc
    turn_stops e (y ∷ ys) [] here there step grown stays = let f = pairs (y ∷ ys) [] here there in absurd cc
    turn_stops e (y ∷ ys) (x ∷ xs) here there step grown stays =
        own_stops fuel drawn m q c found (taken_in y ys here) (begun y ys here x xs there) read e (λ g s. takes_same y ys here x xs there g s) step grown stays

    -- after want of memory nothing is said
    pub turn_fails : (e : VatStop) → e ≡ Memory → (ms : List (machine.Message Local)) → Turns fuel drawn m read (Err e) q c take ms
    turn_fails Memory e [] = tt
    turn_fails Memory e (x ∷ xs) = tt
    turn_fails Fuel e ms = absurd cc
    turn_fails Deep e ms = absurd cc
    turn_fails (WordRepeated i j) e ms = absurd cc
    turn_fails Astray e ms = absurd cc

-- a vat whose inside stayed, where nothing else changed
pub vat_same : (q : Member) (v : Vat) → v.host.inside ≡ q.vat.host.inside → v.host.gifts ≡ q.vat.host.gifts → v.stopped ≡ q.vat.stopped → record q { vat = v } ≡ q
vat_same q v e f g =
    ap (λ (i : Interior). record q { vat = record v { host = record v.host { inside = i } } }) e
    ∙ ap (λ (gs : Gifts). record q { vat = record v { host = record q.vat.host { gifts = gs } } }) f
    ∙ ap (λ (o : Option VatStop). record q { vat = record q.vat { stopped = o } }) g
