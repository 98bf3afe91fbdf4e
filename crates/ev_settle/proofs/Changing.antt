-- The single changes of what a vat knows stand for those of the machine.
use Rattle.std.proofs.Common.{◌≡◌, ℕ, zero, suc, ◌+◌, true, false, List, [], ◌∷◌, ◌++◌, Option, Some, None, Ok, length, refl, sym, subst, ap, ◌∙◌, arith}
use Rattle.std.specs.Prelude.{map, option_map, slice_get, slice_set}
use Rattle.std.proofs.lemmas.List.{map-append}
use Rattle.ev_heap.specs.declared.happened.Happened.TheVariants as event
use Rattle.ev_intro.specs.Word.{word}
use Rattle.def_machine.specs.Refs as refs
use Rattle.def_machine.specs.State as machine
use Rattle.def_machine.specs.Arrive as arrive
use Rattle.def_machine.specs.State.{Vat, Hold, See, Views, Wait, WaitOn, Waits, alter}
use Rattle.def_machine.specs.Values.{Words, Local, Mess, Prom, IsAnswer, numbering}
use Rattle.ev_pass.specs.Acts as code
use Rattle.ev_pass.specs.Delivering.{deliver}
use Rattle.ev_pass.specs.Reading.{Lines, Reads, StandsFor, names_under, reference_by, vat_at}
use Rattle.ev_pass.specs.declared.interior.Interior.{Interior}
use Rattle.ev_pass.specs.declared.note.Reference.{Reference}
use Rattle.ev_pass.proofs.Delivers.{delivers}
use Rattle.ev_pass.proofs.Stands.{both_then, told_is}
use Rattle.ev_refs.specs.Changes.{with_held, with_waiting, waiting_on, seen_as}
use Rattle.ev_refs.specs.Reading.{text_by, value_by, message_by, known_by, knowns_by}
use Rattle.ev_refs.specs.References.{References, unsettled_of}
use Rattle.ev_refs.specs.declared.known.Known.{Known}
use Rattle.ev_refs.specs.declared.known.Message.{Message}
use Rattle.ev_refs.proofs.Changing as single
use Rattle.ev_refs.proofs.Changing.{change_is, unknown_same}
use Rattle.ev_refs.proofs.Machine.{as_many}
use Rattle.ev_settle.specs.Changes.{enqueue, hold, held_in, come, begin_wait, waiting_in, note_wait, awaited_in, wait_on, begin_view, viewing_in, see}
use Rattle.ev_settle.specs.Performing.{Tells}
use Rattle.ev_settle.specs.Settling.{pass_asking, pass_by_answer, pass_on}

pub one_name : (ts : List Words) (k : ℕ) (ks : List Known) (new : Known) → knowns_by ts k (ks ++ new ∷ []) ≡ knowns_by ts k ks ++ known_by ts (k + length ks) new ∷ []
unfolding knowns_by
one_name ts k [] new = let here : k ≡ k + zero = omega arith in ap (λ (x : ℕ). known_by ts x new ∷ []) here
one_name ts k (x ∷ ks) new =
    let same : suc k + length ks ≡ k + suc (length ks) = omega arith in
    ap (λ (ys : List (machine.Known Local)). known_by ts k x ∷ ys) (one_name ts (suc k) ks new ∙ ap (λ (n : ℕ). knowns_by ts (suc k) ks ++ known_by ts n new ∷ []) same)

module _ (ts : List Words) (key : List ℕ) (line : Lines) (s : Vat Local) where
  abbrev pub at : Interior → Vat Local
  at i = vat_at ts line i s

  abbrev with_refs : Interior → References → Interior
  with_refs i r = record i { refs = r }

  -- the texts of the problems keep their numbers
  pub reads_still : (i : Interior) (r : References) → r.partition ≡ i.refs.partition → r.cycle ≡ i.refs.cycle → Reads ts key i → Reads ts key (with_refs i r)
  reads_still i r e f good = record {
    known = (ap (λ (n : ℕ). text_by ts n) e ∙ good.known.0, ap (λ (n : ℕ). text_by ts n) f ∙ good.known.1);
    heavy = good.heavy;
    texts = good.texts;
    drawn = good.drawn;
  }

  pub enqueue_is : (m : Message) (i : Interior) → Reads ts key i → StandsFor ts key line s (λ u. u) (enqueue m i) (machine.enqueue (message_by ts m) (at i))
  unfolding enqueue machine.enqueue
  enqueue_is m i good = (
    ap (λ (q : List (machine.Message Local)). machine.Gives tt (record (at i) { queue = q })) (sym (map-append (message_by ts) i.refs.queue (m ∷ []))),
    reads_still i (record i.refs { queue = i.refs.queue ++ m ∷ [] }) refl refl good,
  )

  abbrev known_so : Interior → List (machine.Known Local) → machine.Done Local (Unit {0})
  known_so i ks = machine.Gives tt (record (at i) { known = ks })

  held_found : (n : ℕ) (m : Message) (i : Interior) (o : Option Known) → slice_get i.refs.known n ≡ o → Reads ts key i
      → StandsFor ts key line s (λ u. u) (Ok tt, with_refs i (held_in n m o i.refs)) (alter (names_under key) (Hold (message_by ts m)) (Prom n) (at i))
  unfolding alter held_in
  held_found n m i None h good = (ap (known_so i) (unknown_same (word key) ts (Hold (message_by ts m)) i.refs.known n h), reads_still i i.refs refl refl good)
  held_found n m i (Some k) h good = (
    ap (known_so i) (change_is (word key) ts (Hold (message_by ts m)) i.refs.known n k (with_held m k) h (single.hold_is ts n m k)),
    reads_still i (record i.refs { known = slice_set i.refs.known n (with_held m k) }) refl refl good,
  )

  pub hold_is : (n : ℕ) (m : Message) (i : Interior) → Reads ts key i → StandsFor ts key line s (λ u. u) (hold n m i) (alter (names_under key) (Hold (message_by ts m)) (Prom n) (at i))
  unfolding hold
  hold_is n m i good = held_found n m i (slice_get i.refs.known n) refl good

  begun_found : (p q : ℕ) (i : Interior) (o : Option Known) → slice_get i.refs.known p ≡ o → Reads ts key i
      → StandsFor ts key line s (λ u. u) (Ok tt, with_refs i (waiting_in p q o i.refs)) (alter (names_under key) (WaitOn (Prom q)) (Prom p) (at i))
  unfolding alter waiting_in
  begun_found p q i None h good = (ap (known_so i) (unknown_same (word key) ts (WaitOn (Prom q)) i.refs.known p h), reads_still i i.refs refl refl good)
  begun_found p q i (Some k) h good = (
    ap (known_so i) (change_is (word key) ts (WaitOn (Prom q)) i.refs.known p k (waiting_on q k) h (single.wait_on_is ts p q k)),
    reads_still i (record i.refs { known = slice_set i.refs.known p (waiting_on q k) }) refl refl good,
  )

  noted_found : (p q : ℕ) (i : Interior) (o : Option Known) → slice_get i.refs.known q ≡ o → Reads ts key i
      → StandsFor ts key line s (λ u. u) (Ok tt, with_refs i (awaited_in p q o i.refs)) (alter (names_under key) (Wait (Prom p)) (Prom q) (at i))
  unfolding alter awaited_in
  noted_found p q i None h good = (ap (known_so i) (unknown_same (word key) ts (Wait (Prom p)) i.refs.known q h), reads_still i i.refs refl refl good)
  noted_found p q i (Some k) h good = (
    ap (known_so i) (change_is (word key) ts (Wait (Prom p)) i.refs.known q k (with_waiting p k) h (single.wait_is ts q p k)),
    reads_still i (record i.refs { known = slice_set i.refs.known q (with_waiting p k) }) refl refl good,
  )

  viewed_found : (n g : ℕ) (i : Interior) (o : Option Known) → slice_get i.refs.known n ≡ o → Reads ts key i
      → StandsFor ts key line s (λ u. u) (Ok tt, with_refs i (viewing_in n g o i.refs)) (alter (names_under key) (See (Prom g)) (Prom n) (at i))
  unfolding alter viewing_in
  viewed_found n g i None h good = (ap (known_so i) (unknown_same (word key) ts (See (Prom g)) i.refs.known n h), reads_still i i.refs refl refl good)
  viewed_found n g i (Some k) h good = (
    ap (known_so i) (change_is (word key) ts (See (Prom g)) i.refs.known n k (seen_as g k) h (single.see_is ts n g k)),
    reads_still i (record i.refs { known = slice_set i.refs.known n (seen_as g k) }) refl refl good,
  )

  pub come_is : (h : ℕ) (m : Local) (i : Interior) → Reads ts key i → StandsFor ts key line s Prom (come h i) (machine.come (names_under key) (IsAnswer h m) h (at i))
  unfolding come machine.come machine.begun numbering
  come_is h m i good =
      let here : 0 + length i.refs.known ≡ length i.refs.known = omega arith in
      let names_are : knowns_by ts 0 i.refs.known ++ known_by ts (length i.refs.known) (unsettled_of h) ∷ [] ≡ knowns_by ts 0 (i.refs.known ++ unsettled_of h ∷ []) =
      sym (one_name ts 0 i.refs.known (unsettled_of h) ∙ ap (λ (x : ℕ). knowns_by ts 0 i.refs.known ++ known_by ts x (unsettled_of h) ∷ []) here) in (
        ap (λ (n : ℕ). machine.Gives (Prom n) (record (at i) { known = knowns_by ts 0 i.refs.known ++ known_by ts n (unsettled_of h) ∷ [] })) (as_many (word key) ts ts 0 i.refs.known)
            ∙ ap (λ (ks : List (machine.Known Local)). machine.Gives (Prom (length i.refs.known)) (record (at i) { known = ks })) names_are,
        reads_still i (record i.refs { known = i.refs.known ++ unsettled_of h ∷ [] }) refl refl good,
      )

  module _ (tells : Tells ts line) where
    pub wait_on_is : (p q : ℕ) (i : Interior) → Reads ts key i → StandsFor ts key line s (λ u. u) (wait_on p q i) (refs.wait_on (names_under key) (Prom p) (Prom q) (at i))
    unfolding wait_on refs.wait_on begin_wait note_wait code.◌>>◌ machine.◌>>◌
    wait_on_is p q i good =
        both_then ts key line s (λ u. u) (λ u. u) (code.tell (event.Wait p q) i) _ _ _ (told_is ts key line s (event.Wait p q) (Waits (Prom p) (Prom q)) i (tells.waits p q) good)
        (λ u j e next. both_then ts key line s (λ u. u) (λ u. u) (begin_wait p q j) _ _ _ (begun_found p q j (slice_get j.refs.known p) refl next)
        (λ v k f done. noted_found p q k (slice_get k.refs.known q) refl done))

    pub see_is : (n g : ℕ) (i : Interior) → Reads ts key i → StandsFor ts key line s (λ u. u) (see n g i) (arrive.see (names_under key) (Prom n) (Prom g) (at i))
    unfolding see arrive.see begin_view note_wait code.◌>>◌ machine.◌>>◌
    see_is n g i good =
        both_then ts key line s (λ u. u) (λ u. u) (code.tell (event.View n g) i) _ _ _ (told_is ts key line s (event.View n g) (Views (Prom n) (Prom g)) i (tells.views n g) good)
        (λ u j e next. both_then ts key line s (λ u. u) (λ u. u) (begin_view n g j) _ _ _ (viewed_found n g j (slice_get j.refs.known n) refl next)
        (λ v k f done. noted_found n g k (slice_get k.refs.known g) refl done))

    asking_is : (m : Message) (h : ℕ) (x : Reference) (p : ℕ) (i : Interior) → Reads ts key i
        → StandsFor ts key line s (λ u. u) (pass_asking m h x p i) (machine.and_then (machine.come (names_under key) (IsAnswer h (Mess m.id)) h (at i)) (λ a t. machine.and_then (refs.deliver (names_under key) (record (message_by ts m) { answer = Some a }) h (reference_by x) t) (λ _. refs.wait_on (names_under key) (Prom p) a)))
    unfolding pass_asking code.◌>>=◌ code.◌>>◌
    asking_is m h x p i good =
        both_then ts key line s Prom (λ u. u) (come h i) _ _ _ (come_is h (Mess m.id) i good)
        (λ a j e next. both_then ts key line s (λ u. u) (λ u. u) (deliver m.id (Some a) m.verb m.args h x j) _ _ _
        (delivers ts key line s m.id (Some a) m.verb m.args h x (value_by ts m.target) j next (tells.posted h m.id))
        (λ u k f done. wait_on_is p a k done))

    by_answer : (m : Message) (h : ℕ) (x : Reference) (o : Option ℕ) (i : Interior) → m.answer ≡ o → Reads ts key i
        → StandsFor ts key line s (λ u. u) (pass_by_answer m h x o i)
        (machine.for_some (option_map Prom o) (λ p. machine.◌>>=◌ (machine.come (names_under key) (IsAnswer h (Mess m.id)) h) (λ a. machine.◌>>◌ (refs.deliver (names_under key) (record (message_by ts m) { answer = Some a }) h (reference_by x)) (refs.wait_on (names_under key) p a))) (refs.deliver (names_under key) (message_by ts m) h (reference_by x)) (at i))
    unfolding pass_by_answer machine.for_some machine.◌>>=◌ machine.◌>>◌
    by_answer m h x (Some p) i is good = asking_is m h x p i good
    by_answer m h x None i is good = subst (λ (o : Option ℕ). StandsFor ts key line s (λ u. u) (deliver m.id None m.verb m.args h x i) (refs.deliver (names_under key) (record { id = Mess m.id; target = value_by ts m.target; verb = m.verb; args = map (value_by ts) m.args; answer = option_map Prom o }) h (reference_by x) (at i)))
        (sym is) (delivers ts key line s m.id None m.verb m.args h x (value_by ts m.target) i good (tells.posted h m.id))

    pub pass_on_is : (m : Message) (h : ℕ) (x : Reference) (i : Interior) → Reads ts key i → StandsFor ts key line s (λ u. u) (pass_on m h x i) (refs.pass_on (names_under key) (message_by ts m) h (reference_by x) (at i))
    unfolding pass_on refs.pass_on
    pass_on_is m h x i good = by_answer m h x m.answer i refl good
