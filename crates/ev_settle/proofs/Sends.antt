-- What a name resolves to, and messages that are sent, as the machine has them.
use Rattle.std.proofs.Common.{◌≡◌, ℕ, zero, suc, ◌+◌, Bool, true, false, List, [], ◌∷◌, ◌++◌, Option, Some, None, Ok, Err, length, map, refl, sym, ap, ◌∙◌, subst, arith}
use Rattle.std.specs.Prelude.{Result, codes, if◌then◌else◌, option_map, slice_get}
use Rattle.ev_base.specs.declared.values.Value.{Value as Held}
use Rattle.ev_base.specs.declared.values.Value.TheVariants as held
use Rattle.ev_heap.specs.declared.happened.Happened.TheVariants as event
use Rattle.ev_intro.specs.Word.{word}
use Rattle.def_machine.specs.Refs as refs
use Rattle.def_machine.specs.State as machine
use Rattle.def_machine.specs.State.{Vat, Sends, Lost}
use Rattle.def_machine.specs.Values.{Words, Value, Null, Broken, Ref, Local, Mess, Prom, IsCarried, numbering}
use Rattle.ev_pass.specs.Acts as code
use Rattle.ev_pass.specs.Acts.{Out}
use Rattle.ev_pass.specs.Delivering.{deliver}
use Rattle.ev_pass.specs.Reading.{Lines, Reads, StandsFor, names_under, vat_at}
use Rattle.ev_pass.specs.declared.interior.Interior.{Interior}
use Rattle.ev_pass.specs.declared.interior.Stop.TheVariants as stop
use Rattle.ev_pass.specs.declared.note.Reference.TheVariants as reference
use Rattle.ev_pass.proofs.Delivers.{delivers}
use Rattle.ev_pass.proofs.Machine.{followed_at, placed_at}
use Rattle.ev_pass.proofs.Stands.{both_then, gives, told_is}
use Rattle.ev_refs.specs.Follow.{followed, place_of}
use Rattle.ev_refs.specs.Mailing.{with_mail, with_message, with_lone_message}
use Rattle.ev_refs.specs.Reading.{text_by, value_by, message_by, known_by, knowns_by, mails_by, place_by}
use Rattle.ev_refs.specs.References.{References, unsettled_of}
use Rattle.ev_refs.specs.Waiting.{waits_lead}
use Rattle.ev_refs.specs.declared.follow.Place.{Place}
use Rattle.ev_refs.specs.declared.follow.Place.TheVariants.{Near, Mine, FarPromise, FarObject, Gone}
use Rattle.ev_refs.specs.declared.known.Message.{Message}
use Rattle.ev_refs.specs.declared.mails.Fresh.{Fresh}
use Rattle.ev_refs.proofs.Chains.{waits_is}
use Rattle.ev_refs.proofs.Machine.{as_many}
use Rattle.ev_settle.specs.Changes.{enqueue, hold, mail, wait_on}
use Rattle.ev_settle.specs.Performing.{Tells}
use Rattle.ev_settle.specs.Resolving.{resolve, resolve_placed, wait_unless_cycle}
use Rattle.ev_settle.specs.Sending.{new_message, new_lone_message, answer_host, break_answer, send_first, send_new, send, send_lone, send_only}
use Rattle.ev_settle.specs.Settling.{settle}
use Rattle.ev_settle.proofs.Changing.{one_name, reads_still, enqueue_is, hold_is, wait_on_is}
use Rattle.ev_settle.proofs.Performs.{settles_is}

one_mail : (k n m : ℕ) → m ≡ n + 1 → mails_by k m ≡ mails_by k n ++ Mess (k + n) ∷ []
unfolding mails_by
one_mail k zero m e = let one : m ≡ suc zero = omega arith in let here : k ≡ k + zero = omega arith in subst (λ (x : ℕ). mails_by k x ≡ Mess (k + zero) ∷ []) (sym one) (ap (λ (x : ℕ). Mess x ∷ []) here)
one_mail k (suc n) zero e = let none : ⊥ = omega arith in absurd none
one_mail k (suc n) (suc m) e =
    let less : m ≡ n + 1 = omega arith in
    let same : suc k + n ≡ k + suc n = omega arith in
    ap (λ (xs : List Local). Mess k ∷ xs) (one_mail (suc k) n m less ∙ ap (λ (x : ℕ). mails_by (suc k) n ++ Mess x ∷ []) same)

so_many : (k n : ℕ) → length (mails_by k n) ≡ n
unfolding mails_by
so_many k zero = refl
so_many k (suc n) = ap suc (so_many (suc k) n)

abbrev null : Value Local
null = Null

module _ (ts : List Words) (key : List ℕ) (line : Lines) (s : Vat Local) (tells : Tells ts line) where
  abbrev at : Interior → Vat Local
  at i = vat_at ts line i s

  -- ---- what a name resolves to

  waits_or : (b : Bool) (p q : ℕ) (i : Interior) → Reads ts key i
      → StandsFor ts key line s (λ u. u) ((if b then settle p (held.Broken i.refs.cycle) else wait_on p q) i) ((if b then refs.settle (names_under key) (Prom p) (value_by ts (held.Broken i.refs.cycle)) else refs.wait_on (names_under key) (Prom p) (Prom q)) (at i))
  waits_or true p q i good = settles_is ts key line s tells p (held.Broken i.refs.cycle) i good
  waits_or false p q i good = wait_on_is ts key line s tells p q i good

  abbrev broken : Words → Value Local
  broken t = Broken t

  wait_is : (p q : ℕ) (i : Interior) → Reads ts key i → StandsFor ts key line s (λ u. u) (wait_unless_cycle p q i) (refs.wait_unless_cycle (names_under key) (Prom p) (Prom q) (at i))
  unfolding wait_unless_cycle refs.wait_unless_cycle machine.◌>>=◌ machine.look machine.and_then
  wait_is p q i good =
      let b = waits_lead (length i.refs.known) i.refs.known p q in
      let back : refs.waits_lead (names_under key) (length (knowns_by ts 0 i.refs.known)) (knowns_by ts 0 i.refs.known) (Prom p) (Prom q) ≡ b =
      ap (λ (n : ℕ). refs.waits_lead (names_under key) n (knowns_by ts 0 i.refs.known) (Prom p) (Prom q)) (as_many (word key) ts ts 0 i.refs.known) ∙ waits_is (word key) ts i.refs.known (length i.refs.known) p q in
      subst (λ (x : Bool). StandsFor ts key line s (λ u. u) (wait_unless_cycle p q i) ((if x then refs.settle (names_under key) (Prom p) (broken (codes "cycle")) else refs.wait_on (names_under key) (Prom p) (Prom q)) (at i))) (sym back)
      (subst (λ (t : Words). StandsFor ts key line s (λ u. u) (wait_unless_cycle p q i) ((if b then refs.settle (names_under key) (Prom p) (broken t) else refs.wait_on (names_under key) (Prom p) (Prom q)) (at i))) good.known.1 (waits_or b p q i good))

  resolved_at : (p : ℕ) (y : Held) (q : Place) (i : Interior) → Reads ts key i → StandsFor ts key line s (λ u. u) (resolve_placed p y q i) (refs.resolve_to (names_under key) (Prom p) (value_by ts y) (place_by ts q) (at i))
  unfolding resolve_placed refs.resolve_to
  resolved_at p y Near i good = settles_is ts key line s tells p y i good
  resolved_at p y (Mine q) i good = wait_is p q i good
  resolved_at p y (FarPromise h q) i good = wait_is p q i good
  resolved_at p y (FarObject h q) i good = settles_is ts key line s tells p y i good
  resolved_at p y (Gone t) i good = settles_is ts key line s tells p y i good

  pub resolves_is : (p : ℕ) (x : Held) (i : Interior) → Reads ts key i → StandsFor ts key line s (λ u. u) (resolve p x i) (refs.resolve (names_under key) (Prom p) (value_by ts x) (at i))
  unfolding resolve refs.resolve machine.◌>>=◌ machine.look machine.and_then
  resolves_is p x i good =
      let end = followed i.refs x in
      subst (λ (y : Value Local). StandsFor ts key line s (λ u. u) (resolve p x i) (refs.resolve_to (names_under key) (Prom p) y (refs.place (names_under key) (at i) y) (at i))) (sym (followed_at ts key line s i x good))
      (subst (λ (q : refs.Place Local). StandsFor ts key line s (λ u. u) (resolve p x i) (refs.resolve_to (names_under key) (Prom p) (value_by ts end) q (at i))) (sym (placed_at ts key line s i end)) (resolved_at p end (place_of i.refs end) i good))

  -- ---- a new message

  abbrev pub named : Fresh → Local × Local
  named f = (Mess f.id, Prom f.answer)

  mails_are : (n : ℕ) → mails_by 0 n ++ Mess n ∷ [] ≡ mails_by 0 (n + 1)
  mails_are n = let here : 0 + n ≡ n = omega arith in sym (one_mail 0 n (n + 1) refl ∙ ap (λ (x : ℕ). mails_by 0 n ++ Mess x ∷ []) here)

  names_are : (h : ℕ) (r : References) → knowns_by ts 0 r.known ++ known_by ts (length r.known) (unsettled_of h) ∷ [] ≡ knowns_by ts 0 (r.known ++ unsettled_of h ∷ [])
  names_are h r =
      let here : 0 + length r.known ≡ length r.known = omega arith in
      sym (one_name ts 0 r.known (unsettled_of h) ∙ ap (λ (x : ℕ). knowns_by ts 0 r.known ++ known_by ts x (unsettled_of h) ∷ []) here)

  abbrev fresh : Interior → ℕ → ℕ → ℕ → List (machine.Known Local) → List Local → machine.Done Local (Local × Local)
  fresh i m n c ks ms = machine.Gives (Mess m, Prom n) (record (at i) { messages = c; known = ks; mails = ms })

  pub new_is : (h : ℕ) (i : Interior) → Reads ts key i → StandsFor ts key line s named (new_message h i) (machine.new_message (names_under key) h (at i))
  unfolding new_message machine.new_message machine.begun numbering
  new_is h i good =
      let r = i.refs in
      let count : suc r.messages ≡ r.messages + 1 = omega arith in (
        ap (λ (m : ℕ). fresh i m (length (knowns_by ts 0 r.known)) (suc r.messages) (knowns_by ts 0 r.known ++ known_by ts (length (knowns_by ts 0 r.known)) (unsettled_of h) ∷ []) (mails_by 0 r.mails ++ Mess m ∷ [])) (so_many 0 r.mails)
            ∙ ap (λ (n : ℕ). fresh i r.mails n (suc r.messages) (knowns_by ts 0 r.known ++ known_by ts n (unsettled_of h) ∷ []) (mails_by 0 r.mails ++ Mess r.mails ∷ [])) (as_many (word key) ts ts 0 r.known)
            ∙ ap (λ (c : ℕ). fresh i r.mails (length r.known) c (knowns_by ts 0 r.known ++ known_by ts (length r.known) (unsettled_of h) ∷ []) (mails_by 0 r.mails ++ Mess r.mails ∷ [])) count
            ∙ ap (λ (ks : List (machine.Known Local)). fresh i r.mails (length r.known) (r.messages + 1) ks (mails_by 0 r.mails ++ Mess r.mails ∷ [])) (names_are h r)
            ∙ ap (λ (ms : List Local). fresh i r.mails (length r.known) (r.messages + 1) (knowns_by ts 0 (r.known ++ unsettled_of h ∷ [])) ms) (mails_are r.mails),
        reads_still ts key line s i (with_message h r) refl refl good,
      )

  lone_is : (i : Interior) → Reads ts key i → StandsFor ts key line s Mess (new_lone_message i) (machine.new_lone_message (names_under key) (at i))
  unfolding new_lone_message machine.new_lone_message numbering
  lone_is i good =
      let r = i.refs in
      let count : suc r.messages ≡ r.messages + 1 = omega arith in (
        ap (λ (m : ℕ). machine.Gives (Mess m) (record (at i) { messages = suc r.messages; mails = mails_by 0 r.mails ++ Mess m ∷ [] })) (so_many 0 r.mails)
            ∙ ap (λ (c : ℕ). machine.Gives (Mess r.mails) (record (at i) { messages = c; mails = mails_by 0 r.mails ++ Mess r.mails ∷ [] })) count
            ∙ ap (λ (ms : List Local). machine.Gives (Mess r.mails) (record (at i) { messages = r.messages + 1; mails = ms })) (mails_are r.mails),
        reads_still ts key line s i (with_lone_message r) refl refl good,
      )

  pub mail_is : (m : Local) (i : Interior) → Reads ts key i → StandsFor ts key line s Mess (mail i) (machine.mail (names_under key) (IsCarried m) (at i))
  unfolding mail machine.mail numbering
  mail_is m i good =
      let r = i.refs in (
        ap (λ (n : ℕ). machine.Gives (Mess n) (record (at i) { mails = mails_by 0 r.mails ++ Mess n ∷ [] })) (so_many 0 r.mails)
            ∙ ap (λ (ms : List Local). machine.Gives (Mess r.mails) (record (at i) { mails = ms })) (mails_are r.mails),
        reads_still ts key line s i (with_mail r) refl refl good,
      )

  -- ---- it finds its place

  pub break_is : (o : Option ℕ) (t : ℕ) (i : Interior) → Reads ts key i
      → StandsFor ts key line s (λ u. u) (break_answer o t i) (machine.for_some (option_map Prom o) (λ a. refs.settle (names_under key) a (Broken (text_by ts t))) (machine.give tt) (at i))
  unfolding break_answer machine.for_some
  break_is None t i good = gives ts key line s (λ u. u) tt i good
  break_is (Some a) t i good = settles_is ts key line s tells a (held.Broken t) i good

  first_is : (m : Message) (p : Place) (i : Interior) → Reads ts key i → StandsFor ts key line s (λ u. u) (send_first m p i) (refs.send_first (names_under key) (message_by ts m) (value_by ts m.target) (place_by ts p) (at i))
  unfolding send_first refs.send_first refs.send_to code.◌>>◌ machine.◌>>◌
  first_is m Near i good = enqueue_is ts key line s m i good
  first_is m (Mine n) i good = hold_is ts key line s n m i good
  first_is m (FarPromise h n) i good = delivers ts key line s m.id m.answer m.verb m.args h (reference.Promise n) (value_by ts m.target) i good (tells.posted h m.id)
  first_is m (FarObject h p) i good = delivers ts key line s m.id m.answer m.verb m.args h (reference.Far h p) (value_by ts m.target) i good (tells.posted h m.id)
  first_is m (Gone t) i good =
      both_then ts key line s (λ u. u) (λ u. u) (code.tell (event.LostBroken m.id) i) _ _ _ (told_is ts key line s (event.LostBroken m.id) (Lost (Mess m.id)) i (tells.lost m.id) good) (λ u j e next. break_is m.answer t j next)

  then_null : (o : Out (Unit {0})) (d : machine.Done Local (Unit {0})) → StandsFor ts key line s (λ u. u) o d → StandsFor ts key line s (λ u. null) o (machine.and_then d (λ _. machine.give Null))
  unfolding machine.and_then machine.give
  then_null (Ok u, i) d h = (ap (λ (x : machine.Done Local (Unit {0})). machine.and_then x (λ _. machine.give Null)) h.0, h.1)
  then_null (Err stop.Fuel, i) d h = rw h refl
  then_null (Err (stop.Repeated m n), i) d h = rw h refl
  then_null (Err stop.Astray, i) d h = rw h refl
  then_null (Err stop.Missing, i) d h = tt
  then_null (Err stop.Memory, i) d h = tt

  hosts : (me : ℕ) (p : Place) → refs.answer_host (names_under key) me (place_by ts p) ≡ answer_host me p
  unfolding refs.answer_host
  hosts me Near = refl
  hosts me (Mine n) = refl
  hosts me (FarPromise h n) = refl
  hosts me (FarObject h p) = refl
  hosts me (Gone t) = refl

  module _ (act : ℕ) (x : Held) (verb : Words) (args : List Held) where
    abbrev sent : ℕ → Value Local → Option ℕ → machine.Message Local
    sent n y answer = record { id = Mess n; target = y; verb = verb; args = map (value_by ts) args; answer = option_map Prom answer }

    anew : (y : Held) (p : Place) (h : ℕ) (i : Interior) → Reads ts key i
        → StandsFor ts key line s (λ a. Ref (Prom a)) (send_new act x verb args y p h i)
        (machine.and_then (machine.new_message (names_under key) h (at i)) (λ new t. machine.and_then (machine.tell (Sends act (record { id = new.0; target = value_by ts x; verb = verb; args = map (value_by ts) args; answer = Some new.1 })) t)
        (λ _ u. machine.and_then (refs.send_first (names_under key) (record { id = new.0; target = value_by ts y; verb = verb; args = map (value_by ts) args; answer = Some new.1 }) (value_by ts y) (place_by ts p) u) (λ _. machine.give (Ref new.1)))))
    unfolding send_new code.◌>>=◌ code.◌>>◌
    anew y p h i good =
        both_then ts key line s named (λ a. Ref (Prom a)) (new_message h i) _ _ _ (new_is h i good)
        (λ f j e next. both_then ts key line s (λ u. u) (λ a. Ref (Prom a)) (code.tell (event.Send act f.id x verb args (Some f.answer)) j) _ _ _
        (told_is ts key line s (event.Send act f.id x verb args (Some f.answer)) (Sends act (sent f.id (value_by ts x) (Some f.answer))) j (tells.sends act f.id x verb args (Some f.answer)) next)
        (λ u k g more. both_then ts key line s (λ v. v) (λ a. Ref (Prom a)) (send_first (record { id = f.id; target = y; verb = verb; args = args; answer = Some f.answer }) p k) _ _ _
        (first_is (record { id = f.id; target = y; verb = verb; args = args; answer = Some f.answer }) p k more)
        (λ v l d done. gives ts key line s (λ a. Ref (Prom a)) f.answer l done)))

    alone : (y : Held) (p : Place) (i : Interior) → Reads ts key i
        → StandsFor ts key line s (λ u. null) (send_lone act x verb args y p i)
        (machine.and_then (machine.new_lone_message (names_under key) (at i)) (λ id t. machine.and_then (machine.tell (Sends act (record { id = id; target = value_by ts x; verb = verb; args = map (value_by ts) args; answer = None })) t)
        (λ _ u. machine.and_then (refs.send_first (names_under key) (record { id = id; target = value_by ts y; verb = verb; args = map (value_by ts) args; answer = None }) (value_by ts y) (place_by ts p) u) (λ _. machine.give Null))))
    unfolding send_lone code.◌>>=◌ code.◌>>◌
    alone y p i good =
        both_then ts key line s Mess (λ u. null) (new_lone_message i) _ _ _ (lone_is i good)
        (λ n j e next. both_then ts key line s (λ u. u) (λ u. null) (code.tell (event.Send act n x verb args None) j) _ _ _
        (told_is ts key line s (event.Send act n x verb args None) (Sends act (sent n (value_by ts x) None)) j (tells.sends act n x verb args None) next)
        (λ u k g more. then_null (send_first (record { id = n; target = y; verb = verb; args = args; answer = None }) p k) _ (first_is (record { id = n; target = y; verb = verb; args = args; answer = None }) p k more)))

    pub sends_is : (i : Interior) → Reads ts key i → StandsFor ts key line s (λ a. Ref (Prom a)) (send act x verb args i) (refs.send (names_under key) act (value_by ts x) verb (map (value_by ts) args) (at i))
    unfolding send refs.send machine.◌>>=◌ machine.◌>>◌ machine.look machine.and_then
    sends_is i good =
        let end = followed i.refs x in
        let goes : Value Local → refs.Place Local → ℕ → machine.Done Local (Value Local) =
        λ y p h. machine.and_then (machine.new_message (names_under key) h (at i)) (λ new t. machine.and_then (machine.tell (Sends act (record { id = new.0; target = value_by ts x; verb = verb; args = map (value_by ts) args; answer = Some new.1 })) t)
        (λ _ u. machine.and_then (refs.send_first (names_under key) (record { id = new.0; target = y; verb = verb; args = map (value_by ts) args; answer = Some new.1 }) y p u) (λ _. machine.give (Ref new.1)))) in
        subst (λ (y : Value Local). StandsFor ts key line s (λ a. Ref (Prom a)) (send act x verb args i) (goes y (refs.place (names_under key) (at i) y) (refs.answer_host (names_under key) i.refs.me (refs.place (names_under key) (at i) y)))) (sym (followed_at ts key line s i x good))
        (subst (λ (q : refs.Place Local). StandsFor ts key line s (λ a. Ref (Prom a)) (send act x verb args i) (goes (value_by ts end) q (refs.answer_host (names_under key) i.refs.me q))) (sym (placed_at ts key line s i end))
        (subst (λ (h : ℕ). StandsFor ts key line s (λ a. Ref (Prom a)) (send act x verb args i) (goes (value_by ts end) (place_by ts (place_of i.refs end)) h)) (sym (hosts i.refs.me (place_of i.refs end)))
        (anew end (place_of i.refs end) (answer_host i.refs.me (place_of i.refs end)) i good)))

    pub sends_only : (i : Interior) → Reads ts key i → StandsFor ts key line s (λ u. null) (send_only act x verb args i) (refs.send_only (names_under key) act (value_by ts x) verb (map (value_by ts) args) (at i))
    unfolding send_only refs.send_only machine.◌>>=◌ machine.◌>>◌ machine.look machine.and_then
    sends_only i good =
        let end = followed i.refs x in
        let goes : Value Local → refs.Place Local → machine.Done Local (Value Local) =
        λ y p. machine.and_then (machine.new_lone_message (names_under key) (at i)) (λ id t. machine.and_then (machine.tell (Sends act (record { id = id; target = value_by ts x; verb = verb; args = map (value_by ts) args; answer = None })) t)
        (λ _ u. machine.and_then (refs.send_first (names_under key) (record { id = id; target = y; verb = verb; args = map (value_by ts) args; answer = None }) y p u) (λ _. machine.give Null))) in
        subst (λ (y : Value Local). StandsFor ts key line s (λ u. null) (send_only act x verb args i) (goes y (refs.place (names_under key) (at i) y))) (sym (followed_at ts key line s i x good))
        (subst (λ (q : refs.Place Local). StandsFor ts key line s (λ u. null) (send_only act x verb args i) (goes (value_by ts end) q)) (sym (placed_at ts key line s i end)) (alone end (place_of i.refs end) i good))
