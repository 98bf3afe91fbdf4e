-- What the code hears of a step is what the machine's step tells.
use Rattle.std.proofs.Common.{◌≡◌, ◌-◌, ℕ, zero, suc, List, [], ◌∷◌, ◌++◌, drop, length, map, Option, Some, None, refl, sym, ap, subst, ◌∙◌, append_assoc}
use Rattle.std.specs.Prelude.{flat_map, option_map, slice_get}
use Rattle.std.proofs.lemmas.List.{drop-map, length-map, map-append}
use Rattle.std.proofs.lemmas.List.Concat.{flat_map-append}
use Rattle.ev_base.specs.declared.names.Msg.{Msg}
use Rattle.ev_base.specs.declared.names.Name.{Name as ShownName}
use Rattle.ev_base.specs.declared.values.Value.{Value as Held}
use Rattle.ev_base.specs.declared.values.Value.TheVariants as held
use Rattle.ev_heap.specs.declared.happened.Happened.{Happened as Heard}
use Rattle.ev_heap.specs.declared.happened.Happened.TheVariants as event
use Rattle.ev_heap.specs.declared.kept.Capture.{Capture}
use Rattle.def_run.specs.Names as local
use Rattle.def_machine.specs.State as machine
use Rattle.def_machine.specs.State.{Happened, Vat}
use Rattle.def_machine.specs.Values.{Name, Gift as GiftName, Sent as SentName, answer_of, key, Words, Local, Prom, Mess}
use Rattle.ev_arrive.specs.Reading.{gift_by, with_gifts}
use Rattle.ev_intro.specs.Gift.{Gifts}
use Rattle.ev_intro.specs.Word.{Drawn}
use Rattle.ev_pass.specs.Notes.{Noted, Deliver, Open, Ask, Settled, Elsewhere, Shorten, Sent}
use Rattle.ev_pass.specs.Reading as inside
use Rattle.ev_pass.specs.Reading.{note_by, put_by}
use Rattle.ev_pass.specs.declared.interior.Interior.{Interior}
use Rattle.ev_refs.proofs.Machine.{as_many}
use Rattle.ev_refs.specs.Reading.{knowns_by}
use Rattle.ev_refs.specs.References.{References}
use Rattle.ev_room.specs.Reading.{World, texts_of, vat_of, line_of, lines_of, referred_line, made_line, ejector_line, audition_line, promise_line}
use Rattle.ev_resident.specs.Names.{Entry, Named, each_tells, asked_tells, event_tells, events_tell, answer_name, answer_tells, note_tells, put_tells, puts_tell, gift_tells, gifts_tell, host_in, step_tells, carried_mails, own_messages, mailed, stepped}
use Rattle.ev_resident.specs.NamesStanding.{Says, Stands, Counts, printed, mail_of, mails_of, new_names}
use Rattle.ev_resident.proofs.Saying.{IsBeside, answer_shown, host_is, gift_shown, key_shown, says_more, says_same, names_grow, beside_stays}

module _ (d : Drawn) (u : ℕ) (w : World) (r : References) (ms : List Msg) where
  abbrev ks : List (machine.Known Local)
  ks = knowns_by (texts_of w) 0 r.known

  abbrev by_line : Happened Local → List local.Told
  by_line h = local.told_by_line u ks (mails_of ms) h

  abbrev by_put : machine.Put Local → List local.Told
  by_put p = local.told_by_put u ks (mails_of ms) p

  abbrev by_gift : machine.GiftEntry Local → List local.Told
  by_gift g = local.told_by_gift u ks (mails_of ms) g

  -- ---- lines

  asked_says : (m : ℕ) (answer : Option ℕ) (es : List Entry) (ts : List local.Told) → Says d es ts
      → Says d (asked_tells r ms m answer es) (ts ++ (local.told_by_answer u ks (mails_of ms) (Mess m) (option_map Prom answer) ++ []))
  unfolding asked_tells local.told_by_answer local.of_promise
  asked_says m None es ts says = says_same d es ts says
  asked_says m (Some a) es ts says =
      says_more d es ts a (answer_name (host_in r a) (slice_get ms m)) (answer_of (local.host_among ks (Prom a)) (local.mail_at (mails_of ms) (Mess m)))
      (ap (λ (h : ℕ). answer_name h (slice_get ms m)) (host_is (texts_of w) r a) ∙ answer_shown d (local.host_among ks (Prom a)) ms m)
      says

  made_says : (act : ℕ) (v : Held) (x : Words) (cs : List Capture) (vs : List Held) → flat_map by_line (made_line w act v x cs vs) ≡ []
  unfolding local.told_by_line
  made_says act (held.Obj i) x cs vs = refl
  made_says act _ x cs vs = refl

  ejector_says : (act : ℕ) (v : Held) → flat_map by_line (ejector_line act v) ≡ []
  unfolding local.told_by_line
  ejector_says act (held.Obj i) = refl
  ejector_says act _ = refl

  audition_says : (act : ℕ) (v : Held) → flat_map by_line (audition_line act v) ≡ []
  unfolding local.told_by_line
  audition_says act (held.Obj i) = refl
  audition_says act _ = refl

  promise_says : (act p : ℕ) (v : Held) → flat_map by_line (promise_line act p v) ≡ []
  unfolding local.told_by_line
  promise_says act p (held.Obj i) = refl
  promise_says act p _ = refl

  says_none : (es : List Entry) (ts more : List local.Told) → more ≡ [] → Says d es ts → Says d es (ts ++ more)
  says_none es ts more none says = subst (λ (us : List local.Told). Says d es (ts ++ us)) (sym none) (says_same d es ts says)

  line_says : (e : Heard) (es : List Entry) (ts : List local.Told) → Says d es ts → Says d (event_tells r ms e es) (ts ++ flat_map by_line (line_of w e))
  unfolding event_tells line_of referred_line local.told_by_line
  line_says (event.Send act m x verb args answer) es ts says = asked_says m answer es ts says
  line_says (event.When act m x o near answer) es ts says = asked_says m (Some answer) es ts says
  line_says (event.Made act v x cs vs) es ts says = says_none es ts _ (made_says act v x cs vs) says
  line_says (event.Ejector act v) es ts says = says_none es ts _ (ejector_says act v) says
  line_says (event.Audition act v) es ts says = says_none es ts _ (audition_says act v) says
  line_says (event.Promise act p v) es ts says = says_none es ts _ (promise_says act p v) says
  line_says _ es ts says = says_same d es ts says

  joined : {A : Type 0} (f : A → List local.Told) (ts : List local.Told) (xs ys : List A) → (ts ++ flat_map f xs) ++ flat_map f ys ≡ ts ++ flat_map f (xs ++ ys)
  joined f ts xs ys = append_assoc ts (flat_map f xs) (flat_map f ys) ∙ ap (λ (us : List local.Told). ts ++ us) (sym (flat_map-append f xs ys))

  pub lines_say : (hs : List Heard) (es : List Entry) (ts : List local.Told) → Says d es ts → Says d (events_tell r ms hs es) (ts ++ flat_map by_line (lines_of w hs))
  unfolding each_tells inside.lines_of
  lines_say [] es ts says = says_same d es ts says
  lines_say (h ∷ hs) es ts says =
      subst (λ (us : List local.Told). Says d (events_tell r ms hs (event_tells r ms h es)) us) (joined by_line ts (line_of w h) (lines_of w hs))
      (lines_say hs (event_tells r ms h es) (ts ++ flat_map by_line (line_of w h)) (line_says h es ts says))

  -- ---- notes

  answer_says : (to m : ℕ) (answer : Option ℕ) (es : List Entry) (ts : List local.Told) → Says d es ts
      → Says d (answer_tells ms to m answer es) (ts ++ local.of_answer (option_map Prom answer) (answer_of to (local.mail_at (mails_of ms) (Mess m))))
  unfolding answer_tells local.of_answer local.of_promise
  answer_says to m None es ts says = says_same d es ts says
  answer_says to m (Some a) es ts says =
      says_more d es ts a (answer_name to (slice_get ms m)) (answer_of to (local.mail_at (mails_of ms) (Mess m))) (answer_shown d to ms m) says

  note_says : (to : ℕ) (n : Noted) (es : List Entry) (ts : List local.Told) → Says d es ts
      → Says d (note_tells d ms to n es) (ts ++ local.told_by_note u ks (mails_of ms) to (note_by (texts_of w) n))
  unfolding note_tells local.told_by_note local.of_promise
  note_says to (Deliver m answer x verb ps) es ts says = answer_says to m answer es ts says
  note_says to (Ask p i n) es ts says = says_more d es ts n _ (GiftName to i) (gift_shown d to i) says
  note_says to (Open i x) es ts says = says_same d es ts says
  note_says to (Settled n p) es ts says = says_same d es ts says
  note_says to (Elsewhere n c) es ts says = says_same d es ts says
  note_says to (Shorten n c i) es ts says = says_same d es ts says

  pub puts_say : (ps : List Sent) (es : List Entry) (ts : List local.Told) → Says d es ts → Says d (puts_tell d ms ps es) (ts ++ flat_map by_put (map (put_by (texts_of w)) ps))
  unfolding each_tells local.told_by_put
  puts_say [] es ts says = says_same d es ts says
  puts_say (p ∷ ps) es ts says =
      let one = local.told_by_note u ks (mails_of ms) p.to (note_by (texts_of w) p.note) in
      let more = flat_map by_put (map (put_by (texts_of w)) ps) in
      subst (λ (us : List local.Told). Says d (puts_tell d ms ps (put_tells d ms p es)) us) (append_assoc ts one more)
      (puts_say ps (put_tells d ms p es) (ts ++ one) (note_says p.to p.note es ts says))

  -- ---- gifts

  pub gifts_say : (gs : Gifts) (es : List Entry) (ts : List local.Told) → Says d es ts → Says d (gifts_tell d u gs es) (ts ++ flat_map by_gift (map gift_by gs))
  unfolding each_tells local.told_by_gift local.of_promise
  gifts_say [] es ts says = says_same d es ts says
  gifts_say (g ∷ gs) es ts says =
      let name : Name = GiftName u (key g.provider g.swiss) in
      let one : List local.Told = record { number = g.promise; name = name } ∷ [] in
      subst (λ (us : List local.Told). Says d (gifts_tell d u gs (gift_tells d u g es)) us) (append_assoc ts one (flat_map by_gift (map gift_by gs)))
      (gifts_say gs (gift_tells d u g es) (ts ++ one) (says_more d es ts g.promise _ name (key_shown d u g.provider g.swiss) says))

-- the names but for the new ones, and the messages that a note brought and the vat made
pub stepped_beside : (d : Drawn) (carried : Option Msg) (es : List Entry) (i : Interior) (gs : Gifts) (t : Named)
    → IsBeside (mailed carried i.refs.messages t) (stepped d carried es i gs t)
stepped_beside d carried es i gs t =
    let m = mailed carried i.refs.messages t in
    let b = beside_stays (step_tells d t.naming.vat m.naming.mails i (drop t.gifts gs) es) (length i.refs.known - length t.naming.names) m in
    record { vat = b.vat; mails = b.mails; objects = b.objects }

-- ---- a step

module _ (d : Drawn) (w : World) (i : Interior) (gs : Gifts) (outbox : w.before.outbox ≡ []) (happened : w.before.happened ≡ []) where
  abbrev s : Vat Local
  s = with_gifts gs (vat_of w i)

  pub step_says : (u n : ℕ) (ms : List Msg) (es : List Entry) (ts : List local.Told) → Says d es ts
      → Says d (step_tells d u ms i (drop n gs) es) (ts ++ local.told_in_step u n (mails_of ms) s)
  unfolding local.told_in_step vat_of
  step_says u n ms es ts says =
      let r = i.refs in
      let a = flat_map (by_line d u w r ms) (lines_of w i.micro.events) in
      let b = flat_map (by_put d u w r ms) (map (put_by (texts_of w)) i.post) in
      let c = flat_map (by_gift d u w r ms) (map gift_by (drop n gs)) in
      let heard = lines_say d u w r ms i.micro.events es ts says in
      let put = puts_say d u w r ms i.post (events_tell r ms i.micro.events es) (ts ++ a) heard in
      let given = gifts_say d u w r ms (drop n gs) (puts_tell d ms i.post (events_tell r ms i.micro.events es)) ((ts ++ a) ++ b) put in
      let path : ((ts ++ a) ++ b) ++ c ≡ ts ++ local.told_in_step u n (mails_of ms) s =
      ap (λ (us : List local.Told). us ++ c) (append_assoc ts a b)
      ∙ append_assoc ts (a ++ b) c
      ∙ ap (λ (hs : List (Happened Local)). ts ++ ((flat_map (by_line d u w r ms) (hs ++ lines_of w i.micro.events) ++ b) ++ c)) (sym happened)
      ∙ ap (λ (ps : List (machine.Put Local)). ts ++ ((flat_map (by_line d u w r ms) (w.before.happened ++ lines_of w i.micro.events) ++ flat_map (by_put d u w r ms) (ps ++ map (put_by (texts_of w)) i.post)) ++ c)) (sym outbox)
      ∙ ap (λ (xs : List (machine.GiftEntry Local)). ts ++ ((flat_map (by_line d u w r ms) (w.before.happened ++ lines_of w i.micro.events) ++ flat_map (by_put d u w r ms) (w.before.outbox ++ map (put_by (texts_of w)) i.post)) ++ flat_map (by_gift d u w r ms) xs)) (sym (drop-map gift_by n gs)) in
      subst (λ (us : List local.Told). Says d (step_tells d u ms i (drop n gs) es) us) path given

  known_count : length s.known ≡ length i.refs.known
  unfolding vat_of
  known_count = as_many (λ (n : ℕ). n) [] (texts_of w) 0 i.refs.known

  -- the names after a step in the code are those that the machine's step tells
  pub names_stepped : (carried : Option Msg) (es : List Entry) (brought : List local.Told) (t : Named) → Says d es brought
      → (stepped d carried es i gs t).naming.names ≡ t.naming.names ++ map (printed d) (new_names t (mails_of (stepped d carried es i gs t).naming.mails) brought s)
  names_stepped carried es brought t says =
      let m = mailed carried i.refs.messages t in
      let u = t.naming.vat in
      let told = step_tells d u m.naming.mails i (drop t.gifts gs) es in
      let ts = brought ++ local.told_in_step u t.gifts (mails_of m.naming.mails) s in
      let n = length i.refs.known - length t.naming.names in
      names_grow d told ts (step_says u t.gifts m.naming.mails es brought says) n m
      ∙ ap (λ (k : ℕ). t.naming.names ++ map (printed d) (local.named_from u ts (length t.naming.names) t.promises (k - length t.naming.names))) (sym known_count)
      ∙ ap (λ (ms : List Msg). t.naming.names ++ map (printed d) (new_names t (mails_of ms) brought s)) (sym (beside_stays told n m).mails)

  -- ---- the machine's names

  own_named : (u j m : ℕ) → mails_of (own_messages u j m) ≡ local.own_mails u j m
  unfolding own_messages local.own_mails
  own_named u j zero = refl
  own_named u j (suc m) = ap (λ (xs : List Name). SentName (record { sender = u; number = j }) ∷ xs) (own_named u (suc j) m)

  mails_stand : (carried : Option Msg) (es : List Entry) (t : local.Names) (n : Named) (before : Vat Local) → Stands d t n → Counts before n
      → mails_of (stepped d carried es i gs n).naming.mails ≡ (t.mails ++ mails_of (carried_mails carried)) ++ local.own_mails n.naming.vat before.messages (s.messages - before.messages)
  unfolding vat_of
  mails_stand carried es t n before stands counts =
      let u = n.naming.vat in
      let cm = carried_mails carried in
      let om = own_messages u n.messages (i.refs.messages - n.messages) in
      ap (λ (xs : List Msg). mails_of xs) (stepped_beside d carried es i gs n).mails
      ∙ map-append mail_of (n.naming.mails ++ cm) om
      ∙ ap (λ (xs : List Name). xs ++ mails_of om) (map-append mail_of n.naming.mails cm)
      ∙ ap (λ (xs : List Name). (xs ++ mails_of cm) ++ mails_of om) stands.mails
      ∙ ap (λ (xs : List Name). (t.mails ++ mails_of cm) ++ xs) (own_named u n.messages (i.refs.messages - n.messages))
      ∙ ap (λ (k : ℕ). (t.mails ++ mails_of cm) ++ local.own_mails u k (i.refs.messages - k)) counts.messages

  -- the names and messages after a step in the code are those that the machine's vat has after it
  pub stands_stepped : (carried : Option Msg) (es : List Entry) (brought : List local.Told) (t : local.Names) (n : Named) (before : Vat Local) → Says d es brought → Stands d t n → Counts before n
      → Stands d (local.names_after n.naming.vat t before (mails_of (carried_mails carried)) brought s) (stepped d carried es i gs n)
  unfolding local.names_after
  stands_stepped carried es brought t n before says stands counts =
      let u = n.naming.vat in
      let mails = mails_stand carried es t n before stands counts in
      let ms = (t.mails ++ mails_of (carried_mails carried)) ++ local.own_mails u before.messages (s.messages - before.messages) in
      let as_many : length n.naming.names ≡ length t.known = ap (λ (xs : List ShownName). length xs) stands.known ∙ length-map t.known (printed d) in
      let ts = brought ++ local.told_in_step u (length before.gifts) ms s in
      let new = local.named_from u ts (length t.known) before.promises (length s.known - length t.known) in
      record {
        known =
            names_stepped carried es brought n says
            ∙ ap (λ (xs : List Name). n.naming.names ++ map (printed d) (new_names n xs brought s)) mails
            ∙ ap (λ (g : ℕ). n.naming.names ++ map (printed d) (local.named_from u (brought ++ local.told_in_step u g ms s) (length n.naming.names) n.promises (length s.known - length n.naming.names))) counts.gifts
            ∙ ap (λ (p : ℕ). n.naming.names ++ map (printed d) (local.named_from u ts (length n.naming.names) p (length s.known - length n.naming.names))) counts.promises
            ∙ ap (λ (k : ℕ). n.naming.names ++ map (printed d) (local.named_from u ts k before.promises (length s.known - k))) as_many
            ∙ ap (λ (xs : List ShownName). xs ++ map (printed d) new) stands.known
            ∙ sym (map-append (printed d) t.known new);
        mails = mails;
      }

-- and so are the counts
pub counts_stepped : (d : Drawn) (w : World) (i : Interior) (gs : Gifts) (carried : Option Msg) (es : List Entry) (n : Named) → Counts (with_gifts gs (vat_of w i)) (stepped d carried es i gs n)
unfolding vat_of
counts_stepped d w i gs carried es n = record { promises = refl; messages = refl; gifts = sym (length-map gs gift_by) }
