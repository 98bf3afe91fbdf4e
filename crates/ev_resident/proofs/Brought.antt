-- What is told of a frame is what it brought, as it is printed.
use Rattle.std.proofs.Common.{◌≡◌, ◌+◌, ◌<◌, ◌≤◌, ℕ, zero, suc, Bool, true, false, List, [], ◌∷◌, ◌++◌, length, map, drop, get_or, Option, Some, None, refl, sym, ap, subst, ◌∙◌, append_assoc, arith}
use Rattle.std.specs.Prelude.{slice_get}
use Rattle.std.proofs.lemmas.List.{drop_all, drop_more}
use Rattle.ev_base.specs.declared.names.Msg.{Msg}
use Rattle.ev_base.specs.declared.names.Name.{Name as ShownName}
use Rattle.ev_base.specs.declared.names.Name.TheVariants as shown
use Rattle.ev_base.specs.declared.values.Value.{Value}
use Rattle.ev_base.specs.declared.values.Value.TheVariants as held
use Rattle.def_run.specs.Names as local
use Rattle.def_run.specs.Names.{Told, of_promise}
use Rattle.def_run.specs.Numbers.{brought, carried_in, name_at_vat, name_exported, told_answer, told_imports, told_learnt}
use Rattle.def_run.specs.Vats.{Member as Theirs, connection_for}
use Rattle.def_machine.specs.State.{Note, Deliver, Open, Ask, SettledTo, Elsewhere, Shorten, Vat}
use Rattle.def_machine.specs.Values.{Name, Root, Gift, Local, key, answer_of}
use Rattle.def_run.specs.Connections.{Connection, Learnt}
use Rattle.def_run.specs.Shown.{msg_of, shown_name}
use Rattle.ev_intro.specs.Word.{Drawn}
use Rattle.ev_vat.specs.Hearing.{Brings, HeardNote}
use Rattle.ev_resident.proofs.Saying.{key_shown, says_more, says_same}
use Rattle.ev_resident.specs.Names.{Entry, Named, carried_mails, each_tells, gift_at, told_at}
use Rattle.ev_resident.specs.Printing.{Agrees}
use Rattle.ev_resident.specs.NamesStanding.{Says, mail_of, mails_of, printed, words_of}
use Rattle.ev_resident.proofs.Naming.{agrees}
use Rattle.ev_resident.specs.OutcomeStanding.{NamesStand, ObjectsStand}
use Rattle.ev_tables.specs.Standing.{AreReferences, connection_of, is_reference, local_of}
use Rattle.ev_wire.specs.Learnt.{LearntGifts}
use Rattle.ev_wire.specs.Reading.{learnt_of}
use Rattle.ev_wire.specs.declared.news.News.{News}
use Rattle.ev_resident.specs.Brought.{all_learnt_tell, answer_tells, import_tells, imports_tell, learnt_tells, message_tells, name_if}
use Rattle.ev_tables.specs.Table.{Table}
use Rattle.ev_ways.specs.Standing.{asks_in}

-- ---- one after the other

module _ (g : ℕ → ShownName) where
  -- the next one tells
  pub imports_on : (vs : List Value) (i p q : ℕ) (v : Value) (es after whole : List Entry) → q ≡ p + 1 → i < length vs → v ≡ get_or vs i v → after ≡ import_tells (g p) v es
      → imports_tell g p (drop i vs) es ≡ whole → imports_tell g q (drop (i + 1) vs) after ≡ whole
  unfolding imports_tell
  imports_on vs i p q v es after whole step lt is e so_far =
      let next : q ≡ suc p = omega (arith, step) in
      ap (λ (n : ℕ). imports_tell g n (drop (i + 1) vs) after) next
      ∙ ap (λ (z : List Entry). imports_tell g (suc p) (drop (i + 1) vs) z) e
      ∙ ap (λ (z : Value). imports_tell g (suc p) (drop (i + 1) vs) (import_tells (g p) z es)) is
      ∙ ap (λ (zs : List Value). imports_tell g p zs es) (sym (drop_more vs i v lt))
      ∙ so_far

  -- all have told
  pub imports_done : (vs : List Value) (i p : ℕ) (es whole : List Entry) → length vs ≤ i → imports_tell g p (drop i vs) es ≡ whole → es ≡ whole
  unfolding imports_tell
  imports_done vs i p es whole le so_far = ap (λ (zs : List Value). imports_tell g p zs es) (sym (drop_all i vs le)) ∙ so_far

-- ---- what is told is what was brought

none_said : (d : Drawn) → Says d [] []
unfolding told_at local.told_at
none_said d k = refl

answer_printed : (d : Drawn) (u : ℕ) (x : Msg) → shown.Answer u x ≡ printed d (answer_of u (mail_of x))
unfolding answer_of shown_name msg_of
answer_printed d u x = refl

module _ (d : Drawn) where
  -- where g prints what f calls what stands at a position
  module _ (f : ℕ → Name) (g : ℕ → ShownName) (same : (p : ℕ) → g p ≡ printed d (f p)) where
    one_import : (p : ℕ) (v : Value) (es : List Entry) (ts : List Told) → Says d es ts → Says d (import_tells (g p) v es) (ts ++ of_promise (local_of v) (f p))
    unfolding import_tells of_promise local_of
    one_import p (held.Prom k) es ts says = says_more d es ts k (g p) (f p) (same p) says
    one_import p (held.Obj i) es ts says = says_same d es ts says
    one_import p (held.Far h q) es ts says = says_same d es ts says
    one_import p held.Null es ts says = says_same d es ts says
    one_import p (held.Bool b) es ts says = says_same d es ts says
    one_import p (held.Int z) es ts says = says_same d es ts says
    one_import p (held.Char x) es ts says = says_same d es ts says
    one_import p (held.Text i) es ts says = says_same d es ts says
    one_import p (held.List i) es ts says = says_same d es ts says
    one_import p (held.Prim n) es ts says = says_same d es ts says
    one_import p (held.Broken i) es ts says = says_same d es ts says

    imports_say : (p : ℕ) (vs : List Value) (es : List Entry) (ts : List Told) → Says d es ts → Says d (imports_tell g p vs es) (ts ++ told_imports f p (map local_of vs))
    unfolding imports_tell told_imports
    imports_say p [] es ts says = says_same d es ts says
    imports_say p (v ∷ vs) es ts says =
        let more = imports_say (suc p) vs (import_tells (g p) v es) (ts ++ of_promise (local_of v) (f p)) (one_import p v es ts says) in
        subst (λ (us : List Told). Says d (imports_tell g (suc p) vs (import_tells (g p) v es)) us) (append_assoc ts (of_promise (local_of v) (f p)) (told_imports f (suc p) (map local_of vs))) more

  learnt_say : (gs : LearntGifts) (es : List Entry) (ts : List Told) → Says d es ts → Says d (all_learnt_tell d gs es) (ts ++ told_learnt (map learnt_of gs))
  unfolding each_tells told_learnt of_promise
  learnt_say [] es ts says = says_same d es ts says
  learnt_say (g ∷ gs) es ts says =
      let t : Told = record { number = g.name; name = Gift g.host (key g.provider g.word) } in
      let one = says_more d es ts g.name (gift_at d g.host g.word) (Gift g.host (key g.provider g.word)) (key_shown d g.host g.provider g.word) says in
      subst (λ (us : List Told). Says d (all_learnt_tell d gs (learnt_tells d g es)) us) (append_assoc ts (t ∷ []) (told_learnt (map learnt_of gs))) (learnt_say gs (learnt_tells d g es) (ts ++ t ∷ []) one)

  message_says : (u k : ℕ) (carried : Option Msg) (m : Name) (es : List Entry) (ts : List Told) → mails_of (carried_mails carried) ≡ m ∷ [] → Says d es ts
      → Says d (message_tells u k carried es) (ts ++ record { number = k; name = answer_of u m } ∷ [])
  unfolding message_tells
  message_says u k None m es ts e says = absurd cc
  message_says u k (Some x) m es ts e says =
      let same : mail_of x ≡ m = cc in
      says_more d es ts k (shown.Answer u x) (answer_of u m) (answer_printed d u x ∙ ap (λ (n : Name). printed d (answer_of u n)) same) says

  abbrev answer_if : ℕ → ℕ → Name → Bool → List Told
  answer_if u k m asks = elim asks [ true ↦ record { number = k; name = answer_of u m } ∷ [] | false ↦ [] ]

  asked_says : (u k : ℕ) (carried : Option Msg) (asks : Bool) (m : Name) (es : List Entry) (ts : List Told) → mails_of (carried_mails carried) ≡ m ∷ [] → Says d es ts
      → Says d (answer_tells u k carried asks es) (ts ++ answer_if u k m asks)
  unfolding answer_tells
  asked_says u k carried true m es ts e says = message_says u k carried m es ts e says
  asked_says u k carried false m es ts e says = says_same d es ts says

  answer_says : (u k : ℕ) (carried : Option Msg) (asks : Bool) (n : Note Name) (es : List Entry) (ts : List Told) → mails_of (carried_mails carried) ≡ carried_in n → asks ≡ asks_in n → Says d es ts
      → Says d (answer_tells u k carried asks es) (ts ++ told_answer u k n)
  unfolding answer_tells told_answer carried_in asks_in
  answer_says u k carried asks (Deliver x y verb zs) es ts e is says =
      subst (λ (b : Bool). Says d (answer_tells u k carried b es) (ts ++ answer_if u k x.message x.asks)) (sym is) (asked_says u k carried x.asks x.message es ts e says)
  answer_says u k carried asks (Open i x) es ts e is says = subst (λ (b : Bool). Says d (answer_tells u k carried b es) (ts ++ [])) (sym is) (says_same d es ts says)
  answer_says u k carried asks (Ask p i x) es ts e is says = subst (λ (b : Bool). Says d (answer_tells u k carried b es) (ts ++ [])) (sym is) (says_same d es ts says)
  answer_says u k carried asks (SettledTo x y) es ts e is says = subst (λ (b : Bool). Says d (answer_tells u k carried b es) (ts ++ [])) (sym is) (says_same d es ts says)
  answer_says u k carried asks (Elsewhere x c) es ts e is says = subst (λ (b : Bool). Says d (answer_tells u k carried b es) (ts ++ [])) (sym is) (says_same d es ts says)
  answer_says u k carried asks (Shorten x c i) es ts e is says = subst (λ (b : Bool). Says d (answer_tells u k carried b es) (ts ++ [])) (sym is) (says_same d es ts says)

  -- ---- the names of what was exported

  module _ (ms : List Theirs) (v u : ℕ) (p : Theirs) (last : Vat Local) (t : Table) (names : Named)
      (here : slice_get ms v ≡ Some p) (stands : NamesStand (words_of d) v last p.names names) (objects : ObjectsStand ms v names.naming.objects)
      (connection : connection_for u p ≡ connection_of t) (references : AreReferences t.exports) where
    like : Agrees (words_of d) (name_at_vat ms v p.names) names.naming
    like = agrees (words_of d) v last p.names names ms stands objects

    abbrev called : Theirs → Option Local → Name
    called q o = elim o [ Some n ↦ name_at_vat ms v q.names n | None ↦ Root v ]

    root_shown : shown.Root names.naming.vat ≡ printed d (Root v)
    unfolding shown_name
    root_shown = ap shown.Root stands.vat

    value_shown : (x : Value) → is_reference x ≡ true → name_if names.naming (Some x) ≡ printed d (called p (Some (local_of x)))
    unfolding is_reference local_of
    value_shown (held.Obj i) e = sym (like.object i)
    value_shown (held.Prom k) e = sym (like.promise k)
    value_shown (held.Far h q) e = sym (like.far h q)
    value_shown held.Null e = absurd cc
    value_shown (held.Bool b) e = absurd cc
    value_shown (held.Int z) e = absurd cc
    value_shown (held.Char x) e = absurd cc
    value_shown (held.Text i) e = absurd cc
    value_shown (held.List i) e = absurd cc
    value_shown (held.Prim n) e = absurd cc
    value_shown (held.Broken i) e = absurd cc

    at_position : (xs : List Value) (k : ℕ) → AreReferences xs → name_if names.naming (slice_get xs k) ≡ printed d (called p (slice_get (map local_of xs) k))
    at_position [] k a = root_shown
    at_position (x ∷ xs) zero a = value_shown x a.0
    at_position (x ∷ xs) (suc k) a = at_position xs k a.1

    at_exporter : (k : ℕ) (o : Option Theirs) → o ≡ Some p
        → ◌≡◌ {A = Name} (elim o [ Some q ↦ elim (slice_get (connection_for u q).exports k) [ Some n ↦ name_at_vat ms v q.names n | None ↦ Root v ] | None ↦ Root v ]) (called p (slice_get (connection_for u p).exports k))
    at_exporter k (Some q) e = let same : q ≡ p = cc in ap (λ (r : Theirs). called r (slice_get (connection_for u r).exports k)) same
    at_exporter k None e = absurd cc

    pub exported_shown : (k : ℕ) → name_if names.naming (slice_get t.exports k) ≡ printed d (name_exported ms v u k)
    unfolding name_exported
    exported_shown k =
        at_position t.exports k references
        ∙ ap (λ (c : Connection Local). printed d (called p (slice_get c.exports k))) (sym connection)
        ∙ ap (λ (n : Name). printed d n) (sym (at_exporter k (slice_get ms v) here))

  -- what is told of a frame, where g prints the names of what its sender exported
  pub brought_says : (ms : List Theirs) (v u first : ℕ) (m : Theirs) (h : HeardNote) (n : Note Name) (news : News) (carried : Option Msg) (asks : Bool) (g : ℕ → ShownName)
      → ((k : ℕ) → g k ≡ printed d (name_exported ms v u k)) → first ≡ length (connection_for v m).imports → Brings v m h news → mails_of (carried_mails carried) ≡ carried_in n → asks ≡ asks_in n
      → Says d (answer_tells u news.known carried asks (all_learnt_tell d news.gifts (imports_tell g first news.imports []))) (brought ms v u n h m)
  unfolding brought
  brought_says ms v u first m h n news carried asks g same at brings carries is =
      let f = name_exported ms v u in
      let a = told_imports f first (map local_of news.imports) in
      let b = told_learnt (map learnt_of news.gifts) in
      let c = told_answer u news.known n in
      let es = imports_tell g first news.imports [] in
      let says : Says d es a = imports_say f g same first news.imports [] [] (none_said d) in
      let all = answer_says u news.known carried asks n (all_learnt_tell d news.gifts es) (a ++ b) carries is (learnt_say news.gifts es a says) in
      subst (λ (us : List Told). Says d (answer_tells u news.known carried asks (all_learnt_tell d news.gifts es)) us)
      (ap (λ (p : ℕ). told_imports f p (map local_of news.imports) ++ b ++ c) at
      ∙ ap (λ (xs : List Local). told_imports f (length (connection_for v m).imports) xs ++ b ++ c) brings.imports
      ∙ ap (λ (xs : List (Learnt Local)). told_imports f (length (connection_for v m).imports) (drop (length (connection_for v m).imports) h.after.imports) ++ told_learnt xs ++ c) brings.gifts
      ∙ ap (λ (k : ℕ). told_imports f (length (connection_for v m).imports) (drop (length (connection_for v m).imports) h.after.imports) ++ told_learnt (drop (length m.learnt) h.after.learnt) ++ told_answer u k n) brings.known)
      all
