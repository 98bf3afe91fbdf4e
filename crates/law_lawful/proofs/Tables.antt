-- Connections on which notes are put and from which notes are heard keep the names of their two vats.
use Rattle.std.proofs.Common.{◌≡◌, ℕ, Bool, true, false, List, [], ◌∷◌, ◌++◌, Option, Some, None, refl, sym, subst, ◌∙◌, inl, inr, map}
use Rattle.std.specs.Prelude.{slice_get, unwrap_or, ◌==◌}
use Rattle.std.proofs.lemmas.Bool.{eqb-true}
use Rattle.def_op.specs.Frames as op
use Rattle.def_op.specs.Frames.{Described, Members, Outcome, Operation}
use Rattle.def_machine.specs.Values.{Value, Ref, Name, Root, Object, Promise, Answer, Gift, Sent, host_of, answer_of, word_of}
use Rattle.def_machine.specs.State.{Passed, Passeds, Plain, AGift, Many, NoMore, More, Note, Deliver, Open, Ask, SettledTo, Elsewhere, Shorten, Put, Vat}
use Rattle.def_machine.specs.Arrive.{Incoming}
use Rattle.def_machine.proofs.Keys.{word_key}
use Rattle.def_hostile.specs.Hostile.{asked_for, said_on}
use Rattle.def_run.specs.Connections as reading
use Rattle.def_run.specs.Connections.{Heard}
use Rattle.def_run.specs.Entered as entering
use Rattle.def_run.specs.Marks as marks
use Rattle.def_run.specs.Wire as wire
use Rattle.def_run.specs.Wire.{Connected, connected_at, unconnected, with_connected}
use Rattle.law_fate.specs.Name.Names.{AllOf, IsAmong, IsMessageMade, NoteOk, ValueOk, PassedOk, PassedsOk}
use Rattle.law_fate.proofs.Name.Facts.{all_end, all_append, all_map}
use Rattle.law_reference.specs.Reference.Notes.{IsBetween}
use Rattle.law_lawful.specs.Claims.{WasMade, IsMade}
use Rattle.law_lawful.specs.Tables.{IsOf, TablesFit}
use Rattle.law_lawful.proofs.Heard.{DescClaims, AllClaim, OutcomeClaims, OpClaims, ImportsFit, note_imports, all_at}

-- ---- one among the connections

ends_at : (b c : Bool) (d : Connected) (v w : ℕ) → (d.from == v) ≡ b → (d.to == w) ≡ c → elim b [ true ↦ c | false ↦ false ] ≡ true → (d.from ≡ v) × (d.to ≡ w)
ends_at true true d v w e f i = (eqb-true d.from v e, eqb-true d.to w f)
ends_at other another d v w e f i = cc

ends_are : (d : Connected) (v w : ℕ) → wire.connects v w d ≡ true → (d.from ≡ v) × (d.to ≡ w)
unfolding wire.connects
ends_are d v w e = ends_at (d.from == v) (d.to == w) d v w refl refl e

module _ (P : Connected → Type 0) (v w : ℕ) where
  head_holds : (b : Bool) (c d : Connected) (cs rest : List Connected) → P c → AllOf P cs → (b ≡ true → P d) → AllOf P rest → AllOf P (elim b [ true ↦ d ∷ cs | false ↦ c ∷ rest ])
  head_holds true c d cs rest h i f g = (f refl, i)
  head_holds false c d cs rest h i f g = (h, g)

  pub with_connected_holds : (f : Connected → Connected) → ((c : Connected) → c.from ≡ v → c.to ≡ w → P c → P (f c)) → P (unconnected v w) → (cs : List Connected) → AllOf P cs → AllOf P (with_connected f v w cs)
  unfolding with_connected unconnected
  with_connected_holds f g u [] h = (g (unconnected v w) refl refl u, tt)
  with_connected_holds f g u (c ∷ cs) h = head_holds (wire.connects v w c) c (f c) cs (with_connected f v w cs) h.0 h.1 (λ e. let at = ends_are c v w e in g c at.0 at.1 h.0) (with_connected_holds f g u cs h.1)

  found_head : (b : Bool) (c d : Connected) → (b ≡ true → (c.from ≡ v) × (c.to ≡ w)) → P c → P d × (d.from ≡ v) × (d.to ≡ w) → let x : Connected = elim b [ true ↦ c | false ↦ d ] in P x × (x.from ≡ v) × (x.to ≡ w)
  found_head true c d f h k = (h, (f refl).0, (f refl).1)
  found_head false c d f h k = k

  pub connected_holds : P (unconnected v w) → (cs : List Connected) → AllOf P cs → P (connected_at v w cs) × ((connected_at v w cs).from ≡ v) × ((connected_at v w cs).to ≡ w)
  unfolding connected_at unconnected
  connected_holds u [] h = (u, refl, refl)
  connected_holds u (c ∷ cs) h = found_head (wire.connects v w c) c (connected_at v w cs) (ends_are c v w) h.0 (connected_holds u cs h.1)

-- ---- names that were made

module _ (Claim : ℕ → Type 0) (vats : List (Vat Name)) (draws : List ℕ) where
  abbrev pub Made : Name → Type 0
  Made = WasMade Claim vats draws

  abbrev pub Fit : Connected → Type 0
  Fit = TablesFit Made

  pub nothing_fits : (v w : ℕ) → Fit (unconnected v w)
  unfolding unconnected
  nothing_fits v w = record { exports = tt; imports = tt; questions = tt; answers = tt }

  pub answer_made : (u : ℕ) (m : Name) → IsMessageMade vats m → IsOf Made u (answer_of u m)
  unfolding answer_of host_of
  answer_made u (Sent m) h = (refl, h)
  answer_made u other h = absurd h

  -- ---- a note is put

  module _ (v w : ℕ) where
    as_fits : (b c d : Bool) (n : Name) (ns : List Name) → (b ≡ true → host_of n ≡ v) → Made n → AllOf (IsOf Made v) ns → AllOf (IsOf Made v) (elim b [ true ↦ elim c [ true ↦ ns | false ↦ elim d [ true ↦ ns | false ↦ ns ++ n ∷ [] ] ] | false ↦ ns ])
    as_fits true false false n ns f m h = all_end (IsOf Made v) ns n h (f refl, m)
    as_fits true false true n ns f m h = h
    as_fits true true d n ns f m h = h
    as_fits false c d n ns f m h = h

    name_exported : (asked : List Name) (n : Name) (ns : List Name) → Made n → AllOf (IsOf Made v) ns → AllOf (IsOf Made v) (reading.exported_as (wire.sight v w) asked n ns)
    unfolding reading.exported_as wire.sight
    name_exported asked n ns m h = as_fits (host_of n == v) (reading.stands_in (wire.sight v w) asked n) (reading.stands_in (wire.sight v w) ns n) n ns (eqb-true (host_of n) v) m h

    value_exported : (asked : List Name) (y : Value Name) (ns : List Name) → ValueOk (IsMade Claim vats draws) y → AllOf (IsOf Made v) ns → AllOf (IsOf Made v) (reading.exported_value (wire.sight v w) asked y ns)
    unfolding reading.exported_value
    value_exported asked (Ref n) ns m h = name_exported asked n ns m h
    value_exported asked other ns m h = h

    mutual
      unfolding reading.exported_passed reading.exported_all

      passed_exported : (asked : List Name) (y : Passed Name) (ns : List Name) → PassedOk (IsMade Claim vats draws) y → AllOf (IsOf Made v) ns → AllOf (IsOf Made v) (reading.exported_passed (wire.sight v w) asked y ns)
      passed_exported asked (Plain y) ns m h = value_exported asked y ns m h
      passed_exported asked (AGift a i) ns m h = h
      passed_exported asked (Many ys) ns m h = all_exported asked ys ns m h

      all_exported : (asked : List Name) (ys : Passeds Name) (ns : List Name) → PassedsOk (IsMade Claim vats draws) ys → AllOf (IsOf Made v) ns → AllOf (IsOf Made v) (reading.exported_all (wire.sight v w) asked ys ns)
      all_exported asked NoMore ns m h = h
      all_exported asked (More y ys) ns m h = all_exported asked ys (reading.exported_passed (wire.sight v w) asked y ns) m.1 (passed_exported asked y ns m.0 h)

    note_exported : (asked : List Name) (n : Note Name) (ns : List Name) → NoteOk (IsMade Claim vats draws) n → AllOf (IsOf Made v) ns → AllOf (IsOf Made v) (reading.exported_note (wire.sight v w) asked n ns)
    unfolding reading.exported_note
    note_exported asked (Deliver d n verb ys) ns m h = all_exported asked ys (reading.exported_as (wire.sight v w) asked n ns) m.2 (name_exported asked n ns m.1 h)
    note_exported asked (Open i n) ns m h = name_exported asked n ns m.1 h
    note_exported asked (Ask p i n) ns m h = h
    note_exported asked (SettledTo n y) ns m h = passed_exported asked y (reading.exported_as (wire.sight v w) asked n ns) m.1 (name_exported asked n ns m.0 h)
    note_exported asked (Elsewhere n c) ns m h = name_exported asked n ns m.0 h
    note_exported asked (Shorten n c i) ns m h = name_exported asked n ns m.0 h

    answer_if : (b : Bool) (m : Name) → IsMessageMade vats m → AllOf (IsOf Made w) (reading.answer_if (wire.sight v w) b m)
    unfolding reading.answer_if wire.sight
    answer_if true m h = (answer_made w m h, tt)
    answer_if false m h = tt

    -- what a note to w asks for
    pub asked_fits : (n : Note Name) → NoteOk (IsMade Claim vats draws) n → IsBetween v w n → AllOf (IsOf Made w) (reading.asked_in (wire.sight v w) n)
    unfolding reading.asked_in
    asked_fits (Deliver d n verb ys) m b = answer_if d.asks d.message m.0
    asked_fits (Ask p i n) m b = ((b, m.1), tt)
    asked_fits (Open i n) m b = tt
    asked_fits (SettledTo n y) m b = tt
    asked_fits (Elsewhere n c) m b = tt
    asked_fits (Shorten n c i) m b = tt

  wrote_fits : (v w : ℕ) (n : Note Name) → NoteOk (IsMade Claim vats draws) n → IsBetween v w n → (c : Connected) → c.from ≡ v → c.to ≡ w → Fit c → Fit (wire.wrote n c)
  unfolding wire.wrote reading.put_on
  wrote_fits v w n m b c e f h = let bt : IsBetween c.from c.to n = rw (sym e, sym f) at b in record {
    exports = note_exported c.from c.to c.tables.answers n c.tables.exports m h.exports;
    imports = h.imports;
    questions = all_append (IsOf Made c.to) c.tables.questions _ h.questions (asked_fits c.from c.to n m bt);
    answers = h.answers;
  }

  pub write_all_fits : (v : ℕ) (ps : List (Put Name)) (cs : List Connected) → AllOf (λ (p : Put Name). NoteOk (IsMade Claim vats draws) p.note × IsBetween v p.to p.note) ps → AllOf Fit cs → AllOf Fit (wire.write_all v ps cs)
  unfolding wire.write_all
  write_all_fits v [] cs m h = h
  write_all_fits v (p ∷ ps) cs m h = write_all_fits v ps (with_connected (wire.wrote p.note) v p.to cs) m.1 (with_connected_holds Fit v p.to (wire.wrote p.note) (λ c e f k. wrote_fits v p.to p.note m.0.0 m.0.1 c e f k) (nothing_fits v p.to) cs h)

  -- ---- a note is heard

  mutual
    any_desc : (d : Described) → DescClaims (λ w. Unit {0}) d
    any_desc (op.ListOf ds) = any_all ds
    any_desc (op.Third h w) = tt
    any_desc (op.Datum x) = tt
    any_desc (op.Broken t) = tt
    any_desc (op.YourExport p) = tt
    any_desc (op.YourAnswer p) = tt
    any_desc (op.MyExport p) = tt
    any_desc (op.MyPromise p) = tt
    any_desc (op.MyAnswer p) = tt

    any_all : (ds : Members) → AllClaim (λ w. Unit {0}) ds
    any_all op.none = tt
    any_all (op.more d ds) = (any_desc d, any_all ds)

  any_outcome : (o : Outcome) → OutcomeClaims (λ w. Unit {0}) o
  any_outcome (op.To d) = any_desc d
  any_outcome (op.Elsewhere h) = tt

  pub any_op : (o : Operation) → OpClaims (λ w. Unit {0}) o
  any_op (op.Deliver q d verb ds) = any_all ds
  any_op (op.DeliverOnly d verb ds) = any_all ds
  any_op (op.Resolve d o) = any_outcome o
  any_op (op.Provide d w) = tt
  any_op (op.Accept q p w) = tt
  any_op (op.Shorten d w) = tt

  pub numbered_fits : (v : ℕ) (ns : List Name) (i : ℕ) → AllOf (IsOf Made v) ns → IsOf Made v (wire.numbered v ns i)
  unfolding wire.numbered host_of
  numbered_fits v ns i h = by_option (slice_get ns i) refl
    where
      by_option : (o : Option Name) → slice_get ns i ≡ o → IsOf Made v (unwrap_or o (Root v))
      by_option None e = (refl, tt)
      by_option (Some n) e = all_at (IsOf Made v) ns i n h e

  imports_after : (B : Name → Type 0) (ns : List Name) (x : Option (Heard Name (Note (Incoming Name Name)))) → AllOf B ns → ImportsFit B x → AllOf B (wire.imports_after ns x)
  unfolding wire.imports_after
  imports_after B ns None h i = h
  imports_after B ns (Some x) h i = i

  -- what comes to be imported the peer exported
  imports_fit : (c d : Connected) → Fit c → Fit d → d.to ≡ c.from → (o : Option Operation) → ImportsFit (IsOf Made c.from) (wire.read_frame d c (Root c.from) (wire.first_stage d) o)
  unfolding wire.read_frame wire.first_stage wire.newcomers
  imports_fit c d h k e None = tt
  imports_fit c d h k e (Some o) = note_imports (λ w. Unit {0}) (λ n. Unit {0}) (IsOf Made c.from) (λ n. Unit {0}) (λ b. Unit {0}) wire.is_object d.from d.to (wire.newcomers c (Root c.from)) d.tables
      (all_map (λ n i. tt) d.tables.exports k.exports) (all_map (λ n i. tt) d.tables.answers k.answers) (rw e at k.questions)
      (λ p. numbered_fits c.from c.tables.exports p h.exports) (λ p k. numbered_fits c.from c.tables.exports p h.exports) (λ p. numbered_fits c.from c.tables.exports p h.exports) (λ g w k i. tt)
      (λ n i. tt) (λ n i. tt) (λ n i. tt) (λ g. tt) (λ w i. tt) o (wire.first_stage d) (any_op o) (rw e at k.imports, tt)

  received_fits : (c d : Connected) (n : Note Name) → Fit c → Fit d → d.to ≡ c.from → d.from ≡ c.to → NoteOk (IsMade Claim vats draws) n → IsBetween c.from c.to n → Fit (wire.received c n d)
  unfolding wire.received
  received_fits c d n h k e f m b = record {
    exports = k.exports;
    imports = subst (λ x. AllOf (IsOf Made x) (wire.imports_after d.tables.imports (wire.read_frame d c (Root c.from) (wire.first_stage d) (wire.frame_due c d)))) (sym e) (imports_after (IsOf Made c.from) d.tables.imports _ (subst (λ x. AllOf (IsOf Made x) d.tables.imports) e k.imports) (imports_fit c d h k e (wire.frame_due c d)));
    questions = k.questions;
    answers = all_append (IsOf Made d.from) d.tables.answers _ k.answers (subst (λ x. AllOf (IsOf Made x) (reading.asked_in (wire.sight c.from c.to) n)) (sym f) (asked_fits c.from c.to n m b));
  }

  between_at : (a v x y : ℕ) (n : Note Name) → x ≡ a → y ≡ v → IsBetween a v n → IsBetween x y n
  between_at a v x y n e f b = subst (λ i. IsBetween i y n) (sym e) (subst (λ i. IsBetween a i n) (sym f) b)

  pub hear_fits : (a v : ℕ) (n : Note Name) (cs : List Connected) → NoteOk (IsMade Claim vats draws) n → IsBetween a v n → AllOf Fit cs → AllOf Fit (wire.hear_at a v n cs)
  unfolding wire.hear_at
  hear_fits a v n cs m b h = let k = connected_holds Fit a v (nothing_fits a v) cs h in
      with_connected_holds Fit v a (wire.received (connected_at a v cs) n) (λ c e f i. received_fits (connected_at a v cs) c n k.0 i (f ∙ sym k.1) (e ∙ sym k.2) m (between_at a v (connected_at a v cs).from (connected_at a v cs).to n k.1 k.2 b)) (nothing_fits v a) cs h

  -- ---- what is imported is imported as entries

  placed_fits : (u : ℕ) (n : Name) → IsOf Made u n → IsOf Made u (marks.rekeyed marks.placed n)
  unfolding marks.rekeyed marks.placed host_of
  placed_fits u (Gift h i) (e, inl a) = (e, inl (subst (λ w. IsAmong w draws) (sym (word_key _ (word_of i))) a))
  placed_fits u (Gift h i) (e, inr c) = (e, inr (subst Claim (sym (word_key _ (word_of i))) c))
  placed_fits u (Root h) k = k
  placed_fits u (Object h i) k = k
  placed_fits u (Promise h i) k = k
  placed_fits u (Answer h m) k = k
  placed_fits u (Sent m) k = k

  all_placed : (u : ℕ) (ns : List Name) → AllOf (IsOf Made u) ns → AllOf (IsOf Made u) (map (marks.rekeyed marks.placed) ns)
  all_placed u [] h = tt
  all_placed u (n ∷ ns) h = (placed_fits u n h.0, all_placed u ns h.1)

  pub imports_placed_fit : (v a : ℕ) (cs : List Connected) → AllOf Fit cs → AllOf Fit (entering.imports_placed v a cs)
  unfolding entering.imports_placed entering.import_placed
  imports_placed_fit v a cs h = with_connected_holds Fit v a entering.import_placed (λ c e f k. record { exports = k.exports; imports = all_placed c.to c.tables.imports k.imports; questions = k.questions; answers = k.answers }) (nothing_fits v a) cs h

  -- ---- a frame is put

  asked_if : (u : ℕ) (b : Bool) (m : Name) → IsMessageMade vats m → AllOf (IsOf Made u) (elim b as (λ _. List Name) [ true ↦ answer_of u m ∷ [] | false ↦ [] ])
  asked_if u true m h = (answer_made u m h, tt)
  asked_if u false m h = tt

  asked_for_fits : (v u : ℕ) (n : Note Name) → NoteOk (IsMade Claim vats draws) n → IsBetween v u n → AllOf (IsOf Made u) (asked_for u n)
  unfolding asked_for
  asked_for_fits v u (Deliver d n verb ys) m b = asked_if u d.asks d.message m.0
  asked_for_fits v u (Ask p i n) m b = ((b, m.1), tt)
  asked_for_fits v u (Open i n) m b = tt
  asked_for_fits v u (SettledTo n y) m b = tt
  asked_for_fits v u (Elsewhere n c) m b = tt
  asked_for_fits v u (Shorten n c i) m b = tt

  said_fits : (v u : ℕ) (o : Operation) (n : Note Name) (new : List Name) → NoteOk (IsMade Claim vats draws) n → IsBetween v u n → AllOf (IsOf Made v) new → (c : Connected) → c.from ≡ v → c.to ≡ u → Fit c → Fit (said_on u o n new c)
  unfolding said_on
  said_fits v u o n new m b k c e f h = record {
    exports = all_append (IsOf Made c.from) c.tables.exports new h.exports (subst (λ x. AllOf (IsOf Made x) new) (sym e) k);
    imports = h.imports;
    questions = all_append (IsOf Made c.to) c.tables.questions _ h.questions (subst (λ x. AllOf (IsOf Made x) (asked_for u n)) (sym f) (asked_for_fits v u n m b));
    answers = h.answers;
  }

  pub framed_fits : (v u : ℕ) (o : Operation) (n : Note Name) (new : List Name) (cs : List Connected) → NoteOk (IsMade Claim vats draws) n → IsBetween v u n → AllOf (IsOf Made v) new → AllOf Fit cs → AllOf Fit (with_connected (said_on u o n new) v u cs)
  framed_fits v u o n new cs m b k h = with_connected_holds Fit v u (said_on u o n new) (λ c e f i. said_fits v u o n new m b k c e f i) (nothing_fits v u) cs h

-- where more is so of names
pub fit_up : (P Q : Name → Type 0) → ((n : Name) → P n → Q n) → (c : Connected) → TablesFit P c → TablesFit Q c
fit_up P Q up c h = record {
  exports = all_map (λ n k. (k.0, up n k.1)) c.tables.exports h.exports;
  imports = all_map (λ n k. (k.0, up n k.1)) c.tables.imports h.imports;
  questions = all_map (λ n k. (k.0, up n k.1)) c.tables.questions h.questions;
  answers = all_map (λ n k. (k.0, up n k.1)) c.tables.answers h.answers;
}
