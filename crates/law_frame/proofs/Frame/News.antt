-- The news that a name settled at another host is read alike: its name is known, or the next export of the sender.
use Rattle.std.proofs.Common.{◌≡◌, ℕ, zero, suc, Bool, true, false, List, [], ◌∷◌, ◌++◌, Option, Some, None, refl, sym, ap, subst, ◌∙◌, ◌⊎◌, inl, inr, length, map, ◌==◌, arith}
use Rattle.std.specs.Prelude.{slice_get, option_map, unwrap_or}
use Rattle.std.proofs.lemmas.Bool.{eqb-true, eq-eqb}
use Rattle.std.proofs.lemmas.Option.{slice_get-map, slice_get_past}
use Rattle.def_op.specs.Frames as op
use Rattle.def_op.specs.Frames.{Described}
use Rattle.def_machine.specs.Values.{Name, Root, Object, Promise, Answer, Gift, Sent, host_of, Local, Prom, Far, word_of}
use Rattle.def_machine.specs.State.{Note, Elsewhere, Vat}
use Rattle.def_machine.specs.Arrive.{Incoming, Old, New}
use Rattle.def_run.specs.World as world
use Rattle.def_run.specs.World.{Script, Link, World, link_at, has_name, is_old, read_name, known_after}
use Rattle.law_reference.specs.Reference.Logs as wire
use Rattle.law_fate.specs.Name.Names.{AllOf, IsAmong, IsKnownIn, names_in}
use Rattle.law_fate.proofs.Name.SameNames.{has_among, among_has}
use Rattle.law_fate.proofs.Name.Among.{all_among}
use Rattle.def_machine.specs.Maps as maps
use Rattle.def_machine.specs.Maps.{incoming}
use Rattle.law_machine.specs.Renamed.Renaming.{Wire as Wired, Mine}
use Rattle.law_machine.specs.Renamed.Stands.{Found, Is, found, prom_found, far_found}
use Rattle.law_reference.specs.Reference.Exports.{object_of, exported_at}
use Rattle.law_reference.specs.Reference.Notes.{IsBetween, LinkFits}
use Rattle.law_reference.proofs.Reference.NotesRuns.{notes_name_ends}
use Rattle.law_frame.specs.Frame.Tables.{Tables, known_number, import_number, import_numbers, tables_of, arrived}
use Rattle.law_frame.specs.Frame.Hearing.{Heard, told, told_if, next, with_position, promise_heard, name_heard, outcome_heard, note_heard}
use Rattle.law_frame.specs.Frame.Alike.{table_heard, names_heard, wire_name, as_told, by_numbers, by_names}
use Rattle.law_frame.specs.Frame.Asked.{told_in}
use Rattle.law_frame.specs.Frame.News.{NewsIsReadAlike}
use Rattle.law_frame.proofs.Frame.Exported.{exports_in}
use Rattle.law_frame.proofs.Frame.WireArrivals.{arrived_is}
use Rattle.law_frame.proofs.Frame.LinksKnown.{LinkKnown, at_link}
use Rattle.law_frame.proofs.Frame.Ranks.{get_rank, rank_end, rank_front, exports_start, exports_twice}
use Rattle.law_frame.proofs.Frame.WireLaws.{asked_for_known, arrived_known}
use Rattle.law_frame.proofs.Frame.SourceLaws.{names_from_hosts}
use Rattle.law_frame.proofs.Frame.WireRuns.{stepped_both}

true_false : (b : Bool) → b ≡ true → b ≡ false → ⊥
true_false b e f = cc

-- ---- reading in names

old_name : (b : Bool) (n : Name) → b ≡ true → ◌≡◌ {A = Incoming Name Name} (elim b [ true ↦ Old n | false ↦ New n (host_of n) ]) (Old n)
old_name true n e = refl
old_name false n e = cc

new_name : (b : Bool) (n : Name) → b ≡ false → ◌≡◌ {A = Incoming Name Name} (elim b [ true ↦ Old n | false ↦ New n (host_of n) ]) (New n (host_of n))
new_name false n e = refl
new_name true n e = cc

read_old : (ks : List Name) (n : Name) → is_old ks n ≡ true → read_name ks n ≡ Old n
unfolding read_name
read_old ks n e = old_name (is_old ks n) n e

read_new : (ks : List Name) (n : Name) → is_old ks n ≡ false → read_name ks n ≡ New n (host_of n)
unfolding read_name
read_new ks n e = new_name (is_old ks n) n e

same_known : (b : Bool) (ks : List Name) (n : Name) → b ≡ true → ◌≡◌ {A = List Name} (elim b [ true ↦ ks | false ↦ ks ++ n ∷ [] ]) ks
same_known true ks n e = refl
same_known false ks n e = cc

after_old : (ks : List Name) (n : Name) → is_old ks n ≡ true → known_after ks n ≡ ks
unfolding known_after
after_old ks n e = same_known (is_old ks n) ks n e

-- ---- parts of reading in numbers

told_some : (o : Option Local) (l : Local) (is : List Local) (k : ℕ) → o ≡ Some l → told_if {B = Incoming Local Wired} Old o is k ≡ Some (record { read = Old l; imports = is; known = k })
unfolding told_if told
told_some o l is k e = rw e refl

import_get : (peer : ℕ) (ks : List Name) (p : ℕ) (E : List Name) (i : ℕ) (n : Name) (l : Local) → ((q : ℕ) → import_number peer ks q n ≡ l) → slice_get E i ≡ Some n → slice_get (import_numbers peer ks p E) i ≡ Some l
unfolding import_numbers
import_get peer ks p [] i n l f e = cc
import_get peer ks p (m ∷ E) zero n l f e = ap Some (ap (λ z. import_number peer ks p z) (first m n e) ∙ f p)
  where
    first : (m n : Name) → Some m ≡ Some n → m ≡ n
    first m n e = cc
import_get peer ks p (m ∷ E) (suc i) n l f e = import_get peer ks (suc p) E i n l f e

import_length : (peer : ℕ) (ks : List Name) (p : ℕ) (E : List Name) → length (import_numbers peer ks p E) ≡ length E
unfolding import_numbers
import_length peer ks p [] = refl
import_length peer ks p (m ∷ E) = ap suc (import_length peer ks (suc p) E)

get_front : (xs ys : List Name) (i : ℕ) (n : Name) → slice_get xs i ≡ Some n → slice_get (xs ++ ys) i ≡ Some n
get_front [] ys i n e = cc
get_front (x ∷ xs) ys zero n e = e
get_front (x ∷ xs) ys (suc i) n e = get_front xs ys i n e

-- it is exported here for the first time
export_first : (a b c : Bool) (n : Name) (ns : List Name) → a ≡ true → b ≡ false → c ≡ false → ◌≡◌ {A = List Name} (elim a [ true ↦ elim b [ true ↦ ns | false ↦ elim c [ true ↦ ns | false ↦ ns ++ n ∷ [] ] ] | false ↦ ns ]) (ns ++ n ∷ [])
export_first true false false n ns e f g = refl
export_first true false true n ns e f g = cc
export_first true true c n ns e f g = cc
export_first false b c n ns e f g = cc

not_among : (ns : List Name) (n : Name) → (IsAmong n ns → ⊥) → (b : Bool) → has_name ns n ≡ b → b ≡ false
not_among ns n f true e = absurd (f (has_among ns n e))
not_among ns n f false e = refl

new_export : (v : ℕ) (asked : List Name) (n : Name) (ns : List Name) → host_of n ≡ v → has_name asked n ≡ false → (IsAmong n ns → ⊥) → wire.with_export v asked n ns ≡ ns ++ n ∷ []
unfolding wire.with_export
new_export v asked n ns e f g = export_first (host_of n == v) (has_name asked n) (has_name ns n) n ns (eq-eqb (host_of n) v e) f (not_among ns n g (has_name ns n) refl)

chosen : (a : Bool) (x y : Described) → a ≡ true → ◌≡◌ {A = Described} (elim a [ true ↦ x | false ↦ y ]) x
chosen true x y e = refl
chosen false x y e = cc

on_bool : {C : Type 0} (b : Bool) → (b ≡ true → C) → (b ≡ false → C) → C
on_bool true f g = f refl
on_bool false f g = g refl

-- ---- a name of the sender

module _ (script : Script) (w : World) (v u : ℕ) (s : Vat Name) (l : Link) (at : link_at v u w.links ≡ Some l) (uncut : l.cut ≡ false) (other : v ≡ u → ⊥) (n : Name) (c : ℕ) (ns : List (Note Name)) (head : l.notes ≡ Elsewhere n c ∷ ns) (host : host_of n ≡ v) (front : List (Note Name)) (split : l.log ≡ front ++ l.notes) where
  abbrev Names : List Name
  Names = names_in s.known

  abbrev Asked : List Name
  Asked = wire.questions (λ i. i) w.links u v

  abbrev Before : List Name
  Before = wire.exports_after v Asked front l.roots

  abbrev Exports : List Name
  Exports = wire.exports (λ i. i) w.links v u

  abbrev T : Tables
  T = tables_of w u s v

  abbrev Reads : Local → Found
  Reads = found u (table_heard w u s (Elsewhere n c))

  abbrev Wires : Wired → Name
  Wires = wire_name w v u (Elsewhere n c)

  -- what is heard for that description is what is read for the name
  abbrev Alike : Described → Type 0
  Alike d = (x : Incoming Local Wired) × (is : List Local) × (k : ℕ) × (name_heard u v T d T.imports (length s.known) ≡ Some (record { read = x; imports = is; known = k })) × (incoming Reads Wires x ≡ incoming Is (λ y. y) (read_name Names n))

  -- a name that is known
  old_alike : is_old Names n ≡ true → IsAmong n Names → incoming Reads Wires (Old (known_number Names n)) ≡ incoming Is (λ y. y) (read_name Names n)
  unfolding known_number found prom_found table_heard names_heard
  old_alike e a = ap (λ (o : Option Name). Old (prom_found (wire.rank Names n) o)) (ap (λ ks. slice_get ks (wire.rank Names n)) (after_old Names n e) ∙ get_rank Names n a) ∙ sym (ap (λ z. incoming Is (λ y. y) z) (read_old Names n e))

  asked_alike : IsAmong n Asked → is_old Names n ≡ true → IsAmong n Names → Alike (op.MyAnswer (wire.rank Asked n))
  unfolding name_heard tables_of
  asked_alike q e a = (
    Old (known_number Names n),
    T.imports,
    length s.known,
    told_some (slice_get (map (known_number Names) Asked) (wire.rank Asked n)) (known_number Names n) T.imports (length s.known) (slice_get-map (known_number Names) Asked (wire.rank Asked n) ∙ ap (λ o. option_map (known_number Names) o) (get_rank Asked n q)),
    old_alike e a,
  )

  -- ---- what is exported

  roots_is : (o : Option Link) → o ≡ Some l → wire.roots_of o ≡ l.roots
  unfolding wire.roots_of
  roots_is o e = rw (e, wire.roots_of) refl

  log_is : (o : Option Link) → o ≡ Some l → wire.log_of o ≡ l.log
  unfolding wire.log_of
  log_is o e = rw (e, wire.log_of) refl

  exports_are : Exports ≡ wire.exports_after v Asked (Elsewhere n c ∷ ns) Before
  unfolding wire.exports
  exports_are = ap (λ log. wire.exports_after v Asked log (wire.roots_of (link_at v u w.links))) (log_is (link_at v u w.links) at ∙ split ∙ ap (λ ms. front ++ ms) head) ∙ ap (λ rs. wire.exports_after v Asked (front ++ Elsewhere n c ∷ ns) rs) (roots_is (link_at v u w.links) at) ∙ exports_twice v Asked front (Elsewhere n c ∷ ns) l.roots

  imports_are : T.imports ≡ import_numbers v Names zero Before
  unfolding tables_of
  imports_are = ap (λ o. import_numbers v Names zero (wire.exports_after v Asked (arrived o) (wire.roots_of o))) at ∙ ap (λ log. import_numbers v Names zero (wire.exports_after v Asked log (wire.roots_of (Some l)))) (arrived_is l front split) ∙ ap (λ rs. import_numbers v Names zero (wire.exports_after v Asked front rs)) (roots_is (Some l) refl)

  old_position : IsAmong n Before → wire.rank Exports n ≡ wire.rank Before n
  old_position a = let more = exports_start v Asked (Elsewhere n c ∷ ns) Before in ap (λ es. wire.rank es n) (exports_are ∙ more.1) ∙ rank_front Before more.0 n a

  after_new : has_name Asked n ≡ false → (IsAmong n Before → ⊥) → (more : List Name) × (Exports ≡ Before ++ n ∷ more)
  unfolding wire.exports_after wire.with_note
  after_new e f = let more = exports_start v Asked ns (wire.with_export v Asked n Before) in let one = new_export v Asked n Before host e f in
      (more.0, exports_are ∙ more.1 ∙ ap (λ es. es ++ more.0) one ∙ joined Before more.0)
    where
      joined : (xs ys : List Name) → (xs ++ n ∷ []) ++ ys ≡ xs ++ n ∷ ys
      joined [] ys = refl
      joined (x ∷ xs) ys = ap (λ zs. x ∷ zs) (joined xs ys)

  exported : has_name Asked n ≡ false → IsAmong n Exports
  unfolding told_in
  exported e = subst (λ es. IsAmong n es) (sym exports_are) (exports_in v Asked n host e (Elsewhere n c ∷ ns) Before (inr (Elsewhere n c, inl refl, told_itself)))
    where
      told_itself : IsAmong n (n ∷ [])
      told_itself = inl refl

  -- a promise by its position
  abbrev IsNumbered : Type 0
  IsNumbered = (q : ℕ) → import_number v Names q n ≡ known_number Names n

  heard_old : (o : Option Local) (p : ℕ) (x : Local) → o ≡ Some x → promise_heard v p o T.imports (length s.known) ≡ Some (record { read = Old x; imports = T.imports; known = length s.known })
  unfolding promise_heard told
  heard_old o p x e = rw e refl

  heard_new : (o : Option Local) (p : ℕ) → o ≡ None → (is : List Local) × (k : ℕ) × (promise_heard v p o T.imports (length s.known) ≡ Some (record { read = New (Mine false p) v; imports = is; known = k }))
  unfolding promise_heard told
  heard_new None p e = (with_position p (Prom (length s.known)) T.imports, suc (length s.known), refl)
  heard_new (Some x) p e = absurd (some_none x e)
    where
      some_none : (x : Local) → Some x ≡ None → ⊥
      some_none x e = cc

  promise_old : IsNumbered → IsAmong n Before → is_old Names n ≡ true → IsAmong n Names → Alike (op.MyPromise (wire.rank Exports n))
  unfolding name_heard
  promise_old f b e a = (
    Old (known_number Names n),
    T.imports,
    length s.known,
    heard_old (slice_get T.imports (wire.rank Exports n)) (wire.rank Exports n) (known_number Names n) (ap (λ is. slice_get is (wire.rank Exports n)) imports_are ∙ ap (λ p. slice_get (import_numbers v Names zero Before) p) (old_position b) ∙ import_get v Names zero Before (wire.rank Before n) n (known_number Names n) f (get_rank Before n b)),
    old_alike e a,
  )

  new_wired : (p : ℕ) → slice_get Exports p ≡ Some n → is_old Names n ≡ false → incoming Reads Wires (New (Mine false p) v) ≡ incoming Is (λ y. y) (read_name Names n)
  unfolding wire_name
  new_wired p g e = ap (λ (o : Option Name). New (unwrap_or o (Root v)) v) g ∙ ap (λ h. New n h) (sym host) ∙ sym (ap (λ z. incoming Is (λ y. y) z) (read_new Names n e))

  promise_new : has_name Asked n ≡ false → (IsAmong n Before → ⊥) → is_old Names n ≡ false → Alike (op.MyPromise (wire.rank Exports n))
  unfolding name_heard
  promise_new q f e = let more = after_new q f in let rank : wire.rank Exports n ≡ length Before = ap (λ es. wire.rank es n) more.1 ∙ rank_end Before more.0 n f in
      let none : slice_get T.imports (wire.rank Exports n) ≡ None = ap (λ is. slice_get is (wire.rank Exports n)) imports_are ∙ slice_get_past (import_numbers v Names zero Before) (wire.rank Exports n) (let long = import_length v Names zero Before in omega arith) in
      let heard = heard_new (slice_get T.imports (wire.rank Exports n)) (wire.rank Exports n) none in
      (New (Mine false (wire.rank Exports n)) v, heard.0, heard.1, heard.2, new_wired (wire.rank Exports n) (get_rank Exports n (exported q)) e)

  -- an object by its position
  object_number : (b : Bool) (o : Option Name) (p j : ℕ) → b ≡ false → o ≡ Some (Object v j) → far_found v p (elim b [ true ↦ None | false ↦ object_of o ]) ≡ Is (Object v j)
  unfolding far_found object_of
  object_number true o p j e f = cc
  object_number false o p j e f = rw f refl

  object_alike : (j : ℕ) → n ≡ Object v j → has_name Asked n ≡ false → is_old Names n ≡ true → Alike (op.MyExport (wire.rank Exports n))
  unfolding name_heard told found table_heard exported_at
  object_alike j same q e = let p : ℕ = wire.rank Exports n in (
    Old (Far v p),
    with_position p (Far v p) T.imports,
    length s.known,
    refl,
    ap (λ z. Old z) (object_number (u == v) (slice_get Exports p) p j (apart (u == v) refl) (get_rank Exports n (exported q) ∙ ap Some same)) ∙ ap (λ z. Old (Is z)) (sym same) ∙ sym (ap (λ z. incoming Is (λ y. y) z) (read_old Names n e)),
  )
    where
      apart : (b : Bool) → (u == v) ≡ b → b ≡ false
      apart true e = absurd (other (sym (eqb-true u v e)))
      apart false e = refl

  -- ---- the whole note

  by_parts : (o : Option (Heard (Incoming Local Wired))) (x : Incoming Local Wired) (is : List Local) (k : ℕ) → o ≡ Some (record { read = x; imports = is; known = k })
      → option_map (λ h. maps.note (incoming Reads Wires) h.read) (next (λ y. outcome_heard u v T y (op.Elsewhere c)) o) ≡ Some (Elsewhere (incoming Reads Wires x) c)
  unfolding next outcome_heard told
  by_parts o x is k e = rw e refl

  described_is : (b : Bool) → has_name Asked n ≡ b → wire.described word_of w.links v u n ≡ wire.mine word_of w.links v u n b
  unfolding wire.described wire.questions
  described_is b e = chosen (host_of n == v) (wire.mine word_of w.links v u n (has_name Asked n)) (wire.yours word_of w.links v u n (has_name (wire.questions word_of w.links v u) n)) (eq-eqb (host_of n) v host) ∙ ap (λ z. wire.mine word_of w.links v u n z) e

  heard_alike : (d : Described) → wire.described word_of w.links v u n ≡ d → Alike d → by_numbers script w v u s (Elsewhere n c) ≡ by_names v s (Elsewhere n c)
  unfolding by_numbers by_names note_heard wire.operation as_told world.read_note world.names_of
  heard_alike d e a = by_parts (name_heard u v T (wire.described word_of w.links v u n) T.imports (length s.known)) a.0 a.1 a.2 (ap (λ z. name_heard u v T z T.imports (length s.known)) e ∙ a.3) ∙ ap (λ z. Some (Elsewhere z c)) a.4

  -- ---- by what the receiver knows

  module _ (asks : IsAmong n Asked → IsAmong n Names) (arrives : IsAmong n Before → IsKnownIn Names n) (comes : IsAmong n Names → IsAmong n Asked ⊎ IsAmong n Before) where
    mine_asked : wire.mine word_of w.links v u n true ≡ op.MyAnswer (wire.rank Asked n)
    unfolding wire.mine wire.questions
    mine_asked = refl

    mine_else : wire.mine word_of w.links v u n false ≡ wire.exported word_of w.links (wire.rank Exports n) n
    unfolding wire.mine wire.exports wire.questions
    mine_else = refl

    asked_case : is_old Names n ≡ true → has_name Asked n ≡ true → by_numbers script w v u s (Elsewhere n c) ≡ by_names v s (Elsewhere n c)
    asked_case o e = let q = has_among Asked n e in heard_alike (op.MyAnswer (wire.rank Asked n)) (described_is true e ∙ mine_asked) (asked_alike q o (asks q))

    else_case : (d : Described) → wire.exported word_of w.links (wire.rank Exports n) n ≡ d → has_name Asked n ≡ false → Alike d → by_numbers script w v u s (Elsewhere n c) ≡ by_names v s (Elsewhere n c)
    else_case d i e a = heard_alike d (described_is false e ∙ mine_else ∙ i) a

    -- a name that is no object
    module _ (old : is_old Names n ≡ has_name Names n) (known : IsKnownIn Names n → IsAmong n Names) (numbered : IsNumbered) where
      promise_either : has_name Asked n ≡ false → (b : Bool) → has_name Before n ≡ b → Alike (op.MyPromise (wire.rank Exports n))
      promise_either q true e = let b = has_among Before n e in let a = known (arrives b) in promise_old numbered b (old ∙ among_has Names n a) a
      promise_either q false e = promise_new q (λ b. true_false (has_name Before n) (among_has Before n b) e) (old ∙ unknown (has_name Names n) refl)
        where
          no : IsAmong n Asked ⊎ IsAmong n Before → ⊥
          no (inl a) = true_false (has_name Asked n) (among_has Asked n a) q
          no (inr b) = true_false (has_name Before n) (among_has Before n b) e

          unknown : (b : Bool) → has_name Names n ≡ b → b ≡ false
          unknown true f = absurd (no (comes (has_among Names n f)))
          unknown false f = refl

      other_kind : wire.exported word_of w.links (wire.rank Exports n) n ≡ op.MyPromise (wire.rank Exports n) → by_numbers script w v u s (Elsewhere n c) ≡ by_names v s (Elsewhere n c)
      other_kind i = on_bool (has_name Asked n) (λ e. asked_case (old ∙ among_has Names n (asks (has_among Asked n e))) e) (λ e. else_case (op.MyPromise (wire.rank Exports n)) i e (promise_either e (has_name Before n) refl))

-- by the kind of the name
kinds : (script : Script) (w : World) (v u : ℕ) (s : Vat Name) (l : Link) (at : link_at v u w.links ≡ Some l) (uncut : l.cut ≡ false) (other : v ≡ u → ⊥) (n : Name) (c : ℕ) (ns : List (Note Name)) (head : l.notes ≡ Elsewhere n c ∷ ns) (host : host_of n ≡ v) (front : List (Note Name)) (split : l.log ≡ front ++ l.notes)
    → (IsAmong n (wire.questions (λ i. i) w.links u v) → IsAmong n (names_in s.known)) → (IsAmong n (wire.exports_after v (wire.questions (λ i. i) w.links u v) front l.roots) → IsKnownIn (names_in s.known) n)
    → (IsAmong n (names_in s.known) → IsAmong n (wire.questions (λ i. i) w.links u v) ⊎ IsAmong n (wire.exports_after v (wire.questions (λ i. i) w.links u v) front l.roots)) → by_numbers script w v u s (Elsewhere n c) ≡ by_names v s (Elsewhere n c)
unfolding is_old import_number wire.exported host_of
kinds script w v u s l at uncut other (Object h j) c ns head host front split asks arrives comes = on_bool (has_name (wire.questions (λ i. i) w.links u v) (Object h j))
    (λ e. asked_case script w v u s l at uncut other (Object h j) c ns head host front split asks arrives comes refl e)
    (λ e. else_case script w v u s l at uncut other (Object h j) c ns head host front split asks arrives comes (op.MyExport (wire.rank (wire.exports (λ i. i) w.links v u) (Object h j))) refl e (object_alike script w v u s l at uncut other (Object h j) c ns head host front split j (ap (λ z. Object z j) host) e refl))
kinds script w v u s l at uncut other (Root h) c ns head host front split asks arrives comes = other_kind script w v u s l at uncut other (Root h) c ns head host front split asks arrives comes refl (λ k. k) (λ q. refl) refl
kinds script w v u s l at uncut other (Promise h i) c ns head host front split asks arrives comes = other_kind script w v u s l at uncut other (Promise h i) c ns head host front split asks arrives comes refl (λ k. k) (λ q. refl) refl
kinds script w v u s l at uncut other (Answer h m) c ns head host front split asks arrives comes = other_kind script w v u s l at uncut other (Answer h m) c ns head host front split asks arrives comes refl (λ k. k) (λ q. refl) refl
kinds script w v u s l at uncut other (Gift h i) c ns head host front split asks arrives comes = other_kind script w v u s l at uncut other (Gift h i) c ns head host front split asks arrives comes refl (λ k. k) (λ q. refl) refl
kinds script w v u s l at uncut other (Sent m) c ns head host front split asks arrives comes = other_kind script w v u s l at uncut other (Sent m) c ns head host front split asks arrives comes refl (λ k. k) (λ q. refl) refl

head_host : (l : Link) (v u : ℕ) (n : Name) (c : ℕ) (ns : List (Note Name)) → l.notes ≡ Elsewhere n c ∷ ns → AllOf (IsBetween l.from l.to) l.notes → l.from ≡ v → host_of n ≡ v
head_host l v u n c ns e h f = let all : AllOf (IsBetween l.from l.to) (Elsewhere n c ∷ ns) = subst (λ ms. AllOf (IsBetween l.from l.to) ms) e h in all.0 ∙ f

pub news_read : NewsIsReadAlike
news_read script once w x es k follow opened stepped v u s there other l at uncut n c ns head =
    let both = stepped_both script once w x es k opened stepped in let wires = both.1 in
    let known = at_link (LinkKnown x.vats) v u l x.links wires.links at in let kl = known.0 in let a = kl.arrived uncut in
    let ends = at_link LinkFits v u l x.links ((notes_name_ends script once).1 w x es k opened stepped) at in let fits = ends.0 in
    let host : host_of n ≡ v = head_host l v u n c ns head fits.1 ends.1 in let asked : List Name = wire.questions (λ i. i) x.links u v in
    let is : arrived (Some l) ≡ a.0 = arrived_is l a.0 a.1 in
    kinds script x v u s l at uncut other n c ns head host a.0 a.1
    (λ q. all_among (λ m. IsAmong m (names_in s.known)) asked n ((asked_for_known script once).1 w x es k opened stepped u s there v) q)
    (λ b. all_among (IsKnownIn (names_in s.known)) (wire.exports_after v asked a.0 l.roots) n (subst (λ log. AllOf (IsKnownIn (names_in s.known)) (wire.exports_after v asked log l.roots)) is ((arrived_known script once).1 w x es k opened stepped u s there v l at uncut)) b)
    (λ d. subst (λ log. IsAmong n asked ⊎ IsAmong n (wire.exports_after v asked log l.roots)) is (names_from_hosts script once w x es k follow opened stepped u v s there other l at uncut n d host))
