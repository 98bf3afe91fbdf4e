-- The next frame is heard by the numbers of its receiver as its note is read in names, in each world of a run.
use Rattle.std.proofs.Common.{◌≡◌, ℕ, zero, suc, ◌<◌, Bool, true, false, List, [], ◌∷◌, ◌++◌, Option, Some, None, refl, sym, ap, subst, ◌∙◌, inl, map, length, ◌==◌}
use Rattle.std.specs.Prelude.{slice_get, unwrap_or}
use Rattle.std.proofs.lemmas.Bool.{eqb-true}
use Rattle.std.proofs.lemmas.List.{length-map}
use Rattle.std.proofs.lemmas.Option.{slice_get_within}
use Rattle.def_op.specs.Frames.{Operation}
use Rattle.def_machine.specs.Values.{Name, Root, Object, Gift, Sent, host_of, Local, Obj, Prom, Far, Mess}
use Rattle.def_machine.specs.State.{Known, Note, Deliver, Vat}
use Rattle.def_machine.specs.Arrive.{Incoming}
use Rattle.def_machine.specs.Maps as maps
use Rattle.def_machine.specs.Maps.{incoming}
use Rattle.def_run.specs.Connections.{Connection, Learnt, Stage, Heard, note_heard}
use Rattle.def_run.specs.Wire as wire
use Rattle.def_run.specs.Wire.{Connected, connected_at, is_object, numbered, frame_due}
use Rattle.def_run.specs.World as world
use Rattle.def_run.specs.World.{Script, Entry, Link, World, Goes, link_at, names_of, read_note, readied}
use Rattle.law_fate.specs.Name.Names.{AllOf, IsAmong, IsKnownIn, names_in}
use Rattle.law_fate.specs.Name.Runs.{KnowsOnce}
use Rattle.law_fate.proofs.Name.Facts.{all_append}
use Rattle.law_machine.specs.Renamed.Stands.{Table, Found, Is, found, far_found, IsTable}
use Rattle.law_machine.proofs.Renamed.Stands.{Extends}
use Rattle.law_reference.specs.Reference.Cuts.{NoticesFollowCuts}
use Rattle.law_reference.specs.Reference.Exports.{exported_at, object_of}
use Rattle.law_reference.specs.Reference.Logs as logs
use Rattle.law_reference.specs.Reference.Notes.{IsBetween}
use Rattle.law_reference.specs.Reference.Tables.{table_of}
use Rattle.law_reference.proofs.Reference.ApartWhole.{have_tables}
use Rattle.law_reference.proofs.Reference.OnceLaws.{among_at}
use Rattle.law_frame.specs.Frame.Alike.{message_of, names_heard, table_heard}
use Rattle.law_frame.specs.Frame.Asked.{told_in}
use Rattle.law_frame.specs.Frame.Together.{changed_tables, changed_gift, changed_stage}
use Rattle.law_frame.proofs.Frame.Grow.{all_known, get_front, known_old, starts_among}
use Rattle.law_frame.proofs.Frame.Places.{connected_ends}
use Rattle.law_frame.proofs.Frame.Told.{known_up}
use Rattle.law_frame.proofs.Frame.Worlds.{between}
use Rattle.law_frame.specs.Heard.Hearing.{IsHeard, KnowsGifts, stage_before}
use Rattle.law_frame.proofs.Heard.Laws.{as_written, heard_by_gifts, lists_logged, yours_known}
use Rattle.def_run.specs.Vats as here
use Rattle.def_run.specs.Vats.{Member, connection_for, heard_in, stage_of}
use Rattle.def_run.specs.Numbers.{Vats, ready}
use Rattle.law_frame.specs.Local.Hearing.{unnamed, HearsSo, FramesAreHeardByNumbers}
use Rattle.law_frame.specs.Local.Mirrors.{Mirrors, VatMirrors, LearntAre}
use Rattle.law_frame.proofs.Local.FirstTold.{first_told, IsNoObject, TargetIsOld, note_behind, heard_first}
use Rattle.law_frame.proofs.Local.Heard.{IsThatGift, heard_so, numbered_behind, object_found, told_apart}
use Rattle.law_frame.proofs.Local.Newcomers.{FrameFits, NumberedFrom}
use Rattle.law_frame.proofs.Local.Objects.{written_fits}
use Rattle.law_frame.proofs.Local.OwnSteps.{mapped_length}
use Rattle.law_frame.proofs.Local.Sights.{no_object, some_far, some_mail, some_name}
use Rattle.law_frame.proofs.Local.Steps.{learnt_still, tables_still}

-- ---- what a message is sent to

target_old : (u v : ℕ) (ks : List Name) (n : Note Name) → ((y : Name) → IsAmong y (told_in n) → host_of y ≡ u → IsKnownIn ks y) → IsBetween v u n → TargetIsOld ks n
unfolding told_in
target_old u v ks (Deliver d n verb ys) f e = let K = (world.read_all ys ks).known in known_old K n (known_up ks K (λ y a. starts_among ks K (all_known ys ks) y a) n (f n (inl refl) e))
target_old u v ks other f e = tt

-- ---- gifts that were learnt

named_gift : Learnt Local → Learnt Name
named_gift g = record { host = g.host; number = g.number; name = Gift g.host g.number }

gifts_given : (gs : List (Learnt Local)) → AllOf IsThatGift (map (changed_gift Is) (map named_gift gs))
unfolding named_gift
gifts_given [] = tt
gifts_given (g ∷ gs) = (refl, gifts_given gs)

gifts_same : (u : ℕ) (t : Table) (gs : List (Learnt Local)) → LearntAre u t gs → map (changed_gift (found u t)) gs ≡ map (changed_gift Is) (map named_gift gs)
unfolding named_gift
gifts_same u t [] h = refl
gifts_same u t (g ∷ gs) h = ap (λ (y : Found). record { host = g.host; number = g.number; name = y } ∷ map (changed_gift (found u t)) gs) h.0 ∙ ap (λ zs. record { host = g.host; number = g.number; name = Is (Gift g.host g.number) } ∷ zs) (gifts_same u t gs h.1)

gifts_learnt : (u : ℕ) (t : Table) (gs : List (Learnt Local)) → AllOf IsThatGift (map (changed_gift (found u t)) gs) → LearntAre u t gs
gifts_learnt u t [] h = tt
gifts_learnt u t (g ∷ gs) h = (h.0, gifts_learnt u t gs h.1)

module _ (u : ℕ) (t : Table) (good : IsTable u t) where
  gift_known : (h i : ℕ) (a : Local) → found u t a ≡ Is (Gift h i) → IsAmong (Gift h i) t.names
  unfolding found
  gift_known h i (Obj j) e = cc
  gift_known h i (Prom k) e = among_at (Gift h i) t.names k (some_name (slice_get t.names k) k (Gift h i) e)
  gift_known h i (Far g p) e = let f = some_far (t.exports g p) g p (Gift h i) e in let same : Gift h i ≡ Object g f.0 = f.2 in absurd (clash same)
    where
      clash : {a b : ℕ} → Gift h i ≡ Object a b → ⊥
      clash k = cc
  gift_known h i (Mess k) e = let m = good.messages k (Gift h i) (some_mail (slice_get t.mails k) k (Gift h i) e) in absurd (clash m.1)
    where
      clash : {x : _} → Gift h i ≡ Sent x → ⊥
      clash k = cc

  gifts_known : (gs : List (Learnt Local)) → LearntAre u t gs → AllOf (λ (g : Learnt Name). IsAmong (Gift g.host g.number) t.names) (map named_gift gs)
  unfolding named_gift
  gifts_known [] h = tt
  gifts_known (g ∷ gs) h = (gift_known g.host g.number g.name h.0, gifts_known gs h.1)

-- ---- no name that is known is an object

all_got : {P : Name → Type 0} (ns : List Name) → ((k : ℕ) (n : Name) → slice_get ns k ≡ Some n → P n) → AllOf P ns
all_got [] f = tt
all_got (n ∷ ns) f = (f zero n refl, all_got ns (λ k m e. f (suc k) m e))

-- ---- an object at a position

object_found_at : (ls : List Link) (u v p j : ℕ) (t : Table) (c : Connected) → (v ≡ u → ⊥) → t.exports ≡ exported_at ls u → c.tables.exports ≡ logs.exports (λ i. i) ls v u → slice_get c.tables.exports p ≡ Some (Object v j) → found u t (Far v p) ≡ Is (numbered c.from c.tables.exports p)
unfolding found far_found exported_at object_of numbered
object_found_at ls u v p j t c other same logged e =
    ap (λ (g : ℕ → ℕ → Option ℕ). far_found v p (g v p)) same ∙ ap (far_found v p) (by (u == v) refl) ∙ ap (λ o. Is (unwrap_or o (Root c.from))) (sym e)
  where
    by : (b : Bool) → (u == v) ≡ b → ◌≡◌ {A = Option ℕ} (elim b [ true ↦ None | false ↦ object_of (slice_get (logs.exports (λ i. i) ls v u) p) ]) (Some j)
    by true i = absurd (other (sym (eqb-true u v i)))
    by false i = ap (λ xs. object_of (slice_get xs p)) (sym logged) ∙ ap object_of e

-- ---- the next frame

module _ (script : Script) (once : KnowsOnce script) (w x : World) (es : List Entry) (k : ℕ) (follow : NoticesFollowCuts es) (opened : world.open_from script zero script.vats (world.begins script) ≡ Goes w) (stepped : world.steps_from script es k w ≡ Goes x)
    (v u : ℕ) (r s : Vat Name) (there : slice_get x.vats v ≡ Some r) (gone : slice_get x.vats u ≡ Some s) (other : v ≡ u → ⊥) (l : Link) (at : link_at v u x.links ≡ Some l) (uncut : l.cut ≡ false)
    (X : Vats) (m : Member) (mirrors : Mirrors x X) (member : slice_get X.members u ≡ Some m) (n : Note Name) (ns : List (Note Name)) (head : l.notes ≡ n ∷ ns) (o : Operation) where
  abbrev C : Connected
  C = connected_at v u x.connections

  abbrev D : Connected
  D = connected_at u v x.connections

  abbrev Ks : List Name
  Ks = names_in s.known

  abbrev Before : Table
  Before = table_of x u s

  abbrev T : Table
  T = table_heard x u s n

  was : VatMirrors x X u s m
  was = mirrors.vats u s m gone member

  good : IsTable u (table_of x u s)
  good = (have_tables script once).1 w x es k follow opened stepped u s gone

  behind : (names_heard (names_in s.known) n ≡ names_in s.known ++ first_told (read_note (names_in s.known) n)) × AllOf IsNoObject (first_told (read_note (names_in s.known) n))
  behind = note_behind (names_in s.known) n (target_old u v (names_in s.known) n
      (λ y a e. yours_known script once w x es k follow opened stepped v u r s there gone other l at uncut n ns head y a e)
      (between script once w x es k follow opened stepped v u s gone other l at uncut n ns head))

  no_objects : AllOf IsNoObject (names_heard (names_in s.known) n)
  unfolding table_of
  no_objects = let b = behind in let g = good in
      subst (AllOf IsNoObject) (sym b.0) (all_append IsNoObject (names_in s.known) (first_told (read_note (names_in s.known) n)) (all_got (names_in s.known) (λ i y e. no_object u y (g.promises i y e))) b.1)

  more : Extends (table_of x u s) (table_heard x u s n)
  unfolding table_of table_heard
  more = let b = behind in record {
    names = λ i y e. ap (λ ys. slice_get ys i) b.0 ∙ get_front (names_in s.known) (first_told (read_note (names_in s.known) n)) i y e;
    mails = λ i y e. e;
    exports = λ h p j e. e;
  }

  apart : (a : Local) → object_found (found u (table_heard x u s n) a) ≡ here.is_object a
  unfolding table_of table_heard
  apart = let g = good in told_apart u (table_heard x u s n) no_objects g.messages

  known_same : length m.vat.known ≡ length s.known
  unfolding ready readied
  known_same = let h = was in mapped_length (maps.known (found u (table_of x u s))) (maps.known Is) m.vat.known s.known (ap (λ (z : Vat Found). z.known) h.stands)

  number_is : m.vat.number ≡ u
  unfolding ready readied
  number_is = let h = was in ap (λ (z : Vat Found). z.number) h.stands ∙ h.placed

  abbrev Gifts : List (Learnt Name)
  Gifts = map named_gift m.learnt

  knows : KnowsGifts s (map named_gift m.learnt)
  unfolding table_of
  knows = let h = was in gifts_known u (table_of x u s) good m.learnt h.learnt

  in_names : IsHeard x v u s n (map named_gift m.learnt)
  in_names = heard_by_gifts script once w x es k follow opened stepped v u r s there gone other l at uncut n ns head (map named_gift m.learnt) knows

  tables_same : changed_tables (found u (table_heard x u s n)) (connection_for v m) ≡ changed_tables Is (connected_at u v x.connections).tables
  tables_same = let h = was in tables_still u (table_of x u s) (table_heard x u s n) more (connection_for v m) (connected_at u v x.connections).tables (h.connections v (subst (λ (i : ℕ). v < i) (sym mirrors.count) (slice_get_within x.vats v r there)))

  stage_same : changed_stage (found u (table_heard x u s n)) (stage_of v m) ≡ changed_stage Is (stage_before x v u s (map named_gift m.learnt))
  unfolding stage_of stage_before
  stage_same = let h = was in
      joined (ap (λ (c : Connection Found). c.imports) tables_same) (gifts_same u (table_heard x u s n) m.learnt (learnt_still u (table_of x u s) (table_heard x u s n) more m.learnt h.learnt)) known_same
    where
      joined : {a b : List Found} {c d : List (Learnt Found)} {i j : ℕ} → a ≡ b → c ≡ d → i ≡ j → ◌≡◌ {A = Stage Found} (record { imports = a; learnt = c; known = i }) (record { imports = b; learnt = d; known = j })
      joined e f g = cc

  module _ (due : frame_due (connected_at v u x.connections) (connected_at u v x.connections) ≡ Some o) where
    fits : FrameFits (λ p. found u (table_heard x u s n) (Far v p) ≡ Is (numbered C.from C.tables.exports p)) o
    unfolding table_heard
    fits =
        let a = as_written script once w x es k follow opened stepped v u r s there gone other l at uncut n ns head in
        let logged = lists_logged script once w x es k follow opened stepped v u r s there gone other l at uncut in
        let first : Some o ≡ Some _ = sym due ∙ a.1 in
        subst (FrameFits (λ p. found u (table_heard x u s n) (Far v p) ≡ Is (numbered C.from C.tables.exports p))) (some_same _ o (sym first))
        (written_fits v u C.tables.exports (λ p. found u (table_heard x u s n) (Far v p) ≡ Is (numbered C.from C.tables.exports p)) (λ p j e. object_found_at x.links u v p j (table_heard x u s n) C other refl logged.exports e) n a.0 a.2)
      where
        some_same : {A : Type 0} (a b : A) → Some a ≡ Some b → a ≡ b
        some_same a b e = cc

    reads : note_heard is_object u v (wire.newcomers C (message_of n)) D.tables o (stage_before x v u s (map named_gift m.learnt)) ≡ Some in_names.0
    unfolding wire.read_frame
    reads = let ends = connected_ends u v x.connections in let h = in_names in
        ap (λ (a : ℕ). note_heard is_object a v (wire.newcomers C (message_of n)) D.tables o (stage_before x v u s (map named_gift m.learnt))) (sym ends.0)
        ∙ ap (λ (b : ℕ). note_heard is_object D.from b (wire.newcomers C (message_of n)) D.tables o (stage_before x v u s (map named_gift m.learnt))) (sym ends.1)
        ∙ ap (λ z. wire.read_frame D C (message_of n) (stage_before x v u s (map named_gift m.learnt)) z) (sym due) ∙ h.1

    numbers : NumberedFrom (λ i. found u (table_heard x u s n) (Prom i)) (length s.known) (map Is (first_told (in_names.0).read))
    unfolding table_heard names_of
    numbers = let h = in_names in let b = behind in
        subst (λ ys. NumberedFrom (λ i. found u (table_heard x u s n) (Prom i)) (length s.known) (map Is ys)) (sym (ap first_told h.2 ∙ heard_first v u (read_note (names_in s.known) n)))
        (subst (λ (i : ℕ). NumberedFrom (λ i. found u (table_heard x u s n) (Prom i)) i (map Is (first_told (read_note (names_in s.known) n)))) (length-map s.known (λ (y : Known Name). y.name))
        (numbered_behind u (table_heard x u s n) (names_in s.known) (first_told (read_note (names_in s.known) n)) b.0))

    pub heard_by_numbers : (h : Heard Local (Note (Incoming Local Local))) × (heard_in v o m ≡ Some h) × HearsSo x v u s n h
    unfolding heard_in stage_before
    heard_by_numbers =
        let i = in_names in
        let h = heard_so u v (table_heard x u s n) apart (connection_for v m) D.tables C (message_of n) o (stage_of v m) (stage_before x v u s (map named_gift m.learnt)) i.0 tables_same stage_same fits reads numbers in (
          h.0,
          ap (λ (a : ℕ). note_heard here.is_object a v (here.newcomers v) (connection_for v m) o (stage_of v m)) number_is ∙ h.1,
          record {
            read = h.2 ∙ ap (maps.note (incoming Is unnamed)) i.2;
            imports = ap (λ (z : Stage Found). z.imports) h.3 ∙ ap (map Is) i.3;
            known = ap (λ (z : Stage Found). z.known) h.3 ∙ i.4;
            learnt = gifts_learnt u (table_heard x u s n) (h.0).after.learnt (subst (AllOf IsThatGift) (sym (ap (λ (z : Stage Found). z.learnt) h.3)) (h.4 (gifts_given m.learnt)));
          },
        )

pub frames_heard : FramesAreHeardByNumbers
frames_heard script once w x es k follow opened stepped v u r s there gone other l at uncut X m mirrors member n ns head o due =
    heard_by_numbers script once w x es k follow opened stepped v u r s there gone other l at uncut X m mirrors member n ns head o due
