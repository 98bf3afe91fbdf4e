-- The lists of connections are as logged, and the next frame is heard.
use Rattle.std.proofs.Common.{Option, ◌≡◌, ℕ, zero, suc, ◌≤◌, false, List, [], ◌∷◌, ◌++◌, Some, None, refl, sym, ap, subst, ◌∙◌, ◌⊎◌, inl, inr, length, arith, Bool, true, ◌==◌}
use Rattle.std.specs.Prelude.{slice_get}
use Rattle.def_machine.specs.Values.{Name, Gift, host_of}
use Rattle.def_machine.specs.State.{Known, Note, Deliver, Vat}
use Rattle.def_machine.specs.Arrive.{Incoming}
use Rattle.def_run.specs.Connections.{Connection, Learnt, Stage, Heard, learnt_at}
use Rattle.def_run.specs.Wire as conn
use Rattle.def_run.specs.Wire.{Connected, connected_at}
use Rattle.def_run.specs.World as world
use Rattle.def_run.specs.World.{Script, Entry, Link, World, Goes as Going, link_at, names_of}
use Rattle.law_fate.specs.Name.Names.{AllOf, IsAmong, IsKnownIn, names_in}
use Rattle.law_fate.specs.Name.Runs.{KnowsOnce}
use Rattle.law_fate.proofs.Name.Among.{all_among}
use Rattle.law_fate.proofs.Name.SameNames.{has_among, among_has}
use Rattle.law_reference.specs.Reference.Logs as wire
use Rattle.law_reference.specs.Reference.Cuts.{NoticesFollowCuts}
use Rattle.law_reference.specs.Reference.News.{Passes}
use Rattle.law_reference.specs.Reference.GiftPassing.{gifts_in_note}
use Rattle.law_reference.proofs.Reference.HideMoves.{taken_sum, under_drawn}
use Rattle.law_reference.proofs.Reference.ApartWhole.{stand_apart}
use Rattle.std.proofs.lemmas.Bool.{eqb-true}
use Rattle.law_frame.specs.Frame.Asked.{told_in}
use Rattle.law_frame.specs.Frame.Growing.{IsFront, TablesGrow}
use Rattle.law_frame.specs.Frame.Tables.{arrived}
use Rattle.law_frame.specs.Frame.Alike.{message_of}
use Rattle.law_frame.specs.Frame.Positions.{exported_with}
use Rattle.law_frame.specs.Frame.Reads.{seen_note}
use Rattle.law_frame.proofs.Frame.WireArrivals.{arrived_is}
use Rattle.law_frame.proofs.Frame.Grow.{questions_twice, among_left}
use Rattle.law_frame.proofs.Frame.Ranks.{exports_start, exports_twice}
use Rattle.law_frame.proofs.Frame.Places.{connected_ends}
use Rattle.law_frame.proofs.Frame.SourceLaws.{log_is, names_from_hosts}
use Rattle.law_frame.proofs.Frame.LinksStay.{roots_is}
use Rattle.law_frame.proofs.Frame.WireLaws.{asked_for_known, was_asked_known, exported_known, arrived_known}
use Rattle.law_frame.proofs.Frame.WireRuns.{stepped_both}
use Rattle.law_frame.proofs.Frame.Worlds as next
use Rattle.law_frame.specs.Heard.Hearing.{IsAsLogged, IsNumbered, NotesAreNumbered, ListsAreAsLogged, stage_before, IsHeard, NextFramesAreHeard, KnowsGifts, FramesAreHeardByGifts}
use Rattle.def_op.specs.Frames.{Operation}
use Rattle.def_run.specs.Connections.{asked_in, exported_note, frame_now}
use Rattle.def_run.specs.Wire.{sight, frame_due}
use Rattle.law_frame.proofs.Heard.Pairs.{stepped_paired}
use Rattle.law_frame.proofs.Heard.Kept.{AreKept, Kept, Noted, exported_same, kept_exports, kept_questions}
use Rattle.law_frame.proofs.Heard.Read as read
use Rattle.law_frame.proofs.Heard.Read.{Fits, with_message, read_next}
use Rattle.law_frame.proofs.Heard.Steps.{Asked}
use Rattle.law_frame.proofs.Heard.Runs.{stepped_worldly, stepped_fits, stepped_kept}
use Rattle.law_frame.proofs.Heard.Heard.{At, in_known as among_known, note_alike}

message_same : (v u : ℕ) (n : Note Name) → with_message v u (message_of n) n ≡ n
unfolding with_message message_of
message_same v u (Deliver d n verb ys) = refl
message_same v u other = refl

length_names : (ks : List (Known Name)) → length ks ≡ length (names_in ks)
length_names [] = refl
length_names (k ∷ ks) = ap suc (length_names ks)

module _ (script : Script) (once : KnowsOnce script) (w x : World) (es : List Entry) (k : ℕ) (follow : NoticesFollowCuts es) (opened : world.open_from script zero script.vats (world.begins script) ≡ Going w) (stepped : world.steps_from script es k w ≡ Going x) where
  -- with each link there is one back, which is not cut where that is not
  back_of : (v u : ℕ) (l : Link) → link_at v u x.links ≡ Some l → l.cut ≡ false → (m : Link) × (link_at u v x.links ≡ Some m) × (m.cut ≡ false)
  back_of v u l at uncut = let wires = (stepped_both script once w x es k opened stepped).1 in let m = wires.paired v u (l, at) in let cut = (stepped_paired script once w x es k opened stepped).0 v u in
      (m.0, m.1, cut.2 m.0 m.1 ∙ sym (cut.1 l at) ∙ uncut)

  module _ (v u : ℕ) (r s : Vat Name) (there : slice_get x.vats v ≡ Some r) (gone : slice_get x.vats u ≡ Some s) (other : v ≡ u → ⊥) (l : Link) (at : link_at v u x.links ≡ Some l) (uncut : l.cut ≡ false) where
    abbrev Out : Connected
    Out = connected_at v u x.connections

    abbrev In : Connected
    In = connected_at u v x.connections

    kept : Kept v u (Asked x v u) (Asked x u v) Out In l.log l.notes l.roots
    kept = let m = back_of v u l at uncut in stepped_kept script once w x es k follow opened stepped v u other r s there gone l m.0 at m.1 uncut m.2

    gone_is : arrived (link_at v u x.links) ≡ kept.2
    gone_is = ap arrived at ∙ arrived_is l kept.2 kept.5

    -- what the one has of what the other tells is the front of what that one has told
    pub imports_front : IsFront In.tables.imports Out.tables.exports
    imports_front = let h = kept in let exported = kept_exports v u (Asked x v u) (Asked x u v) Out In.tables.imports In.tables.answers l.notes h.1 h.8 in let more = exports_start v (Asked x u v) l.notes In.tables.imports in (more.0, exported ∙ more.1)

    pub answers_front : IsFront In.tables.answers Out.tables.questions
    answers_front = let h = kept in (wire.questions_in u l.notes, kept_questions v u (Asked x v u) (Asked x u v) Out In.tables.imports In.tables.answers l.notes h.1 h.8)

    pub as_logged : IsAsLogged x v u
    unfolding wire.exports wire.questions
    as_logged = let h = kept in let A = Asked x u v in record {
      exports = kept_exports v u (Asked x v u) A Out In.tables.imports In.tables.answers l.notes h.1 h.8 ∙ ap (λ (is : List Name). wire.exports_after v A l.notes is) h.7 ∙ sym (exports_twice v A h.2 l.notes l.roots)
          ∙ ap (λ (ms : List (Note Name)). wire.exports_after v A ms l.roots) (sym (log_is l (link_at v u x.links) at ∙ h.5)) ∙ ap (λ (rs : List Name). wire.exports_after v A (wire.log_of (link_at v u x.links)) rs) (sym (roots_is l (link_at v u x.links) at));
      questions = kept_questions v u (Asked x v u) A Out In.tables.imports In.tables.answers l.notes h.1 h.8 ∙ ap (λ (qs : List Name). qs ++ wire.questions_in u l.notes) h.6 ∙ sym (questions_twice u h.2 l.notes) ∙ ap (wire.questions_in u) (sym (log_is l (link_at v u x.links) at ∙ h.5));
      imports = h.7 ∙ ap (λ (ms : List (Note Name)). wire.exports_after v A ms l.roots) (sym gone_is) ∙ ap (λ (rs : List Name). wire.exports_after v A (arrived (link_at v u x.links)) rs) (sym (roots_is l (link_at v u x.links) at));
      answers = h.6 ∙ ap (wire.questions_in u) (sym gone_is);
    }

  -- ---- the next frame

  module _ (v u : ℕ) (r s : Vat Name) (there : slice_get x.vats v ≡ Some r) (gone : slice_get x.vats u ≡ Some s) (other : v ≡ u → ⊥) (l : Link) (at : link_at v u x.links ≡ Some l) (uncut : l.cut ≡ false) where
    abbrev C : Connected
    C = connected_at v u x.connections

    abbrev D : Connected
    D = connected_at u v x.connections

    held : Kept v u (Asked x v u) (Asked x u v) C D l.log l.notes l.roots
    held = kept v u r s there gone other l at uncut

    module _ (n : Note Name) (ns : List (Note Name)) (head : l.notes ≡ n ∷ ns) where
      abbrev A : List Name
      A = Asked x u v

      first : Kept v u (Asked x v u) A C D l.log (n ∷ ns) l.roots
      first = subst (λ (ms : List (Note Name)). Kept v u (Asked x v u) A C D l.log ms l.roots) head held

      back : (m : Link) × (link_at u v x.links ≡ Some m) × (m.cut ≡ false)
      back = back_of v u l at uncut

      mine : Kept u v A (Asked x v u) D C back.0.log back.0.notes back.0.roots
      mine = stepped_kept script once w x es k follow opened stepped u v (λ e. other (sym e)) s r gone there back.0 l back.1 at back.2 uncut

      given : IsFront C.tables.imports D.tables.exports
      given = let h = mine in let exported = kept_exports u v A (Asked x v u) D C.tables.imports C.tables.answers back.0.notes h.1 h.8 in let more = exports_start u (Asked x v u) back.0.notes C.tables.imports in (more.0, exported ∙ more.1)

      heard : IsFront C.tables.answers D.tables.questions
      heard = let h = mine in (wire.questions_in v back.0.notes, kept_questions u v A (Asked x v u) D C.tables.imports C.tables.answers back.0.notes h.1 h.8)

      fits : Fits v u (Asked x v u) D.tables.answers n
      fits = let h = held in subst (λ (qs : List Name). Fits v u (Asked x v u) qs n) (ap (wire.questions_in u) (arrived_is l h.2 h.5) ∙ sym h.6) (stepped_fits script once w x es k follow opened stepped v u other s gone l at uncut n ns head)

      from : C.from ≡ v
      from = let e = connected_ends v u x.connections in e.0

      d_from : D.from ≡ u
      d_from = let e = connected_ends u v x.connections in e.0

      d_to : D.to ≡ v
      d_to = let e = connected_ends u v x.connections in e.1

      -- what the sender had as it put the note
      had : (t : Connection Name) × read.Next v u (Asked x v u) A C D (message_of n) n ns l.log l.roots first from d_from d_to given heard fits t
      had = read.next v u (Asked x v u) A C D (message_of n) n ns l.log l.roots first from d_from d_to given heard fits

      -- the next frame is what the sender wrote by tables whose exports, with those of the note, stand at the front of what it has now
      pub as_written : (t : Connection Name) × (frame_due C D ≡ Some (frame_now (sight v u) n t)) × IsFront (exported_note (sight v u) t.answers n t.exports) C.tables.exports
      as_written = let t = had.1 in let noted = t.noted in (
        had.0,
        t.due,
        subst (λ (is : List Name). IsFront is C.tables.exports) (sym (exported_same v u (had.0).answers A n (had.0).exports noted.heard ∙ ap (λ (is : List Name). wire.with_note v A n is) t.exports)) t.later,
      )

      same_note : with_message v u (message_of n) n ≡ n
      same_note = message_same v u n

      in_front : {B : Type 0} (xs ys : List B) (z : B) → IsFront xs ys → IsAmong z xs → IsAmong z ys
      in_front xs ys z f a = subst (λ zs. IsAmong z zs) (sym f.1) (among_left z xs f.0 a)

      answers_asked : (z : Name) → IsAmong z (had.0).answers → IsAmong z (Asked x u v)
      unfolding wire.questions
      answers_asked z a = let t = had.1 in let grows = t.grows in let h = mine in let heard_before = subst (λ qs. IsAmong z qs) h.6 (in_front (had.0).answers C.tables.answers z grows.answers a) in
          subst (λ qs. IsAmong z qs) (sym (ap (wire.questions_in v) (log_is back.0 (link_at u v x.links) back.1 ∙ h.5) ∙ questions_twice v h.2 back.0.notes)) (among_left z (wire.questions_in v h.2) (wire.questions_in v back.0.notes) heard_before)

      known_of : (z : Name) → IsAmong z (names_in s.known) → IsKnownIn (names_in s.known) z
      known_of z a = among_known (names_in s.known) z a

      arrived_same : D.tables.imports ≡ wire.exports_after v A (arrived (Some l)) l.roots
      arrived_same = let h = held in h.7 ∙ ap (λ (ms : List (Note Name)). wire.exports_after v A ms l.roots) (sym (arrived_is l h.2 h.5))

      imported_known : (z : Name) → IsAmong z D.tables.imports → IsKnownIn (names_in s.known) z
      imported_known z a = all_among (IsKnownIn (names_in s.known)) (wire.exports_after v A (arrived (Some l)) l.roots) z ((arrived_known script once).1 w x es k opened stepped u s gone v l at uncut) (subst (λ ms. IsAmong z ms) arrived_same a)

      asked_known : (z : Name) → IsAmong z (Asked x u v) → IsKnownIn (names_in s.known) z
      asked_known z a = known_of z (all_among (λ y. IsAmong y (names_in s.known)) (Asked x u v) z ((asked_for_known script once).1 w x es k opened stepped u s gone v) a)

      -- a name of the receiver
      given_known : (z : Name) → IsAmong z (told_in n) → host_of z ≡ u → IsAmong z (Asked x v u) ⊎ IsAmong z (had.0).imports → IsKnownIn (names_in s.known) z
      given_known z a e (inl b) = let f = fits in let h = held in known_of z (all_among (λ y. IsAmong y (names_in s.known)) (wire.questions_in u (arrived (Some l))) z ((was_asked_known script once).1 w x es k opened stepped u s gone v l at uncut)
          (subst (λ qs. IsAmong z qs) (h.6 ∙ ap (wire.questions_in u) (sym (arrived_is l h.2 h.5))) (f.asked z a e b)))
      given_known z a e (inr b) = let t = had.1 in let grows = t.grows in let logged = as_logged u v s r gone there (λ i. other (sym i)) back.0 back.1 back.2 in
          all_among (IsKnownIn (names_in s.known)) (wire.exports (λ i. i) x.links u v) z ((exported_known script once).1 w x es k opened stepped u s gone v)
          (subst (λ ms. IsAmong z ms) logged.exports (in_front C.tables.imports D.tables.exports z given (in_front (had.0).imports C.tables.imports z grows.imports b)))

      pub yours_known : (z : Name) → IsAmong z (told_in n) → host_of z ≡ u → IsKnownIn (names_in s.known) z
      yours_known z a e = let t = had.1 in let noted = t.noted in given_known z a e (noted.gives z a e)

      comes_from : (z : Name) → IsAmong z (told_in n) → host_of z ≡ v → IsAmong z (names_in s.known) → IsAmong z (had.0).answers ⊎ IsAmong z D.tables.imports
      comes_from z a e b = either (names_from_hosts script once w x es k follow opened stepped u v s gone other l at uncut z b e)
        where
          either : IsAmong z (wire.questions (λ i. i) x.links u v) ⊎ IsAmong z (wire.exports_after v (wire.questions (λ i. i) x.links u v) (arrived (Some l)) l.roots) → IsAmong z (had.0).answers ⊎ IsAmong z D.tables.imports
          either (inl c) = let t = had.1 in let noted = t.noted in inl (has_among (had.0).answers z (noted.heard z a e ∙ among_has A z c))
          either (inr c) = inr (subst (λ ms. IsAmong z ms) (sym arrived_same) c)

      few : (i : ℕ) → gifts_in_note i n ≤ 1
      few i = let worldly = stepped_worldly script once w x es k follow opened stepped in let facts = worldly.facts in let knows = facts.knows in let past = knows.past in let counted = past.2 in let o = counted.1 in let most = o.count i in
          let sum = taken_sum i v u n ns l head x.links at in let one = under_drawn i x.drawn in omega arith

      -- what the receiver has by position once the note has arrived, of what the sender exported to it
      pub imports_now : conn.imports_after D.tables.imports (conn.read_frame D C (Name.Root C.from) (conn.first_stage D) (conn.frame_due C D)) ≡ exported_with x v u n
      unfolding exported_with conn.imports_after conn.first_stage
      imports_now = let logged = as_logged v u r s there gone other l at uncut in let reads = read_next v u (Asked x v u) A C D (Name.Root C.from) n ns l.log l.roots first from d_from d_to given heard fits (conn.first_stage D) refl in
          ap (λ o. conn.imports_after D.tables.imports o) reads.0 ∙ reads.1 ∙ ap (λ (is : List Name). wire.with_note v A n is) logged.imports

      -- the sender exported no less
      pub exports_later : IsFront (exported_with x v u n) C.tables.exports
      unfolding exported_with
      exports_later = let logged = as_logged v u r s there gone other l at uncut in let t = had.1 in subst (λ (is : List Name). IsFront (wire.with_note v A n is) C.tables.exports) logged.imports t.later

      -- and asked for no less than what has arrived and this note
      pub questions_later : IsFront (D.tables.answers ++ asked_in (sight v u) n) C.tables.questions
      questions_later = let t = had.1 in (wire.questions_in u ns, t.asks)

      module _ (gifts : List (Learnt Name)) (fresh : (h i : ℕ) → Passes (Gift h i) n → learnt_at h i gifts ≡ None) where
        at_start : At v u (had.0).answers (told_in n) (names_in s.known) (stage_before x v u s gifts)
        unfolding stage_before
        at_start = record { count = length_names s.known; imported = imported_known; heard = λ z a. asked_known z (answers_asked z a); yours = yours_known; comes = comes_from }

        imports_before : (let g : Stage Name = stage_before x v u s gifts in g.imports) ≡ D.tables.imports
        unfolding stage_before
        imports_before = refl

        learnt_before : (h i : ℕ) → Passes (Gift h i) n → learnt_at h i (let g : Stage Name = stage_before x v u s gifts in g.learnt) ≡ None
        unfolding stage_before
        learnt_before h i a = fresh h i a

        pub is_heard : IsHeard x v u s n gifts
        unfolding exported_with names_of had
        is_heard = let g = stage_before x v u s gifts in let seen : Heard Name (Note (Incoming Name Name)) = seen_note v u (had.0).answers n g in
            let reads = read_next v u (Asked x v u) A C D (message_of n) n ns l.log l.roots first from d_from d_to given heard fits g imports_before in
            let f = fits in let p = f.provided in
            let alike = note_alike v u (had.0).answers p.0 p.1 (names_in s.known) g n at_start f.ends (next.between script once w x es k follow opened stepped v u s gone other l at uncut n ns head) p.2 learnt_before few in
            let logged = as_logged v u r s there gone other l at uncut in (
              seen,
              reads.0 ∙ ap (λ (y : Note Name). Some (seen_note v u (had.0).answers y g)) same_note,
              alike.0,
              ap (λ (y : Note Name). let h : Heard Name (Note (Incoming Name Name)) = seen_note v u (had.0).answers y g in h.after.imports) (sym same_note) ∙ reads.1 ∙ ap (λ (is : List Name). wire.with_note v A n is) logged.imports,
              alike.1,
            )

-- ---- notes under way

module _ (x : World) (v u : ℕ) (questions : (connected_at v u x.connections).tables.questions ≡ Asked x v u) where
  abbrev Sender : Connected
  Sender = connected_at v u x.connections

  in_later : (xs ys : List Name) (z : Name) → IsFront xs ys → IsAmong z xs → IsAmong z ys
  in_later xs ys z f a = subst (λ zs. IsAmong z zs) (sym f.1) (among_left z xs f.0 a)

  one_numbered : (n : Note Name) (t : Connection Name) → TablesGrow t (connected_at v u x.connections).tables → Noted v u (Asked x v u) (Asked x u v) n t → IsNumbered x v u n
  one_numbered n t g k = record {
    peers = λ z a e. either z (k.gives z a e);
    own = λ z a e b. in_later t.answers (connected_at v u x.connections).tables.answers z g.answers (has_among t.answers z (k.heard z a e ∙ among_has (Asked x u v) z b));
  }
    where
      either : (z : Name) → IsAmong z (Asked x v u) ⊎ IsAmong z t.imports → IsAmong z (connected_at v u x.connections).tables.questions ⊎ IsAmong z (connected_at v u x.connections).tables.imports
      either z (inl a) = inl (subst (λ zs. IsAmong z zs) (sym questions) a)
      either z (inr a) = inr (in_later t.imports (connected_at v u x.connections).tables.imports z g.imports a)

  all_numbered : (is qs : List Name) (ns : List (Note Name)) (os : List Operation) → AreKept v u (Asked x v u) (Asked x u v) (connected_at v u x.connections) is qs ns os → AllOf (IsNumbered x v u) ns
  all_numbered is qs [] [] h = tt
  all_numbered is qs (n ∷ ns) (o ∷ os) h = (one_numbered n h.0 h.3 h.5, all_numbered (wire.with_note v (Asked x u v) n is) (qs ++ asked_in (sight v u) n) ns os h.6)
  all_numbered is qs [] (o ∷ os) h = absurd h
  all_numbered is qs (n ∷ ns) [] h = absurd h

pub notes_numbered : NotesAreNumbered
notes_numbered script once w x es k follow opened stepped v u r s there gone other l at uncut = let logged = as_logged script once w x es k follow opened stepped v u r s there gone other l at uncut in let h = kept script once w x es k follow opened stepped v u r s there gone other l at uncut in
    all_numbered x v u logged.questions (connected_at u v x.connections).tables.imports (connected_at u v x.connections).tables.answers l.notes h.1 h.8

pub lists_logged : ListsAreAsLogged
lists_logged script once w x es k follow opened stepped v u r s there gone other l at uncut = as_logged script once w x es k follow opened stepped v u r s there gone other l at uncut

pub next_heard : NextFramesAreHeard
next_heard script once w x es k follow opened stepped v u r s there gone other l at uncut n ns head gifts fresh = is_heard script once w x es k follow opened stepped v u r s there gone other l at uncut n ns head gifts fresh

-- ---- gifts that the receiver knows

module _ (h i : ℕ) (s : Vat Name) (unknown : IsAmong (Gift h i) (names_in s.known) → ⊥) where
  learnt_or : (a b : Bool) (n : Name) (o : Option Name) → (a ≡ true → b ≡ true → ⊥) → o ≡ None → ◌≡◌ {A = Option Name} (elim a [ true ↦ elim b [ true ↦ Some n | false ↦ o ] | false ↦ o ]) None
  learnt_or true true n o f e = absurd (f refl refl)
  learnt_or true false n o f e = e
  learnt_or false b n o f e = e

  none_learnt : (gifts : List (Learnt Name)) → KnowsGifts s gifts → learnt_at h i gifts ≡ None
  unfolding learnt_at
  none_learnt [] k = refl
  none_learnt (g ∷ gifts) k = learnt_or (g.host == h) (g.number == i) g.name (learnt_at h i gifts)
      (λ a b. unknown (subst (λ (x : ℕ). IsAmong (Gift x i) (names_in s.known)) (eqb-true g.host h a) (subst (λ (y : ℕ). IsAmong (Gift g.host y) (names_in s.known)) (eqb-true g.number i b) k.0))) (none_learnt gifts k.1)

pub heard_by_gifts : FramesAreHeardByGifts
heard_by_gifts script once w x es k follow opened stepped v u r s there gone other l at uncut n ns head gifts knows =
    next_heard script once w x es k follow opened stepped v u r s there gone other l at uncut n ns head gifts (λ h i a. none_learnt h i s ((let apart = stand_apart script once w x es k follow opened stepped v u l n ns s at head gone in apart.unknown) h i a) gifts knows)
