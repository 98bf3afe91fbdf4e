-- The deeds of a hostile vat's record, and what it says, keep what is kept of names in a step of one vat.
use mathlib.Core.Bool.{false}
use Rattle.std.proofs.Common.{◌≡◌, ℕ, zero, true, List, [], ◌∷◌, ◌++◌, Some, subst, length, arith, Bool}
use Rattle.std.specs.Prelude.{slice_get}
use Rattle.def_machine.specs.Values.{Name, Answer, Sent, host_of, Naming, naming, answer_of, mail_of}
use Rattle.def_machine.specs.State.{Made, Note, Deliver, Vat, Done, Gives, Act, ◌>>=◌, ◌>>◌, and_then, give, mail, new_thing, new_promise, new_message, new_lone_message, send_out}
use Rattle.def_machine.specs.Arrive as arrive
use Rattle.def_machine.specs.Arrive.{New}
use Rattle.def_run.specs.Draws.{draw_word}
use Rattle.def_run.specs.World.{Script, World, put_at, names, names_of, read_note}
use Rattle.law_fate.specs.Name.Names.{Bit, Named, Mail, At, Off, bare, promises_of, IsMade, IsHad, NoteOk, GoesOk, names_in}
use Rattle.law_fate.proofs.Name.Facts.{note_up, Fact, Also, Nothing, IsVat, IsName, IsMail, NoteDoes, NoteGoes, new_names, nothing}
use Rattle.law_fate.proofs.Name.Care.{Care, Sound, Ends, Fine, fine_then, fine_give, fine_thing, fine_promise, fine_new_message, fine_lone_message, fine_out}
use Rattle.law_fate.proofs.Name.Among.{promises_at, get_put}
use Rattle.law_fate.proofs.Name.Run.{IsInside, Inside, inside, inside_answer, name_had}
use Rattle.law_fate.proofs.Name.Tracked.{IsFar, Ok, follows_trans, tracked, tracked_under, tracked_makes}
use Rattle.law_fate.proofs.Name.Learn.{Grew, Knows, Learned, Ended, grew, learn_name, message_learned, reads_bind, reads_fine, reads_note}
use Rattle.law_machine.specs.Run.Moves.{Deed, NewObject, NewPromise, NewMessage, NewLone, Learns, Performs, perform, hear, hear_message}
use Rattle.law_hostile.specs.Hostile.{May, Lawful, IsBelow, IsOther}

module _ (script : Script) (w : World) (v : ℕ) (s : Vat Name) (there : slice_get w.vats v ≡ Some s) (here : Inside script (At v)) where
  abbrev Word : ℕ → ℕ
  Word = draw_word script.key

  abbrev Names : Naming Name Name
  Names = naming Word v

  abbrev T : Care Name
  T = tracked true (inside script) w.vats v s there here

  abbrev pub OkAt : Vat Name → Bit Name → Type 0
  OkAt = Ok true (inside script) w.vats v s there here

  -- it grew, and is sound
  abbrev pub GrewTo : Vat Name → Vat Name → Type 0
  GrewTo a b = Grew true (inside script) w.vats v s there here Word w.vats w.drawn a b × Sound T b

  pub stays : (a : Vat Name) → Sound T a → GrewTo a a
  stays a h = (grew true (inside script) w.vats v s there here Word w.vats w.drawn a a (T.same a), h)

  goes_on : (a b c : Vat Name) → GrewTo a b → GrewTo b c → GrewTo a c
  goes_on a b c h k = (follows_trans true (λ n. ⊥) (names_in a.known) a.mails a.promises a.messages a.drawn (names_in b.known) b.mails b.promises b.messages b.drawn (names_in c.known) c.mails c.promises c.messages c.drawn h.0 k.0, k.1)

  ends_at : (a : Vat Name) (d : Done Name (Unit {0})) (b : Vat Name) → Ends T nothing a d → d ≡ Gives tt b → GrewTo a b
  ends_at a d b h e = let k : Ends T nothing a (Gives (tt {0}) b) = rw e at h in (grew true (inside script) w.vats v s there here Word w.vats w.drawn a b k.0, k.1)

  fine_then_nothing : {A : Type 0} (C : Fact Name) (m : Act Name A) (P : A → Fact Name) → Fine T C m P → Fine T C (m >> give (tt {0})) nothing
  fine_then_nothing C m P f = fine_then T P f (fine_give T (tt {0}) (record { at = λ r c. tt }))

  -- ---- a name that is learnt

  knows : (a : Vat Name) → Sound T a → Knows true (inside script) w.vats v s there here Word (put_at v a w.vats) a.drawn (names_in a.known) a
  knows a h = record {
    all = λ n i. name_had (OkAt a) a.known n h.parts.known i;
    told = λ n t i. i;
    own = λ i l. h.more.own i (let e : promises_of (put_at v a w.vats) v ≡ a.promises = promises_at (put_at v a w.vats) v a (get_put w.vats v s a there) in omega arith);
    made = λ b i. i;
  }

  learned_at : (a : Vat Name) (d : Done Name Name) (b : Vat Name) (ks : List Name) → Learned true (inside script) w.vats v s there here Word (put_at v a w.vats) a.drawn ks IsName a d → and_then {B = Unit {0}} d (λ _. give (tt {0})) ≡ Gives (tt {0}) b → GrewTo a b
  unfolding and_then give
  learned_at a (Gives n t) b ks h e = let same : t ≡ b = cc in let k : GrewTo a t = (h.0, h.1) in rw same at k
  learned_at a other b ks h e = cc

  learn_goes : (n : Name) (a b : Vat Name) → Sound T a → IsMade (put_at v a w.vats) a.drawn (Named n) → Inside script (Named n) → perform script v (Learns n) a ≡ Gives tt b → GrewTo a b
  unfolding perform names names_of ◌>>◌
  learn_goes n a b h made in' e = learned_at a _ b _ ((learn_name true (inside script) w.vats v s there here Word (put_at v a w.vats) a.drawn {C = Nothing} (names_in a.known) n (made, in')).after a h (knows a h) tt) e

  -- ---- deeds

  pub deed_goes : (d : Deed) (a b : Vat Name) → Sound T a → May script w v a d → perform script v d a ≡ Gives tt b → GrewTo a b
  unfolding perform names names_of ◌>>◌
  deed_goes NewObject a b h m e = ends_at a _ b ((fine_then_nothing Nothing (new_thing (Made zero [] [])) nothing (fine_thing T (Made zero [] []) (record { at = λ r c. (tt, tt) }))).after a h tt) e
  deed_goes NewPromise a b h m e = ends_at a _ b ((fine_then_nothing Nothing (new_promise Names) IsName (fine_promise Names T (tracked_under true (inside script) w.vats v s there here Word) (tracked_makes (inside script) w.vats v s there here Word))).after a h tt) e
  deed_goes (NewMessage h) a b g m e = ends_at a _ b ((fine_then_nothing (IsVat h) (new_message Names h) new_names (fine_new_message Names T (tracked_under true (inside script) w.vats v s there here Word) (tracked_makes (inside script) w.vats v s there here Word) h (record { at = λ r c. c }))).after a g (tt, tt, tt, λ k. m)) e
  deed_goes NewLone a b h m e = ends_at a _ b ((fine_then_nothing Nothing (new_lone_message Names) IsMail (fine_lone_message Names T (tracked_under true (inside script) w.vats v s there here Word) (tracked_makes (inside script) w.vats v s there here Word))).after a h tt) e
  deed_goes (Learns n) a b h m e = learn_goes n a b h m.0 (λ k. m.1) e

  module _ (Hostile : ℕ → Type 0) (MayNotice : World → ℕ → ℕ → Type 0) where
    pub deeds_go : (ds : List Deed) (a t : Vat Name) → Sound T a → Performs script Hostile MayNotice (λ w v s d. May script w v s d) (λ w v u s n. Lawful script w v u s n) w v ds a t → GrewTo a t
    deeds_go [] a t h e = subst (λ x. GrewTo a x) e (stays a h)
    deeds_go (d ∷ ds) a t h p = let one : GrewTo a p.0 = deed_goes d a p.0 h p.1 p.2 in goes_on a p.0 t one (deeds_go ds p.0 t one.1 p.3)

  -- ---- what comes

  -- its answer, which the record may know
  answer_goes : (m : Name) (a b : Vat Name) → Sound T a → IsMade (put_at v a w.vats) a.drawn (Mail m) → perform script v (Learns (answer_of v m)) a ≡ Gives tt b → GrewTo a b
  unfolding answer_of
  answer_goes (Sent x) a b h made e = learn_goes (Answer v x) a b h made (inside_answer script v x here) e
  answer_goes other a b h made e = absurd made

  message_goes : (m : Name) (a b : Vat Name) → IsMade w.vats w.drawn (Mail m) → Inside script (Mail m) → Sound T a → Knows true (inside script) w.vats v s there here Word w.vats w.drawn (names_in a.known) a → hear_message script v m true a ≡ Gives (tt {0}) b → GrewTo a b
  unfolding hear_message ◌>>=◌ and_then arrive.learn_message mail names naming mail_of
  message_goes m a b made in' h k e = let t : Vat Name = record a { mails = a.mails ++ m ∷ [] } in
      let one : Learned true (inside script) w.vats v s there here Word w.vats w.drawn (names_in a.known) IsMail a (Gives m t) = (message_learned true (inside script) w.vats v s there here Word w.vats w.drawn {C = Nothing} (names_in a.known) m (host_of m) (made, in')).after a h k tt in
      goes_on a t b (one.0, one.1) (answer_goes m t b one.1 one.3.0 e)

  lone_goes : (m : Name) (a b : Vat Name) → IsMade w.vats w.drawn (Mail m) → Inside script (Mail m) → Sound T a → Knows true (inside script) w.vats v s there here Word w.vats w.drawn (names_in a.known) a
      → (arrive.learn_message Names (New m (host_of m)) >> give (tt {0})) a ≡ Gives (tt {0}) b → GrewTo a b
  unfolding ◌>>◌ ◌>>=◌
  lone_goes m a b made in' h k e = ended a _ b ((reads_bind true (inside script) w.vats v s there here Word w.vats w.drawn {C = Nothing} IsMail (message_learned true (inside script) w.vats v s there here Word w.vats w.drawn {C = Nothing} (names_in a.known) m (host_of m) (made, in'))
      (λ id. reads_fine true (inside script) w.vats v s there here Word w.vats w.drawn (fine_give T (tt {0}) {H = nothing} (record { at = λ r c. tt })))).after a h k tt) e
    where
      ended : (a : Vat Name) (d : Done Name (Unit {0})) (b : Vat Name) → Ended true (inside script) w.vats v s there here Word w.vats w.drawn a d → d ≡ Gives (tt {0}) b → GrewTo a b
      ended a d b h e = let k : Ended true (inside script) w.vats v s there here Word w.vats w.drawn a (Gives (tt {0}) b) = rw e at h in k

  hears_go : (m : Name) (asks : Bool) (a b : Vat Name) → IsMade w.vats w.drawn (Mail m) → Inside script (Mail m) → Sound T a → Knows true (inside script) w.vats v s there here Word w.vats w.drawn (names_in a.known) a → hear_message script v m asks a ≡ Gives tt b → GrewTo a b
  unfolding hear_message names
  hears_go m true a b i j h k e = message_goes m a b i j h k e
  hears_go m false a b i j h k e = lone_goes m a b i j h k e

  nothing_goes : (a b : Vat Name) → Sound T a → Gives (tt {0}) a ≡ Gives (tt {0}) b → GrewTo a b
  nothing_goes a b h e = let same : a ≡ b = cc in subst (λ x. GrewTo a x) same (stays a h)

  pub hear_goes : (n : Note Name) (a b : Vat Name) → NoteOk (λ b. IsMade w.vats w.drawn b × Inside script (bare b)) n → Sound T a → Knows true (inside script) w.vats v s there here Word w.vats w.drawn (names_in a.known) a → hear script v n a ≡ Gives tt b → GrewTo a b
  unfolding hear names give
  hear_goes (Deliver d x verb ys) a b o h k e = hears_go d.message d.asks a b o.0.0 o.0.1 h k e
  hear_goes other a b o h k e = nothing_goes a b h e

  -- what arrives at an honest vat
  pub arrive_goes : (from : ℕ) (n : Note Name) (a b : Vat Name) → NoteOk (λ b. IsMade w.vats w.drawn b × Inside script (bare b)) n → Sound T a → Knows true (inside script) w.vats v s there here Word w.vats w.drawn (names_in s.known) a → arrive.arrive (names script v) from (read_note (names_of s) n) a ≡ Gives tt b → GrewTo a b
  unfolding names names_of
  arrive_goes from n a b o h k e = ended a _ b ((reads_note true (inside script) w.vats v s there here Word w.vats w.drawn from (names_in s.known) n o).after a h k tt) e
    where
      ended : (a : Vat Name) (d : Done Name (Unit {0})) (b : Vat Name) → Ended true (inside script) w.vats v s there here Word w.vats w.drawn a d → d ≡ Gives (tt {0}) b → GrewTo a b
      ended a d b h e = let k : Ended true (inside script) w.vats v s there here Word w.vats w.drawn a (Gives (tt {0}) b) = rw e at h in k

  -- ---- what is said

  below_inside : (b : Bit Name) → IsBelow (length script.vats) b → IsInside (length script.vats) (bare b)
  below_inside (Named n) h = h
  below_inside other h = h

  other_far : (b : Bit Name) → IsOther v b → IsFar v b
  other_far (Named n) h = h
  other_far other h = h

  abbrev Lawfully : Vat Name → Bit Name → Type 0
  Lawfully t b = IsMade (put_at v t w.vats) t.drawn b × IsHad (names_in t.known) t.mails b × IsOther v b × IsBelow (length script.vats) b

  lawful_ok : (t : Vat Name) (b : Bit Name) → Lawfully t b → OkAt t b
  lawful_ok t b h = (h.0, h.1, other_far b h.2, λ k. below_inside b h.3)

  goes_up : (P Q : Bit Name → Type 0) → ((b : Bit Name) → P b → Q b) → (u : ℕ) (n : Note Name) → GoesOk P u n → GoesOk Q u n
  goes_up P Q f u (Deliver m n verb ys) h = f (Off u) h
  goes_up P Q f u other h = tt

  pub said_goes : (u : ℕ) (n : Note Name) (t r : Vat Name) → Sound T t → Lawful script w v u t n → send_out u n t ≡ Gives tt r → GrewTo t r
  said_goes u n t r h l e = ends_at t _ r ((fine_out Names T (tracked_under true (inside script) w.vats v s there here Word) {C = Also (NoteDoes n) (NoteGoes u n)} u n (record { at = λ r c. c.0 }) (record { at = λ r c. c.1 })).after t h
      (note_up (Lawfully t) (OkAt t) (lawful_ok t) n l.0, goes_up (Lawfully t) (OkAt t) (lawful_ok t) u n l.1)) e

  module _ (Hostile : ℕ → Type 0) (MayNotice : World → ℕ → ℕ → Type 0) where
    pub says_goes : (u : ℕ) (ds : List Deed) (n : Note Name) (a t r : Vat Name) → Sound T a → Performs script Hostile MayNotice (λ w v s d. May script w v s d) (λ w v u s n. Lawful script w v u s n) w v ds a t → Lawful script w v u t n → send_out u n t ≡ Gives tt r → GrewTo a r
    says_goes u ds n a t r h p l e = let one : GrewTo a t = deeds_go Hostile MayNotice ds a t h p in goes_on a t r one (said_goes u n t r one.1 l e)
