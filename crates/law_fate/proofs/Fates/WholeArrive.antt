-- A message that a note brings finds a place.
use mathlib.Core.Bool.{true}
use Rattle.std.proofs.Common.{if◌then◌else◌, ◌≡◌, ℕ, ◌+◌, Bool, false, List, [], ◌∷◌, ◌++◌, Option, Some, arith, None}
use Rattle.std.specs.Prelude.{slice_get}
use Rattle.def_machine.specs.Values.{Words, Value, Ref, Name, naming, mail_of, host_of, IsAnswer, IsCarried}
use Rattle.def_machine.specs.State.{ToTell, Passeds, Deliver, Vat, Done, Gives, Stops, Act, ◌>>=◌, ◌>>◌, and_then, look, mail, come, alter}
use Rattle.def_machine.specs.Refs.{settle, send_on}
use Rattle.def_machine.specs.Arrive as arrive
use Rattle.def_run.specs.World as world
use Rattle.def_run.specs.World.{read_note, read_name}
use Rattle.law_fate.specs.Name.Names.{Named, Mail, At, PassedsOk}
use Rattle.law_fate.proofs.Name.Facts.{Fact, Nothing, Also, IsName, IsMail, IsVat, AreValues, nothing, Holds}
use Rattle.law_fate.proofs.Name.Care.{Sound, Ends, got, got_left, got_itself, come_answer, fine_to_tell}
use Rattle.law_fate.proofs.Name.Tracked.{Marked}
use Rattle.law_fate.proofs.Name.Learn.{Was, Good, Grew, Knows, Learned, grew, rise, message_learned, learn_all, learn_name}
use Rattle.law_fate.specs.Fates.Fate.{one}
use Rattle.law_fate.specs.Fates.Lasting.{NamesMessage, AllWell}
use Rattle.law_fate.proofs.Fates.PlacesLast.{PaysAt, pay_more, pay_less, pays_mail, pays_answer, pays_to_tell}
use Rattle.law_fate.proofs.Fates.PlacesArrive.{pays_learn_all, pays_learn_name}
use Rattle.law_fate.proofs.Fates.PlacesSteps.{global_names}
use Rattle.law_fate.proofs.Fates.Finding.{send_on_finds}
use Rattle.law_fate.proofs.Fates.RunWell.{read_comes, all_come}
use Rattle.law_fate.proofs.Fates.Places.{T, F, quiet_under, good_known, good_views}

module _ (M : Marked) (vats : List (Vat Name)) (v : ℕ) (q : Vat Name) (there : slice_get vats v ≡ Some q) (here : M.mark (At v)) (word : ℕ → ℕ) (us : List (Vat Name)) (d0 : List ℕ) (cut : ℕ → Bool) (x : Name) where
  abbrev Quiet : Vat Name → Type 0
  Quiet s = Sound (F M vats v q there here word) s

  loud : (s : Vat Name) → Quiet s → Sound (T M vats v q there here word) s
  loud s h = record { parts = h.parts; more = h.more }

  learned_pays : {A B : Type 0} (ks : List Name) (G : A → Fact Name) (c : ℕ) (s : Vat Name) (d : Done Name A) (f : A → Act Name B) → Learned false M vats v q there here word us d0 ks G s d → PaysAt cut x 0 s d
      → ((a : A) (t : Vat Name) → Grew false M vats v q there here word us d0 s t → Quiet t → Knows false M vats v q there here word us d0 ks t → Holds (Good false M vats v q there here word us d0 t) (G a) → AllWell t → PaysAt cut x c t (f a t)) → PaysAt cut x c s (and_then d f)
  unfolding and_then
  learned_pays ks G c s (Gives a t) f h p k = pay_less cut x (0 + c) c s (f a t) (omega arith) (pay_more cut x 0 c s t (f a t) p.1 (k a t h.0 h.1 h.2 h.3 p.0))
  learned_pays ks G c s (Stops e t) f h p k = tt
  learned_pays ks G c s other f h p k = absurd p

  ends_pays : {A B : Type 0} (G : A → Fact Name) (c : ℕ) (s : Vat Name) (d : Done Name A) (f : A → Act Name B) → Ends (F M vats v q there here word) G s d → PaysAt cut x 0 s d
      → ((a : A) (t : Vat Name) → Grew false M vats v q there here word us d0 s t → Quiet t → Holds (Good false M vats v q there here word us d0 t) (G a) → AllWell t → PaysAt cut x c t (f a t)) → PaysAt cut x c s (and_then d f)
  unfolding and_then
  ends_pays G c s (Gives a t) f h p k = pay_less cut x (0 + c) c s (f a t) (omega arith) (pay_more cut x 0 c s t (f a t) p.1 (k a t (grew false M vats v q there here word us d0 s t h.0) h.1 h.2 p.0))
  ends_pays G c s (Stops e t) f h p k = tt
  ends_pays G c s other f h p k = absurd p

  up : (s t : Vat Name) → Grew false M vats v q there here word us d0 s t → (C : Fact Name) → Holds (Good false M vats v q there here word us d0 s) C → Holds (Good false M vats v q there here word us d0 t) C
  up s t r C h = rise false M vats v q there here word us d0 s t r C h

  -- once its answer is told of, the message is sent on
  told_finds : (s : Vat Name) (from : ℕ) (id n a : Name) (verb : Words) (args : List (Value Name)) → Quiet s → AllWell s → NamesMessage id → Holds (Good false M vats v q there here word us d0 s) (IsName n) → Holds (Good false M vats v q there here word us d0 s) (IsName a)
      → PaysAt cut x (one id x) s (and_then (alter (naming word v) (ToTell from) a s) (λ u. send_on (naming word v) (settle (naming word v)) (record { id = id; target = Ref n; verb = verb; args = args; answer = Some a })))
  told_finds s from id n a verb args h w named known told = let K = naming word v in
      ends_pays nothing (one id x) s (alter K (ToTell from) a s) (λ u. send_on K (settle K) (record { id = id; target = Ref n; verb = verb; args = args; answer = Some a })) ((fine_to_tell K (F M vats v q there here word) (quiet_under M vats v q there here word) {C = IsName a} from a (record { at = λ s c. c })).after s h told) ((pays_to_tell cut x K v (global_names word v) from a).after s w)
      (λ u t r g z y. send_on_finds K v (global_names word v) cut x t (record { id = id; target = Ref n; verb = verb; args = args; answer = Some a }) y (good_views M vats v q there here word t (loud t g)) named (good_known M vats v q there here word t (Ref n) (up s t r (IsName n) known)))

  -- the answer comes to be known
  answered_finds : (s : Vat Name) (from : ℕ) (id n : Name) (verb : Words) (args : List (Value Name)) → Quiet s → AllWell s → NamesMessage id → Holds (Good false M vats v q there here word us d0 s) (IsMail id) → Holds (Good false M vats v q there here word us d0 s) (IsName n)
      → PaysAt cut x (one id x) s (and_then (come (naming word v) (IsAnswer s.number id) s.number s) (λ a. alter (naming word v) (ToTell from) a >> send_on (naming word v) (settle (naming word v)) (record { id = id; target = Ref n; verb = verb; args = args; answer = Some a })))
  unfolding ◌>>◌
  answered_finds s from id n verb args h w named mail known = let K = naming word v in
      ends_pays IsName (one id x) s (come K (IsAnswer s.number id) s.number s) (λ a. alter K (ToTell from) a >> send_on K (settle K) (record { id = id; target = Ref n; verb = verb; args = args; answer = Some a })) ((come_answer K (F M vats v q there here word) (quiet_under M vats v q there here word) {C = Also (IsMail id) (IsVat s.number)} s.number id (got_left (F M vats v q there here word) (IsMail id) (IsVat s.number) (IsMail id) (got_itself (F M vats v q there here word) (IsMail id))) (got (F M vats v q there here word) (IsMail id) (IsVat s.number))).after s h (mail, (F M vats v q there here word).here s h.more))
      ((pays_answer cut x K v (global_names word v) s.number s.number id named).after s w) (λ a t r g z y. told_finds t from id n a verb args g y named (up s t r (IsName n) known) z)

  -- by whether an answer is asked for
  sent_finds : (asks : Bool) (s : Vat Name) (from : ℕ) (id n : Name) (verb : Words) (args : List (Value Name)) → Quiet s → AllWell s → NamesMessage id → Holds (Good false M vats v q there here word us d0 s) (IsMail id) → Holds (Good false M vats v q there here word us d0 s) (IsName n)
      → PaysAt cut x (one id x) s ((if asks then arrive.send_on_asked (naming word v) from id n verb args else send_on (naming word v) (settle (naming word v)) (record { id = id; target = Ref n; verb = verb; args = args; answer = None })) s)
  unfolding arrive.send_on_asked ◌>>=◌ and_then look
  sent_finds true s from id n verb args h w named mail known = answered_finds s from id n verb args h w named mail known
  sent_finds false s from id n verb args h w named mail known = send_on_finds (naming word v) v (global_names word v) cut x s (record { id = id; target = Ref n; verb = verb; args = args; answer = None }) w (good_views M vats v q there here word s (loud s h)) named (good_known M vats v q there here word s (Ref n) known)

  module _ (from : ℕ) (ks : List Name) (m : Name) (asks : Bool) (answer : Option Name) (n : Name) (verb : Words) (ys : Passeds Name) (made : Was false M vats v q there here word us d0 (Mail m)) (target : Was false M vats v q there here word us d0 (Named n)) (parts : PassedsOk (Was false M vats v q there here word us d0) ys) (named : NamesMessage m) where
    abbrev Later : List Name
    Later = (world.read_all ys ks).known

    -- what follows once the target is learnt, and once the arguments are
    abbrev Answered : List (Value Name) → Name → Act Name (Unit {0})
    Answered args y = if asks then arrive.send_on_asked (naming word v) from m y verb args else send_on (naming word v) (settle (naming word v)) (record { id = m; target = Ref y; verb = verb; args = args; answer = None })

    abbrev Learnt : List (Value Name) → Act Name (Unit {0})
    Learnt args = arrive.learn_name (naming word v) (read_name Later n) >>= (λ y. Answered args y)

    -- the target is learnt
    target_finds : (args : List (Value Name)) (s : Vat Name) → Quiet s → AllWell s → Knows false M vats v q there here word us d0 Later s → Holds (Good false M vats v q there here word us d0 s) (IsMail m) → PaysAt cut x (one m x) s (Learnt args s)
    unfolding ◌>>=◌
    target_finds args s h w k mail = learned_pays (world.known_after Later n) IsName (one m x) s (arrive.learn_name (naming word v) (read_name Later n) s) (λ y. Answered args y) ((learn_name false M vats v q there here word us d0 {C = IsMail m} Later n target).after s h k mail)
        ((pays_learn_name cut x (naming word v) v (global_names word v) (read_name Later n) (read_comes n Later)).after s w) (λ y t r g z known e. sent_finds asks t from m y verb args g e named (up s t r (IsMail m) mail) known)

    pub deliver_finds : (s : Vat Name) → Quiet s → AllWell s → Knows false M vats v q there here word us d0 ks s → PaysAt cut x (one m x) s (arrive.arrive (naming word v) from (read_note ks (Deliver (record { message = m; asks = asks; answer = answer }) n verb ys)) s)
    unfolding arrive.arrive read_note arrive.arrive_deliver arrive.learn_message ◌>>=◌ and_then mail naming mail_of
    deliver_finds s h w k = let first = (message_learned false M vats v q there here word us d0 {C = Nothing} ks m (host_of m) made).after s h k tt in let t : Vat Name = record s { mails = s.mails ++ m ∷ [] } in
        let placed = (pays_mail cut x (naming word v) v (global_names word v) (IsCarried m)).after s w in
        let d : Done Name (Unit {0}) = and_then (arrive.learn_all (naming word v) from (world.read_all ys ks).read t) (λ args. Learnt args) in
        let rest : PaysAt cut x (one m x) t d = learned_pays Later AreValues (one m x) t (arrive.learn_all (naming word v) from (world.read_all ys ks).read t) (λ args. Learnt args) ((learn_all false M vats v q there here word us d0 {C = IsMail m} from ys ks parts).after t first.1 first.2 first.3)
        ((pays_learn_all cut x (naming word v) v (global_names word v) from (world.read_all ys ks).read (all_come ys ks)).after t placed.0) (λ args u r g z values e. target_finds args u g e z (up t u r (IsMail m) first.3)) in
        pay_less cut x (0 + one m x) (one m x) s d (omega arith) (pay_more cut x 0 (one m x) s t d placed.1 rest)
