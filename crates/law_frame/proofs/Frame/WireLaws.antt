-- What a vat asked for, was asked for, exported and was told is known to it.
use Rattle.std.proofs.Common.{◌≡◌, ℕ, false, List, [], ◌∷◌, ◌++◌, Option, Some, None, refl, sym, ap, subst, ◌∙◌}
use Rattle.std.specs.Prelude.{slice_get}
use Rattle.def_machine.specs.Values.{answer_of, Name, host_of}
use Rattle.def_machine.specs.State.{Note, Deliver, Open, Ask, SettledTo, Elsewhere, Shorten, Vat}
use Rattle.def_run.specs.World.{Script, Link, World, link_at}
use Rattle.law_reference.specs.Reference.Logs as wire
use Rattle.law_fate.specs.Name.Names.{AllOf, IsAmong, IsKnownIn, names_in}
use Rattle.law_fate.proofs.Name.Facts.{all_map}
use Rattle.law_frame.proofs.Frame.Questions.{all_asked}
use Rattle.law_frame.specs.Frame.Asked.{AskFits, HoldsNoList}
use Rattle.law_frame.specs.Frame.Tables.{arrived}
use Rattle.law_frame.specs.Frame.Known.{KnowsEach, KnowsEachPromise, WhatAVatAskedForIsKnown, WhatAVatWasAskedForIsKnown, WhatAVatExportedIsKnown, WhatArrivedIsKnown, NotesHoldNoLists, DrawsAreInOrder, QuestionsAreOfTheirHosts}
use Rattle.law_frame.proofs.Frame.WireAsking.{Proper}
use Rattle.law_frame.proofs.Frame.ArriveAsking.{Answered}
use Rattle.law_frame.proofs.Frame.WireArrivals.{arrived_is}
use Rattle.law_frame.proofs.Frame.Told.{exports_told}
use Rattle.law_frame.proofs.Frame.LinksKnown.{AsksOwn, Sent, Heard, LinkKnown, at_link}
use Rattle.law_frame.proofs.Frame.Sources.{answer_host, gift_host}
use Rattle.law_frame.proofs.Frame.WireRuns.{Wire, in_runs, opened_both, stepped_both}

-- ---- what a list of notes asks for

asked_known : (ns : List Name) (to : ℕ) (log : List (Note Name)) → AllOf (AskFits ns to) log → AllOf (λ n. IsAmong n ns) (wire.questions_in to log)
unfolding wire.questions_in
asked_known ns to [] h = tt
asked_known ns to (Deliver d n verb ys ∷ log) h = all_asked (λ n. IsAmong n ns) d.asks (answer_of to d.message) (wire.questions_in to log) h.0 (asked_known ns to log h.1)
asked_known ns to (Ask p i n ∷ log) h = (h.0.0, asked_known ns to log h.1)
asked_known ns to (Open i n ∷ log) h = asked_known ns to log h.1
asked_known ns to (SettledTo n y ∷ log) h = asked_known ns to log h.1
asked_known ns to (Elsewhere n c ∷ log) h = asked_known ns to log h.1
asked_known ns to (Shorten n c i ∷ log) h = asked_known ns to log h.1

answered_fits : (ns : List Name) (to : ℕ) (n : Note Name) → Answered to ns n → AsksOwn to n → AskFits ns to n
answered_fits ns to (Deliver m n verb ys) h k = h
answered_fits ns to (Ask p i n) h k = (rw (sym k) at h, k)
answered_fits ns to other h k = tt

all_both : {A : Type 0} {P Q R : A → Type 0} → ((x : A) → P x → Q x → R x) → (xs : List A) → AllOf P xs → AllOf Q xs → AllOf R xs
all_both f [] h k = tt
all_both f (x ∷ xs) h k = (f x h.0 k.0, all_both f xs h.1 k.1)

-- ---- the notes that have arrived

first_all : {A : Type 0} (P : A → Type 0) (xs ys : List A) → AllOf P (xs ++ ys) → AllOf P xs
first_all P [] ys h = tt
first_all P (x ∷ xs) ys h = (h.0, first_all P xs ys h.1)

-- ---- in a world

module _ (script : Script) (w : World) (h : Wire script w) (u : ℕ) (s : Vat Name) (there : slice_get w.vats u ≡ Some s) where
  at_ends : (v to : ℕ) (l : Link) → link_at v to w.links ≡ Some l → LinkKnown w.vats l × (l.from ≡ v) × (l.to ≡ to)
  at_ends v to l e = at_link (LinkKnown w.vats) v to l w.links h.links e

  sent_from : (to : ℕ) (l : Link) → link_at u to w.links ≡ Some l → AllOf (Sent w.vats u to) l.log
  sent_from to l e = let a = at_ends u to l e in let k = a.0 in subst (λ (z : ℕ). AllOf (Sent w.vats u z) l.log) a.2 (subst (λ (z : ℕ). AllOf (Sent w.vats z l.to) l.log) a.1 k.sent)

  asked_at : (v : ℕ) (o : Option Link) → link_at u v w.links ≡ o → KnowsEach s (wire.questions_in v (wire.log_of o))
  unfolding wire.log_of wire.questions_in
  asked_at v None e = tt
  asked_at v (Some l) e = asked_known (names_in s.known) v l.log (all_map (λ n k. (k.2 s there).0) l.log (sent_from v l e))

  roots_from : (to : ℕ) (l : Link) → link_at u to w.links ≡ Some l → KnowsEachPromise s l.roots
  roots_from to l e = let a = at_ends u to l e in let k = a.0 in all_map (λ n i. i.0 s (rw (sym a.1) at there)) l.roots k.roots

  exported_at : (v : ℕ) (o : Option Link) → link_at u v w.links ≡ o → KnowsEachPromise s (wire.exports_after u (wire.questions (λ i. i) w.links v u) (wire.log_of o) (wire.roots_of o))
  unfolding wire.log_of wire.roots_of wire.exports_after
  exported_at v None e = tt
  exported_at v (Some l) e = exports_told u (wire.questions (λ i. i) w.links v u) (IsKnownIn (names_in s.known)) l.log l.roots (roots_from v l e) (all_map (λ n k. (k.2 s there).1) l.log (sent_from v l e))

  -- the notes that have arrived from v
  module _ (v : ℕ) (l : Link) (e : link_at v u w.links ≡ Some l) (c : l.cut ≡ false) where
    abbrev known_link : LinkKnown w.vats l
    known_link = (at_ends v u l e).0

    front : List (Note Name)
    front = (known_link.arrived c).0

    front_heard : AllOf (Heard w.vats u) front
    unfolding front
    front_heard = let a = at_ends v u l e in subst (λ (z : ℕ). AllOf (Heard w.vats z) (known_link.arrived c).0) a.2 (known_link.arrived c).2

    front_sent : AllOf (Sent w.vats l.from u) front
    unfolding front
    front_sent = let a = at_ends v u l e in let b = known_link.arrived c in let one : AllOf (Sent w.vats l.from l.to) (b.0 ++ l.notes) = subst (λ ns. AllOf (Sent w.vats l.from l.to) ns) b.1 known_link.sent in
        subst (λ (z : ℕ). AllOf (Sent w.vats l.from z) b.0) a.2 (first_all (Sent w.vats l.from l.to) b.0 l.notes one)

    has_arrived : arrived (Some l) ≡ front
    unfolding front
    has_arrived = arrived_is l (known_link.arrived c).0 (known_link.arrived c).1

    heard_asked : KnowsEach s (wire.questions_in u (arrived (Some l)))
    heard_asked = rw has_arrived (asked_known (names_in s.known) u front (all_both (λ n i k. answered_fits (names_in s.known) u n (i s there).0 k.0) front front_heard front_sent))

    heard_told : KnowsEachPromise s (wire.exports_after v (wire.questions (λ i. i) w.links u v) (arrived (Some l)) l.roots)
    heard_told = let a = at_ends v u l e in rw has_arrived (exports_told v (wire.questions (λ i. i) w.links u v) (IsKnownIn (names_in s.known)) front l.roots
        (all_map (λ n i. i.1 s (rw (sym a.2) at there)) l.roots known_link.roots) (all_map (λ n i. (i s there).1) front front_heard))

pub asked_for_known : WhatAVatAskedForIsKnown
unfolding wire.questions
asked_for_known = in_runs _ (λ script w g h u s there v. asked_at script w h u s there v (link_at u v w.links) refl)

pub was_asked_known : WhatAVatWasAskedForIsKnown
was_asked_known = in_runs _ (λ script w g h u s there v l e c. heard_asked script w h u s there v l e c)

pub exported_known : WhatAVatExportedIsKnown
unfolding wire.exports
exported_known = in_runs _ (λ script w g h u s there v. exported_at script w h u s there v (link_at u v w.links) refl)

pub arrived_known : WhatArrivedIsKnown
arrived_known = in_runs _ (λ script w g h u s there v l e c. heard_told script w h u s there v l e c)

proper_listless : (v to : ℕ) (n : Note Name) → Proper v to n → HoldsNoList n
proper_listless v to (Deliver m n verb ys) h = h
proper_listless v to (SettledTo n y) h = h
proper_listless v to other h = tt

pub notes_listless : NotesHoldNoLists
notes_listless = in_runs _ (λ script w g h. all_map (λ l k. all_map (λ n i. proper_listless l.from l.to n i.1) l.log k.sent) w.links h.links)

pub draws_in_order : DrawsAreInOrder
draws_in_order script once = (
  λ ps rest w e opened. let b = opened_both script once ps rest w e opened in let h = b.1 in h.draws,
  λ w x es k opened stepped. let b = stepped_both script once w x es k opened stepped in let h = b.1 in h.draws,
)

-- ---- whom a vat asks

asked_hosts : (to : ℕ) (log : List (Note Name)) → AllOf (AsksOwn to) log → AllOf (λ n. host_of n ≡ to) (wire.questions_in to log)
unfolding wire.questions_in
asked_hosts to [] h = tt
asked_hosts to (Deliver d n verb ys ∷ log) h = all_asked (λ n. host_of n ≡ to) d.asks (answer_of to d.message) (wire.questions_in to log) (λ e. answer_host to d.message h.0) (asked_hosts to log h.1)
asked_hosts to (Ask p i n ∷ log) h = (ap host_of h.0 ∙ gift_host to i, asked_hosts to log h.1)
asked_hosts to (Open i n ∷ log) h = asked_hosts to log h.1
asked_hosts to (SettledTo n y ∷ log) h = asked_hosts to log h.1
asked_hosts to (Elsewhere n c ∷ log) h = asked_hosts to log h.1
asked_hosts to (Shorten n c i ∷ log) h = asked_hosts to log h.1

link_hosts : (script : Script) (w : World) (h : Wire script w) (v u : ℕ) (o : Option Link) → link_at v u w.links ≡ o → AllOf (λ n. host_of n ≡ u) (wire.questions_in u (wire.log_of o))
unfolding wire.log_of wire.questions_in
link_hosts script w h v u None e = tt
link_hosts script w h v u (Some l) e = let a = at_link (LinkKnown w.vats) v u l w.links h.links e in let k = a.0 in
    asked_hosts u l.log (subst (λ (z : ℕ). AllOf (AsksOwn z) l.log) a.2 (all_map (λ n i. i.0) l.log k.sent))

pub questions_hosted : QuestionsAreOfTheirHosts
unfolding wire.questions
questions_hosted = in_runs _ (λ script w g h v u. link_hosts script w h v u (link_at v u w.links) refl)
