-- Whether a note brings nothing is told by the vat's tables as by the run.
use Rattle.std.proofs.Common.{◌≡◌, ℕ, ◌==◌, ◌&&◌, ◌||◌, Bool, true, false, List, [], ◌∷◌, ◌++◌, map, Option, Some, None, is_some, refl, sym, ap, subst, ◌∙◌, append-nil}
use Rattle.std.specs.Prelude.{IfSome, if◌then◌else◌}
use Rattle.ev_base.specs.declared.values.Value.TheVariants as held
use Rattle.def_hostile.specs.Arrivals as run
use Rattle.def_hostile.specs.Arrivals.{sees}
use Rattle.def_machine.specs.Arrive.{Incoming, New, Old, gift_at}
use Rattle.def_machine.specs.Receive as receive
use Rattle.def_machine.specs.State as machine
use Rattle.def_machine.specs.State.{GiftEntry, Note}
use Rattle.def_machine.specs.Values.{Words, Local, Mess, Naming, Prom, key as gift_key}
use Rattle.def_op.specs.Frames.{IsOp, Operation}
use Rattle.def_run.specs.Connections.{Connection, Learnt, learnt_at}
use Rattle.def_run.specs.Seeing.{among}
use Rattle.def_run.specs.Vats.{Member as Theirs, connection_for, is_own}
use Rattle.ev_arrive.proofs.Gifting.{Alike, alike}
use Rattle.ev_arrive.proofs.Opens.{opened_like, standing_is}
use Rattle.ev_arrive.specs.Breaking.{standing_now}
use Rattle.ev_arrive.specs.Hearing.{Name, Sees, heard_by}
use Rattle.ev_arrive.specs.Hosting.{is_opened}
use Rattle.ev_arrive.specs.Reading.{gift_by, host_at, subject_by}
use Rattle.ev_arrive.specs.Receiving as code
use Rattle.ev_arrive.specs.declared.brought.Heard.{Heard as Noted}
use Rattle.ev_arrive.specs.declared.brought.Heard.TheVariants.{Deliver, Open, Ask, Settled, Elsewhere, Shorten}
use Rattle.ev_arrive.specs.declared.host.Host.{Host}
use Rattle.ev_arrive.specs.declared.host.Subject.{Subject}
use Rattle.ev_arrive.specs.declared.host.Subject.TheVariants as subject
use Rattle.ev_arrive.specs.declared.receiving.Sight.{Sight}
use Rattle.ev_intro.specs.Gift.{Gift, Gifts, find, is_under}
use Rattle.ev_intro.specs.Word.{word}
use Rattle.ev_op.specs.Decoded.{decoded}
use Rattle.ev_pass.specs.Reading.{Lines, names_under}
use Rattle.ev_pass.specs.declared.interior.Interior.{Interior}
use Rattle.ev_receiver.proofs.Seen.{own_promises_seen}
use Rattle.ev_reception.specs.Receiving.{HostsOwn, brings_nothing, is_question}
use Rattle.ev_refs.specs.Reading.{standing_by}
use Rattle.ev_refs.specs.declared.known.Standing.{Standing}
use Rattle.ev_refs.specs.declared.known.Standing.TheVariants as standing
use Rattle.ev_room.specs.Reading.{World, beside, line_of, texts_of, vat_of}
use Rattle.ev_settle.specs.Performing.{Tells}
use Rattle.ev_tables.specs.Standing.{connection_of, is_own as is_own_here}
use Rattle.ev_tables.specs.Table.{Table, name_of}
use Rattle.ev_vat.proofs.Arriving.{kept, kept_found}
use Rattle.ev_vat.proofs.Heard.{connection_here, reads, table_here, the_note}
use Rattle.ev_vat.proofs.MemberSteps.{references_before}
use Rattle.ev_vat.proofs.Worlds.{grown_texts, grown_world, sees_grown}
use Rattle.ev_vat.specs.Hearing.{AllOwn, HeardNote}
use Rattle.ev_vat.specs.Standing.{IsFound, with_draws}
use Rattle.ev_vat.specs.declared.member.Member.{Member}
use Rattle.ev_wire.proofs.PeerSights.{own_is}
use Rattle.ev_wire.specs.Bringing.{told}
use Rattle.ev_wire.specs.Hearing as wire
use Rattle.ev_wire.specs.Putting.{table_for}
use Rattle.ev_wire.specs.Reading.{learnt_of}
use Rattle.ev_wire.specs.Sight.{sight_by}
use Rattle.ev_wire.specs.Standing.{HasReferences}
use Rattle.ev_wire.specs.Writing.{is_mine}
use Rattle.ev_wire.specs.declared.news.News.{News}
use Rattle.law_evaluation.proofs.Acts.Lines.{line_tells}
use Rattle.law_evaluation.proofs.Acts.Sounds.{grown_same}
use Rattle.law_evaluation.specs.Arrivals.Arrivals.{vat_in}

-- ---- notes

question_is : (ts : List Words) (n : Local) (x : Name) (c from : ℕ) (note : Noted) → is_question note ≡ run.is_question (heard_by ts n x c from note)
unfolding run.is_question
question_is ts n x c from (Deliver m asks t verb args) = refl
question_is ts n x c from (Open i t) = refl
question_is ts n x c from (Ask p i) = refl
question_is ts n x c from (Settled t y) = refl
question_is ts n x c from (Elsewhere t d) = refl
question_is ts n x c from (Shorten t i) = refl

module _ (ts : List Words) (key : List ℕ) (line : Lines) (s : machine.Vat Local) (tells : Tells ts line) (n : Local) where
  abbrev at : Host → machine.Vat Local
  at h = host_at ts line h s

  number_like : (sight : receive.Sight Local) (b : Bool) (o : Option (ℕ × Bool)) (q : Option (GiftEntry Local)) → Alike o q → ((g : ℕ × Bool) → o ≡ Some g → b ≡ sight.numbers (Prom g.0))
      → code.has_number b o ≡ receive.has_number (names_under key) sight q
  unfolding receive.has_number
  number_like sight b (Some x) (Some g) like f = f x refl ∙ ap sight.numbers (sym like.0)
  number_like sight b None None like f = refl
  number_like sight b None (Some g) like f = elim like [ ]
  number_like sight b (Some x) None like f = elim like [ ]

  told_like : (t : Standing) → code.is_told t ≡ receive.is_told (standing_by ts t)
  unfolding receive.is_told
  told_like standing.Unsettled = refl
  told_like (standing.WaitsOn q) = refl
  told_like (standing.Viewed q) = refl
  told_like (standing.Settled v) = refl

  was_is : (x : Subject) (h : Host) → code.was_told x h.inside.refs ≡ receive.was_told (names_under key) (subject_by n x) (at h)
  unfolding code.was_told receive.was_told
  was_is (subject.Known m) h = told_like (standing_now h.inside.refs m) ∙ ap receive.is_told (standing_is ts key line s tells m h)
  was_is (subject.New v) h = refl

  nothing_is : (x : Name) (c : ℕ) (sight : receive.Sight Local) (see : Sight) (from : ℕ) (note : Noted) (h : Host) → Sees sight h note see
      → code.tells_nothing from see note h ≡ receive.tells_nothing (names_under key) sight from (heard_by ts n x c from note) (at h)
  unfolding code.tells_nothing receive.tells_nothing is_opened
  nothing_is x c sight see from (Deliver m asks t verb args) h sees = refl
  nothing_is x c sight see from (Open i t) h sees = opened_like ts key line s tells (find from i h.gifts) (gift_at from (gift_key from i) (map gift_by h.gifts)) (alike from i h.gifts)
  nothing_is x c sight see from (Ask p i) h sees = number_like sight see.numbered (find p i h.gifts) (gift_at p (gift_key p i) (map gift_by h.gifts)) (alike p i h.gifts) sees
  nothing_is x c sight see from (Settled t y) h sees = was_is t h
  nothing_is x c sight see from (Elsewhere t d) h sees = was_is t h
  nothing_is x c sight see from (Shorten t i) h sees = refl

-- in each world
nothing_in : (w : World) (n : Local) (x : Name) (c : ℕ) (sight : receive.Sight Local) (see : Sight) (from : ℕ) (note : Noted) (h : Host) → Sees sight h note see
    → code.tells_nothing from see note h ≡ receive.tells_nothing (names_under w.key) sight from (heard_by (texts_of w) n x c from note) (vat_in w h)
unfolding vat_of
nothing_in w n x c sight see from note h sees = nothing_is (texts_of w) w.key (line_of w) (beside w h.inside) (line_tells w) n x c sight see from note h sees

-- fuel and draws are not looked at
told_drawn : (K : Naming Local Local) (fuel : ℕ) (drawn : List ℕ) (x : Incoming Local Local) (s : machine.Vat Local) → receive.was_told K x (with_draws fuel drawn s) ≡ receive.was_told K x s
unfolding receive.was_told
told_drawn K fuel drawn (Old n) s = refl
told_drawn K fuel drawn (New n h) s = refl

nothing_drawn : (K : Naming Local Local) (sight : receive.Sight Local) (fuel : ℕ) (drawn : List ℕ) (from : ℕ) (n : Note Name) (s : machine.Vat Local)
    → receive.tells_nothing K sight from n (with_draws fuel drawn s) ≡ receive.tells_nothing K sight from n s
unfolding receive.tells_nothing
nothing_drawn K sight fuel drawn from (machine.Deliver d x verb ys) s = refl
nothing_drawn K sight fuel drawn from (machine.Open i x) s = refl
nothing_drawn K sight fuel drawn from (machine.Ask p i x) s = refl
nothing_drawn K sight fuel drawn from (machine.SettledTo x y) s = told_drawn K fuel drawn x s
nothing_drawn K sight fuel drawn from (machine.Elsewhere x c) s = told_drawn K fuel drawn x s
nothing_drawn K sight fuel drawn from (machine.Shorten x c i) s = refl

-- ---- gifts are the vat's own

some_first : (x y : ℕ × Bool) → Some x ≡ Some y → x ≡ y
some_first x y e = cc

own_step : (s : machine.Vat Local) (b : Bool) (x g : ℕ × Bool) (o : Option (ℕ × Bool)) → is_own s.number s.known (Prom x.0) ≡ true → (o ≡ Some g → is_own s.number s.known (Prom g.0) ≡ true)
    → (if b then Some x else o) ≡ Some g → is_own s.number s.known (Prom g.0) ≡ true
own_step s true x g o own rest e = ap (λ (y : ℕ × Bool). is_own s.number s.known (Prom y.0)) (sym (some_first x g e)) ∙ own
own_step s false x g o own rest e = rest e

own_found : (s : machine.Vat Local) (gs : Gifts) (p i : ℕ) (g : ℕ × Bool) → AllOwn true s (map (λ (e : GiftEntry Local). e.name) (map gift_by gs)) → find p i gs ≡ Some g → is_own s.number s.known (Prom g.0) ≡ true
own_found s [] p i g own e = absurd cc
own_found s (x ∷ gs) p i g own e = own_step s (is_under p i x) (x.promise, x.is_opened) g (find p i gs) own.0 (own_found s gs p i g own.1) e

module _ (fuel : ℕ) (drawn : List ℕ) (m : Theirs) (q : Member) (found : IsFound fuel drawn m q) (v : ℕ) where
  abbrev i : Interior
  i = q.vat.host.inside

  abbrev t : Table
  t = table_for v q.connections.items

  abbrev world : World
  world = grown_world i i found.rest.sound (grown_same i.heap)

  references : HasReferences (texts_of world) i.refs m.vat
  references = references_before fuel drawn m q q found world (sees_grown i i found.rest.sound (grown_same i.heap))

  gifts_in : (w : World) (h : Host) → (vat_in w h).gifts ≡ map gift_by h.gifts
  unfolding vat_of
  gifts_in w h = refl

  gifts_are : m.vat.gifts ≡ map gift_by q.vat.host.gifts
  gifts_are = sym (ap (λ (s : machine.Vat Local). s.gifts) (found.vat world (sees_grown i i found.rest.sound (grown_same i.heap)))) ∙ gifts_in world q.vat.host

  module _ (owns : HostsOwn m.vat) where
    mine : (p k : ℕ) (g : ℕ × Bool) → find p k q.vat.host.gifts ≡ Some g → is_mine i.refs g.0 ≡ true
    unfolding is_own_here
    mine p k g e =
        sym (own_is (texts_of world) i.refs m.vat references (Prom g.0))
        ∙ own_found m.vat q.vat.host.gifts p k g (subst (λ (gs : List (GiftEntry Local)). AllOwn true m.vat (map (λ (x : GiftEntry Local). x.name) gs)) gifts_are owns) e

    numbers_are : (k : ℕ) → is_mine i.refs k ≡ true → is_some (name_of (held.Prom k) t.names) ≡ (sees v m).numbers (Prom k)
    unfolding sees
    numbers_are k own =
        own_promises_seen (is_mine i.refs) t k (table_here fuel drawn m q found v).kept own
        ∙ ap (λ (c : Connection Local). among c.exports (Prom k) || among c.answers (Prom k)) (sym (connection_here fuel drawn m q found v))

    -- what the tables tell is what the run sees
    pub sees_so : (note : Noted) (see : Sight) → Sees (sight_by t q.learnt) q.vat.host note see → Sees (sees v m) q.vat.host note see
    unfolding sees
    sees_so (Ask p w) see s = λ g e. s g e ∙ numbers_are g.0 (mine p w g e)
    sees_so (Elsewhere x c) see s =
        s ∙ ap (λ (ls : List (Learnt Local)). is_some (learnt_at c (gift_key (code.host_by x i.refs) (word i.words.key i.words.count)) ls)) found.rest.learnt
    sees_so (Deliver a asks x verb args) see s = tt
    sees_so (Open w x) see s = tt
    sees_so (Settled x y) see s = tt
    sees_so (Shorten x k) see s = tt

-- ---- notes that bring nothing

abbrev chosen : Bool → Bool → Bool → Bool
chosen b x y = elim b [ true ↦ x | false ↦ y ]

by_question : (b c x y : Bool) → b ≡ c → x ≡ y → (if b then false else x) ≡ chosen c false y
by_question true true x y e f = refl
by_question false false x y e f = f
by_question true false x y e f = absurd cc
by_question false true x y e f = absurd cc

tells_kept : (from : ℕ) (see : Sight) (note : Noted) (h k : Host) → h.gifts ≡ k.gifts → h.inside.refs ≡ k.inside.refs → code.tells_nothing from see note h ≡ code.tells_nothing from see note k
unfolding code.tells_nothing
tells_kept from see (Deliver m asks x verb args) h k e f = refl
tells_kept from see (Open i x) h k e f = ap (is_opened from i) e
tells_kept from see (Ask p i) h k e f = ap (λ (gs : Gifts). code.has_number see.numbered (find p i gs)) e
tells_kept from see (Settled x y) h k e f = ap (code.was_told x) f
tells_kept from see (Elsewhere x c) h k e f = ap (code.was_told x) f
tells_kept from see (Shorten x i) h k e f = refl

-- a vat that keeps texts sees no other thing
pub sees_kept : (sight : receive.Sight Local) (h : Host) (us : List (List ℕ)) (note : Noted) (see : Sight) → Sees sight h note see → Sees sight (record h { inside = record h.inside { heap = record h.inside.heap { texts = us } } }) note see
sees_kept sight h us (Ask p w) see s = s
sees_kept sight h us (Elsewhere x c) see s = s
sees_kept sight h us (Deliver a asks x verb args) see s = tt
sees_kept sight h us (Open w x) see s = tt
sees_kept sight h us (Settled x y) see s = tt
sees_kept sight h us (Shorten x k) see s = tt

module _ (fuel : ℕ) (drawn : List ℕ) (m : Theirs) (q : Member) (found : IsFound fuel drawn m q) (v : ℕ) (bytes : List ℕ) (spelled : IfSome (decoded bytes) (λ (x : Operation × ℕ). IsOp x.0))
    (note : Noted) (news : News) (heard : wire.frame_heard q.vat.host.inside (table_for v q.connections.items) q.learnt bytes ≡ Some (told note, news)) (see : Sight) where
  abbrev ours : Member
  ours = kept fuel drawn m q found news.texts

  abbrev j : Interior
  j = ours.vat.host.inside

  ours_found : IsFound fuel drawn m ours
  ours_found = kept_found fuel drawn m q found news.texts

  abbrev now : World
  now = grown_world j j ours_found.rest.sound (grown_same j.heap)

  abbrev h : HeardNote
  h = the_note fuel drawn m q found v bytes spelled note news heard

  abbrev K : Naming Local Local
  K = names_under q.vat.host.inside.words.key

  texts_are : texts_of now ≡ (q.vat.host.inside.heap.texts ++ news.texts) ++ []
  texts_are = grown_texts j j ours_found.rest.sound (grown_same j.heap) ∙ sym (append-nil (q.vat.host.inside.heap.texts ++ news.texts))

  abbrev me : ℕ
  me = q.vat.host.inside.refs.me

  reads_now : heard_by (texts_of now) (Mess 0) (New (Mess 0) me) v v note ≡ h.read
  reads_now = reads fuel drawn m q found v bytes spelled note news heard (texts_of now) [] texts_are

  module _ (sight : Sees (sees v m) q.vat.host note see) where
    tells_same : code.tells_nothing v see note q.vat.host ≡ receive.tells_nothing K (sees v m) v h.read m.vat
    tells_same =
        tells_kept v see note q.vat.host ours.vat.host refl refl
        ∙ nothing_in now (Mess 0) (New (Mess 0) me) v (sees v m) see v note ours.vat.host (sees_kept (sees v m) q.vat.host j.heap.texts note see sight)
        ∙ ap (λ (n : Note Name). receive.tells_nothing K (sees v m) v n (vat_in now ours.vat.host)) reads_now
        ∙ ap (λ (s : machine.Vat Local). receive.tells_nothing K (sees v m) v h.read s) (ours_found.vat now (sees_grown j j ours_found.rest.sound (grown_same j.heap)))
        ∙ nothing_drawn K (sees v m) fuel drawn v h.read m.vat

    pub nothing_heard : brings_nothing v see note q.vat.host ≡ run.brings_nothing K v m h.read
    unfolding run.brings_nothing
    nothing_heard =
        by_question (is_question note) (run.is_question h.read) (code.tells_nothing v see note q.vat.host) (receive.tells_nothing K (sees v m) v h.read m.vat)
        (question_is (texts_of now) (Mess 0) (New (Mess 0) me) v v note ∙ ap run.is_question reads_now) tells_same
