-- What a frame that is carried says, brings and leaves.
use Rattle.std.proofs.Common.{◌≡◌, ◌<◌, ℕ, zero, suc, Bool, true, false, List, [], ◌∷◌, ◌++◌, Option, Some, None, Result, Ok, Err, get_or, length, refl, sym, ap, subst, ◌∙◌, append-nil}
use Rattle.std.specs.Prelude.{IfOk, drop, if◌then◌else◌, slice_get, slice_set, ◌==◌}
use Rattle.std.proofs.lemmas.Bool.{eq-eqb}
use Rattle.std.proofs.lemmas.List.Elements.{filter-append}
use Rattle.def_event.specs.Lines.{is_no_frame}
use Rattle.def_event.specs.declared.event.Event.{Event as ShownEvent}
use Rattle.def_event.specs.declared.event.Event.TheVariants as line
use Rattle.def_event.specs.declared.note.ShownNote.{ShownNote}
use Rattle.def_run.specs.Numbers.{Frame, Way, brought, carried_in, with_way}
use Rattle.def_run.specs.Vats.{Member, asked_by, connection_for, heard_in, heard_on, unconnected}
use Rattle.def_machine.specs.State as machine
use Rattle.def_machine.specs.Values.{Local, Name}
use Rattle.def_op.specs.Frames.{IsOp, Operation, spelling}
use Rattle.def_run.specs.Connections.{Connection}
use Rattle.def_run.specs.Shown.{shown_event}
use Rattle.def_run.specs.Text.{shown_events}
use Rattle.def_run.specs.World.{Carried, Event}
use Rattle.ev_base.specs.declared.memory.Memory.{Memory as NoMemory}
use Rattle.ev_base.specs.declared.names.Msg.{Msg}
use Rattle.ev_intro.specs.Word.{Drawn}
use Rattle.ev_resident.specs.MemberHearing.{AllOwn, Brings, HeardNote, IsSteadyHearing, frame_heard, heard_of, op_found}
use Rattle.ev_resident.specs.MemberStanding.{IsMember}
use Rattle.ev_resident.specs.Names.{Entry, carried_mails}
use Rattle.ev_resident.specs.NamesStanding.{Says, mails_of, words_of}
use Rattle.ev_resident.specs.OutcomeStanding.{NamesStand, ObjectsStand}
use Rattle.ev_op.proofs.DecodeLemmas.{decoded_again}
use Rattle.ev_op.specs.Decoded.{decoded}
use Rattle.ev_wire.specs.declared.news.News.{News}
use Rattle.ev_resident.specs.declared.resident.Resident.{Resident}
use Rattle.ev_ways.proofs.Changes.{carry_stands}
use Rattle.ev_ways.proofs.Cuts.{shown_join}
use Rattle.ev_ways.specs.Rows.{Lane, behind, changed, next_at, next_from, next_to, of_found}
use Rattle.ev_ways.specs.Standing.{IsFrame, WaysStand, asks_in, named_message}
use Rattle.ev_ways.specs.Statements.{Carries, IsCarried, IsTaken}
use Rattle.ev_ways.specs.declared.frame.Frame.{Frame as Sent}
use Rattle.ev_step_text.specs.Accounts.{IsAccount, More}
use Rattle.ev_step_text.specs.declared.account.Account.{Account}
use Rattle.ev_world.specs.Carrying.{TellsFrame, note_lines}
use Rattle.ev_world.specs.Standing.{told_so}
use Rattle.ev_world.proofs.Objects.{is_within}
use Rattle.ev_world.proofs.Telling.{only}
use Rattle.def_run.specs.Steady.{HearingIsSteady}
use Rattle.def_run.specs.Steady as steady

-- ---- what is heard of it

found_all : (n : ℕ) (op : Operation) → op_found n (Some (op, n)) ≡ Some op
found_all n op = rw (eq-eqb n n refl) refl

op_read : (op : Operation) → IsOp op → op_found (length (spelling op)) (decoded (spelling op)) ≡ Some op
op_read op is =
    ap (op_found (length (spelling op))) (ap decoded (sym (append-nil (spelling op))) ∙ decoded_again op [] is)
    ∙ found_all (length (spelling op)) op

-- of its bytes is heard what is heard of its operation
pub frame_is : (ds : List ℕ) (v u : ℕ) (m : Member) (x : Frame) (k : Sent) → IsFrame ds u x k → frame_heard v m k.bytes ≡ heard_in v x.op m
frame_is ds v u m x k is =
    ap (λ (bytes : List ℕ). heard_of v m (op_found (length bytes) (decoded bytes))) is.spelled
    ∙ ap (λ (o : Option Operation). heard_of v m o) (op_read x.op is.fits)

-- its message is that of its note
pub mails_named : (o : Option Msg) → mails_of (carried_mails o) ≡ named_message o
mails_named None = refl
mails_named (Some m) = refl

-- ---- what it leaves

-- what was exported stays where the connection of one peer is another with the same exports
exports_kept : (cs : List (Connection Local)) (v : ℕ) (y : Connection Local) (h : ℕ) → y.exports ≡ (get_or cs v unconnected).exports → (get_or (slice_set cs v y) h unconnected).exports ≡ (get_or cs h unconnected).exports
exports_kept [] v y h e = refl
exports_kept (c ∷ cs) zero y zero e = e
exports_kept (c ∷ cs) zero y (suc h) e = refl
exports_kept (c ∷ cs) (suc v) y zero e = refl
exports_kept (c ∷ cs) (suc v) y (suc h) e = exports_kept cs v y h e

pub heard_exports : (m : Member) (v : ℕ) (n : HeardNote) (s : machine.Vat Local) (h : ℕ) → (get_or (slice_set m.connections v (heard_on n s (connection_for v m))) h unconnected).exports ≡ (connection_for h m).exports
unfolding heard_on connection_for
heard_exports m v n s h = exports_kept m.connections v (heard_on n s (connection_for v m)) h refl

all_own : (b : Bool) (s : machine.Vat Local) (ns : List Local) → steady.AllOwn b s ns → AllOwn b s ns
all_own b s [] h = tt
all_own b s (n ∷ ns) h = (h.0, all_own b s ns h.1)

pub hears_steadily : (v : ℕ) (m : Member) (n : HeardNote) (s : machine.Vat Local) → HearingIsSteady v m n s → IsSteadyHearing v m n s
hears_steadily v m n s is = record {
  owns = is.step.owns;
  asks = is.step.asks;
  imports = all_own false s (drop (length (connection_for v m).imports) n.after.imports) is.imports;
  answers = all_own true s (asked_by n.after.known s n.read) is.answers;
}

-- ---- the way that it was taken from

-- the first frame on a way is under way from a vat that is there
found_from : {A B : Type 0} (f : A → Option B) (o : Option A) (y : B) → of_found f o ≡ Some y → (x : A) × (o ≡ Some x)
unfolding of_found
found_from f None y e = absurd cc
found_from f (Some x) y e = (x, refl)

next_or : (b : Bool) (o : Option Sent) (k : Sent) → (if b then None else o) ≡ Some k → o ≡ Some k
next_or true o k e = absurd cc
next_or false o k e = e

pub sender_is : (v u : ℕ) (rows : List (List Lane)) (k : Sent) → next_at v u rows ≡ Some k → v < length rows
unfolding next_at next_from
sender_is v u rows k e =
    let r = found_from (next_to u) (slice_get rows v) k (next_or (v == u) (next_from v u rows) k e) in
    is_within rows v r.0 r.1

-- no vat sends itself one
pub sender_other : (v u : ℕ) (rows : List (List Lane)) (k : Sent) → next_at v u rows ≡ Some k → u ≡ v → ⊥
unfolding next_at
sender_other v u rows k e same =
    let here : (v == u) ≡ true = eq-eqb v u (sym same) in
    let none : next_at v u rows ≡ None = rw here refl in
    let t : ◌≡◌ {A = Option Sent} None (Some k) = sym none ∙ e in
    absurd cc

pub carried : (ds : List ℕ) (n v u : ℕ) (ls : List Way) (rows : List (List Lane)) (k : Sent) → next_at v u rows ≡ Some k → WaysStand ds n ls rows → IsCarried ds n v u ls (changed behind v u rows) k
carried ds n v u ls rows k next stand = subst (λ (o : Option Sent). Carries ds n v u ls (changed behind v u rows) o) next (carry_stands ds n v u ls rows stand)

same_heads : {A : Type 0} (x y : A) (xs ys : List A) → x ∷ xs ≡ y ∷ ys → x ≡ y
same_heads x y xs ys e = cc

same_tails : {A : Type 0} (x y : A) (xs ys : List A) → x ∷ xs ≡ y ∷ ys → xs ≡ ys
same_tails x y xs ys e = cc

-- what was taken is the same under other draws
module _ (ds es : List ℕ) (n v u : ℕ) (ls : List Way) (rows : List (List Lane)) (k : Sent) (a : IsTaken ds n v u ls rows k) (b : IsTaken es n v u ls rows k) where
  same_frames : b.first ∷ b.others ≡ a.first ∷ a.others
  same_frames = sym b.under_way ∙ ap (λ (l : Way). l.frames) (only b.found a.found) ∙ a.under_way

  pub frame_alike : IsFrame es u a.first k
  frame_alike = subst (λ (x : Frame). IsFrame es u x k) (same_heads b.first a.first b.others a.others same_frames) b.is_frame

  pub ways_left_alike : WaysStand es n (with_way (λ (l : Way). record l { frames = a.others }) v u ls) rows
  ways_left_alike =
      subst (λ (xs : List Frame). WaysStand es n (with_way (λ (l : Way). record l { frames = xs }) v u ls) rows) (same_tails b.first a.first b.others a.others same_frames) b.stand

-- ---- the lines that it is told by

pub note_shown : (ds : List ℕ) (k v u : ℕ) (x : Frame) (y : Sent) → IsFrame ds u x y → shown_events ds (Carried k v u x.note (spelling x.op) ∷ []) ≡ note_lines k v u y
unfolding shown_events shown_event
note_shown ds k v u x y is =
    ap (λ (n : ShownNote). line.Carry k v u n ∷ line.Frame (spelling x.op) ∷ []) (sym is.told)
    ∙ ap (λ (bs : List ℕ). line.Carry k v u y.note ∷ line.Frame bs ∷ []) (sym is.spelled)

told_joins : (wire : Bool) (a b : List ShownEvent) → told_so wire a ++ told_so wire b ≡ told_so wire (a ++ b)
told_joins true a b = refl
told_joins false a b = sym (filter-append is_no_frame a b)

-- more lines behind those before, frames where they are told
lines_more : (ds : List ℕ) (wire : Bool) (h told lines : List ShownEvent) (before more : List Event) → h ≡ told_so wire (shown_events ds before) → shown_events ds more ≡ lines → told ≡ h ++ told_so wire lines
    → told ≡ told_so wire (shown_events ds (before ++ more))
lines_more ds wire h told lines before more so_far shown is =
    is
    ∙ ap (λ (es : List ShownEvent). es ++ told_so wire lines) so_far
    ∙ told_joins wire (shown_events ds before) lines
    ∙ ap (λ (es : List ShownEvent). told_so wire (shown_events ds before ++ es)) (sym shown)
    ∙ ap (told_so wire) (sym (shown_join ds before more))

-- the same of an account
pub account_more : (names : List (List ℕ)) (ds : List ℕ) (wire : Bool) (h told : Account) (lines : List ShownEvent) (before more : List Event) → IsAccount names h (told_so wire (shown_events ds before)) → shown_events ds more ≡ lines
    → More h told (told_so wire lines) → IsAccount names told (told_so wire (shown_events ds (before ++ more)))
account_more names ds wire h told lines before more so_far shown grew =
    let first : List ShownEvent = told_so wire (shown_events ds before) in
    subst (λ (es : List ShownEvent). IsAccount names told es) (lines_more ds wire first (first ++ told_so wire lines) lines before more refl shown refl) (grew names first so_far)

-- ---- as the code answers

-- What was told, or memory ran out, where the code found x and y at those places, and y has these words.
pub tells_frame : (rs : List Resident) (v u first : ℕ) (news : News) (k : Sent) (x y : Resident) (d : Drawn) (r : Result (List Entry) NoMemory) → slice_get rs v ≡ Some x → slice_get rs u ≡ Some y → d ≡ y.member.vat.host.inside.words
    → ((ms : List Member) (a : ℕ) (m p : Member) (h : HeardNote) (n : machine.Note Name) (last : machine.Vat Local) → slice_get ms a ≡ Some p → IsMember p x.member → NamesStand (words_of d) a last p.names x.names
    → ObjectsStand ms a x.names.naming.objects → first ≡ length (connection_for a m).imports → Brings a m h news → mails_of (carried_mails k.message) ≡ carried_in n → k.asks ≡ asks_in n → IfOk r (λ told. Says d told (brought ms a u n h m)))
    → IfOk r (λ told. TellsFrame rs v u first news k told)
tells_frame rs v u first news k x y d (Err e) at_x at_y same f = tt
tells_frame rs v u first news k x y d (Ok told) at_x at_y same f = λ ms p m h n e q is.
    let is_e : x ≡ e = only at_x is.sender in
    let words : q.member.vat.host.inside.words ≡ d = ap (λ (z : Resident). z.member.vat.host.inside.words) (sym (only at_y is.receiver)) ∙ sym same in
    let names : NamesStand (words_of d) v p.vat p.names e.names = subst (λ (t : Drawn). NamesStand (words_of t) v p.vat p.names e.names) words is.names in
    subst (λ (t : Drawn). Says t told (brought ms v u n h m)) (sym words)
    (f ms v m p h n p.vat is.there (subst (λ (z : Resident). IsMember p z.member) (sym is_e) is.member) (subst (λ (z : Resident). NamesStand (words_of d) v p.vat p.names z.names) (sym is_e) names)
    (subst (λ (z : Resident). ObjectsStand ms v z.names.naming.objects) (sym is_e) is.objects) is.first_is is.brings is.message is.asks)
