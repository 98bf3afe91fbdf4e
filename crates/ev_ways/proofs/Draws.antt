-- The ways stand under other draws, where what is under way is told alike.
use Rattle.std.proofs.Common.{◌≡◌, ℕ, zero, suc, Bool, true, false, List, [], ◌∷◌, ◌++◌, Option, Some, None, refl, sym, ap, ◌∙◌, subst, map, arith}
use Rattle.std.specs.Prelude.{◌==◌}
use Rattle.std.proofs.lemmas.Bool.{eq-eqb}
use Rattle.ev_base.specs.declared.names.Msg.{Msg as ShownMsg}
use Rattle.def_event.specs.declared.note.ShownNote.{ShownNote}
use Rattle.def_machine.specs.Values.{Name, Root, Object, Promise, Answer, Gift, Sent}
use Rattle.def_run.specs.Shown.{shown_msg, shown_note}
use Rattle.def_run.specs.Numbers.{Way, carried_in, is_way, way_at}
use Rattle.def_run.specs.Numbers.{Frame as Carrying}
use Rattle.ev_ways.specs.declared.frame.Frame.{Frame}
use Rattle.ev_ways.specs.Rows.{Lane}
use Rattle.ev_ways.specs.Standing.{AreFrames, AreWays, IsWay, Placed, placed_from, placed_to, told_message}
use Rattle.ev_ways.specs.Statements.{DrawsStand}
use Rattle.ev_ways.proofs.Places.{Clear, clear_join, chosen, placed_at, at_clear, row_ahead, rows_ahead}
use Rattle.ev_ways.proofs.Stands.{MayStand, ends, finds}

-- ---- frames

msg_alike : (ds es : List ℕ) (n : Name) → shown_msg ds n ≡ shown_msg es n
unfolding shown_msg
msg_alike ds es (Root v) = refl
msg_alike ds es (Object v n) = refl
msg_alike ds es (Promise v n) = refl
msg_alike ds es (Answer h m) = refl
msg_alike ds es (Gift h i) = refl
msg_alike ds es (Sent m) = refl

message_alike : (ds es : List ℕ) (ms : List Name) → told_message ds ms ≡ told_message es ms
unfolding told_message
message_alike ds es [] = refl
message_alike ds es (m ∷ ms) = ap (λ (x : ShownMsg). Some x) (msg_alike ds es m)

first_same : {A : Type 0} (x y : A) (xs ys : List A) → x ∷ xs ≡ y ∷ ys → x ≡ y
first_same x y xs ys e = cc

others_same : {A : Type 0} (x y : A) (xs ys : List A) → x ∷ xs ≡ y ∷ ys → xs ≡ ys
others_same x y xs ys e = cc

-- frames are told alike under these draws and under those
abbrev pub Alike : List ℕ → List ℕ → ℕ → List Carrying → Type 0
Alike ds es u xs = map (λ (x : Carrying). shown_note es u x.note) xs ≡ map (λ (x : Carrying). shown_note ds u x.note) xs

frames_alike : (ds es : List ℕ) (u : ℕ) (xs : List Carrying) (ks : List Frame) → Alike ds es u xs → AreFrames ds u xs ks → AreFrames es u xs ks
frames_alike ds es u [] [] e h = tt
frames_alike ds es u (x ∷ xs) (k ∷ ks) e h =
    let ns : List ShownNote = map (λ (y : Carrying). shown_note es u y.note) xs in
    let ms : List ShownNote = map (λ (y : Carrying). shown_note ds u y.note) xs in (
      record {
        spelled = h.0.spelled;
        fits = h.0.fits;
        told = h.0.told ∙ sym (first_same (shown_note es u x.note) (shown_note ds u x.note) ns ms e);
        brought = h.0.brought ∙ message_alike ds es (carried_in x.note);
        named = h.0.named;
        asking = h.0.asking;
      },
      frames_alike ds es u xs ks (others_same (shown_note es u x.note) (shown_note ds u x.note) ns ms e) h.1,
    )
frames_alike ds es u [] (k ∷ ks) e h = absurd h
frames_alike ds es u (x ∷ xs) [] e h = absurd h

-- ---- each way stands once

abbrev pub Apart : List Placed → Type 0
Apart [] = Unit {0}
Apart (p ∷ ps) = Clear p.from p.to ps × Apart ps

abbrev pub AllFrom : ℕ → List Placed → Type 0
AllFrom v [] = Unit {0}
AllFrom v (p ∷ ps) = (p.from ≡ v) × AllFrom v ps

apart_or : (b : Bool) (p : Placed) (ps : List Placed) → Clear p.from p.to ps → Apart ps → Apart (elim b [ true ↦ ps | false ↦ p ∷ ps ])
apart_or true p ps h k = k
apart_or false p ps h k = (h, k)

row_apart : (v u : ℕ) (r : List Lane) → Apart (placed_to v u r)
unfolding placed_to
row_apart v u [] = tt
row_apart v u (l ∷ ls) = apart_or (v == u) (record { from = v; to = u; lane = l }) (placed_to v (suc u) ls) (row_ahead v u v (suc u) ls (omega arith)) (row_apart v (suc u) ls)

from_or : (v : ℕ) (b : Bool) (p : Placed) (ps : List Placed) → p.from ≡ v → AllFrom v ps → AllFrom v (elim b [ true ↦ ps | false ↦ p ∷ ps ])
from_or v true p ps h k = k
from_or v false p ps h k = (h, k)

row_from : (v u : ℕ) (r : List Lane) → AllFrom v (placed_to v u r)
unfolding placed_to
row_from v u [] = tt
row_from v u (l ∷ ls) = from_or v (v == u) (record { from = v; to = u; lane = l }) (placed_to v (suc u) ls) refl (row_from v (suc u) ls)

apart_join : (v : ℕ) (rs : List (List Lane)) (ps : List Placed) → AllFrom v ps → Apart ps → Apart (placed_from (suc v) rs) → Apart (ps ++ placed_from (suc v) rs)
apart_join v rs [] f h k = k
apart_join v rs (p ∷ ps) f h k =
    (clear_join p.from p.to ps (placed_from (suc v) rs) h.0 (rows_ahead p.from p.to (suc v) rs (let e = f.0 in omega arith)), apart_join v rs ps f.1 h.1 k)

rows_apart : (v : ℕ) (rows : List (List Lane)) → Apart (placed_from v rows)
unfolding placed_from
rows_apart v [] = tt
rows_apart v (r ∷ rs) = apart_join v rs (placed_to v zero r) (row_from v zero r) (row_apart v zero r) (rows_apart (suc v) rs)

-- ---- each way is found

here : (l : Way) → is_way l.from l.to l ≡ true
unfolding is_way
here l = chosen (l.from == l.from) (l.to == l.to) false (eq-eqb l.from l.from refl) ∙ eq-eqb l.to l.to refl

none_of : (ds : List ℕ) (v u : ℕ) (o : Option Way) (q : Option Placed) → MayStand ds v u o q → q ≡ None → o ≡ None
none_of ds v u None None h e = refl
none_of ds v u (Some l) (Some p) h e = cc
none_of ds v u None (Some p) h e = absurd h
none_of ds v u (Some l) None h e = absurd h

-- what is found behind the first is not the first
behind_or : (ds : List ℕ) (v u : ℕ) (b : Bool) (l m : Way) (p : Placed) (ls : List Way) (ps : List Placed) → is_way v u l ≡ b → IsWay ds l p → AreWays ds ls ps → Clear p.from p.to ps → way_at v u ls ≡ Some m
    → elim b [ true ↦ Some l | false ↦ way_at v u ls ] ≡ Some m
behind_or ds v u false l m p ls ps e h hs c f = f
behind_or ds v u true l m p ls ps e h hs c f =
    let i = ends v u l e in
    let d : Clear v u ps = subst (λ (w : ℕ). Clear w u ps) (h.sender ∙ i.0) (subst (λ (w : ℕ). Clear p.from w ps) (h.receiver ∙ i.1) c) in
    let n : way_at v u ls ≡ None = none_of ds v u (way_at v u ls) (placed_at v u ps) (finds ds v u ls ps hs) (at_clear v u ps d) in
    let t : ◌≡◌ {A = Option Way} None (Some m) = sym n ∙ f in cc

abbrev pub AllAlike : List ℕ → List ℕ → List Way → Type 0
AllAlike ds es ls = (v u : ℕ) (l : Way) → way_at v u ls ≡ Some l → Alike ds es u l.frames

ways_alike : (ds es : List ℕ) (ls : List Way) (ps : List Placed) → Apart ps → AllAlike ds es ls → AreWays ds ls ps → AreWays es ls ps
unfolding way_at
ways_alike ds es [] [] a e h = tt
ways_alike ds es (l ∷ ls) (p ∷ ps) a e h = (
  record {
    sender = h.0.sender;
    receiver = h.0.receiver;
    is_cut = h.0.is_cut;
    under_way = frames_alike ds es l.to l.frames p.lane.frames (e l.from l.to l (chosen (is_way l.from l.to l) (Some l) (way_at l.from l.to ls) (here l))) h.0.under_way;
  },
  ways_alike ds es ls ps a.1 (λ v u m i. e v u m (behind_or ds v u (is_way v u l) l m p ls ps refl h.0 h.1 a.0 i)) h.1,
)
ways_alike ds es [] (p ∷ ps) a e h = absurd h
ways_alike ds es (l ∷ ls) [] a e h = absurd h

pub draws_stand : DrawsStand
draws_stand ds es n ls ways e h = record { ways = ways_alike ds es ls (placed_from zero ways) (rows_apart zero ways) e h.ways; senders = h.senders; receivers = h.receivers; unused = h.unused }
