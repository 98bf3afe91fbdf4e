-- One turn of the code is one of the machine.
use Rattle.std.proofs.Common.{◌≡◌, ◌<◌, ℕ, zero, suc, List, [], ◌∷◌, ◌++◌, Bool, true, false, cond, Option, Some, None, refl, sym, ◌∙◌, subst, ap, append_assoc, length, slice_get, Vec, Global, ◌+◌, max, min, arith}
use Rattle.def_syntax.specs.declared.token.TokenKind.{TokenKind}
use Rattle.def_syntax.specs.declared.syntax.Word.{Word}
use Rattle.def_syntax.specs.declared.syntax.Shape.{Shape}
use Rattle.def_syntax.specs.declared.syntax.Line.{Line}
use Rattle.def_syntax.specs.declared.syntax.Tail.{Tail}
use Rattle.def_syntax.specs.declared.syntax.Tail.TheVariants as tails
use Rattle.def_syntax.specs.declared.place.Place.{Place}
use Rattle.def_syntax.specs.declared.place.Move.{Move}
use Rattle.def_syntax.specs.declared.place.Move.TheVariants.{Takes, Reads, Wraps}
use Rattle.def_syntax.specs.declared.place.Ending.{Ending}
use Rattle.def_syntax.specs.declared.place.Ending.TheVariants as endings
use Rattle.ev_parser.specs.declared.draft.Part.{Part}
use Rattle.ev_parser.specs.declared.draft.Part.TheVariants as piece
use Rattle.ev_parser.specs.declared.draft.Node.{Node}
use Rattle.ev_parser.specs.declared.draft.Stand.{Stand}
use Rattle.ev_parser.specs.declared.draft.Waiting.{Waiting}
use Rattle.ev_parser.specs.declared.draft.Waiting.TheVariants as waits
use Rattle.ev_parser.specs.declared.draft.Turn.{Turn}
use Rattle.ev_parser.specs.declared.draft.Turn.TheVariants as turns
use Rattle.def_syntax.specs.Grammar.{Tree, Trees, node, none, more, leaf, moves, ending, is_stop, shape_of, word_of, parts_of, more_at, again, begun, lead, wrapped}
use Rattle.def_syntax.specs.Machine.{Frame, within, after, Begun, begin, pick, Outcome, ended, stuck, opened, ends_before, follow_move, step_in, State, at, settle, pop, step, tail_step, finish, end_in, end_frames, and_then}
use Rattle.def_syntax.specs.Heights.{weight, height, tallest}
use Rattle.ev_parser.specs.Draft.{Shows, ShowsAll, StandBefore, ShowsStand, ShowsFrame, ShowsFrames, ShowsState, Opened, IsOpened, shape_before, end_shape, Comes, IsTaken, IsPut, lead_part, IsAdded, IsWrapped, IsBegun, begun_height, IsBegunStand, Ends, Ended}
use Rattle.ev_parse_table.specs.Table.{capped}

-- the machine's step, by the move that the token begins
pub step_by : (p q : Place) (f : Word) (fs : Trees) (frs : List Frame) (t : Word) (o : Option Move) → o ≡ pick (moves p) t.kind → p ≡ q → step (at q f fs frs) t ≡ settle (follow_move o (ending q) f fs t) frs (λ u. pop frs u t)
unfolding step step_in
step_by p q f fs frs t o e d = ap (λ (x : Option Move). settle (follow_move x (ending q) f fs t) frs (λ u. pop frs u t)) (sym (e ∙ ap (λ (x : Place). pick (moves x) t.kind) d))

pub turn_takes : (ns : List Node) (ws : List Waiting) (st r : Stand) (t : Word) (k : TokenKind) (q : Place) (o : Option State) → Some (Takes k q) ≡ pick (moves st.place) t.kind → IsTaken st q t r → Comes ns ws t o (turns.At st) → Comes ns ws t o (turns.Moved r)
turn_takes ns ws st r t k q o e x h = go h.0 h.1 h.2
  where
    go : (s : State) → ShowsState ns ws st s → step s t ≡ o → Comes ns ws t o (turns.Moved r)
    go (at p f fs frs) w d = (at q f (leaf fs t) frs, ((x.0, x.1 ∙ w.0.1, (st.parts.items, x.2, w.0.2), x.3 ∙ w.0.3), w.1), sym (step_by st.place p f fs frs t (Some (Takes k q)) e w.0.0) ∙ d)

opened_nowhere : (b : Begun) (t : Word) (fr : Frame) (ws vs : List Waiting) → Opened b None ws vs → opened b t fr ≡ stuck
opened_nowhere None t fr ws vs h = refl
opened_nowhere (Some b) t fr ws vs h = absurd h

pub turn_unopened : (ns : List Node) (ws us vs : List Waiting) (st : Stand) (t : Word) (l : Line) (q : Place) (o : Option State) → Some (Reads l q) ≡ pick (moves st.place) t.kind → Opened (begin l t.kind) None us vs → Comes ns ws t o (turns.At st) → None ≡ o
turn_unopened ns ws us vs st t l q o e op h = go h.0 h.1 h.2
  where
    go : (s : State) → ShowsState ns ws st s → step s t ≡ o → None ≡ o
    go (at p f fs frs) w d = sym (step_by st.place p f fs frs t (Some (Reads l q)) e w.0.0 ∙ ap (λ (x : Outcome). settle x frs (λ u. pop frs u t)) (opened_nowhere (begin l t.kind) t (within q f fs) us vs op)) ∙ d

opened_there : (b : Begun) (i : Place) (ns : List Node) (us vs : List Waiting) (t : Word) (fr : Frame) (frs : List Frame) (on : Tree → Option State) (r : Stand) → Opened b (Some i) us vs → ShowsFrames ns us (fr ∷ frs) → r.place ≡ i → r.first ≡ t → r.parts.items ≡ [] → r.tallest ≡ 0 → (s : State) × ShowsState ns vs r s × (Some s ≡ settle (opened b t fr) frs on)
opened_there None i ns us vs t fr frs on r h w a b c d = absurd h
opened_there (Some z) i ns us vs t fr frs on r h w a b c d = (
  at z.0 t none ((z.1 ++ fr ∷ []) ++ frs),
  ((a ∙ h.0, b, c, d), subst (λ (x : List Frame). ShowsFrames ns vs x) (sym (append_assoc z.1 (fr ∷ []) frs)) (h.1 ns (fr ∷ frs) w)),
  refl,
)

waiting : Stand → Place → Stand
waiting st q = record { place = q; first = st.first; parts = st.parts; tallest = st.tallest }

pub turn_open : (ns : List Node) (ws vs : List Waiting) (st : Stand) (t : Word) (l : Line) (q : Place) (r : Turn) (o : Option State) → Some (Reads l q) ≡ pick (moves st.place) t.kind → IsOpened ws vs st l q t r → Comes ns ws t o (turns.At st) → Comes ns vs t o r
unfolding waiting
turn_open ns ws vs st t l q (turns.Moved r) o e x h = go h.0 h.1 h.2
  where
    go : (s : State) → ShowsState ns ws st s → step s t ≡ o → Comes ns vs t o (turns.Moved r)
    go (at p f fs frs) w d =
        let z = opened_there (begin l t.kind) x.0 ns (ws ++ waits.Inside (waiting st q) ∷ []) vs t (within q f fs) frs (λ u. pop frs u t) r x.1 (ws, waits.Inside (waiting st q), refl, (refl, w.0.1, w.0.2, w.0.3), w.1) x.2 x.3 x.4 x.5 in
        (z.0, z.1, z.2 ∙ sym (step_by st.place p f fs frs t (Some (Reads l q)) e w.0.0) ∙ d)
turn_open ns ws vs st t l q turns.Failed o e x h = turn_unopened ns ws (ws ++ waits.Inside (waiting st q) ∷ []) vs st t l q o e x h
turn_open ns ws vs st t l q (turns.At r) o e x h = absurd x
turn_open ns ws vs st t l q (turns.Have i) o e x h = absurd x

-- a move of the code is one of the grammar
pub picked_as : (m n : Move) (ms : List Move) (q : Place) (k : TokenKind) → Some m ≡ pick ms k → ms ≡ moves q → m ≡ n → Some n ≡ pick (moves q) k
picked_as m n ms q k e d i = ap (λ (x : Move). Some x) (sym i) ∙ e ∙ ap (λ (x : List Move). pick x k) d

pub none_picked : (ms : List Move) (q : Place) (k : TokenKind) → None ≡ pick ms k → ms ≡ moves q → None ≡ pick (moves q) k
none_picked ms q k e d = e ∙ ap (λ (x : List Move). pick x k) d

slice_get_more : (ns : List Node) (i : ℕ) (n x : Node) → slice_get ns i ≡ Some n → slice_get (ns ++ x ∷ []) i ≡ Some n
slice_get_more [] i n x e = cc
slice_get_more (m ∷ ns) zero n x e = e
slice_get_more (m ∷ ns) (suc i) n x e = slice_get_more ns i n x e

slice_get_last : (ns : List Node) (x : Node) → slice_get (ns ++ x ∷ []) (length ns) ≡ Some x
slice_get_last [] x = refl
slice_get_last (m ∷ ns) x = slice_get_last ns x

mutual
  shows_more : (ns : List Node) (x : Node) (w : Tree) (i : ℕ) → Shows ns i w → Shows (ns ++ x ∷ []) i w
  shows_more ns x (node s t ts) i h = (h.0, slice_get_more ns i h.0 x h.1, h.2, h.3, shows_all_more ns x ts h.0.parts.items h.4, h.5, h.6)

  shows_all_more : (ns : List Node) (x : Node) (ts : Trees) (is : List Part) → ShowsAll ns is ts → ShowsAll (ns ++ x ∷ []) is ts
  shows_all_more ns x none is h = h
  shows_all_more ns x (more ts t) is h = (h.0, h.1, h.2, shows_all_more ns x ts h.0 h.3, shows_more ns x t h.1 h.4)
  shows_all_more ns x (leaf ts t) is h = (h.0, h.1, shows_all_more ns x ts h.0 h.2)

shows_frame_more : (ns : List Node) (x : Node) (w : Waiting) (fr : Frame) → ShowsFrame ns w fr → ShowsFrame (ns ++ x ∷ []) w fr
shows_frame_more ns x (waits.Inside st) (within q f fs) h = (h.0, h.1, shows_all_more ns x fs st.parts.items h.2, h.3)
shows_frame_more ns x (waits.After c) (after d) h = h
shows_frame_more ns x (waits.Inside st) (after d) h = absurd h
shows_frame_more ns x (waits.After c) (within q f fs) h = absurd h

shows_frames_more : (ns : List Node) (x : Node) (ws : List Waiting) (frs : List Frame) → ShowsFrames ns ws frs → ShowsFrames (ns ++ x ∷ []) ws frs
shows_frames_more ns x ws [] h = h
shows_frames_more ns x ws (fr ∷ frs) h = (h.0, h.1, h.2, shows_frame_more ns x h.1 fr h.3, shows_frames_more ns x h.0 frs h.4)

stands_there : (ns : List Node) (i : ℕ) (n : Node) → slice_get ns i ≡ Some n → i < length ns
stands_there [] i n e = cc
stands_there (m ∷ ns) zero n e = omega arith
stands_there (m ∷ ns) (suc i) n e = let k = stands_there ns i n e in omega arith

shown_there : (ns : List Node) (i : ℕ) (w : Tree) → Shows ns i w → i < length ns
shown_there ns i (node s t ts) h = stands_there ns i h.0 h.1

before_tree : (i j : ℕ) (is : List Part) → StandBefore i is → j < i → StandBefore i (is ++ piece.Tree j ∷ [])
before_tree i j [] h k = (k, tt)
before_tree i j (piece.Token t ∷ is) h k = before_tree i j is h k
before_tree i j (piece.Tree m ∷ is) h k = (h.0, before_tree i j is h.1 k)

before_token : (i : ℕ) (t : Word) (is : List Part) → StandBefore i is → StandBefore i (is ++ piece.Token t ∷ [])
before_token i t [] h = tt
before_token i t (piece.Token u ∷ is) h = before_token i t is h
before_token i t (piece.Tree m ∷ is) h = (h.0, before_token i t is h.1)

-- what is shown stands before the end
all_before : (ns : List Node) (ts : Trees) (is : List Part) → ShowsAll ns is ts → StandBefore (length ns) is
all_before ns none is h = subst (λ (x : List Part). StandBefore (length ns) x) (sym h) tt
all_before ns (more ts t) is h =
    subst (λ (x : List Part). StandBefore (length ns) x) (sym h.2) (before_tree (length ns) h.1 h.0 (all_before ns ts h.0 h.3) (shown_there ns h.1 t h.4))
all_before ns (leaf ts t) is h = subst (λ (x : List Part). StandBefore (length ns) x) (sym h.1) (before_token (length ns) t h.0 (all_before ns ts h.0 h.2))

-- the node that was added shows the tree that it ends
shows_added : (ns ms : List Node) (st : Stand) (s : Shape) (f g : Word) (fs : Trees) (i : ℕ) → IsAdded ns ms s g st i → g ≡ f → ShowsAll ns st.parts.items fs → st.tallest ≡ capped (tallest fs) → Shows ms i (node s f fs)
shows_added ns ms st s f g fs i a e h k =
    let n : Node = a.0 in
    let here : Shows (ns ++ n ∷ []) (length ns) (node s f fs) = (n, slice_get_last ns n, a.1.0, a.1.1 ∙ e, subst (λ (ps : Vec Part Global). ShowsAll (ns ++ n ∷ []) ps.items fs) (sym a.1.2) (shows_all_more ns n fs st.parts.items h), a.1.3 ∙ k, subst (λ (ps : Vec Part Global). StandBefore (length ns) ps.items) (sym a.1.2) (all_before ns fs st.parts.items h)) in
    subst (λ (m : List Node). Shows m i (node s f fs)) (sym a.2) (subst (λ (j : ℕ). Shows (ns ++ n ∷ []) j (node s f fs)) (sym a.3) here)

frames_added : (ns ms : List Node) (st : Stand) (s : Shape) (g : Word) (i : ℕ) (ws : List Waiting) (frs : List Frame) → IsAdded ns ms s g st i → ShowsFrames ns ws frs → ShowsFrames ms ws frs
frames_added ns ms st s g i ws frs a h = subst (λ (m : List Node). ShowsFrames m ws frs) (sym a.2) (shows_frames_more ns a.0 ws frs h)

-- the node ends before the token
abbrev pub EndsAt : Place → Word → Shape → Type 0
EndsAt q t s = (None ≡ pick (moves q) t.kind) × ((f : Word) (fs : Trees) → ends_before (ending q) f fs t ≡ ended (node s f fs))

some_shape : (a b : Shape) → Some a ≡ Some b → a ≡ b
some_shape a b e = cc

stop_some : (b : Bool) (s x : Shape) (f : Word) (fs : Trees) → Some s ≡ cond b (Some x) None → cond b (ended (node x f fs)) stuck ≡ ended (node s f fs)
stop_some true s x f fs e = ap (λ (y : Shape). ended (node y f fs)) (sym (some_shape s x e))
stop_some false s x f fs e = cc

stop_none : (b : Bool) (x : Shape) (f : Word) (fs : Trees) → None ≡ cond b (Some x) None → cond b (ended (node x f fs)) stuck ≡ stuck
stop_none true x f fs e = cc
stop_none false x f fs e = refl

ended_before : (e : Ending) (t : Word) (s : Shape) → Some s ≡ shape_before e t.kind → (f : Word) (fs : Trees) → ends_before e f fs t ≡ ended (node s f fs)
ended_before endings.Never t s h = λ f fs. cc
ended_before (endings.Ends x) t s h = λ f fs. ap (λ (y : Shape). ended (node y f fs)) (sym (some_shape s x h))
ended_before (endings.BeforeStop x) t s h = λ f fs. stop_some (is_stop t.kind) s x f fs h

stuck_before : (e : Ending) (t : Word) → None ≡ shape_before e t.kind → (f : Word) (fs : Trees) → ends_before e f fs t ≡ stuck
stuck_before endings.Never t h = λ f fs. refl
stuck_before (endings.Ends x) t h = λ f fs. cc
stuck_before (endings.BeforeStop x) t h = λ f fs. stop_none (is_stop t.kind) x f fs h

pub ends_at : (q : Place) (t : Word) (s : Shape) → None ≡ pick (moves q) t.kind → Some s ≡ shape_before (ending q) t.kind → EndsAt q t s
ends_at q t s n e = (n, ended_before (ending q) t s e)

-- the node cannot end before the token
abbrev pub StuckAt : Place → Word → Type 0
StuckAt q t = (None ≡ pick (moves q) t.kind) × ((f : Word) (fs : Trees) → ends_before (ending q) f fs t ≡ stuck)

pub stuck_at : (q : Place) (t : Word) → None ≡ pick (moves q) t.kind → None ≡ shape_before (ending q) t.kind → StuckAt q t
stuck_at q t n e = (n, stuck_before (ending q) t e)

pub turn_stuck : (ns : List Node) (ws : List Waiting) (st : Stand) (t : Word) (o : Option State) → StuckAt st.place t → Comes ns ws t o (turns.At st) → None ≡ o
turn_stuck ns ws st t o e h = go h.0 h.1 h.2
  where
    go : (s : State) → ShowsState ns ws st s → step s t ≡ o → None ≡ o
    go (at p f fs frs) w d = sym (step_by st.place p f fs frs t None e.0 w.0.0 ∙ ap (λ (x : Outcome). settle x frs (λ u. pop frs u t)) (ap (λ (x : Place). ends_before (ending x) f fs t) (sym w.0.0) ∙ e.1 f fs)) ∙ d

pub turn_ends : (ns ms : List Node) (ws : List Waiting) (st : Stand) (t : Word) (s : Shape) (i : ℕ) (o : Option State) → EndsAt st.place t s → IsAdded ns ms s st.first st i → Comes ns ws t o (turns.At st) → Comes ms ws t o (turns.Have i)
turn_ends ns ms ws st t s i o e a h = go h.0 h.1 h.2
  where
    go : (z : State) → ShowsState ns ws st z → step z t ≡ o → Comes ms ws t o (turns.Have i)
    go (at p f fs frs) w d = (
      node s f fs,
      frs,
      shows_added ns ms st s f st.first fs i a w.0.1 w.0.2 w.0.3,
      frames_added ns ms st s st.first i ws frs a w.1,
      sym (step_by st.place p f fs frs t None e.0 w.0.0 ∙ ap (λ (x : Outcome). settle x frs (λ u. pop frs u t)) (ap (λ (x : Place). ends_before (ending x) f fs t) (sym w.0.0) ∙ e.1 f fs)) ∙ d,
    )

-- the first part of the code is the leading token
lead_more : (ps : List Part) (x y : Part) → lead_part ((ps ++ x ∷ []) ++ y ∷ []) ≡ lead_part (ps ++ x ∷ [])
lead_more [] (piece.Token t) y = refl
lead_more [] (piece.Tree i) y = refl
lead_more (piece.Token t ∷ ps) x y = refl
lead_more (piece.Tree i ∷ ps) x y = refl

lead_again : (js is : List Part) (x y : Part) (ks : List Part) → js ≡ ks ++ x ∷ [] → is ≡ js ++ y ∷ [] → lead_part is ≡ lead_part js
lead_again js is x y ks e d = ap lead_part d ∙ ap (λ (z : List Part). lead_part (z ++ y ∷ [])) e ∙ lead_more ks x y ∙ ap lead_part (sym e)

lead_first : (is : List Part) (y : Part) → is ≡ [] ++ y ∷ [] → lead_part is ≡ lead_part (y ∷ [])
lead_first is y e = ap lead_part e

lead_shows : (ns : List Node) (is : List Part) (ts : Trees) → ShowsAll ns is ts → lead_part is ≡ lead ts
lead_shows ns is none h = ap lead_part h
lead_shows ns is (leaf none t) h = ap lead_part (h.1 ∙ ap (λ (js : List Part). js ++ piece.Token t ∷ []) h.2)
lead_shows ns is (leaf (leaf ts u) t) h = lead_again h.0 is (piece.Token u) (piece.Token t) h.2.0 h.2.1 h.1 ∙ lead_shows ns h.0 (leaf ts u) h.2
lead_shows ns is (leaf (more ts v) t) h = lead_again h.0 is (piece.Tree h.2.1) (piece.Token t) h.2.0 h.2.2 h.1 ∙ lead_shows ns h.0 (more ts v) h.2
lead_shows ns is (more none v) h = ap lead_part (h.2 ∙ ap (λ (js : List Part). js ++ piece.Tree h.1 ∷ []) h.3)
lead_shows ns is (more (leaf ts u) v) h = lead_again h.0 is (piece.Token u) (piece.Tree h.1) h.3.0 h.3.1 h.2 ∙ lead_shows ns h.0 (leaf ts u) h.3
lead_shows ns is (more (more ts u) v) h = lead_again h.0 is (piece.Tree h.3.1) (piece.Tree h.1) h.3.0 h.3.2 h.2 ∙ lead_shows ns h.0 (more ts u) h.3

cap_weight : (w k t : ℕ) → k ≡ min t 61 → min (w + k) 61 ≡ min (max 0 (w + t)) 61
cap_weight w k t e = omega arith

pub turn_wraps : (ns ms : List Node) (ws : List Waiting) (st r : Stand) (t g : Word) (k : TokenKind) (s : Shape) (q : Place) (i : ℕ) (o : Option State) → Some (Wraps k s q) ≡ pick (moves st.place) t.kind → g ≡ lead_part st.parts.items → IsAdded ns ms s g st i → IsWrapped i st.first st.tallest s q t r → Comes ns ws t o (turns.At st) → Comes ms ws t o (turns.Moved r)
turn_wraps ns ms ws st r t g k s q i o e l a x h = go h.0 h.1 h.2
  where
    go : (z : State) → ShowsState ns ws st z → step z t ≡ o → Comes ms ws t o (turns.Moved r)
    go (at p f fs frs) w d =
        let shown : Shows ms i (node s (lead fs) fs) = shows_added ns ms st s (lead fs) g fs i a (l ∙ lead_shows ns st.parts.items fs w.0.2) w.0.2 w.0.3 in (
          at q f (leaf (wrapped s fs) t) frs,
          ((x.0, x.1 ∙ w.0.1, (piece.Tree i ∷ [], x.2, ([], i, refl, refl, shown)), x.3 ∙ cap_weight (weight s) st.tallest (tallest fs) w.0.3), frames_added ns ms st s g i ws frs a w.1),
          sym (step_by st.place p f fs frs t (Some (Wraps k s q)) e w.0.0) ∙ d,
        )

-- lists of waiting frames that end alike
snoc_same : (a b : List Waiting) (x y : Waiting) → (a ++ x ∷ []) ≡ (b ++ y ∷ []) → (a ≡ b) × (x ≡ y)
snoc_same [] [] x y e = (refl, (let k : x ≡ y = cc in k))
snoc_same [] (c ∷ []) x y e = cc
snoc_same [] (c ∷ (d ∷ b)) x y e = cc
snoc_same (c ∷ []) [] x y e = cc
snoc_same (c ∷ (d ∷ a)) [] x y e = cc
snoc_same (c ∷ a) (d ∷ b) x y e =
    let k : (a ++ x ∷ []) ≡ (b ++ y ∷ []) = cc in
    let h : c ≡ d = cc in
    let r = snoc_same a b x y k in
    ((let z : (c ∷ a) ≡ (d ∷ b) = cc (r.0, h) in z), r.1)

no_snoc : (a : List Waiting) (x : Waiting) → [] ≡ a ++ x ∷ [] → ⊥
no_snoc [] x e = cc
no_snoc (c ∷ a) x e = cc

-- the topmost frame is that of the code
abbrev Top : List Node → List Waiting → Waiting → List Frame → Type 0
Top ns vs w [] = ⊥
Top ns vs w (fr ∷ frs) = ShowsFrame ns w fr × ShowsFrames ns vs frs

top_is : (ns : List Node) (ws vs : List Waiting) (w : Waiting) (frs : List Frame) → ws ≡ vs ++ w ∷ [] → ShowsFrames ns ws frs → Top ns vs w frs
top_is ns ws vs w [] e h = no_snoc vs w (sym h ∙ e)
top_is ns ws vs w (fr ∷ frs) e h =
    let r = snoc_same h.0 vs h.1 w (sym h.2 ∙ e) in
    (subst (λ (x : Waiting). ShowsFrame ns x fr) r.1 h.3, subst (λ (x : List Waiting). ShowsFrames ns x frs) r.0 h.4)

pub have_none : (ns : List Node) (ws : List Waiting) (t : Word) (i : ℕ) (o : Option State) → ws ≡ [] → Comes ns ws t o (turns.Have i) → None ≡ o
unfolding pop
have_none ns ws t i o e h = go h.1 h.3 h.4
  where
    go : (frs : List Frame) → ShowsFrames ns ws frs → pop frs h.0 t ≡ o → None ≡ o
    go [] w d = d
    go (fr ∷ frs) w d = absurd (no_snoc w.0 w.1 (sym e ∙ w.2))

some_node : (m n : Node) → Some m ≡ Some n → m ≡ n
some_node m n e = cc

-- what the node says of its tree
shows_node : (ns : List Node) (i : ℕ) (v : Tree) (n : Node) → slice_get ns i ≡ Some n → Shows ns i v → (n.shape ≡ shape_of v) × (n.first ≡ word_of v) × ShowsAll ns n.parts.items (parts_of v) × (n.tallest ≡ capped (tallest (parts_of v)))
shows_node ns i (node s t ts) n e h =
    let k : h.0 ≡ n = some_node h.0 n (sym h.1 ∙ e) in
    subst (λ (m : Node). (m.shape ≡ s) × (m.first ≡ t) × ShowsAll ns m.parts.items ts × (m.tallest ≡ capped (tallest ts))) k (h.2, h.3, h.4, h.5)

no_node : (ns : List Node) (i : ℕ) (v : Tree) → slice_get ns i ≡ None → Shows ns i v → ⊥
no_node ns i (node s f ts) e w = let k : None ≡ Some w.0 = sym e ∙ w.1 in cc

cap_node : (w k t : ℕ) → k ≡ min t 61 → min (w + k) 61 ≡ min (w + t) 61
cap_node w k t e = omega arith

-- the height of a node
node_high : (ns : List Node) (i : ℕ) (v : Tree) (n : Node) → slice_get ns i ≡ Some n → Shows ns i v → capped (weight n.shape + n.tallest) ≡ capped (height v)
node_high ns i (node s f ts) n e h =
    let x = shows_node ns i (node s f ts) n e h in
    ap (λ (y : Shape). capped (weight y + n.tallest)) x.0 ∙ cap_node (weight s) n.tallest (tallest ts) x.3

cap_max : (a b x y : ℕ) → a ≡ min x 61 → b ≡ min y 61 → max a b ≡ min (max x y) 61
cap_max a b x y e d = omega arith

-- the stand with one more tree
stand_put : (ns : List Node) (st r : Stand) (i : ℕ) (q : Place) (f : Word) (fs : Trees) (v : Tree) → IsPut ns st i (turns.At r) → ShowsStand ns st q f fs → Shows ns i v → ShowsStand ns r q f (more fs v)
stand_put ns st r i q f fs v p w h =
    (p.2 ∙ w.0, p.3 ∙ w.1, (st.parts.items, i, p.4, w.2, h), p.5 ∙ cap_max st.tallest (capped (weight p.0.shape + p.0.tallest)) (tallest fs) (height v) w.3 (node_high ns i v p.0 p.1 h))

pub have_inside : (ns : List Node) (ws vs : List Waiting) (t : Word) (i : ℕ) (st : Stand) (r : Turn) (o : Option State) → ws ≡ vs ++ waits.Inside st ∷ [] → IsPut ns st i r → Comes ns ws t o (turns.Have i) → Comes ns vs t o r
unfolding pop step
have_inside ns ws vs t i st (turns.At r) o e p h = go h.1 (top_is ns ws vs (waits.Inside st) h.1 e h.3) h.4
  where
    go : (frs : List Frame) → Top ns vs (waits.Inside st) frs → pop frs h.0 t ≡ o → Comes ns vs t o (turns.At r)
    go [] w d = absurd w
    go (within q f fs ∷ frs) w d = (at q f (more fs h.0) frs, (stand_put ns st r i q f fs h.0 p w.0 h.2, w.1), d)
    go (after c ∷ frs) w d = absurd w.0
have_inside ns ws vs t i st turns.Failed o e p h = absurd (no_node ns i h.0 p h.2)
have_inside ns ws vs t i st (turns.Have j) o e p h = absurd p
have_inside ns ws vs t i st (turns.Moved r) o e p h = absurd p

pub have_missing : (ns : List Node) (ws : List Waiting) (t : Word) (i : ℕ) (o : Option State) → slice_get ns i ≡ None → Comes ns ws t o (turns.Have i) → None ≡ o
have_missing ns ws t i o e h = absurd (no_node ns i h.0 e h.2)

pub have_ends : (ns : List Node) (ws vs : List Waiting) (t : Word) (i : ℕ) (n : Node) (c : Tail) (o : Option State) → ws ≡ vs ++ waits.After c ∷ [] → slice_get ns i ≡ Some n → None ≡ more_at c n.shape t.kind → Comes ns ws t o (turns.Have i) → Comes ns vs t o (turns.Have i)
unfolding pop
have_ends ns ws vs t i n c o e g m h = go h.1 (top_is ns ws vs (waits.After c) h.1 e h.3) h.4
  where
    go : (frs : List Frame) → Top ns vs (waits.After c) frs → pop frs h.0 t ≡ o → Comes ns vs t o (turns.Have i)
    go [] w d = absurd w
    go (within q f fs ∷ frs) w d = absurd w.0
    go (after k ∷ frs) w d =
        let is : more_at k (shape_of h.0) t.kind ≡ None = ap (λ (x : Tail). more_at x (shape_of h.0) t.kind) (sym w.0) ∙ ap (λ (x : Shape). more_at c x t.kind) (sym (shows_node ns i h.0 n g h.2).0) ∙ sym m in
        (h.0, frs, h.2, w.1, sym (ap (λ (x : Option Place). settle (tail_step x k h.0 t) frs (λ u. pop frs u t)) is) ∙ d)

shows_begun : (ns : List Node) (c : Tail) (i : ℕ) (n : Node) (t : Word) (is : List Part) (v : Tree) → IsBegun c i n t is → ShowsAll ns n.parts.items (parts_of v) → Shows ns i v → ShowsAll ns is (begun c v t)
shows_begun ns tails.Becomes i n t is v e a h = (n.parts.items, e, a)
shows_begun ns tails.BecomesBeforeBlock i n t is v e a h = (n.parts.items, e, a)
shows_begun ns _ i n t is v e a h = (piece.Tree i ∷ [], e, ([], i, refl, refl, h))

max_zero : (x : ℕ) → x ≡ max 0 x
max_zero x = omega arith

begun_tall : (ns : List Node) (c : Tail) (i : ℕ) (n : Node) (t : Word) (v : Tree) → slice_get ns i ≡ Some n → Shows ns i v → begun_height c n ≡ capped (tallest (begun c v t))
begun_tall ns tails.Becomes i n t v g h = (shows_node ns i v n g h).3
begun_tall ns tails.BecomesBeforeBlock i n t v g h = (shows_node ns i v n g h).3
begun_tall ns _ i n t v g h = node_high ns i v n g h ∙ ap capped (max_zero (height v))

pub have_goes : (ns : List Node) (ws vs us : List Waiting) (t : Word) (i : ℕ) (n : Node) (c d : Tail) (q : Place) (r : Stand) (o : Option State) → ws ≡ vs ++ waits.After c ∷ [] → slice_get ns i ≡ Some n → Some q ≡ more_at c n.shape t.kind → IsBegunStand q c i n t r → us ≡ vs ++ waits.After d ∷ [] → d ≡ again c → Comes ns ws t o (turns.Have i) → Comes ns us t o (turns.Moved r)
unfolding pop
have_goes ns ws vs us t i n c d q r o e g m b u a h = go h.1 (top_is ns ws vs (waits.After c) h.1 e h.3) h.4
  where
    go : (frs : List Frame) → Top ns vs (waits.After c) frs → pop frs h.0 t ≡ o → Comes ns us t o (turns.Moved r)
    go [] w z = absurd w
    go (within p f fs ∷ frs) w z = absurd w.0
    go (after k ∷ frs) w z =
        let x = shows_node ns i h.0 n g h.2 in
        let is : more_at k (shape_of h.0) t.kind ≡ Some q = ap (λ (x : Tail). more_at x (shape_of h.0) t.kind) (sym w.0) ∙ ap (λ (x : Shape). more_at c x t.kind) (sym x.0) ∙ sym m in
        let shown : ShowsAll ns r.parts.items (begun c h.0 t) = shows_begun ns c i n t r.parts.items h.0 b.2 x.2 h.2 in
        let tall : r.tallest ≡ capped (tallest (begun c h.0 t)) = b.3 ∙ begun_tall ns c i n t h.0 g h.2 in (
          at q (word_of h.0) (begun k h.0 t) (after (again k) ∷ frs),
          ((b.0, b.1 ∙ x.1, subst (λ (y : Tail). ShowsAll ns r.parts.items (begun y h.0 t)) w.0 shown, subst (λ (y : Tail). r.tallest ≡ capped (tallest (begun y h.0 t))) w.0 tall), (vs, waits.After d, u, a ∙ ap again w.0, w.1)),
          sym (ap (λ (x : Option Place). settle (tail_step x k h.0 t) frs (λ u. pop frs u t)) is) ∙ z,
        )

-- the end of a node, by what may end at the place
finish_by : (p q : Place) (f : Word) (fs : Trees) (frs : List Frame) (e : Ending) → e ≡ ending p → p ≡ q → finish (at q f fs frs) ≡ and_then (end_in e f fs) (λ u. end_frames frs u)
unfolding finish
finish_by p q f fs frs e d k = ap (λ (x : Ending). and_then (end_in x f fs) (λ u. end_frames frs u)) (ap ending (sym k) ∙ sym d)

end_none : (e : Ending) → None ≡ end_shape e → (f : Word) (fs : Trees) → end_in e f fs ≡ None
end_none endings.Never h = λ f fs. refl
end_none (endings.Ends x) h = λ f fs. cc
end_none (endings.BeforeStop x) h = λ f fs. cc

end_some : (e : Ending) (s : Shape) → Some s ≡ end_shape e → (f : Word) (fs : Trees) → end_in e f fs ≡ Some (node s f fs)
end_some endings.Never s h = λ f fs. cc
end_some (endings.Ends x) s h = λ f fs. ap (λ (y : Shape). Some (node y f fs)) (sym (some_shape s x h))
end_some (endings.BeforeStop x) s h = λ f fs. ap (λ (y : Shape). Some (node y f fs)) (sym (some_shape s x h))

pub close_not : (ns : List Node) (ws : List Waiting) (st : Stand) (o : Option Tree) → None ≡ end_shape (ending st.place) → Ends ns ws o (turns.At st) → None ≡ o
close_not ns ws st o e h = go h.0 h.1 h.2
  where
    go : (s : State) → ShowsState ns ws st s → finish s ≡ o → None ≡ o
    go (at p f fs frs) w d = sym (finish_by st.place p f fs frs (ending st.place) refl w.0.0 ∙ ap (λ (x : Option Tree). and_then x (λ u. end_frames frs u)) (end_none (ending st.place) e f fs)) ∙ d

pub close_some : (ns ms : List Node) (ws : List Waiting) (st : Stand) (s : Shape) (i : ℕ) (o : Option Tree) → Some s ≡ end_shape (ending st.place) → IsAdded ns ms s st.first st i → Ends ns ws o (turns.At st) → Ends ms ws o (turns.Have i)
close_some ns ms ws st s i o e a h = go h.0 h.1 h.2
  where
    go : (z : State) → ShowsState ns ws st z → finish z ≡ o → Ends ms ws o (turns.Have i)
    go (at p f fs frs) w d = (
      node s f fs,
      frs,
      shows_added ns ms st s f st.first fs i a w.0.1 w.0.2 w.0.3,
      frames_added ns ms st s st.first i ws frs a w.1,
      sym (finish_by st.place p f fs frs (ending st.place) refl w.0.0 ∙ ap (λ (x : Option Tree). and_then x (λ u. end_frames frs u)) (end_some (ending st.place) s e f fs)) ∙ d,
    )

pub put_inside : (ns : List Node) (ws vs : List Waiting) (i : ℕ) (st : Stand) (r : Turn) (o : Option Tree) → ws ≡ vs ++ waits.Inside st ∷ [] → IsPut ns st i r → Ends ns ws o (turns.Have i) → Ends ns vs o r
unfolding end_frames finish
put_inside ns ws vs i st (turns.At r) o e p h = go h.1 (top_is ns ws vs (waits.Inside st) h.1 e h.3) h.4
  where
    go : (frs : List Frame) → Top ns vs (waits.Inside st) frs → end_frames frs h.0 ≡ o → Ends ns vs o (turns.At r)
    go [] w d = absurd w
    go (within q f fs ∷ frs) w d = (at q f (more fs h.0) frs, (stand_put ns st r i q f fs h.0 p w.0 h.2, w.1), d)
    go (after c ∷ frs) w d = absurd w.0
put_inside ns ws vs i st turns.Failed o e p h = absurd (no_node ns i h.0 p h.2)
put_inside ns ws vs i st (turns.Have j) o e p h = absurd p
put_inside ns ws vs i st (turns.Moved r) o e p h = absurd p

pub put_after : (ns : List Node) (ws vs : List Waiting) (i : ℕ) (c : Tail) (o : Option Tree) → ws ≡ vs ++ waits.After c ∷ [] → Ends ns ws o (turns.Have i) → Ends ns vs o (turns.Have i)
unfolding end_frames
put_after ns ws vs i c o e h = go h.1 (top_is ns ws vs (waits.After c) h.1 e h.3) h.4
  where
    go : (frs : List Frame) → Top ns vs (waits.After c) frs → end_frames frs h.0 ≡ o → Ends ns vs o (turns.Have i)
    go [] w d = absurd w
    go (within q f fs ∷ frs) w d = absurd w.0
    go (after k ∷ frs) w d = (h.0, frs, h.2, w.1, d)

pub at_last : (ns : List Node) (ws : List Waiting) (i : ℕ) (o : Option Tree) → ws ≡ [] → Ends ns ws o (turns.Have i) → Ended ns o (Some i)
unfolding end_frames
at_last ns ws i o e h = go h.1 h.3 h.4
  where
    go : (frs : List Frame) → ShowsFrames ns ws frs → end_frames frs h.0 ≡ o → Ended ns o (Some i)
    go [] w d = (h.0, h.2, d)
    go (fr ∷ frs) w d = absurd (no_snoc w.0 w.1 (sym e ∙ w.2))
