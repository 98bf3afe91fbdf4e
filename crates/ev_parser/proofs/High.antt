-- How high each tree is that goes on from a place.
use Rattle.std.proofs.Common.{◌≡◌, ℕ, List, [], ◌∷◌, ◌++◌, Bool, true, false, cond, Some, None, refl, ◌∙◌, ap, ◌+◌, ◌≤◌, ◌<◌, max, min, arith, nat_lt, ltb-true, ltb-false}
use Rattle.def_syntax.specs.declared.place.Place.{Place}
use Rattle.ev_parser.specs.declared.draft.Node.{Node}
use Rattle.ev_parser.specs.declared.draft.Stand.{Stand}
use Rattle.ev_parser.specs.declared.draft.Waiting.{Waiting}
use Rattle.ev_parser.specs.declared.draft.Waiting.TheVariants as waits
use Rattle.def_syntax.specs.Machine.{Frame, within, after, State, at}
use Rattle.def_syntax.specs.Heights.{tallest, base, need, lift, low, low_frames, least, most_height, noted}
use Rattle.ev_parser.specs.Draft.{ShowsFrame, ShowsFrames, ShowsState, low_waiting}
use Rattle.ev_parser.specs.Stacks.{lowered}
use Rattle.ev_parse_table.specs.Table.{capped}

cap_low : (b l n t x y : ℕ) → min x 61 ≡ min y 61 → min (b + max (max t x + l) n) 61 ≡ min (b + max (max t y + l) n) 61
cap_low b l n t x y e = omega arith

cap_frames : (frs : List Frame) (a b : ℕ) → capped a ≡ capped b → capped (low_frames frs a) ≡ capped (low_frames frs b)
unfolding low_frames
cap_frames [] a b e = e
cap_frames (within q f fs ∷ frs) a b e = cap_frames frs (low q (max (tallest fs) a)) (low q (max (tallest fs) b)) (cap_low (base q) (lift q) (need q) (tallest fs) a b e)
cap_frames (after c ∷ frs) a b e = cap_frames frs a b e

cap_stand : (b l n k t h : ℕ) → k ≡ min t 61 → min (min (b + max (max k h + l) n) 61) 61 ≡ min (b + max (max t h + l) n) 61
cap_stand b l n k t h e = omega arith

cap_first : (b l n k t : ℕ) → k ≡ min t 61 → min (min (b + max (k + l) n) 61) 61 ≡ min (b + max (t + l) n) 61
cap_first b l n k t e = omega arith

-- the topmost frame lowers first
lowered_last : (ws : List Waiting) (w : Waiting) (h : ℕ) → lowered (ws ++ w ∷ []) h ≡ lowered ws (low_waiting w h)
lowered_last [] w h = refl
lowered_last (x ∷ ws) w h = ap (low_waiting x) (lowered_last ws w h)

-- the topmost frame lowers as that of the machine
low_top : (ns : List Node) (w : Waiting) (fr : Frame) (frs : List Frame) (h : ℕ) → ShowsFrame ns w fr → capped (low_frames frs (low_waiting w h)) ≡ capped (low_frames (fr ∷ frs) h)
unfolding low_frames
low_top ns (waits.Inside st) (within q f fs) frs h t =
    let e : low_waiting (waits.Inside st) h ≡ capped (low q (max st.tallest h)) = ap (λ (x : Place). capped (low x (max st.tallest h))) t.0 in
    cap_frames frs (low_waiting (waits.Inside st) h) (low q (max (tallest fs) h)) (ap capped e ∙ cap_stand (base q) (lift q) (need q) st.tallest (tallest fs) h t.3)
low_top ns (waits.Inside st) (after c) frs h t = absurd t
low_top ns (waits.After c) (within q f fs) frs h t = absurd t
low_top ns (waits.After c) (after x) frs h t = refl

-- the frames lower as those of the machine
low_all : (ns : List Node) (ws : List Waiting) (frs : List Frame) (h : ℕ) → ShowsFrames ns ws frs → capped (lowered ws h) ≡ capped (low_frames frs h)
unfolding low_frames
low_all ns ws [] h s = ap (λ (vs : List Waiting). capped (lowered vs h)) s
low_all ns ws (fr ∷ frs) h s =
    ap (λ (vs : List Waiting). capped (lowered vs h)) s.2
    ∙ ap capped (lowered_last s.0 s.1 h)
    ∙ low_all ns s.0 frs (low_waiting s.1 h) s.4
    ∙ low_top ns s.1 fr frs h s.3

above_same : (a b : ℕ) (x y : Bool) → nat_lt 60 a ≡ x → nat_lt 60 b ≡ y → min a 61 ≡ min b 61 → x ≡ y
above_same a b true true d f e = refl
above_same a b false false d f e = refl
above_same a b true false d f e = let i : 60 < a = ltb-true 60 a d in let j : b ≤ 60 = ltb-false 60 b f in absurd (omega arith)
above_same a b false true d f e = let i : a ≤ 60 = ltb-false 60 a d in let j : 60 < b = ltb-true 60 b f in absurd (omega arith)

pub high_state : (ns : List Node) (ws : List Waiting) (st : Stand) (s : State) (h k : ℕ) → h ≡ capped (low st.place st.tallest) → k ≡ lowered ws h → ShowsState ns ws st s → nat_lt 60 k ≡ nat_lt most_height (least s)
high_state ns ws st (at q f fs frs) h k d e w =
    let i : capped h ≡ capped (low q (tallest fs)) = ap capped (d ∙ ap (λ (x : Place). capped (low x st.tallest)) w.0.0) ∙ cap_first (base q) (lift q) (need q) st.tallest (tallest fs) w.0.3 in
    above_same k (least (at q f fs frs)) (nat_lt 60 k) (nat_lt 60 (least (at q f fs frs))) refl refl (ap capped e ∙ low_all ns ws frs h w.1 ∙ cap_frames frs h (low q (tallest fs)) i)

pub noted_now : (n : ℕ) (s : State) (b : Bool) → b ≡ nat_lt most_height (least s) → cond b (Some n) None ≡ noted None n s
noted_now n s b e = ap (λ (x : Bool). cond x (Some n) None) e
