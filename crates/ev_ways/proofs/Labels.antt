-- Frames with their labels.
use Rattle.std.proofs.Common.{◌≡◌, ℕ, ◌+◌, suc, Bool, true, false, List, [], ◌∷◌, ◌++◌, Option, None, Some, drop, length, map, refl, sym, ap, subst, ◌∙◌, arith}
use Rattle.std.specs.Prelude.{if◌then◌else◌, slice_get}
use Rattle.std.proofs.lemmas.List.{length_push}
use Rattle.ev_ways.specs.Way.{Way}
use Rattle.ev_ways.specs.Way as link
use Rattle.ev_ways.specs.declared.frame.Frame.{Frame}
use Rattle.ev_ways.specs.declared.frame.Label.{Label}
use Rattle.ev_ways.specs.Labels.{ArePaired, all_labelled, label_of, labelled}
use Rattle.ev_ways.specs.Rows.{Lane, first, put, rest}

-- the labels of the frames are those beside the link
pub labels_of : (ls : List Label) (bs : List (List ℕ)) → length ls ≡ length bs → ls ≡ map label_of (all_labelled ls bs)
unfolding all_labelled
labels_of [] bs e = refl
labels_of (l ∷ ls) [] e = cc
labels_of (l ∷ ls) (b ∷ bs) e = ap (λ (ms : List Label). l ∷ ms) (labels_of ls bs (let i : suc (length ls) ≡ suc (length bs) = e in omega arith))

-- a frame comes behind the others
pub labelled_behind : (ls : List Label) (bs : List (List ℕ)) (l : Label) (b : List ℕ) → length ls ≡ length bs → all_labelled (ls ++ l ∷ []) (bs ++ b ∷ []) ≡ all_labelled ls bs ++ labelled l b ∷ []
unfolding all_labelled
labelled_behind [] [] l b e = refl
labelled_behind [] (c ∷ bs) l b e = cc
labelled_behind (m ∷ ls) [] l b e = cc
labelled_behind (m ∷ ls) (c ∷ bs) l b e = ap (λ (ks : List Frame). labelled m c ∷ ks) (labelled_behind ls bs l b (let i : suc (length ls) ≡ suc (length bs) = e in omega arith))

-- what a link and the labels of its frames stand for
abbrev pub lane : List Label → Way → Lane
lane ls w = record { is_cut = w.is_cut; frames = all_labelled ls w.frames }

-- ---- one more

put_or : (cut : Bool) (w : Way) (b : List ℕ) → cut ≡ false → (if cut then w else record { frames = w.frames ++ b ∷ []; part = w.part; is_cut = false }) ≡ record { frames = w.frames ++ b ∷ []; part = w.part; is_cut = false }
put_or false w b u = refl
put_or true w b u = cc

put_lane : (cut : Bool) (l : Lane) (k : Frame) → cut ≡ false → record { is_cut = false; frames = l.frames ++ k ∷ [] } ≡ (if cut then l else record { is_cut = false; frames = l.frames ++ k ∷ [] })
put_lane false l k u = refl
put_lane true l k u = cc

pub pushed_pairs : (ls ms : List Label) (w v : Way) (l : Label) (b : List ℕ) → ArePaired ls w → w.is_cut ≡ false → v ≡ link.put b w → ms ≡ ls ++ l ∷ [] → ArePaired ms v
pushed_pairs ls ms w v l b h u e f =
    subst (λ (x : Way). ArePaired ms x) (sym (e ∙ put_or w.is_cut w b u))
    (record {
      even = ap (λ (xs : List Label). length xs) f ∙ (length_push ls l ∙ (ap (λ (n : ℕ). n + 1) h.even ∙ sym (length_push w.frames b)));
      whole = h.whole;
      gone = λ x. let y : true ≡ false = sym x in cc;
    })

pub pushed_is : (ls ms : List Label) (w v : Way) (x : Lane) (k : Frame) → ArePaired ls w → w.is_cut ≡ false → v ≡ link.put k.bytes w → ms ≡ ls ++ label_of k ∷ [] → lane ls w ≡ x → lane ms v ≡ put k x
unfolding put
pushed_is ls ms w v x k h u e f g =
    ap (λ (y : Way). lane ms y) (e ∙ put_or w.is_cut w k.bytes u)
    ∙ (ap (λ (xs : List Label). lane xs (record { frames = w.frames ++ k.bytes ∷ []; part = w.part; is_cut = false })) f
    ∙ (ap (λ (ks : List Frame). record { is_cut = false; frames = ks }) (labelled_behind ls w.frames (label_of k) k.bytes h.even)
    ∙ (put_lane w.is_cut (lane ls w) k u ∙ ap (λ (y : Lane). if y.is_cut then y else record { is_cut = false; frames = y.frames ++ k ∷ [] }) g)))

-- ---- the first one

none_or : (cut : Bool) (fs : List (List ℕ)) → (cut ≡ true → fs ≡ []) → None ≡ (if cut then None else slice_get fs 0) → fs ≡ []
none_or true fs g e = g refl
none_or false [] g e = refl
none_or false (f ∷ fs) g e = cc

none_left : (ls : List Label) (w : Way) → ArePaired ls w → None ≡ link.next w → w.frames ≡ []
none_left ls w h e = none_or w.is_cut w.frames h.gone e

abbrev way : List (List ℕ) → List ℕ → Bool → Way
way fs p cut = record { frames = fs; part = p; is_cut = cut }

same_way : (fs gs : List (List ℕ)) (p : List ℕ) (j k : Bool) → fs ≡ gs → j ≡ k → way fs p j ≡ way gs p k
same_way fs gs p j k e f = ap (λ (xs : List (List ℕ)). way xs p j) e ∙ ap (λ (b : Bool). way gs p b) f

behind_or : (cut : Bool) (w : Way) → w.frames ≡ [] → w.is_cut ≡ cut → (if cut then w else record { frames = drop 1 w.frames; part = w.part; is_cut = false }) ≡ w
behind_or true w e f = refl
behind_or false w e f = same_way (drop 1 w.frames) w.frames w.part false w.is_cut (ap (λ (fs : List (List ℕ)). drop 1 fs) e ∙ sym e) (sym f)

-- no frame stands where none can be taken
none_first : (ls : List Label) (w : Way) → ArePaired ls w → w.frames ≡ [] → all_labelled ls w.frames ≡ []
unfolding all_labelled
none_first [] w h e = refl
none_first (l ∷ ls) w h e = ap (all_labelled (l ∷ ls)) e

pub stays_paired : (ls : List Label) (w v : Way) → ArePaired ls w → None ≡ link.next w → v ≡ link.behind w → ArePaired ls v
stays_paired ls w v h e f = subst (λ (x : Way). ArePaired ls x) (sym (f ∙ behind_or w.is_cut w (none_left ls w h e) refl)) h

pub none_is : (ls : List Label) (w : Way) (x : Lane) → ArePaired ls w → None ≡ link.next w → lane ls w ≡ x → None ≡ first x
unfolding first
none_is ls w x h e g = ap (λ (ks : List Frame). slice_get ks 0) (sym (none_first ls w h (none_left ls w h e))) ∙ ap (λ (y : Lane). slice_get y.frames 0) g

pub stays_is : (ls : List Label) (w v : Way) (x : Lane) → ArePaired ls w → None ≡ link.next w → v ≡ link.behind w → lane ls w ≡ x → lane ls v ≡ rest x
unfolding rest
stays_is ls w v x h e f g =
    let none = none_first ls w h (none_left ls w h e) in
    ap (λ (y : Way). lane ls y) (f ∙ behind_or w.is_cut w (none_left ls w h e) refl)
    ∙ (ap (λ (ks : List Frame). record { is_cut = w.is_cut; frames = ks }) (none ∙ ap (λ (ks : List Frame). drop 1 ks) (sym none)) ∙ ap (λ (y : Lane). record { is_cut = y.is_cut; frames = drop 1 y.frames }) g)

-- a frame that can be taken is the first of those that there are, and the link is not cut
pub record Taken (w v : Way) (b : List ℕ) : Type 0 where
  pub others : List (List ℕ)
  pub frames : w.frames ≡ b ∷ others
  pub uncut : w.is_cut ≡ false
  pub left : v ≡ record { frames = others; part = w.part; is_cut = false }

taken_or : (cut : Bool) (fs : List (List ℕ)) (w v : Way) (b : List ℕ) → w.is_cut ≡ cut → w.frames ≡ fs → Some b ≡ (if cut then None else slice_get fs 0) → v ≡ (if cut then w else record { frames = drop 1 fs; part = w.part; is_cut = false }) → Taken w v b
taken_or true fs w v b i j e f = cc
taken_or false [] w v b i j e f = cc
taken_or false (c ∷ fs) w v b i j e f = record { others = fs; frames = j ∙ ap (λ (x : List ℕ). x ∷ fs) (let k : b ≡ c = cc in sym k); uncut = i; left = f }

pub taken : (w v : Way) (b : List ℕ) → Some b ≡ link.next w → v ≡ link.behind w → Taken w v b
taken w v b e f = taken_or w.is_cut w.frames w v b refl refl e f

-- there is a label for it
pub has_label : (ls : List Label) (w v : Way) (b : List ℕ) → ArePaired ls w → Some b ≡ link.next w → v ≡ link.behind w → ls ≡ [] → ⊥
has_label ls w v b h e f n =
    let t = taken w v b e f in
    let k : 0 ≡ suc (length t.others) = ap (λ (xs : List Label). length xs) (sym n) ∙ (h.even ∙ ap (λ (xs : List (List ℕ)). length xs) t.frames) in
    omega arith

pub taken_pairs : (ls ms : List Label) (l : Label) (w v : Way) (b : List ℕ) → ArePaired ls w → Some b ≡ link.next w → v ≡ link.behind w → ls ≡ l ∷ ms → ArePaired ms v
taken_pairs ls ms l w v b h e f n =
    let t = taken w v b e f in
    let k : suc (length ms) ≡ suc (length t.others) = ap (λ (xs : List Label). length xs) (sym n) ∙ (h.even ∙ ap (λ (xs : List (List ℕ)). length xs) t.frames) in
    subst (λ (x : Way). ArePaired ms x) (sym t.left) (record { even = omega arith; whole = h.whole; gone = λ x. let y : true ≡ false = sym x in cc })

first_two : (ls ms : List Label) (l : Label) (fs gs : List (List ℕ)) (b : List ℕ) → ls ≡ l ∷ ms → fs ≡ b ∷ gs → all_labelled ls fs ≡ labelled l b ∷ all_labelled ms gs
unfolding all_labelled
first_two ls ms l fs gs b e f = ap (λ (xs : List Label). all_labelled xs fs) e ∙ ap (λ (xs : List (List ℕ)). all_labelled (l ∷ ms) xs) f

pub taken_is : (ls ms : List Label) (l : Label) (w v : Way) (b : List ℕ) (x : Lane) → ArePaired ls w → Some b ≡ link.next w → v ≡ link.behind w → ls ≡ l ∷ ms → lane ls w ≡ x → Some (labelled l b) ≡ first x
unfolding first
taken_is ls ms l w v b x h e f n g =
    let t = taken w v b e f in
    ap (λ (ks : List Frame). slice_get ks 0) (sym (first_two ls ms l w.frames t.others b n t.frames)) ∙ ap (λ (y : Lane). slice_get y.frames 0) g

pub left_is : (ls ms : List Label) (l : Label) (w v : Way) (b : List ℕ) (x : Lane) → ArePaired ls w → Some b ≡ link.next w → v ≡ link.behind w → ls ≡ l ∷ ms → lane ls w ≡ x → lane ms v ≡ rest x
unfolding rest
left_is ls ms l w v b x h e f n g =
    let t = taken w v b e f in
    ap (λ (y : Way). lane ms y) t.left
    ∙ (ap (λ (cut : Bool). record { is_cut = cut; frames = all_labelled ms t.others }) (sym t.uncut)
    ∙ (ap (λ (ks : List Frame). record { is_cut = w.is_cut; frames = drop 1 ks }) (sym (first_two ls ms l w.frames t.others b n t.frames)) ∙ ap (λ (y : Lane). record { is_cut = y.is_cut; frames = drop 1 y.frames }) g))
