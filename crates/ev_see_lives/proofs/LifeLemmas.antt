-- Lines one by one, and what they are about.
use Rattle.std.proofs.Common.{◌≡◌, ◌<◌, ◌≤◌, ◌+◌, ◌++◌, ℕ, Bool, true, false, List, [], ◌∷◌, Option, Some, None, length, get_or, drop, map, filter, refl, sym, ◌∙◌, ap, append_assoc, append-nil, String, string_bytes}
use Rattle.std.specs.Str.{bytes_eq}
use Rattle.std.specs.declared.alloc.Global.{Global}
use Rattle.ev_see_lives.specs.Lives.{spelled}
use Rattle.ev_script.proofs.EachLemmas.{next_item, nothing_behind}
use Rattle.def_see.specs.declared.line.Line.{Line}
use Rattle.def_see.specs.Words.{Words, subject}
use Rattle.def_see.specs.Lines.{about, line_of, placed_from, subjects_from, life}

-- ---- lives

kept : (q : List ℕ) (p : String Global × ℕ) (ps : List (String Global × ℕ)) (b : Bool) → bytes_eq q (string_bytes p.0) ≡ b
    → map (λ (e : List ℕ × ℕ). e.1) (filter (λ (e : List ℕ × ℕ). bytes_eq q e.0) (map spelled ps)) ≡ map (λ (e : String Global × ℕ). e.1) (filter (λ (e : String Global × ℕ). bytes_eq q (string_bytes e.0)) ps)
    → map (λ (e : List ℕ × ℕ). e.1) (filter (λ (e : List ℕ × ℕ). bytes_eq q e.0) (map spelled (p ∷ ps))) ≡ map (λ (e : String Global × ℕ). e.1) (filter (λ (e : String Global × ℕ). bytes_eq q (string_bytes e.0)) (p ∷ ps))
kept q p ps true is later = rw is (ap (λ (xs : List ℕ). p.1 ∷ xs) later)
kept q p ps false is later = rw is later

-- the numbers of the pairs of a name, whether its key is a text or a string
spelled_alike : (q : List ℕ) (ps : List (String Global × ℕ))
    → map (λ (e : List ℕ × ℕ). e.1) (filter (λ (e : List ℕ × ℕ). bytes_eq q e.0) (map spelled ps)) ≡ map (λ (e : String Global × ℕ). e.1) (filter (λ (e : String Global × ℕ). bytes_eq q (string_bytes e.0)) ps)
spelled_alike q [] = refl
spelled_alike q (p ∷ ps) = kept q p ps (bytes_eq q (string_bytes p.0)) refl (spelled_alike q ps)

-- the life of a name by the pairs of all lines
pub life_by : (q : List ℕ) (lines : List Line) (ps : List (String Global × ℕ)) → map spelled ps ≡ subjects_from 0 lines
    → life lines q ≡ map (λ (e : String Global × ℕ). e.1) (filter (λ (e : String Global × ℕ). bytes_eq q (string_bytes e.0)) ps)
unfolding life
life_by q lines ps is = ap (λ (es : List (List ℕ × ℕ)). map (λ (e : List ℕ × ℕ). e.1) (filter (λ (e : List ℕ × ℕ). bytes_eq q e.0) es)) (sym is) ∙ spelled_alike q ps

-- ---- lines one by one

-- the line of a number and those behind it
pub next_subject : (l : Line) (whole : List (List ℕ × ℕ)) (done more : List (List ℕ × ℕ)) (lines : List Line) (i : ℕ) → i < length lines → l ≡ get_or lines i l
    → done ++ subjects_from i (drop i lines) ≡ whole → more ≡ done ++ about (subject l.words) i → more ++ subjects_from (i + 1) (drop (i + 1) lines) ≡ whole
unfolding subjects_from
next_subject l whole done more lines i lt is so_far m =
    ap (λ (ps : List (List ℕ × ℕ)). ps ++ subjects_from (i + 1) (drop (i + 1) lines)) m
    ∙ append_assoc done (about (subject l.words) i) (subjects_from (i + 1) (drop (i + 1) lines))
    ∙ ap (λ (ls : List Line). done ++ subjects_from i ls) (sym (next_item l lines i lt is)) ∙ so_far

pub no_more_subjects : (whole done : List (List ℕ × ℕ)) (lines : List Line) (i : ℕ) → length lines ≤ i → done ++ subjects_from i (drop i lines) ≡ whole → done ≡ whole
unfolding subjects_from
no_more_subjects whole done lines i h so_far = sym (append-nil done) ∙ ap (λ (ls : List Line). done ++ subjects_from i ls) (sym (nothing_behind lines i h)) ∙ so_far

-- a line is placed, and then those behind it
pub next_placed : {A : Type 0} (f : A → Words) (x : A) (label at : List ℕ) (l : Line) (whole done more : List Line) (texts : List A) (i : ℕ) → i < length texts → x ≡ get_or texts i x
    → done ++ placed_from label at (map f (drop i texts)) ≡ whole → l ≡ line_of label at (f x) → more ≡ done ++ l ∷ []
    → more ++ placed_from l.label l.at (map f (drop (i + 1) texts)) ≡ whole
next_placed {A = A} f x label at l whole done more texts i lt is so_far placing m =
    ap (λ (ls : List Line). ls ++ placed_from l.label l.at (map f (drop (i + 1) texts))) m
    ∙ append_assoc done (l ∷ []) (placed_from l.label l.at (map f (drop (i + 1) texts)))
    ∙ ap (λ (k : Line). done ++ k ∷ placed_from k.label k.at (map f (drop (i + 1) texts))) placing
    ∙ ap (λ (ts : List A). done ++ placed_from label at (map f ts)) (sym (next_item x texts i lt is)) ∙ so_far

pub all_placed : {A : Type 0} (f : A → Words) (label at : List ℕ) (whole done : List Line) (texts : List A) (i : ℕ) → length texts ≤ i
    → done ++ placed_from label at (map f (drop i texts)) ≡ whole → done ≡ whole
all_placed {A = A} f label at whole done texts i h so_far = sym (append-nil done) ∙ ap (λ (ts : List A). done ++ placed_from label at (map f ts)) (sym (nothing_behind texts i h)) ∙ so_far

spelled-append : (ps qs : List (String Global × ℕ)) → map spelled (ps ++ qs) ≡ map spelled ps ++ map spelled qs
spelled-append [] qs = refl
spelled-append (p ∷ ps) qs = ap (λ (xs : List (List ℕ × ℕ)). spelled p ∷ xs) (spelled-append ps qs)

-- one pair more
pub pair_pushed : (ps : List (String Global × ℕ)) (s : String Global) (n : ℕ) (name : List ℕ) (o : Option (List ℕ)) → o ≡ Some name → string_bytes s ≡ name
    → map spelled (ps ++ (s, n) ∷ []) ≡ map spelled ps ++ about o n
pair_pushed ps s n name o is same = spelled-append ps ((s, n) ∷ []) ∙ ap (λ (t : List ℕ). map spelled ps ++ (t, n) ∷ []) same ∙ ap (λ (p : Option (List ℕ)). map spelled ps ++ about p n) (sym is)

-- none more
pub none_pushed : (ps : List (String Global × ℕ)) (n : ℕ) (o : Option (List ℕ)) → o ≡ None → map spelled ps ≡ map spelled ps ++ about o n
none_pushed ps n o is = sym (append-nil (map spelled ps)) ∙ ap (λ (p : Option (List ℕ)). map spelled ps ++ about p n) (sym is)
