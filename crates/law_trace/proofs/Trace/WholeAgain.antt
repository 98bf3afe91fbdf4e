-- Whole texts are read again.
use Rattle.std.proofs.Common.{◌≡◌, ◌<◌, ◌≤◌, ◌-◌, ◌++◌, ℕ, suc, Bool, true, false, not, cond, eqb, List, [], ◌∷◌, Option, Some, None, length, length-append, map, take, take_at, refl, sym, ◌∙◌, ap, subst, append_assoc, arith}
use Rattle.std.specs.Prelude.{codes, is_some, option_map, slice_get, slice_index_or, Result, Ok, Err}
use Rattle.std.specs.List.{flat_map, list_all, slice_split}
use Rattle.std.specs.Str.{bytes_eq}
use Rattle.std.proofs.lemmas.Bool.{le-leb}
use Rattle.std.proofs.lemmas.Bool.Decides.{nat_tests}
use Rattle.def_event.specs.declared.event.Event.{Event}
use Rattle.def_event.specs.declared.event.Event.TheVariants.{End}
use Rattle.def_event.specs.Lines.{line_of, render, spaced, vat, words}
use Rattle.ev_text.specs.Lines.{ended, is_line_feed, lines}
use Rattle.ev_script.specs.Script.{rule, ◌>>=◌}
use Rattle.ev_script.specs.Vats.{place_of}
use Rattle.law_text.specs.Text.Feeds.{AllOf, IsOneLine}
use Rattle.law_text.specs.Text.Words.{IsOrdinary, ordinary}
use Rattle.law_text.proofs.Text.Plain.{line_cons, plain, verb_line}
use Rattle.law_text.proofs.Text.Told.{event_line}
use Rattle.ev_trace_words.specs.Laws.{AreNames}
use Rattle.ev_trace_words.specs.Words.{words_from, words_of}
use Rattle.ev_trace_words.specs.Values.{all_of}
use Rattle.ev_trace_words.proofs.Spelled.{place_is}
use Rattle.ev_trace_lines.specs.Events.{Words, event_of}
use Rattle.def_event.specs.declared.trace.Trace.{Trace}
use Rattle.ev_trace.specs.Naming.{few, names_in}
use Rattle.ev_trace.specs.Reading.{events_of, is_end, is_stop, kept, read_by, read_lines, read_text, somes, told, trace_of}
use Rattle.law_trace.specs.Trace.Seen.{seen}
use Rattle.law_trace.specs.Trace.Readable.{Below, IsRead}
use Rattle.law_trace.specs.Trace.Renamed.{event_to}
use Rattle.law_trace.specs.Trace.Texts.{HistoriesAreReadAgain, Renumbers, TextsAreReadAgain, found}
use Rattle.law_trace.proofs.Trace.ValuesAgain.{both}
use Rattle.law_trace.proofs.Trace.LinesAgain.{goes}
use Rattle.law_trace.proofs.Trace.TextsSeen.{all_more}
use Rattle.law_trace.proofs.Trace.WordsAgain.{fits_as, ordinary_names, words_again}
use Rattle.law_trace.proofs.Trace.EventsAgain.{event_again}
use Rattle.law_trace.proofs.Trace.RenamedFits.{event_fits}
use Rattle.law_trace.proofs.Trace.RenamedSame.{event_same}
use Rattle.law_trace.proofs.Trace.NamesFound.{names_are}

-- ---- lines

-- each line with its line feed
abbrev spelled : List (List ℕ) → List ℕ
spelled ls = flat_map (λ l. l ++ 10 ∷ []) ls

next_line : (c : ℕ) (l : List ℕ) (ls : List (List ℕ)) (rest : List ℕ) → slice_split is_line_feed rest ≡ l ∷ ls → plain c ≡ true → slice_split is_line_feed (c ∷ rest) ≡ (c ∷ l) ∷ ls
next_line c l ls rest e p = rw (no_feed c p) (rw e refl)
  where
    no_feed : (c : ℕ) → not (eqb c 10) ≡ true → eqb c 10 ≡ false
    no_feed c h = grind (arith, nat_tests)

line_apart : (l rest : List ℕ) → IsOneLine l → slice_split is_line_feed (l ++ 10 ∷ rest) ≡ l ∷ slice_split is_line_feed rest
line_apart [] rest h = refl
line_apart (c ∷ l) rest h = let t = both (plain c) (list_all plain l) h in next_line c l (slice_split is_line_feed rest) (l ++ 10 ∷ rest) (line_apart l rest t.1) t.0

lines_apart : (ls : List (List ℕ)) → AllOf IsOneLine ls → slice_split is_line_feed (spelled ls) ≡ ls ++ [] ∷ []
lines_apart [] h = refl
lines_apart (l ∷ ls) h = ap (slice_split is_line_feed) (append_assoc l (10 ∷ []) (spelled ls)) ∙ line_apart l (spelled ls) h.0 ∙ ap (λ ks. l ∷ ks) (lines_apart ls h.1)

-- what stands last
at_end : (A : Type 0) (xs : List A) (x d : A) → slice_index_or (xs ++ x ∷ []) (length xs) d ≡ x
at_end A [] x d = refl
at_end A (y ∷ xs) x d = at_end A xs x d

got_last : (A : Type 0) (xs : List A) (x : A) → slice_get (xs ++ x ∷ []) (length xs) ≡ Some x
got_last A [] x = refl
got_last A (y ∷ xs) x = got_last A xs x

one_less : (A : Type 0) (xs : List A) (x : A) → length (xs ++ x ∷ []) - 1 ≡ length xs
one_less A xs x = omega (arith, length-append xs (x ∷ []))

ended_by : (parts : List (List ℕ)) (n : ℕ) (ls : List (List ℕ)) → length parts - 1 ≡ n → slice_index_or parts n [] ≡ [] → take n parts ≡ ls → ended parts ≡ Some ls
ended_by parts n ls e f g =
    ap (λ k. cond {A = Option (List (List ℕ))} (eqb (length (slice_index_or parts k [])) 0) (Some (take k parts)) None) e
    ∙ ap (λ l. cond {A = Option (List (List ℕ))} (eqb (length l) 0) (Some (take n parts)) None) f ∙ ap Some g

lines_again : (ls : List (List ℕ)) → AllOf IsOneLine ls → lines (spelled ls) ≡ Some ls
lines_again ls h = ap ended (lines_apart ls h) ∙ ended_by (ls ++ [] ∷ []) (length ls) ls (one_less (List ℕ) ls []) (at_end (List ℕ) ls [] []) (take_at ls ([] ∷ []) (length ls) refl)

ordinary_line : (w : List ℕ) → IsOrdinary w → IsOneLine w
ordinary_line [] h = refl
ordinary_line (c ∷ w) h = let t = both (ordinary c) (list_all ordinary w) h in line_cons c w (both (plain c) _ t.0).0 (ordinary_line w t.1)

ordinary_lines : (ws : List (List ℕ)) → AllOf IsOrdinary ws → AllOf IsOneLine ws
ordinary_lines [] h = tt
ordinary_lines (w ∷ ws) h = (ordinary_line w h.0, ordinary_lines ws h.1)

-- vats are numbered by where they first stand in the lines
record InOrder (names : List (List ℕ)) (es : List Event) : Type 0 where
  same : names_in (map (words names) es) ≡ names
  few : length names ≤ 16

module _ (names : List (List ℕ)) (are : AreNames names) where
  one_line : (e : Event) → IsRead (Below names) e → IsOneLine (line_of names e)
  one_line e h = event_line names (ordinary_lines names (ordinary_names names are.lawful)) e (fits_as IsOneLine verb_line refl (Below names) e h)

  each_line : (es : List Event) → AllOf (IsRead (Below names)) es → AllOf IsOneLine (map (line_of names) es)
  each_line [] h = tt
  each_line (e ∷ es) h = (one_line e h.0, each_line es h.1)

  as_lines : (es : List Event) → render names es ≡ spelled (map (line_of names) es)
  as_lines [] = refl
  as_lines (e ∷ es) = ap (λ r. (line_of names e ++ 10 ∷ []) ++ r) (as_lines es)

  words_are : (es : List Event) → AllOf (IsRead (Below names)) es → map words_of (map (line_of names) es) ≡ map (words names) es
  words_are [] h = refl
  words_are (e ∷ es) h = ap (λ w. w ∷ map words_of (map (line_of names) es)) (words_again names e are h.0) ∙ ap (λ ws. words names e ∷ ws) (words_are es h.1)

  -- ---- the events of the lines

  abbrev shown : Event → Option Event
  shown e = Some (seen e)

  each_told : (es : List Event) → AllOf (IsRead (Below names)) es → all_of (λ ws. kept (event_of names ws)) (map (words names) es) ≡ Ok (map shown es)
  each_told [] h = refl
  each_told (e ∷ es) h = all_more (λ ws. kept (event_of names ws)) (words names e) (map (words names) es) (shown e) (map shown es) (ap kept (event_again names are e h.0)) (each_told es h.1)

  all_told : (es : List Event) → list_all is_some (map shown es) ≡ true
  all_told [] = refl
  all_told (e ∷ es) = all_told es

  those_told : (es : List Event) → somes (map shown es) ≡ map seen es
  those_told [] = refl
  those_told (e ∷ es) = ap (λ fs. seen e ∷ fs) (those_told es)

  told_again : (es : List Event) → told (map shown es) ≡ Ok (map seen es)
  told_again es = ap (λ b. cond {A = Result (List Event) ℕ} b (Ok (somes (map shown es))) (Err 43)) (all_told es) ∙ ap Ok (those_told es)

  pub events_back : (es : List Event) → AllOf (IsRead (Below names)) es → events_of names (map words_of (map (line_of names) es)) ≡ Ok (map seen es)
  events_back es h = ap (events_of names) (words_are es h) ∙ goes (all_of (λ ws. kept (event_of names ws)) (map (words names) es)) (map shown es) told (each_told es h) ∙ told_again es

  -- ---- the whole

  few_are : length names ≤ 16 → few names ≡ Some names
  few_are h = ap (λ b. cond {A = Option (List (List ℕ))} b (Some names) None) (le-leb (length names) 16 h)

  named : (es : List Event) → AllOf (IsRead (Below names)) es → InOrder names es → few (names_in (map words_of (map (line_of names) es))) ≡ Some names
  named es h order = ap (λ ws. few (names_in ws)) (words_are es h) ∙ ap few order.same ∙ few_are order.few

  trace_by : (ls : List Words) (stop : Option (List ℕ)) (es : List Event) → few (names_in ls) ≡ Some names → events_of names ls ≡ Ok es → trace_of ls stop ≡ Ok (record { history = es; names = names; stop = stop })
  trace_by ls stop es e f =
      goes (rule 42 (few (names_in ls))) names (λ ns. events_of ns ls >>= (λ found. Ok (record { history = found; names = ns; stop = stop }))) (ap (rule 42) e)
      ∙ goes (events_of names ls) es (λ found. Ok (record { history = found; names = names; stop = stop })) f

  trace_again : (es : List Event) (stop : Option (List ℕ)) → AllOf (IsRead (Below names)) es → InOrder names es → trace_of (map words_of (map (line_of names) es)) stop ≡ Ok (record { history = map seen es; names = names; stop = stop })
  trace_again es stop h order = trace_by (map words_of (map (line_of names) es)) stop (map seen es) (named es h order) (events_back es h)

read_by_lines : (text : List ℕ) (ls : List (List ℕ)) (last : List ℕ) → lines text ≡ Some (ls ++ last ∷ []) → read_text text ≡ read_by (ls ++ last ∷ []) (Some last)
read_by_lines text ls last e =
    goes (rule 42 (lines text)) (ls ++ last ∷ []) read_lines (ap (rule 42) e)
    ∙ ap (λ n. read_by (ls ++ last ∷ []) (slice_get (ls ++ last ∷ []) n)) (one_less (List ℕ) ls last) ∙ ap (read_by (ls ++ last ∷ [])) (got_last (List ℕ) ls last)

at_stop : (ls : List (List ℕ)) (stop : List ℕ) → is_stop (words_of stop) ≡ true → read_by (ls ++ stop ∷ []) (Some stop) ≡ trace_of (map words_of ls) (Some stop)
at_stop ls stop h =
    ap (λ b. cond {A = Result Trace ℕ} b (trace_of (map words_of (take (length (ls ++ stop ∷ []) - 1) (ls ++ stop ∷ []))) (Some stop)) (cond {A = Result Trace ℕ} (is_end (words_of stop)) (trace_of (map words_of (ls ++ stop ∷ [])) None) (Err 42))) h
    ∙ ap (λ ks. trace_of (map words_of ks) (Some stop)) (ap (λ n. take n (ls ++ stop ∷ [])) (one_less (List ℕ) ls stop) ∙ take_at ls (stop ∷ []) (length ls) refl)

at_the_end : (ls : List (List ℕ)) → read_by ls (Some (codes "end")) ≡ trace_of (map words_of ls) None
unfolding words_from
at_the_end ls = refl

map-append : {A B : Type 0} (f : A → B) (xs : List A) (x : A) → map f (xs ++ x ∷ []) ≡ map f xs ++ f x ∷ []
map-append f [] x = refl
map-append f (y ∷ xs) x = ap (λ ys. f y ∷ ys) (map-append f xs x)

spelled-append : (ls : List (List ℕ)) (l : List ℕ) → spelled ls ++ (l ++ 10 ∷ []) ≡ spelled (ls ++ l ∷ [])
spelled-append [] l = sym (append_assoc l (10 ∷ []) [])
spelled-append (k ∷ ls) l = append_assoc (k ++ 10 ∷ []) (spelled ls) (l ++ 10 ∷ []) ∙ ap (λ r. (k ++ 10 ∷ []) ++ r) (spelled-append ls l)

with_last : {A : Type 0} (P : A → Type 0) (xs : List A) (x : A) → AllOf P xs → P x → AllOf P (xs ++ x ∷ [])
with_last P [] x h k = (k, tt)
with_last P (y ∷ xs) x h k = (h.0, with_last P xs x h.1 k)

pub histories_again : HistoriesAreReadAgain
histories_again names es are h = (ap lines (as_lines names are es) ∙ lines_again (map (line_of names) es) (each_line names are es h), events_back names are es h)

ended_again : (names : List (List ℕ)) (es : List Event) → AreNames names → AllOf (IsRead (Below names)) (es ++ End ∷ []) → InOrder names (es ++ End ∷ [])
    → read_text (render names (es ++ End ∷ [])) ≡ Ok (record { history = map seen (es ++ End ∷ []); names = names; stop = None })
ended_again names es are h order =
    let all = es ++ End ∷ [] in
    let parted : map (line_of names) all ≡ map (line_of names) es ++ codes "end" ∷ [] = map-append (line_of names) es End in
    read_by_lines (render names all) (map (line_of names) es) (codes "end") ((histories_again names all are h).0 ∙ ap Some parted)
    ∙ at_the_end (map (line_of names) es ++ codes "end" ∷ []) ∙ ap (λ ls. trace_of (map words_of ls) None) (sym parted) ∙ trace_again names are all None h order

stopped_again : (names : List (List ℕ)) (es : List Event) (stop : List ℕ) → AreNames names → AllOf (IsRead (Below names)) es → InOrder names es → IsOneLine stop → is_stop (words_of stop) ≡ true
    → read_text (render names es ++ (stop ++ 10 ∷ [])) ≡ Ok (record { history = map seen es; names = names; stop = Some stop })
stopped_again names es stop are h order one is =
    let ls = map (line_of names) es in
    read_by_lines (render names es ++ (stop ++ 10 ∷ [])) ls stop
    (ap lines (ap (λ r. r ++ (stop ++ 10 ∷ [])) (as_lines names are es) ∙ spelled-append ls stop) ∙ lines_again (ls ++ stop ∷ []) (with_last IsOneLine ls stop (each_line names are es h) one))
    ∙ at_stop ls stop is ∙ trace_again names are es (Some stop) h order

-- ---- by the names that are found

map_more : {A B C : Type 0} (f : A → B) (g : B → C) (k : A → C) (P : A → Type 0) → ((x : A) → P x → g (f x) ≡ k x) → (xs : List A) → AllOf P xs → map g (map f xs) ≡ map k xs
map_more f g k P each [] h = refl
map_more f g k P each (x ∷ xs) h = ap (λ y. y ∷ map g (map f xs)) (each x h.0) ∙ ap (λ ys. k x ∷ ys) (map_more f g k P each xs h.1)

all_to : {A B : Type 0} (f : A → B) (P : A → Type 0) (Q : B → Type 0) → ((x : A) → P x → Q (f x)) → (xs : List A) → AllOf P xs → AllOf Q (map f xs)
all_to f P Q each [] h = tt
all_to f P Q each (x ∷ xs) h = (each x h.0, all_to f P Q each xs h.1)

place_below : (ns : List (List ℕ)) (word : List ℕ) (v : ℕ) → place_of ns word ≡ Some v → v < length ns
place_below [] word v e = absurd cc
place_below (x ∷ ns) word v e = by (bytes_eq word x) (place_of ns word) refl e (λ w i. place_below ns word w i)
  where
    by : (t : Bool) (o : Option ℕ) → place_of ns word ≡ o → cond t (Some 0) (option_map suc o) ≡ Some v → ((w : ℕ) → place_of ns word ≡ Some w → w < length ns) → v < suc (length ns)
    by true o p i more = let same : 0 ≡ v = cc in omega (arith, same)
    by false None p i more = absurd cc
    by false (Some w) p i more = let same : suc w ≡ v = cc in let below : w < length ns = more w p in omega (arith, same, below)

module _ (names : List (List ℕ)) (to : ℕ → ℕ) (ns : List (List ℕ)) where
  -- the vat is found with its other number
  abbrev Placed : ℕ → Type 0
  Placed v = place_of ns (vat names v) ≡ Some (to v)

  same_words : (e : Event) → IsRead Placed e → words ns (event_to to e) ≡ words names e
  same_words e h = event_same names ns to Placed (λ v k. place_is ns (vat names v) (to v) k) e h

  below_there : (e : Event) → IsRead Placed e → IsRead (Below ns) (event_to to e)
  below_there e h = event_fits Placed (Below ns) to (λ v k. place_below ns (vat names v) (to v) k) e h

  all_same : (es : List Event) → AllOf (IsRead Placed) es → map (words ns) (map (event_to to) es) ≡ map (words names) es
  all_same es h = map_more (event_to to) (words ns) (words names) (IsRead Placed) same_words es h

  all_below : (es : List Event) → AllOf (IsRead Placed) es → AllOf (IsRead (Below ns)) (map (event_to to) es)
  all_below es h = all_to (event_to to) (IsRead Placed) (IsRead (Below ns)) below_there es h

  same_text : (es : List Event) → AllOf (IsRead Placed) es → render ns (map (event_to to) es) ≡ render names es
  same_text [] h = refl
  same_text (e ∷ es) h = ap (λ ws. (spaced ws ++ 10 ∷ []) ++ render ns (map (event_to to) es)) (same_words e h.0) ∙ ap (λ r. (line_of names e ++ 10 ∷ []) ++ r) (same_text es h.1)

  in_order : (es : List Event) → AllOf (IsRead Placed) es → names_in (map (words names) es) ≡ ns → length ns ≤ 16 → InOrder ns (map (event_to to) es)
  in_order es h e few = record { same = ap names_in (all_same es h) ∙ e; few = few }

ended_there : (names : List (List ℕ)) (to : ℕ → ℕ) (es : List Event) → Renumbers names to (es ++ End ∷ [])
    → read_text (render names (es ++ End ∷ [])) ≡ Ok (record { history = map seen (map (event_to to) (es ++ End ∷ [])); names = found names (es ++ End ∷ []); stop = None })
ended_there names to es r =
    let all = es ++ End ∷ [] in
    let ns = found names all in
    let last : map (event_to to) all ≡ map (event_to to) es ++ End ∷ [] = map-append (event_to to) es End in
    let below = all_below names to ns all r.placed in
    let order = in_order names to ns all r.placed refl r.few in
    ap read_text (sym (same_text names to ns all r.placed) ∙ ap (render ns) last)
    ∙ ended_again ns (map (event_to to) es) (names_are (map (words names) all)) (subst (λ fs. AllOf (IsRead (Below ns)) fs) last below) (subst (InOrder ns) last order)
    ∙ ap (λ fs. Ok (record { history = map seen fs; names = ns; stop = None })) (sym last)

stopped_there : (names : List (List ℕ)) (to : ℕ → ℕ) (es : List Event) (stop : List ℕ) → Renumbers names to es → IsOneLine stop → is_stop (words_of stop) ≡ true
    → read_text (render names es ++ (stop ++ 10 ∷ [])) ≡ Ok (record { history = map seen (map (event_to to) es); names = found names es; stop = Some stop })
stopped_there names to es stop r one is =
    let ns = found names es in
    ap (λ text. read_text (text ++ (stop ++ 10 ∷ []))) (sym (same_text names to ns es r.placed))
    ∙ stopped_again ns (map (event_to to) es) stop (names_are (map (words names) es)) (all_below names to ns es r.placed) (in_order names to ns es r.placed refl r.few) one is

pub texts_again : TextsAreReadAgain
texts_again = record { ended = ended_there; stopped = stopped_there }
