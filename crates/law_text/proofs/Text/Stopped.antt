-- The line of a stop is told from the lines of events.
use Rattle.std.proofs.Common.{◌≡◌, ℕ, false, List, [], ◌∷◌, ◌++◌, map, refl, sym, ◌∙◌, ap, append_assoc}
use Rattle.std.specs.Prelude.{decimal, codes, bytes_eq, filter, flat_map}
use Rattle.std.proofs.lemmas.List.{append-nil}
use Rattle.def_machine.specs.State.{Stop, Fuel, Deep, Repeated, Astray}
use Rattle.def_event.specs.declared.event.Event.{Event}
use Rattle.def_event.specs.declared.event.Event.TheVariants.{Open, Raw}
use Rattle.def_event.specs.declared.raw.RawLine.TheVariants.{Inject, InjectCut, Malformed, Bytes, LeftBytes}
use Rattle.def_event.specs.Lines.{spaced, words, render, is_no_frame}
use Rattle.def_run.specs.World.{Run, Goes, Stopped}
use Rattle.def_run.specs.Text.{vat_names, stop_line, stop_text, text, wire_text}
use Rattle.law_text.specs.Text.Feeds.{AllOf}
use Rattle.law_text.specs.Text.Words.{IsOrdinary, IsWord, WordsFit}
use Rattle.law_text.specs.Text.Kinds.{kind, kind_in}
use Rattle.law_text.specs.Text.Values.{AreVats}
use Rattle.law_text.specs.Text.Parts.{IsEventOf, OneForOne, EventsAlike}
use Rattle.law_text.specs.Text.Runs.{events_of, TextsTellRuns}
use Rattle.law_text.proofs.Text.Front.{true_false}
use Rattle.law_text.proofs.Text.Kinded.{kinds_told}
use Rattle.law_text.proofs.Text.Parted.{events_told, each_fits}
use Rattle.law_text.proofs.Text.Reading.{ordinary_word, decimal_word}
use Rattle.law_text.proofs.Text.Spelled.{AllSome}
use Rattle.law_text.proofs.Text.Split.{words_apart, texts_apart}
use Rattle.law_text.proofs.Text.Told.{some_fit, some_words}
use Rattle.law_text.proofs.Text.Valued.{ordinary_vats}

-- the words of a line
abbrev Line : Type 0
Line = List (List ℕ)

abbrev ended : Line → List ℕ
ended ws = spaced ws ++ 10 ∷ []

-- ---- the line of a stop, by its words

abbrev stop_words : Stop → ℕ → Line
stop_words Fuel k = codes "stop" ∷ codes "fuel" ∷ decimal k ∷ []
stop_words Deep k = codes "stop" ∷ codes "depth" ∷ decimal k ∷ []
stop_words (Repeated i j) k = codes "stop" ∷ codes "word" ∷ decimal i ∷ decimal j ∷ []
stop_words Astray k = codes "stop" ∷ codes "astray" ∷ decimal k ∷ []

one_number : (front d : List ℕ) → front ++ d ≡ front ++ (d ++ [])
one_number front d = ap (λ xs. front ++ xs) (sym (append-nil d))

spelled : (c : Stop) (k : ℕ) → stop_line c k ≡ spaced (stop_words c k)
unfolding stop_line
spelled Fuel k = one_number (codes "stop fuel ") (decimal k)
spelled Deep k = one_number (codes "stop depth ") (decimal k)
spelled (Repeated i j) k = ap (λ xs. codes "stop word " ++ decimal i ++ 32 ∷ xs) (sym (append-nil (decimal j)))
spelled Astray k = one_number (codes "stop astray ") (decimal k)

stop_fits : (c : Stop) (k : ℕ) → AllSome IsWord (stop_words c k)
stop_fits Fuel k = (ordinary_word (codes "stop") refl, (ordinary_word (codes "fuel") refl, (decimal_word k, tt)))
stop_fits Deep k = (ordinary_word (codes "stop") refl, (ordinary_word (codes "depth") refl, (decimal_word k, tt)))
stop_fits (Repeated i j) k = (ordinary_word (codes "stop") refl, (ordinary_word (codes "word") refl, (decimal_word i, (decimal_word j, tt))))
stop_fits Astray k = (ordinary_word (codes "stop") refl, (ordinary_word (codes "astray") refl, (decimal_word k, tt)))

-- the last lines of a run, by their words: the line of its stop, where it stopped
abbrev last : Run → List Line
last (Goes w) = []
last (Stopped c k w) = stop_words c k ∷ []

last_fits : (r : Run) → AllOf (AllSome IsWord) (last r)
last_fits (Goes w) = tt
last_fits (Stopped c k w) = (stop_fits c k, tt)

last_is : (r : Run) → stop_text r ≡ flat_map ended (last r)
unfolding stop_text
last_is (Goes w) = refl
last_is (Stopped c k w) = ap (λ xs. xs ++ 10 ∷ []) (spelled c k) ∙ sym (append-nil (ended (stop_words c k)))

stop_kind : (c : Stop) (k : ℕ) → kind_in (stop_words c k) ≡ codes "stop"
stop_kind Fuel k = refl
stop_kind other k = refl

kinds_go : (e : Event) → bytes_eq (kind e) (codes "stop") ≡ false
kinds_go (Open v) = refl
kinds_go (Raw (Inject k v w bytes)) = refl
kinds_go (Raw (InjectCut k v w)) = refl
kinds_go (Raw (Malformed k v w place)) = refl
kinds_go (Raw (Bytes k v w bytes)) = refl
kinds_go (Raw (LeftBytes v w bytes)) = refl
kinds_go other = refl

-- ---- lines of events, and the last

module _ (vats : List (List ℕ)) where
  no_event : (c : Stop) (k : ℕ) (e : Event) → stop_words c k ≡ words vats e → ⊥
  no_event c k e i = true_false (ap (λ w. bytes_eq w (codes "stop")) (sym (stop_kind c k) ∙ ap kind_in i ∙ kinds_told vats e) ∙ kinds_go e)

  head_line : (v u : Line) (vs us : List Line) → ◌≡◌ {A = List Line} (v ∷ vs) (u ∷ us) → v ≡ u
  head_line v u vs us i = cc

  tail_lines : (v u : Line) (vs us : List Line) → ◌≡◌ {A = List Line} (v ∷ vs) (u ∷ us) → vs ≡ us
  tail_lines v u vs us i = cc

  lines_go : (r : Run) (e : Event) (ws : List Line) → last r ≡ words vats e ∷ ws → ⊥
  lines_go (Goes w) e ws i = cc
  lines_go (Stopped c k w) e ws i = no_event c k e (head_line (stop_words c k) (words vats e) [] ws i)

  later : (v u : Line) (vs us : List Line) → ◌≡◌ {A = List Line} (v ∷ vs) (u ∷ us) → (v ≡ u) × (vs ≡ us)
  later v u vs us i = (head_line v u vs us i, tail_lines v u vs us i)

  cons_line : (v u : Line) (vs us : List Line) → v ≡ u → vs ≡ us → ◌≡◌ {A = List Line} (v ∷ vs) (u ∷ us)
  cons_line v u vs us i j = cc

  lines_apart : (xs ys : List Event) (r q : Run) → map (words vats) xs ++ last r ≡ map (words vats) ys ++ last q → (map (words vats) xs ≡ map (words vats) ys) × (last r ≡ last q)
  lines_apart [] [] r q i = (refl, i)
  lines_apart [] (y ∷ ys) r q i = absurd (lines_go r y (map (words vats) ys ++ last q) i)
  lines_apart (x ∷ xs) [] r q i = absurd (lines_go q x (map (words vats) xs ++ last r) (sym i))
  lines_apart (x ∷ xs) (y ∷ ys) r q i =
      let one = later (words vats x) (words vats y) (map (words vats) xs ++ last r) (map (words vats) ys ++ last q) i in
      let behind = lines_apart xs ys r q one.1 in
      (cons_line (words vats x) (words vats y) (map (words vats) xs) (map (words vats) ys) one.0 behind.0, behind.1)

  rendered : (xs : List Event) (r : Run) → render vats xs ++ stop_text r ≡ flat_map ended (map (words vats) xs ++ last r)
  rendered [] r = last_is r
  rendered (x ∷ xs) r = append_assoc (ended (words vats x)) (render vats xs) (stop_text r) ∙ ap (λ t. ended (words vats x) ++ t) (rendered xs r)

  all_fit : AllOf IsOrdinary vats → (xs : List Event) (r : Run) → AllOf WordsFit xs → AllOf (AllSome IsWord) (map (words vats) xs ++ last r)
  all_fit good [] r h = last_fits r
  all_fit good (x ∷ xs) r h = (some_words vats good x h.0, all_fit good xs r h.1)

itself : (xs : List Line) → map (λ (x : Line). x) xs ≡ xs
itself [] = refl
itself (x ∷ xs) = ap (λ (ls : List Line). x ∷ ls) (itself xs)

module _ (vats : List (List ℕ)) (good : AreVats vats) where
  -- events, and how the run ended
  runs_told : (xs ys : List Event) (r q : Run) → AllOf (IsEventOf vats) xs → AllOf (IsEventOf vats) ys → render vats xs ++ stop_text r ≡ render vats ys ++ stop_text q → OneForOne EventsAlike xs ys × (stop_text r ≡ stop_text q)
  runs_told xs ys r q h g i =
      let ordinary = ordinary_vats vats good in
      let us : List Line = map (words vats) xs ++ last r in let vs : List Line = map (words vats) ys ++ last q in
      let lines : us ≡ vs = sym (itself us) ∙ texts_apart spaced (λ (x : Line). x) (AllSome IsWord) (λ x y p t a b j. words_apart x y p t a b j) us vs
      (all_fit vats ordinary xs r (each_fits vats good xs h)) (all_fit vats ordinary ys q (each_fits vats good ys g)) (sym (rendered vats xs r) ∙ i ∙ rendered vats ys q) ∙ itself vs in
      let both = lines_apart vats xs ys r q lines in
      (events_told vats good xs ys h g both.0, last_is r ∙ ap (λ ls. flat_map ended ls) both.1 ∙ sym (last_is q))

pub texts_tell_runs : TextsTellRuns
unfolding text wire_text
texts_tell_runs script other names good r q h g =
    let vats = vat_names script in (
      λ e. runs_told vats good (events_of r) (events_of q) r q h g (e ∙ ap (λ ns. render ns (events_of q) ++ stop_text q) (sym names)),
      λ e. runs_told vats good (filter is_no_frame (events_of r)) (filter is_no_frame (events_of q)) r q (some_fit (IsEventOf vats) is_no_frame (events_of r) h) (some_fit (IsEventOf vats) is_no_frame (events_of q) g)
          (e ∙ ap (λ ns. render ns (filter is_no_frame (events_of q)) ++ stop_text q) (sym names)),
    )
