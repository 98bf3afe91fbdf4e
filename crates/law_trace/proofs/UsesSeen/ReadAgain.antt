-- What is read of the text of a run is judged as its events.
use Rattle.std.proofs.Common.{◌≡◌, ◌≤◌, ◌++◌, ◌∙◌, ℕ, true, List, [], ◌∷◌, map, filter, length, Option, Some, None, Ok, refl, sym, ap, subst}
use Rattle.std.proofs.lemmas.List.{map-append}
use Rattle.def_event.specs.declared.event.Event.{Event}
use Rattle.def_event.specs.declared.event.Event.TheVariants.{End}
use Rattle.def_event.specs.Lines.{is_no_frame, line_of, render, spaced, vat, words}
use Rattle.def_event.specs.declared.trace.Trace.{Trace}
use Rattle.ev_script.specs.Vats.{place_of}
use Rattle.law_text.specs.Text.Feeds.{AllOf, IsOneLine}
use Rattle.ev_trace_words.specs.Laws.{AreNames}
use Rattle.ev_trace_words.specs.Words.{words_of}
use Rattle.ev_trace.specs.Naming.{names_in}
use Rattle.ev_trace.specs.Reading.{is_stop, read_text}
use Rattle.law_trace.specs.Trace.Seen.{seen}
use Rattle.law_trace.specs.Trace.Readable.{Below, IsRead}
use Rattle.law_trace.specs.Trace.Renamed.{event_to}
use Rattle.law_trace.specs.Trace.Texts.{Renumbers, found}
use Rattle.law_trace.specs.Trace.Placed.{place_in}
use Rattle.law_trace.proofs.Trace.NamesFound.{names_are}
use Rattle.law_trace.proofs.Trace.RenamedFits.{event_fits}
use Rattle.law_trace.proofs.Trace.RenamedSame.{words_same}
use Rattle.law_trace.proofs.Trace.VatsFound.{events_in}
use Rattle.law_trace.proofs.Trace.WholeAgain.{texts_again}
use Rattle.law_trace.proofs.Trace.Placed.{vats_placed}
use Rattle.law_trace.specs.UsesSeen.Alike.{UsesAreSame, HoldAlike}
use Rattle.law_trace.specs.UsesSeen.Laws.{UsesAreReadAgain, UsesOfRunsAreReadAgain}
use Rattle.law_trace.proofs.UsesSeen.Joining.{hold_same, hold_through, same_through}
use Rattle.law_trace.proofs.UsesSeen.SeenAlike.{uses_of_seen, uses_without_frames}
use Rattle.law_trace.proofs.UsesSeen.RenumberedAlike.{uses_of_renumbered}
use Rattle.law_trace.proofs.UsesSeen.NumbersApart.{number_in, number_is, numbers_apart}

-- ---- Events with the same numbers for their vats have the same lines. It is said of these that their vats have places, since places are carried along by what renumbers.

abbrev pub again : List Event → List Event
again es = map (event_to (λ v. v)) es

module _ (names : List (List ℕ)) where
  -- nothing is asked of the vats
  abbrev AreAny : List Event → Type 0
  AreAny es = AllOf (IsRead (λ v. vat names v ≡ vat names v)) es

  words_again : (es : List Event) → AreAny es → map (words names) (again es) ≡ map (words names) es
  words_again [] h = refl
  words_again (e ∷ es) h =
      ap (λ (w : List (List ℕ)). w ∷ map (words names) (again es)) (words_same names names (λ v. v) e h.0) ∙ ap (λ (ws : List (List (List ℕ))). words names e ∷ ws) (words_again es h.1)

  text_again : (es : List Event) → AreAny es → render names (again es) ≡ render names es
  text_again [] h = refl
  text_again (e ∷ es) h =
      ap (λ (ws : List (List ℕ)). (spaced ws ++ 10 ∷ []) ++ render names (again es)) (words_same names names (λ v. v) e h.0) ∙ ap (λ (r : List ℕ). (line_of names e ++ 10 ∷ []) ++ r) (text_again es h.1)

  placed_again : (fs : List (List ℕ)) (to : ℕ → ℕ) (es : List Event) → AllOf (IsRead (λ v. place_of fs (vat names v) ≡ Some (to v))) es → AllOf (IsRead (λ v. place_of fs (vat names v) ≡ Some (number_in names fs v))) (again es)
  placed_again fs to [] h = tt
  placed_again fs to (e ∷ es) h = (
    event_fits (λ v. place_of fs (vat names v) ≡ Some (to v)) (λ v. place_of fs (vat names v) ≡ Some (number_in names fs v)) (λ v. v) (λ v k. number_is names fs v (to v) k) e h.0,
    placed_again fs to es h.1,
  )

  module _ (are : AreNames names) where
    -- the number that a reader gives a vat, and one behind these for each that does not stand there
    abbrev pub number : List Event → ℕ → ℕ
    number es v = number_in names (found names es) v

    pub number_apart : (es : List Event) (v w : ℕ) → number es v ≡ number es w → v ≡ w
    number_apart es v w e = numbers_apart names (found names es) are (names_are (map (words names) es)) v w e

    any : (es : List Event) → AllOf (IsRead (Below names)) es → AreAny es
    any es h = events_in names are (λ v. vat names v ≡ vat names v) es h (λ v l i. refl)

    found_again : (es : List Event) → AllOf (IsRead (Below names)) es → found names (again es) ≡ found names es
    found_again es h = ap names_in (words_again es (any es h))

    renumbers : (es : List Event) → AllOf (IsRead (Below names)) es → length (found names es) ≤ 16 → Renumbers names (number es) (again es)
    renumbers es h few =
        let same : found names es ≡ found names (again es) = sym (found_again es h) in
        let placed : AllOf (IsRead (λ v. place_of (found names es) (vat names v) ≡ Some (number es v))) (again es) = placed_again (found names es) (place_in names es) es (vats_placed names es are h few).placed in
        record {
          few = subst (λ (fs : List (List ℕ)). length fs ≤ 16) same few;
          placed = subst (λ (fs : List (List ℕ)). AllOf (IsRead (λ v. place_of fs (vat names v) ≡ Some (number es v))) (again es)) same placed;
        }

    judged_again : (es : List Event) → UsesAreSame es (map seen (map (event_to (number es)) (again es)))
    judged_again es =
        let numbered = map (event_to (number es)) (again es) in
        same_through es (again es) (map seen numbered) (uses_of_renumbered (λ v. v) (λ v w e. e) es)
        (same_through (again es) numbered (map seen numbered) (uses_of_renumbered (number es) (number_apart es) (again es)) (uses_of_seen numbered))

    -- what is read of their text
    abbrev pub read_as : List Event → Option (List ℕ) → Trace
    read_as es stop = record { history = map seen (map (event_to (number es)) (again es)); names = found names (again es); stop = stop }

    ended_text : (es : List Event) → AllOf (IsRead (Below names)) (es ++ End ∷ []) → length (found names (es ++ End ∷ [])) ≤ 16 → read_text (render names (es ++ End ∷ [])) ≡ Ok (read_as (es ++ End ∷ []) None)
    ended_text es h few =
        let all = es ++ End ∷ [] in
        let last : again all ≡ again es ++ End ∷ [] = map-append (event_to (λ v. v)) es (End ∷ []) in
        let read = texts_again.ended names (number all) (again es) (subst (Renumbers names (number all)) last (renumbers all h few)) in
        ap read_text (sym (text_again all (any all h)) ∙ ap (render names) last) ∙ read
        ∙ ap (λ (fs : List Event). Ok (record { history = map seen (map (event_to (number all)) fs); names = found names fs; stop = None })) (sym last)

    pub stopped_text : (es : List Event) (stop : List ℕ) → AllOf (IsRead (Below names)) es → length (found names es) ≤ 16 → IsOneLine stop → is_stop (words_of stop) ≡ true → read_text (render names es ++ (stop ++ 10 ∷ [])) ≡ Ok (read_as es (Some stop))
    stopped_text es stop h few one is =
        ap (λ (text : List ℕ). read_text (text ++ (stop ++ 10 ∷ []))) (sym (text_again es (any es h))) ∙ texts_again.stopped names (number es) (again es) stop (renumbers es h few) one is

pub read_alike : UsesAreReadAgain
read_alike = record {
  ended = λ names es are h few. (read_as names are (es ++ End ∷ []) None, ended_text names are es h few, judged_again names are (es ++ End ∷ []));
  stopped = λ names es stop are h few one is. (read_as names are es (Some stop), stopped_text names are es stop h few one is, judged_again names are es);
}

-- ---- of a history with its frames, which its text leaves out

all_alike : (es : List Event) (trace : Trace) → UsesAreSame (filter is_no_frame es) trace.history → HoldAlike es trace.history
all_alike es trace h = hold_through es (filter is_no_frame es) trace.history (uses_without_frames es) (hold_same (filter is_no_frame es) trace.history h)

pub runs_alike : UsesOfRunsAreReadAgain
runs_alike = record {
  ended = λ names es fs last are h few.
      let r = read_alike.ended names fs are (subst (AllOf (IsRead (Below names))) last h) (subst (λ (xs : List Event). length (found names xs) ≤ 16) last few) in
      (r.0, ap (λ (xs : List Event). read_text (render names xs)) last ∙ r.1, all_alike es r.0 (subst (λ (xs : List Event). UsesAreSame xs (r.0).history) (sym last) r.2));
  stopped = λ names es stop are h few one is.
      let r = read_alike.stopped names (filter is_no_frame es) stop are h few one is in
      (r.0, r.1, all_alike es r.0 r.2);
}
