-- The line of a stop is read as one, and the number of its step is small.
use Rattle.std.proofs.Common.{◌≡◌, ◌⊎◌, ◌+◌, ◌<◌, ◌^◌, ◌++◌, ◌&&◌, ℕ, Bool, true, false, List, [], ◌∷◌, Option, Some, None, inl, inr, length, length-append, refl, sym, ◌∙◌, ap, arith}
use Rattle.std.specs.Prelude.{codes, decimal, is_some, pred, slice_get}
use Rattle.std.specs.Str.{IsUtf8}
use Rattle.std.proofs.lemmas.List.{append-nil}
use Rattle.std.proofs.lemmas.Str.{IsUtf8-append}
use Rattle.def_machine.specs.Values.{Name}
use Rattle.def_machine.specs.State.{Message, Note, Stop, Fuel, Deep, Repeated, Astray, Vat, Done, Gives, Stops, Act}
use Rattle.def_run.specs.World as world
use Rattle.def_run.specs.World.{Script, Program, Entry, Turn, Carry, CutLink, NoticeLink, Link, Event, World, Run, Goes, Stopped, run}
use Rattle.def_run.specs.Text.{stop_line}
use Rattle.law_machine.specs.Halting.Halted.{OpeningStops, EntryStops}
use Rattle.law_machine.proofs.Halting.Halted.{stopped_leave}
use Rattle.law_text.specs.Text.Feeds.{IsOneLine}
use Rattle.law_text.proofs.Text.Plain.{decimal_line, line_append, line_cons}
use Rattle.law_text.proofs.Text.Reading.{decimal_word, ordinary_word}
use Rattle.ev_trace_words.specs.Words.{words_of}
use Rattle.ev_trace_words.proofs.Printed.{count_again}
use Rattle.ev_trace.specs.Reading.{is_stop}
use Rattle.law_trace.proofs.Trace.WordsAgain.{words_back}
use Rattle.law_read.specs.ReadTexts.Runs.{TellsLow}
use Rattle.law_read.proofs.ReadTexts.Utf8.{ascii, decimal_low}

-- ---- the line

pub record IsStopLine (line : List ℕ) : Type 0 where
  pub utf8 : IsUtf8 line
  pub one : IsOneLine line
  pub read : is_stop (words_of line) ≡ true

and_true : (a b : Bool) → a ≡ true → b ≡ true → (a && b) ≡ true
and_true a b e f = rw (e, f) refl

of_words : (line : List ℕ) (ws : List (List ℕ)) → words_of line ≡ ws → is_stop ws ≡ true → is_stop (words_of line) ≡ true
of_words line ws e h = ap is_stop e ∙ h

fuel_line : (k : ℕ) → k < 2 ^ 64 → IsStopLine (codes "stop fuel " ++ decimal k)
fuel_line k h = record {
  utf8 = IsUtf8-append (codes "stop fuel ") (decimal k) (ascii (codes "stop fuel ") refl) (ascii (decimal k) (decimal_low k));
  one = line_append (codes "stop fuel ") (decimal k) refl (decimal_line k);
  read = of_words (codes "stop fuel " ++ decimal k) (codes "stop" ∷ codes "fuel" ∷ decimal k ∷ [])
      (ap (λ d. words_of (codes "stop fuel " ++ d)) (sym (append-nil (decimal k))) ∙ words_back (codes "stop" ∷ codes "fuel" ∷ decimal k ∷ []) (ordinary_word (codes "stop") refl, (ordinary_word (codes "fuel") refl, (decimal_word k, tt))))
      (ap is_some (count_again k h));
}

depth_line : (k : ℕ) → k < 2 ^ 64 → IsStopLine (codes "stop depth " ++ decimal k)
depth_line k h = record {
  utf8 = IsUtf8-append (codes "stop depth ") (decimal k) (ascii (codes "stop depth ") refl) (ascii (decimal k) (decimal_low k));
  one = line_append (codes "stop depth ") (decimal k) refl (decimal_line k);
  read = of_words (codes "stop depth " ++ decimal k) (codes "stop" ∷ codes "depth" ∷ decimal k ∷ [])
      (ap (λ d. words_of (codes "stop depth " ++ d)) (sym (append-nil (decimal k))) ∙ words_back (codes "stop" ∷ codes "depth" ∷ decimal k ∷ []) (ordinary_word (codes "stop") refl, (ordinary_word (codes "depth") refl, (decimal_word k, tt))))
      (ap is_some (count_again k h));
}

word_line : (i j : ℕ) → i < 2 ^ 64 → j < 2 ^ 64 → IsStopLine (codes "stop word " ++ decimal i ++ 32 ∷ decimal j)
word_line i j h l = record {
  utf8 = IsUtf8-append (codes "stop word " ++ decimal i) (32 ∷ decimal j) (IsUtf8-append (codes "stop word ") (decimal i) (ascii (codes "stop word ") refl) (ascii (decimal i) (decimal_low i))) (ascii (32 ∷ decimal j) (decimal_low j));
  one = line_append (codes "stop word " ++ decimal i) (32 ∷ decimal j) (line_append (codes "stop word ") (decimal i) refl (decimal_line i)) (line_cons 32 (decimal j) refl (decimal_line j));
  read = of_words (codes "stop word " ++ decimal i ++ 32 ∷ decimal j) (codes "stop" ∷ codes "word" ∷ decimal i ∷ decimal j ∷ [])
      (ap (λ d. words_of (codes "stop word " ++ decimal i ++ 32 ∷ d)) (sym (append-nil (decimal j)))
      ∙ words_back (codes "stop" ∷ codes "word" ∷ decimal i ∷ decimal j ∷ []) (ordinary_word (codes "stop") refl, (ordinary_word (codes "word") refl, (decimal_word i, (decimal_word j, tt)))))
      (and_true _ _ (ap is_some (count_again i h)) (ap is_some (count_again j l)));
}

pub stop_lines : (c : Stop) (k : ℕ) → (c ≡ Astray → ⊥) → TellsLow c → k < 2 ^ 64 → IsStopLine (stop_line c k)
unfolding stop_line
stop_lines Fuel k known low h = fuel_line k h
stop_lines Deep k known low h = depth_line k h
stop_lines (Repeated i j) k known low h = word_line i j low.0 low.1
stop_lines Astray k known low h = absurd (known refl)

-- ---- the step in which a run stops

same_step : (c d : Stop) (k n : ℕ) (x y : World) → Stopped c k x ≡ Stopped d n y → k ≡ n
same_step c d k n x y e = cc

goes_on : (x y : World) (c : Stop) (n : ℕ) → Goes x ≡ Stopped c n y → ⊥
goes_on x y c n e = cc

-- the run stops in that step, if it stops
abbrev StopsAt : ℕ → Run → Type 0
StopsAt k r = (c : Stop) (n : ℕ) (y : World) → r ≡ Stopped c n y → n ≡ k

stopped_at : (c : Stop) (k : ℕ) (w : World) → StopsAt k (Stopped c k w)
stopped_at c k w d n y e = sym (same_step c d k n w y e)

never_stops : (k : ℕ) (w : World) → StopsAt k (Goes w)
never_stops k w d n y e = absurd (goes_on w y d n e)

put_back_at : (v : ℕ) (w : World) (head : List Event) (k : ℕ) (d : Done Name (Unit {0})) → StopsAt k (world.put_back v w head k d)
unfolding world.put_back
put_back_at v w head k (Gives u s) = never_stops k _
put_back_at v w head k (Stops c s) = stopped_at c k w
put_back_at v w head k other = stopped_at Astray k w

within_at : (v : ℕ) (w : World) (head : List Event) (k : ℕ) (m : Act Name (Unit {0})) (o : Option (Vat Name)) → StopsAt k (world.within v w head k m o)
unfolding world.within
within_at v w head k m None = stopped_at Astray k w
within_at v w head k m (Some s) = put_back_at v w head k (m (world.readied w s))

module _ (script : Script) where
  idle_at : (k n : ℕ) (w : World) → StopsAt n (world.idle script k w)
  unfolding world.idle
  idle_at k n w = never_stops n _

  queue_at : (k v : ℕ) (w : World) (s : Vat Name) (ms : List (Message Name)) → StopsAt (world.step_number script k) (world.turn_queue script k v w s ms)
  unfolding world.turn_queue
  queue_at k v w s [] = idle_at k (world.step_number script k) w
  queue_at k v w s (m ∷ ms) = within_at v w _ (world.step_number script k) _ _

  turn_at : (k v : ℕ) (w : World) (o : Option (Vat Name)) → StopsAt (world.step_number script k) (world.turn script k v w o)
  unfolding world.turn
  turn_at k v w None = idle_at k (world.step_number script k) w
  turn_at k v w (Some s) = queue_at k v w s s.queue

  arrives_at : (k v u : ℕ) (w : World) (n : Note Name) (o : Option (Vat Name)) → StopsAt (world.step_number script k) (world.arrives script k v u w n o)
  unfolding world.arrives
  arrives_at k v u w n None = idle_at k (world.step_number script k) w
  arrives_at k v u w n (Some s) = within_at u w _ (world.step_number script k) _ (Some s)

  notes_at : (k v u : ℕ) (w : World) (ns : List (Note Name)) → StopsAt (world.step_number script k) (world.carry_notes script k v u w ns)
  unfolding world.carry_notes
  notes_at k v u w [] = idle_at k (world.step_number script k) w
  notes_at k v u w (n ∷ ns) = arrives_at k v u _ n (slice_get w.vats u)

  by_cut : (k n : ℕ) (b : Bool) (w : World) (r : Run) → StopsAt n r → StopsAt n (elim b [ true ↦ world.idle script k w | false ↦ r ])
  by_cut k n true w r h = idle_at k n w
  by_cut k n false w r h = h

  link_at : (k v u : ℕ) (w : World) (o : Option Link) → StopsAt (world.step_number script k) (world.carry_link script k v u w o)
  unfolding world.carry_link
  link_at k v u w None = idle_at k (world.step_number script k) w
  link_at k v u w (Some l) = by_cut k (world.step_number script k) l.cut w (world.carry_notes script k v u w l.notes) (notes_at k v u w l.notes)

  step_at : (e : Entry) (k : ℕ) (w : World) → StopsAt (world.step_number script k) (world.step script e k w)
  unfolding world.step world.cut
  step_at (Turn v) k w = turn_at k v w (slice_get w.vats v)
  step_at (Carry v u) k w = link_at k v u w (world.link_at v u w.links)
  step_at (CutLink v u) k w = never_stops (world.step_number script k) _
  step_at (NoticeLink v u) k w = within_at v w _ (world.step_number script k) _ (slice_get w.vats v)

  opening_at : (v : ℕ) (p : Program) (w : World) → StopsAt v (world.open_vat script v p w)
  unfolding world.open_vat
  opening_at v p w = within_at v w _ v _ (slice_get w.vats v)

  -- a step of the script
  in_front : {A : Type 0} (xs ys zs : List A) (z : A) → xs ≡ ys ++ z ∷ zs → length ys < length xs
  in_front xs ys zs z e = let l = length-append ys (z ∷ zs) in let same : length xs ≡ length (ys ++ z ∷ zs) = ap length e in omega (arith, l, same)

  numbered : (n : ℕ) → world.step_number script (1 + n) ≡ length script.vats + n
  unfolding world.step_number
  numbered n = ap (λ m. length script.vats + m) (before n)
    where
      before : (n : ℕ) → pred (1 + n) ≡ n
      before n = omega arith

  pub steps_few : (c : Stop) (k : ℕ) (w : World) → run script ≡ Stopped c k w → k < length script.vats + length script.schedule
  steps_few c k w e = let left = stopped_leave script c k w e in by left.0 left.1
    where
      by : (x : World) → OpeningStops script x (Stopped c k w) ⊎ EntryStops script x (Stopped c k w) → k < length script.vats + length script.schedule
      by x (inl (ps, rest, p, vats, before, stops)) = let at = opening_at (length ps) p x c k w stops in let l = in_front script.vats ps rest p vats in omega (arith, at, l)
      by x (inr (opened, es, rest, entry, schedule, first, before, stops)) =
          let at = step_at entry (1 + length es) x c k w stops in let n = numbered (length es) in let l = in_front script.schedule es rest entry schedule in omega (arith, at, n, l)
