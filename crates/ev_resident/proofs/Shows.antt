-- The lines that the code tells of a step are those that the machine shows, where the names of the vat's numbers are these.
use Rattle.std.proofs.Common.{◌≡◌, ℕ, Bool, true, false, List, [], ◌∷◌, ◌++◌, Option, Some, None, refl, sym, ap, ◌∙◌, map, append_assoc}
use Rattle.ev_base.specs.declared.values.Value.{Value as Held}
use Rattle.ev_base.specs.declared.values.Value.TheVariants as held
use Rattle.ev_heap.specs.declared.kept.Capture.{Capture}
use Rattle.ev_heap.specs.declared.kept.Capture.TheVariants as capture
use Rattle.ev_heap.specs.declared.happened.Happened.{Happened as Heard}
use Rattle.ev_heap.specs.declared.happened.Happened.TheVariants as event
use Rattle.def_event.specs.declared.event.Event.{Event as ShownEvent}
use Rattle.def_event.specs.declared.event.Event.TheVariants as line
use Rattle.def_event.specs.declared.shown.Shown as shown
use Rattle.ev_base.specs.declared.names.Msg.{Msg as ShownMsg}
use Rattle.ev_base.specs.declared.names.Name.{Name as ShownName}
use Rattle.def_machine.specs.Values.{Words, Local, Name, Mess}
use Rattle.def_machine.specs.State.{Happened, Sends, Posted}
use Rattle.def_machine.specs.Maps as maps
use Rattle.def_run.specs.World.{Event, Link, LostCut, event_of, events_of, is_cut}
use Rattle.def_run.specs.Shown.{shown_value, shown_values, shown_capture, shown_slot, shown_happened, shown_event, shown_send, shown_reaction}
use Rattle.def_run.specs.Text.{shown_events}
use Rattle.ev_pass.specs.Reading as inside
use Rattle.ev_room.specs.Reading.{World, value_of, problem_of, capture_in, ejector_line, audition_line, promise_line, message_of, referred_line, made_line, line_of, lines_of}
use Rattle.ev_step_lines.specs.Lines as told
use Rattle.ev_step_lines.specs.Lines.{Naming, Telling}
use Rattle.ev_resident.specs.Printing.{Agrees, LinesAreShown, TellsCuts, telling_in}

module _ (draws : List ℕ) where
  pub shown_events-append : (a b : List Event) → shown_events draws (a ++ b) ≡ shown_events draws a ++ shown_events draws b
  unfolding shown_events
  shown_events-append [] b = refl
  shown_events-append (e ∷ a) b =
      ap (λ (es : List ShownEvent). shown_event draws e ++ es) (shown_events-append a b)
      ∙ sym (append_assoc (shown_event draws e) (shown_events draws a) (shown_events draws b))

-- the names of the numbers, and the links
module _ (draws : List ℕ) (f : Local → Name) (n : Naming) (links : List Link) where
  -- what the machine shows of a line of that vat
  unfoldable pub shown_of : Happened Local → List ShownEvent
  shown_of h = shown_events draws (event_of links n.vat (maps.line f h))

  unfoldable pub all_shown : List (Happened Local) → List ShownEvent
  all_shown [] = []
  all_shown (h ∷ hs) = shown_of h ++ all_shown hs

  pub all_shown-append : (a b : List (Happened Local)) → all_shown (a ++ b) ≡ all_shown a ++ all_shown b
  unfolding all_shown
  all_shown-append [] b = refl
  all_shown-append (h ∷ a) b = ap (λ (es : List ShownEvent). shown_of h ++ es) (all_shown-append a b) ∙ sym (append_assoc (shown_of h) (all_shown a) (all_shown b))

  pub events-shown : (hs : List (Happened Local)) → shown_events draws (events_of links n.vat (map (maps.line f) hs)) ≡ all_shown hs
  unfolding events_of all_shown shown_of
  events-shown [] = unfold shown_events in refl
  events-shown (h ∷ hs) =
      shown_events-append draws (event_of links n.vat (maps.line f h)) (events_of links n.vat (map (maps.line f) hs))
      ∙ ap (λ (es : List ShownEvent). shown_of h ++ es) (events-shown hs)

-- the texts, and which links are cut
module _ (draws : List ℕ) (f : Local → Name) (n : Naming) (links : List Link) (cut : List Bool) (w : World) (agrees : Agrees draws f n) (cuts : TellsCuts n.vat links cut) where
  abbrev telling : Telling
  telling = telling_in n w cut

  abbrev shows : List (Happened Local) → List ShownEvent
  shows hs = all_shown draws f n links hs

  pub value-shown : (v : Held) → shown_value draws n.vat (maps.value f (value_of w v)) ≡ told.shown_held telling v
  unfolding shown_value
  value-shown held.Null = refl
  value-shown (held.Bool b) = refl
  value-shown (held.Int z) = refl
  value-shown (held.Char c) = refl
  value-shown (held.Text id) = refl
  value-shown (held.List id) = refl
  value-shown (held.Prim k) = refl
  value-shown (held.Obj i) = ap (λ (x : ShownName). shown.Name x) (agrees.object i)
  value-shown (held.Prom k) = ap (λ (x : ShownName). shown.Name x) (agrees.promise k)
  value-shown (held.Far h p) = ap (λ (x : ShownName). shown.Name x) (agrees.far h p)
  value-shown (held.Broken id) = refl

  pub values-shown : (vs : List Held) → shown_values draws n.vat (map (maps.value f) (map (value_of w) vs)) ≡ map (told.shown_held telling) vs
  unfolding shown_values
  values-shown [] = refl
  values-shown (v ∷ vs) = cc (value-shown v, values-shown vs)

  problem-shown : (v : Held) → problem_of w v ≡ told.problem_at telling v
  problem-shown (held.Text id) = refl
  problem-shown _ = refl

  capture-shown : (c : Capture) → shown_capture draws n.vat (maps.bound f (capture_in w c)) ≡ told.shown_capture telling c
  unfolding shown_capture
  capture-shown (capture.Fixed v g) = value-shown v
  capture-shown (capture.Slot k) = refl

  captures-shown : (cs : List Capture) → map (shown_capture draws n.vat) (map (maps.bound f) (map (capture_in w) cs)) ≡ map (told.shown_capture telling) cs
  captures-shown [] = refl
  captures-shown (c ∷ cs) = cc (capture-shown c, captures-shown cs)

  made-shown : (act : ℕ) (v : Held) (x : Words) (cs : List Capture) (vs : List Held) → shows (made_line w act v x cs vs) ≡ told.made_lines telling act v x cs vs
  unfolding all_shown shown_of event_of shown_events shown_event shown_happened
  made-shown act (held.Obj i) x cs vs = rw (captures-shown cs, values-shown vs, agrees.object i) refl
  made-shown act _ x cs vs = refl

  ejector-shown : (act : ℕ) (v : Held) → shows (ejector_line act v) ≡ told.ejector_lines telling act v
  unfolding all_shown shown_of event_of shown_events shown_event shown_happened
  ejector-shown act (held.Obj i) = ap (λ (x : ShownName). line.Ejector act (shown.Name x) ∷ []) (agrees.object i)
  ejector-shown act _ = refl

  audition-shown : (act : ℕ) (v : Held) → shows (audition_line act v) ≡ told.audition_lines telling act v
  unfolding all_shown shown_of event_of shown_events shown_event shown_happened
  audition-shown act (held.Obj i) = ap (λ (x : ShownName). line.Audition act (shown.Name x) ∷ []) (agrees.object i)
  audition-shown act _ = refl

  promise-shown : (act p : ℕ) (v : Held) → shows (promise_line act p v) ≡ told.promise_lines telling act p v
  unfolding all_shown shown_of event_of shown_events shown_event shown_happened
  promise-shown act p (held.Obj i) = cc (agrees.promise p, agrees.object i)
  promise-shown act p _ = refl

  sent-shown : (act m : ℕ) (x : Held) (verb : Words) (args : List Held) (answer : Option ℕ)
      → shows (Sends act (message_of w m x verb args answer) ∷ []) ≡ told.sent_line telling act m x verb args answer ∷ []
  unfolding all_shown shown_of event_of shown_events shown_event shown_happened shown_send
  sent-shown act m x verb args None = rw (value-shown x, values-shown args, agrees.message m) refl
  sent-shown act m x verb args (Some a) = rw (value-shown x, values-shown args, agrees.message m, agrees.promise a) refl

  lost_shown : (b : Bool) (m : ℕ) → shown_events draws (elim b [ true ↦ LostCut (f (Mess m)) ∷ [] | false ↦ [] ]) ++ [] ≡ told.lost_if b telling m
  unfolding shown_events shown_event
  lost_shown true m = ap (λ (x : ShownMsg). line.LostCut x ∷ []) (agrees.message m)
  lost_shown false m = refl

  posted-shown : (h m : ℕ) → shows (Posted h (Mess m) ∷ []) ≡ told.posted_lines telling h m
  unfolding all_shown shown_of event_of
  posted-shown h m = lost_shown (is_cut n.vat h links) m ∙ ap (λ (b : Bool). told.lost_if b telling m) (cuts h)

  referred-shown : (e : Heard) → shows (referred_line w e) ≡ told.referred telling e
  unfolding referred_line all_shown shown_of event_of shown_events shown_event shown_happened shown_slot shown_reaction
  referred-shown (event.Take act m x verb args answer) = rw (value-shown x, values-shown args, agrees.message m) refl
  referred-shown (event.Arrived k vs) = rw (values-shown vs) refl
  referred-shown (event.Promise act p v) = promise-shown act p v
  referred-shown (event.Send act m x verb args answer) = sent-shown act m x verb args answer
  referred-shown (event.When act m x o near answer) = rw (value-shown x, value-shown o, agrees.message m, agrees.promise answer) refl
  referred-shown (event.Done act v) = rw (value-shown v) refl
  referred-shown (event.Threw act p) = rw (problem-shown p) refl
  referred-shown (event.Settle p v) = cc (agrees.promise p, value-shown v)
  referred-shown (event.Wait p q) = cc (agrees.promise p, agrees.promise q)
  referred-shown (event.View p q) = cc (agrees.promise p, agrees.promise q)
  referred-shown (event.LostBroken m) = ap (λ (x : ShownMsg). line.LostBroken x ∷ []) (agrees.message m)
  referred-shown (event.Posted h m) = posted-shown h m
  referred-shown _ = refl

  line-shown : (e : Heard) → shows (line_of w e) ≡ told.lines telling e
  unfolding line_of all_shown shown_of event_of shown_events shown_event shown_happened shown_slot
  line-shown (event.Call act target verb args begun) = rw (value-shown target, values-shown args) refl
  line-shown (event.Back act v) = rw (value-shown v) refl
  line-shown (event.Thrown act p) = rw (problem-shown p) refl
  line-shown (event.Gone act) = refl
  line-shown (event.Got act v) = rw (value-shown v) refl
  line-shown (event.Ejector act v) = ejector-shown act v
  line-shown (event.Audition act v) = audition-shown act v
  line-shown (event.Slot act k v) = rw (value-shown v) refl
  line-shown (event.Read act k v) = rw (value-shown v) refl
  line-shown (event.Wrote act k v) = rw (value-shown v) refl
  line-shown (event.List act k vs) = rw (values-shown vs) refl
  line-shown (event.Made act v x cs vs) = made-shown act v x cs vs
  line-shown e = referred-shown e

  all_lines : (es : List Heard) → shows (lines_of w es) ≡ told.lines_of telling es
  unfolding inside.lines_of all_shown
  all_lines [] = refl
  all_lines (e ∷ es) = all_shown-append draws f n links (line_of w e) (lines_of w es) ∙ rw (line-shown e, all_lines es) refl

pub lines_shown : LinesAreShown
lines_shown draws f n links cut w agrees cuts es = events-shown draws f n links (lines_of w es) ∙ all_lines draws f n links cut w agrees cuts es
