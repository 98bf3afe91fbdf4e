-- The calls that the lines of a run leave open, as those of the machine.
use Rattle.std.proofs.Common.{◌≡◌, ℕ, ◌+◌, ◌==◌, Bool, true, false, List, [], ◌∷◌, ◌++◌, Option, Some, None, if◌then◌else◌, refl, sym, ap, ◌∙◌, subst, drop, inl, inr, append_assoc, append-nil, arith}
use Rattle.std.proofs.lemmas.Bool.{eqb-true, eq-eqb}
use Rattle.def_event.specs.declared.event.Called.{Called as ShownCall}
use Rattle.def_event.specs.declared.shown.Shown as shown
use Rattle.def_event.specs.declared.event.Event.{Event as ShownEvent}
use Rattle.def_event.specs.declared.event.Event.TheVariants as event
use Rattle.def_machine.specs.Values.{Words, Value, Name}
use Rattle.def_machine.specs.State.{Message, Happened, Called, Back, Thrown, Left, Sends, Reacts, Posted}
use Rattle.def_run.specs.World as world
use Rattle.def_run.specs.World.{Event, Here, LostCut, Link, events_of, event_of}
use Rattle.def_run.specs.Shown as show
use Rattle.def_run.specs.Text.{shown_events}
use Rattle.law_fate.proofs.Fates.RunCounts.{pick}
use Rattle.law_uses.specs.Connectivity.Connected.{Open, open_after, open_from, without_first}
use Rattle.law_uses.specs.Connectivity.Nesting.{closed_by, nested_after, nested_on, nested_from}
use Rattle.law_uses.proofs.Connectivity.Events.{IsNobodys}
use Rattle.def_event.specs.Uses.{Line, line_after, and_lines, place_of, place_after, OpenCall, calls_after, open_calls}
use Rattle.law_uses.proofs.Uses.Lines.{lines_join}
use Rattle.law_uses.proofs.Uses.Shown.{lines, shown_join}

not_true : (b : Bool) → (b ≡ true → ⊥) → b ≡ false
not_true true f = absurd (f refl)
not_true false f = refl

if_same : {A : Type 0} (b : Bool) (x : A) → (if b then x else x) ≡ x
if_same true x = refl
if_same false x = refl

-- a call of vat v as a line shows it
abbrev pub call_of : List ℕ → ℕ → ℕ → Value Name → Words → List (Value Name) → Option ℕ → ShownCall
call_of draws v a x verb args b = record { activation = a; target = show.shown_value draws v x; verb = verb; args = show.shown_values draws v args; begun = b }

-- ---- one line

module _ (draws : List ℕ) (v a : ℕ) where
  -- the calls of activation a of vat v that these lines leave open
  abbrev pub calls : List Line → List OpenCall
  calls past = open_calls past (v + 1) a

  here_calls : (past : List Line) (f : ShownEvent) → place_after (place_of past) f ≡ v + 1 → calls (line_after past f ∷ past) ≡ calls_after past f a (calls past)
  here_calls past f p = ap (λ b. if b then calls_after past f a (calls past) else calls past) (eq-eqb (place_after (place_of past) f) (v + 1) p)

  kept_calls : (past : List Line) (f : ShownEvent) → calls_after past f a (calls past) ≡ calls past → calls (line_after past f ∷ past) ≡ calls past
  kept_calls past f k = ap (λ cs. if place_after (place_of past) f == v + 1 then cs else calls past) k ∙ if_same (place_after (place_of past) f == v + 1) (calls past)

  away_calls : (past : List Line) (f : ShownEvent) (u : ℕ) → (u ≡ v → ⊥) → place_after (place_of past) f ≡ u + 1 → calls (line_after past f ∷ past) ≡ calls past
  away_calls past f u n p = ap (λ b. if b then calls_after past f a (calls past) else calls past) (not_true (place_after (place_of past) f == v + 1) (λ e. n (less (p ∙ refl) (eqb-true (place_after (place_of past) f) (v + 1) e))))
    where
      less : place_after (place_of past) f ≡ u + 1 → place_after (place_of past) f ≡ v + 1 → u ≡ v
      less q r = omega arith

  -- the calls that a line leaves of those before it
  unfoldable effect : Happened Name → List Line → List OpenCall → List OpenCall
  effect (Called b x verb args o) past cs = if b == a then record { call = call_of draws v b x verb args o; before = past } ∷ cs else cs
  effect (Back b x) past cs = if b == a then drop 1 cs else cs
  effect (Thrown b p) past cs = if b == a then drop 1 cs else cs
  effect (Left b) past cs = if b == a then drop 1 cs else cs
  effect _ past cs = cs

  -- events that leave the calls as they are
  abbrev AllKeep : List ShownEvent → Type 0
  AllKeep [] = Unit {0}
  AllKeep (f ∷ fs) = ((past : List Line) (cs : List OpenCall) → calls_after past f a cs ≡ cs) × AllKeep fs

  kept_list : (past : List Line) (fs : List ShownEvent) → AllKeep fs → calls (and_lines past fs) ≡ calls past
  kept_list past [] k = refl
  kept_list past (f ∷ fs) k = kept_list (line_after past f ∷ past) fs k.1 ∙ kept_calls past f (k.0 past (calls past))

  send_keeps : (b : ℕ) (m : Message Name) (o : Option Name) → AllKeep (show.shown_send draws v b m o ∷ [])
  unfolding show.shown_send calls_after
  send_keeps b m (Some n) = (λ past cs. refl, tt)
  send_keeps b m None = (λ past cs. refl, tt)

  reaction_keeps : (b : ℕ) (x y : Value Name) (m : Message Name) (o : Option Name) → AllKeep (show.shown_reaction draws v b x y m o)
  unfolding show.shown_reaction calls_after
  reaction_keeps b x y m (Some n) = (λ past cs. refl, tt)
  reaction_keeps b x y m None = tt

  happened_calls : (past : List Line) (e : Happened Name) → place_of past ≡ v + 1 → calls (and_lines past (show.shown_happened draws v e)) ≡ effect e past (calls past)
  unfolding show.shown_happened calls_after place_after effect
  happened_calls past (Called b x verb args o) p = here_calls past (event.Call (call_of draws v b x verb args o)) p
  happened_calls past (Back b x) p = here_calls past (event.Back b (show.shown_value draws v x)) p
  happened_calls past (Thrown b t) p = here_calls past (event.Thrown b (shown.Text t)) p
  happened_calls past (Left b) p = here_calls past (event.Gone b) p
  happened_calls past (Sends b m) p = kept_list past (show.shown_send draws v b m m.answer ∷ []) (send_keeps b m m.answer)
  happened_calls past (Reacts b x o m) p = kept_list past (show.shown_reaction draws v b x o m m.answer) (reaction_keeps b x o m m.answer)
  happened_calls past (Posted w m) p = refl
  happened_calls past e p = kept_list past (show.shown_happened draws v e) (λ l cs. refl, tt)

  -- ---- lines of another vat

  -- events that keep the place
  abbrev AllStay : List ShownEvent → Type 0
  AllStay [] = Unit {0}
  AllStay (f ∷ fs) = ((at : ℕ) → place_after at f ≡ at) × AllStay fs

  away_list : (u : ℕ) → (u ≡ v → ⊥) → (past : List Line) → place_of past ≡ u + 1 → (fs : List ShownEvent) → AllStay fs → calls (and_lines past fs) ≡ calls past
  away_list u n past p [] k = refl
  away_list u n past p (f ∷ fs) k = away_list u n (line_after past f ∷ past) (k.0 (place_of past) ∙ p) fs k.1 ∙ away_calls past f u n (k.0 (place_of past) ∙ p)

  send_stays : (u b : ℕ) (m : Message Name) (o : Option Name) → AllStay (show.shown_send draws u b m o ∷ [])
  unfolding show.shown_send place_after
  send_stays u b m (Some x) = (λ at. refl, tt)
  send_stays u b m None = (λ at. refl, tt)

  reaction_stays : (u b : ℕ) (x y : Value Name) (m : Message Name) (o : Option Name) → AllStay (show.shown_reaction draws u b x y m o)
  unfolding show.shown_reaction place_after
  reaction_stays u b x y m (Some z) = (λ at. refl, tt)
  reaction_stays u b x y m None = tt

  happened_stays : (u : ℕ) (e : Happened Name) → AllStay (show.shown_happened draws u e)
  unfolding show.shown_happened place_after
  happened_stays u (Sends b m) = send_stays u b m m.answer
  happened_stays u (Reacts b x o m) = reaction_stays u b x o m m.answer
  happened_stays u (Posted w m) = tt
  happened_stays u e = (λ at. refl, tt)

  pub happened_away : (u : ℕ) → (u ≡ v → ⊥) → (past : List Line) → place_of past ≡ u + 1 → (e : Happened Name) → calls (and_lines past (show.shown_happened draws u e)) ≡ calls past
  happened_away u n past p e = away_list u n past p (show.shown_happened draws u e) (happened_stays u e)

  -- a line of no vat
  pub quiet_calls : (past : List Line) (e : Event) → ((u : ℕ) (f : Happened Name) → Here u f ≡ e → ⊥) → calls (and_lines past (show.shown_event draws e)) ≡ calls past
  unfolding show.shown_event calls_after
  quiet_calls past (Here u f) n = absurd (n u f refl)
  quiet_calls past (world.Carried k u w m bytes) n = kept_list past (show.shown_event draws (world.Carried k u w m bytes)) (λ l cs. refl, (λ l cs. refl, tt))
  quiet_calls past e n = kept_list past (show.shown_event draws e) (λ l cs. refl, tt)

  -- ---- more lines

  pub lines_end : (es fs : List Event) → lines draws (es ++ fs) ≡ and_lines (lines draws es) (shown_events draws fs)
  lines_end es fs = ap (and_lines []) (shown_join draws es fs) ∙ lines_join [] (shown_events draws es) (shown_events draws fs)

  one_end : (es : List Event) (e : Event) → lines draws (es ++ e ∷ []) ≡ and_lines (lines draws es) (show.shown_event draws e)
  unfolding shown_events
  one_end es e = lines_end es (e ∷ []) ∙ ap (and_lines (lines draws es)) (append-nil (show.shown_event draws e))

  pub nobodys_calls : (es fs : List Event) → IsNobodys fs → calls (lines draws (es ++ fs)) ≡ calls (lines draws es)
  nobodys_calls es [] n = ap (λ xs. calls (lines draws xs)) (append-nil es)
  nobodys_calls es (f ∷ fs) n = ap (λ xs. calls (lines draws xs)) (sym (append_assoc es (f ∷ []) fs)) ∙ nobodys_calls (es ++ f ∷ []) fs (λ u g i. n u g (inr i))
      ∙ ap calls (one_end es f) ∙ quiet_calls (lines draws es) f (λ u g q. n u g (inl q))

-- ---- calls that end

pub closes_first : (b : ℕ) (c : Open Name) (cs ds : List (Open Name)) → closed_by b (c ∷ cs) ≡ Some ds → (b ≡ c.caller) × (cs ≡ ds) × ((zs : List (Open Name)) → closed_by b (c ∷ zs) ≡ Some zs)
unfolding closed_by
closes_first b c cs ds q = either (b == c.caller) refl q
  where
    either : (x : Bool) → (b == c.caller) ≡ x → elim x as (λ _. Option (List (Open Name))) [ true ↦ Some cs | false ↦ None ] ≡ Some ds
        → (b ≡ c.caller) × (cs ≡ ds) × ((zs : List (Open Name)) → elim (b == c.caller) as (λ _. Option (List (Open Name))) [ true ↦ Some zs | false ↦ None ] ≡ Some zs)
    either true i r = (eqb-true b c.caller i, cc, λ zs. ap (λ y. elim y as (λ _. Option (List (Open Name))) [ true ↦ Some zs | false ↦ None ]) i)
    either false i r = cc

pub none_closed : (b : ℕ) (ds : List (Open Name)) → closed_by b [] ≡ Some ds → ⊥
unfolding closed_by
none_closed b ds q = cc

pub no_nest : (es : List (Happened Name)) (ds : List (Open Name)) → nested_from None es ≡ Some ds → ⊥
unfolding nested_from nested_on
no_nest [] ds q = cc
no_nest (e ∷ es) ds q = no_nest es ds q

-- ---- the lines of a step

module _ (ls : List Link) (v : ℕ) where
  pub events_end : (so more : List (Happened Name)) → events_of ls v (so ++ more) ≡ events_of ls v so ++ events_of ls v more
  unfolding events_of
  events_end [] more = refl
  events_end (e ∷ so) more = ap (λ xs. event_of ls v e ++ xs) (events_end so more) ∙ sym (append_assoc (event_of ls v e) (events_of ls v so) (events_of ls v more))

-- The lines of a step of vat v behind others, which leave none of its calls open.
module _ (draws : List ℕ) (ls : List Link) (v : ℕ) (pre : List Event) where
  -- the lines before a line of the step
  abbrev pub At : List (Happened Name) → List Line
  At so = lines draws (pre ++ events_of ls v so)

  event_calls : (past : List Line) (e : Happened Name) → place_of past ≡ v + 1 → (a : ℕ) → calls draws v a (and_lines past (shown_events draws (event_of ls v e))) ≡ effect draws v a e past (calls draws v a past)
  unfolding event_of shown_events show.shown_event effect
  event_calls past (Posted w m) p a = lost (world.is_cut v w ls)
    where
      lost : (b : Bool) → calls draws v a (and_lines past (shown_events draws (pick b (LostCut m ∷ []) []))) ≡ calls draws v a past
      lost true = quiet_calls draws v a past (LostCut m) (λ u f q. cc)
      lost false = refl
  event_calls past e p a = ap (λ fs. calls draws v a (and_lines past fs)) (append-nil (show.shown_happened draws v e)) ∙ happened_calls draws v a past e p

  -- one more line
  next_calls : (so : List (Happened Name)) (e : Happened Name) → place_of (At so) ≡ v + 1 → (a : ℕ) → calls draws v a (At (so ++ e ∷ [])) ≡ effect draws v a e (At so) (calls draws v a (At so))
  unfolding events_of
  next_calls so e p a = ap (λ es. calls draws v a (lines draws (pre ++ es))) (events_end ls v so (e ∷ []) ∙ ap (λ xs. events_of ls v so ++ xs) (append-nil (event_of ls v e)))
      ∙ ap (λ es. calls draws v a (lines draws es)) (sym (append_assoc pre (events_of ls v so) (event_of ls v e)))
      ∙ ap (calls draws v a) (lines_end draws v a (pre ++ events_of ls v so) (event_of ls v e)) ∙ event_calls (At so) e p a

  -- A call that is open in the machine, as the line shows it that began it; behind that line stand those that are open above it.
  pub record Match (so : List (Happened Name)) (above : List (Open Name)) (c : Open Name) (o : OpenCall) : Type 0 where
    pub args : List (Value Name)
    pub front : List (Happened Name)
    pub rest : List (Happened Name)
    pub line : so ≡ front ++ Called c.caller c.receiver c.verb args c.begun ∷ rest
    pub inner : nested_from (Some []) rest ≡ Some above
    pub call : o.call ≡ call_of draws v c.caller c.receiver c.verb args c.begun
    pub before : o.before ≡ At front

  abbrev pub AllMatch : List (Happened Name) → List (Open Name) → List (Open Name) → List OpenCall → Type 0
  AllMatch so above [] [] = Unit {0}
  AllMatch so above (c ∷ cs) (o ∷ os) = Match so above c o × AllMatch so (above ++ c ∷ []) cs os
  AllMatch so above [] (o ∷ os) = ⊥
  AllMatch so above (c ∷ cs) [] = ⊥

  nested_end : (o : Option (List (Open Name))) (es : List (Happened Name)) (e : Happened Name) → nested_from o (es ++ e ∷ []) ≡ nested_on (nested_from o es) e
  unfolding nested_from
  nested_end o [] e = refl
  nested_end o (x ∷ es) e = nested_end (nested_on o x) es e

  -- one more line, which makes of those above a call what it does with any below them
  abbrev Turns : Happened Name → List (Open Name) → List (Open Name) → Type 0
  Turns e above more = (zs : List (Open Name)) → nested_after (above ++ zs) e ≡ Some (more ++ zs)

  match_more : (so : List (Happened Name)) (e : Happened Name) (above more : List (Open Name)) (c : Open Name) (o : OpenCall) → Turns e above more → Match so above c o → Match (so ++ e ∷ []) more c o
  unfolding nested_on
  match_more so e above more c o f m = record {
    args = m.args;
    front = m.front;
    rest = m.rest ++ e ∷ [];
    line = ap (λ xs. xs ++ e ∷ []) m.line ∙ append_assoc m.front (Called c.caller c.receiver c.verb m.args c.begun ∷ m.rest) (e ∷ []);
    inner = nested_end (Some []) m.rest e ∙ ap (λ x. nested_on x e) m.inner ∙ ap (λ zs. nested_after zs e) (sym (append-nil above)) ∙ f [] ∙ ap (λ zs. Some zs) (append-nil more);
    call = m.call;
    before = m.before;
  }

  all_more : (so : List (Happened Name)) (e : Happened Name) (above more : List (Open Name)) → Turns e above more → (cs : List (Open Name)) (os : List OpenCall) → AllMatch so above cs os → AllMatch (so ++ e ∷ []) more cs os
  all_more so e above more f [] [] m = tt
  all_more so e above more f (c ∷ cs) (o ∷ os) m = (
    match_more so e above more c o f m.0,
    all_more so e (above ++ c ∷ []) (more ++ c ∷ [])
        (λ zs. ap (λ xs. nested_after xs e) (append_assoc above (c ∷ []) zs) ∙ f (c ∷ zs) ∙ ap (λ xs. Some xs) (sym (append_assoc more (c ∷ []) zs))) cs os m.1,
  )
  all_more so e above more f [] (o ∷ os) m = absurd m
  all_more so e above more f (c ∷ cs) [] m = absurd m

  -- those of one activation
  abbrev pub of : ℕ → List OpenCall → List OpenCall
  of a [] = []
  of a (o ∷ os) = if o.call.activation == a then o ∷ of a os else of a os

  abbrev pub Stack : List (Happened Name) → List (Open Name) → Type 0
  Stack so cs = (os : List OpenCall) × AllMatch so [] cs os × ((a : ℕ) → calls draws v a (At so) ≡ of a os)

  drop_first : (b : Bool) (o : OpenCall) (xs : List OpenCall) → (if b then drop 1 (if b then o ∷ xs else xs) else (if b then o ∷ xs else xs)) ≡ xs
  drop_first true o xs = refl
  drop_first false o xs = refl

  -- the innermost call has ended
  closed_stack : (so : List (Happened Name)) (e : Happened Name) (b : ℕ) (cs ds : List (Open Name)) → ((zs : List (Open Name)) → nested_after zs e ≡ closed_by b zs) → closed_by b cs ≡ Some ds → Stack so cs
      → ((a : ℕ) → calls draws v a (At (so ++ e ∷ [])) ≡ (if b == a then drop 1 (calls draws v a (At so)) else calls draws v a (At so))) → Stack (so ++ e ∷ []) ds × (without_first cs ≡ ds)
  unfolding without_first
  closed_stack so e b [] ds n q s f = absurd (none_closed b ds q)
  closed_stack so e b (c ∷ cs) ds n q s f = matched s.0 s.1 s.2
    where
      matched : (os : List OpenCall) → AllMatch so [] (c ∷ cs) os → ((a : ℕ) → calls draws v a (At so) ≡ of a os) → Stack (so ++ e ∷ []) ds × (cs ≡ ds)
      matched [] m g = absurd m
      matched (o ∷ os) m g = let r = closes_first b c cs ds q in let act : o.call.activation ≡ b = ap (λ (z : ShownCall). z.activation) m.0.call ∙ sym r.0 in (
        (
          os,
          subst (λ zs. AllMatch (so ++ e ∷ []) [] zs os) r.1 (all_more so e (c ∷ []) [] (λ zs. n (c ∷ zs) ∙ r.2 zs) cs os m.1),
          λ a. f a ∙ ap (λ zs. if b == a then drop 1 zs else zs) (g a ∙ ap (λ n. if n == a then o ∷ of a os else of a os) act) ∙ drop_first (b == a) o (of a os),
        ),
        r.1,
      )

  same_stack : (so : List (Happened Name)) (e : Happened Name) (cs ds : List (Open Name)) → ((zs : List (Open Name)) → nested_after zs e ≡ Some zs) → nested_after cs e ≡ Some ds → Stack so cs → ((a : ℕ) → calls draws v a (At (so ++ e ∷ [])) ≡ calls draws v a (At so))
      → Stack (so ++ e ∷ []) ds × (cs ≡ ds)
  same_stack so e cs ds n q s f = let is : cs ≡ ds = some_list cs ds (sym (n cs) ∙ q) in ((s.0, subst (λ zs. AllMatch (so ++ e ∷ []) [] zs s.0) is (all_more so e [] [] n cs s.0 s.1), λ a. f a ∙ s.2 a), is)
    where
      some_list : (xs ys : List (Open Name)) → Some xs ≡ Some ys → xs ≡ ys
      some_list xs ys i = cc

  next_stack : (so : List (Happened Name)) (e : Happened Name) (cs ds : List (Open Name)) → place_of (At so) ≡ v + 1 → nested_after cs e ≡ Some ds → Stack so cs → Stack (so ++ e ∷ []) ds × (open_after cs e ≡ ds)
  unfolding nested_after open_after effect nested_from
  next_stack so (Called b x verb args o) cs ds p q s = let e : Happened Name = Called b x verb args o in let c : Open Name = record { caller = b; receiver = x; verb = verb; begun = o } in let is : c ∷ cs ≡ ds = cc in
      let call : OpenCall = record { call = call_of draws v b x verb args o; before = At so } in let m : Match (so ++ e ∷ []) [] c call = record { args = args; front = so; rest = []; line = refl; inner = refl; call = refl; before = refl } in
      ((call ∷ s.0, subst (λ zs. AllMatch (so ++ e ∷ []) [] zs (call ∷ s.0)) is (m, all_more so e [] (c ∷ []) (λ zs. refl) cs s.0 s.1), λ a. next_calls so e p a ∙ ap (λ zs. if b == a then call ∷ zs else zs) (s.2 a)), is)
  next_stack so (Back b x) cs ds p q s = closed_stack so (Back b x) b cs ds (λ zs. refl) q s (next_calls so (Back b x) p)
  next_stack so (Thrown b t) cs ds p q s = closed_stack so (Thrown b t) b cs ds (λ zs. refl) q s (next_calls so (Thrown b t) p)
  next_stack so (Left b) cs ds p q s = closed_stack so (Left b) b cs ds (λ zs. refl) q s (next_calls so (Left b) p)
  next_stack so e cs ds p q s = same_stack so e cs ds (λ zs. refl) q s (next_calls so e p)

  -- ---- the whole step

  open_end : (cs : List (Open Name)) (so : List (Happened Name)) (e : Happened Name) → open_from cs (so ++ e ∷ []) ≡ open_after (open_from cs so) e
  unfolding open_from
  open_end cs [] e = refl
  open_end cs (x ∷ so) e = open_end (open_after cs x) so e

  -- The machine's open calls at a moment of the step, as the lines show them.
  abbrev pub Opens : List (Happened Name) → List (Happened Name) → Type 0
  Opens so rest = (cs : List (Open Name)) × Stack so cs × (nested_from (Some cs) rest ≡ Some []) × (open_from [] so ≡ cs)

  module _ (whole : List (Happened Name)) (placed : (so rest : List (Happened Name)) → whole ≡ so ++ rest → place_of (At so) ≡ v + 1) where
    opens_on : (so more rest : List (Happened Name)) → whole ≡ so ++ (more ++ rest) → Opens so (more ++ rest) → Opens (so ++ more) rest
    unfolding nested_from nested_on
    opens_on so [] rest w s = subst (λ xs. Opens xs rest) (sym (append-nil so)) s
    opens_on so (e ∷ more) rest w s = subst (λ xs. Opens xs rest) (append_assoc so (e ∷ []) more) (opens_on (so ++ e ∷ []) more rest (w ∙ sym (append_assoc so (e ∷ []) (more ++ rest))) (one (nested_after s.0 e) refl s.2))
      where
        one : (o : Option (List (Open Name))) → nested_after s.0 e ≡ o → nested_from o (more ++ rest) ≡ Some [] → Opens (so ++ e ∷ []) (more ++ rest)
        one (Some ds) q n = let t = next_stack so e s.0 ds (placed so (e ∷ more ++ rest) w) q s.1 in (ds, t.0, n, open_end [] so e ∙ ap (λ zs. open_after zs e) s.3 ∙ t.1)
        one None q n = absurd (no_nest (more ++ rest) [] n)

    pub opens_at : ((a : ℕ) → calls draws v a (lines draws pre) ≡ []) → nested_from (Some []) whole ≡ Some [] → (so rest : List (Happened Name)) → whole ≡ so ++ rest → Opens so rest
    unfolding events_of open_from
    opens_at shut n so rest w = opens_on [] so rest w ([], ([], tt, λ a. ap (λ es. calls draws v a (lines draws es)) (append-nil pre) ∙ shut a), ap (nested_from (Some [])) (sym w) ∙ n, refl)

    -- none is left open at its end
    pub opens_none : ((a : ℕ) → calls draws v a (lines draws pre) ≡ []) → nested_from (Some []) whole ≡ Some [] → (a : ℕ) → calls draws v a (At whole) ≡ []
    unfolding nested_from
    opens_none shut n a = none (opens_at shut n whole [] (sym (append-nil whole)))
      where
        empty : (os : List OpenCall) → AllMatch whole [] [] os → of a os ≡ []
        empty [] m = refl
        empty (o ∷ os) m = absurd m

        none : Opens whole [] → calls draws v a (At whole) ≡ []
        none s = let is : s.0 ≡ [] = cc in s.1.2 a ∙ empty s.1.0 (subst (λ zs. AllMatch whole [] zs s.1.0) is s.1.1)
