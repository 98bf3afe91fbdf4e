-- What lines tell of facts, leads and places, where events have other names.
use Rattle.std.proofs.Common.{◌≡◌, ◌++◌, ℕ, List, [], ◌∷◌, map, Option, Some, None, option_map, refl, sym, ap, ◌∙◌}
use Rattle.ev_base.specs.declared.names.Name.{Name}
use Rattle.def_event.specs.declared.shown.Shown.{Shown, Name as Named}
use Rattle.def_event.specs.declared.event.Event.{Event}
use Rattle.def_event.specs.declared.event.Called.{Called}
use Rattle.def_event.specs.declared.event.Event.TheVariants.{Open, Turn, Idle, Carry, Cut, Notice, Take, Call, Back, Got, Read, List as ListMade, Arrived, Ejector, Audition as AuditionMade, Promise, Made as ObjectMade, Settle, View, Raw}
use Rattle.def_event.specs.declared.raw.RawLine.TheVariants.{Inject, InjectCut, Malformed, Bytes, LeftBytes}
use Rattle.def_event.specs.Uses.{Thing, AName, AList, Fact, Given, Made, Captured, Audition, Anew, Way, Listed, Settled, place_after, raw_place, given, things, things_of, lists_of, name_of, gains, begun, begun_call, begins, captured, makes, led, leads, settles, views, running_call, runs}
use Rattle.law_trace.proofs.UsesSeen.Same.{joined}
use Rattle.law_trace.proofs.UsesSeen.Renaming.{Renaming, IsRenaming, values, called, event, thing, fact, anew, way, lead, given_for, running}

-- ---- of the name that a value is

abbrev pub audition_facts : ℕ → ℕ → Option Name → List Thing → List Fact
audition_facts at a (Some n) ts = Audition n ∷ given at a (AName n ∷ [])
audition_facts at a None ts = given at a ts

audition_gains : (at a : ℕ) (o : Shown) → gains at (AuditionMade a o) ≡ audition_facts at a (name_of o) (things_of o)
unfolding gains name_of things_of
audition_gains at a (Named n) = refl
audition_gains at a o = refl

abbrev pub made_anew : List Thing → Name → Anew
made_anew ts n = record { mark = Made n; facts = map (Captured n) ts }

captured_by : (o : Shown) (caps : List Shown) → captured o caps ≡ option_map (made_anew (things caps)) (name_of o)
unfolding name_of
captured_by (Named n) caps = refl
captured_by o caps = refl

module _ (r : Renaming) (good : IsRenaming r) where
  pub place_same : (at : ℕ) (e : Event) → place_after (r.place at) (event r e) ≡ r.place (place_after at e)
  unfolding place_after raw_place
  place_same at (Open v) = sym (good.a_place v)
  place_same at (Turn k v) = sym (good.a_place v)
  place_same at (Notice k v w) = sym (good.a_place v)
  place_same at (Carry k v w n) = sym (good.a_place w)
  place_same at (Idle k) = sym good.no_place
  place_same at (Cut k v w) = sym good.no_place
  place_same at (Raw (Inject k v w bytes)) = sym good.no_place
  place_same at (Raw (InjectCut k v w)) = sym good.no_place
  place_same at (Raw (Malformed k v w place)) = sym (good.a_place w)
  place_same at (Raw (Bytes k v w bytes)) = sym (good.a_place w)
  place_same at (Raw (LeftBytes v w bytes)) = refl
  place_same at e = refl

  -- ---- facts

  given_same : (at a : ℕ) (ts : List Thing) → given (r.place at) a (map (thing r) ts) ≡ map (fact r) (given at a ts)
  given_same at a [] = refl
  given_same at a (t ∷ ts) = ap (λ (fs : List Fact). Given (record { at = r.place at; number = a }) (thing r t) ∷ fs) (given_same at a ts)

  gave : (at a : ℕ) (ts us : List Thing) → us ≡ map (thing r) ts → given (r.place at) a us ≡ map (fact r) (given at a ts)
  gave at a ts us e = ap (given (r.place at) a) e ∙ given_same at a ts

  gave_value : (at a : ℕ) (x : Shown) → given (r.place at) a (things_of (r.value x)) ≡ map (fact r) (given at a (things_of x))
  gave_value at a x = gave at a (things_of x) (things_of (r.value x)) (good.as_things x)

  things_same : (xs : List Shown) → things (values r xs) ≡ map (thing r) (things xs)
  things_same [] = refl
  things_same (x ∷ xs) = joined (thing r) (things_of x) (things xs) (things_of (r.value x)) (things (values r xs)) (good.as_things x) (things_same xs)

  audition_same : (at a : ℕ) (n : Option Name) (ts : List Thing) → audition_facts (r.place at) a (option_map r.name n) (map (thing r) ts) ≡ map (fact r) (audition_facts at a n ts)
  audition_same at a (Some n) ts = refl
  audition_same at a None ts = given_same at a ts

  audition_told : (at a : ℕ) (o : Shown) → gains (r.place at) (AuditionMade a (r.value o)) ≡ map (fact r) (gains at (AuditionMade a o))
  audition_told at a o =
      audition_gains (r.place at) a (r.value o)
      ∙ ap (λ (n : Option Name). audition_facts (r.place at) a n (things_of (r.value o))) (good.as_name o)
      ∙ ap (audition_facts (r.place at) a (option_map r.name (name_of o))) (good.as_things o)
      ∙ audition_same at a (name_of o) (things_of o)
      ∙ ap (map (fact r)) (sym (audition_gains at a o))

  pub gains_same : (at : ℕ) (e : Event) → gains (r.place at) (event r e) ≡ map (fact r) (gains at e)
  unfolding gains
  gains_same at (Back a x) = gave_value at a x
  gains_same at (Got a x) = gave_value at a x
  gains_same at (Read a s x) = gave_value at a x
  gains_same at (Ejector a o) = gave_value at a o
  gains_same at (AuditionMade a o) = audition_told at a o
  gains_same at (Promise a p o) = ap (λ (fs : List Fact). Given (record { at = r.place at; number = a }) (AName (r.name p)) ∷ fs) (gave_value at a o)
  gains_same at (ObjectMade o) = gave_value at o.activation o.object
  gains_same at e = refl

  call_begins : (at : ℕ) (c : Called) (b : Option ℕ) → begun_call (r.place at) (called r c) b ≡ option_map (anew r) (begun_call at c b)
  call_begins at c None = refl
  call_begins at c (Some b) = ap (begun (r.place at) b) (gave at b (things c.args) (things (values r c.args)) (things_same c.args))

  pub begins_same : (at : ℕ) (e : Event) → begins (r.place at) (event r e) ≡ option_map (anew r) (begins at e)
  unfolding begins
  begins_same at (Take t) =
      ap (begun (r.place at) t.activation) (gave at t.activation (lists_of t.target ++ things t.args) (lists_of (r.value t.target) ++ things (values r t.args))
      (joined (thing r) (lists_of t.target) (things t.args) (lists_of (r.value t.target)) (things (values r t.args)) (good.as_lists t.target) (things_same t.args)))
  begins_same at (Call c) = call_begins at c c.begun
  begins_same at e = refl

  captures_same : (n : Name) (ts : List Thing) → map (Captured (r.name n)) (map (thing r) ts) ≡ map (fact r) (map (Captured n) ts)
  captures_same n [] = refl
  captures_same n (t ∷ ts) = ap (λ (fs : List Fact). Captured (r.name n) (thing r t) ∷ fs) (captures_same n ts)

  made_same : (n : Option Name) (ts : List Thing) → option_map (made_anew (map (thing r) ts)) (option_map r.name n) ≡ option_map (anew r) (option_map (made_anew ts) n)
  made_same None ts = refl
  made_same (Some n) ts = ap (λ (fs : List Fact). Some (record { mark = Made (r.name n); facts = fs })) (captures_same n ts)

  captured_same : (o : Shown) (caps : List Shown) → captured (r.value o) (values r caps) ≡ option_map (anew r) (captured o caps)
  captured_same o caps =
      captured_by (r.value o) (values r caps)
      ∙ ap (λ (ts : List Thing). option_map (made_anew ts) (name_of (r.value o))) (things_same caps)
      ∙ ap (option_map (made_anew (map (thing r) (things caps)))) (good.as_name o)
      ∙ made_same (name_of o) (things caps)
      ∙ ap (option_map (anew r)) (sym (captured_by o caps))

  pub makes_same : (e : Event) → makes (event r e) ≡ option_map (anew r) (makes e)
  unfolding makes
  makes_same (ObjectMade o) = captured_same o.object o.caps
  makes_same e = refl

  -- ---- leads

  led_same : (w : Way) (from : Thing) (ts us : List Thing) → us ≡ map (thing r) ts → led (way r w) (thing r from) us ≡ map (lead r) (led w from ts)
  led_same w from ts us e = ap (led (way r w) (thing r from)) e ∙ all ts
    where
      all : (ts : List Thing) → led (way r w) (thing r from) (map (thing r) ts) ≡ map (lead r) (led w from ts)
      all [] = refl
      all (t ∷ ts) = ap (λ ds. record { way = way r w; from = thing r from; to = thing r t } ∷ ds) (all ts)

  members_lead : (l : ℕ × ℕ) (xs : List Shown) → led Listed (AList (r.vat l.0) l.1) (things (values r xs)) ≡ map (lead r) (led Listed (AList l.0 l.1) (things xs))
  members_lead l xs = led_same Listed (AList l.0 l.1) (things xs) (things (values r xs)) (things_same xs)

  pub leads_same : (at : ℕ) (e : Event) → leads (r.place at) (event r e) ≡ map (lead r) (leads at e)
  unfolding leads
  leads_same at (Settle p x) = led_same (Settled at) (AName p) (things_of x) (things_of (r.value x)) (good.as_things x)
  leads_same at (ListMade a l xs) = members_lead l xs
  leads_same at (Arrived l xs) = members_lead l xs
  leads_same at e = refl

  -- ---- names and what is given for them, and what begins an activation

  pub settles_same : (e : Event) → settles (event r e) ≡ option_map (given_for r) (settles e)
  unfolding settles
  settles_same (Settle p x) = ap (λ (v : Option Name). Some (record { name = r.name p; value = v })) (good.as_name x)
  settles_same e = refl

  pub views_same : (e : Event) → views (event r e) ≡ option_map (given_for r) (views e)
  unfolding views
  views_same (View p q) = refl
  views_same e = refl

  running_same : (c : Called) (b : Option ℕ) → running_call (called r c) b ≡ option_map (running r) (running_call c b)
  running_same c None = refl
  running_same c (Some b) = ap (λ (n : Option Name). Some (record { activation = b; target = n })) (good.as_name c.target)

  pub runs_same : (e : Event) → runs (event r e) ≡ option_map (running r) (runs e)
  unfolding runs
  runs_same (Take t) = ap (λ (n : Option Name). Some (record { activation = t.activation; target = n })) (good.as_name t.target)
  runs_same (Call c) = running_same c c.begun
  runs_same e = refl
