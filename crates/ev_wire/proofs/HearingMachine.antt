-- What a vat hears is what the machine reads.
use Rattle.std.proofs.Common.{◌≡◌, ℕ, zero, suc, ◌+◌, Bool, true, false, cond, ◌&&◌, List, [], ◌∷◌, ◌++◌, map, length, Option, Some, None, slice_get, unwrap_or, refl, sym, ap, subst, ◌∙◌, ◌==◌, append_assoc, append-nil, arith}
use Rattle.std.specs.Prelude.{option_map}
use Rattle.std.proofs.lemmas.List.{length-map, map-append}
use Rattle.std.proofs.lemmas.Bool.{eqb-true, eq-eqb}
use Rattle.ev_base.specs.declared.values.Value.{Value}
use Rattle.ev_base.specs.declared.values.Value.TheVariants as held
use Rattle.def_machine.specs.Arrive.{Old, New}
use Rattle.def_machine.specs.State as state
use Rattle.def_machine.specs.Values as values
use Rattle.def_machine.specs.Values.{Words, Local, Obj, Prom, Far, Mess, key}
use Rattle.def_op.specs.declared.op.Plain.{Plain as Fact}
use Rattle.def_op.specs.declared.op.Plain.TheVariants as plain
use Rattle.def_op.specs.Frames as op
use Rattle.def_op.specs.Frames.{Described, Members, Outcome, Operation}
use Rattle.def_run.specs.Connections as machine
use Rattle.def_run.specs.Connections.{Connection, Heard, Learnt, Stage, learnt_at}
use Rattle.ev_refs.specs.Reading.{text_by}
use Rattle.ev_pass.specs.declared.interior.Interior.{Interior}
use Rattle.ev_pass.specs.declared.note.Reference.TheVariants as reference
use Rattle.ev_arrive.specs.Reading.{incoming_by, subject_by}
use Rattle.ev_arrive.specs.declared.host.Incoming.{Incoming as Came}
use Rattle.ev_arrive.specs.declared.host.Incoming.TheVariants as came
use Rattle.ev_arrive.specs.declared.host.Carried.TheVariants as carried
use Rattle.ev_arrive.specs.declared.host.Subject.{Subject}
use Rattle.ev_arrive.specs.declared.host.Subject.TheVariants as subject
use Rattle.ev_arrive.specs.Bringing as part
use Rattle.ev_arrive.specs.Bringing.{Part, Parts}
use Rattle.ev_arrive.specs.Hearing.{Name, part_by, parts_by}
use Rattle.ev_tables.specs.Table.{Table}
use Rattle.ev_tables.specs.Standing.{AreReferences, connection_of, is_object, is_reference, local_of}
use Rattle.ev_wire.specs.Bringing.{Told}
use Rattle.ev_wire.specs.Bringing as told
use Rattle.ev_wire.specs.Hearing as code
use Rattle.ev_wire.specs.Hearing.{Act, Out, and_then, ◌>>=◌, give, refuse}
use Rattle.ev_wire.specs.Learnt.{LearntGift, LearntGifts, find, is_under, put}
use Rattle.ev_wire.specs.Reading.{IsPromise, TellsOfPromises, TextsStand, learnt_of, newcomers_of, stage_of, told_by}
use Rattle.ev_wire.specs.HearingStatements.{HearsAsTheMachine, StandsFor}
use Rattle.ev_wire.specs.declared.news.News.{News}
use Rattle.ev_wire.proofs.Positions.{import_is, place_is}

-- ---- lists

pub among_more : {X : Type 0} (xs ys : List X) (k : ℕ) → slice_get (xs ++ ys) (length xs + k) ≡ slice_get ys k
among_more [] ys k = let e : 0 + k ≡ k = omega arith in ap (slice_get ys) e
among_more (x ∷ xs) ys k = let e : suc (length xs) + k ≡ suc (length xs + k) = omega arith in ap (slice_get (x ∷ (xs ++ ys))) e ∙ among_more xs ys k

pub among_front : {X : Type 0} (xs ys : List X) (k : ℕ) (x : X) → slice_get xs k ≡ Some x → slice_get (xs ++ ys) k ≡ Some x
among_front [] ys k x e = absurd cc
among_front (z ∷ xs) ys zero x e = e
among_front (z ∷ xs) ys (suc k) x e = among_front xs ys k x e

pub mapped_at : {X Y : Type 0} (f : X → Y) (xs : List X) (k : ℕ) → slice_get (map f xs) k ≡ option_map f (slice_get xs k)
mapped_at f [] k = refl
mapped_at f (x ∷ xs) zero = refl
mapped_at f (x ∷ xs) (suc k) = mapped_at f xs k

pub at_end : {X : Type 0} (xs : List X) (x : X) → slice_get (xs ++ x ∷ []) (length xs) ≡ Some x
at_end [] x = refl
at_end (z ∷ xs) x = at_end xs x

abbrev IsReference : Option Value → Type 0
IsReference (Some v) = is_reference v ≡ true
IsReference None = Unit {0}

-- what stands in a list of references is one
reference_at : (vs : List Value) (k : ℕ) → AreReferences vs → IsReference (slice_get vs k)
reference_at [] k a = tt
reference_at (v ∷ vs) zero a = a.0
reference_at (v ∷ vs) (suc k) a = reference_at vs k a.1

references_push : (vs : List Value) (v : Value) → AreReferences vs → is_reference v ≡ true → AreReferences (vs ++ v ∷ [])
references_push [] v a r = (r, tt)
references_push (w ∷ vs) v a r = (a.0, references_push vs v a.1 r)

locals_push : (xs ys : List Value) (v : Value) → map local_of (xs ++ (ys ++ v ∷ [])) ≡ map local_of (xs ++ ys) ++ local_of v ∷ []
locals_push xs ys v = ap (map local_of) (sym (append_assoc xs ys (v ∷ []))) ∙ map-append local_of (xs ++ ys) (v ∷ [])

-- ---- keys

keys_tell : (p q a b : ℕ) → key p a ≡ key q b → (p ≡ q) × (a ≡ b)
unfolding key
keys_tell zero zero a b e = (refl, omega arith)
keys_tell zero (suc q) a b e = absurd (omega arith)
keys_tell (suc p) zero a b e = absurd (omega arith)
keys_tell (suc p) (suc q) a b e =
    let half : key p a ≡ key q b = omega arith in
    let k = keys_tell p q a b half in
    (ap suc k.0, k.1)

bool_same : (b c : Bool) → (b ≡ true → c ≡ true) → (c ≡ true → b ≡ true) → b ≡ c
bool_same true c f g = sym (f refl)
bool_same false true f g = g refl
bool_same false false f g = refl

both : (a b : Bool) → (a && b) ≡ true → (a ≡ true) × (b ≡ true)
both true true h = (refl, refl)
both true false h = absurd cc
both false b h = absurd cc

and_true : (a b : Bool) → a ≡ true → b ≡ true → (a && b) ≡ true
and_true true b e f = f
and_true false b e f = cc

key_is : (p w : ℕ) (g : LearntGift) → (key g.provider g.word == key p w) ≡ ((p == g.provider) && (w == g.word))
key_is p w g = bool_same (key g.provider g.word == key p w) ((p == g.provider) && (w == g.word))
    (λ e. let k = keys_tell g.provider p g.word w (eqb-true (key g.provider g.word) (key p w) e) in and_true (p == g.provider) (w == g.word) (eq-eqb p g.provider (sym k.0)) (eq-eqb w g.word (sym k.1)))
    (λ e. let k = both (p == g.provider) (w == g.word) e in eq-eqb (key g.provider g.word) (key p w) (ap (λ (q : ℕ). key q g.word) (sym (eqb-true p g.provider k.0)) ∙ ap (key p) (sym (eqb-true w g.word k.1))))

host_is : (h k : ℕ) → (k == h) ≡ (h == k)
host_is h k = bool_same (k == h) (h == k) (λ e. eq-eqb h k (sym (eqb-true k h e))) (λ e. eq-eqb k h (sym (eqb-true h k e)))

found_by : (a b c d : Bool) (name : ℕ) (o : Option ℕ) (m : Option Local) → a ≡ c → b ≡ d → m ≡ option_map Prom o
    → ◌≡◌ {A = Option Local} (elim a [ true ↦ elim b [ true ↦ Some (Prom name) | false ↦ m ] | false ↦ m ]) (option_map Prom (cond (c && d) (Some name) o))
found_by true true true true name o m e f g = refl
found_by true false true false name o m e f g = g
found_by false b false d name o m e f g = g
found_by true b false d name o m e f g = absurd cc
found_by false b true d name o m e f g = absurd cc
found_by true true true false name o m e f g = absurd cc
found_by true false true true name o m e f g = absurd cc

-- the name of a gift, in the code and in the machine
pub find_is : (h p w : ℕ) (gs : LearntGifts) → learnt_at h (key p w) (map learnt_of gs) ≡ option_map Prom (find h p w gs)
unfolding machine.learnt_at
find_is h p w [] = refl
find_is h p w (g ∷ gs) =
    found_by (g.host == h) (key g.provider g.word == key p w) (h == g.host) ((p == g.provider) && (w == g.word)) g.name (find h p w gs) (learnt_at h (key p w) (map learnt_of gs)) (host_is h g.host) (key_is p w g) (find_is h p w gs)

or_step : (b : Bool) (x : ℕ) (o q : Option ℕ) → cond b (Some x) (code.or_else o q) ≡ code.or_else (cond b (Some x) o) q
or_step true x o q = refl
or_step false x o q = refl

pub find_append : (h p w : ℕ) (xs ys : LearntGifts) → find h p w (xs ++ ys) ≡ code.or_else (find h p w xs) (find h p w ys)
find_append h p w [] ys = refl
find_append h p w (g ∷ xs) ys = ap (λ (o : Option ℕ). cond (is_under h p w g) (Some g.name) o) (find_append h p w xs ys) ∙ or_step (is_under h p w g) g.name (find h p w xs) (find h p w ys)

put_step : (b : Bool) (g k : LearntGift) (name : ℕ) (o : Option ℕ) (gs qs : LearntGifts) → cond b (Some name) o ≡ None → (o ≡ None → qs ≡ gs ++ g ∷ []) → cond b (g ∷ gs) (k ∷ qs) ≡ k ∷ (gs ++ g ∷ [])
put_step true g k name o gs qs e f = absurd cc
put_step false g k name o gs qs e f = ap (λ (xs : LearntGifts). k ∷ xs) (f e)

-- what is absent is put last
pub put_last : (g : LearntGift) (gs : LearntGifts) → find g.host g.provider g.word gs ≡ None → put g gs ≡ gs ++ g ∷ []
put_last g [] e = refl
put_last g (k ∷ gs) e = put_step (is_under g.host g.provider g.word k) g k k.name (find g.host g.provider g.word gs) gs (put g gs) e (put_last g gs)

pub none_of : (o q : Option ℕ) → code.or_else o q ≡ None → q ≡ None
none_of None q e = e
none_of (Some x) q e = absurd cc

-- ---- what matches

module _ (n : Local) (i : Interior) (t : Table) (l : LearntGifts) where
  abbrev pub References : News → Type 0
  References s = AreReferences (t.imports ++ s.imports)

  -- what a frame has brought only grows
  pub record Grows (s u : News) : Type 0 where
    pub texts : (k : ℕ) (x : Words) → slice_get s.texts k ≡ Some x → slice_get u.texts k ≡ Some x
    pub references : References s → References u

  same_news : (s : News) → Grows s s
  same_news s = record { texts = λ k x e. e; references = λ r. r }

  grows_on : (s u w : News) → Grows s u → Grows u w → Grows s w
  grows_on s u w g h = record { texts = λ k x e. h.texts k x (g.texts k x e); references = λ r. h.references (g.references r) }

  -- what the code reads stands for what the machine reads
  abbrev pub Matches : {A B : Type 0} → (List Words → A → B) → News → Out A → Option (Heard Local B) → Type 0
  Matches view s None d = d ≡ None
  Matches view s (Some x) d = Grows s x.1 × ((ts : List Words) → TextsStand ts i x.1 → d ≡ Some (record { read = view ts x.0; after = stage_of t l x.1 }))

  texts_now : News → List Words
  texts_now s = i.heap.texts ++ s.texts

  they_stand : (s : News) → TextsStand (i.heap.texts ++ s.texts) i s
  they_stand s k x e = ap (λ (o : Option Words). unwrap_or o []) (among_more i.heap.texts s.texts k ∙ e)

  earlier : (ts : List Words) (s u : News) → Grows s u → TextsStand ts i u → TextsStand ts i s
  earlier ts s u g h k x e = h k x (g.texts k x e)

  module _ {A B C D : Type 0} (v : List Words → A → B) (w : List Words → C → D) (s : News) (f : A → Act C) (g : B → Stage Local → Option (Heard Local D)) (d : Option (Heard Local B)) where
    rest_by : (x : A) (u : News) → Grows s u → ((ts : List Words) → TextsStand ts i u → d ≡ Some (record { read = v ts x; after = stage_of t l u })) → ((ts : List Words) → Matches w u (f x u) (g (v ts x) (stage_of t l u)))
        → (o : Out C) → f x u ≡ o → Matches w s o (machine.next g d)
    unfolding machine.next
    rest_by x u grown is k None e =
        let ts = i.heap.texts ++ u.texts in
        ap (machine.next g) (is ts (they_stand u)) ∙ subst (λ (o : Out C). Matches w u o (g (v ts x) (stage_of t l u))) e (k ts)
    rest_by x u grown is k (Some y) e =
        let more : (ts : List Words) → Matches w u (Some y) (g (v ts x) (stage_of t l u)) = λ ts. subst (λ (o : Out C). Matches w u o (g (v ts x) (stage_of t l u))) e (k ts) in
        (grows_on s u y.1 grown (more []).0, λ ts h. ap (machine.next g) (is ts (earlier ts u y.1 (more ts).0 h)) ∙ (more ts).1 ts h)

    pub bind : (o : Out A) → Matches v s o d → ((x : A) (u : News) → o ≡ Some (x, u) → Grows s u → (ts : List Words) → Matches w u (f x u) (g (v ts x) (stage_of t l u))) → Matches w s (and_then o f) (machine.next g d)
    unfolding and_then machine.next
    bind None h k = ap (machine.next g) h
    bind (Some x) h k = rest_by x.0 x.1 h.0 h.1 (k x.0 x.1 refl h.0) (f x.0 x.1) refl

  -- what is given
  given : {A B : Type 0} (v : List Words → A → B) (s : News) (x : A) (y : B) → ((ts : List Words) → y ≡ v ts x) → Matches v s (Some (x, s)) (machine.told y (stage_of t l s))
  unfolding machine.told
  given v s x y e = (same_news s, λ ts h. ap (λ z. Some (record { read = z; after = stage_of t l s })) (e ts))

  -- under a test
  tested : {A B : Type 0} (v : List Words → A → B) (s : News) (o : Out A) (f : Stage Local → Option (Heard Local B)) (b c : Bool) → b ≡ c → Matches v s o (f (stage_of t l s)) → Matches v s (cond b o None) (machine.told_where c f (stage_of t l s))
  unfolding machine.told_where
  tested v s o f true true e m = m
  tested v s o f false false e m = refl
  tested v s o f true false e m = absurd cc
  tested v s o f false true e m = absurd cc

  -- ---- names

  abbrev pub name_view : List Words → Came → Name
  name_view ts x = incoming_by n x

  known_is : (o : Option Value) (s : News) → IsReference o → Matches name_view s (code.known o s) (machine.told_if Old (option_map local_of o) (stage_of t l s))
  unfolding code.known code.known_value give refuse machine.told_if local_of is_reference
  known_is None s r = refl
  known_is (Some (held.Obj j)) s r = given name_view s (came.Known (reference.Object j)) (Old (Obj j)) (λ ts. refl)
  known_is (Some (held.Prom m)) s r = given name_view s (came.Known (reference.Promise m)) (Old (Prom m)) (λ ts. refl)
  known_is (Some (held.Far h p)) s r = given name_view s (came.Known (reference.Far h p)) (Old (Far h p)) (λ ts. refl)
  known_is (Some held.Null) s r = absurd cc
  known_is (Some (held.Bool b)) s r = absurd cc
  known_is (Some (held.Int z)) s r = absurd cc
  known_is (Some (held.Char x)) s r = absurd cc
  known_is (Some (held.Text x)) s r = absurd cc
  known_is (Some (held.List x)) s r = absurd cc
  known_is (Some (held.Prim x)) s r = absurd cc
  known_is (Some (held.Broken x)) s r = absurd cc

  promise_known : (o : Option ℕ) (s : News) → Matches name_view s (code.known (option_map held.Prom o) s) (machine.told_if Old (option_map Prom o) (stage_of t l s))
  unfolding code.known code.known_value give refuse machine.told_if
  promise_known None s = refl
  promise_known (Some m) s = given name_view s (came.Known (reference.Promise m)) (Old (Prom m)) (λ ts. refl)

  new_object_is : (p : ℕ) (s : News) → Matches name_view s (code.new_object t p s) (machine.new_object is_object i.refs.me t.peer (newcomers_of n t.peer) (connection_of t) p (stage_of t l s))
  unfolding code.new_object machine.new_object machine.told is_reference local_of
  new_object_is p s =
      let v = held.Far t.peer p in (
        record { texts = λ k x e. e; references = λ r. subst AreReferences (append_assoc t.imports s.imports (v ∷ [])) (references_push (t.imports ++ s.imports) v r refl) },
        λ ts h. ap (λ (ls : List Local). Some (record { read = Old (Far t.peer p); after = record { imports = ls; learnt = map learnt_of (l ++ s.gifts); known = s.known } })) (sym (locals_push t.imports s.imports v)),
      )

  new_promise_is : (p : ℕ) (s : News) → Matches name_view s (code.new_promise t s) (machine.new_promise is_object i.refs.me t.peer (newcomers_of n t.peer) (connection_of t) p (stage_of t l s))
  unfolding code.new_promise machine.new_promise machine.told is_reference local_of
  new_promise_is p s =
      let v = held.Prom s.known in (
        record { texts = λ k x e. e; references = λ r. subst AreReferences (append_assoc t.imports s.imports (v ∷ [])) (references_push (t.imports ++ s.imports) v r refl) },
        λ ts h. ap (λ (ls : List Local). Some (record { read = New n t.peer; after = record { imports = ls; learnt = map learnt_of (l ++ s.gifts); known = suc s.known } })) (sym (locals_push t.imports s.imports v)),
      )

  next_same : (p : ℕ) (s : News) → code.is_next t p s ≡ (p == length (map local_of (t.imports ++ s.imports)))
  unfolding code.is_next
  next_same p s = place_is t.imports s.imports p ∙ ap (λ (k : ℕ). p == k) (sym (length-map (t.imports ++ s.imports) local_of))

  stands_at : (p : ℕ) (s : News) → code.import_at t p s ≡ slice_get (t.imports ++ s.imports) p
  unfolding code.import_at
  stands_at p s = import_is t.imports s.imports p

  object_is : (p : ℕ) (o : Option Value) (s : News) → IsReference o → Matches name_view s (code.object_at t p o s) (machine.object_heard is_object i.refs.me t.peer (newcomers_of n t.peer) (connection_of t) p (option_map local_of o) (stage_of t l s))
  unfolding code.object_at code.known_object give refuse machine.object_heard machine.told_where local_of is_reference is_object
  object_is p None s r = tested name_view s (code.new_object t p s) (machine.new_object is_object i.refs.me t.peer (newcomers_of n t.peer) (connection_of t) p) (code.is_next t p s) (p == length (map local_of (t.imports ++ s.imports))) (next_same p s) (new_object_is p s)
  object_is p (Some (held.Obj j)) s r = given name_view s (came.Known (reference.Object j)) (Old (Obj j)) (λ ts. refl)
  object_is p (Some (held.Far h q)) s r = given name_view s (came.Known (reference.Far h q)) (Old (Far h q)) (λ ts. refl)
  object_is p (Some (held.Prom m)) s r = refl
  object_is p (Some held.Null) s r = absurd cc
  object_is p (Some (held.Bool b)) s r = absurd cc
  object_is p (Some (held.Int z)) s r = absurd cc
  object_is p (Some (held.Char x)) s r = absurd cc
  object_is p (Some (held.Text x)) s r = absurd cc
  object_is p (Some (held.List x)) s r = absurd cc
  object_is p (Some (held.Prim x)) s r = absurd cc
  object_is p (Some (held.Broken x)) s r = absurd cc

  promise_is : (p : ℕ) (o : Option Value) (s : News) → IsReference o → Matches name_view s (code.promise_at t p o s) (machine.promise_heard is_object i.refs.me t.peer (newcomers_of n t.peer) (connection_of t) p (option_map local_of o) (stage_of t l s))
  unfolding code.promise_at code.known_promise give refuse machine.promise_heard machine.told_where local_of is_reference is_object
  promise_is p None s r = tested name_view s (code.new_promise t s) (machine.new_promise is_object i.refs.me t.peer (newcomers_of n t.peer) (connection_of t) p) (code.is_next t p s) (p == length (map local_of (t.imports ++ s.imports))) (next_same p s) (new_promise_is p s)
  promise_is p (Some (held.Prom m)) s r = given name_view s (came.Known (reference.Promise m)) (Old (Prom m)) (λ ts. refl)
  promise_is p (Some (held.Obj j)) s r = refl
  promise_is p (Some (held.Far h q)) s r = refl
  promise_is p (Some held.Null) s r = absurd cc
  promise_is p (Some (held.Bool b)) s r = absurd cc
  promise_is p (Some (held.Int z)) s r = absurd cc
  promise_is p (Some (held.Char x)) s r = absurd cc
  promise_is p (Some (held.Text x)) s r = absurd cc
  promise_is p (Some (held.List x)) s r = absurd cc
  promise_is p (Some (held.Prim x)) s r = absurd cc
  promise_is p (Some (held.Broken x)) s r = absurd cc

  module _ (exports : AreReferences t.exports) where
    name_is : (d : Described) (s : News) → References s → Matches name_view s (code.name_heard t d s) (machine.name_heard is_object i.refs.me t.peer (newcomers_of n t.peer) (connection_of t) d (stage_of t l s))
    unfolding code.name_heard refuse machine.name_heard
    name_is (op.MyExport p) s r =
        let there = slice_get (t.imports ++ s.imports) p in
        let read = λ (o : Option Local). machine.object_heard is_object i.refs.me t.peer (newcomers_of n t.peer) (connection_of t) p o (stage_of t l s) in
        subst (λ (o : Option Value). Matches name_view s (code.object_at t p o s) (read (slice_get (map local_of (t.imports ++ s.imports)) p))) (sym (stands_at p s))
        (subst (λ (o : Option Local). Matches name_view s (code.object_at t p there s) (read o)) (sym (mapped_at local_of (t.imports ++ s.imports) p)) (object_is p there s (reference_at (t.imports ++ s.imports) p r)))
    name_is (op.MyPromise p) s r =
        let there = slice_get (t.imports ++ s.imports) p in
        let read = λ (o : Option Local). machine.promise_heard is_object i.refs.me t.peer (newcomers_of n t.peer) (connection_of t) p o (stage_of t l s) in
        subst (λ (o : Option Value). Matches name_view s (code.promise_at t p o s) (read (slice_get (map local_of (t.imports ++ s.imports)) p))) (sym (stands_at p s))
        (subst (λ (o : Option Local). Matches name_view s (code.promise_at t p there s) (read o)) (sym (mapped_at local_of (t.imports ++ s.imports) p)) (promise_is p there s (reference_at (t.imports ++ s.imports) p r)))
    name_is (op.YourExport p) s r =
        subst (λ (o : Option Local). Matches name_view s (code.known (slice_get t.exports p) s) (machine.told_if Old o (stage_of t l s))) (sym (mapped_at local_of t.exports p)) (known_is (slice_get t.exports p) s (reference_at t.exports p exports))
    name_is (op.MyAnswer q) s r =
        subst (λ (o : Option Local). Matches name_view s (code.known (option_map held.Prom (slice_get t.asked q)) s) (machine.told_if Old o (stage_of t l s))) (sym (mapped_at Prom t.asked q)) (promise_known (slice_get t.asked q) s)
    name_is (op.YourAnswer q) s r =
        subst (λ (o : Option Local). Matches name_view s (code.known (option_map held.Prom (slice_get t.answers q)) s) (machine.told_if Old o (stage_of t l s))) (sym (mapped_at Prom t.answers q)) (promise_known (slice_get t.answers q) s)
    name_is (op.Datum x) s r = refl
    name_is (op.ListOf ds) s r = refl
    name_is (op.Broken p) s r = refl
    name_is (op.Third h w) s r = refl

    -- ---- values

    abbrev pub part_view : List Words → Part → state.Passed Name
    part_view ts p = part_by ts t.peer n p

    abbrev pub parts_view : List Words → Parts → state.Passeds Name
    parts_view ts ps = parts_by ts t.peer n ps

    text_is : (value : ℕ → Value) (word : Words → values.Value Name) (x : Words) (s : News) → ((ts : List Words) (id : ℕ) → part_by ts t.peer n (part.Plain (value id)) ≡ state.Plain (word (text_by ts id)))
        → Matches part_view s (code.text_heard i value x s) (machine.told (state.Plain (word x)) (stage_of t l s))
    unfolding code.text_heard code.text_brought and_then ◌>>=◌ give machine.told
    text_is value word x s e = (
      record { texts = λ k y h. among_front s.texts (x ∷ []) k y h; references = λ r. r },
      λ ts h. ap (λ (z : state.Passed Name). Some (record { read = z; after = stage_of t l s }))
          (ap (λ (y : Words). state.Plain (word y)) (sym (h (length s.texts) x (at_end s.texts x))) ∙ sym (e ts (length i.heap.texts + length s.texts))),
    )

    broken_is : (p : Words) (s : News) → Matches part_view s (code.text_heard i held.Broken p s) (machine.told (state.Plain (values.Broken p)) (stage_of t l s))
    unfolding part_by
    broken_is p s = text_is held.Broken values.Broken p s (λ ts id. refl)

    fact_is : (x : Fact) (s : News) → Matches part_view s (code.fact_heard i x s) (machine.told (state.Plain (machine.fact_heard is_object i.refs.me t.peer (newcomers_of n t.peer) (connection_of t) x)) (stage_of t l s))
    unfolding code.fact_heard machine.fact_heard part_by give
    fact_is plain.Null s = given part_view s (part.Plain held.Null) (state.Plain values.Null) (λ ts. refl)
    fact_is (plain.Bool b) s = given part_view s (part.Plain (held.Bool b)) (state.Plain (values.Flag b)) (λ ts. refl)
    fact_is (plain.Int z) s = given part_view s (part.Plain (held.Int z)) (state.Plain (values.Number z)) (λ ts. refl)
    fact_is (plain.Char x) s = given part_view s (part.Plain (held.Char x)) (state.Plain (values.Letter x)) (λ ts. refl)
    fact_is (plain.Text x) s = text_is held.Text values.Text x s (λ ts id. refl)
    fact_is (plain.Prim p) s = given part_view s (part.Plain (held.Prim p)) (state.Plain (values.Prim p)) (λ ts. refl)

    gift_at_is : (h w : ℕ) (o : Option ℕ) (s : News) → (o ≡ None → find h t.peer w s.gifts ≡ None)
        → Matches part_view s (code.gift_at t h w o s) (machine.gift_heard is_object i.refs.me t.peer (newcomers_of n t.peer) (connection_of t) h (key t.peer w) (option_map Prom o) (stage_of t l s))
    unfolding code.gift_at give machine.gift_heard machine.told part_by
    gift_at_is h w (Some m) s e = given part_view s (part.Plain (held.Prom m)) (state.Plain (values.Ref (Old (Prom m)))) (λ ts. refl)
    gift_at_is h w None s e =
        let g : LearntGift = record { host = h; provider = t.peer; word = w; name = s.known } in
        let same : map learnt_of (l ++ put g s.gifts) ≡ map learnt_of (l ++ s.gifts) ++ learnt_of g ∷ [] =
        ap (λ (gs : LearntGifts). map learnt_of (l ++ gs)) (put_last g s.gifts (e refl)) ∙ ap (map learnt_of) (sym (append_assoc l s.gifts (g ∷ []))) ∙ map-append learnt_of (l ++ s.gifts) (g ∷ []) in (
          record { texts = λ k x h. h; references = λ r. r },
          λ ts st. ap (λ (gs : List (Learnt Local)). Some (record { read = state.AGift h (key t.peer w); after = record { imports = map local_of (t.imports ++ s.imports); learnt = gs; known = suc s.known } })) (sym same),
        )

    learnt_is : (h w : ℕ) (s : News) → learnt_at h (key t.peer w) (map learnt_of (l ++ s.gifts)) ≡ option_map Prom (code.learnt_by t l h w s)
    unfolding code.learnt_by
    learnt_is h w s = find_is h t.peer w (l ++ s.gifts) ∙ ap (option_map Prom) (find_append h t.peer w l s.gifts)

    learnt_none : (h w : ℕ) (s : News) → code.learnt_by t l h w s ≡ None → find h t.peer w s.gifts ≡ None
    unfolding code.learnt_by
    learnt_none h w s e = none_of (find h t.peer w l) (find h t.peer w s.gifts) e

    gift_is : (h w : ℕ) (s : News)
        → Matches part_view s (code.gift_heard t l h w s) (machine.gift_heard is_object i.refs.me t.peer (newcomers_of n t.peer) (connection_of t) h (key t.peer w) (learnt_at h (key t.peer w) (map learnt_of (l ++ s.gifts))) (stage_of t l s))
    unfolding code.gift_heard
    gift_is h w s =
        subst (λ (o : Option Local). Matches part_view s (code.gift_at t h w (code.learnt_by t l h w s) s) (machine.gift_heard is_object i.refs.me t.peer (newcomers_of n t.peer) (connection_of t) h (key t.peer w) o (stage_of t l s)))
        (sym (learnt_is h w s)) (gift_at_is h w (code.learnt_by t l h w s) s (learnt_none h w s))

    part_same : (ts : List Words) (x : Came) → state.Plain (values.Ref (incoming_by n x)) ≡ part_by ts t.peer n (code.part_of x)
    unfolding part_by
    part_same ts (came.Known (reference.Object j)) = refl
    part_same ts (came.Known (reference.Promise m)) = refl
    part_same ts (came.Known (reference.Far h p)) = refl
    part_same ts (came.New v) = refl

    reference_is : (d : Described) (s : News) → References s
        → Matches part_view s (code.reference_heard t d s) (machine.next (machine.reference_heard is_object i.refs.me t.peer (newcomers_of n t.peer) (connection_of t)) (machine.name_heard is_object i.refs.me t.peer (newcomers_of n t.peer) (connection_of t) d (stage_of t l s)))
    unfolding code.reference_heard ◌>>=◌ give machine.reference_heard
    reference_is d s r =
        bind name_view part_view s (λ x. give (code.part_of x)) (machine.reference_heard is_object i.refs.me t.peer (newcomers_of n t.peer) (connection_of t)) (machine.name_heard is_object i.refs.me t.peer (newcomers_of n t.peer) (connection_of t) d (stage_of t l s))
        (code.name_heard t d s) (name_is d s r) (λ x u e g ts. given part_view u (code.part_of x) (state.Plain (values.Ref (incoming_by n x))) (λ us. part_same us x))

    -- ---- one after the other, where the texts are these

    abbrev pub Sound : {A B : Type 0} → List Words → (List Words → A → B) → News → Out A → Option (Heard Local B) → Type 0
    Sound ts v s None d = Unit {0}
    Sound ts v s (Some x) d = Grows s x.1 × (TextsStand ts i x.1 → d ≡ Some (record { read = v ts x.0; after = stage_of t l x.1 }))

    sound : {A B : Type 0} (v : List Words → A → B) (s : News) (o : Out A) (d : Option (Heard Local B)) (ts : List Words) → Matches v s o d → Sound ts v s o d
    sound v s None d ts m = tt
    sound v s (Some x) d ts m = (m.0, m.1 ts)

    refused : {A B : Type 0} (v : List Words → A → B) (s : News) (o : Out A) (d : Option (Heard Local B)) → Matches v s o d → o ≡ None → d ≡ None
    refused v s None d m e = m
    refused v s (Some x) d m e = absurd cc

    given_at : {A B : Type 0} (ts : List Words) (v : List Words → A → B) (s : News) (x : A) (y : B) → y ≡ v ts x → Sound ts v s (Some (x, s)) (machine.told y (stage_of t l s))
    unfolding machine.told
    given_at ts v s x y e = (same_news s, λ h. ap (λ z. Some (record { read = z; after = stage_of t l s })) e)

    module _ {A B C D : Type 0} (v : List Words → A → B) (w : List Words → C → D) (s : News) (f : A → Act C) (g : B → Stage Local → Option (Heard Local D)) (d : Option (Heard Local B)) where
      sound_rest : (ts : List Words) (x : A) (u : News) → Grows s u → (TextsStand ts i u → d ≡ Some (record { read = v ts x; after = stage_of t l u })) → (o : Out C) → Sound ts w u o (g (v ts x) (stage_of t l u)) → Sound ts w s o (machine.next g d)
      unfolding machine.next
      sound_rest ts x u grown is None k = tt
      sound_rest ts x u grown is (Some y) k = (grows_on s u y.1 grown k.0, λ h. ap (machine.next g) (is (earlier ts u y.1 k.0 h)) ∙ k.1 h)

      pub bind_sound : (ts : List Words) (o : Out A) → Sound ts v s o d → ((x : A) (u : News) → o ≡ Some (x, u) → Grows s u → Sound ts w u (f x u) (g (v ts x) (stage_of t l u))) → Sound ts w s (and_then o f) (machine.next g d)
      unfolding and_then machine.next
      bind_sound ts None h k = tt
      bind_sound ts (Some x) h k = sound_rest ts x.0 x.1 h.0 h.1 (f x.0 x.1) (k x.0 x.1 refl h.0)

      pub bind_none : (o : Out A) → ((ts : List Words) → Sound ts v s o d) → (o ≡ None → d ≡ None) → ((x : A) (u : News) → o ≡ Some (x, u) → Grows s u → (y : B) → f x u ≡ None → g y (stage_of t l u) ≡ None) → and_then o f ≡ None → machine.next g d ≡ None
      unfolding and_then machine.next
      bind_none None h r k e = ap (machine.next g) (r refl)
      bind_none (Some x) h r k e =
          let ts = i.heap.texts ++ x.1.texts in
          ap (machine.next g) ((h ts).1 (they_stand x.1)) ∙ k x.0 x.1 refl (h ts).0 (v ts x.0) e

    gave_none : {A B : Type 0} (o : Out A) (f : A → B) → and_then o (λ x. give (f x)) ≡ None → o ≡ None
    unfolding and_then give
    gave_none None f e = refl
    gave_none (Some x) f e = absurd cc

    named_sound : (d : Described) (s : News) → References s → (ts : List Words)
        → Sound ts part_view s (code.reference_heard t d s) (machine.next (machine.reference_heard is_object i.refs.me t.peer (newcomers_of n t.peer) (connection_of t)) (machine.name_heard is_object i.refs.me t.peer (newcomers_of n t.peer) (connection_of t) d (stage_of t l s)))
    named_sound d s r ts =
        sound part_view s (code.reference_heard t d s) (machine.next (machine.reference_heard is_object i.refs.me t.peer (newcomers_of n t.peer) (connection_of t)) (machine.name_heard is_object i.refs.me t.peer (newcomers_of n t.peer) (connection_of t) d (stage_of t l s))) ts (reference_is d s r)

    named_none : (d : Described) (s : News) → References s → code.reference_heard t d s ≡ None
        → machine.next (machine.reference_heard is_object i.refs.me t.peer (newcomers_of n t.peer) (connection_of t)) (machine.name_heard is_object i.refs.me t.peer (newcomers_of n t.peer) (connection_of t) d (stage_of t l s)) ≡ None
    named_none d s r e =
        refused part_view s (code.reference_heard t d s) (machine.next (machine.reference_heard is_object i.refs.me t.peer (newcomers_of n t.peer) (connection_of t)) (machine.name_heard is_object i.refs.me t.peer (newcomers_of n t.peer) (connection_of t) d (stage_of t l s))) (reference_is d s r) e

    mutual
      unfolding code.part_heard code.parts_heard machine.passed_heard machine.all_heard ◌>>=◌ give part_by parts_by

      part_sound : (d : Described) (s : News) → References s → (ts : List Words) → Sound ts part_view s (code.part_heard i t l d s) (machine.passed_heard is_object i.refs.me t.peer (newcomers_of n t.peer) (connection_of t) d (stage_of t l s))
      part_sound (op.Datum x) s r ts = sound part_view s (code.fact_heard i x s) (machine.told (state.Plain (machine.fact_heard is_object i.refs.me t.peer (newcomers_of n t.peer) (connection_of t) x)) (stage_of t l s)) ts (fact_is x s)
      part_sound (op.Broken p) s r ts = sound part_view s (code.text_heard i held.Broken p s) (machine.told (state.Plain (values.Broken p)) (stage_of t l s)) ts (broken_is p s)
      part_sound (op.ListOf ds) s r ts =
          bind_sound parts_view part_view s (λ ps. give (part.Many ps)) (λ ys. machine.told (state.Many ys)) (machine.all_heard is_object i.refs.me t.peer (newcomers_of n t.peer) (connection_of t) ds (stage_of t l s)) ts (code.parts_heard i t l ds s) (parts_sound ds s r ts)
          (λ ps u e g. given_at ts part_view u (part.Many ps) (state.Many (parts_by ts t.peer n ps)) refl)
      part_sound (op.Third h w) s r ts =
          sound part_view s (code.gift_heard t l h w s) (machine.gift_heard is_object i.refs.me t.peer (newcomers_of n t.peer) (connection_of t) h (key t.peer w) (learnt_at h (key t.peer w) (map learnt_of (l ++ s.gifts))) (stage_of t l s)) ts (gift_is h w s)
      part_sound (op.MyExport p) s r ts = named_sound (op.MyExport p) s r ts
      part_sound (op.MyPromise p) s r ts = named_sound (op.MyPromise p) s r ts
      part_sound (op.YourExport p) s r ts = named_sound (op.YourExport p) s r ts
      part_sound (op.MyAnswer q) s r ts = named_sound (op.MyAnswer q) s r ts
      part_sound (op.YourAnswer q) s r ts = named_sound (op.YourAnswer q) s r ts

      parts_sound : (ds : Members) (s : News) → References s → (ts : List Words) → Sound ts parts_view s (code.parts_heard i t l ds s) (machine.all_heard is_object i.refs.me t.peer (newcomers_of n t.peer) (connection_of t) ds (stage_of t l s))
      parts_sound op.none s r ts = given_at ts parts_view s part.NoMore state.NoMore refl
      parts_sound (op.more d ds) s r ts =
          bind_sound part_view parts_view s (λ p. code.parts_heard i t l ds >>= λ ps. give (part.More p ps)) (λ y st. machine.next (λ ys. machine.told (state.More y ys)) (machine.all_heard is_object i.refs.me t.peer (newcomers_of n t.peer) (connection_of t) ds st))
          (machine.passed_heard is_object i.refs.me t.peer (newcomers_of n t.peer) (connection_of t) d (stage_of t l s)) ts (code.part_heard i t l d s) (part_sound d s r ts)
          (λ p u e g. bind_sound parts_view parts_view u (λ ps. give (part.More p ps)) (λ ys. machine.told (state.More (part_by ts t.peer n p) ys)) (machine.all_heard is_object i.refs.me t.peer (newcomers_of n t.peer) (connection_of t) ds (stage_of t l u)) ts (code.parts_heard i t l ds u) (parts_sound ds u (g.references r) ts)
          (λ ps w f h. given_at ts parts_view w (part.More p ps) (state.More (part_by ts t.peer n p) (parts_by ts t.peer n ps)) refl))

    gives_some : {A B : Type 0} (x : A) (s : News) (d e : B) → give x s ≡ None → d ≡ e
    unfolding give
    gives_some x s d e h = absurd cc

    mutual
      unfolding code.part_heard code.parts_heard machine.passed_heard machine.all_heard ◌>>=◌ machine.next

      part_none : (d : Described) (s : News) → References s → code.part_heard i t l d s ≡ None → machine.passed_heard is_object i.refs.me t.peer (newcomers_of n t.peer) (connection_of t) d (stage_of t l s) ≡ None
      part_none (op.Datum x) s r e = refused part_view s (code.fact_heard i x s) (machine.told (state.Plain (machine.fact_heard is_object i.refs.me t.peer (newcomers_of n t.peer) (connection_of t) x)) (stage_of t l s)) (fact_is x s) e
      part_none (op.Broken p) s r e = refused part_view s (code.text_heard i held.Broken p s) (machine.told (state.Plain (values.Broken p)) (stage_of t l s)) (broken_is p s) e
      part_none (op.ListOf ds) s r e = ap (machine.next (λ ys. machine.told (state.Many ys))) (parts_none ds s r (gave_none (code.parts_heard i t l ds s) part.Many e))
      part_none (op.Third h w) s r e =
          refused part_view s (code.gift_heard t l h w s) (machine.gift_heard is_object i.refs.me t.peer (newcomers_of n t.peer) (connection_of t) h (key t.peer w) (learnt_at h (key t.peer w) (map learnt_of (l ++ s.gifts))) (stage_of t l s)) (gift_is h w s) e
      part_none (op.MyExport p) s r e = named_none (op.MyExport p) s r e
      part_none (op.MyPromise p) s r e = named_none (op.MyPromise p) s r e
      part_none (op.YourExport p) s r e = named_none (op.YourExport p) s r e
      part_none (op.MyAnswer q) s r e = named_none (op.MyAnswer q) s r e
      part_none (op.YourAnswer q) s r e = named_none (op.YourAnswer q) s r e

      parts_none : (ds : Members) (s : News) → References s → code.parts_heard i t l ds s ≡ None → machine.all_heard is_object i.refs.me t.peer (newcomers_of n t.peer) (connection_of t) ds (stage_of t l s) ≡ None
      parts_none op.none s r e = gives_some part.NoMore s _ _ e
      parts_none (op.more d ds) s r e =
          bind_none part_view parts_view s (λ p. code.parts_heard i t l ds >>= λ ps. give (part.More p ps)) (λ y st. machine.next (λ ys. machine.told (state.More y ys)) (machine.all_heard is_object i.refs.me t.peer (newcomers_of n t.peer) (connection_of t) ds st))
          (machine.passed_heard is_object i.refs.me t.peer (newcomers_of n t.peer) (connection_of t) d (stage_of t l s)) (code.part_heard i t l d s) (part_sound d s r) (part_none d s r)
          (λ p u f g y h. ap (machine.next (λ ys. machine.told (state.More y ys))) (parts_none ds u (g.references r) (gave_none (code.parts_heard i t l ds u) (part.More p) h))) e

    -- ---- notes

    abbrev pub note_view : List Words → Told → state.Note Name
    note_view ts x = told_by ts n i.refs.me t.peer x

    name_sound : (d : Described) (s : News) → References s → (ts : List Words) → Sound ts name_view s (code.name_heard t d s) (machine.name_heard is_object i.refs.me t.peer (newcomers_of n t.peer) (connection_of t) d (stage_of t l s))
    name_sound d s r ts = sound name_view s (code.name_heard t d s) (machine.name_heard is_object i.refs.me t.peer (newcomers_of n t.peer) (connection_of t) d (stage_of t l s)) ts (name_is d s r)

    name_none : (d : Described) (s : News) → References s → code.name_heard t d s ≡ None → machine.name_heard is_object i.refs.me t.peer (newcomers_of n t.peer) (connection_of t) d (stage_of t l s) ≡ None
    name_none d s r e = refused name_view s (code.name_heard t d s) (machine.name_heard is_object i.refs.me t.peer (newcomers_of n t.peer) (connection_of t) d (stage_of t l s)) (name_is d s r) e

    message_sound : (asks : Bool) (d : Described) (verb : Words) (ds : Members) (s : News) → References s → (ts : List Words)
        → Sound ts note_view s (code.message_heard i t l asks d verb ds s) (machine.message_heard is_object i.refs.me t.peer (newcomers_of n t.peer) (connection_of t) asks d verb ds (stage_of t l s))
    unfolding code.message_heard machine.message_heard ◌>>=◌ give
    message_sound asks d verb ds s r ts =
        bind_sound name_view note_view s (λ x. code.parts_heard i t l ds >>= λ ps. give (told.Deliver carried.New asks x verb ps))
        (λ x st. machine.next (λ ys. machine.told (state.Deliver (record { message = New n t.peer; asks = asks; answer = None }) x verb ys)) (machine.all_heard is_object i.refs.me t.peer (newcomers_of n t.peer) (connection_of t) ds st))
        (machine.name_heard is_object i.refs.me t.peer (newcomers_of n t.peer) (connection_of t) d (stage_of t l s)) ts (code.name_heard t d s) (name_sound d s r ts)
        (λ x u e g. bind_sound parts_view note_view u (λ ps. give (told.Deliver carried.New asks x verb ps)) (λ ys. machine.told (state.Deliver (record { message = New n t.peer; asks = asks; answer = None }) (incoming_by n x) verb ys))
        (machine.all_heard is_object i.refs.me t.peer (newcomers_of n t.peer) (connection_of t) ds (stage_of t l u)) ts (code.parts_heard i t l ds u) (parts_sound ds u (g.references r) ts)
        (λ ps w f h. given_at ts note_view w (told.Deliver carried.New asks x verb ps) (state.Deliver (record { message = New n t.peer; asks = asks; answer = None }) (incoming_by n x) verb (parts_by ts t.peer n ps)) refl))

    message_none : (asks : Bool) (d : Described) (verb : Words) (ds : Members) (s : News) → References s → code.message_heard i t l asks d verb ds s ≡ None
        → machine.message_heard is_object i.refs.me t.peer (newcomers_of n t.peer) (connection_of t) asks d verb ds (stage_of t l s) ≡ None
    unfolding code.message_heard machine.message_heard ◌>>=◌ machine.next
    message_none asks d verb ds s r e =
        bind_none name_view note_view s (λ x. code.parts_heard i t l ds >>= λ ps. give (told.Deliver carried.New asks x verb ps))
        (λ x st. machine.next (λ ys. machine.told (state.Deliver (record { message = New n t.peer; asks = asks; answer = None }) x verb ys)) (machine.all_heard is_object i.refs.me t.peer (newcomers_of n t.peer) (connection_of t) ds st))
        (machine.name_heard is_object i.refs.me t.peer (newcomers_of n t.peer) (connection_of t) d (stage_of t l s)) (code.name_heard t d s) (name_sound d s r) (name_none d s r)
        (λ x u f g y h. ap (machine.next (λ ys. machine.told (state.Deliver (record { message = New n t.peer; asks = asks; answer = None }) y verb ys))) (parts_none ds u (g.references r) (gave_none (code.parts_heard i t l ds u) (λ ps. told.Deliver carried.New asks x verb ps) h))) e

    outcome_sound : (x : Subject) (o : Outcome) (s : News) → References s → (ts : List Words)
        → Sound ts note_view s (code.outcome_heard i t l x o s) (machine.outcome_heard is_object i.refs.me t.peer (newcomers_of n t.peer) (connection_of t) (subject_by n x) o (stage_of t l s))
    unfolding code.outcome_heard machine.outcome_heard ◌>>=◌ give
    outcome_sound x (op.To d) s r ts =
        bind_sound part_view note_view s (λ y. give (told.Settled x y)) (λ y. machine.told (state.SettledTo (subject_by n x) y)) (machine.passed_heard is_object i.refs.me t.peer (newcomers_of n t.peer) (connection_of t) d (stage_of t l s)) ts (code.part_heard i t l d s) (part_sound d s r ts)
        (λ y u e g. given_at ts note_view u (told.Settled x y) (state.SettledTo (subject_by n x) (part_by ts t.peer n y)) refl)
    outcome_sound x (op.Elsewhere h) s r ts = given_at ts note_view s (told.Elsewhere x h) (state.Elsewhere (subject_by n x) h) refl

    outcome_none : (x : Subject) (y : Name) (o : Outcome) (s : News) → References s → code.outcome_heard i t l x o s ≡ None → machine.outcome_heard is_object i.refs.me t.peer (newcomers_of n t.peer) (connection_of t) y o (stage_of t l s) ≡ None
    unfolding code.outcome_heard machine.outcome_heard ◌>>=◌ machine.next
    outcome_none x y (op.To d) s r e = ap (machine.next (λ z. machine.told (state.SettledTo y z))) (part_none d s r (gave_none (code.part_heard i t l d s) (told.Settled x) e))
    outcome_none x y (op.Elsewhere h) s r e = gives_some (told.Elsewhere x h) s _ _ e

    -- what settled is a promise
    abbrev pub IsName : Came → Type 0
    IsName (came.Known (reference.Promise m)) = Unit {0}
    IsName (came.Known (reference.Object m)) = ⊥
    IsName (came.Known (reference.Far h p)) = ⊥
    IsName (came.New v) = Unit {0}

    abbrev pub NamesOne : Out Came → Type 0
    NamesOne (Some x) = IsName x.0
    NamesOne None = Unit {0}

    one_if : (b : Bool) (s : News) → NamesOne (cond b (code.new_promise t s) None)
    unfolding code.new_promise
    one_if true s = tt
    one_if false s = tt

    one_at : (p : ℕ) (o : Option Value) (s : News) → NamesOne (code.promise_at t p o s)
    unfolding code.promise_at code.known_promise give refuse
    one_at p None s = one_if (code.is_next t p s) s
    one_at p (Some (held.Prom m)) s = tt
    one_at p (Some (held.Obj m)) s = tt
    one_at p (Some (held.Far h q)) s = tt
    one_at p (Some held.Null) s = tt
    one_at p (Some (held.Bool b)) s = tt
    one_at p (Some (held.Int z)) s = tt
    one_at p (Some (held.Char x)) s = tt
    one_at p (Some (held.Text x)) s = tt
    one_at p (Some (held.List x)) s = tt
    one_at p (Some (held.Prim x)) s = tt
    one_at p (Some (held.Broken x)) s = tt

    one_known : (o : Option ℕ) (s : News) → NamesOne (code.known (option_map held.Prom o) s)
    unfolding code.known code.known_value give refuse
    one_known None s = tt
    one_known (Some m) s = tt

    one_heard : (d : Described) (s : News) → IsPromise d → NamesOne (code.name_heard t d s)
    unfolding code.name_heard
    one_heard (op.MyPromise p) s h = one_at p (code.import_at t p s) s
    one_heard (op.MyAnswer q) s h = one_known (slice_get t.asked q) s
    one_heard (op.MyExport p) s h = absurd h
    one_heard (op.YourExport p) s h = absurd h
    one_heard (op.YourAnswer q) s h = absurd h
    one_heard (op.Datum x) s h = absurd h
    one_heard (op.ListOf ds) s h = absurd h
    one_heard (op.Broken p) s h = absurd h
    one_heard (op.Third g w) s h = absurd h

    settled_sound : (x : Came) (o : Outcome) (s : News) → IsName x → References s → (ts : List Words)
        → Sound ts note_view s (and_then (code.subject_of x s) (λ y. code.outcome_heard i t l y o)) (machine.outcome_heard is_object i.refs.me t.peer (newcomers_of n t.peer) (connection_of t) (incoming_by n x) o (stage_of t l s))
    unfolding code.subject_of code.subject_at give and_then
    settled_sound (came.Known (reference.Promise m)) o s h r ts = outcome_sound (subject.Known m) o s r ts
    settled_sound (came.New v) o s h r ts = outcome_sound (subject.New v) o s r ts
    settled_sound (came.Known (reference.Object m)) o s h r ts = absurd h
    settled_sound (came.Known (reference.Far g p)) o s h r ts = absurd h

    settled_none : (x : Came) (y : Name) (o : Outcome) (s : News) → IsName x → References s → and_then (code.subject_of x s) (λ z. code.outcome_heard i t l z o) ≡ None
        → machine.outcome_heard is_object i.refs.me t.peer (newcomers_of n t.peer) (connection_of t) y o (stage_of t l s) ≡ None
    unfolding code.subject_of code.subject_at give and_then
    settled_none (came.Known (reference.Promise m)) y o s h r e = outcome_none (subject.Known m) y o s r e
    settled_none (came.New v) y o s h r e = outcome_none (subject.New v) y o s r e
    settled_none (came.Known (reference.Object m)) y o s h r e = absurd h
    settled_none (came.Known (reference.Far g p)) y o s h r e = absurd h

    -- a question's number is the next
    asked_same : (q : ℕ) → (q == length t.answers) ≡ (q == length (map Prom t.answers))
    asked_same q = ap (λ (k : ℕ). q == k) (sym (length-map t.answers Prom))

    sound_if : (ts : List Words) (s : News) (o : Out Told) (f : Stage Local → Option (Heard Local (state.Note Name))) (b c : Bool) → b ≡ c → Sound ts note_view s o (f (stage_of t l s)) → Sound ts note_view s (cond b o None) (machine.told_where c f (stage_of t l s))
    unfolding machine.told_where
    sound_if ts s o f true true e m = m
    sound_if ts s o f false c e m = tt
    sound_if ts s o f true false e m = absurd cc

    none_if : (s : News) (o : Out Told) (f : Stage Local → Option (Heard Local (state.Note Name))) (b c : Bool) → b ≡ c → (o ≡ None → f (stage_of t l s) ≡ None) → cond b o None ≡ None → machine.told_where c f (stage_of t l s) ≡ None
    unfolding machine.told_where
    none_if s o f true true e m h = m h
    none_if s o f false false e m h = refl
    none_if s o f true false e m h = absurd cc
    none_if s o f false true e m h = absurd cc

    name_then : (d : Described) (s : News) → (x : Came) (u : News) → code.name_heard t d s ≡ Some (x, u) → IsPromise d → IsName x
    name_then d s x u e h = subst NamesOne e (one_heard d s h)

    note_sound : (o : Operation) (s : News) → TellsOfPromises o → References s → (ts : List Words) → Sound ts note_view s (code.note_heard i t l o s) (machine.note_heard is_object i.refs.me t.peer (newcomers_of n t.peer) (connection_of t) o (stage_of t l s))
    unfolding code.note_heard code.where_next machine.note_heard ◌>>=◌ give
    note_sound (op.Deliver q d verb ds) s h r ts =
        sound_if ts s (code.message_heard i t l true d verb ds s) (machine.message_heard is_object i.refs.me t.peer (newcomers_of n t.peer) (connection_of t) true d verb ds) (q == length t.answers) (q == length (map Prom t.answers)) (asked_same q) (message_sound true d verb ds s r ts)
    note_sound (op.DeliverOnly d verb ds) s h r ts = message_sound false d verb ds s r ts
    note_sound (op.Provide d w) s h r ts =
        bind_sound name_view note_view s (λ x. give (told.Open w x)) (λ x. machine.told (state.Open (key t.peer w) x)) (machine.name_heard is_object i.refs.me t.peer (newcomers_of n t.peer) (connection_of t) d (stage_of t l s)) ts (code.name_heard t d s) (name_sound d s r ts)
        (λ x u e g. given_at ts note_view u (told.Open w x) (state.Open (key t.peer w) (incoming_by n x)) refl)
    note_sound (op.Accept q p w) s h r ts =
        sound_if ts s (Some (told.Ask p w, s)) (machine.told (state.Ask p (key p w) (New n i.refs.me))) (q == length t.answers) (q == length (map Prom t.answers)) (asked_same q) (given_at ts note_view s (told.Ask p w) (state.Ask p (key p w) (New n i.refs.me)) refl)
    note_sound (op.Resolve d o) s h r ts =
        bind_sound name_view note_view s (λ x. code.subject_of x >>= λ y. code.outcome_heard i t l y o) (λ x. machine.outcome_heard is_object i.refs.me t.peer (newcomers_of n t.peer) (connection_of t) x o) (machine.name_heard is_object i.refs.me t.peer (newcomers_of n t.peer) (connection_of t) d (stage_of t l s)) ts (code.name_heard t d s) (name_sound d s r ts)
        (λ x u e g. settled_sound x o u (name_then d s x u e h) (g.references r) ts)
    note_sound (op.Shorten d w) s h r ts =
        bind_sound name_view note_view s (λ x. give (told.Shorten x (record { provider = i.refs.me; word = w }))) (λ x. machine.told (state.Shorten x t.peer (key i.refs.me w))) (machine.name_heard is_object i.refs.me t.peer (newcomers_of n t.peer) (connection_of t) d (stage_of t l s)) ts (code.name_heard t d s) (name_sound d s r ts)
        (λ x u e g. given_at ts note_view u (told.Shorten x (record { provider = i.refs.me; word = w })) (state.Shorten (incoming_by n x) t.peer (key i.refs.me w)) refl)

    note_none : (o : Operation) (s : News) → TellsOfPromises o → References s → code.note_heard i t l o s ≡ None → machine.note_heard is_object i.refs.me t.peer (newcomers_of n t.peer) (connection_of t) o (stage_of t l s) ≡ None
    unfolding code.note_heard code.where_next machine.note_heard ◌>>=◌ machine.next
    note_none (op.Deliver q d verb ds) s h r e =
        none_if s (code.message_heard i t l true d verb ds s) (machine.message_heard is_object i.refs.me t.peer (newcomers_of n t.peer) (connection_of t) true d verb ds) (q == length t.answers) (q == length (map Prom t.answers)) (asked_same q) (message_none true d verb ds s r) e
    note_none (op.DeliverOnly d verb ds) s h r e = message_none false d verb ds s r e
    note_none (op.Provide d w) s h r e = ap (machine.next (λ x. machine.told (state.Open (key t.peer w) x))) (name_none d s r (gave_none (code.name_heard t d s) (told.Open w) e))
    note_none (op.Accept q p w) s h r e =
        none_if s (give (told.Ask p w) s) (machine.told (state.Ask p (key p w) (New n i.refs.me))) (q == length t.answers) (q == length (map Prom t.answers)) (asked_same q) (λ f. gives_some (told.Ask p w) s _ _ f) e
    note_none (op.Resolve d o) s h r e =
        bind_none name_view note_view s (λ x. code.subject_of x >>= λ y. code.outcome_heard i t l y o) (λ x. machine.outcome_heard is_object i.refs.me t.peer (newcomers_of n t.peer) (connection_of t) x o) (machine.name_heard is_object i.refs.me t.peer (newcomers_of n t.peer) (connection_of t) d (stage_of t l s)) (code.name_heard t d s) (name_sound d s r) (name_none d s r)
        (λ x u f g y k. settled_none x y o u (name_then d s x u f h) (g.references r) k) e
    note_none (op.Shorten d w) s h r e = ap (machine.next (λ x. machine.told (state.Shorten x t.peer (key i.refs.me w)))) (name_none d s r (gave_none (code.name_heard t d s) (λ x. told.Shorten x (record { provider = i.refs.me; word = w })) e))

    stands_by : (o : Operation) (s : News) → TellsOfPromises o → References s → (out : Out Told) → code.note_heard i t l o s ≡ out → StandsFor n i t l out (machine.note_heard is_object i.refs.me t.peer (newcomers_of n t.peer) (connection_of t) o (stage_of t l s))
    stands_by o s h r None e = note_none o s h r e
    stands_by o s h r (Some x) e =
        λ ts st. (subst (λ (out : Out Told). Sound ts note_view s out (machine.note_heard is_object i.refs.me t.peer (newcomers_of n t.peer) (connection_of t) o (stage_of t l s))) e (note_sound o s h r ts)).1 st

pub hears : HearsAsTheMachine
hears n i t l o h exports imports = stands_by n i t l exports o (code.no_news i) h (subst AreReferences (sym (append-nil t.imports)) imports) (code.note_heard i t l o (code.no_news i)) refl
