-- Each reference is found by the number that came first, whatever is exported, imported, asked for and answered.
use Rattle.std.proofs.Common.{◌≡◌, ℕ, suc, Bool, true, false, cond, List, [], ◌∷◌, ◌++◌, length, Option, Some, None, is_some, refl, sym, ap, ◌∙◌}
use Rattle.std.specs.Prelude.{option_map}
use Rattle.std.proofs.lemmas.List.{length-map}
use Rattle.ev_base.specs.declared.values.Value.{Value}
use Rattle.ev_base.specs.declared.values.Value.TheVariants as held
use Rattle.ev_tables.specs.SameLaws.{same_is}
use Rattle.ev_tables.specs.Thing.{same_value}
use Rattle.ev_tables.specs.Table.{NameList, Table, answered, asked_for, export_number, fresh, imported, name_of, named, place_of}
use Rattle.ev_tables.specs.declared.numeral.Number.{Number}
use Rattle.ev_tables.specs.declared.numeral.Number.TheVariants.{YourExport, YourAnswer, MyAnswer}
use Rattle.ev_tables.specs.Standing.{AreReferences, IsKept, first_number, is_own, is_reference, local_of, or_else, promises}
use Rattle.ev_tables.specs.Statements.{AnsweringKeeps, AskingKeeps, BeginsKept, ImportingKeeps}

-- ---- one more at the end

name_step : (b s : Bool) (o : Option Number) (m n : Number) → cond b (Some m) (or_else o (cond s (Some n) None)) ≡ or_else (cond b (Some m) o) (cond s (Some n) None)
name_step true s o m n = refl
name_step false s o m n = refl

name_push : (w v : Value) (n : Number) (es : NameList) → name_of w (es ++ (v, n) ∷ []) ≡ or_else (name_of w es) (cond (same_value w v) (Some n) None)
name_push w v n [] = refl
name_push w v n (e ∷ es) = ap (λ (o : Option Number). cond (same_value w e.0) (Some e.1) o) (name_push w v n es) ∙ name_step (same_value w e.0) (same_value w v) (name_of w es) e.1 n

place_step : (b s : Bool) (o : Option ℕ) (n : ℕ) → cond b (Some 0) (option_map suc (or_else o (cond s (Some n) None))) ≡ or_else (cond b (Some 0) (option_map suc o)) (cond s (Some (suc n)) None)
place_step true s o n = refl
place_step false true None n = refl
place_step false false None n = refl
place_step false s (Some k) n = refl

place_push : (w v : Value) (ts : List Value) → place_of w (ts ++ v ∷ []) ≡ or_else (place_of w ts) (cond (same_value w v) (Some (length ts)) None)
place_push w v [] = place_first (same_value w v)
  where
    place_first : (s : Bool) → cond s (Some 0) (option_map suc None) ≡ cond s (Some 0) None
    place_first true = refl
    place_first false = refl
place_push w v (t ∷ ts) = ap (λ (o : Option ℕ). cond (same_value w t) (Some 0) (option_map suc o)) (place_push w v ts) ∙ place_step (same_value w t) (same_value w v) (place_of w ts) (length ts)

promise_push : (ns : List ℕ) (p : ℕ) → promises (ns ++ p ∷ []) ≡ promises ns ++ held.Prom p ∷ []
promise_push [] p = refl
promise_push (n ∷ ns) p = ap (λ (vs : List Value). held.Prom n ∷ vs) (promise_push ns p)

promise_place : (w : Value) (ns : List ℕ) (p : ℕ) → place_of w (promises (ns ++ p ∷ [])) ≡ or_else (place_of w (promises ns)) (cond (same_value w (held.Prom p)) (Some (length ns)) None)
promise_place w ns p =
    ap (place_of w) (promise_push ns p) ∙ place_push w (held.Prom p) (promises ns)
    ∙ ap (λ (n : ℕ). or_else (place_of w (promises ns)) (cond (same_value w (held.Prom p)) (Some n) None)) (length-map ns held.Prom)

pub references_push : (ts : List Value) (v : Value) → AreReferences ts → is_reference v ≡ true → AreReferences (ts ++ v ∷ [])
references_push [] v a r = (r, tt)
references_push (t ∷ ts) v a r = (a.0, references_push ts v a.1 r)

-- ---- the two places of a number

-- in front: what is new has no number
front : (f g : ℕ → Number) (x y : Option ℕ) (s : Bool) (n : ℕ) → (s ≡ true → (x ≡ None) × (y ≡ None)) → or_else (option_map f (or_else x (cond s (Some n) None))) (option_map g y) ≡ or_else (or_else (option_map f x) (option_map g y)) (cond s (Some (f n)) None)
front f g (Some k) y s n h = refl
front f g None None true n h = refl
front f g None None false n h = refl
front f g None (Some k) false n h = refl
front f g None (Some k) true n h = let e = (h refl).1 in absurd cc

-- behind
back : (f g : ℕ → Number) (x y : Option ℕ) (s : Bool) (n : ℕ) → or_else (option_map f x) (option_map g (or_else y (cond s (Some n) None))) ≡ or_else (or_else (option_map f x) (option_map g y)) (cond s (Some (g n)) None)
back f g (Some k) y s n = refl
back f g None (Some k) s n = refl
back f g None None true n = refl
back f g None None false n = refl

absent : (f g : ℕ → Number) (x y : Option ℕ) → or_else (option_map f x) (option_map g y) ≡ None → (x ≡ None) × (y ≡ None)
absent f g None None h = (refl, refl)
absent f g (Some k) y h = absurd cc
absent f g None (Some k) h = absurd cc

-- what is found in names with one more, if that has no number yet
or_named : (w v : Value) (n : Number) (es : NameList) (o : Option Number) → name_of v es ≡ o → (s : Bool) → same_value w v ≡ s → name_of w (cond (is_some o) es (es ++ (v, n) ∷ [])) ≡ or_else (name_of w es) (cond s (Some n) None)
or_named w v n es None e s f = name_push w v n es ∙ ap (λ (b : Bool). or_else (name_of w es) (cond b (Some n) None)) f
or_named w v n es (Some m) e false f = or_nothing (name_of w es)
  where
    or_nothing : (o : Option Number) → o ≡ or_else o None
    or_nothing None = refl
    or_nothing (Some k) = refl
or_named w v n es (Some m) e true f = let i : name_of w es ≡ Some m = ap (λ (u : Value). name_of u es) (same_is w v f) ∙ e in rw (i) refl

pub found_in : (w v : Value) (n : Number) (es : NameList) → name_of w (named v n es) ≡ or_else (name_of w es) (cond (same_value w v) (Some n) None)
found_in w v n es = or_named w v n es (name_of v es) refl (same_value w v) refl

-- a name of another host is another
other : (mine : ℕ → Bool) (w v : Value) (a b : Bool) → is_own mine (local_of w) ≡ a → is_own mine (local_of v) ≡ b → (a ≡ b → ⊥) → (s : Bool) → same_value w v ≡ s → s ≡ false
other mine w v a b e f h false g = refl
other mine w v a b e f h true g = absurd (h (sym e ∙ ap (λ (u : Value). is_own mine (local_of u)) (same_is w v g) ∙ f))

-- ---- what is told

module _ (mine : ℕ → Bool) where
  abbrev pub with_export : Value → Table → Table
  with_export v t = record t { exports = t.exports ++ v ∷ []; names = named v (export_number v (length t.exports)) t.names }

  same_number : (w v : Value) (n : ℕ) (s : Bool) → same_value w v ≡ s → cond s (Some (export_number v n)) None ≡ cond s (Some (export_number w n)) None
  same_number w v n false e = refl
  same_number w v n true e = ap (λ (u : Value). Some (export_number u n)) (sym (same_is w v e))

  pub absent_own : (w : Value) (t : Table) → is_reference w ≡ true → is_own mine (local_of w) ≡ true → IsKept mine t → name_of w t.names ≡ None → (place_of w t.exports ≡ None) × (place_of w (promises t.answers) ≡ None)
  unfolding first_number
  absent_own w t r o k e = absent (export_number w) MyAnswer (place_of w t.exports) (place_of w (promises t.answers)) (sym (k.found w r ∙ ap (λ (b : Bool). first_number b w t) o) ∙ e)

  absent_yours : (w : Value) (t : Table) → is_reference w ≡ true → is_own mine (local_of w) ≡ false → IsKept mine t → name_of w t.names ≡ None → (place_of w (promises t.asked) ≡ None) × (place_of w t.imports ≡ None)
  unfolding first_number
  absent_yours w t r o k e = absent YourAnswer YourExport (place_of w (promises t.asked)) (place_of w t.imports) (sym (k.found w r ∙ ap (λ (b : Bool). first_number b w t) o) ∙ e)

  export_own : (v w : Value) (t : Table) → is_reference w ≡ true → name_of v t.names ≡ None → IsKept mine t → is_own mine (local_of w) ≡ true → (s : Bool) → same_value w v ≡ s
      → name_of w (named v (export_number v (length t.exports)) t.names) ≡ first_number true w (with_export v t)
  unfolding first_number
  export_own v w t q e k f s g =
      let n = length t.exports in
      let x = place_of w t.exports in
      let y = place_of w (promises t.answers) in
      let last : name_of w (named v (export_number v n) t.names) ≡ or_else (name_of w t.names) (cond s (Some (export_number v n)) None) = found_in w v (export_number v n) t.names ∙ ap (λ (b : Bool). or_else (name_of w t.names) (cond b (Some (export_number v n)) None)) g in
      let was : name_of w t.names ≡ or_else (option_map (export_number w) x) (option_map MyAnswer y) = k.found w q ∙ ap (λ (b : Bool). first_number b w t) f in
      let place : place_of w (t.exports ++ v ∷ []) ≡ or_else x (cond s (Some n) None) = place_push w v t.exports ∙ ap (λ (b : Bool). or_else x (cond b (Some n) None)) g in
      let none : s ≡ true → (x ≡ None) × (y ≡ None) = λ h. absent_own w t q f k (ap (λ (u : Value). name_of u t.names) (same_is w v (g ∙ h)) ∙ e) in
      last ∙ ap (λ (o : Option Number). or_else o (cond s (Some (export_number v n)) None)) was ∙ ap (λ (o : Option Number). or_else (or_else (option_map (export_number w) x) (option_map MyAnswer y)) o) (same_number w v n s g)
      ∙ sym (ap (λ (o : Option ℕ). or_else (option_map (export_number w) o) (option_map MyAnswer y)) place ∙ front (export_number w) MyAnswer x y s n none)

  -- of another host than what comes
  apart : (v w : Value) (n : Number) (t : Table) (a b : Bool) → is_reference w ≡ true → is_own mine (local_of w) ≡ a → is_own mine (local_of v) ≡ b → (a ≡ b → ⊥) → IsKept mine t → name_of w (named v n t.names) ≡ first_number a w t
  apart v w n t a b q f o h k =
      let none = other mine w v a b f o h (same_value w v) refl in
      found_in w v n t.names ∙ ap (λ (c : Bool). or_else (name_of w t.names) (cond c (Some n) None)) none ∙ or_none (name_of w t.names) ∙ k.found w q ∙ ap (λ (c : Bool). first_number c w t) f
    where
      or_none : (o : Option Number) → or_else o None ≡ o
      or_none None = refl
      or_none (Some m) = refl

  not_both : true ≡ false → ⊥
  not_both e = cc

  not_both_now : false ≡ true → ⊥
  not_both_now e = cc

  export_found : (v w : Value) (t : Table) → is_reference w ≡ true → is_own mine (local_of v) ≡ true → name_of v t.names ≡ None → IsKept mine t → (a : Bool) → is_own mine (local_of w) ≡ a
      → name_of w (named v (export_number v (length t.exports)) t.names) ≡ first_number a w (with_export v t)
  unfolding first_number
  export_found v w t q o e k true f = export_own v w t q e k f (same_value w v) refl
  export_found v w t q o e k false f = apart v w (export_number v (length t.exports)) t false true q f o not_both_now k

  pub export_keeps : (v : Value) (t : Table) → is_reference v ≡ true → is_own mine (local_of v) ≡ true → name_of v t.names ≡ None → IsKept mine t → IsKept mine (with_export v t)
  export_keeps v t r o e k = record {
    found = λ w q. export_found v w t q o e k (is_own mine (local_of w)) refl;
    exports = references_push t.exports v k.exports r;
    imports = k.imports;
  }

  -- ---- a question of the vat
  ask_yours : (p : ℕ) (w : Value) (t : Table) → is_reference w ≡ true → name_of (held.Prom p) t.names ≡ None → IsKept mine t → is_own mine (local_of w) ≡ false → (s : Bool) → same_value w (held.Prom p) ≡ s
      → name_of w (named (held.Prom p) (YourAnswer (length t.asked)) t.names) ≡ first_number false w (asked_for p t)
  unfolding first_number
  ask_yours p w t q e k f s g =
      let v = held.Prom p in
      let n = length t.asked in
      let x = place_of w (promises t.asked) in
      let y = place_of w t.imports in
      let last : name_of w (named v (YourAnswer n) t.names) ≡ or_else (name_of w t.names) (cond s (Some (YourAnswer n)) None) = found_in w v (YourAnswer n) t.names ∙ ap (λ (b : Bool). or_else (name_of w t.names) (cond b (Some (YourAnswer n)) None)) g in
      let was : name_of w t.names ≡ or_else (option_map YourAnswer x) (option_map YourExport y) = k.found w q ∙ ap (λ (b : Bool). first_number b w t) f in
      let place : place_of w (promises (t.asked ++ p ∷ [])) ≡ or_else x (cond s (Some n) None) = promise_place w t.asked p ∙ ap (λ (b : Bool). or_else x (cond b (Some n) None)) g in
      let none : s ≡ true → (x ≡ None) × (y ≡ None) = λ h. absent_yours w t q f k (ap (λ (u : Value). name_of u t.names) (same_is w v (g ∙ h)) ∙ e) in
      last ∙ ap (λ (o : Option Number). or_else o (cond s (Some (YourAnswer n)) None)) was
      ∙ sym (ap (λ (o : Option ℕ). or_else (option_map YourAnswer o) (option_map YourExport y)) place ∙ front YourAnswer YourExport x y s n none)

  ask_found : (p : ℕ) (w : Value) (t : Table) → is_reference w ≡ true → is_own mine (local_of (held.Prom p)) ≡ false → name_of (held.Prom p) t.names ≡ None → IsKept mine t → (a : Bool) → is_own mine (local_of w) ≡ a
      → name_of w (named (held.Prom p) (YourAnswer (length t.asked)) t.names) ≡ first_number a w (asked_for p t)
  unfolding first_number
  ask_found p w t q o e k false f = ask_yours p w t q e k f (same_value w (held.Prom p)) refl
  ask_found p w t q o e k true f = apart (held.Prom p) w (YourAnswer (length t.asked)) t true false q f o not_both k

  -- ---- a question of the peer
  answer_own : (p : ℕ) (w : Value) (t : Table) → is_reference w ≡ true → IsKept mine t → is_own mine (local_of w) ≡ true → name_of w (named (held.Prom p) (MyAnswer (length t.answers)) t.names) ≡ first_number true w (answered p t)
  unfolding first_number
  answer_own p w t q k f =
      let v = held.Prom p in
      let n = length t.answers in
      let s = same_value w v in
      let x = place_of w t.exports in
      let y = place_of w (promises t.answers) in
      let was : name_of w t.names ≡ or_else (option_map (export_number w) x) (option_map MyAnswer y) = k.found w q ∙ ap (λ (b : Bool). first_number b w t) f in
      found_in w v (MyAnswer n) t.names ∙ ap (λ (o : Option Number). or_else o (cond s (Some (MyAnswer n)) None)) was
      ∙ sym (ap (λ (o : Option ℕ). or_else (option_map (export_number w) x) (option_map MyAnswer o)) (promise_place w t.answers p) ∙ back (export_number w) MyAnswer x y s n)

  answer_found : (p : ℕ) (w : Value) (t : Table) → is_reference w ≡ true → is_own mine (local_of (held.Prom p)) ≡ true → IsKept mine t → (a : Bool) → is_own mine (local_of w) ≡ a
      → name_of w (named (held.Prom p) (MyAnswer (length t.answers)) t.names) ≡ first_number a w (answered p t)
  unfolding first_number
  answer_found p w t q o k true f = answer_own p w t q k f
  answer_found p w t q o k false f = apart (held.Prom p) w (MyAnswer (length t.answers)) t false true q f o not_both_now k

  -- ---- what the peer exports
  import_yours : (v w : Value) (t : Table) → is_reference w ≡ true → IsKept mine t → is_own mine (local_of w) ≡ false → name_of w (named v (YourExport (length t.imports)) t.names) ≡ first_number false w (imported v t)
  unfolding first_number
  import_yours v w t q k f =
      let n = length t.imports in
      let s = same_value w v in
      let x = place_of w (promises t.asked) in
      let y = place_of w t.imports in
      let was : name_of w t.names ≡ or_else (option_map YourAnswer x) (option_map YourExport y) = k.found w q ∙ ap (λ (b : Bool). first_number b w t) f in
      found_in w v (YourExport n) t.names ∙ ap (λ (o : Option Number). or_else o (cond s (Some (YourExport n)) None)) was
      ∙ sym (ap (λ (o : Option ℕ). or_else (option_map YourAnswer x) (option_map YourExport o)) (place_push w v t.imports) ∙ back YourAnswer YourExport x y s n)

  import_found : (v w : Value) (t : Table) → is_reference w ≡ true → is_own mine (local_of v) ≡ false → IsKept mine t → (a : Bool) → is_own mine (local_of w) ≡ a
      → name_of w (named v (YourExport (length t.imports)) t.names) ≡ first_number a w (imported v t)
  unfolding first_number
  import_found v w t q o k false f = import_yours v w t q k f
  import_found v w t q o k true f = apart v w (YourExport (length t.imports)) t true false q f o not_both k

nothing : (a : Bool) (w : Value) (peer : ℕ) → None ≡ first_number a w (fresh peer)
unfolding first_number
nothing true w peer = refl
nothing false w peer = refl

pub begins : BeginsKept
begins mine peer = record { found = λ w r. nothing (is_own mine (local_of w)) w peer; exports = tt; imports = tt }

pub asking : AskingKeeps
unfolding is_own local_of
asking mine p t o e k = record { found = λ w r. ask_found mine p w t r o e k (is_own mine (local_of w)) refl; exports = k.exports; imports = k.imports }

pub answering : AnsweringKeeps
unfolding is_own local_of
answering mine p t o k = record { found = λ w r. answer_found mine p w t r o k (is_own mine (local_of w)) refl; exports = k.exports; imports = k.imports }

pub importing : ImportingKeeps
importing mine v t r o k = record { found = λ w q. import_found mine v w t q o k (is_own mine (local_of w)) refl; exports = k.exports; imports = references_push t.imports v k.imports r }
