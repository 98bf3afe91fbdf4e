-- A judge finds the same in the numbers of a vat as in the names that they stand for.
use Rattle.std.proofs.Common.{◌≡◌, ℕ, Bool, true, false, List, [], ◌∷◌, Option, Some, None, refl, sym, ap, ◌∙◌, length, map}
use Rattle.std.specs.Prelude.{slice_get}
use Rattle.std.proofs.lemmas.List.{length-map}
use Rattle.def_machine.specs.Values.{Name, Local, Obj, Prom, Far, Mess}
use Rattle.def_run.specs.Connections.{Connection}
use Rattle.def_run.specs.Numbers.{name_at_vat}
use Rattle.def_run.specs.Vats as here
use Rattle.def_run.specs.Vats.{Member, connection_for}
use Rattle.def_run.specs.Wire.{is_object}
use Rattle.def_hostile.specs.Arrivals.{counts_in, named_for}
use Rattle.def_hostile.specs.Hostile.{counts}
use Rattle.def_hostile.specs.Judge.{Counts, verdict}
use Rattle.law_machine.specs.Renamed.Stands.{Table, Found, Is, found, prom_found, mess_found, far_found, IsTable}
use Rattle.law_frame.proofs.Local.Heard.{object_found}
use Rattle.law_frame.proofs.Local.Sights.{no_object}
use Rattle.law_hostile_frame.specs.Counts.{CountsAgree, VerdictsAgree, NamedTablesAgree}

-- ---- one as long as the other

as_long : {A B C : Type 0} (f : A → C) (g : B → C) (xs : List A) (ys : List B) → map f xs ≡ map g ys → length xs ≡ length ys
as_long f g xs ys e = sym (length-map xs f) ∙ ap length e ∙ length-map ys g

-- ---- and of the same kinds

module _ (u : ℕ) (t : Table) (good : IsTable u t) where
  prom_apart : (k : ℕ) (o : Option Name) → slice_get t.names k ≡ o → object_found (prom_found k o) ≡ false
  unfolding object_found prom_found here.is_object
  prom_apart k (Some n) e = no_object u n (good.promises k n e)
  prom_apart k None e = refl

  mess_apart : (k : ℕ) (o : Option Name) → slice_get t.mails k ≡ o → object_found (mess_found k o) ≡ false
  unfolding object_found mess_found here.is_object is_object
  mess_apart k (Some n) e = let m = good.messages k n e in ap is_object m.1
  mess_apart k None e = refl

  far_apart : (h p : ℕ) (o : Option ℕ) → object_found (far_found h p o) ≡ true
  unfolding object_found far_found here.is_object is_object
  far_apart h p (Some j) = refl
  far_apart h p None = refl

  apart : (a : Local) → object_found (found u t a) ≡ here.is_object a
  unfolding object_found found here.is_object is_object
  apart (Obj i) = refl
  apart (Prom k) = prom_apart k (slice_get t.names k) refl
  apart (Mess k) = mess_apart k (slice_get t.mails k) refl
  apart (Far h p) = far_apart h p (t.exports h p)

  by_number : (xs : List Local) → map here.is_object xs ≡ map object_found (map (found u t) xs)
  by_number [] = refl
  by_number (x ∷ xs) = ap (λ b. b ∷ map here.is_object xs) (sym (apart x)) ∙ ap (λ bs. object_found (found u t x) ∷ bs) (by_number xs)

by_name : (ys : List Name) → map object_found (map Is ys) ≡ map is_object ys
unfolding object_found
by_name [] = refl
by_name (y ∷ ys) = ap (λ bs. is_object y ∷ bs) (by_name ys)

same_counts : (a b : Counts) → a.exports ≡ b.exports → a.answers ≡ b.answers → a.questions ≡ b.questions → a.imports ≡ b.imports → a ≡ b
same_counts a b e f g h =
    ap (λ (n : ℕ). record a { exports = n }) e ∙ ap (λ (n : ℕ). record a { exports = b.exports; answers = n }) f
    ∙ ap (λ (n : ℕ). record a { exports = b.exports; answers = b.answers; questions = n }) g ∙ ap (λ (ks : List Bool). record b { imports = ks }) h

pub counts_agree : CountsAgree
unfolding counts_in counts
counts_agree u t good c d e = same_counts (counts_in c) (counts d)
    (as_long (found u t) Is c.exports d.exports (ap (λ (x : Connection Found). x.exports) e))
    (as_long (found u t) Is c.answers d.answers (ap (λ (x : Connection Found). x.answers) e))
    (as_long (found u t) Is c.questions d.questions (ap (λ (x : Connection Found). x.questions) e))
    (by_number u t good c.imports ∙ ap (map object_found) (ap (λ (x : Connection Found). x.imports) e) ∙ by_name d.imports)

pub verdicts_agree : VerdictsAgree
verdicts_agree u t good c d e vats h bytes = ap (λ (x : Counts). verdict vats u h x bytes) (counts_agree u t good c d e)

-- ---- the names of a connection

pub named_all : (u : ℕ) (t : Table) (g : Local → Name) → ((a : Local) (n : Name) → found u t a ≡ Is n → g a ≡ n) → (xs : List Local) (ys : List Name) → map (found u t) xs ≡ map Is ys → map g xs ≡ ys
named_all u t g agree [] [] e = refl
named_all u t g agree [] (y ∷ ys) e = cc
named_all u t g agree (x ∷ xs) [] e = cc
named_all u t g agree (x ∷ xs) (y ∷ ys) e =
    let first : found u t x ≡ Is y = cc in
    let rest : map (found u t) xs ≡ map Is ys = cc in
    ap (λ n. n ∷ map g xs) (agree x y first) ∙ ap (λ ns. y ∷ ns) (named_all u t g agree xs ys rest)

same_connection : (a b : Connection Name) → a.exports ≡ b.exports → a.imports ≡ b.imports → a.questions ≡ b.questions → a.answers ≡ b.answers → a ≡ b
same_connection a b e f g h =
    ap (λ (ns : List Name). record a { exports = ns }) e ∙ ap (λ (ns : List Name). record a { exports = b.exports; imports = ns }) f
    ∙ ap (λ (ns : List Name). record a { exports = b.exports; imports = b.imports; questions = ns }) g ∙ ap (λ (ns : List Name). record b { answers = ns }) h

pub named_tables_agree : NamedTablesAgree
unfolding named_for
named_tables_agree W u h t m d agree e =
    let g : Local → Name = name_at_vat W.members u m.names in
    let c : Connection Local = connection_for h m in
    same_connection (named_for W.members h u m) d
    (named_all u t g agree c.exports d.exports (ap (λ (x : Connection Found). x.exports) e))
    (named_all u t g agree c.imports d.imports (ap (λ (x : Connection Found). x.imports) e))
    (named_all u t g agree c.questions d.questions (ap (λ (x : Connection Found). x.questions) e))
    (named_all u t g agree c.answers d.answers (ap (λ (x : Connection Found). x.answers) e))
