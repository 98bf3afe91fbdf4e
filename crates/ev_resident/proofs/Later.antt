-- Names that are printed stay as they are when more words are drawn.
use Rattle.std.proofs.Common.{◌≡◌, ◌+◌, ◌-◌, ℕ, zero, suc, Bool, true, false, nat_eq, List, [], ◌∷◌, ◌++◌, map, refl, sym, ap, subst, ◌∙◌, append_assoc, append-nil, arith}
use Rattle.std.proofs.lemmas.Cmp.{nat_eq_equiv}
use Rattle.ev_base.specs.declared.names.Name.{Name as ShownName}
use Rattle.ev_base.specs.declared.names.Name.TheVariants as shown
use Rattle.def_machine.specs.State.{is_in}
use Rattle.def_machine.specs.Values.{Name, Root, Object, Promise, Answer, Gift, Sent, word_of}
use Rattle.def_run.specs.Shown.{place_of, shown_name, shown_gift}
use Rattle.ev_intro.specs.Word.{word}
use Rattle.ev_pass.specs.Acts.{words_by}
use Rattle.ev_resident.specs.NamesStanding.{PrintedNamesStay, WordIsIn, WordsAreIn, words_of}

kept_by : (b : Bool) (w : ℕ) (ws more : List ℕ) → (is_in w ws ≡ true → place_of (ws ++ more) w ≡ place_of ws w) → ◌≡◌ {A = Bool} (elim b [ true ↦ true | false ↦ is_in w ws ]) true
    → ◌≡◌ {A = ℕ} (elim b [ true ↦ zero | false ↦ suc (place_of (ws ++ more) w) ]) (elim b [ true ↦ zero | false ↦ suc (place_of ws w) ])
kept_by true w ws more ih h = refl
kept_by false w ws more ih h = ap suc (ih h)

-- a word that was drawn keeps its place
place_kept : (w : ℕ) (ws more : List ℕ) → is_in w ws ≡ true → place_of (ws ++ more) w ≡ place_of ws w
unfolding place_of is_in
place_kept w [] more h = absurd cc
place_kept w (x ∷ ws) more h =
    kept_by (nat_eq x w) w ws more (place_kept w ws more)
    (subst (λ (b : Bool). ◌≡◌ {A = Bool} (elim b [ true ↦ true | false ↦ is_in w ws ]) true) (nat_eq_equiv.symm w x) h)

words_more : (key : List ℕ) (n m : ℕ) → (more : List ℕ) × (words_by key (n + m) ≡ words_by key n ++ more)
unfolding words_by
words_more key n zero = let same : n + 0 ≡ n = omega arith in ([], ap (λ (k : ℕ). words_by key k) same ∙ sym (append-nil (words_by key n)))
words_more key n (suc m) =
    let next : n + suc m ≡ suc (n + m) = omega arith in
    let ih = words_more key n m in
    let last : List ℕ = word key (n + m) ∷ [] in (
      ih.0 ++ last,
      ap (λ (k : ℕ). words_by key k) next ∙ ap (λ (ws : List ℕ). ws ++ last) ih.1 ∙ append_assoc (words_by key n) ih.0 last,
    )

name_stays : (ws more : List ℕ) (n : Name) → WordIsIn ws n → shown_name ws n ≡ shown_name (ws ++ more) n
unfolding shown_name shown_gift
name_stays ws more (Root v) h = refl
name_stays ws more (Object v i) h = refl
name_stays ws more (Promise v i) h = refl
name_stays ws more (Answer v m) h = refl
name_stays ws more (Gift v i) h = ap (λ (k : ℕ). shown.Gift v k) (sym (place_kept (word_of i) ws more h))
name_stays ws more (Sent m) h = refl

all_stay : (ws more : List ℕ) (ns : List Name) → WordsAreIn ws ns → map (shown_name ws) ns ≡ map (shown_name (ws ++ more)) ns
all_stay ws more [] h = refl
all_stay ws more (n ∷ ns) h =
    ap (λ (x : ShownName). x ∷ map (shown_name ws) ns) (name_stays ws more n h.0)
    ∙ ap (λ (xs : List ShownName). shown_name (ws ++ more) n ∷ xs) (all_stay ws more ns h.1)

pub names_stay : PrintedNamesStay
names_stay before after t n same le drawn stands =
    let counted : after.count ≡ before.count + (after.count - before.count) = omega (arith, le) in
    let rest = words_more before.key before.count (after.count - before.count) in
    let path : words_of after ≡ words_of before ++ rest.0 =
    ap (λ (key : List ℕ). words_by key after.count) (sym same) ∙ ap (λ (k : ℕ). words_by before.key k) counted ∙ rest.1 in
    record {
      known =
          stands.known
          ∙ all_stay (words_of before) rest.0 t.known drawn
          ∙ ap (λ (ws : List ℕ). map (shown_name ws) t.known) (sym path);
      mails = stands.mails;
    }
