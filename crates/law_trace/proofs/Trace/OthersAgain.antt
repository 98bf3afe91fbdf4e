-- What is printed of broken references and of primitives is read again as a value.
use Rattle.std.proofs.Common.{◌≡◌, ◌<◌, ◌+◌, ◌++◌, ◌&&◌, ◌||◌, ℕ, zero, suc, true, not, eqb, ltb, List, [], ◌∷◌, Option, Some, None, inl, inr, refl, sym, ◌∙◌, ap, subst, arith}
use Rattle.std.specs.Prelude.{codes, Ok}
use Rattle.std.specs.List.{list_all}
use Rattle.std.proofs.lemmas.Bool.Decides.{nat_tests}
use Rattle.std.proofs.lemmas.Option.{cond_some}
use Rattle.def_text.specs.Quoting.{quoted}
use Rattle.def_event.specs.declared.shown.Shown.{Broken, Prim}
use Rattle.def_event.specs.Lines as lines
use Rattle.ev_script.specs.Vats.{is_lower_or_digit, is_vat_name, place_of}
use Rattle.ev_trace_words.specs.Parts.{behind_label, behind_mark, constant, guarded, primitive, split_at}
use Rattle.ev_trace_words.specs.Parts as parts
use Rattle.ev_trace_words.specs.Texts.{shown_text}
use Rattle.ev_trace_words.specs.Values.{value}
use Rattle.ev_trace_words.proofs.Printed.{lacks, split_again, vat_letters}
use Rattle.ev_trace_words.proofs.Spelled.{place_is, split_is}
use Rattle.law_trace.specs.Trace.Laws.{PrimitivesAreReadAgain, ShortProblemsAreReadAgain}
use Rattle.law_trace.proofs.Trace.ValuesAgain.{both, no_front}
use Rattle.law_trace.proofs.Trace.IntegersAgain.{no_constant}
use Rattle.law_trace.proofs.Trace.TextsAgain.{as_printed, no_primitive, no_root, shown_again}

-- ---- behind a colon stands no name

head_is : (b c : ℕ) (bs cs : List ℕ) → ◌≡◌ {A = List ℕ} (b ∷ bs) (c ∷ cs) → b ≡ c
head_is b c bs cs e = cc

tail_is : (b c : ℕ) (bs cs : List ℕ) → ◌≡◌ {A = List ℕ} (b ∷ bs) (c ∷ cs) → bs ≡ cs
tail_is b c bs cs e = cc

not_it : (b mark : ℕ) → not (eqb b mark) ≡ true → mark ≡ b → ⊥
not_it b mark h e = grind (arith, nat_tests)

no_colon : (b : ℕ) → is_lower_or_digit b ≡ true → b ≡ 58 → ⊥
no_colon b h e = let one : is_lower_or_digit 58 ≡ true = subst (λ c. is_lower_or_digit c ≡ true) e h in absurd cc

-- a name of a vat ends in front of a colon that comes before the mark
no_split : (mark : ℕ) (label front behind rest : List ℕ) → lacks mark (label ++ 58 ∷ []) ≡ true → list_all is_lower_or_digit front ≡ true → front ++ mark ∷ behind ≡ label ++ 58 ∷ rest → ⊥
no_split mark [] [] behind rest l h e = not_it 58 mark (both _ true l).0 (head_is mark 58 behind rest e)
no_split mark [] (b ∷ front) behind rest l h e = no_colon b (both (is_lower_or_digit b) (list_all is_lower_or_digit front) h).0 (head_is b 58 (front ++ mark ∷ behind) rest e)
no_split mark (c ∷ label) [] behind rest l h e = not_it c mark (both _ (lacks mark (label ++ 58 ∷ [])) l).0 (head_is mark c behind (label ++ 58 ∷ rest) e)
no_split mark (c ∷ label) (b ∷ front) behind rest l h e =
    no_split mark label front behind rest (both _ (lacks mark (label ++ 58 ∷ [])) l).1 (both (is_lower_or_digit b) (list_all is_lower_or_digit front) h).1 (tail_is b c (front ++ mark ∷ behind) (label ++ 58 ∷ rest) e)

module _ (names : List (List ℕ)) (lawful : list_all is_vat_name names ≡ true) (rest : List ℕ) where
  abbrev word : List ℕ
  word = codes "broken" ++ 58 ∷ rest

  place_by : (mark : ℕ) (front behind : List ℕ) (o : Option ℕ) → lacks mark (codes "broken:") ≡ true → word ≡ front ++ mark ∷ behind → place_of names front ≡ o → place_of names front ≡ None
  place_by mark front behind None l e p = p
  place_by mark front behind (Some v) l e p =
      let letters : list_all is_lower_or_digit front ≡ true = subst (λ w. list_all is_lower_or_digit w ≡ true) (place_is names front v p) (vat_letters names v lawful) in
      absurd (no_split mark (codes "broken") front behind rest l letters (sym e))

  no_number : (mark : ℕ) (o : Option (List ℕ × List ℕ)) → lacks mark (codes "broken:") ≡ true → split_at mark word ≡ o → parts.numbered names mark word ≡ None
  no_number mark None l s = rw s refl
  no_number mark (Some p) l s = rw s (rw (place_by mark p.0 p.1 (place_of names p.0) l (split_is mark word p s) refl) refl)

  no_answer : (o : Option (List ℕ × List ℕ)) → split_at 63 word ≡ o → parts.answer names word ≡ None
  no_answer None s = rw s refl
  no_answer (Some p) s = rw s (rw (place_by 63 p.0 p.1 (place_of names p.0) refl (split_is 63 word p s) refl) refl)

  no_claim : (o : Option (List ℕ × List ℕ)) → split_at 94 word ≡ o → parts.claimed names word ≡ None
  no_claim None s = rw s refl
  no_claim (Some p) s = rw s (rw (place_by 94 p.0 p.1 (place_of names p.0) refl (split_is 94 word p s) refl) refl)

  name_by : parts.numbered names 46 word ≡ None → parts.numbered names 126 word ≡ None → parts.numbered names 94 word ≡ None → parts.answer names word ≡ None → parts.root names word ≡ None → parts.claimed names word ≡ None
      → parts.name names word ≡ None
  name_by a b c d e f = rw a (rw b (rw c (rw d (rw e (rw f refl)))))

  no_name : parts.name names word ≡ None
  no_name = name_by (no_number 46 (split_at 46 word) refl refl) (no_number 126 (split_at 126 word) refl refl) (no_number 94 (split_at 94 word) refl refl) (no_answer (split_at 63 word) refl) (no_root names word refl) (no_claim (split_at 94 word) refl)

  plain_by : constant word ≡ None → primitive word ≡ None → parts.name names word ≡ None → parts.plain names word ≡ None
  plain_by c p n = rw c (rw p (rw n refl))

  no_plain : parts.plain names word ≡ None
  no_plain = plain_by (no_constant word refl refl refl) (no_primitive word refl) no_name

  labelled : behind_label (codes "broken") word ≡ Some rest
  labelled = rw (split_again 58 (codes "broken") rest refl) refl

  problem_by : (t : List ℕ) → parts.numbered names 37 word ≡ None → parts.numbered names 38 word ≡ None → parts.plain names word ≡ None → behind_mark 39 word ≡ None → behind_label (codes "broken") word ≡ Some rest
      → shown_text rest ≡ Ok t → value names word ≡ Ok (Broken t)
  problem_by t l s p q b e = rw l (rw s (rw p (rw q (rw b (rw e refl)))))

  pub problem_again : (t : List ℕ) → shown_text rest ≡ Ok t → value names word ≡ Ok (Broken t)
  problem_again t e = problem_by t (no_number 37 (split_at 37 word) refl refl) (no_number 38 (split_at 38 word) refl refl) no_plain (no_front 39 word (behind_mark 39 word) refl refl) labelled e

pub short_problems_again : ShortProblemsAreReadAgain
short_problems_again names t are h = ap (λ w. value names (codes "broken:" ++ w)) (as_printed t h) ∙ problem_again names are.lawful (quoted t) t (shown_again t h)

-- ---- primitives

safe_again : (names : List (List ℕ)) (n : ℕ) → n < 20 → value names (lines.value names (Prim n)) ≡ Ok (Prim n)
safe_again names (suc (suc (suc (suc (suc (suc (suc (suc (suc (suc (suc (suc (suc (suc (suc (suc (suc (suc (suc (suc n)))))))))))))))))))) h = absurd (omega arith)
safe_again names other h = refl

few : (guard : ℕ) → (((ltb 7 guard && ltb guard 15) || eqb guard 16) || eqb guard 17) ≡ true → guard < 18
few guard h = grind (arith, nat_tests)

number_is : (m n : ℕ) → Some m ≡ Some n → m ≡ n
number_is m n e = cc

none_some : (n : ℕ) → None ≡ Some n → ⊥
none_some n e = cc

guarded_again : (names : List (List ℕ)) (guard n : ℕ) → guard < 18 → guarded guard ≡ Some n → value names (lines.value names (Prim n)) ≡ Ok (Prim n)
guarded_again names (suc (suc (suc (suc (suc (suc (suc (suc zero)))))))) n h e = subst (λ m. value names (lines.value names (Prim m)) ≡ Ok (Prim m)) (number_is 40 n e) refl
guarded_again names (suc (suc (suc (suc (suc (suc (suc (suc (suc zero))))))))) n h e = subst (λ m. value names (lines.value names (Prim m)) ≡ Ok (Prim m)) (number_is 41 n e) refl
guarded_again names (suc (suc (suc (suc (suc (suc (suc (suc (suc (suc zero)))))))))) n h e = subst (λ m. value names (lines.value names (Prim m)) ≡ Ok (Prim m)) (number_is 42 n e) refl
guarded_again names (suc (suc (suc (suc (suc (suc (suc (suc (suc (suc (suc zero))))))))))) n h e = subst (λ m. value names (lines.value names (Prim m)) ≡ Ok (Prim m)) (number_is 43 n e) refl
guarded_again names (suc (suc (suc (suc (suc (suc (suc (suc (suc (suc (suc (suc zero)))))))))))) n h e = subst (λ m. value names (lines.value names (Prim m)) ≡ Ok (Prim m)) (number_is 44 n e) refl
guarded_again names (suc (suc (suc (suc (suc (suc (suc (suc (suc (suc (suc (suc (suc zero))))))))))))) n h e = subst (λ m. value names (lines.value names (Prim m)) ≡ Ok (Prim m)) (number_is 45 n e) refl
guarded_again names (suc (suc (suc (suc (suc (suc (suc (suc (suc (suc (suc (suc (suc (suc zero)))))))))))))) n h e = subst (λ m. value names (lines.value names (Prim m)) ≡ Ok (Prim m)) (number_is 46 n e) refl
guarded_again names (suc (suc (suc (suc (suc (suc (suc (suc (suc (suc (suc (suc (suc (suc (suc (suc zero)))))))))))))))) n h e = subst (λ m. value names (lines.value names (Prim m)) ≡ Ok (Prim m)) (number_is 48 n e) refl
guarded_again names (suc (suc (suc (suc (suc (suc (suc (suc (suc (suc (suc (suc (suc (suc (suc (suc (suc zero))))))))))))))))) n h e = subst (λ m. value names (lines.value names (Prim m)) ≡ Ok (Prim m)) (number_is 49 n e) refl
guarded_again names (suc (suc (suc (suc (suc (suc (suc (suc (suc (suc (suc (suc (suc (suc (suc (suc (suc (suc k)))))))))))))))))) n h e = absurd (omega arith)
guarded_again names other n h e = absurd (none_some n e)

pub primitives_again : PrimitivesAreReadAgain
primitives_again names n (inl h) = safe_again names n h
primitives_again names n (inr (guard, e)) = guarded_again names guard n (few guard (cond_some (((ltb 7 guard && ltb guard 15) || eqb guard 16) || eqb guard 17) (32 + guard) n e).0) e
