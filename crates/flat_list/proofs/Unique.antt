-- A list has one text of a version, a text is one list's, and of the answers about a text one alone is true.
use Rattle.flat_list.proofs.Prelude.{◌≡◌, ℕ, zero, suc, ◌+◌, ◌-◌, ◌<◌, inl, inr, List, [], ◌∷◌, ◌++◌, length, take, refl, ap, sym, ◌∙◌, subst, arith, cases_lt}
use Rattle.flat_list.proofs.Prelude.{append_cancel_left, Entry, Version, line, end_text, lines_of, header_text, entry_lines, lines_for, SpellsAs, Spells}
use Rattle.flat_list.proofs.Prelude.{Begins, IsDamaged, max_entries, IsTooLong, SpellsOne, RefusesExactly, no_lines, cons_parts}
use Rattle.std.proofs.Common.{append-nil}
use Rattle.flat_list.proofs.Files.{list_lines}
use Rattle.flat_list.proofs.Pieces.{pieces_of, one_list, each_of}
use Rattle.flat_list.proofs.Damage.{Undoes, pieces, end_line, end_is, is_final, same_lines, file, same_version, not_long, begins_less}
use Rattle.whole_lines.proofs.WholeLines as whole

own_lines : (v : Version) (a : List ℕ) (es : List Entry) → SpellsAs v a es → lines_of a ≡ lines_for v es
own_lines v a es s = ap lines_of (sym (append-nil a)) ∙ list_lines v a [] es s

begins_all : (a : List ℕ) (es : List Entry) (n : ℕ) → Spells a es → Begins n a
begins_all a es n s = record {
  version = s.version;
  entries = es;
  list = s.spells.list;
  known = s.spells.known;
  same = ap (take n) (own_lines s.version a es s.spells);
}

begins_down : (k m n : ℕ) (a : List ℕ) → n ≡ m + k → Begins n a → Begins m a
begins_down zero m n a is b = let same : n ≡ m = omega arith in subst (λ n. Begins n a) same b
begins_down (suc k) m n a is b =
    let more : n ≡ suc (m + k) = omega arith in
    begins_down k m (m + k) a refl (begins_less (m + k) a (subst (λ n. Begins n a) more b))

not_below : (a : List ℕ) (m n : ℕ) → IsDamaged a m → IsDamaged a n → m < n → ⊥
not_below a m n d e lt = let is : n - 1 ≡ m + (n - 1 - m) = omega arith in d.through (begins_down (n - 1 - m) m (n - 1) a is e.before)

module _ (undoes : Undoes) where
  -- two list files, of which one begins the other
  same_as : (v : Version) (a more : List ℕ) (es fs : List Entry) → SpellsAs v a es → SpellsAs v (a ++ more) fs → (fs ≡ es) × (more ≡ [])
  same_as v a more es fs s t =
      let form = pieces undoes v in
      let end = line (end_text (length es)) in
      let both : line (header_text v) ∷ (entry_lines es ++ end ∷ lines_of more) ≡ lines_for v fs =
      sym (list_lines v a more es s) ∙ own_lines v (a ++ more) fs t in
      let tails : whole.lines_for form (pieces_of es) ++ end_line (pieces_of es) ∷ lines_of more
      ≡ whole.lines_for form (pieces_of fs) ++ end_line (pieces_of fs) ∷ [] =
      (λ i. same_lines undoes v es i ++ end_is undoes v es i ∷ lines_of more)
      ∙ (cons_parts _ _ _ _ both).1
      ∙ (λ i. sym (same_lines undoes v fs) i ++ sym (end_is undoes v fs) i ∷ []) in
      let list : fs ≡ es = one_list fs es (whole.same_items form (pieces_of es) (pieces_of fs) (end_line (pieces_of es)) (end_line (pieces_of fs))
      (lines_of more) [] (is_final undoes v (pieces_of es)) (is_final undoes v (pieces_of fs))
      (each_of v _ (file undoes v es s.list s.known)) (each_of v _ (file undoes v fs t.list t.known)) tails) in
      let ends : end ∷ lines_of more ≡ end ∷ [] =
      append_cancel_left (entry_lines es) _ _
      ((cons_parts _ _ _ _ both).1 ∙ ap (λ (l : List Entry). entry_lines l ++ line (end_text (length l)) ∷ []) list) in
      (list, no_lines more (cons_parts _ _ _ _ ends).1)

  same : (a more : List ℕ) (es fs : List Entry) → Spells a es → Spells (a ++ more) fs → (fs ≡ es) × (more ≡ [])
  same a more es fs s t =
      let lines = sym (list_lines s.version a more es s.spells) ∙ own_lines t.version (a ++ more) fs t.spells in
      let version : s.version ≡ t.version = same_version s.version t.version (cons_parts _ _ _ _ lines).0 in
      same_as s.version a more es fs s.spells (subst (λ v. SpellsAs v (a ++ more) fs) (sym version) t.spells)

  pub spells_one : SpellsOne
  spells_one = record {
    one_text = λ v a b es s t. s.text ∙ sym t.text;
    one_list = λ a es fs s t. sym (same a [] es fs s (subst (λ l. Spells l fs) (sym (append-nil a)) t)).0;
    no_prefix = λ a rest es fs s t. (same a rest es fs s t).1;
  }

  long : (a : List ℕ) (es : List Entry) → Spells a es → IsTooLong a → max_entries < length es
  long a es s t = elim (cases_lt max_entries (length es)) [
    | inl lt ↦ lt
    | inr le ↦
        let v = s.version in
        let own = file undoes v es s.spells.list s.spells.known in
        let text = own_lines v a es s.spells
        ∙ (λ i. line (header_text v) ∷ (sym (same_lines undoes v es) i ++ sym (end_is undoes v es) i ∷ [])) in
        absurd (not_long undoes v es (end_line (pieces_of es) ∷ []) own text le (λ fs rest other lt e.
        whole.end_is_short (pieces undoes v) (pieces_of es) (pieces_of fs) [] rest own other lt e) t)
  ]

  pub refuses_exactly : RefusesExactly
  refuses_exactly = record {
    one_line = λ a m n d e. elim (cases_lt m n) [
      | inl lt ↦ absurd (not_below a m n d e lt)
      | inr le ↦ elim (cases_lt n m) [
        | inl lt ↦ absurd (not_below a n m e d lt)
        | inr ge ↦ omega arith
      ]
    ];
    no_damage = λ a es n s d. d.through (begins_all a es n s);
    long_list = long;
  }
