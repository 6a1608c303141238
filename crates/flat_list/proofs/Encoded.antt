-- The steps of writing a list file.
use Rattle.flat_list.proofs.Prelude.{◌≡◌, ℕ, ◌+◌, ◌<◌, ◌≤◌, ◌^◌, List, [], ◌∷◌, ◌++◌, length, take, ap, sym, ◌∙◌, subst, arith, codes, is_none, decimal}
use Rattle.flat_list.proofs.Prelude.{AllByRecursion, flat_map, decimal_digit, IsStrictlySortedBy, take_all, flat_map-append, path_cmp, Entry, Mark, mark_word}
use Rattle.flat_list.proofs.Prelude.{header_text, lines_by, entry_lines, IsEntry, IsKnown, paths, SpellsAs, line, end_text, Two, all_more, flat_end, or_true}
use Rattle.std.proofs.Common.{append_assoc}
use Rattle.std.specs.Prelude.{true, ◌&&◌}
use Rattle.entry_pages.specs.declared.entries.Mark.TheVariants as marks
use Rattle.flat_list.proofs.Damage.{lines_more}
use Rattle.flat_list.proofs.Dealt.{Turn, taken}

-- what is written of so many entries: the header and their lines
pub record Written (text : List ℕ) (es : List Entry) (i : ℕ) : Type 0 where
  pub lines : text ≡ line (header_text Two) ++ flat_map (λ l. l) (entry_lines (take i es))
  pub each : AllByRecursion IsEntry (take i es)

-- the lines of one entry more
text_more : (es : List Entry) (e : Entry) →
    flat_map (λ l. l) (entry_lines (es ++ e ∷ [])) ≡ flat_map (λ l. l) (entry_lines es) ++ flat_map (λ l. l) (lines_by e)
text_more es e = ap (flat_map (λ l. l)) (lines_more es e) ∙ flat_map-append (λ l. l) (entry_lines es) (lines_by e)

pub one_written : {before after : List ℕ} {es : List Entry} {i : ℕ} {e : Entry} → Turn es i e → Written before es i →
    after ≡ before ++ flat_map (λ l. l) (lines_by e) → IsEntry e → Written after es (i + 1)
one_written {before} {after} {es} {i} {e} t w one is =
    let more = taken es i e t in
    let joined = λ (l : List Entry). line (header_text Two) ++ flat_map (λ l. l) (entry_lines l) in
    record {
      lines = one
          ∙ ap (λ b. b ++ flat_map (λ l. l) (lines_by e)) w.lines
          ∙ append_assoc (line (header_text Two)) (flat_map (λ l. l) (entry_lines (take i es))) (flat_map (λ l. l) (lines_by e))
          ∙ ap (λ t. line (header_text Two) ++ t) (sym (text_more (take i es) e))
          ∙ ap joined (sym more);
      each = subst (AllByRecursion IsEntry) (sym more) (all_more IsEntry (take i es) e w.each is);
    }

all_known : (es : List Entry) → AllByRecursion (IsKnown Two) es
all_known [] = tt
all_known (e ∷ es) = (ap (λ b. b && true) (or_true (is_none e.target)), all_known es)

-- the whole text
pub spells : {before bytes : List ℕ} {es : List Entry} {i : ℕ} → Written before es i → length es ≤ i → length es < 2 ^ 64 →
    bytes ≡ before ++ line (end_text (length es)) → IsStrictlySortedBy path_cmp (paths es) → SpellsAs Two bytes es
spells {before} {bytes} {es} {i} w le few end ascend =
    let all : take i es ≡ es = take_all i es le in
    record {
      list = record { count = few; each = subst (AllByRecursion IsEntry) all w.each; ascend = ascend };
      known = all_known es;
      text = end
          ∙ ap (λ b. b ++ line (end_text (length es))) (w.lines ∙ ap (λ l. line (header_text Two) ++ flat_map (λ l. l) (entry_lines l)) all)
          ∙ append_assoc (line (header_text Two)) (flat_map (λ l. l) (entry_lines es)) (line (end_text (length es)))
          ∙ ap (λ t. line (header_text Two) ++ t) (sym (flat_end (entry_lines es) (line (end_text (length es)))));
    }

-- the words of an entry, one after the other
pub words_joined : (a b c d e f g old : List ℕ) →
    (((old ++ (a ++ 32 ∷ (b ++ 32 ∷ (c ++ 32 ∷ [])))) ++ (d ++ 32 ∷ (e ++ 32 ∷ (f ++ 32 ∷ [])))) ++ g) ++ 10 ∷ [] ≡
    old ++ line (a ++ 32 ∷ (b ++ 32 ∷ (c ++ 32 ∷ (d ++ 32 ∷ (e ++ 32 ∷ (f ++ 32 ∷ g))))))
words_joined a b c d e f g old = simp append_assoc

-- the notes of an entry of which there is nothing to note
pub nothing_noted : (mark : Mark) (unnamed far : ℕ) → mark ≡ marks.Fine → unnamed ≡ 0 → far ≡ 0 →
    codes "ok 0 0 " ≡ mark_word mark ++ 32 ∷ (decimal unnamed ++ 32 ∷ (decimal far ++ 32 ∷ []))
nothing_noted mark unnamed far fine none near =
    sym (ap (λ m. mark_word m ++ 32 ∷ (decimal unnamed ++ 32 ∷ (decimal far ++ 32 ∷ []))) fine
    ∙ ap (λ n. codes "ok" ++ 32 ∷ (decimal n ++ 32 ∷ (decimal far ++ 32 ∷ []))) none
    ∙ ap (λ n. codes "ok" ++ 32 ∷ (decimal 0 ++ 32 ∷ (decimal n ++ 32 ∷ []))) near
    ∙ ap (λ z. codes "ok" ++ 32 ∷ (z ++ 32 ∷ (z ++ 32 ∷ []))) (decimal_digit 0 (omega arith)))

-- the words of a stat
pub told_joined : (a b c old : List ℕ) →
    ((old ++ (a ++ 32 ∷ [])) ++ (b ++ 32 ∷ [])) ++ (c ++ 32 ∷ []) ≡ old ++ (a ++ 32 ∷ (b ++ 32 ∷ (c ++ 32 ∷ [])))
told_joined a b c old = simp append_assoc
