-- The steps of reading the file of a rank.
use Rattle.circle_lists.proofs.Prelude.{◌≡◌, ◌≢◌, inl, inr, ℕ, ◌+◌, ◌<◌, ◌≤◌, ◌^◌, List, [], ◌∷◌, ◌++◌, length, take, Option, Some, None, length-append, refl}
use Rattle.circle_lists.proofs.Prelude.{ap, sym, ◌∙◌, subst, arith, append_assoc, codes, decimal, IsUtf8, map-append, nil_from_length, escape}
use Rattle.circle_lists.proofs.Prelude.{ReadingUndoesWriting, line, lines_of, end_text, cut, path_from, cut_takes, line_same, line_first, free_uncut, torn}
use Rattle.circle_lists.proofs.Prelude.{no_lines, cons_parts, Refused, IsRank, head_text, path_lines, Spells, Agrees, Begins, IsDamaged, most_ranks, IsHead}
use Rattle.circle_lists.proofs.Prelude.{HeadsNone, IsCause, Ends, EndsBadly, path_takes, path_again}
use Rattle.circle_lists.specs.declared.decoding.Refused.TheVariants as refused
use Rattle.circle_lists.proofs.Damage.{no_list, list_more, Reader, Stands, spelled, damaged_here, damaged_after}

-- ---- the head

first_line : (text rest bytes : List ℕ) → cut 10 bytes ≡ Some (text, rest) → lines_of bytes ≡ line text ∷ lines_of rest
first_line text rest bytes e = let parts = cut_takes 10 bytes text rest e in ap lines_of parts.parts ∙ line_first text rest parts.free

text_is : (bytes text rest word : List ℕ) → cut 10 bytes ≡ Some (text, rest) → take 1 (lines_of bytes) ≡ line word ∷ [] → text ≡ word
text_is bytes text rest word e one =
    line_same text word (cons_parts (line text) (line word) [] [] (ap (take 1) (sym (first_line text rest bytes e)) ∙ one)).0

most_agree : (known : Option ℕ) → Agrees known (most_ranks known)
most_agree None = tt
most_agree (Some n) = refl

damaged_first : (r : Reader) → IsRank r.rank (most_ranks r.known) → (Begins 1 r.bytes r.rank r.known → ⊥) → IsDamaged r.bytes r.rank r.known 1
damaged_first r is off = record {
  first = omega arith;
  before = record { ranks = most_ranks r.known; paths = []; is_rank = is; agrees = most_agree r.known; list = no_list; same = refl };
  through = off;
}

pub head_none : (r : Reader) → IsRank r.rank (most_ranks r.known) → cut 10 r.bytes ≡ None → IsDamaged r.bytes r.rank r.known 1
head_none r is e = damaged_first r is (λ b. torn r.bytes (head_text r.rank b.ranks) (free_uncut 10 r.bytes e) b.same)

pub head_other : (r : Reader) (text rest : List ℕ) → IsRank r.rank (most_ranks r.known) → cut 10 r.bytes ≡ Some (text, rest) →
    HeadsNone text r.rank r.known → IsDamaged r.bytes r.rank r.known 1
head_other r text rest is e none =
    damaged_first r is (λ b.
    none b.ranks (record {
      is_rank = b.is_rank;
      agrees = b.agrees;
      tells = text_is r.bytes text rest (head_text r.rank b.ranks) e b.same;
    }))

pub starts : (r : Reader) (ranks : ℕ) (text rest : List ℕ) → IsHead text r.rank r.known ranks → cut 10 r.bytes ≡ Some (text, rest) →
    Stands r ranks [] (lines_of rest)
starts r ranks text rest head e = record {
  is_rank = head.is_rank;
  agrees = head.agrees;
  list = no_list;
  text = first_line text rest r.bytes e ∙ ap (λ t. line t ∷ lines_of rest) head.tells;
}

-- a head has three bytes at least
pub head_room : (r : Reader) (ranks : ℕ) (text rest : List ℕ) → IsHead text r.rank r.known ranks → cut 10 r.bytes ≡ Some (text, rest) →
    length rest + 3 ≤ length r.bytes
head_room r ranks text rest head e =
    let parts = cut_takes 10 r.bytes text rest e in
    let whole : length r.bytes ≡ length text + length (10 ∷ rest) = ap length parts.parts ∙ length-append text (10 ∷ rest) in
    let words : length text ≡ length (codes "circle 1 ") + length (decimal r.rank ++ 32 ∷ decimal ranks) =
    ap length head.tells ∙ length-append (codes "circle 1 ") (decimal r.rank ++ 32 ∷ decimal ranks) in
    omega arith

-- ---- a line

-- what was read before a line, the line's text, and what stands behind it
pub record Reads (r : Reader) (ranks : ℕ) (ps : List (List ℕ)) (rest text behind : List ℕ) : Type 0 where
  pub stands : Stands r ranks ps (lines_of rest)
  pub first : cut 10 rest ≡ Some (text, behind)

pub goes_on : {r : Reader} {ranks : ℕ} {ps : List (List ℕ)} {rest text behind : List ℕ} → ReadingUndoesWriting → Reads r ranks ps rest text behind →
    (p : List ℕ) → path_from text ≡ Some p → IsUtf8 p → length ps + 1 < 2 ^ 64 → Stands r ranks (ps ++ p ∷ []) (lines_of behind)
goes_on {r} {ranks} {ps} {rest} {text} {behind} undoes reads p is utf8 few =
    let taken = path_takes undoes text p is in
    let s = reads.stands in
    let path_first : lines_of rest ≡ line (escape p) ∷ lines_of behind =
    first_line text behind rest reads.first ∙ ap (λ t. line t ∷ lines_of behind) taken.0 in
    let grown : path_lines (ps ++ p ∷ []) ++ lines_of behind ≡ path_lines ps ++ line (escape p) ∷ lines_of behind =
    ap (λ l. l ++ lines_of behind) (map-append (λ p. line (escape p)) ps (p ∷ []))
    ∙ append_assoc (path_lines ps) (line (escape p) ∷ []) (lines_of behind) in
    record {
      is_rank = s.is_rank;
      agrees = s.agrees;
      list = list_more ps p s.list (record { valid = taken.1; utf8 = utf8 }) few;
      text = s.text
          ∙ ap (λ l. line (head_text r.rank ranks) ∷ (path_lines ps ++ l)) path_first
          ∙ ap (λ l. line (head_text r.rank ranks) ∷ l) (sym grown);
    }

pub bad_torn : {r : Reader} {ranks : ℕ} {ps : List (List ℕ)} → ReadingUndoesWriting → (rest : List ℕ) → Stands r ranks ps (lines_of rest) →
    cut 10 rest ≡ None → IsDamaged r.bytes r.rank r.known (length ps + 2)
bad_torn {r} {ranks} {ps} undoes rest s e =
    let free = free_uncut 10 rest e in
    damaged_here undoes r ranks ps (lines_of rest) s (record {
      item = λ p behind is f. torn rest (escape p) free;
      end = torn rest (end_text (length ps)) free;
    })

bad_text : {r : Reader} {ranks : ℕ} {ps : List (List ℕ)} {rest text behind : List ℕ} → ReadingUndoesWriting → Reads r ranks ps rest text behind →
    path_from text ≡ None → text ≢ end_text (length ps) → IsDamaged r.bytes r.rank r.known (length ps + 2)
bad_text {r} {ranks} {ps} {rest} {text} {behind} undoes reads none no_end =
    damaged_here undoes r ranks ps (lines_of rest) reads.stands (record {
      item = λ p more is follows one.
          clash p (sym none ∙ ap path_from (text_is rest text behind (escape p) reads.first one) ∙ path_again undoes p is.valid is.utf8);
      end = λ one. no_end (text_is rest text behind (end_text (length ps)) reads.first one);
    })
  where
    clash : (p : List ℕ) → ◌≡◌ {A = Option (List ℕ)} None (Some p) → ⊥
    clash p e = cc

-- ---- the end

end_first : (rest text behind : List ℕ) (n : ℕ) → cut 10 rest ≡ Some (text, behind) → text ≡ end_text n → lines_of rest ≡ line (end_text n) ∷ lines_of behind
end_first rest text behind n e is = first_line text behind rest e ∙ ap (λ t. line t ∷ lines_of behind) is

pub at_end : {r : Reader} {ranks : ℕ} {ps : List (List ℕ)} {rest text behind : List ℕ} → Reads r ranks ps rest text behind → Ends ps text behind →
    Spells r.bytes r.rank ranks ps
at_end {r} {ranks} {ps} {rest} {text} {behind} reads ends =
    let empty : behind ≡ [] = nil_from_length behind ends.last in
    let is = end_first rest text behind (length ps) reads.first ends.tells ∙ ap (λ b. line (end_text (length ps)) ∷ lines_of b) empty in
    spelled r ranks ps (subst (Stands r ranks ps) is reads.stands)

past_end : {r : Reader} {ranks : ℕ} {ps : List (List ℕ)} {rest text behind : List ℕ} → ReadingUndoesWriting → Reads r ranks ps rest text behind →
    text ≡ end_text (length ps) → 0 < length behind → IsDamaged r.bytes r.rank r.known (length ps + 3)
past_end {r} {ranks} {ps} {rest} {text} {behind} undoes reads end some = by_lines (lines_of behind) refl
  where
    by_lines : (ls : List (List ℕ)) → lines_of behind ≡ ls → IsDamaged r.bytes r.rank r.known (length ps + 3)
    by_lines [] is = let none = ap length (no_lines behind is) in absurd (omega arith)
    by_lines (m ∷ ms) is =
        let lines = end_first rest text behind (length ps) reads.first end ∙ ap (λ ls. line (end_text (length ps)) ∷ ls) is in
        damaged_after undoes r ranks ps m ms (subst (Stands r ranks ps) lines reads.stands)

pub ended_badly : {r : Reader} {ranks : ℕ} {ps : List (List ℕ)} {rest text behind : List ℕ} → ReadingUndoesWriting → Reads r ranks ps rest text behind →
    path_from text ≡ None → (e : Refused) → EndsBadly ps text behind e → IsCause r.bytes r.rank r.known e
ended_badly {r} {ranks} {ps} {rest} {text} {behind} undoes reads none (refused.Damaged n) (inl h) =
    subst (IsDamaged r.bytes r.rank r.known) (sym h.0) (bad_text undoes reads none h.1)
ended_badly {r} {ranks} {ps} {rest} {text} {behind} undoes reads none (refused.Damaged n) (inr h) =
    subst (IsDamaged r.bytes r.rank r.known) (sym h.0) (past_end undoes reads h.1 h.2)
ended_badly undoes reads none refused.OutOfMemory h = tt

-- ---- as the loop has it

pub cut_shorter : (c : ℕ) (text word rest : List ℕ) → cut c text ≡ Some (word, rest) → length rest < length text
cut_shorter c text word rest e =
    let parts = cut_takes c text word rest e in
    let len : length text ≡ length word + length (c ∷ rest) = ap length parts.parts ∙ length-append word (c ∷ rest) in
    omega arith
