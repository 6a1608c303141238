-- The lines of a list file, and those that begin none.
use Rattle.flat_list.proofs.Prelude.{◌≡◌, ℕ, List, [], ◌∷◌, ◌++◌, length, Option, Some, None, refl, ap, ◌∙◌, AllByRecursion, Entry, Version, One, Two, text_of}
use Rattle.flat_list.proofs.Prelude.{header_text, target_text, target_lines, entry_lines, lines_for, IsEntry, SpellsAs, line, end_text, lines_of, IsFree}
use Rattle.flat_list.proofs.Prelude.{end_free, all_more, IsWhole, lines_first}
use Rattle.std.proofs.Common.{append_assoc}
use Rattle.flat_list.proofs.Lines.{text_free, target_free}
use Rattle.flat_list.proofs.Pieces.{all_join}

-- ---- the lines of a list's text

target_whole : (o : Option (List ℕ)) → AllByRecursion IsWhole (target_lines o)
target_whole None = tt
target_whole (Some t) = (record { text = target_text t; is = refl; free = target_free t }, tt)

entries_whole : (es : List Entry) → AllByRecursion IsEntry es → AllByRecursion IsWhole (entry_lines es)
entries_whole [] each = tt
entries_whole (e ∷ es) each = (
  record { text = text_of e; is = refl; free = text_free e each.0 },
  all_join IsWhole (target_lines e.target) (entry_lines es) (target_whole e.target) (entries_whole es each.1),
)

header_free : (v : Version) → IsFree 10 (header_text v)
header_free One = (refl, (refl, (refl, (refl, (refl, (refl, (refl, (refl, (refl, (refl, tt))))))))))
header_free Two = (refl, (refl, (refl, (refl, (refl, (refl, (refl, (refl, (refl, (refl, tt))))))))))

pub list_lines : (v : Version) (bytes rest : List ℕ) (es : List Entry) → SpellsAs v bytes es →
    lines_of (bytes ++ rest) ≡ line (header_text v) ∷ (entry_lines es ++ line (end_text (length es)) ∷ lines_of rest)
list_lines v bytes rest es is =
    let end : IsWhole (line (end_text (length es))) =
    record { text = end_text (length es); is = refl; free = end_free (length es) is.list.count } in
    let whole : AllByRecursion IsWhole (lines_for v es) = (
      record { text = header_text v; is = refl; free = header_free v },
      all_more IsWhole (entry_lines es) (line (end_text (length es))) (entries_whole es is.list.each) end,
    ) in
    ap (λ t. lines_of (t ++ rest)) is.text
    ∙ lines_first (lines_for v es) rest whole
    ∙ ap (λ ls. line (header_text v) ∷ ls) (append_assoc (entry_lines es) (line (end_text (length es)) ∷ []) (lines_of rest))
