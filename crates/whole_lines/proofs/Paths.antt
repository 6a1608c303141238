-- A path's word is read as what was written, and no other word is.
use Rattle.whole_lines.proofs.Prelude.{◌≡◌, ℕ, Bool, true, false, cond, List, Some, None, Result, Ok, Err, refl, ap, ◌∙◌, IsUtf8, is_utf8, refusal, escape}
use Rattle.whole_lines.proofs.Prelude.{reading, ReadingUndoesWriting, read_is_path, ok_of}
use Rattle.whole_lines.specs.Words.{path_from}
use Rattle.whole_lines.proofs.Escapes.{utf8_escape}
use Rattle.whole_lines.proofs.Numbers.{text_path}

path_of_reading : (word path : List ℕ) → ok_of (reading word) ≡ Some path → reading word ≡ Ok path
path_of_reading word path e = by_result (reading word) refl e
  where
    by_result : (r : Result (List ℕ) _) → reading word ≡ r → ok_of r ≡ Some path → reading word ≡ Ok path
    by_result (Ok p) is e = let same : p ≡ path = cc in is ∙ ap Ok same
    by_result (Err f) is e = absurd cc

pub path_takes : ReadingUndoesWriting → (word path : List ℕ) → path_from word ≡ Some path → (word ≡ escape path) × (refusal path ≡ None)
unfolding path_from
path_takes undoes word path e = by_test (is_utf8 word) e
  where
    by_test : (t : Bool) → cond t (ok_of (reading word)) None ≡ Some path → (word ≡ escape path) × (refusal path ≡ None)
    by_test true e = let read = path_of_reading word path e in (undoes.one_spelling word path read, read_is_path word path read)
    by_test false e = absurd cc

pub path_again : ReadingUndoesWriting → (path : List ℕ) → refusal path ≡ None → IsUtf8 path → path_from (escape path) ≡ Some path
path_again undoes path is u = text_path (escape path) (utf8_escape path u) ∙ ap ok_of (undoes.back path is)
