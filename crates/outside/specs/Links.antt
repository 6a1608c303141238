-- The text of a symbolic link: which texts are one, and how it is read from printable text. Our own, after the longest text that
-- Linux keeps in a link.
use Rattle.std.specs.Prelude.{◌≡◌, ℕ, List, length, if◌then◌else◌, ◌==◌, nat_lt, Option, Some, None, Result, Ok, Err}
use Rattle.path_text.specs.Order.{has_zero}
use Rattle.path_text.specs.Escape.{escape, good_len, unescaped}
use Rattle.outside.specs.declared.links.LinkTextError.{LinkTextError}
use Rattle.outside.specs.declared.links.LinkTextError.TheVariants.{Empty, TooLong, Nul, BadEscape}

-- why a text is refused as a link's; `None` if it is one
abbrev pub link_refusal : List ℕ → Option LinkTextError
link_refusal text =
    if length text == 0 then Some Empty
    else if nat_lt 4095 (length text) then Some TooLong
    else if has_zero text then Some Nul
    else None

-- bytes as a link's text, if they are not refused
abbrev pub link_of : Option LinkTextError → List ℕ → Result (List ℕ) LinkTextError
link_of None text = Ok text
link_of (Some fault) text = Err fault

-- the link's text that a printable text is read as, or why it is refused
abbrev pub link_reading : List ℕ → Result (List ℕ) LinkTextError
link_reading written =
    if nat_lt (good_len written) (length written) then Err (BadEscape (good_len written))
    else link_of (link_refusal (unescaped written)) (unescaped written)

-- reading undoes writing, and a link's text is read from one text alone
pub record LinkReadingUndoesWriting : Type 0 where
  pub back : (text : List ℕ) → link_refusal text ≡ None → link_reading (escape text) ≡ Ok text
  pub one_spelling : (written text : List ℕ) → link_reading written ≡ Ok text → written ≡ escape text
