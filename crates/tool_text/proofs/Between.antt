-- The lines of the entries from one place to another.
use Rattle.tool_text.proofs.Prelude.{◌≡◌, ℕ, ◌+◌, ◌≤◌, List, [], ◌++◌, length, take, drop, arith, ap, sym, ◌∙◌, take-append-drop, take-append-le}
use Rattle.tool_text.proofs.Prelude.{drop-append-le, drop_all, length-take-le, flat_map-append, Entry, line_of, lines_of, lines_between}

-- nothing is between a place and itself
pub between_none : (n : ℕ) (es : List Entry) → n ≤ length es → lines_between n n es ≡ []
between_none n es inside = ap lines_of (drop_all n (take n es) (omega (arith, length-take-le n es inside)))

-- the entries up to a place, in two parts
parts : (middle to : ℕ) (es : List Entry) → middle ≤ to → to ≤ length es → take middle es ++ drop middle (take to es) ≡ take to es
parts middle to es order inside =
    let front : take middle es ≡ take middle (take to es) =
    ap (take middle) (sym (take-append-drop to es))
    ∙ take-append-le middle (take to es) (drop to es) (omega (arith, length-take-le to es inside, order)) in
    ap (λ xs. xs ++ drop middle (take to es)) front ∙ take-append-drop middle (take to es)

-- two parts are the whole
pub between_both : (from middle to : ℕ) (es : List Entry) → from ≤ middle → middle ≤ to → to ≤ length es →
    lines_between from middle es ++ lines_between middle to es ≡ lines_between from to es
between_both from middle to es first second inside =
    let known = length-take-le middle es (omega (arith, second, inside)) in
    sym (flat_map-append line_of (drop from (take middle es)) (drop middle (take to es)))
    ∙ ap lines_of (sym (drop-append-le from (take middle es) (drop middle (take to es)) (omega (arith, known, first))))
    ∙ ap (λ xs. lines_of (drop from xs)) (parts middle to es second inside)
