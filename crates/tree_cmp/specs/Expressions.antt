-- Expressions that ask of a row, and the texts that say them. The fields and states are those of mpiFileUtils' dcmp; which term or
-- condition holds, and which offence is told, is our own.
use Rattle.std.specs.Prelude.{ℕ, ◌+◌, Bool, true, false, not, List, [], ◌∷◌, length, take, drop, if◌then◌else◌, ◌==◌, nat_eq, codes, Option, Some}
use Rattle.std.specs.Prelude.{None, Result, Ok, Err}
use Rattle.std.specs.List.{list_any, list_all, slice_split, position}
use Rattle.std.specs.Cmp.Lexicographic.{pointwise}
use Rattle.tree_cmp.specs.declared.rows.Exist.{Exist}
use Rattle.tree_cmp.specs.declared.rows.Exist.TheVariants as exist
use Rattle.tree_cmp.specs.declared.rows.Two.{Two}
use Rattle.tree_cmp.specs.declared.rows.Two.TheVariants as two
use Rattle.tree_cmp.specs.declared.rows.Row.{Row}
use Rattle.tree_cmp.specs.declared.errors.ExprError.{ExprError}
use Rattle.tree_cmp.specs.declared.errors.ExprError.TheVariants.{BadField, BadState, Empty}
use Rattle.tree_cmp.specs.declared.conditions.Aspect.{Aspect}
use Rattle.tree_cmp.specs.declared.conditions.Aspect.TheVariants as aspect
use Rattle.tree_cmp.specs.declared.conditions.Condition.{Condition}
use Rattle.tree_cmp.specs.declared.conditions.Condition.TheVariants as condition

-- ---- when an expression holds of a row

abbrev pub only_src : Exist → Bool
only_src exist.OnlySrc = true
only_src _ = false

abbrev pub on_both : Exist → Bool
on_both exist.OnlySrc = false
on_both exist.OnlyDest = false
on_both exist.Common = true

abbrev pub only_dest : Exist → Bool
only_dest exist.OnlyDest = true
only_dest _ = false

abbrev pub value_of : Aspect → Row → Two
value_of aspect.Kind row = row.kind
value_of aspect.Size row = row.size
value_of aspect.Content row = row.content

-- a field without a value neither agrees nor differs
abbrev pub agrees : Two → Bool
agrees two.Common = true
agrees _ = false

abbrev pub differs : Two → Bool
differs two.Differ = true
differs _ = false

abbrev pub meets : Row → Condition → Bool
meets row condition.OnlySrc = only_src row.exist
meets row condition.OnlyDest = only_dest row.exist
meets row condition.OnOneSide = not (on_both row.exist)
meets row condition.OnBoth = on_both row.exist
meets row (condition.Agree a) = agrees (value_of a row)
meets row (condition.Differ a) = differs (value_of a row)

-- some term's conditions all hold
abbrev pub holds : List (List Condition) → Row → Bool
holds terms row = list_any (λ term. list_all (meets row) term) terms

-- ---- the expression that a text says

-- the text is this word
abbrev pub is : List ℕ → List ℕ → Bool
is word text = pointwise nat_eq text word

-- the condition of the state that the sides have in common, or of the state in which they differ
abbrev pub either_in : Condition → Condition → List ℕ → Option Condition
either_in common differ state = if is (codes "COMMON") state then Some common else if is (codes "DIFFER") state then Some differ else None

abbrev pub exist_in : List ℕ → Option Condition
exist_in state =
    if is (codes "ONLY_SRC") state then Some condition.OnlySrc
    else if is (codes "ONLY_DEST") state then Some condition.OnlyDest
    else either_in condition.OnBoth condition.OnOneSide state

abbrev pub two_in : Aspect → List ℕ → Option Condition
two_in a state = either_in (condition.Agree a) (condition.Differ a) state

-- the condition, or the place at which its state is refused
abbrev pub or_bad_state : ℕ → Option Condition → Result Condition ExprError
or_bad_state at None = Err (BadState at)
or_bad_state at (Some c) = Ok c

-- a field and a state, which stand at these two places
abbrev pub condition_in : ℕ → ℕ → List ℕ → List ℕ → Result Condition ExprError
condition_in at behind field state =
    if is (codes "EXIST") field then or_bad_state behind (exist_in state)
    else if is (codes "TYPE") field then or_bad_state behind (two_in aspect.Kind state)
    else if is (codes "SIZE") field then or_bad_state behind (two_in aspect.Size state)
    else if is (codes "CONTENT") field then or_bad_state behind (two_in aspect.Content state)
    else Err (BadField at)

-- the condition that a text at a place says: FIELD=STATE, divided by the first `=`
abbrev pub divided_at : ℕ → List ℕ → Option ℕ → Result Condition ExprError
divided_at at text None = Err (BadField at)
divided_at at text (Some k) = condition_in at (at + k + 1) (take k text) (drop (k + 1) text)

abbrev pub condition_reading : ℕ → List ℕ → Result Condition ExprError
condition_reading at text = divided_at at text (position (λ b. b == 61) text)

-- the first with the rest behind it; of two offences the earlier one
abbrev pub cons_reading : {X : Type 0} → Result X ExprError → Result (List X) ExprError → Result (List X) ExprError
cons_reading (Err e) rest = Err e
cons_reading (Ok x) (Err e) = Err e
cons_reading (Ok x) (Ok xs) = Ok (x ∷ xs)

-- conditions that stand one after the other from a place on, a byte between each two
abbrev pub term_reading : ℕ → List (List ℕ) → Result (List Condition) ExprError
term_reading at [] = Ok []
term_reading at (text ∷ texts) = cons_reading (condition_reading at text) (term_reading (at + length text + 1) texts)

-- terms that do, each of which has conditions divided by `@`
abbrev pub terms_reading : ℕ → List (List ℕ) → Result (List (List Condition)) ExprError
terms_reading at [] = Ok []
terms_reading at (text ∷ texts) = cons_reading (term_reading at (slice_split (λ b. b == 64) text)) (terms_reading (at + length text + 1) texts)

-- the expression that a text says, or its first offence: terms divided by `,`
abbrev pub expr_reading : List ℕ → Result (List (List Condition)) ExprError
expr_reading [] = Err Empty
expr_reading (b ∷ text) = terms_reading 0 (slice_split (λ b. b == 44) (b ∷ text))
