use Rattle.checkpoints.proofs.Prelude.{subst, map, arith, List, ℕ, Vec, Global, flat_map, enumerate_from, IfSome_then, Path, is_misplaced, IsFirstMisplaced}
use Rattle.checkpoints.proofs.Prelude.{IsLowest, IsPlace}
use Rattle.checkpoints.proofs.Placed.{all_placed, number_inside, first_found}
use Rattle.checkpoints.proofs.placing.first_misplaced.Goals as goal

pub returns-in_default-clause-none : goal.returns-in_default-clause-none
returns-in_default-clause-none c = λ e.
    let done = c.args.done.now in
    let flat = flat_map (λ (l : List (List ℕ)). l) (map (λ (v : Vec Path Global). v.items) c.args.lists.now) in
    all_placed done flat (subst (IsLowest (is_misplaced done flat) (enumerate_from 0 flat)) c.in_default.is c.in_ok-number.ensures)

pub returns-clause-none : goal.returns-clause-none
returns-clause-none c = λ e.
    let done = c.args.done.now in
    let flat = flat_map (λ (l : List (List ℕ)). l) (map (λ (v : Vec Path Global). v.items) c.args.lists.now) in
    let here = subst (IsLowest (is_misplaced done flat) (enumerate_from 0 flat)) c.in-Some.is c.in_ok-number.ensures in
    absurd (omega (arith, number_inside done flat c.in-Some.number here, c.place_of.ensures.none e))

pub returns-clause-first : goal.returns-clause-first
returns-clause-first c =
    let done = c.args.done.now in
    let lists = map (λ (v : Vec Path Global). v.items) c.args.lists.now in
    let flat = flat_map (λ (l : List (List ℕ)). l) lists in
    let here = subst (IsLowest (is_misplaced done flat) (enumerate_from 0 flat)) c.in-Some.is c.in_ok-number.ensures in
    IfSome_then c.place_of.result {P = λ at. IsPlace lists c.in-Some.number at.0 at.1} {Q = λ at. IsFirstMisplaced done lists at.0 at.1}
    c.place_of.ensures.place
    (λ at p. first_found done lists c.in-Some.number at.0 at.1 p here)
