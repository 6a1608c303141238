use Rattle.range_copy.proofs.Prelude.{◌≡◌, ◌∙◌, ◌-◌, ◌++◌, ◌∷◌, [], ap, arith, drop, length, None, subst, sym, take, take_all, All-append, All-cons, All-nil}
use Rattle.range_copy.proofs.Prelude.{refusal, Entry, no_more, moved_on, next_of, ArePartsOf, held_of, large_of, marks_of, small_of}
use Rattle.std.proofs.Common.{All}
use Rattle.range_copy.proofs.Passed.{at_last, none_over, whole}
use Rattle.range_copy.proofs.parting.apart.Goals as goal
use Rattle.range_copy.proofs.parting.apart.Goals.{In_ok-settle}

pub loop-cursor-preserved : goal.loop-cursor-preserved
loop-cursor-preserved c =
    let Valid : Entry → Type 0 = λ e. refusal e.path ≡ None in
    let i = c.loop-cursor.invariant in
    let list = c.args.list.now in
    let e = c.entry.result.now in
    let k = c.loop-cursor.cursor.1 in
    let next = c.advance.new.self.1 in
    let at = moved_on c.loop-cursor.cursor c.advance.new.self c.in_ok-advance.field-0 c.in_ok-advance.ensures.passed c.if-branch.true in
    let same : c.advance.new.self.0 ≡ list = at.0 ∙ i.of_list in
    let rest : drop k list ≡ e ∷ drop next list = next_of list c.advance.new.self.0 k next e same c.entry.ensures.at at.1 in
    let back : next - 1 ≡ k = omega (arith, at.1) in
    let last : take next list ≡ take k list ++ e ∷ [] = subst (λ xs. take next xs ≡ take (next - 1) xs ++ e ∷ []) same c.entry.ensures.last
    ∙ ap (λ n. take n list ++ e ∷ []) back in
    record {
      of_list = same;
      inside = omega (arith, c.in_ok-advance.ensures.inside, ap length same);
      parts = c.in_ok-held.ensures.parts (drop next list) list
          (subst (λ xs. ArePartsOf c.args.piece c.loop-cursor.parts (held_of c.loop-cursor.held ++ xs) list) rest i.parts);
      held = c.in_ok-held.ensures.held;
      valid = subst (All Valid) (sym last) (All-append Valid (take k list) (e ∷ []) i.valid (All-cons Valid e [] c.in_ok-held.ensures.path (All-nil Valid)));
    }

-- the parts are told, once the entry that was held back is in its part
parted : (c : In_ok-settle) → (c.settle.new.parts.small ≡ small_of c.args.piece c.args.list.now)
    × (c.settle.new.parts.large.items ≡ large_of c.args.piece c.args.list.now)
    × (c.settle.new.parts.marks.items ≡ marks_of c.args.piece c.args.list.now)
parted c =
    let i = c.loop-cursor.invariant in
    let over = no_more c.args.list.now c.loop-cursor.cursor c.in_ok-advance.field-0 i.of_list c.in_ok-advance.ensures.answer c.if-branch.false in
    whole c.args.piece c.settle.new.parts c.args.list.now (c.in_ok-settle.ensures c.args.piece [] c.args.list.now i.held (none_over c.loop-cursor.held)
    (at_last c.args.piece c.loop-cursor.parts c.loop-cursor.held c.loop-cursor.cursor.1 c.args.list.now over i.parts))

pub returns-clause-small : goal.returns-clause-small
returns-clause-small c = (parted (goal.at.returns-clause-small c).In_ok-settle).0

pub returns-clause-large : goal.returns-clause-large
returns-clause-large c = (parted (goal.at.returns-clause-large c).In_ok-settle).1

pub returns-clause-marks : goal.returns-clause-marks
returns-clause-marks c = (parted (goal.at.returns-clause-marks c).In_ok-settle).2

pub returns-clause-paths : goal.returns-clause-paths
returns-clause-paths c =
    let i = c.loop-cursor.invariant in
    let over = no_more c.args.list.now c.loop-cursor.cursor c.in_ok-advance.field-0 i.of_list c.in_ok-advance.ensures.answer c.if-branch.false in
    subst (All (λ (e : Entry). refusal e.path ≡ None)) (take_all c.loop-cursor.cursor.1 c.args.list.now over) i.valid
