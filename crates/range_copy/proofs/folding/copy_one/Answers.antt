use Rattle.range_copy.proofs.Prelude.{◌≡◌, ◌∙◌, ◌<◌, cond, inl, refl, subst, sym, IfSome, None, false≢true, refusal, RoseBy, SameBut, is_failed, HasCause}
use Rattle.range_copy.proofs.Prelude.{IsCopied, IsEarly, target_of}
use Rattle.level_work.specs.declared.items.Fate.TheVariants as fate
use Rattle.range_copy.proofs.Showing.{cause_there}
use Rattle.range_copy.proofs.Tried.{cause_of, copied_there, early_long, exceeds_by, long_copied}
use Rattle.range_copy.proofs.Tried.{lost_copied, lost_there, no_root_there, none_there, parent_there}
use Rattle.range_copy.proofs.Tried.{same_target, source_there, too_long, tried_early, unchanged}
use Rattle.range_copy.proofs.folding.copy_one.Given as given
use Rattle.range_copy.proofs.folding.copy_one.Goals as goal
use Rattle.range_copy.proofs.folding.copy_one.Goals.{After-copy_file}

pub returns-in_default-clause-early : goal.returns-in_default-clause-early
returns-in_default-clause-early g c rows are =
    let none = sym c.in_ok-target.ensures.told ∙ c.in_default.is in
    inl (early_long c.args.pairs.now rows c.args.failed.now.set.keys are c.args.piece c.args.entry.now c.requires.large
    (too_long c.args.pairs.now c.args.entry.now.path none))

pub returns-in_default-clause-told : goal.returns-in_default-clause-told
returns-in_default-clause-told g c rows are =
    let none = sym c.in_ok-target.ensures.told ∙ c.in_default.is in
    let t = g.G.Plot.tree c.args.ground.now in
    let early = early_long c.args.pairs.now rows c.args.failed.now.set.keys are c.args.piece c.args.entry.now c.requires.large
    (too_long c.args.pairs.now c.args.entry.now.path none) in
    unchanged (λ a b. IsCopied a b c.args.pairs.now rows c.args.entry.now fate.TooLong) t t refl
    (λ a b same. long_copied c.args.pairs.now rows c.args.failed.now.set.keys are c.args.piece c.args.entry.now c.requires.large a b early same)

pub returns-then-branch-clause-early : goal.returns-then-branch-clause-early
returns-then-branch-clause-early g c rows are =
    let is = sym c.in_ok-target.ensures.told ∙ c.in-Some.is in
    let valid = subst (λ o. IfSome o (λ p. refusal p ≡ None)) c.in-Some.is c.in_ok-target.ensures.path in
    inl (lost_there c.args.pairs.now c.args.failed.now.set.keys c.args.piece c.args.entry.now c.requires.large c.in-Some.target is valid c.requires.low rows are
    (sym c.in_ok-has_parent_of.ensures ∙ c.if-branch.true))

pub returns-then-branch-clause-told : goal.returns-then-branch-clause-told
returns-then-branch-clause-told g c rows are =
    let is = sym c.in_ok-target.ensures.told ∙ c.in-Some.is in
    let valid = subst (λ o. IfSome o (λ p. refusal p ≡ None)) c.in-Some.is c.in_ok-target.ensures.path in
    let t = g.G.Plot.tree c.args.ground.now in
    let early = lost_there c.args.pairs.now c.args.failed.now.set.keys c.args.piece c.args.entry.now c.requires.large c.in-Some.target is valid c.requires.low
    rows are (sym c.in_ok-has_parent_of.ensures ∙ c.if-branch.true) in
    unchanged (λ a b. IsCopied a b c.args.pairs.now rows c.args.entry.now fate.ParentFailed) t t refl
    (λ a b same. lost_copied c.args.pairs.now rows c.args.failed.now.set.keys are c.args.piece c.args.entry.now c.requires.large a b early same)

pub copy_file-requires-clause-larger : goal.copy_file-requires-clause-larger
copy_file-requires-clause-larger g c κs within =
    subst (λ n. c.args.piece < n) (sym c.size_of-size.ensures) (exceeds_by c.args.piece c.args.entry.now c.requires.large)

pub copy_file-requires-clause-root : goal.copy_file-requires-clause-root
copy_file-requires-clause-root g c κs within =
    let is = sym c.in_ok-target.ensures.told ∙ c.in-Some.is in
    let valid = subst (λ o. IfSome o (λ p. refusal p ≡ None)) c.in-Some.is c.in_ok-target.ensures.path in
    no_root_there c.args.pairs.now c.args.failed.now.set.keys c.args.piece c.args.entry.now c.requires.large c.in-Some.target is valid c.requires.low

pub copy_file-requires-clause-source : goal.copy_file-requires-clause-source
copy_file-requires-clause-source g c κs within =
    let is = sym c.in_ok-target.ensures.told ∙ c.in-Some.is in
    let valid = subst (λ o. IfSome o (λ p. refusal p ≡ None)) c.in-Some.is c.in_ok-target.ensures.path in
    source_there c.args.pairs.now c.args.failed.now.set.keys c.args.piece c.args.entry.now c.requires.large c.in-Some.target is valid c.requires.low
    c.size_of-size.result (g.G.Plot.tree c.args.ground.now) c.size_of-size.ensures c.requires.makes

pub copy_file-requires-clause-stand : goal.copy_file-requires-clause-stand
copy_file-requires-clause-stand g c κs within =
    let is = sym c.in_ok-target.ensures.told ∙ c.in-Some.is in
    let valid = subst (λ o. IfSome o (λ p. refusal p ≡ None)) c.in-Some.is c.in_ok-target.ensures.path in
    parent_there c.args.pairs.now c.args.failed.now.set.keys c.args.piece c.args.entry.now c.requires.large c.in-Some.target is valid c.requires.low
    (g.G.Plot.tree c.args.ground.now) (sym c.in_ok-has_parent_of.ensures ∙ c.if-branch.false) c.requires.makes

-- every path but the target is as before
others_then : (g : given.Over) (c : After-copy_file g) →
    IfSome (g.G.Plot.tree c.args.ground.now) (λ before. IfSome (g.G.Plot.tree c.copy_file.new.ground) (SameBut c.in-Some.target before)) →
    IfSome (g.G.Plot.tree c.args.ground.now) (λ before. IfSome (g.G.Plot.tree c.copy_file.new.ground)
    (SameBut (target_of c.args.pairs.now c.args.entry.now.path) before))
others_then g c others =
    let is = sym c.in_ok-target.ensures.told ∙ c.in-Some.is in
    let valid = subst (λ o. IfSome o (λ p. refusal p ≡ None)) c.in-Some.is c.in_ok-target.ensures.path in
    let t = g.G.Plot.tree c.args.ground.now in
    let t1 = g.G.Plot.tree c.copy_file.new.ground in
    subst (λ p. IfSome t (λ before. IfSome t1 (SameBut p before)))
    (same_target c.args.pairs.now c.args.failed.now.set.keys c.args.piece c.args.entry.now c.requires.large c.in-Some.target is valid c.requires.low)
    others

pub returns-in_err-came-clause-others : goal.returns-in_err-came-clause-others
returns-in_err-came-clause-others g c = others_then g (goal.at.returns-in_err-came-clause-others g c).After-copy_file c.in_err-came.ensures.others

pub returns-clause-early : goal.returns-clause-early
returns-clause-early g c rows are =
    let is = sym c.in_ok-target.ensures.told ∙ c.in-Some.is in
    let valid = subst (λ o. IfSome o (λ p. refusal p ≡ None)) c.in-Some.is c.in_ok-target.ensures.path in
    let none = none_there c.args.pairs.now c.args.failed.now.set.keys c.args.piece c.args.entry.now c.requires.large c.in-Some.target is valid c.requires.low
    rows are (sym c.in_ok-has_parent_of.ensures ∙ c.if-branch.false) in
    subst (IsEarly c.args.pairs.now rows c.args.entry.now) (sym c.fate_of.ensures)
    (tried_early c.args.pairs.now rows c.args.failed.now.set.keys are c.args.piece c.args.entry.now c.requires.large c.in_ok-came.came none)

pub returns-clause-told : goal.returns-clause-told
returns-clause-told g c rows are =
    let is = sym c.in_ok-target.ensures.told ∙ c.in-Some.is in
    let valid = subst (λ o. IfSome o (λ p. refusal p ≡ None)) c.in-Some.is c.in_ok-target.ensures.path in
    let t = g.G.Plot.tree c.args.ground.now in
    let t1 = g.G.Plot.tree c.copy_file.new.ground in
    subst (λ f. IfSome t (λ before. IfSome t1 (λ after. IsCopied before after c.args.pairs.now rows c.args.entry.now f))) (sym c.fate_of.ensures)
    (copied_there c.args.pairs.now c.args.failed.now.set.keys c.args.piece c.args.entry.now c.requires.large c.in-Some.target is valid c.requires.low rows are
    t t1 c.in_ok-came.came (sym c.in_ok-has_parent_of.ensures ∙ c.if-branch.false) c.in_ok-came.ensures.told)

pub returns-in_default-clause-shown : goal.returns-in_default-clause-shown
returns-in_default-clause-shown g c = λ on. absurd (false≢true on)

pub returns-then-branch-clause-shown : goal.returns-then-branch-clause-shown
returns-then-branch-clause-shown g c = λ on. absurd (false≢true on)

pub returns-clause-shown : goal.returns-clause-shown
returns-clause-shown g c =
    let is = sym c.in_ok-target.ensures.told ∙ c.in-Some.is in
    let valid = subst (λ o. IfSome o (λ p. refusal p ≡ None)) c.in-Some.is c.in_ok-target.ensures.path in
    let asks = g.G.Reader.Tree.gives in
    let gives = g.G.Part.Plot.gives in
    subst (HasCause asks gives g.G.Plot.gives g.G.Plot.area g.G.Plot.count c.args.pairs.now c.args.entry.now) (sym c.fate_of.ensures)
    (cause_there asks g.G.Plot.gives g.G.Plot.area g.G.Plot.count c.args.entry.now.path c.in-Some.target c.size_of-size.result gives c.args.pairs.now
    c.args.piece c.args.entry.now _ c.requires.large refl
    (same_target c.args.pairs.now c.args.failed.now.set.keys c.args.piece c.args.entry.now c.requires.large c.in-Some.target is valid c.requires.low)
    c.size_of-size.ensures c.in_ok-came.ensures.shown)

pub returns-clause-cause : goal.returns-clause-cause
returns-clause-cause g c =
    subst (λ f. RoseBy (cond (is_failed f) 1 0) (g.G.Plot.count c.args.ground.now) (g.G.Plot.count c.copy_file.new.ground)) (sym c.fate_of.ensures)
    (cause_of c.in_ok-came.came (g.G.Plot.count c.args.ground.now) (g.G.Plot.count c.copy_file.new.ground)
    c.in_ok-came.ensures.cause c.in_ok-came.ensures.count)

pub returns-clause-others : goal.returns-clause-others
returns-clause-others g c = others_then g (goal.at.returns-clause-others g c).After-copy_file c.in_ok-came.ensures.others
