use Rattle.tree_dup.proofs.Prelude.{slice_index_or, rules, ◌≡◌, length, map, ap, sym, subst, refl, ◌∙◌, IfSome, All, faults_of, AreStandings, StandFor, Shows}
use Rattle.tree_dup.proofs.Prelude.{IsThere, AreSettled, comparison_faults, faults_in, failures, is_other, still}
use Rattle.tree_dup.proofs.Classes.{none_fails}
use Rattle.tree_dup.proofs.Compared.{same_run, faults_are, sizes_none}
use Rattle.tree_dup.proofs.Counted.{kept_none, told_before}
use Rattle.tree_dup.proofs.grouping.compare_first.Goals as goal

pub returns-then-len : goal.returns-then-len
returns-then-len g c =
    let tree = g.R.Tree.tree c.args.reader.now in
    let gives = g.R.Tree.gives in
    let run = c.args.run.now.items in
    let new = c.stand.new.run.items in
    let compared = c.in-Some.comparison in
    let as_many : length compared.standings.items ≡ length run = search rules in
    let s : AreStandings tree gives run compared.digest compared.standings.items =
    subst (λ o. IfSome o (StandFor tree gives run)) c.in-Some.is c.requires.told as_many in
    let is : new ≡ s.run' =
    same_run s.run' run new c.deref.result.now (s.are ∙ sym c.deref.ensures.value) s.same c.stand.ensures.as_long c.stand.ensures.each in
    record {
      same = refl;
      files = ap (map still) is ∙ s.same;
      counted = told_before _ _ _ (ap (faults_of comparison_faults) c.in-Some.is ∙ ap faults_in (sym s.are) ∙ faults_are s.run' ∙ ap failures (sym is));
      shows = subst (All (Shows gives)) (sym is) s.shows;
      settled = subst (λ fs. IfSome tree (λ files. All (IsThere files) run → AreSettled files compared.digest fs)) (sym is) s.settled;
      empty = λ z. is ∙ s.empty (sizes_none c.args.size run z c.requires.sizes);
      front = λ d. ap (λ fs. is_other (slice_index_or fs 0 d)) is ∙ s.front d c.requires.some;
      room = c.requires.room;
    }

pub returns-clause-counted : goal.returns-clause-counted
returns-clause-counted g c =
    kept_none _ _ _ _ (ap failures (sym c.requires.alike) ∙ none_fails c.args.run.now.items) c.compare_run.ensures.went.counted
    (faults_of comparison_faults c.args.compared)
