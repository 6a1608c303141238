use Rattle.tree_dup.proofs.Prelude.{◌≡◌, ◌<◌, List, map, get_or, ap, sym, subst, ◌∙◌, All, length-map, All-map, File, standing_of, faults_in, failures, still}
use Rattle.tree_dup.proofs.Prelude.{RoseBy}
use Rattle.tree_dup.proofs.Classes.{none_fails}
use Rattle.tree_dup.proofs.Compared.{compared, twice_still, faults_are}
use Rattle.tree_dup.proofs.Counted.{keeps_rose}
use Rattle.tree_dup.proofs.sharing.compared.Goals as goal

pub compare_run-digest-requires-clause-alike : goal.compare_run-digest-requires-clause-alike
compare_run-digest-requires-clause-alike g c =
    subst (λ (fs : List File). map still fs ≡ fs) (sym c.in_ok-run.ensures) (twice_still c.args.files.now)

pub compare_run-digest-requires-clause-sizes : goal.compare_run-digest-requires-clause-sizes
compare_run-digest-requires-clause-sizes g c =
    let first = get_or c.args.files.now 0 c.index-files-0.result in
    subst (All (λ (f : File). f.size ≡ first.size)) (sym c.in_ok-run.ensures)
    (All-map (λ (f : File). f.size ≡ first.size) still c.args.files.now (c.requires.sizes c.index-files-0.result))

pub returns-clause-standings : goal.returns-clause-standings
returns-clause-standings g c =
    let files = c.args.files.now in
    let first = get_or files 0 c.index-files-0.result in
    let e = c.compare_run-digest.ensures in
    compared g.R.Tree.tree g.R.Tree.count g.R.Tree.gives c.args.reader.now c.compare_run-digest.new.reader first.size (map still files) c.in_ok-run.run'.items
    c.compare_run-digest.new.run.items c.compare_run-digest.result c.in_ok-standings.standings.items c.in_ok-run.ensures (twice_still files) e.went e.settled
    e.empty e.front
    (All-map (λ (f : File). f.size ≡ first.size) still files (c.requires.sizes c.index-files-0.result))
    (subst (λ n. 0 < n) (sym (length-map files still)) c.requires.some) (c.in_ok-standings.ensures ∙ ap (map standing_of) c.deref.ensures.value)

pub returns-clause-cause : goal.returns-clause-cause
returns-clause-cause g c =
    let run = c.in_ok-run.run'.items in
    let run' = c.compare_run-digest.new.run.items in
    let old = g.R.Tree.count c.args.reader.now in
    let new = g.R.Tree.count c.compare_run-digest.new.reader in
    subst (λ n. RoseBy n old new) (sym (ap faults_in (c.in_ok-standings.ensures ∙ ap (map standing_of) c.deref.ensures.value) ∙ faults_are run'))
    (keeps_rose (failures run) (failures run') old new (ap failures c.in_ok-run.ensures ∙ none_fails c.args.files.now)
    c.compare_run-digest.ensures.went.counted)
