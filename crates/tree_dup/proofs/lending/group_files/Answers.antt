use Rattle.tree_dup.proofs.Prelude.{length, IfOk, IfSome, subst, sym, StatsTold, taken_back, IsGrouping, Grouping}
use Rattle.tree_dup.proofs.lending.group_files.Goals as goal

pub find_groups-found-requires-clause-told : goal.find_groups-found-requires-clause-told
find_groups-found-requires-clause-told g c κs within =
    subst (λ t. IfSome t (λ files. StatsTold files c.args.list.now)) (sym c.in_ok-readers.ensures.told) c.requires.told

pub returns-clause-groups : goal.returns-clause-groups
returns-clause-groups g c =
    subst (λ t. IfOk c.find_groups-found.result (IsGrouping t c.args.list.now)) c.in_ok-readers.ensures.told c.find_groups-found.ensures.groups

pub returns-clause-counted : goal.returns-clause-counted
returns-clause-counted g c =
    taken_back g.G.Reader.Tree.count c.in_ok-readers.readers.items c.find_groups-found.new.readers.items c.find_groups-found.result
    (λ (found : Grouping). length found.failed) _ _ _ c.in_ok-readers.ensures.zero c.in_ok-readers.ensures.count c.in_ok-readers.ensures.fits
    c.take_back.ensures.count c.find_groups-found.ensures.counted
