use Rattle.tree_cmp.proofs.Prelude.{refl}
use Rattle.tree_cmp.proofs.laws.worked_rows.Goals as goal

pub returns : goal.returns
returns c = record {
  shown = refl;
  tops = refl;
  files = refl;
  source_alone = refl;
  dest_alone = refl;
  empty = refl;
  hidden = refl;
  absent = refl;
  same_links = refl;
  other_links = refl;
  unknown_link = refl;
  link_and_file = refl;
}
