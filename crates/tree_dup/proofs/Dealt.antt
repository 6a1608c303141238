-- One more file of a run is dealt out.
use Rattle.tree_dup.proofs.Prelude.{◌≡◌, ℕ, List, [], refl, sym, subst, append-nil, Grouping, File, AreDealt}

pub dealt_none : (found : Grouping) → AreDealt [] [] [] found found
dealt_none found = record {
  alike = refl;
  others = refl;
  failed = sym (append-nil found.failed);
  changed = sym (append-nil found.changed);
  groups = refl;
}

pub dealt_first : (paths : List (List ℕ)) (others : List File) (found : Grouping) → paths ≡ [] → others ≡ [] → AreDealt [] paths others found found
dealt_first paths others found e f =
    subst (λ ps. AreDealt [] ps others found found) (sym e) (subst (λ fs. AreDealt [] [] fs found found) (sym f) (dealt_none found))
