-- A directory that is made or kept, seen at and under its path.
use Rattle.tree_copy.proofs.Prelude.{◌≡◌, inl, inr, ℕ, Bool, true, false, cond, List, Option, Some, None, IfSome, refl, ap, ◌∙◌, sym, subst, is_some, Ok, get}
use Rattle.tree_copy.proofs.Prelude.{insert, get-insert, same_map, eq_by_cmp, bytes_decides, path_cmp, is_within, path_cmp_total, path_cmp_ties, path_cmp_same}
use Rattle.tree_copy.proofs.Prelude.{Files, Node, is_dir, empty_dir, at_and_under, Fate, MakeDir, ByReader, IsDirMade, Looked, itself, get_at, get_here}
use Rattle.outside.specs.declared.trees.Kind.TheVariants as kind
use Rattle.level_work.specs.declared.items.Fate.TheVariants as fate
use Rattle.tree_copy.proofs.Looks.{Sight, dir_kind, failed, there, in_way, absent, sight}
use Rattle.tree_copy.proofs.Puts.{put_others}

same_inserted : (p : List ℕ) (n : Node) (files : Files) → at_and_under p (insert files p n) ≡ insert (at_and_under p files) p n
same_inserted p n files = same_map path_cmp_total path_cmp_same _ _ (λ q.
    get_at p (insert files p n) q ∙ ap (λ o. cond (is_within q p) o None) (get-insert path_cmp_total files p n q)
    ∙ by q (eq_by_cmp path_cmp q p) refl
    ∙ sym (get-insert path_cmp_total (at_and_under p files) p n q ∙ ap (λ o. cond (eq_by_cmp path_cmp q p) (Some n) o) (get_at p files q)))
  where
    by : (q : List ℕ) (b : Bool) → eq_by_cmp path_cmp q p ≡ b →
        cond (is_within q p) (cond b (Some n) (get files q)) None ≡ cond b (Some n) (cond (is_within q p) (get files q) None)
    by q true e = ap (λ w. cond w (Some n) None) (ap (λ x. is_within x p) ((bytes_decides q p).0 (path_cmp_ties q p ∙ e)) ∙ itself p)
    by q false e = refl

pub told_all : (t : Option Files) (X : Files → Type 0) → ((seen : Files) → X seen) → IfSome t X
told_all None X f = tt
told_all (Some seen) X f = f seen

pub made : (told : Option Files) (p : List ℕ) (files : Files) → get files p ≡ None → IsDirMade told p (Ok fate.Done) files (insert files p empty_dir)
made told p files none entry = record {
  others = put_others p empty_dir files;
  answers = told_all told _ (λ seen. inl (get_here p files ∙ none, same_inserted p empty_dir files));
}

pub kept : (told : Option Files) (p : List ℕ) (f : Fate) (files : Files) → IfSome told (Looked kind.Dir p f) → is_some (get files p) ≡ true →
    IsDirMade told p (Ok f) files files
kept told p f files look taken entry = record { others = λ q off. refl; answers = by told look }
  where
    here : is_some (get (at_and_under p files) p) ≡ true
    here = ap is_some (get_here p files) ∙ taken

    keeps : Files → Fate → Type 0
    keeps seen f = MakeDir seen p entry f (at_and_under p files) (at_and_under p files)

    seen_as : (seen : Files) → Sight is_dir (get seen p) f → keeps seen f
    seen_as seen (failed e) = subst (keeps seen) (sym e) tt
    seen_as seen (there e is) = subst (keeps seen) (sym e) (inr (here, is, refl))
    seen_as seen (in_way e some is) = subst (keeps seen) (sym e) (here, some, is, refl)
    seen_as seen (absent e none) = subst (keeps seen) (sym e) (here, none, refl)

    by : (told : Option Files) → IfSome told (Looked kind.Dir p f) → ByReader MakeDir told p entry f (at_and_under p files) (at_and_under p files)
    by None look = tt
    by (Some seen) look = seen_as seen (sight kind.Dir is_dir dir_kind seen p f look)
