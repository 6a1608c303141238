-- The copy of a list whose large files are copied after all else: what its parts need, and what is so of all entries then.
use Rattle.range_copy.proofs.Prelude.{◌≡◌, ◌⊎◌, ℕ, true, false, cond, ◌||◌, ◌&&◌, List, [], ◌∷◌, map, length, Option, Some, None, IfSome, refl, ap, ◌∙◌, sym}
use Rattle.range_copy.proofs.Prelude.{subst, arith, nat_eq, is_some, false≢true, or_parts, All-from_recursion, recursion_from_All, nat_le, get, All}
use Rattle.range_copy.proofs.Prelude.{AllByRecursion, list_any, zip, option_map, pointwise, is_within, parent_of, refusal, parent_moves_too, parent_is_over}
use Rattle.range_copy.proofs.Prelude.{parent_under, preorder, contiguous, under_longer, UnderDirectories, Body, Files, IsTree, Node, content, dir, file, is_dir}
use Rattle.range_copy.proofs.Prelude.{is_file, link, other, stat_of, Stat, is_kind, is_of, size_by, paths, Entry, is_done, AreEarly, CanCopy, Copied, FitsTree}
use Rattle.range_copy.proofs.Prelude.{IsCopied, IsEarly, SameButTargets, early, is_target, is_tried, is_untold, target_of, treated, IsPair, Pair, Fine, no_root}
use Rattle.range_copy.proofs.Prelude.{targets_are_apart, IsSource, AreApart, AreFailed, AreRows, CanMake, SameButFor, has_path, is_target_of, exceeds, large_of}
use Rattle.range_copy.proofs.Prelude.{marks_of, merged, small_of, mapped, weaker, together, Ascend, ascends, both_told}
use Rattle.std.proofs.Common.{nat_lt}
use Rattle.outside.specs.declared.trees.Kind.TheVariants as kind
use Rattle.range_copy.proofs.Aside.{all_aside, are_apart, aside, other_paths}
use Rattle.range_copy.proofs.Composed.{StandApart, both_copied, copied_by}
use Rattle.range_copy.proofs.Fitted.{Free, Known, fits_small, free_all, known_all, parent_done, treated_all, turned}
use Rattle.range_copy.proofs.Parted.{all_exceed, any_map, can_small, large_all, large_ascend, small_all, target_in_parts}
use Rattle.range_copy.proofs.Parted.{treated_large, turned_off}
use Rattle.range_copy.proofs.Rows.{Row, Told, merged_failed, merged_rows, rows_told, rows_with, told_rows}
use Rattle.range_copy.proofs.Tried.{early_by, is_file_of, less_too}

abbrev InSource : List Pair → Entry → Type 0
InSource pairs e = list_any (λ (pair : Pair). is_within e.path pair.source) pairs ≡ true

abbrev IsTold : Files → Entry → Type 0
IsTold before e = IfSome e.stat (λ stat. option_map stat_of (get before e.path) ≡ Some stat)

-- a file that is told is there, with as many bytes
source_of : (before : Files) (e : Entry) → is_of kind.File e.stat ≡ true → IsTold before e → IsSource e.path (size_by e.stat) before
source_of before e f t = by e.stat (get before e.path) refl f t
  where
    same_body : (b : Body) (mtime : Option ℕ) (stat : Stat) → is_kind kind.File stat.kind ≡ true → stat_of (record { body = b; mtime = mtime }) ≡ stat →
        (Rattle.outside.specs.Tree.is_file_body b ≡ true) × (length (Rattle.outside.specs.Tree.bytes_of b) ≡ stat.size)
    same_body (dir far) mtime stat f e = absurd (false≢true (ap (λ (s : Stat). is_kind kind.File s.kind) e ∙ f))
    same_body (file bytes) mtime stat f e = (refl, ap (λ (s : Stat). s.size) e)
    same_body (link text) mtime stat f e = absurd (false≢true (ap (λ (s : Stat). is_kind kind.File s.kind) e ∙ f))
    same_body other mtime stat f e = absurd (false≢true (ap (λ (s : Stat). is_kind kind.File s.kind) e ∙ f))

    some_is : (n : Node) (stat : Stat) → Some (stat_of n) ≡ Some stat → stat_of n ≡ stat
    some_is n stat e = cc

    by : (told : Option Stat) (found : Option Node) → get before e.path ≡ found → is_of kind.File told ≡ true →
        IfSome told (λ stat. option_map stat_of found ≡ Some stat) → IsSource e.path (size_by told) before
    by None found is f t = absurd (false≢true f)
    by (Some stat) None is f t = cc
    by (Some stat) (Some n) is f t =
        let b = same_body n.body n.mtime stat f (some_is n stat t) in
        record { is_file = ap is_file is ∙ b.0; size_is = ap (λ node. length (content node)) is ∙ b.1 }

-- a list, its pairs, and that each path is one
pub record Given (list : List Entry) (pairs : List Pair) : Type 0 where
  pub can : CanCopy list pairs
  pub ends : All IsPair pairs
  pub valid : All (λ e. refusal e.path ≡ None) list

module _ (list : List Entry) (pairs : List Pair) (g : Given list pairs) (piece : ℕ) where
  fine : Fine pairs
  fine = record { apart = g.can.apart; valid = g.ends }

  known : AllByRecursion (Known pairs) list
  known = known_all pairs list g.can.in_source g.valid

  rising : Ascend list
  rising = ascends list g.can.ascend

  free : AllByRecursion (Free pairs (large_of piece list)) list
  free = free_all parent_moves_too parent_is_over preorder contiguous pairs fine piece list rising known

  -- what the copy of the small ones needs

  pub small_can : CanCopy (small_of piece list) pairs
  small_can = can_small piece list pairs g.can

  pub small_fit : (t : Option Files) → IfSome t (FitsTree list pairs) → IfSome t (FitsTree (small_of piece list) pairs)
  small_fit None f = tt
  small_fit (Some before) f = fits_small piece list pairs before free f

  pub small_sourced : (rows : List Row) → map (λ row. row.0) rows ≡ paths (treated (small_of piece list)) →
      All (λ row. list_any (λ pair. is_within row.0 pair.source) pairs ≡ true) rows
  small_sourced rows same =
      All-from_recursion (λ (row : Row). list_any (λ (pair : Pair). is_within row.0 pair.source) pairs ≡ true) rows
      (by rows (treated (small_of piece list)) same
      (treated_all (InSource pairs) (small_of piece list) (recursion_from_All (InSource pairs) (small_of piece list) small_can.in_source)))
    where
      by : (rows : List Row) (es : List Entry) → map (λ (row : Row). row.0) rows ≡ paths es → AllByRecursion (InSource pairs) es →
          AllByRecursion (λ (row : Row). list_any (λ (pair : Pair). is_within row.0 pair.source) pairs ≡ true) rows
      by [] es same h = tt
      by (row ∷ rows) [] same h = cc
      by (row ∷ rows) (e ∷ es) same h =
          let first : row.0 ≡ e.path = cc in
          let rest : map (λ (row : Row). row.0) rows ≡ paths es = cc in
          (ap (λ p. list_any (λ (pair : Pair). is_within p pair.source) pairs) first ∙ h.0, by rows es rest h.1)

  -- what that of the large ones needs

  pub large_exceed : AllByRecursion (λ e. exceeds piece e ≡ true) (large_of piece list)
  large_exceed = all_exceed piece list

  pub large_sourced : AllByRecursion (λ e. list_any (λ pair. is_within e.path pair.source) pairs ≡ true) (large_of piece list)
  large_sourced = large_all (InSource pairs) piece list (recursion_from_All (InSource pairs) list g.can.in_source)

  large_known : AllByRecursion (Known pairs) (large_of piece list)
  large_known = large_all (Known pairs) piece list known

  large_free : AllByRecursion (Free pairs (large_of piece list)) (large_of piece list)
  large_free = large_all (Free pairs (large_of piece list)) piece list free

  pub large_apart : AreApart pairs (large_of piece list)
  large_apart = are_apart pairs fine (large_of piece list) (large_ascend piece list rising) large_known large_free

  small_known : AllByRecursion (Known pairs) (treated (small_of piece list))
  small_known = treated_all (Known pairs) (small_of piece list) (small_all (Known pairs) piece list known)

  same_test : (es : List Entry) (q : List ℕ) → is_target pairs es q ≡ is_target_of pairs (treated es) q
  same_test es q = any_map (λ (e : Entry). target_of pairs e.path) (pointwise nat_eq q) (treated es)

  no_source : AllByRecursion (λ e. is_target_of pairs (treated (small_of piece list)) e.path ≡ false) (large_of piece list)
  no_source = weaker (InSource pairs) (λ e. is_target_of pairs (treated (small_of piece list)) e.path ≡ false) (large_of piece list)
      (λ e there. sym (same_test (small_of piece list) e.path) ∙ targets_are_apart.off_sources (small_of piece list) pairs e.path small_can g.ends
      (All-from_recursion (λ e. refusal e.path ≡ None) (small_of piece list)
      (small_all (λ e. refusal e.path ≡ None) piece list (recursion_from_All (λ e. refusal e.path ≡ None) list g.valid))) there) large_sourced

  -- both stand apart
  pub parts_apart : StandApart pairs (treated (small_of piece list)) (large_of piece list)
  parts_apart = record {
    first = treated_all (λ e. is_target_of pairs (large_of piece list) (target_of pairs e.path) ≡ false) (small_of piece list)
        (all_aside pairs fine piece list rising known);
    second =
        together (Known pairs) (λ l. AllByRecursion (λ (e : Entry). pointwise nat_eq e.path l.path ≡ false) (treated (small_of piece list)))
        (λ l. is_target_of pairs (treated (small_of piece list)) (target_of pairs l.path) ≡ false) (large_of piece list)
        (λ l k off. aside pairs fine l k (treated (small_of piece list)) small_known
        (weaker (λ (e : Entry). pointwise nat_eq e.path l.path ≡ false) (λ (e : Entry). pointwise nat_eq l.path e.path ≡ false) (treated (small_of piece list))
        (λ e o. turned_off e.path l.path o) off)) large_known
        (turned (λ (l e : Entry). pointwise nat_eq e.path l.path ≡ false) (large_of piece list) (treated (small_of piece list))
        (treated_all (λ e. AllByRecursion (λ l. pointwise nat_eq e.path l.path ≡ false) (large_of piece list)) (small_of piece list)
        (other_paths piece list rising)));
    sources = no_source;
  }

  small_but : (before mid : Files) → SameButTargets pairs (small_of piece list) before mid → SameButFor pairs (treated (small_of piece list)) before mid
  small_but before mid h q off = h q (same_test (small_of piece list) q ∙ off)

  -- once the small ones are copied, the large ones can be made

  module _ (law : UnderDirectories) (before mid : Files) (tree : IsTree before) (fits : FitsTree list pairs before) (srows : List Row)
      (same : map (λ row. row.0) srows ≡ paths (treated (small_of piece list))) (copied : Copied (small_of piece list) pairs srows before mid)
      (failed : List (List ℕ)) (are : AreFailed pairs srows failed) where
    told_all : AllByRecursion (IsTold before) list
    told_all = recursion_from_All (IsTold before) list fits.told

    -- what is known of a small entry with a stat
    abbrev Settled : Entry → Type 0
    Settled p = (is_some p.stat ≡ true) × Known pairs p × IsTold before p

    stats : (es : List Entry) → AllByRecursion (λ (p : Entry). is_some p.stat ≡ true) (treated es)
    stats [] = tt
    stats (e ∷ es) =
        let more = stats es in
        elim (is_some e.stat) as (λ b. is_some e.stat ≡ b →
        AllByRecursion (λ (p : Entry). is_some p.stat ≡ true) (cond b (e ∷ treated es) (treated es)))
        [ true ↦ λ s. (s, more) | false ↦ λ s. more ] refl

    settled : AllByRecursion Settled (treated (small_of piece list))
    settled =
        together (λ (p : Entry). is_some p.stat ≡ true) (λ p. Known pairs p × IsTold before p) Settled (treated (small_of piece list))
        (λ p s k. (s, k.0, k.1))
        (stats (small_of piece list))
        (together (Known pairs) (IsTold before) (λ p. Known pairs p × IsTold before p) (treated (small_of piece list)) (λ p k t. (k, t)) small_known
        (treated_all (IsTold before) (small_of piece list) (small_all (IsTold before) piece list told_all)))

    abbrev Stands : Entry → Type 0
    Stands e = is_target pairs list (parent_of (target_of pairs e.path)) ≡ false → is_dir (get before (parent_of (target_of pairs e.path))) ≡ true

    -- what is known of a large one
    record Ready (l : Entry) : Type 0 where
      known : Known pairs l
      exceed : exceeds piece l ≡ true
      told : IsTold before l
      free : Free pairs (large_of piece list) l
      stand : Stands l
      off : is_target_of pairs (treated (small_of piece list)) l.path ≡ false

    has_stat_of : (l : Entry) → exceeds piece l ≡ true → is_some l.stat ≡ true
    has_stat_of l x = by l.stat (is_file_of piece l x)
      where
        by : (s : Option Stat) → is_of kind.File s ≡ true → is_some s ≡ true
        by None h = absurd (false≢true h)
        by (Some s) h = refl

    parent_stands : (l : Entry) → Ready l → nat_le (length (target_of pairs l.path)) 4095 ≡ true →
        has_path failed (parent_of (target_of pairs l.path)) ≡ false →
        nat_le (length (parent_of (target_of pairs l.path))) 4095 ≡ true → is_dir (get mid (parent_of (target_of pairs l.path))) ≡ true
    parent_stands l r short off up =
        elim (is_target_of pairs (treated (small_of piece list)) (parent_of (target_of pairs l.path))) as (λ b.
        is_target_of pairs (treated (small_of piece list)) (parent_of (target_of pairs l.path)) ≡ b →
        is_dir (get mid (parent_of (target_of pairs l.path))) ≡ true) [
          | true ↦ λ there. parent_done parent_moves_too parent_is_over pairs fine before mid srows (record { law = law; tree = tree }) l r.known
              (has_stat_of l r.exceed) r.told (treated (small_of piece list)) srows same settled
              (recursion_from_All (λ (one : Told). IsCopied before mid pairs srows one.0 one.1.1) (zip (treated (small_of piece list)) srows) copied.each) there
              (sym (are (parent_of (target_of pairs l.path)) up) ∙ off)
          | false ↦ λ there. ap is_dir (small_but before mid copied.others (parent_of (target_of pairs l.path)) there)
              ∙ r.stand (target_in_parts pairs piece list (parent_of (target_of pairs l.path))
              ∙ (λ i. (same_test (small_of piece list) (parent_of (target_of pairs l.path)) ∙ there) i || r.free i))
        ] refl

    large_ready : AllByRecursion Ready (large_of piece list)
    large_ready =
        let own = together (Known pairs) (λ l. exceeds piece l ≡ true) (λ l. Known pairs l × (exceeds piece l ≡ true)) (large_of piece list)
        (λ l k x. (k, x)) large_known large_exceed in
        let told = together (IsTold before) (Free pairs (large_of piece list)) (λ l. IsTold before l × Free pairs (large_of piece list) l) (large_of piece list)
        (λ l t f. (t, f)) (large_all (IsTold before) piece list told_all) large_free in
        let stand = together Stands (λ l. is_target_of pairs (treated (small_of piece list)) l.path ≡ false)
        (λ l. Stands l × (is_target_of pairs (treated (small_of piece list)) l.path ≡ false)) (large_of piece list) (λ l s o. (s, o))
        (treated_large Stands piece list (recursion_from_All Stands (treated list) fits.stand)) no_source in
        together (λ l. Known pairs l × (exceeds piece l ≡ true)) (λ l. (IsTold before l × Free pairs (large_of piece list) l) × Stands l
        × (is_target_of pairs (treated (small_of piece list)) l.path ≡ false)) Ready (large_of piece list)
        (λ l k t. record { known = k.0; exceed = k.1; told = t.0.0; free = t.0.1; stand = t.1; off = t.2 }) own
        (together (λ l. IsTold before l × Free pairs (large_of piece list) l)
        (λ l. Stands l × (is_target_of pairs (treated (small_of piece list)) l.path ≡ false))
        (λ l. (IsTold before l × Free pairs (large_of piece list) l) × Stands l × (is_target_of pairs (treated (small_of piece list)) l.path ≡ false))
        (large_of piece list) (λ l t s. (t, s.0, s.1)) told stand)

    make_one : (l : Entry) → Ready l → CanMake pairs failed l mid
    make_one l r =
        let there = source_of before l (is_file_of piece l r.exceed) r.told in
        let same = small_but before mid copied.others l.path r.off in
        record {
          source = record {
            is_file = ap is_file same ∙ there.is_file;
            size_is = ap (λ node. length (content node)) same ∙ there.size_is;
          };
          stand = λ short valid off.
              let t = target_of pairs l.path in
              let longer = under_longer t (parent_of t) (parent_under t valid (no_root pairs fine l.path r.known.0 r.known.1)) in
              parent_stands l r short off (less_too (length (parent_of t)) (length t) (omega (arith, longer)) short);
        }

    all_make : AllByRecursion (λ l. CanMake pairs failed l mid) (large_of piece list)
    all_make = weaker Ready (λ l. CanMake pairs failed l mid) (large_of piece list) make_one large_ready

  pub makes : UnderDirectories → (t t1 : Option Files) → IfSome t IsTree → IfSome t (FitsTree list pairs) → (srows : List Row) →
      map (λ row. row.0) srows ≡ paths (treated (small_of piece list)) → is_some t1 ≡ is_some t →
      IfSome t (λ before. IfSome t1 (Copied (small_of piece list) pairs srows before)) →
      (failed : List (List ℕ)) → AreFailed pairs srows failed → IfSome t1 (λ files. AllByRecursion (λ l. CanMake pairs failed l files) (large_of piece list))
  makes law None None tree fits srows same s copied failed are = tt
  makes law None (Some mid) tree fits srows same s copied failed are = absurd (false≢true (sym s))
  makes law (Some before) None tree fits srows same s copied failed are = tt
  makes law (Some before) (Some mid) tree fits srows same s copied failed are = all_make law before mid tree fits srows same copied failed are

  -- every path but the targets is as before, after the first part and after both

  pub rest_small : (t t1 : Option Files) → IfSome t (λ before. IfSome t1 (SameButTargets pairs (small_of piece list) before)) →
      IfSome t (λ before. IfSome t1 (SameButTargets pairs list before))
  rest_small t t1 = mapped (SameButTargets pairs (small_of piece list)) (SameButTargets pairs list) t t1
      (λ a b h q off. h q (or_parts (is_target pairs (small_of piece list) q) (is_target_of pairs (large_of piece list) q)
      (sym (target_in_parts pairs piece list q) ∙ off)).0)

  both_but : (a b c : Files) → SameButTargets pairs (small_of piece list) a b → SameButFor pairs (large_of piece list) b c → SameButTargets pairs list a c
  both_but a b c h i q off =
      let parts = or_parts (is_target pairs (small_of piece list) q) (is_target_of pairs (large_of piece list) q)
      (sym (target_in_parts pairs piece list q) ∙ off) in
      i q parts.1 ∙ h q parts.0

  pub rest_both : (t t1 t2 : Option Files) → is_some t1 ≡ is_some t → IfSome t (λ a. IfSome t1 (SameButTargets pairs (small_of piece list) a)) →
      IfSome t1 (λ b. IfSome t2 (SameButFor pairs (large_of piece list) b)) → IfSome t (λ a. IfSome t2 (SameButTargets pairs list a))
  rest_both t t1 t2 s =
      both_told (SameButTargets pairs (small_of piece list)) (SameButFor pairs (large_of piece list)) (SameButTargets pairs list) t t1 t2 s both_but

  -- what is so of all entries, by the rows of both parts

  module _ (srows lrows : List Row) (same : map (λ row. row.0) srows ≡ paths (treated (small_of piece list)))
      (early_s : AreEarly (small_of piece list) pairs srows) (early_l : AreRows (IsEarly pairs srows) (large_of piece list) lrows) where
    pub small_early : AreRows (IsEarly pairs srows) (treated (small_of piece list)) srows
    small_early = told_rows (IsEarly pairs srows) (treated (small_of piece list)) srows same
        (recursion_from_All (λ (one : Told). IsEarly pairs srows one.0 one.1.1) (zip (treated (small_of piece list)) srows) early_s)

    all_free : AllByRecursion (Free pairs (large_of piece list)) (treated list)
    all_free = treated_all (Free pairs (large_of piece list)) list free

    -- no large file is the parent of an entry, so the small ones alone tell whether a parent failed
    early_same : (e : Entry) → Free pairs (large_of piece list) e → early pairs (merged (marks_of piece list) srows lrows) e ≡ early pairs srows e
    early_same e off =
        ap (λ b. early_by (nat_lt 4095 (length (target_of pairs e.path))) b (is_of kind.Other e.stat))
        (merged_failed pairs (parent_of (target_of pairs e.path)) (IsEarly pairs srows) piece list srows lrows small_early early_l off)

    pub rows_early : AreRows (IsEarly pairs (merged (marks_of piece list) srows lrows)) (treated list) (merged (marks_of piece list) srows lrows)
    rows_early = rows_with (Free pairs (large_of piece list)) (IsEarly pairs srows) (IsEarly pairs (merged (marks_of piece list) srows lrows)) (treated list)
        (merged (marks_of piece list) srows lrows)
        (λ e f off h. subst (λ o. (o ≡ Some f) ⊎ ((o ≡ None) × (is_tried f ≡ true) × ((is_untold e && is_done f) ≡ false))) (sym (early_same e off)) h)
        all_free (merged_rows (IsEarly pairs srows) piece list srows lrows small_early early_l)

    both_told_copied : (before mid after : Files) → Copied (small_of piece list) pairs srows before mid →
        AreRows (IsCopied mid after pairs srows) (large_of piece list) lrows → SameButFor pairs (large_of piece list) mid after →
        Copied list pairs (merged (marks_of piece list) srows lrows) before after
    both_told_copied before mid after c each others =
        let both = both_copied pairs srows (treated (small_of piece list)) (large_of piece list) srows lrows before mid after parts_apart
        (record {
          others = small_but before mid c.others;
          each = told_rows (IsCopied before mid pairs srows) (treated (small_of piece list)) srows same
              (recursion_from_All (λ (one : Told). IsCopied before mid pairs srows one.0 one.1.1) (zip (treated (small_of piece list)) srows) c.each);
        }) (record { others = others; each = each }) in
        record {
          others = both_but before mid after c.others others;
          each = rows_told (IsCopied before after pairs (merged (marks_of piece list) srows lrows)) (treated list) (merged (marks_of piece list) srows lrows)
              (rows_with (Free pairs (large_of piece list)) (IsCopied before after pairs srows)
              (IsCopied before after pairs (merged (marks_of piece list) srows lrows)) (treated list) (merged (marks_of piece list) srows lrows)
              (λ e f off h. copied_by pairs srows (merged (marks_of piece list) srows lrows) before after e f (early_same e off) h) all_free
              (merged_rows (IsCopied before after pairs srows) piece list srows lrows both.first both.second));
        }

    pub copied_told : (t t1 t2 : Option Files) → is_some t1 ≡ is_some t → IfSome t (λ a. IfSome t1 (Copied (small_of piece list) pairs srows a)) →
        IfSome t1 (λ b. IfSome t2 (λ c. AreRows (IsCopied b c pairs srows) (large_of piece list) lrows)) →
        IfSome t1 (λ b. IfSome t2 (SameButFor pairs (large_of piece list) b)) →
        IfSome t (λ a. IfSome t2 (Copied list pairs (merged (marks_of piece list) srows lrows) a))
    copied_told None t1 t2 s c each others = tt
    copied_told (Some a) None t2 s c each others = absurd (false≢true s)
    copied_told (Some a) (Some b) None s c each others = tt
    copied_told (Some a) (Some b) (Some d) s c each others = both_told_copied a b d c each others
