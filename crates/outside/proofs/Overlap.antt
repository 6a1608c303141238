-- Two leases at once.
use Rattle.outside.proofs.Prelude.{◌≡◌, ℕ, Bool, true, false, cond, not, List, None, refl, ap, ◌∙◌, sym, false≢true, get, same_map, path_cmp_total}
use Rattle.outside.proofs.Prelude.{path_cmp_same, Files, in_tops, leased, kept, laid, get_laid, LeasesOverlap}
use Rattle.outside.proofs.Leased.{get_rest, get_part}

pub leases_overlap : LeasesOverlap
leases_overlap one two own own' files next last apart first second = record {
  mid = mid;
  first = get_laid one own (kept one files);
  second = λ q. second q ∙ by_second q (in_tops two q) refl;
  same_part = same_map path_cmp_total path_cmp_same (leased two mid) (leased two (kept one files))
      (λ q. get_part two mid q ∙ by_part q (in_tops two q) refl ∙ sym (get_part two (kept one files) q));
}
  where
    mid : Files
    mid = laid one own (kept one files)

    -- outside the second tops both are what the first return made
    by_second : (q : List ℕ) (b : Bool) → in_tops two q ≡ b
        → cond b (get own' q) (get next q) ≡ cond b (get own' q) (get (kept two (laid one own (kept one files))) q)
    by_second q true on = refl
    by_second q false off =
        first q
        ∙ ap (λ o. cond (in_tops one q) (get own q) o) (get_rest two (kept one files) q ∙ ap (λ b. cond (not b) (get (kept one files) q) None) off)
        ∙ sym (get_rest two (laid one own (kept one files)) q ∙ ap (λ b. cond (not b) (get (laid one own (kept one files)) q) None) off
        ∙ get_laid one own (kept one files) q)

    by_part : (q : List ℕ) (b : Bool) → in_tops two q ≡ b → cond b (get (laid one own (kept one files)) q) None ≡ cond b (get (kept one files) q) None
    by_part q false off = refl
    by_part q true on = get_laid one own (kept one files) q ∙ by_first (in_tops one q) refl
      where
        by_first : (b : Bool) → in_tops one q ≡ b → cond b (get own q) (get (kept one files) q) ≡ get (kept one files) q
        by_first false off = refl
        by_first true is = absurd (false≢true (sym (apart q is) ∙ on))
