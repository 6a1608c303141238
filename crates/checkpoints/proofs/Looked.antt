-- The pass over the left strings in path order.
use Rattle.checkpoints.proofs.Prelude.{◌≡◌, ℕ, ◌+◌, ◌<◌, ◌≤◌, ◌||◌, List, [], ◌∷◌, ◌++◌, length, take, drop, get_or, suc, ap, ◌∙◌, sym, subst, arith, Option}
use Rattle.checkpoints.proofs.Prelude.{nat_lt, list_any, count_by, IsSortedByKey, is_lt, split_at, drop-map, map-append, get_or_default, sorted_far, ranks_by}
use Rattle.checkpoints.proofs.Prelude.{path_cmp, path_cmp_total, Entry, is_in, clashes, is_misplaced, Behind, covered, top_with, IsTop, IsBelow, ArePassed}
use Rattle.checkpoints.proofs.Prelude.{starts_at, Numbered, paths_in, lowest_with, IsLowest, all_weaker}
use Rattle.checkpoints.proofs.Tops.{top_push, less_after}
use Rattle.checkpoints.proofs.Counting.{Rises, rises, rises_before, again_is}
use Rattle.checkpoints.proofs.Lowest.{lowest_push}
use Rattle.checkpoints.proofs.Numbers.{IsAt, take_push}

-- how far the pass has come: so many left strings were looked at, and this is known of them and of the entries
pub record State : Type 0 where
  pub at : ℕ
  pub ahead : List Entry × List Entry
  pub closed : Option (List ℕ)
  pub above : Option (List ℕ)
  pub lowest : Option ℕ

pub record Stands (done : List Entry) (lefts : Numbered) (s : State) : Type 0 where
  pub all : s.ahead.0 ++ s.ahead.1 ≡ done
  -- the entries that were passed come before all that is still to be looked at
  pub passed : (k : ℕ) (d : ℕ × List ℕ) → s.at ≤ k → k < length lefts → ArePassed s.ahead.0 s.closed (get_or lefts k d).1
  pub top : IsTop (paths_in (take s.at lefts)) s.above
  pub low : IsLowest (is_misplaced done (paths_in lefts)) (take s.at lefts) s.lowest

-- the next left string, up to which the entries were passed
pub record IsLook (lefts : Numbered) (s : State) (l : ℕ × List ℕ) (ahead : List Entry × List Entry) (closed : Option (List ℕ)) : Type 0 where
  pub sorted : IsSortedByKey (λ q. q.1) path_cmp lefts
  pub here : IsAt lefts s.at l
  pub same : ahead.0 ++ ahead.1 ≡ s.ahead.0 ++ s.ahead.1
  pub passed : ArePassed ahead.0 closed l.1

later_passed : (passed : List Entry) (closed : Option (List ℕ)) (x y : List ℕ) → Behind x y → ArePassed passed closed x → ArePassed passed closed y
later_passed passed closed x y n p = record {
  top = p.top;
  below = all_weaker (IsBelow x) (IsBelow y) (λ e b. (less_after e.path x y b.0 n, b.1)) passed p.below;
}

cut : (lefts : Numbered) (at : ℕ) (l : ℕ × List ℕ) → IsAt lefts at l → paths_in lefts ≡ paths_in (take at lefts) ++ l.1 ∷ drop (at + 1) (paths_in lefts)
cut lefts at l here =
    let next : suc at ≡ at + 1 = omega arith in
    ap paths_in (split_at lefts at l here.inside ∙ (λ i. take at lefts ++ sym here.is i ∷ drop (next i) lefts))
    ∙ map-append (λ (q : ℕ × List ℕ). q.1) (take at lefts) (l ∷ drop (at + 1) lefts)
    ∙ ap (λ (ps : List (List ℕ)). paths_in (take at lefts) ++ l.1 ∷ ps) (sym (drop-map (λ (q : ℕ × List ℕ). q.1) (at + 1) lefts))

parts_rise : (lefts : Numbered) (at : ℕ) (l : ℕ × List ℕ) → IsSortedByKey (λ q. q.1) path_cmp lefts → IsAt lefts at l →
    Rises (paths_in (take at lefts) ++ l.1 ∷ drop (at + 1) (paths_in lefts))
parts_rise lefts at l s here = subst Rises (cut lefts at l here) (rises lefts s)

later_behind : (lefts : Numbered) (at : ℕ) (l : ℕ × List ℕ) (k : ℕ) → IsSortedByKey (λ q. q.1) path_cmp lefts → IsAt lefts at l → at ≤ k → k < length lefts →
    Behind l.1 (get_or lefts k l).1
later_behind lefts at l k s here g h =
    subst (λ (q : ℕ × List ℕ). Behind q.1 (get_or lefts k l).1) (sym here.is)
    (sorted_far (λ a b. is_lt (path_cmp a.1 b.1)) (ranks_by path_cmp_total (λ (q : ℕ × List ℕ). q.1)) lefts s at k l g h)

-- the state behind it
abbrev pub after : List Entry → Numbered → State → ℕ × List ℕ → List Entry × List Entry → Option (List ℕ) → State
after done lefts s l ahead closed = record {
  at = s.at + 1;
  ahead = ahead;
  closed = closed;
  above = top_with s.above l.1;
  lowest = lowest_with (is_misplaced done (paths_in lefts) l.1) s.lowest l.0;
}

pub goes_on : (done : List Entry) (lefts : Numbered) (s : State) (l : ℕ × List ℕ) (ahead : List Entry × List Entry) (closed : Option (List ℕ)) →
    Stands done lefts s → IsLook lefts s l ahead closed → Stands done lefts (after done lefts s l ahead closed)
goes_on done lefts s l ahead closed i k =
    let more = sym (take_push lefts s.at l k.here) in
    let before = paths_in (take s.at lefts) in
    let test = is_misplaced done (paths_in lefts) in
    record {
      all = k.same ∙ i.all;
      passed = λ j d g h.
          subst (λ (q : ℕ × List ℕ). ArePassed ahead.0 closed q.1) (get_or_default lefts j l d h)
          (later_passed ahead.0 closed l.1 (get_or lefts j l).1 (later_behind lefts s.at l j k.sorted k.here (omega (arith, g)) h) k.passed);
      top = subst (λ (ls : Numbered). IsTop (paths_in ls) (top_with s.above l.1)) more
          (subst (λ (ps : List (List ℕ)). IsTop ps (top_with s.above l.1)) (sym (map-append (λ (q : ℕ × List ℕ). q.1) (take s.at lefts) (l ∷ [])))
          (top_push before s.above l.1 i.top (rises_before before l.1 (drop (s.at + 1) (paths_in lefts)) (parts_rise lefts s.at l k.sorted k.here))));
      low = subst (λ (ls : Numbered). IsLowest test ls (lowest_with (test l.1) s.lowest l.0)) more (lowest_push test (take s.at lefts) l s.lowest i.low);
    }

-- what the pass asks of a left string tells whether it is misplaced
pub misplaced_is : (done : List Entry) (lefts : Numbered) (s : State) (l : ℕ × List ℕ) (ahead : List Entry × List Entry) (closed : Option (List ℕ)) →
    Stands done lefts s → IsLook lefts s l ahead closed → 0 < length l.1 →
    (list_any (clashes l.1) (ahead.0 ++ ahead.1) || (covered s.above l.1 || starts_at l.1 (drop (s.at + 1) (paths_in lefts))))
    ≡ is_misplaced done (paths_in lefts) l.1
misplaced_is done lefts s l ahead closed i k some =
    let all = k.same ∙ i.all in
    let behind = drop (s.at + 1) (paths_in lefts) in
    let again = again_is (paths_in (take s.at lefts)) l.1 behind s.above (parts_rise lefts s.at l k.sorted k.here) i.top some
    ∙ ap (λ (ps : List (List ℕ)). nat_lt 1 (count_by (is_in l.1) ps)) (sym (cut lefts s.at l k.here)) in
    λ j. list_any (clashes l.1) (all j) || again j
