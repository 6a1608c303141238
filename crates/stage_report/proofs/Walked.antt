-- What the walk of a stage comes to.
use Rattle.stage_report.proofs.Prelude.{◌≡◌, ℕ, ◌<◌, ◌≤◌, ◌-◌, ◌^◌, true, List, [], ◌∷◌, ◌++◌, length, map, min, refl, ap, ◌∙◌, sym, subst, arith, inl, inr}
use Rattle.stage_report.proofs.Prelude.{Option, Some, Any, length-append, sum_by, Vec, Global, get_or_append_left, get_or-map, length-map, Files, Entry}
use Rattle.stage_report.proofs.Prelude.{all_left, Common, WalkReport, paths_of, is_in_some, max_entries, IsFound, IsCutFound, IfCut, found_in, IsProgressTo}
use Rattle.stage_report.proofs.Prelude.{Stage, all_of, IsStoppable, list_in, IsBeside, IsStage, IsStageOf, IsWritable, StopsWalk}
use Rattle.std.proofs.Common.{All}
use Rattle.tree_walk.specs.declared.reports.Walked.TheVariants as walked
use Rattle.run_report.specs.declared.stops.Stop.TheVariants as stop
use Rattle.stage_report.specs.declared.walking.Stage.TheVariants as stage
use Rattle.stage_report.proofs.Joins.{joined_writable}

-- ---- a stage that walks

-- what it walks from, over files that may tell a tree and whose count of faults went from old to new
pub record Setting : Type 0 where
  pub common : Common
  pub tree : Option Files
  pub done : List Entry
  pub starts : List (List ℕ)
  pub old : ℕ
  pub new : ℕ

abbrev pub setting : Common → Option Files → List Entry → List (List ℕ) → ℕ → ℕ → Setting
setting common tree done starts old new = record { common = common; tree = tree; done = done; starts = starts; old = old; new = new }

abbrev pub StageIn : Setting → Option ℕ → Stage → Type 0
StageIn s limit stage = IsStage limit s.common s.tree s.done s.starts s.old s.new stage

-- more than a list may have
pub too_long : (s : Setting) (limit : Option ℕ) (stage : Stage) → StageIn s limit stage → max_entries < length (list_in stage) →
    StopsWalk limit s.common s.tree s.done s.starts s.old s.new stop.TooMany
too_long s limit (stage.Finished list account) is above = inr (refl, inr (list, above, inl (account, is)))
too_long s limit (stage.Cut handled list left) is above = inr (refl, inr (list, above, inr (handled, map (λ strings. strings.items) left.items, is)))

-- ---- it can be written

front_within : (starts : List (List ℕ)) (later : List Entry) (left : List (List ℕ)) → All (λ path. is_in_some starts path ≡ true) (paths_of later ++ left) →
    All (λ e. is_in_some starts e.path ≡ true) later
front_within starts later left all k d h =
    let inside : k < length (paths_of later) = omega (arith, h, length-map later (λ (e : Entry). e.path)) in
    let at = all k d.path (omega (arith, inside, length-append (paths_of later) left)) in
    sym (ap (is_in_some starts) (get_or_append_left (paths_of later) left d.path k inside ∙ get_or-map (λ (e : Entry). e.path) later k d d.path h)) ∙ at

pub writable : (s : Setting) (limit : Option ℕ) (stage : Stage) → IsWritable s.done → IsBeside s.done s.starts → StageIn s limit stage →
    IsWritable (list_in stage)
writable s limit (stage.Finished list account) can beside is =
    let found = is.walked in
    joined_writable s.done is.later list s.starts can (record { ascend = found.ascend; shaped = found.shaped }) beside found.within is.joined
writable s limit (stage.Cut handled list left) can beside is =
    let cut = is.cut in
    joined_writable s.done is.later list s.starts can (record { ascend = cut.ascend; shaped = cut.shaped }) beside
    (front_within s.starts is.later (all_of (map (λ strings. strings.items) left.items)) cut.within) is.joined

-- ---- a stage that may stop

-- what its walk gives
pub record IsReport (s : Setting) (most : ℕ) (report : WalkReport) : Type 0 where
  pub found : report.walked ≡ walked.Whole → IsFound s.tree s.starts s.old s.new report.list
  pub cut : IfCut report.walked (λ cut. IsCutFound s.tree s.starts s.old s.new cut.done (all_left cut.left.items))
  pub lists : IfCut report.walked (λ cut. length cut.left.items ≡ s.common.ranks)
  pub some_left : IfCut report.walked (λ cut. 0 < length (all_left cut.left.items))
  pub reached : IfCut report.walked (λ cut. Any (λ s. s.handled ≡ most) report.shares.items)
  pub bound : All (λ s. s.handled ≤ most) report.shares.items
  pub shares : sum_by (λ s. s.handled) report.shares.items ≡ length (found_in report.walked report.list)
  pub by_rank : length report.shares.items ≡ s.common.ranks
  pub moved : min (sum_by (λ s. s.given) report.shares.items) (2 ^ 128 - 1) ≡ min (sum_by (λ s. s.taken) report.shares.items) (2 ^ 128 - 1)
  pub untraced : report.events.items ≡ []
  pub progress : IsProgressTo (length (found_in report.walked report.list)) s.common.ranks report.sums.items

all_is : (lists : List (Vec (List ℕ) Global)) → all_left lists ≡ all_of (map (λ list. list.items) lists)
all_is [] = refl
all_is (list ∷ lists) = λ i. list.items ++ all_is lists i

stoppable : (s : Setting) (most : ℕ) (report : WalkReport) → IsReport s most report → report.walked ≡ walked.Whole →
    IsStoppable s.common most report.list (record { events = report.events; shares = report.shares; sums = report.sums })
stoppable s most report r whole =
    let list = ap (λ w. found_in w report.list) whole in
    record {
      untraced = r.untraced;
      by_rank = r.by_rank;
      handled = r.shares ∙ ap length list;
      bound = r.bound;
      moved = r.moved;
      progress = subst (λ es. IsProgressTo (length es) s.common.ranks report.sums.items) list r.progress;
    }

pub stage_is : (s : Setting) (most : ℕ) (report : WalkReport) (stage : Stage) → IsReport s most report → IsStageOf s.done report stage →
    StageIn s (Some most) stage
stage_is s most report (stage.Finished list account) r of = record {
  later = report.list;
  walked = r.found of.0;
  joined = of.1;
  told = subst (IsStoppable s.common most report.list) (sym of.2) (stoppable s most report r of.0);
}
stage_is s most report (stage.Cut handled list left) r of =
    let cut = of.0 in
    let is = of.1 in
    let same = ap (λ v. v.items) of.4 in
    let strings = all_is cut.left.items ∙ ap (λ lists. all_of (map (λ list. list.items) lists)) (sym same) in
    record {
      later = cut.done;
      cut = subst (IsCutFound s.tree s.starts s.old s.new cut.done) strings
          (subst (λ w. IfCut w (λ cut. IsCutFound s.tree s.starts s.old s.new cut.done (all_left cut.left.items))) is r.cut);
      joined = of.3;
      number = of.2;
      ranks = length-map left.items (λ list. list.items) ∙ ap length same ∙ subst (λ w. IfCut w (λ cut. length cut.left.items ≡ s.common.ranks)) is r.lists;
      some_left = subst (λ strings. 0 < length strings) strings (subst (λ w. IfCut w (λ cut. 0 < length (all_left cut.left.items))) is r.some_left);
      most = most;
      is_most = refl;
      shares = report.shares.items;
      by_rank = r.by_rank;
      each = r.shares ∙ ap (λ w. length (found_in w report.list)) is ∙ sym of.2;
      reached = subst (λ w. IfCut w (λ cut. Any (λ s. s.handled ≡ most) report.shares.items)) is r.reached;
      bound = r.bound;
    }
