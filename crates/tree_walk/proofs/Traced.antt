-- What the events and the numbers of progress of a run tell of the walk.
use Rattle.tree_walk.proofs.Prelude.{◌≡◌, ℕ, true, cond, ◌^◌, ◌<◌, List, [], ◌∷◌, ◌++◌, map, length, refl, ap, ◌∙◌, sym, subst, arith, Option, Some, None}
use Rattle.tree_walk.proofs.Prelude.{IfSome, AllByRecursion, All, sum_by, flat_map, IsPermutation, IsPermutation-map, sum_by-cons, sum-map, flat_map-map}
use Rattle.tree_walk.proofs.Prelude.{All-from_recursion, length-map, Files, Event, Entry, Log, IsTraced, WasRun, IsProgress, Share, Options, answers_in}
use Rattle.tree_walk.proofs.Prelude.{answer_in, children_of, paths_of, Held, IsDone, log_of, entries_of, whole_log, IsTracedWalk, WasWalked, IsProgressTo}
use Rattle.tree_walk.proofs.AnyOrder.{tells_each}
use Rattle.tree_walk.proofs.Once.{list_rises}
use Rattle.tree_walk.proofs.Ranks.{IsRun, all_logs, all_done, all_handled}

abbrev pub logs_of : {R : Type 0} → List (R × List Held) → List Log
logs_of jobs = map (λ job. log_of job.1) jobs

log_is : {R : Type 0} (jobs : List (R × List Held)) → whole_log (logs_of jobs) ≡ log_of (flat_map (λ job. job.1) jobs)
log_is {R = R} jobs = flat_map-map (λ (log : Log). log) (λ (job : R × List Held). log_of job.1) jobs ∙ all_logs jobs

paths_held : (ds : List Held) → map (λ x. x.0) (log_of ds) ≡ paths_of (entries_of ds)
paths_held [] = refl
paths_held (d ∷ ds) = ap (λ r. d.0.path ∷ r) (paths_held ds)

pushes : (files : Files) (list : List Entry) (ds : List Held) → AllByRecursion (IsDone files) ds →
    AllByRecursion (λ d. answers_in list d.0.path ≡ answer_in d.0) ds →
    AllByRecursion (λ x. x.1 ≡ children_of (answers_in list x.0) files x.0) (log_of ds)
pushes files list [] h t = tt
pushes files list (d ∷ ds) h t = (h.0.children ∙ ap (λ a. children_of a files d.0.path) (sym t.0), pushes files list ds h.1 t.1)

-- the ranks handled the paths of the list
handled_paths : {R : Type 0} (jobs : List (R × List Held)) (list : List Entry) → IsPermutation (entries_of (flat_map (λ j. j.1) jobs)) list →
    IsPermutation (map (λ x. x.0) (whole_log (logs_of jobs))) (paths_of list)
handled_paths {R = R} jobs list moves =
    let ds = flat_map (λ (j : R × List Held). j.1) jobs in
    subst (λ log. IsPermutation (map (λ x. x.0) log) (paths_of list)) (sym (log_is jobs))
    (subst (λ paths. IsPermutation paths (paths_of list)) (sym (paths_held ds)) (IsPermutation-map (λ (e : Entry). e.path) (entries_of ds) list moves))

-- and pushed what the recursive walk goes on with
pushed_children : {R : Type 0} (tree : R → Option Files) (count : R → ℕ) (files : Files) (jobs : List (R × List Held)) (list : List Entry)
    (starts : List (List ℕ)) → IsRun tree count (Some files) jobs list [] starts →
    All (λ x. x.1 ≡ children_of (answers_in list x.0) files x.0) (whole_log (logs_of jobs))
pushed_children {R = R} tree count files jobs list starts run =
    let ds = flat_map (λ (j : R × List Held). j.1) jobs in
    let P : List ℕ × List (List ℕ) → Type 0 = λ x. x.1 ≡ children_of (answers_in list x.0) files x.0 in
    let told = tells_each ds list run.gathered.moves (list_rises ds list [] starts run.gathered) in
    subst (All P) (sym (log_is jobs)) (All-from_recursion P (log_of ds) (pushes files list ds (all_done tree count files jobs list [] starts run) told))

pushed_where : {R : Type 0} (tree : R → Option Files) (count : R → ℕ) (told : Option Files) (jobs : List (R × List Held)) (list : List Entry)
    (starts : List (List ℕ)) → IsRun tree count told jobs list [] starts →
    IfSome told (λ files. All (λ x. x.1 ≡ children_of (answers_in list x.0) files x.0) (whole_log (logs_of jobs)))
pushed_where tree count None jobs list starts run = tt
pushed_where tree count (Some files) jobs list starts run = pushed_children tree count files jobs list starts run

-- the whole run that the ranks made is the walk
pub was_walked : {R : Type 0} (tree : R → Option Files) (count : R → ℕ) (told : Option Files) (jobs : List (R × List Held)) (list : List Entry)
    (starts : List (List ℕ)) (o : Options) (shares : List Share) (kept : List Event) → IsRun tree count told jobs list [] starts →
    WasRun o starts (logs_of jobs) shares kept → WasWalked told o starts list shares kept
was_walked tree count told jobs list starts o shares kept run was = record {
  events = was.events;
  logs = logs_of jobs;
  traced = was.traced;
  handled = handled_paths jobs list run.gathered.moves;
  pushed = pushed_where tree count told jobs list starts run;
  counts = was.counts;
  told = was.kept;
}

-- and with a trace its events are there
pub traced : (told : Option Files) (o : Options) (starts : List (List ℕ)) (list : List Entry) (shares : List Share) (kept : List Event) →
    WasWalked told o starts list shares kept → o.trace ≡ true → IfSome told (λ files. IsTracedWalk files o starts list kept)
traced None o starts list shares kept was on = tt
traced (Some files) o starts list shares kept was on = record {
  logs = was.logs;
  traced = subst (IsTraced o starts was.logs) (sym (was.told ∙ ap (λ b. cond b was.events []) on)) was.traced;
  handled = was.handled;
  pushed = was.pushed;
}

few_each : {X : Type 0} (f : X → ℕ) (xs : List X) → sum_by f xs < 2 ^ 56 → AllByRecursion (λ k. k < 2 ^ 56) (map f xs)
few_each f [] h = tt
few_each f (x ∷ xs) h = let parts = sum_by-cons f x xs in (omega (arith, h, parts), few_each f xs (omega (arith, h, parts)))

pub progress : {R : Type 0} (jobs : List (R × List Held)) (all list : List Entry) (ranks : ℕ) (numbers : List ℕ) →
    IsProgress (map (λ j. length (log_of j.1)) jobs) numbers → length jobs ≡ ranks →
    all ≡ entries_of (flat_map (λ job. job.1) jobs) → IsPermutation all list → length list < 2 ^ 56 → IsProgressTo (length list) ranks numbers
progress {R = R} jobs all list ranks numbers g n logs p few =
    let of = λ (j : R × List Held). length (log_of j.1) in
    let handled = all_handled jobs all list logs p in
    let final : g.final ≡ length list =
    g.total (All-from_recursion (λ k. k < 2 ^ 56) (map of jobs) (few_each of jobs (omega (arith, handled, few)))) ∙ sum-map of jobs ∙ handled in
    record {
      front = g.front;
      are = g.are ∙ ap (λ k. g.front ++ k ∷ []) final;
      rises = g.rises;
      within = omega (arith, g.within, final);
      alone = λ one.
          let some = g.alone (length-map jobs of ∙ n ∙ one) in
          (some.0, omega (arith, some.1, final));
    }
