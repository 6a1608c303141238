-- What the jobs of all ranks hold together.
use Rattle.tree_walk.proofs.Prelude.{◌≡◌, ℕ, ◌+◌, ◌-◌, ◌^◌, ◌<◌, min, true, List, [], ◌∷◌, ◌++◌, map, length, refl, ap, ◌∙◌, sym, subst, arith, Option, Some}
use Rattle.tree_walk.proofs.Prelude.{None, IfSome, length-append, append-nil, AllByRecursion, sum_by, flat_map, IsPermutation, IsSortedByKey, path_cmp}
use Rattle.tree_walk.proofs.Prelude.{sum_by-IsPermutation, sum_by-cons, sum_by-append, flat_map-append, All-from_recursion, map-append, length-map, Files}
use Rattle.tree_walk.proofs.Prelude.{IsTree, RoseBy, capped, all_weaker, Entry, is_shaped, Balanced, Share, weight_of, is_in_some, Apart, Held, IsDone, IsPush}
use Rattle.tree_walk.proofs.Prelude.{Holds, log_of, entries_of, IsFound, IsWalkOf, IsCut, IsCutFound, sum_by-ones, sum_by-map}
use Rattle.tree_walk.proofs.Lists.{all_flat}
use Rattle.tree_walk.proofs.Once.{IsGathered, list_rises, list_within}
use Rattle.tree_walk.proofs.AnyOrder.{whole, valid_files, moved, to_entries}
use Rattle.tree_walk.proofs.Cuts.{is_cut, valid_done, gathered_beside, left_apart, done_beside, all_within}

pub all_logs : {R : Type 0} (jobs : List (R × List Held)) → flat_map (λ job. log_of job.1) jobs ≡ log_of (flat_map (λ job. job.1) jobs)
all_logs [] = refl
all_logs (j ∷ jobs) = (λ i. log_of j.1 ++ all_logs jobs i) ∙ sym (map-append (λ (d : Held). (d.0.path, d.1)) j.1 (flat_map (λ job. job.1) jobs))

pub same_plain : {R : Type 0} (tree : R → Option Files) (told : Option Files) (xs ys : List (R × List Held)) →
    map (λ j. tree j.0) ys ≡ map (λ j. tree j.0) xs → AllByRecursion (λ j. tree j.0 ≡ told) xs → AllByRecursion (λ j. tree j.0 ≡ told) ys
same_plain {R = R} tree told xs ys e h = back ys (subst (AllByRecursion (λ t. t ≡ told)) (sym e) (there xs h))
  where
    there : (xs : List (R × List Held)) → AllByRecursion (λ j. tree j.0 ≡ told) xs → AllByRecursion (λ t. t ≡ told) (map (λ j. tree j.0) xs)
    there [] h = tt
    there (x ∷ xs) h = (h.0, there xs h.1)

    back : (ys : List (R × List Held)) → AllByRecursion (λ t. t ≡ told) (map (λ j. tree j.0) ys) → AllByRecursion (λ j. tree j.0 ≡ told) ys
    back [] h = tt
    back (y ∷ ys) h = (h.0, back ys h.1)

-- what the jobs hold, over readers that all tell this tree or none, is gathered into the list
pub record IsRun {R : Type 0} (tree : R → Option Files) (count : R → ℕ) (told : Option Files) (jobs : List (R × List Held)) (list : List Entry)
    (left starts : List (List ℕ)) : Type 0 where
  pub tells : AllByRecursion (λ j. tree j.0 ≡ told) jobs
  pub holds : AllByRecursion (λ j. Holds (tree j.0) (count j.0) j.1) jobs
  pub gathered : IsGathered (flat_map (λ j. j.1) jobs) list left starts

each_done : {R : Type 0} (tree : R → Option Files) (count : R → ℕ) (files : Files) (jobs : List (R × List Held)) →
    AllByRecursion (λ j. tree j.0 ≡ Some files) jobs → AllByRecursion (λ j. Holds (tree j.0) (count j.0) j.1) jobs →
    AllByRecursion (λ j. AllByRecursion (IsDone files) j.1) jobs
each_done tree count files [] e h = tt
each_done tree count files (j ∷ jobs) e h = (
  subst (λ t. IfSome t (λ files. AllByRecursion (IsDone files) j.1)) e.0 h.0.done,
  each_done tree count files jobs e.1 h.1,
)

pub all_done : {R : Type 0} (tree : R → Option Files) (count : R → ℕ) (files : Files) (jobs : List (R × List Held)) (list : List Entry)
    (left starts : List (List ℕ)) → IsRun tree count (Some files) jobs list left starts → AllByRecursion (IsDone files) (flat_map (λ j. j.1) jobs)
all_done tree count files jobs list left starts run = all_flat (IsDone files) (λ j. j.1) jobs (each_done tree count files jobs run.tells run.holds)

-- what holds of what each job holds
part : {R : Type 0} (tree : R → Option Files) (count : R → ℕ) (P : Held → Type 0) (jobs : List (R × List Held)) →
    ((j : R × List Held) → Holds (tree j.0) (count j.0) j.1 → AllByRecursion P j.1) →
    AllByRecursion (λ j. Holds (tree j.0) (count j.0) j.1) jobs → AllByRecursion P (flat_map (λ j. j.1) jobs)
part tree count P jobs of h = all_flat P (λ j. j.1) jobs (all_weaker (λ j. Holds (tree j.0) (count j.0) j.1) (λ j. AllByRecursion P j.1) of jobs h)

pub all_pushes : {R : Type 0} (tree : R → Option Files) (count : R → ℕ) (jobs : List (R × List Held)) →
    AllByRecursion (λ j. Holds (tree j.0) (count j.0) j.1) jobs → AllByRecursion IsPush (flat_map (λ j. j.1) jobs)
all_pushes tree count jobs h = part tree count IsPush jobs (λ j k. k.pushes) h

pub all_balanced : {R : Type 0} (jobs : List (R × List Held)) (left starts : List (List ℕ)) → Balanced (flat_map (λ job. log_of job.1) jobs) left starts →
    Balanced (log_of (flat_map (λ j. j.1) jobs)) left starts
all_balanced jobs left starts b = subst (λ log. Balanced log left starts) (all_logs jobs) b

-- so it is with the jobs that a run gave back, their logs and the list of these
pub is_run : {R : Type 0} (tree : R → Option Files) (count : R → ℕ) (told : Option Files) (made jobs : List (R × List Held)) (logs list : List Entry)
    (left starts : List (List ℕ)) → AllByRecursion (λ j. tree j.0 ≡ told) made → map (λ j. tree j.0) jobs ≡ map (λ j. tree j.0) made →
    AllByRecursion (λ j. Holds (tree j.0) (count j.0) j.1) jobs → Apart starts → Balanced (flat_map (λ job. log_of job.1) jobs) left starts →
    logs ≡ entries_of (flat_map (λ j. j.1) jobs) → IsPermutation logs list → IsSortedByKey (λ e. e.path) path_cmp list →
    IsRun tree count told jobs list left starts
is_run tree count told made jobs logs list left starts tells plain holds apart balance is all sorted = record {
  tells = same_plain tree told made jobs plain tells;
  holds = holds;
  gathered = record {
    pushes = all_pushes tree count jobs holds;
    apart = apart;
    balance = all_balanced jobs left starts balance;
    moves = subst (λ es. IsPermutation es list) is all;
    sorted = sorted;
  };
}

-- what the files told, where they tell anything
told_walk : {R : Type 0} (tree : R → Option Files) (count : R → ℕ) (told : Option Files) (jobs : List (R × List Held)) (list : List Entry)
    (starts : List (List ℕ)) → IsRun tree count told jobs list [] starts →
    IfSome told (λ files. IsWalkOf files list starts) × (0 < length starts → IfSome told IsTree)
told_walk tree count None jobs list starts run = (tt, λ some. tt)
told_walk {R = R} tree count (Some files) jobs list starts run =
    let ds = flat_map (λ (j : R × List Held). j.1) jobs in
    let done = all_done tree count files jobs list [] starts run in
    ((λ ordered m o. whole files ds list starts ordered run.gathered done m o), valid_files files ds starts done run.gathered.balance)

-- the failed answers that the list tells were counted
weighed : (held list : List Entry) (a b c : ℕ) → IsPermutation held list → b ≡ a → RoseBy (sum_by weight_of held) b c → RoseBy (sum_by weight_of list) a c
weighed held list a b c p same r =
    record { kept = omega (arith, r.kept, same); rose = omega (arith, r.rose, same, sum_by-IsPermutation weight_of held list p) }

-- what each entry tells by itself
all_shaped : {R : Type 0} (tree : R → Option Files) (count : R → ℕ) (told : Option Files) (jobs : List (R × List Held)) (list : List Entry)
    (left starts : List (List ℕ)) → IsRun tree count told jobs list left starts → AllByRecursion (λ e. is_shaped e ≡ true) list
all_shaped {R = R} tree count told jobs list left starts run =
    let ds = flat_map (λ (j : R × List Held). j.1) jobs in
    let Shaped : Entry → Type 0 = λ e. is_shaped e ≡ true in
    let shaped = to_entries Shaped ds (part tree count (λ d. Shaped d.0) jobs (λ j k. k.shaped) run.holds) in
    moved Shaped (entries_of ds) list run.gathered.moves shaped

pub found : {R : Type 0} (tree : R → Option Files) (count : R → ℕ) (told : Option Files) (jobs : List (R × List Held)) (list : List Entry)
    (starts : List (List ℕ)) (old before after : ℕ) → IsRun tree count told jobs list [] starts → before ≡ old →
    RoseBy (sum_by weight_of (entries_of (flat_map (λ job. job.1) jobs))) before after → IsFound told starts old after list
found {R = R} tree count told jobs list starts old before after run same r =
    let ds = flat_map (λ (j : R × List Held). j.1) jobs in
    let files = told_walk tree count told jobs list starts run in
    record {
      told = files.0;
      valid = files.1;
      ascend = list_rises ds list [] starts run.gathered;
      within = All-from_recursion (λ (e : Entry). is_in_some starts e.path ≡ true) list (list_within ds list [] starts run.gathered);
      shaped = All-from_recursion (λ (e : Entry). is_shaped e ≡ true) list (all_shaped tree count told jobs list [] starts run);
      counted = weighed (entries_of ds) list old before after run.gathered.moves same r;
    }

-- ---- a cut

-- what is done and left of the recursive walk, where the files tell anything
told_cut : {R : Type 0} (tree : R → Option Files) (count : R → ℕ) (told : Option Files) (jobs : List (R × List Held)) (list : List Entry)
    (left starts : List (List ℕ)) → IsRun tree count told jobs list left starts →
    IfSome told (λ files. IsCut files starts list left) × (0 < length list → IfSome told IsTree)
told_cut tree count None jobs list left starts run = (tt, λ some. tt)
told_cut {R = R} tree count (Some files) jobs list left starts run =
    let ds = flat_map (λ (j : R × List Held). j.1) jobs in
    let done = all_done tree count files jobs list left starts run in
    (is_cut files ds list left starts done run.gathered, valid_done files ds list done run.gathered.moves)

pub cut_found : {R : Type 0} (tree : R → Option Files) (count : R → ℕ) (told : Option Files) (jobs : List (R × List Held)) (list : List Entry)
    (left starts : List (List ℕ)) (old before after : ℕ) → IsRun tree count told jobs list left starts → before ≡ old →
    RoseBy (sum_by weight_of (entries_of (flat_map (λ job. job.1) jobs))) before after → IsCutFound told starts old after list left
cut_found {R = R} tree count told jobs list left starts old before after run same r =
    let ds = flat_map (λ (j : R × List Held). j.1) jobs in
    let files = told_cut tree count told jobs list left starts run in
    let beside = gathered_beside ds list left starts run.gathered in
    record {
      told = files.0;
      valid = files.1;
      ascend = list_rises ds list left starts run.gathered;
      apart = left_apart list left beside;
      beside = done_beside list left beside;
      within = all_within ds list left starts run.gathered;
      shaped = All-from_recursion (λ (e : Entry). is_shaped e ≡ true) list (all_shaped tree count told jobs list left starts run);
      counted = weighed (entries_of ds) list old before after run.gathered.moves same r;
    }

-- ---- the shares

all_lengths : {R : Type 0} (jobs : List (R × List Held)) → sum_by (λ j. length (log_of j.1)) jobs ≡ length (flat_map (λ j. j.1) jobs)
all_lengths [] = refl
all_lengths {R = R} (j ∷ jobs) =
    let step : Held → List ℕ × List (List ℕ) = λ d. (d.0.path, d.1) in
    let parts = sum_by-cons (λ (j : R × List Held). length (log_of j.1)) j jobs in
    omega (arith, parts, all_lengths jobs, length-append j.1 (flat_map (λ j. j.1) jobs), length-map j.1 step)

-- numbers whose sum is below the cap are below it
none_capped : {X : Type 0} (f : X → ℕ) (xs : List X) → sum_by f xs < 2 ^ 64 → sum_by (λ x. min (f x) (2 ^ 64 - 1)) xs ≡ sum_by f xs
none_capped f [] h = refl
none_capped {X = X} f (x ∷ xs) h =
    let parts = sum_by-cons f x xs in
    omega (arith, h, parts, sum_by-cons (λ (x : X). min (f x) (2 ^ 64 - 1)) x xs, none_capped f xs (omega (arith, h, parts)))

-- the ranks handled as many paths as the list has entries
pub all_handled : {R : Type 0} (jobs : List (R × List Held)) (all list : List Entry) → all ≡ entries_of (flat_map (λ job. job.1) jobs) →
    IsPermutation all list →
    sum_by (λ j. length (log_of j.1)) jobs ≡ length list
all_handled {R = R} jobs all list logs p =
    let held = flat_map (λ (j : R × List Held). j.1) jobs in
    omega (
      arith,
      all_lengths jobs,
      length-map held (λ (d : Held). d.0),
      sum_by-ones (entries_of held),
      sum_by-ones list,
      sum_by-IsPermutation (λ (e : Entry). 1) (entries_of held) list (subst (λ es. IsPermutation es list) logs p),
    )

pub shared : {R : Type 0} (jobs : List (R × List Held)) (all list : List Entry) (shares : List Share) →
    map (λ s. s.handled) shares ≡ map (λ j. min (length (log_of j.1)) (2 ^ 64 - 1)) jobs →
    all ≡ entries_of (flat_map (λ job. job.1) jobs) → IsPermutation all list → length list < 2 ^ 64 → sum_by (λ s. s.handled) shares ≡ length list
shared {R = R} jobs all list shares e logs p few =
    let total = all_handled jobs all list logs p in
    sym (sum_by-map (λ (k : ℕ). k) (λ (s : Share). s.handled) shares) ∙ ap (sum_by (λ (k : ℕ). k)) e
    ∙ sum_by-map (λ (k : ℕ). k) (λ (j : R × List Held). min (length (log_of j.1)) (2 ^ 64 - 1)) jobs
    ∙ none_capped (λ (j : R × List Held). length (log_of j.1)) jobs (omega (arith, total, few)) ∙ total

-- each rank has a share
pub share_each : {R : Type 0} (jobs : List (R × List Held)) (shares : List Share) (ranks : ℕ) →
    map (λ s. s.handled) shares ≡ map (λ j. min (length (log_of j.1)) (2 ^ 64 - 1)) jobs →
    length jobs ≡ ranks → length shares ≡ ranks
share_each {R = R} jobs shares ranks e n =
    sym (length-map shares (λ (s : Share). s.handled)) ∙ ap length e ∙ length-map jobs (λ (j : R × List Held). min (length (log_of j.1)) (2 ^ 64 - 1)) ∙ n

-- ---- one job more is opened

entries_more : {R : Type 0} (jobs : List (R × List Held)) (job : R × List Held) →
    entries_of (flat_map (λ j. j.1) (jobs ++ job ∷ [])) ≡ entries_of (flat_map (λ j. j.1) jobs) ++ entries_of job.1
entries_more {R = R} jobs job =
    let of = λ (j : R × List Held). j.1 in
    ap entries_of (flat_map-append of jobs (job ∷ [])) ∙ map-append (λ (d : Held). d.0) (flat_map of jobs) (job.1 ++ [])
    ∙ ap (λ l. entries_of (flat_map of jobs) ++ entries_of l) (append-nil job.1)

pub more_logs : {L R : Type 0} (items : L → List Entry) (logs logs' : List L) (log : L) (jobs : List (R × List Held)) (job : R × List Held) →
    logs' ≡ logs ++ log ∷ [] → items log ≡ entries_of job.1 →
    flat_map items logs ≡ entries_of (flat_map (λ j. j.1) jobs) → flat_map items logs' ≡ entries_of (flat_map (λ j. j.1) (jobs ++ job ∷ []))
more_logs {R = R} items logs logs' log jobs job e is h =
    ap (flat_map items) e ∙ flat_map-append items logs (log ∷ []) ∙ (λ i. h i ++ (is i ++ []))
    ∙ ap (λ l. entries_of (flat_map (λ j. j.1) jobs) ++ l) (append-nil (entries_of job.1)) ∙ sym (entries_more jobs job)

pub more_faults : {R : Type 0} (jobs : List (R × List Held)) (job : R × List Held) (a b c k : ℕ) →
    RoseBy (sum_by weight_of (entries_of (flat_map (λ j. j.1) jobs))) a b → b < 2 ^ 64 → c ≡ capped b k →
    RoseBy (sum_by weight_of (entries_of job.1)) 0 k → RoseBy (sum_by weight_of (entries_of (flat_map (λ j. j.1) (jobs ++ job ∷ [])))) a c
more_faults jobs job a b c k r few is s =
    let weigh = λ (ds : List Held). sum_by weight_of (entries_of ds) in
    let total : weigh (flat_map (λ j. j.1) (jobs ++ job ∷ [])) ≡ weigh (flat_map (λ j. j.1) jobs) + weigh job.1 =
    ap (sum_by weight_of) (entries_more jobs job) ∙ sum_by-append weight_of (entries_of (flat_map (λ j. j.1) jobs)) (entries_of job.1) in
    record { kept = omega (arith, r.kept, few, is); rose = omega (arith, r.rose, r.kept, s.rose, few, is, total) }

pub never_falls : (n a b c k : ℕ) → RoseBy n a b → b < 2 ^ 64 → c ≡ capped b k → RoseBy 0 a c
never_falls n a b c k r few is = record { kept = omega (arith, r.kept, few, is); rose = omega (arith, r.kept, few, is) }
