-- What the looks of a reader at paths tell, once the reader is taken back; and looks that tell of something.
use Rattle.path_looks.proofs.Prelude.{◌≡◌, ℕ, ◌<◌, ◌^◌, true, List, [], ◌∷◌, Option, Some, None, Result, Ok, Err, IfOk, refl, ap, ◌∙◌, sym, subst, arith, All}
use Rattle.path_looks.proofs.Prelude.{Contains, sum_by, get, OnOk, OnErr, IfSome, MatchOption, is_some, option_map, false≢true, All-nil, All-cons, All-head}
use Rattle.path_looks.proofs.Prelude.{All-tail, All-contains, get_or-le-sum_by, path_cmp, Files, Node, stat_of, RoseBy, StoodStill, capped, Failed, Stat}
use Rattle.path_looks.proofs.Prelude.{by_stat, Look, Seen, IsSeen, AreLooks, fault_of, faults_in, paths_of, is_at, LooksWithoutFaultsAreTold}
use Rattle.std.specs.List.Sorted.{IsStrictlySortedBy}
use Rattle.path_looks.specs.declared.looks.Seen.TheVariants as seen

all_paths : (P : List ℕ → Type 0) (looks : List Look) → All P (paths_of looks) → All (λ l. P l.path) looks
all_paths P [] h = All-nil (λ (l : Look). P l.path)
all_paths P (l ∷ looks) h =
    All-cons (λ (l : Look). P l.path) l looks (All-head P l.path (paths_of looks) h) (all_paths P looks (All-tail P l.path (paths_of looks) h))

-- the looks of a reader at the given paths, each once: the reader told so and counted from began to read, and the files, whose count was old and then
-- during, took it back
pub record IsRead (tree told : Option Files) (given each : List (List ℕ)) (looks : List Look) (old during began read new : ℕ) : Type 0 where
  pub once : IsStrictlySortedBy path_cmp each
  pub every : All (Contains each) given
  pub none_else : All (Contains given) each
  pub same : told ≡ tree
  pub zero : began ≡ 0
  pub below : old < 2 ^ 64
  pub stood : during ≡ old
  pub back : new ≡ capped during read
  pub paths : paths_of looks ≡ each
  pub seen : All (λ l. IsSeen told l.path l.seen) looks
  pub counted : RoseBy (sum_by fault_of looks) began read

-- the count of a reader, added to that of the files
counted_back : (n old read new : ℕ) → RoseBy n 0 read → old < 2 ^ 64 → new ≡ capped old read → RoseBy n old new
counted_back n old read new h l e = record { kept = omega (arith, e); rose = omega (arith, e, h.rose) }

pub are_looks : (tree told : Option Files) (given each : List (List ℕ)) (looks : List Look) (old during began read new : ℕ) →
    IsRead tree told given each looks old during began read new → AreLooks tree given looks old new
are_looks tree told given each looks old during began read new r =
    let rose = subst (λ n. RoseBy (sum_by fault_of looks) n read) r.zero r.counted in
    record {
      once = subst (IsStrictlySortedBy path_cmp) (sym r.paths) r.once;
      every = subst (λ ps. All (Contains ps) given) (sym r.paths) r.every;
      none_else = all_paths (Contains given) looks (subst (All (Contains given)) (sym r.paths) r.none_else);
      told = subst (λ t. All (λ (l : Look). IsSeen t l.path l.seen) looks) r.same r.seen;
      counted = counted_back (sum_by fault_of looks) old read new rose r.below (r.back ∙ ap (λ n. capped n read) r.stood);
    }

-- no path, no look
pub no_looks : (tree : Option Files) (given : List (List ℕ)) (looks : List Look) (count : ℕ) → given ≡ [] → looks ≡ [] → AreLooks tree given looks count count
unfolding IsStrictlySortedBy
no_looks tree given looks count e d =
    subst (λ ps. AreLooks tree ps looks count count) (sym e)
    (subst (λ ls. AreLooks tree [] ls count count) (sym d) (record {
      once = tt;
      every = All-nil (Contains []);
      none_else = All-nil (λ (l : Look). Contains [] l.path);
      told = All-nil (λ (l : Look). IsSeen tree l.path l.seen);
      counted = record { kept = omega arith; rose = omega arith };
    }))

tells : (files : Files) (path : List ℕ) (s : Seen) → is_some (get files path) ≡ true → IsSeen (Some files) path s → faults_in s ≡ 0 → is_at s ≡ true
tells files path (seen.At mtime) there told none = refl
tells files path seen.Absent there told none = absurd (false≢true (sym (ap is_some told) ∙ there))
tells files path seen.Failed there told none = absurd (omega arith)

pub none_counted : (n old new : ℕ) → RoseBy n old new → StoodStill old new → n ≡ 0
none_counted n old new r s = omega (arith, r.rose, s.same, s.below_end)

pub looks_without_faults_are_told : LooksWithoutFaultsAreTold
looks_without_faults_are_told files paths looks old new a there still = λ k d l.
    let none = none_counted (sum_by fault_of looks) old new a.counted still in
    let is = All-contains (λ path. is_some (get files path) ≡ true) paths _ there (a.none_else k d l) in
    tells files _ _ is (a.told k d l) (omega (arith, none, get_or-le-sum_by fault_of looks k d l))

-- three facts of what a call answers together
pub if_ok_all : {X E : Type 0} (result : Result X E) (P Q R S : X → Type 0) → ((x : X) → P x → Q x → R x → S x) →
    IfOk result P → IfOk result Q → IfOk result R → IfOk result S
if_ok_all (Ok x) P Q R S f p q r = f x p q r
if_ok_all (Err e) P Q R S f p q r = tt

-- ---- by the answer of a stat

there : (found : Option Node) (stat : Stat) → Some stat ≡ option_map stat_of found → MatchOption found ⊥ (λ node. stat.mtime ≡ node.mtime)
there None stat e = absurd (cc)
there (Some node) stat e = cc

nothing : (found : Option Node) → None ≡ option_map stat_of found → found ≡ None
nothing None e = refl
nothing (Some node) e = absurd (cc)

pub seen_as_told : (tree : Option Files) (path : List ℕ) (answer : Result (Option Stat) Failed) →
    IfOk answer (λ found. IfSome tree (λ files. found ≡ option_map stat_of (get files path))) → IsSeen tree path (by_stat answer)
seen_as_told None path (Ok (Some stat)) h = tt
seen_as_told None path (Ok None) h = tt
seen_as_told None path (Err failed) h = tt
seen_as_told (Some files) path (Ok (Some stat)) h = there (get files path) stat h
seen_as_told (Some files) path (Ok None) h = nothing (get files path) h
seen_as_told (Some files) path (Err failed) h = tt

pub counted_as_seen : (old new : ℕ) (answer : Result (Option Stat) Failed) → OnOk answer (RoseBy 0 old new) → OnErr answer (RoseBy 1 old new) →
    RoseBy (faults_in (by_stat answer)) old new
counted_as_seen old new (Ok (Some stat)) ok err = ok
counted_as_seen old new (Ok None) ok err = ok
counted_as_seen old new (Err failed) ok err = err
