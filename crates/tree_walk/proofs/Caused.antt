-- The answers that make an entry.
use Rattle.tree_walk.proofs.Prelude.{◌≡◌, ◌∙◌, inl, inr, ℕ, Bool, true, false, ◌&&◌, List, [], ◌∷◌, ◌++◌, refl, sym, subst, Option, Some, None, IfSome, Result}
use Rattle.tree_walk.proofs.Prelude.{Ok, Err, AllByRecursion, All, flat_map, IsPermutation, false≢true, flat_map-append, All-from_recursion, Asks, Failed}
use Rattle.tree_walk.proofs.Prelude.{Listing, Kind, LinkError, ListError, Stat, Entry, is_kind, is_listed, by_stat, by_link, by_list, is_linked, IsAnswered}
use Rattle.tree_walk.proofs.Prelude.{all_join}
use Rattle.outside.specs.Asked as asked
use Rattle.outside.specs.declared.trees.Kind.TheVariants as kind
use Rattle.outside.specs.declared.trees.LinkError.TheVariants as link_e
use Rattle.outside.specs.declared.trees.ListError.TheVariants as list_e
use Rattle.tree_walk.proofs.AnyOrder.{moved}

-- no mark but a fine one has a target
off : (b : Bool) → (b && false) ≡ true → ⊥
off true e = false≢true e
off false e = false≢true e

-- what is a link
first : (b : Bool) → (b && true) ≡ true → b ≡ true
first true e = refl
first false e = absurd (false≢true e)

-- no directory is a link
apart : (k : Kind) → (is_kind kind.Dir k && true) ≡ true → (is_kind kind.Link k && true) ≡ true → ⊥
apart kind.Dir d l = false≢true l
apart _ d l = false≢true d

pub by_stat_alone : {S : Type 0} (gives : Asks S) (before after : S) (path : List ℕ) (answer : Result (Option Stat) Failed) →
    gives before (asked.stat path answer) after → is_linked (by_stat path answer) ≡ false → IsAnswered gives (by_stat path answer)
by_stat_alone gives before after path (Err failed) g k = record {
  marked = inl (failed, record { before = before; after = after; given = g });
  read = λ y. absurd (false≢true y);
}
by_stat_alone gives before after path (Ok None) g k = record {
  marked = record { before = before; after = after; given = g };
  read = λ y. absurd (false≢true y);
}
by_stat_alone gives before after path (Ok (Some stat)) g k = record {
  marked = record { before = before; after = after; given = g };
  read = λ y. absurd (false≢true (sym k ∙ y));
}

pub by_stat_and_link : {S : Type 0} (gives : Asks S) (before mid after : S) (path : List ℕ) (answer : Result (Option Stat) Failed)
    (text : Result (List ℕ) LinkError) → gives before (asked.stat path answer) mid → gives mid (asked.read_link path text) after →
    is_linked (by_stat path answer) ≡ true → IfSome (by_link (by_stat path answer) text) (IsAnswered gives)
by_stat_and_link gives before mid after path (Err failed) text g r l = absurd (false≢true l)
by_stat_and_link gives before mid after path (Ok None) text g r l = absurd (false≢true l)
by_stat_and_link gives before mid after path (Ok (Some stat)) (Ok text) g r l = record {
  marked = record { before = before; after = mid; given = g };
  read = λ y. record { before = mid; after = after; given = r };
}
by_stat_and_link gives before mid after path (Ok (Some stat)) (Err link_e.Failed) g r l = record {
  marked = inr (record { before = mid; after = after; given = r });
  read = λ y. absurd (false≢true y);
}
by_stat_and_link gives before mid after path (Ok (Some stat)) (Err link_e.NotLink) g r l = record {
  marked = inr (first (is_kind kind.Link stat.kind) l, record { before = mid; after = after; given = r });
  read = λ y. absurd (off (is_kind kind.Link stat.kind) y);
}
by_stat_and_link gives before mid after path (Ok (Some stat)) (Err link_e.OutOfMemory) g r l = tt

pub by_stat_and_list : {S : Type 0} (gives : Asks S) (before mid after : S) (path : List ℕ) (answer : Result (Option Stat) Failed)
    (names : Result Listing ListError) → gives before (asked.stat path answer) mid → gives mid (asked.list path names) after →
    is_listed (by_stat path answer) ≡ true → IfSome (by_list (by_stat path answer) names) (λ r. IsAnswered gives r.0)
by_stat_and_list gives before mid after path (Err failed) names g r l = absurd (false≢true l)
by_stat_and_list gives before mid after path (Ok None) names g r l = absurd (false≢true l)
by_stat_and_list gives before mid after path (Ok (Some stat)) (Ok names) g r l = record {
  marked = record { before = before; after = mid; given = g };
  read = λ y. absurd (apart stat.kind l y);
}
by_stat_and_list gives before mid after path (Ok (Some stat)) (Err list_e.Failed) g r l = record {
  marked = record { before = mid; after = after; given = r };
  read = λ y. absurd (off (is_kind kind.Link stat.kind) y);
}
by_stat_and_list gives before mid after path (Ok (Some stat)) (Err list_e.NotDir) g r l = record {
  marked = inl (first (is_kind kind.Dir stat.kind) l, record { before = mid; after = after; given = r });
  read = λ y. absurd (off (is_kind kind.Link stat.kind) y);
}
by_stat_and_list gives before mid after path (Ok (Some stat)) (Err list_e.OutOfMemory) g r l = tt

-- one log more
pub more_answered : {S L : Type 0} (gives : Asks S) (items : L → List Entry) (logs logs' : List L) (log : L) → logs' ≡ logs ++ log ∷ [] →
    AllByRecursion (IsAnswered gives) (flat_map items logs) → AllByRecursion (IsAnswered gives) (items log) →
    AllByRecursion (IsAnswered gives) (flat_map items logs')
more_answered gives items logs logs' log e h one =
    let P = IsAnswered gives in
    subst (λ l. AllByRecursion P (flat_map items l)) (sym e)
    (subst (AllByRecursion P) (sym (flat_map-append items logs (log ∷ [])))
    (all_join P (flat_map items logs) (items log ++ []) h (all_join P (items log) [] one tt)))

-- the entries of all logs are those of the list
pub all_answered : {S : Type 0} (gives : Asks S) (logs list : List Entry) → IsPermutation logs list → AllByRecursion (IsAnswered gives) logs →
    All (IsAnswered gives) list
all_answered gives logs list moves h = All-from_recursion (IsAnswered gives) list (moved (IsAnswered gives) logs list moves h)
