-- The tree after outputs are saved.
use Rattle.run_entries.proofs.Prelude.{◌≡◌, ℕ, ◌+◌, ◌<◌, ◌≤◌, suc, true, List, [], ◌∷◌, ◌++◌, map, length, take, drop, cond, Option, Some, None, IfSome, refl}
use Rattle.run_entries.proofs.Prelude.{sym, ap, subst, ◌∙◌, arith, add-one, Result, Ok, Err, IfErr, is_some, list_any, pointwise, nat_eq, get, insert}
use Rattle.run_entries.proofs.Prelude.{get-insert, drop-cons, take-suc, false≢true, or_parts, take-append-drop, path_cmp_total, path_cmp_ties, Files, new_file}
use Rattle.run_entries.proofs.Prelude.{SameBut, can_save, Stop, Side, Output, SavedAt, Saved, SameButAll, SameButOutputs, StopsAt, StopsSaving}
use Rattle.std.proofs.Common.{get_or}

-- ---- what is as before

-- every path but these is as before, also where there are none
pub record Kept (paths : List (List ℕ)) (old new : Option Files) : Type 0 where
  pub tells : is_some new ≡ is_some old
  pub same : IfSome old (λ files. IfSome new (SameButAll paths files))

-- and one path
pub record KeptBut (path : List ℕ) (old new : Option Files) : Type 0 where
  pub tells : is_some new ≡ is_some old
  pub same : IfSome old (λ files. IfSome new (SameBut path files))

all_kept : (paths : List (List ℕ)) (tree : Option Files) → Kept paths tree tree
all_kept paths None = record { tells = refl; same = tt }
all_kept paths (Some files) = record { tells = refl; same = λ q off. refl }

first_kept : (path : List ℕ) (paths : List (List ℕ)) (old between new : Option Files) → KeptBut path old between → Kept paths between new
    → Kept (path ∷ paths) old new
first_kept path paths None between new h g = record { tells = g.tells ∙ h.tells; same = tt }
first_kept path paths (Some files) None new h g = absurd (false≢true h.tells)
first_kept path paths (Some files) (Some during) None h g = absurd (false≢true g.tells)
first_kept path paths (Some files) (Some during) (Some after) h g =
    record {
      tells = refl;
      same = λ q off. let both = or_parts (pointwise nat_eq q path) (list_any (pointwise nat_eq q) paths) off in
          g.same q both.1 ∙ h.same q both.0;
    }

-- a tree that got one file is as before beside it
got_file : (path bytes : List ℕ) (files : Files) (new : Option Files) → new ≡ Some (insert files path (new_file bytes)) → IfSome new (SameBut path files)
got_file path bytes files new is =
    subst (λ o. IfSome o (SameBut path files)) (sym is)
    (λ q off.
    get-insert path_cmp_total files path (new_file bytes) q
    ∙ ap (λ b. cond b (Some (new_file bytes)) (get files q)) (sym (path_cmp_ties q path) ∙ off))

pub beside_saved : (path bytes : List ℕ) (old new : Option Files) →
    IfSome old (λ files. (can_save files path ≡ true) × (new ≡ Some (insert files path (new_file bytes)))) →
    IfSome old (λ files. IfSome new (SameBut path files))
beside_saved path bytes None new told = tt
beside_saved path bytes (Some files) new told = got_file path bytes files new told.1

pub kept_by_save : (output : Output) (old new : Option Files) → SavedAt output old new → KeptBut output.path old new
kept_by_save output None new saved = record { tells = saved.0; same = tt }
kept_by_save output (Some files) new saved = record { tells = saved.0; same = got_file output.path saved.1.0 files new saved.1.3 }

abbrev paths_of : List Output → List (List ℕ)
paths_of outputs = map (λ o. o.path) outputs

kept_by_saves : (outputs : List Output) (old new : Option Files) → Saved outputs old new → Kept (paths_of outputs) old new
kept_by_saves [] old new same = subst (Kept [] old) (sym same) (all_kept [] old)
kept_by_saves (output ∷ outputs) old new saved =
    first_kept output.path (paths_of outputs) old saved.0 new (kept_by_save output old saved.0 saved.1) (kept_by_saves outputs saved.0 new saved.2)

-- those that come after a failed one are not written
kept_by_some : (earlier : List Output) (first : Output) (later : List Output) (old between new : Option Files) → Saved earlier old between →
    KeptBut first.path between new → Kept (paths_of (earlier ++ first ∷ later)) old new
kept_by_some [] first later old between new same kept =
    first_kept first.path (paths_of later) old new new (subst (λ t. KeptBut first.path t new) same kept) (all_kept (paths_of later) new)
kept_by_some (output ∷ earlier) first later old between new saved kept =
    first_kept output.path (paths_of (earlier ++ first ∷ later)) old saved.0 new (kept_by_save output old saved.0 saved.1)
    (kept_by_some earlier first later saved.0 between new saved.2 kept)

of_kept : (path : List ℕ) (paths : List (List ℕ)) (old new : Option Files) → Kept (path ∷ paths) old new → SameButOutputs (path ∷ paths) old new
of_kept path paths old new k = (k.tells, k.same)

pub rest_saved : (outputs : List Output) (old new : Option Files) → Saved outputs old new → SameButOutputs (paths_of outputs) old new
rest_saved [] old new same = same
rest_saved (output ∷ outputs) old new saved = of_kept output.path (paths_of outputs) old new (kept_by_saves (output ∷ outputs) old new saved)

pub rest_stopped : (earlier : List Output) (first : Output) (later : List Output) (old between new : Option Files) → Saved earlier old between →
    KeptBut first.path between new → SameButOutputs (paths_of (earlier ++ first ∷ later)) old new
rest_stopped [] first later old between new saved kept =
    of_kept first.path (paths_of later) old new (kept_by_some [] first later old between new saved kept)
rest_stopped (output ∷ earlier) first later old between new saved kept =
    of_kept output.path (paths_of (earlier ++ first ∷ later)) old new (kept_by_some (output ∷ earlier) first later old between new saved kept)

-- ---- one more is saved

pub one_more : (outputs : List Output) (output : Output) (old between new : Option Files) → Saved outputs old between → SavedAt output between new →
    Saved (outputs ++ output ∷ []) old new
one_more [] output old between new same saved = (new, subst (λ t. SavedAt output t new) same saved, refl)
one_more (first ∷ outputs) output old between new saved more = (saved.0, saved.1, one_more outputs output saved.0 between new saved.2 more)

-- ---- the place of an output among others

pub parted : (outputs : List Output) (i : ℕ) (output : Output) → i < length outputs → output ≡ get_or outputs i output →
    outputs ≡ take i outputs ++ output ∷ drop (suc i) outputs
parted outputs i output l is =
    sym (take-append-drop i outputs) ∙ ap (λ rest. take i outputs ++ rest) (drop-cons outputs i output l)
    ∙ ap (λ o. take i outputs ++ o ∷ drop (suc i) outputs) (sym is)

pub taken_more : (outputs : List Output) (i : ℕ) (output : Output) → i < length outputs → output ≡ get_or outputs i output →
    take (i + 1) outputs ≡ take i outputs ++ output ∷ []
taken_more outputs i output l is =
    ap (λ n. take n outputs) (add-one i) ∙ take-suc outputs i output l ∙ ap (λ o. take i outputs ++ o ∷ []) (sym is)

-- ---- one output

one_stopped : (output : Output) (before after : Side) (why : Stop) → before.count ≤ after.count → StopsAt output before after why →
    StopsSaving (output ∷ []) before after why
one_stopped output before after why kept stops = record {
  earlier = [];
  first = output;
  later = [];
  are = refl;
  between = before;
  saved = refl;
  kept = omega arith;
  still = kept;
  stops = stops;
}

pub if_one_stopped : (r : Result (Unit {0}) Stop) (output : Output) (before after : Side) → before.count ≤ after.count → IfErr r (StopsAt output before after) →
    IfErr r (StopsSaving (output ∷ []) before after)
if_one_stopped (Ok x) output before after kept stops = tt
if_one_stopped (Err why) output before after kept stops = one_stopped output before after why kept stops
