-- What the list of a walk says of the tree that was walked: each node has an entry there, off what failed.
use Rattle.sync_report.proofs.Prelude.{◌≡◌, ◌≢◌, ℕ, true, false, not, cond, ◌||◌, ◌&&◌, List, [], ◌∷◌, ◌++◌, filter, get_or, Option, Some, None, IfSome, nat_eq}
use Rattle.sync_report.proofs.Prelude.{refl, ap, ◌∙◌, sym, subst, append-nil, false≢true, and_parts, and_from, recursion_from_All, IsTrue, is_some, ◌==◌, get}
use Rattle.sync_report.proofs.Prelude.{All, AllByRecursion, list_any, pointwise, bytes_decides, below_of, grafted, is_under, is_within, parent_of, refusal}
use Rattle.sync_report.proofs.Prelude.{below_undoes_graft, graft_undoes_below, itself, Files, IsTree, Node, is_root, link_at, Stat, all_weaker, Entry, Mark}
use Rattle.sync_report.proofs.Prelude.{is_fine, is_of, paths, stat_at, IsSide, entry_at, is_gone, side, IsWhole, is_noted, is_under_some, noted, AreTold}
use Rattle.sync_report.proofs.Prelude.{has_parent, EntriesAreTold, EntriesHaveParents, IsTold, StandsBy, has_dir, stat_by, target_by, Answers, WalkListsAll}
use Rattle.sync_report.proofs.Prelude.{all_told, answer_by, answer_in, answers_in, entry_of, is_told, told, walk, both, stat_told, list_any-map}
use Rattle.std.specs.Prelude.{Bool}
use Rattle.outside.specs.declared.trees.Kind.TheVariants as kind
use Rattle.entry_pages.specs.declared.entries.Mark.TheVariants as mark
use Rattle.sync_report.proofs.Below.{within_below}
use Rattle.sync_report.proofs.Lists.{any_other, not_kept, passing}

-- the list is the walk of a tree from a top that is not `/`
pub record IsWalk (files : Files) (a : Answers) (top : List ℕ) (list : List Entry) : Type 0 where
  pub tree : IsTree files
  pub valid : refusal top ≡ None
  pub low : is_root top ≡ false
  pub is : list ≡ walk files a top
  pub is_side : IsSide (side top list)

module _ (law : EntriesAreTold) (files : Files) (a : Answers) (top : List ℕ) (list : List Entry) (w : IsWalk files a top list) where
  pub all_tell : All (IsTold files a) list
  all_tell = subst (All (IsTold files a)) (sym w.is) (law.of_one files a top)

  -- what is so of each entry
  pub each : AllByRecursion (λ e. IsTold files a e × IsTrue (is_within e.path top)) list
  each = both (IsTold files a) (λ e. IsTrue (is_within e.path top)) list (recursion_from_All (IsTold files a) list all_tell)
      (recursion_from_All (λ (e : Entry). IsTrue (is_within e.path top)) list w.is_side.within)

-- ---- the entries tell what stands in the tree

text_told : (m : Mark) (found : Option Node) (said : Option (List ℕ)) → said ≡ target_by m found → IfSome said (λ text. link_at found ≡ Some text)
text_told m found None e = tt
text_told mark.Fine found (Some text) e = sym e
text_told m found (Some text) e = absurd (cc)

pub are_told : (files : Files) (a : Answers) (list : List Entry) → All (IsTold files a) list → AreTold files list
are_told files a list tells = record {
  stats = λ k d l. let e = get_or list k d in stat_told e.mark (get files e.path) e.stat (tells k d l).stat;
  targets = λ k d l. let e = get_or list k d in text_told e.mark (get files e.path) e.target (tells k d l).target;
}

-- ---- and have their directories

turned : (x y : List ℕ) → pointwise nat_eq x y ≡ true → pointwise nat_eq y x ≡ true
turned x y e = (bytes_decides y x).1 (sym ((bytes_decides x y).0 e))

has_turned : (q : List ℕ) (es : List Entry) → has_dir es q ≡ true → list_any (λ d. pointwise nat_eq d.path q && is_of kind.Dir d.stat) es ≡ true
has_turned q es h =
    any_other (λ d. pointwise nat_eq q d.path && is_of kind.Dir d.stat) (λ d. pointwise nat_eq d.path q && is_of kind.Dir d.stat) es (one es) h
  where
    one : (es : List Entry) → AllByRecursion (λ d. (pointwise nat_eq q d.path && is_of kind.Dir d.stat) ≡ true →
        (pointwise nat_eq d.path q && is_of kind.Dir d.stat) ≡ true) es
    one [] = tt
    one (d ∷ es) = (
      (λ h. let p = and_parts (pointwise nat_eq q d.path) (is_of kind.Dir d.stat) h in
          and_from (pointwise nat_eq d.path q) (is_of kind.Dir d.stat) (turned q d.path p.0) p.1),
      one es,
    )

-- the entry is that of the top, or its directory is listed
abbrev HasParent : List Entry → List ℕ → Entry → Type 0
HasParent list top e = is_some e.stat ≡ true → pointwise nat_eq e.path top ≡ false → has_parent list e ≡ true

pub have_parents : EntriesHaveParents → (files : Files) (a : Answers) (top : List ℕ) (list : List Entry) → IsWalk files a top list →
    All (HasParent list top) list
have_parents law files a top list w =
    let whole : list ≡ walk files a top ++ [] = w.is ∙ sym (append-nil (walk files a top)) in
    let come = subst (λ es. All (λ e. (list_any (pointwise nat_eq e.path) (top ∷ []) || has_dir es (parent_of e.path)) ≡ true) es) (sym whole)
    (law files a (top ∷ []) w.tree) in
    λ k d l some off. has_turned (parent_of (get_or list k d).path) list (of_dir _ _ off (come k d l))
  where
    of_dir : (same has : Bool) → same ≡ false → ((same || false) || has) ≡ true → has ≡ true
    of_dir same has off h = ap (λ b. (b || false) || has) (sym off) ∙ h

-- ---- what is found at a path below the top

abbrev pub at_path : List ℕ → List ℕ → Entry → Bool
at_path top p e = not (is_gone e.mark) && pointwise nat_eq (below_of e.path top) p

abbrev IsHere : Entry → Type 0
IsHere e = (is_gone e.mark ≡ false) × (is_some e.stat ≡ true)

by_mark : (m : Mark) (found : Option Node) (said : Option Stat) → is_some found ≡ true → said ≡ stat_by m found → StandsBy m found → m ≢ mark.StatFailed →
    (is_gone m ≡ false) × (is_some said ≡ true)
by_mark m None said some e stands off = absurd (false≢true some)
by_mark mark.Fine (Some n) said some e stands off = (refl, ap is_some e)
by_mark mark.ListFailed (Some n) said some e stands off = (refl, ap is_some e)
by_mark mark.StatFailed (Some n) said some e stands off = absurd (off refl)
by_mark mark.Gone (Some n) said some e stands off = absurd (cc)
by_mark mark.Changed (Some n) said some e stands off = absurd stands

-- where a node is at the path and the entry's stat did not fail, the entry has one
here : (files : Files) (a : Answers) (q : List ℕ) → is_some (get files q) ≡ true → (e : Entry) → IsTold files a e → e.path ≡ q → e.mark ≢ mark.StatFailed →
    IsHere e
here files a q some e t is off = by_mark e.mark (get files e.path) e.stat (ap (λ p. is_some (get files p)) is ∙ some) t.stat t.stands off

-- the list has an entry with a stat at the path, where it has one whose stat did not fail
pub has_stat : (files : Files) (a : Answers) (top p : List ℕ) (list : List Entry) → refusal p ≡ None → is_some (get files (grafted top p)) ≡ true →
    AllByRecursion (λ e. IsTold files a e × IsTrue (is_within e.path top)) list → AllByRecursion (λ e. e.path ≡ grafted top p → e.mark ≢ mark.StatFailed) list →
    list_any (pointwise nat_eq (grafted top p)) (paths list) ≡ true → is_some (stat_at (entry_at (side top list) p)) ≡ true
has_stat files a top p list v some each fine listed =
    let known = both (λ e. IsTold files a e × IsTrue (is_within e.path top)) (λ e. e.path ≡ grafted top p → e.mark ≢ mark.StatFailed) list each fine in
    let one = passing (at_path top p) (λ e. at_path top p e ≡ true → is_some e.stat ≡ true) list
    (all_weaker (λ e. (IsTold files a e × IsTrue (is_within e.path top)) × (e.path ≡ grafted top p → e.mark ≢ mark.StatFailed))
    (λ e. at_path top p e ≡ true → is_some e.stat ≡ true) stands list known)
    (any_other (λ (e : Entry). pointwise nat_eq (grafted top p) e.path) (at_path top p) list
    (all_weaker (λ e. (IsTold files a e × IsTrue (is_within e.path top)) × (e.path ≡ grafted top p → e.mark ≢ mark.StatFailed))
    (λ (e : Entry). pointwise nat_eq (grafted top p) e.path ≡ true → at_path top p e ≡ true) is_at list known)
    (sym (list_any-map (pointwise nat_eq (grafted top p)) (λ (e : Entry). e.path) list) ∙ listed)) in
    ap (λ o. is_some (stat_at o)) one.found ∙ one.holds one.passes
  where
    stands : (e : Entry) → (IsTold files a e × IsTrue (is_within e.path top)) × (e.path ≡ grafted top p → e.mark ≢ mark.StatFailed) →
        at_path top p e ≡ true → is_some e.stat ≡ true
    stands e k h =
        let same = (bytes_decides (below_of e.path top) p).0 (and_parts (not (is_gone e.mark)) _ h).1 in
        let is : e.path ≡ grafted top p = sym (graft_undoes_below e.path top k.0.1) ∙ ap (grafted top) same in
        (here files a (grafted top p) some e k.0.0 is (k.1 is)).1

    is_at : (e : Entry) → (IsTold files a e × IsTrue (is_within e.path top)) × (e.path ≡ grafted top p → e.mark ≢ mark.StatFailed) →
        pointwise nat_eq (grafted top p) e.path ≡ true → at_path top p e ≡ true
    is_at e k h =
        let is : e.path ≡ grafted top p = sym ((bytes_decides (grafted top p) e.path).0 h) in
        let there = here files a (grafted top p) some e k.0.0 is (k.1 is) in
        and_from (not (is_gone e.mark)) _ (ap not there.0)
        ((bytes_decides (below_of e.path top) p).1 (ap (λ x. below_of x top) is ∙ below_undoes_graft.back top p v))

-- ---- a walk leaves nothing out but what it notes

noted_by : (m : Mark) (stat none : Bool) → is_gone m ≡ false → is_fine m ≡ false → (not (is_gone m) && (not (stat && is_fine m) || none)) ≡ true
noted_by m true none gone off = λ i. not (gone i) && (not (off i) || none)
noted_by m false none gone off = λ i. not (gone i) && (not false || none)

-- no entry at or over the path is noted
abbrev IsOff : List ℕ → List ℕ → Entry → Type 0
IsOff top p e = is_noted e ≡ true → is_within p (below_of e.path top) ≡ false

all_off : (top p : List ℕ) (list : List Entry) → is_under_some (noted (side top list)) p ≡ false → AllByRecursion (IsOff top p) list
all_off top p list off =
    not_kept is_noted (λ (e : Entry). is_within p (below_of e.path top)) list
    (sym (list_any-map (is_within p) (λ (e : Entry). below_of e.path top) (filter is_noted list)) ∙ off)

noted_fails : (e : Entry) (m : Mark) → e.mark ≡ m → is_gone m ≡ false → is_fine m ≡ false → is_noted e ≡ true
noted_fails e m is gone off =
    noted_by e.mark (is_some e.stat) (not (e.unnamed == 0 && e.far == 0)) (ap is_gone is ∙ gone) (ap is_fine is ∙ off)

-- so the files answered of each path over it
mark_told : (e : Entry) (m : Mark) → e.mark ≡ m → (is_noted e ≡ true → ⊥) → is_told (answer_by m e.unnamed) ≡ true
mark_told e mark.Fine is off = refl
mark_told e mark.Gone is off = refl
mark_told e mark.Changed is off = refl
mark_told e mark.StatFailed is off = absurd (off (noted_fails e mark.StatFailed is refl refl))
mark_told e mark.ListFailed is off = absurd (off (noted_fails e mark.ListFailed is refl refl))

answered : (q : List ℕ) (es : List Entry) → AllByRecursion (λ e. e.path ≡ q → is_noted e ≡ true → ⊥) es → is_told (answers_in es q) ≡ true
answered q [] h = refl
answered q (e ∷ es) h =
    elim (pointwise nat_eq e.path q) as (λ b. pointwise nat_eq e.path q ≡ b → is_told (cond b (answer_in e) (answers_in es q)) ≡ true) [
      | true ↦ λ is. mark_told e e.mark refl (h.0 ((bytes_decides e.path q).0 is))
      | false ↦ λ _. answered q es h.1
    ] refl

pub whole : EntriesAreTold → WalkListsAll → (files : Files) (top : List ℕ) (list : List Entry) → IsWalk files (answers_in list) top list →
    ((q : List ℕ) → is_some (get files q) ≡ true → refusal q ≡ None) → IsWhole (side top list) files
whole tells lists files top list w paths_are p v some off =
    let a = answers_in list in
    let q = grafted top p in
    let within = below_undoes_graft.within top p v in
    let back : below_of q top ≡ p = below_undoes_graft.back top p v in
    let none = all_off top p list off in
    let way = λ (x : List ℕ) (u : is_under q x ≡ true) (on : is_within x top ≡ true).
    answered x list (all_weaker (IsOff top p) (λ e. e.path ≡ x → is_noted e ≡ true → ⊥)
    (λ e h is n. false≢true (sym (h n) ∙ subst (λ b. is_within b (below_of e.path top) ≡ true) back
    (subst (λ y. is_within (below_of q top) (below_of y top) ≡ true) (sym is) (within_below top x q (paths_are q some) on u)))) list none) in
    has_stat files a top p list v some (each tells files a top list w)
    (all_weaker (IsOff top p) (λ e. e.path ≡ q → e.mark ≢ mark.StatFailed)
    (λ e h is failed. false≢true (sym (h (noted_fails e mark.StatFailed failed refl refl))
    ∙ subst (λ b. is_within p b ≡ true) (sym (ap (λ y. below_of y top) is ∙ back)) (itself p))) list none)
    (subst (λ es. list_any (pointwise nat_eq q) (paths es) ≡ true) (sym w.is) (lists files a top q w.tree w.valid w.low within some way))

-- ---- and where no answer fails, nothing at all

told_mark : (found : Option Node) (p : List ℕ) → is_some found ≡ true → (entry_of (told 0) found p).mark ≡ mark.Fine
told_mark None p e = absurd (false≢true e)
told_mark (Some n) p e = refl

no_mark : (m : Mark) → m ≡ mark.Fine → m ≢ mark.StatFailed
no_mark m is failed = cc

pub whole_by_all : EntriesAreTold → WalkListsAll → (files : Files) (top : List ℕ) (list : List Entry) → IsWalk files all_told top list →
    (p : List ℕ) → refusal p ≡ None → is_some (get files (grafted top p)) ≡ true → is_some (stat_at (entry_at (side top list) p)) ≡ true
whole_by_all tells lists files top list w p v some =
    let q = grafted top p in
    has_stat files all_told top p list v some (each tells files all_told top list w)
    (all_weaker (λ e. IsTold files all_told e × IsTrue (is_within e.path top)) (λ e. e.path ≡ q → e.mark ≢ mark.StatFailed)
    (λ e t is. no_mark e.mark (ap (λ (x : Entry). x.mark) t.0.own ∙ told_mark (get files e.path) e.path (ap (λ y. is_some (get files y)) is ∙ some)))
    list (each tells files all_told top list w))
    (subst (λ es. list_any (pointwise nat_eq q) (paths es) ≡ true) (sym w.is)
    (lists files all_told top q w.tree w.valid w.low (below_undoes_graft.within top p v) some (λ x u on. refl)))

-- each entry is gone or has a stat
pub clear : EntriesAreTold → (files : Files) (top : List ℕ) (list : List Entry) → IsWalk files all_told top list →
    All (λ e. (is_gone e.mark || is_some e.stat) ≡ true) list
clear tells files top list w = λ k d l.
    let e = get_or list k d in
    ap (λ (x : Entry). is_gone x.mark || is_some x.stat) (all_tell tells files all_told top list w k d l).own ∙ by (get files e.path) e.path
  where
    by : (found : Option Node) (p : List ℕ) → (is_gone (entry_of (told 0) found p).mark || is_some (entry_of (told 0) found p).stat) ≡ true
    by None p = refl
    by (Some n) p = refl
