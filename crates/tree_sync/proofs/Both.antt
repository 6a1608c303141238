-- A row that says that both sides have its path as one kind: the nodes of both sides, and that the removal leaves the destination's.
use Rattle.tree_sync.proofs.Prelude.{◌≡◌, ℕ, Bool, true, false, List, ◌++◌, Option, Some, None, refl, ap, ◌∙◌, sym, subst, nat_eq, get, pointwise}
use Rattle.tree_sync.proofs.Prelude.{bytes_decides, false≢true, All-contains, grafted, refusal, below_undoes_graft, Files, Kind, Stat, Entry, is_kind, paths}
use Rattle.tree_sync.proofs.Prelude.{Row, Findings, IsComparison, IsRow, is_missed, kinds, stat_at, two_of, Side, side, entry_at, SameButChosen, Pair, Known}
use Rattle.tree_sync.proofs.Prelude.{FitsSync, chosen_of, is_both, is_common, row_at}
use Rattle.outside.specs.declared.trees.Kind.TheVariants as kind
use Rattle.tree_sync.proofs.Apart.{kept_not_chosen}
use Rattle.tree_sync.proofs.Members.{found_by}
use Rattle.tree_sync.proofs.Sided.{Has, Stands, has_at, has_node}

pub kind_eq : (j k : Kind) → is_kind j k ≡ true → j ≡ k
kind_eq kind.File kind.File e = refl
kind_eq kind.Dir kind.Dir e = refl
kind_eq kind.Link kind.Link e = refl
kind_eq kind.Other kind.Other e = refl
kind_eq j k e = absurd (false≢true e)

pub kind_is : (k : Kind) → is_kind k k ≡ true
kind_is kind.File = refl
kind_is _ = refl

-- two stats of one kind
record SameKind (a b : Option Stat) : Type 0 where
  one : Stat
  two : Stat
  first : a ≡ Some one
  second : b ≡ Some two
  same : one.kind ≡ two.kind

same_kind : (a b : Option Stat) → is_common (kinds a b) ≡ true → SameKind a b
same_kind None b e = absurd (false≢true e)
same_kind (Some s) None e = absurd (false≢true e)
same_kind (Some s) (Some t) e = record { one = s; two = t; first = refl; second = refl; same = by (is_kind s.kind t.kind) refl e }
  where
    by : (b : Bool) → is_kind s.kind t.kind ≡ b → is_common (two_of b) ≡ true → s.kind ≡ t.kind
    by true is e = kind_eq s.kind t.kind is
    by false is e = absurd (false≢true e)

-- a row tells both sides
abbrev pub Says : Option Files → (l r : Side) → Findings → List ℕ → Row → Type 0
Says tree l r found p row = IsRow tree (is_missed l r (found.failed ++ found.changed) p) (entry_at l p) (entry_at r p) row

pub row_says : (tree : Option Files) (l r : Side) (found : Findings) → IsComparison tree l r found → (p : List ℕ) (row : Row) →
    row_at found.rows p ≡ Some row → Says tree l r found p row
row_says tree l r found compared p row at =
    let f = found_by (λ (row : Row). pointwise nat_eq row.path p) found.rows row at in
    subst (λ x. Says tree l r found x row) ((bytes_decides row.path p).0 f.so)
    (All-contains (λ (row : Row). Says tree l r found row.path row) found.rows row compared.each f.is_in)

-- the removal by a comparison, over files that tell their tree
pub record Removal (pair : Pair) (source dest : List Entry) (delete : Bool) (found : Findings) (before mid : Files) : Type 0 where
  pub known : Known pair source dest
  pub fits : FitsSync pair source dest before
  pub compared : IsComparison (Some before) (side pair.source source) (side pair.target dest) found
  pub others : SameButChosen (paths (chosen_of delete (side pair.source source) (side pair.target dest) found.rows)) before mid

-- both sides have the path as one kind
pub record HaveBoth (l r : Side) (before mid : Files) (p : List ℕ) : Type 0 where
  pub one : Stat
  pub two : Stat
  pub left : Has l p one
  pub right : Has r p two
  pub source : Stands before (grafted l.top p) one
  pub target : Stands before (grafted r.top p) two
  pub same : one.kind ≡ two.kind
  pub stays : get mid (grafted r.top p) ≡ get before (grafted r.top p)

pub have_both : (pair : Pair) (source dest : List Entry) (delete : Bool) (found : Findings) (before mid : Files) →
    Removal pair source dest delete found before mid → (p : List ℕ) (row : Row) → refusal p ≡ None → row_at found.rows p ≡ Some row →
    is_both row.exist ≡ true → is_common row.kind ≡ true → HaveBoth (side pair.source source) (side pair.target dest) before mid p
have_both pair source dest delete found before mid m p row v at both common =
    let l = side pair.source source in
    let r = side pair.target dest in
    let says = row_says (Some before) l r found m.compared p row at in
    let s = same_kind (stat_at (entry_at l p)) (stat_at (entry_at r p)) (ap is_common (sym says.kind) ∙ common) in
    let own = has_at l m.known.can.left p s.one s.first in
    let other = has_at r m.known.can.right p s.two s.second in
    let below = below_undoes_graft.back pair.target p v in
    record {
      one = s.one;
      two = s.two;
      left = own;
      right = other;
      source = has_node l before m.fits.left p s.one own;
      target = has_node r before m.fits.right p s.two other;
      same = s.same;
      stays = m.others (grafted pair.target p)
          (kept_not_chosen pair source dest m.known delete found.rows (grafted pair.target p) row (ap (row_at found.rows) below ∙ at) both common);
    }
