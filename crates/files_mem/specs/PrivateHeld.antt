-- The state of a ground in memory, with parts out and parts that came back. Our own.
use Rattle.std.specs.Prelude.{◌≡◌, ℕ, Bool, false, ◌&&◌, List, [], ◌∷◌, if◌then◌else◌, Option, Some, is_some, slice_get, refl}
use Rattle.std.specs.List.{AllByRecursion}
use Rattle.std.specs.Coded.{Coded, code_by, coded×, coded_list, coded_ℕ}
use Rattle.path_text.specs.Path.{parent_of}
use Rattle.outside.specs.Tree.{Files, Node, IsTree}
use Rattle.outside.specs.Codes.{files_code, cut_code}
use Rattle.outside.specs.Writes.{Cut, all_out}
use Rattle.outside.specs.Lease.{in_tops, HaveParents}
use Rattle.outside.specs.Parts.{AreTops}
use Rattle.outside.specs.Laid.{laid}

-- where the test holds and the one has a node, that node, and else that of the other
abbrev pub copied : Bool → Option Node → Option Node → Option Node
copied b one other = if b && is_some one then one else other

-- a part that came back: its tops and its files
pub record Back : Type 0 where
  pub tops : List (List ℕ)
  pub files : Files

abbrev pub back_code : Coded Back
back_code = code_by (List (List ℕ) × Files) (coded× (coded_list (coded_list coded_ℕ)) files_code) (λ b. (b.tops, b.files))
    (λ p. record { tops = p.0; files = p.1 }) (λ _. refl)

-- the parts that came back, laid over the nodes kept, the first first
abbrev pub laid_all : List Back → Files → Files
laid_all [] files = files
laid_all (b ∷ bs) files = laid_all bs (laid b.tops b.files files)

-- files of which parts are out, the tops of each, and files in spans
pub record Lending : Type 0 where
  pub files : Files
  pub out : List (List (List ℕ))
  pub cut : List Cut

abbrev pub lending_code : Coded Lending
lending_code =
    code_by (Files × (List (List (List ℕ)) × List Cut)) (coded× files_code (coded× (coded_list (coded_list (coded_list coded_ℕ))) (coded_list cut_code)))
    (λ h. (h.files, (h.out, h.cut))) (λ p. record { files = p.0; out = p.1.0; cut = p.1.1 }) (λ _. refl)

-- each top is in a directory that the ground has
pub record IsLent (files : Files) (tops : List (List ℕ)) : Type 0 where
  pub are : AreTops tops
  pub parents : HaveParents tops files

-- the parents of the other tops are not in the part with these
abbrev pub IsClear : List (List ℕ) → List (List ℕ) → Type 0
IsClear tops others = (i : ℕ) (x : List ℕ) → slice_get others i ≡ Some x → in_tops tops (parent_of x) ≡ false

abbrev pub AreClear : List (List ℕ) → List (List ℕ) → Type 0
AreClear one two = IsClear one two × IsClear two one

-- all that is out can come back, in any order
abbrev pub Lends : Files → List (List (List ℕ)) → Type 0
Lends files [] = Unit {0}
Lends files (tops ∷ out) = IsLent files tops × (AllByRecursion (AreClear tops) out × Lends files out)

-- the files are a tree, and all that is out can come back
pub record IsGround (h : Lending) : Type 0 where
  pub tree : IsTree h.files
  pub lends : Lends h.files (all_out h.out h.cut)
