-- Spans that have their ranges, one behind the other, are the file.
use Rattle.range_copy.proofs.Prelude.{◌≡◌, ℕ, ◌-◌, true, List, [], ◌∷◌, ◌++◌, map, length, take, drop, Option, Some, None, IfSome, refl, ap, ◌∙◌, is_some}
use Rattle.range_copy.proofs.Prelude.{false≢true, get, AllByRecursion, Files, content, Piece, are_cuts, joined_bytes, pieces, pieces_from, told_bytes, HasRange}
use Rattle.range_copy.proofs.Prelude.{end_of, joined, ranges_from}
use Rattle.range_copy.proofs.Cover.{cover}

pub head_of : {X : Type 0} (x y : X) (xs ys : List X) → (x ∷ xs) ≡ (y ∷ ys) → x ≡ y
head_of x y xs ys e = cc

pub tail_of : {X : Type 0} (x y : X) (xs ys : List X) → (x ∷ xs) ≡ (y ∷ ys) → xs ≡ ys
tail_of x y xs ys e = cc

module _ {S : Type 0} (piece : S → Piece) (holds : S → Option (List ℕ)) (path source : List ℕ) (files : Files) where
  one_range : (span : S) → is_some (holds span) ≡ true → HasRange piece holds source (Some files) span →
      told_bytes (holds span) ≡ take (piece span).size (drop (piece span).start (content (get files source)))
  one_range span t h = by (holds span) t h
    where
      by : (o : Option (List ℕ)) → is_some o ≡ true →
          IfSome o (λ bytes. bytes ≡ take (piece span).size (drop (piece span).start (content (get files source)))) →
          told_bytes o ≡ take (piece span).size (drop (piece span).start (content (get files source)))
      by None t h = absurd (false≢true t)
      by (Some bytes) t h = h

  joined_from : (at : ℕ) (cuts : List ℕ) (spans : List S) → map piece spans ≡ pieces_from path at cuts →
      AllByRecursion (λ s. is_some (holds s) ≡ true) spans → AllByRecursion (HasRange piece holds source (Some files)) spans →
      joined_bytes (map holds spans) ≡ joined (ranges_from at cuts (content (get files source)))
  joined_from at [] [] e t h = refl
  joined_from at [] (s ∷ spans) e t h = cc
  joined_from at (cut ∷ cuts) [] e t h = cc
  joined_from at (cut ∷ cuts) (s ∷ spans) e t h =
      let here = head_of (piece s) (record { path = path; start = at; size = cut - at }) (map piece spans) (pieces_from path cut cuts) e in
      let rest = tail_of (piece s) (record { path = path; start = at; size = cut - at }) (map piece spans) (pieces_from path cut cuts) e in
      (λ i. (one_range s t.0 h.0 ∙ ap (λ (p : Piece). take p.size (drop p.start (content (get files source)))) here) i
      ++ joined_from cut cuts spans rest t.1 h.1 i)

  pub joined_all : (cuts : List ℕ) (spans : List S) → map piece spans ≡ pieces path cuts → are_cuts cuts ≡ true →
      end_of cuts ≡ length (content (get files source)) → AllByRecursion (λ s. is_some (holds s) ≡ true) spans →
      AllByRecursion (HasRange piece holds source (Some files)) spans → joined_bytes (map holds spans) ≡ content (get files source)
  joined_all [] spans e c l t h = absurd (false≢true c)
  joined_all (first ∷ cuts) spans e c l t h =
      joined_from first cuts spans e t h ∙ cover (first ∷ cuts) (content (get files source)) c l
