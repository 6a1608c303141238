-- A run over several threads at its end.
use Rattle.circle_run.proofs.Prelude.{◌≡◌, ℕ, sym, ◌∙◌, arith, false, List, length, get_or, All, sum_by, IsPermutation, All-permutation, IsPermutation-sym}
use Rattle.circle_run.proofs.Prelude.{length_permutation, Shown, Strings, SumShown, Log, IsAscending, NoneLost, AreAll, AllEnded, Alone, Options, Rank, EndOf}
use Rattle.circle_run.proofs.Prelude.{AreDone, Starting, Ending}
use Rattle.circle_run.proofs.Places.{in_place, ones}

module _ {J S T P Q D : Type 0} (log : J → Log) (plain : J → D) (shows : S → Shown) (seats : P → S → Type 0)
    (sums_shows : T → SumShown) (sums_seats : Q → T → Type 0) where
  pub ending : (whole ranks final : List (Rank J S T)) (p : P) (q : Q) → AreDone log plain shows seats sums_shows sums_seats whole p q ranks
      → IsPermutation ranks final → IsAscending final → NoneLost final
      → ((h : ℕ → ℕ) → sum_by (λ (r : Rank J S T). h r.me) ranks ≡ sum_by (λ (r : Rank J S T). h r.me) whole)
      → Ending log plain shows seats sums_shows sums_seats whole final p q
  ending whole ranks final p q done perm up none numbers =
      let count : length final ≡ length whole = length_permutation ranks final perm ∙ sym (ones ranks) ∙ numbers (λ (k : ℕ). 1) ∙ ones whole in
      let ends : All (EndOf log plain shows seats sums_shows sums_seats whole p q) final =
      All-permutation (EndOf log plain shows seats sums_shows sums_seats whole p q) ranks final perm done.ends in
      let had : NoneLost ranks = All-permutation (λ (r : Rank J S T). r.book.lost ≡ false) final ranks (IsPermutation-sym ranks final perm) none in
      record {
        count = count;
        place = in_place final up (λ k d h. (let i = (ends k d h).inside in omega (arith, i, count)));
        ends = ends;
        alone = All-permutation (λ (r : Rank J S T). Alone log shows (get_or whole r.me r) r) ranks final perm (done.alone had);
      }

  pub are_all : (o : Options) (starts : Strings) (whole final : List (Rank J S T)) (p : P) (q : Q)
      → Starting log shows seats sums_shows sums_seats o starts whole p q → Ending log plain shows seats sums_shows sums_seats whole final p q
      → AreAll o final
  are_all o starts whole final p q first last = record {
    count = last.count ∙ first.count;
    each = λ k d h. (last.place k d h, (let e = last.ends k d h in e.options ∙ first.options (get_or final k d).me (get_or final k d) e.inside));
  }

  pub all_ended : (whole final : List (Rank J S T)) (p : P) (q : Q) → Ending log plain shows seats sums_shows sums_seats whole final p q
      → AllEnded log shows seats sums_shows sums_seats final p q
  all_ended whole final p q last k d h = (last.ends k d h).over
