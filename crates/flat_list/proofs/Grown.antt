-- A turn of the loop that reads a list file.
use Rattle.flat_list.proofs.Prelude.{◌≡◌, ◌∙◌, refl, ap, sym, subst, arith, ℕ, ◌+◌, ◌<◌, ◌≤◌, Bool, true, false, cond, List, [], ◌∷◌, length, Option, Some}
use Rattle.flat_list.proofs.Prelude.{None, length-append, IfSome, IfNone, lines_of, cut, ◌>>=◌, Entry, Version, entry_lines, max_entries, entry_at, IsLast}
use Rattle.flat_list.proofs.Prelude.{IsSettled, Adds, target_at, takes_target, target_and, target_line, target_behind, with_target, behind_target, line_count}
use Rattle.flat_list.proofs.Prelude.{found_at, cut_takes, pair_is}
use Rattle.flat_list.proofs.Damage.{Undoes, Stands}
use Rattle.flat_list.proofs.Decoded.{Reads, goes_on, line_is}

pub none_holds : {A : Type 0} (o : Option A) (P : Type 0) → o ≡ None → IfNone o P → P
none_holds None P e h = h
none_holds (Some x) P e h = absurd cc

pub some_holds : {A : Type 0} (o : Option A) (x : A) (P : A → Type 0) → o ≡ Some x → IfSome o P → P x
some_holds None x P e h = absurd cc
some_holds (Some y) x P e h = let same : y ≡ x = cc in subst P same h

pub few_lines : (found : Option (List ℕ × List ℕ)) → line_count found ≤ 2
few_lines None = omega arith
few_lines (Some f) = omega arith

pub adds_one : (o : Option Entry) (found : Option (List ℕ × List ℕ)) (old new : List Entry) → Adds o found old new → length new ≡ length old + 1
adds_one None found old new adds = absurd adds
adds_one (Some e) found old new adds = ap length adds.1.1.1 ∙ length-append old (with_target e found ∷ [])

pub cut_shorter : (c : ℕ) (text word rest : List ℕ) → cut c text ≡ Some (word, rest) → length rest < length text
cut_shorter c text word rest e =
    let parts = cut_takes c text word rest e in
    let len : length text ≡ length word + length (c ∷ rest) = ap length parts.parts ∙ length-append word (c ∷ rest) in
    omega arith

-- what is left is less
pub left_shorter : (v : Version) (text rest behind : List ℕ) → cut 10 rest ≡ Some (text, behind) →
    length (behind_target behind (found_at v text behind)) < length rest
left_shorter v text rest behind first = by_entry (entry_at v text)
  where
    less : length behind < length rest
    less = cut_shorter 10 rest text behind first

    by_found : (o : Option (List ℕ × List ℕ)) → target_line behind ≡ o → length (behind_target behind o) < length rest
    by_found None is = less
    by_found (Some f) is = by_cut (cut 10 behind) refl (sym (line_is behind) ∙ is)
      where
        by_cut : (o : Option (List ℕ × List ℕ)) → cut 10 behind ≡ o → (o >>= λ parts. target_and (target_at parts.0) parts.1) ≡ Some f →
            length f.1 < length rest
        by_cut None first e = absurd cc
        by_cut (Some parts) first e = by_target (target_at parts.0) e
          where
            by_target : (o : Option (List ℕ)) → target_and o parts.1 ≡ Some f → length f.1 < length rest
            by_target None e = absurd cc
            by_target (Some t) e =
                let same = pair_is t f.0 parts.1 f.1 e in
                let fewer = cut_shorter 10 behind parts.0 parts.1 first in
                omega (arith, less, fewer, ap length same.1)

    by_entry : (o : Option Entry) → length (behind_target behind (o >>= λ e. target_behind v e behind)) < length rest
    by_entry None = less
    by_entry (Some e) = by_test (takes_target v e)
      where
        by_test : (b : Bool) → length (behind_target behind (cond b (target_line behind) None)) < length rest
        by_test true = by_found (target_line behind) refl
        by_test false = less

-- ---- an entry more

-- the facts once a line was read and its entry added: `left` is the rest of the text, `lines` is how many lines the entry has
pub record Grown (v : Version) (bytes rest : List ℕ) (es fs : List Entry) (after : Option Entry) (left : List ℕ) (lines : ℕ) : Type 0 where
  pub stands : Stands v bytes fs (lines_of left)
  pub few : length es ≤ max_entries
  pub more : length fs ≡ length es + 1
  pub last : IsLast after fs
  pub number : length (entry_lines fs) ≡ length (entry_lines es) + lines
  pub small : lines ≤ 2
  pub settled : IsSettled v after left
  pub less : length left < length rest

-- the answers for an entry that was added, as facts of the loop
pub grown : {A : Type 0} (v : Version) (bytes rest text behind : List ℕ) (es fs : List Entry) (after : Option Entry) (o : Option A) (next : A)
    (left_by : A → List ℕ) (lines_in : A → ℕ) → Undoes → Reads v bytes rest text behind es → o ≡ Some next →
    IfSome o (λ n. Adds (entry_at v text) (found_at v text behind) es fs) → IfSome o (λ n. IsLast after fs) →
    IfSome o (λ n. left_by n ≡ behind_target behind (found_at v text behind)) → IfSome o (λ n. lines_in n ≡ line_count (found_at v text behind)) →
    Grown v bytes rest es fs after (left_by next) (lines_in next)
grown v bytes rest text behind es fs after o next left_by lines_in undoes reads some adding last left lines =
    let found = found_at v text behind in
    let adds = some_holds o next (λ n. Adds (entry_at v text) found es fs) some adding in
    let on = goes_on undoes reads fs adds in
    let is_last = some_holds o next (λ n. IsLast after fs) some last in
    let left_is : left_by next ≡ behind_target behind found = some_holds o next (λ n. left_by n ≡ behind_target behind found) some left in
    let lines_is : lines_in next ≡ line_count found = some_holds o next (λ n. lines_in n ≡ line_count found) some lines in
    record {
      stands = subst (λ (r : List ℕ). Stands v bytes fs (lines_of r)) (sym left_is) on.stands;
      few = reads.few;
      more = adds_one (entry_at v text) found es fs adds;
      last = is_last;
      number = omega (arith, on.lines, lines_is);
      small = omega (arith, lines_is, few_lines found);
      settled = subst (IsSettled v after) (sym left_is) (on.settled after is_last);
      less = subst (λ (r : List ℕ). length r < length rest) (sym left_is) (left_shorter v text rest behind reads.first);
    }
