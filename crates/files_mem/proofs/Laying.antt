-- A part copied, and laid over what was kept.
use Rattle.files_mem.proofs.Prelude.{◌≡◌, ℕ, ◌+◌, ◌<◌, ◌≤◌, Bool, true, false, cond, not, ◌||◌, List, [], ◌∷◌, ◌++◌, take, get_or, length, Option, Some, None}
use Rattle.files_mem.proofs.Prelude.{refl, ap, ◌∙◌, sym, is_some, arith, zero, suc, false≢true, Result, Ok, Err, OnOk, OnErr, take_more, take_all, list_any}
use Rattle.files_mem.proofs.Prelude.{get, empty, get-empty, same_map, path_cmp, is_within, path_cmp_total, path_cmp_same, Files, Node, in_tops, leased, kept}
use Rattle.files_mem.proofs.Prelude.{Joins, same_tops, without_tops, Cut, without_cut, laid, get_laid, copied, Back, Lending, laid_all, get_rest, get_part}

-- what is copied into nothing is what is leased
pub all_leased : (tops : List (List ℕ)) (files part : Files)
    → ((q : List ℕ) → get part q ≡ copied (in_tops tops q) (get files q) (get {R = path_cmp} empty q)) → part ≡ leased tops files
all_leased tops files part h =
    same_map path_cmp_total path_cmp_same part (leased tops files)
    (λ q. h q ∙ ap (copied (in_tops tops q) (get files q)) (get-empty path_cmp q) ∙ by (in_tops tops q) (get files q)
    ∙ sym (get_part tops files q))
  where
    by : (b : Bool) (o : Option Node) → copied b o None ≡ cond b o None
    by true None = refl
    by true (Some n) = refl
    by false o = refl

-- without what is leased there is what is kept
pub all_kept : (tops : List (List ℕ)) (files new : Files)
    → ((q : List ℕ) → get new q ≡ cond (is_some (get (leased tops files) q)) None (get files q)) → new ≡ kept tops files
all_kept tops files new h =
    same_map path_cmp_total path_cmp_same new (kept tops files)
    (λ q. h q ∙ ap (λ o. cond (is_some o) None (get files q)) (get_part tops files q) ∙ by (in_tops tops q) (get files q)
    ∙ sym (get_rest tops files q))
  where
    by : (b : Bool) (o : Option Node) → cond (is_some (cond b o None)) None o ≡ cond (not b) o None
    by true None = refl
    by true (Some n) = refl
    by false o = refl

-- first what is there is taken away, and then the part is copied
pub joins : (tops : List (List ℕ)) (own rest mid after : Files) → ((q : List ℕ) → get mid q ≡ cond (is_some (get (leased tops rest) q)) None (get rest q)) →
    ((q : List ℕ) → get after q ≡ copied (in_tops tops q) (get own q) (get mid q)) → Joins tops own rest after
joins tops own rest mid after h k q = k q
    ∙ ap (copied (in_tops tops q) (get own q)) (h q ∙ ap (λ o. cond (is_some o) None (get rest q)) (get_part tops rest q))
    ∙ by (in_tops tops q) (get own q) (get rest q)
  where
    by : (b : Bool) (o r : Option Node) → copied b o (cond (is_some (cond b r None)) None r) ≡ cond b o r
    by true None None = refl
    by true None (Some n) = refl
    by true (Some n) r = refl
    by false o r = refl

pub still : (tops : List (List ℕ)) (rest mid : Files)
    → ((q : List ℕ) → get mid q ≡ cond (is_some (get (leased tops rest) q)) None (get rest q)) → (q : List ℕ) → in_tops tops q ≡ false
    → get mid q ≡ get rest q
still tops rest mid h q off = h q ∙ ap (λ o. cond (is_some o) None (get rest q)) (get_part tops rest q ∙ ap (λ b. cond b (get rest q) None) off)

-- one map joins
pub laid_is : (tops : List (List ℕ)) (own rest after : Files) → Joins tops own rest after → after ≡ laid tops own rest
laid_is tops own rest after j = same_map path_cmp_total path_cmp_same after (laid tops own rest) (λ q. j q ∙ sym (get_laid tops own rest q))

-- what stands at and under the tops before does not matter
pub laid_same : (tops : List (List ℕ)) (own old new : Files) → ((q : List ℕ) → in_tops tops q ≡ false → get new q ≡ get old q)
    → laid tops own new ≡ laid tops own old
laid_same tops own old new h =
    same_map path_cmp_total path_cmp_same (laid tops own new) (laid tops own old)
    (λ q. get_laid tops own new q ∙ by q (in_tops tops q) refl ∙ sym (get_laid tops own old q))
  where
    by : (q : List ℕ) (b : Bool) → in_tops tops q ≡ b → cond b (get own q) (get new q) ≡ cond b (get own q) (get old q)
    by q true e = refl
    by q false e = h q e

-- tops, one after the other

pub in_more : (xs : List (List ℕ)) (x q : List ℕ) → in_tops (xs ++ x ∷ []) q ≡ (in_tops xs q || is_within q x)
in_more [] x q = or_false (is_within q x)
  where
    or_false : (b : Bool) → (b || false) ≡ b
    or_false true = refl
    or_false false = refl
in_more (y ∷ xs) x q = ap (λ b. is_within q y || b) (in_more xs x q) ∙ assoc (is_within q y) (in_tops xs q) (is_within q x)
  where
    assoc : (a b c : Bool) → (a || (b || c)) ≡ ((a || b) || c)
    assoc true b c = refl
    assoc false b c = refl

copied_more : (a b : Bool) (o p : Option Node) → copied b o (copied a o p) ≡ copied (a || b) o p
copied_more true true None p = refl
copied_more true true (Some n) p = refl
copied_more true false None p = refl
copied_more true false (Some n) p = refl
copied_more false b o p = refl

abbrev pub CopiedFirst : List (List ℕ) → ℕ → Files → Files → Files → Type 0
CopiedFirst tops k from old now = (q : List ℕ) → get now q ≡ copied (in_tops (take k tops) q) (get from q) (get old q)

pub first_more : (tops : List (List ℕ)) (k : ℕ) (top : List ℕ) (from old now next : Files) → k < length tops → top ≡ get_or tops k top
    → CopiedFirst tops k from old now →
    ((q : List ℕ) → get next q ≡ copied (is_within q top) (get from q) (get now q)) → CopiedFirst tops (k + 1) from old next
first_more tops k top from old now next l at h c q =
    c q ∙ ap (copied (is_within q top) (get from q)) (h q) ∙ copied_more (in_tops (take k tops) q) (is_within q top) (get from q) (get old q)
    ∙ ap (λ b. copied b (get from q) (get old q))
    (sym (in_more (take k tops) top q)
    ∙ ap (λ xs. in_tops xs q) (sym (take_more tops k top l ∙ ap (λ x. take k tops ++ x ∷ []) (sym at))))

pub first_all : (tops : List (List ℕ)) (k : ℕ) (from old now : Files) → length tops ≤ k → CopiedFirst tops k from old now → (q : List ℕ)
    → get now q ≡ copied (in_tops tops q) (get from q) (get old q)
first_all tops k from old now l c q = c q ∙ ap (λ xs. copied (in_tops xs q) (get from q) (get old q)) (take_all k tops l)

none_first : (xs : List (List ℕ)) (k : ℕ) (q : List ℕ) → in_tops xs q ≡ false → in_tops (take k xs) q ≡ false
none_first [] zero q e = refl
none_first [] (suc k) q e = refl
none_first (x ∷ xs) zero q e = refl
none_first (x ∷ xs) (suc k) q e =
    elim (is_within q x) as (λ b. (b || in_tops xs q) ≡ false
    → (b || in_tops (take k xs) q) ≡ false) [ true ↦ λ h. absurd (false≢true (sym h)) | false ↦ none_first xs k q ] e

not_at : (xs : List (List ℕ)) (k : ℕ) (x q : List ℕ) → k < length xs → x ≡ get_or xs k x → in_tops xs q ≡ false → is_within q x ≡ false
not_at xs k x q l at e =
    last (in_tops (take k xs) q) (is_within q x)
    (sym (ap (λ ys. in_tops ys q) (take_more xs k x l ∙ ap (λ y. take k xs ++ y ∷ []) (sym at)) ∙ in_more (take k xs) x q)
    ∙ none_first xs (k + 1) q e)
  where
    last : (a b : Bool) → (a || b) ≡ false → b ≡ false
    last true b e = absurd (false≢true (sym e))
    last false b e = e

pub first_off : (tops : List (List ℕ)) (k : ℕ) (top : List ℕ) (from old now next : Files) → k < length tops → top ≡ get_or tops k top
    → CopiedFirst tops k from old now →
    ((q : List ℕ) → is_within q top ≡ false → get next q ≡ get now q) → (q : List ℕ) → in_tops tops q ≡ false → get next q ≡ get old q
first_off tops k top from old now next l at c h q off = h q (not_at tops k top q l at off) ∙ c q
    ∙ ap (λ b. copied b (get from q) (get old q)) (none_first tops k q off)

pub lay_ok : {B : Type 0} (r : Result (Unit {0}) B) (tops : List (List ℕ)) (own rest old mid after : Files) → old ≡ leased tops rest
    → ((q : List ℕ) → get mid q ≡ cond (is_some (get old q)) None (get rest q)) →
    OnOk r ((q : List ℕ) → get after q ≡ copied (in_tops tops q) (get own q) (get mid q)) → OnOk r (after ≡ laid tops own rest)
lay_ok (Ok x) tops own rest old mid after e h k =
    laid_is tops own rest after (joins tops own rest mid after (λ q. h q ∙ ap (λ f. cond (is_some (get f q)) None (get rest q)) e) k)
lay_ok (Err x) tops own rest old mid after e h k = tt

pub lay_err : {B : Type 0} (r : Result (Unit {0}) B) (tops : List (List ℕ)) (own rest old mid after : Files) → old ≡ leased tops rest
    → ((q : List ℕ) → get mid q ≡ cond (is_some (get old q)) None (get rest q)) →
    OnErr r ((q : List ℕ) → in_tops tops q ≡ false → get after q ≡ get mid q) → OnErr r (laid tops own after ≡ laid tops own rest)
lay_err (Ok x) tops own rest old mid after e h k = tt
lay_err (Err x) tops own rest old mid after e h k =
    laid_same tops own rest after
    (λ q off. k q off ∙ still tops rest mid (λ q. h q ∙ ap (λ f. cond (is_some (get f q)) None (get rest q)) e) q off)

pub divided : (tops : List (List ℕ)) (files part new : Files) → part ≡ leased tops files
    → ((q : List ℕ) → get new q ≡ cond (is_some (get part q)) None (get files q)) → new ≡ kept tops files
divided tops files part new e h = all_kept tops files new (λ q. h q ∙ ap (λ f. cond (is_some (get f q)) None (get files q)) e)

-- one part more came back
pub laid_more : (bs : List Back) (b : Back) (files : Files) → laid_all (bs ++ b ∷ []) files ≡ laid b.tops b.files (laid_all bs files)
laid_more [] b files = refl
laid_more (c ∷ bs) b files = laid_more bs b (laid c.tops c.files files)

pub lost : {B : Type 0} (r : Result (Unit {0}) B) (P : Type 0) → P → OnErr r P
lost (Ok x) P p = tt
lost (Err x) P p = p

pub first_none : (tops : List (List ℕ)) (from old : Files) → CopiedFirst tops 0 from old old
first_none [] from old q = refl
first_none (x ∷ tops) from old q = refl

pub one_less : (tops : List (List ℕ)) (out : List (List (List ℕ))) → list_any (λ one. same_tops one tops) out ≡ true
    → length (without_tops tops out) + 1 ≡ length out
one_less tops [] e = absurd (false≢true e)
one_less tops (one ∷ out) e =
    elim (same_tops one tops) as
    (λ b. (b || list_any (λ one. same_tops one tops) out) ≡ true
    → length (cond b out (one ∷ without_tops tops out)) + 1 ≡ length (one ∷ out)) [
      | true ↦ λ _. omega arith
      | false ↦ λ h. let r = one_less tops out h in omega (arith, r)
    ] e

-- a part waits, and is told as back

laid_back : (bs new : List Back) (b : Back) (base : Files) (files : Files) → new ≡ bs ++ b ∷ [] → laid_all bs base ≡ files
    → laid_all new base ≡ laid b.tops b.files files
laid_back bs new b base files e v = ap (λ x. laid_all x base) e ∙ laid_more bs b base ∙ ap (laid b.tops b.files) v

pub given_back : (bs new : List Back) (b : Back) (base : Files) (out lent : List (List (List ℕ))) (cut : List Cut) (now : Lending)
    → new ≡ bs ++ b ∷ [] → ◌≡◌ {A = Lending} (record { files = laid_all bs base; out = out; cut = cut }) now → lent ≡ without_tops b.tops out →
    ◌≡◌ {A = Lending} (record { files = laid_all new base; out = lent; cut = cut })
    (record now { files = laid b.tops b.files now.files; out = without_tops b.tops now.out })
given_back bs new b base out lent cut now e v l = λ i. record {
  files = laid_back bs new b base now.files e (ap (λ (h : Lending). h.files) v) i;
  out = (l ∙ ap (λ (h : Lending). without_tops b.tops h.out) v) i;
  cut = ap (λ (h : Lending). h.cut) v i;
}

-- the same of a file in spans
pub file_back : (bs new : List Back) (b : Back) (base : Files) (out : List (List (List ℕ))) (cut less : List Cut) (path : List ℕ) (now : Lending)
    → new ≡ bs ++ b ∷ [] → ◌≡◌ {A = Lending} (record { files = laid_all bs base; out = out; cut = cut }) now → less ≡ without_cut path cut →
    ◌≡◌ {A = Lending} (record { files = laid_all new base; out = out; cut = less })
    (record now { files = laid b.tops b.files now.files; cut = without_cut path now.cut })
file_back bs new b base out cut less path now e v l = λ i. record {
  files = laid_back bs new b base now.files e (ap (λ (h : Lending). h.files) v) i;
  out = ap (λ (h : Lending). h.out) v i;
  cut = (l ∙ ap (λ (h : Lending). without_cut path h.cut) v) i;
}
