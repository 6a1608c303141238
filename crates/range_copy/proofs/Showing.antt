-- The evidence of the fate of a large file.
use Rattle.range_copy.proofs.Prelude.{◌≡◌, ◌≢◌, ◌⊎◌, inl, inr, ℕ, ◌+◌, ◌-◌, ◌<◌, ◌≤◌, true, List, [], ◌∷◌, ◌++◌, map, drop, Option, Some, None, refl, ap, ◌∙◌}
use Rattle.range_copy.proofs.Prelude.{sym, subst, arith, append-nil, Result, Ok, Err, IfOk, IsTrue, nat_lt, ◌==◌, false≢true, ltb-true, and_parts}
use Rattle.range_copy.proofs.Prelude.{All-from_recursion, sum_by-append, sum_by-cons, AllByRecursion, sum_by, Asks, Write, Writes, RoseBy, capped, Piece}
use Rattle.range_copy.proofs.Prelude.{are_cuts, ascends_above, cuts_in, pieces, pieces_from, Area, may_change, WriteError, size_by, Entry, Fate, HasCause}
use Rattle.range_copy.proofs.Prelude.{IsReadTo, IsWritten, LookMeans, ReadMeans, RefusalMeans, ShowsSpans, SpansFailed, WasSpanned, by_count, by_look, by_read}
use Rattle.range_copy.proofs.Prelude.{by_refusal, by_spans, refusal_means, target_of, Pair, span_of, spans_of, fate_of, exceeds, freed, refused_as, FilledBy}
use Rattle.range_copy.proofs.Prelude.{IsFreshBy, IsRead, AreFilledBy, AreFreshBy, AreRead, HasShown, MadeBy, PlacedBy, ReplacedBy, failures_of, AreDone}
use Rattle.range_copy.proofs.Prelude.{AreIdle, came_of, hand_of, outcome_of, end_of, last_of, Came, RangeError, Filled, Filler, Load, all_join}
use Rattle.outside.specs.Asked as asked
use Rattle.outside.specs.declared.plots.WriteError.TheVariants as write
use Rattle.outside.specs.declared.trees.Kind.TheVariants as kind
use Rattle.level_work.specs.declared.items.Fate.TheVariants as fate
use Rattle.range_copy.specs.declared.came.Came.TheVariants as came
use Rattle.range_copy.specs.declared.filled.Filled.TheVariants as filled
use Rattle.range_copy.proofs.Counted.{rose_after}
use Rattle.range_copy.proofs.Joined.{head_of, tail_of}
use Rattle.range_copy.proofs.Outcomes.{outcome_by, outcome_rest}
use Rattle.range_copy.proofs.Tried.{is_file_of}
use Rattle.range_copy.proofs.Worked.{Paired, by_hands, idle_none}

-- a refusal that does not say that a node is there

no_parent : write.NoParent ≡ write.Exists → ⊥
no_parent e = cc

wrong_kind : write.WrongKind ≡ write.Exists → ⊥
wrong_kind e = cc

not_empty : write.NotEmpty ≡ write.Exists → ⊥
not_empty e = cc

is_absent : write.Absent ≡ write.Exists → ⊥
is_absent e = cc

-- the empty file

module _ {G : Type 0} (own : Writes G) (target : List ℕ) where
  refusal_is : (call : Write) (x : WriteError) (f : Fate) (before after : G) → own before target call (Err x) after → refusal_means x ≡ Some f →
      (x ≡ write.Exists → IsWritten own target asked.remove_file before) → RefusalMeans own target f
  refusal_is call x f before after given means exists =
      record { before = before; call = call; refusal = x; after = after; given = given; means = means; exists = exists }

  -- a file that was not made
  pub made_as : (x : WriteError) (r : Result Came RangeError) (before after : G) → r ≡ refused_as x → own before target asked.make_file (Err x) after →
      IfOk r (MadeBy own target before after)
  made_as x r before after is given = subst (λ r. IfOk r (MadeBy own target before after)) (sym is) (by x given)
    where
      by : (x : WriteError) → own before target asked.make_file (Err x) after → IfOk (refused_as x) (MadeBy own target before after)
      by write.Exists given = given
      by write.Failed given = given
      by write.OutOfMemory given = tt
      by write.NoParent given = refusal_is asked.make_file write.NoParent fate.Changed before after given refl (λ e. absurd (no_parent e))
      by write.WrongKind given = refusal_is asked.make_file write.WrongKind fate.Changed before after given refl (λ e. absurd (wrong_kind e))
      by write.NotEmpty given = refusal_is asked.make_file write.NotEmpty fate.Changed before after given refl (λ e. absurd (not_empty e))
      by write.Absent given = refusal_is asked.make_file write.Absent fate.Changed before after given refl (λ e. absurd (is_absent e))

  failed_is : (call : Write) (before after : G) → own before target call (Err write.Failed) after → RefusalMeans own target fate.Failed
  failed_is call before after given = refusal_is call write.Failed fate.Failed before after given refl (λ e. absurd (clash e))
    where
      clash : write.Failed ≡ write.Exists → ⊥
      clash e = cc

  -- one in place of a file that was removed
  pub made_again : (r r' : Result Came RangeError) (before after : G) → r' ≡ freed r → IsWritten own target asked.remove_file before →
      IfOk r (MadeBy own target before after) → IfOk r' (ReplacedBy own target after)
  made_again r r' before after is gone made = subst (λ r. IfOk r (ReplacedBy own target after)) (sym is) (by r made)
    where
      by : (r : Result Came RangeError) → IfOk r (MadeBy own target before after) → IfOk (freed r) (ReplacedBy own target after)
      by (Ok came.Done) given = record { before = before; given = given }
      by (Ok came.Failed) given = failed_is asked.make_file before after given
      by (Ok came.Conflict) given = refusal_is asked.make_file write.Exists fate.Changed before after given refl (λ e. gone)
      by (Ok came.Changed) h = h
      by (Err e) h = tt

  -- one that was not removed
  pub not_removed : (x : WriteError) (r : Result Came RangeError) (before after : G) → r ≡ refused_as x → IsTrue (may_change x) →
      own before target asked.remove_file (Err x) after → IfOk r (ReplacedBy own target after)
  not_removed x r before after is named given = subst (λ r. IfOk r (ReplacedBy own target after)) (sym is) (by x named given)
    where
      by : (x : WriteError) → IsTrue (may_change x) → own before target asked.remove_file (Err x) after →
          IfOk (refused_as x) (ReplacedBy own target after)
      by write.Exists named given = absurd (false≢true named)
      by write.Failed named given = failed_is asked.remove_file before after given
      by write.OutOfMemory named given = tt
      by write.NoParent named given = refusal_is asked.remove_file write.NoParent fate.Changed before after given refl (λ e. absurd (no_parent e))
      by write.WrongKind named given = refusal_is asked.remove_file write.WrongKind fate.Changed before after given refl (λ e. absurd (wrong_kind e))
      by write.NotEmpty named given = refusal_is asked.remove_file write.NotEmpty fate.Changed before after given refl (λ e. absurd (not_empty e))
      by write.Absent named given = refusal_is asked.remove_file write.Absent fate.Changed before after given refl (λ e. absurd (is_absent e))

  module _ {R : Type 0} (asks : Asks R) where
    -- what shows how the file was made
    pub placed_made : (c : Came) (before after : G) → c ≢ came.Conflict → MadeBy own target before after c → PlacedBy asks own target after c
    placed_made came.Done before after off given = record { before = before; given = given }
    placed_made came.Failed before after off given = inr (failed_is asked.make_file before after given)
    placed_made came.Conflict before after off given = absurd (off refl)
    placed_made came.Changed before after off h = inr h

    pub placed_looked : (c : Came) (after : G) → c ≢ came.Done → LookMeans asks target kind.File (fate_of c) → PlacedBy asks own target after c
    placed_looked came.Done after off look = absurd (off refl)
    placed_looked came.Failed after off look = inl look
    placed_looked came.Conflict after off look = inl look
    placed_looked came.Changed after off look = inl look

    pub placed_replaced : (r : Result Came RangeError) (after : G) → IfOk r (ReplacedBy own target after) → IfOk r (PlacedBy asks own target after)
    placed_replaced (Ok came.Done) after h = h
    placed_replaced (Ok came.Failed) after h = inr h
    placed_replaced (Ok came.Conflict) after h = inr h
    placed_replaced (Ok came.Changed) after h = inr h
    placed_replaced (Err e) after h = tt

    -- a file that was not made
    pub not_made : (area : G → Area) (count : G → ℕ) (source : List ℕ) (size : ℕ) (c : Came) (after : G) → c ≢ came.Done →
        PlacedBy asks own target after c → ShowsSpans asks own area count source target size (fate_of c)
    not_made area count source size came.Done after off h = absurd (off refl)
    not_made area count source size came.Failed after off (inl look) = by_look (λ e. cc) look
    not_made area count source size came.Failed after off (inr h) = by_refusal h
    not_made area count source size came.Conflict after off (inl look) = by_look (λ e. cc) look
    not_made area count source size came.Conflict after off (inr h) = by_refusal h
    not_made area count source size came.Changed after off (inl look) = by_look (λ e. cc) look
    not_made area count source size came.Changed after off (inr h) = by_refusal h

-- a failure is counted also after an old file was removed
pub freed_cause : (r r' : Result Came RangeError) (old mid new : ℕ) → r' ≡ freed r → old ≤ mid →
    IfOk r (λ c. c ≡ came.Failed → RoseBy 1 mid new) → IfOk r' (λ c. c ≡ came.Failed → RoseBy 1 old new)
freed_cause r r' old mid new is k h = subst (λ r. IfOk r (λ c. c ≡ came.Failed → RoseBy 1 old new)) (sym is) (by r h)
  where
    done_not : came.Done ≡ came.Failed → ⊥
    done_not e = cc

    changed_not : came.Changed ≡ came.Failed → ⊥
    changed_not e = cc

    by : (r : Result Came RangeError) → IfOk r (λ c. c ≡ came.Failed → RoseBy 1 mid new) →
        IfOk (freed r) (λ c. c ≡ came.Failed → RoseBy 1 old new)
    by (Ok came.Done) h = λ e. absurd (done_not e)
    by (Ok came.Failed) h = λ e. rose_after old mid new k (h refl)
    by (Ok came.Conflict) h = λ e. absurd (changed_not e)
    by (Ok came.Changed) h = λ e. absurd (changed_not e)
    by (Err x) h = tt

-- where a filler could not read the source, a read failed
pub unread : {T S : Type 0} (asks : Asks T) (source : List ℕ) (fillers : List (Filler T S)) → AreFreshBy asks source fillers →
    (outcome_of fillers ≡ filled.Done → ⊥) → ReadMeans asks source fate.Failed
unread asks source [] h off = absurd (off refl)
unread asks source (one ∷ rest) h off = by (unread asks source rest h.1) h.0
  where
    by : ((outcome_of rest ≡ filled.Done → ⊥) → ReadMeans asks source fate.Failed) → IsFreshBy asks source one.filled →
        ReadMeans asks source fate.Failed
    by later (inl e) = later (λ d. off (outcome_rest one rest e ∙ d))
    by later (inr r) = r

-- the work on spans

module _ {T S : Type 0} (asks : Asks T) (piece : S → Piece) (span_count : S → ℕ) (source : List ℕ) where
  abbrev AllShown : List (Filler T S) → List (Filler T S) → Type 0
  AllShown xs ys = Paired (HasShown asks piece span_count source) xs ys

  pub none_shown : (n : ℕ) (fillers : List (Filler T S)) → AreDone fillers → AreFilledBy asks source n fillers
  none_shown n [] d = tt
  none_shown n (one ∷ rest) d = (subst (FilledBy asks source n) (sym d.0) tt, none_shown n rest d.1)

  more_faults : (m n : ℕ) (f : Filled) → m ≤ n → FilledBy asks source m f → FilledBy asks source n f
  more_faults m n filled.Done l h = tt
  more_faults m n filled.Failed l (inl r) = inl r
  more_faults m n filled.Failed l (inr k) = inr (omega (arith, l, k))
  more_faults m n filled.Changed l h = h
  more_faults m n filled.Lost l h = tt

  one_failed : (load : Option (Load S)) → failures_of span_count load ≡ sum_by span_count (span_of load)
  one_failed None = refl
  one_failed (Some load) = omega (arith, sum_by-cons span_count load.span [])

  shown_all : (m n : ℕ) (xs ys : List (Filler T S)) → AllShown xs ys → m ≤ n → sum_by span_count (spans_of ys) ≤ n →
      AreFilledBy asks source m xs →
      AreFilledBy asks source n ys
  shown_all m n [] [] h l s b = tt
  shown_all m n [] (y ∷ ys) h l s b = absurd h
  shown_all m n (x ∷ xs) [] h l s b = absurd h
  shown_all m n (x ∷ xs) (y ∷ ys) h l s b =
      let spans = sum_by-append span_count (span_of y.load) (spans_of ys) in
      (by spans h.0.shown, shown_all m n xs ys h.1 l (omega (arith, s, spans)) b.1)
    where
      by : sum_by span_count (span_of y.load ++ spans_of ys) ≡ sum_by span_count (span_of y.load) + sum_by span_count (spans_of ys) →
          (y.filled ≡ x.filled) ⊎ FilledBy asks source (failures_of span_count y.load) y.filled → FilledBy asks source n y.filled
      by spans (inl e) = subst (FilledBy asks source n) (sym e) (more_faults m n x.filled l b.0)
      by spans (inr k) = more_faults (failures_of span_count y.load) n y.filled (omega (arith, s, spans, one_failed y.load)) k

  pub shown_works : (fillers fillers' : List (Filler T S)) (done : List S) → AreFilledBy asks source (sum_by span_count done) fillers →
      AllShown fillers fillers' → AreFilledBy asks source (sum_by span_count (done ++ spans_of fillers')) fillers'
  shown_works fillers fillers' done b h =
      let spans = sum_by-append span_count done (spans_of fillers') in
      shown_all (sum_by span_count done) (sum_by span_count (done ++ spans_of fillers')) fillers fillers' h (omega (arith, spans)) (omega (arith, spans)) b

  pub shown_turns : (fillers fillers' : List (Filler T S)) (done done' : List S) → map hand_of fillers' ≡ map hand_of fillers →
      done' ≡ done ++ spans_of fillers → AreFilledBy asks source (sum_by span_count (done ++ spans_of fillers)) fillers →
      AreFilledBy asks source (sum_by span_count done') fillers'
  shown_turns fillers fillers' done done' hands taken b =
      by_hands (λ hand. FilledBy asks source (sum_by span_count done') hand.1) fillers fillers' hands
      (subst (λ d. AreFilledBy asks source (sum_by span_count d) fillers) (sym taken) b)

  pub shown_ends : (fillers : List (Filler T S)) (done : List S) → spans_of fillers ≡ [] →
      AreFilledBy asks source (sum_by span_count (done ++ spans_of fillers)) fillers → AreFilledBy asks source (sum_by span_count done) fillers
  shown_ends fillers done none b =
      subst (λ d. AreFilledBy asks source (sum_by span_count d) fillers) (ap (λ s. done ++ s) none ∙ append-nil done) b

  -- the ranges that were read

  -- where no work has come to anything but `Done`, the ranges of these spans were read
  abbrev pub SoFarRead : List (Filler T S) → List S → Type 0
  SoFarRead fillers spans = AreDone fillers → AreRead asks piece source spans

  pub read_starts : (fillers : List (Filler T S)) (done : List S) → AreIdle fillers → done ≡ [] → SoFarRead fillers (done ++ spans_of fillers)
  read_starts fillers done idle empty =
      let none = idle_none fillers idle in
      λ d. subst (AreRead asks piece source) (λ i. sym empty i ++ sym none i) tt

  pub read_turns : (fillers fillers' : List (Filler T S)) (done done' : List S) → map hand_of fillers' ≡ map hand_of fillers →
      done' ≡ done ++ spans_of fillers → SoFarRead fillers (done ++ spans_of fillers) → SoFarRead fillers' done'
  read_turns fillers fillers' done done' hands taken r = λ d.
      subst (AreRead asks piece source) (sym taken) (r (by_hands (λ hand. hand.1 ≡ filled.Done) fillers' fillers (sym hands) d))

  done_before : (xs ys : List (Filler T S)) → AllShown xs ys → AreDone ys → AreDone xs
  done_before [] [] h d = tt
  done_before [] (y ∷ ys) h d = absurd h
  done_before (x ∷ xs) [] h d = absurd h
  done_before (x ∷ xs) (y ∷ ys) h d = (h.0.done d.0, done_before xs ys h.1 d.1)

  own_read : (xs ys : List (Filler T S)) → AllShown xs ys → AreDone ys → AreRead asks piece source (spans_of ys)
  own_read [] [] h d = tt
  own_read [] (y ∷ ys) h d = absurd h
  own_read (x ∷ xs) [] h d = absurd h
  own_read (x ∷ xs) (y ∷ ys) h d =
      all_join (λ s. IsRead asks source (piece s)) (span_of y.load) (spans_of ys) (h.0.read d.0) (own_read xs ys h.1 d.1)

  pub read_works : (fillers fillers' : List (Filler T S)) (done : List S) → SoFarRead fillers done → AllShown fillers fillers' →
      SoFarRead fillers' (done ++ spans_of fillers')
  read_works fillers fillers' done r h = λ d.
      all_join (λ s. IsRead asks source (piece s)) done (spans_of fillers') (r (done_before fillers fillers' h d)) (own_read fillers fillers' h d)

  pub read_ends : (fillers : List (Filler T S)) (done : List S) → spans_of fillers ≡ [] → SoFarRead fillers (done ++ spans_of fillers) →
      SoFarRead fillers done
  read_ends fillers done none r = λ d. subst (AreRead asks piece source) (ap (λ s. done ++ s) none ∙ append-nil done) (r d)

  -- each cut but the first is the end of a range
  read_from : (path : List ℕ) (at : ℕ) (cuts : List ℕ) (done : List S) → map piece done ≡ pieces_from path at cuts →
      ascends_above at cuts ≡ true →
      AreRead asks piece source done → AllByRecursion (IsReadTo asks source) cuts
  read_from path at [] done e a h = tt
  read_from path at (cut ∷ cuts) [] e a h = cc
  read_from path at (cut ∷ cuts) (s ∷ done) e a h =
      let up = and_parts (nat_lt at cut) (ascends_above cut cuts) a in
      let here = head_of (piece s) (record { path = path; start = at; size = cut - at }) (map piece done) (pieces_from path cut cuts) e in
      let rest = tail_of (piece s) (record { path = path; start = at; size = cut - at }) (map piece done) (pieces_from path cut cuts) e in
      (by (ltb-true at cut up.0) (subst (IsRead asks source) here h.0), read_from path cut cuts done rest up.1 h.1)
    where
      by : at < cut → (cut - at ≡ 0) ⊎ IsReadTo asks source (at + (cut - at)) → IsReadTo asks source cut
      by l (inl z) = absurd (omega (arith, l, z))
      by l (inr r) = let there : at + (cut - at) ≡ cut = omega (arith, l) in subst (IsReadTo asks source) there r

  pub read_cuts : (path cuts : List ℕ) (done : List S) → map piece done ≡ pieces path cuts → are_cuts cuts ≡ true →
      AreRead asks piece source done →
      AllByRecursion (IsReadTo asks source) (drop 1 cuts)
  read_cuts path [] done e a h = absurd (false≢true a)
  read_cuts path (first ∷ []) done e a h = absurd (false≢true a)
  read_cuts path (first ∷ second ∷ cuts) done e a h =
      read_from path first (second ∷ cuts) done e (and_parts (first == 0) (ascends_above first (second ∷ cuts)) a).1 h

-- the cuts end at the size

front_of : (at size : ℕ) (cuts : List ℕ) → last_of at cuts ≡ size → (front : List ℕ) × (at ∷ cuts ≡ front ++ size ∷ [])
front_of at size [] e = ([], ap (λ n. n ∷ []) e)
front_of at size (cut ∷ cuts) e = let r = front_of cut size cuts e in (at ∷ r.0, ap (λ l. at ∷ l) r.1)

pub ends_at : (size : ℕ) (cuts : List ℕ) → are_cuts cuts ≡ true → end_of cuts ≡ size → (front : List ℕ) × (cuts ≡ front ++ size ∷ [])
ends_at size [] a e = absurd (false≢true a)
ends_at size (first ∷ cuts) a e = front_of first size cuts e

-- what the work of all shows

pub rose_back : (faults old mid new : ℕ) → 1 ≤ faults → old ≤ mid → mid ≤ new → new ≡ capped mid faults → RoseBy 1 old new
rose_back faults old mid new some kept rises is = record { kept = omega (arith, kept, rises); rose = omega (arith, some, kept, is) }

pub outcome_shown : {T S : Type 0} (asks : Asks T) (source : List ℕ) (n : ℕ) (fillers : List (Filler T S)) → AreFilledBy asks source n fillers →
    FilledBy asks source n (outcome_of fillers)
outcome_shown asks source n fillers h = outcome_by (FilledBy asks source n) fillers tt h

module _ {R G : Type 0} (asks : Asks R) (own : Writes G) (area : G → Area) (count : G → ℕ) (source target : List ℕ) (size : ℕ) where
  -- the ground was given all spans back
  pub was_spanned : (made out : G) (cuts : List ℕ) → IsWritten own target asked.make_file made → cuts_in target (area out) ≡ Some cuts →
      are_cuts cuts ≡ true → end_of cuts ≡ size → AllByRecursion (IsReadTo asks source) (drop 1 cuts) →
      WasSpanned asks own area source target size
  was_spanned made out cuts written lent are whole read = record {
    made = record { after = made; written = written };
    out = out;
    cuts = cuts;
    lent = lent;
    are = are;
    front = (ends_at size cuts are whole).0;
    ends = (ends_at size cuts are whole).1;
    read = All-from_recursion (IsReadTo asks source) (drop 1 cuts) read;
  }

  pub spans_shown : (faults : ℕ) (f : Filled) (r : Result Came RangeError) → r ≡ came_of f → FilledBy asks source faults f →
      (f ≡ filled.Done → WasSpanned asks own area source target size) → (1 ≤ faults → SpansFailed own count target) →
      IfOk r (λ c. ShowsSpans asks own area count source target size (fate_of c))
  spans_shown faults f r is shown whole lost =
      subst (λ r. IfOk r (λ c. ShowsSpans asks own area count source target size (fate_of c))) (sym is) (by f shown whole)
    where
      by : (f : Filled) → FilledBy asks source faults f → (f ≡ filled.Done → WasSpanned asks own area source target size) →
          IfOk (came_of f) (λ c. ShowsSpans asks own area count source target size (fate_of c))
      by filled.Done shown whole = by_spans refl (whole refl)
      by filled.Failed (inl read) whole = by_read read
      by filled.Failed (inr some) whole = by_count refl (lost some)
      by filled.Changed read whole = by_read read
      by filled.Lost shown whole = tt

  -- the cause of a large file
  pub cause_there : {S : Type 0} (gives : Writes S) (pairs : List Pair) (piece : ℕ) (e : Entry) (f : Fate) → exceeds piece e ≡ true →
      source ≡ e.path → target ≡ target_of pairs e.path → size ≡ size_by e.stat → ShowsSpans asks own area count source target size f →
      HasCause asks gives own area count pairs e f
  cause_there gives pairs piece e f big s t n h = λ on. inr (
    is_file_of piece e big,
    subst (λ s. ShowsSpans asks own area count s (target_of pairs e.path) (size_by e.stat) f) s
        (subst (λ t. ShowsSpans asks own area count source t (size_by e.stat) f) t
        (subst (λ n. ShowsSpans asks own area count source target n f) n h)),
  )
